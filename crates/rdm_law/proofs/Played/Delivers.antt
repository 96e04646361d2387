-- Inboxes that keep what was pushed: what waits for a port is what was pushed to it and not handled, each datagram once.
use Rattle.std.proofs.Common.{◌≡◌, ℕ, ◌+◌, ◌<◌, List, [], ◌∷◌, arith, ◌⊎◌, inl, inr, sym, ◌∙◌, ap, subst}
use Rattle.rdm_lists.specs.Lists.{Member}
use Rattle.rdm_wire.specs.declared.Datagram.{Datagram}
use Rattle.rdm_model.specs.declared.answer.Handled.TheVariants.{Took as TookAnswer}
use Rattle.rdm_model.specs.declared.entry.Entry.{Entry}
use Rattle.rdm_model.specs.declared.entry.Act.{Act}
use Rattle.rdm_model.specs.declared.entry.Act.TheVariants.{Next, Push, Handle, Poll}
use Rattle.rdm_model.specs.Steps.{count, pushes_by}
use Rattle.rdm_model.specs.Wire.{PushedIn, IsOther, IsUnhandled}
use Rattle.rdm_model.specs.Worlds.{put_at}
use Rattle.rdm_law.specs.Worlds.{WasPushed, TookOnce}
use Rattle.rdm_law.proofs.Played.Apart.{put_at_case, AreApart}
use Rattle.rdm_law.proofs.Accounts.Wired.{HandledIn}

-- a push of the port has the next number
abbrev pub IsNumbered : ℕ → List Entry → Act → Type 0
IsNumbered port before (Push d) = (d.src.0 ≡ port) × (d.number.0 ≡ count pushes_by before)
IsNumbered port before _ = Unit {0}

-- the pushes of a port have its number, and are numbered from 0
abbrev pub AreNumbered : ℕ → List Entry → Type 0
AreNumbered port [] = Unit {0}
AreNumbered port (e ∷ before) = AreNumbered port before × IsNumbered port before e.act

-- what a port took was for it, and was pushed
pub handled_waited : (logs : ℕ → List Entry) (port : ℕ) (q : Datagram) (log : List Entry) → TookOnce logs port log → HandledIn q log → (q.dst.0 ≡ port) × PushedIn q (logs q.src.0)
handled_waited logs port q [] h k = elim k [ ]
handled_waited logs port q (e ∷ before) h (inl k) =
    let P : Act → Type 0 = λ act. WasPushed logs port before act in
    let had : WasPushed logs port before (Handle q (TookAnswer k.0)) = subst P k.1 h.1 in
    (had.0, had.1)
handled_waited logs port q (e ∷ before) h (inr k) = handled_waited logs port q before h.0 k

-- a datagram is for the port, was pushed by its source, and was not handled
pub record Waits (logs : ℕ → List Entry) (port : ℕ) (d : Datagram) : Type 0 where
  pub for_it : d.dst.0 ≡ port
  pub pushed : PushedIn d (logs d.src.0)
  pub fresh : IsUnhandled d (logs port)

-- what waits for each port is what was pushed to it and not handled, each datagram once
pub record Delivers (logs : ℕ → List Entry) (waiting : ℕ → List Datagram) : Type 0 where
  pub numbered : (port : ℕ) → AreNumbered port (logs port)
  pub handled : (port : ℕ) → TookOnce logs port (logs port)
  pub waits : (port : ℕ) (d : Datagram) → Member d (waiting port) → Waits logs port d
  pub apart : (port : ℕ) → AreApart (waiting port)
  pub arrives : (d : Datagram) → PushedIn d (logs d.src.0) → IsUnhandled d (logs d.dst.0) → Member d (waiting d.dst.0)

-- the count goes on by one with a push
below_push : (n : ℕ) (d : Datagram) → d.number.0 ≡ n → d.number.0 < n + pushes_by (Push d)
unfolding pushes_by
below_push n d h = omega arith

-- a pushed datagram has the port's number, and a number below the count of pushes
pub pushed_below : (port : ℕ) (log : List Entry) (d : Datagram) → AreNumbered port log → PushedIn d log → (d.src.0 ≡ port) × (d.number.0 < count pushes_by log)
unfolding count
pushed_below port [] d n h = elim h [ ]
pushed_below port (e ∷ before) d n (inl is) =
    let P : Act → Type 0 = λ act. IsNumbered port before act in
    let Q : Act → Type 0 = λ act. d.number.0 < count pushes_by before + pushes_by act in
    let mine : IsNumbered port before (Push d) = subst P is n.1 in
    let last : d.number.0 < count pushes_by before + pushes_by (Push d) = below_push (count pushes_by before) d mine.1 in
    (mine.0, subst Q (sym is) last)
pushed_below port (e ∷ before) d n (inr h) =
    let r = pushed_below port before d n.0 h in
    (r.0, omega arith)

-- datagrams of one source and number are one
pub pushed_once : (port : ℕ) (log : List Entry) (d q : Datagram) → AreNumbered port log → PushedIn d log → PushedIn q log → d.number ≡ q.number → d ≡ q
unfolding count
pushed_once port [] d q n h k e = elim h [ ]
pushed_once port (x ∷ before) d q n (inl is) (inl is') e = let f : Push d ≡ Push q = sym is ∙ is' in cc
pushed_once port (x ∷ before) d q n (inl is) (inr k) e =
    let P : Act → Type 0 = λ act. IsNumbered port before act in
    let mine : IsNumbered port before (Push d) = subst P is n.1 in
    let r = pushed_below port before q n.0 k in
    let f : d.number.0 ≡ q.number.0 = ap (λ x. x.0) e in
    absurd (omega arith)
pushed_once port (x ∷ before) d q n (inr h) (inl is) e =
    let P : Act → Type 0 = λ act. IsNumbered port before act in
    let mine : IsNumbered port before (Push q) = subst P is n.1 in
    let r = pushed_below port before d n.0 h in
    let f : d.number.0 ≡ q.number.0 = ap (λ x. x.0) e in
    absurd (omega arith)
pushed_once port (x ∷ before) d q n (inr h) (inr k) e = pushed_once port before d q n.0 h k e

-- the logs with one more entry of a port
abbrev pub more_logs : (ℕ → List Entry) → ℕ → Entry → ℕ → List Entry
more_logs logs port e = put_at port (e ∷ logs port) logs

-- what was pushed stays pushed
pub pushed_still : (logs : ℕ → List Entry) (port : ℕ) (e : Entry) (d : Datagram) (p : ℕ) → PushedIn d (logs p) → PushedIn d (more_logs logs port e p)
pushed_still logs port e d p h =
    put_at_case (λ (log : List Entry). PushedIn d log) port (e ∷ logs port) logs p
    (λ is. inr (subst (λ (x : ℕ). PushedIn d (logs x)) is h)) (λ other. h)

-- what was pushed was pushed before, or is the new entry's datagram
pub pushed_before : (logs : ℕ → List Entry) (port : ℕ) (e : Entry) (d : Datagram) (p : ℕ) → PushedIn d (more_logs logs port e p)
    → ((p ≡ port) × (e.act ≡ Push d)) ⊎ PushedIn d (logs p)
pushed_before logs port e d p =
    put_at_case (λ (log : List Entry). PushedIn d log → ((p ≡ port) × (e.act ≡ Push d)) ⊎ PushedIn d (logs p)) port (e ∷ logs port) logs p
    (λ is h. elim h [ inl now ↦ inl (is, now) | inr k ↦ inr (subst (λ (x : ℕ). PushedIn d (logs x)) (sym is) k) ]) (λ other h. inr h)

-- what had waited still had, by longer logs
had_waited_still : (logs : ℕ → List Entry) (port : ℕ) (e : Entry) (p : ℕ) (before : List Entry) (act : Act) → WasPushed logs p before act
    → WasPushed (more_logs logs port e) p before act
had_waited_still logs port e p before (Handle d answer) h = (h.0, pushed_still logs port e d d.src.0 h.1, h.2)
had_waited_still logs port e p before (Next index op answer) h = tt
had_waited_still logs port e p before (Push d) h = tt
had_waited_still logs port e p before (Poll c) h = tt

-- so of a whole log
all_had_waited_still : (logs : ℕ → List Entry) (port : ℕ) (e : Entry) (p : ℕ) (log : List Entry) → TookOnce logs p log → TookOnce (more_logs logs port e) p log
all_had_waited_still logs port e p [] h = tt
all_had_waited_still logs port e p (x ∷ before) h =
    (all_had_waited_still logs port e p before h.0, had_waited_still logs port e p before x.act h.1)

-- the logs' own part of the record, after an entry
pub more_numbered : (logs : ℕ → List Entry) (port : ℕ) (e : Entry) → ((p : ℕ) → AreNumbered p (logs p)) → IsNumbered port (logs port) e.act
    → (p : ℕ) → AreNumbered p (more_logs logs port e p)
more_numbered logs port e n new p =
    put_at_case (λ (log : List Entry). AreNumbered p log) port (e ∷ logs port) logs p
    (λ is. subst (λ (x : ℕ). AreNumbered x (e ∷ logs port)) (sym is) (n port, new)) (λ other. n p)

-- each log's handled datagrams had waited, with one more entry
pub more_handled : (logs : ℕ → List Entry) (port : ℕ) (e : Entry) → ((p : ℕ) → TookOnce logs p (logs p)) → WasPushed logs port (logs port) e.act
    → (p : ℕ) → TookOnce (more_logs logs port e) p (more_logs logs port e p)
more_handled logs port e n new p =
    put_at_case (λ (log : List Entry). TookOnce (more_logs logs port e) p log) port (e ∷ logs port) logs p
    (λ is. subst (λ (x : ℕ). TookOnce (more_logs logs port e) x (e ∷ logs port)) (sym is)
    (all_had_waited_still logs port e port (logs port) (n port), had_waited_still logs port e port (logs port) e.act new))
    (λ other. all_had_waited_still logs port e p (logs p) (n p))

-- a datagram that the new entry doesn't handle stays unhandled
pub unhandled_still : (logs : ℕ → List Entry) (port : ℕ) (e : Entry) (d : Datagram) (p : ℕ) → (p ≡ port → IsOther d e.act) → IsUnhandled d (logs p)
    → IsUnhandled d (more_logs logs port e p)
unhandled_still logs port e d p other h =
    put_at_case (λ (log : List Entry). IsUnhandled d log) port (e ∷ logs port) logs p
    (λ is. (subst (λ (x : ℕ). IsUnhandled d (logs x)) is h, other is)) (λ no. h)

-- a datagram that is unhandled now was so before, and is none that the new entry handles
pub unhandled_before : (logs : ℕ → List Entry) (port : ℕ) (e : Entry) (d : Datagram) (p : ℕ) → IsUnhandled d (more_logs logs port e p)
    → IsUnhandled d (logs p) × (p ≡ port → IsOther d e.act)
unhandled_before logs port e d p =
    put_at_case (λ (log : List Entry). IsUnhandled d log → IsUnhandled d (logs p) × (p ≡ port → IsOther d e.act)) port (e ∷ logs port) logs p
    (λ is h. (subst (λ (x : ℕ). IsUnhandled d (logs x)) (sym is) h.0, λ here. h.1)) (λ no h. (h, λ here. absurd (no here)))
