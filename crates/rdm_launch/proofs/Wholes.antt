-- What handled datagrams, that were pushed and are apart, say of their log.
use Rattle.std.proofs.Common.{◌≡◌, ℕ, zero, suc, ◌<◌, Bool, Some, length, true, false, cond, List, [], ◌∷◌, ◌++◌, refl, ap, sym, ◌∙◌, subst, inl, inr, arith, eq-eqb, eqb-true, append-nil}
use Rattle.std.specs.Prelude.{◌==◌, slice_get}
use Rattle.rdm_lists.specs.Lists.{Member}
use Rattle.rdm_lists.proofs.Members.{member-append_right, member-append_cases, filter-member}
use Rattle.rdm_num.specs.declared.numbers.PortNo.{PortNo}
use Rattle.rdm_num.specs.declared.numbers.DatagramNo.{DatagramNo}
use Rattle.rdm_wire.specs.declared.Datagram.{Datagram}
use Rattle.rdm_inbox.specs.Senders.{from_port}
use Rattle.rdm_model.specs.declared.entry.Entry.{Entry}
use Rattle.rdm_model.specs.declared.entry.Act.{Act}
use Rattle.rdm_model.specs.Wire.{PushedIn, IsOther, IsUnhandled}
use Rattle.rdm_law.specs.Worlds.{WasPushed, TookOnce}
use Rattle.rdm_law.proofs.Played.Apart.{AreApart, DiffersFrom, apart_push}
use Rattle.rdm_law.proofs.Played.Delivers.{IsNumbered, AreNumbered, pushed_below}
use Rattle.rdm_launch.specs.Logs.{pushed_by, pushed_to, handled_by, handled_in}

-- the element at a place of a list
pub element_at : {A : Type 0} (xs : List A) (i : ℕ) → i < length xs → (x : A) × (slice_get xs i ≡ Some x)
element_at [] i h = absurd (omega arith)
element_at (x ∷ xs) zero h = (x, refl)
element_at (x ∷ xs) (suc i) h = element_at xs i (omega arith)

-- what a log pushed to a port was pushed in it, to that port
pushed_act : (to : ℕ) (act : Act) (d : Datagram) → Member d (pushed_by to act) → (act ≡ Act.Push d) × (d.dst.0 ≡ to)
unfolding pushed_by
pushed_act to (Act.Next index op answer) d m = elim m [ ]
pushed_act to (Act.Push q) d m =
    (elim (to == q.dst.0) as (λ b. (to == q.dst.0) ≡ b → Member d (cond b (q ∷ []) []) → (Act.Push q ≡ Act.Push d) × (d.dst.0 ≡ to)) [
      | true ↦ λ is k. elim k [ inl e ↦ (ap (λ (x : Datagram). Act.Push x) e, ap (λ (x : Datagram). x.dst.0) (sym e) ∙ sym (eqb-true to q.dst.0 is)) | inr never ↦ elim never [ ] ]
      | false ↦ λ is k. elim k [ ]
    ]) refl m
pushed_act to (Act.Handle q answer) d m = elim m [ ]
pushed_act to (Act.Poll c) d m = elim m [ ]

pub pushed_in : (to : ℕ) (log : List Entry) (d : Datagram) → Member d (pushed_to to log) → PushedIn d log × (d.dst.0 ≡ to)
unfolding pushed_to
pushed_in to [] d m = elim m [ ]
pushed_in to (e ∷ before) d m =
    elim (member-append_cases d (pushed_to to before) (pushed_by to e.act) m) [
      | inl k ↦ let r = pushed_in to before d k in (inr r.0, r.1)
      | inr k ↦ let r = pushed_act to e.act d k in (inl r.0, r.1)
    ]

-- a push with the next number differs from those before it
next_differs : (port to : ℕ) (before : List Entry) (d : Datagram) → AreNumbered port before → IsNumbered port before (Act.Push d) → DiffersFrom d (pushed_to to before)
next_differs port to before d n mine q m s e =
    let below = (pushed_below port before q n (pushed_in to before q m).0).1 in
    let same : q.number.0 ≡ d.number.0 = ap (λ (x : DatagramNo). x.0) e in
    let own = mine.1 in
    absurd (omega arith)

-- the pushes of a port are apart
apart_act : (port to : ℕ) (before : List Entry) (act : Act) → AreNumbered port before → IsNumbered port before act → AreApart (pushed_to to before) → AreApart (pushed_to to before ++ pushed_by to act)
unfolding pushed_by
apart_act port to before (Act.Next index op answer) n mine a = subst AreApart (sym (append-nil (pushed_to to before))) a
apart_act port to before (Act.Push d) n mine a =
    elim (to == d.dst.0) as (λ b. AreApart (pushed_to to before ++ cond b (d ∷ []) [])) [
      | true ↦ apart_push (pushed_to to before) d a (next_differs port to before d n mine)
      | false ↦ subst AreApart (sym (append-nil (pushed_to to before))) a
    ]
apart_act port to before (Act.Handle d answer) n mine a = subst AreApart (sym (append-nil (pushed_to to before))) a
apart_act port to before (Act.Poll c) n mine a = subst AreApart (sym (append-nil (pushed_to to before))) a

pub pushed_apart : (port to : ℕ) (log : List Entry) → AreNumbered port log → AreApart (pushed_to to log)
unfolding pushed_to
pushed_apart port to [] n = tt
pushed_apart port to (e ∷ before) n = apart_act port to before e.act n.0 n.1 (pushed_apart port to before n.0)

-- datagrams are apart where those of each source are
pub apart_by_source : (n : ℕ) (ds : List Datagram) → ((d : Datagram) → Member d ds → d.src.0 < n) → ((from : ℕ) → from < n → AreApart (from_port from ds)) → AreApart ds
apart_by_source n [] low each = tt
apart_by_source n (d ∷ ds) low each = (
  (λ q m s.
      let here : (d.src.0 == d.src.0) ≡ true = eq-eqb d.src.0 d.src.0 refl in
      let own : AreApart (d ∷ from_port d.src.0 ds) =
      subst (λ (b : Bool). AreApart (cond b (d ∷ from_port d.src.0 ds) (from_port d.src.0 ds))) here (each d.src.0 (low d (inl refl))) in
      own.0 q (filter-member (λ (x : Datagram). x.src.0 == d.src.0) q ds m (eq-eqb q.src.0 d.src.0 (ap (λ (p : PortNo). p.0) s))) s),
  apart_by_source n ds (λ q m. low q (inr m)) (λ from lt. tail_apart (d.src.0 == from) (from_port from ds) (each from lt)),
)
  where
    tail_apart : (b : Bool) (rest : List Datagram) → AreApart (cond b (d ∷ rest) rest) → AreApart rest
    tail_apart true rest a = a.1
    tail_apart false rest a = a

-- a datagram that differs from all that were handled was not handled
other_act : (d : Datagram) (act : Act) (rest : List Datagram) → DiffersFrom d (handled_by act ++ rest) → IsOther d act
unfolding handled_by
other_act d (Act.Next index op answer) rest f = tt
other_act d (Act.Push q) rest f = tt
other_act d (Act.Handle q answer) rest f = f q (inl refl)
other_act d (Act.Poll c) rest f = tt

pub unhandled : (d : Datagram) (log : List Entry) → DiffersFrom d (handled_in log) → IsUnhandled d log
unfolding handled_in
unhandled d [] f = tt
unhandled d (e ∷ before) f =
    (unhandled d before (λ q m. f q (member-append_right q (handled_by e.act) (handled_in before) m)), other_act d e.act (handled_in before) f)

-- the handled datagrams were pushed to the port
abbrev pub WerePushed : (ℕ → List Entry) → ℕ → List Datagram → Type 0
WerePushed logs port ds = (d : Datagram) → Member d ds → (d.dst.0 ≡ port) × PushedIn d (logs d.src.0)

-- what an act handled was pushed, and not handled before
took_act : (logs : ℕ → List Entry) (port : ℕ) (before : List Entry) (act : Act) → WerePushed logs port (handled_by act ++ handled_in before) → AreApart (handled_by act ++ handled_in before)
    → WasPushed logs port before act × AreApart (handled_in before)
unfolding handled_by
took_act logs port before (Act.Next index op answer) h a = (tt, a)
took_act logs port before (Act.Push d) h a = (tt, a)
took_act logs port before (Act.Handle d answer) h a = let r = h d (inl refl) in ((r.0, r.1, unhandled d before a.0), a.1)
took_act logs port before (Act.Poll c) h a = (tt, a)

pub took_once : (logs : ℕ → List Entry) (port : ℕ) (log : List Entry) → WerePushed logs port (handled_in log) → AreApart (handled_in log) → TookOnce logs port log
unfolding handled_in
took_once logs port [] h a = tt
took_once logs port (e ∷ before) h a =
    let r = took_act logs port before e.act h a in
    (took_once logs port before (λ d m. h d (member-append_right d (handled_by e.act) (handled_in before) m)) r.1, r.0)
