-- The numbers of sends, and of the messages that they make.
use Rattle.std.proofs.Common.{◌≡◌, ℕ, ◌+◌, ◌-◌, ◌<◌, ◌≤◌, Bool, cond, List, [], ◌∷◌, ◌++◌, length, Option, Some, None, refl, arith, ◌⊎◌, inl, inr, sym, ◌∙◌, ap, subst}
use Rattle.std.specs.Prelude.{slice_get, filter, is_some}
use Rattle.std.proofs.lemmas.List.{append-nil}
use Rattle.std.proofs.lemmas.Option.{slice_get_within}
use Rattle.std.proofs.lemmas.List.Elements.{filter-append}
use Rattle.rdm_lists.specs.Lists.{Member}
use Rattle.rdm_num.specs.Lives.{same_life, op_id}
use Rattle.rdm_num.specs.declared.numbers.Life.{Life}
use Rattle.rdm_num.specs.declared.request.SendReq.{SendReq}
use Rattle.rdm_pkt.specs.Choice.{choose}
use Rattle.rdm_model.specs.declared.job.Instr.TheVariants.{Send}
use Rattle.rdm_model.specs.Beginnings.{Own, Messages}
use Rattle.rdm_model.specs.Deeds.{Deed, Did}
use Rattle.rdm_model.specs.Currents.{current}
use Rattle.rdm_model.specs.Regions.{regions}
use Rattle.rdm_model.specs.Sends.{Sent, sends_to, known_word, wants_raw, opt_for, new_sent, sent_to_current, read_list, bytes_of, sent_by, with_sent, sends}
use Rattle.rdm_lists.proofs.Members.{member-append_cases}
use Rattle.rdm_lists.proofs.Places.{slice_get-append, slice_get_seam}
use Rattle.rdm_num.proofs.Lives.{same_life-refl}

-- a send that a deed makes: it goes to the current life of its port, and has the bytes of its ranges
pub record NewSent (own : Own) (ms : Messages) (before : List Deed) (sents : List Sent) (d : Deed) (s : Sent) : Type 0 where
  pub req : SendReq
  pub to : Life
  pub by : d ≡ Did (Send req)
  pub current : current before req.to.0 ≡ Some to
  pub is : s ≡ new_sent own (known_word before to) (length sents) (length (sends_to sents to)) req to (bytes_of (regions own.limits.first ms before) req.parts)

-- a send to the current life is the only one
sent_to_is : (own : Own) (before : List Deed) (sents : List Sent) (req : SendReq) (o : Option Life) (bytes : List ℕ)
    → (sent_to_current own before sents req o bytes ≡ [])
    ⊎ ((to : Life) × (o ≡ Some to) × (sent_to_current own before sents req o bytes ≡ new_sent own (known_word before to) (length sents) (length (sends_to sents to)) req to bytes ∷ []))
unfolding sent_to_current
sent_to_is own before sents req None bytes = inl refl
sent_to_is own before sents req (Some to) bytes = inr (to, refl, refl)

-- a deed makes one send or none
pub sent_by_is : (own : Own) (ms : Messages) (before : List Deed) (sents : List Sent) (d : Deed)
    → (sent_by own ms before sents d ≡ []) ⊎ ((s : Sent) × NewSent own ms before sents d s × (sent_by own ms before sents d ≡ s ∷ []))
unfolding sent_by
sent_by_is own ms before sents (Did (Send req)) =
    elim (sent_to_is own before sents req (current before req.to.0) (bytes_of (regions own.limits.first ms before) req.parts)) [
      | inl a ↦ inl a
      | inr a ↦ inr (_, record { req = req; to = a.0; by = refl; current = a.1; is = refl }, a.2)
    ]
sent_by_is own ms before sents _ = inl refl

-- the sends after a deed: those before, or one more
pub sends_step : (own : Own) (ms : Messages) (d : Deed) (before : List Deed)
    → (sends own ms (d ∷ before) ≡ sends own ms before)
    ⊎ ((s : Sent) × NewSent own ms before (sends own ms before) d s × (sends own ms (d ∷ before) ≡ sends own ms before ++ s ∷ []))
unfolding sends with_sent
sends_step own ms d before =
    elim (sent_by_is own ms before (sends own ms before) d) [
      | inl a ↦ inl (ap (λ (xs : List Sent). sends own ms before ++ xs) a ∙ append-nil (sends own ms before))
      | inr a ↦ inr (a.0, a.1, ap (λ (xs : List Sent). sends own ms before ++ xs) a.2)
    ]

-- what holds of the sends before a deed and of the one that it makes holds of the sends after it
pub sends_keep : (own : Own) (ms : Messages) (d : Deed) (before : List Deed) (P : List Sent → Sent → Type 0)
    → ((s : Sent) → Member s (sends own ms before) → P (sends own ms before) s)
    → ((s t : Sent) → Member s (sends own ms before) → NewSent own ms before (sends own ms before) d t → P (sends own ms before) s → P (sends own ms before ++ t ∷ []) s)
    → ((t : Sent) → NewSent own ms before (sends own ms before) d t → P (sends own ms before ++ t ∷ []) t)
    → (s : Sent) → Member s (sends own ms (d ∷ before)) → P (sends own ms (d ∷ before)) s
sends_keep own ms d before P old more new s m =
    let now = sends own ms (d ∷ before) in
    let was = sends own ms before in
    elim (sends_step own ms d before) [
      | inl a ↦ subst (λ (xs : List Sent). P xs s) (sym a) (old s (subst (λ (xs : List Sent). Member s xs) a m))
      | inr a ↦ subst (λ (xs : List Sent). P xs s) (sym a.2) (elim (member-append_cases s was (a.0 ∷ []) (subst (λ (xs : List Sent). Member s xs) a.2 m)) [
        | inl b ↦ more s a.0 b a.1 (old s b)
        | inr b ↦ elim b [
          | inl same ↦ subst (λ (x : Sent). P (was ++ a.0 ∷ []) x) same (new a.0 a.1)
          | inr never ↦ elim never [ ]
        ]
      ])
    ]

-- the number of a new send is how many there were
pub new_number : (own : Own) (ms : Messages) (before : List Deed) (sents : List Sent) (d : Deed) (s : Sent) → NewSent own ms before sents d s → s.number ≡ length sents
unfolding new_sent
new_number own ms before sents d s n = ap (λ (x : Sent). x.number) n.is

-- a send stands at its number
pub send_at : (own : Own) (ms : Messages) (log : List Deed) (s : Sent) → Member s (sends own ms log) → slice_get (sends own ms log) s.number ≡ Some s
unfolding sends
send_at own ms [] s m = elim m [ ]
send_at own ms (d ∷ before) s m =
    sends_keep own ms d before (λ xs x. slice_get xs x.number ≡ Some x)
    (λ x k. send_at own ms before x k)
    (λ x t k n was. slice_get-append (sends own ms before) (t ∷ []) x.number x was)
    (λ t n. ap (λ (k : ℕ). slice_get (sends own ms before ++ t ∷ []) k) (new_number own ms before (sends own ms before) d t n) ∙ slice_get_seam (sends own ms before) t [])
    s m

-- sends of one number are one
pub sends_one : (own : Own) (ms : Messages) (log : List Deed) (s t : Sent) → Member s (sends own ms log) → Member t (sends own ms log) → s.number ≡ t.number → s ≡ t
sends_one own ms log s t m k e =
    let a = send_at own ms log s m in
    let b : slice_get (sends own ms log) s.number ≡ Some t = rw e (send_at own ms log t k) in
    cc

-- a send has a number below the count
pub send_below : (own : Own) (ms : Messages) (log : List Deed) (s : Sent) → Member s (sends own ms log) → s.number < length (sends own ms log)
send_below own ms log s m = slice_get_within (sends own ms log) s.number s (send_at own ms log s m)

-- a message of a new send has the next number to its life
pub new_placed : (own : Own) (before : List Deed) (sents : List Sent) (n : ℕ) (req : SendReq) (to : Life) (bytes : List ℕ) (s : Sent)
    → s ≡ new_sent own (known_word before to) n (length (sends_to sents to)) req to bytes
    → (s.to ≡ to) × (s.message.no.0 ≡ own.limits.first + length (sends_to sents s.to))
unfolding new_sent
new_placed own before sents n req to bytes s e =
    let t : s.to ≡ to = ap (λ (x : Sent). x.to) e in
    (t, ap (λ (x : Sent). x.message.no.0) e ∙ ap (λ (x : Life). own.limits.first + length (sends_to sents x)) (sym t))

-- the message of a send has the number of its place among the sends to its life
abbrev pub Placed : Own → List Sent → Sent → Type 0
Placed own sents s = (own.limits.first ≤ s.message.no.0) × (slice_get (sends_to sents s.to) (s.message.no.0 - own.limits.first) ≡ Some s)

-- one send more, to its own life
sends_to_more : (sents : List Sent) (s : Sent) → sends_to (sents ++ s ∷ []) s.to ≡ sends_to sents s.to ++ s ∷ []
unfolding sends_to
sends_to_more sents s =
    filter-append (λ (x : Sent). same_life x.to s.to) sents (s ∷ [])
    ∙ ap (λ (b : Bool). filter (λ (x : Sent). same_life x.to s.to) sents ++ cond b (s ∷ []) []) (same_life-refl s.to)

-- the sends to a life, with one more
pub sends_to_append : (sents : List Sent) (t : Sent) (to : Life) → sends_to (sents ++ t ∷ []) to ≡ sends_to sents to ++ sends_to (t ∷ []) to
unfolding sends_to
sends_to_append sents t to = filter-append (λ (x : Sent). same_life x.to to) sents (t ∷ [])

-- a send that comes last stands at its place
placed_at : (own : Own) (sents : List Sent) (s : Sent) → s.message.no.0 ≡ own.limits.first + length (sends_to sents s.to) → Placed own (sents ++ s ∷ []) s
placed_at own sents s e =
    let k : s.message.no.0 - own.limits.first ≡ length (sends_to sents s.to) = omega arith in
    (omega arith, rw (k, sends_to_more sents s) (slice_get_seam (sends_to sents s.to) s []))

-- each message has the number of its place
pub placed : (own : Own) (ms : Messages) (log : List Deed) (s : Sent) → Member s (sends own ms log) → Placed own (sends own ms log) s
unfolding sends
placed own ms [] s m = elim m [ ]
placed own ms (d ∷ before) s m =
    sends_keep own ms d before (Placed own)
    (λ x k. placed own ms before x k)
    (λ x t k n was. (was.0, rw (sends_to_append (sends own ms before) t x.to) (slice_get-append (sends_to (sends own ms before) x.to) (sends_to (t ∷ []) x.to) (x.message.no.0 - own.limits.first) x was.1)))
    (λ t n. placed_at own (sends own ms before) t (new_placed own before (sends own ms before) (length (sends own ms before)) n.req n.to _ t n.is).1)
    s m

-- the deed that made a send, among those of the log
pub record Made (own : Own) (ms : Messages) (log : List Deed) (s : Sent) : Type 0 where
  pub newer : List Deed
  pub deed : Deed
  pub before : List Deed
  pub split : log ≡ newer ++ deed ∷ before
  pub new : NewSent own ms before (sends own ms before) deed s

-- each send was made by a deed
pub made : (own : Own) (ms : Messages) (log : List Deed) (s : Sent) → Member s (sends own ms log) → Made own ms log s
unfolding sends
made own ms [] s m = elim m [ ]
made own ms (d ∷ before) s m =
    sends_keep own ms d before (λ xs x. Made own ms (d ∷ before) x)
    (λ x k. let e = made own ms before x k in record { newer = d ∷ e.newer; deed = e.deed; before = e.before; split = ap (λ (l : List Deed). d ∷ l) e.split; new = e.new })
    (λ x t k n was. was)
    (λ t n. record { newer = []; deed = d; before = before; split = refl; new = n })
    s m

-- what a new send is of: its number, the instruction, the protocol and the headers by what was known of its life
abbrev pub IsOf : Own → List Deed → Sent → Type 0
IsOf own before s =
    (s.message.send ≡ op_id s.number)
    × (s.message.tag ≡ s.req.tag)
    × (s.message.opt ≡ opt_for own.life (wants_raw (known_word before s.to)) s.req.cq_data)
    × (s.message.iov ≡ read_list s.req.parts)
    × (s.kind ≡ choose (length s.message.bytes) (is_some s.req.tag) (is_some s.req.cq_data) (wants_raw (known_word before s.to)) own.features (known_word before s.to) own.limits)

-- the parts of a new send
pub new_is_of : (own : Own) (before : List Deed) (n m : ℕ) (req : SendReq) (to : Life) (bytes : List ℕ) → IsOf own before (new_sent own (known_word before to) n m req to bytes)
unfolding new_sent
new_is_of own before n m req to bytes = (refl, refl, refl, refl, refl)

-- the parts of a send, by what was known when it was made
pub sent_is_of : (own : Own) (ms : Messages) (log : List Deed) (s : Sent) (m : Made own ms log s) → IsOf own m.before s
sent_is_of own ms log s m =
    subst (IsOf own m.before) (sym m.new.is)
    (new_is_of own m.before (length (sends own ms m.before)) (length (sends_to (sends own ms m.before) m.new.to)) m.new.req m.new.to (bytes_of (regions own.limits.first ms m.before) m.new.req.parts))
