-- The messages that enter by one that came are those that the definitions let arrive.
use Rattle.std.proofs.Common.{Bool, ◌≡◌, ℕ, zero, suc, ◌+◌, ◌-◌, ◌≤◌, true, false, List, [], ◌∷◌, ◌++◌, map, length, Option, Some, None, refl, arith, inl, inr, ap, ◌∙◌, sym, subst}
use Rattle.std.proofs.Math.Bool.{or-true}
use Rattle.std.specs.Prelude.{◌==◌, ◌&&◌, ◌||◌, nat_le, nat_lt, is_some}
use Rattle.std.specs.Bool.{then_some}
use Rattle.std.proofs.lemmas.Bool.{and_parts, and_from, eqb-true, eq-eqb, ne_eqb, le-leb, lt-ltb, le-ltb, cases_lt, cases_eq}
use Rattle.std.proofs.lemmas.List.{map-append}
use Rattle.rdm_lists.specs.Lists.{Member, or_else, below}
use Rattle.rdm_num.specs.Lives.{same_life}
use Rattle.rdm_num.specs.declared.numbers.Life.{Life}
use Rattle.rdm_num.specs.declared.numbers.MsgNo.{MsgNo}
use Rattle.rdm_hdr.specs.declared.Opt.{Opt}
use Rattle.rdm_pkt.specs.declared.Packet.TheVariants.{Rtm}
use Rattle.rdm_pkt.specs.declared.Form.TheVariants.{Eager}
use Rattle.rdm_pkt.specs.Heads.{head_of}
use Rattle.rdm_match.specs.declared.Arrived.{Arrived}
use Rattle.rdm_model.specs.Deeds.{Deed, Took, Spelled}
use Rattle.rdm_model.specs.Beginnings.{Own, Heads}
use Rattle.rdm_model.specs.Heard.{head_by, heard_head, is_heard, entering}
use Rattle.rdm_model.specs.Local.{heads_by}
use Rattle.rdm_ep.specs.declared.state.Peer.{Peer}
use Rattle.rdm_ep.specs.declared.state.Inbound.{Inbound}
use Rattle.rdm_ep.specs.Receiving.{arrived_message}
use Rattle.rdm_ep.specs.Entering.{following, entering_by}
use Rattle.rdm_ep.specs.Handling.{inbound}
use Rattle.rdm_ep.proofs.Entered.{heard_stays}
use Rattle.rdm_ep.proofs.Entering.{IsNextNumber, entering_is}
use Rattle.rdm_ep.proofs.Held.{InRun, following_run, following_count, following_any, following_ends}
use Rattle.rdm_ep.proofs.Pairs.{message_by, arriving}
use Rattle.rdm_ep.proofs.Groups.{next_of, held_of, HeldKept}
use Rattle.rdm_num.proofs.Lives.{same_life-true, same_life-refl}

-- the deed of a message in one packet
abbrev pub eager : Life → MsgNo → Option ℕ → Bool → Opt → List ℕ → Deed
eager from number tag confirm opt bytes = Took from (Spelled (Rtm number tag confirm opt (Eager bytes)))

-- one message more was heard of
pub heard_with : (log : List Deed) (from : Life) (number : MsgNo) (tag : Option ℕ) (confirm : Bool) (opt : Opt) (bytes : List ℕ) (life : Life) (n : ℕ)
    → is_heard (eager from number tag confirm opt bytes ∷ log) life n ≡ (is_heard log life n || (same_life from life && number.0 == n))
unfolding is_heard heard_head head_by or_else
heard_with log from number tag confirm opt bytes life n =
    elim (heard_head log life n) as (λ o. is_some (or_else o (then_some (same_life from life && number.0 == n) (head_of tag confirm opt (Eager bytes)))) ≡ (is_some o || (same_life from life && number.0 == n))) [
      | None ↦ elim (same_life from life && number.0 == n) as (λ b. is_some (then_some b (head_of tag confirm opt (Eager bytes))) ≡ b) [ true ↦ refl | false ↦ refl ]
      | Some x ↦ refl
    ]

-- the next number of a life, by what is kept
pub next_kept : (own : Own) (log : List Deed) (peers : List Peer) (arrived held : List Inbound) (life : Life) → HeldKept own log peers arrived held
    → IsNextNumber own.limits.first log life (next_of own.limits.first peers life)
next_kept own log peers arrived held life k =
    let first = own.limits.first in
    record {
      from = omega arith;
      below = λ n low less.
          let a : nat_le first n ≡ true = le-leb first n low in
          let b : nat_lt n (next_of first peers life) ≡ true = lt-ltb n (next_of first peers life) less in
          sym (k.heard_are life n) ∙ (rw (a, b) refl);
      at = k.next_are life;
    }

-- what is held and not below the next number was heard of, and no other
pub held_kept : (own : Own) (log : List Deed) (peers : List Peer) (arrived held : List Inbound) (life : Life) (n : ℕ) → HeldKept own log peers arrived held
    → next_of own.limits.first peers life ≤ n → is_heard log life n ≡ held_of held life n
held_kept own log peers arrived held life n k more =
    let first = own.limits.first in
    let a : nat_le first n ≡ true = le-leb first n (omega arith) in
    let b : nat_lt n (next_of first peers life) ≡ false = le-ltb n (next_of first peers life) more in
    sym (k.heard_are life n) ∙ (rw (a, b) refl)

-- a message that is held was heard of
pub held_is_heard : (own : Own) (log : List Deed) (peers : List Peer) (arrived held : List Inbound) (life : Life) (n : ℕ) → HeldKept own log peers arrived held
    → held_of held life n ≡ true → is_heard log life n ≡ true
held_is_heard own log peers arrived held life n k h = sym (k.heard_are life n) ∙ (rw h (or-true _))

-- numbers from one on, the first apart
pub rising : (n k : ℕ) → map (λ i. n + i) (below (suc k)) ≡ n ∷ map (λ i. n + 1 + i) (below k)
unfolding below
rising n zero = let e : n + 0 ≡ n = omega arith in rw e refl
rising n (suc k) =
    let e : n + 1 + k ≡ n + suc k = omega arith in
    map-append (λ (i : ℕ). n + i) (below (suc k)) (suc k ∷ [])
    ∙ ap (λ (xs : List ℕ). xs ++ (n + suc k) ∷ []) (rising n k)
    ∙ ap (λ (x : ℕ). n ∷ (map (λ i. n + 1 + i) (below k) ++ x ∷ [])) (sym e)
    ∙ ap (λ (xs : List ℕ). n ∷ xs) (sym (map-append (λ (i : ℕ). n + 1 + i) (below k) (k ∷ [])))

-- messages in a row are those of their numbers
run_messages : (heads : Heads) (from : Life) (n : ℕ) (is : List Inbound) → InRun from n is → ((j : Inbound) → Member j is → (heads j.life j.no.0).tag ≡ j.tag)
    → map (message_by heads from) (map (λ k. n + k) (below (length is))) ≡ map arrived_message is
unfolding below
run_messages heads from n [] r t = refl
run_messages heads from n (i ∷ is) r t =
    let p = and_parts (same_life i.life from) (i.no.0 == n) r.0 in
    let l : i.life ≡ from = same_life-true i.life from p.0 in
    let e : i.no.0 ≡ n = eqb-true i.no.0 n p.1 in
    let here : message_by heads i.life i.no.0 ≡ arrived_message i = ap (λ (x : Option ℕ). record { life = i.life; no = i.no; tag = x }) (t i (inl refl)) in
    let one : message_by heads from n ≡ arrived_message i =
    subst (λ (x : Life). message_by heads x n ≡ arrived_message i) l (subst (λ (x : ℕ). message_by heads i.life x ≡ arrived_message i) e here) in
    ap (map (message_by heads from)) (rising n (length is))
    ∙ ap (λ (a : Arrived). a ∷ map (message_by heads from) (map (λ k. n + 1 + k) (below (length is)))) one
    ∙ ap (λ (as' : List Arrived). arrived_message i ∷ as') (run_messages heads from (n + 1) is r.1 (λ j m. t j (inr m)))

-- what is known where a message comes that is next
pub record ComesNext (own : Own) (log : List Deed) (peers : List Peer) (arrived held : List Inbound) (from : Life) (number : MsgNo) : Type 0 where
  pub kept : HeldKept own log peers arrived held
  pub is_next : number.0 ≡ next_of own.limits.first peers from

-- the number after those that enter
abbrev pub number_after : List Inbound → Life → MsgNo → ℕ
number_after held from number = number.0 + 1 + length (following (length held) held from (number.0 + 1))

-- the next number then
pub next_then : (own : Own) (log : List Deed) (peers : List Peer) (arrived held : List Inbound) (from : Life) (number : MsgNo) (tag : Option ℕ) (confirm : Bool) (opt : Opt) (bytes : List ℕ)
    → ComesNext own log peers arrived held from number → IsNextNumber own.limits.first (eager from number tag confirm opt bytes ∷ log) from (number_after held from number)
next_then own log peers arrived held from number tag confirm opt bytes c =
    let first = own.limits.first in
    let d = eager from number tag confirm opt bytes in
    let k = c.kept in
    let e = c.is_next in
    let was = next_kept own log peers arrived held from k in
    let f = was.from in
    record {
      from = omega arith;
      below = λ n low less. elim (cases_lt n number.0) [
        | inl before ↦ heard_stays d log from n (was.below n low (omega arith))
        | inr more ↦ elim (cases_eq number.0 n) [
          | inl same ↦
              let q : (number.0 == n) ≡ true = eq-eqb number.0 n same in
              let s = same_life-refl from in
              heard_with log from number tag confirm opt bytes from n ∙ (rw (s, q) (or-true (is_heard log from n)))
          | inr other ↦
              let z : number.0 + 1 + (n - (number.0 + 1)) ≡ n = omega arith in
              let h = following_any (length held) held from (number.0 + 1) (n - (number.0 + 1)) (omega arith) in
              heard_stays d log from n (held_is_heard own log peers arrived held from n k (subst (λ (x : ℕ). held_of held from x ≡ true) z h))
        ]
      ];
      at =
          let n = number_after held from number in
          let a = held_kept own log peers arrived held from n k (omega arith) in
          let b = following_ends (length held) held from (number.0 + 1) (omega arith) in
          let q : (number.0 == n) ≡ false = ne_eqb number.0 n (λ x. omega arith) in
          let s = same_life-refl from in
          heard_with log from number tag confirm opt bytes from n ∙ (rw (a, b, s, q) refl);
    }

-- the numbers that enter by a message that is next
pub entering_next : (own : Own) (log : List Deed) (peers : List Peer) (arrived held : List Inbound) (from : Life) (number : MsgNo) (tag : Option ℕ) (confirm : Bool) (opt : Opt) (bytes : List ℕ)
    → ComesNext own log peers arrived held from number
    → entering own.limits.first (eager from number tag confirm opt bytes) log from ≡ map (λ k. next_of own.limits.first peers from + k) (below (length (entering_by (inbound from number.0 tag confirm opt bytes) held)))
entering_next own log peers arrived held from number tag confirm opt bytes c =
    let first = own.limits.first in
    let d = eager from number tag confirm opt bytes in
    let k = c.kept in
    let e = c.is_next in
    let was = next_kept own log peers arrived held from k in
    let now = next_then own log peers arrived held from number tag confirm opt bytes c in
    let next = next_of first peers from in
    let w = k.within from in
    let n = following_count (length held) held from (number.0 + 1) in
    let is = entering_by (inbound from number.0 tag confirm opt bytes) held in
    let size : number_after held from number - next ≡ length is = omega arith in
    entering_is first d log from next (number_after held from number) was now (omega arith) (omega arith) ∙ ap (λ x. map (λ k. next + k) (below x)) size

-- the messages that arrive are those that enter
pub arriving_next : (own : Own) (log : List Deed) (peers : List Peer) (arrived held : List Inbound) (from : Life) (number : MsgNo) (tag : Option ℕ) (confirm : Bool) (opt : Opt) (bytes : List ℕ)
    → ComesNext own log peers arrived held from number
    → ((j : Inbound) → Member j (entering_by (inbound from number.0 tag confirm opt bytes) held) → (heads_by (eager from number tag confirm opt bytes ∷ log) j.life j.no.0).tag ≡ j.tag)
    → arriving own (eager from number tag confirm opt bytes) log ≡ map arrived_message (entering_by (inbound from number.0 tag confirm opt bytes) held)
unfolding arriving
arriving_next own log peers arrived held from number tag confirm opt bytes c t =
    let d = eager from number tag confirm opt bytes in
    let e = c.is_next in
    let next = next_of own.limits.first peers from in
    let is = entering_by (inbound from number.0 tag confirm opt bytes) held in
    let s = same_life-refl from in
    let q : (number.0 == next) ≡ true = eq-eqb number.0 next e in
    let run : InRun from next is = (and_from (same_life from from) (number.0 == next) s q, subst (λ (x : ℕ). InRun from (x + 1) (following (length held) held from (number.0 + 1))) e (following_run (length held) held from (number.0 + 1))) in
    ap (map (message_by (heads_by (d ∷ log)) from)) (entering_next own log peers arrived held from number tag confirm opt bytes c)
    ∙ run_messages (heads_by (d ∷ log)) from next is run t

-- no number enters by a message that is not next
pub entering_ahead : (own : Own) (log : List Deed) (peers : List Peer) (arrived held : List Inbound) (from : Life) (number : MsgNo) (tag : Option ℕ) (confirm : Bool) (opt : Opt) (bytes : List ℕ)
    → HeldKept own log peers arrived held → (number.0 ≡ next_of own.limits.first peers from → ⊥) → entering own.limits.first (eager from number tag confirm opt bytes) log from ≡ []
unfolding below
entering_ahead own log peers arrived held from number tag confirm opt bytes k other =
    let first = own.limits.first in
    let d = eager from number tag confirm opt bytes in
    let next = next_of first peers from in
    let was = next_kept own log peers arrived held from k in
    let q : (number.0 == next) ≡ false = ne_eqb number.0 next other in
    let s = same_life-refl from in
    let a = was.at in
    let now : IsNextNumber first (d ∷ log) from next =
    record {
      from = was.from;
      below = λ n low less. heard_stays d log from n (was.below n low less);
      at = heard_with log from number tag confirm opt bytes from next ∙ (rw (a, s, q) refl);
    } in
    let w = k.within from in
    let z : next - next ≡ 0 = omega arith in
    entering_is first d log from next next was now (omega arith) (omega arith) ∙ ap (λ x. map (λ k. next + k) (below x)) z

-- so none arrives
pub arriving_ahead : (own : Own) (log : List Deed) (peers : List Peer) (arrived held : List Inbound) (from : Life) (number : MsgNo) (tag : Option ℕ) (confirm : Bool) (opt : Opt) (bytes : List ℕ)
    → HeldKept own log peers arrived held → (number.0 ≡ next_of own.limits.first peers from → ⊥) → arriving own (eager from number tag confirm opt bytes) log ≡ []
unfolding arriving
arriving_ahead own log peers arrived held from number tag confirm opt bytes k other =
    ap (map (message_by (heads_by (eager from number tag confirm opt bytes ∷ log)) from)) (entering_ahead own log peers arrived held from number tag confirm opt bytes k other)
