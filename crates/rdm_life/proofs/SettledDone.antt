-- What deeds that make pairs or bring bytes complete: the receives of which all came, with the bytes that fit.
use Rattle.std.proofs.Common.{◌≡◌, ℕ, zero, suc, ◌+◌, ◌-◌, ◌<◌, Bool, true, false, cond, ◌&&◌, not, List, [], ◌∷◌, ◌++◌, map, length, take, drop, Option, Some, None, refl, arith, inl, inr, sym, ◌∙◌, ap, subst}
use Rattle.std.specs.Prelude.{min, filter, flat_map, nat_lt, is_some, option_map, option_to_list, unwrap_or}
use Rattle.std.proofs.lemmas.Bool.{cases_lt, lt-ltb}
use Rattle.std.proofs.lemmas.List.{append-nil, map-append, take-append-le, take_all, length-map}
use Rattle.std.proofs.lemmas.List.Folds.{flat_map-map}
use Rattle.rdm_lists.specs.Lists.{Member, below}
use Rattle.rdm_lists.proofs.Below.{each_below_at, length-below, map_below_same}
use Rattle.rdm_lists.proofs.Same.{flat_map_same}
use Rattle.rdm_num.specs.declared.completion.Completion.{Completion}
use Rattle.rdm_num.specs.declared.completion.Completion.TheVariants.{Recv as RecvDone}
use Rattle.rdm_num.specs.declared.completion.Outcome.TheVariants.{Took as TookOutcome}
use Rattle.rdm_pkt.specs.declared.Packet.TheVariants.{Rtm, CtsData}
use Rattle.rdm_match.specs.Matcher.{Pair}
use Rattle.rdm_model.specs.declared.job.Instr.TheVariants.{Recv}
use Rattle.rdm_model.specs.Beginnings.{Own, Messages}
use Rattle.rdm_model.specs.Completions.{took_outcome, outcome, recv_completion, recv_completions, send_completion, polls_by, poll_count}
use Rattle.rdm_model.specs.Currents.{forgotten_by}
use Rattle.rdm_model.specs.Deeds.{Deed, Did, Took, Spelled, Gives}
use Rattle.rdm_model.specs.Local.{bytes_by, heard_by}
use Rattle.rdm_model.specs.Matches.{Receive, receives}
use Rattle.rdm_model.specs.Parts.{carried_by}
use Rattle.rdm_model.specs.Sends.{Sent}
use Rattle.rdm_model.specs.Receives.{Filled, ended_recv, is_filled, filled_by, withdrawn_by, recv_ends_by}
use Rattle.rdm_model.specs.Regions.{kept_bytes}
use Rattle.rdm_law.proofs.Lives.Lives.{LifeLocal}
use Rattle.rdm_life.specs.Kept.{Kept, receive_numbered}
use Rattle.rdm_life.specs.Keeps.{told, own_pairs, byte_came, byte_of_pair, region_byte}
use Rattle.rdm_life.specs.Landing.{has_all, completion_of, completion_by, settle}
use Rattle.rdm_life.proofs.CompletedIdle.{KeepsDone}
use Rattle.rdm_life.proofs.Completing.{own_completions, new_received, completed, unpolled, EndsNone, over_none}
use Rattle.rdm_life.proofs.Owing.{not_newly, pairs_then}
use Rattle.rdm_life.proofs.SettledPairs.{Touched, touched, accepted_found, landed_found, all_is, only_touched}
use Rattle.rdm_life.proofs.Settling.{IsLanding, Touches, Landed, landed_message, landed_receive, numbers_of}
use Rattle.rdm_life.proofs.EndSteps.{new_ends}

-- ---- the bytes of a receive that was filled

-- the first of values by number
take_below : (c n : ℕ) (f : ℕ → ℕ) → take c (map f (below n)) ≡ map f (below (min c n))
unfolding below
take_below c zero f = (let none : min c zero ≡ 0 = omega arith in rw none (take_all c [] (omega arith)))
take_below c (suc n) f =
    let len : length (map f (below n)) ≡ n = length-map (below n) f ∙ length-below n in
    let split : map f (below n ++ n ∷ []) ≡ map f (below n) ++ f n ∷ [] = map-append f (below n) (n ∷ []) in
    elim (cases_lt n c) [
      | inl more ↦
          let whole : min c (suc n) ≡ suc n = omega arith in
          let long : length (map f (below (suc n))) ≡ suc n = length-map (below (suc n)) f ∙ length-below (suc n) in
          take_all c (map f (below (suc n))) (omega arith) ∙ ap (λ (k : ℕ). map f (below k)) (sym whole)
      | inr less ↦
          let same : min c n ≡ min c (suc n) = omega arith in
          ap (take c) split ∙ take-append-le c (map f (below n)) (f n ∷ []) (omega arith) ∙ take_below c n f ∙ ap (λ (k : ℕ). map f (below k)) same
    ]

-- a byte in the range that came
byte_part : (len k other : ℕ) (o : Option ℕ) → k < len → is_some o ≡ true → cond (nat_lt k len) (unwrap_or o other) 0 ≡ unwrap_or o 0
byte_part len k other (Some b) less there = rw (lt-ltb k len less) refl
byte_part len k other None less there = cc

-- the bytes that a receive keeps of a message that came whole are those of its range
kept_are : (own : Own) (d : Deed) (log : List Deed) (is_new : Bool) (p : Pair) (t : Touched own d log is_new p) → has_all (landed_message own d log p) ≡ true
    → map (landed_receive own d log t.recv).part (below (min t.recv.req.len ((told own (d ∷ log)).head p.message.life p.message.no.0).length))
    ≡ kept_bytes (told own (d ∷ log)) p t.recv.req.len
unfolding kept_bytes heard_by bytes_by byte_of_pair
kept_are own d log is_new p t all =
    let source = p.message.life in
    let n = p.message.no.0 in
    let size = ((told own (d ∷ log)).head source n).length in
    let cap = t.recv.req.len in
    let part : Option Pair → ℕ → ℕ = λ o k. cond (nat_lt k cap) (unwrap_or (byte_of_pair own (d ∷ log) o k) (unwrap_or (region_byte own log t.recv.req.region.0 (t.recv.req.at + k)) 0)) 0 in
    let came : ℕ → Option ℕ = λ k. byte_came own (d ∷ log) source n k in
    ap (λ (o : Option Pair). map (part o) (below (min cap size))) t.pair_is
    ∙ map_below_same (part (Some p)) (λ k. unwrap_or (came k) 0) (min cap size)
    (λ k less.
    let there = each_below_at (λ k. is_some (came k)) size k all (omega arith) in
    byte_part cap k (unwrap_or (region_byte own log t.recv.req.region.0 (t.recv.req.at + k)) 0) (came k) (omega arith) there)
    ∙ sym (take_below cap size (λ k. unwrap_or (came k) 0))

-- ---- what one pair completes

-- the completion of the receive of a pair that the deed fills
abbrev filled_done : Own → Deed → List Deed → Pair → List Completion
filled_done own d log p =
    cond (is_filled own.limits.first (told own (d ∷ log)).head (d ∷ log) p && not (is_filled own.limits.first (told own (d ∷ log)).head log p))
    (recv_completion (told own (d ∷ log)) (receives (d ∷ log)) (Filled p)) []

-- what is kept completes what the pair does
receive_done : (own : Own) (d : Deed) (log : List Deed) (is_new : Bool) (p : Pair) (t : Touched own d log is_new p)
    → completion_by (Some (landed_receive own d log t.recv)) ≡ filled_done own d log p
unfolding completion_by completion_of recv_completion outcome took_outcome ended_recv
receive_done own d log is_new p t =
    let ms = told own (d ∷ log) in
    let r = t.recv in
    let m = landed_message own d log p in
    let found = accepted_found own d log r p.recv.id.0 t.out t.number_is in
    ap (λ (o : Option Pair). completion_of (landed_receive own d log r) (option_map (landed_message own d log) o)) t.pair_is
    ∙ (elim (has_all m) as (λ b. has_all m ≡ b
    → cond b (RecvDone (record { 0 = r.number }) (TookOutcome m.source m.head.tag m.head.cq_data (map (landed_receive own d log r).part (below (min r.req.len m.head.length))) (m.head.length - r.req.len)) ∷ []) []
    ≡ cond b (recv_completion ms (receives (d ∷ log)) (Filled p)) []) [
      | true ↦ λ all.
          ap (λ (bytes : List ℕ). RecvDone (record { 0 = r.number }) (TookOutcome m.source m.head.tag m.head.cq_data bytes (m.head.length - r.req.len)) ∷ []) (kept_are own d log is_new p t all)
          ∙ ap (λ (o : Option Receive). map (λ (q : Receive). RecvDone (record { 0 = q.number }) (took_outcome ms p q.req.len)) (option_to_list o)) (sym found)
      | false ↦ λ not_all. refl
    ]) refl
    ∙ ap (λ (b : Bool). cond b (recv_completion ms (receives (d ∷ log)) (Filled p)) []) (sym (all_is own d log is_new p t))

-- ---- what the deed completes

-- the completions of receives that were filled, by their pairs
filled_completions : (ms : Messages) (rs : List Receive) (t : Pair → Bool) (ps : List Pair)
    → recv_completions ms rs (map Filled (filter t ps)) ≡ flat_map (λ (p : Pair). cond (t p) (recv_completion ms rs (Filled p)) []) ps
unfolding recv_completions
filled_completions ms rs t [] = refl
filled_completions ms rs t (p ∷ ps) =
    let rest = flat_map (λ (q : Pair). cond (t q) (recv_completion ms rs (Filled q)) []) ps in
    elim (t p) as (λ b. recv_completions ms rs (map Filled (cond b (p ∷ filter t ps) (filter t ps))) ≡ cond b (recv_completion ms rs (Filled p)) [] ++ rest) [
      | true ↦ ap (λ (cs : List Completion). recv_completion ms rs (Filled p) ++ cs) (filled_completions ms rs t ps)
      | false ↦ filled_completions ms rs t ps
    ]

-- a deed that makes pairs or brings bytes takes no receive back, forgets nobody, polls nothing and ends no send
pub landing_ends : (d : Deed) (log : List Deed) → IsLanding d → (withdrawn_by d ≡ []) × (forgotten_by log d ≡ []) × (polls_by d ≡ 0) × EndsNone d
unfolding withdrawn_by forgotten_by polls_by
landing_ends (Did (Recv req)) log i = (refl, refl, refl, tt)
landing_ends (Took from (Spelled (Rtm number tag confirm opt form))) log i = (refl, refl, refl, tt)
landing_ends (Took from (Spelled (CtsData recv offset connid bytes))) log i = (refl, refl, refl, tt)
landing_ends (Took from (Gives g)) log i = (refl, refl, refl, tt)
landing_ends _ log i = absurd i

-- the receives that it ends are those that it fills
pub landing_filled : (own : Own) (d : Deed) (log : List Deed) → IsLanding d → new_ends own d log ≡ map Filled (filled_by own.limits.first (told own (d ∷ log)).head d log)
unfolding recv_ends_by
landing_filled own d log i =
    let ends = landing_ends d log i in
    let filled = map Filled (filled_by own.limits.first (told own (d ∷ log)).head d log) in
    rw (ends.0, ends.1) (append-nil (filled ++ []) ∙ append-nil filled)

-- so it completes those
received_filled : (own : Own) (d : Deed) (log : List Deed) → IsLanding d → new_received own d log ≡ flat_map (filled_done own d log) (own_pairs own (d ∷ log))
unfolding filled_by
received_filled own d log i =
    let first = own.limits.first in
    let ms = told own (d ∷ log) in
    ap (recv_completions ms (receives (d ∷ log))) (landing_filled own d log i)
    ∙ filled_completions ms (receives (d ∷ log)) (λ p. is_filled first ms.head (d ∷ log) p && not (is_filled first ms.head log p)) (own_pairs own (d ∷ log))

-- what is kept of receives completes what pairs do
done_settled : (own : Own) (d : Deed) (log : List Deed) (is_new : Bool) (ps : List Pair) (u : Kept) → Touches own d log is_new ps → Landed own d log u
    → flat_map (λ (number : ℕ). completion_by (receive_numbered u number)) (numbers_of ps) ≡ flat_map (filled_done own d log) (own_pairs own (d ∷ log))
done_settled own d log is_new ps u t l =
    let first = own.limits.first in
    let ms = told own (d ∷ log) in
    flat_map-map (λ (number : ℕ). completion_by (receive_numbered u number)) (λ (p : Pair). p.recv.id.0) ps
    ∙ flat_map_same (λ (p : Pair). completion_by (receive_numbered u p.recv.id.0)) (filled_done own d log) ps
    (λ p m.
    let q = touched own d log is_new ps p t m in
    ap completion_by (landed_found own d log u q.recv p.recv.id.0 l q.out q.number_is) ∙ receive_done own d log is_new p q)
    ∙ sym (only_touched own d log is_new ps (filled_done own d log) t
    (λ p m none.
    let was = pairs_then own d log in
    let quiet = not_newly first ms.head d log p (subst (λ (qs : List Pair). Member p qs) was m) (subst (λ (qs : List Pair). carried_by qs p.message.life p.message.no.0 d ≡ None) was none) in
    ap (λ (b : Bool). cond b (recv_completion ms (receives (d ∷ log)) (Filled p)) []) quiet))

-- what was not polled after it
pub settled_done : (own : Own) (d : Deed) (log : List Deed) (is_new : Bool) (ps : List Pair) (u : Kept) → LifeLocal own (d ∷ log) → IsLanding d → Touches own d log is_new ps → Landed own d log u
    → u.completions ≡ drop (poll_count log) (own_completions own log) → KeepsDone own d log (settle is_new (numbers_of ps) u).completions
unfolding settle
settled_done own d log is_new ps u local i t l kept =
    let new = flat_map (λ (number : ℕ). completion_by (receive_numbered u number)) (numbers_of ps) in
    let ends = landing_ends d log i in
    let are : new_received own d log ≡ new = received_filled own d log i ∙ sym (done_settled own d log is_new ps u t l) in
    let more : own_completions own (d ∷ log) ≡ own_completions own log ++ new =
    completed own d log
    ∙ ap (λ (ss : List Sent). own_completions own log ++ (new_received own d log ++ map (send_completion (d ∷ log)) ss)) (over_none own d log ends.3)
    ∙ ap (λ (cs : List Completion). own_completions own log ++ cs) (append-nil (new_received own d log) ∙ are) in
    unpolled own d log u.completions new local.0 ends.2 kept more
