-- What the answers of sends and receives say of them: their ranges lie in their regions, and their messages have numbers left.
use Rattle.std.proofs.Common.{◌≡◌, ℕ, suc, ◌+◌, ◌<◌, ◌≤◌, Bool, true, false, cond, leb-false, ltb-false, List, [], ◌∷◌, ◌++◌, map, length, get_or, option_to_list, Option, Some, None, refl, arith, ◌∙◌, ap, subst}
use Rattle.std.specs.Prelude.{filter}
use Rattle.std.specs.List.{list_any}
use Rattle.std.proofs.lemmas.List.{map-append}
use Rattle.rdm_lists.specs.Lists.{Member}
use Rattle.rdm_lists.proofs.Members.{list_any_false}
use Rattle.rdm_lists.specs.Lists.{first_case}
use Rattle.rdm_num.specs.Lives.{same_life}
use Rattle.rdm_num.specs.declared.numbers.Life.{Life}
use Rattle.rdm_num.specs.declared.parts.Span.{Span}
use Rattle.rdm_num.specs.declared.request.SendReq.{SendReq}
use Rattle.rdm_num.specs.declared.request.RecvReq.{RecvReq}
use Rattle.rdm_model.specs.declared.job.Instr.TheVariants.{Send, Recv}
use Rattle.rdm_model.specs.declared.answer.Next.{Next as Answer}
use Rattle.rdm_model.specs.declared.answer.Next.TheVariants.{Did as DidAnswer, Refused}
use Rattle.rdm_model.specs.declared.answer.DidWhat.{DidWhat}
use Rattle.rdm_model.specs.declared.answer.Why.{Why}
use Rattle.rdm_model.specs.declared.answer.Why.TheVariants.{NoRegion, Range, NoEntry, Busy, Numbers}
use Rattle.rdm_model.specs.Deeds.{Deed, Did}
use Rattle.rdm_model.specs.Currents.{current}
use Rattle.rdm_model.specs.Beginnings.{Own, Messages}
use Rattle.rdm_model.specs.Regions.{regions}
use Rattle.rdm_model.specs.Sends.{Sent, sends_to, new_sent, sent_to_current, bytes_of, sent_by, with_sent, sends}
use Rattle.rdm_model.specs.Scenes.{Scene}
use Rattle.rdm_model.specs.Facts.{Facts, facts_of, regions_of}
use Rattle.rdm_model.specs.Answers.{is_out_of_range, has_no_number, has_no_region, send_answer, recv_answer, answer_of, answer_by}
use Rattle.rdm_model.specs.Local.{heard_by}
use Rattle.rdm_law.proofs.Lives.Lives.{life_scene, LifeStep, LifeLocal}
use Rattle.rdm_law.proofs.Fits.RegionsFit.{sizes, RangeFits, AllRangesFit}
use Rattle.rdm_law.proofs.Fits.RegionSizes.{region_size}

-- a refusal is no instruction that did
refused_did : (why : Why) (what : DidWhat) → Refused why ≡ DidAnswer what → ⊥
refused_did why what h = cc

-- where the instruction did, it was not refused for the first case
case_past : (b : Bool) (why : Why) (cs : List (Bool × Answer)) (last : Answer) (what : DidWhat) → first_case ((b, Refused why) ∷ cs) last ≡ DidAnswer what
    → (b ≡ false) × (first_case cs last ≡ DidAnswer what)
unfolding first_case
case_past true why cs last what h = absurd (refused_did why what h)
case_past false why cs last what h = (refl, h)

-- a send that did has its ranges in their regions, and a number left
send_answered : (f : Facts) (req : SendReq) (what : DidWhat) → send_answer f req ≡ DidAnswer what
    → (list_any (λ (p : Span). is_out_of_range f p.region.0 p.at p.len) req.parts ≡ false) × (has_no_number f (f.current req.to.0) ≡ false)
unfolding send_answer
send_answered f req what h =
    let a = case_past (list_any (λ (p : Span). has_no_region f p.region.0) req.parts) NoRegion _ _ what h in
    let b = case_past _ Range _ _ what a.1 in
    let c = case_past _ NoEntry _ _ what b.1 in
    let d = case_past _ Busy _ _ what c.1 in
    let e = case_past _ Numbers _ _ what d.1 in
    (b.0, e.0)

-- so has a receive
recv_answered : (f : Facts) (req : RecvReq) (what : DidWhat) → recv_answer f req ≡ DidAnswer what → is_out_of_range f req.region.0 req.at req.len ≡ false
unfolding recv_answer
recv_answered f req what h =
    let a = case_past (has_no_region f req.region.0) NoRegion _ _ what h in
    let b = case_past _ Range _ _ what a.1 in
    b.0

-- what is not out of range ends within its region
in_range : (s : Scene) (region at len : ℕ) → is_out_of_range (facts_of s) region at len ≡ false → at + len ≤ length (get_or (regions_of s) region [])
unfolding is_out_of_range
in_range s region at len h = ltb-false _ _ h

-- so it ends within the size that the region was registered with
in_sizes : (ports : ℕ) (own : Own) (port_log log : List Deed) (region at len : ℕ) → AllRangesFit log
    → is_out_of_range (facts_of (life_scene ports own port_log log)) region at len ≡ false → at + len ≤ get_or (sizes log) region 0
unfolding regions_of
in_sizes ports own port_log log region at len fit h =
    let a = in_range (life_scene ports own port_log log) region at len h in
    let b = region_size own.limits.first (heard_by own.limits.first log) log region fit in
    omega arith

-- a deed of a life has its range in its region
range_step : (own : Own) (before : List Deed) (d : Deed) → AllRangesFit before → LifeStep own before d → RangeFits before d
unfolding answer_by
range_step own before (Did (Send req)) fit step =
    let s = life_scene step.0 own step.1 before in
    let none = (send_answered (facts_of s) req step.2 step.3).0 in
    λ p m. in_sizes step.0 own step.1 before p.region.0 p.at p.len fit (list_any_false (λ (q : Span). is_out_of_range (facts_of s) q.region.0 q.at q.len) req.parts none p m)
range_step own before (Did (Recv req)) fit step =
    in_sizes step.0 own step.1 before req.region.0 req.at req.len fit (recv_answered (facts_of (life_scene step.0 own step.1 before)) req step.2 step.3)
range_step own before _ fit step = tt

-- the ranges of what a life accepted lie in their regions
pub ranges_fit : (own : Own) (log : List Deed) → LifeLocal own log → AllRangesFit log
ranges_fit own [] l = tt
ranges_fit own (d ∷ before) l = let was = ranges_fit own before l.0 in (was, range_step own before d was l.1)

-- the life that a deed sends to
unfoldable pub sent_life : List Deed → Deed → List Life
sent_life before (Did (Send req)) = option_to_list (current before req.to.0)
sent_life before _ = []

-- the lives that sends go to, in order
unfoldable pub sent_lives : List Deed → List Life
sent_lives [] = []
sent_lives (d ∷ before) = sent_lives before ++ sent_life before d

-- a send goes to the current life
to_current : (own : Own) (before : List Deed) (sents : List Sent) (req : SendReq) (o : Option Life) (bytes : List ℕ)
    → map (λ (s : Sent). s.to) (sent_to_current own before sents req o bytes) ≡ option_to_list o
unfolding sent_to_current new_sent
to_current own before sents req None bytes = refl
to_current own before sents req (Some to) bytes = refl

-- the sends of a deed go to the life of the deed
life_of_sent : (own : Own) (ms : Messages) (before : List Deed) (sents : List Sent) (d : Deed) → map (λ (s : Sent). s.to) (sent_by own ms before sents d) ≡ sent_life before d
unfolding sent_by sent_life
life_of_sent own ms before sents (Did (Send req)) =
    to_current own before sents req (current before req.to.0) (bytes_of (regions own.limits.first ms before) req.parts)
life_of_sent own ms before sents _ = refl

-- sends go to the same lives by any account of the messages
pub lives_of_sends : (own : Own) (ms : Messages) (log : List Deed) → map (λ (s : Sent). s.to) (sends own ms log) ≡ sent_lives log
unfolding sends with_sent sent_lives
lives_of_sends own ms [] = refl
lives_of_sends own ms (d ∷ before) =
    map-append (λ (s : Sent). s.to) (sends own ms before) (sent_by own ms before (sends own ms before) d)
    ∙ ap (λ (ls : List Life). ls ++ map (λ (s : Sent). s.to) (sent_by own ms before (sends own ms before) d)) (lives_of_sends own ms before)
    ∙ ap (λ (ls : List Life). sent_lives before ++ ls) (life_of_sent own ms before (sends own ms before) d)

-- how many messages were sent to a life
unfoldable pub messages_to : List Life → Life → ℕ
messages_to lives to = length (filter (λ l. same_life l to) lives)

-- sends to a life are counted by the lives that sends go to
sends_to_lives : (sents : List Sent) (to : Life) → length (sends_to sents to) ≡ messages_to (map (λ (s : Sent). s.to) sents) to
unfolding sends_to messages_to
sends_to_lives [] to = refl
sends_to_lives (s ∷ sents) to =
    (elim (same_life s.to to) as (λ b. length (cond b (s ∷ filter (λ (x : Sent). same_life x.to to) sents) (filter (λ (x : Sent). same_life x.to to) sents))
    ≡ length (cond b (s.to ∷ filter (λ l. same_life l to) (map (λ (x : Sent). x.to) sents)) (filter (λ l. same_life l to) (map (λ (x : Sent). x.to) sents)))) [
      | true ↦ ap suc (sends_to_lives sents to)
      | false ↦ sends_to_lives sents to
    ])

-- the count of the sends to a life, by any account of the messages
pub sends_to_count : (own : Own) (ms : Messages) (log : List Deed) (to : Life) → length (sends_to (sends own ms log) to) ≡ messages_to (sent_lives log) to
sends_to_count own ms log to = sends_to_lives (sends own ms log) to ∙ ap (λ (ls : List Life). messages_to ls to) (lives_of_sends own ms log)

-- the next message to the life that a deed sends to has a number
abbrev pub NumberFits : (first : ℕ) → List Deed → Deed → Type 0
NumberFits first before (Did (Send req)) = (to : Life) → current before req.to.0 ≡ Some to → first + messages_to (sent_lives before) to < 4294967296
NumberFits first before _ = Unit {0}

-- so of all deeds
abbrev pub AllNumbersFit : (first : ℕ) → List Deed → Type 0
AllNumbersFit first [] = Unit {0}
AllNumbersFit first (d ∷ before) = AllNumbersFit first before × NumberFits first before d

-- a message to a life that has a number left has one
number_left : (s : Scene) (o : Option Life) (to : Life) → o ≡ Some to → has_no_number (facts_of s) o ≡ false → s.own.limits.first + length (sends_to (sends s.own s.ms s.log) to) < 4294967296
unfolding has_no_number
number_left s None to is h = cc
number_left s (Some l) to is h =
    let same : l ≡ to = cc in
    subst (λ (x : Life). s.own.limits.first + length (sends_to (sends s.own s.ms s.log) x) < 4294967296) same (leb-false _ _ h)

-- a message of a deed has a number
number_step : (own : Own) (before : List Deed) (d : Deed) → LifeStep own before d → NumberFits own.limits.first before d
unfolding answer_by
number_step own before (Did (Send req)) step = λ to is.
    let s = life_scene step.0 own step.1 before in
    let a = number_left s (current before req.to.0) to is (send_answered (facts_of s) req step.2 step.3).1 in
    let b = sends_to_count own (heard_by own.limits.first before) before to in
    omega arith
number_step own before _ step = tt

-- the messages of what a life sent have numbers
pub numbers_fit : (own : Own) (log : List Deed) → LifeLocal own log → AllNumbersFit own.limits.first log
numbers_fit own [] l = tt
numbers_fit own (d ∷ before) l = (numbers_fit own before l.0, number_step own before d l.1)
