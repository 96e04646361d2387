-- A receive that is taken back leaves its range as it was.
use Rattle.std.proofs.Common.{◌≡◌, ℕ, zero, suc, ◌+◌, ◌-◌, ◌<◌, Bool, true, cond, not, List, [], ◌∷◌, ◌++◌, map, take, get_or, Option, Some, None, refl, arith, sym, ◌∙◌, ap}
use Rattle.std.specs.Prelude.{◌==◌, slice_get, filter, unwrap_or}
use Rattle.std.specs.List.{list_any}
use Rattle.std.proofs.lemmas.Bool.{eqb-true, lt-ltb, false_from_ne_true}
use Rattle.std.proofs.lemmas.List.{append-nil, take-append-drop}
use Rattle.rdm_lists.specs.Lists.{Member}
use Rattle.rdm_lists.proofs.Members.{find_member}
use Rattle.rdm_lists.proofs.Options.{some_of}
use Rattle.rdm_lists.proofs.Places.{slice_get_some}
use Rattle.rdm_lists.proofs.Same.{map_same, filter_same}
use Rattle.rdm_num.specs.declared.numbers.RecvNo.{RecvNo}
use Rattle.rdm_match.specs.Matcher.{Pair, after as after_event, run, is_recv}
use Rattle.rdm_model.specs.declared.job.Instr.TheVariants.{Cancel}
use Rattle.rdm_model.specs.Beginnings.{Own, Messages}
use Rattle.rdm_model.specs.Currents.{forgotten_by}
use Rattle.rdm_model.specs.Deeds.{Deed, Did}
use Rattle.rdm_model.specs.Local.{heard_by}
use Rattle.rdm_model.specs.Matches.{Receive, receives, received_by, events_by, matching}
use Rattle.rdm_model.specs.Parts.{carried_by}
use Rattle.rdm_model.specs.Receives.{RecvEnd, Withdrawn, ended_recv, has_ended, withdrawn_by, receive_numbered}
use Rattle.rdm_model.specs.Regions.{put, change_at, written_by, after_end, after_ends, region_by}
use Rattle.rdm_law.proofs.Ends.Live.{did_posted, posted_recv}
use Rattle.rdm_law.proofs.Lives.Lives.{LifeLocal, LifeStep, life_scene}
use Rattle.rdm_law.proofs.Matching.Numbered.{matching_numbered}
use Rattle.rdm_life.specs.Kept.{Kept, LiveReceive, is_receive}
use Rattle.rdm_life.specs.Keeps.{told, own_pairs, own_regions, own_live_receives, is_out, region_byte, byte_of_pair, pair_of, kept_receive, KeepsReceives}
use Rattle.rdm_life.specs.Memory.{is_place_of, with_back}
use Rattle.rdm_life.specs.Receiving.{after_cancel}
use Rattle.rdm_life.specs.Handling.{after, after_instr}
use Rattle.rdm_life.proofs.Apart.{live_is, ranges_apart}
use Rattle.rdm_life.proofs.Back.{leave_home}
use Rattle.rdm_life.proofs.EndSteps.{new_ends, regions_step, newer_pairs}
use Rattle.rdm_life.proofs.LiveLeft.{eqb_other, filter_made, find_nothing, live_left}
use Rattle.rdm_life.proofs.Places.{place_parts, place_within}
use Rattle.rdm_life.proofs.ReceivesQuiet.{pair_stays, stays_ends}
use Rattle.rdm_life.proofs.Stays.{Stays, kept_stays}
use Rattle.rdm_life.proofs.Tests.{or_none}

-- no bytes that are put change nothing
put_nothing : (at : ℕ) (region : List ℕ) → put at [] region ≡ region
unfolding put
put_nothing at region = let e : at + 0 ≡ at = omega arith in let n = append-nil (take at region) in rw (e, n) (take-append-drop at region)

-- an element that is changed into itself changes nothing
unchanged : {A : Type 0} (f : A → A) (n : ℕ) (xs : List A) → ((x : A) → f x ≡ x) → change_at f n xs ≡ xs
unfolding change_at
unchanged f n [] h = refl
unchanged f zero (x ∷ xs) h = ap (λ y. y ∷ xs) (h x)
unchanged f (suc n) (x ∷ xs) h = ap (λ ys. x ∷ ys) (unchanged f n xs h)

-- a receive that is taken back writes nothing
cancel_written : (ms : Messages) (n : ℕ) (o : Option Receive) (regions : List (List ℕ)) → after_end ms (Withdrawn n) o regions ≡ regions
unfolding after_end written_by
cancel_written ms n None regions = refl
cancel_written ms n (Some r) regions = unchanged (put r.req.at []) r.req.region.0 regions (put_nothing r.req.at)

-- it makes no pair and brings no byte
cancel_stays : (own : Own) (recv : RecvNo) (log : List Deed) → Stays own (Did (Cancel recv)) log
unfolding matching events_by run after_event carried_by
cancel_stays own recv log = record { pairs_are = sym (newer_pairs own (Did (Cancel recv)) log); brings_none = λ source n. refl }

-- the receive ends so
cancel_ends : (own : Own) (recv : RecvNo) (log : List Deed) → new_ends own (Did (Cancel recv)) log ≡ Withdrawn recv.0 ∷ []
unfolding withdrawn_by forgotten_by
cancel_ends own recv log = stays_ends own (Did (Cancel recv)) log (cancel_stays own recv log)

-- the regions stay
cancel_regions : (own : Own) (recv : RecvNo) (log : List Deed) → own_regions own (Did (Cancel recv) ∷ log) ≡ own_regions own log
unfolding after_ends region_by
cancel_regions own recv log =
    let d : Deed = Did (Cancel recv) in
    let ms = told own (d ∷ log) in
    regions_step own d log
    ∙ ap (λ (es : List RecvEnd). after_ends ms (receives (d ∷ log)) es (own_regions own log) ++ region_by d) (cancel_ends own recv log)
    ∙ ap (λ (rs : List (List ℕ)). rs ++ []) (cancel_written ms recv.0 (receive_numbered (receives (d ∷ log)) (ended_recv (Withdrawn recv.0))) (own_regions own log))
    ∙ append-nil (own_regions own log)

-- and so does each byte
cancel_byte : (own : Own) (recv : RecvNo) (log : List Deed) (region place : ℕ) → region_byte own (Did (Cancel recv) ∷ log) region place ≡ region_byte own log region place
cancel_byte own recv log region place = ap (λ (rs : List (List ℕ)). slice_get (get_or rs region []) place) (cancel_regions own recv log)

-- the other live receives stay
cancel_live : (own : Own) (recv : RecvNo) (log : List Deed)
    → own_live_receives own (Did (Cancel recv) ∷ log) ≡ filter (λ (r : Receive). not (r.number == recv.0)) (own_live_receives own log)
unfolding received_by has_ended ended_recv
cancel_live own recv log =
    live_left own (Did (Cancel recv)) log refl
    ∙ filter_same (λ (r : Receive). not (has_ended (new_ends own (Did (Cancel recv)) log) r.number)) (λ (r : Receive). not (r.number == recv.0)) (own_live_receives own log)
    (λ r. ap (λ (es : List RecvEnd). not (has_ended es r.number)) (cancel_ends own recv log) ∙ ap not (or_none (recv.0 == r.number) ∙ eqb_other recv.0 r.number))

-- a receive that is taken back was not matched
pub cancel_unmatched : (own : Own) (recv : RecvNo) (log : List Deed) (r : Receive) → LifeStep own log (Did (Cancel recv)) → r.number ≡ recv.0 → pair_of own log r ≡ None
unfolding is_recv heard_by
cancel_unmatched own recv log r step same =
    let s = life_scene step.0 own step.1 log in
    let posted = posted_recv s recv.0 (did_posted s recv step.2 step.3) in
    let numbered = matching_numbered own.limits.first (told own log).head log in
    let found = find_member (is_recv recv.0) posted.0 _ posted.1 in
    find_nothing (λ (p : Pair). is_recv r.number p.recv) (own_pairs own log)
    (λ p m. false_from_ne_true (p.recv.id.0 == r.number) (λ h.
    numbered.gone p posted.0 m found.0 (eqb-true p.recv.id.0 r.number h ∙ same ∙ sym (eqb-true posted.0.id.0 recv.0 found.1))))

-- the range of a receive that was not matched holds the bytes of its region
free_part : (own : Own) (log : List Deed) (r : Receive) (k : ℕ) → pair_of own log r ≡ None → k < r.req.len
    → (kept_receive own log r).part k ≡ unwrap_or (region_byte own log r.req.region.0 (r.req.at + k)) 0
unfolding kept_receive byte_of_pair
free_part own log r k none lt =
    ap (λ (b : Bool). cond b (unwrap_or (byte_of_pair own log (pair_of own log r) k) (unwrap_or (region_byte own log r.req.region.0 (r.req.at + k)) 0)) 0) (lt-ltb k r.req.len lt)
    ∙ ap (λ (o : Option Pair). unwrap_or (byte_of_pair own log o k) (unwrap_or (region_byte own log r.req.region.0 (r.req.at + k)) 0)) none

-- so its bytes come home as they went out
free_home : (own : Own) (log : List Deed) (r : Receive) (region place : ℕ) → LifeLocal own log → Member r (receives log) → pair_of own log r ≡ None → is_place_of r.req region place ≡ true
    → Some ((kept_receive own log r).part (place - r.req.at)) ≡ region_byte own log region place
free_home own log r region place local m none h =
    let p = place_parts r.req region place h in
    let low = p.1 in
    let high = p.2 in
    let k : ℕ = place - r.req.at in
    let part = free_part own log r k none (omega arith) in
    let e : r.req.at + k ≡ place = omega arith in
    let there = some_of (slice_get (get_or (own_regions own log) region []) place) (slice_get_some (get_or (own_regions own log) region []) place (place_within own log r region place local m h)) in
    ap Some (part ∙ ap (λ (x : ℕ). unwrap_or (region_byte own log x (r.req.at + k)) 0) p.0 ∙ ap (λ (x : ℕ). unwrap_or (region_byte own log region x) 0) e
    ∙ ap (λ (o : Option ℕ). unwrap_or o 0) there.1)
    ∙ sym there.1

-- what is kept of receives and regions after a receive was taken back
pub receives_cancel : (own : Own) (recv : RecvNo) (log : List Deed) (v : Kept) → LifeLocal own (Did (Cancel recv) ∷ log) → KeepsReceives own log v
    → KeepsReceives own (Did (Cancel recv) ∷ log) (after (Did (Cancel recv)) v)
unfolding after after_instr after_cancel kept_receive is_out
receives_cancel own recv log v local k =
    let d : Deed = Did (Cancel recv) in
    let live = own_live_receives own log in
    let made = kept_receive own log in
    let gone : Receive → Bool = λ r. r.number == recv.0 in
    let left = cancel_live own recv log in
    record {
      home_is = λ region place.
          ap (λ (rs : List LiveReceive). with_back (filter (is_receive recv.0) rs) v.home region place) k.receives_are
          ∙ ap (λ (rs : List LiveReceive). with_back rs v.home region place) (filter_made made (is_receive recv.0) live)
          ∙ leave_home made gone live (region_byte own log) (region_byte own (d ∷ log)) v.home region place
          (λ q r m n h i. ranges_apart own log local.0 q r region place m n h i) (λ r. refl) (k.home_is region place)
          (λ r m g h. free_home own log r region place local.0 (live_is own log r m).0 (cancel_unmatched own recv log r local.1 (eqb-true r.number recv.0 g)) h ∙ sym (cancel_byte own recv log region place))
          (λ h. cancel_byte own recv log region place)
          ∙ ap (λ (rs : List Receive). cond (list_any (λ (r : Receive). is_place_of r.req region place) rs) None (region_byte own (d ∷ log) region place)) (sym left);
      receives_are =
          ap (filter (λ (r : LiveReceive). not (is_receive recv.0 r))) k.receives_are
          ∙ filter_made made (λ (r : LiveReceive). not (is_receive recv.0 r)) live
          ∙ map_same made (kept_receive own (d ∷ log)) (filter (λ (r : Receive). not (gone r)) live)
          (λ r m. sym (kept_stays own d log r local (pair_stays own d log r (cancel_stays own recv log).pairs_are)
          (λ p e. (cancel_stays own recv log).brings_none p.message.life p.message.no.0) (λ x lt. cancel_byte own recv log r.req.region.0 (r.req.at + x))))
          ∙ ap (map (kept_receive own (d ∷ log))) (sym left);
    }
