-- What a receive that is accepted makes of what is kept, and a message that is new: the matcher's lists are those after the deed, and
-- the pairs that it makes meet.
use Rattle.std.proofs.Common.{◌≡◌, ℕ, List, ◌∷◌, length, Option, Some, None, refl, sym, ◌∙◌, ap}
use Rattle.rdm_num.specs.declared.numbers.Life.{Life}
use Rattle.rdm_num.specs.declared.numbers.PortNo.{PortNo}
use Rattle.rdm_num.specs.declared.request.RecvReq.{RecvReq}
use Rattle.rdm_match.specs.Matcher.{Matching, Post, after, run}
use Rattle.rdm_model.specs.declared.job.Instr.TheVariants.{Recv}
use Rattle.rdm_model.specs.Beginnings.{Own}
use Rattle.rdm_model.specs.Currents.{current, named_life}
use Rattle.rdm_model.specs.Deeds.{Deed, Did}
use Rattle.rdm_model.specs.Matches.{Receive, receive, receives, events_by}
use Rattle.rdm_life.specs.Kept.{Kept}
use Rattle.rdm_life.specs.Keeps.{own_matching, KeepsLives, KeepsMatching}
use Rattle.rdm_life.specs.Landing.{meet}
use Rattle.rdm_life.specs.Receiving.{lists_in, with_matching, named_in, receive_in, with_live, after_recv}
use Rattle.rdm_life.proofs.Made.{lists_before, made, matched_after}
use Rattle.rdm_life.proofs.Pairs.{own_events, posted_after, arrived_after}

-- the matcher's lists as they are kept
pub lists_are : (own : Own) (log : List Deed) (v : Kept) → KeepsMatching own log v → lists_in v ≡ lists_before own log
lists_are own log v k = rw (k.posted_is, k.arrived_is)

-- where the lists and what comes to them are those of the definitions, so are the lists after the deed
pub matching_is : (own : Own) (d : Deed) (before : List Deed) (v : Kept) (m : Matching) → m ≡ run (lists_before own before) (own_events own d before)
    → with_matching m v ≡ matched_after own d before v
matching_is own d before v m is =
    ap (λ (x : Matching). with_matching x v) is
    ∙ ap (λ (rs : List _). meet (made own d before) (record v { posted = rs; arrived = (run (lists_before own before) (own_events own d before)).arrived })) (sym (posted_after own d before))
    ∙ ap (λ (as' : List _). meet (made own d before) (record v { posted = (own_matching own (d ∷ before)).posted; arrived = as' })) (sym (arrived_after own d before))

-- ---- an accepted receive

-- the life that it names
named_is : (log : List Deed) (v : Kept) (from : Option PortNo) → ((port : ℕ) → v.current port ≡ current log port) → named_in v from ≡ named_life log from
unfolding named_in named_life
named_is log v None current_is = refl
named_is log v (Some port) current_is = current_is port.0

-- a receive by its number and the life that it names
abbrev a_receive : ℕ → RecvReq → Option Life → Receive
a_receive n req from = record { number = n; req = req; posted = record { id = record { 0 = n }; from = from; want = req.want } }

-- the receive that is accepted
pub receive_is : (own : Own) (log : List Deed) (v : Kept) (req : RecvReq) → KeepsLives own log v → receive_in v req ≡ receive (length (receives log)) log req
receive_is own log v req k =
    ap (λ (n : ℕ). a_receive n req (named_in v req.from)) k.receive_count_is
    ∙ ap (λ (o : Option Life). a_receive (length (receives log)) req o) (named_is log v req.from k.current_is)

-- what it makes of what is kept
pub recv_entered : (own : Own) (before : List Deed) (v : Kept) (req : RecvReq) → KeepsLives own before v → KeepsMatching own before v
    → after_recv req v ≡ matched_after own (Did (Recv req)) before (with_live (receive_in v req) v)
unfolding after_recv events_by run
recv_entered own before v req k m =
    matching_is own (Did (Recv req)) before (with_live (receive_in v req) v) (after (lists_in v) (Post (receive_in v req).posted))
    (ap (λ (x : Matching). after x (Post (receive_in v req).posted)) (lists_are own before v m) ∙ ap (λ (r : Receive). after (lists_before own before) (Post r.posted)) (receive_is own before v req k))
