-- What messages that arrive one after the other make of an endpoint's lists is what the matcher makes of them.
use Rattle.std.proofs.Common.{◌≡◌, ℕ, ◌+◌, ◌⊎◌, inl, inr, List, [], ◌∷◌, ◌++◌, map, length, Option, Some, None, refl, arith, ap, ◌∙◌, sym, subst}
use Rattle.std.specs.Prelude.{find, option_map}
use Rattle.std.proofs.lemmas.List.{append-nil, append_assoc, map-append, length-append}
use Rattle.rdm_lists.specs.Lists.{Member, without_first}
use Rattle.rdm_num.specs.declared.completion.Completion.{Completion}
use Rattle.rdm_match.specs.declared.PostedRecv.{PostedRecv}
use Rattle.rdm_match.specs.declared.Arrived.{Arrived}
use Rattle.rdm_match.specs.Matcher.{Event, Arrive, Pair, Matching, accepts, after_arrive, after, run}
use Rattle.rdm_model.specs.Beginnings.{Messages}
use Rattle.rdm_model.specs.Matches.{Receive}
use Rattle.rdm_model.specs.Receives.{RecvEnd, Filled, ended_recv, receive_numbered}
use Rattle.rdm_model.specs.Regions.{after_end, after_ends}
use Rattle.rdm_model.specs.Completions.{recv_completion, recv_completions}
use Rattle.rdm_ep.specs.declared.state.Posted.{Posted}
use Rattle.rdm_ep.specs.declared.state.Inbound.{Inbound}
use Rattle.rdm_ep.specs.Receiving.{arrived_message, takes}
use Rattle.rdm_ep.specs.Meeting.{Meeting, met, after_arrivals}
use Rattle.rdm_ep.specs.Keeps.{posted_of, IsToldBy}
use Rattle.rdm_ep.proofs.Options.{find-map, without-map}
use Rattle.rdm_ep.proofs.Pairs.{met_by, met_by_arrive, met_by_all}
use Rattle.rdm_ep.proofs.Live.{seen, live_arrive, live_arrivals, met_found, arrive_waits}
use Rattle.rdm_ep.proofs.Fills.{IsFill, fill_written, fill_completes}
use Rattle.rdm_lists.proofs.Members.{member-append_cases, find_member, without_member}
use Rattle.rdm_lists.proofs.Same.{find_where, without_where}

-- the receives are accepted ones, each under its number
abbrev pub AreAmong : List Receive → List Receive → Type 0
AreAmong rs live = (r : Receive) → Member r live → (receive_numbered rs r.number ≡ Some r) × (r.posted ≡ record { id = record { 0 = r.number }; from = r.posted.from; want = r.req.want })

-- lists that hold what the matcher holds
pub record MeetsAs (mt : Meeting) (live : List Receive) (m : Matching) : Type 0 where
  pub posted_are : mt.posted ≡ map posted_of live
  pub waiting : map seen live ≡ m.posted
  pub arrived_are : map arrived_message mt.arrived ≡ m.arrived

-- a receive that is kept takes what the matcher's one accepts
takes_is : (i : Inbound) (r : Receive) → r.posted ≡ record { id = record { 0 = r.number }; from = r.posted.from; want = r.req.want } → takes (posted_of r) i ≡ accepts r.posted (arrived_message i)
unfolding takes
takes_is i r e = ap (λ (x : PostedRecv). accepts x (arrived_message i)) (sym e)

-- the receive that takes the message is the live one that meets it
pub takes_found : (rs live : List Receive) (i : Inbound) → AreAmong rs live
    → find (λ p. takes p i) (map posted_of live) ≡ option_map posted_of (find (λ (r : Receive). accepts r.posted (arrived_message i)) live)
takes_found rs live i among =
    find-map posted_of (λ p. takes p i) live
    ∙ ap (option_map posted_of) (find_where (λ r. takes (posted_of r) i) (λ (r : Receive). accepts r.posted (arrived_message i)) live (λ r m. takes_is i r (among r m).1))

-- the posted receives then
posted_met : (rs live : List Receive) (i : Inbound) (mt : Meeting) (o : Option Receive) → AreAmong rs live → mt.posted ≡ map posted_of live
    → (met mt i (option_map posted_of o)).posted ≡ map posted_of (live_arrive live (arrived_message i) o)
unfolding met live_arrive
posted_met rs live i mt None among e = e
posted_met rs live i mt (Some r) among e =
    ap (without_first (λ q. takes q i)) e ∙ without-map posted_of (λ q. takes q i) live
    ∙ ap (map posted_of) (without_where (λ x. takes (posted_of x) i) (λ (x : Receive). accepts x.posted (arrived_message i)) live (λ x m. takes_is i x (among x m).1))

-- the messages that wait then
arrived_met : (m : Matching) (i : Inbound) (mt : Meeting) (o : Option Receive) → map arrived_message mt.arrived ≡ m.arrived
    → map arrived_message (met mt i (option_map posted_of o)).arrived ≡ (after_arrive m (arrived_message i) (option_map seen o)).arrived
unfolding met after_arrive
arrived_met m i mt None e = map-append arrived_message mt.arrived (i ∷ []) ∙ ap (λ (as' : List Arrived). as' ++ arrived_message i ∷ []) e
arrived_met m i mt (Some r) e = e

-- fewer receives are among the accepted ones
among_left : (rs live : List Receive) (a : Arrived) (o : Option Receive) → AreAmong rs live → AreAmong rs (live_arrive live a o)
unfolding live_arrive
among_left rs live a None among r m = among r m
among_left rs live a (Some x) among r m = among r (without_member (λ (q : Receive). accepts q.posted a) r live m)

-- the pair that a message makes is of that receive
meets_fill : (ms : Messages) (rs : List Receive) (i : Inbound) (r : Receive) → IsToldBy ms i → (receive_numbered rs r.number ≡ Some r) × (r.posted ≡ record { id = record { 0 = r.number }; from = r.posted.from; want = r.req.want })
    → IsFill ms rs (record { recv = r.posted; message = arrived_message i }) r i
meets_fill ms rs i r told among =
    record {
      numbered = ap (λ (p : PostedRecv). receive_numbered rs p.id.0) among.1 ∙ among.0;
      message = refl;
      head = told.0;
      bytes = told.1;
    }

-- the regions then
regions_met : (ms : Messages) (rs : List Receive) (i : Inbound) (mt : Meeting) (o : Option Receive) → IsToldBy ms i
    → ((r : Receive) → o ≡ Some r → (receive_numbered rs r.number ≡ Some r) × (r.posted ≡ record { id = record { 0 = r.number }; from = r.posted.from; want = r.req.want }))
    → (met mt i (option_map posted_of o)).regions ≡ after_ends ms rs (map Filled (met_by_arrive (arrived_message i) (option_map seen o))) mt.regions
unfolding met met_by_arrive after_ends
regions_met ms rs i mt None told among = refl
regions_met ms rs i mt (Some r) told among = sym (fill_written ms rs (record { recv = r.posted; message = arrived_message i }) r i mt.regions (meets_fill ms rs i r told (among r refl)))

-- the completions then
completions_met : (ms : Messages) (rs : List Receive) (i : Inbound) (mt : Meeting) (o : Option Receive) → IsToldBy ms i
    → ((r : Receive) → o ≡ Some r → (receive_numbered rs r.number ≡ Some r) × (r.posted ≡ record { id = record { 0 = r.number }; from = r.posted.from; want = r.req.want }))
    → (met mt i (option_map posted_of o)).completions ≡ mt.completions ++ recv_completions ms rs (map Filled (met_by_arrive (arrived_message i) (option_map seen o)))
unfolding met met_by_arrive recv_completions
completions_met ms rs i mt None told among = sym (append-nil mt.completions)
completions_met ms rs i mt (Some r) told among =
    ap (λ (cs : List Completion). mt.completions ++ cs) (sym (fill_completes ms rs (record { recv = r.posted; message = arrived_message i }) r i (meets_fill ms rs i r told (among r refl))))

-- a message that waits then did before, or is the new one
waits_met : (i j : Inbound) (mt : Meeting) (o : Option Posted) → Member j (met mt i o).arrived → Member j mt.arrived ⊎ (i ≡ j)
unfolding met
waits_met i j mt None m =
    elim (member-append_cases j mt.arrived (i ∷ []) m) [
      | inl a ↦ inl a
      | inr a ↦ elim a [ inl is ↦ inr is | inr never ↦ elim never [ ] ]
    ]
waits_met i j mt (Some p) m = inl m

-- how many wait then
count_met : (i : Inbound) (mt : Meeting) (o : Option Receive)
    → length (met mt i (option_map posted_of o)).arrived + length (met_by_arrive (arrived_message i) (option_map seen o)) ≡ length mt.arrived + 1
unfolding met met_by_arrive
count_met i mt None = let l = length-append mt.arrived (i ∷ []) in omega arith
count_met i mt (Some r) = omega arith

-- ends one after the other
ends_append : (ms : Messages) (rs : List Receive) (xs ys : List RecvEnd) (regions : List (List ℕ)) → after_ends ms rs (xs ++ ys) regions ≡ after_ends ms rs ys (after_ends ms rs xs regions)
unfolding after_ends
ends_append ms rs [] ys regions = refl
ends_append ms rs (x ∷ xs) ys regions = ends_append ms rs xs ys (after_end ms x (receive_numbered rs (ended_recv x)) regions)

-- their completions
completions_append : (ms : Messages) (rs : List Receive) (xs ys : List RecvEnd) → recv_completions ms rs (xs ++ ys) ≡ recv_completions ms rs xs ++ recv_completions ms rs ys
unfolding recv_completions
completions_append ms rs [] ys = refl
completions_append ms rs (x ∷ xs) ys =
    ap (λ (cs : List Completion). recv_completion ms rs x ++ cs) (completions_append ms rs xs ys) ∙ sym (append_assoc (recv_completion ms rs x) (recv_completions ms rs xs) (recv_completions ms rs ys))

-- messages as what comes to a matcher
abbrev pub arrivals : List Inbound → List Event
arrivals is = map Arrive (map arrived_message is)

-- what arrivals made of lists and of the matcher
pub record Arrivals (ms : Messages) (rs : List Receive) (is : List Inbound) (mt : Meeting) (live : List Receive) (m : Matching) : Type 0 where
  pub meets : MeetsAs (after_arrivals mt is) (live_arrivals live (map arrived_message is)) (run m (arrivals is))
  pub regions_are : (after_arrivals mt is).regions ≡ after_ends ms rs (map Filled (met_by_all m (arrivals is))) mt.regions
  pub completions_are : (after_arrivals mt is).completions ≡ mt.completions ++ recv_completions ms rs (map Filled (met_by_all m (arrivals is)))
  pub waits : (j : Inbound) → Member j (after_arrivals mt is).arrived → Member j mt.arrived ⊎ Member j is
  pub count : length (after_arrivals mt is).arrived + length (met_by_all m (arrivals is)) ≡ length mt.arrived + length is

-- after one message, and those after it
arrivals_more : (ms : Messages) (rs : List Receive) (i : Inbound) (is : List Inbound) (mt : Meeting) (live : List Receive) (m : Matching) (o : Option Receive)
    → IsToldBy ms i → AreAmong rs live → MeetsAs mt live m → find (λ (r : Receive). accepts r.posted (arrived_message i)) live ≡ o
    → Arrivals ms rs is (met mt i (option_map posted_of o)) (live_arrive live (arrived_message i) o) (after_arrive m (arrived_message i) (option_map seen o))
    → Arrivals ms rs (i ∷ is) mt live m
unfolding after_arrivals live_arrivals run after met_by_all met_by
arrivals_more ms rs i is mt live m o told among k found rest =
    let a = arrived_message i in
    let of_one : (r : Receive) → o ≡ Some r → (receive_numbered rs r.number ≡ Some r) × (r.posted ≡ record { id = record { 0 = r.number }; from = r.posted.from; want = r.req.want }) =
    λ r e. among r (find_member (λ (x : Receive). accepts x.posted a) r live (found ∙ e)).0 in
    let here : find (λ p. takes p i) mt.posted ≡ option_map posted_of o =
    ap (find (λ p. takes p i)) k.posted_are ∙ takes_found rs live i among ∙ ap (option_map posted_of) found in
    let there : find (λ r. accepts r a) m.posted ≡ option_map seen o = met_found live m a k.waiting ∙ ap (option_map seen) found in
    let one = met_by_arrive a (option_map seen o) in
    let more = met_by_all (after_arrive m a (option_map seen o)) (arrivals is) in
    let c = count_met i mt o in
    let n = rest.count in
    let l = length-append one more in
    let lists : after_arrivals mt (i ∷ is) ≡ after_arrivals (met mt i (option_map posted_of o)) is = ap (λ (x : Option Posted). after_arrivals (met mt i x) is) here in
    let lives : live_arrivals live (map arrived_message (i ∷ is)) ≡ live_arrivals (live_arrive live a o) (map arrived_message is) =
    ap (λ (x : Option Receive). live_arrivals (live_arrive live a x) (map arrived_message is)) found in
    let runs : run m (arrivals (i ∷ is)) ≡ run (after_arrive m a (option_map seen o)) (arrivals is) = ap (λ (x : Option PostedRecv). run (after_arrive m a x) (arrivals is)) there in
    let pairs : met_by_all m (arrivals (i ∷ is)) ≡ one ++ more = ap (λ (x : Option PostedRecv). met_by_arrive a x ++ met_by_all (after_arrive m a x) (arrivals is)) there in
    record {
      meets =
          subst (λ (x : Meeting). MeetsAs x (live_arrivals live (map arrived_message (i ∷ is))) (run m (arrivals (i ∷ is)))) (sym lists)
          (subst (λ (x : List Receive). MeetsAs (after_arrivals (met mt i (option_map posted_of o)) is) x (run m (arrivals (i ∷ is)))) (sym lives)
          (subst (λ (x : Matching). MeetsAs (after_arrivals (met mt i (option_map posted_of o)) is) (live_arrivals (live_arrive live a o) (map arrived_message is)) x) (sym runs) rest.meets));
      regions_are =
          ap (λ (x : Meeting). x.regions) lists ∙ rest.regions_are ∙ ap (after_ends ms rs (map Filled more)) (regions_met ms rs i mt o told of_one)
          ∙ sym (ends_append ms rs (map Filled one) (map Filled more) mt.regions) ∙ ap (λ es. after_ends ms rs es mt.regions) (sym (map-append Filled one more))
          ∙ ap (λ (ps : List Pair). after_ends ms rs (map Filled ps) mt.regions) (sym pairs);
      completions_are =
          ap (λ (x : Meeting). x.completions) lists ∙ rest.completions_are
          ∙ ap (λ (cs : List Completion). cs ++ recv_completions ms rs (map Filled more)) (completions_met ms rs i mt o told of_one)
          ∙ append_assoc mt.completions (recv_completions ms rs (map Filled one)) (recv_completions ms rs (map Filled more))
          ∙ ap (λ (cs : List Completion). mt.completions ++ cs) (sym (completions_append ms rs (map Filled one) (map Filled more)) ∙ ap (recv_completions ms rs) (sym (map-append Filled one more)))
          ∙ ap (λ (ps : List Pair). mt.completions ++ recv_completions ms rs (map Filled ps)) (sym pairs);
      waits = λ j h. elim (rest.waits j (subst (λ (x : Meeting). Member j x.arrived) lists h)) [
        | inl x ↦ elim (waits_met i j mt (option_map posted_of o) x) [ inl y ↦ inl y | inr y ↦ inr (inl y) ]
        | inr x ↦ inr (inr x)
      ];
      count = (let x = ap (λ (y : Meeting). length y.arrived) lists in let z = ap (λ (ps : List Pair). length ps) pairs in omega arith);
    }

-- after messages arrived
pub arrivals_meet : (ms : Messages) (rs : List Receive) (is : List Inbound) (mt : Meeting) (live : List Receive) (m : Matching) → ((i : Inbound) → Member i is → IsToldBy ms i)
    → AreAmong rs live → MeetsAs mt live m → Arrivals ms rs is mt live m
unfolding after_arrivals live_arrivals run met_by_all after_ends recv_completions
arrivals_meet ms rs [] mt live m told among k =
    record { meets = k; regions_are = refl; completions_are = sym (append-nil mt.completions); waits = λ j h. inl h; count = omega arith }
arrivals_meet ms rs (i ∷ is) mt live m told among k =
    let a = arrived_message i in
    let o = find (λ (r : Receive). accepts r.posted a) live in
    arrivals_more ms rs i is mt live m o (told i (inl refl)) among k refl
    (arrivals_meet ms rs is (met mt i (option_map posted_of o)) (live_arrive live a o) (after_arrive m a (option_map seen o)) (λ j h. told j (inr h)) (among_left rs live a o among)
    (record {
      posted_are = posted_met rs live i mt o among k.posted_are;
      waiting = arrive_waits live m a o k.waiting;
      arrived_are = arrived_met m i mt o k.arrived_are;
    }))
