-- What the code writes where a message and a receive meet is what the definitions say.
use Rattle.std.proofs.Common.{◌≡◌, ℕ, ◌+◌, ◌-◌, ◌<◌, true, false, ◌≤◌, List, [], ◌∷◌, ◌++◌, length, take, get_or, Some, None, refl, arith, ap, ◌∙◌, sym, subst}
use Rattle.std.specs.Prelude.{find, remove, slice_get}
use Rattle.std.proofs.lemmas.List.{length-append}
use Rattle.std.proofs.lemmas.List.Edits.{length-remove}
use Rattle.rdm_lists.specs.Lists.{without_first}
use Rattle.rdm_num.specs.declared.numbers.Life.{Life}
use Rattle.rdm_num.specs.declared.completion.Completion.{Completion}
use Rattle.rdm_model.specs.Regions.{change_at, put}
use Rattle.rdm_ep.specs.declared.state.Posted.{Posted}
use Rattle.rdm_ep.specs.declared.state.Inbound.{Inbound}
use Rattle.rdm_ep.specs.Counts.{IsInRange, RangesFit}
use Rattle.rdm_ep.specs.Places.{IsPlaced}
use Rattle.rdm_ep.specs.Receiving.{takes, completion_of}
use Rattle.rdm_ep.specs.Meeting.{Meeting, meeting_of, with_meeting, met, after_arrival, after_arrivals}
use Rattle.rdm_ep.specs.declared.state.Peer.{Peer}
use Rattle.rdm_ep.specs.declared.state.Verdict.TheVariants.{Message}
use Rattle.rdm_ep.specs.View.{EndpointView}
use Rattle.rdm_ep.specs.Peers.{peer_in, put_peer, with_peer, entered_peer}
use Rattle.rdm_ep.specs.Entering.{entering_by, left_by, with_next, with_ahead, with_message}
use Rattle.rdm_ep.specs.Verdicts.{currents_with, peers_with, owed_with, is_next_in, verdict_effect}
use Rattle.rdm_ep.proofs.PeersLemmas.{with_peer_put}
use Rattle.rdm_ep.proofs.Welcomed.{welcomed}
use Rattle.rdm_ep.proofs.Greeted.{entered_met}
use Rattle.rdm_ep.proofs.SoundLemmas.{ranges_without}
use Rattle.rdm_ep.proofs.RegionLemmas.{ranges_put, taken_lies}
use Rattle.rdm_lists.proofs.Members.{find_member}

-- the lists by themselves
abbrev pub meeting : List (List ℕ) → List Posted → List Inbound → List Completion → Meeting
meeting regions posted arrived completions = record { regions = regions; posted = posted; arrived = arrived; completions = completions }

-- the lists after a message that no receive takes
pub waits_is : (regions : List (List ℕ)) (posted : List Posted) (arrived now : List Inbound) (completions : List Completion) (i : Inbound)
    → find (λ p. takes p i) posted ≡ None → now ≡ arrived ++ i ∷ []
    → ◌≡◌ {A = Meeting} (record { regions = regions; posted = posted; arrived = now; completions = completions })
    (after_arrival (record { regions = regions; posted = posted; arrived = arrived; completions = completions }) i)
unfolding met
waits_is regions posted arrived now completions i none e = rw (e, none) refl

-- the receive that takes a message
pub taken_first : (posted : List Posted) (i : Inbound) (p : Posted) (at : ℕ) → IsPlaced (λ q. takes q i) posted at → slice_get posted at ≡ Some p → find (λ q. takes q i) posted ≡ Some p
taken_first posted i p at placed e = placed.found ∙ e

-- lies in its region
pub taken_in_range : (regions : List (List ℕ)) (posted : List Posted) (i : Inbound) (p : Posted) (at : ℕ) → IsPlaced (λ q. takes q i) posted at → slice_get posted at ≡ Some p
    → RangesFit regions posted → IsInRange regions p
taken_in_range regions posted i p at placed e fit = fit p (find_member (λ q. takes q i) p posted (taken_first posted i p at placed e)).0

-- and so do the bytes that it keeps
pub kept_in_range : (regions : List (List ℕ)) (posted : List Posted) (i : Inbound) (p : Posted) (at : ℕ) (kept all : List ℕ) → IsPlaced (λ q. takes q i) posted at → slice_get posted at ≡ Some p
    → RangesFit regions posted → kept ≡ take p.req.len all → p.req.at + length kept ≤ length (get_or regions p.req.region.0 [])
kept_in_range regions posted i p at kept all placed e fit k =
    taken_lies p.req.at p.req.len (length (get_or regions p.req.region.0 [])) kept all k (taken_in_range regions posted i p at placed e fit).1

-- the lists after a message that a receive takes
pub lands_is : (regions now : List (List ℕ)) (posted left : List Posted) (arrived : List Inbound) (completions done : List Completion) (i : Inbound) (p : Posted) (at : ℕ) (kept : List ℕ)
    → IsPlaced (λ q. takes q i) posted at → slice_get posted at ≡ Some p → left ≡ remove posted at → kept ≡ take p.req.len i.bytes
    → now ≡ change_at (put p.req.at kept) p.req.region.0 regions → done ≡ completions ++ completion_of p i ∷ []
    → ◌≡◌ {A = Meeting} (record { regions = now; posted = left; arrived = arrived; completions = done })
    (after_arrival (record { regions = regions; posted = posted; arrived = arrived; completions = completions }) i)
unfolding met
lands_is regions now posted left arrived completions done i p at kept placed e l k r d =
    let found = taken_first posted i p at placed e in
    let without = placed.without in
    rw (r, k, d, l, found, without) refl

-- the receives that are left lie in their regions
pub ranges_landed : (regions now : List (List ℕ)) (posted left : List Posted) (i : Inbound) (p : Posted) (at : ℕ) (kept all : List ℕ)
    → IsPlaced (λ q. takes q i) posted at → slice_get posted at ≡ Some p → left ≡ remove posted at → kept ≡ take p.req.len all
    → now ≡ change_at (put p.req.at kept) p.req.region.0 regions → RangesFit regions posted → RangesFit now left
ranges_landed regions now posted left i p at kept all placed e l k r fit =
    let fewer : without_first (λ q. takes q i) posted ≡ left = placed.without ∙ sym l in
    ranges_put p.req.region.0 p.req.at kept regions now left r (kept_in_range regions posted i p at kept all placed e fit k)
    (subst (λ (ps : List Posted). RangesFit regions ps) fewer (ranges_without (λ q. takes q i) regions posted fit))

-- a receive less, a completion more
pub places_landed : (posted left : List Posted) (completions done : List Completion) (at : ℕ) (c : Completion) → at < length posted → left ≡ remove posted at → done ≡ completions ++ c ∷ []
    → length left + length done ≡ length posted + length completions
places_landed posted left completions done at c h l d =
    let a : length left + 1 ≡ length posted = ap (λ (ps : List Posted). length ps + 1) l ∙ length-remove posted at h in
    let b : length done ≡ length completions + 1 = ap length d ∙ length-append completions (c ∷ []) in
    omega arith

-- the first of the messages that are left arrives
pub arrivals_first : (mt now : Meeting) (i : Inbound) (is left : List Inbound) → left ≡ i ∷ is → now ≡ after_arrival mt i → after_arrivals now is ≡ after_arrivals mt left
unfolding after_arrivals
arrivals_first mt now i is left e h = ap (λ (m : Meeting). after_arrivals m is) h ∙ ap (after_arrivals mt) (sym e)

-- no message is left
pub arrivals_done : (mt : Meeting) (left : List Inbound) → length left ≡ 0 → mt ≡ after_arrivals mt left
unfolding after_arrivals
arrivals_done mt [] e = refl
arrivals_done mt (i ∷ left) e = cc

-- the endpoint after messages arrived, by its lists
pub next_is : (v : EndpointView) (i : Inbound) (currents : List Life) (peers : List Peer) (owed : List Life) (held : List Inbound) (regions : List (List ℕ)) (posted : List Posted) (arrived : List Inbound)
    (completions : List Completion) → is_next_in v i ≡ true
    → currents ≡ currents_with i.life v.currents → owed ≡ owed_with i.life v.peers v.owed
    → peers ≡ put_peer i.life (entered_peer (length (entering_by i v.held)) (peer_in (peers_with i.life v.peers) i.life)) (peers_with i.life v.peers)
    → held ≡ left_by i v.held
    → meeting regions posted arrived completions ≡ after_arrivals (meeting_of v) (entering_by i v.held)
    → ◌≡◌ {A = EndpointView}
    (record v { regions = regions; currents = currents; peers = peers; posted = posted; arrived = arrived; held = held; owed = owed; completions = completions })
    (verdict_effect i.life (Message i) v)
unfolding verdict_effect with_message with_next
next_is v i currents peers owed held regions posted arrived completions next a b p h m =
    let w : ◌≡◌ {A = EndpointView}
    (record v { regions = regions; currents = currents; peers = peers; posted = posted; arrived = arrived; held = held; owed = owed; completions = completions })
    (with_meeting (after_arrivals (meeting_of v) (entering_by i v.held))
    (record v { currents = currents_with i.life v.currents; peers = with_peer (entered_peer (length (entering_by i v.held))) i.life (peers_with i.life v.peers); held = left_by i v.held; owed = owed_with i.life v.peers v.owed })) =
    rw (a, b, p, h, with_peer_put (entered_peer (length (entering_by i v.held))) i.life (peers_with i.life v.peers))
    (ap (λ (x : Meeting). with_meeting x (record v { currents = currents_with i.life v.currents; peers = put_peer i.life (entered_peer (length (entering_by i v.held)) (peer_in (peers_with i.life v.peers) i.life)) (peers_with i.life v.peers); held = left_by i v.held; owed = owed_with i.life v.peers v.owed })) m) in
    rw next (w ∙ ap (with_next i) (welcomed v i.life))

-- the endpoint after a message was held, by its lists
pub ahead_is : (v : EndpointView) (i : Inbound) (currents : List Life) (peers : List Peer) (owed : List Life) (held : List Inbound) → is_next_in v i ≡ false
    → currents ≡ currents_with i.life v.currents → peers ≡ peers_with i.life v.peers → owed ≡ owed_with i.life v.peers v.owed → held ≡ v.held ++ i ∷ []
    → ◌≡◌ {A = EndpointView} (record v { currents = currents; peers = peers; held = held; owed = owed }) (verdict_effect i.life (Message i) v)
unfolding verdict_effect with_message with_ahead
ahead_is v i currents peers owed held next a p b h =
    let w : ◌≡◌ {A = EndpointView} (record v { currents = currents; peers = peers; held = held; owed = owed })
    (with_ahead i (record v { currents = currents_with i.life v.currents; peers = peers_with i.life v.peers; owed = owed_with i.life v.peers v.owed })) =
    rw (a, p, b, h) refl in
    rw next (w ∙ ap (with_ahead i) (welcomed v i.life))

-- what is known of a life once its first datagram was taken has the count of its numbers
pub entered_welcomed : (from : Life) (peers : List Peer) (life : Life) → (peer_in (peers_with from peers) life).entered ≡ (peer_in peers life).entered
unfolding peers_with
entered_welcomed from peers life = entered_met from peers life

-- the peer that is written: so many more numbers have entered
pub peer_is : (first number next count : ℕ) (was : Peer) (entered : ℕ) → number ≡ first + entered → was.entered ≡ entered → next ≡ number + count
    → ◌≡◌ {A = Peer} (record was { entered = next - first }) (entered_peer count was)
peer_is first number next count was entered e w n =
    let z : next - first ≡ was.entered + count = omega arith in
    ap (λ (x : ℕ). record was { entered = x }) z
