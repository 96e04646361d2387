-- The messages of a life enter one after another.
use Rattle.std.proofs.Common.{◌≡◌, ℕ, zero, suc, ◌+◌, Bool, true, false, cond, List, Option, Some, None, map, refl, arith, sym, ◌∙◌, ap, subst}
use Rattle.std.specs.Prelude.{◌==◌, ◌&&◌, find, if◌then◌else◌}
use Rattle.std.proofs.Math.Path.{fun_ext}
use Rattle.std.proofs.lemmas.Bool.{eqb-true, false_from_ne_true, and_parts}
use Rattle.rdm_lists.specs.Lists.{below, without_first}
use Rattle.rdm_lists.proofs.Same.{map_same}
use Rattle.rdm_num.specs.Lives.{same_life}
use Rattle.rdm_num.proofs.Lives.{same_life-refl}
use Rattle.rdm_num.specs.declared.numbers.Life.{Life}
use Rattle.rdm_match.specs.declared.PostedRecv.{PostedRecv}
use Rattle.rdm_match.specs.declared.Arrived.{Arrived}
use Rattle.rdm_match.specs.Matcher.{Arrive, accepts, run}
use Rattle.rdm_model.specs.Completions.{Name}
use Rattle.rdm_life.specs.Kept.{Kept, Peer, EarlyMessage, LiveReceive, receive_numbered}
use Rattle.rdm_life.specs.Landing.{is_full}
use Rattle.rdm_life.specs.Receiving.{lists_in, with_matching, tag_of, arrival_in, entering_in, numbers_in, enter}
use Rattle.rdm_life.proofs.Completing.{map_twice}
use Rattle.rdm_sound.specs.Premises.{AreOnce, AreNumbered, AreApart, posted_numbers}
use Rattle.rdm_sound.specs.Steps.{times, settle_found, with_end, with_next_window, with_replies, meet_one, arrive_found, arrive_one, enter_one}
use Rattle.rdm_sound.proofs.Arrives.{arrive_each, arrivals, name_of, arrives_each}
use Rattle.rdm_sound.proofs.Numbers.{map_below_first, once_below}
use Rattle.rdm_sound.proofs.Pairs.{taken}

-- ---- what is known of lives

-- other things are known of lives
abbrev pub knowing : Kept → (Life → Peer) → Kept
knowing v peers = record v { peers = peers }

settled_knowing : (is_new : Bool) (o : Option LiveReceive) (v : Kept) (peers : Life → Peer) → settle_found is_new o (knowing v peers) ≡ knowing (settle_found is_new o v) peers
unfolding settle_found
settled_knowing is_new None v peers = refl
settled_knowing is_new (Some r) v peers =
    elim (is_full r.matched) as (λ b. with_replies is_new r (cond b (with_end r (knowing v peers)) (with_next_window r (knowing v peers)))
    ≡ knowing (with_replies is_new r (cond b (with_end r v) (with_next_window r v))) peers) [ true ↦ refl | false ↦ refl ]

arrived_knowing : (a : Arrived) (o : Option PostedRecv) (v : Kept) (peers : Life → Peer) → arrive_found a o (knowing v peers) ≡ knowing (arrive_found a o v) peers
unfolding arrive_found meet_one
arrived_knowing a None v peers = refl
arrived_knowing a (Some r) v peers =
    let u = taken (record { recv = r; message = a }) (record v { posted = without_first (λ q. accepts q a) v.posted }) in
    settled_knowing true (receive_numbered u r.id.0) u peers

settled_peers : (is_new : Bool) (o : Option LiveReceive) (v : Kept) → (settle_found is_new o v).peers ≡ v.peers
unfolding settle_found
settled_peers is_new None v = refl
settled_peers is_new (Some r) v = elim (is_full r.matched) as (λ b. (with_replies is_new r (cond b (with_end r v) (with_next_window r v))).peers ≡ v.peers) [ true ↦ refl | false ↦ refl ]

pub arrived_peers : (a : Arrived) (o : Option PostedRecv) (v : Kept) → (arrive_found a o v).peers ≡ v.peers
unfolding arrive_found meet_one
arrived_peers a None v = refl
arrived_peers a (Some r) v =
    let u = taken (record { recv = r; message = a }) (record v { posted = without_first (λ q. accepts q a) v.posted }) in
    settled_peers true (receive_numbered u r.id.0) u

-- ---- what is early

settled_early : (is_new : Bool) (o : Option LiveReceive) (v : Kept) → (settle_found is_new o v).early ≡ v.early
unfolding settle_found
settled_early is_new None v = refl
settled_early is_new (Some r) v = elim (is_full r.matched) as (λ b. (with_replies is_new r (cond b (with_end r v) (with_next_window r v))).early ≡ v.early) [ true ↦ refl | false ↦ refl ]

-- an arrival leaves what is early of other numbers
pub arrived_early : (a : Arrived) (o : Option PostedRecv) (v : Kept) (source : Life) (n : ℕ) → (a.no.0 == n) ≡ false → (arrive_found a o v).early source n ≡ v.early source n
unfolding arrive_found meet_one
arrived_early a None v source n other = refl
arrived_early a (Some r) v source n other =
    let u = taken (record { recv = r; message = a }) (record v { posted = without_first (λ q. accepts q a) v.posted }) in
    let off : (same_life a.life source && a.no.0 == n) ≡ false = false_from_ne_true (same_life a.life source && a.no.0 == n) (λ e.
    let p = and_parts (same_life a.life source) (a.no.0 == n) e in let wrong : true ≡ false = sym p.1 ∙ other in cc) in
    ap (λ (f : Life → ℕ → Option EarlyMessage). f source n) (settled_early true (receive_numbered u r.id.0) u)
    ∙ ap (λ b. cond b None (v.early source n)) off

-- ---- numbers

-- a life's next number is so much further
abbrev pub further : Life → ℕ → (Life → Peer) → Life → Peer
further source k peers = λ other. if same_life other source then record (peers other) { next = (peers other).next + k } else peers other

pub further_twice : (source : Life) (j : ℕ) (peers : Life → Peer) → further source j (further source 1 peers) ≡ further source (suc j) peers
further_twice source j peers =
    fun_ext (λ other.
    let p = peers other in
    elim (same_life other source) as (λ b. cond b (record (cond b (record p { next = p.next + 1 }) p) { next = (cond b (record p { next = p.next + 1 }) p).next + j }) (cond b (record p { next = p.next + 1 }) p)
    ≡ cond b (record p { next = p.next + suc j }) p) [
      | true ↦ ap (λ (n : ℕ). record p { next = n }) (let e : p.next + 1 + j ≡ p.next + suc j = omega arith in e)
      | false ↦ refl
    ])

pub further_none : (source : Life) (peers : Life → Peer) → further source 0 peers ≡ peers
further_none source peers =
    fun_ext (λ other.
    let p = peers other in
    elim (same_life other source) as (λ b. cond b (record p { next = p.next + 0 }) p ≡ p) [
      | true ↦ ap (λ (n : ℕ). record p { next = n }) (let e : p.next + 0 ≡ p.next = omega arith in e)
      | false ↦ refl
    ])

next_further : (source : Life) (k : ℕ) (peers : Life → Peer) → (further source k peers source).next ≡ (peers source).next + k
next_further source k peers = ap (λ b. (cond b (record (peers source) { next = (peers source).next + k }) (peers source)).next) (same_life-refl source)

-- the message of a number, as it comes to the matcher
abbrev pub comes : Kept → Life → ℕ → Arrived
comes v source n = record { life = source; no = record { 0 = n }; tag = tag_of (v.early source n) }

comes_same : (v w : Kept) (source : Life) (m n : ℕ) → m ≡ n → w.early source n ≡ v.early source n → comes w source m ≡ comes v source n
comes_same v w source m n number early =
    ap (comes w source) number ∙ ap (λ (e : Option EarlyMessage). record { life = source; no = record { 0 = n }; tag = tag_of e }) early

-- ---- one after another

-- the messages that enter at once enter one after another
enters_times : (k : ℕ) (source : Life) (v : Kept)
    → arrive_each (map (λ j. comes v source ((v.peers source).next + j)) (below k)) (knowing v (further source k v.peers)) ≡ times k (enter_one source) v
unfolding below arrive_each times
enters_times zero source v = ap (knowing v) (further_none source v.peers)
enters_times (suc k) source v =
    let n = (v.peers source).next in
    let first = comes v source n in
    let f : ℕ → Arrived = λ j. comes v source (n + j) in
    let u : Kept = knowing v (further source (suc k) v.peers) in
    let t : PostedRecv → Bool = λ r. accepts r first in
    let one : Kept = knowing v (further source 1 v.peers) in
    let w : Kept = arrive_one first one in
    let zeroth : f 0 ≡ first = ap (comes v source) (let e : n + 0 ≡ n = omega arith in e) in
    let peers : w.peers ≡ further source 1 v.peers = arrived_peers first (find t v.posted) one in
    let next : (w.peers source).next ≡ n + 1 = ap (λ (ps : Life → Peer). (ps source).next) peers ∙ next_further source 1 v.peers in
    let same : knowing w (further source k w.peers) ≡ arrive_one first u =
    ap (λ (ps : Life → Peer). knowing w (further source k ps)) peers
    ∙ ap (knowing w) (further_twice source k v.peers)
    ∙ sym (arrived_knowing first (find t v.posted) one (further source (suc k) v.peers)) in
    let others : map (λ j. comes w source ((w.peers source).next + j)) (below k) ≡ map (λ j. f (suc j)) (below k) =
    map_same (λ j. comes w source ((w.peers source).next + j)) (λ j. f (suc j)) (below k)
    (λ j _. comes_same v w source ((w.peers source).next + j) (n + suc j) (omega arith)
    (arrived_early first (find t v.posted) one source (n + suc j) (false_from_ne_true (n == n + suc j) (λ e. let is = eqb-true n (n + suc j) e in absurd (omega arith))))) in
    ap (λ xs. arrive_each xs u) (map_below_first f k)
    ∙ ap (λ a. arrive_each (map (λ j. f (suc j)) (below k)) (arrive_one a u)) zeroth
    ∙ ap (λ x. arrive_each (map (λ j. f (suc j)) (below k)) x) (sym same)
    ∙ ap (λ xs. arrive_each xs (knowing w (further source k w.peers))) (sym others)
    ∙ enters_times k source w

pub enters_each : (source : Life) (v : Kept) → AreOnce (posted_numbers v.posted) → AreNumbered v.receives → AreApart v.receives
    → enter source v ≡ times (entering_in v source) (enter_one source) v
unfolding enter
enters_each source v posted numbered apart =
    let n = (v.peers source).next in
    let k = entering_in v source in
    let u : Kept = knowing v (further source k v.peers) in
    let f : ℕ → Arrived = λ j. comes v source (n + j) in
    let come : List Arrived = map f (below k) in
    let events : map (arrival_in v source) (numbers_in v source) ≡ arrivals come =
    map_twice (arrival_in v source) (λ j. n + j) (below k) ∙ sym (map_twice (λ (a : Arrived). Arrive a) f (below k)) in
    let names : AreOnce (map name_of come) = subst (λ (xs : List Name). AreOnce xs) (sym (map_twice name_of f (below k)))
    (once_below (λ j. name_of (f j)) k (λ i j e. let s : n + i ≡ n + j = ap (λ (x : Name). x.number) e in omega arith)) in
    ap (λ es. with_matching (run (lists_in v) es) u) events
    ∙ arrives_each come u posted names numbered apart
    ∙ enters_times k source v
