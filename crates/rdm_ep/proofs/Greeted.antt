-- What the taking of a datagram tells of its life, and what it makes owed.
use Rattle.std.proofs.Common.{◌≡◌, ℕ, Bool, true, false, cond, not, List, [], ◌∷◌, ◌++◌, map, Option, None, refl, ap, ◌∙◌, sym}
use Rattle.std.specs.Prelude.{◌||◌, is_none}
use Rattle.std.specs.List.{list_any}
use Rattle.std.proofs.lemmas.List.{append-nil, map-append}
use Rattle.rdm_lists.specs.Lists.{or_else}
use Rattle.rdm_num.specs.Lives.{same_life}
use Rattle.rdm_num.specs.declared.numbers.Life.{Life}
use Rattle.rdm_model.specs.declared.job.Instr.TheVariants.{Insert}
use Rattle.rdm_model.specs.Deeds.{Deed, Did, Took, Item}
use Rattle.rdm_model.specs.Beginnings.{Own}
use Rattle.rdm_model.specs.Sends.{known_by, known_word}
use Rattle.rdm_model.specs.Replies.{Reply, meets, greets, handshake_by}
use Rattle.rdm_ep.specs.declared.state.Peer.{Peer}
use Rattle.rdm_ep.specs.declared.state.Outbound.{Outbound}
use Rattle.rdm_ep.specs.View.{EndpointView, current_in}
use Rattle.rdm_ep.specs.Peers.{peer_in, with_peer, greeted_peer, known_peer}
use Rattle.rdm_ep.specs.Handling.{with_source, with_greeting}
use Rattle.rdm_ep.specs.Eager.{IsEagerDeed, IsEager}
use Rattle.rdm_ep.specs.Keeps.{handshake_to, is_from}
use Rattle.rdm_ep.proofs.Currents.{of_port, shown_by, current_step}
use Rattle.rdm_ep.proofs.PeersOf.{peer_kept, peer_changed}
use Rattle.rdm_ep.proofs.Pushes.{replies_left, replies_step}
use Rattle.rdm_ep.proofs.Groups.{current_of, LivesKept, SendsKept, OwedKept}
use Rattle.rdm_ep.proofs.KeepsQuiet.{with_current, with_current_is}
use Rattle.rdm_lists.proofs.Options.{or_else-none}
use Rattle.rdm_lists.proofs.Bools.{cond_is_or}
use Rattle.rdm_num.proofs.Lives.{same_life-true, same_life-refl}

-- what is known of lives once a datagram of that one was taken
abbrev pub greeted_peers : Life → List Peer → List Peer
greeted_peers from peers = cond (peer_in peers from).greeted peers (with_peer greeted_peer from peers)

-- the lives that are owed a handshake then
abbrev pub greeted_owed : Life → List Peer → List Life → List Life
greeted_owed from peers owed = cond (peer_in peers from).greeted owed (owed ++ from ∷ [])

-- the endpoint once a datagram of that life was taken
abbrev pub met_view : Life → EndpointView → EndpointView
met_view from v = record v { currents = with_current from v.currents; peers = greeted_peers from v.peers; owed = greeted_owed from v.peers v.owed }

-- the current lives once a datagram of that life was taken
met_by_source : (from : Life) (v : EndpointView) → with_source from v ≡ record v { currents = with_current from v.currents }
unfolding with_source current_in
met_by_source from v =
    elim (is_none (current_of v.currents from.port.0)) as (λ b.
    cond b (record v { currents = v.currents ++ from ∷ [] }) v ≡ record v { currents = cond b (v.currents ++ from ∷ []) v.currents }) [
      | true ↦ refl
      | false ↦ refl
    ]

-- the peers and what is owed once a datagram of that life was taken
met_by_greeting : (from : Life) (v : EndpointView) → with_greeting from v ≡ record v { peers = greeted_peers from v.peers; owed = greeted_owed from v.peers v.owed }
unfolding with_greeting
met_by_greeting from v =
    elim (peer_in v.peers from).greeted as (λ b.
    cond b v (record v { peers = with_peer greeted_peer from v.peers; owed = v.owed ++ from ∷ [] })
    ≡ record v { peers = cond b v.peers (with_peer greeted_peer from v.peers); owed = cond b v.owed (v.owed ++ from ∷ []) }) [
      | true ↦ refl
      | false ↦ refl
    ]

-- the endpoint once a datagram of that life was taken
pub met_is : (from : Life) (v : EndpointView) → with_greeting from (with_source from v) ≡ met_view from v
met_is from v = ap (with_greeting from) (met_by_source from v) ∙ met_by_greeting from (record v { currents = with_current from v.currents })

-- a value of a peer that a greeting leaves
greeted_keeps : {A : Type 0} (g : Peer → A) (from : Life) (peers : List Peer) (life : Life) → ((p : Peer) → g (greeted_peer p) ≡ g p)
    → g (peer_in (greeted_peers from peers) life) ≡ g (peer_in peers life)
greeted_keeps g from peers life same =
    elim (peer_in peers from).greeted as (λ b. g (peer_in (cond b peers (with_peer greeted_peer from peers)) life) ≡ g (peer_in peers life)) [
      | true ↦ refl
      | false ↦ peer_kept g greeted_peer from peers life (λ p. refl) same
    ]

-- a life was greeted before, or is the one that is now
greeted_is : (from : Life) (peers : List Peer) (life : Life)
    → (peer_in (greeted_peers from peers) life).greeted ≡ (same_life from life || (peer_in peers life).greeted)
greeted_is from peers life =
    (elim (peer_in peers from).greeted as (λ b. (peer_in peers from).greeted ≡ b →
    (peer_in (cond b peers (with_peer greeted_peer from peers)) life).greeted ≡ (same_life from life || (peer_in peers life).greeted)) [
      | true ↦ λ e.
          (elim (same_life from life) as (λ s. same_life from life ≡ s → (peer_in peers life).greeted ≡ (s || (peer_in peers life).greeted)) [
            | true ↦ λ s. sym (ap (λ (l : Life). (peer_in peers l).greeted) (same_life-true from life s)) ∙ e
            | false ↦ λ s. refl
          ]) refl
      | false ↦ λ e.
          peer_changed (λ p. p.greeted) greeted_peer from peers life (λ p. refl) ∙ cond_is_or (same_life from life) (peer_in peers life).greeted
    ]) refl

-- which lives are current and greeted after a datagram was taken, where it tells what that says of features
pub lives_met : (own : Own) (from : Life) (item : Item) (log : List Deed) (currents : List Life) (peers now : List Peer) → IsEager own (Took from item ∷ log)
    → ((life : Life) → (peer_in now life).greeted ≡ (peer_in (greeted_peers from peers) life).greeted)
    → ((life : Life) → (peer_in now life).known ≡ or_else (known_word log life) (known_by life (Took from item)))
    → LivesKept log currents peers → LivesKept (Took from item ∷ log) (with_current from currents) now
unfolding shown_by is_from known_word
lives_met own from item log currents peers now h g w k =
    record {
      currents_are = λ port.
          with_current_is from currents port ∙ ap (λ (x : Option Life). or_else x (of_port port from)) (k.currents_are port) ∙ sym (current_step own (Took from item) log port h.1);
      greeted_are = λ life. g life ∙ greeted_is from peers life ∙ ap (λ (b : Bool). same_life from life || b) (k.greeted_are life);
      known_are = w;
    }

-- a greeting leaves the features that are known
pub known_met : (from : Life) (peers : List Peer) (life : Life) → (peer_in (greeted_peers from peers) life).known ≡ (peer_in peers life).known
known_met from peers life = greeted_keeps (λ p. p.known) from peers life (λ p. refl)

-- features that are told
pub known_told : (log : List Deed) (from : Life) (peers : List Peer) (word : Option ℕ) (life : Life) → (peer_in peers from).known ≡ None
    → ((l : Life) → (peer_in peers l).known ≡ known_word log l)
    → (peer_in (with_peer (known_peer word) from (greeted_peers from peers)) life).known ≡ or_else (known_word log life) (cond (same_life from life) word None)
unfolding or_else
known_told log from peers word life none k =
    peer_changed (λ p. p.known) (known_peer word) from (greeted_peers from peers) life (λ p. refl)
    ∙ ap (λ (o : Option ℕ). cond (same_life from life) word o) (known_met from peers life ∙ k life)
    ∙ (elim (same_life from life) as (λ s. same_life from life ≡ s → cond s word (known_word log life) ≡ or_else (known_word log life) (cond s word None)) [
      | true ↦ λ s.
          let e : known_word log life ≡ None = sym (k life) ∙ sym (ap (λ (l : Life). (peer_in peers l).known) (same_life-true from life s)) ∙ none in
          rw e refl
      | false ↦ λ s. sym (or_else-none (known_word log life))
    ]) refl

-- features that are told leave whether the life was greeted
pub greeted_told : (from : Life) (peers : List Peer) (word : Option ℕ) (life : Life)
    → (peer_in (with_peer (known_peer word) from (greeted_peers from peers)) life).greeted ≡ (peer_in (greeted_peers from peers) life).greeted
greeted_told from peers word life = peer_kept (λ p. p.greeted) (known_peer word) from (greeted_peers from peers) life (λ p. refl) (λ p. refl)

-- a datagram that was taken leaves how many messages were sent
pub sent_met : (from : Life) (peers : List Peer) (life : Life) → (peer_in (greeted_peers from peers) life).sent ≡ (peer_in peers life).sent
sent_met from peers life = greeted_keeps (λ p. p.sent) from peers life (λ p. refl)

-- and how many numbers have entered
pub entered_met : (from : Life) (peers : List Peer) (life : Life) → (peer_in (greeted_peers from peers) life).entered ≡ (peer_in peers life).entered
entered_met from peers life = greeted_keeps (λ p. p.entered) from peers life (λ p. refl)

-- and so do features that are told
pub entered_told : (from : Life) (peers : List Peer) (word : Option ℕ) (life : Life)
    → (peer_in (with_peer (known_peer word) from (greeted_peers from peers)) life).entered ≡ (peer_in peers life).entered
entered_told from peers word life =
    peer_kept (λ p. p.entered) (known_peer word) from (greeted_peers from peers) life (λ p. refl) (λ p. refl) ∙ entered_met from peers life

-- the same of what was sent
pub sent_told : (from : Life) (peers : List Peer) (word : Option ℕ) (life : Life)
    → (peer_in (with_peer (known_peer word) from (greeted_peers from peers)) life).sent ≡ (peer_in peers life).sent
sent_told from peers word life =
    peer_kept (λ p. p.sent) (known_peer word) from (greeted_peers from peers) life (λ p. refl) (λ p. refl) ∙ sent_met from peers life

-- sends by what is known of lives
pub sends_met : (own : Own) (log : List Deed) (count : ℕ) (peers now : List Peer) (outgoing : List Outbound) → ((life : Life) → (peer_in now life).sent ≡ (peer_in peers life).sent)
    → SendsKept own log count peers outgoing → SendsKept own log count now outgoing
sends_met own log count peers now outgoing e k =
    record { sent_are = λ life. e life ∙ k.sent_are life; sends_are = k.sends_are; outgoing_are = k.outgoing_are }

-- an eager deed meets a life where it takes a datagram from it
met_by_eager : (own : Own) (before : List Deed) (life : Life) (d : Deed) → IsEagerDeed own before d → meets own life d ≡ is_from life d
unfolding meets is_from
met_by_eager own before life (Did (Insert inserted)) h = let e = h.1 in rw e refl
met_by_eager own before life d h = refl

-- so the lives that were met are those that datagrams came from
met_is_from : (own : Own) (log : List Deed) (life : Life) → IsEager own log → list_any (meets own life) log ≡ list_any (is_from life) log
met_is_from own [] life h = refl
met_is_from own (d ∷ before) life h = let a = met_by_eager own before life d h.1 in let b = met_is_from own before life h.0 in rw (a, b) refl

-- the first datagram from a life is answered by a handshake
greets_is : (own : Own) (from : Life) (item : Item) (log : List Deed) → IsEager own log
    → handshake_by own log (Took from item) ≡ cond (list_any (is_from from) log) [] (handshake_to own from ∷ [])
unfolding handshake_by greets meets
greets_is own from item log h =
    let a = same_life-refl from in
    let b = met_is_from own log from h in
    rw (a, b) (elim (list_any (is_from from) log) as (λ t. cond (not t) (handshake_to own from ∷ []) [] ≡ cond t [] (handshake_to own from ∷ [])) [
      | true ↦ refl
      | false ↦ refl
    ])

-- the first datagram from a life makes a handshake owed
pub owed_met : (own : Own) (from : Life) (item : Item) (log : List Deed) (peers : List Peer) (owed : List Life) → IsEager own (Took from item ∷ log)
    → (peer_in peers from).greeted ≡ list_any (is_from from) log → OwedKept own log owed → OwedKept own (Took from item ∷ log) (greeted_owed from peers owed)
unfolding replies_left
owed_met own from item log peers owed h e k =
    ap (λ (b : Bool). map (handshake_to own) (cond b owed (owed ++ from ∷ []))) e
    ∙ (elim (list_any (is_from from) log) as (λ b. map (handshake_to own) (cond b owed (owed ++ from ∷ [])) ≡ map (handshake_to own) owed ++ cond b [] (handshake_to own from ∷ [])) [
      | true ↦ sym (append-nil (map (handshake_to own) owed))
      | false ↦ map-append (handshake_to own) owed (from ∷ [])
    ])
    ∙ ap (λ (rs : List Reply). map (handshake_to own) owed ++ rs) (sym (greets_is own from item log h.0))
    ∙ ap (λ (rs : List Reply). rs ++ handshake_by own log (Took from item)) k
    ∙ sym (replies_step own (Took from item) log h)
