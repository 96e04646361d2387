-- What the code writes where a datagram is taken is what the definitions say.
use Rattle.std.proofs.Common.{◌≡◌, ℕ, true, false, List, Option, refl, ◌∙◌, ap}
use Rattle.std.specs.Prelude.{find, is_none, ◌==◌}
use Rattle.rdm_num.specs.declared.numbers.Life.{Life}
use Rattle.rdm_ep.specs.declared.state.Peer.{Peer}
use Rattle.rdm_ep.specs.declared.state.Verdict.TheVariants.{Features}
use Rattle.rdm_ep.specs.View.{EndpointView, current_in}
use Rattle.rdm_ep.specs.Peers.{peer_in, put_peer, known_peer}
use Rattle.rdm_ep.specs.Handling.{with_source, with_greeting}
use Rattle.rdm_ep.specs.Verdicts.{currents_with, peers_with, owed_with, with_features, verdict_effect}
use Rattle.rdm_ep.proofs.PeersLemmas.{with_peer_put}

-- the endpoint after a life was held and greeted, list by list
pub welcomed : (v : EndpointView) (from : Life) → ◌≡◌ {A = EndpointView}
    (record v { currents = currents_with from v.currents; peers = peers_with from v.peers; owed = owed_with from v.peers v.owed })
    (with_greeting from (with_source from v))
unfolding with_source with_greeting current_in currents_with peers_with owed_with
welcomed v from =
    elim (is_none (find (λ (l : Life). l.port.0 == from.port.0) v.currents)) as
    (λ b. is_none (find (λ (l : Life). l.port.0 == from.port.0) v.currents) ≡ b → ◌≡◌ {A = EndpointView}
    (record v { currents = currents_with from v.currents; peers = peers_with from v.peers; owed = owed_with from v.peers v.owed })
    (with_greeting from (with_source from v))) [
      | true ↦ λ is. elim (peer_in v.peers from).greeted as (λ b. (peer_in v.peers from).greeted ≡ b → ◌≡◌ {A = EndpointView}
          (record v { currents = currents_with from v.currents; peers = peers_with from v.peers; owed = owed_with from v.peers v.owed })
          (with_greeting from (with_source from v))) [
            | true ↦ λ was. rw (is, was) refl
            | false ↦ λ was. rw (is, was) refl
          ] refl
      | false ↦ λ is. elim (peer_in v.peers from).greeted as (λ b. (peer_in v.peers from).greeted ≡ b → ◌≡◌ {A = EndpointView}
          (record v { currents = currents_with from v.currents; peers = peers_with from v.peers; owed = owed_with from v.peers v.owed })
          (with_greeting from (with_source from v))) [
            | true ↦ λ was. rw (is, was) refl
            | false ↦ λ was. rw (is, was) refl
          ] refl
    ] refl

-- the endpoint with the features of a life written
pub features_written : (v : EndpointView) (from : Life) (word : Option ℕ) (currents : List Life) (peers : List Peer) (owed : List Life)
    → currents ≡ currents_with from v.currents → peers ≡ put_peer from (known_peer word (peer_in (peers_with from v.peers) from)) (peers_with from v.peers) → owed ≡ owed_with from v.peers v.owed
    → ◌≡◌ {A = EndpointView} (record v { currents = currents; peers = peers; owed = owed }) (verdict_effect from (Features word) v)
unfolding verdict_effect with_features
features_written v from word currents peers owed a b d =
    let w : ◌≡◌ {A = EndpointView} (record v { currents = currents; peers = peers; owed = owed })
    (with_features from word (record v { currents = currents_with from v.currents; peers = peers_with from v.peers; owed = owed_with from v.peers v.owed })) =
    rw (a, b, d, with_peer_put (known_peer word) from (peers_with from v.peers)) refl in
    w ∙ ap (with_features from word) (welcomed v from)
