-- An accepted send as the endpoint keeps it.
use Rattle.std.proofs.Common.{◌≡◌, ℕ, ◌+◌, List, [], ◌∷◌, ◌++◌, Some, refl}
use Rattle.rdm_num.specs.declared.request.SendReq.{SendReq}
use Rattle.rdm_pkt.specs.declared.Packet.TheVariants.{Rtm}
use Rattle.rdm_pkt.specs.declared.Form.TheVariants.{Eager}
use Rattle.rdm_model.specs.Sends.{wants_raw, opt_for, bytes_of}
use Rattle.rdm_ep.specs.declared.state.Peer.{Peer}
use Rattle.rdm_ep.specs.declared.state.Outbound.{Outbound}
use Rattle.rdm_ep.specs.declared.state.AcceptedSend.{AcceptedSend}
use Rattle.rdm_ep.specs.View.{EndpointView}
use Rattle.rdm_ep.specs.Peers.{peer_in, put_peer, sent_peer}
use Rattle.rdm_ep.specs.Sending.{after_send_to, outbound, number_to}
use Rattle.rdm_ep.proofs.PeersLemmas.{with_peer_put}

-- the send with the packet that the code makes is the one that the endpoint is to keep
pub outbound_made : (v : EndpointView) (req : SendReq) (a : AcceptedSend) (bytes : List ℕ) → v.own.limits.first + (peer_in v.peers a.to).sent ≡ a.msg.0
    → bytes ≡ bytes_of v.regions req.parts
    → ◌≡◌ {A = Outbound}
    (record { number = record { 0 = v.sends }; to = a.to; req = req; packet = Rtm a.msg req.tag req.confirm (opt_for v.own.life (wants_raw (peer_in v.peers a.to).known) req.cq_data) (Eager bytes) })
    (outbound v req a.to)
unfolding outbound number_to
outbound_made v req a bytes n b = rw (n, b) refl

-- the endpoint with the life's count one more and the send last is the one after the send
pub send_kept : (v : EndpointView) (req : SendReq) (a : AcceptedSend) (peers : List Peer) (outgoing : List Outbound)
    → peers ≡ put_peer a.to (sent_peer (peer_in v.peers a.to)) v.peers
    → outgoing ≡ v.outgoing ++ outbound v req a.to ∷ []
    → ◌≡◌ {A = EndpointView} (record v { sends = v.sends + 1; peers = peers; outgoing = outgoing }) (after_send_to v req (Some a.to))
unfolding after_send_to
send_kept v req a peers outgoing p o = rw (p, o, with_peer_put sent_peer a.to v.peers) refl
