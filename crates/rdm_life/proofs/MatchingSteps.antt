-- Steps that leave the matcher's lists, what was heard of and the early messages.
use Rattle.std.proofs.Common.{◌≡◌, ℕ, Bool, true, false, cond, Option, Some, None, refl, ◌∙◌}
use Rattle.std.specs.Prelude.{slice_get, ◌+◌, if◌then◌else◌}
use Rattle.rdm_lists.specs.Lists.{or_else}
use Rattle.rdm_num.specs.Lives.{same_life}
use Rattle.rdm_num.specs.declared.numbers.Life.{Life}
use Rattle.rdm_num.specs.declared.numbers.PortNo.{PortNo}
use Rattle.rdm_num.specs.declared.request.SendReq.{SendReq}
use Rattle.rdm_num.specs.Pieces.{Piece}
use Rattle.rdm_model.specs.Replies.{Reply}
use Rattle.rdm_pkt.specs.declared.Packet.TheVariants.{Rtm, Cts, CtsData, Eor, Handshake, Receipt}
use Rattle.rdm_model.specs.declared.job.Instr.TheVariants.{OpenLife, Insert, Reg, Send, Recv, Cancel, Note, Await, Wait, CloseLife}
use Rattle.rdm_model.specs.Deeds.{Deed, Did, PushedNote, Pushed, TookNote, Took, Polled, Nothing, Item, Spelled, Asks, Gives, Garbled}
use Rattle.rdm_life.specs.Kept.{Kept, Peer, LiveSend, with_peer}
use Rattle.rdm_life.specs.Memory.{after_reg}
use Rattle.rdm_life.specs.Lives.{greet, with_source}
use Rattle.rdm_life.specs.Landing.{settle, land}
use Rattle.rdm_life.specs.Sending.{send_next, send_to, push_send, push_first, after_grant, after_ask, end_sends}
use Rattle.rdm_life.specs.Handling.{after_item, after_instr, after}
use Rattle.rdm_life.proofs.MatchingStill.{IsSilent}

-- these fields are the same
pub record Same (v w : Kept) : Type 0 where
  pub posted : w.posted ≡ v.posted
  pub arrived : w.arrived ≡ v.arrived
  pub early : (life : Life) (n : ℕ) → w.early life n ≡ v.early life n
  pub early_of : (life : Life) → w.early_of life ≡ v.early_of life
  pub early_count : w.early_count ≡ v.early_count
  pub heard : (life : Life) (n : ℕ) → (w.peers life).heard n ≡ (v.peers life).heard n
  pub next : (life : Life) → (w.peers life).next ≡ (v.peers life).next

-- as they are
pub same_refl : (v : Kept) → Same v v
same_refl v = record { posted = refl; arrived = refl; early = λ life n. refl; early_of = λ life. refl; early_count = refl; heard = λ life n. refl; next = λ life. refl }

-- one after the other
pub same_then : (v w u : Kept) → Same v w → Same w u → Same v u
same_then v w u a b = record {
  posted = b.posted ∙ a.posted;
  arrived = b.arrived ∙ a.arrived;
  early = λ life n. b.early life n ∙ a.early life n;
  early_of = λ life. b.early_of life ∙ a.early_of life;
  early_count = b.early_count ∙ a.early_count;
  heard = λ life n. b.heard life n ∙ a.heard life n;
  next = λ life. b.next life ∙ a.next life;
}

-- a change of a peer that leaves what was heard of
pub peer_same : (life : Life) (change : Peer → Peer) (v : Kept) → ((p : Peer) (n : ℕ) → (change p).heard n ≡ p.heard n) → ((p : Peer) → (change p).next ≡ p.next) → Same v (with_peer life change v)
peer_same life change v heard next = record {
  posted = refl;
  arrived = refl;
  early = λ other n. refl;
  early_of = λ other. refl;
  early_count = refl;
  heard = λ other n.
      (elim (same_life other life) as (λ b. (cond b (change (v.peers other)) (v.peers other)).heard n ≡ (v.peers other).heard n) [ true ↦ heard (v.peers other) n | false ↦ refl ]);
  next = λ other.
      (elim (same_life other life) as (λ b. (cond b (change (v.peers other)) (v.peers other)).next ≡ (v.peers other).next) [ true ↦ next (v.peers other) | false ↦ refl ]);
}

-- a greeting
pub greet_same : (met : Bool) (life : Life) (raw : Option PortNo) (v : Kept) → Same v (greet met life raw v)
unfolding greet
greet_same met life raw v =
    let s = peer_same life (λ (p : Peer). record p { met = if met then true else p.met }) v (λ p n. refl) (λ p. refl) in
    record { posted = refl; arrived = refl; early = λ other n. refl; early_of = λ other. refl; early_count = refl; heard = s.heard; next = s.next }

-- a source
pub source_same : (life : Life) (v : Kept) → Same v (with_source life v)
unfolding with_source
source_same life v = record { posted = refl; arrived = refl; early = λ other n. refl; early_of = λ other. refl; early_count = refl; heard = λ other n. refl; next = λ other. refl }

-- a send
send_same : (req : SendReq) (o : Option Life) (v : Kept) → Same v (send_to req o v)
unfolding send_to
send_same req None v = same_refl v
send_same req (Some to) v =
    let s = peer_same to (λ (p : Peer). record p { messages = p.messages + 1 }) v (λ p n. refl) (λ p. refl) in
    record { posted = refl; arrived = refl; early = λ other n. refl; early_of = λ other. refl; early_count = refl; heard = s.heard; next = s.next }

-- a packet of a send
push_same : (o : Option LiveSend) (v : Kept) → Same v (push_send o v)
unfolding push_send
push_same None v = same_refl v
push_same (Some s) v = record { posted = refl; arrived = refl; early = λ other n. refl; early_of = λ other. refl; early_count = refl; heard = λ other n. refl; next = λ other. refl }

-- what is next
first_same : (o : Option Reply) (v : Kept) → Same v (push_first o v)
unfolding push_first
first_same None v = push_same (send_next v) v
first_same (Some r) v = record { posted = refl; arrived = refl; early = λ other n. refl; early_of = λ other. refl; early_count = refl; heard = λ other n. refl; next = λ other. refl }

-- bytes that land
pub land_same : (number : ℕ) (p : Piece) (v : Kept) → Same v (land number p v)
unfolding land settle
land_same number p v = record { posted = refl; arrived = refl; early = λ other n. refl; early_of = λ other. refl; early_count = refl; heard = λ other n. refl; next = λ other. refl }

-- what comes that opens no message
item_same : (from : Life) (item : Item) (v : Kept) → IsSilent (Took from item) → Same v (after_item from item v)
unfolding after_item after_grant end_sends after_ask
item_same from (Spelled (Rtm number tag confirm opt form)) v silent = elim silent [ ]
item_same from (Spelled (Cts send recv size connid)) v silent = record { posted = refl; arrived = refl; early = λ other n. refl; early_of = λ other. refl; early_count = refl; heard = λ other n. refl; next = λ other. refl }
item_same from (Spelled (CtsData recv offset connid bytes)) v silent = land_same recv.0 (record { offset = offset; bytes = bytes }) v
item_same from (Spelled (Eor send recv connid)) v silent = record { posted = refl; arrived = refl; early = λ other n. refl; early_of = λ other. refl; early_count = refl; heard = λ other n. refl; next = λ other. refl }
item_same from (Spelled (Handshake words connid raw)) v silent = peer_same from (λ (p : Peer). record p { known = or_else p.known (slice_get words 0) }) v (λ p n. refl) (λ p. refl)
item_same from (Spelled (Receipt number connid)) v silent = record { posted = refl; arrived = refl; early = λ other n. refl; early_of = λ other. refl; early_count = refl; heard = λ other n. refl; next = λ other. refl }
item_same from (Asks ask) v silent = record { posted = refl; arrived = refl; early = λ other n. refl; early_of = λ other. refl; early_count = refl; heard = λ other n. refl; next = λ other. refl }
item_same from (Gives g) v silent = land_same g.recv_id.0 (record { offset = g.at; bytes = g.bytes }) v
item_same from Garbled v silent = same_refl v

-- the record, met and with its source
pub met_same : (from : Life) (v : Kept) → Same v (greet true from None (with_source from v))
met_same from v = same_then v (with_source from v) (greet true from None (with_source from v)) (source_same from v) (greet_same true from None (with_source from v))

-- a deed that tells of no message and brings none of its bytes
pub silent_same : (d : Deed) (v : Kept) → IsSilent d → Same v (after d v)
unfolding after after_instr after_reg
silent_same (Did (OpenLife connid)) v silent = same_refl v
silent_same (Did (Insert life)) v silent = elim silent [ ]
silent_same (Did (Reg content)) v silent = record { posted = refl; arrived = refl; early = λ other n. refl; early_of = λ other. refl; early_count = refl; heard = λ other n. refl; next = λ other. refl }
silent_same (Did (Send req)) v silent = send_same req (v.current req.to.0) v
silent_same (Did (Recv req)) v silent = elim silent [ ]
silent_same (Did (Cancel recv)) v silent = elim silent [ ]
silent_same (Did (Note to what)) v silent = same_refl v
silent_same (Did (Await from what)) v silent = same_refl v
silent_same (Did (Wait count)) v silent = same_refl v
silent_same (Did CloseLife) v silent = same_refl v
silent_same PushedNote v silent = same_refl v
silent_same Pushed v silent = first_same (slice_get v.owed 0) v
silent_same (TookNote from note) v silent = same_refl v
silent_same (Took from item) v silent =
    let w = greet true from None (with_source from v) in
    same_then v w (after_item from item w) (met_same from v) (item_same from item w silent)
silent_same Polled v silent = record { posted = refl; arrived = refl; early = λ other n. refl; early_of = λ other. refl; early_count = refl; heard = λ other n. refl; next = λ other. refl }
silent_same Nothing v silent = same_refl v
