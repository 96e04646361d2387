-- What goes out next of the record is what the definitions have next.
use Rattle.std.proofs.Common.{◌≡◌, List, Option, Some, None, refl, sym, ◌∙◌, ap, ap₂}
use Rattle.std.specs.Prelude.{slice_get, option_map}
use Rattle.rdm_lists.proofs.Members.{find_member}
use Rattle.rdm_num.specs.declared.numbers.Life.{Life}
use Rattle.rdm_pkt.specs.declared.Packet.{Packet}
use Rattle.rdm_model.specs.Beginnings.{Own}
use Rattle.rdm_model.specs.Deeds.{Deed, Item}
use Rattle.rdm_model.specs.Dues.{Due, next_packet, send_due, reply_due, next_due, due}
use Rattle.rdm_model.specs.Going.{due_going}
use Rattle.rdm_model.specs.Replies.{Reply}
use Rattle.rdm_model.specs.Sends.{Sent}
use Rattle.rdm_law.proofs.Lives.Lives.{LifeLocal}
use Rattle.rdm_life.specs.Kept.{Kept}
use Rattle.rdm_life.specs.Keeps.{told, own_progress, kept_send, Keeps}
use Rattle.rdm_life.specs.Sending.{going_to, send_next, item_of_send, item_of_found, first_of, goes_out}
use Rattle.rdm_life.proofs.GoesSends.{packet_next_is, has_next, first_next, send_next_is, due_of, own_next_send}
use Rattle.rdm_life.proofs.OwnSends.{own_live, own_packets}
use Rattle.rdm_life.proofs.SendTargets.{live_sent}

-- a packet of a send
packet_going : (own : Own) (log : List Deed) (s : Sent) (o : Option Packet) → due_going (send_due s o None) ≡ going_to (item_of_send own (kept_send own log s) o)
unfolding due_going send_due item_of_send kept_send
packet_going own log s None = refl
packet_going own log s (Some p) = refl

-- a packet of the send that was found
found_going : (own : Own) (log : List Deed) (o : Option Sent) → first_next own log ≡ o → LifeLocal own log
    → due_going (due_of own log (own_progress own log).packets o) ≡ going_to (item_of_found own (option_map (kept_send own log) o))
unfolding due_going due_of item_of_found
found_going own log None e l = refl
found_going own log (Some s) e l =
    let m = (find_member (has_next own log) s (own_live own log) e).0 in
    packet_going own log s (next_packet own log s (own_packets own log s.number))
    ∙ ap (λ (o : Option Packet). going_to (item_of_send own (kept_send own log s) o)) (sym (packet_next_is own log s l (live_sent own log s m)))

-- a reply goes first
reply_going : (o : Option Reply) (t : Option Due) (others : Option (Life × Item)) → due_going t ≡ going_to others → due_going (reply_due o t) ≡ going_to (first_of o others)
unfolding due_going reply_due first_of
reply_going None t others e = e
reply_going (Some r) t others e = refl

-- what goes out next of the record is what is due
pub goes : (own : Own) (log : List Deed) (v : Kept) → LifeLocal own log → Keeps own log v → due_going (due own (told own log) log) ≡ going_to (goes_out v)
unfolding due next_due goes_out
goes own log v l k =
    let replies = (own_progress own log).replies in
    let found : item_of_found v.own (send_next v) ≡ item_of_found own (option_map (kept_send own log) (first_next own log)) =
    ap₂ item_of_found k.lives.own_is (send_next_is own log v l k.lives.own_is k.sends) in
    reply_going (slice_get replies 0) _ (item_of_found v.own (send_next v))
    (ap due_going (own_next_send own log) ∙ found_going own log (first_next own log) refl l ∙ ap going_to (sym found))
    ∙ ap (λ (rs : List Reply). going_to (first_of (slice_get rs 0) (item_of_found v.own (send_next v)))) (sym k.owed.owed_is)
