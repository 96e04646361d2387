-- What was heard of is early where early messages, arrivals and numbers are the same.
use Rattle.std.proofs.Common.{◌≡◌, ℕ, ◌+◌, Bool, true, false, cond, List, [], ◌∷◌, Option, Some, None, refl, arith, sym, ◌∙◌, ap, subst}
use Rattle.std.specs.Prelude.{◌==◌, ◌&&◌, is_some, option_map}
use Rattle.rdm_lists.specs.Lists.{Member}
use Rattle.rdm_num.specs.Lives.{same_life}
use Rattle.rdm_num.specs.Pieces.{Piece}
use Rattle.rdm_num.specs.declared.numbers.Life.{Life}
use Rattle.rdm_num.specs.declared.request.SendReq.{SendReq}
use Rattle.rdm_match.specs.declared.Arrived.{Arrived}
use Rattle.rdm_model.specs.Replies.{Reply}
use Rattle.rdm_life.specs.Kept.{Kept, Peer, EarlyMessage, LiveSend, LiveReceive, with_peer, is_receive, send_numbered, receive_numbered, change_where}
use Rattle.rdm_life.specs.Landing.{is_full, with_piece, settle, land}
use Rattle.rdm_life.specs.Receiving.{after_cancel, with_early}
use Rattle.rdm_life.specs.Sending.{push_send, push_first, send_next, send_to}
use Rattle.rdm_sound.specs.Premises.{AreOnce}
use Rattle.rdm_sound.specs.Steps.{settle_found, with_end, with_next_window, with_replies, land_one}
use Rattle.rdm_sound.specs.Forgets.{lose_receive, lose_receives, lose_send, lose_sends}
use Rattle.rdm_sound.specs.Heard.{IsHeardEarly, arrived_names}

-- the second record has the early messages, arrivals and numbers of the first
pub record HearsSame (v w : Kept) : Type 0 where
  pub heard : (life : Life) (number : ℕ) → (w.peers life).heard number ≡ (v.peers life).heard number
  pub next : (life : Life) → (w.peers life).next ≡ (v.peers life).next
  pub arrived : w.arrived ≡ v.arrived
  pub early : (life : Life) (number : ℕ) → is_some (w.early life number) ≡ is_some (v.early life number)
  pub counts : (life : Life) → w.early_of life ≡ v.early_of life
  pub count : w.early_count ≡ v.early_count

-- where they are the very same
pub hears_still : (v w : Kept) → w.peers ≡ v.peers → w.arrived ≡ v.arrived → w.early ≡ v.early → w.early_of ≡ v.early_of → w.early_count ≡ v.early_count → HearsSame v w
hears_still v w peers arrived early early_of early_count =
    record {
      heard = λ life number. ap (λ (ps : Life → Peer). (ps life).heard number) peers;
      next = λ life. ap (λ (ps : Life → Peer). (ps life).next) peers;
      arrived = arrived;
      early = λ life number. ap (λ (e : Life → ℕ → Option EarlyMessage). is_some (e life number)) early;
      counts = λ life. ap (λ (f : Life → ℕ). f life) early_of;
      count = early_count;
    }

-- so what was heard of is early as before
pub heard_same : (v w : Kept) → HearsSame v w → IsHeardEarly v → IsHeardEarly w
heard_same v w s h =
    record {
      names = h.names;
      are = record {
        once = h.are.once;
        early = λ m k. s.early m.life m.number ∙ h.are.early m k;
        all = λ life number e. h.are.all life number (sym (s.early life number) ∙ e);
        count = s.count ∙ h.are.count;
        counts = λ life. s.counts life ∙ h.are.counts life;
      };
      heard = λ life number e. s.heard life number ∙ h.heard life number (sym (s.early life number) ∙ e);
      waits = λ life number e le.
          let n = s.next life in
          s.early life number ∙ h.waits life number (sym (s.heard life number) ∙ e) (omega arith);
      arrived_once = subst (λ (xs : List Arrived). AreOnce (arrived_names xs)) (sym s.arrived) h.arrived_once;
      arrived_before = λ a m.
          let b = h.arrived_before a (subst (λ (xs : List Arrived). Member a xs) s.arrived m) in
          let n = s.next a.life in
          omega arith;
      arrived_early = λ a m. s.early a.life a.no.0 ∙ h.arrived_early a (subst (λ (xs : List Arrived). Member a xs) s.arrived m);
    }

-- ---- steps that leave them

pub settled_hears : (is_new : Bool) (o : Option LiveReceive) (v : Kept) → HearsSame v (settle_found is_new o v)
unfolding settle_found
settled_hears is_new None v = hears_still v v refl refl refl refl refl
settled_hears is_new (Some r) v =
    elim (is_full r.matched) as (λ b. HearsSame v (with_replies is_new r (cond b (with_end r v) (with_next_window r v)))) [
      | true ↦ hears_still v (with_replies is_new r (with_end r v)) refl refl refl refl refl
      | false ↦ hears_still v (with_replies is_new r (with_next_window r v)) refl refl refl refl refl
    ]

pub landed_hears : (number : ℕ) (p : Piece) (v : Kept) → HearsSame v (land number p v)
unfolding land settle
landed_hears number p v = hears_still v (land number p v) refl refl refl refl refl

pub landed_one_hears : (number : ℕ) (p : Piece) (v : Kept) → HearsSame v (land_one number p v)
landed_one_hears number p v =
    let u : Kept = record v { receives = change_where (is_receive number) (with_piece p) v.receives } in
    let h = settled_hears false (receive_numbered u number) u in
    record { heard = h.heard; next = h.next; arrived = h.arrived; early = h.early; counts = h.counts; count = h.count }

pub cancelled_hears : (recv : ℕ) (v : Kept) → HearsSame v (after_cancel recv v)
unfolding after_cancel
cancelled_hears recv v = hears_still v (after_cancel recv v) refl refl refl refl refl

push_send_hears : (o : Option LiveSend) (v : Kept) → HearsSame v (push_send o v)
unfolding push_send
push_send_hears None v = hears_still v v refl refl refl refl refl
push_send_hears (Some s) v = hears_still v (push_send (Some s) v) refl refl refl refl refl

pub pushed_hears : (o : Option Reply) (v : Kept) → HearsSame v (push_first o v)
unfolding push_first
pushed_hears None v = push_send_hears (send_next v) v
pushed_hears (Some r) v = hears_still v (push_first (Some r) v) refl refl refl refl refl

-- what is known of a life but its numbers
pub peer_hears : (life : Life) (change : Peer → Peer) (v : Kept) → ((p : Peer) → (change p).heard ≡ p.heard) → ((p : Peer) → (change p).next ≡ p.next) → HearsSame v (with_peer life change v)
peer_hears life change v heard next =
    record {
      heard = λ other number.
          elim (same_life other life) as (λ b. (cond b (change (v.peers other)) (v.peers other)).heard number ≡ (v.peers other).heard number) [
            | true ↦ ap (λ (f : ℕ → Bool). f number) (heard (v.peers other))
            | false ↦ refl
          ];
      next = λ other. elim (same_life other life) as (λ b. (cond b (change (v.peers other)) (v.peers other)).next ≡ (v.peers other).next) [ true ↦ next (v.peers other) | false ↦ refl ];
      arrived = refl;
      early = λ other number. refl;
      counts = λ other. refl;
      count = refl;
    }

pub sent_hears : (req : SendReq) (o : Option Life) (v : Kept) → HearsSame v (send_to req o v)
unfolding send_to
sent_hears req None v = hears_still v v refl refl refl refl refl
sent_hears req (Some to) v =
    let h = peer_hears to (λ (p : Peer). record p { messages = p.messages + 1 }) v (λ p. refl) (λ p. refl) in
    record { heard = h.heard; next = h.next; arrived = refl; early = h.early; counts = h.counts; count = refl }

-- more of an early message came
some_mapped : {A B : Type 0} (f : A → B) (o : Option A) → is_some (option_map f o) ≡ is_some o
some_mapped f None = refl
some_mapped f (Some x) = refl

pub more_hears : (source : Life) (number : ℕ) (change : EarlyMessage → EarlyMessage) (v : Kept) → HearsSame v (with_early source number change v)
unfolding with_early
more_hears source number change v =
    record {
      heard = λ other n. refl;
      next = λ other. refl;
      arrived = refl;
      early = λ other n.
          elim (same_life other source && n == number) as (λ b. is_some (cond b (option_map change (v.early other n)) (v.early other n)) ≡ is_some (v.early other n)) [
            | true ↦ some_mapped change (v.early other n)
            | false ↦ refl
          ];
      counts = λ other. refl;
      count = refl;
    }

-- receives and sends are lost
pub lost_receive_hears : (o : Option LiveReceive) (v : Kept) → HearsSame v (lose_receive o v)
unfolding lose_receive
lost_receive_hears None v = hears_still v v refl refl refl refl refl
lost_receive_hears (Some r) v = hears_still v (lose_receive (Some r) v) refl refl refl refl refl

pub lost_receives_heard : (numbers : List ℕ) (v : Kept) → IsHeardEarly v → IsHeardEarly (lose_receives numbers v)
unfolding lose_receives
lost_receives_heard [] v h = h
lost_receives_heard (n ∷ rest) v h =
    let w : Kept = lose_receive (receive_numbered v n) v in
    lost_receives_heard rest w (heard_same v w (lost_receive_hears (receive_numbered v n) v) h)

pub lost_send_hears : (o : Option LiveSend) (v : Kept) → HearsSame v (lose_send o v)
unfolding lose_send
lost_send_hears None v = hears_still v v refl refl refl refl refl
lost_send_hears (Some s) v = hears_still v (lose_send (Some s) v) refl refl refl refl refl

pub lost_sends_heard : (numbers : List ℕ) (v : Kept) → IsHeardEarly v → IsHeardEarly (lose_sends numbers v)
unfolding lose_sends
lost_sends_heard [] v h = h
lost_sends_heard (n ∷ rest) v h =
    let w : Kept = lose_send (send_numbered v n) v in
    lost_sends_heard rest w (heard_same v w (lost_send_hears (send_numbered v n) v) h)
