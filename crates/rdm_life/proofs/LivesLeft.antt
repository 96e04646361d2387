-- Steps that leave what is kept of lives, regions and counts.
use Rattle.std.proofs.Common.{◌≡◌, ℕ, ◌+◌, Bool, true, false, cond, Option, Some, None, refl, sym, ◌∙◌, ap}
use Rattle.std.specs.Prelude.{◌||◌, ◌==◌, is_some, slice_get}
use Rattle.rdm_lists.specs.Lists.{or_else}
use Rattle.rdm_lists.proofs.Options.{or_else-none}
use Rattle.rdm_num.specs.Lives.{same_life}
use Rattle.rdm_num.specs.Pieces.{Piece}
use Rattle.rdm_num.specs.declared.numbers.Life.{Life}
use Rattle.rdm_num.specs.declared.head.Head.{Head}
use Rattle.rdm_pkt.specs.declared.Form.{Form}
use Rattle.rdm_pkt.specs.declared.Packet.TheVariants.{Rtm, Cts, CtsData, Eor, Handshake, Receipt}
use Rattle.rdm_pkt.specs.Heads.{head_of, piece_of}
use Rattle.rdm_model.specs.Beginnings.{Own}
use Rattle.rdm_model.specs.Deeds.{Item, Spelled, Asks, Gives, Garbled}
use Rattle.rdm_model.specs.Replies.{Reply}
use Rattle.rdm_life.specs.Kept.{Kept, Peer, EarlyMessage, LiveReceive, LiveSend, with_peer}
use Rattle.rdm_life.specs.Landing.{settle, land, meet}
use Rattle.rdm_life.specs.Receiving.{hear, enter, with_early, entering_in}
use Rattle.rdm_life.specs.Sending.{push_send, push_first, send_next, after_grant, after_ask, end_sends}
use Rattle.rdm_life.specs.Handling.{opened_by, with_more, receive_of, land_found, add, after_rtm, after_item}

-- what is kept of lives, regions and counts is as before
pub record Leaves (v w : Kept) : Type 0 where
  pub own : w.own ≡ v.own
  pub region_count : w.region_count ≡ v.region_count
  pub region_size : w.region_size ≡ v.region_size
  pub current : w.current ≡ v.current
  pub superseded : w.superseded ≡ v.superseded
  pub met : (life : Life) → (w.peers life).met ≡ (v.peers life).met
  pub known : (life : Life) → (w.peers life).known ≡ (v.peers life).known
  pub messages : (life : Life) → (w.peers life).messages ≡ (v.peers life).messages
  pub send_count : w.send_count ≡ v.send_count
  pub receive_count : w.receive_count ≡ v.receive_count
  pub poll_count : w.poll_count ≡ v.poll_count

-- one step after another
pub leaves_both : (u v w : Kept) → Leaves u v → Leaves v w → Leaves u w
leaves_both u v w a b =
    record {
      own = b.own ∙ a.own;
      region_count = b.region_count ∙ a.region_count;
      region_size = b.region_size ∙ a.region_size;
      current = b.current ∙ a.current;
      superseded = b.superseded ∙ a.superseded;
      met = λ life. b.met life ∙ a.met life;
      known = λ life. b.known life ∙ a.known life;
      messages = λ life. b.messages life ∙ a.messages life;
      send_count = b.send_count ∙ a.send_count;
      receive_count = b.receive_count ∙ a.receive_count;
      poll_count = b.poll_count ∙ a.poll_count;
    }

-- what of it no change of a life touches
abbrev pub Part : Type 0
Part = Own × ℕ × (ℕ → ℕ) × (ℕ → Option Life) × (Life → Bool) × (Life → Peer) × ℕ × ℕ × ℕ

-- that part of what is kept
abbrev pub part_of : Kept → Part
part_of v = (v.own, v.region_count, v.region_size, v.current, v.superseded, v.peers, v.send_count, v.receive_count, v.poll_count)

-- a step that leaves that part
pub leaves_part : (v w : Kept) → part_of w ≡ part_of v → Leaves v w
leaves_part v w is =
    let peers : w.peers ≡ v.peers = ap (λ (p : Part). p.5) is in
    record {
      own = ap (λ (p : Part). p.0) is;
      region_count = ap (λ (p : Part). p.1) is;
      region_size = ap (λ (p : Part). p.2) is;
      current = ap (λ (p : Part). p.3) is;
      superseded = ap (λ (p : Part). p.4) is;
      met = λ life. ap (λ (f : Life → Peer). (f life).met) peers;
      known = λ life. ap (λ (f : Life → Peer). (f life).known) peers;
      messages = λ life. ap (λ (f : Life → Peer). (f life).messages) peers;
      send_count = ap (λ (p : Part). p.6) is;
      receive_count = ap (λ (p : Part). p.7) is;
      poll_count = ap (λ (p : Part). p.8) is;
    }

-- nothing is done
pub leaves_all : (v : Kept) → Leaves v v
leaves_all v = leaves_part v v refl

-- a value that both choices have
pub of_cond : {A B : Type 0} (f : A → B) (b : Bool) (x y : A) → f (cond b x y) ≡ cond b (f x) (f y)
of_cond f true x y = refl
of_cond f false x y = refl

-- a choice that changes no value
pub cond_kept : {A B : Type 0} (f : A → B) (b : Bool) (x y : A) → f x ≡ f y → f (cond b x y) ≡ f y
cond_kept f true x y h = h
cond_kept f false x y h = refl

-- a life is changed in what else is kept of it
pub leaves_peer : (life : Life) (change : Peer → Peer) (v : Kept) → ((p : Peer) → (change p).met ≡ p.met) → ((p : Peer) → (change p).known ≡ p.known)
    → ((p : Peer) → (change p).messages ≡ p.messages) → Leaves v (with_peer life change v)
leaves_peer life change v met known messages =
    record {
      own = refl;
      region_count = refl;
      region_size = refl;
      current = refl;
      superseded = refl;
      met = λ other. cond_kept (λ (p : Peer). p.met) (same_life other life) (change (v.peers other)) (v.peers other) (met (v.peers other));
      known = λ other. cond_kept (λ (p : Peer). p.known) (same_life other life) (change (v.peers other)) (v.peers other) (known (v.peers other));
      messages = λ other. cond_kept (λ (p : Peer). p.messages) (same_life other life) (change (v.peers other)) (v.peers other) (messages (v.peers other));
      send_count = refl;
      receive_count = refl;
      poll_count = refl;
    }

-- a piece lands
leaves_land : (number : ℕ) (p : Piece) (v : Kept) → Leaves v (land number p v)
unfolding land settle
leaves_land number p v = leaves_part v (land number p v) refl

-- a piece lands, where there is one and a receive that takes it
leaves_found : (r : Option LiveReceive) (p : Option Piece) (v : Kept) → Leaves v (land_found r p v)
unfolding land_found
leaves_found (Some r) (Some p) v = leaves_land r.receive.number p v
leaves_found (Some r) None v = leaves_all v
leaves_found None p v = leaves_all v

-- more of a message came
leaves_add : (source : Life) (number : ℕ) (p : Option Piece) (v : Kept) → Leaves v (add source number p v)
unfolding add with_early
leaves_add source number p v =
    elim (is_some (v.early source number)) as (λ b. Leaves v (cond b (with_early source number (with_more p) v) (land_found (receive_of v source number) p v))) [
      | true ↦ leaves_part v _ refl
      | false ↦ leaves_found (receive_of v source number) p v
    ]

-- a message was heard of
leaves_hear : (source : Life) (number : ℕ) (e : EarlyMessage) (v : Kept) → Leaves v (hear source number e v)
unfolding hear
leaves_hear source number e v =
    leaves_both v (with_peer source (λ (p : Peer). record p { heard = λ n. p.heard n || n == number }) v) _
    (leaves_peer source (λ (p : Peer). record p { heard = λ n. p.heard n || n == number }) v (λ p. refl) (λ p. refl) (λ p. refl)) (leaves_part _ (hear source number e v) refl)

-- messages enter
leaves_enter : (source : Life) (v : Kept) → Leaves v (enter source v)
unfolding enter meet settle
leaves_enter source v =
    leaves_both v (with_peer source (λ (p : Peer). record p { next = p.next + entering_in v source }) v) _
    (leaves_peer source (λ (p : Peer). record p { next = p.next + entering_in v source }) v (λ p. refl) (λ p. refl) (λ p. refl)) (leaves_part _ (enter source v) refl)

-- a packet that opens a message
leaves_rtm : (source : Life) (number : ℕ) (head : Head) (form : Form) (v : Kept) → Leaves v (after_rtm source number head form v)
unfolding after_rtm
leaves_rtm source number head form v =
    elim ((v.peers source).heard number) as (λ b. Leaves v (cond b (add source number (piece_of form) v) (enter source (hear source number (opened_by head form) v)))) [
      | true ↦ leaves_add source number (piece_of form) v
      | false ↦ leaves_both v (hear source number (opened_by head form) v) _ (leaves_hear source number (opened_by head form) v) (leaves_enter source (hear source number (opened_by head form) v))
    ]

-- the first word of a handshake
unfoldable pub word_in : Item → Option ℕ
word_in (Spelled (Handshake words connid raw)) = slice_get words 0
word_in _ = None

-- the features that an item tells of a life are known, unless some were
abbrev pub with_word : Life → Item → Kept → Kept
with_word from item v = with_peer from (λ (p : Peer). record p { known = or_else p.known (word_in item) }) v

-- an item without a handshake tells nothing
leaves_word : (from : Life) (item : Item) (v : Kept) → word_in item ≡ None → Leaves (with_word from item v) v
leaves_word from item v is =
    let p : (p : Peer) → or_else p.known (word_in item) ≡ p.known = λ p. ap (λ (o : Option ℕ). or_else p.known o) is ∙ or_else-none p.known in
    let l = leaves_peer from (λ (p : Peer). record p { known = or_else p.known (word_in item) }) v (λ p. refl) p (λ p. refl) in
    record {
      own = refl;
      region_count = refl;
      region_size = refl;
      current = refl;
      superseded = refl;
      met = λ life. sym (l.met life);
      known = λ life. sym (l.known life);
      messages = λ life. sym (l.messages life);
      send_count = refl;
      receive_count = refl;
      poll_count = refl;
    }

-- what was taken leaves all but what it tells of a life
pub leaves_item : (from : Life) (item : Item) (v : Kept) → Leaves (with_word from item v) (after_item from item v)
unfolding after_item word_in after_grant end_sends after_ask
leaves_item from (Spelled (Rtm number tag confirm opt form)) v =
    leaves_both _ v _ (leaves_word from (Spelled (Rtm number tag confirm opt form)) v refl) (leaves_rtm from number.0 (head_of tag confirm opt form) form v)
leaves_item from (Spelled (Cts send recv size connid)) v = leaves_both _ v _ (leaves_word from (Spelled (Cts send recv size connid)) v refl) (leaves_part v (after_item from (Spelled (Cts send recv size connid)) v) refl)
leaves_item from (Spelled (CtsData recv offset connid bytes)) v =
    leaves_both _ v _ (leaves_word from (Spelled (CtsData recv offset connid bytes)) v refl) (leaves_land recv.0 (record { offset = offset; bytes = bytes }) v)
leaves_item from (Spelled (Eor send recv connid)) v = leaves_both _ v _ (leaves_word from (Spelled (Eor send recv connid)) v refl) (leaves_part v (after_item from (Spelled (Eor send recv connid)) v) refl)
leaves_item from (Spelled (Handshake words connid raw)) v = leaves_all _
leaves_item from (Spelled (Receipt number connid)) v = leaves_both _ v _ (leaves_word from (Spelled (Receipt number connid)) v refl) (leaves_part v (after_item from (Spelled (Receipt number connid)) v) refl)
leaves_item from (Asks ask) v = leaves_both _ v _ (leaves_word from (Asks ask) v refl) (leaves_part v (after_item from (Asks ask) v) refl)
leaves_item from (Gives g) v = leaves_both _ v _ (leaves_word from (Gives g) v refl) (leaves_land g.recv_id.0 (record { offset = g.at; bytes = g.bytes }) v)
leaves_item from Garbled v = leaves_word from Garbled v refl

-- a packet of a send goes out
leaves_send : (s : Option LiveSend) (v : Kept) → Leaves v (push_send s v)
unfolding push_send
leaves_send None v = leaves_all v
leaves_send (Some s) v = leaves_part v (push_send (Some s) v) refl

-- what was next goes out
pub leaves_push : (r : Option Reply) (v : Kept) → Leaves v (push_first r v)
unfolding push_first
leaves_push None v = leaves_send (send_next v) v
leaves_push (Some r) v = leaves_part v (push_first (Some r) v) refl
