-- Each deed leaves a record orderly.
use Rattle.std.proofs.Common.{◌≡◌, ◌<◌, ℕ, zero, suc, Bool, true, false, cond, List, [], ◌∷◌, ◌++◌, Option, Some, None, map, refl, arith, inl, inr, sym, ◌∙◌, ap, subst}
use Rattle.std.specs.Prelude.{find, slice_get, is_some}
use Rattle.rdm_lists.specs.Lists.{Member, without_first}
use Rattle.rdm_lists.proofs.Members.{member-map, map-member, member-append_cases}
use Rattle.rdm_num.specs.Pieces.{Piece}
use Rattle.rdm_num.specs.declared.numbers.Life.{Life}
use Rattle.rdm_num.specs.declared.head.Head.{Head}
use Rattle.rdm_num.specs.declared.request.RecvReq.{RecvReq}
use Rattle.rdm_num.specs.declared.request.SendReq.{SendReq}
use Rattle.rdm_pkt.specs.declared.Form.{Form}
use Rattle.rdm_pkt.specs.declared.Packet.TheVariants.{Rtm, Cts, CtsData, Eor, Handshake, Receipt}
use Rattle.rdm_pkt.specs.Heads.{head_of, piece_of}
use Rattle.rdm_match.specs.declared.PostedRecv.{PostedRecv}
use Rattle.rdm_match.specs.declared.Arrived.{Arrived}
use Rattle.rdm_match.specs.Matcher.{accepts}
use Rattle.rdm_model.specs.declared.job.Instr.{Instr}
use Rattle.rdm_model.specs.declared.job.Instr.TheVariants.{Insert, Reg, Send, Recv, Cancel}
use Rattle.rdm_model.specs.Beginnings.{Own}
use Rattle.rdm_model.specs.Currents.{other_life}
use Rattle.rdm_model.specs.Deeds.{Deed, Did, Pushed, Took, Polled, Item, Spelled, Asks, Gives}
use Rattle.rdm_model.specs.Sends.{new_sent}
use Rattle.rdm_life.specs.Kept.{Kept, EarlyMessage, LiveSend, LiveReceive, nothing_kept, is_send}
use Rattle.rdm_life.specs.Facts.{meets_receive_in}
use Rattle.rdm_life.specs.Forgetting.{forget}
use Rattle.rdm_life.specs.Landing.{land}
use Rattle.rdm_life.specs.Lives.{greet, after_insert, with_source}
use Rattle.rdm_life.specs.Handling.{opened_by, with_more, receive_of, land_found, add, after_rtm, after_item, after_take, after_instr, after}
use Rattle.rdm_life.specs.Receiving.{receive_in, with_live, after_recv, entering_in, enter, hear, with_early}
use Rattle.rdm_life.specs.Sending.{begun, sent_in, send_to, is_send_of}
use Rattle.rdm_sound.specs.Premises.{AreOnce, IsOrderly, posted_numbers}
use Rattle.rdm_sound.specs.Steps.{times, post_found, post_one, meet_one, land_one, enter_one}
use Rattle.rdm_sound.specs.Orders.{IsAllowed, StepsStayOrderly}
use Rattle.rdm_sound.proofs.Enters.{enters_each}
use Rattle.rdm_sound.proofs.Orderly.{Thins, thins_again, numbered, orderly_thinned}
use Rattle.rdm_sound.proofs.Posts.{accepted, live_cases, live_apart, posts_one, lands_in_one}
use Rattle.rdm_sound.proofs.Thinning.{thins_still, settles_thin, lands_thin, meets_thin, enters_thin, cancels_thin, forgets_thin, pushes_thin, grants_thin, asks_thin, ends_thin}

-- ---- what is added last

-- an element of another key is added last
pub once_last : {A B : Type 0} (g : A → B) (xs : List A) (x : A) → AreOnce (map g xs) → (Member (g x) (map g xs) → ⊥) → AreOnce (map g (xs ++ x ∷ []))
once_last g [] x once new = ((λ m. elim m [ ]), tt)
once_last {A} {B} g (y ∷ ys) x once new = (
  (λ m. let q = member-map g (g y) (ys ++ x ∷ []) m in
      elim (member-append_cases q.0 ys (x ∷ []) q.1) [
        | inl old ↦ once.0 (subst (λ (b : B). Member b (map g ys)) q.2 (map-member g q.0 ys old))
        | inr last ↦ elim last [
          | inl is ↦ new (inl (sym q.2 ∙ sym (ap g is)))
          | inr never ↦ elim never [ ]
        ]
      ]),
  once_last g ys x once.1 (λ m. new (inr m)),
)

-- a receive is accepted
pub accepted_orderly : (req : RecvReq) (v : Kept) → IsOrderly v → meets_receive_in v req.region.0 req.at req.len ≡ false → IsOrderly (with_live (receive_in v req) v)
accepted_orderly req v o free =
    let number : LiveReceive → ℕ = λ r. r.receive.number in
    record {
      once = once_last number v.receives (accepted v req) o.once (λ m.
          let q = member-map number v.receive_count v.receives m in
          let g = o.given q.0 q.1 in
          let e = q.2 in
          absurd (omega arith));
      given = λ r m. elim (live_cases v req r m) [
        | inl old ↦ let g = o.given r old in omega arith
        | inr is ↦ let e : v.receive_count ≡ r.receive.number = ap number is in omega arith
      ];
      apart = live_apart v req o free;
      posted_once = o.posted_once;
      posted_given = λ r m. let g = o.posted_given r m in omega arith;
      sends_once = o.sends_once;
      sends_given = o.sends_given;
    }

-- it waits last, or meets the message that is found
found_orderly : (r : PostedRecv) (o : Option Arrived) (v : Kept) → IsOrderly v → r.id.0 < v.receive_count → (Member r.id.0 (posted_numbers v.posted) → ⊥) → IsOrderly (post_found r o v)
unfolding post_found
found_orderly r None v o given new =
    record {
      once = o.once;
      given = o.given;
      apart = o.apart;
      posted_once = once_last (λ (q : PostedRecv). q.id.0) v.posted r o.posted_once new;
      posted_given = λ q m. elim (member-append_cases q v.posted (r ∷ []) m) [
        | inl old ↦ o.posted_given q old
        | inr last ↦ elim last [
          | inl is ↦ subst (λ (p : PostedRecv). p.id.0 < v.receive_count) is given
          | inr never ↦ elim never [ ]
        ]
      ];
      sends_once = o.sends_once;
      sends_given = o.sends_given;
    }
found_orderly r (Some a) v o given new =
    let w : Kept = record v { arrived = without_first (accepts r) v.arrived } in
    let u : Kept = meet_one (record { recv = r; message = a }) w in
    orderly_thinned v u (thins_again v w u (thins_still v w refl refl refl refl refl) (meets_thin (record { recv = r; message = a }) w)) o

pub posted_orderly : (r : PostedRecv) (v : Kept) → IsOrderly v → r.id.0 < v.receive_count → (Member r.id.0 (posted_numbers v.posted) → ⊥) → IsOrderly (post_one r v)
posted_orderly r v o given new = found_orderly r (find (accepts r) v.arrived) v o given new

-- a message is heard of
pub heard_orderly : (source : Life) (number : ℕ) (e : EarlyMessage) (v : Kept) → IsOrderly v → IsOrderly (hear source number e v)
unfolding hear
heard_orderly source number e v o = orderly_thinned v (hear source number e v) (thins_still v (hear source number e v) refl refl refl refl refl) o

-- each step
pub steps_orderly : (v : Kept) → IsOrderly v → StepsStayOrderly v
steps_orderly v o =
    record {
      settles = λ is_new number. orderly_thinned v _ (settles_thin is_new number v) o;
      lands = λ number p. orderly_thinned v _ (lands_thin number p v) o;
      meets = λ p. orderly_thinned v _ (meets_thin p v) o;
      accepts = λ req free. accepted_orderly req v o free;
      posts = λ r given new. posted_orderly r v o given new;
      cancels = λ number. orderly_thinned v _ (cancels_thin number v) o;
      hears = λ source number e. heard_orderly source number e v o;
      enters = λ source. orderly_thinned v _ (enters_thin source v) o;
    }

-- ---- instructions

-- a send is accepted
sent_number : (v : Kept) (req : SendReq) (to : Life) → (sent_in v req to).number ≡ v.send_count
unfolding new_sent
sent_number v req to = refl

sent_orderly : (req : SendReq) (o : Option Life) (v : Kept) → IsOrderly v → IsOrderly (send_to req o v)
unfolding send_to
sent_orderly req None v o = o
sent_orderly req (Some to) v o =
    let number : LiveSend → ℕ = λ s. s.sent.number in
    let new : LiveSend = begun v.own (sent_in v req to) in
    let is : number new ≡ v.send_count = sent_number v req to in
    record {
      once = o.once;
      given = o.given;
      apart = o.apart;
      posted_once = o.posted_once;
      posted_given = o.posted_given;
      sends_once = once_last number v.sends new o.sends_once (λ m.
          let q = member-map number (number new) v.sends m in
          let g = o.sends_given q.0 q.1 in
          let e = q.2 in
          absurd (omega arith));
      sends_given = λ s m. elim (member-append_cases s v.sends (new ∷ []) m) [
        | inl old ↦ let g = o.sends_given s old in omega arith
        | inr last ↦ elim last [
          | inl same ↦ let e = ap number same in omega arith
          | inr never ↦ elim never [ ]
        ]
      ];
    }

-- a receive is accepted, and waits or meets a message
received_orderly : (req : RecvReq) (v : Kept) → IsOrderly v → meets_receive_in v req.region.0 req.at req.len ≡ false → IsOrderly (after_recv req v)
received_orderly req v o free =
    let w : Kept = with_live (receive_in v req) v in
    let r : PostedRecv = (receive_in v req).posted in
    subst IsOrderly (sym (posts_one req v o free))
    (posted_orderly r w (accepted_orderly req v o free) (omega arith) (λ m.
    let q = member-map (λ (x : PostedRecv). x.id.0) v.receive_count v.posted m in
    let g = o.posted_given q.0 q.1 in
    let e = q.2 in
    absurd (omega arith)))

-- lives are greeted, and are current
greeted_thins : (is_met : Bool) (life : Life) (raw : Option _) (v : Kept) → Thins v (greet is_met life raw v)
unfolding greet
greeted_thins is_met life raw v = thins_still v (greet is_met life raw v) refl refl refl refl refl

inserted_orderly : (life : Life) (v : Kept) → IsOrderly v → IsOrderly (after_insert life v)
unfolding after_insert greet
inserted_orderly life v o =
    let u : Kept = forget (other_life life (v.current life.port.0)) v in
    orderly_thinned u (after_insert life v) (thins_still u (after_insert life v) refl refl refl refl refl)
    (orderly_thinned v u (forgets_thin (other_life life (v.current life.port.0)) v) o)

instr_orderly : (instr : Instr) (v : Kept) → IsOrderly v → IsAllowed v (Did instr) → IsOrderly (after_instr instr v)
unfolding after_instr
instr_orderly (Insert life) v o free = inserted_orderly life v o
instr_orderly (Reg content) v o free = orderly_thinned v (after_instr (Reg content) v) (thins_still v (after_instr (Reg content) v) refl refl refl refl refl) o
instr_orderly (Send req) v o free = sent_orderly req (v.current req.to.0) v o
instr_orderly (Recv req) v o free = received_orderly req v o free
instr_orderly (Cancel recv) v o free = orderly_thinned v (after_instr (Cancel recv) v) (cancels_thin recv.0 v) o
instr_orderly _ v o free = o

-- ---- what is taken

-- so many steps
pub times_keep : (P : Kept → Type 0) (step : Kept → Kept) (n : ℕ) (v : Kept) → ((w : Kept) → P w → P (step w)) → P v → P (times n step v)
unfolding times
times_keep P step zero v keeps h = h
times_keep P step (suc n) v keeps h = times_keep P step n (step v) keeps (keeps v h)

-- a piece lands
landed_orderly : (number : ℕ) (p : Piece) (v : Kept) → IsOrderly v → IsOrderly (land number p v)
landed_orderly number p v o = subst IsOrderly (sym (lands_in_one number p v o)) (orderly_thinned v (land_one number p v) (lands_thin number p v) o)

land_found_orderly : (r : Option LiveReceive) (p : Option Piece) (v : Kept) → IsOrderly v → IsOrderly (land_found r p v)
unfolding land_found
land_found_orderly (Some r) (Some p) v o = landed_orderly r.receive.number p v o
land_found_orderly (Some r) None v o = o
land_found_orderly None p v o = o

-- messages enter
entered_orderly : (source : Life) (v : Kept) → IsOrderly v → IsOrderly (enter source v)
entered_orderly source v o =
    subst IsOrderly (sym (enters_each source v o.posted_once (numbered v.receives o.once) o.apart))
    (times_keep IsOrderly (enter_one source) (entering_in v source) v (λ w k. orderly_thinned w (enter_one source w) (enters_thin source w) k) o)

-- a packet that opens a message
added_orderly : (source : Life) (number : ℕ) (p : Option Piece) (v : Kept) → IsOrderly v → IsOrderly (add source number p v)
unfolding add with_early
added_orderly source number p v o =
    elim (is_some (v.early source number)) as (λ b. IsOrderly (cond b (with_early source number (with_more p) v) (land_found (receive_of v source number) p v))) [
      | true ↦ orderly_thinned v (with_early source number (with_more p) v) (thins_still v (with_early source number (with_more p) v) refl refl refl refl refl) o
      | false ↦ land_found_orderly (receive_of v source number) p v o
    ]

opened_orderly : (source : Life) (number : ℕ) (head : Head) (form : Form) (v : Kept) → IsOrderly v → IsOrderly (after_rtm source number head form v)
unfolding after_rtm
opened_orderly source number head form v o =
    elim ((v.peers source).heard number) as (λ b. IsOrderly (cond b (add source number (piece_of form) v) (enter source (hear source number (opened_by head form) v)))) [
      | true ↦ added_orderly source number (piece_of form) v o
      | false ↦ entered_orderly source (hear source number (opened_by head form) v) (heard_orderly source number (opened_by head form) v o)
    ]

item_orderly : (from : Life) (item : Item) (v : Kept) → IsOrderly v → IsOrderly (after_item from item v)
unfolding after_item
item_orderly from (Spelled (Rtm number tag confirm opt form)) v o = opened_orderly from number.0 (head_of tag confirm opt form) form v o
item_orderly from (Spelled (Cts send recv size connid)) v o = orderly_thinned v (after_item from (Spelled (Cts send recv size connid)) v) (grants_thin send.0 recv.0 size v) o
item_orderly from (Spelled (CtsData recv offset connid bytes)) v o = landed_orderly recv.0 (record { offset = offset; bytes = bytes }) v o
item_orderly from (Spelled (Eor send recv connid)) v o = orderly_thinned v (after_item from (Spelled (Eor send recv connid)) v) (ends_thin (is_send send.0) v) o
item_orderly from (Spelled (Handshake words connid raw)) v o =
    let w : Kept = after_item from (Spelled (Handshake words connid raw)) v in
    orderly_thinned v w (thins_still v w refl refl refl refl refl) o
item_orderly from (Spelled (Receipt number connid)) v o = orderly_thinned v (after_item from (Spelled (Receipt number connid)) v) (ends_thin (is_send_of from number.0) v) o
item_orderly from (Asks ask) v o = orderly_thinned v (after_item from (Asks ask) v) (asks_thin from ask v) o
item_orderly from (Gives g) v o = landed_orderly g.recv_id.0 (record { offset = g.at; bytes = g.bytes }) v o
item_orderly from _ v o = o

-- its source is met, and current where its port had no life
pub source_orderly : (from : Life) (v : Kept) → IsOrderly v → IsOrderly (greet true from None (with_source from v))
unfolding greet with_source
source_orderly from v o =
    let w : Kept = greet true from None (with_source from v) in
    orderly_thinned v w (thins_still v w refl refl refl refl refl) o

taken_orderly : (from : Life) (item : Item) (v : Kept) → IsOrderly v → IsOrderly (after_take from item v)
taken_orderly from item v o = item_orderly from item (greet true from None (with_source from v)) (source_orderly from v o)

-- ---- all deeds

pub begins_orderly : (own : Own) → IsOrderly (nothing_kept own)
begins_orderly own =
    record {
      once = tt;
      given = λ r m. elim m [ ];
      apart = λ q r region place m k x y. elim m [ ];
      posted_once = tt;
      posted_given = λ r m. elim m [ ];
      sends_once = tt;
      sends_given = λ s m. elim m [ ];
    }

pub stays_orderly : (d : Deed) (v : Kept) → IsOrderly v → IsAllowed v d → IsOrderly (after d v)
unfolding after
stays_orderly (Did instr) v o free = instr_orderly instr v o free
stays_orderly Pushed v o free = orderly_thinned v (after Pushed v) (pushes_thin (slice_get v.owed 0) v) o
stays_orderly (Took from item) v o free = taken_orderly from item v o
stays_orderly Polled v o free = orderly_thinned v (after Polled v) (thins_still v (after Polled v) refl refl refl refl refl) o
stays_orderly _ v o free = o
