-- Each operation is counted.
use Rattle.std.proofs.Common.{◌≡◌, ℕ, ◌+◌, Bool, true, false, not, cond, List, [], ◌∷◌, ◌++◌, length, filter, find, map, drop, Option, Some, None, refl, sym, ap, ◌∙◌, subst, inl, inr, arith}
use Rattle.std.specs.Prelude.{◌==◌, slice_get, is_some, IsSome, flat_map}
use Rattle.std.proofs.lemmas.List.{length-append, length-map}
use Rattle.rdm_lists.specs.Lists.{Member, without_first}
use Rattle.rdm_lists.proofs.Members.{find_member}
use Rattle.rdm_num.specs.Pieces.{Piece}
use Rattle.rdm_num.specs.declared.numbers.Life.{Life}
use Rattle.rdm_num.specs.declared.head.Head.{Head}
use Rattle.rdm_num.specs.declared.completion.Completion.{Completion}
use Rattle.rdm_num.specs.declared.completion.Completion.TheVariants.{Send as Over, Recv as Ended}
use Rattle.rdm_num.specs.declared.completion.Outcome.TheVariants.{Cancelled, Gone}
use Rattle.rdm_num.specs.declared.request.RecvReq.{RecvReq}
use Rattle.rdm_num.specs.declared.request.SendReq.{SendReq}
use Rattle.rdm_match.specs.declared.PostedRecv.{PostedRecv}
use Rattle.rdm_match.specs.declared.Arrived.{Arrived}
use Rattle.rdm_match.specs.Matcher.{Pair, accepts}
use Rattle.rdm_pkt.specs.declared.Form.{Form}
use Rattle.rdm_pkt.specs.declared.Packet.TheVariants.{Rtm, Cts, CtsData, Eor, Handshake, Receipt}
use Rattle.rdm_pkt.specs.Heads.{head_of, piece_of}
use Rattle.rdm_model.specs.declared.job.Instr.{Instr}
use Rattle.rdm_model.specs.declared.job.Instr.TheVariants.{Insert, Reg, Send, Recv, Cancel}
use Rattle.rdm_model.specs.Beginnings.{Own}
use Rattle.rdm_model.specs.Currents.{other_life}
use Rattle.rdm_model.specs.Deeds.{Did, Pushed, Took, Polled, Item, Spelled, Asks, Gives}
use Rattle.rdm_model.specs.Replies.{Reply}
use Rattle.rdm_life.specs.Facts.{meets_receive_in}
use Rattle.rdm_life.specs.Forgetting.{forget, concerns, is_among, gone_completions}
use Rattle.rdm_life.specs.Handling.{opened_by, with_more, receive_of, land_found, add, after_rtm, after_item, after_take, after_instr, after}
use Rattle.rdm_life.specs.Kept.{Kept, LiveSend, LiveReceive, Matched, is_send, EarlyMessage, Peer, is_receive, receive_numbered, send_numbered, change_where, with_peer}
use Rattle.rdm_life.specs.Landing.{land, with_window, with_piece, with_message, is_full, completion_of}
use Rattle.rdm_life.specs.Lives.{greet, after_insert, with_source}
use Rattle.rdm_life.specs.Receiving.{entering_in, enter, hear, with_early, after_cancel, after_recv, receive_in, with_live}
use Rattle.rdm_life.specs.Memory.{part_of}
use Rattle.rdm_life.specs.Sending.{push_send, push_first, send_next, after_grant, after_ask, end_sends, send_to, after_packet, completion_of_send, ends_by_push, pushed, is_send_of, begun, sent_in}
use Rattle.rdm_sound.specs.Orders.{IsAllowed}
use Rattle.rdm_sound.specs.Premises.{IsOrderly, AreOnce, receive_numbers, send_numbers}
use Rattle.rdm_sound.specs.Steps.{settle_found, settle_one, land_one, meet_one, post_found, arrive_found, enter_one, with_replies, with_end, with_next_window, next_of}
use Rattle.rdm_sound.proofs.Deeds.{heard_orderly, source_orderly, times_keep, accepted_orderly}
use Rattle.rdm_sound.proofs.Enters.{enters_each}
use Rattle.rdm_sound.proofs.Lists.{find_only}
use Rattle.rdm_sound.proofs.Orderly.{numbered, orderly_thinned, same_key}
use Rattle.rdm_sound.proofs.Pairs.{taken}
use Rattle.rdm_sound.proofs.Posts.{posts_one, lands_in_one}
use Rattle.rdm_sound.proofs.Thinning.{enters_thin}
use Rattle.rdm_state.specs.Counted.{IsCounted, accepted_count, known_count, BeginsCounted, StaysCounted, TellsCounts}
use Rattle.rdm_state.proofs.Among.{one_fewer, as_many}
use Rattle.rdm_state.proofs.Over.{completes}

-- a step that accepts nothing and polls nothing: as many operations are known of
record Even (v w : Kept) : Type 0 where
  accepted : accepted_count w ≡ accepted_count v
  known : known_count w ≡ known_count v

even_counts : (v w : Kept) → Even v w → IsCounted v → IsCounted w
even_counts v w e c = e.accepted ∙ c ∙ sym e.known

even_again : (u v w : Kept) → Even u v → Even v w → Even u w
even_again u v w a b = record { accepted = b.accepted ∙ a.accepted; known = b.known ∙ a.known }

even_none : (v : Kept) → Even v v
even_none v = record { accepted = refl; known = refl }

-- the numbers of live receives stand once
abbrev Once : Kept → Type 0
Once v = AreOnce (receive_numbers v.receives)

-- ---- receives

-- a full one completes
one_completion : (l : LiveReceive) (o : Option Matched) → is_full o ≡ true → length (completion_of l o) ≡ 1
unfolding completion_of is_full
one_completion l None full = absurd (clash full)
  where
    clash : false ≡ true → ⊥
    clash e = cc
one_completion l (Some m) full = ap length (completes l m full)

ended_even : (number : ℕ) (r : LiveReceive) (v : Kept) → Once v → receive_numbered v number ≡ Some r → is_full r.matched ≡ true → Even v (with_end r v)
ended_even number r v o found full =
    let named : r.receive.number ≡ number = number_is r.receive.number number (find_member (is_receive number) r v.receives found).1 in
    let there : receive_numbered v r.receive.number ≡ Some r = ap (receive_numbered v) named ∙ found in
    let fewer = one_fewer (λ (l : LiveReceive). l.receive.number) r.receive.number v.receives r o there in
    let one = one_completion r r.matched full in
    let more = length-append v.completions (completion_of r r.matched) in
    record { accepted = refl; known = omega (arith, fewer, one, more) }
  where
    number_is : (a b : ℕ) → (a == b) ≡ true → a ≡ b
    number_is a b h = grind (arith, h)

settled_even : (is_new : Bool) (number : ℕ) (o' : Option LiveReceive) (v : Kept) → Once v → receive_numbered v number ≡ o' → Even v (settle_found is_new o' v)
unfolding settle_found
settled_even is_new number None v o found = even_none v
settled_even is_new number (Some r) v o found =
    elim (is_full r.matched) as (λ b. is_full r.matched ≡ b → Even v (with_replies is_new r (cond b (with_end r v) (with_next_window r v)))) [
      | true ↦ λ full. (let e = ended_even number r v o found full in record { accepted = e.accepted; known = e.known })
      | false ↦ λ open'. (let same = as_many (is_receive r.receive.number) (with_window v.own) v.receives in record { accepted = refl; known = omega (arith, same) })
    ] refl

settles_even : (is_new : Bool) (number : ℕ) (v : Kept) → Once v → Even v (settle_one is_new number v)
settles_even is_new number v o = settled_even is_new number (receive_numbered v number) v o refl

-- a receive whose state changes before it settles
changed_even : (t : LiveReceive → Bool) (f : LiveReceive → LiveReceive) (v : Kept) → Even v (record v { receives = change_where t f v.receives })
changed_even t f v = let same = as_many t f v.receives in record { accepted = refl; known = omega (arith, same) }

once_changed : (t : LiveReceive → Bool) (f : LiveReceive → LiveReceive) (xs : List LiveReceive) → ((x : LiveReceive) → (f x).receive ≡ x.receive) → receive_numbers (change_where t f xs) ≡ receive_numbers xs
unfolding change_where
once_changed t f [] same = refl
once_changed t f (x ∷ xs) same =
    let rest = once_changed t f xs same in
    elim (t x) as (λ b. (cond b (f x) x).receive.number ∷ receive_numbers (change_where t f xs) ≡ x.receive.number ∷ receive_numbers xs) [
      | true ↦ λ i. (same x i).number ∷ rest i
      | false ↦ λ i. x.receive.number ∷ rest i
    ]

lands_even : (number : ℕ) (p : Piece) (v : Kept) → Once v → Even v (land_one number p v)
lands_even number p v o =
    let w : Kept = record v { receives = change_where (is_receive number) (with_piece p) v.receives } in
    even_again v w (land_one number p v) (changed_even (is_receive number) (with_piece p) v) (settles_even false number w (subst AreOnce (sym (once_changed (is_receive number) (with_piece p) v.receives (λ x. refl))) o))

message_same : (p : Pair) (e : Option EarlyMessage) (x : LiveReceive) → (with_message p e x).receive ≡ x.receive
unfolding with_message
message_same p None x = refl
message_same p (Some e) x = refl

meets_even : (p : Pair) (v : Kept) → Once v → Even v (meet_one p v)
unfolding meet_one
meets_even p v o =
    let f = with_message p (v.early p.message.life p.message.no.0) in
    let u : Kept = taken p v in
    let c = changed_even (is_receive p.recv.id.0) f v in
    even_again v u (settle_one true p.recv.id.0 u) (record { accepted = c.accepted; known = c.known })
    (settles_even true p.recv.id.0 u (subst AreOnce (sym (once_changed (is_receive p.recv.id.0) f v.receives (message_same p _))) o))

-- ---- messages that enter, and receives that are posted

arrived_even : (a : Arrived) (o' : Option PostedRecv) (v : Kept) → Once v → Even v (arrive_found a o' v)
unfolding arrive_found
arrived_even a None v o = record { accepted = refl; known = refl }
arrived_even a (Some r) v o =
    let u : Kept = record v { posted = without_first (λ q. accepts q a) v.posted } in
    let m = meets_even (record { recv = r; message = a }) u o in
    record { accepted = m.accepted; known = m.known }

posted_even : (r : PostedRecv) (o' : Option Arrived) (v : Kept) → Once v → Even v (post_found r o' v)
unfolding post_found
posted_even r None v o = record { accepted = refl; known = refl }
posted_even r (Some a) v o =
    let u : Kept = record v { arrived = without_first (accepts r) v.arrived } in
    let m = meets_even (record { recv = r; message = a }) u o in
    record { accepted = m.accepted; known = m.known }

enters_even : (source : Life) (v : Kept) → Once v → Even v (enter_one source v)
enters_even source v o =
    let e = arrived_even (next_of v source) _ (with_peer source (λ (p : Peer). record p { next = p.next + 1 }) v) o in
    record { accepted = e.accepted; known = e.known }

-- both stay together
abbrev Both : Kept → Type 0
Both v = IsOrderly v × IsCounted v

entered_counted : (source : Life) (v : Kept) → IsOrderly v → IsCounted v → IsCounted (enter source v)
entered_counted source v o c =
    subst IsCounted (sym (enters_each source v o.posted_once (numbered v.receives o.once) o.apart))
    (times_keep Both (enter_one source) (entering_in v source) v (λ w k. (orderly_thinned w (enter_one source w) (enters_thin source w) k.0, even_counts w (enter_one source w) (enters_even source w k.0.once) k.1)) (o, c)).1

-- ---- what is taken

landed_counted : (number : ℕ) (p : Piece) (v : Kept) → IsOrderly v → IsCounted v → IsCounted (land number p v)
landed_counted number p v o c = subst IsCounted (sym (lands_in_one number p v o)) (even_counts v (land_one number p v) (lands_even number p v o.once) c)

land_found_counted : (r : Option LiveReceive) (p : Option Piece) (v : Kept) → IsOrderly v → IsCounted v → IsCounted (land_found r p v)
unfolding land_found
land_found_counted (Some r) (Some p) v o c = landed_counted r.receive.number p v o c
land_found_counted (Some r) None v o c = c
land_found_counted None p v o c = c

added_counted : (source : Life) (number : ℕ) (p : Option Piece) (v : Kept) → IsOrderly v → IsCounted v → IsCounted (add source number p v)
unfolding add with_early
added_counted source number p v o c =
    elim (is_some (v.early source number)) as (λ b. IsCounted (cond b (with_early source number (with_more p) v) (land_found (receive_of v source number) p v))) [
      | true ↦ c
      | false ↦ land_found_counted (receive_of v source number) p v o c
    ]

opened_counted : (source : Life) (number : ℕ) (head : Head) (form : Form) (v : Kept) → IsOrderly v → IsCounted v → IsCounted (after_rtm source number head form v)
unfolding after_rtm hear
opened_counted source number head form v o c =
    let w : Kept = hear source number (opened_by head form) v in
    elim ((v.peers source).heard number) as (λ b. IsCounted (cond b (add source number (piece_of form) v) (enter source w))) [
      | true ↦ added_counted source number (piece_of form) v o c
      | false ↦ entered_counted source w (heard_orderly source number (opened_by head form) v o) c
    ]

-- those that are left, and those that are not
both_counts : {A : Type 0} (t : A → Bool) (xs : List A) → length (filter (λ x. not (t x)) xs) + length (filter t xs) ≡ length xs
both_counts t [] = refl
both_counts {A} t (x ∷ xs) =
    let rest = both_counts t xs in
    elim (t x) as (λ b. length (cond (not b) (x ∷ filter (λ y. not (t y)) xs) (filter (λ y. not (t y)) xs)) + length (cond b (x ∷ filter t xs) (filter t xs)) ≡ length (x ∷ xs)) [ true ↦ omega (arith, rest) | false ↦ omega (arith, rest) ]

ended_counted : (test : LiveSend → Bool) (v : Kept) → IsCounted v → IsCounted (end_sends test v)
unfolding end_sends
ended_counted test v c =
    let left = both_counts test v.sends in
    let more = length-append v.completions (map (λ (s : LiveSend). Over (record { 0 = s.sent.number }) false) (filter test v.sends)) in
    let as' = length-map (filter test v.sends) (λ (s : LiveSend). Over (record { 0 = s.sent.number }) false) in
    omega (arith, c, left, more, as')

-- a send that is changed
sends_counted : (t : LiveSend → Bool) (f : LiveSend → LiveSend) (v : Kept) → IsCounted v → IsCounted (record v { sends = change_where t f v.sends })
sends_counted t f v c = let same = as_many t f v.sends in omega (arith, c, same)

item_counted : (from : Life) (item : Item) (v : Kept) → IsOrderly v → IsCounted v → IsCounted (after_item from item v)
unfolding after_item after_grant after_ask
item_counted from (Spelled (Rtm number tag confirm opt form)) v o c = opened_counted from number.0 (head_of tag confirm opt form) form v o c
item_counted from (Spelled (Cts send recv size connid)) v o c = sends_counted _ _ v c
item_counted from (Spelled (CtsData recv offset connid bytes)) v o c = landed_counted recv.0 (record { offset = offset; bytes = bytes }) v o c
item_counted from (Spelled (Eor send recv connid)) v o c = ended_counted (is_send send.0) v c
item_counted from (Spelled (Handshake words connid raw)) v o c = c
item_counted from (Spelled (Receipt number connid)) v o c = ended_counted (is_send_of from number.0) v c
item_counted from (Asks ask) v o c = sends_counted _ _ v c
item_counted from (Gives g) v o c = landed_counted g.recv_id.0 (record { offset = g.at; bytes = g.bytes }) v o c
item_counted from _ v o c = c

taken_counted : (from : Life) (item : Item) (v : Kept) → IsOrderly v → IsCounted v → IsCounted (after_take from item v)
unfolding greet with_source
taken_counted from item v o c = item_counted from item (greet true from None (with_source from v)) (source_orderly from v o) c

-- ---- instructions

forgotten_counted : (lives : List Life) (v : Kept) → IsCounted v → IsCounted (forget lives v)
unfolding forget gone_completions
forgotten_counted lives v c =
    let lost = filter (concerns lives) v.receives in
    let gone = filter (λ (s : LiveSend). is_among lives s.sent.to) v.sends in
    let rs = both_counts (concerns lives) v.receives in
    let ss = both_counts (λ (s : LiveSend). is_among lives s.sent.to) v.sends in
    let a = length-append v.completions (map (λ (r : LiveReceive). Ended (record { 0 = r.receive.number }) Gone) lost ++ map (λ (s : LiveSend). Over (record { 0 = s.sent.number }) true) gone) in
    let b = length-append (map (λ (r : LiveReceive). Ended (record { 0 = r.receive.number }) Gone) lost) (map (λ (s : LiveSend). Over (record { 0 = s.sent.number }) true) gone) in
    let lr = length-map lost (λ (r : LiveReceive). Ended (record { 0 = r.receive.number }) Gone) in
    let ls = length-map gone (λ (s : LiveSend). Over (record { 0 = s.sent.number }) true) in
    omega (arith, c, rs, ss, a, b, lr, ls)

inserted_counted : (life : Life) (v : Kept) → IsCounted v → IsCounted (after_insert life v)
unfolding after_insert greet
inserted_counted life v c = forgotten_counted (other_life life (v.current life.port.0)) v c

sent_counted : (req : SendReq) (to : Option Life) (v : Kept) → IsCounted v → IsCounted (send_to req to v)
unfolding send_to
sent_counted req None v c = c
sent_counted req (Some to) v c = let more = length-append v.sends (begun v.own (sent_in v req to) ∷ []) in omega (arith, c, more)

received_counted : (req : RecvReq) (v : Kept) → IsOrderly v → IsCounted v → meets_receive_in v req.region.0 req.at req.len ≡ false → IsCounted (after_recv req v)
received_counted req v o c free =
    let r = receive_in v req in
    let w : Kept = with_live r v in
    let more = length-append v.receives (record { receive = r; part = part_of v req; matched = None } ∷ []) in
    let counted : IsCounted w = omega (arith, c, more) in
    subst IsCounted (sym (posts_one req v o free)) (even_counts w _ (posted_even r.posted _ w (accepted_orderly req v o free).once) counted)

cancelled_counted : (recv : ℕ) (v : Kept) → IsCounted v → IsCounted (after_cancel recv v)
unfolding after_cancel
cancelled_counted recv v c =
    let back = filter (is_receive recv) v.receives in
    let rs = both_counts (is_receive recv) v.receives in
    let more = length-append v.completions (map (λ (r : LiveReceive). Ended (record { 0 = r.receive.number }) Cancelled) back) in
    let lr = length-map back (λ (r : LiveReceive). Ended (record { 0 = r.receive.number }) Cancelled) in
    omega (arith, c, rs, more, lr)

instr_counted : (instr : Instr) (v : Kept) → IsOrderly v → IsCounted v → IsAllowed v (Did instr) → IsCounted (after_instr instr v)
unfolding after_instr
instr_counted (Insert life) v o c free = inserted_counted life v c
instr_counted (Reg content) v o c free = c
instr_counted (Send req) v o c free = sent_counted req (v.current req.to.0) v c
instr_counted (Recv req) v o c free = received_counted req v o c free
instr_counted (Cancel recv) v o c free = cancelled_counted recv.0 v c
instr_counted _ v o c free = c

-- ---- what goes out

number_is : (a b : ℕ) → (a == b) ≡ true → a ≡ b
number_is a b h = grind (arith, h)

some_same : (a b : LiveSend) → Some a ≡ Some b → a ≡ b
some_same a b h = cc

-- a send goes on, or completes
either : (own : Own) (t : LiveSend) → length (after_packet own t) + length (completion_of_send own t) ≡ 1
unfolding after_packet completion_of_send
either own t = elim (ends_by_push own (pushed own t)) as (λ b. length (cond b [] (pushed own t ∷ [])) + length (cond b (Over (record { 0 = t.sent.number }) false ∷ []) []) ≡ 1) [ true ↦ refl | false ↦ refl ]

-- sends of other numbers stay
others_stay : (own : Own) (n : ℕ) (sends : List LiveSend) → (Member n (send_numbers sends) → ⊥) → flat_map (λ (t : LiveSend). cond (is_send n t) (after_packet own t) (t ∷ [])) sends ≡ sends
others_stay own n [] none = refl
others_stay own n (t ∷ sends) none =
    elim (is_send n t) as (λ b. is_send n t ≡ b → cond b (after_packet own t) (t ∷ []) ++ flat_map (λ (u : LiveSend). cond (is_send n u) (after_packet own u) (u ∷ [])) sends ≡ t ∷ sends) [
      | true ↦ λ is. absurd (none (inl (number_is t.sent.number n is)))
      | false ↦ λ is. ap (λ us. t ∷ us) (others_stay own n sends (λ m. none (inr m)))
    ] refl

-- one packet: its send goes on, or is over and completes
packet_counts : (own : Own) (n : ℕ) (sends : List LiveSend) (s : LiveSend) → AreOnce (send_numbers sends) → find (is_send n) sends ≡ Some s
    → length (flat_map (λ (t : LiveSend). cond (is_send n t) (after_packet own t) (t ∷ [])) sends) + length (completion_of_send own s) ≡ length sends
packet_counts own n [] s once found = absurd (no_some found)
  where
    no_some : None ≡ Some s → ⊥
    no_some e = cc
packet_counts own n (t ∷ sends) s once found =
    (elim (is_send n t) as (λ b. is_send n t ≡ b → cond b (Some t) (find (is_send n) sends) ≡ Some s
    → length (cond b (after_packet own t) (t ∷ []) ++ flat_map (λ (u : LiveSend). cond (is_send n u) (after_packet own u) (u ∷ [])) sends) + length (completion_of_send own s) ≡ length (t ∷ sends)) [
      | true ↦ λ is f.
          let same = some_same t s f in
          let a = length-append (after_packet own t) (flat_map (λ (u : LiveSend). cond (is_send n u) (after_packet own u) (u ∷ [])) sends) in
          let others = ap length (others_stay own n sends (λ m. once.0 (subst (λ (j : ℕ). Member j (send_numbers sends)) (sym (number_is t.sent.number n is)) m))) in
          let one : length (after_packet own t) + length (completion_of_send own s) ≡ 1 = ap (λ (u : LiveSend). length (after_packet own t) + length (completion_of_send own u)) (sym same) ∙ either own t in
          omega (arith, a, others, one)
      | false ↦ λ is f. (let rest = packet_counts own n sends s once.1 f in omega (arith, rest))
    ]) refl found

-- a send that is first is found by its number
pushed_counted : (o' : Option LiveSend) (v : Kept) → IsOrderly v → IsCounted v → ((s : LiveSend) → o' ≡ Some s → send_numbered v s.sent.number ≡ Some s) → IsCounted (push_send o' v)
unfolding push_send
pushed_counted None v o c there = c
pushed_counted (Some s) v o c there =
    let p = packet_counts v.own s.sent.number v.sends s o.sends_once (there s refl) in
    let more = length-append v.completions (completion_of_send v.own s) in
    omega (arith, c, p, more)

next_found : (v : Kept) → IsOrderly v → (s : LiveSend) → send_next v ≡ Some s → send_numbered v s.sent.number ≡ Some s
next_found v o s is = found_by (λ (t : LiveSend). t.sent.number) s v.sends o.sends_once (find_member _ s v.sends is).0
  where
    same_number : (a : ℕ) → (a == a) ≡ true
    same_number a = grind arith

    found_by : (number : LiveSend → ℕ) (x : LiveSend) (xs : List LiveSend) → AreOnce (map number xs) → Member x xs → find (λ z. number z == number x) xs ≡ Some x
    found_by number x xs once m = find_only (λ z. number z == number x) x xs m (same_number (number x)) (λ y k e. same_key number xs once y x k m (number_is (number y) (number x) e))

first_counted : (r : Option Reply) (v : Kept) → IsOrderly v → IsCounted v → IsCounted (push_first r v)
unfolding push_first
first_counted None v o c = pushed_counted (send_next v) v o c (next_found v o)
first_counted (Some r) v o c = sends_counted _ _ v c

-- ---- all deeds

first_gone : (cs : List Completion) → IsSome (slice_get cs 0) → length (drop 1 cs) + 1 ≡ length cs
first_gone [] some = absurd (clash some)
  where
    clash : false ≡ true → ⊥
    clash e = cc
first_gone (c ∷ cs) some = omega arith

pub begins_counted : BeginsCounted
begins_counted own = refl

pub stays_counted : StaysCounted
unfolding after
stays_counted (Did instr) v o c free some = instr_counted instr v o c free
stays_counted Pushed v o c free some = first_counted (slice_get v.owed 0) v o c
stays_counted (Took from item) v o c free some = taken_counted from item v o c
stays_counted Polled v o c free some = (let one = first_gone v.completions some in omega (arith, c, one))
stays_counted _ v o c free some = c

pub tells_counts : TellsCounts
tells_counts e v s c =
    let reserved = s.reserved in
    let list = ap length s.completed in
    omega (arith, c, reserved, list)
