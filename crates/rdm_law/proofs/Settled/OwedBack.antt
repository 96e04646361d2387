-- What a pair or a taken ask makes owed: all asks of the pair, its end once it is filled, and the bytes that were asked for.
use Rattle.std.proofs.Common.{◌≡◌, ℕ, Bool, true, false, cond, not, ◌&&◌, List, [], ◌∷◌, ◌++◌, map, take, drop, Option, Some, None, refl, inl, inr, sym, ◌∙◌, subst}
use Rattle.std.specs.Prelude.{◌==◌, find}
use Rattle.std.specs.List.{flat_map}
use Rattle.std.proofs.lemmas.Bool.{and_parts, and_from, eqb-true, cases_Bool, not_from_false}
use Rattle.rdm_lists.specs.Lists.{Member}
use Rattle.rdm_num.specs.Lives.{same_life}
use Rattle.rdm_num.specs.declared.numbers.Life.{Life}
use Rattle.rdm_match.specs.Matcher.{Pair, is_pair}
use Rattle.rdm_wire.specs.declared.ReadAsk.{ReadAsk}
use Rattle.rdm_model.specs.Deeds.{Deed, Took, Item, Asks, Gives}
use Rattle.rdm_model.specs.Beginnings.{Own, Heads, Messages}
use Rattle.rdm_model.specs.Matches.{matching, pairs}
use Rattle.rdm_model.specs.Receives.{is_filled}
use Rattle.rdm_model.specs.Replies.{Reply, reply, handshake_by, asks_for, end_for, pair_items, pair_replies, given_of, given_by, replies_by}
use Rattle.rdm_model.specs.Sends.{Sent, sends}
use Rattle.rdm_model.specs.Targets.{live_send, is_good_ask}
use Rattle.rdm_model.specs.ClassFacts.{class_facts}
use Rattle.rdm_model.specs.Classes.{is_bad_key}
use Rattle.rdm_model.specs.Scenes.{Scene}
use Rattle.rdm_model.specs.Local.{heard_by}
use Rattle.rdm_model.proofs.Matches.{is_pair_member}
use Rattle.rdm_model.proofs.SameRegions.{Agree, agree_before, sends_same}
use Rattle.rdm_model.proofs.Grows.{agree_grows}
use Rattle.rdm_model.proofs.SameReceives.{is_filled_same}
use Rattle.rdm_model.proofs.Pushes.{member_later}
use Rattle.rdm_law.proofs.Lives.Lives.{life_scene, LifeStep, LifeLocal}
use Rattle.rdm_law.proofs.Matching.Numbered.{matching_numbered}
use Rattle.rdm_model.proofs.Matches.{pair_still}
use Rattle.rdm_law.proofs.Replies.Queue.{owed}
use Rattle.rdm_law.proofs.Replies.Owed.{shape_in, recv_in, ends_in}
use Rattle.rdm_law.proofs.Classes.Classed.{taken_parts}
use Rattle.rdm_law.proofs.Ends.LiveSends.{live_parts}
use Rattle.rdm_lists.proofs.Members.{member-append_left, member-append_right, map-member, find_member, member_find, flat_map-member}
use Rattle.rdm_lists.proofs.Options.{some_of}
use Rattle.rdm_num.proofs.Lives.{same_life-true}

-- what was owed stays owed
owed_earlier : (own : Own) (ms : Messages) (d : Deed) (before : List Deed) (r : Reply) → Member r (owed own ms before) → Member r (owed own ms (d ∷ before))
unfolding owed
owed_earlier own ms d before r h = member-append_left r (owed own ms before) (replies_by own ms.head (sends own ms before) d before) h

-- what a pair owes by a deed is owed
pair_owed : (own : Own) (ms : Messages) (d : Deed) (before : List Deed) (p : Pair) (x : Item) → Member p (pairs own.limits.first ms.head (d ∷ before)) → Member x (pair_items own ms.head d before p)
    → Member (reply p.message.life x) (owed own ms (d ∷ before))
unfolding owed replies_by pair_replies
pair_owed own ms d before p x m h =
    let r : Reply = reply p.message.life x in
    let shakes = handshake_by own before d in
    let mine : Member r (pair_replies own ms.head d before p) = map-member (reply p.message.life) x (pair_items own ms.head d before p) h in
    let all = flat_map-member (pair_replies own ms.head d before) p (pairs own.limits.first ms.head (d ∷ before)) r m mine in
    member-append_right r (owed own ms before) (replies_by own ms.head (sends own ms before) d before)
    (member-append_left r (shakes ++ flat_map (pair_replies own ms.head d before) (pairs own.limits.first ms.head (d ∷ before))) (given_by (sends own ms before) d)
    (member-append_right r shakes (flat_map (pair_replies own ms.head d before) (pairs own.limits.first ms.head (d ∷ before))) all))

-- a pair that was there before
pair_before : (first : ℕ) (heads : Heads) (d : Deed) (before : List Deed) (p : Pair) → Member p (pairs first heads (d ∷ before))
    → is_pair (pairs first heads before) p.recv.id.0 p.message.life p.message.no.0 ≡ true → Member p (pairs first heads before)
pair_before first heads d before p m h =
    let q = is_pair_member (pairs first heads before) p.recv.id.0 p.message.life p.message.no.0 h in
    let same : q.0 ≡ p = (matching_numbered first heads (d ∷ before)).once q.0 p (pair_still first heads d before q.0 q.1) m q.2 in
    subst (λ (x : Pair). Member x (pairs first heads before)) same q.1

-- a new pair makes its asks owed
asks_new : (own : Own) (heads : Heads) (d : Deed) (before : List Deed) (p : Pair) (a : ReadAsk) → is_pair (pairs own.limits.first heads before) p.recv.id.0 p.message.life p.message.no.0 ≡ false
    → Member a (asks_for (shape_in heads p) (recv_in p)) → Member (Asks a) (pair_items own heads d before p)
unfolding pair_items
asks_new own heads d before p a new h =
    let here : Member (Asks a) (cond (not (is_pair (pairs own.limits.first heads before) p.recv.id.0 p.message.life p.message.no.0)) (map Asks (asks_for (shape_in heads p) (recv_in p))) []) =
    subst (λ (b : Bool). Member (Asks a) (cond b (map Asks (asks_for (shape_in heads p) (recv_in p))) [])) (sym (not_from_false _ new)) (map-member Asks a (asks_for (shape_in heads p) (recv_in p)) h) in
    member-append_left (Asks a) _ _ (member-append_left (Asks a) _ _ here)

-- all asks of a pair are owed
pub asks_owed : (own : Own) (ms : Messages) (log : List Deed) (p : Pair) (a : ReadAsk) → Member p (pairs own.limits.first ms.head log) → Member a (asks_for (shape_in ms.head p) (recv_in p))
    → Member (reply p.message.life (Asks a)) (owed own ms log)
unfolding matching
asks_owed own ms [] p a m h = elim m [ ]
asks_owed own ms (d ∷ before) p a m h =
    elim (cases_Bool (is_pair (pairs own.limits.first ms.head before) p.recv.id.0 p.message.life p.message.no.0)) [
      | inl was ↦ owed_earlier own ms d before (reply p.message.life (Asks a)) (asks_owed own ms before p a (pair_before own.limits.first ms.head d before p m was) h)
      | inr new ↦ pair_owed own ms d before p (Asks a) m (asks_new own ms.head d before p a new h)
    ]

-- a pair that is filled now makes its end owed
end_new : (own : Own) (heads : Heads) (d : Deed) (before : List Deed) (p : Pair) (x : Item) → is_filled own.limits.first heads (d ∷ before) p ≡ true → is_filled own.limits.first heads before p ≡ false
    → Member x (ends_in own heads p) → Member x (pair_items own heads d before p)
unfolding pair_items
end_new own heads d before p x now was h =
    let here : Member x (cond (is_filled own.limits.first heads (d ∷ before) p && not (is_filled own.limits.first heads before p)) (ends_in own heads p) []) =
    subst (λ (b : Bool). Member x (cond b (ends_in own heads p) [])) (sym (and_from _ _ now (not_from_false _ was))) h in
    member-append_right x _ _ here

-- a filled pair is a pair
filled_pair : (first : ℕ) (heads : Heads) (log : List Deed) (p : Pair) → is_filled first heads log p ≡ true → is_pair (pairs first heads log) p.recv.id.0 p.message.life p.message.no.0 ≡ true
unfolding is_filled
filled_pair first heads log p h = (and_parts _ _ h).0

-- the end of a filled pair is owed
pub end_owed : (own : Own) (ms : Messages) (log : List Deed) (p : Pair) (x : Item) → Member p (pairs own.limits.first ms.head log) → is_filled own.limits.first ms.head log p ≡ true
    → Member x (ends_in own ms.head p) → Member (reply p.message.life x) (owed own ms log)
unfolding matching
end_owed own ms [] p x m f h = elim m [ ]
end_owed own ms (d ∷ before) p x m f h =
    elim (cases_Bool (is_filled own.limits.first ms.head before p)) [
      | inl was ↦ owed_earlier own ms d before (reply p.message.life x)
          (end_owed own ms before p x (pair_before own.limits.first ms.head d before p m (filled_pair own.limits.first ms.head before p was)) was h)
      | inr new ↦ pair_owed own ms d before p x m (end_new own ms.head d before p x f new h)
    ]

-- the answer to an ask
abbrev pub given_reply : Life → ReadAsk → Sent → Reply
given_reply from a s =
    record { to = from; item = Gives (record { recv_id = a.recv_id; at = a.at; bytes = take a.length (drop a.at s.message.bytes) }); gives = Some s.number }

-- the send that an ask names, and the answer that is owed
pub record GivenOwed (own : Own) (ms : Messages) (log : List Deed) (from : Life) (a : ReadAsk) : Type 0 where
  pub sent : Sent
  pub member : Member sent (sends own ms log)
  pub to_is : sent.to ≡ from
  pub number_is : sent.number ≡ a.send_id.0
  pub owed' : Member (given_reply from a sent) (owed own ms log)

-- a good ask names a send
good_send : (s : Scene) (from : Life) (a : ReadAsk) (o : Option Sent) → not (is_good_ask s from a o) ≡ false → (t : Sent) × (o ≡ Some t)
unfolding is_good_ask
good_send s from a None h = cc
good_send s from a (Some t) h = (t, refl)

-- a send of that number to that life was there
ask_sent : (s : Scene) (from : Life) (a : ReadAsk) → is_bad_key (class_facts s) from (Asks a) ≡ false → (t : Sent) × Member t (sends s.own s.ms s.log) × (same_life t.to from && t.number == a.send_id.0 ≡ true)
unfolding is_bad_key live_send
ask_sent s from a h =
    let t = good_send s from a (live_send s from a.send_id.0) h in
    let f = find_member (λ (x : Sent). same_life x.to from && x.number == a.send_id.0) t.0 _ t.1 in
    (t.0, (live_parts s.own s.ms s.log t.0 f.0).0, f.1)

-- the answer to an ask that is taken
given_here : (sents : List Sent) (from : Life) (a : ReadAsk) (d : Deed) (t : Sent) → d ≡ Took from (Asks a) → find (λ (x : Sent). same_life x.to from && x.number == a.send_id.0) sents ≡ Some t
    → Member (given_reply from a t) (given_by sents d)
unfolding given_by given_of
given_here sents from a d t e h =
    subst (λ (x : Deed). Member (given_reply from a t) (given_by sents x)) (sym e)
    (subst (λ (o : Option Sent). Member (given_reply from a t) (given_of from a o)) (sym h) (inl refl))

-- and it is owed
given_now : (own : Own) (ms : Messages) (d : Deed) (before : List Deed) (r : Reply) → Member r (given_by (sends own ms before) d) → Member r (owed own ms (d ∷ before))
unfolding owed replies_by
given_now own ms d before r h =
    member-append_right r (owed own ms before) (replies_by own ms.head (sends own ms before) d before)
    (member-append_right r (handshake_by own before d ++ flat_map (pair_replies own ms.head d before) (pairs own.limits.first ms.head (d ∷ before))) (given_by (sends own ms before) d) h)

-- accounts that agree with one agree with each other
pub agree_trans : (first : ℕ) (ks ms ns : Messages) (log : List Deed) → Agree first ks ms log → Agree first ms ns log → Agree first ks ns log
agree_trans first ks ms ns log a b =
    record {
      heads = λ source n h is. a.heads source n h is ∙ b.heads source n h is;
      bytes = λ p is. a.bytes p is ∙ b.bytes p (sym (is_filled_same first ks.head ms.head log p a.heads) ∙ is);
    }

-- the bytes that a taken ask asks for are owed
pub given_owed : (own : Own) (ms : Messages) (log : List Deed) (from : Life) (a : ReadAsk) → LifeLocal own log → Agree own.limits.first (heard_by own.limits.first log) ms log
    → Member (Took from (Asks a)) log → GivenOwed own ms log from a
given_owed own ms [] from a local g m = elim m [ ]
given_owed own ms (d ∷ before) from a local g (inr m) =
    let earlier = agree_trans own.limits.first (heard_by own.limits.first before) (heard_by own.limits.first (d ∷ before)) ms before (agree_grows own.limits.first d before) (agree_before own.limits.first (heard_by own.limits.first (d ∷ before)) ms d before g) in
    let r = given_owed own ms before from a local.0 earlier m in
    record { sent = r.sent; member = member_later own ms d before r.sent r.member; to_is = r.to_is; number_is = r.number_is; owed' = owed_earlier own ms d before (given_reply from a r.sent) r.owed' }
given_owed own ms (d ∷ before) from a local g (inl e) =
    let earlier = agree_trans own.limits.first (heard_by own.limits.first before) (heard_by own.limits.first (d ∷ before)) ms before (agree_grows own.limits.first d before) (agree_before own.limits.first (heard_by own.limits.first (d ∷ before)) ms d before g) in
    let step : LifeStep own before (Took from (Asks a)) = subst (λ (y : Deed). LifeStep own before y) e local.1 in
    let s = life_scene step.0 own step.1 before in
    let t = ask_sent s from a (taken_parts s from own.life.connid (Asks a) step.2).good_key in
    let test : Sent → Bool = λ x. same_life x.to from && x.number == a.send_id.0 in
    let here : Member t.0 (sends own ms before) = subst (λ (xs : List Sent). Member t.0 xs) (sends_same own (heard_by own.limits.first before) ms before earlier) t.1 in
    let f = some_of (find test (sends own ms before)) (member_find test t.0 (sends own ms before) here t.2) in
    let q = find_member test f.0 (sends own ms before) f.1 in
    let parts = and_parts (same_life f.0.to from) (f.0.number == a.send_id.0) q.1 in
    record {
      sent = f.0;
      member = member_later own ms d before f.0 q.0;
      to_is = same_life-true f.0.to from parts.0;
      number_is = eqb-true f.0.number a.send_id.0 parts.1;
      owed' = given_now own ms d before (given_reply from a f.0) (given_here (sends own ms before) from a d f.0 e f.1);
    }
