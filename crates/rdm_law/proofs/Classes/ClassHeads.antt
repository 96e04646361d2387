-- What opens a message tells the head that was heard, and a life greets another once: no Mismatch.
use Rattle.std.proofs.Common.{Bool, ◌≡◌, ℕ, true, false, cond, List, [], ◌∷◌, Option, Some, None, refl, inl, sym, ◌∙◌, ap, subst}
use Rattle.std.specs.Prelude.{is_some, ◌==◌}
use Rattle.std.proofs.lemmas.Bool.{and_from, eq-eqb, not_from_true}
use Rattle.rdm_num.specs.declared.numbers.PortNo.{PortNo}
use Rattle.rdm_num.specs.declared.numbers.Life.{Life}
use Rattle.rdm_num.specs.declared.numbers.MsgNo.{MsgNo}
use Rattle.rdm_num.specs.declared.numbers.Connid.{Connid}
use Rattle.rdm_num.specs.declared.lists.IovEntry.{IovEntry}
use Rattle.rdm_num.specs.declared.head.Head.{Head}
use Rattle.rdm_num.specs.declared.head.Shape.{Shape}
use Rattle.rdm_num.specs.declared.head.Shape.TheVariants.{Eager, Medium, LongCts, LongRead, Runt}
use Rattle.rdm_hdr.specs.declared.Opt.{Opt}
use Rattle.rdm_pkt.specs.declared.Packet.TheVariants.{Rtm, Handshake}
use Rattle.rdm_pkt.specs.declared.Form.{Form}
use Rattle.rdm_pkt.specs.Heads.{head_of}
use Rattle.rdm_pkt.specs.Openings.{message_head}
use Rattle.rdm_wire.specs.declared.Datagram.{Datagram}
use Rattle.rdm_model.specs.declared.job.Job.{Job}
use Rattle.rdm_model.specs.declared.entry.Entry.{Entry}
use Rattle.rdm_model.specs.Deeds.{Deed, Spelled}
use Rattle.rdm_model.specs.Beginnings.{own_of}
use Rattle.rdm_model.specs.Heads.{same_option, same_truth, same_iov, same_shape, same_head}
use Rattle.rdm_model.specs.Heard.{heard_head}
use Rattle.rdm_model.specs.Sends.{Sent, known_word}
use Rattle.rdm_model.specs.ClassFacts.{is_received, awaited_head, class_facts}
use Rattle.rdm_model.specs.Classes.{is_other_head, is_mismatch}
use Rattle.rdm_model.specs.Lawful.{life_deeds}
use Rattle.rdm_law.proofs.Accounts.Wired.{own_life, taken_pushed}
use Rattle.rdm_law.proofs.Accounts.Known.{known_one, known_head, opened}
use Rattle.rdm_law.proofs.Accounts.Named.{went_reply}
use Rattle.rdm_law.proofs.Replies.Clashes.{Clash}
use Rattle.rdm_law.proofs.Replies.ReplyDues.{reply_once}
use Rattle.rdm_law.proofs.Accounts.Arrives.{Arrives, arriving_scene}
use Rattle.rdm_law.proofs.Classes.Fresh.{taken_before}
use Rattle.rdm_law.proofs.Classes.ClassSources.{known_shake}

-- an option is the same as itself
same_option-refl : (o : Option ℕ) → same_option o o ≡ true
unfolding same_option
same_option-refl None = refl
same_option-refl (Some n) = eq-eqb n n refl

-- and so is a read list
same_iov-refl : (es : List IovEntry) → same_iov es es ≡ true
unfolding same_iov
same_iov-refl [] = refl
same_iov-refl (e ∷ es) = and_from _ _ (and_from _ _ (and_from (e.offset == e.offset) (e.length == e.length) (eq-eqb e.offset e.offset refl) (eq-eqb e.length e.length refl)) (eq-eqb e.key e.key refl)) (same_iov-refl es)

-- and a shape
same_shape-refl : (s : Shape) → same_shape s s ≡ true
unfolding same_shape
same_shape-refl Eager = refl
same_shape-refl Medium = refl
same_shape-refl (LongCts a n) = and_from (a.0 == a.0) (n == n) (eq-eqb a.0 a.0 refl) (eq-eqb n n refl)
same_shape-refl (LongRead a es) = and_from (a.0 == a.0) (same_iov es es) (eq-eqb a.0 a.0 refl) (same_iov-refl es)
same_shape-refl (Runt a es n) = and_from _ _ (and_from (a.0 == a.0) (same_iov es es) (eq-eqb a.0 a.0 refl) (same_iov-refl es)) (eq-eqb n n refl)

-- a truth is the same as itself
same_truth-refl : (b : Bool) → same_truth b b ≡ true
unfolding same_truth
same_truth-refl true = refl
same_truth-refl false = refl

-- a head is the same as itself
pub same_head-refl : (h : Head) → same_head h h ≡ true
unfolding same_head
same_head-refl h =
    and_from _ _ (and_from _ _ (and_from _ _ (and_from (same_option h.tag h.tag) (same_truth h.confirm h.confirm) (same_option-refl h.tag) (same_truth-refl h.confirm)) (same_option-refl h.cq_data)) (eq-eqb h.length h.length refl))
    (same_shape-refl h.shape)

-- what opens a message again tells the same head
head_again : (job : Job) (history : List Entry) (to from : Life) (number : MsgNo) (tag : Option ℕ) (confirm : Bool) (opt : Opt) (form : Form) (d : Datagram)
    → Arrives job history to from (Spelled (Rtm number tag confirm opt form)) d → (o : Option Head) → heard_head (life_deeds job history to) from number.0 ≡ o
    → is_other_head o (head_of tag confirm opt form) ≡ false
unfolding is_other_head
head_again job history to from number tag confirm opt form d a None e = refl
head_again job history to from number tag confirm opt form d a (Some was) e =
    let o = opened job history to from number tag confirm opt form d a.taken in
    let k = known_head job history to from number.0 was a.played e in
    let same : k.known.sent ≡ o.known.sent = known_one job history to from number.0 k.known o.known in
    let heads : was ≡ head_of tag confirm opt form = k.head_is ∙ ap (λ (s : Sent). message_head job.limits s.message s.kind) same ∙ sym o.head_is in
    not_from_true (same_head was (head_of tag confirm opt form)) (subst (λ (h : Head). same_head was h ≡ true) heads (same_head-refl was))

-- so it does as long as its head is kept
kept_or_not : (received : Bool) (o : Option Head) (head : Head) → is_other_head o head ≡ false → is_other_head (cond received None o) head ≡ false
unfolding is_other_head
kept_or_not true o head same = refl
kept_or_not false o head same = same

-- a packet that opens a message agrees with what was heard
pub rtm_agrees : (job : Job) (history : List Entry) (to from : Life) (number : MsgNo) (tag : Option ℕ) (confirm : Bool) (opt : Opt) (form : Form) (d : Datagram)
    → Arrives job history to from (Spelled (Rtm number tag confirm opt form)) d → (ports : ℕ) (port_log : List Deed)
    → is_mismatch (class_facts (arriving_scene job history to ports port_log)) from (Spelled (Rtm number tag confirm opt form)) ≡ false
unfolding is_mismatch awaited_head
rtm_agrees job history to from number tag confirm opt form d a ports port_log =
    kept_or_not (is_received (arriving_scene job history to ports port_log) from number.0) (heard_head (life_deeds job history to) from number.0) (head_of tag confirm opt form)
    (head_again job history to from number tag confirm opt form d a (heard_head (life_deeds job history to) from number.0) refl)

-- what cannot be there is not
none_word : (o : Option ℕ) → ((w : ℕ) → o ≡ Some w → ⊥) → is_some o ≡ false
none_word None h = refl
none_word (Some w) h = absurd (h w refl)

-- a handshake comes once from each life
pub shake_agrees : (job : Job) (history : List Entry) (to from : Life) (words : List ℕ) (connid : Connid) (raw : Option PortNo) (d : Datagram)
    → Arrives job history to from (Spelled (Handshake words connid raw)) d → (ports : ℕ) (port_log : List Deed)
    → is_mismatch (class_facts (arriving_scene job history to ports port_log)) from (Spelled (Handshake words connid raw)) ≡ false
unfolding is_mismatch
shake_agrees job history to from words connid raw d a ports port_log =
    none_word (known_word (life_deeds job history to) from) (λ w e.
    let k = known_shake (life_deeds job history to) from w e in
    let was = taken_pushed job history to from (Spelled (Handshake k.0 k.1 k.2)) a.played k.3 in
    let r = went_reply job history to from (Handshake k.0 k.1 k.2) was.datagram was.taken (λ never. never) in
    let s = went_reply job history to from (Handshake words connid raw) d a.taken (λ never. never) in
    let clash : Clash r.reply s.reply = inl (record { to_is = r.to_is ∙ sym s.to_is; words = k.0; connid = k.1; raw = k.2; is = r.is; words' = words; connid' = connid; raw' = raw; is' = s.is }) in
    taken_before job history to from (Spelled (Handshake words connid raw)) (Spelled (Handshake k.0 k.1 k.2)) d a was
    (reply_once (own_of job from) r.reply s.reply was.taken.place a.taken.place (life_deeds job history from)
    (own_life job history a.played from) r.was_due s.was_due clash))
