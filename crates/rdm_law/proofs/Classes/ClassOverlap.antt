-- What arrives has bytes that are missing, or opens a message for the first time: no Overlap.
use Rattle.std.proofs.Common.{Bool, ◌≡◌, ℕ, ◌≤◌, true, false, ◌&&◌, List, length, Option, Some, None, refl, arith, sym, ◌∙◌, ap, subst}
use Rattle.std.specs.Prelude.{is_some, nat_lt}
use Rattle.std.proofs.lemmas.Bool.{and_left, and_right, or_from, le-ltb, eq-eqb, not_from_true}
use Rattle.rdm_lists.specs.Lists.{Member}
use Rattle.rdm_num.specs.Pieces.{Piece, is_missing}
use Rattle.rdm_num.specs.declared.numbers.Life.{Life}
use Rattle.rdm_num.specs.declared.numbers.MsgNo.{MsgNo}
use Rattle.rdm_num.specs.declared.numbers.OpId.{OpId}
use Rattle.rdm_num.specs.declared.numbers.Connid.{Connid}
use Rattle.rdm_num.specs.declared.limits.EpLimits.{EpLimits}
use Rattle.rdm_num.specs.declared.head.Head.{Head}
use Rattle.rdm_hdr.specs.declared.Opt.{Opt}
use Rattle.rdm_pkt.specs.declared.Packet.TheVariants.{Rtm, CtsData}
use Rattle.rdm_pkt.specs.declared.Form.{Form}
use Rattle.rdm_pkt.specs.declared.Form.TheVariants as F
use Rattle.rdm_pkt.specs.declared.Kind.{Kind}
use Rattle.rdm_pkt.specs.declared.Kind.TheVariants.{Eager, Medium, LongCts, LongRead, Runt}
use Rattle.rdm_pkt.specs.Heads.{head_of, shape_of, piece_of}
use Rattle.rdm_pkt.specs.Openings.{Message, message_head, shape_by}
use Rattle.rdm_match.specs.Matcher.{Pair, is_pair}
use Rattle.rdm_wire.specs.declared.Datagram.{Datagram}
use Rattle.rdm_wire.specs.declared.ReadData.{ReadData}
use Rattle.rdm_model.specs.declared.job.Job.{Job}
use Rattle.rdm_model.specs.declared.entry.Entry.{Entry}
use Rattle.rdm_model.specs.Deeds.{Deed, Item, Spelled, Gives}
use Rattle.rdm_model.specs.Beginnings.{own_of}
use Rattle.rdm_model.specs.Heard.{heard_head, is_heard}
use Rattle.rdm_model.specs.Parts.{piece_by, carried_pieces}
use Rattle.rdm_model.specs.Sends.{Sent}
use Rattle.rdm_model.specs.Targets.{live_pair}
use Rattle.rdm_model.specs.ClassFacts.{came_in_part, came_in_part_of, class_facts}
use Rattle.rdm_model.specs.Classes.{repeats, is_overlap}
use Rattle.rdm_model.specs.Local.{heard_by}
use Rattle.rdm_model.specs.Lawful.{life_deeds}
use Rattle.rdm_model.specs.Dues.{Sends}
use Rattle.rdm_model.proofs.Matches.{pair_passes}
use Rattle.rdm_model.proofs.Grows.{heads_by_heard}
use Rattle.rdm_model.proofs.Numbers.{placed}
use Rattle.rdm_model.proofs.Sending.{IsSingle}
use Rattle.rdm_law.proofs.Lives.Lives.{WasDueAt}
use Rattle.rdm_law.proofs.Accounts.Wired.{Played, taken_pushed}
use Rattle.rdm_law.proofs.Accounts.WasDue.{due_opening}
use Rattle.rdm_law.proofs.Accounts.Known.{account, Known, known_one, known_head, heard_taken, opened}
use Rattle.rdm_law.proofs.Accounts.Named.{pairs_of, pair_known, head_length}
use Rattle.rdm_law.proofs.Accounts.Pieces.{PieceOf, item_piece}
use Rattle.rdm_law.proofs.Classes.Landed.{live_pair_parts}
use Rattle.rdm_law.proofs.Accounts.Arrives.{Arrives, arriving_scene}
use Rattle.rdm_law.proofs.Classes.Fresh.{taken_before, piece_within, arrives_missing}

-- the head that a life knows of a message that it heard of
pub known_now : (job : Job) (history : List Entry) (to from : Life) (n : ℕ) (h : Head) → heard_head (life_deeds job history to) from n ≡ Some h
    → (account job history to).head from n ≡ h
unfolding heard_by
known_now job history to from n h e = heads_by_heard (life_deeds job history to) from n h e

-- the send of a message, whose head the life knows
pub record HeadKnown (job : Job) (history : List Entry) (to from : Life) (n : ℕ) : Type 0 where
  pub known : Known job history to from n
  pub head_is : (account job history to).head from n ≡ message_head job.limits known.sent.message known.sent.kind

-- the head of a pair's message is known
pub pair_head : (job : Job) (history : List Entry) (to from : Life) (p : Pair) → Played job history → Member p (pairs_of job history to) → p.message.life ≡ from
    → HeadKnown job history to from p.message.no.0
pair_head job history to from p played m e =
    let k = pair_known job history to p played m in
    subst (λ (y : Life). HeadKnown job history to y p.message.no.0) e (record { known = k.known; head_is = k.head_is })

-- the head of a message that was heard of is known
pub heard_known : (job : Job) (history : List Entry) (to from : Life) (n : ℕ) (h : Head) → Played job history → heard_head (life_deeds job history to) from n ≡ Some h
    → HeadKnown job history to from n
heard_known job history to from n h played e =
    let k = known_head job history to from n h played e in
    record { known = k.known; head_is = known_now job history to from n h e ∙ k.head_is }

-- bytes that arrive were not taken
pub not_taken : (job : Job) (history : List Entry) (to from : Life) (n : ℕ) (x : Piece) (item : Item) (d : Datagram) (ports : ℕ) (port_log : List Deed) (a : Arrives job history to from item d)
    → PieceOf job history to from n x a.taken.place → HeadKnown job history to from n
    → came_in_part (arriving_scene job history to ports port_log) from n x.offset (length x.bytes) ≡ false
unfolding came_in_part
not_taken job history to from n x item d ports port_log a p k =
    let same : p.known.sent ≡ k.known.sent = known_one job history to from n p.known k.known in
    let size : ((account job history to).head from n).length ≡ length k.known.sent.message.bytes = ap (λ (h : Head). h.length) k.head_is ∙ head_length job.limits k.known.sent.message k.known.sent.kind in
    let within = piece_within job history to from n x a.taken.place a.played p in
    let e : length p.known.sent.message.bytes ≡ length k.known.sent.message.bytes = ap (λ (s : Sent). length s.message.bytes) same in
    not_from_true (is_missing (carried_pieces (own_of job to).limits.first (account job history to).head (life_deeds job history to) from n) ((account job history to).head from n).length x.offset (length x.bytes))
    (arrives_missing job history to from n x item d a p ((account job history to).head from n).length (omega arith))

-- bytes for the pair of a live receive that arrive were not taken
pub pair_not_taken : (job : Job) (history : List Entry) (to from : Life) (recv : ℕ) (x : Piece) (item : Item) (d : Datagram) (ports : ℕ) (port_log : List Deed) (a : Arrives job history to from item d)
    → ((n : ℕ) → is_pair (pairs_of job history to) recv from n ≡ true → piece_by (pairs_of job history to) from n item ≡ Some x)
    → (o : Option Pair) → live_pair (arriving_scene job history to ports port_log) from recv ≡ o
    → came_in_part_of (arriving_scene job history to ports port_log) x.offset (length x.bytes) o ≡ false
unfolding came_in_part_of
pair_not_taken job history to from recv x item d ports port_log a brings None h = refl
pair_not_taken job history to from recv x item d ports port_log a brings (Some p) h =
    let l = live_pair_parts (arriving_scene job history to ports port_log) from recv p h in
    let is = pair_passes (pairs_of job history to) p recv from p.message.no.0 l.member l.recv_is l.life_is refl in
    let piece = item_piece job history to from p.message.no.0 x item d a.played a.taken (brings p.message.no.0 is) in
    subst (λ (y : Life). came_in_part (arriving_scene job history to ports port_log) y p.message.no.0 x.offset (length x.bytes) ≡ false) (sym l.life_is)
    (not_taken job history to from p.message.no.0 x item d ports port_log a piece (pair_head job history to from p a.played l.member l.life_is))

-- a form that is no segment
abbrev pub IsWhole : Form → Type 0
IsWhole (F.Eager bytes) = Unit {0}
IsWhole (F.Medium size offset bytes) = ⊥
IsWhole (F.LongCts size send credits bytes) = Unit {0}
IsWhole (F.LongRead size send iov) = Unit {0}
IsWhole (F.Runt size send iov runt offset bytes) = ⊥

-- is of a protocol of one packet
whole_single : (form : Form) (limits : EpLimits) (m : Message) (kind : Kind) → IsWhole form → shape_of form ≡ shape_by limits m kind → IsSingle kind
unfolding shape_of shape_by
whole_single form limits m Eager w e = tt
whole_single form limits m LongCts w e = tt
whole_single form limits m LongRead w e = tt
whole_single (F.Eager bytes) limits m Medium w e = cc
whole_single (F.LongCts size send credits bytes) limits m Medium w e = cc
whole_single (F.LongRead size send iov) limits m Medium w e = cc
whole_single (F.Medium size offset bytes) limits m Medium w e = elim w [ ]
whole_single (F.Runt size send iov runt offset bytes) limits m Medium w e = elim w [ ]
whole_single (F.Eager bytes) limits m (Runt r) w e = cc
whole_single (F.LongCts size send credits bytes) limits m (Runt r) w e = cc
whole_single (F.LongRead size send iov) limits m (Runt r) w e = cc
whole_single (F.Medium size offset bytes) limits m (Runt r) w e = elim w [ ]
whole_single (F.Runt size send iov runt offset bytes) limits m (Runt r) w e = elim w [ ]

-- a packet that tells the head tells the shape
head_shape_of : (tag : Option ℕ) (confirm : Bool) (opt : Opt) (form : Form) (limits : EpLimits) (m : Message) (kind : Kind) → head_of tag confirm opt form ≡ message_head limits m kind → shape_of form ≡ shape_by limits m kind
unfolding head_of message_head
head_shape_of tag confirm opt form limits m kind e = ap (λ (h : Head). h.shape) e

-- the one packet that opens a message was not taken before
pub opens_first : (job : Job) (history : List Entry) (to from : Life) (number : MsgNo) (tag : Option ℕ) (confirm : Bool) (opt : Opt) (form : Form) (d : Datagram)
    → Arrives job history to from (Spelled (Rtm number tag confirm opt form)) d → IsWhole form → (h : Head) → heard_head (life_deeds job history to) from number.0 ≡ Some h → ⊥
opens_first job history to from number tag confirm opt form d a w h e =
    let o = opened job history to from number tag confirm opt form d a.taken in
    let t = heard_taken (life_deeds job history to) from number.0 h e in
    let was = taken_pushed job history to from (Spelled (Rtm t.number t.tag t.confirm t.opt t.form)) a.played t.took in
    let p = opened job history to from t.number t.tag t.confirm t.opt t.form was.datagram was.taken in
    let known : Known job history to from number.0 = record { sent = p.known.sent; member = p.known.member; to_is = p.known.to_is; number_is = p.known.number_is ∙ t.number_is } in
    let same : known.sent ≡ o.known.sent = known_one job history to from number.0 known o.known in
    let was_due : WasDueAt (own_of job from) (Sends o.known.sent (Rtm t.number t.tag t.confirm t.opt t.form)) was.taken.place (life_deeds job history from) =
    subst (λ (s : Sent). WasDueAt (own_of job from) (Sends s (Rtm t.number t.tag t.confirm t.opt t.form)) was.taken.place (life_deeds job history from)) same p.was_due in
    let single = whole_single form job.limits o.known.sent.message o.known.sent.kind w (head_shape_of tag confirm opt form job.limits o.known.sent.message o.known.sent.kind o.head_is) in
    taken_before job history to from (Spelled (Rtm number tag confirm opt form)) (Spelled (Rtm t.number t.tag t.confirm t.opt t.form)) d a was
    (due_opening (own_of job from) o.known.sent t.number number t.tag tag t.confirm confirm t.opt opt t.form form was.taken.place a.taken.place (life_deeds job history from) single was_due o.was_due)

-- a packet that opens a message brings its bytes
rtm_brings : (ps : List Pair) (from : Life) (number : MsgNo) (tag : Option ℕ) (confirm : Bool) (opt : Opt) (form : Form) → piece_by ps from number.0 (Spelled (Rtm number tag confirm opt form)) ≡ piece_of form
unfolding piece_by
rtm_brings ps from number tag confirm opt form = rw (eq-eqb number.0 number.0 refl) refl

-- a packet that opens a heard message repeats nothing
not_repeated : (job : Job) (history : List Entry) (to from : Life) (number : MsgNo) (tag : Option ℕ) (confirm : Bool) (opt : Opt) (form : Form) (d : Datagram) (ports : ℕ) (port_log : List Deed)
    → Arrives job history to from (Spelled (Rtm number tag confirm opt form)) d → (h : Head) → heard_head (life_deeds job history to) from number.0 ≡ Some h
    → repeats (class_facts (arriving_scene job history to ports port_log)) from number.0 form ≡ false
unfolding repeats piece_of
not_repeated job history to from number tag confirm opt (F.Medium size offset bytes) d ports port_log a h e =
    let form : Form = F.Medium size offset bytes in
    let x : Piece = record { offset = offset; bytes = bytes } in
    not_taken job history to from number.0 x (Spelled (Rtm number tag confirm opt form)) d ports port_log a
    (item_piece job history to from number.0 x (Spelled (Rtm number tag confirm opt form)) d a.played a.taken (rtm_brings (pairs_of job history to) from number tag confirm opt form))
    (heard_known job history to from number.0 h a.played e)
not_repeated job history to from number tag confirm opt (F.Runt size send iov runt offset bytes) d ports port_log a h e =
    let form : Form = F.Runt size send iov runt offset bytes in
    let x : Piece = record { offset = offset; bytes = bytes } in
    not_taken job history to from number.0 x (Spelled (Rtm number tag confirm opt form)) d ports port_log a
    (item_piece job history to from number.0 x (Spelled (Rtm number tag confirm opt form)) d a.played a.taken (rtm_brings (pairs_of job history to) from number tag confirm opt form))
    (heard_known job history to from number.0 h a.played e)
not_repeated job history to from number tag confirm opt (F.Eager bytes) d ports port_log a h e = absurd (opens_first job history to from number tag confirm opt (F.Eager bytes) d a tt h e)
not_repeated job history to from number tag confirm opt (F.LongCts size send credits bytes) d ports port_log a h e = absurd (opens_first job history to from number tag confirm opt (F.LongCts size send credits bytes) d a tt h e)
not_repeated job history to from number tag confirm opt (F.LongRead size send iov) d ports port_log a h e = absurd (opens_first job history to from number tag confirm opt (F.LongRead size send iov) d a tt h e)

-- a packet that opens a message repeats nothing, heard or not
heard_not_repeated : (job : Job) (history : List Entry) (to from : Life) (number : MsgNo) (tag : Option ℕ) (confirm : Bool) (opt : Opt) (form : Form) (d : Datagram) (ports : ℕ) (port_log : List Deed)
    → Arrives job history to from (Spelled (Rtm number tag confirm opt form)) d → (o : Option Head) → heard_head (life_deeds job history to) from number.0 ≡ o
    → (is_heard (life_deeds job history to) from number.0 && repeats (class_facts (arriving_scene job history to ports port_log)) from number.0 form) ≡ false
unfolding is_heard
heard_not_repeated job history to from number tag confirm opt form d ports port_log a None e = and_left _ _ (ap (λ (o : Option Head). is_some o) e)
heard_not_repeated job history to from number tag confirm opt form d ports port_log a (Some h) e = and_right _ _ (not_repeated job history to from number tag confirm opt form d ports port_log a h e)

-- the number of a message that was sent is not below the first
number_from : (job : Job) (history : List Entry) (to from : Life) (n : ℕ) → Known job history to from n → nat_lt n (own_of job to).limits.first ≡ false
unfolding own_of
number_from job history to from n k =
    let p = placed (own_of job from) (account job history from) (life_deeds job history from) k.sent k.member in
    let low : job.limits.first ≤ k.sent.message.no.0 = p.0 in
    let e = k.number_is in
    le-ltb n job.limits.first (omega arith)

-- granted bytes come for the message of their receive
pub data_brings : (ps : List Pair) (from : Life) (recv : OpId) (offset : ℕ) (connid : Connid) (bytes : List ℕ) (n : ℕ) → is_pair ps recv.0 from n ≡ true
    → piece_by ps from n (Spelled (CtsData recv offset connid bytes)) ≡ Some (record { offset = offset; bytes = bytes })
unfolding piece_by
data_brings ps from recv offset connid bytes n h = rw h refl

-- and so do read bytes
pub given_brings : (ps : List Pair) (from : Life) (g : ReadData) (n : ℕ) → is_pair ps g.recv_id.0 from n ≡ true → piece_by ps from n (Gives g) ≡ Some (record { offset = g.at; bytes = g.bytes })
unfolding piece_by
given_brings ps from g n h = rw h refl

-- what arrives overlaps nothing
pub overlap_free : (job : Job) (history : List Entry) (to from : Life) (item : Item) (d : Datagram) → Arrives job history to from item d → (ports : ℕ) (port_log : List Deed)
    → is_overlap (class_facts (arriving_scene job history to ports port_log)) from item ≡ false
unfolding is_overlap
overlap_free job history to from (Spelled (Rtm number tag confirm opt form)) d a ports port_log =
    or_from _ _ (number_from job history to from number.0 (opened job history to from number tag confirm opt form d a.taken).known)
    (heard_not_repeated job history to from number tag confirm opt form d ports port_log a (heard_head (life_deeds job history to) from number.0) refl)
overlap_free job history to from (Spelled (CtsData recv offset connid bytes)) d a ports port_log =
    pair_not_taken job history to from recv.0 (record { offset = offset; bytes = bytes }) (Spelled (CtsData recv offset connid bytes)) d ports port_log a
    (data_brings (pairs_of job history to) from recv offset connid bytes) (live_pair (arriving_scene job history to ports port_log) from recv.0) refl
overlap_free job history to from (Gives g) d a ports port_log =
    pair_not_taken job history to from g.recv_id.0 (record { offset = g.at; bytes = g.bytes }) (Gives g) d ports port_log a
    (given_brings (pairs_of job history to) from g) (live_pair (arriving_scene job history to ports port_log) from g.recv_id.0) refl
overlap_free job history to from _ d a ports port_log = refl
