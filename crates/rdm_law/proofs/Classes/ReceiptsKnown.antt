-- A receipt that a life took is of a confirmed send of its own, whose message filled a receive and so was pushed whole.
use Rattle.std.proofs.Common.{◌≡◌, ℕ, ◌+◌, ◌<◌, ◌≤◌, Bool, true, false, List, [], ◌∷◌, length, Some, refl, arith, true≢false, inl, inr, sym, ◌∙◌, ap, subst}
use Rattle.std.specs.Prelude.{slice_get}
use Rattle.std.specs.List.{list_any}
use Rattle.std.proofs.lemmas.Bool.{cases_lt}
use Rattle.std.proofs.lemmas.Option.{slice_get_within}
use Rattle.rdm_lists.specs.Lists.{Member}
use Rattle.rdm_num.specs.Pieces.{Piece, covers}
use Rattle.rdm_num.specs.declared.numbers.Life.{Life}
use Rattle.rdm_num.specs.declared.numbers.MsgNo.{MsgNo}
use Rattle.rdm_num.specs.declared.numbers.Connid.{Connid}
use Rattle.rdm_num.specs.declared.limits.EpLimits.{EpLimits}
use Rattle.rdm_num.specs.declared.head.Head.{Head}
use Rattle.rdm_num.specs.declared.head.Shape.{Shape}
use Rattle.rdm_pkt.specs.declared.Packet.{Packet}
use Rattle.rdm_pkt.specs.declared.Packet.TheVariants.{Rtm, Receipt}
use Rattle.rdm_pkt.specs.declared.Kind.{Kind}
use Rattle.rdm_pkt.specs.declared.Kind.TheVariants.{Eager, Medium, LongCts, LongRead, Runt}
use Rattle.rdm_pkt.specs.Openings.{Message, shape_by, says_confirm, message_head}
use Rattle.rdm_match.specs.Matcher.{Pair}
use Rattle.rdm_wire.specs.declared.Datagram.{Datagram}
use Rattle.rdm_model.specs.declared.job.Job.{Job}
use Rattle.rdm_model.specs.declared.entry.Entry.{Entry}
use Rattle.rdm_model.specs.Deeds.{Deed, Took, Spelled}
use Rattle.rdm_model.specs.Beginnings.{own_of}
use Rattle.rdm_model.specs.Parts.{carried_pieces}
use Rattle.rdm_model.specs.Receives.{is_filled}
use Rattle.rdm_model.specs.Sends.{Sent}
use Rattle.rdm_model.specs.Dues.{Sends, is_read, pieces_in, is_pushed, confirms}
use Rattle.rdm_model.specs.Targets.{is_read_shape}
use Rattle.rdm_model.specs.Lawful.{life_deeds}
use Rattle.rdm_model.proofs.Grows.{landed_byte}
use Rattle.rdm_model.proofs.Pushes.{pushed_of, underway}
use Rattle.rdm_model.proofs.Rows.{row_covers}
use Rattle.rdm_model.proofs.Served.{done_bytes, served_at, served_stands, push_done}
use Rattle.rdm_model.proofs.Matches.{pair_heard}
use Rattle.rdm_law.proofs.Replies.Owed.{shape_in, confirm_in}
use Rattle.rdm_law.proofs.Replies.Causes.{owed_receipt}
use Rattle.rdm_law.proofs.Accounts.WasDue.{was_due_pushed}
use Rattle.rdm_law.proofs.Accounts.Wired.{Played, TakenDue, Taken, taken_pushed}
use Rattle.rdm_law.proofs.Accounts.Known.{account, sends_of, Known, known_one, heard_taken, opened}
use Rattle.rdm_law.proofs.Accounts.Named.{pairs_of, pair_known, went_reply, head_shape, head_length}
use Rattle.rdm_law.proofs.Accounts.Sent.{carried_part}
use Rattle.rdm_law.proofs.Accounts.Whole.{byte_of_piece}
use Rattle.rdm_law.proofs.Classes.Asked.{byte_range}
use Rattle.rdm_law.proofs.Classes.Fresh.{given_at}
use Rattle.rdm_law.proofs.Ends.Receipts.{confirms_took}
use Rattle.rdm_lists.proofs.Members.{list_any_member}

-- the pair of a receipt, and the send that it confirms
pub record ReceiptSend (job : Job) (history : List Entry) (i j : Life) (number : ℕ) : Type 0 where
  pub pair : Pair
  pub member : Member pair (pairs_of job history i)
  pub life_is : pair.message.life ≡ j
  pub number_is : pair.message.no.0 ≡ number
  pub known : Known job history i j pair.message.no.0
  pub confirm : known.sent.message.confirm ≡ true
  pub unread : is_read known.sent.kind ≡ false
  pub filled : is_filled (own_of job i).limits.first (account job history i).head (life_deeds job history i) pair ≡ true
  pub head_is : (account job history i).head pair.message.life pair.message.no.0 ≡ message_head job.limits known.sent.message known.sent.kind

-- a message that says so is confirmed, and not read
says_so : (limits : EpLimits) (m : Message) (kind : Kind) → (message_head limits m kind).confirm ≡ true → (m.confirm ≡ true) × (is_read kind ≡ false)
unfolding message_head is_read
says_so limits m Eager h = (h, refl)
says_so limits m Medium h = (h, refl)
says_so limits m LongCts h = (h, refl)
says_so limits m LongRead h = cc
says_so limits m (Runt runt) h = cc

-- a receipt that a life pushed is of a filled pair
pub receipt_went : (job : Job) (history : List Entry) (j i : Life) (number : MsgNo) (connid : Connid) (d : Datagram) → Played job history
    → TakenDue job history j i (Spelled (Receipt number connid)) d → ReceiptSend job history i j number.0
receipt_went job history j i number connid d played t =
    let r = went_reply job history j i (Receipt number connid) d t (λ x. x) in
    let o = owed_receipt (own_of job i) (account job history i) (life_deeds job history i) r.reply number connid r.owed r.is in
    let p = o.pair in
    let k = pair_known job history i p played o.member in
    let e : p.message.life ≡ j = o.to_is ∙ r.to_is in
    let says = says_so job.limits k.known.sent.message k.known.sent.kind (ap (λ (h : Head). h.confirm) (sym k.head_is) ∙ o.confirm) in
    record {
      pair = p;
      member = o.member;
      life_is = e;
      number_is = ap (λ (x : MsgNo). x.0) (sym o.number_is);
      known = record {
        sent = k.known.sent;
        member = subst (λ (x : Life). Member k.known.sent (sends_of job history x)) e k.known.member;
        to_is = k.known.to_is;
        number_is = k.known.number_is;
      };
      confirm = says.0;
      unread = says.1;
      filled = o.filled;
      head_is = k.head_is;
    }

-- a receipt of a message that was taken is of a filled pair
pub record ReceiptTaken (job : Job) (history : List Entry) (j i : Life) (n : ℕ) : Type 0 where
  pub connid : Connid
  pub taken : Taken job history j i (Spelled (Receipt (record { 0 = n }) connid))
  pub of : ReceiptSend job history i j n

-- so is one that was taken
pub receipt_taken : (job : Job) (history : List Entry) (j i : Life) (n : ℕ) → Played job history → list_any (confirms i n) (life_deeds job history j) ≡ true
    → ReceiptTaken job history j i n
receipt_taken job history j i n played h =
    let r = list_any_member (confirms i n) (life_deeds job history j) h in
    let e = confirms_took i n r.0 r.2 in
    let took : Member (Took i (Spelled (Receipt (record { 0 = n }) e.0))) (life_deeds job history j) = subst (λ (x : Deed). Member x (life_deeds job history j)) e.1 r.1 in
    let t = taken_pushed job history j i (Spelled (Receipt (record { 0 = n }) e.0)) played took in
    record { connid = e.0; taken = t; of = receipt_went job history j i (record { 0 = n }) e.0 t.datagram played t.taken }

-- a byte that came of a message that is not read was pushed in a packet of its send
carried_pushed : (job : Job) (history : List Entry) (i j : Life) (n : ℕ) (s : Sent) (x : Piece) → Played job history → (k : Known job history i j n) → k.sent ≡ s → is_read s.kind ≡ false
    → Member x (carried_pieces (own_of job i).limits.first (account job history i).head (life_deeds job history i) j n)
    → x.offset + length x.bytes ≤ done_bytes (own_of job j) (account job history j) (life_deeds job history j) s.number
carried_pushed job history i j n s x played k is unread m =
    let own = own_of job j in
    let log = life_deeds job history j in
    let c = carried_part job history i j n x played m in
    let same : c.1.known.sent ≡ s = known_one job history i j n c.1.known k ∙ is in
    let P : Sent → Type 0 = λ y. x.offset + length x.bytes ≤ done_bytes own (account job history j) log y.number in
    elim c.1.how [
      | inl a ↦ subst P same (push_done own (account job history j) c.1.known.sent a.0 x c.0 log (was_due_pushed own (Sends c.1.known.sent a.0) c.0 log a.1) a.2)
      | inr a ↦ (
          let g = given_at job history i j c.1.known.sent x c.0 played a in
          let r : is_read s.kind ≡ true = subst (λ (y : Sent). is_read y.kind ≡ true) same g.0 in
          absurd (true≢false (sym r ∙ unread)))
    ]

-- all bytes of a message that filled a receive, and is not read, were pushed
filled_bytes : (job : Job) (history : List Entry) (i j : Life) (number : ℕ) → Played job history → (e : ReceiptSend job history i j number)
    → length e.known.sent.message.bytes ≤ done_bytes (own_of job j) (account job history j) (life_deeds job history j) e.known.sent.number
filled_bytes job history i j number played e =
    let s = e.known.sent in
    let p = e.pair in
    let first = (own_of job i).limits.first in
    let heads = (account job history i).head in
    let log = life_deeds job history i in
    let done = done_bytes (own_of job j) (account job history j) (life_deeds job history j) s.number in
    let size : (heads p.message.life p.message.no.0).length ≡ length s.message.bytes = ap (λ (h : Head). h.length) e.head_is ∙ head_length job.limits s.message s.kind in
    elim (cases_lt done (length s.message.bytes)) [
      | inr whole ↦ whole
      | inl less ↦ (
          let b = landed_byte first heads log p done e.filled (omega arith) in
          let q = byte_of_piece (carried_pieces first heads log p.message.life p.message.no.0) done b.0 b.1 in
          let r = byte_range q.0 done b.0 q.2 in
          let m = subst (λ (y : Life). Member q.0 (carried_pieces first heads log y p.message.no.0)) e.life_is q.1 in
          let w = carried_pushed job history i j p.message.no.0 s q.0 played e.known refl e.unread m in
          let high = r.1 in
          absurd (omega arith))
    ]

-- a message that was heard of has a packet that was pushed
heard_some : (job : Job) (history : List Entry) (i j : Life) (number : ℕ) → Played job history → (e : ReceiptSend job history i j number)
    → 0 < length (pushed_of (own_of job j) (account job history j) (life_deeds job history j) e.known.sent.number)
heard_some job history i j number played e =
    let own = own_of job j in
    let ms = account job history j in
    let log = life_deeds job history j in
    let p = e.pair in
    let h = pair_heard (own_of job i).limits.first (account job history i).head (life_deeds job history i) p e.member in
    let t = heard_taken (life_deeds job history i) p.message.life p.message.no.0 h.0 h.1 in
    let took : Member (Took j (Spelled (Rtm t.number t.tag t.confirm t.opt t.form))) (life_deeds job history i) =
    subst (λ (l : Life). Member (Took l (Spelled (Rtm t.number t.tag t.confirm t.opt t.form))) (life_deeds job history i)) e.life_is t.took in
    let d = taken_pushed job history i j (Spelled (Rtm t.number t.tag t.confirm t.opt t.form)) played took in
    let o = opened job history i j t.number t.tag t.confirm t.opt t.form d.datagram d.taken in
    let mine : Known job history i j p.message.no.0 = record { sent = o.known.sent; member = o.known.member; to_is = o.known.to_is; number_is = o.known.number_is ∙ t.number_is } in
    let same : o.known.sent ≡ e.known.sent = known_one job history i j p.message.no.0 mine e.known in
    let packet : Packet = Rtm t.number t.tag t.confirm t.opt t.form in
    let at = served_at own ms o.known.sent packet d.taken.place log (was_due_pushed own (Sends o.known.sent packet) d.taken.place log o.was_due) in
    let got = served_stands own ms o.known.sent packet at.0 d.taken.place log at.1 in
    let w = slice_get_within (pushed_of own ms log o.known.sent.number) at.0 packet got in
    subst (λ (s : Sent). 0 < length (pushed_of own ms log s.number)) same (omega arith)

-- packets in a row with all bytes have the whole message
row_pushed : (s : Sent) (ps : List Packet) → 0 < length ps → covers (pieces_in ps) (length s.message.bytes) ≡ true → is_pushed s ps ≡ true
unfolding is_pushed
row_pushed s [] some c = absurd (omega arith)
row_pushed s (p ∷ ps) some c = c

-- the message of a receipt was pushed whole
pub receipt_whole : (job : Job) (history : List Entry) (i j : Life) (number : ℕ) → Played job history → (e : ReceiptSend job history i j number)
    → is_pushed e.known.sent (pushed_of (own_of job j) (account job history j) (life_deeds job history j) e.known.sent.number) ≡ true
receipt_whole job history i j number played e =
    let s = e.known.sent in
    let pushed = pushed_of (own_of job j) (account job history j) (life_deeds job history j) s.number in
    let u = underway (own_of job j) (account job history j) (life_deeds job history j) s e.known.member in
    row_pushed s pushed (heard_some job history i j number played e)
    (row_covers s.message.bytes (pieces_in pushed) (length s.message.bytes) u.row (filled_bytes job history i j number played e))
