-- A receipt that arrives is of a live confirmed send whose whole message was pushed: neither NoOp nor Mismatch.
use Rattle.std.proofs.Common.{◌≡◌, ℕ, true, false, List, Option, Some, refl, inl, inr, sym, ◌∙◌, ap, subst}
use Rattle.std.specs.Prelude.{not, ◌&&◌}
use Rattle.std.specs.List.{list_any}
use Rattle.std.proofs.lemmas.Bool.{and_from, false_from_ne_true}
use Rattle.rdm_num.specs.declared.numbers.Life.{Life}
use Rattle.rdm_num.specs.declared.numbers.MsgNo.{MsgNo}
use Rattle.rdm_num.specs.declared.numbers.Connid.{Connid}
use Rattle.rdm_pkt.specs.declared.Packet.{Packet}
use Rattle.rdm_pkt.specs.declared.Packet.TheVariants.{Receipt}
use Rattle.rdm_wire.specs.declared.Datagram.{Datagram}
use Rattle.rdm_model.specs.declared.job.Job.{Job}
use Rattle.rdm_model.specs.declared.entry.Entry.{Entry}
use Rattle.rdm_model.specs.Deeds.{Deed, Spelled}
use Rattle.rdm_model.specs.Beginnings.{own_of}
use Rattle.rdm_model.specs.Currents.{is_forgotten}
use Rattle.rdm_model.specs.Scenes.{Scene}
use Rattle.rdm_model.specs.Sends.{Sent}
use Rattle.rdm_model.specs.Dues.{progress, is_read, is_pushed, is_complete, is_over, confirms}
use Rattle.rdm_model.specs.Targets.{live_message, is_confirmed_send}
use Rattle.rdm_model.specs.ClassFacts.{is_early_receipt, class_facts}
use Rattle.rdm_model.specs.Classes.{is_mismatch, is_no_op}
use Rattle.rdm_model.specs.Lawful.{life_deeds}
use Rattle.rdm_model.proofs.Pushes.{pushed_of}
use Rattle.rdm_law.proofs.Replies.Clashes.{Clash}
use Rattle.rdm_law.proofs.Replies.ReplyDues.{reply_once}
use Rattle.rdm_law.proofs.Accounts.Wired.{own_life}
use Rattle.rdm_law.proofs.Accounts.Known.{account}
use Rattle.rdm_law.proofs.Accounts.Named.{went_reply}
use Rattle.rdm_law.proofs.Accounts.Arrives.{Arrives, arriving_scene}
use Rattle.rdm_law.proofs.Classes.ClassKeys.{not_forgotten_here}
use Rattle.rdm_law.proofs.Classes.Fresh.{taken_before}
use Rattle.rdm_law.proofs.Classes.ReceiptsKnown.{ReceiptSend, receipt_went, receipt_taken, receipt_whole}
use Rattle.rdm_law.proofs.Ends.Receipts.{live_message_is}

-- a receipt that arrives is the first of its message
receipt_new : (job : Job) (history : List Entry) (j i : Life) (number : MsgNo) (connid : Connid) (d : Datagram) → Arrives job history j i (Spelled (Receipt number connid)) d
    → list_any (confirms i number.0) (life_deeds job history j) ≡ false
receipt_new job history j i number connid d h =
    false_from_ne_true (list_any (confirms i number.0) (life_deeds job history j)) (λ t.
    let w = receipt_taken job history j i number.0 h.played t in
    let x = went_reply job history j i (Receipt (record { 0 = number.0 }) w.connid) w.taken.datagram w.taken.taken (λ z. z) in
    let y = went_reply job history j i (Receipt number connid) d h.taken (λ z. z) in
    let clash : Clash x.reply y.reply = inr (inr (inr (inr (record { to_is = x.to_is ∙ sym y.to_is; number = number; connid = w.connid; is = x.is; connid' = connid; is' = y.is })))) in
    let k = reply_once (own_of job i) x.reply y.reply w.taken.taken.place h.taken.place (life_deeds job history i) (own_life job history h.played i) x.was_due y.was_due clash in
    taken_before job history j i (Spelled (Receipt number connid)) (Spelled (Receipt (record { 0 = number.0 }) w.connid)) d h w.taken k)

-- a confirmed send that is not read is not over while its life is known and no receipt of it was taken
confirmed_live : (log : List Deed) (pushed : List Packet) (s : Sent) → is_forgotten log s.to ≡ false → is_read s.kind ≡ false → s.message.confirm ≡ true
    → list_any (confirms s.to s.message.no.0) log ≡ false → is_over log pushed s ≡ false
unfolding is_over is_complete
confirmed_live log pushed s f r c e = rw (f, r, c, e) refl

-- the send that an arriving receipt names is live
receipt_live : (job : Job) (history : List Entry) (j i : Life) (number : MsgNo) (connid : Connid) (d : Datagram) (ports : ℕ) (port_log : List Deed)
    → (h : Arrives job history j i (Spelled (Receipt number connid)) d) → (e : ReceiptSend job history i j number.0)
    → live_message (arriving_scene job history j ports port_log) i number.0 ≡ Some e.known.sent
receipt_live job history j i number connid d ports port_log h e =
    let log = life_deeds job history j in
    let s = e.known.sent in
    let f = subst (λ (x : Life). is_forgotten log x ≡ false) (sym e.known.to_is) (not_forgotten_here job history j i (Spelled (Receipt number connid)) d h) in
    let no = e.known.number_is ∙ e.number_is in
    let n = subst (λ (m : ℕ). list_any (confirms s.to m) log ≡ false) (sym no)
    (subst (λ (x : Life). list_any (confirms x number.0) log ≡ false) (sym e.known.to_is) (receipt_new job history j i number connid d h)) in
    live_message_is (arriving_scene job history j ports port_log) s i number.0 e.known.member e.known.to_is no
    (confirmed_live log ((progress (own_of job j) (account job history j) log).packets s.number) s f e.unread e.confirm n)

-- a confirmed send that is not read
confirmed_send : (t : Sent) → t.message.confirm ≡ true → is_read t.kind ≡ false → is_confirmed_send (Some t) ≡ true
unfolding is_confirmed_send
confirmed_send t c r = and_from t.message.confirm (not (is_read t.kind)) c (ap not r)

-- a receipt that arrives completes a live confirmed send
pub receipt_has_op : (job : Job) (history : List Entry) (j i : Life) (number : MsgNo) (connid : Connid) (d : Datagram) (ports : ℕ) (port_log : List Deed)
    → Arrives job history j i (Spelled (Receipt number connid)) d → is_no_op (class_facts (arriving_scene job history j ports port_log)) i (Spelled (Receipt number connid)) ≡ false
unfolding is_no_op
receipt_has_op job history j i number connid d ports port_log h =
    let e = receipt_went job history j i number connid d h.played h.taken in
    ap (λ o. not (is_confirmed_send o)) (receipt_live job history j i number connid d ports port_log h e) ∙ ap not (confirmed_send e.known.sent e.confirm e.unread)

-- a receipt of what was pushed whole is not early
not_early : (s : Scene) (t : Sent) → is_pushed t ((progress s.own s.ms s.log).packets t.number) ≡ true → is_early_receipt s (Some t) ≡ false
unfolding is_early_receipt
not_early s t h = ap not h

-- a receipt that arrives comes after the whole message was pushed
pub receipt_agrees : (job : Job) (history : List Entry) (j i : Life) (number : MsgNo) (connid : Connid) (d : Datagram) (ports : ℕ) (port_log : List Deed)
    → Arrives job history j i (Spelled (Receipt number connid)) d → is_mismatch (class_facts (arriving_scene job history j ports port_log)) i (Spelled (Receipt number connid)) ≡ false
unfolding is_mismatch
receipt_agrees job history j i number connid d ports port_log h =
    let e = receipt_went job history j i number connid d h.played h.taken in
    let here = arriving_scene job history j ports port_log in
    ap (λ o. is_early_receipt here o) (receipt_live job history j i number connid d ports port_log h e)
    ∙ not_early here e.known.sent (receipt_whole job history i j number.0 h.played e)
