-- What arrives is not BadKey.
use Rattle.std.proofs.Common.{◌≡◌, ℕ, Bool, true, false, List, length, Some, refl, arith, sym, ◌∙◌, ap, subst}
use Rattle.std.specs.Prelude.{not, ◌&&◌, nat_lt, nat_le}
use Rattle.std.specs.List.{list_any}
use Rattle.std.proofs.lemmas.Bool.{and_from, lt-ltb, le-leb, false_from_ne_true}
use Rattle.rdm_lists.specs.Lists.{Member}
use Rattle.rdm_num.specs.Pieces.{overlaps}
use Rattle.rdm_num.specs.declared.numbers.Life.{Life}
use Rattle.rdm_pkt.specs.declared.Packet.{Packet}
use Rattle.rdm_pkt.specs.Openings.{message_head}
use Rattle.rdm_wire.specs.declared.Datagram.{Datagram}
use Rattle.rdm_wire.specs.declared.ReadAsk.{ReadAsk}
use Rattle.rdm_model.specs.declared.job.Job.{Job}
use Rattle.rdm_model.specs.declared.entry.Entry.{Entry}
use Rattle.rdm_model.specs.Deeds.{Deed, Item, Asks}
use Rattle.rdm_model.specs.Beginnings.{own_of}
use Rattle.rdm_model.specs.Currents.{is_forgotten}
use Rattle.rdm_model.specs.Reads.{asks_of}
use Rattle.rdm_model.specs.Scenes.{Scene}
use Rattle.rdm_model.specs.Sends.{Sent}
use Rattle.rdm_model.specs.Dues.{progress, is_read, ends_send, is_complete, is_over}
use Rattle.rdm_model.specs.Targets.{live_send, read_from, is_in_iov, is_good_ask}
use Rattle.rdm_model.specs.ClassFacts.{class_facts}
use Rattle.rdm_model.specs.Classes.{is_bad_key}
use Rattle.rdm_model.specs.Lawful.{life_deeds}
use Rattle.rdm_law.proofs.Replies.Asks.{iov_bytes}
use Rattle.rdm_law.proofs.Fits.AnswersFit.{ranges_fit}
use Rattle.rdm_law.proofs.Lives.Replaced.{not_forgotten}
use Rattle.rdm_law.proofs.Ends.SentSizes.{sent_sized}
use Rattle.rdm_law.proofs.Ends.LiveSends.{live_send_is}
use Rattle.rdm_law.proofs.Accounts.Wired.{Played, own_life}
use Rattle.rdm_law.proofs.Accounts.Known.{account, sends_of}
use Rattle.rdm_law.proofs.Accounts.Named.{AskOf}
use Rattle.rdm_law.proofs.Classes.Asked.{filled_asked}
use Rattle.rdm_law.proofs.Classes.EndsKnown.{end_taken}
use Rattle.rdm_model.proofs.Numbers.{sends_one}
use Rattle.rdm_law.proofs.Accounts.Arrives.{Arrives, arriving_scene}
use Rattle.rdm_law.proofs.Classes.ClassAsks.{AskSend, ask_send, ask_new, asks_new}

-- a send of a life has as many bytes as its read list
pub sent_size : (job : Job) (history : List Entry) (j : Life) (s : Sent) → Played job history → Member s (sends_of job history j) → iov_bytes s.message.iov ≡ length s.message.bytes
sent_size job history j s played m =
    sent_sized (own_of job j) (account job history j) (life_deeds job history j) (ranges_fit (own_of job j) (life_deeds job history j) (own_life job history played j)) s m

-- sends of a life of one number are one
pub sent_one : (job : Job) (history : List Entry) (j : Life) (s t : Sent) → Member s (sends_of job history j) → Member t (sends_of job history j) → s.number ≡ t.number → s ≡ t
sent_one job history j s t m n e = sends_one (own_of job j) (account job history j) (life_deeds job history j) s t m n e

-- no end was taken of a send whose ask arrives
ask_unended : (job : Job) (history : List Entry) (j i : Life) (a : ReadAsk) (d : Datagram) → (h : Arrives job history j i (Asks a) d) → (s : AskSend job history j i a)
    → list_any (ends_send i s.sent.number) (life_deeds job history j) ≡ false
ask_unended job history j i a d h s =
    false_from_ne_true (list_any (ends_send i s.sent.number) (life_deeds job history j)) (λ t.
    let e = (end_taken job history j i s.sent.number h.played t).of in
    let same : e.known.sent ≡ s.sent = sent_one job history j e.known.sent s.sent e.sent_member s.member e.number_is in
    let ask = s.known.ask_of in
    let size = sent_size job history j s.sent h.played s.member in
    let from = ask.from in
    let to = ask.to in
    let some = ask.has_byte in
    let head = e.head_is ∙ ap (λ (x : Sent). message_head job.limits x.message x.kind) same in
    let b = filled_asked job history i j e.pair s.sent a.at h.played e.life_is e.known same head ask.read e.filled from (omega arith) in
    let low = b.from in
    let high = b.to in
    ask_new job history j i s.sent a b.ask d h s.known s.member b.names b.took (a.at, omega arith, omega arith, low, high))

-- a read send is not over while its life is known and no end of it was taken
pub read_over : (log : List Deed) (pushed : List Packet) (s : Sent) → is_forgotten log s.to ≡ false → is_read s.kind ≡ true → list_any (ends_send s.to s.number) log ≡ false
    → is_over log pushed s ≡ false
unfolding is_over is_complete
read_over log pushed s f r e = rw (f, r, e) refl

-- the life whose datagram arrives is not forgotten
pub not_forgotten_here : (job : Job) (history : List Entry) (life' from : Life) (item : Item) (d : Datagram) → Arrives job history life' from item d
    → is_forgotten (life_deeds job history life') from ≡ false
not_forgotten_here job history life' from item d h = not_forgotten (own_of job life') (life_deeds job history life') from (own_life job history h.played life') h.current

-- the send that an arriving ask names is live
ask_live : (job : Job) (history : List Entry) (j i : Life) (a : ReadAsk) (d : Datagram) (ports : ℕ) (port_log : List Deed) → (h : Arrives job history j i (Asks a) d)
    → (s : AskSend job history j i a) → live_send (arriving_scene job history j ports port_log) i a.send_id.0 ≡ Some s.sent
ask_live job history j i a d ports port_log h s =
    let log = life_deeds job history j in
    let f = subst (λ (x : Life). is_forgotten log x ≡ false) (sym s.to_is) (not_forgotten_here job history j i (Asks a) d h) in
    let e = subst (λ (x : Life). list_any (ends_send x s.sent.number) log ≡ false) (sym s.to_is) (ask_unended job history j i a d h s) in
    live_send_is (arriving_scene job history j ports port_log) s.sent i a.send_id.0 s.member s.to_is s.names
    (read_over log ((progress (own_of job j) (account job history j) log).packets s.sent.number) s.sent f s.known.ask_of.read e)

-- an ask that lies in what is read and shares no byte is good
good_ask : (s : Scene) (i : Life) (a : ReadAsk) (t : Sent) → AskOf t.message t.kind a
    → list_any (λ (b : ReadAsk). overlaps a.at a.length b.at b.length) (asks_of s.log i a.send_id.0) ≡ false → is_good_ask s i a (Some t) ≡ true
unfolding is_good_ask
good_ask s i a t ask none =
    let any : Bool = list_any (λ (b : ReadAsk). overlaps a.at a.length b.at b.length) (asks_of s.log i a.send_id.0) in
    and_from (is_read t.kind && nat_lt 0 a.length && nat_le (read_from t.kind) a.at && not any) (is_in_iov a 0 t.message.iov)
    (and_from (is_read t.kind && nat_lt 0 a.length && nat_le (read_from t.kind) a.at) (not any)
    (and_from (is_read t.kind && nat_lt 0 a.length) (nat_le (read_from t.kind) a.at)
    (and_from (is_read t.kind) (nat_lt 0 a.length) ask.read (lt-ltb 0 a.length ask.has_byte))
    (le-leb (read_from t.kind) a.at ask.from))
    (ap not none))
    ask.listed

-- an ask that arrives is good, and nothing else is asked that of
pub bad_key_free : (job : Job) (history : List Entry) (life' from : Life) (item : Item) (d : Datagram) → Arrives job history life' from item d → (ports : ℕ) (port_log : List Deed)
    → is_bad_key (class_facts (arriving_scene job history life' ports port_log)) from item ≡ false
unfolding is_bad_key
bad_key_free job history j i (Asks a) d h ports port_log =
    let scene' = arriving_scene job history j ports port_log in
    let s = ask_send job history j i a d h.played h.taken in
    let live = ask_live job history j i a d ports port_log h s in
    let new = asks_new job history j i s.sent a d h s.known s.member s.names in
    ap not (ap (λ o. is_good_ask scene' i a o) live ∙ good_ask scene' i a s.sent s.known.ask_of new)
bad_key_free job history life' from _ d h ports port_log = refl
