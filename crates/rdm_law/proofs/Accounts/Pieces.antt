-- The bytes that a life took of a message are a part of what was sent.
use Rattle.std.proofs.Common.{◌≡◌, ℕ, Bool, true, false, cond, List, take, drop, Option, Some, None, refl, ◌⊎◌, inl, inr, sym, ◌∙◌, ap, subst}
use Rattle.std.specs.Prelude.{nat_eq}
use Rattle.std.proofs.lemmas.Bool.{eqb-true}
use Rattle.rdm_lists.specs.Lists.{Member}
use Rattle.rdm_num.specs.Pieces.{Piece}
use Rattle.rdm_num.specs.declared.numbers.Life.{Life}
use Rattle.rdm_num.specs.declared.numbers.MsgNo.{MsgNo}
use Rattle.rdm_num.specs.declared.numbers.OpId.{OpId}
use Rattle.rdm_num.specs.declared.numbers.Connid.{Connid}
use Rattle.rdm_hdr.specs.declared.Opt.{Opt}
use Rattle.rdm_pkt.specs.declared.Packet.{Packet}
use Rattle.rdm_pkt.specs.declared.Packet.TheVariants.{Rtm, CtsData}
use Rattle.rdm_pkt.specs.declared.Form.{Form}
use Rattle.rdm_pkt.specs.Heads.{piece_of}
use Rattle.rdm_match.specs.Matcher.{Pair, is_pair}
use Rattle.rdm_wire.specs.declared.Datagram.{Datagram}
use Rattle.rdm_wire.specs.declared.ReadData.{ReadData}
use Rattle.rdm_model.specs.declared.job.Job.{Job}
use Rattle.rdm_model.specs.declared.entry.Entry.{Entry}
use Rattle.rdm_model.specs.Deeds.{Item, Spelled, Gives}
use Rattle.rdm_model.specs.Beginnings.{own_of}
use Rattle.rdm_model.specs.Parts.{piece_by}
use Rattle.rdm_model.specs.Sends.{Sent}
use Rattle.rdm_model.specs.Dues.{Sends, packet_piece}
use Rattle.rdm_model.specs.Lawful.{life_deeds}
use Rattle.rdm_model.proofs.Matches.{is_pair_member}
use Rattle.rdm_model.proofs.Cuts.{Part, front_part}
use Rattle.rdm_law.proofs.Lives.Lives.{WasDueAt}
use Rattle.rdm_law.proofs.Accounts.WasDue.{due_part}
use Rattle.rdm_law.proofs.Accounts.Wired.{Played, TakenDue}
use Rattle.rdm_law.proofs.Accounts.Known.{Known, opened}
use Rattle.rdm_law.proofs.Accounts.Named.{pairs_of}
use Rattle.rdm_law.proofs.Accounts.Chains.{pair_one, data_went, data_known, GivenWent, given_went, given_known}
use Rattle.rdm_lists.proofs.Options.{then_some_parts}

-- bytes of a message that went in a packet of its send
abbrev pub SentPiece : (job : Job) (history : List Entry) (from : Life) → Sent → Piece → ℕ → Type 0
SentPiece job history from s x k =
    (packet : Packet) × WasDueAt (own_of job from) (Sends s packet) k (life_deeds job history from) × (packet_piece packet ≡ Some x)

-- bytes of a message that were given
pub record GivenPiece (job : Job) (history : List Entry) (life' from : Life) (s : Sent) (x : Piece) (k : ℕ) : Type 0 where
  pub data' : ReadData
  pub went : GivenWent job history life' from data' k
  pub sent_is : went.of.sent ≡ s
  pub piece_is : x ≡ record { offset = data'.at; bytes = data'.bytes }

-- bytes of a message that went to its life: a part of what was sent
pub record PieceOf (job : Job) (history : List Entry) (life' from : Life) (n : ℕ) (x : Piece) (k : ℕ) : Type 0 where
  pub known : Known job history life' from n
  pub part : Part x known.sent.message.bytes
  pub how : SentPiece job history from known.sent x k ⊎ GivenPiece job history life' from known.sent x k

-- a message that was sent, by its number
abbrev known_at : (job : Job) (history : List Entry) (life' from : Life) (m n : ℕ) → m ≡ n → Known job history life' from m → Known job history life' from n
known_at job history life' from m n e k = record { sent = k.sent; member = k.member; to_is = k.to_is; number_is = k.number_is ∙ e }

-- bytes in a packet of a send are a part of its message
sent_piece : (job : Job) (history : List Entry) (life' from : Life) (n : ℕ) (known : Known job history life' from n) (p : Packet) (x : Piece) (k : ℕ)
    → WasDueAt (own_of job from) (Sends known.sent p) k (life_deeds job history from) → packet_piece p ≡ Some x → PieceOf job history life' from n x k
sent_piece job history life' from n known p x k t h =
    record { known = known; part = due_part (own_of job from) known.sent p x k (life_deeds job history from) t h; how = inl (p, t, h) }

-- a value that a test gives, or none
cond_none : {A : Type 0} (t : Bool) (o : Option A) (x : A) → cond t o None ≡ Some x → (t ≡ true) × (o ≡ Some x)
cond_none true o x h = (refl, h)
cond_none false o x h = cc

-- the bytes of a packet that opens a message
rtm_piece : (number : MsgNo) (tag : Option ℕ) (confirm : Bool) (opt : Opt) (form : Form) → packet_piece (Rtm number tag confirm opt form) ≡ piece_of form
unfolding packet_piece
rtm_piece number tag confirm opt form = refl

-- the bytes of a packet of granted bytes
data_piece : (recv : OpId) (offset : ℕ) (connid : Connid) (bytes : List ℕ) → packet_piece (CtsData recv offset connid bytes) ≡ Some (record { offset = offset; bytes = bytes })
unfolding packet_piece
data_piece recv offset connid bytes = refl

-- the pair that a test found is that of the receive
found_number : (job : Job) (history : List Entry) (life' from : Life) (recv n : ℕ) (p : Pair) → Member p (pairs_of job history life') → p.recv.id.0 ≡ recv
    → is_pair (pairs_of job history life') recv from n ≡ true → p.message.no.0 ≡ n
found_number job history life' from recv n p m r h =
    let q = is_pair_member (pairs_of job history life') recv from n h in
    let e = pair_one job history life' p q.0 m q.1 (r ∙ sym q.2) in
    ap (λ (x : Pair). x.message.no.0) e ∙ q.4

-- the bytes of a message that an item has are a part of what was sent
pub item_piece : (job : Job) (history : List Entry) (life' from : Life) (n : ℕ) (x : Piece) (item : Item) (d : Datagram) → Played job history
    → (t : TakenDue job history life' from item d) → piece_by (pairs_of job history life') from n item ≡ Some x → PieceOf job history life' from n x t.place
unfolding piece_by
item_piece job history life' from n x (Spelled (Rtm number tag confirm opt form)) d played t h =
    let o = opened job history life' from number tag confirm opt form d t in
    let c = cond_none (nat_eq number.0 n) (piece_of form) x h in
    let known = known_at job history life' from number.0 n (eqb-true number.0 n c.0) o.known in
    sent_piece job history life' from n known (Rtm number tag confirm opt form) x t.place o.was_due (rtm_piece number tag confirm opt form ∙ c.1)
item_piece job history life' from n x (Spelled (CtsData recv offset connid bytes)) d played t h =
    let w = data_went job history life' from recv offset connid bytes d t in
    let g = data_known job history life' from recv offset connid bytes t.place played w in
    let c = then_some_parts (is_pair (pairs_of job history life') recv.0 from n) (record { offset = offset; bytes = bytes }) x h in
    let number = found_number job history life' from recv.0 n g.pair g.member g.recv_is c.0 in
    let known = known_at job history life' from g.pair.message.no.0 n number g.known in
    let was_due = subst (λ (s : Sent). WasDueAt (own_of job from) (Sends s (CtsData recv offset connid bytes)) t.place (life_deeds job history from)) (sym g.sent_is) w.was_due in
    sent_piece job history life' from n known (CtsData recv offset connid bytes) x t.place was_due (data_piece recv offset connid bytes ∙ ap Some c.1)
item_piece job history life' from n x (Gives g) d played t h =
    let w = given_went job history life' from g d t in
    let a = given_known job history life' from g t.place played w in
    let c = then_some_parts (is_pair (pairs_of job history life') g.recv_id.0 from n) (record { offset = g.at; bytes = g.bytes }) x h in
    let recv : a.pair.recv.id.0 ≡ g.recv_id.0 = a.recv_is ∙ ap (λ (y : ReadData). y.recv_id.0) (sym w.of.is) in
    let number = found_number job history life' from g.recv_id.0 n a.pair a.member recv c.0 in
    let known = known_at job history life' from a.pair.message.no.0 n number a.known in
    let s = w.of.sent in
    let at : g.at ≡ w.of.ask.at = ap (λ (y : ReadData). y.at) w.of.is in
    let bytes : g.bytes ≡ take w.of.ask.length (drop w.of.ask.at s.message.bytes) = ap (λ (y : ReadData). y.bytes) w.of.is in
    let part : Part (record { offset = w.of.ask.at; bytes = g.bytes }) s.message.bytes = front_part s.message.bytes g.bytes w.of.ask.length w.of.ask.at bytes in
    let part' : Part (record { offset = g.at; bytes = g.bytes }) s.message.bytes = subst (λ (y : ℕ). Part (record { offset = y; bytes = g.bytes }) s.message.bytes) (sym at) part in
    record {
      known = known;
      part = subst (λ (y : Sent). Part x y.message.bytes) (sym a.sent_is) (subst (λ (y : Piece). Part y s.message.bytes) c.1 part');
      how = inr (record { data' = g; went = w; sent_is = sym a.sent_is; piece_is = sym c.1 });
    }
item_piece job history life' from n x _ d played t h = cc
