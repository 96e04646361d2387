-- What arrives was not taken before, and its bytes are missing.
use Rattle.std.proofs.Common.{◌≡◌, ℕ, ◌+◌, ◌-◌, ◌<◌, ◌≤◌, true, false, cond, not, List, length, take, drop, Option, Some, None, refl, arith, inl, inr, sym, ◌∙◌, ap, subst}
use Rattle.std.specs.Prelude.{slice_get, is_some, nat_lt, nat_le}
use Rattle.std.proofs.lemmas.Bool.{and_from, ltb-false, le-leb}
use Rattle.std.proofs.lemmas.Option.{slice_get_within}
use Rattle.std.proofs.lemmas.List.{length-take}
use Rattle.rdm_lists.specs.Lists.{Member, each_below}
use Rattle.rdm_num.specs.Pieces.{Piece, byte_in, byte_at, is_missing, piece_bytes}
use Rattle.rdm_num.specs.declared.numbers.Life.{Life}
use Rattle.rdm_pkt.specs.declared.Packet.{Packet}
use Rattle.rdm_pkt.specs.declared.Kind.{Kind}
use Rattle.rdm_pkt.specs.declared.Kind.TheVariants.{Eager, Medium, LongCts, LongRead, Runt}
use Rattle.rdm_pkt.specs.Openings.{openings}
use Rattle.rdm_wire.specs.declared.Datagram.{Datagram}
use Rattle.rdm_wire.specs.declared.ReadData.{ReadData}
use Rattle.rdm_model.specs.declared.job.Job.{Job}
use Rattle.rdm_model.specs.declared.entry.Entry.{Entry}
use Rattle.rdm_model.specs.Deeds.{Deed, Item, log_of}
use Rattle.rdm_model.specs.Beginnings.{Own, Messages, own_of}
use Rattle.rdm_model.specs.Parts.{carried_pieces}
use Rattle.rdm_model.specs.Sends.{Sent, sends}
use Rattle.rdm_model.specs.Targets.{read_from}
use Rattle.rdm_model.specs.Dues.{Sends, packet_piece, pieces_in, is_read}
use Rattle.rdm_model.specs.Local.{heard_by}
use Rattle.rdm_model.specs.Lawful.{life_deeds}
use Rattle.rdm_model.proofs.Cuts.{row_within, piece_bytes-append}
use Rattle.rdm_model.proofs.Rows.{overlaps_from}
use Rattle.rdm_model.proofs.Opens.{pieces_in-append, opened_bytes, openings_bytes}
use Rattle.rdm_model.proofs.Pushes.{pushed_of, underway}
use Rattle.rdm_model.proofs.Served.{push_done, done_bytes}
use Rattle.rdm_law.proofs.Lives.Lives.{WasDueAt}
use Rattle.rdm_law.proofs.Accounts.Pushed.{PlacedAt, placed_once}
use Rattle.rdm_law.proofs.Accounts.Wired.{Played, own_life, taken_other, Taken, taken_pushed}
use Rattle.rdm_law.proofs.Accounts.WasDue.{was_due_pushed, due_once, due_member}
use Rattle.rdm_law.proofs.Accounts.Known.{account, known_one}
use Rattle.rdm_law.proofs.Accounts.Named.{pairs_of}
use Rattle.rdm_law.proofs.Accounts.Chains.{given_known}
use Rattle.rdm_law.proofs.Accounts.Pieces.{SentPiece, GivenPiece, PieceOf, item_piece}
use Rattle.rdm_law.proofs.Accounts.Carried.{carried_from}
use Rattle.rdm_law.proofs.Accounts.Sent.{brought_piece}
use Rattle.rdm_law.proofs.Accounts.Whole.{byte_of_piece}
use Rattle.rdm_law.proofs.Accounts.Arrives.{Arrives}
use Rattle.rdm_law.proofs.Replies.Asks.{iov_bytes}
use Rattle.rdm_law.proofs.Replies.Clashes.{Clash}
use Rattle.rdm_law.proofs.Replies.ReplyDues.{reply_once}
use Rattle.rdm_law.proofs.Ends.SentSizes.{sent_sized}
use Rattle.rdm_law.proofs.Fits.AnswersFit.{ranges_fit}
use Rattle.rdm_lists.proofs.Below.{each_below_from}

-- what was taken before was another due item
pub taken_before : (job : Job) (history : List Entry) (to from : Life) (item other : Item) (d : Datagram) → (a : Arrives job history to from item d)
    → (t : Taken job history to from other) → t.taken.place ≡ a.taken.place → ⊥
taken_before job history to from item other d a t e =
    let placed : PlacedAt job from.port.0 from.connid t.datagram a.taken.place (log_of from.port.0 history) =
    subst (λ (k : ℕ). PlacedAt job from.port.0 from.connid t.datagram k (log_of from.port.0 history)) e t.taken.placed in
    let same : t.datagram ≡ d = placed_once job from.port.0 from.connid t.datagram d a.taken.place (log_of from.port.0 history) placed a.taken.placed in
    taken_other to.port.0 t.datagram d history a.fresh t.handled same

-- what was pushed of a read send is ahead of what is read
opened_read : (kind : Kind) (s : Sent) (own : Own) → is_read kind ≡ true → opened_bytes own.limits s.message kind ≤ read_from kind
unfolding opened_bytes read_from is_read
opened_read Eager s own h = cc
opened_read Medium s own h = cc
opened_read LongCts s own h = cc
opened_read LongRead s own h = omega arith
opened_read (Runt runt) s own h = let t = length-take runt s.message.bytes in omega arith

-- no more was pushed of a read send than its first part
read_done : (own : Own) (ms : Messages) (log : List Deed) (s : Sent) → Member s (sends own ms log) → is_read s.kind ≡ true → done_bytes own ms log s.number ≤ read_from s.kind
unfolding is_read
read_done own ms log s m h =
    elim (underway own ms log s m).how [
      | inl a ↦ (
          let all : piece_bytes (pieces_in (openings own.limits s.message s.kind)) ≡ piece_bytes (pieces_in (pushed_of own ms log s.number)) + piece_bytes (pieces_in a.0) =
          ap (λ (xs : List Packet). piece_bytes (pieces_in xs)) a.1 ∙ ap piece_bytes (pieces_in-append (pushed_of own ms log s.number) a.0) ∙ piece_bytes-append (pieces_in (pushed_of own ms log s.number)) (pieces_in a.0) in
          let o = openings_bytes own.limits s.message s.kind in
          let r = opened_read s.kind s own h in
          omega arith)
      | inr a ↦ (let k = a.2 in let never : is_read LongCts ≡ true = subst (λ (x : Kind). is_read x ≡ true) k h in cc)
    ]

-- a part that went in a packet of a read send is ahead of what is read
read_ahead : (own : Own) (s : Sent) (p : Packet) (x : Piece) (k : ℕ) (log : List Deed) → WasDueAt own (Sends s p) k log → packet_piece p ≡ Some x → is_read s.kind ≡ true
    → x.offset + length x.bytes ≤ read_from s.kind
read_ahead own s p x k log h c r =
    let ms = heard_by own.limits.first log in
    let d = push_done own ms s p x k log (was_due_pushed own (Sends s p) k log h) c in
    let e = read_done own ms log s (due_member own s p k log h) r in
    omega arith

-- given bytes lie in what is read
pub given_at : (job : Job) (history : List Entry) (to from : Life) (s : Sent) (x : Piece) (k : ℕ) → Played job history → GivenPiece job history to from s x k
    → (is_read s.kind ≡ true) × (read_from s.kind ≤ x.offset) × (x.offset + length x.bytes ≤ iov_bytes s.message.iov)
given_at job history to from s x k played g =
    let a = given_known job history to from g.data' k played g.went in
    let at : g.data'.at ≡ g.went.of.ask.at = ap (λ (y : ReadData). y.at) g.went.of.is in
    let bytes : length g.data'.bytes ≡ length (take g.went.of.ask.length (drop g.went.of.ask.at g.went.of.sent.message.bytes)) = ap (λ (y : ReadData). length y.bytes) g.went.of.is in
    let t = length-take g.went.of.ask.length (drop g.went.of.ask.at g.went.of.sent.message.bytes) in
    let o : x.offset ≡ g.data'.at = ap (λ (y : Piece). y.offset) g.piece_is in
    let l : length x.bytes ≡ length g.data'.bytes = ap (λ (y : Piece). length y.bytes) g.piece_is in
    let read : is_read s.kind ≡ true = subst (λ (y : Sent). is_read y.kind ≡ true) g.sent_is a.ask_of.read in
    let low : read_from s.kind ≤ g.went.of.ask.at = subst (λ (y : Sent). read_from y.kind ≤ g.went.of.ask.at) g.sent_is a.ask_of.from in
    let high : g.went.of.ask.at + g.went.of.ask.length ≤ iov_bytes s.message.iov = subst (λ (y : Sent). g.went.of.ask.at + g.went.of.ask.length ≤ iov_bytes y.message.iov) g.sent_is a.ask_of.to in
    (read, omega arith, omega arith)

-- a place in a range
abbrev pub Has : Piece → ℕ → Type 0
Has x place = (x.offset ≤ place) × (place < x.offset + length x.bytes)

-- packets of a send and given bytes share no place
sent_given : (job : Job) (history : List Entry) (to from : Life) (s t : Sent) (x y : Piece) (k l place : ℕ) → Played job history → s ≡ t
    → SentPiece job history from s x k → GivenPiece job history to from t y l → Has x place → Has y place → ⊥
sent_given job history to from s t x y k l place played e a b i j =
    let g = given_at job history to from t y l played b in
    let read : is_read s.kind ≡ true = subst (λ (z : Sent). is_read z.kind ≡ true) (sym e) g.0 in
    let ahead = read_ahead (own_of job from) s a.0 x k (life_deeds job history from) a.1 a.2 read in
    let f : read_from s.kind ≡ read_from t.kind = ap (λ (z : Sent). read_from z.kind) e in
    let low = g.1 in
    let u = i.1 in
    let v = j.0 in
    let w = j.1 in
    omega arith

-- two parts of a message that went to its life and have a place in common are one due item
pub piece_once : (job : Job) (history : List Entry) (to from : Life) (n : ℕ) (x y : Piece) (k l place : ℕ) → Played job history
    → PieceOf job history to from n x k → PieceOf job history to from n y l → Has x place → Has y place → k ≡ l
piece_once job history to from n x y k l place played a b i j =
    let own = own_of job from in
    let log = life_deeds job history from in
    let same : a.known.sent ≡ b.known.sent = known_one job history to from n a.known b.known in
    let i0 = i.0 in
    let i1 = i.1 in
    let j0 = j.0 in
    let j1 = j.1 in
    elim a.how [
      | inl u ↦ elim b.how [
        | inl v ↦ due_once own a.known.sent b.known.sent u.0 v.0 x y k l log (ap (λ (s : Sent). s.number) same) u.1 v.1 u.2 v.2
            (overlaps_from x.offset (length x.bytes) y.offset (length y.bytes) (omega arith) (omega arith) (omega arith) (omega arith))
        | inr v ↦ absurd (sent_given job history to from a.known.sent b.known.sent x y k l place played same u v i j)
      ]
      | inr u ↦ elim b.how [
        | inl v ↦ absurd (sent_given job history to from b.known.sent a.known.sent y x l k place played (sym same) v u j i)
        | inr v ↦ (
            let clash : Clash u.went.reply v.went.reply = inr (inr (inr (inl (record {
              to_is = u.went.to_is ∙ sym v.went.to_is;
              gives_is = u.went.of.gives_is ∙ ap (λ (s : Sent). Some s.number) (u.sent_is ∙ same ∙ sym v.sent_is) ∙ sym v.went.of.gives_is;
              data' = u.data';
              is = u.went.item_is;
              data'' = v.data';
              is' = v.went.item_is;
              share = (
                place,
                subst (λ (p : Piece). p.offset ≤ place) u.piece_is i.0,
                subst (λ (p : Piece). place < p.offset + length p.bytes) u.piece_is i.1,
                subst (λ (p : Piece). p.offset ≤ place) v.piece_is j.0,
                subst (λ (p : Piece). place < p.offset + length p.bytes) v.piece_is j.1,
              );
            })))) in
            reply_once own u.went.reply v.went.reply k l log (own_life job history played from) u.went.was_due v.went.was_due clash)
      ]
    ]

-- a part of a message that went to its life ends within it
pub piece_within : (job : Job) (history : List Entry) (to from : Life) (n : ℕ) (x : Piece) (k : ℕ) → Played job history → (a : PieceOf job history to from n x k)
    → x.offset + length x.bytes ≤ length a.known.sent.message.bytes
piece_within job history to from n x k played a =
    let own = own_of job from in
    let log = life_deeds job history from in
    let s = a.known.sent in
    elim a.how [
      | inl u ↦ (
          let d = push_done own (account job history from) s u.0 x k log (was_due_pushed own (Sends s u.0) k log u.1) u.2 in
          let r = row_within s.message.bytes 0 (pieces_in (pushed_of own (account job history from) log s.number)) (underway own (account job history from) log s a.known.member).row (omega arith) in
          omega arith)
      | inr u ↦ (
          let g = (given_at job history to from s x k played u).2 in
          let e = sent_sized own (account job history from) log (ranges_fit own log (own_life job history played from)) s a.known.member in
          omega arith)
    ]

-- a byte of a piece lies in its range
pub in_range : (q : Piece) (place b : ℕ) → byte_in q place ≡ Some b → Has q place
unfolding byte_in
in_range q place b h =
    (elim (nat_lt place q.offset) as (λ t. nat_lt place q.offset ≡ t → cond t None (slice_get q.bytes (place - q.offset)) ≡ Some b → Has q place) [
      | true ↦ λ is k. cc
      | false ↦ λ is k. (
          let low = ltb-false place q.offset is in
          let w = slice_get_within q.bytes (place - q.offset) b k in
          (low, omega arith))
    ]) refl h

-- what cannot be there is not
not_some : (o : Option ℕ) → ((b : ℕ) → o ≡ Some b → ⊥) → not (is_some o) ≡ true
not_some None h = refl
not_some (Some b) h = absurd (h b refl)

-- a range that ends within the message and shares no place with the pieces is missing
pub missing_from : (ps : List Piece) (size offset len : ℕ) → offset + len ≤ size
    → ((q : Piece) (place : ℕ) → Member q ps → Has q place → offset ≤ place → place < offset + len → ⊥) → is_missing ps size offset len ≡ true
unfolding is_missing
missing_from ps size offset len h free =
    and_from (nat_le (offset + len) size) (each_below (λ k. not (is_some (byte_at ps (offset + k)))) len) (le-leb (offset + len) size h)
    (each_below_from (λ k. not (is_some (byte_at ps (offset + k)))) len (λ k lt. not_some (byte_at ps (offset + k)) (λ b e.
    let r = byte_of_piece ps (offset + k) b e in
    free r.0 (offset + k) r.1 (in_range r.0 (offset + k) b r.2) (omega arith) (omega arith))))

-- what carried a piece, as a due item that was taken
pub record CameBefore (job : Job) (history : List Entry) (to from : Life) (n : ℕ) (x : Piece) : Type 0 where
  pub item : Item
  pub taken : Taken job history to from item
  pub piece : PieceOf job history to from n x taken.taken.place

-- each piece that came was a due item
pub came_before : (job : Job) (history : List Entry) (to from : Life) (n : ℕ) (x : Piece) → Played job history
    → Member x (carried_pieces (own_of job to).limits.first (account job history to).head (life_deeds job history to) from n) → CameBefore job history to from n x
came_before job history to from n x played m =
    let c = carried_from (own_of job to).limits.first (account job history to).head (life_deeds job history to) from n x m in
    let t = taken_pushed job history to from c.item played c.took in
    record { item = c.item; taken = t; piece = item_piece job history to from n x c.item t.datagram played t.taken (brought_piece (pairs_of job history to) from n c.item x c.brought) }

-- the bytes of what arrives are missing
pub arrives_missing : (job : Job) (history : List Entry) (to from : Life) (n : ℕ) (x : Piece) (item : Item) (d : Datagram) (a : Arrives job history to from item d)
    → PieceOf job history to from n x a.taken.place → (size : ℕ) → x.offset + length x.bytes ≤ size
    → is_missing (carried_pieces (own_of job to).limits.first (account job history to).head (life_deeds job history to) from n) size x.offset (length x.bytes) ≡ true
arrives_missing job history to from n x item d a p size h =
    missing_from (carried_pieces (own_of job to).limits.first (account job history to).head (life_deeds job history to) from n) size x.offset (length x.bytes) h (λ q place m has low high.
    let c = came_before job history to from n q a.played m in
    taken_before job history to from item c.item d a c.taken
    (piece_once job history to from n q x c.taken.taken.place a.taken.place place a.played c.piece p has (low, high)))
