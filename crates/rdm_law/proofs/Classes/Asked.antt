-- The bytes of a read message that come by reads were asked for.
use Rattle.std.proofs.Common.{◌≡◌, ℕ, ◌+◌, ◌-◌, ◌<◌, ◌≤◌, true, false, cond, List, [], ◌∷◌, length, take, drop, Option, Some, None, refl, arith, inl, inr, sym, ◌∙◌, ap, subst, length-take}
use Rattle.std.specs.Prelude.{nat_lt, slice_get, filter_map}
use Rattle.std.specs.List.{cons_option}
use Rattle.std.proofs.lemmas.Bool.{ltb-false}
use Rattle.std.proofs.lemmas.Option.{slice_get_within}
use Rattle.rdm_lists.specs.Lists.{Member}
use Rattle.rdm_num.specs.Pieces.{Piece, byte_in, piece_bytes}
use Rattle.rdm_num.specs.declared.numbers.Life.{Life}
use Rattle.rdm_num.specs.declared.limits.EpLimits.{EpLimits}
use Rattle.rdm_num.specs.declared.head.Head.{Head}
use Rattle.rdm_pkt.specs.declared.Packet.{Packet}
use Rattle.rdm_pkt.specs.declared.Kind.{Kind}
use Rattle.rdm_pkt.specs.declared.Kind.TheVariants.{Eager, Medium, LongCts, LongRead, Runt}
use Rattle.rdm_pkt.specs.Openings.{Message, openings, message_head}
use Rattle.rdm_match.specs.Matcher.{Pair}
use Rattle.rdm_wire.specs.declared.ReadAsk.{ReadAsk}
use Rattle.rdm_wire.specs.declared.ReadData.{ReadData}
use Rattle.rdm_model.specs.declared.job.Job.{Job}
use Rattle.rdm_model.specs.declared.entry.Entry.{Entry}
use Rattle.rdm_model.specs.Deeds.{Took, Asks}
use Rattle.rdm_model.specs.Beginnings.{own_of}
use Rattle.rdm_model.specs.Parts.{carried_pieces}
use Rattle.rdm_model.specs.Receives.{is_filled}
use Rattle.rdm_model.specs.Sends.{Sent}
use Rattle.rdm_model.specs.Dues.{is_read, packet_piece, pieces_in}
use Rattle.rdm_model.specs.Targets.{read_from}
use Rattle.rdm_model.specs.Lawful.{life_deeds}
use Rattle.rdm_model.proofs.Rows.{row_apart}
use Rattle.rdm_model.proofs.Opens.{openings_in_row, openings_bytes, opened_bytes}
use Rattle.rdm_model.proofs.Grows.{landed_byte}
use Rattle.rdm_law.proofs.Accounts.WasDue.{due_is}
use Rattle.rdm_law.proofs.Accounts.Wired.{Played}
use Rattle.rdm_law.proofs.Accounts.Known.{account, Known, known_one}
use Rattle.rdm_law.proofs.Accounts.Named.{head_length}
use Rattle.rdm_law.proofs.Accounts.Pieces.{SentPiece, GivenPiece}
use Rattle.rdm_law.proofs.Accounts.Whole.{byte_of_piece}
use Rattle.rdm_law.proofs.Accounts.Sent.{carried_part}

-- a piece of later packets is one of all
piece_later : (o : Option Piece) (xs : List Piece) (x : Piece) → Member x xs → Member x (cons_option o xs)
piece_later None xs x m = m
piece_later (Some y) xs x m = inr m

-- the piece of a packet is one of the pieces
pub piece_member : (p : Packet) (ps : List Packet) (x : Piece) → Member p ps → packet_piece p ≡ Some x → Member x (pieces_in ps)
unfolding pieces_in
piece_member p [] x m h = elim m [ ]
piece_member p (q ∷ ps) x (inl same) h = let e : packet_piece q ≡ Some x = ap packet_piece same ∙ h in rw e (inl refl)
piece_member p (q ∷ ps) x (inr m) h = piece_later (packet_piece q) (filter_map packet_piece ps) x (piece_member p ps x m h)

-- a piece of an opening lies within what the openings have together
pub opening_within : (limits : EpLimits) (m : Message) (kind : Kind) (p : Packet) (x : Piece) → Member p (openings limits m kind) → packet_piece p ≡ Some x
    → x.offset + length x.bytes ≤ opened_bytes limits m kind
opening_within limits m kind p x h e =
    let ps = pieces_in (openings limits m kind) in
    let end' : Piece = record { offset = 0 + piece_bytes ps; bytes = [] } in
    let a = row_apart m.bytes 0 ps x end' (openings_in_row limits m kind) (piece_member p (openings limits m kind) x h e) (omega arith) in
    let b = openings_bytes limits m kind in
    omega arith

-- what opens a read message ends before what is read
opened_read : (limits : EpLimits) (m : Message) (kind : Kind) → is_read kind ≡ true → opened_bytes limits m kind ≤ read_from kind
unfolding opened_bytes read_from is_read
opened_read limits m LongRead h = omega arith
opened_read limits m (Runt runt) h = let l = length-take runt m.bytes in omega arith
opened_read limits m Eager h = cc
opened_read limits m Medium h = cc
opened_read limits m LongCts h = cc

-- a message that is read is not granted
read_not_long : (kind : Kind) → is_read kind ≡ true → kind ≡ LongCts → ⊥
unfolding is_read
read_not_long kind h e = let f : is_read LongCts ≡ true = subst (λ (k : Kind). is_read k ≡ true) e h in cc

-- bytes of a read message that went in packets of its send end before what is read
pub sent_before_read : (job : Job) (history : List Entry) (from : Life) (s : Sent) (x : Piece) (k : ℕ) → is_read s.kind ≡ true → SentPiece job history from s x k
    → x.offset + length x.bytes ≤ read_from s.kind
sent_before_read job history from s x k read p =
    elim (due_is (own_of job from) s p.0 k (life_deeds job history from) p.1) [
      | inl a ↦
          let w = opening_within (own_of job from).limits s.message s.kind p.0 x a p.2 in
          let r = opened_read (own_of job from).limits s.message s.kind read in
          omega arith
      | inr a ↦ absurd (read_not_long s.kind read a.long)
    ]

-- a byte of a piece lies in its range
pub byte_range : (p : Piece) (place b : ℕ) → byte_in p place ≡ Some b → (p.offset ≤ place) × (place < p.offset + length p.bytes)
unfolding byte_in
byte_range p place b h =
    (elim (nat_lt place p.offset) as (λ t. nat_lt place p.offset ≡ t → cond t None (slice_get p.bytes (place - p.offset)) ≡ Some b → (p.offset ≤ place) × (place < p.offset + length p.bytes)) [
      | true ↦ λ is k. cc
      | false ↦ λ is k.
          let le = ltb-false place p.offset is in
          let w = slice_get_within p.bytes (place - p.offset) b k in
          (le, omega arith)
    ]) refl h

-- an ask of that send, for that place, that its life took
pub record AskedAt (job : Job) (history : List Entry) (i j : Life) (s : Sent) (place : ℕ) : Type 0 where
  pub ask : ReadAsk
  pub took : Member (Took i (Asks ask)) (life_deeds job history j)
  pub names : s.number ≡ ask.send_id.0
  pub from : ask.at ≤ place
  pub to : place < ask.at + ask.length

-- bytes that were given were asked for
given_asked : (job : Job) (history : List Entry) (i j : Life) (s : Sent) (x : Piece) (place k : ℕ) → GivenPiece job history i j s x k → x.offset ≤ place
    → place < x.offset + length x.bytes → AskedAt job history i j s place
given_asked job history i j s x place k g from to =
    let o = g.went.of in
    let took = subst (λ (l : Life). Member (Took l (Asks o.ask)) (life_deeds job history j)) g.went.to_is o.took in
    let at : x.offset ≡ o.ask.at = ap (λ (y : Piece). y.offset) g.piece_is ∙ ap (λ (y : ReadData). y.at) o.is in
    let len : length x.bytes ≡ length (take o.ask.length (drop o.ask.at o.sent.message.bytes)) = ap (λ (y : Piece). length y.bytes) g.piece_is ∙ ap (λ (y : ReadData). length y.bytes) o.is in
    let t = length-take o.ask.length (drop o.ask.at o.sent.message.bytes) in
    record {
      ask = o.ask;
      took = took;
      names = ap (λ (y : Sent). y.number) (sym g.sent_is) ∙ o.names;
      from = omega arith;
      to = omega arith;
    }

-- bytes of that message, with that place, that were given
pub record GivenAt (job : Job) (history : List Entry) (i j : Life) (s : Sent) (place : ℕ) : Type 0 where
  pub piece : Piece
  pub due' : ℕ
  pub given : GivenPiece job history i j s piece due'
  pub from : piece.offset ≤ place
  pub to : place < piece.offset + length piece.bytes

-- a byte that came of what is to be read of a message was given
pub carried_given : (job : Job) (history : List Entry) (i j : Life) (n : ℕ) (s : Sent) (x : Piece) (place : ℕ) → Played job history → (k : Known job history i j n) → k.sent ≡ s
    → is_read s.kind ≡ true → Member x (carried_pieces (own_of job i).limits.first (account job history i).head (life_deeds job history i) j n)
    → read_from s.kind ≤ place → x.offset ≤ place → place < x.offset + length x.bytes → GivenAt job history i j s place
carried_given job history i j n s x place played k is read m from low high =
    let c = carried_part job history i j n x played m in
    let same : c.1.known.sent ≡ s = known_one job history i j n c.1.known k ∙ is in
    elim c.1.how [
      | inl a ↦
          let p = subst (λ (y : Sent). SentPiece job history j y x c.0) same a in
          let e = sent_before_read job history j s x c.0 read p in
          absurd (omega arith)
      | inr a ↦ record { piece = x; due' = c.0; given = subst (λ (y : Sent). GivenPiece job history i j y x c.0) same a; from = low; to = high }
    ]

-- where a receive is filled by a message, each byte that is to be read of it was given
pub filled_given : (job : Job) (history : List Entry) (i j : Life) (p : Pair) (s : Sent) (place : ℕ) → Played job history → p.message.life ≡ j
    → (k : Known job history i j p.message.no.0) → k.sent ≡ s → (account job history i).head p.message.life p.message.no.0 ≡ message_head job.limits s.message s.kind
    → is_read s.kind ≡ true → is_filled (own_of job i).limits.first (account job history i).head (life_deeds job history i) p ≡ true
    → read_from s.kind ≤ place → place < length s.message.bytes → GivenAt job history i j s place
filled_given job history i j p s place played l k is head read filled from to =
    let first = (own_of job i).limits.first in
    let heads = (account job history i).head in
    let log = life_deeds job history i in
    let size : (heads p.message.life p.message.no.0).length ≡ length s.message.bytes = ap (λ (h : Head). h.length) head ∙ head_length job.limits s.message s.kind in
    let b = landed_byte first heads log p place filled (omega arith) in
    let q = byte_of_piece (carried_pieces first heads log p.message.life p.message.no.0) place b.0 b.1 in
    let r = byte_range q.0 place b.0 q.2 in
    let m = subst (λ (y : Life). Member q.0 (carried_pieces first heads log y p.message.no.0)) l q.1 in
    carried_given job history i j p.message.no.0 s q.0 place played k is read m from r.0 r.1

-- and was asked for
pub filled_asked : (job : Job) (history : List Entry) (i j : Life) (p : Pair) (s : Sent) (place : ℕ) → Played job history → p.message.life ≡ j
    → (k : Known job history i j p.message.no.0) → k.sent ≡ s → (account job history i).head p.message.life p.message.no.0 ≡ message_head job.limits s.message s.kind
    → is_read s.kind ≡ true → is_filled (own_of job i).limits.first (account job history i).head (life_deeds job history i) p ≡ true
    → read_from s.kind ≤ place → place < length s.message.bytes → AskedAt job history i j s place
filled_asked job history i j p s place played l k is head read filled from to =
    let g = filled_given job history i j p s place played l k is head read filled from to in
    given_asked job history i j s g.piece place g.due' g.given g.from g.to
