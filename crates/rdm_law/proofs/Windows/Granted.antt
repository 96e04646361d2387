-- A long message between two lives: what its sender may push, and that its receiver opens a window only where all before it was pushed.
use Rattle.std.proofs.Common.{◌≡◌, ℕ, ◌+◌, ◌<◌, ◌≤◌, true, List, [], ◌∷◌, length, Some, None, refl, arith, ◌⊎◌, inl, inr, sym, ◌∙◌, ap, subst}
use Rattle.std.specs.Prelude.{is_some, filter_map, option_to_list}
use Rattle.std.specs.List.{cons_option}
use Rattle.std.proofs.lemmas.Bool.{cases_lt}
use Rattle.rdm_lists.specs.Lists.{Member}
use Rattle.rdm_num.specs.Pieces.{Piece, byte_in, byte_at, covers, piece_bytes}
use Rattle.rdm_num.specs.declared.numbers.Life.{Life}
use Rattle.rdm_pkt.specs.declared.Packet.{Packet}
use Rattle.rdm_pkt.specs.declared.Kind.{Kind}
use Rattle.rdm_pkt.specs.declared.Kind.TheVariants.{Eager, Medium, LongCts, LongRead, Runt}
use Rattle.rdm_pkt.specs.Openings.{openings, message_head}
use Rattle.rdm_match.specs.Matcher.{Pair}
use Rattle.rdm_model.specs.declared.job.Job.{Job}
use Rattle.rdm_model.specs.declared.entry.Entry.{Entry}
use Rattle.rdm_model.specs.Deeds.{Deed}
use Rattle.rdm_model.specs.Beginnings.{Own, Messages, own_of}
use Rattle.rdm_model.specs.Matches.{pairs}
use Rattle.rdm_model.specs.Parts.{carried_by, carried_pieces}
use Rattle.rdm_model.specs.Grants.{granted_bytes, grants, grant_bytes}
use Rattle.rdm_model.specs.Sends.{Sent}
use Rattle.rdm_model.specs.Dues.{Sends, packet_piece, pieces_in, is_read}
use Rattle.rdm_model.specs.Lawful.{life_deeds}
use Rattle.rdm_model.specs.Local.{heard_by}
use Rattle.rdm_model.proofs.Cuts.{InRow}
use Rattle.rdm_model.proofs.Rows.{byte_in_after}
use Rattle.rdm_model.proofs.Opens.{openings_in_row}
use Rattle.rdm_model.proofs.Sending.{DataPush}
use Rattle.rdm_model.proofs.SameReceives.{covers_more}
use Rattle.rdm_model.proofs.Grows.{heads_by_heard}
use Rattle.rdm_law.proofs.Lives.Lives.{WasDueAt}
use Rattle.rdm_law.proofs.Accounts.WasDue.{due_is}
use Rattle.rdm_law.proofs.Accounts.Wired.{Played}
use Rattle.rdm_law.proofs.Accounts.Known.{Known, known_one, sends_of, account}
use Rattle.rdm_law.proofs.Accounts.Named.{pairs_of}
use Rattle.rdm_law.proofs.Accounts.Chains.{given_known}
use Rattle.rdm_law.proofs.Accounts.Sent.{carried_part}
use Rattle.rdm_law.proofs.Accounts.Whole.{byte_of_piece}
use Rattle.rdm_law.proofs.Windows.Windows.{Tells, is_window}
use Rattle.rdm_law.proofs.Windows.WindowsAt.{WindowAt}
use Rattle.rdm_lists.proofs.Options.{some_of}
use Rattle.rdm_lists.proofs.Below.{each_below_at}

-- how many bytes of a send its openings and the grants that were taken allow
abbrev pub allowed_of : Own → List Deed → Sent → ℕ
allowed_of own log s = piece_bytes (pieces_in (openings own.limits s.message s.kind)) + grant_bytes (grants log s.to s.number)

-- a pair of one life has the message of a long send of another
pub record Granting (job : Job) (history : List Entry) (i j : Life) (p : Pair) (s : Sent) : Type 0 where
  pub member : Member p (pairs_of job history i)
  pub life_is : p.message.life ≡ j
  pub sent : Member s (sends_of job history j)
  pub to_is : s.to ≡ i
  pub number_is : s.message.no.0 ≡ p.message.no.0
  pub long : s.kind ≡ LongCts
  pub head_is : (account job history i).head p.message.life p.message.no.0 ≡ message_head job.limits s.message s.kind

-- a piece of packets is of one of them
pieces_member : (ps : List Packet) (p : Packet) (x : Piece) → Member p ps → packet_piece p ≡ Some x → Member x (pieces_in ps)
unfolding pieces_in
pieces_member [] p x h e = elim h [ ]
pieces_member (q ∷ ps) p x (inl is) e =
    let f : packet_piece q ≡ Some x = ap packet_piece is ∙ e in
    subst (λ o. Member x (cons_option o (filter_map packet_piece ps))) (sym f) (inl refl)
pieces_member (q ∷ ps) p x (inr h) e =
    (elim (packet_piece q) as (λ o. Member x (cons_option o (filter_map packet_piece ps))) [
      | None ↦ pieces_member ps p x h e
      | Some y ↦ inr (pieces_member ps p x h e)
    ])

-- a piece of a row ends where the row does, or before
row_end : (bytes : List ℕ) (from : ℕ) (ps : List Piece) (q : Piece) → InRow bytes from ps → Member q ps → q.offset + length q.bytes ≤ from + piece_bytes ps
unfolding piece_bytes
row_end bytes from [] q r h = elim h [ ]
row_end bytes from (p ∷ ps) q r (inl is) = let a = r.0 in let e = ap (λ (x : Piece). x.offset) is in let f = ap (λ (x : Piece). length x.bytes) is in omega arith
row_end bytes from (p ∷ ps) q r (inr h) = let a = row_end bytes (from + length p.bytes) ps q r.2 h in omega arith

-- the bytes of an opening of a send, or of a packet that was granted, end within what is allowed
pub part_within_allowed : (own : Own) (log : List Deed) (s : Sent) (p : Packet) (x : Piece) → Member p (openings own.limits s.message s.kind) ⊎ DataPush own log s p
    → packet_piece p ≡ Some x → x.offset + length x.bytes ≤ allowed_of own log s
unfolding packet_piece
part_within_allowed own log s p x (inl a) h =
    let r = openings_in_row own.limits s.message s.kind in
    let l = row_end s.message.bytes 0 (pieces_in (openings own.limits s.message s.kind)) x r (pieces_member (openings own.limits s.message s.kind) p x a h) in
    omega arith
part_within_allowed own log s p x (inr d) h =
    let e : Some (record { offset = d.offset; bytes = d.bytes }) ≡ Some x = ap packet_piece (sym d.is) ∙ h in
    let f : ◌≡◌ {A = Piece} (record { offset = d.offset; bytes = d.bytes }) x = cc in
    let o = ap (λ (y : Piece). y.offset) f in
    let l = ap (λ (y : Piece). length y.bytes) f in
    let w = d.within in
    omega arith

-- what was pushed of a send ends within what is allowed
pushed_within : (own : Own) (log : List Deed) (s : Sent) (p : Packet) (x : Piece) (k : ℕ) → WasDueAt own (Sends s p) k log → packet_piece p ≡ Some x
    → x.offset + length x.bytes ≤ allowed_of own log s
pushed_within own log s p x k t h = part_within_allowed own log s p x (due_is own s p k log t) h

-- a long send is not read
long_not_read : (kind : Kind) → kind ≡ LongCts → is_read kind ≡ true → ⊥
unfolding is_read
long_not_read Eager e h = cc
long_not_read Medium e h = cc
long_not_read LongCts e h = cc
long_not_read LongRead e h = cc
long_not_read (Runt runt) e h = cc

-- bytes of a long message that came were allowed
pub carried_within : (job : Job) (history : List Entry) (i j : Life) (p : Pair) (s : Sent) (x : Piece) → Played job history → Granting job history i j p s
    → Member x (carried_pieces (own_of job i).limits.first (account job history i).head (life_deeds job history i) j p.message.no.0)
    → x.offset + length x.bytes ≤ allowed_of (own_of job j) (life_deeds job history j) s
carried_within job history i j p s x played g m =
    let c = carried_part job history i j p.message.no.0 x played m in
    let mine : Known job history i j p.message.no.0 = record { sent = s; member = g.sent; to_is = g.to_is; number_is = g.number_is } in
    let same : c.1.known.sent ≡ s = known_one job history i j p.message.no.0 c.1.known mine in
    elim c.1.how [
      | inl t ↦ pushed_within (own_of job j) (life_deeds job history j) s t.0 x c.0
          (subst (λ (y : Sent). WasDueAt (own_of job j) (Sends y t.0) c.0 (life_deeds job history j)) same t.1) t.2
      | inr v ↦ absurd (
          let a = given_known job history i j v.data' c.0 played v.went in
          let is : v.went.of.sent ≡ s = v.sent_is ∙ same in
          long_not_read s.kind g.long (subst (λ (y : Sent). is_read y.kind ≡ true) is a.ask_of.read))
    ]

-- a byte of a piece stands before its end
pub byte_ends : (q : Piece) (place b : ℕ) → byte_in q place ≡ Some b → place < q.offset + length q.bytes
byte_ends q place b h =
    elim (cases_lt place (q.offset + length q.bytes)) [ inl a ↦ a | inr a ↦ absurd (let n = byte_in_after q place a in cc) ]

-- where a life has all bytes of a long message to a place, they were allowed
pub covered_within : (job : Job) (history : List Entry) (i j : Life) (p : Pair) (s : Sent) (start : ℕ) → Played job history → Granting job history i j p s
    → covers (carried_pieces (own_of job i).limits.first (account job history i).head (life_deeds job history i) j p.message.no.0) start ≡ true
    → start ≤ allowed_of (own_of job j) (life_deeds job history j) s
unfolding covers
covered_within job history i j p s start played g h =
    let ps = carried_pieces (own_of job i).limits.first (account job history i).head (life_deeds job history i) j p.message.no.0 in
    let allowed = allowed_of (own_of job j) (life_deeds job history j) s in
    elim (cases_lt allowed start) [
      | inl less ↦ absurd (
          let b = some_of (byte_at ps allowed) (each_below_at (λ place. is_some (byte_at ps place)) start allowed h less) in
          let q = byte_of_piece ps allowed b.0 b.1 in
          let e = byte_ends q.0 allowed b.0 q.2 in
          let w = carried_within job history i j p s q.0 played g q.1 in
          omega arith)
      | inr more ↦ more
    ]

-- all bytes before a window had come when it was opened
pub window_covered : (own : Own) (ms : Messages) (log : List Deed) (p : Pair) (start size place : ℕ) → WindowAt own ms p start size place log
    → covers (carried_pieces own.limits.first ms.head log p.message.life p.message.no.0) start ≡ true
unfolding carried_pieces
window_covered own ms [] p start size place h = elim h [ ]
window_covered own ms (d ∷ before) p start size place (inl n) =
    let w = is_window own.limits ms.head (d ∷ before) p (granted_bytes own.limits ms.head before p) (subst (λ x. 0 < x) n.size_is n.has_byte) in
    subst (λ x. covers (carried_pieces own.limits.first ms.head (d ∷ before) p.message.life p.message.no.0) x ≡ true) (sym n.start_is) w.covered
window_covered own ms (d ∷ before) p start size place (inr h) =
    covers_more (carried_pieces own.limits.first ms.head before p.message.life p.message.no.0)
    (option_to_list (carried_by (pairs own.limits.first ms.head before) p.message.life p.message.no.0 d)) start
    (window_covered own ms before p start size place h)

-- a life's own account tells the heads that it heard
pub own_tells : (first : ℕ) (log : List Deed) → Tells (heard_by first log).head log
unfolding heard_by
own_tells first log source n h is = heads_by_heard log source n h is

-- a window starts within what is allowed
pub start_within : (job : Job) (history : List Entry) (i j : Life) (p : Pair) (s : Sent) (start size place : ℕ) → Played job history → Granting job history i j p s
    → WindowAt (own_of job i) (account job history i) p start size place (life_deeds job history i)
    → start ≤ allowed_of (own_of job j) (life_deeds job history j) s
start_within job history i j p s start size place played g w =
    let c = window_covered (own_of job i) (account job history i) (life_deeds job history i) p start size place w in
    let P : Life → Type 0 = λ l. covers (carried_pieces (own_of job i).limits.first (account job history i).head (life_deeds job history i) l p.message.no.0) start ≡ true in
    covered_within job history i j p s start played g (subst P g.life_is c)
