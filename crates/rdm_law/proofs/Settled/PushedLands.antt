-- At a settled end the bytes that a standing life pushed of a heard message have come.
use Rattle.std.proofs.Common.{◌≡◌, ℕ, ◌<◌, ◌≤◌, true, false, List, Option, Some, None, refl, arith, ◌⊎◌, inl, inr, sym, ◌∙◌, ap, subst}
use Rattle.std.specs.Prelude.{is_some}
use Rattle.std.specs.List.{cons_option}
use Rattle.rdm_lists.specs.Lists.{Member}
use Rattle.rdm_num.specs.Lives.{op_id}
use Rattle.rdm_num.specs.Pieces.{Piece, byte_at, covers}
use Rattle.rdm_num.specs.declared.numbers.Life.{Life}
use Rattle.rdm_num.specs.declared.numbers.OpId.{OpId}
use Rattle.rdm_num.specs.declared.numbers.Connid.{Connid}
use Rattle.rdm_pkt.specs.Openings.{says_confirm}
use Rattle.rdm_pkt.specs.declared.Packet.{Packet}
use Rattle.rdm_pkt.specs.declared.Packet.TheVariants.{Rtm, CtsData}
use Rattle.rdm_pkt.specs.declared.Form.{Form}
use Rattle.rdm_pkt.specs.Heads.{piece_of}
use Rattle.rdm_match.specs.Matcher.{Pair}
use Rattle.rdm_model.specs.declared.job.Job.{Job}
use Rattle.rdm_model.specs.declared.entry.Entry.{Entry}
use Rattle.rdm_model.specs.Deeds.{Deed, Took, Item, Spelled}
use Rattle.rdm_model.specs.Beginnings.{own_of}
use Rattle.rdm_model.specs.Heard.{is_heard}
use Rattle.rdm_model.specs.Parts.{carried_pieces}
use Rattle.rdm_model.specs.Grants.{Grant}
use Rattle.rdm_model.specs.Sends.{Sent}
use Rattle.rdm_model.specs.Dues.{Sends, packet_piece, pieces_in}
use Rattle.rdm_model.specs.Lawful.{life_deeds}
use Rattle.rdm_model.proofs.Rows.{row_has}
use Rattle.rdm_model.proofs.Opens.{opening_is}
use Rattle.rdm_model.proofs.Pushes.{pushed_of, underway}
use Rattle.rdm_model.proofs.Served.{done_bytes}
use Rattle.rdm_law.proofs.Windows.Pushing.{piece_packet}
use Rattle.rdm_law.proofs.Lives.Lives.{WasDueAt}
use Rattle.rdm_law.proofs.Accounts.Wired.{Played, own_life}
use Rattle.rdm_law.proofs.Accounts.Known.{account, sends_of}
use Rattle.rdm_law.proofs.Accounts.Chains.{pair_one, grants_known}
use Rattle.rdm_law.proofs.Accounts.Whole.{byte_of_piece}
use Rattle.rdm_law.proofs.Classes.Landed.{piece_at}
use Rattle.rdm_law.proofs.Classes.Fresh.{in_range}
use Rattle.rdm_law.proofs.Accounts.WasDue.{due_is}
use Rattle.rdm_law.proofs.Settled.Meets.{Meet, IsUnheard, delivered}
use Rattle.rdm_law.proofs.Settled.AllEnters.{send_was_due, sends_going}
use Rattle.rdm_law.proofs.Settled.CarriedBack.{came_for, came_opening}
use Rattle.rdm_lists.proofs.Options.{some_of}
use Rattle.rdm_lists.proofs.Below.{each_below_from}

-- the element is the first, if it is there, or one of the others
option_member : (o : Option Piece) (xs : List Piece) (x : Piece) → Member x (cons_option o xs) → (o ≡ Some x) ⊎ Member x xs
option_member None xs x h = inr h
option_member (Some y) xs x (inl e) = inl (ap Some e)
option_member (Some y) xs x (inr h) = inr h

-- the piece of an opening
rtm_piece : (p : Packet) (s : Sent) (form : Form) (x : Piece) → p ≡ Rtm s.message.no s.message.tag (says_confirm s.kind s.message.confirm) s.message.opt form → packet_piece p ≡ Some x → piece_of form ≡ Some x
unfolding packet_piece
rtm_piece p s form x e h = ap packet_piece (sym e) ∙ h

-- the piece of granted bytes
data_piece : (p : Packet) (recv : OpId) (offset : ℕ) (connid : Connid) (bytes : List ℕ) (x : Piece) → p ≡ CtsData recv offset connid bytes → packet_piece p ≡ Some x
    → x ≡ record { offset = offset; bytes = bytes }
unfolding packet_piece
data_piece p recv offset connid bytes x e h = let k = ap packet_piece (sym e) ∙ h in cc

-- a packet of a send that was taken brought its piece
packet_came : (job : Job) (history : List Entry) (i j : Life) (s : Sent) (p : Packet) (x : Piece) (k : ℕ) → Played job history → Member s (sends_of job history j) → s.to ≡ i
    → WasDueAt (own_of job j) (Sends s p) k (life_deeds job history j) → Member (Took j (Spelled p)) (life_deeds job history i) → packet_piece p ≡ Some x
    → Member x (carried_pieces (own_of job i).limits.first (account job history i).head (life_deeds job history i) j s.message.no.0)
packet_came job history i j s p x k played m to was_due took h =
    let first = (own_of job i).limits.first in
    let heads = (account job history i).head in
    let log = life_deeds job history i in
    elim (due_is (own_of job j) s p k (life_deeds job history j) was_due) [
      | inl a ↦ (
          let o = opening_is (own_of job j).limits s.message s.kind p a in
          came_opening first heads log j s.message.no s.message.tag (says_confirm s.kind s.message.confirm) s.message.opt o.form x (subst (λ (q : Packet). Member (Took j (Spelled q)) log) o.is took) (rtm_piece p s o.form x o.is h))
      | inr a ↦ (
          let e = data_piece p (op_id a.grant.recv) a.offset (own_of job j).life.connid a.bytes x a.is h in
          let item : Item = Spelled (CtsData (op_id a.grant.recv) a.offset (own_of job j).life.connid a.bytes) in
          let took' : Member (Took j item) log = subst (λ (q : Packet). Member (Took j (Spelled q)) log) a.is took in
          let c = came_for (own_of job i) heads log j item a.grant.recv x (own_life job history played i) (λ source n hd is. refl) took' (refl, e) in
          let g = grants_known job history i j s a.grant played m to (subst (λ (gs : List Grant). Member a.grant gs) (sym a.grants_are) (inl refl)) in
          let same = pair_one job history i c.pair g.pair c.member g.member (c.recv_is ∙ sym g.recv_is) in
          let n : c.pair.message.no.0 ≡ s.message.no.0 = ap (λ (q : Pair). q.message.no.0) same ∙ sym g.known.number_is ∙ ap (λ (t : Sent). t.message.no.0) g.sent_is in
          subst (λ (y : ℕ). Member x (carried_pieces first heads log j y)) n c.carried)
    ]

-- an opening of a heard message is not of an unheard one
unheard_none : (log : List Deed) (j : Life) (s : Sent) (p : Packet) (form : Form) → p ≡ Rtm s.message.no s.message.tag (says_confirm s.kind s.message.confirm) s.message.opt form → is_heard log j s.message.no.0 ≡ true → IsUnheard log j (Spelled p) → ⊥
unheard_none log j s p form e h u =
    let P : Packet → Type 0 = λ q. IsUnheard log j (Spelled q) in
    let v : is_heard log j s.message.no.0 ≡ false = subst P e u in
    absurd (cc)

-- nor are granted bytes
unheard_data : (log : List Deed) (j : Life) (p : Packet) (recv : OpId) (offset : ℕ) (connid : Connid) (bytes : List ℕ) → p ≡ CtsData recv offset connid bytes → IsUnheard log j (Spelled p) → ⊥
unheard_data log j p recv offset connid bytes e u = let P : Packet → Type 0 = λ q. IsUnheard log j (Spelled q) in subst P e u

-- a packet that was pushed of a heard message was taken
pub packet_taken : (job : Job) (history : List Entry) (i j : Life) (s : Sent) (p : Packet) → Meet job history i j → Member s (sends_of job history j) → s.to ≡ i
    → is_heard (life_deeds job history i) j s.message.no.0 ≡ true → Member p (pushed_of (own_of job j) (account job history j) (life_deeds job history j) s.number)
    → (k : ℕ) × WasDueAt (own_of job j) (Sends s p) k (life_deeds job history j) × Member (Took j (Spelled p)) (life_deeds job history i)
packet_taken job history i j s p m mem to heard h =
    let t = send_was_due job history j s p mem h in
    elim (delivered job history i j (Spelled p) (Sends s p) t.0 m t.1 (sends_going s p i to)) [
      | inl a ↦ (t.0, t.1, a)
      | inr a ↦ elim (due_is (own_of job j) s p t.0 (life_deeds job history j) t.1) [
        | inl b ↦ (let o = opening_is (own_of job j).limits s.message s.kind p b in absurd (unheard_none (life_deeds job history i) j s p o.form o.is heard a.0))
        | inr b ↦ absurd (unheard_data (life_deeds job history i) j p (op_id b.grant.recv) b.offset (own_of job j).life.connid b.bytes b.is a.0)
      ]
    ]

-- each byte that was pushed of a heard message has come
pub pushed_landed : (job : Job) (history : List Entry) (i j : Life) (s : Sent) (place : ℕ) → Meet job history i j → Member s (sends_of job history j) → s.to ≡ i
    → is_heard (life_deeds job history i) j s.message.no.0 ≡ true → place < done_bytes (own_of job j) (account job history j) (life_deeds job history j) s.number
    → is_some (byte_at (carried_pieces (own_of job i).limits.first (account job history i).head (life_deeds job history i) j s.message.no.0) place) ≡ true
pushed_landed job history i j s place m mem to heard lt =
    let own = own_of job j in
    let ms = account job history j in
    let log = life_deeds job history j in
    let pushed = pushed_of own ms log s.number in
    let b = some_of (byte_at (pieces_in pushed) place) (row_has s.message.bytes 0 (pieces_in pushed) place (underway own ms log s mem).row (omega arith) (omega arith)) in
    let q = byte_of_piece (pieces_in pushed) place b.0 b.1 in
    let r = in_range q.0 place b.0 q.2 in
    let p = piece_packet pushed q.0 q.1 in
    let t = packet_taken job history i j s p.0 m mem to heard p.1 in
    let came = packet_came job history i j s p.0 q.0 t.0 m.played mem to t.1 t.2 p.2 in
    piece_at (carried_pieces (own_of job i).limits.first (account job history i).head (life_deeds job history i) j s.message.no.0) q.0 place came r.0 r.1

-- what was pushed of a heard message is covered
pub pushed_covers : (job : Job) (history : List Entry) (i j : Life) (s : Sent) (n : ℕ) → Meet job history i j → Member s (sends_of job history j) → s.to ≡ i
    → is_heard (life_deeds job history i) j s.message.no.0 ≡ true → n ≤ done_bytes (own_of job j) (account job history j) (life_deeds job history j) s.number
    → covers (carried_pieces (own_of job i).limits.first (account job history i).head (life_deeds job history i) j s.message.no.0) n ≡ true
unfolding covers
pushed_covers job history i j s n m mem to heard le =
    each_below_from (λ place. is_some (byte_at (carried_pieces (own_of job i).limits.first (account job history i).head (life_deeds job history i) j s.message.no.0) place)) n
    (λ k lt. pushed_landed job history i j s k m mem to heard (omega arith))
