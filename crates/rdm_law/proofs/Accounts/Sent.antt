-- What a life knows of the messages to it agrees with what was sent to it.
use Rattle.std.proofs.Common.{◌≡◌, ℕ, ◌-◌, ◌≤◌, true, List, length, Option, Some, refl, inl, inr, sym, ◌∙◌, ap, subst}
use Rattle.std.specs.Prelude.{nat_eq, unwrap_or, slice_get}
use Rattle.std.proofs.lemmas.Bool.{eq-eqb}
use Rattle.rdm_lists.specs.Lists.{Member}
use Rattle.rdm_num.specs.Pieces.{Piece, byte_at}
use Rattle.rdm_num.specs.declared.numbers.Life.{Life}
use Rattle.rdm_num.specs.declared.head.Head.{Head}
use Rattle.rdm_pkt.specs.Openings.{message_head}
use Rattle.rdm_match.specs.Matcher.{Pair}
use Rattle.rdm_model.specs.declared.job.Job.{Job}
use Rattle.rdm_model.specs.declared.entry.Entry.{Entry}
use Rattle.rdm_model.specs.Deeds.{Deed, Item}
use Rattle.rdm_model.specs.Beginnings.{Heads, own_of}
use Rattle.rdm_model.specs.Parts.{piece_by, carried_pieces}
use Rattle.rdm_model.specs.Receives.{is_filled}
use Rattle.rdm_model.specs.Sends.{Sent, sends_to}
use Rattle.rdm_model.specs.Local.{heard_by, heads_by, bytes_by}
use Rattle.rdm_model.specs.Lawful.{life_deeds, sends_in, sent_to}
use Rattle.rdm_model.proofs.SameRegions.{Agree}
use Rattle.rdm_model.proofs.SameMatches.{HeadsAgree}
use Rattle.rdm_model.proofs.Grows.{landed_byte, filled_heard, heads_by_heard}
use Rattle.rdm_model.proofs.Numbers.{placed}
use Rattle.rdm_model.proofs.SentTo.{sent_placed}
use Rattle.rdm_model.proofs.Cuts.{Part}
use Rattle.rdm_law.proofs.Accounts.Carried.{Brought, carried_from}
use Rattle.rdm_law.proofs.Accounts.Wired.{Played, taken_pushed}
use Rattle.rdm_law.proofs.Accounts.Known.{account, sends_of, Known, known_one, known_head}
use Rattle.rdm_law.proofs.Accounts.Named.{pairs_of, head_length}
use Rattle.rdm_law.proofs.Accounts.Pieces.{PieceOf, item_piece}
use Rattle.rdm_law.proofs.Accounts.Whole.{put_together, parts_byte}

-- what each life sent, by what it took itself, is what it sent
abbrev pub SendsAre : Job → List Entry → Type 0
SendsAre job history = (life' : Life) → sends_of job history life' ≡ sends_in job history life'

-- a piece that an item brought
pub brought_piece : (ps : List Pair) (source : Life) (n : ℕ) (item : Item) (x : Piece) → Brought ps source n item x → piece_by ps source n item ≡ Some x
unfolding piece_by
brought_piece ps source n item x (inl b) =
    let e : nat_eq b.number.0 n ≡ true = eq-eqb b.number.0 n b.number_is in
    subst (λ (i : Item). piece_by ps source n i ≡ Some x) (sym b.is) (rw e b.piece_is)
brought_piece ps source n item x (inr (inl b)) =
    let e = b.paired in subst (λ (i : Item). piece_by ps source n i ≡ Some x) (sym b.is) (rw e refl)
brought_piece ps source n item x (inr (inr b)) =
    let e = b.paired in
    let at = b.at_is in
    let bytes = b.bytes_are in
    subst (λ (i : Item). piece_by ps source n i ≡ Some x) (sym b.is) (rw (e, at, bytes) refl)

-- bytes of a message that a life took are a part of what was sent
pub carried_part : (job : Job) (history : List Entry) (life' from : Life) (n : ℕ) (x : Piece) → Played job history
    → Member x (carried_pieces (own_of job life').limits.first (account job history life').head (life_deeds job history life') from n)
    → (k : ℕ) × PieceOf job history life' from n x k
carried_part job history life' from n x played m =
    let c = carried_from (own_of job life').limits.first (account job history life').head (life_deeds job history life') from n x m in
    let t = taken_pushed job history life' from c.item played c.took in
    (t.taken.place, item_piece job history life' from n x c.item t.datagram played t.taken (brought_piece (pairs_of job history life') from n c.item x c.brought))

-- the send of a message, by what was sent
pub known_placed : (job : Job) (history : List Entry) (life' from : Life) (n : ℕ) → SendsAre job history → (k : Known job history life' from n)
    → ((sent_to job history life').head from n ≡ message_head job.limits k.sent.message k.sent.kind) × ((sent_to job history life').bytes from n ≡ k.sent.message.bytes)
unfolding own_of
known_placed job history life' from n are k =
    let own = own_of job from in
    let p = placed own (account job history from) (life_deeds job history from) k.sent k.member in
    let e = k.number_is in
    let at : slice_get (sends_to (sends_of job history from) life') (k.sent.message.no.0 - job.limits.first) ≡ Some k.sent =
    subst (λ (x : Life). slice_get (sends_to (sends_of job history from) x) (k.sent.message.no.0 - job.limits.first) ≡ Some k.sent) k.to_is p.1 in
    let at' = subst (λ (m : ℕ). slice_get (sends_to (sends_of job history from) life') (m - job.limits.first) ≡ Some k.sent) e at in
    let le = subst (λ (m : ℕ). job.limits.first ≤ m) e p.0 in
    sent_placed job history from life' n k.sent le (subst (λ (ss : List Sent). slice_get (sends_to ss life') (n - job.limits.first) ≡ Some k.sent) (are from) at')

-- heads that were heard are those of what was sent
heads_agree_at : (job : Job) (history : List Entry) (life' : Life) → Played job history → SendsAre job history
    → HeadsAgree (heads_by (life_deeds job history life')) (sent_to job history life').head (life_deeds job history life')
heads_agree_at job history life' played are source n h is =
    let k = known_head job history life' source n h played is in
    heads_by_heard (life_deeds job history life') source n h is ∙ k.head_is ∙ sym (known_placed job history life' source n are k.known).0

-- a message put together from parts that came whole is the message
bytes_are : (first : ℕ) (log : List Deed) (p : Pair) (whole : List ℕ) → is_filled first (heads_by log) log p ≡ true
    → (heads_by log p.message.life p.message.no.0).length ≡ length whole
    → ((q : Piece) → Member q (carried_pieces first (heads_by log) log p.message.life p.message.no.0) → Part q whole)
    → bytes_by first log p.message.life p.message.no.0 ≡ whole
unfolding bytes_by
bytes_are first log p whole is size parts =
    let source = p.message.life in
    let n = p.message.no.0 in
    let ps = carried_pieces first (heads_by log) log source n in
    put_together (λ place. unwrap_or (byte_at ps place) 0) (heads_by log source n).length whole (sym size)
    (λ k lt.
    let b = landed_byte first (heads_by log) log p k is lt in
    parts_byte ps whole k b.0 parts b.1 ∙ ap Some (ap (λ (o : Option ℕ). unwrap_or o 0) (sym b.1)))

-- the heads of an account by what was taken
account_heads : (job : Job) (history : List Entry) (life' : Life) → (account job history life').head ≡ heads_by (life_deeds job history life')
unfolding heard_by
account_heads job history life' = refl

-- bytes of a message that fills a receive are those that were sent
bytes_agree_at : (job : Job) (history : List Entry) (life' : Life) (p : Pair) → Played job history → SendsAre job history
    → is_filled (own_of job life').limits.first (heads_by (life_deeds job history life')) (life_deeds job history life') p ≡ true
    → bytes_by (own_of job life').limits.first (life_deeds job history life') p.message.life p.message.no.0 ≡ (sent_to job history life').bytes p.message.life p.message.no.0
bytes_agree_at job history life' p played are is =
    let first = (own_of job life').limits.first in
    let log = life_deeds job history life' in
    let source = p.message.life in
    let n = p.message.no.0 in
    let h = filled_heard first (heads_by log) log p is in
    let k = known_head job history life' source n h.0 played h.1 in
    let whole = k.known.sent.message.bytes in
    let size : (heads_by log source n).length ≡ length whole =
    ap (λ (x : Head). x.length) (heads_by_heard log source n h.0 h.1 ∙ k.head_is) ∙ head_length job.limits k.known.sent.message k.known.sent.kind in
    bytes_are first log p whole is size
    (λ q m.
    let m' = subst (λ (hs : Heads). Member q (carried_pieces first hs log source n)) (sym (account_heads job history life')) m in
    let c = carried_part job history life' source n q played m' in
    subst (λ (s : Sent). Part q s.message.bytes) (known_one job history life' source n c.1.known k.known) c.1.part)
    ∙ sym (known_placed job history life' source n are k.known).1

-- what a life knows of the messages to it agrees with what was sent
pub agree_sent : (job : Job) (history : List Entry) (life' : Life) → Played job history → SendsAre job history
    → Agree (own_of job life').limits.first (account job history life') (sent_to job history life') (life_deeds job history life')
unfolding heard_by
agree_sent job history life' played are =
    record { heads = heads_agree_at job history life' played are; bytes = λ p is. bytes_agree_at job history life' p played are is }
