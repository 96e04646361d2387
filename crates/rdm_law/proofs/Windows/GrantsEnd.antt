-- Grants go on until the whole message is granted.
use Rattle.std.proofs.Common.{◌≡◌, ℕ, ◌+◌, ◌-◌, ◌*◌, ◌<◌, ◌≤◌, Bool, true, cond, List, [], ◌∷◌, ◌++◌, length, refl, arith, inl, inr, sym, ◌∙◌, ap, subst}
use Rattle.std.specs.Prelude.{min, flat_map, map, nat_lt, not, ◌&&◌}
use Rattle.std.proofs.Math.Nat.{le-mul_of_pos_right}
use Rattle.std.proofs.lemmas.Bool.{cases_lt, lt-ltb, and_parts}
use Rattle.std.proofs.lemmas.Option.{slice_get_within}
use Rattle.rdm_lists.specs.Lists.{Member}
use Rattle.rdm_num.specs.declared.numbers.Life.{Life}
use Rattle.rdm_num.specs.declared.numbers.OpId.{OpId}
use Rattle.rdm_num.specs.declared.head.Shape.{Shape}
use Rattle.rdm_num.specs.declared.head.Shape.TheVariants as S
use Rattle.rdm_pkt.specs.declared.Packet.TheVariants.{Cts}
use Rattle.rdm_match.specs.Matcher.{Pair, is_pair}
use Rattle.rdm_model.specs.Deeds.{Deed, Spelled, Asks}
use Rattle.rdm_model.specs.Beginnings.{Own, Messages, Heads}
use Rattle.rdm_model.specs.Matches.{pairs, matching}
use Rattle.rdm_model.specs.Receives.{is_filled}
use Rattle.rdm_model.specs.Grants.{first_part, window, granted_bytes}
use Rattle.rdm_model.specs.Sends.{Sent, sends}
use Rattle.rdm_model.specs.Replies.{Reply, reply, handshake_by, asks_for, grant_for, end_for, pair_items, pair_replies, given_by, replies_by}
use Rattle.rdm_law.proofs.Replies.Queue.{owed}
use Rattle.rdm_law.proofs.Replies.Owed.{shape_in, recv_in, ends_in}
use Rattle.rdm_law.proofs.Windows.Windows.{reach}
use Rattle.rdm_law.proofs.Windows.WindowsAt.{NewWindow, WindowAt, windows_in_order}
use Rattle.rdm_num.specs.Pieces.{covers, piece_bytes}
use Rattle.rdm_num.specs.declared.limits.EpLimits.{EpLimits}
use Rattle.rdm_num.specs.declared.head.Head.{Head}
use Rattle.rdm_pkt.specs.Openings.{openings}
use Rattle.rdm_model.specs.declared.job.Job.{Job}
use Rattle.rdm_model.specs.declared.entry.Entry.{Entry}
use Rattle.rdm_model.specs.Beginnings.{own_of}
use Rattle.rdm_model.specs.Parts.{carried_pieces}
use Rattle.rdm_model.specs.Grants.{data_room, window_of, with_window}
use Rattle.rdm_model.specs.Dues.{pieces_in}
use Rattle.rdm_model.specs.Lawful.{life_deeds}
use Rattle.rdm_model.specs.Local.{heard_by}
use Rattle.rdm_model.proofs.Matches.{member_is_pair}
use Rattle.rdm_model.specs.Jobs.{is_fair, law_ops, limits_fit}
use Rattle.rdm_law.proofs.Fits.OpeningsFit.{limits_are}
use Rattle.rdm_law.proofs.Classes.ClassData.{fair_room}
use Rattle.rdm_law.proofs.Accounts.Wired.{Played}
use Rattle.rdm_law.proofs.Accounts.Known.{account}
use Rattle.rdm_law.proofs.Accounts.Named.{head_shape, head_length}
use Rattle.rdm_law.proofs.Replies.Answered.{Answered, is_queue, rising_member, head_member, answered_owed}
use Rattle.rdm_law.proofs.Replies.Queue.{Placed, queue}
use Rattle.rdm_law.proofs.Windows.WindowsAt.{window_from}
use Rattle.rdm_law.proofs.Windows.Granted.{Granting, allowed_of, own_tells, covered_within}
use Rattle.rdm_law.proofs.Windows.FirstPart.{first_part_opened, long_shape}
use Rattle.rdm_law.proofs.Windows.Tiled.{tiled}
use Rattle.rdm_lists.proofs.Members.{member-append_left, member-append_right, map-member, flat_map-member}
use Rattle.rdm_lists.proofs.Places.{member_at}

-- a window with a byte of a long message is granted
grant_member : (own : Own) (shape : Shape) (recv send : OpId) (credits size : ℕ) → shape ≡ S.LongCts send credits → 0 < size
    → Member (Spelled (Cts send recv size own.life.connid)) (grant_for own shape recv size)
unfolding grant_for
grant_member own shape recv send credits size e h =
    let P : Shape → Type 0 = λ x. Member (Spelled (Cts send recv size own.life.connid)) (grant_for own x recv size) in
    let t : nat_lt 0 size ≡ true = lt-ltb 0 size h in
    let here : Member (Spelled (Cts send recv size own.life.connid)) (cond (nat_lt 0 size) (Spelled (Cts send recv size own.life.connid) ∷ []) []) =
    subst (λ b. Member (Spelled (Cts send recv size own.life.connid)) (cond b (Spelled (Cts send recv size own.life.connid) ∷ []) [])) (sym t) (inl refl) in
    subst P (sym e) here

-- so its pair owes the grant
items_grant : (own : Own) (heads : Heads) (d : Deed) (before : List Deed) (p : Pair) (send : OpId) (credits : ℕ) → shape_in heads p ≡ S.LongCts send credits
    → 0 < window own.limits heads (d ∷ before) p (granted_bytes own.limits heads before p)
    → Member (Spelled (Cts send (recv_in p) (window own.limits heads (d ∷ before) p (granted_bytes own.limits heads before p)) own.life.connid)) (pair_items own heads d before p)
unfolding pair_items
items_grant own heads d before p send credits shape h =
    let size = window own.limits heads (d ∷ before) p (granted_bytes own.limits heads before p) in
    let is_new : Bool = not (is_pair (pairs own.limits.first heads before) p.recv.id.0 p.message.life p.message.no.0) in
    let is_over : Bool = is_filled own.limits.first heads (d ∷ before) p && not (is_filled own.limits.first heads before p) in
    let asks = cond is_new (map Asks (asks_for (shape_in heads p) (recv_in p))) [] in
    let grants = grant_for own (shape_in heads p) (recv_in p) size in
    let ends = cond is_over (ends_in own heads p) [] in
    let x = Spelled (Cts send (recv_in p) size own.life.connid) in
    member-append_left x (asks ++ grants) ends (member-append_right x asks grants (grant_member own (shape_in heads p) (recv_in p) send credits size shape h))

-- where a window has a byte, its grant is owed
pub window_opens : (own : Own) (ms : Messages) (d : Deed) (before : List Deed) (p : Pair) (send : OpId) (credits : ℕ) → Member p (pairs own.limits.first ms.head (d ∷ before))
    → shape_in ms.head p ≡ S.LongCts send credits → 0 < window own.limits ms.head (d ∷ before) p (granted_bytes own.limits ms.head before p)
    → (place : ℕ) × (length (owed own ms before) ≤ place)
    × NewWindow own ms d before p (first_part (d ∷ before) p.message.life p.message.no.0 + granted_bytes own.limits ms.head before p)
    (window own.limits ms.head (d ∷ before) p (granted_bytes own.limits ms.head before p)) place
unfolding replies_by pair_replies
window_opens own ms d before p send credits m shape h =
    let size = window own.limits ms.head (d ∷ before) p (granted_bytes own.limits ms.head before p) in
    let item = Spelled (Cts send (recv_in p) size own.life.connid) in
    let r : Reply = reply p.message.life item in
    let of_pairs = flat_map (pair_replies own ms.head d before) (pairs own.limits.first ms.head (d ∷ before)) in
    let shakes = handshake_by own before d in
    let givens = given_by (sends own ms before) d in
    let here : Member r (pair_replies own ms.head d before p) = map-member (reply p.message.life) item (pair_items own ms.head d before p) (items_grant own ms.head d before p send credits shape h) in
    let there : Member r of_pairs = flat_map-member (pair_replies own ms.head d before) p (pairs own.limits.first ms.head (d ∷ before)) r m here in
    let at = member_at r ((shakes ++ of_pairs) ++ givens) (member-append_left r (shakes ++ of_pairs) givens (member-append_right r shakes of_pairs there)) in (
      length (owed own ms before) + at.0,
      omega arith,
      record {
        index = at.0;
        place_is = refl;
        reply' = r;
        stands = at.1;
        to_is = refl;
        send = send;
        credits = credits;
        shape_is = shape;
        is = refl;
        member = m;
        start_is = refl;
        size_is = refl;
        has_byte = h;
      },
    )

-- a reply that was pushed had been owed by an earlier deed
answered_place : (own : Own) (ms : Messages) (d : Deed) (before : List Deed) (x : Placed) (k : ℕ) → Answered own ms x k (d ∷ before) → x.place < length (owed own ms before)
answered_place own ms d before x k (inl h) =
    let q = is_queue own ms before in
    (rising_member q.low (queue own ms before) (length (owed own ms before)) x q.rising (head_member (queue own ms before) x h.2)).1
answered_place own ms d before x k (inr h) = slice_get_within (owed own ms before) x.place x.reply (answered_owed own ms before x k h)

-- the window of a long message of which all that was granted has come
window_zero : (limits : EpLimits) (heads : Heads) (log : List Deed) (p : Pair) (granted : ℕ) (send : OpId) (credits : ℕ)
    → is_pair (pairs limits.first heads log) p.recv.id.0 p.message.life p.message.no.0 ≡ true
    → covers (carried_pieces limits.first heads log p.message.life p.message.no.0) (first_part log p.message.life p.message.no.0 + granted) ≡ true
    → shape_in heads p ≡ S.LongCts send credits
    → window limits heads log p granted ≡ min ((heads p.message.life p.message.no.0).length - (first_part log p.message.life p.message.no.0 + granted)) (credits * data_room limits)
unfolding window window_of
window_zero limits heads log p granted send credits paired covered shape = rw (paired, covered, shape) refl

-- the least of a number and of a product is none only where the number is
min_zero : (a c r : ℕ) → min a (c * r) ≡ 0 → 1 ≤ c → 1 ≤ r → a ≡ 0
min_zero a c r h low room =
    let p : c ≤ c * r = le-mul_of_pos_right c (omega arith) in
    omega arith

-- what bounds the windows of a pair's message by what was taken: each byte that may be pushed is in a window that was taken
pub record GoesOn (own : Own) (p : Pair) (opened allowed : ℕ) (log : List Deed) : Type 0 where
  pub member : Member p (pairs own.limits.first (heard_by own.limits.first log).head log)
  pub tile : (y : ℕ) → opened ≤ y → y < allowed
      → (start size : ℕ) × (answer : Placed) × (push : ℕ) × WindowAt own (heard_by own.limits.first log) p start size answer.place log × (start ≤ y) × (y < start + size)
      × Answered own (heard_by own.limits.first log) answer push log
  pub within : (start : ℕ) → covers (carried_pieces own.limits.first (heard_by own.limits.first log).head log p.message.life p.message.no.0) start ≡ true → start ≤ allowed
  pub first : first_part log p.message.life p.message.no.0 ≡ opened

-- the bytes of the newest window have not come
newest_waits : (own : Own) (p : Pair) (opened allowed : ℕ) (d : Deed) (before : List Deed) (start size place : ℕ) → GoesOn own p opened allowed (d ∷ before)
    → NewWindow own (heard_by own.limits.first (d ∷ before)) d before p start size place → length (owed own (heard_by own.limits.first (d ∷ before)) before) ≤ place
    → start + size ≤ allowed → ⊥
newest_waits own p opened allowed d before start size place g n late reached =
    let ms = heard_by own.limits.first (d ∷ before) in
    let tells = own_tells own.limits.first (d ∷ before) in
    let past = window_from own ms (d ∷ before) p start size place tells (inl n) in
    let f = g.first in
    let b = n.has_byte in
    let v = g.tile start (omega arith) (omega arith) in
    let low = v.5 in
    let high = v.6 in
    elim (windows_in_order own ms (d ∷ before) p v.0 v.1 v.2.place start size place tells v.4 (inl n)) [
      | inl same ↦ (let a = answered_place own ms d before v.2 v.3 v.7 in let e = same.0 in omega arith)
      | inr apart ↦ elim apart [ inl x ↦ (let y = x.1 in omega arith) | inr x ↦ (let y = x.1 in omega arith) ]
    ]

-- so they go on until the whole message is granted
goes_on : (own : Own) (p : Pair) (opened allowed : ℕ) (log : List Deed) (send : OpId) (credits : ℕ) → shape_in (heard_by own.limits.first log).head p ≡ S.LongCts send credits
    → 1 ≤ credits → 1 ≤ data_room own.limits → GoesOn own p opened allowed log
    → covers (carried_pieces own.limits.first (heard_by own.limits.first log).head log p.message.life p.message.no.0) (reach own.limits (heard_by own.limits.first log).head log p) ≡ true
    → ((heard_by own.limits.first log).head p.message.life p.message.no.0).length ≤ reach own.limits (heard_by own.limits.first log).head log p
unfolding granted_bytes with_window matching
goes_on own p opened allowed [] send credits shape low room g covered = elim g.member [ ]
goes_on own p opened allowed (d ∷ before) send credits shape low room g covered =
    let ms = heard_by own.limits.first (d ∷ before) in
    let source = p.message.life in
    let n = p.message.no.0 in
    let granted = granted_bytes own.limits ms.head before p in
    let size = window own.limits ms.head (d ∷ before) p granted in
    let so_far = first_part (d ∷ before) source n + granted in
    let e : reach own.limits ms.head (d ∷ before) p ≡ so_far + size = omega arith in
    elim (cases_lt 0 size) [
      | inl some ↦ absurd (
          let w = window_opens own ms d before p send credits g.member shape some in
          let all = g.within (reach own.limits ms.head (d ∷ before) p) covered in
          newest_waits own p opened allowed d before so_far size w.0 g w.2 w.1 (omega arith))
      | inr none ↦
          let z : size ≡ 0 = omega arith in
          let r : reach own.limits ms.head (d ∷ before) p ≡ so_far = omega arith in
          let c : covers (carried_pieces own.limits.first ms.head (d ∷ before) source n) so_far ≡ true =
          subst (λ x. covers (carried_pieces own.limits.first ms.head (d ∷ before) source n) x ≡ true) r covered in
          let is = window_zero own.limits ms.head (d ∷ before) p granted send credits (member_is_pair (pairs own.limits.first ms.head (d ∷ before)) p g.member) c shape in
          let left = min_zero ((ms.head source n).length - so_far) credits (data_room own.limits) (sym is ∙ z) low room in
          omega arith
    ]

-- a fair job grants packets
fair_credits : (job : Job) → is_fair law_ops job ≡ true → 1 ≤ job.limits.credits
unfolding is_fair
fair_credits job h =
    (limits_are job.limits (and_parts (limits_fit job.limits) _ (and_parts _ _ (and_parts _ _ (and_parts _ _ (and_parts _ _ h).0).0).0).0).0).credits

-- and has room for granted bytes
fair_data_room : (job : Job) (i : Life) → is_fair law_ops job ≡ true → 1 ≤ data_room (own_of job i).limits
unfolding own_of data_room
fair_data_room job i h = fair_room job h

-- where all that was granted of a message has come, the whole message is granted
pub granted_all : (job : Job) (history : List Entry) (i j : Life) (p : Pair) (s : Sent) → Played job history → Granting job history i j p s
    → covers (carried_pieces (own_of job i).limits.first (account job history i).head (life_deeds job history i) j p.message.no.0)
    (reach (own_of job i).limits (account job history i).head (life_deeds job history i) p) ≡ true
    → length s.message.bytes ≤ reach (own_of job i).limits (account job history i).head (life_deeds job history i) p
granted_all job history i j p s played g covered =
    let own = own_of job i in
    let log = life_deeds job history i in
    let heads = (account job history i).head in
    let allowed = allowed_of (own_of job j) (life_deeds job history j) s in
    let l : length s.message.bytes ≡ (heads p.message.life p.message.no.0).length = sym (ap (λ (h : Head). h.length) g.head_is ∙ head_length job.limits s.message s.kind) in
    let shape : shape_in heads p ≡ S.LongCts s.message.send job.limits.credits =
    ap (λ (h : Head). h.shape) g.head_is ∙ head_shape job.limits s.message s.kind ∙ long_shape job.limits s.message s.kind g.long in
    let C : Life → ℕ → Type 0 = λ x n. covers (carried_pieces own.limits.first heads log x p.message.no.0) n ≡ true in
    let facts : GoesOn own p (piece_bytes (pieces_in (openings (own_of job j).limits s.message s.kind))) allowed log =
    record {
      member = g.member;
      tile = λ y low high. let v = tiled job history i j p s played g y low high in (v.start, v.size, v.answer, v.push, v.window', v.low, v.high, v.answered);
      within = λ start c. covered_within job history i j p s start played g (subst (λ (x : Life). C x start) g.life_is c);
      first = first_part_opened job history i j p s played g;
    } in
    let end' = goes_on own p (piece_bytes (pieces_in (openings (own_of job j).limits s.message s.kind))) allowed log s.message.send job.limits.credits shape
    (fair_credits job played.fair) (fair_data_room job i played.fair) facts (subst (λ (x : Life). C x (reach own.limits heads log p)) (sym g.life_is) covered) in
    omega arith
