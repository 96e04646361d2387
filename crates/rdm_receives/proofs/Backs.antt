-- What comes back of a receive.
use Rattle.std.proofs.Common.{◌≡◌, ℕ, ◌+◌, ◌-◌, ◌<◌, ◌≤◌, ◌⊎◌, inl, inr, Bool, true, false, not, ◌&&◌, ◌||◌, List, [], length, get_or, take, drop, map, min, Option, Some, None, refl, sym, ap, subst, ◌∙◌, arith}
use Rattle.std.specs.Prelude.{nat_lt}
use Rattle.std.proofs.lemmas.Bool.{true≢false}
use Rattle.std.proofs.lemmas.List.{length-map, get_or-map, get_or-take, get_or_past, ext_get_or}
use Rattle.rdm_lists.specs.Lists.{below, each_below}
use Rattle.rdm_lists.proofs.Below.{each_below_at, length-below, get_or-below}
use Rattle.rdm_num.specs.declared.head.Head.{Head}
use Rattle.rdm_num.specs.declared.numbers.OpId.{OpId}
use Rattle.rdm_num.specs.declared.request.RecvReq.{RecvReq}
use Rattle.rdm_mr.specs.Part.{Piece}
use Rattle.rdm_mr.specs.Tiles.{Tiles, AreBytes}
use Rattle.rdm_mr.proofs.Overlays.{by_lt}
use Rattle.rdm_land.specs.Landed.{Landed}
use Rattle.rdm_land.specs.Arrivals.{waits, has_come}
use Rattle.rdm_land.specs.Spans.{have}
use Rattle.rdm_land.specs.Inside.{Agrees}
use Rattle.rdm_land.proofs.Order.{have_inside}
use Rattle.rdm_rx.specs.Receiving.{ReceivingView}
use Rattle.rdm_life.specs.Kept.{LiveReceive, Matched}
use Rattle.rdm_life.specs.Landing.{has_all}
use Rattle.rdm_receives.specs.View.{ReceiveView, IsReceive, IsOfMessage}
use Rattle.rdm_receives.specs.Shows.{Shows, ShowMatch, ShowsMessage}
use Rattle.rdm_receives.specs.Answers.{is_full, excess}
use Rattle.rdm_receives.specs.Laws.{BytesShow, ExcessShows, PartShows}
use Rattle.rdm_receives.proofs.Showing.{none_waits}
use Rattle.rdm_receives.proofs.Fullness.{full_is}

-- a place that has come waits no more
come_waits : (a b : Bool) → (a && not b) ≡ true → b ≡ false
come_waits true true e = absurd (true≢false (sym e))
come_waits true false e = refl
come_waits false b e = absurd (true≢false (sym e))

-- nor does one past the end of the message
past_waits : (l : Landed) → Agrees l.missing l.tiles.cells l.lent → (k : ℕ) → length l.missing ≤ k → waits l k ≡ false
past_waits l a k le =
    ap (λ b. have k l.lent || b) (get_or_past l.missing k false le)
    ∙ elim (have k l.lent) as (λ b. have k l.lent ≡ b → (b || false) ≡ false) [
      | true ↦ λ e. absurd (let inside = have_inside 0 (length l.missing) (length l.tiles.cells) k l.lent a.apart e in omega (arith, inside.1))
      | false ↦ λ e. refl
    ] refl

-- where it is full, no place waits
full_waits : (number : OpId) (l : Landed) (o : Option ReceivingView) → IsOfMessage number l o → Agrees l.missing l.tiles.cells l.lent → is_full l o ≡ true → (k : ℕ) → waits l k ≡ false
full_waits number l None m a e k = absurd (true≢false (sym e))
full_waits number l (Some r) m a e k =
    by_lt k (length l.missing)
    (λ lt. come_waits (nat_lt k (length l.missing)) (waits l k) (each_below_at (has_come l) r.head.length k e (omega (arith, lt, m.1))))
    (λ le. past_waits l a k le)

-- bytes that lie in cells
byte_there : (bytes : List ℕ) (cells : List (Option ℕ)) → AreBytes 0 bytes cells → (k : ℕ) → k < length bytes → get_or cells k None ≡ Some (get_or bytes k 0)
byte_there bytes cells a k lt =
    let long = length-map bytes Some in
    sym (get_or-take (length (map Some bytes)) cells k None (omega (arith, long))) ∙ ap (λ l. get_or l k None) a.1 ∙ get_or-map Some bytes k 0 None lt

-- the message of a receive that shows one with a message
message_of : (number : OpId) (d : Landed) (o : Option ReceivingView) (x : Option Matched) (m : Matched) → ShowMatch d o x → IsOfMessage number d o → x ≡ Some m
    → (length d.missing ≡ m.head.length) × (has_all m ≡ true → is_full d o ≡ true)
message_of number d None None m s is e = absurd (cc)
message_of number d None (Some y) m s is e = absurd s
message_of number d (Some r) None m s is e = absurd s
message_of number d (Some r) (Some y) m s is e =
    let same : y ≡ m = cc in
    let t : ShowsMessage d r m = subst (ShowsMessage d r) same s in
    (is.1 ∙ ap (λ (h : Head). h.length) t.head, λ all. full_is d r m t ∙ all)

pub bytes_show : BytesShow
bytes_show r l m bytes is s e all long there =
    let f = message_of r.number r.landed r.message l.matched m s.matched is.message e in
    let len = ap (λ (q : RecvReq). q.len) s.req in
    let n = min l.receive.req.len m.head.length in
    let size = length-below n in
    let size' : length (map l.part (below n)) ≡ n = length-map (below n) l.part ∙ size in
    let count : length bytes ≡ n = omega (arith, long, len, f.0) in
    ext_get_or 0 bytes (map l.part (below n)) (count ∙ sym size') (λ k lt.
    let full = full_waits r.number r.landed r.message is.message is.agrees (f.1 all) k in
    let a = byte_there bytes r.landed.tiles.cells there k lt in
    let b = s.cells k (omega (arith, lt, long)) full in
    let c : Some (get_or bytes k 0) ≡ Some (l.part k) = sym a ∙ b in
    let d : get_or bytes k 0 ≡ l.part k = cc in
    d ∙ sym (get_or-map l.part (below n) k 0 0 (omega (arith, lt, count, size)) ∙ ap l.part (get_or-below n k 0 (omega (arith, lt, count)))))

pub excess_shows : ExcessShows
excess_shows r l m is s e =
    let f = message_of r.number r.landed r.message l.matched m s.matched is.message e in
    let len = ap (λ (q : RecvReq). q.len) s.req in
    ap (λ n. n - r.req.len) f.0 ∙ ap (λ n. m.head.length - n) len

pub part_shows : PartShows
part_shows r l p is s o all =
    let long = length-map p.bytes Some in
    let cells : map Some p.bytes ≡ r.landed.tiles.cells = all.3 in
    let size = ap length cells in
    let len = ap (λ (q : RecvReq). q.len) s.req in (
      omega (arith, long, size, len, is.places),
      λ k lt.
          let b = s.cells k (omega (arith, lt, long, size, is.places)) (free k o) in
          let c : Some (get_or p.bytes k 0) ≡ Some (l.part k) = sym (get_or-map Some p.bytes k 0 None lt) ∙ ap (λ x. get_or x k None) cells ∙ b in
          let d : get_or p.bytes k 0 ≡ l.part k = cc in
          sym d,
    )
  where
    free : (k : ℕ) → (r.message ≡ None) ⊎ (is_full r.landed r.message ≡ true) → waits r.landed k ≡ false
    free k (inl none) = none_waits r.landed r.number r.message none is.message k
    free k (inr full) = full_waits r.number r.landed r.message is.message is.agrees full k
