-- A receive that is posted meets one message at most.
use Rattle.std.proofs.Common.{◌≡◌, ℕ, ◌+◌, true, false, [], ◌∷◌, ◌++◌, Option, Some, None, refl, arith, ◌⊎◌, inl, inr, sym, ◌∙◌, ap, subst}
use Rattle.std.specs.Prelude.{◌==◌, ◌&&◌, nat_lt, nat_le, find}
use Rattle.std.proofs.lemmas.Bool.{and_parts, and_from, eqb-true, eq-eqb, ltb-true, lt-ltb, leb-true}
use Rattle.rdm_lists.specs.Lists.{Member, without_first}
use Rattle.rdm_lists.proofs.Members.{member-append_cases, list_any_false}
use Rattle.rdm_num.specs.Pieces.{Piece, overlaps}
use Rattle.rdm_num.specs.declared.request.RecvReq.{RecvReq}
use Rattle.rdm_match.specs.declared.PostedRecv.{PostedRecv}
use Rattle.rdm_match.specs.declared.Arrived.{Arrived}
use Rattle.rdm_match.specs.Matcher.{accepts, after_post, after}
use Rattle.rdm_life.specs.Facts.{meets_receive_in}
use Rattle.rdm_life.specs.Kept.{Kept, LiveReceive, is_receive, change_where}
use Rattle.rdm_life.specs.Landing.{with_piece, land}
use Rattle.rdm_life.specs.Memory.{is_place_of, part_of}
use Rattle.rdm_life.specs.Receiving.{lists_in, with_matching, receive_in, with_live, after_recv}
use Rattle.rdm_sound.specs.Premises.{AreNumbered, AreApart, IsOrderly}
use Rattle.rdm_sound.specs.Steps.{land_one, post_found, post_one}
use Rattle.rdm_sound.proofs.Meets.{meet_nothing, meet_alone}
use Rattle.rdm_sound.proofs.SettlesEach.{settle_alone}
use Rattle.rdm_sound.proofs.Stays.{numbered_where, apart_where}
use Rattle.rdm_sound.proofs.Orderly.{numbered}

-- a place of two ranges makes them meet
places_meet : (q s : RecvReq) (region place : ℕ) → is_place_of q region place ≡ true → is_place_of s region place ≡ true
    → (s.region.0 == q.region.0 && overlaps q.at q.len s.at s.len) ≡ true
unfolding is_place_of overlaps
places_meet q s region place h k =
    let a = and_parts (q.region.0 == region && nat_le q.at place) (nat_lt place (q.at + q.len)) h in
    let b = and_parts (q.region.0 == region) (nat_le q.at place) a.0 in
    let c = and_parts (s.region.0 == region && nat_le s.at place) (nat_lt place (s.at + s.len)) k in
    let e = and_parts (s.region.0 == region) (nat_le s.at place) c.0 in
    let x = eqb-true q.region.0 region b.0 in
    let y = eqb-true s.region.0 region e.0 in
    let qa = leb-true q.at place b.1 in
    let sa = leb-true s.at place e.1 in
    let qb = ltb-true place (q.at + q.len) a.1 in
    let sb = ltb-true place (s.at + s.len) c.1 in
    and_from _ _ (eq-eqb s.region.0 q.region.0 (y ∙ sym x))
    (and_from _ _ (and_from _ _ (and_from _ _ (lt-ltb 0 q.len (omega arith)) (lt-ltb 0 s.len (omega arith))) (lt-ltb q.at (s.at + s.len) (omega arith))) (lt-ltb s.at (q.at + q.len) (omega arith)))

-- a range that meets no live receive has no place of one
pub new_apart : (v : Kept) (req : RecvReq) (r : LiveReceive) (region place : ℕ) → meets_receive_in v req.region.0 req.at req.len ≡ false → Member r v.receives
    → is_place_of req region place ≡ true → is_place_of r.receive.req region place ≡ true → ⊥
unfolding meets_receive_in
new_apart v req r region place free m h k =
    let none = list_any_false (λ (r : LiveReceive). r.receive.req.region.0 == req.region.0 && overlaps req.at req.len r.receive.req.at r.receive.req.len) v.receives free r m in
    let meet = places_meet req r.receive.req region place h k in
    cc

-- the receive that is accepted, as it is live
abbrev pub accepted : Kept → RecvReq → LiveReceive
accepted v req = record { receive = receive_in v req; part = part_of v req; matched = None }

-- a live receive was one, or is that one
pub live_cases : (v : Kept) (req : RecvReq) (r : LiveReceive) → Member r (v.receives ++ accepted v req ∷ []) → Member r v.receives ⊎ (accepted v req ≡ r)
live_cases v req r m =
    elim (member-append_cases r v.receives (accepted v req ∷ []) m) [
      | inl old ↦ inl old
      | inr new ↦ elim new [ inl is ↦ inr is | inr never ↦ elim never [ ] ]
    ]

-- its number is new
new_number : (v : Kept) (req : RecvReq) (q r : LiveReceive) → IsOrderly v → Member q v.receives → accepted v req ≡ r → q.receive.number ≡ r.receive.number → ⊥
new_number v req q r o m is e =
    let given = o.given q m in
    let number : v.receive_count ≡ r.receive.number = ap (λ (x : LiveReceive). x.receive.number) is in
    omega arith

pub live_numbered : (v : Kept) (req : RecvReq) → IsOrderly v → AreNumbered (with_live (receive_in v req) v).receives
live_numbered v req o q r m k e =
    elim (live_cases v req q m) [
      | inl a ↦ elim (live_cases v req r k) [
        | inl b ↦ numbered v.receives o.once q r a b e
        | inr b ↦ absurd (new_number v req q r o a b e)
      ]
      | inr a ↦ elim (live_cases v req r k) [
        | inl b ↦ absurd (new_number v req r q o b a (sym e))
        | inr b ↦ sym a ∙ b
      ]
    ]

-- and its places
pub live_apart : (v : Kept) (req : RecvReq) → IsOrderly v → meets_receive_in v req.region.0 req.at req.len ≡ false → AreApart (with_live (receive_in v req) v).receives
live_apart v req o free q r region place m k x y =
    elim (live_cases v req q m) [
      | inl a ↦ elim (live_cases v req r k) [
        | inl b ↦ o.apart q r region place a b x y
        | inr b ↦ absurd (new_apart v req q region place free a (subst (λ (z : LiveReceive). is_place_of z.receive.req region place ≡ true) (sym b) y) x)
      ]
      | inr a ↦ elim (live_cases v req r k) [
        | inl b ↦ absurd (new_apart v req r region place free b (subst (λ (z : LiveReceive). is_place_of z.receive.req region place ≡ true) (sym a) x) y)
        | inr b ↦ sym a ∙ b
      ]
    ]

-- what is found decides
post_is : (r : PostedRecv) (o : Option Arrived) (w : Kept) → AreNumbered w.receives → AreApart w.receives → with_matching (after_post (lists_in w) r o) w ≡ post_found r o w
unfolding after_post post_found
post_is r None w numbered apart = meet_nothing (record w { posted = w.posted ++ r ∷ [] })
post_is r (Some a) w numbered apart = meet_alone (record { recv = r; message = a }) (record w { arrived = without_first (accepts r) w.arrived }) numbered apart

pub posts_one : (req : RecvReq) (v : Kept) → IsOrderly v → meets_receive_in v req.region.0 req.at req.len ≡ false
    → after_recv req v ≡ post_one (receive_in v req).posted (with_live (receive_in v req) v)
unfolding after_recv after
posts_one req v o free =
    post_is (receive_in v req).posted (find (accepts (receive_in v req).posted) v.arrived) (with_live (receive_in v req) v) (live_numbered v req o) (live_apart v req o free)

-- a piece lands in one receive
pub lands_in_one : (number : ℕ) (p : Piece) (v : Kept) → IsOrderly v → land number p v ≡ land_one number p v
unfolding land
lands_in_one number p v o =
    settle_alone false number (record v { receives = change_where (is_receive number) (with_piece p) v.receives })
    (numbered_where (is_receive number) (with_piece p) v.receives (λ x. refl) (numbered v.receives o.once))
    (apart_where (is_receive number) (with_piece p) v.receives (λ x. refl) o.apart)
