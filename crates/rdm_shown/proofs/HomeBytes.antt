-- The bytes that are at home, and which stay there.
use Rattle.std.proofs.Common.{◌≡◌, ℕ, zero, suc, ◌+◌, ◌-◌, ◌<◌, ◌≤◌, Bool, true, false, cond, List, [], ◌∷◌, ◌++◌, length, map as each, take, drop, find, get_or, Option, Some, None, refl, sym, ap, ◌∙◌, arith}
use Rattle.std.specs.Prelude.{nat_lt, slice_get, option_map, is_none, unwrap_or}
use Rattle.std.specs.List.{filter_map}
use Rattle.std.specs.Cmp.{nat_cmp_total}
use Rattle.std.specs.FinMap as map
use Rattle.std.proofs.lemmas.List.{length-map, get_or-take, get_or-drop, map-append, append-nil}
use Rattle.std.proofs.Math.Seq.{take-suc}
use Rattle.std.proofs.lemmas.Option.{slice_get_past}
use Rattle.std.proofs.lemmas.Bool.Decides.{nat_tests}
use Rattle.rdm_lists.specs.Lists.{Member, below, or_else}
use Rattle.rdm_lists.proofs.Below.{map_below_same}
use Rattle.rdm_lists.proofs.Bools.{or_false}
use Rattle.rdm_lists.proofs.Places.{member_at}
use Rattle.rdm_lists.proofs.Same.{flat_map_same}
use Rattle.rdm_num.specs.Pieces.{overlaps}
use Rattle.rdm_num.specs.declared.parts.Span.{Span}
use Rattle.rdm_num.specs.declared.request.RecvReq.{RecvReq}
use Rattle.rdm_mr.proofs.Overlays.{home_from_each}
use Rattle.rdm_regions.specs.Ranges.{range, hold_key, meets, meets_one}
use Rattle.rdm_regions.specs.Registry.{Registry, Area, bytes_at, refusal_in, lease_refusal}
use Rattle.rdm_regions.specs.declared.refused.RegionRefused.TheVariants.{Range, Busy}
use Rattle.rdm_regions.specs.Survival.{IsSound}
use Rattle.rdm_regions.proofs.Entries.{by_key}
use Rattle.rdm_model.specs.Matches.{Receive}
use Rattle.rdm_life.specs.Kept.{Kept, LiveSend, LiveReceive, is_receive, send_numbered}
use Rattle.rdm_life.specs.Memory.{after_reg, byte_home, bytes_home, part_of as out_with, is_place_of, without_range, byte_back, with_back}
use Rattle.rdm_life.specs.Receiving.{with_live}
use Rattle.rdm_shown.specs.Grounds.{IsGround, range_of, range_out, part_of}
use Rattle.rdm_shown.specs.GroundLaws.{PartIsOut, BytesShow, BytesStay, back_home}
use Rattle.rdm_shown.proofs.Areas.{cells_are, get_there}
use Rattle.rdm_shown.proofs.Values.{any_value, value_any}
use Rattle.rdm_shown.proofs.Leases.{lies}
use Rattle.rdm_shown.proofs.Grounds.{number_differs}

-- numbers by their places
listed : (xs : List ℕ) (f : ℕ → ℕ) (n : ℕ) → n ≤ length xs → ((k : ℕ) → k < n → f k ≡ get_or xs k 0) → each f (below n) ≡ take n xs
unfolding below
listed xs f zero le h = sym (take_none xs)
  where
    take_none : (ys : List ℕ) → take 0 ys ≡ []
    take_none ys = refl
listed xs f (suc n) le h =
    map-append f (below n) (n ∷ [])
    ∙ ap (λ ys. ys ++ f n ∷ []) (listed xs f n (omega arith) (λ k lt. h k (omega arith)))
    ∙ ap (λ x. take n xs ++ x ∷ []) (h n (omega arith))
    ∙ sym (take-suc xs n 0 (omega arith))

-- what is there of cells that are all at home
all_there : (bytes : List ℕ) → filter_map (λ (c : Option ℕ). c) (each Some bytes) ≡ bytes
all_there [] = refl
all_there (b ∷ bytes) = ap (λ xs. b ∷ xs) (all_there bytes)

-- what a refusal says where there is none
not_busy : (r : Registry) (x : Span) (busy : Bool) → refusal_in (slice_get r.areas x.region.0) x busy ≡ None → busy ≡ false
unfolding refusal_in
not_busy r x busy h = by (slice_get r.areas x.region.0) h
  where
    by : (o : Option Area) → refusal_in o x busy ≡ None → busy ≡ false
    by None e = absurd (none e)
      where
        none : refusal_in None x busy ≡ None → ⊥
        none q = cc
    by (Some area) e = free busy (nat_lt (length area.cells) (x.at + x.len)) e
      where
        free : (b late : Bool) → cond late (Some Range) (cond b (Some Busy) None) ≡ None → b ≡ false
        free true true q = cc
        free true false q = cc
        free false late q = refl

-- two ranges one of which lies in the other
within_meets : (x y : Span) (place : ℕ) → x.at ≤ place → place < x.at + x.len → meets (range x.region.0 place 1) y ≡ true → meets x y ≡ true
unfolding meets overlaps
within_meets x y place low high h = grind (arith, nat_tests)

-- what is true and false
never : (b : Bool) → b ≡ true → b ≡ false → ⊥
never true p q = clash q
  where
    clash : true ≡ false → ⊥
    clash e = cc
never false p q = clash p
  where
    clash : false ≡ true → ⊥
    clash e = cc

to_false : (b : Bool) → (b ≡ true → ⊥) → b ≡ false
to_false true h = absurd (h refl)
to_false false h = refl

-- a range that is not refused, and meets no lease: each of its places is at home
module _ (r : Registry) (v : Kept) (x : Span) (sound : IsSound r) (g : IsGround r v) (free : meets_one x r.leased ≡ false) (area : Area) (is : slice_get r.areas x.region.0 ≡ Some area) (fits : x.at + x.len ≤ length area.cells) where
  not_away : (place : ℕ) → x.at ≤ place → place < x.at + x.len → is_none (get_or area.cells place None) ≡ false
  not_away place low high =
      sound.away x.region.0 place area is (omega (arith, high, fits))
      ∙ to_false _ (λ h.
      let a = any_value nat_cmp_total (meets (range x.region.0 place 1)) r.leased h in
      never _ (value_any nat_cmp_total (meets x) r.leased a.0 a.1 a.2 (within_meets x a.1 place low high a.3)) free)

  -- their bytes
  record Bytes : Type 0 where
    bytes : List ℕ
    long : length bytes ≡ x.len
    are : bytes_at r x ≡ bytes
    each_is : (k : ℕ) → k < x.len → byte_home v x.region.0 (x.at + k) ≡ get_or bytes k 0

  bytes_are : Bytes
  bytes_are =
      let home = home_from_each x.at x.len area.cells fits not_away in
      let long = home.1 in
      let len = length-map home.0 Some in
      let cut : take x.len (drop x.at area.cells) ≡ each Some home.0 = ap (λ n. take n (drop x.at area.cells)) (sym (len ∙ long)) ∙ home.2.1 in
      record {
        bytes = home.0;
        long = long;
        are = ap (λ cells. filter_map (λ (c : Option ℕ). c) (take x.len (drop x.at cells))) (cells_are r.areas x.region.0 area is) ∙ ap (filter_map (λ (c : Option ℕ). c)) cut ∙ all_there home.0;
        each_is = λ k lt.
            ap (λ o. unwrap_or o 0)
            (g.regions.home_is x.region.0 (x.at + k)
            ∙ ap (λ cells. get_or cells (x.at + k) None) (cells_are r.areas x.region.0 area is)
            ∙ sym (get_or-drop x.at area.cells k None) ∙ sym (get_or-take x.len (drop x.at area.cells) k None lt)
            ∙ ap (λ cells. get_or cells k None) cut ∙ get_there home.0 k (omega (arith, lt, long)));
      }

-- the part of a receive
pub part_is_out : PartIsOut
unfolding out_with
part_is_out r v receive piece sound g allowed leased =
    let x = range_of receive.req in
    let l = lies r x _ allowed in
    let busy = not_busy r x _ allowed in
    let free : meets_one x r.leased ≡ false = (or_false _ _ busy).0 in
    let b = bytes_are r v x sound g free l.0 l.1 l.2 in
    let same : piece.bytes ≡ b.bytes = leased.1 ∙ b.are in
    (leased.0.len, λ k lt. ap (λ t. cond t (byte_home v receive.req.region.0 (receive.req.at + k)) 0) (below_is k receive.req.len lt) ∙ b.each_is k lt ∙ ap (λ bytes. get_or bytes k 0) (sym same))
  where
    below_is : (k n : ℕ) → k < n → nat_lt k n ≡ true
    below_is k n lt = grind (arith, nat_tests, lt)

-- the bytes of a range
pub bytes_show : BytesShow
unfolding bytes_home
bytes_show r v x sound g allowed =
    let l = lies r x _ allowed in
    let free = not_busy r x _ allowed in
    let b = bytes_are r v x sound g free l.0 l.1 l.2 in
    let long = b.long in
    b.are ∙ sym (append-nil _ ∙ listed b.bytes _ x.len (omega (arith, long)) b.each_is ∙ ap (λ n. take n b.bytes) (sym long) ∙ take_all b.bytes)
  where
    take_all : (xs : List ℕ) → take (length xs) xs ≡ xs
    take_all [] = refl
    take_all (y ∷ xs) = ap (λ ys. y ∷ ys) (take_all xs)

-- ---- bytes that stay

-- the bytes of ranges of which each place stays
same_bytes : (v w : Kept) (parts : List Span) → ((p : Span) (k : ℕ) → Member p parts → k < p.len → w.home p.region.0 (p.at + k) ≡ v.home p.region.0 (p.at + k)) → bytes_home w parts ≡ bytes_home v parts
unfolding bytes_home
same_bytes v w parts h = flat_map_same _ _ parts (λ p m. map_below_same _ _ p.len (λ k lt. ap (λ o. unwrap_or o 0) (h p k m lt)))

-- no place of a range is one of a range that it shares none with
not_place : (req : RecvReq) (p : Span) (k : ℕ) → meets p (range_of req) ≡ false → k < p.len → is_place_of req p.region.0 (p.at + k) ≡ false
unfolding meets overlaps is_place_of
not_place req p k apart lt = grind (arith, nat_tests, lt)

turned : (x y : Span) → meets x y ≡ false → meets y x ≡ false
unfolding meets overlaps
turned x y h = grind (arith, nat_tests)

-- the ranges of a live send stay
module _ (r : Registry) (v : Kept) (s : LiveSend) (sound : IsSound r) (g : IsGround r v) (there : send_numbered v s.sent.number ≡ Some s) where
  held_at : (p : Span) → Member p s.sent.req.parts → (part : ℕ) × (map.get r.held (hold_key s.sent.number part) ≡ Some p)
  unfolding part_of
  held_at p m =
      let n = member_at p s.sent.req.parts m in
      (n.0, g.holds s.sent.number n.0 ∙ ap (λ o. part_of o n.0) there ∙ n.1)

  -- as a receive's range goes out that meets none of them
  out_stay : (receive : Receive) → lease_refusal r (range_of receive.req) ≡ None → bytes_home (with_live receive v) s.sent.req.parts ≡ bytes_home v s.sent.req.parts
  unfolding without_range
  out_stay receive allowed =
      same_bytes v (with_live receive v) s.sent.req.parts (λ p k m lt.
      let h = held_at p m in
      let busy = or_false _ _ (not_busy r (range_of receive.req) _ allowed) in
      let apart = to_false _ (λ e. never _ (value_any by_key.total (meets (range_of receive.req)) r.held (hold_key s.sent.number h.0) p h.1 e) busy.1) in
      ap (λ b. cond b None (v.home p.region.0 (p.at + k))) (not_place receive.req p k (turned (range_of receive.req) p apart) lt))

  -- as one comes home
  home_stay : (l : LiveReceive) → find (is_receive l.receive.number) v.receives ≡ Some l → bytes_home (back_home l v) s.sent.req.parts ≡ bytes_home v s.sent.req.parts
  unfolding with_back byte_back or_else
  home_stay l live =
      same_bytes v (back_home l v) s.sent.req.parts (λ p k m lt.
      let h = held_at p m in
      let apart = sound.holds_apart s.sent.number h.0 l.receive.number p (range_out l) h.1 (g.leases l.receive.number ∙ ap (option_map range_out) live) in
      ap (λ b. or_else (option_map (λ (q : LiveReceive). q.part ((p.at + k) - q.receive.req.at)) (cond b (Some l) None)) (v.home p.region.0 (p.at + k))) (not_place l.receive.req p k apart lt))

  -- as one more region is registered
  reg_stay : (content : List ℕ) → bytes_home (after_reg content v) s.sent.req.parts ≡ bytes_home v s.sent.req.parts
  reg_stay content =
      same_bytes v (after_reg content v) s.sent.req.parts (λ p k m lt.
      let h = held_at p m in
      let lie = sound.held_lie s.sent.number h.0 p h.1 in
      ap (λ b. cond b (slice_get content (p.at + k)) (v.home p.region.0 (p.at + k))) (number_differs p.region.0 v.region_count (not_new p lie.0 lie.1)))
    where
      not_new : (p : Span) (area : Area) → slice_get r.areas p.region.0 ≡ Some area → p.region.0 ≡ v.region_count → ⊥
      not_new p area is e = none (sym is ∙ ap (slice_get r.areas) (e ∙ g.regions.count_is) ∙ slice_get_past r.areas (length r.areas) (omega arith))
        where
          none : Some area ≡ None → ⊥
          none q = cc

-- so the bytes of its message stay
pub bytes_stay : BytesStay
bytes_stay r v s sound g m there = (out_stay r v s sound g there, home_stay r v s sound g there, reg_stay r v s sound g there)
