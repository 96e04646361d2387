-- What a contract sees of a pool's fields.
use Rattle.std.proofs.Common.{◌≡◌, ℕ, ◌+◌, ◌<◌, Bool, false, true, List, [], ◌∷◌, ◌++◌, Option, Some, None, is_some, cond, map, refl, sym, ap, ◌∙◌, arith}
use Rattle.std.proofs.lemmas.Bool.Decides.{nat_tests}
use Rattle.std.proofs.lemmas.List.Sums.{sum_by-set}
use Rattle.rdm_num.specs.declared.numbers.OpId.{OpId}
use Rattle.slab.specs.Slab as slab
use Rattle.slab.specs.Slab.{Slab, get, ContainsKey, Updates, slab_len}
use Rattle.slab.proofs.SlabLemmas.{ContainsKey-within, Updates-with_value}
use Rattle.rdm_pool.specs.Marks.{without_number, with_number}
use Rattle.rdm_pool.specs.Numbered.{Numbered, value_at, without, is_full, found, after_put, after_take, after_write, next_from, IsNext, IsPool, after_mark, after_unmark, first_marked, IsFirstMarked, HasNoMarked}
use Rattle.rdm_pool.specs.declared.Pool.TheInside.{Inside}
use Rattle.rdm_pool.specs.Places.{if_marked, live, listed, marked_numbers, after_set_mark, seen, IsKept}
use Rattle.rdm_pool.specs.Ends.{first_above}
use Rattle.rdm_pool.proofs.Entries.{without-absent}
use Rattle.rdm_pool.proofs.SlabKeys.{some_of, length-listed, value_under, found_at, key_held, rises_live, rises_listed}
use Rattle.rdm_pool.proofs.Following.{end_after, first_end, first_listed, first_is}
use Rattle.rdm_pool.proofs.Marks.{first-numbers_of, first_of_numbers, none_of_numbers, have-has, have-listed}
use Rattle.rdm_pool.proofs.Marked.{rises-marked, below-marked, have-marked}
use Rattle.rdm_pool.proofs.Changed.{listed-take, held-written, listed-written}

module _ {T : Type 0} where
  -- what is kept is a pool
  pub is_pool : (p : Inside T) → IsKept p → IsPool (seen p)
  is_pool p kept = record {
    rises = rises_listed p.values 0 p.made (live p.places.items) (rises_live 0 p.made p.places.items kept.rises kept.given);
    within = rw (length-listed p.values (live p.places.items) kept.held, ← kept.counted) kept.within;
    marks = have-listed p.values (live p.places.items) 0 (marked_numbers p.places.items) kept.held (have-marked 0 p.places.items kept.rises);
  }

  -- what is seen by its two lists
  abbrev pub seen_by : (p : Inside T) → List (ℕ × T) → List ℕ → ℕ → Numbered T
  seen_by p list marked made = record { list = list; marked = marked; size = p.size; made = made }

  -- equal lists are seen as equal
  both_seen : (p : Inside T) (made : ℕ) (list list' : List (ℕ × T)) (marked marked' : List ℕ) → list ≡ list' → marked ≡ marked' → seen_by p list marked made ≡ seen_by p list' marked' made
  both_seen p made list list' marked marked' same same' = rw (same, same') refl

  -- a pool that is not full has room in the slab
  pub room_left : (p : Inside T) → IsKept p → false ≡ is_full (seen p) → slab_len p.values < p.size
  room_left p kept fits = grind (arith, nat_tests, kept.within, kept.counted, length-listed p.values (live p.places.items) kept.held)

  -- what stands under a number is what its key has
  pub found_under : (p : Inside T) → IsKept p → (id : OpId) (o : Option ℕ) → o ≡ value_at (live p.places.items) id.0 → found (seen p) id ≡ value_under p.values o
  found_under p kept id o is = found_at p.values (live p.places.items) id.0 kept.held ∙ ap (value_under p.values) (sym is)

  -- what is seen after a put
  pub put_seen : (p : Inside T) (value : T) (list : List (ℕ × T)) (marked : List ℕ) → false ≡ is_full (seen p) → list ≡ listed p.values (live p.places.items) ++ (p.made, value) ∷ [] → marked ≡ marked_numbers p.places.items → seen_by p list marked (p.made + 1) ≡ after_put (seen p) value
  put_seen p value list marked fits is same = rw (← fits) (both_seen p (p.made + 1) list _ marked _ is same)

  -- a write changes no count of values
  len-written : (values : Slab T) (key : ℕ) (value : T) → ContainsKey values key → slab_len (slab.with_value values key value) ≡ slab_len values
  len-written values key value held =
      let some = some_of (get values key) held in
      let counted = sum_by-set (λ o. cond (is_some o) 1 0) values.slots key (Some value) None (ContainsKey-within values key held) in
      let same = rw some.1 at counted in
      omega (arith, same)

  -- a write keeps what is kept
  pub kept-written : (p : Inside T) → IsKept p → (key : ℕ) (value : T) → ContainsKey p.values key → IsKept (record p { values = slab.with_value p.values key value })
  kept-written p kept key value held =
      let same = len-written p.values key value held in
      record {
        held = held-written p.values _ key value (live p.places.items) (Updates-with_value p.values key value held) kept.held;
        rises = kept.rises;
        given = kept.given;
        counted = same ∙ kept.counted;
        within = rw same kept.within;
        has_slots = kept.has_slots;
        has_places = kept.has_places;
        ended = kept.ended;
        has_ends = kept.has_ends;
        mark_ended = kept.mark_ended;
        has_marks = kept.has_marks;
      }

  -- what is seen after a write
  pub written_seen : (p : Inside T) → IsKept p → (id : OpId) (key : ℕ) (value : T) → Some key ≡ value_at (live p.places.items) id.0 → ContainsKey p.values key → seen (record p { values = slab.with_value p.values key value }) ≡ after_write (seen p) id value
  written_seen p kept id key value is held = ap (λ list. seen_by p list (marked_numbers p.places.items) p.made) (listed-written p.values _ (live p.places.items) id.0 key value (sym is) (Updates-with_value p.values key value held) kept.held)

  -- what is seen after a take
  pub taken_seen : (p : Inside T) → IsKept p → (id : OpId) (key : ℕ) (new : Slab T) (pairs : List (ℕ × ℕ)) (marked : List ℕ) → Some key ≡ value_at (live p.places.items) id.0 → Updates p.values new key None → pairs ≡ without (live p.places.items) id.0 → marked ≡ without_number (marked_numbers p.places.items) id.0 → seen_by p (listed new pairs) marked p.made ≡ after_take (seen p) id
  taken_seen p kept id key new pairs marked is updates others marks = both_seen p p.made _ _ _ _ (ap (listed new) others ∙ listed-take p.values new (live p.places.items) id.0 key (sym is) updates kept.held) marks

  -- a take of a number that has no key changes nothing
  pub nothing_taken : (p : Inside T) → IsKept p → (id : OpId) (pairs : List (ℕ × ℕ)) (marked : List ℕ) → None ≡ value_at (live p.places.items) id.0 → pairs ≡ without (live p.places.items) id.0 → marked ≡ without_number (marked_numbers p.places.items) id.0 → seen_by p (listed p.values pairs) marked p.made ≡ after_take (seen p) id
  nothing_taken p kept id pairs marked none others marks =
      let same = others ∙ without-absent (live p.places.items) id.0 (sym none) in
      let absent = found_under p kept id None none in
      both_seen p p.made _ _ _ _ (ap (listed p.values) same ∙ sym (without-absent (listed p.values (live p.places.items)) id.0 absent)) marks

  -- the first end above a number is that of the next number
  pub next_end : (p : Inside T) → IsKept p → (from : OpId) → first_above p.ends from.0 ≡ end_after (next_from (seen p) from)
  next_end p kept from = first_end p.places.items p.ends from.0 kept.ended ∙ ap end_after (sym (first_listed p.values (live p.places.items) from.0 kept.held))

  -- the next number is the least that has a value
  pub next_is : (p : Inside T) → IsKept p → (from id : OpId) → next_from (seen p) from ≡ Some id → IsNext (seen p) from id
  next_is p kept from id is =
      let first = first_is 0 p.made (seen p).list from.0 id (is_pool p kept).rises is in
      record { has_value = first.0; not_before = first.1; least = λ other. first.2 other.0 }

  -- what is seen once a number that has a value is marked, or a number is not
  pub set_mark_seen : (p : Inside T) → IsKept p → (id : OpId) (mark : Bool) (pairs : List (ℕ × ℕ)) (marked : List ℕ) → pairs ≡ live p.places.items → marked ≡ after_set_mark mark (value_at (live p.places.items) id.0) (marked_numbers p.places.items) id.0 → seen_by p (listed p.values pairs) marked p.made ≡ cond mark (after_mark (seen p) id) (after_unmark (seen p) id)
  set_mark_seen p kept id false pairs marked same is = both_seen p p.made _ _ _ _ (ap (listed p.values) same) is
  set_mark_seen p kept id true pairs marked same is = both_seen p p.made _ _ _ _ (ap (listed p.values) same) (is ∙ by_key (value_at (live p.places.items) id.0) refl)
    where
      by_key : (o : Option ℕ) → o ≡ value_at (live p.places.items) id.0 → after_set_mark true o (marked_numbers p.places.items) id.0 ≡ cond (is_some (found (seen p) id)) (with_number (marked_numbers p.places.items) id.0) (marked_numbers p.places.items)
      by_key None none = rw (found_under p kept id None none) refl
      by_key (Some key) held = rw (found_under p kept id (Some key) held, (some_of (get p.values key) (key_held p.values (live p.places.items) id.0 key held kept.held)).1) refl

  -- the first mark above a number is that of the first marked number
  pub marked_end : (p : Inside T) → IsKept p → (from : OpId) → first_above p.marks from.0 ≡ end_after (first_marked (seen p) from)
  marked_end p kept from = first_end (map if_marked p.places.items) p.marks from.0 kept.mark_ended ∙ ap end_after (sym (first-numbers_of (live (map if_marked p.places.items)) from.0))

  -- the first marked number is the least
  pub marked_is : (p : Inside T) → IsKept p → (from id : OpId) → first_marked (seen p) from ≡ Some id → IsFirstMarked (seen p) from id
  marked_is p kept from id is =
      let rises = rises_live 0 p.made (map if_marked p.places.items) (rises-marked 0 p.places.items kept.rises) (below-marked p.made p.places.items kept.given) in
      let first = first_of_numbers 0 p.made (live (map if_marked p.places.items)) from.0 id rises is in
      record { has_mark = first.0; has_value = have-has 0 (seen p).list (seen p).marked id.0 (is_pool p kept).marks first.0; not_before = first.1; least = λ other. first.2 other.0 }

  -- and where there is none, no number from the given one on is marked
  pub none_marked : (p : Inside T) (from : OpId) → first_marked (seen p) from ≡ None → HasNoMarked (seen p) from
  none_marked p from is = λ other after. none_of_numbers (live (map if_marked p.places.items)) from.0 is other.0 after
