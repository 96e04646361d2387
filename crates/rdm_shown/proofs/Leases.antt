-- What goes out and comes back shows of the record.
use Rattle.std.proofs.Common.{◌≡◌, ◌⊎◌, inl, inr, ℕ, ◌+◌, ◌-◌, ◌<◌, ◌≤◌, Bool, true, false, cond, List, [], ◌∷◌, ◌++◌, length, map as each, find, get_or, Option, Some, None, refl, sym, ap, ◌∙◌, arith}
use Rattle.std.specs.Prelude.{◌==◌, nat_lt, slice_get, option_map, replicate}
use Rattle.std.specs.Cmp.{nat_cmp_total, unsigned_tied}
use Rattle.std.specs.FinMap as map
use Rattle.std.proofs.lemmas.List.{length-map, length-replicate}
use Rattle.std.proofs.lemmas.Bool.Decides.{nat_tests}
use Rattle.rdm_lists.specs.Lists.{or_else}
use Rattle.rdm_num.specs.declared.parts.Span.{Span}
use Rattle.rdm_num.specs.declared.request.RecvReq.{RecvReq}
use Rattle.rdm_mr.proofs.Overlays.{length-new, new_in, new_out}
use Rattle.rdm_regions.specs.Registry.{Registry, Area, cells_at, laid_in, refusal_in}
use Rattle.rdm_regions.specs.Survival.{LiesIn}
use Rattle.rdm_model.specs.Matches.{Receive}
use Rattle.rdm_life.specs.Kept.{LiveReceive, is_receive}
use Rattle.rdm_life.specs.Memory.{part_of as out_with, is_place_of, without_range, byte_back, with_back}
use Rattle.rdm_life.specs.Receiving.{with_live}
use Rattle.rdm_shown.specs.Grounds.{range_of, range_out}
use Rattle.rdm_shown.specs.GroundLaws.{LeaseShows, BackShows, back_home}
use Rattle.rdm_shown.proofs.Areas.{cells_are, cells_written, cells_other, areas_stay, get_there, get_out}
use Rattle.rdm_shown.proofs.Finding.{find_last, find_aside, find_none_left, find_left}
use Rattle.rdm_shown.proofs.Grounds.{one_number, two_numbers, number_differs, number_is}

-- a range that is not refused lies in its region
pub lies : (r : Registry) (x : Span) (busy : Bool) → refusal_in (slice_get r.areas x.region.0) x busy ≡ None → LiesIn r x
unfolding refusal_in
lies r x busy h = by (slice_get r.areas x.region.0) refl h
  where
    by : (o : Option Area) → slice_get r.areas x.region.0 ≡ o → refusal_in o x busy ≡ None → LiesIn r x
    by None is e = absurd (none e)
      where
        none : refusal_in None x busy ≡ None → ⊥
        none q = cc
    by (Some area) is e =
        elim (nat_lt (length area.cells) (x.at + x.len)) as (λ b. nat_lt (length area.cells) (x.at + x.len) ≡ b → refusal_in (Some area) x busy ≡ None → LiesIn r x) [
          | true ↦ λ t q. absurd (late t q)
          | false ↦ λ t q. (area, is, fits t)
        ] refl e
      where
        late : nat_lt (length area.cells) (x.at + x.len) ≡ true → refusal_in (Some area) x busy ≡ None → ⊥
        late t q = cc

        fits : nat_lt (length area.cells) (x.at + x.len) ≡ false → x.at + x.len ≤ length area.cells
        fits t = grind (arith, nat_tests)

-- a place of a range that is written, and another place
module _ (areas : List Area) (x : Span) (area : Area) (xs : List (Option ℕ)) (is : slice_get areas x.region.0 ≡ Some area) (long : length xs ≡ x.len) (fits : x.at + x.len ≤ length area.cells) where
  ends : x.at + length xs ≤ length area.cells
  ends = omega (arith, long, fits)

  pub as_long : (region : ℕ) → length (cells_at region (laid_in x.region.0 x.at xs areas)) ≡ length (cells_at region areas)
  as_long region =
      elim (region == x.region.0) as (λ b. (region == x.region.0) ≡ b → length (cells_at region (laid_in x.region.0 x.at xs areas)) ≡ length (cells_at region areas)) [
        | true ↦ λ e. (let same = one_number region x.region.0 e in
            ap (λ n. length (cells_at n (laid_in x.region.0 x.at xs areas))) same ∙ ap length (cells_written areas x.region.0 x.at xs area is) ∙ length-new x.at xs area.cells None ends ∙ sym (ap length (cells_are areas x.region.0 area is)) ∙ ap (λ n. length (cells_at n areas)) (sym same))
        | false ↦ λ e. ap length (cells_other areas region x.region.0 x.at xs (two_numbers region x.region.0 e))
      ] refl

  pub place_in : (region place : ℕ) → region ≡ x.region.0 → x.at ≤ place → place < x.at + x.len → get_or (cells_at region (laid_in x.region.0 x.at xs areas)) place None ≡ get_or xs (place - x.at) None
  place_in region place same low high =
      ap (λ n. get_or (cells_at n (laid_in x.region.0 x.at xs areas)) place None) same
      ∙ ap (λ cells. get_or cells place None) (cells_written areas x.region.0 x.at xs area is)
      ∙ new_in x.at xs area.cells None ends place low (omega (arith, long, high))

  pub place_out : (region place : ℕ) → (region ≡ x.region.0 → (place < x.at) ⊎ (x.at + x.len ≤ place)) → get_or (cells_at region (laid_in x.region.0 x.at xs areas)) place None ≡ get_or (cells_at region areas) place None
  place_out region place out =
      elim (region == x.region.0) as (λ b. (region == x.region.0) ≡ b → get_or (cells_at region (laid_in x.region.0 x.at xs areas)) place None ≡ get_or (cells_at region areas) place None) [
        | true ↦ λ e. (let same = one_number region x.region.0 e in
            ap (λ n. get_or (cells_at n (laid_in x.region.0 x.at xs areas)) place None) same
            ∙ ap (λ cells. get_or cells place None) (cells_written areas x.region.0 x.at xs area is)
            ∙ new_out x.at xs area.cells None ends place (aside (out same))
            ∙ sym (ap (λ cells. get_or cells place None) (cells_are areas x.region.0 area is))
            ∙ ap (λ n. get_or (cells_at n areas) place None) (sym same))
        | false ↦ λ e. ap (λ cells. get_or cells place None) (cells_other areas region x.region.0 x.at xs (two_numbers region x.region.0 e))
      ] refl
    where
      aside : (place < x.at) ⊎ (x.at + x.len ≤ place) → (place < x.at) ⊎ (x.at + length xs ≤ place)
      aside (inl lt) = inl lt
      aside (inr le) = inr (omega (arith, long, le))

-- a place of the range of a request, and another place
pub in_range : (req : RecvReq) (region place : ℕ) → is_place_of req region place ≡ true → (region ≡ req.region.0) × (req.at ≤ place) × (place < req.at + req.len)
unfolding is_place_of
in_range req region place h = (grind (arith, nat_tests), grind (arith, nat_tests), grind (arith, nat_tests))

pub out_of_range : (req : RecvReq) (region place : ℕ) → is_place_of req region place ≡ false → region ≡ req.region.0 → (place < req.at) ⊎ (req.at + req.len ≤ place)
unfolding is_place_of
out_of_range req region place h same =
    elim (nat_lt place req.at) as (λ b. nat_lt place req.at ≡ b → (place < req.at) ⊎ (req.at + req.len ≤ place)) [
      | true ↦ λ e. inl (below e)
      | false ↦ λ e. inr (past e)
    ] refl
  where
    below : nat_lt place req.at ≡ true → place < req.at
    below e = grind (arith, nat_tests)

    past : nat_lt place req.at ≡ false → req.at + req.len ≤ place
    past e = grind (arith, nat_tests)

-- a receive's range goes out
pub lease_shows : LeaseShows
unfolding is_place_of without_range
lease_shows r v receive g none allowed =
    let x = range_of receive.req in
    let l = lies r x _ allowed in
    let long : length (replicate {A = Option ℕ} receive.req.len None) ≡ x.len = length-replicate receive.req.len None in
    record {
      regions = record {
        count_is = g.regions.count_is ∙ sym (areas_stay r.areas x.region.0 x.at _);
        size_is = λ region. g.regions.size_is region ∙ sym (as_long r.areas x l.0 _ l.1 long l.2 region);
        home_is = λ region place. elim (is_place_of receive.req region place) as (λ b. is_place_of receive.req region place ≡ b → cond b None (v.home region place) ≡ get_or (cells_at region (laid_in x.region.0 x.at (replicate receive.req.len None) r.areas)) place None) [
          | true ↦ λ is. (let at = in_range receive.req region place is in sym (place_in r.areas x l.0 _ l.1 long l.2 region place at.0 at.1 at.2 ∙ get_out receive.req.len (place - x.at)))
          | false ↦ λ is. g.regions.home_is region place ∙ sym (place_out r.areas x l.0 _ l.1 long l.2 region place (out_of_range receive.req region place is))
        ] refl;
      };
      leases = λ recv.
          map.get-insert nat_cmp_total r.leased receive.number x recv
          ∙ ap (λ b. cond b (Some x) (map.get r.leased recv)) (unsigned_tied recv receive.number)
          ∙ elim (recv == receive.number) as (λ b. (recv == receive.number) ≡ b → cond b (Some x) (map.get r.leased recv) ≡ option_map range_out (find (is_receive recv) (with_live receive v).receives)) [
            | true ↦ λ is. (let same = one_number recv receive.number is in sym (ap (option_map range_out) (found recv same)))
            | false ↦ λ is. g.leases recv ∙ sym (ap (option_map range_out) (find_aside (is_receive recv) v.receives _ (number_differs receive.number recv (λ e. two_numbers recv receive.number is (sym e)))))
          ] refl;
      holds = g.holds;
    }
  where
    live : LiveReceive
    live = record { receive = receive; part = out_with v receive.req; matched = None }

    found : (recv : ℕ) → recv ≡ receive.number → find (is_receive recv) (v.receives ++ live ∷ []) ≡ Some live
    found recv same =
        find_last (is_receive recv) v.receives live (ap (λ n. find (is_receive n) v.receives) same ∙ none)
        ∙ ap (λ b. cond b (Some live) None) (ap (λ n. receive.number == n) same ∙ number_is receive.number)

-- a receive's range comes home
pub back_shows : BackShows
unfolding is_place_of with_back byte_back or_else
back_shows r v live back piece sound g found same long bytes =
    let x = range_of back.receive.req in
    let at_home : map.get r.leased back.receive.number ≡ Some x = g.leases back.receive.number ∙ ap (option_map range_out) found ∙ ap (λ (q : Receive). Some (range_of q.req)) same in
    let l = sound.leased_lie back.receive.number x at_home in
    let len : length (each Some piece.bytes) ≡ x.len = length-map piece.bytes Some ∙ long in
    rw at_home (record {
      regions = record {
        count_is = g.regions.count_is ∙ sym (areas_stay r.areas x.region.0 x.at _);
        size_is = λ region. g.regions.size_is region ∙ sym (as_long r.areas x l.0 _ l.1 len l.2 region);
        home_is = λ region place. elim (is_place_of back.receive.req region place) as (λ b. is_place_of back.receive.req region place ≡ b
            → or_else (option_map (λ (q : LiveReceive). q.part (place - q.receive.req.at)) (cond b (Some back) None)) (v.home region place) ≡ get_or (cells_at region (laid_in x.region.0 x.at (each Some piece.bytes) r.areas)) place None) [
              | true ↦ λ is. (let at = in_range back.receive.req region place is in
                  let low = at.1 in let high = at.2 in
                  let lt : place - x.at < length piece.bytes = omega (arith, long, low, high) in
                  let inside : place - x.at < back.receive.req.len = omega (arith, low, high) in
                  ap Some (bytes (place - x.at) inside) ∙ sym (get_there piece.bytes (place - x.at) lt) ∙ sym (place_in r.areas x l.0 _ l.1 len l.2 region place at.0 low high))
              | false ↦ λ is. g.regions.home_is region place ∙ sym (place_out r.areas x l.0 _ l.1 len l.2 region place (out_of_range back.receive.req region place is))
            ] refl;
      };
      leases = λ recv.
          map.get-remove nat_cmp_total r.leased back.receive.number recv
          ∙ ap (λ b. cond b None (map.get r.leased recv)) (unsigned_tied recv back.receive.number)
          ∙ elim (recv == back.receive.number) as (λ b. (recv == back.receive.number) ≡ b → cond b None (map.get r.leased recv) ≡ option_map range_out (find (is_receive recv) (back_home back v).receives)) [
            | true ↦ λ is. (let e = one_number recv back.receive.number is in sym (ap (option_map range_out) (ap (λ n. find (is_receive n) (back_home back v).receives) e ∙ find_none_left (is_receive back.receive.number) v.receives)))
            | false ↦ λ is. g.leases recv ∙ sym (ap (option_map range_out) (find_left (λ (q : LiveReceive). q.receive.number) back.receive.number recv v.receives (λ e. two_numbers recv back.receive.number is (sym e))))
          ] refl;
      holds = g.holds;
    })
