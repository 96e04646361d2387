-- What is registered, held and named shows of the record.
use Rattle.std.proofs.Common.{◌≡◌, inl, inr, ℕ, ◌+◌, ◌<◌, ◌≤◌, true, false, not, cond, List, [], ◌∷◌, ◌++◌, length, map as each, filter, find, get_or, Option, Some, None, refl, sym, ap, ◌∙◌, arith}
use Rattle.std.specs.Prelude.{◌==◌, slice_get, option_map}
use Rattle.std.specs.Ordering.{nat_cmp}
use Rattle.std.specs.FinMap as map
use Rattle.std.proofs.lemmas.List.{length-append, length-map}
use Rattle.std.proofs.lemmas.Option.{slice_get_past}
use Rattle.std.proofs.lemmas.Bool.{cases_lt}
use Rattle.rdm_num.specs.declared.parts.Span.{Span}
use Rattle.rdm_regions.specs.declared.key.HoldKey.{HoldKey}
use Rattle.rdm_regions.specs.Ranges.{hold_key, key_cmp}
use Rattle.rdm_regions.specs.Registry.{cells_at}
use Rattle.rdm_regions.specs.Holds.{with_holds, without_holds}
use Rattle.rdm_regions.proofs.Several.{get_all, get_but, each_is_held, none_is_held}
use Rattle.rdm_life.specs.Kept.{LiveSend, is_send, is_receive}
use Rattle.rdm_shown.specs.Grounds.{range_out, part_of}
use Rattle.rdm_shown.specs.GroundLaws.{NothingShows, RegShows, HoldShows, DropShows, NamesCount}
use Rattle.rdm_shown.proofs.Areas.{cells_new, cells_old, get_some}
use Rattle.rdm_shown.proofs.Finding.{find_last, find_aside, find_none_left, find_left, find_named}

-- numbers that agree are one, and others differ
pub one_number : (a b : ℕ) → (a == b) ≡ true → a ≡ b
one_number a b h = grind (arith, h)

pub two_numbers : (a b : ℕ) → (a == b) ≡ false → a ≡ b → ⊥
two_numbers a b h = grind (arith, h)

pub number_differs : (a b : ℕ) → (a ≡ b → ⊥) → (a == b) ≡ false
number_differs a b h = grind (arith, h)

pub number_is : (a : ℕ) → (a == a) ≡ true
number_is a = grind arith

-- before any deed
pub nothing_shows : NothingShows
unfolding part_of
nothing_shows own =
    record {
      regions = record { count_is = refl; size_is = λ region. refl; home_is = λ region place. refl };
      leases = λ recv. map.get-empty nat_cmp recv;
      holds = λ send part. map.get-empty key_cmp (hold_key send part);
    }

-- one more region
pub reg_shows : RegShows
reg_shows r v block bytes g =
    let count = g.regions.count_is in
    record {
      regions = record {
        count_is = (let l = length-append r.areas (record { block = block; cells = each Some bytes } ∷ []) in omega (arith, l, count));
        size_is = λ region. elim (region == v.region_count) as (λ b. (region == v.region_count) ≡ b → cond b (length bytes) (v.region_size region) ≡ length (cells_at region (r.areas ++ record { block = block; cells = each Some bytes } ∷ []))) [
          | true ↦ λ is. sym (ap length (ap (λ n. cells_at n (r.areas ++ record { block = block; cells = each Some bytes } ∷ [])) (one_number region v.region_count is ∙ count) ∙ cells_new r.areas _) ∙ length-map bytes Some)
          | false ↦ λ is. g.regions.size_is region ∙ sym (ap length (cells_old r.areas _ region (λ e. two_numbers region v.region_count is (e ∙ sym count))))
        ] refl;
        home_is = λ region place. elim (region == v.region_count) as (λ b. (region == v.region_count) ≡ b → cond b (slice_get bytes place) (v.home region place) ≡ get_or (cells_at region (r.areas ++ record { block = block; cells = each Some bytes } ∷ [])) place None) [
          | true ↦ λ is. sym (ap (λ cells. get_or cells place None) (ap (λ n. cells_at n (r.areas ++ record { block = block; cells = each Some bytes } ∷ [])) (one_number region v.region_count is ∙ count) ∙ cells_new r.areas _) ∙ get_some bytes place)
          | false ↦ λ is. g.regions.home_is region place ∙ sym (ap (λ cells. get_or cells place None) (cells_old r.areas _ region (λ e. two_numbers region v.region_count is (e ∙ sym count))))
        ] refl;
      };
      leases = g.leases;
      holds = g.holds;
    }

-- the parts of a send by its name
part_named : (o : Option LiveSend) (q : Option LiveSend) (part : ℕ) → option_map (λ (s : LiveSend). s.sent) o ≡ option_map (λ (s : LiveSend). s.sent) q → part_of o part ≡ part_of q part
unfolding part_of
part_named None None part h = refl
part_named None (Some q) part h = absurd (differ h)
  where
    differ : None ≡ Some q.sent → ⊥
    differ e = cc
part_named (Some s) None part h = absurd (differ h)
  where
    differ : Some s.sent ≡ None → ⊥
    differ e = cc
part_named (Some s) (Some q) part h = let e : s.sent ≡ q.sent = same h in rw e refl
  where
    same : Some s.sent ≡ Some q.sent → s.sent ≡ q.sent
    same e = cc

-- names alone count
pub names_count : NamesCount
names_count r v g = (
  λ test change same. record {
    regions = g.regions;
    leases = λ recv. g.leases recv ∙ sym (find_named range_out (is_receive recv) test change v.receives (λ l. rw (same l) refl) (λ l. rw (same l) refl));
    holds = g.holds;
  },
  λ test change same. record {
    regions = g.regions;
    leases = g.leases;
    holds = λ send part. g.holds send part ∙ sym (part_named _ _ part (find_named (λ (s : LiveSend). s.sent) (is_send send) test change v.sends (λ s. same s) (λ s. rw (same s) refl)));
  },
)

-- no part past the last
part_past : (parts : List Span) (part : ℕ) → length parts ≤ part → slice_get parts part ≡ None
part_past parts part le = slice_get_past parts part le

-- one more send holds its ranges
pub hold_shows : HoldShows
unfolding part_of
hold_shows r v s g none =
    record {
      regions = record { count_is = g.regions.count_is; size_is = g.regions.size_is; home_is = g.regions.home_is };
      leases = g.leases;
      holds = λ send part. elim (s.sent.number == send) as (λ b. (s.sent.number == send) ≡ b → map.get (with_holds r s.sent.number s.sent.req.parts).held (hold_key send part) ≡ part_of (find (is_send send) (v.sends ++ s ∷ [])) part) [
        | true ↦ λ is. (let same = one_number s.sent.number send is in own send part same is)
        | false ↦ λ is. (let other = two_numbers s.sent.number send is in
            get_all r.held s.sent.number 0 s.sent.req.parts (hold_key send part) (λ i lt e. other (sym (ap (λ (k : HoldKey). k.send) e)))
            ∙ g.holds send part ∙ ap (λ o. part_of o part) (sym (find_aside (is_send send) v.sends s is)))
      ] refl;
    }
  where
    own : (send part : ℕ) → s.sent.number ≡ send → (s.sent.number == send) ≡ true → map.get (with_holds r s.sent.number s.sent.req.parts).held (hold_key send part) ≡ part_of (find (is_send send) (v.sends ++ s ∷ [])) part
    own send part same is =
        let before : find (is_send send) v.sends ≡ None = ap (λ n. find (is_send n) v.sends) (sym same) ∙ none in
        let found : find (is_send send) (v.sends ++ s ∷ []) ≡ Some s = find_last (is_send send) v.sends s before ∙ ap (λ b. cond b (Some s) None) is in
        let right : part_of (find (is_send send) (v.sends ++ s ∷ [])) part ≡ slice_get s.sent.req.parts part = ap (λ o. part_of o part) found in
        elim (cases_lt part (length s.sent.req.parts)) [
          | inl lt ↦ ap (λ n. map.get (with_holds r s.sent.number s.sent.req.parts).held (hold_key n part)) (sym same) ∙ each_is_held r s.sent.number s.sent.req.parts part lt ∙ sym right
          | inr le ↦
              get_all r.held s.sent.number 0 s.sent.req.parts (hold_key send part) (λ i lt e. not_part i lt (ap (λ (k : HoldKey). k.part) e) le)
              ∙ g.holds send part ∙ ap (λ o. part_of o part) before ∙ sym (right ∙ part_past s.sent.req.parts part le)
        ]
      where
        not_part : (i : ℕ) → i < length s.sent.req.parts → part ≡ 0 + i → length s.sent.req.parts ≤ part → ⊥
        not_part i lt e le = omega arith

-- a send that is over holds nothing
pub drop_shows : DropShows
unfolding part_of
drop_shows r v number g few =
    record {
      regions = record { count_is = g.regions.count_is; size_is = g.regions.size_is; home_is = g.regions.home_is };
      leases = g.leases;
      holds = λ send part. elim (send == number) as (λ b. (send == number) ≡ b → map.get (without_holds r number 4).held (hold_key send part) ≡ part_of (find (is_send send) (filter (λ (s : LiveSend). not (is_send number s)) v.sends)) part) [
        | true ↦ λ is. own send part (one_number send number is)
        | false ↦ λ is. (let other = two_numbers send number is in
            get_but r.held number 4 (hold_key send part) (λ i lt e. other (ap (λ (k : HoldKey). k.send) e))
            ∙ g.holds send part ∙ ap (λ o. part_of o part) (sym (find_left (λ (s : LiveSend). s.sent.number) number send v.sends (λ e. other (sym e)))))
      ] refl;
    }
  where
    past : (o : Option LiveSend) (part : ℕ) → find (is_send number) v.sends ≡ o → 4 ≤ part → part_of o part ≡ None
    past None part is le = refl
    past (Some s) part is le = let n = few s is in part_past s.sent.req.parts part (omega (arith, n, le))

    own : (send part : ℕ) → send ≡ number → map.get (without_holds r number 4).held (hold_key send part) ≡ part_of (find (is_send send) (filter (λ (s : LiveSend). not (is_send number s)) v.sends)) part
    own send part same =
        let gone : part_of (find (is_send send) (filter (λ (s : LiveSend). not (is_send number s)) v.sends)) part ≡ None =
        ap (λ n. part_of (find (is_send n) (filter (λ (s : LiveSend). not (is_send number s)) v.sends)) part) same ∙ ap (λ o. part_of o part) (find_none_left (is_send number) v.sends) in
        ap (λ n. map.get (without_holds r number 4).held (hold_key n part)) same
        ∙ elim (cases_lt part 4) [
          | inl lt ↦ none_is_held r number part lt
          | inr le ↦ get_but r.held number 4 (hold_key number part) (λ i lt e. not_part i lt (ap (λ (k : HoldKey). k.part) e) le) ∙ g.holds number part ∙ past _ part refl le
        ]
        ∙ sym gone
      where
        not_part : (i : ℕ) → i < 4 → part ≡ i → 4 ≤ part → ⊥
        not_part i lt e le = omega arith
