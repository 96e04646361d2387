-- Why ranges are refused, by the regions and by the record.
use Rattle.std.proofs.Common.{◌≡◌, inl, inr, ℕ, ◌+◌, ◌<◌, ◌≤◌, Bool, true, false, cond, List, [], ◌∷◌, length, Option, Some, None, refl, sym, ap, ◌∙◌, arith}
use Rattle.std.specs.Prelude.{◌==◌, ◌&&◌, ◌||◌, nat_le, nat_lt, slice_get, option_map, is_none}
use Rattle.std.specs.List.{list_any}
use Rattle.std.specs.Cmp.{nat_cmp_total}
use Rattle.std.proofs.lemmas.Bool.Decides.{nat_tests}
use Rattle.std.proofs.lemmas.Option.{slice_get_cases}
use Rattle.rdm_lists.specs.Lists.{Member}
use Rattle.rdm_lists.proofs.Members.{list_any_member, member_list_any, find_member, list_any_false}
use Rattle.rdm_lists.proofs.Places.{member_at, slice_get-member}
use Rattle.rdm_lists.proofs.Same.{list_any_same}
use Rattle.rdm_num.specs.Pieces.{overlaps}
use Rattle.rdm_num.specs.declared.parts.Span.{Span}
use Rattle.rdm_regions.specs.Ranges.{hold_key, meets, meets_one}
use Rattle.rdm_regions.specs.Registry.{Registry, Area, refusal_in}
use Rattle.rdm_regions.specs.Holds.{refusal_of, lacks_region, passes_end, passes_end_of}
use Rattle.rdm_regions.specs.declared.refused.RegionRefused.TheVariants.{Range, Busy}
use Rattle.rdm_regions.proofs.Entries.{by_key}
use Rattle.rdm_model.specs.Answers.{has_no_region, is_out_of_range}
use Rattle.rdm_life.specs.Kept.{Kept, LiveSend, is_send, is_receive}
use Rattle.rdm_life.specs.Facts.{facts_in, meets_receive_in, meets_send_in}
use Rattle.rdm_shown.specs.Grounds.{IsGround, AreFound, range_out, part_of}
use Rattle.rdm_shown.specs.GroundLaws.{HoldRefusals, LeaseRefusals}
use Rattle.rdm_shown.proofs.Areas.{cells_are}
use Rattle.rdm_shown.proofs.Values.{any_value, value_any, same_test}

-- ranges of one region that share a place, either way round
meets_req : (x : Span) (region at len : ℕ) → meets x (record { region = record { 0 = region }; at = at; len = len }) ≡ ((region == x.region.0) && overlaps x.at x.len at len)
unfolding meets
meets_req x region at len = ap (λ b. b && overlaps x.at x.len at len) (turned x.region.0 region)
  where
    turned : (a b : ℕ) → (a == b) ≡ (b == a)
    turned a b = same_test (a == b) (b == a) (λ h. grind (arith, h)) (λ h. grind (arith, h))

some_same : {A : Type 0} (a b : A) → Some a ≡ Some b → a ≡ b
some_same a b h = cc

-- what is found of an option that is mapped
mapped : {A B : Type 0} (f : A → B) (o : Option A) (y : B) → option_map f o ≡ Some y → (x : A) × (o ≡ Some x) × (f x ≡ y)
mapped f None y h = absurd (no_some h)
  where
    no_some : None ≡ Some y → ⊥
    no_some e = cc
mapped f (Some x) y h = (x, refl, some_same (f x) y h)

-- a range meets a leased one exactly where it meets that of a live receive
pub leased_meets : (r : Registry) (v : Kept) (x : Span) → IsGround r v → AreFound v → meets_one x r.leased ≡ meets_receive_in v x.region.0 x.at x.len
unfolding meets_receive_in
leased_meets r v x g found =
    same_test _ _
    (λ h.
    let a = any_value nat_cmp_total (meets x) r.leased h in
    let l = mapped range_out _ a.1 (sym (g.leases a.0) ∙ a.2) in
    member_list_any _ l.0 v.receives (find_member (is_receive a.0) l.0 v.receives l.1).0 (sym (meets_req x l.0.receive.req.region.0 l.0.receive.req.at l.0.receive.req.len) ∙ ap (meets x) l.2 ∙ a.3))
    (λ h.
    let a = list_any_member _ v.receives h in
    let there = g.leases a.0.receive.number ∙ ap (option_map range_out) (found.receives a.0 a.1) in
    value_any nat_cmp_total (meets x) r.leased a.0.receive.number (range_out a.0) there (meets_req x a.0.receive.req.region.0 a.0.receive.req.at a.0.receive.req.len ∙ a.2))

-- a part of a send that is found
part_at : (o : Option LiveSend) (part : ℕ) (y : Span) → part_of o part ≡ Some y → (s : LiveSend) × (o ≡ Some s) × (slice_get s.sent.req.parts part ≡ Some y)
unfolding part_of
part_at None part y h = absurd (no_some h)
  where
    no_some : None ≡ Some y → ⊥
    no_some e = cc
part_at (Some s) part y h = (s, refl, h)

-- a range meets a held one exactly where it meets one of a live send
pub held_meets : (r : Registry) (v : Kept) (x : Span) → IsGround r v → AreFound v → meets_one x r.held ≡ meets_send_in v x.region.0 x.at x.len
unfolding meets_send_in part_of
held_meets r v x g found =
    same_test _ _
    (λ h.
    let a = any_value by_key.total (meets x) r.held h in
    let s = part_at _ a.0.part a.1 (sym (g.holds a.0.send a.0.part) ∙ a.2) in
    member_list_any _ s.0 v.sends (find_member (is_send a.0.send) s.0 v.sends s.1).0
    (member_list_any _ a.1 s.0.sent.req.parts (slice_get-member s.0.sent.req.parts a.0.part a.1 s.2) (sym (meets_req x a.1.region.0 a.1.at a.1.len) ∙ a.3)))
    (λ h.
    let a = list_any_member _ v.sends h in
    let p = list_any_member _ a.0.sent.req.parts a.2 in
    let n = member_at p.0 a.0.sent.req.parts p.1 in
    let there = g.holds a.0.sent.number n.0 ∙ ap (λ o. part_of o n.0) (found.sends a.0 a.1) ∙ n.1 in
    value_any by_key.total (meets x) r.held (hold_key a.0.sent.number n.0) p.0 there (meets_req x p.0.region.0 p.0.at p.0.len ∙ p.2))

-- there is no region of the number, or there is one and it is as long
module _ (r : Registry) (v : Kept) (g : IsGround r v) where
  no_region : (region : ℕ) → is_none (slice_get r.areas region) ≡ has_no_region (facts_in v) region
  unfolding has_no_region
  no_region region =
      elim (slice_get_cases r.areas region).1 [
        | inl there ↦ ap is_none there.2 ∙ sym (some there.1)
        | inr past ↦ ap is_none past.1 ∙ sym (none past.0)
      ]
    where
      some : region < length r.areas → nat_le v.region_count region ≡ false
      some lt = let c = g.regions.count_is in grind (arith, nat_tests, c, lt)

      none : length r.areas ≤ region → nat_le v.region_count region ≡ true
      none le = let c = g.regions.count_is in grind (arith, nat_tests, c, le)

  -- the range passes the end of its region, where there is the region
  past_end : (x : Span) (area : Area) → slice_get r.areas x.region.0 ≡ Some area → nat_lt (length area.cells) (x.at + x.len) ≡ is_out_of_range (facts_in v) x.region.0 x.at x.len
  unfolding is_out_of_range
  past_end x area is = ap (λ n. nat_lt n (x.at + x.len)) (sym (g.regions.size_is x.region.0 ∙ ap length (cells_are r.areas x.region.0 area is)))

  -- one range
  by_region : (x : Span) (busy : Bool) → refusal_in (slice_get r.areas x.region.0) x busy ≡ refusal_of (has_no_region (facts_in v) x.region.0) (is_out_of_range (facts_in v) x.region.0 x.at x.len) busy
  unfolding refusal_in
  by_region x busy =
      elim (slice_get_cases r.areas x.region.0).1 [
        | inl there ↦
            ap (λ o. refusal_in o x busy) there.2
            ∙ ap (λ b. cond b (Some Range) (cond busy (Some Busy) None)) (past_end x there.0 there.2)
            ∙ ap (λ b. refusal_of b (is_out_of_range (facts_in v) x.region.0 x.at x.len) busy) (sym (ap is_none there.2) ∙ no_region x.region.0)
        | inr past ↦
            ap (λ o. refusal_in o x busy) past.1
            ∙ ap (λ b. refusal_of b (is_out_of_range (facts_in v) x.region.0 x.at x.len) busy) (sym (ap is_none past.1) ∙ no_region x.region.0)
      ]

-- a receive's range
pub lease_refusals : LeaseRefusals
lease_refusals r v x g found =
    by_region r v g x (meets_one x r.leased || meets_one x r.held)
    ∙ ap (refusal_of (has_no_region (facts_in v) x.region.0) (is_out_of_range (facts_in v) x.region.0 x.at x.len)) (λ i. leased_meets r v x g found i || held_meets r v x g found i)

-- where none is of no region, each passes the end of its region where the facts say so
pub hold_refusals : HoldRefusals
hold_refusals r v parts g found =
    let lacks : list_any (lacks_region r) parts ≡ list_any (λ (p : Span). has_no_region (facts_in v) p.region.0) parts = list_any_same _ _ parts (λ p. no_region r v g p.region.0) in
    let busy : list_any (λ (p : Span). meets_one p r.leased) parts ≡ list_any (λ (p : Span). meets_receive_in v p.region.0 p.at p.len) parts = list_any_same _ _ parts (λ p. leased_meets r v p g found) in
    ap (λ b. refusal_of (list_any (lacks_region r) parts) (list_any (passes_end r) parts) b) busy
    ∙ elim (list_any (lacks_region r) parts) as (λ b. list_any (lacks_region r) parts ≡ b
    → refusal_of b (list_any (passes_end r) parts) (list_any (λ (p : Span). meets_receive_in v p.region.0 p.at p.len) parts)
    ≡ refusal_of b (list_any (λ (p : Span). is_out_of_range (facts_in v) p.region.0 p.at p.len) parts) (list_any (λ (p : Span). meets_receive_in v p.region.0 p.at p.len) parts)) [
      | true ↦ λ is. refl
      | false ↦ λ is. ap (λ b. refusal_of false b (list_any (λ (p : Span). meets_receive_in v p.region.0 p.at p.len) parts)) (any_where _ _ parts (λ p m. passes p (list_any_false (lacks_region r) parts is p m)))
    ] refl
    ∙ ap (λ b. refusal_of b (list_any (λ (p : Span). is_out_of_range (facts_in v) p.region.0 p.at p.len) parts) (list_any (λ (p : Span). meets_receive_in v p.region.0 p.at p.len) parts)) lacks
  where
    any_where : {A : Type 0} (p q : A → Bool) (xs : List A) → ((x : A) → Member x xs → p x ≡ q x) → list_any p xs ≡ list_any q xs
    any_where p q [] h = refl
    any_where p q (x ∷ xs) h = λ i. h x (inl refl) i || any_where p q xs (λ y m. h y (inr m)) i

    passes : (p : Span) → lacks_region r p ≡ false → passes_end r p ≡ is_out_of_range (facts_in v) p.region.0 p.at p.len
    passes p there =
        elim (slice_get_cases r.areas p.region.0).1 [
          | inl area ↦ ap (λ o. passes_end_of o p) area.2 ∙ past_end r v g p area.0 area.2
          | inr past ↦ absurd (no (sym there ∙ ap is_none past.1))
        ]
      where
        no : false ≡ true → ⊥
        no e = cc
