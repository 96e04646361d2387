-- A split and a join keep the rule of the table; so it begins, and this is what it says at the end.
use Rattle.std.proofs.Common.{◌≡◌, ◌⊎◌, ⊎_elim, inl, inr, ℕ, ◌<◌, List, [], ◌∷◌, ◌++◌, map, length, replicate, set, refl, sym, ap, ap₂, ◌∙◌, subst, arith, Option, Some}
use Rattle.std.proofs.lemmas.List.{length-map, length-replicate}
use mathlib.Core.Logic.{dite}
use mathlib.Core.Option.{some, some-injective, some-ne-none}
use mathlib.Core.Option as maybe
use native.Mathlib.Decide.{ℕ_discrete}
use lib.ListN.{get_elem?}
use Rattle.atomic_table.specs.Table.{State, Splits, Joins, opening, Seen, Final}
use Rattle.atomic_table.proofs.Lists.{at_map}
use Rattle.rdm_turn.specs.declared.rule.Stand.{Stand}
use Rattle.rdm_turn.specs.declared.rule.Hand.{Hand}
use Rattle.rdm_turn.specs.declared.rule.Hand.TheVariants.{Nothing}
use Rattle.rdm_turn.specs.Knowing.{Stage, not_mine, stand, says}
use Rattle.rdm_turn.specs.Turning.{HasNone, NobodyHas, OneHas, IsAsSaid, IsFree, IsTaken, Turning}
use Rattle.rdm_turn.specs.Telling.{one_fewer, newcomer, joined, spent}
use Rattle.rdm_turn.specs.Slots.{EachFits}
use Rattle.rdm_turn.proofs.Values.{slot_fits, zeros}
use Rattle.rdm_turn.proofs.Views.{total_set, total_snoc, two_of, each_set, each_snoc, nobody_set, alone_set, nobody_snoc, alone_snoc}

-- a view that took no place and has none in hand has no place
has_none : (v : Stand) → v.taken ≡ [] → v.hand ≡ Nothing → HasNone v
has_none v none_taken at_rest i = ap₂ (λ (h : Hand) (places : List ℕ). says (stand v.parts places h) i) at_rest none_taken

module _ {V : Type 0} (fits : V → ℕ → Type 0) (seats : ℕ) where
  abbrev St : Type 0
  St = State (Option V) Stand

  -- the table with other views
  abbrev viewed : St → List Stand → St
  viewed s views = record { words = s.words; homes = s.homes; views = views }

  -- a place is free or taken as it was, where the other views say the same of it
  likewise : (s : St) (views : List Stand) (i : ℕ) → (NobodyHas s.views i → NobodyHas views i) → ((seat : ℕ) (stage : Stage) → OneHas s.views i seat stage → OneHas views i seat stage)
      → IsFree fits s i ⊎ IsTaken fits s i → IsFree fits (viewed s views) i ⊎ IsTaken fits (viewed s views) i
  likewise s views i nobody alone =
      ⊎_elim
      (λ (free : IsFree fits s i). inl record { word = free.word; nobody = nobody free.nobody; slot = free.slot })
      (λ (taken : IsTaken fits s i). inr record { word = taken.word; seat = taken.seat; stage = taken.stage; alone = alone taken.seat taken.stage taken.alone; slot = taken.slot })

  -- a seat with two parts or more gives one of them to a new seat
  pub splits : (id : ℕ) (v : Stand) → 1 < v.parts → Splits (Turning fits seats) id v (one_fewer v) newcomer
  splits id v two s r at =
      let left = one_fewer v in
      let views = set s.views id left in record {
        sized = r.sized;
        places = λ i near. likewise s (views ++ newcomer ∷ []) i
            (λ nobody. nobody_snoc views i newcomer refl (nobody_set s.views i id left (nobody id v at) nobody))
            (λ seat stage alone. alone_snoc views i newcomer seat stage refl (alone_set s.views i id v left seat stage at refl alone))
            (r.places i near);
        parts = let t = total_set s.views id v left at in let u = total_snoc views newcomer in let p = r.parts in omega arith;
        idle = each_snoc views newcomer (λ _ u. u.parts ≡ 0 → HasNone u) (λ _ no_part. absurd (omega arith))
            (each_set s.views id left (λ _ u. u.parts ≡ 0 → HasNone u) (λ no_part. absurd (omega arith)) (λ j u _ old. r.idle j u old));
      }

  -- a seat takes in the parts of another, which has no place
  pub joins : (id : ℕ) (v : Stand) (other : ℕ) (w : Stand) → 0 < v.parts → w.taken ≡ [] → w.hand ≡ Nothing → Joins (Turning fits seats) id v other w (joined v w) spent
  joins id v other w some_part none_taken at_rest s r at apart at_other =
      let both = joined v w in
      let views = set s.views id both in record {
        sized = r.sized;
        places = λ i near. likewise s (set views other spent) i
            (λ nobody. nobody_set views i other spent refl (nobody_set s.views i id both (nobody id v at) nobody))
            (λ seat stage alone. alone_set views i other w spent seat stage at_other (sym (has_none w none_taken at_rest i)) (alone_set s.views i id v both seat stage at refl alone))
            (r.places i near);
        parts = let t = total_set s.views id v both at in let u = total_set views other w spent at_other in let p = r.parts in omega arith;
        idle = each_set views other spent (λ _ u. u.parts ≡ 0 → HasNone u) (λ _ i. refl)
            (λ j u _. each_set s.views id both (λ _ u. u.parts ≡ 0 → HasNone u) (λ no_part. absurd (omega arith)) (λ j u _ old. r.idle j u old) j u);
      }

  -- the table begins with each place free, and one seat that has all parts
  pub starts : (values : List V) → 0 < seats → EachFits fits values → Turning fits seats (opening (replicate (length values) 0) (map Some values) (stand seats [] Nothing))
  starts values some_part each =
      let first = stand seats [] Nothing in
      let long = length-map (map Some values) some ∙ length-map values Some in record {
        sized = length-replicate (length values) 0 ∙ sym long;
        places = λ i near. let x = slot_fits fits values each i (omega arith) in inl record {
          word = zeros (length values) i;
          nobody = each_snoc [] first (λ _ u. says u i ≡ not_mine) (λ _. refl) (λ j u at. absurd (some-ne-none u (sym at)));
          slot = (x.0, at_map some (map Some values) i (Some x.0) x.1, x.2);
        };
        parts = omega arith;
        idle = each_snoc [] first (λ _ u. u.parts ≡ 0 → HasNone u) (λ _ no_part. absurd (omega arith)) (λ j u at. absurd (some-ne-none u (sym at)));
      }

  -- where one seat has all parts and no place, no seat has a place
  none_has : (s : St) (r : Turning fits seats s) (id : ℕ) (v : Stand) → get_elem? s.views id ≡ some v → v.parts ≡ seats → HasNone v → (j : ℕ) (u : Stand) → get_elem? s.views j ≡ some u → HasNone u
  none_has s r id v at all none j u at_other =
      dite (ℕ_discrete id j)
      (λ e. let is : v ≡ u = some-injective v u (sym at ∙ (ap (get_elem? s.views) e ∙ at_other)) in subst HasNone is none)
      (λ ne. r.idle j u at_other (let le = two_of s.views id j v u ne at at_other in let p = r.parts in omega arith))

  -- a view that does not have a place says nothing of its slot
  not_said : (homes : List (maybe.Option (Option V))) (i : ℕ) (stage : Stage) → stage ≡ not_mine → IsAsSaid fits homes i stage → ⊥
  not_said homes i stage is slot = subst (IsAsSaid fits homes i) is slot

  -- the table ends with a value that fits in each slot, where a seat has all parts and no place
  pub ends : (words : List ℕ) (slots : List (Option V)) (id : ℕ) (v : Stand) → v.parts ≡ seats → v.taken ≡ [] → v.hand ≡ Nothing → Final (Seen (Turning fits seats) id v) words slots
      → (i : ℕ) → i < length slots → (x : V) × (get_elem? slots i ≡ some (Some x)) × fits x i
  ends words slots id v all none_taken at_rest last i near =
      let s = last.0 in let r = last.1.0 in
      ⊎_elim
      (λ (free : IsFree fits s i). (free.slot.0, last.4 i (Some free.slot.0) free.slot.1, free.slot.2))
      (λ (taken : IsTaken fits s i).
      let one = taken.alone in
      absurd (not_said s.homes i taken.stage (sym one.own ∙ none_has s r id v last.1.1 all (has_none v none_taken at_rest) taken.seat one.view one.there i) taken.slot))
      (r.places i (let long = last.3 in omega arith))
