-- What has entered stays so.
use Rattle.std.proofs.Common.{◌≡◌, ℕ, ◌+◌, ◌-◌, true, List, ◌∷◌, ap}
use Rattle.std.specs.Prelude.{◌&&◌, nat_le, is_some, Option}
use Rattle.std.proofs.lemmas.Bool.{and_parts, and_from}
use Rattle.rdm_lists.specs.Lists.{each_below}
use Rattle.rdm_num.specs.declared.numbers.Life.{Life}
use Rattle.rdm_num.specs.declared.head.Head.{Head}
use Rattle.rdm_model.specs.Deeds.{Deed}
use Rattle.rdm_model.specs.Heard.{heard_head, is_heard, heard_below, has_entered}
use Rattle.rdm_model.proofs.Matches.{heard_still}
use Rattle.rdm_lists.proofs.Options.{some_of}
use Rattle.rdm_lists.proofs.Below.{each_below_more}

-- what was heard of stays so
pub heard_stays : (d : Deed) (before : List Deed) (source : Life) (n : ℕ) → is_heard before source n ≡ true → is_heard (d ∷ before) source n ≡ true
unfolding is_heard
heard_stays d before source n h =
    let r = some_of (heard_head before source n) h in
    ap (λ (o : Option Head). is_some o) (heard_still d before source n r.0 r.1)

-- what has entered stays so
pub entered_still : (first : ℕ) (d : Deed) (before : List Deed) (source : Life) (n : ℕ) → has_entered first before source n ≡ true → has_entered first (d ∷ before) source n ≡ true
unfolding has_entered heard_below
entered_still first d before source n h =
    let a = and_parts (nat_le first n && each_below (λ k. is_heard before source (first + k)) (n - first)) (is_heard before source n) h in
    let b = and_parts (nat_le first n) (each_below (λ k. is_heard before source (first + k)) (n - first)) a.0 in
    and_from (nat_le first n && each_below (λ k. is_heard (d ∷ before) source (first + k)) (n - first)) (is_heard (d ∷ before) source n)
    (and_from (nat_le first n) (each_below (λ k. is_heard (d ∷ before) source (first + k)) (n - first)) b.0
    (each_below_more (λ k. is_heard before source (first + k)) (λ k. is_heard (d ∷ before) source (first + k)) (n - first) (λ k e. heard_stays d before source (first + k) e) b.1))
    (heard_stays d before source n a.1)
