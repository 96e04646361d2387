-- Deeds that bring the matcher nothing, and tell of no message.
use Rattle.std.proofs.Common.{◌≡◌, ℕ, ◌+◌, ◌-◌, not, ◌&&◌, List, [], ◌∷◌, map, length, Option, None, ◌∙◌, ap, append-nil}
use Rattle.std.specs.Prelude.{is_some}
use Rattle.rdm_lists.specs.Lists.{or_else, below}
use Rattle.rdm_lists.proofs.Below.{each_below_same}
use Rattle.rdm_lists.proofs.Filters.{filter_nothing}
use Rattle.rdm_lists.proofs.Options.{or_else-none}
use Rattle.rdm_num.specs.declared.numbers.Life.{Life}
use Rattle.rdm_num.specs.declared.head.Head.{Head}
use Rattle.rdm_match.specs.Matcher.{Event, run}
use Rattle.rdm_model.specs.Beginnings.{Own}
use Rattle.rdm_model.specs.Deeds.{Deed}
use Rattle.rdm_model.specs.Heard.{heard_head, head_by, is_heard, heard_below, has_entered, is_next_message, entering}
use Rattle.rdm_life.specs.Keeps.{own_matching, own_pairs}
use Rattle.rdm_life.proofs.Made.{lists_before}
use Rattle.rdm_life.proofs.Pairs.{own_events, matching_after, ahead}
use Rattle.rdm_law.proofs.Refusals.StandsStill.{and_not}

-- what stays of messages where a deed tells of none
pub record Tells (before : List Deed) (d : Deed) : Type 0 where
  pub heads : (life : Life) (n : ℕ) → head_by life n d ≡ None

-- what was heard of
pub still_head : (before : List Deed) (d : Deed) (life : Life) (n : ℕ) → head_by life n d ≡ None → heard_head (d ∷ before) life n ≡ heard_head before life n
unfolding heard_head
still_head before d life n none = ap (λ (o : Option Head). or_else (heard_head before life n) o) none ∙ or_else-none (heard_head before life n)

-- whether it was
pub still_heard : (before : List Deed) (d : Deed) (life : Life) (n : ℕ) → head_by life n d ≡ None → is_heard (d ∷ before) life n ≡ is_heard before life n
unfolding is_heard
still_heard before d life n none = ap is_some (still_head before d life n none)

-- none enters of a life of whose messages the same were heard
pub none_enter : (first : ℕ) (d : Deed) (before : List Deed) (source : Life) → ((n : ℕ) → is_heard (d ∷ before) source n ≡ is_heard before source n) → entering first d before source ≡ []
unfolding entering has_entered heard_below
none_enter first d before source same =
    filter_nothing (λ n. has_entered first (d ∷ before) source n && not (has_entered first before source n)) (map (λ k. first + k) (below (length (d ∷ before))))
    (λ n m.
    let a = same n in
    let b = each_below_same (λ k. is_heard (d ∷ before) source (first + k)) (λ k. is_heard before source (first + k)) (n - first) (λ k. same (first + k)) in
    rw (a, b) (and_not (has_entered first before source n)))

-- the next number of such a life
pub still_next : (first : ℕ) (d : Deed) (before : List Deed) (source : Life) (next : ℕ) → ((n : ℕ) → is_heard (d ∷ before) source n ≡ is_heard before source n)
    → is_next_message first (d ∷ before) source next ≡ is_next_message first before source next
unfolding is_next_message heard_below
still_next first d before source next same =
    let a = same next in
    let b = each_below_same (λ k. is_heard (d ∷ before) source (first + k)) (λ k. is_heard before source (first + k)) (next - first) (λ k. same (first + k)) in
    rw (a, b)

-- the matcher, where nothing comes to it
pub still_matching : (own : Own) (d : Deed) (before : List Deed) → own_events own d before ≡ [] → own_matching own (d ∷ before) ≡ own_matching own before
unfolding run
still_matching own d before none =
    matching_after own d before ∙ ap (λ (es : List Event). ahead (own_pairs own before) (run (lists_before own before) es)) none
    ∙ ap (λ (ps : List _). record (own_matching own before) { pairs = ps }) (append-nil (own_pairs own before))
