-- The numbers that enter by what is taken, as they follow from what is kept.
use Rattle.std.proofs.Common.{◌≡◌, ℕ, ◌+◌, ◌-◌, Bool, true, false, cond, List, [], ◌∷◌, map, Option, None, refl, sym, ◌∙◌, ap}
use Rattle.rdm_lists.specs.Lists.{below}
use Rattle.rdm_num.specs.declared.numbers.Life.{Life}
use Rattle.rdm_num.specs.declared.numbers.MsgNo.{MsgNo}
use Rattle.rdm_hdr.specs.declared.Opt.{Opt}
use Rattle.rdm_pkt.specs.declared.Packet.TheVariants.{Rtm, Cts, CtsData, Eor, Handshake, Receipt}
use Rattle.rdm_pkt.specs.declared.Form.{Form}
use Rattle.rdm_pkt.specs.Heads.{head_of}
use Rattle.rdm_model.specs.Beginnings.{Own}
use Rattle.rdm_model.specs.Currents.{is_forgotten}
use Rattle.rdm_model.specs.Deeds.{Deed, Took, Item, Spelled, Asks, Gives, Garbled}
use Rattle.rdm_model.specs.Heard.{head_by, is_heard, entering}
use Rattle.rdm_law.proofs.Matching.Enters.{reach}
use Rattle.rdm_life.specs.Kept.{Kept}
use Rattle.rdm_life.specs.Keeps.{KeepsMatching}
use Rattle.rdm_life.specs.Receiving.{numbers_in, hear}
use Rattle.rdm_life.specs.Handling.{opened_by}
use Rattle.rdm_life.specs.Facts.{entered_in}
use Rattle.rdm_life.proofs.EnteringRow.{next_is_reach, entering_row}
use Rattle.rdm_life.proofs.Entered.{lists_are}
use Rattle.rdm_life.proofs.NewMessage.{Facing, enters_count}
use Rattle.rdm_life.proofs.NewEntered.{next_here}
use Rattle.rdm_life.proofs.MatchingQuiet.{still_heard, none_enter}
use Rattle.rdm_life.proofs.MatchingStep.{same_heard}

-- what is known of a life of which something is taken
faced : (own : Own) (log : List Deed) (v : Kept) (from : Life) → is_forgotten log from ≡ false → KeepsMatching own log v → Facing own log v from
faced own log v from kept k =
    record {
      lists = lists_are own log v k;
      heard = k.heard_is from kept;
      next = k.next_is from kept;
      early = k.early_is from kept;
      count = k.early_count_is;
      kept = kept;
    }

-- an item that tells of no message lets none enter
silent_enters : (own : Own) (log : List Deed) (from : Life) (item : Item) → ((n : ℕ) → head_by from n (Took from item) ≡ None) → [] ≡ entering own.limits.first (Took from item) log from
silent_enters own log from item silent = sym (none_enter own.limits.first (Took from item) log from (λ n. still_heard log (Took from item) from n (silent n)))

-- the numbers that a new message lets enter
new_enters : (own : Own) (log : List Deed) (v : Kept) (from : Life) (number : MsgNo) (tag : Option ℕ) (confirm : Bool) (opt : Opt) (form : Form) → Facing own log v from
    → numbers_in (hear from number.0 (opened_by (head_of tag confirm opt form) form) v) from ≡ entering own.limits.first (Took from (Spelled (Rtm number tag confirm opt form))) log from
new_enters own log v from number tag confirm opt form f =
    let first = own.limits.first in
    let d : Deed = Took from (Spelled (Rtm number tag confirm opt form)) in
    let e = opened_by (head_of tag confirm opt form) form in
    let w = hear from number.0 e v in
    let r = reach first log from in
    let s = reach first (d ∷ log) from in
    let next : (w.peers from).next ≡ first + r.count = next_here from number e v ∙ next_is_reach first log from r (v.peers from).next f.next in
    ap (λ (n : ℕ). map (λ k. (w.peers from).next + k) (below n)) (enters_count own log v from number tag confirm opt form e f r s)
    ∙ ap (λ (n : ℕ). map (λ k. n + k) (below (s.count - r.count))) next
    ∙ sym (entering_row first d log from r s)

-- the numbers that enter by an item
pub entered_is : (own : Own) (log : List Deed) (v : Kept) (from : Life) (item : Item) → is_forgotten log from ≡ false → KeepsMatching own log v
    → entered_in v from item ≡ entering own.limits.first (Took from item) log from
unfolding entered_in head_by
entered_is own log v from (Spelled (Rtm number tag confirm opt form)) kept k =
    let d : Deed = Took from (Spelled (Rtm number tag confirm opt form)) in
    let numbers = numbers_in (hear from number.0 (opened_by (head_of tag confirm opt form) form) v) from in
    ap (λ (b : Bool). cond b [] numbers) (k.heard_is from kept number.0)
    ∙ (elim (is_heard log from number.0) as (λ b. is_heard log from number.0 ≡ b → cond b [] numbers ≡ entering own.limits.first d log from) [
      | true ↦ λ heard. sym (none_enter own.limits.first d log from (same_heard from number tag confirm opt form log heard from))
      | false ↦ λ unheard. new_enters own log v from number tag confirm opt form (faced own log v from kept k)
    ]) refl
entered_is own log v from (Spelled (Cts send recv size connid)) kept k = silent_enters own log from (Spelled (Cts send recv size connid)) (λ n. refl)
entered_is own log v from (Spelled (CtsData recv offset connid bytes)) kept k = silent_enters own log from (Spelled (CtsData recv offset connid bytes)) (λ n. refl)
entered_is own log v from (Spelled (Eor send recv connid)) kept k = silent_enters own log from (Spelled (Eor send recv connid)) (λ n. refl)
entered_is own log v from (Spelled (Handshake words connid raw)) kept k = silent_enters own log from (Spelled (Handshake words connid raw)) (λ n. refl)
entered_is own log v from (Spelled (Receipt number connid)) kept k = silent_enters own log from (Spelled (Receipt number connid)) (λ n. refl)
entered_is own log v from (Asks a) kept k = silent_enters own log from (Asks a) (λ n. refl)
entered_is own log v from (Gives g) kept k = silent_enters own log from (Gives g) (λ n. refl)
entered_is own log v from Garbled kept k = silent_enters own log from Garbled (λ n. refl)
