-- What is answered of a life that is not known.
use Rattle.std.proofs.Common.{◌≡◌, sym, ap, ◌∙◌, ℕ, ◌^◌, ◌<◌, ◌≤◌, Option, Some, None}
use Rattle.std.specs.Prelude.{if◌then◌else◌, unwrap_or}
use Rattle.std.specs.Ordering.{nat_cmp}
use Rattle.std.specs.FinSet as set
use Rattle.std.proofs.lemmas.Bool.{lt-ltb, le-ltb}
use Rattle.rdm_num.specs.declared.numbers.Life.{Life}
use Rattle.rdm_num.specs.declared.numbers.MsgNo.{MsgNo}
use Rattle.rdm_peer.specs.Account.{fresh, number_given}
use Rattle.rdm_window.specs.declared.window.Heard.TheVariants.{New, Waiting, Entered}
use Rattle.rdm_window.specs.Window.{none_heard, state_of}
use Rattle.rdm_peers.specs.Accounts.{stranger}
use Rattle.rdm_peers.specs.Table.{Known, account_at, account_of}

-- the account of a life that is not known is that of a stranger
pub is_stranger : (known : Known) (life : Life) (first : ℕ) → first ≡ known.first → None ≡ account_at known life → stranger first ≡ account_of known life
is_stranger known life first same none = ap stranger same ∙ ap (λ o. unwrap_or o (stranger known.first)) none

-- its first message has the first number
pub first_given : (first : ℕ) → first < 2 ^ 32 → Some (record { 0 = first }) ≡ number_given (fresh first)
first_given first fits =
    let given : Option MsgNo = Some (record { 0 = first }) in sym (ap (λ b. if b then given else None) (lt-ltb first (2 ^ 32) fits))

-- numbers below the first one have entered
pub below_entered : (first n : ℕ) → n < first → Entered ≡ state_of (none_heard first) n
unfolding state_of
below_entered first n below =
    sym (ap (λ b. if b then Entered else if set.contains (set.empty {R = nat_cmp}) n then Waiting else New) (lt-ltb n first below))

-- the others are new
pub others_new : (first n : ℕ) → first ≤ n → New ≡ state_of (none_heard first) n
unfolding state_of
others_new first n from = sym (λ i. if le-ltb n first from i then Entered else if set.contains-empty nat_cmp n i then Waiting else New)
