-- That the lives that are known show what an endpoint's record keeps of each.
use Rattle.std.specs.Prelude.{◌≡◌, ℕ, ◌+◌, nat_lt, if◌then◌else◌}
use Rattle.std.specs.FinSet as set
use Rattle.rdm_num.specs.declared.numbers.Life.{Life}
use Rattle.rdm_window.specs.declared.window.Heard.{Heard}
use Rattle.rdm_window.specs.declared.window.Heard.TheVariants.{New, Waiting, Entered}
use Rattle.rdm_window.specs.Window.{IsLeastMissing}
use Rattle.rdm_life.specs.Kept.{Peer}
use Rattle.rdm_peers.specs.Accounts.{Acquaintance, is_met}
use Rattle.rdm_peers.specs.Table.{Known, account_of}

-- an account shows what is kept of its life, whose messages are numbered from the first on, as those to it: the next number is
-- that many past the first, and the numbers that were heard are the same, as is the least one that was not
pub record ShowsPeer (first : ℕ) (a : Acquaintance) (p : Peer) : Type 0 where
  pub met : p.met ≡ is_met a
  pub known : p.known ≡ a.peer.known
  pub first_heard : a.hearing.first ≡ first
  pub number : a.peer.next ≡ first + p.messages
  pub heard : (n : ℕ) → p.heard n ≡ set.contains a.hearing.heard n
  pub next : p.next ≡ a.hearing.next
  pub least : IsLeastMissing a.hearing

-- the account of each life shows what is kept of it; of a life without an account, nothing is
abbrev pub ShowsPeers : Known → (Life → Peer) → Type 0
ShowsPeers known peers = (life : Life) → ShowsPeer known.first (account_of known life) (peers life)

-- what a number is by what is kept of its life
unfoldable pub state_in : Peer → ℕ → Heard
state_in p n = if nat_lt n p.next then Entered else if p.heard n then Waiting else New
