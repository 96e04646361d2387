-- What each change of the table shows of the record.
use Rattle.std.specs.Prelude.{◌≡◌, ℕ, ◌<◌, ◌≤◌, true, false, is_some, List, [], ◌∷◌, Option, Some, IsSome}
use Rattle.rdm_num.specs.declared.numbers.Life.{Life}
use Rattle.rdm_num.specs.declared.numbers.Connid.{Connid}
use Rattle.rdm_num.specs.declared.numbers.PortNo.{PortNo}
use Rattle.rdm_num.specs.declared.request.SendReq.{SendReq}
use Rattle.rdm_pkt.specs.declared.Packet.TheVariants.{Handshake}
use Rattle.rdm_model.specs.Deeds.{Spelled}
use Rattle.rdm_peer.specs.Account.{has_number}
use Rattle.rdm_window.specs.Window.{IsLeastMissing, state_of}
use Rattle.rdm_life.specs.Kept as record_of
use Rattle.rdm_life.specs.Kept.{Kept, EarlyMessage}
use Rattle.rdm_life.specs.Lives.{greet}
use Rattle.rdm_life.specs.Forgetting.{forget}
use Rattle.rdm_life.specs.Sending.{send_to}
use Rattle.rdm_life.specs.Receiving.{hear, enter, entering_in}
use Rattle.rdm_life.specs.Handling.{after_item}
use Rattle.rdm_peers.specs.Accounts.{stranger, greeted, told, numbered, with_room, with_spent, with_heard}
use Rattle.rdm_peers.specs.Table.{Known, nobody, account_at, account_of, with_account, changed, without_account}
use Rattle.rdm_peers.specs.Shown.{ShowsPeers, state_in}

-- where no life is known, each is a stranger
abbrev pub NobodyShows : Type 0
NobodyShows = (first : ℕ) → ShowsPeers (nobody first) (λ life. record_of.stranger first)

-- an account that is opened shows what was kept
abbrev pub OpeningShows : Type 0
OpeningShows =
    (known : Known) (life : Life) (v : Kept) → ShowsPeers known v.peers → is_some (account_at known life) ≡ false → ShowsPeers (with_account known life (stranger known.first)) v.peers

-- so does one for which room was made or given back
abbrev pub RoomShows : Type 0
RoomShows =
    (known : Known) (life : Life) (v : Kept) → ShowsPeers known v.peers → IsSome (account_at known life)
    → ShowsPeers (changed known life with_room) v.peers × ShowsPeers (changed known life with_spent) v.peers

-- a life that is greeted is met
abbrev pub MeetingShows : Type 0
MeetingShows =
    (known : Known) (life : Life) (raw : Option PortNo) (v : Kept) → ShowsPeers known v.peers → IsSome (account_at known life)
    → ShowsPeers (changed known life greeted) (greet true life raw v).peers

-- one that is not is left as it was
abbrev pub PassingShows : Type 0
PassingShows =
    (known : Known) (life : Life) (raw : Option PortNo) (v : Kept) → ShowsPeers known v.peers → ShowsPeers known (greet false life raw v).peers

-- a number is what the record says, and those from the first on that entered were heard
abbrev pub AnsweringShows : Type 0
AnsweringShows =
    (known : Known) (life : Life) (n : ℕ) (v : Kept) → ShowsPeers known v.peers
    → (state_of (account_of known life).hearing n ≡ state_in (v.peers life) n) × (known.first ≤ n → n < (v.peers life).next → (v.peers life).heard n ≡ true)

-- what a life tells is what a handshake from it tells
abbrev pub LearningShows : Type 0
LearningShows =
    (known : Known) (life : Life) (words : List ℕ) (connid : Connid) (raw : Option PortNo) (v : Kept) → ShowsPeers known v.peers → IsSome (account_at known life)
    → ShowsPeers (changed known life (told words)) (after_item life (Spelled (Handshake words connid raw)) v).peers

-- a number that is given is that of a send
abbrev pub NumberingShows : Type 0
NumberingShows =
    (known : Known) (life : Life) (req : SendReq) (v : Kept) → ShowsPeers known v.peers → IsSome (account_at known life)
    → has_number (account_of known life).peer ≡ true
    → ShowsPeers (changed known life numbered) (send_to req (Some life) v).peers

-- a message that is heard is early, and the next number rises by as many messages as then enter, if no more enter than are early
abbrev pub HearingShows : Type 0
HearingShows =
    (known : Known) (life : Life) (number risen : ℕ) (e : EarlyMessage) (v : Kept) → ShowsPeers known v.peers → IsSome (account_at known life)
    → IsLeastMissing (account_of (changed known life (with_heard number risen)) life).hearing
    → risen ≤ (hear life number e v).early_count
    → (risen ≡ entering_in (hear life number e v) life) × ShowsPeers (changed known life (with_heard number risen)) (enter life (hear life number e v)).peers

-- a life that is forgotten has no account
abbrev pub ForgettingShows : Type 0
ForgettingShows =
    (known : Known) (life : Life) (v : Kept) → ShowsPeers known v.peers → known.first ≡ v.own.limits.first
    → ShowsPeers (without_account known life) (forget (life ∷ []) v).peers
