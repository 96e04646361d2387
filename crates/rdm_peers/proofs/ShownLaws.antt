-- The laws of what is shown.
use Rattle.std.proofs.Common.{◌≡◌, refl, sym, ap, subst, ◌∙◌, ℕ, ◌+◌, Bool, true, false, List, Option, Some, None, arith}
use Rattle.std.specs.Prelude.{◌||◌, if◌then◌else◌, nat_lt, slice_get, unwrap_or}
use Rattle.std.specs.FinMap as map
use Rattle.std.specs.FinSet as set
use Rattle.rdm_lists.specs.Lists.{or_else}
use Rattle.rdm_num.specs.Lives.{same_life}
use Rattle.rdm_num.specs.declared.numbers.Life.{Life}
use Rattle.rdm_num.proofs.Lives.{same_life-refl}
use Rattle.rdm_life.specs.Kept as record_of
use Rattle.rdm_life.specs.Kept.{Kept, Peer, EarlyMessage}
use Rattle.rdm_life.specs.Landing.{settle, meet}
use Rattle.rdm_life.specs.Lives.{greet}
use Rattle.rdm_life.specs.Forgetting.{is_among, forget}
use Rattle.rdm_life.specs.Sending.{send_to}
use Rattle.rdm_life.specs.Receiving.{heard_run, hear, enter, entering_in}
use Rattle.rdm_life.specs.Handling.{after_item}
use Rattle.rdm_peer.specs.Account.{Account, known_after, after_number}
use Rattle.rdm_window.specs.declared.window.Heard.TheVariants.{New, Waiting, Entered}
use Rattle.rdm_window.specs.Window.{IsLeastMissing, state_of}
use Rattle.rdm_peers.specs.Accounts.{Acquaintance, stranger, greeted, told, numbered, with_room, with_spent, with_heard}
use Rattle.rdm_peers.specs.Table.{Known, life_order, key_of, account_of, without_account, changed}
use Rattle.rdm_peers.specs.Shown.{ShowsPeer, ShowsPeers, state_in}
use Rattle.rdm_peers.specs.Laws.{NobodyShows, OpeningShows, RoomShows, MeetingShows, PassingShows, AnsweringShows, LearningShows, NumberingShows, HearingShows, ForgettingShows}
use Rattle.rdm_peers.proofs.Keys.{changed_is, changed_account, unknown}
use Rattle.rdm_peers.proofs.Shows.{stranger_shown, with_one, shown_changed, shown_still, shown_without, either_way, heard_of, risen_by, run_risen, heard_shown}

pub nobody_shows : NobodyShows
nobody_shows first life =
    subst (λ (a : Acquaintance). ShowsPeer first a (record_of.stranger first)) (sym (ap (λ o. unwrap_or o (stranger first)) (map.get-empty life_order (key_of life)))) (stranger_shown first)

pub opening_shows : OpeningShows
opening_shows known life v shown none =
    shown_still known life v.peers shown (stranger known.first) (subst (λ (a : Acquaintance). ShowsPeer known.first a (v.peers life)) (unknown known life none) (shown life))

-- what a record shows, once its peers are told otherwise
shown_as : (known : Known) (p q : Life → Peer) → ((life : Life) → p life ≡ q life) → ShowsPeers known p → ShowsPeers known q
shown_as known p q same shown life = subst (λ (r : Peer). ShowsPeer known.first (account_of known life) r) (same life) (shown life)

-- room is no part of what is shown
roomy : (first : ℕ) (a : Acquaintance) (p : Peer) → ShowsPeer first a p → ShowsPeer first (with_room a) p
roomy first a p s =
    record { met = s.met; known = s.known; first_heard = s.first_heard; number = s.number; heard = s.heard; next = s.next; least = record { from = s.least.from; before = s.least.before; missing = s.least.missing; numbers = s.least.numbers } }

-- nor is room that is given back
spent : (first : ℕ) (a : Acquaintance) (p : Peer) → ShowsPeer first a p → ShowsPeer first (with_spent a) p
spent first a p s =
    record { met = s.met; known = s.known; first_heard = s.first_heard; number = s.number; heard = s.heard; next = s.next; least = record { from = s.least.from; before = s.least.before; missing = s.least.missing; numbers = s.least.numbers } }

pub room_shows : RoomShows
room_shows known life v shown there =
    let k : (f : Acquaintance → Acquaintance) → ShowsPeer known.first (f (account_of known life)) (v.peers life) → ShowsPeers (changed known life f) v.peers =
    λ f here. subst (λ (t : Known). ShowsPeers t v.peers) (changed_is known life f there) (shown_still known life v.peers shown (f (account_of known life)) here) in
    (k with_room (roomy known.first (account_of known life) (v.peers life) (shown life)), k with_spent (spent known.first (account_of known life) (v.peers life) (shown life)))

pub meeting_shows : MeetingShows
unfolding greet
meeting_shows known life raw v shown there =
    let s = shown life in
    shown_changed known life v.peers shown greeted (λ p. record p { met = true }) there
    (record { met = refl; known = s.known; first_heard = s.first_heard; number = s.number; heard = s.heard; next = s.next; least = s.least })

pub passing_shows : PassingShows
unfolding greet
passing_shows known life raw v shown = shown_as known v.peers _ (λ other. sym (either_way (same_life other life) (v.peers other))) shown

-- the first word that was learnt, either way
first_word : (known : Option ℕ) (words : List ℕ) → or_else known (slice_get words 0) ≡ known_after known words
unfolding known_after or_else
first_word None words = refl
first_word (Some word) words = refl

pub learning_shows : LearningShows
unfolding after_item
learning_shows known life words connid raw v shown there =
    let s = shown life in
    shown_changed known life v.peers shown (told words) (λ p. record p { known = or_else p.known (slice_get words 0) }) there
    (record {
      met = s.met;
      known = ap (λ o. or_else o (slice_get words 0)) s.known ∙ first_word (account_of known life).peer.known words;
      first_heard = s.first_heard;
      number = s.number;
      heard = s.heard;
      next = s.next;
      least = s.least;
    })

-- one number fewer is left
one_more : (first count next : ℕ) → next ≡ first + count → next + 1 ≡ first + (count + 1)
one_more first count next is = omega arith

pub numbering_shows : NumberingShows
unfolding send_to
numbering_shows known life req v shown there left =
    let s = shown life in
    let a : Account = (account_of known life).peer in
    let p : Peer = v.peers life in
    let after : after_number a ≡ record a { next = a.next + 1 } = ap (λ b. if b then record a { next = a.next + 1 } else a) left in
    shown_changed known life v.peers shown numbered (λ p. record p { messages = p.messages + 1 }) there
    (subst (λ (b : Account). ShowsPeer known.first (record (account_of known life) { peer = b }) (record p { messages = p.messages + 1 })) (sym after)
    (record { met = s.met; known = s.known; first_heard = s.first_heard; number = one_more known.first p.messages a.next s.number; heard = s.heard; next = s.next; least = s.least }))

-- the life that is forgotten is the one
among_one : (b : Bool) (x y : Peer) → (if b then x else y) ≡ (if b || false then x else y)
among_one true x y = refl
among_one false x y = refl

pub forgetting_shows : ForgettingShows
unfolding forget is_among
forgetting_shows known life v shown same =
    shown_as (without_account known life) (with_one v.peers life (λ p. record_of.stranger known.first)) _ (λ other.
    ap (λ n. if same_life other life then record_of.stranger n else v.peers other) same
    ∙ among_one (same_life other life) (record_of.stranger v.own.limits.first) (v.peers other)) (shown_without known life v.peers shown)

-- two changes of one peer are one
twice : (b : Bool) (f g : Peer → Peer) (p : Peer) → (if b then g (f p) else p) ≡ (if b then g (if b then f p else p) else (if b then f p else p))
twice true f g p = refl
twice false f g p = refl

pub answering_shows : AnsweringShows
unfolding state_of state_in
answering_shows known life n v shown =
    let s = shown life in
    let next : (account_of known life).hearing.next ≡ (v.peers life).next = sym s.next in
    let there : set.contains (account_of known life).hearing.heard n ≡ (v.peers life).heard n = sym (s.heard n) in (
      λ i. if nat_lt n (next i) then Entered else if there i then Waiting else New,
      λ from below. (let begins : (account_of known life).hearing.first ≡ known.first = s.first_heard in
          s.heard n ∙ s.least.before n (omega arith) (omega arith)),
    )

pub hearing_shows : HearingShows
unfolding hear enter meet settle
hearing_shows known life number risen e v shown there least enough =
    let a = account_of known life in
    let p : Peer = v.peers life in
    let most : ℕ = v.early_count + 1 in
    let l : IsLeastMissing (with_heard number risen a).hearing = subst (λ (x : Acquaintance). IsLeastMissing x.hearing) (changed_account known life (with_heard number risen) there) least in
    let count : risen ≡ entering_in (hear life number e v) life =
    sym (ap (λ b. heard_run most (if b then heard_of number p else p).heard (if b then heard_of number p else p).next) (same_life-refl life) ∙ run_risen known.first a p number risen (shown life) l most enough) in (
      count,
      shown_as (changed known life (with_heard number risen)) (with_one v.peers life (λ q. risen_by risen (heard_of number q))) _ (λ other.
          twice (same_life other life) (heard_of number) (risen_by risen) (v.peers other)
          ∙ ap (λ n. if same_life other life then risen_by n (if same_life other life then heard_of number (v.peers other) else v.peers other) else (if same_life other life then heard_of number (v.peers other) else v.peers other)) count)
          (shown_changed known life v.peers shown (with_heard number risen) (λ q. risen_by risen (heard_of number q)) there (heard_shown known.first a p number risen (shown life) l)),
    )
