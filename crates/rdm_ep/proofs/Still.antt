-- What an eager deed leaves as it is.
use Rattle.std.proofs.Common.{◌≡◌, ℕ, ◌+◌, ◌-◌, Bool, true, false, not, List, [], ◌∷◌, ◌++◌, map, length, Option, Some, None, refl, arith, ap, ◌∙◌, sym, subst}
use Rattle.std.specs.Prelude.{is_some, ◌&&◌, ◌==◌}
use Rattle.std.proofs.Math.Bool.{or-true}
use Rattle.std.proofs.lemmas.Bool.{and_from, eq-eqb}
use Rattle.std.proofs.lemmas.List.{append-nil}
use Rattle.rdm_lists.specs.Lists.{Member, or_else, below}
use Rattle.rdm_num.specs.Lives.{same_life}
use Rattle.rdm_num.specs.declared.numbers.Life.{Life}
use Rattle.rdm_num.specs.declared.head.Head.{Head}
use Rattle.rdm_num.specs.declared.completion.Completion.{Completion}
use Rattle.rdm_match.specs.Matcher.{Matching, run}
use Rattle.rdm_pkt.specs.declared.Packet.TheVariants.{Rtm}
use Rattle.rdm_model.specs.declared.job.Instr.TheVariants.{Insert, Send, Recv, Cancel}
use Rattle.rdm_model.specs.Deeds.{Deed, Did, Took, Pushed, Item, Spelled, deed_count}
use Rattle.rdm_model.specs.Beginnings.{Own}
use Rattle.rdm_model.specs.Heard.{head_by, heard_head, is_heard, heard_below, has_entered, entering}
use Rattle.rdm_model.specs.Matches.{Receive, receives, received_by, with_received}
use Rattle.rdm_model.specs.Receives.{Filled}
use Rattle.rdm_model.specs.Regions.{after_ends, region_by}
use Rattle.rdm_model.specs.Sends.{Sent, sends_to, known_by, known_word, sent_by}
use Rattle.rdm_model.specs.Replies.{Reply, greets, handshake_by, meets}
use Rattle.rdm_model.specs.Completions.{polls_by, poll_count, named_by, heard_names, recv_completions}
use Rattle.rdm_model.specs.Local.{heads_by, bytes_by}
use Rattle.rdm_model.proofs.Matches.{arrived_heard}
use Rattle.rdm_ep.specs.declared.state.Peer.{Peer}
use Rattle.rdm_ep.specs.declared.state.Posted.{Posted}
use Rattle.rdm_ep.specs.declared.state.Inbound.{Inbound}
use Rattle.rdm_ep.specs.declared.state.Outbound.{Outbound}
use Rattle.rdm_ep.specs.Peers.{peer_in}
use Rattle.rdm_ep.specs.Receiving.{arrived_message}
use Rattle.rdm_ep.specs.Entering.{is_message}
use Rattle.rdm_ep.specs.Handling.{inbound_head}
use Rattle.rdm_ep.specs.Eager.{IsEagerDeed, IsEager}
use Rattle.rdm_ep.specs.Keeps.{posted_of, outbound_of, is_from}
use Rattle.rdm_ep.proofs.Currents.{shown_by, current_step}
use Rattle.rdm_ep.proofs.Accounts.{head_stays, bytes_stay}
use Rattle.rdm_ep.proofs.Pairs.{own_matching, arriving, event_of, matching_step, met_by_all, new_pairs, pairs_step}
use Rattle.rdm_ep.proofs.Live.{own_live, live_after, live_arrivals, live_step}
use Rattle.rdm_ep.proofs.Pushes.{own_sends, own_progress, own_live_sends, new_sends, own_sends_step, replies_left, replies_step, live_left, live_sends_step, ended_left}
use Rattle.rdm_ep.proofs.Completed.{own_completions, own_regions, completions_step, regions_step}
use Rattle.rdm_ep.proofs.Ends.{ends_of}
use Rattle.rdm_ep.proofs.Groups.{next_of, held_of, LivesKept, SendsKept, ReceivesKept, MessagesKept, HeldKept, OwedKept, RegionsKept, CompletionsKept}
use Rattle.rdm_lists.proofs.Members.{map-member, member_list_any}
use Rattle.rdm_lists.proofs.Options.{some_of, or_else-none}
use Rattle.rdm_lists.proofs.Filters.{filter_nothing}
use Rattle.rdm_lists.proofs.Below.{each_below_same}
use Rattle.rdm_num.proofs.Lives.{same_life-refl}

-- the deed shows no life
abbrev pub ShowsNoLife : Deed → Type 0
ShowsNoLife (Did (Insert life)) = ⊥
ShowsNoLife (Took from item) = ⊥
ShowsNoLife _ = Unit {0}

-- the deed neither makes a send nor pushes
abbrev pub SendsNothing : Deed → Type 0
SendsNothing (Did (Send req)) = ⊥
SendsNothing Pushed = ⊥
SendsNothing _ = Unit {0}

-- the deed brings neither a receive nor a message, and takes no receive back
abbrev pub MeetsNothing : Deed → Type 0
MeetsNothing (Did (Recv req)) = ⊥
MeetsNothing (Did (Cancel recv)) = ⊥
MeetsNothing (Took from (Spelled (Rtm number tag confirm opt form))) = ⊥
MeetsNothing _ = Unit {0}

-- the deed neither takes a datagram nor pushes
abbrev pub GreetsNobody : Deed → Type 0
GreetsNobody (Took from item) = ⊥
GreetsNobody Pushed = ⊥
GreetsNobody _ = Unit {0}

-- a deed that shows no life shows none of a port, is from no life, and tells no features
unshown : (d : Deed) → ShowsNoLife d → ((port : ℕ) → shown_by port d ≡ None) × ((life : Life) → is_from life d ≡ false) × ((life : Life) → known_by life d ≡ None)
unfolding shown_by is_from known_by
unshown (Did (Insert life)) n = elim n [ ]
unshown (Took from item) n = elim n [ ]
unshown _ n = (λ port. refl, λ life. refl, λ life. refl)

-- what is known of lives stays where none is shown
pub lives_still : (own : Own) (d : Deed) (before : List Deed) (currents : List Life) (peers : List Peer) → IsEagerDeed own before d → ShowsNoLife d
    → LivesKept before currents peers → LivesKept (d ∷ before) currents peers
unfolding known_word or_else
lives_still own d before currents peers h n k =
    let u = unshown d n in
    record {
      currents_are = λ port. k.currents_are port ∙ sym (current_step own d before port h ∙ (let e = u.0 port in rw e (or_else-none _)));
      greeted_are = λ life. k.greeted_are life ∙ (let e = u.1 life in rw e refl);
      known_are = λ life. k.known_are life ∙ (let e = u.2 life in rw e (sym (or_else-none (known_word before life))));
    }

-- a deed that sends nothing leaves the sends
unsent_by : (own : Own) (d : Deed) (before : List Deed) → SendsNothing d
    → (new_sends own before d ≡ []) × ((rs : List Reply) (live : List Sent) → live_left d rs live ≡ live) × ((rs : List Reply) (live : List Sent) → ended_left d rs live ≡ [])
unfolding sent_by live_left ended_left
unsent_by own (Did (Send req)) before n = elim n [ ]
unsent_by own Pushed before n = elim n [ ]
unsent_by own _ before n = (refl, λ rs live. refl, λ rs live. refl)

-- the sends stay where none is made or pushed
pub sends_still : (own : Own) (d : Deed) (before : List Deed) (count : ℕ) (peers : List Peer) (outgoing : List Outbound) → IsEager own (d ∷ before) → SendsNothing d
    → SendsKept own before count peers outgoing → SendsKept own (d ∷ before) count peers outgoing
sends_still own d before count peers outgoing h n k =
    let u = unsent_by own d before n in
    let s : own_sends own (d ∷ before) ≡ own_sends own before = own_sends_step own d before ∙ ap (λ (xs : List Sent). own_sends own before ++ xs) u.0 ∙ append-nil (own_sends own before) in
    let l : own_live_sends own (d ∷ before) ≡ own_live_sends own before =
    live_sends_step own d before h ∙ ap (λ (xs : List Sent). live_left d (own_progress own before).replies (own_live_sends own before) ++ xs) u.0
    ∙ append-nil (live_left d (own_progress own before).replies (own_live_sends own before)) ∙ u.1 (own_progress own before).replies (own_live_sends own before) in
    record {
      sent_are = λ life. k.sent_are life ∙ ap (λ (xs : List Sent). length (sends_to xs life)) (sym s);
      sends_are = k.sends_are ∙ ap length (sym s);
      outgoing_are = k.outgoing_are ∙ ap (map outbound_of) (sym l);
    }

-- nothing is and is not
and_not_self : (b : Bool) → (b && not b) ≡ false
and_not_self true = refl
and_not_self false = refl

-- an item that is no message tells of none
silent_item : (from : Life) (item : Item) → MeetsNothing (Took from item) → (life : Life) (n : ℕ) → head_by life n (Took from item) ≡ None
unfolding head_by
silent_item from (Spelled (Rtm number tag confirm opt form)) h life n = elim h [ ]
silent_item from item h life n = refl

-- and names none
unnamed_item : (before : List Deed) (from : Life) (item : Item) → MeetsNothing (Took from item) → named_by before (Took from item) ≡ []
unfolding named_by
unnamed_item before from (Spelled (Rtm number tag confirm opt form)) h = elim h [ ]
unnamed_item before from item h = refl

-- a deed that tells of no message lets none enter
pub none_enter : (first : ℕ) (d : Deed) (before : List Deed) (source : Life) → ((life : Life) (n : ℕ) → head_by life n d ≡ None) → entering first d before source ≡ []
unfolding entering has_entered heard_below is_heard heard_head
none_enter first d before source h =
    let same : (n : ℕ) → is_some (or_else (heard_head before source n) (head_by source n d)) ≡ is_some (heard_head before source n) =
    λ n. let e = h source n in rw e (ap (λ (o : Option Head). is_some o) (or_else-none (heard_head before source n))) in
    filter_nothing (λ n. has_entered first (d ∷ before) source n && not (has_entered first before source n)) (map (λ k. first + k) (below (length (d ∷ before))))
    (λ n m.
    let a = same n in
    let b = each_below_same (λ k. is_heard (d ∷ before) source (first + k)) (λ k. is_heard before source (first + k)) (n - first) (λ k. same (first + k)) in
    rw (a, b) (and_not_self (has_entered first before source n)))

-- a deed that brings nothing meets nothing
pub unmet : (own : Own) (d : Deed) (before : List Deed) → MeetsNothing d
    → (event_of own d before ≡ []) × (receives (d ∷ before) ≡ receives before) × ((live : List Receive) (m : Matching) → live_after own live m before d ≡ live)
    × ((life : Life) (n : ℕ) → head_by life n d ≡ None) × (named_by before d ≡ [])
unfolding event_of arriving receives with_received received_by live_after live_arrivals head_by named_by
unmet own (Did (Recv req)) before n = elim n [ ]
unmet own (Did (Cancel recv)) before n = elim n [ ]
unmet own (Took from (Spelled (Rtm number tag confirm opt form))) before n = elim n [ ]
unmet own (Took from item) before n =
    let e = none_enter own.limits.first (Took from item) before from (silent_item from item n) in
    (rw e refl, append-nil (receives before), λ live m. rw e refl, silent_item from item n, unnamed_item before from item n)
unmet own _ before n = (refl, append-nil (receives before), λ live m. refl, λ life k. refl, refl)

-- the receives stay where nothing is met
pub receives_still : (own : Own) (d : Deed) (before : List Deed) (count : ℕ) (posted : List Posted) → IsEager own (d ∷ before) → MeetsNothing d
    → ReceivesKept own before count posted → ReceivesKept own (d ∷ before) count posted
receives_still own d before count posted h n k =
    let u = unmet own d before n in
    record {
      receives_are = k.receives_are ∙ ap length (sym u.1);
      posted_are = k.posted_are ∙ ap (map posted_of) (sym (live_step own d before h ∙ u.2 (own_live own before) (own_matching own before)));
    }

-- a message that waits was heard of
pub waiting_heard : (own : Own) (log : List Deed) (arrived : List Inbound) (i : Inbound) → map arrived_message arrived ≡ (own_matching own log).arrived → Member i arrived
    → (h : Head) × (heard_head log i.life i.no.0 ≡ Some h)
waiting_heard own log arrived i e m =
    ((arrived_heard own.limits.first (heads_by log) log).waiting (arrived_message i)
    (subst (λ (xs : List _). Member (arrived_message i) xs) e (map-member arrived_message i arrived m))).0

-- what was told of the messages that wait stays
pub told_stays : (own : Own) (d : Deed) (before : List Deed) (arrived : List Inbound) (i : Inbound) → IsEager own (d ∷ before)
    → MessagesKept own before arrived → Member i arrived
    → (heads_by (d ∷ before) i.life i.no.0 ≡ heads_by before i.life i.no.0) × (bytes_by own.limits.first (d ∷ before) i.life i.no.0 ≡ bytes_by own.limits.first before i.life i.no.0)
told_stays own d before arrived i h k m =
    let x = waiting_heard own before arrived i k.arrived_are m in
    (head_stays d before i.life i.no.0 x.0 x.1, bytes_stay own d before i.life i.no.0 x.0 h x.1)

-- a deed that tells nothing of a message leaves whether it was heard of
pub heard_more : (d : Deed) (before : List Deed) (life : Life) (n : ℕ) → head_by life n d ≡ None → is_heard (d ∷ before) life n ≡ is_heard before life n
unfolding is_heard heard_head
heard_more d before life n e = rw e (ap (λ (o : Option Head). is_some o) (or_else-none (heard_head before life n)))

-- the messages stay where nothing is met
pub messages_still : (own : Own) (d : Deed) (before : List Deed) (arrived : List Inbound) → IsEager own (d ∷ before) → MeetsNothing d
    → MessagesKept own before arrived → MessagesKept own (d ∷ before) arrived
unfolding run
messages_still own d before arrived h n k =
    let u = unmet own d before n in
    let s : own_matching own (d ∷ before) ≡ own_matching own before = matching_step own d before h ∙ ap (run (own_matching own before)) u.0 in
    record {
      arrived_are = k.arrived_are ∙ ap (λ (m : Matching). m.arrived) (sym s);
      heads_are = λ i m. (told_stays own d before arrived i h k m).0 ∙ k.heads_are i m;
      bytes_are = λ i m. (told_stays own d before arrived i h k m).1 ∙ k.bytes_are i m;
    }

-- a held message was heard of
pub held_heard : (own : Own) (log : List Deed) (peers : List Peer) (arrived held : List Inbound) (i : Inbound) → HeldKept own log peers arrived held → Member i held
    → (h : Head) × (heard_head log i.life i.no.0 ≡ Some h)
unfolding is_heard
held_heard own log peers arrived held i k m =
    let here : held_of held i.life i.no.0 ≡ true =
    member_list_any (is_message i.life i.no.0) i held m (and_from (same_life i.life i.life) (i.no.0 == i.no.0) (same_life-refl i.life) (eq-eqb i.no.0 i.no.0 refl)) in
    some_of (heard_head log i.life i.no.0) (sym (k.heard_are i.life i.no.0) ∙ (rw here (or-true _)))

-- what was told of the held messages stays
pub held_stays : (own : Own) (d : Deed) (before : List Deed) (peers : List Peer) (arrived held : List Inbound) (i : Inbound) → IsEager own (d ∷ before)
    → HeldKept own before peers arrived held → Member i held
    → (heads_by (d ∷ before) i.life i.no.0 ≡ inbound_head i) × (bytes_by own.limits.first (d ∷ before) i.life i.no.0 ≡ i.bytes)
held_stays own d before peers arrived held i h k m =
    let x = held_heard own before peers arrived held i k m in
    (head_stays d before i.life i.no.0 x.0 x.1 ∙ k.heads_are i m, bytes_stay own d before i.life i.no.0 x.0 h x.1 ∙ k.bytes_are i m)

-- the held messages stay where nothing is met, and what is known of lives but for their numbers may change
pub held_still_by : (own : Own) (d : Deed) (before : List Deed) (peers now : List Peer) (arrived held : List Inbound) → IsEager own (d ∷ before) → MeetsNothing d
    → ((life : Life) → (peer_in now life).entered ≡ (peer_in peers life).entered) → HeldKept own before peers arrived held → HeldKept own (d ∷ before) now arrived held
unfolding heard_names met_by_all
held_still_by own d before peers now arrived held h n same k =
    let u = unmet own d before n in
    let p = pairs_step own d before h in
    let e = u.0 in
    let f = u.4 in
    record {
      heads_are = λ i m. (held_stays own d before peers arrived held i h k m).0;
      bytes_are = λ i m. (held_stays own d before peers arrived held i h k m).1;
      heard_are = λ life number. (let q = same life in rw q (k.heard_are life number)) ∙ sym (heard_more d before life number (u.3 life number));
      next_are = λ life. (let q = same life in rw q (heard_more d before life (next_of own.limits.first peers life) (u.3 life (next_of own.limits.first peers life)) ∙ k.next_are life));
      within = λ life. (let q = same life in let w = k.within life in omega arith);
      count = rw (p, e, f, append-nil (own_matching own before).pairs, append-nil (heard_names before)) k.count;
    }

-- the same where nothing that is known of lives changes
pub held_still : (own : Own) (d : Deed) (before : List Deed) (peers : List Peer) (arrived held : List Inbound) → IsEager own (d ∷ before) → MeetsNothing d
    → HeldKept own before peers arrived held → HeldKept own (d ∷ before) peers arrived held
held_still own d before peers arrived held h n k = held_still_by own d before peers peers arrived held h n (λ life. refl) k

-- an eager deed that takes and pushes nothing leaves what is owed
greets_nobody : (own : Own) (d : Deed) (before : List Deed) → IsEagerDeed own before d → GreetsNobody d → ((rs : List Reply) → replies_left d rs ≡ rs) × (handshake_by own before d ≡ [])
unfolding replies_left handshake_by greets meets
greets_nobody own (Took from item) before h n = elim n [ ]
greets_nobody own Pushed before h n = elim n [ ]
greets_nobody own (Did (Insert life)) before h n = let e = h.1 in (λ rs. refl, rw e refl)
greets_nobody own _ before h n = (λ rs. refl, refl)

-- what is owed stays where nothing is taken or pushed
pub owed_still : (own : Own) (d : Deed) (before : List Deed) (owed : List Life) → IsEager own (d ∷ before) → GreetsNobody d → OwedKept own before owed → OwedKept own (d ∷ before) owed
owed_still own d before owed h n k =
    let u = greets_nobody own d before h.1 n in
    k ∙ sym (replies_step own d before h ∙ ap (λ (rs : List Reply). replies_left d (own_progress own before).replies ++ rs) u.1
    ∙ append-nil (replies_left d (own_progress own before).replies) ∙ u.0 (own_progress own before).replies)

-- a deed that meets nothing makes no pair
pub no_pairs : (own : Own) (d : Deed) (before : List Deed) → MeetsNothing d → new_pairs own before d ≡ []
unfolding met_by_all
no_pairs own d before n = ap (met_by_all (own_matching own before)) (unmet own d before n).0

-- and ends no receive
pub no_ends : (own : Own) (d : Deed) (before : List Deed) → MeetsNothing d → ends_of own before d ≡ []
no_ends own (Did (Cancel recv)) before n = elim n [ ]
no_ends own d before n = ap (map Filled) (no_pairs own d before n)

-- the regions stay where nothing is met or registered
pub regions_still : (own : Own) (d : Deed) (before : List Deed) (regions : List (List ℕ)) → IsEager own (d ∷ before) → MeetsNothing d → region_by d ≡ []
    → RegionsKept own before regions → RegionsKept own (d ∷ before) regions
unfolding after_ends
regions_still own d before regions h n e k =
    k ∙ sym (regions_step own d before h
    ∙ (let p = no_ends own d before n in rw (p, e) (append-nil (own_regions own before))))

-- a deed that meets and sends nothing completes nothing
pub none_completed : (own : Own) (d : Deed) (before : List Deed) → IsEager own (d ∷ before) → MeetsNothing d → SendsNothing d
    → own_completions own (d ∷ before) ≡ own_completions own before
unfolding recv_completions
none_completed own d before h n s =
    completions_step own d before h
    ∙ (let p = no_ends own d before n in let q = (unsent_by own d before s).2 (own_progress own before).replies (own_live_sends own before) in
    rw (p, q) (append-nil (own_completions own before)))

-- the completions stay where nothing is met, pushed or polled
pub completions_still : (own : Own) (d : Deed) (before : List Deed) (polled : ℕ) (completions : List Completion) → IsEager own (d ∷ before) → MeetsNothing d → SendsNothing d
    → polls_by d ≡ 0 → CompletionsKept own before polled completions → CompletionsKept own (d ∷ before) polled completions
unfolding poll_count deed_count
completions_still own d before polled completions h n s e k =
    let c = none_completed own d before h n s in
    let same : deed_count polls_by before + polls_by d ≡ deed_count polls_by before = omega arith in
    record {
      polled_are = k.polled_are ∙ sym same;
      polled_within = rw (same, c) k.polled_within;
      completions_are = rw (same, c) k.completions_are;
    }
