-- What an endpoint keeps after a datagram was taken.
use Rattle.std.proofs.Common.{◌≡◌, ℕ, suc, ◌+◌, ◌-◌, ◌≤◌, Bool, true, false, cond, inl, inr, List, [], ◌∷◌, ◌++◌, map, length, Option, None, refl, arith, ap, ◌∙◌, sym, subst}
use Rattle.std.proofs.Math.Bool.{or-true, or-false}
use Rattle.std.specs.Prelude.{◌&&◌, ◌||◌, ◌==◌, nat_le, nat_lt, slice_get}
use Rattle.std.proofs.lemmas.Bool.{eq-eqb, ne_eqb, cases_lt, cases_eq, le-leb, lt-leb, lt-ltb, le-ltb}
use Rattle.std.proofs.lemmas.List.{length-append}
use Rattle.rdm_lists.specs.Lists.{Member}
use Rattle.rdm_num.specs.Lives.{same_life}
use Rattle.rdm_num.specs.declared.numbers.PortNo.{PortNo}
use Rattle.rdm_num.specs.declared.numbers.Life.{Life}
use Rattle.rdm_num.specs.declared.numbers.MsgNo.{MsgNo}
use Rattle.rdm_num.specs.declared.numbers.Connid.{Connid}
use Rattle.rdm_num.specs.declared.head.Head.{Head}
use Rattle.rdm_hdr.specs.declared.Opt.{Opt}
use Rattle.rdm_pkt.specs.declared.Packet.TheVariants.{Rtm, Handshake}
use Rattle.rdm_pkt.specs.declared.Form.TheVariants.{Eager}
use Rattle.rdm_pkt.specs.Heads.{shape_of, size_of, head_of}
use Rattle.rdm_match.specs.Matcher.{Arrive}
use Rattle.rdm_model.specs.Deeds.{Deed, Took, Spelled}
use Rattle.rdm_model.specs.Beginnings.{Own}
use Rattle.rdm_model.specs.Heard.{is_heard}
use Rattle.rdm_model.specs.Regions.{region_by}
use Rattle.rdm_model.specs.Sends.{known_by}
use Rattle.rdm_model.specs.Completions.{polls_by, named_by, heard_names}
use Rattle.rdm_model.specs.Local.{heads_by, bytes_by, heard_by}
use Rattle.rdm_ep.specs.declared.state.Peer.{Peer}
use Rattle.rdm_ep.specs.declared.state.Inbound.{Inbound}
use Rattle.rdm_ep.specs.View.{EndpointView}
use Rattle.rdm_ep.specs.Peers.{peer_in, with_peer, known_peer, entered_peer}
use Rattle.rdm_ep.specs.Receiving.{arrived_message}
use Rattle.rdm_ep.specs.Meeting.{meeting_of, after_arrivals}
use Rattle.rdm_ep.specs.Entering.{is_message, following, left_held, entering_by, left_by, with_next, with_ahead, with_message}
use Rattle.rdm_ep.specs.Handling.{inbound_head, inbound, with_item, after_take}
use Rattle.rdm_ep.specs.Eager.{IsEager}
use Rattle.rdm_ep.specs.Keeps.{IsToldBy, Keeps}
use Rattle.rdm_ep.proofs.Options.{list_any-push}
use Rattle.rdm_ep.proofs.Accounts.{took_told}
use Rattle.rdm_ep.proofs.Held.{following_member, following_count, following_any, left_member, left_any}
use Rattle.rdm_ep.proofs.Pairs.{own_matching, arriving, event_of, pairs_step, new_pairs, met_by_all}
use Rattle.rdm_ep.proofs.Groups.{next_of, held_of, heard_of, HeldKept, Kept, kept_of, keeps_by}
use Rattle.rdm_ep.proofs.Still.{sends_still, receives_still, messages_still, held_still_by, regions_still, completions_still, held_stays}
use Rattle.rdm_ep.proofs.PeersOf.{peer_kept, peer_changed}
use Rattle.rdm_ep.proofs.Greeted.{greeted_peers, greeted_owed, met_is, lives_met, known_met, known_told, greeted_told, sent_met, sent_told, entered_met, entered_told, sends_met, owed_met}
use Rattle.rdm_ep.proofs.KeepsQuiet.{with_current}
use Rattle.rdm_ep.proofs.Arrivals.{arrivals}
use Rattle.rdm_ep.proofs.Runs.{eager, heard_with, next_kept, held_kept, held_is_heard, ComesNext, number_after, next_then, arriving_next, arriving_ahead}
use Rattle.rdm_ep.proofs.KeepsMessage.{told_heard, heard_told, arrivals_of, message_kept}
use Rattle.rdm_lists.proofs.Members.{member-append_cases}
use Rattle.rdm_num.proofs.Lives.{same_life-true}

-- of the life itself: what has entered or is held was heard of before, or is the new one
heard_here : (own : Own) (log : List Deed) (peers : List Peer) (arrived held : List Inbound) (from : Life) (number : MsgNo) (n : ℕ) → own.limits.first ≤ number.0 → ComesNext own log peers arrived held from number
    → ((nat_le own.limits.first n && nat_lt n (number_after held from number)) || held_of (left_held (length held) held from (number.0 + 1)) from n) ≡ (is_heard log from n || (number.0 == n))
heard_here own log peers arrived held from number n low c =
    let first = own.limits.first in
    let k = c.kept in
    let e = c.is_next in
    let len = length (following (length held) held from (number.0 + 1)) in
    let left = left_held (length held) held from (number.0 + 1) in
    let after = number_after held from number in
    let was = next_kept own log peers arrived held from k in
    elim (cases_lt n first) [
      | inl below ↦
          let a : nat_le first n ≡ false = lt-leb first n below in
          let b : (number.0 == n) ≡ false = ne_eqb number.0 n (λ x. omega arith) in
          let stays = left_any (length held) held from from (number.0 + 1) n (λ i lt t q. omega arith) in
          let z = sym (k.heard_are from n) in
          rw (b, z, a, stays) (sym (or-false (held_of held from n)))
      | inr from' ↦ elim (cases_lt n after) [
        | inr past ↦
            let a : nat_lt n after ≡ false = le-ltb n after past in
            let f : nat_le first n ≡ true = le-leb first n from' in
            let b : (number.0 == n) ≡ false = ne_eqb number.0 n (λ x. omega arith) in
            let stays = left_any (length held) held from from (number.0 + 1) n (λ i lt t q. omega arith) in
            let z = held_kept own log peers arrived held from n k (omega arith) in
            rw (a, f, b, stays, z) (sym (or-false (held_of held from n)))
        | inl less ↦
            let a : nat_lt n after ≡ true = lt-ltb n after less in
            let f : nat_le first n ≡ true = le-leb first n from' in
            let there : (is_heard log from n || (number.0 == n)) ≡ true =
            elim (cases_lt n number.0) [
              | inl before ↦ (let h = was.below n from' (omega arith) in rw h refl)
              | inr not_before ↦ elim (cases_eq number.0 n) [
                | inl same ↦ (let q : (number.0 == n) ≡ true = eq-eqb number.0 n same in rw q (or-true (is_heard log from n)))
                | inr other ↦
                    let z : number.0 + 1 + (n - (number.0 + 1)) ≡ n = omega arith in
                    let h = following_any (length held) held from (number.0 + 1) (n - (number.0 + 1)) (omega arith) in
                    let y = held_is_heard own log peers arrived held from n k (subst (λ (x : ℕ). held_of held from x ≡ true) z h) in
                    rw y refl
              ]
            ] in
            rw (a, f, there) refl
      ]
    ]

-- the messages that enter by one that is next are told
entering_told : (from : Life) (number : MsgNo) (tag : Option ℕ) (confirm : Bool) (opt : Opt) (bytes : List ℕ) (log : List Deed) (v : EndpointView) → IsEager v.own (eager from number tag confirm opt bytes ∷ log) → Kept log v
    → (i : Inbound) → Member i (entering_by (inbound from number.0 tag confirm opt bytes) v.held) → IsToldBy (heard_by v.own.limits.first (eager from number tag confirm opt bytes ∷ log)) i
unfolding head_of size_of shape_of
entering_told from number tag confirm opt bytes log v g k i (inl is) =
    let d = eager from number tag confirm opt bytes in
    let t = took_told v.own log from number tag confirm opt bytes g in
    subst (IsToldBy (heard_by v.own.limits.first (d ∷ log))) is (heard_told v.own.limits.first (d ∷ log) (inbound from number.0 tag confirm opt bytes) t.head_is t.bytes_are)
entering_told from number tag confirm opt bytes log v g k i (inr m) =
    let d = eager from number tag confirm opt bytes in
    let s = held_stays v.own d log v.peers v.arrived v.held i g k.held (following_member (length v.held) v.held from (number.0 + 1) i m) in
    heard_told v.own.limits.first (d ∷ log) i s.0 s.1

-- what is known of lives after a message that is next
abbrev next_peers : Life → MsgNo → List Peer → List Inbound → List Peer
next_peers from number peers held = with_peer (entered_peer (suc (length (following (length held) held from (number.0 + 1))))) from (greeted_peers from peers)

-- how many numbers have entered then
entered_then : (from : Life) (number : MsgNo) (peers : List Peer) (held : List Inbound) (life : Life)
    → (peer_in (next_peers from number peers held) life).entered
    ≡ cond (same_life from life) ((peer_in peers from).entered + suc (length (following (length held) held from (number.0 + 1)))) (peer_in peers life).entered
entered_then from number peers held life =
    let count = suc (length (following (length held) held from (number.0 + 1))) in
    peer_changed (λ p. p.entered) (entered_peer count) from (greeted_peers from peers) life (λ p. refl)
    ∙ ap (λ (n : ℕ). cond (same_life from life) (n + count) (peer_in (greeted_peers from peers) life).entered) (entered_met from peers from)
    ∙ ap (λ (n : ℕ). cond (same_life from life) ((peer_in peers from).entered + count) n) (entered_met from peers life)

-- how many were heard of then
count_then : (from : Life) (number : MsgNo) (tag : Option ℕ) (confirm : Bool) (opt : Opt) (bytes : List ℕ) (log : List Deed) (v : EndpointView) (is left : List Inbound) → IsEager v.own (eager from number tag confirm opt bytes ∷ log) → Kept log v
    → arriving v.own (eager from number tag confirm opt bytes) log ≡ map arrived_message is → ((i : Inbound) → Member i is → IsToldBy (heard_by v.own.limits.first (eager from number tag confirm opt bytes ∷ log)) i)
    → length is + length left ≡ length v.held + 1
    → length (after_arrivals (meeting_of v) is).arrived + length left + length (own_matching v.own (eager from number tag confirm opt bytes ∷ log)).pairs ≡ length (heard_names (eager from number tag confirm opt bytes ∷ log))
unfolding event_of heard_names named_by
count_then from number tag confirm opt bytes log v is left g k are told more =
    let own = v.own in
    let d = eager from number tag confirm opt bytes in
    let m = own_matching own log in
    let a = arrivals_of from number tag confirm opt bytes log v is g.0 k told in
    let events : event_of own d log ≡ arrivals is = ap (map Arrive) are in
    let step = ap length (pairs_step own d log g) in
    let l = length-append m.pairs (new_pairs own log d) in
    let p = ap (λ es. length (met_by_all m es)) events in
    let c = k.held.count in
    let n = a.count in
    let new = g.1.2 in
    let names : length (heard_names (d ∷ log)) ≡ length (heard_names log) + 1 = rw new (length-append (heard_names log) (record { life = from; number = number.0 } ∷ [])) in
    omega arith

-- one of three
or_assoc : (a b c : Bool) → (a || (b || c)) ≡ ((a || b) || c)
or_assoc true b c = refl
or_assoc false b c = refl

-- whether a message was heard of, after one that is next
heard_then : (from : Life) (number : MsgNo) (tag : Option ℕ) (confirm : Bool) (opt : Opt) (bytes : List ℕ) (log : List Deed) (v : EndpointView) (life : Life) (n : ℕ) → IsEager v.own (eager from number tag confirm opt bytes ∷ log)
    → ComesNext v.own log v.peers v.arrived v.held from number
    → heard_of v.own.limits.first (next_peers from number v.peers v.held) (left_held (length v.held) v.held from (number.0 + 1)) life n ≡ is_heard (eager from number tag confirm opt bytes ∷ log) life n
heard_then from number tag confirm opt bytes log v life n g c =
    let first = v.own.limits.first in
    let held = v.held in
    let k = c.kept in
    let e = c.is_next in
    let len = length (following (length held) held from (number.0 + 1)) in
    let left = left_held (length held) held from (number.0 + 1) in
    let after = number_after held from number in
    let entered = entered_then from number v.peers held life in
    let with' = heard_with log from number tag confirm opt bytes life n in
    (elim (same_life from life) as (λ b. same_life from life ≡ b → heard_of first (next_peers from number v.peers held) left life n ≡ is_heard (eager from number tag confirm opt bytes ∷ log) life n) [
      | false ↦ λ s.
          let stays = left_any (length held) held from life (number.0 + 1) n (λ i lt t q. let z : true ≡ false = sym t ∙ s in cc) in
          let same : (peer_in (next_peers from number v.peers held) life).entered ≡ (peer_in v.peers life).entered = entered ∙ ap (λ b. cond b ((peer_in v.peers from).entered + suc len) (peer_in v.peers life).entered) s in
          rw (same, stays) (k.heard_are life n ∙ sym (with' ∙ (rw s (or-false (is_heard log life n)))))
      | true ↦ λ s.
          let is : from ≡ life = same_life-true from life s in
          let more : (peer_in (next_peers from number v.peers held) life).entered ≡ (peer_in v.peers from).entered + suc len = entered ∙ ap (λ b. cond b ((peer_in v.peers from).entered + suc len) (peer_in v.peers life).entered) s in
          let to : first + (peer_in (next_peers from number v.peers held) life).entered ≡ after = omega arith in
          let mine : is_heard (eager from number tag confirm opt bytes ∷ log) life n ≡ (is_heard log from n || (number.0 == n)) = with' ∙ (rw (s, ← is) refl) in
          ap (λ x. (nat_le first n && nat_lt n x) || held_of left life n) to
          ∙ ap (λ (l : Life). (nat_le first n && nat_lt n after) || held_of left l n) (sym is)
          ∙ heard_here v.own log v.peers v.arrived held from number n g.1.1 c
          ∙ sym mine
    ]) refl

-- what is held after a message that is next
held_next : (from : Life) (number : MsgNo) (tag : Option ℕ) (confirm : Bool) (opt : Opt) (bytes : List ℕ) (log : List Deed) (v : EndpointView) → IsEager v.own (eager from number tag confirm opt bytes ∷ log) → Kept log v
    → ComesNext v.own log v.peers v.arrived v.held from number
    → HeldKept v.own (eager from number tag confirm opt bytes ∷ log) (next_peers from number v.peers v.held) (after_arrivals (meeting_of v) (entering_by (inbound from number.0 tag confirm opt bytes) v.held)).arrived
    (left_by (inbound from number.0 tag confirm opt bytes) v.held)
held_next from number tag confirm opt bytes log v g k c =
    let own = v.own in
    let first = own.limits.first in
    let d = eager from number tag confirm opt bytes in
    let held = v.held in
    let len = length (following (length held) held from (number.0 + 1)) in
    let left = left_held (length held) held from (number.0 + 1) in
    let fc = following_count (length held) held from (number.0 + 1) in
    let told = entering_told from number tag confirm opt bytes log v g k in
    let e = c.is_next in
    record {
      heads_are = λ i m. (held_stays own d log v.peers v.arrived held i g k.held (left_member (length held) held from (number.0 + 1) i m)).0;
      bytes_are = λ i m. (held_stays own d log v.peers v.arrived held i g k.held (left_member (length held) held from (number.0 + 1) i m)).1;
      heard_are = λ life n. heard_then from number tag confirm opt bytes log v life n g c;
      next_are = λ life.
          let entered = entered_then from number v.peers held life in
          (elim (same_life from life) as (λ b. same_life from life ≡ b → is_heard (d ∷ log) life (next_of first (next_peers from number v.peers held) life) ≡ false) [
            | true ↦ λ s.
                let is : from ≡ life = same_life-true from life s in
                let more : (peer_in (next_peers from number v.peers held) life).entered ≡ (peer_in v.peers from).entered + suc len = entered ∙ ap (λ b. cond b ((peer_in v.peers from).entered + suc len) (peer_in v.peers life).entered) s in
                let to : number_after held from number ≡ first + (peer_in (next_peers from number v.peers held) life).entered = omega arith in
                subst (λ (x : ℕ). is_heard (d ∷ log) life x ≡ false) to
                (subst (λ (l : Life). is_heard (d ∷ log) l (number_after held from number) ≡ false) is (next_then own log v.peers v.arrived held from number tag confirm opt bytes c).at)
            | false ↦ λ s.
                let same : (peer_in (next_peers from number v.peers held) life).entered ≡ (peer_in v.peers life).entered = entered ∙ ap (λ b. cond b ((peer_in v.peers from).entered + suc len) (peer_in v.peers life).entered) s in
                let z = k.held.next_are life in
                rw same (heard_with log from number tag confirm opt bytes life (next_of first v.peers life) ∙ (rw (s, z) refl))
          ]) refl;
      within = λ life.
          let entered = entered_then from number v.peers held life in
          let w = k.held.within life in
          let w' = k.held.within from in
          (elim (same_life from life) as (λ b. same_life from life ≡ b → (peer_in (next_peers from number v.peers held) life).entered + length left ≤ length (d ∷ log)) [
            | true ↦ λ s. (let x = entered ∙ ap (λ b. cond b ((peer_in v.peers from).entered + suc len) (peer_in v.peers life).entered) s in omega arith)
            | false ↦ λ s. (let x = entered ∙ ap (λ b. cond b ((peer_in v.peers from).entered + suc len) (peer_in v.peers life).entered) s in omega arith)
          ]) refl;
      count = count_then from number tag confirm opt bytes log v (entering_by (inbound from number.0 tag confirm opt bytes) held) left g k
          (arriving_next own log v.peers v.arrived held from number tag confirm opt bytes c (λ j m. ap (λ (h : Head). h.tag) (told_heard first (d ∷ log) j (told j m)).0)) told (omega arith);
    }

-- what is held after a message that comes before it is next
held_ahead : (from : Life) (number : MsgNo) (tag : Option ℕ) (confirm : Bool) (opt : Opt) (bytes : List ℕ) (log : List Deed) (v : EndpointView) → IsEager v.own (eager from number tag confirm opt bytes ∷ log) → Kept log v
    → (number.0 ≡ next_of v.own.limits.first v.peers from → ⊥)
    → HeldKept v.own (eager from number tag confirm opt bytes ∷ log) (greeted_peers from v.peers) v.arrived (v.held ++ inbound from number.0 tag confirm opt bytes ∷ [])
unfolding after_arrivals head_of size_of shape_of
held_ahead from number tag confirm opt bytes log v g k other =
    let own = v.own in
    let first = own.limits.first in
    let d = eager from number tag confirm opt bytes in
    let i = inbound from number.0 tag confirm opt bytes in
    let t = took_told own log from number tag confirm opt bytes g in
    let l = length-append v.held (i ∷ []) in
    let was = next_kept own log v.peers v.arrived v.held from k.held in
    record {
      heads_are = λ j m. elim (member-append_cases j v.held (i ∷ []) m) [
        | inl x ↦ (held_stays own d log v.peers v.arrived v.held j g k.held x).0
        | inr x ↦ elim x [ inl is ↦ subst (λ (y : Inbound). heads_by (d ∷ log) y.life y.no.0 ≡ inbound_head y) is t.head_is | inr never ↦ elim never [ ] ]
      ];
      bytes_are = λ j m. elim (member-append_cases j v.held (i ∷ []) m) [
        | inl x ↦ (held_stays own d log v.peers v.arrived v.held j g k.held x).1
        | inr x ↦ elim x [ inl is ↦ subst (λ (y : Inbound). bytes_by first (d ∷ log) y.life y.no.0 ≡ y.bytes) is t.bytes_are | inr never ↦ elim never [ ] ]
      ];
      heard_are = λ life n.
          let e = entered_met from v.peers life in
          let p = list_any-push (is_message life n) v.held i in
          rw (e, p) (or_assoc (nat_le first n && nat_lt n (next_of first v.peers life)) (held_of v.held life n) (same_life from life && number.0 == n)
          ∙ ap (λ b. b || (same_life from life && number.0 == n)) (k.held.heard_are life n) ∙ sym (heard_with log from number tag confirm opt bytes life n));
      next_are = λ life.
          let e = entered_met from v.peers life in
          let z = k.held.next_are life in
          let apart : (same_life from life && number.0 == next_of first v.peers life) ≡ false =
          (elim (same_life from life) as (λ b. same_life from life ≡ b → (b && number.0 == next_of first v.peers life) ≡ false) [
            | true ↦ λ s.
                let is : from ≡ life = same_life-true from life s in
                ne_eqb number.0 (next_of first v.peers life) (λ x. other (x ∙ ap (next_of first v.peers) (sym is)))
            | false ↦ λ s. refl
          ]) refl in
          rw e (heard_with log from number tag confirm opt bytes life (next_of first v.peers life) ∙ (rw (z, apart) refl));
      within = λ life. (let e = entered_met from v.peers life in let w = k.held.within life in omega arith);
      count = count_then from number tag confirm opt bytes log v [] (v.held ++ i ∷ []) g k (arriving_ahead own log v.peers v.arrived v.held from number tag confirm opt bytes k.held other) (λ j m. elim m [ ]) (omega arith);
    }

-- after a message in one packet was taken
pub keeps_message : (from : Life) (number : MsgNo) (tag : Option ℕ) (confirm : Bool) (opt : Opt) (bytes : List ℕ) (log : List Deed) (v : EndpointView)
    → IsEager v.own (eager from number tag confirm opt bytes ∷ log) → Keeps log v → Keeps (eager from number tag confirm opt bytes ∷ log) (after_take from (Spelled (Rtm number tag confirm opt (Eager bytes))) v)
unfolding after_take with_item with_message with_next with_ahead after_arrivals
keeps_message from number tag confirm opt bytes log v g keeps =
    let k = kept_of log v keeps in
    let own = v.own in
    let first = own.limits.first in
    let d = eager from number tag confirm opt bytes in
    let i = inbound from number.0 tag confirm opt bytes in
    let met = met_is from v in
    elim (cases_eq number.0 (next_of first v.peers from)) [
      | inl same ↦
          let q : (number.0 == next_of first v.peers from) ≡ true = eq-eqb number.0 (next_of first v.peers from) same in
          let c : ComesNext own log v.peers v.arrived v.held from number = record { kept = k.held; is_next = same } in
          let told = entering_told from number tag confirm opt bytes log v g k in
          let count = suc (length (following (length v.held) v.held from (number.0 + 1))) in
          let peers = greeted_peers from v.peers in
          rw (q, met) (message_kept from number tag confirm opt bytes log v (entering_by i v.held) (next_peers from number v.peers v.held) (left_by i v.held) g k (record {
            arriving_are = arriving_next own log v.peers v.arrived v.held from number tag confirm opt bytes c (λ j m. ap (λ (h : Head). h.tag) (told_heard first (d ∷ log) j (told j m)).0);
            told = told;
            greeted = λ life. peer_kept (λ p. p.greeted) (entered_peer count) from peers life (λ p. refl) (λ p. refl);
            known = λ life. peer_kept (λ p. p.known) (entered_peer count) from peers life (λ p. refl) (λ p. refl) ∙ known_met from v.peers life;
            sent = λ life. peer_kept (λ p. p.sent) (entered_peer count) from peers life (λ p. refl) (λ p. refl) ∙ sent_met from v.peers life;
            held = held_next from number tag confirm opt bytes log v g k c;
          }))
      | inr other ↦
          let q : (number.0 == next_of first v.peers from) ≡ false = ne_eqb number.0 (next_of first v.peers from) other in
          rw (q, met) (message_kept from number tag confirm opt bytes log v [] (greeted_peers from v.peers) (v.held ++ i ∷ []) g k (record {
            arriving_are = arriving_ahead own log v.peers v.arrived v.held from number tag confirm opt bytes k.held other;
            told = λ j m. elim m [ ];
            greeted = λ life. refl;
            known = known_met from v.peers;
            sent = sent_met from v.peers;
            held = held_ahead from number tag confirm opt bytes log v g k other;
          }))
    ]

-- after a handshake was taken, of a life of which nothing was known
pub keeps_handshake : (from : Life) (words : List ℕ) (connid : Connid) (raw : Option PortNo) (log : List Deed) (v : EndpointView) → IsEager v.own log → (peer_in v.peers from).known ≡ None
    → Keeps log v → Keeps (Took from (Spelled (Handshake words connid raw)) ∷ log) (after_take from (Spelled (Handshake words connid raw)) v)
unfolding after_take with_item region_by polls_by known_by
keeps_handshake from words connid raw log v h none keeps =
    let k = kept_of log v keeps in
    let own = v.own in
    let item = Spelled (Handshake words connid raw) in
    let d = Took from item in
    let g : IsEager own (d ∷ log) = (h, tt) in
    let word = slice_get words 0 in
    let peers = with_peer (known_peer word) from (greeted_peers from v.peers) in
    let w : EndpointView = record v { currents = with_current from v.currents; peers = peers; owed = greeted_owed from v.peers v.owed } in
    subst (Keeps (d ∷ log))
    (sym (ap (λ (x : EndpointView). record x { peers = with_peer (known_peer word) from x.peers }) (met_is from v)))
    (keeps_by (d ∷ log) w g
    (record {
      lives = lives_met own from item log v.currents v.peers peers g (greeted_told from v.peers word) (λ life. known_told log from v.peers word life none k.lives.known_are) k.lives;
      sends = sends_met own (d ∷ log) v.sends v.peers peers v.outgoing (sent_told from v.peers word) (sends_still own d log v.sends v.peers v.outgoing g tt k.sends);
      receives = receives_still own d log v.receives v.posted g tt k.receives;
      messages = messages_still own d log v.arrived g tt k.messages;
      held = held_still_by own d log v.peers peers v.arrived v.held g tt (entered_told from v.peers word) k.held;
      owed = owed_met own from item log v.peers v.owed g (k.lives.greeted_are from) k.owed;
      regions = regions_still own d log v.regions g tt refl k.regions;
      completions = completions_still own d log v.polled v.completions g tt tt refl k.completions;
    }))
