-- Operations that are accepted, and lives that are met.
use Rattle.std.proofs.Common.{◌≡◌, ℕ, ◌+◌, ◌<◌, true, false, not, cond, List, [], ◌∷◌, ◌++◌, find, Option, Some, None, refl, sym, ap, ◌∙◌, subst, inl, inr, arith}
use Rattle.std.specs.Prelude.{◌==◌}
use Rattle.std.proofs.lemmas.List.{length-append, append-nil, append_cancel_left}
use Rattle.rdm_lists.specs.Lists.{Member}
use Rattle.rdm_lists.proofs.Members.{member-append_cases}
use Rattle.rdm_num.specs.Lives.{same_life}
use Rattle.rdm_num.proofs.Lives.{same_life-true}
use Rattle.rdm_num.specs.declared.numbers.Life.{Life}
use Rattle.rdm_model.specs.Replies.{reply, greeting}
use Rattle.rdm_model.specs.Sends.{new_sent}
use Rattle.rdm_answers.proofs.Given.{only_given_bytes_count}
use Rattle.rdm_answers.proofs.Received.{greetings_greet}
use Rattle.rdm_life.specs.Kept.{LiveSend, LiveReceive, is_send, send_numbered}
use Rattle.rdm_life.specs.Handling.{after_item}
use Rattle.rdm_life.specs.Lives.{greet}
use Rattle.rdm_life.specs.Memory.{part_of}
use Rattle.rdm_life.specs.Receiving.{receive_in, named_in}
use Rattle.rdm_life.specs.Sending.{send_to, sent_in, begun as begun_send}
use Rattle.rdm_peers.specs.Accounts.{Acquaintance}
use Rattle.rdm_peers.specs.Table.{Known, put_back}
use Rattle.rdm_peers.specs.Accounts.{numbered}
use Rattle.rdm_peers.specs.Table.{account_of, changed}
use Rattle.rdm_peers.specs.Shown.{ShowsPeer}
use Rattle.rdm_peers.proofs.ShownLaws.{opening_shows, meeting_shows, passing_shows, learning_shows, numbering_shows}
use Rattle.rdm_receives.specs.View.{ReceiveView, IsReceive, posted}
use Rattle.rdm_receives.specs.Shows as Receive
use Rattle.rdm_receives.proofs.Showing.{new_shows}
use Rattle.rdm_sends.specs.Beginning.{new_sending}
use Rattle.rdm_sent.specs.Laws.{sender, place_in}
use Rattle.rdm_sent.specs.Shows.{IsSend}
use Rattle.rdm_sent.proofs.Begun.{begins_as_kept}
use Rattle.rdm_regions.specs.Holds.{with_holds}
use Rattle.rdm_shown.specs.Grounds.{IsGround, ShowsHolds}
use Rattle.rdm_shown.specs.Tables.{IsEntry}
use Rattle.rdm_shown.proofs.Finding.{find_aside}
use Rattle.rdm_shown.proofs.Grounds.{hold_shows}
use Rattle.rdm_shown.proofs.HomeBytes.{part_is_out}
use Rattle.rdm_shown.proofs.Leases.{lease_shows}
use Rattle.rdm_shown.proofs.Tables.{like_put, rise_last}
use Rattle.rdm_state.specs.Shows.{Shows, number_of, bytes_of, bytes_of_found}
use Rattle.rdm_state.specs.Steps.{begun}
use Rattle.rdm_state.specs.LifeLaws.{Accepts, Begins, Greets, Knows, Learns, Passes}

-- no live operation has a number that was not given
not_given : {A : Type 0} (number : A → ℕ) (count : ℕ) (xs : List A) → ((x : A) → Member x xs → number x < count) → find (λ x. number x == count) xs ≡ None
not_given number count [] given = refl
not_given {A} number count (x ∷ xs) given =
    let aside = differs (number x) count (given x (inl refl)) in
    let rest = not_given number count xs (λ y m. given y (inr m)) in
    rw aside rest
  where
    differs : (a b : ℕ) → a < b → (a == b) ≡ false
    differs a b lt = grind (arith, lt)

-- the first number stays
pub first_stays : (known : Known) (life : Life) (o : Option Acquaintance) → (put_back known life o).first ≡ known.first
unfolding put_back
first_stays known life None = refl
first_stays known life (Some a) = refl

pub accepts : Accepts
accepts e v req piece s sound o allowed leased new =
    let receive = receive_in v req in
    let ground : IsGround e.regions v = record { regions = s.regions; leases = s.leases; holds = s.holds } in
    let free = not_given (λ (l : LiveReceive). l.receive.number) v.receive_count v.receives o.given in
    let out = lease_shows e.regions v receive ground free allowed in
    let part = part_is_out e.regions v receive piece sound ground allowed leased in
    let shows = new_shows (record { 0 = v.receive_count }) _ req piece receive (part_of v req) refl refl refl part.0 part.1 in
    record {
      own = s.own;
      regions = out.regions;
      leases = out.leases;
      holds = out.holds;
      lives = s.lives;
      peers = s.peers;
      first = s.first;
      posted = s.posted;
      arrived = s.arrived;
      early = s.early;
      sends = s.sends;
      sends_made = s.sends_made;
      receives = like_put Receive.Shows e.receives.list v.receives _ _ s.receives shows;
      each_receive = λ r m. elim (member-append_cases r e.receives.list _ m) [ inl k ↦ s.each_receive r k | inr k ↦ last r k ];
      receives_made = ap (λ n. n + 1) s.receives_made;
      owed = s.owed;
      completed = s.completed;
      reserved = (let was = s.reserved in let more = length-append v.receives (record { receive = receive; part = part_of v req; matched = None } ∷ []) in omega (arith, was, more));
      polled = s.polled;
    }
  where
    last : (r : ReceiveView) → Member r (posted (record { 0 = v.receive_count }) (named_in v req.from) req piece ∷ []) → IsReceive r
    last r (inl is) = subst IsReceive is new
    last r (inr none) = elim none [ ]

pub knows : Knows
knows e v life s none =
    record {
      own = s.own;
      regions = s.regions;
      leases = s.leases;
      holds = s.holds;
      lives = s.lives;
      peers = opening_shows e.peers life v s.peers none;
      first = s.first;
      posted = s.posted;
      arrived = s.arrived;
      early = s.early;
      sends = s.sends;
      sends_made = s.sends_made;
      receives = s.receives;
      each_receive = s.each_receive;
      receives_made = s.receives_made;
      owed = s.owed;
      completed = s.completed;
      reserved = s.reserved;
      polled = s.polled;
    }

pub learns : Learns
unfolding after_item
learns e v life words connid raw s there =
    record {
      own = s.own;
      regions = s.regions;
      leases = s.leases;
      holds = s.holds;
      lives = s.lives;
      peers = learning_shows e.peers life words connid raw v s.peers there;
      first = first_stays e.peers life _ ∙ s.first;
      posted = s.posted;
      arrived = s.arrived;
      early = s.early;
      sends = s.sends;
      sends_made = s.sends_made;
      receives = s.receives;
      each_receive = s.each_receive;
      receives_made = s.receives_made;
      owed = s.owed;
      completed = s.completed;
      reserved = s.reserved;
      polled = s.polled;
    }

pub greets : Greets
unfolding greet
greets e v life raw owed s there new becomes =
    record {
      own = s.own;
      regions = s.regions;
      leases = s.leases;
      holds = s.holds;
      lives = s.lives;
      peers = meeting_shows e.peers life raw v s.peers there;
      first = first_stays e.peers life _ ∙ s.first;
      posted = s.posted;
      arrived = s.arrived;
      early = s.early;
      sends = s.sends;
      sends_made = s.sends_made;
      receives = s.receives;
      each_receive = s.each_receive;
      receives_made = s.receives_made;
      owed = becomes v.own (bytes_of v.sends) ∙ (let hello = greetings_greet v.own (bytes_of v.sends) life raw in λ i. s.owed i ++ hello i)
          ∙ ap (λ b. v.owed ++ cond (not b) (reply life (greeting v.own raw) ∷ []) []) (sym new);
      completed = s.completed;
      reserved = s.reserved;
      polled = s.polled;
    }

-- a life that was met, or is not to be met: nothing changes but how its account is written
pub passes : Passes
unfolding greet
passes e v life raw s = (
  λ met. record {
    own = s.own;
    regions = s.regions;
    leases = s.leases;
    holds = s.holds;
    lives = s.lives;
    peers = λ other. met_already other met;
    first = s.first;
    posted = s.posted;
    arrived = s.arrived;
    early = s.early;
    sends = s.sends;
    sends_made = s.sends_made;
    receives = s.receives;
    each_receive = s.each_receive;
    receives_made = s.receives_made;
    owed = s.owed ∙ sym (append-nil v.owed) ∙ ap (λ b. v.owed ++ cond (not b) (reply life (greeting v.own raw) ∷ []) []) (sym met);
    completed = s.completed;
    reserved = s.reserved;
    polled = s.polled;
  },
  record {
    own = s.own;
    regions = s.regions;
    leases = s.leases;
    holds = s.holds;
    lives = s.lives;
    peers = passing_shows e.peers life raw v s.peers;
    first = s.first;
    posted = s.posted;
    arrived = s.arrived;
    early = s.early;
    sends = s.sends;
    sends_made = s.sends_made;
    receives = s.receives;
    each_receive = s.each_receive;
    receives_made = s.receives_made;
    owed = s.owed ∙ sym (append-nil v.owed);
    completed = s.completed;
    reserved = s.reserved;
    polled = s.polled;
  },
)
  where
    met_already : (other : Life) → (v.peers life).met ≡ true → ShowsPeer e.peers.first (account_of e.peers other) (cond (same_life other life) (record (v.peers other) { met = true }) (v.peers other))
    met_already other met =
        elim (same_life other life) as (λ b. same_life other life ≡ b → ShowsPeer e.peers.first (account_of e.peers other) (cond b (record (v.peers other) { met = true }) (v.peers other))) [
          | true ↦ λ is.
              let q = s.peers other in
              let there : (v.peers other).met ≡ true = ap (λ l. (v.peers l).met) (same_life-true other life is) ∙ met in
              record { met = sym there ∙ q.met; known = q.known; first_heard = q.first_heard; number = q.number; heard = q.heard; next = q.next; least = q.least }
          | false ↦ λ is. s.peers other
        ] refl

-- lists that differ in their last alone
last_same : (xs : List LiveSend) (a b : LiveSend) → xs ++ a ∷ [] ≡ xs ++ b ∷ [] → a ≡ b
last_same xs a b h = one (append_cancel_left xs (a ∷ []) (b ∷ []) h)
  where
    one : a ∷ [] ≡ b ∷ [] → a ≡ b
    one e = cc

-- a send that is accepted
pub begins : Begins
unfolding send_to bytes_of_found new_sent
begins e v req to s o here there left none =
    let live : LiveSend = begun_send v.own (sent_in v req to) in
    let free : send_numbered v v.send_count ≡ None = not_given number_of v.send_count v.sends o.sends_given in
    let b = begins_as_kept v req to here in
    let same : b.0 ≡ live = last_same v.sends b.0 live (sym b.1 ∙ ap (λ c. (send_to req c v).sends) here) in
    let shows_begun = subst (IsSend (new_sending (sender v.own) (place_in v to) req)) same b.2 in
    let ground = hold_shows e.regions v live (record { regions = s.regions; leases = s.leases; holds = s.holds }) free in
    subst (λ c. Shows (begun (new_sending (sender v.own) (place_in v to) req) (changed e.peers to numbered) e) (send_to req c v)) (sym here)
    (record {
      own = s.own;
      regions = record { count_is = ground.regions.count_is; size_is = ground.regions.size_is; home_is = ground.regions.home_is };
      leases = ground.leases;
      holds = subst (λ n. ShowsHolds (with_holds e.regions n req.parts) (v.sends ++ live ∷ [])) (sym s.sends_made) ground.holds;
      lives = s.lives;
      peers = numbering_shows e.peers to req v s.peers there left;
      first = first_stays e.peers to _ ∙ s.first;
      posted = s.posted;
      arrived = s.arrived;
      early = s.early;
      sends = record {
        like = like_put (IsEntry number_of IsSend) e.sends.list v.sends _ live s.sends.like (s.sends_made, shows_begun);
        rise = rise_last number_of 0 v.sends live (omega arith) s.sends.rise o.sends_given;
      };
      sends_made = ap (λ n. n + 1) s.sends_made;
      receives = s.receives;
      each_receive = s.each_receive;
      receives_made = s.receives_made;
      owed = only_given_bytes_count v.own (bytes_of v.sends) (bytes_of (v.sends ++ live ∷ [])) e.owed.owed (λ r send m gives.
          elim (v.send_count == send) as (λ b. (v.send_count == send) ≡ b → bytes_of v.sends send ≡ bytes_of (v.sends ++ live ∷ []) send) [
            | true ↦ λ is. absurd (none r (subst (Member r) s.owed m) (gives ∙ ap (λ (n : ℕ). Some n) (sym (number_is v.send_count send is))))
            | false ↦ λ is. ap bytes_of_found (sym (find_aside (is_send send) v.sends live is))
          ] refl) ∙ s.owed;
      completed = s.completed;
      reserved = (let was = s.reserved in let more = length-append v.sends (live ∷ []) in omega (arith, was, more));
      polled = s.polled;
    })
  where
    number_is : (a b : ℕ) → (a == b) ≡ true → a ≡ b
    number_is a b h = grind (arith, h)
