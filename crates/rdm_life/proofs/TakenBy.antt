-- Which live receive takes a message.
use Rattle.std.proofs.Common.{◌≡◌, ℕ, Bool, true, false, not, ◌&&◌, List, [], ◌∷◌, Option, Some, None, refl, eq-eqb, inl, inr, sym, ◌∙◌, ap, subst}
use Rattle.std.specs.Prelude.{◌==◌, find, option_map}
use Rattle.std.proofs.lemmas.Bool.{and_parts, and_from, eqb-true}
use Rattle.rdm_lists.specs.Lists.{Member}
use Rattle.rdm_lists.proofs.Members.{find_member, member_find, filter-member, list_any_member, member_list_any}
use Rattle.rdm_lists.proofs.Options.{some_of}
use Rattle.rdm_num.specs.Lives.{same_life}
use Rattle.rdm_num.specs.declared.numbers.Life.{Life}
use Rattle.rdm_num.proofs.Lives.{same_life-true, same_life-refl}
use Rattle.rdm_match.specs.Matcher.{Pair, is_recv}
use Rattle.rdm_model.specs.Beginnings.{Own}
use Rattle.rdm_model.specs.Completions.{is_matched}
use Rattle.rdm_model.specs.Deeds.{Deed}
use Rattle.rdm_model.specs.Matches.{Receive, receives}
use Rattle.rdm_model.specs.Receives.{live_receives}
use Rattle.rdm_law.proofs.Ends.Live.{pair_recv}
use Rattle.rdm_law.proofs.Matching.Distinct.{matching_distinct}
use Rattle.rdm_law.proofs.Matching.Numbered.{matching_numbered}
use Rattle.rdm_law.proofs.Matching.Received.{receive_once}
use Rattle.rdm_life.specs.Kept.{Kept, LiveReceive}
use Rattle.rdm_life.specs.Keeps.{told, own_pairs, own_live_receives, pair_of, matched_of, kept_receive, KeepsReceives}
use Rattle.rdm_life.specs.Handling.{is_message, receive_of}
use Rattle.rdm_life.proofs.SendFacts.{find_map}
use Rattle.rdm_life.proofs.Apart.{own_ended, live_is}

-- what can't be true is false
pub false_unless : (b : Bool) → (b ≡ true → ⊥) → b ≡ false
false_unless true wrong = absurd (wrong refl)
false_unless false wrong = refl

-- a list without an element that passes
pub find_none : {A : Type 0} (t : A → Bool) (xs : List A) → ((x : A) → Member x xs → t x ≡ false) → find t xs ≡ None
find_none t [] fails = refl
find_none t (x ∷ xs) fails = rw (fails x (inl refl)) (find_none t xs (λ y m. fails y (inr m)))

-- one element passes and is in the list: it's found
pub find_one : {A : Type 0} (t : A → Bool) (x : A) (xs : List A) → Member x xs → t x ≡ true → ((y : A) → Member y xs → t y ≡ true → y ≡ x) → find t xs ≡ Some x
find_one t x xs m passes one =
    let f = some_of (find t xs) (member_find t x xs m passes) in
    let p = find_member t f.0 xs f.1 in
    f.1 ∙ ap Some (one f.0 p.0 p.1)

-- the pair of a receive that has one
pub pair_is : (own : Own) (log : List Deed) (r : Receive) (p : Pair) → Member p (own_pairs own log) → r.number ≡ p.recv.id.0 → pair_of own log r ≡ Some p
unfolding is_recv
pair_is own log r p m is =
    let once = (matching_numbered own.limits.first (told own log).head log).once in
    find_one (λ (q : Pair). is_recv r.number q.recv) p (own_pairs own log) m (eq-eqb p.recv.id.0 r.number (sym is))
    (λ q k passes. once q p k m (eqb-true q.recv.id.0 r.number passes ∙ is))

-- a pair that is found is of that receive
pub pair_found : (own : Own) (log : List Deed) (r : Receive) (p : Pair) → pair_of own log r ≡ Some p → Member p (own_pairs own log) × (p.recv.id.0 ≡ r.number)
unfolding is_recv
pair_found own log r p is =
    let f = find_member (λ (q : Pair). is_recv r.number q.recv) p (own_pairs own log) is in
    (f.0, eqb-true p.recv.id.0 r.number f.1)

-- the live receive of a pair
pub record LiveOf (own : Own) (log : List Deed) (p : Pair) : Type 0 where
  pub recv : Receive
  pub live : Member recv (own_live_receives own log)
  pub number_is : recv.number ≡ p.recv.id.0
  pub pair_is : pair_of own log recv ≡ Some p

-- the receive of a pair is live where it has not ended
pub live_of : (own : Own) (log : List Deed) (p : Pair) → Member p (own_pairs own log) → own_ended own log p.recv.id.0 ≡ false → LiveOf own log p
unfolding live_receives
live_of own log p m not_ended =
    let r = pair_recv own.limits.first (told own log).head log p m in
    let going : not (own_ended own log r.recv.number) ≡ true = ap (λ (n : ℕ). not (own_ended own log n)) r.number_is ∙ ap not not_ended in
    record {
      recv = r.recv;
      live = filter-member (λ (x : Receive). not (own_ended own log x.number)) r.recv (receives log) r.accepted going;
      number_is = r.number_is;
      pair_is = pair_is own log r.recv p m r.number_is;
    }

-- the receive's pair is of that message
abbrev takes : Own → List Deed → Life → ℕ → Receive → Bool
takes own log source n r = is_message source n (option_map (matched_of own log) (pair_of own log r))

-- the live receive that takes a message, among those that are kept
pub receive_of_is : (own : Own) (log : List Deed) (v : Kept) (source : Life) (n : ℕ) → KeepsReceives own log v
    → receive_of v source n ≡ option_map (kept_receive own log) (find (takes own log source n) (own_live_receives own log))
unfolding kept_receive
receive_of_is own log v source n k =
    ap (λ (rs : List LiveReceive). find (λ (r : LiveReceive). is_message source n r.matched) rs) k.receives_are
    ∙ find_map (kept_receive own log) (λ (r : LiveReceive). is_message source n r.matched) (own_live_receives own log)

-- a receive that takes it has a pair of it
takes_pair : (own : Own) (log : List Deed) (source : Life) (n : ℕ) (r : Receive) (o : Option Pair) → is_message source n (option_map (matched_of own log) o) ≡ true
    → (p : Pair) × (o ≡ Some p) × (p.message.life ≡ source) × (p.message.no.0 ≡ n)
unfolding is_message
takes_pair own log source n r None h = cc
takes_pair own log source n r (Some p) h =
    let parts = and_parts (same_life p.message.life source) (p.message.no.0 == n) h in
    (p, refl, same_life-true p.message.life source parts.0, eqb-true p.message.no.0 n parts.1)

-- and a receive with a pair of it takes it
takes_of : (own : Own) (log : List Deed) (source : Life) (n : ℕ) (r : Receive) (p : Pair) → pair_of own log r ≡ Some p → p.message.life ≡ source → p.message.no.0 ≡ n → takes own log source n r ≡ true
unfolding is_message
takes_of own log source n r p is life number =
    ap (λ (o : Option Pair). is_message source n (option_map (matched_of own log) o)) is
    ∙ and_from (same_life p.message.life source) (p.message.no.0 == n) (subst (λ (l : Life). same_life p.message.life l ≡ true) life (same_life-refl p.message.life)) (eq-eqb p.message.no.0 n number)

-- the pair of a message that was matched
pub pair_of_message : (own : Own) (log : List Deed) (source : Life) (n : ℕ) → is_matched (own_pairs own log) (record { life = source; number = n }) ≡ true
    → (p : Pair) × Member p (own_pairs own log) × (p.message.life ≡ source) × (p.message.no.0 ≡ n)
unfolding is_matched
pair_of_message own log source n is =
    let m = list_any_member (λ (p : Pair). same_life p.message.life source && p.message.no.0 == n) (own_pairs own log) is in
    let parts = and_parts (same_life m.0.message.life source) (m.0.message.no.0 == n) m.2 in
    (m.0, m.1, same_life-true m.0.message.life source parts.0, eqb-true m.0.message.no.0 n parts.1)

-- a message of a pair was matched
pub message_of_pair : (own : Own) (log : List Deed) (source : Life) (n : ℕ) (p : Pair) → Member p (own_pairs own log) → p.message.life ≡ source → p.message.no.0 ≡ n
    → is_matched (own_pairs own log) (record { life = source; number = n }) ≡ true
unfolding is_matched
message_of_pair own log source n p m life number =
    member_list_any (λ (q : Pair). same_life q.message.life source && q.message.no.0 == n) p (own_pairs own log) m
    (and_from (same_life p.message.life source) (p.message.no.0 == n) (subst (λ (l : Life). same_life p.message.life l ≡ true) life (same_life-refl p.message.life)) (eq-eqb p.message.no.0 n number))

-- no receive takes a message that was not matched
pub none_takes : (own : Own) (log : List Deed) (source : Life) (n : ℕ) → is_matched (own_pairs own log) (record { life = source; number = n }) ≡ false
    → find (takes own log source n) (own_live_receives own log) ≡ None
none_takes own log source n unmatched =
    find_none (takes own log source n) (own_live_receives own log) (λ r m. false_unless (takes own log source n r) (λ is.
    let p = takes_pair own log source n r (pair_of own log r) is in
    let matched = message_of_pair own log source n p.0 (pair_found own log r p.0 p.1).0 p.2 p.3 in
    let wrong : true ≡ false = sym matched ∙ unmatched in
    cc))

-- nor one of which the receive has ended
pub done_takes : (own : Own) (log : List Deed) (source : Life) (n : ℕ) (p : Pair) → Member p (own_pairs own log) → p.message.life ≡ source → p.message.no.0 ≡ n
    → own_ended own log p.recv.id.0 ≡ true → find (takes own log source n) (own_live_receives own log) ≡ None
done_takes own log source n p m life number ended =
    let once = (matching_distinct own.limits.first (told own log).head log).once in
    find_none (takes own log source n) (own_live_receives own log) (λ r k. false_unless (takes own log source n r) (λ is.
    let q = takes_pair own log source n r (pair_of own log r) is in
    let found = pair_found own log r q.0 q.1 in
    let same : q.0 ≡ p = once q.0 p found.0 m (q.2 ∙ sym life) (q.3 ∙ sym number) in
    let number_is : r.number ≡ p.recv.id.0 = sym found.1 ∙ ap (λ (x : Pair). x.recv.id.0) same in
    let wrong : true ≡ false = sym ended ∙ ap (own_ended own log) (sym number_is) ∙ (live_is own log r k).1 in
    cc))

-- the live receive that was matched to a message takes it
pub live_takes : (own : Own) (log : List Deed) (source : Life) (n : ℕ) (p : Pair) → Member p (own_pairs own log) → p.message.life ≡ source → p.message.no.0 ≡ n
    → (l : LiveOf own log p) → find (takes own log source n) (own_live_receives own log) ≡ Some l.recv
live_takes own log source n p m life number l =
    let once = (matching_distinct own.limits.first (told own log).head log).once in
    find_one (takes own log source n) l.recv (own_live_receives own log) l.live (takes_of own log source n l.recv p l.pair_is life number)
    (λ r k is.
    let q = takes_pair own log source n r (pair_of own log r) is in
    let found = pair_found own log r q.0 q.1 in
    let same : q.0 ≡ p = once q.0 p found.0 m (q.2 ∙ sym life) (q.3 ∙ sym number) in
    let number_is : r.number ≡ l.recv.number = sym found.1 ∙ ap (λ (x : Pair). x.recv.id.0) same ∙ sym l.number_is in
    receive_once log r l.recv (live_is own log r k).0 (live_is own log l.recv l.live).0 number_is)
