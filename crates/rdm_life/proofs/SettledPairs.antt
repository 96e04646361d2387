-- The pairs of which a deed brings something: the receive of each is out, and has the message as far as it came; no other pair owes or completes anything.
use Rattle.std.proofs.Common.{◌≡◌, ℕ, Bool, true, false, not, ◌&&◌, List, [], ◌∷◌, ◌++◌, length, Some, refl, arith, inl, inr, sym, ◌∙◌, ap, subst}
use Rattle.std.specs.Prelude.{◌==◌, find, flat_map, option_map}
use Rattle.std.proofs.Math.Bool.{and-true}
use Rattle.std.proofs.lemmas.Bool.{eqb-true, eq-eqb}
use Rattle.std.proofs.lemmas.List.{append-nil}
use Rattle.std.proofs.lemmas.Grind.{flat_map-append}
use Rattle.rdm_lists.specs.Lists.{Member}
use Rattle.rdm_lists.proofs.Members.{member-append_left, member-append_right, member-append_cases}
use Rattle.rdm_lists.proofs.Same.{flat_map_none}
use Rattle.rdm_num.specs.Pieces.{covers}
use Rattle.rdm_match.specs.Matcher.{Pair, is_pair}
use Rattle.rdm_model.specs.Beginnings.{Own, Heads}
use Rattle.rdm_model.specs.Deeds.{Deed, Did}
use Rattle.rdm_model.specs.Matches.{Receive, receives, received_by, with_received, pairs}
use Rattle.rdm_model.specs.declared.job.Instr.TheVariants.{Recv}
use Rattle.rdm_model.specs.Receives.{is_filled, receive_numbered as numbered}
use Rattle.rdm_model.specs.Parts.{has_landed}
use Rattle.rdm_model.proofs.Grows.{agree_grows}
use Rattle.rdm_model.proofs.SameReceives.{is_filled_same}
use Rattle.rdm_model.proofs.Matches.{member_is_pair}
use Rattle.rdm_law.proofs.Bound.Pigeons.{AreDistinct}
use Rattle.rdm_law.proofs.Matching.Numbered.{matching_numbered}
use Rattle.rdm_law.proofs.Matching.Received.{receive_once}
use Rattle.rdm_life.specs.Kept.{Kept, is_receive, receive_numbered}
use Rattle.rdm_life.specs.Landing.{has_all}
use Rattle.rdm_life.specs.Keeps.{told, own_pairs, own_live_receives, pair_of}
use Rattle.rdm_life.proofs.SendFacts.{find_map}
use Rattle.rdm_life.proofs.Made.{made}
use Rattle.rdm_life.proofs.MadePairs.{made_after, made_new, made_unmatched, apart_distinct}
use Rattle.rdm_life.proofs.MatchingSilent.{unpaired}
use Rattle.rdm_life.proofs.MessageFacts.{filled_received}
use Rattle.rdm_life.proofs.Owing.{BringsNone}
use Rattle.rdm_life.proofs.Pairs.{pairs_added}
use Rattle.rdm_life.proofs.Settling.{Touches, Landed, out_with, landed_message, landed_receive}
use Rattle.rdm_life.proofs.TakenBy.{false_unless, find_one, pair_is}
use Rattle.rdm_life.proofs.Apart.{own_ended, live_is}

-- a pair of a list of one
old_member : (own : Own) (log : List Deed) (ps : List Pair) (p q : Pair) → ps ≡ q ∷ [] → Member q (own_pairs own log) → Member p ps → Member p (own_pairs own log)
old_member own log ps p q one old m =
    elim (subst (λ (qs : List Pair). Member p qs) one m) [
      | inl is ↦ subst (λ (x : Pair). Member x (own_pairs own log)) is old
      | inr never ↦ elim never [ ]
    ]

-- it is a pair after the deed
touched_paired : (own : Own) (d : Deed) (log : List Deed) (is_new : Bool) (ps : List Pair) (p : Pair) → Touches own d log is_new ps → Member p ps → Member p (own_pairs own (d ∷ log))
touched_paired own d log is_new ps p t m =
    elim t.which [
      | inl a ↦ made_after own d log p (subst (λ (qs : List Pair). Member p qs) a.1 m)
      | inr a ↦ subst (λ (qs : List Pair). Member p qs) (sym (pairs_added own d log))
          (member-append_left p (own_pairs own log) (made own d log) (old_member own log ps p a.2.0 a.2.1 a.2.2 m))
    ]

-- a deed numbers the receive that it accepts after those before it
pub received_number : (d : Deed) (log : List Deed) (r : Receive) → Member r (received_by (receives log) log d) → r.number ≡ length (receives log)
unfolding received_by
received_number (Did (Recv req)) log r (inl is) = ap (λ (x : Receive). x.number) (sym is)
received_number (Did (Recv req)) log r (inr never) = elim never [ ]
received_number _ log r m = elim m [ ]

-- the receives that are out were accepted
pub out_accepted : (own : Own) (d : Deed) (log : List Deed) (r : Receive) → Member r (out_with own d log) → Member r (receives (d ∷ log))
unfolding receives with_received
out_accepted own d log r m =
    elim (member-append_cases r (own_live_receives own log) (received_by (receives log) log d) m) [
      | inl a ↦ member-append_left r (receives log) (received_by (receives log) log d) (live_is own log r a).0
      | inr a ↦ member-append_right r (receives log) (received_by (receives log) log d) a
    ]

-- so each is found by its number among them
pub out_found : (own : Own) (d : Deed) (log : List Deed) (r : Receive) (n : ℕ) → Member r (out_with own d log) → r.number ≡ n → find (λ (q : Receive). q.number == n) (out_with own d log) ≡ Some r
out_found own d log r n m is =
    find_one (λ (q : Receive). q.number == n) r (out_with own d log) m (eq-eqb r.number n is)
    (λ q k same. receive_once (d ∷ log) q r (out_accepted own d log q k) (out_accepted own d log r m) (eqb-true q.number n same ∙ sym is))

-- and among all that were accepted
pub accepted_found : (own : Own) (d : Deed) (log : List Deed) (r : Receive) (n : ℕ) → Member r (out_with own d log) → r.number ≡ n → numbered (receives (d ∷ log)) n ≡ Some r
unfolding numbered
accepted_found own d log r n m is =
    let a = out_accepted own d log r m in
    find_one (λ (q : Receive). q.number == n) r (receives (d ∷ log)) a (eq-eqb r.number n is)
    (λ q k same. receive_once (d ∷ log) q r k a (eqb-true q.number n same ∙ sym is))

-- it is kept with its bytes
pub landed_found : (own : Own) (d : Deed) (log : List Deed) (u : Kept) (r : Receive) (n : ℕ) → Landed own d log u → Member r (out_with own d log) → r.number ≡ n
    → receive_numbered u n ≡ Some (landed_receive own d log r)
landed_found own d log u r n l m is =
    ap (find (is_receive n)) l.receives_are
    ∙ find_map (landed_receive own d log) (is_receive n) (out_with own d log)
    ∙ ap (option_map (landed_receive own d log)) (out_found own d log r n m is)

-- a receive that is out has not ended with the message of a pair that was made before
out_unfilled : (own : Own) (d : Deed) (log : List Deed) (r : Receive) (p : Pair) → Member p (own_pairs own log) → Member r (out_with own d log) → r.number ≡ p.recv.id.0
    → is_filled own.limits.first (told own log).head log p ≡ false
out_unfilled own d log r p old m is =
    false_unless (is_filled own.limits.first (told own log).head log p) (λ filled.
    let ended = (filled_received own 0 [] log p old filled).1 in
    elim (member-append_cases r (own_live_receives own log) (received_by (receives log) log d) m) [
      | inl a ↦ (let wrong : true ≡ false = sym ended ∙ ap (own_ended own log) (sym is) ∙ (live_is own log r a).1 in cc)
      | inr a ↦ (
          let low = (matching_numbered own.limits.first (told own log).head log).pairs_below p old in
          let high = received_number d log r a in
          absurd (omega arith))
    ])

-- a pair of which a deed brings something
pub record Touched (own : Own) (d : Deed) (log : List Deed) (is_new : Bool) (p : Pair) : Type 0 where
  pub recv : Receive
  pub out : Member recv (out_with own d log)
  pub number_is : recv.number ≡ p.recv.id.0
  pub paired : Member p (own_pairs own (d ∷ log))
  pub pair_is : pair_of own (d ∷ log) recv ≡ Some p
  pub new_is : is_new ≡ not (is_pair (own_pairs own log) p.recv.id.0 p.message.life p.message.no.0)
  pub unfilled : is_filled own.limits.first (told own log).head log p ≡ false

-- a pair that was not there was not filled
unpaired_unfilled : (first : ℕ) (heads : Heads) (log : List Deed) (p : Pair) → is_pair (pairs first heads log) p.recv.id.0 p.message.life p.message.no.0 ≡ false → is_filled first heads log p ≡ false
unfolding is_filled
unpaired_unfilled first heads log p h = rw h refl

-- whether it is new, and that it wasn't filled
touched_new : (own : Own) (d : Deed) (log : List Deed) (is_new : Bool) (ps : List Pair) (p : Pair) (r : Receive) → Touches own d log is_new ps → Member p ps → Member r (out_with own d log)
    → r.number ≡ p.recv.id.0
    → (is_new ≡ not (is_pair (own_pairs own log) p.recv.id.0 p.message.life p.message.no.0)) × (is_filled own.limits.first (told own log).head log p ≡ false)
touched_new own d log is_new ps p r t m out number =
    elim t.which [
      | inl a ↦ (
          let none = unpaired (own_pairs own log) p.recv.id.0 p.message.life p.message.no.0 (made_unmatched own d log p (subst (λ (qs : List Pair). Member p qs) a.1 m)) in
          (a.0 ∙ ap not (sym none), unpaired_unfilled own.limits.first (told own log).head log p none))
      | inr a ↦ (
          let old = old_member own log ps p a.2.0 a.2.1 a.2.2 m in
          (a.0 ∙ ap not (sym (member_is_pair (own_pairs own log) p old)), out_unfilled own d log r p old out number))
    ]

-- of each such pair
pub touched : (own : Own) (d : Deed) (log : List Deed) (is_new : Bool) (ps : List Pair) (p : Pair) → Touches own d log is_new ps → Member p ps → Touched own d log is_new p
touched own d log is_new ps p t m =
    let r = t.are_out p m in
    let paired = touched_paired own d log is_new ps p t m in
    let new = touched_new own d log is_new ps p r.0 t m r.1 r.2 in
    record {
      recv = r.0;
      out = r.1;
      number_is = r.2;
      paired = paired;
      pair_is = pair_is own (d ∷ log) r.0 p paired r.2;
      new_is = new.0;
      unfilled = new.1;
    }

-- a pair is filled once all of its message came
filled_by_all : (own : Own) (d : Deed) (log : List Deed) (p : Pair) → Member p (own_pairs own (d ∷ log))
    → is_filled own.limits.first (told own (d ∷ log)).head (d ∷ log) p ≡ has_all (landed_message own d log p)
unfolding is_filled has_landed covers
filled_by_all own d log p m = ap (λ b. b && has_all (landed_message own d log p)) (member_is_pair (own_pairs own (d ∷ log)) p m)

-- so the deed fills it where all came
pub all_is : (own : Own) (d : Deed) (log : List Deed) (is_new : Bool) (p : Pair) → Touched own d log is_new p
    → (is_filled own.limits.first (told own (d ∷ log)).head (d ∷ log) p && not (is_filled own.limits.first (told own (d ∷ log)).head log p)) ≡ has_all (landed_message own d log p)
all_is own d log is_new p t =
    let first = own.limits.first in
    let heads = (told own (d ∷ log)).head in
    let all = has_all (landed_message own d log p) in
    let unfilled = sym (is_filled_same first (told own log).head heads log p (agree_grows first d log).heads) ∙ t.unfilled in
    ap (λ b. b && not (is_filled first heads log p)) (filled_by_all own d log p t.paired) ∙ ap (λ b. all && not b) unfilled ∙ and-true all

-- the pairs before a deed are distinct
old_distinct : (own : Own) (log : List Deed) → AreDistinct (own_pairs own log)
old_distinct own log = apart_distinct (own_pairs own log) (matching_numbered own.limits.first (told own log).head log).pairs_apart

-- where only one element of a list makes anything, all of it is of that one
pub only_one : {A B : Type 0} (f : A → List B) (x : A) (xs : List A) → AreDistinct xs → Member x xs → ((y : A) → Member y xs → (y ≡ x → ⊥) → f y ≡ []) → flat_map f xs ≡ f x
only_one f x [] apart m none = elim m [ ]
only_one {A} {B} f x (y ∷ ys) apart (inl is) none =
    let rest : flat_map f ys ≡ [] = flat_map_none f ys (λ z k. none z (inr k) (λ same. apart.0 (subst (λ (w : A). Member w ys) (same ∙ sym is) k))) in
    ap (λ (zs : List B). f y ++ zs) rest ∙ append-nil (f y) ∙ ap f is
only_one {A} {B} f x (y ∷ ys) apart (inr m) none =
    let first : f y ≡ [] = none y (inl refl) (λ same. apart.0 (subst (λ (w : A). Member w ys) (sym same) m)) in
    ap (λ (zs : List B). zs ++ flat_map f ys) first ∙ only_one f x ys apart.1 m (λ z k. none z (inr k))

-- what pairs make of which nothing came is nothing: so all pairs make what these do
pub only_touched : {B : Type 0} (own : Own) (d : Deed) (log : List Deed) (is_new : Bool) (ps : List Pair) (f : Pair → List B) → Touches own d log is_new ps
    → ((p : Pair) → Member p (own_pairs own log) → BringsNone own d log p → f p ≡ []) → flat_map f (own_pairs own (d ∷ log)) ≡ flat_map f ps
only_touched {B} own d log is_new ps f t none =
    ap (flat_map f) (pairs_added own d log)
    ∙ flat_map-append f (own_pairs own log) (made own d log)
    ∙ elim t.which [
      | inl a ↦ (
          let olds : flat_map f (own_pairs own log) ≡ [] = flat_map_none f (own_pairs own log)
          (λ q k. none q k (t.others_quiet q k (λ m. made_new own d log q (subst (λ (qs : List Pair). Member q qs) a.1 m) k))) in
          ap (λ (xs : List B). xs ++ flat_map f (made own d log)) olds ∙ ap (flat_map f) (sym a.1))
      | inr a ↦ (
          let p = a.2.0 in
          let one : flat_map f (own_pairs own log) ≡ f p = only_one f p (own_pairs own log) (old_distinct own log) a.2.2
          (λ q k other. none q k (t.others_quiet q k (λ m. elim (subst (λ (qs : List Pair). Member q qs) a.2.1 m) [ inl is ↦ other (sym is) | inr never ↦ elim never [ ] ]))) in
          ap (λ (qs : List Pair). flat_map f (own_pairs own log) ++ flat_map f qs) a.1
          ∙ ap (λ (xs : List B). xs ++ []) one
          ∙ ap (flat_map f) (sym a.2.1))
    ]
