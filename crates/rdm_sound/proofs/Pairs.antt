-- Pairs of which the first is taken before the others.
use Rattle.std.proofs.Common.{◌≡◌, ℕ, suc, ◌-◌, Bool, true, false, cond, List, [], ◌∷◌, Option, Some, None, map, length, refl, arith, sym, ◌∙◌, ap, subst}
use Rattle.std.specs.Prelude.{◌==◌, ◌&&◌, ◌||◌, filter, find, if◌then◌else◌}
use Rattle.std.proofs.Math.Path.{fun_ext}
use Rattle.std.proofs.lemmas.Bool.{eqb-true, eq-eqb, false_from_ne_true, and_parts}
use Rattle.rdm_lists.specs.Lists.{Member}
use Rattle.rdm_lists.proofs.Members.{find_member, map-member}
use Rattle.rdm_num.specs.Lives.{same_life}
use Rattle.rdm_num.proofs.Lives.{same_life-true}
use Rattle.rdm_num.specs.declared.numbers.Life.{Life}
use Rattle.rdm_match.specs.Matcher.{Pair, is_recv}
use Rattle.rdm_model.specs.Completions.{Name, is_matched}
use Rattle.rdm_life.specs.Kept.{Kept, EarlyMessage, LiveReceive, is_receive, change_where}
use Rattle.rdm_life.specs.Landing.{with_message, with_pair}
use Rattle.rdm_life.proofs.Meets.{with_pairs}
use Rattle.rdm_life.proofs.Settling.{numbers_of}
use Rattle.rdm_sound.specs.Premises.{names_of}
use Rattle.rdm_sound.specs.Steps.{without_early}
use Rattle.rdm_sound.proofs.Lists.{find_nothing}

-- a receive has its message before it settles
abbrev pub taken : Pair → Kept → Kept
taken p v =
    record (without_early p.message.life p.message.no.0 v) {
      receives = change_where (is_receive p.recv.id.0) (with_message p (v.early p.message.life p.message.no.0)) v.receives;
    }

-- the pair of a receive among some
abbrev pub pair_in : List Pair → LiveReceive → Option Pair
pair_in ps r = find (λ (p : Pair). is_recv r.receive.number p.recv) ps

-- a receive with the message of its pair
abbrev pub paired : Kept → List Pair → LiveReceive → LiveReceive
paired v ps r = with_pair v (pair_in ps r) r

-- a message leaves what a receive was accepted as
pub message_same : (p : Pair) (e : Option EarlyMessage) (r : LiveReceive) → (with_message p e r).receive ≡ r.receive
unfolding with_message
message_same p None r = refl
message_same p (Some e) r = refl

pub pair_same : (v : Kept) (o : Option Pair) (r : LiveReceive) → (with_pair v o r).receive ≡ r.receive
unfolding with_pair
pair_same v None r = refl
pair_same v (Some p) r = message_same p (v.early p.message.life p.message.no.0) r

-- the test of a pair's receive, from both sides
turn : (m n : ℕ) → (m == n) ≡ (n == m)
turn m n =
    elim (m == n) as (λ b. (m == n) ≡ b → b ≡ (n == m)) [
      | true ↦ λ e. sym (eq-eqb n m (sym (eqb-true m n e)))
      | false ↦ λ e. sym (false_from_ne_true (n == m) (λ k. let same = eq-eqb m n (sym (eqb-true n m k)) in let wrong : true ≡ false = sym same ∙ e in cc))
    ] refl

-- a receive of another number has no pair among some
pub no_pair : (n : ℕ) (ps : List Pair) (r : LiveReceive) → (Member n (numbers_of ps) → ⊥) → is_receive n r ≡ true → pair_in ps r ≡ None
unfolding is_recv
no_pair n ps r not_there is =
    find_nothing (λ (p : Pair). is_recv r.receive.number p.recv) ps
    (λ p m. false_from_ne_true (p.recv.id.0 == r.receive.number)
    (λ e. not_there (subst (λ (k : ℕ). Member k (numbers_of ps)) (eqb-true p.recv.id.0 r.receive.number e ∙ eqb-true r.receive.number n is) (map-member (λ (q : Pair). q.recv.id.0) p ps m))))

-- so it stays as it is
pub unpaired : (v : Kept) (n : ℕ) (ps : List Pair) (r : LiveReceive) → (Member n (numbers_of ps) → ⊥) → is_receive n r ≡ true → paired v ps r ≡ r
unfolding with_pair
unpaired v n ps r not_there is = ap (λ o. with_pair v o r) (no_pair n ps r not_there is)

-- what other messages brought is early as before
early_stays : (p : Pair) (v : Kept) (ps : List Pair) (q : Pair) → (Member (record { life = p.message.life; number = p.message.no.0 }) (names_of ps) → ⊥) → Member q ps
    → v.early q.message.life q.message.no.0 ≡ (taken p v).early q.message.life q.message.no.0
early_stays p v ps q not_there m =
    let other : (same_life p.message.life q.message.life && p.message.no.0 == q.message.no.0) ≡ false =
    false_from_ne_true (same_life p.message.life q.message.life && p.message.no.0 == q.message.no.0) (λ e.
    let a = and_parts (same_life p.message.life q.message.life) (p.message.no.0 == q.message.no.0) e in
    let life : q.message.life ≡ p.message.life = sym (same_life-true p.message.life q.message.life a.0) in
    let number : q.message.no.0 ≡ p.message.no.0 = sym (eqb-true p.message.no.0 q.message.no.0 a.1) in
    let name : Name = record { life = q.message.life; number = q.message.no.0 } in
    let N : Life → ℕ → Name = λ l n. record { life = l; number = n } in
    not_there (subst (λ (x : Name). Member x (names_of ps)) (ap (λ l. N l q.message.no.0) life ∙ ap (N p.message.life) number)
    (map-member (λ (x : Pair). N x.message.life x.message.no.0) q ps m))) in
    sym (ap (λ b. cond b None (v.early q.message.life q.message.no.0)) other)

-- and a receive takes it as before
pair_stays : (p : Pair) (v : Kept) (ps : List Pair) (r : LiveReceive) → (Member (record { life = p.message.life; number = p.message.no.0 }) (names_of ps) → ⊥)
    → paired v ps r ≡ paired (taken p v) ps r
unfolding with_pair
pair_stays p v ps r not_there =
    (elim (pair_in ps r) as (λ o. pair_in ps r ≡ o → with_pair v o r ≡ with_pair (taken p v) o r) [
      | None ↦ λ none. refl
      | Some q ↦ λ found. ap (λ e. with_message q e r) (early_stays p v ps q not_there (find_member (λ (x : Pair). is_recv r.receive.number x.recv) q ps found).0)
    ]) refl

-- each receive takes its message with the others or before them
receive_first : (p : Pair) (v : Kept) (ps : List Pair) (r : LiveReceive) → (Member p.recv.id.0 (numbers_of ps) → ⊥)
    → (Member (record { life = p.message.life; number = p.message.no.0 }) (names_of ps) → ⊥)
    → paired v (p ∷ ps) r ≡ paired (taken p v) ps (if is_receive p.recv.id.0 r then with_message p (v.early p.message.life p.message.no.0) r else r)
unfolding with_pair is_recv
receive_first p v ps r no_number no_name =
    let n = p.recv.id.0 in
    let e = v.early p.message.life p.message.no.0 in
    ap (λ b. with_pair v (cond b (Some p) (pair_in ps r)) r) (turn n r.receive.number)
    ∙ (elim (is_receive n r) as (λ b. is_receive n r ≡ b → with_pair v (cond b (Some p) (pair_in ps r)) r ≡ paired (taken p v) ps (cond b (with_message p e r) r)) [
      | true ↦ λ is. sym (unpaired (taken p v) n ps (with_message p e r) no_number (ap (λ s. s.number == n) (message_same p e r) ∙ is))
      | false ↦ λ _. pair_stays p v ps r no_name
    ]) refl

receives_first : (p : Pair) (v : Kept) (ps : List Pair) (rs : List LiveReceive) → (Member p.recv.id.0 (numbers_of ps) → ⊥)
    → (Member (record { life = p.message.life; number = p.message.no.0 }) (names_of ps) → ⊥)
    → map (paired v (p ∷ ps)) rs ≡ map (paired (taken p v) ps) (change_where (is_receive p.recv.id.0) (with_message p (v.early p.message.life p.message.no.0)) rs)
unfolding change_where
receives_first p v ps [] no_number no_name = refl
receives_first p v ps (r ∷ rs) no_number no_name =
    ap (λ x. x ∷ map (paired v (p ∷ ps)) rs) (receive_first p v ps r no_number no_name)
    ∙ ap (λ xs. paired (taken p v) ps (if is_receive p.recv.id.0 r then with_message p (v.early p.message.life p.message.no.0) r else r) ∷ xs) (receives_first p v ps rs no_number no_name)

-- what is early after the first and then the others
early_first : (b c : Bool) (e : Option EarlyMessage) → cond (b || c) None e ≡ cond c None (cond b None e)
early_first true true e = refl
early_first true false e = refl
early_first false c e = refl

less_first : (a k : ℕ) → a - suc k ≡ a - 1 - k
less_first a k = omega arith

count_first : (a : ℕ) (b : Bool) (p : Pair) (qs : List Pair) → a - length (cond b (p ∷ qs) qs) ≡ cond b (a - 1) a - length qs
count_first a true p qs = less_first a (length qs)
count_first a false p qs = refl

-- the messages of all pairs are taken at once, or the first before the others
pub pairs_first : (p : Pair) (ps : List Pair) (v : Kept) → (Member p.recv.id.0 (numbers_of ps) → ⊥)
    → (Member (record { life = p.message.life; number = p.message.no.0 }) (names_of ps) → ⊥)
    → with_pairs (p ∷ ps) v ≡ with_pairs ps (taken p v)
unfolding is_matched
pairs_first p ps v no_number no_name =
    let P : List LiveReceive → (Life → ℕ → Option EarlyMessage) → (Life → ℕ) → ℕ → Kept = λ rs early early_of early_count. record v { receives = rs; early = early; early_of = early_of; early_count = early_count } in
    let early = fun_ext (λ life. fun_ext (λ number.
    early_first (same_life p.message.life life && p.message.no.0 == number) (is_matched ps (record { life = life; number = number })) (v.early life number))) in
    let early_of = fun_ext (λ life. count_first (v.early_of life) (same_life p.message.life life) p (filter (λ (q : Pair). same_life q.message.life life) ps)) in
    ap (λ rs. P rs (with_pairs (p ∷ ps) v).early (with_pairs (p ∷ ps) v).early_of (with_pairs (p ∷ ps) v).early_count) (receives_first p v ps v.receives no_number no_name)
    ∙ ap (λ e. P (with_pairs ps (taken p v)).receives e (with_pairs (p ∷ ps) v).early_of (with_pairs (p ∷ ps) v).early_count) early
    ∙ ap (λ e. P (with_pairs ps (taken p v)).receives (with_pairs ps (taken p v)).early e (with_pairs (p ∷ ps) v).early_count) early_of
    ∙ ap (P (with_pairs ps (taken p v)).receives (with_pairs ps (taken p v)).early (with_pairs ps (taken p v)).early_of) (less_first v.early_count (length ps))
