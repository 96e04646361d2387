-- Messages that are taken or forgotten, beside the record's.
use Rattle.std.proofs.Common.{◌≡◌, refl, sym, ap, subst, ◌∙◌, ℕ, ◌+◌, ◌-◌, ◌≤◌, Bool, true, false, not, ◌&&◌, ◌||◌, [], ◌∷◌, Option, None, length, arith, IsSome, leb-true, le-leb}
use Rattle.std.specs.Prelude.{◌==◌, cond, nat_le}
use Rattle.std.proofs.lemmas.Bool.{and_parts, and_from, eqb-true, eq-eqb}
use Rattle.std.specs.FinMap as map
use Rattle.rdm_num.specs.Lives.{same_life}
use Rattle.rdm_num.proofs.Lives.{same_life-true}
use Rattle.rdm_num.specs.declared.numbers.Life.{Life}
use Rattle.rdm_num.specs.declared.numbers.MsgNo.{MsgNo}
use Rattle.rdm_match.specs.Matcher.{Pair}
use Rattle.rdm_model.specs.Completions.{is_matched}
use Rattle.rdm_window.specs.Message.{Message}
use Rattle.rdm_window.specs.Early.{Key, Held, key_of, message_at, is_full, without_message, without_life, is_of_life}
use Rattle.rdm_window.proofs.Messages.{message_order_total, message_order-IsAntisymmetric}
use Rattle.rdm_life.specs.Kept.{Kept, EarlyMessage}
use Rattle.rdm_life.specs.Forgetting.{forget, is_among}
use Rattle.rdm_life.specs.Landing.{meet, settle}
use Rattle.rdm_held.specs.Held.{AreEarly, IsHeldIn, count_of}
use Rattle.rdm_held.proofs.Calls.{same_turned}
use Rattle.rdm_held.proofs.Counts.{count_remove, get_kept, both_parts, none_pass, all_pass}
use Rattle.rdm_held.proofs.Keys.{is_at, key_life, at_without}

-- numbers are the same the other way round
eq_turned : (a b : ℕ) → (a == b) ≡ (b == a)
eq_turned a b =
    elim (a == b) as (λ x. (a == b) ≡ x → x ≡ (b == a)) [
      | true ↦ λ h. sym (eq-eqb b a (sym (eqb-true a b h)))
      | false ↦ λ h.
          elim (b == a) as (λ y. (b == a) ≡ y → false ≡ y) [
            | true ↦ λ k. sym h ∙ eq-eqb a b (sym (eqb-true b a k))
            | false ↦ λ k. refl
          ] refl
    ] refl

-- and no other test
or_nothing : (b : Bool) → (b || false) ≡ b
or_nothing true = refl
or_nothing false = refl

-- a pair's message is the one of that life and number
pair_at : (life source : Life) (n at : MsgNo) → ((same_life source life && at.0 == n.0) || false) ≡ is_at life n source at
pair_at life source n at = or_nothing (same_life source life && at.0 == n.0) ∙ (λ i. same_turned source life i && eq_turned at.0 n.0 i)

-- a message less in both
less_early : (b c : Bool) (o : Option Message) (q : Option EarlyMessage) → c ≡ b → AreEarly o q → AreEarly (cond b None o) (cond c None q)
less_early true true o q same are = tt
less_early false false o q same are = are
less_early true false o q same are = let e : false ≡ true = same in cc
less_early false true o q same are = let e : true ≡ false = same in cc

-- a life has a message less where it is the pair's
met_less : (b : Bool) (p : Pair) (n k : ℕ) → n ≡ k → n - length (cond b (p ∷ []) []) ≡ cond b (k - 1) k
met_less true p n k is = omega (arith, is)
met_less false p n k is = omega (arith, is)

-- a message that meets its receive
pub meets : (h : Held) (v : Kept) (p : Pair) → IsHeldIn h v → IsSome (message_at h p.message.life p.message.no)
    → IsHeldIn (without_message h p.message.life p.message.no) (meet (p ∷ []) v)
unfolding meet settle is_matched
meets h v p held there =
    record {
      messages = λ life n.
          subst (λ o. AreEarly o ((meet (p ∷ []) v).early life n.0)) (sym (at_without h p.message.life p.message.no life n))
          (less_early
          (is_at life n p.message.life p.message.no)
          ((same_life p.message.life life && p.message.no.0 == n.0) || false)
          (message_at h life n)
          (v.early life n.0)
          (pair_at life p.message.life n p.message.no)
          (held.messages life n));
      of_lives = λ life.
          met_less (same_life p.message.life life) p (v.early_of life) (count_of h life) (held.of_lives life)
          ∙ sym (count_remove message_order_total message_order-IsAntisymmetric h.messages (is_of_life life) (key_of p.message.life p.message.no) there
          ∙ ap (λ b. cond b (count_of h life - 1) (count_of h life)) (key_life life p.message.life p.message.no));
      count = ap (λ n. n - 1) held.count
          ∙ sym (map.len-remove message_order_total h.messages (key_of p.message.life p.message.no)
          ∙ ap (λ b. cond b (map.len h.messages - 1) (map.len h.messages)) there);
    }

-- a message is left in both where it is not of the life
left_early : (b : Bool) (o : Option Message) (q : Option EarlyMessage) → AreEarly o q → AreEarly (cond (not b) o None) (cond (b || false) None q)
left_early true o q are = tt
left_early false o q are = are

-- a key is of one life
of_both : (life other : Life) (k : Key) → is_of_life other k ≡ true → is_of_life life k ≡ true → same_life other life ≡ true
unfolding same_life
of_both life other k one two =
    let a = and_parts (k.0.0 == other.port.0) (k.0.1 == other.connid.0) one in
    let b = and_parts (k.0.0 == life.port.0) (k.0.1 == life.connid.0) two in
    and_from (other.port.0 == life.port.0) (other.connid.0 == life.connid.0)
    (eq-eqb other.port.0 life.port.0 (sym (eqb-true k.0.0 other.port.0 a.0) ∙ eqb-true k.0.0 life.port.0 b.0))
    (eq-eqb other.connid.0 life.connid.0 (sym (eqb-true k.0.1 other.connid.0 a.1) ∙ eqb-true k.0.1 life.connid.0 b.1))

-- what would make another test hold that does not
not_so : (b c : Bool) → (b ≡ true → c ≡ true) → c ≡ false → not b ≡ true
not_so false c so h = refl
not_so true c so h = let e : c ≡ true = so refl in cc

-- how many a life has once another or the same is forgotten
left_of : (h : Held) (life other : Life) (n : ℕ) → n ≡ count_of h other → cond (same_life other life || false) 0 n ≡ count_of (without_life h life) other
left_of h life other n is =
    elim (same_life other life) as (λ b. same_life other life ≡ b → cond (b || false) 0 n ≡ count_of (without_life h life) other) [
      | true ↦ λ same. sym (none_pass message_order_total message_order-IsAntisymmetric h.messages (is_of_life other) (λ k. not (is_of_life life k)) (λ k of.
          ap not (ap (λ l. is_of_life l k) (sym (same_life-true other life same)) ∙ of)))
      | false ↦ λ apart. is ∙ sym (ap (λ m. map.len m) (all_pass message_order_total message_order-IsAntisymmetric h.messages (is_of_life other) (λ k. not (is_of_life life k)) (λ k of.
          not_so (is_of_life life k) (same_life other life) (of_both life other k of) apart)))
    ] refl

-- how many are left
less_all : (all of left total n : ℕ) → all ≡ total → n ≡ of → of + left ≡ total → all - (0 + n) ≡ left
less_all all of left total n a b c = omega (arith, a, b, c)

-- a life that is forgotten
pub forgets : (h : Held) (v : Kept) (life : Life) → IsHeldIn h v → IsHeldIn (without_life h life) (forget (life ∷ []) v)
unfolding forget is_among
forgets h v life held =
    record {
      messages = λ other n.
          subst (λ o. AreEarly o ((forget (life ∷ []) v).early other n.0))
          (sym (get_kept message_order_total message_order-IsAntisymmetric h.messages (λ k. not (is_of_life life k)) (key_of other n)
          ∙ ap (λ b. cond (not b) (message_at h other n) None) (key_life life other n)))
          (left_early (same_life other life) (message_at h other n) (v.early other n.0) (held.messages other n));
      of_lives = λ other. left_of h life other (v.early_of other) (held.of_lives other);
      count = less_all v.early_count (count_of h life) (map.len (without_life h life).messages) (map.len h.messages) (v.early_of life) held.count (held.of_lives life)
          (both_parts message_order_total message_order-IsAntisymmetric h.messages (is_of_life life));
    }

-- all places are taken where there are no fewer messages than places
full_by : (n size count : ℕ) → count ≡ n → n ≤ size → (n == size) ≡ nat_le size count
full_by n size count is within =
    elim (nat_le size count) as (λ b. nat_le size count ≡ b → (n == size) ≡ b) [
      | true ↦ λ h. let least = leb-true size count h in eq-eqb n size (omega (arith, least, is, within))
      | false ↦ λ h.
          elim (n == size) as (λ c. (n == size) ≡ c → c ≡ false) [
            | true ↦ λ k. let same = eqb-true n size k in sym (le-leb size count (omega (arith, same, is))) ∙ h
            | false ↦ λ k. refl
          ] refl
    ] refl

-- all places are taken exactly where the record says so
pub full_as_kept : (h : Held) (v : Kept) → IsHeldIn h v → map.len h.messages ≤ h.size → is_full h ≡ nat_le h.size v.early_count
full_as_kept h v held within = full_by (map.len h.messages) h.size v.early_count held.count within
