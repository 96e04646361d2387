-- The messages of one life among those that are held.
use Rattle.std.proofs.Common.{◌≡◌, refl, sym, ap, subst, ◌∙◌, ℕ, Bool, true, false, [], ◌∷◌, Option, Some, None, IsSome, arith, ◌-◌, ◌<◌}
use Rattle.std.specs.Prelude.{cond, not, is_some, nat_eq}
use Rattle.std.specs.declared.cmp.Ordering.{Ordering}
use Rattle.std.specs.declared.cmp.Ordering.TheVariants.{Less, Equal, Greater}
use Rattle.std.specs.Ordering.{nat_cmp, is_gt, eq_by_cmp, ordering_then, ordering_reverse}
use Rattle.std.specs.Cmp.{IsTotalOrder, nat_cmp_total, then_total, on_total, tied_itself, Equal-is, first_so, second_so}
use Rattle.std.specs.FinMap as map
use Rattle.std.specs.BTreeMap.{BTreeMap, is_at}
use Rattle.std.specs.BTreeMap.Range.{IsLeBy, IsEntryInRange, IsRangeOf}
use Rattle.std.specs.Map.{lookup}
use Rattle.std.specs.declared.ops.Bound.TheVariants.{Included, Unbounded}
use Rattle.std.proofs.lemmas.Bool.{eqb-true, eq-eqb}
use Rattle.std.specs.Cmp.Derive.{both_true}
use Rattle.std.proofs.lemmas.Bool.Decides.{nat_tests}
use Rattle.std.proofs.lemmas.Map.Lookups.{exact_pairs, exact_unsigned}
use Rattle.rdm_num.specs.declared.numbers.Life.{Life}
use Rattle.rdm_num.specs.declared.numbers.MsgNo.{MsgNo}
use Rattle.rdm_window.specs.Message.{Message}
use Rattle.rdm_window.specs.Early.{Key, Held, message_order, key_of, message_at, is_of_life, without_message, without_life}
use Rattle.rdm_window.proofs.Messages.{message_order_total, message_order-IsAntisymmetric, held_in, Entries, held_of, get_of_entries}

-- by port, then by identifier
abbrev life_order : ℕ × ℕ → ℕ × ℕ → Ordering
life_order a b = ordering_then (nat_cmp a.0 b.0) (nat_cmp a.1 b.1)

-- lives are ordered in full
life_order_total : IsTotalOrder life_order
life_order_total = then_total (on_total (λ l. l.0) nat_cmp_total) (on_total (λ l. l.1) nat_cmp_total)

-- a life as a key has it
abbrev pub life_key : Life → ℕ × ℕ
life_key life = (life.port.0, life.connid.0)

-- a key of a life begins with it
pub key_of_life : (life : Life) (q : Key) → is_of_life life q ≡ true → q.0 ≡ life_key life
key_of_life life q h =
    λ i. (eqb-true q.0.0 life.port.0 (first_so _ (nat_eq q.0.1 life.connid.0) h) i, eqb-true q.0.1 life.connid.0 (second_so (nat_eq q.0.0 life.port.0) _ h) i)

-- what is not above in all is not above in the first part
first_not_above : (r s : Ordering) → is_gt (ordering_then r s) ≡ false → is_gt r ≡ false
first_not_above Less s h = refl
first_not_above Equal s h = refl
first_not_above Greater s h = h

-- neither is above the other
neither_above : (r s : Ordering) → s ≡ ordering_reverse r → is_gt r ≡ false → is_gt s ≡ false → r ≡ Equal
neither_above Less s e h k = let below : true ≡ false = ap is_gt (sym e) ∙ k in cc
neither_above Equal s e h k = refl
neither_above Greater s e h k = let above : true ≡ false = h in cc

-- nothing is above itself at number 0
not_above_zero : (n : ℕ) → is_gt (nat_cmp 0 n) ≡ false
not_above_zero n = grind (arith, nat_tests)

-- the first key of a life is not above its other keys
pub from_first : (life : Life) (q : Key) → is_of_life life q ≡ true → IsLeBy message_order (key_of life (record { 0 = 0 })) q
from_first life q h =
    rw (key_of_life life q h, tied_itself life_order_total (life_key life)) (not_above_zero q.1)

-- a key between two keys of a life is of that life
pub between_keys : (life : Life) (f q : Key) → is_of_life life q ≡ true → IsLeBy message_order (key_of life (record { 0 = 0 })) f → IsLeBy message_order f q → f.0 ≡ life_key life
between_keys life f q h low high =
    let below = first_not_above (life_order (life_key life) f.0) _ low in
    let above = first_not_above (life_order f.0 (life_key life)) _ (rw (key_of_life life q h) at high) in
    sym (exact_pairs nat_cmp nat_cmp exact_unsigned exact_unsigned (life_key life) f.0 (neither_above _ _ (life_order_total.antisymm f.0 (life_key life)) below above))

-- where no message of the life is held, nothing is forgotten
pub nothing_forgotten : (held : Held) (life : Life) → ((q : Key) → is_of_life life q ≡ true → map.get held.messages q ≡ None) → without_life held life ≡ held
nothing_forgotten held life none =
    ap (held_in held.size) (map.same_map message_order_total message_order-IsAntisymmetric _ _ (λ q.
    map.get-retain_keys held.messages (λ k. not (is_of_life life k)) q (λ x t. ap (λ k. not (is_of_life life k)) (sym (message_order-IsAntisymmetric q x t)))
    ∙ elim (is_of_life life q) as (λ b. is_of_life life q ≡ b → cond (not b) (map.get held.messages q) None ≡ map.get held.messages q) [
      | true ↦ λ e. sym (none q e)
      | false ↦ λ e. refl
    ] refl))

-- what is not there is nothing
not_some : {A : Type 0} (o : Option A) → (IsSome o → ⊥) → o ≡ None
not_some None h = refl
not_some (Some x) h = absurd (h refl)

-- the messages from the first number of a life on
abbrev pub FromFirst : Life → BTreeMap Key Message → Entries → Type 0
FromFirst life m r = IsRangeOf message_order (Included (key_of life (record { 0 = 0 }))) Unbounded m r

-- where there is no message from its first number on, the life has none
pub none_from_first : (size : ℕ) (m : BTreeMap Key Message) (held : Held) → held_of size m.entries ≡ held → (life : Life) (r : Entries) → FromFirst life m r → r ≡ [] → without_life held life ≡ held
none_from_first size m held is life r range empty =
    nothing_forgotten held life (λ q h. get_of_entries size m.entries held is q ∙ range.5 empty q (from_first life q h, tt))

-- the first entry from the first number of a life on
first_entry : (life : Life) (m : BTreeMap Key Message) (r rest : Entries) (e : Key × Message) → FromFirst life m r → r ≡ e ∷ rest → IsEntryInRange message_order (Included (key_of life (record { 0 = 0 }))) Unbounded m e
first_entry life m r rest e range is = (subst (FromFirst life m) is range).1

-- the first message from its first number on is the life's
pub first_is_held : (size : ℕ) (m : BTreeMap Key Message) (held : Held) → held_of size m.entries ≡ held → (life : Life) (r rest : Entries) (e : Key × Message) → FromFirst life m r → r ≡ e ∷ rest → e.0.0.0 ≡ life.port.0 → e.0.0.1 ≡ life.connid.0 → IsSome (message_at held life (record { 0 = e.0.1 }))
first_is_held size m held is life r rest e range starts port connid =
    ap is_some (ap (map.get held.messages) (λ i. ((sym port i, sym connid i), e.0.1)) ∙ get_of_entries size m.entries held is e.0 ∙ (first_entry life m r rest e range starts).1)

-- where that message is not the life's, the life has none
pub none_beside_first : (size : ℕ) (m : BTreeMap Key Message) (held : Held) → held_of size m.entries ≡ held → (life : Life) (r rest : Entries) (e : Key × Message) → FromFirst life m r → r ≡ e ∷ rest → (e.0.0 ≡ life_key life → ⊥) → without_life held life ≡ held
none_beside_first size m held is life r rest e range starts other =
    nothing_forgotten held life (λ q h.
    get_of_entries size m.entries held is q
    ∙ not_some (lookup (is_at (message_order q)) m.entries) (λ there.
    other (between_keys life e.0 q h (first_entry life m r rest e range starts).0.0 ((subst (FromFirst life m) starts range).2 q (from_first life q h, tt) there))))

-- a key of a life is one of that life
of_its_life : (life : Life) (number : MsgNo) → is_of_life life (key_of life number) ≡ true
of_its_life life number = both_true (eq-eqb life.port.0 life.port.0 refl) (eq-eqb life.connid.0 life.connid.0 refl)

-- to take out a key that does not pass changes nothing of those that pass
kept_anyway : {A : Type 0} (p tie : Bool) (o : Option A) → (tie ≡ true → p ≡ false) → cond p (cond tie None o) None ≡ cond p o None
kept_anyway true true o h = let e : true ≡ false = h refl in cc
kept_anyway true false o h = refl
kept_anyway false tie o h = refl

-- one message of the life less, and then the others
pub one_forgotten : (held : Held) (life : Life) (number : MsgNo) → without_life (without_message held life number) life ≡ without_life held life
one_forgotten held life number =
    let p = λ (k : Key). not (is_of_life life k) in
    let alike : (q x : Key) → message_order q x ≡ Equal → p x ≡ p q = λ q x t. ap p (sym (message_order-IsAntisymmetric q x t)) in
    ap (held_in held.size) (map.same_map message_order_total message_order-IsAntisymmetric _ _ (λ q.
    map.get-retain_keys (map.remove held.messages (key_of life number)) p q (alike q)
    ∙ ap (λ o. cond (p q) o None) (map.get-remove message_order_total held.messages (key_of life number) q)
    ∙ kept_anyway (p q) (eq_by_cmp message_order q (key_of life number)) (map.get held.messages q) (λ tie.
    ap p (message_order-IsAntisymmetric q (key_of life number) ((Equal-is _).0 tie)) ∙ ap not (of_its_life life number))
    ∙ sym (map.get-retain_keys held.messages p q (alike q))))

-- one less than some is less
one_less : (there : Bool) (n : ℕ) → there ≡ true → (n ≡ 0 → there ≡ false) → cond there (n - 1) n < n
one_less true n h some =
    let not_none : n ≡ 0 → ⊥ = λ e. let never : true ≡ false = some e in cc in
    omega arith
one_less false n h some = let e : false ≡ true = h in cc

-- each message that is taken leaves fewer
pub fewer_held : (held : Held) (life : Life) (number : MsgNo) → IsSome (message_at held life number) → map.len (without_message held life number).messages < map.len held.messages
fewer_held held life number there =
    let k = key_of life number in
    rw (map.len-remove message_order_total held.messages k) (one_less (is_some (map.get held.messages k)) (map.len held.messages) there (λ e.
    ap (λ (m : map.FinMap message_order Message). is_some (map.get m k)) (map.empty_of_len held.messages e) ∙ ap is_some (map.get-empty message_order k)))
