-- How many messages are early after a deed.
use Rattle.std.proofs.Common.{◌≡◌, ◌+◌, ◌-◌, Bool, true, false, cond, not, ◌&&◌, ◌||◌, List, [], ◌∷◌, ◌++◌, map, filter, length, Some, None, refl, arith, eq-eqb, suc, inl, inr, sym, ◌∙◌, ap, subst}
use Rattle.std.specs.Prelude.{◌==◌, is_some}
use Rattle.std.proofs.lemmas.Bool.{and_parts, and_from, not-true, eqb-true}
use Rattle.std.proofs.lemmas.List.{length-map}
use Rattle.std.specs.Bool.{then_some}
use Rattle.rdm_lists.specs.Lists.{Member, or_else}
use Rattle.rdm_pkt.specs.Heads.{head_of}
use Rattle.rdm_lists.proofs.Members.{member-append_cases, member-map, map-member, member-filter, filter-member, list_any_member, member_list_any}
use Rattle.rdm_lists.proofs.Same.{filter_same}
use Rattle.rdm_num.specs.Lives.{same_life}
use Rattle.rdm_num.specs.declared.numbers.Life.{Life}
use Rattle.rdm_num.proofs.Lives.{same_life-true, same_life-refl}
use Rattle.rdm_match.specs.Matcher.{Pair}
use Rattle.rdm_pkt.specs.declared.Packet.TheVariants.{Rtm}
use Rattle.rdm_model.specs.Beginnings.{Own}
use Rattle.rdm_model.specs.Completions.{Name, named_by, heard_names, is_matched}
use Rattle.rdm_model.specs.Currents.{is_forgotten}
use Rattle.rdm_model.specs.Deeds.{Deed, Took, Spelled}
use Rattle.rdm_model.specs.Heard.{heard_head, head_by, is_heard}
use Rattle.rdm_law.proofs.Bound.Pigeons.{AreDistinct, distinct_fit}
use Rattle.rdm_law.proofs.Lives.Lives.{LifeLocal}
use Rattle.rdm_law.proofs.Matching.Distinct.{is_heard_still}
use Rattle.rdm_life.specs.Keeps.{own_pairs, waits_early}
use Rattle.rdm_life.proofs.Made.{made}
use Rattle.rdm_life.proofs.MadePairs.{name_of, made_unmatched, made_kept, made_heard, made_once, made_distinct, matched_after_is}
use Rattle.rdm_life.proofs.MessageFacts.{named}
use Rattle.rdm_life.proofs.Tests.{and_all, and_none}

-- a filter keeps distinct elements distinct
filter_distinct : {A : Type 0} (t : A → Bool) (xs : List A) → AreDistinct xs → AreDistinct (filter t xs)
filter_distinct t [] apart = tt
filter_distinct {A} t (x ∷ xs) apart =
    (elim (t x) as (λ b. AreDistinct (cond b (x ∷ filter t xs) (filter t xs))) [
      | true ↦ (λ m. apart.0 (member-filter t x xs m).0, filter_distinct t xs apart.1)
      | false ↦ filter_distinct t xs apart.1
    ])

-- what passes one test passes another too or does not
pub filter_splits : {A : Type 0} (t u : A → Bool) (xs : List A) → length (filter (λ x. t x && not (u x)) xs) + length (filter (λ x. t x && u x) xs) ≡ length (filter t xs)
filter_splits t u [] = refl
filter_splits {A} t u (x ∷ xs) =
    let rest = filter_splits t u xs in
    (elim (t x) as (λ a. length (cond (a && not (u x)) (x ∷ filter (λ y. t y && not (u y)) xs) (filter (λ y. t y && not (u y)) xs))
    + length (cond (a && u x) (x ∷ filter (λ y. t y && u y) xs) (filter (λ y. t y && u y) xs)) ≡ length (cond a (x ∷ filter t xs) (filter t xs))) [
      | false ↦ rest
      | true ↦ (elim (u x) as (λ b. length (cond (not b) (x ∷ filter (λ y. t y && not (u y)) xs) (filter (λ y. t y && not (u y)) xs))
          + length (cond b (x ∷ filter (λ y. t y && u y) xs) (filter (λ y. t y && u y) xs)) ≡ suc (length (filter t xs))) [
            | true ↦ omega arith
            | false ↦ omega arith
          ])
    ])

-- tests in another order
shuffle : (a b c d : Bool) → (not (a || b) && c && d) ≡ ((not a && c && d) && not b)
shuffle true b c d = refl
shuffle false true c d = sym (and_none (c && d))
shuffle false false c d = sym (and_all (c && d))

-- a name that a deed adds was not heard of, and is then
named_parts : (d : Deed) (before : List Deed) (m : Name) → Member m (named_by before d) → (is_heard before m.life m.number ≡ false) × (is_heard (d ∷ before) m.life m.number ≡ true)
unfolding named_by is_heard heard_head head_by or_else
named_parts (Took from (Spelled (Rtm number tag confirm opt form))) before m k =
    let f = member-filter (λ (x : Name). not (is_some (heard_head before x.life x.number))) m (named from number.0 ∷ []) k in
    let unheard = not-true (is_some (heard_head before m.life m.number)) f.1 in
    let is : named from number.0 ≡ m = elim f.0 [ inl e ↦ e | inr none ↦ elim none [ ] ] in
    let both : (same_life from m.life && number.0 == m.number) ≡ true = subst (λ (x : Name). (same_life from x.life && number.0 == x.number) ≡ true) is
    (and_from (same_life from from) (number.0 == number.0) (same_life-refl from) (eq-eqb number.0 number.0 refl)) in (
      unheard,
      (elim (heard_head before m.life m.number) as (λ o. is_some (or_else o (then_some (same_life from m.life && number.0 == m.number) (head_of tag confirm opt form))) ≡ true) [
        | Some h ↦ refl
        | None ↦ ap (λ (b : Bool). is_some (then_some b (head_of tag confirm opt form))) both
      ]),
    )
named_parts d before m k = elim k [ ]

-- a deed adds one name at most
named_distinct : (d : Deed) (before : List Deed) → AreDistinct (named_by before d)
unfolding named_by
named_distinct (Took from (Spelled (Rtm number tag confirm opt form))) before = filter_distinct (λ (x : Name). not (is_heard before x.life x.number)) (named from number.0 ∷ []) (λ m. elim m [ ], tt)
named_distinct d before = tt

-- distinct elements of two lists that share none
append_distinct : {A : Type 0} (xs ys : List A) → AreDistinct xs → AreDistinct ys → ((x : A) → Member x xs → Member x ys → ⊥) → AreDistinct (xs ++ ys)
append_distinct [] ys a b apart = b
append_distinct (x ∷ xs) ys a b apart = (
  λ m. elim (member-append_cases x xs ys m) [ inl k ↦ a.0 k | inr k ↦ apart x (inl refl) k ],
  append_distinct xs ys a.1 b (λ y m k. apart y (inr m) k),
)

-- a map that keeps the elements of a list apart
distinct_names : (ps : List Pair) → AreDistinct ps → ((p q : Pair) → Member p ps → Member q ps → name_of p ≡ name_of q → p ≡ q) → AreDistinct (map name_of ps)
distinct_names [] apart one = tt
distinct_names (p ∷ ps) apart one = (
  λ m. (let q = member-map name_of (name_of p) ps m in apart.0 (subst (λ (x : Pair). Member x ps) (one q.0 p (inr q.1) (inl refl) q.2) q.1)),
  distinct_names ps apart.1 (λ x y m k e. one x y (inr m) (inr k) e),
)

-- the messages of pairs that a deed makes are distinct
pairs_distinct : (own : Own) (d : Deed) (before : List Deed) (t : Name → Bool) → AreDistinct (map name_of (filter (λ (p : Pair). t (name_of p)) (made own d before)))
pairs_distinct own d before t =
    distinct_names (filter (λ (p : Pair). t (name_of p)) (made own d before)) (filter_distinct (λ (p : Pair). t (name_of p)) (made own d before) (made_distinct own d before))
    (λ p q m k e. made_once own d before p q (member-filter (λ (x : Pair). t (name_of x)) p (made own d before) m).0 (member-filter (λ (x : Pair). t (name_of x)) q (made own d before) k).0 e)

-- what was named was heard of
pub names_heard : (log : List Deed) (m : Name) → Member m (heard_names log) → is_heard log m.life m.number ≡ true
unfolding heard_names
names_heard [] m k = elim k [ ]
names_heard (d ∷ before) m k =
    elim (member-append_cases m (heard_names before) (named_by before d) k) [
      | inl a ↦ is_heard_still d before m.life m.number (names_heard before m a)
      | inr a ↦ (named_parts d before m a).1
    ]

-- the names of a log are distinct
pub names_distinct : (log : List Deed) → AreDistinct (heard_names log)
unfolding heard_names
names_distinct [] = tt
names_distinct (d ∷ before) =
    append_distinct (heard_names before) (named_by before d) (names_distinct before) (named_distinct d before)
    (λ m k l. (let a = names_heard before m k in let b = (named_parts d before m l).0 in let wrong : true ≡ false = sym a ∙ b in cc))

-- how many of the pairs that a deed makes are of messages that pass
pub made_count : (own : Own) (d : Deed) (before : List Deed) (t : Name → Bool) → LifeLocal own (d ∷ before)
    → length (filter (λ (m : Name). (waits_early own before m && t m) && is_matched (made own d before) m) (heard_names (d ∷ before)))
    ≡ length (filter (λ (p : Pair). t (name_of p)) (made own d before))
unfolding is_matched
made_count own d before t local =
    let ps = filter (λ (p : Pair). t (name_of p)) (made own d before) in
    let names : List Name = map name_of ps in
    let found = filter (λ (m : Name). (waits_early own before m && t m) && is_matched (made own d before) m) (heard_names (d ∷ before)) in
    let there = distinct_fit found names (filter_distinct _ (heard_names (d ∷ before)) (names_distinct (d ∷ before)))
    (λ m k.
    let f = member-filter (λ (m : Name). (waits_early own before m && t m) && is_matched (made own d before) m) m (heard_names (d ∷ before)) k in
    let a = and_parts (waits_early own before m && t m) (is_matched (made own d before) m) f.1 in
    let b = and_parts (waits_early own before m) (t m) a.0 in
    let p = list_any_member (λ (p : Pair). same_life p.message.life m.life && p.message.no.0 == m.number) (made own d before) a.1 in
    let c = and_parts (same_life p.0.message.life m.life) (p.0.message.no.0 == m.number) p.2 in
    let same : name_of p.0 ≡ m = ap (λ (l : Life). named l p.0.message.no.0) (same_life-true p.0.message.life m.life c.0) ∙ ap (named m.life) (eqb-true p.0.message.no.0 m.number c.1) in
    subst (λ (x : Name). Member x names) same (map-member name_of p.0 ps (filter-member (λ (q : Pair). t (name_of q)) p.0 (made own d before) p.1 (ap t same ∙ b.1)))) in
    let back = distinct_fit names found (pairs_distinct own d before t)
    (λ m k.
    let p = member-map name_of m ps k in
    let f = member-filter (λ (q : Pair). t (name_of q)) p.0 (made own d before) p.1 in
    let waits : waits_early own before (name_of p.0) ≡ true =
    and_from (not (is_matched (own_pairs own before) (name_of p.0))) (not (is_forgotten before p.0.message.life)) (ap not (made_unmatched own d before p.0 f.0)) (ap not (made_kept own d before p.0 local f.0)) in
    let matched : is_matched (made own d before) (name_of p.0) ≡ true =
    member_list_any (λ (q : Pair). same_life q.message.life p.0.message.life && q.message.no.0 == p.0.message.no.0) p.0 (made own d before) f.0
    (and_from (same_life p.0.message.life p.0.message.life) (p.0.message.no.0 == p.0.message.no.0) (same_life-refl p.0.message.life) (eq-eqb p.0.message.no.0 p.0.message.no.0 refl)) in
    subst (λ (x : Name). Member x found) p.2
    (filter-member (λ (m : Name). (waits_early own before m && t m) && is_matched (made own d before) m) (name_of p.0) (heard_names (d ∷ before)) (made_heard own d before p.0 f.0)
    (and_from (waits_early own before (name_of p.0) && t (name_of p.0)) (is_matched (made own d before) (name_of p.0)) (and_from (waits_early own before (name_of p.0)) (t (name_of p.0)) waits f.1) matched))) in
    let l = length-map ps name_of in
    omega arith

-- how many messages that pass are early after a deed that forgets no life: those that were or that it names, without those that it matches
pub early_after : (own : Own) (d : Deed) (before : List Deed) (t : Name → Bool) → LifeLocal own (d ∷ before) → ((life : Life) → is_forgotten (d ∷ before) life ≡ is_forgotten before life)
    → length (filter (λ (m : Name). waits_early own (d ∷ before) m && t m) (heard_names (d ∷ before)))
    ≡ length (filter (λ (m : Name). waits_early own before m && t m) (heard_names (d ∷ before))) - length (filter (λ (p : Pair). t (name_of p)) (made own d before))
early_after own d before t local same =
    let count = made_count own d before t local in
    let split = filter_splits (λ (m : Name). waits_early own before m && t m) (is_matched (made own d before)) (heard_names (d ∷ before)) in
    let test = filter_same (λ (m : Name). waits_early own (d ∷ before) m && t m) (λ (m : Name). (waits_early own before m && t m) && not (is_matched (made own d before) m)) (heard_names (d ∷ before))
    (λ m. ap (λ (b : Bool). not b && not (is_forgotten (d ∷ before) m.life) && t m) (matched_after_is own d before m) ∙ ap (λ (b : Bool). not (is_matched (own_pairs own before) m || is_matched (made own d before) m) && not b && t m) (same m.life)
    ∙ shuffle (is_matched (own_pairs own before) m) (is_matched (made own d before) m) (not (is_forgotten before m.life)) (t m)) in
    let l = ap (λ (ms : List Name). length ms) test in
    omega arith
