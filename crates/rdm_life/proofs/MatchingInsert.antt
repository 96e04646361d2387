-- A life that is inserted: what is kept of the messages of the life whose place it takes goes.
use Rattle.std.proofs.Common.{◌≡◌, ℕ, ◌-◌, Bool, true, false, cond, not, ◌&&◌, ◌||◌, List, [], ◌∷◌, ◌++◌, map, filter, length, get_or, Option, Some, None, refl, arith, sym, ◌∙◌, ap, subst, append-nil}
use Rattle.std.specs.Prelude.{sum_by}
use Rattle.std.specs.List.{list_any}
use Rattle.std.proofs.lemmas.Bool.{or_parts}
use Rattle.rdm_lists.proofs.Same.{filter_same}
use Rattle.rdm_num.specs.Lives.{same_life, is_life}
use Rattle.rdm_num.specs.declared.numbers.Life.{Life}
use Rattle.rdm_num.proofs.Lives.{same_life-true, same_life-refl}
use Rattle.rdm_hdr.specs.Fields.{has_bit}
use Rattle.rdm_model.specs.Replies.{confirm_feature}
use Rattle.rdm_model.specs.Sources.{is_other}
use Rattle.rdm_match.specs.declared.PostedRecv.{PostedRecv}
use Rattle.rdm_match.specs.declared.Arrived.{Arrived}
use Rattle.rdm_match.specs.Matcher.{Matching, Pair, Forget, after, run}
use Rattle.rdm_model.specs.declared.job.Instr.TheVariants.{Insert}
use Rattle.rdm_model.specs.Beginnings.{Own}
use Rattle.rdm_model.specs.Completions.{Name, named_by, heard_names, is_matched, early_count}
use Rattle.rdm_model.specs.Currents.{current, other_life, forgotten_by, is_forgotten}
use Rattle.rdm_model.specs.Deeds.{Deed, Did}
use Rattle.rdm_model.specs.Grants.{first_part_by}
use Rattle.rdm_model.specs.Heard.{head_by, is_next_message}
use Rattle.rdm_model.specs.Matches.{events_by}
use Rattle.rdm_model.specs.Parts.{carried_by}
use Rattle.rdm_law.proofs.Lives.Held.{current_port}
use Rattle.rdm_law.proofs.Lives.Lives.{LifeLocal}
use Rattle.rdm_law.proofs.Lives.Replaced.{not_forgotten}
use Rattle.rdm_life.specs.Kept.{Kept, stranger}
use Rattle.rdm_life.specs.Keeps.{own_pairs, waits_early, KeepsMatching}
use Rattle.rdm_life.specs.Forgetting.{is_among, names_one, forget}
use Rattle.rdm_life.specs.Lives.{with_current, after_insert}
use Rattle.rdm_life.specs.Handling.{after as after_deed, after_instr}
use Rattle.rdm_life.proofs.EarlyCounts.{filter_splits}
use Rattle.rdm_life.proofs.EarlyWords.{early_still}
use Rattle.rdm_life.proofs.Made.{lists_before}
use Rattle.rdm_life.proofs.MatchingQuiet.{still_heard, still_next}
use Rattle.rdm_life.proofs.MatchingSteps.{greet_same}
use Rattle.rdm_life.proofs.MessageFacts.{named}
use Rattle.rdm_life.proofs.Pairs.{pairs_added, posted_after, arrived_after}
use Rattle.rdm_life.proofs.Tests.{and_all, and_none, or_none}

-- at most one life
data Few : List Life → Type 0 where
  Nobody : Few []
  One : (old : Life) → Few (old ∷ [])

-- the lives that an insert forgets
few_lives : (life : Life) (o : Option Life) → Few (other_life life o)
unfolding other_life
few_lives life None = Nobody
few_lives life (Some old) = (elim (same_life old life) as (λ b. Few (cond b [] (old ∷ []))) [ true ↦ Nobody | false ↦ One old ])

-- a receive that names one life
same_name : (old : Life) (o : Option Life) → is_life o old ≡ names_one (old ∷ []) o
unfolding is_life names_one is_among
same_name old None = refl
same_name old (Some life) = sym (or_none (same_life life old))

-- no receive names one of no lives
all_stay : (f : PostedRecv → Option Life) (rs : List PostedRecv) → filter (λ (r : PostedRecv). not (names_one [] (f r))) rs ≡ rs
unfolding names_one is_among
all_stay f [] = refl
all_stay f (r ∷ rs) =
    (elim (f r) as (λ o. cond (not (names_one [] o)) (r ∷ filter (λ (x : PostedRecv). not (names_one [] (f x))) rs) (filter (λ (x : PostedRecv). not (names_one [] (f x))) rs) ≡ r ∷ rs) [
      | None ↦ ap (λ (xs : List PostedRecv). r ∷ xs) (all_stay f rs)
      | Some l ↦ ap (λ (xs : List PostedRecv). r ∷ xs) (all_stay f rs)
    ])

-- no message is of one
none_goes : (as' : List Arrived) → filter (λ (a : Arrived). not (is_among [] a.life)) as' ≡ as'
unfolding is_among
none_goes [] = refl
none_goes (a ∷ as') = ap (λ (xs : List Arrived). a ∷ xs) (none_goes as')

-- a denial of either
spread : (a b c : Bool) → (a && not (b || c)) ≡ ((a && not b) && not c)
spread true true c = refl
spread true false c = refl
spread false b c = refl

-- nobody is not one
no_one : (l : Life) → ◌≡◌ {A = List Life} [] (l ∷ []) → ⊥
no_one l e = cc

-- forgetting makes no pair
forget_pairs : (m : Matching) (lives : List Life) → (run m (map Forget lives)).pairs ≡ m.pairs
unfolding run after
forget_pairs m [] = refl
forget_pairs m (l ∷ ls) = forget_pairs (after m (Forget l)) ls

-- receives that name a life that is forgotten wait no more
forget_posted : (m : Matching) (lives : List Life) → Few lives → (run m (map Forget lives)).posted ≡ filter (λ (r : PostedRecv). not (names_one lives r.from)) m.posted
unfolding run after names_one is_among is_life
forget_posted m [] Nobody = sym (all_stay (λ (r : PostedRecv). r.from) m.posted)
forget_posted m (old ∷ (other ∷ others)) few = elim few [ ]
forget_posted m (old ∷ []) (One o) =
    filter_same (λ (r : PostedRecv). not (is_life r.from old)) (λ (r : PostedRecv). not (names_one (old ∷ []) r.from)) m.posted (λ r. ap not (same_name old r.from))

-- its messages wait no more
forget_arrived : (m : Matching) (lives : List Life) → Few lives → (run m (map Forget lives)).arrived ≡ filter (λ (a : Arrived). not (is_among lives a.life)) m.arrived
unfolding run after is_among
forget_arrived m [] Nobody = sym (none_goes m.arrived)
forget_arrived m (old ∷ (other ∷ others)) few = elim few [ ]
forget_arrived m (old ∷ []) (One o) =
    filter_same (λ (a : Arrived). not (same_life a.life old)) (λ (a : Arrived). not (is_among (old ∷ []) a.life)) m.arrived (λ a. ap not (sym (or_none (same_life a.life old))))

-- a life that was not forgotten after a deed was not before, and is not one that it forgets
kept_parts : (before : List Deed) (d : Deed) (life : Life) → is_forgotten (d ∷ before) life ≡ false → (is_forgotten before life ≡ false) × (list_any (same_life life) (forgotten_by before d) ≡ false)
unfolding is_forgotten
kept_parts before d life kept = or_parts (is_forgotten before life) (list_any (same_life life) (forgotten_by before d)) kept

-- the life that is forgotten was not before
one_kept : (own : Own) (life old : Life) (before : List Deed) → LifeLocal own before → (lives : List Life) → other_life life (current before life.port.0) ≡ lives → lives ≡ old ∷ [] → is_forgotten before old ≡ false
unfolding other_life is_other
one_kept own life old before local lives is one =
    (elim (current before life.port.0) as (λ o. current before life.port.0 ≡ o → other_life life o ≡ old ∷ [] → is_forgotten before old ≡ false) [
      | None ↦ λ c e. absurd (no_one old e)
      | Some now ↦ λ c e. (elim (same_life now life) as (λ b. cond b [] (now ∷ []) ≡ old ∷ [] → is_forgotten before old ≡ false) [
        | true ↦ λ f. absurd (no_one old f)
        | false ↦ λ f.
            let same : now ≡ old = ap (λ (ls : List Life). get_or ls 0 now) f in
            let port : now.port.0 ≡ life.port.0 = current_port before life.port.0 now c in
            let here : current before now.port.0 ≡ Some now = ap (current before) port ∙ c in
            subst (λ (l : Life). is_forgotten before l ≡ false) same
            (not_forgotten own before now local (ap (λ (o : Option Life). is_other o now) here ∙ ap not (same_life-refl now)))
      ]) e
    ])
    refl (is ∙ one)

-- what is early of lives that are not forgotten now
waits_after : (own : Own) (d : Deed) (before : List Deed) (m : Name) → own_pairs own (d ∷ before) ≡ own_pairs own before
    → waits_early own (d ∷ before) m ≡ (waits_early own before m && not (list_any (same_life m.life) (forgotten_by before d)))
unfolding is_forgotten
waits_after own d before m pairs =
    ap (λ (ps : List Pair). not (is_matched ps m) && not (is_forgotten before m.life || list_any (same_life m.life) (forgotten_by before d))) pairs
    ∙ spread (not (is_matched (own_pairs own before) m)) (is_forgotten before m.life) (list_any (same_life m.life) (forgotten_by before d))

-- of a life that is not forgotten now nothing changes
other_waits : (own : Own) (d : Deed) (before : List Deed) (m : Name) (other : Life) → own_pairs own (d ∷ before) ≡ own_pairs own before → list_any (same_life other) (forgotten_by before d) ≡ false
    → (waits_early own before m && same_life m.life other) ≡ (waits_early own (d ∷ before) m && same_life m.life other)
other_waits own d before m other pairs out =
    (elim (same_life m.life other) as (λ b. same_life m.life other ≡ b → (waits_early own before m && b) ≡ (waits_early own (d ∷ before) m && b)) [
      | true ↦ λ is.
          let gone : list_any (same_life m.life) (forgotten_by before d) ≡ false = subst (λ (l : Life). list_any (same_life l) (forgotten_by before d) ≡ false) (sym (same_life-true m.life other is)) out in
          ap (λ (b : Bool). b && true) (sym (waits_after own d before m pairs ∙ ap (λ (b : Bool). waits_early own before m && not b) gone ∙ and_all (waits_early own before m)))
      | false ↦ λ is. and_none (waits_early own before m) ∙ sym (and_none (waits_early own (d ∷ before) m))
    ])
    refl

-- how many are early once lives are forgotten
count_after : (own : Own) (before : List Deed) (lives : List Life) → Few lives → (of : Life → ℕ) → ((l : Life) → lives ≡ l ∷ [] → of l ≡ length (filter (λ (m : Name). waits_early own before m && same_life m.life l) (heard_names before)))
    → length (filter (λ (m : Name). waits_early own before m && not (list_any (same_life m.life) lives)) (heard_names before))
    ≡ length (filter (waits_early own before) (heard_names before)) - sum_by of lives
count_after own before [] Nobody of is =
    ap (λ (ms : List Name). length ms) (filter_same (λ (m : Name). waits_early own before m && true) (waits_early own before) (heard_names before) (λ m. and_all (waits_early own before m))) ∙ (omega arith)
count_after own before (old ∷ (other ∷ others)) few of is = elim few [ ]
count_after own before (old ∷ []) (One o) of is =
    let split = filter_splits (waits_early own before) (λ (m : Name). same_life m.life old) (heard_names before) in
    let test = ap (λ (ms : List Name). length ms) (filter_same (λ (m : Name). waits_early own before m && not (same_life m.life old || false)) (λ (m : Name). waits_early own before m && not (same_life m.life old)) (heard_names before)
    (λ m. ap (λ (b : Bool). waits_early own before m && not b) (or_none (same_life m.life old)))) in
    let one = is old refl in
    omega arith

-- all that is kept of messages
pub insert_matching : (own : Own) (life : Life) (before : List Deed) (v : Kept) → LifeLocal own before → ((port : ℕ) → v.current port ≡ current before port) → KeepsMatching own before v
    → KeepsMatching own (Did (Insert life) ∷ before) (after_deed (Did (Insert life)) v)
unfolding after_deed after_instr after_insert forget is_among heard_names named_by head_by first_part_by carried_by events_by forgotten_by early_count
insert_matching own life before v local currents k =
    let d : Deed = Did (Insert life) in
    let lives = other_life life (current before life.port.0) in
    let w = with_current life (forget (other_life life (v.current life.port.0)) v) in
    let s = greet_same (has_bit confirm_feature v.own.features) life (Some v.own.life.port) w in
    let same : other_life life (v.current life.port.0) ≡ lives = ap (other_life life) (currents life.port.0) in
    let few = few_lives life (current before life.port.0) in
    let pairs : own_pairs own (d ∷ before) ≡ own_pairs own before = pairs_added own d before ∙ ap (λ (ps : List Pair). own_pairs own before ++ ps) (forget_pairs (lists_before own before) lives) ∙ append-nil (own_pairs own before) in
    let names = append-nil (heard_names before) in record {
      heard_is = λ other kept n. (let p = kept_parts before d other kept in
          s.heard other n ∙ ap (λ (ls : List Life). ((cond (list_any (same_life other) ls) (stranger v.own.limits.first) (v.peers other))).heard n) same
          ∙ ap (λ (b : Bool). (cond b (stranger v.own.limits.first) (v.peers other)).heard n) p.1 ∙ k.heard_is other p.0 n ∙ sym (still_heard before d other n refl));
      next_is = λ other kept. (let p = kept_parts before d other kept in
          ap (is_next_message own.limits.first (d ∷ before) other)
          (s.next other ∙ ap (λ (ls : List Life). ((cond (list_any (same_life other) ls) (stranger v.own.limits.first) (v.peers other))).next) same ∙ ap (λ (b : Bool). (cond b (stranger v.own.limits.first) (v.peers other)).next) p.1)
          ∙ still_next own.limits.first d before other (v.peers other).next (λ n. still_heard before d other n refl) ∙ k.next_is other p.0);
      posted_is =
          s.posted ∙ ap (λ (ls : List Life). filter (λ (r : PostedRecv). not (names_one ls r.from)) v.posted) same
          ∙ ap (filter (λ (r : PostedRecv). not (names_one lives r.from))) k.posted_is ∙ sym (forget_posted (lists_before own before) lives few) ∙ sym (posted_after own d before);
      arrived_is =
          s.arrived ∙ ap (λ (ls : List Life). filter (λ (a : Arrived). not (is_among ls a.life)) v.arrived) same
          ∙ ap (filter (λ (a : Arrived). not (is_among lives a.life))) k.arrived_is ∙ sym (forget_arrived (lists_before own before) lives few) ∙ sym (arrived_after own d before);
      early_is = λ other kept n. (let p = kept_parts before d other kept in
          s.early other n ∙ ap (λ (ls : List Life). cond (list_any (same_life other) ls) None (v.early other n)) same ∙ ap (λ (b : Bool). cond b None (v.early other n)) p.1 ∙ k.early_is other p.0 n
          ∙ sym (early_still own d before other n refl refl refl (ap (λ (ps : List Pair). is_matched ps (named other n)) pairs)));
      early_of_is = λ other kept. (let p = kept_parts before d other kept in
          s.early_of other ∙ ap (λ (ls : List Life). cond (list_any (same_life other) ls) 0 (v.early_of other)) same ∙ ap (λ (b : Bool). cond b 0 (v.early_of other)) p.1 ∙ k.early_of_is other p.0
          ∙ ap (λ (ms : List Name). length ms) (filter_same (λ (m : Name). waits_early own before m && same_life m.life other) (λ (m : Name). waits_early own (d ∷ before) m && same_life m.life other) (heard_names before)
          (λ m. other_waits own d before m other pairs p.1))
          ∙ ap (λ (ns : List Name). length (filter (λ (m : Name). waits_early own (d ∷ before) m && same_life m.life other) ns)) (sym names));
      early_count_is =
          s.early_count ∙ ap (λ (ls : List Life). v.early_count - sum_by v.early_of ls) same ∙ ap (λ (n : ℕ). n - sum_by v.early_of lives) k.early_count_is
          ∙ sym (count_after own before lives few v.early_of (λ l one. k.early_of_is l (one_kept own life l before local lives refl one)))
          ∙ ap (λ (ms : List Name). length ms) (filter_same (λ (m : Name). waits_early own before m && not (list_any (same_life m.life) lives)) (waits_early own (d ∷ before)) (heard_names before) (λ m. sym (waits_after own d before m pairs)))
          ∙ ap (λ (ns : List Name). length (filter (waits_early own (d ∷ before)) ns)) (sym names);
    }
