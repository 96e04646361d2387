-- What a live receive takes of a datagram it still takes over each deed that spares it: the source stays current, and the receive is found
-- as before.
use Rattle.std.proofs.Common.{◌≡◌, ℕ, ◌<◌, ◌≤◌, Bool, true, false, cond, not, ◌&&◌, List, [], ◌∷◌, length, Option, Some, None, refl, eqb-true, inl, inr, sym, ◌∙◌, ap, subst}
use Rattle.std.specs.Prelude.{find, is_some}
use Rattle.std.proofs.lemmas.Bool.{or_left, or_right}
use Rattle.rdm_lists.proofs.Members.{find_member}
use Rattle.rdm_num.specs.Lives.{same_life}
use Rattle.rdm_num.specs.Pieces.{Piece}
use Rattle.rdm_num.specs.declared.numbers.Life.{Life}
use Rattle.rdm_num.proofs.Lives.{same_life-true, same_life-refl}
use Rattle.rdm_model.specs.declared.job.Instr.TheVariants.{Insert}
use Rattle.rdm_model.specs.Beginnings.{Own}
use Rattle.rdm_model.specs.Currents.{current, other_life}
use Rattle.rdm_model.specs.Deeds.{Deed, Did}
use Rattle.rdm_model.specs.Sources.{is_other}
use Rattle.rdm_law.proofs.Lives.Held.{took_current, kept_current}
use Rattle.rdm_law.proofs.Lives.Lives.{LifeLocal}
use Rattle.rdm_law.proofs.Replies.Seen.{pair_seen}
use Rattle.rdm_life.specs.Kept.{Kept, LiveReceive, Matched, is_receive}
use Rattle.rdm_life.specs.Keeps.{told, Keeps}
use Rattle.rdm_life.specs.Forgetting.{is_among, names_one, is_of_one, concerns}
use Rattle.rdm_life.specs.Handling.{after}
use Rattle.rdm_life.specs.Facts.{is_of, receive_from, passes, matched_passes}
use Rattle.rdm_life.specs.Lending.{Loan, range_of, Spares}
use Rattle.rdm_life.proofs.TakenRead.{AllTakenRead}
use Rattle.rdm_life.proofs.LoansLast.{lasts}
use Rattle.rdm_life.proofs.LoansMatched.{new_from, paired}
use Rattle.rdm_life.proofs.LoansBrought.{TakesBytes, missing_of}

-- ---- its life is current, and stays so

-- a receive with a message of that life concerns it
concerns_source : (from : Life) (r : LiveReceive) (m : Matched) → r.matched ≡ Some m → m.source ≡ from → concerns (from ∷ []) r ≡ true
unfolding concerns is_of_one is_among
concerns_source from r m matched source =
    or_right (names_one (from ∷ []) r.receive.posted.from) (is_of_one (from ∷ []) r.matched)
    (ap (is_of_one (from ∷ [])) matched ∙ or_left (same_life m.source from) false (ap (λ (x : Life). same_life x from) source ∙ same_life-refl from))

-- a current life that is no other one is that one
same_now : (o : Option Life) (from : Life) → is_some o ≡ true → is_other o from ≡ false → o ≡ Some from
unfolding is_other
same_now None from h k = cc
same_now (Some x) from h k = ap Some (same_life-true x from (not_not (same_life x from) k))
  where
    not_not : (b : Bool) → not b ≡ false → b ≡ true
    not_not true h = refl
    not_not false h = cc

-- the life of a receive's message is current
now_current : (own : Own) (log : List Deed) (v : Kept) (from : Life) (l : Loan) → Keeps own log v → TakesBytes v from l → is_other (v.current from.port.0) from ≡ false → current log from.port.0 ≡ Some from
now_current own log v from l k t other =
    let f = find_member (is_receive l.recv) t.receive v.receives t.found in
    let p = paired own log v t.receive t.message k.receives f.0 t.matched in
    let s = pair_seen own.limits.first (told own log).head log p.pair p.member in
    let source : p.pair.message.life ≡ from = ap (λ (x : Matched). x.source) p.message_is ∙ t.source_is in
    let there : is_some (current log from.port.0) ≡ true = subst (λ (x : Life). is_some (current log x.port.0) ≡ true) source (took_current log p.pair.message.life s.0 s.1) in
    same_now (current log from.port.0) from there (ap (λ (o : Option Life). is_other o from) (sym (k.lives.current_is from.port.0)) ∙ other)

-- an insert that forgets no life that the receive concerns is of the same life, or of another port
insert_spares : (v : Kept) (from life : Life) (l : Loan) → TakesBytes v from l → v.current life.port.0 ≡ Some from → Spares v (Did (Insert life)) l → life ≡ from
unfolding other_life
insert_spares v from life l t now spares =
    (elim (same_life from life) as (λ b. same_life from life ≡ b → life ≡ from) [
      | true ↦ λ same. sym (same_life-true from life same)
      | false ↦ λ other.
          let forgets : other_life life (v.current life.port.0) ≡ from ∷ [] = ap (other_life life) now ∙ ap (λ (b : Bool). cond b [] (from ∷ [])) other in
          let spared : concerns (from ∷ []) t.receive ≡ false = ap (λ (ls : List Life). concerns ls t.receive) (sym forgets) ∙ spares t.receive t.found in
          let wrong : true ≡ false = sym (concerns_source from t.receive t.message t.matched t.source_is) ∙ spared in
          cc
    ]) refl

-- so it stays current over each deed that spares what it brings
pub still_current : (own : Own) (d : Deed) (log : List Deed) (v : Kept) (from : Life) (l : Loan) → Keeps own log v → TakesBytes v from l → is_other (v.current from.port.0) from ≡ false → Spares v d l
    → current (d ∷ log) from.port.0 ≡ Some from
still_current own d log v from l k t other spares =
    let now = now_current own log v from l k t other in
    elim (kept_current d log from.port.0 (ap (λ (o : Option Life). is_some o) now)) [
      | inl same ↦ same ∙ now
      | inr new ↦
          let there : v.current new.0.port.0 ≡ Some from = k.lives.current_is new.0.port.0 ∙ ap (current log) new.2 ∙ now in
          let spared : Spares v (Did (Insert new.0)) l = subst (λ (x : Deed). Spares v x l) new.1 spares in
          new.3 ∙ ap Some (insert_spares v from new.0 l t there spared)
    ]

-- ---- the receive takes the bytes, and still does

-- what is taken before a deed and after it
pub record Stays (v w : Kept) (from : Life) (l : Loan) (t : TakesBytes v from l) : Type 0 where
  pub takes : TakesBytes w from l
  pub same_number : takes.message.number ≡ t.message.number
  pub same_head : takes.message.head ≡ t.message.head
  pub grants_more : t.message.granted ≤ takes.message.granted

-- missing bytes of a live receive are still for it
pub stays : (own : Own) (d : Deed) (log : List Deed) (v : Kept) (from : Life) (l : Loan) → LifeLocal own (d ∷ log) → AllTakenRead (d ∷ log) → Keeps own log v → 0 < l.len → (t : TakesBytes v from l) → Spares v d l
    → Stays v (after d v) from l t
stays own d log v from l local fit k some t spares =
    let s = lasts own d log v l local fit k (missing_of v from l some t) spares in
    record {
      takes = record {
        receive = s.still.receive;
        found = s.still.found;
        message = s.still.message;
        matched = s.still.matched;
        source_is = s.same_source ∙ t.source_is;
        new = new_from s.still.message.came s.still.message.head.length l.offset l.len s.still.within s.still.missing;
      };
      same_number = s.same_number;
      same_head = s.same_head;
      grants_more = s.grants_more;
    }

-- ---- by its number

-- the first that passes one test is the first that passes both, where it does
find_both : {A : Type 0} (a b : A → Bool) (x : A) (xs : List A) → find a xs ≡ Some x → b x ≡ true → find (λ (y : A). a y && b y) xs ≡ Some x
find_both a b x [] h is = cc
find_both a b x (y ∷ ys) h is =
    (elim (a y) as (λ t. cond t (Some y) (find a ys) ≡ Some x → cond (t && b y) (Some y) (find (λ z. a z && b z) ys) ≡ Some x) [
      | true ↦ λ k. (
          let same : x ≡ y = cc in
          let passes' : b y ≡ true = ap b (sym same) ∙ is in
          ap (λ (t : Bool). cond t (Some y) (find (λ z. a z && b z) ys)) passes' ∙ k)
      | false ↦ λ k. find_both a b x ys k is
    ]) h

-- the receive is found by its number and the life of its message
pub found_from : (v : Kept) (from : Life) (l : Loan) → (t : TakesBytes v from l) → receive_from v from l.recv ≡ Some t.receive
unfolding receive_from is_of
found_from v from l t =
    find_both (is_receive l.recv) (λ (r : LiveReceive). is_of from r.matched) t.receive v.receives t.found
    (ap (is_of from) t.matched ∙ ap (λ (x : Life). same_life x from) t.source_is ∙ same_life-refl from)

-- so a test passes where its message does
pub passes_is : (v : Kept) (from : Life) (l : Loan) (test : Matched → Bool) → (t : TakesBytes v from l) → matched_passes test (receive_from v from l.recv) ≡ test t.message
unfolding matched_passes passes
passes_is v from l test t = ap (matched_passes test) (found_from v from l t) ∙ ap (passes test) t.matched

-- the range is that of a piece of that length
pub range_found : (v : Kept) (from : Life) (l : Loan) (t : TakesBytes v from l) (x : Piece) → record { recv = l.recv; offset = x.offset; len = length x.bytes } ≡ l → range_of (Some t.receive) (Some x) ≡ Some l
unfolding range_of
range_found v from l t x same =
    let f = find_member (is_receive l.recv) t.receive v.receives t.found in
    let number : t.receive.receive.number ≡ l.recv = eqb-true t.receive.receive.number l.recv f.1 in
    ap Some (ap (λ (n : ℕ). record { recv = n; offset = x.offset; len = length x.bytes }) number ∙ same)
