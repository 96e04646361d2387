-- What a port keeps after it opened a life.
use Rattle.std.proofs.Common.{◌≡◌, ℕ, Bool, true, false, cond, List, [], ◌∷◌, ◌++◌, Option, None, refl, ap, ◌∙◌, sym, subst}
use Rattle.std.specs.Prelude.{not, ◌&&◌, ◌||◌, ◌==◌, is_some}
use Rattle.std.specs.List.{list_any}
use Rattle.std.proofs.lemmas.Bool.{eqb-true, eqb-false, eq-eqb, ne_eqb, or_parts}
use Rattle.std.proofs.lemmas.List.Folds.{list_any-append}
use Rattle.rdm_num.specs.Lives.{same_life}
use Rattle.rdm_num.specs.declared.numbers.Connid.{Connid}
use Rattle.rdm_num.specs.declared.numbers.Life.{Life}
use Rattle.rdm_model.specs.declared.job.Instr.TheVariants.{OpenLife}
use Rattle.rdm_model.specs.declared.answer.Next.TheVariants.{Did as DidAnswer, Memory}
use Rattle.rdm_model.specs.declared.answer.DidWhat.{DidWhat}
use Rattle.rdm_model.specs.declared.answer.DidWhat.TheVariants.{Plain}
use Rattle.rdm_model.specs.Deeds.{Deed, Did, open_after, open_life, is_connid, of_life}
use Rattle.rdm_model.specs.Notes.{note_pushes_by, tells_open, opens, knows_open, says, was_told}
use Rattle.rdm_ep.specs.View.{new_endpoint}
use Rattle.rdm_ep.specs.Keeps.{Keeps}
use Rattle.rdm_ep.proofs.KeepsQuiet.{keeps_new}
use Rattle.rdm_port.specs.Views.{PortView}
use Rattle.rdm_port.specs.Kept.{Kept, IsKept, deeds_of, own_at, is_opened, is_new_life}
use Rattle.rdm_port.specs.Machine.{machine_answer, after_did}
use Rattle.rdm_port.specs.Built.{IsBuiltDeed}
use Rattle.rdm_port.proofs.Counted.{none_open}
use Rattle.rdm_port.proofs.BuiltDeeds.{unopened_has_none}
use Rattle.rdm_port.proofs.NextDeeds.{KeepsDeeds, notes_more}
use Rattle.rdm_lists.proofs.Options.{none_there}

-- the life of the port with that identifier
abbrev pub own_life : ℕ → Connid → Life
own_life port connid = record { port = record { 0 = port }; connid = connid }

-- numbers compare the same both ways
pub same_ways : (a b : ℕ) → (a == b) ≡ (b == a)
same_ways a b =
    (elim (a == b) as (λ t. (a == b) ≡ t → t ≡ (b == a)) [
      | true ↦ λ e. sym (eq-eqb b a (sym (eqb-true a b e)))
      | false ↦ λ e. sym (ne_eqb b a (λ q. eqb-false a b e (sym q)))
    ]) refl

-- one more life among those that are known
one_more : (told here same opened : Bool) → ((told || (here && opened)) || ((here && same) || false)) ≡ (told || (here && (same || opened)))
one_more true here same opened = refl
one_more false false same opened = refl
one_more false true true true = refl
one_more false true true false = refl
one_more false true false true = refl
one_more false true false false = refl

-- the port knows of the life that it opened, and of those that it knew of before
opened_more : (port : ℕ) (log : List Deed) (connid : Connid) (lives : List Life) (l : Life) → is_opened lives l ≡ knows_open port log l
    → is_opened (lives ++ own_life port connid ∷ []) l ≡ knows_open port (Did (OpenLife connid) ∷ log) l
unfolding is_opened knows_open tells_open opens same_life
opened_more port log connid lives l h =
    let here = l.port.0 == port in
    let told = list_any (tells_open l) log in
    let opened = list_any (opens l) log in
    list_any-append (same_life l) lives (own_life port connid ∷ [])
    ∙ ap (λ (b : Bool). b || ((here && (l.connid.0 == connid.0)) || false)) h
    ∙ ap (λ (b : Bool). (told || (here && opened)) || ((here && b) || false)) (same_ways l.connid.0 connid.0)
    ∙ one_more told here (connid.0 == l.connid.0) opened

-- what an open that did says of what was kept
record CouldOpen (k : Kept) (v : PortView) (connid : Connid) : Type 0 where
  endpoint : k.endpoint ≡ None
  fresh : is_opened k.opened (own_life v.number connid) ≡ false

-- an open did where its test failed
could_by : (b : Bool) (what : DidWhat) → cond b Memory (DidAnswer Plain) ≡ DidAnswer what → b ≡ false
could_by true what h = cc
could_by false what h = refl

-- what is not new twice over is not there
twice_not : (b : Bool) → not (not b) ≡ false → b ≡ false
twice_not true h = h
twice_not false h = refl

-- an open did where no life was open and the life is new
could_open : (v : PortView) (k : Kept) (connid : Connid) (what : DidWhat) → machine_answer v k (OpenLife connid) ≡ DidAnswer what → CouldOpen k v connid
unfolding machine_answer
could_open v k connid what a =
    let test = could_by (is_some k.endpoint || not (is_new_life k.opened v connid)) what a in
    let parts = or_parts (is_some k.endpoint) (not (is_new_life k.opened v connid)) test in
    record { endpoint = none_there k.endpoint parts.0; fresh = twice_not (is_opened k.opened (own_life v.number connid)) parts.1 }

-- a test that holds beside another one
right_false : (a b c : Bool) → b ≡ true → (a || (b && c)) ≡ false → c ≡ false
right_false true b c e h = cc
right_false false true c e h = h
right_false false false c e h = cc

-- a life of which the port does not know was not opened by it
not_opened : (port : ℕ) (log : List Deed) (connid : Connid) → knows_open port log (own_life port connid) ≡ false → list_any (opens (own_life port connid)) log ≡ false
unfolding knows_open
not_opened port log connid h =
    right_false (list_any (tells_open (own_life port connid)) log) (port == port) (list_any (opens (own_life port connid)) log) (eq-eqb port port refl) h

-- the life that is opened has no deeds before
fresh_life : (v : PortView) (k : Kept) (connid : Connid) → IsKept v k → is_opened k.opened (own_life v.number connid) ≡ false → of_life connid (deeds_of v) ≡ []
fresh_life v k connid h fresh =
    unopened_has_none (own_life v.number connid) (deeds_of v) (not_opened v.number (deeds_of v) connid (sym (h.opened_are (own_life v.number connid)) ∙ fresh))

-- nor has it after the open
fresh_after : (connid : Connid) (log : List Deed) → open_life log ≡ None → of_life connid log ≡ [] → of_life connid (Did (OpenLife connid) ∷ log) ≡ []
unfolding of_life is_connid
fresh_after connid log none fresh = rw none fresh

-- after a life was opened
pub open_kept : (v : PortView) (k : Kept) (connid : Connid) (what : DidWhat) → IsKept v k → machine_answer v k (OpenLife connid) ≡ DidAnswer what
    → KeepsDeeds v (Did (OpenLife connid) ∷ deeds_of v) (after_did v (OpenLife connid) k)
unfolding after_did open_life open_after was_told says note_pushes_by new_endpoint
open_kept v k connid what h a =
    let d = Did (OpenLife connid) in
    let log = deeds_of v in
    let could = could_open v k connid what a in
    let none = none_open v k h could.endpoint in
    let fresh = fresh_life v k connid h could.fresh in
    let more = notes_more v k d h refl in
    record {
      notes_within = more.within;
      notes_are = more.notes_are;
      opened_are = λ l. opened_more v.number log connid k.opened l (h.opened_are l);
      told_are = h.told_are;
      built = (h.built, subst (λ (o : Option Connid). IsBuiltDeed (own_at v) o log d) (sym none) fresh);
      open_is = refl;
      keeps = subst (λ (ds : List Deed). Keeps ds (new_endpoint (own_at v connid))) (sym (fresh_after connid log none fresh)) (keeps_new (own_at v connid));
    }
