-- A datagram that has no class passes each of the tests, and one that passes them has none.
use Rattle.std.proofs.Common.{◌≡◌, false, ◌&&◌, not, None, refl}
use Rattle.std.specs.Prelude.{is_none}
use Rattle.rdm_lists.specs.Lists.{first_case}
use Rattle.rdm_num.specs.declared.numbers.Connid.{Connid}
use Rattle.rdm_num.specs.declared.numbers.Life.{Life}
use Rattle.rdm_model.specs.Deeds.{Item, is_connid}
use Rattle.rdm_model.specs.Currents.{current}
use Rattle.rdm_model.specs.Scenes.{Scene}
use Rattle.rdm_model.specs.Sources.{is_other, is_malformed, has_raw}
use Rattle.rdm_model.specs.ClassFacts.{class_facts}
use Rattle.rdm_model.specs.Classes.{is_mismatch, is_overlap, item_class, is_bad_key, is_no_op, item_class_by}
use Rattle.rdm_law.proofs.Lives.Lives.{first_none}

-- no test of the table holds of a datagram
pub record IsTaken (s : Scene) (from : Life) (to : Connid) (item : Item) : Type 0 where
  pub for_life : not (is_connid s.now to) ≡ false
  pub from_current : is_other (current s.log from.port.0) from ≡ false
  pub well_formed : is_malformed from item ≡ false
  pub known : (is_none (current s.log from.port.0) && not (has_raw item)) ≡ false
  pub good_key : is_bad_key (class_facts s) from item ≡ false
  pub has_op : is_no_op (class_facts s) from item ≡ false
  pub agrees : is_mismatch (class_facts s) from item ≡ false
  pub new : is_overlap (class_facts s) from item ≡ false

-- a datagram that has no class passes each test
pub taken_parts : (s : Scene) (from : Life) (to : Connid) (item : Item) → item_class s from to item ≡ None → IsTaken s from to item
unfolding item_class_by
taken_parts s from to item h =
    let a = first_none _ _ _ h in
    let b = first_none _ _ _ a.1 in
    let c = first_none _ _ _ b.1 in
    let d = first_none _ _ _ c.1 in
    let e = first_none _ _ _ d.1 in
    let f = first_none _ _ _ e.1 in
    let g = first_none _ _ _ f.1 in
    let i = first_none _ _ _ g.1 in
    record { for_life = a.0; from_current = b.0; well_formed = c.0; known = d.0; good_key = e.0; has_op = f.0; agrees = g.0; new = i.0 }

-- a datagram that passes each test has no class
pub taken_from : (s : Scene) (from : Life) (to : Connid) (item : Item) → IsTaken s from to item → item_class s from to item ≡ None
unfolding item_class_by first_case
taken_from s from to item t =
    let a = t.for_life in
    let b = t.from_current in
    let c = t.well_formed in
    let d = t.known in
    let e = t.good_key in
    let f = t.has_op in
    let g = t.agrees in
    let h = t.new in
    rw (a, b, c, d, e, f, g, h) refl
