-- The programs that are read fit, and their lives follow each other.
use Rattle.std.proofs.Common.{◌≡◌, ◌≤◌, ℕ, suc, Bool, true, not, ◌||◌, List, [], ◌∷◌, length, codes, Ok, refl, ap, arith}
use Rattle.std.specs.Prelude.{nat_le}
use Rattle.std.specs.List.{list_all}
use Rattle.std.proofs.lemmas.Bool.{and_from, leb-true, le-leb}
use Rattle.serde_json.specs.Data.{Data}
use Rattle.serde_json.specs.Find.{get}
use Rattle.rdm_num.specs.declared.limits.EpLimits.{EpLimits}
use Rattle.rdm_model.specs.declared.job.Instr.{Instr}
use Rattle.rdm_model.specs.declared.job.Instr.TheVariants.{OpenLife, Insert, Reg, Send, Recv, Cancel, Note, Await, Wait, CloseLife}
use Rattle.rdm_model.specs.declared.job.Rank.{Rank}
use Rattle.rdm_model.specs.Jobs.{instr_fits, opens_well, lives_fit, limits_fit, differ_in_pools, features_fit, rank_fits, law_ops, is_rank_or_none}
use Rattle.rdm_json.specs.declared.place.Place.TheVariants as place
use Rattle.rdm_json.specs.declared.refusal.BadScript.{BadScript}
use Rattle.rdm_json.specs.declared.refusal.Reason.{Reason}
use Rattle.rdm_json.specs.declared.refusal.Reason.TheVariants.{Limit, NoRank, NoLife, OpenTwice, RepeatConnid}
use Rattle.rdm_json.specs.Results.{tested, placed}
use Rattle.rdm_json.specs.Values.{known, number_or, array}
use Rattle.rdm_script.specs.declared.fields.Version.{Version}
use Rattle.rdm_script.specs.Instructions.{instr_of}
use Rattle.rdm_script.specs.Programs.{port_named, is_open, opened, lives_tested, next_instr, program_of, rank_form, own_pools_known, own_limits, rank_parts, rank_of}
use Rattle.rdm_json.proofs.Chains.{gave, passed, held, unplaced, given}
use Rattle.rdm_script.proofs.Limits.{own_limits-fit}
use Rattle.rdm_script.proofs.Instructions.{instr_of-fits}

-- a test that was passed by what is no open
other_lives : (before : List Instr) (needs : Bool) → tested NoLife (is_open before || not needs) ≡ Ok tt → (is_open before || not needs) ≡ true
other_lives before needs h = held NoLife (is_open before || not needs) h

lives_tested-fits : (before : List Instr) (i : Instr) → lives_tested before i ≡ Ok tt → opens_well (is_open before) (opened before) i ≡ true
unfolding opens_well
lives_tested-fits before (OpenLife connid) h =
    let (closed, h) = passed (tested OpenTwice (not (is_open before))) _ tt h in
    and_from _ _ (held OpenTwice _ closed) (held RepeatConnid _ h)
lives_tested-fits before (Insert life) h = other_lives before _ h
lives_tested-fits before (Reg content) h = other_lives before _ h
lives_tested-fits before (Send req) h = other_lives before _ h
lives_tested-fits before (Recv req) h = other_lives before _ h
lives_tested-fits before (Cancel recv) h = other_lives before _ h
lives_tested-fits before (Note to what) h = other_lives before _ h
lives_tested-fits before (Await from what) h = other_lives before _ h
lives_tested-fits before (Wait count) h = other_lives before _ h
lives_tested-fits before CloseLife h = other_lives before _ h

record NextFits (ports : ℕ) (before : List Instr) (i : Instr) : Type 0 where
  fits : instr_fits ports i ≡ true
  lives : opens_well (is_open before) (opened before) i ≡ true

next_instr-fits : (version : Version) (ports : ℕ) (before : List Instr) (d : Data) (i : Instr) → next_instr version ports before d ≡ Ok i → NextFits ports before i
next_instr-fits version ports before d i h =
    let (j, read, h) = gave (instr_of version d) _ i h in
    let (named, h) = passed (tested NoRank (is_rank_or_none ports (port_named j))) _ i h in
    let (lives, h) = passed (lives_tested before j) _ i h in
    let is : j ≡ i = given {E = Reason} j i h in
    rw (← is) (record { fits = instr_of-fits ports d j version read (held NoRank _ named); lives = lives_tested-fits before j lives })

-- a program that follows these instructions
record ProgramFits (ports : ℕ) (before : List Instr) (ds : List Data) (is : List Instr) : Type 0 where
  counted : length is ≡ length ds
  fits : list_all (instr_fits ports) is ≡ true
  lives : lives_fit (is_open before) (opened before) is ≡ true

program_of-fits : (version : Version) (rank ports : ℕ) (before : List Instr) (ds : List Data) (is : List Instr) → program_of version rank ports before ds ≡ Ok is → ProgramFits ports before ds is
unfolding lives_fit
program_of-fits version rank ports before [] is h =
    let none : [] ≡ is = given {E = BadScript} [] is h in
    rw (← none) (record { counted = refl; fits = refl; lives = refl })
program_of-fits version rank ports before (d ∷ ds) is h =
    let (i, read, h) = gave (placed (place.Op rank (length before)) (next_instr version ports before d)) _ is h in
    let (more, rest, h) = gave (program_of version rank ports (i ∷ before) ds) _ is h in
    let all : i ∷ more ≡ is = given {E = BadScript} (i ∷ more) is h in
    let next = next_instr-fits version ports before d i (unplaced _ _ i read) in
    let others = program_of-fits version rank ports (i ∷ before) ds more rest in
    rw (← all)
    (record {
      counted = ap suc others.counted;
      fits = and_from _ _ next.fits others.fits;
      lives = and_from _ _ next.lives others.lives;
    })

-- what a rank says beside its instructions, in a job of these limits
record PartsFit (limits : EpLimits) (parts : ℕ × EpLimits × List Data) : Type 0 where
  features : features_fit parts.0 ≡ true
  differ : differ_in_pools limits parts.1 ≡ true
  own : limits_fit parts.1 ≡ true
  few : length parts.2 ≤ 20000

rank_parts-fits : (version : Version) (limits : EpLimits) (d : Data) (parts : ℕ × EpLimits × List Data) → limits_fit limits ≡ true → rank_parts version limits d ≡ Ok parts → PartsFit limits parts
rank_parts-fits version limits d parts fair h =
    let (_, h) = passed (known (rank_form version) d) _ parts h in
    let (features, _, h) = gave (number_or 25 (get (codes "features") d)) _ parts h in
    let (ops, _, h) = gave (array (codes "ops") d) _ parts h in
    let (_, h) = passed (own_pools_known (get (codes "pools") d)) _ parts h in
    let (fit, h) = passed (tested Limit (features_fit features)) _ parts h in
    let (own, o, h) = gave (own_limits limits (get (codes "pools") d)) _ parts h in
    let (few, h) = passed (tested Limit (nat_le (length ops) 20000)) _ parts h in
    let is : (features, own, ops) ≡ parts = given {E = Reason} (features, own, ops) parts h in
    let pools = own_limits-fit limits (get (codes "pools") d) own fair o in
    rw (← is) (record { features = held Limit _ fit; differ = pools.differ; own = pools.fits; few = leb-true _ _ (held Limit _ few) })

pub rank_of-fits : (version : Version) (limits : EpLimits) (rank ports : ℕ) (d : Data) (r : Rank) → limits_fit limits ≡ true → rank_of version limits rank ports d ≡ Ok r → rank_fits limits ports law_ops r ≡ true
unfolding rank_fits
rank_of-fits version limits rank ports d r fair h =
    let (parts, read, h) = gave (placed (place.Rank rank) (rank_parts version limits d)) _ r h in
    let (ops, program, h) = gave (program_of version rank ports [] parts.2) _ r h in
    let is : record { features = parts.0; limits = parts.1; ops = ops } ≡ r = given {E = BadScript} (record { features = parts.0; limits = parts.1; ops = ops }) r h in
    let said = rank_parts-fits version limits d parts fair (unplaced _ _ parts read) in
    let fit = program_of-fits version rank ports [] parts.2 ops program in
    rw (← is)
    (and_from _ _
    (and_from _ _ (and_from _ _ (and_from _ _ (and_from _ _ said.differ said.own) said.features) (le-leb _ _ (omega (arith, said.few, fit.counted)))) fit.fits)
    fit.lives)
