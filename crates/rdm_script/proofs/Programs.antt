-- A program is read one instruction after the other.
use Rattle.std.proofs.Common.{◌≡◌, ℕ, Bool, true, false, not, ◌||◌, List, [], ◌∷◌, ◌++◌, length, reverse, Result, Ok, Err, refl, ap, ◌∙◌, append_assoc, ◌==◌, if◌then◌else◌}
use Rattle.std.proofs.lemmas.List.{reverse-append}
use Rattle.std.specs.List.{list_any}
use Rattle.serde_json.specs.Data.{Data}
use Rattle.rdm_model.specs.declared.job.Instr.{Instr}
use Rattle.rdm_model.specs.declared.job.Instr.TheVariants.{OpenLife, Insert, Reg, Send, Recv, Cancel, Note, Await, Wait, CloseLife}
use Rattle.rdm_model.specs.Jobs.{opened_by, needs_life}
use Rattle.rdm_json.specs.declared.place.Place.TheVariants as place
use Rattle.rdm_json.specs.declared.refusal.BadScript.{BadScript}
use Rattle.rdm_json.specs.declared.refusal.Reason.TheVariants.{NoLife, OpenTwice, RepeatConnid}
use Rattle.rdm_json.specs.Results.{◌>>=◌, ◌>>◌, tested, placed, with_front}
use Rattle.rdm_script.specs.declared.fields.Version.{Version}
use Rattle.rdm_script.specs.Programs.{is_open, opened, lives_tested, next_instr, program_of}

-- what stands after the newest stands after all
reverse-cons : (p : List Instr) (i : Instr) (is : List Instr) → reverse (i ∷ p) ++ is ≡ reverse p ++ (i ∷ is)
reverse-cons p i is = rw (reverse-append (i ∷ []) p, append_assoc)

-- the newest of the instructions before goes before what is read
with_front-reverse : (p : List Instr) (i : Instr) (r : Result (List Instr) BadScript) → with_front (reverse (i ∷ p)) r ≡ with_front (reverse p) (r >>= λ is. Ok (i ∷ is))
with_front-reverse p i (Ok is) = ap Ok (reverse-cons p i is)
with_front-reverse p i (Err bad) = refl

-- the two tests of an open, as one choice
open_answer : (now found : Bool) → (tested OpenTwice (not now) >> tested RepeatConnid (not found)) ≡ (if now then Err OpenTwice else if found then Err RepeatConnid else Ok tt)
open_answer true found = refl
open_answer false true = refl
open_answer false false = refl

-- the test of any other instruction, as one choice
life_answer : (now needs : Bool) → tested NoLife (now || not needs) ≡ (if now then Ok tt else if needs then Err NoLife else Ok tt)
life_answer true needs = refl
life_answer false true = refl
life_answer false false = refl

-- the next instruction was read
pub program_of-next : (version : Version) (rank ports : ℕ) (p : List Instr) (i : Instr) (d : Data) (ds : List Data) (all : Result (List Instr) BadScript)
    → placed (place.Op rank (length p)) (next_instr version ports p d) ≡ Ok i
    → with_front (reverse p) (program_of version rank ports p (d ∷ ds)) ≡ all
    → with_front (reverse (i ∷ p)) (program_of version rank ports (i ∷ p) ds) ≡ all
program_of-next version rank ports p i d ds all read h = with_front-reverse p i _ ∙ rw read at h

-- what is found of an instruction that opens an identifier
pub lives_tested-open : (before : List Instr) (i : Instr) (connid : ℕ) (now found : Bool)
    → connid ∷ [] ≡ opened_by i → now ≡ is_open before → found ≡ list_any (λ o. o == connid) (opened before)
    → lives_tested before i ≡ (if now then Err OpenTwice else if found then Err RepeatConnid else Ok tt)
unfolding opened_by
lives_tested-open before (OpenLife c) connid now found opens was has =
    let same : connid ≡ c.0 = cc in
    rw (← same, ← was, ← has) (open_answer now found)
lives_tested-open before (Insert life) connid now found opens was has = cc
lives_tested-open before (Reg content) connid now found opens was has = cc
lives_tested-open before (Send req) connid now found opens was has = cc
lives_tested-open before (Recv req) connid now found opens was has = cc
lives_tested-open before (Cancel recv) connid now found opens was has = cc
lives_tested-open before (Note to what) connid now found opens was has = cc
lives_tested-open before (Await from what) connid now found opens was has = cc
lives_tested-open before (Wait count) connid now found opens was has = cc
lives_tested-open before CloseLife connid now found opens was has = cc

-- what is found of any other instruction
pub lives_tested-other : (before : List Instr) (i : Instr) (now : Bool)
    → [] ≡ opened_by i → now ≡ is_open before → lives_tested before i ≡ (if now then Ok tt else if needs_life i then Err NoLife else Ok tt)
unfolding opened_by
lives_tested-other before (OpenLife c) now opens was = cc
lives_tested-other before (Insert life) now opens was = rw (← was) (life_answer now _)
lives_tested-other before (Reg content) now opens was = rw (← was) (life_answer now _)
lives_tested-other before (Send req) now opens was = rw (← was) (life_answer now _)
lives_tested-other before (Recv req) now opens was = rw (← was) (life_answer now _)
lives_tested-other before (Cancel recv) now opens was = rw (← was) (life_answer now _)
lives_tested-other before (Note to what) now opens was = rw (← was) (life_answer now _)
lives_tested-other before (Await from what) now opens was = rw (← was) (life_answer now _)
lives_tested-other before (Wait count) now opens was = rw (← was) (life_answer now _)
lives_tested-other before CloseLife now opens was = rw (← was) (life_answer now _)
