-- What holds of an endpoint's record, for each life of a port whose log is right by itself.
use Rattle.std.specs.Prelude.{◌≡◌, ◌<◌, ℕ, true, false, List, ◌∷◌, Some, None, slice_get}
use Rattle.rdm_lists.specs.Lists.{Member}
use Rattle.rdm_num.specs.declared.numbers.Life.{Life}
use Rattle.rdm_num.specs.declared.numbers.Connid.{Connid}
use Rattle.rdm_wire.specs.declared.Load.{Load}
use Rattle.rdm_model.specs.declared.job.Job.{Job}
use Rattle.rdm_model.specs.declared.job.Instr.{Instr}
use Rattle.rdm_model.specs.declared.entry.Entry.{Entry}
use Rattle.rdm_model.specs.Answers.{answer_of, answer_by}
use Rattle.rdm_model.specs.Beginnings.{own_of, life_at, rank_of}
use Rattle.rdm_model.specs.Classes.{item_class_by, item_class}
use Rattle.rdm_model.specs.Deeds.{Item, Took, item_of, deed_of, of_life, open_life}
use Rattle.rdm_model.specs.Dues.{due}
use Rattle.rdm_model.specs.Facts.{port_facts}
use Rattle.rdm_model.specs.Going.{due_going}
use Rattle.rdm_model.specs.Heard.{entering}
use Rattle.rdm_model.specs.Local.{own_scene, Local}
use Rattle.rdm_model.specs.Scenes.{Scene, deeds_at}
use Rattle.rdm_model.specs.Steps.{next_completion}
use Rattle.rdm_model.specs.Takes.{needs_place_by, needs_place, place_facts}
use Rattle.rdm_life.specs.Kept.{Kept}
use Rattle.rdm_life.specs.Keeps.{Keeps}
use Rattle.rdm_life.specs.Facts.{facts_in, class_facts_in, place_facts_in, entered_in}
use Rattle.rdm_life.specs.Handling.{kept, after}
use Rattle.rdm_life.specs.Lending.{Loan, Lending, brought, share, is_free, lend, same_loan, unlend, land_lent, IsMissing, Spares}
use Rattle.rdm_life.specs.Sending.{goes_out, going_to}

-- Each field that is kept of the deeds of a life is what the definitions say.
abbrev pub RecordIsKept : Type 0
RecordIsKept =
    (job : Job) (port : ℕ) (connid : Connid) (log : List Entry)
    → Local job port log
    → Keeps (own_of job (life_at port (Some connid))) (of_life connid (deeds_at job port log)) (kept (own_of job (life_at port (Some connid))) (of_life connid (deeds_at job port log)))

-- what is kept of the deeds of a scene
abbrev pub kept_in : Scene → Kept
kept_in s = kept s.own s.log

-- What is kept answers all that a scene does.
pub record AnswersAs (s : Scene) (v : Kept) : Type 0 where
  -- each instruction is answered as by the definitions
  pub answers : (instr : Instr) → answer_by (port_facts s) (facts_in v) instr ≡ answer_of s instr
  -- what comes has the class that they give it
  pub classes : (from : Life) (to : Connid) (load : Load) → item_class_by (class_facts_in v) from to (item_of load) ≡ item_class s from to (item_of load)
  -- where no class fits, it needs an early place where it does by the definitions, and they are all taken where they say so
  pub places : (from : Life) (to : Connid) (load : Load) → item_class s from to (item_of load) ≡ None → needs_place_by (place_facts_in v) from (item_of load) ≡ needs_place s from (item_of load)
  pub fulls : (place_facts_in v).is_full ≡ (place_facts s).is_full
  -- where no class fits, the messages enter that enter by the definitions
  pub enters : (from : Life) (to : Connid) (load : Load) → item_class s from to (item_of load) ≡ None → entered_in v from (item_of load) ≡ entering s.own.limits.first (Took from (item_of load)) s.log from
  -- what goes out next is what is due, and what is polled next is the first completion that was not
  pub goes : due_going (due s.own s.ms s.log) ≡ going_to (goes_out v)
  pub polls : slice_get v.completions 0 ≡ next_completion s

-- What is kept of an open life answers all that its scene does.
abbrev pub FactsAreKept : Type 0
FactsAreKept =
    (job : Job) (port : ℕ) (connid : Connid) (log : List Entry)
    → Local job port log
    → open_life (deeds_at job port log) ≡ Some connid
    → AnswersAs (own_scene job port (deeds_at job port log)) (kept_in (own_scene job port (deeds_at job port log)))

-- ---- what is lent

-- the record of an open life
abbrev pub kept_of : Job → (port : ℕ) → List Entry → Kept
kept_of job port log = kept_in (own_scene job port (deeds_at job port log))

-- a range is lent for a datagram that no class fits: it brings that range, of which nothing came
pub record IsLent (v : Kept) (from : Life) (to : Connid) (load : Load) (l : Loan) : Type 0 where
  pub taken : item_class_by (class_facts_in v) from to (item_of load) ≡ None
  pub brings : brought v from (item_of load) ≡ Some l
  pub missing : IsMissing v l

-- A range may be lent for a datagram that no class fits and that has bytes for a live receive.
abbrev pub LoansBegin : Type 0
LoansBegin =
    (job : Job) (port : ℕ) (connid : Connid) (log : List Entry) (from : Life) (to : Connid) (load : Load) (l : Loan)
    → Local job port log
    → open_life (deeds_at job port log) ≡ Some connid
    → item_class (own_scene job port (deeds_at job port log)) from to (item_of load) ≡ None
    → brought (kept_of job port log) from (item_of load) ≡ Some l
    → 0 < l.len
    → IsLent (kept_of job port log) from to load l

-- It stays lent for it by each deed that spares it, so that the datagram can land then as it could before.
abbrev pub LoansLast : Type 0
LoansLast =
    (job : Job) (port : ℕ) (connid : Connid) (e : Entry) (log : List Entry) (from : Life) (to : Connid) (load : Load) (l : Loan)
    → Local job port (e ∷ log)
    → open_life (deeds_at job port log) ≡ Some connid
    → IsLent (kept_of job port log) from to load l
    → Spares (kept_of job port log) (deed_of (rank_of job port).ops e.act) l
    → IsLent (after (deed_of (rank_of job port).ops e.act) (kept_of job port log)) from to load l

-- each range that is out is missing, and no two of them share a place
pub record LoansStand (w : Lending) : Type 0 where
  pub missing : (l : Loan) → Member l w.out → IsMissing w.kept l
  pub apart : (k l : Loan) → Member k w.out → Member l w.out → same_loan k l ≡ false → share k l ≡ false

-- They stand as one more is lent that is missing and shares no place with them.
abbrev pub LendingStands : Type 0
LendingStands = (w : Lending) (l : Loan) → LoansStand w → IsMissing w.kept l → is_free w.out l ≡ true → LoansStand (lend l w)

-- They stand as one is given back.
abbrev pub UnlendingStands : Type 0
UnlendingStands = (w : Lending) (l : Loan) → LoansStand w → LoansStand (unlend l w)

-- The others stand as the datagram of one lands.
abbrev pub LandingStands : Type 0
LandingStands =
    (job : Job) (port : ℕ) (connid : Connid) (e : Entry) (log : List Entry) (from : Life) (item : Item) (l : Loan) (out : List Loan)
    → Local job port (e ∷ log)
    → open_life (deeds_at job port log) ≡ Some connid
    → deed_of (rank_of job port).ops e.act ≡ Took from item
    → Member l out
    → brought (kept_of job port log) from item ≡ Some l
    → LoansStand (record { kept = kept_of job port log; out = out })
    → LoansStand (land_lent l from item (record { kept = kept_of job port log; out = out }))
