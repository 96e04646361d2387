-- Who is greeted, and when: each life once. What a life makes of a handshake that comes first.
use Rattle.std.proofs.Common.{◌≡◌, ℕ, List, [], ◌∷◌, refl}
use Rattle.std.specs.Prelude.{Some, None}
use Rattle.rdm_wire.specs.declared.Body.TheVariants as Body
use Rattle.rdm_wire.specs.declared.Load.TheVariants as Load
use Rattle.rdm_pkt.specs.declared.Packet.TheVariants.{Handshake}
use Rattle.rdm_model.specs.declared.job.Job.{Job}
use Rattle.rdm_model.specs.declared.job.Instr.{Instr}
use Rattle.rdm_model.specs.declared.job.Instr.TheVariants.{OpenLife, Insert, Note, Await}
use Rattle.rdm_model.specs.declared.entry.Entry.{Entry}
use Rattle.rdm_model.specs.declared.entry.Act.TheVariants as Act
use Rattle.rdm_model.specs.declared.answer.OpName.TheVariants as Op
use Rattle.rdm_model.specs.declared.answer.Next.TheVariants as Next
use Rattle.rdm_model.specs.declared.answer.DidWhat.TheVariants as Did
use Rattle.rdm_model.specs.declared.answer.Class.TheVariants as Class
use Rattle.rdm_model.specs.declared.answer.Handled.{Handled}
use Rattle.rdm_model.specs.Deeds.{Spelled}
use Rattle.rdm_model.specs.Scenes.{deeds_at}
use Rattle.rdm_model.specs.Local.{own_scene}
use Rattle.rdm_model.specs.Classes.{class_of}
use Rattle.rdm_model.specs.Takes.{handled_answer}
use Rattle.rdm_model.specs.Played.{played_world}
use Rattle.rdm_rows.specs.Shown.{pushed_items}
use Rattle.rdm_rows.specs.Jobs.{zero_five, one_seven, two_ranks_with}
use Rattle.rdm_rows.specs.Limits.{default_limits}
use Rattle.rdm_rows.specs.Words.{every_word}

-- two ranks with these features and programs
abbrev job_of : (own peer : ℕ) → (ops_0 ops_1 : List Instr) → Job
job_of own peer ops_0 ops_1 = two_ranks_with own peer default_limits (OpenLife (record { 0 = 5 }) ∷ ops_0) (OpenLife (record { 0 = 7 }) ∷ ops_1)

-- both insert each other
abbrev both : (own peer : ℕ) → Job
both own peer = job_of own peer (Insert one_seven ∷ []) (Insert zero_five ∷ [])

-- where both can confirm, each greets at its insert, by its raw address, and not again
both_push_0 : pushed_items ((played_world (both 27 27)).logs 0) ≡ Spelled (Handshake (27 ∷ []) (record { 0 = 5 }) (Some (record { 0 = 0 }))) ∷ []
unfolding every_word
both_push_0 = refl

both_push_1 : pushed_items ((played_world (both 27 27)).logs 1) ≡ Spelled (Handshake (27 ∷ []) (record { 0 = 7 }) (Some (record { 0 = 1 }))) ∷ []
unfolding every_word
both_push_1 = refl

-- where one of them can, the other one greets it once it has taken a datagram of it
one_pushes_0 : pushed_items ((played_world (both 27 25)).logs 0) ≡ Spelled (Handshake (27 ∷ []) (record { 0 = 5 }) (Some (record { 0 = 0 }))) ∷ []
unfolding every_word
one_pushes_0 = refl

one_pushes_1 : pushed_items ((played_world (both 27 25)).logs 1) ≡ Spelled (Handshake (25 ∷ []) (record { 0 = 7 }) None) ∷ []
unfolding every_word
one_pushes_1 = refl

-- where neither can, neither greets
neither_pushes : pushed_items ((played_world (both 25 25)).logs 0) ≡ []
unfolding every_word
neither_pushes = refl

-- rank 1 inserts rank 0 once it has greeted it, and does not greet it again
abbrev greeted_first : Job
greeted_first = job_of 27 27 (Insert one_seven ∷ Note (record { 0 = 1 }) 1 ∷ []) (Await (record { 0 = 0 }) 1 ∷ Insert zero_five ∷ [])

greeted_first_pushes : pushed_items ((played_world greeted_first).logs 1) ≡ Spelled (Handshake (27 ∷ []) (record { 0 = 7 }) None) ∷ []
unfolding every_word
greeted_first_pushes = refl

-- Rank 1 has opened its life, and nothing has come from rank 0:

abbrev opened : List Entry
opened = record { stamp = record { 0 = 1 }; port = record { 0 = 1 }; act = Act.Next 0 Op.Open (Next.Did Did.Plain) } ∷ []

abbrev answer : List ℕ → Handled
answer bytes =
    handled_answer class_of (own_scene (both 27 27) 1 (deeds_at (both 27 27) 1 opened))
    (record {
      src = record { 0 = 0 };
      number = record { 0 = 0 };
      stamp = record { 0 = 1 };
      dst = record { 0 = 1 };
      body = Body.Between (record { 0 = 5 }) (record { 0 = 7 }) (Load.Packet bytes);
    })

-- a handshake with the raw address says whom it is from
raw_is_taken : answer (9 ∷ 4 ∷ 1 ∷ 0 ∷ 4 ∷ 0 ∷ 0 ∷ 0 ∷ 27 ∷ 0 ∷ 0 ∷ 0 ∷ 0 ∷ 0 ∷ 0 ∷ 0 ∷ 32 ∷ 0 ∷ 0 ∷ 0 ∷ 0 ∷ 0 ∷ 0 ∷ 0 ∷ 0 ∷ 0 ∷ 0 ∷ 0 ∷ 0 ∷ 0 ∷ 0 ∷ 0 ∷ 0 ∷ 0 ∷ 0 ∷ 0 ∷ 1 ∷ 0 ∷ 0 ∷ 0 ∷ 5 ∷ 0 ∷ 0 ∷ 0 ∷ 0 ∷ 0 ∷ 0 ∷ 0 ∷ 0 ∷ 0 ∷ 0 ∷ 0 ∷ []) ≡ Handled.Took None
unfolding every_word
raw_is_taken = refl

-- with that of another port
other_raw_is_malformed : answer (9 ∷ 4 ∷ 1 ∷ 0 ∷ 4 ∷ 0 ∷ 0 ∷ 0 ∷ 27 ∷ 0 ∷ 0 ∷ 0 ∷ 0 ∷ 0 ∷ 0 ∷ 0 ∷ 32 ∷ 0 ∷ 0 ∷ 0 ∷ 1 ∷ 0 ∷ 0 ∷ 0 ∷ 0 ∷ 0 ∷ 0 ∷ 0 ∷ 0 ∷ 0 ∷ 0 ∷ 0 ∷ 0 ∷ 0 ∷ 0 ∷ 0 ∷ 1 ∷ 0 ∷ 0 ∷ 0 ∷ 5 ∷ 0 ∷ 0 ∷ 0 ∷ 0 ∷ 0 ∷ 0 ∷ 0 ∷ 0 ∷ 0 ∷ 0 ∷ 0 ∷ []) ≡ Handled.Dropped Class.Malformed
unfolding every_word
other_raw_is_malformed = refl

-- with the identifier alone
connid_is_unknown : answer (9 ∷ 4 ∷ 0 ∷ 128 ∷ 4 ∷ 0 ∷ 0 ∷ 0 ∷ 27 ∷ 0 ∷ 0 ∷ 0 ∷ 0 ∷ 0 ∷ 0 ∷ 0 ∷ 5 ∷ 0 ∷ 0 ∷ 0 ∷ []) ≡ Handled.Dropped Class.Unknown
unfolding every_word
connid_is_unknown = refl

-- a receipt that comes first
receipt_is_unknown : answer (10 ∷ 4 ∷ 0 ∷ 128 ∷ 0 ∷ 0 ∷ 0 ∷ 0 ∷ 5 ∷ 0 ∷ 0 ∷ 0 ∷ []) ≡ Handled.Dropped Class.Unknown
unfolding every_word
receipt_is_unknown = refl
