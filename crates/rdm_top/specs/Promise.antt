-- What the top call promises.
use Rattle.std.specs.Prelude.{◌≡◌, ◌<◌, ℕ, Bool, true, false, bytes_eq, List, [], ◌∷◌, length, take, String, string_bytes, codes, Option, ⊤, Ok, Err}
use Rattle.std.specs.declared.alloc.Global.{Global}
use Rattle.std.specs.Io.KnownBytes.{Appends, Keeps, Consumes, IsAtEnd}
use Rattle.rdm_io.specs.Faults.{Rose}
use Rattle.rdm_model.specs.declared.job.Job.{Job}
use Rattle.rdm_model.specs.declared.report.Report.{Report}
use Rattle.rdm_model.specs.Played.{IsPlayed}
use Rattle.rdm_model.specs.Reports.{RightReport}
use Rattle.rdm_law.specs.Headline.{SaysRight}
use Rattle.rdm_script.specs.Script.{job_in}
use Rattle.rdm_report.specs.Text.{report_text}
use Rattle.rdm_top.specs.Reads.{IsRead}
use Rattle.rdm_top.specs.declared.status.Status.{Status}
use Rattle.rdm_top.specs.declared.status.Status.TheVariants as status

-- the words are the command that replays a script
abbrev pub is_replay : List (String Global) → Bool
is_replay [] = false
is_replay (word ∷ []) = bytes_eq (string_bytes word) (codes "replay")
is_replay (word ∷ _ ∷ _) = false

-- the input was read to its end, and is the script of a job whose report is this: the one that is played. It is right: its
-- history is lawful and settled, and it says of each rank what the history says. What this means is said in words of messages,
-- receives and lives: the plain matcher makes the pairs, of each sender's messages in the order of their sending; each polled
-- receive has the message that it was matched to, was cancelled, or is gone with a life, and is polled once; each drop is of
-- another life, changes nothing and is counted; an instruction is to be tried again only where a pool is full; and what was
-- matched between standing lives is complete
pub record Plays (left rest : Option (List ℕ)) (report : Report) : Type 0 where
  pub bytes : List ℕ
  pub job : Job
  pub read : Consumes left rest bytes
  pub to_end : IsAtEnd rest
  pub is_job : job_in bytes ≡ Ok job
  pub played : IsPlayed job report
  pub right : RightReport job report
  pub says : SaysRight job report

-- a part of the text was given that is not the whole
abbrev pub GavePart : Option (List ℕ) → Option (List ℕ) → List ℕ → Type 0
GavePart given now text = (n : ℕ) × (n < length text) × Appends given now (take n text)

-- the report was given, and says whether any program is stuck
abbrev pub Gave : (left rest given now : Option (List ℕ)) → (stuck : Bool) → Type 0
Gave left rest given now stuck = (r : Report) × Plays left rest r × (r.stuck ≡ stuck) × Appends given now (report_text r)

-- what each status says of what was read and of what was given
abbrev pub Replies : (left rest given now : Option (List ℕ)) → Status → Type 0
Replies left rest given now status.Done = Gave left rest given now false
Replies left rest given now status.Stuck = Gave left rest given now true
Replies left rest given now status.Usage = Keeps left rest × Keeps given now
Replies left rest given now (status.BadScript bad) = (bytes : List ℕ) × IsRead left rest bytes × (job_in bytes ≡ Err bad) × Keeps given now
Replies left rest given now status.ReadFault = Keeps given now
Replies left rest given now status.WriteFault = (r : Report) × Plays left rest r × GavePart given now (report_text r)
Replies left rest given now status.Memory = Keeps given now

-- where the words are no command, the source and the sink are as they were
abbrev pub Untouched : {S K : Type 0} → Status → S → S → K → K → Type 0
Untouched status.Usage source source' sink sink' = (source' ≡ source) × (sink' ≡ sink)
Untouched _ source source' sink sink' = ⊤

-- a fault comes only where the count of its own object rose, and each other count stays: no fault of the source or of the sink
-- is swallowed
abbrev pub Caused : (source source' sink sink' : ℕ) → Status → Type 0
Caused source source' sink sink' status.ReadFault = Rose source source' × (sink' ≡ sink)
Caused source source' sink sink' status.WriteFault = (source' ≡ source) × Rose sink sink'
Caused source source' sink sink' _ = (source' ≡ source) × (sink' ≡ sink)
