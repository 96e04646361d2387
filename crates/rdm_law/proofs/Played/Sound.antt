-- A world whose logs are right by themselves, and whose inboxes deliver: each choice keeps it so.
use Rattle.std.proofs.Common.{◌≡◌, ℕ, ◌+◌, ◌≤◌, ◌<◌, Bool, true, false, cond, ◌||◌, leb-false, List, ◌∷◌, ◌++◌, Some, refl, arith, sym, subst}
use Rattle.rdm_lists.specs.Lists.{Member}
use Rattle.rdm_num.specs.declared.numbers.Life.{Life}
use Rattle.rdm_wire.specs.declared.Datagram.{Datagram}
use Rattle.rdm_model.specs.declared.job.Job.{Job}
use Rattle.rdm_model.specs.declared.entry.Entry.{Entry}
use Rattle.rdm_model.specs.declared.entry.Act.{Act}
use Rattle.rdm_model.specs.Deeds.{Item}
use Rattle.rdm_model.specs.Scenes.{deeds_at}
use Rattle.rdm_model.specs.Classes.{class_of}
use Rattle.rdm_model.specs.Going.{Goes, going}
use Rattle.rdm_model.specs.Steps.{clock, stamp_after, last_stamp, Does}
use Rattle.rdm_model.specs.Settled.{is_worn}
use Rattle.rdm_model.specs.Local.{Local, own_scene}
use Rattle.rdm_model.specs.Worlds.{World, put_at}
use Rattle.rdm_law.proofs.Played.Apart.{put_at_case}
use Rattle.rdm_law.proofs.Played.Delivers.{Delivers}
use Rattle.rdm_law.proofs.Fits.Fitting.{BodyFits, HandledFits, AllHandledFit, CanGo}

-- what waits for each port: first what is in its stash
abbrev pub waiting_in : World → ℕ → List Datagram
waiting_in w port = w.stashes port ++ w.queues port

-- the logs are right by themselves, what was handled and what waits fits, and the inboxes deliver
pub record Sound (job : Job) (w : World) : Type 0 where
  pub local : (port : ℕ) → Local job port (w.logs port)
  pub handled : (port : ℕ) → AllHandledFit (w.logs port)
  pub waiting : (port : ℕ) (d : Datagram) → Member d (waiting_in w port) → BodyFits d.body
  pub delivers : Delivers w.logs (waiting_in w)

-- what goes out by a log that is right by itself can go
abbrev pub GoesWell : Job → Type 0
GoesWell job =
    (port : ℕ) (log : List Entry) (to : Life) (item : Item)
    → Local job port log → AllHandledFit log → going (own_scene job port (deeds_at job port log)) ≡ Some (Goes to item) → CanGo item

-- a clock that isn't at its end can go on by one
pub not_worn : (job : Job) (log : List Entry) → is_worn job log ≡ false → clock job log + 1 ≤ last_stamp
unfolding is_worn
not_worn job log h = let a : clock job log < last_stamp = leb-false _ _ h in omega arith

-- the entry that an act makes of a log
abbrev pub entry_of : Job → ℕ → List Entry → Act → Entry
entry_of job port log act = record { stamp = record { 0 = stamp_after (clock job log) act }; port = record { 0 = port }; act = act }

-- a log that is right by itself stays so with an act that the port may do
pub local_more : (job : Job) (logs : ℕ → List Entry) (port : ℕ) (act : Act) → ((p : ℕ) → Local job p (logs p))
    → stamp_after (clock job (logs port)) act ≤ last_stamp
    → Does job class_of (own_scene job port (deeds_at job port (logs port))) (logs port) (entry_of job port (logs port) act) act
    → (p : ℕ) → Local job p (put_at port (entry_of job port (logs port) act ∷ logs port) logs p)
local_more job logs port act local stamp does p =
    let e = entry_of job port (logs port) act in
    put_at_case (λ (log : List Entry). Local job p log) port (e ∷ logs port) logs p
    (λ is. subst (λ (x : ℕ). Local job x (e ∷ logs port)) (sym is) (local port, refl, (refl, stamp, does))) (λ other. local p)

-- handled datagrams fit with one more that does
pub handled_more : (logs : ℕ → List Entry) (port : ℕ) (e : Entry) → ((p : ℕ) → AllHandledFit (logs p)) → HandledFits e.act
    → (p : ℕ) → AllHandledFit (put_at port (e ∷ logs port) logs p)
handled_more logs port e h new p =
    put_at_case AllHandledFit port (e ∷ logs port) logs p (λ is. (h port, new)) (λ other. h p)

-- where one of two tests holds, a choice is the first branch
pub chosen : {A : Type 0} (P : A → Type 0) (b : Bool) (x y : A) → (b ≡ true → P x) → (b ≡ false → P y) → P (cond b x y)
chosen P true x y h k = h refl
chosen P false x y h k = k refl
