-- A sender that took all grants may push all that was granted.
use Rattle.std.proofs.Common.{◌≡◌, ℕ, ◌+◌, ◌<◌, ◌≤◌, true, cond, List, [], ◌∷◌, length, Option, Some, arith, inl, inr, sym, ◌∙◌, ap, subst}
use Rattle.rdm_num.specs.declared.numbers.Connid.{Connid}
use Rattle.rdm_num.specs.declared.numbers.Life.{Life}
use Rattle.rdm_num.specs.declared.numbers.OpId.{OpId}
use Rattle.rdm_pkt.specs.declared.Packet.TheVariants.{Cts}
use Rattle.rdm_match.specs.Matcher.{Pair}
use Rattle.rdm_wire.specs.declared.Datagram.{Datagram}
use Rattle.rdm_model.specs.declared.job.Job.{Job}
use Rattle.rdm_model.specs.declared.job.Instr.{Instr}
use Rattle.rdm_model.specs.declared.entry.Entry.{Entry}
use Rattle.rdm_model.specs.Deeds.{Deed, Took, Item, Spelled, deed_of, log_of}
use Rattle.rdm_model.specs.Beginnings.{Own, own_of, rank_of}
use Rattle.rdm_model.specs.Scenes.{deeds_at}
use Rattle.rdm_model.specs.Grants.{grants_by, grant_bytes}
use Rattle.rdm_model.specs.Sends.{Sent}
use Rattle.rdm_model.specs.Lawful.{life_deeds, port_deeds}
use Rattle.rdm_law.proofs.Accounts.Wired.{Played, played_before}
use Rattle.rdm_law.proofs.Accounts.Pushed.{PlacedAt}
use Rattle.rdm_law.proofs.Accounts.Known.{account}
use Rattle.rdm_law.proofs.Replies.Queue.{Placed}
use Rattle.rdm_law.proofs.Replies.Answered.{Answered}
use Rattle.rdm_law.proofs.Windows.WindowsAt.{WindowAt}
use Rattle.rdm_law.proofs.Windows.Granted.{Granting, allowed_of}
use Rattle.rdm_law.proofs.Lives.Handled.{at_life}
use Rattle.rdm_law.proofs.Windows.Granting.{cts_went, granting_earlier, window_longer, answered_longer, placed_longer}
use Rattle.rdm_num.specs.Lives.{life}
use Rattle.rdm_num.specs.declared.numbers.PortNo.{PortNo}
use Rattle.rdm_wire.specs.declared.Body.{Body}
use Rattle.rdm_model.specs.declared.entry.Act.{Act}
use Rattle.rdm_model.specs.declared.entry.Act.TheVariants.{Push, Handle}
use Rattle.rdm_model.specs.declared.answer.Entered.{Entered}
use Rattle.rdm_model.specs.declared.answer.Handled.TheVariants.{Took as TookAnswer}
use Rattle.rdm_model.specs.Deeds.{item_of, deed_by_handle, open_life}
use Rattle.rdm_model.specs.Beginnings.{Messages}
use Rattle.rdm_model.specs.Steps.{Does}
use Rattle.rdm_model.specs.Classes.{class_of}
use Rattle.rdm_model.specs.Local.{own_scene}
use Rattle.rdm_model.specs.Wire.{PushedIn, Comes}
use Rattle.rdm_law.proofs.Lives.Lives.{is_connid-true}
use Rattle.rdm_law.proofs.Accounts.Pushed.{own_now}
use Rattle.rdm_law.proofs.Accounts.Wired.{HandledBy, TakenAs, took_to, comes_of, pushed_taken}
use Rattle.rdm_law.proofs.Played.Delivers.{IsNumbered, AreNumbered, pushed_below}
use Rattle.rdm_law.proofs.Lives.Handled.{life_newest}
use Rattle.rdm_law.proofs.Settled.Delivered.{local_at}
use Rattle.rdm_law.proofs.Windows.Tiled.{starts_at, tiled, allowed_step, one_grant}
use Rattle.std.proofs.lemmas.Bool.{and_from, eq-eqb}
use Rattle.std.specs.Prelude.{nat_eq, ◌==◌, ◌&&◌}
use Rattle.rdm_num.specs.Lives.{same_life}
use Rattle.rdm_num.proofs.Lives.{same_life-refl}

-- a placed push was a push
pub placed_pushed : (job : Job) (port : ℕ) (c : Connid) (d : Datagram) (k : ℕ) (log : List Entry) → PlacedAt job port c d k log → PushedIn d log
placed_pushed job port c d k [] h = elim h [ ]
placed_pushed job port c d k (e ∷ before) (inl h) = inl h.0
placed_pushed job port c d k (e ∷ before) (inr h) = inr (placed_pushed job port c d k before h)

-- the newest push of a datagram is its only one
newest_once : (job : Job) (port : ℕ) (c : Connid) (d : Datagram) (l : ℕ) (e : Entry) (before : List Entry) → AreNumbered port (e ∷ before) → e.act ≡ Push d
    → PlacedAt job port c d l before → ⊥
newest_once job port c d l e before n is h =
    let P : Act → Type 0 = λ act. IsNumbered port before act in
    let mine : IsNumbered port before (Push d) = subst P is n.1 in
    let low = (pushed_below port before d n.0 (placed_pushed job port c d l before h)).1 in
    let same = mine.1 in
    omega arith

-- a datagram was pushed at one place
pub placed_same : (job : Job) (port : ℕ) (c : Connid) (d : Datagram) (k l : ℕ) (log : List Entry) → AreNumbered port log → PlacedAt job port c d k log → PlacedAt job port c d l log → k ≡ l
placed_same job port c d k l [] n g h = elim g [ ]
placed_same job port c d k l (e ∷ before) n (inl g) (inl h) = g.2 ∙ sym h.2
placed_same job port c d k l (e ∷ before) n (inl g) (inr h) = absurd (newest_once job port c d l e before n g.0 h)
placed_same job port c d k l (e ∷ before) n (inr g) (inl h) = absurd (newest_once job port c d k e before n h.0 g)
placed_same job port c d k l (e ∷ before) n (inr g) (inr h) = placed_same job port c d k l before n.0 g h

-- a push stands before the end of the log
answered_below : (own : Own) (ms : Messages) (x : Placed) (k : ℕ) (log : List Deed) → Answered own ms x k log → k < length log
answered_below own ms x k [] h = elim h [ ]
answered_below own ms x k (d ∷ before) (inl a) = let e = a.1 in omega arith
answered_below own ms x k (d ∷ before) (inr a) = let e = answered_below own ms x k before a in omega arith

-- a push answers one reply
pub answered_one : (own : Own) (ms : Messages) (x y : Placed) (k : ℕ) (log : List Deed) → Answered own ms x k log → Answered own ms y k log → x ≡ y
answered_one own ms x y k [] g h = elim g [ ]
answered_one own ms x y k (d ∷ before) (inl g) (inl h) = let a = g.2 in let b = h.2 in cc
answered_one own ms x y k (d ∷ before) (inl g) (inr h) = absurd (let l = answered_below own ms y k before h in let e = g.1 in omega arith)
answered_one own ms x y k (d ∷ before) (inr g) (inl h) = absurd (let l = answered_below own ms x k before g in let e = h.1 in omega arith)
answered_one own ms x y k (d ∷ before) (inr g) (inr h) = answered_one own ms x y k before g h

-- a datagram for a life that its port takes finds the life open
open_for : (job : Job) (l from : Life) (item : Item) (d : Datagram) (e : Entry) (before : List Entry) (entered : Option Entered) → Played job (e ∷ before)
    → e.act ≡ Handle d (TookAnswer entered) → e.port.0 ≡ l.port.0 → TakenAs from l.connid item d → open_life (port_deeds job l.port.0 before) ≡ Some l.connid
unfolding port_deeds
open_for job l from item d e before entered played is s t =
    let port_log = deeds_at job l.port.0 (log_of l.port.0 before) in
    let scene = own_scene job l.port.0 port_log in
    let fits = local_at job l.port.0 e before (played.locals l.port.0) s in
    let does : Does job class_of scene (log_of l.port.0 before) e (Handle d (TookAnswer entered)) = subst (λ x. Does job class_of scene (log_of l.port.0 before) e x) is fits.2 in
    let now = took_to scene d from.connid l.connid t.load entered does.0 t.body_is in
    own_now job l.port.0 port_log l.connid (is_connid-true scene.now l.connid now)

-- the deed of a datagram that is taken
took_deed : (ops : List Instr) (l from : Life) (item : Item) (d : Datagram) (entered : Option Entered) (act : Act) → act ≡ Handle d (TookAnswer entered) → TakenAs from l.connid item d
    → deed_of ops act ≡ Took from item
unfolding deed_of deed_by_handle
took_deed ops l from item d entered act is t =
    ap (λ x. deed_of ops x) is ∙ ap (λ (b : Body). deed_by_handle d.src b (TookAnswer entered)) t.body_is
    ∙ ap (λ (p : PortNo). Took (life p from.connid) (item_of t.load)) t.src_is ∙ ap (λ (x : Item). Took from x) t.item_is

-- a grant that a sender took: its window, which ends within what the sender may push
pub record TakenGrant (job : Job) (history : List Entry) (i j : Life) (p : Pair) (s : Sent) (d : Datagram) : Type 0 where
  pub start : ℕ
  pub size : ℕ
  pub answer : Placed
  pub push : ℕ
  pub window' : WindowAt (own_of job i) (account job history i) p start size answer.place (life_deeds job history i)
  pub answered : Answered (own_of job i) (account job history i) answer push (life_deeds job history i)
  pub pushed : PlacedAt job i.port.0 i.connid d push (log_of i.port.0 history)
  pub within : start + size ≤ allowed_of (own_of job j) (life_deeds job history j) s

-- what is allowed is only more later
allowed_more : (job : Job) (e : Entry) (before : List Entry) (j : Life) (s : Sent)
    → allowed_of (own_of job j) (life_deeds job before j) s ≤ allowed_of (own_of job j) (life_deeds job (e ∷ before) j) s
allowed_more job e before j s =
    let own = own_of job j in
    let log = life_deeds job before j in
    at_life (λ l. allowed_of own log s ≤ allowed_of own l s) job j e before
    (λ a o. let x = allowed_step own (deed_of (rank_of job j.port.0).ops e.act) log s in omega arith) (omega arith)

-- a grant that was taken before stays within
grant_older : (job : Job) (e : Entry) (before : List Entry) (i j : Life) (p : Pair) (s : Sent) (d : Datagram) → TakenGrant job before i j p s d → TakenGrant job (e ∷ before) i j p s d
grant_older job e before i j p s d g =
    let more = allowed_more job e before j s in
    let w = g.within in
    record {
      start = g.start;
      size = g.size;
      answer = g.answer;
      push = g.push;
      window' = window_longer job e before i p g.start g.size g.answer.place g.window';
      answered = answered_longer job e before i g.answer g.push g.answered;
      pushed = placed_longer job e before i.port.0 i.connid d g.push g.pushed;
      within = omega arith;
    }

-- a deed that takes a grant of the send takes that one
takes_one : (to i : Life) (number : ℕ) (send recv : OpId) (size : ℕ) (connid : Connid) → to ≡ i → send.0 ≡ number
    → grants_by to number (Took i (Spelled (Cts send recv size connid))) ≡ record { recv = recv.0; size = size } ∷ []
unfolding grants_by
takes_one to i number send recv size connid e n =
    let t : (same_life i to && send.0 == number) ≡ true = and_from (same_life i to) (nat_eq send.0 number) (ap (λ (x : Life). same_life i x) e ∙ same_life-refl i) (eq-eqb send.0 number n) in
    ap (λ b. cond b (record { recv = recv.0; size = size } ∷ []) []) t

-- the grant of the newest entry
grant_newest : (job : Job) (e : Entry) (before : List Entry) (i j : Life) (p : Pair) (s : Sent) (send recv : OpId) (size : ℕ) (connid : Connid) (d : Datagram) (entered : Option Entered)
    → Played job (e ∷ before) → Granting job (e ∷ before) i j p s → send.0 ≡ s.number → TakenAs i j.connid (Spelled (Cts send recv size connid)) d → d.dst.0 ≡ j.port.0
    → e.act ≡ Handle d (TookAnswer entered) → e.port.0 ≡ j.port.0 → TakenGrant job (e ∷ before) i j p s d
grant_newest job e before i j p s send recv size connid d entered played g n t dst is at =
    let earlier = played_before job e before played in
    let item = Spelled (Cts send recv size connid) in
    let C : Act → Type 0 = λ act. Comes before e act in
    let came : Comes before e (Handle d (TookAnswer entered)) = subst C is played.wire.1 in
    let due = pushed_taken job before j i item d earlier t dst came.1 in
    let w = cts_went job before i j send recv size connid d earlier due in
    let r = granting_earlier job e before i j p s send recv size due.place g w n in
    let window : WindowAt (own_of job i) (account job before i) p w.start size w.answer.place (life_deeds job before i) =
    subst (λ (x : Pair). WindowAt (own_of job i) (account job before i) x w.start size w.answer.place (life_deeds job before i)) r.0 w.window' in
    let start = starts_at job before i j p s w.start size w.answer due.place d earlier r.1 (tiled job before i j p s earlier r.1) window w.answered due.placed came.2 in
    let log = life_deeds job before j in
    let deed = took_deed (rank_of job j.port.0).ops j i item d entered e.act is t in
    let o = open_for job j i item d e before entered played is at t in
    let now : life_deeds job (e ∷ before) j ≡ Took i item ∷ log = life_newest job j e before at o ∙ ap (λ (x : Deed). x ∷ log) deed in
    let step = allowed_step (own_of job j) (Took i item) log s in
    let one : grants_by s.to s.number (Took i item) ≡ record { recv = recv.0; size = size } ∷ [] = takes_one s.to i s.number send recv size connid g.to_is n in
    let z = ap grant_bytes one ∙ one_grant recv.0 size in
    let all : allowed_of (own_of job j) (life_deeds job (e ∷ before) j) s ≡ allowed_of (own_of job j) (Took i item ∷ log) s = ap (λ (l : List Deed). allowed_of (own_of job j) l s) now in
    record {
      start = w.start;
      size = size;
      answer = w.answer;
      push = due.place;
      window' = window_longer job e before i p w.start size w.answer.place window;
      answered = answered_longer job e before i w.answer due.place w.answered;
      pushed = placed_longer job e before i.port.0 i.connid d due.place due.placed;
      within = omega arith;
    }

-- a grant that a sender took ends within what it may push
pub grant_within : (job : Job) (history : List Entry) (i j : Life) (p : Pair) (s : Sent) (send recv : OpId) (size : ℕ) (connid : Connid) (d : Datagram) → Played job history
    → Granting job history i j p s → send.0 ≡ s.number → TakenAs i j.connid (Spelled (Cts send recv size connid)) d → d.dst.0 ≡ j.port.0 → HandledBy j.port.0 d history
    → TakenGrant job history i j p s d
grant_within job [] i j p s send recv size connid d played g n t dst h = elim h [ ]
grant_within job (e ∷ before) i j p s send recv size connid d played g n t dst (inl h) =
    grant_newest job e before i j p s send recv size connid d h.0 played g n t dst h.1 h.2
grant_within job (e ∷ before) i j p s send recv size connid d played g n t dst (inr h) =
    let earlier = played_before job e before played in
    let c = comes_of j.port.0 d before earlier.wire h in
    let due = pushed_taken job before j i (Spelled (Cts send recv size connid)) d earlier t dst c.1 in
    let w = cts_went job before i j send recv size connid d earlier due in
    let r = granting_earlier job e before i j p s send recv size due.place g w n in
    grant_older job e before i j p s d (grant_within job before i j p s send recv size connid d earlier r.1 n t dst h)
