-- The entries of a history by kinds: instructions are those of the programs, and no more is handled than was pushed.
use Rattle.std.proofs.Common.{◌≡◌, ℕ, suc, ◌+◌, ◌≤◌, max, List, [], ◌∷◌, length, take, get_or, Option, Some, None, refl, arith, ◌⊎◌, inl, inr, sym, ◌∙◌, ap, subst}
use Rattle.std.specs.Prelude.{slice_get, sum_by}
use Rattle.std.proofs.lemmas.Bool.{cases_eq}
use Rattle.rdm_lists.specs.Lists.{Member}
use Rattle.rdm_wire.specs.declared.Datagram.{Datagram}
use Rattle.rdm_model.specs.declared.job.Job.{Job}
use Rattle.rdm_model.specs.declared.job.Rank.{Rank}
use Rattle.rdm_model.specs.declared.job.Instr.{Instr}
use Rattle.rdm_model.specs.declared.entry.Entry.{Entry}
use Rattle.rdm_model.specs.declared.entry.Act.{Act}
use Rattle.rdm_model.specs.declared.entry.Act.TheVariants.{Next, Push, Handle, Poll}
use Rattle.rdm_model.specs.Deeds.{log_of}
use Rattle.rdm_model.specs.Beginnings.{rank_of, no_rank}
use Rattle.rdm_model.specs.Jobs.{sum_of_ops}
use Rattle.rdm_model.specs.Steps.{count, nexts_by, pushes_by, Does, handles_by}
use Rattle.rdm_model.specs.Scenes.{Scene, deeds_at}
use Rattle.rdm_model.specs.Classes.{class_of}
use Rattle.rdm_model.specs.Local.{own_scene, Local}
use Rattle.rdm_model.specs.Wire.{PushedIn, IsOther, IsUnhandled, Comes, Wire}
use Rattle.rdm_law.proofs.Lives.Logs.{log_of-same, log_of-other}
use Rattle.rdm_law.proofs.Accounts.Wired.{Played}
use Rattle.rdm_law.proofs.Bound.Pigeons.{total_to, total_to_le, total_to_zero, total_to_at, total_take, total_front, total_places}
use Rattle.rdm_lists.proofs.Sums.{total, total_same, sum_total, take_out}

-- the weight of an instruction, if there is one
unfoldable pub weight_of : (Instr → ℕ) → Option Instr → ℕ
weight_of w None = 0
weight_of w (Some i) = w i

-- the weight of the instruction that an act is of
unfoldable pub op_weight : List Instr → (Instr → ℕ) → Act → ℕ
op_weight ops w (Next index op answer) = weight_of w (slice_get ops index)
op_weight ops w _ = 0

-- the same of an entry
abbrev pub entry_weight : Job → (Instr → ℕ) → Entry → ℕ
entry_weight job w e = op_weight (rank_of job e.port.0).ops w e.act

-- an act weighs what its instruction adds to those before it
act_step : (job : Job) (s : Scene) (w : Instr → ℕ) (before : List Entry) (e : Entry) (act : Act) (n : ℕ) → n ≡ count nexts_by before → Does job class_of s before e act
    → op_weight (rank_of job e.port.0).ops w act + total w (take n (rank_of job e.port.0).ops) ≡ total w (take (n + nexts_by act) (rank_of job e.port.0).ops)
unfolding op_weight weight_of nexts_by
act_step job s w before e (Next index op answer) n is does =
    let ops = (rank_of job e.port.0).ops in
    let at : slice_get ops n ≡ Some does.1.0 = subst (λ k. slice_get ops k ≡ Some does.1.0) (does.0 ∙ sym is) does.1.1 in
    let t = total_take w ops n does.1.0 at in
    let o : weight_of w (slice_get ops index) ≡ w does.1.0 = ap (weight_of w) does.1.1 in
    let k : n + 1 ≡ suc n = omega arith in
    let g = ap (λ x. total w (take x ops)) k in
    omega arith
act_step job s w before e (Push d) n is does = let k : n + 0 ≡ n = omega arith in let g = ap (λ x. total w (take x (rank_of job e.port.0).ops)) k in omega arith
act_step job s w before e (Handle d answer) n is does = let k : n + 0 ≡ n = omega arith in let g = ap (λ x. total w (take x (rank_of job e.port.0).ops)) k in omega arith
act_step job s w before e (Poll c) n is does = let k : n + 0 ≡ n = omega arith in let g = ap (λ x. total w (take x (rank_of job e.port.0).ops)) k in omega arith

-- the weight of a port's entries is that of the instructions that it came past
log_weight : (job : Job) (port : ℕ) (w : Instr → ℕ) (log : List Entry) → Local job port log
    → total (entry_weight job w) log ≡ total w (take (count nexts_by log) (rank_of job port).ops)
unfolding total count
log_weight job port w [] l = refl
log_weight job port w (e ∷ before) l =
    let r = log_weight job port w before l.0 in
    let a = act_step job (own_scene job port (deeds_at job port before)) w before e e.act (count nexts_by before) refl l.2.2 in
    let p = l.1 in
    let t : total w (take (count nexts_by before) (rank_of job e.port.0).ops) ≡ total w (take (count nexts_by before) (rank_of job port).ops) = ap (λ x. total w (take (count nexts_by before) (rank_of job x).ops)) p in
    let u : total w (take (count nexts_by before + nexts_by e.act) (rank_of job e.port.0).ops) ≡ total w (take (count nexts_by before + nexts_by e.act) (rank_of job port).ops) =
    ap (λ x. total w (take (count nexts_by before + nexts_by e.act) (rank_of job x).ops)) p in
    omega arith

-- past all ports of a history
pub past_ports : List Entry → ℕ
past_ports [] = 0
past_ports (e ∷ before) = max (suc e.port.0) (past_ports before)

-- a sum over a history is that over the logs of its ports
pub by_ports : (f : Entry → ℕ) (history : List Entry) (n : ℕ) → past_ports history ≤ n → total f history ≡ total_to (λ p. total f (log_of p history)) n
unfolding total log_of past_ports
by_ports f [] n le = sym (total_to_zero (λ p. 0) n (λ k. refl))
by_ports f (e ∷ before) n le =
    let r = by_ports f before n (omega arith) in
    let a = total_to_at (λ p. total f (log_of p (e ∷ before))) (λ p. total f (log_of p before)) (f e) e.port.0 n (omega arith)
    (ap (total f) (log_of-same e.port.0 e before refl))
    (λ j other. ap (total f) (log_of-other j e before (λ is. other (sym is)))) in
    omega arith

-- the weight of all entries is that of the programs at most
pub ops_weight : (job : Job) (history : List Entry) (w : Instr → ℕ) → Played job history → total (entry_weight job w) history ≤ sum_of_ops w job
unfolding sum_of_ops rank_of total
ops_weight job history w played =
    let n = past_ports history in
    let g : Rank → ℕ = λ r. total w r.ops in
    let a = by_ports (entry_weight job w) history n (omega arith) in
    let b = total_to_le (λ p. total (entry_weight job w) (log_of p history)) (λ p. g (get_or job.ranks p no_rank)) n
    (λ p. let l = log_weight job p w (log_of p history) (played.locals p) in let f = total_front w (rank_of job p).ops (count nexts_by (log_of p history)) in omega arith) in
    let c = total_places g job.ranks no_rank n refl in
    let d = total_front g job.ranks n in
    let s = sum_total (λ (r : Rank). sum_by w r.ops) job.ranks in
    let t = total_same (λ (r : Rank). sum_by w r.ops) g job.ranks (λ r m. sum_total w r.ops) in
    omega arith

-- the datagram was pushed by some entry
abbrev WasPushed : Datagram → List Entry → Type 0
WasPushed d [] = ⊥
WasPushed d (e ∷ before) = (e.act ≡ Push d) ⊎ WasPushed d before

-- what a port pushed was pushed
pushed_any : (d : Datagram) (port : ℕ) (history : List Entry) → PushedIn d (log_of port history) → WasPushed d history
unfolding log_of
pushed_any d port [] h = elim h [ ]
pushed_any d port (e ∷ before) h =
    elim (cases_eq e.port.0 port) [
      | inl s ↦ elim (subst (λ log. PushedIn d log) (log_of-same port e before s) h) [ inl a ↦ inl a | inr a ↦ inr (pushed_any d port before a) ]
      | inr o ↦ inr (pushed_any d port before (subst (λ log. PushedIn d log) (log_of-other port e before o) h))
    ]

-- what was pushed and not handled, counted
record Waits (history : List Entry) : Type 0 where
  waiting : List Datagram
  counted : length waiting + total (λ (e : Entry). handles_by e.act) history ≡ total (λ (e : Entry). pushes_by e.act) history
  all : (d : Datagram) → WasPushed d history → IsUnhandled d history → Member d waiting

-- what waits after one more entry
waits_by : (e : Entry) (before : List Entry) (act : Act) → e.act ≡ act → Wire before → Comes before e act → Waits before → Waits (e ∷ before)
unfolding total handles_by pushes_by
waits_by e before (Push d) is w c was =
    let h : handles_by e.act ≡ 0 = ap handles_by is in
    let p : pushes_by e.act ≡ 1 = ap pushes_by is in
    let k = was.counted in
    record {
      waiting = d ∷ was.waiting;
      counted = omega arith;
      all = λ q m u. elim m [ inl a ↦ (let e' : Push d ≡ Push q = sym is ∙ a in let s : d ≡ q = cc in inl s) | inr a ↦ inr (was.all q a u.0) ];
    }
waits_by e before (Handle d answer) is w c was =
    let h : handles_by e.act ≡ 1 = ap handles_by is in
    let p : pushes_by e.act ≡ 0 = ap pushes_by is in
    let k = was.counted in
    let o = take_out (λ y. 0) d was.waiting (was.all d (pushed_any d d.src.0 before c.1) c.2) in
    let l = o.len in
    record {
      waiting = o.rest;
      counted = omega arith;
      all = λ q m u.
          let u' : IsOther q (Handle d answer) = (let P : Act → Type 0 = λ x. IsOther q x in subst P is u.1) in
          elim m [
            | inl a ↦ (let e' : Handle d answer ≡ Push q = sym is ∙ a in cc)
            | inr a ↦ elim (o.others q (was.all q a u.0)) [ inl same ↦ absurd (u' (ap (λ (x : Datagram). x.src) (sym same)) (ap (λ (x : Datagram). x.number) (sym same))) | inr b ↦ b ]
          ];
    }
waits_by e before (Next index op answer) is w c was =
    let h : handles_by e.act ≡ 0 = ap handles_by is in
    let p : pushes_by e.act ≡ 0 = ap pushes_by is in
    let k = was.counted in
    record { waiting = was.waiting; counted = omega arith; all = λ q m u. elim m [ inl a ↦ (let e' : Next index op answer ≡ Push q = sym is ∙ a in cc) | inr a ↦ was.all q a u.0 ] }
waits_by e before (Poll x) is w c was =
    let h : handles_by e.act ≡ 0 = ap handles_by is in
    let p : pushes_by e.act ≡ 0 = ap pushes_by is in
    let k = was.counted in
    record { waiting = was.waiting; counted = omega arith; all = λ q m u. elim m [ inl a ↦ (let e' : Poll x ≡ Push q = sym is ∙ a in cc) | inr a ↦ was.all q a u.0 ] }

-- what waits after a history
waits : (history : List Entry) → Wire history → Waits history
unfolding total
waits [] w = record { waiting = []; counted = refl; all = λ d m u. elim m [ ] }
waits (e ∷ before) w = waits_by e before e.act refl w.0 w.1 (waits before w.0)

-- no more is handled than was pushed
pub handled_le : (history : List Entry) → Wire history → total (λ (e : Entry). handles_by e.act) history ≤ total (λ (e : Entry). pushes_by e.act) history
handled_le history w = let k = (waits history w).counted in omega arith
