-- An instruction is to be tried again only where a pool is full.
use Rattle.std.proofs.Common.{◌≡◌, ◌&&◌, Bool, true, false, cond, List, [], ◌∷◌, Option, Some, None, refl, subst}
use Rattle.std.specs.Prelude.{nat_le}
use Rattle.std.proofs.lemmas.Bool.{leb-true}
use Rattle.rdm_lists.specs.Lists.{first_case}
use Rattle.rdm_model.specs.declared.job.Job.{Job}
use Rattle.rdm_model.specs.declared.job.Instr.{Instr}
use Rattle.rdm_model.specs.declared.job.Instr.TheVariants.{OpenLife, Insert, Reg, Send, Recv, Cancel, Note, Await, Wait, CloseLife}
use Rattle.rdm_model.specs.declared.answer.DidWhat.{DidWhat}
use Rattle.rdm_model.specs.declared.answer.Next.{Next}
use Rattle.rdm_model.specs.declared.answer.Next.TheVariants.{Did, Refused, NotYet, Again, Worn}
use Rattle.rdm_model.specs.declared.answer.Why.{Why}
use Rattle.rdm_model.specs.declared.answer.Yet.{Yet}
use Rattle.rdm_model.specs.declared.answer.DidWhat.TheVariants.{Plain}
use Rattle.rdm_num.specs.declared.request.SendReq.{SendReq}
use Rattle.rdm_num.specs.declared.request.RecvReq.{RecvReq}
use Rattle.rdm_model.specs.declared.answer.PoolName.{PoolName}
use Rattle.rdm_model.specs.declared.answer.PoolName.TheVariants.{Tx, Rx, Cq}
use Rattle.rdm_model.specs.declared.entry.Entry.{Entry}
use Rattle.rdm_model.specs.Completions.{tx_count, rx_count, cq_count}
use Rattle.rdm_model.specs.Deeds.{log_of}
use Rattle.rdm_model.specs.Scenes.{Scene}
use Rattle.rdm_model.specs.Facts.{facts_of}
use Rattle.rdm_model.specs.Answers.{cq_is_full, send_answer, recv_answer, answer_of, is_entry, answer_by, insert_answer}
use Rattle.rdm_model.specs.Settled.{left_at, left_answer, answer_or_worn, instruction_left, is_worn}
use Rattle.rdm_model.specs.Lawful.{sent_scene}
use Rattle.rdm_law.specs.Clauses.{IsFull, AgainIsFull}

-- a refusal is not to be tried again
past_refusal : (b : Bool) (why : Why) (cs : List (Bool × Next)) (last : Next) (pool : PoolName) → first_case ((b, Refused why) ∷ cs) last ≡ Again pool → first_case cs last ≡ Again pool
unfolding first_case
past_refusal true why cs last pool h = cc
past_refusal false why cs last pool h = h

-- what is not yet done is not to be tried again for a pool
past_yet : (b : Bool) (yet : Yet) (cs : List (Bool × Next)) (last : Next) (pool : PoolName) → first_case ((b, NotYet yet) ∷ cs) last ≡ Again pool → first_case cs last ≡ Again pool
unfolding first_case
past_yet true yet cs last pool h = cc
past_yet false yet cs last pool h = h

-- the pool that is named
again_is : (a b : PoolName) → Again a ≡ Again b → a ≡ b
again_is a b h = cc

-- the last two cases of an operation are its pools
by_pools : (s : Scene) (mine pool : PoolName) (full : Bool) (what : DidWhat) → (full ≡ true → IsFull s mine)
    → first_case ((full, Again mine) ∷ (cq_is_full (facts_of s), Again Cq) ∷ []) (Did what) ≡ Again pool → IsFull s pool
unfolding first_case cq_is_full
by_pools s mine pool true what own h = subst (IsFull s) (again_is mine pool h) (own refl)
by_pools s mine pool false what own h =
    (elim (nat_le s.own.limits.cq (cq_count s.own s.ms s.log)) as (λ b. nat_le s.own.limits.cq (cq_count s.own s.ms s.log) ≡ b → cond b (Again Cq) (Did what) ≡ Again pool → IsFull s pool) [
      | true ↦ λ e k. subst (IsFull s) (again_is Cq pool k) (leb-true s.own.limits.cq (cq_count s.own s.ms s.log) e)
      | false ↦ λ e k. cc
    ]) refl h

-- a send
send_full : (s : Scene) (req : SendReq) (pool : PoolName) → send_answer (facts_of s) req ≡ Again pool → IsFull s pool
unfolding send_answer
send_full s req pool h =
    by_pools s Tx pool _ _ (leb-true s.own.limits.tx (tx_count s.own s.ms s.log))
    (past_yet _ Yet.Handshake _ _ pool (past_refusal _ Why.NoConfirm _ _ pool (past_refusal _ Why.Numbers _ _ pool (past_refusal _ Why.Busy _ _ pool (past_refusal _ Why.NoEntry _ _ pool (past_refusal _ Why.Range _ _ pool (past_refusal _ Why.NoRegion _ _ pool h)))))))

-- a receive
recv_full : (s : Scene) (req : RecvReq) (pool : PoolName) → recv_answer (facts_of s) req ≡ Again pool → IsFull s pool
unfolding recv_answer
recv_full s req pool h =
    by_pools s Rx pool _ _ (leb-true s.own.limits.rx (rx_count s.own s.ms.head s.log))
    (past_refusal _ Why.Busy _ _ pool (past_refusal _ Why.NoEntry _ _ pool (past_refusal _ Why.Range _ _ pool (past_refusal _ Why.NoRegion _ _ pool h))))

-- a wait for something is not a pool
not_again : (b : Bool) (yet : Yet) (pool : PoolName) → first_case ((b, NotYet yet) ∷ []) (Did Plain) ≡ Again pool → ⊥
unfolding first_case
not_again true yet pool h = cc
not_again false yet pool h = cc

-- an insert is not to be tried again
insert_again : (a b : Bool) (pool : PoolName) → first_case ((a, NotYet Yet.Opened) ∷ (b, Refused Why.Superseded) ∷ []) (Did Plain) ≡ Again pool → ⊥
unfolding first_case
insert_again true b pool h = cc
insert_again false true pool h = cc
insert_again false false pool h = cc

-- nor is a cancel
cancel_again : (a : Bool) (pool : PoolName) → first_case ((a, Refused Why.NotPosted) ∷ []) (Did Plain) ≡ Again pool → ⊥
unfolding first_case
cancel_again true pool h = cc
cancel_again false pool h = cc

-- an instruction
answer_full : (s : Scene) (instr : Instr) (pool : PoolName) → answer_of s instr ≡ Again pool → IsFull s pool
unfolding answer_by insert_answer
answer_full s (OpenLife connid) pool h = cc
answer_full s (Insert life) pool h = absurd (insert_again _ _ pool h)
answer_full s (Reg content) pool h = cc
answer_full s (Send req) pool h = send_full s req pool h
answer_full s (Recv req) pool h = recv_full s req pool h
answer_full s (Cancel recv) pool h = absurd (cancel_again _ pool h)
answer_full s (Note to what) pool h = cc
answer_full s (Await from what) pool h = absurd (not_again _ _ pool h)
answer_full s (Wait count) pool h = absurd (not_again _ _ pool h)
answer_full s CloseLife pool h = cc

-- the end of the clock takes the place of no such answer
worn_again : (job : Job) (log : List Entry) (answer : Next) (pool : PoolName) → Some (answer_or_worn job log answer) ≡ Some (Again pool) → answer ≡ Again pool
unfolding answer_or_worn is_entry
worn_again job log answer pool h =
    (elim (is_entry answer && is_worn job log) as (λ b. Some (cond b Worn answer) ≡ Some (Again pool) → answer ≡ Again pool) [
      | true ↦ λ e. cc
      | false ↦ λ e. cc
    ]) h

-- what is left answers that it is to be tried again only where the instruction does
left_full : (job : Job) (s : Scene) (log : List Entry) (o : Option Instr) (pool : PoolName) → left_answer job s log o ≡ Some (Again pool) → IsFull s pool
unfolding left_answer
left_full job s log None pool h = cc
left_full job s log (Some instr) pool h = answer_full s instr pool (worn_again job log (answer_of s instr) pool h)

-- a full pool is why an instruction is to be tried again
pub again_is_full : AgainIsFull
unfolding left_at
again_is_full job history port pool h =
    left_full job (sent_scene job port history) (log_of port history) (instruction_left job port (log_of port history)) pool h
