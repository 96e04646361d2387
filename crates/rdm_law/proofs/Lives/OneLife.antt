-- A program that opens one life and closes none.
use Rattle.std.proofs.Common.{◌≡◌, ℕ, true, false, List, [], ◌∷◌, length, Option, Some, refl, arith, inl, inr, sym, ◌∙◌, ap}
use Rattle.std.specs.Prelude.{not, nat_eq, slice_get, filter}
use Rattle.std.specs.List.{list_any}
use Rattle.std.proofs.lemmas.Bool.{and_parts, eqb-true, not-true}
use Rattle.rdm_lists.specs.Lists.{Member}
use Rattle.rdm_num.specs.declared.numbers.Connid.{Connid}
use Rattle.rdm_model.specs.declared.job.Job.{Job}
use Rattle.rdm_model.specs.declared.job.Instr.{Instr}
use Rattle.rdm_model.specs.declared.job.Instr.TheVariants.{OpenLife, CloseLife}
use Rattle.rdm_model.specs.declared.answer.Next.{Next as Answer}
use Rattle.rdm_model.specs.declared.answer.Next.TheVariants.{Did as DidAnswer}
use Rattle.rdm_model.specs.declared.entry.Entry.{Entry}
use Rattle.rdm_model.specs.declared.entry.Act.{Act}
use Rattle.rdm_model.specs.declared.entry.Act.TheVariants.{Next, Push, Handle, Poll}
use Rattle.rdm_model.specs.Deeds.{Deed, Did, deed_by_next, deed_of, deeds, open_after, open_life}
use Rattle.rdm_model.specs.Beginnings.{rank_of}
use Rattle.rdm_model.specs.Standing.{is_open_op, is_close_op, has_one_life}
use Rattle.rdm_law.proofs.Lives.Knows.{push_did, handle_did}
use Rattle.rdm_lists.proofs.Members.{filter-member, member_list_any}
use Rattle.rdm_lists.proofs.Places.{slice_get-member}

-- an instruction that did is one of the program
next_op : (ops : List Instr) (index : ℕ) (o : Option Instr) (answer : Answer) (x : Instr) → slice_get ops index ≡ o → deed_by_next o answer ≡ Did x → Member x ops
unfolding deed_by_next
next_op ops index (Some i) (DidAnswer what) x at h = let e : i ≡ x = cc in slice_get-member ops index x (at ∙ ap Some e)
next_op ops index _ answer x at h = cc

-- what a port did is one of its instructions
pub act_op : (ops : List Instr) (act : Act) (x : Instr) → deed_of ops act ≡ Did x → Member x ops
unfolding deed_of
act_op ops (Next index op answer) x h = next_op ops index (slice_get ops index) answer x refl h
act_op ops (Push d) x h = absurd (push_did d.body x h)
act_op ops (Handle d answer) x h = absurd (handle_did d.src d.body answer x h)
act_op ops (Poll c) x h = cc

-- what a log did is one of its instructions
pub did_op : (ops : List Instr) (log : List Entry) (x : Instr) → Member (Did x) (deeds ops log) → Member x ops
unfolding deeds
did_op ops [] x m = elim m [ ]
did_op ops (e ∷ before) x (inl is) = act_op ops e.act x is
did_op ops (e ∷ before) x (inr m) = did_op ops before x m

-- a list of one element has one element
one_member : {A : Type 0} (x y : A) (xs : List A) → length xs ≡ 1 → Member x xs → Member y xs → x ≡ y
one_member x y [] l m n = elim m [ ]
one_member x y (z ∷ []) l (inl a) (inl b) = sym a ∙ b
one_member x y (z ∷ []) l (inl a) (inr never) = elim never [ ]
one_member x y (z ∷ []) l (inr never) n = elim never [ ]
one_member x y (z ∷ w ∷ xs) l m n = absurd (omega arith)

-- the program opens one life, and closes none
pub record OneLife (ops : List Instr) : Type 0 where
  pub opens_one : length (filter is_open_op ops) ≡ 1
  pub closes_none : list_any is_close_op ops ≡ false

-- a rank with one life opens one and closes none
pub one_life : (job : Job) (port : ℕ) → has_one_life job port ≡ true → OneLife (rank_of job port).ops
unfolding has_one_life
one_life job port h =
    let p = and_parts (nat_eq (length (filter is_open_op (rank_of job port).ops)) 1) (not (list_any is_close_op (rank_of job port).ops)) h in
    record { opens_one = eqb-true (length (filter is_open_op (rank_of job port).ops)) 1 p.0; closes_none = not-true (list_any is_close_op (rank_of job port).ops) p.1 }

-- what such a program opens is one life
pub one_open : (ops : List Instr) (a b : Connid) → OneLife ops → Member (OpenLife a) ops → Member (OpenLife b) ops → a ≡ b
unfolding is_open_op
one_open ops a b o m n =
    let e = one_member (OpenLife a) (OpenLife b) (filter is_open_op ops) o.opens_one (filter-member is_open_op (OpenLife a) ops m refl) (filter-member is_open_op (OpenLife b) ops n refl) in
    cc

-- it closes none
no_close : (ops : List Instr) → OneLife ops → Member CloseLife ops → ⊥
unfolding is_close_op
no_close ops o m = let t = member_list_any is_close_op CloseLife ops m refl in let f = o.closes_none in cc

-- a deed leaves it open
open_keeps : (ops : List Instr) (was : Option Connid) (d : Deed) (c : Connid) → OneLife ops → Member (OpenLife c) ops → ((x : Instr) → d ≡ Did x → Member x ops) → was ≡ Some c → open_after was d ≡ Some c
unfolding open_after
open_keeps ops was (Did (OpenLife connid)) c o m of w = ap Some (one_open ops connid c o (of (OpenLife connid) refl) m)
open_keeps ops was (Did CloseLife) c o m of w = absurd (no_close ops o (of CloseLife refl))
open_keeps ops was _ c o m of w = w

-- a life that was opened stays open
pub open_stays : (ops : List Instr) (log : List Entry) (c : Connid) → OneLife ops → Member (Did (OpenLife c)) (deeds ops log) → open_life (deeds ops log) ≡ Some c
unfolding deeds open_life open_after
open_stays ops [] c o m = elim m [ ]
open_stays ops (e ∷ before) c o (inl is) = ap (λ d. open_after (open_life (deeds ops before)) d) is
open_stays ops (e ∷ before) c o (inr m) =
    open_keeps ops (open_life (deeds ops before)) (deed_of ops e.act) c o (did_op ops before (OpenLife c) m) (λ x is. act_op ops e.act x is) (open_stays ops before c o m)
