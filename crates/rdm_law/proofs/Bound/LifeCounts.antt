-- Sums over the lives of a history: each entry is a deed of one life at most.
use Rattle.std.proofs.Common.{◌≡◌, ℕ, ◌+◌, ◌≤◌, Bool, true, false, cond, List, [], ◌∷◌, length, Option, Some, refl, arith, inl, inr, sym, ◌∙◌, ap, subst}
use Rattle.std.specs.Prelude.{◌&&◌, ◌==◌, nat_eq, slice_get}
use Rattle.std.specs.List.{list_any}
use Rattle.std.proofs.lemmas.Bool.{cases_eq, eq-eqb, eqb-true, ne_eqb, and_from, and_parts, and_left, and_right}
use Rattle.rdm_lists.specs.Lists.{Member}
use Rattle.rdm_num.specs.Lives.{same_life, life}
use Rattle.rdm_num.specs.declared.numbers.PortNo.{PortNo}
use Rattle.rdm_num.specs.declared.numbers.Connid.{Connid}
use Rattle.rdm_num.specs.declared.numbers.Life.{Life}
use Rattle.rdm_model.specs.declared.job.Job.{Job}
use Rattle.rdm_model.specs.declared.job.Instr.{Instr}
use Rattle.rdm_model.specs.declared.job.Instr.TheVariants.{OpenLife}
use Rattle.rdm_model.specs.declared.answer.Next.{Next as Answer}
use Rattle.rdm_model.specs.declared.answer.Next.TheVariants.{Did as DidAnswer}
use Rattle.rdm_model.specs.declared.answer.Handled.{Handled}
use Rattle.rdm_model.specs.declared.answer.Handled.TheVariants.{Took as TookAnswer}
use Rattle.rdm_wire.specs.declared.Body.{Body}
use Rattle.rdm_wire.specs.declared.Body.TheVariants.{Note, Between}
use Rattle.rdm_model.specs.declared.entry.Entry.{Entry}
use Rattle.rdm_model.specs.declared.entry.Act.{Act}
use Rattle.rdm_model.specs.declared.entry.Act.TheVariants.{Next, Push, Handle, Poll}
use Rattle.rdm_model.specs.Deeds.{Deed, Did, deed_by_next, deed_by_push, deed_by_handle, deed_of, deeds, log_of, open_life, is_connid, of_life}
use Rattle.rdm_model.specs.Beginnings.{rank_of}
use Rattle.rdm_model.specs.Jobs.{open_count}
use Rattle.rdm_model.specs.Scenes.{deeds_at}
use Rattle.rdm_model.specs.Lawful.{port_deeds, life_deeds}
use Rattle.rdm_law.proofs.Lives.Logs.{log_of-same, log_of-other, at_log_of}
use Rattle.rdm_law.proofs.Lives.Lives.{at_of_life, is_connid-from, is_connid-true}
use Rattle.rdm_law.proofs.Lives.Opened.{IsOpened}
use Rattle.rdm_law.proofs.Bound.Pigeons.{AreDistinct, one_passes}
use Rattle.rdm_law.proofs.Bound.EntryCounts.{weight_of, op_weight, entry_weight}
use Rattle.rdm_lists.proofs.Members.{list_any_member, member_list_any}
use Rattle.rdm_lists.proofs.Sums.{total, total_le, total_plus}
use Rattle.rdm_num.proofs.Lives.{same_life-true, same_life-refl, port_is}

-- the weight of the instruction that a deed did
unfoldable pub deed_weight : (Instr → ℕ) → Deed → ℕ
deed_weight w (Did i) = w i
deed_weight w _ = 0

-- an instruction that did weighs no more than it does in the program
next_weight : (w : Instr → ℕ) (o : Option Instr) (answer : Answer) → deed_weight w (deed_by_next o answer) ≤ weight_of w o
unfolding deed_weight deed_by_next weight_of
next_weight w (Some i) (DidAnswer what) = omega arith
next_weight w o answer = omega arith

-- a push weighs nothing
push_weight : (w : Instr → ℕ) (body : Body) → deed_weight w (deed_by_push body) ≡ 0
unfolding deed_weight deed_by_push
push_weight w (Note n) = refl
push_weight w (Between f to load) = refl

-- and neither does a handling
handle_weight : (w : Instr → ℕ) (src : PortNo) (body : Body) (answer : Handled) → deed_weight w (deed_by_handle src body answer) ≡ 0
unfolding deed_weight deed_by_handle
handle_weight w src (Note n) (TookAnswer entered) = refl
handle_weight w src (Between f to load) (TookAnswer entered) = refl
handle_weight w src _ _ = refl

-- a deed weighs no more than its instruction
pub deed_le : (ops : List Instr) (w : Instr → ℕ) (act : Act) → deed_weight w (deed_of ops act) ≤ op_weight ops w act
unfolding deed_of op_weight deed_weight
deed_le ops w (Next index op answer) = next_weight w (slice_get ops index) answer
deed_le ops w (Push d) = let e = push_weight w d.body in omega arith
deed_le ops w (Handle d answer) = let e = handle_weight w d.src d.body answer in omega arith
deed_le ops w (Poll c) = omega arith

-- what an entry did
abbrev pub deed_at : Job → Entry → Deed
deed_at job e = deed_of (rank_of job e.port.0).ops e.act

-- with the life that a deed opens, if it is new
unfoldable pub with_life : PortNo → Deed → List Life → List Life
with_life port (Did (OpenLife c)) ls = cond (list_any (same_life (life port c)) ls) ls (life port c ∷ ls)
with_life port _ ls = ls

-- the lives that were opened, each once
unfoldable pub lives_of : Job → List Entry → List Life
lives_of job [] = []
lives_of job (e ∷ before) = with_life e.port (deed_at job e) (lives_of job before)

-- a life that is added once leaves them distinct
with_distinct : (port : PortNo) (d : Deed) (ls : List Life) → AreDistinct ls → AreDistinct (with_life port d ls)
unfolding with_life
with_distinct port (Did (OpenLife c)) ls a =
    (elim (list_any (same_life (life port c)) ls) as (λ b. list_any (same_life (life port c)) ls ≡ b → AreDistinct (cond b ls (life port c ∷ ls))) [
      | true ↦ λ is. a
      | false ↦ λ is. (λ m. let t = member_list_any (same_life (life port c)) (life port c) ls m (same_life-refl (life port c)) in cc, a)
    ]) refl
with_distinct port _ ls a = a

-- each life is there once
pub lives_distinct : (job : Job) (history : List Entry) → AreDistinct (lives_of job history)
unfolding lives_of
lives_distinct job [] = tt
lives_distinct job (e ∷ before) = with_distinct e.port (deed_at job e) (lives_of job before) (lives_distinct job before)

-- the lives before stay
pub with_keeps : (port : PortNo) (d : Deed) (ls : List Life) (l : Life) → Member l ls → Member l (with_life port d ls)
unfolding with_life
with_keeps port (Did (OpenLife c)) ls l m =
    elim (list_any (same_life (life port c)) ls) as (λ b. Member l (cond b ls (life port c ∷ ls))) [ true ↦ m | false ↦ inr m ]
with_keeps port _ ls l m = m

-- a life that is opened is one of them
with_new : (port : PortNo) (c : Connid) (ls : List Life) → Member (life port c) (with_life port (Did (OpenLife c)) ls)
unfolding with_life
with_new port c ls =
    (elim (list_any (same_life (life port c)) ls) as (λ b. list_any (same_life (life port c)) ls ≡ b → Member (life port c) (cond b ls (life port c ∷ ls))) [
      | true ↦ λ is. (let r = list_any_member (same_life (life port c)) ls is in subst (λ (x : Life). Member x ls) (sym (same_life-true (life port c) r.0 r.2)) r.1)
      | false ↦ λ is. inl refl
    ]) refl

-- a life that was opened is one of them
pub lives_member : (job : Job) (history : List Entry) (l : Life) → IsOpened job history l → Member l (lives_of job history)
unfolding port_deeds deeds_at deeds log_of lives_of
lives_member job [] l m = elim m [ ]
lives_member job (e ∷ before) l m =
    at_log_of (λ log. Member (Did (OpenLife l.connid)) (deeds (rank_of job l.port.0).ops log) → Member l (with_life e.port (deed_at job e) (lives_of job before))) l.port.0 e before
    (λ s k. elim k [
      | inl is ↦
          let d : deed_at job e ≡ Did (OpenLife l.connid) = ap (λ n. deed_of (rank_of job n).ops e.act) s ∙ is in
          let p : life e.port l.connid ≡ l = ap (λ (q : PortNo). let y : Life = record { port = q; connid = l.connid } in y) (port_is e.port l.port s) in
          subst (λ (x : Life). Member x (with_life e.port (deed_at job e) (lives_of job before))) p
          (subst (λ (x : Deed). Member (life e.port l.connid) (with_life e.port x (lives_of job before))) (sym d) (with_new e.port l.connid (lives_of job before)))
      | inr a ↦ with_keeps e.port (deed_at job e) (lives_of job before) l (lives_member job before l a)
    ])
    (λ s k. with_keeps e.port (deed_at job e) (lives_of job before) l (lives_member job before l k)) m

-- one deed adds one life at most
with_count : (port : PortNo) (d : Deed) (ls : List Life) → length (with_life port d ls) ≤ length ls + deed_weight open_count d
unfolding with_life deed_weight open_count
with_count port (Did (OpenLife c)) ls =
    elim (list_any (same_life (life port c)) ls) as (λ b. length (cond b ls (life port c ∷ ls)) ≤ length ls + 1) [ true ↦ omega arith | false ↦ omega arith ]
with_count port _ ls = omega arith

-- there are no more lives than opens
pub lives_count : (job : Job) (history : List Entry) → length (lives_of job history) ≤ total (entry_weight job open_count) history
unfolding lives_of total
lives_count job [] = omega arith
lives_count job (e ∷ before) =
    let r = lives_count job before in
    let a = with_count e.port (deed_at job e) (lives_of job before) in
    let b = deed_le (rank_of job e.port.0).ops open_count e.act in
    omega arith

-- the entry is a deed of the life
abbrev pub is_mine : Job → Entry → List Entry → Life → Bool
is_mine job e before l = (e.port.0 == l.port.0) && is_connid (open_life (port_deeds job l.port.0 before)) l.connid

-- what holds of the deeds of a life with the newest entry, where it is one of them and where it is not
pub life_cases : (P : List Deed → Type 0) (job : Job) (l : Life) (e : Entry) (before : List Entry)
    → (e.port.0 ≡ l.port.0 → is_mine job e before l ≡ true → P (deed_of (rank_of job l.port.0).ops e.act ∷ life_deeds job before l))
    → (is_mine job e before l ≡ false → P (life_deeds job before l)) → P (life_deeds job (e ∷ before) l)
unfolding life_deeds port_deeds deeds_at deeds
life_cases P job l e before same other =
    let ops = (rank_of job l.port.0).ops in
    let port = l.port.0 in
    elim (cases_eq e.port.0 port) [
      | inl s ↦
          subst (λ (log : List Entry). P (of_life l.connid (deeds ops log))) (sym (log_of-same port e before s))
          (at_of_life P l.connid (deed_of ops e.act) (deeds ops (log_of port before))
          (λ o. same s (and_from (nat_eq e.port.0 port) (is_connid (open_life (deeds ops (log_of port before))) l.connid) (eq-eqb e.port.0 port s) (is_connid-from (open_life (deeds ops (log_of port before))) l.connid o)))
          (λ o. other (and_right (nat_eq e.port.0 port) _ o)))
      | inr s ↦
          subst (λ (log : List Entry). P (of_life l.connid (deeds ops log))) (sym (log_of-other port e before s))
          (other (and_left (nat_eq e.port.0 port) _ (ne_eqb e.port.0 port s)))
    ]

-- lives of one port and one identifier are one
lives_same : (l m : Life) → l.port.0 ≡ m.port.0 → l.connid ≡ m.connid → l ≡ m
lives_same l m p c = ap (λ (q : PortNo). life q l.connid) (port_is l.port m.port p) ∙ ap (λ (k : Connid). life m.port k) c

-- an entry is a deed of one life at most
mine_one : (job : Job) (e : Entry) (before : List Entry) (l m : Life) → is_mine job e before l ≡ true → is_mine job e before m ≡ true → l ≡ m
mine_one job e before l m a b =
    let p = and_parts (nat_eq e.port.0 l.port.0) (is_connid (open_life (port_deeds job l.port.0 before)) l.connid) a in
    let q = and_parts (nat_eq e.port.0 m.port.0) (is_connid (open_life (port_deeds job m.port.0 before)) m.connid) b in
    let port = sym (eqb-true e.port.0 l.port.0 p.0) ∙ eqb-true e.port.0 m.port.0 q.0 in
    let x = is_connid-true (open_life (port_deeds job l.port.0 before)) l.connid p.1 in
    let y = is_connid-true (open_life (port_deeds job m.port.0 before)) m.connid q.1 in
    let c : Some l.connid ≡ Some m.connid = sym x ∙ ap (λ n. open_life (port_deeds job n before)) port ∙ y in
    lives_same l m port (cc)

-- one more entry adds to a life no more than it weighs
life_weight : (job : Job) (g : Deed → ℕ) (f : Entry → ℕ) (e : Entry) (before : List Entry) (l : Life) → g (deed_at job e) ≤ f e
    → total g (life_deeds job (e ∷ before) l) ≤ total g (life_deeds job before l) + cond (is_mine job e before l) (f e) 0
unfolding total
life_weight job g f e before l h =
    life_cases (λ ds. total g ds ≤ total g (life_deeds job before l) + cond (is_mine job e before l) (f e) 0) job l e before
    (λ s is. let t : g (deed_of (rank_of job l.port.0).ops e.act) ≤ f e = subst (λ n. g (deed_of (rank_of job n).ops e.act) ≤ f e) s h in
    let c : cond (is_mine job e before l) (f e) 0 ≡ f e = rw is refl in
    omega arith)
    (λ is. omega arith)

-- no deeds weigh nothing
all_zero : (ls : List Life) → total (λ l. 0) ls ≡ 0
unfolding total
all_zero [] = refl
all_zero (l ∷ ls) = let r = all_zero ls in omega arith

-- the deeds of all lives weigh no more than the entries
pub lives_weight : (job : Job) (ls : List Life) (g : Deed → ℕ) (f : Entry → ℕ) (history : List Entry) → AreDistinct ls → ((e : Entry) → g (deed_at job e) ≤ f e)
    → total (λ l. total g (life_deeds job history l)) ls ≤ total f history
unfolding total life_deeds port_deeds deeds_at deeds log_of of_life
lives_weight job ls g f [] d h = let z = all_zero ls in omega arith
lives_weight job ls g f (e ∷ before) d h =
    let r = lives_weight job ls g f before d h in
    let a = total_le (λ l. total g (life_deeds job (e ∷ before) l)) (λ l. total g (life_deeds job before l) + cond (is_mine job e before l) (f e) 0) ls
    (λ l m. life_weight job g f e before l (h e)) in
    let b = total_plus (λ l. total g (life_deeds job before l)) (λ l. cond (is_mine job e before l) (f e) 0) ls in
    let c = one_passes (is_mine job e before) (f e) ls d (λ x y p q. mine_one job e before x y p q) in
    omega arith
