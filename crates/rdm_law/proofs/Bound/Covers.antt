-- Each push between lives and each poll is a deed of a life; notes are few.
use Rattle.std.proofs.Common.{◌≡◌, ℕ, ◌+◌, ◌≤◌, true, List, [], ◌∷◌, Option, Some, None, refl, arith, ◌⊎◌, inl, inr, sym, ◌∙◌, ap, subst}
use Rattle.std.specs.Prelude.{nat_eq, slice_get}
use Rattle.std.proofs.lemmas.Bool.{eq-eqb, and_from}
use Rattle.rdm_lists.specs.Lists.{Member}
use Rattle.rdm_num.specs.Lives.{life}
use Rattle.rdm_num.specs.declared.numbers.PortNo.{PortNo}
use Rattle.rdm_num.specs.declared.numbers.Connid.{Connid}
use Rattle.rdm_num.specs.declared.numbers.Life.{Life}
use Rattle.rdm_num.specs.declared.completion.Completion.{Completion}
use Rattle.rdm_wire.specs.declared.Datagram.{Datagram}
use Rattle.rdm_wire.specs.declared.Body.{Body}
use Rattle.rdm_wire.specs.declared.Body.TheVariants.{Note, Between}
use Rattle.rdm_model.specs.declared.job.Job.{Job}
use Rattle.rdm_model.specs.declared.job.Instr.{Instr}
use Rattle.rdm_model.specs.declared.answer.Next.{Next as Answer}
use Rattle.rdm_model.specs.declared.answer.Next.TheVariants.{Did as DidAnswer}
use Rattle.rdm_model.specs.declared.answer.Handled.{Handled}
use Rattle.rdm_model.specs.declared.answer.Handled.TheVariants.{Took as TookAnswer}
use Rattle.rdm_model.specs.declared.entry.Entry.{Entry}
use Rattle.rdm_model.specs.declared.entry.Act.{Act}
use Rattle.rdm_model.specs.declared.entry.Act.TheVariants.{Next, Push, Handle, Poll}
use Rattle.rdm_model.specs.Deeds.{Deed, deed_by_next, deed_by_push, deed_by_handle, deed_of, log_of, open_life, is_connid, of_open_life}
use Rattle.rdm_model.specs.Beginnings.{rank_of}
use Rattle.rdm_model.specs.Completions.{completions, polls_by, poll_count}
use Rattle.rdm_model.specs.Scenes.{Scene, scene}
use Rattle.rdm_model.specs.Going.{GoesNext}
use Rattle.rdm_model.specs.Classes.{class_of}
use Rattle.rdm_model.specs.Steps.{Does}
use Rattle.rdm_model.specs.Local.{own_scene}
use Rattle.rdm_model.specs.Lawful.{port_deeds, life_deeds}
use Rattle.rdm_law.proofs.Lives.Lives.{is_connid-from}
use Rattle.rdm_law.proofs.Accounts.Pushed.{open_push}
use Rattle.rdm_law.proofs.Accounts.Wired.{Played, played_before}
use Rattle.rdm_law.proofs.Central.Lawfully.{own_entry}
use Rattle.rdm_law.proofs.Lives.Opened.{open_opened}
use Rattle.rdm_law.proofs.Bound.Totals.{pushes_of}
use Rattle.rdm_law.proofs.Bound.Pigeons.{total_grows}
use Rattle.rdm_law.proofs.Bound.LifeCounts.{deed_at, lives_of, lives_member, is_mine, life_cases, with_keeps}
use Rattle.rdm_lists.proofs.Sums.{total, total_le}

-- each entry that counts is a deed of one of the lives
abbrev pub AreCovered : Job → (Deed → ℕ) → List Life → List Entry → Type 0
AreCovered job g ls [] = Unit {0}
AreCovered job g ls (e ∷ before) =
    AreCovered job g ls before × ((g (deed_at job e) ≡ 0) ⊎ ((l : Life) × Member l ls × (e.port.0 ≡ l.port.0) × (is_mine job e before l ≡ true)))

-- deeds only get more
life_more : (job : Job) (g : Deed → ℕ) (e : Entry) (before : List Entry) (l : Life) → total g (life_deeds job before l) ≤ total g (life_deeds job (e ∷ before) l)
unfolding total
life_more job g e before l = life_cases (λ ds. total g (life_deeds job before l) ≤ total g ds) job l e before (λ s is. omega arith) (λ is. omega arith)

-- a life gains its own deed
life_gains : (job : Job) (g : Deed → ℕ) (e : Entry) (before : List Entry) (l : Life) → e.port.0 ≡ l.port.0 → is_mine job e before l ≡ true
    → total g (life_deeds job before l) + g (deed_at job e) ≤ total g (life_deeds job (e ∷ before) l)
unfolding total
life_gains job g e before l p mine =
    life_cases (λ ds. total g (life_deeds job before l) + g (deed_at job e) ≤ total g ds) job l e before
    (λ s is. let t : g (deed_at job e) ≡ g (deed_of (rank_of job l.port.0).ops e.act) = ap (λ n. g (deed_of (rank_of job n).ops e.act)) s in omega arith)
    (λ is. absurd (cc))

-- entries that count are no more than the deeds of the lives
pub covered_weight : (job : Job) (g : Deed → ℕ) (ls : List Life) (history : List Entry) → AreCovered job g ls history
    → total (λ e. g (deed_at job e)) history ≤ total (λ l. total g (life_deeds job history l)) ls
unfolding total
covered_weight job g ls [] c = omega arith
covered_weight job g ls (e ∷ before) c =
    let r = covered_weight job g ls before c.0 in
    elim c.1 [
      | inl none ↦ let m = total_le (λ l. total g (life_deeds job before l)) (λ l. total g (life_deeds job (e ∷ before) l)) ls (λ l k. life_more job g e before l) in omega arith
      | inr some ↦
          let m = total_grows (λ l. total g (life_deeds job before l)) (λ l. total g (life_deeds job (e ∷ before) l)) (g (deed_at job e)) some.0 ls some.1
          (λ l. life_more job g e before l) (life_gains job g e before some.0 some.2 some.3) in
          omega arith
    ]

-- the act counts only where a life is open
abbrev NeedsLife : (Deed → ℕ) → List Instr → Act → Option Connid → Type 0
NeedsLife g ops act now = (g (deed_of ops act) ≡ 0) ⊎ ((c : Connid) × (now ≡ Some c))

-- where what counts needs an open life, the lives of the history cover it
pub are_covered : (job : Job) (g : Deed → ℕ) (ls : List Life) (history : List Entry)
    → ((before : List Entry) (e : Entry) → Does job class_of (own_scene job e.port.0 (port_deeds job e.port.0 before)) (log_of e.port.0 before) e e.act
    → NeedsLife g (rank_of job e.port.0).ops e.act (open_life (port_deeds job e.port.0 before)))
    → ((l : Life) → Member l (lives_of job history) → Member l ls) → Played job history → AreCovered job g ls history
unfolding lives_of
are_covered job g ls [] need sub played = tt
are_covered job g ls (e ∷ before) need sub played =
    let earlier = played_before job e before played in
    let keep : (l : Life) → Member l (lives_of job before) → Member l ls = λ l m. sub l (with_keeps e.port (deed_at job e) (lives_of job before) l m) in
    let fits = own_entry job e before (played.locals e.port.0) in (
      are_covered job g ls before need keep earlier,
      elim (need before e fits.2) [
        | inl none ↦ inl none
        | inr some ↦
            let l = life e.port some.0 in
            let opened = open_opened (port_deeds job e.port.0 before) some.0 some.1 in
            inr (
              l,
              keep l (lives_member job before l opened),
              refl,
              and_from (nat_eq e.port.0 l.port.0) (is_connid (open_life (port_deeds job l.port.0 before)) l.connid) (eq-eqb e.port.0 l.port.0 refl)
                  (is_connid-from (open_life (port_deeds job e.port.0 before)) some.0 some.1),
            )
      ],
    )

-- the life that is open in a scene
scene_now : (job : Job) (port : ℕ) (log : List Deed) → (own_scene job port log).now ≡ open_life log
unfolding own_scene scene
scene_now job port log = refl

-- an instruction is no push
next_none : (o : Option Instr) (answer : Answer) → pushes_of (deed_by_next o answer) ≡ 0
unfolding pushes_of deed_by_next
next_none (Some i) (DidAnswer what) = refl
next_none o answer = refl

-- nor is a handling
handle_none : (src : PortNo) (body : Body) (answer : Handled) → pushes_of (deed_by_handle src body answer) ≡ 0
unfolding pushes_of deed_by_handle
handle_none src (Note n) (TookAnswer entered) = refl
handle_none src (Between f to load) (TookAnswer entered) = refl
handle_none src _ _ = refl

-- a push between lives needs an open one
push_needs : (job : Job) (port : ℕ) (log : List Deed) (d : Datagram) (body : Body) → d.body ≡ body → GoesNext (own_scene job port log) d
    → (pushes_of (deed_by_push body) ≡ 0) ⊎ ((c : Connid) × (open_life log ≡ Some c))
unfolding pushes_of deed_by_push
push_needs job port log d (Note n) b h = inl refl
push_needs job port log d (Between f to load) b h =
    let o = open_push (own_scene job port log) d f to load b h in inr (o.0, sym (scene_now job port log) ∙ o.1)

-- a push between lives is by a life that is open
pub push_life : (job : Job) (before : List Entry) (e : Entry) (act : Act) → Does job class_of (own_scene job e.port.0 (port_deeds job e.port.0 before)) (log_of e.port.0 before) e act
    → NeedsLife pushes_of (rank_of job e.port.0).ops act (open_life (port_deeds job e.port.0 before))
unfolding deed_of pushes_of
push_life job before e (Next index op answer) does = inl (next_none (slice_get (rank_of job e.port.0).ops index) answer)
push_life job before e (Push d) does = push_needs job e.port.0 (port_deeds job e.port.0 before) d d.body refl does.3
push_life job before e (Handle d answer) does = inl (handle_none d.src d.body answer)
push_life job before e (Poll c) does = inl refl

-- an instruction is no poll
next_poll : (o : Option Instr) (answer : Answer) → polls_by (deed_by_next o answer) ≡ 0
unfolding polls_by deed_by_next
next_poll (Some i) (DidAnswer what) = refl
next_poll o answer = refl

-- nor is a push
push_poll : (body : Body) → polls_by (deed_by_push body) ≡ 0
unfolding polls_by deed_by_push
push_poll (Note n) = refl
push_poll (Between f to load) = refl

-- nor is a handling
handle_poll : (src : PortNo) (body : Body) (answer : Handled) → polls_by (deed_by_handle src body answer) ≡ 0
unfolding polls_by deed_by_handle
handle_poll src (Note n) (TookAnswer entered) = refl
handle_poll src (Between f to load) (TookAnswer entered) = refl
handle_poll src _ _ = refl

-- where no life is open, no deeds are those of the open one
empty_log : (job : Job) (port : ℕ) (log : List Deed) → open_life log ≡ None → (own_scene job port log).log ≡ []
unfolding own_scene scene of_open_life
empty_log job port log h = rw h refl

-- no deeds complete nothing
no_completion : (s : Scene) (c : Completion) → slice_get (completions s.own s.ms []) (poll_count []) ≡ Some c → ⊥
unfolding completions
no_completion s c h = cc

-- so nothing is polled there
none_polled : (job : Job) (port : ℕ) (log : List Deed) (c : Completion) → open_life log ≡ None
    → slice_get (completions (own_scene job port log).own (own_scene job port log).ms (own_scene job port log).log) (poll_count (own_scene job port log).log) ≡ Some c
    → (c : Connid) × (◌≡◌ {A = Option Connid} None (Some c))
none_polled job port log c is h =
    let s = own_scene job port log in
    let e = empty_log job port log is in
    let h' : slice_get (completions s.own s.ms []) (poll_count []) ≡ Some c = subst (λ (ds : List Deed). slice_get (completions s.own s.ms ds) (poll_count ds) ≡ Some c) e h in
    absurd (no_completion (own_scene job port log) c h')

-- a poll needs an open life
poll_needs : (job : Job) (port : ℕ) (log : List Deed) (c : Completion) (o : Option Connid) → open_life log ≡ o
    → slice_get (completions (own_scene job port log).own (own_scene job port log).ms (own_scene job port log).log) (poll_count (own_scene job port log).log) ≡ Some c
    → (c : Connid) × (o ≡ Some c)
poll_needs job port log c (Some k) is h = (k, refl)
poll_needs job port log c None is h = none_polled job port log c is h

-- a poll is by a life that is open
pub poll_life : (job : Job) (before : List Entry) (e : Entry) (act : Act) → Does job class_of (own_scene job e.port.0 (port_deeds job e.port.0 before)) (log_of e.port.0 before) e act
    → NeedsLife polls_by (rank_of job e.port.0).ops act (open_life (port_deeds job e.port.0 before))
unfolding deed_of polls_by
poll_life job before e (Next index op answer) does = inl (next_poll (slice_get (rank_of job e.port.0).ops index) answer)
poll_life job before e (Push d) does = inl (push_poll d.body)
poll_life job before e (Handle d answer) does = inl (handle_poll d.src d.body answer)
poll_life job before e (Poll c) does = inr (poll_needs job e.port.0 (port_deeds job e.port.0 before) c (open_life (port_deeds job e.port.0 before)) refl does)
