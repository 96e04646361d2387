-- A step of a port leaves it in its place.
use Rattle.std.proofs.Common.{◌≡◌, ℕ, ◌<◌, Bool, true, false, cond, List, [], ◌∷◌, ◌++◌, length, Some, option_map, refl, ap, sym, ◌∙◌, subst, inl, inr, eq-eqb, eqb-true, append-nil, append_assoc}
use Rattle.std.specs.Prelude.{◌==◌}
use Rattle.rdm_lists.specs.Lists.{Member}
use Rattle.rdm_lists.proofs.Members.{member-append_cases}
use Rattle.rdm_wire.specs.declared.Datagram.{Datagram}
use Rattle.rdm_wire.specs.Accounts.{Account, added_at, after_push, after_fetches}
use Rattle.rdm_wire.specs.Queues.{IsFor}
use Rattle.rdm_inbox.specs.Passes.{InboxState}
use Rattle.rdm_inbox.specs.Queues.{PassesState, WireState, serves_of, account_of, sent_to, taken_by}
use Rattle.rdm_model.specs.declared.job.Job.{Job}
use Rattle.rdm_model.specs.declared.entry.Entry.{Entry}
use Rattle.rdm_model.specs.declared.entry.Act.{Act}
use Rattle.rdm_model.specs.declared.answer.Push.{Push}
use Rattle.rdm_model.specs.declared.answer.Push.TheVariants as Pu
use Rattle.rdm_model.specs.declared.answer.Handled.{Handled}
use Rattle.rdm_model.specs.declared.answer.Handled.TheVariants as H
use Rattle.rdm_model.specs.Beginnings.{rank_of, port_count, with_pools}
use Rattle.rdm_model.specs.Local.{Local}
use Rattle.rdm_law.proofs.Played.Apart.{removed}
use Rattle.rdm_port.specs.Views.{PortView, IsPortOf, IsSamePort}
use Rattle.rdm_port.specs.Movings.{Logs, MovesNone, LogsNone, PushMoves, FetchMoves, TakesOut, AnswerMoves, HandleMoves}
use Rattle.rdm_launch.specs.Logs.{pushed_by, pushed_to, handled_by, handled_in}
use Rattle.rdm_launch.specs.Reordered.{IsReordered}
use Rattle.rdm_launch.specs.Fitting.{HandledBuilt, IsRight, IsAtPlace, IsAtWork}
use Rattle.rdm_launch.proofs.Reorders.{reordered_more, reordered_front}
use Rattle.rdm_launch.proofs.Growing.{GrowsRight, all_built}

-- the same port as the same port
same_again : (a b c : PortView) → IsSamePort a b → IsSamePort b c → IsSamePort a c
same_again a b c h k = (k.0 ∙ h.0, k.1 ∙ h.1, k.2 ∙ h.2, k.3 ∙ h.3, k.4 ∙ h.4, k.5 ∙ h.5)

-- it is the port of the same jobs
pub still_of : (job : Job) (p q : PortView) → IsSamePort p q → IsPortOf job q → IsPortOf job p
still_of job p q same is = record {
  within = subst (λ (n : ℕ). n < port_count job) same.0 is.within;
  ports_are = sym same.1 ∙ is.ports_are;
  inbox_is = sym same.2 ∙ is.inbox_is;
  start_is = sym same.3 ∙ is.start_is;
  limits_are = sym same.4 ∙ is.limits_are ∙ ap (λ (n : ℕ). with_pools job.limits (rank_of job n).limits) same.0;
  rank_is = sym same.5 ∙ is.rank_is ∙ ap (rank_of job) same.0;
}

-- a log that grew is right
still_right : (p q : PortView) → IsSamePort p q → GrowsRight p q → IsRight p → IsRight q
still_right p q same grows right job fair is built =
    let mine = still_of job p q same is in
    let built' : HandledBuilt job p.number q.log = subst (λ (n : ℕ). HandledBuilt job n q.log) same.0 built in
    subst (λ (n : ℕ). Local job n q.log) (sym same.0)
    (elim (grows job fair mine) [
      | inl e ↦ subst (λ (log : List Entry). Local job p.number log) (sym e) (right job fair mine (subst (λ (log : List Entry). HandledBuilt job p.number log) e built'))
      | inr g ↦
          let b : HandledBuilt job p.number (g.0 ∷ p.log) = subst (λ (log : List Entry). HandledBuilt job p.number log) g.1 built' in
          subst (λ (log : List Entry). Local job p.number log) (sym g.1) (g.2 b.1 (all_built job p.number p.log b.0) (right job fair mine b.0))
    ])

-- where an act moves no datagram, the log pushed and handled what it did
none_pushed : (act : Act) (to : ℕ) → MovesNone act → pushed_by to act ≡ []
unfolding pushed_by
none_pushed (Act.Next index op answer) to h = refl
none_pushed (Act.Push d) to h = elim h [ ]
none_pushed (Act.Handle d answer) to h = elim h [ ]
none_pushed (Act.Poll c) to h = refl

none_handled : (act : Act) → MovesNone act → handled_by act ≡ []
unfolding handled_by
none_handled (Act.Next index op answer) h = refl
none_handled (Act.Push d) h = elim h [ ]
none_handled (Act.Handle d answer) h = elim h [ ]
none_handled (Act.Poll c) h = refl

-- a log with one entry more
pushed_more : (before after : List Entry) (act : Act) (to : ℕ) → Logs before after act → pushed_to to after ≡ pushed_to to before ++ pushed_by to act
unfolding pushed_to
pushed_more before after act to l = ap (pushed_to to) l.longer ∙ ap (λ (a : Act). pushed_to to before ++ pushed_by to a) l.act_is

handled_more : (before after : List Entry) (act : Act) → Logs before after act → handled_in after ≡ handled_by act ++ handled_in before
unfolding handled_in
handled_more before after act l = ap handled_in l.longer ∙ ap (λ (a : Act). handled_by a ++ handled_in before) l.act_is

-- what a log has where it is as it was or has an entry more that moves no datagram
abbrev pub HasSame : (before after : List Entry) → Type 0
HasSame before after = ((to : ℕ) → pushed_to to after ≡ pushed_to to before) × (handled_in after ≡ handled_in before)

pub same_log : (before after : List Entry) → after ≡ before → HasSame before after
same_log before after e = ((λ to. ap (pushed_to to) e), ap handled_in e)

pub same_moves : (before after : List Entry) → LogsNone before after → HasSame before after
same_moves before after (inl e) = same_log before after e
same_moves before after (inr h) = (
  (λ to. pushed_more before after h.0 to h.2 ∙ ap (λ (l : List Datagram). pushed_to to before ++ l) (none_pushed h.0 to h.1) ∙ append-nil (pushed_to to before)),
  handled_more before after h.0 h.2 ∙ ap (λ (l : List Datagram). l ++ handled_in before) (none_handled h.0 h.1),
)

-- what is in a place after a step
module _ (tables : List InboxState) (starts : List PortView) (p q : PortView) (v w : PassesState) (i : ℕ) where
  -- a step that leaves the right datagrams leaves the port in its place
  pub stays_placed : IsAtPlace tables starts p v i → IsSamePort p q → GrowsRight p q → w.port ≡ v.port → ((to : ℕ) → pushed_to to q.log ≡ sent_to w to)
      → IsReordered (handled_in q.log ++ q.stash) (taken_by w) → ((d : Datagram) → Member d (taken_by w) → IsFor i (length tables) d) → IsAtPlace tables starts q w i
  stays_placed h same grows own pushed taken came = record {
    start = h.start;
    started = h.started;
    same = same_again h.start p q h.same same;
    number = same.0 ∙ h.number;
    ports = same.1 ∙ h.ports;
    own = own ∙ h.own;
    pushed = pushed;
    taken = taken;
    came = came;
    right = still_right p q same grows h.right;
  }

-- a step without the wire
pub quiet_placed : (tables : List InboxState) (starts : List PortView) (p q : PortView) (v : PassesState) (i : ℕ) → IsAtPlace tables starts p v i → IsSamePort p q → GrowsRight p q
    → LogsNone p.log q.log → q.stash ≡ p.stash → IsAtPlace tables starts q v i
quiet_placed tables starts p q v i h same grows moves stash =
    let s = same_moves p.log q.log moves in
    let all : handled_in q.log ++ q.stash ≡ handled_in p.log ++ p.stash = ap (λ (l : List Datagram). l ++ q.stash) s.1 ∙ ap (λ (l : List Datagram). handled_in p.log ++ l) stash in
    stays_placed tables starts p q v v i h same grows refl (λ to. s.0 to ∙ h.pushed to) (subst (λ (l : List Datagram). IsReordered l (taken_by v)) (sym all) h.taken) h.came

-- what a port's own list in the account is
own_fetched : (v : PassesState) → (account_of v).fetched v.port ≡ taken_by v
own_fetched v = ap (λ (b : Bool). cond b (taken_by v) []) (eq-eqb v.port v.port refl)

some_same : (a b : Account) → Some a ≡ Some b → a ≡ b
some_same a b e = cc

-- the wire serves the port that it served
pub serves_same : (old new : WireState) → serves_of new ≡ serves_of old → new.passes.port ≡ old.passes.port
serves_same old new e =
    eqb-true new.passes.port old.passes.port (sym (ap (λ (f : ℕ → Bool). f new.passes.port) e) ∙ eq-eqb new.passes.port new.passes.port refl)

-- the accounts of passes agree
record Agrees (v w : PassesState) : Type 0 where
  sent : (to : ℕ) → sent_to w to ≡ sent_to v to
  taken : taken_by w ≡ taken_by v

agrees : (v w : PassesState) → w.port ≡ v.port → Some (account_of w) ≡ Some (account_of v) → Agrees v w
agrees v w own e =
    let f = some_same (account_of w) (account_of v) e in record {
      sent = λ to. ap (λ (a : Account). a.pushed to) f;
      taken = sym (own_fetched w) ∙ ap (λ (a : Account). a.fetched w.port) f ∙ ap (account_of v).fetched own ∙ own_fetched v;
    }

-- a push
module _ (tables : List InboxState) (starts : List PortView) (p q : PortView) (v w : PassesState) (i : ℕ) where
  -- nothing was pushed
  push_stays : IsAtPlace tables starts p v i → IsSamePort p q → GrowsRight p q → w.port ≡ v.port → q.stash ≡ p.stash → (q.log ≡ p.log) × (Some (account_of w) ≡ Some (account_of v))
      → IsAtPlace tables starts q w i
  push_stays h same grows own stash e =
      let a = agrees v w own e.1 in
      let s = same_log p.log q.log e.0 in
      let all : handled_in q.log ++ q.stash ≡ handled_in p.log ++ p.stash = ap (λ (l : List Datagram). l ++ q.stash) s.1 ∙ ap (λ (l : List Datagram). handled_in p.log ++ l) stash in
      stays_placed tables starts p q v w i h same grows own (λ to. s.0 to ∙ h.pushed to ∙ sym (a.sent to))
      (subst (λ (l : List Datagram). IsReordered l (taken_by w)) (sym all) (subst (λ (l : List Datagram). IsReordered (handled_in p.log ++ p.stash) l) (sym a.taken) h.taken))
      (λ d m. h.came d (subst (λ (l : List Datagram). Member d l) a.taken m))

  -- what a push adds to what was pushed to a port
  one_pushed : (d : Datagram) (to : ℕ) → pushed_to to p.log ≡ sent_to v to → pushed_to to p.log ++ pushed_by to (Act.Push d) ≡ added_at d.dst.0 (d ∷ []) (sent_to v) to
  unfolding pushed_by added_at
  one_pushed d to e =
      elim (to == d.dst.0) as (λ b. pushed_to to p.log ++ cond b (d ∷ []) [] ≡ cond b (sent_to v to ++ d ∷ []) (sent_to v to)) [
        | true ↦ ap (λ (l : List Datagram). l ++ d ∷ []) e
        | false ↦ append-nil (pushed_to to p.log) ∙ e
      ]

  -- a datagram was pushed
  push_goes : IsAtPlace tables starts p v i → IsSamePort p q → GrowsRight p q → w.port ≡ v.port → q.stash ≡ p.stash
      → ((d : Datagram) × Logs p.log q.log (Act.Push d) × (Some (account_of w) ≡ option_map (after_push d) (Some (account_of v)))) → IsAtPlace tables starts q w i
  unfolding handled_by
  push_goes h same grows own stash g =
      let f = some_same (account_of w) (after_push g.0 (account_of v)) g.2 in
      let taken : taken_by w ≡ taken_by v = sym (own_fetched w) ∙ ap (λ (a : Account). a.fetched w.port) f ∙ ap (account_of v).fetched own ∙ own_fetched v in
      let handled : handled_in q.log ≡ handled_in p.log = handled_more p.log q.log (Act.Push g.0) g.1 in
      let all : handled_in q.log ++ q.stash ≡ handled_in p.log ++ p.stash = ap (λ (l : List Datagram). l ++ q.stash) handled ∙ ap (λ (l : List Datagram). handled_in p.log ++ l) stash in
      stays_placed tables starts p q v w i h same grows own
      (λ to. pushed_more p.log q.log (Act.Push g.0) to g.1 ∙ one_pushed g.0 to (h.pushed to) ∙ sym (ap (λ (a : Account). a.pushed to) f))
      (subst (λ (l : List Datagram). IsReordered l (taken_by w)) (sym all) (subst (λ (l : List Datagram). IsReordered (handled_in p.log ++ p.stash) l) (sym taken) h.taken))
      (λ d m. h.came d (subst (λ (l : List Datagram). Member d l) taken m))

  pub push_placed : (answer : Push) → IsAtPlace tables starts p v i → IsSamePort p q → GrowsRight p q → w.port ≡ v.port → q.stash ≡ p.stash
      → PushMoves p.log q.log answer (Some (account_of v)) (Some (account_of w)) → IsAtPlace tables starts q w i
  push_placed (Pu.Pushed number) h same grows own stash m = push_goes h same grows own stash m
  push_placed Pu.Idle h same grows own stash m = push_stays h same grows own stash m
  push_placed (Pu.Full port) h same grows own stash m = push_stays h same grows own stash m
  push_placed Pu.Worn h same grows own stash m = push_stays h same grows own stash m
  push_placed Pu.Memory h same grows own stash m = push_stays h same grows own stash m

-- what fetches did to the accounts of passes
record Fetched (ports i : ℕ) (got : List Datagram) (v w : PassesState) : Type 0 where
  sent : (to : ℕ) → sent_to w to ≡ sent_to v to
  taken : taken_by w ≡ taken_by v ++ got
  came : (d : Datagram) → Member d got → IsFor i ports d

fetched_some : (ports i number many inbox : ℕ) (got : List Datagram) (v w : PassesState) (counted count : ℕ) → number ≡ i → many ≡ ports → v.port ≡ i → w.port ≡ v.port
    → FetchMoves many number inbox got (Some (account_of v)) (Some (account_of w)) counted count → Fetched ports i got v w
unfolding added_at
fetched_some ports i number many inbox got v w counted count n m here own h =
    let f = some_same (account_of w) (after_fetches number got (account_of v)) h.account in
    let at : (v.port == number) ≡ true = eq-eqb v.port number (here ∙ sym n) in
    let added : added_at number got (account_of v).fetched v.port ≡ taken_by v ++ got =
    ap (λ (b : Bool). cond b ((account_of v).fetched v.port ++ got) ((account_of v).fetched v.port)) at ∙ ap (λ (l : List Datagram). l ++ got) (own_fetched v) in
    record {
      sent = λ to. ap (λ (a : Account). a.pushed to) f;
      taken = sym (own_fetched w) ∙ ap (λ (a : Account). a.fetched w.port) f ∙ ap (added_at number got (account_of v).fetched) own ∙ added;
      came = λ d k. subst (λ (x : ℕ). IsFor i x d) m (subst (λ (x : ℕ). IsFor x many d) n (h.came d k));
    }

fetched_none : (ports i : ℕ) (got : List Datagram) (v w : PassesState) → w.port ≡ v.port → got ≡ [] → Some (account_of w) ≡ Some (account_of v) → Fetched ports i got v w
fetched_none ports i got v w own none e =
    let a = agrees v w own e in record {
      sent = a.sent;
      taken = a.taken ∙ sym (append-nil (taken_by v)) ∙ ap (λ (l : List Datagram). taken_by v ++ l) (sym none);
      came = λ d k. elim (subst (λ (l : List Datagram). Member d l) none k) [ ];
    }

-- the log and the stash after an answer have what was there
record HasAnswered (before after : List Entry) (stash left taken : List Datagram) : Type 0 where
  pushed : (to : ℕ) → pushed_to to after ≡ pushed_to to before
  all : IsReordered (handled_in after ++ left) taken

answered_same : (before after : List Entry) (stash left taken : List Datagram) → IsReordered (handled_in before ++ stash) taken → (after ≡ before) × (left ≡ stash)
    → HasAnswered before after stash left taken
answered_same before after stash left taken r e =
    let s = same_log before after e.0 in record {
      pushed = s.0;
      all = subst (λ (l : List Datagram). IsReordered l taken) (sym (ap (λ (l : List Datagram). l ++ left) s.1 ∙ ap (λ (l : List Datagram). handled_in before ++ l) e.1)) r;
    }

answered_out : (before after : List Entry) (stash left taken : List Datagram) (answer : Handled) → IsReordered (handled_in before ++ stash) taken → TakesOut before after stash left answer
    → HasAnswered before after stash left taken
unfolding handled_by pushed_by
answered_out before after stash left taken answer r t =
    let d = t.datagram in
    let cut = removed stash t.place d t.there in
    let left' : left ≡ cut.front ++ cut.back = t.left_is ∙ cut.is in
    let was : handled_in before ++ stash ≡ (handled_in before ++ cut.front) ++ d ∷ cut.back =
    ap (λ (l : List Datagram). handled_in before ++ l) cut.was ∙ sym (append_assoc (handled_in before) cut.front (d ∷ cut.back)) in
    let front : IsReordered (d ∷ ((handled_in before ++ cut.front) ++ cut.back)) taken =
    reordered_front (handled_in before ++ cut.front) d cut.back taken (subst (λ (l : List Datagram). IsReordered l taken) was r) in
    let now : handled_in after ++ left ≡ d ∷ ((handled_in before ++ cut.front) ++ cut.back) =
    ap (λ (l : List Datagram). l ++ left) (handled_more before after (Act.Handle d answer) t.logged)
    ∙ ap (λ (l : List Datagram). d ∷ (handled_in before ++ l)) left'
    ∙ ap (λ (l : List Datagram). d ∷ l) (sym (append_assoc (handled_in before) cut.front cut.back)) in
    record {
      pushed = λ to. pushed_more before after (Act.Handle d answer) to t.logged ∙ append-nil (pushed_to to before);
      all = subst (λ (l : List Datagram). IsReordered l taken) (sym now) front;
    }

answered : (before after : List Entry) (stash left taken : List Datagram) (answer : Handled) → IsReordered (handled_in before ++ stash) taken → AnswerMoves before after stash left answer
    → HasAnswered before after stash left taken
answered before after stash left taken (H.Took entered) r m = answered_out before after stash left taken (H.Took entered) r m
answered before after stash left taken (H.Dropped class') r m = answered_out before after stash left taken (H.Dropped class') r m
answered before after stash left taken H.AgainEarly r m = answered_same before after stash left taken r m
answered before after stash left taken H.AgainCopy r m = answered_same before after stash left taken r m
answered before after stash left taken H.Empty r m = answered_same before after stash left taken r (m.0, m.1)
answered before after stash left taken H.Worn r m = answered_same before after stash left taken r m
answered before after stash left taken H.Memory r m = answered_same before after stash left taken r m

-- a handle
pub handle_placed : (tables : List InboxState) (starts : List PortView) (p q : PortView) (v w : PassesState) (i : ℕ) (answer : Handled) (counted count : ℕ) → IsAtPlace tables starts p v i
    → IsSamePort p q → GrowsRight p q → w.port ≡ v.port → HandleMoves p q answer (Some (account_of v)) (Some (account_of w)) counted count → IsAtPlace tables starts q w i
handle_placed tables starts p q v w i answer counted count h same grows own m =
    let f : Fetched (length tables) i m.got v w =
    elim m.fetched [
      | inl x ↦ fetched_some (length tables) i p.number p.ports p.inbox m.got v w counted count h.number h.ports h.own own x
      | inr x ↦ fetched_none (length tables) i m.got v w own x.1 x.2
    ] in
    let more : IsReordered (handled_in p.log ++ (p.stash ++ m.got)) (taken_by v ++ m.got) =
    subst (λ (l : List Datagram). IsReordered l (taken_by v ++ m.got)) (append_assoc (handled_in p.log) p.stash m.got) (reordered_more (handled_in p.log ++ p.stash) (taken_by v) m.got h.taken) in
    let a = answered p.log q.log (p.stash ++ m.got) q.stash (taken_by v ++ m.got) answer more m.answered in
    stays_placed tables starts p q v w i h same grows own (λ to. a.pushed to ∙ h.pushed to ∙ sym (f.sent to))
    (subst (λ (l : List Datagram). IsReordered (handled_in q.log ++ q.stash) l) (sym f.taken) a.all)
    (λ d k. elim (member-append_cases d (taken_by v) m.got (subst (λ (l : List Datagram). Member d l) f.taken k)) [ inl x ↦ h.came d x | inr x ↦ f.came d x ])

-- the wire is that of the inboxes, and serves the port
pub at_work_serves : (tables : List InboxState) (starts : List PortView) (p : PortView) (w : WireState) (i : ℕ) → IsAtWork tables starts p w i
    → ((p.number == w.passes.port) ≡ true) × (length w.queues.tables ≡ p.ports)
at_work_serves tables starts p w i h = (eq-eqb p.number w.passes.port (h.1.number ∙ sym h.1.own), ap (λ (l : List InboxState). length l) h.0 ∙ sym h.1.ports)
