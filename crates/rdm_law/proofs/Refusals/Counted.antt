-- What a right report counts of drops, and leaves to be tried again.
use Rattle.std.proofs.Common.{◌≡◌, ◌⊎◌, ℕ, zero, suc, ◌+◌, arith, Bool, true, false, not, List, [], ◌∷◌, length, Option, Some, None, refl, ap, ◌∙◌, sym, subst, inl, inr}
use Rattle.std.specs.Prelude.{IsTrue, slice_get}
use Rattle.std.proofs.lemmas.Bool.{not-false, not-true}
use Rattle.std.proofs.lemmas.List.{length-map}
use Rattle.rdm_lists.specs.Lists.{first_case, below}
use Rattle.rdm_num.specs.Lives.{life, same_life}
use Rattle.rdm_num.specs.declared.numbers.Life.{Life}
use Rattle.rdm_num.specs.declared.numbers.Connid.{Connid}
use Rattle.rdm_num.specs.declared.numbers.PortNo.{PortNo}
use Rattle.rdm_wire.specs.declared.Datagram.{Datagram}
use Rattle.rdm_wire.specs.declared.Body.{Body}
use Rattle.rdm_wire.specs.declared.Body.TheVariants.{Note, Between}
use Rattle.rdm_model.specs.declared.job.Job.{Job}
use Rattle.rdm_model.specs.declared.answer.Class.{Class}
use Rattle.rdm_model.specs.declared.answer.Class.TheVariants.{ToOther, FromOther}
use Rattle.rdm_model.specs.declared.answer.Handled.TheVariants.{Dropped}
use Rattle.rdm_model.specs.declared.answer.Next.TheVariants.{Again}
use Rattle.rdm_model.specs.declared.answer.PoolName.{PoolName}
use Rattle.rdm_model.specs.declared.entry.Entry.{Entry}
use Rattle.rdm_model.specs.declared.entry.Act.TheVariants.{Next, Handle}
use Rattle.rdm_model.specs.declared.report.End.{End}
use Rattle.rdm_model.specs.declared.report.Report.{Report}
use Rattle.rdm_model.specs.Deeds.{Deed, log_of, open_life, is_connid, of_life, of_open_life}
use Rattle.rdm_model.specs.Beginnings.{port_count}
use Rattle.rdm_model.specs.Currents.{current}
use Rattle.rdm_model.specs.Sources.{is_other}
use Rattle.rdm_model.specs.Scenes.{scene}
use Rattle.rdm_model.specs.Answers.{is_entry}
use Rattle.rdm_model.specs.Classes.{lives_class, body_lives_class}
use Rattle.rdm_model.specs.Takes.{handled_answer}
use Rattle.rdm_model.specs.Steps.{Does, count}
use Rattle.rdm_model.specs.Jobs.{is_fair, law_ops}
use Rattle.rdm_model.specs.Settled.{left_at}
use Rattle.rdm_model.specs.Lawful.{Lawful, port_deeds, life_deeds, sent_scene}
use Rattle.rdm_model.specs.Reports.{end_of, end_in, drops_to_other, drops_from_other, RightReport}
use Rattle.rdm_law.specs.Counted.{IsOfOther, DropsAreOther, CountsDrops, AgainWhereFull}
use Rattle.rdm_law.proofs.Lives.Lives.{is_connid-true, is_connid-from}
use Rattle.rdm_law.proofs.Refusals.AgainFull.{again_is_full}
use Rattle.rdm_law.proofs.Refusals.DroppedOnly.{lawful_at, drops_change_nothing, dropped_class}
use Rattle.rdm_law.proofs.Refusals.OwesNothing.{drops_owe_nothing}
use Rattle.rdm_lists.proofs.Places.{slice_get-map_some, slice_get_split}
use Rattle.rdm_lists.proofs.Below.{length-below}
use Rattle.rdm_num.proofs.Lives.{same_life-refl}

-- of two classes, which one it is and why
which_class : (a b : Bool) (class' : Class) → first_case ((a, Some ToOther) ∷ (b, Some FromOther) ∷ []) None ≡ Some class'
    → ((class' ≡ ToOther) × (a ≡ true)) ⊎ ((class' ≡ FromOther) × (a ≡ false) × (b ≡ true))
unfolding first_case
which_class true b class' h = inl (cc, refl)
which_class false true class' h = inr (cc, refl, refl)
which_class false false class' h = cc

-- where another life is current
other_is : (o : Option Life) (from : Life) → is_other o from ≡ true → (other : Life) × (o ≡ Some other) × (other ≡ from → ⊥)
unfolding is_other
other_is None from h = cc
other_is (Some now) from h = (now, refl, λ e. let f = not-true (same_life now from) h in let g = same_life-refl from in let k = ap (λ (l : Life). same_life l from) e in cc)

-- the deeds of the life that is open
open_deeds : (o : Option Connid) (c : Connid) (log : List Deed) → o ≡ Some c → of_open_life o log ≡ of_life c log
unfolding of_open_life
open_deeds o c log h = rw h refl

-- what a scene of a port is made of
scene_parts : (job : Job) (port : ℕ) (before : List Entry)
    → ((sent_scene job port before).now ≡ open_life (port_deeds job port before))
    × ((sent_scene job port before).log ≡ of_open_life (open_life (port_deeds job port before)) (port_deeds job port before))
unfolding sent_scene scene
scene_parts job port before = (refl, refl)

-- the deeds of a life of that port
deeds_of : (job : Job) (port : PortNo) (c : Connid) (before : List Entry) → life_deeds job before (life port c) ≡ of_life c (port_deeds job port.0 before)
unfolding life_deeds
deeds_of job port c before = refl

-- a class by lives is of another life
other_class : (job : Job) (before : List Entry) (port : PortNo) (d : Datagram) (body : Body) (class' : Class)
    → body_lives_class (sent_scene job port.0 before) d body ≡ Some class' → IsOfOther job before port d body class'
unfolding body_lives_class
other_class job before port d (Note note) class' h = cc
other_class job before port d (Between from to load) class' h =
    let s = sent_scene job port.0 before in
    let parts = scene_parts job port.0 before in
    let now = open_life (port_deeds job port.0 before) in
    elim (which_class (not (is_connid s.now to)) (is_other (current s.log d.src.0) (life d.src from)) class' h) [
      | inl a ↦ subst (λ (x : Class). IsOfOther job before port d (Between from to load) x) (sym a.0)
          (λ open'. let t = is_connid-from now to open' in let f = not-true (is_connid s.now to) a.1 in let e = ap (λ (o : Option Connid). is_connid o to) parts.0 in cc)
      | inr a ↦ subst (λ (x : Class). IsOfOther job before port d (Between from to load) x) (sym a.0)
          (let t : is_connid s.now to ≡ true = not-false (is_connid s.now to) a.1 in
          let open' : now ≡ Some to = is_connid-true now to (sym (ap (λ (o : Option Connid). is_connid o to) parts.0) ∙ t) in
          let log : s.log ≡ life_deeds job before (life port to) = parts.1 ∙ open_deeds now to (port_deeds job port.0 before) open' ∙ sym (deeds_of job port to before) in
          let o = other_is (current s.log d.src.0) (life d.src from) a.2 in
          (o.0, ap (λ (l : List Deed). current l d.src.0) (sym log) ∙ o.1, o.2))
    ]

-- each drop of a lawful history of a fair job is of another life, and changes nothing
pub drops_are_other : (job : Job) (history : List Entry) → IsTrue (is_fair law_ops job) → Lawful job history → DropsAreOther job history
unfolding handled_answer lives_class
drops_are_other job history fair lawful newer e before d class' split is =
    let l = lawful_at job newer e before (subst (Lawful job) split lawful) in
    let s = sent_scene job e.port.0 before in
    let does : Does job lives_class s (log_of e.port.0 before) e (Handle d (Dropped class')) = subst (Does job lives_class s (log_of e.port.0 before) e) is l.3.2 in
    record {
      of_other = other_class job before e.port d d.body class' (dropped_class s d (lives_class s d) class' does.0);
      nothing = drops_change_nothing job e before d class' is;
      owes = λ i. drops_owe_nothing job e before d class' i fair l.0 is;
    }

-- what an end of a port says
end_parts : (job : Job) (history : List Entry) (port : ℕ)
    → ((end_in job history port).to_other ≡ count drops_to_other (log_of port history)) × ((end_in job history port).from_other ≡ count drops_from_other (log_of port history))
    × ((end_in job history port).left ≡ left_at job port (sent_scene job port history) (log_of port history))
unfolding end_in end_of
end_parts job history port = (refl, refl, refl)

-- the last of the numbers below a bound
last_at : (n k x j : ℕ) → k ≡ n + j → slice_get (n ∷ []) j ≡ Some x → x ≡ k
last_at n k x zero e h = (let f : n ≡ x = cc in omega arith)
last_at n k x (suc j) e h = cc

-- the number at a place below a bound is the place
pub below_at : (n k x : ℕ) → slice_get (below n) k ≡ Some x → x ≡ k
unfolding below
below_at zero k x h = cc
below_at (suc n) k x h =
    elim (slice_get_split (below n) (n ∷ []) k x h) [
      | inl a ↦ below_at n k x a
      | inr a ↦ last_at n k x a.0 (a.1 ∙ ap (λ m. m + a.0) (length-below n)) a.2
    ]

-- the end of a port in a right report
report_end : (job : Job) (report : Report) (port : ℕ) (end' : End) → RightReport job report → slice_get report.ends port ≡ Some end' → end' ≡ end_in job report.history port
report_end job report port end' right at =
    let r = slice_get-map_some (end_in job report.history) (below (port_count job)) port end' (subst (λ (xs : List End). slice_get xs port ≡ Some end') right.ends at) in
    sym r.2 ∙ ap (end_in job report.history) (below_at (port_count job) port r.0 r.1)

-- a right report counts the drops
pub counts_drops : (job : Job) (report : Report) → RightReport job report → CountsDrops job report
counts_drops job report right =
    record {
      each_port = ap length right.ends ∙ length-map (below (port_count job)) (end_in job report.history) ∙ length-below (port_count job);
      to_other = λ port end' at. ap (λ (x : End). x.to_other) (report_end job report port end' right at) ∙ (end_parts job report.history port).0;
      from_other = λ port end' at. ap (λ (x : End). x.from_other) (report_end job report port end' right at) ∙ (end_parts job report.history port).1;
    }

-- no entry is to be tried again
no_entry_again : (pool : PoolName) → is_entry (Again pool) ≡ true → ⊥
unfolding is_entry
no_entry_again pool h = cc

-- an instruction is to be tried again only where a pool is full
pub again_where_full : (job : Job) (report : Report) → RightReport job report → AgainWhereFull job report
again_where_full job report right =
    record {
      left = λ port end' pool at is.
          again_is_full job report.history port pool (sym (ap (λ (x : End). x.left) (report_end job report port end' right at) ∙ (end_parts job report.history port).2) ∙ is);
      answered = λ newer e before index op pool split is.
          let l = lawful_at job newer e before (subst (Lawful job) split right.lawful) in
          let s = sent_scene job e.port.0 before in
          let does : Does job lives_class s (log_of e.port.0 before) e (Next index op (Again pool)) = subst (Does job lives_class s (log_of e.port.0 before) e) is l.3.2 in
          absurd (no_entry_again pool does.2);
    }
