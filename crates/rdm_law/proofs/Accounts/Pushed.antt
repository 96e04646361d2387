-- The datagrams that a port pushed, and the due items of its lives.
use Rattle.std.proofs.Common.{◌≡◌, ℕ, ◌<◌, ◌≤◌, List, [], ◌∷◌, length, Option, Some, None, refl, arith, ◌⊎◌, inl, inr, sym, ◌∙◌, ap, subst}
use Rattle.rdm_num.specs.declared.numbers.PortNo.{PortNo}
use Rattle.rdm_num.specs.declared.numbers.Connid.{Connid}
use Rattle.rdm_num.specs.declared.numbers.Life.{Life}
use Rattle.rdm_wire.specs.declared.Datagram.{Datagram}
use Rattle.rdm_wire.specs.declared.Body.TheVariants.{Between}
use Rattle.rdm_wire.specs.declared.Load.{Load}
use Rattle.rdm_model.specs.declared.job.Job.{Job}
use Rattle.rdm_model.specs.declared.entry.Entry.{Entry}
use Rattle.rdm_model.specs.declared.entry.Act.TheVariants.{Push}
use Rattle.rdm_model.specs.Deeds.{Deed, Pushed, Item, deed_by_push, deed_of, deeds, open_life, of_life}
use Rattle.rdm_model.specs.Beginnings.{rank_of, port_count, own_of}
use Rattle.rdm_model.specs.Notes.{next_note}
use Rattle.rdm_model.specs.Dues.{Due}
use Rattle.rdm_model.specs.Scenes.{Scene, scene, deeds_at}
use Rattle.rdm_model.specs.Going.{Goes, due_going, Bears, GoesNext, going, GoesNote, Going, life_going, IsGoing}
use Rattle.rdm_model.specs.Classes.{class_of}
use Rattle.rdm_model.specs.Steps.{Does}
use Rattle.rdm_model.specs.Local.{own_scene, Local}
use Rattle.rdm_model.specs.Wire.{PushedIn}
use Rattle.rdm_law.proofs.Lives.Lives.{life_of, note_goes, life_scene, WasDueAt, at_of_life, is_connid-from, opened_scene, push_is}

-- the datagram was pushed after so many deeds of the life that it names
abbrev pub PlacedAt : Job → ℕ → Connid → Datagram → ℕ → List Entry → Type 0
PlacedAt job port from d k [] = ⊥
PlacedAt job port from d k (e ∷ before) =
    ((e.act ≡ Push d) × (open_life (deeds_at job port before) ≡ Some from) × (k ≡ length (of_life from (deeds_at job port before)))) ⊎ PlacedAt job port from d k before

-- the deeds of a life as its port's log is longer by an entry
pub of_life_newest : (job : Job) (port : ℕ) (from : Connid) (e : Entry) (before : List Entry) → open_life (deeds_at job port before) ≡ Some from
    → of_life from (deeds_at job port (e ∷ before)) ≡ deed_of (rank_of job port).ops e.act ∷ of_life from (deeds_at job port before)
unfolding of_life deeds_at deeds
of_life_newest job port from e before h = rw (is_connid-from (open_life (deeds_at job port before)) from h) refl

-- a life has no fewer deeds with a newer entry
pub of_life_longer : (job : Job) (port : ℕ) (from : Connid) (e : Entry) (before : List Entry)
    → length (of_life from (deeds_at job port before)) ≤ length (of_life from (deeds_at job port (e ∷ before)))
unfolding deeds_at deeds
of_life_longer job port from e before =
    at_of_life (λ log. length (of_life from (deeds_at job port before)) ≤ length log) from (deed_of (rank_of job port).ops e.act) (deeds_at job port before)
    (λ s. omega arith) (λ s. omega arith)

-- the place of a push is below the count of its life's deeds
pub placed_below : (job : Job) (port : ℕ) (from : Connid) (d : Datagram) (k : ℕ) (log : List Entry) → PlacedAt job port from d k log
    → k < length (of_life from (deeds_at job port log))
placed_below job port from d k [] h = elim h [ ]
placed_below job port from d k (e ∷ before) (inl h) = let e' = ap (λ (l : List Deed). length l) (of_life_newest job port from e before h.1) in omega arith
placed_below job port from d k (e ∷ before) (inr h) =
    let b = placed_below job port from d k before h in
    let l = of_life_longer job port from e before in
    omega arith

-- one place has one push
pub placed_once : (job : Job) (port : ℕ) (from : Connid) (c d : Datagram) (k : ℕ) (log : List Entry) → PlacedAt job port from c k log → PlacedAt job port from d k log → c ≡ d
placed_once job port from c d k [] g h = elim g [ ]
placed_once job port from c d k (e ∷ before) (inl g) (inl h) = let a = g.0 in let b = h.0 in cc
placed_once job port from c d k (e ∷ before) (inl g) (inr h) = let b = placed_below job port from d k before h in absurd (omega arith)
placed_once job port from c d k (e ∷ before) (inr g) (inl h) = let b = placed_below job port from c k before g in absurd (omega arith)
placed_once job port from c d k (e ∷ before) (inr g) (inr h) = placed_once job port from c d k before g h

-- a push between lives: its due item, and after how many deeds of its life it came
pub record PushedDue (job : Job) (port : ℕ) (from : Connid) (to : Life) (load : Load) (d : Datagram) (log : List Entry) : Type 0 where
  pub due' : Due
  pub place : ℕ
  pub item : Item
  pub was_due : WasDueAt (own_of job (life_of port from)) due' place (of_life from (deeds_at job port log))
  pub placed : PlacedAt job port from d place log
  pub gives : due_going (Some due') ≡ Some (Goes to item)
  pub bears : Bears item load

-- what was pushed stays so
pushed_longer : (job : Job) (port : ℕ) (from : Connid) (to : Life) (load : Load) (d : Datagram) (e : Entry) (before : List Entry)
    → PushedDue job port from to load d before → PushedDue job port from to load d (e ∷ before)
unfolding deeds_at deeds
pushed_longer job port from to load d e before p =
    record {
      due' = p.due';
      place = p.place;
      item = p.item;
      was_due = at_of_life (λ log. WasDueAt (own_of job (life_of port from)) p.due' p.place log) from (deed_of (rank_of job port).ops e.act) (deeds_at job port before)
          (λ s. inr p.was_due) (λ s. p.was_due);
      placed = inr p.placed;
      gives = p.gives;
      bears = p.bears;
    }

-- only an open life sends
now_goes : (s : Scene) (now : Option Connid) (to : Life) (item : Item) → life_going now s ≡ Some (Goes to item) → (c : Connid) × (now ≡ Some c)
unfolding life_going
now_goes s None to item h = cc
now_goes s (Some c) to item h = (c, refl)

-- what goes between lives goes from a life that is open
open_goes : (s : Scene) (to : Life) (item : Item) → going s ≡ Some (Goes to item) → (c : Connid) × (s.now ≡ Some c)
unfolding going
open_goes s to item h =
    now_goes s s.now to item (note_goes (next_note s.ports s.own.life.port.0 s.port_log) (life_going s.now s) to item h)

-- what goes between lives goes from an open life
open_going : (s : Scene) (d : Datagram) (from to : Connid) (load : Load) (g : Going) → d.body ≡ Between from to load → going s ≡ Some g → IsGoing s g d
    → (c : Connid) × (s.now ≡ Some c)
open_going s d from to load (GoesNote note) b is h = let x = h.1 in cc
open_going s d from to load (Goes dest item) b is h = open_goes s dest item is

-- a push between lives is by a life that is open
pub open_push : (s : Scene) (d : Datagram) (from to : Connid) (load : Load) → d.body ≡ Between from to load → GoesNext s d → (c : Connid) × (s.now ≡ Some c)
open_push s d from to load b n = open_going s d from to load n.0 b n.1 n.2

-- the life that is open in a scene is open in its log
pub own_now : (job : Job) (port : ℕ) (log : List Deed) (c : Connid) → (own_scene job port log).now ≡ Some c → open_life log ≡ Some c
unfolding own_scene scene
own_now job port log c h = h

-- a life has its port and its identifier
same_life_parts : (l : Life) (p : PortNo) (c : Connid) → p ≡ l.port → c ≡ l.connid → ◌≡◌ {A = Life} l (record { port = p; connid = c })
same_life_parts l p c h k = rw (h, k) refl

-- a push of an open life is its due item, at the count of its deeds
pushed_by : (job : Job) (port : ℕ) (c from to : Connid) (load : Load) (d : Datagram) (e : Entry) (before : List Entry) → e.port.0 ≡ port → e.act ≡ Push d
    → d.body ≡ Between from to load → open_life (deeds_at job port before) ≡ Some c
    → GoesNext (life_scene (port_count job) (own_of job (life_of port c)) (deeds_at job port before) (of_life c (deeds_at job port before))) d
    → PushedDue job port from (record { port = d.dst; connid = to }) load d (e ∷ before)
unfolding deed_of deed_by_push own_of
pushed_by job port c from to load d e before p a b now n =
    let own = own_of job (life_of port c) in
    let port_log = deeds_at job port before in
    let log = of_life c port_log in
    let is = push_is (port_count job) own port_log log d from to load b n in
    let f : from ≡ c = is.from_is in
    let dest : is.dest ≡ record { port = d.dst; connid = to } = (let u = is.dst_is in let v = is.to_is in same_life_parts is.dest d.dst to u v) in
    let deed : deed_of (rank_of job port).ops e.act ≡ Pushed = ap (λ x. deed_of (rank_of job port).ops x) a ∙ ap (λ x. deed_by_push x) b in
    let was_due : WasDueAt own is.out.due' (length log) (of_life c (deeds_at job port (e ∷ before))) =
    subst (λ l. WasDueAt own is.out.due' (length log) l) (sym (of_life_newest job port c e before now)) (inl (deed, is.out.is, refl)) in
    record {
      due' = is.out.due';
      place = length log;
      item = is.item;
      was_due = subst (λ (y : Connid). WasDueAt (own_of job (life_of port y)) is.out.due' (length log) (of_life y (deeds_at job port (e ∷ before)))) (sym f) was_due;
      placed = inl (a, now ∙ ap Some (sym f), ap (λ (y : Connid). length (of_life y port_log)) (sym f));
      gives = subst (λ (y : Life). due_going (Some is.out.due') ≡ Some (Goes y is.item)) dest is.out.gives;
      bears = is.bears;
    }

-- a datagram between lives that a port pushed was a due item of the life that it names
pub pushed_due : (job : Job) (port : ℕ) (from to : Connid) (load : Load) (d : Datagram) (log : List Entry) → Local job port log → PushedIn d log
    → d.body ≡ Between from to load → (d.src.0 ≡ port) × PushedDue job port from (record { port = d.dst; connid = to }) load d log
pushed_due job port from to load d [] l h b = elim h [ ]
pushed_due job port from to load d (e ∷ before) l (inl is) b =
    let port_log = deeds_at job port before in
    let does : Does job class_of (own_scene job port port_log) before e (Push d) = subst (λ x. Does job class_of (own_scene job port port_log) before e x) is l.2.2 in
    let open' = open_push (own_scene job port port_log) d from to load b does.3 in
    let now = own_now job port port_log open'.0 open'.1 in
    let next = subst (λ x. GoesNext x d) (opened_scene job port open'.0 port_log now) does.3 in
    (ap (λ (x : PortNo). x.0) does.0 ∙ l.1, pushed_by job port open'.0 from to load d e before l.1 is b now next)
pushed_due job port from to load d (e ∷ before) l (inr h) b =
    let r = pushed_due job port from to load d before l.0 h b in
    (r.0, pushed_longer job port from (record { port = d.dst; connid = to }) load d e before r.1)
