-- Each step keeps what inboxes keep.
use Rattle.std.proofs.Common.{◌≡◌, ℕ, ◌<◌, List, [], ◌∷◌, ◌++◌, refl, arith, ◌⊎◌, inl, inr, sym, ◌∙◌, ap, subst}
use Rattle.rdm_lists.specs.Lists.{Member}
use Rattle.rdm_wire.specs.declared.Datagram.{Datagram}
use Rattle.rdm_model.specs.declared.answer.Handled.{Handled}
use Rattle.rdm_model.specs.declared.entry.Entry.{Entry}
use Rattle.rdm_model.specs.declared.entry.Act.{Act}
use Rattle.rdm_model.specs.declared.entry.Act.TheVariants.{Next, Push, Handle, Poll}
use Rattle.rdm_model.specs.Steps.{count, pushes_by}
use Rattle.rdm_model.specs.Wire.{PushedIn, IsOther, IsUnhandled}
use Rattle.rdm_model.specs.Worlds.{put_at}
use Rattle.rdm_law.specs.Worlds.{WasPushed, TookOnce}
use Rattle.rdm_law.proofs.Played.Apart.{put_at_case, put_at_here, Differ, AreApart, apart_push, apart_without, member_around, member_without, member_seam}
use Rattle.rdm_law.proofs.Played.Delivers.{IsNumbered, AreNumbered, Waits, Delivers, pushed_below, more_logs, pushed_still, pushed_before, more_numbered, more_handled, unhandled_still, unhandled_before}
use Rattle.rdm_lists.proofs.Members.{member-append_left, member-append_right, member-append_cases}

-- the act neither pushes nor handles
abbrev pub IsQuiet : Act → Type 0
IsQuiet (Next index op answer) = Unit {0}
IsQuiet (Push d) = ⊥
IsQuiet (Handle d answer) = ⊥
IsQuiet (Poll c) = Unit {0}

-- such an act handles no datagram
quiet_other : (act : Act) (d : Datagram) → IsQuiet act → IsOther d act
quiet_other (Next index op answer) d q = tt
quiet_other (Push p) d q = tt
quiet_other (Handle p answer) d q = elim q [ ]
quiet_other (Poll c) d q = tt

-- such an act numbers no push
quiet_numbered : (port : ℕ) (before : List Entry) (act : Act) → IsQuiet act → IsNumbered port before act
quiet_numbered port before (Next index op answer) q = tt
quiet_numbered port before (Push p) q = elim q [ ]
quiet_numbered port before (Handle p answer) q = tt
quiet_numbered port before (Poll c) q = tt

-- such an act handles nothing that had to wait
quiet_waited : (logs : ℕ → List Entry) (port : ℕ) (before : List Entry) (act : Act) → IsQuiet act → WasPushed logs port before act
quiet_waited logs port before (Next index op answer) q = tt
quiet_waited logs port before (Push p) q = tt
quiet_waited logs port before (Handle p answer) q = elim q [ ]
quiet_waited logs port before (Poll c) q = tt

-- such an act is no push
quiet_no_push : (act : Act) (d : Datagram) → IsQuiet act → act ≡ Push d → ⊥
quiet_no_push act d q is = elim (subst IsQuiet is q) [ ]

-- an entry that neither pushes nor handles
pub quiet_delivers : (logs : ℕ → List Entry) (waiting : ℕ → List Datagram) (port : ℕ) (e : Entry) → IsQuiet e.act
    → Delivers logs waiting → Delivers (more_logs logs port e) waiting
quiet_delivers logs waiting port e q i = record {
  numbered = more_numbered logs port e i.numbered (quiet_numbered port (logs port) e.act q);
  handled = more_handled logs port e i.handled (quiet_waited logs port (logs port) e.act q);
  waits = λ p d m.
      let w = i.waits p d m in
      record {
        for_it = w.for_it;
        pushed = pushed_still logs port e d d.src.0 w.pushed;
        fresh = unhandled_still logs port e d p (λ here. quiet_other e.act d q) w.fresh;
      };
  apart = i.apart;
  arrives = λ d h k. elim (pushed_before logs port e d d.src.0 h) [
    | inl now ↦ absurd (quiet_no_push e.act d q now.1)
    | inr was ↦ i.arrives d was (unhandled_before logs port e d d.dst.0 k).0
  ];
}

-- where lists have the same elements in the same order
pub same_delivers : (logs : ℕ → List Entry) (waiting later : ℕ → List Datagram) → ((p : ℕ) → later p ≡ waiting p) → Delivers logs waiting → Delivers logs later
same_delivers logs waiting later same i = record {
  numbered = i.numbered;
  handled = i.handled;
  waits = λ p d m. i.waits p d (subst (λ (ds : List Datagram). Member d ds) (same p) m);
  apart = λ p. subst AreApart (sym (same p)) (i.apart p);
  arrives = λ d h k. subst (λ (ds : List Datagram). Member d ds) (sym (same d.dst.0)) (i.arrives d h k);
}

-- the datagram's source has pushed none of its number
abbrev pub IsNew : (ℕ → List Entry) → Datagram → Type 0
IsNew logs d = (q : Datagram) → PushedIn q (logs q.src.0) → Differ d q

-- a datagram with the next number is new
pub next_is_new : (logs : ℕ → List Entry) (d : Datagram) → ((p : ℕ) → AreNumbered p (logs p)) → d.number.0 ≡ count pushes_by (logs d.src.0) → IsNew logs d
next_is_new logs d n is q h s e =
    let a = pushed_below q.src.0 (logs q.src.0) q (n q.src.0) h in
    let P : ℕ → Type 0 = λ x. q.number.0 < count pushes_by (logs x) in
    let b : q.number.0 < count pushes_by (logs d.src.0) = subst P (ap (λ x. x.0) s) a.1 in
    let f : q.number.0 ≡ d.number.0 = ap (λ x. x.0) e in
    absurd (omega arith)

-- a new datagram is none that had waited
new_other : (logs : ℕ → List Entry) (p : ℕ) (d : Datagram) (before : List Entry) (act : Act) → IsNew logs d → WasPushed logs p before act → IsOther d act
new_other logs p d before (Handle q answer) new k = new q k.1
new_other logs p d before (Next index op answer) new k = tt
new_other logs p d before (Push q) new k = tt
new_other logs p d before (Poll c) new k = tt

-- a new datagram was never handled
pub new_unhandled : (logs : ℕ → List Entry) (p : ℕ) (d : Datagram) (log : List Entry) → IsNew logs d → TookOnce logs p log → IsUnhandled d log
new_unhandled logs p d [] new h = tt
new_unhandled logs p d (x ∷ before) new h = (new_unhandled logs p d before new h.0, new_other logs p d before x.act new h.1)

-- the datagrams that wait, with one more for its port
abbrev pub one_more : (ℕ → List Datagram) → Datagram → ℕ → List Datagram
one_more waiting d = put_at d.dst.0 (waiting d.dst.0 ++ d ∷ []) waiting

-- what waits with one more is that one, or waited before
pub one_more_cases : (waiting : ℕ → List Datagram) (d q : Datagram) (p : ℕ) → Member q (one_more waiting d p) → ((p ≡ d.dst.0) × (d ≡ q)) ⊎ Member q (waiting p)
one_more_cases waiting d q p =
    put_at_case (λ (ds : List Datagram). Member q ds → ((p ≡ d.dst.0) × (d ≡ q)) ⊎ Member q (waiting p)) d.dst.0 (waiting d.dst.0 ++ d ∷ []) waiting p
    (λ is m. elim (member-append_cases q (waiting d.dst.0) (d ∷ []) m) [
      | inl k ↦ inr (subst (λ (x : ℕ). Member q (waiting x)) (sym is) k)
      | inr k ↦ elim k [ inl same ↦ inl (is, same) | inr never ↦ elim never [ ] ]
    ])
    (λ no m. inr m)

-- what waited waits with one more
one_more_was : (waiting : ℕ → List Datagram) (d q : Datagram) (p : ℕ) → Member q (waiting p) → Member q (one_more waiting d p)
one_more_was waiting d q p m =
    put_at_case (λ (ds : List Datagram). Member q ds) d.dst.0 (waiting d.dst.0 ++ d ∷ []) waiting p
    (λ is. member-append_left q (waiting d.dst.0) (d ∷ []) (subst (λ (x : ℕ). Member q (waiting x)) is m)) (λ no. m)

-- the one more waits
one_more_has : (waiting : ℕ → List Datagram) (d q : Datagram) → d ≡ q → Member q (one_more waiting d q.dst.0)
one_more_has waiting d q is =
    let P : Datagram → Type 0 = λ x. Member x (one_more waiting d x.dst.0) in
    let has : Member d (one_more waiting d d.dst.0) =
    subst (λ (ds : List Datagram). Member d ds) (sym (put_at_here d.dst.0 (waiting d.dst.0 ++ d ∷ []) waiting)) (member-append_right d (waiting d.dst.0) (d ∷ []) (inl refl)) in
    subst P is has

-- an entry that pushes a datagram with the next number
pub push_delivers : (logs : ℕ → List Entry) (waiting : ℕ → List Datagram) (port : ℕ) (e : Entry) (d : Datagram) → e.act ≡ Push d → d.src.0 ≡ port
    → d.number.0 ≡ count pushes_by (logs port) → Delivers logs waiting → Delivers (more_logs logs port e) (one_more waiting d)
push_delivers logs waiting port e d is src number i =
    let num : d.number.0 ≡ count pushes_by (logs d.src.0) = subst (λ (x : ℕ). d.number.0 ≡ count pushes_by (logs x)) (sym src) number in
    let new : IsNew logs d = next_is_new logs d i.numbered num in
    let other : (q : Datagram) → IsOther q e.act = λ q. (let P : Act → Type 0 = λ act. IsOther q act in subst P (sym is) tt) in
    let now : PushedIn d (more_logs logs port e d.src.0) =
    subst (λ (x : ℕ). PushedIn d (more_logs logs port e x)) (sym src)
    (subst (λ (log : List Entry). PushedIn d log) (sym (put_at_here port (e ∷ logs port) logs)) (inl is)) in
    record {
      numbered = more_numbered logs port e i.numbered (let P : Act → Type 0 = λ act. IsNumbered port (logs port) act in subst P (sym is) (src, number));
      handled = more_handled logs port e i.handled (let P : Act → Type 0 = λ act. WasPushed logs port (logs port) act in subst P (sym is) tt);
      waits = λ p q m. elim (one_more_cases waiting d q p m) [
        | inl a ↦
            let P : Datagram → Type 0 = λ x. Waits (more_logs logs port e) p x in
            let mine : Waits (more_logs logs port e) p d = record {
              for_it = sym a.0;
              pushed = now;
              fresh = unhandled_still logs port e d p (λ here. other d) (new_unhandled logs p d (logs p) new (i.handled p));
            } in
            subst P a.1 mine
        | inr k ↦
            let w = i.waits p q k in
            record {
              for_it = w.for_it;
              pushed = pushed_still logs port e q q.src.0 w.pushed;
              fresh = unhandled_still logs port e q p (λ here. other q) w.fresh;
            }
      ];
      apart = λ p. put_at_case AreApart d.dst.0 (waiting d.dst.0 ++ d ∷ []) waiting p
          (λ here. apart_push (waiting d.dst.0) d (i.apart d.dst.0) (λ q m. new q (i.waits d.dst.0 q m).pushed)) (λ no. i.apart p);
      arrives = λ q h k. elim (pushed_before logs port e q q.src.0 h) [
        | inl a ↦ (let f : Push d ≡ Push q = sym is ∙ a.1 in one_more_has waiting d q cc)
        | inr was ↦ one_more_was waiting d q q.dst.0 (i.arrives q was (unhandled_before logs port e q q.dst.0 k).0)
      ];
    }

-- the datagrams that wait, without one of a port
abbrev pub one_less : (ℕ → List Datagram) → ℕ → List Datagram → List Datagram → ℕ → List Datagram
one_less waiting port front back = put_at port (front ++ back) waiting

-- what waits with one less waited, and is one of the others
pub one_less_was : (waiting : ℕ → List Datagram) (port : ℕ) (front : List Datagram) (d : Datagram) (back : List Datagram) (q : Datagram) (p : ℕ)
    → waiting port ≡ front ++ d ∷ back → Member q (one_less waiting port front back p) → Member q (waiting p) × (p ≡ port → Member q (front ++ back))
one_less_was waiting port front d back q p was =
    put_at_case (λ (ds : List Datagram). Member q ds → Member q (waiting p) × (p ≡ port → Member q (front ++ back))) port (front ++ back) waiting p
    (λ is m. (
      subst (λ (x : ℕ). Member q (waiting x)) (sym is) (subst (λ (ds : List Datagram). Member q ds) (sym was) (member_around q d front back m)),
      λ here. m,
    ))
    (λ no m. (m, λ here. absurd (no here)))

-- what waited and is not the one waits on
one_less_keeps : (waiting : ℕ → List Datagram) (port : ℕ) (front : List Datagram) (d : Datagram) (back : List Datagram) (q : Datagram) (p : ℕ)
    → waiting port ≡ front ++ d ∷ back → Member q (waiting p) → (p ≡ port → d ≡ q → ⊥) → Member q (one_less waiting port front back p)
one_less_keeps waiting port front d back q p was m other =
    put_at_case (λ (ds : List Datagram). Member q ds) port (front ++ back) waiting p
    (λ is. elim (member_without q d front back (subst (λ (ds : List Datagram). Member q ds) was (subst (λ (x : ℕ). Member q (waiting x)) is m))) [
      | inl same ↦ absurd (other is same)
      | inr k ↦ k
    ])
    (λ no. m)

-- an entry that handles one of the datagrams that wait for its port
pub handle_delivers : (logs : ℕ → List Entry) (waiting : ℕ → List Datagram) (port : ℕ) (e : Entry) (d : Datagram) (answer : Handled) (front back : List Datagram)
    → e.act ≡ Handle d answer → waiting port ≡ front ++ d ∷ back → Delivers logs waiting → Delivers (more_logs logs port e) (one_less waiting port front back)
handle_delivers logs waiting port e d answer front back is was i =
    let split = apart_without front d back (subst AreApart was (i.apart port)) in
    let w : Waits logs port d = i.waits port d (subst (λ (ds : List Datagram). Member d ds) (sym was) (member_seam d front back)) in
    let no_push : (q : Datagram) → e.act ≡ Push q → ⊥ = λ q now. (let f : Handle d answer ≡ Push q = sym is ∙ now in cc) in
    record {
      numbered = more_numbered logs port e i.numbered (let P : Act → Type 0 = λ act. IsNumbered port (logs port) act in subst P (sym is) tt);
      handled = more_handled logs port e i.handled
          (let P : Act → Type 0 = λ act. WasPushed logs port (logs port) act in subst P (sym is) (w.for_it, w.pushed, w.fresh));
      waits = λ p q m.
          let k = one_less_was waiting port front d back q p was m in
          let v = i.waits p q k.0 in
          record {
            for_it = v.for_it;
            pushed = pushed_still logs port e q q.src.0 v.pushed;
            fresh = unhandled_still logs port e q p
                (λ here. (let P : Act → Type 0 = λ act. IsOther q act in subst P (sym is) (λ s n. split.1 q (k.1 here) (sym s) (sym n)))) v.fresh;
          };
      apart = λ p. put_at_case AreApart port (front ++ back) waiting p (λ here. split.0) (λ no. i.apart p);
      arrives = λ q h k.
          let u = unhandled_before logs port e q q.dst.0 k in
          elim (pushed_before logs port e q q.src.0 h) [
            | inl a ↦ absurd (no_push q a.1)
            | inr before ↦ one_less_keeps waiting port front d back q q.dst.0 was (i.arrives q before u.0)
                (λ here same. (let P : Act → Type 0 = λ act. IsOther q act in
                let o : IsOther q (Handle d answer) = subst P is (u.1 here) in
                o (ap (λ (x : Datagram). x.src) same) (ap (λ (x : Datagram). x.number) same)))
          ];
    }
