-- Lists of lists, of which each has the datagrams of one sender.
use Rattle.std.proofs.Common.{◌≡◌, ℕ, zero, suc, ◌+◌, ◌<◌, Bool, cond, List, [], ◌∷◌, ◌++◌, length, Some, refl, ap, sym, ◌∙◌, subst, inl, inr, arith, eq-eqb, append-nil}
use Rattle.std.specs.Prelude.{◌==◌, slice_get}
use Rattle.std.proofs.lemmas.Bool.{ne_eqb}
use Rattle.std.proofs.lemmas.List.Elements.{filter-append}
use Rattle.rdm_lists.specs.Lists.{Member}
use Rattle.rdm_lists.proofs.Members.{member-append_left, member-append_right, member-append_cases}
use Rattle.rdm_lists.proofs.Places.{slice_get-member}
use Rattle.rdm_wire.specs.declared.Datagram.{Datagram}
use Rattle.rdm_inbox.specs.Senders.{from_port, list_at, joined}
use Rattle.rdm_model.specs.declared.entry.Entry.{Entry}
use Rattle.rdm_model.specs.declared.entry.Act.{Act}
use Rattle.rdm_model.specs.Wire.{PushedIn, IsOther, IsUnhandled}
use Rattle.rdm_law.proofs.Played.Apart.{AreApart, Differ}
use Rattle.rdm_launch.specs.Logs.{pushed_by, pushed_to, handled_by, handled_in}

-- those of one sender, where all are of it
all_from : (from : ℕ) (ds : List Datagram) → ((d : Datagram) → Member d ds → d.src.0 ≡ from) → from_port from ds ≡ ds
all_from from [] h = refl
all_from from (d ∷ ds) h =
    ap (λ (b : Bool). cond b (d ∷ from_port from ds) (from_port from ds)) (eq-eqb d.src.0 from (h d (inl refl))) ∙ ap (λ (l : List Datagram). d ∷ l) (all_from from ds (λ q m. h q (inr m)))

-- and where none is
none_from : (from : ℕ) (ds : List Datagram) → ((d : Datagram) → Member d ds → d.src.0 ≡ from → ⊥) → from_port from ds ≡ []
none_from from [] h = refl
none_from from (d ∷ ds) h =
    ap (λ (b : Bool). cond b (d ∷ from_port from ds) (from_port from ds)) (ne_eqb d.src.0 from (h d (inl refl))) ∙ none_from from ds (λ q m. h q (inr m))

-- a datagram of the lists in a row is in one of them
pub joined_in : (lists : List (List Datagram)) (d : Datagram) → Member d (joined lists) → (j : ℕ) × Member d (list_at lists j)
joined_in [] d m = elim m [ ]
joined_in (l ∷ lists) d m =
    elim (member-append_cases d l (joined lists) m) [
      | inl k ↦ (0, k)
      | inr k ↦ let r = joined_in lists d k in (suc r.0, r.1)
    ]

pub in_joined : (lists : List (List Datagram)) (d : Datagram) (j : ℕ) → Member d (list_at lists j) → Member d (joined lists)
in_joined [] d j m = elim m [ ]
in_joined (l ∷ lists) d zero m = member-append_left d l (joined lists) m
in_joined (l ∷ lists) d (suc j) m = member-append_right d l (joined lists) (in_joined lists d j m)

-- a list that has a datagram is one of the lists
pub list_low : (lists : List (List Datagram)) (d : Datagram) (j : ℕ) → Member d (list_at lists j) → j < length lists
list_low [] d j m = elim m [ ]
list_low (l ∷ lists) d zero m = omega arith
list_low (l ∷ lists) d (suc j) m = let low = list_low lists d j m in omega arith

-- each list has the datagrams of the sender of its place, from a first one on
abbrev pub AreOwn : ℕ → List (List Datagram) → Type 0
AreOwn first lists = (j : ℕ) (d : Datagram) → Member d (list_at lists j) → d.src.0 ≡ first + j

-- so those of a sender are its list
pub own_list : (first : ℕ) (lists : List (List Datagram)) (j : ℕ) → AreOwn first lists → from_port (first + j) (joined lists) ≡ list_at lists j
own_list first [] j own = refl
own_list first (l ∷ lists) zero own =
    filter-append (λ (d : Datagram). d.src.0 == first + 0) l (joined lists)
    ∙ ap (λ (xs : List Datagram). xs ++ from_port (first + 0) (joined lists)) (all_from (first + 0) l (λ d m. own zero d m))
    ∙ ap (λ (xs : List Datagram). l ++ xs) (none_from (first + 0) (joined lists) (λ d m is. let k = joined_in lists d m in let e = own (suc k.0) d k.1 in absurd (omega arith)))
    ∙ append-nil l
own_list first (l ∷ lists) (suc j) own =
    let n : first + suc j ≡ suc first + j = omega arith in
    let rest : AreOwn (suc first) lists = λ k d m. (let e = own (suc k) d m in omega arith) in
    filter-append (λ (d : Datagram). d.src.0 == first + suc j) l (joined lists)
    ∙ ap (λ (xs : List Datagram). xs ++ from_port (first + suc j) (joined lists)) (none_from (first + suc j) l (λ d m is. let e = own zero d m in absurd (omega arith)))
    ∙ ap (λ (k : ℕ). from_port k (joined lists)) n
    ∙ own_list (suc first) lists j rest

-- an element of the first of two lists in a row differs from one of the second
pub apart_across : (xs ys : List Datagram) (q d : Datagram) → AreApart (xs ++ ys) → Member q xs → Member d ys → Differ q d
apart_across [] ys q d a m k = elim m [ ]
apart_across (x ∷ xs) ys q d a (inl is) k = subst (λ (z : Datagram). Differ z d) is (a.0 d (member-append_right d xs ys k))
apart_across (x ∷ xs) ys q d a (inr m) k = apart_across xs ys q d a.1 m k

-- those of the second are apart
pub apart_second : (xs ys : List Datagram) → AreApart (xs ++ ys) → AreApart ys
apart_second [] ys a = a
apart_second (x ∷ xs) ys a = apart_second xs ys a.1

-- datagrams that are apart stand at one place each
pub apart_once : (ds : List Datagram) → AreApart ds → (k l : ℕ) (d : Datagram) → slice_get ds k ≡ Some d → slice_get ds l ≡ Some d → k ≡ l
apart_once [] a k l d h i = absurd (cc)
apart_once (x ∷ ds) a zero zero d h i = refl
apart_once (x ∷ ds) a zero (suc l) d h i = let e : x ≡ d = cc in absurd (a.0 d (slice_get-member ds l d i) (ap (λ (z : Datagram). z.src) (sym e)) (ap (λ (z : Datagram). z.number) (sym e)))
apart_once (x ∷ ds) a (suc k) zero d h i = let e : x ≡ d = cc in absurd (a.0 d (slice_get-member ds k d h) (ap (λ (z : Datagram). z.src) (sym e)) (ap (λ (z : Datagram). z.number) (sym e)))
apart_once (x ∷ ds) a (suc k) (suc l) d h i = ap suc (apart_once ds a.1 k l d h i)

-- what was pushed to a port is among the pushes to it
act_pushed : (to : ℕ) (act : Act) (d : Datagram) → act ≡ Act.Push d → d.dst.0 ≡ to → Member d (pushed_by to act)
unfolding pushed_by
act_pushed to act d e is =
    subst (λ (a : Act). Member d (pushed_by to a)) (sym e)
    (subst (λ (b : Bool). Member d (cond b (d ∷ []) [])) (sym (eq-eqb to d.dst.0 (sym is))) (inl refl))

pub pushed_member : (to : ℕ) (log : List Entry) (d : Datagram) → PushedIn d log → d.dst.0 ≡ to → Member d (pushed_to to log)
unfolding pushed_to
pushed_member to [] d h is = elim h [ ]
pushed_member to (e ∷ before) d (inl k) is = member-append_right d (pushed_to to before) (pushed_by to e.act) (act_pushed to e.act d k is)
pushed_member to (e ∷ before) d (inr k) is = member-append_left d (pushed_to to before) (pushed_by to e.act) (pushed_member to before d k is)

-- what was not handled is none of those that were
act_unhandled : (d : Datagram) (act : Act) → IsOther d act → Member d (handled_by act) → ⊥
unfolding handled_by
act_unhandled d (Act.Next index op answer) o m = elim m [ ]
act_unhandled d (Act.Push q) o m = elim m [ ]
act_unhandled d (Act.Handle q answer) o m = elim m [ inl e ↦ o (ap (λ (z : Datagram). z.src) e) (ap (λ (z : Datagram). z.number) e) | inr never ↦ elim never [ ] ]
act_unhandled d (Act.Poll c) o m = elim m [ ]

pub not_handled : (d : Datagram) (log : List Entry) → IsUnhandled d log → Member d (handled_in log) → ⊥
unfolding handled_in
not_handled d [] h m = elim m [ ]
not_handled d (e ∷ before) h m =
    elim (member-append_cases d (handled_by e.act) (handled_in before) m) [
      | inl k ↦ act_unhandled d e.act h.1 k
      | inr k ↦ not_handled d before h.0 k
    ]
