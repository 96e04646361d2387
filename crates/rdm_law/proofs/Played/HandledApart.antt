-- The datagrams that a port handled stand apart.
use Rattle.std.proofs.Common.{◌≡◌, ℕ, List, [], ◌∷◌, ◌++◌, length, refl, arith, inl, inr, subst, length-append}
use Rattle.rdm_lists.specs.Lists.{Member}
use Rattle.rdm_wire.specs.declared.Datagram.{Datagram}
use Rattle.rdm_model.specs.declared.entry.Entry.{Entry}
use Rattle.rdm_model.specs.declared.entry.Act.{Act}
use Rattle.rdm_model.specs.declared.entry.Act.TheVariants.{Next, Push, Handle, Poll}
use Rattle.rdm_model.specs.Steps.{count, handles_by}
use Rattle.rdm_model.specs.Wire.{PushedIn, IsOther, IsUnhandled}
use Rattle.rdm_law.specs.Worlds.{WasPushed, TookOnce}
use Rattle.rdm_law.proofs.Played.Apart.{Differ, AreApart}
use Rattle.rdm_lists.proofs.Members.{member-append_cases}

-- the datagram that an act handled
unfoldable pub handled_by : Act → List Datagram
handled_by (Handle d answer) = d ∷ []
handled_by _ = []

-- the datagrams that a log handled
unfoldable pub handled_in : List Entry → List Datagram
handled_in [] = []
handled_in (e ∷ before) = handled_by e.act ++ handled_in before

-- an act handles one, if it is a handling
one_handled : (act : Act) → length (handled_by act) ≡ handles_by act
unfolding handled_by handles_by
one_handled (Handle d answer) = refl
one_handled (Next index op answer) = refl
one_handled (Push d) = refl
one_handled (Poll c) = refl

-- as many were handled as handlings are in the log
pub handled_count : (log : List Entry) → length (handled_in log) ≡ count handles_by log
unfolding handled_in count
handled_count [] = refl
handled_count (e ∷ before) =
    let a = handled_count before in
    let b = one_handled e.act in
    let c = length-append (handled_by e.act) (handled_in before) in
    omega arith

-- a datagram that came to a port: it is for it, and was pushed
pub record Came (logs : ℕ → List Entry) (port : ℕ) (d : Datagram) : Type 0 where
  pub for_it : d.dst.0 ≡ port
  pub pushed : PushedIn d (logs d.src.0)

-- what an act handled came
came_by : (logs : ℕ → List Entry) (port : ℕ) (before : List Entry) (act : Act) (d : Datagram) → WasPushed logs port before act → Member d (handled_by act) → Came logs port d
unfolding handled_by
came_by logs port before (Handle q answer) d h (inl is) = subst (Came logs port) is (record { for_it = h.0; pushed = h.1 })
came_by logs port before (Handle q answer) d h (inr m) = elim m [ ]
came_by logs port before (Next index op answer) d h m = elim m [ ]
came_by logs port before (Push q) d h m = elim m [ ]
came_by logs port before (Poll c) d h m = elim m [ ]

-- what a log handled came
pub handled_came : (logs : ℕ → List Entry) (port : ℕ) (log : List Entry) (d : Datagram) → TookOnce logs port log → Member d (handled_in log) → Came logs port d
unfolding handled_in
handled_came logs port [] d h m = elim m [ ]
handled_came logs port (e ∷ before) d h m =
    elim (member-append_cases d (handled_by e.act) (handled_in before) m) [
      | inl k ↦ came_by logs port before e.act d h.1 k
      | inr k ↦ handled_came logs port before d h.0 k
    ]

-- what an act doesn't handle differs from what it does
act_differs : (d : Datagram) (act : Act) (q : Datagram) → IsOther d act → Member q (handled_by act) → Differ d q
unfolding handled_by
act_differs d (Handle x answer) q o (inl is) = subst (λ (y : Datagram). Differ d y) is o
act_differs d (Handle x answer) q o (inr m) = elim m [ ]
act_differs d (Next index op answer) q o m = elim m [ ]
act_differs d (Push x) q o m = elim m [ ]
act_differs d (Poll c) q o m = elim m [ ]

-- what was not handled differs from all that was
pub unhandled_differs : (d : Datagram) (log : List Entry) (q : Datagram) → IsUnhandled d log → Member q (handled_in log) → Differ d q
unfolding handled_in
unhandled_differs d [] q u m = elim m [ ]
unhandled_differs d (e ∷ before) q u m =
    elim (member-append_cases q (handled_by e.act) (handled_in before) m) [
      | inl k ↦ act_differs d e.act q u.1 k
      | inr k ↦ unhandled_differs d before q u.0 k
    ]

-- lists of datagrams apart that differ from each other
pub apart_append : (xs ys : List Datagram) → AreApart xs → AreApart ys → ((x y : Datagram) → Member x xs → Member y ys → Differ x y) → AreApart (xs ++ ys)
apart_append [] ys a b c = b
apart_append (x ∷ xs) ys a b c = (
  (λ q m. elim (member-append_cases q xs ys m) [ inl k ↦ a.0 q k | inr k ↦ c x q (inl refl) k ]),
  apart_append xs ys a.1 b (λ y z m k. c y z (inr m) k),
)

-- what one act handled is apart
one_apart : (act : Act) → AreApart (handled_by act)
unfolding handled_by
one_apart (Handle d answer) = ((λ q m. elim m [ ]), tt)
one_apart (Next index op answer) = tt
one_apart (Push d) = tt
one_apart (Poll c) = tt

-- what the newest act handled differs from all that was handled before
newest_differs : (logs : ℕ → List Entry) (port : ℕ) (before : List Entry) (act : Act) (x y : Datagram) → WasPushed logs port before act → Member x (handled_by act)
    → Member y (handled_in before) → Differ x y
unfolding handled_by
newest_differs logs port before (Handle d answer) x y h (inl is) k = subst (λ (z : Datagram). Differ z y) is (unhandled_differs d before y h.2 k)
newest_differs logs port before (Handle d answer) x y h (inr m) k = elim m [ ]
newest_differs logs port before (Next index op answer) x y h m k = elim m [ ]
newest_differs logs port before (Push d) x y h m k = elim m [ ]
newest_differs logs port before (Poll c) x y h m k = elim m [ ]

-- what a log handled is apart
pub handled_apart : (logs : ℕ → List Entry) (port : ℕ) (log : List Entry) → TookOnce logs port log → AreApart (handled_in log)
unfolding handled_in
handled_apart logs port [] h = tt
handled_apart logs port (e ∷ before) h =
    apart_append (handled_by e.act) (handled_in before) (one_apart e.act) (handled_apart logs port before h.0) (λ x y m k. newest_differs logs port before e.act x y h.1 m k)
