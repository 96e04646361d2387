-- Datagrams by who sent them.
use Rattle.std.specs.Prelude.{ℕ, zero, suc, ◌==◌, List, [], ◌∷◌, ◌++◌, filter, slice_index_or}
use Rattle.rdm_wire.specs.declared.Datagram.{Datagram}
use Rattle.rdm_wire.specs.Queues.{IsFor}

-- those that one port sent, in order
abbrev pub from_port : ℕ → List Datagram → List Datagram
from_port p ds = filter (λ d. d.src.0 == p) ds

-- each goes to that port of so many, and comes from one of them
abbrev pub AreFor : (port ports : ℕ) → List Datagram → Type 0
AreFor port ports [] = Unit {0}
AreFor port ports (d ∷ ds) = IsFor port ports d × AreFor port ports ds

-- the list of a place, where there is one
abbrev pub list_at : List (List Datagram) → ℕ → List Datagram
list_at lists p = slice_index_or lists p []

-- the lists one behind the other
abbrev pub joined : List (List Datagram) → List Datagram
joined [] = []
joined (l ∷ lists) = l ++ joined lists

-- the list with f of the element at a place, where there is one
abbrev pub changed_at : {A : Type 0} → (A → A) → List A → ℕ → List A
changed_at f [] i = []
changed_at f (x ∷ xs) zero = f x ∷ xs
changed_at f (x ∷ xs) (suc i) = x ∷ changed_at f xs i
