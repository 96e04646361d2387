-- What is in flight in a wire.
use Rattle.std.specs.Prelude.{◌≡◌, ◌≢◌, ℕ, ◌<◌, ◌≤◌, Bool, true, false, List, [], ◌∷◌, ◌++◌, length, Option, Some, None, IfSome, IsPermutation}
use Rattle.rdm_wire.specs.declared.Datagram.{Datagram}

-- how many datagrams may be in flight to a port, and for each port those that are
pub record InFlight : Type 0 where
  pub size : ℕ
  pub queues : ℕ → List Datagram

-- the same datagrams; in the same order, where the order is told
abbrev pub IsAlike : (in_order : Bool) → List Datagram → List Datagram → Type 0
IsAlike true xs ys = xs ≡ ys
IsAlike false xs ys = IsPermutation xs ys

-- a push adds the datagram at the end of those to its port, and changes nothing else
pub record Pushes (in_order : Bool) (d : Datagram) (before after : InFlight) : Type 0 where
  pub added : IsAlike in_order (after.queues d.dst.0) (before.queues d.dst.0 ++ d ∷ [])
  pub others : (p : ℕ) → p ≢ d.dst.0 → after.queues p ≡ before.queues p
  pub size : after.size ≡ before.size

-- these datagrams were the first of those to the port, and are taken away; nothing else changes
pub record Fetches (in_order : Bool) (port : ℕ) (ds : List Datagram) (before after : InFlight) : Type 0 where
  pub taken : IsAlike in_order (before.queues port) (ds ++ after.queues port)
  pub others : (p : ℕ) → p ≢ port → after.queues p ≡ before.queues p
  pub size : after.size ≡ before.size

-- a wire that tells what is in flight tells it after a call too, and the two are so related
abbrev pub Moves : (InFlight → InFlight → Type 0) → (before after : Option InFlight) → Type 0
Moves R None None = Unit {0}
Moves R None (Some after) = ⊥
Moves R (Some before) None = ⊥
Moves R (Some before) (Some after) = R before after

-- as many datagrams as may be are in flight to the port, as far as the wire tells
abbrev pub IsFullAt : (port : ℕ) → Option InFlight → Type 0
IsFullAt port held = IfSome held (λ f. length (f.queues port) ≡ f.size)

-- fewer are
abbrev pub HasRoomAt : (port : ℕ) → Option InFlight → Type 0
HasRoomAt port held = IfSome held (λ f. length (f.queues port) < f.size)

-- none is
abbrev pub IsEmptyAt : (port : ℕ) → Option InFlight → Type 0
IsEmptyAt port held = IfSome held (λ f. f.queues port ≡ [])

-- at least one datagram may be in flight to a port
abbrev pub HasSize : Option InFlight → Type 0
HasSize held = IfSome held (λ f. 1 ≤ f.size)

-- nothing is in flight beyond the ports
abbrev pub IsWithin : (ports : ℕ) → Option InFlight → Type 0
IsWithin ports held = IfSome held (λ f. (p : ℕ) → ports ≤ p → f.queues p ≡ [])
