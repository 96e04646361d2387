-- What went through a wire.
use Rattle.std.specs.Prelude.{ℕ, ◌==◌, if◌then◌else◌, List, [], ◌∷◌, ◌++◌}
use Rattle.rdm_wire.specs.declared.Datagram.{Datagram}

-- for each port the datagrams that were pushed through a wire to it, and those that were fetched through it at it, in order
pub record Account : Type 0 where
  pub pushed : ℕ → List Datagram
  pub fetched : ℕ → List Datagram

-- the lists, with these datagrams at the end of a port's
unfoldable pub added_at : (port : ℕ) → List Datagram → (ℕ → List Datagram) → ℕ → List Datagram
added_at port ds lists p = if p == port then lists p ++ ds else lists p

-- the account after a push
abbrev pub after_push : Datagram → Account → Account
after_push d a = record a { pushed = added_at d.dst.0 (d ∷ []) a.pushed }

-- the account after these datagrams were fetched at a port
abbrev pub after_fetches : (port : ℕ) → List Datagram → Account → Account
after_fetches port ds a = record a { fetched = added_at port ds a.fetched }
