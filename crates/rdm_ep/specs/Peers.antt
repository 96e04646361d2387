-- What is known of lives.
use Rattle.std.specs.Prelude.{◌≡◌, ℕ, ◌+◌, ◌<◌, true, false, if◌then◌else◌, List, [], ◌∷◌, ◌++◌, length, slice_get, slice_set, Option, Some, None}
use Rattle.rdm_num.specs.Lives.{same_life}
use Rattle.rdm_num.specs.declared.numbers.Life.{Life}
use Rattle.rdm_ep.specs.declared.state.Peer.{Peer}

-- a life of which nothing is known
abbrev pub new_peer : Life → Peer
new_peer life = record { life = life; greeted = false; known = None; sent = 0; entered = 0 }

-- what is known of a life
unfoldable pub peer_in : List Peer → Life → Peer
peer_in [] life = new_peer life
peer_in (p ∷ ps) life = if same_life p.life life then p else peer_in ps life

-- what is known of the lives after that of one life changed
unfoldable pub with_peer : (Peer → Peer) → Life → List Peer → List Peer
with_peer f life [] = f (new_peer life) ∷ []
with_peer f life (p ∷ ps) = if same_life p.life life then f p ∷ ps else p ∷ with_peer f life ps

-- a datagram of the life was taken
abbrev pub greeted_peer : Peer → Peer
greeted_peer p = record p { greeted = true }

-- its features were told
abbrev pub known_peer : Option ℕ → Peer → Peer
known_peer word p = record p { known = word }

-- one more message was sent to it
abbrev pub sent_peer : Peer → Peer
sent_peer p = record p { sent = p.sent + 1 }

-- so many more of its messages have entered
abbrev pub entered_peer : ℕ → Peer → Peer
entered_peer count p = record p { entered = p.entered + count }

-- what is known of the lives after this was written of one
unfoldable pub put_peer : Life → Peer → List Peer → List Peer
put_peer life q [] = q ∷ []
put_peer life q (p ∷ ps) = if same_life p.life life then q ∷ ps else p ∷ put_peer life q ps

-- what the lists say of a life whose first peer stands at that place
pub record IsPeerAt (life : Life) (ps : List Peer) (at : ℕ) : Type 0 where
  pub within : at < length ps
  pub known : slice_get ps at ≡ Some (peer_in ps life)
  pub written : (q : Peer) → put_peer life q ps ≡ slice_set ps at q

-- where no peer of the life stands, nothing is known of it
pub record IsNoPeer (life : Life) (ps : List Peer) : Type 0 where
  pub known : peer_in ps life ≡ new_peer life
  pub written : (q : Peer) → put_peer life q ps ≡ ps ++ q ∷ []

-- the place of the first peer of a life, if there is one
abbrev pub IsPeerPlace : Life → List Peer → Option ℕ → Type 0
IsPeerPlace life ps None = IsNoPeer life ps
IsPeerPlace life ps (Some at) = IsPeerAt life ps at
