-- What is known of lives stands at the first place of each life.
use Rattle.std.proofs.Common.{◌≡◌, ℕ, suc, ◌+◌, Bool, true, false, List, [], ◌∷◌, Option, Some, None, refl, arith, sym, ◌∙◌, ap, subst}
use Rattle.std.specs.List.{position_from}
use Rattle.rdm_num.specs.Lives.{same_life}
use Rattle.rdm_num.specs.declared.numbers.Life.{Life}
use Rattle.rdm_ep.specs.declared.state.Peer.{Peer}
use Rattle.rdm_ep.specs.Peers.{new_peer, peer_in, with_peer, put_peer, IsPeerAt, IsNoPeer, IsPeerPlace}

-- the peer has that life
abbrev pub is_peer : Life → Peer → Bool
is_peer life p = same_life p.life life

-- the first peer of a life stands where the search finds it
peer_from : (life : Life) (start : ℕ) (ps : List Peer) (at : ℕ) → position_from (is_peer life) start ps ≡ Some at → (k : ℕ) × (at ≡ start + k) × IsPeerAt life ps k
unfolding peer_in put_peer
peer_from life start [] at h = absurd (cc)
peer_from life start (p ∷ ps) at h =
    elim (same_life p.life life) as (λ b. same_life p.life life ≡ b → (k : ℕ) × (at ≡ start + k) × IsPeerAt life (p ∷ ps) k) [
      | true ↦ λ is.
          let m : Some start ≡ Some at = rw is at h in
          let f : start ≡ at = cc in
          (0, omega arith, record { within = omega arith; known = rw is refl; written = λ q. rw is refl })
      | false ↦ λ is.
          let m : position_from (is_peer life) (start + 1) ps ≡ Some at = rw is at h in
          let r = peer_from life (start + 1) ps at m in
          let f = r.1 in
          let w = r.2.within in
          (suc r.0, omega arith, record { within = omega arith; known = rw is r.2.known; written = λ q. rw is (ap (λ qs. p ∷ qs) (r.2.written q)) })
    ] refl

-- of a life that is not found nothing is known
no_peer : (life : Life) (start : ℕ) (ps : List Peer) → position_from (is_peer life) start ps ≡ None → IsNoPeer life ps
unfolding peer_in put_peer
no_peer life start [] h = record { known = refl; written = λ q. refl }
no_peer life start (p ∷ ps) h =
    elim (same_life p.life life) as (λ b. same_life p.life life ≡ b → IsNoPeer life (p ∷ ps)) [
      | true ↦ λ is. let m : Some start ≡ None = rw is at h in absurd (cc)
      | false ↦ λ is.
          let m : position_from (is_peer life) (start + 1) ps ≡ None = rw is at h in
          let r = no_peer life (start + 1) ps m in
          record { known = rw is r.known; written = λ q. rw is (ap (λ qs. p ∷ qs) (r.written q)) }
    ] refl

-- the place that a search finds
pub peer_of_search : (life : Life) (ps : List Peer) (r : Option ℕ) → r ≡ position_from (is_peer life) 0 ps → IsPeerPlace life ps r
peer_of_search life ps None e = no_peer life 0 ps (sym e)
peer_of_search life ps (Some at) e =
    let m = peer_from life 0 ps at (sym e) in
    let f = m.1 in
    let g : m.0 ≡ at = omega arith in
    subst (λ (k : ℕ). IsPeerAt life ps k) g m.2

-- where no life is
peer_none : (life : Life) → peer_in [] life ≡ new_peer life
unfolding peer_in
peer_none life = refl

-- behind a peer of another life
peer_behind : (p : Peer) (life : Life) (ps : List Peer) → same_life p.life life ≡ false → peer_in (p ∷ ps) life ≡ peer_in ps life
unfolding peer_in
peer_behind p life ps is = rw is refl

-- the first peer of the life
peer_here : (p : Peer) (life : Life) (ps : List Peer) → same_life p.life life ≡ true → peer_in (p ∷ ps) life ≡ p
unfolding peer_in
peer_here p life ps is = rw is refl

-- to change what is known is to write it changed
pub with_peer_put : (f : Peer → Peer) (life : Life) (ps : List Peer) → with_peer f life ps ≡ put_peer life (f (peer_in ps life)) ps
unfolding put_peer with_peer
with_peer_put f life [] = ap (λ (q : Peer). f q ∷ []) (sym (peer_none life))
with_peer_put f life (p ∷ ps) =
    elim (same_life p.life life) as (λ b. same_life p.life life ≡ b → with_peer f life (p ∷ ps) ≡ put_peer life (f (peer_in (p ∷ ps) life)) (p ∷ ps)) [
      | true ↦ λ is.
          let e : with_peer f life (p ∷ ps) ≡ put_peer life (f p) (p ∷ ps) = rw is refl in
          e ∙ ap (λ (q : Peer). put_peer life (f q) (p ∷ ps)) (sym (peer_here p life ps is))
      | false ↦ λ is.
          let e : with_peer f life (p ∷ ps) ≡ put_peer life (f (peer_in ps life)) (p ∷ ps) = rw is (ap (λ qs. p ∷ qs) (with_peer_put f life ps)) in
          e ∙ ap (λ (q : Peer). put_peer life (f q) (p ∷ ps)) (sym (peer_behind p life ps is))
    ] refl
