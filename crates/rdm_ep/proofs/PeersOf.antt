-- What is known of lives after that of one of them changed.
use Rattle.std.proofs.Common.{◌≡◌, Bool, true, false, cond, List, [], ◌∷◌, refl, ap, ◌∙◌, sym}
use Rattle.std.proofs.lemmas.Bool.{false_from_ne_true}
use Rattle.rdm_num.specs.Lives.{same_life}
use Rattle.rdm_num.specs.declared.numbers.Life.{Life}
use Rattle.rdm_ep.specs.declared.state.Peer.{Peer}
use Rattle.rdm_ep.specs.Peers.{new_peer, peer_in, with_peer}
use Rattle.rdm_num.proofs.Lives.{same_life-true, same_life-refl}

-- the change is of a life's own
abbrev pub KeepsLife : (Peer → Peer) → Type 0
KeepsLife f = (p : Peer) → (f p).life ≡ p.life

-- a change of the first one
first_changed : (b : Bool) (x y z : Peer) → cond b x z ≡ cond b x (cond b y z)
first_changed true x y z = refl
first_changed false x y z = refl

-- what is of another life is not of this one
other_life_is : (p life other : Life) → same_life p life ≡ false → same_life p other ≡ true → same_life life other ≡ false
other_life_is p life other n s =
    false_from_ne_true (same_life life other) (λ t.
    let e : p ≡ other = same_life-true p other s in
    let f : life ≡ other = same_life-true life other t in
    let g : p ≡ life = e ∙ sym f in
    let r : same_life p life ≡ true = rw g (same_life-refl life) in
    cc)

-- a change of a later one
later_changed : (a b : Bool) (p x y : Peer) → (a ≡ true → b ≡ false) → cond a p (cond b x y) ≡ cond b x (cond a p y)
later_changed true b p x y h = let e = h refl in rw e refl
later_changed false b p x y h = refl

-- what is known of a life after a change of another one's or of its own
pub peer_with : (f : Peer → Peer) (life : Life) (ps : List Peer) (other : Life) → KeepsLife f
    → peer_in (with_peer f life ps) other ≡ cond (same_life life other) (f (peer_in ps life)) (peer_in ps other)
unfolding peer_in with_peer
peer_with f life [] other keeps =
    ap (λ (l : Life). cond (same_life l other) (f (new_peer life)) (new_peer other)) (keeps (new_peer life))
peer_with f life (p ∷ ps) other keeps =
    (elim (same_life p.life life) as (λ b. same_life p.life life ≡ b →
    peer_in (cond b (f p ∷ ps) (p ∷ with_peer f life ps)) other ≡ cond (same_life life other) (f (cond b p (peer_in ps life))) (cond (same_life p.life other) p (peer_in ps other))) [
      | true ↦ λ s.
          let e : p.life ≡ life = same_life-true p.life life s in
          ap (λ (l : Life). cond (same_life l other) (f p) (peer_in ps other)) (keeps p ∙ e)
          ∙ first_changed (same_life life other) (f p) p (peer_in ps other)
          ∙ ap (λ (l : Life). cond (same_life life other) (f p) (cond (same_life l other) p (peer_in ps other))) (sym e)
      | false ↦ λ s.
          ap (λ (q : Peer). cond (same_life p.life other) p q) (peer_with f life ps other keeps)
          ∙ later_changed (same_life p.life other) (same_life life other) p (f (peer_in ps life)) (peer_in ps other) (other_life_is p.life life other s)
    ]) refl

-- a value of a peer that the change leaves is the same for each life
pub peer_kept : {A : Type 0} (g : Peer → A) (f : Peer → Peer) (life : Life) (ps : List Peer) (other : Life) → KeepsLife f → ((p : Peer) → g (f p) ≡ g p)
    → g (peer_in (with_peer f life ps) other) ≡ g (peer_in ps other)
peer_kept g f life ps other keeps same =
    ap g (peer_with f life ps other keeps)
    ∙ (elim (same_life life other) as (λ b. same_life life other ≡ b → g (cond b (f (peer_in ps life)) (peer_in ps other)) ≡ g (peer_in ps other)) [
      | true ↦ λ s. same (peer_in ps life) ∙ ap (λ (l : Life). g (peer_in ps l)) (same_life-true life other s)
      | false ↦ λ s. refl
    ]) refl

-- a value of a peer that the change makes
pub peer_changed : {A : Type 0} (g : Peer → A) (f : Peer → Peer) (life : Life) (ps : List Peer) (other : Life) → KeepsLife f
    → g (peer_in (with_peer f life ps) other) ≡ cond (same_life life other) (g (f (peer_in ps life))) (g (peer_in ps other))
peer_changed g f life ps other keeps =
    ap g (peer_with f life ps other keeps)
    ∙ elim (same_life life other) as (λ b. g (cond b (f (peer_in ps life)) (peer_in ps other)) ≡ cond b (g (f (peer_in ps life))) (g (peer_in ps other))) [
      | true ↦ refl
      | false ↦ refl
    ]
