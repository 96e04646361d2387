-- What a step of one pass makes of a port's passes.
use Rattle.std.proofs.Common.{◌≡◌, ℕ, zero, suc, ◌<◌, List, [], ◌∷◌, length, map, set, get_or, sym, refl, ap, ◌∙◌, subst, arith, Result, Ok, Err, MatchResult, Some}
use Rattle.std.specs.Prelude.{slice_get}
use Rattle.rdm_wire.specs.declared.Datagram.{Datagram}
use Rattle.rdm_inbox.specs.Senders.{changed_at}
use Rattle.rdm_inbox.specs.Letters.{with_sent, with_full}
use Rattle.rdm_inbox.specs.Passes.{InboxState, SendState, WasFull}
use Rattle.rdm_inbox.specs.Queues.{PassesState, names, after_sent, after_found_full, WasFullAt}

module _ {A : Type 0} where
  pub same_some : (x y : A) → Some x ≡ Some y → x ≡ y
  same_some x y e = cc

  pub slice_get-low : (xs : List A) (i : ℕ) (x : A) → slice_get xs i ≡ Some x → i < length xs
  slice_get-low [] i x e = absurd (cc)
  slice_get-low (y ∷ xs) zero x e = omega arith
  slice_get-low (y ∷ xs) (suc i) x e = let low = slice_get-low xs i x e in omega arith

  pub slice_get-or : (xs : List A) (i : ℕ) (x d : A) → slice_get xs i ≡ Some x → get_or xs i d ≡ x
  slice_get-or [] i x d e = absurd (cc)
  slice_get-or (y ∷ xs) zero x d e = cc
  slice_get-or (y ∷ xs) (suc i) x d e = slice_get-or xs i x d e

  pub slice_get-there : (xs : List A) (i : ℕ) (x : A) → i < length xs → x ≡ get_or xs i x → slice_get xs i ≡ Some x
  slice_get-there [] i x lt e = absurd (omega arith)
  slice_get-there (y ∷ xs) zero x lt e = ap (λ (z : A). Some z) (sym e)
  slice_get-there (y ∷ xs) (suc i) x lt e = slice_get-there xs i x (omega arith) e

  pub some_at : (xs : List A) (i : ℕ) → i < length xs → (x : A) × (slice_get xs i ≡ Some x)
  some_at [] i lt = absurd (omega arith)
  some_at (y ∷ xs) zero lt = (y, refl)
  some_at (y ∷ xs) (suc i) lt = some_at xs i (omega arith)

  pub slice_get-map : {B : Type 0} (g : A → B) (xs : List A) (i : ℕ) (x : A) → slice_get xs i ≡ Some x → slice_get (map g xs) i ≡ Some (g x)
  slice_get-map g [] i x e = absurd (cc)
  slice_get-map g (y ∷ xs) zero x e = ap (λ z. Some (g z)) (same_some y x e)
  slice_get-map g (y ∷ xs) (suc i) x e = slice_get-map g xs i x e

  -- to change an element is to write what it becomes
  pub changed_at-set : (f : A → A) (xs : List A) (i : ℕ) (x : A) → slice_get xs i ≡ Some x → set xs i (f x) ≡ changed_at f xs i
  changed_at-set f [] i x e = refl
  changed_at-set f (y ∷ xs) zero x e = ap (λ z. f z ∷ xs) (sym (same_some y x e))
  changed_at-set f (y ∷ xs) (suc i) x e = ap (λ zs. y ∷ zs) (changed_at-set f xs i x e)

-- the name of a queue
pub slice_get-name : (tables : List InboxState) (i : ℕ) (t : InboxState) → slice_get tables i ≡ Some t → slice_get (names tables) i ≡ Some t.table
slice_get-name tables i t e = slice_get-map (λ (x : InboxState). x.table) tables i t e

-- what a push by one of the port's passes makes of them
pub send_answer : (size : ℕ) (v : PassesState) (d : Datagram) (was now : SendState) (result : Result (Unit {0}) Datagram) → slice_get v.senders d.dst.0 ≡ Some was
    → MatchResult result (λ _. now ≡ record was { post = with_sent was.post d }) (λ back. (back ≡ d) × (now ≡ record was { post = with_full was.post }) × WasFull size was.post)
    → MatchResult result (λ _. record v { senders = set v.senders d.dst.0 now } ≡ after_sent v d)
    (λ back. (back ≡ d) × (record v { senders = set v.senders d.dst.0 now } ≡ after_found_full v d.dst.0) × WasFullAt size v d.dst.0)
send_answer size v d was now (Ok x) at told =
    ap (λ l. record v { senders = l }) (ap (set v.senders d.dst.0) told ∙ changed_at-set (λ (s : SendState). record s { post = with_sent s.post d }) v.senders d.dst.0 was at)
send_answer size v d was now (Err back) at told = (
  told.0,
  ap (λ l. record v { senders = l }) (ap (set v.senders d.dst.0) told.1 ∙ changed_at-set (λ (s : SendState). record s { post = with_full s.post }) v.senders d.dst.0 was at),
  (λ s is. subst (λ t. WasFull size t.post) (same_some was s (sym at ∙ is)) told.2),
)
