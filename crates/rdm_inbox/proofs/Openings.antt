-- New inboxes, one after another.
use Rattle.std.proofs.Common.{◌≡◌, ℕ, zero, suc, ◌+◌, ◌<◌, List, [], ◌∷◌, ◌++◌, length, map, replicate, sum_by, sym, refl, ap, ap₂, ◌∙◌, subst, arith, length-append, inl, inr, ◌⊎◌, Some}
use Rattle.std.specs.Prelude.{slice_get}
use Rattle.std.proofs.lemmas.List.Sums.{sum_by-cons}
use Rattle.rdm_inbox.specs.Letters.{new_reader}
use Rattle.rdm_inbox.specs.Passes.{InboxState, SendState, ReadState}
use Rattle.rdm_inbox.specs.Queues.{PassesState, AreGathered, HaveSize, AreNew, seen_by, known_to, empties_of}
use Rattle.rdm_inbox.proofs.Passing.{slice_get-low, some_at}
use Rattle.rdm_inbox.proofs.Places.{length-replicate}

-- the passes and the queue of a port where nothing was sent
pub record IsFresh (ports size port : ℕ) (inbox : InboxState) (v : PassesState) : Type 0 where
  pub own : v.port ≡ port
  pub named : inbox ≡ record { table = v.reader.table; size = size }
  pub fresh : v.reader.post ≡ new_reader port ports size

-- those of the first ports
pub record AreFresh (ports size count : ℕ) (inboxes : List InboxState) (all : List PassesState) : Type 0 where
  pub each : (i : ℕ) (inbox : InboxState) (v : PassesState) → slice_get inboxes i ≡ Some inbox → slice_get all i ≡ Some v → IsFresh ports size i inbox v
  pub inboxes_count : length inboxes ≡ count
  pub all_count : length all ≡ count

-- the last element, and those before it
pub last_or_before : {A : Type 0} (xs : List A) (a b : A) (i : ℕ) → slice_get (xs ++ a ∷ []) i ≡ Some b → ((i < length xs) × (slice_get xs i ≡ Some b)) ⊎ ((i ≡ length xs) × (a ≡ b))
last_or_before [] a b zero e = inr (refl, cc)
last_or_before [] a b (suc i) e = absurd (cc)
last_or_before (x ∷ xs) a b zero e = inl (omega arith, e)
last_or_before (x ∷ xs) a b (suc i) e = elim (last_or_before xs a b i e) [ inl t ↦ inl (let lt = t.0 in omega arith, t.1) | inr t ↦ inr (ap suc t.0, t.1) ]

pub one_more_fresh : (ports size count : ℕ) (inboxes : List InboxState) (all : List PassesState) (inbox : InboxState) (v : PassesState) → AreFresh ports size count inboxes all → IsFresh ports size count inbox v
    → AreFresh ports size (count + 1) (inboxes ++ inbox ∷ []) (all ++ v ∷ [])
one_more_fresh ports size count inboxes all inbox v before last = record {
  each = λ i b u e f. elim (last_or_before inboxes inbox b i e) [
    | inl x ↦ elim (last_or_before all v u i f) [
      | inl y ↦ before.each i b u x.1 y.1
      | inr y ↦ absurd (let a = before.inboxes_count in let c = before.all_count in let lt = x.0 in let at = y.0 in omega arith)
    ]
    | inr x ↦ elim (last_or_before all v u i f) [
      | inl y ↦ absurd (let a = before.inboxes_count in let c = before.all_count in let at = x.0 in let lt = y.0 in omega arith)
      | inr y ↦ let at : count ≡ i = sym (x.0 ∙ before.inboxes_count) in subst (λ j. IsFresh ports size j b u) at (subst (λ c. IsFresh ports size count c u) x.1 (subst (λ w. IsFresh ports size count inbox w) y.1 last))
    ]
  ];
  inboxes_count = let a = before.inboxes_count in omega (arith, length-append inboxes (inbox ∷ []));
  all_count = let a = before.all_count in omega (arith, length-append all (v ∷ []));
}

pub have_size : (ports size count : ℕ) (inboxes : List InboxState) (all : List PassesState) → AreFresh ports size count inboxes all → HaveSize size inboxes
have_size ports size count inboxes all o p t at =
    let low = slice_get-low inboxes p t at in let a = o.inboxes_count in let b = o.all_count in let v = some_at all p (omega arith) in
    ap (λ (i : InboxState). i.size) (o.each p t v.0 at v.1).named

pub are_gathered : (ports size : ℕ) (inboxes : List InboxState) (all : List PassesState) → AreFresh ports size ports inboxes all → AreGathered inboxes all
are_gathered ports size inboxes all o = record {
  each = λ i v at. let low = slice_get-low all i v at in let a = o.inboxes_count in let b = o.all_count in let inbox = some_at inboxes i (omega arith) in let is = o.each i inbox.0 v inbox.1 at in
      let new : v.reader.post ≡ new_reader i ports size = is.fresh in record {
        own = is.own;
        reader = record {
          named = inbox.1 ∙ ap (λ (t : InboxState). Some t) (is.named ∙ ap (λ (n : ℕ). record { table = v.reader.table; size = n }) (sym (ap (λ r. r.size) new)));
          own = ap (λ r. r.port) new;
          ports = ap (λ r. r.ports) new ∙ sym a;
        };
        whole = (ap (λ r. length r.known) new ∙ (length-replicate ports [] ∙ sym (ap (λ r. r.ports) new)), ap (λ r. r.taken) new);
      };
  count = o.all_count ∙ sym o.inboxes_count;
}

all_alike : {A B : Type 0} (g : A → B) (k : B) (xs : List A) → ((i : ℕ) (x : A) → slice_get xs i ≡ Some x → g x ≡ k) → map g xs ≡ replicate (length xs) k
all_alike g k [] h = refl
all_alike g k (x ∷ xs) h = ap₂ (λ a b. a ∷ b) (h 0 x refl) (all_alike g k xs (λ i y e. h (suc i) y e))

all_zero : {A : Type 0} (g : A → ℕ) (xs : List A) → ((i : ℕ) (x : A) → slice_get xs i ≡ Some x → g x ≡ 0) → sum_by g xs ≡ 0
all_zero g [] h = refl
all_zero g (x ∷ xs) h = omega (arith, sum_by-cons g x xs, h 0 x refl, all_zero g xs (λ i y e. h (suc i) y e))

pub are_new : (ports size : ℕ) (inboxes : List InboxState) (all : List PassesState) → AreFresh ports size ports inboxes all → AreNew ports size (seen_by (record { tables = inboxes; size = size }) all)
are_new ports size inboxes all o =
    let new : (i : ℕ) (v : PassesState) → slice_get all i ≡ Some v → v.reader.post ≡ new_reader i ports size =
    λ i v at. let low = slice_get-low all i v at in let a = o.inboxes_count in let b = o.all_count in let inbox = some_at inboxes i (omega arith) in (o.each i inbox.0 v inbox.1 at).fresh in record {
      count = o.inboxes_count;
      places = refl;
      nothing = all_alike known_to (replicate ports []) all (λ i v at. ap (λ r. r.known) (new i v at)) ∙ ap (λ n. replicate n (replicate ports [])) o.all_count;
      no_fulls = all_zero (λ v. v.reader.post.fulls) all (λ i v at. ap (λ r. r.fulls) (new i v at));
      no_empties = all_zero empties_of all (λ i v at. ap (λ r. r.empties) (new i v at));
    }

-- the passes and the queue that were just made
pub just_fresh : (ports size port : ℕ) (inbox : InboxState) (reader : ReadState) (senders : List SendState) (v : PassesState) → inbox.size ≡ size → reader ≡ record { table = inbox.table; post = new_reader port ports size }
    → v ≡ record { port = port; senders = senders; reader = reader } → IsFresh ports size port inbox v
just_fresh ports size port inbox reader senders v places is made = record {
  own = ap (λ u. u.port) made;
  named = (λ i. record { table = sym (ap (λ u. u.reader.table) made ∙ ap (λ r. r.table) is) i; size = places i });
  fresh = ap (λ u. u.reader.post) made ∙ ap (λ r. r.post) is;
}
