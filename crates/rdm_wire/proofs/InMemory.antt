-- What is in flight in a wire, by its queues, before and after one of them changed.
use Rattle.std.proofs.Common.{◌≡◌, ◌≢◌, ℕ, ◌<◌, true, List, [], ◌∷◌, ◌++◌, length, map, set, get_or, slice_index_or, Option, Some, None, MatchOption, IfSome, IfNone, ap, sym, refl, subst, ◌∙◌}
use Rattle.std.proofs.lemmas.List.{get_or-map, get_or-set_same, get_or-set_other, length-set, map-set, set-get_or}
use Rattle.rdm_wire.specs.declared.Datagram.{Datagram}
use Rattle.rdm_wire.specs.Accounts.{Account}
use Rattle.rdm_wire.specs.Flights.{InFlight, Pushes, Fetches}
use Rattle.rdm_wire.specs.Queues.{QueueState}

-- the datagrams of each queue
abbrev lists : List QueueState → List (List Datagram)
lists qs = map (λ (q : QueueState). q.list) qs

-- what is in flight
abbrev flight : ℕ → List QueueState → InFlight
flight size qs = record { size = size; queues = λ p. slice_index_or (lists qs) p [] }

-- the account of a wire that tells none
abbrev no_account : Option Account
no_account = None

-- the datagrams of a queue that was read
list_at : (qs : List QueueState) (p : ℕ) (was : QueueState) → p < length qs → was ≡ get_or qs p was → slice_index_or (lists qs) p [] ≡ was.list
list_at qs p was within is = get_or-map (λ (q : QueueState). q.list) qs p was [] within ∙ ap (λ (q : QueueState). q.list) (sym is)

-- the datagrams of a queue that was written
list_after : (qs : List QueueState) (p : ℕ) (now : QueueState) → p < length qs → slice_index_or (lists (set qs p now)) p [] ≡ now.list
list_after qs p now within =
    get_or-map (λ (q : QueueState). q.list) (set qs p now) p now [] (subst (λ n. p < n) (sym (length-set qs p now)) within) ∙ ap (λ (q : QueueState). q.list) (get_or-set_same qs p now now within)

-- the other queues' datagrams stay
others_after : (qs : List QueueState) (p : ℕ) (now : QueueState) (k : ℕ) → k ≢ p → slice_index_or (lists (set qs p now)) k [] ≡ slice_index_or (lists qs) k []
others_after qs p now k apart = ap (λ l. get_or l k []) (map-set (λ (q : QueueState). q.list) qs p now) ∙ get_or-set_other (lists qs) p k now.list [] apart

-- a datagram that is written at the end of its port's queue is pushed
pub pushed : (size : ℕ) (qs : List QueueState) (d : Datagram) (was now : QueueState) → d.dst.0 < length qs → was ≡ get_or qs d.dst.0 was
    → now.list ≡ was.list ++ d ∷ [] → Pushes true d (flight size qs) (flight size (set qs d.dst.0 now))
pushed size qs d was now within is e = record {
  added = list_after qs d.dst.0 now within ∙ e ∙ ap (λ l. l ++ d ∷ []) (sym (list_at qs d.dst.0 was within is));
  others = others_after qs d.dst.0 now;
  size = refl;
}

-- the first datagram of a queue is fetched
pub fetched : (size : ℕ) (qs : List QueueState) (p : ℕ) (was now : QueueState) (found : Option Datagram) → p < length qs → was ≡ get_or qs p was
    → MatchOption found ((was.list ≡ []) × (now ≡ was)) (λ d. was ≡ record now { list = d ∷ now.list })
    → IfSome found (λ d. Fetches true p (d ∷ []) (flight size qs) (flight size (set qs p now)))
fetched size qs p was now None within is h = tt
fetched size qs p was now (Some d) within is h = record {
  taken = list_at qs p was within is ∙ ap (λ (q : QueueState). q.list) h ∙ ap (λ l. d ∷ l) (sym (list_after qs p now within));
  others = others_after qs p now;
  size = refl;
}

-- where a queue had none, all is as it was
pub unfetched : (size : ℕ) (qs : List QueueState) (p : ℕ) (was now : QueueState) (found : Option Datagram) → was ≡ get_or qs p was
    → MatchOption found ((was.list ≡ []) × (now ≡ was)) (λ d. was ≡ record now { list = d ∷ now.list })
    → IfNone found ((no_account ≡ no_account) × (Some (flight size (set qs p now)) ≡ Some (flight size qs)))
unfetched size qs p was now None is h = (refl, ap (λ l. Some (flight size l)) (ap (set qs p) (h.1 ∙ is) ∙ set-get_or qs p was))
unfetched size qs p was now (Some d) is h = tt
