-- What fetches one after another put into a stash.
use Rattle.std.proofs.Common.{◌≡◌, ℕ, ◌+◌, ◌<◌, Bool, List, [], ◌∷◌, ◌++◌, length, Option, option_map, refl, arith, ap, sym, ◌∙◌, subst, inl, inr, append_assoc, length-append}
use Rattle.std.proofs.lemmas.List.{append-nil}
use Rattle.rdm_lists.specs.Lists.{Member}
use Rattle.rdm_lists.proofs.Members.{member-append_cases}
use Rattle.rdm_num.specs.declared.numbers.PortNo.{PortNo}
use Rattle.rdm_wire.specs.declared.Datagram.{Datagram}
use Rattle.rdm_wire.specs.Accounts.{Account, after_fetches}
use Rattle.rdm_wire.specs.Counts.{Rose}
use Rattle.rdm_wire.specs.Flights.{InFlight, Fetches, Moves, IsEmptyAt}
use Rattle.rdm_wire.specs.Queues.{IsFor}
use Rattle.rdm_wire.proofs.Several.{held-none, held-more, account-none, account-more}
use Rattle.rdm_port.specs.Handles.{Fetched}
use Rattle.rdm_port.specs.Movings.{FetchMoves}

-- so many datagrams were fetched and put at the end of the list
pub record HasFetched (in_order : Bool) (port n : ℕ) (got old new : List Datagram) (before after : Option InFlight) : Type 0 where
  pub list : new ≡ old ++ got
  pub moves : Moves (Fetches in_order port got) before after
  pub count : length got ≡ n

-- the wire tells them, and counted no empty inbox
pub record HasTold (ports port : ℕ) (got : List Datagram) (told now : Option Account) (counted count : ℕ) : Type 0 where
  pub account : now ≡ option_map (after_fetches port got) told
  pub came : (d : Datagram) → Member d got → IsFor port ports d
  pub counts : count ≡ counted

-- before the first fetch
pub fetched_none : (in_order : Bool) (port : ℕ) (old : List Datagram) (held : Option InFlight) → HasFetched in_order port 0 [] old old held held
fetched_none in_order port old held = record { list = rw append-nil refl; moves = held-none in_order port held; count = refl }

pub told_none : (ports port : ℕ) (told : Option Account) (counted : ℕ) → HasTold ports port [] told told counted counted
told_none ports port told counted = record { account = sym (account-none port told); came = λ d m. elim m [ ]; counts = refl }

-- one more
pub fetched_more : (in_order : Bool) (port n : ℕ) (got old mid new : List Datagram) (d : Datagram) (before between after : Option InFlight)
    → HasFetched in_order port n got old mid before between → new ≡ mid ++ d ∷ [] → Moves (Fetches in_order port (d ∷ [])) between after
    → HasFetched in_order port (n + 1) (got ++ d ∷ []) old new before after
fetched_more in_order port n got old mid new d before between after h e m = record {
  list = e ∙ ap (λ (l : List Datagram). l ++ d ∷ []) h.list ∙ append_assoc old got (d ∷ []);
  moves = held-more in_order port got (d ∷ []) before between after h.moves m;
  count = let l = length-append got (d ∷ []) in let c = h.count in omega arith;
}

pub told_more : (ports : ℕ) (port : PortNo) (got : List Datagram) (d : Datagram) (told between now : Option Account) (counted mid count : ℕ)
    → HasTold ports port.0 got told between counted mid → now ≡ option_map (after_fetches port.0 (d ∷ [])) between → (d.dst ≡ port) × (d.src.0 < ports) → count ≡ mid
    → HasTold ports port.0 (got ++ d ∷ []) told now counted count
told_more ports port got d told between now counted mid count h e c n = record {
  account = e ∙ ap (λ (a : Option Account). option_map (after_fetches port.0 (d ∷ [])) a) h.account ∙ account-more port.0 got (d ∷ []) told;
  came = λ q m. elim (member-append_cases q got (d ∷ []) m) [
    | inl k ↦ h.came q k
    | inr k ↦ elim k [ inl is ↦ subst (IsFor port.0 ports) is (ap (λ (p : PortNo). p.0) c.0, c.1) | inr never ↦ elim never [ ] ]
  ];
  counts = n ∙ h.counts;
}

-- what the fetches put into the stash, and what the wire tells of them
abbrev pub FetchedAs : (in_order : Bool) → (ports port inbox : ℕ) → (old new : List Datagram) → (before after : Option InFlight) → (told now : Option Account) → (counted count : ℕ)
    → Type 0
FetchedAs in_order ports port inbox old new before after told now counted count =
    (got : List Datagram) × (new ≡ old ++ got) × Fetched in_order port inbox got before after × FetchMoves ports port inbox got told now counted count

-- as many as the inbox holds
pub fetched_all : (in_order : Bool) (ports port n inbox : ℕ) (got old new : List Datagram) (before after : Option InFlight) (told now : Option Account) (counted count : ℕ)
    → HasFetched in_order port n got old new before after → HasTold ports port got told now counted count → n ≡ inbox
    → FetchedAs in_order ports port inbox old new before after told now counted count
fetched_all in_order ports port n inbox got old new before after told now counted count h t e =
    let c = h.count in (
      got,
      h.list,
      record { fetches = h.moves; at_most = omega arith; all = λ few. absurd (omega arith) },
      record { account = t.account; came = t.came; few = λ few. absurd (omega arith); all = λ all. t.counts },
    )

-- all, where no more came
pub fetched_empty : (in_order : Bool) (ports port n inbox : ℕ) (got old new : List Datagram) (before after : Option InFlight) (told now : Option Account) (counted mid count : ℕ)
    → HasFetched in_order port n got old new before after → HasTold ports port got told now counted mid → n < inbox → IsEmptyAt port after → Rose mid count
    → FetchedAs in_order ports port inbox old new before after told now counted count
fetched_empty in_order ports port n inbox got old new before after told now counted mid count h t e none rose =
    let c = h.count in
    let s = t.counts in (
      got,
      h.list,
      record { fetches = h.moves; at_most = omega arith; all = λ few. none },
      record { account = t.account; came = t.came; few = λ few. omega arith; all = λ all. absurd (omega arith) },
    )
