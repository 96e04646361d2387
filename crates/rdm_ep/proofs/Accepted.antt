-- Accepted receives have numbers of their own, and the matcher sees them as they are kept.
use Rattle.std.proofs.Common.{◌≡◌, ℕ, ◌<◌, List, [], ◌∷◌, ◌++◌, length, refl, arith, inl, inr, sym, subst}
use Rattle.std.proofs.lemmas.List.{length-append, append-nil}
use Rattle.rdm_lists.specs.Lists.{Member}
use Rattle.rdm_model.specs.declared.job.Instr.TheVariants.{Recv}
use Rattle.rdm_model.specs.Deeds.{Deed, Did}
use Rattle.rdm_model.specs.Matches.{Receive, receive, receives, received_by, with_received}
use Rattle.rdm_ep.specs.Receiving.{posted_recv}
use Rattle.rdm_ep.specs.Keeps.{posted_of}
use Rattle.rdm_ep.proofs.Apart.{ApartBy, apart_push}
use Rattle.rdm_lists.proofs.Members.{member-append_cases}

-- the number of a receive
abbrev pub number_of : Receive → ℕ
number_of r = r.number

-- a receive of a life: it has a number below the count, and the matcher sees it as it is kept
abbrev pub IsNumbered : ℕ → Receive → Type 0
IsNumbered count r = (r.number < count) × (posted_recv (posted_of r) ≡ r.posted)

-- a receive that a deed accepts has the count before as its number
received_numbered : (rs : List Receive) (before : List Deed) (d : Deed) (r : Receive) → Member r (received_by rs before d)
    → (r.number ≡ length rs) × IsNumbered (length (rs ++ received_by rs before d)) r
unfolding received_by
received_numbered rs before (Did (Recv req)) r (inl is) =
    subst (λ (x : Receive). (x.number ≡ length rs) × IsNumbered (length (rs ++ receive (length rs) before req ∷ [])) x) is
    (refl, (omega (arith, length-append rs (receive (length rs) before req ∷ [])), refl))
received_numbered rs before (Did (Recv req)) r (inr never) = elim never [ ]
received_numbered rs before _ r m = elim m [ ]

-- each accepted receive is numbered
pub receive_numbered_so : (log : List Deed) (r : Receive) → Member r (receives log) → IsNumbered (length (receives log)) r
unfolding receives with_received
receive_numbered_so [] r m = elim m [ ]
receive_numbered_so (d ∷ before) r m =
    elim (member-append_cases r (receives before) (received_by (receives before) before d) m) [
      | inl k ↦
          let e = receive_numbered_so before r k in
          let l = length-append (receives before) (received_by (receives before) before d) in
          (let f = e.0 in omega arith, e.1)
      | inr k ↦ (received_numbered (receives before) before d r k).1
    ]

-- a receive that a deed accepts has a number of its own
received_apart : (rs : List Receive) (before : List Deed) (d : Deed) → ApartBy number_of rs → ((r : Receive) → Member r rs → r.number < length rs)
    → ApartBy number_of (rs ++ received_by rs before d)
unfolding received_by
received_apart rs before (Did (Recv req)) a h =
    apart_push number_of rs (receive (length rs) before req) a (λ y m e. let f = h y m in absurd (omega arith))
received_apart rs before _ a h = subst (ApartBy number_of) (sym (append-nil rs)) a

-- receives have numbers of their own
pub receives_apart : (log : List Deed) → ApartBy number_of (receives log)
unfolding receives with_received
receives_apart [] = tt
receives_apart (d ∷ before) = received_apart (receives before) before d (receives_apart before) (λ r m. (receive_numbered_so before r m).0)
