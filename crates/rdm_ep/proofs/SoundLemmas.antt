-- What is true of each endpoint stays true.
use Rattle.std.proofs.Common.{◌≡◌, Bool, ℕ, ◌+◌, ◌<◌, List, [], ◌∷◌, ◌++◌, map, length, get_or, refl, arith, inl, inr, sym, ◌∙◌, ap, subst}
use Rattle.std.specs.Prelude.{IsTrue, remove}
use Rattle.std.proofs.Math.ListN.{get_or-append, length-append}
use Rattle.std.proofs.lemmas.List.{map-append}
use Rattle.std.proofs.lemmas.List.Edits.{length-remove}
use Rattle.rdm_lists.specs.Lists.{Member, without_first}
use Rattle.rdm_num.specs.declared.completion.Completion.{Completion}
use Rattle.rdm_pkt.specs.Grammar.{packet_fits}
use Rattle.rdm_ep.specs.declared.state.Posted.{Posted}
use Rattle.rdm_ep.specs.declared.state.Outbound.{Outbound}
use Rattle.rdm_ep.specs.Counts.{CountsFit, RangesFit, IsInRange, PacketsFit}
use Rattle.rdm_lists.proofs.Members.{member-append_cases, without_member}

-- receives lie in their regions after one more was registered
pub ranges_more : {A : Type 0} (f : A → List ℕ) (xs ys : List A) (y : A) (posted : List Posted) → ys ≡ xs ++ y ∷ [] → RangesFit (map f xs) posted → RangesFit (map f ys) posted
ranges_more f xs ys y posted e h p m =
    let e' : map f ys ≡ map f xs ++ f y ∷ [] = rw e (map-append f xs (y ∷ [])) in
    let a = (h p m).0 in
    let b = (h p m).1 in
    let len = length-append (map f xs) (f y ∷ []) in
    let same : get_or (map f ys) p.req.region.0 [] ≡ get_or (map f xs) p.req.region.0 [] = rw e' (get_or-append (map f xs) (f y ∷ []) [] p.req.region.0 a) in
    ((rw e' (omega arith)), rw same b)

-- receives lie in their regions with one more that does
pub ranges_posted : (rs : List (List ℕ)) (posted others : List Posted) (p : Posted) → others ≡ posted ++ p ∷ [] → RangesFit rs posted → IsInRange rs p → RangesFit rs others
ranges_posted rs posted others p e h f q m =
    elim (member-append_cases q posted (p ∷ []) (subst (λ (ps : List Posted). Member q ps) e m)) [
      | inl m' ↦ h q m'
      | inr m' ↦ elim m' [ inl is ↦ subst (λ (r : Posted). IsInRange rs r) is f | inr none ↦ elim none [ ] ]
    ]

-- packets fit with one more that does
pub packets_more : (os ps : List Outbound) (o : Outbound) → ps ≡ os ++ o ∷ [] → PacketsFit os → IsTrue (packet_fits o.packet) → PacketsFit ps
packets_more os ps o e h f q m =
    elim (member-append_cases q os (o ∷ []) (subst (λ (xs : List Outbound). Member q xs) e m)) [
      | inl m' ↦ h q m'
      | inr m' ↦ elim m' [ inl is ↦ subst (λ (x : Outbound). IsTrue (packet_fits x.packet)) is f | inr none ↦ elim none [ ] ]
    ]

-- the first packet fits
pub first_fits : (o : Outbound) (os ps : List Outbound) → ps ≡ o ∷ os → PacketsFit ps → IsTrue (packet_fits o.packet)
first_fits o os ps e h = h o (subst (λ (xs : List Outbound). Member o xs) (sym e) (inl refl))

-- the counts add up after one more send
pub counts_sent : (cq capacity sends receives polled : ℕ) (posted : List Posted) (os ps : List Outbound) (o : Outbound) (completions : List Completion)
    → ps ≡ os ++ o ∷ [] → sends + receives < cq + polled → sends < 4294967295 → CountsFit cq capacity sends receives polled posted os completions
    → CountsFit cq capacity (sends + 1) receives polled posted ps completions
counts_sent cq capacity sends receives polled posted os ps o completions e room few i =
    let len : length ps ≡ length os + 1 = ap length e ∙ length-append os (o ∷ []) in
    let a = i.adds_up in
    let b = i.within in
    let d = i.few_sends in
    record { adds_up = omega arith; within = omega arith; room = i.room; few_sends = omega arith; few_receives = i.few_receives }

-- the counts add up after one more receive that waits
pub counts_posted : (cq capacity sends receives polled : ℕ) (posted others : List Posted) (p : Posted) (os : List Outbound) (completions : List Completion)
    → others ≡ posted ++ p ∷ [] → sends + receives < cq + polled → receives < 4294967295 → CountsFit cq capacity sends receives polled posted os completions
    → CountsFit cq capacity sends (receives + 1) polled others os completions
counts_posted cq capacity sends receives polled posted others p os completions e room few i =
    let len : length others ≡ length posted + 1 = ap length e ∙ length-append posted (p ∷ []) in
    let a = i.adds_up in
    let b = i.within in
    record { adds_up = omega arith; within = omega arith; room = i.room; few_sends = i.few_sends; few_receives = omega arith }

-- the counts add up after one more receive that completes at once
pub counts_received : (cq capacity sends receives polled : ℕ) (posted : List Posted) (os : List Outbound) (completions more : List Completion) (c : Completion)
    → more ≡ completions ++ c ∷ [] → sends + receives < cq + polled → receives < 4294967295 → CountsFit cq capacity sends receives polled posted os completions
    → CountsFit cq capacity sends (receives + 1) polled posted os more
counts_received cq capacity sends receives polled posted os completions more k e room few i =
    let len : length more ≡ length completions + 1 = ap length e ∙ length-append completions (k ∷ []) in
    let a = i.adds_up in
    let b = i.within in
    record { adds_up = omega arith; within = omega arith; room = i.room; few_sends = i.few_sends; few_receives = omega arith }

-- the counts add up after a receive that waits completes
pub counts_landed : (cq capacity sends receives polled : ℕ) (posted fewer : List Posted) (at : ℕ) (os : List Outbound) (completions more : List Completion) (c : Completion)
    → fewer ≡ remove posted at → at < length posted → more ≡ completions ++ c ∷ [] → CountsFit cq capacity sends receives polled posted os completions
    → CountsFit cq capacity sends receives polled fewer os more
counts_landed cq capacity sends receives polled posted fewer at os completions more k f h e i =
    let len : length more ≡ length completions + 1 = ap length e ∙ length-append completions (k ∷ []) in
    let less : length fewer + 1 ≡ length posted = ap (λ (ps : List Posted). length ps + 1) f ∙ length-remove posted at h in
    let a = i.adds_up in
    let b = i.within in
    record { adds_up = omega arith; within = omega arith; room = i.room; few_sends = i.few_sends; few_receives = i.few_receives }

-- receives lie in their regions without the first that passes a test
pub ranges_without : (t : Posted → Bool) (rs : List (List ℕ)) (posted : List Posted) → RangesFit rs posted → RangesFit rs (without_first t posted)
ranges_without t rs posted h p m = h p (without_member t p posted m)
