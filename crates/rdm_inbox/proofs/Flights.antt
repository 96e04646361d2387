-- What is in flight to a port, sender by sender and as one list.
use Rattle.std.proofs.Common.{◌≡◌, ℕ, zero, suc, ◌+◌, ◌<◌, List, [], ◌∷◌, ◌++◌, length, drop, sym, refl, ap, ◌∙◌, subst, arith, append_assoc, add-zero}
use Rattle.std.specs.Prelude.{IsPermutation}
use Rattle.std.proofs.lemmas.List.Sorted.{IsPermutation-refl, IsPermutation-sym, IsPermutation-trans, IsPermutation-append_right, IsPermutation-middle, IsPermutation-to_front, length_permutation}
use Rattle.std.proofs.Math.Seq.{drop-append_seam}
use mathlib.Core.Logic.{dite}
use native.Mathlib.Decide.{ℕ_discrete}
use Rattle.rdm_wire.specs.declared.Datagram.{Datagram}
use Rattle.rdm_inbox.specs.Senders.{from_port, AreFor, list_at, joined, changed_at}
use Rattle.rdm_inbox.specs.Letters.{left_of}
use Rattle.rdm_inbox.proofs.Places.{from_own, from_other, from_port-append, length-changed_at, changed_at-here, changed_at-else}

-- of lists that are all empty there is nothing
joined-empty : (ks : List (List Datagram)) → ((p : ℕ) → p < length ks → [] ≡ list_at ks p) → joined ks ≡ []
joined-empty [] h = refl
joined-empty (l ∷ ks) h = ap (λ m. m ++ joined ks) (sym (h 0 (omega arith))) ∙ joined-empty ks (λ p lt. h (suc p) (omega arith))

-- one datagram less, where it was the first of its sender's
pub joined-out : (ks : List (List Datagram)) (i : ℕ) (d : Datagram) (rest : List Datagram) → i < length ks → list_at ks i ≡ d ∷ rest → IsPermutation (joined ks) (d ∷ joined (changed_at (drop 1) ks i))
joined-out [] i d rest lt e = absurd (omega arith)
joined-out (l ∷ ks) zero d rest lt e = subst (λ m. IsPermutation (m ++ joined ks) (d ∷ (drop 1 m ++ joined ks))) (sym e) (IsPermutation-refl (d ∷ (rest ++ joined ks)))
joined-out (l ∷ ks) (suc i) d rest lt e =
    let less = joined (changed_at (drop 1) ks i) in
    IsPermutation-trans (l ++ joined ks) (l ++ d ∷ less) (d ∷ (l ++ less)) (IsPermutation-append_right l (joined ks) (d ∷ less) (joined-out ks i d rest (omega arith) e)) (IsPermutation-middle l d less)

-- one datagram more, at the end of its sender's
pub joined-in : (ks : List (List Datagram)) (i : ℕ) (d : Datagram) → i < length ks → IsPermutation (joined (changed_at (λ ds. ds ++ d ∷ []) ks i)) (joined ks ++ d ∷ [])
joined-in [] i d lt = absurd (omega arith)
joined-in (l ∷ ks) zero d lt =
    subst (λ m. IsPermutation m ((l ++ joined ks) ++ d ∷ [])) (sym (append_assoc l (d ∷ []) (joined ks)))
    (IsPermutation-trans (l ++ d ∷ joined ks) (d ∷ (l ++ joined ks)) ((l ++ joined ks) ++ d ∷ []) (IsPermutation-middle l d (joined ks))
    (IsPermutation-sym ((l ++ joined ks) ++ d ∷ []) (d ∷ (l ++ joined ks)) (IsPermutation-to_front (l ++ joined ks) d)))
joined-in (l ∷ ks) (suc i) d lt =
    subst (IsPermutation (l ++ joined (changed_at (λ ds. ds ++ d ∷ []) ks i))) (sym (append_assoc l (joined ks) (d ∷ [])))
    (IsPermutation-append_right l (joined (changed_at (λ ds. ds ++ d ∷ []) ks i)) (joined ks ++ d ∷ []) (joined-in ks i d (omega arith)))

length-out : (ks : List (List Datagram)) (i : ℕ) (d : Datagram) (rest : List Datagram) → i < length ks → list_at ks i ≡ d ∷ rest → length (joined ks) ≡ suc (length (joined (changed_at (drop 1) ks i)))
length-out ks i d rest lt e = sym (length_permutation (joined ks) (d ∷ joined (changed_at (drop 1) ks i)) (joined-out ks i d rest lt e))

-- as many datagrams as the senders' lists have together
pub length-joined : (port ports : ℕ) (items : List Datagram) (ks : List (List Datagram)) → AreFor port ports items → length ks ≡ ports → ((p : ℕ) → p < ports → from_port p items ≡ list_at ks p) → length (joined ks) ≡ length items
length-joined port ports [] ks a long h = ap (λ l. length l) (joined-empty ks (λ p lt. h p (omega arith)))
length-joined port ports (d ∷ items) ks a long h =
    let i = d.src.0 in let low = a.0.1 in let own : list_at ks i ≡ d ∷ from_port i items = sym (h i low) ∙ from_own i d items refl in let less = changed_at (drop 1) ks i in let same = length-changed_at (drop {A = Datagram} 1) ks i in
    length-out ks i d (from_port i items) (omega arith) own ∙ ap suc (length-joined port ports items less a.1 (same ∙ long) (λ p lt. dite (ℕ_discrete i p)
    (λ e. subst (λ q. from_port q items ≡ list_at less q) e (sym (changed_at-here (drop 1) ks i [] (omega arith) ∙ ap (drop 1) own)))
    (λ ne. sym (from_other p d items ne) ∙ (h p lt ∙ sym (changed_at-else (drop 1) ks i p [] (λ e. ne (sym e)))))))

pub length-left_of : (taken : List Datagram) (sent : List (List Datagram)) (q : ℕ) → length (left_of taken sent q) ≡ length sent
length-left_of taken [] q = refl
length-left_of taken (ds ∷ sent) q = ap suc (length-left_of taken sent (q + 1))

pub list_at-left_of : (taken : List Datagram) (sent : List (List Datagram)) (q p : ℕ) → p < length sent → list_at (left_of taken sent q) p ≡ drop (length (from_port (q + p) taken)) (list_at sent p)
list_at-left_of taken [] q p lt = absurd (omega arith)
list_at-left_of taken (ds ∷ sent) q zero lt = ap (λ n. drop (length (from_port n taken)) ds) (sym (add-zero q))
list_at-left_of taken (ds ∷ sent) q (suc p) lt = list_at-left_of taken sent (q + 1) p (omega arith) ∙ ap (λ n. drop (length (from_port n taken)) (list_at sent p)) (let e : q + 1 + p ≡ q + suc p = omega arith in e)

-- what a sender sent, without what was taken of it
pub drop_front : (p : ℕ) (taken items : List Datagram) → drop (length (from_port p taken)) (from_port p (taken ++ items)) ≡ from_port p items
drop_front p taken items = ap (drop (length (from_port p taken))) (from_port-append p taken items) ∙ drop-append_seam (from_port p taken) (from_port p items)
