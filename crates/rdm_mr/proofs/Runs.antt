-- A run is its bytes, and is cut and glued as they are. Assumes `Logic`.
use Rattle.rdm_mr.proofs.Steps.{ℕ, ◌+◌, ◌≤◌, List, [], ◌∷◌, ◌++◌, length, take, refl, sym, drop_l, Ura, full_share, ent, sep, Val, vstruct, vnil, Logic, sem, ‵, ◌⊛◌, ◌$◌, ◌∵◌, !, qed, by, done, move, drop, use1, use2, split, fsplit, fjoin, feq_i, fpack, rewrite, Valss, Ptr, block_ptr, null_ptr, ◌+ₚ◌, nothing}
use Rattle.std.proofs.lemmas.List.{take-append-drop, length-take-le}
use denote.Laws.{Is, Tells}
use denote.RawPtr.Bytes.{bytes, bytes_cut, bytes_glue, bytes_apart, bytes_whole}
use denote.Struct.Owning.{shape, to}
use denote.Struct.Struct.{within}
use base.Fml.{fsep, feq}
use base.Logic.{via, fst∗, snd∗, never, never_e}
use Rattle.rdm_mr.specs.Ownership.{run_owns}
use Rattle.rdm_mr.specs.contracts.run.Run as Run
use Rattle.rdm_mr.proofs.run.Run.TheLaws.{lowers}

-- a run has no field, so the machine holds the same empty value for each
abbrev pub run_val : Val
run_val = vstruct vnil

abbrev pub run_vals : (Run.the_row).Denot → List Val
run_vals run = run_val ∷ []

pub run_Tells : Tells Run.the_row (Is Run.the_row) run_vals
run_Tells = lowers.val_is

module _ {M : Type 1} {𝓤 : Ura M} (𝓛 : Logic 𝓤) where
  -- a run is used up as its bytes
  pub run_opens : (run : (Run.the_row).Denot) → ent 𝓤 (sem 𝓛 ((Run.the_row).own_val run (run_val ∷ []))) (sem 𝓛 (run_owns run.ptr run.items))
  run_opens run = qed 𝓛 (‵ ((Run.the_row).own_val run (run_val ∷ [])) ∷ []) ∵ fsplit ! $ drop ! $ done !

  -- bytes are a run
  pub run_closes : (run : (Run.the_row).Denot) → ent 𝓤 (sem 𝓛 (run_owns run.ptr run.items)) (sem 𝓛 ((Run.the_row).own_val run (run_val ∷ [])))
  run_closes run =
      qed 𝓛 (‵ (run_owns run.ptr run.items) ∷ []) ∵ nothing ! $ feq_i ! (List Val) (run_val ∷ []) (run_val ∷ []) refl $ fjoin ! $
      fpack ! (Valss []) (within (shape Run.the_type) (to Run.the_type run) (run_val ∷ [])) tt $ fjoin ! $ done !

  module _ (b : ℕ) where
    bytes_of : (o : ℕ) (xs : List ℕ) → ent 𝓤 (sem 𝓛 (run_owns (block_ptr b o) xs)) (sem 𝓛 (bytes full_share xs b o))
    bytes_of o xs = via 𝓤 (sem 𝓛 (fsep (feq ℕ (length xs) (length xs)) (bytes full_share xs b o))) (bytes_apart 𝓛 full_share (length xs) xs b o) (snd∗ 𝓤 (sem 𝓛 (feq ℕ (length xs) (length xs))) (sem 𝓛 (bytes full_share xs b o)))

    run_of : (o : ℕ) (xs : List ℕ) → ent 𝓤 (sem 𝓛 (bytes full_share xs b o)) (sem 𝓛 (run_owns (block_ptr b o) xs))
    run_of o xs = qed 𝓛 (‵ (bytes full_share xs b o) ∷ []) ∵ feq_i ! ℕ (length xs) (length xs) refl $ fjoin ! $ by ! (bytes_whole 𝓛 full_share (length xs) xs b o)

    cut_in_block : (o mid : ℕ) (xs : List ℕ) → mid ≤ length xs
        → ent 𝓤 (sem 𝓛 (run_owns (block_ptr b o) xs)) (sep 𝓤 (sem 𝓛 (run_owns (block_ptr b o) (take mid xs))) (sem 𝓛 (run_owns (block_ptr b (o + mid)) (drop_l mid xs))))
    cut_in_block o mid xs inside =
        qed 𝓛 (‵ (run_owns (block_ptr b o) xs) ∷ []) ∵ use1 𝓛 (‵ (bytes full_share xs b o)) (bytes_of o xs) $
        rewrite ! 0 (λ ys. ‵ (bytes full_share ys b o)) (sym (take-append-drop mid xs)) refl $
        use1 𝓛 (‵ (bytes full_share (take mid xs) b o) ⊛ ‵ (bytes full_share (drop_l mid xs) b (o + length (take mid xs)))) (bytes_cut 𝓛 full_share (take mid xs) (drop_l mid xs) b o) $ split ! $
        rewrite ! 1 (λ n. ‵ (bytes full_share (drop_l mid xs) b (o + n))) (length-take-le mid xs inside) refl $
        use1 𝓛 (‵ (run_owns (block_ptr b o) (take mid xs))) (run_of o (take mid xs)) $ move ! (1 ∷ []) $
        use1 𝓛 (‵ (run_owns (block_ptr b (o + mid)) (drop_l mid xs))) (run_of (o + mid) (drop_l mid xs)) $ move ! (1 ∷ 0 ∷ []) $ done !

    glue_in_block : (o : ℕ) (xs ys : List ℕ)
        → ent 𝓤 (sep 𝓤 (sem 𝓛 (run_owns (block_ptr b o) xs)) (sem 𝓛 (run_owns (block_ptr b (o + length xs)) ys))) (sem 𝓛 (run_owns (block_ptr b o) (xs ++ ys)))
    glue_in_block o xs ys =
        qed 𝓛 (‵ (run_owns (block_ptr b o) xs) ∷ ‵ (run_owns (block_ptr b (o + length xs)) ys) ∷ []) ∵
        use1 𝓛 (‵ (bytes full_share xs b o)) (bytes_of o xs) $ move ! (1 ∷ []) $
        use1 𝓛 (‵ (bytes full_share ys b (o + length xs))) (bytes_of (o + length xs) ys) $ move ! (1 ∷ 0 ∷ []) $
        use2 𝓛 (‵ (bytes full_share (xs ++ ys) b o)) (bytes_glue 𝓛 full_share xs ys b o) $ by ! (run_of o (xs ++ ys))

  -- a run's first bytes, and the others
  pub run_cut : (p : Ptr) (mid : ℕ) (xs : List ℕ) → mid ≤ length xs → ent 𝓤 (sem 𝓛 (run_owns p xs)) (sep 𝓤 (sem 𝓛 (run_owns p (take mid xs))) (sem 𝓛 (run_owns (p +ₚ mid) (drop_l mid xs))))
  run_cut (block_ptr b o) mid xs inside = cut_in_block b o mid xs inside
  run_cut null_ptr mid xs inside = never_e 𝓤 _

  -- one run of two
  pub run_glue : (p : Ptr) (xs ys : List ℕ) → ent 𝓤 (sep 𝓤 (sem 𝓛 (run_owns p xs)) (sem 𝓛 (run_owns (p +ₚ length xs) ys))) (sem 𝓛 (run_owns p (xs ++ ys)))
  run_glue (block_ptr b o) xs ys = glue_in_block b o xs ys
  run_glue null_ptr xs ys = via 𝓤 (never 𝓤) (fst∗ 𝓤 (never 𝓤) (never 𝓤)) (never_e 𝓤 _)
