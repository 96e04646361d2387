-- `detach` takes the bytes out of the `Vec` and leaves its shell. Assumes `Logic`.
use Rattle.rdm_mr.proofs.Steps.{◌<◌, [], ◌∷◌, length, refl, arith, proved, Goes-blank, pair_val, pair_of, fact, ‵, raw, ◌⊛◌, ◌$◌, ◌∵◌, !, qed, done, move, drop, use1, use2, split, fsplit, fjoin, agg, enter, of_opd, no_more, and_then, returns, alloc_all, pass_all, free_all, look_at, get, sets, yes, owns, plain, types_at, nothing, heard, alive, Stays, walk_of, says, stay_dropped, suffices, ends_at}
use Rattle.std_alloc.proofs.Pairs.{pair_Typed}
use denote.Param.{layout}
use denote.Struct.Struct.{as_fields}
use denote.Struct.Tuple.{Tuple}
use Rattle.rdm_mr.specs.Ownership.{HeapVec, run_owns, shell_owns}
use Rattle.rdm_mr.specs.contracts.block.Owner.{the_row as Owner}
use Rattle.rdm_mr.specs.contracts.run.Run.{the_row as Run}
use Rattle.rdm_mr.specs.contracts.block.detach as f
use Rattle.rdm_mr.proofs.block.detach.Statement.{statement}
use Rattle.rdm_mr.proofs.block.detach.Code as code
use Rattle.rdm_mr.proofs.Runs.{run_val, run_closes}
use Rattle.rdm_mr.proofs.Shells.{heap_laws, heap_told, heap_vals, heap_Tells, around, vec_opens, owner_closes}

abbrev stayed : Stays f.ended.signature.params f.ended.kept
stayed = (stay_dropped _ yes, tt)

pub detach_spec : {M : Type 1} → statement M
detach_spec 𝓤 𝓛 𝓜 𝓡 wired =
    let c = f.clauses 𝓛 𝓜.mem 𝓡.returns in let W = walk_of 𝓛 f.ended stayed c in
    proved 𝓛 f.ended stayed c 𝓜 𝓡 (Goes-blank 𝓛 0 (plain (λ _. HeapVec)) yes (λ κs x w. tt), tt)
    f.Key.name code.function (code.unfolded 𝓤 𝓛.H 𝓜 𝓡 wired)
    (λ κs. (heap_vals, tt)) (λ κs. (heap_Tells, tt)) (λ κs qs bounds a _ are.
    let vec = a.0 in let u = heap_told.val vec in
    let y : W.Ghost = ((κs, qs, bounds, a, (heap_vals vec, tt)), tt) in
    let run : Run.Denot = record { ptr = vec.ptr; items = vec.items } in
    let owner : Owner.Denot = record { ptr = vec.ptr; len = vec.len } in
    let good = ((heap_laws.lawful 𝓛).typed vec (heap_vals vec) are.0).0 in
    let inner = as_fields (layout HeapVec ∷ []) (u ∷ []) (good, tt) in
    qed 𝓛 ((raw (alive 𝓛 f.ended.signature κs qs) ⊛ ‵ (owns (types_at f.ended.signature.params κs) a y.0.4)) ∷ raw (fact 𝓤 (0 < length vec.items)) ∷ []) ∵
    move ! (1 ∷ []) $ heard ! _ (λ some_bytes. split ! $ move ! (1 ∷ []) $ fsplit ! $ move ! (1 ∷ []) $ drop ! $
    use1 𝓛 (‵ (run_owns vec.ptr vec.items) ⊛ ‵ (shell_owns vec u)) (vec_opens 𝓛 vec u (omega (arith, vec.ok.0))) $ split ! $
    use1 𝓛 (‵ (Run.own_val run (run_val ∷ []))) (run_closes 𝓛 run) $ move ! (1 ∷ []) $
    use1 𝓛 (‵ (Owner.own_val owner (around u ∷ []))) (owner_closes 𝓛 vec u (inner, tt)) $ move ! (1 ∷ 0 ∷ []) $
    use2 𝓛 (‵ ((Tuple (Run ∷ Owner ∷ [])).own_val (run, owner) (pair_val run_val (around u) ∷ []))) (pair_of 𝓛 Run Owner run owner run_val (around u)) $
    -- [the run and the owner; the tokens]
    enter ! _ _ _ _ _ $ alloc_all ! (λ l. pass_all ! refl (good, tt) $
    sets ! (agg ! (no_more !)) refl (tt, tt) $
    sets ! (of_opd ! (get ! refl)) refl good $
    sets ! (agg ! (and_then ! (get ! refl) (no_more !))) refl inner $
    sets ! (agg ! (and_then ! (get ! refl) (and_then ! (get ! refl) (no_more !)))) refl (pair_Typed (layout Run) (layout Owner) run_val (around u) (tt, tt) inner) $
    returns ! (look_at ! 0 refl) $ free_all ! refl $
    suffices ! _ (ends_at 𝓛 f.ended stayed c y (pair_val run_val (around u)) (run, owner) (tt, tt) (tt, tt)) $ says ! (refl, refl, refl, vec.ok.0) $
    nothing ! $ nothing ! $ fjoin ! $ move ! (2 ∷ 0 ∷ 1 ∷ []) $ done !)))
