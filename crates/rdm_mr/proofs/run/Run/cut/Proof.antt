-- `cut` parts the bytes. Assumes `Logic`.
use Rattle.rdm_mr.proofs.Steps.{◌≤◌, [], ◌∷◌, length, take, drop_l, refl, w64, proved, Goes-blank, Goes-dropped, pair_val, pair_of, fact, ‵, raw, ◌⊛◌, ◌$◌, ◌∵◌, !, qed, done, move, drop, use1, use2, split, fsplit, fjoin, agg, enter, no_more, and_then, returns, alloc_all, pass_all, free_all, look_at, get, sets, usize, yes, uint_vals, uint_Tells, owns, ◌+ₚ◌, plain, types_at, nothing, heard, alive, Stays, walk_of, stay_dropped, says, suffices, ends_at}
use denote.Struct.Tuple.{Tuple}
use Rattle.rdm_mr.specs.Ownership.{run_owns}
use Rattle.rdm_mr.specs.contracts.run.Run.{the_row as Run}
use Rattle.rdm_mr.specs.contracts.run.Run.cut as f
use Rattle.rdm_mr.proofs.run.Run.cut.Statement.{statement}
use Rattle.rdm_mr.proofs.run.Run.cut.Code as code
use Rattle.rdm_mr.proofs.Runs.{run_val, run_vals, run_Tells, run_opens, run_closes, run_cut}

abbrev stayed : Stays f.ended.signature.params f.ended.kept
stayed = (stay_dropped _ yes, (stay_dropped _ yes, tt))

pub cut_spec : {M : Type 1} → statement M
cut_spec 𝓤 𝓛 𝓜 𝓡 wired =
    let c = f.clauses 𝓛 𝓜.mem 𝓡.returns in let W = walk_of 𝓛 f.ended stayed c in
    proved 𝓛 f.ended stayed c 𝓜 𝓡 (Goes-blank 𝓛 0 (plain (λ _. Run)) yes (λ κs x w. tt), (Goes-dropped 𝓛 0 (plain (λ _. usize)) yes (λ κs x w. refl), tt))
    f.Key.name code.function (code.unfolded 𝓤 𝓛.H 𝓜 𝓡 wired)
    (λ κs. (run_vals, (uint_vals w64, tt))) (λ κs. (run_Tells, (uint_Tells w64, tt))) (λ κs qs bounds a _ are.
    let run = a.0 in let mid = a.1.0 in
    let y : W.Ghost = ((κs, qs, bounds, a, (run_vals run, (uint_vals w64 mid, tt))), tt) in
    let front : Run.Denot = record { ptr = run.ptr; items = take mid run.items } in
    let back : Run.Denot = record { ptr = run.ptr +ₚ mid; items = drop_l mid run.items } in
    qed 𝓛 ((raw (alive 𝓛 f.ended.signature κs qs) ⊛ ‵ (owns (types_at f.ended.signature.params κs) a y.0.4)) ∷ raw (fact 𝓤 (mid ≤ length run.items)) ∷ []) ∵
    move ! (1 ∷ []) $ heard ! _ (λ inside. split ! $ move ! (1 ∷ []) $ fsplit ! $ move ! (1 ∷ []) $ drop ! $
    use1 𝓛 (‵ (run_owns run.ptr run.items)) (run_opens 𝓛 run) $
    use1 𝓛 (‵ (run_owns front.ptr front.items) ⊛ ‵ (run_owns back.ptr back.items)) (run_cut 𝓛 run.ptr mid run.items inside) $ split ! $
    use1 𝓛 (‵ (Run.own_val front (run_val ∷ []))) (run_closes 𝓛 front) $ move ! (1 ∷ []) $
    use1 𝓛 (‵ (Run.own_val back (run_val ∷ []))) (run_closes 𝓛 back) $ move ! (1 ∷ 0 ∷ []) $
    use2 𝓛 (‵ ((Tuple (Run ∷ Run ∷ [])).own_val (front, back) (pair_val run_val run_val ∷ []))) (pair_of 𝓛 Run Run front back run_val run_val) $
    -- [the two runs; the tokens]
    enter ! _ _ _ _ _ $ alloc_all ! (λ l. pass_all ! refl ((tt, tt), ((tt, record { fits = are.1.0.1 }), tt)) $
    sets ! (agg ! (no_more !)) refl (tt, tt) $ sets ! (agg ! (no_more !)) refl (tt, tt) $
    sets ! (agg ! (and_then ! (get ! refl) (and_then ! (get ! refl) (no_more !)))) refl (tt, (tt, (tt, tt))) $
    returns ! (look_at ! 0 refl) $ free_all ! refl $
    suffices ! _ (ends_at 𝓛 f.ended stayed c y (pair_val run_val run_val) (front, back) (tt, (tt, tt)) (tt, (tt, tt))) $ says ! (refl, refl, refl, refl) $
    nothing ! $ nothing ! $ fjoin ! $ nothing ! $ fjoin ! $ move ! (2 ∷ 0 ∷ 1 ∷ []) $ done !)))
