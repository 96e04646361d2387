-- `glue` puts the bytes of the two side by side. Assumes `Logic`.
use Rattle.rdm_mr.proofs.Steps.{◌≡◌, [], ◌∷◌, ◌++◌, length, refl, proved, Goes-blank, fact, ‵, raw, ◌⊛◌, ◌$◌, ◌∵◌, !, qed, done, move, drop, use1, use2, split, fsplit, fjoin, rewrite, agg, enter, no_more, returns, alloc_all, pass_all, free_all, look_at, sets, yes, owns, ◌+ₚ◌, plain, types_at, nothing, heard, alive, Stays, walk_of, stay_dropped, says, suffices, ends_at}
use Rattle.rdm_mr.specs.Ownership.{run_owns}
use Rattle.rdm_mr.specs.contracts.run.Run.{the_row as Run}
use Rattle.rdm_mr.specs.contracts.run.Run.glue as f
use Rattle.rdm_mr.proofs.run.Run.glue.Statement.{statement}
use Rattle.rdm_mr.proofs.run.Run.glue.Code as code
use Rattle.rdm_mr.proofs.Runs.{run_val, run_vals, run_Tells, run_opens, run_closes, run_glue}

abbrev stayed : Stays f.ended.signature.params f.ended.kept
stayed = (stay_dropped _ yes, (stay_dropped _ yes, tt))

pub glue_spec : {M : Type 1} → statement M
glue_spec 𝓤 𝓛 𝓜 𝓡 wired =
    let c = f.clauses 𝓛 𝓜.mem 𝓡.returns in let W = walk_of 𝓛 f.ended stayed c in
    let goes = Goes-blank 𝓛 0 (plain (λ _. Run)) yes (λ κs x w. tt) in
    proved 𝓛 f.ended stayed c 𝓜 𝓡 (goes, (goes, tt))
    f.Key.name code.function (code.unfolded 𝓤 𝓛.H 𝓜 𝓡 wired)
    (λ κs. (run_vals, (run_vals, tt))) (λ κs. (run_Tells, (run_Tells, tt))) (λ κs qs bounds a _ are.
    let run = a.0 in let next = a.1.0 in
    let y : W.Ghost = ((κs, qs, bounds, a, (run_vals run, (run_vals next, tt))), tt) in
    let both : Run.Denot = record { ptr = run.ptr; items = run.items ++ next.items } in
    qed 𝓛 ((raw (alive 𝓛 f.ended.signature κs qs) ⊛ ‵ (owns (types_at f.ended.signature.params κs) a y.0.4)) ∷ raw (fact 𝓤 (next.ptr ≡ run.ptr +ₚ length run.items)) ∷ []) ∵
    move ! (1 ∷ []) $ heard ! _ (λ meets. split ! $ move ! (1 ∷ []) $ fsplit ! $ move ! (1 ∷ []) $ fsplit ! $ move ! (1 ∷ []) $ drop ! $
    -- [the next run; this run; the tokens]
    use1 𝓛 (‵ (run_owns next.ptr next.items)) (run_opens 𝓛 next) $ rewrite ! 0 (λ p. ‵ (run_owns p next.items)) meets refl $ move ! (1 ∷ []) $
    use1 𝓛 (‵ (run_owns run.ptr run.items)) (run_opens 𝓛 run) $
    use2 𝓛 (‵ (run_owns both.ptr both.items)) (run_glue 𝓛 run.ptr run.items next.items) $
    use1 𝓛 (‵ (Run.own_val both (run_val ∷ []))) (run_closes 𝓛 both) $
    enter ! _ _ _ _ _ $ alloc_all ! (λ l. pass_all ! refl ((tt, tt), ((tt, tt), tt)) $
    sets ! (agg ! (no_more !)) refl (tt, tt) $
    returns ! (look_at ! 0 refl) $ free_all ! refl $
    suffices ! _ (ends_at 𝓛 f.ended stayed c y run_val both (tt, (tt, tt)) (tt, (tt, tt))) $ says ! (refl, refl) $
    nothing ! $ nothing ! $ fjoin ! $ nothing ! $ fjoin ! $ move ! (2 ∷ 0 ∷ 1 ∷ []) $ done !)))
