-- `attach` fills the shell again. Assumes `Logic`.
use Rattle.rdm_mr.proofs.Steps.{◌≡◌, ◌<◌, List, [], ◌∷◌, ◌++◌, length, refl, sym, ◌∙◌, subst, arith, proved_at, Goes-blank, Val, fact, tables, ‵, raw, ◌⊛◌, prop, ◌$◌, ◌∵◌, !, qed, done, move, drop, use1, use2, split, fsplit, fjoin, feq_l, fpick, regoal, rewrite, enter, of_opd, returns, alloc_all, pass_all, free_all, look_at, get, sets, yes, owns, Ptr, plain, types_at, nothing, heard, alive, Stays, walk_of, says, stay_dropped, suffices, ends_at}
use denote.Laws.{shows, Typed}
use denote.Param.{layout}
use denote.Steps.{peeks}
use prog.Wp.{WpFn}
use types.ByLocal.{get_in}
use types.Part.{sub, whole}
use types.Run.{fld, stop}
use Rattle.rdm_mr.specs.Ownership.{HeapVec, run_owns}
use Rattle.rdm_mr.specs.contracts.block.Owner.{the_row as Owner}
use Rattle.rdm_mr.specs.contracts.run.Run.{the_row as Run}
use Rattle.rdm_mr.specs.contracts.block.attach as f
use Rattle.rdm_mr.proofs.block.attach.Statement.{statement}
use Rattle.rdm_mr.proofs.block.attach.Code as code
use Rattle.rdm_mr.proofs.Runs.{run_val, run_Tells, run_opens}
use Rattle.rdm_mr.proofs.Shells.{heap_laws, around, refilled, vec_closes}

abbrev stayed : Stays f.ended.signature.params f.ended.kept
stayed = (stay_dropped _ yes, (stay_dropped _ yes, tt))

pub attach_spec : {M : Type 1} → statement M
attach_spec 𝓤 𝓛 𝓜 𝓡 wired =
    let c = f.clauses 𝓛 𝓜.mem 𝓡.returns in let W = walk_of 𝓛 f.ended stayed c in let 𝓣 = tables 𝓤 𝓛.H 𝓜 𝓡 𝓡.env in
    proved_at 𝓛 f.ended stayed c 𝓜 𝓡 (Goes-blank 𝓛 0 (plain (λ _. Run)) yes (λ κs x w. tt), (Goes-blank 𝓛 0 (plain (λ _. Owner)) yes (λ κs x w. tt), tt))
    f.Key.name code.function (code.unfolded 𝓤 𝓛.H 𝓜 𝓡 wired) (λ y are.
    let run = y.0.3.0 in let owner = y.0.3.1.0 in let bytes = run.items in
    let Asked : Type 0 = (run.ptr ≡ owner.ptr) × (length bytes ≡ owner.len) × (0 < owner.len) in
    let no_value = run_Tells run y.0.4.0 are.0 in
    qed 𝓛 ((raw (alive 𝓛 f.ended.signature y.0.0 y.0.1) ⊛ ‵ (owns (types_at f.ended.signature.params y.0.0) y.0.3 y.0.4)) ∷ raw (fact 𝓤 Asked) ∷ []) ∵
    move ! (1 ∷ []) $ heard ! Asked (λ asked. split ! $ move ! (1 ∷ []) $ fsplit ! $ move ! (1 ∷ []) $ fsplit ! $
    -- [the owner; nothing; the run; the tokens]
    fsplit ! $ fpick ! (λ typed. drop ! $ fpick ! (λ s. fsplit ! $ feq_l ! (λ is. fsplit ! $ feq_l ! (λ at. fsplit ! $ feq_l ! (λ count.
    let vec = s.0 in let u = s.1 in
    let long : length bytes ≡ vec.len = asked.1 ∙ sym count in
    let whole_vec = refilled vec bytes long in
    let inner = (subst (Typed Owner.mir) is typed).0 in
    move ! (2 ∷ []) $ rewrite ! 0 (λ (us : List Val). ‵ (Run.own_val run us)) no_value refl $ use1 𝓛 (‵ (run_owns run.ptr bytes)) (run_opens 𝓛 run) $
    rewrite ! 0 (λ (p : Ptr). ‵ (run_owns p bytes)) (asked.0 ∙ sym at) refl $ move ! (0 ∷ 1 ∷ []) $
    use2 𝓛 (‵ (HeapVec.own_val whole_vec (u ∷ []))) (vec_closes 𝓛 vec u (omega (arith, asked.2, count)) bytes long) $
    -- [the `Vec`; nothing; the tokens]
    peeks ! HeapVec _ (shows 𝓛 HeapVec) whole_vec (u ∷ []) (λ told.
    let good = ((heap_laws.lawful 𝓛).typed whole_vec (u ∷ []) told).0 in
    move ! (1 ∷ []) $ drop ! $
    regoal ! (λ (us : List Val). prop (WpFn 𝓤 𝓛.H 𝓣.C 𝓣.Λ code.function (us ++ (y.0.4.1.0 ++ [])) (W.post y))) no_value refl $
    regoal ! (λ (us : List Val). prop (WpFn 𝓤 𝓛.H 𝓣.C 𝓣.Λ code.function (run_val ∷ (us ++ [])) (W.post y))) is refl $
    enter ! 𝓣.C 𝓣.Λ code.function (run_val ∷ around u ∷ []) (W.post y) $ alloc_all ! (λ l. pass_all ! refl ((tt, tt), (inner, tt)) $
    sets ! (of_opd ! (get_in ! (fld ! refl (stop !)) (sub ! 0 {τ = layout HeapVec} {d = 0} refl (whole !)))) refl good $
    sets ! (of_opd ! (get ! refl)) refl good $
    returns ! (look_at ! 0 refl) $ free_all ! refl $
    suffices ! _ (ends_at 𝓛 f.ended stayed c y u whole_vec (tt, (tt, tt)) (tt, (tt, tt))) $ says ! refl $
    nothing ! $ nothing ! $ fjoin ! $ nothing ! $ fjoin ! $ move ! (2 ∷ 0 ∷ 1 ∷ []) $ done !)))))))))
