-- `into_vec` hands the bytes to `lodge`. Assumes `Logic`.
use Rattle.rdm_mr.proofs.Steps.{◌≡◌, ◌^◌, ◌<◌, ◌≤◌, List, [], ◌∷◌, length, refl, sym, arith, w64, proved, Goes-blank, Goes-dropped, full_share, id⊢, emp, ftrue, flft, Val, vint, fact, fact_i, tables, ‵, raw, ◌⊛◌, some, later, ◌$◌, ◌∵◌, !, qed, done, move, drop, use0, use1, use2, split, join, fsplit, fjoin, feq_i, flt_i, pick, await, rewrite, enter, of_opd, no_more, and_then, returns, alloc_all, pass_all, free_all, look_at, get, sets, u8, usize, yes, uint_vals, uint_Tells, owns, Ptr, RawPtr, plain, types_at, nothing, heard, alive, lasts, triple_of, framed, Stays, walk_of, says, stay_dropped, suffices, ends_at}
use contract.BorrowLft.{◌⊑◌, ⊑_refl}
use types.Kit.{at_ret}
use types.Run.{first, blocks, exec}
use types.ByLocal.{lands_last, env}
use denote.Laws.{shows}
use denote.RawPtr.{ptr_val, rawptr_vals, rawptr_Tells, rawptr_Lawful}
use denote.Steps.{peeks}
use denote.Triple.Call.{calls_at_last}
use Rattle.std_alloc.specs.Vec.Ownership.{lodged}
use Rattle.std_alloc.specs.contracts.vec.lodge as g
use Rattle.std_alloc.proofs.vec.lodge.Met.{met}
use Rattle.rdm_mr.specs.Ownership.{run_owns}
use Rattle.rdm_mr.specs.contracts.run.Run.{the_row as Run}
use Rattle.rdm_mr.specs.contracts.run.Run.into_vec as f
use Rattle.rdm_mr.proofs.run.Run.into_vec.Statement.{statement}
use Rattle.rdm_mr.proofs.run.Run.into_vec.Code as code
use Rattle.rdm_mr.proofs.Lodging.{byte_laws, LodgedVec, lodged_laws, run_lodged}
use Rattle.rdm_mr.proofs.Runs.{run_vals, run_Tells, run_opens}

abbrev stayed : Stays f.ended.signature.params f.ended.kept
stayed = (stay_dropped _ yes, (stay_dropped _ yes, (stay_dropped _ yes, tt)))

pub into_vec_spec : {M : Type 1} → statement M
into_vec_spec 𝓤 𝓛 𝓜 𝓡 wired =
    let c = f.clauses 𝓛 𝓜.mem 𝓡.returns in let W = walk_of 𝓛 f.ended stayed c in let 𝓣 = tables 𝓤 𝓛.H 𝓜 𝓡 𝓡.env in
    proved 𝓛 f.ended stayed c 𝓜 𝓡 (Goes-blank 𝓛 0 (plain (λ _. Run)) yes (λ κs x w. tt), (Goes-dropped 𝓛 0 (plain (λ _. RawPtr)) yes (λ κs x w. refl), (Goes-dropped 𝓛 0 (plain (λ _. usize)) yes (λ κs x w. refl), tt)))
    f.Key.name code.function (code.unfolded 𝓤 𝓛.H 𝓜 𝓡 wired)
    (λ κs. (run_vals, (rawptr_vals, (uint_vals w64, tt)))) (λ κs. (run_Tells, (rawptr_Tells, (uint_Tells w64, tt)))) (λ κs qs bounds a _ are.
    let run = a.0 in let ptr = a.1.0 in let len = a.1.1.0 in let bytes = run.items in
    let fits = are.1.1.0.1 in
    let y : W.Ghost = ((κs, qs, bounds, a, (run_vals run, (rawptr_vals ptr, (uint_vals w64 len, tt)))), tt) in
    let G = triple_of 𝓛 (g.signature u8) (g.spec u8 𝓛 𝓜.mem 𝓡.returns) in
    let z : G.Ghost = ((([], tt), (full_share, tt), tt, (ptr, (len, (len, tt))), (rawptr_vals ptr, (uint_vals w64 len, (uint_vals w64 len, tt)))), bytes) in
    let Asked : Type 0 = (run.ptr ≡ ptr) × (length bytes ≡ len) × (0 < len) × (len < 2 ^ 63) in
    let Made : LodgedVec.Denot → Type 0 = λ vec. (vec.items ≡ bytes) × (vec.len ≡ len) × (vec.cap ≡ len) × (vec.ptr ≡ ptr) in
    let Needed : Type 0 = (len ≡ length bytes) × (len ≤ len) × (len < 2 ^ 63) in
    qed 𝓛 ((raw (alive 𝓛 f.ended.signature κs qs) ⊛ ‵ (owns (types_at f.ended.signature.params κs) a y.0.4)) ∷ raw (fact 𝓤 Asked) ∷ []) ∵
    move ! (1 ∷ []) $ heard ! Asked (λ asked. split ! $ move ! (1 ∷ []) $ fsplit ! $ move ! (1 ∷ []) $ drop ! $
    use1 𝓛 (‵ (run_owns run.ptr bytes)) (run_opens 𝓛 run) $ rewrite ! 0 (λ (p : Ptr). ‵ (run_owns p bytes)) asked.0 refl $
    use1 𝓛 (‵ (lodged u8 ptr len len bytes)) (run_lodged 𝓛 ptr len bytes asked.1 asked.2 asked.3) $
    -- [what `lodge` asks; the tokens]
    use0 𝓛 (raw (fact 𝓤 Needed)) (fact_i 𝓤 Needed (emp 𝓤) (sym asked.1, omega arith, asked.3)) $ join ! $
    use0 𝓛 (raw (fact 𝓤 ([] ⊑ []))) (fact_i 𝓤 ([] ⊑ []) (emp 𝓤) (⊑_refl [])) $ join ! $
    nothing ! $ flt_i ! len (2 ^ 64) fits $ feq_i ! (List Val) (vint w64 len ∷ []) (vint w64 len ∷ []) refl $ fjoin ! $ fjoin ! $
    flt_i ! len (2 ^ 64) fits $ feq_i ! (List Val) (vint w64 len ∷ []) (vint w64 len ∷ []) refl $ fjoin ! $ fjoin ! $
    feq_i ! (List Val) (ptr_val ptr ∷ []) (rawptr_vals ptr) refl $ fjoin ! $
    nothing ! $ use0 𝓛 (‵ (flft [] full_share)) (𝓛.lfts.lft-nil full_share) $ join ! $ join ! $ use2 𝓛 (raw (G.pre z)) (id⊢ 𝓤 _) $
    enter ! _ _ _ _ _ $ alloc_all ! (λ l. pass_all ! refl ((tt, tt), (((rawptr_Lawful 𝓛).typed ptr _ refl).0, ((tt, record { fits = fits }), tt))) $
    first ! $ blocks ! $
    calls_at_last ! (framed 𝓤 𝓛.H 𝓜 𝓣) G (met 𝓤 𝓛 𝓜 𝓡 (code.calls-std_alloc::vec::lodge 𝓡.env wired) u8 byte_laws) z
    (and_then ! (get ! refl) (and_then ! (get ! refl) (and_then ! (get ! refl) (no_more !)))) (λ v.
    use1 𝓛 (later (some (λ (vec : LodgedVec.Denot). ((‵ (flft [] full_share) ⊛ ‵ ftrue) ⊛ ‵ (LodgedVec.own_val vec (v ∷ []))) ⊛
    some (λ (ws : Unit {0} × (Unit {0} × (Unit {0} × Unit {0}))). ‵ (lasts (g.ended u8) z.0.0 z.0.3 ws) ⊛ raw (fact 𝓤 (Made vec)))))) (id⊢ 𝓤 _) $
    await ! tt $ pick ! (λ vec. split ! $ split ! $ drop ! $ move ! (1 ∷ []) $ pick ! (λ ws. split ! $ drop ! $ heard ! (Made vec) (λ made.
    -- [the `Vec`; the tokens; the locals]
    peeks ! LodgedVec _ (shows 𝓛 LodgedVec) vec (v ∷ []) (λ told.
    let good = ((lodged_laws.lawful 𝓛).typed vec (v ∷ []) told).0 in
    lands_last ! refl good $ exec ! 𝓣.C 𝓣.Λ (env code.Mir.locals l) code.Mir.t-2 (at_ret _ (W.post y)) $
    sets ! (of_opd ! (get ! refl)) refl good $
    returns ! (look_at ! 0 refl) $ free_all ! refl $
    suffices ! _ (ends_at 𝓛 f.ended stayed c y v vec (tt, (tt, (tt, tt))) (tt, (tt, (tt, tt)))) $ says ! (made.0, made.3) $
    nothing ! $ nothing ! $ fjoin ! $ nothing ! $ fjoin ! $ nothing ! $ fjoin ! $ move ! (2 ∷ 0 ∷ 1 ∷ []) $ done !))))))))
