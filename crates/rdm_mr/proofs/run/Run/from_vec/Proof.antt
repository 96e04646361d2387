-- `from_vec` takes the bytes that `dislodge` hands back. Assumes `Logic`.
use Rattle.rdm_mr.proofs.Steps.{◌≡◌, ℕ, ◌<◌, [], ◌∷◌, length, refl, ap, arith, proved, Goes-blank, full_share, id⊢, emp, ftrue, flft, fact, fact_i, tables, ‵, raw, ◌⊛◌, some, later, ◌$◌, ◌∵◌, !, qed, done, move, drop, use0, use1, use2, split, split3, join, fsplit, fjoin, feq_l, flt_l, pick, await, agg, enter, of_opd, no_more, and_then, returns, alloc_all, pass_all, free_all, look_at, get, sets, lands_as, u8, usize, yes, owns, plain, types_at, nothing, heard, only, alive, calls_at, lasts, triple_of, framed, Stays, walk_of, says, stay_dropped, suffices, ends_at}
use contract.BorrowLft.{◌⊑◌, ⊑_refl}
use Rattle.std_alloc.specs.Vec.Ownership.{lodged}
use Rattle.std_alloc.specs.contracts.vec.lodged.Vec+T+Lodged.dislodge as g
use Rattle.std_alloc.proofs.vec.lodged.Vec+T+Lodged.dislodge.Met.{met}
use Rattle.rdm_mr.specs.Ownership.{run_owns}
use Rattle.rdm_mr.specs.contracts.run.Run.{the_row as Run}
use Rattle.rdm_mr.specs.contracts.run.Run.from_vec as f
use Rattle.rdm_mr.proofs.run.Run.from_vec.Statement.{statement}
use Rattle.rdm_mr.proofs.run.Run.from_vec.Code as code
use Rattle.rdm_mr.proofs.Lodging.{byte_laws, LodgedVec, lodged_laws, lodged_vals, lodged_Tells, lodged_run}
use Rattle.rdm_mr.proofs.Runs.{run_val, run_closes}

abbrev stayed : Stays f.ended.signature.params f.ended.kept
stayed = (stay_dropped _ yes, tt)

pub from_vec_spec : {M : Type 1} → statement M
from_vec_spec 𝓤 𝓛 𝓜 𝓡 wired =
    let c = f.clauses 𝓛 𝓜.mem 𝓡.returns in let W = walk_of 𝓛 f.ended stayed c in
    proved 𝓛 f.ended stayed c 𝓜 𝓡 (Goes-blank 𝓛 0 (plain (λ _. LodgedVec)) yes (λ κs x w. tt), tt)
    f.Key.name code.function (code.unfolded 𝓤 𝓛.H 𝓜 𝓡 wired)
    (λ κs. (lodged_vals, tt)) (λ κs. (lodged_Tells, tt)) (λ κs qs bounds a _ are.
    let vec = a.0 in
    let y : W.Ghost = ((κs, qs, bounds, a, (lodged_vals vec, tt)), tt) in
    let run : Run.Denot = record { ptr = vec.ptr; items = vec.items } in
    let G = triple_of 𝓛 (g.signature u8) (g.spec u8 𝓛 𝓜.mem 𝓡.returns) in
    let z : G.Ghost = ((([], tt), (full_share, tt), tt, (vec, tt), (lodged_vals vec, tt)), tt) in
    qed 𝓛 ((raw (alive 𝓛 f.ended.signature κs qs) ⊛ ‵ (owns (types_at f.ended.signature.params κs) a y.0.4)) ∷ raw (fact 𝓤 (0 < length vec.items)) ∷ []) ∵
    move ! (1 ∷ []) $ heard ! _ (λ some_bytes. split ! $ move ! (1 ∷ []) $ fsplit ! $ move ! (1 ∷ []) $ drop ! $
    let good = ((lodged_laws.lawful 𝓛).typed vec (lodged_vals vec) are.0).0 in
    -- [the `Vec`; the tokens]
    enter ! _ _ _ _ _ $ alloc_all ! (λ l. pass_all ! refl (good, tt) $
    sets ! (of_opd ! (get ! refl)) refl good $
    -- [what `dislodge` asks; the tokens; the locals]
    nothing ! $ use0 𝓛 (raw (fact 𝓤 ([] ⊑ []))) (fact_i 𝓤 ([] ⊑ []) (emp 𝓤) (⊑_refl [])) $ join ! $ move ! (1 ∷ []) $ nothing ! $ move ! (1 ∷ 0 ∷ []) $ fjoin ! $
    nothing ! $ use0 𝓛 (‵ (flft [] full_share)) (𝓛.lfts.lft-nil full_share) $ join ! $ join ! $ use2 𝓛 (raw (G.pre z)) (id⊢ 𝓤 _) $
    calls_at ! (framed 𝓤 𝓛.H 𝓜 (tables 𝓤 𝓛.H 𝓜 𝓡 𝓡.env)) G (met 𝓤 𝓛 𝓜 𝓡 (code.calls-std_alloc::vec::lodged::Vec+T+Lodged::dislodge 𝓡.env wired) u8 byte_laws) z
    (and_then ! (get ! refl) (no_more !)) (λ v.
    use1 𝓛 (later (some (λ (n : ℕ). ((‵ (flft [] full_share) ⊛ ‵ ftrue) ⊛ ‵ (usize.own_val n (v ∷ []))) ⊛
    some (λ (ws : Unit {0} × Unit {0}). ‵ (lasts (g.ended u8) z.0.0 z.0.3 ws) ⊛ (raw (fact 𝓤 (n ≡ vec.len)) ⊛ ‵ (lodged u8 vec.ptr vec.len vec.cap vec.items)))))) (id⊢ 𝓤 _) $
    await ! tt $ pick ! (λ n. split ! $ split ! $ drop ! $ fsplit ! $ feq_l ! (λ is. flt_l ! (λ fits. pick ! (λ ws. split3 ! $ drop ! $ drop ! $
    -- [the bytes; the tokens; the locals]
    lands_as ! (ap only is) refl (tt, record { fits = fits }) $
    sets ! (agg ! (no_more !)) refl (tt, tt) $
    use1 𝓛 (‵ (run_owns run.ptr run.items)) (lodged_run 𝓛 vec.ptr vec.len vec.cap vec.items vec.ok.0 (omega (arith, vec.ok.0, vec.ok.1))) $
    use1 𝓛 (‵ (Run.own_val run (run_val ∷ []))) (run_closes 𝓛 run) $
    returns ! (look_at ! 0 refl) $ free_all ! refl $
    suffices ! _ (ends_at 𝓛 f.ended stayed c y run_val run (tt, tt) (tt, tt)) $ says ! (refl, refl) $
    nothing ! $ nothing ! $ fjoin ! $ move ! (2 ∷ 0 ∷ 1 ∷ []) $ done !))))))))
