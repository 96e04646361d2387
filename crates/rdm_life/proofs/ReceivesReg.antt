-- A region that is registered is at home, and touches no receive.
use Rattle.std.proofs.Common.{◌≡◌, ℕ, ◌+◌, ◌<◌, Bool, true, false, cond, List, [], ◌∷◌, ◌++◌, map, length, get_or, Option, None, refl, arith, sym, ◌∙◌, ap}
use Rattle.std.specs.Prelude.{◌==◌, slice_get}
use Rattle.std.specs.List.{list_any}
use Rattle.std.proofs.lemmas.Bool.{eqb-true, false_from_ne_true}
use Rattle.rdm_lists.specs.Lists.{Member}
use Rattle.rdm_lists.proofs.Members.{list_any_member}
use Rattle.rdm_lists.proofs.Same.{map_same}
use Rattle.rdm_model.specs.declared.job.Instr.TheVariants.{Reg}
use Rattle.rdm_model.specs.Beginnings.{Own}
use Rattle.rdm_model.specs.Currents.{forgotten_by}
use Rattle.rdm_model.specs.Deeds.{Deed, Did}
use Rattle.rdm_model.specs.Matches.{Receive, receives, received_by, events_by}
use Rattle.rdm_model.specs.Parts.{carried_by}
use Rattle.rdm_model.specs.Receives.{RecvEnd, withdrawn_by}
use Rattle.rdm_model.specs.Regions.{after_ends, region_by}
use Rattle.rdm_law.proofs.Lives.Lives.{LifeLocal}
use Rattle.rdm_life.specs.Kept.{Kept}
use Rattle.rdm_life.specs.Keeps.{told, own_regions, own_live_receives, is_out, region_byte, kept_receive, KeepsLives, KeepsReceives}
use Rattle.rdm_life.specs.Memory.{is_place_of}
use Rattle.rdm_life.specs.Handling.{after, after_instr}
use Rattle.rdm_life.proofs.Apart.{live_is}
use Rattle.rdm_life.proofs.EndSteps.{new_ends, regions_step}
use Rattle.rdm_life.proofs.Places.{get_or-last, get_or-end, range_within, place_within}
use Rattle.rdm_life.proofs.ReceivesQuiet.{live_stays, pair_stays, pairs_stay, stays_ends}
use Rattle.rdm_life.proofs.Stays.{Stays, kept_stays}

-- it makes no pair and brings no byte
reg_stays : (own : Own) (content : List ℕ) (log : List Deed) → Stays own (Did (Reg content)) log
unfolding events_by carried_by
reg_stays own content log = record { pairs_are = pairs_stay own (Did (Reg content)) log refl; brings_none = λ source n. refl }

-- nothing ends
reg_ends : (own : Own) (content : List ℕ) (log : List Deed) → new_ends own (Did (Reg content)) log ≡ []
unfolding withdrawn_by forgotten_by
reg_ends own content log = stays_ends own (Did (Reg content)) log (reg_stays own content log)

-- the region is the last one
reg_regions : (own : Own) (content : List ℕ) (log : List Deed) → own_regions own (Did (Reg content) ∷ log) ≡ own_regions own log ++ content ∷ []
unfolding after_ends region_by
reg_regions own content log =
    let d : Deed = Did (Reg content) in
    regions_step own d log ∙ ap (λ (es : List RecvEnd). after_ends (told own (d ∷ log)) (receives (d ∷ log)) es (own_regions own log) ++ region_by d) (reg_ends own content log)

-- the live receives stay
reg_live : (own : Own) (content : List ℕ) (log : List Deed) → own_live_receives own (Did (Reg content) ∷ log) ≡ own_live_receives own log
unfolding received_by
reg_live own content log = live_stays own (Did (Reg content)) log (reg_ends own content log) refl

-- a byte of the regions
reg_byte : (own : Own) (content : List ℕ) (log : List Deed) (region place : ℕ)
    → region_byte own (Did (Reg content) ∷ log) region place ≡ slice_get (cond (region == length (own_regions own log)) content (get_or (own_regions own log) region [])) place
reg_byte own content log region place =
    ap (λ (rs : List (List ℕ)). slice_get (get_or rs region []) place) (reg_regions own content log)
    ∙ ap (λ (r : List ℕ). slice_get r place) (get_or-last (own_regions own log) content [] region)

-- no place of the new region is out
reg_home : (own : Own) (log : List Deed) (region place : ℕ) → LifeLocal own log → region ≡ length (own_regions own log) → is_out own log region place ≡ false
unfolding is_out
reg_home own log region place local last =
    false_from_ne_true (list_any (λ (r : Receive). is_place_of r.req region place) (own_live_receives own log)) (λ h.
    let m = list_any_member (λ (r : Receive). is_place_of r.req region place) (own_live_receives own log) h in
    let w = place_within own log m.0 region place local (live_is own log m.0 m.1).0 m.2 in
    let e = get_or-end (own_regions own log) [] in
    let none : length (get_or (own_regions own log) region []) ≡ 0 = ap (λ (n : ℕ). length (get_or (own_regions own log) n [])) last ∙ ap (λ (r : List ℕ). length r) e in
    omega arith)

-- whether a place is out stays
reg_out : (own : Own) (content : List ℕ) (log : List Deed) (region place : ℕ) → is_out own (Did (Reg content) ∷ log) region place ≡ is_out own log region place
unfolding is_out
reg_out own content log region place = ap (λ (rs : List Receive). list_any (λ (r : Receive). is_place_of r.req region place) rs) (reg_live own content log)

-- bytes at home
home_by : (b out : Bool) (content region : List ℕ) (place : ℕ) → (b ≡ true → out ≡ false)
    → cond b (slice_get content place) (cond out None (slice_get region place)) ≡ cond out None (slice_get (cond b content region) place)
home_by true out content region place h = let e = h refl in rw e refl
home_by false out content region place h = refl

-- a receive's range lies in no new region
reg_range : (own : Own) (content : List ℕ) (log : List Deed) (r : Receive) (k : ℕ) → LifeLocal own log → Member r (receives log) → k < r.req.len
    → region_byte own (Did (Reg content) ∷ log) r.req.region.0 (r.req.at + k) ≡ region_byte own log r.req.region.0 (r.req.at + k)
reg_range own content log r k local m lt =
    let w = range_within own log r local m in
    let other : (r.req.region.0 == length (own_regions own log)) ≡ false =
    false_from_ne_true (r.req.region.0 == length (own_regions own log)) (λ t.
    let e = get_or-end (own_regions own log) [] in
    let none : length (get_or (own_regions own log) r.req.region.0 []) ≡ 0 =
    ap (λ (n : ℕ). length (get_or (own_regions own log) n [])) (eqb-true r.req.region.0 (length (own_regions own log)) t) ∙ ap (λ (r : List ℕ). length r) e in
    omega arith) in
    reg_byte own content log r.req.region.0 (r.req.at + k)
    ∙ ap (λ (b : Bool). slice_get (cond b content (get_or (own_regions own log) r.req.region.0 [])) (r.req.at + k)) other

-- what is kept of receives and regions after a region was registered
pub receives_reg : (own : Own) (content : List ℕ) (log : List Deed) (v : Kept) → LifeLocal own (Did (Reg content) ∷ log) → KeepsLives own log v → KeepsReceives own log v
    → KeepsReceives own (Did (Reg content) ∷ log) (after (Did (Reg content)) v)
unfolding after after_instr
receives_reg own content log v local lives k =
    let d : Deed = Did (Reg content) in
    let count = lives.region_count_is in
    let live = reg_live own content log in
    record {
      home_is = λ region place.
          ap (λ (n : ℕ). cond (region == n) (slice_get content place) (v.home region place)) count
          ∙ ap (λ (o : Option ℕ). cond (region == length (own_regions own log)) (slice_get content place) o) (k.home_is region place)
          ∙ home_by (region == length (own_regions own log)) (is_out own log region place) content (get_or (own_regions own log) region []) place
          (λ t. reg_home own log region place local.0 (eqb-true region (length (own_regions own log)) t))
          ∙ ap (λ (b : Bool). cond b None (slice_get (cond (region == length (own_regions own log)) content (get_or (own_regions own log) region [])) place)) (sym (reg_out own content log region place))
          ∙ ap (λ (o : Option ℕ). cond (is_out own (d ∷ log) region place) None o) (sym (reg_byte own content log region place));
      receives_are =
          k.receives_are
          ∙ map_same (kept_receive own log) (kept_receive own (d ∷ log)) (own_live_receives own log)
          (λ r m. sym (kept_stays own d log r local (pair_stays own d log r (reg_stays own content log).pairs_are)
          (λ p e. (reg_stays own content log).brings_none p.message.life p.message.no.0) (λ x lt. reg_range own content log r x local.0 (live_is own log r m).0 lt)))
          ∙ ap (map (kept_receive own (d ∷ log))) (sym live);
    }
