-- What is known of a send that is accepted, by the tests that it passed.
use Rattle.std.proofs.Common.{◌≡◌, ℕ, ◌+◌, ◌<◌, ◌≤◌, Bool, true, false, cond, ◌&&◌, List, [], ◌∷◌, map, length, take, drop, Option, Some, None, refl, arith, sym, ◌∙◌, ap, length-take-le, length-drop}
use Rattle.std.specs.Prelude.{◌==◌, is_none, get_or, slice_get, unwrap_or, nat_lt, nat_le}
use Rattle.std.specs.List.{list_any}
use Rattle.std.proofs.lemmas.Bool.{and_parts, and_from, ltb-true, ltb-false, leb-true, false_from_ne_true, true≢false}
use Rattle.std.proofs.lemmas.List.{get_or-take, get_or-drop}
use Rattle.std.proofs.lemmas.Option.{slice_get-get_or, unwrap_or-slice_get}
use Rattle.rdm_lists.specs.Lists.{below, first_case}
use Rattle.rdm_lists.proofs.Members.{list_any_false, list_any_member}
use Rattle.rdm_lists.proofs.Same.{flat_map_same}
use Rattle.rdm_num.specs.Pieces.{overlaps}
use Rattle.rdm_num.specs.declared.parts.Span.{Span}
use Rattle.rdm_num.specs.declared.request.SendReq.{SendReq}
use Rattle.rdm_model.specs.declared.job.Instr.TheVariants.{Send}
use Rattle.rdm_model.specs.declared.answer.DidWhat.{DidWhat}
use Rattle.rdm_model.specs.declared.answer.Next.{Next as Answer}
use Rattle.rdm_model.specs.declared.answer.Next.TheVariants.{Did as DidAnswer}
use Rattle.rdm_model.specs.Answers.{answer_by, send_answer, is_out_of_range}
use Rattle.rdm_model.specs.Beginnings.{Own}
use Rattle.rdm_model.specs.Currents.{current}
use Rattle.rdm_model.specs.Deeds.{Deed, Did}
use Rattle.rdm_model.specs.Facts.{meets_receive, regions_of}
use Rattle.rdm_model.specs.Matches.{Receive}
use Rattle.rdm_model.specs.Sends.{range_of, bytes_of}
use Rattle.rdm_model.proofs.Rows.{overlaps_from}
use Rattle.rdm_law.proofs.Accounts.Whole.{put_together}
use Rattle.rdm_law.proofs.Lives.Lives.{LifeStep}
use Rattle.rdm_life.specs.Kept.{Kept}
use Rattle.rdm_life.specs.Keeps.{own_regions, own_live_receives, is_out, KeepsReceives}
use Rattle.rdm_life.specs.Memory.{bytes_home, byte_home, is_place_of}

-- a case that does not answer so was passed
passed : (b : Bool) (x : Answer) (cs : List (Bool × Answer)) (last : Answer) (what : DidWhat) → first_case ((b, x) ∷ cs) last ≡ DidAnswer what → ((w : DidWhat) → x ≡ DidAnswer w → ⊥)
    → (b ≡ false) × (first_case cs last ≡ DidAnswer what)
unfolding first_case
passed true x cs last what h never = absurd (never what h)
passed false x cs last what h never = (refl, h)

-- an accepted send goes to a current life, from ranges within their regions that meet no live receive
pub record Accepted (own : Own) (log : List Deed) (req : SendReq) : Type 0 where
  pub within : list_any (λ (p : Span). nat_lt (length (get_or (own_regions own log) p.region.0 [])) (p.at + p.len)) req.parts ≡ false
  pub named : is_none (current log req.to.0) ≡ false
  pub apart : list_any (λ (p : Span). list_any (λ (r : Receive). r.req.region.0 == p.region.0 && overlaps p.at p.len r.req.at r.req.len) (own_live_receives own log)) req.parts ≡ false

-- what the tests tell
pub accepted : (own : Own) (log : List Deed) (req : SendReq) → LifeStep own log (Did (Send req)) → Accepted own log req
unfolding answer_by send_answer is_out_of_range meets_receive regions_of
accepted own log req step =
    let a = passed _ _ _ _ step.2 step.3 (λ w e. cc) in
    let b = passed _ _ _ _ step.2 a.1 (λ w e. cc) in
    let c = passed _ _ _ _ step.2 b.1 (λ w e. cc) in
    let d = passed _ _ _ _ step.2 c.1 (λ w e. cc) in
    record { within = b.0; named = c.0; apart = d.0 }

-- a place of a range that meets no receive is at home
at_home : (own : Own) (log : List Deed) (region at len k : ℕ)
    → list_any (λ (r : Receive). r.req.region.0 == region && overlaps at len r.req.at r.req.len) (own_live_receives own log) ≡ false → k < len
    → is_out own log region (at + k) ≡ false
unfolding is_out is_place_of
at_home own log region at len k none lt =
    false_from_ne_true (list_any (λ (r : Receive). is_place_of r.req region (at + k)) (own_live_receives own log)) (λ h.
    let m = list_any_member (λ (r : Receive). is_place_of r.req region (at + k)) (own_live_receives own log) h in
    let r = m.0 in
    let p = and_parts ((r.req.region.0 == region) && nat_le r.req.at (at + k)) (nat_lt (at + k) (r.req.at + r.req.len)) m.2 in
    let q = and_parts (r.req.region.0 == region) (nat_le r.req.at (at + k)) p.0 in
    let low = leb-true r.req.at (at + k) q.1 in
    let high = ltb-true (at + k) (r.req.at + r.req.len) p.1 in
    let o = overlaps_from at len r.req.at r.req.len (omega arith) (omega arith) (omega arith) (omega arith) in
    true≢false (sym (and_from (r.req.region.0 == region) (overlaps at len r.req.at r.req.len) q.0 o)
    ∙ list_any_false (λ (x : Receive). x.req.region.0 == region && overlaps at len x.req.at x.req.len) (own_live_receives own log) none r m.1))

-- its byte is that of its region
byte_there : (own : Own) (log : List Deed) (v : Kept) (region at len k : ℕ) → KeepsReceives own log v
    → list_any (λ (r : Receive). r.req.region.0 == region && overlaps at len r.req.at r.req.len) (own_live_receives own log) ≡ false → k < len
    → byte_home v region (at + k) ≡ get_or (get_or (own_regions own log) region []) (at + k) 0
byte_there own log v region at len k keeps none lt =
    let xs = get_or (own_regions own log) region [] in
    ap (λ (o : Option ℕ). unwrap_or o 0) (keeps.home_is region (at + k) ∙ ap (λ (b : Bool). cond b None (slice_get xs (at + k))) (at_home own log region at len k none lt))
    ∙ unwrap_or-slice_get xs (at + k) 0

-- the bytes of a range
range_there : (own : Own) (log : List Deed) (v : Kept) (region at len : ℕ) → KeepsReceives own log v
    → list_any (λ (r : Receive). r.req.region.0 == region && overlaps at len r.req.at r.req.len) (own_live_receives own log) ≡ false
    → at + len ≤ length (get_or (own_regions own log) region [])
    → map (λ k. byte_home v region (at + k)) (below len) ≡ range_of (own_regions own log) region at len
unfolding range_of
range_there own log v region at len keeps none fits =
    let xs = get_or (own_regions own log) region [] in
    let d = length-drop at xs in
    let l : length (take len (drop at xs)) ≡ len = length-take-le len (drop at xs) (omega arith) in
    put_together (λ k. byte_home v region (at + k)) len (take len (drop at xs)) l
    (λ k lt.
    slice_get-get_or (take len (drop at xs)) k 0 (omega arith)
    ∙ ap Some (get_or-take len (drop at xs) k 0 lt ∙ get_or-drop at xs k 0 ∙ sym (byte_there own log v region at len k keeps none lt)))

-- the bytes of an accepted send
pub bytes_there : (own : Own) (log : List Deed) (v : Kept) (req : SendReq) → KeepsReceives own log v → Accepted own log req
    → bytes_home v req.parts ≡ bytes_of (own_regions own log) req.parts
unfolding bytes_home bytes_of
bytes_there own log v req keeps a =
    flat_map_same (λ (s : Span). map (λ k. byte_home v s.region.0 (s.at + k)) (below s.len)) (λ (s : Span). range_of (own_regions own log) s.region.0 s.at s.len) req.parts
    (λ p m.
    range_there own log v p.region.0 p.at p.len keeps
    (list_any_false (λ (x : Span). list_any (λ (r : Receive). r.req.region.0 == x.region.0 && overlaps x.at x.len r.req.at r.req.len) (own_live_receives own log)) req.parts a.apart p m)
    (ltb-false (length (get_or (own_regions own log) p.region.0 [])) (p.at + p.len)
    (list_any_false (λ (x : Span). nat_lt (length (get_or (own_regions own log) x.region.0 [])) (x.at + x.len)) req.parts a.within p m)))
