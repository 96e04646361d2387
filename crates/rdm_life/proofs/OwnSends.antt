-- The sends of a life after a deed, and those of them that are live.
use Rattle.std.proofs.Common.{◌≡◌, ℕ, Bool, true, false, not, ◌&&◌, List, ◌∷◌, ◌++◌, refl, inl, inr, sym, ◌∙◌, ap, subst}
use Rattle.std.specs.Prelude.{filter}
use Rattle.std.specs.List.{list_any}
use Rattle.std.proofs.lemmas.Bool.{or_left, or_right, or_cases}
use Rattle.std.proofs.lemmas.List.Elements.{filter-append}
use Rattle.rdm_lists.proofs.Filters.{filter_both}
use Rattle.rdm_lists.proofs.Same.{filter_where}
use Rattle.rdm_pkt.specs.declared.Packet.{Packet}
use Rattle.rdm_model.specs.Beginnings.{Own}
use Rattle.rdm_model.specs.Currents.{is_forgotten}
use Rattle.rdm_model.specs.Deeds.{Deed}
use Rattle.rdm_model.specs.Dues.{Progress, progress, after_push, after_deed, is_complete, is_over, ends_send, confirms, live_of, live_sends}
use Rattle.rdm_model.specs.Sends.{Sent, sends, sent_by, with_sent}
use Rattle.rdm_model.proofs.Grows.{agree_grows}
use Rattle.rdm_model.proofs.SameDues.{after_push_same, progress_same}
use Rattle.rdm_model.proofs.SameRegions.{sent_by_same, sends_same}
use Rattle.rdm_model.proofs.Served.{pushed_longer}
use Rattle.rdm_law.proofs.Ends.Overs.{CompleteBy, complete_by, complete_from, pushed_still}
use Rattle.rdm_life.specs.Keeps.{told, own_sends, own_progress}

-- the sends that are not over
abbrev pub own_live : Own → List Deed → List Sent
own_live own log = live_sends own (told own log) log

-- the send that a deed makes
abbrev pub new_sends : Own → List Deed → Deed → List Sent
new_sends own before d = sent_by own (told own before) before (own_sends own before) d

-- the packets of a send that were pushed
abbrev pub own_packets : Own → List Deed → ℕ → List Packet
own_packets own log n = (own_progress own log).packets n

-- the send is over
abbrev pub own_over : Own → List Deed → Sent → Bool
own_over own log s = is_over log (own_packets own log s.number) s

-- the sends after a deed
pub own_sends_step : (own : Own) (d : Deed) (before : List Deed) → own_sends own (d ∷ before) ≡ own_sends own before ++ new_sends own before d
unfolding sends with_sent
own_sends_step own d before =
    let first = own.limits.first in
    let a = agree_grows first d before in
    let s = sends_same own (told own before) (told own (d ∷ before)) before a in
    let n = sent_by_same own (told own before) (told own (d ∷ before)) before (own_sends own before) d a in
    sym (ap (λ (xs : List Sent). xs ++ sent_by own (told own (d ∷ before)) before xs d) s)
    ∙ ap (λ (xs : List Sent). own_sends own before ++ xs) (sym n)

-- what is left after a deed
pub own_progress_step : (own : Own) (d : Deed) (before : List Deed)
    → own_progress own (d ∷ before) ≡ after_deed own (told own (d ∷ before)) before d (after_push own (told own before) before d (own_progress own before))
unfolding progress
own_progress_step own d before =
    let was = told own before in
    let now = told own (d ∷ before) in
    let a = agree_grows own.limits.first d before in
    let p = progress_same own was now before a in
    let q = after_push_same own was now before d (own_progress own before) a in
    ap (after_deed own now before d) (ap (after_push own now before d) (sym p) ∙ sym q)

-- what was pushed stays first
pub packets_longer : (own : Own) (d : Deed) (before : List Deed) (n : ℕ) → (more : List Packet) × (own_packets own (d ∷ before) n ≡ own_packets own before n ++ more)
packets_longer own d before n =
    let now = told own (d ∷ before) in
    let r = pushed_longer own now d before n in
    let p = progress_same own (told own before) now before (agree_grows own.limits.first d before) in
    (r.0, r.1 ∙ ap (λ (x : Progress). x.packets n ++ r.0) (sym p))

-- a send that is complete stays so
complete_more : (d : Deed) (before : List Deed) (pushed more : List Packet) (s : Sent) → CompleteBy before pushed s → CompleteBy (d ∷ before) (pushed ++ more) s
complete_more d before pushed more s (inl a) = inl (a.0, or_right (ends_send s.to s.number d) (list_any (ends_send s.to s.number) before) a.1)
complete_more d before pushed more s (inr (inl a)) = inr (inl (a.0, a.1, or_right (confirms s.to s.message.no.0 d) (list_any (confirms s.to s.message.no.0) before) a.2))
complete_more d before pushed more s (inr (inr a)) = inr (inr (a.0, a.1, pushed_still s pushed more a.2))

-- a send that is over stays so
over_more : (d : Deed) (before : List Deed) (pushed more : List Packet) (s : Sent) → is_over before pushed s ≡ true → is_over (d ∷ before) (pushed ++ more) s ≡ true
unfolding is_over is_forgotten
over_more d before pushed more s h =
    elim (or_cases (is_forgotten before s.to) (is_complete before pushed s) h) [
      | inl f ↦ or_left (is_forgotten (d ∷ before) s.to) (is_complete (d ∷ before) (pushed ++ more) s) (or_left (is_forgotten before s.to) _ f)
      | inr c ↦ or_right (is_forgotten (d ∷ before) s.to) (is_complete (d ∷ before) (pushed ++ more) s)
          (complete_from (d ∷ before) (pushed ++ more) s (complete_more d before pushed more s (complete_by before pushed s c)))
    ]

-- a send that is over stays so after a deed
pub over_stays : (own : Own) (d : Deed) (before : List Deed) (s : Sent) → own_over own before s ≡ true → own_over own (d ∷ before) s ≡ true
over_stays own d before s h =
    let more = packets_longer own d before s.number in
    subst (λ (ps : List Packet). is_over (d ∷ before) ps s ≡ true) (sym more.1) (over_more d before (own_packets own before s.number) more.0 s h)

-- what is not over after a deed was not before
both_live : (was now : Bool) → (was ≡ true → now ≡ true) → (not was && not now) ≡ not now
both_live true now h = rw (h refl) refl
both_live false now h = refl

-- those that are not over after a deed are among those that were not before
pub live_step : (own : Own) (d : Deed) (before : List Deed)
    → own_live own (d ∷ before) ≡ filter (λ (s : Sent). not (own_over own (d ∷ before) s)) (own_live own before ++ new_sends own before d)
unfolding live_sends live_of
live_step own d before =
    let was : Sent → Bool = λ s. not (own_over own before s) in
    let now : Sent → Bool = λ s. not (own_over own (d ∷ before) s) in
    let sents = own_sends own before in
    let news = new_sends own before d in
    ap (filter now) (own_sends_step own d before)
    ∙ filter-append now sents news
    ∙ ap (λ (xs : List Sent). xs ++ filter now news)
    (sym (filter_where (λ s. was s && now s) now sents (λ s m. both_live (own_over own before s) (own_over own (d ∷ before) s) (over_stays own d before s))) ∙ filter_both was now sents)
    ∙ sym (filter-append now (filter was sents) news)
