-- What eager deeds complete, and what they write to regions.
use Rattle.std.proofs.Common.{◌≡◌, ℕ, Bool, true, false, not, List, [], ◌∷◌, ◌++◌, map, refl, ap, ◌∙◌, sym, subst}
use Rattle.std.specs.Prelude.{◌==◌, filter}
use Rattle.std.specs.List.{list_any}
use Rattle.std.proofs.lemmas.Bool.{eq-eqb, eqb-true, ne_eqb, not-true, true≢false}
use Rattle.rdm_lists.specs.Lists.{Member}
use Rattle.rdm_num.specs.declared.completion.Completion.{Completion}
use Rattle.rdm_model.specs.Deeds.{Deed, Pushed}
use Rattle.rdm_model.specs.Beginnings.{Own, Messages}
use Rattle.rdm_model.specs.Matches.{receives}
use Rattle.rdm_model.specs.Receives.{RecvEnd, recv_ends, recv_ends_by}
use Rattle.rdm_model.specs.Regions.{after_ends, region_by, regions}
use Rattle.rdm_model.specs.Sends.{Sent, sends}
use Rattle.rdm_model.specs.Replies.{Reply}
use Rattle.rdm_model.specs.Dues.{Progress, after_push, after_deed, progress, is_over, live_of, live_sends}
use Rattle.rdm_model.specs.Completions.{recv_completions, ended_sends, send_completion, completions_by, completions}
use Rattle.rdm_model.specs.Local.{heard_by}
use Rattle.rdm_model.proofs.Numbers.{sends_one}
use Rattle.rdm_model.proofs.SameRegions.{regions_same}
use Rattle.rdm_model.proofs.SameDues.{progress_same, live_sends_same}
use Rattle.rdm_model.proofs.SameCompletions.{completions_same}
use Rattle.rdm_model.proofs.Grows.{agree_grows}
use Rattle.rdm_ep.specs.Eager.{IsEager}
use Rattle.rdm_ep.proofs.Apart.{ApartBy, apart_filter}
use Rattle.rdm_ep.proofs.Currents.{never_forgotten}
use Rattle.rdm_ep.proofs.EagerSends.{send_number, sends_apart, has_any}
use Rattle.rdm_ep.proofs.Progress.{sends_left, push_left, sends_are}
use Rattle.rdm_ep.proofs.Pushes.{own_progress, own_live_sends, sends_ended, ended_left, live_of_is, live_sends_are}
use Rattle.rdm_ep.proofs.Ends.{ends_of, ends_step}
use Rattle.rdm_lists.proofs.Members.{member-filter, filter-member, member_list_any, list_any_member}
use Rattle.rdm_lists.proofs.Same.{filter_where}
use Rattle.rdm_lists.proofs.Filters.{filter_nothing, list_any_none}

-- one of the sends has that number
abbrev pub has_number : List Sent → ℕ → Bool
has_number live n = list_any (λ (t : Sent). t.number == n) live

-- those sends whose number no live one has
abbrev pub gone_from : List Sent → List Sent → List Sent
gone_from live sents = filter (λ (s : Sent). not (has_number live s.number)) sents

-- no send is gone where all are live
gone_none : (live sents : List Sent) → ((s : Sent) → Member s sents → Member s live) → gone_from live sents ≡ []
gone_none live sents h =
    filter_nothing (λ (s : Sent). not (has_number live s.number)) sents
    (λ s m. ap not (member_list_any (λ (t : Sent). t.number == s.number) s live (h s m) (eq-eqb s.number s.number refl)))

-- the first send is gone where the others are live
gone_first : (s : Sent) (ss : List Sent) → ApartBy send_number (s ∷ ss) → gone_from ss (s ∷ ss) ≡ s ∷ []
gone_first s ss a =
    let no : has_number ss s.number ≡ false = list_any_none (λ (t : Sent). t.number == s.number) ss (λ t m. ne_eqb t.number s.number (a.0 t m)) in
    let rest = gone_none ss ss (λ x m. m) in
    rw (no, rest) refl

-- the sends that are gone by a push
gone_by_push : (rs : List Reply) (live : List Sent) → ApartBy send_number live → gone_from (sends_left rs live) live ≡ sends_ended rs live
unfolding sends_left sends_ended
gone_by_push [] [] a = refl
gone_by_push [] (s ∷ ss) a = gone_first s ss a
gone_by_push (r ∷ rs) live a = gone_none live live (λ x m. m)

-- live sends have numbers of their own
unsent_apart : (own : Own) (ms : Messages) (log : List Deed) → IsEager own log → ApartBy send_number (live_sends own ms log)
unsent_apart own ms log h =
    subst (ApartBy send_number) (sym (live_sends_are own ms log h))
    (apart_filter send_number (λ (s : Sent). not (has_any ((progress own ms log).packets s.number))) (sends own ms log) (sends_apart own ms log))

-- the live sends after a deed, of those that came before it
abbrev pub live_then : Own → Messages → Deed → List Deed → List Sent
live_then own ms d before = live_of (d ∷ before) (after_deed own ms before d (after_push own ms before d (progress own ms before))) (sends own ms before)

-- the sends that are live after a push
then_pushed : (own : Own) (ms : Messages) (before : List Deed) → IsEager own (Pushed ∷ before)
    → live_then own ms Pushed before ≡ sends_left (progress own ms before).replies (live_sends own ms before)
unfolding after_deed
then_pushed own ms before h =
    let l = push_left own ms before h.0 (sends_are own ms before h.0) in
    live_of_is (Pushed ∷ before) (after_deed own ms before Pushed (after_push own ms before Pushed (progress own ms before))) (sends own ms before)
    (λ x. never_forgotten own (Pushed ∷ before) x h) l.sends_are.each
    ∙ l.live_are ∙ ap (sends_left (progress own ms before).replies) (sym (live_sends_are own ms before h.0))

-- the sends that are live after a deed that pushes nothing
then_other : (own : Own) (ms : Messages) (d : Deed) (before : List Deed) → IsEager own (d ∷ before)
    → after_push own ms before d (progress own ms before) ≡ progress own ms before → live_then own ms d before ≡ live_sends own ms before
unfolding after_deed
then_other own ms d before h e =
    ap (λ (p : Progress). live_of (d ∷ before) (after_deed own ms before d p) (sends own ms before)) e
    ∙ live_of_is (d ∷ before) (after_deed own ms before d (progress own ms before)) (sends own ms before)
    (λ x. never_forgotten own (d ∷ before) x h) (sends_are own ms before h.0).each
    ∙ sym (live_sends_are own ms before h.0)

-- a send is over after a deed where no live send has its number then
over_then : (own : Own) (ms : Messages) (d : Deed) (before : List Deed) (s : Sent) → Member s (sends own ms before)
    → is_over (d ∷ before) ((after_deed own ms before d (after_push own ms before d (progress own ms before))).packets s.number) s
    ≡ not (list_any (λ (t : Sent). t.number == s.number) (live_then own ms d before))
unfolding live_of
over_then own ms d before s m =
    let packets = (after_deed own ms before d (after_push own ms before d (progress own ms before))).packets in
    let sents = sends own ms before in
    let over' : Sent → Bool = λ t. is_over (d ∷ before) (packets t.number) t in
    let live' : Sent → Bool = λ t. not (over' t) in
    let same : Sent → Bool = λ t. t.number == s.number in
    (elim (over' s) as (λ b. over' s ≡ b → b ≡ not (list_any same (filter live' sents))) [
      | false ↦ λ e. (let any = member_list_any same s (filter live' sents) (filter-member live' s sents m (ap not e)) (eq-eqb s.number s.number refl) in rw any refl)
      | true ↦ λ e. (elim (list_any same (filter live' sents)) as (λ x. list_any same (filter live' sents) ≡ x → true ≡ not x) [
        | false ↦ λ a. refl
        | true ↦ λ a. absurd (
            let t = list_any_member same (filter live' sents) a in
            let f = member-filter live' t.0 sents t.1 in
            let one : t.0 ≡ s = sends_one own ms before t.0 s f.0 m (eqb-true t.0.number s.number t.2) in
            true≢false (sym e ∙ subst (λ (z : Sent). over' z ≡ false) one (not-true (over' t.0) f.1)))
      ]) refl
    ]) refl

-- the sends that end are those that were live and are not
ended_is : (own : Own) (ms : Messages) (d : Deed) (before : List Deed)
    → ended_sends own ms d before (progress own ms before) ≡ gone_from (live_then own ms d before) (live_sends own ms before)
unfolding ended_sends live_sends live_of
ended_is own ms d before =
    let packets = (after_deed own ms before d (after_push own ms before d (progress own ms before))).packets in
    let live : Sent → Bool = λ s. not (is_over before ((progress own ms before).packets s.number) s) in
    filter_where (λ (s : Sent). is_over (d ∷ before) (packets s.number) s) (λ (s : Sent). not (list_any (λ (t : Sent). t.number == s.number) (live_then own ms d before)))
    (filter live (sends own ms before)) (λ s m. over_then own ms d before s (member-filter live s (sends own ms before) m).0)

-- a deed that pushes nothing ends no send
ended_other : (own : Own) (ms : Messages) (d : Deed) (before : List Deed) → IsEager own (d ∷ before)
    → after_push own ms before d (progress own ms before) ≡ progress own ms before → ended_sends own ms d before (progress own ms before) ≡ []
ended_other own ms d before h e =
    ended_is own ms d before
    ∙ ap (λ (xs : List Sent). gone_from xs (live_sends own ms before)) (then_other own ms d before h e)
    ∙ gone_none (live_sends own ms before) (live_sends own ms before) (λ x m. m)

-- the sends that an eager deed ends, by any account
ended_by : (own : Own) (ms : Messages) (d : Deed) (before : List Deed) → IsEager own (d ∷ before)
    → ended_sends own ms d before (progress own ms before) ≡ ended_left d (progress own ms before).replies (live_sends own ms before)
unfolding ended_left after_push
ended_by own ms Pushed before h =
    ended_is own ms Pushed before
    ∙ ap (λ (xs : List Sent). gone_from xs (live_sends own ms before)) (then_pushed own ms before h)
    ∙ gone_by_push (progress own ms before).replies (live_sends own ms before) (unsent_apart own ms before h.0)
ended_by own ms d before h = ended_other own ms d before h refl

-- the sends that an eager deed ends
pub ended_step : (own : Own) (d : Deed) (before : List Deed) → IsEager own (d ∷ before)
    → ended_sends own (heard_by own.limits.first (d ∷ before)) d before (progress own (heard_by own.limits.first (d ∷ before)) before)
    ≡ ended_left d (own_progress own before).replies (own_live_sends own before)
ended_step own d before h =
    let first = own.limits.first in
    let was = heard_by first before in
    let now = heard_by first (d ∷ before) in
    let a = agree_grows first d before in
    ended_by own now d before h
    ∙ ap (λ (p : Progress). ended_left d p.replies (live_sends own now before)) (sym (progress_same own was now before a))
    ∙ ap (ended_left d (own_progress own before).replies) (sym (live_sends_same own was now before a))

-- the completions of a life, and its regions
abbrev pub own_completions : Own → List Deed → List Completion
own_completions own log = completions own (heard_by own.limits.first log) log

abbrev pub own_regions : Own → List Deed → List (List ℕ)
own_regions own log = regions own.limits.first (heard_by own.limits.first log) log

-- the completions of the receives that an eager deed ends, and those of the sends
abbrev pub new_received : Own → List Deed → Deed → List Completion
new_received own before d = recv_completions (heard_by own.limits.first (d ∷ before)) (receives (d ∷ before)) (ends_of own before d)

abbrev pub new_sent_done : Own → List Deed → Deed → List Completion
new_sent_done own before d = map (send_completion (d ∷ before)) (ended_left d (own_progress own before).replies (own_live_sends own before))

-- the receives that an eager deed ends, by its own account
ends_by_account : (own : Own) (log : List Deed) (d : Deed) (before : List Deed) (ends : List RecvEnd) → log ≡ d ∷ before → IsEager own (d ∷ before)
    → recv_ends_by own.limits.first (heard_by own.limits.first log).head d before ends ≡ ends_of own before d
unfolding heard_by
ends_by_account own log d before ends e h = rw e (ends_step own d before ends h)

-- the completions after an eager deed
pub completions_step : (own : Own) (d : Deed) (before : List Deed) → IsEager own (d ∷ before)
    → own_completions own (d ∷ before) ≡ own_completions own before ++ (new_received own before d ++ new_sent_done own before d)
unfolding completions completions_by
completions_step own d before h =
    let first = own.limits.first in
    let was = heard_by first before in
    let now = heard_by first (d ∷ before) in
    let c = completions_same own was now before (agree_grows first d before) in
    let e = ended_step own d before h in
    let r = ends_by_account own (d ∷ before) d before (recv_ends first now.head before) refl h in
    sym (ap (λ (xs : List Completion). xs ++ completions_by own now d before) c)
    ∙ ap (λ (es : List RecvEnd). own_completions own before ++ (recv_completions now (receives (d ∷ before)) es
    ++ map (send_completion (d ∷ before)) (ended_sends own now d before (progress own now before)))) r
    ∙ ap (λ (ss : List Sent). own_completions own before ++ (new_received own before d ++ map (send_completion (d ∷ before)) ss)) e

-- the regions after an eager deed
pub regions_step : (own : Own) (d : Deed) (before : List Deed) → IsEager own (d ∷ before)
    → own_regions own (d ∷ before)
    ≡ after_ends (heard_by own.limits.first (d ∷ before)) (receives (d ∷ before)) (ends_of own before d) (own_regions own before) ++ region_by d
unfolding regions
regions_step own d before h =
    let first = own.limits.first in
    let was = heard_by first before in
    let now = heard_by first (d ∷ before) in
    let g = regions_same first was now before (agree_grows first d before) in
    let r = ends_by_account own (d ∷ before) d before (recv_ends first now.head before) refl h in
    ap (λ (es : List RecvEnd). after_ends now (receives (d ∷ before)) es (regions first now before) ++ region_by d) r
    ∙ ap (λ (rs : List (List ℕ)). after_ends now (receives (d ∷ before)) (ends_of own before d) rs ++ region_by d) (sym g)
