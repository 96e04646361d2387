-- Of eager deeds: the live receives are those that are posted.
use Rattle.std.proofs.Common.{◌≡◌, ℕ, ◌<◌, Bool, true, false, not, List, [], ◌∷◌, ◌++◌, map, length, Option, Some, None, refl, arith, ap, ◌∙◌, sym, subst}
use Rattle.std.proofs.Math.Bool.{or-false, or-true}
use Rattle.std.specs.Prelude.{◌==◌, ◌&&◌, ◌||◌, filter, find, option_map, is_some}
use Rattle.std.proofs.lemmas.Bool.{ne_eqb, eq-eqb, eqb-true}
use Rattle.std.proofs.lemmas.List.{append-nil, append_assoc, map-append}
use Rattle.std.proofs.lemmas.List.Elements.{filter-append}
use Rattle.rdm_lists.specs.Lists.{Member, without_first}
use Rattle.rdm_match.specs.declared.PostedRecv.{PostedRecv}
use Rattle.rdm_match.specs.declared.Arrived.{Arrived}
use Rattle.rdm_match.specs.Matcher.{Arrive, Pair, Matching, accepts, is_recv, after_post, after_arrive, after, run}
use Rattle.rdm_model.specs.declared.job.Instr.TheVariants.{Recv, Cancel as CancelOp}
use Rattle.rdm_model.specs.Deeds.{Deed, Did}
use Rattle.rdm_model.specs.Beginnings.{Own}
use Rattle.rdm_model.specs.Matches.{Receive, receive, receives, received_by, with_received, matching}
use Rattle.rdm_model.specs.Receives.{RecvEnd, Filled, Withdrawn, ended_recv, has_ended, live_receives}
use Rattle.rdm_model.specs.Local.{heads_by}
use Rattle.rdm_ep.specs.Eager.{IsEager}
use Rattle.rdm_ep.proofs.Options.{find-map, is_some-map, without-map, list_any-push, not_or}
use Rattle.rdm_ep.proofs.Apart.{ApartBy, apart_filter, apart_without}
use Rattle.rdm_ep.proofs.Accepted.{number_of, receive_numbered_so, receives_apart}
use Rattle.rdm_ep.proofs.Pairs.{own_matching, arriving, event_of, matching_step, met_by, met_by_post, met_by_arrive, met_by_all}
use Rattle.rdm_ep.proofs.Ends.{own_ends, ends_of, ends_more, EndedBelow, ended_below}
use Rattle.rdm_lists.proofs.Members.{member-filter, find_member}
use Rattle.rdm_lists.proofs.Options.{some_of}
use Rattle.rdm_lists.proofs.Same.{filter_same, filter_where, find_where, without_where}
use Rattle.rdm_lists.proofs.Filters.{filter_both, list_any_none}

-- the receives that have not ended, by what the deeds themselves tell
abbrev pub own_live : Own → List Deed → List Receive
own_live own log = live_receives own.limits.first (heads_by log) log

-- the matcher's view of a receive
abbrev pub seen : Receive → PostedRecv
seen r = r.posted

-- those receives that have not ended
abbrev pub unended : List RecvEnd → List Receive → List Receive
unended ends rs = filter (λ (r : Receive). not (has_ended ends r.number)) rs

-- the live receives are those that have not ended
live_is : (own : Own) (log : List Deed) → own_live own log ≡ unended (own_ends own log) (receives log)
unfolding live_receives
live_is own log = refl

-- the live receives with a new one that may have met its message
unfoldable pub live_post : List Receive → Receive → Option Arrived → List Receive
live_post live r None = live ++ r ∷ []
live_post live r (Some a) = live

-- the live receives without the one that a message met
unfoldable pub live_arrive : List Receive → Arrived → Option Receive → List Receive
live_arrive live a None = live
live_arrive live a (Some r) = without_first (λ (q : Receive). accepts q.posted a) live

-- the live receives without those that messages met, one after the other
unfoldable pub live_arrivals : List Receive → List Arrived → List Receive
live_arrivals live [] = live
live_arrivals live (a ∷ as') = live_arrivals (live_arrive live a (find (λ (q : Receive). accepts q.posted a) live)) as'

-- the live receives without the one of a number
abbrev pub live_cancel : (recv : ℕ) → List Receive → List Receive
live_cancel recv live = without_first (λ (r : Receive). r.number == recv) live

-- the live receives after an eager deed
unfoldable pub live_after : Own → List Receive → Matching → List Deed → Deed → List Receive
live_after own live m before (Did (Recv req)) =
    live_post live (receive (length (receives before)) before req) (find (accepts (receive (length (receives before)) before req).posted) m.arrived)
live_after own live m before (Did (CancelOp recv)) = live_cancel recv.0 live
live_after own live m before d = live_arrivals live (arriving own d before)

-- whether a receive ended, with one end more
ended_push : (ends : List RecvEnd) (e : RecvEnd) (n : ℕ) → has_ended (ends ++ e ∷ []) n ≡ (has_ended ends n || ended_recv e == n)
unfolding has_ended
ended_push ends e n = list_any-push (λ x. ended_recv x == n) ends e

-- the receives that have not ended, after a new one
live_post_is : (rs : List Receive) (r : Receive) (ends : List RecvEnd) (o : Option Arrived) → ((x : Receive) → Member x rs → x.number < r.number)
    → EndedBelow r.number ends → r.posted.id.0 ≡ r.number
    → unended (ends ++ map Filled (met_by_post r.posted o)) (rs ++ r ∷ []) ≡ live_post (unended ends rs) r o
unfolding met_by_post live_post has_ended ended_recv
live_post_is rs r ends None below ended same =
    let none : has_ended ends r.number ≡ false = list_any_none (λ e. ended_recv e == r.number) ends (λ e m. ne_eqb (ended_recv e) r.number (λ q. let f = ended e m in omega arith)) in
    rw (append-nil ends) (filter-append (λ (x : Receive). not (has_ended ends x.number)) rs (r ∷ []) ∙ (rw none refl))
live_post_is rs r ends (Some a) below ended same =
    let q : RecvEnd = Filled (record { recv = r.posted; message = a }) in
    let here : has_ended (ends ++ q ∷ []) r.number ≡ true =
    ended_push ends q r.number ∙ (let e : (r.posted.id.0 == r.number) ≡ true = eq-eqb r.posted.id.0 r.number same in rw e (or-true (has_ended ends r.number))) in
    let others : unended (ends ++ q ∷ []) rs ≡ unended ends rs =
    filter_where (λ (x : Receive). not (has_ended (ends ++ q ∷ []) x.number)) (λ (x : Receive). not (has_ended ends x.number)) rs
    (λ x m. ap not (ended_push ends q x.number ∙
    (let e : (r.posted.id.0 == x.number) ≡ false = ne_eqb r.posted.id.0 x.number (λ e. let f = below x m in omega arith) in rw e (or-false (has_ended ends x.number))))) in
    filter-append (λ (x : Receive). not (has_ended (ends ++ q ∷ []) x.number)) rs (r ∷ [])
    ∙ (rw (others, here) (append-nil (unended ends rs)))

-- the receives that have not ended, after the end of a live one that is found by a test
live_end_is : (rs : List Receive) (ends : List RecvEnd) (e : RecvEnd) (t : Receive → Bool) (r : Receive) → ApartBy number_of rs
    → find t (unended ends rs) ≡ Some r → ended_recv e ≡ r.number → unended (ends ++ e ∷ []) rs ≡ without_first t (unended ends rs)
live_end_is rs ends e t r apart is same =
    filter_same (λ (x : Receive). not (has_ended (ends ++ e ∷ []) x.number)) (λ (x : Receive). not (has_ended ends x.number) && not (r.number == x.number)) rs
    (λ x. ap not (ended_push ends e x.number) ∙ not_or (has_ended ends x.number) (ended_recv e == x.number) ∙ ap (λ (n : ℕ). not (has_ended ends x.number) && not (n == x.number)) same)
    ∙ filter_both (λ (x : Receive). not (has_ended ends x.number)) (λ (x : Receive). not (r.number == x.number)) rs
    ∙ apart_without number_of t (unended ends rs) r (apart_filter number_of (λ (x : Receive). not (has_ended ends x.number)) rs apart) is

-- the receives that have not ended, after a message came
live_arrive_is : (rs : List Receive) (ends : List RecvEnd) (a : Arrived) (o : Option Receive) → ApartBy number_of rs → ((x : Receive) → Member x rs → x.posted.id.0 ≡ x.number)
    → find (λ (q : Receive). accepts q.posted a) (unended ends rs) ≡ o
    → unended (ends ++ map Filled (met_by_arrive a (option_map seen o))) rs ≡ live_arrive (unended ends rs) a o
unfolding met_by_arrive live_arrive ended_recv
live_arrive_is rs ends a None apart same is = ap (λ (xs : List RecvEnd). unended xs rs) (append-nil ends)
live_arrive_is rs ends a (Some r) apart same is =
    let m = find_member (λ (x : Receive). accepts x.posted a) r (unended ends rs) is in
    let e : r.posted.id.0 ≡ r.number = same r (member-filter (λ (x : Receive). not (has_ended ends x.number)) r rs m.0).0 in
    live_end_is rs ends (Filled (record { recv = r.posted; message = a })) (λ (x : Receive). accepts x.posted a) r apart is e

-- a receive that finds no message waits here and there
post_waits : (live : List Receive) (m : Matching) (r : Receive) (o : Option Arrived) → map seen live ≡ m.posted → map seen (live_post live r o) ≡ (after_post m r.posted o).posted
unfolding live_post after_post
post_waits live m r None w = map-append seen live (r ∷ []) ∙ ap (λ (xs : List PostedRecv). xs ++ r.posted ∷ []) w
post_waits live m r (Some a) w = w

-- the receive that takes a message is gone here and there
pub arrive_waits : (live : List Receive) (m : Matching) (a : Arrived) (o : Option Receive) → map seen live ≡ m.posted
    → map seen (live_arrive live a o) ≡ (after_arrive m a (option_map seen o)).posted
unfolding live_arrive after_arrive
arrive_waits live m a None w = w
arrive_waits live m a (Some r) w = sym (without-map seen (λ q. accepts q a) live) ∙ ap (λ (xs : List PostedRecv). without_first (λ q. accepts q a) xs) w

-- the receive that meets a message in the matcher is a live one
pub met_found : (live : List Receive) (m : Matching) (a : Arrived) → map seen live ≡ m.posted
    → find (λ r. accepts r a) m.posted ≡ option_map seen (find (λ (q : Receive). accepts q.posted a) live)
met_found live m a w = ap (λ (xs : List PostedRecv). find (λ r. accepts r a) xs) (sym w) ∙ find-map seen (λ r. accepts r a) live

-- what is known of receives that are kept apart from those that ended
pub record LiveOf (live rs : List Receive) (ends : List RecvEnd) (m : Matching) : Type 0 where
  pub live_are : live ≡ unended ends rs
  pub waiting : map seen live ≡ m.posted

-- after a message came
arrival_live : (a : Arrived) (live rs : List Receive) (ends : List RecvEnd) (m : Matching) → ApartBy number_of rs → ((x : Receive) → Member x rs → x.posted.id.0 ≡ x.number)
    → LiveOf live rs ends m → LiveOf (live_arrive live a (find (λ (q : Receive). accepts q.posted a) live)) rs (ends ++ map Filled (met_by m (Arrive a))) (after m (Arrive a))
unfolding after met_by
arrival_live a live rs ends m apart same k =
    let o = find (λ (q : Receive). accepts q.posted a) live in
    let found = met_found live m a k.waiting in
    record {
      live_are =
          ap (λ (xs : List Receive). live_arrive xs a o) k.live_are
          ∙ sym (live_arrive_is rs ends a o apart same (ap (find (λ (q : Receive). accepts q.posted a)) (sym k.live_are)))
          ∙ ap (λ (x : Option PostedRecv). unended (ends ++ map Filled (met_by_arrive a x)) rs) (sym found);
      waiting = arrive_waits live m a o k.waiting ∙ ap (λ (x : Option PostedRecv). (after_arrive m a x).posted) (sym found);
    }

-- after messages came, one after the other
arrivals_live : (as' : List Arrived) (live rs : List Receive) (ends : List RecvEnd) (m : Matching) → ApartBy number_of rs → ((x : Receive) → Member x rs → x.posted.id.0 ≡ x.number)
    → LiveOf live rs ends m → LiveOf (live_arrivals live as') rs (ends ++ map Filled (met_by_all m (map Arrive as'))) (run m (map Arrive as'))
unfolding live_arrivals run met_by_all
arrivals_live [] live rs ends m apart same k = subst (λ (es : List RecvEnd). LiveOf live rs es m) (sym (append-nil ends)) k
arrivals_live (a ∷ as') live rs ends m apart same k =
    let news = met_by m (Arrive a) in
    let later = met_by_all (after m (Arrive a)) (map Arrive as') in
    let step = arrivals_live as' (live_arrive live a (find (λ (q : Receive). accepts q.posted a) live)) rs (ends ++ map Filled news) (after m (Arrive a)) apart same
    (arrival_live a live rs ends m apart same k) in
    let e : (ends ++ map Filled news) ++ map Filled later ≡ ends ++ map Filled (news ++ later) =
    append_assoc ends (map Filled news) (map Filled later) ∙ ap (λ (es : List RecvEnd). ends ++ es) (sym (map-append Filled news later)) in
    subst (λ (es : List RecvEnd). LiveOf (live_arrivals (live_arrive live a (find (λ (q : Receive). accepts q.posted a) live)) as') rs es (run (after m (Arrive a)) (map Arrive as'))) e step

-- the matcher knows an accepted receive by its number
seen_number : (log : List Deed) (x : Receive) → Member x (receives log) → x.posted.id.0 ≡ x.number
seen_number log x m = sym (ap (λ (y : PostedRecv). y.id.0) (receive_numbered_so log x m).1)

-- a live receive was accepted
pub live_member : (own : Own) (log : List Deed) (x : Receive) → Member x (own_live own log) → Member x (receives log)
unfolding live_receives
live_member own log x m = (member-filter (λ (r : Receive). not (has_ended (own_ends own log) r.number)) x (receives log) m).0

-- so is a live one
pub live_seen : (own : Own) (log : List Deed) (x : Receive) → Member x (own_live own log) → x.posted.id.0 ≡ x.number
live_seen own log x m = seen_number log x (live_member own log x m)

-- the receive of a number that waits is the live one of that number
pub waiting_found : (recv : ℕ) (live : List Receive) (m : Matching) → ((x : Receive) → Member x live → x.posted.id.0 ≡ x.number) → map seen live ≡ m.posted
    → find (is_recv recv) m.posted ≡ option_map seen (find (λ (x : Receive). x.number == recv) live)
unfolding is_recv
waiting_found recv live m same w =
    ap (find (is_recv recv)) (sym w) ∙ find-map seen (is_recv recv) live
    ∙ ap (option_map seen) (find_where (λ (x : Receive). is_recv recv (seen x)) (λ (x : Receive). x.number == recv) live (λ x k. ap (λ (n : ℕ). n == recv) (same x k)))

-- so a receive that waits is live
pub waiting_live : (recv : ℕ) (live : List Receive) (m : Matching) → ((x : Receive) → Member x live → x.posted.id.0 ≡ x.number) → map seen live ≡ m.posted
    → is_some (find (is_recv recv) m.posted) ≡ true → (r : Receive) × (find (λ (x : Receive). x.number == recv) live ≡ Some r) × (r.number ≡ recv)
waiting_live recv live m same w h =
    let t : Receive → Bool = λ x. x.number == recv in
    let s = some_of (find t live) (sym (is_some-map seen (find t live)) ∙ ap is_some (sym (waiting_found recv live m same w)) ∙ h) in
    (s.0, s.1, eqb-true s.0.number recv (find_member t s.0 live s.1).1)

-- the receive is gone here and there
cancel_waits : (recv : ℕ) (live : List Receive) (m : Matching) → ((x : Receive) → Member x live → x.posted.id.0 ≡ x.number) → map seen live ≡ m.posted
    → map seen (live_cancel recv live) ≡ without_first (is_recv recv) m.posted
unfolding is_recv
cancel_waits recv live m same w =
    ap (map seen) (without_where (λ (x : Receive). x.number == recv) (λ (x : Receive). is_recv recv (seen x)) live (λ x k. ap (λ (n : ℕ). n == recv) (sym (same x k))))
    ∙ sym (without-map seen (is_recv recv) live) ∙ ap (without_first (is_recv recv)) w

-- the receives after an eager deed
deed_live : (own : Own) (d : Deed) (before : List Deed) → IsEager own (d ∷ before) → map seen (own_live own before) ≡ (own_matching own before).posted
    → LiveOf (live_after own (own_live own before) (own_matching own before) before d) (receives (d ∷ before)) (own_ends own before ++ ends_of own before d)
    (run (own_matching own before) (event_of own d before))
unfolding receives with_received received_by event_of live_after run after met_by_all met_by ended_recv
deed_live own (Did (Recv req)) before h w =
    let m = own_matching own before in
    let r = receive (length (receives before)) before req in
    let o = find (accepts r.posted) m.arrived in
    record {
      live_are =
          ap (λ (xs : List Receive). live_post xs r o) (live_is own before)
          ∙ sym (live_post_is (receives before) r (own_ends own before) o (λ x n. (receive_numbered_so before x n).0) (ended_below own before h.0) refl)
          ∙ ap (λ (ps : List Pair). unended (own_ends own before ++ map Filled ps) (receives before ++ r ∷ [])) (sym (append-nil (met_by_post r.posted o)));
      waiting = post_waits (own_live own before) m r o w;
    }
deed_live own (Did (CancelOp recv)) before h w =
    let m = own_matching own before in
    let live = own_live own before in
    let same = live_seen own before in
    let r = waiting_live recv.0 live m same w h.1 in
    let t : Receive → Bool = λ x. x.number == recv.0 in
    let found : find t (unended (own_ends own before) (receives before)) ≡ Some r.0 = subst (λ (xs : List Receive). find t xs ≡ Some r.0) (live_is own before) r.1 in
    let end = live_end_is (receives before) (own_ends own before) (Withdrawn recv.0) t r.0 (receives_apart before) found (sym r.2) in
    record {
      live_are = ap (live_cancel recv.0) (live_is own before) ∙ sym end ∙ ap (unended (own_ends own before ++ Withdrawn recv.0 ∷ [])) (sym (append-nil (receives before)));
      waiting = cancel_waits recv.0 live m same w;
    }
deed_live own d before h w =
    let m = own_matching own before in
    let k = arrivals_live (arriving own d before) (own_live own before) (receives before) (own_ends own before) m (receives_apart before)
    (λ x n. seen_number before x n) (record { live_are = live_is own before; waiting = w }) in
    rw (append-nil (receives before)) k

-- the live receives after an eager deed, where they were those that wait
live_step_by : (own : Own) (d : Deed) (before : List Deed) → IsEager own (d ∷ before) → map seen (own_live own before) ≡ (own_matching own before).posted
    → (own_live own (d ∷ before) ≡ live_after own (own_live own before) (own_matching own before) before d) × (map seen (own_live own (d ∷ before)) ≡ (own_matching own (d ∷ before)).posted)
live_step_by own d before h w =
    let k = deed_live own d before h w in
    let step = matching_step own d before h in
    let e : own_live own (d ∷ before) ≡ live_after own (own_live own before) (own_matching own before) before d =
    live_is own (d ∷ before) ∙ ap (λ (es : List RecvEnd). unended es (receives (d ∷ before))) (ends_more own d before h) ∙ sym k.live_are in
    (e, ap (map seen) e ∙ k.waiting ∙ ap (λ (m : Matching). m.posted) (sym step))

-- the live receives are those that wait in the matcher
pub waiting_are : (own : Own) (log : List Deed) → IsEager own log → map seen (own_live own log) ≡ (own_matching own log).posted
unfolding live_receives matching receives
waiting_are own [] h = refl
waiting_are own (d ∷ before) h = (live_step_by own d before h (waiting_are own before h.0)).1

-- the live receives after an eager deed
pub live_step : (own : Own) (d : Deed) (before : List Deed) → IsEager own (d ∷ before)
    → own_live own (d ∷ before) ≡ live_after own (own_live own before) (own_matching own before) before d
live_step own d before h = (live_step_by own d before h (waiting_are own before h.0)).0
