-- Messages enter one after another.
use Rattle.std.proofs.Common.{◌≡◌, ℕ, Bool, true, false, cond, List, [], ◌∷◌, ◌++◌, Option, Some, None, map, refl, ◌⊎◌, inl, inr, sym, ◌∙◌, ap, subst, append_assoc}
use Rattle.std.specs.Prelude.{find}
use Rattle.rdm_lists.specs.Lists.{Member, without_first}
use Rattle.rdm_lists.proofs.Members.{find_member, map-member, member-map, without_member, member-append_cases}
use Rattle.rdm_match.specs.declared.PostedRecv.{PostedRecv}
use Rattle.rdm_match.specs.declared.Arrived.{Arrived}
use Rattle.rdm_match.specs.Matcher.{Matching, Pair, Event, Arrive, accepts, after_arrive, after, run}
use Rattle.rdm_model.specs.Completions.{Name}
use Rattle.rdm_life.specs.Kept.{Kept, LiveReceive, receive_numbered}
use Rattle.rdm_life.specs.Landing.{meet, is_full}
use Rattle.rdm_life.specs.Receiving.{lists_in, with_matching}
use Rattle.rdm_life.proofs.Settling.{numbers_of}
use Rattle.rdm_sound.specs.Premises.{AreOnce, AreNumbered, AreApart, names_of, posted_numbers}
use Rattle.rdm_sound.specs.Steps.{settle_found, with_end, with_next_window, with_replies, meet_one, arrive_found, arrive_one}
use Rattle.rdm_sound.proofs.Meets.{meet_first, meet_nothing, met_numbered, met_apart}
use Rattle.rdm_sound.proofs.Pairs.{taken}

-- each arrives, in order
unfoldable pub arrive_each : List Arrived → Kept → Kept
arrive_each [] v = v
arrive_each (a ∷ rest) v = arrive_each rest (arrive_one a v)

-- the events of arrivals
abbrev pub arrivals : List Arrived → List Event
arrivals come = map (λ (a : Arrived). Arrive a) come

-- the message of an arrival
abbrev pub name_of : Arrived → Name
name_of a = record { life = a.life; number = a.no.0 }

-- ---- pairs that were made before

-- they stand before those that are made
abbrev led : List Pair → Matching → Matching
led ps m = record m { pairs = ps ++ m.pairs }

led_arrive : (ps : List Pair) (m : Matching) (a : Arrived) (o : Option PostedRecv) → after_arrive (led ps m) a o ≡ led ps (after_arrive m a o)
unfolding after_arrive
led_arrive ps m a None = refl
led_arrive ps m a (Some r) = ap (λ qs. record m { posted = without_first (λ q. accepts q a) m.posted; pairs = qs }) (append_assoc ps m.pairs (record { recv = r; message = a } ∷ []))

run_led : (ps : List Pair) (come : List Arrived) (m : Matching) → run (led ps m) (arrivals come) ≡ led ps (run m (arrivals come))
unfolding run after
run_led ps [] m = refl
run_led ps (a ∷ come) m =
    ap (λ n. run n (arrivals come)) (led_arrive ps m a (find (λ r. accepts r a) m.posted))
    ∙ run_led ps come (after m (Arrive a))

-- the receives of pairs were posted, and their messages arrived
arrive_made : (a : Arrived) (m : Matching) (o : Option PostedRecv) (p : Pair) → ((r : PostedRecv) → o ≡ Some r → Member r m.posted) → Member p (after_arrive m a o).pairs
    → Member p m.pairs ⊎ (Member p.recv m.posted × (a ≡ p.message))
unfolding after_arrive
arrive_made a m None p found k = inl k
arrive_made a m (Some r) p found k =
    elim (member-append_cases p m.pairs (record { recv = r; message = a } ∷ []) k) [
      | inl old ↦ inl old
      | inr new ↦ elim new [
        | inl is ↦ inr (subst (λ (q : Pair). Member q.recv m.posted) is (found r refl), ap (λ (q : Pair). q.message) is)
        | inr never ↦ elim never [ ]
      ]
    ]

arrive_posted : (a : Arrived) (m : Matching) (o : Option PostedRecv) (r : PostedRecv) → Member r (after_arrive m a o).posted → Member r m.posted
unfolding after_arrive
arrive_posted a m None r k = k
arrive_posted a m (Some q) r k = without_member (λ x. accepts x a) r m.posted k

run_made : (come : List Arrived) (m : Matching) (p : Pair) → Member p (run m (arrivals come)).pairs → Member p m.pairs ⊎ (Member p.recv m.posted × Member p.message come)
unfolding run after
run_made [] m p k = inl k
run_made (a ∷ come) m p k =
    let o = find (λ r. accepts r a) m.posted in
    let found = λ (r : PostedRecv) (e : o ≡ Some r). (find_member (λ r. accepts r a) r m.posted e).0 in
    elim (run_made come (after m (Arrive a)) p k) [
      | inl old ↦ elim (arrive_made a m o p found old) [
        | inl older ↦ inl older
        | inr new ↦ inr (new.0, inl new.1)
      ]
      | inr new ↦ inr (arrive_posted a m o p.recv new.0, inr new.1)
    ]

-- ---- numbers that stand once

pub once_without : {A B : Type 0} (g : A → B) (t : A → Bool) (xs : List A) (x : A) → AreOnce (map g xs) → find t xs ≡ Some x
    → (Member (g x) (map g (without_first t xs)) → ⊥) × AreOnce (map g (without_first t xs))
unfolding without_first
once_without g t [] x once found = cc
once_without {A} {B} g t (y ∷ ys) x once found =
    (elim (t y) as (λ b. cond b (Some y) (find t ys) ≡ Some x → (Member (g x) (map g (cond b ys (y ∷ without_first t ys))) → ⊥) × AreOnce (map g (cond b ys (y ∷ without_first t ys)))) [
      | true ↦ λ e. (let is : y ≡ x = cc in (subst (λ (z : A). Member (g z) (map g ys) → ⊥) is once.0, once.1))
      | false ↦ λ e. (let rest = once_without g t ys x once.1 e in
          let f = find_member t x ys e in
          let there = map-member g x ys f.0 in (
            (λ m. elim m [
              | inl same ↦ once.0 (subst (λ (z : B). Member z (map g ys)) (sym same) there)
              | inr more ↦ rest.0 more
            ]),
            ((λ m. let q = member-map g (g y) (without_first t ys) m in once.0 (subst (λ (z : B). Member z (map g ys)) q.2 (map-member g q.0 ys (without_member t q.0 ys q.1)))), rest.1),
          ))
    ]) found

-- ---- what a meeting leaves

-- what waits and what is known of lives is put so
abbrev pub aside : Kept → List PostedRecv → List Arrived → Kept
aside v posted arrived = record v { posted = posted; arrived = arrived }

settled_aside : (is_new : Bool) (o : Option LiveReceive) (v : Kept) (posted : List PostedRecv) (arrived : List Arrived)
    → settle_found is_new o (aside v posted arrived) ≡ aside (settle_found is_new o v) posted arrived
unfolding settle_found
settled_aside is_new None v posted arrived = refl
settled_aside is_new (Some r) v posted arrived =
    elim (is_full r.matched) as (λ b. with_replies is_new r (cond b (with_end r (aside v posted arrived)) (with_next_window r (aside v posted arrived)))
    ≡ aside (with_replies is_new r (cond b (with_end r v) (with_next_window r v))) posted arrived) [ true ↦ refl | false ↦ refl ]

pub met_aside : (p : Pair) (v : Kept) (posted : List PostedRecv) (arrived : List Arrived) → meet_one p (aside v posted arrived) ≡ aside (meet_one p v) posted arrived
unfolding meet_one
met_aside p v posted arrived = settled_aside true (receive_numbered (taken p v) p.recv.id.0) (taken p v) posted arrived

settled_lists : (is_new : Bool) (o : Option LiveReceive) (v : Kept) → lists_in (settle_found is_new o v) ≡ lists_in v
unfolding settle_found
settled_lists is_new None v = refl
settled_lists is_new (Some r) v = elim (is_full r.matched) as (λ b. lists_in (with_replies is_new r (cond b (with_end r v) (with_next_window r v))) ≡ lists_in v) [ true ↦ refl | false ↦ refl ]

pub met_lists : (p : Pair) (v : Kept) → lists_in (meet_one p v) ≡ lists_in v
unfolding meet_one
met_lists p v = settled_lists true (receive_numbered (taken p v) p.recv.id.0) (taken p v)

-- ---- one after another

-- what all arrivals make is what the first makes, and then the others
pub arrives_each : (come : List Arrived) (v : Kept) → AreOnce (posted_numbers v.posted) → AreOnce (map name_of come) → AreNumbered v.receives → AreApart v.receives
    → with_matching (run (lists_in v) (arrivals come)) v ≡ arrive_each come v
unfolding run after arrive_each arrive_found after_arrive
arrives_each [] v posted names numbered apart = meet_nothing v
arrives_each (a ∷ come) v posted names numbered apart =
    let t : PostedRecv → Bool = λ r. accepts r a in
    (elim (find t v.posted) as (λ o. find t v.posted ≡ o → with_matching (run (after_arrive (lists_in v) a o) (arrivals come)) v ≡ arrive_each come (arrive_found a o v)) [
      | None ↦ λ _. arrives_each come (record v { arrived = v.arrived ++ a ∷ [] }) posted names.1 numbered apart
      | Some r ↦ λ found.
          let p : Pair = record { recv = r; message = a } in
          let u : Kept = record v { posted = without_first t v.posted } in
          let m = run (lists_in u) (arrivals come) in
          let once = once_without (λ (q : PostedRecv). q.id.0) t v.posted r posted found in
          let no_number : Member r.id.0 (numbers_of m.pairs) → ⊥ = λ k.
          let q = member-map (λ (x : Pair). x.recv.id.0) r.id.0 m.pairs k in
          elim (run_made come (lists_in u) q.0 q.1) [
            | inl never ↦ elim never [ ]
            | inr new ↦ once.0 (subst (λ (n : ℕ). Member n (posted_numbers u.posted)) q.2 (map-member (λ (x : PostedRecv). x.id.0) q.0.recv u.posted new.0))
          ] in
          let no_name : Member (name_of a) (names_of m.pairs) → ⊥ = λ k.
          let q = member-map (λ (x : Pair). name_of x.message) (name_of a) m.pairs k in
          elim (run_made come (lists_in u) q.0 q.1) [
            | inl never ↦ elim never [ ]
            | inr new ↦ names.0 (subst (λ (n : Name). Member n (map name_of come)) q.2 (map-member name_of q.0.message come new.1))
          ] in
          let lists = met_lists p u in
          ap (λ n. with_matching n v) (run_led (p ∷ []) come (lists_in u))
          ∙ meet_first p m.pairs (aside v m.posted m.arrived) no_number no_name numbered apart
          ∙ ap (meet m.pairs) (met_aside p u m.posted m.arrived)
          ∙ ap (λ (n : Matching). with_matching (run n (arrivals come)) (meet_one p u)) (sym lists)
          ∙ arrives_each come (meet_one p u) (subst (λ (n : Matching). AreOnce (posted_numbers n.posted)) (sym lists) once.1) names.1 (met_numbered p u numbered) (met_apart p u apart)
    ]) refl
