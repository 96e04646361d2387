-- An insert that takes the place of a life ends the receives that concern that one, whose ranges hold zeros then, and leaves the others.
use Rattle.std.proofs.Common.{◌≡◌, ℕ, zero, suc, ◌+◌, ◌-◌, ◌<◌, Bool, true, false, cond, not, List, [], ◌∷◌, map, get_or, replicate, Option, Some, None, refl, arith, inl, inr, sym, ◌∙◌, ap, subst, eq-eqb}
use Rattle.std.specs.Prelude.{◌==◌, ◌&&◌, nat_lt, nat_le, slice_get, filter, flat_map}
use Rattle.std.specs.List.{list_any}
use Rattle.std.proofs.lemmas.Bool.{and_from, le-leb, lt-ltb, eqb-true, false_from_ne_true, not-true}
use Rattle.std.proofs.lemmas.List.{append-nil}
use Rattle.rdm_lists.specs.Lists.{Member, or_else}
use Rattle.rdm_lists.proofs.Filters.{filter_nothing, filter_both}
use Rattle.rdm_lists.proofs.Members.{member-filter, filter-member, member-map, map-member, list_any_member, member_list_any}
use Rattle.rdm_lists.proofs.Same.{map_same, filter_same, filter_where}
use Rattle.rdm_num.specs.declared.numbers.Life.{Life}
use Rattle.rdm_num.specs.declared.request.RecvReq.{RecvReq}
use Rattle.rdm_match.specs.Matcher.{Pair}
use Rattle.rdm_model.specs.declared.job.Instr.TheVariants.{Insert}
use Rattle.rdm_model.specs.Beginnings.{Own}
use Rattle.rdm_model.specs.Currents.{current, other_life}
use Rattle.rdm_model.specs.Deeds.{Deed, Did}
use Rattle.rdm_model.specs.Matches.{Receive, receives, received_by}
use Rattle.rdm_model.specs.Receives.{RecvEnd, Gone, ended_recv, has_ended, concerns as is_concerned, gone_with, live_receives, receive_numbered}
use Rattle.rdm_model.specs.Regions.{written_by, after_ends, region_by}
use Rattle.rdm_law.proofs.Fits.RegionSizes.{written_length}
use Rattle.rdm_law.proofs.Lives.Lives.{LifeLocal}
use Rattle.rdm_law.proofs.Matching.Received.{receive_once}
use Rattle.rdm_life.specs.Kept.{Kept, LiveReceive}
use Rattle.rdm_life.specs.Keeps.{told, own_pairs, own_regions, own_live_receives, is_out, region_byte, kept_receive, KeepsReceives, Keeps}
use Rattle.rdm_life.specs.Memory.{is_place_of, with_back}
use Rattle.rdm_life.specs.Forgetting.{concerns, zeroed, forget}
use Rattle.rdm_life.specs.Lives.{after_insert, greet}
use Rattle.rdm_life.specs.Handling.{after, after_instr}
use Rattle.rdm_life.proofs.Apart.{live_is, ranges_apart}
use Rattle.rdm_life.proofs.Back.{leave_home}
use Rattle.rdm_life.proofs.CompletedGone.{concerns_is, numbered_so, none_concerned, both_ways, most_one, insert_ends, insert_receives}
use Rattle.rdm_life.proofs.Completing.{map_twice}
use Rattle.rdm_life.proofs.EndSteps.{own_ends, new_ends, regions_step}
use Rattle.rdm_life.proofs.EndsWritten.{WritesFit, ends_outside, ends_inside}
use Rattle.rdm_life.proofs.Idle.{idle_pairs, idle_brings}
use Rattle.rdm_life.proofs.LiveLeft.{filter_made, live_left}
use Rattle.rdm_life.proofs.Owing.{pairs_then}
use Rattle.rdm_life.proofs.Places.{place_parts, range_within}
use Rattle.rdm_life.proofs.ReceivesQuiet.{pair_stays}
use Rattle.rdm_life.proofs.Stays.{Stays, kept_stays}

-- an insert makes no pair and brings no byte
insert_stays : (own : Own) (life : Life) (log : List Deed) → Stays own (Did (Insert life)) log
insert_stays own life log =
    record { pairs_are = idle_pairs own (Did (Insert life)) log tt; brings_none = λ source n. idle_brings (own_pairs own log) source n (Did (Insert life)) tt }

-- ---- which receives it ends

-- those of the live receives that pass
abbrev ends_of : List Receive → List RecvEnd
ends_of rs = map (λ (r : Receive). Gone r.number) rs

-- lives that are forgotten, and a test that says which receives concern one of them
record Forgets (own : Own) (life : Life) (log : List Deed) (lives : List Life) (test : Receive → Bool) : Type 0 where
  ends_are : new_ends own (Did (Insert life)) log ≡ ends_of (filter test (own_live_receives own log))
  test_is : (r : Receive) → concerns lives (kept_receive own log r) ≡ test r

-- where none is forgotten
forgets_none : (own : Own) (life : Life) (log : List Deed) → other_life life (current log life.port.0) ≡ [] → Forgets own life log [] (λ r. false)
forgets_none own life log none =
    let d : Deed = Did (Insert life) in
    record {
      ends_are =
          insert_ends own log life
          ∙ ap (flat_map (gone_with own.limits.first (told own (d ∷ log)).head log (own_ends own log))) none
          ∙ ap ends_of (sym (filter_nothing (λ (r : Receive). false) (own_live_receives own log) (λ r m. refl)));
      test_is = λ r. none_concerned (kept_receive own log r);
    }

-- where one is
forgets_one : (own : Own) (life : Life) (log : List Deed) (old : Life) → other_life life (current log life.port.0) ≡ old ∷ []
    → Forgets own life log (old ∷ []) (is_concerned (own_pairs own log) old)
unfolding gone_with live_receives
forgets_one own life log old one =
    let d : Deed = Did (Insert life) in
    let first = own.limits.first in
    let heads = (told own (d ∷ log)).head in
    let live : Receive → Bool = λ r. not (has_ended (own_ends own log) r.number) in
    let test : Receive → Bool = is_concerned (own_pairs own log) old in
    record {
      ends_are =
          insert_ends own log life
          ∙ ap (flat_map (gone_with first heads log (own_ends own log))) one
          ∙ append-nil (gone_with first heads log (own_ends own log) old)
          ∙ ap (λ (ps : List Pair). ends_of (filter (λ (r : Receive). is_concerned ps old r && live r) (receives log))) (sym (pairs_then own d log))
          ∙ ap ends_of (filter_same (λ (r : Receive). test r && live r) (λ (r : Receive). live r && test r) (receives log) (λ r. both_ways (test r) (live r)) ∙ filter_both live test (receives log));
      test_is = concerns_is own log old;
    }

-- a receive of some of the live ones has ended where it is of them
gone_ended : (own : Own) (log : List Deed) (test : Receive → Bool) (r : Receive) → Member r (own_live_receives own log)
    → has_ended (ends_of (filter test (own_live_receives own log))) r.number ≡ test r
unfolding has_ended ended_recv
gone_ended own log test r m =
    let live = own_live_receives own log in
    let t : RecvEnd → Bool = λ e. ended_recv e == r.number in
    (elim (test r) as (λ b. test r ≡ b → list_any t (ends_of (filter test live)) ≡ b) [
      | true ↦ λ h. member_list_any t (Gone r.number) (ends_of (filter test live)) (map-member (λ (x : Receive). Gone x.number) r (filter test live) (filter-member test r live m h)) (eq-eqb r.number r.number refl)
      | false ↦ λ h. false_from_ne_true (list_any t (ends_of (filter test live))) (λ k.
          let a = list_any_member t (ends_of (filter test live)) k in
          let b = member-map (λ (x : Receive). Gone x.number) a.0 (filter test live) a.1 in
          let c = member-filter test b.0 live b.1 in
          let number : b.0.number ≡ r.number = ap ended_recv b.2 ∙ eqb-true (ended_recv a.0) r.number a.2 in
          let same : b.0 ≡ r = receive_once log b.0 r (live_is own log b.0 c.0).0 (live_is own log r m).0 number in
          let passes : test r ≡ true = subst (λ (x : Receive). test x ≡ true) same c.1 in
          cc)
    ]) refl

-- so the others are live after it
insert_live : (own : Own) (life : Life) (log : List Deed) (lives : List Life) (test : Receive → Bool) → Forgets own life log lives test
    → own_live_receives own (Did (Insert life) ∷ log) ≡ filter (λ (r : Receive). not (test r)) (own_live_receives own log)
unfolding received_by
insert_live own life log lives test f =
    let live = own_live_receives own log in
    live_left own (Did (Insert life)) log refl
    ∙ ap (λ (es : List RecvEnd). filter (λ (r : Receive). not (has_ended es r.number)) live) f.ends_are
    ∙ filter_where (λ (r : Receive). not (has_ended (ends_of (filter test live)) r.number)) (λ (r : Receive). not (test r)) live (λ r m. ap not (gone_ended own log test r m))

-- ---- what it writes

-- a zero among zeros
zero_at : (n k : ℕ) → k < n → slice_get {X = ℕ} (replicate n 0) k ≡ Some 0
zero_at zero k lt = absurd (omega arith)
zero_at (suc n) zero lt = refl
zero_at (suc n) (suc k) lt = zero_at n k (omega arith)

-- an end is of a live receive that passes
end_is : (own : Own) (life : Life) (log : List Deed) (test : Receive → Bool) (e : RecvEnd) (q : Receive) → Member e (ends_of (filter test (own_live_receives own log)))
    → receive_numbered (receives (Did (Insert life) ∷ log)) (ended_recv e) ≡ Some q → Member q (own_live_receives own log) × (test q ≡ true) × (e ≡ Gone q.number)
unfolding ended_recv
end_is own life log test e q m h =
    let live = own_live_receives own log in
    let a = member-map (λ (x : Receive). Gone x.number) e (filter test live) m in
    let b = member-filter test a.0 live a.1 in
    let r : Receive = a.0 in
    let number : ended_recv e ≡ r.number = sym (ap ended_recv a.2) in
    let found : Some q ≡ Some r =
    sym h ∙ ap (receive_numbered (receives (Did (Insert life) ∷ log))) number ∙ ap (λ (rs : List Receive). receive_numbered rs r.number) (insert_receives log life)
    ∙ numbered_so log r (live_is own log r b.0).0 in
    let same : r ≡ q = cc in
    (subst (λ (x : Receive). Member x live) same b.0, subst (λ (x : Receive). test x ≡ true) same b.1, sym a.2 ∙ ap (λ (x : Receive). Gone x.number) same)

-- it writes within ranges
insert_fits : (own : Own) (life : Life) (log : List Deed) (test : Receive → Bool) → LifeLocal own log
    → WritesFit (told own (Did (Insert life) ∷ log)) (receives (Did (Insert life) ∷ log)) (ends_of (filter test (own_live_receives own log))) (own_regions own log)
insert_fits own life log test local = λ e q m h.
    let i = end_is own life log test e q m h in
    (written_length (told own (Did (Insert life) ∷ log)) e q.req, range_within own log q local (live_is own log q i.0).0)

-- the byte at a place after the ends
insert_byte : (own : Own) (life : Life) (log : List Deed) (lives : List Life) (test : Receive → Bool) (region place : ℕ) → Forgets own life log lives test
    → region_byte own (Did (Insert life) ∷ log) region place
    ≡ slice_get (get_or (after_ends (told own (Did (Insert life) ∷ log)) (receives (Did (Insert life) ∷ log)) (ends_of (filter test (own_live_receives own log))) (own_regions own log)) region []) place
unfolding region_by
insert_byte own life log lives test region place f =
    let d : Deed = Did (Insert life) in
    ap (λ (rs : List (List ℕ)). slice_get (get_or rs region []) place)
    (regions_step own d log
    ∙ append-nil (after_ends (told own (d ∷ log)) (receives (d ∷ log)) (new_ends own d log) (own_regions own log))
    ∙ ap (λ (es : List RecvEnd). after_ends (told own (d ∷ log)) (receives (d ∷ log)) es (own_regions own log)) f.ends_are)

-- a place that is in no range of those that end stays
insert_outside : (own : Own) (life : Life) (log : List Deed) (lives : List Life) (test : Receive → Bool) (region place : ℕ) → LifeLocal own log → Forgets own life log lives test
    → ((r : Receive) → Member r (own_live_receives own log) → test r ≡ true → is_place_of r.req region place ≡ false)
    → region_byte own (Did (Insert life) ∷ log) region place ≡ region_byte own log region place
insert_outside own life log lives test region place local f out =
    let d : Deed = Did (Insert life) in
    insert_byte own life log lives test region place f
    ∙ ends_outside (told own (d ∷ log)) (receives (d ∷ log)) (ends_of (filter test (own_live_receives own log))) (own_regions own log) region place (insert_fits own life log test local)
    (λ e q m h. (let i = end_is own life log test e q m h in out q i.0 i.1))

-- a place in the range of one that ends has a zero
insert_inside : (own : Own) (life : Life) (log : List Deed) (lives : List Life) (test : Receive → Bool) (region place : ℕ) (r : Receive) → LifeLocal own log → Forgets own life log lives test
    → Member r (own_live_receives own log) → test r ≡ true → is_place_of r.req region place ≡ true → region_byte own (Did (Insert life) ∷ log) region place ≡ Some 0
unfolding written_by or_else ended_recv
insert_inside own life log lives test region place r local f m passes inside =
    let d : Deed = Did (Insert life) in
    let live = own_live_receives own log in
    let p = place_parts r.req region place inside in
    let low = p.1 in
    let high = p.2 in
    let found : receive_numbered (receives (d ∷ log)) r.number ≡ Some r =
    ap (λ (rs : List Receive). receive_numbered rs r.number) (insert_receives log life) ∙ numbered_so log r (live_is own log r m).0 in
    insert_byte own life log lives test region place f
    ∙ ends_inside (told own (d ∷ log)) (receives (d ∷ log)) (ends_of (filter test live)) (own_regions own log) region place (Gone r.number) r (insert_fits own life log test local)
    (map-member (λ (x : Receive). Gone x.number) r (filter test live) (filter-member test r live m passes)) found inside
    (λ e q k h i. (
    let x = end_is own life log test e q k h in
    x.2 ∙ ap (λ (y : Receive). Gone y.number) (ranges_apart own log local q r region place x.0 m i inside)))
    ∙ ap (λ (o : Option ℕ). or_else o (region_byte own log region place)) (zero_at r.req.len (place - r.req.at) (omega arith))

-- ---- what is kept after it

-- the places of a range
pub place_in : (req : RecvReq) (k : ℕ) → k < req.len → is_place_of req req.region.0 (req.at + k) ≡ true
unfolding is_place_of
place_in req k lt =
    and_from (req.region.0 == req.region.0 && nat_le req.at (req.at + k)) (nat_lt (req.at + k) (req.at + req.len))
    (and_from (req.region.0 == req.region.0) (nat_le req.at (req.at + k)) (eq-eqb req.region.0 req.region.0 refl) (le-leb req.at (req.at + k) (omega arith)))
    (lt-ltb (req.at + k) (req.at + req.len) (omega arith))

-- a receive that it leaves has its range as it was
insert_range : (own : Own) (life : Life) (log : List Deed) (lives : List Life) (test : Receive → Bool) (r : Receive) (k : ℕ) → LifeLocal own log → Forgets own life log lives test
    → Member r (own_live_receives own log) → test r ≡ false → k < r.req.len
    → region_byte own (Did (Insert life) ∷ log) r.req.region.0 (r.req.at + k) ≡ region_byte own log r.req.region.0 (r.req.at + k)
insert_range own life log lives test r k local f m stays lt =
    insert_outside own life log lives test r.req.region.0 (r.req.at + k) local f
    (λ q n passes. false_from_ne_true (is_place_of q.req r.req.region.0 (r.req.at + k)) (λ h.
    let same = ranges_apart own log local q r r.req.region.0 (r.req.at + k) n m h (place_in r.req k lt) in
    let wrong : test r ≡ true = subst (λ (x : Receive). test x ≡ true) same passes in
    cc))

-- by the lives that it forgets
insert_keeps : (own : Own) (life : Life) (log : List Deed) (v : Kept) (lives : List Life) (test : Receive → Bool) → LifeLocal own (Did (Insert life) ∷ log) → KeepsReceives own log v
    → Forgets own life log lives test → KeepsReceives own (Did (Insert life) ∷ log) (forget lives v)
unfolding forget kept_receive is_out
insert_keeps own life log v lives test local k f =
    let d : Deed = Did (Insert life) in
    let live = own_live_receives own log in
    let made = kept_receive own log in
    let zeros : Receive → LiveReceive = λ r. zeroed (kept_receive own log r) in
    let left = insert_live own life log lives test f in
    record {
      home_is = λ region place.
          ap (λ (rs : List LiveReceive). with_back (map zeroed (filter (concerns lives) rs)) v.home region place) k.receives_are
          ∙ ap (λ (rs : List LiveReceive). with_back (map zeroed rs) v.home region place) (filter_made made (concerns lives) live)
          ∙ ap (λ (rs : List LiveReceive). with_back rs v.home region place) (map_twice zeroed made (filter (λ (r : Receive). concerns lives (made r)) live))
          ∙ ap (λ (rs : List Receive). with_back (map zeros rs) v.home region place) (filter_same (λ (r : Receive). concerns lives (made r)) test live f.test_is)
          ∙ leave_home zeros test live (region_byte own log) (region_byte own (d ∷ log)) v.home region place
          (λ q r m n h i. ranges_apart own log local.0 q r region place m n h i) (λ r. refl) (k.home_is region place)
          (λ r m passes h. sym (insert_inside own life log lives test region place r local.0 f m passes h))
          (λ h. insert_outside own life log lives test region place local.0 f h)
          ∙ ap (λ (rs : List Receive). cond (list_any (λ (r : Receive). is_place_of r.req region place) rs) None (region_byte own (d ∷ log) region place)) (sym left);
      receives_are =
          ap (filter (λ (r : LiveReceive). not (concerns lives r))) k.receives_are
          ∙ filter_made made (λ (r : LiveReceive). not (concerns lives r)) live
          ∙ ap (map made) (filter_same (λ (r : Receive). not (concerns lives (made r))) (λ (r : Receive). not (test r)) live (λ r. ap not (f.test_is r)))
          ∙ map_same made (kept_receive own (d ∷ log)) (filter (λ (r : Receive). not (test r)) live)
          (λ r m. (
          let l = member-filter (λ (x : Receive). not (test x)) r live m in
          let stays = insert_stays own life log in
          sym (kept_stays own d log r local (pair_stays own d log r stays.pairs_are) (λ p e. stays.brings_none p.message.life p.message.no.0)
          (λ x lt. insert_range own life log lives test r x local.0 f l.0 (not-true (test r) l.1) lt))))
          ∙ ap (map (kept_receive own (d ∷ log))) (sym left);
    }

-- what is kept of receives and regions after an insert
pub receives_insert : (own : Own) (life : Life) (log : List Deed) (v : Kept) → LifeLocal own (Did (Insert life) ∷ log) → Keeps own log v
    → KeepsReceives own (Did (Insert life) ∷ log) (after (Did (Insert life)) v)
unfolding after after_instr after_insert greet
receives_insert own life log v local k =
    let d : Deed = Did (Insert life) in
    let w : List Life → Kept = λ lives. forget lives v in
    let known : other_life life (v.current life.port.0) ≡ other_life life (current log life.port.0) = ap (other_life life) (k.lives.current_is life.port.0) in
    let keeps : KeepsReceives own (d ∷ log) (w (other_life life (v.current life.port.0))) =
    elim (most_one life (current log life.port.0)) [
      | inl e ↦ subst (λ (ls : List Life). KeepsReceives own (d ∷ log) (w ls)) (sym (known ∙ e)) (insert_keeps own life log v [] (λ r. false) local k.receives (forgets_none own life log e))
      | inr e ↦
          subst (λ (ls : List Life). KeepsReceives own (d ∷ log) (w ls)) (sym (known ∙ e.1))
          (insert_keeps own life log v (e.0 ∷ []) (is_concerned (own_pairs own log) e.0) local k.receives (forgets_one own life log e.0 e.1))
    ] in
    record { home_is = keeps.home_is; receives_are = keeps.receives_are }
