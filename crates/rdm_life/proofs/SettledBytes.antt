-- The bytes of regions after a deed that makes pairs or brings bytes: the range of a receive that it fills holds what came with it.
use Rattle.std.proofs.Common.{◌≡◌, ℕ, ◌+◌, ◌-◌, ◌<◌, ◌≤◌, Bool, true, false, cond, List, [], ◌∷◌, ◌++◌, map, length, get_or, Option, Some, None, refl, arith, inl, inr, sym, ◌∙◌, ap, subst}
use Rattle.std.specs.Prelude.{slice_get, unwrap_or, filter, is_some}
use Rattle.std.proofs.lemmas.Bool.{cases_lt, lt-ltb}
use Rattle.std.proofs.lemmas.List.{append-nil, length-map}
use Rattle.std.proofs.lemmas.Option.{slice_get_past}
use Rattle.rdm_lists.specs.Lists.{Member, or_else, below}
use Rattle.rdm_lists.proofs.Below.{each_below_at, length-below}
use Rattle.rdm_lists.proofs.Members.{member-append_cases, member-filter, filter-member, member-map, map-member}
use Rattle.rdm_lists.proofs.Options.{some_of}
use Rattle.rdm_lists.proofs.Places.{slice_get_some, slice_get-map_some}
use Rattle.rdm_pkt.specs.declared.Packet.TheVariants.{Rtm, CtsData}
use Rattle.rdm_match.specs.Matcher.{Pair}
use Rattle.rdm_model.specs.declared.job.Instr.TheVariants.{Recv}
use Rattle.rdm_model.specs.Beginnings.{Own}
use Rattle.rdm_model.specs.Deeds.{Deed, Did, Took, Spelled, Gives}
use Rattle.rdm_model.specs.Local.{bytes_by, heard_by}
use Rattle.rdm_model.specs.Matches.{Receive, receives}
use Rattle.rdm_model.specs.Receives.{RecvEnd, Filled, ended_recv, receive_numbered}
use Rattle.rdm_model.specs.Regions.{kept_bytes, written_by, after_ends, region_by}
use Rattle.rdm_law.proofs.Fits.RegionSizes.{written_length}
use Rattle.rdm_law.proofs.Lives.Lives.{LifeLocal}
use Rattle.rdm_law.proofs.Matching.Numbered.{matching_numbered}
use Rattle.rdm_law.proofs.Refusals.Counted.{below_at}
use Rattle.rdm_life.specs.Keeps.{told, own_regions, byte_came, byte_of_pair, pair_of, region_byte}
use Rattle.rdm_life.specs.Memory.{is_place_of}
use Rattle.rdm_life.proofs.Apart.{apart_with, ranges_apart}
use Rattle.rdm_life.proofs.EndSteps.{new_ends, regions_step}
use Rattle.rdm_life.proofs.EndsWritten.{WritesFit, ends_outside, ends_inside}
use Rattle.rdm_life.proofs.Places.{place_parts, place_there, range_before}
use Rattle.rdm_life.proofs.SettledEnds.{is_whole, fills, whole_ends, ends_are, PairOf, pair_with, has_pair, fills_by, fills_with, fills_none}
use Rattle.rdm_life.proofs.SettledPairs.{touched, out_accepted, accepted_found}
use Rattle.rdm_life.proofs.Settling.{IsLanding, Touches, out_with, landed_receive}
use Rattle.rdm_life.proofs.TakenRead.{AllTakenRead}
use Rattle.rdm_life.proofs.TakenWithin.{came_inside}
use Rattle.rdm_life.proofs.Writes.{slice_get_take}

-- receives that are out and have a place in common are one
pub out_apart : (own : Own) (d : Deed) (log : List Deed) → LifeLocal own (d ∷ log) → (q r : Receive) (region place : ℕ) → Member q (out_with own d log) → Member r (out_with own d log)
    → is_place_of q.req region place ≡ true → is_place_of r.req region place ≡ true → q ≡ r
out_apart own d log local q r region place m k h i =
    apart_with own d log q r region place local.1 (λ a b. ranges_apart own log local.0 q r region place a b h i)
    (member-append_cases q _ _ m) (member-append_cases r _ _ k) h i

-- ---- what ends write

-- a value by its number, among the first
value_below : (f : ℕ → ℕ) (n k : ℕ) → k < n → slice_get (map f (below n)) k ≡ Some (f k)
value_below f n k low =
    let long : length (map f (below n)) ≡ n = length-map (below n) f ∙ length-below n in
    let s = some_of (slice_get (map f (below n)) k) (slice_get_some (map f (below n)) k (omega arith)) in
    let q = slice_get-map_some f (below n) k s.0 s.1 in
    s.1 ∙ ap Some (sym q.2 ∙ ap f (below_at n k q.0 q.1))

-- past the message nothing came
none_past : (own : Own) (log : List Deed) (p : Pair) (k : ℕ) (o : Option ℕ) → LifeLocal own log → AllTakenRead log → byte_came own log p.message.life p.message.no.0 k ≡ o
    → ((told own log).head p.message.life p.message.no.0).length ≤ k → None ≡ o
none_past own log p k None local fit is past = refl
none_past own log p k (Some b) local fit is past = absurd (let low = came_inside own log p.message.life p.message.no.0 k b local fit is in omega arith)

-- a byte that came is that byte
byte_there : (o : Option ℕ) → is_some o ≡ true → Some (unwrap_or o 0) ≡ o
byte_there None h = cc
byte_there (Some b) h = refl

-- a message that came whole writes the bytes that came
written_is : (own : Own) (d : Deed) (log : List Deed) (p : Pair) (capacity k : ℕ) → LifeLocal own (d ∷ log) → AllTakenRead (d ∷ log) → is_whole own d log p ≡ true → k < capacity
    → slice_get (kept_bytes (told own (d ∷ log)) p capacity) k ≡ byte_came own (d ∷ log) p.message.life p.message.no.0 k
unfolding kept_bytes heard_by bytes_by
written_is own d log p capacity k local fit whole low =
    let source = p.message.life in
    let n = p.message.no.0 in
    let size = ((told own (d ∷ log)).head source n).length in
    let came : ℕ → Option ℕ = λ place. byte_came own (d ∷ log) source n place in
    let value : ℕ → ℕ = λ place. unwrap_or (came place) 0 in
    let long : length (map value (below size)) ≡ size = length-map (below size) value ∙ length-below size in
    slice_get_take capacity (map value (below size)) k low
    ∙ elim (cases_lt k size) [
      | inl within ↦ value_below value size k within ∙ byte_there (came k) (each_below_at (λ place. is_some (came place)) size k whole within)
      | inr past ↦ slice_get_past (map value (below size)) k (omega arith) ∙ none_past own (d ∷ log) p k (came k) local fit refl past
    ]

-- ---- the ends that the deed makes

-- an end is of a receive that is out and filled
record EndOf (own : Own) (d : Deed) (log : List Deed) (ps : List Pair) (e : RecvEnd) (q : Receive) : Type 0 where
  out : Member q (out_with own d log)
  pair_of' : PairOf own d log ps q
  end_is : e ≡ Filled pair_of'.pair
  fills_is : fills own d log ps q ≡ true

-- as each is
end_of : (own : Own) (d : Deed) (log : List Deed) (is_new : Bool) (ps : List Pair) (e : RecvEnd) (q : Receive) → Touches own d log is_new ps → Member e (whole_ends own d log ps)
    → receive_numbered (receives (d ∷ log)) (ended_recv e) ≡ Some q → EndOf own d log ps e q
unfolding ended_recv
end_of own d log is_new ps e q t m h =
    let a = member-map Filled e (filter (is_whole own d log) ps) m in
    let p : Pair = a.0 in
    let b = member-filter (is_whole own d log) p ps a.1 in
    let u = touched own d log is_new ps p t b.0 in
    let found : Some q ≡ Some u.recv =
    sym h ∙ ap (λ (x : RecvEnd). receive_numbered (receives (d ∷ log)) (ended_recv x)) (sym a.2) ∙ accepted_found own d log u.recv p.recv.id.0 u.out u.number_is in
    let same : u.recv ≡ q = cc in
    let number : q.number ≡ p.recv.id.0 = ap (λ (x : Receive). x.number) (sym same) ∙ u.number_is in
    record {
      out = subst (λ (x : Receive). Member x (out_with own d log)) same u.out;
      pair_of' = pair_with own d log is_new ps q p t b.0 number;
      end_is = sym a.2;
      fills_is = fills_with own d log is_new ps q p t b.0 number b.1;
    }

-- they write within ranges
ends_fit : (own : Own) (d : Deed) (log : List Deed) (is_new : Bool) (ps : List Pair) → LifeLocal own (d ∷ log) → Touches own d log is_new ps
    → WritesFit (told own (d ∷ log)) (receives (d ∷ log)) (whole_ends own d log ps) (own_regions own log)
ends_fit own d log is_new ps local t = λ e q m h.
    let x = end_of own d log is_new ps e q t m h in
    (written_length (told own (d ∷ log)) e q.req, range_before own d log q local (out_accepted own d log q x.out))

-- a deed that makes pairs or brings bytes registers nothing
landing_registers : (d : Deed) → IsLanding d → region_by d ≡ []
unfolding region_by
landing_registers (Did (Recv req)) i = refl
landing_registers (Took from (Spelled (Rtm number tag confirm opt form))) i = refl
landing_registers (Took from (Spelled (CtsData recv offset connid bytes))) i = refl
landing_registers (Took from (Gives g)) i = refl
landing_registers _ i = absurd i

-- the byte at a place after the ends
byte_after : (own : Own) (d : Deed) (log : List Deed) (is_new : Bool) (ps : List Pair) (region place : ℕ) → IsLanding d → Touches own d log is_new ps
    → region_byte own (d ∷ log) region place
    ≡ slice_get (get_or (after_ends (told own (d ∷ log)) (receives (d ∷ log)) (whole_ends own d log ps) (own_regions own log)) region []) place
byte_after own d log is_new ps region place i t =
    let ms = told own (d ∷ log) in
    let rs = receives (d ∷ log) in
    ap (λ (xs : List (List ℕ)). slice_get (get_or xs region []) place)
    (regions_step own d log
    ∙ ap (λ (xs : List (List ℕ)). after_ends ms rs (new_ends own d log) (own_regions own log) ++ xs) (landing_registers d i)
    ∙ append-nil (after_ends ms rs (new_ends own d log) (own_regions own log))
    ∙ ap (λ (es : List RecvEnd). after_ends ms rs es (own_regions own log)) (ends_are own d log is_new ps i t))

-- a place that is in no range of those that are filled stays
pub settled_outside : (own : Own) (d : Deed) (log : List Deed) (is_new : Bool) (ps : List Pair) (region place : ℕ) → LifeLocal own (d ∷ log) → IsLanding d → Touches own d log is_new ps
    → ((r : Receive) → Member r (out_with own d log) → fills own d log ps r ≡ true → is_place_of r.req region place ≡ false)
    → region_byte own (d ∷ log) region place ≡ region_byte own log region place
settled_outside own d log is_new ps region place local i t out =
    byte_after own d log is_new ps region place i t
    ∙ ends_outside (told own (d ∷ log)) (receives (d ∷ log)) (whole_ends own d log ps) (own_regions own log) region place (ends_fit own d log is_new ps local t)
    (λ e q m h. (let x = end_of own d log is_new ps e q t m h in out q x.out x.fills_is))

-- what came over what was there
laid : (o was : Option ℕ) → is_some was ≡ true → Some (unwrap_or o (unwrap_or was 0)) ≡ or_else o was
unfolding or_else
laid o None h = cc
laid None (Some b) h = refl
laid (Some a) (Some b) h = refl

-- the byte at a place of the range of a receive whose pair is that one
part_at : (own : Own) (d : Deed) (log : List Deed) (r : Receive) (p : Pair) (region place : ℕ) → pair_of own (d ∷ log) r ≡ Some p → is_place_of r.req region place ≡ true
    → (landed_receive own d log r).part (place - r.req.at)
    ≡ unwrap_or (byte_came own (d ∷ log) p.message.life p.message.no.0 (place - r.req.at)) (unwrap_or (region_byte own log region place) 0)
unfolding byte_of_pair
part_at own d log r p region place pair h =
    let parts = place_parts r.req region place h in
    let low = parts.1 in
    let high = parts.2 in
    let k : ℕ = place - r.req.at in
    let less : k < r.req.len = omega arith in
    let e : r.req.at + k ≡ place = omega arith in
    let was : Option ℕ = region_byte own log r.req.region.0 (r.req.at + k) in
    ap (λ (b : Bool). cond b (unwrap_or (byte_of_pair own (d ∷ log) (pair_of own (d ∷ log) r) k) (unwrap_or was 0)) 0) (lt-ltb k r.req.len less)
    ∙ ap (λ (o : Option Pair). unwrap_or (byte_of_pair own (d ∷ log) o k) (unwrap_or was 0)) pair
    ∙ ap (λ (x : ℕ). unwrap_or (byte_came own (d ∷ log) p.message.life p.message.no.0 k) (unwrap_or (region_byte own log x (r.req.at + k)) 0)) parts.0
    ∙ ap (λ (x : ℕ). unwrap_or (byte_came own (d ∷ log) p.message.life p.message.no.0 k) (unwrap_or (region_byte own log region x) 0)) e

-- two pairs of one receive are one
same_pair : (own : Own) (d : Deed) (log : List Deed) (ps : List Pair) (q r : Receive) (x : PairOf own d log ps q) (y : PairOf own d log ps r) → q ≡ r → x.pair ≡ y.pair
same_pair own d log ps q r x y same =
    (matching_numbered own.limits.first (told own (d ∷ log)).head (d ∷ log)).once x.pair y.pair x.paired y.paired
    (sym x.number_is ∙ ap (λ (z : Receive). z.number) same ∙ y.number_is)

-- a place in the range of one that is filled has the byte that comes home with it
pub settled_inside : (own : Own) (d : Deed) (log : List Deed) (is_new : Bool) (ps : List Pair) (region place : ℕ) (r : Receive) → LifeLocal own (d ∷ log) → AllTakenRead (d ∷ log) → IsLanding d
    → Touches own d log is_new ps → Member r (out_with own d log) → fills own d log ps r ≡ true → is_place_of r.req region place ≡ true
    → Some ((landed_receive own d log r).part (place - r.req.at)) ≡ region_byte own (d ∷ log) region place
unfolding written_by ended_recv
settled_inside own d log is_new ps region place r local fit i t m filled inside =
    let ms = told own (d ∷ log) in
    let rs = receives (d ∷ log) in
    let es = whole_ends own d log ps in
    let parts = place_parts r.req region place inside in
    let low = parts.1 in
    let high = parts.2 in
    let k : ℕ = place - r.req.at in
    let was : Option ℕ = region_byte own log region place in
    let there = slice_get_some (get_or (own_regions own log) region []) place
    (place_there (own_regions own log) r.req region place (range_before own d log r local (out_accepted own d log r m)) inside) in
    elim (has_pair own d log is_new ps r t) [
      | inr none ↦ absurd (let wrong : true ≡ false = sym filled ∙ fills_none own d log ps r none in cc)
      | inl y ↦
          let p = y.pair in
          let whole : is_whole own d log p ≡ true = sym (fills_by own d log ps r y) ∙ filled in
          ap Some (part_at own d log r p region place y.pair_is inside)
          ∙ laid (byte_came own (d ∷ log) p.message.life p.message.no.0 k) was there
          ∙ ap (λ (o : Option ℕ). or_else o was) (sym (written_is own d log p r.req.len k local fit whole (omega arith)))
          ∙ sym (byte_after own d log is_new ps region place i t
          ∙ ends_inside ms rs es (own_regions own log) region place (Filled p) r (ends_fit own d log is_new ps local t)
          (map-member Filled p (filter (is_whole own d log) ps) (filter-member (is_whole own d log) p ps y.member whole))
          (accepted_found own d log r p.recv.id.0 m y.number_is) inside
          (λ e q n h at.
          let x = end_of own d log is_new ps e q t n h in
          let one = out_apart own d log local q r region place x.out m at inside in
          x.end_is ∙ ap Filled (same_pair own d log ps q r x.pair_of' y one)))
    ]
