-- What changes of the lives show of the record.
use Rattle.std.proofs.Common.{◌≡◌, ℕ, Bool, true, false, cond, [], ◌∷◌, Option, Some, None, refl, sym, ap, ◌∙◌, arith}
use Rattle.std.specs.Prelude.{◌||◌, ◌&&◌, ◌==◌, option_map}
use Rattle.std.specs.Ordering.{nat_cmp, eq_by_cmp}
use Rattle.std.specs.Cmp.{IsTotalOrder, nat_cmp_total, then_total, on_total, unsigned_tied, tied_then}
use Rattle.std.specs.List.{list_any}
use Rattle.std.specs.FinMap as map
use Rattle.std.specs.FinSet as set
use Rattle.rdm_num.specs.Lives.{same_life, life}
use Rattle.rdm_num.proofs.Lives.{same_life-true}
use Rattle.rdm_num.specs.declared.numbers.PortNo.{PortNo}
use Rattle.rdm_num.specs.declared.numbers.Life.{Life}
use Rattle.rdm_av.specs.Lives as Av
use Rattle.rdm_av.specs.Lives.{no_lives, life_order, current_life, is_superseded, inserted_beside, with_spent, with_room, with_current, with_superseded, reserved_answer, after_insert}
use Rattle.rdm_model.specs.Currents.{other_life}
use Rattle.rdm_model.specs.Worlds.{put_at}
use Rattle.rdm_life.specs.Forgetting.{forget, is_among}
use Rattle.rdm_life.specs.Lives as Record
use Rattle.rdm_life.specs.Lives.{greet, with_source}
use Rattle.rdm_shown.specs.Lives.{ShowsLives}
use Rattle.rdm_shown.specs.LifeLaws.{NoLivesShow, InsertShows, SourceShows, OriginsShow, superseded_by}

-- lives are ordered in full
ordered : IsTotalOrder life_order
ordered = then_total (on_total (λ t. t.0) nat_cmp_total) (on_total (λ t. t.1) nat_cmp_total)

-- numbers that agree are one
same_number : (a b : ℕ) → (a == b) ≡ true → a ≡ b
same_number a b h = grind (arith, h)

-- the current life of each port once a life is current
current_one : (lives : Av.Lives) (l : Life) (p : PortNo) → current_life (with_current lives l) p ≡ cond (p.0 == l.port.0) (Some l) (current_life lives p)
current_one lives l p =
    ap (option_map (life p)) (map.get-insert nat_cmp_total lives.current l.port.0 l.connid p.0 ∙ ap (λ b. cond b (Some l.connid) (map.get lives.current p.0)) (unsigned_tied p.0 l.port.0))
    ∙ elim (p.0 == l.port.0) as (λ b. (p.0 == l.port.0) ≡ b → option_map (life p) (cond b (Some l.connid) (map.get lives.current p.0)) ≡ cond b (Some l) (current_life lives p)) [
      | true ↦ λ is. (let e = same_number p.0 l.port.0 is in λ i. Some (record { port = record { 0 = e i }; connid = l.connid }))
      | false ↦ λ is. refl
    ] refl

-- lives tie where they are the same
tied : (a b : Life) → eq_by_cmp life_order (a.port.0, a.connid.0) (b.port.0, b.connid.0) ≡ same_life a b
unfolding same_life
tied a b = sym (tied_then (nat_cmp a.port.0 b.port.0) (nat_cmp a.connid.0 b.connid.0)) ∙ (λ i. unsigned_tied a.port.0 b.port.0 i && unsigned_tied a.connid.0 b.connid.0 i)

-- a life is superseded once it or another one is
superseded_one : (lives : Av.Lives) (old l : Life) → is_superseded (with_superseded lives old) l ≡ (same_life l old || is_superseded lives l)
superseded_one lives old l =
    set.contains-insert ordered lives.superseded (old.port.0, old.connid.0) (l.port.0, l.connid.0)
    ∙ ap (λ b. b || is_superseded lives l) (tied l old)

-- before any deed
pub none_shows : NoLivesShow
none_shows own =
    record {
      current_is = λ port. sym (ap (option_map (life port)) (map.get-empty nat_cmp port.0));
      superseded_is = λ l. sym (set.contains-empty life_order (l.port.0, l.connid.0));
    }

-- a life that is inserted, by the current life of its port
insert_by : (lives : Av.Lives) (life : Life) (now : Option Life) (current : ℕ → Option Life) (superseded : Life → Bool)
    → ShowsLives lives current superseded → is_superseded lives life ≡ false → current_life lives life.port ≡ now
    → (superseded_by (reserved_answer lives life) ≡ other_life life now)
    × ShowsLives (with_spent (after_insert lives life (reserved_answer lives life))) (put_at life.port.0 (Some life) current) (λ l. superseded l || is_among (other_life life now) l)
unfolding superseded_by other_life inserted_beside after_insert put_at is_among
insert_by lives life None current superseded shows fresh is =
    rw (fresh, is) (
      refl,
      record {
        current_is = λ port. ap (λ o. cond (port.0 == life.port.0) (Some life) o) (shows.current_is port) ∙ sym (current_one lives life port);
        superseded_is = λ l. or_false (superseded l) ∙ shows.superseded_is l;
      },
    )
  where
    or_false : (b : Bool) → (b || false) ≡ b
    or_false true = refl
    or_false false = refl
insert_by lives life (Some old) current superseded shows fresh is =
    elim (same_life old life) as (λ b. same_life old life ≡ b
    → (superseded_by (reserved_answer lives life) ≡ cond b [] (old ∷ []))
    × ShowsLives (with_spent (after_insert lives life (reserved_answer lives life))) (put_at life.port.0 (Some life) current) (λ l. superseded l || list_any (same_life l) (cond b [] (old ∷ [])))) [
      | true ↦ λ same.
          let one = same_life-true old life same in
          rw (fresh, is, same) (
            refl,
            record {
              current_is = λ port. elim (port.0 == life.port.0) as (λ c. (port.0 == life.port.0) ≡ c → cond c (Some life) (current port.0) ≡ current_life lives port) [
                | true ↦ λ at. ap Some (sym one) ∙ sym is ∙ ap (λ n. current_life lives (record { 0 = n })) (sym (same_number port.0 life.port.0 at))
                | false ↦ λ at. shows.current_is port
              ] refl;
              superseded_is = λ l. or_false (superseded l) ∙ shows.superseded_is l;
            },
          )
      | false ↦ λ other.
          rw (fresh, is, other) (
            refl,
            record {
              current_is = λ port. ap (λ o. cond (port.0 == life.port.0) (Some life) o) (shows.current_is port) ∙ sym (current_one (with_superseded lives old) life port);
              superseded_is = λ l. ap (λ b. b || (same_life l old || false)) (shows.superseded_is l) ∙ turned (is_superseded lives l) (same_life l old) ∙ sym (superseded_one lives old l);
            },
          )
    ] refl
  where
    or_false : (b : Bool) → (b || false) ≡ b
    or_false true = refl
    or_false false = refl

    turned : (a b : Bool) → (a || (b || false)) ≡ (b || a)
    turned true true = refl
    turned true false = refl
    turned false true = refl
    turned false false = refl

-- so it is once a life is inserted
pub insert_shows : InsertShows
unfolding greet forget Record.after_insert put_at
insert_shows lives l v shows fresh =
    let by = insert_by lives l (v.current l.port.0) v.current v.superseded shows fresh (sym (shows.current_is l.port)) in
    (record { current_is = shows.current_is; superseded_is = shows.superseded_is }, by.0, by.1)

-- the first life of a port
pub source_shows : SourceShows
unfolding with_source put_at
source_shows lives life v shows = (
  λ none. (let first = shows.current_is life.port ∙ none in
      record {
        current_is = λ port. rw first (ap (λ o. cond (port.0 == life.port.0) (Some life) o) (shows.current_is port) ∙ sym (current_one lives life port));
        superseded_is = shows.superseded_is;
      }),
  λ now is. (let there = shows.current_is life.port ∙ is in rw there refl),
)

-- where something comes from
pub origins_show : OriginsShow
origins_show lives life has_raw v shows = ap (λ o. Av.origin o life has_raw) (sym (shows.current_is life.port))
