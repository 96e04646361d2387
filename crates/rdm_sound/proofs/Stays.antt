-- Receives stay apart, and each of one number, as they change and end.
use Rattle.std.proofs.Common.{◌≡◌, ℕ, Bool, true, false, cond, not, List, Some, None, map, refl, sym, ◌∙◌, ap}
use Rattle.std.specs.Prelude.{filter, if◌then◌else◌}
use Rattle.rdm_lists.proofs.Members.{member-filter, member-map}
use Rattle.rdm_life.specs.Kept.{Kept, LiveReceive, is_receive, receive_numbered, change_where}
use Rattle.rdm_life.specs.Memory.{is_place_of}
use Rattle.rdm_life.specs.Landing.{with_window, is_full}
use Rattle.rdm_sound.specs.Premises.{AreNumbered, AreApart}
use Rattle.rdm_sound.specs.Steps.{settle_found, settle_one, with_end, with_next_window, with_replies}

-- fewer receives
pub numbered_fewer : (t : LiveReceive → Bool) (rs : List LiveReceive) → AreNumbered rs → AreNumbered (filter t rs)
numbered_fewer t rs numbered q r m k e = numbered q r (member-filter t q rs m).0 (member-filter t r rs k).0 e

pub apart_fewer : (t : LiveReceive → Bool) (rs : List LiveReceive) → AreApart rs → AreApart (filter t rs)
apart_fewer t rs apart q r region place m k a b = apart q r region place (member-filter t q rs m).0 (member-filter t r rs k).0 a b

-- changed receives
pub numbered_changed : (f : LiveReceive → LiveReceive) (rs : List LiveReceive) → ((x : LiveReceive) → (f x).receive ≡ x.receive) → AreNumbered rs → AreNumbered (map f rs)
numbered_changed f rs same numbered q r m k e =
    let a = member-map f q rs m in
    let b = member-map f r rs k in
    let left : q.receive.number ≡ a.0.receive.number = sym (ap (λ (x : LiveReceive). x.receive.number) a.2) ∙ ap (λ s. s.number) (same a.0) in
    let right : r.receive.number ≡ b.0.receive.number = sym (ap (λ (x : LiveReceive). x.receive.number) b.2) ∙ ap (λ s. s.number) (same b.0) in
    sym a.2 ∙ ap f (numbered a.0 b.0 a.1 b.1 (sym left ∙ e ∙ right)) ∙ b.2

pub apart_changed : (f : LiveReceive → LiveReceive) (rs : List LiveReceive) → ((x : LiveReceive) → (f x).receive ≡ x.receive) → AreApart rs → AreApart (map f rs)
apart_changed f rs same apart q r region place m k x y =
    let a = member-map f q rs m in
    let b = member-map f r rs k in
    let left : is_place_of q.receive.req region place ≡ is_place_of a.0.receive.req region place =
    sym (ap (λ (x : LiveReceive). is_place_of x.receive.req region place) a.2) ∙ ap (λ s. is_place_of s.req region place) (same a.0) in
    let right : is_place_of r.receive.req region place ≡ is_place_of b.0.receive.req region place =
    sym (ap (λ (x : LiveReceive). is_place_of x.receive.req region place) b.2) ∙ ap (λ s. is_place_of s.req region place) (same b.0) in
    sym a.2 ∙ ap f (apart a.0 b.0 region place a.1 b.1 (sym left ∙ x) (sym right ∙ y)) ∙ b.2

-- a change of those that pass leaves what each was accepted as
pub where_same : (t : LiveReceive → Bool) (f : LiveReceive → LiveReceive) (x : LiveReceive) → (f x).receive ≡ x.receive → (cond (t x) (f x) x).receive ≡ x.receive
where_same t f x e = elim (t x) as (λ b. (cond b (f x) x).receive ≡ x.receive) [ true ↦ e | false ↦ refl ]

pub numbered_where : (t : LiveReceive → Bool) (f : LiveReceive → LiveReceive) (rs : List LiveReceive) → ((x : LiveReceive) → (f x).receive ≡ x.receive) → AreNumbered rs
    → AreNumbered (change_where t f rs)
unfolding change_where
numbered_where t f rs same numbered = numbered_changed (λ x. if t x then f x else x) rs (λ x. where_same t f x (same x)) numbered

pub apart_where : (t : LiveReceive → Bool) (f : LiveReceive → LiveReceive) (rs : List LiveReceive) → ((x : LiveReceive) → (f x).receive ≡ x.receive) → AreApart rs
    → AreApart (change_where t f rs)
unfolding change_where
apart_where t f rs same apart = apart_changed (λ x. if t x then f x else x) rs (λ x. where_same t f x (same x)) apart

-- a window leaves it
pub window_same : (v : Kept) (x : LiveReceive) → (with_window v.own x).receive ≡ x.receive
unfolding with_window
window_same v x = refl

-- so it is after one settled
pub settled_numbered : (is_new : Bool) (n : ℕ) (v : Kept) → AreNumbered v.receives → AreNumbered (settle_one is_new n v).receives
unfolding settle_found
settled_numbered is_new n v numbered =
    elim (receive_numbered v n) as (λ o. AreNumbered (settle_found is_new o v).receives) [
      | None ↦ numbered
      | Some r ↦ elim (is_full r.matched) as (λ b. AreNumbered (with_replies is_new r (cond b (with_end r v) (with_next_window r v))).receives) [
        | true ↦ numbered_fewer (λ (q : LiveReceive). not (is_receive r.receive.number q)) v.receives numbered
        | false ↦ numbered_where (is_receive r.receive.number) (with_window v.own) v.receives (window_same v) numbered
      ]
    ]

pub settled_apart : (is_new : Bool) (n : ℕ) (v : Kept) → AreApart v.receives → AreApart (settle_one is_new n v).receives
unfolding settle_found
settled_apart is_new n v apart =
    elim (receive_numbered v n) as (λ o. AreApart (settle_found is_new o v).receives) [
      | None ↦ apart
      | Some r ↦ elim (is_full r.matched) as (λ b. AreApart (with_replies is_new r (cond b (with_end r v) (with_next_window r v))).receives) [
        | true ↦ apart_fewer (λ (q : LiveReceive). not (is_receive r.receive.number q)) v.receives apart
        | false ↦ apart_where (is_receive r.receive.number) (with_window v.own) v.receives (window_same v) apart
      ]
    ]
