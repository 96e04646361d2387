-- Ranges that are out stand: each is missing, and no two share a place.
use Rattle.std.proofs.Common.{◌≡◌, ◌+◌, true, false, not, ◌&&◌, eq-eqb, eqb-true, List, [], ◌∷◌, ◌++◌, Some, refl, ◌⊎◌, inl, inr, sym, ◌∙◌, subst}
use Rattle.std.specs.Prelude.{◌==◌, nat_lt, filter}
use Rattle.std.specs.List.{list_any}
use Rattle.std.proofs.lemmas.Bool.{and_parts, and_from, not-true}
use Rattle.rdm_lists.specs.Lists.{Member}
use Rattle.rdm_lists.proofs.Members.{list_any_false, member-append_cases, member-filter}
use Rattle.rdm_num.specs.Pieces.{overlaps}
use Rattle.rdm_num.specs.declared.numbers.Life.{Life}
use Rattle.rdm_model.specs.Beginnings.{Own, own_of, rank_of}
use Rattle.rdm_model.specs.Deeds.{Deed, Took, Item, of_life}
use Rattle.rdm_model.specs.Scenes.{Scene, deeds_at}
use Rattle.rdm_law.proofs.Lives.Lives.{life_of, LifeLocal, opened_scene}
use Rattle.rdm_life.specs.Handling.{kept}
use Rattle.rdm_life.specs.Lending.{Loan, brought, share, is_free, same_loan, land_lent, IsMissing}
use Rattle.rdm_life.specs.Laws.{kept_in, LoansStand, LendingStands, UnlendingStands, LandingStands}
use Rattle.rdm_life.proofs.TakenBy.{false_unless}
use Rattle.rdm_life.proofs.TakenRead.{AllTakenRead, act_fits, deeds_fit}
use Rattle.rdm_life.proofs.RecordKept.{record_kept}
use Rattle.rdm_life.proofs.LoansLast.{lasts}
use Rattle.rdm_life.proofs.LoansLaw.{local_more}

-- a place that two share is one that both have
share_back : (a b : Loan) → share a b ≡ true → share b a ≡ true
unfolding share overlaps
share_back a b h =
    let p = and_parts (a.recv == b.recv) (nat_lt 0 a.len && nat_lt 0 b.len && nat_lt a.offset (b.offset + b.len) && nat_lt b.offset (a.offset + a.len)) h in
    let q = and_parts (nat_lt 0 a.len && nat_lt 0 b.len && nat_lt a.offset (b.offset + b.len)) (nat_lt b.offset (a.offset + a.len)) p.1 in
    let r = and_parts (nat_lt 0 a.len && nat_lt 0 b.len) (nat_lt a.offset (b.offset + b.len)) q.0 in
    let s = and_parts (nat_lt 0 a.len) (nat_lt 0 b.len) r.0 in
    and_from (b.recv == a.recv) (nat_lt 0 b.len && nat_lt 0 a.len && nat_lt b.offset (a.offset + a.len) && nat_lt a.offset (b.offset + b.len))
    (eq-eqb b.recv a.recv (sym (eqb-true a.recv b.recv p.0)))
    (and_from (nat_lt 0 b.len && nat_lt 0 a.len && nat_lt b.offset (a.offset + a.len)) (nat_lt a.offset (b.offset + b.len))
    (and_from (nat_lt 0 b.len && nat_lt 0 a.len) (nat_lt b.offset (a.offset + a.len)) (and_from (nat_lt 0 b.len) (nat_lt 0 a.len) s.1 s.0) q.1) r.1)

-- so none is shared either way
apart_back : (a b : Loan) → share a b ≡ false → share b a ≡ false
apart_back a b h = false_unless (share b a) (λ t. (let back = share_back b a t in let wrong : true ≡ false = sym back ∙ h in cc))

-- a loan is the same as itself
same_self : (l : Loan) → same_loan l l ≡ true
unfolding same_loan
same_self l =
    and_from ((l.recv == l.recv) && (l.offset == l.offset)) (l.len == l.len)
    (and_from (l.recv == l.recv) (l.offset == l.offset) (eq-eqb l.recv l.recv refl) (eq-eqb l.offset l.offset refl)) (eq-eqb l.len l.len refl)

-- one of those that were out, or the new one
lent_member : (out : List Loan) (l k : Loan) → Member k (out ++ l ∷ []) → Member k out ⊎ (l ≡ k)
lent_member out l k m =
    elim (member-append_cases k out (l ∷ []) m) [
      | inl a ↦ inl a
      | inr b ↦ elim b [ inl is ↦ inr is | inr never ↦ elim never [ ] ]
    ]

-- with one more
pub lending_stands : LendingStands
unfolding is_free
lending_stands w l s m free =
    let none : (k : Loan) → Member k w.out → share l k ≡ false = list_any_false (share l) w.out (not-true (list_any (share l) w.out) free) in
    record {
      missing = λ k a. elim (lent_member w.out l k a) [
        | inl b ↦ s.missing k b
        | inr is ↦ subst (IsMissing w.kept) is m
      ];
      apart = λ k j a b other. elim (lent_member w.out l k a) [
        | inl c ↦ elim (lent_member w.out l j b) [
          | inl d ↦ s.apart k j c d other
          | inr is ↦ subst (λ (x : Loan). share k x ≡ false) is (apart_back l k (none k c))
        ]
        | inr is ↦ elim (lent_member w.out l j b) [
          | inl d ↦ subst (λ (x : Loan). share x j ≡ false) is (none j d)
          | inr same ↦ (
              let one : k ≡ j = sym is ∙ same in
              let self : same_loan k j ≡ true = subst (λ (x : Loan). same_loan k x ≡ true) one (same_self k) in
              let wrong : true ≡ false = sym self ∙ other in
              cc)
        ]
      ];
    }

-- those that stay out were out, and are others
left_member : (out : List Loan) (l k : Loan) → Member k (filter (λ (x : Loan). not (same_loan x l)) out) → Member k out × (same_loan k l ≡ false)
left_member out l k m = (let f = member-filter (λ (x : Loan). not (same_loan x l)) k out m in (f.0, not-true (same_loan k l) f.1))

-- with one less
pub unlending_stands : UnlendingStands
unlending_stands w l s =
    record {
      missing = λ k m. s.missing k (left_member w.out l k m).0;
      apart = λ k j a b other. s.apart k j (left_member w.out l k a).0 (left_member w.out l j b).0 other;
    }

-- where one lands
land_stands : (own : Own) (log : List Deed) (from : Life) (item : Item) (l : Loan) (out : List Loan) → LifeLocal own (Took from item ∷ log) → AllTakenRead (Took from item ∷ log)
    → Member l out → brought (kept own log) from item ≡ Some l → LoansStand (record { kept = kept own log; out = out })
    → LoansStand (land_lent l from item (record { kept = kept own log; out = out }))
land_stands own log from item l out local fit m brings s =
    let k = record_kept own log fit.0 local.0 in
    record {
      missing = λ j a.
          let b = left_member out l j a in
          (lasts own (Took from item) log (kept own log) j local fit k (s.missing j b.0)
          (λ i is. (let same : l ≡ i = cc in subst (λ (x : Loan). share x j ≡ false) same (apart_back j l (s.apart j l b.0 m b.1))))).still;
      apart = λ i j a b other. s.apart i j (left_member out l i a).0 (left_member out l j b).0 other;
    }

-- so it is in a log
pub landing_stands : LandingStands
landing_stands job port connid e log from item l out local is deed m =
    let own = own_of job (life_of port connid) in
    let port_log = deeds_at job port log in
    subst (λ (s : Scene). brought (kept_in s) from item ≡ Some l → LoansStand (record { kept = kept_in s; out = out }) → LoansStand (land_lent l from item (record { kept = kept_in s; out = out })))
    (sym (opened_scene job port connid port_log is))
    (λ brings s.
    land_stands own (of_life connid port_log) from item l out (subst (λ (d : Deed). LifeLocal own (d ∷ of_life connid port_log)) deed (local_more job port connid e log local is))
    (subst (λ (d : Deed). AllTakenRead (d ∷ of_life connid port_log)) deed (deeds_fit job port connid log, act_fits (rank_of job port).ops e.act)) m brings s)
