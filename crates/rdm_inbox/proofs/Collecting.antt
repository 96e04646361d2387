-- The readers' passes take in the senders of one more port.
use Rattle.std.proofs.Common.{◌≡◌, ℕ, ◌+◌, ◌<◌, List, [], ◌∷◌, ◌++◌, length, map, set, take, cond, nat_lt, sum, sym, refl, ap, ◌∙◌, subst, arith, add-zero, length-set, Some}
use Rattle.std.specs.Prelude.{slice_get}
use Rattle.std.proofs.lemmas.Bool.{le-ltb}
use Rattle.std.proofs.lemmas.List.Sums.{sum_by_push}
use mathlib.Core.Logic.{dite}
use native.Mathlib.Decide.{ℕ_discrete}
use Rattle.rdm_inbox.specs.Passes.{InboxState, SendState}
use Rattle.rdm_inbox.specs.Queues.{PassesState, AreAllPasses, names, sent_to}
use Rattle.rdm_inbox.specs.Sharing.{AreNamed, AreNext, with_next, sent_by_all, fulls_at, collected, AreCollected}
use Rattle.rdm_inbox.proofs.Passing.{same_some, some_at, slice_get-low, slice_get-or, slice_get-map, slice_get-name}
use Rattle.rdm_inbox.proofs.Serving.{length-map-of}
use Rattle.rdm_inbox.proofs.Pointwise.{slice_get-set_here, slice_get-set_else, take-more, length-take, lt-self, lt-next, lt-others}

module _ (tables : List InboxState) (all : List PassesState) (g : AreAllPasses tables all) where
  pub collected_start : AreCollected all 0 all
  collected_start = record {
    each = λ port v at. at ∙ ap {A = PassesState} (λ u. Some u) (λ i. record v {
      senders = ap (λ b. cond b [] v.senders) (sym (le-ltb port 0 (omega arith))) i;
      reader = record v.reader { post = record v.reader.post { known = (g.each port v at).0.alone i; fulls = sym (add-zero v.reader.post.fulls) i } };
    });
    count = refl;
  }

  module _ (now : List PassesState) (p : ℕ) (c : AreCollected all p now) (low : p < length all) (x w : PassesState) (at : slice_get now p ≡ Some x) (is : w ≡ record x { senders = [] }) (row : List SendState) (row_is : row ≡ x.senders) where
    -- the passes of the port whose senders are taken in, as they were
    from : (v : PassesState) × (slice_get all p ≡ Some v)
    from = some_at all p low

    row_from : row ≡ from.0.senders
    row_from = row_is ∙ (ap (λ (u : PassesState). u.senders) (same_some x (collected all p p from.0) (sym at ∙ c.each p from.0 from.1)) ∙ ap (λ b. cond b [] from.0.senders) (lt-self p))

    abbrev took : (port : ℕ) → PassesState → PassesState
    took port v = record (collected all p port v) { senders = cond (nat_lt port (p + 1)) [] v.senders }

    took_at : (port : ℕ) (v : PassesState) → slice_get all port ≡ Some v → slice_get (set now p w) port ≡ Some (took port v)
    took_at port v e = dite (ℕ_discrete port p)
        (λ same. subst (λ q. slice_get (set now p w) q ≡ Some (took q v)) (sym same)
        (slice_get-set_here now p w (let n = c.count in omega arith)
        ∙ ap {A = PassesState} (λ u. Some u) (is ∙ (ap {A = PassesState} (λ u. record u { senders = [] }) (same_some x (collected all p p v) (sym at ∙ c.each p v (subst (λ q. slice_get all q ≡ Some v) same e)))
        ∙ (λ i. record (collected all p p v) { senders = cond (sym (lt-next p) i) [] v.senders })))))
        (λ ne. slice_get-set_else now p port w ne ∙ (c.each port v e ∙ ap {A = PassesState} (λ u. Some u) (λ i. record (collected all p port v) { senders = cond (sym (lt-others p port ne) i) [] v.senders })))

    long : length (set now p w) ≡ length all
    long = length-set now p w ∙ c.count

    was_at : (port : ℕ) (b : PassesState) → slice_get (set now p w) port ≡ Some b → (v : PassesState) × (slice_get all port ≡ Some v) × (b ≡ took port v)
    was_at port b e = let lt = slice_get-low (set now p w) port b e in let n = long in let v = some_at all port (omega arith) in (v.0, v.1, same_some b (took port v.0) (sym e ∙ took_at port v.0 v.1))

    reader_named : (port : ℕ) (v : PassesState) → slice_get all port ≡ Some v → slice_get (names tables) port ≡ Some v.reader.table
    reader_named port v e = let o = g.each port v e in
        subst (λ q. slice_get (names tables) q ≡ Some v.reader.table) o.1 (slice_get-name tables v.port (record { table = v.reader.table; size = v.reader.post.size }) o.0.reader.named)

    pub collected_named : AreNamed tables (set now p w)
    collected_named = record {
      each = λ port b e. let v = was_at port b e in reader_named port v.0 v.1 ∙ ap (λ (u : PassesState). Some u.reader.table) (sym v.2);
      count = long ∙ g.count;
    }

    pub collected_next : AreNext (set now p w) row
    collected_next = record {
      each = λ port b s e f. let v = was_at port b e in let o = g.each p from.0 from.1 in let is_of = o.0.each port s (subst (λ l. slice_get l port ≡ Some s) row_from f) in
          let m = length-map-of (λ (u : PassesState). sent_to u port) all in let taken = length-take (sent_by_all all port) p (omega arith) in (
            same_some s.table b.reader.table (sym is_of.named ∙ (reader_named port v.0 v.1 ∙ ap (λ (u : PassesState). Some u.reader.table) (sym v.2))),
            is_of.from ∙ (o.1 ∙ (sym taken ∙ ap (λ (u : PassesState). length u.reader.post.known) (sym v.2))),
          );
      count = ap (λ l. length l) row_from ∙ ((g.each p from.0 from.1).0.all ∙ (sym g.count ∙ sym long));
    }

    pub collected_more : (then : List PassesState) → ((port : ℕ) (b : PassesState) → slice_get (set now p w) port ≡ Some b → slice_get then port ≡ Some (with_next (slice_get row port) b)) → length then ≡ length now
        → AreCollected all (p + 1) then
    collected_more then each same = record {
      each = λ port v e.
          let lt = slice_get-low all port v e in let n = collected_next.count in let m = long in let s = some_at row port (omega arith) in
          let of_p = subst (λ l. slice_get l port ≡ Some s.0) row_from s.1 in
          let sent : sent_to from.0 port ≡ s.0.post.sent = slice_get-or (map (λ (u : SendState). u.post.sent) from.0.senders) port s.0.post.sent [] (slice_get-map (λ (u : SendState). u.post.sent) from.0.senders port s.0 of_p) in
          let full : fulls_at from.0 port ≡ s.0.post.fulls = slice_get-or (map (λ (u : SendState). u.post.fulls) from.0.senders) port s.0.post.fulls 0 (slice_get-map (λ (u : SendState). u.post.fulls) from.0.senders port s.0 of_p) in
          let L = map (λ (u : PassesState). fulls_at u port) all in
          let known : take p (sent_by_all all port) ++ s.0.post.sent ∷ [] ≡ take (p + 1) (sent_by_all all port) =
          ap (λ ds. take p (sent_by_all all port) ++ ds ∷ []) (sym sent) ∙ sym (take-more (sent_by_all all port) p (sent_to from.0 port) (slice_get-map (λ (u : PassesState). sent_to u port) all p from.0 from.1)) in
          let total : sum (take (p + 1) L) ≡ sum (take p L) + s.0.post.fulls =
          ap sum (take-more L p (fulls_at from.0 port) (slice_get-map (λ (u : PassesState). fulls_at u port) all p from.0 from.1)) ∙ (sum_by_push (λ k. k) (take p L) (fulls_at from.0 port) ∙ ap (λ k. sum (take p L) + k) full) in
          let fulls : v.reader.post.fulls + sum (take p L) + s.0.post.fulls ≡ v.reader.post.fulls + sum (take (p + 1) L) = omega arith in
          each port (took port v) (took_at port v e) ∙ (ap (λ o. Some (with_next o (took port v))) s.1
          ∙ ap {A = PassesState} (λ u. Some u) (λ i. record (took port v) { reader = record v.reader { post = record v.reader.post { known = known i; fulls = fulls i } } }));
      count = same ∙ c.count;
    }
