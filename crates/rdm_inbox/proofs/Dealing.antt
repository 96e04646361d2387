-- One more port gets its passes, from the last on.
use Rattle.std.proofs.Common.{◌≡◌, ℕ, ◌+◌, ◌-◌, ◌<◌, ◌≤◌, List, [], ◌∷◌, ◌++◌, length, map, set, take, cond, sym, refl, ap, ◌∙◌, subst, arith, length-set, Some}
use Rattle.std.specs.Prelude.{slice_get}
use Rattle.std.proofs.lemmas.Bool.{lt-leb}
use mathlib.Core.Logic.{dite}
use native.Mathlib.Decide.{ℕ_discrete}
use Rattle.rdm_wire.specs.declared.Datagram.{Datagram}
use Rattle.rdm_inbox.specs.Senders.{list_at}
use Rattle.rdm_inbox.specs.Letters.{but_last}
use Rattle.rdm_inbox.specs.Passes.{InboxState, SendState}
use Rattle.rdm_inbox.specs.Queues.{PassesState, AreGathered, with_reader}
use Rattle.rdm_inbox.specs.Sharing.{AreNamed, KnowSome, parted, pass_for, dealt, AreDealt}
use Rattle.rdm_inbox.proofs.Passing.{same_some, some_at, slice_get-low, slice_get-name}
use Rattle.rdm_inbox.proofs.Places.{list_at-take}
use Rattle.rdm_inbox.proofs.Pointwise.{slice_get-set_here, slice_get-set_else, take-whole, take-but_last, length-take, le-self, le-others, map-alike}

module _ (tables : List InboxState) (all : List PassesState) (g : AreGathered tables all) where
  -- the reader's pass has as many senders as there are ports
  known_all : (port : ℕ) (v : PassesState) → slice_get all port ≡ Some v → length v.reader.post.known ≡ length all
  known_all port v at = let is = g.each port v at in is.whole.0 ∙ (is.reader.ports ∙ sym g.count)

  pub dealt_start : AreDealt all (length all) all
  dealt_start = record {
    each = λ port v at. let low = slice_get-low all port v at in
        at ∙ ap {A = PassesState} (λ u. Some u) (λ i. record v {
          senders = ap (λ b. cond b (map (pass_for port) all) v.senders) (sym (lt-leb (length all) port low)) i;
          reader = record v.reader { post = record v.reader.post { known = sym (take-whole v.reader.post.known (length all) (let n = known_all port v at in omega arith)) i } };
        });
    count = refl;
  }

  module _ (now : List PassesState) (n : ℕ) (d : AreDealt all n now) where
    -- the passes that were dealt out so far, as they were
    was_at : (port : ℕ) (b : PassesState) → slice_get now port ≡ Some b → (v : PassesState) × (slice_get all port ≡ Some v) × (b ≡ dealt all n port v)
    was_at port b at = let low = slice_get-low now port b at in let count = d.count in let v = some_at all port (omega arith) in
        (v.0, v.1, same_some b (dealt all n port v.0) (sym at ∙ d.each port v.0 v.1))

    pub dealt_named : AreNamed tables now
    dealt_named = record {
      each = λ port b at. let v = was_at port b at in
          slice_get-name tables port (record { table = v.0.reader.table; size = v.0.reader.post.size }) (g.each port v.0 v.1).reader.named ∙ ap (λ (u : PassesState). Some u.reader.table) (sym v.2);
      count = d.count ∙ g.count;
    }

    pub dealt_some : 0 < n → n ≤ length all → KnowSome now
    dealt_some some few port b at = let v = was_at port b at in let k = known_all port v.0 v.1 in let long = length-take v.0.reader.post.known n (omega arith) in
        subst (λ (u : PassesState). 0 < length u.reader.post.known) (sym v.2) (omega arith)

  -- the last senders that the readers' passes have, on their own, are the passes of the next port
  parted_row : (now : List PassesState) (p : ℕ) → AreDealt all (p + 1) now → p < length all → map parted now ≡ map (pass_for p) all
  parted_row now p d low = map-alike parted (pass_for p) now all d.count (λ i b v at was.
      let k = known_all i v was in let long = length-take v.reader.post.known (p + 1) (omega arith) in
      let from : length (take (p + 1) v.reader.post.known) - 1 ≡ p = omega arith in
      ap parted (same_some b (dealt all (p + 1) i v) (sym at ∙ d.each i v was))
      ∙ (λ j. record { table = v.reader.table; post = record { from = from j; port = v.reader.post.port; ports = v.reader.post.ports; sent = sent_at v.reader.post.known p (length (take (p + 1) v.reader.post.known) - 1) from j; fulls = 0 } }))
    where
      sent_at : (known : List (List Datagram)) (p q : ℕ) → q ≡ p → list_at (take (p + 1) known) q ≡ list_at known p
      sent_at known p q e = ap (list_at (take (p + 1) known)) e ∙ list_at-take (p + 1) p known (omega arith)

  pub dealt_more : (now parted_now : List PassesState) (p : ℕ) (x w : PassesState) (row : List SendState) → AreDealt all (p + 1) now → p < length all
      → ((port : ℕ) (v : PassesState) → slice_get now port ≡ Some v → slice_get parted_now port ≡ Some (with_reader but_last v)) → length parted_now ≡ length now → row ≡ map parted now
      → slice_get parted_now p ≡ Some x → w ≡ record x { senders = row } → AreDealt all p (set parted_now p w)
  dealt_more now parted_now p x w row d low each same row_is at is = record {
    each = λ port v was.
        let k = known_all port v was in let less = take-but_last v.reader.post.known p (omega arith) in
        let then = each port (dealt all (p + 1) port v) (d.each port v was) in
        dite (ℕ_discrete port p)
        (λ e. subst (λ q. slice_get (set parted_now p w) q ≡ Some (dealt all p q v)) (sym e)
        (slice_get-set_here parted_now p w (let count = d.count in omega arith)
        ∙ ap {A = PassesState} (λ u. Some u) (is ∙ (ap {A = PassesState} (λ u. record u { senders = row }) (same_some x (with_reader but_last (dealt all (p + 1) port v)) (sym at ∙ subst (λ q. slice_get parted_now q ≡ Some (with_reader but_last (dealt all (p + 1) port v))) e then))
        ∙ (λ i. record v {
          senders = (row_is ∙ (parted_row now p d low ∙ ap (λ b. cond b (map (pass_for p) all) v.senders) (sym (le-self p)))) i;
          reader = record v.reader { post = record v.reader.post { known = less i } };
        })))))
        (λ ne. slice_get-set_else parted_now p port w ne ∙ (then ∙ ap {A = PassesState} (λ u. Some u) (λ i. record v {
          senders = cond (sym (le-others p port ne) i) (map (pass_for port) all) v.senders;
          reader = record v.reader { post = record v.reader.post { known = less i } };
        })));
    count = length-set parted_now p w ∙ (same ∙ d.count);
  }
