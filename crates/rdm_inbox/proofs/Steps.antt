-- Each step of a sender's or a reader's pass keeps the rule of the inbox.
use Rattle.std.proofs.Common.{◌≡◌, ◌≢◌, ℕ, ◌-◌, ◌<◌, List, [], ◌∷◌, ◌++◌, length, set, sym, refl, ap, ap₂, ◌∙◌, subst, subst₂, ⊎_elim, append_assoc, append-nil, arith, length-append}
use mathlib.Core.Logic.{dite}
use mathlib.Core.Option.{some, none, some-ne-none}
use native.Mathlib.Decide.{ℕ_discrete}
use lib.ListN.{get_elem?}
use Rattle.crossbeam_queue.specs.Fifo.{Pushes, Pops, Forks, Merges, Learns}
use Rattle.crossbeam_queue.proofs.Lists.{at_set}
use Rattle.rdm_wire.specs.declared.Datagram.{Datagram}
use Rattle.rdm_inbox.specs.declared.post.SenderPost.{SenderPost}
use Rattle.rdm_inbox.specs.declared.post.ReaderPost.{ReaderPost}
use Rattle.rdm_inbox.specs.declared.post.Post.{Post}
use Rattle.rdm_inbox.specs.declared.post.Post.TheVariants.{Sender, Reader, Nobody}
use Rattle.rdm_inbox.specs.Senders.{from_port, AreFor}
use Rattle.rdm_inbox.specs.Letters.{InboxAccount, Fits, Letters, with_sent, with_taken, but_last, last_of, with_sender, after_full, after_empty, without_last, last_sender, taken_in, DoesSend, DoesTake, IsLeft}
use Rattle.rdm_inbox.proofs.Places.{with_at, with_at-here, with_at-else, from_own, from_other, from_port-append, AreFor-append, list_at-before, list_at-last, list_at-take, length-take_all}
use Rattle.rdm_inbox.proofs.Accounts.{one_seat, set_fits, add_fits, others_sent, others_taken, others_seated}

-- what each port sent, after one of them sent a datagram that is now at the back
pub in_order_sent : (a : InboxAccount) (items : List Datagram) (d : Datagram) → ((p : ℕ) → from_port p (a.taken ++ items) ≡ a.sent p)
    → (p : ℕ) → from_port p (a.taken ++ (items ++ d ∷ [])) ≡ with_at a.sent d.src.0 (a.sent d.src.0 ++ d ∷ []) p
in_order_sent a items d h p =
    ap (from_port p) (sym (append_assoc a.taken items (d ∷ []))) ∙ (from_port-append p (a.taken ++ items) (d ∷ []) ∙ (ap (λ l. l ++ from_port p (d ∷ [])) (h p) ∙ dite (ℕ_discrete d.src.0 p)
    (λ e. ap₂ (λ x y. x ++ y) (ap a.sent (sym e)) (from_own p d [] e) ∙ sym (with_at-here a.sent d.src.0 p (a.sent d.src.0 ++ d ∷ []) e))
    (λ ne. ap (λ l. a.sent p ++ l) (from_other p d [] ne) ∙ (append-nil (a.sent p) ∙ sym (with_at-else a.sent d.src.0 p (a.sent d.src.0 ++ d ∷ []) ne)))))

pub sends : (n pass : ℕ) (s : SenderPost) (d : Datagram) → d.src.0 ≡ s.from → d.dst.0 ≡ s.port → Pushes Letters n pass (Sender s) d (DoesSend (Sender s) d)
sends n pass s d src dst items views _ h at =
    let a = h.account in let mine = h.each pass (Sender s) at in let now = a.sent d.src.0 ++ d ∷ [] in let b : InboxAccount = record a { sent = with_at a.sent d.src.0 now } in
    let own : s.sent ≡ a.sent d.src.0 = mine.1 ∙ ap a.sent (sym src) in (
      Sender (with_sent s d),
      record {
        account = b;
        in_order = in_order_sent a items d h.in_order;
        addressed = AreFor-append a.port a.ports items (d ∷ []) h.addressed ((dst ∙ mine.2, subst (λ z. z < a.ports) (sym src) mine.4), tt);
        each = set_fits b views pass (Sender (with_sent s d))
            (mine.0, ap (λ l. l ++ d ∷ []) own ∙ sym (with_at-here a.sent d.src.0 s.from now src), mine.2, mine.3, mine.4)
            (λ j u ne e. others_sent a d.src.0 now pass (ap a.seat src ∙ mine.0) (subst (λ z. z < a.ports) (sym src) mine.4) j u ne (h.each j u e));
      },
      refl,
    )

pub takes : (pass : ℕ) (r : ReaderPost) → Pops Letters pass (Reader r) (DoesTake (Reader r))
takes pass r d items views h at =
    let a = h.account in let mine = h.each pass (Reader r) at in let b : InboxAccount = record a { taken = a.taken ++ d ∷ [] } in (
      Reader (with_taken r d),
      record {
        account = b;
        in_order = λ p. ap (from_port p) (append_assoc a.taken (d ∷ []) items) ∙ h.in_order p;
        addressed = h.addressed.1;
        each = set_fits b views pass (Reader (with_taken r d))
            (mine.0, ap (λ l. l ++ d ∷ []) mine.1, mine.2, mine.3, mine.4, mine.5, mine.6)
            (λ j u ne e. others_taken a (a.taken ++ d ∷ []) pass mine.0 j u ne (h.each j u e));
      },
      (refl, (h.addressed.0.0 ∙ sym mine.2, subst (λ z. d.src.0 < z) (sym mine.3) h.addressed.0.1)),
    )

-- a pass changes what it counts alone, and the new pass knows nothing
counts : (pass : ℕ) (v w : Post) → ((a : InboxAccount) → Fits a pass v → Fits a pass w) → Forks Letters pass v w Nobody
counts pass v w same items views h at = record {
  account = h.account;
  in_order = h.in_order;
  addressed = h.addressed;
  each = add_fits h.account views pass w Nobody (same h.account (h.each pass v at)) (λ j u _ e. h.each j u e) tt;
}

pub counts_full : (pass : ℕ) (v : Post) → Forks Letters pass v (after_full v) Nobody
counts_full pass (Sender s) = counts pass (Sender s) (after_full (Sender s)) (λ _ f. f)
counts_full pass (Reader r) = counts pass (Reader r) (after_full (Reader r)) (λ _ f. f)
counts_full pass Nobody = counts pass Nobody Nobody (λ _ f. f)

pub counts_empty : (pass : ℕ) (v : Post) → Forks Letters pass v (after_empty v) Nobody
counts_empty pass (Sender s) = counts pass (Sender s) (after_empty (Sender s)) (λ _ f. f)
counts_empty pass (Reader r) = counts pass (Reader r) (after_empty (Reader r)) (λ _ f. f)
counts_empty pass Nobody = counts pass Nobody Nobody (λ _ f. f)

-- the last sender gets a pass of its own
pub leaves : (pass : ℕ) (r : ReaderPost) → 0 < length r.known → Forks Letters pass (Reader r) (without_last (Reader r)) (last_sender (Reader r))
leaves pass r has items views h at =
    let a = h.account in let mine = h.each pass (Reader r) at in let k₀ : ℕ = length r.known - 1 in let vs = set views pass (Reader (but_last r)) in
    let b : InboxAccount = record a { seat = with_at a.seat k₀ (some (length vs)) } in let last = mine.5 k₀ (omega arith) in let long = length-take_all k₀ r.known (omega arith) in let fit = mine.6 in record {
      account = b;
      in_order = h.in_order;
      addressed = h.addressed;
      each = add_fits b views pass (Reader (but_last r)) (Sender (last_of r)) (
        mine.0,
        mine.1,
        mine.2,
        mine.3,
        (λ p le. (with_at-else a.seat k₀ p (some (length vs)) (λ e. omega arith) ∙ (mine.4 p le).0, (mine.4 p le).1)),
        (λ k lt. let m = mine.5 k (omega arith) in (with_at-else a.seat k₀ k (some (length vs)) (λ e. omega arith) ∙ m.0, list_at-take k₀ k r.known (omega arith) ∙ m.1)),
        omega arith,
      )
          (λ j u ne e. others_seated a k₀ (some (length vs)) pass mine.0 j u ne (λ s is from. some-ne-none j (sym (subst (λ v. Fits a j v) is (h.each j u e)).0 ∙ (ap a.seat from ∙ last.0))) (h.each j u e))
          (with_at-here a.seat k₀ k₀ (some (length vs)) refl, last.1, mine.2, mine.3, omega arith);
    }

-- the reader takes in the next sender
pub joins : (pass : ℕ) (r : ReaderPost) (other : ℕ) (s : SenderPost) → s.from ≡ length r.known → Merges Letters pass (Reader r) other (Sender s) (taken_in (Reader r) (Sender s)) Nobody
joins pass r other s next items views h at apart at' =
    let a = h.account in let both = Reader (with_sender r s) in let vs = set views pass both in
    let was : get_elem? views other ≡ some (Sender s) =
    ⊎_elim (λ (x : (other ≡ pass) × (both ≡ Sender s)). absurd (apart x.0)) (λ (x : (other ≢ pass) × (get_elem? views other ≡ some (Sender s))). x.1) (at_set views pass other both (Sender s) at') in
    let mine = h.each pass (Reader r) at in let theirs = h.each other (Sender s) was in let b : InboxAccount = record a { seat = with_at a.seat s.from none } in
    let long = length-append r.known (s.sent ∷ []) in let fit = mine.6 in let low = theirs.4 in record {
      account = b;
      in_order = h.in_order;
      addressed = h.addressed;
      each = set_fits b vs other Nobody tt (λ j u ne e. ⊎_elim
          (λ (x : (j ≡ pass) × (both ≡ u)). subst₂ (λ (j' : ℕ) (u' : Post). Fits b j' u') (sym x.0) x.1 (
            mine.0,
            mine.1,
            mine.2,
            mine.3,
            (λ p le. (with_at-else a.seat s.from p none (λ e'. omega arith) ∙ (mine.4 p le).0, (mine.4 p le).1)),
            (λ k lt. dite (ℕ_discrete s.from k)
                (λ e'. (with_at-here a.seat s.from k none e', list_at-last r.known s.sent k (sym e' ∙ next) ∙ (theirs.1 ∙ ap a.sent e')))
                (λ ne'. let m = mine.5 k (omega arith) in (with_at-else a.seat s.from k none ne' ∙ m.0, list_at-before r.known s.sent k (omega arith) ∙ m.1))),
            omega arith,
          ))
          (λ (x : (j ≢ pass) × (get_elem? views j ≡ some u)). others_seated a s.from none pass mine.0 j u x.0
          (λ t is from. ne (one_seat (a.seat t.from) j other (subst (λ v. Fits a j v) is (h.each j u x.1)).0 (ap a.seat from ∙ theirs.0))) (h.each j u x.1))
          (at_set views pass j both u e));
    }

pub learns : (pass : ℕ) (v : Post) → Learns Letters pass v (IsLeft v)
learns pass (Sender s) items views h at = let a = h.account in let mine = h.each pass (Sender s) at in
    (subst₂ (λ (x y : ℕ). AreFor x y items) (sym mine.2) (sym mine.3) h.addressed, (a.taken, h.in_order s.from ∙ sym mine.1))
learns pass (Reader r) items views h at = let a = h.account in let mine = h.each pass (Reader r) at in
    (subst₂ (λ (x y : ℕ). AreFor x y items) (sym mine.2) (sym mine.3) h.addressed, (λ p lt. ap (λ l. from_port p (l ++ items)) mine.1 ∙ (h.in_order p ∙ sym (mine.5 p lt).1)))
learns pass Nobody items views h at = tt
