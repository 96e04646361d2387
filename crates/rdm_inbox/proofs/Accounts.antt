-- What the passes know, after the account of an inbox changed.
use Rattle.std.proofs.Common.{◌≡◌, ◌≢◌, ℕ, ◌<◌, List, [], ◌∷◌, ◌++◌, length, set, sym, refl, ap, ◌∙◌, subst₂, ⊎_elim, inl, inr, arith}
use Rattle.std.proofs.lemmas.Bool.{cases_lt}
use mathlib.Core.Option.{Option, some, none, some-injective, some-ne-none}
use lib.ListN.{get_elem?}
use Rattle.crossbeam_queue.proofs.Lists.{at_set}
use Rattle.rdm_wire.specs.declared.Datagram.{Datagram}
use Rattle.rdm_inbox.specs.declared.post.SenderPost.{SenderPost}
use Rattle.rdm_inbox.specs.declared.post.ReaderPost.{ReaderPost}
use Rattle.rdm_inbox.specs.declared.post.Post.{Post}
use Rattle.rdm_inbox.specs.declared.post.Post.TheVariants.{Sender, Reader, Nobody}
use Rattle.rdm_inbox.specs.Letters.{InboxAccount, Fits}
use Rattle.rdm_inbox.proofs.Places.{with_at, with_at-else, at_last_or_before}

-- one pass sends for a port
pub one_seat : (o : Option ℕ) (i j : ℕ) → o ≡ some i → o ≡ some j → i ≡ j
one_seat o i j a b = some-injective i j (sym a ∙ b)

-- each view fits after a change of one
pub set_fits : (a : InboxAccount) (views : List Post) (pass : ℕ) (w : Post)
    → Fits a pass w → ((j : ℕ) (u : Post) → j ≢ pass → get_elem? views j ≡ some u → Fits a j u)
    → (j : ℕ) (u : Post) → get_elem? (set views pass w) j ≡ some u → Fits a j u
set_fits a views pass w mine others j u e = ⊎_elim
    (λ (x : (j ≡ pass) × (w ≡ u)). subst₂ (λ (j' : ℕ) (u' : Post). Fits a j' u') (sym x.0) x.1 mine)
    (λ (x : (j ≢ pass) × (get_elem? views j ≡ some u)). others j u x.0 x.1)
    (at_set views pass j w u e)

-- and with a new view behind them
pub add_fits : (a : InboxAccount) (views : List Post) (pass : ℕ) (w n : Post)
    → Fits a pass w → ((j : ℕ) (u : Post) → j ≢ pass → get_elem? views j ≡ some u → Fits a j u) → Fits a (length (set views pass w)) n
    → (j : ℕ) (u : Post) → get_elem? (set views pass w ++ n ∷ []) j ≡ some u → Fits a j u
add_fits a views pass w n mine others new j u e = ⊎_elim
    (λ old. set_fits a views pass w mine others j u old)
    (λ (x : (n ≡ u) × (j ≡ length (set views pass w))). subst₂ (λ (j' : ℕ) (u' : Post). Fits a j' u') (sym x.1) x.0 new)
    (at_last_or_before (set views pass w) n u j e)

-- the others' views, where one sender sent something
pub others_sent : (a : InboxAccount) (from : ℕ) (now : List Datagram) (pass : ℕ) → a.seat from ≡ some pass → from < a.ports
    → (j : ℕ) (u : Post) → j ≢ pass → Fits a j u → Fits (record a { sent = with_at a.sent from now }) j u
others_sent a from now pass here low j (Sender s) ne f =
    (f.0, f.1 ∙ sym (with_at-else a.sent from s.from now (λ e. ne (one_seat (a.seat s.from) j pass f.0 (ap a.seat (sym e) ∙ here)))), f.2, f.3, f.4)
others_sent a from now pass here low j (Reader r) ne f = (
  f.0,
  f.1,
  f.2,
  f.3,
  (λ p le. ((f.4 p le).0, with_at-else a.sent from p now (λ e. omega arith) ∙ (f.4 p le).1)),
  (λ k lt. ((f.5 k lt).0, (f.5 k lt).1 ∙ sym (with_at-else a.sent from k now (λ e. some-ne-none pass (sym here ∙ (ap a.seat e ∙ (f.5 k lt).0)))))),
  f.6,
)
others_sent a from now pass here low j Nobody ne f = tt

-- the others' views, where something was taken: they are no readers
pub others_taken : (a : InboxAccount) (taken : List Datagram) (pass : ℕ) → pass ≡ a.reader
    → (j : ℕ) (u : Post) → j ≢ pass → Fits a j u → Fits (record a { taken = taken }) j u
others_taken a taken pass here j (Sender s) ne f = f
others_taken a taken pass here j (Reader r) ne f = absurd (ne (f.0 ∙ sym here))
others_taken a taken pass here j Nobody ne f = tt

-- the others' views, where a port's pass came or went
pub others_seated : (a : InboxAccount) (from : ℕ) (seat : Option ℕ) (pass : ℕ) → pass ≡ a.reader
    → (j : ℕ) (u : Post) → j ≢ pass → ((s : SenderPost) → u ≡ Sender s → s.from ≢ from) → Fits a j u → Fits (record a { seat = with_at a.seat from seat }) j u
others_seated a from seat pass here j (Sender s) ne apart f = (with_at-else a.seat from s.from seat (λ e. apart s refl (sym e)) ∙ f.0, f.1, f.2, f.3, f.4)
others_seated a from seat pass here j (Reader r) ne apart f = absurd (ne (f.0 ∙ sym here))
others_seated a from seat pass here j Nobody ne apart f = tt

-- where no port has a pass of its own, the others know nothing
pub others_none : (a b : InboxAccount) (pass : ℕ) → pass ≡ a.reader → ((p : ℕ) → a.seat p ≡ none)
    → (j : ℕ) (u : Post) → j ≢ pass → Fits a j u → Fits b j u
others_none a b pass here free j (Sender s) ne f = absurd (some-ne-none j (sym f.0 ∙ free s.from))
others_none a b pass here free j (Reader r) ne f = absurd (ne (f.0 ∙ sym here))
others_none a b pass here free j Nobody ne f = tt

-- a reader that has all senders: no port has a pass of its own
pub no_seats : (a : InboxAccount) (pass : ℕ) (r : ReaderPost) → Fits a pass (Reader r) → length r.known ≡ r.ports → (p : ℕ) → a.seat p ≡ none
no_seats a pass r f whole p = let same = f.3 in
    elim (cases_lt p a.ports) [ inl lt ↦ (f.5 p (omega arith)).0 | inr le ↦ (f.4 p le).0 ]
