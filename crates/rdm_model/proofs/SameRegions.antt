-- By two accounts that agree, the regions have the same bytes, and the same messages are sent.
use Rattle.std.proofs.Common.{◌≡◌, ℕ, true, not, List, [], ◌∷◌, ◌++◌, map, Option, Some, None, refl, inl, inr, ◌∙◌, ap, subst}
use Rattle.std.specs.Prelude.{◌&&◌, filter, flat_map}
use Rattle.std.proofs.lemmas.Bool.{and_parts}
use Rattle.rdm_lists.specs.Lists.{Member}
use Rattle.rdm_num.specs.declared.numbers.Life.{Life}
use Rattle.rdm_match.specs.Matcher.{Pair, is_pair}
use Rattle.rdm_model.specs.declared.job.Instr.TheVariants.{Send, Cancel}
use Rattle.rdm_model.specs.Deeds.{Deed, Did}
use Rattle.rdm_model.specs.Beginnings.{Own, Messages, Heads}
use Rattle.rdm_model.specs.Currents.{forgotten_by}
use Rattle.rdm_model.specs.Matches.{Receive, receives, pairs}
use Rattle.rdm_model.specs.Parts.{has_landed}
use Rattle.rdm_model.specs.Receives.{RecvEnd, Filled, Withdrawn, Gone, ended_recv, withdrawn_by, is_filled, filled_by, concerns, has_ended, gone_with, recv_ends_by, recv_ends, receive_numbered}
use Rattle.rdm_model.specs.Regions.{written_by, after_end, after_ends, kept_bytes, region_by, regions}
use Rattle.rdm_model.specs.Sends.{Sent, sent_by, with_sent, sends}
use Rattle.rdm_model.proofs.SameMatches.{is_pair_heard, HeadsAgree, heads_before}
use Rattle.rdm_model.proofs.SameReceives.{recv_ends_by_same, recv_ends_same, filled_still}
use Rattle.rdm_lists.proofs.Members.{member-append_cases, member-filter, member-map, member-flat_map}

-- the accounts agree on the heads of messages that were heard of, and on the bytes of those that were received
pub record Agree (first : ℕ) (ms ns : Messages) (log : List Deed) : Type 0 where
  pub heads : HeadsAgree ms.head ns.head log
  pub bytes : (p : Pair) → is_filled first ms.head log p ≡ true
      → ms.bytes p.message.life p.message.no.0 ≡ ns.bytes p.message.life p.message.no.0

-- and so they did before a deed
pub agree_before : (first : ℕ) (ms ns : Messages) (d : Deed) (before : List Deed) → Agree first ms ns (d ∷ before) → Agree first ms ns before
agree_before first ms ns d before a =
    record {
      heads = heads_before ms.head ns.head d before a.heads;
      bytes = λ p is. a.bytes p (filled_still first ms.head d before p is);
    }

-- what filled a receive was heard of
pub filled_head : (first : ℕ) (hs ks : Heads) (log : List Deed) (p : Pair) → HeadsAgree hs ks log → is_filled first hs log p ≡ true
    → hs p.message.life p.message.no.0 ≡ ks p.message.life p.message.no.0
unfolding is_filled
filled_head first hs ks log p a is =
    let parts = and_parts (is_pair (pairs first hs log) p.recv.id.0 p.message.life p.message.no.0) (has_landed first hs log p.message.life p.message.no.0) is in
    let h = is_pair_heard first hs log p.recv.id.0 p.message.life p.message.no.0 parts.0 in
    a p.message.life p.message.no.0 h.0 h.1

-- the accounts agree on the message that a receive ended with
abbrev pub AgreeEnd : Messages → Messages → RecvEnd → Type 0
AgreeEnd ms ns (Filled p) =
    (ms.head p.message.life p.message.no.0 ≡ ns.head p.message.life p.message.no.0)
    × (ms.bytes p.message.life p.message.no.0 ≡ ns.bytes p.message.life p.message.no.0)
AgreeEnd ms ns (Withdrawn n) = Unit {0}
AgreeEnd ms ns (Gone n) = Unit {0}

-- the accounts agree on each message that fills a receive
filled_end : (first : ℕ) (ms ns : Messages) (d : Deed) (before : List Deed) (e : RecvEnd) → Agree first ms ns (d ∷ before)
    → Member e (map Filled (filled_by first ms.head d before)) → AgreeEnd ms ns e
unfolding filled_by
filled_end first ms ns d before e a m =
    let r = member-map Filled e (filled_by first ms.head d before) m in
    let f = member-filter (λ p. is_filled first ms.head (d ∷ before) p && not (is_filled first ms.head before p)) r.0 (pairs first ms.head (d ∷ before)) r.1 in
    let is = (and_parts (is_filled first ms.head (d ∷ before) r.0) (not (is_filled first ms.head before r.0)) f.1).0 in
    let P : RecvEnd → Type 0 = λ x. AgreeEnd ms ns x in
    subst P r.2 (filled_head first ms.head ns.head (d ∷ before) r.0 a.heads is, a.bytes r.0 is)

-- a receive that is taken back ends with no message
withdrawn_end : (ms ns : Messages) (d : Deed) (e : RecvEnd) → Member e (withdrawn_by d) → AgreeEnd ms ns e
unfolding withdrawn_by
withdrawn_end ms ns (Did (Cancel recv)) e (inl is) = let P : RecvEnd → Type 0 = λ x. AgreeEnd ms ns x in subst P is tt
withdrawn_end ms ns (Did (Cancel recv)) e (inr never) = elim never [ ]
withdrawn_end ms ns _ e m = elim m [ ]

-- a receive that is gone ends with no message
gone_end : (first : ℕ) (heads : Heads) (before : List Deed) (ends : List RecvEnd) (ms ns : Messages) (life : Life) (e : RecvEnd)
    → Member e (gone_with first heads before ends life) → AgreeEnd ms ns e
unfolding gone_with
gone_end first heads before ends ms ns life e m =
    let r = member-map (λ (r : Receive). Gone r.number) e
    (filter (λ (r : Receive). concerns (pairs first heads before) life r && not (has_ended ends r.number)) (receives before)) m in
    let P : RecvEnd → Type 0 = λ x. AgreeEnd ms ns x in
    subst P r.2 tt

-- the accounts agree on each message with which a receive ends
pub ends_agree : (first : ℕ) (ms ns : Messages) (d : Deed) (before : List Deed) (ends : List RecvEnd) (e : RecvEnd) → Agree first ms ns (d ∷ before)
    → Member e (recv_ends_by first ms.head d before ends) → AgreeEnd ms ns e
unfolding recv_ends_by
ends_agree first ms ns d before ends e a m =
    let filled : List RecvEnd = map Filled (filled_by first ms.head d before) in
    elim (member-append_cases e (filled ++ withdrawn_by d) (flat_map (gone_with first ms.head before ends) (forgotten_by before d)) m) [
      | inl k ↦ elim (member-append_cases e filled (withdrawn_by d) k) [ inl l ↦ filled_end first ms ns d before e a l | inr l ↦ withdrawn_end ms ns d e l ]
      | inr k ↦
          let r = member-flat_map (gone_with first ms.head before ends) e (forgotten_by before d) k in
          gone_end first ms.head before ends ms ns r.0 e r.2
    ]

-- an end writes the same
after_end_same : (ms ns : Messages) (e : RecvEnd) (r : Option Receive) (rs : List (List ℕ)) → AgreeEnd ms ns e → after_end ms e r rs ≡ after_end ns e r rs
unfolding after_end written_by kept_bytes
after_end_same ms ns e None rs a = refl
after_end_same ms ns (Filled p) (Some r) rs a = let b = a.1 in rw b refl
after_end_same ms ns (Withdrawn n) (Some r) rs a = refl
after_end_same ms ns (Gone n) (Some r) rs a = refl

-- so do ends in order
after_ends_same : (ms ns : Messages) (rs : List Receive) (es : List RecvEnd) (regions' : List (List ℕ)) → ((e : RecvEnd) → Member e es → AgreeEnd ms ns e)
    → after_ends ms rs es regions' ≡ after_ends ns rs es regions'
unfolding after_ends
after_ends_same ms ns rs [] regions' a = refl
after_ends_same ms ns rs (e ∷ es) regions' a =
    let newest = after_end_same ms ns e (receive_numbered rs (ended_recv e)) regions' (a e (inl refl)) in
    ap (λ r. after_ends ms rs es r) newest ∙ after_ends_same ms ns rs es _ (λ x m. a x (inr m))

-- the regions have the same bytes
pub regions_same : (first : ℕ) (ms ns : Messages) (log : List Deed) → Agree first ms ns log → regions first ms log ≡ regions first ns log
unfolding regions
regions_same first ms ns [] a = refl
regions_same first ms ns (d ∷ before) a =
    let earlier = regions_same first ms ns before (agree_before first ms ns d before a) in
    let ends = recv_ends_same first ms.head ns.head before (heads_before ms.head ns.head d before a.heads) in
    let newest = recv_ends_by_same first ms.head ns.head d before (recv_ends first ns.head before) a.heads in
    let written = after_ends_same ms ns (receives (d ∷ before)) (recv_ends_by first ms.head d before (recv_ends first ms.head before)) (regions first ms before)
    (λ e m. ends_agree first ms ns d before (recv_ends first ms.head before) e a m) in
    ap (λ rs. rs ++ region_by d) (written ∙ (rw (ends, newest, earlier) refl))

-- a deed makes the same send
pub sent_by_same : (own : Own) (ms ns : Messages) (before : List Deed) (sents : List Sent) (d : Deed) → Agree own.limits.first ms ns before
    → sent_by own ms before sents d ≡ sent_by own ns before sents d
unfolding sent_by
sent_by_same own ms ns before sents (Did (Send req)) a = rw (regions_same own.limits.first ms ns before a) refl
sent_by_same own ms ns before sents _ a = refl

-- the same was sent
pub sends_same : (own : Own) (ms ns : Messages) (log : List Deed) → Agree own.limits.first ms ns log → sends own ms log ≡ sends own ns log
unfolding sends with_sent
sends_same own ms ns [] a = refl
sends_same own ms ns (d ∷ before) a =
    let b = agree_before own.limits.first ms ns d before a in
    let earlier = sends_same own ms ns before b in
    let newest = sent_by_same own ms ns before (sends own ns before) d b in
    rw (earlier, newest) refl
