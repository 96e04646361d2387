-- Whether all of a live send was asked for and answered, and what it tells.
use Rattle.std.proofs.Common.{◌≡◌, ℕ, zero, suc, ◌+◌, ◌-◌, ◌<◌, inl, inr, Bool, true, false, cond, List, [], ◌∷◌, length, get_or, refl, sym, ap, ◌∙◌, arith}
use Rattle.std.specs.Prelude.{nat_lt, not, ◌&&◌, ◌||◌}
use Rattle.std.proofs.lemmas.Bool.{true≢false, cases_lt, lt-ltb, le-ltb, or_right, or_left, or_from}
use Rattle.std.proofs.lemmas.List.Sums.{sum_by-cons}
use Rattle.rdm_lists.specs.Lists.{each_below}
use Rattle.rdm_lists.proofs.Below.{each_below_at, each_below_from}
use Rattle.rdm_num.specs.Lives.{same_life}
use Rattle.rdm_num.specs.declared.numbers.Life.{Life}
use Rattle.rdm_num.specs.declared.numbers.MsgNo.{MsgNo}
use Rattle.rdm_pkt.specs.declared.Kind.{Kind}
use Rattle.rdm_model.specs.Dues.{is_read}
use Rattle.rdm_model.specs.Targets.{is_long, read_from}
use Rattle.rdm_tx.proofs.Counts.{count}
use Rattle.rdm_tx.specs.Asks.{Asks}
use Rattle.rdm_life.specs.Kept.{LiveSend}
use Rattle.rdm_life.specs.Facts.{ends_early}
use Rattle.rdm_sends.specs.declared.protocol.Protocol.{Protocol}
use Rattle.rdm_sends.specs.declared.protocol.Protocol.TheVariants.{Whole, Granted, Read}
use Rattle.rdm_sends.specs.Coming.{ends_early_by}
use Rattle.rdm_sent.specs.Shows.{IsProtocol, AreAsks}
use Rattle.rdm_sent.specs.Laws.{FactsAreKept}
use Rattle.rdm_sent.proofs.Openers.{long_not_read}
use Rattle.rdm_sent.proofs.Going.{sent_whole}

-- how many tests hold, with one more
count_cons : (b : Bool) (bs : List Bool) → count (b ∷ bs) ≡ cond b 1 0 + count bs
count_cons b bs = sum_by-cons (λ b. cond b 1 0) b bs

-- where none is counted, none holds
none_holds : (bs : List Bool) (k : ℕ) → count bs ≡ 0 → get_or bs k false ≡ false
none_holds [] k e = refl
none_holds (true ∷ bs) k e = let c = count_cons true bs in absurd (omega arith)
none_holds (false ∷ bs) zero e = refl
none_holds (false ∷ bs) (suc k) e = let c = count_cons false bs in none_holds bs k (omega arith)

-- where one is counted, one holds
one_holds : (bs : List Bool) → 0 < count bs → (k : ℕ) × (k < length bs) × (get_or bs k false ≡ true)
one_holds [] h = absurd (omega arith)
one_holds (true ∷ bs) h = (0, omega arith, refl)
one_holds (false ∷ bs) h =
    let c = count_cons false bs in
    let r = one_holds bs (omega arith) in
    (suc r.0, omega (arith, r.1), r.2)

-- every place was asked for that is read
module _ (a : Asks) (s : LiveSend) (i : AreAsks a s) where
  abbrev test : ℕ → Bool
  test = λ place. nat_lt place (read_from s.sent.kind) || s.was_asked place

  all_asked : count a.unasked.places ≡ 0 → each_below test (length s.sent.message.bytes) ≡ true
  all_asked e =
      let from = i.from in
      let long = i.long in
      each_below_from test (length s.sent.message.bytes) (λ place lt.
      elim (cases_lt place (read_from s.sent.kind)) [
        | inl p ↦ or_left _ (s.was_asked place) (lt-ltb place (read_from s.sent.kind) p)
        | inr p ↦
            let at : a.from + (place - a.from) ≡ place = omega arith in
            or_right (nat_lt place (read_from s.sent.kind)) (s.was_asked place)
            (sym (ap s.was_asked at) ∙ i.asked (place - a.from) (omega arith) ∙ ap (λ b. not b) (none_holds a.unasked.places (place - a.from) e))
      ])

  some_unasked : 0 < count a.unasked.places → each_below test (length s.sent.message.bytes) ≡ false
  some_unasked h =
      let from = i.from in
      let long = i.long in
      let one = one_holds a.unasked.places h in
      let k : ℕ = one.0 in
      let lt : k < length a.unasked.places = one.1 in
      let free : s.was_asked (a.from + k) ≡ false = i.asked k lt ∙ ap (λ b. not b) one.2 in
      let fails : test (a.from + k) ≡ false = or_from _ _ (le-ltb (a.from + k) (read_from s.sent.kind) (omega arith)) free in
      (elim (each_below test (length s.sent.message.bytes)) as (λ b. each_below test (length s.sent.message.bytes) ≡ b → b ≡ false) [
        | true ↦ λ e. absurd (true≢false (sym (each_below_at test (length s.sent.message.bytes) (a.from + k) e (omega arith)) ∙ fails))
        | false ↦ λ e. refl
      ]) refl

  counted : nat_lt 0 (count a.unasked.places) ≡ not (each_below test (length s.sent.message.bytes))
  counted =
      elim (cases_lt 0 (count a.unasked.places)) [
        | inl some ↦ lt-ltb 0 (count a.unasked.places) some ∙ sym (ap (λ b. not b) (some_unasked some))
        | inr none ↦ le-ltb 0 (count a.unasked.places) none ∙ sym (ap (λ b. not b) (all_asked (omega arith)))
      ]

-- an end would come early where the record says so
early_by : (p : Protocol) (s : LiveSend) → IsProtocol p s → is_read s.sent.kind ≡ true → ends_early_by p ≡ ends_early s
unfolding ends_early_by ends_early
early_by Whole s i r = absurd (true≢false (sym r ∙ i.0))
early_by (Granted g) s i r = absurd (true≢false (sym r ∙ ap is_read i.0 ∙ long_not_read))
early_by (Read a) s i r =
    ap (λ (b : Bool). b || nat_lt 0 a.owes) (counted a s i.1)
    ∙ ap (λ (n : ℕ). not (each_below (λ place. nat_lt place (read_from s.sent.kind) || s.was_asked place) (length s.sent.message.bytes)) || nat_lt 0 n) i.1.owes

pub facts_are_kept : FactsAreKept
facts_are_kept own x s i =
    record {
      to = λ other. ap (λ (l : Life). same_life l other) i.to;
      number = i.message.number;
      message_number = ap (λ (n : MsgNo). n.0) i.message.no;
      takes_grants = ap is_long i.message.kind;
      takes_end = ap is_read i.message.kind;
      takes_receipt = ap (λ (k : Kind). x.message.confirm && not (is_read k)) i.message.kind ∙ ap (λ (b : Bool). b && not (is_read s.sent.kind)) i.message.confirm;
      is_early_end = early_by x.protocol s i.protocol;
      is_sent = sent_whole own x s i;
    }
