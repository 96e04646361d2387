-- That the table shows the record after each change.
use Rattle.std.proofs.Common.{◌≡◌, refl, sym, ap, subst, ◌∙◌, ℕ, ◌+◌, ◌≤◌, Bool, true, false, IsSome, arith}
use Rattle.std.specs.Prelude.{◌||◌, ◌==◌, nat_eq, if◌then◌else◌}
use Rattle.std.specs.Ordering.{nat_cmp}
use Rattle.std.specs.Cmp.{nat_cmp_total, unsigned_tied}
use Rattle.std.specs.FinSet as set
use Rattle.std.proofs.Math.Bool.{or_comm}
use Rattle.rdm_num.specs.Lives.{same_life}
use Rattle.rdm_num.specs.declared.numbers.Life.{Life}
use Rattle.rdm_num.proofs.Lives.{same_life-true}
use Rattle.rdm_life.specs.Kept as record_of
use Rattle.rdm_life.specs.Kept.{Peer}
use Rattle.rdm_life.specs.Receiving.{heard_run}
use Rattle.rdm_life.proofs.EnteringRow.{run_is}
use Rattle.rdm_window.specs.Window.{IsLeastMissing, none_heard}
use Rattle.rdm_peers.specs.Accounts.{Acquaintance, stranger, with_heard}
use Rattle.rdm_peers.specs.Table.{Known, account_at, account_of, with_account, without_account, changed}
use Rattle.rdm_peers.specs.Shown.{ShowsPeer, ShowsPeers}
use Rattle.rdm_peers.proofs.Known.{given}
use Rattle.rdm_peers.proofs.Keys.{beside, left, taken_away, changed_is}

-- of a life of which nothing is known no number was heard
pub none_missing : (first : ℕ) → IsLeastMissing (none_heard first)
none_missing first =
    record {
      from = omega arith;
      before = λ k from to. absurd (omega arith);
      missing = set.contains-empty nat_cmp first;
      numbers = λ k there. (let none : false ≡ true = sym (set.contains-empty nat_cmp k) ∙ there in cc);
    }

-- a stranger's account shows a stranger
pub stranger_shown : (first : ℕ) → ShowsPeer first (stranger first) (record_of.stranger first)
stranger_shown first =
    record {
      met = refl;
      known = refl;
      first_heard = refl;
      number = omega arith;
      heard = λ n. sym (set.contains-empty nat_cmp n);
      next = refl;
      least = none_missing first;
    }

-- the peers of a record with one changed
abbrev pub with_one : (Life → Peer) → Life → (Peer → Peer) → Life → Peer
with_one peers life change other = if same_life other life then change (peers other) else peers other

-- one of two that are the same
pub either_way : {A : Type 0} (b : Bool) (x : A) → (if b then x else x) ≡ x
either_way true x = refl
either_way false x = refl

-- a life that is the same shows what the other shows
shown_same : (known : Known) (peers : Life → Peer) (a b : Life) → same_life a b ≡ true → ShowsPeer known.first (account_of known b) (peers b) → ShowsPeer known.first (account_of known a) (peers a)
shown_same known peers a b same h = subst (λ (l : Life). ShowsPeer known.first (account_of known l) (peers l)) (sym (same_life-true a b same)) h

module _ (known : Known) (life : Life) (peers : Life → Peer) (shown : ShowsPeers known peers) where
  -- an account that shows the changed peer is given to its life
  pub shown_with : (w : Acquaintance) (change : Peer → Peer) → ShowsPeer known.first w (change (peers life)) → ShowsPeers (with_account known life w) (with_one peers life change)
  shown_with w change here other =
      elim (same_life other life) as (λ b. same_life other life ≡ b → ShowsPeer known.first (account_of (with_account known life w) other) (if b then change (peers other) else peers other)) [
        | true ↦ λ same.
            shown_same (with_account known life w) (λ l. change (peers l)) other life same
            (subst (λ (a : Acquaintance). ShowsPeer known.first a (change (peers life))) (sym (given known life w)) here)
        | false ↦ λ apart. subst (λ (a : Acquaintance). ShowsPeer known.first a (peers other)) (sym (beside known life w other apart)) (shown other)
      ] refl

  -- the account of a life that is known is changed so that it shows the changed peer
  pub shown_changed : (f : Acquaintance → Acquaintance) (change : Peer → Peer) → IsSome (account_at known life) → ShowsPeer known.first (f (account_of known life)) (change (peers life))
      → ShowsPeers (changed known life f) (with_one peers life change)
  shown_changed f change there here =
      subst (λ (k : Known). ShowsPeers k (with_one peers life change)) (changed_is known life f there) (shown_with (f (account_of known life)) change here)

  -- an account takes the place of one that shows the same
  pub shown_still : (w : Acquaintance) → ShowsPeer known.first w (peers life) → ShowsPeers (with_account known life w) peers
  shown_still w here other =
      subst (λ (p : Peer). ShowsPeer known.first (account_of (with_account known life w) other) p) (either_way (same_life other life) (peers other)) (shown_with w (λ p. p) here other)

  -- a life that is forgotten is a stranger, and so is its account
  pub shown_without : ShowsPeers (without_account known life) (with_one peers life (λ p. record_of.stranger known.first))
  shown_without other =
      elim (same_life other life) as (λ b. same_life other life ≡ b → ShowsPeer known.first (account_of (without_account known life) other) (if b then record_of.stranger known.first else peers other)) [
        | true ↦ λ same.
            shown_same (without_account known life) (λ l. record_of.stranger known.first) other life same
            (subst (λ (a : Acquaintance). ShowsPeer known.first a (record_of.stranger known.first)) (sym (taken_away known life)) (stranger_shown known.first))
        | false ↦ λ apart. subst (λ (a : Acquaintance). ShowsPeer known.first a (peers other)) (sym (left known life other apart)) (shown other)
      ] refl

-- ---- a message that is heard

-- a message was heard of
abbrev pub heard_of : ℕ → Peer → Peer
heard_of number p = record p { heard = λ n. p.heard n || n == number }

-- so many messages enter
abbrev pub risen_by : ℕ → Peer → Peer
risen_by risen p = record p { next = p.next + risen }

module _ (first : ℕ) (a : Acquaintance) (p : Peer) (number risen : ℕ) (s : ShowsPeer first a p) (least : IsLeastMissing (with_heard number risen a).hearing) where
  -- the numbers that were heard are the same
  heard_same : (n : ℕ) → (heard_of number p).heard n ≡ set.contains (with_heard number risen a).hearing.heard n
  heard_same n =
      or_comm (p.heard n) (nat_eq n number)
      ∙ ap (λ b. nat_eq n number || b) (s.heard n)
      ∙ sym (set.contains-insert nat_cmp_total a.hearing.heard number n ∙ ap (λ b. b || set.contains a.hearing.heard n) (unsigned_tied n number))

  -- as many enter as the next number rose by
  pub run_risen : (most : ℕ) → risen ≤ most → heard_run most (heard_of number p).heard p.next ≡ risen
  run_risen most enough =
      let next : p.next ≡ a.hearing.next = s.next in
      let from : a.hearing.first ≤ a.hearing.next = s.least.from in
      run_is most (heard_of number p).heard p.next risen
      (λ k less. heard_same (p.next + k) ∙ least.before (p.next + k) (omega arith) (omega arith))
      (heard_same (p.next + risen) ∙ ap (λ n. set.contains (with_heard number risen a).hearing.heard (n + risen)) next ∙ least.missing)
      enough

  -- the account shows the peer once they entered
  pub heard_shown : ShowsPeer first (with_heard number risen a) (risen_by risen (heard_of number p))
  heard_shown =
      record {
        met = s.met;
        known = s.known;
        first_heard = s.first_heard;
        number = s.number;
        heard = heard_same;
        next = ap (λ n. n + risen) s.next;
        least = least;
      }
