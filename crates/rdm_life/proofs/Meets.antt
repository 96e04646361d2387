-- A receive that is posted and messages that enter: the pairs that they make meet, and each has its message as far as it came.
use Rattle.std.proofs.Common.{◌≡◌, ℕ, Bool, true, false, cond, List, ◌∷◌, ◌++◌, map, Option, Some, None, refl, arith, inl, inr, sym, ◌∙◌, ap, subst}
use Rattle.std.proofs.Math.Path.{fun_ext}
use Rattle.std.specs.Option.{option_or}
use Rattle.std.specs.Prelude.{◌+◌, ◌-◌, if◌then◌else◌, drop, filter, length, find, nat_lt, option_map, unwrap_or, is_some}
use Rattle.std.specs.List.{list_any}
use Rattle.std.proofs.lemmas.Bool.{eqb-true}
use Rattle.std.proofs.lemmas.List.Folds.{find-append}
use Rattle.rdm_lists.specs.Lists.{Member}
use Rattle.rdm_lists.proofs.Members.{find_member, member-append_cases, member-append_left, member-append_right}
use Rattle.rdm_lists.proofs.Same.{map_same}
use Rattle.rdm_num.specs.Lives.{same_life}
use Rattle.rdm_num.specs.declared.numbers.Life.{Life}
use Rattle.rdm_match.specs.Matcher.{Pair, is_recv, is_pair}
use Rattle.rdm_model.specs.Beginnings.{Own}
use Rattle.rdm_model.specs.Currents.{is_forgotten}
use Rattle.rdm_model.specs.Deeds.{Deed}
use Rattle.rdm_model.specs.Grants.{first_part, granted_bytes}
use Rattle.rdm_model.specs.Local.{heard_by}
use Rattle.rdm_model.specs.Matches.{Receive, receives, received_by, with_received, matching}
use Rattle.rdm_model.specs.Receives.{RecvEnd, has_ended}
use Rattle.rdm_model.specs.Completions.{is_matched, poll_count}
use Rattle.rdm_model.specs.Heard.{is_heard}
use Rattle.rdm_model.specs.Replies.{handshake_by}
use Rattle.rdm_model.proofs.Matches.{pair_heard, pair_still}
use Rattle.rdm_model.proofs.Grows.{agree_grows}
use Rattle.rdm_model.proofs.SameReceives.{recv_ends_same}
use Rattle.rdm_law.proofs.Ends.Ends.{ended_cases, concerns_still}
use Rattle.rdm_law.proofs.Ends.Live.{absent_at, concerned, earlier_matching, pair_recv, withdrawn_absent}
use Rattle.rdm_law.proofs.Lives.Lives.{LifeLocal}
use Rattle.rdm_law.proofs.Matching.Accepts.{absent_still}
use Rattle.rdm_law.proofs.Matching.Numbered.{matching_numbered}
use Rattle.rdm_law.proofs.Matching.Received.{receives_more}
use Rattle.rdm_law.proofs.Windows.Windows.{granted_none}
use Rattle.rdm_life.specs.Kept.{Kept, EarlyMessage, LiveReceive}
use Rattle.rdm_life.specs.Keeps.{told, own_matching, own_pairs, own_progress, own_live_receives, byte_came, region_byte, pair_of, matched_of, byte_of_pair, kept_receive}
use Rattle.rdm_life.specs.Landing.{laid_over, with_message, with_pair, settle, meet}
use Rattle.rdm_life.specs.Memory.{is_place_of}
use Rattle.rdm_life.specs.Handling.{after}
use Rattle.rdm_life.proofs.Apart.{own_ended, is_live}
use Rattle.rdm_life.proofs.Completing.{own_completions, map_twice}
use Rattle.rdm_life.proofs.EarlyWords.{pairs_before, came_still, so_far}
use Rattle.rdm_life.proofs.LiveLeft.{find_nothing}
use Rattle.rdm_life.proofs.Made.{made, matched_after}
use Rattle.rdm_life.proofs.MadePairs.{made_after, made_new, made_unmatched, made_kept}
use Rattle.rdm_life.proofs.MatchingSilent.{unpaired}
use Rattle.rdm_life.proofs.Owing.{BringsNone}
use Rattle.rdm_life.proofs.Pairs.{pairs_added}
use Rattle.rdm_life.proofs.Settling.{Touches, Landed, out_with, landed_message, landed_receive, numbers_of}
use Rattle.rdm_life.proofs.Stays.{built, built_same, matched_same, first_stays, head_stays, pair_member}
use Rattle.rdm_life.proofs.TakenBy.{false_unless, pair_is}

-- ---- the receives of those pairs

-- a receive that a deed pairs had not ended before
made_going : (own : Own) (d : Deed) (log : List Deed) (p : Pair) → LifeLocal own (d ∷ log) → Member p (made own d log) → own_ended own log p.recv.id.0 ≡ false
made_going own d log p local m =
    false_unless (own_ended own log p.recv.id.0) (λ ended.
    let first = own.limits.first in
    let heads = (told own (d ∷ log)).head in
    let after = made_after own d log p m in
    let same = recv_ends_same first (told own log).head heads log (agree_grows first d log).heads in
    elim (ended_cases first heads log p.recv.id.0 (subst (λ (es : List RecvEnd). has_ended es p.recv.id.0 ≡ true) same ended)) [
      | inl a ↦
          let is : a.pair ≡ p = (matching_numbered first heads (d ∷ log)).once a.pair p (pair_still first heads d log a.pair a.member) after a.recv_is in
          made_new own d log p m (subst (λ (x : Pair). Member x (own_pairs own log)) is (subst (λ (ps : List Pair). Member a.pair ps) (pairs_before own d log) a.member))
      | inr a ↦ elim a [
        | inl w ↦
            let r = withdrawn_absent own log w.0 local.0 w.1 in
            let b = absent_at w.0.0 (matching first (heard_by first log).head log) (matching first heads log) (earlier_matching first d log) r.0 in
            (absent_still first heads d log w.0.0 r.1 b).not_paired p after (sym w.2)
        | inr g ↦ (
            let c = concerned first heads (d ∷ log) p g.life g.recv after (receives_more d log g.recv g.accepted) g.recv_is (concerns_still first heads d log g.life g.recv g.concerns') in
            let forgotten : is_forgotten log p.message.life ≡ true = subst (λ (x : Life). is_forgotten log x ≡ true) (sym c) g.forgotten in
            let kept = made_kept own d log p local m in
            cc)
      ]
    ])

-- so it is out
made_out : (own : Own) (d : Deed) (log : List Deed) (p : Pair) → LifeLocal own (d ∷ log) → Member p (made own d log) → (r : Receive) × Member r (out_with own d log) × (r.number ≡ p.recv.id.0)
unfolding receives with_received
made_out own d log p local m =
    let r = pair_recv own.limits.first (told own (d ∷ log)).head (d ∷ log) p (made_after own d log p m) in
    elim (member-append_cases r.recv (receives log) (received_by (receives log) log d) r.accepted) [
      | inl a ↦
          let going : own_ended own log r.recv.number ≡ false = ap (own_ended own log) r.number_is ∙ made_going own d log p local m in
          (r.recv, member-append_left r.recv (own_live_receives own log) (received_by (receives log) log d) (is_live own log r.recv a going), r.number_is)
      | inr a ↦ (r.recv, member-append_right r.recv (own_live_receives own log) (received_by (receives log) log d) a, r.number_is)
    ]

-- ---- what is kept before they meet

-- what is kept of receives, memory and the messages that a deed pairs, before they meet: nothing came for the pairs before
pub record Meeting (own : Own) (d : Deed) (log : List Deed) (w : Kept) : Type 0 where
  pub own_is : w.own ≡ own
  pub home_is : (region place : ℕ) → w.home region place ≡ (if list_any (λ (r : Receive). is_place_of r.req region place) (out_with own d log) then None else region_byte own log region place)
  pub receives_are : w.receives ≡ map (kept_receive own log) (out_with own d log)
  pub early_are : (p : Pair) → Member p (made own d log) → w.early p.message.life p.message.no.0 ≡ Some (so_far own (d ∷ log) p.message.life p.message.no.0)
  pub quiet : (p : Pair) → Member p (own_pairs own log) → BringsNone own d log p

-- what is kept once the messages of pairs are with their receives
abbrev pub with_pairs : List Pair → Kept → Kept
with_pairs ps w =
    record w {
      receives = map (λ (r : LiveReceive). with_pair w (find (λ (p : Pair). is_recv r.receive.number p.recv) ps) r) w.receives;
      early = λ life number. if is_matched ps (record { life = life; number = number }) then None else w.early life number;
      early_of = λ life. w.early_of life - length (filter (λ (p : Pair). same_life p.message.life life) ps);
      early_count = w.early_count - length ps;
    }

-- pairs meet: they have their messages, and then windows open and receives fill
pub meet_is : (ps : List Pair) (w : Kept) → meet ps w ≡ settle true (numbers_of ps) (with_pairs ps w)
unfolding meet
meet_is ps w = refl

-- the deed brings something of the pairs that it makes, and of no other
pub meeting_touches : (own : Own) (d : Deed) (log : List Deed) (w : Kept) → LifeLocal own (d ∷ log) → Meeting own d log w → Touches own d log true (made own d log)
meeting_touches own d log w local m = record {
  are_out = λ p k. made_out own d log p local k;
  others_quiet = λ p k out. m.quiet p k;
  which = inl (refl, refl);
}

-- ---- one receive

-- one that was not paired by the deed is as it was
pub left_alone : (own : Own) (d : Deed) (log : List Deed) (r : Receive) (o : Option Pair) → ((p : Pair) → o ≡ Some p → Member p (own_pairs own log) × BringsNone own d log p)
    → built r (option_map (matched_of own log) o) (λ k. byte_of_pair own log o k) (λ k. region_byte own log r.req.region.0 (r.req.at + k))
    ≡ built r (option_map (landed_message own d log) o) (λ k. byte_of_pair own (d ∷ log) o k) (λ k. region_byte own log r.req.region.0 (r.req.at + k))
unfolding byte_of_pair
left_alone own d log r None h = refl
left_alone own d log r (Some p) h =
    let a = h p refl in
    let life = p.message.life in
    let n = p.message.no.0 in
    let granted = granted_bytes own.limits (told own log).head log p in
    built_same r (Some (matched_of own log p)) (Some (landed_message own d log p)) (λ k. byte_came own log life n k) (λ k. byte_came own (d ∷ log) life n k)
    (λ k. region_byte own log r.req.region.0 (r.req.at + k)) (λ k. region_byte own log r.req.region.0 (r.req.at + k))
    (ap Some
    (matched_same p ((told own log).head life n) ((told own (d ∷ log)).head life n) (λ place. is_some (byte_came own log life n place)) (λ place. is_some (byte_came own (d ∷ log) life n place))
    (first_part log life n + granted) (first_part (d ∷ log) life n + granted)
    (head_stays own d log p a.0) (λ place. sym (ap is_some (came_still own d log life n place a.1))) (ap (λ (x : ℕ). x + granted) (sym (first_stays (own_pairs own log) life n d log a.1)))))
    (λ k lt. sym (came_still own d log life n k a.1)) (λ k lt. refl)

-- bytes of a message over those of a range
pub laid_part : (len : ℕ) (came region : ℕ → Option ℕ)
    → laid_over len came (λ k. if nat_lt k len then unwrap_or None (unwrap_or (region k) 0) else 0) ≡ (λ k. if nat_lt k len then unwrap_or (came k) (unwrap_or (region k) 0) else 0)
unfolding laid_over
laid_part len came region =
    fun_ext (λ k. elim (nat_lt k len) as (λ b. cond b (unwrap_or (came k) (cond b (unwrap_or None (unwrap_or (region k) 0)) 0)) (cond b (unwrap_or None (unwrap_or (region k) 0)) 0)
    ≡ cond b (unwrap_or (came k) (unwrap_or (region k) 0)) 0) [ true ↦ refl | false ↦ refl ])

-- one that takes the message of a pair that was not there
takes_message : (own : Own) (d : Deed) (log : List Deed) (r : Receive) (p : Pair) → is_pair (own_pairs own log) p.recv.id.0 p.message.life p.message.no.0 ≡ false
    → with_message p (Some (so_far own (d ∷ log) p.message.life p.message.no.0)) (built r None (λ k. None) (λ k. region_byte own log r.req.region.0 (r.req.at + k)))
    ≡ built r (Some (landed_message own d log p)) (λ k. byte_came own (d ∷ log) p.message.life p.message.no.0 k) (λ k. region_byte own log r.req.region.0 (r.req.at + k))
unfolding with_message
takes_message own d log r p new =
    let life = p.message.life in
    let n = p.message.no.0 in
    let none = granted_none own.limits (told own log).head log p new in
    let granted : first_part (d ∷ log) life n ≡ first_part (d ∷ log) life n + granted_bytes own.limits (told own log).head log p = omega arith in
    let P : (ℕ → ℕ) → ℕ → LiveReceive = λ part granted.
    record {
      receive = r;
      part = part;
      matched = Some (record { source = life; number = n; head = (told own (d ∷ log)).head life n; came = λ place. is_some (byte_came own (d ∷ log) life n place); granted = granted });
    } in
    ap (λ (part : ℕ → ℕ). P part (first_part (d ∷ log) life n)) (laid_part r.req.len (λ k. byte_came own (d ∷ log) life n k) (λ k. region_byte own log r.req.region.0 (r.req.at + k)))
    ∙ ap (λ (x : ℕ). P (λ k. if nat_lt k r.req.len then unwrap_or (byte_came own (d ∷ log) life n k) (unwrap_or (region_byte own log r.req.region.0 (r.req.at + k)) 0) else 0) x) granted

-- nothing after what is there
or_nothing : {A : Type 0} (o : Option A) → option_or o None ≡ o
or_nothing None = refl
or_nothing (Some a) = refl

-- each receive that is out has what landed in it
meets_one : (own : Own) (d : Deed) (log : List Deed) (w : Kept) (r : Receive) → Meeting own d log w
    → with_pair w (find (λ (p : Pair). is_recv r.number p.recv) (made own d log)) (kept_receive own log r) ≡ landed_receive own d log r
unfolding with_pair kept_receive byte_of_pair is_recv
meets_one own d log w r meeting =
    let t : Pair → Bool = λ (p : Pair). is_recv r.number p.recv in
    let region : ℕ → Option ℕ = λ k. region_byte own log r.req.region.0 (r.req.at + k) in
    let now : pair_of own (d ∷ log) r ≡ option_or (pair_of own log r) (find t (made own d log)) = ap (find t) (pairs_added own d log) ∙ find-append t (own_pairs own log) (made own d log) in
    (elim (find t (made own d log)) as (λ o. find t (made own d log) ≡ o → with_pair w o (kept_receive own log r) ≡ landed_receive own d log r) [
      | None ↦ λ none.
          let same : pair_of own (d ∷ log) r ≡ pair_of own log r = now ∙ ap (option_or (pair_of own log r)) none ∙ or_nothing (pair_of own log r) in
          left_alone own d log r (pair_of own log r) (λ p e. (let m = pair_member own log r p e in (m, meeting.quiet p m)))
          ∙ ap (λ (o : Option Pair). built r (option_map (landed_message own d log) o) (λ k. byte_of_pair own (d ∷ log) o k) region) (sym same)
      | Some p ↦ λ found.
          let f = find_member t p (made own d log) found in
          let number : p.recv.id.0 ≡ r.number = eqb-true p.recv.id.0 r.number f.1 in
          let after = made_after own d log p f.0 in
          let once = (matching_numbered own.limits.first (told own (d ∷ log)).head (d ∷ log)).once in
          let was : pair_of own log r ≡ None = find_nothing t (own_pairs own log) (λ q k.
          false_unless (t q) (λ is.
          let later : Member q (own_pairs own (d ∷ log)) = subst (λ (ps : List Pair). Member q ps) (sym (pairs_added own d log)) (member-append_left q (own_pairs own log) (made own d log) k) in
          let same : q ≡ p = once q p later after (eqb-true q.recv.id.0 r.number is ∙ sym number) in
          made_new own d log p f.0 (subst (λ (x : Pair). Member x (own_pairs own log)) same k))) in
          let is = pair_is own (d ∷ log) r p after (sym number) in
          let new = unpaired (own_pairs own log) p.recv.id.0 p.message.life p.message.no.0 (made_unmatched own d log p f.0) in
          ap (λ (e : Option EarlyMessage). with_message p e (kept_receive own log r)) (meeting.early_are p f.0)
          ∙ ap (λ (o : Option Pair). with_message p (Some (so_far own (d ∷ log) p.message.life p.message.no.0)) (built r (option_map (matched_of own log) o) (λ k. byte_of_pair own log o k) region)) was
          ∙ takes_message own d log r p new
          ∙ ap (λ (o : Option Pair). built r (option_map (landed_message own d log) o) (λ k. byte_of_pair own (d ∷ log) o k) region) (sym is)
    ])
    refl

-- what is kept once they have their messages
pub meeting_landed : (own : Own) (d : Deed) (log : List Deed) (w : Kept) → Meeting own d log w → Landed own d log (with_pairs (made own d log) w)
unfolding kept_receive
meeting_landed own d log w m =
    let f : LiveReceive → LiveReceive = λ x. with_pair w (find (λ (p : Pair). is_recv x.receive.number p.recv) (made own d log)) x in
    record {
      own_is = m.own_is;
      home_is = m.home_is;
      receives_are =
          ap (map f) m.receives_are ∙ map_twice f (kept_receive own log) (out_with own d log)
          ∙ map_same (λ (r : Receive). f (kept_receive own log r)) (landed_receive own d log) (out_with own d log) (λ r k. meets_one own d log w r m);
    }

-- ---- what a deed makes

-- the matcher's lists are those after the deed
abbrev pub entered : Own → Deed → List Deed → Kept → Kept
entered own d log w = record w { posted = (own_matching own (d ∷ log)).posted; arrived = (own_matching own (d ∷ log)).arrived }

-- they change nothing of what meets
pub meeting_entered : (own : Own) (d : Deed) (log : List Deed) (w : Kept) → Meeting own d log w → Meeting own d log (entered own d log w)
meeting_entered own d log w m = record { own_is = m.own_is; home_is = m.home_is; receives_are = m.receives_are; early_are = m.early_are; quiet = m.quiet }

-- a deed by which messages and receives meet, and nothing else lands
pub record Meets (own : Own) (d : Deed) (log : List Deed) (v : Kept) : Type 0 where
  pub before : Kept
  pub meeting : Meeting own d log before
  pub after_is : after d v ≡ matched_after own d log before
  pub owed_is : before.owed ≡ (own_progress own log).replies ++ handshake_by own log d
  pub completions_are : before.completions ≡ drop (poll_count log) (own_completions own log)

-- the message of a pair was heard of
pub pair_known : (own : Own) (log : List Deed) (p : Pair) → Member p (own_pairs own log) → is_heard log p.message.life p.message.no.0 ≡ true
unfolding is_heard
pair_known own log p m = ap is_some (pair_heard own.limits.first (told own log).head log p m).1
