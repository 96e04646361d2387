-- A receive that is posted: its range goes out with the bytes of the region, and it takes a message that waited, if one is for it.
use Rattle.std.proofs.Common.{◌≡◌, ℕ, ◌+◌, ◌<◌, Bool, true, false, cond, ◌||◌, List, [], ◌∷◌, ◌++◌, length, map, Option, Some, None, refl, arith, inl, sym, ◌∙◌, ap}
use Rattle.std.proofs.Math.Path.{fun_ext}
use Rattle.std.specs.Prelude.{if◌then◌else◌, nat_lt, option_map, unwrap_or}
use Rattle.std.specs.List.{list_any}
use Rattle.std.proofs.lemmas.Bool.{ltb-true, ne_eqb}
use Rattle.std.proofs.lemmas.List.{append-nil, map-append}
use Rattle.std.proofs.lemmas.List.Folds.{list_any-append}
use Rattle.rdm_lists.proofs.Filters.{list_any_none}
use Rattle.rdm_num.specs.declared.request.RecvReq.{RecvReq}
use Rattle.rdm_match.specs.Matcher.{Pair, is_recv}
use Rattle.rdm_model.specs.declared.job.Instr.TheVariants.{Recv}
use Rattle.rdm_model.specs.Beginnings.{Own}
use Rattle.rdm_model.specs.Deeds.{Deed, Did}
use Rattle.rdm_model.specs.Grants.{first_part_by}
use Rattle.rdm_model.specs.Heard.{head_by, is_heard}
use Rattle.rdm_model.specs.Matches.{Receive, receive, receives, received_by}
use Rattle.rdm_model.specs.Parts.{carried_by}
use Rattle.rdm_model.specs.Replies.{handshake_by}
use Rattle.rdm_law.proofs.Lives.Lives.{LifeLocal, LifeStep}
use Rattle.rdm_law.proofs.Matching.Numbered.{matching_numbered}
use Rattle.rdm_life.specs.Kept.{Kept, LiveReceive}
use Rattle.rdm_life.specs.Keeps.{told, own_pairs, own_live_receives, own_progress, region_byte, is_out, pair_of, matched_of, byte_of_pair, kept_receive, Keeps, KeepsReceives}
use Rattle.rdm_life.specs.Memory.{is_place_of, part_of, without_range}
use Rattle.rdm_life.specs.Receiving.{receive_in, with_live}
use Rattle.rdm_life.specs.Handling.{after, after_instr}
use Rattle.rdm_life.proofs.Apart.{received_apart}
use Rattle.rdm_life.proofs.EarlyWords.{so_far_still, early_where}
use Rattle.rdm_life.proofs.Entered.{receive_is, recv_entered}
use Rattle.rdm_life.proofs.LiveLeft.{find_nothing}
use Rattle.rdm_life.proofs.MadePairs.{made_after, made_unmatched, made_kept}
use Rattle.rdm_life.proofs.MatchingQuiet.{still_heard}
use Rattle.rdm_life.proofs.Meets.{Meeting, Meets, pair_known}
use Rattle.rdm_life.proofs.ReceivesInsert.{place_in}
use Rattle.rdm_life.proofs.Stays.{built, cond_where}
use Rattle.rdm_life.proofs.TakenBy.{false_unless}

-- the receive that is accepted
abbrev next_receive : List Deed → RecvReq → Receive
next_receive log req = receive (length (receives log)) log req

-- it was in no pair
new_unpaired : (own : Own) (log : List Deed) (req : RecvReq) → pair_of own log (next_receive log req) ≡ None
unfolding is_recv
new_unpaired own log req =
    find_nothing (λ (p : Pair). is_recv (length (receives log)) p.recv) (own_pairs own log) (λ p m.
    ne_eqb p.recv.id.0 (length (receives log)) (λ e. (let below = (matching_numbered own.limits.first (told own log).head log).pairs_below p m in absurd (omega arith))))

-- none of its places was out
new_home : (own : Own) (log : List Deed) (req : RecvReq) (k : ℕ) → LifeStep own log (Did (Recv req)) → k < req.len → is_out own log req.region.0 (req.at + k) ≡ false
unfolding is_out received_by
new_home own log req k step lt =
    let here = place_in req k lt in
    list_any_none (λ (r : Receive). is_place_of r.req req.region.0 (req.at + k)) (own_live_receives own log)
    (λ r m. false_unless (is_place_of r.req req.region.0 (req.at + k)) (λ is. received_apart own (Did (Recv req)) log (next_receive log req) r req.region.0 (req.at + k) step (inl refl) m here is))

-- so the bytes of its region go out with it
new_part : (own : Own) (log : List Deed) (v : Kept) (req : RecvReq) (k : ℕ) → LifeStep own log (Did (Recv req)) → KeepsReceives own log v
    → part_of v req k ≡ (if nat_lt k req.len then unwrap_or (region_byte own log req.region.0 (req.at + k)) 0 else 0)
unfolding part_of
new_part own log v req k step keeps =
    cond_where (nat_lt k req.len) (unwrap_or (v.home req.region.0 (req.at + k)) 0) (unwrap_or (region_byte own log req.region.0 (req.at + k)) 0) 0 (λ t.
    let home = new_home own log req k step (ltb-true k req.len t) in
    ap (λ (o : Option ℕ). unwrap_or o 0) (keeps.home_is req.region.0 (req.at + k) ∙ ap (λ (b : Bool). cond b None (region_byte own log req.region.0 (req.at + k))) home))

-- what is kept of it
new_kept : (own : Own) (log : List Deed) (v : Kept) (req : RecvReq) → LifeStep own log (Did (Recv req)) → Keeps own log v
    → record { receive = receive_in v req; part = part_of v req; matched = None } ≡ kept_receive own log (next_receive log req)
unfolding kept_receive byte_of_pair
new_kept own log v req step keeps =
    let r = next_receive log req in
    let region : ℕ → Option ℕ = λ k. region_byte own log req.region.0 (req.at + k) in
    let P : Receive → (ℕ → ℕ) → LiveReceive = λ r part. record { receive = r; part = part; matched = None } in
    ap (λ (x : Receive). P x (part_of v req)) (receive_is own log v req keeps.lives)
    ∙ ap (λ (part : ℕ → ℕ). P r part) (fun_ext (λ k. new_part own log v req k step keeps.receives))
    ∙ ap (λ (o : Option Pair). built r (option_map (matched_of own log) o) (λ k. byte_of_pair own log o k) region) (sym (new_unpaired own log req))

-- a place that is out with one or with others
out_both : (a b : Bool) (x : Option ℕ) → cond b None (cond a None x) ≡ cond (a || (b || false)) None x
out_both true true x = refl
out_both true false x = refl
out_both false true x = refl
out_both false false x = refl

-- what is kept before it meets a message
recv_meeting : (own : Own) (req : RecvReq) (log : List Deed) (v : Kept) → LifeLocal own (Did (Recv req) ∷ log) → Keeps own log v → Meeting own (Did (Recv req)) log (with_live (receive_in v req) v)
unfolding received_by without_range is_out head_by first_part_by carried_by
recv_meeting own req log v local keeps =
    let d : Deed = Did (Recv req) in
    let live = own_live_receives own log in
    let r = next_receive log req in
    record {
      own_is = keeps.lives.own_is;
      home_is = λ region place.
          let t : Receive → Bool = λ (r : Receive). is_place_of r.req region place in
          ap (cond (is_place_of req region place) None) (keeps.receives.home_is region place)
          ∙ out_both (list_any t live) (is_place_of req region place) (region_byte own log region place)
          ∙ ap (λ (b : Bool). cond b None (region_byte own log region place)) (sym (list_any-append t live (r ∷ [])));
      receives_are =
          ap (λ (rs : List LiveReceive). rs ++ record { receive = receive_in v req; part = part_of v req; matched = None } ∷ []) keeps.receives.receives_are
          ∙ ap (λ (x : LiveReceive). map (kept_receive own log) live ++ x ∷ []) (new_kept own log v req local.1 keeps)
          ∙ sym (map-append (kept_receive own log) live (r ∷ []));
      early_are = λ p m.
          let life = p.message.life in
          let n = p.message.no.0 in
          let heard : is_heard log life n ≡ true = sym (still_heard log d life n refl) ∙ pair_known own (d ∷ log) p (made_after own d log p m) in
          keeps.matching.early_is life (made_kept own d log p local m) n
          ∙ early_where own log life n heard (made_unmatched own d log p m)
          ∙ ap Some (sym (so_far_still own d log life n refl refl refl));
      quiet = λ p m. refl;
    }

-- what a posted receive makes
pub recv_meets : (own : Own) (req : RecvReq) (log : List Deed) (v : Kept) → LifeLocal own (Did (Recv req) ∷ log) → Keeps own log v → Meets own (Did (Recv req)) log v
unfolding after after_instr handshake_by
recv_meets own req log v local keeps =
    record {
      before = with_live (receive_in v req) v;
      meeting = recv_meeting own req log v local keeps;
      after_is = recv_entered own log v req keeps.lives keeps.matching;
      owed_is = keeps.owed.owed_is ∙ sym (append-nil (own_progress own log).replies);
      completions_are = keeps.owed.completions_are;
    }
