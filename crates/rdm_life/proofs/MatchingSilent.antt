-- A deed that tells of no message and brings none of its bytes: what is kept of early messages and of the matcher.
use Rattle.std.proofs.Common.{◌≡◌, ℕ, Bool, true, false, cond, not, ◌&&◌, ◌||◌, List, [], ◌∷◌, ◌++◌, map, None, refl, sym, ◌∙◌, ap, append-nil}
use Rattle.std.specs.Prelude.{◌==◌, is_some, find}
use Rattle.std.specs.Bool.{then_some}
use Rattle.std.specs.List.{list_any}
use Rattle.std.proofs.lemmas.Bool.{and_parts, and_from}
use Rattle.rdm_lists.proofs.Members.{find_member, member_list_any}
use Rattle.rdm_lists.proofs.Options.{some_of}
use Rattle.rdm_num.specs.Lives.{same_life}
use Rattle.rdm_num.specs.declared.numbers.Life.{Life}
use Rattle.rdm_pkt.specs.declared.Packet.TheVariants.{Rtm, Cts, CtsData, Eor, Handshake, Receipt}
use Rattle.rdm_match.specs.Matcher.{Matching, Pair, is_recv, is_pair}
use Rattle.rdm_model.specs.declared.job.Instr.TheVariants.{Insert, Recv, Cancel}
use Rattle.rdm_model.specs.Beginnings.{Own}
use Rattle.rdm_model.specs.Completions.{Name, named_by, heard_names, is_matched}
use Rattle.rdm_model.specs.Currents.{is_forgotten, forgotten_by}
use Rattle.rdm_model.specs.Deeds.{Deed, Did, Took, Item, Spelled, Asks, Gives, Garbled}
use Rattle.rdm_model.specs.Grants.{first_part_by}
use Rattle.rdm_model.specs.Heard.{head_by, is_heard}
use Rattle.rdm_model.specs.Matches.{events_by, arrival}
use Rattle.rdm_model.specs.Parts.{piece_by, carried_by}
use Rattle.rdm_life.specs.Kept.{Kept}
use Rattle.rdm_life.specs.Keeps.{told, own_pairs, early_message, KeepsMatching}
use Rattle.rdm_life.specs.Handling.{after}
use Rattle.rdm_life.proofs.EarlyWords.{early_still}
use Rattle.rdm_life.proofs.MatchingQuiet.{still_heard, still_matching, none_enter}
use Rattle.rdm_life.proofs.MatchingStill.{IsSilent, matching_left}
use Rattle.rdm_life.proofs.MatchingSteps.{silent_same}
use Rattle.rdm_life.proofs.MessageFacts.{named}
use Rattle.rdm_life.proofs.MessageStands.{early_none}
use Rattle.rdm_life.proofs.Pairs.{own_events}
use Rattle.rdm_life.proofs.TakenBy.{false_unless}
use Rattle.rdm_life.proofs.Tests.{or_none}

-- a message that was matched does not wait
pub no_wait : (heard matched : Bool) → matched ≡ true → (heard && not matched) ≡ false
no_wait true matched is = ap not is
no_wait false matched is = refl

-- it tells of no head
pub silent_head : (d : Deed) → IsSilent d → (life : Life) (n : ℕ) → head_by life n d ≡ None
unfolding head_by
silent_head (Took from (Spelled (Rtm number tag confirm opt form))) silent life n = elim silent [ ]
silent_head d silent life n = refl

-- nor of a first part
pub silent_part : (d : Deed) → IsSilent d → (life : Life) (n : ℕ) → first_part_by life n d ≡ None
unfolding first_part_by
silent_part (Took from (Spelled (Rtm number tag confirm opt form))) silent life n = elim silent [ ]
silent_part d silent life n = refl

-- it names no message
pub silent_names : (before : List Deed) (d : Deed) → IsSilent d → named_by before d ≡ []
unfolding named_by
silent_names before (Took from (Spelled (Rtm number tag confirm opt form))) silent = elim silent [ ]
silent_names before d silent = refl

-- it forgets no life
pub silent_forgets : (before : List Deed) (d : Deed) → IsSilent d → forgotten_by before d ≡ []
unfolding forgotten_by
silent_forgets before (Did (Insert life)) silent = elim silent [ ]
silent_forgets before d silent = refl

-- a deed that forgets no life leaves those that were forgotten
pub still_forgotten : (before : List Deed) (d : Deed) (life : Life) → forgotten_by before d ≡ [] → is_forgotten (d ∷ before) life ≡ is_forgotten before life
unfolding is_forgotten
still_forgotten before d life none = ap (λ (ls : List Life). is_forgotten before life || list_any (same_life life) ls) none ∙ or_none (is_forgotten before life)

-- no receive was paired with a message that was not matched
pub unpaired : (ps : List Pair) (recv : ℕ) (life : Life) (n : ℕ) → is_matched ps (named life n) ≡ false → is_pair ps recv life n ≡ false
unfolding is_matched is_pair
unpaired ps recv life n unmatched =
    let test : Pair → Bool = λ (p : Pair). is_recv recv p.recv && same_life p.message.life life && p.message.no.0 == n in
    false_unless (is_some (find test ps)) (λ is.
    let p = some_of (find test ps) is in
    let f = find_member test p.0 ps p.1 in
    let a = and_parts (is_recv recv p.0.recv && same_life p.0.message.life life) (p.0.message.no.0 == n) f.1 in
    let b = and_parts (is_recv recv p.0.recv) (same_life p.0.message.life life) a.0 in
    let matched = member_list_any (λ (q : Pair). same_life q.message.life life && q.message.no.0 == n) p.0 ps f.0 (and_from (same_life p.0.message.life life) (p.0.message.no.0 == n) b.1 a.1) in
    let wrong : true ≡ false = sym matched ∙ unmatched in
    cc)

-- of an item that opens no message, nothing goes to a message that was not matched
silent_piece : (ps : List Pair) (life : Life) (n : ℕ) (from : Life) (item : Item) → IsSilent (Took from item) → is_matched ps (named life n) ≡ false → piece_by ps life n item ≡ None
unfolding piece_by
silent_piece ps life n from (Spelled (Rtm number tag confirm opt form)) silent unmatched = elim silent [ ]
silent_piece ps life n from (Spelled (Cts send recv size connid)) silent unmatched = refl
silent_piece ps life n from (Spelled (CtsData recv offset connid bytes)) silent unmatched = ap (λ (b : Bool). then_some b (record { offset = offset; bytes = bytes })) (unpaired ps recv.0 life n unmatched)
silent_piece ps life n from (Spelled (Eor send recv connid)) silent unmatched = refl
silent_piece ps life n from (Spelled (Handshake words connid raw)) silent unmatched = refl
silent_piece ps life n from (Spelled (Receipt number connid)) silent unmatched = refl
silent_piece ps life n from (Asks a) silent unmatched = refl
silent_piece ps life n from (Gives g) silent unmatched = ap (λ (b : Bool). then_some b (record { offset = g.at; bytes = g.bytes })) (unpaired ps g.recv_id.0 life n unmatched)
silent_piece ps life n from Garbled silent unmatched = refl

-- so it is with a deed
silent_carries : (ps : List Pair) (life : Life) (n : ℕ) (d : Deed) → IsSilent d → is_matched ps (named life n) ≡ false → carried_by ps life n d ≡ None
unfolding carried_by
silent_carries ps life n (Took from item) silent unmatched =
    (elim (same_life from life) as (λ b. cond b (piece_by ps life n item) None ≡ None) [ true ↦ silent_piece ps life n from item silent unmatched | false ↦ refl ])
silent_carries ps life n d silent unmatched = refl

-- nothing comes to the matcher by it
pub silent_events : (own : Own) (d : Deed) (before : List Deed) → IsSilent d → own_events own d before ≡ []
unfolding events_by
silent_events own (Did (Insert life)) before silent = elim silent [ ]
silent_events own (Did (Recv req)) before silent = elim silent [ ]
silent_events own (Did (Cancel recv)) before silent = elim silent [ ]
silent_events own (Took from item) before silent =
    ap (map (arrival (told own (Took from item ∷ before)).head from))
    (none_enter own.limits.first (Took from item) before from (λ n. still_heard before (Took from item) from n (silent_head (Took from item) silent from n)))
silent_events own d before silent = refl

-- an early message stays as it was
silent_early : (own : Own) (d : Deed) (before : List Deed) (life : Life) (n : ℕ) → IsSilent d → early_message own (d ∷ before) life n ≡ early_message own before life n
silent_early own d before life n silent =
    let matching = still_matching own d before (silent_events own d before silent) in
    let same : is_matched (own_pairs own (d ∷ before)) (named life n) ≡ is_matched (own_pairs own before) (named life n) = ap (λ (m : Matching). is_matched m.pairs (named life n)) matching in
    (elim (is_matched (own_pairs own before) (named life n)) as (λ b. is_matched (own_pairs own before) (named life n) ≡ b → early_message own (d ∷ before) life n ≡ early_message own before life n) [
      | true ↦ λ matched. early_none own (d ∷ before) life n (no_wait (is_heard (d ∷ before) life n) _ (same ∙ matched)) ∙ sym (early_none own before life n (no_wait (is_heard before life n) _ matched))
      | false ↦ λ unmatched. early_still own d before life n (silent_head d silent life n) (silent_part d silent life n) (silent_carries (own_pairs own before) life n d silent unmatched) same
    ])
    refl

-- all that is kept of messages
pub silent_matching : (own : Own) (d : Deed) (before : List Deed) (v : Kept) → IsSilent d → KeepsMatching own before v → KeepsMatching own (d ∷ before) (after d v)
unfolding heard_names
silent_matching own d before v silent k =
    let s = silent_same d v silent in
    let same = still_matching own d before (silent_events own d before silent) in
    matching_left own d before v (after d v)
    (record {
      heard = λ life n. still_heard before d life n (silent_head d silent life n);
      pairs = ap (λ (m : Matching). m.pairs) same;
      names = ap (λ (ns : List Name). heard_names before ++ ns) (silent_names before d silent) ∙ append-nil (heard_names before);
      forgotten = λ life. still_forgotten before d life (silent_forgets before d silent);
      posted_kept = s.posted ∙ k.posted_is ∙ ap (λ (m : Matching). m.posted) (sym same);
      arrived_kept = s.arrived ∙ k.arrived_is ∙ ap (λ (m : Matching). m.arrived) (sym same);
      early_of_kept = s.early_of;
      early_count_kept = s.early_count;
      heard_kept = s.heard;
      next_kept = s.next;
    })
    (λ life kept n. s.early life n ∙ k.early_is life kept n ∙ sym (silent_early own d before life n silent))
    k
