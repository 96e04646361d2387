-- A packet of a message that was heard of before: its piece lands in the live receive that takes the message, or is kept with the early message.
use Rattle.std.proofs.Common.{◌≡◌, ℕ, ◌<◌, Bool, true, false, cond, ◌&&◌, eq-eqb, eqb-true, List, [], length, Option, Some, None, refl, sym, ◌∙◌, subst}
use Rattle.std.specs.Prelude.{◌==◌}
use Rattle.std.proofs.lemmas.Bool.{and_parts}
use Rattle.rdm_lists.specs.Lists.{Member}
use Rattle.rdm_num.specs.Lives.{same_life}
use Rattle.rdm_num.specs.Pieces.{Piece, byte_in}
use Rattle.rdm_num.specs.declared.numbers.Life.{Life}
use Rattle.rdm_num.specs.declared.numbers.MsgNo.{MsgNo}
use Rattle.rdm_num.proofs.Lives.{same_life-true, same_life-refl}
use Rattle.rdm_hdr.specs.declared.Opt.{Opt}
use Rattle.rdm_pkt.specs.declared.Form.{Form}
use Rattle.rdm_pkt.specs.declared.Form.TheVariants.{Eager, Medium, LongCts, LongRead, Runt}
use Rattle.rdm_pkt.specs.declared.Packet.TheVariants.{Rtm}
use Rattle.rdm_pkt.specs.Heads.{piece_of}
use Rattle.rdm_match.specs.Matcher.{Pair}
use Rattle.rdm_model.specs.Beginnings.{Own}
use Rattle.rdm_model.specs.ClassFacts.{class_facts, came_in_part}
use Rattle.rdm_model.specs.Classes.{repeats}
use Rattle.rdm_model.specs.Completions.{is_matched}
use Rattle.rdm_model.specs.Deeds.{Deed, Took, Spelled}
use Rattle.rdm_model.specs.Grants.{first_part_in, first_part_by}
use Rattle.rdm_model.specs.Heard.{is_heard}
use Rattle.rdm_model.specs.Matches.{received_by}
use Rattle.rdm_model.specs.Parts.{piece_by, carried_by}
use Rattle.rdm_law.proofs.Lives.Lives.{life_scene}
use Rattle.rdm_law.proofs.Matching.Distinct.{matching_distinct}
use Rattle.rdm_life.specs.Keeps.{told, own_pairs, byte_came}
use Rattle.rdm_life.proofs.EarlyWords.{first_still}
use Rattle.rdm_life.proofs.TakenRead.{FormHasBytes}
use Rattle.rdm_life.proofs.Made.{made}
use Rattle.rdm_life.proofs.MatchingQuiet.{none_enter}
use Rattle.rdm_life.proofs.MatchingStep.{same_heard}
use Rattle.rdm_life.proofs.MessageFacts.{named}
use Rattle.rdm_life.proofs.Owing.{BringsNone}
use Rattle.rdm_life.proofs.TakenBy.{false_unless, message_of_pair}
use Rattle.rdm_life.proofs.LandedPiece.{Brings}
use Rattle.rdm_life.proofs.LandedBytes.{missing_none, made_none}
use Rattle.rdm_life.proofs.Tests.{none_either}
use Rattle.rdm_life.proofs.Apart.{own_ended}

-- a packet that repeats nothing is a segment with a piece, none of whose places came before
pub segment_piece : (own : Own) (ports : ℕ) (port_log log : List Deed) (from : Life) (n : ℕ) (form : Form) → FormHasBytes form → repeats (class_facts (life_scene ports own port_log log)) from n form ≡ false
    → (x : Piece) × (piece_of form ≡ Some x) × (first_part_in form ≡ None) × ((place b : ℕ) → byte_in x place ≡ Some b → byte_came own log from n place ≡ None)
    × (0 < length x.bytes) × (came_in_part (life_scene ports own port_log log) from n x.offset (length x.bytes) ≡ false)
unfolding repeats piece_of first_part_in came_in_part
segment_piece own ports port_log log from n (Eager bytes) some h = cc
segment_piece own ports port_log log from n (LongCts size send credits bytes) some h = cc
segment_piece own ports port_log log from n (LongRead size send iov) some h = cc
segment_piece own ports port_log log from n (Medium size offset bytes) some h =
    (record { offset = offset; bytes = bytes }, refl, refl, λ place b is. missing_none _ _ (record { offset = offset; bytes = bytes }) place b h is, some, h)
segment_piece own ports port_log log from n (Runt size send iov runt offset bytes) some h =
    (record { offset = offset; bytes = bytes }, refl, refl, λ place b is. missing_none _ _ (record { offset = offset; bytes = bytes }) place b h is, some, h)

-- what a packet brings of its own message, and of no other
rtm_brings : (ps : List Pair) (from : Life) (number : MsgNo) (tag : Option ℕ) (confirm : Bool) (opt : Opt) (form : Form)
    → carried_by ps from number.0 (Took from (Spelled (Rtm number tag confirm opt form))) ≡ piece_of form
unfolding carried_by piece_by
rtm_brings ps from number tag confirm opt form = rw (same_life-refl from, eq-eqb number.0 number.0 refl) refl

-- two tests that don't both hold
not_both : {A : Type 0} (a b : Bool) (x : Option A) → (a && b) ≡ false → cond a (cond b x None) None ≡ None
not_both true true x h = cc
not_both true false x h = refl
not_both false b x h = refl

-- a pair of another message gets nothing of it
rtm_others : (ps : List Pair) (from : Life) (number : MsgNo) (tag : Option ℕ) (confirm : Bool) (opt : Opt) (form : Form) (source : Life) (n : ℕ) → (same_life from source && number.0 == n) ≡ false
    → carried_by ps source n (Took from (Spelled (Rtm number tag confirm opt form))) ≡ None
unfolding carried_by piece_by
rtm_others ps from number tag confirm opt form source n other = not_both (same_life from source) (number.0 == n) (piece_of form) other

-- it lets no message enter, so it makes no pair
pub more_made : (own : Own) (log : List Deed) (from : Life) (number : MsgNo) (tag : Option ℕ) (confirm : Bool) (opt : Opt) (form : Form) → is_heard log from number.0 ≡ true
    → made own (Took from (Spelled (Rtm number tag confirm opt form))) log ≡ []
more_made own log from number tag confirm opt form heard =
    made_none own log from (Spelled (Rtm number tag confirm opt form))
    (none_enter own.limits.first (Took from (Spelled (Rtm number tag confirm opt form))) log from (same_heard from number tag confirm opt form log heard from))

-- where no pair is of its message, no pair gets anything
pub unmatched_quiet : (own : Own) (log : List Deed) (from : Life) (number : MsgNo) (tag : Option ℕ) (confirm : Bool) (opt : Opt) (form : Form)
    → is_matched (own_pairs own log) (named from number.0) ≡ false → (q : Pair) → Member q (own_pairs own log) → BringsNone own (Took from (Spelled (Rtm number tag confirm opt form))) log q
unmatched_quiet own log from number tag confirm opt form none q m =
    rtm_others (own_pairs own log) from number tag confirm opt form q.message.life q.message.no.0
    (false_unless (same_life from q.message.life && number.0 == q.message.no.0) (λ h.
    let a = and_parts (same_life from q.message.life) (number.0 == q.message.no.0) h in
    let is = message_of_pair own log from number.0 q m (sym (same_life-true from q.message.life a.0)) (sym (eqb-true number.0 q.message.no.0 a.1)) in
    let wrong : true ≡ false = sym is ∙ none in
    cc))

-- where a live receive takes it, the piece is for its pair
pub segment_brings : (own : Own) (log : List Deed) (from : Life) (number : MsgNo) (tag : Option ℕ) (confirm : Bool) (opt : Opt) (form : Form) (p : Pair) (x : Piece) → is_heard log from number.0 ≡ true
    → piece_of form ≡ Some x → first_part_in form ≡ None → ((place b : ℕ) → byte_in x place ≡ Some b → byte_came own log from number.0 place ≡ None)
    → Member p (own_pairs own log) → p.message.life ≡ from → p.message.no.0 ≡ number.0 → own_ended own log p.recv.id.0 ≡ false → Brings own (Took from (Spelled (Rtm number tag confirm opt form))) log p x
unfolding received_by first_part_by
segment_brings own log from number tag confirm opt form p x heard piece none fresh m life n going =
    let ps = own_pairs own log in
    let d : Deed = Took from (Spelled (Rtm number tag confirm opt form)) in
    let at : (P : Life → ℕ → Type 0) → P from number.0 → P p.message.life p.message.no.0 =
    λ P h. subst (λ (l : Life). P l p.message.no.0) (sym life) (subst (λ (k : ℕ). P from k) (sym n) h) in
    record {
      member = m;
      going = going;
      carries = at (λ l k. carried_by ps l k d ≡ Some x) (rtm_brings ps from number tag confirm opt form ∙ piece);
      fresh = at (λ l k. (place b : ℕ) → byte_in x place ≡ Some b → byte_came own log l k place ≡ None) fresh;
      first_is = first_still d log p.message.life p.message.no.0 (none_either (same_life from p.message.life && number.0 == p.message.no.0) (first_part_in form) none);
      others = λ q k other.
          rtm_others ps from number tag confirm opt form q.message.life q.message.no.0
          (false_unless (same_life from q.message.life && number.0 == q.message.no.0) (λ h.
          let a = and_parts (same_life from q.message.life) (number.0 == q.message.no.0) h in
          other ((matching_distinct own.limits.first (told own log).head log).once q p k m (sym (same_life-true from q.message.life a.0) ∙ sym life) (sym (eqb-true number.0 q.message.no.0 a.1) ∙ sym n))));
      makes_none = more_made own log from number tag confirm opt form heard;
      accepts_none = refl;
    }
