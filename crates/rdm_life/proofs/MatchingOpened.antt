-- A packet that opens a message is taken: all that is kept of messages.
use Rattle.std.proofs.Common.{◌≡◌, ℕ, ◌+◌, ◌-◌, Bool, true, false, cond, not, ◌&&◌, ◌||◌, List, [], ◌∷◌, ◌++◌, filter, length, Option, Some, None, refl, arith, sym, ◌∙◌, ap, subst, length-append}
use Rattle.std.specs.Prelude.{◌==◌, is_some, option_map}
use Rattle.std.proofs.lemmas.Bool.{and_parts, and_from, eqb-true}
use Rattle.std.proofs.lemmas.List.Elements.{filter-append}
use Rattle.rdm_num.specs.Lives.{same_life}
use Rattle.rdm_num.specs.Pieces.{Piece}
use Rattle.rdm_num.specs.declared.numbers.Life.{Life}
use Rattle.rdm_num.specs.declared.numbers.MsgNo.{MsgNo}
use Rattle.rdm_num.proofs.Lives.{same_life-true, same_life-refl}
use Rattle.rdm_hdr.specs.declared.Opt.{Opt}
use Rattle.rdm_pkt.specs.declared.Packet.TheVariants.{Rtm}
use Rattle.rdm_pkt.specs.declared.Form.{Form}
use Rattle.rdm_pkt.specs.declared.Form.TheVariants.{Eager, Medium, LongCts, LongRead, Runt}
use Rattle.rdm_pkt.specs.Heads.{head_of}
use Rattle.rdm_model.specs.Beginnings.{Own}
use Rattle.rdm_model.specs.ClassFacts.{ClassFacts}
use Rattle.rdm_model.specs.Classes.{repeats}
use Rattle.rdm_model.specs.Completions.{Name, named_by, heard_names, is_matched, early_count}
use Rattle.rdm_model.specs.Currents.{is_forgotten, forgotten_by}
use Rattle.rdm_model.specs.Deeds.{Deed, Took, Spelled}
use Rattle.rdm_model.specs.Grants.{first_part_in}
use Rattle.rdm_model.specs.Heard.{is_heard, is_next_message}
use Rattle.rdm_law.proofs.Matching.Enters.{Reach}
use Rattle.rdm_life.specs.Kept.{Kept, Peer, LiveReceive, with_peer}
use Rattle.rdm_life.specs.Keeps.{own_pairs, early_message, waits_early, KeepsMatching}
use Rattle.rdm_life.specs.Lives.{greet, with_source}
use Rattle.rdm_life.specs.Receiving.{hear, with_early}
use Rattle.rdm_life.specs.Handling.{opened_by, with_more, receive_of, land_found, add}
use Rattle.rdm_life.proofs.EnteringRow.{reach_grows, reach_next, next_is_reach}
use Rattle.rdm_life.proofs.Entered.{lists_are}
use Rattle.rdm_life.proofs.Made.{made}
use Rattle.rdm_life.proofs.MadePairs.{matched_after_is}
use Rattle.rdm_life.proofs.MatchingMeets.{Faces}
use Rattle.rdm_life.proofs.MatchingQuiet.{still_heard, still_next}
use Rattle.rdm_life.proofs.MatchingSilent.{still_forgotten}
use Rattle.rdm_life.proofs.MatchingSteps.{Same, same_refl, met_same, land_same}
use Rattle.rdm_life.proofs.MatchingTaken.{other_head, other_early, new_early}
use Rattle.rdm_life.proofs.MessageFacts.{named}
use Rattle.rdm_life.proofs.MessageStands.{unheard_unmatched}
use Rattle.rdm_life.proofs.NewMessage.{Facing, heard_by_packet}
use Rattle.rdm_life.proofs.TakenBy.{false_unless}
use Rattle.rdm_lists.proofs.Options.{none_there}
use Rattle.rdm_life.proofs.Tests.{or_none, and_none}

-- what is kept with its source, and the life met
abbrev pub met_by : Life → Kept → Kept
met_by from v = greet true from None (with_source from v)

-- lives differ both ways
other_way : (a b : Life) → same_life a b ≡ false → same_life b a ≡ false
other_way a b out =
    false_unless (same_life b a) (λ is.
    let l = same_life-true b a is in
    let here : same_life a b ≡ true = subst (λ (x : Life). same_life a x ≡ true) (sym l) (same_life-refl a) in
    let wrong : true ≡ false = sym here ∙ out in
    cc)

-- the number of a name that is added
one_more : (t : Name → Bool) (ns : List Name) (m : Name) → t m ≡ true → length (filter t (ns ++ m ∷ [])) ≡ length (filter t ns) + 1
one_more t ns m is =
    let e = ap (λ (xs : List Name). length xs) (filter-append t ns (m ∷ [])) in
    let f = length-append (filter t ns) (filter t (m ∷ [])) in
    let g : filter t (m ∷ []) ≡ m ∷ [] = ap (λ (b : Bool). cond b (m ∷ []) []) is in
    let h = ap (λ (xs : List Name). length xs) g in
    omega arith

-- one that does not pass
none_more : (t : Name → Bool) (ns : List Name) (m : Name) → t m ≡ false → length (filter t (ns ++ m ∷ [])) ≡ length (filter t ns)
none_more t ns m is =
    let e = ap (λ (xs : List Name). length xs) (filter-append t ns (m ∷ [])) in
    let f = length-append (filter t ns) (filter t (m ∷ [])) in
    let g : filter t (m ∷ []) ≡ [] = ap (λ (b : Bool). cond b (m ∷ []) []) is in
    let h = ap (λ (xs : List Name). length xs) g in
    omega arith

-- the name of a new message
named_new : (from : Life) (number : MsgNo) (tag : Option ℕ) (confirm : Bool) (opt : Opt) (form : Form) (before : List Deed) → is_heard before from number.0 ≡ false
    → named_by before (Took from (Spelled (Rtm number tag confirm opt form))) ≡ named from number.0 ∷ []
unfolding named_by
named_new from number tag confirm opt form before unheard = ap (λ (b : Bool). cond (not b) (named from number.0 ∷ []) []) unheard

-- none is named by a packet of a message that was heard of
pub named_none : (from : Life) (number : MsgNo) (tag : Option ℕ) (confirm : Bool) (opt : Opt) (form : Form) (before : List Deed) → is_heard before from number.0 ≡ true
    → named_by before (Took from (Spelled (Rtm number tag confirm opt form))) ≡ []
unfolding named_by
named_none from number tag confirm opt form before heard = ap (λ (b : Bool). cond (not b) (named from number.0 ∷ []) []) heard

-- what was heard of lives by the packet
pub heard_of : (from life : Life) (number : MsgNo) (tag : Option ℕ) (confirm : Bool) (opt : Opt) (form : Form) (before : List Deed) (n : ℕ)
    → is_heard (Took from (Spelled (Rtm number tag confirm opt form)) ∷ before) life n ≡ cond (same_life life from) (is_heard before life n || n == number.0) (is_heard before life n)
heard_of from life number tag confirm opt form before n =
    let d : Deed = Took from (Spelled (Rtm number tag confirm opt form)) in
    (elim (same_life life from) as (λ b. same_life life from ≡ b → is_heard (d ∷ before) life n ≡ cond b (is_heard before life n || n == number.0) (is_heard before life n)) [
      | true ↦ λ is. (let l = same_life-true life from is in
          subst (λ (x : Life). is_heard (d ∷ before) x n ≡ (is_heard before x n || n == number.0)) (sym l) (heard_by_packet from number tag confirm opt form before n))
      | false ↦ λ is. still_heard before d life n (other_head from life number tag confirm opt form n (ap (λ (b : Bool). b && n == number.0) is))
    ])
    refl

-- ---- a new message

-- what is known of its life before it
pub facing : (own : Own) (before : List Deed) (v : Kept) (from : Life) → is_forgotten before from ≡ false → KeepsMatching own before v → Facing own before (met_by from v) from
facing own before v from kept k =
    let s = met_same from v in
    record {
      lists = rw (s.posted, s.arrived) (lists_are own before v k);
      heard = λ n. s.heard from n ∙ k.heard_is from kept n;
      next = ap (is_next_message own.limits.first before from) (s.next from) ∙ k.next_is from kept;
      early = λ n. s.early from n ∙ k.early_is from kept n;
      count = s.early_count ∙ k.early_count_is;
      kept = kept;
    }

-- what is kept before the messages that enter meet
pub new_faces : (own : Own) (before : List Deed) (v : Kept) (from : Life) (number : MsgNo) (tag : Option ℕ) (confirm : Bool) (opt : Opt) (form : Form) → is_forgotten before from ≡ false → KeepsMatching own before v
    → is_heard before from number.0 ≡ false → (r : Reach own.limits.first before from) (s : Reach own.limits.first (Took from (Spelled (Rtm number tag confirm opt form)) ∷ before) from)
    → Faces own (Took from (Spelled (Rtm number tag confirm opt form))) before
    (with_peer from (λ (p : Peer). record p { next = p.next + (s.count - r.count) }) (hear from number.0 (opened_by (head_of tag confirm opt form) form) (met_by from v)))
unfolding hear heard_names early_count forgotten_by
new_faces own before v from number tag confirm opt form kept k unheard r s =
    let d : Deed = Took from (Spelled (Rtm number tag confirm opt form)) in
    let e = opened_by (head_of tag confirm opt form) form in
    let w = met_by from v in
    let m = met_same from v in
    let names : heard_names (d ∷ before) ≡ heard_names before ++ named from number.0 ∷ [] = ap (λ (ns : List Name). heard_names before ++ ns) (named_new from number tag confirm opt form before unheard) in
    let unmatched = unheard_unmatched own before from number.0 unheard in
    let waits : waits_early own before (named from number.0) ≡ true = and_from (not (is_matched (own_pairs own before) (named from number.0))) (not (is_forgotten before from)) (ap not unmatched) (ap not kept) in
    let grows = reach_grows own.limits.first d before from r s in
    record {
      forgotten = λ life. still_forgotten before d life refl;
      heard = λ life kept' n.
          (elim (same_life life from) as (λ b. (cond b (record (cond b (record (w.peers life) { heard = λ j. (w.peers life).heard j || j == number.0 }) (w.peers life)) { next = (cond b (record (w.peers life) { heard = λ j. (w.peers life).heard j || j == number.0 }) (w.peers life)).next + (s.count - r.count) }) (cond b (record (w.peers life) { heard = λ j. (w.peers life).heard j || j == number.0 }) (w.peers life))).heard n
          ≡ cond b (is_heard before life n || n == number.0) (is_heard before life n)) [
            | true ↦ ap (λ (b : Bool). b || n == number.0) (m.heard life n ∙ k.heard_is life kept' n)
            | false ↦ m.heard life n ∙ k.heard_is life kept' n
          ]) ∙ sym (heard_of from life number tag confirm opt form before n);
      next = λ life kept'.
          (elim (same_life life from) as (λ b. same_life life from ≡ b → is_next_message own.limits.first (d ∷ before) life (cond b (record (cond b (record (w.peers life) { heard = λ j. (w.peers life).heard j || j == number.0 }) (w.peers life)) { next = (cond b (record (w.peers life) { heard = λ j. (w.peers life).heard j || j == number.0 }) (w.peers life)).next + (s.count - r.count) }) (cond b (record (w.peers life) { heard = λ j. (w.peers life).heard j || j == number.0 }) (w.peers life))).next ≡ true) [
            | true ↦ λ is.
                let l = same_life-true life from is in
                let next : (w.peers life).next ≡ own.limits.first + r.count = m.next life ∙ ap (λ (x : Life). (v.peers x).next) l ∙ next_is_reach own.limits.first before from r (v.peers from).next (k.next_is from kept) in
                let sum : (w.peers life).next + (s.count - r.count) ≡ own.limits.first + s.count = omega arith in
                ap (is_next_message own.limits.first (d ∷ before) life) sum ∙ subst (λ (x : Life). is_next_message own.limits.first (d ∷ before) x (own.limits.first + s.count) ≡ true) (sym l) (reach_next own.limits.first (d ∷ before) from s)
            | false ↦ λ is.
                ap (is_next_message own.limits.first (d ∷ before) life) (m.next life)
                ∙ still_next own.limits.first d before life (v.peers life).next (λ n. still_heard before d life n (other_head from life number tag confirm opt form n (ap (λ (b : Bool). b && n == number.0) is))) ∙ k.next_is life kept'
          ])
          refl;
      early = λ life kept' n out.
          (elim (same_life life from && n == number.0) as (λ b. (same_life life from && n == number.0) ≡ b → cond b (Some e) (w.early life n) ≡ early_message own (d ∷ before) life n) [
            | true ↦ λ is.
                let p = and_parts (same_life life from) (n == number.0) is in
                let l = same_life-true life from p.0 in
                let no = eqb-true n number.0 p.1 in
                let here : named life n ≡ named from number.0 = ap (λ (x : Life). named x n) l ∙ ap (named from) no in
                let after' : is_matched (own_pairs own (d ∷ before)) (named from number.0) ≡ false =
                matched_after_is own d before (named from number.0) ∙ ap (λ (b : Bool). b || is_matched (made own d before) (named from number.0)) unmatched
                ∙ ap (is_matched (made own d before)) (sym here) ∙ out in
                sym (ap (λ (m : Name). early_message own (d ∷ before) m.life m.number) here ∙ new_early own from number tag confirm opt form before unheard after')
            | false ↦ λ is.
                m.early life n ∙ k.early_is life kept' n
                ∙ sym (other_early own from life number tag confirm opt form before n is
                (matched_after_is own d before (named life n) ∙ ap (λ (b : Bool). is_matched (own_pairs own before) (named life n) || b) out ∙ or_none (is_matched (own_pairs own before) (named life n))))
          ])
          refl;
      early_of = λ life kept'.
          (elim (same_life life from) as (λ b. same_life life from ≡ b → cond b (w.early_of life + 1) (w.early_of life) ≡ length (filter (λ (x : Name). waits_early own before x && same_life x.life life) (heard_names before ++ named from number.0 ∷ []))) [
            | true ↦ λ is.
                let l = same_life-true life from is in
                let t : (waits_early own before (named from number.0) && same_life from life) ≡ true = and_from (waits_early own before (named from number.0)) (same_life from life) waits (subst (λ (x : Life). same_life from x ≡ true) (sym l) (same_life-refl from)) in
                ap (λ (j : ℕ). j + 1) (m.early_of life ∙ k.early_of_is life kept') ∙ sym (one_more (λ (x : Name). waits_early own before x && same_life x.life life) (heard_names before) (named from number.0) t)
            | false ↦ λ is.
                let t : (waits_early own before (named from number.0) && same_life from life) ≡ false = ap (λ (b : Bool). waits_early own before (named from number.0) && b) (other_way life from is) ∙ and_none (waits_early own before (named from number.0)) in
                m.early_of life ∙ k.early_of_is life kept' ∙ sym (none_more (λ (x : Name). waits_early own before x && same_life x.life life) (heard_names before) (named from number.0) t)
          ])
          refl ∙ ap (λ (ns : List Name). length (filter (λ (x : Name). waits_early own before x && same_life x.life life) ns)) (sym names);
      early_count =
          ap (λ (j : ℕ). j + 1) (m.early_count ∙ k.early_count_is) ∙ sym (one_more (waits_early own before) (heard_names before) (named from number.0) waits)
          ∙ ap (λ (ns : List Name). length (filter (waits_early own before) ns)) (sym names);
    }

-- ---- a message that was heard of

-- a packet that repeats nothing is a segment
pub segment_form : (f : ClassFacts) (from : Life) (n : ℕ) (form : Form) → repeats f from n form ≡ false → first_part_in form ≡ None
unfolding repeats first_part_in
segment_form f from n (Eager bytes) h = cc
segment_form f from n (Medium size offset bytes) h = refl
segment_form f from n (LongCts size send credits bytes) h = cc
segment_form f from n (LongRead size send iov) h = cc
segment_form f from n (Runt size send iov runt offset bytes) h = refl

-- a piece that lands leaves what is kept of messages
found_same : (o : Option LiveReceive) (p : Option Piece) (v : Kept) → Same v (land_found o p v)
unfolding land_found
found_same (Some r) (Some p) v = land_same r.receive.number p v
found_same (Some r) None v = same_refl v
found_same None (Some p) v = same_refl v
found_same None None v = same_refl v

-- what more of a message makes of what is early
pub add_early : (from : Life) (number : ℕ) (p : Option Piece) (v : Kept) (life : Life) (n : ℕ)
    → (add from number p v).early life n ≡ cond (same_life life from && n == number) (option_map (with_more p) (v.early life n)) (v.early life n)
unfolding add with_early
add_early from number p v life n =
    (elim (is_some (v.early from number)) as (λ b. is_some (v.early from number) ≡ b
    → (cond b (record v { early = λ x k. cond (same_life x from && k == number) (option_map (with_more p) (v.early x k)) (v.early x k) }) (land_found (receive_of v from number) p v)).early life n
    ≡ cond (same_life life from && n == number) (option_map (with_more p) (v.early life n)) (v.early life n)) [
      | true ↦ λ is. refl
      | false ↦ λ is.
          (found_same (receive_of v from number) p v).early life n
          ∙ (elim (same_life life from && n == number) as (λ b. (same_life life from && n == number) ≡ b → v.early life n ≡ cond b (option_map (with_more p) (v.early life n)) (v.early life n)) [
            | true ↦ λ here. (let q = and_parts (same_life life from) (n == number) here in
                let none : v.early life n ≡ None = ap (λ (x : Life). v.early x n) (same_life-true life from q.0) ∙ ap (v.early from) (eqb-true n number q.1) ∙ none_there (v.early from number) is in
                none ∙ sym (ap (option_map (with_more p)) none))
            | false ↦ λ here. refl
          ]) refl
    ])
    refl

-- the rest of what is kept of messages stays
pub add_same : (from : Life) (number : ℕ) (p : Option Piece) (v : Kept) → ((life : Life) (n : ℕ) → ((add from number p v).peers life).heard n ≡ (v.peers life).heard n)
    × ((life : Life) → ((add from number p v).peers life).next ≡ (v.peers life).next) × ((add from number p v).posted ≡ v.posted) × ((add from number p v).arrived ≡ v.arrived)
    × ((life : Life) → (add from number p v).early_of life ≡ v.early_of life) × ((add from number p v).early_count ≡ v.early_count)
unfolding add with_early
add_same from number p v =
    let s = found_same (receive_of v from number) p v in
    (elim (is_some (v.early from number)) as (λ b.
    let w = cond b (record v { early = λ x k. cond (same_life x from && k == number) (option_map (with_more p) (v.early x k)) (v.early x k) }) (land_found (receive_of v from number) p v) in
    ((life : Life) (n : ℕ) → (w.peers life).heard n ≡ (v.peers life).heard n) × ((life : Life) → (w.peers life).next ≡ (v.peers life).next) × (w.posted ≡ v.posted) × (w.arrived ≡ v.arrived)
    × ((life : Life) → w.early_of life ≡ v.early_of life) × (w.early_count ≡ v.early_count)) [
      | true ↦ (λ life n. refl, λ life. refl, refl, refl, λ life. refl, refl)
      | false ↦ (s.heard, s.next, s.posted, s.arrived, s.early_of, s.early_count)
    ])
