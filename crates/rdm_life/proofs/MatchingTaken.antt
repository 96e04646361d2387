-- A packet that opens a message is taken: what is kept of messages then.
use Rattle.std.proofs.Common.{◌≡◌, ℕ, Bool, true, false, cond, not, ◌&&◌, ◌||◌, List, [], ◌∷◌, Option, Some, None, refl, eq-eqb, inl, sym, ◌∙◌, ap, subst}
use Rattle.std.specs.Prelude.{◌==◌, is_some, option_map, unwrap_or}
use Rattle.std.specs.Bool.{then_some}
use Rattle.std.proofs.Math.Path.{fun_ext}
use Rattle.std.proofs.lemmas.Bool.{and_parts, and_from, eqb-true}
use Rattle.rdm_lists.specs.Lists.{Member, or_else}
use Rattle.rdm_lists.proofs.Options.{or_else-none}
use Rattle.rdm_num.specs.Lives.{same_life}
use Rattle.rdm_num.specs.Pieces.{Piece, byte_at}
use Rattle.rdm_num.specs.declared.numbers.Life.{Life}
use Rattle.rdm_num.specs.declared.numbers.MsgNo.{MsgNo}
use Rattle.rdm_num.specs.declared.head.Head.{Head}
use Rattle.rdm_num.proofs.Lives.{same_life-true, same_life-refl}
use Rattle.rdm_hdr.specs.declared.Opt.{Opt}
use Rattle.rdm_pkt.specs.declared.Packet.TheVariants.{Rtm}
use Rattle.rdm_pkt.specs.declared.Form.{Form}
use Rattle.rdm_pkt.specs.Heads.{head_of, piece_of}
use Rattle.rdm_match.specs.Matcher.{Pair}
use Rattle.rdm_model.specs.Beginnings.{Own}
use Rattle.rdm_model.specs.Completions.{is_matched}
use Rattle.rdm_model.specs.Deeds.{Deed, Took, Spelled}
use Rattle.rdm_model.specs.Grants.{first_part_in, first_part_by, first_part_taken, first_part}
use Rattle.rdm_model.specs.Heard.{heard_head, head_by, is_heard}
use Rattle.rdm_model.specs.Parts.{piece_by, carried_by, carried_pieces}
use Rattle.rdm_law.proofs.Accounts.Carried.{carried_heard}
use Rattle.rdm_life.specs.Keeps.{told, own_pairs, byte_came, early_message}
use Rattle.rdm_life.specs.Handling.{byte_by, opened_by, with_more}
use Rattle.rdm_life.proofs.EarlyWords.{came_after, so_far, message_by, early_where, early_is_made, early_made, early_still}
use Rattle.rdm_life.proofs.MessageFacts.{named}
use Rattle.rdm_life.proofs.NewMessage.{heard_by_packet}
use Rattle.rdm_life.proofs.NewEntered.{head_later, head_new}
use Rattle.rdm_life.proofs.TakenBy.{false_unless}

-- none before what is there
none_first : {A : Type 0} (o : Option A) → or_else None o ≡ o
unfolding or_else
none_first o = refl

-- neither of two
none_parts : {A : Type 0} (x y : Option A) → is_some (or_else x y) ≡ false → (is_some x ≡ false) × (is_some y ≡ false)
unfolding or_else
none_parts None y h = (refl, h)
none_parts (Some a) y h = cc

-- no piece has a place
no_pieces : (place : ℕ) → byte_at [] place ≡ None
unfolding byte_at
no_pieces place = refl

-- where two tests do not both hold
both_none : {A : Type 0} (a b : Bool) (o : Option A) → (a && b) ≡ false → cond a (cond b o None) None ≡ None
both_none true b o out = ap (λ (x : Bool). cond x o None) out
both_none false b o out = refl

-- a deed that tells no head tells no first part
part_told : (d : Deed) (from : Life) (n : ℕ) → is_some (head_by from n d) ≡ false → or_else None (first_part_by from n d) ≡ None
unfolding head_by first_part_by or_else
part_told (Took source (Spelled (Rtm number tag confirm opt form))) from n none =
    (elim (same_life source from && number.0 == n) as (λ b. is_some (then_some b (head_of tag confirm opt form)) ≡ false → cond b (first_part_in form) None ≡ None) [
      | true ↦ λ h. cc
      | false ↦ λ h. refl
    ]) none
part_told d from n none = refl

-- more of a message that waits or does not
more_made : (waits : Bool) (head : Head) (came : ℕ → Option ℕ) (first : ℕ) (p : Option Piece)
    → cond waits (Some (record { head = head; came = λ place. or_else (came place) (byte_by p place); first_part = first })) None
    ≡ option_map (with_more p) (cond waits (Some (record { head = head; came = came; first_part = first })) None)
more_made true head came first p = refl
more_made false head came first p = refl

-- the packet is of another message
other_packet : (from life : Life) (number : MsgNo) (n : ℕ) → (same_life life from && n == number.0) ≡ false → (same_life from life && number.0 == n) ≡ false
other_packet from life number n out =
    false_unless (same_life from life && number.0 == n) (λ is.
    let p = and_parts (same_life from life) (number.0 == n) is in
    let l = same_life-true from life p.0 in
    let here : (same_life life from && n == number.0) ≡ true = and_from (same_life life from) (n == number.0) (subst (λ (x : Life). same_life x from ≡ true) l (same_life-refl from)) (eq-eqb n number.0 (sym (eqb-true number.0 n p.1))) in
    let wrong : true ≡ false = sym here ∙ out in
    cc)

-- it tells nothing of another message
pub other_head : (from life : Life) (number : MsgNo) (tag : Option ℕ) (confirm : Bool) (opt : Opt) (form : Form) (n : ℕ) → (same_life life from && n == number.0) ≡ false
    → head_by life n (Took from (Spelled (Rtm number tag confirm opt form))) ≡ None
unfolding head_by
other_head from life number tag confirm opt form n out = ap (λ (b : Bool). then_some b (head_of tag confirm opt form)) (other_packet from life number n out)

-- nor of its first part
pub other_part : (from life : Life) (number : MsgNo) (tag : Option ℕ) (confirm : Bool) (opt : Opt) (form : Form) (n : ℕ) → (same_life life from && n == number.0) ≡ false
    → first_part_by life n (Took from (Spelled (Rtm number tag confirm opt form))) ≡ None
unfolding first_part_by
other_part from life number tag confirm opt form n out = ap (λ (b : Bool). cond b (first_part_in form) None) (other_packet from life number n out)

-- and brings none of its bytes
pub other_bytes : (ps : List Pair) (from life : Life) (number : MsgNo) (tag : Option ℕ) (confirm : Bool) (opt : Opt) (form : Form) (n : ℕ) → (same_life life from && n == number.0) ≡ false
    → carried_by ps life n (Took from (Spelled (Rtm number tag confirm opt form))) ≡ None
unfolding carried_by piece_by
other_bytes ps from life number tag confirm opt form n out =
    both_none (same_life from life) (number.0 == n) (piece_of form) (other_packet from life number n out)

-- another early message stays as it was
pub other_early : (own : Own) (from life : Life) (number : MsgNo) (tag : Option ℕ) (confirm : Bool) (opt : Opt) (form : Form) (before : List Deed) (n : ℕ) → (same_life life from && n == number.0) ≡ false
    → is_matched (own_pairs own (Took from (Spelled (Rtm number tag confirm opt form)) ∷ before)) (named life n) ≡ is_matched (own_pairs own before) (named life n)
    → early_message own (Took from (Spelled (Rtm number tag confirm opt form)) ∷ before) life n ≡ early_message own before life n
other_early own from life number tag confirm opt form before n out same =
    early_still own (Took from (Spelled (Rtm number tag confirm opt form))) before life n (other_head from life number tag confirm opt form n out) (other_part from life number tag confirm opt form n out)
    (other_bytes (own_pairs own before) from life number tag confirm opt form n out) same

-- the bytes that it brings of its own message
own_bytes : (ps : List Pair) (from : Life) (number : MsgNo) (tag : Option ℕ) (confirm : Bool) (opt : Opt) (form : Form) → carried_by ps from number.0 (Took from (Spelled (Rtm number tag confirm opt form))) ≡ piece_of form
unfolding carried_by piece_by
own_bytes ps from number tag confirm opt form =
    ap (λ (b : Bool). cond b (cond (number.0 == number.0) (piece_of form) None) None) (same_life-refl from) ∙ ap (λ (b : Bool). cond b (piece_of form) None) (eq-eqb number.0 number.0 refl)

-- and the first part
own_part : (from : Life) (number : MsgNo) (tag : Option ℕ) (confirm : Bool) (opt : Opt) (form : Form) → first_part_by from number.0 (Took from (Spelled (Rtm number tag confirm opt form))) ≡ first_part_in form
unfolding first_part_by
own_part from number tag confirm opt form =
    ap (λ (b : Bool). cond b (first_part_in form) None) (and_from (same_life from from) (number.0 == number.0) (same_life-refl from) (eq-eqb number.0 number.0 refl))

-- no bytes of a message came that was not heard of
none_came : (own : Own) (before : List Deed) (from : Life) (n place : ℕ) → is_heard before from n ≡ false → byte_came own before from n place ≡ None
unfolding is_heard
none_came own before from n place unheard =
    (elim (carried_pieces own.limits.first (told own before).head before from n) as (λ ps. carried_pieces own.limits.first (told own before).head before from n ≡ ps → byte_at ps place ≡ None) [
      | [] ↦ λ is. no_pieces place
      | x ∷ xs ↦ λ is.
          let h = carried_heard own.limits.first (told own before).head before from n x (subst (λ (ps : List Piece). Member x ps) (sym is) (inl refl)) in
          let wrong : true ≡ false = sym h ∙ unheard in
          cc
    ])
    refl

-- nor a first part
no_part : (before : List Deed) (from : Life) (n : ℕ) → is_heard before from n ≡ false → first_part_taken before from n ≡ None
unfolding first_part_taken is_heard heard_head or_else
no_part [] from n unheard = refl
no_part (d ∷ before) from n unheard = (let p = none_parts (heard_head before from n) (head_by from n d) unheard in
    ap (λ (o : Option ℕ). or_else o (first_part_by from n d)) (no_part before from n p.0) ∙ part_told d from n p.1)

-- the new message is as far as its packet brings it
pub new_so_far : (own : Own) (from : Life) (number : MsgNo) (tag : Option ℕ) (confirm : Bool) (opt : Opt) (form : Form) (before : List Deed) → is_heard before from number.0 ≡ false
    → so_far own (Took from (Spelled (Rtm number tag confirm opt form)) ∷ before) from number.0 ≡ opened_by (head_of tag confirm opt form) form
unfolding first_part first_part_taken
new_so_far own from number tag confirm opt form before unheard =
    let d : Deed = Took from (Spelled (Rtm number tag confirm opt form)) in
    let came : (λ place. byte_came own (d ∷ before) from number.0 place) ≡ byte_by (piece_of form) =
    fun_ext (λ place. came_after own d before from number.0 place ∙ ap (λ (o : Option ℕ). or_else o (byte_by (carried_by (own_pairs own before) from number.0 d) place)) (none_came own before from number.0 place unheard)
    ∙ ap (λ (o : Option Piece). or_else None (byte_by o place)) (own_bytes (own_pairs own before) from number tag confirm opt form) ∙ none_first (byte_by (piece_of form) place)) in
    let part : first_part (d ∷ before) from number.0 ≡ unwrap_or (first_part_in form) 0 =
    ap (λ (o : Option ℕ). unwrap_or (or_else o (first_part_by from number.0 d)) 0) (no_part before from number.0 unheard)
    ∙ ap (λ (o : Option ℕ). unwrap_or (or_else None o) 0) (own_part from number tag confirm opt form) ∙ ap (λ (o : Option ℕ). unwrap_or o 0) (none_first (first_part_in form)) in
    ap (λ (h : Head). message_by h (λ place. byte_came own (d ∷ before) from number.0 place) (first_part (d ∷ before) from number.0)) (head_new own from number tag confirm opt form before unheard)
    ∙ ap (λ (f : ℕ → Option ℕ). message_by (head_of tag confirm opt form) f (first_part (d ∷ before) from number.0)) came
    ∙ ap (λ (k : ℕ). message_by (head_of tag confirm opt form) (byte_by (piece_of form)) k) part

-- it is early, as its packet says
pub new_early : (own : Own) (from : Life) (number : MsgNo) (tag : Option ℕ) (confirm : Bool) (opt : Opt) (form : Form) (before : List Deed) → is_heard before from number.0 ≡ false
    → is_matched (own_pairs own (Took from (Spelled (Rtm number tag confirm opt form)) ∷ before)) (named from number.0) ≡ false
    → early_message own (Took from (Spelled (Rtm number tag confirm opt form)) ∷ before) from number.0 ≡ Some (opened_by (head_of tag confirm opt form) form)
new_early own from number tag confirm opt form before unheard unmatched =
    let d : Deed = Took from (Spelled (Rtm number tag confirm opt form)) in
    let heard : is_heard (d ∷ before) from number.0 ≡ true =
    heard_by_packet from number tag confirm opt form before number.0 ∙ ap (λ (b : Bool). b || number.0 == number.0) unheard ∙ eq-eqb number.0 number.0 refl in
    early_where own (d ∷ before) from number.0 heard unmatched ∙ ap Some (new_so_far own from number tag confirm opt form before unheard)

-- more of an early message came
pub more_early : (own : Own) (from : Life) (number : MsgNo) (tag : Option ℕ) (confirm : Bool) (opt : Opt) (form : Form) (before : List Deed) → is_heard before from number.0 ≡ true → first_part_in form ≡ None
    → is_matched (own_pairs own (Took from (Spelled (Rtm number tag confirm opt form)) ∷ before)) (named from number.0) ≡ is_matched (own_pairs own before) (named from number.0)
    → early_message own (Took from (Spelled (Rtm number tag confirm opt form)) ∷ before) from number.0 ≡ option_map (with_more (piece_of form)) (early_message own before from number.0)
unfolding first_part first_part_taken
more_early own from number tag confirm opt form before heard no_part' same =
    let d : Deed = Took from (Spelled (Rtm number tag confirm opt form)) in
    let heard' : is_heard (d ∷ before) from number.0 ≡ is_heard before from number.0 =
    heard_by_packet from number tag confirm opt form before number.0 ∙ ap (λ (b : Bool). b || number.0 == number.0) heard ∙ sym heard in
    let came : (λ place. byte_came own (d ∷ before) from number.0 place) ≡ (λ place. or_else (byte_came own before from number.0 place) (byte_by (piece_of form) place)) =
    fun_ext (λ place. came_after own d before from number.0 place
    ∙ ap (λ (o : Option Piece). or_else (byte_came own before from number.0 place) (byte_by o place)) (own_bytes (own_pairs own before) from number tag confirm opt form)) in
    let part : first_part (d ∷ before) from number.0 ≡ first_part before from number.0 =
    ap (λ (o : Option ℕ). unwrap_or (or_else (first_part_taken before from number.0) o) 0) (own_part from number tag confirm opt form ∙ no_part') ∙ ap (λ (o : Option ℕ). unwrap_or o 0) (or_else-none (first_part_taken before from number.0)) in
    early_is_made own (d ∷ before) from number.0
    ∙ ap (λ (b : Bool). early_made b (is_matched (own_pairs own (d ∷ before)) (named from number.0)) ((told own (d ∷ before)).head from number.0) (λ place. byte_came own (d ∷ before) from number.0 place) (first_part (d ∷ before) from number.0)) heard'
    ∙ ap (λ (b : Bool). early_made (is_heard before from number.0) b ((told own (d ∷ before)).head from number.0) (λ place. byte_came own (d ∷ before) from number.0 place) (first_part (d ∷ before) from number.0)) same
    ∙ ap (λ (h : Head). early_made (is_heard before from number.0) (is_matched (own_pairs own before) (named from number.0)) h (λ place. byte_came own (d ∷ before) from number.0 place) (first_part (d ∷ before) from number.0)) (head_later own d before from number.0 heard)
    ∙ ap (λ (f : ℕ → Option ℕ). early_made (is_heard before from number.0) (is_matched (own_pairs own before) (named from number.0)) ((told own before).head from number.0) f (first_part (d ∷ before) from number.0)) came
    ∙ ap (λ (k : ℕ). early_made (is_heard before from number.0) (is_matched (own_pairs own before) (named from number.0)) ((told own before).head from number.0) (λ place. or_else (byte_came own before from number.0 place) (byte_by (piece_of form) place)) k) part
    ∙ more_made (is_heard before from number.0 && not (is_matched (own_pairs own before) (named from number.0))) ((told own before).head from number.0) (λ place. byte_came own before from number.0 place) (first_part before from number.0) (piece_of form)
    ∙ ap (option_map (with_more (piece_of form))) (sym (early_is_made own before from number.0))
