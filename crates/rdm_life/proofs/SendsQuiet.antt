-- Deeds that touch no send: what is kept of the sends stays.
use Rattle.std.proofs.Common.{◌≡◌, ℕ, ◌+◌, Bool, true, false, cond, not, List, [], ◌∷◌, ◌++◌, map, Option, Some, None, refl, arith, sym, ◌∙◌, ap}
use Rattle.std.specs.Prelude.{◌||◌, filter, is_some}
use Rattle.std.specs.List.{list_any}
use Rattle.std.proofs.lemmas.Bool.{not-true}
use Rattle.std.proofs.lemmas.List.{append-nil}
use Rattle.rdm_lists.specs.Lists.{Member}
use Rattle.rdm_lists.proofs.Filters.{filter_all}
use Rattle.rdm_lists.proofs.Same.{map_same}
use Rattle.rdm_num.specs.Lives.{same_life}
use Rattle.rdm_num.specs.Pieces.{Piece}
use Rattle.rdm_num.specs.declared.numbers.Life.{Life}
use Rattle.rdm_num.specs.declared.head.Head.{Head}
use Rattle.rdm_pkt.specs.declared.Form.{Form}
use Rattle.rdm_pkt.specs.declared.Packet.TheVariants.{Rtm, Cts, CtsData, Eor, Handshake, Receipt}
use Rattle.rdm_pkt.specs.Heads.{head_of, piece_of}
use Rattle.rdm_model.specs.declared.job.Instr.{Instr}
use Rattle.rdm_model.specs.declared.job.Instr.TheVariants.{Insert, Send, Recv, Cancel, Reg}
use Rattle.rdm_model.specs.Beginnings.{Own}
use Rattle.rdm_model.specs.Currents.{forgotten_by}
use Rattle.rdm_model.specs.Deeds.{Deed, Did, Pushed, Took, Item, Spelled, Asks, Gives}
use Rattle.rdm_model.specs.Dues.{ends_send, confirms, is_read}
use Rattle.rdm_model.specs.Grants.{grants_by}
use Rattle.rdm_model.specs.Reads.{asked_by}
use Rattle.rdm_model.specs.Replies.{Reply, given_by, without_lives, without_forgotten}
use Rattle.rdm_model.specs.Sends.{Sent, sent_by}
use Rattle.rdm_law.proofs.Ends.LiveSends.{live_parts}
use Rattle.rdm_law.proofs.Replies.Queue.{popped}
use Rattle.rdm_life.specs.Handling.{after, after_instr, after_item, after_rtm, add, land_found, opened_by, receive_of, with_more}
use Rattle.rdm_life.specs.Kept.{Kept, LiveReceive}
use Rattle.rdm_life.specs.Keeps.{told, own_sends, own_progress, kept_send, KeepsSends}
use Rattle.rdm_life.specs.Landing.{meet, settle, land}
use Rattle.rdm_life.specs.Lives.{greet, with_source}
use Rattle.rdm_life.specs.Receiving.{after_recv, after_cancel, enter, hear, with_early}
use Rattle.rdm_life.proofs.OwnSends.{own_live, own_over, new_sends, live_step}
use Rattle.rdm_life.proofs.SendLists.{none_either}
use Rattle.rdm_life.proofs.SendWords.{answer_count, kept_still, none_forgotten, ends_by, over_now}

-- a deed that neither makes, pushes, grants, asks nor ends a send, and forgets no life
abbrev pub IsQuiet : Deed → Type 0
IsQuiet (Did (Insert life)) = ⊥
IsQuiet (Did (Send req)) = ⊥
IsQuiet Pushed = ⊥
IsQuiet (Took from (Spelled (Cts send recv size connid))) = ⊥
IsQuiet (Took from (Spelled (Eor send recv connid))) = ⊥
IsQuiet (Took from (Spelled (Receipt number connid))) = ⊥
IsQuiet (Took from (Asks ask)) = ⊥
IsQuiet _ = Unit {0}

-- it pushes nothing
quiet_push : (d : Deed) → IsQuiet d → d ≡ Pushed → ⊥
quiet_push Pushed q e = q
quiet_push _ q e = cc

-- it takes nothing from what is owed
quiet_popped : (d : Deed) (rs : List Reply) → IsQuiet d → popped d rs ≡ rs
unfolding popped
quiet_popped Pushed rs q = elim q [ ]
quiet_popped _ rs q = refl

-- it makes no send
quiet_sent : (own : Own) (d : Deed) (log : List Deed) → IsQuiet d → new_sends own log d ≡ []
unfolding sent_by
quiet_sent own (Did (Send req)) log q = elim q [ ]
quiet_sent own _ log q = refl

-- it grants nothing
quiet_grants : (to : Life) (n : ℕ) (d : Deed) → IsQuiet d → grants_by to n d ≡ []
unfolding grants_by
quiet_grants to n (Took from (Spelled (Cts send recv size connid))) q = elim q [ ]
quiet_grants to n _ q = refl

-- it asks for nothing
quiet_asks : (to : Life) (n : ℕ) (d : Deed) → IsQuiet d → asked_by to n d ≡ []
unfolding asked_by
quiet_asks to n (Took from (Asks ask)) q = elim q [ ]
quiet_asks to n _ q = refl

-- nothing is given for it
quiet_given : (sents : List Sent) (d : Deed) → IsQuiet d → given_by sents d ≡ []
unfolding given_by
quiet_given sents (Took from (Asks ask)) q = elim q [ ]
quiet_given sents _ q = refl

-- it forgets no life
quiet_forgets : (log : List Deed) (d : Deed) → IsQuiet d → forgotten_by log d ≡ []
unfolding forgotten_by
quiet_forgets log (Did (Insert life)) q = elim q [ ]
quiet_forgets log _ q = refl

-- it takes no end
quiet_ends : (to : Life) (n : ℕ) (d : Deed) → IsQuiet d → ends_send to n d ≡ false
unfolding ends_send
quiet_ends to n (Took from (Spelled (Eor send recv connid))) q = elim q [ ]
quiet_ends to n _ q = refl

-- and no receipt
quiet_confirms : (to : Life) (n : ℕ) (d : Deed) → IsQuiet d → confirms to n d ≡ false
unfolding confirms
quiet_confirms to n (Took from (Spelled (Receipt number connid))) q = elim q [ ]
quiet_confirms to n _ q = refl

-- where a deed forgets no life and pushes nothing, what is owed stays
pub owed_still : (log : List Deed) (d : Deed) (rs : List Reply) → forgotten_by log d ≡ [] → popped d rs ≡ rs → without_forgotten log d (popped d rs) ≡ rs
unfolding without_forgotten
owed_still log d rs none same = ap (λ (ls : List Life). without_lives ls (popped d rs)) none ∙ none_forgotten (popped d rs) ∙ same

-- no answer is in an empty list
pub count_nothing : (s : Sent) (gs : List Reply) (n : ℕ) → gs ≡ [] → n + answer_count s gs ≡ n
unfolding answer_count
count_nothing s gs n e = ap (λ (x : List Reply). n + answer_count s x) e ∙ omega arith

-- a send is kept as it was
quiet_kept : (own : Own) (d : Deed) (log : List Deed) (s : Sent) → IsQuiet d → kept_send own (d ∷ log) s ≡ kept_send own log s
quiet_kept own d log s q =
    let rs = (own_progress own log).replies in
    let n = answer_count s (without_forgotten log d (popped d rs)) in
    kept_still own d log s (quiet_push d q) (quiet_grants s.to s.number d q) (quiet_asks s.to s.number d q)
    (count_nothing s (given_by (own_sends own log) d) n (quiet_given (own_sends own log) d q)
    ∙ ap (answer_count s) (owed_still log d rs (quiet_forgets log d q) (quiet_popped d rs q)))

-- a live send was not over
pub live_was : (own : Own) (log : List Deed) (s : Sent) → Member s (own_live own log) → own_over own log s ≡ false
live_was own log s m = not-true (own_over own log s) (live_parts own (told own log) log s m).1

-- it is not over after such a deed
quiet_over : (own : Own) (d : Deed) (log : List Deed) (s : Sent) → IsQuiet d → Member s (own_live own log) → own_over own (d ∷ log) s ≡ false
unfolding ends_by
quiet_over own d log s q m =
    over_now own d log s (quiet_push d q) (live_was own log s m)
    ∙ ap (λ (ls : List Life). list_any (same_life s.to) ls || cond (is_read s.kind) (ends_send s.to s.number d) (cond s.message.confirm (confirms s.to s.message.no.0 d) false)) (quiet_forgets log d q)
    ∙ ap (λ (b : Bool). cond (is_read s.kind) b (cond s.message.confirm (confirms s.to s.message.no.0 d) false)) (quiet_ends s.to s.number d q)
    ∙ ap (λ (b : Bool). cond (is_read s.kind) false (cond s.message.confirm b false)) (quiet_confirms s.to s.message.no.0 d q)
    ∙ none_either (is_read s.kind) s.message.confirm

-- where a deed makes no send, those that are live were so before
pub live_left : (own : Own) (d : Deed) (log : List Deed) → new_sends own log d ≡ [] → own_live own (d ∷ log) ≡ filter (λ (s : Sent). not (own_over own (d ∷ log) s)) (own_live own log)
live_left own d log none =
    live_step own d log
    ∙ ap (filter (λ (s : Sent). not (own_over own (d ∷ log) s))) (ap (λ (xs : List Sent). own_live own log ++ xs) none ∙ append-nil (own_live own log))

-- and where it ends none, they are the same
pub live_same : (own : Own) (d : Deed) (log : List Deed) → new_sends own log d ≡ [] → ((s : Sent) → Member s (own_live own log) → own_over own (d ∷ log) s ≡ false)
    → own_live own (d ∷ log) ≡ own_live own log
live_same own d log none h =
    live_left own d log none ∙ filter_all (λ (s : Sent). not (own_over own (d ∷ log) s)) (own_live own log) (λ s m. ap not (h s m))

-- ---- what the record keeps

-- a piece that lands changes no send
found_left : (r : Option LiveReceive) (p : Option Piece) (v : Kept) → (land_found r p v).sends ≡ v.sends
unfolding land_found land settle
found_left (Some r) (Some p) v = refl
found_left _ _ v = refl

-- more of a message changes none
add_left : (source : Life) (number : ℕ) (p : Option Piece) (v : Kept) → (add source number p v).sends ≡ v.sends
unfolding add with_early
add_left source number p v =
    elim (is_some (v.early source number)) as (λ b. (cond b (with_early source number (with_more p) v) (land_found (receive_of v source number) p v)).sends ≡ v.sends) [
      | true ↦ refl
      | false ↦ found_left (receive_of v source number) p v
    ]

-- a packet that opens a message changes none
rtm_left : (source : Life) (number : ℕ) (head : Head) (form : Form) (v : Kept) → (after_rtm source number head form v).sends ≡ v.sends
unfolding after_rtm enter hear meet settle
rtm_left source number head form v =
    elim ((v.peers source).heard number) as (λ b. (cond b (add source number (piece_of form) v) (enter source (hear source number (opened_by head form) v))).sends ≡ v.sends) [
      | true ↦ add_left source number (piece_of form) v
      | false ↦ refl
    ]

-- what is taken changes none, but for grants, asks, ends and receipts
item_left : (from : Life) (item : Item) (v : Kept) → IsQuiet (Took from item) → (after_item from item v).sends ≡ v.sends
unfolding after_item land settle
item_left from (Spelled (Rtm number tag confirm opt form)) v q = rtm_left from number.0 (head_of tag confirm opt form) form v
item_left from (Spelled (Cts send recv size connid)) v q = elim q [ ]
item_left from (Spelled (CtsData recv offset connid bytes)) v q = refl
item_left from (Spelled (Eor send recv connid)) v q = elim q [ ]
item_left from (Spelled (Handshake words connid raw)) v q = refl
item_left from (Spelled (Receipt number connid)) v q = elim q [ ]
item_left from (Asks ask) v q = elim q [ ]
item_left from (Gives g) v q = refl
item_left from _ v q = refl

-- an instruction that did changes none, but for inserts and sends
instr_left : (instr : Instr) (v : Kept) → IsQuiet (Did instr) → (after_instr instr v).sends ≡ v.sends
unfolding after_instr after_recv after_cancel meet settle
instr_left (Insert life) v q = elim q [ ]
instr_left (Send req) v q = elim q [ ]
instr_left (Recv req) v q = refl
instr_left (Cancel recv) v q = refl
instr_left (Reg content) v q = refl
instr_left _ v q = refl

-- such a deed changes none
quiet_left : (d : Deed) (v : Kept) → IsQuiet d → (after d v).sends ≡ v.sends
unfolding after greet with_source
quiet_left (Did instr) v q = instr_left instr v q
quiet_left (Took from item) v q = item_left from item (greet true from None (with_source from v)) q
quiet_left Pushed v q = elim q [ ]
quiet_left _ v q = refl

-- after a deed that touches no send
pub quiet_sends : (own : Own) (d : Deed) (log : List Deed) (v : Kept) → IsQuiet d → KeepsSends own log v → KeepsSends own (d ∷ log) (after d v)
quiet_sends own d log v q k =
    record {
      sends_are =
          quiet_left d v q ∙ k.sends_are
          ∙ map_same (kept_send own log) (kept_send own (d ∷ log)) (own_live own log) (λ s m. sym (quiet_kept own d log s q))
          ∙ ap (map (kept_send own (d ∷ log))) (sym (live_same own d log (quiet_sent own d log q) (λ s m. quiet_over own d log s q m)));
    }
