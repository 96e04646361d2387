-- At a settled end a message that is neither granted nor read was pushed whole.
use Rattle.std.proofs.Common.{◌≡◌, ℕ, zero, suc, ◌+◌, ◌<◌, ◌≤◌, Bool, true, false, cond, ◌||◌, List, [], ◌∷◌, ◌++◌, length, Option, Some, None, refl, arith, ◌⊎◌, inl, inr, sym, ◌∙◌, ap, subst}
use Rattle.std.specs.Prelude.{slice_get}
use Rattle.std.proofs.lemmas.Bool.{or_cases, or_right}
use Rattle.std.proofs.lemmas.List.{length-append, append-nil}
use Rattle.std.specs.List.{list_any}
use Rattle.rdm_lists.specs.Lists.{Member, or_else}
use Rattle.rdm_num.specs.Pieces.{piece_bytes}
use Rattle.rdm_pkt.specs.declared.Packet.{Packet}
use Rattle.rdm_pkt.specs.declared.Kind.{Kind}
use Rattle.rdm_pkt.specs.declared.Kind.TheVariants.{Eager, Medium, LongCts, LongRead, Runt}
use Rattle.rdm_pkt.specs.Openings.{openings}
use Rattle.rdm_model.specs.Deeds.{Deed}
use Rattle.rdm_model.specs.Beginnings.{Own, Messages}
use Rattle.rdm_model.specs.Currents.{is_forgotten}
use Rattle.rdm_model.specs.Sends.{Sent, sends}
use Rattle.rdm_model.specs.Dues.{pieces_in, next_packet, is_read, is_pushed, is_over, ends_send}
use Rattle.rdm_model.proofs.Cuts.{InRow, piece_bytes-append}
use Rattle.rdm_model.proofs.Rows.{row_covers, row_covered}
use Rattle.rdm_model.proofs.Opens.{pieces_in-append, opened_bytes, openings_bytes}
use Rattle.rdm_model.specs.Local.{heard_by}
use Rattle.rdm_model.proofs.Dues.{Underway}
use Rattle.rdm_law.proofs.Lives.Lives.{LifeLocal}
use Rattle.rdm_law.proofs.Ends.Overs.{over_by, over_from}
use Rattle.rdm_law.proofs.Ends.Receipts.{confirmed_pushed}
use Rattle.rdm_model.proofs.Pushes.{pushed_of, underway}
use Rattle.rdm_model.proofs.Served.{done_bytes}

-- where neither is there
pub none_left : {A : Type 0} (x y : Option A) → or_else x y ≡ None → (x ≡ None) × (y ≡ None)
unfolding or_else
none_left None y h = (refl, h)
none_left (Some a) y h = cc

-- no element past the end
pub get_none : {A : Type 0} (xs : List A) (k : ℕ) → slice_get xs k ≡ None → length xs ≤ k
get_none [] k h = omega arith
get_none (x ∷ xs) zero h = cc
get_none (x ∷ xs) (suc k) h = let e = get_none xs k h in omega arith

-- nothing is left where as many were pushed
no_more : (ops pushed later : List Packet) → ops ≡ pushed ++ later → length ops ≤ length pushed → ops ≡ pushed
no_more ops pushed [] e h = e ∙ append-nil pushed
no_more ops pushed (p ∷ ps) e h = let l = ap length e in let m = length-append pushed (p ∷ ps) in absurd (omega arith)

-- all openings of a send that has nothing next were pushed
pub all_opened : (own : Own) (log : List Deed) (s : Sent) (pushed : List Packet) → Underway own s pushed → next_packet own log s pushed ≡ None
    → (datas : List Packet) × (pushed ≡ openings own.limits s.message s.kind ++ datas)
unfolding next_packet
all_opened own log s pushed u h =
    let le = get_none (openings own.limits s.message s.kind) (length pushed) (none_left _ _ h).0 in
    elim u.how [
      | inl a ↦ ([], sym (no_more (openings own.limits s.message s.kind) pushed a.0 a.1 le) ∙ sym (append-nil (openings own.limits s.message s.kind)))
      | inr a ↦ (a.0, a.1)
    ]

-- so their bytes were
pub opened_done : (own : Own) (log : List Deed) (s : Sent) (pushed : List Packet) → Underway own s pushed → next_packet own log s pushed ≡ None
    → opened_bytes own.limits s.message s.kind ≤ piece_bytes (pieces_in pushed)
opened_done own log s pushed u h =
    let a = all_opened own log s pushed u h in
    let e : piece_bytes (pieces_in pushed) ≡ piece_bytes (pieces_in (openings own.limits s.message s.kind)) + piece_bytes (pieces_in a.0) =
    ap (λ (xs : List Packet). piece_bytes (pieces_in xs)) a.1 ∙ ap piece_bytes (pieces_in-append (openings own.limits s.message s.kind) a.0) ∙ piece_bytes-append (pieces_in (openings own.limits s.message s.kind)) (pieces_in a.0) in
    let o = openings_bytes own.limits s.message s.kind in
    omega arith

-- a message that goes in one packet or in segments
abbrev pub IsAtOnce : Kind → Type 0
IsAtOnce Eager = Unit {0}
IsAtOnce Medium = Unit {0}
IsAtOnce LongCts = ⊥
IsAtOnce LongRead = ⊥
IsAtOnce (Runt runt) = ⊥

-- the openings have all of a message that goes at once
at_once_bytes : (own : Own) (s : Sent) (kind : Kind) → IsAtOnce kind → opened_bytes own.limits s.message kind ≡ length s.message.bytes
unfolding opened_bytes
at_once_bytes own s Eager h = refl
at_once_bytes own s Medium h = refl
at_once_bytes own s LongCts h = elim h [ ]
at_once_bytes own s LongRead h = elim h [ ]
at_once_bytes own s (Runt runt) h = elim h [ ]

-- it is not read
at_once_unread : (kind : Kind) → IsAtOnce kind → is_read kind ≡ false
unfolding is_read
at_once_unread Eager h = refl
at_once_unread Medium h = refl
at_once_unread LongCts h = elim h [ ]
at_once_unread LongRead h = elim h [ ]
at_once_unread (Runt runt) h = elim h [ ]

-- a pushed message was pushed to its end
pushed_row : (s : Sent) (ps : List Packet) → InRow s.message.bytes 0 (pieces_in ps) → is_pushed s ps ≡ true → length s.message.bytes ≤ piece_bytes (pieces_in ps)
unfolding is_pushed
pushed_row s [] r h = cc
pushed_row s (p ∷ ps) r h = row_covered s.message.bytes (pieces_in (p ∷ ps)) (length s.message.bytes) r h

-- a send that is over and not read, of a life that was not forgotten, was pushed whole
pub over_whole : (own : Own) (log : List Deed) (s : Sent) → LifeLocal own log → Member s (sends own (heard_by own.limits.first log) log) → is_forgotten log s.to ≡ false → is_read s.kind ≡ false
    → is_over log (pushed_of own (heard_by own.limits.first log) log s.number) s ≡ true → length s.message.bytes ≤ done_bytes own (heard_by own.limits.first log) log s.number
over_whole own log s l m f r h =
    let ms = heard_by own.limits.first log in
    let pushed = pushed_of own ms log s.number in
    let u = underway own ms log s m in
    elim (over_by log pushed s h f) [
      | inl a ↦ (let x = a.0 in absurd (cc))
      | inr a ↦ elim a [
        | inl b ↦ pushed_row s pushed u.row (confirmed_pushed own log s l m b.2)
        | inr b ↦ pushed_row s pushed u.row b.2
      ]
    ]

-- a message that goes at once was pushed whole, where its send is at rest
pub at_once_done : (own : Own) (log : List Deed) (s : Sent) → LifeLocal own log → Member s (sends own (heard_by own.limits.first log) log) → is_forgotten log s.to ≡ false → IsAtOnce s.kind
    → (is_over log (pushed_of own (heard_by own.limits.first log) log s.number) s ≡ true) ⊎ (next_packet own log s (pushed_of own (heard_by own.limits.first log) log s.number) ≡ None)
    → length s.message.bytes ≤ done_bytes own (heard_by own.limits.first log) log s.number
at_once_done own log s l m f k (inl over) = over_whole own log s l m f (at_once_unread s.kind k) over
at_once_done own log s l m f k (inr none) =
    let ms = heard_by own.limits.first log in
    let d = opened_done own log s (pushed_of own ms log s.number) (underway own ms log s m) none in
    let e = at_once_bytes own s s.kind k in
    omega arith

-- what was pushed to its end is pushed
pushed_from : (s : Sent) (ps : List Packet) → InRow s.message.bytes 0 (pieces_in ps) → 0 < length ps → length s.message.bytes ≤ piece_bytes (pieces_in ps) → is_pushed s ps ≡ true
unfolding is_pushed
pushed_from s [] r some h = absurd (omega arith)
pushed_from s (p ∷ ps) r some h = row_covers s.message.bytes (pieces_in (p ∷ ps)) (length s.message.bytes) r h

-- a send that is neither read nor confirmed, of which the whole message was pushed, is over
pub whole_over : (own : Own) (ms : Messages) (log : List Deed) (s : Sent) → Member s (sends own ms log) → is_read s.kind ≡ false → s.message.confirm ≡ false
    → 0 < length (pushed_of own ms log s.number) → length s.message.bytes ≤ done_bytes own ms log s.number → is_over log (pushed_of own ms log s.number) s ≡ true
whole_over own ms log s m r c some le =
    over_from log (pushed_of own ms log s.number) s (inr (inr (r, c, pushed_from s (pushed_of own ms log s.number) (underway own ms log s m).row some le)))
