-- Notes that are queued one by one.
use Rattle.std.proofs.Common.{◌≡◌, ℕ, suc, Bool, true, false, cond, not, List, [], ◌∷◌, ◌++◌, map, refl, ◌∙◌, ap}
use Rattle.std.specs.Prelude.{filter, ◌==◌}
use Rattle.std.proofs.lemmas.List.{map-append, append-nil}
use Rattle.std.proofs.lemmas.List.Elements.{filter-append}
use Rattle.rdm_lists.specs.Lists.{below}
use Rattle.rdm_num.specs.declared.numbers.Connid.{Connid}
use Rattle.rdm_wire.specs.declared.NoteBody.TheVariants.{Opened}
use Rattle.rdm_model.specs.declared.job.Instr.TheVariants.{OpenLife}
use Rattle.rdm_model.specs.Deeds.{Did}
use Rattle.rdm_model.specs.Notes.{note_to, notes_by}
use Rattle.rdm_port.specs.declared.kept.QueuedNote.{QueuedNote}
use Rattle.rdm_port.specs.Kept.{queued_of}

-- the notes of an open to the ports below a number
unfoldable pub opened_below : (number : ℕ) → Connid → ℕ → List QueuedNote
opened_below number connid n = map queued_of (map (note_to (Opened connid)) (filter (λ p. not (p == number)) (below n)))

pub opened_none : (number : ℕ) (connid : Connid) → opened_below number connid 0 ≡ []
unfolding opened_below below
opened_none number connid = refl

pub opened_all : (number ports : ℕ) (connid : Connid) → opened_below number connid ports ≡ map queued_of (notes_by ports number (Did (OpenLife connid)))
unfolding opened_below notes_by
opened_all number ports connid = refl

-- the numbers that pass, with one more
filter_more : (p : ℕ → Bool) (n : ℕ) (b : Bool) → p n ≡ b → filter p (below (suc n)) ≡ filter p (below n) ++ cond b (n ∷ []) []
unfolding below
filter_more p n true e = filter-append p (below n) (n ∷ []) ∙ ap (λ (ns : List ℕ). filter p (below n) ++ ns) (rw e refl)
filter_more p n false e = filter-append p (below n) (n ∷ []) ∙ ap (λ (ns : List ℕ). filter p (below n) ++ ns) (rw e refl)

-- the note to a port
abbrev pub opened_note : Connid → ℕ → QueuedNote
opened_note connid n = record { to = record { 0 = n }; body = Opened connid }

-- the notes with one more
with_more : (connid : Connid) (ns : List ℕ) (n : ℕ) → map queued_of (map (note_to (Opened connid)) (ns ++ n ∷ [])) ≡ map queued_of (map (note_to (Opened connid)) ns) ++ opened_note connid n ∷ []
with_more connid ns n =
    ap (map queued_of) (map-append (note_to (Opened connid)) ns (n ∷ [])) ∙ map-append queued_of (map (note_to (Opened connid)) ns) (note_to (Opened connid) n ∷ [])

-- the notes to one port more
pub opened_more : (number n : ℕ) (connid : Connid) → (n == number) ≡ false → opened_below number connid (suc n) ≡ opened_below number connid n ++ opened_note connid n ∷ []
unfolding opened_below
opened_more number n connid e =
    ap (λ (ns : List ℕ). map queued_of (map (note_to (Opened connid)) ns)) (filter_more (λ p. not (p == number)) n true (rw e refl)) ∙ with_more connid (filter (λ p. not (p == number)) (below n)) n

-- none goes to the port itself
pub opened_skips : (number n : ℕ) (connid : Connid) → (n == number) ≡ true → opened_below number connid (suc n) ≡ opened_below number connid n
unfolding opened_below
opened_skips number n connid e =
    ap (λ (ns : List ℕ). map queued_of (map (note_to (Opened connid)) ns)) (filter_more (λ p. not (p == number)) n false (rw e refl) ∙ append-nil (filter (λ p. not (p == number)) (below n)))
