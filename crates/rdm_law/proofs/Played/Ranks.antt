-- In a fair job all that goes out goes to a rank.
use Rattle.std.proofs.Common.{◌≡◌, ℕ, ◌<◌, not, ltb-true, List, [], ◌∷◌, length, Option, Some, inl, inr, sym, subst}
use Rattle.std.specs.Prelude.{filter, ◌==◌}
use Rattle.std.proofs.lemmas.Bool.{and_parts}
use Rattle.rdm_lists.specs.Lists.{Member, below}
use Rattle.rdm_num.specs.declared.numbers.Life.{Life}
use Rattle.rdm_num.specs.declared.numbers.PortNo.{PortNo}
use Rattle.rdm_num.specs.declared.request.SendReq.{SendReq}
use Rattle.rdm_wire.specs.declared.NoteBody.TheVariants.{Opened}
use Rattle.rdm_match.specs.Matcher.{Pair}
use Rattle.rdm_model.specs.declared.job.Instr.TheVariants.{OpenLife, Insert, Note}
use Rattle.rdm_model.specs.Deeds.{Deed, Did, Took, Item, Asks}
use Rattle.rdm_model.specs.Beginnings.{Own, Messages, Heads}
use Rattle.rdm_model.specs.Currents.{inserted_by, last_inserted, seen_by, first_seen, current}
use Rattle.rdm_model.specs.Notes.{OwedNote, note_to, notes_by, notes, next_note}
use Rattle.rdm_model.specs.Matches.{pairs}
use Rattle.rdm_model.specs.Sends.{Sent, sends_to, new_sent, bytes_of, sends, known_word}
use Rattle.rdm_model.specs.Regions.{regions}
use Rattle.rdm_model.specs.Replies.{Reply}
use Rattle.rdm_model.specs.Dues.{Due, Replies, Sends, progress, due}
use Rattle.rdm_model.specs.Going.{Goes, due_going}
use Rattle.rdm_model.specs.Jobs.{instr_fits, is_rank}
use Rattle.rdm_model.proofs.Matches.{pair_heard}
use Rattle.rdm_model.proofs.Numbers.{sends_keep}
use Rattle.rdm_model.proofs.Dues.{due_cases}
use Rattle.rdm_law.proofs.Replies.Owed.{MetBy, NewReply, OwedIn, owed_in}
use Rattle.rdm_law.proofs.Replies.Queue.{owed}
use Rattle.rdm_law.proofs.Replies.Answered.{waits_owed}
use Rattle.rdm_law.proofs.Accounts.Known.{heard_taken}
use Rattle.rdm_law.proofs.Fits.RegionsFit.{DidFits, AllDidFit}
use Rattle.rdm_law.proofs.Fits.DuesFit.{reply_no_send}
use Rattle.rdm_lists.proofs.Members.{member-append_cases, member-filter, member-map}
use Rattle.rdm_lists.proofs.Options.{or_else_cases, then_some_parts}
use Rattle.rdm_lists.proofs.Places.{slice_get-member}
use Rattle.rdm_lists.proofs.Below.{member_below}

-- each life that a deed inserts or takes a datagram of is of a kind
abbrev pub LifeIs : (Life → Type 0) → Deed → Type 0
LifeIs P (Did (Insert life)) = P life
LifeIs P (Took from item) = P from
LifeIs P _ = Unit {0}

-- so of all deeds
abbrev pub LivesAre : (Life → Type 0) → List Deed → Type 0
LivesAre P [] = Unit {0}
LivesAre P (d ∷ before) = LivesAre P before × LifeIs P d

-- what a deed inserts
inserted_is : (P : Life → Type 0) (port : ℕ) (d : Deed) (l : Life) → LifeIs P d → inserted_by port d ≡ Some l → P l
unfolding inserted_by
inserted_is P port (Did (Insert life)) l h is = subst P (then_some_parts _ life l is).1 h
inserted_is P port _ l h is = cc

-- what a deed takes from
seen_is : (P : Life → Type 0) (port : ℕ) (d : Deed) (l : Life) → LifeIs P d → seen_by port d ≡ Some l → P l
unfolding seen_by
seen_is P port (Took from item) l h is = subst P (then_some_parts _ from l is).1 h
seen_is P port _ l h is = cc

-- what was inserted last
last_inserted_is : (P : Life → Type 0) (port : ℕ) (log : List Deed) (l : Life) → LivesAre P log → last_inserted log port ≡ Some l → P l
unfolding last_inserted
last_inserted_is P port [] l h is = cc
last_inserted_is P port (d ∷ before) l h is =
    elim (or_else_cases (inserted_by port d) (last_inserted before port) l is) [
      | inl a ↦ inserted_is P port d l h.1 a
      | inr a ↦ last_inserted_is P port before l h.0 a.1
    ]

-- what was taken from first
first_seen_is : (P : Life → Type 0) (port : ℕ) (log : List Deed) (l : Life) → LivesAre P log → first_seen log port ≡ Some l → P l
unfolding first_seen
first_seen_is P port [] l h is = cc
first_seen_is P port (d ∷ before) l h is =
    elim (or_else_cases (first_seen before port) (seen_by port d) l is) [
      | inl a ↦ first_seen_is P port before l h.0 a
      | inr a ↦ seen_is P port d l h.1 a.1
    ]

-- the current life of a port is one of those
pub current_is : (P : Life → Type 0) (port : ℕ) (log : List Deed) (l : Life) → LivesAre P log → current log port ≡ Some l → P l
unfolding current
current_is P port log l h is =
    elim (or_else_cases (last_inserted log port) (first_seen log port) l is) [
      | inl a ↦ last_inserted_is P port log l h a
      | inr a ↦ first_seen_is P port log l h a.1
    ]

-- a new send goes to its life
new_to : (P : Life → Type 0) (own : Own) (before : List Deed) (count messages : ℕ) (req : SendReq) (to : Life) (bytes : List ℕ) → P to → P (new_sent own (known_word before to) count messages req to bytes).to
unfolding new_sent
new_to P own before count messages req to bytes h = h

-- each send goes to one of those
pub sends_are_to : (P : Life → Type 0) (own : Own) (ms : Messages) (log : List Deed) → LivesAre P log → (s : Sent) → Member s (sends own ms log) → P s.to
unfolding sends
sends_are_to P own ms [] h s m = elim m [ ]
sends_are_to P own ms (d ∷ before) h s m =
    sends_keep own ms d before (λ xs x. P x.to)
    (λ x old. sends_are_to P own ms before h.0 x old)
    (λ x t old n was. was)
    (λ t n.
    subst (λ (x : Sent). P x.to) (sym n.is)
    (new_to P own before (length (sends own ms before)) (length (sends_to (sends own ms before) n.to)) n.req n.to (bytes_of (regions own.limits.first ms before) n.req.parts)
    (current_is P n.req.to.0 before n.to h.0 n.current)))
    s m

-- a life that was taken from
took_is : (P : Life → Type 0) (from : Life) (item : Item) (log : List Deed) → LivesAre P log → Member (Took from item) log → P from
took_is P from item [] h m = elim m [ ]
took_is P from item (d ∷ before) h (inl is) = (let mine : LifeIs P (Took from item) = subst (LifeIs P) is h.1 in mine)
took_is P from item (d ∷ before) h (inr m) = took_is P from item before h.0 m

-- the message of a pair is of one of those
pair_is : (P : Life → Type 0) (first : ℕ) (heads : Heads) (log : List Deed) (p : Pair) → LivesAre P log → Member p (pairs first heads log) → P p.message.life
pair_is P first heads log p h m =
    let heard = pair_heard first heads log p m in
    let t = heard_taken log p.message.life p.message.no.0 heard.0 heard.1 in
    took_is P p.message.life _ log h t.took

-- a life that is met
met_is : (P : Life → Type 0) (own : Own) (d : Deed) (life : Life) (raw : Option PortNo) → LifeIs P d → MetBy own d life raw → P life
met_is P own d life raw h (inl a) = (let mine : LifeIs P (Took life a.0) = subst (LifeIs P) a.1 h in mine)
met_is P own d life raw h (inr a) = (let mine : LifeIs P (Did (Insert life)) = subst (LifeIs P) a.0 h in mine)

-- a reply that a deed makes owed
reply_is : (P : Life → Type 0) (own : Own) (ms : Messages) (d : Deed) (before : List Deed) (r : Reply) → LivesAre P (d ∷ before) → NewReply own ms.head (sends own ms before) d before r → P r.to
reply_is P own ms d before r h (inl new) = met_is P own d r.to new.raw h.1 new.how
reply_is P own ms d before r h (inr (inl new)) = subst P new.to_is (pair_is P own.limits.first ms.head (d ∷ before) new.pair h new.member)
reply_is P own ms d before r h (inr (inr (inl new))) = subst P new.to_is (pair_is P own.limits.first ms.head (d ∷ before) new.pair h new.member)
reply_is P own ms d before r h (inr (inr (inr (inl new)))) = subst P new.to_is (pair_is P own.limits.first ms.head (d ∷ before) new.pair h new.member)
reply_is P own ms d before r h (inr (inr (inr (inr (inl new))))) = subst P new.to_is (pair_is P own.limits.first ms.head (d ∷ before) new.pair h new.member)
reply_is P own ms d before r h (inr (inr (inr (inr (inr new))))) = (let mine : LifeIs P (Took r.to (Asks new.ask)) = subst (LifeIs P) new.took h.1 in mine)

-- a reply that was owed
owed_is : (P : Life → Type 0) (own : Own) (ms : Messages) (log : List Deed) (r : Reply) → LivesAre P log → OwedIn own ms r log → P r.to
owed_is P own ms [] r h i = elim i [ ]
owed_is P own ms (d ∷ before) r h (inl new) = reply_is P own ms d before r h new
owed_is P own ms (d ∷ before) r h (inr i) = owed_is P own ms before r h.0 i

-- what goes out of a life goes to one of those
pub due_is_to : (P : Life → Type 0) (own : Own) (ms : Messages) (log : List Deed) (t : Due) (to : Life) (item : Item) → LivesAre P log → due own ms log ≡ Some t
    → due_going (Some t) ≡ Some (Goes to item) → P to
unfolding due_going
due_is_to P own ms log (Replies r) to item h is goes =
    elim (due_cases own ms log (Replies r) is) [
      | inl a ↦
          let same : a.0 ≡ r = (let e = a.2 in cc) in
          let waits : Member r (progress own ms log).replies = subst (λ (x : Reply). Member x (progress own ms log).replies) same (slice_get-member (progress own ms log).replies 0 a.0 a.1) in
          let w = waits_owed own ms log r waits in
          let to_is : r.to ≡ to = cc in
          subst P to_is (owed_is P own ms log r h (owed_in own ms log r (slice_get-member (owed own ms log) w.0.place r w.3)))
      | inr a ↦ (let e = a.1.is in absurd (reply_no_send r a.1.sent a.1.packet e))
    ]
due_is_to P own ms log (Sends s p) to item h is goes =
    elim (due_cases own ms log (Sends s p) is) [
      | inl a ↦ absurd (reply_no_send a.0 s p (sym a.2))
      | inr a ↦
          let same : a.1.sent ≡ s = (let e = a.1.is in cc) in
          let to_is : s.to ≡ to = cc in
          subst P to_is (subst (λ (x : Sent). P x.to) same (sends_are_to P own ms log h a.1.sent a.1.member))
    ]

-- the notes of a deed go to ranks
note_is_to : (ports port : ℕ) (d : Deed) (n : OwedNote) → DidFits ports d → Member n (notes_by ports port d) → n.to.0 < ports
unfolding notes_by instr_fits is_rank
note_is_to ports port (Did (OpenLife connid)) n h m =
    let r = member-map (note_to (Opened connid)) n (filter (λ p. not (p == port)) (below ports)) m in
    let k = member-filter (λ p. not (p == port)) r.0 (below ports) r.1 in
    subst (λ (x : OwedNote). x.to.0 < ports) r.2 (member_below ports r.0 k.0)
note_is_to ports port (Did (Note to what)) n h (inl is) = subst (λ (x : OwedNote). x.to.0 < ports) is (ltb-true _ _ (and_parts _ _ h).0)
note_is_to ports port (Did (Note to what)) n h (inr m) = elim m [ ]
note_is_to ports port _ n h m = elim m [ ]

-- each note goes to a rank
pub notes_are_to : (ports port : ℕ) (log : List Deed) (n : OwedNote) → AllDidFit ports log → Member n (notes ports port log) → n.to.0 < ports
unfolding notes
notes_are_to ports port [] n h m = elim m [ ]
notes_are_to ports port (d ∷ before) n h m =
    elim (member-append_cases n (notes ports port before) (notes_by ports port d) m) [
      | inl k ↦ notes_are_to ports port before n h.0 k
      | inr k ↦ note_is_to ports port d n h.1 k
    ]

-- the next note goes to a rank
pub next_note_to : (ports port : ℕ) (log : List Deed) (n : OwedNote) → AllDidFit ports log → next_note ports port log ≡ Some n → n.to.0 < ports
unfolding next_note
next_note_to ports port log n h is = notes_are_to ports port log n h (slice_get-member (notes ports port log) _ n is)
