-- The next packet of a live send of the record is that of the definitions.
use Rattle.std.proofs.Common.{◌≡◌, ℕ, ◌+◌, ◌-◌, ◌≤◌, min, max, Bool, true, false, cond, not, List, [], ◌∷◌, ◌++◌, length, take, drop, Option, Some, None, refl, arith, inl, inr, sym, ◌∙◌, ap, ap₂}
use Rattle.std.specs.Prelude.{nat_lt, slice_get, is_some, option_map, filter, find}
use Rattle.std.proofs.lemmas.List.{append-nil, length-append}
use Rattle.std.proofs.lemmas.Option.{slice_get_past}
use Rattle.rdm_lists.specs.Lists.{Member, or_else}
use Rattle.rdm_lists.proofs.Places.{slice_get_seam}
use Rattle.rdm_lists.proofs.Same.{find_where}
use Rattle.rdm_num.specs.Lives.{op_id}
use Rattle.rdm_num.specs.Pieces.{piece_bytes}
use Rattle.rdm_pkt.specs.declared.Packet.{Packet}
use Rattle.rdm_pkt.specs.declared.Packet.TheVariants.{CtsData}
use Rattle.rdm_pkt.specs.declared.Kind.{Kind}
use Rattle.rdm_pkt.specs.declared.Kind.TheVariants.{Eager, Medium, LongCts, LongRead, Runt}
use Rattle.rdm_pkt.specs.Openings.{openings}
use Rattle.rdm_wire.specs.declared.ReadAsk.{ReadAsk}
use Rattle.rdm_model.specs.Beginnings.{Own}
use Rattle.rdm_model.specs.Deeds.{Deed}
use Rattle.rdm_model.specs.Dues.{Due, pieces_in, data_packet, granted_packet, next_packet, is_over, send_due, next_send, live_of, live_sends}
use Rattle.rdm_model.specs.Grants.{Grant, grants, grant_bytes, data_room}
use Rattle.rdm_model.specs.Reads.{asks_of}
use Rattle.rdm_model.specs.Sends.{Sent}
use Rattle.rdm_model.proofs.Cuts.{piece_bytes-append}
use Rattle.rdm_model.proofs.Dues.{Underway}
use Rattle.rdm_model.proofs.Opens.{pieces_in-append}
use Rattle.rdm_model.proofs.Pushes.{underway}
use Rattle.rdm_law.proofs.Lives.Lives.{LifeLocal}
use Rattle.rdm_law.proofs.Windows.Allowed.{allowed_within}
use Rattle.rdm_life.specs.Kept.{Kept, LiveSend}
use Rattle.rdm_life.specs.Keeps.{told, own_sends, own_progress, kept_send, KeepsSends}
use Rattle.rdm_life.specs.Sending.{opening_bytes, data_next, granted_next, packet_next, send_next}
use Rattle.rdm_life.proofs.OwnSends.{own_live, own_packets}
use Rattle.rdm_life.proofs.SendLists.{find-map}
use Rattle.rdm_life.proofs.SendTargets.{live_sent}
use Rattle.rdm_life.proofs.SendWords.{answer_count, kept_by, kept_is}

-- every opening of a send was pushed
pub record AllOpened (own : Own) (s : Sent) (ps : List Packet) : Type 0 where
  pub longer : length (openings own.limits s.message s.kind) ≤ length ps
  pub bytes : opening_bytes own s ≤ piece_bytes (pieces_in ps)

-- the bytes of the first packets and of the others
pub bytes_split : (ps qs : List Packet) → piece_bytes (pieces_in (ps ++ qs)) ≡ piece_bytes (pieces_in ps) + piece_bytes (pieces_in qs)
bytes_split ps qs = ap piece_bytes (pieces_in-append ps qs) ∙ piece_bytes-append (pieces_in ps) (pieces_in qs)

-- where the packets are the openings and more
pub all_opened : (own : Own) (s : Sent) (ps more : List Packet) → ps ≡ openings own.limits s.message s.kind ++ more → AllOpened own s ps
all_opened own s ps more e =
    let ops = openings own.limits s.message s.kind in
    let l = ap length e in
    let k = length-append ops more in
    let b = ap (λ (xs : List Packet). piece_bytes (pieces_in xs)) e ∙ bytes_split ops more in
    record { longer = omega arith; bytes = omega arith }

-- the next granted bytes
data_is : (own : Own) (s : Sent) (ps : List Packet) (gs : List Grant) (asks : List ReadAsk) (owes : ℕ)
    → opening_bytes own s ≤ piece_bytes (pieces_in ps) → opening_bytes own s + grant_bytes gs ≤ length s.message.bytes
    → data_next own (kept_by own s ps gs asks owes) (option_map (λ (g : Grant). g.recv) (slice_get gs 0))
    ≡ data_packet own s (opening_bytes own s + grant_bytes gs) (piece_bytes (pieces_in ps)) gs
unfolding data_next data_packet
data_is own s ps [] asks owes le fits = refl
data_is own s ps (g ∷ gs) asks owes le fits =
    let allowed = opening_bytes own s + grant_bytes (g ∷ gs) in
    let done = piece_bytes (pieces_in ps) in
    let a : max (opening_bytes own s) done ≡ done = omega arith in
    let b : allowed ≡ min allowed (length s.message.bytes) = omega arith in
    ap₂ (λ (d m : ℕ). cond (nat_lt d m) (Some (CtsData (op_id g.recv) d own.life.connid (take (min (allowed - d) (data_room own.limits)) (drop d s.message.bytes)))) None) a b

-- the same of a send of any kind
granted_is : (own : Own) (s : Sent) (ps : List Packet) (gs : List Grant) (asks : List ReadAsk) (owes : ℕ) (kind : Kind)
    → opening_bytes own s ≤ piece_bytes (pieces_in ps) → opening_bytes own s + grant_bytes gs ≤ length s.message.bytes
    → granted_next own (kept_by own s ps gs asks owes) kind ≡ granted_packet own gs s ps kind
unfolding granted_next granted_packet
granted_is own s ps gs asks owes LongCts le fits = data_is own s ps gs asks owes le fits
granted_is own s ps gs asks owes Eager le fits = refl
granted_is own s ps gs asks owes Medium le fits = refl
granted_is own s ps gs asks owes LongRead le fits = refl
granted_is own s ps gs asks owes (Runt runt) le fits = refl

-- where there is a first value, the second does not matter
first_there : {A : Type 0} (x y : Option A) (a b : Option A) (v : A) → x ≡ Some v → y ≡ Some v → or_else x a ≡ or_else y b
unfolding or_else
first_there x y a b v h k = rw (h, k) refl

-- where there is none, it does
first_absent : {A : Type 0} (x y : Option A) (a b : Option A) → x ≡ None → y ≡ None → a ≡ b → or_else x a ≡ or_else y b
unfolding or_else
first_absent x y a b h k e = rw (h, k) e

-- once all was opened, what is next is granted bytes
next_opened : (own : Own) (s : Sent) (ps : List Packet) (gs : List Grant) (asks : List ReadAsk) (owes : ℕ) → AllOpened own s ps
    → opening_bytes own s + grant_bytes gs ≤ length s.message.bytes
    → packet_next own (kept_by own s ps gs asks owes) ≡ or_else (slice_get (openings own.limits s.message s.kind) (length ps)) (granted_packet own gs s ps s.kind)
unfolding packet_next
next_opened own s ps gs asks owes all fits =
    let ops = openings own.limits s.message s.kind in
    let le = all.longer in
    first_absent (slice_get ops (min (length ps) (length ops))) (slice_get ops (length ps)) _ _
    (slice_get_past ops (min (length ps) (length ops)) (omega arith)) (slice_get_past ops (length ps) le) (granted_is own s ps gs asks owes s.kind all.bytes fits)

-- before that it is an opening
next_opening : (own : Own) (s : Sent) (ps later : List Packet) (q : Packet) (gs : List Grant) (asks : List ReadAsk) (owes : ℕ)
    → openings own.limits s.message s.kind ≡ ps ++ q ∷ later
    → packet_next own (kept_by own s ps gs asks owes) ≡ or_else (slice_get (openings own.limits s.message s.kind) (length ps)) (granted_packet own gs s ps s.kind)
unfolding packet_next
next_opening own s ps later q gs asks owes e =
    let ops = openings own.limits s.message s.kind in
    let l = ap length e in
    let k = length-append ps (q ∷ later) in
    let m : min (length ps) (length ops) ≡ length ps = omega arith in
    let there : slice_get ops (length ps) ≡ Some q = ap (λ (xs : List Packet). slice_get xs (length ps)) e ∙ slice_get_seam ps q later in
    first_there (slice_get ops (min (length ps) (length ops))) (slice_get ops (length ps)) _ _ q (ap (slice_get ops) m ∙ there) there

-- what is next where some openings were pushed
next_some : (own : Own) (s : Sent) (ps later : List Packet) (gs : List Grant) (asks : List ReadAsk) (owes : ℕ) → openings own.limits s.message s.kind ≡ ps ++ later
    → opening_bytes own s + grant_bytes gs ≤ length s.message.bytes
    → packet_next own (kept_by own s ps gs asks owes) ≡ or_else (slice_get (openings own.limits s.message s.kind) (length ps)) (granted_packet own gs s ps s.kind)
next_some own s ps [] gs asks owes e fits =
    next_opened own s ps gs asks owes (all_opened own s ps [] (sym (append-nil ps) ∙ sym e ∙ sym (append-nil (openings own.limits s.message s.kind)))) fits
next_some own s ps (q ∷ later) gs asks owes e fits = next_opening own s ps later q gs asks owes e

-- what is next of a send that is underway
next_by : (own : Own) (s : Sent) (ps : List Packet) (gs : List Grant) (asks : List ReadAsk) (owes : ℕ) → Underway own s ps
    → opening_bytes own s + grant_bytes gs ≤ length s.message.bytes
    → packet_next own (kept_by own s ps gs asks owes) ≡ or_else (slice_get (openings own.limits s.message s.kind) (length ps)) (granted_packet own gs s ps s.kind)
next_by own s ps gs asks owes u fits =
    elim u.how [
      | inl a ↦ next_some own s ps a.0 gs asks owes a.1 fits
      | inr a ↦ next_opened own s ps gs asks owes (all_opened own s ps a.0 a.1) fits
    ]

-- what a send of the record has next is what the definitions have
pub packet_next_is : (own : Own) (log : List Deed) (s : Sent) → LifeLocal own log → Member s (own_sends own log)
    → packet_next own (kept_send own log s) ≡ next_packet own log s (own_packets own log s.number)
unfolding next_packet
packet_next_is own log s l m =
    let ps = own_packets own log s.number in
    let gs = grants log s.to s.number in
    ap (packet_next own) (kept_is own log s)
    ∙ next_by own s ps gs (asks_of log s.to s.number) (answer_count s (own_progress own log).replies) (underway own (told own log) log s m) (allowed_within own log s l m)

-- the send has something next
abbrev pub has_next : Own → List Deed → Sent → Bool
has_next own log s = is_some (next_packet own log s (own_packets own log s.number))

-- the first live send that has something next
abbrev pub first_next : Own → List Deed → Option Sent
first_next own log = find (has_next own log) (own_live own log)

-- the record has the same one
pub send_next_is : (own : Own) (log : List Deed) (v : Kept) → LifeLocal own log → v.own ≡ own → KeepsSends own log v
    → send_next v ≡ option_map (kept_send own log) (first_next own log)
send_next_is own log v l e k =
    ap₂ (λ (x : Own) (xs : List LiveSend). find (λ (s : LiveSend). is_some (packet_next x s)) xs) e k.sends_are
    ∙ find-map (kept_send own log) (λ (s : LiveSend). is_some (packet_next own s)) (own_live own log)
    ∙ ap (option_map (kept_send own log))
    (find_where (λ s. is_some (packet_next own (kept_send own log s))) (has_next own log) (own_live own log)
    (λ s m. ap is_some (packet_next_is own log s l (live_sent own log s m))))

-- a packet of the send that was found
unfoldable pub due_of : Own → List Deed → (ℕ → List Packet) → Option Sent → Option Due
due_of own log packets None = None
due_of own log packets (Some s) = send_due s (next_packet own log s (packets s.number)) None

-- the first send that is not over and has something next is due
pub next_send_found : (own : Own) (log : List Deed) (packets : ℕ → List Packet) (ss : List Sent)
    → next_send own log packets ss
    ≡ due_of own log packets (find (λ s. is_some (next_packet own log s (packets s.number))) (filter (λ s. not (is_over log (packets s.number) s)) ss))
unfolding next_send send_due due_of
next_send_found own log packets [] = refl
next_send_found own log packets (s ∷ ss) =
    let t : Sent → Bool = λ x. is_some (next_packet own log x (packets x.number)) in
    let live = filter (λ x. not (is_over log (packets x.number) x)) ss in
    let next = next_packet own log s (packets s.number) in
    let rest = next_send_found own log packets ss in
    elim (is_over log (packets s.number) s) as (λ b. cond b (next_send own log packets ss) (send_due s next (next_send own log packets ss))
    ≡ due_of own log packets (find t (cond (not b) (s ∷ live) live))) [
      | true ↦ rest
      | false ↦ (elim next as (λ o. next ≡ o → send_due s o (next_send own log packets ss) ≡ due_of own log packets (cond (is_some o) (Some s) (find t live))) [
        | None ↦ λ e. rest
        | Some p ↦ λ e. sym (ap (λ (o : Option Packet). send_due s o None) e)
      ]) refl
    ]

-- what the sends of a life have next
pub own_next_send : (own : Own) (log : List Deed) → next_send own log (own_progress own log).packets (own_sends own log) ≡ due_of own log (own_progress own log).packets (first_next own log)
unfolding live_sends live_of
own_next_send own log = next_send_found own log (own_progress own log).packets (own_sends own log)
