-- Regions are of bytes, and keep their sizes.
use Rattle.std.proofs.Common.{◌≡◌, ℕ, zero, suc, ◌+◌, ◌≤◌, true, nat_lt, nat_le, leb-true, List, [], ◌∷◌, ◌++◌, map, length, get_or, take, drop, Option, Some, None, refl, arith, inl, inr, subst}
use Rattle.std.specs.List.{list_all}
use Rattle.std.proofs.lemmas.Bool.{and_parts}
use Rattle.rdm_lists.specs.Lists.{Member}
use Rattle.rdm_num.specs.declared.parts.Span.{Span}
use Rattle.rdm_num.specs.declared.request.RecvReq.{RecvReq}
use Rattle.rdm_num.specs.declared.numbers.Life.{Life}
use Rattle.rdm_model.specs.declared.job.Instr.TheVariants.{OpenLife, Insert, Reg, Send, Recv, Cancel, Note, Await, Wait, CloseLife}
use Rattle.rdm_model.specs.Deeds.{Deed, Did, PushedNote, Pushed, TookNote, Took, Polled, Nothing}
use Rattle.rdm_model.specs.Beginnings.{Messages}
use Rattle.rdm_model.specs.Jobs.{instr_fits, len_max}
use Rattle.rdm_model.specs.Matches.{Receive, receives, received_by, with_received}
use Rattle.rdm_model.specs.Receives.{RecvEnd, Filled, Withdrawn, Gone, ended_recv, recv_ends, recv_ends_by, receive_numbered}
use Rattle.rdm_model.specs.Regions.{put, change_at, kept_bytes, written_by, after_end, after_ends, region_by, regions}
use Rattle.rdm_law.proofs.Fits.Fitting.{AreBytes}
use Rattle.rdm_law.proofs.Fits.SmallBytes.{bytes_front, bytes_rest, bytes_append, zeros_bytes}
use Rattle.rdm_lists.proofs.Members.{member-append_cases}

-- an instruction that did has its numbers in their ranges
abbrev pub DidFits : (ports : ℕ) → Deed → Type 0
DidFits ports (Did instr) = instr_fits ports instr ≡ true
DidFits ports PushedNote = Unit {0}
DidFits ports Pushed = Unit {0}
DidFits ports (TookNote from note) = Unit {0}
DidFits ports (Took from item) = Unit {0}
DidFits ports Polled = Unit {0}
DidFits ports Nothing = Unit {0}

-- so of all deeds
abbrev pub AllDidFit : (ports : ℕ) → List Deed → Type 0
AllDidFit ports [] = Unit {0}
AllDidFit ports (d ∷ before) = AllDidFit ports before × DidFits ports d

-- each message is of bytes
abbrev pub MessagesFit : Messages → Type 0
MessagesFit ms = (source : Life) (n : ℕ) → AreBytes (ms.bytes source n)

-- each list is of bytes
abbrev pub AllAreBytes : List (List ℕ) → Type 0
AllAreBytes regions = (r : List ℕ) → Member r regions → AreBytes r

-- bytes that are put into bytes
put_fits : (at : ℕ) (bytes region : List ℕ) → AreBytes bytes → AreBytes region → AreBytes (put at bytes region)
unfolding put
put_fits at bytes region h k =
    bytes_append (take at region ++ bytes) (drop (at + length bytes) region) (bytes_append (take at region) bytes (bytes_front at region k) h)
    (bytes_rest (at + length bytes) region k)

-- bytes that are put into one of the regions
change_at_fits : (at : ℕ) (bytes : List ℕ) (n : ℕ) (rs : List (List ℕ)) → AreBytes bytes → AllAreBytes rs → AllAreBytes (change_at (put at bytes) n rs)
unfolding change_at
change_at_fits at bytes n [] h k r m = elim m [ ]
change_at_fits at bytes zero (x ∷ rs) h k r (inl is) = subst AreBytes is (put_fits at bytes x h (k x (inl refl)))
change_at_fits at bytes zero (x ∷ rs) h k r (inr m) = k r (inr m)
change_at_fits at bytes (suc n) (x ∷ rs) h k r (inl is) = k r (inl is)
change_at_fits at bytes (suc n) (x ∷ rs) h k r (inr m) = change_at_fits at bytes n rs h (λ y z. k y (inr z)) r m

-- what an end of a receive writes
written_fits : (ms : Messages) (e : RecvEnd) (req : RecvReq) → MessagesFit ms → AreBytes (written_by ms e req)
unfolding written_by kept_bytes
written_fits ms (Filled p) req h = bytes_front req.len (ms.bytes p.message.life p.message.no.0) (h p.message.life p.message.no.0)
written_fits ms (Withdrawn n) req h = refl
written_fits ms (Gone n) req h = zeros_bytes req.len

-- the regions after one end
after_end_fits : (ms : Messages) (e : RecvEnd) (o : Option Receive) (rs : List (List ℕ)) → MessagesFit ms → AllAreBytes rs → AllAreBytes (after_end ms e o rs)
unfolding after_end
after_end_fits ms e None rs h k = k
after_end_fits ms e (Some r) rs h k = change_at_fits r.req.at (written_by ms e r.req) r.req.region.0 rs (written_fits ms e r.req h) k

-- the regions after ends in order
after_ends_fit : (ms : Messages) (recvs : List Receive) (es : List RecvEnd) (rs : List (List ℕ)) → MessagesFit ms → AllAreBytes rs → AllAreBytes (after_ends ms recvs es rs)
unfolding after_ends
after_ends_fit ms recvs [] rs h k = k
after_ends_fit ms recvs (e ∷ es) rs h k =
    after_ends_fit ms recvs es (after_end ms e (receive_numbered recvs (ended_recv e)) rs) h (after_end_fits ms e (receive_numbered recvs (ended_recv e)) rs h k)

-- a region that is registered is of bytes, and not longer than a region may be
pub reg_fits : (ports : ℕ) (d : Deed) (r : List ℕ) → DidFits ports d → Member r (region_by d) → AreBytes r × (length r ≤ len_max)
unfolding region_by instr_fits
reg_fits ports (Did (Reg content)) r h (inl is) =
    let both = and_parts (nat_le (length content) len_max) (list_all (λ b. nat_lt b 256) content) h in
    let P : List ℕ → Type 0 = λ x. AreBytes x × (length x ≤ len_max) in
    subst P is (both.1, leb-true (length content) len_max both.0)
reg_fits ports (Did (Reg content)) r h (inr m) = elim m [ ]
reg_fits ports (Did (OpenLife connid)) r h m = elim m [ ]
reg_fits ports (Did (Insert life)) r h m = elim m [ ]
reg_fits ports (Did (Send req)) r h m = elim m [ ]
reg_fits ports (Did (Recv req)) r h m = elim m [ ]
reg_fits ports (Did (Cancel recv)) r h m = elim m [ ]
reg_fits ports (Did (Note to what)) r h m = elim m [ ]
reg_fits ports (Did (Await from what)) r h m = elim m [ ]
reg_fits ports (Did (Wait count)) r h m = elim m [ ]
reg_fits ports (Did CloseLife) r h m = elim m [ ]
reg_fits ports PushedNote r h m = elim m [ ]
reg_fits ports Pushed r h m = elim m [ ]
reg_fits ports (TookNote from note) r h m = elim m [ ]
reg_fits ports (Took from item) r h m = elim m [ ]
reg_fits ports Polled r h m = elim m [ ]
reg_fits ports Nothing r h m = elim m [ ]

-- regions are of bytes, by any account of messages of bytes
pub regions_fit : (ports first : ℕ) (ms : Messages) (log : List Deed) → MessagesFit ms → AllDidFit ports log → AllAreBytes (regions first ms log)
unfolding regions
regions_fit ports first ms [] h fit r m = elim m [ ]
regions_fit ports first ms (d ∷ before) h fit r m =
    let ends = recv_ends_by first ms.head d before (recv_ends first ms.head before) in
    let old = after_ends ms (receives (d ∷ before)) ends (regions first ms before) in
    elim (member-append_cases r old (region_by d) m) [
      | inl k ↦ after_ends_fit ms (receives (d ∷ before)) ends (regions first ms before) h (regions_fit ports first ms before h fit.0) r k
      | inr k ↦ (reg_fits ports d r fit.1 k).0
    ]

-- the sizes of the regions that were registered
unfoldable pub sizes : List Deed → List ℕ
sizes [] = []
sizes (d ∷ before) = sizes before ++ map length (region_by d)

-- the range of a receive, or each of a send, lies in its region
abbrev pub RangeFits : List Deed → Deed → Type 0
RangeFits before (Did (Recv req)) = req.at + req.len ≤ get_or (sizes before) req.region.0 0
RangeFits before (Did (Send req)) = (p : Span) → Member p req.parts → p.at + p.len ≤ get_or (sizes before) p.region.0 0
RangeFits before _ = Unit {0}

-- so of all deeds
abbrev pub AllRangesFit : List Deed → Type 0
AllRangesFit [] = Unit {0}
AllRangesFit (d ∷ before) = AllRangesFit before × RangeFits before d

-- an element, or zero, is no greater than in a longer list
pub get_or-more : (xs ys : List ℕ) (n : ℕ) → get_or xs n 0 ≤ get_or (xs ++ ys) n 0
get_or-more [] ys n = omega arith
get_or-more (x ∷ xs) ys zero = omega arith
get_or-more (x ∷ xs) ys (suc n) = get_or-more xs ys n

-- the length of an element is the element of the lengths
pub get_or-sizes : (rs : List (List ℕ)) (n : ℕ) → length (get_or rs n []) ≡ get_or (map length rs) n 0
get_or-sizes [] n = refl
get_or-sizes (r ∷ rs) zero = refl
get_or-sizes (r ∷ rs) (suc n) = get_or-sizes rs n

-- a receive that lies in its region
abbrev pub IsWithin : List ℕ → Receive → Type 0
IsWithin ns r = r.req.at + r.req.len ≤ get_or ns r.req.region.0 0

-- sizes of regions are only added
sizes_more : (d : Deed) (before : List Deed) (n : ℕ) → get_or (sizes before) n 0 ≤ get_or (sizes (d ∷ before)) n 0
unfolding sizes
sizes_more d before n = get_or-more (sizes before) (map length (region_by d)) n

-- a receive that a deed accepts lies in its region
received_within : (rs : List Receive) (before : List Deed) (d : Deed) (r : Receive) → RangeFits before d → Member r (received_by rs before d) → IsWithin (sizes before) r
unfolding received_by
received_within rs before (Did (Recv req)) r h (inl is) = subst (IsWithin (sizes before)) is h
received_within rs before (Did (Recv req)) r h (inr m) = elim m [ ]
received_within rs before _ r h m = elim m [ ]

-- accepted receives lie in regions that were there
pub receives_within : (d : Deed) (before : List Deed) (r : Receive) → AllRangesFit (d ∷ before) → Member r (receives (d ∷ before)) → IsWithin (sizes before) r
unfolding receives with_received
receives_within d [] r fit m = received_within [] [] d r fit.1 m
receives_within d (e ∷ before) r fit m =
    elim (member-append_cases r (receives (e ∷ before)) (received_by (receives (e ∷ before)) (e ∷ before) d) m) [
      | inl k ↦ (let h = receives_within e before r fit.0 k in let g = sizes_more e before r.req.region.0 in omega arith)
      | inr k ↦ received_within (receives (e ∷ before)) (e ∷ before) d r fit.1 k
    ]
