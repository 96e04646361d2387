-- What the due items of a life were: packets of its sends, each pushed once.
use Rattle.std.proofs.Common.{Bool, ◌≡◌, ℕ, true, List, [], ◌∷◌, length, Option, Some, ◌⊎◌, inl, inr, sym, ◌∙◌}
use Rattle.rdm_lists.specs.Lists.{Member}
use Rattle.rdm_num.specs.Pieces.{Piece, overlaps}
use Rattle.rdm_num.specs.declared.numbers.MsgNo.{MsgNo}
use Rattle.rdm_num.specs.declared.numbers.OpId.{OpId}
use Rattle.rdm_num.specs.declared.numbers.Connid.{Connid}
use Rattle.rdm_hdr.specs.declared.Opt.{Opt}
use Rattle.rdm_pkt.specs.declared.Packet.{Packet}
use Rattle.rdm_pkt.specs.declared.Packet.TheVariants.{Rtm, CtsData}
use Rattle.rdm_pkt.specs.declared.Form.{Form}
use Rattle.rdm_pkt.specs.Heads.{head_of}
use Rattle.rdm_pkt.specs.Openings.{openings, message_head}
use Rattle.rdm_model.specs.Deeds.{Deed}
use Rattle.rdm_model.specs.Beginnings.{Own, Messages}
use Rattle.rdm_model.specs.Sends.{Sent, sends}
use Rattle.rdm_model.specs.Dues.{Due, Sends, packet_piece}
use Rattle.rdm_model.specs.Local.{heard_by}
use Rattle.rdm_model.proofs.SameRegions.{Agree, agree_before}
use Rattle.rdm_model.proofs.SameDues.{due_same}
use Rattle.rdm_model.proofs.Grows.{agree_grows}
use Rattle.rdm_model.proofs.Cuts.{Part}
use Rattle.rdm_model.proofs.Served.{PushedAt, push_member, push_part, push_once}
use Rattle.rdm_model.proofs.Sending.{DataPush, IsSingle, push_is, rtm_push, data_push, opening_once}
use Rattle.rdm_law.proofs.Lives.Lives.{WasDueAt}

-- a push by one account is one by another that agrees
pub pushed_same : (own : Own) (ms ns : Messages) (t : Due) (k : ℕ) (log : List Deed) → Agree own.limits.first ms ns log → PushedAt own ms t k log → PushedAt own ns t k log
pushed_same own ms ns t k [] g h = elim h [ ]
pushed_same own ms ns t k (d ∷ before) g (inl a) =
    inl (a.0, sym (due_same own ms ns before (agree_before own.limits.first ms ns d before g)) ∙ a.1, a.2)
pushed_same own ms ns t k (d ∷ before) g (inr a) = inr (pushed_same own ms ns t k before (agree_before own.limits.first ms ns d before g) a)

-- a due item of a life was pushed by what it heard in the end
pub was_due_pushed : (own : Own) (t : Due) (k : ℕ) (log : List Deed) → WasDueAt own t k log → PushedAt own (heard_by own.limits.first log) t k log
was_due_pushed own t k [] h = elim h [ ]
was_due_pushed own t k (d ∷ before) (inl a) =
    inl (a.0, sym (due_same own (heard_by own.limits.first before) (heard_by own.limits.first (d ∷ before)) before (agree_grows own.limits.first d before)) ∙ a.1, a.2)
was_due_pushed own t k (d ∷ before) (inr a) =
    inr (pushed_same own (heard_by own.limits.first before) (heard_by own.limits.first (d ∷ before)) t k before (agree_grows own.limits.first d before) (was_due_pushed own t k before a))

-- the sends of a life by what it heard
abbrev pub own_sends : Own → List Deed → List Sent
own_sends own log = sends own (heard_by own.limits.first log) log

-- a send whose packet was due is one of the life's
pub due_member : (own : Own) (s : Sent) (p : Packet) (k : ℕ) (log : List Deed) → WasDueAt own (Sends s p) k log → Member s (own_sends own log)
due_member own s p k log h = push_member own (heard_by own.limits.first log) s p k log (was_due_pushed own (Sends s p) k log h)

-- the bytes of that packet are a part of its message
pub due_part : (own : Own) (s : Sent) (p : Packet) (x : Piece) (k : ℕ) (log : List Deed) → WasDueAt own (Sends s p) k log → packet_piece p ≡ Some x → Part x s.message.bytes
due_part own s p x k log h c = push_part own (heard_by own.limits.first log) s p x k log (was_due_pushed own (Sends s p) k log h) c

-- it is an opening, or has bytes that were granted
pub due_is : (own : Own) (s : Sent) (p : Packet) (k : ℕ) (log : List Deed) → WasDueAt own (Sends s p) k log → Member p (openings own.limits s.message s.kind) ⊎ DataPush own log s p
due_is own s p k log h = push_is own (heard_by own.limits.first log) s p k log (was_due_pushed own (Sends s p) k log h)

-- a packet that opens a message tells the head of its send's message
pub due_rtm : (own : Own) (s : Sent) (number : MsgNo) (tag : Option ℕ) (confirm : Bool) (opt : Opt) (form : Form) (k : ℕ) (log : List Deed) → WasDueAt own (Sends s (Rtm number tag confirm opt form)) k log
    → (number ≡ s.message.no) × (tag ≡ s.message.tag) × (opt ≡ s.message.opt) × (head_of tag confirm opt form ≡ message_head own.limits s.message s.kind)
due_rtm own s number tag confirm opt form k log h =
    rtm_push own (heard_by own.limits.first log) s number tag confirm opt form k log (was_due_pushed own (Sends s (Rtm number tag confirm opt form)) k log h)

-- granted bytes name the receive of the first grant
pub due_data : (own : Own) (s : Sent) (recv : OpId) (offset : ℕ) (connid : Connid) (bytes : List ℕ) (k : ℕ) (log : List Deed)
    → WasDueAt own (Sends s (CtsData recv offset connid bytes)) k log → DataPush own log s (CtsData recv offset connid bytes)
due_data own s recv offset connid bytes k log h =
    data_push own (heard_by own.limits.first log) s recv offset connid bytes k log (was_due_pushed own (Sends s (CtsData recv offset connid bytes)) k log h)

-- packets of one send whose bytes share a place are one due item
pub due_once : (own : Own) (s t : Sent) (p q : Packet) (x y : Piece) (k l : ℕ) (log : List Deed) → s.number ≡ t.number
    → WasDueAt own (Sends s p) k log → WasDueAt own (Sends t q) l log → packet_piece p ≡ Some x → packet_piece q ≡ Some y
    → overlaps x.offset (length x.bytes) y.offset (length y.bytes) ≡ true → k ≡ l
due_once own s t p q x y k l log e h j c f o =
    push_once own (heard_by own.limits.first log) s t p q x y k l log e (was_due_pushed own (Sends s p) k log h) (was_due_pushed own (Sends t q) l log j) c f o

-- the one packet that opens a message is one due item
pub due_opening : (own : Own) (s : Sent) (number number' : MsgNo) (tag tag' : Option ℕ) (confirm confirm' : Bool) (opt opt' : Opt) (form form' : Form) (k l : ℕ) (log : List Deed)
    → IsSingle s.kind → WasDueAt own (Sends s (Rtm number tag confirm opt form)) k log → WasDueAt own (Sends s (Rtm number' tag' confirm' opt' form')) l log → k ≡ l
due_opening own s number number' tag tag' confirm confirm' opt opt' form form' k l log i h j =
    opening_once own (heard_by own.limits.first log) s number number' tag tag' confirm confirm' opt opt' form form' k l log i
    (was_due_pushed own (Sends s (Rtm number tag confirm opt form)) k log h) (was_due_pushed own (Sends s (Rtm number' tag' confirm' opt' form')) l log j)
