-- What was pushed of a send: openings, of which only segments are more than one, and bytes that were granted.
use Rattle.std.proofs.Common.{◌≡◌, ℕ, zero, suc, ◌+◌, ◌-◌, ◌<◌, ◌≤◌, min, true, false, cond, Bool, ◌&&◌, List, [], ◌∷◌, ◌++◌, length, drop, Option, Some, refl, arith, ◌⊎◌, inl, inr, sym, ◌∙◌, ap, subst}
use Rattle.std.specs.Prelude.{slice_get, ◌==◌}
use Rattle.std.proofs.lemmas.List.{length-append, length-take, length-drop}
use Rattle.std.proofs.lemmas.Bool.{cases_lt, and_parts, eqb-true}
use Rattle.std.proofs.lemmas.Option.{slice_get_within}
use Rattle.std.proofs.lemmas.List.Sums.{sum_by-append}
use Rattle.rdm_lists.specs.Lists.{Member}
use Rattle.rdm_num.specs.Lives.{op_id, same_life}
use Rattle.rdm_num.specs.Pieces.{piece_bytes}
use Rattle.rdm_num.specs.declared.numbers.Life.{Life}
use Rattle.rdm_num.specs.declared.numbers.MsgNo.{MsgNo}
use Rattle.rdm_num.specs.declared.numbers.OpId.{OpId}
use Rattle.rdm_num.specs.declared.numbers.Connid.{Connid}
use Rattle.rdm_hdr.specs.declared.Opt.{Opt}
use Rattle.rdm_pkt.specs.declared.Packet.{Packet}
use Rattle.rdm_pkt.specs.declared.Packet.TheVariants.{Rtm, Cts, CtsData}
use Rattle.rdm_pkt.specs.declared.Form.{Form}
use Rattle.rdm_pkt.specs.declared.Kind.{Kind}
use Rattle.rdm_pkt.specs.declared.Kind.TheVariants.{Eager, Medium, LongCts, LongRead, Runt}
use Rattle.rdm_pkt.specs.Heads.{head_of}
use Rattle.rdm_pkt.specs.Openings.{openings, message_head, says_confirm}
use Rattle.rdm_model.specs.Deeds.{Deed, Took, Spelled}
use Rattle.rdm_model.specs.Beginnings.{Own, Messages}
use Rattle.rdm_model.specs.Sends.{Sent, sends}
use Rattle.rdm_model.specs.Grants.{Grant, grants_by, grants, grant_bytes, data_room}
use Rattle.rdm_model.specs.Dues.{Sends, pieces_in}
use Rattle.rdm_model.proofs.Opens.{opening_is}
use Rattle.rdm_model.proofs.Dues.{IsData, AllData, GrantedNext, next_is}
use Rattle.rdm_model.proofs.Pushes.{pushed_of, underway}
use Rattle.rdm_model.proofs.Served.{PushedAt, next_send_due, ServedAt, served_at, served_stands, served_once, push_member}
use Rattle.rdm_lists.proofs.Members.{member-append_cases}
use Rattle.rdm_lists.proofs.Places.{slice_get-member}
use Rattle.rdm_num.proofs.Lives.{same_life-true}

-- the deed that took a grant
grant_by_taken : (peer : Life) (send : ℕ) (d : Deed) (g : Grant) → Member g (grants_by peer send d)
    → (connid : Connid) × (d ≡ Took peer (Spelled (Cts (op_id send) (op_id g.recv) g.size connid)))
unfolding grants_by
grant_by_taken peer send (Took from (Spelled (Cts s recv size connid))) g h =
    (elim (same_life from peer && s.0 == send) as (λ b. (same_life from peer && s.0 == send) ≡ b → Member g (cond b (record { recv = recv.0; size = size } ∷ []) [])
    → (c : Connid) × (Took from (Spelled (Cts s recv size connid)) ≡ Took peer (Spelled (Cts (op_id send) (op_id g.recv) g.size c)))) [
      | true ↦ λ is k. elim k [
        | inl a ↦
            let parts = and_parts (same_life from peer) (s.0 == send) is in
            let l : from ≡ peer = same_life-true from peer parts.0 in
            let n : s.0 ≡ send = eqb-true s.0 send parts.1 in (
              connid,
              ap (λ (x : Life). Took x (Spelled (Cts s recv size connid))) l
                  ∙ ap (λ (x : ℕ). Took peer (Spelled (Cts (op_id x) recv size connid))) n
                  ∙ ap (λ (x : Grant). Took peer (Spelled (Cts (op_id send) (op_id x.recv) x.size connid))) a,
            )
        | inr never ↦ elim never [ ]
      ]
      | false ↦ λ is k. elim k [ ]
    ]) refl h
grant_by_taken peer send _ g h = elim h [ ]

-- a grant of a send was taken
pub grant_taken : (log : List Deed) (peer : Life) (send : ℕ) (g : Grant) → Member g (grants log peer send)
    → (connid : Connid) × Member (Took peer (Spelled (Cts (op_id send) (op_id g.recv) g.size connid))) log
unfolding grants
grant_taken [] peer send g h = elim h [ ]
grant_taken (d ∷ before) peer send g h =
    elim (member-append_cases g (grants before peer send) (grants_by peer send d) h) [
      | inl a ↦ (let r = grant_taken before peer send g a in (r.0, inr r.1))
      | inr a ↦ (let r = grant_by_taken peer send d g a in (r.0, inl r.1))
    ]

-- granted bytes that were pushed: they are named by the first grant, and all grants together allow them
pub record DataPush (own : Own) (log : List Deed) (s : Sent) (p : Packet) : Type 0 where
  pub long : s.kind ≡ LongCts
  pub grant : Grant
  pub others : List Grant
  pub grants_are : grants log s.to s.number ≡ grant ∷ others
  pub offset : ℕ
  pub bytes : List ℕ
  pub is : p ≡ CtsData (op_id grant.recv) offset own.life.connid bytes
  pub within : offset + length bytes ≤ piece_bytes (pieces_in (openings own.limits s.message s.kind)) + grant_bytes (grants log s.to s.number)
  -- where packets have room and no more is granted than there is, there is a byte
  pub has_byte : 0 < data_room own.limits → piece_bytes (pieces_in (openings own.limits s.message s.kind)) + grant_bytes (grants log s.to s.number) ≤ length s.message.bytes
      → 0 < length bytes

-- granted bytes that are next are allowed
data_now : (own : Own) (log : List Deed) (s : Sent) (pushed : List Packet) (p : Packet) → GrantedNext own (grants log s.to s.number) s pushed p → DataPush own log s p
data_now own log s pushed p g =
    let allowed : ℕ = piece_bytes (pieces_in (openings own.limits s.message s.kind)) + grant_bytes (grants log s.to s.number) in
    let l = ap length g.bytes_are in
    let t = length-take (min (allowed - piece_bytes (pieces_in pushed)) (data_room own.limits)) (drop (piece_bytes (pieces_in pushed)) s.message.bytes) in
    let b = g.below in
    record {
      long = g.long;
      grant = g.grant;
      others = g.others;
      grants_are = g.grants_are;
      offset = piece_bytes (pieces_in pushed);
      bytes = g.bytes;
      is = g.is;
      within = omega arith;
      has_byte = λ room fit. let e = length-drop (piece_bytes (pieces_in pushed)) s.message.bytes in omega arith;
    }

-- and stay so as more grants come
data_later : (own : Own) (d : Deed) (before : List Deed) (s : Sent) (p : Packet) → DataPush own before s p → DataPush own (d ∷ before) s p
unfolding grants grant_bytes
data_later own d before s p r =
    let more : grants before s.to s.number ++ grants_by s.to s.number d ≡ r.grant ∷ (r.others ++ grants_by s.to s.number d) = ap (λ (gs : List Grant). gs ++ grants_by s.to s.number d) r.grants_are in
    let sum = sum_by-append (λ (g : Grant). g.size) (grants before s.to s.number) (grants_by s.to s.number d) in
    let w = r.within in
    record {
      long = r.long;
      grant = r.grant;
      others = r.others ++ grants_by s.to s.number d;
      grants_are = more;
      offset = r.offset;
      bytes = r.bytes;
      is = r.is;
      within = omega arith;
      has_byte = λ room fit. r.has_byte room (omega arith);
    }

-- an element between two parts of a list is in it
member_seam : {A : Type 0} (xs : List A) (y : A) (ys : List A) → Member y (xs ++ y ∷ ys)
member_seam [] y ys = inl refl
member_seam (x ∷ xs) y ys = inr (member_seam xs y ys)

-- what was pushed of a send is an opening, or bytes that were granted
pub push_is : (own : Own) (ms : Messages) (s : Sent) (p : Packet) (k : ℕ) (log : List Deed) → PushedAt own ms (Sends s p) k log
    → Member p (openings own.limits s.message s.kind) ⊎ DataPush own log s p
push_is own ms s p k [] h = elim h [ ]
push_is own ms s p k (d ∷ before) (inl a) =
    let n = next_send_due own ms before s p a.1 in
    elim (next_is own before s (pushed_of own ms before s.number) p (underway own ms before s n.member) n.next) [
      | inl b ↦ inl (subst (λ (xs : List Packet). Member p xs) (sym b.1) (member_seam (pushed_of own ms before s.number) p b.0))
      | inr b ↦ inr (data_later own d before s p (data_now own before s (pushed_of own ms before s.number) p b.3))
    ]
push_is own ms s p k (d ∷ before) (inr a) =
    elim (push_is own ms s p k before a) [ inl b ↦ inl b | inr b ↦ inr (data_later own d before s p b) ]

-- a packet that opens a message and was pushed tells the head of its send's message
pub rtm_push : (own : Own) (ms : Messages) (s : Sent) (number : MsgNo) (tag : Option ℕ) (confirm : Bool) (opt : Opt) (form : Form) (k : ℕ) (log : List Deed)
    → PushedAt own ms (Sends s (Rtm number tag confirm opt form)) k log
    → (number ≡ s.message.no) × (tag ≡ s.message.tag) × (opt ≡ s.message.opt) × (head_of tag confirm opt form ≡ message_head own.limits s.message s.kind)
rtm_push own ms s number tag confirm opt form k log h =
    elim (push_is own ms s (Rtm number tag confirm opt form) k log h) [
      | inl a ↦ (
          let o = opening_is own.limits s.message s.kind (Rtm number tag confirm opt form) a in
          let is = o.is in
          let n : number ≡ s.message.no = cc in
          let t : tag ≡ s.message.tag = cc in
          let c : confirm ≡ says_confirm s.kind s.message.confirm = cc in
          let p : opt ≡ s.message.opt = cc in
          let f : form ≡ o.form = cc in (
            n,
            t,
            p,
            ap (λ (x : Option ℕ). head_of x confirm opt form) t ∙ ap (λ (x : Bool). head_of s.message.tag x opt form) c
                ∙ ap (λ (x : Opt). head_of s.message.tag (says_confirm s.kind s.message.confirm) x form) p
                ∙ ap (λ (x : Form). head_of s.message.tag (says_confirm s.kind s.message.confirm) s.message.opt x) f ∙ o.head_is,
          ))
      | inr a ↦ (let is = a.is in cc)
    ]

-- granted bytes that were pushed
pub data_push : (own : Own) (ms : Messages) (s : Sent) (recv : OpId) (offset : ℕ) (connid : Connid) (bytes : List ℕ) (k : ℕ) (log : List Deed)
    → PushedAt own ms (Sends s (CtsData recv offset connid bytes)) k log → DataPush own log s (CtsData recv offset connid bytes)
data_push own ms s recv offset connid bytes k log h =
    elim (push_is own ms s (CtsData recv offset connid bytes) k log h) [
      | inl a ↦ (let is = (opening_is own.limits s.message s.kind (CtsData recv offset connid bytes) a).is in cc)
      | inr a ↦ a
    ]

-- a place past the first elements is one of the others
past_front : {A : Type 0} (xs ys : List A) (i : ℕ) (x : A) → length xs ≤ i → slice_get (xs ++ ys) i ≡ Some x → Member x ys
past_front [] ys i x le h = slice_get-member ys i x h
past_front (y ∷ xs) ys zero x le h = absurd (omega arith)
past_front (y ∷ xs) ys (suc i) x le h = past_front xs ys i x (omega arith) h

-- each of them has granted bytes
all_data : (ps : List Packet) (p : Packet) → AllData ps → Member p ps → IsData p
all_data [] p a h = elim h [ ]
all_data (q ∷ ps) p a (inl e) = subst IsData e a.0
all_data (q ∷ ps) p a (inr h) = all_data ps p a.1 h

-- a packet that opens a message stands among the openings of its send
pub rtm_place : (own : Own) (ms : Messages) (s : Sent) (number : MsgNo) (tag : Option ℕ) (confirm : Bool) (opt : Opt) (form : Form) (i k : ℕ) (log : List Deed)
    → Member s (sends own ms log) → ServedAt own ms s (Rtm number tag confirm opt form) i k log → i < length (openings own.limits s.message s.kind)
rtm_place own ms s number tag confirm opt form i k log m h =
    let stands = served_stands own ms s (Rtm number tag confirm opt form) i k log h in
    let within = slice_get_within (pushed_of own ms log s.number) i (Rtm number tag confirm opt form) stands in
    elim (underway own ms log s m).how [
      | inl a ↦ (let l = ap length a.1 in let r = length-append (pushed_of own ms log s.number) a.0 in omega arith)
      | inr a ↦ elim (cases_lt i (length (openings own.limits s.message s.kind))) [
        | inl less ↦ less
        | inr more ↦ (
            let at : slice_get (openings own.limits s.message s.kind ++ a.0) i ≡ Some (Rtm number tag confirm opt form) = ap (λ (xs : List Packet). slice_get xs i) (sym a.1) ∙ stands in
            let never : IsData (Rtm number tag confirm opt form) = all_data a.0 (Rtm number tag confirm opt form) a.3 (past_front (openings own.limits s.message s.kind) a.0 i (Rtm number tag confirm opt form) more at) in
            elim never [ ])
      ]
    ]

-- all but segments are one packet
abbrev pub IsSingle : Kind → Type 0
IsSingle Eager = Unit {0}
IsSingle Medium = ⊥
IsSingle LongCts = Unit {0}
IsSingle LongRead = Unit {0}
IsSingle (Runt runt) = ⊥

-- such a message has one opening
single_length : (own : Own) (s : Sent) (kind : Kind) → IsSingle kind → length (openings own.limits s.message kind) ≡ 1
unfolding openings
single_length own s Eager i = refl
single_length own s Medium i = elim i [ ]
single_length own s LongCts i = refl
single_length own s LongRead i = refl
single_length own s (Runt runt) i = elim i [ ]

-- the one packet that opens a message is pushed once
pub opening_once : (own : Own) (ms : Messages) (s : Sent) (number number' : MsgNo) (tag tag' : Option ℕ) (confirm confirm' : Bool) (opt opt' : Opt) (form form' : Form) (k l : ℕ) (log : List Deed)
    → IsSingle s.kind → PushedAt own ms (Sends s (Rtm number tag confirm opt form)) k log → PushedAt own ms (Sends s (Rtm number' tag' confirm' opt' form')) l log → k ≡ l
opening_once own ms s number number' tag tag' confirm confirm' opt opt' form form' k l log single h j =
    let m = push_member own ms s (Rtm number tag confirm opt form) k log h in
    let a = served_at own ms s (Rtm number tag confirm opt form) k log h in
    let b = served_at own ms s (Rtm number' tag' confirm' opt' form') l log j in
    let one = single_length own s s.kind single in
    let x = rtm_place own ms s number tag confirm opt form a.0 k log m a.1 in
    let y = rtm_place own ms s number' tag' confirm' opt' form' b.0 l log m b.1 in
    let same : b.0 ≡ a.0 = omega arith in
    served_once own ms s s (Rtm number tag confirm opt form) (Rtm number' tag' confirm' opt' form') a.0 k l log refl a.1 (subst (λ (i : ℕ). ServedAt own ms s (Rtm number' tag' confirm' opt' form') i l log) same b.1)
