-- The first part of a long message is what its send opened with.
use Rattle.std.proofs.Common.{Bool, ◌≡◌, ℕ, true, false, cond, List, [], ◌∷◌, length, take, Option, Some, None, refl, arith, inl, inr, sym, ◌∙◌, ap, subst}
use Rattle.std.specs.Prelude.{◌==◌, unwrap_or, ◌&&◌}
use Rattle.std.proofs.lemmas.Bool.{and_parts, eqb-true}
use Rattle.rdm_lists.specs.Lists.{Member}
use Rattle.rdm_num.specs.Lives.{same_life}
use Rattle.rdm_num.specs.Pieces.{piece_bytes}
use Rattle.rdm_num.specs.declared.numbers.Life.{Life}
use Rattle.rdm_num.specs.declared.numbers.MsgNo.{MsgNo}
use Rattle.rdm_num.specs.declared.numbers.OpId.{OpId}
use Rattle.rdm_num.specs.declared.limits.EpLimits.{EpLimits}
use Rattle.rdm_num.specs.declared.head.Head.{Head}
use Rattle.rdm_num.specs.declared.head.Shape.TheVariants as S
use Rattle.rdm_hdr.specs.declared.Opt.{Opt}
use Rattle.rdm_pkt.specs.declared.Packet.{Packet}
use Rattle.rdm_pkt.specs.declared.Packet.TheVariants.{Rtm}
use Rattle.rdm_pkt.specs.declared.Form.{Form}
use Rattle.rdm_pkt.specs.declared.Form.TheVariants as F
use Rattle.rdm_pkt.specs.declared.Kind.{Kind}
use Rattle.rdm_pkt.specs.declared.Kind.TheVariants.{Eager, Medium, LongCts, LongRead, Runt}
use Rattle.rdm_pkt.specs.Heads.{piece_of}
use Rattle.rdm_pkt.specs.Openings.{Message, openings, rtm, long_cts_form, room_in, shape_by}
use Rattle.rdm_match.specs.Matcher.{Pair}
use Rattle.rdm_model.specs.declared.job.Job.{Job}
use Rattle.rdm_model.specs.declared.entry.Entry.{Entry}
use Rattle.rdm_model.specs.Deeds.{Deed, Took, Spelled}
use Rattle.rdm_model.specs.Beginnings.{own_of}
use Rattle.rdm_model.specs.Grants.{first_part, first_part_in, first_part_by, first_part_taken}
use Rattle.rdm_model.specs.Sends.{Sent}
use Rattle.rdm_model.specs.Dues.{Sends, packet_piece, pieces_in}
use Rattle.rdm_model.specs.Lawful.{life_deeds}
use Rattle.rdm_model.proofs.Matches.{pair_heard}
use Rattle.rdm_law.proofs.Lives.Lives.{WasDueAt}
use Rattle.rdm_law.proofs.Accounts.WasDue.{due_is}
use Rattle.rdm_law.proofs.Accounts.Wired.{Played, taken_pushed}
use Rattle.rdm_law.proofs.Accounts.Known.{Known, known_one, account, opened}
use Rattle.rdm_law.proofs.Accounts.Named.{head_shape}
use Rattle.rdm_law.proofs.Windows.Windows.{heard_first}
use Rattle.rdm_law.proofs.Windows.Granted.{Granting, own_tells}
use Rattle.rdm_lists.proofs.Options.{or_else_cases}
use Rattle.rdm_num.proofs.Lives.{same_life-true}

-- the packet whose first part was taken
pub record FirstTaken (log : List Deed) (source : Life) (n k : ℕ) : Type 0 where
  pub number : MsgNo
  pub tag : Option ℕ
  pub confirm : Bool
  pub opt : Opt
  pub size : ℕ
  pub send : OpId
  pub credits : ℕ
  pub bytes : List ℕ
  pub took : Member (Took source (Spelled (Rtm number tag confirm opt (F.LongCts size send credits bytes)))) log
  pub number_is : number.0 ≡ n
  pub length_is : length bytes ≡ k

-- the first part of a form that has one
first_in : (source : Life) (n k : ℕ) (number : MsgNo) (tag : Option ℕ) (confirm : Bool) (opt : Opt) (form : Form) (d : Deed) (log : List Deed)
    → d ≡ Took source (Spelled (Rtm number tag confirm opt form)) → number.0 ≡ n → first_part_in form ≡ Some k → FirstTaken (d ∷ log) source n k
unfolding first_part_in
first_in source n k number tag confirm opt (F.LongCts size send credits bytes) d log is e h =
    record { number = number; tag = tag; confirm = confirm; opt = opt; size = size; send = send; credits = credits; bytes = bytes; took = inl is; number_is = e; length_is = cc }
first_in source n k number tag confirm opt (F.Eager bytes) d log is e h = cc
first_in source n k number tag confirm opt (F.Medium size offset bytes) d log is e h = cc
first_in source n k number tag confirm opt (F.LongRead size send iov) d log is e h = cc
first_in source n k number tag confirm opt (F.Runt size send iov runt offset bytes) d log is e h = cc

-- the first part that a deed took
first_by_taken : (source : Life) (n k : ℕ) (d : Deed) (log : List Deed) → first_part_by source n d ≡ Some k → FirstTaken (d ∷ log) source n k
unfolding first_part_by
first_by_taken source n k (Took from (Spelled (Rtm number tag confirm opt form))) log h =
    (elim (same_life from source && number.0 == n) as (λ b. (same_life from source && number.0 == n) ≡ b → cond b (first_part_in form) None ≡ Some k
    → FirstTaken (Took from (Spelled (Rtm number tag confirm opt form)) ∷ log) source n k) [
      | true ↦ λ t f.
          let parts = and_parts (same_life from source) (number.0 == n) t in
          first_in source n k number tag confirm opt form (Took from (Spelled (Rtm number tag confirm opt form))) log
          (ap (λ (l : Life). Took l (Spelled (Rtm number tag confirm opt form))) (same_life-true from source parts.0)) (eqb-true number.0 n parts.1) f
      | false ↦ λ t f. cc
    ]) refl h
first_by_taken source n k _ log h = cc

-- a first part that was taken is of a packet that was
first_taken : (log : List Deed) (source : Life) (n k : ℕ) → first_part_taken log source n ≡ Some k → FirstTaken log source n k
unfolding first_part_taken
first_taken [] source n k h = cc
first_taken (d ∷ before) source n k h =
    elim (or_else_cases (first_part_taken before source n) (first_part_by source n d) k h) [
      | inl a ↦
          let f = first_taken before source n k a in
          record { number = f.number; tag = f.tag; confirm = f.confirm; opt = f.opt; size = f.size; send = f.send; credits = f.credits; bytes = f.bytes; took = inr f.took; number_is = f.number_is; length_is = f.length_is }
      | inr a ↦ first_by_taken source n k d before a.1
    ]

-- the shape of a long message
pub long_shape : (limits : EpLimits) (m : Message) (kind : Kind) → kind ≡ LongCts → shape_by limits m kind ≡ S.LongCts m.send limits.credits
unfolding shape_by
long_shape limits m kind e = rw e refl

-- what a long message opens with is the bytes of its one packet
long_opening : (limits : EpLimits) (m : Message) (kind : Kind) (number : MsgNo) (tag : Option ℕ) (confirm : Bool) (opt : Opt) (size : ℕ) (send : OpId) (credits : ℕ) (bytes : List ℕ)
    → kind ≡ LongCts → Member (Rtm number tag confirm opt (F.LongCts size send credits bytes)) (openings limits m kind)
    → piece_bytes (pieces_in (openings limits m kind)) ≡ length bytes
unfolding openings pieces_in packet_piece piece_of piece_bytes
long_opening limits m LongCts number tag confirm opt size send credits bytes e (inl is) =
    let f : ◌≡◌ {A = Packet} (rtm m (long_cts_form limits m (take (room_in limits (rtm m (long_cts_form limits m []))) m.bytes))) (Rtm number tag confirm opt (F.LongCts size send credits bytes)) = is in
    let g : take (room_in limits (rtm m (long_cts_form limits m []))) m.bytes ≡ bytes = cc in
    let l = ap length g in
    omega arith
long_opening limits m LongCts number tag confirm opt size send credits bytes e (inr never) = elim never [ ]
long_opening limits m Eager number tag confirm opt size send credits bytes e h = cc
long_opening limits m Medium number tag confirm opt size send credits bytes e h = cc
long_opening limits m LongRead number tag confirm opt size send credits bytes e h = cc
long_opening limits m (Runt runt) number tag confirm opt size send credits bytes e h = cc

-- the first part that a life took of a long message is what its send opened with
pub first_part_opened : (job : Job) (history : List Entry) (i j : Life) (p : Pair) (s : Sent) → Played job history → Granting job history i j p s
    → first_part (life_deeds job history i) p.message.life p.message.no.0 ≡ piece_bytes (pieces_in (openings (own_of job j).limits s.message s.kind))
unfolding first_part
first_part_opened job history i j p s played g =
    let log = life_deeds job history i in
    let first = (own_of job i).limits.first in
    let source = p.message.life in
    let n = p.message.no.0 in
    let h = pair_heard first (account job history i).head log p g.member in
    let tells = own_tells first log source n h.0 h.1 in
    let by : shape_by job.limits s.message s.kind ≡ S.LongCts s.message.send job.limits.credits = long_shape job.limits s.message s.kind g.long in
    let shape : h.0.shape ≡ S.LongCts s.message.send job.limits.credits =
    ap (λ (x : Head). x.shape) (sym tells ∙ g.head_is) ∙ head_shape job.limits s.message s.kind ∙ by in
    let f = heard_first log source n h.0 s.message.send job.limits.credits h.1 shape in
    let t = first_taken log source n f.0 f.1 in
    let took : Member (Took j (Spelled (Rtm t.number t.tag t.confirm t.opt (F.LongCts t.size t.send t.credits t.bytes)))) log =
    subst (λ (l : Life). Member (Took l (Spelled (Rtm t.number t.tag t.confirm t.opt (F.LongCts t.size t.send t.credits t.bytes)))) log) g.life_is t.took in
    let taken = taken_pushed job history i j (Spelled (Rtm t.number t.tag t.confirm t.opt (F.LongCts t.size t.send t.credits t.bytes))) played took in
    let o = opened job history i j t.number t.tag t.confirm t.opt (F.LongCts t.size t.send t.credits t.bytes) taken.datagram taken.taken in
    let mine : Known job history i j t.number.0 = record { sent = s; member = g.sent; to_is = g.to_is; number_is = g.number_is ∙ sym t.number_is } in
    let same : o.known.sent ≡ s = known_one job history i j t.number.0 o.known mine in
    let was_due = subst (λ (y : Sent). WasDueAt (own_of job j) (Sends y (Rtm t.number t.tag t.confirm t.opt (F.LongCts t.size t.send t.credits t.bytes))) taken.taken.place (life_deeds job history j)) same o.was_due in
    let l = t.length_is in
    elim (due_is (own_of job j) s (Rtm t.number t.tag t.confirm t.opt (F.LongCts t.size t.send t.credits t.bytes)) taken.taken.place (life_deeds job history j) was_due) [
      | inl m ↦
          ap (λ o. unwrap_or o 0) f.1 ∙ sym l ∙ sym (long_opening (own_of job j).limits s.message s.kind t.number t.tag t.confirm t.opt t.size t.send t.credits t.bytes g.long m)
      | inr d ↦ absurd (let e = d.is in cc)
    ]
