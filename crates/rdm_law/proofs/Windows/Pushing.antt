-- What was pushed of a long send ends within what is allowed, so it is not over while a grant is on its way.
use Rattle.std.proofs.Common.{◌≡◌, ℕ, ◌+◌, ◌<◌, ◌≤◌, true, false, List, [], ◌∷◌, length, Some, None, refl, arith, true≢false, inl, inr, sym, ◌∙◌, ap, subst}
use Rattle.std.specs.Prelude.{is_some, filter_map}
use Rattle.std.specs.List.{cons_option}
use Rattle.std.proofs.lemmas.Bool.{false_from_ne_true}
use Rattle.rdm_lists.specs.Lists.{Member}
use Rattle.rdm_num.specs.Pieces.{Piece, byte_at, covers}
use Rattle.rdm_pkt.specs.declared.Packet.{Packet}
use Rattle.rdm_pkt.specs.declared.Kind.{Kind}
use Rattle.rdm_pkt.specs.declared.Kind.TheVariants.{LongCts}
use Rattle.rdm_model.specs.Deeds.{Deed}
use Rattle.rdm_model.specs.Beginnings.{Own, Messages}
use Rattle.rdm_model.specs.Currents.{is_forgotten}
use Rattle.rdm_model.specs.Sends.{Sent, sends}
use Rattle.rdm_model.specs.Dues.{packet_piece, pieces_in, is_read, is_pushed, is_over}
use Rattle.rdm_model.proofs.Pushes.{pushed_of}
use Rattle.rdm_model.proofs.Sending.{push_is}
use Rattle.rdm_model.proofs.Numbers.{sends_one}
use Rattle.rdm_model.proofs.Served.{push_member}
use Rattle.rdm_law.proofs.Settled.DuesPushed.{packet_push}
use Rattle.rdm_law.proofs.Accounts.Whole.{byte_of_piece}
use Rattle.rdm_model.specs.Local.{heard_by}
use Rattle.rdm_law.proofs.Lives.Lives.{LifeLocal}
use Rattle.rdm_law.proofs.Ends.Overs.{over_by}
use Rattle.rdm_law.proofs.Ends.Receipts.{confirmed_pushed}
use Rattle.rdm_law.proofs.Windows.Granted.{allowed_of, part_within_allowed, byte_ends}
use Rattle.rdm_lists.proofs.Options.{some_of}
use Rattle.rdm_lists.proofs.Below.{each_below_at}

-- a piece of packets is of one of them
pub piece_packet : (ps : List Packet) (x : Piece) → Member x (pieces_in ps) → (p : Packet) × Member p ps × (packet_piece p ≡ Some x)
unfolding pieces_in
piece_packet [] x h = elim h [ ]
piece_packet (q ∷ ps) x h =
    (elim (packet_piece q) as (λ o. packet_piece q ≡ o → Member x (cons_option o (filter_map packet_piece ps)) → (p : Packet) × Member p (q ∷ ps) × (packet_piece p ≡ Some x)) [
      | None ↦ λ e k. let r = piece_packet ps x k in (r.0, inr r.1, r.2)
      | Some y ↦ λ e k. elim k [
        | inl is ↦ (q, inl refl, e ∙ ap Some is)
        | inr rest ↦ let r = piece_packet ps x rest in (r.0, inr r.1, r.2)
      ]
    ]) refl h

-- bytes that were pushed of a send end within what is allowed
pushed_ends : (own : Own) (ms : Messages) (log : List Deed) (s : Sent) (x : Piece) → Member s (sends own ms log) → Member x (pieces_in (pushed_of own ms log s.number))
    → x.offset + length x.bytes ≤ allowed_of own log s
pushed_ends own ms log s x m h =
    let p = piece_packet (pushed_of own ms log s.number) x h in
    let w = packet_push own ms log s.number p.0 p.1 in
    let t = push_is own ms w.sent p.0 w.place log w.pushed in
    let same : w.sent ≡ s = sends_one own ms log w.sent s (push_member own ms w.sent p.0 w.place log w.pushed) m w.number_is in
    subst (λ (y : Sent). x.offset + length x.bytes ≤ allowed_of own log y) same (part_within_allowed own log w.sent p.0 x t p.2)

-- what was pushed does not cover more than is allowed
not_covered : (own : Own) (ms : Messages) (log : List Deed) (s : Sent) (n : ℕ) → Member s (sends own ms log) → allowed_of own log s < n
    → covers (pieces_in (pushed_of own ms log s.number)) n ≡ false
unfolding covers
not_covered own ms log s n m less =
    let ps = pieces_in (pushed_of own ms log s.number) in
    let allowed = allowed_of own log s in
    (elim (covers ps n) as (λ b. covers ps n ≡ b → b ≡ false) [
      | false ↦ λ h. refl
      | true ↦ λ h. absurd (
          let b = some_of (byte_at ps allowed) (each_below_at (λ place. is_some (byte_at ps place)) n allowed h less) in
          let q = byte_of_piece ps allowed b.0 b.1 in
          let e = byte_ends q.0 allowed b.0 q.2 in
          let w = pushed_ends own ms log s q.0 m q.1 in
          omega arith)
    ]) refl

-- so a message that is longer is not pushed
not_pushed : (s : Sent) (ps : List Packet) → covers (pieces_in ps) (length s.message.bytes) ≡ false → is_pushed s ps ≡ false
unfolding is_pushed
not_pushed s [] h = refl
not_pushed s (p ∷ ps) h = h

-- a long message is not read
long_unread : (kind : Kind) → kind ≡ LongCts → is_read kind ≡ true → ⊥
unfolding is_read
long_unread kind e h = let f : is_read LongCts ≡ true = subst (λ (k : Kind). is_read k ≡ true) e h in cc

-- a long send is not over while less is allowed than its message has, and its life is not forgotten
pub long_live : (own : Own) (log : List Deed) (s : Sent) → LifeLocal own log → Member s (sends own (heard_by own.limits.first log) log) → s.kind ≡ LongCts → is_forgotten log s.to ≡ false
    → allowed_of own log s < length s.message.bytes → is_over log (pushed_of own (heard_by own.limits.first log) log s.number) s ≡ false
long_live own log s l m k f less =
    let ms = heard_by own.limits.first log in
    let pushed = pushed_of own ms log s.number in
    let not' : is_pushed s pushed ≡ false = not_pushed s pushed (not_covered own ms log s (length s.message.bytes) m less) in
    false_from_ne_true (is_over log pushed s) (λ over. elim (over_by log pushed s over f) [
      | inl a ↦ long_unread s.kind k a.0
      | inr a ↦ elim a [
        | inl b ↦ true≢false (sym (confirmed_pushed own log s l m b.2) ∙ not')
        | inr b ↦ true≢false (sym b.2 ∙ not')
      ]
    ])
