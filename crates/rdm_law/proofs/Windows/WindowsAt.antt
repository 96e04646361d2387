-- Each grant that is owed is a window of its message, and later ones start where the earlier ones end.
use Rattle.std.proofs.Common.{◌≡◌, ℕ, ◌+◌, ◌<◌, ◌≤◌, true, List, [], ◌∷◌, length, Some, refl, arith, ◌⊎◌, inl, inr, sym, ◌∙◌, ap, subst}
use Rattle.std.specs.Prelude.{slice_get}
use Rattle.std.proofs.lemmas.Option.{slice_get_within}
use Rattle.rdm_lists.specs.Lists.{Member}
use Rattle.rdm_num.specs.declared.numbers.Connid.{Connid}
use Rattle.rdm_num.specs.declared.numbers.OpId.{OpId}
use Rattle.rdm_num.specs.declared.head.Shape.TheVariants as S
use Rattle.rdm_pkt.specs.declared.Packet.TheVariants.{Cts}
use Rattle.rdm_match.specs.Matcher.{Pair, is_pair}
use Rattle.rdm_model.specs.Deeds.{Deed, Spelled}
use Rattle.rdm_model.specs.Beginnings.{Own, Messages}
use Rattle.rdm_model.specs.Matches.{pairs}
use Rattle.rdm_model.specs.Grants.{first_part, window, with_window, granted_bytes}
use Rattle.rdm_model.specs.Sends.{sends}
use Rattle.rdm_model.specs.Replies.{Reply, replies_by}
use Rattle.rdm_model.proofs.Matches.{member_is_pair, is_pair_still, pair_still}
use Rattle.rdm_law.proofs.Replies.Queue.{owed}
use Rattle.rdm_law.proofs.Replies.Answered.{slice_get_past}
use Rattle.rdm_law.proofs.Replies.Owed.{shape_in, recv_in, NewReply, new_from}
use Rattle.rdm_law.proofs.Replies.Clashes.{kind_of, recv_of}
use Rattle.rdm_law.proofs.Replies.NewReplies.{Telling, new_unique}
use Rattle.rdm_law.proofs.Windows.Windows.{Tells, tells_before, first_stays, is_window, reach, reach_more}
use Rattle.rdm_lists.proofs.Places.{slice_get-append, slice_get-member, slice_get_split}

-- two grants of one receive
pub record ClashGrant (r s : Reply) : Type 0 where
  pub send : OpId
  pub recv : OpId
  pub size : ℕ
  pub connid : Connid
  pub is : r.item ≡ Spelled (Cts send recv size connid)
  pub send' : OpId
  pub recv' : OpId
  pub size' : ℕ
  pub connid' : Connid
  pub is' : s.item ≡ Spelled (Cts send' recv' size' connid')
  pub recv_is : recv.0 ≡ recv'.0

-- a deed makes one grant of a receive owed at most
pub grant_tells : Telling ClashGrant
unfolding kind_of recv_of
grant_tells =
    record {
      back = λ r s c. record {
        send = c.send';
        recv = c.recv';
        size = c.size';
        connid = c.connid';
        is = c.is';
        send' = c.send;
        recv' = c.recv;
        size' = c.size;
        connid' = c.connid;
        is' = c.is;
        recv_is = sym c.recv_is;
      };
      kinds = λ r s c. ap kind_of c.is ∙ sym (ap kind_of c.is');
      recvs = λ r s c k. ap recv_of c.is ∙ c.recv_is ∙ sym (ap recv_of c.is');
      asks = λ to a b c. (let e = c.is in cc);
      receipts = λ r s c k. (let f = ap kind_of c.is in absurd (cc));
    }

-- the grant of a window that a deed opens, at its place among all that is owed
pub record NewWindow (own : Own) (ms : Messages) (d : Deed) (before : List Deed) (p : Pair) (start size place : ℕ) : Type 0 where
  pub index : ℕ
  pub place_is : place ≡ length (owed own ms before) + index
  pub reply' : Reply
  pub stands : slice_get (replies_by own ms.head (sends own ms before) d before) index ≡ Some reply'
  pub to_is : p.message.life ≡ reply'.to
  pub send : OpId
  pub credits : ℕ
  pub shape_is : shape_in ms.head p ≡ S.LongCts send credits
  pub is : reply'.item ≡ Spelled (Cts send (recv_in p) size own.life.connid)
  pub member : Member p (pairs own.limits.first ms.head (d ∷ before))
  pub start_is : start ≡ first_part (d ∷ before) p.message.life p.message.no.0 + granted_bytes own.limits ms.head before p
  pub size_is : size ≡ window own.limits ms.head (d ∷ before) p (granted_bytes own.limits ms.head before p)
  pub has_byte : 0 < size

-- a window of a pair's message, whose grant stands at that place of all that is owed
abbrev pub WindowAt : Own → Messages → Pair → (start size place : ℕ) → List Deed → Type 0
WindowAt own ms p start size place [] = ⊥
WindowAt own ms p start size place (d ∷ before) = NewWindow own ms d before p start size place ⊎ WindowAt own ms p start size place before

-- a grant and its window
pub record OwedWindow (own : Own) (ms : Messages) (log : List Deed) (place : ℕ) (r : Reply) (send recv : OpId) (size : ℕ) : Type 0 where
  pub pair : Pair
  pub start : ℕ
  pub window' : WindowAt own ms pair start size place log
  pub to_is : pair.message.life ≡ r.to
  pub recv_is : recv ≡ recv_in pair
  pub credits : ℕ
  pub shape_is : shape_in ms.head pair ≡ S.LongCts send credits

-- a grant that a deed makes owed is of the window that it opens
new_window : (own : Own) (ms : Messages) (d : Deed) (before : List Deed) (place index : ℕ) (r : Reply) (send recv : OpId) (size : ℕ) (connid : Connid)
    → place ≡ length (owed own ms before) + index → slice_get (replies_by own ms.head (sends own ms before) d before) index ≡ Some r
    → r.item ≡ Spelled (Cts send recv size connid) → NewReply own ms.head (sends own ms before) d before r → OwedWindow own ms (d ∷ before) place r send recv size
new_window own ms d before place index r send recv size connid at stands is (inl n) = (let e = n.is in cc)
new_window own ms d before place index r send recv size connid at stands is (inr (inl n)) = (let e = n.is in cc)
new_window own ms d before place index r send recv size connid at stands is (inr (inr (inl n))) =
    let e = n.is in
    let s : n.send ≡ send = cc in
    let v : recv ≡ recv_in n.pair = cc in
    let z : size ≡ window own.limits ms.head (d ∷ before) n.pair (granted_bytes own.limits ms.head before n.pair) = cc in
    record {
      pair = n.pair;
      start = first_part (d ∷ before) n.pair.message.life n.pair.message.no.0 + granted_bytes own.limits ms.head before n.pair;
      window' = inl (record {
        index = index;
        place_is = at;
        reply' = r;
        stands = stands;
        to_is = n.to_is;
        send = n.send;
        credits = n.credits;
        shape_is = n.shape_is;
        is = n.is ∙ ap (λ x. Spelled (Cts n.send (recv_in n.pair) x own.life.connid)) (sym z);
        member = n.member;
        start_is = refl;
        size_is = z;
        has_byte = subst (λ x. 0 < x) (sym z) n.has_byte;
      });
      to_is = n.to_is;
      recv_is = v;
      credits = n.credits;
      shape_is = n.shape_is ∙ ap (λ x. S.LongCts x n.credits) s;
    }
new_window own ms d before place index r send recv size connid at stands is (inr (inr (inr (inl n)))) = (let e = n.is in cc)
new_window own ms d before place index r send recv size connid at stands is (inr (inr (inr (inr (inl n))))) = (let e = n.is in cc)
new_window own ms d before place index r send recv size connid at stands is (inr (inr (inr (inr (inr n))))) = (let e = n.is in cc)

-- each grant that is owed is of a window
pub owed_window : (own : Own) (ms : Messages) (log : List Deed) (place : ℕ) (r : Reply) (send recv : OpId) (size : ℕ) (connid : Connid)
    → slice_get (owed own ms log) place ≡ Some r → r.item ≡ Spelled (Cts send recv size connid) → OwedWindow own ms log place r send recv size
unfolding owed
owed_window own ms [] place r send recv size connid h is = cc
owed_window own ms (d ∷ before) place r send recv size connid h is =
    elim (slice_get_split (owed own ms before) (replies_by own ms.head (sends own ms before) d before) place r h) [
      | inl a ↦
          let o = owed_window own ms before place r send recv size connid a is in
          record { pair = o.pair; start = o.start; window' = inr o.window'; to_is = o.to_is; recv_is = o.recv_is; credits = o.credits; shape_is = o.shape_is }
      | inr a ↦
          new_window own ms d before place a.0 r send recv size connid a.1 a.2 is
          (new_from own ms.head (sends own ms before) d before r (slice_get-member (replies_by own ms.head (sends own ms before) d before) a.0 r a.2))
    ]

-- a window is of a pair
pub window_member : (own : Own) (ms : Messages) (log : List Deed) (p : Pair) (start size place : ℕ) → WindowAt own ms p start size place log
    → Member p (pairs own.limits.first ms.head log)
window_member own ms [] p start size place h = elim h [ ]
window_member own ms (d ∷ before) p start size place (inl n) = n.member
window_member own ms (d ∷ before) p start size place (inr h) = pair_still own.limits.first ms.head d before p (window_member own ms before p start size place h)

-- what a window says of its message
pub record WindowIn (own : Own) (ms : Messages) (log : List Deed) (p : Pair) (start size place : ℕ) : Type 0 where
  pub paired : is_pair (pairs own.limits.first ms.head log) p.recv.id.0 p.message.life p.message.no.0 ≡ true
  pub send : OpId
  pub credits : ℕ
  pub shape_is : shape_in ms.head p ≡ S.LongCts send credits
  pub has_byte : 0 < size
  pub reached : start + size ≤ reach own.limits ms.head log p
  pub within : start + size ≤ (ms.head p.message.life p.message.no.0).length
  pub reply' : Reply
  pub stands : slice_get (owed own ms log) place ≡ Some reply'
  pub is : reply'.item ≡ Spelled (Cts send (recv_in p) size own.life.connid)
  pub to_is : p.message.life ≡ reply'.to

-- a window lies in its message, and in what is granted
pub window_in : (own : Own) (ms : Messages) (log : List Deed) (p : Pair) (start size place : ℕ) → Tells ms.head log → WindowAt own ms p start size place log
    → WindowIn own ms log p start size place
unfolding owed granted_bytes with_window
window_in own ms [] p start size place tells h = elim h [ ]
window_in own ms (d ∷ before) p start size place tells (inl n) =
    let limits = own.limits in
    let z = n.size_is in
    let b = n.has_byte in
    let w = is_window limits ms.head (d ∷ before) p (granted_bytes limits ms.head before p) (subst (λ x. 0 < x) n.size_is n.has_byte) in
    let i = w.within in
    let s = n.start_is in
    record {
      paired = member_is_pair (pairs limits.first ms.head (d ∷ before)) p n.member;
      send = n.send;
      credits = n.credits;
      shape_is = n.shape_is;
      has_byte = n.has_byte;
      reached = omega arith;
      within = omega arith;
      reply' = n.reply';
      stands = slice_get_past (owed own ms before) (replies_by own ms.head (sends own ms before) d before) place n.index n.place_is ∙ n.stands;
      is = n.is;
      to_is = n.to_is;
    }
window_in own ms (d ∷ before) p start size place tells (inr h) =
    let w = window_in own ms before p start size place (tells_before ms.head d before tells) h in
    let m = (reach_more own.limits ms.head d before p w.send w.credits (tells_before ms.head d before tells) w.paired w.shape_is).1 in
    let r = w.reached in
    record {
      paired = is_pair_still own.limits.first ms.head d before p.recv.id.0 p.message.life p.message.no.0 w.paired;
      send = w.send;
      credits = w.credits;
      shape_is = w.shape_is;
      has_byte = w.has_byte;
      reached = omega arith;
      within = w.within;
      reply' = w.reply';
      stands = slice_get-append (owed own ms before) (replies_by own ms.head (sends own ms before) d before) place w.reply' w.stands;
      is = w.is;
      to_is = w.to_is;
    }

-- a window starts past the first part
pub window_from : (own : Own) (ms : Messages) (log : List Deed) (p : Pair) (start size place : ℕ) → Tells ms.head log → WindowAt own ms p start size place log
    → first_part log p.message.life p.message.no.0 ≤ start
window_from own ms [] p start size place tells h = elim h [ ]
window_from own ms (d ∷ before) p start size place tells (inl n) = let s = n.start_is in omega arith
window_from own ms (d ∷ before) p start size place tells (inr h) =
    let t = tells_before ms.head d before tells in
    let w = window_in own ms before p start size place t h in
    let e = first_stays own.limits.first ms.head d before p w.send w.credits t w.paired w.shape_is in
    let l = window_from own ms before p start size place t h in
    omega arith

-- two windows of one message: they are one, or one ends before the other starts
abbrev pub InOrder : (start size place start' size' place' : ℕ) → Type 0
InOrder start size place start' size' place' =
    ((place ≡ place') × (start ≡ start') × (size ≡ size'))
    ⊎ (((place < place') × (start + size ≤ start')) ⊎ ((place' < place) × (start' + size' ≤ start)))

-- an older window ends where a new one starts, or before
older_first : (own : Own) (ms : Messages) (d : Deed) (before : List Deed) (p : Pair) (start size place start' size' place' : ℕ) → Tells ms.head (d ∷ before)
    → WindowAt own ms p start size place before → NewWindow own ms d before p start' size' place' → (place < place') × (start + size ≤ start')
older_first own ms d before p start size place start' size' place' tells h n =
    let t = tells_before ms.head d before tells in
    let w = window_in own ms before p start size place t h in
    let m = (reach_more own.limits ms.head d before p w.send w.credits t w.paired w.shape_is).0 in
    let l = slice_get_within (owed own ms before) place w.reply' w.stands in
    let a = n.place_is in
    let b = n.start_is in
    let c = w.reached in
    (omega arith, omega arith)

-- windows of one message are in order of their places
pub windows_in_order : (own : Own) (ms : Messages) (log : List Deed) (p : Pair) (start size place start' size' place' : ℕ) → Tells ms.head log
    → WindowAt own ms p start size place log → WindowAt own ms p start' size' place' log → InOrder start size place start' size' place'
windows_in_order own ms [] p start size place start' size' place' tells h k = elim h [ ]
windows_in_order own ms (d ∷ before) p start size place start' size' place' tells (inl n) (inl m) =
    let clash : ClashGrant n.reply' m.reply' =
    record {
      send = n.send;
      recv = recv_in p;
      size = size;
      connid = own.life.connid;
      is = n.is;
      send' = m.send;
      recv' = recv_in p;
      size' = size';
      connid' = own.life.connid;
      is' = m.is;
      recv_is = refl;
    } in
    let e = new_unique ClashGrant grant_tells own ms (sends own ms before) d before n.index m.index n.reply' m.reply' n.stands m.stands clash in
    let a = n.place_is in
    let b = m.place_is in
    inl (omega arith, n.start_is ∙ sym m.start_is, n.size_is ∙ sym m.size_is)
windows_in_order own ms (d ∷ before) p start size place start' size' place' tells (inl n) (inr k) =
    inr (inr (older_first own ms d before p start' size' place' start size place tells k n))
windows_in_order own ms (d ∷ before) p start size place start' size' place' tells (inr h) (inl m) =
    inr (inl (older_first own ms d before p start size place start' size' place' tells h m))
windows_in_order own ms (d ∷ before) p start size place start' size' place' tells (inr h) (inr k) =
    windows_in_order own ms before p start size place start' size' place' (tells_before ms.head d before tells) h k
