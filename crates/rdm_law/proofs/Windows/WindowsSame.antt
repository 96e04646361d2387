-- Windows are the same by accounts that agree, and stay as a log grows.
use Rattle.std.proofs.Common.{◌≡◌, ℕ, ◌+◌, List, [], ◌∷◌, length, Some, inl, inr, sym, ◌∙◌, ap, subst}
use Rattle.std.specs.Prelude.{slice_get}
use Rattle.rdm_lists.specs.Lists.{Member}
use Rattle.rdm_num.specs.declared.head.Head.{Head}
use Rattle.rdm_match.specs.Matcher.{Pair}
use Rattle.rdm_model.specs.Deeds.{Deed}
use Rattle.rdm_model.specs.Beginnings.{Own, Messages}
use Rattle.rdm_model.specs.Grants.{first_part, window, granted_bytes}
use Rattle.rdm_model.specs.Sends.{Sent, sends}
use Rattle.rdm_model.specs.Replies.{Reply, replies_by}
use Rattle.rdm_model.specs.Local.{heard_by}
use Rattle.rdm_model.proofs.Matches.{pair_heard}
use Rattle.rdm_model.proofs.SameMatches.{pairs_same}
use Rattle.rdm_model.proofs.SameRegions.{Agree, agree_before, sends_same}
use Rattle.rdm_model.proofs.SameReplies.{replies_by_same, window_same, granted_bytes_same}
use Rattle.rdm_model.proofs.Grows.{agree_grows}
use Rattle.rdm_law.proofs.Replies.Queue.{Placed}
use Rattle.rdm_law.proofs.Replies.Answered.{Answered}
use Rattle.rdm_law.proofs.Replies.ReplyDues.{owed_same, answered_same}
use Rattle.rdm_law.proofs.Windows.WindowsAt.{NewWindow, WindowAt}

-- a new window is the same by accounts that agree
new_window_same : (own : Own) (ms ns : Messages) (d : Deed) (before : List Deed) (p : Pair) (start size place : ℕ) → Agree own.limits.first ms ns (d ∷ before)
    → NewWindow own ms d before p start size place → NewWindow own ns d before p start size place
new_window_same own ms ns d before p start size place a n =
    let b = agree_before own.limits.first ms ns d before a in
    let first = own.limits.first in
    let o = owed_same own ms ns before b in
    let s = sends_same own ms ns before b in
    let r : replies_by own ms.head (sends own ms before) d before ≡ replies_by own ns.head (sends own ns before) d before =
    ap (λ (x : List Sent). replies_by own ms.head x d before) s ∙ replies_by_same own ms.head ns.head (sends own ns before) d before a.heads in
    let heard = pair_heard first ms.head (d ∷ before) p n.member in
    let head = a.heads p.message.life p.message.no.0 heard.0 heard.1 in
    let g = granted_bytes_same own.limits ms.head ns.head before p b.heads in
    let w = window_same own.limits ms.head ns.head (d ∷ before) p (granted_bytes own.limits ms.head before p) a.heads in
    record {
      index = n.index;
      place_is = n.place_is ∙ ap (λ (x : List Reply). length x + n.index) o;
      reply' = n.reply';
      stands = subst (λ (x : List Reply). slice_get x n.index ≡ Some n.reply') r n.stands;
      to_is = n.to_is;
      send = n.send;
      credits = n.credits;
      shape_is = ap (λ (x : Head). x.shape) (sym head) ∙ n.shape_is;
      is = n.is;
      member = subst (λ (x : List Pair). Member p x) (pairs_same first ms.head ns.head (d ∷ before) a.heads) n.member;
      start_is = n.start_is ∙ ap (λ x. first_part (d ∷ before) p.message.life p.message.no.0 + x) g;
      size_is = n.size_is ∙ w ∙ ap (λ x. window own.limits ns.head (d ∷ before) p x) g;
      has_byte = n.has_byte;
    }

-- windows are the same by accounts that agree
pub window_at_same : (own : Own) (ms ns : Messages) (log : List Deed) (p : Pair) (start size place : ℕ) → Agree own.limits.first ms ns log
    → WindowAt own ms p start size place log → WindowAt own ns p start size place log
window_at_same own ms ns [] p start size place a h = elim h [ ]
window_at_same own ms ns (d ∷ before) p start size place a (inl n) = inl (new_window_same own ms ns d before p start size place a n)
window_at_same own ms ns (d ∷ before) p start size place a (inr h) =
    inr (window_at_same own ms ns before p start size place (agree_before own.limits.first ms ns d before a) h)

-- a window of a life stays, by what it heard then
pub window_stays : (own : Own) (d : Deed) (before : List Deed) (p : Pair) (start size place : ℕ) → WindowAt own (heard_by own.limits.first before) p start size place before
    → WindowAt own (heard_by own.limits.first (d ∷ before)) p start size place (d ∷ before)
window_stays own d before p start size place h =
    inr (window_at_same own (heard_by own.limits.first before) (heard_by own.limits.first (d ∷ before)) before p start size place (agree_grows own.limits.first d before) h)

-- and so does a reply that was pushed
pub answered_stays : (own : Own) (d : Deed) (before : List Deed) (x : Placed) (k : ℕ) → Answered own (heard_by own.limits.first before) x k before
    → Answered own (heard_by own.limits.first (d ∷ before)) x k (d ∷ before)
answered_stays own d before x k h =
    inr (answered_same own (heard_by own.limits.first before) (heard_by own.limits.first (d ∷ before)) before x k (agree_grows own.limits.first d before) h)
