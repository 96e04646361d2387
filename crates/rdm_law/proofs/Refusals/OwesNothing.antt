-- What did nothing makes a life owe nothing, and takes nothing of what it owes away.
use Rattle.std.proofs.Common.{◌≡◌, ℕ, ◌+◌, Bool, true, false, not, ◌&&◌, List, [], ◌∷◌, ◌++◌, map, length, refl, ap, ◌∙◌, sym, subst, inl, inr, arith}
use Rattle.std.specs.Prelude.{filter, unwrap_or}
use Rattle.std.specs.List.{list_any}
use Rattle.std.proofs.lemmas.List.{append-nil}
use Rattle.std.proofs.lemmas.Bool.{cases_lt}
use Rattle.rdm_lists.specs.Lists.{Member}
use Rattle.rdm_num.specs.Lives.{same_life}
use Rattle.rdm_num.specs.Pieces.{Piece, covers}
use Rattle.rdm_num.specs.declared.numbers.Life.{Life}
use Rattle.rdm_num.specs.declared.numbers.OpId.{OpId}
use Rattle.rdm_num.specs.declared.head.Head.{Head}
use Rattle.rdm_num.specs.declared.head.Shape.{Shape}
use Rattle.rdm_num.specs.declared.head.Shape.TheVariants as S
use Rattle.rdm_pkt.specs.declared.Packet.{Packet}
use Rattle.rdm_match.specs.Matcher.{Pair, run}
use Rattle.rdm_model.specs.declared.job.Job.{Job}
use Rattle.rdm_model.specs.declared.entry.Entry.{Entry}
use Rattle.rdm_model.specs.Deeds.{Deed, Nothing}
use Rattle.rdm_model.specs.Beginnings.{Own, Messages, Heads, own_of, rank_of}
use Rattle.rdm_model.specs.Heard.{heard_head, head_by}
use Rattle.rdm_model.specs.Currents.{forgotten_by}
use Rattle.rdm_model.specs.Matches.{pairs, matching, events_by}
use Rattle.rdm_model.specs.Parts.{carried_pieces}
use Rattle.rdm_model.specs.Receives.{is_filled}
use Rattle.rdm_model.specs.Sends.{Sent, sends}
use Rattle.rdm_model.specs.Grants.{grants, grants_by, first_part, first_part_taken, first_part_by, window, granted_bytes}
use Rattle.rdm_model.specs.Replies.{Reply, reply, handshake_by, given_by, pair_items, pair_replies, grant_for, replies_by, without_lives, without_forgotten}
use Rattle.rdm_model.specs.Dues.{Progress, progress, after_deed, after_push, next_packet, next_send, next_due, due}
use Rattle.rdm_model.specs.Lawful.{life_deeds, sent_to}
use Rattle.rdm_model.proofs.Matches.{member_is_pair}
use Rattle.rdm_model.proofs.SameRegions.{Agree}
use Rattle.rdm_model.proofs.SameDues.{progress_same, due_same}
use Rattle.rdm_law.specs.Clauses.{OwesAs, DropsOweNothing}
use Rattle.rdm_law.proofs.Accounts.Wired.{Played}
use Rattle.rdm_law.proofs.Accounts.Known.{account}
use Rattle.rdm_law.proofs.Accounts.Named.{pairs_of, head_length}
use Rattle.rdm_law.proofs.Replies.Owed.{shape_in, recv_in}
use Rattle.rdm_law.proofs.Windows.Windows.{reach, is_window}
use Rattle.rdm_law.proofs.Windows.Granting.{cts_granting}
use Rattle.rdm_law.proofs.Windows.GrantsEnd.{granted_all}
use Rattle.rdm_law.proofs.Classes.ClassOverlap.{pair_head}
use Rattle.rdm_law.proofs.Classes.ClassFree.{all_free}
use Rattle.rdm_law.proofs.Accounts.Sent.{agree_sent}
use Rattle.rdm_law.proofs.Accounts.SendsAre.{sends_are, at_life_deeds}
use Rattle.rdm_law.proofs.Central.LawfulPlayed.{lawful_played}
use Rattle.rdm_law.proofs.Refusals.StandsStill.{and_not, carried_still, filled_still, sends_still, over_still}
use Rattle.rdm_law.proofs.Refusals.DroppedOnly.{deed_is}
use Rattle.rdm_lists.proofs.Options.{or_else-none}
use Rattle.rdm_lists.proofs.Same.{flat_map_none}

-- a test that each element passes
filter_all : {A : Type 0} (t : A → Bool) (xs : List A) → ((x : A) → t x ≡ true) → filter t xs ≡ xs
filter_all t [] h = refl
filter_all t (x ∷ xs) h = let a = h x in let b = filter_all t xs h in rw (a, b) refl

-- the first part of a message is as long as it was
first_part_still : (log : List Deed) (source : Life) (n : ℕ) → first_part (Nothing ∷ log) source n ≡ first_part log source n
unfolding first_part first_part_taken first_part_by
first_part_still log source n = ap (λ o. unwrap_or o 0) (or_else-none (first_part_taken log source n))

-- no window of a message opens: where all that was granted has come, the whole message is granted
no_window : (job : Job) (history : List Entry) (i : Life) (p : Pair) → Played job history → Member p (pairs_of job history i)
    → window (own_of job i).limits (account job history i).head (Nothing ∷ life_deeds job history i) p (granted_bytes (own_of job i).limits (account job history i).head (life_deeds job history i) p) ≡ 0
no_window job history i p played m =
    let own = own_of job i in
    let heads = (account job history i).head in
    let log = life_deeds job history i in
    let j = p.message.life in
    let n = p.message.no.0 in
    let granted = granted_bytes own.limits heads log p in
    let size = window own.limits heads (Nothing ∷ log) p granted in
    elim (cases_lt 0 size) [
      | inr none ↦ omega arith
      | inl some ↦ absurd (
          let w = is_window own.limits heads (Nothing ∷ log) p granted some in
          let k = pair_head job history i j p played m refl in
          let g = (cts_granting job history i j j p w.send w.credits m refl refl k.known k.head_is w.shape_is).0 in
          let f = first_part_still log j n in
          let c : covers (carried_pieces own.limits.first heads log j n) (reach own.limits heads log p) ≡ true =
          subst (λ (x : ℕ). covers (carried_pieces own.limits.first heads log j n) (x + granted) ≡ true) f
          (subst (λ (ps : List Piece). covers ps (first_part (Nothing ∷ log) j n + granted) ≡ true) (carried_still own.limits.first heads log j n) w.covered) in
          let all = granted_all job history i j p k.known.sent played g c in
          let l : (heads j n).length ≡ length k.known.sent.message.bytes = ap (λ (h : Head). h.length) k.head_is ∙ head_length job.limits k.known.sent.message k.known.sent.kind in
          let within = w.within in
          omega arith)
    ]

-- a window without a byte is not granted
no_grant : (own : Own) (shape : Shape) (recv : OpId) (size : ℕ) → size ≡ 0 → grant_for own shape recv size ≡ []
unfolding grant_for
no_grant own (S.LongCts send credits) recv size e = rw e refl
no_grant own S.Eager recv size e = refl
no_grant own S.Medium recv size e = refl
no_grant own (S.LongRead send iov) recv size e = refl
no_grant own (S.Runt send iov runt) recv size e = refl

-- a pair that was there owes nothing where no window opens
no_items : (own : Own) (heads : Heads) (log : List Deed) (p : Pair) → Member p (pairs own.limits.first heads log)
    → window own.limits heads (Nothing ∷ log) p (granted_bytes own.limits heads log p) ≡ 0 → pair_items own heads Nothing log p ≡ []
unfolding pair_items
no_items own heads log p m none =
    let paired = member_is_pair (pairs own.limits.first heads log) p m in
    let same = filled_still own.limits.first heads log p in
    let over : (is_filled own.limits.first heads (Nothing ∷ log) p && not (is_filled own.limits.first heads log p)) ≡ false =
    ap (λ b. b && not (is_filled own.limits.first heads log p)) same ∙ and_not (is_filled own.limits.first heads log p) in
    let grant = no_grant own (shape_in heads p) (recv_in p) (window own.limits heads (Nothing ∷ log) p (granted_bytes own.limits heads log p)) none in
    rw (paired, over, grant) refl

-- nothing is owed by what did nothing
no_replies : (own : Own) (heads : Heads) (sents : List Sent) (log : List Deed)
    → ((p : Pair) → Member p (pairs own.limits.first heads log) → window own.limits heads (Nothing ∷ log) p (granted_bytes own.limits heads log p) ≡ 0)
    → replies_by own heads sents Nothing log ≡ []
unfolding replies_by handshake_by given_by pair_replies matching events_by run
no_replies own heads sents log none =
    ap (λ (rs : List Reply). rs ++ []) (flat_map_none (pair_replies own heads Nothing log) (pairs own.limits.first heads log)
    (λ p m. ap (map (reply p.message.life)) (no_items own heads log p m (none p m))))

-- nothing that is owed goes
none_forgotten : (log : List Deed) (rs : List Reply) → without_forgotten log Nothing rs ≡ rs
unfolding without_forgotten without_lives forgotten_by
none_forgotten log rs = filter_all (λ (r : Reply). not (list_any (same_life r.to) [])) rs (λ r. refl)

-- the grants that were taken
grants_still : (log : List Deed) (peer : Life) (send : ℕ) → grants (Nothing ∷ log) peer send ≡ grants log peer send
unfolding grants grants_by
grants_still log peer send = append-nil (grants log peer send)

-- the next packet of a send
next_packet_still : (own : Own) (log : List Deed) (s : Sent) (pushed : List Packet) → next_packet own (Nothing ∷ log) s pushed ≡ next_packet own log s pushed
unfolding next_packet
next_packet_still own log s pushed = rw (grants_still log s.to s.number) refl

-- the next packet of the sends
next_send_still : (own : Own) (log : List Deed) (packets : ℕ → List Packet) (ss : List Sent) → next_send own (Nothing ∷ log) packets ss ≡ next_send own log packets ss
unfolding next_send
next_send_still own log packets [] = refl
next_send_still own log packets (s ∷ ss) =
    let a = over_still log (packets s.number) s in
    let b = next_packet_still own log s (packets s.number) in
    let c = next_send_still own log packets ss in
    rw (a, b, c) refl

-- the progress is the same
progress_still : (own : Own) (ms : Messages) (log : List Deed)
    → ((p : Pair) → Member p (pairs own.limits.first ms.head log) → window own.limits ms.head (Nothing ∷ log) p (granted_bytes own.limits ms.head log p) ≡ 0)
    → progress own ms (Nothing ∷ log) ≡ progress own ms log
unfolding progress after_deed after_push
progress_still own ms log none =
    let p = progress own ms log in
    let e : without_forgotten log Nothing p.replies ++ replies_by own ms.head (sends own ms log) Nothing log ≡ p.replies =
    ap (λ (rs : List Reply). rs ++ replies_by own ms.head (sends own ms log) Nothing log) (none_forgotten log p.replies)
    ∙ ap (λ (rs : List Reply). p.replies ++ rs) (no_replies own ms.head (sends own ms log) log none)
    ∙ append-nil p.replies in
    ap (λ (rs : List Reply). record p { replies = rs }) e

-- what a life owes by its own account, after what did nothing
owes_own : (own : Own) (ms : Messages) (log : List Deed)
    → ((p : Pair) → Member p (pairs own.limits.first ms.head log) → window own.limits ms.head (Nothing ∷ log) p (granted_bytes own.limits ms.head log p) ≡ 0)
    → OwesAs own ms (Nothing ∷ log) log
unfolding due next_due
owes_own own ms log none =
    let e = progress_still own ms log none in
    let s = sends_still own ms log in
    let n = next_send_still own log (progress own ms log).packets (sends own ms log) in
    record { replies_are = ap (λ (p : Progress). p.replies) e; next_is = rw (e, s, n) refl }

-- accounts that agree go on to agree
agree_still : (first : ℕ) (ms ns : Messages) (log : List Deed) → Agree first ms ns log → Agree first ms ns (Nothing ∷ log)
unfolding heard_head head_by
agree_still first ms ns log a =
    record {
      heads = λ source n h is. a.heads source n h (sym (or_else-none (heard_head log source n)) ∙ is);
      bytes = λ p is. a.bytes p (sym (filled_still first ms.head log p) ∙ is);
    }

-- what a life owes by an account that agrees with its own
owes_by : (own : Own) (ms ns : Messages) (log : List Deed) → Agree own.limits.first ms ns log → OwesAs own ms (Nothing ∷ log) log → OwesAs own ns (Nothing ∷ log) log
owes_by own ms ns log a o =
    let b = agree_still own.limits.first ms ns log a in
    let p = progress_same own ms ns log a in
    let q = progress_same own ms ns (Nothing ∷ log) b in
    let t = due_same own ms ns log a in
    let u = due_same own ms ns (Nothing ∷ log) b in
    record {
      replies_are = sym (ap (λ (x : Progress). x.replies) q) ∙ o.replies_are ∙ ap (λ (x : Progress). x.replies) p;
      next_is = sym u ∙ o.next_is ∙ t;
    }

-- a life owes what it owes
owes_same : (own : Own) (ms : Messages) (log : List Deed) → OwesAs own ms log log
owes_same own ms log = record { replies_are = refl; next_is = refl }

-- a drop makes no life owe anything
pub drops_owe_nothing : DropsOweNothing
drops_owe_nothing job e before d class' life fair lawful is =
    let own = own_of job life in
    let log = life_deeds job before life in
    let ms = sent_to job before life in
    let played = lawful_played job before fair (all_free job) lawful in
    let mine = owes_own own (account job before life) log (λ p m. no_window job before life p played m) in
    let theirs = owes_by own (account job before life) ms log (agree_sent job before life played (sends_are job before played)) mine in
    at_life_deeds (λ l. OwesAs own ms l log) job life e before
    (λ deed. subst (λ x. OwesAs own ms (x ∷ log) log) (sym (deed_is (rank_of job life.port.0).ops e.act d class' is)) theirs)
    (λ deed. owes_same own ms log)
