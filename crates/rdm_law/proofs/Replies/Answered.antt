-- Each reply that is owed stands at a place of its own, and is pushed once at most.
use Rattle.std.proofs.Common.{◌≡◌, ℕ, zero, suc, ◌+◌, ◌<◌, ◌≤◌, Bool, true, false, cond, List, [], ◌∷◌, ◌++◌, length, Option, Some, None, refl, arith, ◌⊎◌, inl, inr, sym, ◌∙◌, ap, subst}
use Rattle.std.specs.Prelude.{filter, slice_get}
use Rattle.std.proofs.lemmas.List.{length-append}
use Rattle.rdm_lists.specs.Lists.{Member}
use Rattle.rdm_model.specs.Deeds.{Deed, Did, PushedNote, Pushed, TookNote, Took, Polled, Nothing}
use Rattle.rdm_model.specs.Beginnings.{Own, Messages}
use Rattle.rdm_model.specs.Currents.{forgotten_by}
use Rattle.rdm_model.specs.Sends.{sends}
use Rattle.rdm_model.specs.Replies.{Reply, replies_by}
use Rattle.rdm_model.specs.Dues.{Due, Replies, progress, next_due, next_send, reply_due, due}
use Rattle.rdm_law.proofs.Replies.Queue.{owed, Placed, placed, popped, without, queue, replies_in, queue_replies, next_send_none}
use Rattle.rdm_lists.proofs.Members.{member-append_cases, member-filter, member-map}
use Rattle.rdm_lists.proofs.Places.{slice_get-append, slice_get-member}

-- places rise from one number on, below another
abbrev pub Rising : ℕ → List Placed → ℕ → Type 0
Rising low [] high = low ≤ high
Rising low (x ∷ xs) high = (low ≤ x.place) × Rising (suc x.place) xs high

-- places that rise do so from low to high
rising_ends : (low : ℕ) (q : List Placed) (high : ℕ) → Rising low q high → low ≤ high
rising_ends low [] high r = r
rising_ends low (x ∷ q) high r = let a = r.0 in let b = rising_ends (suc x.place) q high r.1 in omega arith

-- they rise from a lower number too
rising_lower : (low less : ℕ) (q : List Placed) (high : ℕ) → less ≤ low → Rising low q high → Rising less q high
rising_lower low less [] high le r = omega arith
rising_lower low less (x ∷ q) high le r = ((let a = r.0 in omega arith), r.1)

-- a filter of them rises
rising_filter : (t : Placed → Bool) (low : ℕ) (q : List Placed) (high : ℕ) → Rising low q high → Rising low (filter t q) high
rising_filter t low [] high r = r
rising_filter t low (x ∷ q) high r =
    elim (t x) as (λ b. Rising low (cond b (x ∷ filter t q) (filter t q)) high) [
      | true ↦ (r.0, rising_filter t (suc x.place) q high r.1)
      | false ↦ let a = r.0 in rising_lower (suc x.place) low (filter t q) high (omega arith) (rising_filter t (suc x.place) q high r.1)
    ]

-- places that are counted rise
rising_placed : (n : ℕ) (rs : List Reply) → Rising n (placed n rs) (n + length rs)
unfolding placed
rising_placed n [] = omega arith
rising_placed n (r ∷ rs) =
    let e : suc n + length rs ≡ n + length (r ∷ rs) = omega arith in
    let le : n ≤ n = omega arith in
    (le, subst (λ x. Rising (suc n) (placed (suc n) rs) x) e (rising_placed (suc n) rs))

-- places in a row, each of which rises
rising_append : (low : ℕ) (xs ys : List Placed) (mid high : ℕ) → Rising low xs mid → Rising mid ys high → Rising low (xs ++ ys) high
rising_append low [] ys mid high a b = rising_lower mid low ys high a b
rising_append low (x ∷ xs) ys mid high a b = (a.0, rising_append (suc x.place) xs ys mid high a.1 b)

-- each of them is from low on, and below high
pub rising_member : (low : ℕ) (q : List Placed) (high : ℕ) (x : Placed) → Rising low q high → Member x q → (low ≤ x.place) × (x.place < high)
rising_member low [] high x r h = elim h [ ]
rising_member low (y ∷ q) high x r (inl is) =
    let e = ap (λ (z : Placed). z.place) is in let a = r.0 in let b = rising_ends (suc y.place) q high r.1 in (omega arith, omega arith)
rising_member low (y ∷ q) high x r (inr h) =
    let m = rising_member (suc y.place) q high x r.1 h in let a = m.0 in let b = r.0 in (omega arith, m.1)

-- that reply, which stands at that place of all that was owed, was pushed by the deed before which k deeds stand
abbrev pub Answered : Own → Messages → Placed → ℕ → List Deed → Type 0
Answered own ms x k [] = ⊥
Answered own ms x k (d ∷ before) = ((d ≡ Pushed) × (k ≡ length before) × (slice_get (queue own ms before) 0 ≡ Some x)) ⊎ Answered own ms x k before

-- what the queue keeps: its places rise, past those of the replies that were pushed
pub record IsQueue (own : Own) (ms : Messages) (log : List Deed) : Type 0 where
  pub low : ℕ
  pub rising : Rising low (queue own ms log) (length (owed own ms log))
  pub past : (x : Placed) (k : ℕ) → Answered own ms x k log → x.place < low
  pub stands : (x : Placed) → Member x (queue own ms log) → slice_get (owed own ms log) x.place ≡ Some x.reply
  pub stood : (x : Placed) (k : ℕ) → Answered own ms x k log → slice_get (owed own ms log) x.place ≡ Some x.reply
  pub once : (x y : Placed) (k l : ℕ) → Answered own ms x k log → Answered own ms y l log → x.place ≡ y.place → k ≡ l

-- what a push leaves was there
popped_member : {A : Type 0} (d : Deed) (x : A) (q : List A) → Member x (popped d q) → Member x q
unfolding popped
popped_member Pushed x [] h = h
popped_member Pushed x (y ∷ q) h = inr h
popped_member (Did i) x q h = h
popped_member PushedNote x q h = h
popped_member (TookNote p b) x q h = h
popped_member (Took l i) x q h = h
popped_member Polled x q h = h
popped_member Nothing x q h = h

-- what a push leaves rises from past what it took
abbrev PoppedRises : Deed → ℕ → List Placed → ℕ → Type 0
PoppedRises d low q high =
    (next : ℕ) × (low ≤ next) × Rising next (popped d q) high × ((x : Placed) → d ≡ Pushed → slice_get q 0 ≡ Some x → x.place < next)

-- so it does
popped_rising : (d : Deed) (low : ℕ) (q : List Placed) (high : ℕ) → Rising low q high → PoppedRises d low q high
unfolding popped
popped_rising Pushed low [] high r = (low, omega arith, r, λ x e h. cc)
popped_rising Pushed low (y ∷ q) high r =
    let a = r.0 in (suc y.place, omega arith, r.1, λ x e h. let f : y ≡ x = cc in let g = ap (λ (z : Placed). z.place) f in omega arith)
popped_rising (Did i) low q high r = (low, omega arith, r, λ x e h. cc)
popped_rising PushedNote low q high r = (low, omega arith, r, λ x e h. cc)
popped_rising (TookNote p b) low q high r = (low, omega arith, r, λ x e h. cc)
popped_rising (Took l i) low q high r = (low, omega arith, r, λ x e h. cc)
popped_rising Polled low q high r = (low, omega arith, r, λ x e h. cc)
popped_rising Nothing low q high r = (low, omega arith, r, λ x e h. cc)

-- a reply at a place stands as far into its list
placed_at : (n : ℕ) (rs : List Reply) (x : Placed) → Member x (placed n rs) → (k : ℕ) × (x.place ≡ n + k) × (slice_get rs k ≡ Some x.reply)
unfolding placed
placed_at n [] x h = elim h [ ]
placed_at n (r ∷ rs) x (inl is) = (0, (let e = ap (λ (z : Placed). z.place) is in omega arith), ap (λ (z : Placed). Some z.reply) is)
placed_at n (r ∷ rs) x (inr h) = let m = placed_at (suc n) rs x h in (suc m.0, (let e = m.1 in omega arith), m.2)

-- what is appended stands past the others
pub slice_get_past : {A : Type 0} (xs ys : List A) (n k : ℕ) → n ≡ length xs + k → slice_get (xs ++ ys) n ≡ slice_get ys k
slice_get_past [] ys n k e = ap (λ x. slice_get ys x) (let f : n ≡ k = omega arith in f)
slice_get_past (x ∷ xs) ys zero k e = absurd (omega arith)
slice_get_past (x ∷ xs) ys (suc n) k e = slice_get_past xs ys n k (omega arith)

-- the first of a queue is at hand
pub head_member : (q : List Placed) (x : Placed) → slice_get q 0 ≡ Some x → Member x q
head_member q x h = slice_get-member q 0 x h

-- a deed keeps what the queue keeps
queue_step : (own : Own) (ms : Messages) (d : Deed) (before : List Deed) → IsQueue own ms before → IsQueue own ms (d ∷ before)
unfolding queue owed without
queue_step own ms d before was =
    let q = queue own ms before in
    let all = owed own ms before in
    let new = replies_by own ms.head (sends own ms before) d before in
    let p = popped_rising d was.low q (length all) was.rising in
    let e = length-append all new in
    record {
      low = p.0;
      rising = rising_append p.0 (without (forgotten_by before d) (popped d q)) (placed (length all) new) (length all) (length (all ++ new))
          (rising_filter _ p.0 (popped d q) (length all) p.2)
          (subst (λ x. Rising (length all) (placed (length all) new) x) (sym e) (rising_placed (length all) new));
      past = λ x k h. elim h [
        | inl a ↦ p.3 x a.0 a.2
        | inr a ↦ let l = was.past x k a in let m = p.1 in omega arith
      ];
      stands = λ x h. elim (member-append_cases x (without (forgotten_by before d) (popped d q)) (placed (length all) new) h) [
        | inl a ↦ slice_get-append all new x.place x.reply (was.stands x (popped_member d x q (member-filter _ x (popped d q) a).0))
        | inr a ↦ let m = placed_at (length all) new x a in slice_get_past all new x.place m.0 m.1 ∙ m.2
      ];
      stood = λ x k h. elim h [
        | inl a ↦ slice_get-append all new x.place x.reply (was.stands x (head_member q x a.2))
        | inr a ↦ slice_get-append all new x.place x.reply (was.stood x k a)
      ];
      once = λ x y k l h i s. elim h [
        | inl a ↦ elim i [
          | inl b ↦ a.1 ∙ sym b.1
          | inr b ↦ absurd (let u = was.past y l b in let v = rising_member was.low q (length all) x was.rising (head_member q x a.2) in let w = v.0 in omega arith)
        ]
        | inr a ↦ elim i [
          | inl b ↦ absurd (let u = was.past x k a in let v = rising_member was.low q (length all) y was.rising (head_member q y b.2) in let w = v.0 in omega arith)
          | inr b ↦ was.once x y k l a b s
        ]
      ];
    }

-- the queue keeps this after any deeds
pub is_queue : (own : Own) (ms : Messages) (log : List Deed) → IsQueue own ms log
unfolding queue owed
is_queue own ms [] =
    record { low = 0; rising = omega arith; past = λ x k h. elim h [ ]; stands = λ x h. elim h [ ]; stood = λ x k h. elim h [ ]; once = λ x y k l h i s. elim h [ ] }
is_queue own ms (d ∷ before) = queue_step own ms d before (is_queue own ms before)

-- what a push answered stands among all that was owed
pub answered_owed : (own : Own) (ms : Messages) (log : List Deed) (x : Placed) (k : ℕ) → Answered own ms x k log → slice_get (owed own ms log) x.place ≡ Some x.reply
answered_owed own ms log x k h = (is_queue own ms log).stood x k h

-- a place is answered by one push
pub answered_once : (own : Own) (ms : Messages) (log : List Deed) (x y : Placed) (k l : ℕ) → Answered own ms x k log → Answered own ms y l log → x.place ≡ y.place → k ≡ l
answered_once own ms log x y k l h i e = (is_queue own ms log).once x y k l h i e

-- what waits in the queue was not pushed
pub waits_unanswered : (own : Own) (ms : Messages) (log : List Deed) (x y : Placed) (k : ℕ) → Member x (queue own ms log) → Answered own ms y k log → x.place ≡ y.place → ⊥
waits_unanswered own ms log x y k h i e =
    let q = is_queue own ms log in
    let a = q.past y k i in
    let b = (rising_member q.low (queue own ms log) (length (owed own ms log)) x q.rising h).0 in
    omega arith

-- a reply that waits does so at a place of all that was owed
pub waits_owed : (own : Own) (ms : Messages) (log : List Deed) (r : Reply) → Member r (progress own ms log).replies
    → (x : Placed) × Member x (queue own ms log) × (x.reply ≡ r) × (slice_get (owed own ms log) x.place ≡ Some r)
waits_owed own ms log r h =
    let m = member-map (λ (x : Placed). x.reply) r (queue own ms log) (subst (λ (x : List Reply). Member r x) (sym (queue_replies own ms log)) h) in
    (m.0, m.1, m.2, (is_queue own ms log).stands m.0 m.1 ∙ ap Some m.2)

-- a due item that is a reply is the first of the queue
reply_first : (o : Option Reply) (others : Option Due) (r : Reply) → ((s : Reply) → others ≡ Some (Replies s) → ⊥) → reply_due o others ≡ Some (Replies r) → o ≡ Some r
unfolding reply_due
reply_first None others r never h = absurd (never r h)
reply_first (Some s) others r never h = cc

-- the first of the replies is that of the first place
first_of_map : (q : List Placed) (r : Reply) → slice_get (replies_in q) 0 ≡ Some r → (x : Placed) × (slice_get q 0 ≡ Some x) × (x.reply ≡ r)
first_of_map [] r h = cc
first_of_map (x ∷ q) r h = (x, refl, cc)

-- the reply that is due heads the queue
pub due_reply : (own : Own) (ms : Messages) (log : List Deed) (r : Reply) → due own ms log ≡ Some (Replies r)
    → (x : Placed) × (slice_get (queue own ms log) 0 ≡ Some x) × (x.reply ≡ r)
unfolding due next_due
due_reply own ms log r h =
    let p = progress own ms log in
    let f : slice_get p.replies 0 ≡ Some r = reply_first (slice_get p.replies 0) (next_send own log p.packets (sends own ms log)) r (next_send_none own log p.packets (sends own ms log)) h in
    first_of_map (queue own ms log) r (ap (λ (x : List Reply). slice_get x 0) (queue_replies own ms log) ∙ f)
