-- The pairs of all lives are no more than their sends, and neither are their bytes.
use Rattle.std.proofs.Common.{◌≡◌, ℕ, ◌+◌, ◌≤◌, true, cond, List, [], ◌∷◌, ◌++◌, length, map, refl, arith, inl, inr, sym, ◌∙◌, ap, subst}
use Rattle.rdm_lists.specs.Lists.{Member}
use Rattle.rdm_num.specs.Lives.{same_life}
use Rattle.rdm_num.specs.declared.numbers.Connid.{Connid}
use Rattle.rdm_num.specs.declared.numbers.Life.{Life}
use Rattle.rdm_match.specs.Matcher.{Pair}
use Rattle.rdm_pkt.specs.Openings.{message_head}
use Rattle.rdm_num.specs.declared.head.Head.{Head}
use Rattle.rdm_model.specs.declared.job.Job.{Job}
use Rattle.rdm_model.specs.declared.job.Instr.TheVariants.{OpenLife}
use Rattle.rdm_model.specs.declared.entry.Entry.{Entry}
use Rattle.rdm_model.specs.Deeds.{Deed, Did, of_life}
use Rattle.rdm_model.specs.Beginnings.{own_of}
use Rattle.rdm_model.specs.Sends.{Sent}
use Rattle.rdm_model.specs.Lawful.{port_deeds, life_deeds}
use Rattle.rdm_model.proofs.Numbers.{made}
use Rattle.rdm_law.proofs.Lives.Lives.{at_of_life}
use Rattle.rdm_law.proofs.Matching.Distinct.{matching_distinct}
use Rattle.rdm_law.proofs.Matching.Numbered.{LacksPair, PairsApart, matching_numbered}
use Rattle.rdm_law.proofs.Lives.Opened.{IsOpened, open_opened}
use Rattle.rdm_law.proofs.Accounts.Wired.{Played}
use Rattle.rdm_law.proofs.Accounts.Known.{account, sends_of}
use Rattle.rdm_law.proofs.Accounts.Named.{pairs_of, pair_known}
use Rattle.rdm_law.proofs.Bound.Pigeons.{AreDistinct, one_passes}
use Rattle.rdm_law.proofs.Bound.LifeCounts.{lives_of, lives_distinct, lives_member}
use Rattle.rdm_law.proofs.Bound.SendSums.{sent_bytes}
use Rattle.rdm_lists.proofs.Members.{member-append_left, member-append_right, map-member}
use Rattle.rdm_lists.proofs.Sums.{total, total-append, total_le, total_swap, total-map, take_out}
use Rattle.rdm_num.proofs.Lives.{same_life-true, same_life-refl}

-- elements that each have one of their own in a list weigh no more than that list
pub injected : {A B : Type 0} (f : A → ℕ) (g : B → ℕ) (R : A → B → Type 0) (xs : List A) (ys : List B) → AreDistinct xs
    → ((x : A) → Member x xs → (y : B) × Member y ys × R x y × (f x ≤ g y)) → ((x z : A) (y : B) → R x y → R z y → x ≡ z) → total f xs ≤ total g ys
unfolding total
injected f g R [] ys d h one = omega arith
injected {A} {B} f g R (x ∷ xs) ys d h one =
    let a = h x (inl refl) in
    let w = take_out g a.0 ys a.1 in
    let r = injected f g R xs w.rest d.1
    (λ z m.
    let b = h z (inr m) in
    elim (w.others b.0 b.1) [
      | inl same ↦
          let s : R z a.0 = subst (λ (y : B). R z y) same b.2 in
          absurd (d.0 (subst (λ (v : A). Member v xs) (one z x a.0 s a.2) m))
      | inr k ↦ (b.0, k, b.2, b.3)
    ])
    one in
    let s = w.sum in
    let l = a.3 in
    omega arith

-- a pair that a list lacks is no member of it
lacks_no : (p : Pair) (ps : List Pair) → LacksPair p.recv.id.0 ps → Member p ps → ⊥
lacks_no p [] l m = elim m [ ]
lacks_no p (q ∷ ps) l (inl is) = l.0 (ap (λ (x : Pair). x.recv.id.0) is)
lacks_no p (q ∷ ps) l (inr m) = lacks_no p ps l.1 m

-- pairs that are apart are distinct
apart_distinct : (ps : List Pair) → PairsApart ps → AreDistinct ps
apart_distinct [] a = tt
apart_distinct (p ∷ ps) a = (lacks_no p ps a.0, apart_distinct ps a.1)

-- the pairs of a life are distinct
pub pairs_distinct : (job : Job) (history : List Entry) (i : Life) → AreDistinct (pairs_of job history i)
pairs_distinct job history i =
    apart_distinct (pairs_of job history i) (matching_numbered (own_of job i).limits.first (account job history i).head (life_deeds job history i)).pairs_apart

-- what a life did follows its opening
did_opened : (c : Connid) (log : List Deed) (d : Deed) → Member d (of_life c log) → Member (Did (OpenLife c)) log
unfolding of_life
did_opened c [] d m = elim m [ ]
did_opened c (x ∷ before) d m =
    at_of_life (λ ds. Member d ds → Member (Did (OpenLife c)) (x ∷ before)) c x before
    (λ o k. inr (open_opened before c o))
    (λ o k. inr (did_opened c before d k)) m

-- a life that did something was opened
pub did_open : (job : Job) (history : List Entry) (j : Life) (d : Deed) → Member d (life_deeds job history j) → IsOpened job history j
unfolding life_deeds
did_open job history j d m = did_opened j.connid (port_deeds job j.port.0 history) d m

-- a life that sent was opened
sender_opened : (job : Job) (history : List Entry) (j : Life) (s : Sent) → Member s (sends_of job history j) → IsOpened job history j
sender_opened job history j s m =
    let log = life_deeds job history j in
    let k = made (own_of job j) (account job history j) log s m in
    did_open job history j k.deed (subst (λ (ds : List Deed). Member k.deed ds) (sym k.split) (member-append_right k.deed k.newer (k.deed ∷ k.before) (inl refl)))

-- the sends of lives, each with its life
unfoldable all_sends : Job → List Entry → List Life → List (Life × Sent)
all_sends job history [] = []
all_sends job history (j ∷ ls) = map (λ (s : Sent). (j, s)) (sends_of job history j) ++ all_sends job history ls

-- a send of one of the lives
in_sends : (job : Job) (history : List Entry) (ls : List Life) (j : Life) (s : Sent) → Member j ls → Member s (sends_of job history j) → Member {A = Life × Sent} (j, s) (all_sends job history ls)
unfolding all_sends
in_sends job history [] j s m k = elim m [ ]
in_sends job history (l ∷ ls) j s (inl is) k =
    let f : Sent → Life × Sent = λ t. (l, t) in
    let a : Member (f s) (map f (sends_of job history l)) = map-member f s (sends_of job history l) (subst (λ (x : Life). Member s (sends_of job history x)) (sym is) k) in
    let b : Member {A = Life × Sent} (j, s) (map f (sends_of job history l)) = subst (λ (x : Life). Member {A = Life × Sent} (x, s) (map f (sends_of job history l))) is a in
    member-append_left {A = Life × Sent} (j, s) (map f (sends_of job history l)) (all_sends job history ls) b
in_sends job history (l ∷ ls) j s (inr m) k =
    let f : Sent → Life × Sent = λ t. (l, t) in
    member-append_right {A = Life × Sent} (j, s) (map f (sends_of job history l)) (all_sends job history ls) (in_sends job history ls j s m k)

-- the weight of a send
abbrev pub send_load : Sent → ℕ
send_load s = 1 + sent_bytes s

-- the same, if it is to that life
abbrev load_to : Life → Sent → ℕ
load_to i s = cond (same_life s.to i) (send_load s) 0

-- their weight, life by life
sends_total : (job : Job) (history : List Entry) (i : Life) (ls : List Life) → total (λ (x : Life × Sent). load_to i x.1) (all_sends job history ls) ≡ total (λ j. total (load_to i) (sends_of job history j)) ls
unfolding all_sends total
sends_total job history i [] = refl
sends_total job history i (j ∷ ls) =
    let r = sends_total job history i ls in
    let g : Life × Sent → ℕ = λ x. load_to i x.1 in
    let f : Sent → Life × Sent = λ t. (j, t) in
    let a = total-append g (map f (sends_of job history j)) (all_sends job history ls) in
    let b = total-map g f (sends_of job history j) in
    omega arith

-- the weight of a pair
abbrev pub pair_load : Job → List Entry → Life → Pair → ℕ
pair_load job history i p = 1 + ((account job history i).head p.message.life p.message.no.0).length

-- the send of a pair
record IsPairOf (job : Job) (history : List Entry) (i : Life) (p : Pair) (x : Life × Sent) : Type 0 where
  member : Member p (pairs_of job history i)
  life_is : p.message.life ≡ x.0
  number_is : x.1.message.no.0 ≡ p.message.no.0

-- each pair has its send, which weighs as much
pair_send : (job : Job) (history : List Entry) (i : Life) (p : Pair) → Played job history → Member p (pairs_of job history i)
    → (x : Life × Sent) × Member x (all_sends job history (lives_of job history)) × IsPairOf job history i p x × (pair_load job history i p ≤ load_to i x.1)
unfolding message_head
pair_send job history i p played m =
    let k = pair_known job history i p played m in
    let s = k.known.sent in
    let j = p.message.life in
    let opened = sender_opened job history j s k.known.member in
    let len : ((account job history i).head p.message.life p.message.no.0).length ≡ length s.message.bytes = ap (λ (h : Head). h.length) k.head_is in
    let to : same_life s.to i ≡ true = subst (λ (x : Life). same_life s.to x ≡ true) k.known.to_is (same_life-refl s.to) in
    let load : load_to i s ≡ send_load s = rw to refl in (
      (j, s),
      in_sends job history (lives_of job history) j s (lives_member job history j opened) k.known.member,
      record { member = m; life_is = refl; number_is = k.known.number_is },
      omega arith,
    )

-- the pairs of a life weigh no more than what was sent to it
life_pairs : (job : Job) (history : List Entry) (i : Life) → Played job history
    → total (pair_load job history i) (pairs_of job history i) ≤ total (λ j. total (load_to i) (sends_of job history j)) (lives_of job history)
life_pairs job history i played =
    let g : Life × Sent → ℕ = λ x. load_to i x.1 in
    let d = matching_distinct (own_of job i).limits.first (account job history i).head (life_deeds job history i) in
    let a = injected (pair_load job history i) g (IsPairOf job history i) (pairs_of job history i) (all_sends job history (lives_of job history)) (pairs_distinct job history i)
    (λ p m. pair_send job history i p played m)
    (λ p q x h k. d.once p q h.member k.member (h.life_is ∙ sym k.life_is) (sym h.number_is ∙ k.number_is)) in
    let b = sends_total job history i (lives_of job history) in
    omega arith

-- a send is to one life
one_to : (s : Sent) (x y : Life) → same_life s.to x ≡ true → same_life s.to y ≡ true → x ≡ y
one_to s x y h k = sym (same_life-true s.to x h) ∙ same_life-true s.to y k

-- so what it weighs to each of the lives is what it weighs
life_sends : (ls : List Life) (sents : List Sent) → AreDistinct ls → total (λ i. total (load_to i) sents) ls ≤ total send_load sents
life_sends ls sents d =
    let a = total_swap (λ i s. load_to i s) ls sents in
    let b = total_le (λ s. total (λ i. load_to i s) ls) send_load sents (λ s m. one_passes (λ i. same_life s.to i) (send_load s) ls d (λ x y h k. one_to s x y h k)) in
    omega arith

-- the pairs of all lives are no more than their sends, with their bytes
pub pairs_exchanged : (job : Job) (history : List Entry) → Played job history
    → total (λ i. total (pair_load job history i) (pairs_of job history i)) (lives_of job history) ≤ total (λ j. total send_load (sends_of job history j)) (lives_of job history)
pairs_exchanged job history played =
    let ls = lives_of job history in
    let a = total_le (λ i. total (pair_load job history i) (pairs_of job history i)) (λ i. total (λ j. total (load_to i) (sends_of job history j)) ls) ls (λ i m. life_pairs job history i played) in
    let b = total_swap (λ i j. total (load_to i) (sends_of job history j)) ls ls in
    let c = total_le (λ j. total (λ i. total (load_to i) (sends_of job history j)) ls) (λ j. total send_load (sends_of job history j)) ls
    (λ j m. life_sends ls (sends_of job history j) (lives_distinct job history)) in
    omega arith
