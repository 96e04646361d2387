-- What comes of a sender to a matcher is the front of what it sent to that life.
use Rattle.std.proofs.Common.{◌≡◌, ℕ, zero, suc, ◌+◌, ◌-◌, ◌<◌, true, false, cond, List, [], ◌∷◌, ◌++◌, length, map, take, Option, Some, refl, arith, inl, inr, sym, ◌∙◌, ap, subst}
use Rattle.std.specs.Prelude.{slice_get}
use Rattle.std.proofs.lemmas.List.{map-append, length-map}
use Rattle.rdm_lists.specs.Lists.{Member, below}
use Rattle.rdm_num.specs.Lives.{same_life}
use Rattle.rdm_num.specs.declared.numbers.Life.{Life}
use Rattle.rdm_num.specs.declared.head.Head.{Head}
use Rattle.rdm_pkt.specs.declared.Kind.{Kind}
use Rattle.rdm_pkt.specs.Openings.{Message, message_head}
use Rattle.rdm_num.specs.declared.limits.EpLimits.{EpLimits}
use Rattle.rdm_match.specs.declared.Arrived.{Arrived}
use Rattle.rdm_match.specs.Matcher.{Event, Post, Arrive, Cancel, Forget}
use Rattle.rdm_model.specs.declared.job.Job.{Job}
use Rattle.rdm_model.specs.declared.job.Instr.TheVariants.{Recv, Cancel as CancelOp, Insert}
use Rattle.rdm_model.specs.declared.entry.Entry.{Entry}
use Rattle.rdm_model.specs.Deeds.{Deed, Did, Took}
use Rattle.rdm_model.specs.Beginnings.{Heads, own_of}
use Rattle.rdm_model.specs.Heard.{heard_head, is_heard}
use Rattle.rdm_model.specs.Matches.{arrival, events_by, merge}
use Rattle.rdm_model.specs.Sends.{Sent, sends_to}
use Rattle.rdm_model.specs.Lawful.{life_deeds, sends_in, sent_to}
use Rattle.rdm_model.proofs.Numbers.{placed}
use Rattle.rdm_law.specs.Matched.{merge_in, numbers_from, arrivals_from, arrivals_in, arrived_of, sent_messages, ComeAsSent}
use Rattle.rdm_law.proofs.Accounts.Wired.{Played}
use Rattle.rdm_law.proofs.Accounts.Known.{account, sends_of, known_head}
use Rattle.rdm_law.proofs.Accounts.Sent.{SendsAre, known_placed}
use Rattle.rdm_law.proofs.Matching.Enters.{reach}
use Rattle.rdm_law.proofs.Matching.EntersInOrder.{merged}
use Rattle.rdm_lists.proofs.Members.{member-append_cases, member-map}
use Rattle.rdm_lists.proofs.Options.{some_of}
use Rattle.rdm_lists.proofs.Below.{length-below}
use Rattle.rdm_num.proofs.Lives.{same_life-true}

-- the message that an event brings has the tag of its head
abbrev TagIs : Heads → Event → Type 0
TagIs heads (Post r) = Unit {0}
TagIs heads (Arrive a) = a.tag ≡ (heads a.life a.no.0).tag
TagIs heads (Cancel n) = Unit {0}
TagIs heads (Forget l) = Unit {0}

-- so it is of each event of a deed
tag_by : (first : ℕ) (heads : Heads) (d : Deed) (before : List Deed) (x : Event) → Member x (events_by first heads before d) → TagIs heads x
unfolding events_by
tag_by first heads (Did (Recv req)) before x (inl a) = subst (TagIs heads) a tt
tag_by first heads (Did (Recv req)) before x (inr a) = elim a [ ]
tag_by first heads (Did (CancelOp recv)) before x (inl a) = subst (TagIs heads) a tt
tag_by first heads (Did (CancelOp recv)) before x (inr a) = elim a [ ]
tag_by first heads (Did (Insert life)) before x h = let r = member-map Forget x _ h in subst (TagIs heads) r.2 tt
tag_by first heads (Took from item) before x h = let r = member-map (arrival heads from) x _ h in subst (TagIs heads) r.2 refl
tag_by first heads _ before x h = elim h [ ]

-- and of all that came
tag_in : (first : ℕ) (heads : Heads) (log : List Deed) (x : Event) → Member x (merge first heads log) → TagIs heads x
unfolding merge
tag_in first heads [] x h = elim h [ ]
tag_in first heads (d ∷ before) x h =
    elim (member-append_cases x (merge first heads before) (events_by first heads before d) h) [
      | inl a ↦ tag_in first heads before x a
      | inr a ↦ tag_by first heads d before x a
    ]

-- the message of that number of a life, as it comes
abbrev message_at : Heads → Life → ℕ → Arrived
message_at heads source n = record { life = source; no = record { 0 = n }; tag = (heads source n).tag }

-- a message by its sender, its number and its tag
message_is : (heads : Heads) (a : Arrived) (source : Life) → a.life ≡ source → a.tag ≡ (heads a.life a.no.0).tag → a ≡ message_at heads source a.no.0
message_is heads a source l t =
    let f : Option ℕ → Arrived = λ tag. record { life = a.life; no = a.no; tag = tag } in
    ap f t ∙ ap (λ (s : Life). message_at heads s a.no.0) l

-- what comes of a life is told by its numbers
arrivals_by : (heads : Heads) (source : Life) (es : List Event) → ((x : Event) → Member x es → TagIs heads x)
    → arrivals_from source es ≡ map (message_at heads source) (numbers_from source es)
unfolding arrivals_from numbers_from
arrivals_by heads source [] t = refl
arrivals_by heads source (Arrive a ∷ es) t =
    let r = arrivals_by heads source es (λ x h. t x (inr h)) in
    (elim (same_life a.life source) as (λ b. same_life a.life source ≡ b
    → cond b (a ∷ []) [] ++ arrivals_from source es ≡ map (message_at heads source) (cond b (a.no.0 ∷ []) [] ++ numbers_from source es)) [
      | true ↦ λ is.
          let e = message_is heads a source (same_life-true a.life source is) (t (Arrive a) (inl refl)) in
          ap (λ (x : Arrived). x ∷ arrivals_from source es) e ∙ ap (λ (xs : List Arrived). message_at heads source a.no.0 ∷ xs) r
      | false ↦ λ is. r
    ]) refl
arrivals_by heads source (Post r ∷ es) t = arrivals_by heads source es (λ x h. t x (inr h))
arrivals_by heads source (Cancel n ∷ es) t = arrivals_by heads source es (λ x h. t x (inr h))
arrivals_by heads source (Forget l ∷ es) t = arrivals_by heads source es (λ x h. t x (inr h))

-- a list's front with the element after it
take_next : {A : Type 0} (xs : List A) (n : ℕ) (x : A) → slice_get xs n ≡ Some x → take (suc n) xs ≡ take n xs ++ x ∷ []
take_next [] n x h = cc
take_next {A} (y ∷ xs) zero x h = let e : y ≡ x = cc in ap (λ (z : A). z ∷ []) e
take_next {A} (y ∷ xs) (suc n) x h = ap (λ (zs : List A). y ∷ zs) (take_next xs n x h)

-- the front of a list, by what stands at its places
front_by : {A : Type 0} (g : ℕ → A) (xs : List A) (n : ℕ) → ((k : ℕ) → k < n → slice_get xs k ≡ Some (g k)) → map g (below n) ≡ take n xs
unfolding below
front_by g xs zero h = refl
front_by {A} g xs (suc n) h =
    map-append g (below n) (n ∷ []) ∙ ap (λ (zs : List A). zs ++ g n ∷ []) (front_by g xs n (λ k l. h k (omega arith))) ∙ sym (take_next xs n (g n) (h n (omega arith)))

-- what stands at a place of a list stands there changed
map_at : {A B : Type 0} (f : A → B) (xs : List A) (n : ℕ) (x : A) → slice_get xs n ≡ Some x → slice_get (map f xs) n ≡ Some (f x)
map_at f [] n x h = cc
map_at f (y ∷ xs) zero x h = let e : y ≡ x = cc in ap Some (ap f e)
map_at f (y ∷ xs) (suc n) x h = map_at f xs n x h

-- the tag that a head tells
head_tag : (limits : EpLimits) (m : Message) (kind : Kind) → (message_head limits m kind).tag ≡ m.tag
unfolding message_head
head_tag limits m kind = refl

-- the limits of a life are its job's
first_of : (job : Job) (i : Life) → (own_of job i).limits.first ≡ job.limits.first
unfolding own_of
first_of job i = refl

-- the message of a send of which was heard, by its place
sent_message : (job : Job) (history : List Entry) (i j : Life) (k : ℕ) → Played job history → SendsAre job history
    → is_heard (life_deeds job history i) j (job.limits.first + k) ≡ true
    → slice_get (sent_messages job history i j) k ≡ Some (message_at (sent_to job history i).head j (job.limits.first + k))
unfolding is_heard sent_messages
sent_message job history i j k played are heard =
    let n = job.limits.first + k in
    let h = some_of (heard_head (life_deeds job history i) j n) heard in
    let known = (known_head job history i j n h.0 played h.1).known in
    let s = known.sent in
    let own = own_of job j in
    let p = (placed own (account job history j) (life_deeds job history j) s known.member).1 in
    let head = (known_placed job history i j n are known).0 in
    let place : s.message.no.0 - own.limits.first ≡ k = (let e = known.number_is in let f = first_of job j in omega arith) in
    let at : slice_get (sends_to (sends_in job history j) i) k ≡ Some s =
    subst (λ (ss : List Sent). slice_get (sends_to ss i) k ≡ Some s) (are j)
    (subst (λ (x : ℕ). slice_get (sends_to (sends_of job history j) i) x ≡ Some s) place
    (subst (λ (x : Life). slice_get (sends_to (sends_of job history j) x) (s.message.no.0 - own.limits.first) ≡ Some s) known.to_is p)) in
    let tag : s.message.tag ≡ ((sent_to job history i).head j n).tag = sym (ap (λ (x : Head). x.tag) head ∙ head_tag job.limits s.message s.kind) in
    let e : arrived_of j s ≡ message_at (sent_to job history i).head j n =
    ap (λ (t : Option ℕ). record { life = j; no = s.message.no; tag = t }) tag ∙ ap (λ (x : ℕ). record { life = j; no = record { 0 = x }; tag = ((sent_to job history i).head j n).tag }) known.number_is in
    map_at (arrived_of j) (sends_to (sends_in job history j) i) k s at ∙ ap Some e

-- a function of the numbers moved on
map_moved : {A : Type 0} (g : ℕ → A) (first : ℕ) (ks : List ℕ) → map g (map (λ k. first + k) ks) ≡ map (λ k. g (first + k)) ks
map_moved g first [] = refl
map_moved {A} g first (k ∷ ks) = ap (λ (xs : List A). g (first + k) ∷ xs) (map_moved g first ks)

-- what came of each sender is the front of what it sent
pub comes_as_sent : (job : Job) (history : List Entry) → Played job history → SendsAre job history → ComeAsSent job history
unfolding arrivals_in merge_in
comes_as_sent job history played are i j =
    let first = job.limits.first in
    let log = life_deeds job history i in
    let heads = (sent_to job history i).head in
    let r = reach first log j in
    let ms = sent_messages job history i j in
    let told = arrivals_by heads j (merge first heads log) (tag_in first heads log) in
    let rows = ap (λ (ns : List ℕ). map (message_at heads j) ns) (merged first heads log j r) ∙ map_moved (message_at heads j) first (below r.count) in
    let front = front_by (λ k. message_at heads j (first + k)) ms r.count (λ k l. sent_message job history i j k played are (r.heard k l)) in
    let all : arrivals_from j (merge first heads log) ≡ take r.count ms = told ∙ rows ∙ front in
    let size : length (arrivals_from j (merge first heads log)) ≡ r.count =
    ap length (told ∙ rows) ∙ length-map (below r.count) (λ k. message_at heads j (first + k)) ∙ length-below r.count in
    all ∙ ap (λ (n : ℕ). take n ms) (sym size)
