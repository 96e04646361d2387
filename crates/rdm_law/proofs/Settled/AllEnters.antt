-- At a settled end each message between standing lives has entered, where nothing of its life waits.
use Rattle.std.proofs.Common.{◌≡◌, ℕ, zero, suc, ◌+◌, ◌-◌, ◌<◌, ◌≤◌, Bool, true, false, cond, not, List, [], ◌∷◌, ◌++◌, length, Option, Some, None, refl, arith, ◌⊎◌, inl, inr, sym, ◌∙◌, ap, subst}
use Rattle.std.specs.Prelude.{slice_get, ◌==◌, nat_le, is_some}
use Rattle.std.specs.Bool.{then_some}
use Rattle.std.specs.List.{list_any}
use Rattle.std.proofs.lemmas.Bool.{and_from, or_cases, eq-eqb, le-leb}
use Rattle.std.proofs.lemmas.Option.{slice_get_within}
use Rattle.rdm_lists.specs.Lists.{Member, or_else, each_below}
use Rattle.rdm_num.specs.Lives.{same_life}
use Rattle.rdm_num.specs.declared.numbers.Life.{Life}
use Rattle.rdm_num.specs.declared.numbers.MsgNo.{MsgNo}
use Rattle.rdm_num.specs.declared.head.Head.{Head}
use Rattle.rdm_hdr.specs.declared.Opt.{Opt}
use Rattle.rdm_pkt.specs.declared.Packet.{Packet}
use Rattle.rdm_pkt.specs.declared.Packet.TheVariants.{Rtm}
use Rattle.rdm_pkt.specs.declared.Form.{Form}
use Rattle.rdm_pkt.specs.Heads.{head_of}
use Rattle.rdm_pkt.specs.Openings.{openings, says_confirm}
use Rattle.rdm_wire.specs.declared.Datagram.{Datagram}
use Rattle.rdm_model.specs.declared.job.Job.{Job}
use Rattle.rdm_model.specs.declared.entry.Entry.{Entry}
use Rattle.rdm_model.specs.Deeds.{Deed, Took, Item, Spelled}
use Rattle.rdm_model.specs.Beginnings.{Own, Messages, own_of}
use Rattle.rdm_model.specs.Heard.{head_by, heard_head, is_heard, heard_below, has_entered}
use Rattle.rdm_model.specs.Sends.{Sent, sends_to, sends}
use Rattle.rdm_model.specs.Dues.{Sends, is_over, is_read, is_pushed, ends_send, next_packet}
use Rattle.rdm_model.specs.Going.{Goes, due_going}
use Rattle.rdm_model.specs.Currents.{is_forgotten}
use Rattle.rdm_model.specs.Sources.{is_other}
use Rattle.rdm_model.specs.Settled.{waiting_datagrams}
use Rattle.rdm_model.specs.Lawful.{life_deeds}
use Rattle.rdm_model.specs.Standing.{goes, NoneWaits, AllEnter}
use Rattle.rdm_model.proofs.Matches.{pair_heard}
use Rattle.rdm_model.proofs.Opens.{opening_is, some_opening}
use Rattle.rdm_model.proofs.Numbers.{NewSent, sends_step, new_placed, placed, sends_one, sends_to_append}
use Rattle.rdm_model.specs.Local.{heard_by}
use Rattle.rdm_model.proofs.Dues.{Underway}
use Rattle.rdm_model.proofs.Pushes.{pushed_of, underway}
use Rattle.rdm_law.proofs.Lives.Lives.{LifeLocal, WasDueAt}
use Rattle.rdm_law.proofs.Ends.Overs.{over_by}
use Rattle.rdm_law.proofs.Ends.Receipts.{confirmed_pushed}
use Rattle.rdm_law.proofs.Accounts.Wired.{own_life}
use Rattle.rdm_law.proofs.Accounts.Known.{account, sends_of}
use Rattle.rdm_law.proofs.Accounts.SendsAre.{sends_are}
use Rattle.rdm_law.proofs.Lives.Replaced.{not_forgotten}
use Rattle.rdm_law.proofs.Classes.EndsKnown.{end_taken}
use Rattle.rdm_law.proofs.Accounts.WasDue.{due_member}
use Rattle.rdm_law.proofs.Settled.Still.{settled_still, at_rest}
use Rattle.rdm_law.proofs.Settled.DuesPushed.{packet_push, pushed_was_due}
use Rattle.rdm_law.proofs.Settled.WholePushed.{none_left, get_none}
use Rattle.rdm_law.proofs.Settled.Meets.{Meet, delivered}
use Rattle.rdm_lists.proofs.Members.{member-filter, member_list_any}
use Rattle.rdm_lists.proofs.Places.{slice_get-member, slice_get_split}
use Rattle.rdm_num.proofs.Lives.{same_life-true, same_life-refl}
use Rattle.rdm_lists.proofs.Below.{each_below_from}

-- a first value stays
still_some : (x y : Option Head) → is_some x ≡ true → is_some (or_else x y) ≡ true
unfolding or_else
still_some None y h = cc
still_some (Some a) y h = refl

-- a second value is there
now_some : (x y : Option Head) → is_some y ≡ true → is_some (or_else x y) ≡ true
unfolding or_else
now_some None y h = h
now_some (Some a) y h = refl

-- a taken opening tells a head
took_head : (before : List Deed) (d : Deed) (from : Life) (number : MsgNo) (tag : Option ℕ) (confirm : Bool) (opt : Opt) (form : Form) → d ≡ Took from (Spelled (Rtm number tag confirm opt form))
    → is_some (or_else (heard_head before from number.0) (head_by from number.0 d)) ≡ true
unfolding head_by
took_head before d from number tag confirm opt form e =
    now_some (heard_head before from number.0) (head_by from number.0 d)
    (ap (λ (x : Deed). is_some (head_by from number.0 x)) e ∙ ap (λ (b : Bool). is_some {T = Head} (then_some b (head_of tag confirm opt form))) (and_from (same_life from from) (number.0 == number.0) (same_life-refl from) (eq-eqb number.0 number.0 refl)))

-- a message whose opening was taken was heard of
pub took_heard : (log : List Deed) (from : Life) (number : MsgNo) (tag : Option ℕ) (confirm : Bool) (opt : Opt) (form : Form) → Member (Took from (Spelled (Rtm number tag confirm opt form))) log
    → is_heard log from number.0 ≡ true
unfolding is_heard heard_head
took_heard [] from number tag confirm opt form m = elim m [ ]
took_heard (d ∷ before) from number tag confirm opt form (inl a) = took_head before d from number tag confirm opt form a
took_heard (d ∷ before) from number tag confirm opt form (inr a) = still_some (heard_head before from number.0) (head_by from number.0 d) (took_heard before from number tag confirm opt form a)

-- the only element stands first
one_at : (s t : Sent) (k : ℕ) → slice_get (s ∷ []) k ≡ Some t → (k ≡ 0) × (s ≡ t)
one_at s t zero h = (refl, cc)
one_at s t (suc k) h = cc

-- one send, to its own life
to_one : (s t : Sent) (to : Life) (k : ℕ) → slice_get (sends_to (s ∷ []) to) k ≡ Some t → (k ≡ 0) × (s ≡ t) × (s.to ≡ to)
unfolding sends_to
to_one s t to k h =
    (elim (same_life s.to to) as (λ b. same_life s.to to ≡ b → slice_get (cond b (s ∷ []) []) k ≡ Some t → (k ≡ 0) × (s ≡ t) × (s.to ≡ to)) [
      | true ↦ λ is g. let o = one_at s t k g in (o.0, o.1, same_life-true s.to to is)
      | false ↦ λ is g. cc
    ]) refl h

-- a new send has the next number to its life
number_new : (own : Own) (ms : Messages) (d : Deed) (before : List Deed) (to : Life) (k : ℕ) (t s : Sent) → NewSent own ms before (sends own ms before) d s
    → (slice_get (sends_to (sends own ms before) to) k ≡ Some t → t.message.no.0 ≡ own.limits.first + k)
    → slice_get (sends_to (sends own ms before ++ s ∷ []) to) k ≡ Some t → t.message.no.0 ≡ own.limits.first + k
number_new own ms d before to k t s n ih h =
    let e = sends_to_append (sends own ms before) s to in
    let g : slice_get (sends_to (sends own ms before) to ++ sends_to (s ∷ []) to) k ≡ Some t = subst (λ (xs : List Sent). slice_get xs k ≡ Some t) e h in
    elim (slice_get_split (sends_to (sends own ms before) to) (sends_to (s ∷ []) to) k t g) [
      | inl a ↦ ih a
      | inr a ↦ (
          let o = to_one s t to a.0 a.2 in
          let p = (new_placed own before (sends own ms before) (length (sends own ms before)) n.req n.to _ s n.is).1 in
          let l : length (sends_to (sends own ms before) s.to) ≡ length (sends_to (sends own ms before) to) = ap (λ (x : Life). length (sends_to (sends own ms before) x)) o.2 in
          let z = o.0 in
          let k' = a.1 in
          let same : t.message.no.0 ≡ s.message.no.0 = ap (λ (x : Sent). x.message.no.0) (sym o.1) in
          omega arith)
    ]

-- the number of a message by its place among the sends to its life
pub number_at : (own : Own) (ms : Messages) (log : List Deed) (to : Life) (k : ℕ) (t : Sent) → slice_get (sends_to (sends own ms log) to) k ≡ Some t → t.message.no.0 ≡ own.limits.first + k
unfolding sends sends_to
number_at own ms [] to k t h = cc
number_at own ms (d ∷ before) to k t h =
    elim (sends_step own ms d before) [
      | inl a ↦ number_at own ms before to k t (subst (λ (xs : List Sent). slice_get (sends_to xs to) k ≡ Some t) a h)
      | inr a ↦ number_new own ms d before to k t a.0 a.1 (λ h. number_at own ms before to k t h) (subst (λ (xs : List Sent). slice_get (sends_to xs to) k ≡ Some t) a.2 h)
    ]

-- the first of the openings was pushed
first_both : (ops pushed later : List Packet) → ops ≡ pushed ++ later → 0 < length pushed → (p : Packet) × Member p pushed × Member p ops
first_both ops [] later e h = absurd (omega arith)
first_both ops (p ∷ ps) later e h = (p, inl refl, subst (λ (xs : List Packet). Member p xs) (sym e) (inl refl))

-- and so it is where all were
all_both : (ops pushed datas : List Packet) → pushed ≡ ops ++ datas → 0 < length ops → (p : Packet) × Member p pushed × Member p ops
all_both [] pushed datas e h = absurd (omega arith)
all_both (p ∷ ops) pushed datas e h = (p, subst (λ (xs : List Packet). Member p xs) (sym e) (inl refl), inl refl)

-- a send of which something was pushed has an opening pushed
under_both : (own : Own) (t : Sent) (pushed : List Packet) → Underway own t pushed → 0 < length pushed → (p : Packet) × Member p pushed × Member p (openings own.limits t.message t.kind)
under_both own t pushed u h =
    elim u.how [
      | inl a ↦ first_both (openings own.limits t.message t.kind) pushed a.0 a.1 h
      | inr a ↦ all_both (openings own.limits t.message t.kind) pushed a.0 a.1 (some_opening own.limits t.message t.kind)
    ]

-- a pushed message has a packet
pushed_some : (t : Sent) (pushed : List Packet) → is_pushed t pushed ≡ true → 0 < length pushed
unfolding is_pushed
pushed_some t [] h = cc
pushed_some t (p ∷ ps) h = omega arith

-- a send that is over has an opening pushed, or its end was taken
over_pushed : (own : Own) (log : List Deed) (t : Sent) → LifeLocal own log → Member t (sends own (heard_by own.limits.first log) log) → is_forgotten log t.to ≡ false
    → is_over log (pushed_of own (heard_by own.limits.first log) log t.number) t ≡ true
    → ((p : Packet) × Member p (pushed_of own (heard_by own.limits.first log) log t.number) × Member p (openings own.limits t.message t.kind))
    ⊎ ((is_read t.kind ≡ true) × (list_any (ends_send t.to t.number) log ≡ true))
over_pushed own log t l m f h =
    let ms = heard_by own.limits.first log in
    let pushed = pushed_of own ms log t.number in
    let u = underway own ms log t m in
    elim (over_by log pushed t h f) [
      | inl a ↦ inr a
      | inr a ↦ elim a [
        | inl b ↦ inl (under_both own t pushed u (pushed_some t pushed (confirmed_pushed own log t l m b.2)))
        | inr b ↦ inl (under_both own t pushed u (pushed_some t pushed b.2))
      ]
    ]

-- a send with nothing next has an opening pushed
none_pushed' : (own : Own) (log : List Deed) (t : Sent) (pushed : List Packet) → Underway own t pushed → next_packet own log t pushed ≡ None
    → (p : Packet) × Member p pushed × Member p (openings own.limits t.message t.kind)
unfolding next_packet
none_pushed' own log t pushed u h =
    let le = get_none (openings own.limits t.message t.kind) (length pushed) (none_left _ _ h).0 in
    let one = some_opening own.limits t.message t.kind in
    under_both own t pushed u (omega arith)

-- a send that is at rest has pushed something, or its end was taken
pub rest_pushed : (own : Own) (log : List Deed) (t : Sent) → LifeLocal own log → Member t (sends own (heard_by own.limits.first log) log) → is_forgotten log t.to ≡ false
    → (is_over log (pushed_of own (heard_by own.limits.first log) log t.number) t ≡ true) ⊎ (next_packet own log t (pushed_of own (heard_by own.limits.first log) log t.number) ≡ None)
    → ((p : Packet) × Member p (pushed_of own (heard_by own.limits.first log) log t.number) × Member p (openings own.limits t.message t.kind))
    ⊎ ((is_read t.kind ≡ true) × (list_any (ends_send t.to t.number) log ≡ true))
rest_pushed own log t l m f (inl over) = over_pushed own log t l m f over
rest_pushed own log t l m f (inr none) =
    let ms = heard_by own.limits.first log in
    inl (none_pushed' own log t (pushed_of own ms log t.number) (underway own ms log t m) none)

-- an opening as an item
rtm_item : (p : Packet) (t : Sent) (form : Form) → p ≡ Rtm t.message.no t.message.tag (says_confirm t.kind t.message.confirm) t.message.opt form → ◌≡◌ {A = Item} (Spelled p) (Spelled (Rtm t.message.no t.message.tag (says_confirm t.kind t.message.confirm) t.message.opt form))
rtm_item p t form e = ap Spelled e

-- a packet of a send goes to its life
pub sends_going : (t : Sent) (p : Packet) (i : Life) → t.to ≡ i → due_going (Some (Sends t p)) ≡ Some (Goes i (Spelled p))
unfolding due_going
sends_going t p i e = ap (λ (l : Life). Some (Goes l (Spelled p))) e

-- a packet that a life pushed of a send was a due item of the send
pub send_was_due : (job : Job) (history : List Entry) (j : Life) (t : Sent) (p : Packet) → Member t (sends_of job history j)
    → Member p (pushed_of (own_of job j) (account job history j) (life_deeds job history j) t.number)
    → (k : ℕ) × WasDueAt (own_of job j) (Sends t p) k (life_deeds job history j)
send_was_due job history j t p m h =
    let own = own_of job j in
    let log = life_deeds job history j in
    let r = packet_push own (account job history j) log t.number p h in
    let was_due = pushed_was_due own (Sends r.sent p) r.place log r.pushed in
    let same : r.sent ≡ t = sends_one own (account job history j) log r.sent t (due_member own r.sent p r.place log was_due) m r.number_is in
    (r.place, subst (λ (s : Sent). WasDueAt own (Sends s p) r.place log) same was_due)

-- nothing of a standing life was forgotten
pub stands : (job : Job) (history : List Entry) (i j : Life) → Meet job history i j → is_forgotten (life_deeds job history j) i ≡ false
unfolding is_other
stands job history i j m =
    not_forgotten (own_of job j) (life_deeds job history j) i (own_life job history m.played j)
    (ap (λ (o : Option Life). is_other o i) m.standing.current_i ∙ ap not (same_life-refl i))

-- a message with a head was heard of
pub heard_from : (log : List Deed) (source : Life) (n : ℕ) (h : Head) → heard_head log source n ≡ Some h → is_heard log source n ≡ true
unfolding is_heard
heard_from log source n h e = ap (λ (o : Option Head). is_some o) e

-- each message to a standing life was heard of, where nothing of its life waits
pub each_heard : (job : Job) (history : List Entry) (i j : Life) (t : Sent) → Meet job history i j → NoneWaits history i j → Member t (sends_of job history j) → t.to ≡ i
    → is_heard (life_deeds job history i) j t.message.no.0 ≡ true
each_heard job history i j t m none mem to =
    let own = own_of job j in
    let ms = account job history j in
    let log = life_deeds job history j in
    let still = settled_still job history j m.played m.settled m.standing.open_j m.standing.clock_j in
    let rest = at_rest own ms log still in
    let kept = subst (λ (l : Life). is_forgotten log l ≡ false) (sym to) (stands job history i j m) in
    elim (rest_pushed own log t (own_life job history m.played j) mem kept (rest.each t mem)) [
      | inl a ↦ (
          let was_due = send_was_due job history j t a.0 mem a.1 in
          let o = opening_is own.limits t.message t.kind a.0 a.2 in
          elim (delivered job history i j (Spelled a.0) (Sends t a.0) was_due.0 m was_due.1 (sends_going t a.0 i to)) [
            | inl b ↦ took_heard (life_deeds job history i) j t.message.no t.message.tag (says_confirm t.kind t.message.confirm) t.message.opt o.form
                (subst (λ (x : Item). Member (Took j x) (life_deeds job history i)) (rtm_item a.0 t o.form o.is) b)
            | inr b ↦ (let w = member_list_any (λ (d : Datagram). goes j i d d.body) b.1.0 (waiting_datagrams i.port.0 history) b.1.1 b.1.2 in absurd (cc))
          ])
      | inr a ↦ (
          let e = (end_taken job history j i t.number m.played (subst (λ (l : Life). list_any (ends_send l t.number) log ≡ true) to a.1)).of in
          let same : e.known.sent ≡ t = sends_one own ms log e.known.sent t e.sent_member mem e.number_is in
          let h = pair_heard (own_of job i).limits.first (account job history i).head (life_deeds job history i) e.pair e.member in
          let n : e.pair.message.no.0 ≡ t.message.no.0 = sym e.known.number_is ∙ ap (λ (s : Sent). s.message.no.0) same in
          let there : heard_head (life_deeds job history i) j t.message.no.0 ≡ Some h.0 =
          subst (λ (x : ℕ). heard_head (life_deeds job history i) j x ≡ Some h.0) n (subst (λ (l : Life). heard_head (life_deeds job history i) l e.pair.message.no.0 ≡ Some h.0) e.life_is h.1) in
          heard_from (life_deeds job history i) j t.message.no.0 h.0 there)
    ]

-- a list has an element at each place below its length
slice_at : {A : Type 0} (xs : List A) (k : ℕ) → k < length xs → (x : A) × (slice_get xs k ≡ Some x)
slice_at [] k h = absurd (omega arith)
slice_at (x ∷ xs) zero h = (x, refl)
slice_at (x ∷ xs) (suc k) h = slice_at xs k (omega arith)

-- a send to a life is one of the sends
pub to_parts : (sents : List Sent) (i : Life) (t : Sent) → Member t (sends_to sents i) → Member t sents × (t.to ≡ i)
unfolding sends_to
to_parts sents i t m = let r = member-filter (λ (s : Sent). same_life s.to i) t sents m in (r.0, same_life-true t.to i r.1)

-- each message to a standing life has entered, where nothing of its life waits
pub all_enter : (job : Job) (history : List Entry) (i j : Life) → Meet job history i j → AllEnter job history i j
unfolding has_entered heard_below own_of
all_enter job history i j m none s0 mem =
    let own = own_of job j in
    let sents = sends_of job history j in
    let here : Member s0 (sends_to sents i) = subst (λ (xs : List Sent). Member s0 (sends_to xs i)) (sym (sends_are job history m.played j)) mem in
    let parts = to_parts sents i s0 here in
    let p = placed own (account job history j) (life_deeds job history j) s0 parts.0 in
    let low : job.limits.first ≤ s0.message.no.0 = p.0 in
    let at : slice_get (sends_to sents i) (s0.message.no.0 - job.limits.first) ≡ Some s0 = subst (λ (l : Life). slice_get (sends_to sents l) (s0.message.no.0 - job.limits.first) ≡ Some s0) parts.1 p.1 in
    let within = slice_get_within (sends_to sents i) (s0.message.no.0 - job.limits.first) s0 at in
    let heard : (k : ℕ) → k < s0.message.no.0 - job.limits.first → is_heard (life_deeds job history i) j (job.limits.first + k) ≡ true = λ k lt.
    let t = slice_at (sends_to sents i) k (omega arith) in
    let q = to_parts sents i t.0 (slice_get-member (sends_to sents i) k t.0 t.1) in
    let n : t.0.message.no.0 ≡ job.limits.first + k = number_at own (account job history j) (life_deeds job history j) i k t.0 t.1 in
    subst (λ (x : ℕ). is_heard (life_deeds job history i) j x ≡ true) n (each_heard job history i j t.0 m none q.0 q.1) in
    and_from _ _
    (and_from (nat_le job.limits.first s0.message.no.0) (each_below (λ k. is_heard (life_deeds job history i) j (job.limits.first + k)) (s0.message.no.0 - job.limits.first)) (le-leb job.limits.first s0.message.no.0 low)
    (each_below_from (λ k. is_heard (life_deeds job history i) j (job.limits.first + k)) (s0.message.no.0 - job.limits.first) heard))
    (each_heard job history i j s0 m none parts.0 parts.1)
