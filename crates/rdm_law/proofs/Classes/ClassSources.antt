-- What a life pushes names it, and its life is known to the one that it is for: neither Malformed nor Unknown.
use Rattle.rdm_model.proofs.Sending.{grant_taken}
use Rattle.std.specs.Bool.{then_some}
use Rattle.rdm_law.proofs.Replies.Seen.{owed_seen}
use Rattle.rdm_law.proofs.Lives.Held.{sent_current, took_current, inserted_current}
use Rattle.rdm_pkt.specs.Openings.{says_confirm}
use Rattle.rdm_pkt.specs.declared.Form.{Form}
use Rattle.rdm_model.specs.Currents.{current}
use Rattle.std.proofs.Common.{◌≡◌, ℕ, Bool, true, false, cond, ◌&&◌, List, [], ◌∷◌, Option, Some, None, refl, inl, inr, sym, ◌∙◌, ap, is_some, subst, is_none, ◌⊎◌, not}
use Rattle.std.specs.Prelude.{slice_get, ◌==◌}
use Rattle.std.proofs.lemmas.Bool.{and_from, eq-eqb, not_from_true, and_right, and_left}
use Rattle.rdm_lists.specs.Lists.{Member}
use Rattle.rdm_num.specs.Lives.{same_life, op_id}
use Rattle.rdm_num.specs.declared.numbers.PortNo.{PortNo}
use Rattle.rdm_num.specs.declared.numbers.Life.{Life}
use Rattle.rdm_num.specs.declared.numbers.Connid.{Connid}
use Rattle.rdm_hdr.specs.declared.Opt.{Opt}
use Rattle.rdm_pkt.specs.declared.Packet.{Packet}
use Rattle.rdm_pkt.specs.declared.Packet.TheVariants.{Handshake, Rtm, Cts}
use Rattle.rdm_wire.specs.declared.Datagram.{Datagram}
use Rattle.rdm_model.specs.declared.job.Job.{Job}
use Rattle.rdm_model.specs.declared.entry.Entry.{Entry}
use Rattle.rdm_model.specs.Deeds.{Deed, Took, Item, Spelled}
use Rattle.rdm_model.specs.Beginnings.{Own, Messages, Heads, own_of}
use Rattle.rdm_model.specs.Sources.{is_port_of, is_raw_of, is_connid_of, names_source, is_malformed, has_raw}
use Rattle.rdm_model.specs.Sends.{Sent, known_by, known_word, wants_raw, opt_for, sends}
use Rattle.rdm_model.specs.Grants.{grants}
use Rattle.rdm_model.specs.Replies.{Reply, greeting}
use Rattle.rdm_model.specs.Lawful.{life_deeds}
use Rattle.rdm_model.specs.Local.{heard_by}
use Rattle.rdm_model.specs.Dues.{Sends}
use Rattle.rdm_model.proofs.Numbers.{made, sent_is_of}
use Rattle.rdm_model.proofs.Opens.{opening_is}
use Rattle.rdm_law.proofs.Lives.Lives.{WasDueAt}
use Rattle.rdm_law.proofs.Accounts.Wired.{Played, TakenDue, taken_pushed}
use Rattle.rdm_law.proofs.Accounts.Went.{went}
use Rattle.rdm_law.proofs.Replies.Owed.{MetBy, NewReply, OwedIn}
use Rattle.rdm_law.proofs.Accounts.WasDue.{due_member, due_is}
use Rattle.rdm_lists.proofs.Members.{member-append_right}
use Rattle.rdm_lists.proofs.Options.{or_else_cases}
use Rattle.rdm_num.proofs.Lives.{same_life-true}

-- the headers of a send name its life
opt_names : (l : Life) (raw : Bool) (cq_data tag : Option ℕ) (opt : Opt) → opt ≡ opt_for l raw cq_data → (is_raw_of l opt.raw && is_connid_of l opt.connid) ≡ true
unfolding opt_for is_raw_of is_connid_of
opt_names l true cq_data tag opt e =
    ap (λ (o : Opt). is_raw_of l o.raw && is_connid_of l o.connid) e
    ∙ and_from _ _ (and_from (l.port.0 == l.port.0) (l.connid.0 == l.connid.0) (eq-eqb l.port.0 l.port.0 refl) (eq-eqb l.connid.0 l.connid.0 refl)) refl
opt_names l false cq_data tag opt e = ap (λ (o : Opt). is_raw_of l o.raw && is_connid_of l o.connid) e ∙ and_from _ _ refl (eq-eqb l.connid.0 l.connid.0 refl)

-- a packet of a send names its life
sent_names : (own : Own) (s : Sent) (p : Packet) (k : ℕ) (log : List Deed) → WasDueAt own (Sends s p) k log → names_source own.life p ≡ true
unfolding names_source
sent_names own s p k log h =
    elim (due_is own s p k log h) [
      | inl a ↦ (
          let o = opening_is own.limits s.message s.kind p a in
          let m = due_member own s p k log h in
          let e = made own (heard_by own.limits.first log) log s m in
          let of = sent_is_of own (heard_by own.limits.first log) log s e in
          rw o.is (opt_names own.life (wants_raw (known_word e.before s.to)) s.req.cq_data s.message.tag s.message.opt of.2))
      | inr a ↦ rw a.is (eq-eqb own.life.connid.0 own.life.connid.0 refl)
    ]

-- a greeting has the own port, if any
own_port : (own : Own) (d : Deed) (life : Life) (raw : Option PortNo) → MetBy own d life raw → is_port_of own.life raw ≡ true
unfolding is_port_of
own_port own d life raw (inl a) = rw a.2 refl
own_port own d life raw (inr a) = rw a.1 (eq-eqb own.life.port.0 own.life.port.0 refl)

-- a reply that a deed makes owed names its life
new_names : (own : Own) (heads : Heads) (sents : List Sent) (d : Deed) (before : List Deed) (r : Reply) → NewReply own heads sents d before r → is_malformed own.life r.item ≡ false
unfolding is_malformed names_source is_port_of
new_names own heads sents d before r (inl n) =
    rw n.is (not_from_true _ (and_from (own.life.connid.0 == own.life.connid.0) (is_port_of own.life n.raw) (eq-eqb own.life.connid.0 own.life.connid.0 refl) (own_port own d r.to n.raw n.how)))
new_names own heads sents d before r (inr (inl n)) = rw n.is refl
new_names own heads sents d before r (inr (inr (inl n))) = rw n.is (not_from_true (own.life.connid.0 == own.life.connid.0) (eq-eqb own.life.connid.0 own.life.connid.0 refl))
new_names own heads sents d before r (inr (inr (inr (inl n)))) = rw n.is (not_from_true (own.life.connid.0 == own.life.connid.0) (eq-eqb own.life.connid.0 own.life.connid.0 refl))
new_names own heads sents d before r (inr (inr (inr (inr (inl n))))) = rw n.is (not_from_true (own.life.connid.0 == own.life.connid.0) (eq-eqb own.life.connid.0 own.life.connid.0 refl))
new_names own heads sents d before r (inr (inr (inr (inr (inr n))))) = rw n.is refl

-- a reply names its life
owed_names : (own : Own) (ms : Messages) (r : Reply) (log : List Deed) → OwedIn own ms r log → is_malformed own.life r.item ≡ false
owed_names own ms r [] h = elim h [ ]
owed_names own ms r (d ∷ before) (inl n) = new_names own ms.head (sends own ms before) d before r n
owed_names own ms r (d ∷ before) (inr h) = owed_names own ms r before h

-- a packet that names its source is not malformed
malformed_sent : (l : Life) (p : Packet) (item : Item) → Spelled p ≡ item → names_source l p ≡ true → is_malformed l item ≡ false
unfolding is_malformed
malformed_sent l p item e h = rw (← e) (not_from_true (names_source l p) h)

-- what was pushed is not malformed
pub well_formed : (job : Job) (history : List Entry) (to from : Life) (item : Item) (d : Datagram) → TakenDue job history to from item d → is_malformed from item ≡ false
unfolding own_of
well_formed job history to from item d t =
    elim (went job history to from item d t) [
      | inl s ↦ malformed_sent from s.packet item s.is (sent_names (own_of job from) s.sent s.packet t.place (life_deeds job history from) s.was_due)
      | inr r ↦ ap (λ (x : Item). is_malformed from x) (sym r.is) ∙ owed_names (own_of job from) (heard_by (own_of job from).limits.first (life_deeds job history from)) r.reply (life_deeds job history from) r.owed
    ]

-- a handshake tells the features
known_now : (peer : Life) (d : Deed) (word : ℕ) → known_by peer d ≡ Some word → (words : List ℕ) × (connid : Connid) × (raw : Option PortNo) × (d ≡ Took peer (Spelled (Handshake words connid raw)))
unfolding known_by
known_now peer (Took from (Spelled (Handshake words connid raw))) word h =
    (elim (same_life from peer) as (λ b. same_life from peer ≡ b → cond b (slice_get words 0) None ≡ Some word
    → (ws : List ℕ) × (c : Connid) × (r : Option PortNo) × (Took from (Spelled (Handshake words connid raw)) ≡ Took peer (Spelled (Handshake ws c r)))) [
      | true ↦ λ t k. (words, connid, raw, ap (λ (x : Life). Took x (Spelled (Handshake words connid raw))) (same_life-true from peer t))
      | false ↦ λ t k. cc
    ]) refl h
known_now peer _ word h = cc

-- a handshake was taken from a life of which something is known
pub known_shake : (log : List Deed) (peer : Life) (word : ℕ) → known_word log peer ≡ Some word → (words : List ℕ) × (connid : Connid) × (raw : Option PortNo) × Member (Took peer (Spelled (Handshake words connid raw))) log
unfolding known_word
known_shake [] peer word h = cc
known_shake (d ∷ before) peer word h =
    elim (or_else_cases (known_word before peer) (known_by peer d) word h) [
      | inl a ↦ (let r = known_shake before peer word a in (r.0, r.1, r.2, inr r.3))
      | inr a ↦ (let r = known_now peer d word a.1 in (r.0, r.1, r.2, inl r.3))
    ]

-- something was taken from a life of which something is known
known_taken : (log : List Deed) (peer : Life) (word : ℕ) → known_word log peer ≡ Some word → (item : Item) × Member (Took peer item) log
known_taken log peer word h = let r = known_shake log peer word h in (Spelled (Handshake r.0 r.1 r.2), r.3)

-- no raw address is left out for a life of which nothing is known
raw_known : (own : Own) (before : List Deed) (s : Sent) (opt : Opt) (o : Option ℕ) → known_word before s.to ≡ o → opt ≡ opt_for own.life (wants_raw (known_word before s.to)) s.req.cq_data
    → (is_some opt.raw ≡ true) ⊎ ((item : Item) × Member (Took s.to item) before)
unfolding opt_for wants_raw
raw_known own before s opt None k e =
    inl (ap (λ (x : Opt). is_some x.raw) e ∙ ap (λ (x : Option ℕ). is_some {T = ℕ × ℕ} (then_some (wants_raw x) (own.life.port.0, own.life.connid.0))) k)
raw_known own before s opt (Some word) k e = inr (known_taken before s.to word k)

-- a packet of a send has the raw address that its message has
has_raw_at : (p : Packet) (s : Sent) (form : Form) → p ≡ Rtm s.message.no s.message.tag (says_confirm s.kind s.message.confirm) s.message.opt form → is_some s.message.opt.raw ≡ true → has_raw (Spelled p) ≡ true
unfolding has_raw
has_raw_at p s form e h = rw e h

-- the first of a list is in it
first_member : {A : Type 0} (x : A) (xs ys : List A) → ys ≡ x ∷ xs → Member x ys
first_member {A} x xs ys e = subst (λ (zs : List A). Member x zs) (sym e) (inl refl)

-- a packet of a send has a raw address, or something was taken from the life that it goes to
sent_known : (own : Own) (s : Sent) (p : Packet) (k : ℕ) (log : List Deed) → WasDueAt own (Sends s p) k log
    → (has_raw (Spelled p) ≡ true) ⊎ ((item : Item) × Member (Took s.to item) log)
sent_known own s p k log h =
    elim (due_is own s p k log h) [
      | inl a ↦ (
          let o = opening_is own.limits s.message s.kind p a in
          let m = due_member own s p k log h in
          let e = made own (heard_by own.limits.first log) log s m in
          let of = sent_is_of own (heard_by own.limits.first log) log s e in
          elim (raw_known own e.before s s.message.opt (known_word e.before s.to) refl of.2) [
            | inl b ↦ inl (has_raw_at p s o.form o.is b)
            | inr b ↦ inr (b.0, subst (λ (l : List Deed). Member (Took s.to b.0) l) (sym e.split) (member-append_right (Took s.to b.0) e.newer (e.deed ∷ e.before) (inr b.1)))
          ])
      | inr a ↦ (
          let g = grant_taken log s.to s.number a.grant (first_member a.grant a.others (grants log s.to s.number) a.grants_are) in
          inr (Spelled (Cts (op_id s.number) (op_id a.grant.recv) a.grant.size g.0), g.1))
    ]

-- a greeting has a raw address where it says so
greeting_raw : (own : Own) (port : PortNo) → has_raw (greeting own (Some port)) ≡ true
unfolding has_raw
greeting_raw own port = refl

-- what was pushed has a raw address, or its life took something from the one that it goes to
pub raw_or_heard : (job : Job) (history : List Entry) (to from : Life) (item : Item) (d : Datagram) → TakenDue job history to from item d
    → (has_raw item ≡ true) ⊎ ((x : Item) × Member (Took to x) (life_deeds job history from))
raw_or_heard job history to from item d t =
    elim (went job history to from item d t) [
      | inl s ↦ elim (sent_known (own_of job from) s.sent s.packet t.place (life_deeds job history from) s.was_due) [
        | inl a ↦ inl (ap has_raw (sym s.is) ∙ a)
        | inr a ↦ inr (a.0, subst (λ (l : Life). Member (Took l a.0) (life_deeds job history from)) s.to_is a.1)
      ]
      | inr r ↦ (
          let s = owed_seen (own_of job from) (heard_by (own_of job from).limits.first (life_deeds job history from)) r.reply (life_deeds job history from) r.owed in
          elim s [
            | inl a ↦ inr (a.0, subst (λ (l : Life). Member (Took l a.0) (life_deeds job history from)) r.to_is a.1)
            | inr a ↦ inl (ap has_raw (sym r.is ∙ a.1) ∙ greeting_raw (own_of job from) (own_of job from).life.port)
          ])
    ]

-- a life that pushed something to another knows its port
pub pushed_knows : (job : Job) (history : List Entry) (to from : Life) (item : Item) (d : Datagram) → TakenDue job history to from item d
    → is_some (current (life_deeds job history from) to.port.0) ≡ true
pushed_knows job history to from item d t =
    let own = own_of job from in
    let log = life_deeds job history from in
    elim (went job history to from item d t) [
      | inl s ↦ subst (λ (l : Life). is_some (current log l.port.0) ≡ true) s.to_is
          (sent_current own (heard_by own.limits.first log) log s.sent (due_member own s.sent s.packet t.place log s.was_due))
      | inr r ↦ (
          let s = owed_seen own (heard_by own.limits.first log) r.reply log r.owed in
          subst (λ (l : Life). is_some (current log l.port.0) ≡ true) r.to_is
          (elim s [ inl a ↦ took_current log r.reply.to a.0 a.1 | inr a ↦ inserted_current log r.reply.to a.0 ]))
    ]

-- what is there is not none
not_none : (o : Option Life) → is_some o ≡ true → is_none o ≡ false
not_none None h = cc
not_none (Some l) h = refl

-- what was pushed is known, or has a raw address
pub is_known : (job : Job) (history : List Entry) (to from : Life) (item : Item) (d : Datagram) → Played job history → TakenDue job history to from item d
    → (is_none (current (life_deeds job history to) from.port.0) && not (has_raw item)) ≡ false
is_known job history to from item d played t =
    elim (raw_or_heard job history to from item d t) [
      | inl a ↦ and_right (is_none (current (life_deeds job history to) from.port.0)) (not (has_raw item)) (not_from_true (has_raw item) a)
      | inr a ↦ (
          let back = taken_pushed job history from to a.0 played a.1 in
          and_left (is_none (current (life_deeds job history to) from.port.0)) (not (has_raw item))
          (not_none (current (life_deeds job history to) from.port.0) (pushed_knows job history from to a.0 back.datagram back.taken)))
    ]
