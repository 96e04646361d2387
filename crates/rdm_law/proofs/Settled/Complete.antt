-- At a settled end all is complete between standing lives.
use Rattle.std.proofs.Common.{◌≡◌, ℕ, ◌+◌, ◌-◌, ◌≤◌, Bool, true, false, cond, ◌||◌, List, [], ◌∷◌, length, min, take, drop, Option, Some, None, refl, arith, ◌⊎◌, inl, inr, sym, ◌∙◌, ap, subst}
use Rattle.std.specs.Prelude.{nat_lt}
use Rattle.std.specs.List.{list_any}
use Rattle.std.proofs.lemmas.Bool.{or_cases, cases_lt, ltb-false}
use Rattle.rdm_lists.specs.Lists.{Member}
use Rattle.rdm_num.specs.Pieces.{covers, piece_bytes}
use Rattle.rdm_num.specs.declared.numbers.Life.{Life}
use Rattle.rdm_num.specs.declared.numbers.MsgNo.{MsgNo}
use Rattle.rdm_num.specs.declared.completion.Completion.{Completion}
use Rattle.rdm_num.specs.declared.completion.Completion.TheVariants.{Send as SendCompletion}
use Rattle.rdm_pkt.specs.declared.Packet.{Packet}
use Rattle.rdm_pkt.specs.declared.Kind.{Kind}
use Rattle.rdm_pkt.specs.declared.Kind.TheVariants.{Eager, Medium, LongCts, LongRead, Runt}
use Rattle.rdm_pkt.specs.Openings.{message_head, openings}
use Rattle.rdm_match.specs.Matcher.{Pair}
use Rattle.rdm_model.specs.declared.job.Job.{Job}
use Rattle.rdm_model.specs.declared.entry.Entry.{Entry}
use Rattle.rdm_model.specs.declared.entry.Act.{Act}
use Rattle.rdm_model.specs.Deeds.{Deed, log_of}
use Rattle.rdm_model.specs.Beginnings.{Own, own_of}
use Rattle.rdm_model.specs.Heard.{heard_head}
use Rattle.rdm_model.specs.Parts.{carried_pieces}
use Rattle.rdm_model.specs.Receives.{RecvEnd, Filled}
use Rattle.rdm_model.specs.Grants.{Grant, grants, grant_bytes, data_room}
use Rattle.rdm_num.specs.Lives.{op_id}
use Rattle.rdm_pkt.specs.declared.Packet.TheVariants.{CtsData}
use Rattle.rdm_model.specs.Sends.{Sent, sends_to}
use Rattle.rdm_model.specs.Currents.{is_forgotten}
use Rattle.rdm_model.specs.Dues.{pieces_in, data_packet, granted_packet, next_packet, is_read}
use Rattle.rdm_model.specs.Settled.{is_settled, nothing_to_poll, is_worn}
use Rattle.rdm_model.specs.Lawful.{life_deeds, sent_to, sent_scene}
use Rattle.rdm_model.specs.Standing.{goes, drops_between, is_between, Standing, pairs_in, MatchedIsComplete, AllPolled}
use Rattle.rdm_law.specs.Law.{Completes}
use Rattle.rdm_model.proofs.SameMatches.{pairs_same}
use Rattle.rdm_model.proofs.SameReceives.{recv_ends_same}
use Rattle.rdm_model.proofs.SameCompletions.{completions_same}
use Rattle.rdm_model.proofs.Matches.{pair_heard}
use Rattle.rdm_model.proofs.Opens.{openings_bytes}
use Rattle.rdm_model.proofs.Dues.{Underway}
use Rattle.rdm_model.proofs.Pushes.{pushed_of, underway}
use Rattle.rdm_model.proofs.Served.{done_bytes}
use Rattle.rdm_law.proofs.Accounts.Wired.{own_life}
use Rattle.rdm_law.proofs.Accounts.Known.{account, sends_of, Known, known_one}
use Rattle.rdm_law.proofs.Accounts.Named.{pairs_of}
use Rattle.rdm_law.proofs.Accounts.Sent.{agree_sent}
use Rattle.rdm_law.proofs.Accounts.SendsAre.{sends_are}
use Rattle.rdm_law.proofs.Windows.Granted.{allowed_of, Granting}
use Rattle.rdm_law.proofs.Windows.GrantsEnd.{granted_all}
use Rattle.rdm_law.proofs.Windows.GrantsReach.{AllTaken, reach_allowed}
use Rattle.rdm_law.proofs.Windows.Windows.{reach}
use Rattle.rdm_law.proofs.Ends.FilledEnds.{filled_ended}
use Rattle.rdm_law.proofs.Ends.SendsDone.{send_done}
use Rattle.rdm_law.proofs.Settled.NoneDropped.{none_dropped}
use Rattle.rdm_law.proofs.Central.LawfulPlayed.{lawful_played}
use Rattle.rdm_law.proofs.Classes.ClassFree.{all_free}
use Rattle.rdm_law.proofs.Classes.ClassOverlap.{pair_head}
use Rattle.rdm_model.specs.declared.entry.Act.TheVariants.{Handle}
use Rattle.rdm_model.specs.declared.answer.Handled.TheVariants.{Dropped}
use Rattle.rdm_law.proofs.Settled.Still.{quiet, not_worn}
use Rattle.rdm_law.proofs.Settled.Meets.{Meet}
use Rattle.rdm_law.proofs.Settled.AllEnters.{all_enter, stands, to_parts, heard_from}
use Rattle.rdm_law.proofs.Settled.PushedLands.{pushed_covers}
use Rattle.rdm_law.proofs.Settled.WholePushed.{none_left, IsAtOnce, opened_done, over_whole}
use Rattle.rdm_law.proofs.Settled.ReadLands.{Matched, rest_of}
use Rattle.rdm_law.proofs.Settled.CompletesMatched.{Finished, read_finished, pushed_finished, at_once_finished}

-- no granted bytes are next: there is no grant, or all that is allowed and there was pushed
data_none : (own : Own) (s : Sent) (allowed done : ℕ) (gs : List Grant) → data_packet own s allowed done gs ≡ None → (gs ≡ []) ⊎ (min allowed (length s.message.bytes) ≤ done)
unfolding data_packet
data_none own s allowed done [] h = inl refl
data_none own s allowed done (g ∷ gs) h =
    let packet : Packet = CtsData (op_id g.recv) done own.life.connid (take (min (allowed - done) (data_room own.limits)) (drop done s.message.bytes)) in
    (elim (nat_lt done (min allowed (length s.message.bytes))) as (λ b. nat_lt done (min allowed (length s.message.bytes)) ≡ b → ◌≡◌ {A = Option Packet} (cond b (Some packet) None) None → (g ∷ gs ≡ []) ⊎ (min allowed (length s.message.bytes) ≤ done)) [
      | true ↦ λ is k. cc
      | false ↦ λ is k. inr (ltb-false done (min allowed (length s.message.bytes)) is)
    ]) refl h

-- the same of a long send
granted_none : (own : Own) (gs : List Grant) (s : Sent) (pushed : List Packet) (kind : Kind) → kind ≡ LongCts → s.kind ≡ kind → granted_packet own gs s pushed kind ≡ None
    → (gs ≡ []) ⊎ (min (piece_bytes (pieces_in (openings own.limits s.message s.kind)) + grant_bytes gs) (length s.message.bytes) ≤ piece_bytes (pieces_in pushed))
unfolding granted_packet
granted_none own gs s pushed LongCts k e h = data_none own s (piece_bytes (pieces_in (openings own.limits s.message s.kind)) + grant_bytes gs) (piece_bytes (pieces_in pushed)) gs h
granted_none own gs s pushed Eager k e h = cc
granted_none own gs s pushed Medium k e h = cc
granted_none own gs s pushed LongRead k e h = cc
granted_none own gs s pushed (Runt runt) k e h = cc

-- no grants have no bytes
no_grants : (gs : List Grant) → gs ≡ [] → grant_bytes gs ≡ 0
unfolding grant_bytes
no_grants gs e = ap (λ (x : List Grant). grant_bytes x) e

-- a long send with nothing next has pushed all that is allowed
allowed_done : (own : Own) (log : List Deed) (s : Sent) (pushed : List Packet) → Underway own s pushed → s.kind ≡ LongCts → next_packet own log s pushed ≡ None
    → min (allowed_of own log s) (length s.message.bytes) ≤ piece_bytes (pieces_in pushed)
unfolding next_packet
allowed_done own log s pushed u k h =
    let o = opened_done own log s pushed u h in
    let e = openings_bytes own.limits s.message s.kind in
    elim (granted_none own (grants log s.to s.number) s pushed s.kind k refl (none_left _ _ h).1) [
      | inl a ↦ (let z = no_grants (grants log s.to s.number) a in omega arith)
      | inr a ↦ a
    ]

-- a long send is not read
long_unread : (kind : Kind) → kind ≡ LongCts → is_read kind ≡ false
unfolding is_read
long_unread kind e = rw e refl

-- a matched message that is granted was pushed whole
long_done : (job : Job) (history : List Entry) (i j : Life) (p : Pair) (s : Sent) → Matched job history i j p s → s.kind ≡ LongCts → AllTaken job history i j
    → length s.message.bytes ≤ done_bytes (own_of job j) (account job history j) (life_deeds job history j) s.number
long_done job history i j p s m k taken =
    let own = own_of job j in
    let ms = account job history j in
    let log = life_deeds job history j in
    let g : Granting job history i j p s = record { member = m.member; life_is = m.life_is; sent = m.sent; to_is = m.to_is; number_is = m.number_is; long = k; head_is = m.head_is } in
    let u = underway own ms log s m.sent in
    let kept = subst (λ (l : Life). is_forgotten log l ≡ false) (sym m.to_is) (stands job history i j m.here) in
    let unread : is_read s.kind ≡ false = long_unread s.kind k in
    elim ((rest_of job history i j m.here).each s m.sent) [
      | inl over ↦ over_whole own log s (own_life job history m.here.played j) m.sent kept unread over
      | inr none ↦ elim (cases_lt (done_bytes own ms log s.number) (length s.message.bytes)) [
        | inr whole ↦ whole
        | inl less ↦ (
            let a = allowed_done own log s (pushed_of own ms log s.number) u k none in
            let r = reach_allowed job history i j p s m.here.played g taken in
            let c = pushed_covers job history i j s (reach (own_of job i).limits (account job history i).head (life_deeds job history i) p) m.here m.sent m.to_is m.heard (omega arith) in
            let c' = subst (λ (n : ℕ). covers (carried_pieces (own_of job i).limits.first (account job history i).head (life_deeds job history i) j n) (reach (own_of job i).limits (account job history i).head (life_deeds job history i) p) ≡ true) m.number_is c in
            let whole = granted_all job history i j p s m.here.played g c' in
            omega arith)
      ]
    ]

-- a matched message is finished
finished : (job : Job) (history : List Entry) (i j : Life) (p : Pair) (s : Sent) → Matched job history i j p s → AllTaken job history i j → (kind : Kind) → s.kind ≡ kind → Finished job history i j p s
unfolding is_read
finished job history i j p s m taken Eager k = at_once_finished job history i j p s m (subst IsAtOnce (sym k) tt) (ap is_read k)
finished job history i j p s m taken Medium k = at_once_finished job history i j p s m (subst IsAtOnce (sym k) tt) (ap is_read k)
finished job history i j p s m taken LongRead k = read_finished job history i j p s m (ap is_read k)
finished job history i j p s m taken (Runt runt) k = read_finished job history i j p s m (ap is_read k)
finished job history i j p s m taken LongCts k = pushed_finished job history i j p s m (ap is_read k) (long_done job history i j p s m k taken)

-- a pair of standing lives, by what they took themselves
matched_from : (job : Job) (history : List Entry) (i j : Life) (p : Pair) (s : Sent) → Meet job history i j → Meet job history j i → Member s (sends_of job history j) → s.to ≡ i
    → Member p (pairs_of job history i) → p.message.life ≡ j → p.message.no.0 ≡ s.message.no.0 → Matched job history i j p s
matched_from job history i j p s m n mem to pair life number =
    let k = pair_head job history i j p m.played pair life in
    let own : Known job history i j p.message.no.0 = record { sent = s; member = mem; to_is = to; number_is = sym number } in
    let same : k.known.sent ≡ s = known_one job history i j p.message.no.0 k.known own in
    let h = pair_heard (own_of job i).limits.first (account job history i).head (life_deeds job history i) p pair in
    let there : heard_head (life_deeds job history i) j s.message.no.0 ≡ Some h.0 =
    subst (λ (x : ℕ). heard_head (life_deeds job history i) j x ≡ Some h.0) number (subst (λ (l : Life). heard_head (life_deeds job history i) l p.message.no.0 ≡ Some h.0) life h.1) in
    record {
      here = m;
      there = n;
      member = pair;
      life_is = life;
      sent = mem;
      to_is = to;
      number_is = sym number;
      head_is = ap (λ (l : Life). (account job history i).head l p.message.no.0) life ∙ k.head_is ∙ ap (λ (t : Sent). message_head job.limits t.message t.kind) same;
      heard = heard_from (life_deeds job history i) j s.message.no.0 h.0 there;
    }

-- between standing lives, a message that was matched was received whole, and its send is complete
matched_complete : (job : Job) (history : List Entry) (i j : Life) → Meet job history i j → Meet job history j i → AllTaken job history i j → MatchedIsComplete job history i j
unfolding pairs_in own_of
matched_complete job history i j m n taken s p in_sends in_pairs life number =
    let own_i = own_of job i in
    let own_j = own_of job j in
    let log_i = life_deeds job history i in
    let log_j = life_deeds job history j in
    let agree_i = agree_sent job history i m.played (sends_are job history m.played) in
    let agree_j = agree_sent job history j m.played (sends_are job history m.played) in
    let t = to_parts (sends_of job history j) i s (subst (λ (xs : List Sent). Member s (sends_to xs i)) (sym (sends_are job history m.played j)) in_sends) in
    let pair : Member p (pairs_of job history i) = subst (λ (ps : List Pair). Member p ps) (sym (pairs_same own_i.limits.first (account job history i).head (sent_to job history i).head log_i agree_i.heads)) in_pairs in
    let ms = matched_from job history i j p s m n t.0 t.1 pair life (ap (λ (x : MsgNo). x.0) number) in
    let f = finished job history i j p s ms taken s.kind refl in
    let ended = filled_ended own_i.limits.first (account job history i).head log_i p pair f.filled in
    let kept = subst (λ (l : Life). is_forgotten log_j l ≡ false) (sym t.1) (stands job history i j m) in
    let done = send_done own_j log_j s (own_life job history m.played j) t.0 f.over kept in (
      subst (λ (es : List RecvEnd). Member (Filled p) es) (recv_ends_same own_i.limits.first (account job history i).head (sent_to job history i).head log_i agree_i.heads) ended,
      subst (λ (cs : List Completion). Member (SendCompletion (record { 0 = s.number }) false) cs) (completions_same own_j (account job history j) (sent_to job history j) log_j agree_j) done,
    )

-- either holds, both ways
or_was_due : (a b : Bool) → (a || b) ≡ (b || a)
or_was_due true true = refl
or_was_due true false = refl
or_was_due false true = refl
or_was_due false false = refl

-- a drop between the lives, both ways
drops_was_due : (i j : Life) (act : Act) → drops_between j i act ≡ drops_between i j act
unfolding drops_between is_between
drops_was_due i j (Handle d (Dropped why)) = or_was_due (goes j i d d.body) (goes i j d d.body)
drops_was_due i j _ = refl

-- the same test of each entry
any_same : (f g : Entry → Bool) (xs : List Entry) → ((e : Entry) → f e ≡ g e) → list_any f xs ≡ list_any g xs
any_same f g [] h = refl
any_same f g (x ∷ xs) h = rw (h x, any_same f g xs h) refl

-- standing holds both ways
stands_back : (job : Job) (history : List Entry) (i j : Life) → Standing job history i j → Standing job history j i
stands_back job history i j s =
    record {
      open_i = s.open_j;
      open_j = s.open_i;
      current_j = s.current_i;
      current_i = s.current_j;
      none_dropped = any_same (λ (e : Entry). drops_between j i e.act) (λ (e : Entry). drops_between i j e.act) history (λ e. drops_was_due i j e.act) ∙ s.none_dropped;
      clock_i = s.clock_j;
      clock_j = s.clock_i;
    }

-- at a settled end each completion was polled
all_polled : (job : Job) (history : List Entry) → is_settled job history ≡ true → AllPolled job history
all_polled job history h port l low =
    let q = quiet job history port h l in
    elim (or_cases (nothing_to_poll (sent_scene job port history)) (is_worn job (log_of port history)) q.polled) [
      | inl a ↦ a
      | inr a ↦ (let w = not_worn job (log_of port history) low in absurd (cc))
    ]

-- where all that one standing life owed the other was taken, a settled end is complete
pub completes_where : ((job : Job) (history : List Entry) (i j : Life) → Meet job history i j → Meet job history j i → AllTaken job history i j) → Completes
completes_where taken job history fair lawful settled =
    let played = lawful_played job history fair (all_free job) lawful in
    let meet : (i j : Life) → Standing job history i j → Meet job history i j = λ i j s. record { played = played; settled = settled; standing = s } in
    record {
      matched = λ i j s. matched_complete job history i j (meet i j s) (meet j i (stands_back job history i j s)) (taken job history i j (meet i j s) (meet j i (stands_back job history i j s)));
      entered = λ i j s. all_enter job history i j (meet i j s);
      none_dropped = none_dropped job history (all_free job) played;
      polled = all_polled job history settled;
    }
