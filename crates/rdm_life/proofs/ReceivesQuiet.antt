-- Deeds that touch no receive and no region leave both as they were.
use Rattle.std.proofs.Common.{◌≡◌, ℕ, ◌+◌, Bool, true, cond, List, [], ◌∷◌, ◌++◌, map, Option, Some, None, refl, sym, ◌∙◌, ap}
use Rattle.std.specs.Prelude.{slice_get, get_or, flat_map, find}
use Rattle.std.specs.List.{list_any}
use Rattle.std.proofs.lemmas.List.{append-nil}
use Rattle.rdm_lists.proofs.Same.{map_same}
use Rattle.rdm_num.specs.declared.numbers.Life.{Life}
use Rattle.rdm_num.specs.declared.request.SendReq.{SendReq}
use Rattle.rdm_pkt.specs.declared.Packet.TheVariants.{Rtm, CtsData}
use Rattle.rdm_match.specs.Matcher.{Pair, is_recv, run}
use Rattle.rdm_model.specs.declared.job.Instr.TheVariants.{Insert, Reg, Send, Recv, Cancel}
use Rattle.rdm_model.specs.Beginnings.{Own}
use Rattle.rdm_model.specs.Currents.{forgotten_by}
use Rattle.rdm_model.specs.Deeds.{Deed, Did, Took, Pushed, Item, Spelled, Gives}
use Rattle.rdm_model.specs.Matches.{Receive, receives, received_by, with_received, events_by, matching}
use Rattle.rdm_model.specs.Receives.{RecvEnd, Filled, withdrawn_by, recv_ends_by, gone_with}
use Rattle.rdm_model.specs.Regions.{after_ends, region_by}
use Rattle.rdm_model.specs.Replies.{Reply}
use Rattle.rdm_law.proofs.Lives.Lives.{LifeLocal}
use Rattle.rdm_life.specs.Kept.{Kept, LiveSend}
use Rattle.rdm_life.specs.Keeps.{told, own_pairs, own_regions, own_live_receives, is_out, region_byte, pair_of, kept_receive, KeepsReceives}
use Rattle.rdm_life.specs.Memory.{is_place_of}
use Rattle.rdm_life.specs.Lives.{greet, with_source}
use Rattle.rdm_life.specs.Sending.{send_to, push_first, push_send, send_next, end_sends, after_grant, after_ask}
use Rattle.rdm_life.specs.Handling.{after, after_instr, after_item}
use Rattle.rdm_life.proofs.Stays.{Stays, kept_stays}
use Rattle.rdm_life.proofs.EndSteps.{own_ends, new_ends, ends_step, regions_step, newer_pairs, none_filled, unended, live_are}
use Rattle.rdm_life.proofs.Idle.{IsIdleItem, IsIdle, idle_pairs, idle_brings}

-- ---- what is kept where nothing ends, is accepted or registered

-- no ends leave the regions
no_after_ends : (own : Own) (d : Deed) (before : List Deed) → new_ends own d before ≡ [] → region_by d ≡ [] → own_regions own (d ∷ before) ≡ own_regions own before
unfolding after_ends
no_after_ends own d before none unregistered =
    let ms = told own (d ∷ before) in
    regions_step own d before
    ∙ ap (λ (es : List RecvEnd). after_ends ms (receives (d ∷ before)) es (own_regions own before) ++ region_by d) none
    ∙ ap (λ (rs : List (List ℕ)). own_regions own before ++ rs) unregistered ∙ append-nil (own_regions own before)

-- no receive more
pub no_receive_more : (d : Deed) (before : List Deed) → received_by (receives before) before d ≡ [] → receives (d ∷ before) ≡ receives before
unfolding receives with_received
no_receive_more d before none = ap (λ (rs : List Receive). receives before ++ rs) none ∙ append-nil (receives before)

-- no ends leave the live receives
pub live_stays : (own : Own) (d : Deed) (before : List Deed) → new_ends own d before ≡ [] → received_by (receives before) before d ≡ []
    → own_live_receives own (d ∷ before) ≡ own_live_receives own before
live_stays own d before none unposted =
    live_are own (d ∷ before) ∙ ap (λ (es : List RecvEnd). unended es (receives (d ∷ before))) (ends_step own d before ∙ ap (λ (es : List RecvEnd). own_ends own before ++ es) none ∙ append-nil (own_ends own before))
    ∙ ap (unended (own_ends own before)) (no_receive_more d before unposted) ∙ sym (live_are own before)

-- the same pairs give a receive the same one
pub pair_stays : (own : Own) (d : Deed) (before : List Deed) (r : Receive) → own_pairs own (d ∷ before) ≡ own_pairs own before → pair_of own (d ∷ before) r ≡ pair_of own before r
pair_stays own d before r same = ap (λ (ps : List Pair). find (λ (p : Pair). is_recv r.number p.recv) ps) same

-- whether a place is out, by the live receives
out_same : (own : Own) (d : Deed) (before : List Deed) (region place : ℕ) → own_live_receives own (d ∷ before) ≡ own_live_receives own before → is_out own (d ∷ before) region place ≡ is_out own before region place
unfolding is_out
out_same own d before region place same = ap (λ (rs : List Receive). list_any (λ (r : Receive). is_place_of r.req region place) rs) same

-- so what is kept of receives and regions stays
pub receives_stay : (own : Own) (d : Deed) (before : List Deed) (v w : Kept) → LifeLocal own (d ∷ before) → Stays own d before → new_ends own d before ≡ [] → received_by (receives before) before d ≡ []
    → region_by d ≡ [] → KeepsReceives own before v → w.home ≡ v.home → w.receives ≡ v.receives → KeepsReceives own (d ∷ before) w
receives_stay own d before v w local s none unposted unregistered k home rs =
    let live = live_stays own d before none unposted in
    let regions' = no_after_ends own d before none unregistered in
    let byte : (region place : ℕ) → region_byte own (d ∷ before) region place ≡ region_byte own before region place =
    λ region place. ap (λ (xs : List (List ℕ)). slice_get (get_or xs region []) place) regions' in
    record {
      home_is = λ region place.
          ap (λ (h : ℕ → ℕ → Option ℕ). h region place) home ∙ k.home_is region place
          ∙ ap (λ (b : Bool). cond b None (region_byte own before region place)) (sym (out_same own d before region place live))
          ∙ ap (λ (o : Option ℕ). cond (is_out own (d ∷ before) region place) None o) (sym (byte region place));
      receives_are =
          rs ∙ k.receives_are
          ∙ map_same (kept_receive own before) (kept_receive own (d ∷ before)) (own_live_receives own before)
          (λ r m. sym (kept_stays own d before r local (pair_stays own d before r s.pairs_are) (λ p e. s.brings_none p.message.life p.message.no.0) (λ x lt. byte r.req.region.0 (r.req.at + x))))
          ∙ ap (map (kept_receive own (d ∷ before))) (sym live);
    }

-- ---- quiet deeds

-- a deed that touches no receive and no region
abbrev pub IsQuiet : Deed → Type 0
IsQuiet (Did (Insert life)) = ⊥
IsQuiet (Did (Reg content)) = ⊥
IsQuiet (Did (Recv req)) = ⊥
IsQuiet (Did (Cancel recv)) = ⊥
IsQuiet (Took from item) = IsIdleItem item
IsQuiet _ = Unit {0}

-- it is idle
quiet_idle : (d : Deed) → IsQuiet d → IsIdle d
quiet_idle (Did (Insert life)) h = absurd h
quiet_idle (Did (Recv req)) h = absurd h
quiet_idle (Took from item) h = h
quiet_idle _ h = tt

-- no pair
pub pairs_stay : (own : Own) (d : Deed) (before : List Deed) → events_by own.limits.first (told own (d ∷ before)).head before d ≡ [] → own_pairs own (d ∷ before) ≡ own_pairs own before
unfolding matching run
pairs_stay own d before none =
    ap (λ es. (run (matching own.limits.first (told own (d ∷ before)).head before) es).pairs) none ∙ sym (newer_pairs own d before)

-- so it makes no pair and brings no byte
quiet_stays : (own : Own) (d : Deed) (before : List Deed) → IsQuiet d → Stays own d before
quiet_stays own d before h =
    record {
      pairs_are = idle_pairs own d before (quiet_idle d h);
      brings_none = λ source n. idle_brings (own_pairs own before) source n d (quiet_idle d h);
    }

-- it takes nothing back, forgets nobody, accepts nothing and registers nothing
quiet_words : (own : Own) (d : Deed) (before : List Deed) → IsQuiet d → (withdrawn_by d ≡ []) × (forgotten_by before d ≡ []) × (received_by (receives before) before d ≡ []) × (region_by d ≡ [])
unfolding withdrawn_by forgotten_by received_by region_by
quiet_words own (Did (Insert life)) before h = absurd h
quiet_words own (Did (Reg content)) before h = absurd h
quiet_words own (Did (Recv req)) before h = absurd h
quiet_words own (Did (Cancel recv)) before h = absurd h
quiet_words own _ before h = (refl, refl, refl, refl)

-- what ends by a deed that makes no pair and brings no byte
pub stays_ends : (own : Own) (d : Deed) (before : List Deed) → Stays own d before
    → new_ends own d before ≡ withdrawn_by d ++ flat_map (gone_with own.limits.first (told own (d ∷ before)).head before (own_ends own before)) (forgotten_by before d)
unfolding recv_ends_by
stays_ends own d before s =
    ap (λ (ps : List Pair). map Filled ps ++ withdrawn_by d ++ flat_map (gone_with own.limits.first (told own (d ∷ before)).head before (own_ends own before)) (forgotten_by before d)) (none_filled own d before s)

-- nothing ends by a quiet deed
quiet_ends : (own : Own) (d : Deed) (before : List Deed) → IsQuiet d → new_ends own d before ≡ []
quiet_ends own d before h =
    let u = quiet_words own d before h in
    stays_ends own d before (quiet_stays own d before h)
    ∙ ap (λ (es : List RecvEnd). es ++ flat_map (gone_with own.limits.first (told own (d ∷ before)).head before (own_ends own before)) (forgotten_by before d)) u.0
    ∙ ap (flat_map (gone_with own.limits.first (told own (d ∷ before)).head before (own_ends own before))) u.1

-- ---- what is kept after it

-- a send that is accepted
send_leaves : (req : SendReq) (o : Option Life) (v : Kept) → ((send_to req o v).home ≡ v.home) × ((send_to req o v).receives ≡ v.receives)
unfolding send_to
send_leaves req None v = (refl, refl)
send_leaves req (Some to) v = (refl, refl)

-- a packet that goes out
send_push_leaves : (o : Option LiveSend) (v : Kept) → ((push_send o v).home ≡ v.home) × ((push_send o v).receives ≡ v.receives)
unfolding push_send
send_push_leaves None v = (refl, refl)
send_push_leaves (Some s) v = (refl, refl)

-- a push
push_leaves : (r : Option Reply) (v : Kept) → ((push_first r v).home ≡ v.home) × ((push_first r v).receives ≡ v.receives)
unfolding push_first
push_leaves None v = send_push_leaves (send_next v) v
push_leaves (Some r) v = (refl, refl)

-- a quiet item
item_leaves : (from : Life) (item : Item) (v : Kept) → IsIdleItem item → ((after_item from item v).home ≡ v.home) × ((after_item from item v).receives ≡ v.receives)
unfolding after_item after_grant end_sends after_ask
item_leaves from (Spelled (Rtm number tag confirm opt form)) v h = absurd h
item_leaves from (Spelled (CtsData recv offset connid bytes)) v h = absurd h
item_leaves from (Gives g) v h = absurd h
item_leaves from _ v h = (refl, refl)

-- a life that is seen and greeted
pub greeting_leaves : (from : Life) (v : Kept) → ((greet true from None (with_source from v)).home ≡ v.home) × ((greet true from None (with_source from v)).receives ≡ v.receives)
unfolding greet with_source
greeting_leaves from v = (refl, refl)

-- a quiet deed
quiet_leaves : (d : Deed) (v : Kept) → IsQuiet d → ((after d v).home ≡ v.home) × ((after d v).receives ≡ v.receives)
unfolding after after_instr
quiet_leaves (Did (Insert life)) v h = absurd h
quiet_leaves (Did (Reg content)) v h = absurd h
quiet_leaves (Did (Recv req)) v h = absurd h
quiet_leaves (Did (Cancel recv)) v h = absurd h
quiet_leaves (Did (Send req)) v h = send_leaves req (v.current req.to.0) v
quiet_leaves Pushed v h = push_leaves (slice_get v.owed 0) v
quiet_leaves (Took from item) v h =
    let a = item_leaves from item (greet true from None (with_source from v)) h in
    let b = greeting_leaves from v in
    (a.0 ∙ b.0, a.1 ∙ b.1)
quiet_leaves _ v h = (refl, refl)

-- what is kept of receives and regions stays by a deed that touches none
pub receives_quiet : (own : Own) (d : Deed) (log : List Deed) (v : Kept) → LifeLocal own (d ∷ log) → IsQuiet d → KeepsReceives own log v → KeepsReceives own (d ∷ log) (after d v)
receives_quiet own d log v local h k =
    let u = quiet_words own d log h in
    let l = quiet_leaves d v h in
    receives_stay own d log v (after d v) local (quiet_stays own d log h) (quiet_ends own d log h) u.2 u.3 k l.0 l.1
