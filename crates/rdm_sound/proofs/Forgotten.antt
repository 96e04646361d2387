-- A life is forgotten one receive and one send at a time.
use Rattle.std.proofs.Common.{◌≡◌, ℕ, ◌-◌, Bool, true, false, cond, not, List, [], ◌∷◌, ◌++◌, Option, Some, None, map, refl, arith, sym, ◌∙◌, ap, append_assoc, append-nil}
use Rattle.std.specs.Prelude.{◌||◌, filter, sum_by}
use Rattle.rdm_lists.specs.Lists.{or_else}
use Rattle.rdm_lists.proofs.Filters.{filter_all, filter_nothing}
use Rattle.rdm_lists.proofs.Members.{member-filter}
use Rattle.rdm_lists.proofs.Same.{filter_same}
use Rattle.rdm_num.specs.Lives.{same_life, is_life}
use Rattle.rdm_num.specs.declared.numbers.Life.{Life}
use Rattle.rdm_match.specs.declared.PostedRecv.{PostedRecv}
use Rattle.rdm_match.specs.declared.Arrived.{Arrived}
use Rattle.rdm_model.specs.Replies.{Reply, without_lives}
use Rattle.rdm_life.specs.Kept.{Kept, LiveSend, LiveReceive, Matched, is_send, is_receive, stranger}
use Rattle.rdm_life.specs.Memory.{byte_back, with_back}
use Rattle.rdm_life.specs.Forgetting.{is_among, names_one, is_of_one, concerns, zeroed, gone_completions, forget}
use Rattle.rdm_sound.specs.Premises.{IsOrderly, send_numbers}
use Rattle.rdm_sound.specs.Forgets.{lose_receive, lose_receives, lose_send, lose_sends, lose_life, lost_receives, lost_sends, LossesStayOrderly}
use Rattle.rdm_sound.proofs.Losses.{left_passing, passing_once, gone_receive, receives_gone, loses_receives, gone_send, sends_gone, loses_sends}
use Rattle.rdm_sound.proofs.Orderly.{Thins, thins_none, orderly_thinned}
use Rattle.rdm_sound.proofs.Thinned.{thinned_map, thinned_filter}
use Rattle.rdm_sound.proofs.Thinning.{thinned_live}

-- ---- one life

-- a life is among one life where it is that one
among : (life other : Life) → same_life other life ≡ is_among (life ∷ []) other
unfolding is_among
among life other = elim (same_life other life) as (λ b. b ≡ (b || false)) [ true ↦ refl | false ↦ refl ]

named : (life : Life) (o : Option Life) → is_life o life ≡ names_one (life ∷ []) o
unfolding is_life names_one
named life None = refl
named life (Some other) = among life other

summed : (f : Life → ℕ) (life : Life) → f life ≡ sum_by f (life ∷ [])
summed f life = omega arith

-- what is left after the losses is what is left at once
losses_are : (life : Life) (v : Kept)
    → IsOrderly v
    → lose_life life (sends_gone (filter (λ (s : LiveSend). same_life s.sent.to life) v.sends) (receives_gone (filter (concerns (life ∷ [])) v.receives) v)) ≡ forget (life ∷ []) v
unfolding lose_life forget gone_completions without_lives is_among
losses_are life v o =
    let among : (other : Life) → same_life other life ≡ is_among (life ∷ []) other = λ other. among life other in
    let lost : List LiveReceive = filter (concerns (life ∷ [])) v.receives in
    let posted : filter (λ (r : PostedRecv). not (is_life r.from life)) v.posted ≡ filter (λ (r : PostedRecv). not (names_one (life ∷ []) r.from)) v.posted =
    filter_same (λ (r : PostedRecv). not (is_life r.from life)) (λ (r : PostedRecv). not (names_one (life ∷ []) r.from)) v.posted (λ r. ap not (named life r.from)) in
    let arrived : filter (λ (a : Arrived). not (same_life a.life life)) v.arrived ≡ filter (λ (a : Arrived). not (is_among (life ∷ []) a.life)) v.arrived =
    filter_same (λ (a : Arrived). not (same_life a.life life)) (λ (a : Arrived). not (is_among (life ∷ []) a.life)) v.arrived (λ a. ap not (among a.life)) in
    let owed : filter (λ (r : Reply). not (same_life r.to life)) v.owed ≡ filter (λ (r : Reply). not (is_among (life ∷ []) r.to)) v.owed =
    filter_same (λ (r : Reply). not (same_life r.to life)) (λ (r : Reply). not (is_among (life ∷ []) r.to)) v.owed (λ r. ap not (among r.to)) in
    let count : v.early_count - v.early_of life ≡ v.early_count - sum_by v.early_of (life ∷ []) = ap (λ n. v.early_count - n) (summed v.early_of life) in
    let sends = left_passing (λ (s : LiveSend). s.sent.number) (λ (s : LiveSend). same_life s.sent.to life) v.sends o.sends_once
    ∙ filter_same (λ (s : LiveSend). not (same_life s.sent.to life)) (λ (s : LiveSend). not (is_among (life ∷ []) s.sent.to)) v.sends (λ s. ap not (among s.sent.to)) in
    let receives = left_passing (λ (r : LiveReceive). r.receive.number) (concerns (life ∷ [])) v.receives o.once in
    let completions : (v.completions ++ map gone_receive lost) ++ map gone_send (filter (λ (s : LiveSend). same_life s.sent.to life) v.sends)
    ≡ v.completions ++ (map gone_receive lost ++ map gone_send (filter (λ (s : LiveSend). is_among (life ∷ []) s.sent.to) v.sends)) =
    append_assoc v.completions (map gone_receive lost) (map gone_send (filter (λ (s : LiveSend). same_life s.sent.to life) v.sends))
    ∙ ap (λ (ss : List LiveSend). v.completions ++ (map gone_receive lost ++ map gone_send ss))
    (filter_same (λ (s : LiveSend). same_life s.sent.to life) (λ (s : LiveSend). is_among (life ∷ []) s.sent.to) v.sends (λ s. among s.sent.to)) in
    λ i. record {
      own = v.own;
      region_count = v.region_count;
      region_size = v.region_size;
      home = with_back (map zeroed lost) v.home;
      current = v.current;
      superseded = λ other. v.superseded other || among other i;
      peers = λ other. cond (among other i) (stranger v.own.limits.first) (v.peers other);
      posted = posted i;
      arrived = arrived i;
      early = λ other number. cond (among other i) None (v.early other number);
      early_of = λ other. cond (among other i) 0 (v.early_of other);
      early_count = count i;
      sends = sends i;
      receives = receives i;
      owed = owed i;
      completions = completions i;
      send_count = v.send_count;
      receive_count = v.receive_count;
      poll_count = v.poll_count;
    }

-- a life is forgotten loss by loss
pub forgets_each : (life : Life) (v : Kept) → IsOrderly v → forget (life ∷ []) v ≡ lose_life life (lose_sends (lost_sends life v) (lose_receives (lost_receives life v) v))
forgets_each life v o =
    let rs = filter (concerns (life ∷ [])) v.receives in
    let ss = filter (λ (s : LiveSend). same_life s.sent.to life) v.sends in
    let u : Kept = receives_gone rs v in
    let first = loses_receives rs v (passing_once (λ (r : LiveReceive). r.receive.number) (concerns (life ∷ [])) v.receives o.once) o.once (λ r m. (member-filter (concerns (life ∷ [])) r v.receives m).0) in
    let then' = loses_sends ss u (passing_once (λ (s : LiveSend). s.sent.number) (λ (s : LiveSend). same_life s.sent.to life) v.sends o.sends_once) o.sends_once
    (λ s m. (member-filter (λ (x : LiveSend). same_life x.sent.to life) s v.sends m).0) in
    sym (ap (λ w. lose_life life (lose_sends (send_numbers ss) w)) first ∙ ap (lose_life life) then' ∙ losses_are life v o)

-- ---- no life

no_life : (life : Life) → is_among [] life ≡ false
unfolding is_among
no_life life = refl

none_named : (o : Option Life) → names_one [] o ≡ false
unfolding names_one
none_named None = refl
none_named (Some life) = no_life life

of_none : (o : Option Matched) → is_of_one [] o ≡ false
unfolding is_of_one
of_none None = refl
of_none (Some m) = no_life m.source

no_concern : (r : LiveReceive) → concerns [] r ≡ false
unfolding concerns
no_concern r = let a = none_named r.receive.posted.from in let b = of_none r.matched in rw (a, b) refl

pub or_nothing : (b : Bool) → (b || false) ≡ b
or_nothing true = refl
or_nothing false = refl

pub forgets_none : (v : Kept) → forget [] v ≡ v
unfolding forget gone_completions without_lives with_back byte_back or_else is_among
forgets_none v =
    let lost : filter (concerns []) v.receives ≡ [] = filter_nothing (concerns []) v.receives (λ r m. no_concern r) in
    let sent : filter (λ (s : LiveSend). is_among [] s.sent.to) v.sends ≡ [] = filter_nothing (λ (s : LiveSend). is_among [] s.sent.to) v.sends (λ s m. no_life s.sent.to) in
    let home : with_back (map zeroed (filter (concerns []) v.receives)) v.home ≡ v.home = ap (λ rs. with_back (map zeroed rs) v.home) lost in
    let posted = filter_all (λ (r : PostedRecv). not (names_one [] r.from)) v.posted (λ r m. ap not (none_named r.from)) in
    let arrived = filter_all (λ (a : Arrived). not (is_among [] a.life)) v.arrived (λ a m. ap not (no_life a.life)) in
    let sends = filter_all (λ (s : LiveSend). not (is_among [] s.sent.to)) v.sends (λ s m. ap not (no_life s.sent.to)) in
    let receives = filter_all (λ (r : LiveReceive). not (concerns [] r)) v.receives (λ r m. ap not (no_concern r)) in
    let owed = filter_all (λ (r : Reply). not (is_among [] r.to)) v.owed (λ r m. ap not (no_life r.to)) in
    let count : v.early_count - 0 ≡ v.early_count = omega arith in
    let completions : v.completions ++ gone_completions (filter (concerns []) v.receives) (filter (λ (s : LiveSend). is_among [] s.sent.to) v.sends) ≡ v.completions =
    ap (λ rs. v.completions ++ gone_completions rs (filter (λ (s : LiveSend). is_among [] s.sent.to) v.sends)) lost
    ∙ ap (λ ss. v.completions ++ gone_completions [] ss) sent
    ∙ append-nil v.completions in
    λ i. record {
      own = v.own;
      region_count = v.region_count;
      region_size = v.region_size;
      home = home i;
      current = v.current;
      superseded = λ other. or_nothing (v.superseded other) i;
      peers = v.peers;
      posted = posted i;
      arrived = arrived i;
      early = v.early;
      early_of = v.early_of;
      early_count = count i;
      sends = sends i;
      receives = receives i;
      owed = owed i;
      completions = completions i;
      send_count = v.send_count;
      receive_count = v.receive_count;
      poll_count = v.poll_count;
    }

-- ---- each loss leaves a record orderly

pub lost_receive_thins : (o : Option LiveReceive) (v : Kept) → Thins v (lose_receive o v)
unfolding lose_receive
lost_receive_thins None v = thins_none v
lost_receive_thins (Some r) v =
    let h = thins_none v in
    record { receives = thinned_live (λ (q : LiveReceive). not (is_receive r.receive.number q)) v.receives; posted = h.posted; sends = h.sends; receive_count = refl; send_count = refl }

pub lost_send_thins : (o : Option LiveSend) (v : Kept) → Thins v (lose_send o v)
unfolding lose_send
lost_send_thins None v = thins_none v
lost_send_thins (Some s) v =
    let h = thins_none v in
    let t : LiveSend → Bool = λ q. not (is_send s.sent.number q) in
    record { receives = h.receives; posted = h.posted; sends = thinned_map (λ (x : LiveSend). x.sent) (filter t v.sends) v.sends (thinned_filter t v.sends); receive_count = refl; send_count = refl }

lost_life_thins : (life : Life) (v : Kept) → Thins v (lose_life life v)
unfolding lose_life
lost_life_thins life v =
    let h = thins_none v in
    record { receives = h.receives; posted = thinned_filter (λ (r : PostedRecv). not (is_life r.from life)) v.posted; sends = h.sends; receive_count = refl; send_count = refl }

pub losses_orderly : (v : Kept) → IsOrderly v → LossesStayOrderly v
losses_orderly v o =
    record {
      receives = λ r. orderly_thinned v _ (lost_receive_thins r v) o;
      sends = λ s. orderly_thinned v _ (lost_send_thins s v) o;
      lives = λ life. orderly_thinned v _ (lost_life_thins life v) o;
    }
