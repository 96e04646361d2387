-- What was heard of stays early as a message is heard of and a life is lost, and so by each step.
use Rattle.std.proofs.Common.{◌≡◌, ◌≤◌, ℕ, ◌+◌, Bool, true, false, cond, not, List, ◌∷◌, Some, None, length, refl, arith, inl, inr, sym, ◌∙◌, ap, subst}
use Rattle.std.specs.Prelude.{◌==◌, ◌&&◌, ◌||◌, filter, is_some}
use Rattle.std.proofs.lemmas.Bool.{eqb-true, false_from_ne_true, and_parts}
use Rattle.rdm_lists.specs.Lists.{Member}
use Rattle.rdm_lists.proofs.Bools.{or_true}
use Rattle.rdm_lists.proofs.Filters.{filter_all, filter_nothing}
use Rattle.rdm_lists.proofs.Options.{some_of}
use Rattle.rdm_lists.proofs.Members.{member-filter, filter-member}
use Rattle.rdm_num.specs.Lives.{same_life}
use Rattle.rdm_num.proofs.Lives.{same_life-true}
use Rattle.rdm_num.specs.declared.numbers.Life.{Life}
use Rattle.rdm_match.specs.declared.Arrived.{Arrived}
use Rattle.rdm_model.specs.Completions.{Name}
use Rattle.rdm_life.specs.Kept.{Kept, Peer, EarlyMessage, receive_numbered, stranger}
use Rattle.rdm_life.specs.Receiving.{receive_in, with_live, hear}
use Rattle.rdm_life.proofs.LivesCurrent.{same_turn}
use Rattle.rdm_sound.specs.Forgets.{lose_life}
use Rattle.rdm_sound.specs.Heard.{named, arrived_names, IsHeardEarly, is_next_heard, StepsStayHeard}
use Rattle.rdm_sound.proofs.EarlyLists.{length_split, filters_turn}
use Rattle.rdm_sound.proofs.HeardSame.{hears_still, heard_same, settled_hears, landed_one_hears, lost_receive_hears, lost_send_hears}
use Rattle.rdm_sound.proofs.Thinned.{thinned_once, thinned_map, thinned_filter}
use Rattle.rdm_sound.proofs.Forgotten.{or_nothing}
use Rattle.rdm_sound.proofs.HeardEnters.{posts_heard, enters_heard}
use Rattle.rdm_sound.proofs.HeardMeets.{name_is, tests}

-- ---- a message is heard of

-- which numbers were heard of, and how far messages entered
hear_is : (source : Life) (number : ℕ) (e : EarlyMessage) (v : Kept) (life : Life) (n : ℕ) → ((hear source number e v).peers life).heard n ≡ ((v.peers life).heard n || (same_life life source && n == number))
unfolding hear
hear_is source number e v life n =
    elim (same_life life source) as (λ b. (cond b (record (v.peers life) { heard = λ n. (v.peers life).heard n || n == number }) (v.peers life)).heard n ≡ ((v.peers life).heard n || (b && n == number))) [
      | true ↦ refl
      | false ↦ elim ((v.peers life).heard n) as (λ b. b ≡ (b || false)) [ true ↦ refl | false ↦ refl ]
    ]

hear_next : (source : Life) (number : ℕ) (e : EarlyMessage) (v : Kept) (life : Life) → ((hear source number e v).peers life).next ≡ (v.peers life).next
unfolding hear
hear_next source number e v life =
    elim (same_life life source) as (λ b. (cond b (record (v.peers life) { heard = λ n. (v.peers life).heard n || n == number }) (v.peers life)).next ≡ (v.peers life).next) [ true ↦ refl | false ↦ refl ]

-- how many are early of a life
hear_counts : (source life : Life) (k : ℕ) (number : ℕ) (names : List Name) → k ≡ length (filter (λ (m : Name). same_life m.life life) names)
    → cond (same_life life source) (k + 1) k ≡ length (filter (λ (m : Name). same_life m.life life) (named source number ∷ names))
hear_counts source life k number names e =
    let ours : List Name = filter (λ (m : Name). same_life m.life life) names in
    ap (λ b. cond b (k + 1) k) (same_turn life source)
    ∙ elim (same_life source life) as (λ b. cond b (k + 1) k ≡ length (cond b (named source number ∷ ours) ours)) [ true ↦ omega arith | false ↦ e ]

pub hears_heard : (source : Life) (number : ℕ) (e : EarlyMessage) (v : Kept) → (v.peers source).heard number ≡ false → IsHeardEarly v → IsHeardEarly (hear source number e v)
unfolding hear
hears_heard source number e v new h =
    let w : Kept = hear source number e v in
    let t : Life → ℕ → Bool = λ life n. same_life life source && n == number in
    let more : (life : Life) (n : ℕ) → is_some (v.early life n) ≡ true → is_some (w.early life n) ≡ true = λ life n k.
    elim (t life n) as (λ b. is_some (cond b (Some e) (v.early life n)) ≡ true) [ true ↦ refl | false ↦ k ] in
    record {
      names = named source number ∷ h.names;
      are = record {
        once = ((λ m. let there = h.heard source number (h.are.early (named source number) m) in let wrong : true ≡ false = sym there ∙ new in cc), h.are.once);
        early = λ m k. elim k [
          | inl is ↦ subst (λ (x : Name). is_some (w.early x.life x.number) ≡ true) is (ap (λ b. is_some (cond b (Some e) (v.early source number))) (tests source number))
          | inr old ↦ more m.life m.number (h.are.early m old)
        ];
        all = λ life n.
            (elim (t life n) as (λ b. t life n ≡ b → is_some (cond b (Some e) (v.early life n)) ≡ true → Member (named life n) (named source number ∷ h.names)) [
              | true ↦ λ is k. (let p = and_parts (same_life life source) (n == number) is in inl (sym (name_is life source n number (same_life-true life source p.0) (eqb-true n number p.1))))
              | false ↦ λ is k. inr (h.are.all life n k)
            ]) refl;
        count = let c = h.are.count in omega arith;
        counts = λ life. hear_counts source life (v.early_of life) number h.names (h.are.counts life);
      };
      heard = λ life n k.
          hear_is source number e v life n
          ∙ (elim (t life n) as (λ b. is_some (cond b (Some e) (v.early life n)) ≡ true → ((v.peers life).heard n || b) ≡ true) [
            | true ↦ λ k. or_true ((v.peers life).heard n)
            | false ↦ λ k. ap (λ b. b || false) (h.heard life n k)
          ]) k;
      waits = λ life n k le.
          let next = hear_next source number e v life in
          (elim (t life n) as (λ b. ((v.peers life).heard n || b) ≡ true → is_some (cond b (Some e) (v.early life n)) ≡ true) [
            | true ↦ λ k. refl
            | false ↦ λ k. h.waits life n (sym (or_nothing ((v.peers life).heard n)) ∙ k) (omega arith)
          ]) (sym (hear_is source number e v life n) ∙ k);
      arrived_once = h.arrived_once;
      arrived_before = λ a m. let b = h.arrived_before a m in let n = hear_next source number e v a.life in omega arith;
      arrived_early = λ a m. more a.life a.no.0 (h.arrived_early a m);
    }

-- ---- a life is lost

-- how many are left of a life
lost_counts : (life other : Life) (k : ℕ) (names : List Name) → k ≡ length (filter (λ (m : Name). same_life m.life other) names)
    → cond (same_life other life) 0 k ≡ length (filter (λ (m : Name). same_life m.life other) (filter (λ (m : Name). not (same_life m.life life)) names))
lost_counts life other k names e =
    let p : Name → Bool = λ m. same_life m.life other in
    let q : Name → Bool = λ m. not (same_life m.life life) in
    (elim (same_life other life) as (λ b. same_life other life ≡ b → cond b 0 k ≡ length (filter p (filter q names))) [
      | true ↦ λ is. sym (ap (λ (xs : List Name). length xs) (filter_nothing p (filter q names) (λ m j. false_from_ne_true (p m) (λ ours.
          let f = member-filter q m names j in
          let same : m.life ≡ other = same_life-true m.life other ours in
          let wrong : false ≡ true = sym (ap not (ap (λ (l : Life). same_life l life) same ∙ is)) ∙ f.1 in
          cc))))
      | false ↦ λ off. e ∙ sym (ap (λ (xs : List Name). length xs) (filters_turn p q names ∙ filter_all q (filter p names) (λ m j.
          let f = member-filter p m names j in
          let same : m.life ≡ other = same_life-true m.life other f.1 in
          ap not (ap (λ (l : Life). same_life l life) same ∙ off))))
    ]) refl

pub loses_heard : (life : Life) (v : Kept) → IsHeardEarly v → IsHeardEarly (lose_life life v)
unfolding lose_life
loses_heard life v h =
    let w : Kept = lose_life life v in
    let q : Name → Bool = λ m. not (same_life m.life life) in
    let was : (other : Life) (n : ℕ) → is_some (w.early other n) ≡ true → (same_life other life ≡ false) × (is_some (v.early other n) ≡ true) = λ other n.
    elim (same_life other life) as (λ b. is_some (cond b None (v.early other n)) ≡ true → (b ≡ false) × (is_some (v.early other n) ≡ true)) [ true ↦ λ e. cc | false ↦ λ e. (refl, e) ] in
    let stays : (other : Life) (n : ℕ) → same_life other life ≡ false → is_some (w.early other n) ≡ is_some (v.early other n) = λ other n off. ap (λ b. is_some (cond b None (v.early other n))) off in
    let peer : (other : Life) → same_life other life ≡ false → w.peers other ≡ v.peers other = λ other off. ap (λ b. cond b (stranger v.own.limits.first) (v.peers other)) off in
    let off : (b : Bool) → not b ≡ true → b ≡ false = λ b. elim b as (λ c. not c ≡ true → c ≡ false) [ true ↦ λ e. cc | false ↦ λ e. refl ] in
    let other_arrived : (a : Arrived) → Member a w.arrived → Member a v.arrived × (same_life a.life life ≡ false) = λ a m.
    let f = member-filter (λ (x : Arrived). not (same_life x.life life)) a v.arrived m in
    (f.0, off (same_life a.life life) f.1) in
    record {
      names = filter q h.names;
      are = record {
        once = thinned_once (filter q h.names) h.names (thinned_filter q h.names) h.are.once;
        early = λ m k. let f = member-filter q m h.names k in stays m.life m.number (off (same_life m.life life) f.1) ∙ h.are.early m f.0;
        all = λ other n e. let x = was other n e in filter-member q (named other n) h.names (h.are.all other n x.1) (ap not x.0);
        count =
            let s = length_split (λ (m : Name). same_life m.life life) h.names in
            let c = h.are.count in
            let d = h.are.counts life in
            omega arith;
        counts = λ other. lost_counts life other (v.early_of other) h.names (h.are.counts other);
      };
      heard = λ other n e. let x = was other n e in ap (λ (p : Peer). p.heard n) (peer other x.0) ∙ h.heard other n x.1;
      waits = λ other n.
          elim (same_life other life) as (λ b. (cond b (stranger v.own.limits.first) (v.peers other)).heard n ≡ true → (cond b (stranger v.own.limits.first) (v.peers other)).next ≤ n
          → is_some (cond b None (v.early other n)) ≡ true) [
            | true ↦ λ e le. cc
            | false ↦ λ e le. h.waits other n e le
          ];
      arrived_once = thinned_once (arrived_names w.arrived) (arrived_names v.arrived)
          (thinned_map (λ (x : Arrived). named x.life x.no.0) w.arrived v.arrived (thinned_filter (λ (x : Arrived). not (same_life x.life life)) v.arrived)) h.arrived_once;
      arrived_before = λ a m. let x = other_arrived a m in let b = h.arrived_before a x.0 in let n : (w.peers a.life).next ≡ (v.peers a.life).next = ap (λ (p : Peer). p.next) (peer a.life x.1) in omega arith;
      arrived_early = λ a m. let x = other_arrived a m in stays a.life a.no.0 x.1 ∙ h.arrived_early a x.0;
    }

-- ---- each step

pub steps_heard : (v : Kept) → IsHeardEarly v → StepsStayHeard v
steps_heard v h =
    record {
      settles = λ is_new number. heard_same v _ (settled_hears is_new (receive_numbered v number) v) h;
      lands = λ number p. heard_same v _ (landed_one_hears number p v) h;
      accepts = λ req. heard_same v _ (hears_still v (with_live (receive_in v req) v) refl refl refl refl refl) h;
      posts = λ r. posts_heard r v h;
      hears = λ source number e new. hears_heard source number e v new h;
      enters = λ source next_heard. enters_heard source v h next_heard;
      loses_receives = λ r. heard_same v _ (lost_receive_hears r v) h;
      loses_sends = λ s. heard_same v _ (lost_send_hears s v) h;
      loses = λ life. loses_heard life v h;
    }

-- what enters next is early
pub enters_early : (source : Life) (v : Kept) → IsHeardEarly v → is_next_heard source v ≡ true → (e : EarlyMessage) × (v.early source (v.peers source).next ≡ Some e)
enters_early source v h next_heard =
    let next = (v.peers source).next in
    some_of (v.early source next) (h.waits source next next_heard (omega arith))
