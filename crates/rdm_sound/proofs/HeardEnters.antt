-- What was heard of stays early as receives are posted and messages enter.
use Rattle.std.proofs.Common.{◌≡◌, ◌<◌, ◌≤◌, ℕ, ◌+◌, Bool, true, false, cond, [], ◌∷◌, Option, Some, None, refl, arith, inl, inr, sym, ◌∙◌, ap, subst}
use Rattle.std.specs.Prelude.{find, is_some}
use Rattle.rdm_lists.specs.Lists.{Member, without_first}
use Rattle.rdm_lists.proofs.Members.{member-append_cases, member-map, find_member, without_member}
use Rattle.rdm_num.specs.Lives.{same_life}
use Rattle.rdm_num.proofs.Lives.{same_life-refl}
use Rattle.rdm_num.specs.declared.numbers.Life.{Life}
use Rattle.rdm_match.specs.declared.PostedRecv.{PostedRecv}
use Rattle.rdm_match.specs.declared.Arrived.{Arrived}
use Rattle.rdm_match.specs.Matcher.{accepts}
use Rattle.rdm_model.specs.Completions.{Name}
use Rattle.rdm_life.specs.Kept.{Kept, Peer, with_peer}
use Rattle.rdm_sound.specs.Steps.{post_found, post_one, arrive_found, next_of, enter_one}
use Rattle.rdm_sound.specs.Heard.{named, arrived_names, IsHeardEarly, is_next_heard}
use Rattle.rdm_sound.proofs.Arrives.{once_without}
use Rattle.rdm_sound.proofs.Deeds.{once_last}
use Rattle.rdm_sound.proofs.HeardSame.{hears_still, heard_same}
use Rattle.rdm_sound.proofs.HeardMeets.{met_heard}

-- ---- a receive is posted

fewer_arrived : (t : Arrived → Bool) (a : Arrived) (v : Kept) → IsHeardEarly v → find t v.arrived ≡ Some a
    → IsHeardEarly (record v { arrived = without_first t v.arrived }) × (Member (named a.life a.no.0) (arrived_names (without_first t v.arrived)) → ⊥)
fewer_arrived t a v h found =
    let one = once_without (λ (x : Arrived). named x.life x.no.0) t v.arrived a h.arrived_once found in (
      record {
        names = h.names;
        are = record { once = h.are.once; early = h.are.early; all = h.are.all; count = h.are.count; counts = h.are.counts };
        heard = h.heard;
        waits = h.waits;
        arrived_once = one.1;
        arrived_before = λ x m. h.arrived_before x (without_member t x v.arrived m);
        arrived_early = λ x m. h.arrived_early x (without_member t x v.arrived m);
      },
      one.0,
    )

posted_heard : (r : PostedRecv) (o : Option Arrived) (v : Kept) → find (accepts r) v.arrived ≡ o → IsHeardEarly v → IsHeardEarly (post_found r o v)
unfolding post_found
posted_heard r None v found h = heard_same v (post_found r None v) (hears_still v (post_found r None v) refl refl refl refl refl) h
posted_heard r (Some a) v found h =
    let u : Kept = record v { arrived = without_first (accepts r) v.arrived } in
    let f = fewer_arrived (accepts r) a v h found in
    let m = (find_member (accepts r) a v.arrived found).0 in
    met_heard (record { recv = r; message = a }) u f.0 (h.arrived_early a m) (h.arrived_before a m) f.1

pub posts_heard : (r : PostedRecv) (v : Kept) → IsHeardEarly v → IsHeardEarly (post_one r v)
posts_heard r v h = posted_heard r (find (accepts r) v.arrived) v refl h

-- ---- a message enters

-- it waits last, or a receive takes it
arrived_heard : (a : Arrived) (o : Option PostedRecv) (v : Kept) → IsHeardEarly v → is_some (v.early a.life a.no.0) ≡ true → a.no.0 < (v.peers a.life).next
    → (Member (named a.life a.no.0) (arrived_names v.arrived) → ⊥) → IsHeardEarly (arrive_found a o v)
unfolding arrive_found
arrived_heard a None v h there entered gone =
    record {
      names = h.names;
      are = record { once = h.are.once; early = h.are.early; all = h.are.all; count = h.are.count; counts = h.are.counts };
      heard = h.heard;
      waits = h.waits;
      arrived_once = once_last (λ (x : Arrived). named x.life x.no.0) v.arrived a h.arrived_once gone;
      arrived_before = λ x m. elim (member-append_cases x v.arrived (a ∷ []) m) [
        | inl old ↦ h.arrived_before x old
        | inr last ↦ elim last [
          | inl is ↦ subst (λ (y : Arrived). y.no.0 < (v.peers y.life).next) is entered
          | inr never ↦ elim never [ ]
        ]
      ];
      arrived_early = λ x m. elim (member-append_cases x v.arrived (a ∷ []) m) [
        | inl old ↦ h.arrived_early x old
        | inr last ↦ elim last [
          | inl is ↦ subst (λ (y : Arrived). is_some (v.early y.life y.no.0) ≡ true) is there
          | inr never ↦ elim never [ ]
        ]
      ];
    }
arrived_heard a (Some r) v h there entered gone =
    let t : PostedRecv → Bool = λ q. accepts q a in
    let u : Kept = record v { posted = without_first t v.posted } in
    met_heard (record { recv = r; message = a }) u (heard_same v u (hears_still v u refl refl refl refl refl) h) there entered gone

-- the next number is one further
further_next : (source life : Life) (v : Kept) → (v.peers life).next ≤ ((with_peer source (λ (p : Peer). record p { next = p.next + 1 }) v).peers life).next
further_next source life v =
    elim (same_life life source) as (λ b. (v.peers life).next ≤ (cond b (record (v.peers life) { next = (v.peers life).next + 1 }) (v.peers life)).next) [ true ↦ omega arith | false ↦ omega arith ]

heard_further : (source life : Life) (n : ℕ) (v : Kept) → ((with_peer source (λ (p : Peer). record p { next = p.next + 1 }) v).peers life).heard n ≡ (v.peers life).heard n
heard_further source life n v =
    elim (same_life life source) as (λ b. (cond b (record (v.peers life) { next = (v.peers life).next + 1 }) (v.peers life)).heard n ≡ (v.peers life).heard n) [ true ↦ refl | false ↦ refl ]

own_next : (source : Life) (v : Kept) → ((with_peer source (λ (p : Peer). record p { next = p.next + 1 }) v).peers source).next ≡ (v.peers source).next + 1
own_next source v = ap (λ b. (cond b (record (v.peers source) { next = (v.peers source).next + 1 }) (v.peers source)).next) (same_life-refl source)

further_heard : (source : Life) (v : Kept) → IsHeardEarly v → IsHeardEarly (with_peer source (λ (p : Peer). record p { next = p.next + 1 }) v)
further_heard source v h =
    record {
      names = h.names;
      are = record { once = h.are.once; early = h.are.early; all = h.are.all; count = h.are.count; counts = h.are.counts };
      heard = λ life n e. heard_further source life n v ∙ h.heard life n e;
      waits = λ life n e le. let f = further_next source life v in h.waits life n (sym (heard_further source life n v) ∙ e) (omega arith);
      arrived_once = h.arrived_once;
      arrived_before = λ a m. let f = further_next source a.life v in let b = h.arrived_before a m in omega arith;
      arrived_early = h.arrived_early;
    }

pub enters_heard : (source : Life) (v : Kept) → IsHeardEarly v → is_next_heard source v ≡ true → IsHeardEarly (enter_one source v)
enters_heard source v h next_heard =
    let a = next_of v source in
    let w : Kept = with_peer source (λ (p : Peer). record p { next = p.next + 1 }) v in
    arrived_heard a (find (λ r. accepts r a) v.posted) w (further_heard source v h) (h.waits source (v.peers source).next next_heard (omega arith))
    (let n = own_next source v in omega arith)
    (λ m.
    let q = member-map (λ (x : Arrived). named x.life x.no.0) (named source (v.peers source).next) v.arrived m in
    let before = h.arrived_before q.0 q.1 in
    let number : q.0.no.0 ≡ (v.peers source).next = ap (λ (x : Name). x.number) q.2 in
    let next : (v.peers q.0.life).next ≡ (v.peers source).next = ap (λ (x : Name). (v.peers x.life).next) q.2 in
    omega arith)
