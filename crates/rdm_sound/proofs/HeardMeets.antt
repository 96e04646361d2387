-- A message that a receive takes is early no more, and the others stay.
use Rattle.std.proofs.Common.{◌≡◌, ◌<◌, ℕ, ◌-◌, Bool, true, false, cond, not, List, None, length, refl, arith, sym, ◌∙◌, ap, subst}
use Rattle.std.specs.Prelude.{◌==◌, ◌&&◌, filter, is_some}
use Rattle.std.proofs.lemmas.Bool.{eqb-true, eq-eqb, false_from_ne_true, and_parts, and_from}
use Rattle.rdm_lists.specs.Lists.{Member}
use Rattle.rdm_lists.proofs.Filters.{filter_all}
use Rattle.rdm_lists.proofs.Members.{member-filter, filter-member, map-member}
use Rattle.rdm_num.specs.Lives.{same_life}
use Rattle.rdm_num.proofs.Lives.{same_life-true, same_life-refl}
use Rattle.rdm_num.specs.declared.numbers.Life.{Life}
use Rattle.rdm_match.specs.declared.Arrived.{Arrived}
use Rattle.rdm_match.specs.Matcher.{Pair}
use Rattle.rdm_model.specs.Completions.{Name}
use Rattle.rdm_life.specs.Kept.{Kept, receive_numbered}
use Rattle.rdm_sound.specs.Premises.{AreOnce}
use Rattle.rdm_sound.specs.Steps.{without_early, meet_one}
use Rattle.rdm_sound.specs.Heard.{named, arrived_names, IsHeardEarly}
use Rattle.rdm_sound.proofs.EarlyLists.{length_without, filters_turn}
use Rattle.rdm_sound.proofs.HeardSame.{hears_still, heard_same, settled_hears}
use Rattle.rdm_sound.proofs.Pairs.{taken}
use Rattle.rdm_sound.proofs.Thinned.{thinned_once, thinned_filter}

-- a name is that of a life and a number
pub name_is : (l m : Life) (i j : ℕ) → l ≡ m → i ≡ j → named l i ≡ named m j
name_is l m i j e f = ap (λ (x : Life). named x i) e ∙ ap (named m) f

-- the name by a test
pub tested : (source : Life) (number : ℕ) (m : Name) → (same_life source m.life && number == m.number) ≡ true → named source number ≡ m
tested source number m e =
    let p = and_parts (same_life source m.life) (number == m.number) e in
    name_is source m.life number m.number (same_life-true source m.life p.0) (eqb-true number m.number p.1)

pub tests : (source : Life) (number : ℕ) → (same_life source source && number == number) ≡ true
tests source number = and_from (same_life source source) (number == number) (same_life-refl source) (eq-eqb number number refl)

-- ---- a message is early no more

-- the names that are left
abbrev left_of : Life → ℕ → List Name → List Name
left_of source number names = filter (λ (m : Name). not (same_life source m.life && number == m.number)) names

-- how many are left of a life
left_counts : (source : Life) (number : ℕ) (life : Life) (names : List Name) → AreOnce names → Member (named source number) names
    → cond (same_life source life) (length (filter (λ (m : Name). same_life m.life life) names) - 1) (length (filter (λ (m : Name). same_life m.life life) names))
    ≡ length (filter (λ (m : Name). same_life m.life life) (left_of source number names))
left_counts source number life names once there =
    let t : Name → Bool = λ m. same_life source m.life && number == m.number in
    let of_life : Name → Bool = λ m. same_life m.life life in
    let ours : List Name = filter of_life names in
    let turned : length (filter (λ m. not (t m)) ours) ≡ length (filter of_life (left_of source number names)) = ap (λ (xs : List Name). length xs) (filters_turn (λ m. not (t m)) of_life names) in
    (elim (same_life source life) as (λ b. same_life source life ≡ b → cond b (length ours - 1) (length ours) ≡ length (filter of_life (left_of source number names))) [
      | true ↦ λ e. (let n = length_without t (named source number) ours (thinned_once ours names (thinned_filter of_life names) once) (filter-member of_life (named source number) names there e)
          (tests source number) (λ m k. tested source number m k) in
          omega arith)
      | false ↦ λ e. sym (ap (λ (xs : List Name). length xs) (filter_all (λ m. not (t m)) ours (λ m k.
          ap not (false_from_ne_true (t m) (λ is.
          let same : source ≡ m.life = ap (λ (x : Name). x.life) (tested source number m is) in
          let ofs = (member-filter of_life m names k).1 in
          let wrong : true ≡ false = sym ofs ∙ ap (λ (l : Life). same_life l life) (sym same) ∙ e in
          cc))))) ∙ turned
    ]) refl

-- a message that entered, and waits for no receive, is early no more
unearly : (source : Life) (number : ℕ) (v : Kept) → IsHeardEarly v → is_some (v.early source number) ≡ true → number < (v.peers source).next
    → (Member (named source number) (arrived_names v.arrived) → ⊥) → IsHeardEarly (without_early source number v)
unearly source number v h there entered gone =
    let t : Name → Bool = λ m. same_life source m.life && number == m.number in
    let w : Kept = without_early source number v in
    let stays : (life : Life) (n : ℕ) → t (named life n) ≡ false → is_some (w.early life n) ≡ is_some (v.early life n) = λ life n off. ap (λ b. is_some (cond b None (v.early life n))) off in
    let was : (life : Life) (n : ℕ) → is_some (w.early life n) ≡ true → (t (named life n) ≡ false) × (is_some (v.early life n) ≡ true) = λ life n.
    elim (t (named life n)) as (λ b. is_some (cond b None (v.early life n)) ≡ true → (b ≡ false) × (is_some (v.early life n) ≡ true)) [
      | true ↦ λ e. cc
      | false ↦ λ e. (refl, e)
    ] in
    let member = h.are.all source number there in
    record {
      names = left_of source number h.names;
      are = record {
        once = thinned_once (left_of source number h.names) h.names (thinned_filter (λ (m : Name). not (t m)) h.names) h.are.once;
        early = λ m k.
            let f = member-filter (λ (m : Name). not (t m)) m h.names k in
            stays m.life m.number (false_from_ne_true (t m) (λ e. let wrong : false ≡ true = sym (ap not e) ∙ f.1 in cc)) ∙ h.are.early m f.0;
        all = λ life n e.
            let q = was life n e in
            filter-member (λ (m : Name). not (t m)) (named life n) h.names (h.are.all life n q.1) (ap not q.0);
        count =
            let n = length_without t (named source number) h.names h.are.once member (tests source number) (λ m k. tested source number m k) in
            let c = h.are.count in
            omega arith;
        counts = λ life.
            ap (λ n. cond (same_life source life) (n - 1) n) (h.are.counts life) ∙ left_counts source number life h.names h.are.once member;
      };
      heard = λ life n e. h.heard life n (was life n e).1;
      waits = λ life n e le.
          stays life n (false_from_ne_true (t (named life n)) (λ is.
          let same = tested source number (named life n) is in
          let at : number ≡ n = ap (λ (m : Name). m.number) same in
          let next : (v.peers source).next ≡ (v.peers life).next = ap (λ (m : Name). (v.peers m.life).next) same in
          omega arith))
          ∙ h.waits life n e le;
      arrived_once = h.arrived_once;
      arrived_before = h.arrived_before;
      arrived_early = λ a m.
          stays a.life a.no.0 (false_from_ne_true (t (named a.life a.no.0)) (λ is.
          gone (subst (λ (x : Name). Member x (arrived_names v.arrived)) (sym (tested source number (named a.life a.no.0) is)) (map-member (λ (x : Arrived). named x.life x.no.0) a v.arrived m))))
          ∙ h.arrived_early a m;
    }

-- so where a receive takes it
pub met_heard : (p : Pair) (v : Kept) → IsHeardEarly v → is_some (v.early p.message.life p.message.no.0) ≡ true → p.message.no.0 < (v.peers p.message.life).next
    → (Member (named p.message.life p.message.no.0) (arrived_names v.arrived) → ⊥) → IsHeardEarly (meet_one p v)
unfolding meet_one
met_heard p v h there entered gone =
    let source = p.message.life in
    let number = p.message.no.0 in
    let u : Kept = without_early source number v in
    let w : Kept = taken p v in
    heard_same w (meet_one p v) (settled_hears true (receive_numbered w p.recv.id.0) w)
    (heard_same u w (hears_still u w refl refl refl refl refl) (unearly source number v h there entered gone))
