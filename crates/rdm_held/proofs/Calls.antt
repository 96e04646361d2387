-- Each call of what holds early messages, beside what a deed makes of the record.
use Rattle.std.proofs.Common.{◌≡◌, refl, sym, ap, subst, ◌∙◌, ℕ, ◌+◌, Bool, true, false, Option, Some, None}
use Rattle.std.specs.Prelude.{cond, is_some}
use Rattle.std.specs.FinMap as map
use Rattle.rdm_num.specs.Lives.{same_life}
use Rattle.rdm_num.proofs.Lives.{same_life-refl, same_life-true}
use Rattle.rdm_num.specs.declared.numbers.Life.{Life}
use Rattle.rdm_num.specs.declared.numbers.MsgNo.{MsgNo}
use Rattle.rdm_model.specs.Beginnings.{Own}
use Rattle.rdm_window.specs.Message.{Message}
use Rattle.rdm_window.specs.Early.{Held, message_order, key_of, message_at, none_held, with_message, is_of_life}
use Rattle.rdm_window.proofs.Messages.{message_order_total, message_order-IsAntisymmetric}
use Rattle.rdm_life.specs.Kept.{Kept, EarlyMessage, nothing_kept}
use Rattle.rdm_life.specs.Receiving.{hear}
use Rattle.rdm_held.specs.Held.{IsEarly, AreEarly, IsHeldIn, count_of}
use Rattle.rdm_held.proofs.Counts.{more, count_insert, kept_empty}
use Rattle.rdm_held.proofs.Keys.{is_at, key_life, at_with}

-- the keys of a life
pub count_empty : (life : Life) (size : ℕ) → count_of (none_held size) life ≡ 0
count_empty life size =
    ap (λ (m : map.FinMap message_order Message). map.len m) (kept_empty message_order_total message_order-IsAntisymmetric (is_of_life life))
    ∙ map.len-empty message_order Message

-- before any deed
pub none_is_held : (own : Own) (size : ℕ) → IsHeldIn (none_held size) (nothing_kept own)
none_is_held own size =
    record {
      messages = λ life number. subst (λ o. AreEarly o None) (sym (map.get-empty message_order (key_of life number))) tt;
      of_lives = λ life. sym (count_empty life size);
      count = sym (map.len-empty message_order Message);
    }

-- one message more in both
more_early : (b : Bool) (o : Option Message) (q : Option EarlyMessage) (m : Message) (e : EarlyMessage) → AreEarly o q → IsEarly m e → AreEarly (cond b (Some m) o) (cond b (Some e) q)
more_early true o q m e are is = is
more_early false o q m e are is = are

-- lives are the same the other way round
pub same_turned : (a b : Life) → same_life a b ≡ same_life b a
same_turned a b =
    elim (same_life a b) as (λ x. same_life a b ≡ x → x ≡ same_life b a) [
      | true ↦ λ h. sym (same_life-refl b) ∙ ap (same_life b) (sym (same_life-true a b h))
      | false ↦ λ h.
          elim (same_life b a) as (λ y. same_life b a ≡ y → false ≡ y) [
            | true ↦ λ k. sym h ∙ ap (same_life a) (same_life-true b a k) ∙ same_life-refl a
            | false ↦ λ k. refl
          ] refl
    ] refl

-- a life has one message more where it is the source
heard_more : (b c : Bool) (n k : ℕ) → c ≡ b → n ≡ k → cond c (n + 1) n ≡ cond b (more false k) k
heard_more b c n k same is = λ i. cond (same i) (is i + 1) (is i)

-- a message that is heard of
pub hears : (h : Held) (v : Kept) (source : Life) (number : MsgNo) (m : Message) (e : EarlyMessage) → IsHeldIn h v → message_at h source number ≡ None → IsEarly m e
    → IsHeldIn (with_message h source number m) (hear source number.0 e v)
unfolding hear
hears h v source number m e held none is =
    record {
      messages = λ life n.
          subst (λ o. AreEarly o ((hear source number.0 e v).early life n.0)) (sym (at_with h source number m life n))
          (more_early (is_at life n source number) (message_at h life n) (v.early life n.0) m e (held.messages life n) is);
      of_lives = λ life.
          heard_more (same_life source life) (same_life life source) (v.early_of life) (count_of h life) (same_turned life source) (held.of_lives life)
          ∙ sym (count_insert message_order_total message_order-IsAntisymmetric h.messages (is_of_life life) (key_of source number) m
          ∙ (λ i. cond (key_life life source number i) (more (is_some (none i)) (count_of h life)) (count_of h life)));
      count = ap (λ n. n + 1) held.count
          ∙ sym (map.len-insert message_order_total h.messages (key_of source number) m ∙ ap (λ o. more (is_some o) (map.len h.messages)) none);
    }
