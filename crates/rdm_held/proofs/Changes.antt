-- A held message that is changed, beside the record's.
use Rattle.std.proofs.Common.{◌≡◌, refl, sym, ap, subst, ◌∙◌, ℕ, Bool, true, false, Option, Some, None, length}
use Rattle.std.specs.Prelude.{◌==◌, cond, option_map, is_some, unwrap_or}
use Rattle.std.specs.Option.{IsSomeAnd}
use Rattle.std.proofs.lemmas.Bool.{and_parts, eqb-true}
use Rattle.std.specs.FinMap as map
use Rattle.rdm_num.specs.Pieces.{Piece}
use Rattle.rdm_num.specs.Lives.{same_life}
use Rattle.rdm_num.proofs.Lives.{same_life-true}
use Rattle.rdm_num.specs.declared.numbers.Life.{Life}
use Rattle.rdm_num.specs.declared.numbers.MsgNo.{MsgNo}
use Rattle.rdm_window.specs.Message.{Message, filled, Awaits, with_room, with_spent}
use Rattle.rdm_window.specs.Early.{Held, key_of, message_at, with_message, is_of_life, changed, put_back}
use Rattle.rdm_window.proofs.Messages.{message_order_total, message_order-IsAntisymmetric}
use Rattle.rdm_life.specs.Kept.{Kept, EarlyMessage}
use Rattle.rdm_life.specs.Handling.{with_more}
use Rattle.rdm_life.specs.Receiving.{with_early}
use Rattle.rdm_held.specs.Held.{IsEarly, AreEarly, IsHeldAs, IsHeldIn, count_of}
use Rattle.rdm_held.proofs.Came.{filled_early}
use Rattle.rdm_held.proofs.Counts.{more, count_insert}
use Rattle.rdm_held.proofs.Keys.{is_at, at_with}

-- the same life and number have the same message
at_same : (h : Held) (life source : Life) (number at : MsgNo) → is_at life number source at ≡ true → message_at h life number ≡ message_at h source at
at_same h life source number at is =
    let parts = and_parts (same_life life source) (number.0 == at.0) is in
    let same = same_life-true life source parts.0 in
    let also = eqb-true number.0 at.0 parts.1 in
    λ i. map.get h.messages (((same i).port.0, (same i).connid.0), also i)

-- a value that is there is that one
the_value : {A : Type 0} (x y : A) → Some x ≡ Some y → x ≡ y
the_value x y e = ap (λ o. unwrap_or o x) e

-- where no message is, none is changed
none_changed : (b : Bool) (o : Option Message) (q : Option EarlyMessage) (fe : EarlyMessage → EarlyMessage) → (b ≡ true → o ≡ None) → AreEarly o q → AreEarly o (cond b (option_map fe q) q)
none_changed false o q fe none are = are
none_changed true None None fe none are = are
none_changed true None (Some e) fe none are = elim are [ ]
none_changed true (Some m) None fe none are = elim are [ ]
none_changed true (Some m) (Some e) fe none are = let e : Some m ≡ None = none refl in cc

-- where one is, it is changed in both
some_changed : (b : Bool) (o : Option Message) (q : Option EarlyMessage) (m : Message) (fm : Message → Message) (fe : EarlyMessage → EarlyMessage) → (b ≡ true → o ≡ Some m)
    → ((e : EarlyMessage) → IsEarly m e → IsEarly (fm m) (fe e)) → AreEarly o q → AreEarly (cond b (Some (fm m)) o) (cond b (option_map fe q) q)
some_changed false o q m fm fe some each are = are
some_changed true None None m fm fe some each are = let e : None ≡ Some m = some refl in cc
some_changed true None (Some e) m fm fe some each are = elim are [ ]
some_changed true (Some n) None m fm fe some each are = elim are [ ]
some_changed true (Some n) (Some e) m fm fe some each are = each e (subst (λ x. IsEarly x e) (the_value n m (some refl)) are)

-- no more of either
same_both : (b : Bool) (n : ℕ) → cond b (more true n) n ≡ n
same_both true n = refl
same_both false n = refl

module _ (h : Held) (v : Kept) (source : Life) (at : MsgNo) (held : IsHeldIn h v) (fm : Message → Message) (fe : EarlyMessage → EarlyMessage)
    (each : (m : Message) (e : EarlyMessage) → message_at h source at ≡ Some m → IsEarly m e → IsEarly (fm m) (fe e))
    (early : Life → ℕ → Option EarlyMessage)
    (is_so : (life : Life) (n : MsgNo) → early life n.0 ≡ cond (is_at life n source at) (option_map fe (v.early life n.0)) (v.early life n.0)) where
  -- where none is held there
  none_held_there : message_at h source at ≡ None → IsHeldAs h early v.early_of v.early_count
  none_held_there none =
      record {
        messages = λ life n.
            subst (AreEarly (message_at h life n)) (sym (is_so life n))
            (none_changed (is_at life n source at) (message_at h life n) (v.early life n.0) fe (λ is. at_same h life source n at is ∙ none) (held.messages life n));
        of_lives = held.of_lives;
        count = held.count;
      }

  -- where one is
  one_held_there : (m : Message) → message_at h source at ≡ Some m → IsHeldAs (with_message h source at (fm m)) early v.early_of v.early_count
  one_held_there m some =
      record {
        messages = λ life n.
            subst (λ o. AreEarly o (early life n.0)) (sym (at_with h source at (fm m) life n))
            (subst (AreEarly (cond (is_at life n source at) (Some (fm m)) (message_at h life n))) (sym (is_so life n))
            (some_changed (is_at life n source at) (message_at h life n) (v.early life n.0) m fm fe (λ is. at_same h life source n at is ∙ some) (λ e is. each m e some is) (held.messages life n)));
        of_lives = λ life.
            held.of_lives life
            ∙ sym (count_insert message_order_total message_order-IsAntisymmetric h.messages (is_of_life life) (key_of source at) (fm m)
            ∙ ap (λ o. cond (is_of_life life (key_of source at)) (more (is_some o) (count_of h life)) (count_of h life)) some
            ∙ same_both (is_of_life life (key_of source at)) (count_of h life));
        count = held.count
            ∙ sym (map.len-insert message_order_total h.messages (key_of source at) (fm m) ∙ ap (λ o. more (is_some o) (map.len h.messages)) some);
      }

  -- a message that is changed
  is_changed : IsHeldAs (changed h source at fm) early v.early_of v.early_count
  unfolding put_back
  is_changed =
      elim (message_at h source at) as (λ o. message_at h source at ≡ o → IsHeldAs (put_back h source at (option_map fm o)) early v.early_of v.early_count) [
        | None ↦ λ none. none_held_there none
        | Some m ↦ λ some. one_held_there m some
      ] refl

-- what is awaited of the message that is held there
awaits_there : (o : Option Message) (m : Message) (at len : ℕ) → IsSomeAnd o (Awaits at len) → o ≡ Some m → Awaits at len m
awaits_there o m at len awaits some = subst (λ x. IsSomeAnd x (Awaits at len)) some awaits

-- the record has no reservations
pub spent_early : (m : Message) (e : EarlyMessage) → IsEarly m e → IsEarly (with_spent m) e
spent_early m e is = record { head = is.head; first_part = is.first_part; came = is.came; whole = is.whole }

pub room_early : (m : Message) (e : EarlyMessage) → IsEarly m e → IsEarly (with_room m) e
room_early m e is = record { head = is.head; first_part = is.first_part; came = is.came; whole = is.whole }

-- nothing is changed
left_so : (b : Bool) (q : Option EarlyMessage) → q ≡ cond b (option_map (λ (e : EarlyMessage). e) q) q
left_so true None = refl
left_so true (Some e) = refl
left_so false q = refl

-- a piece that is added
pub adds : (h : Held) (v : Kept) (source : Life) (number : MsgNo) (p : Piece) → IsHeldIn h v → IsSomeAnd (message_at h source number) (Awaits p.offset (length p.bytes))
    → IsHeldIn (changed h source number (λ m. filled m p.offset p.bytes)) (with_early source number.0 (with_more (Some p)) v)
unfolding with_early
adds h v source number p held awaits =
    is_changed h v source number held (λ m. filled m p.offset p.bytes) (with_more (Some p))
    (λ m e some is. filled_early m e p is (awaits_there (message_at h source number) m p.offset (length p.bytes) awaits some))
    (with_early source number.0 (with_more (Some p)) v).early
    (λ life n. refl)

-- the same where a reservation is spent
pub adds_reserved : (h : Held) (v : Kept) (source : Life) (number : MsgNo) (p : Piece) → IsHeldIn h v → IsSomeAnd (message_at h source number) (Awaits p.offset (length p.bytes))
    → IsHeldIn (changed h source number (λ m. with_spent (filled m p.offset p.bytes))) (with_early source number.0 (with_more (Some p)) v)
unfolding with_early
adds_reserved h v source number p held awaits =
    is_changed h v source number held (λ m. with_spent (filled m p.offset p.bytes)) (with_more (Some p))
    (λ m e some is.
    spent_early (filled m p.offset p.bytes) (with_more (Some p) e)
    (filled_early m e p is (awaits_there (message_at h source number) m p.offset (length p.bytes) awaits some)))
    (with_early source number.0 (with_more (Some p)) v).early
    (λ life n. refl)

-- room that is made
pub reserves : (h : Held) (v : Kept) (source : Life) (number : MsgNo) → IsHeldIn h v → IsHeldIn (changed h source number with_room) v
reserves h v source number held =
    is_changed h v source number held with_room (λ e. e) (λ m e some is. room_early m e is) v.early (λ life n. left_so (is_at life n source number) (v.early life n.0))
