-- Whether a life was met, what is known of its features, and how many messages went to it.
use Rattle.std.proofs.Common.{◌≡◌, ℕ, ◌+◌, Bool, true, false, cond, List, [], ◌∷◌, length, Option, None, refl, sym, ◌∙◌, ap, arith}
use Rattle.std.specs.Prelude.{◌||◌, ◌&&◌}
use Rattle.std.specs.List.{list_any}
use Rattle.rdm_lists.specs.Lists.{or_else}
use Rattle.rdm_lists.proofs.Bools.{or_false}
use Rattle.rdm_lists.proofs.Options.{or_else-none}
use Rattle.rdm_num.specs.Lives.{same_life}
use Rattle.rdm_num.specs.declared.numbers.Life.{Life}
use Rattle.rdm_hdr.specs.Fields.{has_bit}
use Rattle.rdm_pkt.specs.declared.Packet.TheVariants.{Handshake}
use Rattle.rdm_model.specs.declared.job.Instr.TheVariants.{Insert, Reg, Send, Recv}
use Rattle.rdm_model.specs.Beginnings.{Own}
use Rattle.rdm_model.specs.Currents.{current, other_life, forgotten_by, is_forgotten}
use Rattle.rdm_model.specs.Deeds.{Deed, Did, Took, Polled, Item, Spelled}
use Rattle.rdm_model.specs.Replies.{meets, confirm_feature}
use Rattle.rdm_model.specs.Sends.{known_by, known_word, sends_to}
use Rattle.rdm_life.specs.Kept.{Kept, Peer, stranger}
use Rattle.rdm_life.specs.Keeps.{own_sends, KeepsLives}
use Rattle.rdm_life.specs.Lives.{with_source, greet, after_insert}
use Rattle.rdm_life.specs.Forgetting.{is_among, forget}
use Rattle.rdm_life.specs.Handling.{after}
use Rattle.rdm_life.proofs.Counted.{sent_life, same_now, messages_next}
use Rattle.rdm_life.proofs.LivesCurrent.{same_turn}
use Rattle.rdm_life.proofs.LivesLeft.{word_in, cond_kept}
use Rattle.rdm_life.proofs.LivesLight.{light, after_light, one_to}

-- ---- lives that are forgotten

-- the lives that a deed forgets, where those are current
unfoldable pub forgot_by : Deed → (ℕ → Option Life) → List Life
forgot_by (Did (Insert life)) now = other_life life (now life.port.0)
forgot_by _ now = []

-- by the definitions
pub forgot_is : (d : Deed) (log : List Deed) → forgotten_by log d ≡ forgot_by d (current log)
unfolding forgotten_by forgot_by
forgot_is (Did (Insert life)) log = refl
forgot_is _ log = refl

-- by what is kept
pub forgot_now : (own : Own) (d : Deed) (log : List Deed) (v : Kept) → KeepsLives own log v → forgot_by d v.current ≡ forgot_by d (current log)
unfolding forgot_by
forgot_now own (Did (Insert life)) log v k = ap (λ (o : Option Life). other_life life o) (k.current_is life.port.0)
forgot_now own _ log v k = refl

-- a life that is not forgotten was not, and a deed doesn't forget it
pub not_forgot : (own : Own) (d : Deed) (log : List Deed) (v : Kept) (life : Life) → KeepsLives own log v → is_forgotten (d ∷ log) life ≡ false
    → (is_forgotten log life ≡ false) × (list_any (same_life life) (forgot_by d v.current) ≡ false)
unfolding is_forgotten
not_forgot own d log v life k h =
    let both = or_false (is_forgotten log life) (list_any (same_life life) (forgotten_by log d)) h in
    let is : forgot_by d v.current ≡ forgotten_by log d = forgot_now own d log v k ∙ sym (forgot_is d log) in
    (both.0, ap (λ (ls : List Life). list_any (same_life life) ls) is ∙ both.1)

-- what is kept of a life that is not forgotten
kept_peer : (lost : Bool) (gone p : Peer) → lost ≡ false → cond lost gone p ≡ p
kept_peer lost gone p h = rw h refl

-- ---- lives that are met

-- a life that is met, where it is so
met_then : (b s : Bool) (p : Peer) → (cond s (record p { met = cond b true p.met }) p).met ≡ ((b && s) || p.met)
met_then true true p = refl
met_then true false p = refl
met_then false true p = refl
met_then false false p = refl

-- a deed meets a life, or leaves it
light_met : (d : Deed) (v : Kept) (life : Life) → list_any (same_life life) (forgot_by d v.current) ≡ false
    → ((light d v).peers life).met ≡ (meets v.own life d || (v.peers life).met)
unfolding light meets forgot_by after_insert with_source greet forget is_among
light_met (Did (Insert new)) v life h =
    let b : Bool = has_bit confirm_feature v.own.features in
    let change : Peer → Peer = λ p. record p { met = cond b true p.met } in
    ap (λ (p : Peer). (cond (same_life life new) (change p) p).met)
    (kept_peer (list_any (same_life life) (other_life new (v.current new.port.0))) (stranger v.own.limits.first) (v.peers life) h)
    ∙ met_then b (same_life life new) (v.peers life)
    ∙ ap (λ (s : Bool). (b && s) || (v.peers life).met) (same_turn life new)
light_met (Did (Reg content)) v life h = refl
light_met (Did (Send req)) v life h = refl
light_met (Did (Recv req)) v life h = refl
light_met (Took from item) v life h =
    let s : Bool = same_life life from in
    let p : Peer = cond s (record (v.peers life) { met = true }) (v.peers life) in
    cond_kept (λ (p : Peer). p.met) s (record p { known = or_else p.known (word_in item) }) p refl
    ∙ met_then true s (v.peers life)
    ∙ ap (λ (t : Bool). t || (v.peers life).met) (same_turn life from)
light_met Polled v life h = refl
light_met _ v life h = refl

-- whether a life was met after a deed
pub met_step : (own : Own) (d : Deed) (log : List Deed) (v : Kept) → KeepsLives own log v → (life : Life) → is_forgotten (d ∷ log) life ≡ false
    → ((after d v).peers life).met ≡ list_any (meets own life) (d ∷ log)
met_step own d log v k life h =
    let kept = not_forgot own d log v life k h in
    (after_light d v).met life
    ∙ light_met d v life kept.1
    ∙ ap (λ (o : Own). meets o life d || (v.peers life).met) k.own_is
    ∙ ap (λ (b : Bool). meets own life d || b) (k.met_is life kept.0)

-- ---- what is known of them

-- nothing either way
none_either : (b : Bool) (x : Option ℕ) → x ≡ None → None ≡ cond b x None
none_either true x h = sym h
none_either false x h = refl

-- what a datagram tells of a life
known_taken : (from : Life) (item : Item) (life : Life) → known_by life (Took from item) ≡ cond (same_life from life) (word_in item) None
unfolding known_by word_in
known_taken from (Spelled (Handshake words connid raw)) life = refl
known_taken from _ life = none_either (same_life from life) None refl

-- the first word that was told, or the next one
word_then : (s : Bool) (p : Peer) (o : Option ℕ) → (cond s (record p { known = or_else p.known o }) p).known ≡ or_else p.known (cond s o None)
word_then true p o = refl
word_then false p o = sym (or_else-none p.known)

-- a deed tells of a life, or leaves it
light_known : (d : Deed) (v : Kept) (life : Life) → list_any (same_life life) (forgot_by d v.current) ≡ false
    → ((light d v).peers life).known ≡ or_else (v.peers life).known (known_by life d)
unfolding light known_by forgot_by after_insert with_source greet forget is_among
light_known (Did (Insert new)) v life h =
    let b : Bool = has_bit confirm_feature v.own.features in
    let change : Peer → Peer = λ p. record p { met = cond b true p.met } in
    ap (λ (p : Peer). (cond (same_life life new) (change p) p).known)
    (kept_peer (list_any (same_life life) (other_life new (v.current new.port.0))) (stranger v.own.limits.first) (v.peers life) h)
    ∙ cond_kept (λ (p : Peer). p.known) (same_life life new) (change (v.peers life)) (v.peers life) refl
    ∙ sym (or_else-none (v.peers life).known)
light_known (Did (Reg content)) v life h = sym (or_else-none (v.peers life).known)
light_known (Did (Send req)) v life h = sym (or_else-none (v.peers life).known)
light_known (Did (Recv req)) v life h = sym (or_else-none (v.peers life).known)
light_known (Took from item) v life h =
    let s : Bool = same_life life from in
    let met : Peer = record (v.peers life) { met = true } in
    let p : Peer = cond s met (v.peers life) in
    word_then s p (word_in item)
    ∙ ap (λ (o : Option ℕ). or_else o (cond s (word_in item) None)) (cond_kept (λ (p : Peer). p.known) s met (v.peers life) refl)
    ∙ ap (λ (t : Bool). or_else (v.peers life).known (cond t (word_in item) None)) (same_turn life from)
    ∙ ap (λ (o : Option ℕ). or_else (v.peers life).known o) (sym (known_taken from item life))
light_known Polled v life h = sym (or_else-none (v.peers life).known)
light_known _ v life h = sym (or_else-none (v.peers life).known)

-- what is known of a life's features after a deed
pub known_step : (own : Own) (d : Deed) (log : List Deed) (v : Kept) → KeepsLives own log v → (life : Life) → is_forgotten (d ∷ log) life ≡ false
    → ((after d v).peers life).known ≡ known_word (d ∷ log) life
unfolding known_word
known_step own d log v k life h =
    let kept = not_forgot own d log v life k h in
    (after_light d v).known life ∙ light_known d v life kept.1 ∙ ap (λ (o : Option ℕ). or_else o (known_by life d)) (k.known_is life kept.0)

-- ---- messages to them

-- a deed sends a message to a life, or leaves it
light_messages : (d : Deed) (v : Kept) (life : Life) → list_any (same_life life) (forgot_by d v.current) ≡ false
    → ((light d v).peers life).messages ≡ (v.peers life).messages + one_to (sent_life d v.current) life
unfolding light sent_life one_to forgot_by after_insert with_source greet forget is_among
light_messages (Did (Insert new)) v life h =
    let b : Bool = has_bit confirm_feature v.own.features in
    let change : Peer → Peer = λ p. record p { met = cond b true p.met } in
    ap (λ (p : Peer). (cond (same_life life new) (change p) p).messages)
    (kept_peer (list_any (same_life life) (other_life new (v.current new.port.0))) (stranger v.own.limits.first) (v.peers life) h)
    ∙ cond_kept (λ (p : Peer). p.messages) (same_life life new) (change (v.peers life)) (v.peers life) refl
    ∙ omega arith
light_messages (Did (Reg content)) v life h = omega arith
light_messages (Did (Send req)) v life h = refl
light_messages (Did (Recv req)) v life h = omega arith
light_messages (Took from item) v life h =
    let s : Bool = same_life life from in
    let met : Peer = record (v.peers life) { met = true } in
    let p : Peer = cond s met (v.peers life) in
    cond_kept (λ (p : Peer). p.messages) s (record p { known = or_else p.known (word_in item) }) p refl
    ∙ cond_kept (λ (p : Peer). p.messages) s met (v.peers life) refl
    ∙ omega arith
light_messages Polled v life h = omega arith
light_messages _ v life h = omega arith

-- the count of messages to a life after a deed
pub messages_step : (own : Own) (d : Deed) (log : List Deed) (v : Kept) → KeepsLives own log v → (life : Life) → is_forgotten (d ∷ log) life ≡ false
    → ((after d v).peers life).messages ≡ length (sends_to (own_sends own (d ∷ log)) life)
messages_step own d log v k life h =
    let kept = not_forgot own d log v life k h in
    (after_light d v).messages life
    ∙ light_messages d v life kept.1
    ∙ ap (λ (o : Option Life). (v.peers life).messages + one_to o life) (same_now own d log v k)
    ∙ ap (λ (n : ℕ). n + one_to (sent_life d (current log)) life) (k.messages_are life kept.0)
    ∙ sym (messages_next own d log life)
