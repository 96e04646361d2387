-- What a record has to be for its steps to be taken one at a time.
use Rattle.std.specs.Prelude.{◌≡◌, ◌<◌, ℕ, true, List, [], ◌∷◌, map}
use Rattle.rdm_lists.specs.Lists.{Member}
use Rattle.rdm_match.specs.declared.PostedRecv.{PostedRecv}
use Rattle.rdm_match.specs.Matcher.{Pair}
use Rattle.rdm_model.specs.Completions.{Name}
use Rattle.rdm_life.specs.Kept.{Kept, LiveSend, LiveReceive}
use Rattle.rdm_life.specs.Memory.{is_place_of}

-- no element stands twice
abbrev pub AreOnce : {A : Type 0} → List A → Type 0
AreOnce [] = Unit {0}
AreOnce (x ∷ xs) = (Member x xs → ⊥) × AreOnce xs

-- receives of one number are one
abbrev pub AreNumbered : List LiveReceive → Type 0
AreNumbered rs = (q r : LiveReceive) → Member q rs → Member r rs → q.receive.number ≡ r.receive.number → q ≡ r

-- receives that have a place in common are one
abbrev pub AreApart : List LiveReceive → Type 0
AreApart rs =
    (q r : LiveReceive) (region place : ℕ) → Member q rs → Member r rs
    → is_place_of q.receive.req region place ≡ true → is_place_of r.receive.req region place ≡ true → q ≡ r

-- the numbers of live receives
abbrev pub receive_numbers : List LiveReceive → List ℕ
receive_numbers rs = map (λ (r : LiveReceive). r.receive.number) rs

-- the numbers of live sends
abbrev pub send_numbers : List LiveSend → List ℕ
send_numbers ss = map (λ (s : LiveSend). s.sent.number) ss

-- the numbers of posted receives
abbrev pub posted_numbers : List PostedRecv → List ℕ
posted_numbers rs = map (λ (r : PostedRecv). r.id.0) rs

-- the numbers of the receives of pairs
abbrev pub paired_numbers : List Pair → List ℕ
paired_numbers ps = map (λ (p : Pair). p.recv.id.0) ps

-- the messages of pairs
abbrev pub names_of : List Pair → List Name
names_of ps = map (λ (p : Pair). record { life = p.message.life; number = p.message.no.0 }) ps

-- receives are told apart by their numbers, which were given, and by their places, and sends by their numbers
pub record IsOrderly (v : Kept) : Type 0 where
  pub once : AreOnce (receive_numbers v.receives)
  pub given : (r : LiveReceive) → Member r v.receives → r.receive.number < v.receive_count
  pub apart : AreApart v.receives
  pub posted_once : AreOnce (posted_numbers v.posted)
  pub posted_given : (r : PostedRecv) → Member r v.posted → r.id.0 < v.receive_count
  pub sends_once : AreOnce (send_numbers v.sends)
  pub sends_given : (s : LiveSend) → Member s v.sends → s.sent.number < v.send_count
