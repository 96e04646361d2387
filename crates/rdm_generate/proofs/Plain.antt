-- A generated job has no number with a point.
use Rattle.std.proofs.Common.{◌≡◌, ℕ, ◌+◌, ◌%◌, length, false, List, [], ◌∷◌, ◌++◌, map, refl}
use Rattle.std.proofs.lemmas.Bool.{or_parts}
use Rattle.serde_json.specs.Data.{Data}
use Rattle.serde_json.specs.View.{items_of}
use Rattle.serde_json.specs.Written.{has_float, items_have_float}
use Rattle.rdm_generate.specs.declared.draws.Message.{Message}
use Rattle.rdm_generate.specs.Draws.{messages_of}
use Rattle.rdm_generate.specs.Instructions.{open_json, insert_json, fill_json, zero_json, empty_recv_json, send_json, wait_json}
use Rattle.rdm_generate.specs.Programs.{ports, connid_of, total_of, round_of, recvs_from, sends_from, empty_recvs, empty_sends, inserts, program_of}
use Rattle.rdm_generate.specs.Script.{rank_json, received_by, sent_by, job_json}

-- no value of the list has such a number
record ArePlain (ds : List Data) : Type 0 where
  none : items_have_float (items_of ds) ≡ false

plain-append : (xs ys : List Data) → items_have_float (items_of xs) ≡ false → items_have_float (items_of ys) ≡ false → items_have_float (items_of (xs ++ ys)) ≡ false
plain-append [] ys a b = b
plain-append (x ∷ xs) ys a b = let p = or_parts (has_float x) _ a in rw p.0 (plain-append xs ys p.1 b)

both : {xs ys : List Data} → ArePlain xs → ArePlain ys → ArePlain (xs ++ ys)
both {xs = xs} {ys = ys} a b = record { none = plain-append xs ys a.none b.none }

one : (d : Data) → has_float d ≡ false → ArePlain (d ∷ [])
one d h = record { none = rw h refl }

plain-map : (f : ℕ → Data) → ((k : ℕ) → has_float (f k) ≡ false) → (ks : List ℕ) → items_have_float (items_of (map f ks)) ≡ false
plain-map f h [] = refl
plain-map f h (k ∷ ks) = rw h (plain-map f h ks)

plain_inserts : (ks : List ℕ) → ArePlain (inserts ks)
plain_inserts ks = record { none = plain-map (λ p. insert_json p (connid_of p)) (λ k. refl) ks }

plain_empty_recvs : (tag : ℕ) (ks : List ℕ) → ArePlain (empty_recvs tag ks)
plain_empty_recvs tag ks = record { none = plain-map (λ p. empty_recv_json p tag) (λ k. refl) ks }

plain_empty_sends : (tag : ℕ) (ks : List ℕ) → ArePlain (empty_sends tag ks)
plain_empty_sends tag ks = record { none = plain-map (λ p. send_json p 0 0 tag) (λ k. refl) ks }

recvs_none : (at : ℕ) (ms : List Message) → items_have_float (items_of (recvs_from at ms)) ≡ false
recvs_none at [] = refl
recvs_none at (m ∷ ms) = recvs_none (at + m.len) ms

sends_none : (at : ℕ) (ms : List Message) → items_have_float (items_of (sends_from at ms)) ≡ false
sends_none at [] = refl
sends_none at (m ∷ ms) = sends_none (at + m.len) ms

plain_recvs : (ms : List Message) → ArePlain (recvs_from 0 ms)
plain_recvs ms = record { none = recvs_none 0 ms }

plain_sends : (ms : List Message) → ArePlain (sends_from 0 ms)
plain_sends ms = record { none = sends_none 0 ms }

plain_round : (tag completions : ℕ) → ArePlain (round_of tag completions)
plain_round tag completions = both (both (plain_empty_recvs tag ports) (plain_empty_sends tag ports)) (one (wait_json completions) refl)

plain_program : (seed rank : ℕ) (received sent : List Message) → ArePlain (program_of seed rank received sent)
unfolding program_of
plain_program seed rank received sent =
    let start = both (one (open_json (connid_of rank)) refl) (plain_inserts ports) in
    let regions = both (both start (one (fill_json (total_of sent) (seed % 256)) refl)) (one (zero_json (total_of received)) refl) in
    let rounds = both (both regions (plain_round 1 16)) (plain_round 2 32) in
    both (both (both rounds (plain_recvs received)) (plain_sends sent)) (one (wait_json (32 + length received + length sent)) refl)

plain_rank : (seed : ℕ) (ms : List Message) (rank : ℕ) → has_float (rank_json seed ms rank) ≡ false
plain_rank seed ms rank = rw (plain_program seed rank (received_by rank ms) (sent_by rank ms)).none refl

pub plain_job : (seed size : ℕ) → has_float (job_json seed size) ≡ false
unfolding job_json
plain_job seed size = rw (plain-map (rank_json seed (messages_of seed size)) (plain_rank seed (messages_of seed size)) ports) refl
