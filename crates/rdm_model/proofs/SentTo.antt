-- The messages that come to a life are those of the sends to it, by their places.
use Rattle.std.proofs.Common.{◌≡◌, ℕ, zero, suc, ◌-◌, ◌≤◌, List, [], ◌∷◌, drop, Some, ap}
use Rattle.std.specs.Prelude.{slice_get}
use Rattle.std.proofs.lemmas.Bool.{le-ltb}
use Rattle.rdm_num.specs.declared.numbers.Life.{Life}
use Rattle.rdm_pkt.specs.Openings.{message_head}
use Rattle.rdm_model.specs.declared.job.Job.{Job}
use Rattle.rdm_model.specs.declared.entry.Entry.{Entry}
use Rattle.rdm_model.specs.Sends.{Sent, sends_to}
use Rattle.rdm_model.specs.Lawful.{from_number, head_sent, bytes_sent, messages_of, sends_in, sent_to}

-- the list from a place on begins with the element there
pub drop_there : {A : Type 0} (xs : List A) (k : ℕ) (x : A) → slice_get xs k ≡ Some x → (rest : List A) × (drop k xs ≡ x ∷ rest)
drop_there [] k x h = cc
drop_there (y ∷ xs) zero x h = (xs, (let e : y ≡ x = cc in ap (λ (z : _). z ∷ xs) e))
drop_there (y ∷ xs) (suc k) x h = drop_there xs k x h

-- the sends from that number on begin with the one at its place
from_number_at : (job : Job) (n : ℕ) (sents : List Sent) (s : Sent) → job.limits.first ≤ n → slice_get sents (n - job.limits.first) ≡ Some s
    → (rest : List Sent) × (from_number job n sents ≡ s ∷ rest)
unfolding from_number
from_number_at job n sents s le h =
    let r = drop_there sents (n - job.limits.first) s h in
    (r.0, rw (le-ltb n job.limits.first le) r.1)

-- the message of that number is that of the send at its place
pub message_placed : (job : Job) (sents : Life → List Sent) (source life : Life) (n : ℕ) (s : Sent)
    → job.limits.first ≤ n → slice_get (sends_to (sents source) life) (n - job.limits.first) ≡ Some s
    → ((messages_of job sents life).head source n ≡ message_head job.limits s.message s.kind) × ((messages_of job sents life).bytes source n ≡ s.message.bytes)
unfolding messages_of head_sent bytes_sent
message_placed job sents source life n s le h =
    let r = from_number_at job n (sends_to (sents source) life) s le h in
    (ap (head_sent job) r.1, ap bytes_sent r.1)

-- the same of the messages that were sent to a life in a history
pub sent_placed : (job : Job) (history : List Entry) (source life : Life) (n : ℕ) (s : Sent)
    → job.limits.first ≤ n → slice_get (sends_to (sends_in job history source) life) (n - job.limits.first) ≡ Some s
    → ((sent_to job history life).head source n ≡ message_head job.limits s.message s.kind) × ((sent_to job history life).bytes source n ≡ s.message.bytes)
unfolding sent_to
sent_placed job history source life n s le h = message_placed job (sends_in job history) source life n s le h
