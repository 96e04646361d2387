-- A lawful history of a fair job has no more entries than the job's bound.
use Rattle.std.proofs.Common.{◌≡◌, ℕ, ◌+◌, ◌*◌, ◌≤◌, List, [], ◌∷◌, length, refl, arith}
use Rattle.rdm_num.specs.declared.numbers.Life.{Life}
use Rattle.rdm_model.specs.Grants.{data_room}
use Rattle.rdm_model.specs.declared.job.Job.{Job}
use Rattle.rdm_model.specs.declared.entry.Entry.{Entry}
use Rattle.rdm_model.specs.Deeds.{Deed, deed_count}
use Rattle.rdm_model.specs.Beginnings.{own_of, rank_of}
use Rattle.rdm_model.specs.Jobs.{bound, sum_of_ops, sent_length, open_count}
use Rattle.rdm_model.specs.Sends.{Sent}
use Rattle.rdm_model.proofs.Pushes.{pushed_of}
use Rattle.rdm_model.specs.Lawful.{life_deeds}
use Rattle.rdm_law.specs.Law.{IsBounded}
use Rattle.rdm_law.proofs.Classes.ClassFree.{all_free}
use Rattle.rdm_law.proofs.Central.LawfulPlayed.{lawful_played}
use Rattle.rdm_law.proofs.Classes.ClassData.{fair_room}
use Rattle.rdm_law.proofs.Accounts.Wired.{Played, own_life}
use Rattle.rdm_law.proofs.Accounts.Known.{account, sends_of}
use Rattle.rdm_law.proofs.Accounts.Named.{pairs_of}
use Rattle.rdm_law.proofs.Bound.Totals.{pushes_of}
use Rattle.rdm_law.proofs.Bound.EntryCounts.{entry_weight, ops_weight, handled_le}
use Rattle.rdm_law.proofs.Bound.LifeCounts.{deed_weight, deed_le, deed_at, lives_of, lives_distinct, lives_count, lives_weight}
use Rattle.rdm_law.proofs.Bound.Covers.{covered_weight, are_covered, push_life}
use Rattle.rdm_law.proofs.Bound.NoteCounts.{one, notes_counted}
use Rattle.rdm_law.proofs.Bound.KindCounts.{kinds_total, push_kinds}
use Rattle.rdm_law.proofs.Bound.PollCounts.{polls_total}
use Rattle.rdm_law.proofs.Bound.PushCounts.{pushes_counted}
use Rattle.rdm_law.proofs.Bound.PacketCounts.{packets_counted}
use Rattle.rdm_law.proofs.Bound.SquareCounts.{total_each, square_le, fair_ports, ones_of_ops}
use Rattle.rdm_law.proofs.Bound.SeenLives.{seen_lives}
use Rattle.rdm_law.proofs.Bound.SeenCounts.{seen_few}
use Rattle.rdm_law.proofs.Bound.OwedCounts.{owed_counted}
use Rattle.rdm_law.proofs.Bound.AskCounts.{asks_counted}
use Rattle.rdm_law.proofs.Bound.SendSums.{sent_bytes, sends_few, sends_bytes}
use Rattle.rdm_law.proofs.Bound.Exchange.{send_load, pair_load, pairs_exchanged}
use Rattle.rdm_lists.proofs.Sums.{total, total_le, total_same, total_plus, total_ones}

-- both ways to count deeds agree
count_total : (f : Deed → ℕ) (log : List Deed) → deed_count f log ≡ total f log
unfolding deed_count total
count_total f [] = refl
count_total f (d ∷ before) = let r = count_total f before in omega arith

-- a life pushes what it owes and what it sends
life_pushes : (job : Job) (history : List Entry) (l : Life) → Played job history → length (seen_lives (own_of job l) (life_deeds job history l)) ≤ length (lives_of job history)
    → total pushes_of (life_deeds job history l)
    ≤ (length (lives_of job history) + total (pair_load job history l) (pairs_of job history l)) + (total sent_bytes (sends_of job history l) + total send_load (sends_of job history l))
unfolding own_of data_room
life_pushes job history l played seen =
    let own = own_of job l in
    let log = life_deeds job history l in
    let local = own_life job history played l in
    let a = pushes_counted own log local in
    let b = total_le (λ (s : Sent). length (pushed_of own (account job history l) log s.number)) send_load (sends_of job history l) (λ s m. packets_counted own log s local (fair_room job played.fair) m) in
    let c = owed_counted job history l played in
    let d = asks_counted job history l played in
    let e = count_total pushes_of log in
    omega arith

-- the bytes that lives send are no more than the job asks for
life_bytes : (job : Job) (history : List Entry) → Played job history → total (λ l. total sent_bytes (sends_of job history l)) (lives_of job history) ≤ sum_of_ops sent_length job
life_bytes job history played =
    let ls = lives_of job history in
    let a = total_le (λ l. total sent_bytes (sends_of job history l)) (λ l. total (deed_weight sent_length) (life_deeds job history l)) ls
    (λ l m. sends_bytes (own_of job l) (account job history l) (life_deeds job history l)) in
    let b = lives_weight job ls (deed_weight sent_length) (entry_weight job sent_length) history (lives_distinct job history) (λ e. deed_le (rank_of job e.port.0).ops sent_length e.act) in
    let c = ops_weight job history sent_length played in
    omega arith

-- lives send no more often than the job has instructions
life_sends : (job : Job) (history : List Entry) → Played job history → total (λ l. length (sends_of job history l)) (lives_of job history) ≤ sum_of_ops one job
life_sends job history played =
    let ls = lives_of job history in
    let a = total_le (λ l. length (sends_of job history l)) (λ l. total (deed_weight one) (life_deeds job history l)) ls
    (λ l m. let f = sends_few (own_of job l) (account job history l) (life_deeds job history l) in omega arith) in
    let b = lives_weight job ls (deed_weight one) (entry_weight job one) history (lives_distinct job history) (λ e. deed_le (rank_of job e.port.0).ops one e.act) in
    let c = ops_weight job history one played in
    omega arith

-- the weight of sends
loads : (ss : List Sent) → total send_load ss ≡ length ss + total sent_bytes ss
loads ss = let a = total_plus (λ (s : Sent). 1) sent_bytes ss in let b = total_ones ss in omega arith

-- sends with their bytes
life_loads : (job : Job) (history : List Entry) → Played job history
    → total (λ l. total send_load (sends_of job history l)) (lives_of job history) ≤ sum_of_ops one job + sum_of_ops sent_length job
life_loads job history played =
    let ls = lives_of job history in
    let a = total_same (λ l. total send_load (sends_of job history l)) (λ l. length (sends_of job history l) + total sent_bytes (sends_of job history l)) ls (λ l m. loads (sends_of job history l)) in
    let b = total_plus (λ l. length (sends_of job history l)) (λ l. total sent_bytes (sends_of job history l)) ls in
    let c = life_bytes job history played in
    let d = life_sends job history played in
    omega arith

-- the lives took from no more lives than there are
abbrev SeenFew : Job → List Entry → Type 0
SeenFew job history = (l : Life) → length (seen_lives (own_of job l) (life_deeds job history l)) ≤ length (lives_of job history)

-- what all lives push, twice as each push may be handled
all_pushes : (job : Job) (history : List Entry) → Played job history → SeenFew job history
    → 2 * total (λ e. pushes_of (deed_at job e)) history ≤ 2 * sum_of_ops open_count job * sum_of_ops open_count job + 4 * sum_of_ops one job + 6 * sum_of_ops sent_length job
all_pushes job history played seen =
    let ls = lives_of job history in
    let f : Life → ℕ = λ l. total (pair_load job history l) (pairs_of job history l) in
    let g : Life → ℕ = λ l. total sent_bytes (sends_of job history l) in
    let h : Life → ℕ = λ l. total send_load (sends_of job history l) in
    let a = covered_weight job pushes_of ls history (are_covered job pushes_of ls history (λ before e does. push_life job before e e.act does) (λ l m. m) played) in
    let b = total_le (λ l. total pushes_of (life_deeds job history l)) (λ l. (length ls + f l) + (g l + h l)) ls (λ l m. life_pushes job history l played (seen l)) in
    let c = total_plus (λ l. length ls + f l) (λ l. g l + h l) ls in
    let d = total_plus (λ l. length ls) f ls in
    let e = total_plus g h ls in
    let t = total_each (length ls) ls in
    let x = pairs_exchanged job history played in
    let y = life_bytes job history played in
    let z = life_loads job history played in
    let n = lives_count job history in
    let o = ops_weight job history open_count played in
    let few : length ls ≤ sum_of_ops open_count job = omega arith in
    let q = square_le (length ls) (sum_of_ops open_count job) few in
    omega arith

-- a history of a fair job has no more entries than its bound
pub entries_bounded : (job : Job) (history : List Entry) → Played job history → SeenFew job history → length history ≤ bound job
unfolding bound
entries_bounded job history played seen =
    let k = kinds_total job history played in
    let p = push_kinds job history in
    let n = notes_counted job history (fair_ports job played.fair) played in
    let l = all_pushes job history played seen in
    let h = handled_le history played.wire in
    let c = polls_total job history played in
    let o = ops_weight job history one played in
    let i = ones_of_ops job in
    omega arith

-- a lawful history of a fair job is bounded
pub is_bounded : IsBounded
is_bounded job history fair lawful =
    let played = lawful_played job history fair (all_free job) lawful in
    entries_bounded job history played (λ l. seen_few job history played l)
