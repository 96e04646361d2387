-- A grant that arrives starts where what its sender may push ends.
use Rattle.std.proofs.Common.{◌≡◌, ℕ, ◌+◌, ◌<◌, ◌≤◌, List, [], ◌∷◌, refl, arith, inl, inr, ◌∙◌, ap, subst}
use Rattle.std.proofs.lemmas.Bool.{cases_lt}
use Rattle.std.proofs.lemmas.List.Sums.{sum_by-append}
use Rattle.rdm_lists.specs.Lists.{Member}
use Rattle.rdm_num.specs.Lives.{op_id}
use Rattle.rdm_num.specs.declared.numbers.Connid.{Connid}
use Rattle.rdm_num.specs.declared.numbers.Life.{Life}
use Rattle.rdm_num.specs.declared.numbers.OpId.{OpId}
use Rattle.rdm_pkt.specs.declared.Packet.TheVariants.{Cts}
use Rattle.rdm_pkt.specs.Openings.{openings}
use Rattle.rdm_match.specs.Matcher.{Pair}
use Rattle.rdm_wire.specs.declared.Datagram.{Datagram}
use Rattle.rdm_model.specs.declared.job.Job.{Job}
use Rattle.rdm_model.specs.declared.entry.Entry.{Entry}
use Rattle.rdm_model.specs.Deeds.{Deed, Took, Item, Spelled, deed_of, deeds, log_of, of_life}
use Rattle.rdm_model.specs.Beginnings.{Own, own_of, rank_of}
use Rattle.rdm_model.specs.Matches.{matching}
use Rattle.rdm_model.specs.Scenes.{deeds_at}
use Rattle.rdm_model.specs.Wire.{IsUnhandled}
use Rattle.rdm_model.specs.Grants.{Grant, grants, grants_by, grant_bytes}
use Rattle.rdm_model.specs.Sends.{Sent}
use Rattle.rdm_model.specs.Lawful.{life_deeds, port_deeds}
use Rattle.rdm_law.proofs.Accounts.Wired.{Played, played_before, taken_other}
use Rattle.rdm_law.proofs.Accounts.Pushed.{PlacedAt, placed_once}
use Rattle.rdm_law.proofs.Accounts.Known.{account}
use Rattle.rdm_law.proofs.Accounts.Named.{pairs_of}
use Rattle.rdm_law.proofs.Replies.Queue.{Placed}
use Rattle.rdm_law.proofs.Replies.Answered.{Answered, answered_once}
use Rattle.rdm_law.proofs.Windows.WindowsAt.{WindowAt, windows_in_order}
use Rattle.rdm_law.proofs.Windows.Granted.{Granting, allowed_of, own_tells, start_within}
use Rattle.rdm_law.proofs.Lives.Handled.{at_life, NewTake, new_take}
use Rattle.rdm_model.specs.Dues.{pieces_in}
use Rattle.rdm_num.specs.Pieces.{piece_bytes}
use Rattle.rdm_model.proofs.Sending.{grant_taken}
use Rattle.rdm_law.proofs.Accounts.Wired.{taken_pushed}
use Rattle.rdm_law.proofs.Windows.FirstPart.{first_part_opened}
use Rattle.rdm_law.proofs.Windows.WindowsAt.{window_in, window_from}
use Rattle.rdm_law.proofs.Windows.Granting.{TakenWindow, taken_window_longer, grant_or_none, cts_went, granting_earlier, window_longer, answered_longer, placed_longer}

-- all bytes that a sender may push beyond its opening lie in windows whose grants it took
abbrev pub Tile : Job → List Entry → Life → Life → Pair → Sent → Type 0
Tile job history i j p s =
    (y : ℕ) → piece_bytes (pieces_in (openings (own_of job j).limits s.message s.kind)) ≤ y → y < allowed_of (own_of job j) (life_deeds job history j) s
    → TakenWindow job history i j p y

-- a grant of a send that was pushed and not handled starts where what is allowed ends
pub starts_at : (job : Job) (history : List Entry) (i j : Life) (p : Pair) (s : Sent) (start size : ℕ) (answer : Placed) (k : ℕ) (d : Datagram) → Played job history
    → Granting job history i j p s → Tile job history i j p s
    → WindowAt (own_of job i) (account job history i) p start size answer.place (life_deeds job history i)
    → Answered (own_of job i) (account job history i) answer k (life_deeds job history i)
    → PlacedAt job i.port.0 i.connid d k (log_of i.port.0 history) → IsUnhandled d history
    → start ≡ allowed_of (own_of job j) (life_deeds job history j) s
starts_at job history i j p s start size answer k d played g tile w a placed fresh =
    let own = own_of job i in
    let ms = account job history i in
    let log = life_deeds job history i in
    let tells = own_tells own.limits.first log in
    let low = start_within job history i j p s start size answer.place played g w in
    let first = first_part_opened job history i j p s played g in
    let past = window_from own ms log p start size answer.place tells w in
    elim (cases_lt start (allowed_of (own_of job j) (life_deeds job history j) s)) [
      | inr more ↦ omega arith
      | inl less ↦ absurd (
          let v = tile start (omega arith) less in
          let l = v.low in
          let h = v.high in
          let b = (window_in own ms log p start size answer.place tells w).has_byte in
          elim (windows_in_order own ms log p v.start v.size v.answer.place start size answer.place tells v.window' w) [
            | inl same ↦
                let push = answered_once own ms log v.answer answer v.push k v.answered a same.0 in
                let there = subst (λ n. PlacedAt job i.port.0 i.connid v.datagram n (log_of i.port.0 history)) push v.pushed in
                let one = placed_once job i.port.0 i.connid v.datagram d k (log_of i.port.0 history) there placed in
                taken_other j.port.0 v.datagram d history fresh v.handled one
            | inr apart ↦ elim apart [ inl before ↦ (let x = before.1 in omega arith) | inr after ↦ (let x = after.1 in omega arith) ]
          ])
    ]

-- where bytes were granted there is a grant
grants_some : (gs : List Grant) → 0 < grant_bytes gs → (g : Grant) × Member g gs
unfolding grant_bytes
grants_some [] h = absurd (omega arith)
grants_some (g ∷ gs) h = (g, inl refl)

-- what was allowed before a deed, and the grant that it takes
pub allowed_step : (own : Own) (d : Deed) (log : List Deed) (s : Sent) → allowed_of own (d ∷ log) s ≡ allowed_of own log s + grant_bytes (grants_by s.to s.number d)
unfolding grants grant_bytes
allowed_step own d log s =
    let e = sum_by-append (λ (g : Grant). g.size) (grants log s.to s.number) (grants_by s.to s.number d) in
    omega arith

-- the bytes of one grant
pub one_grant : (recv size : ℕ) → grant_bytes (record { recv = recv; size = size } ∷ []) ≡ size
unfolding grant_bytes
one_grant recv size = omega arith

-- no grant has no bytes
no_grant : grant_bytes [] ≡ 0
unfolding grant_bytes
no_grant = refl

-- a grant that was taken, by an equal life
cts_to : (to i : Life) (send recv : OpId) (size : ℕ) (connid : Connid) (log : List Deed) → to ≡ i → Member (Took to (Spelled (Cts send recv size connid))) log
    → Member (Took i (Spelled (Cts send recv size connid))) log
cts_to to i send recv size connid log e h = subst (λ (l : Life). Member (Took l (Spelled (Cts send recv size connid))) log) e h

-- what was allowed before stays in windows that were taken
old_tile : (job : Job) (e : Entry) (before : List Entry) (i j : Life) (p : Pair) (s : Sent) → Played job (e ∷ before) → Granting job (e ∷ before) i j p s
    → (Granting job before i j p s → Tile job before i j p s)
    → (y : ℕ) → piece_bytes (pieces_in (openings (own_of job j).limits s.message s.kind)) ≤ y → y < allowed_of (own_of job j) (life_deeds job before j) s
    → TakenWindow job (e ∷ before) i j p y
old_tile job e before i j p s played g tile y low high =
    let earlier = played_before job e before played in
    let log = life_deeds job before j in
    let some = grants_some (grants log s.to s.number) (omega arith) in
    let t = grant_taken log s.to s.number some.0 some.1 in
    let m = cts_to s.to i (op_id s.number) (op_id some.0.recv) some.0.size t.0 log g.to_is t.1 in
    let taken = taken_pushed job before j i (Spelled (Cts (op_id s.number) (op_id some.0.recv) some.0.size t.0)) earlier m in
    let w = cts_went job before i j (op_id s.number) (op_id some.0.recv) some.0.size t.0 taken.datagram earlier taken.taken in
    let r = granting_earlier job e before i j p s (op_id s.number) (op_id some.0.recv) some.0.size taken.taken.place g w refl in
    taken_window_longer job e before i j p y (tile r.1 y low high)

-- and what the newest grant allows lies in its window
new_tile : (job : Job) (e : Entry) (before : List Entry) (i j : Life) (p : Pair) (s : Sent) (send recv : OpId) (size : ℕ) (connid : Connid) → Played job (e ∷ before)
    → Granting job (e ∷ before) i j p s → (Granting job before i j p s → Tile job before i j p s) → send.0 ≡ s.number
    → NewTake job before e j i (Spelled (Cts send recv size connid))
    → (y : ℕ) → allowed_of (own_of job j) (life_deeds job before j) s ≤ y → y < allowed_of (own_of job j) (life_deeds job before j) s + size
    → TakenWindow job (e ∷ before) i j p y
new_tile job e before i j p s send recv size connid played g tile n t y low high =
    let earlier = played_before job e before played in
    let w = cts_went job before i j send recv size connid t.datagram earlier t.due' in
    let r = granting_earlier job e before i j p s send recv size t.due'.place g w n in
    let window : WindowAt (own_of job i) (account job before i) p w.start size w.answer.place (life_deeds job before i) =
    subst (λ (x : Pair). WindowAt (own_of job i) (account job before i) x w.start size w.answer.place (life_deeds job before i)) r.0 w.window' in
    let start = starts_at job before i j p s w.start size w.answer t.due'.place t.datagram earlier r.1 (tile r.1) window w.answered t.due'.placed t.fresh in
    record {
      start = w.start;
      size = size;
      answer = w.answer;
      window' = window_longer job e before i p w.start size w.answer.place window;
      low = omega arith;
      high = omega arith;
      push = t.due'.place;
      answered = answered_longer job e before i w.answer t.due'.place w.answered;
      datagram = t.datagram;
      pushed = placed_longer job e before i.port.0 i.connid t.datagram t.due'.place t.due'.placed;
      handled = t.handled;
    }

-- a deed of the sender keeps all that is allowed in windows that it took
tile_by : (job : Job) (e : Entry) (before : List Entry) (i j : Life) (p : Pair) (s : Sent) (d : Deed) → Played job (e ∷ before) → Granting job (e ∷ before) i j p s
    → (Granting job before i j p s → Tile job before i j p s) → ((item : Item) → d ≡ Took i item → NewTake job before e j i item)
    → (y : ℕ) → piece_bytes (pieces_in (openings (own_of job j).limits s.message s.kind)) ≤ y → y < allowed_of (own_of job j) (d ∷ life_deeds job before j) s
    → TakenWindow job (e ∷ before) i j p y
tile_by job e before i j p s d played g tile take y low high =
    let log = life_deeds job before j in
    let step = allowed_step (own_of job j) d log s in
    elim (grant_or_none s.to s.number d) [
      | inr none ↦
          let z = ap grant_bytes none ∙ no_grant in
          old_tile job e before i j p s played g tile y low (omega arith)
      | inl c ↦
          let z = ap grant_bytes c.6 ∙ one_grant c.1.0 c.2 in
          let item = Spelled (Cts c.0 c.1 c.2 c.3) in
          let is : d ≡ Took i item = c.4 ∙ ap (λ (l : Life). Took l item) g.to_is in
          elim (cases_lt y (allowed_of (own_of job j) log s)) [
            | inl older ↦ old_tile job e before i j p s played g tile y low older
            | inr newer ↦ new_tile job e before i j p s c.0 c.1 c.2 c.3 played g tile c.5 (take item is) y newer (omega arith)
          ]
    ]

-- before anything there are no pairs
no_pairs : (job : Job) (i : Life) (p : Pair) → Member p (pairs_of job [] i) → ⊥
unfolding life_deeds port_deeds deeds_at deeds log_of of_life matching
no_pairs job i p h = elim h [ ]

-- so it is of each pair of a long message
pub tiled : (job : Job) (history : List Entry) (i j : Life) (p : Pair) (s : Sent) → Played job history → Granting job history i j p s → Tile job history i j p s
tiled job [] i j p s played g y low = absurd (no_pairs job i p g.member)
tiled job (e ∷ before) i j p s played g y low =
    let earlier = played_before job e before played in
    let tile : Granting job before i j p s → Tile job before i j p s = λ b. tiled job before i j p s earlier b in
    at_life (λ log. y < allowed_of (own_of job j) log s → TakenWindow job (e ∷ before) i j p y) job j e before
    (λ at o. tile_by job e before i j p s (deed_of (rank_of job j.port.0).ops e.act) played g tile (λ item is. new_take job before e j i item played at o is) y low)
    (λ high. old_tile job e before i j p s played g tile y low high)
