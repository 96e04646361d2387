-- At a settled end a read message has come whole, and its send is over.
use Rattle.std.proofs.Common.{◌≡◌, ℕ, ◌+◌, ◌-◌, ◌<◌, ◌≤◌, min, true, false, List, length, take, drop, Some, refl, arith, inl, inr, sym, ◌∙◌, ap, subst}
use Rattle.std.specs.Prelude.{is_some}
use Rattle.std.proofs.lemmas.List.{length-take, length-drop}
use Rattle.rdm_lists.specs.Lists.{Member}
use Rattle.rdm_num.specs.Pieces.{Piece, byte_at}
use Rattle.rdm_num.specs.declared.numbers.Life.{Life}
use Rattle.rdm_num.specs.declared.numbers.OpId.{OpId}
use Rattle.rdm_num.specs.declared.limits.EpLimits.{EpLimits}
use Rattle.rdm_num.specs.declared.head.Head.{Head}
use Rattle.rdm_num.specs.declared.head.Shape.{Shape}
use Rattle.rdm_pkt.specs.declared.Packet.TheVariants.{Eor, Receipt}
use Rattle.rdm_pkt.specs.declared.Kind.{Kind}
use Rattle.rdm_pkt.specs.declared.Kind.TheVariants.{Eager, Medium, LongCts, LongRead, Runt}
use Rattle.rdm_pkt.specs.Openings.{Message, message_head, shape_by}
use Rattle.rdm_match.specs.Matcher.{Pair}
use Rattle.rdm_wire.specs.declared.ReadAsk.{ReadAsk}
use Rattle.rdm_wire.specs.declared.ReadData.{ReadData}
use Rattle.rdm_model.specs.declared.job.Job.{Job}
use Rattle.rdm_model.specs.declared.entry.Entry.{Entry}
use Rattle.rdm_model.specs.Deeds.{Deed, Took, Item, Spelled, Asks, Gives}
use Rattle.rdm_model.specs.Beginnings.{Messages, own_of}
use Rattle.rdm_model.specs.Heard.{is_heard}
use Rattle.rdm_model.specs.Parts.{carried_pieces}
use Rattle.rdm_model.specs.Replies.{Reply, reply, asks_for}
use Rattle.rdm_model.specs.Sends.{Sent}
use Rattle.rdm_model.specs.Targets.{read_from}
use Rattle.rdm_model.specs.Currents.{is_forgotten}
use Rattle.rdm_model.specs.Dues.{Replies, is_read}
use Rattle.rdm_model.specs.Going.{Goes, due_going}
use Rattle.rdm_model.specs.Lawful.{life_deeds}
use Rattle.rdm_model.proofs.SameRegions.{Agree}
use Rattle.rdm_model.proofs.Numbers.{sends_one}
use Rattle.rdm_law.proofs.Accounts.Wired.{own_life}
use Rattle.rdm_law.proofs.Accounts.Known.{account, sends_of}
use Rattle.rdm_law.proofs.Accounts.Named.{pairs_of, send_number, ask_of, head_shape}
use Rattle.rdm_law.proofs.Accounts.Chains.{pair_one}
use Rattle.rdm_law.proofs.Replies.Asks.{iov_bytes, asks_from_cover, asks_for_recv}
use Rattle.rdm_law.proofs.Classes.ClassKeys.{sent_size}
use Rattle.rdm_law.proofs.Classes.Landed.{piece_at}
use Rattle.rdm_law.proofs.Replies.Owed.{shape_in, recv_in}
use Rattle.rdm_law.proofs.Settled.OwedRest.{owed_rest}
use Rattle.rdm_law.proofs.Replies.Queue.{owed}
use Rattle.rdm_law.proofs.Settled.Still.{settled_still, at_rest, AtRest}
use Rattle.rdm_law.proofs.Settled.DuesPushed.{pushed_was_due}
use Rattle.rdm_law.proofs.Settled.Meets.{Meet, IsUnheard, delivered}
use Rattle.rdm_law.proofs.Settled.AllEnters.{stands}
use Rattle.rdm_law.proofs.Settled.CarriedBack.{came_for}
use Rattle.rdm_law.proofs.Settled.OwedBack.{asks_owed, given_reply, given_owed}

-- what each of two standing lives has at rest
pub rest_of : (job : Job) (history : List Entry) (i j : Life) → Meet job history i j → AtRest (own_of job j) (account job history j) (life_deeds job history j)
rest_of job history i j m = at_rest (own_of job j) (account job history j) (life_deeds job history j) (settled_still job history j m.played m.settled m.standing.open_j m.standing.clock_j)

-- a reply goes to its life
replies_going : (r : Reply) (to : Life) (item : Item) → r.to ≡ to → r.item ≡ item → due_going (Some (Replies r)) ≡ Some (Goes to item)
unfolding due_going
replies_going r to item e f = ap (λ (l : Life). Some (Goes l r.item)) e ∙ ap (λ (x : Item). Some (Goes to x)) f

-- an item that is no packet which opens a message
abbrev pub IsReplied : Item → Type 0
IsReplied (Asks a) = Unit {0}
IsReplied (Gives g) = Unit {0}
IsReplied (Spelled (Eor send recv connid)) = Unit {0}
IsReplied (Spelled (Receipt number connid)) = Unit {0}
IsReplied _ = ⊥

-- what is no opening is of no unheard message
replied_heard : (log : List Deed) (from : Life) (item : Item) → IsReplied item → IsUnheard log from item → ⊥
replied_heard log from (Asks a) r u = u
replied_heard log from (Gives g) r u = u
replied_heard log from (Spelled (Eor send recv connid)) r u = u
replied_heard log from (Spelled (Receipt number connid)) r u = u
replied_heard log from _ r u = r

-- a reply that one standing life owed the other was taken
pub owed_taken : (job : Job) (history : List Entry) (i j : Life) (r : Reply) (item : Item) → Meet job history i j → Member r (owed (own_of job j) (account job history j) (life_deeds job history j))
    → r.to ≡ i → r.item ≡ item → IsReplied item → Member (Took j item) (life_deeds job history i)
owed_taken job history i j r item m h to is rep =
    let own = own_of job j in
    let log = life_deeds job history j in
    let kept = subst (λ (l : Life). is_forgotten log l ≡ false) (sym to) (stands job history i j m) in
    let p = owed_rest own (account job history j) log r h kept (rest_of job history i j m).no_reply in
    elim (delivered job history i j item (Replies r) p.0 m (pushed_was_due own (Replies r) p.0 log p.1) (replies_going r i item to is)) [
      | inl a ↦ a
      | inr a ↦ absurd (replied_heard (life_deeds job history i) j item rep a.0)
    ]

-- an account agrees with itself
pub agree_refl : (first : ℕ) (ms : Messages) (log : List Deed) → Agree first ms ms log
agree_refl first ms log = record { heads = λ source n h is. refl; bytes = λ p is. refl }

-- an ask for each place that is to be read
read_ask : (limits : EpLimits) (m : Message) (kind : Kind) (recv : OpId) (place : ℕ) → is_read kind ≡ true → read_from kind ≤ place → place < iov_bytes m.iov
    → (a : ReadAsk) × Member a (asks_for (shape_by limits m kind) recv) × (a.at ≤ place) × (place < a.at + a.length)
unfolding is_read read_from shape_by asks_for
read_ask limits m LongRead recv place r low high = asks_from_cover m.send recv m.iov 0 0 place (omega arith) low (omega arith)
read_ask limits m (Runt runt) recv place r low high = asks_from_cover m.send recv m.iov 0 runt place (omega arith) low (omega arith)
read_ask limits m Eager recv place r low high = cc
read_ask limits m Medium recv place r low high = cc
read_ask limits m LongCts recv place r low high = cc

-- two standing lives, and a pair of the one with the message of a send of the other
pub record Matched (job : Job) (history : List Entry) (i j : Life) (p : Pair) (s : Sent) : Type 0 where
  pub here : Meet job history i j
  pub there : Meet job history j i
  pub member : Member p (pairs_of job history i)
  pub life_is : p.message.life ≡ j
  pub sent : Member s (sends_of job history j)
  pub to_is : s.to ≡ i
  pub number_is : s.message.no.0 ≡ p.message.no.0
  pub head_is : (account job history i).head p.message.life p.message.no.0 ≡ message_head job.limits s.message s.kind
  pub heard : is_heard (life_deeds job history i) j s.message.no.0 ≡ true

-- what is to be read of a matched message has come
pub asked_landed : (job : Job) (history : List Entry) (i j : Life) (p : Pair) (s : Sent) (place : ℕ) → Matched job history i j p s → is_read s.kind ≡ true → read_from s.kind ≤ place
    → place < length s.message.bytes
    → is_some (byte_at (carried_pieces (own_of job i).limits.first (account job history i).head (life_deeds job history i) j p.message.no.0) place) ≡ true
asked_landed job history i j p s place m read low high =
    let played = m.here.played in
    let size = sent_size job history j s played m.sent in
    let shape : shape_in (account job history i).head p ≡ shape_by job.limits s.message s.kind = ap (λ (h : Head). h.shape) m.head_is ∙ head_shape job.limits s.message s.kind in
    let ask = read_ask job.limits s.message s.kind (recv_in p) place read low (omega arith) in
    let a : ReadAsk = ask.0 in
    let of = ask_of job.limits s.message s.kind (recv_in p) a ask.1 in
    let mine : Member a (asks_for (shape_in (account job history i).head p) (recv_in p)) = subst (λ (h : Shape). Member a (asks_for h (recv_in p))) (sym shape) ask.1 in
    let owed' = asks_owed (own_of job i) (account job history i) (life_deeds job history i) p a m.member mine in
    let took = owed_taken job history j i (reply p.message.life (Asks a)) (Asks a) m.there owed' m.life_is refl tt in
    let log_j = life_deeds job history j in
    let g = given_owed (own_of job j) (account job history j) log_j i a (own_life job history played j) (agree_refl (own_of job j).limits.first (account job history j) log_j) took in
    let number : s.number ≡ a.send_id.0 = ap (λ (x : OpId). x.0) (sym (send_number job history j s m.sent) ∙ sym of.send_is) in
    let same : g.sent ≡ s = sends_one (own_of job j) (account job history j) log_j g.sent s g.member m.sent (g.number_is ∙ sym number) in
    let data' : ReadData = record { recv_id = a.recv_id; at = a.at; bytes = take a.length (drop a.at g.sent.message.bytes) } in
    let came = owed_taken job history i j (given_reply i a g.sent) (Gives data') m.here g.owed' refl refl tt in
    let x : Piece = record { offset = a.at; bytes = data'.bytes } in
    let c = came_for (own_of job i) (account job history i).head (life_deeds job history i) j (Gives data') a.recv_id.0 x (own_life job history played i) (λ source n hd is. refl) came (refl, refl) in
    let recv : a.recv_id.0 ≡ p.recv.id.0 = ap (λ (o : OpId). o.0) (asks_for_recv (shape_by job.limits s.message s.kind) (recv_in p) a ask.1) in
    let one : c.pair ≡ p = pair_one job history i c.pair p c.member m.member (c.recv_is ∙ recv) in
    let carried = subst (λ (q : Pair). Member x (carried_pieces (own_of job i).limits.first (account job history i).head (life_deeds job history i) j q.message.no.0)) one c.carried in
    let l : length data'.bytes ≡ min a.length (length s.message.bytes - a.at) = length-take a.length (drop a.at g.sent.message.bytes) ∙ ap (min a.length) (length-drop a.at g.sent.message.bytes ∙ ap (λ (t : Sent). length t.message.bytes - a.at) same) in
    let end' = of.to in
    let after = ask.3 in
    piece_at (carried_pieces (own_of job i).limits.first (account job history i).head (life_deeds job history i) j p.message.no.0) x place carried ask.2 (omega arith)
