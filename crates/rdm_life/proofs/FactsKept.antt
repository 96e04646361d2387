-- Each instruction is answered by what is kept as the definitions answer it.
use Rattle.std.proofs.Common.{◌≡◌, ℕ, ◌+◌, ◌-◌, Bool, false, List, length, find, is_some, Option, Some, None, refl, ◌∙◌, ap}
use Rattle.std.specs.Prelude.{◌==◌, ◌&&◌}
use Rattle.std.specs.List.{list_any}
use Rattle.std.proofs.lemmas.List.{length-map}
use Rattle.rdm_lists.proofs.Filters.{list_any-map}
use Rattle.rdm_num.specs.Pieces.{overlaps}
use Rattle.rdm_num.specs.declared.numbers.Life.{Life}
use Rattle.rdm_num.specs.declared.parts.Span.{Span}
use Rattle.rdm_num.specs.declared.request.SendReq.{SendReq}
use Rattle.rdm_num.proofs.Lives.{same_life-refl}
use Rattle.rdm_match.specs.declared.PostedRecv.{PostedRecv}
use Rattle.rdm_match.specs.Matcher.{is_recv}
use Rattle.rdm_model.specs.declared.job.Instr.{Instr}
use Rattle.rdm_model.specs.declared.job.Instr.TheVariants.{OpenLife, Insert, Reg, Send, Recv, Cancel, Note, Await, Wait, CloseLife}
use Rattle.rdm_model.specs.Answers.{has_no_region, is_out_of_range, has_no_number, next_number, cq_is_full, known_of, cannot_confirm, waits_for_handshake, send_answer, names_nobody, recv_answer, insert_answer, answer_by, answer_of}
use Rattle.rdm_model.specs.Beginnings.{Own}
use Rattle.rdm_model.specs.Completions.{tx_count, rx_count, cq_count}
use Rattle.rdm_model.specs.Currents.{current, is_forgotten}
use Rattle.rdm_model.specs.Deeds.{Deed}
use Rattle.rdm_model.specs.Dues.{live_sends}
use Rattle.rdm_model.specs.Facts.{Facts, PortFacts, facts_of, port_facts, regions_of, meets_receive, meets_send, is_unmatched}
use Rattle.rdm_model.specs.Sources.{is_other}
use Rattle.rdm_law.proofs.Lives.Held.{current_port}
use Rattle.rdm_law.proofs.Lives.Lives.{life_scene, LifeLocal}
use Rattle.rdm_law.proofs.Lives.Replaced.{not_forgotten}
use Rattle.rdm_life.specs.Facts.{meets_receive_in, meets_send_in, facts_in}
use Rattle.rdm_life.specs.Keeps.{Keeps, KeepsLives, told, own_matching, own_live_receives, kept_receive, kept_send}
use Rattle.rdm_life.specs.Kept.{Kept, LiveSend, LiveReceive}

-- ---- current lives are not forgotten

-- a life is no other one
no_other : (o : Option Life) (life : Life) → o ≡ Some life → is_other o life ≡ false
unfolding is_other
no_other o life h = let r = same_life-refl life in rw (h, r) refl

-- a current life was not forgotten
pub current_kept : (own : Own) (log : List Deed) (port : ℕ) (life : Life) → LifeLocal own log → current log port ≡ Some life → is_forgotten log life ≡ false
current_kept own log port life local is =
    let at : current log life.port.0 ≡ Some life = ap (λ (n : ℕ). current log n) (current_port log port life is) ∙ is in
    not_forgotten own log life local (no_other (current log life.port.0) life at)

-- ---- facts that differ only in lives that are not current

-- with other words on the features of lives and the messages to them
abbrev pub with_words : (Life → Option ℕ) → (Life → ℕ) → Facts → Facts
with_words known messages f = record f { known = known; messages_to = messages }

-- whether a life has no number left is asked of the current one
number_same : (known : Life → Option ℕ) (messages : Life → ℕ) (f : Facts) (o : Option Life) → ((life : Life) → o ≡ Some life → messages life ≡ f.messages_to life)
    → has_no_number (with_words known messages f) o ≡ has_no_number f o
unfolding has_no_number
number_same known messages f None h = refl
number_same known messages f (Some to) h = let e = h to refl in rw e refl

-- so is the next number
next_same : (known : Life → Option ℕ) (messages : Life → ℕ) (f : Facts) (o : Option Life) → ((life : Life) → o ≡ Some life → messages life ≡ f.messages_to life)
    → next_number (with_words known messages f) o ≡ next_number f o
unfolding next_number
next_same known messages f None h = refl
next_same known messages f (Some to) h = let e = h to refl in rw e refl

-- and what is known
known_same : (known : Life → Option ℕ) (messages : Life → ℕ) (f : Facts) (o : Option Life) → ((life : Life) → o ≡ Some life → known life ≡ f.known life)
    → known_of (with_words known messages f) o ≡ known_of f o
unfolding known_of
known_same known messages f None h = refl
known_same known messages f (Some to) h = h to refl

-- the words agree on the current lives
abbrev pub AgreesNow : (Life → Option ℕ) → (Life → ℕ) → Facts → Type 0
AgreesNow known messages f = (port : ℕ) (life : Life) → f.current port ≡ Some life → (known life ≡ f.known life) × (messages life ≡ f.messages_to life)

-- a send has the same answer
send_same : (known : Life → Option ℕ) (messages : Life → ℕ) (f : Facts) (req : SendReq) → AgreesNow known messages f
    → send_answer (with_words known messages f) req ≡ send_answer f req
unfolding send_answer has_no_region is_out_of_range cq_is_full cannot_confirm waits_for_handshake
send_same known messages f req h =
    let o : Option Life = f.current req.to.0 in
    let a = number_same known messages f o (λ life is. (h req.to.0 life is).1) in
    let b = known_same known messages f o (λ life is. (h req.to.0 life is).0) in
    let c = next_same known messages f o (λ life is. (h req.to.0 life is).1) in
    rw (a, b, c) refl

-- each instruction has the same answer
words_same : (p : PortFacts) (known : Life → Option ℕ) (messages : Life → ℕ) (f : Facts) (instr : Instr) → AgreesNow known messages f
    → answer_by p (with_words known messages f) instr ≡ answer_by p f instr
unfolding answer_by insert_answer recv_answer has_no_region is_out_of_range names_nobody cq_is_full
words_same p known messages f (OpenLife connid) h = refl
words_same p known messages f (Insert life) h = refl
words_same p known messages f (Reg content) h = refl
words_same p known messages f (Send req) h = send_same known messages f req h
words_same p known messages f (Recv req) h = refl
words_same p known messages f (Cancel recv) h = refl
words_same p known messages f (Note to what) h = refl
words_same p known messages f (Await from what) h = refl
words_same p known messages f (Wait count) h = refl
words_same p known messages f CloseLife h = refl

-- ---- the facts in what is kept

-- a range meets the same live receives
receives_met : (ports : ℕ) (own : Own) (port_log log : List Deed) (v : Kept) → Keeps own log v → (region at len : ℕ)
    → meets_receive_in v region at len ≡ meets_receive (life_scene ports own port_log log) region at len
unfolding meets_receive_in meets_receive kept_receive
receives_met ports own port_log log v k region at len =
    let test : LiveReceive → Bool = λ r. r.receive.req.region.0 == region && overlaps at len r.receive.req.at r.receive.req.len in
    ap (λ (rs : List LiveReceive). list_any test rs) k.receives.receives_are ∙ list_any-map (kept_receive own log) test (own_live_receives own log)

-- and the same live sends
sends_met : (ports : ℕ) (own : Own) (port_log log : List Deed) (v : Kept) → Keeps own log v → (region at len : ℕ)
    → meets_send_in v region at len ≡ meets_send (life_scene ports own port_log log) region at len
unfolding meets_send_in meets_send kept_send
sends_met ports own port_log log v k region at len =
    let test : LiveSend → Bool = λ s. list_any (λ (p : Span). p.region.0 == region && overlaps at len p.at p.len) s.sent.req.parts in
    ap (λ (ss : List LiveSend). list_any test ss) k.sends.sends_are ∙ list_any-map (kept_send own log) test (live_sends own (told own log) log)

-- there are as many live sends
tx_kept : (own : Own) (log : List Deed) (v : Kept) → Keeps own log v → length v.sends ≡ tx_count own (told own log) log
unfolding tx_count
tx_kept own log v k = ap (λ (ss : List LiveSend). length ss) k.sends.sends_are ∙ length-map (live_sends own (told own log) log) (kept_send own log)

-- as many live receives
rx_kept : (own : Own) (log : List Deed) (v : Kept) → Keeps own log v → length v.receives ≡ rx_count own (told own log).head log
unfolding rx_count
rx_kept own log v k = ap (λ (rs : List LiveReceive). length rs) k.receives.receives_are ∙ length-map (own_live_receives own log) (kept_receive own log)

-- and as many operations whose completion was not polled
cq_kept : (own : Own) (log : List Deed) (v : Kept) → KeepsLives own log v → v.send_count + v.receive_count - v.poll_count ≡ cq_count own (told own log) log
unfolding cq_count
cq_kept own log v k = let a = k.send_count_is in let b = k.receive_count_is in let c = k.poll_count_is in rw (a, b, c) refl

-- the facts in what is kept are those of the scene, but for words on lives
facts_kept : (ports : ℕ) (own : Own) (port_log log : List Deed) (v : Kept) → Keeps own log v
    → facts_in v ≡ with_words (λ life. (v.peers life).known) (λ life. (v.peers life).messages) (facts_of (life_scene ports own port_log log))
unfolding regions_of is_unmatched
facts_kept ports own port_log log v k =
    let l = k.lives in
    let posted : (recv : ℕ) → is_some (find (is_recv recv) v.posted) ≡ is_some (find (is_recv recv) (own_matching own log).posted) =
    λ recv. ap (λ (rs : List PostedRecv). is_some (find (is_recv recv) rs)) k.matching.posted_is in
    λ i. record {
      own = l.own_is i;
      region_count = l.region_count_is i;
      region_size = λ region. l.region_size_is region i;
      meets_receive = λ region at len. receives_met ports own port_log log v k region at len i;
      meets_send = λ region at len. sends_met ports own port_log log v k region at len i;
      current = λ port. l.current_is port i;
      known = λ life. (v.peers life).known;
      is_superseded = λ life. l.superseded_is life i;
      sends = l.send_count_is i;
      receives = l.receive_count_is i;
      messages_to = λ life. (v.peers life).messages;
      polls = l.poll_count_is i;
      tx = tx_kept own log v k i;
      rx = rx_kept own log v k i;
      cq = cq_kept own log v l i;
      is_posted = λ recv. posted recv i;
    }

-- each instruction is answered by what is kept as by the deeds
pub answer_kept : (ports : ℕ) (own : Own) (port_log log : List Deed) (v : Kept) (instr : Instr) → LifeLocal own log → Keeps own log v
    → answer_by (port_facts (life_scene ports own port_log log)) (facts_in v) instr ≡ answer_of (life_scene ports own port_log log) instr
answer_kept ports own port_log log v instr local k =
    let s = life_scene ports own port_log log in
    let agrees : AgreesNow (λ life. (v.peers life).known) (λ life. (v.peers life).messages) (facts_of s) =
    λ port life is.
    let kept = current_kept own log port life local is in
    (k.lives.known_is life kept, k.lives.messages_are life kept) in
    ap (λ (f : Facts). answer_by (port_facts s) f instr) (facts_kept ports own port_log log v k)
    ∙ words_same (port_facts s) (λ life. (v.peers life).known) (λ life. (v.peers life).messages) (facts_of s) instr agrees
