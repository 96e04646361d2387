-- What an endpoint answers to a send or a receive is what the definitions say.
use Rattle.std.proofs.Common.{◌≡◌, ℕ, ◌+◌, Bool, true, false, not, cond, List, [], ◌∷◌, length, map, Option, Some, None, refl, ap, ◌∙◌, sym, get_or}
use Rattle.std.specs.Prelude.{◌&&◌, ◌||◌, ◌==◌, nat_lt, nat_le, is_none}
use Rattle.std.specs.List.{list_any}
use Rattle.rdm_hdr.specs.Fields.{has_bit}
use Rattle.rdm_lists.specs.Lists.{first_case}
use Rattle.rdm_num.specs.Pieces.{overlaps}
use Rattle.rdm_num.specs.declared.numbers.PortNo.{PortNo}
use Rattle.rdm_num.specs.declared.numbers.Life.{Life}
use Rattle.rdm_num.specs.declared.parts.Span.{Span}
use Rattle.rdm_num.specs.declared.request.SendReq.{SendReq}
use Rattle.rdm_num.specs.declared.request.RecvReq.{RecvReq}
use Rattle.rdm_model.specs.declared.answer.Next.{Next}
use Rattle.rdm_model.specs.declared.answer.Next.TheVariants.{Did, Refused, NotYet, Again}
use Rattle.rdm_model.specs.declared.answer.DidWhat.TheVariants.{Sent, Posted}
use Rattle.rdm_model.specs.declared.answer.Why.TheVariants.{NoRegion, Range, NoEntry, Busy, Numbers, NoConfirm}
use Rattle.rdm_model.specs.declared.answer.Yet.TheVariants as Yet
use Rattle.rdm_model.specs.declared.answer.PoolName.TheVariants.{Tx, Rx, Cq}
use Rattle.rdm_model.specs.Deeds.{Deed}
use Rattle.rdm_model.specs.Beginnings.{Own}
use Rattle.rdm_model.specs.Currents.{current}
use Rattle.rdm_model.specs.Matches.{receives}
use Rattle.rdm_model.specs.Sends as Sends
use Rattle.rdm_model.specs.Dues.{live_sends}
use Rattle.rdm_model.specs.Completions.{tx_count, rx_count}
use Rattle.rdm_model.specs.Facts as F
use Rattle.rdm_model.specs.Answers as A
use Rattle.rdm_model.specs.Replies.{confirm_feature}
use Rattle.rdm_model.specs.Local.{heard_by}
use Rattle.rdm_ep.specs.declared.state.Posted.{Posted as PostedRecv}
use Rattle.rdm_ep.specs.declared.state.Outbound.{Outbound}
use Rattle.rdm_ep.specs.View.{EndpointView, current_in}
use Rattle.rdm_ep.specs.Sending as Ep
use Rattle.rdm_ep.specs.Receiving as Er
use Rattle.rdm_ep.specs.Answers.{why_of_send, why_of_recv, next_of_send, next_of_recv, life_scene}
use Rattle.rdm_ep.specs.Keeps.{posted_of, outbound_of, Keeps}
use Rattle.rdm_ep.proofs.Counts.{tx_agrees, rx_agrees, cq_agrees, regions_agree}
use Rattle.rdm_lists.proofs.Filters.{list_any-map}
use Rattle.rdm_lists.proofs.Same.{list_any_same}

-- the facts of a life that is open
abbrev life_facts : (ports : ℕ) → Own → (port_log log : List Deed) → F.Facts
life_facts ports own port_log log = F.facts_of (life_scene ports own port_log log)

-- the answer of a send by its tests and numbers
unfoldable send_cases : (a b c d e f g h i : Bool) → (send message : ℕ) → Next
send_cases a b c d e f g h i send message =
    first_case
    ((a, Refused NoRegion) ∷ (b, Refused Range) ∷ (c, Refused NoEntry) ∷ (d, Refused Busy) ∷ (e, Refused Numbers) ∷ (f, Refused NoConfirm) ∷ (g, NotYet Yet.Handshake)
    ∷ (h, Again Tx) ∷ (i, Again Cq) ∷ [])
    (Did (Sent (record { 0 = send }) (record { 0 = message })))

-- the answer of a receive by its tests and its number
unfoldable recv_cases : (a b c d e f : Bool) → (recv : ℕ) → Next
recv_cases a b c d e f recv =
    first_case
    ((a, Refused NoRegion) ∷ (b, Refused Range) ∷ (c, Refused NoEntry) ∷ (d, Refused Busy) ∷ (e, Again Rx) ∷ (f, Again Cq) ∷ [])
    (Did (Posted (record { 0 = recv })))

-- a map of what the first case gives
first_case-map : {A B : Type 0} (f : A → B) (cs : List (Bool × A)) (last : A) → f (first_case cs last) ≡ first_case (map (λ (c : Bool × A). (c.0, f c.1)) cs) (f last)
unfolding first_case
first_case-map f [] last = refl
first_case-map f (c ∷ cs) last =
    elim c.0 as (λ b. f (cond b c.1 (first_case cs last)) ≡ cond b (f c.1) (first_case (map (λ (x : Bool × _). (x.0, f x.1)) cs) (f last))) [
      | true ↦ refl
      | false ↦ first_case-map f cs last
    ]

-- a send answers by the tests of the endpoint
send_by_cases : (v : EndpointView) (req : SendReq) → next_of_send (Ep.send_answer v req)
    ≡ send_cases (Ep.names_no_region v req.parts) (Ep.passes_an_end v req.parts) (is_none (current_in v req.to.0))
    (Ep.meets_a_receive v req.parts) (Ep.has_no_number v (current_in v req.to.0)) (Ep.cannot_confirm v req (current_in v req.to.0))
    (Ep.waits_for_handshake v req (current_in v req.to.0)) (nat_le v.own.limits.tx (length v.outgoing)) (Ep.cq_is_full v)
    v.sends (Ep.number_to_current v (current_in v req.to.0))
unfolding Ep.send_answer next_of_send why_of_send send_cases
send_by_cases v req = first_case-map next_of_send _ _

-- a receive answers by the tests of the endpoint
recv_by_cases : (v : EndpointView) (req : RecvReq) → next_of_recv (Er.recv_answer v req)
    ≡ recv_cases (Ep.has_no_region v req.region.0) (Ep.is_out_of_range v req.region.0 req.at req.len) (Er.names_nobody v req.from)
    (Ep.meets_posted v req.region.0 req.at req.len || Ep.meets_outgoing v req.region.0 req.at req.len) (nat_le v.own.limits.rx (length v.posted)) (Ep.cq_is_full v) v.receives
unfolding Er.recv_answer next_of_recv why_of_recv recv_cases
recv_by_cases v req = first_case-map next_of_recv _ _

-- the tests, by the scene and by the endpoint
region_test : (ports : ℕ) (port_log log : List Deed) (v : EndpointView) (region : ℕ) → Keeps log v
    → A.has_no_region (life_facts ports v.own port_log log) region ≡ Ep.has_no_region v region
unfolding A.has_no_region F.regions_of Ep.has_no_region
region_test ports port_log log v region k = ap (λ (rs : List (List ℕ)). nat_le (length rs) region) (regions_agree log v k)

-- whether a range passes the end of its region
range_test : (ports : ℕ) (port_log log : List Deed) (v : EndpointView) (region at len : ℕ) → Keeps log v
    → A.is_out_of_range (life_facts ports v.own port_log log) region at len ≡ Ep.is_out_of_range v region at len
unfolding A.is_out_of_range F.regions_of Ep.is_out_of_range
range_test ports port_log log v region at len k = ap (λ (rs : List (List ℕ)). nat_lt (length (get_or rs region [])) (at + len)) (regions_agree log v k)

-- whether a range meets that of a live receive
receives_test : (ports : ℕ) (port_log log : List Deed) (v : EndpointView) (region at len : ℕ) → Keeps log v
    → F.meets_receive (life_scene ports v.own port_log log) region at len ≡ Ep.meets_posted v region at len
unfolding F.meets_receive Ep.meets_posted
receives_test ports port_log log v region at len k =
    sym (ap (list_any (λ (p : PostedRecv). p.req.region.0 == region && overlaps at len p.req.at p.req.len)) k.posted_are
    ∙ list_any-map posted_of (λ (p : PostedRecv). p.req.region.0 == region && overlaps at len p.req.at p.req.len) _)

-- whether a range meets that of a live send
sends_test : (ports : ℕ) (port_log log : List Deed) (v : EndpointView) (region at len : ℕ) → Keeps log v
    → F.meets_send (life_scene ports v.own port_log log) region at len ≡ Ep.meets_outgoing v region at len
unfolding F.meets_send Ep.meets_outgoing
sends_test ports port_log log v region at len k =
    let meets : Outbound → Bool = λ o. list_any (λ (p : Span). p.region.0 == region && overlaps at len p.at p.len) o.req.parts in
    sym (ap (list_any meets) k.outgoing_are ∙ list_any-map outbound_of meets (live_sends v.own (heard_by v.own.limits.first log) log))

-- whether a range of a send is of no region
no_regions_test : (ports : ℕ) (port_log log : List Deed) (v : EndpointView) (parts : List Span) → Keeps log v
    → list_any (λ (p : Span). A.has_no_region (life_facts ports v.own port_log log) p.region.0) parts ≡ Ep.names_no_region v parts
unfolding Ep.names_no_region
no_regions_test ports port_log log v parts k =
    list_any_same (λ (p : Span). A.has_no_region (life_facts ports v.own port_log log) p.region.0) (λ (p : Span). Ep.has_no_region v p.region.0) parts
    (λ p. region_test ports port_log log v p.region.0 k)

-- whether a range of a send passes the end of its region
ends_test : (ports : ℕ) (port_log log : List Deed) (v : EndpointView) (parts : List Span) → Keeps log v
    → list_any (λ (p : Span). A.is_out_of_range (life_facts ports v.own port_log log) p.region.0 p.at p.len) parts ≡ Ep.passes_an_end v parts
unfolding Ep.passes_an_end
ends_test ports port_log log v parts k =
    list_any_same (λ (p : Span). A.is_out_of_range (life_facts ports v.own port_log log) p.region.0 p.at p.len) (λ (p : Span). Ep.is_out_of_range v p.region.0 p.at p.len) parts
    (λ p. range_test ports port_log log v p.region.0 p.at p.len k)

-- whether a range of a send meets that of a live receive
busy_test : (ports : ℕ) (port_log log : List Deed) (v : EndpointView) (parts : List Span) → Keeps log v
    → list_any (λ (p : Span). F.meets_receive (life_scene ports v.own port_log log) p.region.0 p.at p.len) parts ≡ Ep.meets_a_receive v parts
unfolding Ep.meets_a_receive
busy_test ports port_log log v parts k =
    list_any_same (λ (p : Span). F.meets_receive (life_scene ports v.own port_log log) p.region.0 p.at p.len) (λ (p : Span). Ep.meets_posted v p.region.0 p.at p.len) parts
    (λ p. receives_test ports port_log log v p.region.0 p.at p.len k)

-- whether every number to a life is used
number_test : (ports : ℕ) (port_log log : List Deed) (v : EndpointView) (o : Option Life) → Keeps log v
    → A.has_no_number (life_facts ports v.own port_log log) o ≡ Ep.has_no_number v o
unfolding A.has_no_number Ep.has_no_number Ep.number_to
number_test ports port_log log v None k = refl
number_test ports port_log log v (Some to) k = ap (λ (n : ℕ). nat_le 4294967296 (v.own.limits.first + n)) (sym (k.sent_are to))

-- what is known of a life's features
known_test : (ports : ℕ) (port_log log : List Deed) (v : EndpointView) (o : Option Life) → Keeps log v → A.known_of (life_facts ports v.own port_log log) o ≡ Ep.known_in v o
unfolding A.known_of Ep.known_in
known_test ports port_log log v None k = refl
known_test ports port_log log v (Some to) k = sym (k.known_are to)

-- whether one of both lives cannot confirm
confirm_test : (ports : ℕ) (port_log log : List Deed) (v : EndpointView) (req : SendReq) → Keeps log v
    → A.cannot_confirm (life_facts ports v.own port_log log) req ≡ Ep.cannot_confirm v req (current_in v req.to.0)
unfolding A.cannot_confirm Ep.cannot_confirm
confirm_test ports port_log log v req k =
    ap (λ (o : Option ℕ). req.confirm && (not (has_bit confirm_feature v.own.features) || A.lacks_confirm o))
    (ap (A.known_of (life_facts ports v.own port_log log)) (sym (k.currents_are req.to.0)) ∙ known_test ports port_log log v (current_in v req.to.0) k)

-- whether a confirmed send waits for a handshake
handshake_test : (ports : ℕ) (port_log log : List Deed) (v : EndpointView) (req : SendReq) → Keeps log v
    → A.waits_for_handshake (life_facts ports v.own port_log log) req ≡ Ep.waits_for_handshake v req (current_in v req.to.0)
unfolding A.waits_for_handshake Ep.waits_for_handshake
handshake_test ports port_log log v req k =
    ap (λ (o : Option ℕ). req.confirm && is_none o) (ap (A.known_of (life_facts ports v.own port_log log)) (sym (k.currents_are req.to.0)) ∙ known_test ports port_log log v (current_in v req.to.0) k)

-- the number of the next message to a life
number_is : (ports : ℕ) (port_log log : List Deed) (v : EndpointView) (o : Option Life) → Keeps log v
    → A.next_number (life_facts ports v.own port_log log) o ≡ Ep.number_to_current v o
unfolding A.next_number Ep.number_to_current Ep.number_to
number_is ports port_log log v None k = refl
number_is ports port_log log v (Some to) k = ap (λ (n : ℕ). v.own.limits.first + n) (sym (k.sent_are to))

-- whether every place for a completion is taken
cq_test : (ports : ℕ) (port_log log : List Deed) (v : EndpointView) → Keeps log v → A.cq_is_full (life_facts ports v.own port_log log) ≡ Ep.cq_is_full v
unfolding A.cq_is_full Ep.cq_is_full
cq_test ports port_log log v k = ap (nat_le v.own.limits.cq) (cq_agrees log v k)

-- whether a receive names a port that has no current life
nobody_test : (ports : ℕ) (port_log log : List Deed) (v : EndpointView) (from : Option PortNo) → Keeps log v
    → A.names_nobody (life_facts ports v.own port_log log) from ≡ Er.names_nobody v from
unfolding A.names_nobody Er.names_nobody
nobody_test ports port_log log v None k = refl
nobody_test ports port_log log v (Some port) k = ap (λ (o : Option Life). is_none o) (sym (k.currents_are port.0))

-- a send answers by the tests of the scene
send_by_tests : (ports : ℕ) (port_log log : List Deed) (v : EndpointView) (req : SendReq)
    → A.send_answer (life_facts ports v.own port_log log) req
    ≡ send_cases (list_any (λ (p : Span). A.has_no_region (life_facts ports v.own port_log log) p.region.0) req.parts)
    (list_any (λ (p : Span). A.is_out_of_range (life_facts ports v.own port_log log) p.region.0 p.at p.len) req.parts)
    (is_none (current log req.to.0)) (list_any (λ (p : Span). F.meets_receive (life_scene ports v.own port_log log) p.region.0 p.at p.len) req.parts)
    (A.has_no_number (life_facts ports v.own port_log log) (current log req.to.0)) (A.cannot_confirm (life_facts ports v.own port_log log) req)
    (A.waits_for_handshake (life_facts ports v.own port_log log) req) (nat_le v.own.limits.tx (tx_count v.own (heard_by v.own.limits.first log) log))
    (A.cq_is_full (life_facts ports v.own port_log log)) (length (Sends.sends v.own (heard_by v.own.limits.first log) log))
    (A.next_number (life_facts ports v.own port_log log) (current log req.to.0))
unfolding A.send_answer send_cases
send_by_tests ports port_log log v req = refl

-- a send answers the same
pub send_agrees : (ports : ℕ) (port_log log : List Deed) (v : EndpointView) (req : SendReq) → Keeps log v
    → A.send_answer (life_facts ports v.own port_log log) req ≡ next_of_send (Ep.send_answer v req)
send_agrees ports port_log log v req k =
    let cur : current log req.to.0 ≡ current_in v req.to.0 = sym (k.currents_are req.to.0) in
    let a = no_regions_test ports port_log log v req.parts k in
    let b = ends_test ports port_log log v req.parts k in
    let d = busy_test ports port_log log v req.parts k in
    let e = number_test ports port_log log v (current_in v req.to.0) k in
    let h = confirm_test ports port_log log v req k in
    let i = handshake_test ports port_log log v req k in
    let f = tx_agrees log v k in
    let g = cq_test ports port_log log v k in
    let n = number_is ports port_log log v (current_in v req.to.0) k in
    let s : length (Sends.sends v.own (heard_by v.own.limits.first log) log) ≡ v.sends = sym k.sends_are in
    send_by_tests ports port_log log v req ∙ (rw (a, b, h, i, cur, d, e, n, g, f, s) refl) ∙ sym (send_by_cases v req)

-- a receive answers by the tests of the scene
recv_by_tests : (ports : ℕ) (port_log log : List Deed) (v : EndpointView) (req : RecvReq)
    → A.recv_answer (life_facts ports v.own port_log log) req
    ≡ recv_cases (A.has_no_region (life_facts ports v.own port_log log) req.region.0) (A.is_out_of_range (life_facts ports v.own port_log log) req.region.0 req.at req.len)
    (A.names_nobody (life_facts ports v.own port_log log) req.from)
    (F.meets_receive (life_scene ports v.own port_log log) req.region.0 req.at req.len || F.meets_send (life_scene ports v.own port_log log) req.region.0 req.at req.len)
    (nat_le v.own.limits.rx (rx_count v.own (heard_by v.own.limits.first log).head log)) (A.cq_is_full (life_facts ports v.own port_log log)) (length (receives log))
unfolding A.recv_answer recv_cases
recv_by_tests ports port_log log v req = refl

-- a receive answers the same
pub recv_agrees : (ports : ℕ) (port_log log : List Deed) (v : EndpointView) (req : RecvReq) → Keeps log v
    → A.recv_answer (life_facts ports v.own port_log log) req ≡ next_of_recv (Er.recv_answer v req)
recv_agrees ports port_log log v req k =
    let a = region_test ports port_log log v req.region.0 k in
    let b = range_test ports port_log log v req.region.0 req.at req.len k in
    let c = nobody_test ports port_log log v req.from k in
    let d = receives_test ports port_log log v req.region.0 req.at req.len k in
    let e = sends_test ports port_log log v req.region.0 req.at req.len k in
    let f = rx_agrees log v k in
    let g = cq_test ports port_log log v k in
    let n : length (receives log) ≡ v.receives = sym k.receives_are in
    recv_by_tests ports port_log log v req ∙ (rw (a, b, c, d, e, g, f, n) refl) ∙ sym (recv_by_cases v req)
