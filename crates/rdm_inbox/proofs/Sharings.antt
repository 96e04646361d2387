-- What opened and closed inboxes come to be.
use Rattle.std.proofs.Common.{◌≡◌, ℕ, ◌<◌, ◌≤◌, List, [], ◌++◌, length, map, take, get_or, cond, sym, refl, ap, ◌∙◌, subst, arith, inl, inr, Some}
use Rattle.std.specs.Prelude.{slice_get}
use Rattle.std.proofs.lemmas.Bool.{cases_lt, lt-ltb, le-leb}
use Rattle.std.proofs.lemmas.List.{get_or_past}
use Rattle.rdm_wire.specs.declared.Datagram.{Datagram}
use Rattle.rdm_inbox.specs.Senders.{from_port, list_at}
use Rattle.rdm_inbox.specs.Letters.{but_taken}
use Rattle.rdm_inbox.specs.Passes.{InboxState, SendState}
use Rattle.rdm_inbox.specs.Queues.{QueuesState, PassesState, IsSendOf, ArePassesOf, AreAllPasses, IsGathered, AreGathered, with_reader, sent_to, taken_by, known_to, seen_by}
use Rattle.rdm_inbox.specs.Sharing.{AreNamed, AreWhole, AreLeft, AreOpened, AreClosed, pass_for, dealt, AreDealt, sent_by_all, collected, AreCollected, Remains, AreSettled}
use Rattle.rdm_inbox.proofs.Passing.{same_some, some_at, slice_get-low, slice_get-or, slice_get-map, slice_get-name}
use Rattle.rdm_inbox.proofs.Serving.{length-map-of}
use Rattle.rdm_inbox.proofs.Flights.{length-left_of}
use Rattle.rdm_inbox.proofs.Pointwise.{take-whole, length-take}

-- an element of a list of results
at_map : {A B : Type 0} (g : A → B) (xs : List A) (i : ℕ) (y : B) → slice_get (map g xs) i ≡ Some y → (x : A) × (slice_get xs i ≡ Some x) × (y ≡ g x)
at_map g xs i y e = let low = slice_get-low (map g xs) i y e in let n = length-map-of g xs in let x = some_at xs i (omega arith) in (x.0, x.1, same_some y (g x.0) (sym e ∙ slice_get-map g xs i x.0 x.1))

-- where a list has no element, there is no list
none_past : (xs : List (List Datagram)) (i : ℕ) → length xs ≤ i → list_at xs i ≡ []
none_past xs i le = get_or_past xs i [] le

module _ (queues : QueuesState) (all now : List PassesState) (g : AreGathered queues.tables all) (d : AreDealt all 0 now) where
  -- the passes of a port
  port_at : (port : ℕ) (v : PassesState) → slice_get now port ≡ Some v → (u : PassesState) × (slice_get all port ≡ Some u) × (v ≡ dealt all 0 port u)
  port_at port v e = let low = slice_get-low now port v e in let n = d.count in let u = some_at all port (omega arith) in (u.0, u.1, same_some v (dealt all 0 port u.0) (sym e ∙ d.each port u.0 u.1))

  senders_of : (port : ℕ) (v : PassesState) → slice_get now port ≡ Some v → v.senders ≡ map (pass_for port) all
  senders_of port v e = let u = port_at port v e in ap (λ (x : PassesState). x.senders) u.2 ∙ ap (λ b. cond b (map (pass_for port) all) u.0.senders) (le-leb 0 port (omega arith))

  send_of : (port to : ℕ) (s : SendState) → slice_get (map (pass_for port) all) to ≡ Some s → IsSendOf queues.tables port to s
  send_of port to s e =
      let t = at_map (pass_for port) all to s e in let is = g.each to t.0 t.1 in
      subst (IsSendOf queues.tables port to) (sym t.2)
      record { named = slice_get-name queues.tables to (record { table = t.0.reader.table; size = t.0.reader.post.size }) is.reader.named; from = refl; to_port = is.reader.own; ports = is.reader.ports }

  -- all that is in flight counts as sent
  sent_of : (port to : ℕ) (v : PassesState) → slice_get now port ≡ Some v → sent_to v to ≡ list_at (get_or (map known_to all) to []) port
  sent_of port to v e =
      ap (λ l. list_at (map (λ (s : SendState). s.post.sent) l) to) (senders_of port v e) ∙ elim (cases_lt to (length all)) [
        | inl lt ↦ let t = some_at all to lt in
            slice_get-or (map (λ (s : SendState). s.post.sent) (map (pass_for port) all)) to (list_at (known_to t.0) port) []
            (slice_get-map (λ (s : SendState). s.post.sent) (map (pass_for port) all) to (pass_for port t.0) (slice_get-map (pass_for port) all to t.0 t.1))
            ∙ ap (λ ks. list_at ks port) (sym (slice_get-or (map known_to all) to (known_to t.0) [] (slice_get-map known_to all to t.0 t.1)))
        | inr le ↦ none_past (map (λ (s : SendState). s.post.sent) (map (pass_for port) all)) to (let a = length-map-of (λ (s : SendState). s.post.sent) (map (pass_for port) all) in let b = length-map-of (pass_for port) all in omega arith)
            ∙ ap (λ ks. list_at ks port) (sym (get_or_past (map known_to all) to [] (let a = length-map-of known_to all in omega arith)))
      ]

  pub are_opened : AreOpened (seen_by queues all) queues now
  are_opened = record {
    same = refl;
    passes = record {
      each = λ port v e. let u = port_at port v e in let is = g.each port u.0 u.1 in let own : v.port ≡ port = ap (λ (x : PassesState). x.port) u.2 ∙ is.own in (
        subst (ArePassesOf queues.tables) (sym u.2) record {
          each = λ to s f. subst (λ q. IsSendOf queues.tables q to s) (sym is.own) (send_of port to s (subst (λ b. slice_get (cond b (map (pass_for port) all) u.0.senders) to ≡ Some s) (le-leb 0 port (omega arith)) f));
          all = ap (λ b. length (cond b (map (pass_for port) all) u.0.senders)) (le-leb 0 port (omega arith)) ∙ (length-map-of (pass_for port) all ∙ g.count);
          reader = record { named = ap (λ q. slice_get queues.tables q) is.own ∙ is.reader.named; own = is.reader.own ∙ sym is.own; ports = is.reader.ports };
          alone = refl;
        },
        own,
      );
      count = d.count ∙ g.count;
    };
    sent = λ port to v e. sent_of port to v e;
    taken = λ port v e. let u = port_at port v e in ap taken_by u.2 ∙ (g.each port u.0 u.1).whole.1;
  }

module _ (tables : List InboxState) (all collected_now : List PassesState) (g : AreAllPasses tables all) (c : AreCollected all (length all) collected_now) where
  -- the passes of a port after all senders were taken in
  taken_at : (port : ℕ) (b : PassesState) → slice_get collected_now port ≡ Some b → (v : PassesState) × (slice_get all port ≡ Some v) × (b ≡ collected all (length all) port v)
  taken_at port b e = let low = slice_get-low collected_now port b e in let n = c.count in let v = some_at all port (omega arith) in
      (v.0, v.1, same_some b (collected all (length all) port v.0) (sym e ∙ c.each port v.0 v.1))

  read_named : (port : ℕ) (v : PassesState) → slice_get all port ≡ Some v → slice_get tables port ≡ Some (record { table = v.reader.table; size = v.reader.post.size })
  read_named port v e = let o = g.each port v e in subst (λ q. slice_get tables q ≡ Some (record { table = v.reader.table; size = v.reader.post.size })) o.1 o.0.reader.named

  pub taken_named : AreNamed tables collected_now
  taken_named = record {
    each = λ port b e. let v = taken_at port b e in
        slice_get-name tables port (record { table = v.0.reader.table; size = v.0.reader.post.size }) (read_named port v.0 v.1) ∙ ap (λ (u : PassesState). Some u.reader.table) (sym v.2);
    count = c.count ∙ g.count;
  }

  known_whole : (port : ℕ) (v : PassesState) → slice_get all port ≡ Some v → length (take (length all) (sent_by_all all port)) ≡ v.reader.post.ports
  known_whole port v e = length-take (sent_by_all all port) (length all) (let n = length-map-of (λ (u : PassesState). sent_to u port) all in omega arith) ∙ (g.count ∙ sym (g.each port v e).0.reader.ports)

  pub taken_whole : AreWhole collected_now
  taken_whole port b e = let v = taken_at port b e in subst (λ (u : PassesState). length u.reader.post.known ≡ u.reader.post.ports) (sym v.2) (known_whole port v.0 v.1)

  module _ (now : List PassesState) (s : AreSettled collected_now (length collected_now) now) where
    settled_at : (port : ℕ) (w : PassesState) → slice_get now port ≡ Some w
        → (b : PassesState) × (slice_get collected_now port ≡ Some b) × (w ≡ with_reader but_taken b)
    settled_at port w e = let low = slice_get-low now port w e in let n = s.count in let lt : port < length collected_now = omega arith in let b = some_at collected_now port lt in
        (b.0, b.1, same_some w (with_reader but_taken b.0) (sym e ∙ (s.each port b.0 b.1 ∙ ap (λ t. Some (cond t (with_reader but_taken b.0) b.0)) (lt-ltb port (length collected_now) lt))))

    pub gathered_now : AreGathered tables now
    gathered_now = record {
      each = λ port w e. let b = settled_at port w e in let v = taken_at port b.0 b.1 in let o = g.each port v.0 v.1 in
          let is : w ≡ with_reader but_taken (collected all (length all) port v.0) = b.2 ∙ ap (with_reader but_taken) v.2 in
          subst (IsGathered tables port) (sym is) record {
            own = o.1;
            reader = record { named = read_named port v.0 v.1; own = o.0.reader.own ∙ o.1; ports = o.0.reader.ports };
            whole = (length-left_of (taken_by v.0) (take (length all) (sent_by_all all port)) 0 ∙ known_whole port v.0 v.1, refl);
          };
      count = s.count ∙ (c.count ∙ g.count);
    }

    pub left_now : AreLeft all now
    left_now port from v u w at_v at_u at_w =
        let b = settled_at port w at_w in let v' = taken_at port b.0 b.1 in
        let is : b.0 ≡ collected all (length all) port v = v'.2 ∙ ap (collected all (length all) port) (same_some v'.0 v (sym v'.1 ∙ at_v)) in
        let low = slice_get-low all from u at_u in let few = (g.each port v at_v).0.reader.ports in let n = g.count in
        let kept = s.left port b.0 b.1 (slice_get-low collected_now port b.0 b.1) in
        ap (λ (x : PassesState). from_port from (taken_by v) ++ list_at (known_to x) from) (b.2 ∙ ap (with_reader but_taken) is)
        ∙ (subst Remains is kept from (omega arith)
        ∙ (ap (λ l. list_at l from) (take-whole (sent_by_all all port) (length all) (let m = length-map-of (λ (x : PassesState). sent_to x port) all in omega arith))
        ∙ slice_get-or (sent_by_all all port) from (sent_to u port) [] (slice_get-map (λ (x : PassesState). sent_to x port) all from u at_u)))

-- inboxes that were closed
pub are_closed : (queues : QueuesState) (all now : List PassesState) → AreAllPasses queues.tables all → AreGathered queues.tables now → AreLeft all now → AreClosed queues all (seen_by queues now)
are_closed queues all now o g left = record {
  same = refl;
  count = length-map-of known_to now ∙ g.count;
  senders = λ port lt. let n = g.count in let w = some_at now port (omega arith) in let is = g.each port w.0 w.1 in
      ap (λ l. length l) (flights_are port w.0 w.1) ∙ (is.whole.0 ∙ is.reader.ports);
  left = λ port from v u at_v at_u. let low = slice_get-low all port v at_v in let n = o.count in let m = g.count in let w = some_at now port (omega arith) in
      ap (λ ks. from_port from (taken_by v) ++ list_at ks from) (flights_are port w.0 w.1) ∙ left port from v u w.0 at_v at_u w.1;
}
  where
    flights_are : (port : ℕ) (w : PassesState) → slice_get now port ≡ Some w → get_or (map known_to now) port [] ≡ known_to w
    flights_are port w e = slice_get-or (map known_to now) port (known_to w) [] (slice_get-map known_to now port w e)
