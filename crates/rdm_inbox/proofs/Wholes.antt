-- Each step of a pass that has all senders keeps the rule of the inbox.
use Rattle.std.proofs.Common.{◌≡◌, ℕ, zero, suc, ◌<◌, List, [], ◌∷◌, ◌++◌, length, drop, sym, refl, ap, ◌∙◌, subst, arith, zero-add}
use mathlib.Core.Logic.{dite}
use mathlib.Core.Option.{some, none, some-injective, some-ne-none}
use native.Mathlib.Decide.{ℕ_discrete}
use lib.ListN.{get_elem?}
use Rattle.crossbeam_queue.specs.Fifo.{Pushes, Pops, Forks}
use Rattle.rdm_wire.specs.declared.Datagram.{Datagram}
use Rattle.rdm_inbox.specs.declared.post.ReaderPost.{ReaderPost}
use Rattle.rdm_inbox.specs.declared.post.Post.{Post}
use Rattle.rdm_inbox.specs.declared.post.Post.TheVariants.{Reader, Nobody}
use Rattle.rdm_inbox.specs.Senders.{from_port, AreFor, list_at, changed_at}
use Rattle.rdm_inbox.specs.Letters.{InboxAccount, Fits, Letters, new_reader, with_put, with_taken_out, left_of, unopened, opened, settled, MayHoldFor, DoesPut, DoesTakeOut}
use Rattle.rdm_inbox.proofs.Places.{with_at, with_at-here, with_at-else, from_own, from_other, from_beyond, from_port-append, none_for, AreFor-append, list_at-replicate, length-replicate, length-changed_at, changed_at-here, changed_at-else}
use Rattle.rdm_inbox.proofs.Flights.{length-joined, list_at-left_of, length-left_of, drop_front}
use Rattle.rdm_inbox.proofs.Accounts.{set_fits, add_fits, others_none, no_seats}
use Rattle.rdm_inbox.proofs.Steps.{in_order_sent}

-- a queue that was just made keeps the rule
pub begins : Letters [] (unopened ∷ [])
begins = record {
  account = record { reader = 0; port = 0; ports = 0; seat = λ _. none; sent = λ _. []; taken = [] };
  in_order = λ p. refl;
  addressed = tt;
  each = λ j u e. one j u e;
}
  where
    one : (j : ℕ) (u : Post) → get_elem? (unopened ∷ []) j ≡ some u → Fits (record { reader = 0; port = 0; ports = 0; seat = λ _. none; sent = λ _. []; taken = [] }) j u
    one zero u e =
        subst (λ (u' : Post). Fits (record { reader = 0; port = 0; ports = 0; seat = λ _. none; sent = λ _. []; taken = [] }) 0 u') (some-injective unopened u e)
        (refl, refl, refl, refl, (λ p le. (refl, refl)), (λ p lt. absurd (omega arith)), omega arith)
    one (suc j) u e = absurd (some-ne-none u (sym e))

-- the first pass comes to be that of an inbox
pub opens : (pass port ports size : ℕ) → Forks Letters pass unopened (opened port ports size) Nobody
opens pass port ports size items views h at =
    let a = h.account in let mine = h.each pass unopened at in let b : InboxAccount = record { reader = a.reader; port = port; ports = ports; seat = λ _. none; sent = λ _. []; taken = [] } in
    let nothing : items ≡ [] = none_for a.port items (subst (λ n. AreFor a.port n items) (sym mine.3) h.addressed) in let long = length-replicate {A = List Datagram} ports [] in record {
      account = b;
      in_order = λ p. ap (from_port p) nothing;
      addressed = subst (AreFor port ports) (sym nothing) tt;
      each = add_fits b views pass (opened port ports size) Nobody
          (mine.0, refl, refl, refl, (λ p le. (refl, refl)), (λ p lt. (refl, list_at-replicate ports p)), omega arith)
          (λ j u ne e. others_none a b pass mine.0 (no_seats a pass (new_reader 0 0 0) mine refl) j u ne (h.each j u e))
          tt;
    }

-- the datagrams in the inbox are those that the account says are left
pub left_over : (a : InboxAccount) (r : ReaderPost) (items : List Datagram) → a.taken ≡ [] → ((p : ℕ) → from_port p (a.taken ++ items) ≡ a.sent p) → (p : ℕ) → from_port p items ≡ a.sent p
left_over a r items none_taken in_order p = ap (λ l. from_port p (l ++ items)) (sym none_taken) ∙ in_order p

-- a pass that has all senders sends for one of them
pub puts : (n pass : ℕ) (r : ReaderPost) (d : Datagram) → d.src.0 < r.ports → d.dst.0 ≡ r.port → length r.known ≡ r.ports → r.taken ≡ [] → r.size ≡ n → Pushes Letters n pass (Reader r) d (DoesPut (Reader r) d)
puts n pass r d low dst whole none_taken size items views room h at =
    let a = h.account in let mine = h.each pass (Reader r) at in let i = d.src.0 in let now = a.sent i ++ d ∷ [] in let b : InboxAccount = record a { sent = with_at a.sent i now } in
    let own : list_at r.known i ≡ a.sent i = (mine.5 i (omega arith)).1 in let same = mine.3 in let add = λ (ds : List Datagram). ds ++ d ∷ [] in let long = length-changed_at add r.known i in
    let left = left_over a r items (sym mine.1 ∙ none_taken) h.in_order in let few = length-joined a.port a.ports items r.known h.addressed (whole ∙ same) (λ p lt. left p ∙ sym (mine.5 p (omega arith)).1) in (
      Reader (with_put r d),
      record {
        account = b;
        in_order = in_order_sent a items d h.in_order;
        addressed = AreFor-append a.port a.ports items (d ∷ []) h.addressed ((dst ∙ mine.2, omega arith), tt);
        each = set_fits b views pass (Reader (with_put r d)) (
          mine.0,
          mine.1,
          mine.2,
          mine.3,
          (λ p le. ((mine.4 p le).0, with_at-else a.sent i p now (λ e. omega arith) ∙ (mine.4 p le).1)),
          (λ p lt. (
            (mine.5 p (omega arith)).0,
            dite (ℕ_discrete i p)
                (λ e. subst (λ q. list_at (changed_at add r.known i) q ≡ with_at a.sent i now q) e
                (changed_at-here add r.known i [] (omega arith) ∙ (ap add own ∙ sym (with_at-here a.sent i i now refl))))
                (λ ne. changed_at-else add r.known i p [] (λ e. ne (sym e)) ∙ ((mine.5 p (omega arith)).1 ∙ sym (with_at-else a.sent i p now ne))),
          )),
          omega arith,
        )
            (λ j u ne e. others_none a b pass mine.0 (no_seats a pass r mine whole) j u ne (h.each j u e));
      },
      (refl, omega arith),
    )

-- a pass that has all senders takes, and forgets what it took
pub takes_out : (pass : ℕ) (r : ReaderPost) → length r.known ≡ r.ports → r.taken ≡ [] → Pops Letters pass (Reader r) (DoesTakeOut (Reader r))
takes_out pass r whole none_taken d items views h at =
    let a = h.account in let mine = h.each pass (Reader r) at in let i = d.src.0 in let rest = from_port i items in let b : InboxAccount = record a { sent = with_at a.sent i rest } in
    let same = mine.3 in let low = h.addressed.0.1 in let long = length-changed_at (drop {A = Datagram} 1) r.known i in
    let empty : a.taken ≡ [] = sym mine.1 ∙ none_taken in let left = left_over a r (d ∷ items) empty h.in_order in
    let first : list_at r.known i ≡ d ∷ rest = (mine.5 i (omega arith)).1 ∙ (sym (left i) ∙ from_own i d items refl) in (
      Reader (with_taken_out r d),
      record {
        account = b;
        in_order = λ p. ap (λ l. from_port p (l ++ items)) empty ∙ dite (ℕ_discrete i p)
            (λ e. subst (λ q. from_port q items ≡ with_at a.sent i rest q) e (sym (with_at-here a.sent i i rest refl)))
            (λ ne. sym (from_other p d items ne) ∙ (left p ∙ sym (with_at-else a.sent i p rest ne)));
        addressed = h.addressed.1;
        each = set_fits b views pass (Reader (with_taken_out r d)) (
          mine.0,
          mine.1,
          mine.2,
          mine.3,
          (λ p le. ((mine.4 p le).0, with_at-else a.sent i p rest (λ e. omega arith) ∙ (mine.4 p le).1)),
          (λ p lt. (
            (mine.5 p (omega arith)).0,
            dite (ℕ_discrete i p)
                (λ e. subst (λ q. list_at (changed_at (drop 1) r.known i) q ≡ with_at a.sent i rest q) e
                (changed_at-here (drop 1) r.known i [] (omega arith) ∙ (ap (drop 1) first ∙ sym (with_at-here a.sent i i rest refl))))
                (λ ne. changed_at-else (drop 1) r.known i p [] (λ e. ne (sym e)) ∙ ((mine.5 p (omega arith)).1 ∙ sym (with_at-else a.sent i p rest ne))),
          )),
          omega arith,
        )
            (λ j u ne e. others_none a b pass mine.0 (no_seats a pass r mine whole) j u ne (h.each j u e));
      },
      (refl, ((h.addressed.0.0 ∙ sym mine.2, subst (λ z. i < z) (sym same) low), first ∙ ap (λ l. d ∷ l) (sym (ap (drop 1) first)))),
    )

-- what is left of what a sender sent
left_at : (r : ReaderPost) (items : List Datagram) (p : ℕ) → p < length r.known → from_port p (r.taken ++ items) ≡ list_at r.known p → list_at (left_of r.taken r.known 0) p ≡ from_port p items
left_at r items p lt e =
    list_at-left_of r.taken r.known 0 p lt ∙ (ap (λ q. drop (length (from_port q r.taken)) (list_at r.known p)) (zero-add p) ∙ (ap (drop (length (from_port p r.taken))) (sym e) ∙ drop_front p r.taken items))

-- what was taken from a sender, and what is left of what it sent, are what it sent
pub taken_and_left : (r : ReaderPost) (items : List Datagram) → MayHoldFor r items → (p : ℕ) → p < length r.known → from_port p r.taken ++ list_at (left_of r.taken r.known 0) p ≡ list_at r.known p
taken_and_left r items may p lt = ap (λ l. from_port p r.taken ++ l) (left_at r items p lt (may.1 p lt)) ∙ (sym (from_port-append p r.taken items) ∙ may.1 p lt)

-- a pass that has all senders forgets what was taken
pub settles : (pass : ℕ) (r : ReaderPost) → length r.known ≡ r.ports → Forks Letters pass (Reader r) (settled (Reader r)) Nobody
settles pass r whole items views h at =
    let a = h.account in let mine = h.each pass (Reader r) at in let b : InboxAccount = record a { sent = λ p. from_port p items; taken = [] } in let long = length-left_of r.taken r.known 0 in let same = mine.3 in record {
      account = b;
      in_order = λ p. refl;
      addressed = h.addressed;
      each = add_fits b views pass (settled (Reader r)) Nobody (
        mine.0,
        refl,
        mine.2,
        mine.3,
        (λ p le. ((mine.4 p le).0, from_beyond a.port a.ports p items h.addressed le)),
        (λ p lt. ((mine.5 p (omega arith)).0, left_at r items p (omega arith) (ap (λ l. from_port p (l ++ items)) mine.1 ∙ (h.in_order p ∙ sym (mine.5 p (omega arith)).1)))),
        omega arith,
      )
          (λ j u ne e. others_none a b pass mine.0 (no_seats a pass r mine whole) j u ne (h.each j u e))
          tt;
    }
