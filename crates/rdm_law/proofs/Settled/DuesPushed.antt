-- Each due item of a life went in a datagram that its port pushed, and what was pushed of a send were due items.
use Rattle.std.proofs.Common.{◌≡◌, ℕ, List, [], ◌∷◌, length, Some, refl, inl, inr, ◌∙◌, ap, subst}
use Rattle.rdm_lists.specs.Lists.{Member}
use Rattle.rdm_pkt.specs.declared.Packet.{Packet}
use Rattle.rdm_model.specs.Deeds.{Deed}
use Rattle.rdm_model.specs.Beginnings.{Own, Messages}
use Rattle.rdm_model.specs.Sends.{Sent}
use Rattle.rdm_model.specs.Dues.{Due, Sends, progress}
use Rattle.rdm_model.specs.Local.{heard_by}
use Rattle.rdm_model.proofs.SameRegions.{Agree, agree_before}
use Rattle.rdm_model.proofs.SameDues.{due_same}
use Rattle.rdm_model.proofs.Grows.{agree_grows}
use Rattle.rdm_model.proofs.Pushes.{pushed_of, pushed_step}
use Rattle.rdm_model.proofs.Served.{PushedAt}
use Rattle.rdm_law.proofs.Lives.Lives.{WasDueAt}
use Rattle.rdm_lists.proofs.Members.{member-append_cases}

-- a push by one account is one by another that agrees with it
pushed_back : (own : Own) (ms ns : Messages) (t : Due) (k : ℕ) (log : List Deed) → Agree own.limits.first ms ns log → PushedAt own ns t k log → PushedAt own ms t k log
pushed_back own ms ns t k [] g h = elim h [ ]
pushed_back own ms ns t k (d ∷ before) g (inl a) = inl (a.0, due_same own ms ns before (agree_before own.limits.first ms ns d before g) ∙ a.1, a.2)
pushed_back own ms ns t k (d ∷ before) g (inr a) = inr (pushed_back own ms ns t k before (agree_before own.limits.first ms ns d before g) a)

-- a push by what a life heard in the end was a due item
pub pushed_was_due : (own : Own) (t : Due) (k : ℕ) (log : List Deed) → PushedAt own (heard_by own.limits.first log) t k log → WasDueAt own t k log
pushed_was_due own t k [] h = elim h [ ]
pushed_was_due own t k (d ∷ before) (inl a) =
    inl (a.0, due_same own (heard_by own.limits.first before) (heard_by own.limits.first (d ∷ before)) before (agree_grows own.limits.first d before) ∙ a.1, a.2)
pushed_was_due own t k (d ∷ before) (inr a) =
    inr (pushed_was_due own t k before (pushed_back own (heard_by own.limits.first before) (heard_by own.limits.first (d ∷ before)) t k before (agree_grows own.limits.first d before) a))

-- a packet that was pushed of a send was a due item
pub record PacketPush (own : Own) (ms : Messages) (log : List Deed) (n : ℕ) (p : Packet) : Type 0 where
  pub sent : Sent
  pub number_is : sent.number ≡ n
  pub place : ℕ
  pub pushed : PushedAt own ms (Sends sent p) place log

-- each packet that was pushed of a send had a push
pub packet_push : (own : Own) (ms : Messages) (log : List Deed) (n : ℕ) (p : Packet) → Member p (pushed_of own ms log n) → PacketPush own ms log n p
unfolding progress
packet_push own ms [] n p m = elim m [ ]
packet_push own ms (d ∷ before) n p m =
    let later : PacketPush own ms before n p → PacketPush own ms (d ∷ before) n p = λ r. record { sent = r.sent; number_is = r.number_is; place = r.place; pushed = inr r.pushed } in
    elim (pushed_step own ms d before n) [
      | inl a ↦ later (packet_push own ms before n p (subst (λ (xs : List Packet). Member p xs) a m))
      | inr a ↦ elim (member-append_cases p (pushed_of own ms before n) (a.0.of.packet ∷ []) (subst (λ (xs : List Packet). Member p xs) a.2 m)) [
        | inl b ↦ later (packet_push own ms before n p b)
        | inr b ↦ elim b [
          | inl same ↦ record {
            sent = a.0.of.sent;
            number_is = a.1;
            place = length before;
            pushed = inl (a.0.by, a.0.now ∙ ap Some (a.0.of.is ∙ ap (λ (x : Packet). Sends a.0.of.sent x) same), refl);
          }
          | inr never ↦ elim never [ ]
        ]
      ]
    ]
