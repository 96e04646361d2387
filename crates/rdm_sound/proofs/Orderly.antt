-- A record from which receives, posted receives and sends are left out stays orderly.
use Rattle.std.proofs.Common.{◌≡◌, ℕ, true, List, [], ◌∷◌, map, refl, arith, inl, inr, sym, ◌∙◌, ap, subst}
use Rattle.rdm_lists.specs.Lists.{Member}
use Rattle.rdm_lists.proofs.Members.{member-map, map-member}
use Rattle.rdm_match.specs.declared.PostedRecv.{PostedRecv}
use Rattle.rdm_model.specs.Matches.{Receive}
use Rattle.rdm_model.specs.Sends.{Sent}
use Rattle.rdm_life.specs.Kept.{Kept, LiveSend, LiveReceive}
use Rattle.rdm_life.specs.Memory.{is_place_of}
use Rattle.rdm_life.proofs.Completing.{map_twice}
use Rattle.rdm_sound.specs.Premises.{AreOnce, AreNumbered, AreApart, IsOrderly, receive_numbers, send_numbers, posted_numbers}
use Rattle.rdm_sound.proofs.Thinned.{IsThinned, thinned_self, thinned_again, thinned_member, thinned_once, thinned_map}

-- what receives and sends were accepted as
abbrev pub accepted_receives : List LiveReceive → List Receive
accepted_receives rs = map (λ (r : LiveReceive). r.receive) rs

abbrev pub accepted_sends : List LiveSend → List Sent
accepted_sends ss = map (λ (s : LiveSend). s.sent) ss

-- elements whose keys stand once are told apart by them
pub same_key : {A : Type 0} (key : A → ℕ) (xs : List A) → AreOnce (map key xs) → (x y : A) → Member x xs → Member y xs → key x ≡ key y → x ≡ y
same_key key [] once x y m k e = elim m [ ]
same_key key (z ∷ zs) once x y (inl m) (inl k) e = sym m ∙ k
same_key key (z ∷ zs) once x y (inl m) (inr k) e = absurd (once.0 (subst (λ (n : ℕ). Member n (map key zs)) (sym e ∙ sym (ap key m)) (map-member key y zs k)))
same_key key (z ∷ zs) once x y (inr m) (inl k) e = absurd (once.0 (subst (λ (n : ℕ). Member n (map key zs)) (e ∙ sym (ap key k)) (map-member key x zs m)))
same_key key (z ∷ zs) once x y (inr m) (inr k) e = same_key key zs once.1 x y m k e

-- so with receives
pub numbered : (rs : List LiveReceive) → AreOnce (receive_numbers rs) → AreNumbered rs
numbered rs once q r m k e = same_key (λ (x : LiveReceive). x.receive.number) rs once q r m k e

-- the second record is the first with some left out, however far they have come
pub record Thins (v w : Kept) : Type 0 where
  pub receives : IsThinned (accepted_receives w.receives) (accepted_receives v.receives)
  pub posted : IsThinned w.posted v.posted
  pub sends : IsThinned (accepted_sends w.sends) (accepted_sends v.sends)
  pub receive_count : w.receive_count ≡ v.receive_count
  pub send_count : w.send_count ≡ v.send_count

pub thins_none : (v : Kept) → Thins v v
thins_none v =
    record {
      receives = thinned_self (accepted_receives v.receives);
      posted = thinned_self v.posted;
      sends = thinned_self (accepted_sends v.sends);
      receive_count = refl;
      send_count = refl;
    }

pub thins_again : (u v w : Kept) → Thins u v → Thins v w → Thins u w
thins_again u v w h k =
    record {
      receives = thinned_again (accepted_receives w.receives) (accepted_receives v.receives) (accepted_receives u.receives) k.receives h.receives;
      posted = thinned_again w.posted v.posted u.posted k.posted h.posted;
      sends = thinned_again (accepted_sends w.sends) (accepted_sends v.sends) (accepted_sends u.sends) k.sends h.sends;
      receive_count = k.receive_count ∙ h.receive_count;
      send_count = k.send_count ∙ h.send_count;
    }

-- a receive that is left was live, as it was accepted
was_live : (v w : Kept) → Thins v w → (r : LiveReceive) → Member r w.receives → (q : LiveReceive) × Member q v.receives × (q.receive ≡ r.receive)
was_live v w h r m =
    member-map (λ (x : LiveReceive). x.receive) r.receive v.receives
    (thinned_member r.receive (accepted_receives w.receives) (accepted_receives v.receives) h.receives (map-member (λ (x : LiveReceive). x.receive) r w.receives m))

was_sent : (v w : Kept) → Thins v w → (s : LiveSend) → Member s w.sends → (q : LiveSend) × Member q v.sends × (q.sent ≡ s.sent)
was_sent v w h s m =
    member-map (λ (x : LiveSend). x.sent) s.sent v.sends
    (thinned_member s.sent (accepted_sends w.sends) (accepted_sends v.sends) h.sends (map-member (λ (x : LiveSend). x.sent) s w.sends m))

thins_once : (v w : Kept) → Thins v w → AreOnce (receive_numbers v.receives) → AreOnce (receive_numbers w.receives)
thins_once v w h once =
    let number : Receive → ℕ = λ r. r.number in
    let was : AreOnce (map number (accepted_receives v.receives)) = subst (λ (ns : List ℕ). AreOnce ns) (sym (map_twice number (λ (r : LiveReceive). r.receive) v.receives)) once in
    subst (λ (ns : List ℕ). AreOnce ns) (map_twice number (λ (r : LiveReceive). r.receive) w.receives)
    (thinned_once (map number (accepted_receives w.receives)) (map number (accepted_receives v.receives)) (thinned_map number (accepted_receives w.receives) (accepted_receives v.receives) h.receives) was)

thins_sends_once : (v w : Kept) → Thins v w → AreOnce (send_numbers v.sends) → AreOnce (send_numbers w.sends)
thins_sends_once v w h once =
    let number : Sent → ℕ = λ s. s.number in
    let was : AreOnce (map number (accepted_sends v.sends)) = subst (λ (ns : List ℕ). AreOnce ns) (sym (map_twice number (λ (s : LiveSend). s.sent) v.sends)) once in
    subst (λ (ns : List ℕ). AreOnce ns) (map_twice number (λ (s : LiveSend). s.sent) w.sends)
    (thinned_once (map number (accepted_sends w.sends)) (map number (accepted_sends v.sends)) (thinned_map number (accepted_sends w.sends) (accepted_sends v.sends) h.sends) was)

-- receives that are left have no place in common
thins_apart : (v w : Kept) → Thins v w → IsOrderly v → AreApart w.receives
thins_apart v w h o q r region place m k x y =
    let a = was_live v w h q m in
    let b = was_live v w h r k in
    let one = o.apart a.0 b.0 region place a.1 b.1
    (subst (λ (s : Receive). is_place_of s.req region place ≡ true) (sym a.2) x)
    (subst (λ (s : Receive). is_place_of s.req region place ≡ true) (sym b.2) y) in
    let same : q.receive.number ≡ r.receive.number = ap (λ (s : Receive). s.number) (sym a.2 ∙ ap (λ (z : LiveReceive). z.receive) one ∙ b.2) in
    numbered w.receives (thins_once v w h o.once) q r m k same

-- what is left is orderly
pub orderly_thinned : (v w : Kept) → Thins v w → IsOrderly v → IsOrderly w
orderly_thinned v w h o =
    record {
      once = thins_once v w h o.once;
      given = λ r m.
          let q = was_live v w h r m in
          let g = o.given q.0 q.1 in
          let e : q.0.receive.number ≡ r.receive.number = ap (λ (s : Receive). s.number) q.2 in
          let c = h.receive_count in
          omega arith;
      apart = thins_apart v w h o;
      posted_once = thinned_once (posted_numbers w.posted) (posted_numbers v.posted) (thinned_map (λ (r : PostedRecv). r.id.0) w.posted v.posted h.posted) o.posted_once;
      posted_given = λ r m.
          let g = o.posted_given r (thinned_member r w.posted v.posted h.posted m) in
          let c = h.receive_count in
          omega arith;
      sends_once = thins_sends_once v w h o.sends_once;
      sends_given = λ s m.
          let q = was_sent v w h s m in
          let g = o.sends_given q.0 q.1 in
          let e : q.0.sent.number ≡ s.sent.number = ap (λ (x : Sent). x.number) q.2 in
          let c = h.send_count in
          omega arith;
    }
