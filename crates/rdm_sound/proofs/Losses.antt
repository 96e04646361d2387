-- Receives and sends are lost one after another.
use Rattle.std.proofs.Common.{◌≡◌, ℕ, ◌-◌, Bool, true, false, cond, not, List, [], ◌∷◌, ◌++◌, Option, Some, None, map, refl, inl, inr, sym, ◌∙◌, ap, subst, append_assoc, append-nil}
use Rattle.std.specs.Prelude.{◌==◌, ◌&&◌, ◌||◌, filter, find, option_map}
use Rattle.std.specs.List.{list_any}
use Rattle.std.proofs.Math.Path.{fun_ext}
use Rattle.std.proofs.lemmas.Bool.{eqb-true, eq-eqb, false_from_ne_true}
use Rattle.rdm_lists.specs.Lists.{Member, or_else}
use Rattle.rdm_lists.proofs.Filters.{filter_all, filter_both}
use Rattle.rdm_lists.proofs.Members.{member-filter, filter-member, member-map, map-member, list_any_member, member_list_any}
use Rattle.rdm_lists.proofs.Same.{filter_same, filter_where}
use Rattle.rdm_num.specs.declared.completion.Completion.{Completion}
use Rattle.rdm_num.specs.declared.completion.Completion.TheVariants.{Send, Recv}
use Rattle.rdm_num.specs.declared.completion.Outcome.TheVariants.{Gone}
use Rattle.rdm_life.specs.Kept.{Kept, LiveSend, LiveReceive, is_send, is_receive}
use Rattle.rdm_life.specs.Memory.{is_place_of, byte_back, with_back}
use Rattle.rdm_life.specs.Forgetting.{zeroed}
use Rattle.rdm_sound.specs.Premises.{AreOnce, receive_numbers, send_numbers}
use Rattle.rdm_sound.specs.Forgets.{lose_receive, lose_receives, lose_send, lose_sends}
use Rattle.rdm_sound.proofs.Lists.{find_only}
use Rattle.rdm_sound.proofs.Orderly.{same_key}
use Rattle.rdm_sound.proofs.Thinned.{thinned_once, thinned_map, thinned_filter}

-- ---- elements of some numbers

-- the key is one of these numbers
abbrev pub has_one : {A : Type 0} → (A → ℕ) → List ℕ → A → Bool
has_one key ns x = list_any (λ n. key x == n) ns

-- an element of another number stays
other_stays : {A : Type 0} (key : A → ℕ) (ns : List ℕ) (x : A) → (b : Bool) → (not b && not (has_one key ns x)) ≡ not (b || has_one key ns x)
other_stays key ns x true = refl
other_stays key ns x false = refl

-- the elements of the first number are left out, and then those of the others
left_first : {A : Type 0} (key : A → ℕ) (n : ℕ) (ns : List ℕ) (xs : List A)
    → filter (λ x. not (has_one key ns x)) (filter (λ x. not (key x == n)) xs) ≡ filter (λ x. not (has_one key (n ∷ ns) x)) xs
left_first key n ns xs =
    sym (filter_both (λ x. not (key x == n)) (λ x. not (has_one key ns x)) xs)
    ∙ filter_same (λ x. not (key x == n) && not (has_one key ns x)) (λ x. not (has_one key (n ∷ ns) x)) xs (λ x. other_stays key ns x (key x == n))

-- those that pass have one of the numbers of those that pass
one_of_passing : {A : Type 0} (key : A → ℕ) (t : A → Bool) (xs : List A) → AreOnce (map key xs) → (x : A) → Member x xs → has_one key (map key (filter t xs)) x ≡ t x
one_of_passing {A} key t xs once x m =
    (elim (t x) as (λ b. t x ≡ b → has_one key (map key (filter t xs)) x ≡ b) [
      | true ↦ λ e. member_list_any (λ n. key x == n) (key x) (map key (filter t xs)) (map-member key x (filter t xs) (filter-member t x xs m e)) (eq-eqb (key x) (key x) refl)
      | false ↦ λ e. false_from_ne_true (has_one key (map key (filter t xs)) x) (λ any.
          let n = list_any_member (λ n. key x == n) (map key (filter t xs)) any in
          let q = member-map key n.0 (filter t xs) n.1 in
          let f = member-filter t q.0 xs q.1 in
          let same : q.0 ≡ x = same_key key xs once q.0 x f.0 m (q.2 ∙ sym (eqb-true (key x) n.0 n.2)) in
          let wrong : true ≡ false = sym f.1 ∙ ap t same ∙ e in
          cc)
    ]) refl

pub left_passing : {A : Type 0} (key : A → ℕ) (t : A → Bool) (xs : List A) → AreOnce (map key xs)
    → filter (λ x. not (has_one key (map key (filter t xs)) x)) xs ≡ filter (λ x. not (t x)) xs
left_passing key t xs once =
    filter_where (λ x. not (has_one key (map key (filter t xs)) x)) (λ x. not (t x)) xs (λ x m. ap not (one_of_passing key t xs once x m))

pub passing_once : {A : Type 0} (key : A → ℕ) (t : A → Bool) (xs : List A) → AreOnce (map key xs) → AreOnce (map key (filter t xs))
passing_once key t xs once = thinned_once (map key (filter t xs)) (map key xs) (thinned_map key (filter t xs) xs (thinned_filter t xs)) once

-- what has the number of an element is that one
pub found_one : {A : Type 0} (key : A → ℕ) (x : A) (xs : List A) → AreOnce (map key xs) → Member x xs → find (λ y. key y == key x) xs ≡ Some x
found_one key x xs once m =
    find_only (λ y. key y == key x) x xs m (eq-eqb (key x) (key x) refl) (λ y k e. same_key key xs once y x k m (eqb-true (key y) (key x) e))

-- the others are left when it is gone
others_left : {A : Type 0} (key : A → ℕ) (x : A) (ys xs : List A) → (Member (key x) (map key ys) → ⊥) → ((y : A) → Member y ys → Member y xs)
    → (y : A) → Member y ys → Member y (filter (λ z. not (key z == key x)) xs)
others_left key x ys xs other there y m =
    filter-member (λ z. not (key z == key x)) y xs (there y m)
    (ap not (false_from_ne_true (key y == key x) (λ e. other (subst (λ (n : ℕ). Member n (map key ys)) (eqb-true (key y) (key x) e) (map-member key y ys m)))))

-- ---- ranges that come home with zeros

zero_any : (lost : List LiveReceive) (region place : ℕ)
    → or_else (option_map (λ (r : LiveReceive). r.part (place - r.receive.req.at)) (find (λ (r : LiveReceive). is_place_of r.receive.req region place) (map zeroed lost))) (Some 0) ≡ Some 0
unfolding or_else
zero_any [] region place = refl
zero_any (r ∷ lost) region place =
    let t : LiveReceive → Bool = λ x. is_place_of x.receive.req region place in
    let byte : LiveReceive → ℕ = λ x. x.part (place - x.receive.req.at) in
    let rest = zero_any lost region place in
    elim (t r) as (λ b. or_else (option_map byte (cond b (Some (zeroed r)) (find t (map zeroed lost)))) (Some 0) ≡ Some 0) [ true ↦ refl | false ↦ rest ]

zero_first : (r : LiveReceive) (lost : List LiveReceive) (home : ℕ → ℕ → Option ℕ) (region place : ℕ)
    → with_back (map zeroed lost) (with_back (zeroed r ∷ []) home) region place ≡ with_back (map zeroed (r ∷ lost)) home region place
unfolding with_back byte_back or_else
zero_first r lost home region place =
    let t : LiveReceive → Bool = λ x. is_place_of x.receive.req region place in
    let byte : LiveReceive → ℕ = λ x. x.part (place - x.receive.req.at) in
    elim (t r) as (λ b. or_else (option_map byte (find t (map zeroed lost))) (or_else (option_map byte (cond b (Some (zeroed r)) None)) (home region place))
    ≡ or_else (option_map byte (cond b (Some (zeroed r)) (find t (map zeroed lost)))) (home region place)) [
      | true ↦ zero_any lost region place
      | false ↦ refl
    ]

-- ---- receives

-- the completion of a receive that is gone
abbrev pub gone_receive : LiveReceive → Completion
gone_receive r = Recv (record { 0 = r.receive.number }) Gone

-- these receives are gone
abbrev pub receives_gone : List LiveReceive → Kept → Kept
receives_gone lost v =
    record v {
      home = with_back (map zeroed lost) v.home;
      receives = filter (λ (r : LiveReceive). not (has_one (λ (x : LiveReceive). x.receive.number) (receive_numbers lost) r)) v.receives;
      completions = v.completions ++ map gone_receive lost;
    }

receives_put : (v : Kept) (home home' : ℕ → ℕ → Option ℕ) (rs rs' : List LiveReceive) (cs cs' : List Completion) → home ≡ home' → rs ≡ rs' → cs ≡ cs'
    → record v { home = home; receives = rs; completions = cs } ≡ record v { home = home'; receives = rs'; completions = cs' }
receives_put v home home' rs rs' cs cs' a b c =
    ap (λ x. record v { home = x; receives = rs; completions = cs }) a
    ∙ ap (λ x. record v { home = home'; receives = x; completions = cs }) b
    ∙ ap (λ x. record v { home = home'; receives = rs'; completions = x }) c

none_gone : (v : Kept) → v ≡ receives_gone [] v
unfolding with_back byte_back or_else
none_gone v =
    receives_put v _ _ _ _ _ _ refl (sym (filter_all (λ (r : LiveReceive). not (has_one (λ (x : LiveReceive). x.receive.number) [] r)) v.receives (λ x m. refl))) (sym (append-nil v.completions))

first_gone : (r : LiveReceive) (lost : List LiveReceive) (v : Kept) → receives_gone lost (lose_receive (Some r) v) ≡ receives_gone (r ∷ lost) v
unfolding lose_receive
first_gone r lost v =
    receives_put v _ _ _ _ _ _
    (fun_ext (λ region. fun_ext (λ place. zero_first r lost v.home region place)))
    (left_first (λ (x : LiveReceive). x.receive.number) r.receive.number (receive_numbers lost) v.receives)
    (append_assoc v.completions (gone_receive r ∷ []) (map gone_receive lost))

pub loses_receives : (lost : List LiveReceive) (v : Kept) → AreOnce (receive_numbers lost) → AreOnce (receive_numbers v.receives) → ((r : LiveReceive) → Member r lost → Member r v.receives)
    → lose_receives (receive_numbers lost) v ≡ receives_gone lost v
unfolding lose_receives lose_receive
loses_receives [] v apart once there = none_gone v
loses_receives (r ∷ lost) v apart once there =
    let key : LiveReceive → ℕ = λ x. x.receive.number in
    let w : Kept = lose_receive (Some r) v in
    ap (λ o. lose_receives (receive_numbers lost) (lose_receive o v)) (found_one key r v.receives once (there r (inl refl)))
    ∙ loses_receives lost w apart.1 (passing_once key (λ (q : LiveReceive). not (is_receive r.receive.number q)) v.receives once)
    (others_left key r lost v.receives apart.0 (λ y m. there y (inr m)))
    ∙ first_gone r lost v

-- ---- sends

-- the completion of a send that is gone
abbrev pub gone_send : LiveSend → Completion
gone_send s = Send (record { 0 = s.sent.number }) true

-- these sends are gone
abbrev pub sends_gone : List LiveSend → Kept → Kept
sends_gone lost v =
    record v {
      sends = filter (λ (s : LiveSend). not (has_one (λ (x : LiveSend). x.sent.number) (send_numbers lost) s)) v.sends;
      completions = v.completions ++ map gone_send lost;
    }

sends_put : (v : Kept) (ss ss' : List LiveSend) (cs cs' : List Completion) → ss ≡ ss' → cs ≡ cs' → record v { sends = ss; completions = cs } ≡ record v { sends = ss'; completions = cs' }
sends_put v ss ss' cs cs' a b = ap (λ x. record v { sends = x; completions = cs }) a ∙ ap (λ x. record v { sends = ss'; completions = x }) b

pub loses_sends : (lost : List LiveSend) (v : Kept) → AreOnce (send_numbers lost) → AreOnce (send_numbers v.sends) → ((s : LiveSend) → Member s lost → Member s v.sends)
    → lose_sends (send_numbers lost) v ≡ sends_gone lost v
unfolding lose_sends lose_send
loses_sends [] v apart once there =
    sends_put v _ _ _ _ (sym (filter_all (λ (s : LiveSend). not (has_one (λ (x : LiveSend). x.sent.number) [] s)) v.sends (λ x m. refl))) (sym (append-nil v.completions))
loses_sends (s ∷ lost) v apart once there =
    let key : LiveSend → ℕ = λ x. x.sent.number in
    let w : Kept = lose_send (Some s) v in
    ap (λ o. lose_sends (send_numbers lost) (lose_send o v)) (found_one key s v.sends once (there s (inl refl)))
    ∙ loses_sends lost w apart.1 (passing_once key (λ (q : LiveSend). not (is_send s.sent.number q)) v.sends once)
    (others_left key s lost v.sends apart.0 (λ y m. there y (inr m)))
    ∙ sends_put v _ _ _ _
    (left_first key s.sent.number (send_numbers lost) v.sends)
    (append_assoc v.completions (gone_send s ∷ []) (map gone_send lost))
