-- Answers that are owed, and the sends that they give bytes of.
use Rattle.std.proofs.Common.{◌≡◌, ℕ, suc, ◌+◌, ◌-◌, ◌<◌, Bool, true, false, not, cond, List, [], ◌∷◌, ◌++◌, length, filter, find, Option, Some, None, refl, sym, ap, ◌∙◌, subst, ◌⊎◌, inl, inr, arith}
use Rattle.std.specs.Prelude.{◌==◌, option_map}
use Rattle.std.proofs.lemmas.List.{length-append}
use Rattle.std.proofs.lemmas.List.Elements.{filter-append}
use Rattle.rdm_lists.specs.Lists.{Member}
use Rattle.rdm_lists.proofs.Filters.{filter_nothing}
use Rattle.rdm_lists.proofs.Members.{find_member, filter-member, member-append_cases, member-map, member-filter}
use Rattle.rdm_shown.proofs.Finding.{find_named, find_before}
use Rattle.rdm_model.specs.Dues.{is_read}
use Rattle.rdm_model.specs.Sends.{Sent}
use Rattle.rdm_model.specs.ClassFacts.{is_number}
use Rattle.rdm_model.specs.Replies.{Reply}
use Rattle.rdm_life.specs.Kept.{LiveSend, is_send, change_where}
use Rattle.rdm_num.specs.declared.numbers.Life.{Life}
use Rattle.rdm_life.specs.Sending.{gives_of, with_answer}
use Rattle.rdm_sound.specs.Premises.{AreOnce, send_numbers}
use Rattle.rdm_sound.proofs.Lists.{find_only}
use Rattle.rdm_sound.proofs.Orderly.{same_key}
use Rattle.rdm_state.specs.Giving.{Source, AreGiven, OwesNone}

-- a reply that gives bytes of a send counts
pub owes_none : OwesNone
unfolding is_number
owes_none v s g found none r m gives =
    let there = filter-member (λ (q : Reply). is_number s.sent.number q.gives) r v.owed m (subst (λ o. is_number s.sent.number o ≡ true) (sym gives) (same_number s.sent.number)) in
    let many = some_there (filter (λ (q : Reply). is_number s.sent.number q.gives) v.owed) r there in
    let count = g.owes s (find_member (is_send s.sent.number) s v.sends found).0 in
    absurd (less (length (filter (λ (q : Reply). is_number s.sent.number q.gives) v.owed)) many (sym count ∙ none))
  where
    same_number : (a : ℕ) → (a == a) ≡ true
    same_number a = grind arith

    some_there : (xs : List Reply) (x : Reply) → Member x xs → 0 < length xs
    some_there [] x k = absurd k
    some_there (y ∷ xs) x k = omega arith

    less : (n : ℕ) → 0 < n → n ≡ 0 → ⊥
    less n some is = omega arith

-- ---- lists

-- what gives nothing counts for no send
none_counts : (n : ℕ) (xs : List Reply) → ((r : Reply) → Member r xs → r.gives ≡ None) → length (filter (λ (r : Reply). is_number n r.gives) xs) ≡ 0
unfolding is_number
none_counts n [] none = refl
none_counts n (r ∷ xs) none =
    let rest = none_counts n xs (λ q m. none q (inr m)) in
    ap (λ o. length (cond (is_number n o) (r ∷ filter (λ (q : Reply). is_number n q.gives) xs) (filter (λ (q : Reply). is_number n q.gives) xs))) (none r (inl refl)) ∙ rest

no_some : (n : ℕ) → None ≡ Some n → ⊥
no_some n e = cc

-- more is owed that gives nothing
pub given_more : (owed xs : List Reply) (sends : List LiveSend) → AreGiven owed sends → ((r : Reply) → Member r xs → r.gives ≡ None) → AreGiven (owed ++ xs) sends
given_more owed xs sends g none =
    record {
      source = λ r n m gives. by r n gives (member-append_cases r owed xs m);
      owes = λ s m.
          let a = g.owes s m in
          let b = none_counts s.sent.number xs none in
          let c = ap length (filter-append (λ (r : Reply). is_number s.sent.number r.gives) owed xs) in
          let d = length-append (filter (λ (r : Reply). is_number s.sent.number r.gives) owed) (filter (λ (r : Reply). is_number s.sent.number r.gives) xs) in
          omega (arith, a, b, c, d);
      read = g.read;
    }
  where
    by : (r : Reply) (n : ℕ) → r.gives ≡ Some n → Member r owed ⊎ Member r xs → Source sends r n
    by r n gives (inl m) = g.source r n m gives
    by r n gives (inr m) = absurd (no_some n (sym (none r m) ∙ gives))

-- a send of one that was changed
record Found (t : LiveSend → Bool) (f : LiveSend → LiveSend) (sends : List LiveSend) (n : ℕ) (s : LiveSend) : Type 0 where
  now : LiveSend
  live : find (is_send n) (change_where t f sends) ≡ Some now
  same : now.sent ≡ s.sent

found_by : (t : LiveSend → Bool) (f : LiveSend → LiveSend) (sends : List LiveSend) (n : ℕ) (s : LiveSend) (o : Option LiveSend) → find (is_send n) (change_where t f sends) ≡ o
    → option_map (λ (x : LiveSend). x.sent) o ≡ Some s.sent → Found t f sends n s
found_by t f sends n s None is same = absurd (none same)
  where
    none : None ≡ Some s.sent → ⊥
    none e = cc
found_by t f sends n s (Some x) is same = record { now = x; live = is; same = one same }
  where
    one : Some x.sent ≡ Some s.sent → x.sent ≡ s.sent
    one e = cc

found_changed : (t : LiveSend → Bool) (f : LiveSend → LiveSend) (sends : List LiveSend) (n : ℕ) (s : LiveSend) → ((x : LiveSend) → (f x).sent ≡ x.sent) → find (is_send n) sends ≡ Some s → Found t f sends n s
found_changed t f sends n s same is =
    found_by t f sends n s _ refl (find_named (λ (x : LiveSend). x.sent) (is_send n) t f sends same (λ x. rw (same x) refl) ∙ ap (option_map (λ (x : LiveSend). x.sent)) is)

source_changed : (t : LiveSend → Bool) (f : LiveSend → LiveSend) (sends : List LiveSend) (r : Reply) (n : ℕ) → ((x : LiveSend) → (f x).sent ≡ x.sent) → Source sends r n → Source (change_where t f sends) r n
source_changed t f sends r n same q =
    let x = found_changed t f sends n q.send same q.live in
    record { send = x.now; live = x.live; to = ap (λ (z : Sent). z.to) x.same ∙ q.to }

-- each of changed sends is one of them, or is changed
member_changed : (P : LiveSend → Type 0) (t : LiveSend → Bool) (f : LiveSend → LiveSend) (sends : List LiveSend) → ((x : LiveSend) → Member x sends → t x ≡ true → P (f x)) → ((x : LiveSend) → Member x sends → t x ≡ false → P x)
    → (s : LiveSend) → Member s (change_where t f sends) → P s
unfolding change_where
member_changed P t f sends hit miss s m =
    let from = member-map (λ (x : LiveSend). cond (t x) (f x) x) s sends m in
    subst P from.2 (elim (t from.0) as (λ b. t from.0 ≡ b → P (cond b (f from.0) from.0)) [ true ↦ λ is. hit from.0 from.1 is | false ↦ λ is. miss from.0 from.1 is ] refl)

-- sends are changed that owe as much
pub given_changed : (owed : List Reply) (sends : List LiveSend) (t : LiveSend → Bool) (f : LiveSend → LiveSend) → AreGiven owed sends → ((x : LiveSend) → (f x).sent ≡ x.sent) → ((x : LiveSend) → (f x).owes ≡ x.owes) → AreGiven owed (change_where t f sends)
given_changed owed sends t f g same as_much =
    record {
      source = λ r n m gives. source_changed t f sends r n same (g.source r n m gives);
      owes = member_changed (λ s. s.owes ≡ length (filter (λ (r : Reply). is_number s.sent.number r.gives) owed)) t f sends
          (λ x m is. as_much x ∙ g.owes x m ∙ ap (λ (q : Sent). length (filter (λ (r : Reply). is_number q.number r.gives) owed)) (sym (same x))) (λ x m is. g.owes x m);
      read = member_changed (λ s. is_read s.sent.kind ≡ false → s.owes ≡ 0) t f sends (λ x m is no'. as_much x ∙ g.read x m (ap (λ (q : Sent). is_read q.kind) (sym (same x)) ∙ no')) (λ x m is. g.read x m);
    }

-- a send is there that owes nothing, under a number that was not given
pub given_new : (owed : List Reply) (sends : List LiveSend) (s : LiveSend) → AreGiven owed sends → s.owes ≡ 0 → ((x : LiveSend) → Member x sends → x.sent.number < s.sent.number) → AreGiven owed (sends ++ s ∷ [])
unfolding is_number
given_new owed sends s g nothing below =
    record {
      source = λ r n m gives. (let q = g.source r n m gives in record { send = q.send; live = find_before (is_send n) sends s q.send q.live; to = q.to });
      owes = λ x m. elim (member-append_cases x sends (s ∷ []) m) [ inl k ↦ g.owes x k | inr k ↦ own_owes x k ];
      read = λ x m no'. elim (member-append_cases x sends (s ∷ []) m) [ inl k ↦ g.read x k no' | inr k ↦ last_owes x k ];
    }
  where
    number_is : (a b : ℕ) → (a == b) ≡ true → a ≡ b
    number_is a b h = grind (arith, h)

    no_number : (r : Reply) → Member r owed → (o : Option ℕ) → r.gives ≡ o → is_number s.sent.number o ≡ false
    no_number r m None is = refl
    no_number r m (Some k) is =
        elim (k == s.sent.number) as (λ b. (k == s.sent.number) ≡ b → b ≡ false) [
          | true ↦ λ e.
              let q = g.source r k m is in
              let f = find_member (is_send k) q.send sends q.live in
              let lt = below q.send f.0 in
              absurd (differ q.send.sent.number lt (number_is q.send.sent.number k f.1 ∙ number_is k s.sent.number e))
          | false ↦ λ e. refl
        ] refl
      where
        differ : (a : ℕ) → a < s.sent.number → a ≡ s.sent.number → ⊥
        differ a lt e = omega arith

    zero_of : (xs : List Reply) → ((r : Reply) → Member r xs → is_number s.sent.number r.gives ≡ false) → length (filter (λ (r : Reply). is_number s.sent.number r.gives) xs) ≡ 0
    zero_of xs none = ap length (filter_nothing (λ (r : Reply). is_number s.sent.number r.gives) xs none)

    own_owes : (x : LiveSend) → Member x (s ∷ []) → x.owes ≡ length (filter (λ (r : Reply). is_number x.sent.number r.gives) owed)
    own_owes x (inl is) = subst (λ (y : LiveSend). y.owes ≡ length (filter (λ (r : Reply). is_number y.sent.number r.gives) owed)) is (nothing ∙ sym (zero_of owed (λ r m. no_number r m r.gives refl)))
    own_owes x (inr none) = elim none [ ]

    last_owes : (x : LiveSend) → Member x (s ∷ []) → x.owes ≡ 0
    last_owes x (inl is) = subst (λ (y : LiveSend). y.owes ≡ 0) is nothing
    last_owes x (inr none) = elim none [ ]

-- sends go that owe nothing
pub given_left : (owed : List Reply) (sends : List LiveSend) (keep : LiveSend → Bool) → AreOnce (send_numbers sends) → AreGiven owed sends → ((x : LiveSend) → Member x sends → keep x ≡ false → x.owes ≡ 0) → AreGiven owed (filter keep sends)
unfolding is_number
given_left owed sends keep once g nothing =
    record {
      source = λ r n m gives.
          let q = g.source r n m gives in
          let f = find_member (is_send n) q.send sends q.live in
          let kept : keep q.send ≡ true = kept_is (keep q.send) (λ gone. some_owed r n m gives q.send f.0 (number_is q.send.sent.number n f.1) (nothing q.send f.0 gone)) in
          record {
            send = q.send;
            live = find_only (is_send n) q.send (filter keep sends) (filter-member keep q.send sends f.0 kept) f.1
                (λ y k e. same_key (λ (x : LiveSend). x.sent.number) sends once y q.send (member-filter keep y sends k).0 f.0 (number_is y.sent.number n e ∙ sym (number_is q.send.sent.number n f.1)));
            to = q.to;
          };
      owes = λ s m. g.owes s (member-filter keep s sends m).0;
      read = λ s m. g.read s (member-filter keep s sends m).0;
    }
  where
    number_is : (a b : ℕ) → (a == b) ≡ true → a ≡ b
    number_is a b h = grind (arith, h)

    same_number : (a : ℕ) → (a == a) ≡ true
    same_number a = grind arith

    kept_is : (b : Bool) → (b ≡ false → ⊥) → b ≡ true
    kept_is true h = refl
    kept_is false h = absurd (h refl)

    some_there : (xs : List Reply) (x : Reply) → Member x xs → 0 < length xs
    some_there [] x k = absurd k
    some_there (y ∷ xs) x k = omega arith

    less : (n : ℕ) → 0 < n → n ≡ 0 → ⊥
    less n some is = omega arith

    some_owed : (r : Reply) (n : ℕ) → Member r owed → r.gives ≡ Some n → (s : LiveSend) → Member s sends → s.sent.number ≡ n → s.owes ≡ 0 → ⊥
    some_owed r n m gives s k is none =
        let there = filter-member (λ (q : Reply). is_number s.sent.number q.gives) r owed m (subst (λ o. is_number s.sent.number o ≡ true) (sym gives) (ap (λ j. n == j) is ∙ same_number n)) in
        less (length (filter (λ (q : Reply). is_number s.sent.number q.gives) owed)) (some_there (filter (λ (q : Reply). is_number s.sent.number q.gives) owed) r there) (sym (g.owes s k) ∙ none)

-- one more answer is owed by a send that is read, to its life
pub given_asked : (owed : List Reply) (sends : List LiveSend) (s : LiveSend) (r : Reply) (f : LiveSend → LiveSend)
    → AreOnce (send_numbers sends) → AreGiven owed sends → find (is_send s.sent.number) sends ≡ Some s
    → ((x : LiveSend) → (f x).sent ≡ x.sent) → ((x : LiveSend) → (f x).owes ≡ x.owes + 1)
    → r.gives ≡ Some s.sent.number → s.sent.to ≡ r.to → is_read s.sent.kind ≡ true
    → AreGiven (owed ++ r ∷ []) (change_where (is_send s.sent.number) f sends)
unfolding is_number
given_asked owed sends s r f once g found same more gives to read =
    record {
      source = λ q n m giving. source_changed (is_send s.sent.number) f sends q n same (by q n giving (member-append_cases q owed (r ∷ []) m));
      owes = member_changed (λ x. x.owes ≡ length (filter (λ (q : Reply). is_number x.sent.number q.gives) (owed ++ r ∷ []))) (is_send s.sent.number) f sends
          (λ x m is.
          let a = g.owes x m in
          let b = more x in
          let c = longer x.sent.number in
          let here : is_number x.sent.number r.gives ≡ true = ap (is_number x.sent.number) gives ∙ same_number s.sent.number x.sent.number (number_is x.sent.number s.sent.number is) in
          let d = one_more x.sent.number here in
          sum x a b c d ∙ ap (λ (z : Sent). length (filter (λ (q : Reply). is_number z.number q.gives) (owed ++ r ∷ []))) (sym (same x)))
          (λ x m is.
          let a = g.owes x m in
          let c = longer x.sent.number in
          let aside : is_number x.sent.number r.gives ≡ false = ap (is_number x.sent.number) gives ∙ turned s.sent.number x.sent.number is in
          let d = no_more x.sent.number aside in
          omega (arith, a, c, d));
      read = member_changed (λ x. is_read x.sent.kind ≡ false → x.owes ≡ 0) (is_send s.sent.number) f sends
          (λ x m is no'.
          let one = found_same x m is in
          absurd (clash (sym read ∙ ap (λ (z : LiveSend). is_read z.sent.kind) (sym one) ∙ ap (λ (q : Sent). is_read q.kind) (sym (same x)) ∙ no')))
          (λ x m is. g.read x m);
    }
  where
    clash : true ≡ false → ⊥
    clash e = cc

    number_is : (a b : ℕ) → (a == b) ≡ true → a ≡ b
    number_is a b h = grind (arith, h)

    same_number : (a b : ℕ) → b ≡ a → (a == b) ≡ true
    same_number a b h = grind (arith, h)

    turned : (a b : ℕ) → (b == a) ≡ false → (a == b) ≡ false
    turned a b h = grind (arith, h)

    found_same : (x : LiveSend) → Member x sends → is_send s.sent.number x ≡ true → x ≡ s
    found_same x m is = same_key (λ (y : LiveSend). y.sent.number) sends once x s m (find_member (is_send s.sent.number) s sends found).0 (number_is x.sent.number s.sent.number is)

    own_source : (q : Reply) (n : ℕ) → q.gives ≡ Some n → Member q (r ∷ []) → Source sends q n
    own_source q n giving (inl is) =
        let n_is : s.sent.number ≡ n = some_same (s.sent.number) n (sym gives ∙ ap (λ (z : Reply). z.gives) is ∙ giving) in
        record { send = s; live = ap (λ k. find (is_send k) sends) (sym n_is) ∙ found; to = to ∙ ap (λ (z : Reply). z.to) is }
      where
        some_same : (a b : ℕ) → Some a ≡ Some b → a ≡ b
        some_same a b h = cc
    own_source q n giving (inr none) = elim none [ ]

    by : (q : Reply) (n : ℕ) → q.gives ≡ Some n → Member q owed ⊎ Member q (r ∷ []) → Source sends q n
    by q n giving (inl m) = g.source q n m giving
    by q n giving (inr m) = own_source q n giving m

    longer : (n : ℕ) → length (filter (λ (q : Reply). is_number n q.gives) (owed ++ r ∷ [])) ≡ length (filter (λ (q : Reply). is_number n q.gives) owed) + length (filter (λ (q : Reply). is_number n q.gives) (r ∷ []))
    longer n = ap length (filter-append (λ (q : Reply). is_number n q.gives) owed (r ∷ [])) ∙ length-append (filter (λ (q : Reply). is_number n q.gives) owed) (filter (λ (q : Reply). is_number n q.gives) (r ∷ []))

    one_more : (n : ℕ) → is_number n r.gives ≡ true → length (filter (λ (q : Reply). is_number n q.gives) (r ∷ [])) ≡ 1
    one_more n is = ap (λ b. length (cond b (r ∷ []) [])) is

    no_more : (n : ℕ) → is_number n r.gives ≡ false → length (filter (λ (q : Reply). is_number n q.gives) (r ∷ [])) ≡ 0
    no_more n is = ap (λ b. length (cond b (r ∷ []) [])) is

    sum : (x : LiveSend) → x.owes ≡ length (filter (λ (q : Reply). is_number x.sent.number q.gives) owed) → (f x).owes ≡ x.owes + 1
        → length (filter (λ (q : Reply). is_number x.sent.number q.gives) (owed ++ r ∷ [])) ≡ length (filter (λ (q : Reply). is_number x.sent.number q.gives) owed) + length (filter (λ (q : Reply). is_number x.sent.number q.gives) (r ∷ []))
        → length (filter (λ (q : Reply). is_number x.sent.number q.gives) (r ∷ [])) ≡ 1
        → (f x).owes ≡ length (filter (λ (q : Reply). is_number x.sent.number q.gives) (owed ++ r ∷ []))
    sum x a b c d = omega (arith, a, b, c, d)

-- ---- answers that go out, and lives that are forgotten

-- the first of what is owed goes out, and its send owes one answer less
pub given_dropped : (r : Reply) (rest : List Reply) (sends : List LiveSend) → AreGiven (r ∷ rest) sends → AreGiven rest (change_where (gives_of r.gives) with_answer sends)
unfolding is_number gives_of
given_dropped r rest sends g =
    record {
      source = λ q n m gives. source_changed (gives_of r.gives) with_answer sends q n (λ x. refl) (g.source q n (inr m) gives);
      owes = member_changed (λ x. x.owes ≡ length (filter (λ (q : Reply). is_number x.sent.number q.gives) rest)) (gives_of r.gives) with_answer sends
          (λ x m is. (let a = g.owes x m in fewer x a (gives_same r.gives x is)))
          (λ x m is. g.owes x m ∙ ap (λ b. length (cond b (r ∷ filter (λ (q : Reply). is_number x.sent.number q.gives) rest) (filter (λ (q : Reply). is_number x.sent.number q.gives) rest))) (gives_aside r.gives x is));
      read = member_changed (λ x. is_read x.sent.kind ≡ false → x.owes ≡ 0) (gives_of r.gives) with_answer sends (λ x m is aside. (let a = g.read x m aside in none_less x a)) (λ x m is. g.read x m);
    }
  where
    turned : (a b : ℕ) → (a == b) ≡ true → (b == a) ≡ true
    turned a b h = grind (arith, h)

    turned_off : (a b : ℕ) → (a == b) ≡ false → (b == a) ≡ false
    turned_off a b h = grind (arith, h)

    gives_same : (o : Option ℕ) (x : LiveSend) → gives_of o x ≡ true → is_number x.sent.number o ≡ true
    gives_same None x is = absurd (clash is)
      where
        clash : false ≡ true → ⊥
        clash e = cc
    gives_same (Some k) x is = turned x.sent.number k is

    gives_aside : (o : Option ℕ) (x : LiveSend) → gives_of o x ≡ false → is_number x.sent.number o ≡ false
    gives_aside None x is = refl
    gives_aside (Some k) x is = turned_off x.sent.number k is

    fewer : (x : LiveSend) → x.owes ≡ length (filter (λ (q : Reply). is_number x.sent.number q.gives) (r ∷ rest)) → is_number x.sent.number r.gives ≡ true
        → x.owes - 1 ≡ length (filter (λ (q : Reply). is_number x.sent.number q.gives) rest)
    fewer x a is = (let b = a ∙ ap (λ b. length (cond b (r ∷ filter (λ (q : Reply). is_number x.sent.number q.gives) rest) (filter (λ (q : Reply). is_number x.sent.number q.gives) rest))) is in omega (arith, b))

    none_less : (x : LiveSend) → x.owes ≡ 0 → x.owes - 1 ≡ 0
    none_less x a = omega (arith, a)

-- those that pass a second test stay where all that pass a first one pass it
still_counted : (p q : Reply → Bool) (xs : List Reply) → ((r : Reply) → Member r xs → p r ≡ true → q r ≡ true) → length (filter p (filter q xs)) ≡ length (filter p xs)
still_counted p q [] h = refl
still_counted p q (r ∷ xs) h =
    let rest = still_counted p q xs (λ y m. h y (inr m)) in
    elim (q r) as (λ b. q r ≡ b → length (filter p (cond b (r ∷ filter q xs) (filter q xs))) ≡ length (cond (p r) (r ∷ filter p xs) (filter p xs))) [
      | true ↦ λ is. elim (p r) as (λ c. length (cond c (r ∷ filter p (filter q xs)) (filter p (filter q xs))) ≡ length (cond c (r ∷ filter p xs) (filter p xs))) [ true ↦ ap (λ n. suc n) rest | false ↦ rest ]
      | false ↦ λ is. rest ∙ ap (λ c. length (cond c (r ∷ filter p xs) (filter p xs))) (sym (aside (p r) (λ hit. h r (inl refl) hit) is))
    ] refl
  where
    aside : (c : Bool) → (c ≡ true → q r ≡ true) → q r ≡ false → c ≡ false
    aside true hit is = absurd (clash (sym (hit refl) ∙ is))
      where
        clash : true ≡ false → ⊥
        clash e = cc
    aside false hit is = refl

-- what is owed to some lives goes, and the sends to them
pub given_forgotten : (owed : List Reply) (sends : List LiveSend) (among : Life → Bool) → AreOnce (send_numbers sends) → AreGiven owed sends
    → AreGiven (filter (λ (r : Reply). not (among r.to)) owed) (filter (λ (s : LiveSend). not (among s.sent.to)) sends)
unfolding is_number
given_forgotten owed sends among once g =
    record {
      source = λ r n m gives.
          let k = member-filter (λ (q : Reply). not (among q.to)) r owed m in
          let q = g.source r n k.0 gives in
          let f = find_member (is_send n) q.send sends q.live in
          record {
            send = q.send;
            live = find_only (is_send n) q.send (filter (λ (s : LiveSend). not (among s.sent.to)) sends) (filter-member (λ (s : LiveSend). not (among s.sent.to)) q.send sends f.0 (ap (λ l. not (among l)) q.to ∙ k.1)) f.1
                (λ y j e. same_key (λ (x : LiveSend). x.sent.number) sends once y q.send (member-filter (λ (s : LiveSend). not (among s.sent.to)) y sends j).0 f.0 (number_is y.sent.number n e ∙ sym (number_is q.send.sent.number n f.1)));
            to = q.to;
          };
      owes = λ s m.
          let k = member-filter (λ (x : LiveSend). not (among x.sent.to)) s sends m in
          g.owes s k.0 ∙ sym (still_counted (λ (r : Reply). is_number s.sent.number r.gives) (λ (r : Reply). not (among r.to)) owed (λ r j hit. to_same s k.0 k.1 r j (r.gives) refl hit));
      read = λ s m. g.read s (member-filter (λ (x : LiveSend). not (among x.sent.to)) s sends m).0;
    }
  where
    number_is : (a b : ℕ) → (a == b) ≡ true → a ≡ b
    number_is a b h = grind (arith, h)

    to_same : (s : LiveSend) → Member s sends → not (among s.sent.to) ≡ true → (r : Reply) → Member r owed → (o : Option ℕ) → r.gives ≡ o → is_number s.sent.number o ≡ true → not (among r.to) ≡ true
    to_same s k free r j None is hit = absurd (clash hit)
      where
        clash : false ≡ true → ⊥
        clash e = cc
    to_same s k free r j (Some n) is hit =
        let q = g.source r n j is in
        let f = find_member (is_send n) q.send sends q.live in
        let one = same_key (λ (x : LiveSend). x.sent.number) sends once q.send s f.0 k (number_is q.send.sent.number n f.1 ∙ number_is n s.sent.number hit) in
        ap (λ l. not (among l)) (sym q.to ∙ ap (λ (x : LiveSend). x.sent.to) one) ∙ free
