-- In which bins the messages and the receives stand that accept each other.
use Rattle.std.proofs.Common.{◌≡◌, refl, sym, ap, subst, ◌∙◌, ℕ, ◌+◌, ◌-◌, ◌%◌, ◌^◌, ◌<◌, Bool, true, false, Option, Some, None, arith, bit_and}
use Rattle.std.specs.Prelude.{◌&&◌, ◌||◌, ◌==◌, nat_eq, T, min, if◌then◌else◌, option_map, bit_xor}
use Rattle.std.specs.Option.{option_eq}
use Rattle.std.specs.Int.{bit_at}
use Rattle.std.proofs.lemmas.Bool.{eqb-true, eq-eqb}
use Rattle.std.proofs.lemmas.Nat.{and_mask}
use Rattle.std.proofs.lemmas.Nat.Bits.{bit_at_and, bit_at_xor, bit_at_ones, bit_at-zero, bit_at-lt, same_from_bits_below}
use Rattle.std.specs.Int.Bits.{mask_lt}
use Rattle.rdm_num.specs.Lives.{is_life_or_none, same_life}
use Rattle.rdm_num.specs.declared.numbers.Life.{Life}
use Rattle.rdm_num.specs.declared.request.Want.{Want}
use Rattle.rdm_match.specs.declared.PostedRecv.{PostedRecv}
use Rattle.rdm_match.specs.declared.Arrived.{Arrived}
use Rattle.rdm_match.specs.Matcher.{accepts, tags_agree, is_recv}
use Rattle.rdm_bins.specs.Shelf.{is_in}
use Rattle.rdm_bins.specs.Binning.{tag_bits, bin_of_want, recv_bin, bin_of_recv, group_of_recv, bin_of_message, group_of_message}
use Rattle.rdm_bins.proofs.Items.{not_both}

first_true : (s t : Bool) → (s && t) ≡ true → s ≡ true
first_true true t h = refl
first_true false t h = h

second_true : (s t : Bool) → (s && t) ≡ true → t ≡ true
second_true true t h = h
second_true false t h = absurd (subst T (sym h) tt)

same_parity : (a b : ℕ) → a < 2 → b < 2 → min ((a + b) % 2) 1 ≡ 0 → a ≡ b
same_parity a b less_a less_b h = grind arith

one_bit : (a : ℕ) → a < 2 → min a 1 ≡ a
one_bit a less = omega arith

-- a bit of the low ones is that bit
low_bit : (n k i : ℕ) → i < k → bit_at (bit_and n (2 ^ k - 1)) i ≡ bit_at n i
low_bit n k i less = bit_at_and n (2 ^ k - 1) i ∙ ap (min (bit_at n i)) (bit_at_ones k i less) ∙ one_bit (bit_at n i) (bit_at-lt n i)

-- where no low bit differs, the low bits are the same
same_low : (a b k : ℕ) → bit_and (bit_xor a b) (2 ^ k - 1) ≡ 0 → bit_and a (2 ^ k - 1) ≡ bit_and b (2 ^ k - 1)
same_low a b k h =
    same_from_bits_below k _ _ (mask_lt a k) (mask_lt b k) (λ i less.
    low_bit a k i less
    ∙ same_parity (bit_at a i) (bit_at b i) (bit_at-lt a i) (bit_at-lt b i)
    (sym (bit_at_and (bit_xor a b) (2 ^ k - 1) i ∙ (λ j. min (bit_at_xor a b i j) (bit_at_ones k i less j)))
    ∙ ap (λ n. bit_at n i) h
    ∙ bit_at-zero i)
    ∙ sym (low_bit b k i less))

-- where each bit is compared, tags that agree are the same
same_tags : (t : ℕ) (want : Want) → (want.ignore == 0) ≡ true → tags_agree (Some want) (Some t) ≡ true → tag_bits t ≡ tag_bits want.tag
unfolding tags_agree
same_tags t want exact agree =
    sym (and_mask t 64)
    ∙ same_low t want.tag 64 (ap (λ n. bit_and (bit_xor t want.tag) (2 ^ 64 - 1 - n)) (sym (eqb-true want.ignore 0 exact)) ∙ eqb-true _ 0 agree)
    ∙ and_mask want.tag 64

untagged : (want : Option Want) (tag : Option ℕ) → want ≡ None → tags_agree want tag ≡ true → option_eq nat_eq None (option_map tag_bits tag) ≡ true
unfolding tags_agree
untagged None None none agree = refl
untagged None (Some t) none agree = agree
untagged (Some want) tag none agree = not_both (Some want) want none refl

-- an untagged receive accepts messages of the bin without a tag
pub untagged_message : (r : PostedRecv) (a : Arrived) → r.want ≡ None → accepts r a ≡ true → is_in bin_of_message None (Some a) ≡ true
unfolding accepts is_in
untagged_message r a none agree = untagged r.want a.tag none (second_true _ _ agree)

exact_tag : (want : Want) (tag : Option ℕ) → (want.ignore == 0) ≡ true → tag_bits want.tag ≡ want.tag → tags_agree (Some want) tag ≡ true → option_eq nat_eq (Some want.tag) (option_map tag_bits tag) ≡ true
unfolding tags_agree
exact_tag want None exact small agree = agree
exact_tag want (Some t) exact small agree = eq-eqb want.tag (tag_bits t) (sym (same_tags t want exact agree ∙ small))

-- a receive with an exact tag accepts messages of that tag's bin
pub exact_message : (r : PostedRecv) (a : Arrived) (want : Want) → r.want ≡ Some want → (want.ignore == 0) ≡ true → tag_bits want.tag ≡ want.tag → accepts r a ≡ true → is_in bin_of_message (Some want.tag) (Some a) ≡ true
unfolding accepts is_in
exact_message r a want is exact small agree = exact_tag want a.tag exact small (subst (λ w. tags_agree w a.tag ≡ true) is (second_true _ _ agree))

named : (from : Option Life) (life source : Life) → from ≡ Some source → is_life_or_none from life ≡ true → nat_eq source.port.0 life.port.0 ≡ true
unfolding is_life_or_none same_life
named from life source is agree = first_true _ _ (subst (λ f. is_life_or_none f life ≡ true) is agree)

-- a receive that names a source accepts messages from that port
pub named_message : (r : PostedRecv) (a : Arrived) (source : Life) → r.from ≡ Some source → accepts r a ≡ true → is_in group_of_message (Some source.port.0) (Some a) ≡ true
unfolding accepts is_in
named_message r a source is agree = named r.from a.life source is (first_true _ _ agree)

other_bin : (from : Option Life) (want : Option Want) (tag : Option ℕ) → tag ≡ None → tags_agree want tag ≡ true → option_eq nat_eq None (recv_bin from want) ≡ true
unfolding tags_agree recv_bin bin_of_want
other_bin None None tag none agree = refl
other_bin None (Some want) None none agree = absurd (subst T (sym agree) tt)
other_bin None (Some want) (Some t) none agree = not_both (Some t) t none refl
other_bin (Some source) want tag none agree = refl

-- an untagged message is accepted by receives of the bin without a tag
pub untagged_receive : (r : PostedRecv) (a : Arrived) → a.tag ≡ None → accepts r a ≡ true → is_in bin_of_recv None (Some r) ≡ true
unfolding accepts is_in
untagged_receive r a none agree = other_bin r.from r.want a.tag none (second_true _ _ agree)

-- a bin of a tag or the bin without one
either_bin : (t : ℕ) (b : Bool) (tag : ℕ) → (b ≡ true → t ≡ tag) → (option_eq nat_eq (Some t) (if b then Some tag else None) || option_eq nat_eq None (if b then Some tag else None)) ≡ true
either_bin t true tag same = ap (λ s. s || false) (eq-eqb t tag (same refl))
either_bin t false tag same = refl

tagged_bin : (from : Option Life) (want : Option Want) (t : ℕ) → tag_bits t ≡ t → tags_agree want (Some t) ≡ true → (option_eq nat_eq (Some t) (recv_bin from want) || option_eq nat_eq None (recv_bin from want)) ≡ true
unfolding recv_bin bin_of_want
tagged_bin None None t small agree = refl
tagged_bin None (Some want) t small agree = either_bin t (want.ignore == 0) (tag_bits want.tag) (λ exact. sym small ∙ same_tags t want exact agree)
tagged_bin (Some source) want t small agree = refl

-- a tagged message is accepted by receives of its tag's bin and of the bin without a tag
pub tagged_receive : (r : PostedRecv) (a : Arrived) (t : ℕ) → a.tag ≡ Some t → tag_bits t ≡ t → accepts r a ≡ true → (is_in bin_of_recv (Some t) (Some r) || is_in bin_of_recv None (Some r)) ≡ true
unfolding accepts is_in
tagged_receive r a t is small agree = tagged_bin r.from r.want t small (subst (λ o. tags_agree r.want o ≡ true) is (second_true _ _ agree))

-- a receive of a number is in that number's group
pub numbered_receive : (n : ℕ) (r : PostedRecv) → is_recv n r ≡ true → is_in group_of_recv (Some n) (Some r) ≡ true
unfolding is_recv is_in
numbered_receive n r h = eq-eqb n r.id.0 (sym (eqb-true r.id.0 n h))
