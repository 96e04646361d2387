-- When bytes are a packet that opens a message.
use Rattle.std.proofs.Common.{◌≡◌, ℕ, suc, ◌+◌, ◌<◌, ◌≤◌, ◌^◌, Bool, true, false, if◌then◌else◌, List, [], ◌∷◌, ◌++◌, length, drop, Option, Some, None, refl, sym, ap, ◌∙◌, subst, append_assoc, add_assoc, zero-add, inl, inr, arith}
use Rattle.std.specs.Prelude.{nat_le, not, ◌==◌, ◌&&◌, is_some}
use Rattle.std.specs.Bool.{then_some}
use Rattle.std.proofs.lemmas.List.{length-drop, drop-drop}
use Rattle.std.proofs.lemmas.Bool.Decides.{leb_tells}
use Rattle.std.proofs.lemmas.Bool.{and_parts, and_from, leb-true, eqb-true, le-leb, false_from_ne_true}
use Rattle.rdm_hdr.specs.declared.Opt.{Opt}
use Rattle.rdm_hdr.specs.Fields.{Field, Number, field_fits, fields_bytes, fields_fit, number_at, has_bit}
use Rattle.rdm_hdr.specs.Headers.{base_fields, raw_fields, cq_data_fields, connid_fields, opt_fields, opt_flags, opt_size, opt_at}
use Rattle.rdm_hdr.specs.Reading.{begins, opt_in}
use Rattle.rdm_hdr.proofs.Fronts.{AreBytes, number_at-fits, begins-longer}
use Rattle.rdm_hdr.proofs.Opts.{some-then}
use Rattle.rdm_pkt.specs.declared.reading.Opening.{Opening}
use Rattle.rdm_pkt.specs.declared.Packet.{Packet}
use Rattle.rdm_pkt.specs.declared.Packet.TheVariants.{Rtm}
use Rattle.rdm_pkt.specs.declared.Form.{Form}
use Rattle.rdm_pkt.specs.Grammar.{type_of, form_fields, tag_fields, last_fields, rtm_flags, head_fields, layout, confirm_fits, form_fits, opt_fits, packet_fits, spelling}
use Rattle.rdm_pkt.specs.Reading.{Row, header_size, confirm_at, form_at, rtm_at, if_spelled}
use Rattle.rdm_pkt.specs.Opened.{opt_place, tag_at, opt_of, last_place, is_opened, opening_in}
use Rattle.rdm_pkt.proofs.PacketSizes.{size_of, head-size, tag-size, form_size, form-size, packet-size}
use Rattle.rdm_pkt.proofs.Stands.{stands, stands-append, stands-own, stands-number, is-spelled, not-spelled}
use Rattle.rdm_pkt.proofs.Rows.{fit-nothing, fit-append, fit-own}

-- the packet with the values that stand there, and that form
abbrev pub rtm_of : (size : ℕ) → List ℕ → Form → Packet
rtm_of size bytes form = Rtm (record { 0 = number_at 4 4 bytes }) (tag_at size bytes) (confirm_at bytes) (opt_of size bytes) form

-- the packet of a row
pub rtm-row : (row : Row) (bytes : List ℕ) → rtm_at row bytes ≡ rtm_of (header_size row) bytes (form_at row (last_place (header_size row) bytes) bytes)
unfolding rtm_at opt_place tag_at opt_of last_place
rtm-row row bytes = refl

-- the fields of the base header
abbrev head_of : (kind size : ℕ) → List ℕ → List Field
head_of kind size bytes = head_fields (kind + (if is_some (tag_at size bytes) then 1 else 0)) (rtm_flags (tag_at size bytes) (opt_of size bytes))

-- the fields from the form's on
abbrev form_rest : (size : ℕ) → List ℕ → Form → List Field
form_rest size bytes form = form_fields form ++ (tag_fields (tag_at size bytes) ++ (opt_fields (opt_of size bytes) ++ last_fields form))

-- the fields in their order
rtm-layout : (size : ℕ) (bytes : List ℕ) (form : Form) → layout (rtm_of size bytes form) ≡ head_of (type_of (confirm_at bytes) form) size bytes ++ (Number 4 (number_at 4 4 bytes) ∷ form_rest size bytes form)
unfolding layout
rtm-layout size bytes form = simp append_assoc refl

-- a tag that is there stands where there is room for it
tag-stands : (there : Bool) (place : ℕ) (more : List Field) (bytes : List ℕ) → AreBytes bytes → place + (if there then 8 else 0) ≤ length bytes
    → stands place (tag_fields (then_some there (number_at place 8 bytes)) ++ more) bytes ≡ stands (place + (if there then 8 else 0)) more bytes
unfolding tag_fields
tag-stands true place more bytes h room = stands-own place 8 more bytes h (omega arith) room
tag-stands false place more bytes h room = let e : place ≡ place + 0 = omega arith in ap (λ (at : ℕ). stands at more bytes) e

-- the tag stands at its place
tag-there : (size : ℕ) (more : List Field) (bytes : List ℕ) → AreBytes bytes → opt_place size bytes ≤ length bytes → stands size (tag_fields (tag_at size bytes) ++ more) bytes ≡ stands (opt_place size bytes) more bytes
unfolding opt_place tag_at
tag-there size more bytes h room = tag-stands (has_bit 3 (number_at 2 2 bytes)) size more bytes h room

-- there is a base header and a message number
least : (size : ℕ) (bytes : List ℕ) (form : Form) → 8 + form_size form ≡ size → opt_place size bytes ≤ length bytes → 8 ≤ length bytes
unfolding opt_place
least size bytes form whole room = omega arith

-- the fields of a packet stand where the headers and the form's parts do
rtm-stands : (size : ℕ) (bytes : List ℕ) (form : Form) → AreBytes bytes → 8 + form_size form ≡ size → opt_place size bytes ≤ length bytes
    → stands 0 (layout (rtm_of size bytes form)) bytes
    ≡ (begins (fields_bytes (head_of (type_of (confirm_at bytes) form) size bytes)) bytes && (stands 8 (form_fields form) bytes && (stands (opt_place size bytes) (opt_fields (opt_of size bytes)) bytes && stands (last_place size bytes) (last_fields form) bytes)))
unfolding last_place opt_size
rtm-stands size bytes form h whole room =
    let opts : List Field = opt_fields (opt_of size bytes) in
    let after_tag : List Field = opts ++ last_fields form in
    let after_form : List Field = tag_fields (tag_at size bytes) ++ after_tag in
    let head : List Field = head_of (type_of (confirm_at bytes) form) size bytes in
    let enough : 8 ≤ length bytes = least size bytes form whole room in
    let a : stands 0 (head ++ (Number 4 (number_at 4 4 bytes) ∷ form_rest size bytes form)) bytes ≡ (begins (fields_bytes head) bytes && stands 4 (Number 4 (number_at 4 4 bytes) ∷ form_rest size bytes form) bytes) =
    rw (stands-append 0 head (Number 4 (number_at 4 4 bytes) ∷ form_rest size bytes form) bytes, head-size (type_of (confirm_at bytes) form + (if is_some (tag_at size bytes) then 1 else 0)) (rtm_flags (tag_at size bytes) (opt_of size bytes))) refl in
    let b : stands 4 (Number 4 (number_at 4 4 bytes) ∷ form_rest size bytes form) bytes ≡ stands 8 (form_fields form ++ after_form) bytes = stands-own 4 4 (form_rest size bytes form) bytes h (omega arith) enough in
    let d : stands 8 (form_fields form ++ after_form) bytes ≡ (stands 8 (form_fields form) bytes && stands size after_form bytes) =
    rw (stands-append 8 (form_fields form) after_form bytes, form-size form, whole) refl in
    let e : stands size after_form bytes ≡ stands (opt_place size bytes) after_tag bytes = tag-there size after_tag bytes h room in
    let f : stands (opt_place size bytes) after_tag bytes ≡ (stands (opt_place size bytes) opts bytes && stands (opt_place size bytes + size_of opts) (last_fields form) bytes) =
    stands-append (opt_place size bytes) opts (last_fields form) bytes in
    rw (rtm-layout size bytes form, a, b, d, e, f) refl

-- ---- in range

-- four flags have room in two bytes
small : (a b c d : Bool) → (if a then 8 else 4) + ((if b then 1 else 0) + (if c then 2 else 0) + (if d then 32768 else 0)) < 65536
small true true true true = omega arith
small true true true false = omega arith
small true true false true = omega arith
small true true false false = omega arith
small true false true true = omega arith
small true false true false = omega arith
small true false false true = omega arith
small true false false false = omega arith
small false true true true = omega arith
small false true true false = omega arith
small false true false true = omega arith
small false true false false = omega arith
small false false true true = omega arith
small false false true false = omega arith
small false false false true = omega arith
small false false false false = omega arith

-- a type and one more
pub one-more : (kind : ℕ) (b : Bool) → kind < 255 → kind + (if b then 1 else 0) < 256
one-more kind true h = omega arith
one-more kind false h = omega arith

-- one more at most
one-more' : (b : Bool) → (if b then 1 else 0) ≤ 1
one-more' true = omega arith
one-more' false = omega arith

-- a value is there where its test holds
is_some-then_some : (b : Bool) (x : ℕ) → is_some (then_some b x) ≡ b
is_some-then_some true x = refl
is_some-then_some false x = refl

-- flags have room in two bytes
pub flags-small : (tag : Option ℕ) (opt : Opt) → rtm_flags tag opt < 65536
unfolding rtm_flags opt_flags
flags-small tag opt = small (is_some tag) (is_some opt.raw) (is_some opt.cq_data) (is_some opt.connid)

-- and so have those of the optional headers alone
pub opt_flags-small : (opt : Opt) → opt_flags opt < 65536
unfolding rtm_flags
opt_flags-small opt = let e = flags-small None opt in omega arith

-- a base header and more are in their ranges
pub fit-head : (kind flags : ℕ) (more : List Field) → kind < 256 → flags < 65536 → fields_fit more ≡ true → fields_fit (head_fields kind flags ++ more) ≡ true
unfolding head_fields base_fields fields_fit field_fits
fit-head kind flags more a b rest = rw (le-leb (suc kind) 256 (omega arith), le-leb (suc flags) 65536 (omega arith), rest) refl

-- a tag that stands there and more are in their ranges
fit-tag : (there : Bool) (place : ℕ) (more : List Field) (bytes : List ℕ) → AreBytes bytes → fields_fit more ≡ true → fields_fit (tag_fields (then_some there (number_at place 8 bytes)) ++ more) ≡ true
unfolding tag_fields
fit-tag true place more bytes h rest = fit-own place 8 more bytes h rest
fit-tag false place more bytes h rest = rest

-- a raw address that stands there is in its ranges
pub fit-raw : (there : Bool) (a b : ℕ) (bytes : List ℕ) → AreBytes bytes → fields_fit (raw_fields (then_some there (number_at a 4 bytes, number_at b 4 bytes))) ≡ true
unfolding raw_fields fields_fit field_fits
fit-raw true a b bytes h = rw (le-leb (suc (number_at a 4 bytes)) (256 ^ 4) (let e = number_at-fits a 4 bytes h in omega arith), le-leb (suc (number_at b 4 bytes)) (256 ^ 4) (let e = number_at-fits b 4 bytes h in omega arith)) refl
fit-raw false a b bytes h = refl

-- CQ data that stand there are in their range
fit-cq_data : (there : Bool) (a : ℕ) (bytes : List ℕ) → AreBytes bytes → fields_fit (cq_data_fields (then_some there (number_at a 8 bytes))) ≡ true
unfolding cq_data_fields
fit-cq_data true a bytes h = fit-own a 8 [] bytes h fit-nothing
fit-cq_data false a bytes h = fit-nothing

-- an identifier that stands there is in its range
pub fit-connid : (there : Bool) (a : ℕ) (bytes : List ℕ) → AreBytes bytes → fields_fit (connid_fields (then_some there (number_at a 4 bytes))) ≡ true
unfolding connid_fields
fit-connid true a bytes h = fit-own a 4 [] bytes h fit-nothing
fit-connid false a bytes h = fit-nothing

-- the optional headers that stand there are in their ranges
fit-opt : (size : ℕ) (bytes : List ℕ) → AreBytes bytes → fields_fit (opt_fields (opt_of size bytes)) ≡ true
unfolding opt_of opt_at opt_fields
fit-opt size bytes h =
    fit-append _ _ (fit-append _ _ (fit-raw _ _ _ bytes h) (fit-cq_data _ _ bytes h)) (fit-connid _ _ bytes h)

-- the tag and more are in their ranges
fit-tag_at : (size : ℕ) (more : List Field) (bytes : List ℕ) → AreBytes bytes → fields_fit more ≡ true → fields_fit (tag_fields (tag_at size bytes) ++ more) ≡ true
unfolding tag_at
fit-tag_at size more bytes h rest = fit-tag (has_bit 3 (number_at 2 2 bytes)) size more bytes h rest

-- the fields of a packet whose form is in its ranges are in theirs
fit-rtm : (size : ℕ) (bytes : List ℕ) (form : Form) → AreBytes bytes → type_of (confirm_at bytes) form < 255 → fields_fit (form_fields form) ≡ true → fields_fit (last_fields form) ≡ true → fields_fit (layout (rtm_of size bytes form)) ≡ true
fit-rtm size bytes form h small a b =
    rw (rtm-layout size bytes form)
    (fit-head _ _ _ (one-more (type_of (confirm_at bytes) form) (is_some (tag_at size bytes)) small) (flags-small (tag_at size bytes) (opt_of size bytes))
    (fit-own 4 4 _ bytes h
    (fit-append (form_fields form) _ a
    (fit-tag_at size _ bytes h
    (fit-append (opt_fields (opt_of size bytes)) (last_fields form) (fit-opt size bytes h) b)))))

-- ---- where a packet is

-- the parts of the test on the headers
pub record Opened (kind size : ℕ) (bytes : List ℕ) : Type 0 where
  pub room : opt_place size bytes ≤ length bytes
  pub opts : stands (opt_place size bytes) (opt_fields (opt_of size bytes)) bytes ≡ true
  pub fit : opt_fits (opt_of size bytes) ≡ true
  pub head : begins (fields_bytes (head_of kind size bytes)) bytes ≡ true

-- the test gives its parts
pub opened : (kind size : ℕ) (bytes : List ℕ) → is_opened kind size bytes ≡ true → Opened kind size bytes
unfolding is_opened
opened kind size bytes h =
    let a = and_parts (nat_le (opt_place size bytes) (length bytes) && stands (opt_place size bytes) (opt_fields (opt_of size bytes)) bytes && opt_fits (opt_of size bytes)) (begins (fields_bytes (head_of kind size bytes)) bytes) h in
    let b = and_parts (nat_le (opt_place size bytes) (length bytes) && stands (opt_place size bytes) (opt_fields (opt_of size bytes)) bytes) (opt_fits (opt_of size bytes)) a.0 in
    let d = and_parts (nat_le (opt_place size bytes) (length bytes)) (stands (opt_place size bytes) (opt_fields (opt_of size bytes)) bytes) b.0 in
    record { room = leb-true (opt_place size bytes) (length bytes) d.0; opts = d.1; fit = b.1; head = a.1 }

-- the parts give the test
pub is-opened : (kind size : ℕ) (bytes : List ℕ) → Opened kind size bytes → is_opened kind size bytes ≡ true
unfolding is_opened
is-opened kind size bytes o = rw (le-leb (opt_place size bytes) (length bytes) o.room, o.opts, o.fit, o.head) refl

-- the size of a packet is where its last part begins, and that part
rtm-size_of : (size : ℕ) (bytes : List ℕ) (form : Form) → 8 + form_size form ≡ size → length (spelling (rtm_of size bytes form)) ≡ last_place size bytes + size_of (last_fields form)
unfolding last_place opt_place tag_at
rtm-size_of size bytes form whole =
    let e = packet-size (rtm_of size bytes form) in
    let f = form-size form in
    let t = tag-size (then_some (has_bit 3 (number_at 2 2 bytes)) (number_at size 8 bytes)) in
    let same = is_some-then_some (has_bit 3 (number_at 2 2 bytes)) (number_at size 8 bytes) in
    e ∙ rw (f, t, same) (omega arith)

-- the optional headers come before what is last
before-last : (size : ℕ) (bytes : List ℕ) (n : ℕ) → last_place size bytes + n ≡ length bytes → opt_place size bytes ≤ length bytes
unfolding last_place
before-last size bytes n end = omega arith

-- bytes with those headers and that form are that packet
pub rtm-is : (kind size : ℕ) (form : Form) (bytes : List ℕ) → AreBytes bytes → type_of (confirm_at bytes) form ≡ kind → kind < 255 → 8 + form_size form ≡ size → is_opened kind size bytes ≡ true
    → confirm_fits (confirm_at bytes) form ≡ true → form_fits form ≡ true → fields_fit (form_fields form) ≡ true → fields_fit (last_fields form) ≡ true
    → stands 8 (form_fields form) bytes ≡ true → stands (last_place size bytes) (last_fields form) bytes ≡ true → last_place size bytes + size_of (last_fields form) ≡ length bytes
    → if_spelled bytes (rtm_of size bytes form) ≡ Some (rtm_of size bytes form)
unfolding packet_fits
rtm-is kind size form bytes h type small whole test own fit form_fit last_fit form_there last_there end =
    let o = opened kind size bytes test in
    let there : stands 0 (layout (rtm_of size bytes form)) bytes ≡ true = rw (rtm-stands size bytes form h whole o.room, type, o.head, form_there, o.opts, last_there) refl in
    is-spelled (rtm_of size bytes form) bytes (and_from (confirm_fits (confirm_at bytes) form && opt_fits (opt_of size bytes)) (form_fits form) (and_from (confirm_fits (confirm_at bytes) form) (opt_fits (opt_of size bytes)) own o.fit) fit) (fit-rtm size bytes form h (omega arith) form_fit last_fit) there (rtm-size_of size bytes form whole ∙ end)

-- the type at the front is that of the base header there
pub first-type : (kind flags : ℕ) (bytes : List ℕ) → AreBytes bytes → kind < 256 → 1 ≤ length bytes → begins (fields_bytes (head_fields kind flags)) bytes ≡ true → number_at 0 1 bytes ≡ kind
unfolding head_fields base_fields
first-type kind flags bytes h small room there =
    let more : List Field = Number 1 4 ∷ Number 2 flags ∷ [] in
    let parts = and_parts (number_at 0 1 bytes == kind) (stands 1 more bytes) (sym (stands-number 0 1 kind more bytes h (omega arith) (omega arith) room) ∙ there) in
    eqb-true (number_at 0 1 bytes) kind parts.0

-- packets of types below 200 say nothing of a receipt
pub opened-plain : (kind size : ℕ) (bytes : List ℕ) → AreBytes bytes → kind < 199 → 8 ≤ length bytes → Opened kind size bytes → not (confirm_at bytes) ≡ true
unfolding confirm_at
opened-plain kind size bytes h small room o =
    let more = one-more' (is_some (tag_at size bytes)) in
    let type = first-type (kind + (if is_some (tag_at size bytes) then 1 else 0)) (rtm_flags (tag_at size bytes) (opt_of size bytes)) bytes h (omega (arith, more)) (omega arith) o.head in
    let below : nat_le 200 (number_at 0 1 bytes) ≡ false = false_from_ne_true (nat_le 200 (number_at 0 1 bytes)) (λ e. let above = leb-true 200 (number_at 0 1 bytes) e in absurd (omega (arith, more, type, above))) in
    rw below refl

-- the type of an untagged packet whose type says whether its sender waits for a receipt
abbrev pub kind_at : (plain : ℕ) → List ℕ → ℕ
kind_at plain bytes = if confirm_at bytes then plain + 136 else plain

-- it has one more type after it
small-by : (confirm : Bool) (plain : ℕ) → plain < 119 → (if confirm then plain + 136 else plain) < 255
small-by true plain h = omega arith
small-by false plain h = omega arith

pub kind-small : (plain : ℕ) (bytes : List ℕ) → plain < 119 → kind_at plain bytes < 255
kind-small plain bytes h = small-by (confirm_at bytes) plain h

-- what a packet that opens a message takes
pub rtm-takes : (kind size : ℕ) (form : Form) (bytes : List ℕ) → AreBytes bytes → type_of (confirm_at bytes) form ≡ kind → 8 + form_size form ≡ size
    → (is_opened kind size bytes ≡ true → form_fits form ≡ true → stands 8 (form_fields form) bytes ≡ true → stands (last_place size bytes) (last_fields form) bytes ≡ true → last_place size bytes + size_of (last_fields form) ≡ length bytes → ⊥)
    → if_spelled bytes (rtm_of size bytes form) ≡ None
unfolding packet_fits
rtm-takes kind size form bytes h type whole wrong =
    not-spelled (rtm_of size bytes form) bytes (λ fit there same.
    let end : last_place size bytes + size_of (last_fields form) ≡ length bytes = sym (rtm-size_of size bytes form whole) ∙ same in
    let room : opt_place size bytes ≤ length bytes = before-last size bytes (size_of (last_fields form)) end in
    let fits = and_parts (confirm_fits (confirm_at bytes) form && opt_fits (opt_of size bytes)) (form_fits form) fit in
    let opts = and_parts (confirm_fits (confirm_at bytes) form) (opt_fits (opt_of size bytes)) fits.0 in
    let a = and_parts _ _ (sym (rtm-stands size bytes form h whole room) ∙ there) in
    let b = and_parts _ _ a.1 in
    let d = and_parts _ _ b.1 in
    wrong (is-opened kind size bytes (record { room = room; opts = d.0; fit = opts.1; head = subst (λ (k : ℕ). begins (fields_bytes (head_of k size bytes)) bytes ≡ true) type a.0 })) fits.1 b.0 d.1 end)

-- ---- the headers as they are read

-- a test that cannot hold
never : {A : Type 0} (test : Bool) (x : A) → (test ≡ true → ⊥) → then_some test x ≡ None
never true x wrong = absurd (wrong refl)
never false x wrong = refl

-- one of two numbers is the less
le_by_cases : {A : Type 0} (a b : ℕ) → (a ≤ b → A) → (b < a → A) → A
le_by_cases a b f g = elim (leb_tells a b) [ inl h ↦ f h.1 | inr h ↦ g h.1 ]

-- a test has one answer
pub true-not-false : {b : Bool} → b ≡ false → b ≡ true → ⊥
true-not-false p q = cc

-- a number that stands after a place
pub number_at-drop : (place n from : ℕ) (bytes : List ℕ) → number_at place n (drop from bytes) ≡ number_at (from + place) n bytes
unfolding number_at
number_at-drop place n from bytes = rw (drop-drop place from bytes) refl

-- the optional headers after a place are those at the place
pub opt_at-drop : (place flags : ℕ) (bytes : List ℕ) → opt_at 0 flags (drop place bytes) ≡ opt_at place flags bytes
unfolding opt_at
opt_at-drop place flags bytes =
    let raw : ℕ = if has_bit 0 flags then 36 else 0 in
    let cq_data : ℕ = if has_bit 1 flags then 8 else 0 in
    let a : number_at 4 4 (drop place bytes) ≡ number_at (place + 4) 4 bytes = number_at-drop 4 4 place bytes in
    let b : number_at 24 4 (drop place bytes) ≡ number_at (place + 24) 4 bytes = number_at-drop 24 4 place bytes in
    let d : number_at (0 + raw) 8 (drop place bytes) ≡ number_at (place + raw) 8 bytes = rw (zero-add raw) (number_at-drop raw 8 place bytes) in
    let e : number_at ((0 + raw) + cq_data) 4 (drop place bytes) ≡ number_at ((place + raw) + cq_data) 4 bytes =
    rw (zero-add raw) (number_at-drop (raw + cq_data) 4 place bytes ∙ ap (λ (at : ℕ). number_at at 4 bytes) (sym (add_assoc place raw cq_data))) in
    rw (a, b, d, e) refl

-- the optional headers that are read
pub opening-opt : (size : ℕ) (bytes : List ℕ) → opt_in (number_at 2 2 bytes) (drop (opt_place size bytes) bytes) ≡ then_some (stands (opt_place size bytes) (opt_fields (opt_of size bytes)) bytes) (opt_of size bytes, opt_size (opt_of size bytes))
unfolding opt_in opt_of
opening-opt size bytes = rw (opt_at-drop (opt_place size bytes) (number_at 2 2 bytes) bytes) refl

-- the place of the optional headers, as it is computed
pub place-by : (size flags extra : ℕ) (bytes : List ℕ) (tagged : Bool) → flags ≡ number_at 2 2 bytes → tagged ≡ has_bit 3 flags → extra ≡ (if tagged then 8 else 0) → size + extra ≡ opt_place size bytes
unfolding opt_place
place-by size flags extra bytes tagged p q r = rw (r, q, p) refl

-- the mandatory header comes before the optional ones
pub size-first : (size : ℕ) (bytes : List ℕ) → size ≤ opt_place size bytes
unfolding opt_place
size-first size bytes = omega arith

-- headers that cannot be there are not read
pub opening-takes : (kind size : ℕ) (bytes : List ℕ) → (Opened kind size bytes → ⊥) → opening_in kind size bytes ≡ None
unfolding opening_in
opening-takes kind size bytes wrong = never (is_opened kind size bytes) _ (λ h. wrong (opened kind size bytes h))

-- headers that are there are read
pub opening-is : (kind size : ℕ) (bytes : List ℕ) → Opened kind size bytes → opening_in kind size bytes ≡ Some (record { no = record { 0 = number_at 4 4 bytes }; tag = tag_at size bytes; confirm = confirm_at bytes; opt = opt_of size bytes; place = last_place size bytes })
unfolding opening_in
opening-is kind size bytes o = rw (is-opened kind size bytes o) refl

-- the tag as it is read
pub tag-by : (size flags : ℕ) (bytes : List ℕ) (tagged : Bool) → flags ≡ number_at 2 2 bytes → tagged ≡ has_bit 3 flags → then_some tagged (number_at size 8 bytes) ≡ tag_at size bytes
unfolding tag_at
tag-by size flags bytes tagged p q = rw (q, p) refl

-- fields that stand somewhere end within the bytes
pub stands-room : (place : ℕ) (fields : List Field) (bytes : List ℕ) → place ≤ length bytes → stands place fields bytes ≡ true → place + size_of fields ≤ length bytes
stands-room place fields bytes within there = le_by_cases (size_of fields) (length (drop place bytes))
    (λ few. let e = length-drop place bytes in omega arith)
    (λ short. absurd (true-not-false (begins-longer (fields_bytes fields) (drop place bytes) short) there))

-- the headers end within the bytes
pub opened-room : (kind size : ℕ) (bytes : List ℕ) → Opened kind size bytes → last_place size bytes ≤ length bytes
unfolding last_place opt_size
opened-room kind size bytes o = stands-room (opt_place size bytes) (opt_fields (opt_of size bytes)) bytes o.room o.opts

-- the optional headers, from what is computed
pub read-opt : (size flags place : ℕ) (bytes rest : List ℕ) → place ≡ opt_place size bytes → flags ≡ number_at 2 2 bytes → rest ≡ drop place bytes
    → opt_in flags rest ≡ then_some (stands (opt_place size bytes) (opt_fields (opt_of size bytes)) bytes) (opt_of size bytes, opt_size (opt_of size bytes))
read-opt size flags place bytes rest p q r = rw (r, p, q) (opening-opt size bytes)

-- headers that are not read are not there
pub opening-none : (kind size : ℕ) (bytes : List ℕ) → opening_in kind size bytes ≡ None → Opened kind size bytes → ⊥
opening-none kind size bytes none o = let e = opening-is kind size bytes o in cc

-- headers that are read are there
pub opening-some : (kind size : ℕ) (bytes : List ℕ) (found : Opening) → Some found ≡ opening_in kind size bytes
    → Opened kind size bytes × (found ≡ record { no = record { 0 = number_at 4 4 bytes }; tag = tag_at size bytes; confirm = confirm_at bytes; opt = opt_of size bytes; place = last_place size bytes })
unfolding opening_in
opening-some kind size bytes found e = let p = some-then _ _ _ (sym e) in (opened kind size bytes p.0, p.1)

-- there is room for the mandatory header
pub size-room : (kind size : ℕ) (bytes : List ℕ) → Opened kind size bytes → size ≤ length bytes
size-room kind size bytes o = let a = size-first size bytes in let b = o.room in omega arith
