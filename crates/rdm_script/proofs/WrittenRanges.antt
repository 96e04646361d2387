-- The ranges that are read of a send fit.
use Rattle.std.proofs.Common.{◌≡◌, suc, Bool, true, false, List, [], ◌∷◌, length, codes, Result, Ok, refl, ap, if◌then◌else◌}
use Rattle.std.specs.Prelude.{nat_le}
use Rattle.std.specs.List.{list_all}
use Rattle.std.proofs.lemmas.Bool.{and_from, and_parts}
use Rattle.serde_json.specs.Data.{Data}
use Rattle.rdm_num.specs.declared.parts.Span.{Span}
use Rattle.rdm_model.specs.Jobs.{is_u64, is_within, len_max, range_fits, span_fits, spans_length, parts_fit}
use Rattle.rdm_json.specs.declared.refusal.Reason.{Reason}
use Rattle.rdm_json.specs.declared.refusal.Reason.TheVariants.{Shape, Limit}
use Rattle.rdm_json.specs.declared.value.Form.TheVariants as form
use Rattle.rdm_json.specs.Results.{tested}
use Rattle.rdm_json.specs.Values.{keys_known, known, number_of, array_of, number, array}
use Rattle.rdm_script.specs.declared.fields.Version.{Version}
use Rattle.rdm_script.specs.declared.fields.Version.TheVariants.{One, Two}
use Rattle.rdm_script.specs.declared.ranges.Written.{Written}
use Rattle.rdm_script.specs.Contents.{as_length}
use Rattle.rdm_script.specs.Ranges.{as_u32, one_written, written_in, each_written, parts_written, written_of, as_span, as_spans, as_parts}
use Rattle.rdm_json.proofs.Chains.{gave, passed, held, given}
use Rattle.rdm_script.proofs.Numbers.{number_of-fits, number-fits, as_u32-fits, as_length-fits}

-- ranges as they are written: 1 to 4, each at a number of 64 bits
pub record WrittenFit (ws : List Written) : Type 0 where
  pub count : is_within 1 4 (length ws) ≡ true
  pub places : list_all (λ (w : Written). is_u64 w.at) ws ≡ true

one_written-fits : (d : Data) (ws : List Written) → one_written d ≡ Ok ws → WrittenFit ws
unfolding is_within
one_written-fits d ws h =
    let (_, h) = passed (known form.Send d) _ ws h in
    let (region, _, h) = gave (number (codes "region") d) _ ws h in
    let (place, a, h) = gave (number (codes "at") d) _ ws h in
    let (len, _, h) = gave (number (codes "len") d) _ ws h in
    let is = given {E = Reason} (record { region = region; at = place; len = len } ∷ []) ws h in
    rw (← is) (record { count = refl; places = and_from _ _ (number-fits (codes "at") d place a) refl })

written_in-fits : (ds : List Data) (w : Written) → written_in ds ≡ Ok w → is_u64 w.at ≡ true
written_in-fits [] w h = cc
written_in-fits (region ∷ []) w h = cc
written_in-fits (region ∷ place ∷ []) w h = cc
written_in-fits (region ∷ place ∷ len ∷ []) w h =
    let (r, _, h) = gave (number_of region) _ w h in
    let (a, p, h) = gave (number_of place) _ w h in
    let (l, _, h) = gave (number_of len) _ w h in
    let is = given {E = Reason} (record { region = r; at = a; len = l }) w h in
    rw (← is) (number_of-fits place a p)
written_in-fits (region ∷ place ∷ len ∷ more ∷ ds) w h = cc

record EachFits (ds : List Data) (ws : List Written) : Type 0 where
  counted : length ws ≡ length ds
  places : list_all (λ (w : Written). is_u64 w.at) ws ≡ true

each_written-fits : (ds : List Data) (ws : List Written) → each_written ds ≡ Ok ws → EachFits ds ws
each_written-fits [] ws h = let none = given {E = Reason} [] ws h in rw (← none) (record { counted = refl; places = refl })
each_written-fits (d ∷ ds) ws h =
    let (values, _, h) = gave (array_of d) _ ws h in
    let (w, read, h) = gave (written_in values) _ ws h in
    let (more, rest, h) = gave (each_written ds) _ ws h in
    let all = given {E = Reason} (w ∷ more) ws h in
    let others = each_written-fits ds more rest in
    rw (← all) (record { counted = ap suc others.counted; places = and_from _ _ (written_in-fits values w read) others.places })

parts_written-fits : (d : Data) (ws : List Written) → parts_written d ≡ Ok ws → WrittenFit ws
parts_written-fits d ws h =
    let (values, _, h) = gave (array (codes "parts") d) _ ws h in
    let (few, h) = passed (tested Shape (is_within 1 4 (length values))) _ ws h in
    let each = each_written-fits values ws h in
    record { count = rw each.counted (held Shape _ few); places = each.places }

-- ranges that are said in one of two ways fit, where each way's do
either : (b : Bool) (r s : Result (List Written) Reason) (ws : List Written) → (r ≡ Ok ws → WrittenFit ws) → (s ≡ Ok ws → WrittenFit ws)
    → (if b then r else s) ≡ Ok ws → WrittenFit ws
either true r s ws p q h = p h
either false r s ws p q h = q h

pub written_of-fits : (version : Version) (d : Data) (ws : List Written) → written_of version d ≡ Ok ws → WrittenFit ws
written_of-fits One d ws h = one_written-fits d ws h
written_of-fits Two d ws h = either (keys_known form.SendOfParts d) _ _ ws (parts_written-fits d ws) (one_written-fits d ws) h

as_span-fits : (w : Written) (s : Span) → is_u64 w.at ≡ true → as_span w ≡ Ok s → span_fits s ≡ true
unfolding span_fits range_fits
as_span-fits w s place h =
    let (region, r, h) = gave (as_u32 w.region) _ s h in
    let (len, l, h) = gave (as_length w.len) _ s h in
    let is = given {E = Reason} (record { region = record { 0 = region }; at = w.at; len = len }) s h in
    rw (← is) (and_from _ _ (and_from _ _ (as_u32-fits w.region region r) place) (as_length-fits w.len len l))

record SpansFit (ws : List Written) (ss : List Span) : Type 0 where
  counted : length ss ≡ length ws
  fits : list_all span_fits ss ≡ true

as_spans-fits : (ws : List Written) (ss : List Span) → list_all (λ (w : Written). is_u64 w.at) ws ≡ true → as_spans ws ≡ Ok ss → SpansFit ws ss
as_spans-fits [] ss places h = let none = given {E = Reason} [] ss h in rw (← none) (record { counted = refl; fits = refl })
as_spans-fits (w ∷ ws) ss places h =
    let (s, read, h) = gave (as_span w) _ ss h in
    let (more, rest, h) = gave (as_spans ws) _ ss h in
    let all = given {E = Reason} (s ∷ more) ss h in
    let p = and_parts (is_u64 w.at) (list_all (λ (v : Written). is_u64 v.at) ws) places in
    let others = as_spans-fits ws more p.1 rest in
    rw (← all) (record { counted = ap suc others.counted; fits = and_from _ _ (as_span-fits w s p.0 read) others.fits })

pub as_parts-fits : (ws : List Written) (ss : List Span) → WrittenFit ws → as_parts ws ≡ Ok ss → parts_fit ss ≡ true
unfolding parts_fit
as_parts-fits ws ss written h =
    let (spans, read, h) = gave (as_spans ws) _ ss h in
    let (few, h) = passed (tested Limit (nat_le (spans_length spans) len_max)) _ ss h in
    let is = given {E = Reason} spans ss h in
    let fit = as_spans-fits ws spans written.places read in
    rw (← is) (and_from _ _ (and_from _ _ (rw fit.counted written.count) fit.fits) (held Limit _ few))
