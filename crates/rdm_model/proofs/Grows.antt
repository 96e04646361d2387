-- What a log says of its messages stays as it grows.
use Rattle.std.proofs.Common.{◌≡◌, ℕ, ◌<◌, true, List, ◌∷◌, map, Option, Some, refl, arith, sym, ◌∙◌, ap, subst}
use Rattle.std.specs.Prelude.{is_some, unwrap_or}
use Rattle.std.proofs.lemmas.Bool.{and_parts}
use Rattle.rdm_lists.specs.Lists.{below, each_below}
use Rattle.rdm_num.specs.Pieces.{byte_at, covers}
use Rattle.rdm_num.specs.declared.numbers.Life.{Life}
use Rattle.rdm_num.specs.declared.head.Head.{Head}
use Rattle.rdm_match.specs.Matcher.{Pair, is_pair}
use Rattle.rdm_model.specs.Deeds.{Deed}
use Rattle.rdm_model.specs.Beginnings.{Heads}
use Rattle.rdm_model.specs.Heard.{heard_head}
use Rattle.rdm_model.specs.Matches.{pairs}
use Rattle.rdm_model.specs.Parts.{carried_pieces, has_landed}
use Rattle.rdm_model.specs.Receives.{is_filled}
use Rattle.rdm_model.specs.Local.{heads_by, bytes_by, heard_by}
use Rattle.rdm_model.proofs.Matches.{heard_still}
use Rattle.rdm_model.proofs.SameMatches.{is_pair_heard}
use Rattle.rdm_model.proofs.SameMatches.{HeadsAgree, carried_pieces_same}
use Rattle.rdm_model.proofs.SameReceives.{byte_at_more}
use Rattle.rdm_model.proofs.SameRegions.{Agree}
use Rattle.rdm_lists.proofs.Options.{some_of}
use Rattle.rdm_lists.proofs.Below.{each_below_at, map_below_same}

-- the head of a message that was heard of
pub heads_by_heard : (log : List Deed) (source : Life) (n : ℕ) (h : Head) → heard_head log source n ≡ Some h → heads_by log source n ≡ h
unfolding heads_by
heads_by_heard log source n h is = rw is refl

-- heads that were heard stay
pub heads_grow : (d : Deed) (before : List Deed) → HeadsAgree (heads_by before) (heads_by (d ∷ before)) before
heads_grow d before source n h is =
    heads_by_heard before source n h is ∙ sym (heads_by_heard (d ∷ before) source n h (heard_still d before source n h is))

-- each place of a message that was received whole has its byte
pub landed_byte : (first : ℕ) (heads : Heads) (log : List Deed) (p : Pair) (place : ℕ) → is_filled first heads log p ≡ true
    → place < (heads p.message.life p.message.no.0).length
    → (b : ℕ) × (byte_at (carried_pieces first heads log p.message.life p.message.no.0) place ≡ Some b)
unfolding is_filled has_landed covers
landed_byte first heads log p place is lt =
    let ps = carried_pieces first heads log p.message.life p.message.no.0 in
    let parts = and_parts (is_pair (pairs first heads log) p.recv.id.0 p.message.life p.message.no.0)
    (each_below (λ place. is_some (byte_at ps place)) (heads p.message.life p.message.no.0).length) is in
    some_of (byte_at ps place) (each_below_at (λ place. is_some (byte_at ps place)) (heads p.message.life p.message.no.0).length place parts.1 lt)

-- pieces that came stay
pub carried_more : (first : ℕ) (heads : Heads) (d : Deed) (before : List Deed) (source : Life) (n place b : ℕ)
    → byte_at (carried_pieces first heads before source n) place ≡ Some b → byte_at (carried_pieces first heads (d ∷ before) source n) place ≡ Some b
unfolding carried_pieces
carried_more first heads d before source n place b h = byte_at_more (carried_pieces first heads before source n) _ place b h

-- a message that fills a receive was heard of
pub filled_heard : (first : ℕ) (heads : Heads) (log : List Deed) (p : Pair) → is_filled first heads log p ≡ true
    → (h : Head) × (heard_head log p.message.life p.message.no.0 ≡ Some h)
unfolding is_filled
filled_heard first heads log p is =
    is_pair_heard first heads log p.recv.id.0 p.message.life p.message.no.0
    (and_parts (is_pair (pairs first heads log) p.recv.id.0 p.message.life p.message.no.0) (has_landed first heads log p.message.life p.message.no.0) is).0

-- a message that is put together stays so with a newer deed
bytes_at : (first : ℕ) (hs ks : Heads) (d : Deed) (before : List Deed) (p : Pair) → HeadsAgree hs ks before → is_filled first hs before p ≡ true
    → map (λ place. unwrap_or (byte_at (carried_pieces first hs before p.message.life p.message.no.0) place) 0) (below (hs p.message.life p.message.no.0).length)
    ≡ map (λ place. unwrap_or (byte_at (carried_pieces first ks (d ∷ before) p.message.life p.message.no.0) place) 0) (below (ks p.message.life p.message.no.0).length)
bytes_at first hs ks d before p a is =
    let source = p.message.life in
    let n = p.message.no.0 in
    let h = filled_heard first hs before p is in
    let same : hs source n ≡ ks source n = a source n h.0 h.1 in
    map_below_same (λ place. unwrap_or (byte_at (carried_pieces first hs before source n) place) 0)
    (λ place. unwrap_or (byte_at (carried_pieces first ks (d ∷ before) source n) place) 0) (hs source n).length
    (λ place lt.
    let b = landed_byte first hs before p place is lt in
    let then' = subst (λ ps. byte_at ps place ≡ Some b.0) (carried_pieces_same first hs ks before source n a) b.1 in
    let now = carried_more first ks d before source n place b.0 then' in
    ap (λ (o : Option ℕ). unwrap_or o 0) (b.1 ∙ sym now))
    ∙ ap (λ (x : Head). map (λ place. unwrap_or (byte_at (carried_pieces first ks (d ∷ before) source n) place) 0) (below x.length)) same

-- bytes of a message that fills a receive stay
bytes_grow : (first : ℕ) (d : Deed) (before : List Deed) (p : Pair) → is_filled first (heads_by before) before p ≡ true
    → bytes_by first before p.message.life p.message.no.0 ≡ bytes_by first (d ∷ before) p.message.life p.message.no.0
unfolding bytes_by
bytes_grow first d before p is = bytes_at first (heads_by before) (heads_by (d ∷ before)) d before p (heads_grow d before) is

-- what a log says of its messages, it says of them with a newer deed
pub agree_grows : (first : ℕ) (d : Deed) (before : List Deed) → Agree first (heard_by first before) (heard_by first (d ∷ before)) before
unfolding heard_by
agree_grows first d before = record { heads = heads_grow d before; bytes = bytes_grow first d before }
