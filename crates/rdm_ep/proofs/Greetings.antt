-- Of eager deeds: nothing is owed but handshakes.
use Rattle.std.proofs.Common.{◌≡◌, ℕ, Bool, true, false, cond, not, List, [], ◌∷◌, ◌++◌, map, refl, ap, ◌∙◌}
use Rattle.std.specs.Prelude.{◌&&◌, filter}
use Rattle.std.specs.List.{list_any}
use Rattle.std.proofs.lemmas.List.{append-nil}
use Rattle.rdm_lists.specs.Lists.{Member}
use Rattle.rdm_num.specs.Lives.{same_life}
use Rattle.rdm_num.specs.declared.numbers.Life.{Life}
use Rattle.rdm_num.specs.declared.numbers.OpId.{OpId}
use Rattle.rdm_num.specs.declared.numbers.MsgNo.{MsgNo}
use Rattle.rdm_num.specs.declared.head.Head.{Head}
use Rattle.rdm_num.specs.declared.head.Shape.{Shape}
use Rattle.rdm_num.specs.declared.head.Shape.TheVariants as S
use Rattle.rdm_match.specs.Matcher.{Pair, is_pair}
use Rattle.rdm_model.specs.Deeds.{Deed, Took, Asks}
use Rattle.rdm_model.specs.Beginnings.{Own}
use Rattle.rdm_model.specs.Matches.{pairs}
use Rattle.rdm_model.specs.Receives.{is_filled}
use Rattle.rdm_model.specs.Sends.{Sent}
use Rattle.rdm_model.specs.Grants.{window, granted_bytes}
use Rattle.rdm_model.specs.Replies.{Reply, reply, handshake_by, asks_for, grant_for, receipt_for, end_for, pair_items, pair_replies, given_by, replies_by, without_lives, without_forgotten}
use Rattle.rdm_model.specs.Local.{heads_by}
use Rattle.rdm_model.proofs.Matches.{pair_heard}
use Rattle.rdm_model.proofs.Grows.{heads_by_heard}
use Rattle.rdm_ep.specs.Eager.{IsEagerDeed, IsEager}
use Rattle.rdm_ep.proofs.Currents.{forgotten_none}
use Rattle.rdm_ep.proofs.Told.{heard_came}
use Rattle.rdm_lists.proofs.Same.{flat_map_none}
use Rattle.rdm_lists.proofs.Filters.{filter_all}

-- nothing is asked for, granted, ended or confirmed for a message in one packet that asks for no receipt
nothing_owed : (own : Own) (b c : Bool) (shape : Shape) (confirm : Bool) (number : MsgNo) (recv : OpId) (size : ℕ) → shape ≡ S.Eager → confirm ≡ false
    → cond b (map Asks (asks_for shape recv)) [] ++ grant_for own shape recv size ++ cond c (end_for own shape confirm number recv) [] ≡ []
unfolding asks_for grant_for end_for receipt_for
nothing_owed own true true shape confirm number recv size e f = rw (e, f) refl
nothing_owed own true false shape confirm number recv size e f = rw e refl
nothing_owed own false true shape confirm number recv size e f = rw (e, f) refl
nothing_owed own false false shape confirm number recv size e f = rw e refl

-- a pair of eager deeds owes nothing
pub pair_owes_nothing : (own : Own) (d : Deed) (before : List Deed) (p : Pair) → IsEager own (d ∷ before)
    → Member p (pairs own.limits.first (heads_by (d ∷ before)) (d ∷ before)) → pair_replies own (heads_by (d ∷ before)) d before p ≡ []
unfolding pair_replies pair_items
pair_owes_nothing own d before p h m =
    let first = own.limits.first in
    let heads = heads_by (d ∷ before) in
    let x = pair_heard first heads (d ∷ before) p m in
    let is : heads p.message.life p.message.no.0 ≡ x.0 = heads_by_heard (d ∷ before) p.message.life p.message.no.0 x.0 x.1 in
    let c = heard_came own heads (d ∷ before) p.message.life p.message.no.0 x.0 h x.1 in
    ap (map (reply p.message.life))
    (nothing_owed own (not (is_pair (pairs first heads before) p.recv.id.0 p.message.life p.message.no.0))
    (is_filled first heads (d ∷ before) p && not (is_filled first heads before p))
    (heads p.message.life p.message.no.0).shape (heads p.message.life p.message.no.0).confirm p.message.no (record { 0 = p.recv.id.0 })
    (window own.limits heads (d ∷ before) p (granted_bytes own.limits heads before p))
    (ap (λ (y : Head). y.shape) is ∙ c.is_eager) (ap (λ (y : Head). y.confirm) is ∙ c.unconfirmed))

-- an eager deed asks for no bytes of a send
given_none : (own : Own) (before : List Deed) (sents : List Sent) (d : Deed) → IsEagerDeed own before d → given_by sents d ≡ []
unfolding given_by
given_none own before sents (Took from (Asks ask)) h = elim h [ ]
given_none own before sents _ h = refl

-- an eager deed makes a handshake owed, and nothing else
pub replies_are : (own : Own) (sents : List Sent) (d : Deed) (before : List Deed) → IsEager own (d ∷ before)
    → replies_by own (heads_by (d ∷ before)) sents d before ≡ handshake_by own before d
unfolding replies_by
replies_are own sents d before h =
    let heads = heads_by (d ∷ before) in
    let f = flat_map_none (pair_replies own heads d before) (pairs own.limits.first heads (d ∷ before)) (λ p m. pair_owes_nothing own d before p h m) in
    let g = given_none own before sents d h.1 in
    rw (f, g) (append-nil (handshake_by own before d ++ []) ∙ append-nil (handshake_by own before d))

-- an eager deed takes back nothing that is owed
pub none_taken_back : (own : Own) (before : List Deed) (d : Deed) (rs : List Reply) → IsEagerDeed own before d → without_forgotten before d rs ≡ rs
unfolding without_forgotten without_lives
none_taken_back own before d rs h =
    ap (λ (lives : List Life). filter (λ (r : Reply). not (list_any (same_life r.to) lives)) rs) (forgotten_none own before d h)
    ∙ filter_all (λ (r : Reply). not (list_any (same_life r.to) [])) rs (λ r m. refl)
