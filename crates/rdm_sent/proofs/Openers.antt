-- The openings of a live send are those of the record's message.
use Rattle.std.proofs.Common.{◌≡◌, true, false, List, [], ◌∷◌, refl, sym, ap, ◌∙◌}
use Rattle.rdm_num.specs.declared.limits.EpLimits.{EpLimits}
use Rattle.rdm_num.specs.declared.lists.IovEntry.{IovEntry}
use Rattle.rdm_pkt.specs.declared.Kind.{Kind}
use Rattle.rdm_pkt.specs.declared.Kind.TheVariants.{Eager, Medium, LongCts, LongRead, Runt}
use Rattle.rdm_pkt.specs.Openings as Openings
use Rattle.rdm_pkt.specs.Openings.{openings}
use Rattle.rdm_model.specs.Dues.{is_read}
use Rattle.rdm_model.specs.Sends.{Sent}
use Rattle.rdm_model.specs.Targets.{is_long}
use Rattle.rdm_tx.specs.Sends.{opened}
use Rattle.rdm_tx.specs.declared.message.Message.{Message}
use Rattle.rdm_sends.specs.Beginning.{some_range}
use Rattle.rdm_sent.specs.Shows.{IsMessage}

-- a list that has a range is kept as it is
pub some_is : (es : List IovEntry) → (es ≡ [] → ⊥) → some_range es ≡ es
unfolding some_range
some_is [] h = absurd (h refl)
some_is (e ∷ es) h = refl

-- a packet that has the whole message has no read list
eager_same : (limits : EpLimits) (n : Openings.Message) (iov : List IovEntry) → openings limits (record n { iov = iov }) Eager ≡ openings limits n Eager
unfolding openings
eager_same limits n iov = refl

-- the openings are the same where an empty range stands for no range
ranged_same : (limits : EpLimits) (n : Openings.Message) (kind : Kind) (es : List IovEntry) → n.iov ≡ es → (es ≡ [] → kind ≡ Eager)
    → openings limits (record n { iov = some_range es }) kind ≡ openings limits n kind
unfolding some_range
ranged_same limits n kind [] e w =
    let k : kind ≡ Eager = w refl in
    ap (openings limits (record n { iov = some_range [] })) k ∙ eager_same limits n (some_range []) ∙ sym (ap (openings limits n) k)
ranged_same limits n kind (x ∷ xs) e w = ap (λ (i : List IovEntry). openings limits (record n { iov = i }) kind) (sym e)

-- the openings are those of the record's message
pub openings_same : (limits : EpLimits) (m : Message) (s : Sent) → IsMessage m s → openings limits (opened m s.message.bytes) m.kind ≡ openings limits s.message s.kind
openings_same limits m s i =
    let o : opened m s.message.bytes ≡ record s.message { iov = some_range s.message.iov } = cc (i.no, i.tag, i.confirm, i.opt, i.send_id, i.iov) in
    ap (λ (n : Openings.Message). openings limits n m.kind) o
    ∙ ap (openings limits (record s.message { iov = some_range s.message.iov })) i.kind
    ∙ ranged_same limits s.message s.kind s.message.iov refl i.whole

-- what is read is not granted
pub read_not_long : (k : Kind) → is_read k ≡ true → is_long k ≡ false
unfolding is_read is_long
read_not_long Eager h = refl
read_not_long Medium h = refl
read_not_long LongCts h = cc
read_not_long LongRead h = refl
read_not_long (Runt n) h = refl

-- what is granted is not read
pub long_not_read : is_read LongCts ≡ false
unfolding is_read
long_not_read = refl

-- and is long
pub long_is : is_long LongCts ≡ true
unfolding is_long
long_is = refl

-- what goes whole is not read
pub eager_not_read : is_read Eager ≡ false
unfolding is_read
eager_not_read = refl
