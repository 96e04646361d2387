-- What a life owes to another is owed for a datagram that it took from it, or greets a life that was inserted.
use Rattle.std.proofs.Common.{◌≡◌, ℕ, true, List, [], ◌∷◌, Option, Some, inl, inr, ◌⊎◌, ◌∙◌, ap, subst}
use Rattle.rdm_lists.specs.Lists.{Member}
use Rattle.rdm_num.specs.declared.numbers.Life.{Life}
use Rattle.rdm_pkt.specs.declared.Packet.TheVariants.{Rtm}
use Rattle.rdm_match.specs.Matcher.{Pair}
use Rattle.rdm_num.specs.declared.numbers.PortNo.{PortNo}
use Rattle.rdm_hdr.specs.Fields.{has_bit}
use Rattle.rdm_model.specs.declared.job.Instr.TheVariants.{Insert}
use Rattle.rdm_model.specs.Deeds.{Deed, Did, Took, Item, Spelled, Asks}
use Rattle.rdm_model.specs.Beginnings.{Own, Messages, Heads}
use Rattle.rdm_model.specs.Matches.{pairs}
use Rattle.rdm_model.specs.Sends.{Sent, sends}
use Rattle.rdm_model.specs.Replies.{Reply, confirm_feature, greeting}
use Rattle.rdm_model.proofs.Matches.{pair_heard}
use Rattle.rdm_law.proofs.Accounts.Known.{heard_taken}
use Rattle.rdm_law.proofs.Replies.Owed.{MetBy, NewReply, OwedIn}

-- a pair's message was opened by a packet that was taken from its life
pub pair_seen : (first : ℕ) (heads : Heads) (log : List Deed) (p : Pair) → Member p (pairs first heads log) → (item : Item) × Member (Took p.message.life item) log
pair_seen first heads log p m =
    let h = pair_heard first heads log p m in
    let t = heard_taken log p.message.life p.message.no.0 h.0 h.1 in
    (Spelled (Rtm t.number t.tag t.confirm t.opt t.form), t.took)

-- a datagram of the life was taken, or it was inserted by an endpoint that can confirm, and this is its greeting with the raw address
abbrev pub IsSeen : Own → List Deed → Reply → Type 0
IsSeen own log r =
    ((item : Item) × Member (Took r.to item) log)
    ⊎ (Member (Did (Insert r.to)) log × (r.item ≡ greeting own (Some own.life.port)) × (has_bit confirm_feature own.features ≡ true))

-- so it stays
seen_still : (own : Own) (d : Deed) (before : List Deed) (r : Reply) → IsSeen own before r → IsSeen own (d ∷ before) r
seen_still own d before r (inl a) = inl (a.0, inr a.1)
seen_still own d before r (inr a) = inr (inr a.0, a.1, a.2)

-- a pair's life was taken from
of_pair : (own : Own) (heads : Heads) (log : List Deed) (p : Pair) (r : Reply) → Member p (pairs own.limits.first heads log) → p.message.life ≡ r.to → IsSeen own log r
of_pair own heads log p r m to =
    let s = pair_seen own.limits.first heads log p m in inl (s.0, subst (λ (l : Life). Member (Took l s.0) log) to s.1)

-- a life that is greeted was met
of_met : (own : Own) (d : Deed) (before : List Deed) (r : Reply) (raw : Option PortNo) → MetBy own d r.to raw → r.item ≡ greeting own raw → IsSeen own (d ∷ before) r
of_met own d before r raw (inl a) is = inl (a.0, inl a.1)
of_met own d before r raw (inr a) is = inr (inl a.0, is ∙ ap (λ (x : Option PortNo). greeting own x) a.1, a.2)

-- what a deed makes owed to a life is owed since it was seen
new_seen : (own : Own) (heads : Heads) (sents : List Sent) (d : Deed) (before : List Deed) (r : Reply) → NewReply own heads sents d before r → IsSeen own (d ∷ before) r
new_seen own heads sents d before r (inl n) = of_met own d before r n.raw n.how n.is
new_seen own heads sents d before r (inr (inl n)) = of_pair own heads (d ∷ before) n.pair r n.member n.to_is
new_seen own heads sents d before r (inr (inr (inl n))) = of_pair own heads (d ∷ before) n.pair r n.member n.to_is
new_seen own heads sents d before r (inr (inr (inr (inl n)))) = of_pair own heads (d ∷ before) n.pair r n.member n.to_is
new_seen own heads sents d before r (inr (inr (inr (inr (inl n))))) = of_pair own heads (d ∷ before) n.pair r n.member n.to_is
new_seen own heads sents d before r (inr (inr (inr (inr (inr n))))) = inl (Asks n.ask, inl n.took)

-- what is owed to a life is owed since it was seen
pub owed_seen : (own : Own) (ms : Messages) (r : Reply) (log : List Deed) → OwedIn own ms r log → IsSeen own log r
owed_seen own ms r [] h = elim h [ ]
owed_seen own ms r (d ∷ before) (inl n) = new_seen own ms.head (sends own ms before) d before r n
owed_seen own ms r (d ∷ before) (inr h) = seen_still own d before r (owed_seen own ms r before h)
