-- What the code of a step did with datagrams is what its contract says.
use Rattle.std.proofs.Common.{◌≡◌, ℕ, ◌<◌, ◌≤◌, true, false, List, [], ◌∷◌, ◌++◌, inl, inr, Option, refl, ap, ◌∙◌, sym, subst}
use Rattle.std.specs.Prelude.{max}
use Rattle.std.proofs.lemmas.List.{append-nil}
use Rattle.rdm_wire.specs.declared.Datagram.{Datagram}
use Rattle.rdm_wire.specs.Accounts.{Account}
use Rattle.rdm_model.specs.declared.entry.Entry.{Entry}
use Rattle.rdm_model.specs.declared.answer.Handled.{Handled}
use Rattle.rdm_model.specs.declared.answer.Handled.TheVariants.{Took, Dropped, AgainEarly, AgainCopy, Empty, Worn, Memory}
use Rattle.rdm_port.specs.Views.{PortView}
use Rattle.rdm_port.specs.Handles.{is_handling}
use Rattle.rdm_port.specs.Movings.{Logs, MovesNone, LogsNone, FetchMoves, TakesOut, AnswerMoves, HandleMoves}
use Rattle.rdm_port.specs.Kept.{Kept, IsKept}
use Rattle.rdm_port.specs.Machine.{MachineHandles}
use Rattle.rdm_port.proofs.HandleCases.{no_entry_stays}
use Rattle.rdm_port.proofs.HandleEnds.{few}

-- the log has one entry more
pub logs_one : (entry : Entry) (before between after : List Entry) → between ≡ before → after ≡ entry ∷ between → Logs before after entry.act
logs_one entry before between after b l = record { entry = entry; longer = l ∙ ap (λ (es : List Entry). entry ∷ es) b; act_is = refl }

-- one that moves no datagram
pub logs_none : (entry : Entry) (before between after : List Entry) → between ≡ before → after ≡ entry ∷ between → MovesNone entry.act → LogsNone before after
logs_none entry before between after b l none = inr (entry.act, none, logs_one entry before between after b l)

-- an answer that is no entry leaves log and stash
pub stay_moves : (v : PortView) (k n : Kept) (before after : List Entry) (stash : List Datagram) (d : Datagram) (answer : Handled) → IsKept v k
    → max k.clock d.stamp.0 < 9223372036854775807 → (k.to_other ≤ 9223372036854775807 → k.from_other ≤ 9223372036854775807 → MachineHandles k n d answer)
    → is_handling answer ≡ false → after ≡ before → AnswerMoves before after stash stash answer
stay_moves v k n before after stash d answer h m a t e =
    let f = few v k d h m in
    let r = no_entry_stays k n d answer (a f.0 f.1) t in
    let P : Handled → Type 0 = λ x. AnswerMoves before after stash stash x in
    elim r.1 [ inl wants ↦ subst P (sym wants) (e, refl) | inr waits ↦ subst P (sym waits.0) (e, refl) ]

-- an answer that is an entry moves its datagram
pub go_moves : (before after : List Entry) (stash left : List Datagram) (answer : Handled) → is_handling answer ≡ true → TakesOut before after stash left answer
    → AnswerMoves before after stash left answer
unfolding is_handling
go_moves before after stash left (Took entered) h t = t
go_moves before after stash left (Dropped class') h t = t
go_moves before after stash left AgainEarly h t = cc
go_moves before after stash left AgainCopy h t = cc
go_moves before after stash left Empty h t = cc
go_moves before after stash left Worn h t = cc
go_moves before after stash left Memory h t = cc

-- memory was wanted for the stash
pub wants_moves : (v : PortView) (stash : List Datagram) (told : Option Account) (counted : ℕ) → stash ≡ v.stash
    → HandleMoves v (record v { stash = stash }) Memory told told counted counted
wants_moves v stash told counted e = record { got = []; fetched = inr (refl, refl, refl, refl); answered = (refl, e ∙ sym (append-nil v.stash)) }

-- the port fetched, and then answered
pub handled_moves : (ports : ℕ) (v : PortView) (log : List Entry) (stash left got : List Datagram) (answer : Handled) (told now : Option Account) (counted count : ℕ)
    → ports ≡ v.ports → stash ≡ v.stash ++ got → FetchMoves ports v.number v.inbox got told now counted count → AnswerMoves v.log log stash left answer
    → HandleMoves v (record v { log = log; stash = left }) answer told now counted count
handled_moves ports v log stash left got answer told now counted count p s f a = record {
  got = got;
  fetched = inl (subst (λ (n : ℕ). FetchMoves n v.number v.inbox got told now counted count) p f);
  answered = subst (λ (ds : List Datagram). AnswerMoves v.log log ds left answer) s a;
}
