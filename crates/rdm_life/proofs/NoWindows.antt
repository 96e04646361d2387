-- No window is open after the deeds of a life.
use Rattle.std.proofs.Common.{◌≡◌, ℕ, ◌+◌, Bool, true, false, cond, ◌&&◌, List, refl}
use Rattle.std.proofs.lemmas.Bool.{and_parts}
use Rattle.rdm_num.specs.Pieces.{covers}
use Rattle.rdm_match.specs.Matcher.{is_pair}
use Rattle.rdm_model.specs.Deeds.{Deed}
use Rattle.rdm_model.specs.Beginnings.{Own}
use Rattle.rdm_model.specs.Grants.{first_part, window_of, window, granted_bytes}
use Rattle.rdm_model.specs.Parts.{carried_pieces}
use Rattle.rdm_law.proofs.Lives.Lives.{LifeLocal}
use Rattle.rdm_life.specs.Keeps.{told, own_pairs}
use Rattle.rdm_life.proofs.Owing.{NoWindows}
use Rattle.rdm_life.proofs.Windows.{no_window}

-- each window is granted by the deed that opens it
pub no_windows : (own : Own) (log : List Deed) → LifeLocal own log → NoWindows own log
unfolding window
no_windows own log local p m =
    let heads = (told own log).head in
    let source = p.message.life in
    let n = p.message.no.0 in
    let so_far : ℕ = first_part log source n + granted_bytes own.limits heads log p in
    let paired : Bool = is_pair (own_pairs own log) p.recv.id.0 source n in
    let all : Bool = covers (carried_pieces own.limits.first heads log source n) so_far in
    let w : ℕ = window_of own.limits (heads source n) (heads source n).shape so_far in
    (elim (paired && all) as (λ b. (paired && all) ≡ b → cond b w 0 ≡ 0) [
      | false ↦ λ e. refl
      | true ↦ λ e. no_window own log p local m (and_parts paired all e).1
    ]) refl
