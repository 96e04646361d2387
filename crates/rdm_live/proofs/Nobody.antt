-- How no live receive is kept.
use Rattle.std.proofs.Common.{◌≡◌, refl, ℕ, zero, suc, None}
use Rattle.std.specs.FinMap as map
use Rattle.std.proofs.lemmas.List.{length-replicate}
use Rattle.rdm_window.specs.Early.{message_order, key_of}
use Rattle.rdm_matched.specs.Matches.{nothing_matched}
use Rattle.rdm_pool.specs.Numbered as pool
use Rattle.rdm_slots.specs.Places as slots
use Rattle.rdm_receives.specs.View.{ReceiveView}
use Rattle.rdm_live.specs.Kept.{IsKept}

-- empty places have no value
none_held : (size : ℕ) → slots.held (slots.nothing_put {T = ReceiveView} size) ≡ 0
none_held zero = refl
none_held (suc size) = none_held size

-- without receives all is kept
pub nobody_kept : (size : ℕ) → IsKept (pool.nothing_put size) (slots.nothing_put size) nothing_matched 0
nobody_kept size =
    record {
      stand = λ e m. elim m [ ];
      apart = λ d e m. elim m [ ];
      all = none_held size;
      enough = length-replicate size None;
      each = λ r m. elim m [ ];
      known = λ source number. map.get-empty message_order (key_of source number);
      once = λ q r source number m. elim m [ ];
      rooms = refl;
    }
