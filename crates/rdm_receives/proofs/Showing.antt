-- A receive that is new, met or filled shows what the record makes of it.
use Rattle.std.proofs.Common.{◌≡◌, ℕ, ◌+◌, ◌-◌, ◌<◌, ◌≤◌, ◌⊎◌, inl, inr, Bool, true, false, ◌||◌, List, [], length, get_or, map, Option, Some, None, refl, sym, ap, subst, ◌∙◌, arith}
use Rattle.std.specs.Prelude.{slice_get, is_some}
use Rattle.std.proofs.lemmas.List.{length-map, get_or-map, get_or_default}
use Rattle.std.proofs.lemmas.Bool.{le-ltb}
use Rattle.std.proofs.lemmas.Option.{slice_get-get_or}
use Rattle.rdm_num.specs.Pieces.{Piece, byte_in}
use Rattle.rdm_num.specs.declared.request.RecvReq.{RecvReq}
use Rattle.rdm_model.proofs.Rows.{byte_in_before, byte_in_after}
use Rattle.rdm_mr.proofs.Overlays.{by_range}
use Rattle.rdm_land.proofs.Came.{came_in, came_out}
use Rattle.rdm_land.specs.Arrivals.{waits}
use Rattle.rdm_land.specs.Landed.{Landed, with_bytes}
use Rattle.rdm_gaps.specs.Places.{AreMissing}
use Rattle.rdm_land.specs.Spans.{have}
use Rattle.rdm_land.proofs.SetRanges.{set_out}
use Rattle.rdm_num.specs.declared.numbers.OpId.{OpId}
use Rattle.rdm_rx.specs.Receiving.{ReceivingView}
use Rattle.rdm_life.specs.Kept.{LiveReceive, Matched}
use Rattle.rdm_life.specs.Landing.{with_message, with_piece}
use Rattle.rdm_receives.specs.View.{ReceiveView, IsOfMessage, with_room, filled}
use Rattle.rdm_receives.specs.Shows.{Shows, ShowMatch}
use Rattle.rdm_receives.specs.Laws.{NewShows, MessageShows, RoomShows, FillShows}
use Rattle.rdm_receives.proofs.Laying.{over_some, over_none, filled_in, filled_out}
use Rattle.rdm_receives.proofs.Coming.{show_more, show_same, no_byte, a_byte, by_test, came_before, come_more}

pub new_shows : NewShows
new_shows number named req piece receive part n q f long same =
    record {
      number = n;
      req = q;
      named = f;
      cells = λ k lt free. get_or-map Some piece.bytes k 0 None (omega (arith, long)) ∙ ap Some (sym (same k lt));
      matched = tt;
    }

-- how long the range is
range_is : (r : ReceiveView) (l : LiveReceive) → length r.landed.tiles.cells ≡ r.req.len → r.req ≡ l.receive.req → length r.landed.tiles.cells ≡ l.receive.req.len
range_is r l e q = e ∙ ap (λ (x : RecvReq). x.len) q

-- nothing waits where there is no message
pub none_waits : (l : Landed) (number : OpId) (o : Option ReceivingView) → o ≡ None → IsOfMessage number l o → (k : ℕ) → waits l k ≡ false
none_waits l number None e m k = ap (λ s. have k s || get_or l.missing k false) m.1 ∙ ap (λ s. get_or s k false) m.0
none_waits l number (Some x) e m k = absurd (cc)

pub message_shows : MessageShows
unfolding with_message
message_shows r l p head gaps bytes first_part e is waiting s long early =
    record {
      number = s.number;
      req = s.req;
      named = s.named;
      cells = λ k lt free. (
          let cells = r.landed.tiles.cells in
          let size = range_is r l is.places s.req in
          by_test gaps.places k
          (λ none.
          came_out k gaps.places bytes cells none ∙ s.cells k lt (none_waits r.landed r.number r.message waiting is.message k)
          ∙ ap Some (sym (over_none l.receive.req.len e.came l.part k (early.came k ∙ no_byte gaps.places bytes k none))))
          (λ some.
          let b = a_byte gaps.places bytes k long some in
          let has : get_or gaps.places k false ≡ false = get_or_default gaps.places k false true b.0 ∙ some in
          came_in k gaps.places bytes cells b.0 (omega (arith, long, b.0)) (omega (arith, lt, is.places)) has
          ∙ ap Some (sym (over_some l.receive.req.len e.came l.part k (get_or bytes k 0) (omega (arith, lt, is.places, size)) (early.came k ∙ b.1)))));
      matched = record {
        source = refl;
        number = refl;
        head = early.head_is;
        granted = early.first_is;
        came = λ k. ap is_some (early.came k) ∙ came_before gaps.places bytes k long;
      };
    }

pub room_shows : RoomShows
room_shows r l s = record { number = s.number; req = s.req; named = s.named; cells = s.cells; matched = show_same r.landed ((with_room r).landed) (λ k. refl) r.message l.matched s.matched }

-- the places that a piece has, and others
byte_has : (at : ℕ) (bytes : List ℕ) (k : ℕ) → at ≤ k → k < at + length bytes → byte_in (record { offset = at; bytes = bytes }) k ≡ Some (get_or bytes (k - at) 0)
unfolding byte_in
byte_has at bytes k p q = rw (le-ltb k at p) (slice_get-get_or bytes (k - at) 0 (omega arith))

byte_lacks : (at : ℕ) (bytes : List ℕ) (k : ℕ) → (k < at) ⊎ (at + length bytes ≤ k) → byte_in (record { offset = at; bytes = bytes }) k ≡ None
byte_lacks at bytes k (inl p) = byte_in_before (record { offset = at; bytes = bytes }) k p
byte_lacks at bytes k (inr p) = byte_in_after (record { offset = at; bytes = bytes }) k p

-- bytes that came, whatever the room
pub bytes_come : (r : ReceiveView) (l : LiveReceive) (at : ℕ) (bytes : List ℕ) → length r.landed.tiles.cells ≡ r.req.len
    → ((k : ℕ) → have k r.landed.lent ≡ true → get_or r.landed.missing k false ≡ false) → Shows r l → AreMissing at (length bytes) r.landed.missing
    → Shows (record r { landed = with_bytes r.landed at bytes }) (with_piece (record { offset = at; bytes = bytes }) l)
bytes_come r l at bytes places taken s m =
    record {
      number = s.number;
      req = s.req;
      named = s.named;
      cells = λ k lt free. (
          let cells = r.landed.tiles.cells in
          let size = range_is r l places s.req in
          let piece : Piece = record { offset = at; bytes = bytes } in
          by_range at (length bytes) k
          (λ p q.
          filled_in at bytes cells k p q (omega (arith, lt, places))
          ∙ ap Some (sym (over_some l.receive.req.len (byte_in piece) l.part k (get_or bytes (k - at) 0) (omega (arith, lt, places, size)) (byte_has at bytes k p q))))
          (λ o.
          filled_out at bytes cells k (omega (arith, lt, places)) o
          ∙ s.cells k lt (ap (λ b. have k r.landed.lent || b) (sym (set_out false at (length bytes) r.landed.missing m.0 k o)) ∙ free)
          ∙ ap Some (sym (over_none l.receive.req.len (byte_in piece) l.part k (byte_lacks at bytes k o)))));
      matched = show_more r.landed _ _ r.message l.matched (λ v x t. record {
        source = t.source;
        number = t.number;
        head = t.head;
        granted = t.granted;
        came = λ k. come_more r.landed.missing r.landed.lent taken at bytes m k (x.came k) (t.came k);
      }) s.matched;
    }

pub fill_shows : FillShows
fill_shows r l at bytes is s m =
    let b = bytes_come r l at bytes is.places is.agrees.taken s m in
    record {
      number = b.number;
      req = b.req;
      named = b.named;
      cells = b.cells;
      matched = show_same (with_bytes r.landed at bytes) ((filled r at bytes).landed) (λ k. refl) r.message _ b.matched;
    }
