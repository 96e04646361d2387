-- Deeds that make pairs or bring bytes, as what is kept follows them: the pairs of which something came, and what is kept once the
-- bytes landed, before windows open and receives fill. These statements part the proofs of one such deed.
use Rattle.std.proofs.Common.{◌≡◌, ℕ, ◌+◌, Bool, true, false, List, [], ◌∷◌, ◌++◌, map, None, ◌⊎◌}
use Rattle.std.specs.Prelude.{if◌then◌else◌, nat_lt, option_map, unwrap_or}
use Rattle.std.specs.List.{list_any}
use Rattle.rdm_lists.specs.Lists.{Member}
use Rattle.rdm_pkt.specs.declared.Packet.TheVariants.{Rtm, CtsData}
use Rattle.rdm_match.specs.Matcher.{Pair}
use Rattle.rdm_model.specs.declared.job.Instr.TheVariants.{Recv}
use Rattle.rdm_model.specs.Beginnings.{Own}
use Rattle.rdm_model.specs.Deeds.{Deed, Did, Took, Spelled, Gives}
use Rattle.rdm_model.specs.Grants.{first_part, granted_bytes}
use Rattle.rdm_model.specs.Matches.{Receive, receives, received_by}
use Rattle.rdm_life.specs.Kept.{Kept, LiveReceive, Matched}
use Rattle.rdm_life.specs.Keeps.{told, own_pairs, own_live_receives, region_byte, pair_of, matched_of, byte_of_pair}
use Rattle.rdm_life.specs.Memory.{is_place_of}
use Rattle.rdm_life.proofs.Made.{made}
use Rattle.rdm_life.proofs.Owing.{BringsNone}

-- a receive that is posted, a packet that opens a message, and bytes that were granted or asked for
abbrev pub IsLanding : Deed → Type 0
IsLanding (Did (Recv req)) = Unit {0}
IsLanding (Took from (Spelled (Rtm number tag confirm opt form))) = Unit {0}
IsLanding (Took from (Spelled (CtsData recv offset connid bytes))) = Unit {0}
IsLanding (Took from (Gives g)) = Unit {0}
IsLanding _ = ⊥

-- the receives whose ranges are out while a deed is handled: those that were live, and the one that it accepts
abbrev pub out_with : Own → Deed → List Deed → List Receive
out_with own d log = own_live_receives own log ++ received_by (receives log) log d

-- the message of a pair as far as it came with a deed, with what was granted before it
abbrev pub landed_message : Own → Deed → List Deed → Pair → Matched
landed_message own d log p =
    record (matched_of own (d ∷ log) p) { granted = first_part (d ∷ log) p.message.life p.message.no.0 + granted_bytes own.limits (told own log).head log p }

-- a receive with the bytes that came with a deed, before a window opens or it is filled
abbrev pub landed_receive : Own → Deed → List Deed → Receive → LiveReceive
landed_receive own d log r =
    record {
      receive = r;
      part = λ k. if nat_lt k r.req.len
          then unwrap_or (byte_of_pair own (d ∷ log) (pair_of own (d ∷ log) r) k) (unwrap_or (region_byte own log r.req.region.0 (r.req.at + k)) 0)
          else 0;
      matched = option_map (landed_message own d log) (pair_of own (d ∷ log) r);
    }

-- the numbers of the receives of pairs
abbrev pub numbers_of : List Pair → List ℕ
numbers_of ps = map (λ (p : Pair). p.recv.id.0) ps

-- the pairs of which a deed brings something: all that it makes, or one that was there where it makes none
pub record Touches (own : Own) (d : Deed) (log : List Deed) (is_new : Bool) (ps : List Pair) : Type 0 where
  pub are_out : (p : Pair) → Member p ps → (r : Receive) × Member r (out_with own d log) × (r.number ≡ p.recv.id.0)
  pub others_quiet : (p : Pair) → Member p (own_pairs own log) → (Member p ps → ⊥) → BringsNone own d log p
  pub which : ((is_new ≡ true) × (ps ≡ made own d log)) ⊎ ((is_new ≡ false) × (made own d log ≡ []) × ((p : Pair) × (ps ≡ p ∷ []) × Member p (own_pairs own log)))

-- what is kept of receives and memory once the bytes landed
pub record Landed (own : Own) (d : Deed) (log : List Deed) (u : Kept) : Type 0 where
  pub own_is : u.own ≡ own
  pub home_is : (region place : ℕ) → u.home region place ≡ (if list_any (λ (r : Receive). is_place_of r.req region place) (out_with own d log) then None else region_byte own log region place)
  pub receives_are : u.receives ≡ map (landed_receive own d log) (out_with own d log)
