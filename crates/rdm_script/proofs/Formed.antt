-- The job of a well formed script is fair.
use Rattle.std.proofs.Common.{◌≡◌, ◌≤◌, ℕ, suc, ◌+◌, true, List, [], ◌∷◌, length, codes, Option, Some, None, Result, Ok, refl, ap, arith}
use Rattle.std.specs.Prelude.{nat_lt, ◌^◌}
use Rattle.std.specs.List.{list_all}
use Rattle.std.proofs.lemmas.Bool.{and_from, and_parts, leb-true, le-leb, lt-ltb}
use Rattle.serde_json.specs.Data.{Data}
use Rattle.serde_json.specs.Find.{get}
use Rattle.rdm_num.specs.declared.limits.EpLimits.{EpLimits}
use Rattle.rdm_model.specs.declared.job.Rank.{Rank}
use Rattle.rdm_model.specs.Jobs.{is_within, is_u32, limits_fit, rank_fits, choices_fit, is_fair, law_ops}
use Rattle.rdm_json.specs.declared.place.FieldName.{FieldName}
use Rattle.rdm_json.specs.declared.place.FieldName.TheVariants as field
use Rattle.rdm_json.specs.declared.place.Place.TheVariants as place
use Rattle.rdm_json.specs.declared.refusal.BadScript.{BadScript}
use Rattle.rdm_json.specs.declared.refusal.Reason.{Reason}
use Rattle.rdm_json.specs.declared.refusal.Reason.TheVariants.{Shape, Limit}
use Rattle.rdm_script.specs.declared.fields.Version.{Version}
use Rattle.rdm_script.specs.declared.fields.Protocol.{Protocol}
use Rattle.rdm_script.specs.declared.fields.PoolSizes.{PoolSizes}
use Rattle.rdm_json.specs.Results.{◌>>=◌, present, placed}
use Rattle.rdm_json.specs.Values.{array_of, found_at}
use Rattle.rdm_script.specs.Fields.{number_field, protocol_of, pools_known, pools_of, counted, ranks_field, choices_in, choices_field, version_of}
use Rattle.rdm_script.specs.Programs.{rank_of, ranks_of}
use Rattle.rdm_script.specs.Choices.{choices_of}
use Rattle.rdm_script.specs.Script.{limits_of, programs_of}
use Rattle.rdm_script.specs.Laws.{FormedAreFair}
use Rattle.rdm_json.proofs.Chains.{gave, passed, unplaced, tested_value, given}
use Rattle.rdm_script.proofs.Numbers.{number_in-fits}
use Rattle.rdm_script.proofs.Lives.{rank_of-fits}
use Rattle.rdm_script.proofs.Picks.{choices_of-fits}

-- a field gave a number in its range, and the rest what the whole gave
field_gave : {B : Type 0} (name : FieldName) (least greatest default : ℕ) (found : Option Data) (next : ℕ → Result B BadScript) (y : B)
    → (number_field name least greatest default found >>= next) ≡ Ok y → (n : ℕ) × (is_within least greatest n ≡ true) × (next n ≡ Ok y)
field_gave name least greatest default found next y h =
    let (n, read, h) = gave (number_field name least greatest default found) next y h in
    (n, number_in-fits least greatest default found n (unplaced _ _ n read), h)

record ProtocolFits (p : Protocol) : Type 0 where
  mtu : is_within 256 8192 p.mtu ≡ true
  medium : is_within 0 4294967295 p.medium ≡ true
  read_limit : is_within 1 4294967295 p.read_limit ≡ true
  runt : is_within 0 4294967295 p.runt ≡ true
  credits : is_within 1 65535 p.credits ≡ true
  first : is_within 0 4294967295 p.first ≡ true
  clock : is_within 0 9223372036854775807 p.clock ≡ true

protocol_of-fits : (script : Data) (p : Protocol) → protocol_of script ≡ Ok p → ProtocolFits p
protocol_of-fits script p h =
    let (mtu, a, h) = field_gave field.Mtu 256 8192 8192 (get (codes "mtu") script) _ p h in
    let (medium, b, h) = field_gave field.Medium 0 4294967295 65536 (get (codes "medium") script) _ p h in
    let (read_limit, c, h) = field_gave field.Read 1 4294967295 1048576 (get (codes "read") script) _ p h in
    let (runt, d, h) = field_gave field.Runt 0 4294967295 0 (get (codes "runt") script) _ p h in
    let (credits, e, h) = field_gave field.Credits 1 65535 32 (get (codes "credits") script) _ p h in
    let (first, f, h) = field_gave field.First 0 4294967295 0 (get (codes "first") script) _ p h in
    let (clock, g, h) = field_gave field.Clock 0 9223372036854775807 0 (get (codes "clock") script) _ p h in
    let is = given {E = BadScript} (record { mtu = mtu; medium = medium; read_limit = read_limit; runt = runt; credits = credits; first = first; clock = clock }) p h in
    rw (← is)
    (record {
      mtu = a;
      medium = b;
      read_limit = c;
      runt = d;
      credits = e;
      first = f;
      clock = g;
    })

record PoolsFit (s : PoolSizes) : Type 0 where
  tx : is_within 1 65536 s.tx ≡ true
  rx : is_within 1 65536 s.rx ≡ true
  early : is_within 1 65536 s.early ≡ true
  cq : is_within 1 65536 s.cq ≡ true
  inbox : is_within 1 65536 s.inbox ≡ true

pools_of-fits : (pools : Option Data) (s : PoolSizes) → pools_of pools ≡ Ok s → PoolsFit s
pools_of-fits pools s h =
    let (_, h) = passed (placed (place.Field field.Pools) (pools_known pools)) _ s h in
    let (tx, a, h) = field_gave field.PoolTx 1 65536 64 (found_at (codes "tx") pools) _ s h in
    let (rx, b, h) = field_gave field.PoolRx 1 65536 64 (found_at (codes "rx") pools) _ s h in
    let (early, c, h) = field_gave field.PoolEarly 1 65536 64 (found_at (codes "early") pools) _ s h in
    let (cq, d, h) = field_gave field.PoolCq 1 65536 128 (found_at (codes "cq") pools) _ s h in
    let (inbox, e, h) = field_gave field.PoolInbox 1 65536 256 (found_at (codes "inbox") pools) _ s h in
    let is = given {E = BadScript} (record { tx = tx; rx = rx; early = early; cq = cq; inbox = inbox }) s h in
    rw (← is)
    (record {
      tx = a;
      rx = b;
      early = c;
      cq = d;
      inbox = e;
    })

u32 : (n : ℕ) → is_within 0 4294967295 n ≡ true → is_u32 n ≡ true
unfolding is_within
u32 n h = lt-ltb _ _ (omega (arith, leb-true n 4294967295 (and_parts _ _ h).1))

below_63 : (n : ℕ) → is_within 0 9223372036854775807 n ≡ true → nat_lt n (2 ^ 63) ≡ true
unfolding is_within
below_63 n h = lt-ltb _ _ (omega (arith, leb-true n 9223372036854775807 (and_parts _ _ h).1))

limits_of-fits : (p : Protocol) (s : PoolSizes) → ProtocolFits p → PoolsFit s → limits_fit (limits_of p s) ≡ true
unfolding limits_fit
limits_of-fits p s a b =
    and_from _ _
    (and_from _ _
    (and_from _ _
    (and_from _ _
    (and_from _ _ (and_from _ _ (and_from _ _ (and_from _ _ (and_from _ _ a.mtu (u32 _ a.medium)) a.read_limit) (u32 _ a.runt)) a.credits) (u32 _ a.first))
    b.tx)
    b.rx)
    b.early)
    b.cq

counted-fits : (least greatest : ℕ) (d : Data) (ds : List Data) → counted least greatest d ≡ Ok ds → is_within least greatest (length ds) ≡ true
counted-fits least greatest d ds h =
    let (es, _, h) = gave (array_of d) _ ds h in
    tested_value Limit (λ (es : List Data). is_within least greatest (length es)) es ds h

ranks_field-fits : (script : Data) (ds : List Data) → ranks_field script ≡ Ok ds → is_within 1 16 (length ds) ≡ true
ranks_field-fits script ds h = let (d, _, h) = gave (present Shape (get (codes "ranks") script)) _ ds (unplaced _ _ ds h) in counted-fits 1 16 d ds h

choices_in-fits : (found : Option Data) (ds : List Data) → choices_in found ≡ Ok ds → length ds ≤ 1000000
unfolding is_within
choices_in-fits None ds h = let is = given {E = Reason} [] ds h in rw (← is) (omega arith)
choices_in-fits (Some d) ds h = leb-true _ _ (and_parts _ _ (counted-fits 0 1000000 d ds h)).1

record RanksFit (limits : EpLimits) (ports : ℕ) (ds : List Data) (rs : List Rank) : Type 0 where
  count : length rs ≡ length ds
  fits : list_all (rank_fits limits ports law_ops) rs ≡ true

ranks_of-fits : (version : Version) (limits : EpLimits) (rank ports : ℕ) (ds : List Data) (rs : List Rank) → limits_fit limits ≡ true → ranks_of version limits rank ports ds ≡ Ok rs
    → RanksFit limits ports ds rs
ranks_of-fits version limits rank ports [] rs fair h = let none = given {E = BadScript} [] rs h in rw (← none) (record { count = refl; fits = refl })
ranks_of-fits version limits rank ports (d ∷ ds) rs fair h =
    let (r, read, h) = gave (rank_of version limits rank ports d) _ rs h in
    let (more, rest, h) = gave (ranks_of version limits (rank + 1) ports ds) _ rs h in
    let all = given {E = BadScript} (r ∷ more) rs h in
    let others = ranks_of-fits version limits (rank + 1) ports ds more fair rest in
    rw (← all) (record { count = ap suc others.count; fits = and_from _ _ (rank_of-fits version limits rank ports d r fair read) others.fits })

programs_of-fits : (version : Version) (limits : EpLimits) (ds : List Data) (rs : List Rank) → limits_fit limits ≡ true → programs_of version limits ds ≡ Ok rs → RanksFit limits (length ds) ds rs
programs_of-fits version limits ds rs fair h =
    let (ss, read, h) = gave (ranks_of version limits 0 (length ds) ds) _ rs h in
    let (_, h) = passed (placed place.Whole _) _ rs h in
    let same = given {E = BadScript} ss rs h in
    rw (← same) (ranks_of-fits version limits 0 (length ds) ds ss fair read)

pub formed_are_fair : FormedAreFair
unfolding is_fair choices_fit
formed_are_fair script job h =
    let (version, _, h) = gave (version_of script) _ job h in
    let (protocol, p, h) = gave (protocol_of script) _ job h in
    let (pools, s, h) = gave (pools_of (get (codes "pools") script)) _ job h in
    let (values, v, h) = gave (ranks_field script) _ job h in
    let (picks, k, h) = gave (choices_field script) _ job h in
    let (ranks, r, h) = gave (programs_of version (limits_of protocol pools) values) _ job h in
    let (choices, c, h) = gave (choices_of 0 (length values) picks) _ job h in
    let is = given {E = BadScript} (record { limits = limits_of protocol pools; inbox = pools.inbox; clock = protocol.clock; ranks = ranks; choices = choices }) job h in
    let a = protocol_of-fits script protocol p in
    let b = pools_of-fits (get (codes "pools") script) pools s in
    let fair = limits_of-fits protocol pools a b in
    let fit = programs_of-fits version (limits_of protocol pools) values ranks fair r in
    let chosen = choices_of-fits 0 (length values) picks choices c in
    let few = choices_in-fits (get (codes "choices") script) picks (unplaced _ _ picks k) in
    rw (← is, fit.count)
    (and_from _ _
    (and_from _ _ (and_from _ _ (and_from _ _ (and_from _ _ fair b.inbox) (below_63 _ a.clock)) (ranks_field-fits script values v)) fit.fits)
    (and_from _ _ (le-leb _ _ (omega (arith, few, chosen.count))) chosen.fits))
