-- The limits of a rank fit where those of its job do.
use Rattle.std.proofs.Common.{◌≡◌, ◌==◌, ℕ, true, codes, Option, Ok, refl}
use Rattle.std.proofs.lemmas.Bool.{and_from, and_parts, eq-eqb}
use Rattle.serde_json.specs.Data.{Data}
use Rattle.rdm_num.specs.declared.limits.EpLimits.{EpLimits}
use Rattle.rdm_model.specs.Jobs.{limits_fit, differ_in_pools}
use Rattle.rdm_json.specs.declared.refusal.Reason.{Reason}
use Rattle.rdm_json.specs.Values.{found_at}
use Rattle.rdm_script.specs.Fields.{pool_size}
use Rattle.rdm_script.specs.Programs.{own_limits}
use Rattle.rdm_json.proofs.Chains.{gave, given}
use Rattle.rdm_script.proofs.Numbers.{number_in-fits}

-- a rank's limits are the job's but for their pools, and fit
pub record OwnFit (limits own : EpLimits) : Type 0 where
  pub differ : differ_in_pools limits own ≡ true
  pub fits : limits_fit own ≡ true

same_number : (n : ℕ) → (n == n) ≡ true
same_number n = eq-eqb n n refl

pub own_limits-fit : (limits : EpLimits) (pools : Option Data) (own : EpLimits) → limits_fit limits ≡ true → own_limits limits pools ≡ Ok own → OwnFit limits own
unfolding limits_fit differ_in_pools
own_limits-fit limits pools own fair h =
    let (tx, a, h) = gave (pool_size limits.tx (found_at (codes "tx") pools)) _ own h in
    let (rx, b, h) = gave (pool_size limits.rx (found_at (codes "rx") pools)) _ own h in
    let (early, c, h) = gave (pool_size limits.early (found_at (codes "early") pools)) _ own h in
    let (cq, e, h) = gave (pool_size limits.cq (found_at (codes "cq") pools)) _ own h in
    let is = given {E = Reason} (record limits { tx = tx; rx = rx; early = early; cq = cq }) own h in
    let f = and_parts _ _ (and_parts _ _ (and_parts _ _ (and_parts _ _ fair).0).0).0 in
    rw (← is)
    (record {
      differ = and_from _ _ (and_from _ _ (and_from _ _ (and_from _ _ (and_from _ _ (same_number limits.mtu) (same_number limits.medium)) (same_number limits.read_limit)) (same_number limits.runt)) (same_number limits.credits)) (same_number limits.first);
      fits =
          and_from _ _
          (and_from _ _ (and_from _ _ (and_from _ _ f.0 (number_in-fits 1 65536 limits.tx (found_at (codes "tx") pools) tx a)) (number_in-fits 1 65536 limits.rx (found_at (codes "rx") pools) rx b)) (number_in-fits 1 65536 limits.early (found_at (codes "early") pools) early c))
          (number_in-fits 1 65536 limits.cq (found_at (codes "cq") pools) cq e);
    })
