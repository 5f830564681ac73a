-- What a simulation may begin with.
use Rattle.std.proofs.Common.{◌≡◌, ℕ, ◌≤◌, ◌<◌, true, List, [], ◌∷◌, length, refl, arith}
use Rattle.std.specs.Prelude.{nat_lt}
use Rattle.std.specs.List.{list_all}
use Rattle.std.proofs.lemmas.Bool.{ltb-true}
use Rattle.cluster_msgs.specs.declared.events.Item.{Item}
use Rattle.cluster_msgs.specs.declared.events.Item.TheVariants.{Lose, Suspect, Join}
use Rattle.cluster_rules.specs.Worker.{has_any}
use Rattle.cluster_rules.specs.Draw.{Plan}
use Rattle.cluster_sim.specs.Openings.{AreWanted}
use Rattle.cluster_sim.specs.Plans.{IsPlan, joins_in}
use Rattle.cluster_sim.proofs.EndLemmas.{all_to}

-- a script lets no more join than it has items
few_joins : (is : List Item) → joins_in is ≤ length is
few_joins [] = omega arith
few_joins (Lose w at ∷ is) = omega (arith, few_joins is)
few_joins (Suspect w at ∷ is) = omega (arith, few_joins is)
few_joins (Join at ∷ is) = omega (arith, few_joins is)

-- so a short script makes a plan
pub plan_is : (p : Plan) → p.workers ≤ 64 → 1 ≤ p.threads → p.threads ≤ 16 → length p.script ≤ 64 → IsPlan p
plan_is p workers some few short = record { workers = workers; threads = (some, few); joins = omega (arith, few_joins p.script, short) }

some_of : (ks : List ℕ) → 0 < length ks → has_any ks ≡ true
some_of [] h = absurd (omega (arith, h))
some_of (k ∷ ks) h = refl

-- keys that are all below a count, and not none
pub are_wanted : (count : ℕ) (ks : List ℕ) → 0 < length ks → list_all (λ k. nat_lt k count) ks ≡ true → AreWanted count ks
are_wanted count ks some all = record {
  some = some_of ks some;
  keys = λ k e. ltb-true k count (all_to (λ x. nat_lt x count) ks k all e);
}
