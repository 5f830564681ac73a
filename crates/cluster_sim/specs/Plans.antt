-- The plan of a simulation.
use Rattle.std.specs.Prelude.{ℕ, ◌+◌, ◌≤◌, List, [], ◌∷◌}
use Rattle.cluster_msgs.specs.declared.events.Item.{Item}
use Rattle.cluster_msgs.specs.declared.events.Item.TheVariants.{Lose, Suspect, Join}
use Rattle.cluster_rules.specs.Draw.{Plan}
use Rattle.cluster_sim.specs.declared.plan.SimPlan.{SimPlan}

abbrev pub plan_of : SimPlan → Plan
plan_of p = record { workers = p.workers; threads = p.threads; script = p.script }

-- how many workers the items of a script let join
abbrev pub joins_in : List Item → ℕ
joins_in [] = 0
joins_in (Lose i at ∷ is) = joins_in is
joins_in (Suspect i at ∷ is) = joins_in is
joins_in (Join at ∷ is) = joins_in is + 1

-- a plan that can be followed: with at most 64 workers at the start and at most 64 more by the script, of 1 to 16 threads each
pub record IsPlan (p : Plan) : Type 0 where
  pub workers : p.workers ≤ 64
  pub threads : (1 ≤ p.threads) × (p.threads ≤ 16)
  pub joins : joins_in p.script ≤ 64
