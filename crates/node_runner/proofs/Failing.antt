-- Why a wanted key failed, by the key that is to blame.
use Rattle.std.proofs.Common.{◌≡◌, ◌⊎◌, inl, inr, ℕ, ◌≤◌, Bool, true, ◌||◌, List, None, sym, ◌∙◌, ⊎_elim}
use Rattle.std.proofs.lemmas.Bool.{or_cases}
use Rattle.cluster_msgs.specs.Labels.{LabelFacts, ErrorFits}
use Rattle.cluster_rules.specs.Sched.{Facts}
use Rattle.scheduler_core.specs.Killed.{IsKilled as HasLost}
use Rattle.node_runner.specs.declared.plan.RunPlan.{RunPlan}
use Rattle.node_runner.specs.declared.ends.Failure.TheVariants.{Zero, Killed}
use Rattle.node_runner.specs.Runs.{HasBlame, HasFailed, IsFailure}

-- the blame of a key, without its cause
failed_by : {B : Type 0} (l : LabelFacts B) (wanted : List ℕ) (blame : ℕ) → HasBlame l wanted blame → HasFailed l wanted blame
failed_by l wanted blame h = (h.0, h.1, h.2.below)

-- where losses aren't bounded it is a zero divisor
pub fault_where_unbounded : {B : Type 0} (l : LabelFacts B) (p : RunPlan) (f : Facts) (wanted : List ℕ) (blame : ℕ) → l.allowed ≡ p.allowed → p.allowed ≡ None → HasBlame l wanted blame → IsFailure l p wanted f (Zero blame)
fault_where_unbounded l p f wanted blame same none h = record { failed = failed_by l wanted blame h; fault = h.2.fault (same ∙ none) }

-- where it is at fault by the scheduler's core
pub fault_at : {B : Type 0} (l : LabelFacts B) (p : RunPlan) (f : Facts) (wanted : List ℕ) (blame : ℕ) → ErrorFits l blame → HasBlame l wanted blame → IsFailure l p wanted f (Zero blame)
fault_at l p f wanted blame fault h = record { failed = failed_by l wanted blame h; fault = fault }

-- where it was killed by the scheduler's core
pub killed_at : {B : Type 0} (l : LabelFacts B) (p : RunPlan) (f : Facts) (wanted : List ℕ) (blame losses : ℕ) → l.allowed ≡ p.allowed → l.allowed ≡ f.setting.allowed → HasLost f blame losses → HasBlame l wanted blame
    → IsFailure l p wanted f (Killed blame losses)
killed_at l p f wanted blame losses same own lost h = record {
  failed = failed_by l wanted blame h;
  counted = lost.counted;
  above = (lost.above.0, sym same ∙ own ∙ lost.above.1, lost.above.2);
}

-- the script takes workers away as often, or a feed had failed
pub cause_there : (n m : ℕ) (removes failed : Bool) → (removes ≡ true → n ≤ m) → (removes || failed) ≡ true → (n ≤ m) ⊎ (failed ≡ true)
cause_there n m removes failed often is = ⊎_elim (λ e. inl (often e)) (λ e. inr e) (or_cases removes failed is)
