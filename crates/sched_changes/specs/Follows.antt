-- What any number of changes of a table leave.
use Rattle.std.specs.Prelude.{◌≡◌, ℕ, true, List}
use Rattle.cluster_rules.specs.Derived.{is_in}
use Rattle.key_sets.specs.Sets.{has}
use Rattle.task_table.specs.Tasks.{Tasks, facts, IsTouched}

-- the setting stays; each key whose derived facts may differ is touched, touched keys stay so, and what was so before is remembered
pub record Follows (s t : Tasks) : Type 0 where
  pub setting : (facts t).setting ≡ (facts s).setting
  pub touched : IsTouched (facts s) (facts t) s t

-- each of these keys is touched
abbrev pub AreTouched : Tasks → List ℕ → Type 0
AreTouched t ks = (k : ℕ) → is_in k ks ≡ true → has t.touched k ≡ true
