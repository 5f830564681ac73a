-- How often a run by threads opens its inputs.
use Rattle.std.specs.Prelude.{◌≤◌, ◌+◌, ◌*◌, ◌++◌, ℕ, zero, suc, List, []}
use Rattle.io_edge.specs.View.{raised_by}
use Rattle.command_words.specs.Walks.{joins_in}
use Rattle.command_words.specs.declared.run.RunWords.{RunWords}
use Rattle.job_run.specs.Part.{RaisedAtMost}

-- how many worker numbers a run may have: those at its start, and one for each join of its script
abbrev pub numbers : RunWords → ℕ
numbers w = w.settings.workers + joins_in w.script

-- for how many feeds inputs are opened: one for each thread of each worker number
abbrev pub feeds : RunWords → ℕ
feeds w = numbers w * w.settings.threads

-- these names, so many times over
abbrev pub repeated : ℕ → List (List ℕ) → List (List ℕ)
repeated zero names = []
repeated (suc n) names = names ++ repeated n names

-- counts of names, each raised at least as often as its name stands in the first list, and at most as often as in the second
pub record RaisedBetween (least most : List (List ℕ)) (old new : List ℕ → ℕ) : Type 0 where
  pub at_least : (n : List ℕ) → raised_by least old n ≤ new n
  pub at_most : RaisedAtMost most old new
