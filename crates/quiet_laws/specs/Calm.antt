-- What the measure rests on, besides schedule safety.
use Rattle.std.specs.Prelude.{◌≡◌, ℕ, ◌<◌, Bool, true, false, List, [], ◌∷◌, Option, None}
use Rattle.std.specs.List.{AllByRecursion}
use Rattle.cluster_msgs.specs.declared.messages.Down.{Down}
use Rattle.cluster_msgs.specs.declared.messages.Up.{Up}
use Rattle.cluster_rules.specs.Derived.{is_in}
use Rattle.cluster_rules.specs.Sched.{deps, holds, keys}
use Rattle.cluster_rules.specs.World.{World, is_connected}
use Rattle.pair_machine.specs.Pair.{heard, told}
use Rattle.pair_moves.specs.Projection.{note_of, report_of, at_worker}
use Rattle.safety_laws.specs.Lively.{questions}
use Rattle.quiet_measure.specs.Turns.{is_vain, NamesOthers, NamesDeps}
use Rattle.quiet_measure.specs.Asks.{AreAsks}
use Rattle.quiet_laws.specs.Old.{AreOld, AreFenced}

-- where a question of the key is under way, the scheduler will have heard by then that the worker hasn't got the block
abbrev pub AsksTruly : ℕ → ℕ → Bool × Option ℕ → List Up → Type 0
AsksTruly k f v [] = Unit {0}
AsksTruly k f v (m ∷ ms) = (questions k m ≡ true → v.0 ≡ false) × AsksTruly k f (heard f (report_of k m) v) ms

abbrev pub AreTrueQuestions : World → Type 0
AreTrueQuestions w = (i k : ℕ) → k < keys w.sched → w.alive i ≡ true → is_connected w i ≡ true → AsksTruly k (w.sched.fence i k) (holds w.sched i k, at_worker i (w.sched.on k)) (w.up i)

-- where an answer that nobody holds key k is under way, the worker will have no attempt of j by then
abbrev pub GivesUpBefore : ℕ → ℕ → Bool × Option ℕ → List Down → Type 0
GivesUpBefore k j v [] = Unit {0}
GivesUpBefore k j v (m ∷ ms) = (is_vain k m ≡ true → v.1 ≡ None) × GivesUpBefore k j (told (note_of j m) v) ms

abbrev pub AreVainInTime : World → Type 0
AreVainInTime w = (i k j : ℕ) → w.alive i ≡ true → is_connected w i ≡ true → is_in k (deps w.sched j) ≡ true
    → GivesUpBefore k j ((w.workers i).mem j, (w.workers i).mine j) (w.down i)

-- answers name others, where the worker may still hear them
abbrev pub AreOfOthers : World → Type 0
AreOfOthers w = (i : ℕ) → w.alive i ≡ true → is_connected w i ≡ true → AllByRecursion (NamesOthers i) (w.down i)

-- a task comes with a list for each of its dependencies
abbrev pub AreWhole : World → Type 0
AreWhole w = (i : ℕ) → w.alive i ≡ true → is_connected w i ≡ true → AllByRecursion (NamesDeps (deps w.sched)) (w.down i)

pub record IsCalm (w : World) : Type 0 where
  pub old : AreOld w
  pub fenced : AreFenced w.sched
  pub whole : AreWhole w
  pub asks : AreAsks w
  pub vain : AreVainInTime w
  pub others : AreOfOthers w
