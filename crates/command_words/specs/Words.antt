-- The words of a run, of a simulation, of a plain evaluation, and of a job that a number makes.
use Rattle.std.specs.Prelude.{◌≡◌, ◌<◌, ◌≤◌, ◌-◌, ◌*◌, ◌^◌, ℕ, List, [], Option, Some, None, codes, length, slice_index_or, string_bytes}
use Rattle.cluster_msgs.specs.declared.events.Item.{Item}
use Rattle.command_words.specs.Apps.{run_app, sim_app, plain_app, gen_app}
use Rattle.command_words.specs.Given.{IsTaken, HasBound, HasFlag, HasNumber, text_of}
use Rattle.command_words.specs.Numbers.{IsNumber}
use Rattle.command_words.specs.Scripts.{IsScript}
use Rattle.command_words.specs.Walks.{IsWalk}
use Rattle.command_words.specs.declared.settings.RunSettings.{RunSettings}
use Rattle.command_words.specs.declared.run.RunWords.{RunWords}
use Rattle.command_words.specs.declared.sim.Settings.{Settings}
use Rattle.command_words.specs.declared.sim.SimWords.{SimWords}
use Rattle.command_words.specs.declared.plain.PlainWords.{PlainWords}
use Rattle.command_words.specs.declared.generate.GenWords.{GenWords}
use Rattle.command_words.specs.declared.fail.WordsFail.{WordsFail}
use Rattle.command_words.specs.declared.fail.WordsFail.TheVariants.{Refused, OutOfMemory}

-- ## What the commands have in common

-- `--workers` of 1 to 64 (else 4), `--threads` of 1 to 16 (else 2), `--saturation` of 1 to 1000 (else 11), `--allowed-failures` of 0 to 1000 (else they
-- aren't bounded), in the texts that are given to these names
pub record HasSettings (given : List ℕ → Option (List ℕ)) (s : RunSettings) : Type 0 where
  pub workers : HasNumber (given (codes "workers")) 1 64 4 s.workers
  pub threads : HasNumber (given (codes "threads")) 1 16 2 s.threads
  pub saturation : HasNumber (given (codes "saturation")) 1 1000 11 s.saturation
  pub allowed : HasBound (given (codes "allowed-failures")) 1000 s.allowed

-- the script that is given, or the empty one
abbrev pub HasScript : Option (List ℕ) → List Item → Type 0
HasScript (Some text) items = IsScript text items
HasScript None items = items ≡ []

-- the script can be followed from this many workers of this many threads each
pub record HasWalk (given : List ℕ → Option (List ℕ)) (workers threads : ℕ) (items : List Item) : Type 0 where
  pub script : HasScript (given (codes "script")) items
  pub walk : IsWalk workers threads items

-- why no script was read: none is given that can be followed, from any workers or from these
abbrev pub IsNotGiven : Option (List ℕ) → WordsFail → Type 0
IsNotGiven given Refused = (items : List Item) → HasScript given items → 1000 < length items
IsNotGiven given OutOfMemory = Unit {0}

abbrev pub HasNoWalk : (List ℕ → Option (List ℕ)) → ℕ → ℕ → WordsFail → Type 0
HasNoWalk given workers threads Refused = (items : List Item) → ¬ HasWalk given workers threads items
HasNoWalk given workers threads OutOfMemory = Unit {0}

-- ## A run

-- `--transport inproc`, or none
abbrev pub HasTransport : Option (List ℕ) → Type 0
HasTransport (Some text) = text ≡ codes "inproc"
HasTransport None = Unit {0}

-- the texts that are given to the names say this run, with a script that can be followed
pub record SaysRun (given : List ℕ → Option (List ℕ)) (s : RunWords) : Type 0 where
  pub job : given (codes "job") ≡ Some (string_bytes s.job)
  pub settings : HasSettings given s.settings
  pub memory : HasNumber (given (codes "memory")) 1 (2 ^ 40) (2 ^ 28) s.memory
  pub transport : HasTransport (given (codes "transport"))
  pub report : HasFlag (given (codes "report")) s.report
  pub script : HasScript (given (codes "script")) s.script
  pub walk : IsWalk s.settings.workers s.settings.threads s.script

-- `run JOB` and options
pub record IsRun (words : List (List ℕ)) (s : RunWords) : Type 0 where
  pub command : slice_index_or words 0 [] ≡ codes "run"
  pub takes : IsTaken run_app words
  pub says : SaysRun (text_of run_app words) s

-- why no run was read
abbrev pub IsNoRun : List (List ℕ) → WordsFail → Type 0
IsNoRun words Refused = (s : RunWords) → ¬ IsRun words s
IsNoRun words OutOfMemory = Unit {0}

abbrev pub SaysNoRun : (List ℕ → Option (List ℕ)) → WordsFail → Type 0
SaysNoRun given Refused = (s : RunWords) → ¬ SaysRun given s
SaysNoRun given OutOfMemory = Unit {0}

-- settings of a run that can be followed: 1 to 64 workers of 1 to 16 threads each at the start, with at most 64 threads together, and a script that leaves
-- always workers, and never too many
pub record AreRunSettings (s : RunWords) : Type 0 where
  pub workers : (1 ≤ s.settings.workers) × (s.settings.workers ≤ 64)
  pub threads : (1 ≤ s.settings.threads) × (s.settings.threads ≤ 16)
  pub saturation : (1 ≤ s.settings.saturation) × (s.settings.saturation ≤ 1000)
  pub all_threads : s.settings.workers * s.settings.threads ≤ 64
  pub walk : IsWalk s.settings.workers s.settings.threads s.script

-- ## A simulation

-- the generator's number that is given
abbrev pub HasSeed : Option (List ℕ) → ℕ → Type 0
HasSeed (Some text) n = IsNumber 0 (2 ^ 64 - 1) text n
HasSeed None n = ⊥

-- NUMBER, `--workers`, `--threads`, `--saturation` and `--allowed-failures`
pub record IsSettings (given : List ℕ → Option (List ℕ)) (s : Settings) : Type 0 where
  pub number : HasSeed (given (codes "number")) s.number
  pub workers : HasNumber (given (codes "workers")) 1 64 4 s.workers
  pub threads : HasNumber (given (codes "threads")) 1 16 2 s.threads
  pub saturation : HasNumber (given (codes "saturation")) 1 1000 11 s.saturation
  pub allowed : HasBound (given (codes "allowed-failures")) 1000 s.allowed

-- the texts that are given to the names say this simulation, with a script that can be followed
pub record SaysSim (given : List ℕ → Option (List ℕ)) (s : SimWords) : Type 0 where
  pub job : given (codes "job") ≡ Some (string_bytes s.job)
  pub settings : IsSettings given s.settings
  pub script : HasScript (given (codes "script")) s.script
  pub walk : IsWalk s.settings.workers s.settings.threads s.script

-- `sim JOB NUMBER` and options
pub record IsSim (words : List (List ℕ)) (s : SimWords) : Type 0 where
  pub command : slice_index_or words 0 [] ≡ codes "sim"
  pub takes : IsTaken sim_app words
  pub says : SaysSim (text_of sim_app words) s

-- why no simulation was read
abbrev pub IsWhy : List (List ℕ) → WordsFail → Type 0
IsWhy words Refused = (s : SimWords) → ¬ IsSim words s
IsWhy words OutOfMemory = Unit {0}

abbrev pub SaysNoSim : (List ℕ → Option (List ℕ)) → WordsFail → Type 0
SaysNoSim given Refused = (s : SimWords) → ¬ SaysSim given s
SaysNoSim given OutOfMemory = Unit {0}

-- ## A plain evaluation

-- `plain JOB`
pub record IsPlain (words : List (List ℕ)) (s : PlainWords) : Type 0 where
  pub command : slice_index_or words 0 [] ≡ codes "plain"
  pub takes : IsTaken plain_app words
  pub job : text_of plain_app words (codes "job") ≡ Some (string_bytes s.job)

-- why no plain evaluation was read
abbrev pub IsNoPlain : List (List ℕ) → WordsFail → Type 0
IsNoPlain words Refused = (s : PlainWords) → ¬ IsPlain words s
IsNoPlain words OutOfMemory = Unit {0}

-- ## A job that a number makes

-- NUMBER, `--workers` and `--threads`
pub record HasGenNumbers (given : List ℕ → Option (List ℕ)) (s : GenWords) : Type 0 where
  pub number : HasSeed (given (codes "number")) s.number
  pub workers : HasNumber (given (codes "workers")) 1 64 4 s.workers
  pub threads : HasNumber (given (codes "threads")) 1 16 2 s.threads

-- the texts that are given to the names say these numbers, with not too many threads
pub record SaysGen (given : List ℕ → Option (List ℕ)) (s : GenWords) : Type 0 where
  pub numbers : HasGenNumbers given s
  pub all_threads : s.workers * s.threads ≤ 64

-- `gen NUMBER` and options
pub record IsGen (words : List (List ℕ)) (s : GenWords) : Type 0 where
  pub command : slice_index_or words 0 [] ≡ codes "gen"
  pub takes : IsTaken gen_app words
  pub says : SaysGen (text_of gen_app words) s

-- why no number was read
abbrev pub IsNoGen : List (List ℕ) → WordsFail → Type 0
IsNoGen words Refused = (s : GenWords) → ¬ IsGen words s
IsNoGen words OutOfMemory = Unit {0}

abbrev pub SaysNoGen : (List ℕ → Option (List ℕ)) → WordsFail → Type 0
SaysNoGen given Refused = (s : GenWords) → ¬ SaysGen given s
SaysNoGen given OutOfMemory = Unit {0}

-- settings of such a simulation that can be followed: 1 to 64 workers of 1 to 16 threads each, with at most 64 threads together
pub record AreGenSettings (s : GenWords) : Type 0 where
  pub workers : (1 ≤ s.workers) × (s.workers ≤ 64)
  pub threads : (1 ≤ s.threads) × (s.threads ≤ 16)
  pub walk : IsWalk s.workers s.threads []

-- ## One command at most

-- two runs with the same job, settings, memory, script and report
pub record SameRun (a b : RunWords) : Type 0 where
  pub job : string_bytes a.job ≡ string_bytes b.job
  pub settings : a.settings ≡ b.settings
  pub memory : a.memory ≡ b.memory
  pub script : a.script ≡ b.script
  pub report : a.report ≡ b.report

pub record SameSim (a b : SimWords) : Type 0 where
  pub job : string_bytes a.job ≡ string_bytes b.job
  pub settings : a.settings ≡ b.settings
  pub script : a.script ≡ b.script
