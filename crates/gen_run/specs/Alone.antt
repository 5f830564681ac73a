-- A simulation of a job over no file.
use Rattle.std.specs.Prelude.{◌≡◌, ℕ, List, [], None}
use Rattle.io_edge.specs.Memory.{new_view}
use Rattle.io_edge.specs.View.{Files}
use Rattle.cluster_rules.specs.World.{Job}
use Rattle.command_words.specs.declared.generate.GenWords.{GenWords}
use Rattle.command_words.specs.declared.sim.Settings.{Settings}
use Rattle.command_words.specs.declared.sim.SimWords.{SimWords}
use Rattle.job_run.specs.Plan.{Plan}
use Rattle.sim_run.specs.Jobs.{IsTextJob}
use Rattle.sim_run.specs.Simulated.{SimulatesTo}

-- what a place holds that has no file
abbrev pub no_files : Files
no_files = new_view.files

-- the number that makes the job also draws its events; the saturation and the losses that are allowed are those of a simulation whose words give none
abbrev pub settings_of : GenWords → Settings
settings_of w = record { number = w.number; workers = w.workers; threads = w.threads; saturation = 11; allowed = None }

-- a simulation with these settings, in which nothing happens by a script
pub record IsUnscripted (w : GenWords) (said : SimWords) : Type 0 where
  pub settings : said.settings ≡ settings_of w
  pub script : said.script ≡ []

-- a job that reads no file was simulated with these settings, and this came of it
pub record SimulatesAlone (p : Plan) (w : GenWords) (P : Job → List ℕ → SimWords → Type 0) : Type 0 where
  pub said : SimWords
  pub unscripted : IsUnscripted w said
  pub no_inputs : p.inputs ≡ []
  pub simulates : SimulatesTo (IsTextJob p no_files said) said P
