-- The commands, as `clap` has them: each is simple, without subcommands, and without flags for help and version.
use Rattle.std.specs.Prelude.{ℕ, true, List, [], ◌∷◌, ◌++◌, Some, codes}
use Rattle.clap.specs.Walk.{Rule}
use Rattle.clap.specs.Simple.{App, new_rule, new_shape}
use Rattle.clap.specs.declared.builder.action.ArgAction.TheVariants.{SetTrue}

-- a positional word that has to stand there
abbrev pub needed : List ℕ → Rule
needed name = record (new_rule name) { required = true }

-- `--NAME VALUE` or `--NAME=VALUE`
abbrev pub option : List ℕ → Rule
option name = record (new_rule name) { long = Some name }

-- `--NAME`
abbrev pub flag : List ℕ → Rule
flag name = record (new_rule name) { long = Some name; action = Some SetTrue }

-- the command with this name, these positional words, in their order, and these options
abbrev pub command_of : List ℕ → List Rule → App
command_of name rules = record {
  top = record (new_shape name) { rules = rules; disable_help_flag = true; disable_version_flag = true };
  subs = [];
}

-- the options that runs and simulations have
abbrev pub settings : List Rule
settings = option (codes "workers") ∷ option (codes "threads") ∷ option (codes "saturation") ∷ option (codes "allowed-failures") ∷ option (codes "script") ∷ []

abbrev pub with_options : App → App
with_options app = record app { top = record app.top { rules = app.top.rules ++ settings } }

-- `run JOB` with options
unfoldable pub run_app : App
run_app = command_of (codes "run") (needed (codes "job") ∷ settings ++ option (codes "memory") ∷ option (codes "transport") ∷ flag (codes "report") ∷ [])

-- `sim JOB NUMBER` with options
unfoldable pub sim_app : App
sim_app = command_of (codes "sim") (needed (codes "job") ∷ needed (codes "number") ∷ settings)

-- `gen NUMBER` with options
unfoldable pub gen_app : App
gen_app = command_of (codes "gen") (needed (codes "number") ∷ option (codes "workers") ∷ option (codes "threads") ∷ [])

-- `plain JOB`
unfoldable pub plain_app : App
plain_app = command_of (codes "plain") (needed (codes "job") ∷ [])
