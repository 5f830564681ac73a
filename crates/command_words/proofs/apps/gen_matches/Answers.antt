-- The command is simple.
use Rattle.std.proofs.Common.{◌∙◌, ap}
use Rattle.clap.specs.Faults.{is_simple_and_free}
use Rattle.command_words.proofs.Taking.{gen_is_simple}
use Rattle.command_words.proofs.apps.gen_matches.Goals as goal

pub read_words-requires : goal.read_words-requires
read_words-requires c = record { simple = ap is_simple_and_free c.in_ok-gen_command.ensures ∙ gen_is_simple }
