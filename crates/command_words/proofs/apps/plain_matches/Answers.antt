-- The command is simple.
use Rattle.std.proofs.Common.{◌∙◌, ap}
use Rattle.clap.specs.Faults.{is_simple_and_free}
use Rattle.command_words.proofs.Taking.{plain_is_simple}
use Rattle.command_words.proofs.apps.plain_matches.Goals as goal

pub read_words-requires : goal.read_words-requires
read_words-requires c = record { simple = ap is_simple_and_free c.in_ok-plain_command.ensures ∙ plain_is_simple }
