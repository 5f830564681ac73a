-- The one word.
use Rattle.std.proofs.Common.{ap₂, ◌∙◌}
use Rattle.std.proofs.lemmas.Result.{IfOk-weaker}
use Rattle.clap.specs.Simple.{with_rule}
use Rattle.command_words.specs.Apps.{plain_app}
use Rattle.command_words.proofs.apps.plain_command.Goals as goal

pub returns : goal.returns
unfolding plain_app
returns c = IfOk-weaker c.with_arg.result _ _ (λ d h. h ∙ ap₂ with_rule c.bare_command.ensures c.needed_arg.ensures.rule) c.with_arg.ensures
