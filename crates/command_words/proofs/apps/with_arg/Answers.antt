-- The command that clap gives back.
use Rattle.std.proofs.lemmas.Result.{IfOk-weaker}
use Rattle.command_words.proofs.apps.with_arg.Goals as goal

pub returns : goal.returns
returns c = IfOk-weaker c.arg.result _ _ (λ d h. h.shape c.requires.local) c.arg.ensures
