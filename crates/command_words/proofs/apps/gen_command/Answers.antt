-- The word and the options in their order.
use Rattle.std.proofs.Common.{◌≡◌, ◌∙◌, [], ◌∷◌, ap₂, codes}
use Rattle.std.proofs.lemmas.Result.{IfOk-weaker}
use Rattle.clap.specs.Simple.{app_of, with_rule}
use Rattle.command_words.specs.Apps.{command_of, gen_app, needed, option}
use Rattle.command_words.proofs.apps.gen_command.Goals as goal

pub returns : goal.returns
unfolding gen_app
returns c =
    let numbered : app_of c.in_ok-numbered.numbered ≡ command_of (codes "gen") (needed (codes "number") ∷ []) = c.in_ok-numbered.ensures ∙ ap₂ with_rule c.bare_command.ensures c.needed_arg.ensures.rule in
    let manned : app_of c.in_ok-manned.manned ≡ command_of (codes "gen") (needed (codes "number") ∷ option (codes "workers") ∷ []) =
    c.in_ok-manned.ensures ∙ ap₂ with_rule numbered c.option_arg.ensures.rule in
    IfOk-weaker c.with_arg-3.result _ _ (λ d h. h ∙ ap₂ with_rule manned c.option_arg-2.ensures.rule) c.with_arg-3.ensures
