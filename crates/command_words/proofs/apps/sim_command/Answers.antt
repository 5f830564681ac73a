-- The words and options in their order.
use Rattle.std.proofs.Common.{◌≡◌, ◌∙◌, [], ◌∷◌, ap, ap₂, codes}
use Rattle.std.proofs.lemmas.Result.{IfOk-weaker}
use Rattle.clap.specs.Simple.{app_of, with_rule}
use Rattle.command_words.specs.Apps.{command_of, needed, sim_app, with_options}
use Rattle.command_words.proofs.apps.sim_command.Goals as goal

pub returns : goal.returns
unfolding sim_app
returns c =
    let named : app_of c.in_ok-named.named ≡ command_of (codes "sim") (needed (codes "job") ∷ []) = c.in_ok-named.ensures ∙ ap₂ with_rule c.bare_command.ensures c.needed_arg.ensures.rule in
    let numbered : app_of c.in_ok-numbered.numbered ≡ command_of (codes "sim") (needed (codes "job") ∷ needed (codes "number") ∷ []) =
    c.in_ok-numbered.ensures ∙ ap₂ with_rule named c.needed_arg-2.ensures.rule in
    IfOk-weaker c.with_settings.result _ _ (λ d h. h ∙ ap with_options numbered) c.with_settings.ensures
