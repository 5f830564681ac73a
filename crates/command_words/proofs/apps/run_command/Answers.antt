-- The words and options in their order.
use Rattle.std.proofs.Common.{◌≡◌, ◌∙◌, [], ◌∷◌, ap, ap₂, codes}
use Rattle.std.proofs.lemmas.Result.{IfOk-weaker}
use Rattle.clap.specs.Simple.{app_of, with_rule}
use Rattle.command_words.specs.Apps.{command_of, needed, option, run_app, with_options}
use Rattle.command_words.proofs.apps.run_command.Goals as goal

pub returns : goal.returns
unfolding run_app
returns c =
    let named : app_of c.in_ok-named.named ≡ command_of (codes "run") (needed (codes "job") ∷ []) = c.in_ok-named.ensures ∙ ap₂ with_rule c.bare_command.ensures c.needed_arg.ensures.rule in
    let set : app_of c.in_ok-set.set ≡ with_options (command_of (codes "run") (needed (codes "job") ∷ [])) = c.in_ok-set.ensures ∙ ap with_options named in
    let bounded : app_of c.in_ok-bounded.bounded ≡ with_rule (with_options (command_of (codes "run") (needed (codes "job") ∷ []))) (option (codes "memory")) =
    c.in_ok-bounded.ensures ∙ ap₂ with_rule set c.option_arg.ensures.rule in
    let linked : app_of c.in_ok-linked.linked ≡ with_rule (with_rule (with_options (command_of (codes "run") (needed (codes "job") ∷ []))) (option (codes "memory"))) (option (codes "transport")) =
    c.in_ok-linked.ensures ∙ ap₂ with_rule bounded c.option_arg-2.ensures.rule in
    IfOk-weaker c.with_arg-4.result _ _ (λ d h. h ∙ ap₂ with_rule linked c.flag_arg.ensures.rule) c.with_arg-4.ensures
