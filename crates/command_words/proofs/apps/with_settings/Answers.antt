-- One option after the other.
use Rattle.std.proofs.Common.{◌≡◌, ◌∙◌, ap₂, codes, refl}
use Rattle.std.proofs.lemmas.Result.{IfOk-weaker}
use Rattle.clap.specs.Simple.{App, app_of, with_rule}
use Rattle.command_words.specs.Apps.{option}
use Rattle.command_words.proofs.Taking.{options_added}
use Rattle.command_words.proofs.apps.with_settings.Goals as goal

pub returns : goal.returns
returns c =
    let app : App = app_of c.args.command in
    let one : app_of c.in_ok-one.one ≡ with_rule app (option (codes "workers")) = c.in_ok-one.ensures ∙ ap₂ with_rule refl c.option_arg.ensures.rule in
    let two : app_of c.in_ok-two.two ≡ with_rule (with_rule app (option (codes "workers"))) (option (codes "threads")) = c.in_ok-two.ensures ∙ ap₂ with_rule one c.option_arg-2.ensures.rule in
    let three : app_of c.in_ok-three.three ≡ with_rule (with_rule (with_rule app (option (codes "workers"))) (option (codes "threads"))) (option (codes "saturation")) =
    c.in_ok-three.ensures ∙ ap₂ with_rule two c.option_arg-3.ensures.rule in
    let four : app_of c.in_ok-four.four ≡ with_rule (with_rule (with_rule (with_rule app (option (codes "workers"))) (option (codes "threads"))) (option (codes "saturation"))) (option (codes "allowed-failures")) =
    c.in_ok-four.ensures ∙ ap₂ with_rule three c.option_arg-4.ensures.rule in
    IfOk-weaker c.with_arg-5.result _ _ (λ d h. h ∙ (ap₂ with_rule four c.option_arg-5.ensures.rule ∙ options_added app)) c.with_arg-5.ensures
