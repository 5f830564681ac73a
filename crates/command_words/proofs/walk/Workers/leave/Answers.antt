-- Who leaves is left out.
use Rattle.std.proofs.Common.{◌≡◌, ◌==◌, rules, ℕ, not}
use Rattle.std.proofs.lemmas.Fn.{filter_same}
use Rattle.std.specs.Prelude.{filter}
use Rattle.command_words.proofs.walk.Workers.leave.Goals as goal

pub returns-clause-left : goal.returns-clause-left
returns-clause-left c =
    let kept : c.retain.new.self.items ≡ filter (λ w. not (w == c.args.worker)) c.args.self.now.there.items = filter_same _ (λ (w : ℕ). not (w == c.args.worker)) _ (λ x b f' k. search rules) _ _ c.retain.ensures.filtered in
    λ j. record { there = kept j; last = c.args.self.now.last }
