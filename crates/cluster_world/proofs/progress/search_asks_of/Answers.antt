use Rattle.std.proofs.Common.{sym, ap, ◌∙◌}
use Rattle.cluster_rules.specs.Enabled.{enabled}
use Rattle.cluster_world.specs.Searching.{searched, asks_of}
use Rattle.cluster_world.proofs.Searches.{found_stays}
use Rattle.cluster_world.proofs.progress.search_asks_of.Goals as goal

pub returns-then-is_found : goal.returns-then-is_found
returns-then-is_found g c =
    let w = g.C.Choices.world c.args.world.now in
    found_stays (enabled w) c.args.search (asks_of w c.args.failing c.args.asker) (sym c.is_found.ensures ∙ c.if-is_found.true)

pub returns-then-failing : goal.returns-then-failing
returns-then-failing g c =
    let w = g.C.Choices.world c.args.world.now in
    c.search_each.ensures ∙ ap (λ b. searched (enabled w) c.args.search (asks_of w b c.args.asker)) (sym c.if-failing.true)

pub returns-else-failing : goal.returns-else-failing
returns-else-failing g c =
    let w = g.C.Choices.world c.args.world.now in
    c.search_questions.ensures ∙ ap (λ b. searched (enabled w) c.args.search (asks_of w b c.args.asker)) (sym c.if-failing.false)
