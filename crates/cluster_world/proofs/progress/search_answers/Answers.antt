use Rattle.std.proofs.Common.{sym, ap, ◌∙◌, map}
use Rattle.cluster_rules.specs.Enabled.{enabled}
use Rattle.cluster_world.specs.Searching.{searched, name_of, answer_events}
use Rattle.cluster_world.proofs.Searches.{searched_place}
use Rattle.cluster_world.proofs.progress.search_answers.Goals as goal

pub loop-place-preserved : goal.loop-place-preserved
loop-place-preserved g c =
    let w = g.C.Choices.world c.args.world.now in
    c.search_answer-search.ensures ∙ ap (λ s. searched (enabled w) s (answer_events w c.answer-asker.result)) c.loop-place.invariant
    ∙ sym (searched_place (enabled w) c.args.search (answer_events w) (map name_of w.answers) c.loop-place.place c.answer-asker.result c.answer-asker.ensures)
