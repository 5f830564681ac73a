use Rattle.std.proofs.Common.{sym, ap, ◌∙◌, map}
use Rattle.cluster_rules.specs.Enabled.{enabled}
use Rattle.cluster_world.specs.Searching.{searched, name_of, serve_events}
use Rattle.cluster_world.proofs.Searches.{searched_place}
use Rattle.cluster_world.proofs.progress.search_requests.Goals as goal

pub loop-place-preserved : goal.loop-place-preserved
loop-place-preserved g c =
    let w = g.C.Choices.world c.args.world.now in
    c.search_one-search.ensures ∙ ap (λ s. searched (enabled w) s (serve_events c.request-asker.result)) c.loop-place.invariant
    ∙ sym (searched_place (enabled w) c.args.search serve_events (map name_of w.requests) c.loop-place.place c.request-asker.result c.request-asker.ensures)
