use Rattle.std.proofs.Common.{◌≡◌, ℕ, List, map, sym, ap, subst, ◌∙◌}
use Rattle.std.specs.Prelude.{eqb}
use Rattle.std.specs.List.{IsDistinct}
use Rattle.task_graph.specs.Moves.{place_now, shapes_now}
use Rattle.task_graph.specs.Orders.{ascending, position, moved_spec, inputs_of}
use Rattle.task_graph.proofs.Moving.{positions-apart}
use Rattle.task_graph.proofs.moves.moved.Goals as goal

pub to-requires-clause-once : goal.to-requires-clause-once
to-requires-clause-once c =
    subst (λ (ks : List ℕ). IsDistinct eqb ks) (sym (c.in_ok-keys.ensures ∙ ap (map (position c.args.numbers.now.order)) c.as_slice.ensures))
    (positions-apart c.args.numbers.now.order c.args.task.deps c.requires.kept c.requires.once)

pub returns : goal.returns
returns c =
    let all : c.in_ok-change.change ≡ map (position c.args.numbers.now.order) c.args.task.deps = c.in_ok-change.ensures ∙ c.in_ok-keys.ensures ∙ ap (map (position c.args.numbers.now.order)) c.as_slice.ensures in
    let s : c.spec-spec.result ≡ moved_spec (place_now (map (position c.args.numbers.now.order) c.args.task.deps)) (shapes_now (map (position c.args.numbers.now.order) c.args.task.deps) (inputs_of c.args.task.spec)) c.args.task.spec =
    c.spec-spec.ensures
    ∙ ap (λ (shapes : List (List ℕ)). moved_spec (place_now c.in_ok-change.change) shapes c.args.task.spec) c.in_ok-shapes.ensures
    ∙ ap (λ (ks : List ℕ). moved_spec (place_now ks) (shapes_now ks (inputs_of c.args.task.spec)) c.args.task.spec) all in
    let d : c.into_deps.result ≡ ascending (map (position c.args.numbers.now.order) c.args.task.deps) = c.into_deps.ensures ∙ ap ascending all in
    λ i. record { spec = s i; deps = d i; work = c.args.task.work; nbytes = c.args.task.nbytes }
