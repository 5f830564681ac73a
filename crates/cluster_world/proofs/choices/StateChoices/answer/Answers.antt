use Rattle.std.proofs.Common.{◌<◌, ap, ◌∙◌, arith, rules, length}
use Rattle.cluster_nodes.specs.Nodes.{world_of}
use Rattle.cluster_world.proofs.choices.StateChoices.answer.Goals as goal
use Rattle.cluster_world.proofs.Telling.{named_at, answer_there}
use Rattle.std.proofs.Common.{get_or}

pub offset_bounds-as_slice-place : goal.offset_bounds-as_slice-place
offset_bounds-as_slice-place g c =
    let l = ap length c.as_slice.ensures in
    let h = answer_there c.args.self.now c.args.place c.requires.place in
    let b : c.args.place < length c.as_slice.result.now = omega (arith, l, h) in
    search (rules, b)

pub bounds-as_slice-place : goal.bounds-as_slice-place
bounds-as_slice-place g c =
    let l = ap length c.as_slice.ensures in
    let h = answer_there c.args.self.now c.args.place c.requires.place in
    omega (arith, l, h)

pub returns : goal.returns
unfolding world_of
returns g c =
    let x = c.index-as_slice-place.result in
    named_at c.args.self.now.nodes.answers c.args.place x (answer_there c.args.self.now c.args.place c.requires.place) (c.index-as_slice-place.is ∙ ap (λ l. get_or l c.args.place x) c.as_slice.ensures)
