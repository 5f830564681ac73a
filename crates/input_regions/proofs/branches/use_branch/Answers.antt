use Rattle.std.proofs.Common.{◌-◌, ◌<◌, ◌∙◌, ℕ, List, [], ◌∷◌, length, get_or, set, ap, sym, subst, arith}
use Rattle.std.proofs.lemmas.List.{length-take-le, length-set}
use Rattle.array_expr.specs.Node.{shape_at}
use Rattle.input_regions.specs.Needed.{region_at}
use Rattle.input_regions.specs.Uses.{IsInBranch}
use Rattle.input_regions.specs.Widening.{CanHave, IsUsed}
use Rattle.input_regions.proofs.Between.{from-to-first, from-to-lengths}
use Rattle.input_regions.proofs.Widened.{fit-full, widens-fit}
use Rattle.input_regions.proofs.Joins.{branch-facts, node-have, branch-none, branch-used, branch-in, element}
use Rattle.input_regions.proofs.branches.use_branch.Goals as goal

pub offset_bounds-dims_of-axis : goal.offset_bounds-dims_of-axis
offset_bounds-dims_of-axis c =
    let f = branch-facts c.args.nodes.now c.args.needs.now c.args.of.now c.args.axis c.args.branch c.index-of-branch.result c.args.first.now c.args.last.now c.requires.can c.requires.inside c.requires.order c.requires.there c.index-of-branch.is in
    omega (arith, f.axis_first, f.few_first)

pub offset_bounds-first-axis : goal.offset_bounds-first-axis
offset_bounds-first-axis c =
    let f = branch-facts c.args.nodes.now c.args.needs.now c.args.of.now c.args.axis c.args.branch c.index-of-branch.result c.args.first.now c.args.last.now c.requires.can c.requires.inside c.requires.order c.requires.there c.index-of-branch.is in
    omega (arith, f.axis_first, f.few_first)

pub offset_bounds-last-axis : goal.offset_bounds-last-axis
offset_bounds-last-axis c =
    let f = branch-facts c.args.nodes.now c.args.needs.now c.args.of.now c.args.axis c.args.branch c.index-of-branch.result c.args.first.now c.args.last.now c.requires.can c.requires.inside c.requires.order c.requires.there c.index-of-branch.is in
    omega (arith, f.axis_first, f.few_first)

pub bounds-dims_of-axis : goal.bounds-dims_of-axis
bounds-dims_of-axis c =
    let f = branch-facts c.args.nodes.now c.args.needs.now c.args.of.now c.args.axis c.args.branch c.index-of-branch.result c.args.first.now c.args.last.now c.requires.can c.requires.inside c.requires.order c.requires.there c.index-of-branch.is in
    subst (λ (ns : List ℕ). c.args.axis < length ns) (sym c.dims_of.ensures.value) f.dims

pub bounds-first-axis : goal.bounds-first-axis
bounds-first-axis c =
    let f = branch-facts c.args.nodes.now c.args.needs.now c.args.of.now c.args.axis c.args.branch c.index-of-branch.result c.args.first.now c.args.last.now c.requires.can c.requires.inside c.requires.order c.requires.there c.index-of-branch.is in
    f.axis_first

pub bounds-last-axis : goal.bounds-last-axis
bounds-last-axis c =
    let f = branch-facts c.args.nodes.now c.args.needs.now c.args.of.now c.args.axis c.args.branch c.index-of-branch.result c.args.first.now c.args.last.now c.requires.can c.requires.inside c.requires.order c.requires.there c.index-of-branch.is in
    f.axis_last

pub overflow_add-last : goal.overflow_add-last
overflow_add-last c =
    let f = branch-facts c.args.nodes.now c.args.needs.now c.args.of.now c.args.axis c.args.branch c.index-of-branch.result c.args.first.now c.args.last.now c.requires.can c.requires.inside c.requires.order c.requires.there c.index-of-branch.is in
    omega (arith, f.small)

pub overflow_add-before : goal.overflow_add-before
overflow_add-before c =
    let f = branch-facts c.args.nodes.now c.args.needs.now c.args.of.now c.args.axis c.args.branch c.index-of-branch.result c.args.first.now c.args.last.now c.requires.can c.requires.inside c.requires.order c.requires.there c.index-of-branch.is in
    omega (arith, f.sum, c.requires.before, ap (λ ns. get_or ns c.args.axis 0) c.dims_of.ensures.value)

pub slice_bounds-first_room-end : goal.slice_bounds-first_room-end
slice_bounds-first_room-end c =
    let f = branch-facts c.args.nodes.now c.args.needs.now c.args.of.now c.args.axis c.args.branch c.index-of-branch.result c.args.first.now c.args.last.now c.requires.can c.requires.inside c.requires.order c.requires.there c.index-of-branch.is in
    f.few_first

pub slice_bounds-low-end : goal.slice_bounds-low-end
slice_bounds-low-end c =
    let f = branch-facts c.args.nodes.now c.args.needs.now c.args.of.now c.args.axis c.args.branch c.index-of-branch.result c.args.first.now c.args.last.now c.requires.can c.requires.inside c.requires.order c.requires.there c.index-of-branch.is in
    let room : List ℕ = 0 ∷ 0 ∷ 0 ∷ 0 ∷ 0 ∷ 0 ∷ 0 ∷ 0 ∷ [] in
    sym (length-take-le (length c.args.first.now) room f.few_first)

pub slice_bounds-last_room-end : goal.slice_bounds-last_room-end
slice_bounds-last_room-end c =
    let f = branch-facts c.args.nodes.now c.args.needs.now c.args.of.now c.args.axis c.args.branch c.index-of-branch.result c.args.first.now c.args.last.now c.requires.can c.requires.inside c.requires.order c.requires.there c.index-of-branch.is in
    f.few_last

pub slice_bounds-high-end : goal.slice_bounds-high-end
slice_bounds-high-end c =
    let f = branch-facts c.args.nodes.now c.args.needs.now c.args.of.now c.args.axis c.args.branch c.index-of-branch.result c.args.first.now c.args.last.now c.requires.can c.requires.inside c.requires.order c.requires.there c.index-of-branch.is in
    let room : List ℕ = 0 ∷ 0 ∷ 0 ∷ 0 ∷ 0 ∷ 0 ∷ 0 ∷ 0 ∷ [] in
    sym (length-take-le (length c.args.last.now) room f.few_last)

pub write_index-requires-clause-axis : goal.write_index-requires-clause-axis
write_index-requires-clause-axis c =
    let f = branch-facts c.args.nodes.now c.args.needs.now c.args.of.now c.args.axis c.args.branch c.index-of-branch.result c.args.first.now c.args.last.now c.requires.can c.requires.inside c.requires.order c.requires.there c.index-of-branch.is in
    f.axis_first

pub write_index-requires-clause-room : goal.write_index-requires-clause-room
write_index-requires-clause-room c =
    let f = branch-facts c.args.nodes.now c.args.needs.now c.args.of.now c.args.axis c.args.branch c.index-of-branch.result c.args.first.now c.args.last.now c.requires.can c.requires.inside c.requires.order c.requires.there c.index-of-branch.is in
    let room : List ℕ = 0 ∷ 0 ∷ 0 ∷ 0 ∷ 0 ∷ 0 ∷ 0 ∷ 0 ∷ [] in
    length-take-le (length c.args.first.now) room f.few_first

pub write_index-requires-2-clause-axis : goal.write_index-requires-2-clause-axis
write_index-requires-2-clause-axis c =
    let f = branch-facts c.args.nodes.now c.args.needs.now c.args.of.now c.args.axis c.args.branch c.index-of-branch.result c.args.first.now c.args.last.now c.requires.can c.requires.inside c.requires.order c.requires.there c.index-of-branch.is in
    f.axis_last

pub write_index-requires-2-clause-room : goal.write_index-requires-2-clause-room
write_index-requires-2-clause-room c =
    let f = branch-facts c.args.nodes.now c.args.needs.now c.args.of.now c.args.axis c.args.branch c.index-of-branch.result c.args.first.now c.args.last.now c.requires.can c.requires.inside c.requires.order c.requires.there c.index-of-branch.is in
    let room : List ℕ = 0 ∷ 0 ∷ 0 ∷ 0 ∷ 0 ∷ 0 ∷ 0 ∷ 0 ∷ [] in
    length-take-le (length c.args.last.now) room f.few_last

pub widen_both-requires-clause-full : goal.widen_both-requires-clause-full
widen_both-requires-clause-full c =
    fit-full c.args.nodes.now c.args.needs.now c.requires.can.sound c.requires.can.fit

pub widen_both-requires-clause-first : goal.widen_both-requires-clause-first
widen_both-requires-clause-first c =
    let f = branch-facts c.args.nodes.now c.args.needs.now c.args.of.now c.args.axis c.args.branch c.index-of-branch.result c.args.first.now c.args.last.now c.requires.can c.requires.inside c.requires.order c.requires.there c.index-of-branch.is in
    let u = element c.args.nodes.now c.args.of.now c.args.axis c.args.branch c.index-of-branch.result c.args.before (get_or c.dims_of.result.now c.args.axis 0) c.max-start.result c.min-end.result c.args.first.now c.args.last.now c.requires.inside c.requires.order c.requires.there f.is c.requires.before (ap (λ ns. get_or ns c.args.axis 0) c.dims_of.ensures.value) c.max-start.ensures c.min-end.ensures c.max-start.result c.args.first.now (from-to-first c.args.first.now c.args.last.now c.args.last.now c.requires.order) (omega arith) (c.if-start-end.false) in
    subst (CanHave (region_at c.args.needs.now c.index-of-branch.result)) (sym c.write_index.ensures) (node-have c.args.nodes.now c.args.needs.now c.args.of.now c.args.axis c.args.branch c.index-of-branch.result c.args.first.now c.args.last.now (set c.args.first.now c.args.axis (c.max-start.result - c.args.before)) c.requires.can c.requires.inside c.requires.there f.is u)

pub widen_both-requires-clause-last : goal.widen_both-requires-clause-last
widen_both-requires-clause-last c =
    let f = branch-facts c.args.nodes.now c.args.needs.now c.args.of.now c.args.axis c.args.branch c.index-of-branch.result c.args.first.now c.args.last.now c.requires.can c.requires.inside c.requires.order c.requires.there c.index-of-branch.is in
    let u = element c.args.nodes.now c.args.of.now c.args.axis c.args.branch c.index-of-branch.result c.args.before (get_or c.dims_of.result.now c.args.axis 0) c.max-start.result c.min-end.result c.args.first.now c.args.last.now c.requires.inside c.requires.order c.requires.there f.is c.requires.before (ap (λ ns. get_or ns c.args.axis 0) c.dims_of.ensures.value) c.max-start.ensures c.min-end.ensures (c.min-end.result - 1) c.args.last.now c.requires.order (omega (arith, c.if-start-end.false)) (omega (arith, c.if-start-end.false)) in
    subst (CanHave (region_at c.args.needs.now c.index-of-branch.result)) (sym c.write_index-2.ensures) (node-have c.args.nodes.now c.args.needs.now c.args.of.now c.args.axis c.args.branch c.index-of-branch.result c.args.first.now c.args.last.now (set c.args.last.now c.args.axis ((c.min-end.result - 1) - c.args.before)) c.requires.can c.requires.inside c.requires.there f.is u)

pub widen_both-requires-clause-axes : goal.widen_both-requires-clause-axes
widen_both-requires-clause-axes c =
    ap length c.write_index.ensures ∙ length-set c.args.first.now c.args.axis (c.max-start.result - c.args.before) ∙ sym (from-to-lengths c.args.first.now c.args.last.now c.args.last.now c.requires.order).0
    ∙ sym (ap length c.write_index-2.ensures ∙ length-set c.args.last.now c.args.axis (c.min-end.result - 1 - c.args.before))

pub returns-then-start-end-clause-uses : goal.returns-then-start-end-clause-uses
returns-then-start-end-clause-uses c =
    let f = branch-facts c.args.nodes.now c.args.needs.now c.args.of.now c.args.axis c.args.branch c.index-of-branch.result c.args.first.now c.args.last.now c.requires.can c.requires.inside c.requires.order c.requires.there c.index-of-branch.is in
    branch-none c.args.nodes.now c.args.of.now c.args.axis c.args.branch c.index-of-branch.result c.args.before (get_or c.dims_of.result.now c.args.axis 0) c.max-start.result c.min-end.result c.args.first.now c.args.last.now c.requires.inside c.requires.order c.requires.there f.is c.requires.before (ap (λ ns. get_or ns c.args.axis 0) c.dims_of.ensures.value) c.max-start.ensures c.min-end.ensures c.args.needs.now (fit-full c.args.nodes.now c.args.needs.now c.requires.can.sound c.requires.can.fit) c.if-start-end.true

pub returns-clause-uses : goal.returns-clause-uses
returns-clause-uses c =
    let f = branch-facts c.args.nodes.now c.args.needs.now c.args.of.now c.args.axis c.args.branch c.index-of-branch.result c.args.first.now c.args.last.now c.requires.can c.requires.inside c.requires.order c.requires.there c.index-of-branch.is in
    branch-used c.args.nodes.now c.args.of.now c.args.axis c.args.branch c.index-of-branch.result c.args.before (get_or c.dims_of.result.now c.args.axis 0) c.max-start.result c.min-end.result c.args.first.now c.args.last.now c.requires.inside c.requires.order c.requires.there f.is c.requires.before (ap (λ ns. get_or ns c.args.axis 0) c.dims_of.ensures.value) c.max-start.ensures c.min-end.ensures c.write_index.new.own c.write_index-2.new.own c.args.needs.now c.widen_both.new.needs c.if-start-end.false c.write_index.ensures c.write_index-2.ensures c.widen_both.ensures

pub returns-clause-fit : goal.returns-clause-fit
returns-clause-fit c =
    let f = branch-facts c.args.nodes.now c.args.needs.now c.args.of.now c.args.axis c.args.branch c.index-of-branch.result c.args.first.now c.args.last.now c.requires.can c.requires.inside c.requires.order c.requires.there c.index-of-branch.is in
    widens-fit c.args.nodes.now (IsUsed c.args.first.now c.args.last.now (IsInBranch (shape_at c.args.nodes.now) c.args.axis c.args.of.now c.args.branch)) c.args.needs.now c.widen_both.new.needs c.requires.can.fit
    (branch-used c.args.nodes.now c.args.of.now c.args.axis c.args.branch c.index-of-branch.result c.args.before (get_or c.dims_of.result.now c.args.axis 0) c.max-start.result c.min-end.result c.args.first.now c.args.last.now c.requires.inside c.requires.order c.requires.there f.is c.requires.before (ap (λ ns. get_or ns c.args.axis 0) c.dims_of.ensures.value) c.max-start.ensures c.min-end.ensures c.write_index.new.own c.write_index-2.new.own c.args.needs.now c.widen_both.new.needs c.if-start-end.false c.write_index.ensures c.write_index-2.ensures c.widen_both.ensures)
    (branch-in c.args.nodes.now c.args.of.now c.args.axis c.args.branch c.args.first.now c.args.last.now c.requires.inside c.requires.there)
