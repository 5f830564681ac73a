use Rattle.std.proofs.Common.{◌+◌, ◌<◌, ◌∙◌, ℕ, List, length, get_or, ap, sym, subst, arith, refl}
use Rattle.array_expr.specs.Node.{shape_at}
use Rattle.input_regions.specs.Uses.{before_operand}
use Rattle.input_regions.proofs.Widened.{fit-full}
use Rattle.input_regions.proofs.Joins.{branch-facts, branches-none, branches-more, before-next}
use Rattle.input_regions.proofs.branches.use_branches.Goals as goal

pub loop-branch-init : goal.loop-branch-init
loop-branch-init c =
    record { before = refl; uses = branches-none (shape_at c.args.nodes.now) c.args.axis c.args.of.now c.args.first.now c.args.last.now c.args.needs.now (fit-full c.args.nodes.now c.args.needs.now c.requires.can.sound c.requires.can.fit); fit = c.requires.can.fit }

pub offset_bounds-dims_of-axis : goal.offset_bounds-dims_of-axis
offset_bounds-dims_of-axis c =
    let f = branch-facts c.args.nodes.now c.args.needs.now c.args.of.now c.args.axis c.loop-branch.branch c.index-of-branch.result c.args.first.now c.args.last.now c.requires.can c.requires.inside c.requires.order c.loop-branch-test.true c.index-of-branch.is in
    omega (arith, f.axis_first, f.few_first)

pub bounds-dims_of-axis : goal.bounds-dims_of-axis
bounds-dims_of-axis c =
    let f = branch-facts c.args.nodes.now c.args.needs.now c.args.of.now c.args.axis c.loop-branch.branch c.index-of-branch.result c.args.first.now c.args.last.now c.requires.can c.requires.inside c.requires.order c.loop-branch-test.true c.index-of-branch.is in
    subst (λ (ns : List ℕ). c.args.axis < length ns) (sym c.dims_of.ensures.value) f.dims

pub overflow_add-before : goal.overflow_add-before
overflow_add-before c =
    let f = branch-facts c.args.nodes.now c.args.needs.now c.args.of.now c.args.axis c.loop-branch.branch c.index-of-branch.result c.args.first.now c.args.last.now c.requires.can c.requires.inside c.requires.order c.loop-branch-test.true c.index-of-branch.is in
    omega (arith, f.sum, c.loop-branch.invariant.before, ap (λ ns. get_or ns c.args.axis 0) c.dims_of.ensures.value)

pub loop-branch-preserved : goal.loop-branch-preserved
loop-branch-preserved c =
    record {
      before = ap (λ b. b + get_or c.dims_of.result.now c.args.axis 0) c.loop-branch.invariant.before ∙ ap (λ ns. before_operand (shape_at c.args.nodes.now) c.args.axis c.args.of.now c.loop-branch.branch + get_or ns c.args.axis 0) c.dims_of.ensures.value
          ∙ sym (before-next (shape_at c.args.nodes.now) c.args.axis c.args.of.now c.loop-branch.branch c.index-of-branch.result c.loop-branch-test.true (sym c.index-of-branch.is));
      uses = branches-more (shape_at c.args.nodes.now) c.args.axis c.args.of.now c.loop-branch.branch c.args.first.now c.args.last.now c.args.needs.now c.loop-branch.needs c.use_branch.new.needs c.loop-branch.invariant.uses c.use_branch.ensures.uses;
      fit = c.use_branch.ensures.fit;
    }
