use Rattle.std.proofs.Common.{◌⊎◌}
use Rattle.nd_grid.specs.Grid.{under}
use Rattle.array_expr.specs.Node.{shape_at}
use Rattle.input_regions.specs.Uses.{IsAt}
use Rattle.input_regions.proofs.Used.{used-two}
use Rattle.input_regions.proofs.operands.use_three.Goals as goal

pub returns-clause-uses : goal.returns-clause-uses
returns-clause-uses c =
    used-two c.args.first.now c.args.last.now (λ i k j. IsAt c.args.one (under (shape_at c.args.nodes.now c.args.one) i) k j)
    (λ i k j. IsAt c.args.two (under (shape_at c.args.nodes.now c.args.two) i) k j ⊎ IsAt c.args.three (under (shape_at c.args.nodes.now c.args.three) i) k j)
    c.args.needs.now c.use_under.new.needs c.use_pair.new.needs c.use_under.ensures.uses c.use_pair.ensures.uses
