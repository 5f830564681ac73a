use Rattle.std.proofs.Common.{arith, ◌≡◌, ◌++◌, ℕ, List, ap, sym, ◌∙◌, append-nil}
use Rattle.chunk_layout.specs.Layouts.{lengths_at}
use Rattle.block_lowering.proofs.PartsSteps.{lengths-end}
use Rattle.block_lowering.proofs.parts.lengths_of.Goals as goal

pub returns : goal.returns
returns c =
    let done = c.loop-axis.dims.items in
    let all : done ≡ lengths_at c.args.axes.now c.args.numbers.now =
    sym (append-nil done) ∙ ap (λ (xs : List ℕ). done ++ xs) (sym (lengths-end c.args.axes.now c.args.numbers.now c.loop-axis.axis (omega (arith, c.min-axis-end.ensures)))) ∙ c.loop-axis.invariant in
    rw (← all) c.shape_from.ensures
