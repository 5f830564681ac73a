use Rattle.block_kernels.proofs.lines.cells_of.Goals as goal

pub append_strips-requires-clause-small : goal.append_strips-requires-clause-small
append_strips-requires-clause-small g c = c.row_sizes-rows.ensures.small
