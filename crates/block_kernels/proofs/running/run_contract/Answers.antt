use Rattle.block_kernels.proofs.Products.{product-shape}
use Rattle.block_kernels.proofs.running.run_contract.Goals as goal

pub returns-in-Ok-clause-dims : goal.returns-in-Ok-clause-dims
returns-in-Ok-clause-dims c =
    let is = rw (c.as_slice-first.ensures, c.as_slice-second.ensures) at c.in-Ok.ensures in
    product-shape _ _ _ _ _ _ c.in-Ok.block c.requires.shapes is
