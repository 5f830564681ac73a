-- What blocks fit the label of a run, in lists.
use Rattle.std.specs.Prelude.{ℕ, List}
use Rattle.std.specs.List.{AllZip}
use Rattle.std.specs.declared.sync.Arc.{Arc}
use Rattle.std.specs.declared.alloc.Global.{Global}
use Rattle.cluster_msgs.specs.Jobs.{blocks_of}
use Rattle.cluster_msgs.specs.Labels.{LabelFacts, BlockFits}

-- one block per key, in order, and each fits its key
pub record ParcelFits {B : Type 0} (facts : LabelFacts B) (found : List ℕ) (blocks : List (Arc B Global)) : Type 0 where
  pub blocks_fit : AllZip (BlockFits facts) found (blocks_of blocks)
