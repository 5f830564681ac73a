use Rattle.std.proofs.Common.{None}
use Rattle.fact_rows.specs.Rows.{cell}
use Rattle.cluster_nodes.specs.Turns.{first_at}
use Rattle.cluster_nodes.proofs.Places.{shelved}
use Rattle.cluster_nodes.proofs.shelve.shelve.Goals as goal

pub returns-clause-meaning : goal.returns-clause-meaning
returns-clause-meaning g c = shelved (cell c.args.shelf.now None) (cell c.bring.new.shelf None) (cell c.keep.new.shelf None) (g.H.Holder.counted c.args.holder.now) (first_at c.args.brought.items) c.args.node c.args.lost.now
    c.requires.tidy c.bring.ensures.meaning c.keep.ensures.meaning
