use Rattle.std.proofs.Common.{◌&&◌, eqb, ltb, cond, ap, ◌∙◌, length}
use Rattle.sched_facts.specs.Stored.{facts_of}
use Rattle.task_table.specs.Lists.{in_row}
use Rattle.task_table.proofs.Listing.{at_there}
use Rattle.task_table.proofs.lists.relist_at.Goals as goal

pub returns-clause-keys : goal.returns-clause-keys
returns-clause-keys c w k =
    let f = facts_of c.args.table.now in
    let rows = c.args.rows.now.items in
    c.put_in_row.ensures.keys w k
    ∙ ap (λ t. cond (eqb c.args.worker w && eqb c.args.key k) (ltb c.args.worker (length rows) && t) (in_row rows w k)) c.is_at-to.ensures
    ∙ ap (λ t. cond (eqb c.args.worker w && eqb c.args.key k) t (in_row rows w k)) (at_there f c.args.worker c.args.key (length rows) c.sound.ensures c.requires.rows.many)
