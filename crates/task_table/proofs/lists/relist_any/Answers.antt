use Rattle.std.proofs.Common.{◌≡◌, ℕ, ◌&&◌, eqb, cond, Option, sym, ◌∙◌, subst}
use Rattle.sched_facts.specs.Stored.{facts_of}
use Rattle.task_table.specs.Lists.{in_row, is_at, names}
use Rattle.task_table.proofs.Listing.{row_named}
use Rattle.task_table.proofs.lists.relist_any.Goals as goal

pub returns-in-Some-clause-keys : goal.returns-in-Some-clause-keys
returns-in-Some-clause-keys c w k =
    let f = facts_of c.args.table.now in
    let key = c.args.key in
    let old = in_row c.args.rows.now.items w k in
    subst (λ (o : Option ℕ). in_row c.relist_at.new.rows.items w k ≡ cond (names o w && eqb key k) (is_at f w key) old) (sym c.in-Some.is) (c.relist_at.ensures.keys w k ∙ row_named f c.in-Some.worker key w k old)
