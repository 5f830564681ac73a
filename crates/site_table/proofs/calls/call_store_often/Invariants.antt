use Rattle.std.proofs.Common.{◌≡◌, length}
use Rattle.site_table.proofs.calls.call_store_often.Given as goal

abbrev pub invariant-loop : goal.invariant-loop
invariant-loop g l = length (g.I.Store.files l.store) ≡ l.count
