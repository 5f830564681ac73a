use Rattle.std.proofs.Common.{◌≡◌, replicate}
use Rattle.client_futures.specs.declared.sight.Sighted.TheVariants.{Open}
use Rattle.client_futures.proofs.sight.Sight.new.Given as goal

abbrev pub invariant-loop : goal.invariant-loop
invariant-loop g l = l.row.items ≡ replicate l.counter Open
