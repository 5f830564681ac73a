use Rattle.std.proofs.Common.{◌≡◌}
use Rattle.std.specs.List.{flat_map}
use Rattle.journal_audit.proofs.merges.joined.Given as goal

abbrev pub invariant-loop-history : goal.invariant-loop-history
invariant-loop-history l = l.all.items ≡ flat_map (λ h. h.entries) l.yielded
