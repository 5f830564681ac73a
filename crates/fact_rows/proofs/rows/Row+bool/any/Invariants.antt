use Rattle.std.proofs.Common.{◌≡◌, false, take, get_or}
use Rattle.std.specs.List.{list_any}
use Rattle.fact_rows.proofs.rows.Row+bool.any.Given as goal

abbrev pub invariant-loop-key : goal.invariant-loop-key
invariant-loop-key l = list_any (λ k. get_or l.self k false) (take l.key-index l.keys) ≡ false
