use Rattle.std.proofs.Common.{◌≡◌, false, true, take, get_or}
use Rattle.std.specs.List.{list_all}
use Rattle.fact_rows.proofs.rows.Row+bool.all.Given as goal

abbrev pub invariant-loop-key : goal.invariant-loop-key
invariant-loop-key l = list_all (λ k. get_or l.self k false) (take l.key-index l.keys) ≡ true
