use Rattle.std.proofs.Common.{◌≡◌, map, string_bytes}
use Rattle.job_text.proofs.job.names_of.Given as goal

abbrev pub invariant-loop-named : goal.invariant-loop-named
invariant-loop-named l = map string_bytes l.names.items ≡ map (λ n. n.name) l.yielded
