use Rattle.std.proofs.Common.{◌≡◌, ℕ, ◌<◌, ◌+◌, ◌*◌, length, get_or}
use Rattle.block_kernels.specs.Gathers.{IsLine}
use Rattle.block_kernels.proofs.lines.find_lines.Given as goal

abbrev pub invariant-loop-k : goal.invariant-loop-k
invariant-loop-k g l = record {
  firsts : length l.firsts ≡ length l.initial.firsts;
  seconds : length l.seconds ≡ length l.initial.firsts;
  each : (j : ℕ) → j < l.k → IsLine (g.F.Lines.grid l.formula) (g.F.Lines.source l.formula) ((l.row + j) * l.run) l.run (get_or l.firsts j 0) (get_or l.seconds j 0);
}
