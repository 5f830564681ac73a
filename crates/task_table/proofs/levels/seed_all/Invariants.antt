use Rattle.std.proofs.Common.{◌≡◌, ℕ, ◌<◌, true}
use Rattle.spread_flags.specs.Spread.{seed}
use Rattle.task_table.proofs.levels.seed_all.Given as goal

abbrev pub invariant-loop-key : goal.invariant-loop-key
invariant-loop-key l = record {
  links : l.flags.links ≡ l.initial.flags.links;
  done : (k : ℕ) → k < l.key → seed l.flags k ≡ true;
  gates : l.flags.gates ≡ l.initial.flags.gates;
  flags : l.flags.flags ≡ l.initial.flags.flags;
  changed : l.flags.changed ≡ l.initial.flags.changed;
}
