use Rattle.std.proofs.Common.{◌≡◌, ℕ, ◌-◌, ◌<◌, ◌≤◌, false, length}
use Rattle.key_sets.specs.Marked.{is_full}
use Rattle.key_sets.proofs.set.KeySet.clear.Given as goal

abbrev pub invariant-loop-word : goal.invariant-loop-word
invariant-loop-word l = record {
  long : length l.self ≡ length l.fn.self;
  within : l.from ≤ length l.fn.self;
  empty : (w : ℕ) → w < l.from → is_full l.self w ≡ false;
}

abbrev pub decreases-loop-word : goal.decreases-loop-word
decreases-loop-word l = length l.fn.self - l.from
