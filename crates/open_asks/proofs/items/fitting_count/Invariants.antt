use Rattle.std.proofs.Common.{◌≡◌, ◌≤◌, ◌*◌, length, filter, take}
use Rattle.cluster_rules.specs.Functions.{from_one}
use Rattle.cluster_rules.specs.Worker.{first_fit, total_bytes}
use Rattle.open_asks.proofs.items.fitting_count.Given as goal

abbrev pub invariant-loop-place : goal.invariant-loop-place
invariant-loop-place l = record {
  bytes : l.bytes ≡ total_bytes l.shape (take l.place l.items);
  light : l.bytes ≤ 134217728 * l.place;
  counted : l.count ≡ length (filter (first_fit l.shape l.items) (from_one l.place));
  few : l.count ≤ l.place;
}
