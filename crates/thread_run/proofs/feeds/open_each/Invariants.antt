use Rattle.std.proofs.Common.{◌≡◌, ◌≤◌, ◌<◌, ◌*◌, ℕ, map}
use Rattle.std.specs.Prelude.{Contains, string_bytes, vec_capacity, vec_len}
use Rattle.io_edge.specs.Cause.{Rose}
use Rattle.thread_run.specs.Feeding.{OpensOften}
use Rattle.thread_run.proofs.feeds.open_each.Given as goal

abbrev pub invariant-loop-number : goal.invariant-loop-number
invariant-loop-number g l = record {
  opens : OpensOften (map string_bytes l.names) (l._number * l.threads) (g.S.Site.view l.initial.site) (g.S.Site.view l.site);
  count : vec_len l.all ≡ l._number;
  room : l.numbers ≤ vec_capacity l.all;
  short : (n : ℕ) → Contains (map (λ v. vec_len v) l.all.items) n → n < l.threads → Rose (g.S.Site.view l.initial.site).read_faults (g.S.Site.view l.site).read_faults;
}
