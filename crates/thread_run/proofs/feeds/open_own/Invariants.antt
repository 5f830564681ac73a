use Rattle.std.proofs.Common.{◌≡◌, ◌≤◌, map}
use Rattle.std.specs.Prelude.{string_bytes, vec_capacity, vec_len}
use Rattle.thread_run.specs.Feeding.{OpensOften}
use Rattle.thread_run.proofs.feeds.open_own.Given as goal

abbrev pub invariant-loop-thread : goal.invariant-loop-thread
invariant-loop-thread g l = record {
  opens : OpensOften (map string_bytes l.names) l._thread (g.S.Site.view l.initial.site) (g.S.Site.view l.site);
  count : vec_len l.own ≡ l._thread;
  room : l.threads ≤ vec_capacity l.own;
}
