use Rattle.std.proofs.Common.{◌≡◌, length}
use Rattle.io_edge.specs.Given.{Gives}
use Rattle.job_run.specs.Loading.{AreHeads, FitNamed, HaveHeadsNamed}
use Rattle.job_run.proofs.load.read_heads.Given as goal

abbrev pub invariant-loop-input : goal.invariant-loop-input
invariant-loop-input g l = record {
  same : g.I.Store.files l.store ≡ g.I.Store.files l.initial.store;
  named : g.I.Store.names l.store ≡ g.I.Store.names l.initial.store;
  kept : g.I.Store.count l.store ≡ g.I.Store.count l.initial.store;
  heads : AreHeads l.shapes (g.I.Store.files l.initial.store) l.heads.items;
  given : Gives (g.I.Store.gave l.initial.store) (g.I.Store.gave l.store) (FitNamed (g.I.Store.names l.initial.store) l.shapes l.input);
  given_heads : Gives (g.I.Store.gave l.initial.store) (g.I.Store.gave l.store) (HaveHeadsNamed (g.I.Store.names l.initial.store) l.heads.items);
  count : length l.heads.items ≡ l.input;
}
