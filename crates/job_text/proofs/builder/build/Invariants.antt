use Rattle.std.proofs.Common.{◌≡◌, []}
use Rattle.job_text.specs.Nodes.{Builds}
use Rattle.job_text.specs.Jobs.{spans_of}
use Rattle.job_text.specs.Cursors.{Stands}
use Rattle.job_text.proofs.builder.build.Given as goal

abbrev pub invariant-loop-placed : goal.invariant-loop-placed
invariant-loop-placed l = record {
  builds : Builds [] l.yielded l.expr;
  spans_are : l.spans ≡ spans_of l.text l.yielded;
  stands : Stands l.text l.cursor;
}
