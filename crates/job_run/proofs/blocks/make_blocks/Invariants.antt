use Rattle.std.proofs.Common.{◌≡◌, ℕ, List}
use Rattle.std.specs.Prelude.{◌↔◌}
use Rattle.io_edge.specs.Given.{Agree}
use Rattle.block_lowering.specs.Jobs.{HaveNamed, TellsFeed}
use Rattle.job_run.specs.Evaluating.{AreSameFiles, HasNotFailed, boxes_made}
use Rattle.job_run.specs.Grouping.{FilesHeld, IsGroup, waiting_of}
use Rattle.job_run.specs.Jobs.{plan_of}
use Rattle.job_run.specs.Values.{Named}
use Rattle.job_run.proofs.blocks.make_blocks.Given as goal

abbrev pub invariant-loop-name : goal.invariant-loop-name
invariant-loop-name g l = record {
  job : l.evaluation.job ≡ l.initial.evaluation.job;
  next : l.evaluation.next ≡ l.name-index;
  tells : TellsFeed l.initial.evaluation.job.job.heads (g.S.In.Store.files l.evaluation.feed) ↔ TellsFeed l.initial.evaluation.job.job.heads (g.S.In.Store.files l.initial.evaluation.feed);
  reads : g.S.In.Store.count l.evaluation.feed ≡ g.S.In.Store.count l.initial.evaluation.feed;
  agreed : (holds : List ℕ → List ℕ) → Agree holds (g.S.In.Store.gave l.evaluation.feed) → Agree holds (g.S.In.Store.gave l.initial.evaluation.feed);
  have : (holds : List ℕ → List ℕ) (named : Named) → HaveNamed l.initial.evaluation.job.job.heads (g.S.In.Store.names l.evaluation.feed) holds named ↔ HaveNamed l.initial.evaluation.job.job.heads (g.S.In.Store.names l.initial.evaluation.feed) holds named;
  same : AreSameFiles l.initial.files l.files;
  sound : HasNotFailed l.files;
  group : IsGroup (plan_of l.job) (waiting_of l.group);
  holds : TellsFeed l.initial.evaluation.job.job.heads (g.S.In.Store.files l.initial.evaluation.feed) → FilesHeld (plan_of l.job) g.E.Elements.named (boxes_made (plan_of l.job) l.name-index) (waiting_of l.group) l.files;
}
