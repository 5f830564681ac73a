use Rattle.std.proofs.Common.{◌≡◌, ◌<◌, ℕ, List, [], ap, sym, subst, ◌∙◌}
use Rattle.std.specs.Prelude.{Some, IsSome}
use Rattle.std.specs.Arc.{arc_value}
use Rattle.block_kernels.specs.Kernels.{result_shape}
use Rattle.task_graph.specs.declared.graph.Task.{Task}
use Rattle.task_graph.specs.Graphs.{task_at, value}
use Rattle.block_lowering.specs.Jobs.{TellsFeed}
use Rattle.job_run.specs.Evaluating.{HaltCause, HaltGiven, HaveAll}
use Rattle.job_run.specs.Jobs.{plan_of}
use Rattle.job_run.proofs.Halting.{zero-halt}
use Rattle.job_run.proofs.KeyValues.{has-block, block-named, holds-named, stops-at}
use Rattle.job_run.proofs.blocks.next_block.Goals as goal

pub halt_at-requires-clause-there : goal.halt_at-requires-clause-there
halt_at-requires-clause-there g c =
    let named = g.E.Elements.named in
    has-block (plan_of c.args.job.now) named c.args.evaluation.now.next c.args.name (c.laws_hold.ensures named) c.requires.there c.requires.name

pub returns-in-Ok-Made-clause-named : goal.returns-in-Ok-Made-clause-named
returns-in-Ok-Made-clause-named g c =
    let named = g.E.Elements.named in
    let key = c.args.evaluation.now.next in
    let dims = rw c.in-Ok-Made.field-0-is at c.in-Ok-Made.ensures.dims in
    block-named (plan_of c.args.job.now) named key c.args.name (arc_value c.in-Ok-Made.block) (c.laws_hold.ensures named) c.requires.there c.requires.name
    (λ n b is. dims ∙ ap (λ (ts : List Task). result_shape (task_at ts c.args.evaluation.now.next).spec) c.requires.tasks ∙ is.lengths)

pub returns-in-Ok-Made-clause-holds : goal.returns-in-Ok-Made-clause-holds
returns-in-Ok-Made-clause-holds g c told =
    let named = g.E.Elements.named in
    let p = plan_of c.args.job.now in
    let key = c.args.evaluation.now.next in
    let all : HaveAll (plan_of c.args.job.now) g.E.Elements.named c.args.evaluation.now.next =
    subst (λ (ts : List Task). (k : ℕ) → k < c.args.evaluation.now.next → IsSome (value g.E.Elements.named ts k)) c.requires.tasks (c.in-Ok-Made.ensures.before told) in
    let made = rw c.in-Ok-Made.field-0-is at (c.in-Ok-Made.ensures.value told) in
    holds-named p named key c.args.name (arc_value c.in-Ok-Made.block) (c.laws_hold.ensures named) c.requires.there all
    (subst (λ (ts : List Task). value g.E.Elements.named ts c.args.evaluation.now.next ≡ Some (arc_value c.in-Ok-Made.block)) c.requires.tasks (sym made)) c.requires.name

pub returns-in-Ok-Zero-clause-cause : goal.returns-in-Ok-Zero-clause-cause
returns-in-Ok-Zero-clause-cause g c =
    let named = g.E.Elements.named in
    let p = plan_of c.args.job.now in
    let tasks = c.args.evaluation.now.job.job.tasks in
    let key = c.args.evaluation.now.next in
    zero-halt p (HaltCause p named (TellsFeed c.args.evaluation.now.job.job.heads (g.S.In.Store.files c.args.evaluation.now.feed)) [] (g.S.In.Store.count c.args.evaluation.now.feed) (g.S.In.Store.count c.step.new.self.feed))
    c.args.name c.halt_at.result c.halt_at.ensures tt
    (λ n b is told.
    let none = rw c.in-Ok-Zero.field-0-is at (c.in-Ok-Zero.ensures.value told) in
    stops-at p named tasks key n b (c.laws_hold.ensures named) c.requires.tasks c.requires.there (c.in-Ok-Zero.ensures.before told) none (c.requires.name ∙ is))

pub returns-in-Ok-Zero-clause-given : goal.returns-in-Ok-Zero-clause-given
returns-in-Ok-Zero-clause-given g c =
    let p = plan_of c.args.job.now in
    let tasks = c.args.evaluation.now.job.job.tasks in
    let key = c.args.evaluation.now.next in
    zero-halt p (HaltGiven p c.args.evaluation.now.job.job.heads (g.S.In.Store.names c.args.evaluation.now.feed) (g.S.In.Store.gave c.step.new.self.feed))
    c.args.name c.halt_at.result c.halt_at.ensures tt
    (λ n b is holds named agrees has.
    let none = rw c.in-Ok-Zero.field-0-is at (c.in-Ok-Zero.ensures.given holds named agrees has) in
    let all = c.in-Ok-Zero.ensures.given_before holds named (c.in-Ok-Zero.ensures.agreed holds agrees) has in
    stops-at p named tasks key n b (c.laws_hold.ensures named) c.requires.tasks c.requires.there all none (c.requires.name ∙ is))

pub returns-in-Ok-Made-clause-have : goal.returns-in-Ok-Made-clause-have
returns-in-Ok-Made-clause-have g c = rw c.in-Ok-Made.ensures.job at c.in-Ok-Made.ensures.same

pub returns-in-Ok-Zero-clause-have : goal.returns-in-Ok-Zero-clause-have
returns-in-Ok-Zero-clause-have g c = rw c.in-Ok-Zero.ensures.job at c.in-Ok-Zero.ensures.same

pub returns-in-Err-Feed-clause-have : goal.returns-in-Err-Feed-clause-have
returns-in-Err-Feed-clause-have g c = rw c.in-Err-Feed.ensures.job at c.in-Err-Feed.ensures.same

pub returns-in-Err-OutOfMemory-clause-have : goal.returns-in-Err-OutOfMemory-clause-have
returns-in-Err-OutOfMemory-clause-have g c = rw c.in-Err-OutOfMemory.ensures.job at c.in-Err-OutOfMemory.ensures.same
