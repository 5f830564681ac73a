use Rattle.std.proofs.Common.{◌≡◌, ◌∙◌, ap, length, arith}
use Rattle.io_edge.proofs.GivenLaws.{reads_then}
use Rattle.job_run.specs.Jobs.{plan_of}
use Rattle.job_run.specs.Plan.{input_shapes}
use Rattle.job_run.proofs.Given.{opened_heads}
use Rattle.job_run.proofs.GivenLoads.{accepted_given}
use Rattle.job_run.proofs.Loads.{few_shapes, load_cause, loaded_fit}
use Rattle.job_run.proofs.inputs.open_inputs.Goals as goal

pub read_heads-requires-clause-small : goal.read_heads-requires-clause-small
read_heads-requires-clause-small g c =
    let e : c.deref.result.now ≡ input_shapes c.args.job.now.expr = c.deref.ensures.value ∙ (c.in_ok-shapes.ensures ∙ ap input_shapes c.nodes.ensures.value) in
    omega (arith, ap length e, few_shapes c.args.job.now.expr, c.nodes.ensures.sound.count)

pub returns-in-Ok-read_heads-clause-fit : goal.returns-in-Ok-read_heads-clause-fit
returns-in-Ok-read_heads-clause-fit g c =
    let e : c.deref.result.now ≡ input_shapes c.args.job.now.expr = c.deref.ensures.value ∙ (c.in_ok-shapes.ensures ∙ ap input_shapes c.nodes.ensures.value) in
    loaded_fit (plan_of c.args.job.now) (g.S.Site.view c.args.site.now).files (g.S.Site.view c.store.new.self).files (g.S.In.Store.files c.in-Ok.store) c.in-Ok-read_heads.heads.items
    (record { shows = rw c.as_slice.ensures.value at c.in-Ok.ensures.shows; declared = c.requires.runs.inputs }) (rw e at c.in-Ok-read_heads.ensures.heads) (c.in-Ok-read_heads.ensures.count ∙ ap length e)

pub returns-in-Ok-read_heads-clause-given : goal.returns-in-Ok-read_heads-clause-given
returns-in-Ok-read_heads-clause-given g c =
    let e : c.deref.result.now ≡ input_shapes c.args.job.now.expr = c.deref.ensures.value ∙ (c.in_ok-shapes.ensures ∙ ap input_shapes c.nodes.ensures.value) in
    accepted_given (plan_of c.args.job.now) (g.S.In.Store.names c.in-Ok.store) c.deref.result.now (g.S.In.Store.gave c.in-Ok.store) (g.S.In.Store.gave c.read_heads.new.store) (rw c.as_slice.ensures.value at c.in-Ok.ensures.named) e c.requires.runs.inputs c.in-Ok-read_heads.ensures.given

pub returns-in-Ok-read_heads-clause-given_heads : goal.returns-in-Ok-read_heads-clause-given_heads
returns-in-Ok-read_heads-clause-given_heads g c =
    opened_heads (plan_of c.args.job.now).inputs (g.S.In.Store.names c.in-Ok.store) (g.S.In.Store.gave c.in-Ok.store) (g.S.In.Store.gave c.read_heads.new.store) c.in-Ok-read_heads.heads.items (rw c.as_slice.ensures.value at c.in-Ok.ensures.named) c.in-Ok-read_heads.ensures.given_heads

pub returns-clause-cause : goal.returns-clause-cause
returns-clause-cause g c =
    let e : c.deref.result.now ≡ input_shapes c.args.job.now.expr = c.deref.ensures.value ∙ (c.in_ok-shapes.ensures ∙ ap input_shapes c.nodes.ensures.value) in
    load_cause (plan_of c.args.job.now) (g.S.Site.view c.args.site.now) (g.S.Site.view c.give_store.new.self) (g.S.Site.view c.store.new.self).files (g.S.In.Store.files c.in-Ok.store) (g.S.In.Store.count c.read_heads.new.store)
    (g.S.In.Store.names c.in-Ok.store) (g.S.In.Store.gave c.in-Ok.store) (g.S.In.Store.gave c.read_heads.new.store) (g.S.Site.view c.store.new.self).gave c.in-Err.end
    (record { shows = rw c.as_slice.ensures.value at c.in-Ok.ensures.shows; declared = c.requires.runs.inputs }) (rw c.in-Ok.ensures.kept at c.give_store.ensures.cause.risen)
    (record { named = rw c.as_slice.ensures.value at c.in-Ok.ensures.named; before = c.store.ensures.gave; is = c.give_store.ensures.gave }) (rw e at c.in-Err.ensures.given_refusal) (rw (e, c.in-Ok.ensures.fresh) at c.in-Err.ensures.cause)

pub returns-clause-only : goal.returns-clause-only
returns-clause-only g c = reads_then (g.S.Site.view c.args.site.now) (g.S.Site.view c.store.new.self) (g.S.Site.view c.give_store.new.self) c.in-Ok.ensures.only c.give_store.ensures.only
