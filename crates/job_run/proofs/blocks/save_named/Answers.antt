use Rattle.std.proofs.Common.{◌≤◌, ◌<◌, ◌+◌, List, length, ap, sym, subst, ◌∙◌, arith}
use Rattle.std.proofs.lemmas.List.{length-map}
use Rattle.std.specs.Arc.{arc_value}
use Rattle.small_facts.proofs.Results.{on_err_from}
use Rattle.array_expr.specs.Node.{shape_at}
use Rattle.chunk_layout.specs.Layouts.{region, blocks}
use Rattle.saved_files.specs.Saving.{Saving}
use Rattle.job_run.specs.declared.group.Group.{Group}
use Rattle.job_plan.specs.declared.job.Save.{Save}
use Rattle.job_run.specs.Grouping.{waiting_of}
use Rattle.job_run.specs.Jobs.{plan_of, saved_of}
use Rattle.job_run.proofs.SavePlaces.{save-place, place-node}
use Rattle.job_run.proofs.SavingSteps.{same-then}
use Rattle.job_run.proofs.WaitingBlocks.{NamedLoop, adds-at, below-all, below-more, below-right, below-skip, holds-at}
use Rattle.job_run.proofs.blocks.save_named.Goals as goal
use Rattle.job_run.proofs.blocks.save_named.Goals.{then-number-node+in_ok-save_at, else-number-node}

pub save_at-requires-clause-dims : goal.save_at-requires-clause-dims
save_at-requires-clause-dims g c =
    let at = save-place c.args.job.now c.deref-save-items.result.now c.args.layouts.now c.loop-place.place c.args.node c.save-item.result c.index-layouts-place.result c.requires.runs c.nodes-nodes.ensures.sound c.requires.layouts c.deref-save-items.ensures.value
    c.loop-place-test.true c.save-item.is (sym c.number.ensures ∙ c.if-number-node.true) c.index-layouts-place.is in
    at.cut ∙ ap (shape_at c.args.job.now.expr) (sym at.node_is)

pub save_at-requires-clause-number : goal.save_at-requires-clause-number
save_at-requires-clause-number g c =
    let at = save-place c.args.job.now c.deref-save-items.result.now c.args.layouts.now c.loop-place.place c.args.node c.save-item.result c.index-layouts-place.result c.requires.runs c.nodes-nodes.ensures.sound c.requires.layouts c.deref-save-items.ensures.value
    c.loop-place-test.true c.save-item.is (sym c.number.ensures ∙ c.if-number-node.true) c.index-layouts-place.is in
    subst (λ l. c.args.number < blocks l) (sym at.layout_is) c.requires.number

pub save_at-requires-clause-shape : goal.save_at-requires-clause-shape
save_at-requires-clause-shape g c =
    let at = save-place c.args.job.now c.deref-save-items.result.now c.args.layouts.now c.loop-place.place c.args.node c.save-item.result c.index-layouts-place.result c.requires.runs c.nodes-nodes.ensures.sound c.requires.layouts c.deref-save-items.ensures.value
    c.loop-place-test.true c.save-item.is (sym c.number.ensures ∙ c.if-number-node.true) c.index-layouts-place.is in
    c.requires.shape ∙ ap (λ l. (region l c.args.number).lengths) (sym at.layout_is)

pub returns-in_err-save_at-clause-right : goal.returns-in_err-save_at-clause-right
returns-in_err-save_at-clause-right g c =
    let p = plan_of c.args.job.now in
    let at = save-place c.args.job.now c.deref-save-items.result.now c.args.layouts.now c.loop-place.place c.args.node c.save-item.result c.index-layouts-place.result c.requires.runs c.nodes-nodes.ensures.sound c.requires.layouts c.deref-save-items.ensures.value
    c.loop-place-test.true c.save-item.is (sym c.number.ensures ∙ c.if-number-node.true) c.index-layouts-place.is in
    on_err_from c.from_residual.result (λ named boxes holds held. below-right p named (c.args.node, c.args.number) c.loop-place.place boxes (waiting_of c.loop-place.group) c.loop-place.files c.save_at.new.files
    (λ before h. c.in_err-save_at.ensures.right named before (holds-at p named c.loop-place.place c.args.node c.args.number c.index-layouts-place.result (arc_value c.args.block.now) at holds) h) (c.loop-place.invariant.held named boxes holds held))

pub loop-place-preserved : goal.loop-place-preserved
loop-place-preserved g c =
    let p = plan_of c.args.job.now in
    let place = c.loop-place.place in
    let node = place-node c.args.job.now c.deref-save-items.result.now c.loop-place.place c.save-item.result c.deref-save-items.ensures.value c.loop-place-test.true c.save-item.is in
    elim c.if-number-node.branch [
      | then-number-node+in_ok-save_at w ↦
          let at = save-place c.args.job.now c.deref-save-items.result.now c.args.layouts.now c.loop-place.place c.args.node c.save-item.result w.index-layouts-place.result c.requires.runs c.nodes-nodes.ensures.sound c.requires.layouts c.deref-save-items.ensures.value
          c.loop-place-test.true c.save-item.is (sym c.number.ensures ∙ w.if-number-node.true) w.index-layouts-place.is in
          subst (λ (fs : List Saving). NamedLoop p (c.args.node, c.args.number) (arc_value c.args.block.now) (place + 1) (waiting_of c.args.group.now) c.args.files.now (waiting_of c.if-number-node.group) fs) (sym w.files-is)
          (subst (λ (gr : Group). NamedLoop p (c.args.node, c.args.number) (arc_value c.args.block.now) (place + 1) (waiting_of c.args.group.now) c.args.files.now (waiting_of gr) w.save_at.new.files) (sym w.group-is)
          (record {
            same = same-then c.args.files.now c.loop-place.files w.save_at.new.files c.loop-place.invariant.same w.save_at.ensures.same;
            group = w.in_ok-save_at.ensures.group;
            kept = λ k lt. w.in_ok-save_at.ensures.kept k (subst (λ n. k < n) (sym c.loop-place.invariant.same.count) lt) ∙ c.loop-place.invariant.kept k lt;
            held = λ named boxes holds held. below-more p named (c.args.node, c.args.number) place boxes (waiting_of c.loop-place.group) (waiting_of w.save_at.new.group) c.loop-place.files w.save_at.new.files at.node_is
                (λ before after adds h. w.in_ok-save_at.ensures.held named before after (adds-at p place c.args.node c.args.number w.index-layouts-place.result before after at adds)
                (holds-at p named place c.args.node c.args.number w.index-layouts-place.result (arc_value c.args.block.now) at holds) h)
                (c.loop-place.invariant.held named boxes holds held);
          }))
      | else-number-node w ↦
          subst (λ (fs : List Saving). NamedLoop p (c.args.node, c.args.number) (arc_value c.args.block.now) (place + 1) (waiting_of c.args.group.now) c.args.files.now (waiting_of c.if-number-node.group) fs) (sym w.files-is)
          (subst (λ (gr : Group). NamedLoop p (c.args.node, c.args.number) (arc_value c.args.block.now) (place + 1) (waiting_of c.args.group.now) c.args.files.now (waiting_of gr) c.loop-place.files) (sym w.group-is)
          (record {
            same = c.loop-place.invariant.same;
            group = c.loop-place.invariant.group;
            kept = c.loop-place.invariant.kept;
            held = λ named boxes holds held. below-skip p named (c.args.node, c.args.number) place boxes (waiting_of c.loop-place.group) c.loop-place.files (λ e. w.if-number-node.false (c.number.ensures ∙ sym node ∙ e)) (c.loop-place.invariant.held named boxes holds held);
          }))
    ]

pub returns-clause-held : goal.returns-clause-held
returns-clause-held g c named before after adds holds held =
    let all : length (plan_of c.args.job.now).saves ≤ c.loop-place.place = omega (arith, c.loop-place-test.false, ap (λ (l : List Save). length l) c.deref-save-items.ensures.value, length-map c.args.job.now.saves.items saved_of) in
    below-all (plan_of c.args.job.now) named (c.args.node, c.args.number) c.loop-place.place before after (waiting_of c.loop-place.group) c.loop-place.files all adds (c.loop-place.invariant.held named before holds held)
