use Rattle.std.proofs.Common.{◌≡◌, ap, sym, subst, ◌∙◌}
use Rattle.std.proofs.lemmas.Result.{on_err_weaker}
use Rattle.std.specs.Arc.{arc_value}
use Rattle.saved_files.specs.Filling.{HoldsBox}
use Rattle.job_run.specs.Evaluating.{array_at}
use Rattle.job_run.specs.Jobs.{plan_of}
use Rattle.nd_shape.specs.Region.{IsPart}
use Rattle.chunk_layout.specs.Layouts.{region, lengths}
use Rattle.job_run.proofs.SavedArrays.{region-in}
use Rattle.job_run.proofs.blocks.save_at.Goals as goal

pub hold_block-requires-clause-inside : goal.hold_block-requires-clause-inside
hold_block-requires-clause-inside g c =
    let layout = c.args.layout.now in
    let box : c.block_region.new.out ≡ region layout c.args.number = c.block_region.ensures ∙ ap (region layout) c.from.ensures in
    subst (IsPart c.block_region.new.out) c.requires.dims (subst (λ b. IsPart b (lengths layout)) (sym box) (region-in layout c.args.number c.requires.number))

pub returns-clause-right : goal.returns-clause-right
returns-clause-right g c =
    let box : c.block_region.new.out ≡ region c.args.layout.now c.args.number = c.block_region.ensures ∙ ap (region c.args.layout.now) c.from.ensures in
    on_err_weaker c.hold_block.result (λ f named boxes holds held. f named boxes (subst (λ b. HoldsBox (array_at (plan_of c.args.job.now) named c.args.place) b (arc_value c.args.block.now)) (sym box) holds) held) c.hold_block.ensures.right
