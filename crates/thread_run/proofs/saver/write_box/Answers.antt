use Rattle.std.proofs.Common.{◌≡◌, ap, sym, subst, ◌∙◌}
use Rattle.nd_shape.specs.Region.{IsPart}
use Rattle.chunk_layout.specs.Layouts.{lengths, region}
use Rattle.job_run.proofs.SavedArrays.{region-in}
use Rattle.thread_run.proofs.saver.write_box.Goals as goal

pub write-requires-clause-inside : goal.write-requires-clause-inside
write-requires-clause-inside g c =
    let layout = c.args.layout.now in
    let box : c.block_region.new.out ≡ region layout c.args.number = c.block_region.ensures ∙ ap (region layout) c.from.ensures in
    subst (IsPart c.block_region.new.out) (sym c.requires.dims) (subst (λ b. IsPart b (lengths layout)) (sym box) (region-in layout c.args.number c.requires.number))
