use Rattle.std.proofs.Common.{◌≡◌, ℕ, List, arith, sym, ◌∙◌, subst}
use Rattle.std.proofs.lemmas.Bool.{false≢true}
use Rattle.small_facts.proofs.Results.{on_err_from}
use Rattle.nd_shape.specs.Region.{Box, IsPart}
use Rattle.nd_shape.proofs.Places.{index_at-in}
use Rattle.chunk_layout.specs.Layouts.{counts, lengths}
use Rattle.lowering_laws.proofs.Formed.{box-part}
use Rattle.cluster_world.specs.Worlds.{cluster}
use Rattle.cluster_world.proofs.Stepwise.{going_starved}
use Rattle.saved_files.specs.Saving.{saving_at}
use Rattle.job_run.proofs.Filling.{changes-then, fills-cut, fills-next}
use Rattle.sim_run.proofs.saving.save_array.Goals as goal

pub write-requires-clause-inside : goal.write-requires-clause-inside
write-requires-clause-inside g c =
    let layout = c.args.layout.now in
    let part = box-part layout _ (index_at-in (counts layout) c.loop-number.number (omega (arith, c.loop-number-test.true, c.requires.has.count))) in
    let B : Box → Type 0 = λ b. IsPart b (lengths layout) in
    let D : List ℕ → Type 0 = λ ns. IsPart c.block_region.new.out ns in
    subst D (sym (c.loop-number.invariant.changes.dims_are ∙ c.requires.dims)) (subst B (sym c.block_region.ensures) part)

pub write-requires-clause-shape : goal.write-requires-clause-shape
write-requires-clause-shape g c =
    let h = c.requires.has.there c.loop-number.number c.loop-number-test.true in
    let S : Box → Type 0 = λ b. c.in-Some.block.now.shape ≡ b.lengths in
    subst S (sym c.block_region.ensures) (c.in-Some.ensures.dims (λ e. going_starved (sym h.going ∙ e)) ∙ h.lengths_are)

pub unreachable-requires : goal.unreachable-requires
unreachable-requires g c =
    let h = c.requires.has.there c.loop-number.number c.loop-number-test.true in
    absurd (false≢true (c.in-None.ensures.present (λ e. going_starved (sym h.going ∙ e)) ∙ h.got))

pub returns-in_err-write-in-Some-clause-part : goal.returns-in_err-write-in-Some-clause-part
returns-in_err-write-in-Some-clause-part g c =
    let old = saving_at c.args.files.now c.args.place in
    let mid = saving_at c.loop-number.files c.args.place in
    let new = saving_at c.write.new.self c.args.place in
    on_err_from c.from_residual.result
    (fills-cut c.args.layout.now c.args.keys.now ((cluster c.args.world.now).blocks.got 1) c.loop-number.number mid.dims c.block_region.new.out c.in-Some.block.now old.content mid.content new.content c.loop-number-test.true
    (sym c.in-Some.ensures.block) (c.loop-number.invariant.changes.dims_are ∙ c.requires.dims) c.block_region.ensures c.loop-number.invariant.fills c.in_err-write-in-Some.ensures.part)

pub loop-number-preserved : goal.loop-number-preserved
loop-number-preserved g c =
    let old = saving_at c.args.files.now c.args.place in
    let mid = saving_at c.loop-number.files c.args.place in
    let new = saving_at c.write.new.self c.args.place in
    record {
      changes = changes-then c.args.place c.args.files.now c.loop-number.files c.write.new.self c.loop-number.invariant.changes c.write.ensures.changes;
      fills = fills-next c.args.layout.now c.args.keys.now ((cluster c.args.world.now).blocks.got 1) c.loop-number.number mid.dims c.block_region.new.out c.in-Some.block.now old.content mid.content new.content c.loop-number-test.true
          (sym c.in-Some.ensures.block) (c.loop-number.invariant.changes.dims_are ∙ c.requires.dims) c.block_region.ensures c.loop-number.invariant.fills c.in_ok-write-in-Some.ensures.filled;
    }
