use Rattle.thread_run.proofs.Writes.{item-of, written-step}
use Rattle.thread_run.proofs.saver.write_each.Goals as goal

pub loop-place-preserved : goal.loop-place-preserved
loop-place-preserved g c =
    let w = c.args.wanted.now in
    let item = item-of w c.loop-place.place c.as_slice-keys-items.result.now c.as_slice-layouts.result.now c.keys-item.result c.as_slice.result.now c.index-layouts-place.result c.as_slice-keys-items.ensures c.as_slice-layouts.ensures
    c.requires.saved.layouts_are c.loop-place-test.true c.keys-item.is c.as_slice.ensures c.index-layouts-place.is in
    written-step g.L.Label.facts w c.args.key c.loop-place.place c.args.before c.loop-place.fault c.write_at-fault.result c.args.files.now c.loop-place.files c.write_at-fault.new.files c.as_slice.result.now c.index-layouts-place.result item
    c.requires.files.count c.loop-place.invariant c.write_at-fault.ensures
