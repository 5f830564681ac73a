use Rattle.std.proofs.Common.{drop, arith}
use Rattle.std.proofs.lemmas.Grind.{common_steps}
use Rattle.msgpack_frames.specs.Groups.{total}
use Rattle.msgpack_frames.proofs.GroupLoops.{after_more}
use Rattle.msgpack_frames.proofs.group.after_frames.Goals as goal

pub loop-len-preserved : goal.loop-len-preserved
loop-len-preserved c = record {
  after = after_more c.args.lens.now c.loop-len.rest.now c.split_at.result.1.now (drop (total c.args.lens.now) c.args.bytes.now) c.loop-len.len-index (omega arith) c.split_at.ensures.back c.loop-len.invariant.after;
  room = grind (arith, common_steps);
}
