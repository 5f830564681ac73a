use Rattle.std.proofs.Common.{◌∙◌}
use Rattle.io_edge.proofs.OpeningLaws.{knows_then, one_more_name}
use Rattle.io_edge.proofs.book.touch_all.Goals as goal

pub loop-name-preserved : goal.loop-name-preserved
loop-name-preserved c =
    let e = one_more_name c.args.names.now c.loop-name.name-index c.name-item.result c.as_str.result.now c.loop-name-test.true c.name-item.is c.as_str.ensures.value in
    record {
      same = λ q. c.touch.ensures.same q ∙ c.loop-name.invariant.same q;
      known = rw e (knows_then _ _ c.loop-name.book c.touch.new.book c.loop-name.invariant.known c.touch.ensures.keeps c.in_ok-touch.ensures.there);
    }
