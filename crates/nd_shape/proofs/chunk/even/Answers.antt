use Rattle.nd_shape.proofs.Totals.{exit_whole, exit_rest}
use Rattle.nd_shape.proofs.chunk.even.Goals as goal
use Rattle.nd_shape.proofs.chunk.even.Goals.{then-len-size-ne0+in_ok-push, else-len-size-ne0}

pub returns : goal.returns
returns c =
    elim c.if-len-size-ne0.branch [
      | then-len-size-ne0+in_ok-push w ↦
          let e = exit_rest c.args.len c.args.size c.min-whole.result c.in_ok-sizes.sizes.items c.if-len-eq0.false c.requires.cut c.min-whole.ensures (c.in_ok-sizes.ensures.items_if_clones_equal (λ y h. h)) w.if-len-size-ne0.true in
          rw (w.sizes-is, w.in_ok-push.ensures.items) e
      | else-len-size-ne0 w ↦
          let e = exit_whole c.args.len c.args.size c.min-whole.result c.in_ok-sizes.sizes.items c.if-len-eq0.false c.requires.cut c.min-whole.ensures (c.in_ok-sizes.ensures.items_if_clones_equal (λ y h. h)) w.if-len-size-ne0.false in
          rw w.sizes-is e
    ]
