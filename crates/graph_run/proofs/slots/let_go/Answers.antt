use Rattle.std.proofs.Common.{◌≡◌, ◌<◌, ℕ, ◌+◌, List, length, get_or, take, subst, sym, arith}
use Rattle.std.specs.Prelude.{Option, None}
use Rattle.std.specs.declared.sync.Arc.{Arc}
use Rattle.std.specs.declared.alloc.Global.{Global}
use Rattle.graph_run.specs.Writes.{IsWritten}
use Rattle.graph_run.proofs.Writing.{written-more, unwritten-more}
use Rattle.graph_run.proofs.slots.let_go.Goals as goal
use Rattle.graph_run.proofs.slots.let_go.Goals.{then-last-at+in-Some-1, then-last-at+in-None-1, else-last-at}

pub loop-key-preserved : goal.loop-key-preserved
loop-key-preserved g c =
    let i = c.loop-key.key-index in
    let keys = c.args.keys.now in
    let old = c.args.slots.now in
    let P = λ (k : ℕ). get_or c.args.last.now k 0 ≡ c.args.user in
    let Written = λ (xs : List (Option (Arc g.row.B.Denot Global))). IsWritten P None None (take (i + 1) keys) old xs in
    let lt : i < length keys = omega arith in
    let room : get_or keys i 0 < length c.loop-key.slots = subst (λ (n : ℕ). get_or keys i 0 < n) (sym c.loop-key.auto.slots) (c.requires.below i 0 lt) in
    elim c.if-last-at.branch [
      | then-last-at+in-Some-1 w ↦ subst Written (sym w.slots-is) (written-more P None None keys i old c.loop-key.slots lt room w.if-last-at.true c.loop-key.invariant)
      | then-last-at+in-None-1 w ↦ subst Written (sym w.slots-is) (written-more P None None keys i old c.loop-key.slots lt room w.if-last-at.true c.loop-key.invariant)
      | else-last-at w ↦ subst Written (sym w.slots-is) (unwritten-more P None None keys i old c.loop-key.slots lt w.if-last-at.false c.loop-key.invariant)
    ]
