use Rattle.std.proofs.Common.{◌<◌, ℕ, length, get_or, subst, sym, arith}
use Rattle.graph_run.proofs.Writing.{written-more}
use Rattle.graph_run.proofs.uses.mark.Goals as goal

pub loop-dep-preserved : goal.loop-dep-preserved
loop-dep-preserved c =
    let i = c.loop-dep.dep-index in
    let lt : i < length c.args.deps.now = omega arith in
    let room : get_or c.args.deps.now i 0 < length c.loop-dep.last = subst (λ (n : ℕ). get_or c.args.deps.now i 0 < n) (sym c.loop-dep.auto.last) (c.requires i 0 lt) in
    written-more (λ d. Unit {0}) 0 c.args.key c.args.deps.now i c.args.last.now c.loop-dep.last lt room tt c.loop-dep.invariant
