use Rattle.std.proofs.Common.{ℕ, ◌+◌, length, get_or, ap, sym, ◌∙◌, arith, pos}
use Rattle.block_kernels.proofs.Spots.{down-below, down-place, down-twice, down-from, down-begin, up-spot, up-twice, up-from, up-begin, first-below}
use Rattle.block_kernels.proofs.gather.gather.Goals as goal

pub overflow_mul-from : goal.overflow_mul-from
overflow_mul-from c =
    omega (
      arith,
      down-below c.args.first c.args.second c.args.from (c.requires.row.place c.args.from) c.if-second-first.true (c.requires.row.spot c.args.from (omega arith)),
      first-below (length c.args.cells.now) c.args.first c.args.second (c.args.from + length c.args.out.now) c.requires.row (omega arith),
    )

pub overflow_sub-first : goal.overflow_sub-first
overflow_sub-first c = down-below c.args.first c.args.second c.args.from (c.requires.row.place c.args.from) c.if-second-first.true (c.requires.row.spot c.args.from (omega arith))

pub gather_down-requires-clause-inside : goal.gather_down-requires-clause-inside
gather_down-requires-clause-inside c = λ i h. down-from (length c.args.cells.now) c.args.first c.args.second c.args.from i (c.args.from + length c.args.out.now) c.if-second-first.true c.requires.row (omega arith)

pub gather_down-requires-clause-start : goal.gather_down-requires-clause-start
gather_down-requires-clause-start c = down-begin (length c.args.cells.now) c.args.first c.args.second c.args.from (c.args.from + length c.args.out.now) c.if-second-first.true c.requires.row (omega arith)

pub overflow_mul-from-else-second-first-2 : goal.overflow_mul-from-else-second-first-2
overflow_mul-from-else-second-first-2 c = omega (arith, up-begin (length c.args.cells.now) c.args.first c.args.second c.args.from (c.args.from + length c.args.out.now) c.if-second-first.false c.requires.row (omega arith))

pub overflow_add-first-else-second-first-2 : goal.overflow_add-first-else-second-first-2
overflow_add-first-else-second-first-2 c = omega (arith, up-begin (length c.args.cells.now) c.args.first c.args.second c.args.from (c.args.from + length c.args.out.now) c.if-second-first.false c.requires.row (omega arith))

pub gather_up-requires-clause-inside : goal.gather_up-requires-clause-inside
gather_up-requires-clause-inside c = λ i h. up-from (length c.args.cells.now) c.args.first c.args.second c.args.from i (c.args.from + length c.args.out.now) c.if-second-first.false c.requires.row (omega arith)

pub returns-then-second-first-clause-each : goal.returns-then-second-first-clause-each
returns-then-second-first-clause-each c = λ i p h s.
    c.gather_down.ensures.each i h
    ∙ ap (λ (k : ℕ). get_or c.args.cells.now k (pos 0)) (down-twice c.args.first _ c.args.from i ∙ down-place c.args.first c.args.second (c.args.from + i) p c.if-second-first.true s)

pub returns-else-second-first-2-clause-each : goal.returns-else-second-first-2-clause-each
returns-else-second-first-2-clause-each c = λ i p h s.
    c.gather_up.ensures.each i h
    ∙ ap (λ (k : ℕ). get_or c.args.cells.now k (pos 0)) (up-twice c.args.first _ c.args.from i ∙ sym (up-spot c.args.first c.args.second (c.args.from + i) p c.if-second-first.false s))
