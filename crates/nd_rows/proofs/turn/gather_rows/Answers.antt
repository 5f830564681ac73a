use Rattle.std.proofs.Common.{◌≡◌, ◌+◌, ◌-◌, ◌*◌, ◌/◌, ◌<◌, ◌≤◌, length, take, drop, arith, ap, sym, ◌∙◌, subst, refl}
use Rattle.std.proofs.lemmas.List.{length-drop, length-take}
use Rattle.nd_shape.specs.Shape.{elements}
use Rattle.nd_rows.proofs.Turns.{rows_of, row_ends, gathered_inside, gathered}
use Rattle.nd_rows.proofs.turn.gather_rows.Goals as goal

pub nonzero_div-rows : goal.nonzero_div-rows
nonzero_div-rows c = (rows_of c.args.shape.now c.args.row_len (elements c.args.shape.now / c.args.row_len) c.requires.row c.requires.some refl).some

pub gather-requires-clause-inside : goal.gather-requires-clause-inside
gather-requires-clause-inside c = λ k k_in.
    let m = c.args.row_len in
    let r = c.loop-row.row in
    let h = rows_of c.args.shape.now m (length c.args.block.now / m) c.requires.row c.requires.some (ap (λ n. n / m) c.requires.block) in
    let small : k < m = omega (arith, k_in, length-take ((r + 1) * m - r * m) (drop (r * m) c.loop-row.block)) in
    subst (λ n. c.column_start-at.result + k * (length c.args.block.now / m) < n) (sym c.requires.cells)
    (gathered_inside c.args.shape.now m (length c.args.block.now / m) r c.column_start-at.result k h c.loop-row-test.true c.column_start-at.ensures.place small)

pub gather-requires-clause-small : goal.gather-requires-clause-small
gather-requires-clause-small c = omega arith

pub loop-row-preserved : goal.loop-row-preserved
loop-row-preserved c =
    let m = c.args.row_len in
    let r = c.loop-row.row in
    let h = rows_of c.args.shape.now m (length c.args.block.now / m) c.requires.row c.requires.some (ap (λ n. n / m) c.requires.block) in
    let whole : length c.loop-row.block ≡ elements c.args.shape.now = c.loop-row.auto.block ∙ c.requires.block in
    let ends : (r + 1) * m ≤ length c.args.block.now / m * m = row_ends (length c.args.block.now / m) m r c.loop-row-test.true in
    let exact : elements c.args.shape.now ≡ length c.args.block.now / m * m = h.exact in
    let size : length (take ((r + 1) * m - r * m) (drop (r * m) c.loop-row.block)) ≡ m =
    omega (arith, whole, ends, exact, length-take ((r + 1) * m - r * m) (drop (r * m) c.loop-row.block), length-drop (r * m) c.loop-row.block) in
    gathered c.args.shape.now c.args.cells.now c.loop-row.block c.gather.new.row m (length c.args.block.now / m) r c.column_start-at.result ((r + 1) * m - r * m) h
    c.loop-row-test.true c.column_start-at.ensures.place whole (c.gather.auto.row ∙ size) c.loop-row.invariant
    (λ j j_in. c.gather.ensures j (subst (λ n. j < n) (sym size) j_in))

pub returns : goal.returns
returns c = λ p p_in.
    let m = c.args.row_len in
    let h = rows_of c.args.shape.now m (length c.args.block.now / m) c.requires.row c.requires.some (ap (λ n. n / m) c.requires.block) in
    let exact : elements c.args.shape.now ≡ length c.args.block.now / m * m = h.exact in
    let last : c.loop-row.row ≡ length c.args.block.now / m = omega arith in
    c.loop-row.invariant p (subst (λ n. p < n) (exact ∙ ap (λ n. n * m) (sym last)) p_in)
