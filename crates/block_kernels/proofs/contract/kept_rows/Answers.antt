use Rattle.std.proofs.Common.{arith, ◌≡◌, ◌∙◌, ◌+◌, ◌*◌, ◌/◌, ◌%◌, ◌<◌, ◌++◌, ◌∷◌, [], ℕ, ℤ, List, Some, length, get_or, pos, ap, sym, subst, w64}
use Rattle.std.specs.Prelude.{Option}
use Rattle.std.proofs.lemmas.Int.{to_z-of_z}
use Rattle.std.proofs.lemmas.List.{length_push}
use Rattle.small_facts.proofs.Numbers.{below_product_right}
use mir.Val.{SFits}
use Rattle.nd_shape.specs.Shape.{elements}
use Rattle.block_kernels.specs.Contracting.{woven_at}
use Rattle.block_kernels.proofs.Contracting.{elements-more, quotient-below, rest-below-divisor}
use Rattle.block_kernels.proofs.contract.kept_rows.Goals as goal

pub overflow_mul-count : goal.overflow_mul-count
overflow_mul-count c =
    let e : c.elements.result * c.elements-width.result ≡ elements c.args.kept.now * elements c.args.paired.now = ap (λ n. n * c.elements-width.result) c.elements.ensures ∙ ap (λ n. elements c.args.kept.now * n) c.elements-width.ensures in
    omega (arith, e, c.requires.small)

pub loop-x-init : goal.loop-x-init
loop-x-init c = record { size = ap length c.in_ok-cells.ensures.items; at = λ y h. absurd (omega arith) }

pub nonzero_div-x : goal.nonzero_div-x
nonzero_div-x c = below_product_right c.elements.result c.elements-width.result c.loop-x.x c.loop-x-test.true

pub nonzero_rem-x : goal.nonzero_rem-x
nonzero_rem-x c = below_product_right c.elements.result c.elements-width.result c.loop-x.x c.loop-x-test.true

pub woven_cell-requires-clause-row : goal.woven_cell-requires-clause-row
woven_cell-requires-clause-row c = subst (λ n. c.loop-x.x / c.elements-width.result < n) c.elements.ensures (quotient-below c.elements.result c.elements-width.result c.loop-x.x c.loop-x-test.true)

pub woven_cell-requires-clause-column : goal.woven_cell-requires-clause-column
woven_cell-requires-clause-column c = subst (λ n. c.loop-x.x % c.elements-width.result < n) c.elements-width.ensures (rest-below-divisor c.elements.result c.elements-width.result c.loop-x.x c.loop-x-test.true)

pub loop-x-preserved : goal.loop-x-preserved
loop-x-preserved c =
    let fits : SFits w64 c.woven_cell.result = record { sfits = c.woven_cell.type_inv } in
    let f : ℕ → Option ℤ = λ y. woven_at c.args.axes.now c.args.block.now c.args.kept.now c.args.paired.now (y / elements c.args.paired.now) (y % elements c.args.paired.now) in
    let items : c.push.new.self.items ≡ c.loop-x.cells.items ++ c.woven_cell.result ∷ [] = c.in_ok-push.ensures.items ∙ ap (λ (v : ℤ). c.loop-x.cells.items ++ v ∷ []) (to_z-of_z w64 c.woven_cell.result fits) in
    let here : Some c.woven_cell.result ≡ f c.loop-x.x =
    c.woven_cell.ensures ∙ ap (λ w. woven_at c.args.axes.now c.args.block.now c.args.kept.now c.args.paired.now (c.loop-x.x / w) (c.loop-x.x % w)) c.elements-width.ensures in
    record {
      size = ap length items ∙ length_push c.loop-x.cells.items c.woven_cell.result ∙ ap (λ n. n + 1) c.loop-x.invariant.size;
      at = λ y h. subst (λ (xs : List ℤ). ◌≡◌ {A = Option ℤ} (Some (get_or xs y (pos 0))) (woven_at c.args.axes.now c.args.block.now c.args.kept.now c.args.paired.now (y / elements c.args.paired.now) (y % elements c.args.paired.now))) (sym items)
          (elements-more c.loop-x.cells.items c.woven_cell.result c.loop-x.x f c.loop-x.invariant.size c.loop-x.invariant.at here y h);
    }

pub returns-clause-size : goal.returns-clause-size
returns-clause-size c =
    let all : c.loop-x.x ≡ c.elements.result * c.elements-width.result = omega arith in
    c.loop-x.invariant.size ∙ all ∙ ap (λ n. n * c.elements-width.result) c.elements.ensures ∙ ap (λ n. elements c.args.kept.now * n) c.elements-width.ensures

pub returns-clause-at : goal.returns-clause-at
returns-clause-at c = λ y h.
    let all : c.loop-x.x ≡ c.elements.result * c.elements-width.result = omega arith in
    let e : c.loop-x.x ≡ elements c.args.kept.now * elements c.args.paired.now = all ∙ ap (λ n. n * c.elements-width.result) c.elements.ensures ∙ ap (λ n. elements c.args.kept.now * n) c.elements-width.ensures in
    c.loop-x.invariant.at y (subst (λ n. y < n) (sym e) h)
