use Rattle.std.proofs.Common.{◌≡◌, ℕ, ◌+◌, ◌*◌, ◌<◌, get_or, pos, Some, subst, arith}
use Rattle.std.specs.Prelude.{Option, IfSome, IfNone}
use Rattle.block_kernels.specs.Rows.{at_place, Misses}
use Rattle.block_kernels.proofs.RowLemmas.{fills-more, misses-more}
use Rattle.block_kernels.proofs.rows.append_rows.Goals as goal

pub returns-in-Some-clause-missing : goal.returns-in-Some-clause-missing
returns-in-Some-clause-missing g c =
    let g' = g.F.Rows.grid c.args.formula.now in
    let run = c.args.run in
    let missed : Misses g' (c.loop-row.row * run) run c.in-Some.place =
    subst (λ (m : Option ℕ). IfSome m (λ z. Misses g' (c.loop-row.row * run) run z)) c.in-Some.is c.in_ok-place.ensures.missing in
    misses-more g' c.loop-row.row c.args.rows run c.in-Some.place c.loop-row.cells.items c.loop-row-test.true c.loop-row.invariant.filled missed

pub loop-row-preserved : goal.loop-row-preserved
loop-row-preserved g c =
    let g' = g.F.Rows.grid c.args.formula.now in
    let row = c.loop-row.row in
    let run = c.args.run in
    let filled : (r : ℕ) → r < run → at_place g' (row * run + r) ≡ Some (get_or c.append_row.new.cells.items (row * run + r) (pos 0)) =
    subst (λ (m : Option ℕ). IfNone m ((r : ℕ) → r < run → at_place g' (row * run + r) ≡ Some (get_or c.append_row.new.cells.items (row * run + r) (pos 0)))) c.in-None.is c.in_ok-place.ensures.filled in
    record {
      size = omega (arith, c.in_ok-place.ensures.len);
      filled = fills-more g' row 1 run c.loop-row.cells.items c.append_row.new.cells.items c.loop-row.invariant.filled c.in_ok-place.ensures.kept (λ r h. filled r (omega (arith, h)));
    }
