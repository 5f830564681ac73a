use Rattle.std.proofs.Common.{◌≡◌, ◌<◌, false, ap, ◌∙◌, arith, length}
use Rattle.std.proofs.lemmas.List.Elements.{All-set}
use Rattle.std.proofs.Math.ListN.{length-set}
use Rattle.fact_rows.specs.Rows.{read, cell}
use Rattle.fact_rows.proofs.RowLemmas.{kept_more, kept_all}
use Rattle.fact_rows.proofs.rows.Grid.keep.Goals as goal

pub loop-row-preserved : goal.loop-row-preserved
loop-row-preserved g c =
    let same : length c.self.inside.rows.items ≡ length c.args.self.now.1 = ap (λ v. length v.1) c.self.view_is in
    let lt : c.loop-row.row < length c.loop-row.self-inside.rows.items = omega (arith, same, c.loop-row.invariant.long, c.len-row-end.ensures) in
    record {
      long = length-set _ _ _ ∙ c.loop-row.invariant.long;
      wide = c.loop-row.invariant.wide;
      each = All-set (λ row. length row ≡ c.loop-row.self-inside.wide) c.loop-row.self-inside.rows.items c.loop-row.row c.keep.new.self (c.keep.ensures.length ∙ ap length c.index_mut.ensures.value ∙ c.loop-row.invariant.each c.loop-row.row c.index_mut.result.now lt) c.loop-row.invariant.each;
      done = kept_more (cell c.args.self.now c.args.other) (read c.args.mask.now false) c.args.other c.loop-row.self-inside.rows.items c.loop-row.row c.index_mut.result.now c.keep.new.self lt c.index_mut.ensures.value c.keep.ensures.meaning c.loop-row.invariant.done;
    }

pub returns-clause-meaning : goal.returns-clause-meaning
returns-clause-meaning g c =
    let same : length c.self.inside.rows.items ≡ length c.args.self.now.1 = ap (λ v. length v.1) c.self.view_is in
    λ i w k. kept_all c.args.self.now.1 c.loop-row.self-inside.rows.items (read c.args.mask.now false) c.args.other c.loop-row.row c.loop-row.invariant.long (omega (arith, same, c.loop-row.invariant.long, c.len-row-end.ensures)) c.loop-row.invariant.done w k i
