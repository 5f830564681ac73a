use Rattle.std.proofs.Common.{◌≡◌, ℕ, ◌+◌, ◌<◌, ◌≤◌, ◌++◌, ◌∷◌, [], false, List, length, get_or, sym, ap, ◌∙◌, subst, arith}
use Rattle.std.proofs.lemmas.List.{length_push}
use Rattle.key_sets.specs.Sets.{room}
use Rattle.task_table.specs.Lists.{in_row}
use Rattle.task_table.proofs.RowLemmas.{row_past, row_pushed, wide_pushed}
use Rattle.task_table.proofs.rows.new_rows.Goals as goal

pub loop-row-init : goal.loop-row-init
loop-row-init c =
    let e : c.new-rows.result.items ≡ [] = c.new-rows.ensures.items in
    record {
      long = ap length e;
      wide = subst (λ (rows : List (List ℕ)). (w : ℕ) → w < length rows → c.args.count ≤ room (get_or rows w [])) (sym e) (λ w l. absurd (omega arith));
      empty = subst (λ (rows : List (List ℕ)). (w k : ℕ) → in_row rows w k ≡ false) (sym e) (λ w k. row_past [] w k (omega arith));
    }

pub loop-row-preserved : goal.loop-row-preserved
loop-row-preserved c =
    let old = c.loop-row.rows.items in
    let new = c.in_ok-row.row in
    let i = c.loop-row.invariant in
    let e : c.push.new.self.items ≡ old ++ new ∷ [] = c.in_ok-push.ensures.items in
    record {
      long = ap length e ∙ length_push old new ∙ ap (λ n. n + 1) i.long;
      wide = subst (λ (rows : List (List ℕ)). (w : ℕ) → w < length rows → c.args.count ≤ room (get_or rows w [])) (sym e) (wide_pushed c.args.count old new i.wide c.in_ok-row.ensures.room);
      empty = subst (λ (rows : List (List ℕ)). (w k : ℕ) → in_row rows w k ≡ false) (sym e) (row_pushed old new i.empty c.in_ok-row.ensures.keys);
    }
