use Rattle.std.proofs.Common.{◌+◌, length, ap, ◌∙◌, length-append, ◌∷◌, [], inr}
use Rattle.saved_files.proofs.RowLemmas.{runs_push}
use Rattle.saved_files.proofs.rows.all_runs.Goals as goal

pub loop-region-preserved : goal.loop-region-preserved
loop-region-preserved c =
    record {
      count = ap length c.in_ok-push.ensures.items ∙ (length-append c.loop-region.all.items (c.in_ok-runs.runs ∷ []) ∙ ap (λ n. n + 1) c.loop-region.invariant.count);
      runs = λ k h. runs_push c.args.head.now c.args.regions.now c.loop-region.all.items c.push.new.self.items c.in_ok-runs.runs c.region-item.result c.loop-region.region-index k
          c.in_ok-push.ensures.items c.loop-region.invariant.count c.loop-region-test.true c.region-item.is c.loop-region.invariant.runs c.in_ok-runs.ensures h;
    }

pub region_runs-requires-clause-width : goal.region_runs-requires-clause-width
region_runs-requires-clause-width c = inr (inr (inr c.requires.width))
