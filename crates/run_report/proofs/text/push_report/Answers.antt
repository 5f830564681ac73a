use Rattle.std.proofs.Common.{◌∙◌, codes, string_bytes}
use Rattle.run_report.specs.Text.{count_line, report_text, worker_lines}
use Rattle.run_report.proofs.Appending.{eight, on_ok}
use Rattle.run_report.proofs.text.push_report.Goals as goal

pub returns : goal.returns
unfolding report_text
returns c =
    on_ok c.push_count-7.result c.push_count-7.ensures (λ last. last ∙ eight (string_bytes c.args.text.now) (count_line (codes "keys") c.args.report.now.keys) (count_line (codes "edges") c.args.report.now.edges)
    (count_line (codes "started") c.args.report.now.started) (worker_lines c.args.report.now.workers) (count_line (codes "gathers") c.args.report.now.gathers) (count_line (codes "steals confirmed") c.args.report.now.confirmed)
    (count_line (codes "steals refused") c.args.report.now.refused) (count_line (codes "losses") c.args.report.now.losses) _ _ _ _ _ _ _
    c.in_ok-push_count.ensures c.in_ok-push_count-2.ensures c.in_ok-push_count-3.ensures (rw c.as_slice.ensures at c.in_ok-push_workers.ensures) c.in_ok-push_count-4.ensures c.in_ok-push_count-5.ensures c.in_ok-push_count-6.ensures)
