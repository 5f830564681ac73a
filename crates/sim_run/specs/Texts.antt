-- The lines that are printed after a simulation.
use Rattle.std.specs.Prelude.{ℕ, List, ◌++◌, codes}
use Rattle.cluster_msgs.specs.declared.events.Report.{Report}
use Rattle.job_run.specs.Plan.{Plan}
use Rattle.job_run.specs.Values.{saved_lines}
use Rattle.run_report.specs.Text.{count_line, report_text}

-- the saved files, the report, the turns, and the last line
abbrev pub lines_of : Plan → Report → ℕ → List ℕ
lines_of p r turns = saved_lines p.nodes p.saves ++ report_text r ++ count_line (codes "turns") turns ++ codes "finished by: simulation\n"
