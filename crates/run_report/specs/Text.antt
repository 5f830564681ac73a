-- A report as it is printed.
use Rattle.std.specs.Prelude.{ℕ, List, [], ◌∷◌, ◌++◌, codes, decimal}
use Rattle.cluster_msgs.specs.declared.events.Report.{Report}

-- a number behind what it counts
abbrev pub count_line : List ℕ → ℕ → List ℕ
count_line what n = what ++ codes " " ++ decimal n ++ codes "\n"

-- how many tasks a worker started
abbrev pub worker_line : ℕ × ℕ → List ℕ
worker_line w = codes "worker " ++ decimal w.0 ++ codes " started " ++ decimal w.1 ++ codes "\n"

abbrev pub worker_lines : List (ℕ × ℕ) → List ℕ
worker_lines [] = []
worker_lines (w ∷ ws) = worker_line w ++ worker_lines ws

unfoldable pub report_text : Report → List ℕ
report_text r =
    count_line (codes "keys") r.keys ++ count_line (codes "edges") r.edges ++ count_line (codes "started") r.started ++ worker_lines r.workers
    ++ count_line (codes "gathers") r.gathers ++ count_line (codes "steals confirmed") r.confirmed ++ count_line (codes "steals refused") r.refused
    ++ count_line (codes "losses") r.losses
