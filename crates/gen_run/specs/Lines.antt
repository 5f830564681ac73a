-- The lines that are printed of a job that a number makes.
use Rattle.std.specs.Prelude.{ℕ, List, [], ◌++◌, codes, slice_index_or}
use Rattle.sha2.specs.Sha256.{sha256}
use Rattle.hex.specs.Hex.{encode_lower}
use Rattle.nd_shape.specs.Shape.{shape_text}
use Rattle.cluster_msgs.specs.declared.events.Report.{Report}
use Rattle.array_expr.specs.Node.{shape_at}
use Rattle.plain_eval.specs.Held.{held_in}
use Rattle.run_report.specs.Text.{count_line, report_text}
use Rattle.job_run.specs.Plan.{Plan, name_at, nodes_saved}
use Rattle.job_run.specs.Values.{Named, files_of}

-- the array's shape, and the digest of its file in lower-case digits
abbrev pub digest_line : List ℕ → List ℕ → List ℕ
digest_line shape file = codes "s " ++ shape_text shape ++ codes " sha256 " ++ encode_lower (sha256 file) ++ codes "\n"

-- the array, the report and the turns
abbrev pub lines_over : List ℕ → List ℕ → Report → ℕ → List ℕ
lines_over shape file report turns = digest_line shape file ++ report_text report ++ count_line (codes "turns") turns

-- what the inputs of a job hold that has none
abbrev pub no_elements : Named
no_elements = held_in []

-- the shape of the first array that a job saves, and the file of it that the sequential evaluation makes of no inputs
abbrev pub first_shape : Plan → List ℕ
first_shape p = shape_at p.nodes (slice_index_or (nodes_saved p) 0 0)

abbrev pub first_file : Plan → List ℕ
first_file p = name_at (files_of p no_elements) 0

abbrev pub lines_of : Plan → Report → ℕ → List ℕ
lines_of p report turns = lines_over (first_shape p) (first_file p) report turns
