-- The saves of a job, one after another.
use Rattle.std.proofs.Common.{◌≡◌, ℕ, ◌+◌, ◌<◌, ◌≤◌, List, [], ◌∷◌, ◌++◌, map, length, take, get_or, string_bytes, ap, sym, ◌∙◌, arith, append_assoc, append-nil}
use Rattle.std.proofs.lemmas.List.{get_or-map, length-map, map_more, take_all}
use Rattle.array_expr.specs.declared.expr.Node.{Node}
use Rattle.job_plan.specs.declared.job.Save.{Save}
use Rattle.job_run.specs.Jobs.{saved_of}
use Rattle.job_run.specs.Plan.{Saved}
use Rattle.job_run.specs.Values.{saved_line, saved_lines}

-- what a function makes of the save at a place
at_save : {B : Type 0} (f : Saved → B) (none : B) (saves : List Save) (i : ℕ) (save : Save) → i < length saves → save ≡ get_or saves i save → get_or (map f (map saved_of saves)) i none ≡ f (saved_of save)
at_save f none saves i save h is =
    get_or-map f (map saved_of saves) i (saved_of save) none (omega (arith, h, length-map saves saved_of)) ∙ ap f (get_or-map saved_of saves i save (saved_of save) h ∙ ap saved_of (sym is))

pub saved_node : (saves : List Save) (i : ℕ) (save : Save) → i < length saves → save ≡ get_or saves i save → get_or (map (λ s. s.node) (map saved_of saves)) i 0 ≡ save.node
saved_node saves i save h is = at_save (λ s. s.node) 0 saves i save h is

pub saved_name : (saves : List Save) (i : ℕ) (save : Save) → i < length saves → save ≡ get_or saves i save → get_or (map (λ s. s.file) (map saved_of saves)) i [] ≡ string_bytes save.file
saved_name saves i save h is = at_save (λ s. s.file) [] saves i save h is

lines_snoc : (nodes : List Node) (saves : List Saved) (s : Saved) → saved_lines nodes (saves ++ s ∷ []) ≡ saved_lines nodes saves ++ saved_line nodes s
lines_snoc nodes [] s = append-nil (saved_line nodes s)
lines_snoc nodes (t ∷ saves) s = ap (λ x. saved_line nodes t ++ x) (lines_snoc nodes saves s) ∙ sym (append_assoc (saved_line nodes t) (saved_lines nodes saves) (saved_line nodes s))

pub lines_more : (nodes : List Node) (saves : List Save) (i : ℕ) (save : Save) → i < length saves → save ≡ get_or saves i save → saved_lines nodes (map saved_of (take (i + 1) saves)) ≡ saved_lines nodes (map saved_of (take i saves)) ++ saved_line nodes (saved_of save)
lines_more nodes saves i save h is =
    ap (saved_lines nodes) (map_more saved_of saves i save h) ∙ (lines_snoc nodes (map saved_of (take i saves)) (saved_of (get_or saves i save)) ∙ ap (λ s. saved_lines nodes (map saved_of (take i saves)) ++ saved_line nodes (saved_of s)) (sym is))

pub lines_whole : (nodes : List Node) (saves : List Save) (i : ℕ) → length saves ≤ i → saved_lines nodes (map saved_of (take i saves)) ≡ saved_lines nodes (map saved_of saves)
lines_whole nodes saves i h = ap (λ x. saved_lines nodes (map saved_of x)) (take_all i saves h)
