use Rattle.std.proofs.Common.{sym, ◌∙◌}
use Rattle.std.specs.Cmp.{signed_Decides}
use Rattle.std.proofs.lemmas.Slice.Eq.{slice_eq-Decides}
use Rattle.spill_store.proofs.shelf.has_cells.Goals as goal

pub returns : goal.returns
returns c = λ t. sym c.cells.ensures.value ∙ (slice_eq-Decides signed_Decides c.cells.result.now c.cells-2.result.now c.eq.result c.eq.ensures).0 t ∙ c.cells-2.ensures.value
