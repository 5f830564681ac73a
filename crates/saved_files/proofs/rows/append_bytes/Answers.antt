use Rattle.std.proofs.Common.{ap, ◌∙◌, rules}
use Rattle.std.specs.Prelude.{map}
use Rattle.std.specs.Slice.Iter.{iter_rest}
use Rattle.std.proofs.lemmas.Iterator.{YieldsList-from_slice, YieldsList-from_map}
use Rattle.std.proofs.lemmas.Iterator.Adapters.{items_from_extend}
use Rattle.npy_codec.specs.Npy.{cell_bytes}
use Rattle.saved_files.proofs.rows.append_bytes.Goals as goal

pub returns : goal.returns
returns c =
    let cells = c.args.cells.now in
    let items = items_from_extend {all = map cell_bytes cells} c.extend.result c.extend.ensures.ran
    (YieldsList-from_map _ cell_bytes (YieldsList-from_slice cells (ap iter_rest c.map.ensures.source ∙ c.iter.ensures.rest)) c.map.ensures.closure (λ x r q k. search rules)) in
    search rules
