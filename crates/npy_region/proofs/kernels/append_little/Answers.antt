use Rattle.std.proofs.Common.{◌≡◌, ◌≤◌, ◌+◌, ◌/◌, length, ap, rules, ◌∙◌, false}
use Rattle.std.specs.Vec.{vec_len, vec_capacity}
use Rattle.std.specs.Prelude.{map}
use Rattle.std.specs.Slice.Iter.{iter_rest}
use Rattle.std.proofs.lemmas.Iterator.{YieldsList-from_slice, YieldsList-from_map}
use Rattle.std.proofs.lemmas.Iterator.Adapters.{items_from_extend}
use Rattle.npy_codec.specs.Npy.{wide_cell}
use Rattle.npy_region.proofs.CellLemmas.{extended}
use Rattle.npy_region.proofs.kernels.append_little.Goals as goal

pub returns : goal.returns
returns g c =
    let elements = c.as_chunks.result.0.now in
    let cell = wide_cell g.row.N false in
    let items = items_from_extend {all = map cell elements} c.extend.result c.extend.ensures.ran
    (YieldsList-from_map _ cell (YieldsList-from_slice elements (ap iter_rest c.map.ensures.source ∙ c.iter.ensures.rest)) c.map.ensures.closure (λ x r q k. search rules)) in
    extended (vec_len c.extend.new.self ≡ vec_len c.args.out.now + length (map cell elements)) (vec_capacity c.args.out.now ≤ vec_capacity c.extend.new.self) c.extend.result g.row.N false (length c.args.bytes.now / g.row.N) c.args.bytes.now elements c.args.out.now.items c.extend.new.self.items c.as_chunks.ensures.front items
