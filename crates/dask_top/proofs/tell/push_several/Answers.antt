use Rattle.std.proofs.Common.{arith, ◌≡◌, ◌++◌, ◌∷◌, string_bytes}
use Rattle.std.specs.Prelude.{decimal}
use Rattle.std.proofs.lemmas.Grind.{common_steps}
use Rattle.nd_shape.specs.Shape.{comma_list}
use Rattle.dask_top.specs.Telling.{rest_of}
use Rattle.dask_top.proofs.Indices.{list_whole}
use Rattle.dask_top.proofs.tell.push_several.Goals as goal

pub returns : goal.returns
returns c =
    let e : (string_bytes c.args.text.now ++ decimal c.args.first) ++ rest_of c.args.rest.now ≡ string_bytes c.args.text.now ++ comma_list (c.args.first ∷ c.args.rest.now) = list_whole _ _ _ in
    grind (arith, common_steps, e)
