use Rattle.std.proofs.Common.{rules, w64, ◌∙◌}
use Rattle.std.proofs.lemmas.Int.{to_z-of_z}
use mir.Val.{SFits}
use Rattle.npy_region.proofs.kernels.fn.append_big.map+FnOnce.call_once.Goals as goal

pub returns : goal.returns
returns g c =
    let fits : SFits w64 c.map.result = search rules in
    (c.args.arg1, to_z-of_z w64 c.map.result fits ∙ c.map.ensures)
