use Rattle.std.proofs.Common.{◌∙◌}
use Rattle.block_lowering.proofs.UsesZipped.{deps-of}
use Rattle.block_lowering.proofs.uses.Uses.into_deps.Goals as goal

pub returns : goal.returns
returns c =
    let s = c.self.inside in
    c.from_vec.ensures ∙ deps-of s.keys.items s.shapes.items s.deps.items c.args.self c.self.invariant c.self.view_is
