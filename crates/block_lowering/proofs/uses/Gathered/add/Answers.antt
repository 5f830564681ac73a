use Rattle.std.proofs.Common.{◌++◌, ◌∷◌, [], ℕ, List, ap, ◌∙◌}
use Rattle.lowering_laws.specs.Stages.{Use}
use Rattle.block_lowering.specs.Using.{zipped}
use Rattle.block_lowering.proofs.UsesZipped.{zipped-push}
use Rattle.block_lowering.proofs.uses.Gathered.add.Goals as goal

pub returns-in-Ok : goal.returns-in-Ok
returns-in-Ok c =
    let keys = c.self.inside.keys.items in
    let shapes = c.self.inside.shapes.items in
    let u : Use = record { key = c.args.key; shape = c.args.shape } in
    ap (λ (ks : List ℕ). zipped ks c.push.new.self.items) c.in-Ok.ensures.items
    ∙ ap (zipped (keys ++ c.args.key ∷ [])) c.in_ok-push.ensures.items
    ∙ zipped-push keys shapes c.args.key c.args.shape c.self.invariant.same
    ∙ ap (λ (us : List Use). us ++ u ∷ []) c.self.view_is
