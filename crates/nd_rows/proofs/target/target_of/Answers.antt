use Rattle.std.proofs.Common.{ap, sym, ◌∙◌}
use Rattle.std.specs.Prelude.{reverse}
use Rattle.std.proofs.lemmas.List.{reverse-reverse}
use Rattle.nd_rows.specs.Storage.{stored}
use Rattle.nd_rows.proofs.target.target_of.Goals as goal

pub column_start-requires-clause-turned : goal.column_start-requires-clause-turned
column_start-requires-clause-turned c =
    sym (ap reverse (c.requires.turned ∙ ap (λ b. stored b c.args.block.now) c.if-column_major.true) ∙ reverse-reverse c.args.block.now)
