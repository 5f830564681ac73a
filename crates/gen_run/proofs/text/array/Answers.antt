-- The pieces in their order.
use Rattle.std.proofs.Common.{◌∙◌, codes, decimal}
use Rattle.std.proofs.lemmas.Result.{IfOk-weaker}
use Rattle.gen_run.specs.Texts.{array_text}
use Rattle.gen_run.proofs.Pieces.{eleven}
use Rattle.gen_run.proofs.text.array.Goals as goal

pub returns : goal.returns
unfolding array_text
returns c =
    let a = c.args in
    IfOk-weaker c.format.result _ _ (λ t h. h ∙ eleven (codes "let a = ramp((") (decimal a.rows) (codes ", ") (decimal a.columns) (codes "), ") (decimal a.first) (codes ", 3, (") (decimal a.chunk) (codes ", ") (decimal a.chunk) (codes "))\n")) c.format.ensures.ok
