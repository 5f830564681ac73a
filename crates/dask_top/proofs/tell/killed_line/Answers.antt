-- The pieces in their order.
use Rattle.std.proofs.Common.{◌≡◌, ◌∙◌, ◌++◌, ℕ, List, append_assoc, refl, codes, decimal}
use Rattle.std.proofs.lemmas.Result.{IfOk-weaker}
use Rattle.dask_top.proofs.tell.killed_line.Goals as goal

five : (a b c d e : List ℕ) → a ++ (b ++ (c ++ (d ++ e))) ≡ a ++ b ++ c ++ d ++ e
five a b c d e = simp append_assoc refl

pub returns : goal.returns
returns c =
    let a = c.args in
    IfOk-weaker c.format.result _ _ (λ t h. h ∙ five (codes "dask: killed worker: key ") (decimal a.key) (codes " losses ") (decimal a.losses) (codes "\n")) c.format.ensures.ok
