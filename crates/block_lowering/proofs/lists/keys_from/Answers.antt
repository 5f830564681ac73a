use Rattle.std.proofs.Common.{◌+◌, ◌++◌, ◌∷◌, [], ℕ, List, ap, sym, ◌∙◌}
use Rattle.small_facts.proofs.Ranges.{range_push}
use Rattle.block_lowering.proofs.lists.keys_from.Goals as goal

pub loop-k-preserved : goal.loop-k-preserved
loop-k-preserved c =
    c.in_ok-push.ensures.items ∙ ap (λ (ks : List ℕ). ks ++ (c.args.first + c.loop-k.k) ∷ []) c.loop-k.invariant ∙ sym (range_push c.args.first c.loop-k.k)
