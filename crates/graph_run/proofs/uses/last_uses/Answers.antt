use Rattle.std.proofs.Common.{ℕ, ◌+◌, ◌++◌, ◌∷◌, [], List, sym, ap, subst, ◌∙◌}
use Rattle.std.proofs.lemmas.List.{with_items_is}
use Rattle.cluster_msgs.specs.Shape.{deps_of}
use Rattle.graph_run.specs.Uses.{AreLastUses}
use Rattle.graph_run.specs.Writes.{IsWritten}
use Rattle.graph_run.proofs.Marking.{uses-more}
use Rattle.graph_run.proofs.uses.last_uses.Goals as goal

pub loop-key-preserved : goal.loop-key-preserved
loop-key-preserved c =
    let key = c.loop-key.key in
    let deps = deps_of c.args.graph.now in
    let marked =
    subst (λ (ks : List ℕ). IsWritten (λ d. Unit {0}) 0 key ks c.loop-key.last.items c.mark.new.last) c.deps.ensures
    (subst (λ (xs : List ℕ). IsWritten (λ d. Unit {0}) 0 key c.deps.result.now xs c.mark.new.last) c.as_mut_slice.ensures.value c.mark.ensures) in
    let whole = with_items_is c.loop-key.last c.mark.new.last (c.mark.ensures.same_length ∙ c.as_mut_slice.ensures.len) in
    subst (λ (xs : List ℕ). AreLastUses deps (key + 1) xs) (sym (c.in_ok-push.ensures.items ∙ ap (λ (xs : List ℕ). xs ++ key ∷ []) whole))
    (uses-more deps key c.loop-key.last.items c.mark.new.last c.loop-key.invariant marked)
