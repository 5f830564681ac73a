use Rattle.std.proofs.Common.{◌≡◌, ℕ, List, map, sym, ap, subst, ◌∙◌}
use Rattle.task_graph.specs.Moves.{AreOrdered, ArePlaced}
use Rattle.task_graph.proofs.Ordered.{ordered, pairs-rise}
use Rattle.task_graph.proofs.moves.Change.to.Goals as goal

pub invariant_of-result : goal.invariant_of-result
invariant_of-result c =
    let placed : ArePlaced c.args.keys.items c.in_ok-pairs.pairs.items = subst (λ (ks : List ℕ). ArePlaced ks c.in_ok-pairs.pairs.items) c.as_slice.ensures.value c.in_ok-pairs.ensures in
    let o = ordered c.args.keys.items c.in_ok-pairs.pairs.items c.sort.new.self.items c.requires.few c.requires.once placed c.in_ok-sort.ensures.permutation (pairs-rise c.sort.new.self.items c.in_ok-sort.ensures.sorted) in
    let d : c.in_ok-deps.deps.items ≡ map (λ (p : ℕ × ℕ). p.0) c.sort.new.self.items = c.in_ok-deps.ensures ∙ ap (map (λ (p : ℕ × ℕ). p.0)) c.as_slice-2.ensures.value in
    let s : c.in_ok-sources.sources.items ≡ map (λ (p : ℕ × ℕ). p.1) c.sort.new.self.items = c.in_ok-sources.ensures ∙ ap (map (λ (p : ℕ × ℕ). p.1)) c.as_slice-3.ensures.value in
    subst (λ (xs : List ℕ). AreOrdered c.args.keys.items xs c.in_ok-sources.sources.items) (sym d) (subst (λ (ys : List ℕ). AreOrdered c.args.keys.items (map (λ (p : ℕ × ℕ). p.0) c.sort.new.self.items) ys) (sym s) o)
