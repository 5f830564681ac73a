use Rattle.std.proofs.Common.{arith, rules, ◌≡◌, ◌<◌, ◌≤◌, ◌++◌, ◌∷◌, [], ℕ, List, length, ap, sym, ◌∙◌, append-nil}
use Rattle.nd_shape.specs.Chunk.{even_chunks}
use Rattle.chunk_layout.specs.Trees.{tree}
use Rattle.chunk_layout.proofs.Folding.{fewer-groups, tree-step, tree-end}
use Rattle.chunk_layout.proofs.fold_tree.tree.Goals as goal

pub overflow_cast-left : goal.overflow_cast-left
overflow_cast-left c =
    let e : c.len-left.result ≡ length c.in_ok-sizes.sizes.items = search rules in
    let g : length c.in_ok-sizes.sizes.items ≡ length (even_chunks c.loop-left.left c.args.split) = ap length c.in_ok-sizes.ensures in
    let f : length (even_chunks c.loop-left.left c.args.split) < c.loop-left.left = fewer-groups c.loop-left.left c.args.split (omega arith) c.requires in
    let p : c.loop-left.left ≤ c.args.partials = c.loop-left.invariant.few in
    omega (arith, c.ranges.partials.fits)

pub loop-left-smaller : goal.loop-left-smaller
loop-left-smaller c =
    let e : c.len-left.result ≡ length c.in_ok-sizes.sizes.items = search rules in
    let g : length c.in_ok-sizes.sizes.items ≡ length (even_chunks c.loop-left.left c.args.split) = ap length c.in_ok-sizes.ensures in
    let f : length (even_chunks c.loop-left.left c.args.split) < c.loop-left.left = fewer-groups c.loop-left.left c.args.split (omega arith) c.requires in
    omega arith

pub loop-left-preserved : goal.loop-left-preserved
loop-left-preserved c =
    let even = even_chunks c.loop-left.left c.args.split in
    let e : c.len-left.result ≡ length c.in_ok-sizes.sizes.items = search rules in
    let g : length c.in_ok-sizes.sizes.items ≡ length even = ap length c.in_ok-sizes.ensures in
    let h : 2 ≤ c.loop-left.left = omega arith in
    let f : length even < c.loop-left.left = fewer-groups c.loop-left.left c.args.split h c.requires in
    let few : c.loop-left.left ≤ c.args.partials = c.loop-left.invariant.few in
    let s = tree-step c.loop-left.levels (tree c.args.partials c.args.split) c.loop-left.left c.args.split h c.requires c.loop-left.invariant.value in
    let p : c.push.new.self ≡ c.loop-left.levels ++ even ∷ [] = c.in_ok-push.ensures.ok ∙ ap (λ (x : List ℕ). c.loop-left.levels ++ x ∷ []) (c.from_vec.ensures ∙ c.in_ok-sizes.ensures) in
    record {
      few = omega arith;
      value = ap (λ (ls : List (List ℕ)). ls ++ tree c.len-left.result c.args.split) p ∙ ap (λ (n : ℕ). (c.loop-left.levels ++ even ∷ []) ++ tree n c.args.split) (e ∙ g) ∙ s;
    }

pub returns : goal.returns
returns c =
    let lt : c.loop-left.left < 2 = omega arith in
    sym (append-nil c.loop-left.levels) ∙ ap (λ (ls : List (List ℕ)). c.loop-left.levels ++ ls) (sym (tree-end c.loop-left.left c.args.split lt)) ∙ c.loop-left.invariant.value
