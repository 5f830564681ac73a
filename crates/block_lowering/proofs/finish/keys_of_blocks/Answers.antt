use Rattle.std.proofs.Common.{◌<◌, [], ◌∷◌, ◌++◌, map, ap, sym, subst, ◌∙◌, arith}
use Rattle.std.specs.List.{AllByRecursion, range_with_len}
use Rattle.std.proofs.lemmas.List.FromFn.{map-range_with_len_more}
use Rattle.small_facts.proofs.Every.{all_push}
use Rattle.lowering_laws.specs.Sources.{key_of}
use Rattle.block_lowering.proofs.finish.keys_of_blocks.Goals as goal

pub loop-block-preserved : goal.loop-block-preserved
loop-block-preserved c = record {
  value = c.in_ok-push.ensures.items ∙ ap (λ ks. ks ++ c.in_ok-key.key ∷ []) c.loop-block.invariant.value
      ∙ ap (λ k. map (key_of c.args.source.now) (range_with_len 0 c.loop-block.block) ++ k ∷ []) c.in_ok-key.ensures.value
      ∙ sym (map-range_with_len_more (key_of c.args.source.now) 0 c.loop-block.block c.loop-block.block (omega arith));
  there = subst (AllByRecursion (λ k. k < c.args.bound)) (sym c.in_ok-push.ensures.items)
      (all_push (λ k. k < c.args.bound) c.loop-block.keys.items c.in_ok-key.key c.loop-block.invariant.there c.if-key-bound.false);
}
