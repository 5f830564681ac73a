use Rattle.std.proofs.Common.{◌≡◌, ◌<◌, length, get_or, ap, sym, subst, ◌∙◌, arith}
use Rattle.std.specs.List.{AllByRecursion}
use Rattle.std.proofs.lemmas.List.{get_or_read}
use Rattle.std.proofs.lemmas.List.Elements.{All-get_or}
use Rattle.small_facts.proofs.Every.{all_push}
use Rattle.lowering_laws.specs.Stages.{no_source}
use Rattle.lowering_laws.specs.Lowered.{source_at, keys_of}
use Rattle.block_lowering.proofs.Finishing.{map-push}
use Rattle.block_lowering.proofs.finish.wanted_keys.Goals as goal

pub loop-node-preserved : goal.loop-node-preserved
loop-node-preserved c =
    let sources = c.args.sources.now in
    let saves = c.args.saves.now in
    let at = c.loop-node.node-index in
    let lt : at < length saves = omega arith in
    let item : c.node-item.result ≡ get_or saves at 0 = get_or_read saves at c.node-item.result lt c.node-item.is 0 in
    let number : c.number.result ≡ get_or saves at 0 = c.number.ensures ∙ item in
    let there : get_or saves at 0 < length sources = All-get_or (λ n. n < length sources) saves at 0 lt c.requires in
    let source : c.index-sources-number.result ≡ source_at sources c.number.result = get_or_read sources c.number.result c.index-sources-number.result (omega arith) c.index-sources-number.is no_source in
    let keys : c.from_vec.result ≡ keys_of (source_at sources (get_or saves at 0)) = c.from_vec.ensures ∙ c.in_ok-keys.ensures.value ∙ ap keys_of (source ∙ ap (source_at sources) number) in
    record {
      value = map-push (λ n. keys_of (source_at sources n)) saves at 0 c.loop-node.wanted.items c.push.new.self.items c.from_vec.result lt c.loop-node.invariant.value c.in_ok-push.ensures.items keys;
      there = subst (AllByRecursion (AllByRecursion (λ k. k < c.args.bound))) (sym c.in_ok-push.ensures.items)
          (all_push (AllByRecursion (λ k. k < c.args.bound)) c.loop-node.wanted.items c.from_vec.result c.loop-node.invariant.there
          (subst (AllByRecursion (λ k. k < c.args.bound)) (sym c.from_vec.ensures) c.in_ok-keys.ensures.there));
    }
