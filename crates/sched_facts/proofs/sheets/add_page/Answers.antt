use Rattle.std.proofs.Common.{ap, ◌∙◌, arith, get_or}
use Rattle.sched_facts.proofs.GridLemmas.{read-push}
use Rattle.sched_facts.proofs.sheets.add_page.Goals as goal

pub loop-key-preserved : goal.loop-key-preserved
loop-key-preserved g c = record {
  long = omega (arith, c.push_reserved.ensures.len, c.loop-key.invariant.long);
  room = c.push_reserved.ensures.capacity ∙ c.loop-key.invariant.room;
  same = λ k. ap (λ xs. get_or xs k c.args.rest) c.push_reserved.ensures.items ∙ (λ i. read-push c.loop-key.items.items c.args.rest i k) ∙ c.loop-key.invariant.same k;
}
