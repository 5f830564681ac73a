use Rattle.std.proofs.Common.{◌∙◌, ap, sym, []}
use Rattle.cluster_rules.specs.Functions.{put}
use Rattle.cluster_rules.specs.Client.{ClientFacts}
use Rattle.gather_client.specs.Stored.{facts_of}
use Rattle.gather_client.proofs.FoldLemmas.{same_gets, same_gets_not}
use Rattle.gather_client.proofs.events.take_block.Goals as goal

pub returns-then-wants : goal.returns-then-wants
returns-then-wants c = same_gets (facts_of c.args.table.now) _ c.args.key (sym c.wants.ensures ∙ c.if-wants.true) (c.forget.ensures ∙ ap (λ (f : ClientFacts). record f { located = put f.located c.args.key [] }) c.set_got.ensures)

pub returns-else-wants : goal.returns-else-wants
returns-else-wants c = same_gets_not (facts_of c.args.table.now) c.args.key (sym c.wants.ensures ∙ c.if-wants.false)
