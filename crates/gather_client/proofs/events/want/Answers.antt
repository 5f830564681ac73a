use Rattle.std.proofs.Common.{◌∙◌, ap}
use Rattle.std.specs.Prelude.{fold}
use Rattle.small_facts.proofs.Results.{on_ok_from}
use Rattle.cluster_rules.specs.Client.{client_wants}
use Rattle.gather_client.specs.Stored.{facts_of}
use Rattle.gather_client.specs.Steps.{wanted}
use Rattle.gather_client.proofs.FoldLemmas.{wants-all}
use Rattle.gather_client.proofs.events.want.Goals as goal

pub returns-clause-facts : goal.returns-clause-facts
returns-clause-facts c = on_ok_from c.push.result (c.want_each.ensures ∙ ap (fold wanted (facts_of c.args.table.now)) c.as_slice.ensures ∙ wants-all (facts_of c.args.table.now) c.args.keys)

pub returns-clause-instructions : goal.returns-clause-instructions
unfolding client_wants
returns-clause-instructions c = c.push.ensures.ok
