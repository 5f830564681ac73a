use Rattle.std.proofs.Common.{◌≡◌, ℕ, true, subst}
use Rattle.std.specs.Prelude.{◌==◌}
use Rattle.std.specs.List.{list_any}
use Rattle.cluster_rules.specs.Worker.{ask_items}
use Rattle.cluster_rules.specs.Client.{client_fetchable}
use Rattle.gather_client.specs.Stored.{facts_of}
use Rattle.gather_client.proofs.AskLemmas.{ask_of_front}
use Rattle.gather_client.proofs.KeptLemmas.{ask_keys}
use Rattle.gather_client.proofs.table.ClientTable.ask_items.Goals as goal

pub returns-clause-items : goal.returns-clause-items
unfolding ask_items
returns-clause-items c = rw (c.truncate.ensures.items, c.fitting_count.ensures, c.as_slice.ensures.value, c.shape.ensures, c.in_ok-items.ensures) (ask_of_front (facts_of c.args.self.now).shape (client_fetchable (facts_of c.args.self.now) c.args.peer))

pub returns-clause-keys : goal.returns-clause-keys
returns-clause-keys c = λ k h. (ask_keys (facts_of c.args.self.now) c.args.peer k (subst (λ (is : _). list_any (λ (i : ℕ × ℕ). i.0 == k) is ≡ true) (returns-clause-items c) h)).0
