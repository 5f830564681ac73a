use Rattle.std.proofs.Common.{true, false, sym, ◌∙◌}
use Rattle.key_sets.specs.Sets.{has}
use Rattle.key_sets.proofs.SetLemmas.{toggled}
use Rattle.key_sets.proofs.set.KeySet.toggle.Goals as goal

pub returns-then-contains-clause-keys : goal.returns-then-contains-clause-keys
returns-then-contains-clause-keys c = toggled (has c.args.self.now) (has c.remove.new.self) c.args.key true (sym c.contains.ensures ∙ c.if-contains.true) c.remove.ensures.keys

pub returns-else-contains-clause-keys : goal.returns-else-contains-clause-keys
returns-else-contains-clause-keys c = toggled (has c.args.self.now) (has c.insert.new.self) c.args.key false (sym c.contains.ensures ∙ c.if-contains.false) c.insert.ensures.keys
