use Rattle.std.proofs.Common.{ap, ◌∙◌}
use Rattle.key_sets.specs.Sets.{has}
use Rattle.key_sets.proofs.SetLemmas.{has-zeros}
use Rattle.key_sets.proofs.plain.PlainSet.new.Goals as goal

pub returns-clause-keys : goal.returns-clause-keys
returns-clause-keys c k =
    let e = c.in_ok-words.ensures.items_if_clones_equal (λ y h. h) in
    ap (λ ws. has ws k) e ∙ has-zeros _ k
