-- The order of offers.
use Rattle.std.specs.Prelude.{ℕ, Bool, List, [], ◌∷◌}
use Rattle.cluster_rules.specs.Choice.{is_before}
use Rattle.balance_policy.specs.declared.offer.Offer.{Offer}

-- by level, then victim, key and thief
abbrev pub rank_of : Offer → List ℕ
rank_of o = o.level ∷ o.steal.victim ∷ o.steal.key ∷ o.steal.thief ∷ []

abbrev pub comes_before : Offer → Offer → Bool
comes_before y z = is_before (rank_of y) (rank_of z)
