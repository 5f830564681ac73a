-- The workers that are there.
use Rattle.std.proofs.Common.{◌≡◌, ℕ, ◌+◌, [], ◌∷◌, ◌++◌, ap, ◌∙◌, arith, add-one}
use Rattle.small_facts.proofs.Ranges.{range_suc}
use Rattle.cluster_rules.specs.Functions.{from_one}

pub one_more : (n : ℕ) → from_one (n + 1) ≡ from_one n ++ (n + 1) ∷ []
one_more n =
    let q : 1 + n ≡ n + 1 = omega arith in
    ap from_one (add-one n) ∙ range_suc 1 n ∙ ap (λ k. from_one n ++ k ∷ []) q
