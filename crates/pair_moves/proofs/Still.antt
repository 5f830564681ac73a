-- Facts that have settled settle to themselves, but for new places.
use Rattle.std.proofs.Common.{◌≡◌, ℕ, Bool, true, false, cond, refl, sym, ap, ◌∙◌, is_some}
use Rattle.small_facts.proofs.Options.{cond_where_some}
use Rattle.small_facts.proofs.Truth.{cond_where_true}
use Rattle.cluster_rules.specs.Sched.{Facts, holds, known, need, ready}
use Rattle.cluster_rules.specs.SchedStep.{drop_bad, drop_has, drop_on}

-- what each stage of settling asks for stands already
pub record IsResting (f : Facts) : Type 0 where
  pub bad : (k : ℕ) → f.bad k ≡ true → known f k ≡ true
  pub losses : (k : ℕ) → known f k ≡ false → f.losses k ≡ 0
  pub has : (w k : ℕ) → holds f w k ≡ true → need f k ≡ true
  pub on : (k : ℕ) → is_some (f.on k) ≡ true → ready f k ≡ true
  pub steal : (k : ℕ) → is_some (f.steal k) ≡ true → ready f k ≡ true

none_where : (b : Bool) (n : ℕ) → (b ≡ false → n ≡ 0) → cond b n 0 ≡ n
none_where true n h = refl
none_where false n h = sym (h refl)

still_bad : (f : Facts) → IsResting f → drop_bad f ≡ f
unfolding drop_bad
still_bad f t = λ i. record f { bad = λ k. cond_where_true (known f k) (f.bad k) (t.bad k) i; losses = λ k. none_where (known f k) (f.losses k) (t.losses k) i }

still_has : (f : Facts) → IsResting f → drop_has f ≡ f
unfolding drop_has
still_has f t = λ i. record f { has = λ w k. cond_where_some (need f k) (f.has w k) (t.has w k) i }

still_on : (f : Facts) → IsResting f → drop_on f ≡ f
unfolding drop_on
still_on f t = λ i. record f { on = λ k. cond_where_some (ready f k) (f.on k) (t.on k) i; steal = λ k. cond_where_some (ready f k) (f.steal k) (t.steal k) i }

pub still_settled : (f : Facts) → IsResting f → drop_on (drop_has (drop_bad f)) ≡ f
still_settled f t = ap (λ g. drop_on (drop_has g)) (still_bad f t) ∙ ap drop_on (still_has f t) ∙ still_on f t

pub still_held : (f : Facts) → IsResting f → drop_has (drop_bad f) ≡ f
still_held f t = ap drop_has (still_bad f t) ∙ still_has f t
