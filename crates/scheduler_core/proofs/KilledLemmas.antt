-- A key that has lost its worker more often than is allowed has lost it once more.
use Rattle.std.proofs.Common.{◌≡◌, ℕ, true, Option, Some, None, refl, ◌∙◌, ap, sym, arith}
use Rattle.std.proofs.lemmas.Bool.{false≢true, ltb-true}
use Rattle.cluster_rules.specs.Sched.{Facts, is_above}
use Rattle.cluster_laws.specs.Settled.{IsSettled}
use Rattle.scheduler_core.specs.Killed.{IsKilled}

pub killed_is : (f : Facts) (k : ℕ) → IsSettled f → is_above f.setting.allowed (f.losses k) ≡ true → IsKilled f k (f.losses k)
killed_is f k s e = pick f.setting.allowed refl
  where
    pick : (o : Option ℕ) → f.setting.allowed ≡ o → IsKilled f k (f.losses k)
    pick None q = absurd (false≢true (ap (λ o. is_above o (f.losses k)) (sym q) ∙ e))
    pick (Some a) q =
        let l = ltb-true a (f.losses k) (ap (λ o. is_above o (f.losses k)) (sym q) ∙ e) in
        let m = s.losses_stop k a q in
        record { counted = refl; above = (a, q, omega (arith, l, m)); bad = s.killed_are_errors k e }
