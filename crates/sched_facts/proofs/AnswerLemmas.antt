-- Threads that fit, and when a worker is full, for those that answer the policies' questions.
use Rattle.std.proofs.Common.{◌≡◌, ℕ, ◌*◌, ◌≤◌, Option, Some, None, refl, unwrap_or, arith}
use Rattle.std.specs.Prelude.{nat_le}
use Rattle.cluster_rules.specs.Sched.{Facts, IsSound, threads_of, tasks, full}

pub threads_few : (f : Facts) (w : ℕ) → IsSound f → threads_of f w ≤ 16
threads_few f w s = pick (f.threads w) refl
  where
    pick : (o : Option ℕ) → f.threads w ≡ o → unwrap_or o 0 ≤ 16
    pick None e = omega arith
    pick (Some n) e = (s.threads w n e).1

pub full_by : (f : Facts) (w t s n : ℕ) → t ≡ threads_of f w → s ≡ f.setting.saturation → n ≡ tasks f w → nat_le (t * s) (10 * n) ≡ full f w
unfolding full
full_by f w t s n a b c = λ i. nat_le (a i * b i) (10 * c i)
