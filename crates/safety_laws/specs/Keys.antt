-- What the scheduler keeps of a key that nobody needs.
use Rattle.std.specs.Prelude.{◌≡◌, ◌⊎◌, ℕ, true, false, None}
use Rattle.cluster_msgs.specs.declared.cores.Phase.TheVariants.{Erred, Released, Forgotten}
use Rattle.cluster_rules.specs.Sched.{Facts, held, known, need, phase}

-- a key outside the cone of every wanted key is forgotten: no holder, assignment, steal, error or loss of it is kept
pub record IsForgotten (f : Facts) (k : ℕ) : Type 0 where
  pub phase : phase f k ≡ Forgotten
  pub has : (i : ℕ) → f.has i k ≡ None
  pub on : f.on k ≡ None
  pub steal : f.steal k ≡ None
  pub bad : f.bad k ≡ false
  pub losses : f.losses k ≡ 0

-- a key inside such a cone that isn't needed is released or erred, and not held
pub record IsLetGo (f : Facts) (k : ℕ) : Type 0 where
  pub phase : (phase f k ≡ Released) ⊎ (phase f k ≡ Erred)
  pub held : held f k ≡ false

pub record AreLetGo (f : Facts) : Type 0 where
  pub forgotten : (k : ℕ) → known f k ≡ false → IsForgotten f k
  pub let_go : (k : ℕ) → known f k ≡ true → need f k ≡ false → IsLetGo f k
