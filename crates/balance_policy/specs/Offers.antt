-- The steals that may be made of one key, as the code meets them.
use Rattle.std.specs.Prelude.{◌≡◌, ℕ, ◌+◌, ◌*◌, ◌<◌, nat_le, nat_lt, Bool, true, false, Option, Some, None, cond}
use Rattle.cluster_msgs.specs.Shape.{work_of}
use Rattle.cluster_msgs.specs.declared.cores.Steal.{Steal}
use Rattle.cluster_rules.specs.Choice.{is_before}
use Rattle.cluster_rules.specs.Sched.{Facts, is_on, is_stealing, tasks, occupancy, threads_of}
use Rattle.cluster_rules.specs.Policies.{missing_bytes, level, steal_rank, IsStealChoice}
use Rattle.balance_policy.specs.declared.offer.Offer.{Offer}

-- the worker has fewer tasks than threads
abbrev pub is_idle : Facts → ℕ → Bool
is_idle f w = nat_lt (tasks f w) (threads_of f w)

-- the key may leave this worker
pub record IsVictim (f : Facts) (k v : ℕ) : Type 0 where
  pub on : is_on f v k ≡ true
  pub unasked : is_stealing f k ≡ false
  pub busy : threads_of f v < tasks f v

-- the worker that the key may leave, or nothing where there is none
abbrev pub IsVictimOf : Facts → ℕ → Option ℕ → Type 0
IsVictimOf f k None = (v : ℕ) → IsVictim f k v → ⊥
IsVictimOf f k (Some v) = IsVictim f k v

-- the move gains at least half of the key's work
abbrev pub gains : Facts → Steal → Bool
gains f c = nat_le (2 * (occupancy f c.thief + missing_bytes f c.thief c.key + work_of f.setting.shape c.key) + work_of f.setting.shape c.key) (2 * occupancy f c.victim)

abbrev pub level_of : Facts → Steal → ℕ
level_of f c = level (missing_bytes f c.thief c.key) (work_of f.setting.shape c.key)

-- the steal with its level, where the move gains
unfoldable pub offer_of : Facts → Steal → Option Offer
offer_of f c = cond (gains f c) (Some (record { level = level_of f c; steal = c })) None

-- a steal of this key
pub record IsStealOfKey (f : Facts) (k : ℕ) (c : Steal) : Type 0 where
  pub key : c.key ≡ k
  pub choice : IsStealChoice f c

-- a steal of this key from this worker
pub record IsStealFrom (f : Facts) (k v : ℕ) (c : Steal) : Type 0 where
  pub key : c.key ≡ k
  pub victim : c.victim ≡ v
  pub choice : IsStealChoice f c

-- a steal that passes, with its level, and none that passes comes before it
pub record IsLeastSteal (f : Facts) (P : Steal → Type 0) (o : Offer) : Type 0 where
  pub passes : P o.steal
  pub level : o.level ≡ level_of f o.steal
  pub least : (c : Steal) → P c → is_before (steal_rank f c) (steal_rank f o.steal) ≡ false

-- the least steal that passes, or nothing where none does
abbrev pub IsLeastOffer : Facts → (Steal → Type 0) → Option Offer → Type 0
IsLeastOffer f P None = (c : Steal) → P c → ⊥
IsLeastOffer f P (Some o) = IsLeastSteal f P o
