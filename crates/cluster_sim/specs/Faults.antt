-- What the failure of a simulation is blamed on.
use Rattle.std.specs.Prelude.{◌≡◌, ◌≤◌, ℕ, ◌+◌, true, List, Option, Some, None, cond}
use Rattle.cluster_msgs.specs.Scripts.{removes_in}
use Rattle.cluster_msgs.specs.Values.{faulty, needed}
use Rattle.cluster_msgs.specs.declared.events.Event.{Event}
use Rattle.cluster_msgs.specs.declared.events.Item.{Item}
use Rattle.cluster_rules.specs.Sched.{is_above}
use Rattle.cluster_rules.specs.World.{Job, World}
use Rattle.cluster_rules.specs.Runs.{killed}
use Rattle.cluster_sim.specs.declared.ended.Fault.{Fault}
use Rattle.cluster_sim.specs.declared.ended.Fault.TheVariants.{Zero, Killed}

-- by how often the key lost its worker
abbrev pub fault_at : World → ℕ → Fault
fault_at w b = cond (is_above w.sched.setting.allowed (w.sched.losses b)) (Killed b (w.sched.losses b)) (Zero b)

abbrev pub key_of : Fault → ℕ
key_of (Zero b) = b
key_of (Killed b n) = b

-- a key that is needed, and whose own operation meets a zero divisor
pub record IsNeededFault {B : Type 0} (deps : ℕ → List ℕ) (value : ℕ → Option B) (wanted : List ℕ) (b : ℕ) : Type 0 where
  pub faulty : faulty deps value b ≡ true
  pub needed : needed deps wanted b ≡ true

-- a key that is needed, and was killed in these events: it lost its worker once more than is allowed
pub record IsNeededKilled (j : Job) (es : List Event) (deps : ℕ → List ℕ) (wanted : List ℕ) (b n : ℕ) : Type 0 where
  pub killed : killed j es b ≡ true
  pub needed : needed deps wanted b ≡ true
  pub allowed : ℕ
  pub bounded : j.setting.allowed ≡ Some allowed
  pub losses : n ≡ allowed + 1

-- so many losses kill a key: they are one more than is allowed, and the script takes workers away as often
pub record IsKill (allowed : Option ℕ) (script : List Item) (n : ℕ) : Type 0 where
  pub above : (a : ℕ) × (allowed ≡ Some a) × (n ≡ a + 1)
  pub often : n ≤ removes_in script

-- a key that was killed lost its worker so often
abbrev pub IsBounded : Option ℕ → List Item → Fault → Type 0
IsBounded allowed script (Zero b) = Unit {0}
IsBounded allowed script (Killed b n) = IsKill allowed script n

abbrev pub IfBlamed : {B : Type 0} → Job → List Event → (ℕ → List ℕ) → (ℕ → Option B) → List ℕ → Option Fault → Type 0
IfBlamed j es deps value wanted None = Unit {0}
IfBlamed j es deps value wanted (Some (Zero b)) = IsNeededFault deps value wanted b
IfBlamed j es deps value wanted (Some (Killed b n)) = IsNeededKilled j es deps wanted b n
