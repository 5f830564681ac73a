-- Each block of a cluster is the value of its key.
use Rattle.std.specs.Prelude.{◌≡◌, ◌⊎◌, ℕ, Bool, true, false, List, Option, Some, None, is_some, map}
use Rattle.std.specs.List.{AllByRecursion}
use Rattle.cluster_msgs.specs.Values.{all_of, cone, faulty}
use Rattle.cluster_laws.specs.Blocks.{Delivery, Cluster}

-- at one place for blocks of a key: a block that stands there is the key's value, and one stands there exactly where the key is counted
pub record IsPlace {B : Type 0} (value : Option B) (counted : Bool) (block : Option B) : Type 0 where
  pub right : (b : B) → block ≡ Some b → value ≡ Some b
  pub present : counted ≡ true → is_some block ≡ true
  pub missing : counted ≡ false → block ≡ None

-- these blocks are the values of these keys, one by one
abbrev pub AreOf : {B : Type 0} → (ℕ → Option B) → List ℕ → List B → Type 0
AreOf value ks bs = all_of (map value ks) ≡ Some bs

-- the blocks that workers and clients have, those that running operations take, and those under way
pub record AreValues {B : Type 0} (deps : ℕ → List ℕ) (value : ℕ → Option B) (c : Cluster B) : Type 0 where
  pub held : (i k : ℕ) → IsPlace (value k) ((c.world.workers i).mem k) (c.blocks.held i k)
  pub got : (x k : ℕ) → IsPlace (value k) ((c.world.clients x).got k) (c.blocks.got x k)
  pub inputs : (i k : ℕ) → (c.world.workers i).running k ≡ true → AreOf value (deps k) (c.blocks.inputs i k)
  pub answers : map (λ (d : Delivery B). d.parcel) c.blocks.carried ≡ c.world.answers
  pub carried : AllByRecursion (λ (d : Delivery B). AreOf value d.parcel.keys d.blocks) c.blocks.carried

-- a failure of k is blamed on b: that key's own operation meets a zero divisor, or something else excuses it, and k is it or depends on it
pub record IsBlamed {B : Type 0} (excused : ℕ → Type 0) (deps : ℕ → List ℕ) (value : ℕ → Option B) (k b : ℕ) : Type 0 where
  pub fault : (faulty deps value b ≡ true) ⊎ excused b
  pub within : cone deps k b ≡ true
