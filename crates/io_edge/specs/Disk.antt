-- What a disk for blocks tells, and what its calls give.
use Rattle.std.specs.Prelude.{◌≡◌, ℕ, min, List, length, take, Option, Some, None, IfSome, Bool, true, false, IsTrue, nat_eq}

pub record DiskView : Type 0 where
  -- whether it tells what it holds
  pub tells : Bool
  -- the bytes that it holds under a key, where that is told
  pub held : ℕ → Option (List ℕ)
  -- how often a call has failed
  pub faults : ℕ

-- it holds these bytes under the key, where it tells what it holds
abbrev pub HoldsAt : DiskView → ℕ → List ℕ → Type 0
HoldsAt v key bytes = IsTrue v.tells → v.held key ≡ Some bytes

-- what it holds under each other key stays
pub record KeepsOthers (key : ℕ) (old new : DiskView) : Type 0 where
  pub each : (q : ℕ) → nat_eq key q ≡ false → new.held q ≡ old.held q

-- what it holds stays
pub record KeepsAll (old new : DiskView) : Type 0 where
  pub each : (q : ℕ) → new.held q ≡ old.held q

-- the answer is the number of these bytes, and the front of the buffer is the front of them
pub record Copies (bytes old new : List ℕ) (n : ℕ) : Type 0 where
  pub count : n ≡ length bytes
  pub front : take (min n (length old)) new ≡ take (length old) bytes

-- a call that read the bytes of a key into a buffer, and answered their number
pub record ReadsAt (v : DiskView) (key : ℕ) (old new : List ℕ) (n : ℕ) : Type 0 where
  pub told : IsTrue v.tells → IfSome (v.held key) (λ bytes. Copies bytes old new n)

-- ## New disks

-- a disk in memory that was never used
abbrev pub new_disk : DiskView
new_disk = record { tells = true; held = λ q. None; faults = 0 }

-- a disk that a site has just made: it tells what it holds, or it doesn't
abbrev pub fresh_disk : Bool → DiskView
fresh_disk tells = record { tells = tells; held = λ q. None; faults = 0 }
