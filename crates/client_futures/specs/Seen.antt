-- What a driver saw at its last turn of a client's node.
use Rattle.std.specs.Prelude.{◌≡◌, ◌≢◌, ℕ, Bool, Option, Some, None}
use Rattle.cluster_msgs.specs.declared.cores.End.{End}
use Rattle.cluster_msgs.specs.declared.cores.End.TheVariants.{Got, Erred}

-- how each key ended, the block that is lent for it, and whether the run is over
pub record Seen (B : Type 0) : Type 0 where
  pub ends : ℕ → Option End
  pub blocks : ℕ → Option B
  pub over : Bool

-- the key is got, and this is the block that is lent for it
pub record Lends {B : Type 0} (seen : Seen B) (key : ℕ) (block : B) : Type 0 where
  pub got : seen.ends key ≡ Some Got
  pub lent : seen.blocks key ≡ Some block

-- the key isn't got; all else is as before, and so is the key unless its block was let go
pub record LetsGo {B : Type 0} (key : ℕ) (old new : Seen B) : Type 0 where
  pub gone : new.ends key ≢ Some Got
  pub as_before : old.ends key ≢ Some Got → new.ends key ≡ old.ends key
  pub lost : old.ends key ≡ Some Got → new.ends key ≡ None
  pub others : (k : ℕ) → k ≢ key → new.ends k ≡ old.ends k
  pub blocks : (k : ℕ) → k ≢ key → new.blocks k ≡ old.blocks k
  pub over : new.over ≡ old.over

-- no key is seen as failed
abbrev pub NoneErred : {B : Type 0} → Seen B → Type 0
NoneErred seen = (key blame : ℕ) → seen.ends key ≢ Some (Erred blame)

-- this end and this block of the key were noted; all else is as before
pub record Notes {B : Type 0} (key : ℕ) (end : Option End) (block : Option B) (old new : Seen B) : Type 0 where
  pub ended : new.ends key ≡ end
  pub shown : new.blocks key ≡ block
  pub others : (k : ℕ) → k ≢ key → new.ends k ≡ old.ends k
  pub blocks : (k : ℕ) → k ≢ key → new.blocks k ≡ old.blocks k
  pub over : new.over ≡ old.over
