-- The steps of the store's calls.
use Rattle.std.specs.Prelude.{◌≡◌, ◌<◌, ◌⊎◌, ◌||◌, ℕ, suc, nat_eq, List, [], ◌∷◌, ◌++◌, length, take, Option, Some, None, IfSome}
use Rattle.std.specs.Map.{lookup}
use Rattle.nd_shape.specs.Block.{Array}
use Rattle.io_edge.specs.Disk.{DiskView}
use Rattle.io_edge.specs.View.{raised}
use Rattle.spill_store.specs.Table.{ChangesAt, SameValues, put_first}
use Rattle.spill_store.specs.Memory.{InMemory, IsCrowded, UsesBlock}
use Rattle.spill_store.specs.Shelves.{ComesBack, Shelved, Fetches}
use Rattle.spill_store.specs.Store.{Kept, ComesFrom, Ends, IsAway, IsLost, TakesMore, away_in, back, faults_of, is_among, is_news}
use Rattle.spill_store.specs.declared.lost.Got.{Got}
use Rattle.spill_store.specs.declared.lost.Got.TheVariants.{Found, Absent, Lost}
use Rattle.spill_store.specs.declared.lost.LostBy.{LostBy}
use Rattle.spill_store.specs.declared.rest.Rest.{Rest}
use Rattle.spill_store.specs.declared.shelf.Fetched.{Fetched}
use Rattle.spill_store.specs.declared.shelf.Fetched.TheVariants.{Found as Fetched_found, Absent as Fetched_absent, Lost as Fetched_lost}

-- what the disk gave, if there is one
abbrev pub FetchesIn : {D : Type 0} → (D → DiskView) → ℕ → Option (Shelved D) → Option (Shelved D) → Fetched → Type 0
FetchesIn view key None new (Fetched_found b) = ⊥
FetchesIn view key None new Fetched_absent = Unit {0}
FetchesIn view key None new (Fetched_lost by) = ⊥
FetchesIn view key (Some g) None result = ⊥
FetchesIn view key (Some g) (Some h) result = Fetches view key g h result

-- the block came from the disk in place of the one that it alone has under the key, if it has one
abbrev pub IsBackIn : {D : Type 0} → (D → DiskView) → ℕ → Option (Shelved D) → Array → Type 0
IsBackIn view key None b = Unit {0}
IsBackIn view key (Some h) b = IfSome (lookup (nat_eq key) h.away) (λ a. ComesBack (view h.disk) a b)

-- the block was in memory, and is the most recently used one
pub record Reads {D : Type 0} (key : ℕ) (a : Array) (old new : Kept D) : Type 0 where
  pub uses : UsesBlock key a old.memory new.memory
  pub same : SameValues old.memory new.memory
  pub away : away_in new.shelf ≡ away_in old.shelf

-- the block is in memory again
pub record BringsBack {D : Type 0} (view : D → DiskView) (key : ℕ) (b : Array) (old new : Kept D) : Type 0 where
  pub array : Array
  pub was : IsAway old key array
  pub comes : ComesFrom view old.shelf array b
  pub memory : new.memory ≡ put_first key (back b) old.memory
  pub changes : ChangesAt key (Some (back b)) old.memory new.memory
  pub away : ChangesAt key None (away_in old.shelf) (away_in new.shelf)

-- the block is lost
pub record Drops {D : Type 0} (view : D → DiskView) (key : ℕ) (by : LostBy) (old new : Kept D) : Type 0 where
  pub array : Array
  pub was : IsAway old key array
  pub lost : IsLost view old.shelf new.shelf array by
  pub memory : new.memory ≡ old.memory
  pub away : ChangesAt key None (away_in old.shelf) (away_in new.shelf)

-- the key isn't kept
pub record Misses {D : Type 0} (key : ℕ) (old new : Kept D) : Type 0 where
  pub not_here : lookup (nat_eq key) old.memory ≡ None
  pub not_there : lookup (nat_eq key) (away_in old.shelf) ≡ None
  pub memory : new.memory ≡ old.memory
  pub away : away_in new.shelf ≡ away_in old.shelf

-- what a look gave, before blocks go to the disk
abbrev pub Finds : {D : Type 0} → (D → DiskView) → ℕ → Kept D → Kept D → Got → Type 0
Finds view key old new (Found block) = Reads key block.value old new ⊎ BringsBack view key block.value old new
Finds view key old new Absent = Misses key old new
Finds view key old new (Lost by) = Drops view key by old new

abbrev pub IsFound : Array → Got → Type 0
IsFound a (Found block) = block.value ≡ a
IsFound a Absent = ⊥
IsFound a (Lost by) = ⊥

-- one block goes to the disk: the one that was used least recently
pub record GoesOut {D : Type 0} (view : D → DiskView) (old new : Kept D) : Type 0 where
  pub key : ℕ
  pub held : InMemory
  pub order : old.memory ≡ new.memory ++ (key, held) ∷ []
  pub few : faults_of view old.shelf < 8
  pub same : faults_of view new.shelf ≡ faults_of view old.shelf
  pub taken : TakesMore ((key, held) ∷ []) old new
  pub times : new.times ≡ raised old.times 1
  pub news : new.news ≡ old.news ++ key ∷ []

-- none does
pub record StaysIn {D : Type 0} (view : D → DiskView) (rest : Rest) (old new : Kept D) : Type 0 where
  pub memory : new.memory ≡ old.memory
  pub ends : Ends view (faults_of view old.shelf) new rest
  pub taken : TakesMore [] old new
  pub times : new.times ≡ old.times
  pub news : new.news ≡ old.news

abbrev pub SpillsOne : {D : Type 0} → (D → DiskView) → Kept D → Kept D → Option Rest → Type 0
SpillsOne view old new None = GoesOut view old new
SpillsOne view old new (Some rest) = StaysIn view rest old new

-- so many blocks went to the disk, each while memory was crowded
pub record SpillsSome {D : Type 0} (view : D → DiskView) (old new : Kept D) : Type 0 where
  pub gone : List (ℕ × InMemory)
  pub from_end : old.memory ≡ new.memory ++ gone
  pub crowded : (n : ℕ) → n < length gone → IsCrowded new.limit (new.memory ++ take (suc n) gone)
  pub few : 0 < length gone → faults_of view old.shelf < 8
  pub same : faults_of view new.shelf ≡ faults_of view old.shelf
  pub taken : TakesMore gone old new
  pub times : new.times ≡ raised old.times (length gone)
  pub news : (q : ℕ) → is_news new q ≡ (is_among q gone || is_news old q)

-- and then no more
pub record SpillsUntil {D : Type 0} (view : D → DiskView) (old new : Kept D) (rest : Rest) : Type 0 where
  pub gone : List (ℕ × InMemory)
  pub from_end : old.memory ≡ new.memory ++ gone
  pub crowded : (n : ℕ) → n < length gone → IsCrowded new.limit (new.memory ++ take (suc n) gone)
  pub few : 0 < length gone → faults_of view old.shelf < 8
  pub ends : Ends view (faults_of view old.shelf) new rest
  pub taken : TakesMore gone old new
  pub times : new.times ≡ raised old.times (length gone)
  pub news : (q : ℕ) → is_news new q ≡ (is_among q gone || is_news old q)
