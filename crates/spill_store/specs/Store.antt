-- The store: a map from keys to blocks, some of them on a disk, and the rule by which blocks go there.
use Rattle.std.specs.Prelude.{◌≡◌, ◌≤◌, ◌<◌, ◌⊎◌, ◌||◌, ℕ, suc, nat_eq, List, [], ◌∷◌, ◌++◌, length, take, Option, Some, None, is_some, Bool, true, false, cond}
use Rattle.std.specs.List.{list_any}
use Rattle.std.specs.Option.{option_map, option_map_or}
use Rattle.std.specs.Map.{lookup, remove_entry}
use Rattle.io_edge.specs.Cause.{Rose}
use Rattle.nd_shape.specs.Block.{Array}
use Rattle.io_edge.specs.Disk.{DiskView}
use Rattle.io_edge.specs.View.{raised}
use Rattle.spill_store.specs.Table.{put_first}
use Rattle.spill_store.specs.Memory.{InMemory, IsCrowded, UsesBlock}
use Rattle.spill_store.specs.Shelves.{Shelved, ComesBack, LosesBy}
use Rattle.spill_store.specs.declared.lost.Got.{Got}
use Rattle.spill_store.specs.declared.lost.Got.TheVariants.{Found, Absent, Lost}
use Rattle.spill_store.specs.declared.lost.LostBy.{LostBy}
use Rattle.spill_store.specs.declared.rest.Rest.{Rest}
use Rattle.spill_store.specs.declared.rest.Rest.TheVariants.{Room, NoDisk, Worn, Refused, OutOfMemory}

-- a store: the blocks in memory, the most recently used first, the disk with those that are there alone, the limit, how often
-- a block was put on the disk, and the keys of those that were and that it didn't tell of
pub record Kept (D : Type 0) : Type 0 where
  pub memory : List (ℕ × InMemory)
  pub shelf : Option (Shelved D)
  pub limit : ℕ
  pub times : ℕ
  pub news : List ℕ

-- ## The map

abbrev pub away_in : {D : Type 0} → Option (Shelved D) → List (ℕ × Array)
away_in None = []
away_in (Some h) = h.away

-- the block of a key
abbrev pub block_at : {D : Type 0} → Kept D → ℕ → Option Array
block_at s k = option_map_or (λ h. Some h.array) (lookup (nat_eq k) s.memory) (lookup (nat_eq k) (away_in s.shelf))

-- whether the disk has taken the block of a key since it was put
abbrev pub is_spilled : {D : Type 0} → Kept D → ℕ → Bool
is_spilled s k = option_map_or (λ h. h.taken) (lookup (nat_eq k) s.memory) (is_some (lookup (nat_eq k) (away_in s.shelf)))

-- whether a block of the key was put on the disk and the store didn't tell of it
abbrev pub is_news : {D : Type 0} → Kept D → ℕ → Bool
is_news s k = list_any (nat_eq k) s.news

-- whether a key is that of one of these entries
abbrev pub is_among : ℕ → List (ℕ × InMemory) → Bool
is_among k es = is_some (lookup (nat_eq k) es)

-- the disk has taken the blocks of these keys, besides those that it had taken
pub record TakesMore {D : Type 0} (gone : List (ℕ × InMemory)) (old new : Kept D) : Type 0 where
  pub each : (q : ℕ) → is_spilled new q ≡ cond (is_among q gone) true (is_spilled old q)

-- the same, and what it had taken under one key counts no more
pub record TakesAnew {D : Type 0} (key : ℕ) (gone : List (ℕ × InMemory)) (old new : Kept D) : Type 0 where
  pub each : (q : ℕ) → is_spilled new q ≡ cond (is_among q gone) true (cond (nat_eq key q) false (is_spilled old q))

-- each key but one has the block that it had
pub record OthersStay {D : Type 0} (key : ℕ) (old new : Kept D) : Type 0 where
  pub each : (q : ℕ) → nat_eq key q ≡ false → block_at new q ≡ block_at old q

-- each key has the block that it had
pub record AllStay {D : Type 0} (old new : Kept D) : Type 0 where
  pub each : (q : ℕ) → block_at new q ≡ block_at old q

-- ## The disk

-- the faults of the disk, if there is one
abbrev pub faults_of : {D : Type 0} → (D → DiskView) → Option (Shelved D) → ℕ
faults_of view None = 0
faults_of view (Some h) = (view h.disk).faults

-- the disk stays where it is, tells what it told, and its faults don't fall
abbrev pub SameDisk : {D : Type 0} → (D → DiskView) → Option (Shelved D) → Option (Shelved D) → Type 0
SameDisk view None None = Unit {0}
SameDisk view None (Some h) = ⊥
SameDisk view (Some g) None = ⊥
SameDisk view (Some g) (Some h) = ((view h.disk).tells ≡ (view g.disk).tells) × ((view g.disk).faults ≤ (view h.disk).faults)

-- ## Which blocks go to the disk

-- Why no further block goes to the disk, where so many calls of it had failed before and so many have now. Want of memory
-- may come at any time.
abbrev pub Ends : {D : Type 0} → (D → DiskView) → ℕ → Kept D → Rest → Type 0
Ends view faults new Room = ¬ IsCrowded new.limit new.memory
Ends view faults new NoDisk = new.shelf ≡ None
Ends view faults new Worn = 8 ≤ faults
Ends view faults new Refused = Rose faults (faults_of view new.shelf)
Ends view faults new OutOfMemory = Unit {0}

-- Of the blocks in memory in this order of use, those used least recently went to the disk, one after another, each while
-- memory was crowded and the disk had failed less than eight times. The count of such blocks rose by each, and each is news.
pub record Spills {D : Type 0} (view : D → DiskView) (order : List (ℕ × InMemory)) (old new : Kept D) : Type 0 where
  pub gone : List (ℕ × InMemory)
  pub rest : Rest
  -- the disk's faults before the first of them went
  pub faults : ℕ
  pub from_end : order ≡ new.memory ++ gone
  pub crowded : (n : ℕ) → n < length gone → IsCrowded new.limit (new.memory ++ take (suc n) gone)
  pub later : faults_of view old.shelf ≤ faults
  pub sooner : faults ≤ faults_of view new.shelf
  pub few : 0 < length gone → faults < 8
  pub ends : Ends view faults new rest
  pub times : new.times ≡ raised old.times (length gone)
  pub news : (q : ℕ) → is_news new q ≡ (is_among q gone || is_news old q)

-- there is a disk that has failed less than eight times
abbrev pub CanSpill : {D : Type 0} → (D → DiskView) → Option (Shelved D) → Type 0
CanSpill view None = ⊥
CanSpill view (Some h) = (view h.disk).faults < 8

-- ## The calls

-- a block that was put
abbrev pub fresh : Array → InMemory
fresh a = record { array = a; taken = false }

-- a block that came back from the disk
abbrev pub back : Array → InMemory
back a = record { array = a; taken = true }

-- the block was put under the key
pub record Puts {D : Type 0} (view : D → DiskView) (key : ℕ) (a : Array) (old new : Kept D) : Type 0 where
  pub here : block_at new key ≡ Some a
  pub others : OthersStay key old new
  pub spills : Spills view (put_first key (fresh a) old.memory) old new
  pub taken : TakesAnew key spills.gone old new

-- a block that is on the disk alone
pub record IsAway {D : Type 0} (s : Kept D) (key : ℕ) (a : Array) : Type 0 where
  pub not_here : lookup (nat_eq key) s.memory ≡ None
  pub there : lookup (nat_eq key) (away_in s.shelf) ≡ Some a

-- what the disk gave for a block
abbrev pub ComesFrom : {D : Type 0} → (D → DiskView) → Option (Shelved D) → Array → Array → Type 0
ComesFrom view None a b = ⊥
ComesFrom view (Some h) a b = ComesBack (view h.disk) a b

-- why a block is lost
abbrev pub IsLost : {D : Type 0} → (D → DiskView) → Option (Shelved D) → Option (Shelved D) → Array → LostBy → Type 0
IsLost view None new a by = ⊥
IsLost view (Some g) None a by = ⊥
IsLost view (Some g) (Some h) a by = LosesBy (view g.disk) (view h.disk) a by

-- the block was in memory, and is now the most recently used one
pub record FindsHere {D : Type 0} (view : D → DiskView) (key : ℕ) (a : Array) (old new : Kept D) : Type 0 where
  pub order : List (ℕ × InMemory)
  pub uses : UsesBlock key a old.memory order
  pub all : AllStay old new
  pub spills : Spills view order old new
  pub taken : TakesMore spills.gone old new

-- the block was on the disk alone, and is in memory again
pub record FindsThere {D : Type 0} (view : D → DiskView) (key : ℕ) (b : Array) (old new : Kept D) : Type 0 where
  -- the block that went to the disk
  pub array : Array
  pub was : IsAway old key array
  pub comes : ComesFrom view old.shelf array b
  pub here : block_at new key ≡ Some b
  pub others : OthersStay key old new
  pub spills : Spills view (put_first key (back b) old.memory) old new
  pub taken : TakesMore spills.gone old new

-- the key isn't kept
pub record FindsNone {D : Type 0} (view : D → DiskView) (key : ℕ) (old new : Kept D) : Type 0 where
  pub was : block_at old key ≡ None
  pub all : AllStay old new
  pub spills : Spills view old.memory old new
  pub taken : TakesMore spills.gone old new

-- the block was on the disk alone, and is lost
pub record Loses {D : Type 0} (view : D → DiskView) (key : ℕ) (by : LostBy) (old new : Kept D) : Type 0 where
  -- the block that went to the disk
  pub array : Array
  pub was : IsAway old key array
  pub lost : IsLost view old.shelf new.shelf array by
  pub gone : block_at new key ≡ None
  pub others : OthersStay key old new
  pub spills : Spills view old.memory old new
  pub taken : TakesAnew key spills.gone old new

abbrev pub Gives : {D : Type 0} → (D → DiskView) → ℕ → Kept D → Kept D → Got → Type 0
Gives view key old new (Found block) = FindsHere view key block.value old new ⊎ FindsThere view key block.value old new
Gives view key old new Absent = FindsNone view key old new
Gives view key old new (Lost by) = Loses view key by old new

-- the key is no longer kept
pub record Removes {D : Type 0} (key : ℕ) (old new : Kept D) : Type 0 where
  pub gone : block_at new key ≡ None
  pub others : OthersStay key old new
  pub memory : new.memory ≡ remove_entry (nat_eq key) old.memory
  pub taken : TakesAnew key [] old new
  pub times : new.times ≡ old.times
  pub news : new.news ≡ old.news

-- nothing that is kept changes
pub record IsSame {D : Type 0} (old new : Kept D) : Type 0 where
  pub memory : new.memory ≡ old.memory
  pub away : away_in new.shelf ≡ away_in old.shelf
  pub times : new.times ≡ old.times
  pub news : new.news ≡ old.news

-- it told of a key, which is no longer news, or there is none
abbrev pub Tells : {D : Type 0} → Kept D → Kept D → Option ℕ → Type 0
Tells old new None = (old.news ≡ []) × (new ≡ old)
Tells old new (Some k) = (old.news ≡ new.news ++ k ∷ []) × (new ≡ record old { news = new.news })

-- a store that keeps nothing
abbrev pub empty_store : {D : Type 0} → Option D → ℕ → Kept D
empty_store disk limit = record { memory = []; shelf = option_map (λ d. record { disk = d; away = [] }) disk; limit = limit; times = 0; news = [] }
