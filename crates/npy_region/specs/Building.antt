-- How runs are put together: elements in the order of storage, each with its offset in the file and its place in the block.
use Rattle.std.specs.Prelude.{◌≡◌, ◌≤◌, ◌<◌, ◌+◌, ◌*◌, ◌⊎◌, ℕ, Bool, List, [], ◌∷◌, ◌++◌, length, get_or}
use Rattle.nd_rows.specs.Storage.{Walk, count_of, spot, target}
use Rattle.npy_region.specs.declared.runs.Run.{Run}
use Rattle.npy_region.specs.Runs.{GoesOn, no_run}

-- one run made of two
pub record IsJoined (width : ℕ) (first second run : Run) : Type 0 where
  pub next : GoesOn width first second
  pub offset_is : run.offset ≡ first.offset
  pub length_is : run.length ≡ first.length + second.length
  pub place_is : run.place ≡ first.place

-- another run behind some finished ones and the one before it: it is put together with that, or that is finished
abbrev pub PutsRun : ℕ → List Run → Run → Run → List Run → Run → Type 0
PutsRun width before last next after run =
    ((after ≡ before) × IsJoined width last next run) ⊎ ((after ≡ before ++ last ∷ []) × (run ≡ next) × (GoesOn width last next → ⊥))

-- elements of these numbers, n of them from this one on, are a run by themselves
pub record IsUnit (width : ℕ) (offset place : ℕ → ℕ) (from n : ℕ) (run : Run) : Type 0 where
  pub some : 0 < n
  pub offset_is : run.offset ≡ offset from
  pub length_is : run.length ≡ width * n
  pub place_is : run.place ≡ place from
  pub offsets : (j : ℕ) → j < n → offset (from + j) ≡ run.offset + width * j
  pub places : (j : ℕ) → j < n → place (from + j) ≡ run.place + j

-- the q-th element is the j-th word of a run
pub record IsWord (width : ℕ) (offset place : ℕ → ℕ) (run : Run) (j q : ℕ) : Type 0 where
  pub word : width * j + width ≤ run.length
  pub offset_is : offset q ≡ run.offset + width * j
  pub place_is : place q ≡ run.place + j

abbrev pub HasWords : ℕ → Run → Type 0
HasWords width run = (n : ℕ) × (0 < n) × (run.length ≡ width * n)

-- a run holds only the first elements
abbrev pub HoldsOnly : ℕ → (ℕ → ℕ) → (ℕ → ℕ) → ℕ → Run → Type 0
HoldsOnly width offset place count run = (j : ℕ) → width * j + width ≤ run.length → (q : ℕ) × (q < count) × IsWord width offset place run j q

abbrev pub Comes : Run → Run → Type 0
Comes first second = first.offset + first.length ≤ second.offset

-- finished runs, and a last one that may still grow, hold the first elements
pub record Covers (width : ℕ) (offset place : ℕ → ℕ) (count : ℕ) (runs : List Run) (last : Run) : Type 0 where
  pub words : (k : ℕ) → k < length runs → HasWords width (get_or runs k no_run)
  pub last_words : HasWords width last
  pub only : (k : ℕ) → k < length runs → HoldsOnly width offset place count (get_or runs k no_run)
  pub last_only : HoldsOnly width offset place count last
  pub all : (q : ℕ) → q < count
      → ((k j : ℕ) × (k < length runs) × IsWord width offset place (get_or runs k no_run) j q) ⊎ ((j : ℕ) × IsWord width offset place last j q)
  pub ascending : (k : ℕ) → k + 1 < length runs → Comes (get_or runs k no_run) (get_or runs (k + 1) no_run)
  pub last_ascending : (k : ℕ) → k + 1 ≡ length runs → Comes (get_or runs k no_run) last
  pub maximal : (k : ℕ) → k + 1 < length runs → GoesOn width (get_or runs k no_run) (get_or runs (k + 1) no_run) → ⊥
  pub last_maximal : (k : ℕ) → k + 1 ≡ length runs → GoesOn width (get_or runs k no_run) last → ⊥

-- The elements of a region come in units of this many, which are stored and stand in the block one behind the other.
pub record Splits (by_column : Bool) (walk : Walk) (unit : ℕ) : Type 0 where
  pub some : 0 < unit
  pub units : ℕ
  pub whole : count_of walk ≡ units * unit
  pub together : (k j : ℕ) → k < units → j < unit → spot walk (k * unit + j) ≡ spot walk (k * unit) + j
  pub places : (k j : ℕ) → k < units → j < unit → target by_column walk.region.lengths (k * unit + j) ≡ target by_column walk.region.lengths (k * unit) + j
