-- What a slice takes of each chunk of an axis, as it is found run by run.
use Rattle.std.specs.Prelude.{◌≡◌, ◌≢◌, ℕ, ◌+◌, ◌-◌, ◌<◌, ◌≤◌, ℤ, pos, negsuc, List, [], length, get_or, take, slice_get, Some}
use Rattle.nd_shape.specs.declared.slice.Steps.{Steps}
use Rattle.nd_shape.specs.Slice.{StepsFitAxis, coordinate}
use Rattle.nd_shape.specs.Chunk.{total}
use Rattle.chunk_layout.specs.Layouts.{chunk_of}
use Rattle.chunk_layout.specs.Slices.{Taken}

-- the slice goes on and takes indexes of the axis
pub record TakesOf (n : ℕ) (s : Steps) : Type 0 where
  pub fits : StepsFitAxis s n
  pub goes : s.step ≢ pos 0

-- the slices of all axes
pub record TakesAll (layout : List (List ℕ)) (parts : List Steps) : Type 0 where
  pub axes : length parts ≡ length layout
  pub each : (k : ℕ) (s : Steps) → slice_get parts k ≡ Some s → TakesOf (total (get_or layout k [])) s

-- from place t of the slice on, so many indexes lie in one chunk, and the next one doesn't
pub record IsRun (sizes : List ℕ) (s : Steps) (t : ℕ) (p : Taken) : Type 0 where
  pub chunk_is : p.chunk ≡ chunk_of sizes (coordinate s t)
  pub start_is : p.steps.start ≡ coordinate s t - total (take p.chunk sizes)
  pub step_is : p.steps.step ≡ s.step
  pub some : 0 < p.steps.count
  pub within : t + p.steps.count ≤ s.count
  pub same : (i : ℕ) → i < p.steps.count → chunk_of sizes (coordinate s (t + i)) ≡ p.chunk
  pub next : t + p.steps.count < s.count → chunk_of sizes (coordinate s (t + p.steps.count)) ≢ p.chunk

-- how far an index is from the last one of its chunk, in the slice's direction
abbrev pub room_ahead : ℤ → ℕ → ℕ → ℕ → ℕ
room_ahead (pos k) x low high = high - 1 - x
room_ahead (negsuc k) x low high = x - low
