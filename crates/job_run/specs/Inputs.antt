-- What the input files hold, and why one is refused.
use Rattle.std.specs.Prelude.{◌≡◌, ◌≢◌, ◌<◌, ℕ, List, [], ◌∷◌, ◌++◌, length, codes, slice_index_or, Option, Some, IfSome, IsSome, IsTrue, option_and_then}
use Rattle.std.specs.Option.{option_map}
use Rattle.io_edge.specs.View.{Files}
use Rattle.nd_shape.specs.Block.{Array}
use Rattle.nd_shape.specs.Shape.{shape_text}
use Rattle.npy_codec.specs.declared.head.Head.{Head}
use Rattle.npy_codec.specs.declared.error.NpyError.{NpyError}
use Rattle.npy_codec.specs.declared.error.NpyError.TheVariants.{ReadFault, OutOfMemory}
use Rattle.npy_codec.specs.Files.{HasHead, IsNpy, IsRefusedAs, error_text}
use Rattle.plain_eval.specs.Held.{block_at}
use Rattle.job_run.specs.declared.ends.FileError.{FileError}
use Rattle.job_run.specs.declared.ends.FileError.TheVariants.{Npy, Shape}
use Rattle.job_run.specs.Plan.{Plan, name_at, input_shapes}

-- what the inputs hold, where each of them is told
abbrev pub told_all : (List ℕ → Option (List ℕ)) → List (List ℕ) → Option (List (List ℕ))
told_all held [] = Some []
told_all held (name ∷ names) = option_and_then (λ bytes. option_map (λ more. bytes ∷ more) (told_all held names)) (held name)

-- the bytes are a file of an array of this shape
pub record HoldsArray (shape bytes : List ℕ) (array : Array) : Type 0 where
  pub is : IsNpy bytes array
  pub declared : array.shape ≡ shape

-- files of these bytes hold these arrays, of these shapes
pub record HoldArrays (shapes : List (List ℕ)) (contents : List (List ℕ)) (blocks : List Array) : Type 0 where
  pub count : length blocks ≡ length shapes
  pub each : (k : ℕ) → k < length shapes → HoldsArray (slice_index_or shapes k []) (name_at contents k) (block_at blocks k)

-- the inputs are as the job declares them
pub record FitInputs (p : Plan) (contents : List (List ℕ)) : Type 0 where
  pub each : (k : ℕ) → k < length p.inputs → (array : Array) × HoldsArray (slice_index_or (input_shapes p.nodes) k []) (name_at contents k) array

-- an error that tells of the file, and not of its reading
abbrev pub IsOfFile : NpyError → Type 0
IsOfFile ReadFault = ⊥
IsOfFile OutOfMemory = ⊥
IsOfFile error = Unit {0}

-- the file holds an array of another shape
pub record HasOtherShape (shape bytes has declared : List ℕ) : Type 0 where
  pub head : Head
  pub front : HasHead bytes head
  pub has_is : has ≡ head.shape
  pub declared_is : declared ≡ shape
  pub other : has ≢ declared

-- a file of these bytes is refused for this reason, where the shape is declared
abbrev pub RefusesFile : List ℕ → List ℕ → FileError → Type 0
RefusesFile shape bytes (Npy error) = IsOfFile error × IsRefusedAs bytes error
RefusesFile shape bytes (Shape has declared) = HasOtherShape shape bytes has declared

-- the file is an array's of this shape, and its data is all there
pub record FitsShape (shape bytes : List ℕ) : Type 0 where
  pub head : Head
  pub front : HasHead bytes head
  pub declared : head.shape ≡ shape

-- the first input that is not as declared, and why
pub record FirstRefusal (p : Plan) (contents : List (List ℕ)) (place : ℕ) (error : FileError) : Type 0 where
  pub before : (k : ℕ) → k < place → FitsShape (slice_index_or (input_shapes p.nodes) k []) (name_at contents k)
  pub here : RefusesFile (slice_index_or (input_shapes p.nodes) place []) (name_at contents place) error

-- The inputs are there, and as the job declares. Where a site doesn't tell what it holds, nothing is said.
pub record InputsFit (p : Plan) (files : Files) : Type 0 where
  pub there : IsTrue files.tells → IsSome (told_all files.held p.inputs)
  pub fit : IfSome (told_all files.held p.inputs) (FitInputs p)

-- the inputs are there, and the one at this place is the first that is not as declared
pub record InputRefused (p : Plan) (files : Files) (place : ℕ) (error : FileError) : Type 0 where
  pub within : place < length p.inputs
  pub there : IsTrue files.tells → IsSome (told_all files.held p.inputs)
  pub first : IfSome (told_all files.held p.inputs) (λ contents. FirstRefusal p contents place error)

-- how a refusal of a file is printed
abbrev pub file_error_text : FileError → List ℕ
file_error_text (Npy error) = error_text error
file_error_text (Shape has declared) = codes "shape " ++ shape_text has ++ codes " declared " ++ shape_text declared
