-- Frame groups: how many frames, the length of each, and the frames, with numbers of 8 bytes, the lowest first.
use Rattle.std.specs.Prelude.{◌≡◌, ℕ, zero, suc, ◌+◌, ◌^◌, ◌<◌, ◌≤◌, List, [], ◌∷◌, ◌++◌, length, take, drop, ◌||◌, Option, Some, None, Result, Ok, Err, nat_lt, ◌==◌, if◌then◌else◌}
use Rattle.std.specs.Int.{w64, to_le_bytes, from_le_bytes}
use Rattle.std.specs.List.{flat_map, AllByRecursion}
use Rattle.msgpack_frames.specs.declared.error.FrameError.{FrameError}
use Rattle.msgpack_frames.specs.declared.error.FrameError.TheVariants.{TooMany, TooLong}
use Rattle.msgpack_frames.specs.declared.group.Stop.{Stop}
use Rattle.msgpack_frames.specs.declared.group.Stop.TheVariants as stops
use Rattle.msgpack_frames.specs.Reading.{◌>>=◌}

abbrev pub Group : Type 0
Group = List (List ℕ)

abbrev pub max_frames : ℕ
max_frames = 17

-- how long the frame at this place may be
abbrev pub frame_limit : ℕ → ℕ
frame_limit zero = 2 ^ 24
frame_limit (suc i) = 2 ^ 27

-- each frame, from place i on, is within its limit
abbrev pub AreWithin : ℕ → Group → Type 0
AreWithin i [] = Unit {0}
AreWithin i (frame ∷ frames) = (length frame ≤ frame_limit i) × AreWithin (suc i) frames

pub record IsGroup (g : Group) : Type 0 where
  pub some : 0 < length g
  pub few : length g ≤ max_frames
  pub within : AreWithin 0 g

abbrev pub number : ℕ → List ℕ
number n = to_le_bytes w64 n

abbrev pub lens_bytes : Group → List ℕ
lens_bytes [] = []
lens_bytes (frame ∷ frames) = number (length frame) ++ lens_bytes frames

abbrev pub frames_bytes : Group → List ℕ
frames_bytes [] = []
frames_bytes (frame ∷ frames) = frame ++ frames_bytes frames

-- a group on the stream
unfoldable pub group_bytes : Group → List ℕ
group_bytes g = number (length g) ++ (lens_bytes g ++ frames_bytes g)

-- ---- reading

-- What is read and the bytes after it; else a refusal, or nothing where more bytes are wanted.
abbrev pub Take : Type 0 → Type 0
Take A = Result (A × List ℕ) (Option FrameError)

abbrev pub wanted : {A : Type 0} → Take A
wanted = Err None

-- What a function returned, seen by view, is what reading gives, unless memory ran out.
abbrev pub Stops : {Y : Type 0} → Stop → Result Y (Option FrameError) → Type 0
Stops stops.Memory read = Unit {0}
Stops (stops.At why) read = read ≡ Err why

abbrev pub Takes : {X Y : Type 0} → (X → Y) → Result X Stop → Result Y (Option FrameError) → Type 0
Takes view (Ok x) read = read ≡ Ok (view x)
Takes view (Err stop) read = Stops stop read

abbrev pub number_at : List ℕ → Take ℕ
number_at bytes = if nat_lt (length bytes) 8 then wanted else Ok (from_le_bytes w64 (take 8 bytes), drop 8 bytes)

unfoldable pub count_at : List ℕ → Take ℕ
count_at bytes = do
  n ← number_at bytes
  if n.0 == 0 || nat_lt max_frames n.0 then Err (Some (TooMany n.0)) else Ok n

-- the length of the frame at place i
unfoldable pub len_at : ℕ → List ℕ → Take ℕ
len_at i bytes = do
  n ← number_at bytes
  if nat_lt (frame_limit i) n.0 then Err (Some (TooLong n.0)) else Ok n

-- n lengths, from place i on
unfoldable pub lens_at : ℕ → ℕ → List ℕ → Take (List ℕ)
lens_at i zero bytes = Ok ([], bytes)
lens_at i (suc n) bytes = do
  len ← len_at i bytes
  others ← lens_at (suc i) n len.1
  Ok (len.0 ∷ others.0, others.1)

abbrev pub total : List ℕ → ℕ
total [] = 0
total (len ∷ lens) = len + total lens

-- frames of these lengths, and the bytes after them
abbrev pub cut : List ℕ → List ℕ → Group
cut [] bytes = []
cut (len ∷ lens) bytes = take len bytes ∷ cut lens (drop len bytes)

unfoldable pub frames_at : List ℕ → List ℕ → Take Group
frames_at lens bytes = if nat_lt (length bytes) (total lens) then wanted else Ok (cut lens bytes, drop (total lens) bytes)

unfoldable pub group_at : List ℕ → Take Group
group_at bytes = do
  count ← count_at bytes
  lens ← lens_at 0 count.0 count.1
  frames_at lens.0 lens.1

-- ---- streams

abbrev pub groups_bytes : List Group → List ℕ
groups_bytes groups = flat_map group_bytes groups

-- The stream is these groups, and then bytes of which no group is read: more are wanted, or they are refused.
pub record Reads (stream : List ℕ) (groups : List Group) (rest : List ℕ) (why : Option FrameError) : Type 0 where
  pub each : AllByRecursion IsGroup groups
  pub whole : stream ≡ groups_bytes groups ++ rest
  pub stopped : group_at rest ≡ Err why

-- The bytes begin with the groups that were added, and this is the rest.
pub record Found (bytes : List ℕ) (old new : List Group) (rest : List ℕ) : Type 0 where
  pub groups : List Group
  pub ready : new ≡ old ++ groups
  pub each : AllByRecursion IsGroup groups
  pub whole : bytes ≡ groups_bytes groups ++ rest

-- The same, where the rest is no whole group.
pub record Advances (bytes : List ℕ) (old new : List Group) (rest : List ℕ) (why : Option FrameError) : Type 0 where
  pub groups : List Group
  pub ready : new ≡ old ++ groups
  pub reads : Reads bytes groups rest why

-- what a reader holds: the groups that were not taken yet, the bytes of the next, and why it refuses more
pub record Progress : Type 0 where
  pub ready : List Group
  pub rest : List ℕ
  pub fault : Option FrameError

-- A reader that was fed this stream, and from which these groups were taken.
pub record IsReading (stream : List ℕ) (taken : List Group) (p : Progress) : Type 0 where
  pub tail : List ℕ
  pub reads : Reads stream (taken ++ p.ready) tail p.fault
  pub kept : p.fault ≡ None → p.rest ≡ tail
