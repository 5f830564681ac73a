-- What futures over keys answer, by what their driver saw at its last turn.
use Rattle.std.specs.Prelude.{◌≡◌, ◌≢◌, ◌≤◌, ℕ, true, false, List, map, Option, Some, None, Result, Ok, Err, ⊤}
use Rattle.std.specs.List.{All, Contains}
use Rattle.std.specs.Arc.{arc_value}
use Rattle.std.specs.declared.sync.Arc.{Arc}
use Rattle.std.specs.declared.vec.Vec.{Vec}
use Rattle.std.specs.declared.alloc.Global.{Global}
use Rattle.futures.specs.declared.task.Poll.{Poll}
use Rattle.futures.specs.declared.task.Poll.TheVariants.{Ready, Pending}
use Rattle.cluster_msgs.specs.declared.cores.End.{End}
use Rattle.cluster_msgs.specs.declared.cores.End.TheVariants.{Got, Erred}
use Rattle.client_futures.specs.declared.rounds.PollEnd.{PollEnd}
use Rattle.client_futures.specs.declared.rounds.PollEnd.TheVariants.{TaskErred, Over}
use Rattle.client_futures.specs.declared.rounds.GatherEnd.{GatherEnd}
use Rattle.client_futures.specs.declared.rounds.GatherEnd.TheVariants.{Ended, Memory, Unrun}
use Rattle.client_futures.specs.Seen.{Seen, Lends}

-- what a future over one key answers
abbrev pub KeyAnswer : {B : Type 0} → Seen B → ℕ → Poll (Result (Arc B Global) PollEnd) → Type 0
KeyAnswer seen key Pending = (seen.ends key ≡ None) × (seen.over ≡ false)
KeyAnswer seen key (Ready (Ok block)) = Lends seen key (arc_value block)
KeyAnswer seen key (Ready (Err (TaskErred failed blame))) = (failed ≡ key) × (seen.ends key ≡ Some (Erred blame))
KeyAnswer seen key (Ready (Err Over)) = (seen.ends key ≡ None) × (seen.over ≡ true)

-- none of the keys failed
abbrev pub AllStand : (ℕ → Option End) → List ℕ → Type 0
AllStand ends keys = All (λ k. (blame : ℕ) → ends k ≢ Some (Erred blame)) keys

-- of these keys this is the least that failed, with its blame
pub record IsLeastErred (ends : ℕ → Option End) (keys : List ℕ) (key blame : ℕ) : Type 0 where
  pub wanted : Contains keys key
  pub erred : ends key ≡ Some (Erred blame)
  pub least : All (λ k. (b : ℕ) → ends k ≡ Some (Erred b) → key ≤ k) keys

-- the least of these keys that failed, if any did
abbrev pub IsLeast : (ℕ → Option End) → List ℕ → Option (ℕ × ℕ) → Type 0
IsLeast ends keys None = AllStand ends keys
IsLeast ends keys (Some (key, blame)) = IsLeastErred ends keys key blame

-- none of the keys failed, and one has no end
pub record IsOpen (ends : ℕ → Option End) (keys : List ℕ) : Type 0 where
  pub stand : AllStand ends keys
  pub waiting : (key : ℕ) × Contains keys key × (ends key ≡ None)

-- all keys are got, and these are the blocks that are lent for them, in their order
pub record AreGot {B : Type 0} (seen : Seen B) (keys : List ℕ) (blocks : List B) : Type 0 where
  pub got : All (λ k. seen.ends k ≡ Some Got) keys
  pub lent : map (λ b. Some b) blocks ≡ map seen.blocks keys

-- what a future over several keys answers
abbrev pub GatherAnswer : {B : Type 0} → Seen B → List ℕ → Poll (Result (Vec (Arc B Global) Global) PollEnd) → Type 0
GatherAnswer seen keys Pending = IsOpen seen.ends keys × (seen.over ≡ false)
GatherAnswer seen keys (Ready (Ok blocks)) = AreGot seen keys (map arc_value blocks.items)
GatherAnswer seen keys (Ready (Err (TaskErred key blame))) = IsLeastErred seen.ends keys key blame
GatherAnswer seen keys (Ready (Err Over)) = IsOpen seen.ends keys × (seen.over ≡ true)

-- a state to which a driver's calls lead answers so
pub record MayEnd {S B : Type 0} (leads : S → S → Type 0) (seen : S → Seen B) (from : S) (keys : List ℕ)
    (ended : Result (Vec (Arc B Global) Global) PollEnd) : Type 0 where
  pub at : S
  pub led : leads from at
  pub answer : GatherAnswer (seen at) keys (Ready ended)

-- what was gathered is what a future gave that was run, if one was
abbrev pub IsGathered : {B : Type 0} → (Result (Vec (Arc B Global) Global) PollEnd → Type 0) → Result (Vec (Arc B Global) Global) GatherEnd → Type 0
IsGathered gave (Ok blocks) = gave (Ok blocks)
IsGathered gave (Err (Ended end)) = gave (Err end)
IsGathered gave (Err Memory) = ⊤
IsGathered gave (Err Unrun) = ⊤
