-- What the client of a simulation got.
use Rattle.std.specs.Prelude.{◌≡◌, ℕ, List, true}
use Rattle.cluster_world.specs.declared.state.State.{State}
use Rattle.cluster_world.specs.declared.state.Course.TheVariants.{Going}
use Rattle.cluster_world.specs.Worlds.{world}

-- the world goes on, and the client has got this key, whose block has these lengths
pub record HasGot {J B F : Type 0} (s : State J B F) (dims : ℕ → List ℕ) (key : ℕ) (lengths : List ℕ) : Type 0 where
  pub going : s.course ≡ Going
  pub got : ((world s).clients 1).got key ≡ true
  pub lengths_are : dims key ≡ lengths
