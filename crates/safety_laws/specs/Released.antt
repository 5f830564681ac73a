-- Lists of events in which no client lets a key go, and how many take that a worker leaves.
use Rattle.std.specs.Prelude.{◌≡◌, ℕ, ◌+◌, Bool, true, false, List, [], ◌∷◌, cond}
use Rattle.std.specs.List.{AllByRecursion}
use Rattle.cluster_msgs.specs.declared.events.Event.{Event}
use Rattle.cluster_msgs.specs.declared.events.Event.TheVariants.{Release, SeeLoss, Suspect}

abbrev pub is_release : Event → Bool
is_release (Release c ks) = true
is_release _ = false

abbrev pub NoneReleases : List Event → Type 0
NoneReleases es = AllByRecursion (λ e. is_release e ≡ false) es

-- an event that takes that a worker leaves
abbrev pub is_leave : Event → Bool
is_leave (SeeLoss i) = true
is_leave (Suspect i) = true
is_leave _ = false

abbrev pub leaves : List Event → ℕ
leaves [] = 0
leaves (e ∷ es) = cond (is_leave e) 1 0 + leaves es
