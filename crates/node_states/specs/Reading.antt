-- What a look at several blocks gives, and what a worker's turn does by it.
use Rattle.node_states.specs.declared.holding.Sought.{Sought}
use Rattle.node_states.specs.declared.holding.Sought.TheVariants.{Whole, Lost}
use Rattle.node_states.specs.declared.worker_choice.Next.{Next}
use Rattle.node_states.specs.declared.worker_choice.Next.TheVariants.{Start, Miss, Other}

-- of what is whole
abbrev pub IfWhole : {T : Type 0} → Sought T → (T → Type 0) → Type 0
IfWhole (Whole x) P = P x
IfWhole (Lost key) P = Unit {0}

-- of a start, or else
abbrev pub MatchNext : {T : Type 0} → Next T → (T → Type 0) → Type 0 → Type 0
MatchNext (Start x) P Q = P x
MatchNext (Miss key) P Q = Q
MatchNext Other P Q = Q
