-- How a simulation goes on from where it stands.
use Rattle.std.specs.Prelude.{◌≡◌, ℕ, ◌+◌, ◌^◌, ◌<◌, ◌≤◌, Some}
use Rattle.cluster_msgs.specs.declared.events.Event.{Event}
use Rattle.cluster_msgs.specs.declared.events.Event.TheVariants.{Evict, Balance}
use Rattle.cluster_rules.specs.Client.{ClientFacts}
use Rattle.cluster_rules.specs.Draw.{over}
use Rattle.cluster_sim.specs.declared.position.Standing.{Standing}
use Rattle.cluster_sim.specs.declared.choice.Kind.{Kind}
use Rattle.cluster_sim.specs.declared.choice.Kind.TheVariants as kind
use Rattle.cluster_sim.specs.declared.choice.Choice.{Choice}
use Rattle.cluster_sim.specs.declared.choice.Choice.TheVariants as choice

-- the event of an eviction and of a steal is known by its kind
abbrev pub IsKindOf : Kind → Event → Type 0
IsKindOf (kind.Scripted passed) e = Unit {0}
IsKindOf kind.Evicts e = e ≡ Evict
IsKindOf kind.Balances e = e ≡ Balance
IsKindOf kind.Drawn e = Unit {0}

-- where a simulation stands before its first turn
abbrev pub first_standing : Standing
first_standing = record { passed = 0; turns = 0; evicts = 0; evicted_at = 0; balances = 0; balanced_at = 0 }

-- where a simulation stands after an event of this kind
abbrev pub after : Standing → Kind → Standing
after s (kind.Scripted passed) = record s { passed = passed }
after s kind.Evicts = record s { evicts = s.evicts + 1; evicted_at = s.turns }
after s kind.Balances = record s { balances = s.balances + 1; balanced_at = s.turns }
after s kind.Drawn = record s { turns = s.turns + 1 }

-- the numbers have room for one more event of this kind
abbrev pub CanPass : Standing → Kind → Type 0
CanPass s (kind.Scripted passed) = Unit {0}
CanPass s kind.Evicts = s.evicts + 1 < 2 ^ 32
CanPass s kind.Balances = s.balances + 1 < 2 ^ 32
CanPass s kind.Drawn = s.turns + 1 < 2 ^ 64

-- of so many keys and items of the script there are some left for such an event
abbrev pub IsLeft : ℕ → ℕ → Standing → Kind → Type 0
IsLeft keys items s (kind.Scripted passed) = (s.passed < passed) × (passed ≤ items)
IsLeft keys items s kind.Evicts = (s.evicts < keys) × (keys < 2 ^ 32)
IsLeft keys items s kind.Balances = (s.balances < keys) × (keys < 2 ^ 32)
IsLeft keys items s kind.Drawn = Unit {0}

-- the end is the client's; an event is of its kind, and such an event is left
abbrev pub IsChoice : ClientFacts → ℕ → ℕ → Standing → Choice → Type 0
IsChoice c keys items s (choice.Over failure) = over c ≡ Some failure
IsChoice c keys items s choice.Still = Unit {0}
IsChoice c keys items s (choice.Make e k) = IsKindOf k e × IsLeft keys items s k
