-- What a `Flags` keeps.
use Rattle.spread_flags.specs.Spread.{Spread, IsKept}
use Rattle.spread_flags.specs.declared.flags.Flags.TheInside.{Inside}

abbrev pub spread_of : Inside → Spread
spread_of s = record { links = s.links.items; seeds = s.seeds; gates = s.gates; flags = s.flags; counts = s.counts; stale = s.stale; changed = s.changed }

abbrev pub IsInOrder : Inside → Type 0
IsInOrder s = IsKept (spread_of s)
