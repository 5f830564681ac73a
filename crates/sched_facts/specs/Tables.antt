-- What a `FactTable` keeps.
use Rattle.sched_facts.specs.Stored.{facts_of}
use Rattle.sched_facts.specs.Kept.{IsKeeping}
use Rattle.sched_facts.specs.declared.table.FactTable.TheInside.{Inside}

abbrev pub IsKept : Inside → Type 0
IsKept s = IsKeeping (facts_of s.store) s.store.room s.tasks s.work s.bytes s.holders s.wanters
