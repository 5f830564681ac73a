-- What a journal says to the report of a run.
use Rattle.cluster_msgs.specs.declared.events.Entry.{Entry}
use Rattle.cluster_rules.specs.Report.{Taken}

-- the event of an entry with the message that it took
abbrev pub taken_of : Entry → Taken
taken_of e = (e.event, e.message)
