-- What a sight shows.
use Rattle.client_futures.specs.declared.sight.Sight.{Sight}
use Rattle.client_futures.specs.Seen.{Seen}
use Rattle.client_futures.specs.Sighted.{seen_of}

abbrev pub sight_seen : {B : Type 0} → Sight B → Seen B
sight_seen s = seen_of s.row.items s.over
