-- What a driver keeps of keys.
use Rattle.std.specs.Prelude.{Bool, List, Option, Some, None, slice_index_or}
use Rattle.std.specs.Arc.{arc_value}
use Rattle.cluster_msgs.specs.declared.cores.End.{End}
use Rattle.cluster_msgs.specs.declared.cores.End.TheVariants.{Got, Erred}
use Rattle.client_futures.specs.declared.sight.Sighted.{Sighted}
use Rattle.client_futures.specs.declared.sight.Sighted.TheVariants as sighted
use Rattle.client_futures.specs.Seen.{Seen}

abbrev pub end_of : {B : Type 0} → Sighted B → Option End
end_of sighted.Open = None
end_of (sighted.Got block) = Some Got
end_of (sighted.Erred blame) = Some (Erred blame)

abbrev pub block_of : {B : Type 0} → Sighted B → Option B
block_of sighted.Open = None
block_of (sighted.Got block) = Some (arc_value block)
block_of (sighted.Erred blame) = None

-- of a key beyond the row nothing was seen
abbrev pub seen_of : {B : Type 0} → List (Sighted B) → Bool → Seen B
seen_of row over = record {
  ends = λ k. end_of (slice_index_or row k sighted.Open);
  blocks = λ k. block_of (slice_index_or row k sighted.Open);
  over = over;
}
