use Rattle.cluster_rules.proofs.ChoiceLemmas.{least_by_least}
use Rattle.cluster_rules.specs.Policies.{place_rank, candidates, place}
use Rattle.cluster_laws.proofs.scheduler.placed_on_the_least_candidate.Goals as goal

pub returns : goal.returns
unfolding place
returns c f k = least_by_least (place_rank f k) (candidates f k)
