use Rattle.std.proofs.Common.{[], ◌∷◌, refl, arith}
use Rattle.cluster_rules.specs.Derived.{err, reach}
use Rattle.cluster_rules.specs.Sched.{held, erred, wanted, known, need, ready, blame, phase, tasks, occupancy, bytes_held, full, holders, who_has, holder_count, waiters}
use Rattle.cluster_rules.specs.Policies.{missing_bytes, candidates, place_rank, place, may_steal, steal_choices, level, steal_rank, next_steal, may_drop, most_loaded, next_drop}
use Rattle.cluster_rules.specs.SchedTable.{joined, left, finished, failed, released, lost_copy, answered, wants_more, wants_less, sched_takes}
use Rattle.cluster_rules.specs.SchedStep.{drop_bad, drop_has, drop_on, place_one, place_all, settled, settle, task_messages, to_worker, down_messages, to_clients, client_messages, posted, finish_step, sched_step}
use Rattle.cluster_rules.specs.Worker.{flying, awaited, used, wstate, running_count, would_start, fetchable, ask_items, would_ask, pairs}
use Rattle.cluster_rules.specs.WorkerStep.{given, asked_back, remove_replicas, take_down, arrived, ask_peer, gathered, worker_row, unasked_keys, worker_step, worker_takes}
use Rattle.cluster_rules.specs.Client.{client_fetchable, client_would_ask, client_pairs, client_wants, client_releases, hear, client_ask, client_gathered, client_step, client_takes}
use Rattle.cluster_rules.specs.World.{messages, under_way, worker_count, rest}
use Rattle.cluster_rules.specs.WorldStep.{scheduled, worked, client_worked, world_step}
use Rattle.cluster_rules.specs.Enabled.{enabled, message, progress}
use Rattle.cluster_rules.specs.Runs.{ends_attempt}
use Rattle.cluster_rules.specs.Report.{report}
use Rattle.cluster_rules.specs.Draw.{next}
use Rattle.cluster_msgs.specs.declared.events.Event.TheVariants.{Suspect, DeliverDown, DeliverFromClient, Start}
use Rattle.cluster_rules.specs.Draw.{opening_events}
use Rattle.cluster_rows.specs.SmallWorlds.{plan}
use Rattle.cluster_rows.proofs.world_rows.losses.an_attempt_ends_before_the_next.Goals as goal

pub returns-clause-ended : goal.returns-clause-ended
unfolding err reach held erred wanted known need ready blame phase tasks occupancy bytes_held full holders who_has holder_count waiters missing_bytes candidates place_rank place may_steal steal_choices level steal_rank next_steal may_drop most_loaded next_drop joined left finished failed released lost_copy answered wants_more wants_less sched_takes drop_bad drop_has drop_on place_one place_all settled settle task_messages to_worker down_messages to_clients client_messages posted finish_step sched_step flying awaited used wstate running_count would_start fetchable ask_items would_ask pairs given asked_back remove_replicas take_down arrived ask_peer gathered worker_row unasked_keys worker_step worker_takes client_fetchable client_would_ask client_pairs client_wants client_releases hear client_ask client_gathered client_step client_takes messages under_way worker_count rest scheduled worked client_worked world_step enabled message progress ends_attempt report next
returns-clause-ended c = record {
  before = opening_events (plan 2) (0 ∷ []);
  giving = DeliverFromClient 1;
  between = DeliverDown 1 ∷ Start 1 ∷ [];
  ending = Suspect 1;
  later = [];
  whole = refl;
  gives = record { fresh = omega arith; given = refl };
  ends = refl;
}
