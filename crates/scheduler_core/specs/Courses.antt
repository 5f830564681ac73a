-- What one event leaves to be told.
use Rattle.std.specs.Prelude.{◌≡◌, ℕ, ◌<◌, ◌++◌, true, false, []}
use Rattle.std.specs.List.{cons_option, flat_map}
use Rattle.cluster_msgs.specs.declared.cores.SchedEvent.{SchedEvent}
use Rattle.cluster_msgs.specs.declared.cores.Outbox.{Outbox}
use Rattle.cluster_rules.specs.Sched.{keys, workers}
use Rattle.cluster_rules.specs.SchedTable.{change}
use Rattle.cluster_rules.specs.SchedStep.{Stages, settle, lost, was_held, was_erred}
use Rattle.key_sets.specs.Sets.{has}
use Rattle.task_table.specs.Tasks.{Tasks, facts}
use Rattle.sched_changes.specs.Effects.{answer_by, IsAnswer}
use Rattle.sched_changes.specs.Pairs.{has_pair}
use Rattle.scheduler_core.specs.Mail.{worker_mail, is_since}
use Rattle.scheduler_core.specs.News.{client_mail, reply_of, was_held as was_held_by, was_erred as was_erred_by}
use Rattle.scheduler_core.specs.declared.event.Course.{Course}

-- the course of these stages, which left this table
pub record IsCourseOf (s : Stages) (t : Tasks) (c : Course) : Type 0 where
  pub since : c.since ≡ s.before.counter
  pub lost : (w k : ℕ) → has_pair c.lost w k ≡ lost s w k
  pub answer : s.changed.answer ≡ answer_by s.before c.effect.answer
  pub is_answer : IsAnswer s.before s.changed.facts c.effect.answer
  pub reply : s.changed.reply ≡ c.effect.reply
  pub joined : s.changed.joined ≡ cons_option c.effect.joined []
  pub held : was_held_by t c.asked ≡ was_held s
  pub erred : was_erred_by t c.asked ≡ was_erred s

-- what the walks over touched keys rest on: of other keys nothing is to be told
pub record IsCalm (t : Tasks) (c : Course) : Type 0 where
  pub asked : (k : ℕ) → has c.asked k ≡ true → has t.touched k ≡ true
  pub given : (k : ℕ) → k < keys (facts t) → has t.touched k ≡ false → is_since c.since ((facts t).on k) ≡ false

-- the event led from s to t, by this course
pub record IsCourse (s : Tasks) (e : SchedEvent) (t : Tasks) (c : Course) : Type 0 where
  pub placed : facts t ≡ (settle (facts s) (change (facts s) e)).placed
  pub course : IsCourseOf (settle (facts s) (change (facts s) e)) t c
  pub calm : IsCalm t c

-- what is to be sent by the table as the event left it
abbrev pub told_by : Tasks → Course → Outbox
told_by t c =
    let ms = client_mail (facts t) (was_held_by t c.asked) (was_erred_by t c.asked) in
    record {
      down = flat_map (worker_mail (facts t) c.lost c.since c.effect.answer) (workers (facts t));
      clients = ms ++ reply_of (facts t) ms c.effect.reply;
      joined = cons_option c.effect.joined [];
    }
