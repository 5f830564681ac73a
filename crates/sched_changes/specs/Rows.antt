-- What add-keys says of one key, and a refused steal.
use Rattle.std.specs.Prelude.{ℕ, nat_le, cond}
use Rattle.cluster_rules.specs.Functions.{put}
use Rattle.cluster_rules.specs.Sched.{Facts, holds, held, is_on}
use Rattle.cluster_rules.specs.SchedTable.{refused}
use Rattle.sched_changes.specs.declared.changes.News.{News}
use Rattle.sched_changes.specs.declared.changes.News.TheVariants.{Nothing, Copy, Stray}

-- nothing new, a new copy of a key that is held elsewhere, or a key that the worker should not hold
abbrev pub news_of : Facts → ℕ → ℕ → ℕ → News
news_of f w seen k = cond (nat_le (f.fence w k) seen) (cond (holds f w k) Nothing (cond (held f k) Copy (cond (is_on f w k) Nothing Stray))) Nothing

-- the key's worker refused the steal, if there is one
abbrev pub refused_at : Facts → ℕ → Facts
refused_at f k = record f { steal = put f.steal k (refused (f.steal k)) }
