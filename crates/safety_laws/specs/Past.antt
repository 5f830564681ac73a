-- What was started and what was given back, over a list of events.
use Rattle.std.specs.Prelude.{ℕ, ◌==◌, Bool, false, ◌&&◌, ◌||◌, List, [], ◌∷◌, Option, Some, None}
use Rattle.cluster_msgs.specs.declared.events.Event.{Event}
use Rattle.cluster_msgs.specs.declared.events.Event.TheVariants.{Start, DeliverUp}
use Rattle.cluster_rules.specs.Worker.{would_start}
use Rattle.cluster_rules.specs.World.{Job, World}
use Rattle.cluster_rules.specs.WorldStep.{world_step}
use Rattle.pair_machine.specs.Pair.{is_at}
use Rattle.pair_machine.specs.Story.{hears_yes}
use Rattle.pair_moves.specs.Projection.{reports}

-- worker, key, attempt
pub record Past : Type 0 where
  pub started : ℕ → ℕ → ℕ → Bool  -- the worker started the key while it had the attempt
  pub yielded : ℕ → ℕ → ℕ → Bool  -- a message that the worker gave the attempt up was taken from its link

abbrev pub is_it : Option ℕ → ℕ → Bool
is_it None q = false
is_it (Some k) q = k == q

abbrev pub past_after : World → Event → Past → Past
past_after w (Start v) p = record p { started = λ i k a. p.started i k a || ((v == i && is_it (would_start (w.workers i)) k) && is_at a ((w.workers i).mine k)) }
past_after w (DeliverUp v) p = record p { yielded = λ i k a. p.yielded i k a || (v == i && hears_yes (reports k (w.up i)) a) }
past_after w _ p = p

abbrev pub no_past : Past
no_past = record { started = λ i k a. false; yielded = λ i k a. false }

abbrev pub past_from : Job → World → List Event → Past → Past
past_from j w [] p = p
past_from j w (e ∷ es) p = past_from j (world_step j w e) es (past_after w e p)
