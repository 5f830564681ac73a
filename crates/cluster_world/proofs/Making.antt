-- A world that events made, and one that these and one more make.
use Rattle.std.proofs.Common.{◌≡◌, ℕ, ◌+◌, ◌<◌, true, List, [], ◌∷◌, ◌++◌, Option, refl, sym, ap, ◌∙◌, subst, append-nil, arith}
use Rattle.std.proofs.lemmas.List.{length-append}
use Rattle.cluster_msgs.specs.declared.events.Event.{Event}
use Rattle.cluster_rules.specs.Sched.{Setting}
use Rattle.cluster_rules.specs.World.{Job, World}
use Rattle.cluster_rules.specs.WorldStep.{world_step}
use Rattle.cluster_rules.specs.Enabled.{enabled}
use Rattle.cluster_rules.specs.Runs.{LegalFrom, legal, run_from, reached, Safe, event_limit}
use Rattle.cluster_msgs.specs.Shape.{IsShape}
use Rattle.cluster_laws.specs.Blocks.{Cluster, job_of, opening_cluster}
use Rattle.cluster_laws.specs.Moves.{cluster_step, cluster_run}
use Rattle.cluster_laws.proofs.BlockValues.{world_of}
use Rattle.cluster_world.specs.declared.state.State.{State}
use Rattle.cluster_world.specs.declared.state.Course.TheVariants.{Fed}
use Rattle.cluster_world.specs.Safe.{IsSafeWorld}
use Rattle.cluster_world.specs.Worlds.{cluster, world, setting, running, IsMadeBy, IsMade}

pub legal_more : (j : Job) (w : World) (es : List Event) (e : Event) → LegalFrom j w es → enabled (run_from j w es) e ≡ true → LegalFrom j w (es ++ e ∷ [])
legal_more j w [] e l t = (t, tt)
legal_more j w (d ∷ es) e l t = (l.0, legal_more j (world_step j w d) es e l.1 t)

run_more : {B : Type 0} (op : ℕ → List B → Option B) (c : Cluster B) (es : List Event) (e : Event) → cluster_run op c (es ++ e ∷ []) ≡ cluster_step op (cluster_run op c es) e
run_more op c [] e = refl
run_more op c (d ∷ es) e = run_more op (cluster_step op c d) es e

pub world_more : (j : Job) (w : World) (es : List Event) (e : Event) → run_from j w (es ++ e ∷ []) ≡ world_step j (run_from j w es) e
world_more j w [] e = refl
world_more j w (d ∷ es) e = world_more j (world_step j w d) es e

-- the world of a cluster is the world of its events
led : {B : Type 0} (s : Setting) (op : ℕ → List B → Option B) (es : List Event) (c : Cluster B) → IsShape s.shape → legal (job_of s op) es → cluster_run op (opening_cluster s op) es ≡ c → reached (job_of s op) es ≡ c.world
led {B} s op es c g l e = sym (world_of s op g es l) ∙ ap (λ (x : Cluster B). x.world) e

module _ {J B F : Type 0} (op : J → ℕ → List B → Option B) where
  -- no event makes the opening
  pub made_opening : (s : State J B F) → cluster s ≡ opening_cluster (setting s) (op s.job) → s.events ≡ 0 → IsMadeBy op [] s
  made_opening s c e = record { run = record { legal = tt; reached = ap (λ (x : Cluster B). x.world) (sym c) }; blocks = sym c; count = sym e; few = omega arith }

  -- a feed that failed made nothing
  pub made_fed : (es : List Event) (old : State J B F) (f : F) → IsMadeBy op es old → IsMadeBy op es (record old { feed = f; course = Fed })
  made_fed es old f m = record { run = m.run; blocks = m.blocks; count = m.count; few = m.few }

  module _ (old : State J B F) (e : Event) (g : IsShape (setting old).shape) (t : enabled (world old) e ≡ true) where
    more_legal : (es : List Event) → IsMadeBy op es old → legal (running op old) (es ++ e ∷ [])
    more_legal es m = legal_more (running op old) _ es e m.run.legal (ap (λ w. enabled w e) m.run.reached ∙ t)

    more_blocks : (es : List Event) → IsMadeBy op es old → cluster_run (op old.job) (opening_cluster (setting old) (op old.job)) (es ++ e ∷ []) ≡ cluster_step (op old.job) (cluster old) e
    more_blocks es m = run_more (op old.job) (opening_cluster (setting old) (op old.job)) es e ∙ ap (λ c. cluster_step (op old.job) c e) m.blocks

    -- a step goes by the values
    pub step_by_values : IsMade op old → (cluster_step (op old.job) (cluster old) e).world ≡ world_step (running op old) (world old) e
    step_by_values m =
        sym (led (setting old) (op old.job) (m.events ++ e ∷ []) (cluster_step (op old.job) (cluster old) e) g (more_legal m.events m.made) (more_blocks m.events m.made))
        ∙ world_more (running op old) _ m.events e ∙ ap (λ w. world_step (running op old) w e) m.made.run.reached

    -- one event more
    pub made_more : (new : State J B F) → old.events < event_limit → new.job ≡ old.job → setting new ≡ setting old → new.events ≡ old.events + 1 → cluster new ≡ cluster_step (op old.job) (cluster old) e
        → (es : List Event) → IsMadeBy op es old → IsMadeBy op (es ++ e ∷ []) new
    made_more new room job set counted to es m = record {
      run = record {
        legal = subst (λ (j : Job). legal j (es ++ e ∷ [])) (sym runs) (more_legal es m);
        reached = ap (λ (j : Job). reached j (es ++ e ∷ [])) runs
            ∙ led (setting old) (op old.job) (es ++ e ∷ []) (cluster_step (op old.job) (cluster old) e) g (more_legal es m) (more_blocks es m)
            ∙ ap (λ (c : Cluster B). c.world) (sym to);
      };
      blocks = begun ∙ more_blocks es m ∙ sym to;
      count = let l = length-append es (e ∷ []) in let n = m.count in omega (arith, l, n, counted);
      few = let l = length-append es (e ∷ []) in let n = m.count in omega (arith, l, n, room);
    }
      where
        runs : running op new ≡ running op old
        runs = λ i. job_of (set i) (op (job i))

        begun : cluster_run (op new.job) (opening_cluster (setting new) (op new.job)) (es ++ e ∷ []) ≡ cluster_run (op old.job) (opening_cluster (setting old) (op old.job)) (es ++ e ∷ [])
        begun = λ i. cluster_run (op (job i)) (opening_cluster (set i) (op (job i))) (es ++ e ∷ [])

-- what legal events made is safe, where they are
pub safe_now : {J B F : Type 0} (op : J → ℕ → List B → Option B) (s : State J B F) → ((es : List Event) → legal (running op s) es → Safe (running op s) es) → IsMade op s → IsSafeWorld (world s)
safe_now op s safe m =
    let h = safe m.events m.made.run.legal in
    let whole : m.events ≡ m.events ++ [] = sym (append-nil m.events) in
    subst IsSafeWorld m.made.run.reached (record {
      known = h.known m.events [] whole;
      agrees = λ i d. h.agrees m.events [] i whole d;
      lively = h.lively m.events [] whole;
    })
