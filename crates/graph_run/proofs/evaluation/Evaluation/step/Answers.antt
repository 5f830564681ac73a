use Rattle.std.proofs.Common.{◌≡◌, ◌∙◌, ◌<◌, ◌+◌, ap, sym, subst, ℕ, List}
use Rattle.std.specs.Prelude.{Option}
use Rattle.std.specs.Arc.{arc_value}
use Rattle.std.specs.declared.sync.Arc.{Arc}
use Rattle.std.specs.declared.alloc.Global.{Global}
use Rattle.std.proofs.lemmas.List.{with_items_is}
use Rattle.cluster_msgs.specs.Shape.{IsShape, key_count, deps_of}
use Rattle.graph_run.specs.Evaluations.{Evaluation}
use Rattle.graph_run.specs.Kept.{IsEvaluation, IsTraced, AreValues}
use Rattle.graph_run.specs.Slots.{IsKeeping}
use Rattle.graph_run.proofs.Stepping.{inputs-kept, feed-kept, stepped, traced-kept, traced-stepped}
use Rattle.graph_run.proofs.evaluation.Evaluation.step.Goals as goal
use Rattle.graph_run.proofs.evaluation.Evaluation.step.Goals.{in-Made+in_ok-keep, in_default}

pub run_key-requires-clause-kept : goal.run_key-requires-clause-kept
run_key-requires-clause-kept g c κs within =
    let j = g.J.JobSpec in
    let s = c.self.inside in
    let lt : s.next < key_count (j.graph s.job) = rw (← c.self.view_is) at c.requires in
    inputs-kept j.graph j.key_dims j.block_dims j.operation j.feed_fits j.feed_tells s.job s.feed s.next s.last.items s.slots.items c.as_slice-slots.result.now
    c.self.invariant.0 (subst IsShape c.shape-graph.ensures c.sound.ensures) lt c.as_slice-slots.ensures.value

pub invariant_of-self-in_err-keep : goal.invariant_of-self-in_err-keep
invariant_of-self-in_err-keep g c =
    let j = g.J.JobSpec in
    let s = c.self.inside in
    let t = g.J.TracedJob in
    let Holds = λ (xs : List (Option (Arc g.row.J-Block.Denot Global))). IsEvaluation j.graph j.key_dims j.block_dims j.operation j.feed_fits j.feed_tells s.job c.run_key.new.feed s.next s.last.items xs
    × IsTraced j.graph t.agrees t.has t.made_of s.job c.run_key.new.feed s.next xs in
    let whole = with_items_is s.slots c.keep.new.slots (c.keep.auto.slots ∙ c.as_mut_slice-slots.ensures.len) in
    subst Holds (sym (whole ∙ c.in_err-keep.ensures.err ∙ c.as_mut_slice-slots.ensures.value))
    (feed-kept j.graph j.key_dims j.block_dims j.operation j.feed_fits j.feed_tells s.job s.feed c.run_key.new.feed s.next s.last.items s.slots.items c.self.invariant.0 c.run_key.ensures.fits c.run_key.ensures.tells, traced-kept j.graph t.agrees t.has t.made_of s.job s.feed c.run_key.new.feed s.next s.slots.items c.self.invariant.1 c.run_key.ensures.agreed c.run_key.ensures.same)

pub invariant_of-self-in-Made : goal.invariant_of-self-in-Made
invariant_of-self-in-Made g c =
    let j = g.J.JobSpec in
    let s = c.self.inside in
    let block = arc_value c.in-Made.block in
    let lt : s.next < key_count (j.graph s.job) = rw (← c.self.view_is) at c.requires in
    let t = g.J.TracedJob in
    let Holds = λ (xs : List (Option (Arc g.row.J-Block.Denot Global))). IsEvaluation j.graph j.key_dims j.block_dims j.operation j.feed_fits j.feed_tells s.job c.run_key.new.feed (s.next + 1) s.last.items xs
    × IsTraced j.graph t.agrees t.has t.made_of s.job c.run_key.new.feed (s.next + 1) xs in
    let whole = with_items_is s.slots c.keep.new.slots (c.keep.auto.slots ∙ c.as_mut_slice-slots.ensures.len) in
    let kept : IsKeeping s.last.items s.next block s.slots.items c.keep.new.slots =
    subst (λ (xs : List ℕ). IsKeeping xs s.next block s.slots.items c.keep.new.slots) c.as_slice.ensures.value
    (subst (λ (xs : List (Option (Arc g.row.J-Block.Denot Global))). IsKeeping c.as_slice.result.now s.next block xs c.keep.new.slots) c.as_mut_slice-slots.ensures.value c.in_ok-keep.ensures.ok) in
    subst Holds (sym whole) (
      stepped j.graph j.key_dims j.block_dims j.operation j.feed_fits j.feed_tells s.job c.run_key.new.feed s.next s.last.items s.slots.items c.keep.new.slots c.in_ok-step.step c.in-Made.block
          (feed-kept j.graph j.key_dims j.block_dims j.operation j.feed_fits j.feed_tells s.job s.feed c.run_key.new.feed s.next s.last.items s.slots.items c.self.invariant.0 c.run_key.ensures.fits c.run_key.ensures.tells)
          lt kept c.in-Made.is c.in_ok-step.ensures.dims
          (λ t. c.in_ok-step.ensures.value (c.run_key.ensures.tells.0 t) (subst (AreValues (deps_of (j.graph s.job)) (j.operation s.job)) (sym c.as_slice-slots.ensures.value) (c.self.invariant.0.values (c.run_key.ensures.tells.0 t)))),
      traced-stepped j.graph t.agrees t.has t.made_of s.job c.run_key.new.feed s.next s.last.items s.slots.items c.keep.new.slots c.in_ok-step.step c.in-Made.block
          (traced-kept j.graph t.agrees t.has t.made_of s.job s.feed c.run_key.new.feed s.next s.slots.items c.self.invariant.1 c.run_key.ensures.agreed c.run_key.ensures.same)
          kept c.in-Made.is
          (λ holds named a h. let had : t.has s.job s.feed holds named = (c.run_key.ensures.same holds named).0 h in
          c.in_ok-step.ensures.given holds named a had (subst (AreValues (deps_of (j.graph s.job)) (t.made_of s.job named)) (sym c.as_slice-slots.ensures.value) (c.self.invariant.1.values holds named (c.run_key.ensures.agreed holds a) had))),
    )

pub invariant_of-self-in_default : goal.invariant_of-self-in_default
invariant_of-self-in_default g c =
    let j = g.J.JobSpec in
    let t = g.J.TracedJob in
    let s = c.self.inside in
    (feed-kept j.graph j.key_dims j.block_dims j.operation j.feed_fits j.feed_tells s.job s.feed c.run_key.new.feed s.next s.last.items s.slots.items c.self.invariant.0 c.run_key.ensures.fits c.run_key.ensures.tells, traced-kept j.graph t.agrees t.has t.made_of s.job s.feed c.run_key.new.feed s.next s.slots.items c.self.invariant.1 c.run_key.ensures.agreed c.run_key.ensures.same)

pub returns-clause-value : goal.returns-clause-value
returns-clause-value g c =
    let j = g.J.JobSpec in
    let s = c.self.inside in
    rw (← c.self.view_is) (λ t. c.in_ok-step.ensures.value t (subst (AreValues (deps_of (j.graph s.job)) (j.operation s.job)) (sym c.as_slice-slots.ensures.value) (c.self.invariant.0.values t)))

pub returns-clause-given : goal.returns-clause-given
returns-clause-given g c =
    let j = g.J.JobSpec in
    let t = g.J.TracedJob in
    let s = c.self.inside in
    let read = λ (e : Evaluation g.row.J.Denot g.row.J-Feed.Denot). e.feed in
    let fed : c.match-step.self.feed ≡ c.run_key.new.feed = elim c.match-step.branch [
      | in-Made+in_ok-keep w ↦ ap read w.self-is
      | in_default w ↦ ap read w.self-is
    ] in
    rw (← c.self.view_is) (λ holds named a h. let gave : t.agrees c.run_key.new.feed holds = subst (λ (f : g.row.J-Feed.Denot). t.agrees f holds) fed a in
    c.in_ok-step.ensures.given holds named gave h (subst (AreValues (deps_of (j.graph s.job)) (t.made_of s.job named)) (sym c.as_slice-slots.ensures.value) (c.self.invariant.1.values holds named (c.run_key.ensures.agreed holds gave) h)))
