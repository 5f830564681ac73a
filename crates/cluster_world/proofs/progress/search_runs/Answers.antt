use Rattle.std.proofs.Common.{ℕ, Option, None, true, ap, ◌∙◌, subst, arith}
use Rattle.cluster_msgs.specs.Shape.{key_count}
use Rattle.cluster_msgs.specs.declared.events.Event.TheVariants as event
use Rattle.cluster_rules.specs.Enabled.{enabled}
use Rattle.cluster_rules.specs.World.{shape_of}
use Rattle.cluster_world.specs.Searching.{IsNextFinish, next}
use Rattle.cluster_world.proofs.Searches.{found_next, passed_over}
use Rattle.cluster_world.proofs.progress.search_runs.Goals as goal

pub overflow_add-first : goal.overflow_add-first
overflow_add-first g c = omega (arith, c.keys-keys.ensures, c.in-Some.ensures.there)

pub loop-key-preserved : goal.loop-key-preserved
loop-key-preserved g c =
    let w = g.C.Choices.world c.args.world.now in
    let found = c.in-Some.ensures in
    record {
      within = omega (arith, found.there);
      searched = c.next-search.ensures ∙ ap (λ s. next s true (event.Finish c.args.worker c.in-Some.key)) c.loop-key.invariant.searched
          ∙ found_next (enabled w) c.args.search (λ k. event.Finish c.args.worker k) c.loop-key.first c.in-Some.key found.past found.finishes found.before;
    }

pub loop-key-smaller : goal.loop-key-smaller
loop-key-smaller g c = omega (arith, c.in-Some.ensures.there, c.in-Some.ensures.past)

pub returns : goal.returns
returns g c =
    let w = g.C.Choices.world c.args.world.now in
    let P : Option ℕ → Type 0 = λ o. IsNextFinish w c.args.worker c.loop-key.first o in
    let none : IsNextFinish w c.args.worker c.loop-key.first None = subst P c.in_default.is c.next_finish.ensures in
    c.loop-key.invariant.searched
    ∙ passed_over (enabled w) c.args.search (λ k. event.Finish c.args.worker k) c.loop-key.first (key_count (shape_of w)) c.loop-key.invariant.within (λ k l m. none k l)
