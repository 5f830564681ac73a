use Rattle.std.proofs.Common.{◌<◌, true, subst, sym, ap, ◌∙◌}
use Rattle.cluster_rules.specs.Functions.{put}
use Rattle.cluster_rules.specs.Sched.{Facts, keys}
use Rattle.sched_changes.proofs.Following.{follows_then}
use Rattle.sched_changes.proofs.changes.end_badly.Goals as goal

pub make-requires-2 : goal.make-requires-2
make-requires-2 c = subst (λ (g : Facts). c.args.key < keys g) (sym c.make.ensures.facts) c.requires

pub returns : goal.returns
returns c = record {
  facts = c.make-2.ensures.facts ∙ ap (λ (g : Facts). record g { bad = put g.bad c.args.key true }) c.make.ensures.facts;
  follows = follows_then c.args.table.now c.make.new.table c.make-2.new.table c.make.ensures.follows c.make-2.ensures.follows;
}
