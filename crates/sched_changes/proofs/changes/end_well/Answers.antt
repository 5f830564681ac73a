use Rattle.std.proofs.Common.{◌≡◌, ◌<◌, ◌^◌, ◌+◌, Some, true, subst, sym, ap, ◌∙◌}
use Rattle.cluster_rules.specs.Functions.{put_pair}
use Rattle.cluster_rules.specs.Sched.{Facts, keys, connected}
use Rattle.sched_changes.proofs.Following.{follows_then}
use Rattle.sched_changes.proofs.changes.end_well.Goals as goal

pub make-requires-2 : goal.make-requires-2
make-requires-2 c = record {
  worker = subst (λ (g : Facts). connected g c.args.worker ≡ true) (sym c.make.ensures.facts) c.requires.worker;
  key = subst (λ (g : Facts). c.args.key < keys g) (sym c.make.ensures.facts) c.requires.key;
  room = subst (λ (g : Facts). g.counter < 2 ^ 62) (sym c.make.ensures.facts) c.requires.room;
}

pub make-requires-3 : goal.make-requires-3
make-requires-3 c = subst (λ (g : Facts). g.finishes < 2 ^ 62) (sym c.make-2.ensures.facts) (subst (λ (g : Facts). g.finishes < 2 ^ 62) (sym c.make.ensures.facts) c.requires.finishes)

pub returns : goal.returns
returns c = record {
  facts = c.make-3.ensures.facts ∙ ap (λ (g : Facts). record g { finishes = g.finishes + 1 }) (c.make-2.ensures.facts ∙ ap (λ (g : Facts). record g { has = put_pair g.has c.args.worker c.args.key (Some g.counter); counter = g.counter + 1 }) c.make.ensures.facts);
  follows = follows_then c.args.table.now c.make.new.table c.make-3.new.table c.make.ensures.follows (follows_then c.make.new.table c.make-2.new.table c.make-3.new.table c.make-2.ensures.follows c.make-3.ensures.follows);
}
