use Rattle.std.proofs.Common.{refl, sym}
use Rattle.input_regions.proofs.Between.{from-between, from-to-first, from-to-lengths}
use Rattle.input_regions.proofs.Used.{ask-full, ask-have, image-both}
use Rattle.input_regions.proofs.uses.use_same.Goals as goal

pub widen_both-requires-clause-full : goal.widen_both-requires-clause-full
widen_both-requires-clause-full c = ask-full c.args.nodes.now c.args.needs.now c.args.of c.requires.can

pub widen_both-requires-clause-first : goal.widen_both-requires-clause-first
widen_both-requires-clause-first c =
    let first = c.args.first.now in
    ask-have c.args.nodes.now c.args.needs.now c.args.of first c.requires.can (c.requires.inside first (from-to-first first c.args.last.now c.args.last.now c.requires.order))

pub widen_both-requires-clause-last : goal.widen_both-requires-clause-last
widen_both-requires-clause-last c = ask-have c.args.nodes.now c.args.needs.now c.args.of c.args.last.now c.requires.can (c.requires.inside c.args.last.now c.requires.order)

pub widen_both-requires-clause-axes : goal.widen_both-requires-clause-axes
widen_both-requires-clause-axes c = sym (from-to-lengths c.args.first.now c.args.last.now c.args.last.now c.requires.order).0

pub returns-clause-uses : goal.returns-clause-uses
returns-clause-uses c =
    let first = c.args.first.now in
    let last = c.args.last.now in
    (image-both c.args.nodes.now c.args.of (λ i. i) first last first last c.args.needs.now c.widen_both.new.needs c.requires.can c.requires.order c.requires.inside refl refl (λ i f. from-between first last i f) c.widen_both.ensures).0

pub returns-clause-fit : goal.returns-clause-fit
returns-clause-fit c =
    let first = c.args.first.now in
    let last = c.args.last.now in
    (image-both c.args.nodes.now c.args.of (λ i. i) first last first last c.args.needs.now c.widen_both.new.needs c.requires.can c.requires.order c.requires.inside refl refl (λ i f. from-between first last i f) c.widen_both.ensures).1
