use Rattle.std.proofs.Common.{◌∙◌, refl, arith}
use Rattle.worker_core.specs.Core.{facts}
use Rattle.node_states.proofs.StoreLemmas.{heard_without, none_until, none_more}
use Rattle.node_states.proofs.holding.least_due.Goals as goal

pub known-init : goal.known-init
known-init g c = record { none = record { each = λ k l a i. absurd (omega arith) }; heard = c.requires.heard; low = omega arith; room = refl }

pub known-preserved : goal.known-preserved
known-preserved g c =
    let s = g.S.BlockStore.stock c.args.store.now in
    let w = facts c.args.core.now in
    let m = c.args.history.now.recorded in
    let was = c.known.invariant in
    let key = c.in-Some.key in
    record {
      none = none_more s w m key (none_until s c.known.known w m c.args.keys c.known.from key c.requires.told (omega (arith, c.if-key-keys.false)) was.none was.heard (λ k l h. c.in-Some.ensures.2 k l h)) (c.is_due.ensures.no c.if-is_due.false);
      heard = heard_without s c.known.known c.unmark.new.self key w m c.args.keys c.unmark.ensures.marks (c.is_due.ensures.no c.if-is_due.false) was.heard;
      low = omega (arith, c.if-key-keys.false);
      room = c.unmark.ensures.keys ∙ was.room;
    }

pub returns-then-key-keys-clause-next : goal.returns-then-key-keys-clause-next
returns-then-key-keys-clause-next g c =
    let s = g.S.BlockStore.stock c.args.store.now in
    let was = c.known.invariant in
    none_until s c.known.known (facts c.args.core.now) c.args.history.now.recorded c.args.keys c.known.from c.args.keys c.requires.told (omega arith) was.none was.heard (λ k l h. c.in-Some.ensures.2 k l (omega (arith, h, c.if-key-keys.true)))

pub returns-then-is_due-clause-next : goal.returns-then-is_due-clause-next
returns-then-is_due-clause-next g c =
    let s = g.S.BlockStore.stock c.args.store.now in
    let was = c.known.invariant in
    let key = c.in-Some.key in
    let yes = c.is_due.ensures.yes c.if-is_due.true in
    record {
      due = record { below = omega (arith, c.if-key-keys.false); aside = yes.0; mem = yes.1; unmarked = yes.2 };
      least = none_until s c.known.known (facts c.args.core.now) c.args.history.now.recorded c.args.keys c.known.from key c.requires.told (omega (arith, c.if-key-keys.false)) was.none was.heard (λ k l h. c.in-Some.ensures.2 k l h);
    }

pub returns-clause-next : goal.returns-clause-next
returns-clause-next g c =
    let s = g.S.BlockStore.stock c.args.store.now in
    let was = c.known.invariant in
    none_until s c.known.known (facts c.args.core.now) c.args.history.now.recorded c.args.keys c.known.from c.args.keys c.requires.told (omega arith) was.none was.heard (λ k l h. c.in_default.ensures k l)
