use Rattle.worker_core.specs.Core.{facts}
use Rattle.node_states.proofs.StoreLemmas.{goes_further, still_heard_of}
use Rattle.node_states.proofs.holding.advance.Goals as goal

pub returns-in_err-keep-clause-heard_of : goal.returns-in_err-keep-clause-heard_of
returns-in_err-keep-clause-heard_of g c =
    let stock = g.S.BlockStore.stock in let is = c.in-Some.ensures in let r = c.in_ok-record.ensures in let old = c.args.history.now in let new = c.record.new.self in
    still_heard_of (stock c.args.store.now) (stock c.make_way.new.store) (stock c.keep.new.store) (facts old.book.core.core) old.recorded c.args.said c.args.event (facts new.book.core.core) new.recorded
    c.make_way.ensures.store (λ k m i. c.make_way.ensures.gone k (rw is m) i) r.spilled r.comes
    (goes_further (stock c.make_way.new.store) (stock c.let_go.new.store) (stock c.keep.new.store) c.let_go.ensures c.keep.ensures)

pub returns-clause-heard_of : goal.returns-clause-heard_of
returns-clause-heard_of g c =
    let stock = g.S.BlockStore.stock in let is = c.in-Some.ensures in let r = c.in_ok-record.ensures in let old = c.args.history.now in let new = c.record.new.self in
    still_heard_of (stock c.args.store.now) (stock c.make_way.new.store) (stock c.keep.new.store) (facts old.book.core.core) old.recorded c.args.said c.args.event (facts new.book.core.core) new.recorded
    c.make_way.ensures.store (λ k m i. c.make_way.ensures.gone k (rw is m) i) r.spilled r.comes
    (goes_further (stock c.make_way.new.store) (stock c.let_go.new.store) (stock c.keep.new.store) c.let_go.ensures c.keep.ensures)
