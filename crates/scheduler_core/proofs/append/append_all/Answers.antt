use Rattle.sched_changes.proofs.PairLemmas.{after_err}
use Rattle.scheduler_core.specs.Sent.{HasFront, HasGrown}
use Rattle.scheduler_core.proofs.FrontLemmas.{none_of, all_of, err_then}
use Rattle.scheduler_core.proofs.append.append_all.Goals as goal

pub returns-in_err-append-clause-err : goal.returns-in_err-append-clause-err
returns-in_err-append-clause-err c = after_err c.from_residual.result (HasGrown c.args.out.now c.args.made (record { down = c.append.new.out; clients = c.args.out.now.clients; joined = c.args.out.now.joined })) (record {
  down = c.in_err-append.ensures.err;
  clients = none_of c.args.out.now.clients c.args.made.clients;
  joined = none_of c.args.out.now.joined c.args.made.joined;
})

pub returns-in_err-append-2-clause-err : goal.returns-in_err-append-2-clause-err
returns-in_err-append-2-clause-err c = after_err c.from_residual-in_err-append-2.result (HasGrown c.args.out.now c.args.made (record { down = c.append.new.out; clients = c.append-2.new.out; joined = c.args.out.now.joined })) (record {
  down = all_of c.args.out.now.down c.args.made.down c.append.new.out c.in_ok-append.ensures.ok;
  clients = c.in_err-append-2.ensures.err;
  joined = none_of c.args.out.now.joined c.args.made.joined;
})

pub returns-clause-err : goal.returns-clause-err
returns-clause-err c = err_then c.append-3.result (HasFront c.args.out.now.joined c.args.made.joined c.append-3.new.out) (HasGrown c.args.out.now c.args.made (record { down = c.append.new.out; clients = c.append-2.new.out; joined = c.append-3.new.out })) c.append-3.ensures.err (λ h. record {
  down = all_of c.args.out.now.down c.args.made.down c.append.new.out c.in_ok-append.ensures.ok;
  clients = all_of c.args.out.now.clients c.args.made.clients c.append-2.new.out c.in_ok-append-2.ensures.ok;
  joined = h;
})
