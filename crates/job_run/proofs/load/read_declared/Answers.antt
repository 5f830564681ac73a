use Rattle.std.proofs.Common.{rules}
use Rattle.job_run.proofs.GivenLoads.{fit_given, npy_given, shape_given}
use Rattle.job_run.proofs.load.read_declared.Goals as goal

pub returns-in-Err : goal.returns-in-Err
returns-in-Err g c = record {
  same = search rules;
  named = search rules;
  later = search rules;
  kept = tt;
  head = tt;
  given = tt;
  given_head = tt;
  given_refusal = npy_given (g.I.Store.names c.args.store.now) c.args.input (g.I.Store.gave c.args.store.now) (g.I.Store.gave c.read_head.new.store) c.args.shape.now _ (search rules) c.in-Err.ensures.given_refusal;
  cause = search rules;
}

pub returns-then-same_dims-clause-given : goal.returns-then-same_dims-clause-given
returns-then-same_dims-clause-given g c = fit_given (g.I.Store.names c.args.store.now) c.args.input (g.I.Store.gave c.args.store.now) (g.I.Store.gave c.read_head.new.store) c.args.shape.now c.in-Ok.head (search rules) c.in-Ok.ensures.given

pub returns-clause-given_refusal : goal.returns-clause-given_refusal
returns-clause-given_refusal g c = shape_given (g.I.Store.names c.args.store.now) c.args.input (g.I.Store.gave c.args.store.now) (g.I.Store.gave c.read_head.new.store) c.args.shape.now _ _ c.in-Ok.head (search rules) (search rules) (search rules) c.in-Ok.ensures.given
