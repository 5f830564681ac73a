use Rattle.std.proofs.Common.{length, ap, ◌∙◌}
use Rattle.std.proofs.lemmas.Result.{err_from_is_err_and}
use Rattle.io_edge.specs.Content.{file_at}
use Rattle.npy_codec.proofs.FrontLemmas.{as_front, lens_of_front, front_errors, front_few, front_long, front_small}
use Rattle.npy_codec.proofs.GivenFronts.{fixed_given, front_faults, lens_given}
use Rattle.npy_codec.proofs.read.read_fixed.Goals as goal

pub returns-clause-long : goal.returns-clause-long
returns-clause-long g c = front_long c.args.size c.deref.result.now c.front_of.result (ap length c.deref.ensures.value ∙ c.in_ok-front.ensures.size ∙ c.min.ensures) c.front_of.ensures.value

pub returns-clause-few : goal.returns-clause-few
returns-clause-few g c = front_few c.deref.result.now c.front_of.result c.front_of.ensures.value

pub returns-clause-small : goal.returns-clause-small
returns-clause-small g c = front_small c.deref.result.now c.front_of.result c.front_of.ensures.value

pub returns-clause-value : goal.returns-clause-value
returns-clause-value g c =
    let file = file_at (g.S.Store.files c.args.store.now) c.args.file in
    let front = as_front file c.in_ok-front.front.items c.deref.result.now c.args.size c.min.result c.in_ok-front.ensures.part c.min.ensures c.requires.size c.deref.ensures.value in
    lens_of_front file c.deref.result.now c.front_of.result front c.front_of.ensures.value

pub returns-clause-refused : goal.returns-clause-refused
returns-clause-refused g c =
    let file = file_at (g.S.Store.files c.args.store.now) c.args.file in
    let front = as_front file c.in_ok-front.front.items c.deref.result.now c.args.size c.min.result c.in_ok-front.ensures.part c.min.ensures c.requires.size c.deref.ensures.value in
    front_errors file c.deref.result.now c.front_of.result front c.front_of.ensures.refused

pub returns-clause-given : goal.returns-clause-given
returns-clause-given g c =
    lens_given (g.S.Store.names c.args.store.now) c.args.file (g.S.Store.gave c.args.store.now) (g.S.Store.gave c.read_part.new.store) c.in_ok-front.front.items c.deref.result.now c.args.size c.min.result c.front_of.result
    c.min.ensures c.deref.ensures.value c.front_of.ensures.value c.in_ok-front.ensures.given

pub returns-clause-given_refusal : goal.returns-clause-given_refusal
returns-clause-given_refusal g c =
    fixed_given (g.S.Store.names c.args.store.now) c.args.file (g.S.Store.gave c.args.store.now) (g.S.Store.gave c.read_part.new.store) c.in_ok-front.front.items c.deref.result.now c.args.size c.min.result c.front_of.result
    c.min.ensures c.deref.ensures.value c.front_of.ensures.refused c.in_ok-front.ensures.given

pub returns-in_err-front-clause-given_refusal : goal.returns-in_err-front-clause-given_refusal
returns-in_err-front-clause-given_refusal g c =
    let p = err_from_is_err_and c.from_residual.result c.from_residual.ensures.1 in
    rw (p.1, p.2) (front_faults (g.S.Store.names c.args.store.now) c.args.file (g.S.Store.gave c.args.store.now) (g.S.Store.gave c.read_part.new.store) c.args.size _ c.in_err-front.ensures.cause c.read_part.ensures.gave)
