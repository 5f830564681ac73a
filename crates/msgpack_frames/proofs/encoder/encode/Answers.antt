use Rattle.std.proofs.lemmas.Result.{IfOk-weaker}
use Rattle.msgpack_frames.specs.View.{view}
use Rattle.msgpack_frames.proofs.Written.{is_written, is_unwritten}
use Rattle.msgpack_frames.proofs.encoder.encode.Goals as goal

pub returns-clause-encoded : goal.returns-clause-encoded
returns-clause-encoded c = IfOk-weaker c.spelled.result _ _ (λ v w. w.encoded) (is_written (view c.args.value.now) c.spelled.result c.spelled.ensures.ok c.spelled.ensures.valid c.spelled.ensures.fault)

pub returns-clause-shortest : goal.returns-clause-shortest
returns-clause-shortest c = IfOk-weaker c.spelled.result _ _ (λ v w. w.shortest) (is_written (view c.args.value.now) c.spelled.result c.spelled.ensures.ok c.spelled.ensures.valid c.spelled.ensures.fault)

pub returns-clause-within : goal.returns-clause-within
returns-clause-within c = IfOk-weaker c.spelled.result _ _ (λ v w. w.within) (is_written (view c.args.value.now) c.spelled.result c.spelled.ensures.ok c.spelled.ensures.valid c.spelled.ensures.fault)

pub returns-clause-read_back : goal.returns-clause-read_back
returns-clause-read_back c = IfOk-weaker c.spelled.result _ _ (λ v w. w.read_back) (is_written (view c.args.value.now) c.spelled.result c.spelled.ensures.ok c.spelled.ensures.valid c.spelled.ensures.fault)

pub returns-clause-refused : goal.returns-clause-refused
returns-clause-refused c = is_unwritten (view c.args.value.now) c.spelled.result c.spelled.ensures.fault
