use Rattle.std.proofs.Common.{ap, subst, ◌∙◌, arith}
use Rattle.msgpack_frames.specs.Reading.{outcome}
use Rattle.msgpack_frames.specs.Decoded.{Answers}
use Rattle.msgpack_frames.proofs.Outcome.{is_found, is_refused, outcome_again}
use Rattle.msgpack_frames.proofs.decoder.decode.Goals as goal

pub returns-clause-found : goal.returns-clause-found
returns-clause-found c = is_found c.args.bytes.now c.first_value.result (λ i. omega (arith, c.type_inv.bytes i)) c.first_value.ensures

pub returns-clause-accepted : goal.returns-clause-accepted
returns-clause-accepted c = λ d front rest encodes within e. subst (Answers c.first_value.result) (ap outcome e ∙ outcome_again d front rest encodes within) c.first_value.ensures

pub returns-clause-refused : goal.returns-clause-refused
returns-clause-refused c = is_refused c.args.bytes.now c.first_value.result (λ i. omega (arith, c.type_inv.bytes i)) c.first_value.ensures
