use Rattle.npy_codec.proofs.FrontLemmas.{heads_of_said, errors_said}
use Rattle.npy_codec.proofs.read.head_of_text.Goals as goal

pub returns-in-Ok-clause-declared : goal.returns-in-Ok-clause-declared
returns-in-Ok-clause-declared c = heads_of_said c.args.wide c.args.fixed c.args.text.now c.in-Ok.fields c.head_of_fields.result c.in-Ok.ensures.ok c.head_of_fields.ensures.declared

pub returns-in-Ok-clause-refused : goal.returns-in-Ok-clause-refused
returns-in-Ok-clause-refused c = errors_said c.args.wide c.args.fixed c.args.text.now c.in-Ok.fields c.head_of_fields.result c.in-Ok.ensures.ok c.head_of_fields.ensures.refused
