use Rattle.std.proofs.Common.{◌++◌, ◌∷◌, [], ap, sym, ◌∙◌, rules, map-id}
use Rattle.std.proofs.lemmas.Result.{err_from_is_err_and}
use Rattle.std.proofs.lemmas.Iterator.Consumers.{YieldsList-turn, YieldsList-so_far}
use Rattle.std.proofs.lemmas.Iterator.Adapters.{YieldsList-from_vec}
use Rattle.job_text.specs.Jobs.{span_at}
use Rattle.job_text.proofs.Building.{builds-more, spans-more, names-here, refuses-here}
use Rattle.job_text.proofs.builder.build.Goals as goal

pub add_placed-requires-clause-names : goal.add_placed-requires-clause-names
add_placed-requires-clause-names c =
    let turn = YieldsList-turn (YieldsList-from_vec {s = c.into_iter-placed-iterator.result} c.args.asked.items (search rules) (search rules))
    c.loop-placed.yielded c.loop-placed.placed-iterator c.loop-placed.yielded_by c.next.result c.next.new.self c.in-Some.placed c.in-Some.is c.next.ensures.steps in
    names-here c.args.asked.items c.loop-placed.yielded c.in-Some.placed c.loop-placed.expr c.requires.earlier c.loop-placed.invariant.builds turn.0 turn.1

pub loop-placed-preserved : goal.loop-placed-preserved
loop-placed-preserved c = record {
  builds = builds-more [] c.loop-placed.yielded c.in-Some.placed c.loop-placed.expr c.add_placed.new.expr c.loop-placed.invariant.builds c.in_ok-add_placed.ensures.nodes;
  spans_are = c.in_ok-add_placed.ensures.spans ∙ (ap (λ w. w ++ span_at c.args.text.now c.in-Some.placed.at ∷ []) c.loop-placed.invariant.spans_are ∙ sym (spans-more c.args.text.now c.loop-placed.yielded c.in-Some.placed));
  stands = c.add_placed.ensures.stands;
}

pub returns-in_err-add_placed-clause-err : goal.returns-in_err-add_placed-clause-err
returns-in_err-add_placed-clause-err c =
    let road = YieldsList-from_vec {s = c.into_iter-placed-iterator.result} c.args.asked.items (search rules) (search rules) in
    let turn = YieldsList-turn road c.loop-placed.yielded c.loop-placed.placed-iterator c.loop-placed.yielded_by c.next.result c.next.new.self c.in-Some.placed c.in-Some.is c.next.ensures.steps in
    let front = YieldsList-so_far road c.loop-placed.yielded c.loop-placed.placed-iterator c.loop-placed.yielded_by in
    let p = err_from_is_err_and c.from_residual.result c.from_residual.ensures.1 in
    rw (p.1, p.2)
    (refuses-here c.args.text.now c.args.asked.items c.loop-placed.yielded c.in-Some.placed c.loop-placed.expr c.in_err-add_placed.field-0.0 c.loop-placed.invariant.builds (sym (map-id c.loop-placed.yielded) ∙ front) turn.0 turn.1 c.in_err-add_placed.ensures.err)
