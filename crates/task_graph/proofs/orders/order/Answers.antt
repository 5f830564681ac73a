use Rattle.std.proofs.Common.{◌≡◌, ℕ, List, [], length, sym, ap, subst, ◌∙◌}
use Rattle.cluster_msgs.specs.Shape.{deps_of}
use Rattle.task_graph.specs.declared.graph.Task.{Task}
use Rattle.task_graph.specs.Graphs.{shape_of}
use Rattle.task_graph.specs.Numberings.{IsNumbering}
use Rattle.task_graph.specs.Numbers.{Numbers}
use Rattle.task_graph.specs.Orders.{visit_all, depth_first}
use Rattle.task_graph.specs.Walks.{visit}
use Rattle.task_graph.proofs.Visits.{depth-first, numbering}
use Rattle.task_graph.proofs.Walked.{visits-are}
use Rattle.task_graph.proofs.orders.order.Goals as goal

abbrev numbers_of : ℕ → List ℕ → Numbers
numbers_of n o = record { keys = n; order = o }

pub returns-clause-numbers : goal.returns-clause-numbers
returns-clause-numbers c =
    let k : c.in_ok-numbers.numbers.keys ≡ length c.args.graph.now = ap (λ (v : Numbers). v.keys) c.in_ok-numbers.ensures ∙ c.keys.ensures in
    let o : visit_all (visit (deps_of (shape_of c.tasks.result.now))) c.as_slice.result.now c.in_ok-numbers.numbers.order ≡ depth_first c.args.graph.now c.args.wanted.now =
    ap (λ (ts : List Task). visit_all (visit (deps_of (shape_of ts))) c.as_slice.result.now c.in_ok-numbers.numbers.order) c.tasks.ensures
    ∙ ap (λ (ws : List ℕ). visit_all (visit (deps_of (shape_of c.args.graph.now))) ws c.in_ok-numbers.numbers.order) c.as_slice.ensures
    ∙ ap (λ (v : Numbers). visit_all (visit (deps_of (shape_of c.args.graph.now))) c.args.wanted.now v.order) c.in_ok-numbers.ensures
    ∙ sym (visits-are (deps_of (shape_of c.args.graph.now)) c.settled.ensures.earlier (length c.args.graph.now) c.args.wanted.now [] c.requires) in
    let whole : numbers_of c.in_ok-numbers.numbers.keys (visit_all (visit (deps_of (shape_of c.tasks.result.now))) c.as_slice.result.now c.in_ok-numbers.numbers.order) ≡ numbers_of (length c.args.graph.now) (depth_first c.args.graph.now c.args.wanted.now) = λ i. record { keys = k i; order = o i } in
    c.in_ok-visit_each.ensures ∙ whole

pub returns-clause-closed : goal.returns-clause-closed
returns-clause-closed c =
    let o : visit_all (visit (deps_of (shape_of c.tasks.result.now))) c.as_slice.result.now c.in_ok-numbers.numbers.order ≡ depth_first c.args.graph.now c.args.wanted.now =
    ap (λ (ts : List Task). visit_all (visit (deps_of (shape_of ts))) c.as_slice.result.now c.in_ok-numbers.numbers.order) c.tasks.ensures
    ∙ ap (λ (ws : List ℕ). visit_all (visit (deps_of (shape_of c.args.graph.now))) ws c.in_ok-numbers.numbers.order) c.as_slice.ensures
    ∙ ap (λ (v : Numbers). visit_all (visit (deps_of (shape_of c.args.graph.now))) c.args.wanted.now v.order) c.in_ok-numbers.ensures
    ∙ sym (visits-are (deps_of (shape_of c.args.graph.now)) c.settled.ensures.earlier (length c.args.graph.now) c.args.wanted.now [] c.requires) in
    subst (λ (ks : List ℕ). IsNumbering c.args.graph.now ks) (sym (ap (λ (v : Numbers). v.order) c.in_ok-visit_each.ensures ∙ o))
    (numbering c.args.graph.now (depth_first c.args.graph.now c.args.wanted.now) (depth-first c.args.graph.now c.args.wanted.now c.settled.ensures.earlier c.requires).sound)
