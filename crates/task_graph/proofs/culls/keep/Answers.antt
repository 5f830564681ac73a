use Rattle.std.proofs.Common.{◌≡◌, Bool, ℕ, List, length, sym, ap, subst, ◌∙◌}
use Rattle.task_graph.specs.declared.graph.Task.{Task}
use Rattle.task_graph.specs.Culls.{AreNeeded, marked_keys}
use Rattle.task_graph.specs.Numberings.{IsNumbering}
use Rattle.task_graph.specs.Numbers.{Numbers}
use Rattle.task_graph.specs.Orders.{kept}
use Rattle.task_graph.proofs.Culled.{kept-marked, kept-behind}
use Rattle.task_graph.proofs.Visits.{numbering}
use Rattle.task_graph.proofs.culls.keep.Goals as goal

abbrev numbers_of : ℕ → List ℕ → Numbers
numbers_of n o = record { keys = n; order = o }

pub returns-clause-numbers : goal.returns-clause-numbers
returns-clause-numbers c =
    let n : AreNeeded c.tasks.result.now c.as_slice.result.now c.as_slice-2.result.now = subst (λ (m : List Bool). AreNeeded c.tasks.result.now c.as_slice.result.now m) (sym c.as_slice-2.ensures.value) c.in_ok-marks.ensures in
    let o : marked_keys c.as_slice-2.result.now ≡ kept c.args.graph.now c.args.wanted.now =
    kept-marked c.tasks.result.now c.as_slice.result.now c.as_slice-2.result.now n ∙ ap (λ (ts : List Task). kept ts c.as_slice.result.now) c.tasks.ensures ∙ ap (kept c.args.graph.now) c.as_slice.ensures in
    let k : length c.as_slice-2.result.now ≡ length c.args.graph.now = n.count ∙ ap (λ (ts : List Task). length ts) c.tasks.ensures in
    let whole : numbers_of (length c.as_slice-2.result.now) (marked_keys c.as_slice-2.result.now) ≡ numbers_of (length c.args.graph.now) (kept c.args.graph.now c.args.wanted.now) = λ i. record { keys = k i; order = o i } in
    c.in_ok-numbers.ensures ∙ whole

pub returns-clause-closed : goal.returns-clause-closed
returns-clause-closed c =
    let n : AreNeeded c.tasks.result.now c.as_slice.result.now c.as_slice-2.result.now = subst (λ (m : List Bool). AreNeeded c.tasks.result.now c.as_slice.result.now m) (sym c.as_slice-2.ensures.value) c.in_ok-marks.ensures in
    let o : marked_keys c.as_slice-2.result.now ≡ kept c.args.graph.now c.args.wanted.now =
    kept-marked c.tasks.result.now c.as_slice.result.now c.as_slice-2.result.now n ∙ ap (λ (ts : List Task). kept ts c.as_slice.result.now) c.tasks.ensures ∙ ap (kept c.args.graph.now) c.as_slice.ensures in
    subst (λ (ks : List ℕ). IsNumbering c.args.graph.now ks) (sym (ap (λ (v : Numbers). v.order) c.in_ok-numbers.ensures ∙ o))
    (numbering c.args.graph.now (kept c.args.graph.now c.args.wanted.now) (kept-behind c.args.graph.now c.args.wanted.now c.settled.ensures.earlier))
