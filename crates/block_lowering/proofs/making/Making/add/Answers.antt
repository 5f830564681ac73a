use Rattle.std.proofs.Common.{◌≡◌, ◌<◌, ℕ, List, length, take, ap, subst, ◌∙◌, arith, refl, Some}
use Rattle.std.specs.Prelude.{slice_get, Option}
use Rattle.std.proofs.lemmas.Result.{err_from_is_err_and}
use Rattle.std.proofs.lemmas.Option.{slice_get_read}
use Rattle.array_expr.specs.declared.expr.Node.{Node}
use Rattle.array_expr.specs.Node.{IsNode}
use Rattle.task_graph.specs.declared.graph.Task.{Task}
use Rattle.lowering_laws.specs.Sources.{Source, Made}
use Rattle.lowering_laws.specs.Lowered.{lower_op, Lowering, with_made}
use Rattle.block_lowering.proofs.Ready.{same-node, refuses-node, with-made-is}
use Rattle.block_lowering.proofs.making.Making.add.Goals as goal

abbrev making : List Task → List (Option (ℕ × ℕ)) → List Source → Lowering
making tasks names sources = record { tasks = tasks; names = names; sources = sources }

abbrev node_made : List Node → List Source → List Task → Node → Made
node_made nodes sources tasks x = lower_op nodes sources (length sources) x.taken x.shape x.op (length tasks)

pub lower_node-requires-clause-node : goal.lower_node-requires-clause-node
lower_node-requires-clause-node c =
    let nodes = c.args.nodes.now in
    let number = c.len-number.result in
    let here = c.requires.ready.here in
    let held : length c.self.inside.sources.items ≡ length c.args.self.now.sources = ap (λ (l : Lowering). length l.sources) c.self.view_is in
    let same : number ≡ length c.as_slice-sources.result.now = omega (arith, c.len-number.ensures, c.self.inside.sources.ok.0, ap (λ (ss : List Source). length ss) c.as_slice-sources.ensures.value) in
    let lt : number < length nodes = omega (arith, c.len-number.ensures, c.self.inside.sources.ok.0) in
    let is : slice_get nodes number ≡ Some c.index-nodes-number.result = slice_get_read nodes (length nodes) number c.index-nodes-number.result refl lt c.index-nodes-number.is in
    subst (λ j. IsNode (take j nodes) c.index-nodes-number.result) same (c.requires.sound.each number c.index-nodes-number.result is)

pub returns-in_err-source-clause-err : goal.returns-in_err-source-clause-err
returns-in_err-source-clause-err c = λ x is.
    let nodes = c.args.nodes.now in
    let number = c.len-number.result in
    let held : length c.self.inside.sources.items ≡ length c.args.self.now.sources = ap (λ (l : Lowering). length l.sources) c.self.view_is in
    let same : number ≡ length c.args.self.now.sources = omega (arith, c.len-number.ensures, c.self.inside.sources.ok.0) in
    let sources : c.as_slice-sources.result.now ≡ c.args.self.now.sources = c.as_slice-sources.ensures.value ∙ ap (λ (l : Lowering). l.sources) c.self.view_is in
    let tasks : c.self.inside.graph ≡ c.args.self.now.tasks = ap (λ (l : Lowering). l.tasks) c.self.view_is in
    let node : c.index-nodes-number.result ≡ x = same-node nodes (length c.args.self.now.sources) number c.index-nodes-number.result x same c.index-nodes-number.is is in
    let p = err_from_is_err_and c.from_residual.result c.from_residual.ensures.1 in
    rw (p.1, p.2) (refuses-node nodes c.as_slice-sources.result.now c.args.self.now.sources c.self.inside.graph c.args.self.now.tasks c.index-nodes-number.result x c.in_err-source.field-0.0 sources tasks node c.in_err-source.ensures.err)

pub returns-clause-ok : goal.returns-clause-ok
returns-clause-ok c = λ x is.
    let nodes = c.args.nodes.now in
    let node = c.index-nodes-number.result in
    let number = c.len-number.result in
    let graph = c.self.inside.graph in
    let sources = c.self.inside.sources.items in
    let old = making graph c.self.inside.names.items sources in
    let new = making c.lower_node.new.graph c.name_keys.new.names.items c.push.new.self.items in
    let held : length c.self.inside.sources.items ≡ length c.args.self.now.sources = ap (λ (l : Lowering). length l.sources) c.self.view_is in
    let whole : number ≡ length sources = omega (arith, c.len-number.ensures, c.self.inside.sources.ok.0) in
    let same : node ≡ x = same-node nodes (length c.args.self.now.sources) number node x (omega arith) c.index-nodes-number.is is in
    let made = node_made nodes c.as_slice-sources.result.now graph node in
    let more : new ≡ with_made old (length sources) made = with-made-is old new (length sources) number c.keys-first.result c.keys-end.result made c.in_ok-source.source
    c.in_ok-source.ensures.ok.tasks c.in_ok-source.ensures.ok.source whole c.keys-first.ensures c.keys-end.ensures c.in_ok-name_keys.ensures c.in_ok-push.ensures.items in
    subst (λ (l : Lowering). new ≡ with_made l (length l.sources) (node_made nodes l.sources l.tasks x)) c.self.view_is
    (subst (λ (z : Node). new ≡ with_made old (length sources) (node_made nodes sources graph z)) same
    (subst (λ (ss : List Source). new ≡ with_made old (length sources) (node_made nodes ss graph node)) c.as_slice-sources.ensures.value more))
