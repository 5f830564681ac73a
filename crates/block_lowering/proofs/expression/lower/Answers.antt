use Rattle.std.proofs.Common.{◌≡◌, ◌<◌, length, map, ap, sym, subst, ◌∙◌}
use Rattle.std.specs.Prelude.{slice_index_or, List}
use Rattle.array_expr.specs.declared.expr.Node.{Node}
use Rattle.chunk_layout.specs.Layouts.{counts}
use Rattle.lowering_laws.specs.Sources.{Source}
use Rattle.lowering_laws.specs.Lowered.{Lowering, lowering, culled}
use Rattle.block_lowering.proofs.Ready.{sources-all}
use Rattle.block_lowering.proofs.expression.lower.Goals as goal

pub finish-requires : goal.finish-requires
finish-requires c =
    let all : c.in_ok-made.made ≡ lowering c.args.expr.now = c.in_ok-made.ensures.ok ∙ ap (λ (ns : List Node). lowering ns) c.nodes-nodes.ensures.value in
    let count : length c.in_ok-made.made.sources ≡ length c.args.expr.now = ap (λ (l : Lowering). length l.sources) all ∙ sources-all c.args.expr.now c.nodes-nodes.ensures.sound in
    λ k d h. subst (λ m. slice_index_or c.args.saves.now k d < m) (sym count) (c.requires k d h)

pub returns-clause-saved : goal.returns-clause-saved
returns-clause-saved c =
    let all : c.in_ok-made.made ≡ lowering c.args.expr.now = c.in_ok-made.ensures.ok ∙ ap (λ (ns : List Node). lowering ns) c.nodes-nodes.ensures.value in
    c.in_ok-finish.ensures.saved ∙ ap (λ (l : Lowering). (culled l c.args.saves.now).saved) all

pub returns-clause-blocks : goal.returns-clause-blocks
returns-clause-blocks c =
    let all : c.in_ok-made.made ≡ lowering c.args.expr.now = c.in_ok-made.ensures.ok ∙ ap (λ (ns : List Node). lowering ns) c.nodes-nodes.ensures.value in
    c.in_ok-finish.ensures.blocks ∙ ap (λ (l : Lowering). map (λ (s : Source). counts s.layout) l.sources) all
