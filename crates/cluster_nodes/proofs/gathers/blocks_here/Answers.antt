use Rattle.std.proofs.Common.{◌∙◌, ◌<◌, ◌++◌, ◌∷◌, [], ℕ, List, Option, None, sym, ap, take, get_or, length, arith}
use Rattle.std.proofs.lemmas.List.{take_more}
use Rattle.std.proofs.lemmas.List.Elements.{filter_map-append}
use Rattle.std.specs.List.{filter_map, cons_option}
use Rattle.std.specs.Option.{option_copied}
use Rattle.std.specs.declared.sync.Arc.{Arc}
use Rattle.std.specs.declared.alloc.Global.{Global}
use Rattle.fact_rows.specs.Rows.{cell}
use Rattle.cluster_nodes.specs.Nodes.{block_at}
use Rattle.cluster_nodes.proofs.gathers.blocks_here.Goals as goal

pub loop-key-preserved : goal.loop-key-preserved
loop-key-preserved g c =
    let ks = c.args.keys.now in
    let i = c.loop-key.key-index in
    let l : i < length ks = omega arith in
    let at = λ (k : ℕ). block_at (cell c.args.shelf.now None c.args.node k) in
    c.in_ok-push_block.ensures
    ∙ ap (λ (bs : List g.row.B.Denot). bs ++ cons_option (block_at (option_copied c.look.result)) []) c.loop-key.invariant
    ∙ ap (λ (o : Option (Arc g.row.B.Denot Global)). filter_map at (take i ks) ++ cons_option (block_at o) []) c.look.ensures
    ∙ sym (ap (filter_map at) (take_more ks i 0 l) ∙ filter_map-append at (take i ks) (get_or ks i 0 ∷ []))
