use Rattle.std.proofs.Common.{ap₂, ◌++◌, ◌∷◌, []}
use Rattle.std.proofs.lemmas.List.{map_push}
use Rattle.io_edge.proofs.OpeningLaws.{one_more_name}
use Rattle.io_edge.proofs.opening.copy_all.Goals as goal

pub loop-name-preserved : goal.loop-name-preserved
loop-name-preserved c =
    let e = one_more_name c.args.names.now c.loop-name.name-index c.name-item.result c.as_str.result.now c.loop-name-test.true c.name-item.is c.as_str.ensures.value in
    rw (e, c.in_ok-push.ensures.items, map_push, map_push) (ap₂ (λ x y. x ++ y ∷ []) c.loop-name.invariant c.in_ok-copy_held.ensures)
