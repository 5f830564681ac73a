use Rattle.std.proofs.Common.{arith, false}
use Rattle.std.proofs.lemmas.List.{get_or_past}
use Rattle.gather_client.specs.Stored.{facts_of}
use Rattle.gather_client.proofs.table.ClientTable.inside.Goals as goal

pub returns : goal.returns
unfolding facts_of
returns c =
    let v = c.self.invariant in
    rw (← c.self.view_is) (λ k h. get_or_past c.self.inside.got k false (omega (arith, h, v.rows.got)))
