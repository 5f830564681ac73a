use Rattle.std.proofs.Common.{◌<◌, ◌^◌, refl, arith}
use Rattle.gather_client.specs.Stored.{facts_of}
use Rattle.gather_client.proofs.table.ClientTable.open_ask.Goals as goal

pub open-requires : goal.open-requires
unfolding facts_of
open-requires c =
    let named = rw (← c.self.view_is) at c.requires.keys in
    λ k h. rw c.self.invariant.wide (named k h)

pub overflow_add-self : goal.overflow_add-self
unfolding facts_of
overflow_add-self c =
    let a = c.self.inside in
    let room : a.next_ask < 2 ^ 63 = rw (← c.self.view_is) at c.requires.room in
    omega arith

pub returns-clause-ok : goal.returns-clause-ok
unfolding facts_of
returns-clause-ok c = rw (← c.self.view_is, c.in_ok-open.ensures.ok) refl
