use Rattle.std.proofs.Common.{◌≡◌, ◌∙◌, sym, subst, get_or}
use Rattle.turn_cell.specs.Rows.{HasParts}
use Rattle.turn_cell.proofs.Lists.{all_at_set, each_here, some_of}
use Rattle.turn_cell.proofs.row.Passes.try_turn.Goals as goal

pub try_turn-requires-clause-own : goal.try_turn-requires-clause-own
try_turn-requires-clause-own g c =
    let ts = g.K.Places.berths in let s = c.index.result.now in let p = c.index_mut.result.now in let t = some_of ts c.args.at c.requires in
    let a = each_here (λ t s. s.table.shared.table_id ≡ t.0) ts c.args.cells.now.cells.items c.args.at t s c.args.cells.now.tables c.requires c.index.ensures in
    let b = each_here (λ t p. HasParts t.0 t.1 g.K.Places.total 1 p.seat) ts c.args.self.now.passes.items c.args.at t p c.args.self.now.tables c.requires c.index_mut.ensures.value in
    b.table_is ∙ sym a

pub try_turn-requires-clause-rests : goal.try_turn-requires-clause-rests
try_turn-requires-clause-rests g c =
    let ts = g.K.Places.berths in let p = c.index_mut.result.now in let t = some_of ts c.args.at c.requires in
    let b = each_here (λ t p. HasParts t.0 t.1 g.K.Places.total 1 p.seat) ts c.args.self.now.passes.items c.args.at t p c.args.self.now.tables c.requires c.index_mut.ensures.value in
    (b.holds_none, b.none_out)

pub invariant_of-self : goal.invariant_of-self
invariant_of-self g c =
    let ts = g.K.Places.berths in let s = c.index.result.now in let p = c.index_mut.result.now in let t = some_of ts c.args.at c.requires in let q = c.try_turn.new.pass in
    let a = each_here (λ t s. s.table.shared.table_id ≡ t.0) ts c.args.cells.now.cells.items c.args.at t s c.args.cells.now.tables c.requires c.index.ensures in
    let b = each_here (λ t p. HasParts t.0 t.1 g.K.Places.total 1 p.seat) ts c.args.self.now.passes.items c.args.at t p c.args.self.now.tables c.requires c.index_mut.ensures.value in
    let x = (get_or ts c.args.at t).1 in
    record {
      tables = all_at_set (λ t p. HasParts t.0 t.1 g.K.Places.total 1 p.seat) ts c.args.self.now.passes.items c.args.at t q c.args.self.now.tables c.requires
          (subst (λ i. HasParts i x g.K.Places.total 1 q.seat) a (c.try_turn.ensures.has x g.K.Places.total 1 (subst (λ i. HasParts i x g.K.Places.total 1 p.seat) (sym a) b)));
    }
