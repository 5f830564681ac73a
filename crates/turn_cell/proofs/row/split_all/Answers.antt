use Rattle.std.proofs.Common.{◌≡◌, ◌+◌, ◌<◌, ◌∙◌, sym, subst, arith, rules, length, get_or}
use Rattle.turn_cell.specs.Rows.{EachAt, HasParts}
use Rattle.turn_cell.proofs.Lists.{mixed_none, all_of_mixed, mixed_up, here_up, each_at_pushed, each_at_none, each_here, some_of}
use Rattle.turn_cell.proofs.row.split_all.Goals as goal

pub loop-at-init : goal.loop-at-init
loop-at-init g c = (
  search rules,
  search rules,
  search rules,
  mixed_none (λ n t p. HasParts t.0 t.1 g.K.Places.total n p.seat) c.args.left g.K.Places.berths c.args.home.now.items c.requires.has,
  each_at_none (λ t p. HasParts t.0 t.1 g.K.Places.total 1 p.seat) g.K.Places.berths c.args.passes.now.items c.requires.empty,
)

pub split-pass-requires-clause-own : goal.split-pass-requires-clause-own
split-pass-requires-clause-own g c =
    let s = c.index.result.now in let p = c.index_mut.result.now in let i = c.loop-at.invariant in let ts = g.K.Places.berths in let at = c.loop-at.at in
    let lt : at < length c.loop-at.home.items = omega (arith, i.1, c.loop-at-test.true) in
    let inside : at < length ts = omega (arith, i.3.long, lt) in
    let t = some_of ts at inside in
    let a = each_here (λ t s. s.table.shared.table_id ≡ t.0) ts c.args.cells.now.items at t s c.requires.cells inside c.index.ensures in
    let h = here_up (λ n t p. HasParts t.0 t.1 g.K.Places.total n p.seat) c.args.left ts c.loop-at.home.items at t p i.3 lt c.index_mut.ensures.value in
    h.table_is ∙ sym a

pub split-pass-requires-clause-parts : goal.split-pass-requires-clause-parts
split-pass-requires-clause-parts g c =
    let p = c.index_mut.result.now in let i = c.loop-at.invariant in let ts = g.K.Places.berths in let at = c.loop-at.at in
    let lt : at < length c.loop-at.home.items = omega (arith, i.1, c.loop-at-test.true) in
    let inside : at < length ts = omega (arith, i.3.long, lt) in
    let t = some_of ts at inside in
    let h = here_up (λ n t p. HasParts t.0 t.1 g.K.Places.total n p.seat) c.args.left ts c.loop-at.home.items at t p i.3 lt c.index_mut.ensures.value in
    let e = h.parts_are in let l = c.requires.left in omega arith

pub loop-at-preserved : goal.loop-at-preserved
loop-at-preserved g c =
    let s = c.index.result.now in let p = c.index_mut.result.now in let i = c.loop-at.invariant in let at = c.loop-at.at in let ts = g.K.Places.berths in
    let total = g.K.Places.total in let left = c.args.left in let q = c.split-pass.new.pass in let e = c.split-pass.ensures in
    let lt : at < length c.loop-at.home.items = omega (arith, i.1, c.loop-at-test.true) in
    let long : length c.loop-at.passes.items ≡ at = omega (arith, i.0) in
    let inside : at < length ts = omega (arith, i.3.long, lt) in
    let t = some_of ts at inside in let x = (get_or ts at t).1 in let id = s.table.shared.table_id in
    let a : id ≡ (get_or ts at t).0 = each_here (λ t s. s.table.shared.table_id ≡ t.0) ts c.args.cells.now.items at t s c.requires.cells inside c.index.ensures in
    let h = here_up (λ n t p. HasParts t.0 t.1 total n p.seat) left ts c.loop-at.home.items at t p i.3 lt c.index_mut.ensures.value in
    let had : HasParts id x total (left + 1) p.seat = subst (λ i. HasParts i x total (left + 1) p.seat) (sym a) h in
    let has : HasParts (get_or ts at t).0 x total left q.seat = subst (λ i. HasParts i x total left q.seat) a (e.has x total left had) in
    let given : HasParts (get_or ts at t).0 x total 1 c.split-pass.result.seat = subst (λ i. HasParts i x total 1 c.split-pass.result.seat) a (e.given x total (left + 1) had) in (
      search rules,
      search rules,
      search rules,
      mixed_up (λ n t p. HasParts t.0 t.1 total n p.seat) left ts c.loop-at.home.items at t q i.3 lt has,
      subst (EachAt (λ t p. HasParts t.0 t.1 total 1 p.seat) ts) (sym c.push_reserved.ensures.items) (each_at_pushed (λ t p. HasParts t.0 t.1 total 1 p.seat) ts c.loop-at.passes.items at t c.split-pass.result long inside i.4 given),
    )

pub returns-clause-has : goal.returns-clause-has
returns-clause-has g c = all_of_mixed (λ n t p. HasParts t.0 t.1 g.K.Places.total n p.seat) c.args.left g.K.Places.berths c.loop-at.home.items c.loop-at.at (let i = c.loop-at.invariant in omega (arith, i.1, c.loop-at-test.false)) c.loop-at.invariant.3
