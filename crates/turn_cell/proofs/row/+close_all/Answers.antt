use Rattle.std.proofs.Common.{rules, Option, ◌≡◌, ◌<◌, ◌≤◌, ◌∙◌, sym, subst, arith, length, vec_len, get_or}
use Rattle.atomic_table.specs.Seated.{TableId}
use Rattle.turn_cell.specs.Rows.{EachAt, HasParts, IsClosed}
use Rattle.turn_cell.proofs.Lists.{each_at_popped, each_at_last, each_at_pushed, some_of}
use Rattle.turn_cell.proofs.row.+close_all.Goals as goal

pub close_all-states-requires : goal.close_all-states-requires
close_all-states-requires g t c κs within =
    let ts = g.K.Places.berths in let xs = c.pop.new.self.items in let ys = c.pop-2.new.self.items in let total = g.K.Places.total in
    let lens : (vec_len c.pop-2.new.self ≡ vec_len c.pop.new.self) × (vec_len c.pop.new.self ≤ length ts) = (omega (arith, c.in-Some-Some.ensures.len, c.in-Some-Some.ensures'.len, c.requires.long.0), omega (arith, c.in-Some-Some.ensures.len, c.requires.long.1)) in
    let cells : EachAt (λ t c. c.table.shared.table_id ≡ t.0) ts xs = each_at_popped (λ t c. c.table.shared.table_id ≡ t.0) ts xs c.in-Some-Some.cell (subst (EachAt (λ t c. c.table.shared.table_id ≡ t.0) ts) c.in-Some-Some.ensures.items c.requires.cells) in
    let has : EachAt (λ t p. HasParts t.0 t.1 total total p.seat) ts ys = each_at_popped (λ t p. HasParts t.0 t.1 total total p.seat) ts ys c.in-Some-Some.pass (subst (EachAt (λ t p. HasParts t.0 t.1 total total p.seat) ts) c.in-Some-Some.ensures'.items c.requires.has) in
    (search rules, (within.0, (within.1.0, (within.1.1.0, (within.1.1.1.0, (within.1.1.1.1, (cells, (has, (lens, (c.requires.empty, omega (arith, c.in-Some-Some.ensures.len, c.requires.room)))))))))))

pub close-requires-clause-own : goal.close-requires-clause-own
close-requires-clause-own g t c =
    let cell = c.in-Some-Some.cell in let p = c.in-Some-Some.pass in let ts = g.K.Places.berths in let xs = c.pop.new.self.items in let ys = c.pop-2.new.self.items in let total = g.K.Places.total in
    let long : length xs ≡ length ys = omega (arith, c.in-Some-Some.ensures.len, c.in-Some-Some.ensures'.len, c.requires.long.0) in
    let inside : length xs < length ts = omega (arith, c.in-Some-Some.ensures.len, c.requires.long.1) in
    let b = some_of ts (length xs) inside in let x = (get_or ts (length xs) b).1 in let id = cell.table.shared.table_id in
    let a : id ≡ (get_or ts (length xs) b).0 = each_at_last (λ t c. c.table.shared.table_id ≡ t.0) ts xs cell (subst (EachAt (λ t c. c.table.shared.table_id ≡ t.0) ts) c.in-Some-Some.ensures.items c.requires.cells) b in
    let h : HasParts (get_or ts (length xs) b).0 x total total p.seat = subst (λ n. HasParts (get_or ts n b).0 (get_or ts n b).1 total total p.seat) (sym long) (each_at_last (λ t p. HasParts t.0 t.1 total total p.seat) ts ys p (subst (EachAt (λ t p. HasParts t.0 t.1 total total p.seat) ts) c.in-Some-Some.ensures'.items c.requires.has) b) in
    let own : HasParts id x total total p.seat = subst (λ i. HasParts i x total total p.seat) (sym a) h in
    own.table_is

pub close-requires-clause-all : goal.close-requires-clause-all
close-requires-clause-all g t c =
    let cell = c.in-Some-Some.cell in let p = c.in-Some-Some.pass in let ts = g.K.Places.berths in let xs = c.pop.new.self.items in let ys = c.pop-2.new.self.items in let total = g.K.Places.total in
    let long : length xs ≡ length ys = omega (arith, c.in-Some-Some.ensures.len, c.in-Some-Some.ensures'.len, c.requires.long.0) in
    let inside : length xs < length ts = omega (arith, c.in-Some-Some.ensures.len, c.requires.long.1) in
    let b = some_of ts (length xs) inside in let x = (get_or ts (length xs) b).1 in let id = cell.table.shared.table_id in
    let a : id ≡ (get_or ts (length xs) b).0 = each_at_last (λ t c. c.table.shared.table_id ≡ t.0) ts xs cell (subst (EachAt (λ t c. c.table.shared.table_id ≡ t.0) ts) c.in-Some-Some.ensures.items c.requires.cells) b in
    let h : HasParts (get_or ts (length xs) b).0 x total total p.seat = subst (λ n. HasParts (get_or ts n b).0 (get_or ts n b).1 total total p.seat) (sym long) (each_at_last (λ t p. HasParts t.0 t.1 total total p.seat) ts ys p (subst (EachAt (λ t p. HasParts t.0 t.1 total total p.seat) ts) c.in-Some-Some.ensures'.items c.requires.has) b) in
    let own : HasParts id x total total p.seat = subst (λ i. HasParts i x total total p.seat) (sym a) h in
    own.parts_are ∙ sym own.total_is

pub close-requires-clause-rests : goal.close-requires-clause-rests
close-requires-clause-rests g t c =
    let cell = c.in-Some-Some.cell in let p = c.in-Some-Some.pass in let ts = g.K.Places.berths in let xs = c.pop.new.self.items in let ys = c.pop-2.new.self.items in let total = g.K.Places.total in
    let long : length xs ≡ length ys = omega (arith, c.in-Some-Some.ensures.len, c.in-Some-Some.ensures'.len, c.requires.long.0) in
    let inside : length xs < length ts = omega (arith, c.in-Some-Some.ensures.len, c.requires.long.1) in
    let b = some_of ts (length xs) inside in let x = (get_or ts (length xs) b).1 in let id = cell.table.shared.table_id in
    let a : id ≡ (get_or ts (length xs) b).0 = each_at_last (λ t c. c.table.shared.table_id ≡ t.0) ts xs cell (subst (EachAt (λ t c. c.table.shared.table_id ≡ t.0) ts) c.in-Some-Some.ensures.items c.requires.cells) b in
    let h : HasParts (get_or ts (length xs) b).0 x total total p.seat = subst (λ n. HasParts (get_or ts n b).0 (get_or ts n b).1 total total p.seat) (sym long) (each_at_last (λ t p. HasParts t.0 t.1 total total p.seat) ts ys p (subst (EachAt (λ t p. HasParts t.0 t.1 total total p.seat) ts) c.in-Some-Some.ensures'.items c.requires.has) b) in
    let own : HasParts id x total total p.seat = subst (λ i. HasParts i x total total p.seat) (sym a) h in
    (own.holds_none, own.none_out)

pub returns-in-Some-Some-clause-closed : goal.returns-in-Some-Some-clause-closed
returns-in-Some-Some-clause-closed g t c =
    let cell = c.in-Some-Some.cell in let p = c.in-Some-Some.pass in let ts = g.K.Places.berths in let xs = c.pop.new.self.items in let ys = c.pop-2.new.self.items in let total = g.K.Places.total in
    let long : length xs ≡ length ys = omega (arith, c.in-Some-Some.ensures.len, c.in-Some-Some.ensures'.len, c.requires.long.0) in
    let inside : length xs < length ts = omega (arith, c.in-Some-Some.ensures.len, c.requires.long.1) in
    let b = some_of ts (length xs) inside in let x = (get_or ts (length xs) b).1 in let id = cell.table.shared.table_id in
    let a : id ≡ (get_or ts (length xs) b).0 = each_at_last (λ t c. c.table.shared.table_id ≡ t.0) ts xs cell (subst (EachAt (λ t c. c.table.shared.table_id ≡ t.0) ts) c.in-Some-Some.ensures.items c.requires.cells) b in
    let h : HasParts (get_or ts (length xs) b).0 x total total p.seat = subst (λ n. HasParts (get_or ts n b).0 (get_or ts n b).1 total total p.seat) (sym long) (each_at_last (λ t p. HasParts t.0 t.1 total total p.seat) ts ys p (subst (EachAt (λ t p. HasParts t.0 t.1 total total p.seat) ts) c.in-Some-Some.ensures'.items c.requires.has) b) in
    let own : HasParts id x total total p.seat = subst (λ i. HasParts i x total total p.seat) (sym a) h in
    let R : TableId × Option g.row.S.Denot → g.row.S.Denot → Type 0 = λ t x. IsClosed g.S.Kept.entries g.S.Kept.core g.S.Kept.cut g.S.Kept.steps t.1 x × g.S.Kept.fits g.L.Label.facts x in
    let zs = c.close_all-states.result.items in let closed = c.close_all-states.ensures.closed in let same : length zs ≡ length xs = omega (arith, c.close_all-states.ensures.long.0) in
    subst (EachAt R ts) (sym c.push_reserved.ensures.items) (each_at_pushed R ts zs (length xs) b c.close.result same inside closed (c.close.ensures.closed x total own, c.close.ensures.fits))
