use Rattle.std.proofs.Common.{◌≡◌, ◌-◌, List, ℕ, ℤ, length, ap, arith, sym, subst, ◌∙◌}
use Rattle.io_edge.specs.Content.{Content, file_at, size_of}
use Rattle.nd_shape.specs.Shape.{elements}
use Rattle.nd_shape.specs.Block.{Array}
use Rattle.npy_region.specs.Cells.{InRowMajor, IsByteIn}
use Rattle.io_edge.proofs.GivenLaws.{only_none}
use Rattle.npy_region.proofs.RegionLemmas.{told_block, told_empty, elements_are, ends_within, length_only, walk_only}
use Rattle.npy_region.proofs.GivenCells.{block_given, empty_given}
use Rattle.npy_region.proofs.Widths.{some_bytes}
use Rattle.npy_region.proofs.region.read_walk.Goals as goal

pub returns-then-has-needs-clause-refused : goal.returns-then-has-needs-clause-refused
returns-then-has-needs-clause-refused g c = record {
  has_is = c.saturating_sub-has.ensures ∙ ap (λ (s : ℕ). s - c.args.head.now.data_at) c.in_ok-size.ensures.size;
  needs_is = c.bytes_needed-needs.ensures.needed;
  short = c.if-has-needs.true;
}

pub returns-then-count-eq0-clause-cells : goal.returns-then-count-eq0-clause-cells
returns-then-count-eq0-clause-cells g c =
    told_empty (file_at (g.S.Store.files c.args.store.now) c.args.file) c.args.head.now c.args.region.now c.bytes_needed-needs.new.walk c.new-empty.result (c.bytes_needed-needs.ensures.same ∙ c.requires.walk)
    (ap (λ (a : Array). a.shape) c.new-empty.ensures ∙ c.in_ok-shape.ensures) (ap (λ (a : Array). length a.cells) c.new-empty.ensures ∙ ap length c.new.ensures.items) (sym c.len-count.ensures.count ∙ c.if-count-eq0.true)

pub read_stored-requires-clause-room : goal.read_stored-requires-clause-room
read_stored-requires-clause-room g c =
    let size : size_of (file_at (g.S.Store.files c.len.new.self) c.args.file) ≡ c.in_ok-size.size = ap (λ (fs : List Content). size_of (file_at fs c.args.file)) c.len.ensures.same ∙ sym c.in_ok-size.ensures.size in
    ends_within c.args.walk.now c.bytes_needed-needs.new.walk c.args.head.now c.bytes_needed-needs.result (size_of (file_at (g.S.Store.files c.len.new.self) c.args.file))
    (some_bytes c.args.head.now.width c.requires.width) c.bytes_needed-needs.ensures.same c.bytes_needed-needs.ensures.last (omega (arith, size, c.if-has-needs.false, c.saturating_sub-has.ensures))

pub new-empty-requires : goal.new-empty-requires
new-empty-requires g c =
    ap length c.new.ensures.items ∙ sym (elements_are c.args.head.now.fortran c.args.head.now.shape c.in_ok-shape.shape c.args.region.now c.bytes_needed-needs.new.walk (c.bytes_needed-needs.ensures.same ∙ c.requires.walk) c.in_ok-shape.ensures
    ∙ sym c.len-count.ensures.count ∙ c.if-count-eq0.true)

pub in_row_major-requires : goal.in_row_major-requires
in_row_major-requires g c =
    c.in_ok-stored.ensures.size ∙ sym (elements_are c.args.head.now.fortran c.args.head.now.shape c.in_ok-shape.shape c.args.region.now c.bytes_needed-needs.new.walk (c.bytes_needed-needs.ensures.same ∙ c.requires.walk) c.in_ok-shape.ensures)

pub returns-clause-cells : goal.returns-clause-cells
returns-clause-cells g c =
    let shape = ap (λ (a : Array). a.shape) c.new-block.ensures ∙ c.in_ok-shape.ensures in
    let cells = ap (λ (a : Array). a.cells) c.new-block.ensures in
    let rows = subst (λ (xs : List ℤ). InRowMajor c.args.head.now.fortran c.args.region.now.lengths c.in_ok-stored.stored.items xs) (sym cells)
    (subst (λ (ns : List ℕ). InRowMajor c.args.head.now.fortran ns c.in_ok-stored.stored.items c.in_ok-cells.cells.items) c.in_ok-shape.ensures c.in_ok-cells.ensures.cells) in
    told_block (file_at (g.S.Store.files c.args.store.now) c.args.file) c.args.head.now c.args.region.now c.bytes_needed-needs.new.walk c.new-block.result c.in_ok-stored.stored.items c.requires.part
    (c.bytes_needed-needs.ensures.same ∙ c.requires.walk) shape (ap length cells ∙ c.in_ok-cells.ensures.count ∙ ap elements c.in_ok-shape.ensures) rows (rw c.len.ensures.same at c.in_ok-stored.ensures.cells)

pub returns-in_err-size-clause-only : goal.returns-in_err-size-clause-only
returns-in_err-size-clause-only g c = only_none (IsByteIn c.args.head.now c.args.region.now) _ _ c.in_err-size.ensures.silent

pub returns-then-has-needs-clause-only : goal.returns-then-has-needs-clause-only
returns-then-has-needs-clause-only g c = length_only c.args.head.now c.args.region.now _ _ (g.S.Store.names c.args.store.now) c.args.file c.in_ok-size.size c.in_ok-size.ensures.gives

pub returns-in_err-shape-clause-only : goal.returns-in_err-shape-clause-only
returns-in_err-shape-clause-only g c = length_only c.args.head.now c.args.region.now _ _ (g.S.Store.names c.args.store.now) c.args.file c.in_ok-size.size c.in_ok-size.ensures.gives

pub returns-then-count-eq0-clause-only : goal.returns-then-count-eq0-clause-only
returns-then-count-eq0-clause-only g c = length_only c.args.head.now c.args.region.now _ _ (g.S.Store.names c.args.store.now) c.args.file c.in_ok-size.size c.in_ok-size.ensures.gives

pub returns-in_err-stored-clause-only : goal.returns-in_err-stored-clause-only
returns-in_err-stored-clause-only g c = walk_only c.args.head.now c.args.region.now c.bytes_needed-needs.new.walk _ _ _ (g.S.Store.names c.args.store.now) c.args.file c.in_ok-size.size c.requires.part (c.bytes_needed-needs.ensures.same ∙ c.requires.walk) c.in_ok-size.ensures.gives c.read_stored.ensures.only

pub returns-in_err-cells-clause-only : goal.returns-in_err-cells-clause-only
returns-in_err-cells-clause-only g c = walk_only c.args.head.now c.args.region.now c.bytes_needed-needs.new.walk _ _ _ (g.S.Store.names c.args.store.now) c.args.file c.in_ok-size.size c.requires.part (c.bytes_needed-needs.ensures.same ∙ c.requires.walk) c.in_ok-size.ensures.gives c.read_stored.ensures.only

pub returns-clause-only : goal.returns-clause-only
returns-clause-only g c = walk_only c.args.head.now c.args.region.now c.bytes_needed-needs.new.walk _ _ _ (g.S.Store.names c.args.store.now) c.args.file c.in_ok-size.size c.requires.part (c.bytes_needed-needs.ensures.same ∙ c.requires.walk) c.in_ok-size.ensures.gives c.read_stored.ensures.only

pub returns-then-count-eq0-clause-given : goal.returns-then-count-eq0-clause-given
returns-then-count-eq0-clause-given g c =
    empty_given (g.S.Store.names c.args.store.now) c.args.file (g.S.Store.gave c.args.store.now) (g.S.Store.gave c.len.new.self) c.in_ok-size.size c.args.head.now c.args.region.now c.bytes_needed-needs.new.walk c.new-empty.result (c.bytes_needed-needs.ensures.same ∙ c.requires.walk)
    (ap (λ (a : Array). a.shape) c.new-empty.ensures ∙ c.in_ok-shape.ensures) (ap (λ (a : Array). length a.cells) c.new-empty.ensures ∙ ap length c.new.ensures.items) (sym c.len-count.ensures.count ∙ c.if-count-eq0.true) c.in_ok-size.ensures.gives

pub returns-clause-given : goal.returns-clause-given
returns-clause-given g c =
    let shape = ap (λ (a : Array). a.shape) c.new-block.ensures ∙ c.in_ok-shape.ensures in
    let cells = ap (λ (a : Array). a.cells) c.new-block.ensures in
    let rows = subst (λ (xs : List ℤ). InRowMajor c.args.head.now.fortran c.args.region.now.lengths c.in_ok-stored.stored.items xs) (sym cells)
    (subst (λ (ns : List ℕ). InRowMajor c.args.head.now.fortran ns c.in_ok-stored.stored.items c.in_ok-cells.cells.items) c.in_ok-shape.ensures c.in_ok-cells.ensures.cells) in
    let ends = ends_within c.args.walk.now c.bytes_needed-needs.new.walk c.args.head.now c.bytes_needed-needs.result c.in_ok-size.size (some_bytes c.args.head.now.width c.requires.width) c.bytes_needed-needs.ensures.same c.bytes_needed-needs.ensures.last (omega (arith, c.if-has-needs.false, c.saturating_sub-has.ensures)) in
    block_given (g.S.Store.names c.args.store.now) c.args.file (g.S.Store.gave c.args.store.now) (g.S.Store.gave c.len.new.self) (g.S.Store.gave c.read_stored.new.store) c.in_ok-size.size c.args.head.now c.args.region.now c.bytes_needed-needs.new.walk c.new-block.result c.in_ok-stored.stored.items c.requires.part
    (c.bytes_needed-needs.ensures.same ∙ c.requires.walk) shape (ap length cells ∙ c.in_ok-cells.ensures.count ∙ ap elements c.in_ok-shape.ensures) rows ends c.in_ok-size.ensures.gives (rw c.len.ensures.named at c.in_ok-stored.ensures.given)
