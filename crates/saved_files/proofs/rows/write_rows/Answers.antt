use Rattle.std.proofs.Common.{length, ap, ◌∙◌, arith}
use Rattle.std.specs.List.{flat_map}
use Rattle.small_facts.proofs.Results.{on_err_from}
use Rattle.saved_files.proofs.RowLemmas.{AreRows, file_all, file_more, file_some, file_stopped, has_row, ready, rows_are, runs_is}
use Rattle.saved_files.proofs.rows.write_rows.Goals as goal

pub gather_row-requires-clause-rows : goal.gather_row-requires-clause-rows
gather_row-requires-clause-rows g c k k_in =
    let rows : AreRows c.args.head.now c.args.regions.now c.args.blocks.now c.args.all.now = rows_are c.args.head.now c.args.regions.now c.args.blocks.now c.args.all.now c.requires.some c.requires.count c.requires.width c.requires.runs c.requires.beside c.requires.placed in
    let first = c.as_slice-run-items.ensures ∙ runs_is c.args.all.now 0 c.index-all-0.result (omega (arith, c.requires.some, c.requires.count)) c.index-all-0.is in
    has_row c.args.head.now c.args.regions.now c.args.blocks.now c.args.all.now c.loop-row.row k c.as_slice-run-items.result.now rows first c.loop-row-test.true k_in

pub returns-in_err-gather_row-clause-part : goal.returns-in_err-gather_row-clause-part
returns-in_err-gather_row-clause-part g c =
    on_err_from c.from_residual.result
    (file_some c.args.head.now c.args.regions.now c.args.blocks.now c.args.all.now c.loop-row.row (g.F.OutFile.content c.args.file.now) (g.F.OutFile.content c.loop-row.file) c.loop-row.invariant.written)

pub write_full-requires-clause-room : goal.write_full-requires-clause-room
write_full-requires-clause-room g c =
    let rows : AreRows c.args.head.now c.args.regions.now c.args.blocks.now c.args.all.now = rows_are c.args.head.now c.args.regions.now c.args.blocks.now c.args.all.now c.requires.some c.requires.count c.requires.width c.requires.runs c.requires.beside c.requires.placed in
    let first = c.as_slice-run-items.ensures ∙ runs_is c.args.all.now 0 c.index-all-0.result (omega (arith, c.requires.some, c.requires.count)) c.index-all-0.is in
    let bytes = c.as_flattened.ensures.value ∙ (ap (flat_map (λ x. x)) c.as_slice.ensures.value ∙ c.in_ok-gather_row.ensures.bytes) in
    (ready c.args.head.now c.args.regions.now c.args.blocks.now c.args.all.now c.loop-row.row c.as_slice-run-items.result.now c.as_flattened.result.now (g.F.OutFile.content c.args.file.now) (g.F.OutFile.content c.loop-row.file)
    rows c.in_ok-gather_row.ensures.full first c.loop-row-test.true bytes c.requires.room c.loop-row.invariant.size).room

pub write_full-requires-clause-fits : goal.write_full-requires-clause-fits
write_full-requires-clause-fits g c =
    let rows : AreRows c.args.head.now c.args.regions.now c.args.blocks.now c.args.all.now = rows_are c.args.head.now c.args.regions.now c.args.blocks.now c.args.all.now c.requires.some c.requires.count c.requires.width c.requires.runs c.requires.beside c.requires.placed in
    let first = c.as_slice-run-items.ensures ∙ runs_is c.args.all.now 0 c.index-all-0.result (omega (arith, c.requires.some, c.requires.count)) c.index-all-0.is in
    let bytes = c.as_flattened.ensures.value ∙ (ap (flat_map (λ x. x)) c.as_slice.ensures.value ∙ c.in_ok-gather_row.ensures.bytes) in
    let r = ready c.args.head.now c.args.regions.now c.args.blocks.now c.args.all.now c.loop-row.row c.as_slice-run-items.result.now c.as_flattened.result.now (g.F.OutFile.content c.args.file.now) (g.F.OutFile.content c.loop-row.file)
    rows c.in_ok-gather_row.ensures.full first c.loop-row-test.true bytes c.requires.room c.loop-row.invariant.size in
    omega (arith, r.limit, c.requires.near, c.dims.ensures.limits.product)

pub returns-in_err-write_full-clause-part : goal.returns-in_err-write_full-clause-part
returns-in_err-write_full-clause-part g c =
    let rows : AreRows c.args.head.now c.args.regions.now c.args.blocks.now c.args.all.now = rows_are c.args.head.now c.args.regions.now c.args.blocks.now c.args.all.now c.requires.some c.requires.count c.requires.width c.requires.runs c.requires.beside c.requires.placed in
    let first = c.as_slice-run-items.ensures ∙ runs_is c.args.all.now 0 c.index-all-0.result (omega (arith, c.requires.some, c.requires.count)) c.index-all-0.is in
    let bytes = c.as_flattened.ensures.value ∙ (ap (flat_map (λ x. x)) c.as_slice.ensures.value ∙ c.in_ok-gather_row.ensures.bytes) in
    let r = ready c.args.head.now c.args.regions.now c.args.blocks.now c.args.all.now c.loop-row.row c.as_slice-run-items.result.now c.as_flattened.result.now (g.F.OutFile.content c.args.file.now) (g.F.OutFile.content c.loop-row.file)
    rows c.in_ok-gather_row.ensures.full first c.loop-row-test.true bytes c.requires.room c.loop-row.invariant.size in
    on_err_from c.from_residual-in_err-write_full.result
    (file_stopped c.args.head.now c.args.regions.now c.args.blocks.now c.args.all.now c.loop-row.row _ c.as_flattened.result.now (g.F.OutFile.content c.args.file.now) (g.F.OutFile.content c.loop-row.file) (g.F.OutFile.content c.write_full.new.file)
    r.front r.room c.loop-row.invariant.written c.in_err-write_full.ensures.part)

pub loop-row-preserved : goal.loop-row-preserved
loop-row-preserved g c =
    let rows : AreRows c.args.head.now c.args.regions.now c.args.blocks.now c.args.all.now = rows_are c.args.head.now c.args.regions.now c.args.blocks.now c.args.all.now c.requires.some c.requires.count c.requires.width c.requires.runs c.requires.beside c.requires.placed in
    let first = c.as_slice-run-items.ensures ∙ runs_is c.args.all.now 0 c.index-all-0.result (omega (arith, c.requires.some, c.requires.count)) c.index-all-0.is in
    let bytes = c.as_flattened.ensures.value ∙ (ap (flat_map (λ x. x)) c.as_slice.ensures.value ∙ c.in_ok-gather_row.ensures.bytes) in
    let r = ready c.args.head.now c.args.regions.now c.args.blocks.now c.args.all.now c.loop-row.row c.as_slice-run-items.result.now c.as_flattened.result.now (g.F.OutFile.content c.args.file.now) (g.F.OutFile.content c.loop-row.file)
    rows c.in_ok-gather_row.ensures.full first c.loop-row-test.true bytes c.requires.room c.loop-row.invariant.size in
    record {
      named = c.write_full.ensures.named ∙ c.loop-row.invariant.named;
      size = c.write_full.ensures.size ∙ c.loop-row.invariant.size;
      written = file_more c.args.head.now c.args.regions.now c.args.blocks.now c.args.all.now c.loop-row.row _ c.as_flattened.result.now (g.F.OutFile.content c.args.file.now) (g.F.OutFile.content c.loop-row.file) (g.F.OutFile.content c.write_full.new.file)
          r.front r.room c.loop-row.invariant.written c.in_ok-write_full.ensures.written;
      kept = c.in_ok-write_full.ensures.kept ∙ c.loop-row.invariant.kept;
    }

pub returns-clause-written : goal.returns-clause-written
returns-clause-written g c =
    let rows : AreRows c.args.head.now c.args.regions.now c.args.blocks.now c.args.all.now = rows_are c.args.head.now c.args.regions.now c.args.blocks.now c.args.all.now c.requires.some c.requires.count c.requires.width c.requires.runs c.requires.beside c.requires.placed in
    let first = c.as_slice-run-items.ensures ∙ runs_is c.args.all.now 0 c.index-all-0.result (omega (arith, c.requires.some, c.requires.count)) c.index-all-0.is in
    file_all c.args.head.now c.args.regions.now c.args.blocks.now c.args.all.now c.loop-row.row (g.F.OutFile.content c.args.file.now) (g.F.OutFile.content c.loop-row.file) rows (omega (arith, c.loop-row-test.false, ap length first)) c.loop-row.invariant.written
