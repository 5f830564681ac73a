use Rattle.std.proofs.Common.{ℕ, List, sym, subst}
use Rattle.dask_top.specs.declared.answer.End.{End}
use Rattle.dask_top.specs.Generating.{TellsNumber}
use Rattle.dask_top.specs.Telling.{IsOfText, Told}
use Rattle.dask_top.proofs.Generating.{of_text, prints_all, prints_front, stops}
use Rattle.dask_top.proofs.generate.generate.Goals as goal

pub tell_text-requires-after_bounds : goal.tell_text-requires-after_bounds
tell_text-requires-after_bounds g c κs within = let E : End → Type 0 = λ e. IsOfText e in subst E (sym c.gen_end.ensures) (of_text c.in-Err.end)

pub returns-in-Err : goal.returns-in-Err
returns-in-Err g c =
    let T : End → Type 0 = λ e. Told e c.tell_text.result in
    stops c.args.words (g.S.Site.view c.args.site.now) (g.S.Site.view c.tell_text.new.site) c.in-Err.end c.tell_text.result c.in-Err.ensures.cause
    (subst T c.gen_end.ensures c.tell_text.ensures.told) c.tell_text.ensures.only c.tell_text.ensures.notes

pub returns-in-Ok-print_full : goal.returns-in-Ok-print_full
returns-in-Ok-print_full g c =
    let L : List ℕ → Type 0 = λ t. TellsNumber c.args.words t in
    prints_all c.args.words (g.S.Site.view c.args.site.now) (g.S.Site.view c.print_full.new.site) c.as_bytes.result.now (subst L (sym c.as_bytes.ensures.value) c.in-Ok.ensures.lines)
    c.print_full.ensures.only c.in-Ok-print_full.ensures.printed

pub returns : goal.returns
returns g c =
    let L : List ℕ → Type 0 = λ t. TellsNumber c.args.words t in
    prints_front c.args.words (g.S.Site.view c.args.site.now) (g.S.Site.view c.print_full.new.site) (g.S.Site.view c.tell_text-in-Err-print_full.new.site) c.as_bytes.result.now c.tell_text-in-Err-print_full.result
    (subst L (sym c.as_bytes.ensures.value) c.in-Ok.ensures.lines) c.print_full.ensures.only c.in-Err-print_full.ensures.part c.in-Err-print_full.ensures.cause.failed
    c.tell_text-in-Err-print_full.ensures.told c.tell_text-in-Err-print_full.ensures.only c.tell_text-in-Err-print_full.ensures.notes
