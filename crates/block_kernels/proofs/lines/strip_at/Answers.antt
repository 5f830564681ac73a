use Rattle.std.proofs.Common.{rules, ◌≡◌, ◌+◌, ◌*◌, ◌<◌, length, get_or, ap, sym, subst, ◌∙◌, arith, ℤ, List, Some}
use Rattle.block_kernels.specs.Gathers.{IsLine}
use Rattle.block_kernels.proofs.Parts.{put-inside}
use Rattle.block_kernels.proofs.Tiles.{strip-filled}
use Rattle.block_kernels.proofs.lines.strip_at.Goals as goal

pub returns-clause-filled : goal.returns-clause-filled
returns-clause-filled g c = λ r h.
    let many : length c.find_lines.new.firsts ≡ c.args.many = search rules in
    let size : length c.fill_strip.new.out ≡ c.args.many * c.args.run = search rules in
    let here : c.args.row * c.args.run < length c.args.cells.now = omega (arith, c.requires.room, h) in
    strip-filled (g.F.Lines.grid c.args.formula.now) c.args.source.now c.fill_strip.new.out c.find_lines.new.firsts c.find_lines.new.seconds c.args.row c.args.many c.args.run c.requires.some
    (λ k b. subst (λ (cells : List ℤ). IsLine (g.F.Lines.grid c.args.formula.now) cells ((c.args.row + k) * c.args.run) c.args.run (get_or c.find_lines.new.firsts k 0) (get_or c.find_lines.new.seconds k 0)) c.requires.source (c.find_lines.ensures.each k (omega (arith, b, many, c.find_lines.ensures.firsts))))
    (λ k i b. c.fill_strip.ensures.made k i (omega (arith, b, many))) r h
    ∙ ap Some (sym (put-inside (c.args.row * c.args.run) _ c.args.cells.now c.fill_strip.new.out r (omega (arith, here)) (omega (arith, h, size))))
