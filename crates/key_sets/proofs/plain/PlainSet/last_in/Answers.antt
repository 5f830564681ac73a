use Rattle.std.proofs.Common.{◌-◌, ℕ, Some, None, length, get_or, ap, ◌∙◌, subst, arith}
use Rattle.std.proofs.lemmas.List.{get_or_read}
use Rattle.key_sets.specs.Sets.{bit, IsLast}
use Rattle.key_sets.proofs.SetLemmas.{last_found, last_missed}
use Rattle.key_sets.proofs.plain.PlainSet.last_in.Goals as goal

pub returns-in-Some : goal.returns-in-Some
returns-in-Some c =
    let ws = c.self.inside.words.items in
    let w = c.args.end - 1 - c.loop-done.done in
    let n = get_or_read ws w c.index.result.now (omega (arith, c.self.inside.words.ok.0, ap length c.self.view_is)) c.index.ensures 0 ∙ ap (λ xs. get_or xs w 0) c.self.view_is in
    last_found c.args.self.now c.args.end w c.loop-done.done c.in-Some.place (omega arith) c.loop-done.invariant
    (subst (λ (m : ℕ). IsLast (bit m) 64 (Some c.in-Some.place)) n c.in-Some.ensures)

pub loop-done-preserved : goal.loop-done-preserved
loop-done-preserved c =
    let ws = c.self.inside.words.items in
    let w = c.args.end - 1 - c.loop-done.done in
    let n = get_or_read ws w c.index.result.now (omega (arith, c.self.inside.words.ok.0, ap length c.self.view_is)) c.index.ensures 0 ∙ ap (λ xs. get_or xs w 0) c.self.view_is in
    last_missed c.args.self.now c.args.end w c.loop-done.done (omega arith) c.loop-done.invariant (subst (λ (m : ℕ). IsLast (bit m) 64 None) n c.in-None.ensures)
