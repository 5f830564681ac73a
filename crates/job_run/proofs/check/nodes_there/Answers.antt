use Rattle.std.proofs.Common.{◌≡◌, ℕ, ◌<◌, ◌∙◌, sym, subst, inl, inr, map, get_or, arith}
use Rattle.job_run.specs.Jobs.{saved_of}
use Rattle.nd_rows.proofs.Turns.{split as below_or}
use Rattle.job_run.proofs.SavesList.{saved_node}
use Rattle.job_run.proofs.check.nodes_there.Goals as goal

pub returns-then-number-count-clause-not_there : goal.returns-then-number-count-clause-not_there
returns-then-number-count-clause-not_there c r there =
    let saves = c.args.saves.now in
    let P : ℕ → Type 0 = λ n. n < c.args.count in
    let h = subst P (saved_node saves c.loop-save.save-index c.save-item.result c.loop-save-test.true c.save-item.is ∙ sym c.number.ensures) (there c.loop-save.save-index c.loop-save-test.true) in
    absurd (omega (arith, h, c.if-number-count.true))

pub loop-save-preserved : goal.loop-save-preserved
loop-save-preserved c k h = elim (below_or k c.loop-save.save-index) [
  | inl b ↦ c.loop-save.invariant k b
  | inr b ↦
      let saves = c.args.saves.now in
      let e : c.loop-save.save-index ≡ k = omega (arith, b, h) in
      let n : c.number.result ≡ get_or (map (λ s. s.node) (map saved_of saves)) c.loop-save.save-index 0 = c.number.ensures ∙ sym (saved_node saves c.loop-save.save-index c.save-item.result c.loop-save-test.true c.save-item.is) in
      let P : ℕ → Type 0 = λ m. m < c.args.count in
      let Q : ℕ → Type 0 = λ i. get_or (map (λ s. s.node) (map saved_of saves)) i 0 < c.args.count in
      subst Q e (subst P n (omega (arith, c.if-number-count.false)))
]
