use Rattle.std.proofs.Common.{◌≡◌, ℕ, ◌<◌, ◌∙◌, ap, ap₂, sym, subst, inl, inr, map, length, get_or, arith, false, [], string_bytes}
use Rattle.std.specs.Prelude.{bytes_eq}
use Rattle.std.proofs.lemmas.Bool.{false≢true}
use Rattle.job_plan.specs.declared.job.Save.{Save}
use Rattle.job_run.specs.Jobs.{saved_of}
use Rattle.nd_rows.proofs.Turns.{split as below_or}
use Rattle.job_run.proofs.SavesList.{saved_name}
use Rattle.job_run.proofs.check.is_new.Goals as goal

pub returns-then-eq-clause-same : goal.returns-then-eq-clause-same
returns-then-eq-clause-same c r apart =
    let saves = c.args.saves.now in
    let a = saved_name saves c.args.place c.index-saves-place.result c.requires c.index-saves-place.is ∙ (ap (λ (x : Save). string_bytes x.file) c.index-saves-place.is ∙ sym c.as_str-name.ensures.value) in
    let k : c.loop-k.k < length saves = omega (arith, c.loop-k-test.true, c.requires) in
    let b = saved_name saves c.loop-k.k c.index-saves-k.result k c.index-saves-k.is ∙ (ap (λ (x : Save). string_bytes x.file) c.index-saves-k.is ∙ sym c.as_str.ensures.value) in
    absurd (false≢true (sym (apart c.loop-k.k c.loop-k-test.true) ∙ (ap₂ bytes_eq a b ∙ (sym c.eq.ensures ∙ c.if-eq.true))))

pub loop-k-preserved : goal.loop-k-preserved
loop-k-preserved c j h = elim (below_or j c.loop-k.k) [
  | inl l ↦ c.loop-k.invariant j l
  | inr l ↦
      let saves = c.args.saves.now in
      let a = saved_name saves c.args.place c.index-saves-place.result c.requires c.index-saves-place.is ∙ (ap (λ (x : Save). string_bytes x.file) c.index-saves-place.is ∙ sym c.as_str-name.ensures.value) in
      let k : c.loop-k.k < length saves = omega (arith, c.loop-k-test.true, c.requires) in
      let b = saved_name saves c.loop-k.k c.index-saves-k.result k c.index-saves-k.is ∙ (ap (λ (x : Save). string_bytes x.file) c.index-saves-k.is ∙ sym c.as_str.ensures.value) in
      let e : c.loop-k.k ≡ j = omega (arith, l, h) in
      let Q : ℕ → Type 0 = λ i. bytes_eq (get_or (map (λ s. s.file) (map saved_of saves)) c.args.place []) (get_or (map (λ s. s.file) (map saved_of saves)) i []) ≡ false in
      subst Q e (ap₂ bytes_eq a b ∙ (sym c.eq.ensures ∙ c.if-eq.false))
]
