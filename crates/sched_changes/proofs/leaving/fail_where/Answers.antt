use Rattle.std.proofs.Common.{◌≡◌, ℕ, Bool, true, false, cond, ◌||◌, refl, sym, ap, ◌∙◌}
use Rattle.std.proofs.lemmas.Bool.{eqb-true}
use Rattle.std.proofs.Math.Bool.{or-false, or-true}
use Rattle.std.proofs.Math.Dec.{eqb}
use Rattle.cluster_rules.specs.Functions.{put}
use Rattle.cluster_rules.specs.Sched.{Facts}
use Rattle.task_table.specs.Tasks.{facts}
use Rattle.sched_changes.proofs.leaving.fail_where.Goals as goal

same_bad : (f : Facts) (k : ℕ) → f ≡ record f { bad = put f.bad k (f.bad k || false) }
same_bad f k = λ i. record f { bad = λ j. at j (eqb j k) refl i }
  where
    at : (j : ℕ) (b : Bool) → eqb j k ≡ b → f.bad j ≡ cond b (f.bad k || false) (f.bad j)
    at j true e = ap f.bad (eqb-true j k e) ∙ sym (or-false (f.bad k))
    at j false e = refl

-- the key is bad anyway
now_bad : (f : Facts) (k : ℕ) (b : Bool) → b ≡ true → record f { bad = put f.bad k true } ≡ record f { bad = put f.bad k (f.bad k || b) }
now_bad f k b e = λ i. record f { bad = put f.bad k ((sym (or-true (f.bad k)) ∙ ap (λ x. f.bad k || x) (sym e)) i) }

pub returns-then-is-clause-facts : goal.returns-then-is-clause-facts
returns-then-is-clause-facts c = c.make.ensures.facts ∙ now_bad (facts c.args.table.now) c.args.key c.args.is c.if-is.true

pub returns-else-is-clause-facts : goal.returns-else-is-clause-facts
returns-else-is-clause-facts c = let f = facts c.args.table.now in same_bad f c.args.key ∙ ap (λ b. record f { bad = put f.bad c.args.key (f.bad c.args.key || b) }) (sym c.if-is.false)
