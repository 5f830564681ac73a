use Rattle.std.proofs.Common.{◌≡◌, ◌<◌, ℕ, Bool, true, false, ◌&&◌, List, refl, sym, subst, cond, take, get_or, length, rules, arith}
use Rattle.std.specs.Prelude.{◌==◌}
use Rattle.std.proofs.lemmas.List.{take_more}
use Rattle.cluster_rules.specs.Derived.{is_in}
use Rattle.fact_rows.specs.Rows.{cell}
use Rattle.worker_core.specs.Core.{facts}
use Rattle.cluster_nodes.proofs.Places.{touch_none, touch_more}
use Rattle.cluster_nodes.proofs.cores.unspill_lost.Goals as goal

once : (x m : Bool) → ((x && m) && m) ≡ (x && m)
once true true = refl
once true false = refl
once false m = refl

pub loop-key-init : goal.loop-key-init
loop-key-init c = record {
  done = λ w k. touch_none (λ q x. x && (facts c.args.core.now).mem q) (cell c.args.spilled.now false) c.args.worker w k;
  high = search rules;
  wide = search rules;
}

pub loop-key-preserved : goal.loop-key-preserved
loop-key-preserved c =
    let ks = c.args.lost.now in
    let i = c.loop-key.key-index in
    let l : i < length ks = omega arith in
    let change = λ (q : ℕ) (x : Bool). x && (facts c.args.core.now).mem q in
    let was = cell c.args.spilled.now false in
    record {
      done = subst (λ (ys : List ℕ). (w k : ℕ) → cell c.unspill_one.new.spilled false w k ≡ cond (w == c.args.worker && is_in k ys) (change k (was w k)) (was w k)) (sym (take_more ks i 0 l))
          (touch_more change (λ q x. once x ((facts c.args.core.now).mem q)) was (cell c.loop-key.spilled false) (cell c.unspill_one.new.spilled false) c.args.worker (get_or ks i 0) (take i ks) c.unspill_one.ensures.meaning c.loop-key.invariant.done);
      high = search rules;
      wide = search rules;
    }
