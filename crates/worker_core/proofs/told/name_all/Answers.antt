use Rattle.std.proofs.Common.{◌∙◌, ◌||◌, ℕ, true, cond, get_or, take, ap, sym, arith}
use Rattle.std.specs.Prelude.{◌==◌}
use Rattle.std.proofs.lemmas.List.Folds.{list_any_more}
use Rattle.cluster_rules.specs.Derived.{is_in}
use Rattle.key_sets.specs.Sets.{has}
use Rattle.worker_core.proofs.MoveLemmas.{named_more}
use Rattle.worker_core.proofs.told.name_all.Goals as goal

pub insert-requires : goal.insert-requires
insert-requires c = omega (arith, c.requires c.loop-key.key-index 0 (omega arith), c.loop-key.invariant.room)

pub loop-key-preserved : goal.loop-key-preserved
loop-key-preserved c = record {
  named = λ k. c.insert.ensures.keys k ∙ ap (λ b. cond (k == get_or c.args.keys.now c.loop-key.key-index 0) true b) (c.loop-key.invariant.named k)
      ∙ named_more (has c.args.set.now k) (is_in k (take c.loop-key.key-index c.args.keys.now)) k (get_or c.args.keys.now c.loop-key.key-index 0)
      ∙ ap (λ b. has c.args.set.now k || b) (sym (list_any_more (λ (d : ℕ). d == k) c.args.keys.now c.loop-key.key-index 0 (omega arith)));
  room = c.insert.ensures.room ∙ c.loop-key.invariant.room;
}
