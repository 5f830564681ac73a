use Rattle.std.proofs.Common.{◌≡◌, ℕ, ◌||◌, arith, ap, ◌∙◌}
use Rattle.std.proofs.Math.Bool.{or-false}
use Rattle.std.proofs.lemmas.Bool.{or_left}
use Rattle.cluster_rules.specs.Derived.{is_in}
use Rattle.cluster_rules.proofs.DerivedLemmas.{none_in}
use Rattle.key_sets.specs.Sets.{has}
use Rattle.spread_flags.specs.Spread.{size, targets}
use Rattle.standing.proofs.ListLemmas.{only_there}
use Rattle.task_table.proofs.MarkLemmas.{led_next}
use Rattle.task_table.proofs.marks.mark_led.Goals as goal

pub loop-key-preserved : goal.loop-key-preserved
loop-key-preserved c =
    let s = c.args.flags.now in
    let key = c.in-Some.key in
    let low = only_there (has s.changed) (size s) key c.sound.ensures.changed c.in-Some.ensures.1 in
    let marked : (k : ℕ) → has c.mark_all.new.stale k ≡ (has c.loop-key.marks k || is_in k (targets s key)) = λ k. c.mark_all.ensures.marked k ∙ ap (λ xs. has c.loop-key.marks k || is_in k xs) c.targets.ensures in
    record {
      led = led_next (has s.changed) (targets s) (has c.loop-key.marks) (has c.mark_all.new.stale) c.loop-key.from key c.in-Some.ensures c.loop-key.invariant.led marked;
      grows = λ k e. marked k ∙ or_left (has c.loop-key.marks k) (is_in k (targets s key)) (c.loop-key.invariant.grows k e);
      past = λ k m. marked k ∙ ap (λ b. has c.loop-key.marks k || b) (none_in k (size s) (targets s key) (c.sound.ensures.linked.within key) m) ∙ or-false (has c.loop-key.marks k) ∙ c.loop-key.invariant.past k m;
      room = c.mark_all.ensures.room ∙ c.loop-key.invariant.room;
      within = omega (arith, low);
    }
