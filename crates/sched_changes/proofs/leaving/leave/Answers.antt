use Rattle.std.proofs.Common.{◌≡◌, ℕ, None, true, false, subst, sym, ap, ◌∙◌}
use Rattle.std.proofs.Math.Nat.{le_refl}
use Rattle.cluster_rules.specs.Functions.{put}
use Rattle.cluster_rules.specs.Sched.{Facts, keys, connected, holds, is_on}
use Rattle.sched_facts.proofs.Leaving.{left_all, left_holds, left_places, left_connected}
use Rattle.task_table.specs.Tasks.{facts}
use Rattle.sched_changes.proofs.leaving.leave.Goals as goal

pub make-requires : goal.make-requires
make-requires c =
    let f = facts c.args.table.now in
    record {
      worker = subst (λ (g : Facts). connected g c.args.worker ≡ true) (sym c.bare.ensures.facts) (left_connected f c.args.worker (keys f) c.args.worker ∙ c.requires.worker);
      holds = subst (λ (g : Facts). (k : ℕ) → holds g c.args.worker k ≡ false) (sym c.bare.ensures.facts) (λ k. left_holds f c.args.worker (keys f) k c.sound.ensures (le_refl (keys f)));
      on = subst (λ (g : Facts). (k : ℕ) → is_on g c.args.worker k ≡ false) (sym c.bare.ensures.facts) (λ k. left_places f c.args.worker (keys f) k c.sound.ensures (le_refl (keys f)));
    }

pub returns-clause-facts : goal.returns-clause-facts
returns-clause-facts c =
    let f = facts c.args.table.now in
    c.make.ensures.facts ∙ ap (λ (g : Facts). record g { threads = put g.threads c.args.worker None }) c.bare.ensures.facts ∙ left_all f c.args.worker (keys f) c.sound.ensures (le_refl (keys f))
