-- When an event counts, and when it changes nothing.
use Rattle.std.proofs.Common.{◌≡◌, ℕ, ◌+◌, Bool, true, false, cond, ◌&&◌, [], ◌∷◌, ◌++◌, Some, None, sym, ap, ◌∙◌}
use Rattle.std.specs.Prelude.{nat_le}
use Rattle.cluster_rules.specs.Functions.{put, put_pair}
use Rattle.cluster_rules.specs.Sched.{Facts, connected}
use Rattle.cluster_rules.specs.SchedTable.{plain, nothing_freed, is_this, is_copy, is_asked_back, refused, finished, failed, released, lost_copy, stolen_by, stolen_to, answered}
use Rattle.sched_changes.specs.Pairs.{so_far}
use Rattle.sched_changes.proofs.PairLemmas.{pair_put}

pub finished_yes : (f : Facts) (w k a : ℕ) → is_this w a (f.on k) ≡ true → record f { on = put f.on k None; steal = put f.steal k None; has = put_pair f.has w k (Some f.counter); counter = f.counter + 1; finishes = f.finishes + 1 } ≡ finished f w k a
unfolding finished
finished_yes f w k a e = sym (ap (λ b. cond b (record f { on = put f.on k None; steal = put f.steal k None; has = put_pair f.has w k (Some f.counter); counter = f.counter + 1; finishes = f.finishes + 1 }) f) e)

pub finished_no : (f : Facts) (w k a : ℕ) → is_this w a (f.on k) ≡ false → f ≡ finished f w k a
unfolding finished
finished_no f w k a e = sym (ap (λ b. cond b (record f { on = put f.on k None; steal = put f.steal k None; has = put_pair f.has w k (Some f.counter); counter = f.counter + 1; finishes = f.finishes + 1 }) f) e)

pub failed_yes : (f : Facts) (w k a : ℕ) → is_this w a (f.on k) ≡ true → record f { on = put f.on k None; steal = put f.steal k None; bad = put f.bad k true } ≡ failed f w k a
unfolding failed
failed_yes f w k a e = sym (ap (λ b. cond b (record f { on = put f.on k None; steal = put f.steal k None; bad = put f.bad k true }) f) e)

pub failed_no : (f : Facts) (w k a : ℕ) → is_this w a (f.on k) ≡ false → f ≡ failed f w k a
unfolding failed
failed_no f w k a e = sym (ap (λ b. cond b (record f { on = put f.on k None; steal = put f.steal k None; bad = put f.bad k true }) f) e)

pub released_yes : (f : Facts) (w seen k : ℕ) → nat_le (f.fence w k) seen ≡ true → record f { has = put_pair f.has w k None } ≡ released f w seen k
unfolding released
released_yes f w seen k e = sym (ap (λ b. cond b (record f { has = put_pair f.has w k None }) f) e)

pub released_no : (f : Facts) (w seen k : ℕ) → nat_le (f.fence w k) seen ≡ false → f ≡ released f w seen k
unfolding released
released_no f w seen k e = sym (ap (λ b. cond b (record f { has = put_pair f.has w k None }) f) e)

pub lost_yes : (f : Facts) (w k c : ℕ) → is_copy c (f.has w k) ≡ true → so_far (record f { has = put_pair f.has w k None }) ([] ++ (w, k) ∷ []) ≡ lost_copy f w k c
unfolding lost_copy
lost_yes f w k c e =
    (λ i. record (plain (record f { has = put_pair f.has w k None })) { freed = pair_put [] w k i })
    ∙ sym (ap (λ b. cond b (record (plain (record f { has = put_pair f.has w k None })) { freed = put_pair nothing_freed w k true }) (plain f)) e)

pub lost_no : (f : Facts) (w k c : ℕ) → is_copy c (f.has w k) ≡ false → so_far f [] ≡ lost_copy f w k c
unfolding lost_copy
lost_no f w k c e = sym (ap (λ b. cond b (record (plain (record f { has = put_pair f.has w k None })) { freed = put_pair nothing_freed w k true }) (plain f)) e)

pub answered_yes : (f : Facts) (w k a : ℕ) (agreed : Bool) → (is_this w a (f.on k) && is_asked_back (f.steal k)) ≡ true → cond agreed (stolen_to f k (f.steal k)) (record f { steal = put f.steal k (refused (f.steal k)) }) ≡ answered f w k a agreed
unfolding answered
answered_yes f w k a agreed e = sym (ap (λ b. cond b (cond agreed (stolen_to f k (f.steal k)) (record f { steal = put f.steal k (refused (f.steal k)) })) f) e)

pub answered_no : (f : Facts) (w k a : ℕ) (agreed : Bool) → (is_this w a (f.on k) && is_asked_back (f.steal k)) ≡ false → f ≡ answered f w k a agreed
unfolding answered
answered_no f w k a agreed e = sym (ap (λ b. cond b (cond agreed (stolen_to f k (f.steal k)) (record f { steal = put f.steal k (refused (f.steal k)) })) f) e)

pub stolen_yes : (f : Facts) (k thief : ℕ) → connected f thief ≡ true → record f { on = put f.on k (Some (thief, f.counter)); steal = put f.steal k None; counter = f.counter + 1 } ≡ stolen_by f k thief
stolen_yes f k thief e = sym (ap (λ b. cond b (record f { on = put f.on k (Some (thief, f.counter)); steal = put f.steal k None; counter = f.counter + 1 }) (record f { on = put f.on k None; steal = put f.steal k None })) e)

pub stolen_no : (f : Facts) (k thief : ℕ) → connected f thief ≡ false → record f { on = put f.on k None; steal = put f.steal k None } ≡ stolen_by f k thief
stolen_no f k thief e = sym (ap (λ b. cond b (record f { on = put f.on k (Some (thief, f.counter)); steal = put f.steal k None; counter = f.counter + 1 }) (record f { on = put f.on k None; steal = put f.steal k None })) e)
