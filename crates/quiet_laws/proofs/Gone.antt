-- A copy that goes, and what it costs that its key is freed there.
use Rattle.std.proofs.Common.{◌≡◌, ℕ, ◌+◌, ◌≤◌, Bool, true, false, cond, ◌&&◌, Option, Some, None, refl, sym, ap, ◌∙◌, arith, is_some}
use Rattle.std.proofs.Math.Dec.{eqb}
use Rattle.std.proofs.lemmas.Bool.{false≢true, eq-eqb}
use Rattle.small_facts.proofs.Numbers.{eqb_turned}
use Rattle.cluster_rules.specs.Functions.{from_one, put_pair, total}
use Rattle.cluster_rules.specs.Derived.{below}
use Rattle.cluster_rules.specs.Sched.{Facts, holds, held}
use Rattle.cluster_rules.specs.SchedTable.{Changed, plain, nothing_freed, is_copy, lost_copy}
use Rattle.cluster_laws.proofs.Lists.{any_weaken}
use Rattle.quiet_measure.specs.Weights.{question}
use Rattle.quiet_measure.proofs.Sums.{total_at_most}
use Rattle.quiet_measure.specs.Changes.{IsLessening}
use Rattle.quiet_measure.proofs.Posts.{one_place}
use Rattle.quiet_laws.proofs.TaskRows.{none_some}

abbrev pub gone : Facts → ℕ → ℕ → Facts
gone f x k = record f { has = put_pair f.has x k None }

none_less : (b : Bool) (o : Option ℕ) (c : ℕ) → cond b None o ≡ Some c → o ≡ Some c
none_less true o c e = absurd (none_some c e)
none_less false o c e = e

some_less : (b : Bool) (o : Option ℕ) → is_some (cond b None o) ≡ true → is_some o ≡ true
some_less true o e = absurd (false≢true e)
some_less false o e = e

pub gone_held : (f : Facts) (x k q : ℕ) → held (gone f x k) q ≡ true → held f q ≡ true
unfolding held
gone_held f x k q e = any_weaken (λ w. is_some (cond (eqb w x && eqb q k) None (f.has w q))) (λ w. is_some (f.has w q)) (from_one f.last_worker) (λ w h. some_less (eqb w x && eqb q k) (f.has w q) h) e

pub gone_less : (f : Facts) (x k : ℕ) → IsLessening f (gone f x k)
gone_less f x k = record {
  setting = refl;
  last = refl;
  counter = refl;
  on = λ q p e. e;
  copies = λ y q c e. none_less (eqb y x && eqb q k) (f.has y q) c e;
  held_before = λ q e. gone_held f x k q e;
}

pub gone_there : (f : Facts) (x k : ℕ) → holds (gone f x k) x k ≡ false
gone_there f x k = ap (λ b. is_some (cond (b && eqb k k) None (f.has x k))) (eq-eqb x x refl) ∙ ap (λ b. is_some (cond b None (f.has x k))) (eq-eqb k k refl)

pub gone_kept : (f : Facts) (x k y q : ℕ) → holds (gone f x k) y q ≡ true → holds f y q ≡ true
gone_kept f x k y q e = some_less (eqb y x && eqb q k) (f.has y q) e

-- the key is freed at one worker
pub freed_one : (e : ℕ → ℕ) (x k m n : ℕ) → total (λ q. total (λ y. cond (put_pair nothing_freed x k true y q) (question e q + 1) 0) (from_one m)) (below n) ≤ question e k + 1
freed_one e x k m n =
    let a : total (λ q. total (λ y. cond (put_pair nothing_freed x k true y q) (question e q + 1) 0) (from_one m)) (below n) ≤ total (λ q. cond (eqb k q) (question e q + 1) 0) (below n) = total_at_most _ _ (below n) row in
    let b : total (λ q. cond (eqb k q) (question e q + 1) 0) (below n) ≤ question e k + 1 = one_place (λ q. question e q + 1) k 0 n in
    omega (arith, a, b)
  where
    both : (a b c d : Bool) (n : ℕ) → a ≡ c → b ≡ d → cond (cond (a && b) true false) n 0 ≤ cond c (cond d n 0) 0
    both true true c d n p q = let z : cond c (cond d n 0) 0 ≡ n = ap (λ b. cond b (cond d n 0) 0) (sym p) ∙ ap (λ b. cond b n 0) (sym q) in omega (arith, z)
    both true false c d n p q = omega arith
    both false b c d n p q = omega arith

    row : (q : ℕ) → total (λ y. cond (cond (eqb y x && eqb q k) true false) (question e q + 1) 0) (from_one m) ≤ cond (eqb k q) (question e q + 1) 0
    row q =
        let a : total (λ y. cond (cond (eqb y x && eqb q k) true false) (question e q + 1) 0) (from_one m) ≤ total (λ y. cond (eqb x y) (cond (eqb k q) (question e q + 1) 0) 0) (from_one m) = total_at_most _ _ (from_one m) (λ y. both (eqb y x) (eqb q k) (eqb x y) (eqb k q) (question e q + 1) (eqb_turned y x) (eqb_turned q k)) in
        let b : total (λ y. cond (eqb x y) (cond (eqb k q) (question e q + 1) 0) 0) (from_one m) ≤ cond (eqb k q) (question e q + 1) 0 = one_place (λ y. cond (eqb k q) (question e q + 1) 0) x 1 m in
        omega (arith, a, b)

abbrev pub lost_at : Facts → ℕ → ℕ → Changed
lost_at f x k = record (plain (gone f x k)) { freed = put_pair nothing_freed x k true }

pub lost_some : (f : Facts) (x k c : ℕ) → is_copy c (f.has x k) ≡ true → lost_copy f x k c ≡ lost_at f x k
unfolding lost_copy
lost_some f x k c e = ap (λ b. cond b (lost_at f x k) (plain f)) e

pub copy_holds : (c : ℕ) (o : Option ℕ) → is_copy c o ≡ true → is_some o ≡ true
copy_holds c None e = absurd (false≢true e)
copy_holds c (Some d) e = refl
