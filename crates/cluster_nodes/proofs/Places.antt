-- Places in rows, and members of lists.
use Rattle.std.proofs.Common.{◌≡◌, ℕ, zero, suc, ◌+◌, ◌<◌, ◌≤◌, Bool, true, false, ◌&&◌, ◌||◌, List, [], ◌∷◌, ◌++◌, Option, Some, None, refl, sym, ap, ◌∙◌, subst, arith, cond, length, get_or, set, ltb, ⊎_elim}
use Rattle.std.specs.Prelude.{◌==◌, slice_get}
use Rattle.std.specs.List.{AllByRecursion}
use Rattle.std.proofs.lemmas.Bool.{false≢true, eqb-true, cases_lt, and_right, lt-ltb, le-ltb}
use Rattle.std.proofs.lemmas.Bool.Decides.{nat_tests}
use Rattle.std.proofs.Math.Bool.{or-true, or-false, and-false}
use Rattle.std.proofs.lemmas.List.{length_push}
use Rattle.small_facts.proofs.Numbers.{none_below_zero, not_below_self, equal_below_next, unequal_below_next, eqb_self}
use Rattle.small_facts.proofs.Truth.{or_regroup}
use Rattle.cluster_rules.specs.Derived.{is_in}
use Rattle.cluster_rules.specs.Functions.{put, put_pair}
use Rattle.cluster_laws.specs.Moves.{either, keeps}
use Rattle.cluster_nodes.specs.Turns.{first_at}

-- a member that was written, and the others
get_same : {A : Type 0} (xs : List A) (i : ℕ) (v : A) → i < length xs → slice_get (set xs i v) i ≡ Some v
get_same [] i v h = absurd (let n : i < 0 = h in omega arith)
get_same (x ∷ xs) zero v h = refl
get_same (x ∷ xs) (suc i) v h = get_same xs i v (omega arith)

get_other : {A : Type 0} (xs : List A) (i k : ℕ) (v : A) → (k == i) ≡ false → slice_get (set xs i v) k ≡ slice_get xs k
get_other [] i k v h = refl
get_other (x ∷ xs) zero zero v h = absurd (false≢true (sym h))
get_other (x ∷ xs) zero (suc k) v h = refl
get_other (x ∷ xs) (suc i) zero v h = refl
get_other (x ∷ xs) (suc i) (suc k) v h = get_other xs i k v (grind (arith, nat_tests))

pub cores_set : {A X : Type 0} (of : ℕ → Option A → X) (xs : List A) (i : ℕ) (v : A) → i < length xs → (λ k. of k (slice_get (set xs i v) k)) ≡ put (λ k. of k (slice_get xs k)) i (of i (Some v))
cores_set {A = A} of xs i v h = λ t k. at_place k t
  where
    at_place : (k : ℕ) → of k (slice_get (set xs i v) k) ≡ cond (k == i) (of i (Some v)) (of k (slice_get xs k))
    at_place k = pick (k == i) refl
      where
        pick : (b : Bool) → (k == i) ≡ b → of k (slice_get (set xs i v) k) ≡ cond b (of i (Some v)) (of k (slice_get xs k))
        pick true e = subst (λ z. of z (slice_get (set xs i v) z) ≡ of i (Some v)) (sym (eqb-true k i e)) (ap (of i) (get_same xs i v h))
        pick false e = ap (of k) (get_other xs i k v e)

-- a fact of all members, after one was written
pub all_set : {A : Type 0} (P : A → Type 0) (xs : List A) (i : ℕ) (v : A) → P v → AllByRecursion P xs → AllByRecursion P (set xs i v)
all_set P [] i v p h = tt
all_set P (x ∷ xs) zero v p h = (p, h.1)
all_set P (x ∷ xs) (suc i) v p h = (h.0, all_set P xs i v p h.1)

pub all_at : {A : Type 0} (P : A → Type 0) (xs : List A) (i : ℕ) (v : A) → i < length xs → v ≡ get_or xs i v → AllByRecursion P xs → P v
all_at P [] i v l e h = absurd (let n : i < 0 = l in omega arith)
all_at P (x ∷ xs) zero v l e h = subst P (sym e) h.0
all_at P (x ∷ xs) (suc i) v l e h = all_at P xs i v (omega arith) e h.1

pub all_more : {A : Type 0} (P : A → Type 0) (xs : List A) (v : A) → P v → AllByRecursion P xs → AllByRecursion P (xs ++ v ∷ [])
all_more P [] v p h = (p, tt)
all_more P (x ∷ xs) v p h = (h.0, all_more P xs v p h.1)

-- the keys of one node, one after another
module _ {A : Type 0} (change : ℕ → A → A) where
  pub change_more : (base cur next : ℕ → ℕ → A) (node key : ℕ) → next ≡ put_pair cur node key (change key (cur node key))
      → ((w k : ℕ) → cur w k ≡ cond (w == node && ltb k key) (change k (base w k)) (base w k))
      → (w k : ℕ) → next w k ≡ cond (w == node && ltb k (key + 1)) (change k (base w k)) (base w k)
  change_more base cur next node key e s w k = ap (λ (f : ℕ → ℕ → A). f w k) e ∙ pick (w == node) refl (k == key) refl
    where
      own : cur node key ≡ base node key
      own = s node key ∙ ap (λ b. cond (b && ltb key key) (change key (base node key)) (base node key)) (eqb_self node) ∙ ap (λ b. cond b (change key (base node key)) (base node key)) (not_below_self key)

      pick : (b : Bool) → (w == node) ≡ b → (c : Bool) → (k == key) ≡ c → cond (b && c) (change key (cur node key)) (cur w k) ≡ cond (b && ltb k (key + 1)) (change k (base w k)) (base w k)
      pick true p true q = ap (change key) own
          ∙ ap (λ v. change key (base v key)) (sym (eqb-true w node p)) ∙ ap (λ v. change v (base w v)) (sym (eqb-true k key q))
          ∙ ap (λ b. cond b (change k (base w k)) (base w k)) (sym (equal_below_next k key q))
      pick true p false q = s w k ∙ ap (λ b. cond (b && ltb k key) (change k (base w k)) (base w k)) p ∙ ap (λ b. cond b (change k (base w k)) (base w k)) (unequal_below_next k key q)
      pick false p c q = s w k ∙ ap (λ b. cond (b && ltb k key) (change k (base w k)) (base w k)) p

  pub change_none : (base : ℕ → ℕ → A) (node w k : ℕ) → base w k ≡ cond (w == node && ltb k 0) (change k (base w k)) (base w k)
  change_none base node w k = pick (w == node)
    where
      pick : (b : Bool) → base w k ≡ cond (b && ltb k 0) (change k (base w k)) (base w k)
      pick true = sym (ap (λ b. cond b (change k (base w k)) (base w k)) (none_below_zero k))
      pick false = refl

  pub change_all : (base cur : ℕ → ℕ → A) (node n : ℕ) → ((w k : ℕ) → n ≤ k → change k (base w k) ≡ base w k)
      → ((w k : ℕ) → cur w k ≡ cond (w == node && ltb k n) (change k (base w k)) (base w k)) → cur ≡ put base node (λ k. change k (base node k))
  change_all base cur node n past s = λ t w k. at_place w k t
    where
      here : (w k : ℕ) → cond (ltb k n) (change k (base w k)) (base w k) ≡ change k (base w k)
      here w k = ⊎_elim (λ l. ap (λ b. cond b (change k (base w k)) (base w k)) (lt-ltb k n l)) (λ l. ap (λ b. cond b (change k (base w k)) (base w k)) (le-ltb k n l) ∙ sym (past w k l)) (cases_lt k n)

      pick : (w k : ℕ) (b : Bool) → (w == node) ≡ b → cond (b && ltb k n) (change k (base w k)) (base w k) ≡ cond {A = ℕ → A} b (λ q. change q (base node q)) (base w) k
      pick w k true e = here w k ∙ ap (λ v. change k (base v k)) (eqb-true w node e)
      pick w k false e = refl

      at_place : (w k : ℕ) → cur w k ≡ cond {A = ℕ → A} (w == node) (λ q. change q (base node q)) (base w) k
      at_place w k = s w k ∙ pick w k (w == node) refl

-- the keys of a list, one after another: a key may come again, which changes nothing more
in_more : (ys : List ℕ) (x k : ℕ) → is_in k (ys ++ x ∷ []) ≡ (is_in k ys || x == k)
in_more [] x k = or-false (x == k)
in_more (y ∷ ys) x k = ap (λ b. y == k || b) (in_more ys x k) ∙ or_regroup (y == k) (is_in k ys) (x == k)

module _ {A : Type 0} (change : ℕ → A → A) where
  pub touch_none : (base : ℕ → ℕ → A) (node w k : ℕ) → base w k ≡ cond (w == node && is_in k []) (change k (base w k)) (base w k)
  touch_none base node w k = pick (w == node)
    where
      pick : (b : Bool) → base w k ≡ cond (b && false) (change k (base w k)) (base w k)
      pick true = refl
      pick false = refl

  pub touch_more : ((k : ℕ) (x : A) → change k (change k x) ≡ change k x) → (base cur next : ℕ → ℕ → A) (node key : ℕ) (ys : List ℕ) → next ≡ put_pair cur node key (change key (cur node key))
      → ((w k : ℕ) → cur w k ≡ cond (w == node && is_in k ys) (change k (base w k)) (base w k))
      → (w k : ℕ) → next w k ≡ cond (w == node && is_in k (ys ++ key ∷ [])) (change k (base w k)) (base w k)
  touch_more once base cur next node key ys e s w k = ap (λ (f : ℕ → ℕ → A). f w k) e ∙ pick (w == node) refl (k == key) refl ∙ sym (ap (λ b. cond (w == node && b) (change k (base w k)) (base w k)) (in_more ys key k))
    where
      turned : (a b : ℕ) (c : Bool) → (a == b) ≡ c → (b == a) ≡ c
      turned a b true e = grind (arith, nat_tests)
      turned a b false e = grind (arith, nat_tests)

      again : (b : Bool) → change key (cond b (change key (base node key)) (base node key)) ≡ change key (base node key)
      again true = once key (base node key)
      again false = refl

      own : change key (cur node key) ≡ change key (base node key)
      own = ap (change key) (s node key ∙ ap (λ b. cond (b && is_in key ys) (change key (base node key)) (base node key)) (eqb_self node)) ∙ again (is_in key ys)

      pick : (b : Bool) → (w == node) ≡ b → (c : Bool) → (k == key) ≡ c → cond (b && c) (change key (cur node key)) (cur w k) ≡ cond (w == node && (is_in k ys || key == k)) (change k (base w k)) (base w k)
      pick true p true q = own
          ∙ ap (λ v. change key (base v key)) (sym (eqb-true w node p)) ∙ ap (λ v. change v (base w v)) (sym (eqb-true k key q))
          ∙ sym (ap (λ b. cond (b && (is_in k ys || key == k)) (change k (base w k)) (base w k)) p
          ∙ ap (λ b. cond (is_in k ys || b) (change k (base w k)) (base w k)) (turned k key true q)
          ∙ ap (λ b. cond b (change k (base w k)) (base w k)) (or-true (is_in k ys)))
      pick true p false q = s w k ∙ ap (λ b. cond (b && is_in k ys) (change k (base w k)) (base w k)) p
          ∙ sym (ap (λ b. cond (b && (is_in k ys || key == k)) (change k (base w k)) (base w k)) p
          ∙ ap (λ b. cond (is_in k ys || b) (change k (base w k)) (base w k)) (turned k key false q)
          ∙ ap (λ b. cond b (change k (base w k)) (base w k)) (or-false (is_in k ys)))
      pick false p c q = s w k ∙ ap (λ b. cond (b && is_in k ys) (change k (base w k)) (base w k)) p ∙ sym (ap (λ b. cond (b && (is_in k ys || key == k)) (change k (base w k)) (base w k)) p)

  -- all keys that change are in the list
  pub touch_all : (base cur : ℕ → ℕ → A) (node : ℕ) (ys : List ℕ) → ((k : ℕ) → is_in k ys ≡ false → change k (base node k) ≡ base node k)
      → ((w k : ℕ) → cur w k ≡ cond (w == node && is_in k ys) (change k (base w k)) (base w k)) → cur ≡ put base node (λ k. change k (base node k))
  touch_all base cur node ys others s = λ t w k. at_place w k t
    where
      here : (k : ℕ) (l : Bool) → is_in k ys ≡ l → cond l (change k (base node k)) (base node k) ≡ change k (base node k)
      here k true q = refl
      here k false q = sym (others k q)

      pick : (w k : ℕ) (b : Bool) → (w == node) ≡ b → cond (b && is_in k ys) (change k (base w k)) (base w k) ≡ cond {A = ℕ → A} b (λ q. change q (base node q)) (base w) k
      pick w k true p = ap (λ v. cond (is_in k ys) (change k (base v k)) (base v k)) (eqb-true w node p) ∙ here k (is_in k ys) refl
      pick w k false p = refl

      at_place : (w k : ℕ) → cur w k ≡ cond {A = ℕ → A} (w == node) (λ q. change q (base node q)) (base w) k
      at_place w k = s w k ∙ pick w k (w == node) refl

-- a place that is written again as it was
pub pair_own : {A : Type 0} (f : ℕ → ℕ → A) (i k : ℕ) (x : A) → f i k ≡ x → f ≡ put_pair f i k x
pair_own f i k x s = λ t w q. pick w q (w == i) refl (q == k) refl t
  where
    pick : (w q : ℕ) (b : Bool) → (w == i) ≡ b → (c : Bool) → (q == k) ≡ c → f w q ≡ cond (b && c) x (f w q)
    pick w q true p true e = ap (λ v. f v q) (eqb-true w i p) ∙ ap (f i) (eqb-true q k e) ∙ s
    pick w q true p false e = refl
    pick w q false p c e = refl

-- what came, one after another
module _ {A : Type 0} where
  either_none : (x : Option A) → either x None ≡ x
  either_none None = refl
  either_none (Some a) = refl

  either_assoc : (x y z : Option A) → either (either x y) z ≡ either x (either y z)
  either_assoc None y z = refl
  either_assoc (Some a) y z = refl

  first_more : (ys : List (ℕ × A)) (p : ℕ × A) (k : ℕ) → first_at (ys ++ p ∷ []) k ≡ either (first_at ys k) (cond (p.0 == k) (Some p.1) None)
  first_more [] p k = refl
  first_more (y ∷ ys) p k = pick (y.0 == k) (first_more ys p k)
    where
      pick : (b : Bool) → first_at (ys ++ p ∷ []) k ≡ either (first_at ys k) (cond (p.0 == k) (Some p.1) None)
          → cond b (Some y.1) (first_at (ys ++ p ∷ []) k) ≡ either (cond b (Some y.1) (first_at ys k)) (cond (p.0 == k) (Some p.1) None)
      pick true r = refl
      pick false r = r

  pub bring_none : (base : ℕ → ℕ → Option A) (node : ℕ) (at : ℕ → Bool) (w k : ℕ) → base w k ≡ cond (w == node && at k) (either (base w k) None) (base w k)
  bring_none base node at w k = pick (w == node && at k)
    where
      pick : (b : Bool) → base w k ≡ cond b (either (base w k) None) (base w k)
      pick true = sym (either_none (base w k))
      pick false = refl

  pub bring_more : (base cur next : ℕ → ℕ → Option A) (node : ℕ) (at : ℕ → Bool) (ys : List (ℕ × A)) (p : ℕ × A)
      → ((w k : ℕ) → next w k ≡ cond ((w == node && at k) && p.0 == k) (either (cur w k) (Some p.1)) (cur w k))
      → ((w k : ℕ) → cur w k ≡ cond (w == node && at k) (either (base w k) (first_at ys k)) (base w k))
      → (w k : ℕ) → next w k ≡ cond (w == node && at k) (either (base w k) (first_at (ys ++ p ∷ []) k)) (base w k)
  bring_more base cur next node at ys p e s w k = e w k ∙ pick (w == node && at k) (s w k) ∙ ap (λ x. cond (w == node && at k) (either (base w k) x) (base w k)) (sym (first_more ys p k))
    where
      pick : (b : Bool) → cur w k ≡ cond b (either (base w k) (first_at ys k)) (base w k)
          → cond (b && p.0 == k) (either (cur w k) (Some p.1)) (cur w k) ≡ cond b (either (base w k) (either (first_at ys k) (cond (p.0 == k) (Some p.1) None))) (base w k)
      pick true r = at_key (p.0 == k)
        where
          at_key : (c : Bool) → cond c (either (cur w k) (Some p.1)) (cur w k) ≡ either (base w k) (either (first_at ys k) (cond c (Some p.1) None))
          at_key true = ap (λ x. either x (Some p.1)) r ∙ either_assoc (base w k) (first_at ys k) (Some p.1)
          at_key false = r ∙ sym (ap (λ x. either (base w k) x) (either_none (first_at ys k)))
      pick false r = r

  -- one block: its key isn't marked, something stands there, or nothing does
  pub not_marked : (old : ℕ → ℕ → Option A) (node key : ℕ) (at : ℕ → Bool) (v : A) → at key ≡ false → (w k : ℕ) → old w k ≡ cond ((w == node && at k) && key == k) (either (old w k) (Some v)) (old w k)
  not_marked old node key at v m w k = pick (w == node) (key == k) refl
    where
      gone : (c : Bool) → (key == k) ≡ c → (at k && c) ≡ false
      gone true e = ap (λ x. x && true) (subst (λ z. at z ≡ false) (eqb-true key k e) m)
      gone false e = and-false (at k)

      pick : (b c : Bool) → (key == k) ≡ c → old w k ≡ cond ((b && at k) && c) (either (old w k) (Some v)) (old w k)
      pick true c e = sym (ap (λ x. cond x (either (old w k) (Some v)) (old w k)) (gone c e))
      pick false c e = refl

  pub stands_there : (old : ℕ → ℕ → Option A) (node key : ℕ) (at : ℕ → Bool) (v a : A) → old node key ≡ Some a → (w k : ℕ) → old w k ≡ cond ((w == node && at k) && key == k) (either (old w k) (Some v)) (old w k)
  stands_there old node key at v a s w k = pick (w == node) refl (at k) (key == k) refl
    where
      here : (w == node) ≡ true → (key == k) ≡ true → old w k ≡ Some a
      here p q = ap (λ z. old z k) (eqb-true w node p) ∙ ap (old node) (sym (eqb-true key k q)) ∙ s

      kept : (x : Option A) → x ≡ Some a → x ≡ either x (Some v)
      kept x e = subst (λ y. y ≡ either y (Some v)) (sym e) refl

      pick : (b : Bool) → (w == node) ≡ b → (c d : Bool) → (key == k) ≡ d → old w k ≡ cond ((b && c) && d) (either (old w k) (Some v)) (old w k)
      pick true p true true q = kept (old w k) (here p q)
      pick true p true false q = refl
      pick true p false d q = refl
      pick false p c d q = refl

  pub put_there : (old new : ℕ → ℕ → Option A) (node key : ℕ) (at : ℕ → Bool) (v : A) → at key ≡ true → old node key ≡ None → new ≡ put_pair old node key (Some v)
      → (w k : ℕ) → new w k ≡ cond ((w == node && at k) && key == k) (either (old w k) (Some v)) (old w k)
  put_there old new node key at v l s e w k = ap (λ (f : ℕ → ℕ → Option A). f w k) e ∙ pick (w == node) refl (k == key) refl
    where
      turned : (a b : ℕ) (c : Bool) → (a == b) ≡ c → (b == a) ≡ c
      turned a b true e = grind (arith, nat_tests)
      turned a b false e = grind (arith, nat_tests)

      fresh : (w == node) ≡ true → (k == key) ≡ true → Some v ≡ either (old w k) (Some v)
      fresh p q = sym (ap (λ x. either x (Some v)) (ap (λ z. old z k) (eqb-true w node p) ∙ ap (old node) (eqb-true k key q) ∙ s))

      pick : (b : Bool) → (w == node) ≡ b → (c : Bool) → (k == key) ≡ c → cond (b && c) (Some v) (old w k) ≡ cond ((b && at k) && key == k) (either (old w k) (Some v)) (old w k)
      pick true p true q = fresh p q ∙ sym (ap (λ x. cond x (either (old w k) (Some v)) (old w k)) (turned k key true q))
          ∙ sym (ap (λ x. cond (x && key == k) (either (old w k) (Some v)) (old w k)) (subst (λ z. at z ≡ true) (sym (eqb-true k key q)) l))
      pick true p false q = sym (ap (λ x. cond x (either (old w k) (Some v)) (old w k)) (and_right (at k) (key == k) (turned k key false q)))
      pick false p c q = refl

  -- what came is put, and what isn't counted goes
  pub shelved : (old mid new : ℕ → ℕ → Option A) (counted : ℕ → Bool) (came : ℕ → Option A) (node : ℕ) (lost : List ℕ)
      → ((k : ℕ) → counted k ≡ false → is_in k lost ≡ false → old node k ≡ None)
      → ((w k : ℕ) → mid w k ≡ cond (w == node && counted k) (either (old w k) (came k)) (old w k))
      → ((w k : ℕ) → new w k ≡ cond (w == node && is_in k lost) (cond (counted k) (mid w k) None) (mid w k))
      → new ≡ put old node (λ k. keeps (counted k) (old node k) (came k))
  shelved old mid new counted came node lost tidy m e = λ t w k. pick w k (w == node) refl t
    where
      both : (x y : Option A) (l : Bool) → cond l (cond true x None) x ≡ x
      both x y true = refl
      both x y false = refl

      here : (k : ℕ) (c : Bool) → counted k ≡ c → (l : Bool) → is_in k lost ≡ l → cond l (cond c (cond c (either (old node k) (came k)) (old node k)) None) (cond c (either (old node k) (came k)) (old node k)) ≡ cond c (either (old node k) (came k)) None
      here k true p l q = both (either (old node k) (came k)) None l
      here k false p true q = refl
      here k false p false q = tidy k p q

      at : (w k : ℕ) (b : Bool) → (w == node) ≡ b → new w k ≡ cond (b && is_in k lost) (cond (counted k) (cond (b && counted k) (either (old w k) (came k)) (old w k)) None) (cond (b && counted k) (either (old w k) (came k)) (old w k))
      at w k b s = e w k ∙ ap (λ x. cond (x && is_in k lost) (cond (counted k) (mid w k) None) (mid w k)) s
          ∙ ap (λ x. cond (b && is_in k lost) (cond (counted k) x None) x) (m w k ∙ ap (λ x. cond (x && counted k) (either (old w k) (came k)) (old w k)) s)

      pick : (w k : ℕ) (b : Bool) → (w == node) ≡ b → new w k ≡ cond {A = ℕ → Option A} b (λ q. keeps (counted q) (old node q) (came q)) (old w) k
      pick w k true p = at w k true p
          ∙ ap (λ v. cond (is_in k lost) (cond (counted k) (cond (counted k) (either (old v k) (came k)) (old v k)) None) (cond (counted k) (either (old v k) (came k)) (old v k))) (eqb-true w node p)
          ∙ here k (counted k) refl (is_in k lost) refl
      pick w k false p = at w k false p

pub one_longer : {A : Type 0} (ys xs : List A) (v : A) → ys ≡ xs ++ v ∷ [] → length ys ≡ length xs + 1
one_longer ys xs v e = ap length e ∙ length_push xs v
