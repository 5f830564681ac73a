-- The keys that depend on each key.
use Rattle.std.proofs.Common.{◌≡◌, ℕ, ◌+◌, ◌<◌, Bool, true, false, ◌||◌, List, [], ◌∷◌, ◌++◌, refl, sym, ap, ◌∙◌, subst, arith, cond, get_or, set, length, take, All, ⊎_elim, length-set}
use Rattle.std.specs.Prelude.{◌==◌}
use Rattle.std.specs.List.{list_any}
use Rattle.std.proofs.lemmas.Bool.{false≢true, eqb-true, eq-eqb, cases_lt, or_left}
use Rattle.std.proofs.lemmas.List.Folds.{list_any_more, list_any-append}
use Rattle.std.proofs.lemmas.List.Elements.{All-push, All-nil, All-from_recursion, All-weaker}
use Rattle.std.proofs.Math.Bool.{or-false, or-true}
use Rattle.small_facts.proofs.Numbers.{eqb_turned}
use Rattle.small_facts.proofs.Truth.{or_without}
use Rattle.cluster_msgs.specs.Shape.{Shape, IsShape, key_count, deps_of}
use Rattle.cluster_rules.specs.Derived.{is_in}
use Rattle.cluster_rules.proofs.FunctionLemmas.{set_at}
use Rattle.worker_table.specs.Links.{dependents, IsAdded, IsLinkedBelow}

pub added_none : (key : ℕ) (old : List (List ℕ)) → IsAdded key [] old old
added_none key old = record {
  long = refl;
  there = λ d e. absurd (false≢true e);
  kept = λ d j e. e;
  within = λ n d l a. a;
}

pub added_more : (key : ℕ) (before old : List (List ℕ)) (v deps : List ℕ) (i : ℕ) → i < length deps → get_or deps i 0 < length old → v ≡ dependents old (get_or deps i 0) ++ key ∷ []
    → IsAdded key (take i deps) before old → IsAdded key (take (i + 1) deps) before (set old (get_or deps i 0) v)
added_more key before old v deps i l low val was = record {
  long = length-set old x v ∙ was.long;
  there = λ d e. at_there d (d == x) refl (sym (list_any_more (λ y. y == d) deps i 0 l) ∙ e);
  kept = λ d j e. still d j (d == x) refl (was.kept d j e);
  within = λ n d m a. inside n d m (d == x) refl (was.within n d m a);
}
  where
    x : ℕ
    x = get_or deps i 0

    new_at : (d : ℕ) → dependents (set old x v) d ≡ cond (d == x) v (dependents old d)
    new_at d = set_at old x v [] low d

    named : (j : ℕ) → is_in j v ≡ (is_in j (dependents old x) || (key == j))
    named j = ap (is_in j) val ∙ list_any-append (λ y. y == j) (dependents old x) (key ∷ []) ∙ ap (λ b. is_in j (dependents old x) || b) (or-false (key == j))

    at_there : (d : ℕ) (b : Bool) → (d == x) ≡ b → (is_in d (take i deps) || (x == d)) ≡ true → is_in key (dependents (set old x v) d) ≡ true
    at_there d true e h = ap (is_in key) (new_at d ∙ ap (λ b. cond b v (dependents old d)) e) ∙ named key ∙ ap (λ b. is_in key (dependents old x) || b) (eq-eqb key key refl) ∙ or-true (is_in key (dependents old x))
    at_there d false e h = ap (is_in key) (new_at d ∙ ap (λ b. cond b v (dependents old d)) e) ∙ was.there d (or_without (is_in d (take i deps)) (x == d) h (eqb_turned x d ∙ e))

    still : (d j : ℕ) (b : Bool) → (d == x) ≡ b → is_in j (dependents old d) ≡ true → is_in j (dependents (set old x v) d) ≡ true
    still d j true e h = ap (is_in j) (new_at d ∙ ap (λ b. cond b v (dependents old d)) e) ∙ named j ∙ or_left (is_in j (dependents old x)) (key == j) (ap (λ y. is_in j (dependents old y)) (sym (eqb-true d x e)) ∙ h)
    still d j false e h = ap (is_in j) (new_at d ∙ ap (λ b. cond b v (dependents old d)) e) ∙ h

    inside : (n d : ℕ) → key < n → (b : Bool) → (d == x) ≡ b → All (λ j. j < n) (dependents old d) → All (λ j. j < n) (dependents (set old x v) d)
    inside n d m true e a = subst (λ (ys : List ℕ). All (λ j. j < n) ys) (sym (new_at d ∙ ap (λ b. cond b v (dependents old d)) e ∙ val ∙ ap (λ y. dependents old y ++ key ∷ []) (sym (eqb-true d x e)))) (All-push (λ j. j < n) (dependents old d) key a m)
    inside n d m false e a = subst (λ (ys : List ℕ). All (λ j. j < n) ys) (sym (new_at d ∙ ap (λ b. cond b v (dependents old d)) e)) a

pub linked_none : (g : Shape) (lists : List (List ℕ)) → length lists ≡ key_count g → ((d : ℕ) → dependents lists d ≡ []) → IsLinkedBelow g 0 lists
linked_none g lists long empty = record {
  each = λ j d l e. absurd (omega arith);
  within = λ d. subst (λ (ys : List ℕ). All (λ j. j < key_count g) ys) (sym (empty d)) (All-nil (λ j. j < key_count g));
  long = long;
}

pub linked_more : (g : Shape) (n : ℕ) (old new : List (List ℕ)) → n < key_count g → IsLinkedBelow g n old → IsAdded n (deps_of g n) old new → IsLinkedBelow g (n + 1) new
linked_more g n old new l was add = record {
  each = λ j d h e. ⊎_elim (λ m. add.kept d j (was.each j d m e)) (λ m. last j d (let q : n ≡ j = omega arith in q) e) (cases_lt j n);
  within = λ d. add.within (key_count g) d l (was.within d);
  long = add.long ∙ was.long;
}
  where
    last : (j d : ℕ) → n ≡ j → is_in d (deps_of g j) ≡ true → is_in j (dependents new d) ≡ true
    last j d q e = subst (λ y. is_in y (dependents new d) ≡ true) q (add.there d (ap (λ y. is_in d (deps_of g y)) q ∙ e))

-- the dependencies of a key are keys
pub deps_within : (g : Shape) (k : ℕ) → IsShape g → k < key_count g → All (λ d. d < key_count g) (deps_of g k)
deps_within g k s l = All-weaker (λ d. d < k) (λ d. d < key_count g) (λ d h. let m : d < key_count g = omega arith in m) (deps_of g k) (All-from_recursion (λ d. d < k) (deps_of g k) (s.below k))
