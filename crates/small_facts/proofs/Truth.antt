-- Facts about truth values that std lacks.
use Rattle.std.proofs.Common.{◌≡◌, refl, Bool, true, false, ◌&&◌, ◌≤◌, cond, arith, ◌||◌, sym, ◌∙◌}
use Rattle.std.proofs.lemmas.Bool.{false≢true}

pub and_first : (a b : Bool) → (a && b) ≡ true → a ≡ true
and_first true b e = refl
and_first false b e = e

pub and_second : (a b : Bool) → (a && b) ≡ true → b ≡ true
and_second true b h = h
and_second false b h = cc

pub one_at_most : (b : Bool) → cond b 1 0 ≤ 1
one_at_most true = omega arith
one_at_most false = omega arith

pub or_regroup : (a b c : Bool) → (a || (b || c)) ≡ ((a || b) || c)
or_regroup true b c = refl
or_regroup false b c = refl

pub or_first_false : (t u : Bool) → (t || u) ≡ false → t ≡ false
or_first_false true u f = cc
or_first_false false u f = refl

pub or_second_false : (t u : Bool) → (t || u) ≡ false → u ≡ false
or_second_false true u f = cc
or_second_false false u f = f

pub or_without : (a b : Bool) → (a || b) ≡ true → b ≡ false → a ≡ true
or_without true b h i = refl
or_without false b h i = absurd (false≢true (sym i ∙ h))

pub same_truth : (a b : Bool) → (a ≡ true → b ≡ true) → (b ≡ true → a ≡ true) → a ≡ b
same_truth true b f g = sym (f refl)
same_truth false true f g = g refl
same_truth false false f g = refl

pub not_both_truths : (b : Bool) → b ≡ true → b ≡ false → ⊥
not_both_truths b h e = cc

pub with_and_true : (a : Bool) → a ≡ (a && true)
with_and_true true = refl
with_and_true false = refl

pub with_and_false : (a : Bool) → false ≡ (a && false)
with_and_false true = refl
with_and_false false = refl

pub with_or_false : (b : Bool) → b ≡ (b || false)
with_or_false true = refl
with_or_false false = refl

pub and_where_true : (b x y : Bool) → (b ≡ true → x ≡ y) → (b && x) ≡ (b && y)
and_where_true true x y h = h refl
and_where_true false x y h = refl

pub cond_else_false : (b x : Bool) → cond b x false ≡ true → x ≡ true
cond_else_false true x e = e
cond_else_false false x e = absurd (false≢true e)

pub or_weaker : (a b c : Bool) → (b ≡ true → c ≡ true) → (a || b) ≡ true → (a || c) ≡ true
or_weaker true b c r h = refl
or_weaker false b c r h = r h

pub cond_where_true : (b x : Bool) → (x ≡ true → b ≡ true) → cond b x false ≡ x
cond_where_true true x h = refl
cond_where_true false true h = h refl
cond_where_true false false h = refl

pub false_before : (a b : Bool) → (a ≡ true → b ≡ true) → b ≡ false → a ≡ false
false_before true b h e = absurd (false≢true (sym e ∙ h refl))
false_before false b h e = refl

pub or_swap : (a b c : Bool) → (a || (b || c)) ≡ (b || (a || c))
or_swap true true c = refl
or_swap true false c = refl
or_swap false b c = refl

pub cond_same : {A : Type 0} (b : Bool) (x : A) → cond b x x ≡ x
cond_same true x = refl
cond_same false x = refl
