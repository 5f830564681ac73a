-- Facts about options that std lacks.
use Rattle.std.proofs.Common.{[], ◌≡◌, Some, None, false, Option, refl, true, ℕ, is_some, sym, is_none, not, Bool, cond, ap, ◌∙◌, ◌&&◌, zero, suc, ◌<◌, List, ◌∷◌, arith, length, get_or, find, subst}
use Rattle.std.proofs.lemmas.Bool.{false≢true}
use Rattle.std.proofs.lemmas.Option.{same_Some}
use Rattle.std.specs.Option.{option_map}
use Rattle.std.specs.Prelude.{slice_get, IfSome}

pub some_not_none : {A : Type 0} (x : A) → Some x ≡ None → ⊥
some_not_none x h = cc

pub none_from_is_some : {X : Type 0} (o : Option X) → is_some o ≡ false → o ≡ None
none_from_is_some None h = refl
none_from_is_some (Some x) h = absurd (cc)

pub none_from_is_none : {A : Type 0} (o : Option A) → is_none o ≡ true → o ≡ None
none_from_is_none None h = refl
none_from_is_none (Some x) h = cc

pub none_is_it : {A : Type 0} (o : Option A) → is_some o ≡ false → None ≡ o
none_is_it None e = refl
none_is_it (Some x) e = absurd (false≢true (sym e))

pub some_from_is_none : {A : Type 0} (o : Option A) → is_none o ≡ false → is_some o ≡ true
some_from_is_none None e = absurd (false≢true (sym e))
some_from_is_none (Some b) e = refl

pub is_none_not_some : {A : Type 0} (o : Option A) → is_none o ≡ not (is_some o)
is_none_not_some None = refl
is_none_not_some (Some x) = refl

pub is_some_of_map : {A B : Type 0} (f : A → B) (o : Option A) → is_some (option_map f o) ≡ is_some o
is_some_of_map f None = refl
is_some_of_map f (Some x) = refl

pub cond_none : {A : Type 0} (b : Bool) (x : Option A) → x ≡ None → cond b None x ≡ None
cond_none true x e = refl
cond_none false x e = e

pub is_some_cond : {A : Type 0} (b : Bool) (o : Option A) → is_some (cond b None o) ≡ true → is_some o ≡ true
is_some_cond true o e = absurd (false≢true e)
is_some_cond false o e = e

pub cond_where_some : {A : Type 0} (b : Bool) (o : Option A) → (is_some o ≡ true → b ≡ true) → cond b o None ≡ o
cond_where_some true o h = refl
cond_where_some false None h = refl
cond_where_some false (Some x) h = absurd (false≢true (h refl))

pub cond_some_none : {A : Type 0} (b : Bool) (x : A) → None ≡ cond b (Some x) None → b ≡ false
cond_some_none true x h = cc
cond_some_none false x h = refl

pub same_in_some : {A : Type 0} (o : Option A) (a b : A) → o ≡ Some a → o ≡ Some b → a ≡ b
same_in_some o a b l r = same_Some a b (sym l ∙ r)

pub same_second : (p q : ℕ × ℕ) → Some p ≡ Some q → p.1 ≡ q.1
same_second p q e = let z : p ≡ q = cc in ap (λ (r : ℕ × ℕ). r.1) z

pub and_where_none : {A : Type 0} (o : Option A) (b h : Bool) → h ≡ is_some o → h ≡ false → b ≡ (is_none o && b)
and_where_none None b h e z = refl
and_where_none (Some x) b h e z = absurd (false≢true (sym z ∙ e))

pub and_where_some : {A : Type 0} (o : Option A) (b h : Bool) → h ≡ is_some o → h ≡ true → false ≡ (is_none o && b)
and_where_some None b h e z = absurd (false≢true (sym e ∙ z))
and_where_some (Some x) b h e z = refl

pub slice_get_at : {A : Type 0} (xs : List A) (i : ℕ) (v : A) → i < length xs → v ≡ get_or xs i v → slice_get xs i ≡ Some v
slice_get_at [] i v h e = absurd (let n : i < 0 = h in omega arith)
slice_get_at (x ∷ xs) zero v h e = ap (λ y. Some y) (sym e)
slice_get_at (x ∷ xs) (suc i) v h e = slice_get_at xs i v (omega arith) e

pub find_passes : {A : Type 0} (t : A → Bool) (xs : List A) (x : A) → find t xs ≡ Some x → t x ≡ true
find_passes {A} t [] x e = absurd (none e)
  where
    none : ◌≡◌ {A = Option A} None (Some x) → ⊥
    none e = cc
find_passes {A} t (y ∷ xs) x e = pick (t y) refl e (find_passes t xs x)
  where
    same : Some y ≡ Some x → y ≡ x
    same i = cc

    pick : (b : Bool) → t y ≡ b → cond b (Some y) (find t xs) ≡ Some x → (find t xs ≡ Some x → t x ≡ true) → t x ≡ true
    pick true i m r = subst (λ z. t z ≡ true) (same m) i
    pick false i m r = r m

pub if_some_weaker : {X : Type 0} (P Q : X → Type 0) (o : Option X) → ((x : X) → P x → Q x) → IfSome o P → IfSome o Q
if_some_weaker P Q None f h = tt
if_some_weaker P Q (Some x) f h = f x h
