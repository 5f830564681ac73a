-- Totals over all views, and weights of histories.
use Rattle.std.proofs.Common.{◌≡◌, ◌≢◌, ℕ, zero, suc, ◌+◌, ◌≤◌, List, [], ◌∷◌, ◌++◌, set, sym, refl, ap, ◌∙◌, subst, ⊎_elim, append_assoc, arith}
use mathlib.Core.Option.{some, some-injective, some-ne-none}
use lib.ListN.{get_elem?}
use Rattle.atomic_table.proofs.Lists.{at_set}
use Rattle.cluster_msgs.specs.declared.events.Entry.{Entry}
use Rattle.turn_cell.specs.Histories.{StartsWith, weigh, Replays}
use Rattle.turn_cell.specs.Turns.{total_of}

module _ {V : Type 0} where
  pub total_set : (f : V → ℕ) (views : List V) (id : ℕ) (v w : V) → get_elem? views id ≡ some v → total_of f (set views id w) + f v ≡ total_of f views + f w
  total_set f [] id v w e = absurd (some-ne-none v (sym e))
  total_set f (x ∷ xs) zero v w e = let s : f x ≡ f v = ap f (some-injective x v e) in omega arith
  total_set f (x ∷ xs) (suc id) v w e = let r = total_set f xs id v w e in omega arith

  pub total_snoc : (f : V → ℕ) (views : List V) (w : V) → total_of f (views ++ w ∷ []) ≡ total_of f views + f w
  total_snoc f [] w = omega arith
  total_snoc f (x ∷ xs) w = let r = total_snoc f xs w in omega arith

  -- a view that has all of the total leaves nothing to the others
  pub total_at : (f : V → ℕ) (views : List V) (id : ℕ) (v : V) → get_elem? views id ≡ some v → f v ≤ total_of f views
  total_at f [] id v e = absurd (some-ne-none v (sym e))
  total_at f (x ∷ xs) zero v e = let s : f x ≡ f v = ap f (some-injective x v e) in omega arith
  total_at f (x ∷ xs) (suc id) v e = let r = total_at f xs id v e in omega arith

  pub two_at : (f : V → ℕ) (views : List V) (i j : ℕ) (v w : V) → get_elem? views i ≡ some v → get_elem? views j ≡ some w → j ≢ i → f v + f w ≤ total_of f views
  two_at f [] i j v w e d n = absurd (some-ne-none v (sym e))
  two_at f (x ∷ xs) zero zero v w e d n = absurd (n refl)
  two_at f (x ∷ xs) zero (suc j) v w e d n = let s : f x ≡ f v = ap f (some-injective x v e) in let r = total_at f xs j w d in omega arith
  two_at f (x ∷ xs) (suc i) zero v w e d n = let s : f x ≡ f w = ap f (some-injective x w d) in let r = total_at f xs i v e in omega arith
  two_at f (x ∷ xs) (suc i) (suc j) v w e d n = let r = two_at f xs i j v w e d (λ q. n (ap suc q)) in omega arith

  none_left : (f : V → ℕ) (views : List V) → ((j : ℕ) (u : V) → get_elem? views j ≡ some u → f u ≡ 0) → total_of f views ≡ 0
  none_left f [] z = refl
  none_left f (x ∷ xs) z = let a = z 0 x refl in let r = none_left f xs (λ j u e. z (suc j) u e) in omega arith

  -- where the others have nothing, the total is what this one has
  pub total_alone : (f : V → ℕ) (views : List V) (id : ℕ) (v : V) → get_elem? views id ≡ some v → ((j : ℕ) (u : V) → j ≢ id → get_elem? views j ≡ some u → f u ≡ 0) → total_of f views ≡ f v
  total_alone f [] id v e z = absurd (some-ne-none v (sym e))
  total_alone f (x ∷ xs) zero v e z = let s : f x ≡ f v = ap f (some-injective x v e) in let r = none_left f xs (λ j u d. z (suc j) u (λ q. omega arith) d) in omega arith
  total_alone f (x ∷ xs) (suc id) v e z = let a = z 0 x (λ q. omega arith) refl in let r = total_alone f xs id v e (λ j u n d. z (suc j) u (λ q. n (omega arith)) d) in omega arith

  pub all_one : (F : ℕ → V → Type 0) (w : V) → F 0 w → (j : ℕ) (u : V) → get_elem? (w ∷ []) j ≡ some u → F j u
  all_one F w f zero u e = subst (F 0) (some-injective w u e) f
  all_one F w f (suc j) u e = absurd (some-ne-none u (sym e))

  pub all_set : (F : ℕ → V → Type 0) (views : List V) (id : ℕ) (w : V) → F id w → ((j : ℕ) (u : V) → j ≢ id → get_elem? views j ≡ some u → F j u)
      → (j : ℕ) (u : V) → get_elem? (set views id w) j ≡ some u → F j u
  all_set F views id w mine others j u e = ⊎_elim (λ (x : (j ≡ id) × (w ≡ u)). subst (λ (y : ℕ × V). F y.0 y.1) (λ i. (sym x.0 i, x.1 i)) mine)
      (λ (x : (j ≢ id) × (get_elem? views j ≡ some u)). others j u x.0 x.1) (at_set views id j w u e)

pub weigh-append : (h : Entry → ℕ) (xs ys : List Entry) → weigh h (xs ++ ys) ≡ weigh h xs + weigh h ys
weigh-append h [] ys = omega arith
weigh-append h (x ∷ xs) ys = let r = weigh-append h xs ys in omega arith

pub starts_longer : (log seen : List Entry) (e : Entry) → StartsWith log seen → StartsWith (log ++ e ∷ []) seen
starts_longer log seen e s = (s.0 ++ e ∷ [], ap (λ xs. xs ++ e ∷ []) s.1 ∙ append_assoc seen s.0 (e ∷ []))

-- what weighs nothing in the longer list weighs nothing in its beginning
pub starts_light : (h : Entry → ℕ) (log seen : List Entry) → StartsWith log seen → weigh h log ≡ 0 → weigh h seen ≡ 0
starts_light h log seen s z = let a = weigh-append h seen s.0 in let b = ap (weigh h) s.1 in omega arith

module _ {C : Type 0} (steps : C → Entry → C → Type 0) where
  pub replays_snoc : (c : C) (es : List Entry) (d : C) (e : Entry) (m : C) → Replays steps c es d → steps d e m → Replays steps c (es ++ e ∷ []) m
  replays_snoc c [] d e m r s = (m, subst (λ (x : C). steps x e m) (sym r) s, refl)
  replays_snoc c (x ∷ xs) d e m r s = (r.0, r.1, replays_snoc r.0 xs d e m r.2 s)
