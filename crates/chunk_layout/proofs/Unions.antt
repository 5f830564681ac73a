-- The union of boundaries cuts the same length.
use Rattle.std.proofs.Common.{◌≡◌, ℕ, ◌+◌, ◌-◌, ◌<◌, ◌≤◌, cond, List, [], ◌∷◌, refl, ap, sym, subst, arith, inl, inr}
use Rattle.std.specs.Prelude.{nat_eq, nat_lt}
use Rattle.std.proofs.lemmas.Bool.{cases_lt, cases_eq}
use Rattle.nd_shape.specs.Chunk.{total}
use Rattle.chunk_layout.specs.Unions.{Parted, part_more, parted, union}
use Rattle.nd_shape.proofs.Totals.{total-append}

record Halves (x : ℕ) (ys : List ℕ) (p : Parted) : Type 0 where
  front : total p.front ≡ x
  rest : x + total p.rest ≡ total ys

halves-more : (x y : ℕ) (ys : List ℕ) (more : Parted) → x ≤ y + total ys → (y < x → Halves (x - y) ys more) → Halves x (y ∷ ys) (part_more x y ys more)
halves-more x y ys more h r = elim (cases_lt y x) [
  | inl lt ↦ subst (Halves x (y ∷ ys)) (sym (past x y (record { front = y ∷ more.front; rest = more.rest }) _ lt))
      (let m = r lt in let a = m.front in let b = m.rest in record { front = omega arith; rest = omega arith })
  | inr ge ↦ subst (Halves x (y ∷ ys)) (sym (within x y _ (record { front = x ∷ []; rest = cond (nat_eq y x) ys ((y - x) ∷ ys) }) ge))
      (elim (cases_eq y x) [
        | inl e ↦ let t : cond (nat_eq y x) ys ((y - x) ∷ ys) ≡ ys = whole x y ys e in record { front = omega arith; rest = omega (arith, ap total t) }
        | inr d ↦ let t : cond (nat_eq y x) ys ((y - x) ∷ ys) ≡ (y - x) ∷ ys = part x y ys d in record { front = omega arith; rest = omega (arith, ap total t) }
      ])
]
  where
    past : (x y : ℕ) (p q : Parted) → y < x → cond (nat_lt y x) p q ≡ p
    past x y p q h = grind arith

    within : (x y : ℕ) (p q : Parted) → x ≤ y → cond (nat_lt y x) p q ≡ q
    within x y p q h = grind arith

    whole : (x y : ℕ) (ys : List ℕ) → y ≡ x → cond (nat_eq y x) ys ((y - x) ∷ ys) ≡ ys
    whole x y ys h = grind arith

    part : (x y : ℕ) (ys : List ℕ) → (y ≡ x → ⊥) → cond (nat_eq y x) ys ((y - x) ∷ ys) ≡ (y - x) ∷ ys
    part x y ys h = grind arith

halves : (x : ℕ) (ys : List ℕ) → x ≤ total ys → Halves x ys (parted x ys)
halves x [] h = record { front = omega arith; rest = omega arith }
halves x (y ∷ ys) h = halves-more x y ys (parted (x - y) ys) h (λ lt. halves (x - y) ys (omega arith))

pub total-union : (xs ys : List ℕ) → total xs ≡ total ys → total (union xs ys) ≡ total xs
total-union [] ys h = refl
total-union (x ∷ xs) ys h =
    let p = halves x ys (omega arith) in
    let f = p.front in
    let r = p.rest in
    omega (arith, total-append (parted x ys).front (union xs (parted x ys).rest), total-union xs (parted x ys).rest (omega arith))
