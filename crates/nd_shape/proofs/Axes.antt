-- Indexes and regions, axis by axis.
use Rattle.std.proofs.Common.{◌≡◌, ℕ, zero, suc, ◌*◌, ◌^◌, ◌<◌, ◌≤◌, List, [], ◌∷◌, length, get_or, arith}
use Rattle.std.specs.Prelude.{All}
use Rattle.std.proofs.Math.Nat.{mul-le-mul_left}
use Rattle.std.proofs.lemmas.List.Elements.{All-from_get_or}
use Rattle.nd_shape.specs.Shape.{elements, IsShape}
use Rattle.nd_shape.specs.Index.{IsIn}
use Rattle.nd_shape.specs.Region.{Box, IsPart}

pub IsIn-at : (ns is : List ℕ) (k : ℕ) → IsIn ns is → k < length ns → get_or is k 0 < get_or ns k 0
IsIn-at [] is k h b = absurd (omega arith)
IsIn-at (n ∷ ns) [] k h b = absurd h
IsIn-at (n ∷ ns) (i ∷ is) zero h b = h.0
IsIn-at (n ∷ ns) (i ∷ is) (suc k) h b = IsIn-at ns is k h.1 (omega arith)

pub IsIn-from : (ns is : List ℕ) → length is ≡ length ns → ((k : ℕ) → k < length ns → get_or is k 0 < get_or ns k 0) → IsIn ns is
IsIn-from [] [] e h = tt
IsIn-from [] (i ∷ is) e h = absurd (omega arith)
IsIn-from (n ∷ ns) [] e h = absurd (omega arith)
IsIn-from (n ∷ ns) (i ∷ is) e h = (h 0 (omega arith), IsIn-from ns is (omega arith) (λ k b. h (suc k) (omega arith)))

-- ---- the shape of a region

product-le : (a b c d : ℕ) → a ≤ b → c ≤ d → a * c ≤ b * d
product-le a b c d h k = omega (arith, mul-le-mul_left a k, mul-le-mul_left d h)

elements-le : (xs ys : List ℕ) → length xs ≡ length ys → ((k : ℕ) → k < length xs → get_or xs k 0 ≤ get_or ys k 0) → elements xs ≤ elements ys
elements-le [] [] e h = omega arith
elements-le [] (y ∷ ys) e h = absurd (omega arith)
elements-le (x ∷ xs) [] e h = absurd (omega arith)
elements-le (x ∷ xs) (y ∷ ys) e h = product-le x y (elements xs) (elements ys) (h 0 (omega arith)) (elements-le xs ys (omega arith) (λ k b. h (suc k) (omega arith)))

pub part-shape : (box : Box) (dims : List ℕ) → IsPart box dims → IsShape dims → IsShape box.lengths
part-shape box dims p s =
    let below : (k : ℕ) → k < length box.lengths → get_or box.lengths k 0 ≤ get_or dims k 0 = λ k b. omega (arith, p.ends k (omega (arith, p.lengths))) in
    record {
      axes = omega (arith, p.lengths, s.axes);
      lengths = All-from_get_or (λ n. n ≤ 2 ^ 31) box.lengths 0 (λ k b. omega (arith, below k b, s.lengths k 0 (omega (arith, p.lengths))));
      product = omega (arith, elements-le box.lengths dims p.lengths below, s.product);
    }
