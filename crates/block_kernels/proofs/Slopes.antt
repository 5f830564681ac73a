-- Rows along the last axis, and what rises along them.
use Rattle.std.proofs.Common.{◌≡◌, ℕ, zero, suc, ◌+◌, ◌-◌, ◌*◌, ◌/◌, ◌<◌, List, [], ◌∷◌, ◌++◌, length, take, drop, refl, ap, sym, ◌∙◌, arith, ℤ, pos, ◌+ℤ◌, ◌*ℤ◌, w64}
use Rattle.std.proofs.lemmas.Nat.{div-mul-add}
use Rattle.std.proofs.lemmas.Int.{ints, int_wrap-add_left}
use Rattle.std.proofs.lemmas.List.{length-drop, length-take-le, take-append-drop}
use Rattle.nd_shape.specs.Shape.{elements}
use Rattle.nd_shape.specs.Index.{place, index_at}
use Rattle.nd_shape.specs.Region.{moved}
use Rattle.nd_grid.specs.Int64.{wrap}
use Rattle.block_kernels.specs.Rows.{row_count, row_length}
use Rattle.block_kernels.proofs.Broadcasts.{index_at-append, length-index_at}

one-length : (xs : List ℕ) → length xs ≡ 1 → (x : ℕ) × (xs ≡ x ∷ [])
one-length [] e = absurd (omega arith)
one-length (x ∷ []) e = (x, refl)
one-length (x ∷ y ∷ xs) e = absurd (omega arith)

by-one : (r : ℕ) → r / 1 ≡ r
by-one r = ap (λ k. k / 1) (omega arith) ∙ div-mul-add r 1 0 (omega arith)

-- along the last axis the last coordinate is the number in the row
pub last-index : (bs : List ℕ) (k q r : ℕ) → 0 < length bs → k ≡ length bs - 1 → q < row_count bs k → r < row_length bs k → index_at bs (q * row_length bs k + r) ≡ index_at (take k bs) q ++ r ∷ []
last-index bs k q r some hk hq hr =
    let one : length (drop k bs) ≡ 1 = omega (arith, length-drop k bs) in
    let l = one-length (drop k bs) one in
    let last : index_at (drop k bs) r ≡ r ∷ [] = ap (λ ns. index_at ns r) l.1 ∙ ap (λ i. i ∷ []) (by-one r) in
    ap (λ ns. index_at ns (q * row_length bs k + r)) (sym (take-append-drop k bs))
    ∙ index_at-append (take k bs) (drop k bs) q r hq hr
    ∙ ap (λ is. index_at (take k bs) q ++ is) last

moved-last : (ws ss is : List ℕ) (r : ℕ) → length ws ≡ suc (length is) → length ss ≡ suc (length is) → place ws (moved ss (is ++ r ∷ [])) ≡ place ws (moved ss (is ++ 0 ∷ [])) + r
moved-last [] ss is r e f = absurd (omega arith)
moved-last (w ∷ ws) [] is r e f = absurd (omega arith)
moved-last (w ∷ []) (s ∷ []) [] r e f = omega arith
moved-last (w ∷ v ∷ ws) (s ∷ ss) [] r e f = absurd (omega arith)
moved-last (w ∷ []) (s ∷ t ∷ ss) [] r e f = absurd (omega arith)
moved-last (w ∷ ws) (s ∷ ss) (i ∷ is) r e f = ap (λ k. (s + i) * elements ws + k) (moved-last ws ss is r (omega arith) (omega arith)) ∙ omega arith

pub moved-row : (ws ss bs : List ℕ) (k q r : ℕ) → length ws ≡ length bs → length ss ≡ length bs → k ≡ length bs - 1 → q < row_count bs k → r < row_length bs k
    → place ws (moved ss (index_at bs (q * row_length bs k + r))) ≡ place ws (moved ss (index_at bs (q * row_length bs k))) + r
moved-row ws ss [] k q r ew es hk hq hr =
    let z : r ≡ 0 = nothing k r hr in ap (λ j. place ws (moved ss (index_at [] (q * row_length [] k + j)))) z ∙ ap (λ p. place ws (moved ss p)) refl ∙ rw z (omega arith)
  where
    nothing : (k r : ℕ) → r < row_length [] k → r ≡ 0
    nothing zero r h = omega arith
    nothing (suc k) r h = omega arith
moved-row ws ss (b ∷ bs) k q r ew es hk hq hr =
    let zero-in : 0 < row_length (b ∷ bs) k = omega arith in
    let some : 0 < length (b ∷ bs) = omega arith in
    let few : length (take k (b ∷ bs)) ≡ k = length-take-le k (b ∷ bs) (omega arith) in
    let z : q * row_length (b ∷ bs) k + 0 ≡ q * row_length (b ∷ bs) k = omega arith in
    let li : length (index_at (take k (b ∷ bs)) q) ≡ k = length-index_at (take k (b ∷ bs)) q ∙ few in
    ap (λ is. place ws (moved ss is)) (last-index (b ∷ bs) k q r some hk hq hr)
    ∙ moved-last ws ss (index_at (take k (b ∷ bs)) q) r (omega (arith, li)) (omega (arith, li))
    ∙ ap (λ is. place ws (moved ss is) + r) (sym (last-index (b ∷ bs) k q 0 some hk hq zero-in))
    ∙ ap (λ p. place ws (moved ss (index_at (b ∷ bs) p)) + r) z

-- ---- values

pub slope-more : (a s : ℤ) (i : ℕ) → wrap (wrap (a +ℤ (s *ℤ pos i)) +ℤ s) ≡ wrap (a +ℤ (s *ℤ pos (i + 1)))
slope-more a s i = int_wrap-add_left w64 (a +ℤ (s *ℤ pos i)) s ∙ ap wrap (omega (arith, ints))

pub slope-from : (a s : ℤ) (p i : ℕ) → wrap (wrap (a +ℤ (s *ℤ pos p)) +ℤ (s *ℤ pos i)) ≡ wrap (a +ℤ (s *ℤ pos (p + i)))
slope-from a s p i = int_wrap-add_left w64 (a +ℤ (s *ℤ pos p)) (s *ℤ pos i) ∙ ap wrap (omega (arith, ints))
