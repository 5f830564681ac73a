-- The pieces of a slice take of their chunks what the slice takes of the axis.
use Rattle.std.proofs.Common.{◌≡◌, ◌≢◌, ℕ, zero, suc, ◌+◌, ◌-◌, ◌<◌, ◌≤◌, List, [], ◌∷◌, length, map, take, get_or, refl, ap, sym, subst, ◌∙◌, arith, inl, inr, ℤ, pos, negsuc, ◌+ℤ◌, ◌*ℤ◌, ◌≤ℤ◌, ◌<ℤ◌}
use Rattle.std.specs.Prelude.{unsigned_abs}
use Rattle.std.specs.List.{range_with_len}
use Rattle.std.proofs.lemmas.Bool.{cases_eq}
use Rattle.std.proofs.lemmas.Int.{ints}
use Rattle.nd_shape.specs.declared.slice.Steps.{Steps}
use Rattle.nd_shape.specs.Slice.{StepsFitAxis, position, coordinate}
use Rattle.nd_shape.specs.Chunk.{total}
use Rattle.chunk_layout.specs.Layouts.{chunk_of}
use Rattle.chunk_layout.specs.Slices.{Run, with_number, runs, Taken, taken_from, or_nothing, taken_of, counts_taken}
use Rattle.chunk_layout.proofs.Parting.{in-chunk, InChunk}

-- ---- runs

abbrev pub counts_run : List Run → ℕ
counts_run [] = 0
counts_run (r ∷ rs) = r.count + counts_run rs

-- the values of a function from t on are these runs
abbrev AreRuns : (ℕ → ℕ) → ℕ → List Run → Type 0
AreRuns f t [] = Unit {0}
AreRuns f t (r ∷ rs) = ((i : ℕ) → i < r.count → f (t + i) ≡ r.number) × AreRuns f (t + r.count) rs

first-value : (f : ℕ → ℕ) (t c : ℕ) → f t ≡ c → (i : ℕ) → i < 1 → f (t + i) ≡ c
first-value f t c e zero h = let z : t + 0 ≡ t = omega arith in ap f z ∙ e
first-value f t c e (suc i) h = absurd (omega arith)

one-more : (f : ℕ → ℕ) (t c : ℕ) (r : Run) (rs : List Run) → f t ≡ c → AreRuns f (t + 1) (r ∷ rs) → AreRuns f t (with_number c (r ∷ rs)) × (counts_run (with_number c (r ∷ rs)) ≡ suc (counts_run (r ∷ rs)))
one-more f t c r rs e a = elim (cases_eq c r.number) [
  | inl s ↦ let w : with_number c (r ∷ rs) ≡ record { number = c; count = suc r.count } ∷ rs = same c r rs s in
      let z : t + 1 + r.count ≡ t + suc r.count = omega arith in
      (subst (AreRuns f t) (sym w) (longer s, subst (λ k. AreRuns f k rs) z a.1), ap counts_run w ∙ omega arith)
  | inr d ↦ let w : with_number c (r ∷ rs) ≡ record { number = c; count = 1 } ∷ r ∷ rs = other c r rs d in
      (subst (AreRuns f t) (sym w) (first-value f t c e, a), ap counts_run w ∙ omega arith)
]
  where
    same : (c : ℕ) (r : Run) (rs : List Run) → c ≡ r.number → with_number c (r ∷ rs) ≡ record { number = c; count = suc r.count } ∷ rs
    same c r rs h = grind arith

    other : (c : ℕ) (r : Run) (rs : List Run) → c ≢ r.number → with_number c (r ∷ rs) ≡ record { number = c; count = 1 } ∷ r ∷ rs
    other c r rs h = grind arith

    longer : c ≡ r.number → (i : ℕ) → i < suc r.count → f (t + i) ≡ c
    longer s zero h = let z : t + 0 ≡ t = omega arith in ap f z ∙ e
    longer s (suc i) h = let z : t + suc i ≡ t + 1 + i = omega arith in ap f z ∙ a.0 i (omega arith) ∙ sym s

more-runs : (f : ℕ → ℕ) (t c n : ℕ) (rs : List Run) → f t ≡ c → AreRuns f (t + 1) rs → counts_run rs ≡ n → AreRuns f t (with_number c rs) × (counts_run (with_number c rs) ≡ suc n)
more-runs f t c n [] e a h = ((first-value f t c e, tt), omega arith)
more-runs f t c n (r ∷ rs) e a h = let o = one-more f t c r rs e a in (o.0, o.1 ∙ ap suc h)

are-runs : (f : ℕ → ℕ) (t n : ℕ) → AreRuns f t (runs (map f (range_with_len t n))) × (counts_run (runs (map f (range_with_len t n))) ≡ n)
are-runs f t zero = (tt, refl)
are-runs f t (suc n) = let r = are-runs f (t + 1) n in more-runs f t (f t) n (runs (map f (range_with_len (t + 1) n))) refl r.0 r.1

-- ---- pieces

-- the piece takes of its chunk what the slice takes of the axis from its place t on
pub record PieceFits (sizes : List ℕ) (s : Steps) (t : ℕ) (p : Taken) : Type 0 where
  pub there : p.chunk < length sizes
  pub inside : (i : ℕ) → i < p.steps.count → coordinate p.steps i < get_or sizes p.chunk 0
  pub same : (i : ℕ) → i < p.steps.count → coordinate s (t + i) ≡ total (take p.chunk sizes) + coordinate p.steps i

abbrev pub PiecesFit : List ℕ → Steps → ℕ → List Taken → Type 0
PiecesFit sizes s t [] = Unit {0}
PiecesFit sizes s t (p ∷ ps) = PieceFits sizes s t p × PiecesFit sizes s (t + p.steps.count) ps

pub spread : (a step : ℤ) (t i : ℕ) → a +ℤ (step *ℤ pos (t + i)) ≡ a +ℤ (step *ℤ pos t) +ℤ (step *ℤ pos i)
spread a step t i = omega (arith, ints)

pub abs-of : (z : ℤ) → pos 0 ≤ℤ z → pos (unsigned_abs z) ≡ z
abs-of (pos n) h = refl
abs-of (negsuc n) h = absurd (omega (arith, ints, h))

pub below-abs : (z : ℤ) (n : ℕ) → pos 0 ≤ℤ z → z <ℤ pos n → unsigned_abs z < n
below-abs z n low high = let e : pos (unsigned_abs z) ≡ z = abs-of z low in omega (arith, ints, high)

counted-from : (a b l : ℕ) (d : ℤ) → pos b ≡ pos a +ℤ d → l ≤ a → l ≤ b → pos (a - l) +ℤ d ≡ pos (b - l)
counted-from a b l d e h g = omega (arith, ints)

piece-at : (sizes : List ℕ) (s : Steps) (t n : ℕ) → StepsFitAxis s (total sizes) → t + n ≤ s.count → 0 < n → ((i : ℕ) → i < n → chunk_of sizes (coordinate s (t + i)) ≡ chunk_of sizes (coordinate s t))
    → PieceFits sizes s t (record { chunk = chunk_of sizes (coordinate s t); steps = record { start = coordinate s t - total (take (chunk_of sizes (coordinate s t)) sizes); step = s.step; count = n } })
piece-at sizes s t n f h some run =
    let c = chunk_of sizes (coordinate s t) in
    let low = total (take c sizes) in
    let at : (i : ℕ) → i < n → InChunk sizes (coordinate s (t + i)) c = λ i lt.
    subst (InChunk sizes (coordinate s (t + i))) (run i lt) (in-chunk sizes (coordinate s (t + i)) (below-abs (position s (t + i)) (total sizes) (f.low (t + i) (omega arith)) (f.high (t + i) (omega arith)))) in
    let z : t + 0 ≡ t = omega arith in
    let here : InChunk sizes (coordinate s t) c = subst (λ k. InChunk sizes (coordinate s k) c) z (at 0 some) in
    let own : (i : ℕ) → i < n → unsigned_abs (pos (coordinate s t - low) +ℤ (s.step *ℤ pos i)) ≡ coordinate s (t + i) - low = λ i lt.
    let a0 : pos (coordinate s t) ≡ position s t = abs-of (position s t) (f.low t (omega arith)) in
    let b0 : pos (coordinate s (t + i)) ≡ position s (t + i) = abs-of (position s (t + i)) (f.low (t + i) (omega arith)) in
    let e : pos (coordinate s (t + i)) ≡ pos (coordinate s t) +ℤ (s.step *ℤ pos i) = b0 ∙ spread (pos s.start) s.step t i ∙ ap (λ x. x +ℤ (s.step *ℤ pos i)) (sym a0) in
    ap unsigned_abs (counted-from (coordinate s t) (coordinate s (t + i)) low (s.step *ℤ pos i) e here.low (at i lt).low) in
    record {
      there = here.there;
      inside = λ i lt. let o = own i lt in let a = at i lt in let l = a.low in let u = a.high in omega (arith, o, l, u);
      same = λ i lt. let o = own i lt in let a = at i lt in let l = a.low in omega (arith, o, l);
    }

-- no run is empty
abbrev pub AllSome : List Run → Type 0
AllSome [] = Unit {0}
AllSome (r ∷ rs) = (0 < r.count) × AllSome rs

some-more : (c : ℕ) (rs : List Run) → AllSome rs → AllSome (with_number c rs)
some-more c [] a = (omega arith, tt)
some-more c (r ∷ rs) a = elim (cases_eq c r.number) [
  | inl s ↦ subst AllSome (sym (same c r rs s)) (omega arith, a.1)
  | inr d ↦ subst AllSome (sym (other c r rs d)) (omega arith, a)
]
  where
    same : (c : ℕ) (r : Run) (rs : List Run) → c ≡ r.number → with_number c (r ∷ rs) ≡ record { number = c; count = suc r.count } ∷ rs
    same c r rs h = grind arith

    other : (c : ℕ) (r : Run) (rs : List Run) → c ≢ r.number → with_number c (r ∷ rs) ≡ record { number = c; count = 1 } ∷ r ∷ rs
    other c r rs h = grind arith

pub some-runs : (cs : List ℕ) → AllSome (runs cs)
some-runs [] = tt
some-runs (c ∷ cs) = some-more c (runs cs) (some-runs cs)

pieces-from : (sizes : List ℕ) (s : Steps) (t : ℕ) (rs : List Run) → StepsFitAxis s (total sizes) → AreRuns (λ t. chunk_of sizes (coordinate s t)) t rs → AllSome rs → t + counts_run rs ≤ s.count → PiecesFit sizes s t (taken_from sizes s t rs)
pieces-from sizes s t [] f a p h = tt
pieces-from sizes s t (r ∷ rs) f a p h =
    let z : t + 0 ≡ t = omega arith in
    let first : chunk_of sizes (coordinate s t) ≡ r.number = ap (λ k. chunk_of sizes (coordinate s k)) (sym z) ∙ a.0 0 p.0 in (
      subst (λ c. PieceFits sizes s t (record { chunk = c; steps = record { start = coordinate s t - total (take c sizes); step = s.step; count = r.count } })) first
          (piece-at sizes s t r.count f (omega arith) p.0 (λ i lt. a.0 i lt ∙ sym first)),
      pieces-from sizes s (t + r.count) rs f a.1 p.1 (omega arith),
    )

counts-from : (sizes : List ℕ) (s : Steps) (t : ℕ) (rs : List Run) → total (counts_taken (taken_from sizes s t rs)) ≡ counts_run rs
counts-from sizes s t [] = refl
counts-from sizes s t (r ∷ rs) = ap (λ n. r.count + n) (counts-from sizes s (t + r.count) rs)

-- chunk 0 is there, of which nothing is taken
nothing-fits : (sizes : List ℕ) (s : Steps) (ps : List Taken) → 0 < length sizes → PiecesFit sizes s 0 ps → PiecesFit sizes s 0 (or_nothing s ps)
nothing-fits sizes s [] some f = (record { there = some; inside = λ i lt. absurd (omega arith); same = λ i lt. absurd (omega arith) }, tt)
nothing-fits sizes s (p ∷ ps) some f = f

counts-nothing : (s : Steps) (ps : List Taken) → total (counts_taken (or_nothing s ps)) ≡ total (counts_taken ps)
counts-nothing s [] = omega arith
counts-nothing s (p ∷ ps) = refl

-- the pieces of an axis fit it, and cut the slice's length
pub pieces-fit : (sizes : List ℕ) (s : Steps) → StepsFitAxis s (total sizes) → 0 < length sizes → PiecesFit sizes s 0 (taken_of sizes s)
pieces-fit sizes s f some =
    let chunk : ℕ → ℕ = λ t. chunk_of sizes (coordinate s t) in
    let r = are-runs chunk 0 s.count in
    nothing-fits sizes s (taken_from sizes s 0 (runs (map chunk (range_with_len 0 s.count)))) some
    (pieces-from sizes s 0 (runs (map chunk (range_with_len 0 s.count))) f r.0 (some-runs (map chunk (range_with_len 0 s.count))) (omega (arith, r.1)))

pub counts-pieces : (sizes : List ℕ) (s : Steps) → total (counts_taken (taken_of sizes s)) ≡ s.count
counts-pieces sizes s =
    let chunk : ℕ → ℕ = λ t. chunk_of sizes (coordinate s t) in
    counts-nothing s (taken_from sizes s 0 (runs (map chunk (range_with_len 0 s.count))))
    ∙ counts-from sizes s 0 (runs (map chunk (range_with_len 0 s.count))) ∙ (are-runs chunk 0 s.count).1

-- the piece with a number begins where those before it end
pub piece-number : (sizes : List ℕ) (s : Steps) (t : ℕ) (ps : List Taken) (b : ℕ) (d : Taken) → PiecesFit sizes s t ps → b < length ps → PieceFits sizes s (t + total (take b (counts_taken ps))) (get_or ps b d)
piece-number sizes s t [] b d f h = absurd (omega arith)
piece-number sizes s t (p ∷ ps) zero d f h = let z : t + 0 ≡ t = omega arith in subst (λ k. PieceFits sizes s k p) (sym z) f.0
piece-number sizes s t (p ∷ ps) (suc b) d f h =
    let z : t + p.steps.count + total (take b (counts_taken ps)) ≡ t + (p.steps.count + total (take b (counts_taken ps))) = omega arith in
    subst (λ k. PieceFits sizes s k (get_or ps b d)) z (piece-number sizes s (t + p.steps.count) ps b d f.1 (omega arith))
