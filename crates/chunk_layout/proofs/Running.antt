-- The pieces of a slice, run by run.
use Rattle.std.proofs.Common.{◌≡◌, ◌≢◌, ℕ, zero, suc, ◌+◌, ◌-◌, ◌*◌, ◌/◌, ◌<◌, ◌≤◌, ◌^◌, min, List, [], ◌∷◌, ◌++◌, append_assoc, append-nil, length, get_or, map, take, drop, refl, ap, sym, subst, ◌∙◌, arith, inl, inr, ℤ, pos, negsuc, ◌+ℤ◌, ◌*ℤ◌, Some}
use Rattle.std.specs.Prelude.{unsigned_abs, ◌⊎◌}
use Rattle.std.specs.List.{range_with_len}
use Rattle.std.proofs.Math.Nat.{mul-div-le, lt-div-mul-add, mul-le-mul_left, mul-le-mul}
use Rattle.std.proofs.lemmas.List.{drop_more, take_more, map_push, get_or-map, length-map}
use Rattle.std.proofs.lemmas.Bool.{cases_eq}
use Rattle.std.proofs.lemmas.Int.{ints}
use Rattle.std.proofs.lemmas.Option.{slice_get-get_or}
use Rattle.nd_shape.specs.declared.slice.Steps.{Steps}
use Rattle.nd_shape.specs.Shape.{IsShape, elements}
use Rattle.nd_shape.specs.Slice.{StepsFitAxis, position, coordinate}
use Rattle.nd_shape.specs.Chunk.{total}
use Rattle.nd_shape.proofs.Totals.{total-more, total-ge}
use Rattle.chunk_layout.specs.Layouts.{chunk_of, lengths}
use Rattle.chunk_layout.specs.Cuts.{AllSome, IsCut, AllCut, IsLayout, AreStarts}
use Rattle.chunk_layout.specs.Slices.{Run, with_number, runs, Taken, taken_from, or_nothing, taken_of, counts_taken, slice_layout}
use Rattle.chunk_layout.specs.Slicing.{TakesOf, TakesAll, IsRun, room_ahead}
use Rattle.chunk_layout.proofs.Parting.{in-chunk, InChunk, chunk_of-at}
use Rattle.chunk_layout.proofs.Slicings.{spread, abs-of, below-abs, counts-pieces, some-runs, AllSome as AllRuns}
use Rattle.chunk_layout.proofs.Merging.{has-some}
use Rattle.chunk_layout.proofs.Cutting.{all_cut-push}

-- ---- equal numbers that stand one behind the other

with-same : (c n : ℕ) (rs : List Run) → with_number c (record { number = c; count = n } ∷ rs) ≡ record { number = c; count = suc n } ∷ rs
with-same c n rs = grind arith

with-other : (c : ℕ) (r : Run) (rs : List Run) → c ≢ r.number → with_number c (r ∷ rs) ≡ record { number = c; count = 1 } ∷ r ∷ rs
with-other c r rs h = grind arith

record Begins (c : ℕ) (rs : List Run) : Type 0 where
  first : Run
  rest : List Run
  is : rs ≡ first ∷ rest
  number_is : first.number ≡ c

begins : (c : ℕ) (rs : List Run) → Begins c (with_number c rs)
begins c [] = record { first = record { number = c; count = 1 }; rest = []; is = refl; number_is = refl }
begins c (r ∷ rs) = elim (cases_eq c r.number) [
  | inl e ↦ record { first = record { number = c; count = suc r.count }; rest = rs; is = same c r rs e; number_is = refl }
  | inr d ↦ record { first = record { number = c; count = 1 }; rest = r ∷ rs; is = with-other c r rs d; number_is = refl }
]
  where
    same : (c : ℕ) (r : Run) (rs : List Run) → c ≡ r.number → with_number c (r ∷ rs) ≡ record { number = c; count = suc r.count } ∷ rs
    same c r rs h = grind arith

single : (c d : ℕ) (rs : List Run) → c ≢ d → with_number c (with_number d rs) ≡ record { number = c; count = 1 } ∷ with_number d rs
single c d rs h =
    let b = begins d rs in
    let n : c ≢ b.first.number = λ e. h (e ∙ b.number_is) in
    ap (with_number c) b.is ∙ with-other c b.first b.rest n ∙ ap (λ (xs : List Run). record { number = c; count = 1 } ∷ xs) (sym b.is)

-- a run, and what comes behind it
first-run : (f : ℕ → ℕ) (t c n k : ℕ) → ((i : ℕ) → i < suc n → f (t + i) ≡ c) → (0 < k → f (t + suc n) ≢ c)
    → runs (map f (range_with_len t (suc n + k))) ≡ record { number = c; count = suc n } ∷ runs (map f (range_with_len (t + suc n) k))
first-run f t c zero zero same next =
    let z : t + 0 ≡ t = omega arith in
    let e : f t ≡ c = ap f (sym z) ∙ same 0 (omega arith) in
    ap (λ (x : ℕ). record { number = x; count = 1 } ∷ []) e
first-run f t c zero (suc k) same next =
    let z : t + 0 ≡ t = omega arith in
    let e : f t ≡ c = ap f (sym z) ∙ same 0 (omega arith) in
    let o : suc zero + suc k ≡ suc (suc k) = omega arith in
    let d : c ≢ f (t + 1) = λ q. next (omega arith) (sym q) in
    ap (λ (m : ℕ). runs (map f (range_with_len t m))) o
    ∙ ap (λ (x : ℕ). with_number x (runs (map f (range_with_len (t + 1) (suc k))))) e
    ∙ single c (f (t + 1)) (runs (map f (range_with_len (t + 1 + 1) k))) d
first-run f t c (suc n) k same next =
    let z : t + 0 ≡ t = omega arith in
    let e : f t ≡ c = ap f (sym z) ∙ same 0 (omega arith) in
    let o : suc (suc n) + k ≡ suc (suc n + k) = omega arith in
    let m : t + 1 + suc n ≡ t + suc (suc n) = omega arith in
    let r = first-run f (t + 1) c n k (λ i lt. let w : t + 1 + i ≡ t + suc i = omega arith in ap f w ∙ same (suc i) (omega arith)) (λ p q. next p (ap f (sym m) ∙ q)) in
    ap (λ (m : ℕ). runs (map f (range_with_len t m))) o
    ∙ ap (λ (x : ℕ). with_number x (runs (map f (range_with_len (t + 1) (suc n + k))))) e
    ∙ ap (with_number c) r
    ∙ with-same c (suc n) (runs (map f (range_with_len (t + 1 + suc n) k)))
    ∙ ap (λ (x : ℕ). record { number = c; count = suc (suc n) } ∷ runs (map f (range_with_len x k))) m

-- ---- one piece more

abbrev pub left_from : List ℕ → Steps → ℕ → List Taken
left_from sizes s t = taken_from sizes s t (runs (map (λ t. chunk_of sizes (coordinate s t)) (range_with_len t (s.count - t))))

pub taken-more : (sizes : List ℕ) (s : Steps) (t : ℕ) (p : Taken) (list res : List Taken) → IsRun sizes s t p → list ++ left_from sizes s t ≡ res → (list ++ p ∷ []) ++ left_from sizes s (t + p.steps.count) ≡ res
taken-more sizes s t p list res r e =
    let f : ℕ → ℕ = λ t. chunk_of sizes (coordinate s t) in
    let n = p.steps.count - 1 in
    let some : 0 < p.steps.count = r.some in
    let within : t + p.steps.count ≤ s.count = r.within in
    let en : p.steps.count ≡ suc n = omega arith in
    let k = s.count - (t + p.steps.count) in
    let ek : s.count - t ≡ suc n + k = omega arith in
    let run : runs (map f (range_with_len t (suc n + k))) ≡ record { number = p.chunk; count = suc n } ∷ runs (map f (range_with_len (t + suc n) k)) =
    first-run f t p.chunk n k (λ i lt. r.same i (omega arith)) (λ h q. r.next (omega arith) (ap (λ (x : ℕ). f (t + x)) en ∙ q)) in
    let whole : left_from sizes s t ≡ taken_from sizes s t (record { number = p.chunk; count = p.steps.count } ∷ runs (map f (range_with_len (t + p.steps.count) k))) =
    ap (λ (m : ℕ). taken_from sizes s t (runs (map f (range_with_len t m)))) ek ∙ ap (taken_from sizes s t) run
    ∙ ap (λ (m : ℕ). taken_from sizes s t (record { number = p.chunk; count = m } ∷ runs (map f (range_with_len (t + m) k)))) (sym en) in
    let a = sym r.start_is in
    let b = sym r.step_is in
    let rest : List Taken = left_from sizes s (t + p.steps.count) in
    let head : taken_from sizes s t (record { number = p.chunk; count = p.steps.count } ∷ runs (map f (range_with_len (t + p.steps.count) k))) ≡ p ∷ rest =
    λ i. record { chunk = p.chunk; steps = record { start = a i; step = b i; count = p.steps.count } } ∷ rest in
    append_assoc list (p ∷ []) rest ∙ ap (λ (ts : List Taken). list ++ ts) (sym (whole ∙ head)) ∙ e

-- where the slice ends
pub taken-end : (sizes : List ℕ) (s : Steps) (t : ℕ) (list : List Taken) → s.count ≤ t → 0 < s.count → list ++ left_from sizes s t ≡ left_from sizes s 0 → list ≡ taken_of sizes s
taken-end sizes s t list h p e =
    let z : s.count - t ≡ 0 = omega arith in
    let f : ℕ → ℕ = λ t. chunk_of sizes (coordinate s t) in
    let n : left_from sizes s t ≡ [] = ap (λ (m : ℕ). taken_from sizes s t (runs (map f (range_with_len t m)))) z in
    let n0 : s.count - 0 ≡ s.count = omega arith in
    let m = s.count - 1 in
    let em : s.count ≡ suc m = omega arith in
    let all : left_from sizes s 0 ≡ taken_from sizes s 0 (runs (map f (range_with_len 0 s.count))) = ap (λ (m : ℕ). taken_from sizes s 0 (runs (map f (range_with_len 0 m)))) n0 in
    sym (append-nil list) ∙ ap (λ (ts : List Taken). list ++ ts) (sym n) ∙ e ∙ all
    ∙ ap (λ (m : ℕ). taken_from sizes s 0 (runs (map f (range_with_len 0 m)))) em
    ∙ something sizes s (f 0) (runs (map f (range_with_len (0 + 1) m)))
    ∙ ap (λ (m : ℕ). or_nothing s (taken_from sizes s 0 (runs (map f (range_with_len 0 m))))) (sym em)
  where
    something : (sizes : List ℕ) (s : Steps) (c : ℕ) (rs : List Run) → taken_from sizes s 0 (with_number c rs) ≡ or_nothing s (taken_from sizes s 0 (with_number c rs))
    something sizes s c rs =
        let b = begins c rs in
        ap (taken_from sizes s 0) b.is ∙ sym (ap (λ (rs : List Run). or_nothing s (taken_from sizes s 0 rs)) b.is)

pub taken-none : (sizes : List ℕ) (s : Steps) → s.count ≡ 0 → record { chunk = 0; steps = record { start = 0; step = s.step; count = 0 } } ∷ [] ≡ taken_of sizes s
taken-none sizes s z =
    sym (ap (λ (m : ℕ). or_nothing s (taken_from sizes s 0 (runs (map (λ t. chunk_of sizes (coordinate s t)) (range_with_len 0 m))))) z)

-- ---- the length of a run

move-forward : (x y a i : ℕ) → pos y ≡ pos x +ℤ (pos a *ℤ pos i) → y ≡ x + a * i
move-forward x y a i h = omega (arith, ints)

move-back : (x y a i : ℕ) → pos y ≡ pos x +ℤ (negsuc a *ℤ pos i) → y + suc a * i ≡ x
move-back x y a i h = omega (arith, ints)

-- places of the slice, counted from one of them
pub moved-by : (s : Steps) (n t i : ℕ) → StepsFitAxis s n → t + i < s.count → pos (coordinate s (t + i)) ≡ pos (coordinate s t) +ℤ (s.step *ℤ pos i)
moved-by s n t i f h =
    let a : pos (coordinate s t) ≡ position s t = abs-of (position s t) (f.low t (omega arith)) in
    let b : pos (coordinate s (t + i)) ≡ position s (t + i) = abs-of (position s (t + i)) (f.low (t + i) h) in
    b ∙ spread (pos s.start) s.step t i ∙ ap (λ (x : ℤ). x +ℤ (s.step *ℤ pos i)) (sym a)

pub inside : (s : Steps) (n t : ℕ) → StepsFitAxis s n → t < s.count → coordinate s t < n
inside s n t f h = below-abs (position s t) n (f.low t h) (f.high t h)

-- so many steps stay within the room, and the next one doesn't
steps-stay : (room a i : ℕ) → i < room / a + 1 → a * i ≤ room
steps-stay room a i h =
    let m : a * i ≤ a * (room / a) = mul-le-mul_left a (omega arith) in
    let d : a * (room / a) ≤ room = mul-div-le room a in
    omega arith

steps-leave : (room a : ℕ) → 0 < a → room < a * (room / a + 1)
steps-leave room a h = let l : room < room / a * a + a = lt-div-mul-add h in omega arith

pub record Bounded (s : Steps) (t low high count : ℕ) : Type 0 where
  pub stay : (i : ℕ) → i < count → (low ≤ coordinate s (t + i)) × (coordinate s (t + i) < high)
  pub leave : t + count < s.count → (coordinate s (t + count) < low) ⊎ (high ≤ coordinate s (t + count))

bounded : (z : ℤ) (s : Steps) (n t low high count room : ℕ) → s.step ≡ z → z ≢ pos 0 → StepsFitAxis s n → t < s.count → low ≤ coordinate s t → coordinate s t < high
    → room ≡ room_ahead z (coordinate s t) low high → count ≡ min (room / unsigned_abs z + 1) (s.count - t) → Bounded s t low high count
bounded (pos a) s n t low high count room e d f h l u er ec =
    let p : 0 < a = elim (cases_eq a 0) [ inl q ↦ absurd (d (ap pos q)) | inr q ↦ omega arith ] in
    let at : (i : ℕ) → t + i < s.count → coordinate s (t + i) ≡ coordinate s t + a * i = λ i lt. move-forward _ _ a i (moved-by s n t i f lt ∙ ap (λ (x : ℤ). pos (coordinate s t) +ℤ (x *ℤ pos i)) e) in
    record {
      stay = λ i lt. let m : a * i ≤ room = steps-stay room a i (omega arith) in let w = at i (omega arith) in (omega arith, omega arith);
      leave = λ lt. let c : count ≡ room / a + 1 = omega arith in let m : room < a * (room / a + 1) = steps-leave room a p in
          let q : a * count ≡ a * (room / a + 1) = ap (λ (x : ℕ). a * x) c in let w = at count lt in inr (omega arith);
    }
bounded (negsuc a) s n t low high count room e d f h l u er ec =
    let at : (i : ℕ) → t + i < s.count → coordinate s (t + i) + suc a * i ≡ coordinate s t = λ i lt. move-back _ _ a i (moved-by s n t i f lt ∙ ap (λ (x : ℤ). pos (coordinate s t) +ℤ (x *ℤ pos i)) e) in
    record {
      stay = λ i lt. let m : suc a * i ≤ room = steps-stay room (suc a) i (omega arith) in let w = at i (omega arith) in (omega arith, omega arith);
      leave = λ lt. let c : count ≡ room / suc a + 1 = omega arith in let m : room < suc a * (room / suc a + 1) = steps-leave room (suc a) (omega arith) in
          let q : suc a * count ≡ suc a * (room / suc a + 1) = ap (λ (x : ℕ). suc a * x) c in let w = at count lt in inl (omega arith);
    }

chunk-stays : (sizes : List ℕ) (c y : ℕ) → c < length sizes → total (take c sizes) ≤ y → y < total (take c sizes) + get_or sizes c 0 → chunk_of sizes y ≡ c
chunk-stays sizes c y h l u =
    let e : total (take c sizes) + (y - total (take c sizes)) ≡ y = omega arith in
    ap (chunk_of sizes) (sym e) ∙ chunk_of-at sizes c (y - total (take c sizes)) h (omega arith)

chunk-leaves : (sizes : List ℕ) (c y : ℕ) → y < total sizes → (y < total (take c sizes)) ⊎ (total (take c sizes) + get_or sizes c 0 ≤ y) → chunk_of sizes y ≢ c
chunk-leaves sizes c y h o = λ e. let i : InChunk sizes y c = subst (InChunk sizes y) e (in-chunk sizes y h) in
    let l : total (take c sizes) ≤ y = i.low in
    let u : y < total (take c sizes) + get_or sizes c 0 = i.high in
    elim o [ inl b ↦ absurd (omega arith) | inr b ↦ absurd (omega arith) ]

pub is_run : (sizes : List ℕ) (s : Steps) (t low high count room : ℕ) (p : Taken) → TakesOf (total sizes) s → t < s.count → p.chunk ≡ chunk_of sizes (coordinate s t) → low ≡ total (take p.chunk sizes)
    → high ≡ total (take p.chunk sizes) + get_or sizes p.chunk 0 → room ≡ room_ahead s.step (coordinate s t) low high → count ≡ min (room / unsigned_abs s.step + 1) (s.count - t)
    → p.steps.start ≡ coordinate s t - low → p.steps.step ≡ s.step → p.steps.count ≡ count → IsRun sizes s t p
is_run sizes s t low high count room p f h ec el eh er en es ep eq =
    let i : InChunk sizes (coordinate s t) p.chunk = subst (InChunk sizes (coordinate s t)) (sym ec) (in-chunk sizes (coordinate s t) (inside s (total sizes) t f.fits h)) in
    let il : total (take p.chunk sizes) ≤ coordinate s t = i.low in
    let iu : coordinate s t < total (take p.chunk sizes) + get_or sizes p.chunk 0 = i.high in
    let b = bounded s.step s (total sizes) t low high count room refl f.goes f.fits h (omega arith) (omega arith) er en in
    record {
      chunk_is = ec;
      start_is = es ∙ ap (λ (x : ℕ). coordinate s t - x) el;
      step_is = ep;
      some = omega arith;
      within = omega arith;
      same = λ k lt. let w = b.stay k (omega arith) in let w0 = w.0 in let w1 = w.1 in chunk-stays sizes p.chunk (coordinate s (t + k)) i.there (omega arith) (omega arith);
      next = λ lt. let k : t + count < s.count = omega arith in
          let y : coordinate s (t + p.steps.count) ≡ coordinate s (t + count) = ap (λ (x : ℕ). coordinate s (t + x)) eq in
          let l : coordinate s (t + count) < total sizes = inside s (total sizes) (t + count) f.fits k in
          λ q. chunk-leaves sizes p.chunk (coordinate s (t + count)) l (elim (b.leave k) [ inl a ↦ inl (omega arith) | inr a ↦ inr (omega arith) ]) (ap (chunk_of sizes) (sym y) ∙ q);
    }

-- ---- the sizes of a slice cut it

-- a slice takes no more than there is
pub count-fits : (n : ℕ) (s : Steps) → TakesOf n s → s.count ≤ n
count-fits n s f = elim (cases_eq s.count 0) [
  | inl z ↦ omega arith
  | inr d ↦ within s.step refl f.goes
]
  where
    last-fits : (z : ℤ) → s.step ≡ z → z ≢ pos 0 → 0 < s.count → s.count ≤ n
    last-fits (pos a) e d h =
        let p : 0 < a = elim (cases_eq a 0) [ inl q ↦ absurd (d (ap pos q)) | inr q ↦ omega arith ] in
        let k = s.count - 1 in
        let lt : 0 + k < s.count = omega arith in
        let w : coordinate s (0 + k) ≡ coordinate s 0 + a * k = move-forward _ _ a k (moved-by s n 0 k f.fits lt ∙ ap (λ (x : ℤ). pos (coordinate s 0) +ℤ (x *ℤ pos k)) e) in
        let u : coordinate s (0 + k) < n = inside s n (0 + k) f.fits lt in
        let m : k ≤ a * k = grows a k p in
        omega arith
      where
        grows : (a k : ℕ) → 0 < a → k ≤ a * k
        grows zero k h = absurd (omega arith)
        grows (suc a) k h = omega arith
    last-fits (negsuc a) e d h =
        let k = s.count - 1 in
        let lt : 0 + k < s.count = omega arith in
        let w : coordinate s (0 + k) + suc a * k ≡ coordinate s 0 = move-back _ _ a k (moved-by s n 0 k f.fits lt ∙ ap (λ (x : ℤ). pos (coordinate s 0) +ℤ (x *ℤ pos k)) e) in
        let u : coordinate s 0 < n = inside s n 0 f.fits h in
        omega arith

    within : (z : ℤ) → s.step ≡ z → z ≢ pos 0 → s.count ≤ n
    within z e d = elim (cases_eq s.count 0) [ inl q ↦ omega arith | inr q ↦ last-fits z e d (omega arith) ]

some-taken : (sizes : List ℕ) (s : Steps) (t : ℕ) (rs : List Run) → AllRuns rs → AllSome (counts_taken (taken_from sizes s t rs))
some-taken sizes s t [] a = tt
some-taken sizes s t (r ∷ rs) a = (a.0, some-taken sizes s (t + r.count) rs a.1)

some-or : (s : Steps) (ps : List Taken) → AllSome (counts_taken ps) → 0 < total (counts_taken (or_nothing s ps)) → AllSome (counts_taken (or_nothing s ps))
some-or s [] a h = absurd (omega arith)
some-or s (p ∷ ps) a h = a

pub is_cut-taken : (sizes : List ℕ) (s : Steps) → TakesOf (total sizes) s → total sizes ≤ 2 ^ 31 → IsCut (counts_taken (taken_of sizes s))
is_cut-taken sizes s f small = elim (cases_eq s.count 0) [
  | inl z ↦ let e : 0 ∷ [] ≡ counts_taken (taken_of sizes s) = ap counts_taken (taken-none sizes s z) in
      subst IsCut e (record { some = omega arith; each = inl refl; small = omega arith })
  | inr d ↦ let e : total (counts_taken (taken_of sizes s)) ≡ s.count = counts-pieces sizes s in
      let c : s.count ≤ total sizes = count-fits (total sizes) s f in
      let rs : List Run = runs (map (λ t. chunk_of sizes (coordinate s t)) (range_with_len 0 s.count)) in
      record {
        some = has-some (counts_taken (taken_of sizes s)) (omega arith);
        each = inr (some-or s (taken_from sizes s 0 rs) (some-taken sizes s 0 rs (some-runs (map (λ t. chunk_of sizes (coordinate s t)) (range_with_len 0 s.count)))) (omega arith));
        small = omega arith;
      }
]

-- ---- all axes

takes-first : (sizes : List ℕ) (layout : List (List ℕ)) (s : Steps) (parts : List Steps) → TakesAll (sizes ∷ layout) (s ∷ parts) → TakesOf (total sizes) s
takes-first sizes layout s parts t = t.each 0 s refl

takes-rest : (sizes : List ℕ) (layout : List (List ℕ)) (s : Steps) (parts : List Steps) → TakesAll (sizes ∷ layout) (s ∷ parts) → TakesAll layout parts
takes-rest sizes layout s parts t = record { axes = (let e : suc (length parts) ≡ suc (length layout) = t.axes in omega arith); each = λ k q e. t.each (suc k) q e }

abbrev pub counts_of : List Steps → List ℕ
counts_of parts = map (λ (s : Steps). s.count) parts

product-less : (layout : List (List ℕ)) (parts : List Steps) → TakesAll layout parts → elements (counts_of parts) ≤ elements (lengths layout)
product-less [] [] t = omega arith
product-less [] (s ∷ parts) t = absurd (let e : suc (length parts) ≡ 0 = t.axes in omega arith)
product-less (sizes ∷ layout) [] t = absurd (let e : 0 ≡ suc (length layout) = t.axes in omega arith)
product-less (sizes ∷ layout) (s ∷ parts) t =
    mul-le-mul (count-fits (total sizes) s (takes-first sizes layout s parts t)) (product-less layout parts (takes-rest sizes layout s parts t))

counts-small : (layout : List (List ℕ)) (parts : List Steps) → TakesAll layout parts → AllCut layout → (k : ℕ) (d : ℕ) → k < length (counts_of parts) → get_or (counts_of parts) k d ≤ 2 ^ 31
counts-small layout [] t a k d h = absurd (omega arith)
counts-small [] (s ∷ parts) t a k d h = absurd (let e : suc (length parts) ≡ 0 = t.axes in omega arith)
counts-small (sizes ∷ layout) (s ∷ parts) t a zero d h =
    let c : s.count ≤ total sizes = count-fits (total sizes) s (takes-first sizes layout s parts t) in
    let b : total sizes ≤ 2 ^ 31 = a.0.small in
    omega arith
counts-small (sizes ∷ layout) (s ∷ parts) t a (suc k) d h = counts-small layout parts (takes-rest sizes layout s parts t) a.1 k d (omega arith)

pub shape-taken : (layout : List (List ℕ)) (parts : List Steps) → IsLayout layout → TakesAll layout parts → IsShape (counts_of parts)
shape-taken layout parts l t =
    let n : length (counts_of parts) ≡ length parts = length-map parts (λ (s : Steps). s.count) in
    let m : length (lengths layout) ≡ length layout = length-map layout (λ (ss : List ℕ). total ss) in
    let e : length parts ≡ length layout = t.axes in
    let x : length (lengths layout) ≤ 8 = l.shape.axes in
    let p : elements (lengths layout) ≤ 2 ^ 31 = l.shape.product in
    let q : elements (counts_of parts) ≤ elements (lengths layout) = product-less layout parts t in
    record { axes = omega arith; lengths = λ k d h. counts-small layout parts t l.cuts k d h; product = omega arith }

pub record SlicesMore (axes a : List (List ℕ)) (parts : List Steps) (k : ℕ) (x : List ℕ) : Type 0 where
  pub cuts : AllCut (axes ++ x ∷ [])
  pub lengths_is : lengths (axes ++ x ∷ []) ≡ take (k + 1) (counts_of parts)
  pub value : (axes ++ x ∷ []) ++ slice_layout (drop (k + 1) a) (drop (k + 1) parts) ≡ slice_layout a parts

pub slices-more : (axes a : List (List ℕ)) (parts : List Steps) (k : ℕ) (s : Steps) (x : List ℕ) → k < length a → k < length parts → s ≡ get_or parts k s
    → x ≡ counts_taken (taken_of (get_or a k []) s) → IsCut x → AllCut axes → lengths axes ≡ take k (counts_of parts)
    → axes ++ slice_layout (drop k a) (drop k parts) ≡ slice_layout a parts → SlicesMore axes a parts k x
slices-more axes a parts k s x h g is e c t l v =
    let n : length (counts_of parts) ≡ length parts = length-map parts (λ (s : Steps). s.count) in
    let b : k < length (counts_of parts) = omega arith in
    let tx : total x ≡ get_or (counts_of parts) k 0 = ap total e ∙ counts-pieces (get_or a k []) s ∙ ap (λ (q : Steps). q.count) is ∙ sym (get_or-map (λ (s : Steps). s.count) parts k s 0 g) in
    record {
      cuts = all_cut-push axes x t c;
      lengths_is = map_push (λ (ss : List ℕ). total ss) axes x ∙ ap (λ (xs : List ℕ). xs ++ total x ∷ []) l ∙ ap (λ (n : ℕ). take k (counts_of parts) ++ n ∷ []) tx ∙ sym (take_more (counts_of parts) k 0 b);
      value = append_assoc axes (x ∷ []) (slice_layout (drop (k + 1) a) (drop (k + 1) parts))
          ∙ ap (λ (y : List ℕ). axes ++ y ∷ slice_layout (drop (k + 1) a) (drop (k + 1) parts)) (e ∙ ap (λ (q : Steps). counts_taken (taken_of (get_or a k []) q)) is)
          ∙ ap (λ (ns : List (List ℕ)). axes ++ slice_layout ns (get_or parts k s ∷ drop (k + 1) parts)) (sym (drop_more a k [] h))
          ∙ ap (λ (ss : List Steps). axes ++ slice_layout (drop k a) ss) (sym (drop_more parts k s g)) ∙ v;
    }

-- ---- as the code has it

pub record ChunkRange (sizes starts : List ℕ) (c y : ℕ) : Type 0 where
  pub there : c < length sizes
  pub low_is : get_or starts c 0 ≡ total (take c sizes)
  pub high_is : get_or starts (c + 1) 0 ≡ total (take c sizes) + get_or sizes c 0
  pub low : get_or starts c 0 ≤ y
  pub high : y < get_or starts (c + 1) 0

pub chunk-range : (sizes starts : List ℕ) (c y : ℕ) → AreStarts sizes starts → y < total sizes → c ≡ chunk_of sizes y → ChunkRange sizes starts c y
chunk-range sizes starts c y s h e =
    let i : InChunk sizes y c = subst (InChunk sizes y) (sym e) (in-chunk sizes y h) in
    let t : c < length sizes = i.there in
    let a : get_or starts c 0 ≡ total (take c sizes) = s.at c (omega arith) in
    let z : get_or starts (c + 1) 0 ≡ total (take (c + 1) sizes) = s.at (c + 1) (omega arith) in
    let m : total (take (c + 1) sizes) ≡ total (take c sizes) + get_or sizes c 0 = total-more sizes c t in
    let l : total (take c sizes) ≤ y = i.low in
    let u : y < total (take c sizes) + get_or sizes c 0 = i.high in
    record { there = t; low_is = a; high_is = omega arith; low = omega arith; high = omega arith }

pub takes-at : (a : List (List ℕ)) (parts : List Steps) (k : ℕ) (s : Steps) → TakesAll a parts → k < length parts → s ≡ get_or parts k s → TakesOf (total (get_or a k [])) s
takes-at a parts k s t h is = t.each k s (slice_get-get_or parts k s h ∙ ap (λ (q : Steps). Some q) (sym is))

pub count-small_of : (pieces : List Taken) (k : ℕ) (p : Taken) → k < length pieces → p ≡ get_or pieces k p → total (counts_taken pieces) ≤ 2 ^ 31 → p.steps.count ≤ 2 ^ 31
count-small_of pieces k p h is b =
    let n : length (counts_taken pieces) ≡ length pieces = length-map pieces (λ (q : Taken). q.steps.count) in
    let g : get_or (counts_taken pieces) k 0 ≤ total (counts_taken pieces) = total-ge (counts_taken pieces) k (omega arith) in
    let e : get_or (counts_taken pieces) k 0 ≡ p.steps.count = get_or-map (λ (q : Taken). q.steps.count) pieces k p 0 h ∙ ap (λ (q : Taken). q.steps.count) (sym is) in
    omega arith

pub total-taken : (sizes : List ℕ) (s : Steps) → TakesOf (total sizes) s → total (counts_taken (taken_of sizes s)) ≤ total sizes
total-taken sizes s f = let e : total (counts_taken (taken_of sizes s)) ≡ s.count = counts-pieces sizes s in let c : s.count ≤ total sizes = count-fits (total sizes) s f in omega arith

pub taken_is_cut : (sizes : List ℕ) (s : Steps) → IsCut sizes → TakesOf (total sizes) s → IsCut (counts_taken (taken_of sizes s))
taken_is_cut sizes s c f = is_cut-taken sizes s f c.small
