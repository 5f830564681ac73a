-- Bytes as elements: chunks of a width, parts of the data, and reads piece by piece.
use Rattle.std.proofs.Common.{◌≡◌, ℕ, ℤ, pos, zero, suc, ◌≤◌, ◌<◌, ◌+◌, ◌-◌, ◌*◌, ◌/◌, List, [], ◌∷◌, ◌++◌, length, take, drop, get_or, refl, ap, ap₂, sym, subst, ◌∙◌, arith, append_assoc}
use Rattle.std.specs.Prelude.{Bool, map, Result, Ok, Err, OnOk}
use Rattle.std.specs.Simd.{first_chunks}
use Rattle.std.proofs.lemmas.List.{drop-drop, drop-take, take-take, append-nil}
use Rattle.io_edge.specs.Content.{Content, Told, Untold, OnTold, size_of, ReadsAll}
use Rattle.npy_codec.specs.declared.head.Head.{Head}
use Rattle.npy_codec.specs.Npy.{wide_cell}
use Rattle.npy_codec.proofs.HeadLemmas.{filled_part}
use Rattle.npy_region.specs.Cells.{first_cells}

-- ## The first elements

pub length-cells : (w : ℕ) (big : Bool) (n : ℕ) (xs : List ℕ) → length (first_cells w big n xs) ≡ n
length-cells w big zero xs = refl
length-cells w big (suc n) xs = ap suc (length-cells w big n (drop w xs))

pub cells-get : (w : ℕ) (big : Bool) (n j : ℕ) (xs : List ℕ) → j < n → get_or (first_cells w big n xs) j (pos 0) ≡ wide_cell w big (take w (drop (w * j) xs))
cells-get w big zero j xs h = absurd (omega arith)
cells-get w big (suc n) zero xs h =
    let none : 0 ≡ w * 0 = omega arith in
    ap (λ m. wide_cell w big (take w (drop m xs))) none
cells-get w big (suc n) (suc j) xs h =
    let m : w + w * j ≡ w * suc j = omega arith in
    cells-get w big n j (drop w xs) (omega arith) ∙ ap (λ ys. wide_cell w big (take w ys)) (drop-drop (w * j) w xs ∙ ap (λ k. drop k xs) m)

pub cells-add : (w : ℕ) (big : Bool) (n more : ℕ) (xs : List ℕ) → first_cells w big (n + more) xs ≡ first_cells w big n xs ++ first_cells w big more (drop (w * n) xs)
cells-add w big zero more xs =
    let same : 0 + more ≡ more = omega arith in
    let none : 0 ≡ w * 0 = omega arith in
    ap (λ k. first_cells w big k xs) same ∙ ap (λ k. first_cells w big more (drop k xs)) none
cells-add w big (suc n) more xs =
    let one : suc n + more ≡ suc (n + more) = omega arith in
    let m : w + w * n ≡ w * suc n = omega arith in
    ap (λ k. first_cells w big k xs) one
    ∙ ap (λ zs. wide_cell w big (take w xs) ∷ zs)
    (cells-add w big n more (drop w xs) ∙ ap (λ ys. first_cells w big n (drop w xs) ++ first_cells w big more ys) (drop-drop (w * n) w xs ∙ ap (λ k. drop k xs) m))

-- elements of a part of the bytes that has them all
pub cells-take : (w : ℕ) (big : Bool) (n m : ℕ) (xs : List ℕ) → w * n ≤ m → first_cells w big n (take m xs) ≡ first_cells w big n xs
cells-take w big zero m xs h = refl
cells-take w big (suc n) m xs h =
    let all : w * n + w ≤ m = omega (arith, h) in
    let e : m ≡ w + (m - w) = omega (arith, all) in
    ap₂ (λ ys zs. wide_cell w big ys ∷ zs) (take-take w m xs (omega (arith, all)))
    (ap (λ k. first_cells w big n (drop w (take k xs))) e ∙ (ap (first_cells w big n) (drop-take w (m - w) xs) ∙ cells-take w big n (m - w) (drop w xs) (omega (arith, all))))

-- the elements that a chain over the chunks has appended
pub extended : {E : Type 0} (P Q : Type 0) (r : Result (Unit {0}) E) (w : ℕ) (big : Bool) (n : ℕ) (bytes : List ℕ) (elements : List (List ℕ)) (old new : List ℤ) → elements ≡ first_chunks w n bytes → OnOk r ((new ≡ old ++ map (wide_cell w big) elements) × P × Q) →
    OnOk r (new ≡ old ++ first_cells w big n bytes)
extended P Q (Ok x) w big n bytes elements old new e h = h.0 ∙ ap (λ zs. old ++ map (wide_cell w big) zs) e
extended P Q (Err x) w big n bytes elements old new e h = tt

-- the elements that were appended are those of this type
pub of_type : {E : Type 0} (r : Result (Unit {0}) E) (w v : ℕ) (big order : Bool) (bytes : List ℕ) (old new : List ℤ) → w ≡ v → big ≡ order → OnOk r (new ≡ old ++ first_cells v order (length bytes / v) bytes) → OnOk r (new ≡ old ++ first_cells w big (length bytes / w) bytes)
of_type r w v big order bytes old new is_v is_order h =
    subst (λ b. OnOk r (new ≡ old ++ first_cells w b (length bytes / w) bytes)) (sym is_order) (subst (λ n. OnOk r (new ≡ old ++ first_cells n order (length bytes / n) bytes)) (sym is_v) h)

-- ## Reads piece by piece

-- the elements that were read up to here
abbrev pub ReadTo : Content → Head → ℕ → ℕ → List ℤ → List ℤ → Type 0
ReadTo file head offset done before now = OnTold file (λ bytes. now ≡ before ++ first_cells head.width head.big done (drop offset bytes))

pub read_none : (file : Content) (head : Head) (offset : ℕ) (before : List ℤ) → ReadTo file head offset 0 before before
read_none (Untold size) head offset before = tt
read_none (Told bytes) head offset before = sym (append-nil before)

-- one more piece
pub read_step : (file : Content) (head : Head) (old new : List ℕ) (offset done step n : ℕ) (before out more : List ℤ) → ReadsAll file (offset + head.width * done) old new n → length old ≡ head.width * step → length new ≡ length old →
    offset + head.width * done + head.width * step ≤ size_of file → ReadTo file head offset done before out → more ≡ out ++ first_cells head.width head.big step new → ReadTo file head offset (done + step) before more
read_step (Untold s) head old new offset done step n before out more reads lo ln room so_far is_more = tt
read_step (Told bytes) head old new offset done step n before out more reads lo ln room so_far is_more =
    let w = head.width in
    let big = head.big in
    let front = first_cells w big done (drop offset bytes) in
    let part : new ≡ take (w * step) (drop (offset + w * done) bytes) = filled_part bytes old new (offset + w * done) n (w * step) reads lo (ln ∙ lo) room in
    let here : first_cells w big step new ≡ first_cells w big step (drop (w * done) (drop offset bytes)) =
    ap (first_cells w big step) part ∙ (cells-take w big step (w * step) (drop (offset + w * done) bytes) (omega arith) ∙ ap (first_cells w big step) (sym (drop-drop (w * done) offset bytes))) in
    is_more
    ∙ ap₂ (λ x y. x ++ y) so_far here
    ∙ append_assoc before front (first_cells w big step (drop (w * done) (drop offset bytes)))
    ∙ ap (λ x. before ++ x) (sym (cells-add w big done step (drop offset bytes)))
