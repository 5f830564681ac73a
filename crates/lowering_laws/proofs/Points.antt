-- Elementwise operations on blocks.
use Rattle.std.proofs.Common.{◌≡◌, ◌≢◌, ℕ, zero, suc, ◌-◌, ◌<◌, ◌≤◌, cond, Bool, true, false, List, [], ◌∷◌, length, map, get_or, refl, ap, sym, subst, ◌∙◌, arith, ◌⊎◌, inl, inr, Some, ℤ}
use Rattle.std.specs.Prelude.{nat_eq, nat_lt}
use Rattle.std.proofs.lemmas.Bool.{cases_lt, cases_eq, eqb-true}
use Rattle.std.proofs.lemmas.List.{length-map, get_or-map, get_or_default}
use Rattle.std.proofs.lemmas.List.FromFn.{length-map-range_with_len, get_or-map-range_with_len}
use Rattle.std.proofs.lemmas.Grind.{same_number_lists}
use Rattle.nd_shape.specs.Index.{IsIn}
use Rattle.nd_shape.specs.Region.{Box, moved}
use Rattle.nd_shape.specs.Chunk.{total}
use Rattle.nd_shape.specs.Broadcast.{broadcast, axes_of, common, lengths_on, length_on}
use Rattle.nd_grid.specs.declared.operation.Binary.{Binary}
use Rattle.nd_grid.specs.Operation.{combine, pick_all}
use Rattle.nd_grid.specs.Grid.{Grid, Holds, under, elementwise, chosen, filled}
use Rattle.nd_grid.proofs.Under.{length-broadcast, broadcast-at, taken, passed}
use Rattle.chunk_layout.specs.Layouts.{counts, lengths, lengths_at}
use Rattle.chunk_layout.proofs.Unions.{total-union}
use Rattle.chunk_layout.specs.Unions.{union}
use Rattle.lowering_laws.specs.Stages.{sizes_on, joined, joined_all, point_layout}
use Rattle.lowering_laws.proofs.Under.{box_under, block_under, under-box, under-moved}
use Rattle.lowering_laws.specs.Law.{HaveChunks}
use Rattle.lowering_laws.proofs.Cutting.{some-each, some-joined_all, chunks-on}
use Rattle.lowering_laws.proofs.Products.{total-on}

-- ---- the formulas on blocks

-- the operand's element under an index of the box
pub under-holds : (a g : Grid) (box : Box) (i : List ℕ) → Holds a g (box_under g.shape box) → length box.start ≡ length box.lengths → length g.shape ≤ length box.lengths → IsIn box.lengths i
    → a.at (under a.shape i) ≡ g.at (under g.shape (moved box.start i))
under-holds a g box i ha e la inside =
    ap (λ ns. a.at (under ns i)) ha.shape
    ∙ ha.at (under (box_under g.shape box).lengths i) (under-box g.shape i box la inside)
    ∙ ap g.at (under-moved g.shape i box e la inside)

pub pair-local : (op : Binary) (a b g h : Grid) (box : Box) → Holds a g (box_under g.shape box) → Holds b h (box_under h.shape box) → length box.start ≡ length box.lengths → length g.shape ≤ length box.lengths → length h.shape ≤ length box.lengths
    → broadcast (map (block_under box.lengths) (g.shape ∷ h.shape ∷ [])) ≡ box.lengths → Holds (elementwise op a b) (elementwise op g h) box
pair-local op a b g h box ha hb e la lb res = record {
  shape = ap (λ ns. broadcast (ns ∷ b.shape ∷ [])) ha.shape ∙ ap (λ ns. broadcast (block_under box.lengths g.shape ∷ ns ∷ [])) hb.shape ∙ res;
  at = λ i inside.
      ap (λ u. combine op u (b.at (under b.shape i))) (under-holds a g box i ha e la inside)
      ∙ ap (combine op (g.at (under g.shape (moved box.start i)))) (under-holds b h box i hb e lb inside);
}

pub choice-local : (c a b f g h : Grid) (box : Box) → Holds c f (box_under f.shape box) → Holds a g (box_under g.shape box) → Holds b h (box_under h.shape box) → length box.start ≡ length box.lengths
    → length f.shape ≤ length box.lengths → length g.shape ≤ length box.lengths → length h.shape ≤ length box.lengths
    → broadcast (map (block_under box.lengths) (f.shape ∷ g.shape ∷ h.shape ∷ [])) ≡ box.lengths → Holds (chosen c a b) (chosen f g h) box
choice-local c a b f g h box hc ha hb e lc la lb res = record {
  shape = ap (λ ns. broadcast (ns ∷ a.shape ∷ b.shape ∷ [])) hc.shape
      ∙ ap (λ ns. broadcast (block_under box.lengths f.shape ∷ ns ∷ b.shape ∷ [])) ha.shape
      ∙ ap (λ ns. broadcast (block_under box.lengths f.shape ∷ block_under box.lengths g.shape ∷ ns ∷ [])) hb.shape ∙ res;
  at = λ i inside.
      ap (λ u. pick_all u (a.at (under a.shape i)) (b.at (under b.shape i))) (under-holds c f box i hc e lc inside)
      ∙ ap (λ u. pick_all (f.at (under f.shape (moved box.start i))) u (b.at (under b.shape i))) (under-holds a g box i ha e la inside)
      ∙ ap (pick_all (f.at (under f.shape (moved box.start i))) (g.at (under g.shape (moved box.start i)))) (under-holds b h box i hb e lb inside);
}

-- an array without axes that is a number
pub record IsNumber (v : ℤ) (g : Grid) : Type 0 where
  pub shape : g.shape ≡ []
  pub at : g.at [] ≡ Some v

-- a number holds such an array under every box
pub number-holds : (v : ℤ) (g : Grid) (box : Box) → IsNumber v g → Holds (filled [] v) g (box_under g.shape box)
number-holds v g box n =
    subst (λ ns. Holds (filled [] v) (record { shape = ns; at = g.at }) (box_under ns box)) (sym n.shape) (record { shape = refl; at = λ i h. sym n.at })

-- ---- the lengths of the layout of a result

abbrev OrNone : ℕ → List ℕ → Type 0
OrNone n xs = (xs ≡ []) ⊎ (total xs ≡ n)

one-union : (n x y : ℕ) (xs ys : List ℕ) → total (x ∷ xs) ≡ n → total (y ∷ ys) ≡ n → total (union (x ∷ xs) (y ∷ ys)) ≡ n
one-union n x y xs ys a b = total-union (x ∷ xs) (y ∷ ys) (a ∙ sym b) ∙ a

total-cons : (n x : ℕ) (xs : List ℕ) → OrNone n (x ∷ xs) → total (x ∷ xs) ≡ n
total-cons n x xs h = elim h [ inl e ↦ absurd cc | inr t ↦ t ]

total-or : (n : ℕ) (xs : List ℕ) → n ≡ 0 → OrNone n xs → total xs ≡ n
total-or n xs z h = elim h [ inl e ↦ ap total e ∙ sym z | inr t ↦ t ]

joined-or : (n : ℕ) (xs ys : List ℕ) → OrNone n xs → OrNone n ys → OrNone n (joined xs ys)
joined-or n [] ys a b = b
joined-or n (x ∷ xs) [] a b = a
joined-or n (x ∷ xs) (y ∷ ys) a b = inr (one-union n x y xs ys (total-cons n x xs a) (total-cons n y ys b))

joined-left : (n : ℕ) (xs ys : List ℕ) → total xs ≡ n → OrNone n ys → total (joined xs ys) ≡ n
joined-left n [] ys a b = total-or n ys (sym a) b
joined-left n (x ∷ xs) [] a b = a
joined-left n (x ∷ xs) (y ∷ ys) a b = one-union n x y xs ys a (total-cons n y ys b)

joined-right : (n : ℕ) (xs ys : List ℕ) → OrNone n xs → total ys ≡ n → total (joined xs ys) ≡ n
joined-right n [] ys a b = b
joined-right n (x ∷ xs) [] a b = total-or n (x ∷ xs) (sym b) a
joined-right n (x ∷ xs) (y ∷ ys) a b = one-union n x y xs ys (total-cons n x xs a) b

joined_all-or : (n : ℕ) (xss : List (List ℕ)) → ((k : ℕ) → OrNone n (get_or xss k [])) → OrNone n (joined_all xss)
joined_all-or n [] h = inl refl
joined_all-or n (xs ∷ xss) h = joined-or n xs (joined_all xss) (h 0) (joined_all-or n xss (λ k. h (suc k)))

pub joined_all-total : (n : ℕ) (xss : List (List ℕ)) (j : ℕ) → ((k : ℕ) → OrNone n (get_or xss k [])) → j < length xss → total (get_or xss j []) ≡ n → total (joined_all xss) ≡ n
joined_all-total n [] j h lt e = absurd (omega arith)
joined_all-total n (xs ∷ xss) zero h lt e = joined-left n xs (joined_all xss) e (joined_all-or n xss (λ k. h (suc k)))
joined_all-total n (xs ∷ xss) (suc j) h lt e = joined-right n xs (joined_all xss) (h 0) (joined_all-total n xss j (λ k. h (suc k)) (omega arith) e)

or-none : (b c : Bool) (n : ℕ) (xs : List ℕ) → (c ≡ true → total xs ≡ n) → OrNone n (cond b [] (cond c xs []))
or-none true c n xs h = inl refl
or-none false true n xs h = inr (h refl)
or-none false false n xs h = inl refl

sizes-or : (dims : List ℕ) (k : ℕ) (layout : List (List ℕ)) → OrNone (get_or dims k 0) (sizes_on dims k layout)
sizes-or dims k layout =
    let before = length dims - length layout in
    or-none (nat_lt k before) (nat_eq (total (get_or layout (k - before) [])) (get_or dims k 0)) (get_or dims k 0) (get_or layout (k - before) []) (eqb-true (total (get_or layout (k - before) [])) (get_or dims k 0))

all-sizes-or : (dims : List ℕ) (k : ℕ) (layouts : List (List (List ℕ))) (j : ℕ) → OrNone (get_or dims k 0) (get_or (map (sizes_on dims k) layouts) j [])
all-sizes-or dims k [] j = inl refl
all-sizes-or dims k (layout ∷ layouts) zero = sizes-or dims k layout
all-sizes-or dims k (layout ∷ layouts) (suc j) = all-sizes-or dims k layouts j

-- a common length that isn't 1 is one of theirs
common-from : (ls : List ℕ) → common ls ≢ 1 → (j : ℕ) × (j < length ls) × (get_or ls j 1 ≡ common ls)
common-from [] h = absurd (h refl)
common-from (n ∷ ns) h = elim (cases_eq n 1) [
  | inl e ↦ let t : cond (nat_eq n 1) (common ns) n ≡ common ns = passed n (common ns) e in
      let r = common-from ns (λ z. h (t ∙ z)) in
      (suc r.0, omega (arith, r.1), r.2 ∙ sym t)
  | inr d ↦ (0, omega arith, sym (taken n (common ns) d))
]

-- where an operand has the result's length, which isn't 1, its chunks are taken
length_on-there : (axes k n : ℕ) (ns : List ℕ) → n ≢ 1 → length_on axes k ns ≡ n → (axes - length ns ≤ k) × (k - (axes - length ns) < length ns) × (get_or ns (k - (axes - length ns)) 0 ≡ n)
length_on-there axes k n ns d e = elim (cases_lt k (axes - length ns)) [
  | inl lt ↦ absurd (d (sym e ∙ front k (axes - length ns) (get_or ns (k - (axes - length ns)) 1) lt))
  | inr ge ↦ let at : get_or ns (k - (axes - length ns)) 1 ≡ n = sym (back k (axes - length ns) (get_or ns (k - (axes - length ns)) 1) ge) ∙ e in
      elim (cases_lt (k - (axes - length ns)) (length ns)) [
        | inl in' ↦ (ge, in', get_or_default ns (k - (axes - length ns)) 0 1 in' ∙ at)
        | inr out ↦ absurd (d (sym at ∙ past ns (k - (axes - length ns)) out))
      ]
]
  where
    front : (k o x : ℕ) → k < o → cond (nat_lt k o) 1 x ≡ 1
    front k o x h = grind arith

    back : (k o x : ℕ) → o ≤ k → cond (nat_lt k o) 1 x ≡ x
    back k o x h = grind arith

    past : (ns : List ℕ) (k : ℕ) → length ns ≤ k → get_or ns k 1 ≡ 1
    past [] k h = refl
    past (n ∷ ns) zero h = absurd (omega arith)
    past (n ∷ ns) (suc k) h = past ns k (omega arith)

sizes-there : (dims : List ℕ) (k axes : ℕ) (layout : List (List ℕ)) → length dims ≡ axes → get_or dims k 0 ≢ 1 → length_on axes k (lengths layout) ≡ get_or dims k 0 → total (sizes_on dims k layout) ≡ get_or dims k 0
sizes-there dims k axes layout e d h =
    let ll : length (lengths layout) ≡ length layout = length-map layout (λ (sizes : List ℕ). total sizes) in
    let t = length_on-there axes k (get_or dims k 0) (lengths layout) d h in
    let off : axes - length (lengths layout) ≡ length dims - length layout = omega arith in
    let before = length dims - length layout in
    let is : total (get_or layout (k - before) []) ≡ get_or dims k 0 = total-on layout (k - before) ∙ ap (λ o. get_or (lengths layout) (k - o) 0) (sym off) ∙ t.2 in
    chosen-sizes k before (get_or dims k 0) (get_or layout (k - before) []) (omega (arith, t.0)) is
  where
    chosen-sizes : (k o n : ℕ) (xs : List ℕ) → o ≤ k → total xs ≡ n → total (cond (nat_lt k o) [] (cond (nat_eq (total xs) n) xs [])) ≡ n
    chosen-sizes k o n xs h e = ap total (past k o xs (cond (nat_eq (total xs) n) xs []) h) ∙ ap total (same (total xs) n xs e) ∙ e
      where
        past : (k o : ℕ) (xs ys : List ℕ) → o ≤ k → cond (nat_lt k o) [] ys ≡ ys
        past k o xs ys h = grind arith

        same : (m n : ℕ) (xs : List ℕ) → m ≡ n → cond (nat_eq m n) xs [] ≡ xs
        same m n xs h = grind arith

pub point-axis : (n : ℕ) (xs : List ℕ) → (n ≢ 1 → total xs ≡ n) → total (cond (nat_eq n 1) (1 ∷ []) xs) ≡ n
point-axis n xs h = elim (cases_eq n 1) [ inl e ↦ ap total (one n xs e) ∙ sym e | inr d ↦ ap total (other n xs d) ∙ h d ]
  where
    one : (n : ℕ) (xs : List ℕ) → n ≡ 1 → cond (nat_eq n 1) (1 ∷ []) xs ≡ 1 ∷ []
    one n xs e = grind arith

    other : (n : ℕ) (xs : List ℕ) → n ≢ 1 → cond (nat_eq n 1) (1 ∷ []) xs ≡ xs
    other n xs e = grind arith

abbrev pub point_sizes : List ℕ → List (List (List ℕ)) → ℕ → List ℕ
point_sizes dims layouts k = cond (nat_eq (get_or dims k 0) 1) (1 ∷ []) (joined_all (map (sizes_on dims k) layouts))

pub length-point : (dims : List ℕ) (layouts : List (List (List ℕ))) → length (point_layout dims layouts) ≡ length dims
length-point dims layouts = length-map-range_with_len (point_sizes dims layouts) 0 (length dims)

pub point-at : (dims : List ℕ) (layouts : List (List (List ℕ))) (k : ℕ) → k < length dims → get_or (point_layout dims layouts) k [] ≡ point_sizes dims layouts k
point-at dims layouts k h = get_or-map-range_with_len (point_sizes dims layouts) 0 (length dims) k k [] h (omega arith)

abbrev pub shapes_of : List (List (List ℕ)) → List (List ℕ)
shapes_of layouts = map (λ (layout : List (List ℕ)). lengths layout) layouts

shapes-at : (layouts : List (List (List ℕ))) (axes k j : ℕ) → j < length layouts → get_or (map (length_on axes k) (shapes_of layouts)) j 1 ≡ length_on axes k (lengths (get_or layouts j []))
shapes-at [] axes k j h = absurd (omega arith)
shapes-at (layout ∷ layouts) axes k zero h = refl
shapes-at (layout ∷ layouts) axes k (suc j) h = shapes-at layouts axes k j (omega arith)

sizes-at : (dims : List ℕ) (k : ℕ) (layouts : List (List (List ℕ))) (j : ℕ) → j < length layouts → get_or (map (sizes_on dims k) layouts) j [] ≡ sizes_on dims k (get_or layouts j [])
sizes-at dims k layouts j h = get_or-map (sizes_on dims k) layouts j [] [] h

count-shapes : (axes k : ℕ) (layouts : List (List (List ℕ))) → length (map (length_on axes k) (shapes_of layouts)) ≡ length layouts
count-shapes axes k layouts = length-map (shapes_of layouts) (length_on axes k) ∙ length-map layouts (λ (layout : List (List ℕ)). lengths layout)

-- the layout of a result cuts its lengths
pub lengths-point : (dims : List ℕ) (layouts : List (List (List ℕ))) → dims ≡ broadcast (shapes_of layouts) → lengths (point_layout dims layouts) ≡ dims
lengths-point dims layouts e =
    let axes = axes_of (shapes_of layouts) in
    let number : length dims ≡ axes = ap length e ∙ length-broadcast (shapes_of layouts) in
    same_number_lists _ _ (length-map (point_layout dims layouts) (λ (sizes : List ℕ). total sizes) ∙ length-point dims layouts) (λ k h.
    let b : k < length dims = omega (arith, length-map (point_layout dims layouts) (λ (sizes : List ℕ). total sizes), length-point dims layouts) in
    let dims-at : get_or dims k 0 ≡ common (lengths_on (shapes_of layouts) k) = ap (λ ns. get_or ns k 0) e ∙ broadcast-at (shapes_of layouts) k (omega arith) in
    sym (total-on (point_layout dims layouts) k)
    ∙ ap total (point-at dims layouts k b)
    ∙ point-axis (get_or dims k 0) (joined_all (map (sizes_on dims k) layouts)) (λ d.
    let r = common-from (lengths_on (shapes_of layouts) k) (λ z. d (dims-at ∙ z)) in
    let jl : r.0 < length layouts = omega (arith, r.1, count-shapes axes k layouts) in
    joined_all-total (get_or dims k 0) (map (sizes_on dims k) layouts) r.0 (all-sizes-or dims k layouts) (omega (arith, length-map layouts (sizes_on dims k)))
    (ap total (sizes-at dims k layouts r.0 jl) ∙ sizes-there dims k axes (get_or layouts r.0 []) number d (sym (shapes-at layouts axes k r.0 jl) ∙ r.2 ∙ sym dims-at))))

-- where the result has length 1, its blocks have
pub point-one : (dims : List ℕ) (layouts : List (List (List ℕ))) (bs : List ℕ) (k : ℕ) → IsIn (counts (point_layout dims layouts)) bs → k < length dims → get_or dims k 0 ≡ 1 → get_or (lengths_at (point_layout dims layouts) bs) k 0 ≡ 1
point-one dims layouts bs k h lt one =
    block-one (point_layout dims layouts) bs k h (omega (arith, length-point dims layouts))
    (point-at dims layouts k lt ∙ sizes-one (get_or dims k 0) (joined_all (map (sizes_on dims k) layouts)) one)
  where
    sizes-one : (n : ℕ) (xs : List ℕ) → n ≡ 1 → cond (nat_eq n 1) (1 ∷ []) xs ≡ 1 ∷ []
    sizes-one n xs e = grind arith

    first-of-one : (b : ℕ) → b < 1 → ◌≡◌ {A = ℕ} (get_or (1 ∷ []) b 0) 1
    first-of-one zero h = refl
    first-of-one (suc b) h = absurd (omega arith)

    block-one : (layout : List (List ℕ)) (bs : List ℕ) (k : ℕ) → IsIn (counts layout) bs → k < length layout → get_or layout k [] ≡ 1 ∷ [] → get_or (lengths_at layout bs) k 0 ≡ 1
    block-one [] bs k h lt e = absurd (omega arith)
    block-one (sizes ∷ layout) [] k h lt e = absurd h
    block-one (sizes ∷ layout) (b ∷ bs) zero h lt e = let few : length sizes ≡ 1 = ap length e in ap (λ xs. get_or xs b 0) e ∙ first-of-one b (omega (arith, h.0))
    block-one (sizes ∷ layout) (b ∷ bs) (suc k) h lt e = block-one layout bs k h.1 (omega arith) e

-- ---- each axis of the layout of a result has a chunk

sizes-same : (dims : List ℕ) (k axes : ℕ) (layout : List (List ℕ)) → length dims ≡ axes → get_or dims k 0 ≢ 1 → length_on axes k (lengths layout) ≡ get_or dims k 0
    → (sizes_on dims k layout ≡ get_or layout (k - (length dims - length layout)) []) × (k - (length dims - length layout) < length layout)
sizes-same dims k axes layout e d h =
    let ll : length (lengths layout) ≡ length layout = length-map layout (λ (sizes : List ℕ). total sizes) in
    let t = length_on-there axes k (get_or dims k 0) (lengths layout) d h in
    let off : axes - length (lengths layout) ≡ length dims - length layout = omega arith in
    let before = length dims - length layout in
    let is : total (get_or layout (k - before) []) ≡ get_or dims k 0 = total-on layout (k - before) ∙ ap (λ o. get_or (lengths layout) (k - o) 0) (sym off) ∙ t.2 in
    (picked k before (get_or dims k 0) (get_or layout (k - before) []) (omega (arith, t.0)) is, omega (arith, t.1))
  where
    picked : (k o n : ℕ) (xs : List ℕ) → o ≤ k → total xs ≡ n → cond (nat_lt k o) [] (cond (nat_eq (total xs) n) xs []) ≡ xs
    picked k o n xs h e = past k o (cond (nat_eq (total xs) n) xs []) h ∙ same (total xs) n xs e
      where
        past : (k o : ℕ) (ys : List ℕ) → o ≤ k → cond (nat_lt k o) [] ys ≡ ys
        past k o ys h = grind arith

        same : (m n : ℕ) (xs : List ℕ) → m ≡ n → cond (nat_eq m n) xs [] ≡ xs
        same m n xs h = grind arith

some-axis : (n : ℕ) (xs : List ℕ) → (n ≢ 1 → 0 < length xs) → 0 < length (cond (nat_eq n 1) (1 ∷ []) xs)
some-axis n xs h = elim (cases_eq n 1) [ inl e ↦ subst (λ ys. 0 < length ys) (sym (one n xs e)) (omega arith) | inr d ↦ subst (λ ys. 0 < length ys) (sym (other n xs d)) (h d) ]
  where
    one : (n : ℕ) (xs : List ℕ) → n ≡ 1 → cond (nat_eq n 1) (1 ∷ []) xs ≡ 1 ∷ []
    one n xs e = grind arith

    other : (n : ℕ) (xs : List ℕ) → n ≢ 1 → cond (nat_eq n 1) (1 ∷ []) xs ≡ xs
    other n xs e = grind arith

pub some-point : (dims : List ℕ) (layouts : List (List (List ℕ))) → dims ≡ broadcast (shapes_of layouts) → ((j : ℕ) → j < length layouts → HaveChunks (get_or layouts j [])) → HaveChunks (point_layout dims layouts)
some-point dims layouts e some =
    let axes = axes_of (shapes_of layouts) in
    let number : length dims ≡ axes = ap length e ∙ length-broadcast (shapes_of layouts) in
    some-each (point_layout dims layouts) (λ k h.
    let b : k < length dims = omega (arith, length-point dims layouts) in
    let dims-at : get_or dims k 0 ≡ common (lengths_on (shapes_of layouts) k) = ap (λ ns. get_or ns k 0) e ∙ broadcast-at (shapes_of layouts) k (omega arith) in
    subst (λ xs. 0 < length xs) (sym (point-at dims layouts k b)) (some-axis (get_or dims k 0) (joined_all (map (sizes_on dims k) layouts)) (λ d.
    let r = common-from (lengths_on (shapes_of layouts) k) (λ z. d (dims-at ∙ z)) in
    let jl : r.0 < length layouts = omega (arith, r.1, count-shapes axes k layouts) in
    let s = sizes-same dims k axes (get_or layouts r.0 []) number d (sym (shapes-at layouts axes k r.0 jl) ∙ r.2 ∙ sym dims-at) in
    some-joined_all (map (sizes_on dims k) layouts) r.0 (omega (arith, length-map layouts (sizes_on dims k)))
    (subst (λ xs. 0 < length xs) (sym (sizes-at dims k layouts r.0 jl ∙ s.0)) (chunks-on (get_or layouts r.0 []) _ (some r.0 jl) s.1)))))
