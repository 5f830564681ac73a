-- An axis that has a length has no empty chunk, whatever a layout is made by.
use Rattle.std.proofs.Common.{◌≡◌, ◌≢◌, ℕ, zero, suc, ◌+◌, ◌-◌, ◌/◌, ◌%◌, ◌<◌, ◌≤◌, cond, Bool, true, false, List, [], ◌∷◌, ◌++◌, length, map, get_or, sym, subst, arith, inl, inr, replicate}
use Rattle.std.specs.Prelude.{nat_eq, nat_lt, All}
use Rattle.std.specs.List.{AllByRecursion, range_with_len}
use Rattle.std.proofs.lemmas.Bool.{cases_eq, cases_lt}
use Rattle.small_facts.proofs.Every.{all_join}
use Rattle.small_facts.proofs.Lists.{rest_listed}
use Rattle.nd_shape.specs.declared.slice.Steps.{Steps}
use Rattle.nd_shape.specs.declared.chunk.ChunkSpec.{ChunkSpec}
use Rattle.nd_shape.specs.declared.chunk.ChunkSpec.TheVariants.{Even, List as Listed}
use Rattle.nd_shape.specs.Slice.{coordinate}
use Rattle.nd_shape.specs.Chunk.{total, chunks_of, CanCut}
use Rattle.nd_grid.specs.Grid.{is_among}
use Rattle.array_expr.specs.Axes.{AreCut}
use Rattle.chunk_layout.specs.Layouts.{normalized, chunk_of}
use Rattle.chunk_layout.specs.Slices.{Taken, Run, runs, taken_from, taken_of, or_nothing, counts_taken}
use Rattle.chunk_layout.specs.Unions.{Parted, parted, union}
use Rattle.chunk_layout.proofs.Slicings.{AllSome, some-runs}
use Rattle.lowering_laws.specs.Stages.{kept_axes, turned_layout, joined, joined_all, Along, along_from, along_all, or_empty}
use Rattle.lowering_laws.proofs.Cutting.{CanCutAll, can-cut}
use Rattle.lowering_laws.proofs.Sliced.{lists_of}
use Rattle.lowering_laws.proofs.Joined.{sizes_along}
use Rattle.lowering_laws.proofs.Trees.{rest-none}

-- no chunk is empty
abbrev pub AreFull : List ℕ → Type 0
AreFull sizes = AllByRecursion (λ n. n ≢ 0) sizes

-- none is, where they have a length together
abbrev pub AreTight : List ℕ → Type 0
AreTight sizes = total sizes ≢ 0 → AreFull sizes

abbrev pub IsTight : List (List ℕ) → Type 0
IsTight layout = AllByRecursion AreTight layout

pub tight-at : (layout : List (List ℕ)) (k : ℕ) → IsTight layout → AreTight (get_or layout k [])
tight-at [] k t h = tt
tight-at (sizes ∷ layout) zero t h = t.0 h
tight-at (sizes ∷ layout) (suc k) t h = tight-at layout k t.1 h

pub tight-each : (layout : List (List ℕ)) → ((k : ℕ) → k < length layout → AreTight (get_or layout k [])) → IsTight layout
tight-each [] h = tt
tight-each (sizes ∷ layout) h = (h 0 (omega arith), tight-each layout (λ k lt. h (suc k) (omega arith)))

pub full-at : (sizes : List ℕ) (b : ℕ) → AreFull sizes → b < length sizes → get_or sizes b 0 ≢ 0
full-at [] b f h = absurd (omega arith)
full-at (n ∷ sizes) zero f h = f.0
full-at (n ∷ sizes) (suc b) f h = full-at sizes b f.1 (omega arith)

-- ---- chunks that are given

full-replicate : (n size : ℕ) → size ≢ 0 → AreFull (replicate n size)
full-replicate zero size h = tt
full-replicate (suc n) size h = (h, full-replicate n size h)

full-rest : (r : ℕ) → AreFull (cond (nat_eq r 0) [] (r ∷ []))
full-rest r = elim (cases_eq r 0) [ inl e ↦ subst AreFull (sym (rest-none r e)) tt | inr d ↦ subst AreFull (sym (rest_listed r d)) (d, tt) ]

full-listed : (sizes : List ℕ) → All (λ size. size ≢ 0) sizes → AreFull sizes
full-listed [] a = tt
full-listed (n ∷ sizes) a = (a 0 0 (omega arith), full-listed sizes (λ j d h. a (suc j) d (omega (arith, h))))

tight-chunks : (n : ℕ) (spec : ChunkSpec) → CanCut n spec → AreTight (chunks_of n spec)
tight-chunks zero spec c h = absurd (h (omega arith))
tight-chunks (suc n) (Even size) c h = all_join (λ m. m ≢ 0) (replicate (suc n / size) size) (cond (nat_eq (suc n % size) 0) [] (suc n % size ∷ [])) (full-replicate (suc n / size) size c) (full-rest (suc n % size))
tight-chunks (suc n) (Listed sizes) c h = full-listed sizes c.0

tight-cut : (ns : List ℕ) (specs : List ChunkSpec) → CanCutAll ns specs → IsTight (normalized ns specs)
tight-cut [] specs c = tt
tight-cut (n ∷ ns) [] c = absurd c
tight-cut (n ∷ ns) (s ∷ specs) c = (tight-chunks n s c.0, tight-cut ns specs c.1)

pub tight-normalized : (ns : List ℕ) (specs : List ChunkSpec) → AreCut ns specs → IsTight (normalized ns specs)
tight-normalized ns specs a = tight-cut ns specs (can-cut ns specs a.axes a.each)

-- ---- axes that are kept, turned, joined

pub tight-kept : (k : ℕ) (layout : List (List ℕ)) (axes : List ℕ) → IsTight layout → IsTight (kept_axes k layout axes)
tight-kept k [] axes t = tt
tight-kept k (sizes ∷ layout) axes t = axis (is_among k axes) sizes (kept_axes (suc k) layout axes) t.0 (tight-kept (suc k) layout axes t.1)
  where
    axis : (b : Bool) (cs : List ℕ) (rest : List (List ℕ)) → AreTight cs → IsTight rest → IsTight (cond b rest (cs ∷ rest))
    axis true cs rest a r = r
    axis false cs rest a r = (a, r)

pub tight-turned : (axes : List ℕ) (layout : List (List ℕ)) → IsTight layout → IsTight (turned_layout axes layout)
tight-turned [] layout t = tt
tight-turned (a ∷ axes) layout t = (tight-at layout a t, tight-turned axes layout t)

pub tight-append : (xs ys : List (List ℕ)) → IsTight xs → IsTight ys → IsTight (xs ++ ys)
tight-append xs ys a b = all_join AreTight xs ys a b

-- ---- slices

full-runs : (sizes : List ℕ) (s : Steps) (t : ℕ) (rs : List Run) → AllSome rs → AreFull (counts_taken (taken_from sizes s t rs))
full-runs sizes s t [] a = tt
full-runs sizes s t (r ∷ rs) a = (some r.count a.0, full-runs sizes s (t + r.count) rs a.1)
  where
    some : (n : ℕ) → 0 < n → n ≢ 0
    some n h e = omega arith

tight-nothing : (s : Steps) (ps : List Taken) → AreFull (counts_taken ps) → AreTight (counts_taken (or_nothing s ps))
tight-nothing s [] a h = absurd (h (omega arith))
tight-nothing s (p ∷ ps) a h = a

tight-taken : (sizes : List ℕ) (s : Steps) → AreTight (counts_taken (taken_of sizes s))
tight-taken sizes s =
    let cs = map (λ t. chunk_of sizes (coordinate s t)) (range_with_len 0 s.count) in
    tight-nothing s (taken_from sizes s 0 (runs cs)) (full-runs sizes s 0 (runs cs) (some-runs cs))

pub tight-pieces : (layout : List (List ℕ)) (steps : List Steps) → IsTight (lists_of layout steps)
tight-pieces [] steps = tt
tight-pieces (sizes ∷ layout) [] = tt
tight-pieces (sizes ∷ layout) (s ∷ steps) = (tight-taken sizes s, tight-pieces layout steps)

-- ---- unions

record ArePartsFull (p : Parted) : Type 0 where
  front : AreFull p.front
  rest : AreFull p.rest

full-parted : (x : ℕ) (ys : List ℕ) → x ≢ 0 → AreFull ys → ArePartsFull (parted x ys)
full-parted x [] h f = record { front = (h, tt); rest = tt }
full-parted x (y ∷ ys) h f = elim (cases_lt y x) [
  | inl lt ↦ let r : ArePartsFull (parted (x - y) ys) = full-parted (x - y) ys (less x y lt) f.1 in
      subst ArePartsFull (sym (before x y ys (parted (x - y) ys) lt)) (record { front = (f.0, r.front); rest = r.rest })
  | inr ge ↦ elim (cases_eq y x) [
    | inl e ↦ subst ArePartsFull (sym (here x y ys (parted (x - y) ys) e)) (record { front = (h, tt); rest = f.1 })
    | inr d ↦ subst ArePartsFull (sym (behind x y ys (parted (x - y) ys) ge d)) (record { front = (h, tt); rest = (more x y ge d, f.1) })
  ]
]
  where
    less : (x y : ℕ) → y < x → x - y ≢ 0
    less x y h e = omega arith

    more : (x y : ℕ) → x ≤ y → y ≢ x → y - x ≢ 0
    more x y h d e = absurd (d (omega arith))

    before : (x y : ℕ) (ys : List ℕ) (p : Parted) → y < x → cond {A = Parted} (nat_lt y x) (record { front = y ∷ p.front; rest = p.rest }) (record { front = x ∷ []; rest = cond (nat_eq y x) ys ((y - x) ∷ ys) }) ≡ record { front = y ∷ p.front; rest = p.rest }
    before x y ys p h = grind arith

    here : (x y : ℕ) (ys : List ℕ) (p : Parted) → y ≡ x → cond {A = Parted} (nat_lt y x) (record { front = y ∷ p.front; rest = p.rest }) (record { front = x ∷ []; rest = cond (nat_eq y x) ys ((y - x) ∷ ys) }) ≡ record { front = x ∷ []; rest = ys }
    here x y ys p h = grind arith

    behind : (x y : ℕ) (ys : List ℕ) (p : Parted) → x ≤ y → y ≢ x → cond {A = Parted} (nat_lt y x) (record { front = y ∷ p.front; rest = p.rest }) (record { front = x ∷ []; rest = cond (nat_eq y x) ys ((y - x) ∷ ys) }) ≡ record { front = x ∷ []; rest = (y - x) ∷ ys }
    behind x y ys p h d = grind arith

pub full-union : (xs ys : List ℕ) → AreFull xs → AreFull ys → AreFull (union xs ys)
full-union [] ys a b = tt
full-union (x ∷ xs) ys a b =
    let p : ArePartsFull (parted x ys) = full-parted x ys a.0 b in
    all_join (λ n. n ≢ 0) (parted x ys).front (union xs (parted x ys).rest) p.front (full-union xs (parted x ys).rest a.1 p.rest)

full-joined : (xs ys : List ℕ) → AreFull xs → AreFull ys → AreFull (joined xs ys)
full-joined [] ys a b = b
full-joined (x ∷ xs) [] a b = a
full-joined (x ∷ xs) (y ∷ ys) a b = full-union (x ∷ xs) (y ∷ ys) a b

pub full-joined_all : (xss : List (List ℕ)) → ((j : ℕ) → AreFull (get_or xss j [])) → AreFull (joined_all xss)
full-joined_all [] h = tt
full-joined_all (xs ∷ xss) h = full-joined xs (joined_all xss) (h 0) (full-joined_all xss (λ j. h (suc j)))

-- ---- chunks of operands, one after another

full-along_from : (p k : ℕ) (sizes : List ℕ) → AreFull (sizes_along (along_from p k sizes))
full-along_from p k [] = tt
full-along_from p k (s ∷ sizes) = elim (cases_eq s 0) [
  | inl e ↦ subst (λ (xs : List Along). AreFull (sizes_along xs)) (sym (skips p k s sizes e)) (full-along_from p (suc k) sizes)
  | inr d ↦ subst (λ (xs : List Along). AreFull (sizes_along xs)) (sym (keeps p k s sizes d)) (d, full-along_from p (suc k) sizes)
]
  where
    skips : (p k s : ℕ) (rest : List ℕ) → s ≡ 0 → along_from p k (s ∷ rest) ≡ along_from p (suc k) rest
    skips p k s rest h = grind arith

    keeps : (p k s : ℕ) (rest : List ℕ) → s ≢ 0 → along_from p k (s ∷ rest) ≡ record { operand = p; chunk = k; size = s } ∷ along_from p (suc k) rest
    keeps p k s rest h = grind arith

full-along_all : (p : ℕ) (zs : List (List ℕ)) → AreFull (sizes_along (along_all p zs))
full-along_all p [] = tt
full-along_all p (z ∷ zs) = along-join (along_from p 0 z) (along_all (suc p) zs) (full-along_from p 0 z) (full-along_all (suc p) zs)
  where
    along-join : (xs ys : List Along) → AreFull (sizes_along xs) → AreFull (sizes_along ys) → AreFull (sizes_along (xs ++ ys))
    along-join [] ys a b = b
    along-join (x ∷ xs) ys a b = (a.0, along-join xs ys a.1 b)

pub tight-along : (zs : List (List ℕ)) → AreTight (sizes_along (or_empty (along_all 0 zs)))
tight-along zs = or-none (along_all 0 zs) (full-along_all 0 zs)
  where
    or-none : (xs : List Along) → AreFull (sizes_along xs) → AreTight (sizes_along (or_empty xs))
    or-none [] a h = absurd (h (omega arith))
    or-none (x ∷ xs) a h = a
