-- Each axis of a layout has a chunk, and layouts cut the shapes of their nodes.
use Rattle.std.proofs.Common.{◌≡◌, ◌≢◌, ℕ, zero, suc, ◌+◌, ◌-◌, ◌*◌, ◌/◌, ◌%◌, ◌<◌, cond, Bool, true, false, List, [], ◌∷◌, ◌++◌, length, get_or, refl, ap, ◌∙◌, arith, Some, replicate, length-append}
use Rattle.std.specs.Prelude.{nat_eq, nat_lt, slice_get}
use Rattle.nd_shape.specs.Chunk.{total, even_chunks, chunks_of, CanCut}
use Rattle.nd_grid.specs.Grid.{is_among}
use Rattle.nd_shape.specs.declared.chunk.ChunkSpec.{ChunkSpec}
use Rattle.array_expr.specs.Axes.{AreCut}
use Rattle.chunk_layout.specs.Layouts.{lengths, normalized}
use Rattle.chunk_layout.specs.Unions.{Parted, parted, union}
use Rattle.lowering_laws.specs.Stages.{kept_axes, turned_layout, joined, joined_all}
use Rattle.lowering_laws.specs.Law.{HaveChunks}
use Rattle.chunk_layout.proofs.Merging.{has-some}
use Rattle.nd_shape.proofs.Totals.{total-append, total-replicate, rest-total, total-chunks_of}

-- ---- chunks that are given

pub total-even : (n size : ℕ) → size ≢ 0 → total (even_chunks n size) ≡ n
total-even n size h =
    total-append (replicate (n / size) size) (cond (nat_eq (n % size) 0) [] (n % size ∷ []))
    ∙ ap (λ t. t + total (cond (nat_eq (n % size) 0) [] (n % size ∷ []))) (total-replicate (n / size) size)
    ∙ ap (λ t. n / size * size + t) (rest-total (n % size))
    ∙ whole n size (omega arith)
  where
    whole : (n size : ℕ) → 0 < size → n / size * size + n % size ≡ n
    whole n size h = omega arith

some-chunks : (n : ℕ) (spec : ChunkSpec) → CanCut n spec → 0 < length (chunks_of n spec)
some-chunks zero spec h = omega arith
some-chunks (suc n) spec h = has-some (chunks_of (suc n) spec) (omega (arith, total-chunks_of (suc n) spec h))

-- each axis can be cut
abbrev pub CanCutAll : List ℕ → List ChunkSpec → Type 0
CanCutAll [] specs = Unit {0}
CanCutAll (n ∷ ns) [] = ⊥
CanCutAll (n ∷ ns) (s ∷ specs) = CanCut n s × CanCutAll ns specs

pub can-cut : (ns : List ℕ) (specs : List ChunkSpec) → length specs ≡ length ns → ((k : ℕ) (spec : ChunkSpec) → slice_get specs k ≡ Some spec → CanCut (get_or ns k 0) spec) → CanCutAll ns specs
can-cut [] specs e h = tt
can-cut (n ∷ ns) [] e h = absurd (omega arith)
can-cut (n ∷ ns) (s ∷ specs) e h = (h 0 s refl, can-cut ns specs (omega arith) (λ k spec is. h (suc k) spec is))

lengths-cut : (ns : List ℕ) (specs : List ChunkSpec) → CanCutAll ns specs → lengths (normalized ns specs) ≡ ns
lengths-cut [] specs c = refl
lengths-cut (n ∷ ns) [] c = absurd c
lengths-cut (n ∷ ns) (s ∷ specs) c = ap (λ m. m ∷ lengths (normalized ns specs)) (total-chunks_of n s c.0) ∙ ap (λ ms. n ∷ ms) (lengths-cut ns specs c.1)

some-cut : (ns : List ℕ) (specs : List ChunkSpec) → CanCutAll ns specs → HaveChunks (normalized ns specs)
some-cut [] specs c = tt
some-cut (n ∷ ns) [] c = absurd c
some-cut (n ∷ ns) (s ∷ specs) c = (some-chunks n s c.0, some-cut ns specs c.1)

pub lengths-normalized : (ns : List ℕ) (specs : List ChunkSpec) → AreCut ns specs → lengths (normalized ns specs) ≡ ns
lengths-normalized ns specs a = lengths-cut ns specs (can-cut ns specs a.axes a.each)

pub some-normalized : (ns : List ℕ) (specs : List ChunkSpec) → AreCut ns specs → HaveChunks (normalized ns specs)
some-normalized ns specs a = some-cut ns specs (can-cut ns specs a.axes a.each)

-- ---- axes that are kept, turned

pub chunks-on : (layout : List (List ℕ)) (k : ℕ) → HaveChunks layout → k < length layout → 0 < length (get_or layout k [])
chunks-on [] k c h = absurd (omega arith)
chunks-on (sizes ∷ layout) zero c h = c.0
chunks-on (sizes ∷ layout) (suc k) c h = chunks-on layout k c.1 (omega arith)

pub some-each : (layout : List (List ℕ)) → ((k : ℕ) → k < length layout → 0 < length (get_or layout k [])) → HaveChunks layout
some-each [] h = tt
some-each (sizes ∷ layout) h = (h 0 (omega arith), some-each layout (λ k lt. h (suc k) (omega arith)))

pub some-kept : (k : ℕ) (layout : List (List ℕ)) (axes : List ℕ) → HaveChunks layout → HaveChunks (kept_axes k layout axes)
some-kept k [] axes c = tt
some-kept k (sizes ∷ layout) axes c = axis (is_among k axes) sizes (kept_axes (suc k) layout axes) c.0 (some-kept (suc k) layout axes c.1)
  where
    axis : (b : Bool) (cs : List ℕ) (rest : List (List ℕ)) → 0 < length cs → HaveChunks rest → HaveChunks (cond b rest (cs ∷ rest))
    axis true cs rest a r = r
    axis false cs rest a r = (a, r)

pub some-turned : (axes : List ℕ) (layout : List (List ℕ)) → HaveChunks layout → ((j : ℕ) → j < length axes → get_or axes j 0 < length layout) → HaveChunks (turned_layout axes layout)
some-turned [] layout c h = tt
some-turned (a ∷ axes) layout c h = (chunks-on layout a c (h 0 (omega arith)), some-turned axes layout c (λ j lt. h (suc j) (omega arith)))

-- ---- unions

some-append : {A : Type 0} (xs ys : List A) → 0 < length xs → 0 < length (xs ++ ys)
some-append xs ys h = omega (arith, length-append xs ys)

some-parted : (x : ℕ) (ys : List ℕ) → 0 < length (parted x ys).front
some-parted x [] = omega arith
some-parted x (y ∷ ys) = more (nat_lt y x) x y ys (parted (x - y) ys)
  where
    more : (b : Bool) (x y : ℕ) (ys : List ℕ) (p : Parted) → 0 < length (cond {A = Parted} b (record { front = y ∷ p.front; rest = p.rest }) (record { front = x ∷ []; rest = cond (nat_eq y x) ys ((y - x) ∷ ys) })).front
    more true x y ys p = omega arith
    more false x y ys p = omega arith

pub some-union : (xs ys : List ℕ) → 0 < length xs → 0 < length (union xs ys)
some-union [] ys h = absurd (omega arith)
some-union (x ∷ xs) ys h = some-append (parted x ys).front (union xs (parted x ys).rest) (some-parted x ys)

some-left : (xs ys : List ℕ) → 0 < length xs → 0 < length (joined xs ys)
some-left [] ys h = absurd (omega arith)
some-left (x ∷ xs) [] h = omega arith
some-left (x ∷ xs) (y ∷ ys) h = some-union (x ∷ xs) (y ∷ ys) (omega arith)

some-right : (xs ys : List ℕ) → 0 < length ys → 0 < length (joined xs ys)
some-right [] ys h = h
some-right (x ∷ xs) [] h = omega arith
some-right (x ∷ xs) (y ∷ ys) h = some-union (x ∷ xs) (y ∷ ys) (omega arith)

pub some-joined_all : (xss : List (List ℕ)) (j : ℕ) → j < length xss → 0 < length (get_or xss j []) → 0 < length (joined_all xss)
some-joined_all [] j h s = absurd (omega arith)
some-joined_all (xs ∷ xss) zero h s = some-left xs (joined_all xss) s
some-joined_all (xs ∷ xss) (suc j) h s = some-right xs (joined_all xss) (some-joined_all xss j (omega arith) s)
