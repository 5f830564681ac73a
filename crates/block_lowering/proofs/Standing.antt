-- A layout that was cut short stands for the one that was asked for: a graph refuses both alike.
use Rattle.std.proofs.Common.{◌≡◌, ℕ, zero, suc, ◌+◌, ◌-◌, ◌*◌, ◌/◌, ◌%◌, ◌<◌, ◌≤◌, cond, Bool, true, false, List, [], ◌∷◌, ◌++◌, length, map, take, drop, get_or, replicate, min, refl, ap, sym, subst, ◌∙◌, inl, inr, arith, length-append, append_assoc, append-nil, Option, Some, Result, IfOk}
use Rattle.std.specs.Prelude.{◌⊎◌, nat_eq, nat_lt}
use Rattle.std.specs.List.{range_with_len}
use Rattle.std.proofs.Math.Nat.{div-le_self, div-eq_of_lt, mod-eq_of_lt, mul_comm}
use Rattle.std.proofs.lemmas.Bool.{cases_lt, lt-ltb}
use Rattle.std.proofs.lemmas.List.{drop_more, length-replicate, length-map, map-append}
use Rattle.std.proofs.lemmas.List.FromFn.{length-map-range_with_len}
use Rattle.std.proofs.lemmas.Nat.{le-div}
use Rattle.std.proofs.lemmas.Result.{IfOk-weaker}
use Rattle.small_facts.proofs.Lists.{rest_listed}
use Rattle.small_facts.proofs.Ranges.{range_parts}
use Rattle.nd_shape.specs.declared.chunk.ChunkSpec.{ChunkSpec}
use Rattle.nd_shape.specs.Chunk.{total, even_chunks, chunks_of}
use Rattle.nd_shape.specs.Index.{index_at}
use Rattle.nd_shape.specs.Shape.{elements}
use Rattle.nd_shape.proofs.Totals.{chunks_of-even}
use Rattle.chunk_layout.specs.Layouts.{normalized, counts, blocks, lengths, starts_at, lengths_at, region}
use Rattle.chunk_layout.specs.Cuts.{IsCut, AllCut}
use Rattle.cluster_msgs.specs.Shape.{IsShape}
use Rattle.task_graph.specs.declared.graph.Task.{Task}
use Rattle.task_graph.specs.Graphs.{shape_of}
use Rattle.task_graph.specs.declared.limit.Quantity.{Quantity}
use Rattle.task_graph.specs.declared.limit.Quantity.TheVariants.{Keys}
use Rattle.lowering_laws.specs.Lowered.{limit_at, limit_from}
use Rattle.lowering_laws.proofs.Cutting.{total-even}
use Rattle.lowering_laws.specs.Sources.{Source, one_each}
use Rattle.block_lowering.specs.Growing.{Refuses, IsGrown}
use Rattle.block_lowering.specs.Shortened.{IsShortened, IsShort}
use Rattle.block_lowering.specs.Standing.{StandsFor}
use Rattle.block_lowering.specs.declared.error.LowerError.{LowerError}
use Rattle.block_lowering.specs.declared.error.LowerError.TheVariants.{Limit, OutOfMemory}

-- ---- one axis

-- as long as the other, cut alike at its first chunks, and equal or of more chunks than a graph has keys
record StandsOn (exact given : List ℕ) : Type 0 where
  total_is : total given ≡ total exact
  some_exact : 0 < length exact
  some_given : 0 < length given
  count : (given ≡ exact) ⊎ ((32768 < length given) × (32768 < length exact))
  start : (b : ℕ) → b < 32768 → total (take b given) ≡ total (take b exact)
  size : (b : ℕ) → b < 32768 → get_or given b 0 ≡ get_or exact b 0

on-itself : (xs : List ℕ) → 0 < length xs → StandsOn xs xs
on-itself xs h = record { total_is = refl; some_exact = h; some_given = h; count = inl refl; start = λ b l. refl; size = λ b l. refl }

front-total : (n b x : ℕ) (ys : List ℕ) → b ≤ n → total (take b (replicate n x ++ ys)) ≡ b * x
front-total n zero x ys h = omega arith
front-total zero (suc b) x ys h = absurd (omega arith)
front-total (suc n) (suc b) x ys h = let r : total (take b (replicate n x ++ ys)) ≡ b * x = front-total n b x ys (omega arith) in omega arith

front-size : (n b x : ℕ) (ys : List ℕ) → b < n → get_or (replicate n x ++ ys) b 0 ≡ x
front-size zero b x ys h = absurd (omega arith)
front-size (suc n) zero x ys h = refl
front-size (suc n) (suc b) x ys h = front-size n b x ys (omega arith)

all-total : (n x : ℕ) (ys : List ℕ) → total (replicate n x ++ ys) ≡ n * x + total ys
all-total zero x ys = omega arith
all-total (suc n) x ys = let r : total (replicate n x ++ ys) ≡ n * x + total ys = all-total n x ys in omega arith

front-length : (n x : ℕ) (ys : List ℕ) → length (replicate n x ++ ys) ≡ n + length ys
front-length n x ys = length-append (replicate n x) ys ∙ ap (λ k. k + length ys) (length-replicate n x)

-- what is left is one more chunk
rest-some : (r : ℕ) → 0 < r → length (cond (nat_eq r 0) [] (r ∷ [])) ≡ 1
rest-some r h = ap {A = List ℕ} (λ xs. length xs) (rest_listed r (omega arith))

even-length : (n len size : ℕ) → 0 < size → n * size < len → n < length (even_chunks len size)
even-length n len size s more =
    let rest = cond (nat_eq (len % size) 0) [] (len % size ∷ []) in
    let count : length (even_chunks len size) ≡ len / size + length (cond (nat_eq (len % size) 0) [] (len % size ∷ [])) = front-length (len / size) size (cond (nat_eq (len % size) 0) [] (len % size ∷ [])) in
    let low : n ≤ len / size = le-div n len size s (omega arith) in
    elim (cases_lt n (len / size)) [
      | inl lt ↦ omega arith
      | inr ge ↦
          let same : len / size ≡ n = omega arith in
          let left : 0 < len % size = remains n len size same s more in
          let one : length (cond (nat_eq (len % size) 0) [] (len % size ∷ [])) ≡ 1 = rest-some (len % size) left in
          omega arith
    ]
  where
    whole : (len size : ℕ) → 0 < size → size * (len / size) + len % size ≡ len
    whole len size s = omega arith

    remains : (n len size : ℕ) → len / size ≡ n → 0 < size → n * size < len → 0 < len % size
    remains n len size e s more =
        let w : size * (len / size) + len % size ≡ len = whole len size s in
        let p : size * (len / size) ≡ size * n = ap (λ k. size * k) e in
        let q : size * n ≡ n * size = mul_comm size n in
        omega arith

-- the chunks of an axis that was cut short
on-short : (n len size : ℕ) (given : List ℕ) → n ≡ 32768 → 0 < size → n * size < len → given ≡ replicate n size ++ (len - n * size) ∷ [] → StandsOn (even_chunks len size) given
on-short n len size given is s more e =
    let rest : List ℕ = cond (nat_eq (len % size) 0) [] (len % size ∷ []) in
    let low : n ≤ len / size = le-div n len size s (omega arith) in
    let count_given : length given ≡ n + 1 = ap (λ xs. length xs) e ∙ front-length n size ((len - n * size) ∷ []) in
    let count_exact : n < length (even_chunks len size) = even-length n len size s more in
    let sum : total given ≡ n * size + (len - n * size + 0) = ap total e ∙ all-total n size ((len - n * size) ∷ []) in
    let all : total (even_chunks len size) ≡ len = total-even len size (omega arith) in
    record {
      total_is = omega arith;
      some_exact = omega arith;
      some_given = omega arith;
      count = inr (omega arith, omega arith);
      start = λ b l. ap (λ xs. total (take b xs)) e ∙ front-total n b size ((len - n * size) ∷ []) (omega arith) ∙ sym (front-total (len / size) b size (cond (nat_eq (len % size) 0) [] (len % size ∷ [])) (omega arith));
      size = λ b l. ap (λ xs. get_or xs b 0) e ∙ front-size n b size ((len - n * size) ∷ []) (omega arith) ∙ sym (front-size (len / size) b size (cond (nat_eq (len % size) 0) [] (len % size ∷ [])) (omega arith));
    }

on-axis : (len : ℕ) (spec : ChunkSpec) (given : List ℕ) → IsShort len spec given → IsCut given → StandsOn (chunks_of len spec) given
on-axis len spec given (inl e) cut = subst (λ xs. StandsOn xs given) e (on-itself given cut.some)
on-axis len spec given (inr s) cut =
    let t : IsShortened len s.size given = s.short in
    let m = t.more in
    let is : chunks_of len spec ≡ even_chunks len s.size = ap (chunks_of len) s.even ∙ chunks_of-even len s.size (omega arith) in
    subst (λ xs. StandsOn xs given) (sym is) (on-short t.count len s.size given t.count_is s.some t.more t.sizes_are)

-- ---- all axes

-- each axis has its chunks, or the first of them and the rest
abbrev pub AllShort : List ℕ → List ChunkSpec → List (List ℕ) → Type 0
AllShort [] specs [] = Unit {0}
AllShort [] specs (x ∷ xs) = ⊥
AllShort (n ∷ ns) [] [] = Unit {0}
AllShort (n ∷ ns) [] (x ∷ xs) = ⊥
AllShort (n ∷ ns) (s ∷ specs) [] = ⊥
AllShort (n ∷ ns) (s ∷ specs) (x ∷ xs) = IsShort n s x × AllShort ns specs xs

none-short : (dims : List ℕ) → AllShort dims [] []
none-short [] = tt
none-short (n ∷ dims) = tt

-- no axis is left
pub short-end : (dims : List ℕ) (specs : List ChunkSpec) (k : ℕ) → min (length dims) (length specs) ≤ k → AllShort (drop k dims) (drop k specs) []
short-end [] specs zero h = tt
short-end [] specs (suc k) h = tt
short-end (n ∷ dims) [] zero h = tt
short-end (n ∷ dims) [] (suc k) h = none-short (drop k dims)
short-end (n ∷ dims) (s ∷ specs) zero h = absurd (omega arith)
short-end (n ∷ dims) (s ∷ specs) (suc k) h = short-end dims specs k (omega arith)

-- one axis more, before all that may follow
pub short-more : (dims : List ℕ) (specs : List ChunkSpec) (k : ℕ) (spec : ChunkSpec) (axes : List (List ℕ)) (sizes : List ℕ) → k < length dims → k < length specs → spec ≡ get_or specs k spec → IsShort (get_or dims k 0) spec sizes
    → ((rest : List (List ℕ)) → AllShort (drop k dims) (drop k specs) rest → AllShort dims specs (axes ++ rest))
    → (rest : List (List ℕ)) → AllShort (drop (k + 1) dims) (drop (k + 1) specs) rest → AllShort dims specs (axes ++ sizes ∷ [] ++ rest)
short-more dims specs k spec axes sizes h g is short before rest r =
    let ds : drop k dims ≡ get_or dims k 0 ∷ drop (k + 1) dims = drop_more dims k 0 h in
    let ss : drop k specs ≡ spec ∷ drop (k + 1) specs = drop_more specs k spec g ∙ ap (λ (s : ChunkSpec). s ∷ drop (k + 1) specs) (sym is) in
    let own : AllShort (get_or dims k 0 ∷ drop (k + 1) dims) (spec ∷ drop (k + 1) specs) (sizes ∷ rest) = (short, r) in
    let here : AllShort (drop k dims) (drop k specs) (sizes ∷ rest) =
    subst (λ (xs : List ℕ). AllShort xs (drop k specs) (sizes ∷ rest)) (sym ds) (subst (λ (xs : List ChunkSpec). AllShort (get_or dims k 0 ∷ drop (k + 1) dims) xs (sizes ∷ rest)) (sym ss) own) in
    subst (λ (xs : List (List ℕ)). AllShort dims specs xs) (sym (append_assoc axes (sizes ∷ []) rest)) (before (sizes ∷ rest) here)

abbrev AllStand : List (List ℕ) → List (List ℕ) → Type 0
AllStand [] [] = Unit {0}
AllStand [] (y ∷ given) = ⊥
AllStand (x ∷ exact) [] = ⊥
AllStand (x ∷ exact) (y ∷ given) = StandsOn x y × AllStand exact given

all-stand : (dims : List ℕ) (specs : List ChunkSpec) (given : List (List ℕ)) → AllShort dims specs given → AllCut given → AllStand (normalized dims specs) given
all-stand [] specs [] a cut = tt
all-stand [] specs (x ∷ given) a cut = absurd a
all-stand (n ∷ dims) [] [] a cut = tt
all-stand (n ∷ dims) [] (x ∷ given) a cut = absurd a
all-stand (n ∷ dims) (s ∷ specs) [] a cut = absurd a
all-stand (n ∷ dims) (s ∷ specs) (x ∷ given) a cut = (on-axis n s x a.0 cut.0, all-stand dims specs given a.1 cut.1)

times : (m a b : ℕ) → m < a → 0 < b → m < a * b
times m a zero h p = absurd (omega arith)
times m a (suc b) h p = omega arith

record HaveBlocks (exact given : List (List ℕ)) : Type 0 where
  exact_some : 0 < blocks exact
  given_some : 0 < blocks given

have-blocks : (exact given : List (List ℕ)) → AllStand exact given → HaveBlocks exact given
have-blocks [] [] a = record { exact_some = omega arith; given_some = omega arith }
have-blocks [] (y ∷ given) a = absurd a
have-blocks (x ∷ exact) [] a = absurd a
have-blocks (x ∷ exact) (y ∷ given) a =
    let s : StandsOn x y = a.0 in
    let r : HaveBlocks exact given = have-blocks exact given a.1 in
    record { exact_some = times 0 (length x) (blocks exact) s.some_exact r.exact_some; given_some = times 0 (length y) (blocks given) s.some_given r.given_some }

times-right : (m a b : ℕ) → m < b → 0 < a → m < a * b
times-right m zero b h p = absurd (omega arith)
times-right m (suc a) b h p = omega arith

-- none was cut short, or neither layout has room
all-or-many : (exact given : List (List ℕ)) → AllStand exact given → (given ≡ exact) ⊎ ((32768 < blocks given) × (32768 < blocks exact))
all-or-many [] [] a = inl refl
all-or-many [] (y ∷ given) a = absurd a
all-or-many (x ∷ exact) [] a = absurd a
all-or-many (x ∷ exact) (y ∷ given) a =
    let s : StandsOn x y = a.0 in
    let r : HaveBlocks exact given = have-blocks exact given a.1 in
    elim (all-or-many exact given a.1) [
      | inl e ↦ elim s.count [
        | inl d ↦ inl (ap (λ (xs : List ℕ). xs ∷ given) d ∙ ap (λ (xss : List (List ℕ)). x ∷ xss) e)
        | inr m ↦ inr (times 32768 (length y) (blocks given) m.0 r.given_some, times 32768 (length x) (blocks exact) m.1 r.exact_some)
      ]
      | inr m ↦ inr (times-right 32768 (length y) (blocks given) m.0 s.some_given, times-right 32768 (length x) (blocks exact) m.1 s.some_exact)
    ]

record SameBox (exact given : List (List ℕ)) (c : ℕ) : Type 0 where
  start : starts_at given (index_at (counts given) c) ≡ starts_at exact (index_at (counts exact) c)
  size : lengths_at given (index_at (counts given) c) ≡ lengths_at exact (index_at (counts exact) c)

-- behind an axis that was cut short, the first blocks lie in the first chunks of all axes before it
same-box : (exact given : List (List ℕ)) (c : ℕ) → AllStand exact given → c < 32768 → SameBox exact given c
same-box [] [] c a lt = record { start = refl; size = refl }
same-box [] (y ∷ given) c a lt = absurd a
same-box (x ∷ exact) [] c a lt = absurd a
same-box (x ∷ exact) (y ∷ given) c a lt =
    let s : StandsOn x y = a.0 in
    elim (all-or-many exact given a.1) [
      | inl e ↦
          let b : c / blocks exact < 32768 = omega (arith, div-le_self c (blocks exact)) in
          record {
            start = ap (λ (l : List (List ℕ)). total (take (c / blocks l) y) ∷ starts_at l (index_at (counts l) (c % blocks l))) e
                ∙ ap (λ k. k ∷ starts_at exact (index_at (counts exact) (c % blocks exact))) (s.start (c / blocks exact) b);
            size = ap (λ (l : List (List ℕ)). get_or y (c / blocks l) 0 ∷ lengths_at l (index_at (counts l) (c % blocks l))) e
                ∙ ap (λ k. k ∷ lengths_at exact (index_at (counts exact) (c % blocks exact))) (s.size (c / blocks exact) b);
          }
      | inr m ↦
          let r : SameBox exact given c = same-box exact given c a.1 lt in
          let m0 = m.0 in
          let m1 = m.1 in
          let d : c / blocks given ≡ 0 = div-eq_of_lt (omega arith) in
          let d' : c / blocks exact ≡ 0 = div-eq_of_lt (omega arith) in
          let n : c % blocks given ≡ c = mod-eq_of_lt (omega arith) in
          let n' : c % blocks exact ≡ c = mod-eq_of_lt (omega arith) in
          record {
            start = ap (λ q. total (take q y) ∷ starts_at given (index_at (counts given) (c % blocks given))) d
                ∙ ap (λ p. 0 ∷ starts_at given (index_at (counts given) p)) n ∙ ap (λ xs. 0 ∷ xs) r.start
                ∙ ap (λ p. 0 ∷ starts_at exact (index_at (counts exact) p)) (sym n') ∙ ap (λ q. total (take q x) ∷ starts_at exact (index_at (counts exact) (c % blocks exact))) (sym d');
            size = ap (λ q. get_or y q 0 ∷ lengths_at given (index_at (counts given) (c % blocks given))) d
                ∙ ap (λ p. get_or y 0 0 ∷ lengths_at given (index_at (counts given) p)) n ∙ ap (λ k. k ∷ lengths_at given (index_at (counts given) c)) (s.size 0 (omega arith)) ∙ ap (λ xs. get_or x 0 0 ∷ xs) r.size
                ∙ ap (λ p. get_or x 0 0 ∷ lengths_at exact (index_at (counts exact) p)) (sym n') ∙ ap (λ q. get_or x q 0 ∷ lengths_at exact (index_at (counts exact) (c % blocks exact))) (sym d');
          }
    ]

same-lengths : (exact given : List (List ℕ)) → AllStand exact given → lengths given ≡ lengths exact
same-lengths [] [] a = refl
same-lengths [] (y ∷ given) a = absurd a
same-lengths (x ∷ exact) [] a = absurd a
same-lengths (x ∷ exact) (y ∷ given) a =
    let s : StandsOn x y = a.0 in
    ap (λ k. k ∷ lengths given) s.total_is ∙ ap (λ ks. total x ∷ ks) (same-lengths exact given a.1)

same-region : (exact given : List (List ℕ)) (c : ℕ) → SameBox exact given c → region given c ≡ region exact c
same-region exact given c s = let a = s.start in let b = s.size in cc

pub short-stands : (dims : List ℕ) (specs : List ChunkSpec) (given : List (List ℕ)) → AllShort dims specs given → AllCut given → 32768 < blocks (normalized dims specs) → StandsFor (normalized dims specs) given
short-stands dims specs given a cut more =
    let all : AllStand (normalized dims specs) given = all-stand dims specs given a cut in
    record {
      same = λ few. absurd (omega arith);
      many = λ m. elim (all-or-many (normalized dims specs) given all) [ inl e ↦ subst (λ (l : List (List ℕ)). 32768 < blocks l) (sym e) m | inr n ↦ n.0 ];
      first = λ c lt there. same-region (normalized dims specs) given c (same-box (normalized dims specs) given c all lt);
      shape = same-lengths (normalized dims specs) given all;
    }

-- the axes of a loop that took all of them
pub short-all : (dims : List ℕ) (specs : List ChunkSpec) (k : ℕ) (axes given : List (List ℕ)) → ((rest : List (List ℕ)) → AllShort (drop k dims) (drop k specs) rest → AllShort dims specs (axes ++ rest)) → min (length dims) (length specs) ≤ k
    → given ≡ axes → AllCut given → 32768 < blocks (normalized dims specs) → StandsFor (normalized dims specs) given
short-all dims specs k axes given before end e cut more =
    let all : AllShort dims specs (axes ++ []) = before [] (short-end dims specs k end) in
    short-stands dims specs given (subst (λ (l : List (List ℕ)). AllShort dims specs l) (append-nil axes ∙ sym e) all) cut more

-- the sizes that were put together
pub is-shortened : {E : Type 0} (n len size : ℕ) (r : Result (List ℕ) E) (made items : List ℕ) → n ≡ 32768 → n * size < len → items ≡ replicate n size → made ≡ items ++ (len - n * size) ∷ [] → IfOk r (λ cuts. cuts ≡ made)
    → IfOk r (IsShortened len size)
is-shortened n len size r made items is more e m h = IfOk-weaker r (λ cuts. cuts ≡ made) (IsShortened len size) (λ cuts c. record {
  count = n;
  count_is = is;
  more = more;
  sizes_are = c ∙ m ∙ ap (λ xs. xs ++ (len - n * size) ∷ []) e;
}) h

pub stands-itself : (exact given : List (List ℕ)) → given ≡ exact → StandsFor exact given
stands-itself exact given e = record {
  same = λ few. e;
  many = λ m. subst (λ (l : List (List ℕ)). 32768 < blocks l) (sym e) m;
  first = λ c lt there. ap (λ (l : List (List ℕ)). region l c) e;
  shape = ap lengths e;
}

-- ---- graphs

-- what has room is what was asked for
pub stands-grown : (exact given : List (List ℕ)) → StandsFor exact given → blocks given ≤ 32768 → given ≡ exact
stands-grown exact given s few = elim (cases_lt 32768 (blocks exact)) [
  | inl lt ↦ let m : 32768 < blocks given = s.many lt in absurd (omega arith)
  | inr ge ↦ s.same ge
]

same-tasks : (f g : ℕ → Task) (a n : ℕ) → ((c : ℕ) → c < a + n → g c ≡ f c) → map g (range_with_len a n) ≡ map f (range_with_len a n)
same-tasks f g a zero h = refl
same-tasks f g a (suc n) h = ap (λ t. t ∷ map g (range_with_len (a + 1) n)) (h a (omega arith)) ∙ ap (λ ts. f a ∷ ts) (same-tasks f g (a + 1) n (λ c lt. h c (omega arith)))

full : (b : Bool) (x y : Option Quantity) → b ≡ true → cond b (Some Keys) x ≡ cond b (Some Keys) y
full true x y h = refl
full false x y h = absurd cc

-- a graph decides over as many tasks as it has keys, whatever follows
decided : (front r s : List Task) (x y : Task) (keys edges : ℕ) → 32768 ≤ keys + length front → limit_from keys edges (front ++ x ∷ r) ≡ limit_from keys edges (front ++ y ∷ s)
decided [] r s x y keys edges h = full (nat_lt 32767 keys) _ _ (lt-ltb 32767 keys (omega arith))
decided (t ∷ front) r s x y keys edges h = ap (λ more. limit_at keys edges t more) (decided front r s x y (suc keys) (edges + length t.deps) (omega arith))

parted : (old rest : List Task) (f : ℕ → Task) (n m a : ℕ) → n + suc m ≡ a
    → old ++ map f (range_with_len 0 a) ++ rest ≡ old ++ map f (range_with_len 0 n) ++ f (0 + n) ∷ (map f (range_with_len (0 + n + 1) m) ++ rest)
parted old rest f n m a e =
    ap (λ k. old ++ map f (range_with_len 0 k) ++ rest) (sym e) ∙ ap (λ ts. old ++ ts ++ rest) (ap (map f) (range_parts 0 n (suc m)) ∙ map-append f (range_with_len 0 n) (range_with_len (0 + n) (suc m)))
    ∙ ap (λ ts. ts ++ rest) (sym (append_assoc old (map f (range_with_len 0 n)) (map f (range_with_len (0 + n) (suc m)))))
    ∙ append_assoc (old ++ map f (range_with_len 0 n)) (map f (range_with_len (0 + n) (suc m))) rest

many-refused : (n : ℕ) (old : List Task) (f g : ℕ → Task) (a b : ℕ) (e : LowerError) → n ≡ 32768 → n < a → n < b → ((c : ℕ) → c < 0 + n → g c ≡ f c) → Refuses old (map g (range_with_len 0 b)) e → Refuses old (map f (range_with_len 0 a)) e
many-refused n old f g a b OutOfMemory is la lb same r = tt
many-refused n old f g a b (Limit q) is la lb same r =
    let ea : n + suc (a - suc n) ≡ a = omega arith in
    let eb : n + suc (b - suc n) ≡ b = omega arith in
    let front : map g (range_with_len 0 n) ≡ map f (range_with_len 0 n) = same-tasks f g 0 n same in
    let count : 32768 ≤ 0 + length (old ++ map f (range_with_len 0 n)) = enough n old f is in
    λ rest. ap (limit_from 0 0) (parted old rest f n (a - suc n) a ea)
    ∙ decided (old ++ map f (range_with_len 0 n)) (map f (range_with_len (0 + n + 1) (a - suc n)) ++ rest) (map g (range_with_len (0 + n + 1) (b - suc n)) ++ rest) (f (0 + n)) (g (0 + n)) 0 0 count
    ∙ ap (λ ts. limit_from 0 0 (old ++ ts ++ g (0 + n) ∷ (map g (range_with_len (0 + n + 1) (b - suc n)) ++ rest))) (sym front)
    ∙ ap (limit_from 0 0) (sym (parted old rest g n (b - suc n) b eb)) ∙ r rest
  where
    enough : (n : ℕ) (old : List Task) (f : ℕ → Task) → n ≡ 32768 → 32768 ≤ 0 + length (old ++ map f (range_with_len 0 n))
    enough n old f is = omega (arith, length-append old (map f (range_with_len 0 n)), length-map-range_with_len f 0 n)

-- tasks that depend on the box of their block alone
pub stands-same : (exact given : List (List ℕ)) (f g : ℕ → Task) → given ≡ exact → ((c : ℕ) → region given c ≡ region exact c → g c ≡ f c) → map g (range_with_len 0 (blocks given)) ≡ map f (range_with_len 0 (blocks exact))
stands-same exact given f g is alike =
    ap (λ (l : List (List ℕ)). map g (range_with_len 0 (blocks l))) is ∙ same-tasks f g 0 (blocks exact) (λ c l. alike c (ap (λ (l : List (List ℕ)). region l c) is))

pub stands-refused : (old : List Task) (exact given : List (List ℕ)) (f g : ℕ → Task) (e : LowerError) → StandsFor exact given → ((c : ℕ) → region given c ≡ region exact c → g c ≡ f c)
    → Refuses old (map g (range_with_len 0 (blocks given))) e → Refuses old (map f (range_with_len 0 (blocks exact))) e
stands-refused old exact given f g e s alike r = elim (cases_lt 32768 (blocks exact)) [
  | inl lt ↦ many-refused 32768 old f g (blocks exact) (blocks given) e refl lt (s.many lt) (λ c l. alike c (s.first c (omega arith) (omega arith))) r
  | inr ge ↦ subst (λ ts. Refuses old ts e) (stands-same exact given f g (s.same ge) alike) r
]

-- ---- arrays

-- the tasks of an array that was made in the layout that stands for another
pub one-grown : (old new : List Task) (exact given : List (List ℕ)) (f g : List ℕ → Task) (ns : List ℕ) (s : Source) → StandsFor exact given → ns ≡ counts given
    → ((c : ℕ) → region given c ≡ region exact c → g (index_at (counts given) c) ≡ f (index_at (counts exact) c)) → IsShape (shape_of new)
    → new ≡ old ++ map (λ c. g (index_at ns c)) (range_with_len 0 (elements ns)) → s ≡ record { layout = given; first = length old; stride = 1 } → IsGrown old (one_each (length old) exact f) new s
one-grown old new exact given f g ns s stands is alike shape e sis =
    let own : new ≡ old ++ map (λ c. g (index_at (counts given) c)) (range_with_len 0 (blocks given)) = e ∙ ap (λ ks. old ++ map (λ c. g (index_at ks c)) (range_with_len 0 (elements ks))) is in
    let few : length new ≤ 32768 = omega (arith, length-map new (λ (t : Task). t.deps), shape.few) in
    let all : length new ≡ length old + length (map (λ c. g (index_at (counts given) c)) (range_with_len 0 (blocks given))) = ap length own ∙ length-append old (map (λ c. g (index_at (counts given) c)) (range_with_len 0 (blocks given))) in
    let count : length (map (λ c. g (index_at (counts given) c)) (range_with_len 0 (blocks given))) ≡ blocks given = length-map-range_with_len (λ c. g (index_at (counts given) c)) 0 (blocks given) in
    let same : given ≡ exact = stands-grown exact given stands (omega arith) in
    record {
      tasks = own ∙ ap (λ ts. old ++ ts) (stands-same exact given (λ c. f (index_at (counts exact) c)) (λ c. g (index_at (counts given) c)) same alike);
      source = sis ∙ ap (λ (l : List (List ℕ)). let t : Source = record { layout = l; first = length old; stride = 1 } in t) same;
    }

pub one-refused : (old : List Task) (exact given : List (List ℕ)) (f g : List ℕ → Task) (ns : List ℕ) (e : LowerError) → StandsFor exact given → ns ≡ counts given
    → ((c : ℕ) → region given c ≡ region exact c → g (index_at (counts given) c) ≡ f (index_at (counts exact) c))
    → Refuses old (map (λ c. g (index_at ns c)) (range_with_len 0 (elements ns))) e → Refuses old (one_each (length old) exact f).tasks e
one-refused old exact given f g ns e stands is alike r =
    stands-refused old exact given (λ c. f (index_at (counts exact) c)) (λ c. g (index_at (counts given) c)) e stands alike
    (subst (λ ks. Refuses old (map (λ c. g (index_at ks c)) (range_with_len 0 (elements ks))) e) is r)
