-- The union of two cuts of an axis by one walk over the ends of their chunks.
use Rattle.std.proofs.Common.{◌≡◌, ◌≢◌, ℕ, ◌+◌, ◌-◌, ◌<◌, ◌≤◌, ◌^◌, min, cond, List, [], ◌∷◌, ◌++◌, append_assoc, append-nil, length, get_or, take, drop, refl, ap, sym, subst, ◌∙◌, arith, inl, inr}
use Rattle.std.specs.Prelude.{nat_eq, nat_lt}
use Rattle.std.proofs.lemmas.List.{drop_more, drop_all, take_all, take_more, map_push, length-map, get_or-map}
use Rattle.std.proofs.lemmas.Bool.{cases_lt, cases_eq}
use Rattle.std.proofs.Math.Nat.{add-zero}
use Rattle.nd_shape.specs.Chunk.{total}
use Rattle.nd_shape.proofs.Totals.{total-more}
use Rattle.chunk_layout.specs.Layouts.{lengths}
use Rattle.chunk_layout.specs.Unions.{Parted, part_more, parted, union, unified}
use Rattle.chunk_layout.specs.Cuts.{AllSome, IsCut, AllCut, AreStarts}
use Rattle.chunk_layout.proofs.Parting.{total-before}
use Rattle.chunk_layout.proofs.Unions.{total-union}
use Rattle.chunk_layout.proofs.Cutting.{some-append, all_cut-push}
use Rattle.chunk_layout.proofs.Crossing.{some-at}

-- ---- what the union is, chunk by chunk

part-past : (x y : ℕ) (ys : List ℕ) (m : Parted) → y < x → part_more x y ys m ≡ record { front = y ∷ m.front; rest = m.rest }
part-past x y ys m h = grind arith

part-whole : (x y : ℕ) (ys : List ℕ) (m : Parted) → y ≡ x → part_more x y ys m ≡ record { front = x ∷ []; rest = ys }
part-whole x y ys m h = outer x y (record { front = x ∷ []; rest = cond (nat_eq y x) ys ((y - x) ∷ ys) }) _ (omega arith) ∙ ap (λ (zs : List ℕ). record { front = x ∷ []; rest = zs }) (inner x y ys h)
  where
    outer : (x y : ℕ) (p q : Parted) → x ≤ y → cond (nat_lt y x) q p ≡ p
    outer x y p q h = grind arith

    inner : (x y : ℕ) (ys : List ℕ) → y ≡ x → cond (nat_eq y x) ys ((y - x) ∷ ys) ≡ ys
    inner x y ys h = grind arith

part-within : (x y : ℕ) (ys : List ℕ) (m : Parted) → x < y → part_more x y ys m ≡ record { front = x ∷ []; rest = (y - x) ∷ ys }
part-within x y ys m h = outer x y (record { front = x ∷ []; rest = cond (nat_eq y x) ys ((y - x) ∷ ys) }) _ (omega arith) ∙ ap (λ (zs : List ℕ). record { front = x ∷ []; rest = zs }) (inner x y ys h)
  where
    outer : (x y : ℕ) (p q : Parted) → x ≤ y → cond (nat_lt y x) q p ≡ p
    outer x y p q h = grind arith

    inner : (x y : ℕ) (ys : List ℕ) → x < y → cond (nat_eq y x) ys ((y - x) ∷ ys) ≡ (y - x) ∷ ys
    inner x y ys h = grind arith

union-past : (x y : ℕ) (xs ys : List ℕ) → y < x → union (x ∷ xs) (y ∷ ys) ≡ y ∷ union ((x - y) ∷ xs) ys
union-past x y xs ys h = ap (λ (p : Parted). p.front ++ union xs p.rest) (part-past x y ys (parted (x - y) ys) h)

union-whole : (x y : ℕ) (xs ys : List ℕ) → y ≡ x → union (x ∷ xs) (y ∷ ys) ≡ x ∷ union xs ys
union-whole x y xs ys h = ap (λ (p : Parted). p.front ++ union xs p.rest) (part-whole x y ys (parted (x - y) ys) h)

union-within : (x y : ℕ) (xs ys : List ℕ) → x < y → union (x ∷ xs) (y ∷ ys) ≡ x ∷ union xs ((y - x) ∷ ys)
union-within x y xs ys h = ap (λ (p : Parted). p.front ++ union xs p.rest) (part-within x y ys (parted (x - y) ys) h)

-- ---- no chunk of the union is empty

record SomeParted (p : Parted) : Type 0 where
  front : AllSome p.front
  rest : AllSome p.rest

some-more : (x y : ℕ) (ys : List ℕ) (m : Parted) → 0 < x → 0 < y → AllSome ys → (y < x → SomeParted m) → SomeParted (part_more x y ys m)
some-more x y ys m h g a r = elim (cases_lt y x) [
  | inl lt ↦ subst SomeParted (sym (part-past x y ys m lt)) (let s = r lt in record { front = (g, s.front); rest = s.rest })
  | inr ge ↦ elim (cases_eq y x) [
    | inl e ↦ subst SomeParted (sym (part-whole x y ys m e)) (record { front = (h, tt); rest = a })
    | inr d ↦ let lt : x < y = omega arith in subst SomeParted (sym (part-within x y ys m lt)) (record { front = (h, tt); rest = (omega arith, a) })
  ]
]

some-parted : (x : ℕ) (ys : List ℕ) → 0 < x → AllSome ys → SomeParted (parted x ys)
some-parted x [] h a = record { front = (h, tt); rest = tt }
some-parted x (y ∷ ys) h a = some-more x y ys (parted (x - y) ys) h a.0 a.1 (λ lt. some-parted (x - y) ys (omega arith) a.1)

some-union : (xs ys : List ℕ) → AllSome xs → AllSome ys → AllSome (union xs ys)
some-union [] ys a b = tt
some-union (x ∷ xs) ys a b = let p = some-parted x ys a.0 b in some-append (parted x ys).front (union xs (parted x ys).rest) p.front (some-union xs (parted x ys).rest a.1 p.rest)

-- ---- an axis without elements has the one chunk 0

no-total : (xs : List ℕ) → AllSome xs → 0 < length xs → 0 < total xs
no-total [] a h = absurd (omega arith)
no-total (x ∷ xs) a h = let p : 0 < x = a.0 in omega arith

pub zero-cut : (xs : List ℕ) → IsCut xs → total xs ≡ 0 → xs ≡ 0 ∷ []
zero-cut xs c z = elim c.each [
  | inl e ↦ e
  | inr a ↦ absurd (let p : 0 < total xs = no-total xs a c.some in omega arith)
]

pub some-cut : (xs : List ℕ) → IsCut xs → 0 < total xs → AllSome xs
some-cut xs c p = elim c.each [
  | inl e ↦ absurd (let z : total xs ≡ 0 = ap total e in omega arith)
  | inr a ↦ a
]

pub zero-union : (xs ys : List ℕ) → IsCut xs → IsCut ys → total xs ≡ total ys → total xs ≡ 0 → xs ≡ union xs ys
zero-union xs ys c d t z =
    let ex : xs ≡ 0 ∷ [] = zero-cut xs c z in
    let ey : ys ≡ 0 ∷ [] = zero-cut ys d (sym t ∙ z) in
    ex ∙ sym (ap (λ (zs : List ℕ). union zs ys) ex ∙ ap (union (0 ∷ [])) ey)

pub has-some : (xs : List ℕ) → 0 < total xs → 0 < length xs
has-some [] h = absurd (omega arith)
has-some (x ∷ xs) h = omega arith

pub cut_of_union : (xs ys : List ℕ) → IsCut xs → IsCut ys → total xs ≡ total ys → IsCut (union xs ys)
cut_of_union xs ys c d t = elim (cases_eq (total xs) 0) [
  | inl z ↦ subst IsCut (zero-union xs ys c d t z) c
  | inr n ↦ let e : total (union xs ys) ≡ total xs = total-union xs ys t in
      let s : total xs ≤ 2 ^ 31 = c.small in
      let p : 0 < total xs = omega arith in
      let q : 0 < total ys = omega arith in
      record { some = has-some (union xs ys) (omega arith); each = inr (some-union xs ys (some-cut xs c p) (some-cut ys d q)); small = omega arith }
]

-- ---- the walk

-- what is left of a list of sizes after so much of its first was passed
abbrev pub less_front : ℕ → List ℕ → List ℕ
less_front d [] = []
less_front d (x ∷ xs) = (x - d) ∷ xs

less-none : (xs : List ℕ) → less_front 0 xs ≡ xs
less-none [] = refl
less-none (x ∷ xs) = let z : x - 0 ≡ x = omega arith in ap (λ (y : ℕ). y ∷ xs) z

-- where the walk stands in a list: in its chunk i, or at the end
pub record StandsIn (xs : List ℕ) (i at : ℕ) : Type 0 where
  pub there : i ≤ length xs
  pub low : total (take i xs) ≤ at
  pub high : i < length xs → at < total (take i xs) + get_or xs i 0

abbrev pub ahead : List ℕ → ℕ → ℕ → List ℕ
ahead xs i at = less_front (at - total (take i xs)) (drop i xs)

pub record IsMerged (xs ys sizes : List ℕ) (i j at : ℕ) : Type 0 where
  pub left : StandsIn xs i at
  pub right : StandsIn ys j at
  pub top : at ≤ total xs
  pub value : sizes ++ union (ahead xs i at) (ahead ys j at) ≡ union xs ys

pub merged-first : (xs ys : List ℕ) → AllSome xs → AllSome ys → IsMerged xs ys [] 0 0 0
merged-first xs ys a b = record {
  left = record { there = omega arith; low = omega arith; high = λ h. let p : 0 < get_or xs 0 0 = some-at xs 0 a h in omega arith };
  right = record { there = omega arith; low = omega arith; high = λ h. let p : 0 < get_or ys 0 0 = some-at ys 0 b h in omega arith };
  top = omega arith;
  value = ap (λ (zs : List ℕ). union zs (less_front 0 ys)) (less-none xs) ∙ ap (union xs) (less-none ys);
}

-- before the end the walk stands in a chunk
pub stands-in : (xs : List ℕ) (i at : ℕ) → StandsIn xs i at → at < total xs → i < length xs
stands-in xs i at s h = elim (cases_lt i (length xs)) [
  | inl lt ↦ lt
  | inr ge ↦ let e : total (take i xs) ≡ total xs = ap total (take_all i xs ge) in let l : total (take i xs) ≤ at = s.low in absurd (omega arith)
]

-- at the end nothing is ahead
pub merged-end : (xs ys sizes : List ℕ) (i j at : ℕ) → IsMerged xs ys sizes i j at → total xs ≤ at → sizes ≡ union xs ys
merged-end xs ys sizes i j at m h =
    let l = m.left in
    let out : length xs ≤ i = elim (cases_lt i (length xs)) [
      | inl lt ↦ let u : at < total (take i xs) + get_or xs i 0 = l.high lt in let b : total (take i xs) + get_or xs i 0 ≤ total xs = total-before xs i lt in absurd (omega arith)
      | inr ge ↦ ge
    ] in
    let none : ahead xs i at ≡ [] = ap (less_front (at - total (take i xs))) (drop_all i xs out) in
    sym (append-nil sizes) ∙ ap (λ (zs : List ℕ). sizes ++ union zs (ahead ys j at)) (sym none) ∙ m.value

-- a chunk that ends where the walk goes is passed
pass : (xs : List ℕ) (i end : ℕ) → AllSome xs → i < length xs → total (take (i + 1) xs) ≡ end → StandsIn xs (i + 1) end
pass xs i end a h e = record {
  there = omega arith;
  low = omega arith;
  high = λ g. let p : 0 < get_or xs (i + 1) 0 = some-at xs (i + 1) a g in omega arith;
}

-- and one that goes on is stayed in
stay : (xs : List ℕ) (i at end : ℕ) → StandsIn xs i at → i < length xs → at ≤ end → end < total (take (i + 1) xs) → StandsIn xs i end
stay xs i at end s h b e =
    let l : total (take i xs) ≤ at = s.low in
    let m : total (take (i + 1) xs) ≡ total (take i xs) + get_or xs i 0 = total-more xs i h in
    record { there = omega arith; low = omega arith; high = λ g. omega arith }

ahead-here : (xs : List ℕ) (i at : ℕ) → StandsIn xs i at → i < length xs → ahead xs i at ≡ (total (take (i + 1) xs) - at) ∷ drop (i + 1) xs
ahead-here xs i at s h =
    let m : total (take (i + 1) xs) ≡ total (take i xs) + get_or xs i 0 = total-more xs i h in
    let l : total (take i xs) ≤ at = s.low in
    let u : at < total (take i xs) + get_or xs i 0 = s.high h in
    let e : get_or xs i 0 - (at - total (take i xs)) ≡ total (take (i + 1) xs) - at = omega arith in
    ap (less_front (at - total (take i xs))) (drop_more xs i 0 h) ∙ ap (λ (y : ℕ). y ∷ drop (i + 1) xs) e

ahead-passed : (xs : List ℕ) (i end : ℕ) → total (take (i + 1) xs) ≡ end → drop (i + 1) xs ≡ ahead xs (i + 1) end
ahead-passed xs i end e =
    let z : end - total (take (i + 1) xs) ≡ 0 = omega arith in
    sym (less-none (drop (i + 1) xs)) ∙ ap (λ (d : ℕ). less_front d (drop (i + 1) xs)) (sym z)

stayed : (xs : List ℕ) (i at end : ℕ) → StandsIn xs i at → i < length xs → at ≤ end → end < total (take (i + 1) xs)
    → (total (take (i + 1) xs) - at - (end - at)) ∷ drop (i + 1) xs ≡ ahead xs i end
stayed xs i at end s h b e =
    let z : total (take (i + 1) xs) - at - (end - at) ≡ total (take (i + 1) xs) - end = omega arith in
    ap (λ (y : ℕ). y ∷ drop (i + 1) xs) z ∙ sym (ahead-here xs i end (stay xs i at end s h b e) h)

pub merged-more : (xs ys sizes : List ℕ) (i j at end i' j' : ℕ) → AllSome xs → AllSome ys → total xs ≡ total ys → IsMerged xs ys sizes i j at → at < total xs
    → end ≡ min (total (take (i + 1) xs)) (total (take (j + 1) ys))
    → i' ≡ i + cond {A = ℕ} (nat_eq (total (take (i + 1) xs)) end) 1 0 → j' ≡ j + cond {A = ℕ} (nat_eq (total (take (j + 1) ys)) end) 1 0
    → IsMerged xs ys (sizes ++ (end - at) ∷ []) i' j' end
merged-more xs ys sizes i j at end i' j' a b t m h en ei ej =
    let hi : i < length xs = stands-in xs i at m.left h in
    let hj : j < length ys = stands-in ys j at m.right (omega arith) in
    let x = total (take (i + 1) xs) in
    let y = total (take (j + 1) ys) in
    let mx : x ≡ total (take i xs) + get_or xs i 0 = total-more xs i hi in
    let my : y ≡ total (take j ys) + get_or ys j 0 = total-more ys j hj in
    let bx : total (take i xs) + get_or xs i 0 ≤ total xs = total-before xs i hi in
    let by : total (take j ys) + get_or ys j 0 ≤ total ys = total-before ys j hj in
    let ux : at < total (take i xs) + get_or xs i 0 = m.left.high hi in
    let uy : at < total (take j ys) + get_or ys j 0 = m.right.high hj in
    let v : sizes ++ union ((x - at) ∷ drop (i + 1) xs) ((y - at) ∷ drop (j + 1) ys) ≡ union xs ys =
    ap (λ (zs : List ℕ). sizes ++ union zs ((y - at) ∷ drop (j + 1) ys)) (sym (ahead-here xs i at m.left hi))
    ∙ ap (λ (zs : List ℕ). sizes ++ union (ahead xs i at) zs) (sym (ahead-here ys j at m.right hj)) ∙ m.value in
    elim (cases_lt x y) [
      | inl lt ↦
          let e : end ≡ x = omega arith in
          let pi : i' ≡ i + 1 = ei ∙ ap (λ (k : ℕ). i + k) (passes x end (sym e)) in
          let pj : j' ≡ j = ej ∙ ap (λ (k : ℕ). j + k) (stays y end (λ q. absurd (omega arith))) ∙ add-zero j in
          subst (λ k. IsMerged xs ys (sizes ++ (end - at) ∷ []) k j' end) (sym pi) (subst (λ k. IsMerged xs ys (sizes ++ (end - at) ∷ []) (i + 1) k end) (sym pj) (record {
            left = pass xs i end a hi (sym e);
            right = stay ys j at end m.right hj (omega arith) (omega arith);
            top = omega arith;
            value = append_assoc sizes ((end - at) ∷ []) (union (ahead xs (i + 1) end) (ahead ys j end))
                ∙ ap (λ (zs : List ℕ). sizes ++ (end - at) ∷ union zs (ahead ys j end)) (sym (ahead-passed xs i end (sym e)))
                ∙ ap (λ (zs : List ℕ). sizes ++ (end - at) ∷ union (drop (i + 1) xs) zs) (sym (stayed ys j at end m.right hj (omega arith) (omega arith)))
                ∙ ap (λ (k : ℕ). sizes ++ (k - at) ∷ union (drop (i + 1) xs) ((y - at - (k - at)) ∷ drop (j + 1) ys)) e
                ∙ ap (λ (zs : List ℕ). sizes ++ zs) (sym (union-within (x - at) (y - at) (drop (i + 1) xs) (drop (j + 1) ys) (omega arith))) ∙ v;
          }))
      | inr ge ↦ elim (cases_lt y x) [
        | inl lt ↦
            let e : end ≡ y = omega arith in
            let pi : i' ≡ i = ei ∙ ap (λ (k : ℕ). i + k) (stays x end (λ q. absurd (omega arith))) ∙ add-zero i in
            let pj : j' ≡ j + 1 = ej ∙ ap (λ (k : ℕ). j + k) (passes y end (sym e)) in
            subst (λ k. IsMerged xs ys (sizes ++ (end - at) ∷ []) k j' end) (sym pi) (subst (λ k. IsMerged xs ys (sizes ++ (end - at) ∷ []) i k end) (sym pj) (record {
              left = stay xs i at end m.left hi (omega arith) (omega arith);
              right = pass ys j end b hj (sym e);
              top = omega arith;
              value = append_assoc sizes ((end - at) ∷ []) (union (ahead xs i end) (ahead ys (j + 1) end))
                  ∙ ap (λ (zs : List ℕ). sizes ++ (end - at) ∷ union (ahead xs i end) zs) (sym (ahead-passed ys j end (sym e)))
                  ∙ ap (λ (zs : List ℕ). sizes ++ (end - at) ∷ union zs (drop (j + 1) ys)) (sym (stayed xs i at end m.left hi (omega arith) (omega arith)))
                  ∙ ap (λ (k : ℕ). sizes ++ (k - at) ∷ union ((x - at - (k - at)) ∷ drop (i + 1) xs) (drop (j + 1) ys)) e
                  ∙ ap (λ (zs : List ℕ). sizes ++ zs) (sym (union-past (x - at) (y - at) (drop (i + 1) xs) (drop (j + 1) ys) (omega arith))) ∙ v;
            }))
        | inr le ↦
            let e : end ≡ x = omega arith in
            let f : end ≡ y = omega arith in
            let pi : i' ≡ i + 1 = ei ∙ ap (λ (k : ℕ). i + k) (passes x end (sym e)) in
            let pj : j' ≡ j + 1 = ej ∙ ap (λ (k : ℕ). j + k) (passes y end (sym f)) in
            subst (λ k. IsMerged xs ys (sizes ++ (end - at) ∷ []) k j' end) (sym pi) (subst (λ k. IsMerged xs ys (sizes ++ (end - at) ∷ []) (i + 1) k end) (sym pj) (record {
              left = pass xs i end a hi (sym e);
              right = pass ys j end b hj (sym f);
              top = omega arith;
              value = append_assoc sizes ((end - at) ∷ []) (union (ahead xs (i + 1) end) (ahead ys (j + 1) end))
                  ∙ ap (λ (zs : List ℕ). sizes ++ (end - at) ∷ union zs (ahead ys (j + 1) end)) (sym (ahead-passed xs i end (sym e)))
                  ∙ ap (λ (zs : List ℕ). sizes ++ (end - at) ∷ union (drop (i + 1) xs) zs) (sym (ahead-passed ys j end (sym f)))
                  ∙ ap (λ (k : ℕ). sizes ++ (k - at) ∷ union (drop (i + 1) xs) (drop (j + 1) ys)) e
                  ∙ ap (λ (zs : List ℕ). sizes ++ zs) (sym (union-whole (x - at) (y - at) (drop (i + 1) xs) (drop (j + 1) ys) (omega arith))) ∙ v;
            }))
      ]
    ]
  where
    passes : (x end : ℕ) → x ≡ end → cond {A = ℕ} (nat_eq x end) 1 0 ≡ 1
    passes x end h = grind arith

    stays : (x end : ℕ) → x ≢ end → cond {A = ℕ} (nat_eq x end) 1 0 ≡ 0
    stays x end h = grind arith

-- ---- all axes

pub same-total : (a b : List (List ℕ)) (k : ℕ) → lengths a ≡ lengths b → k < length a → (k < length b) × (total (get_or a k []) ≡ total (get_or b k []))
same-total a b k e h =
    let n : length (lengths a) ≡ length a = length-map a (λ (ss : List ℕ). total ss) in
    let m : length (lengths b) ≡ length b = length-map b (λ (ss : List ℕ). total ss) in
    let q : length (lengths a) ≡ length (lengths b) = ap length e in
    let g : k < length b = omega arith in
    (g, sym (get_or-map (λ (ss : List ℕ). total ss) a k [] 0 h) ∙ ap (λ (ns : List ℕ). get_or ns k 0) e ∙ get_or-map (λ (ss : List ℕ). total ss) b k [] 0 g)

pub record UnionsMore (axes a b : List (List ℕ)) (k : ℕ) (x : List ℕ) : Type 0 where
  pub cuts : AllCut (axes ++ x ∷ [])
  pub lengths_is : lengths (axes ++ x ∷ []) ≡ take (k + 1) (lengths a)
  pub value : (axes ++ x ∷ []) ++ unified (drop (k + 1) a) (drop (k + 1) b) ≡ unified a b

pub unions-more : (axes a b : List (List ℕ)) (k : ℕ) (x : List ℕ) → lengths a ≡ lengths b → k < length a → x ≡ union (get_or a k []) (get_or b k []) → IsCut x
    → AllCut axes → lengths axes ≡ take k (lengths a) → axes ++ unified (drop k a) (drop k b) ≡ unified a b → UnionsMore axes a b k x
unions-more axes a b k x same h e c t l v =
    let s = same-total a b k same h in
    let g : k < length b = s.0 in
    let n : length (lengths a) ≡ length a = length-map a (λ (ss : List ℕ). total ss) in
    let h' : k < length (lengths a) = omega arith in
    let tx : total x ≡ get_or (lengths a) k 0 = ap total e ∙ total-union (get_or a k []) (get_or b k []) s.1 ∙ sym (get_or-map (λ (ss : List ℕ). total ss) a k [] 0 h) in
    record {
      cuts = all_cut-push axes x t c;
      lengths_is = map_push (λ (ss : List ℕ). total ss) axes x ∙ ap (λ (xs : List ℕ). xs ++ total x ∷ []) l ∙ ap (λ (n : ℕ). take k (lengths a) ++ n ∷ []) tx ∙ sym (take_more (lengths a) k 0 h');
      value = append_assoc axes (x ∷ []) (unified (drop (k + 1) a) (drop (k + 1) b))
          ∙ ap (λ (y : List ℕ). axes ++ y ∷ unified (drop (k + 1) a) (drop (k + 1) b)) e
          ∙ ap (λ (ns : List (List ℕ)). axes ++ unified ns (get_or b k [] ∷ drop (k + 1) b)) (sym (drop_more a k [] h))
          ∙ ap (λ (ns : List (List ℕ)). axes ++ unified (drop k a) ns) (sym (drop_more b k [] g)) ∙ v;
    }

-- ---- where the walk goes next

pub record MergeEnd (xs ys left right : List ℕ) (i j at end : ℕ) : Type 0 where
  pub past : at < end
  pub top : end ≤ total xs
  pub left_is : get_or left (i + 1) 0 ≡ total (take (i + 1) xs)
  pub right_is : get_or right (j + 1) 0 ≡ total (take (j + 1) ys)
  pub end_is : end ≡ min (total (take (i + 1) xs)) (total (take (j + 1) ys))

pub merge-end : (xs ys left right sizes : List ℕ) (i j at end : ℕ) → AreStarts xs left → AreStarts ys right → total xs ≡ total ys → IsMerged xs ys sizes i j at → at < total xs
    → end ≡ min (get_or left (i + 1) 0) (get_or right (j + 1) 0) → MergeEnd xs ys left right i j at end
merge-end xs ys left right sizes i j at end s t e m h en =
    let hi : i < length xs = stands-in xs i at m.left h in
    let hj : j < length ys = stands-in ys j at m.right (omega arith) in
    let x : get_or left (i + 1) 0 ≡ total (take (i + 1) xs) = s.at (i + 1) (omega arith) in
    let y : get_or right (j + 1) 0 ≡ total (take (j + 1) ys) = t.at (j + 1) (omega arith) in
    let mx : total (take (i + 1) xs) ≡ total (take i xs) + get_or xs i 0 = total-more xs i hi in
    let my : total (take (j + 1) ys) ≡ total (take j ys) + get_or ys j 0 = total-more ys j hj in
    let bx : total (take i xs) + get_or xs i 0 ≤ total xs = total-before xs i hi in
    let ux : at < total (take i xs) + get_or xs i 0 = m.left.high hi in
    let uy : at < total (take j ys) + get_or ys j 0 = m.right.high hj in
    record { past = omega arith; top = omega arith; left_is = x; right_is = y; end_is = omega arith }

-- ---- as the code has it

pub union_of_none : (zs xs ys : List ℕ) → zs ≡ xs → IsCut xs → IsCut ys → total xs ≡ total ys → total xs ≡ 0 → zs ≡ union xs ys
union_of_none zs xs ys e c d t z = e ∙ zero-union xs ys c d t z

pub union_is_cut : (zs xs ys : List ℕ) → zs ≡ union xs ys → IsCut xs → IsCut ys → total xs ≡ total ys → IsCut zs
union_is_cut zs xs ys e c d t = subst IsCut (sym e) (cut_of_union xs ys c d t)
