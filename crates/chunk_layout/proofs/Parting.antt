-- The boxes of a layout cover each index once, and `block_of` names the box.
use Rattle.std.proofs.Common.{◌≡◌, ℕ, zero, suc, ◌+◌, ◌-◌, ◌<◌, ◌≤◌, cond, true, false, nat_lt, List, [], ◌∷◌, length, take, get_or, refl, ap, subst, ◌∙◌, arith}
use Rattle.std.proofs.Math.Numerals.{one-add}
use Rattle.nd_shape.specs.Index.{IsIn, place, index_at}
use Rattle.nd_shape.specs.Region.{moved}
use Rattle.nd_shape.specs.Chunk.{total}
use Rattle.nd_shape.proofs.Places.{place-below, index_at-place, place-index_at, index_at-in}
use Rattle.chunk_layout.specs.Layouts.{counts, lengths, blocks, starts_at, lengths_at, box_at, region, chunk_of, chunks_at, block_of}

-- what stands before a chunk and in it is no more than all
pub total-before : (ss : List ℕ) (b : ℕ) → b < length ss → total (take b ss) + get_or ss b 0 ≤ total ss
total-before [] b h = absurd (omega arith)
total-before (s ∷ ss) zero h = omega arith
total-before (s ∷ ss) (suc b) h = let r : total (take b ss) + get_or ss b 0 ≤ total ss = total-before ss b (omega arith) in omega arith

-- an index of a block is one of the array
pub moved-in_box : (layout : List (List ℕ)) (bs is : List ℕ) → IsIn (counts layout) bs → IsIn (lengths_at layout bs) is → IsIn (lengths layout) (moved (starts_at layout bs) is)
moved-in_box [] [] [] h g = tt
moved-in_box [] [] (i ∷ is) h g = absurd g
moved-in_box [] (b ∷ bs) is h g = absurd h
moved-in_box (ss ∷ layout) [] is h g = absurd h
moved-in_box (ss ∷ layout) (b ∷ bs) [] h g = absurd g
moved-in_box (ss ∷ layout) (b ∷ bs) (i ∷ is) h g =
    let t : total (take b ss) + get_or ss b 0 ≤ total ss = total-before ss b h.0 in
    let l : i < get_or ss b 0 = g.0 in
    (omega arith, moved-in_box layout bs is h.1 g.1)

pub length-starts : (layout : List (List ℕ)) (bs : List ℕ) → IsIn (counts layout) bs → length (starts_at layout bs) ≡ length layout
length-starts [] [] h = refl
length-starts [] (b ∷ bs) h = absurd h
length-starts (ss ∷ layout) [] h = absurd h
length-starts (ss ∷ layout) (b ∷ bs) h = ap suc (length-starts layout bs h.1)

pub length-lengths : (layout : List (List ℕ)) (bs : List ℕ) → IsIn (counts layout) bs → length (lengths_at layout bs) ≡ length layout
length-lengths [] [] h = refl
length-lengths [] (b ∷ bs) h = absurd h
length-lengths (ss ∷ layout) [] h = absurd h
length-lengths (ss ∷ layout) (b ∷ bs) h = ap suc (length-lengths layout bs h.1)

-- the region of a block's number is the box of its numbers of chunks
pub region-place : (layout : List (List ℕ)) (bs : List ℕ) → IsIn (counts layout) bs → region layout (place (counts layout) bs) ≡ box_at layout bs
region-place layout bs h = ap (box_at layout) (index_at-place (counts layout) bs h)

chunk-first : (s i n : ℕ) → i < s → cond (nat_lt i s) 0 n ≡ 0
chunk-first s i n h = grind arith

chunk-later : (s i n : ℕ) → s ≤ i → cond (nat_lt i s) 0 n ≡ n
chunk-later s i n h = grind arith

-- a place of a chunk is in that chunk
pub chunk_of-at : (ss : List ℕ) (b j : ℕ) → b < length ss → j < get_or ss b 0 → chunk_of ss (total (take b ss) + j) ≡ b
chunk_of-at [] b j h g = absurd (omega arith)
chunk_of-at (s ∷ ss) zero j h g = chunk-first s (0 + j) _ (omega arith)
chunk_of-at (s ∷ ss) (suc b) j h g =
    chunk-later s (s + total (take b ss) + j) _ (omega arith)
    ∙ ap (λ x. 1 + chunk_of ss x) (back s (total (take b ss)) j)
    ∙ ap (λ x. 1 + x) (chunk_of-at ss b j (omega arith) g)
    ∙ one-add b
  where
    back : (s t j : ℕ) → s + t + j - s ≡ t + j
    back s t j = omega arith

-- the chunk of a place: it is there, and the place lies in it
pub record InChunk (ss : List ℕ) (i b : ℕ) : Type 0 where
  pub there : b < length ss
  pub low : total (take b ss) ≤ i
  pub high : i < total (take b ss) + get_or ss b 0

first-chunk : (s : ℕ) (ss : List ℕ) (i : ℕ) → i < s → InChunk (s ∷ ss) i 0
first-chunk s ss i h = record { there = omega arith; low = omega arith; high = omega arith }

later-chunk : (s : ℕ) (ss : List ℕ) (i b : ℕ) → s ≤ i → InChunk ss (i - s) b → InChunk (s ∷ ss) i (1 + b)
later-chunk s ss i b h c = let e : suc b ≡ 1 + b = omega arith in subst (InChunk (s ∷ ss) i) e (next s ss i b h c)
  where
    next : (s : ℕ) (ss : List ℕ) (i b : ℕ) → s ≤ i → InChunk ss (i - s) b → InChunk (s ∷ ss) i (suc b)
    next s ss i b h c = record { there = omega (arith, c.there); low = omega (arith, c.low); high = omega (arith, c.high) }

pub in-chunk : (ss : List ℕ) (i : ℕ) → i < total ss → InChunk ss i (chunk_of ss i)
in-chunk [] i h = absurd (omega arith)
in-chunk (s ∷ ss) i h =
    elim (nat_lt i s) as (λ b. nat_lt i s ≡ b → InChunk (s ∷ ss) i (cond b 0 (1 + chunk_of ss (i - s)))) [
      | true ↦ λ t. first-chunk s ss i (grind arith)
      | false ↦ λ f. let le : s ≤ i = grind arith in later-chunk s ss i (chunk_of ss (i - s)) le (in-chunk ss (i - s) (omega arith))
    ] refl

-- ---- on all axes

chunks-box : (layout : List (List ℕ)) (bs is : List ℕ) → IsIn (counts layout) bs → IsIn (lengths_at layout bs) is → chunks_at layout (moved (starts_at layout bs) is) ≡ bs
chunks-box [] [] is h g = refl
chunks-box [] (b ∷ bs) is h g = absurd h
chunks-box (ss ∷ layout) [] is h g = absurd h
chunks-box (ss ∷ layout) (b ∷ bs) [] h g = absurd g
chunks-box (ss ∷ layout) (b ∷ bs) (i ∷ is) h g =
    ap (λ x. x ∷ chunks_at layout (moved (starts_at layout bs) is)) (chunk_of-at ss b i h.0 g.0) ∙ ap (λ xs. b ∷ xs) (chunks-box layout bs is h.1 g.1)

pub chunks-in : (layout : List (List ℕ)) (is : List ℕ) → IsIn (lengths layout) is
    → IsIn (counts layout) (chunks_at layout is) × ((js : List ℕ) × IsIn (lengths_at layout (chunks_at layout is)) js × (moved (starts_at layout (chunks_at layout is)) js ≡ is))
chunks-in [] [] h = (tt, ([], tt, refl))
chunks-in [] (i ∷ is) h = absurd h
chunks-in (ss ∷ layout) [] h = absurd h
chunks-in (ss ∷ layout) (i ∷ is) h =
    let c = in-chunk ss i h.0 in
    let r = chunks-in layout is h.1 in
    let low : total (take (chunk_of ss i) ss) ≤ i = c.low in
    let e : total (take (chunk_of ss i) ss) + (i - total (take (chunk_of ss i) ss)) ≡ i = omega arith in
    ((c.there, r.0), ((i - total (take (chunk_of ss i) ss)) ∷ r.1.0, (omega (arith, c.high), r.1.1), ap (λ x. x ∷ moved (starts_at layout (chunks_at layout is)) r.1.0) e ∙ ap (λ xs. i ∷ xs) r.1.2))

-- each index of a block's box has that block
pub block_of-region : (layout : List (List ℕ)) (c : ℕ) (is : List ℕ) → c < blocks layout → IsIn (region layout c).lengths is → block_of layout (moved (region layout c).start is) ≡ c
block_of-region layout c is h g =
    ap (place (counts layout)) (chunks-box layout (index_at (counts layout) c) is (index_at-in (counts layout) c h) g) ∙ place-index_at (counts layout) c h

-- and each index lies in the box of its block
pub in-region : (layout : List (List ℕ)) (is : List ℕ) → IsIn (lengths layout) is
    → (block_of layout is < blocks layout) × ((js : List ℕ) × IsIn (region layout (block_of layout is)).lengths js × (moved (region layout (block_of layout is)).start js ≡ is))
in-region layout is h =
    let r = chunks-in layout is h in
    let e : index_at (counts layout) (block_of layout is) ≡ chunks_at layout is = index_at-place (counts layout) (chunks_at layout is) r.0 in
    (place-below (counts layout) (chunks_at layout is) r.0, rw e r.1)
