-- A box of a result, seen from an operand that is broadcast to it.
use Rattle.std.proofs.Common.{◌≡◌, ◌≢◌, ℕ, zero, suc, ◌+◌, ◌-◌, ◌<◌, ◌≤◌, List, [], ◌∷◌, length, drop, map, take, get_or, cond, Bool, true, false, refl, ap, sym, subst, ◌∙◌, arith, inl, inr}
use Rattle.std.specs.Prelude.{nat_eq, nat_lt}
use Rattle.std.proofs.lemmas.Bool.{cases_eq, cases_lt}
use Rattle.std.proofs.lemmas.List.{length-drop, length-map, get_or-drop}
use Rattle.std.proofs.lemmas.List.FromFn.{fill_by_all}
use Rattle.small_facts.proofs.Numbers.{place_under}
use Rattle.nd_shape.specs.Index.{IsIn}
use Rattle.nd_shape.specs.Region.{Box, moved}
use Rattle.nd_shape.specs.Chunk.{total}
use Rattle.nd_shape.specs.Broadcast.{broadcast, axes_of, common, lengths_on, length_on}
use Rattle.nd_shape.proofs.Places.{IsIn-length}
use Rattle.nd_grid.specs.Grid.{under, under_along}
use Rattle.chunk_layout.specs.Layouts.{counts, starts_at, lengths_at, box_at}
use Rattle.chunk_layout.proofs.Parting.{length-starts, length-lengths}
use Rattle.lowering_laws.specs.Stages.{layout_under}

-- the lengths of an operand's box: 1 on its axes of length 1
abbrev pub ones : List ℕ → List ℕ → List ℕ
ones [] ls = []
ones (n ∷ ns) [] = []
ones (n ∷ ns) (l ∷ ls) = cond (nat_eq n 1) 1 l ∷ ones ns ls

abbrev pub box_under : List ℕ → Box → Box
box_under ns box = record { start = under ns box.start; lengths = ones ns (drop (length box.lengths - length ns) box.lengths) }

-- ---- indexes

axis_moved : (n s l i : ℕ) → i < l → cond (nat_eq n 1) 0 s + cond (nat_eq (cond (nat_eq n 1) 1 l) 1) 0 i ≡ cond (nat_eq n 1) 0 (s + i)
axis_moved n s l i h = grind arith

along-moved : (ns ss ls is : List ℕ) → length ss ≡ length ls → length ns ≡ length ls → IsIn ls is → moved (under_along ns ss) (under_along (ones ns ls) is) ≡ under_along ns (moved ss is)
along-moved [] ss ls is e f h = refl
along-moved (n ∷ ns) ss [] is e f h = absurd (omega arith)
along-moved (n ∷ ns) [] (l ∷ ls) is e f h = absurd (omega arith)
along-moved (n ∷ ns) (s ∷ ss) (l ∷ ls) [] e f h = absurd h
along-moved (n ∷ ns) (s ∷ ss) (l ∷ ls) (i ∷ is) e f h =
    ap (λ k. k ∷ moved (under_along ns ss) (under_along (ones ns ls) is)) (axis_moved n s l i h.0)
    ∙ ap (λ ks. cond (nat_eq n 1) 0 (s + i) ∷ ks) (along-moved ns ss ls is (omega arith) (omega arith) h.1)

moved-nil : (ss : List ℕ) → moved ss [] ≡ []
moved-nil [] = refl
moved-nil (s ∷ ss) = refl

pub drop-moved : (k : ℕ) (ss is : List ℕ) → drop k (moved ss is) ≡ moved (drop k ss) (drop k is)
drop-moved zero ss is = refl
drop-moved (suc k) [] is = refl
drop-moved (suc k) (s ∷ ss) [] = sym (moved-nil (drop k ss))
drop-moved (suc k) (s ∷ ss) (i ∷ is) = drop-moved k ss is

pub length-moved : (ss is : List ℕ) → length ss ≡ length is → length (moved ss is) ≡ length is
length-moved [] [] h = refl
length-moved [] (i ∷ is) h = absurd (omega arith)
length-moved (s ∷ ss) [] h = absurd (omega arith)
length-moved (s ∷ ss) (i ∷ is) h = ap suc (length-moved ss is (omega arith))

pub length-ones : (ns ls : List ℕ) → length ns ≡ length ls → length (ones ns ls) ≡ length ns
length-ones [] ls h = refl
length-ones (n ∷ ns) [] h = absurd (omega arith)
length-ones (n ∷ ns) (l ∷ ls) h = ap suc (length-ones ns ls (omega arith))

pub IsIn-drop : (k : ℕ) (ns is : List ℕ) → IsIn ns is → IsIn (drop k ns) (drop k is)
IsIn-drop zero ns is h = h
IsIn-drop (suc k) [] [] h = tt
IsIn-drop (suc k) [] (i ∷ is) h = absurd h
IsIn-drop (suc k) (n ∷ ns) [] h = absurd h
IsIn-drop (suc k) (n ∷ ns) (i ∷ is) h = IsIn-drop k ns is h.1

axis_below : (n l i : ℕ) → i < l → cond (nat_eq (cond (nat_eq n 1) 1 l) 1) 0 i < cond (nat_eq n 1) 1 l
axis_below n l i h = elim (cases_eq n 1) [ inl e ↦ one n l i e | inr d ↦ other n l i d h ]
  where
    one : (n l i : ℕ) → n ≡ 1 → cond (nat_eq (cond (nat_eq n 1) 1 l) 1) 0 i < cond (nat_eq n 1) 1 l
    one n l i e = grind arith

    other : (n l i : ℕ) → n ≢ 1 → i < l → cond (nat_eq (cond (nat_eq n 1) 1 l) 1) 0 i < cond (nat_eq n 1) 1 l
    other n l i d h = grind arith

along-in : (ns ls is : List ℕ) → length ns ≡ length ls → IsIn ls is → IsIn (ones ns ls) (under_along (ones ns ls) is)
along-in [] ls is e h = tt
along-in (n ∷ ns) [] is e h = absurd (omega arith)
along-in (n ∷ ns) (l ∷ ls) [] e h = absurd h
along-in (n ∷ ns) (l ∷ ls) (i ∷ is) e h = (axis_below n l i h.0, along-in ns ls is (omega arith) h.1)

-- the index under one of the box lies in the operand's box
pub under-box : (ns is : List ℕ) (box : Box) → length ns ≤ length box.lengths → IsIn box.lengths is → IsIn (box_under ns box).lengths (under (box_under ns box).lengths is)
under-box ns is box a h =
    let li : length is ≡ length box.lengths = IsIn-length box.lengths is h in
    let k = length box.lengths - length ns in
    let ls = drop k box.lengths in
    let ll : length ns ≡ length ls = omega (arith, length-drop k box.lengths) in
    let lo : length (ones ns ls) ≡ length ns = length-ones ns ls ll in
    let same : length is - length (ones ns ls) ≡ k = omega arith in
    subst (λ j. IsIn (ones ns ls) (under_along (ones ns ls) (drop j is))) (sym same) (along-in ns ls (drop k is) ll (IsIn-drop k box.lengths is h))

-- and is the one that lies under the moved index
pub under-moved : (ns is : List ℕ) (box : Box) → length box.start ≡ length box.lengths → length ns ≤ length box.lengths → IsIn box.lengths is
    → moved (box_under ns box).start (under (box_under ns box).lengths is) ≡ under ns (moved box.start is)
under-moved ns is box e a h =
    let li : length is ≡ length box.lengths = IsIn-length box.lengths is h in
    let k = length box.lengths - length ns in
    let ls = drop k box.lengths in
    let ll : length ls ≡ length ns = omega (arith, length-drop k box.lengths) in
    let lo : length (ones ns ls) ≡ length ns = length-ones ns ls (sym ll) in
    let lm : length (moved box.start is) ≡ length box.lengths = length-moved box.start is (e ∙ sym li) ∙ li in
    let ss = drop k box.start in
    let lss : length ss ≡ length ls = omega (arith, length-drop k box.start) in
    let core : moved (under_along ns ss) (under_along (ones ns ls) (drop k is)) ≡ under_along ns (moved ss (drop k is)) = along-moved ns ss ls (drop k is) lss (sym ll) (IsIn-drop k box.lengths is h) in
    ap (λ j. moved (under_along ns (drop (j - length ns) box.start)) (under_along (ones ns ls) (drop (length is - length (ones ns ls)) is))) e
    ∙ ap (λ j. moved (under_along ns ss) (under_along (ones ns ls) (drop (length is - j) is))) lo
    ∙ ap (λ j. moved (under_along ns ss) (under_along (ones ns ls) (drop (j - length ns) is))) li
    ∙ core
    ∙ ap (under_along ns) (sym (drop-moved k box.start is))
    ∙ ap (λ j. under_along ns (drop (j - length ns) (moved box.start is))) (sym lm)

-- ---- the shape of the result

abbrev pub one_or : ℕ → ℕ → ℕ
one_or l n = cond (nat_eq n 1) 1 l

common-ones : (l : ℕ) (ns : List ℕ) → common (map (one_or l) ns) ≡ one_or l (common ns)
common-ones l [] = refl
common-ones l (n ∷ ns) = step l n (common (map (one_or l) ns)) (common ns) (common-ones l ns)
  where
    step : (l n a b : ℕ) → a ≡ cond (nat_eq b 1) 1 l → cond (nat_eq (cond (nat_eq n 1) 1 l) 1) a (cond (nat_eq n 1) 1 l) ≡ cond (nat_eq (cond (nat_eq n 1) b n) 1) 1 l
    step l n a b h = grind arith

abbrev pub block_under : List ℕ → List ℕ → List ℕ
block_under lens ns = ones ns (drop (length lens - length ns) lens)

length-block : (lens ns : List ℕ) → length ns ≤ length lens → length (block_under lens ns) ≡ length ns
length-block lens ns h = length-ones ns (drop (length lens - length ns) lens) (omega (arith, length-drop (length lens - length ns) lens))

ones-at : (ns ls : List ℕ) (k : ℕ) → k < length ns → k < length ls → get_or (ones ns ls) k 1 ≡ one_or (get_or ls k 0) (get_or ns k 1)
ones-at [] ls k h g = absurd (omega arith)
ones-at (n ∷ ns) [] k h g = absurd (omega arith)
ones-at (n ∷ ns) (l ∷ ls) zero h g = refl
ones-at (n ∷ ns) (l ∷ ls) (suc k) h g = ones-at ns ls k (omega arith) (omega arith)

length_on-block : (lens ns : List ℕ) (k : ℕ) → length ns ≤ length lens → k < length lens → length_on (length lens) k (block_under lens ns) ≡ one_or (get_or lens k 0) (length_on (length lens) k ns)
length_on-block lens ns k h b =
    ap (λ m. cond (nat_lt k (length lens - m)) 1 (get_or (block_under lens ns) (k - (length lens - m)) 1)) (length-block lens ns h)
    ∙ elim (cases_lt k (length lens - length ns)) [
      | inl lt ↦ before (get_or (block_under lens ns) (k - (length lens - length ns)) 1) (get_or lens k 0) (get_or ns (k - (length lens - length ns)) 1) k (length lens - length ns) lt
      | inr ge ↦ let off = length lens - length ns in
          let place : off + (k - off) ≡ k = omega arith in
          behind (get_or (block_under lens ns) (k - off) 1) (get_or lens k 0) (get_or ns (k - off) 1) k off ge
          (ones-at ns (drop off lens) (k - off) (omega arith) (omega (arith, length-drop off lens)) ∙ ap (λ x. one_or x (get_or ns (k - off) 1)) (get_or-drop off lens (k - off) 0 ∙ ap (λ j. get_or lens j 0) place))
    ]
  where
    before : (x l n k o : ℕ) → k < o → cond (nat_lt k o) 1 x ≡ one_or l (cond (nat_lt k o) 1 n)
    before x l n k o h = grind arith

    behind : (x l n k o : ℕ) → o ≤ k → x ≡ one_or l n → cond (nat_lt k o) 1 x ≡ one_or l (cond (nat_lt k o) 1 n)
    behind x l n k o h e = grind arith

pub axes-blocks : (lens : List ℕ) (shapes : List (List ℕ)) → axes_of shapes ≤ length lens → axes_of (map (block_under lens) shapes) ≡ axes_of shapes
axes-blocks lens [] h = refl
axes-blocks lens (ns ∷ shapes) h =
    let r : axes_of (map (block_under lens) shapes) ≡ axes_of shapes = axes-blocks lens shapes (omega arith) in
    let l : length (block_under lens ns) ≡ length ns = length-block lens ns (omega arith) in
    omega arith

pub lengths-blocks : (lens : List ℕ) (k : ℕ) (shapes : List (List ℕ)) → axes_of shapes ≤ length lens → k < length lens
    → map (length_on (length lens) k) (map (block_under lens) shapes) ≡ map (one_or (get_or lens k 0)) (map (length_on (length lens) k) shapes)
lengths-blocks lens k [] h b = refl
lengths-blocks lens k (ns ∷ shapes) h b =
    ap (λ x. x ∷ map (length_on (length lens) k) (map (block_under lens) shapes)) (length_on-block lens ns k (omega arith) b)
    ∙ ap (λ xs. one_or (get_or lens k 0) (length_on (length lens) k ns) ∷ xs) (lengths-blocks lens k shapes (omega arith) b)

one-there : (l n : ℕ) → (n ≡ 1 → l ≡ 1) → cond (nat_eq n 1) 1 l ≡ l
one-there l n h = elim (cases_eq n 1) [ inl e ↦ one l n e (h e) | inr d ↦ other l n d ]
  where
    one : (l n : ℕ) → n ≡ 1 → l ≡ 1 → cond (nat_eq n 1) 1 l ≡ l
    one l n e f = grind arith

    other : (l n : ℕ) → n ≢ 1 → cond (nat_eq n 1) 1 l ≡ l
    other l n d = grind arith

-- blocks that lie under a block of the result are broadcast to its lengths
pub broadcast-blocks : (lens : List ℕ) (shapes : List (List ℕ)) → axes_of shapes ≡ length lens → ((k : ℕ) → k < length lens → common (lengths_on shapes k) ≡ 1 → get_or lens k 0 ≡ 1)
    → broadcast (map (block_under lens) shapes) ≡ lens
broadcast-blocks lens shapes axes one =
    let blocks = map (block_under lens) shapes in
    let same : axes_of blocks ≡ length lens = axes-blocks lens shapes (omega arith) ∙ axes in
    sym (fill_by_all (λ k. common (lengths_on blocks k)) lens (axes_of blocks) 0 (sym same) (λ k h.
    let b : k < length lens = omega arith in
    sym (
    ap (λ a. common (map (length_on a k) blocks)) same
    ∙ ap common (lengths-blocks lens k shapes (omega arith) b)
    ∙ common-ones (get_or lens k 0) (map (length_on (length lens) k) shapes)
    ∙ one-there (get_or lens k 0) (common (map (length_on (length lens) k) shapes)) (λ e. one k b (ap (λ a. common (map (length_on a k) shapes)) axes ∙ e))
    )))

-- ---- the blocks of an operand in the result's layout

start_axis : (c : Bool) (sizes : List ℕ) (b : ℕ) → b < length sizes
    → total (take (cond (nat_eq (length (cond c (1 ∷ []) sizes)) 1) 0 b) (cond c (1 ∷ []) sizes)) ≡ cond c 0 (total (take b sizes))
start_axis true sizes b h = refl
start_axis false sizes b h = ap (λ k. total (take k sizes)) (place_under (length sizes) b h)

length_axis : (c : Bool) (sizes : List ℕ) (b : ℕ) → b < length sizes
    → get_or (cond c (1 ∷ []) sizes) (cond (nat_eq (length (cond c (1 ∷ []) sizes)) 1) 0 b) 0 ≡ cond c 1 (get_or sizes b 0)
length_axis true sizes b h = refl
length_axis false sizes b h = ap (λ k. get_or sizes k 0) (place_under (length sizes) b h)

starts-along : (ns : List ℕ) (layout : List (List ℕ)) (bs : List ℕ) → length ns ≡ length layout → IsIn (counts layout) bs
    → starts_at (layout_under ns layout) (under_along (counts (layout_under ns layout)) bs) ≡ under_along ns (starts_at layout bs)
starts-along [] [] bs e h = refl
starts-along [] (sizes ∷ layout) bs e h = absurd (omega arith)
starts-along (n ∷ ns) [] bs e h = absurd (omega arith)
starts-along (n ∷ ns) (sizes ∷ layout) [] e h = absurd h
starts-along (n ∷ ns) (sizes ∷ layout) (b ∷ bs) e h =
    ap (λ x. x ∷ starts_at (layout_under ns layout) (under_along (counts (layout_under ns layout)) bs)) (start_axis (nat_eq n 1) sizes b h.0)
    ∙ ap (λ xs. cond (nat_eq n 1) 0 (total (take b sizes)) ∷ xs) (starts-along ns layout bs (omega arith) h.1)

lengths-along : (ns : List ℕ) (layout : List (List ℕ)) (bs : List ℕ) → length ns ≡ length layout → IsIn (counts layout) bs
    → lengths_at (layout_under ns layout) (under_along (counts (layout_under ns layout)) bs) ≡ ones ns (lengths_at layout bs)
lengths-along [] [] bs e h = refl
lengths-along [] (sizes ∷ layout) bs e h = absurd (omega arith)
lengths-along (n ∷ ns) [] bs e h = absurd (omega arith)
lengths-along (n ∷ ns) (sizes ∷ layout) [] e h = absurd h
lengths-along (n ∷ ns) (sizes ∷ layout) (b ∷ bs) e h =
    ap (λ x. x ∷ lengths_at (layout_under ns layout) (under_along (counts (layout_under ns layout)) bs)) (length_axis (nat_eq n 1) sizes b h.0)
    ∙ ap (λ xs. cond (nat_eq n 1) 1 (get_or sizes b 0) ∷ xs) (lengths-along ns layout bs (omega arith) h.1)

-- the chunks under those of a block are there
chunk_below : (c : Bool) (sizes : List ℕ) (b : ℕ) → b < length sizes → cond (nat_eq (length (cond c (1 ∷ []) sizes)) 1) 0 b < length (cond c (1 ∷ []) sizes)
chunk_below true sizes b h = omega arith
chunk_below false sizes b h = let e : cond (nat_eq (length sizes) 1) 0 b ≡ b = place_under (length sizes) b h in omega arith

in-along : (ns : List ℕ) (layout : List (List ℕ)) (bs : List ℕ) → length ns ≡ length layout → IsIn (counts layout) bs → IsIn (counts (layout_under ns layout)) (under_along (counts (layout_under ns layout)) bs)
in-along [] [] bs e h = tt
in-along [] (sizes ∷ layout) bs e h = absurd (omega arith)
in-along (n ∷ ns) [] bs e h = absurd (omega arith)
in-along (n ∷ ns) (sizes ∷ layout) [] e h = absurd h
in-along (n ∷ ns) (sizes ∷ layout) (b ∷ bs) e h = (chunk_below (nat_eq n 1) sizes b h.0, in-along ns layout bs (omega arith) h.1)

pub length-layout : (ns : List ℕ) (layout : List (List ℕ)) → length ns ≡ length layout → length (layout_under ns layout) ≡ length ns
length-layout [] [] e = refl
length-layout [] (sizes ∷ layout) e = absurd (omega arith)
length-layout (n ∷ ns) [] e = absurd (omega arith)
length-layout (n ∷ ns) (sizes ∷ layout) e = ap suc (length-layout ns layout (omega arith))

pub drop-starts : (k : ℕ) (layout : List (List ℕ)) (bs : List ℕ) → IsIn (counts layout) bs → drop k (starts_at layout bs) ≡ starts_at (drop k layout) (drop k bs)
drop-starts zero layout bs h = refl
drop-starts (suc k) [] bs h = refl
drop-starts (suc k) (sizes ∷ layout) [] h = absurd h
drop-starts (suc k) (sizes ∷ layout) (b ∷ bs) h = drop-starts k layout bs h.1

pub drop-lengths : (k : ℕ) (layout : List (List ℕ)) (bs : List ℕ) → IsIn (counts layout) bs → drop k (lengths_at layout bs) ≡ lengths_at (drop k layout) (drop k bs)
drop-lengths zero layout bs h = refl
drop-lengths (suc k) [] bs h = refl
drop-lengths (suc k) (sizes ∷ layout) [] h = absurd h
drop-lengths (suc k) (sizes ∷ layout) (b ∷ bs) h = drop-lengths k layout bs h.1

pub drop-counts : (k : ℕ) (layout : List (List ℕ)) → drop k (counts layout) ≡ counts (drop k layout)
drop-counts zero layout = refl
drop-counts (suc k) [] = refl
drop-counts (suc k) (sizes ∷ layout) = drop-counts k layout

-- the chunks of an operand in the layout that it is to have under one of the result
pub record IsUnder (ns : List ℕ) (layout target : List (List ℕ)) (bs : List ℕ) : Type 0 where
  pub inside : IsIn (counts target) (under (counts target) bs)
  pub box : box_at target (under (counts target) bs) ≡ box_under ns (box_at layout bs)

same-box : (a b c d : List ℕ) → a ≡ b → c ≡ d → Rattle.std.proofs.Common.◌≡◌ {A = Box} (record { start = a; lengths = c }) (record { start = b; lengths = d })
same-box a b c d e f = cc

pub under-layout : (ns : List ℕ) (layout : List (List ℕ)) (bs : List ℕ) → length ns ≤ length layout → IsIn (counts layout) bs
    → IsUnder ns layout (layout_under ns (drop (length layout - length ns) layout)) bs
under-layout ns layout bs small h =
    let k = length layout - length ns in
    let rest = drop k layout in
    let target = layout_under ns rest in
    let lr : length ns ≡ length rest = omega (arith, length-drop k layout) in
    let lb : length bs ≡ length layout = IsIn-length (counts layout) bs h ∙ length-map layout (λ (sizes : List ℕ). length sizes) in
    let lt : length (counts target) ≡ length ns = length-map target (λ (sizes : List ℕ). length sizes) ∙ length-layout ns rest lr in
    let off : length bs - length (counts target) ≡ k = omega arith in
    let inr' : IsIn (counts rest) (drop k bs) = subst (λ xs. IsIn xs (drop k bs)) (drop-counts k layout) (IsIn-drop k (counts layout) bs h) in
    let ls : length (starts_at layout bs) ≡ length layout = length-starts layout bs h in
    let ll : length (lengths_at layout bs) ≡ length layout = length-lengths layout bs h in
    let at : under (counts target) bs ≡ under_along (counts target) (drop k bs) = ap (λ j. under_along (counts target) (drop j bs)) off in
    record {
      inside = subst (IsIn (counts target)) (sym at) (in-along ns rest (drop k bs) lr inr');
      box = ap (box_at target) at
          ∙ same-box _ _ _ _
          (starts-along ns rest (drop k bs) lr inr' ∙ ap (under_along ns) (sym (drop-starts k layout bs h)) ∙ ap (λ j. under_along ns (drop (j - length ns) (starts_at layout bs))) (sym ls))
          (lengths-along ns rest (drop k bs) lr inr' ∙ ap (ones ns) (sym (drop-lengths k layout bs h)) ∙ ap (λ j. ones ns (drop (j - length ns) (lengths_at layout bs))) (sym ll));
    }
