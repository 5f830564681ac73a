-- Parts of blocks put into a block, run after run.
use Rattle.std.proofs.Common.{◌≡◌, ℕ, zero, suc, ◌+◌, ◌-◌, ◌*◌, ◌/◌, ◌%◌, ◌<◌, ◌≤◌, ◌^◌, cond, not, ◌&&◌, Bool, true, false, List, [], ◌∷◌, length, take, drop, ◌++◌, get_or, refl, ap, sym, subst, ◌∙◌, arith, ℤ, pos, Some, Ok, inl, inr}
use Rattle.std.specs.Prelude.{Option, All, nat_lt}
use Rattle.std.proofs.Math.Nat.{mul_comm, mul_assoc}
use Rattle.std.proofs.lemmas.Bool.{cases_lt, and_parts}
use Rattle.std.proofs.lemmas.Nat.{mul-add-lt, div-mul-add, mod-mul-add, div-add-mod', mod_below, row_fits}
use Rattle.std.proofs.lemmas.List.{get_or-map, drop_more, drop_all, length-take-le, length-drop, get_or-append-add, get_or_append_left, get_or-take, get_or-drop}
use Rattle.small_facts.proofs.Numbers.{below_product_right, product_regroup}
use borrow.Rule.Slice.PartMut.{put_mid}
use Rattle.nd_shape.specs.Block.{Array}
use Rattle.nd_shape.specs.Shape.{elements}
use Rattle.nd_shape.specs.Index.{IsIn, place, index_at}
use Rattle.nd_shape.specs.Region.{Box, IsPart, moved}
use Rattle.nd_shape.specs.declared.region.Piece.{Piece}
use Rattle.nd_shape.proofs.Places.{place-below, place-index_at, index_at-place, index_at-in, IsIn-length}
use Rattle.nd_grid.specs.Grid.{Grid, grid_of, block_of}
use Rattle.nd_grid.proofs.Turning.{moved-in}
use Rattle.block_kernels.specs.Kernels.{nth, no_grid, is_within, counted, in_pieces, assembled}
use Rattle.block_kernels.specs.Inputs.{grids_of}
use Rattle.block_kernels.specs.WellFormed.{covered, FitsPiece}
use Rattle.block_kernels.specs.Assembling.{Runs, IsWhole, Lies, Copied, Paints, Painted}
use Rattle.block_kernels.proofs.Filled.{block-filled}
use Rattle.block_kernels.proofs.Viewing.{axis-bounds}

-- ---- how many elements lie side by side

pub lies-none : Lies [] [] [] 1 true
lies-none = record {
  runs = record { count = 1; size = refl; at = λ r t ht h. omega arith };
  is_whole = λ e. record { size = refl; all = refl; at = λ q h. omega arith };
}

whole-place : (s a b n run q : ℕ) → n ≡ run → a * run + b ≡ q → (s + a) * n + b ≡ s * run + q
whole-place s a b n run q e h = ap (λ x. (s + a) * x + b) e ∙ spread s a b run ∙ ap (λ x. s * run + x) h
  where
    spread : (s a b run : ℕ) → (s + a) * run + b ≡ s * run + (a * run + b)
    spread s a b run = omega arith

-- behind a whole box: the place of an element
place-whole : (n s l : ℕ) (ns ss ls : List ℕ) (run q : ℕ) → IsWhole ns ss ls run → q < l * run → place (n ∷ ns) (moved (s ∷ ss) (index_at (l ∷ ls) q)) ≡ s * run + q
place-whole n s l ns ss ls run q w h =
    let p : 0 < run = below_product_right l run q h in
    ap (λ e. (s + q / e) * elements ns + place ns (moved ss (index_at ls (q % e)))) w.size
    ∙ ap (λ x. (s + q / run) * elements ns + x) (w.at (q % run) (mod_below q run p))
    ∙ whole-place s (q / run) (q % run) (elements ns) run q w.all (div-add-mod' q run)

whole-more : (n s l : ℕ) (ns ss ls : List ℕ) (run : ℕ) → IsWhole ns ss ls run → s ≡ 0 → l ≡ n → IsWhole (n ∷ ns) (s ∷ ss) (l ∷ ls) (l * run)
whole-more n s l ns ss ls run w z e = record {
  size = ap (λ x. l * x) w.size;
  all = ap (λ x. n * x) w.all ∙ ap (λ x. x * run) (sym e);
  at = λ q h. place-whole n s l ns ss ls run q w h ∙ ap (λ x. x * run + q) z ∙ omega arith;
}

first-run : (r m t : ℕ) → r * m + t < m → r ≡ 0
first-run zero m t h = refl
first-run (suc r) m t h = absurd (omega arith)

runs-whole : (n s l : ℕ) (ns ss ls : List ℕ) (run : ℕ) → IsWhole ns ss ls run → Runs (n ∷ ns) (s ∷ ss) (l ∷ ls) (l * run)
runs-whole n s l ns ss ls run w =
    let size : l * elements ls ≡ l * run = ap (λ x. l * x) w.size in
    record {
      count = 1;
      size = size ∙ omega arith;
      at = λ r t ht h.
          let low : r * (l * run) + t < l * run = subst (λ x. r * (l * run) + t < x) size h in
          let zr : r ≡ 0 = first-run r (l * run) t low in
          let first : r * (l * run) < l * run = omega arith in
          place-whole n s l ns ss ls run (r * (l * run) + t) w low ∙ omega (arith, place-whole n s l ns ss ls run (r * (l * run)) w first);
    }

count-positive : (l count run p : ℕ) → p < l * (count * run) → 0 < count
count-positive l zero run p h = absurd (omega arith)
count-positive l (suc count) run p h = omega arith

runs-more : (n s l : ℕ) (ns ss ls : List ℕ) (run : ℕ) → Runs ns ss ls run → Runs (n ∷ ns) (s ∷ ss) (l ∷ ls) run
runs-more n s l ns ss ls run w = record {
  count = l * w.count;
  size = ap (λ x. l * x) w.size ∙ sym (mul_assoc l w.count run);
  at = λ r t ht h.
      let some : r * run + t < l * (w.count * run) = subst (λ x. r * run + t < l * x) w.size h in
      let pc : 0 < w.count = count-positive l w.count run (r * run + t) some in
      let a : ℕ = r / w.count in
      let b : ℕ = r % w.count in
      let hb : r % w.count < w.count = mod_below r w.count pc in
      let split : r / w.count * w.count + r % w.count ≡ r = div-add-mod' r w.count in
      let low : (r % w.count) * run + t < w.count * run = subst (λ x. (r % w.count) * run + t < x) (mul_comm run w.count) (mul-add-lt (r % w.count) run t w.count hb ht) in
      let low0 : (r % w.count) * run + 0 < w.count * run = omega arith in
      let here : (u : ℕ) → (r % w.count) * run + u < w.count * run → place (n ∷ ns) (moved (s ∷ ss) (index_at (l ∷ ls) (r * run + u))) ≡ (s + r / w.count) * elements ns + place ns (moved ss (index_at ls ((r % w.count) * run + u))) =
      λ u hu.
      let at : r * run + u ≡ r / w.count * (w.count * run) + ((r % w.count) * run + u) = ap (λ x. x * run + u) (sym split) ∙ product_regroup (r / w.count) w.count (r % w.count) run u in
      ap (λ x. (s + (r * run + u) / x) * elements ns + place ns (moved ss (index_at ls ((r * run + u) % x)))) w.size
      ∙ ap (λ x. (s + x / (w.count * run)) * elements ns + place ns (moved ss (index_at ls (x % (w.count * run))))) at
      ∙ ap (λ x. (s + x) * elements ns + place ns (moved ss (index_at ls ((r / w.count * (w.count * run) + ((r % w.count) * run + u)) % (w.count * run))))) (div-mul-add (r / w.count) (w.count * run) ((r % w.count) * run + u) hu)
      ∙ ap (λ x. (s + r / w.count) * elements ns + place ns (moved ss (index_at ls x))) (mod-mul-add (r / w.count) (w.count * run) ((r % w.count) * run + u) hu) in
      let zb : (r % w.count) * run + 0 ≡ (r % w.count) * run = omega arith in
      let zr : r * run + 0 ≡ r * run = omega arith in
      let inner : place ns (moved ss (index_at ls ((r % w.count) * run + t))) ≡ place ns (moved ss (index_at ls ((r % w.count) * run))) + t = w.at (r % w.count) t ht (subst (λ x. (r % w.count) * run + t < x) (sym w.size) low) in
      let first : place (n ∷ ns) (moved (s ∷ ss) (index_at (l ∷ ls) (r * run))) ≡ (s + r / w.count) * elements ns + place ns (moved ss (index_at ls ((r % w.count) * run))) =
      ap (λ x. place (n ∷ ns) (moved (s ∷ ss) (index_at (l ∷ ls) x))) (sym zr) ∙ here 0 low0 ∙ ap (λ x. (s + r / w.count) * elements ns + place ns (moved ss (index_at ls x))) zb in
      here t low ∙ ap (λ x. (s + r / w.count) * elements ns + x) inner ∙ shift ((s + r / w.count) * elements ns) (place ns (moved ss (index_at ls ((r % w.count) * run)))) t ∙ ap (λ x. x + t) (sym first);
}
  where
    shift : (a b t : ℕ) → a + (b + t) ≡ (a + b) + t
    shift a b t = omega arith

-- one axis more
pub lies-more : (n s l : ℕ) (ns ss ls : List ℕ) (run : ℕ) (was now : Bool) → Lies ns ss ls run was → (now ≡ true → (was ≡ true) × (s ≡ 0) × (l ≡ n)) → Lies (n ∷ ns) (s ∷ ss) (l ∷ ls) (cond was (l * run) run) now
lies-more n s l ns ss ls run true now w f = record {
  runs = runs-whole n s l ns ss ls run (w.is_whole refl);
  is_whole = λ e. whole-more n s l ns ss ls run (w.is_whole refl) (f e).1 (f e).2;
}
lies-more n s l ns ss ls run false now w f = record {
  runs = runs-more n s l ns ss ls run w.runs;
  is_whole = λ e. let bad : false ≡ true = (f e).0 in cc;
}

-- ---- along the axes, from the last on

pub lies-step : (ns ss ls : List ℕ) (j k run : ℕ) (was now : Bool) → k ≡ j + 1 → k ≤ length ls → length ss ≡ length ls → length ns ≡ length ls → Lies (drop k ns) (drop k ss) (drop k ls) run was
    → (now ≡ true → (was ≡ true) × (get_or ss j 0 ≡ 0) × (get_or ls j 0 ≡ get_or ns j 0)) → Lies (drop j ns) (drop j ss) (drop j ls) (cond was (get_or ls j 0 * run) run) now
lies-step ns ss ls j k run was now e h es en w f =
    let dn : drop j ns ≡ get_or ns j 0 ∷ drop (j + 1) ns = drop_more ns j 0 (omega arith) in
    let ds : drop j ss ≡ get_or ss j 0 ∷ drop (j + 1) ss = drop_more ss j 0 (omega arith) in
    let dl : drop j ls ≡ get_or ls j 0 ∷ drop (j + 1) ls = drop_more ls j 0 (omega arith) in
    let v : Lies (drop (j + 1) ns) (drop (j + 1) ss) (drop (j + 1) ls) run was = subst (λ m. Lies (drop m ns) (drop m ss) (drop m ls) run was) e w in
    let x : Lies (get_or ns j 0 ∷ drop (j + 1) ns) (get_or ss j 0 ∷ drop (j + 1) ss) (get_or ls j 0 ∷ drop (j + 1) ls) (cond was (get_or ls j 0 * run) run) now =
    lies-more (get_or ns j 0) (get_or ss j 0) (get_or ls j 0) (drop (j + 1) ns) (drop (j + 1) ss) (drop (j + 1) ls) run was now v f in
    subst (λ xs. Lies xs (drop j ss) (drop j ls) (cond was (get_or ls j 0 * run) run) now) (sym dn)
    (subst (λ xs. Lies (get_or ns j 0 ∷ drop (j + 1) ns) xs (drop j ls) (cond was (get_or ls j 0 * run) run) now) (sym ds)
    (subst (λ xs. Lies (get_or ns j 0 ∷ drop (j + 1) ns) (get_or ss j 0 ∷ drop (j + 1) ss) xs (cond was (get_or ls j 0 * run) run) now) (sym dl) x))

pub lies-start : (ns ss ls : List ℕ) (k : ℕ) → length ls ≤ k → length ss ≡ length ls → length ns ≡ length ls → Lies (drop k ns) (drop k ss) (drop k ls) 1 true
lies-start ns ss ls k h es en =
    subst (λ xs. Lies xs (drop k ss) (drop k ls) 1 true) (sym (drop_all k ns (omega arith)))
    (subst (λ xs. Lies [] xs (drop k ls) 1 true) (sym (drop_all k ss (omega arith))) (subst (λ xs. Lies [] [] xs 1 true) (sym (drop_all k ls h)) lies-none))

pub lies-small : (ns ss ls : List ℕ) (j k run : ℕ) (was : Bool) → k ≡ j + 1 → k ≤ length ls → elements ls ≤ 2 ^ 31 → 0 < elements ls → Lies (drop k ns) (drop k ss) (drop k ls) run was → was ≡ true → get_or ls j 0 * run ≤ 2 ^ 31
lies-small ns ss ls j k run was e h small some w t = (axis-bounds ls j k run e h small some ((w.is_whole t).size)).small

-- ---- all runs

pub run-positive : (ns ss ls : List ℕ) (run : ℕ) → Runs ns ss ls run → 0 < elements ls → 0 < run
run-positive ns ss ls run w h = below_product_right w.count run 0 (subst (λ x. 0 < x) w.size h)

runs-count : (ns ss ls : List ℕ) (run : ℕ) → (w : Runs ns ss ls run) → 0 < elements ls → elements ls / run ≡ w.count
runs-count ns ss ls run w h = let e : elements ls ≡ w.count * run + 0 = w.size ∙ omega arith in ap (λ x. x / run) e ∙ div-mul-add w.count run 0 (run-positive ns ss ls run w h)

pub all-runs : (ns ss ls : List ℕ) (run : ℕ) → Runs ns ss ls run → 0 < elements ls → (elements ls / run) * run ≡ elements ls
all-runs ns ss ls run w h = ap (λ x. x * run) (runs-count ns ss ls run w h) ∙ sym w.size

pub run-fits : (ns ss ls : List ℕ) (run r : ℕ) → Runs ns ss ls run → 0 < elements ls → r < elements ls / run → r * run + run ≤ elements ls
run-fits ns ss ls run r w h b =
    let e : (elements ls / run) * run ≡ elements ls = all-runs ns ss ls run w h in
    subst (λ x. r * run + run ≤ x) e (row_fits r run (elements ls / run) run b (omega arith))

-- ---- indexes of a box

pub within-moved : (ss ls js : List ℕ) → IsIn ls js → length ss ≡ length ls → is_within ss ls (moved ss js) ≡ true
within-moved [] ls js h e = refl
within-moved (s ∷ ss) [] js h e = absurd (omega arith)
within-moved (s ∷ ss) (l ∷ ls) [] h e = absurd h
within-moved (s ∷ ss) (l ∷ ls) (j ∷ js) h e = ap (λ b. b && is_within ss ls (moved ss js)) (inside s l j h.0) ∙ within-moved ss ls js h.1 (omega arith)
  where
    inside : (s l j : ℕ) → j < l → (not (nat_lt (s + j) s) && nat_lt (s + j) (s + l)) ≡ true
    inside s l j h = grind arith

counted-moved : (ss js : List ℕ) → length js ≡ length ss → counted ss (moved ss js) ≡ js
counted-moved [] [] e = refl
counted-moved [] (j ∷ js) e = absurd (omega arith)
counted-moved (s ∷ ss) [] e = absurd (omega arith)
counted-moved (s ∷ ss) (j ∷ js) e = let d : (s + j) - s ≡ j = omega arith in ap (λ x. x ∷ counted ss (moved ss js)) d ∙ ap (λ xs. j ∷ xs) (counted-moved ss js (omega arith))

pub record Counts (ss ls is : List ℕ) : Type 0 where
  pub inside : IsIn ls (counted ss is)
  pub back : moved ss (counted ss is) ≡ is

pub counts : (ns ss ls is : List ℕ) → IsIn ns is → length ss ≡ length ns → length ls ≡ length ns → is_within ss ls is ≡ true → Counts ss ls is
counts [] [] [] [] h e f w = record { inside = tt; back = refl }
counts [] [] [] (i ∷ is) h e f w = absurd h
counts [] [] (l ∷ ls) is h e f w = absurd (omega arith)
counts [] (s ∷ ss) ls is h e f w = absurd (omega arith)
counts (n ∷ ns) [] ls is h e f w = absurd (omega arith)
counts (n ∷ ns) (s ∷ ss) [] is h e f w = absurd (omega arith)
counts (n ∷ ns) (s ∷ ss) (l ∷ ls) [] h e f w = absurd h
counts (n ∷ ns) (s ∷ ss) (l ∷ ls) (i ∷ is) h e f w =
    let p = and_parts (not (nat_lt i s) && nat_lt i (s + l)) (is_within ss ls is) w in
    let q = and_parts (not (nat_lt i s)) (nat_lt i (s + l)) p.0 in
    let r = counts ns ss ls is h.1 (omega arith) (omega arith) p.1 in
    record {
      inside = (below i s l q.0 q.1, r.inside);
      back = ap (λ x. x ∷ moved ss (counted ss is)) (again i s q.0) ∙ ap (λ xs. i ∷ xs) r.back;
    }
  where
    below : (i s l : ℕ) → not (nat_lt i s) ≡ true → nat_lt i (s + l) ≡ true → i - s < l
    below i s l a b = grind arith

    again : (i s : ℕ) → not (nat_lt i s) ≡ true → s + (i - s) ≡ i
    again i s a = grind arith

-- ---- a run is written

same-index : (ns is js : List ℕ) → IsIn ns is → IsIn ns js → place ns is ≡ place ns js → is ≡ js
same-index ns is js h k e = sym (index_at-place ns is h) ∙ ap (index_at ns) e ∙ index_at-place ns js k

pub in-whole : (to : Box) (shape : List ℕ) (q : ℕ) → IsPart to shape → q < elements to.lengths → IsIn shape (moved to.start (index_at to.lengths q))
in-whole to shape q p h = moved-in to shape (index_at to.lengths q) p (index_at-in to.lengths q h)

same-element : (to : Box) (shape : List ℕ) (q r : ℕ) → IsPart to shape → q < elements to.lengths → r < elements to.lengths → place shape (moved to.start (index_at to.lengths q)) ≡ place shape (moved to.start (index_at to.lengths r)) → q ≡ r
same-element to shape q r p hq hr e =
    let hi : IsIn to.lengths (index_at to.lengths q) = index_at-in to.lengths q hq in
    let hj : IsIn to.lengths (index_at to.lengths r) = index_at-in to.lengths r hr in
    let li : length (index_at to.lengths q) ≡ length to.start = IsIn-length to.lengths (index_at to.lengths q) hi ∙ p.lengths ∙ sym p.starts in
    let lj : length (index_at to.lengths r) ≡ length to.start = IsIn-length to.lengths (index_at to.lengths r) hj ∙ p.lengths ∙ sym p.starts in
    let m : moved to.start (index_at to.lengths q) ≡ moved to.start (index_at to.lengths r) = same-index shape _ _ (in-whole to shape q p hq) (in-whole to shape r p hr) e in
    let c : index_at to.lengths q ≡ index_at to.lengths r = sym (counted-moved to.start (index_at to.lengths q) li) ∙ ap (counted to.start) m ∙ counted-moved to.start (index_at to.lengths r) lj in
    sym (place-index_at to.lengths q hq) ∙ ap (place to.lengths) c ∙ place-index_at to.lengths r hr

untouched : (at : ℕ) (cells : List ℤ) (from run : ℕ) (now new : List ℤ) (x : ℕ) → Copied at cells from run now new → ((t : ℕ) → t < run → x ≡ at + t → ⊥) → get_or new x (pos 0) ≡ get_or now x (pos 0)
untouched at cells from run now new x c f = elim (cases_lt x at) [
  | inl b ↦ c.before x b
  | inr b ↦ elim (cases_lt x (at + run)) [
    | inl d ↦ absurd (f (x - at) (omega arith) (omega arith))
    | inr d ↦ c.after x d
  ]
]

pub paints-more : (origin : List ℕ) (to : Box) (shape : List ℕ) (source : Array) (run r : ℕ) (old now new : List ℤ) → IsPart to shape → Runs shape to.start to.lengths run → Runs source.shape origin to.lengths run → r * run + run ≤ elements to.lengths
    → Paints origin to shape source (r * run) old now
    → Copied (place shape (moved to.start (index_at to.lengths (r * run)))) source.cells (place source.shape (moved origin (index_at to.lengths (r * run)))) run now new → Paints origin to shape source ((r + 1) * run) old new
paints-more origin to shape source run r old now new p rt rf room was c = record {
  at = λ q h. elim (cases_lt q (r * run)) [
    | inl b ↦
        untouched (place shape (moved to.start (index_at to.lengths (r * run)))) source.cells (place source.shape (moved origin (index_at to.lengths (r * run)))) run now new (place shape (moved to.start (index_at to.lengths q))) c
        (λ t ht e.
        let ht' : r * run + t < elements to.lengths = omega arith in
        let same : q ≡ r * run + t = same-element to shape q (r * run + t) p (omega arith) ht' (e ∙ sym (rt.at r t ht ht')) in
        omega arith)
        ∙ was.at q b
    | inr b ↦
        let t : ℕ = q - r * run in
        let nx : (r + 1) * run ≡ r * run + run = omega arith in
        let ht : q - r * run < run = omega arith in
        let same : r * run + (q - r * run) ≡ q = omega arith in
        let inside : r * run + (q - r * run) < elements to.lengths = omega arith in
        subst (λ x. get_or new (place shape (moved to.start (index_at to.lengths x))) (pos 0) ≡ get_or source.cells (place source.shape (moved origin (index_at to.lengths x))) (pos 0)) same
        (ap (λ x. get_or new x (pos 0)) (rt.at r (q - r * run) ht inside) ∙ c.at (q - r * run) ht ∙ ap (λ x. get_or source.cells x (pos 0)) (sym (rf.at r (q - r * run) ht inside)))
  ];
  kept = λ i h w.
      untouched (place shape (moved to.start (index_at to.lengths (r * run)))) source.cells (place source.shape (moved origin (index_at to.lengths (r * run)))) run now new (place shape i) c
      (λ t ht e.
      let ht' : r * run + t < elements to.lengths = omega arith in
      let same : i ≡ moved to.start (index_at to.lengths (r * run + t)) = same-index shape i _ h (in-whole to shape (r * run + t) p ht') (e ∙ sym (rt.at r t ht ht')) in
      let yes_it : is_within to.start to.lengths i ≡ true = ap (is_within to.start to.lengths) same ∙ within-moved to.start to.lengths (index_at to.lengths (r * run + t)) (index_at-in to.lengths (r * run + t) ht') (p.starts ∙ sym p.lengths) in
      let bad : false ≡ true = sym w ∙ yes_it in cc)
      ∙ was.kept i h w;
}

pub paints-start : (origin : List ℕ) (to : Box) (shape : List ℕ) (source : Array) (done : ℕ) (old : List ℤ) → done ≡ 0 → Paints origin to shape source done old old
paints-start origin to shape source done old z = record { at = λ q h. absurd (omega arith); kept = λ i h w. refl }

-- the last element of a run lies in the array
pub run-inside : (to : Box) (shape : List ℕ) (run r : ℕ) → IsPart to shape → Runs shape to.start to.lengths run → 0 < run → r * run + run ≤ elements to.lengths → place shape (moved to.start (index_at to.lengths (r * run))) + run ≤ elements shape
run-inside to shape run r p rt some room =
    let h : r * run + (run - 1) < elements to.lengths = omega arith in
    let e : place shape (moved to.start (index_at to.lengths (r * run + (run - 1)))) ≡ place shape (moved to.start (index_at to.lengths (r * run))) + (run - 1) = rt.at r (run - 1) (omega arith) h in
    omega (arith, place-below shape (moved to.start (index_at to.lengths (r * run + (run - 1)))) (in-whole to shape (r * run + (run - 1)) p h))

-- ---- all pieces

pub painted-none : (gs : List Grid) (shape : List ℕ) (cells : List ℤ) → Painted [] gs shape cells
painted-none gs shape cells = record { at = λ i v h e. cc }

same-some : (a b : ℤ) → ◌≡◌ {A = Option ℤ} (Some a) (Some b) → a ≡ b
same-some a b e = cc

pub painted-more : (p : Piece) (ps : List Piece) (gs : List Grid) (shape : List ℕ) (source : Array) (old new : List ℤ) → nth gs p.source ≡ grid_of source → IsPart p.to shape → Painted ps gs shape old → Paints p.from.start p.to shape source (elements p.to.lengths) old new
    → Painted (p ∷ ps) gs shape new
painted-more p ps gs shape source old new g part was paint = record { at = λ i v h e. by_case i v h (is_within p.to.start p.to.lengths i) refl e }
  where
    by_case : (i : List ℕ) (v : ℤ) → IsIn shape i → (b : Bool) → is_within p.to.start p.to.lengths i ≡ b → cond b ((nth gs p.source).at (moved p.from.start (counted p.to.start i))) (in_pieces ps gs i) ≡ Some v → get_or new (place shape i) (pos 0) ≡ v
    by_case i v h true w e =
        let c = counts shape p.to.start p.to.lengths i h part.starts part.lengths w in
        let j = counted p.to.start i in
        let q : ℕ = place p.to.lengths (counted p.to.start i) in
        let hq : place p.to.lengths (counted p.to.start i) < elements p.to.lengths = place-below p.to.lengths (counted p.to.start i) c.inside in
        let back : index_at p.to.lengths (place p.to.lengths (counted p.to.start i)) ≡ counted p.to.start i = index_at-place p.to.lengths (counted p.to.start i) c.inside in
        ap (λ x. get_or new (place shape x) (pos 0)) (sym c.back) ∙ ap (λ x. get_or new (place shape (moved p.to.start x)) (pos 0)) (sym back)
        ∙ paint.at (place p.to.lengths (counted p.to.start i)) hq
        ∙ ap (λ x. get_or source.cells (place source.shape (moved p.from.start x)) (pos 0)) back
        ∙ same-some (get_or source.cells (place source.shape (moved p.from.start (counted p.to.start i))) (pos 0)) v (ap (λ (x : Grid). x.at (moved p.from.start (counted p.to.start i))) (sym g) ∙ e)
    by_case i v h false w e = paint.kept i h w ∙ was.at i v h e

there-is : (ps : List Piece) (blocks : List Array) (inputs : List (List ℕ)) (shape i : List ℕ) → All (λ p. FitsPiece p inputs shape) ps → length inputs ≡ length blocks → covered ps i ≡ 1 → (v : ℤ) × (in_pieces ps (grids_of blocks) i ≡ Some v)
there-is [] blocks inputs shape i a n e = absurd (omega arith)
there-is (p ∷ ps) blocks inputs shape i a n e =
    by_case (is_within p.to.start p.to.lengths i) (λ h. there-is ps blocks inputs shape i (λ k d b. a (suc k) d (omega arith)) n h) e
  where
    fits : FitsPiece p inputs shape
    fits = a 0 p (omega arith)

    by_case : (b : Bool) → (covered ps i ≡ 1 → (v : ℤ) × (in_pieces ps (grids_of blocks) i ≡ Some v)) → cond b 1 0 + covered ps i ≡ 1
        → (v : ℤ) × (cond b ((nth (grids_of blocks) p.source).at (moved p.from.start (counted p.to.start i))) (in_pieces ps (grids_of blocks) i) ≡ Some v)
    by_case true rest h =
        let a0 : Array = get_or blocks p.source (record { shape = []; cells = [] }) in
        let there : p.source < length blocks = omega (arith, fits.source_in) in (
          get_or a0.cells (place a0.shape (moved p.from.start (counted p.to.start i))) (pos 0),
          ap (λ (x : Grid). x.at (moved p.from.start (counted p.to.start i))) (get_or-map grid_of blocks p.source (record { shape = []; cells = [] }) no_grid there),
        )
    by_case false rest h = rest (omega arith)

pub assembled-filled : (ps : List Piece) (blocks : List Array) (inputs : List (List ℕ)) (shape : List ℕ) (xs : List ℤ) → All (λ p. FitsPiece p inputs shape) ps → length inputs ≡ length blocks → ((i : List ℕ) → IsIn shape i → covered ps i ≡ 1)
    → length xs ≡ elements shape → Painted ps (grids_of blocks) shape xs → block_of (assembled ps shape (grids_of blocks)) ≡ Ok (record { shape = shape; cells = xs })
assembled-filled ps blocks inputs shape xs a n once len painted =
    block-filled (assembled ps shape (grids_of blocks)) xs len (λ p h.
    let i = index_at shape p in
    let inside : IsIn shape (index_at shape p) = index_at-in shape p h in
    let t = there-is ps blocks inputs shape (index_at shape p) a n (once (index_at shape p) inside) in
    t.1 ∙ ap Some (sym (painted.at (index_at shape p) t.0 inside t.1) ∙ ap (λ x. get_or xs x (pos 0)) (place-index_at shape p h)))

-- ---- a run copied by a slice

pub copied-put : (target cells ys : List ℤ) (place from count k m : ℕ) → place + count ≤ length target → from + count ≤ length cells → ys ≡ take m (drop from cells) → k ≡ count → m ≡ count → Copied place cells from count target (put_mid place k target ys)
copied-put target cells ys place from count k m h hc ey ek em =
    let la : length (take place target) ≡ place = length-take-le place target (omega arith) in
    let same : ys ≡ take count (drop from cells) = ey ∙ ap (λ n. take n (drop from cells)) em in
    let ly : length ys ≡ count = ap length same ∙ length-take-le count (drop from cells) (omega (arith, length-drop from cells)) in
    let rest : List ℤ = drop k (drop place target) in
    let past : (i : ℕ) → get_or (put_mid place k target ys) (place + i) (pos 0) ≡ get_or (ys ++ drop k (drop place target)) i (pos 0) =
    λ i. ap (λ n. get_or (put_mid place k target ys) (n + i) (pos 0)) (sym la) ∙ get_or-append-add (take place target) (ys ++ drop k (drop place target)) i (pos 0) in
    record {
      at = λ i hi.
          let li : i < length ys = omega arith in
          past i ∙ get_or_append_left ys (drop k (drop place target)) (pos 0) i li ∙ ap (λ (xs : List ℤ). get_or xs i (pos 0)) same ∙ get_or-take count (drop from cells) i (pos 0) hi ∙ get_or-drop from cells i (pos 0);
      before = λ j hj.
          let lj : j < length (take place target) = omega arith in
          get_or_append_left (take place target) (ys ++ drop k (drop place target)) (pos 0) j lj ∙ get_or-take place target j (pos 0) hj;
      after = λ j hj.
          let t : ℕ = (j - place) - count in
          let split : place + (length ys + ((j - place) - count)) ≡ j = omega arith in
          let back : place + (k + ((j - place) - count)) ≡ j = omega arith in
          ap (λ n. get_or (put_mid place k target ys) n (pos 0)) (sym split)
          ∙ past (length ys + ((j - place) - count))
          ∙ get_or-append-add ys (drop k (drop place target)) ((j - place) - count) (pos 0)
          ∙ get_or-drop k (drop place target) ((j - place) - count) (pos 0)
          ∙ get_or-drop place target (k + ((j - place) - count)) (pos 0)
          ∙ ap (λ n. get_or target n (pos 0)) back;
    }

-- ---- the loop over the pieces

pub painted-start : (ps : List Piece) (gs : List Grid) (shape : List ℕ) (cells : List ℤ) → Painted (drop (length ps) ps) gs shape cells
painted-start ps gs shape cells = subst (λ xs. Painted xs gs shape cells) (sym (drop_all (length ps) ps (omega arith))) (painted-none gs shape cells)

pub painted-step : (ps : List Piece) (j k : ℕ) (p : Piece) (gs : List Grid) (shape : List ℕ) (source : Array) (old new : List ℤ) → k ≡ j + 1 → k ≤ length ps → p ≡ get_or ps j p → nth gs p.source ≡ grid_of source → IsPart p.to shape
    → Painted (drop k ps) gs shape old → Paints p.from.start p.to shape source (elements p.to.lengths) old new → Painted (drop j ps) gs shape new
painted-step ps j k p gs shape source old new e h is g part was paint =
    let dn : drop j ps ≡ get_or ps j p ∷ drop (j + 1) ps = drop_more ps j p (omega arith) in
    let at : drop j ps ≡ p ∷ drop k ps = dn ∙ ap (λ (x : Piece). x ∷ drop (j + 1) ps) (sym is) ∙ ap (λ n. p ∷ drop n ps) (sym e) in
    subst (λ xs. Painted xs gs shape new) (sym at) (painted-more p (drop k ps) gs shape source old new g part was paint)
