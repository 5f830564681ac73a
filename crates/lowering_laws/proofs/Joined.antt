-- Concatenations carry their formula.
use Rattle.std.proofs.Common.{◌≡◌, ◌≢◌, ℕ, zero, suc, ◌+◌, ◌-◌, ◌<◌, ◌≤◌, cond, Bool, true, ◌&&◌, ◌⊎◌, List, [], ◌∷◌, ◌++◌, length, map, take, get_or, set, refl, ap, sym, subst, ◌∙◌, arith, inl, inr, None, ℤ, length-append, append_assoc}
use Rattle.std.specs.Prelude.{nat_lt, not, Option}
use Rattle.std.proofs.lemmas.Bool.{cases_eq}
use Rattle.std.proofs.lemmas.List.{length-map, get_or-map, get_or-set_same, get_or-set_other, length-set, set-set, set-get_or}
use Rattle.std.proofs.lemmas.List.FromFn.{length-map-range_with_len, get_or-map-range_with_len}
use Rattle.std.proofs.lemmas.Grind.{same_number_lists}
use Rattle.nd_shape.specs.Block.{Array}
use Rattle.nd_shape.specs.Index.{IsIn}
use Rattle.nd_shape.specs.Region.{Box, moved}
use Rattle.nd_shape.specs.Chunk.{total}
use Rattle.nd_shape.proofs.Places.{IsIn-length}
use Rattle.nd_shape.proofs.Axes.{IsIn-at}
use Rattle.nd_grid.specs.Grid.{Grid, Holds, grid_of, concatenated, at_along, length_along}
use Rattle.nd_grid.proofs.Turning.{length-moved, moved-at}
use Rattle.chunk_layout.specs.Layouts.{counts, lengths, starts_at, lengths_at, box_at}
use Rattle.chunk_layout.proofs.Parting.{length-starts, length-lengths, total-before}
use Rattle.cluster_msgs.specs.Dags.{IsEarlier}
use Rattle.cluster_msgs.specs.Shape.{deps_of}
use Rattle.block_kernels.specs.Kernels.{nth, no_grid, counted, is_within, assembled}
use Rattle.task_graph.specs.declared.graph.Task.{Task}
use Rattle.task_graph.specs.Graphs.{shape_of}
use Rattle.lowering_laws.specs.Sources.{Source, key_at, fitted}
use Rattle.lowering_laws.specs.Stages.{Along, along_from, along_all, or_empty, no_along, along_at, whole_piece, fitted_along, no_source, common_axis, common_layout, joined_task, concatenated_blocks}
use Rattle.lowering_laws.specs.Law.{Carries, Stand, HaveChunks}
use Rattle.lowering_laws.proofs.Carrying.{Stand-front, Stand-back, carries-each, one-input}
use Rattle.lowering_laws.proofs.Cutting.{chunks-on, some-each, some-joined_all}
use Rattle.lowering_laws.proofs.Points.{joined_all-total}
use Rattle.lowering_laws.proofs.Reductions.{one-block}
use Rattle.lowering_laws.proofs.Fitting.{IsFitted, carries-fitted}
use Rattle.lowering_laws.proofs.Products.{total-on}
use Rattle.nd_shape.proofs.Totals.{total-push, total-append}

-- ---- one whole piece

zeros-counted : (lens is : List ℕ) → IsIn lens is → moved (map (λ (n : ℕ). 0) lens) (counted (map (λ (n : ℕ). 0) lens) is) ≡ is
zeros-counted [] [] h = refl
zeros-counted [] (i ∷ is) h = absurd h
zeros-counted (n ∷ lens) [] h = absurd h
zeros-counted (n ∷ lens) (i ∷ is) h = let z : 0 + (i - 0) ≡ i = omega arith in ap (λ x. x ∷ moved (map (λ (n : ℕ). 0) lens) (counted (map (λ (n : ℕ). 0) lens) is)) z ∙ ap (λ xs. i ∷ xs) (zeros-counted lens is h.1)

pub zeros-within : (lens is : List ℕ) → IsIn lens is → is_within (map (λ (n : ℕ). 0) lens) lens is ≡ true
zeros-within [] [] h = refl
zeros-within [] (i ∷ is) h = absurd h
zeros-within (n ∷ lens) [] h = absurd h
zeros-within (n ∷ lens) (i ∷ is) h = both i n (is_within (map (λ (n : ℕ). 0) lens) lens is) h.0 (zeros-within lens is h.1)
  where
    both : (i n : ℕ) (b : Bool) → i < n → b ≡ true → ((not (nat_lt i 0) && nat_lt i (0 + n)) && b) ≡ true
    both i n b h e = grind arith

pub whole-local : (a g : Grid) (lens : List ℕ) (box from : Box) → Holds a g from → from.lengths ≡ lens → box.lengths ≡ lens → ((i : List ℕ) → IsIn lens i → g.at (moved from.start i) ≡ g.at (moved from.start i)) → (rest : List Grid)
    → (i : List ℕ) → IsIn lens i → (assembled (whole_piece lens ∷ []) lens (a ∷ rest)).at i ≡ g.at (moved from.start i)
whole-local a g lens box from ha e f same rest i h =
    ap (λ b. cond b (a.at (moved (map (λ (n : ℕ). 0) lens) (counted (map (λ (n : ℕ). 0) lens) i))) None) (zeros-within lens i h)
    ∙ ap a.at (zeros-counted lens i h) ∙ ha.at i (subst (λ ns. IsIn ns i) (sym e) h)

-- ---- chunks along the axis

abbrev pub before : List (List ℕ) → ℕ → ℕ
before zs p = total (map (λ (sizes : List ℕ). total sizes) (take p zs))

-- a chunk along the axis is one of an operand, and begins where those before it end
pub record AlongFits (zs : List (List ℕ)) (low : ℕ) (a : Along) : Type 0 where
  pub there : a.operand < length zs
  pub chunk : a.chunk < length (get_or zs a.operand [])
  pub size : a.size ≡ get_or (get_or zs a.operand []) a.chunk 0
  pub low_is : low ≡ before zs a.operand + total (take a.chunk (get_or zs a.operand []))

abbrev pub AllAlong : List (List ℕ) → ℕ → List Along → Type 0
AllAlong zs low [] = Unit {0}
AllAlong zs low (a ∷ as') = AlongFits zs low a × AllAlong zs (low + a.size) as'

abbrev pub sizes_along : List Along → List ℕ
sizes_along as' = map (λ (a : Along). a.size) as'

all-append : (zs : List (List ℕ)) (low : ℕ) (xs ys : List Along) → AllAlong zs low xs → AllAlong zs (low + total (sizes_along xs)) ys → AllAlong zs low (xs ++ ys)
all-append zs low [] ys a b = let z : low + 0 ≡ low = omega arith in subst (λ k. AllAlong zs k ys) z b
all-append zs low (x ∷ xs) ys a b = let z : low + (x.size + total (sizes_along xs)) ≡ low + x.size + total (sizes_along xs) = omega arith in (a.0, all-append zs (low + x.size) xs ys a.1 (subst (λ k. AllAlong zs k ys) z b))

get-here : {A : Type 0} (front rest : List A) (x d : A) → get_or (front ++ x ∷ rest) (length front) d ≡ x
get-here [] rest x d = refl
get-here (y ∷ front) rest x d = get-here front rest x d

take-here : (front rest : List ℕ) → take (length front) (front ++ rest) ≡ front
take-here [] rest = refl
take-here (y ∷ front) rest = ap (λ xs. y ∷ xs) (take-here front rest)

-- from number k on
along-from : (zs : List (List ℕ)) (p : ℕ) (front rest : List ℕ) → p < length zs → get_or zs p [] ≡ front ++ rest
    → AllAlong zs (before zs p + total front) (along_from p (length front) rest) × (total (sizes_along (along_from p (length front) rest)) ≡ total rest)
along-from zs p front [] h e = (tt, refl)
along-from zs p front (s ∷ rest) h e =
    let next = along-from zs p (front ++ s ∷ []) rest h (e ∙ sym (append_assoc front (s ∷ []) rest)) in
    let count : length (front ++ s ∷ []) ≡ suc (length front) = length-append front (s ∷ []) ∙ omega arith in
    let low : before zs p + total (front ++ s ∷ []) ≡ before zs p + total front + s = omega (arith, total-push front s) in
    let all : AllAlong zs (before zs p + total front + s) (along_from p (suc (length front)) rest) = subst (λ k. AllAlong zs k (along_from p (suc (length front)) rest)) low (subst (λ k. AllAlong zs (before zs p + total (front ++ s ∷ [])) (along_from p k rest)) count next.0) in
    let sum : total (sizes_along (along_from p (suc (length front)) rest)) ≡ total rest = ap (λ k. total (sizes_along (along_from p k rest))) (sym count) ∙ next.1 in
    elim (cases_eq s 0) [
      | inl z ↦ let skip : along_from p (length front) (s ∷ rest) ≡ along_from p (suc (length front)) rest = skips p (length front) s rest z in
          let y : before zs p + total front + s ≡ before zs p + total front = omega arith in
          (subst (AllAlong zs (before zs p + total front)) (sym skip) (subst (λ k. AllAlong zs k (along_from p (suc (length front)) rest)) y all), ap (λ (as' : List Along). total (sizes_along as')) skip ∙ sum ∙ omega arith)
      | inr d ↦ let keep : along_from p (length front) (s ∷ rest) ≡ record { operand = p; chunk = length front; size = s } ∷ along_from p (suc (length front)) rest = keeps p (length front) s rest d in
          let fits : AlongFits zs (before zs p + total front) (record { operand = p; chunk = length front; size = s }) = record {
            there = h;
            chunk = subst (λ (xs : List ℕ). length front < length xs) (sym e) (omega (arith, length-append front (s ∷ rest)));
            size = sym (ap (λ (xs : List ℕ). get_or xs (length front) 0) e ∙ get-here front rest s 0);
            low_is = ap (λ (xs : List ℕ). before zs p + total xs) (sym (ap (take (length front)) e ∙ take-here front (s ∷ rest)));
          } in
          (subst (AllAlong zs (before zs p + total front)) (sym keep) (fits, all), ap (λ (as' : List Along). total (sizes_along as')) keep ∙ ap (λ k. s + k) sum)
    ]
  where
    skips : (p k s : ℕ) (rest : List ℕ) → s ≡ 0 → along_from p k (s ∷ rest) ≡ along_from p (suc k) rest
    skips p k s rest h = grind arith

    keeps : (p k s : ℕ) (rest : List ℕ) → s ≢ 0 → along_from p k (s ∷ rest) ≡ record { operand = p; chunk = k; size = s } ∷ along_from p (suc k) rest
    keeps p k s rest h = grind arith

before-push : (done rest : List (List ℕ)) (z : List ℕ) → before (done ++ z ∷ rest) (suc (length done)) ≡ before (done ++ z ∷ rest) (length done) + total z
before-push [] rest z = omega arith
before-push (d ∷ done) rest z = omega (arith, before-push done rest z)

along-all : (done rest : List (List ℕ)) → AllAlong (done ++ rest) (before (done ++ rest) (length done)) (along_all (length done) rest) × (total (sizes_along (along_all (length done) rest)) ≡ total (map (λ (sizes : List ℕ). total sizes) rest))
along-all done [] = (tt, refl)
along-all done (z ∷ rest) =
    let zs = done ++ z ∷ rest in
    let here = along-from zs (length done) [] z (omega (arith, length-append done (z ∷ rest))) (get-here done rest z []) in
    let y : before zs (length done) + 0 ≡ before zs (length done) = omega arith in
    let first : AllAlong zs (before zs (length done)) (along_from (length done) 0 z) = subst (λ k. AllAlong zs k (along_from (length done) 0 z)) y here.0 in
    let same : (done ++ z ∷ []) ++ rest ≡ done ++ z ∷ rest = append_assoc done (z ∷ []) rest in
    let count : length (done ++ z ∷ []) ≡ suc (length done) = length-append done (z ∷ []) ∙ omega arith in
    let next = along-all (done ++ z ∷ []) rest in
    let later : AllAlong zs (before zs (suc (length done))) (along_all (suc (length done)) rest) =
    subst (λ (us : List (List ℕ)). AllAlong us (before us (suc (length done))) (along_all (suc (length done)) rest)) same
    (subst (λ k. AllAlong ((done ++ z ∷ []) ++ rest) (before ((done ++ z ∷ []) ++ rest) k) (along_all k rest)) count next.0) in
    let sum : total (sizes_along (along_all (suc (length done)) rest)) ≡ total (map (λ (sizes : List ℕ). total sizes) rest) = ap (λ k. total (sizes_along (along_all k rest))) (sym count) ∙ next.1 in
    let low : before zs (suc (length done)) ≡ before zs (length done) + total (sizes_along (along_from (length done) 0 z)) = before-push done rest z ∙ ap (λ k. before zs (length done) + k) (sym here.1) in (
      all-append zs (before zs (length done)) (along_from (length done) 0 z) (along_all (suc (length done)) rest) first (subst (λ k. AllAlong zs k (along_all (suc (length done)) rest)) low later),
      ap total (sizes-append (along_from (length done) 0 z) (along_all (suc (length done)) rest)) ∙ total-append (sizes_along (along_from (length done) 0 z)) (sizes_along (along_all (suc (length done)) rest)) ∙ omega (arith, here.1, sum),
    )
  where
    sizes-append : (xs ys : List Along) → sizes_along (xs ++ ys) ≡ sizes_along xs ++ sizes_along ys
    sizes-append [] ys = refl
    sizes-append (x ∷ xs) ys = ap (λ ns. x.size ∷ ns) (sizes-append xs ys)

-- where nothing lies along the axis, the first chunk is empty
zero-first : (z : List ℕ) → total z ≡ 0 → get_or z 0 0 ≡ 0
zero-first [] h = refl
zero-first (s ∷ z) h = omega arith

empty-fits : (z : List ℕ) (zs : List (List ℕ)) (as' : List Along) → 0 < length z → AllAlong (z ∷ zs) 0 as' → total (sizes_along as') ≡ total (map (λ (sizes : List ℕ). total sizes) (z ∷ zs))
    → AllAlong (z ∷ zs) 0 (or_empty as') × (total (sizes_along (or_empty as')) ≡ total (map (λ (sizes : List ℕ). total sizes) (z ∷ zs)))
empty-fits z zs [] some a e = ((record { there = omega arith; chunk = some; size = sym (zero-first z (omega arith)); low_is = refl }, tt), omega arith)
empty-fits z zs (x ∷ as') some a e = (a, e)

pub along-fits : (z : List ℕ) (zs : List (List ℕ)) → 0 < length z → AllAlong (z ∷ zs) 0 (or_empty (along_all 0 (z ∷ zs))) × (total (sizes_along (or_empty (along_all 0 (z ∷ zs)))) ≡ total (map (λ (sizes : List ℕ). total sizes) (z ∷ zs)))
along-fits z zs some = let r = along-all [] (z ∷ zs) in empty-fits z zs (along_all 0 (z ∷ zs)) some r.0 r.1

pub along-number : (zs : List (List ℕ)) (low : ℕ) (as' : List Along) (b : ℕ) → AllAlong zs low as' → b < length as' → AlongFits zs (low + total (take b (sizes_along as'))) (along_at as' b)
along-number zs low [] b a h = absurd (omega arith)
along-number zs low (x ∷ as') zero a h = let z : low + 0 ≡ low = omega arith in subst (λ k. AlongFits zs k x) (sym z) a.0
along-number zs low (x ∷ as') (suc b) a h =
    let z : low + x.size + total (take b (sizes_along as')) ≡ low + (x.size + total (take b (sizes_along as'))) = omega arith in
    subst (λ k. AlongFits zs k (along_at as' b)) z (along-number zs (low + x.size) as' b a.1 (omega arith))

-- ---- the grids along the axis

set-here : (i : List ℕ) (axis x : ℕ) → axis < length i → get_or i axis 0 ≡ x → set i axis x ≡ i
set-here i axis x h e = ap (set i axis) (sym e) ∙ set-get_or i axis 0

pub along-grid : (axis : ℕ) (gs : List Grid) (p : ℕ) (i : List ℕ) (x : ℕ) (d : Grid) → p < length gs → axis < length i → get_or i axis 0 ≡ length_along axis (take p gs) + x → x < get_or (get_or gs p d).shape axis 0
    → at_along axis gs i ≡ (get_or gs p d).at (set i axis x)
along-grid axis [] p i x d h b e lt = absurd (omega arith)
along-grid axis (g ∷ gs) zero i x d h b e lt =
    let z : get_or i axis 0 ≡ x = omega arith in
    first (get_or i axis 0) (get_or g.shape axis 0) (g.at i) (at_along axis gs (set i axis (get_or i axis 0 - get_or g.shape axis 0))) (omega arith) ∙ ap g.at (sym (set-here i axis x b z))
  where
    first : (k n : ℕ) (a c : Option ℤ) → k < n → cond (nat_lt k n) a c ≡ a
    first k n a c h = grind arith
along-grid axis (g ∷ gs) (suc p) i x d h b e lt =
    let rest = get_or i axis 0 - get_or g.shape axis 0 in
    let at : get_or (set i axis (get_or i axis 0 - get_or g.shape axis 0)) axis 0 ≡ get_or i axis 0 - get_or g.shape axis 0 = get_or-set_same i axis (get_or i axis 0 - get_or g.shape axis 0) 0 b in
    later (get_or i axis 0) (get_or g.shape axis 0) (g.at i) (at_along axis gs (set i axis (get_or i axis 0 - get_or g.shape axis 0))) (omega arith)
    ∙ along-grid axis gs p (set i axis (get_or i axis 0 - get_or g.shape axis 0)) x d (omega arith) (omega (arith, length-set i axis (get_or i axis 0 - get_or g.shape axis 0))) (at ∙ omega arith) lt
    ∙ ap (get_or gs p d).at (set-set i axis (get_or i axis 0 - get_or g.shape axis 0) x)
  where
    later : (k n : ℕ) (a c : Option ℤ) → n ≤ k → cond (nat_lt k n) a c ≡ c
    later k n a c h = grind arith

-- ---- boxes that differ along the axis

starts-set : (common : List (List ℕ)) (axis : ℕ) (z w : List ℕ) (bs : List ℕ) (j : ℕ) → axis < length common → length bs ≡ length common → starts_at (set common axis z) (set bs axis j) ≡ set (starts_at (set common axis w) bs) axis (total (take j z))
starts-set [] axis z w bs j h e = absurd (omega arith)
starts-set (c ∷ common) axis z w [] j h e = absurd (omega arith)
starts-set (c ∷ common) zero z w (b ∷ bs) j h e = refl
starts-set (c ∷ common) (suc axis) z w (b ∷ bs) j h e = ap (λ xs. total (take b c) ∷ xs) (starts-set common axis z w bs j (omega arith) (omega arith))

pub lengths-set : (common : List (List ℕ)) (axis : ℕ) (z w : List ℕ) (bs : List ℕ) (j : ℕ) → axis < length common → length bs ≡ length common → get_or z j 0 ≡ get_or w (get_or bs axis 0) 0 → lengths_at (set common axis z) (set bs axis j) ≡ lengths_at (set common axis w) bs
lengths-set [] axis z w bs j h e f = absurd (omega arith)
lengths-set (c ∷ common) axis z w [] j h e f = absurd (omega arith)
lengths-set (c ∷ common) zero z w (b ∷ bs) j h e f = ap (λ n. n ∷ lengths_at common bs) f
lengths-set (c ∷ common) (suc axis) z w (b ∷ bs) j h e f = ap (λ xs. get_or c b 0 ∷ xs) (lengths-set common axis z w bs j (omega arith) (omega arith) f)

pub counts-set : (common : List (List ℕ)) (axis : ℕ) (z w : List ℕ) (bs : List ℕ) (j : ℕ) → axis < length common → IsIn (counts (set common axis w)) bs → j < length z → IsIn (counts (set common axis z)) (set bs axis j)
counts-set [] axis z w bs j h e f = absurd (omega arith)
counts-set (c ∷ common) zero z w [] j h e f = absurd e
counts-set (c ∷ common) (suc axis) z w [] j h e f = absurd e
counts-set (c ∷ common) zero z w (b ∷ bs) j h e f = (f, e.1)
counts-set (c ∷ common) (suc axis) z w (b ∷ bs) j h e f = (e.0, counts-set common axis z w bs j (omega arith) e.1 f)

moved-set : (ss is : List ℕ) (axis v : ℕ) → axis < length ss → length is ≡ length ss → moved (set ss axis v) is ≡ set (moved ss is) axis (v + get_or is axis 0)
moved-set [] is axis v h e = absurd (omega arith)
moved-set (s ∷ ss) [] axis v h e = absurd (omega arith)
moved-set (s ∷ ss) (i ∷ is) zero v h e = refl
moved-set (s ∷ ss) (i ∷ is) (suc axis) v h e = ap (λ xs. (s + i) ∷ xs) (moved-set ss is axis v (omega arith) (omega arith))

pub starts-axis : (common : List (List ℕ)) (axis : ℕ) (w bs : List ℕ) → axis < length common → IsIn (counts (set common axis w)) bs → (get_or (starts_at (set common axis w) bs) axis 0 ≡ total (take (get_or bs axis 0) w)) × (get_or bs axis 0 < length w)
    × (get_or (lengths_at (set common axis w) bs) axis 0 ≡ get_or w (get_or bs axis 0) 0)
starts-axis [] axis w bs h e = absurd (omega arith)
starts-axis (c ∷ common) zero w [] h e = absurd e
starts-axis (c ∷ common) (suc axis) w [] h e = absurd e
starts-axis (c ∷ common) zero w (b ∷ bs) h e = (refl, e.0, refl)
starts-axis (c ∷ common) (suc axis) w (b ∷ bs) h e = starts-axis common axis w bs (omega arith) e.1

-- a block of the concatenation is a block of an operand
pub joined-local : (axis : ℕ) (common : List (List ℕ)) (zs : List (List ℕ)) (gs : List Grid) (d : Grid) (as' : List Along) (bs : List ℕ) (a : Grid) (rest : List Grid) → axis < length common → length zs ≡ length gs
    → ((p : ℕ) → p < length gs → total (get_or zs p []) ≡ get_or (get_or gs p d).shape axis 0) → ((p : ℕ) → p ≤ length gs → before zs p ≡ length_along axis (take p gs))
    → AllAlong zs 0 as' → IsIn (counts (set common axis (sizes_along as'))) bs
    → Holds a (get_or gs (along_at as' (get_or bs axis 0)).operand d) (box_at (set common axis (get_or zs (along_at as' (get_or bs axis 0)).operand [])) (set bs axis (along_at as' (get_or bs axis 0)).chunk))
    → Holds (assembled (whole_piece (lengths_at (set common axis (sizes_along as')) bs) ∷ []) (lengths_at (set common axis (sizes_along as')) bs) (a ∷ rest)) (concatenated axis gs) (box_at (set common axis (sizes_along as')) bs)
joined-local axis common zs gs d as' bs a rest h count lens low all inside ha =
    let w = sizes_along as' in
    let layout = set common axis (sizes_along as') in
    let b = get_or bs axis 0 in
    let it = along_at as' (get_or bs axis 0) in
    let z = get_or zs (along_at as' (get_or bs axis 0)).operand [] in
    let g = get_or gs (along_at as' (get_or bs axis 0)).operand d in
    let ax = starts-axis common axis (sizes_along as') bs h inside in
    let few : get_or bs axis 0 < length as' = omega (arith, ax.1, length-map as' (λ (a : Along). a.size)) in
    let zero-plus : 0 + total (take (get_or bs axis 0) (sizes_along as')) ≡ total (take (get_or bs axis 0) (sizes_along as')) = omega arith in
    let fits : AlongFits zs (total (take (get_or bs axis 0) (sizes_along as'))) (along_at as' (get_or bs axis 0)) = subst (λ k. AlongFits zs k (along_at as' (get_or bs axis 0))) zero-plus (along-number zs 0 as' (get_or bs axis 0) all few) in
    let lb : length bs ≡ length common = IsIn-length (counts (set common axis (sizes_along as'))) bs inside ∙ length-map (set common axis (sizes_along as')) (λ (sizes : List ℕ). length sizes) ∙ length-set common axis (sizes_along as') in
    let size : get_or (get_or zs (along_at as' (get_or bs axis 0)).operand []) (along_at as' (get_or bs axis 0)).chunk 0 ≡ get_or (sizes_along as') (get_or bs axis 0) 0 = sym fits.size ∙ sym (get_or-map (λ (a : Along). a.size) as' (get_or bs axis 0) no_along 0 few) in
    let lengths-same : lengths_at (set common axis z) (set bs axis (along_at as' (get_or bs axis 0)).chunk) ≡ lengths_at layout bs = lengths-set common axis z w bs (along_at as' (get_or bs axis 0)).chunk h lb size in
    let starts-same : starts_at (set common axis z) (set bs axis (along_at as' (get_or bs axis 0)).chunk) ≡ set (starts_at layout bs) axis (total (take (along_at as' (get_or bs axis 0)).chunk z)) = starts-set common axis z w bs (along_at as' (get_or bs axis 0)).chunk h lb in
    let ls : length (starts_at layout bs) ≡ length common = length-starts layout bs inside ∙ length-set common axis w in
    let ll : length (lengths_at layout bs) ≡ length common = length-lengths layout bs inside ∙ length-set common axis w in
    record {
      shape = refl;
      at = λ i inb.
          let li : length i ≡ length common = IsIn-length (lengths_at layout bs) i inb ∙ ll in
          let below : get_or i axis 0 < get_or (lengths_at layout bs) axis 0 = IsIn-at (lengths_at layout bs) i axis inb (omega arith) in
          let x = total (take (along_at as' (get_or bs axis 0)).chunk z) + get_or i axis 0 in
          let m : get_or (moved (starts_at layout bs) i) axis 0 ≡ get_or (starts_at layout bs) axis 0 + get_or i axis 0 = moved-at (starts_at layout bs) i axis (omega arith) (omega arith) in
          let into : total (take (along_at as' (get_or bs axis 0)).chunk z) + get_or z (along_at as' (get_or bs axis 0)).chunk 0 ≤ total z = total-before z (along_at as' (get_or bs axis 0)).chunk fits.chunk in
          let there : (along_at as' (get_or bs axis 0)).operand < length gs = omega (arith, fits.there) in
          whole-local a g (lengths_at layout bs) (box_at layout bs) (box_at (set common axis z) (set bs axis (along_at as' (get_or bs axis 0)).chunk)) ha lengths-same refl (λ i h. refl) rest i inb
          ∙ ap (λ ss. g.at (moved ss i)) starts-same
          ∙ ap g.at (moved-set (starts_at layout bs) i axis (total (take (along_at as' (get_or bs axis 0)).chunk z)) (omega arith) (omega arith))
          ∙ sym (along-grid axis gs (along_at as' (get_or bs axis 0)).operand (moved (starts_at layout bs) i) x d there (omega (arith, length-moved (starts_at layout bs) i (omega arith)))
          (omega (arith, m, ax.0, fits.low_is, low (along_at as' (get_or bs axis 0)).operand (omega arith)))
          (omega (arith, lens (along_at as' (get_or bs axis 0)).operand there, ax.2)));
    }

-- ---- the stage

abbrev pub AllSources : (ℕ → List ℕ → ℤ) → List Task → List Source → List Grid → Type 0
AllSources files tasks [] [] = Unit {0}
AllSources files tasks [] (g ∷ gs) = ⊥
AllSources files tasks (s ∷ ss) [] = ⊥
AllSources files tasks (s ∷ ss) (g ∷ gs) = Carries files tasks s g × HaveChunks s.layout × AllSources files tasks ss gs

count-sources : (files : ℕ → List ℕ → ℤ) (tasks : List Task) (ss : List Source) (gs : List Grid) → AllSources files tasks ss gs → length ss ≡ length gs
count-sources files tasks [] [] a = refl
count-sources files tasks [] (g ∷ gs) a = absurd a
count-sources files tasks (s ∷ ss) [] a = absurd a
count-sources files tasks (s ∷ ss) (g ∷ gs) a = ap suc (count-sources files tasks ss gs a.2)

source-cut : (files : ℕ → List ℕ → ℤ) (tasks : List Task) (ss : List Source) (gs : List Grid) (p : ℕ) → AllSources files tasks ss gs → p < length ss → (lengths (get_or ss p no_source).layout ≡ (get_or gs p no_grid).shape) × HaveChunks (get_or ss p no_source).layout
source-cut files tasks [] gs p a h = absurd (omega arith)
source-cut files tasks (s ∷ ss) [] p a h = absurd a
source-cut files tasks (s ∷ ss) (g ∷ gs) zero a h = (a.0.shape, a.1)
source-cut files tasks (s ∷ ss) (g ∷ gs) (suc p) a h = source-cut files tasks ss gs p a.2 (omega arith)

fit-along : (files : ℕ → List ℕ → ℤ) (tasks : List Task) → IsEarlier (deps_of (shape_of tasks)) → (common : List (List ℕ)) (axis : ℕ) (ss : List Source) (gs : List Grid) (base : ℕ) → AllSources files tasks ss gs
    → ((p : ℕ) → p < length ss → lengths (set common axis (get_or (get_or ss p no_source).layout axis [])) ≡ (get_or gs p no_grid).shape) → Stand tasks base (fitted_along common axis ss base).tasks
    → (p : ℕ) → p < length ss → IsFitted files tasks (set common axis (get_or (get_or ss p no_source).layout axis [])) (get_or gs p no_grid) (get_or (fitted_along common axis ss base).sources p no_source)
fit-along files tasks e common axis [] gs base a cut stand p h = absurd (omega arith)
fit-along files tasks e common axis (s ∷ ss) [] base a cut stand p h = absurd a
fit-along files tasks e common axis (s ∷ ss) (g ∷ gs) base a cut stand zero h =
    carries-fitted files tasks e s g (set common axis (get_or s.layout axis [])) base a.0 (cut 0 (omega arith)) (Stand-front tasks base (fitted base s (set common axis (get_or s.layout axis []))).tasks _ stand)
fit-along files tasks e common axis (s ∷ ss) (g ∷ gs) base a cut stand (suc p) h =
    fit-along files tasks e common axis ss gs (base + length (fitted base s (set common axis (get_or s.layout axis []))).tasks) a.2 (λ q b. cut (suc q) (omega arith))
    (Stand-back tasks base (fitted base s (set common axis (get_or s.layout axis []))).tasks _ stand) p (omega arith)

-- grids of one shape but for an axis
pub record AreJoined (axis : ℕ) (g : Grid) (gs : List Grid) : Type 0 where
  pub there : axis < length g.shape
  pub axes : (p : ℕ) → p < length (g ∷ gs) → length (get_or (g ∷ gs) p no_grid).shape ≡ length g.shape
  pub others : (k p : ℕ) → k ≢ axis → p < length (g ∷ gs) → get_or (get_or (g ∷ gs) p no_grid).shape k 0 ≡ get_or g.shape k 0

abbrev pub layouts_of : List Source → List (List (List ℕ))
layouts_of ss = map (λ (s : Source). s.layout) ss

abbrev pub axis_sizes : List Source → ℕ → List (List ℕ)
axis_sizes ss axis = map (λ (s : Source). get_or s.layout axis []) ss

sizes-or : (files : ℕ → List ℕ → ℤ) (tasks : List Task) (ss : List Source) (gs : List Grid) (k n : ℕ) → AllSources files tasks ss gs → ((p : ℕ) → p < length gs → get_or (get_or gs p no_grid).shape k 0 ≡ n)
    → (j : ℕ) → (get_or (map (λ (layout : List (List ℕ)). get_or layout k []) (layouts_of ss)) j [] ≡ []) ⊎ (total (get_or (map (λ (layout : List (List ℕ)). get_or layout k []) (layouts_of ss)) j []) ≡ n)
sizes-or files tasks [] gs k n a h j = inl refl
sizes-or files tasks (s ∷ ss) [] k n a h j = absurd a
sizes-or files tasks (s ∷ ss) (g ∷ gs) k n a h zero = inr (total-on s.layout k ∙ ap (λ ns. get_or ns k 0) a.0.shape ∙ h 0 (omega arith))
sizes-or files tasks (s ∷ ss) (g ∷ gs) k n a h (suc j) = sizes-or files tasks ss gs k n a.2 (λ p b. h (suc p) (omega arith)) j

before-grids : (files : ℕ → List ℕ → ℤ) (tasks : List Task) (ss : List Source) (gs : List Grid) (axis p : ℕ) → AllSources files tasks ss gs → p ≤ length gs → before (axis_sizes ss axis) p ≡ length_along axis (take p gs)
before-grids files tasks [] [] axis zero a h = refl
before-grids files tasks [] [] axis (suc p) a h = absurd (omega arith)
before-grids files tasks [] (g ∷ gs) axis p a h = absurd a
before-grids files tasks (s ∷ ss) [] axis p a h = absurd a
before-grids files tasks (s ∷ ss) (g ∷ gs) axis zero a h = refl
before-grids files tasks (s ∷ ss) (g ∷ gs) axis (suc p) a h =
    ap (λ n. n + before (axis_sizes ss axis) p) (total-on s.layout axis ∙ ap (λ ns. get_or ns axis 0) a.0.shape) ∙ ap (λ n. get_or g.shape axis 0 + n) (before-grids files tasks ss gs axis p a.2 (omega arith))

all-grids : (files : ℕ → List ℕ → ℤ) (tasks : List Task) (ss : List Source) (gs : List Grid) (axis : ℕ) → AllSources files tasks ss gs → total (map (λ (sizes : List ℕ). total sizes) (axis_sizes ss axis)) ≡ length_along axis gs
all-grids files tasks [] [] axis a = refl
all-grids files tasks [] (g ∷ gs) axis a = absurd a
all-grids files tasks (s ∷ ss) [] axis a = absurd a
all-grids files tasks (s ∷ ss) (g ∷ gs) axis a =
    ap (λ n. n + total (map (λ (sizes : List ℕ). total sizes) (axis_sizes ss axis))) (total-on s.layout axis ∙ ap (λ ns. get_or ns axis 0) a.0.shape) ∙ ap (λ n. get_or g.shape axis 0 + n) (all-grids files tasks ss gs axis a.2)

pub record IsJoinedStage (files : ℕ → List ℕ → ℤ) (tasks : List Task) (s : Source) (g : Grid) : Type 0 where
  pub carries : Carries files tasks s g
  pub some : HaveChunks s.layout

-- the common layout with sizes of its own along the axis cuts each shape that has these and is the first's elsewhere
pub joined-cut : (files : ℕ → List ℕ → ℤ) (tasks : List Task) (axis : ℕ) (s : Source) (ss : List Source) (g : Grid) (gs : List Grid) → AllSources files tasks (s ∷ ss) (g ∷ gs) → AreJoined axis g gs
    → (z shape : List ℕ) → length shape ≡ length g.shape → total z ≡ get_or shape axis 0 → ((k : ℕ) → k ≢ axis → get_or shape k 0 ≡ get_or g.shape k 0) → lengths (set (common_layout (layouts_of (s ∷ ss))) axis z) ≡ shape
joined-cut files tasks axis s ss g gs a j z shape n t o =
    let common = common_layout (layouts_of (s ∷ ss)) in
    let first : length s.layout ≡ length g.shape = sym (length-map s.layout (λ (sizes : List ℕ). total sizes)) ∙ ap length a.0.shape in
    let lc : length common ≡ length g.shape = length-map-range_with_len (common_axis (layouts_of (s ∷ ss))) 0 (length s.layout) ∙ first in
    let common-at : (k : ℕ) → k < length g.shape → get_or common k [] ≡ common_axis (layouts_of (s ∷ ss)) k = λ k h. get_or-map-range_with_len (common_axis (layouts_of (s ∷ ss))) 0 (length s.layout) k k [] (omega arith) (omega arith) in
    let common-total : (k : ℕ) → k ≢ axis → k < length g.shape → total (get_or common k []) ≡ get_or g.shape k 0 = λ k d h.
    ap total (common-at k h)
    ∙ joined_all-total (get_or g.shape k 0) (map (λ (layout : List (List ℕ)). get_or layout k []) (layouts_of (s ∷ ss))) 0 (sizes-or files tasks (s ∷ ss) (g ∷ gs) k (get_or g.shape k 0) a (λ p b. j.others k p d b)) (omega arith)
    (total-on s.layout k ∙ ap (λ ns. get_or ns k 0) a.0.shape) in
    let ls : length (lengths (set common axis z)) ≡ length g.shape = length-map (set common axis z) (λ (sizes : List ℕ). total sizes) ∙ length-set common axis z ∙ lc in
    same_number_lists (lengths (set common axis z)) shape (ls ∙ sym n) (λ k h.
    sym (total-on (set common axis z) k) ∙ elim (cases_eq k axis) [
      | inl q ↦ ap (λ i. total (get_or (set common axis z) i [])) q ∙ ap total (get_or-set_same common axis z [] (omega (arith, j.there))) ∙ t ∙ ap (λ i. get_or shape i 0) (sym q)
      | inr q ↦ ap total (get_or-set_other common axis k z [] q) ∙ common-total k q (omega arith) ∙ sym (o k q)
    ])

-- the layout that each operand is to have cuts its shape
pub joined-targets : (files : ℕ → List ℕ → ℤ) (tasks : List Task) (axis : ℕ) (s : Source) (ss : List Source) (g : Grid) (gs : List Grid) → AllSources files tasks (s ∷ ss) (g ∷ gs) → AreJoined axis g gs
    → (p : ℕ) → p < length (s ∷ ss) → lengths (set (common_layout (layouts_of (s ∷ ss))) axis (get_or (get_or (s ∷ ss) p no_source).layout axis [])) ≡ (get_or (g ∷ gs) p no_grid).shape
joined-targets files tasks axis s ss g gs a j p h =
    let count : length (s ∷ ss) ≡ length (g ∷ gs) = count-sources files tasks (s ∷ ss) (g ∷ gs) a in
    let sc = source-cut files tasks (s ∷ ss) (g ∷ gs) p a h in
    joined-cut files tasks axis s ss g gs a j (get_or (get_or (s ∷ ss) p no_source).layout axis []) (get_or (g ∷ gs) p no_grid).shape (j.axes p (omega arith))
    (total-on (get_or (s ∷ ss) p no_source).layout axis ∙ ap (λ ns. get_or ns axis 0) sc.0) (λ k q. j.others k p q (omega arith))

pub carries-joined : (files : ℕ → List ℕ → ℤ) (tasks : List Task) → IsEarlier (deps_of (shape_of tasks)) → (axis : ℕ) (s : Source) (ss : List Source) (g : Grid) (gs : List Grid) (base : ℕ) → AllSources files tasks (s ∷ ss) (g ∷ gs) → AreJoined axis g gs
    → Stand tasks base (concatenated_blocks (s ∷ ss) axis base).tasks → IsJoinedStage files tasks (concatenated_blocks (s ∷ ss) axis base).source (concatenated axis (g ∷ gs))
carries-joined files tasks e axis s ss g gs base a j stand =
    let all = s ∷ ss in
    let common = common_layout (layouts_of (s ∷ ss)) in
    let nd = length g.shape in
    let count : length (s ∷ ss) ≡ length (g ∷ gs) = count-sources files tasks (s ∷ ss) (g ∷ gs) a in
    let first : length s.layout ≡ length g.shape = sym (length-map s.layout (λ (sizes : List ℕ). total sizes)) ∙ ap length a.0.shape in
    let lc : length common ≡ length g.shape = length-map-range_with_len (common_axis (layouts_of (s ∷ ss))) 0 (length s.layout) ∙ first in
    let common-at : (k : ℕ) → k < length g.shape → get_or common k [] ≡ common_axis (layouts_of (s ∷ ss)) k = λ k h. get_or-map-range_with_len (common_axis (layouts_of (s ∷ ss))) 0 (length s.layout) k k [] (omega arith) (omega arith) in
    let cut = joined-cut files tasks axis s ss g gs a j in
    let fit = fitted_along common axis (s ∷ ss) base in
    let targets = fit-along files tasks e common axis (s ∷ ss) (g ∷ gs) base a (joined-targets files tasks axis s ss g gs a j) (Stand-front tasks base fit.tasks _ stand) in
    let zs = axis_sizes (s ∷ ss) axis in
    let some-first : 0 < length (get_or s.layout axis []) = chunks-on s.layout axis a.1 (omega (arith, j.there)) in
    let as' = or_empty (along_all 0 zs) in
    let along = along-fits (get_or s.layout axis []) (axis_sizes ss axis) some-first in
    let layout = set common axis (sizes_along as') in
    let shape : lengths layout ≡ (concatenated axis (g ∷ gs)).shape =
    cut (sizes_along as') (set g.shape axis (length_along axis (g ∷ gs))) (length-set g.shape axis (length_along axis (g ∷ gs)))
    (along.1 ∙ all-grids files tasks (s ∷ ss) (g ∷ gs) axis a ∙ sym (get_or-set_same g.shape axis (length_along axis (g ∷ gs)) 0 j.there)) (λ k q. get_or-set_other g.shape axis k (length_along axis (g ∷ gs)) 0 q) in
    let number : length zs ≡ length (g ∷ gs) = length-map (s ∷ ss) (λ (s : Source). get_or s.layout axis []) ∙ count in
    let z-at : (p : ℕ) → p < length (s ∷ ss) → get_or zs p [] ≡ get_or (get_or (s ∷ ss) p no_source).layout axis [] = λ p h. get_or-map (λ (s : Source). get_or s.layout axis []) (s ∷ ss) p no_source [] h in
    record {
      carries = carries-each files tasks e (base + length fit.tasks) layout (joined_task layout as' axis fit.sources) (concatenated axis (g ∷ gs)) shape (Stand-back tasks base fit.tasks _ stand) (λ bs inside. record {
        holds = λ blocks v.
            let it = along_at as' (get_or bs axis 0) in
            let ax = starts-axis common axis (sizes_along as') bs (omega (arith, j.there)) inside in
            let few : get_or bs axis 0 < length as' = omega (arith, ax.1, length-map as' (λ (a : Along). a.size)) in
            let fits : AlongFits zs (0 + total (take (get_or bs axis 0) (sizes_along as'))) it = along-number zs 0 as' (get_or bs axis 0) along.0 few in
            let there : it.operand < length (s ∷ ss) = omega (arith, fits.there, length-map (s ∷ ss) (λ (s : Source). get_or s.layout axis [])) in
            let f = targets it.operand there in
            let src = get_or fit.sources it.operand no_source in
            let target-is : src.layout ≡ set common axis (get_or zs it.operand []) = f.layout_is ∙ ap (set common axis) (sym (z-at it.operand there)) in
            let in' : IsIn (counts src.layout) (set bs axis it.chunk) =
            subst (λ (l : List (List ℕ)). IsIn (counts l) (set bs axis it.chunk)) (sym target-is) (counts-set common axis (get_or zs it.operand []) (sizes_along as') bs it.chunk (omega (arith, j.there)) inside fits.chunk) in
            let one = one-block files tasks (key_at src (set bs axis it.chunk)) blocks v in
            let ha : Holds (nth (map grid_of blocks) 0) (get_or (g ∷ gs) it.operand no_grid) (box_at src.layout (set bs axis it.chunk)) = one-input files tasks src (get_or (g ∷ gs) it.operand no_grid) (set bs axis it.chunk) blocks f.carries in' v in
            let hb : Holds (nth (map grid_of blocks) 0) (get_or (g ∷ gs) it.operand no_grid) (box_at (set common axis (get_or zs it.operand [])) (set bs axis it.chunk)) =
            subst (λ (l : List (List ℕ)). Holds (nth (map grid_of blocks) 0) (get_or (g ∷ gs) it.operand no_grid) (box_at l (set bs axis it.chunk))) target-is ha in
            let hc : Holds (grid_of one.0) (get_or (g ∷ gs) it.operand no_grid) (box_at (set common axis (get_or zs it.operand [])) (set bs axis it.chunk)) =
            subst (λ (bl : List Array). Holds (nth (map grid_of bl) 0) (get_or (g ∷ gs) it.operand no_grid) (box_at (set common axis (get_or zs it.operand [])) (set bs axis it.chunk))) one.1 hb in
            subst (λ (bl : List Array). Holds (assembled (whole_piece (lengths_at layout bs) ∷ []) (lengths_at layout bs) (map grid_of bl)) (concatenated axis (g ∷ gs)) (box_at layout bs)) (sym one.1)
            (joined-local axis common zs (g ∷ gs) no_grid as' bs (grid_of one.0) [] (omega (arith, j.there)) number
            (λ p h. ap total (z-at p (omega arith)) ∙ total-on (get_or (s ∷ ss) p no_source).layout axis ∙ ap (λ ns. get_or ns axis 0) (source-cut files tasks (s ∷ ss) (g ∷ gs) p a (omega arith)).0)
            (λ p h. before-grids files tasks (s ∷ ss) (g ∷ gs) axis p a h) along.0 inside hc);
      });
      some = some-each layout (λ k h.
          let lk : k < length g.shape = omega (arith, length-set common axis (sizes_along as')) in
          elim (cases_eq k axis) [
            | inl q ↦ subst (λ (xs : List ℕ). 0 < length xs) (sym (ap (λ i. get_or layout i []) q ∙ get_or-set_same common axis (sizes_along as') [] (omega (arith, j.there)))) (omega (arith, some-along (along_all 0 zs), length-map as' (λ (a : Along). a.size)))
            | inr q ↦ subst (λ (xs : List ℕ). 0 < length xs) (sym (get_or-set_other common axis k (sizes_along as') [] q ∙ common-at k lk))
                (some-joined_all (map (λ (layout : List (List ℕ)). get_or layout k []) (layouts_of (s ∷ ss))) 0 (omega arith) (chunks-on s.layout k a.1 (omega arith)))
          ]);
    }
  where
    some-along : (xs : List Along) → 0 < length (or_empty xs)
    some-along [] = omega arith
    some-along (x ∷ xs) = omega arith
