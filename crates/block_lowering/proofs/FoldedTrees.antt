-- Trees over partial results: group by group, level by level.
use Rattle.std.proofs.Common.{◌≡◌, ◌≢◌, ℕ, ◌+◌, ◌/◌, ◌%◌, ◌<◌, ◌≤◌, min, List, [], ◌∷◌, ◌++◌, length, map, take, drop, get_or, replicate, ap, sym, subst, ◌∙◌, append_assoc, append-nil, arith, inl, inr}
use Rattle.std.specs.List.{range_with_len}
use Rattle.std.proofs.lemmas.Bool.{cases_lt}
use Rattle.std.proofs.lemmas.List.{take_more, take-append-drop, get_or_read}
use Rattle.std.proofs.Math.Nat.{div-eq_of_lt, mod-eq_of_lt}
use Rattle.nd_shape.specs.Chunk.{total, even_chunks}
use Rattle.nd_grid.specs.declared.operation.Fold.{Fold}
use Rattle.chunk_layout.specs.Trees.{tree}
use Rattle.chunk_layout.proofs.Folding.{tree-more, tree-end, even-rest}
use Rattle.block_kernels.specs.declared.spec.Spec.TheVariants as kernels
use Rattle.task_graph.specs.declared.graph.Task.{Task}
use Rattle.task_graph.specs.Graphs.{task}
use Rattle.lowering_laws.specs.Stages.{group_tasks, level_tasks}
use Rattle.block_lowering.specs.Growing.{Refuses}
use Rattle.block_lowering.specs.declared.error.LowerError.{LowerError}
use Rattle.block_lowering.proofs.Refusing.{refuses-more, refuses-behind, refuses-same}

-- ---- groups

-- the task of a group of keys
abbrev pub group_at : Fold → List ℕ → ℕ → ℕ → Task
group_at fold dims at g = task (kernels.Reduce fold [] (replicate g dims)) (range_with_len at g)

pub groups-join : (fold : Fold) (dims : List ℕ) (at : ℕ) (gs hs : List ℕ) → group_tasks fold dims at (gs ++ hs) ≡ group_tasks fold dims at gs ++ group_tasks fold dims (at + total gs) hs
groups-join fold dims at [] hs = ap (λ k. group_tasks fold dims k hs) (omega arith)
groups-join fold dims at (g ∷ gs) hs =
    let z : at + g + total gs ≡ at + (g + total gs) = omega arith in
    ap (λ ts. group_at fold dims at g ∷ ts) (groups-join fold dims (at + g) gs hs ∙ ap (λ k. group_tasks fold dims (at + g) gs ++ group_tasks fold dims k hs) z)

pub groups-more : (fold : Fold) (dims : List ℕ) (at : ℕ) (gs : List ℕ) (i : ℕ) → i < length gs
    → group_tasks fold dims at (take (i + 1) gs) ≡ group_tasks fold dims at (take i gs) ++ group_at fold dims (at + total (take i gs)) (get_or gs i 0) ∷ []
groups-more fold dims at gs i h = ap (group_tasks fold dims at) (take_more gs i 0 h) ∙ groups-join fold dims at (take i gs) (get_or gs i 0 ∷ [])

groups-parts : (fold : Fold) (dims : List ℕ) (at : ℕ) (gs : List ℕ) (i : ℕ) → group_tasks fold dims at gs ≡ group_tasks fold dims at (take i gs) ++ group_tasks fold dims (at + total (take i gs)) (drop i gs)
groups-parts fold dims at gs i = ap (group_tasks fold dims at) (sym (take-append-drop i gs)) ∙ groups-join fold dims at (take i gs) (drop i gs)

-- the first i groups were taken, and the next one wasn't
pub refuses-group : (old : List Task) (fold : Fold) (dims : List ℕ) (at : ℕ) (gs : List ℕ) (i : ℕ) (e : LowerError) → i < length gs
    → Refuses (old ++ group_tasks fold dims at (take i gs)) (group_at fold dims (at + total (take i gs)) (get_or gs i 0) ∷ []) e → Refuses old (group_tasks fold dims at gs) e
refuses-group old fold dims at gs i e h r =
    let front : Refuses old (group_tasks fold dims at (take (i + 1) gs)) e = refuses-same old _ _ e (sym (groups-more fold dims at gs i h)) (refuses-behind old (group_tasks fold dims at (take i gs)) (group_at fold dims (at + total (take i gs)) (get_or gs i 0) ∷ []) e r) in
    refuses-same old _ _ e (sym (groups-parts fold dims at gs (i + 1))) (refuses-more old (group_tasks fold dims at (take (i + 1) gs)) (group_tasks fold dims (at + total (take (i + 1) gs)) (drop (i + 1) gs)) e front)

-- the same of a graph that is known by equations
pub group-refused : (old now : List Task) (fold : Fold) (dims : List ℕ) (first at : ℕ) (gs : List ℕ) (i : ℕ) (t : Task) (e : LowerError) → i < length gs → at ≡ first + total (take i gs) → now ≡ old ++ group_tasks fold dims first (take i gs)
    → t ≡ group_at fold dims at (get_or gs i 0) → Refuses now (t ∷ []) e → Refuses old (group_tasks fold dims first gs) e
group-refused old now fold dims first at gs i t e h here is made r =
    let it : t ≡ group_at fold dims (first + total (take i gs)) (get_or gs i 0) = made ∙ ap (λ k. group_at fold dims k (get_or gs i 0)) here in
    refuses-group old fold dims first gs i e h (refuses-same (old ++ group_tasks fold dims first (take i gs)) (t ∷ []) _ e (ap (λ u. u ∷ []) it) (subst (λ ts. Refuses ts (t ∷ []) e) is r))

pub group-pushed : (old now new : List Task) (fold : Fold) (dims : List ℕ) (first at : ℕ) (gs : List ℕ) (i : ℕ) (t : Task) → i < length gs → at ≡ first + total (take i gs) → now ≡ old ++ group_tasks fold dims first (take i gs)
    → t ≡ group_at fold dims at (get_or gs i 0) → new ≡ now ++ t ∷ [] → new ≡ old ++ group_tasks fold dims first (take (i + 1) gs)
group-pushed old now new fold dims first at gs i t h here is made push =
    let it : t ≡ group_at fold dims (first + total (take i gs)) (get_or gs i 0) = made ∙ ap (λ k. group_at fold dims k (get_or gs i 0)) here in
    push ∙ ap (λ ts. ts ++ t ∷ []) is ∙ append_assoc old (group_tasks fold dims first (take i gs)) (t ∷ [])
    ∙ ap (λ ts. old ++ ts) (ap (λ u. group_tasks fold dims first (take i gs) ++ u ∷ []) it ∙ sym (groups-more fold dims first gs i h))

-- ---- levels

-- the keys that levels fold
abbrev pub keys_below : List (List ℕ) → ℕ
keys_below levels = total (map (λ (gs : List ℕ). total gs) levels)

pub levels-join : (fold : Fold) (dims : List ℕ) (at : ℕ) (levels more : List (List ℕ)) → level_tasks fold dims at (levels ++ more) ≡ level_tasks fold dims at levels ++ level_tasks fold dims (at + keys_below levels) more
levels-join fold dims at [] more = ap (λ k. level_tasks fold dims k more) (omega arith)
levels-join fold dims at (gs ∷ levels) more =
    let z : at + total gs + keys_below levels ≡ at + (total gs + keys_below levels) = omega arith in
    ap (λ ts. group_tasks fold dims at gs ++ ts) (levels-join fold dims (at + total gs) levels more ∙ ap (λ k. level_tasks fold dims (at + total gs) levels ++ level_tasks fold dims k more) z)
    ∙ sym (append_assoc (group_tasks fold dims at gs) (level_tasks fold dims (at + total gs) levels) (level_tasks fold dims (at + (total gs + keys_below levels)) more))

pub levels-more : (fold : Fold) (dims : List ℕ) (at : ℕ) (levels : List (List ℕ)) (i : ℕ) → i < length levels
    → level_tasks fold dims at (take (i + 1) levels) ≡ level_tasks fold dims at (take i levels) ++ group_tasks fold dims (at + keys_below (take i levels)) (get_or levels i [])
levels-more fold dims at levels i h =
    ap (level_tasks fold dims at) (take_more levels i [] h) ∙ levels-join fold dims at (take i levels) (get_or levels i [] ∷ [])
    ∙ ap (λ ts. level_tasks fold dims at (take i levels) ++ ts) (append-nil (group_tasks fold dims (at + keys_below (take i levels)) (get_or levels i [])))

levels-parts : (fold : Fold) (dims : List ℕ) (at : ℕ) (levels : List (List ℕ)) (i : ℕ) → level_tasks fold dims at levels ≡ level_tasks fold dims at (take i levels) ++ level_tasks fold dims (at + keys_below (take i levels)) (drop i levels)
levels-parts fold dims at levels i = ap (level_tasks fold dims at) (sym (take-append-drop i levels)) ∙ levels-join fold dims at (take i levels) (drop i levels)

keys-join : (xs : List (List ℕ)) (ys : List ℕ) → keys_below (xs ++ ys ∷ []) ≡ keys_below xs + total ys
keys-join [] ys = omega arith
keys-join (x ∷ xs) ys = let h : keys_below (xs ++ ys ∷ []) ≡ keys_below xs + total ys = keys-join xs ys in omega arith

pub keys-more : (levels : List (List ℕ)) (i : ℕ) → i < length levels → keys_below (take (i + 1) levels) ≡ keys_below (take i levels) + total (get_or levels i [])
keys-more levels i h = ap keys_below (take_more levels i [] h) ∙ keys-join (take i levels) (get_or levels i [])

-- the first i levels were taken, and the next one wasn't
pub refuses-level : (old : List Task) (fold : Fold) (dims : List ℕ) (at : ℕ) (levels : List (List ℕ)) (i : ℕ) (e : LowerError) → i < length levels
    → Refuses (old ++ level_tasks fold dims at (take i levels)) (group_tasks fold dims (at + keys_below (take i levels)) (get_or levels i [])) e → Refuses old (level_tasks fold dims at levels) e
refuses-level old fold dims at levels i e h r =
    let front : Refuses old (level_tasks fold dims at (take (i + 1) levels)) e = refuses-same old _ _ e (sym (levels-more fold dims at levels i h)) (refuses-behind old (level_tasks fold dims at (take i levels)) (group_tasks fold dims (at + keys_below (take i levels)) (get_or levels i [])) e r) in
    refuses-same old _ _ e (sym (levels-parts fold dims at levels (i + 1))) (refuses-more old (level_tasks fold dims at (take (i + 1) levels)) (level_tasks fold dims (at + keys_below (take (i + 1) levels)) (drop (i + 1) levels)) e front)

-- the same of a graph that is known by equations
pub level-refused : (old now : List Task) (fold : Fold) (dims : List ℕ) (first at : ℕ) (levels : List (List ℕ)) (i : ℕ) (gs item : List ℕ) (e : LowerError) → i < length levels → at ≡ first + keys_below (take i levels) → now ≡ old ++ level_tasks fold dims first (take i levels)
    → item ≡ get_or levels i item → gs ≡ item → Refuses now (group_tasks fold dims at gs) e → Refuses old (level_tasks fold dims first levels) e
level-refused old now fold dims first at levels i gs item e h here is found same r =
    let g : gs ≡ get_or levels i [] = same ∙ get_or_read levels i item h found [] in
    let it : group_tasks fold dims at gs ≡ group_tasks fold dims (first + keys_below (take i levels)) (get_or levels i []) = ap (λ k. group_tasks fold dims k gs) here ∙ ap (group_tasks fold dims (first + keys_below (take i levels))) g in
    refuses-level old fold dims first levels i e h (refuses-same (old ++ level_tasks fold dims first (take i levels)) _ _ e it (subst (λ ts. Refuses ts (group_tasks fold dims at gs) e) is r))

pub level-pushed : (old now new : List Task) (fold : Fold) (dims : List ℕ) (first at : ℕ) (levels : List (List ℕ)) (i : ℕ) (gs item : List ℕ) → i < length levels → at ≡ first + keys_below (take i levels) → now ≡ old ++ level_tasks fold dims first (take i levels)
    → item ≡ get_or levels i item → gs ≡ item → new ≡ now ++ group_tasks fold dims at gs → new ≡ old ++ level_tasks fold dims first (take (i + 1) levels)
level-pushed old now new fold dims first at levels i gs item h here is found same push =
    let g : gs ≡ get_or levels i [] = same ∙ get_or_read levels i item h found [] in
    let it : group_tasks fold dims at gs ≡ group_tasks fold dims (first + keys_below (take i levels)) (get_or levels i []) = ap (λ k. group_tasks fold dims k gs) here ∙ ap (group_tasks fold dims (first + keys_below (take i levels))) g in
    push ∙ ap (λ ts. ts ++ group_tasks fold dims at gs) is ∙ append_assoc old (level_tasks fold dims first (take i levels)) (group_tasks fold dims at gs)
    ∙ ap (λ ts. old ++ ts) (ap (λ ts. level_tasks fold dims first (take i levels) ++ ts) it ∙ sym (levels-more fold dims first levels i h))

-- the first key of the next level
pub level-start : (first at end : ℕ) (levels : List (List ℕ)) (i : ℕ) (gs item : List ℕ) → i < length levels → at ≡ first + keys_below (take i levels) → item ≡ get_or levels i item → gs ≡ item → end ≡ at + total gs → end ≡ first + keys_below (take (i + 1) levels)
level-start first at end levels i gs item h here found same is =
    let g : gs ≡ get_or levels i [] = same ∙ get_or_read levels i item h found [] in
    let t : total gs ≡ total (get_or levels i []) = ap total g in
    omega (arith, keys-more levels i h, t)

-- how many groups the levels have
abbrev pub groups_of : List (List ℕ) → ℕ
groups_of levels = total (map (λ (gs : List ℕ). length gs) levels)

groups-push : (xs : List (List ℕ)) (ys : List ℕ) → groups_of (xs ++ ys ∷ []) ≡ groups_of xs + length ys
groups-push [] ys = omega arith
groups-push (x ∷ xs) ys = let h : groups_of (xs ++ ys ∷ []) ≡ groups_of xs + length ys = groups-push xs ys in omega arith

pub groups_of-more : (levels : List (List ℕ)) (i : ℕ) → i < length levels → groups_of (take (i + 1) levels) ≡ groups_of (take i levels) + length (get_or levels i [])
groups_of-more levels i h = ap groups_of (take_more levels i [] h) ∙ groups-push (take i levels) (get_or levels i [])

-- one level more is counted
pub groups-step : (levels : List (List ℕ)) (i : ℕ) (gs item : List ℕ) (count : ℕ) → i < length levels → item ≡ get_or levels i item → gs ≡ item → count ≡ groups_of (take i levels) → count + length gs ≡ groups_of (take (i + 1) levels)
groups-step levels i gs item count h at is e =
    let g : gs ≡ get_or levels i [] = is ∙ get_or_read levels i item h at [] in
    ap (λ k. k + length gs) e ∙ ap (λ (ns : List ℕ). groups_of (take i levels) + length ns) g ∙ sym (groups_of-more levels i h)

-- ---- splits above the number of partial results

one-group : (n split : ℕ) → 0 < n → n < split → even_chunks n split ≡ n ∷ []
one-group n split some lt =
    let q : n / split ≡ 0 = div-eq_of_lt lt in
    let r : n % split ≡ n = mod-eq_of_lt lt in
    let d : n % split ≢ 0 = omega arith in
    sym (even-rest n split d) ∙ ap (λ k. replicate k split ++ n % split ∷ []) q ∙ ap (λ k. k ∷ []) r

one-level : (n split : ℕ) → 2 ≤ n → n < split → tree n split ≡ (n ∷ []) ∷ []
one-level n split two lt =
    let one : even_chunks n split ≡ n ∷ [] = one-group n split (omega arith) lt in
    tree-more n split two (omega arith) ∙ ap (λ (gs : List ℕ). gs ∷ tree (length gs) split) one ∙ ap (λ (ls : List (List ℕ)). (n ∷ []) ∷ ls) (tree-end 1 split (omega arith))

same-tree : (n a b : ℕ) → n < a → n < b → tree n a ≡ tree n b
same-tree n a b h g = elim (cases_lt n 2) [
  | inl lt ↦ tree-end n a lt ∙ sym (tree-end n b lt)
  | inr ge ↦ one-level n a ge h ∙ sym (one-level n b ge g)
]

pub tree-within : (n split : ℕ) → n ≤ 32768 → tree n (min split 65536) ≡ tree n split
tree-within n split few = elim (cases_lt split 65536) [
  | inl lt ↦ ap (tree n) (omega arith)
  | inr ge ↦ same-tree n (min split 65536) split (omega arith) (omega arith)
]
