-- Refusals go up: what a graph refuses it refuses with more tasks behind, and as a part of more.
use Rattle.std.proofs.Common.{◌≡◌, ℕ, suc, ◌+◌, ◌-◌, ◌<◌, List, [], ◌∷◌, ◌++◌, map, ap, sym, subst, ◌∙◌, append_assoc, arith}
use Rattle.std.specs.List.{range_with_len, flat_map}
use Rattle.std.proofs.lemmas.Grind.{flat_map-append}
use Rattle.std.proofs.lemmas.List.Concat.{flat_map-cons, flat_map_single}
use Rattle.small_facts.proofs.Ranges.{range_parts}
use Rattle.task_graph.specs.declared.graph.Task.{Task}
use Rattle.lowering_laws.specs.Lowered.{limit_from}
use Rattle.block_lowering.specs.Growing.{Refuses}
use Rattle.block_lowering.specs.declared.error.LowerError.{LowerError}
use Rattle.block_lowering.specs.declared.error.LowerError.TheVariants.{Limit, OutOfMemory}

pub refuses-more : (old a b : List Task) (e : LowerError) → Refuses old a e → Refuses old (a ++ b) e
refuses-more old a b (Limit q) r = λ rest. ap (limit_from 0 0) (ap (λ xs. xs ++ rest) (sym (append_assoc old a b)) ∙ append_assoc (old ++ a) b rest) ∙ r (b ++ rest)
refuses-more old a b OutOfMemory r = tt

pub refuses-behind : (old a b : List Task) (e : LowerError) → Refuses (old ++ a) b e → Refuses old (a ++ b) e
refuses-behind old a b (Limit q) r = λ rest. ap (λ xs. limit_from 0 0 (xs ++ rest)) (sym (append_assoc old a b)) ∙ r rest
refuses-behind old a b OutOfMemory r = tt

-- the same tasks in other words
pub refuses-same : (old a b : List Task) (e : LowerError) → a ≡ b → Refuses old a e → Refuses old b e
refuses-same old a b e same r = subst (λ xs. Refuses old xs e) same r

-- the same tasks in all, parted otherwise
pub refuses-moved : (a b c d : List Task) (e : LowerError) → a ++ b ≡ c ++ d → Refuses a b e → Refuses c d e
refuses-moved a b c d (Limit q) same r = λ rest. ap (λ (xs : List Task). limit_from 0 0 (xs ++ rest)) (sym same) ∙ r rest
refuses-moved a b c d OutOfMemory same r = tt

-- the tasks of the first c numbers were taken, and those of the next one weren't
pub refuses-block : (old : List Task) (f : ℕ → List Task) (n c : ℕ) (e : LowerError) → c < n → Refuses (old ++ flat_map f (range_with_len 0 c)) (f c) e → Refuses old (flat_map f (range_with_len 0 n)) e
refuses-block old f n c e lt r =
    let done = range_with_len 0 c in
    let left = range_with_len (c + 1) (n - (c + 1)) in
    let some : c + suc (n - (c + 1)) ≡ n = omega arith in
    let at : 0 + c ≡ c = omega arith in
    let parted : range_with_len 0 n ≡ done ++ c ∷ left =
    ap (range_with_len 0) (sym some) ∙ range_parts 0 c (suc (n - (c + 1))) ∙ ap (λ k. done ++ k ∷ range_with_len (k + 1) (n - (c + 1))) at in
    let all : flat_map f (range_with_len 0 n) ≡ flat_map f done ++ (f c ++ flat_map f left) =
    ap (flat_map f) parted ∙ flat_map-append f done (c ∷ left) ∙ ap (λ ts. flat_map f done ++ ts) (flat_map-cons f c left) in
    refuses-same old _ _ e (sym all) (refuses-behind old (flat_map f done) (f c ++ flat_map f left) e (refuses-more (old ++ flat_map f done) (f c) (flat_map f left) e r))

-- the same of one task for each number
pub refuses-at : (old : List Task) (f : ℕ → Task) (n c : ℕ) (e : LowerError) → c < n → Refuses (old ++ map f (range_with_len 0 c)) (f c ∷ []) e → Refuses old (map f (range_with_len 0 n)) e
refuses-at old f n c e lt r =
    refuses-same old _ _ e (flat_map_single f (range_with_len 0 n))
    (refuses-block old (λ k. f k ∷ []) n c e lt (subst (λ (ts : List Task). Refuses (old ++ ts) (f c ∷ []) e) (sym (flat_map_single f (range_with_len 0 c))) r))
