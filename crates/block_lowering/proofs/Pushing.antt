-- A graph that grows by what a function gives of each number.
use Rattle.std.proofs.Common.{◌≡◌, ℕ, ◌+◌, ◌<◌, min, subst, List, [], ◌∷◌, ◌++◌, length, take, drop, map, ap, sym, ◌∙◌, ◌≤◌, arith, append_assoc, length-append}
use Rattle.std.specs.List.{range_with_len}
use Rattle.std.proofs.lemmas.List.{length-take-le, length-map}
use Rattle.std.proofs.lemmas.List.FromFn.{map-range_with_len_more, length-map-range_with_len}
use Rattle.cluster_msgs.specs.Shape.{IsShape}
use Rattle.task_graph.specs.declared.graph.Task.{Task}
use Rattle.task_graph.specs.Graphs.{shape_of}
use Rattle.block_lowering.specs.Growing.{Refuses}
use Rattle.block_lowering.specs.declared.error.LowerError.{LowerError}
use Rattle.block_lowering.proofs.Refusing.{refuses-at}

pub push-one : {A : Type 0} (old now new : List A) (f : ℕ → A) (n : ℕ) → now ≡ old ++ map f (range_with_len 0 n) → new ≡ now ++ f n ∷ [] → new ≡ old ++ map f (range_with_len 0 (n + 1))
push-one old now new f n e p =
    let more : map f (range_with_len 0 (n + 1)) ≡ map f (range_with_len 0 n) ++ f n ∷ [] = map-range_with_len_more f 0 n n (omega arith) in
    p ∙ ap (λ xs. xs ++ f n ∷ []) e ∙ append_assoc old (map f (range_with_len 0 n)) (f n ∷ []) ∙ ap (λ xs. old ++ xs) (sym more)

pub all-pushed : {A : Type 0} (old now : List A) (f : ℕ → A) (n m : ℕ) → now ≡ old ++ map f (range_with_len 0 n) → n ≡ m → now ≡ old ++ map f (range_with_len 0 m)
all-pushed old now f n m e h = e ∙ ap (λ k. old ++ map f (range_with_len 0 k)) h

-- numbers that were written over are as many
pub kept-length : (xs ys : List ℕ) (n m : ℕ) → length xs ≡ n → n ≡ m → length (take n (xs ++ drop (length xs) ys)) ≡ m
kept-length xs ys n m e h =
    let z : length (xs ++ drop (length xs) ys) ≡ length xs + length (drop (length xs) ys) = length-append xs (drop (length xs) ys) in
    length-take-le n (xs ++ drop (length xs) ys) (omega arith) ∙ h

-- a graph that took so many tasks has room for them, so that their number was counted to its end
pub all-counted : (old now : List Task) (f : ℕ → Task) (n m : ℕ) → IsShape (shape_of now) → now ≡ old ++ map f (range_with_len 0 n) → n ≡ min m 18446744073709551615 → n ≡ m
all-counted old now f n m s e h =
    let few : length now ≤ 32768 = omega (arith, length-map now (λ (t : Task). t.deps), s.few) in
    let all : length now ≡ length old + length (map f (range_with_len 0 n)) = ap length e ∙ length-append old (map f (range_with_len 0 n)) in
    let own : length (map f (range_with_len 0 n)) ≡ n = length-map-range_with_len f 0 n in
    omega arith

-- the next of the tasks wasn't taken
pub refuses-next : (old now : List Task) (f : ℕ → Task) (n c : ℕ) (e : LowerError) → c < n → now ≡ old ++ map f (range_with_len 0 c) → Refuses now (f c ∷ []) e → Refuses old (map f (range_with_len 0 n)) e
refuses-next old now f n c e lt is r = refuses-at old f n c e lt (subst (λ ts. Refuses ts (f c ∷ []) e) is r)
