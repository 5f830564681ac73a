-- The sum of the bytes of the blocks in memory.
use Rattle.std.proofs.Common.{◌≡◌, ℕ, ◌+◌, ◌-◌, ◌≤◌, List, [], ◌∷◌, ◌++◌, Some, ap, ◌∙◌, arith}
use Rattle.std.specs.Prelude.{nat_eq}
use Rattle.std.specs.Option.{option_map, unwrap_or}
use Rattle.std.specs.Map.{lookup, remove_entry, values_of}
use Rattle.std.proofs.lemmas.List.Sums.{sum_by-cons}
use Rattle.std.proofs.lemmas.Map.Entries.{sum_by-remove_entry}
use Rattle.spill_store.specs.Blocks.{size_of_block}
use Rattle.spill_store.specs.Memory.{InMemory, bytes_in}
use Rattle.spill_store.specs.Table.{put_first}

-- the bytes of a block that may be there
abbrev pub size_at : ℕ → List (ℕ × InMemory) → ℕ
size_at key es = unwrap_or (option_map (λ h. size_of_block h.array) (lookup (nat_eq key) es)) 0

pub bytes_without : (key : ℕ) (es : List (ℕ × InMemory)) → bytes_in (remove_entry (nat_eq key) es) + size_at key es ≡ bytes_in es
bytes_without key es = sum_by-remove_entry (λ h. size_of_block h.array) (nat_eq key) es

pub bytes_put : (key : ℕ) (h : InMemory) (es : List (ℕ × InMemory)) → bytes_in (put_first key h es) ≡ size_of_block h.array + bytes_in (remove_entry (nat_eq key) es)
bytes_put key h es = sum_by-cons (λ h. size_of_block h.array) h (values_of (remove_entry (nat_eq key) es))

pub size_within : (key : ℕ) (es : List (ℕ × InMemory)) → size_at key es ≤ bytes_in es
size_within key es = omega (arith, bytes_without key es)

-- the sum after a block was put
pub bytes_after : (key : ℕ) (h : InMemory) (es fs : List (ℕ × InMemory)) (sum size more : ℕ) → sum ≡ bytes_in es → size ≡ size_at key es → more ≡ size_of_block h.array → fs ≡ put_first key h es → (sum - size) + more ≡ bytes_in fs
bytes_after key h es fs sum size more s z m e =
    let p : bytes_in fs ≡ size_of_block h.array + bytes_in (remove_entry (nat_eq key) es) = ap bytes_in e ∙ bytes_put key h es in
    let w = bytes_without key es in
    omega (arith, p, w, s, z, m)

-- the sum after a block was dropped
pub bytes_less : (key : ℕ) (es fs : List (ℕ × InMemory)) (sum size : ℕ) → sum ≡ bytes_in es → size ≡ size_at key es → fs ≡ remove_entry (nat_eq key) es → sum - size ≡ bytes_in fs
bytes_less key es fs sum size s z e =
    let w = bytes_without key es in
    let r : bytes_in fs ≡ bytes_in (remove_entry (nat_eq key) es) = ap bytes_in e in
    omega (arith, w, r, s, z)

pub size_is_at : (key : ℕ) (h : InMemory) (es : List (ℕ × InMemory)) → lookup (nat_eq key) es ≡ Some h → size_at key es ≡ size_of_block h.array
size_is_at key h es there = ap (λ o. unwrap_or (option_map (λ h. size_of_block h.array) o) 0) there

-- the sum after a block was used
pub bytes_used : (key : ℕ) (h : InMemory) (es fs : List (ℕ × InMemory)) (sum : ℕ) → sum ≡ bytes_in es → lookup (nat_eq key) es ≡ Some h → fs ≡ put_first key h es → sum ≡ bytes_in fs
bytes_used key h es fs sum s there e =
    let p : bytes_in fs ≡ size_of_block h.array + bytes_in (remove_entry (nat_eq key) es) = ap bytes_in e ∙ bytes_put key h es in
    let w = bytes_without key es in
    let z = size_is_at key h es there in
    omega (arith, p, w, z, s)

bytes_more : (fs : List (ℕ × InMemory)) (key : ℕ) (h : InMemory) → bytes_in (fs ++ (key, h) ∷ []) ≡ bytes_in fs + size_of_block h.array
bytes_more [] key h = omega (arith, sum_by-cons (λ h. size_of_block h.array) h [])
bytes_more (e ∷ fs) key h = omega (
  arith,
  bytes_more fs key h,
  sum_by-cons (λ h. size_of_block h.array) e.1 (values_of (fs ++ (key, h) ∷ [])),
  sum_by-cons (λ h. size_of_block h.array) e.1 (values_of fs),
)

-- the sum where the last block is taken
pub bytes_taken : (es fs : List (ℕ × InMemory)) (key : ℕ) (h : InMemory) → es ≡ fs ++ (key, h) ∷ [] → bytes_in es ≡ bytes_in fs + size_of_block h.array
bytes_taken es fs key h e = ap bytes_in e ∙ bytes_more fs key h

-- blocks that weren't taken yet, the first of those that were, and the others
pub record TakenOff (es left : List (ℕ × InMemory)) : Type 0 where
  pub behind : List (ℕ × InMemory)
  pub order : es ≡ left ++ behind
