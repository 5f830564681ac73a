-- The blocks that are kept after one key more.
use Rattle.std.proofs.Common.{◌≡◌, ℕ, ◌+◌, ◌<◌, ◌≤◌, List, length, get_or, set, sym, ap, subst, ◌∙◌, inl, inr, ◌⊎◌, arith, get_or-set_same, get_or-set_other}
use Rattle.std.specs.Prelude.{Option, Some, None, IsSome, is_some, Contains}
use Rattle.std.specs.Option.{option_map}
use Rattle.std.specs.Arc.{arc_value}
use Rattle.std.specs.declared.sync.Arc.{Arc}
use Rattle.std.specs.declared.alloc.Global.{Global}
use Rattle.std.proofs.lemmas.Bool.{cases_eq, cases_lt}
use Rattle.std.proofs.lemmas.List.{length-set}
use Rattle.graph_run.specs.Slots.{block_at, AreKept, IsKeeping}
use Rattle.graph_run.specs.Uses.{AreLastUses}
use Rattle.graph_run.specs.Writes.{IsWritten}

module _ {B : Type 0} (deps : ℕ → List ℕ) (count : ℕ) (last : List ℕ) (key : ℕ) (old mid : List (Option (Arc B Global))) (slot : Option (Arc B Global)) (block : B) where
  -- the places of a key's dependencies were gone over, and its own comes to hold this
  pub record IsPassed : Type 0 where
    pub below : key < count
    pub uses : AreLastUses deps count last
    pub kept : AreKept last key old
    pub freed : IsWritten (λ k. get_or last k 0 ≡ key) None None (deps key) old mid
    pub used : key < get_or last key 0 → option_map arc_value slot ≡ Some block
    pub unused : get_or last key 0 ≤ key → option_map arc_value slot ≡ None

  block-there : {o : Option B} {b : B} → o ≡ Some b → IsSome o
  block-there e = ap is_some e

  own : IsPassed → block_at (set mid key slot) key ≡ option_map arc_value slot
  own p =
      let many : length old ≡ count = p.kept.counted ∙ p.uses.counted in
      let same : length mid ≡ length old = p.freed.same_length in
      let lt : key < count = p.below in
      ap (option_map arc_value) (get_or-set_same mid key slot None (omega arith))

  other : (k : ℕ) → (k ≡ key → ⊥) → block_at (set mid key slot) k ≡ block_at mid k
  other k ne = ap (option_map arc_value) (get_or-set_other mid key k slot None ne)

  freed-at : IsPassed → (k : ℕ) → (block_at mid k ≡ block_at old k) ⊎ ((get_or last k 0 ≡ key) × (block_at mid k ≡ None))
  freed-at p k = elim (p.freed.others k) [ inl same ↦ inl (ap (option_map arc_value) same) | inr h ↦ inr (h.1, ap (option_map arc_value) h.2) ]

  none-still : IsPassed → (k : ℕ) → (k ≡ key → ⊥) → block_at old k ≡ None → block_at (set mid key slot) k ≡ None
  none-still p k ne e = other k ne ∙ elim (freed-at p k) [ inl same ↦ same ∙ e | inr h ↦ h.1 ]

  still : IsPassed → (k : ℕ) → k < key + 1 → key + 1 ≤ get_or last k 0 → IsSome (block_at (set mid key slot) k)
  still p k lt later = elim (cases_eq k key) [
    | inl e ↦ block-there (ap (block_at (set mid key slot)) e ∙ own p ∙ p.used (subst (λ i. key < get_or last i 0) e (omega arith)))
    | inr ne ↦ elim (freed-at p k) [
      | inl same ↦ ap is_some (other k ne ∙ same) ∙ p.kept.kept k (omega arith) (omega arith)
      | inr h ↦ let same : get_or last k 0 ≡ key = h.0 in absurd (omega arith)
    ]
  ]

  -- a key whose last use this is, is a dependency
  dependency : IsPassed → (k : ℕ) → k < key → get_or last k 0 ≡ key → Contains (deps key) k
  dependency p k lt e =
      let below : key < count = p.below in
      elim ((p.uses.each k (omega arith)).is_one) [
        | inl itself ↦ let no : get_or last k 0 ≡ k = itself in absurd (omega arith)
        | inr h ↦ subst (λ i. Contains (deps i) k) e h.1
      ]

  past : IsPassed → (k : ℕ) → k < key + 1 → get_or last k 0 < key + 1 → block_at (set mid key slot) k ≡ None
  past p k lt spent = elim (cases_eq k key) [
    | inl e ↦ ap (block_at (set mid key slot)) e ∙ own p ∙ p.unused (subst (λ i. get_or last i 0 ≤ key) e (omega arith))
    | inr ne ↦ elim (cases_eq (get_or last k 0) key) [
      | inl e ↦ other k ne ∙ ap (option_map arc_value) (p.freed.written k (dependency p k (omega arith) e) e)
      | inr earlier ↦ none-still p k ne (p.kept.gone k (omega arith) (omega arith))
    ]
  ]

  one-block : (b : B) (o : Option B) → o ≡ Some block → o ≡ Some b → b ≡ block
  one-block b o e f = cc

  no-block : (b : B) (o : Option B) (P : Type 0) → o ≡ None → o ≡ Some b → P
  no-block b o P e f = let no : ⊥ = cc in absurd no

  known-at : IsPassed → (k : ℕ) (b : B) → block_at (set mid key slot) k ≡ Some b → (block_at old k ≡ Some b) ⊎ ((k ≡ key) × (b ≡ block))
  known-at p k b e = elim (cases_eq k key) [
    | inl same ↦
        let f : option_map arc_value slot ≡ Some b = sym (own p) ∙ ap (block_at (set mid key slot)) (sym same) ∙ e in
        elim (cases_lt key (get_or last key 0)) [
          | inl used ↦ inr (same, one-block b _ (p.used used) f)
          | inr unused ↦ no-block b _ _ (p.unused unused) f
        ]
    | inr ne ↦
        let f : block_at mid k ≡ Some b = sym (other k ne) ∙ e in
        elim (freed-at p k) [ inl same ↦ inl (sym same ∙ f) | inr h ↦ no-block b _ _ h.1 f ]
  ]

  pub keeping : IsPassed → IsKeeping last key block old (set mid key slot)
  keeping p = record {
    next = record {
      counted = length-set mid key slot ∙ p.freed.same_length ∙ p.kept.counted;
      kept = still p;
      gone = past p;
      ahead = λ k le. none-still p k (λ e. absurd (omega arith)) (p.kept.ahead k (omega arith));
    };
    known = known-at p;
  }
