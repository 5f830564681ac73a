-- What changes of the blocks in memory and of those on the disk do to the map.
use Rattle.std.proofs.Common.{◌≡◌, ℕ, Bool, true, false, cond, List, Option, Some, None, refl, sym, ap, ap₂, subst, ◌∙◌}
use Rattle.std.specs.Prelude.{nat_eq, is_some}
use Rattle.std.specs.Option.{option_map, option_map_or}
use Rattle.std.specs.Map.{lookup}
use Rattle.std.proofs.lemmas.Bool.{eqb-true}
use Rattle.nd_shape.specs.Block.{Array}
use Rattle.spill_store.specs.Table.{ChangesAt}
use Rattle.spill_store.specs.Memory.{InMemory}

-- the block of a key by what memory and the disk have
abbrev pub block_by : Option InMemory → Option Array → Option Array
block_by m w = option_map_or (λ h. Some h.array) m w

by_test : (b : Bool) (m n : Option InMemory) (w : Option Array) → block_by (cond b m n) (cond b None w) ≡ cond b (option_map (λ h. h.array) m) (block_by n w)
by_test true None n w = refl
by_test true (Some h) n w = refl
by_test false m n w = refl

-- another block in memory, and none on the disk
pub changed : (k : ℕ) (m : Option InMemory) (ms ns : List (ℕ × InMemory)) (ws vs : List (ℕ × Array)) → ChangesAt k m ms ns → ChangesAt k None ws vs
    → (q : ℕ) → block_by (lookup (nat_eq q) ns) (lookup (nat_eq q) vs) ≡ cond (nat_eq k q) (option_map (λ h. h.array) m) (block_by (lookup (nat_eq q) ms) (lookup (nat_eq q) ws))
changed k m ms ns ws vs c d q = ap₂ block_by (c.each q) (d.each q) ∙ by_test (nat_eq k q) m (lookup (nat_eq q) ms) (lookup (nat_eq q) ws)

-- the block goes from memory to the disk
pub went : (k : ℕ) (h : InMemory) (ms ns : List (ℕ × InMemory)) (ws vs : List (ℕ × Array)) → lookup (nat_eq k) ms ≡ Some h → ChangesAt k None ms ns → ChangesAt k (Some h.array) ws vs
    → (q : ℕ) → block_by (lookup (nat_eq q) ns) (lookup (nat_eq q) vs) ≡ block_by (lookup (nat_eq q) ms) (lookup (nat_eq q) ws)
went k h ms ns ws vs at c d q = ap₂ block_by (c.each q) (d.each q) ∙ by_key (nat_eq k q) refl
  where
    by_key : (b : Bool) → nat_eq k q ≡ b → block_by (cond b None (lookup (nat_eq q) ms)) (cond b (Some h.array) (lookup (nat_eq q) ws)) ≡ block_by (lookup (nat_eq q) ms) (lookup (nat_eq q) ws)
    by_key true t = ap (λ m. block_by m (lookup (nat_eq q) ws)) (sym (subst (λ j. lookup (nat_eq j) ms ≡ Some h) (eqb-true k q t) at))
    by_key false t = refl

-- what the disk has of a block that is in memory doesn't matter
pub beside : (k : ℕ) (h : InMemory) (ms : List (ℕ × InMemory)) (ws vs : List (ℕ × Array)) → lookup (nat_eq k) ms ≡ Some h → ChangesAt k None ws vs
    → (q : ℕ) → block_by (lookup (nat_eq q) ms) (lookup (nat_eq q) vs) ≡ block_by (lookup (nat_eq q) ms) (lookup (nat_eq q) ws)
beside k h ms ws vs at d q = ap (block_by (lookup (nat_eq q) ms)) (d.each q) ∙ by_key (nat_eq k q) refl
  where
    by_key : (b : Bool) → nat_eq k q ≡ b → block_by (lookup (nat_eq q) ms) (cond b None (lookup (nat_eq q) ws)) ≡ block_by (lookup (nat_eq q) ms) (lookup (nat_eq q) ws)
    by_key true t =
        let here : lookup (nat_eq q) ms ≡ Some h = subst (λ j. lookup (nat_eq j) ms ≡ Some h) (eqb-true k q t) at in
        ap (λ m. block_by m None) here ∙ ap (λ m. block_by m (lookup (nat_eq q) ws)) (sym here)
    by_key false t = refl

-- nothing changes at a key that isn't there
pub unchanged_at : {V : Type 0} (k : ℕ) (es : List (ℕ × V)) → lookup (nat_eq k) es ≡ None → ChangesAt k None es es
unchanged_at k es none = record { each = λ q. by_key q (nat_eq k q) refl }
  where
    by_key : (q : ℕ) (b : Bool) → nat_eq k q ≡ b → lookup (nat_eq q) es ≡ cond b None (lookup (nat_eq q) es)
    by_key q true t = subst (λ j. lookup (nat_eq j) es ≡ None) (eqb-true k q t) none
    by_key q false t = refl

-- whether the disk has taken a block, by what memory and the disk have
abbrev pub taken_by : Option InMemory → Option Array → Bool
taken_by m w = option_map_or (λ h. h.taken) m (is_some w)

taken_test : (b : Bool) (m n : Option InMemory) (w : Option Array) → taken_by (cond b m n) (cond b None w) ≡ cond b (taken_by m None) (taken_by n w)
taken_test true m n w = refl
taken_test false m n w = refl

-- another block in memory, and none on the disk
pub taken_changed : (k : ℕ) (m : Option InMemory) (ms ns : List (ℕ × InMemory)) (ws vs : List (ℕ × Array)) → ChangesAt k m ms ns → ChangesAt k None ws vs
    → (q : ℕ) → taken_by (lookup (nat_eq q) ns) (lookup (nat_eq q) vs) ≡ cond (nat_eq k q) (taken_by m None) (taken_by (lookup (nat_eq q) ms) (lookup (nat_eq q) ws))
taken_changed k m ms ns ws vs c d q = ap₂ taken_by (c.each q) (d.each q) ∙ taken_test (nat_eq k q) m (lookup (nat_eq q) ms) (lookup (nat_eq q) ws)

went_test : (b : Bool) (a : Array) (m : Option InMemory) (w : Option Array) → taken_by (cond b None m) (cond b (Some a) w) ≡ cond b true (taken_by m w)
went_test true a m w = refl
went_test false a m w = refl

-- the block goes from memory to the disk
pub taken_went : (k : ℕ) (a : Array) (ms ns : List (ℕ × InMemory)) (ws vs : List (ℕ × Array)) → ChangesAt k None ms ns → ChangesAt k (Some a) ws vs
    → (q : ℕ) → taken_by (lookup (nat_eq q) ns) (lookup (nat_eq q) vs) ≡ cond (nat_eq k q) true (taken_by (lookup (nat_eq q) ms) (lookup (nat_eq q) ws))
taken_went k a ms ns ws vs c d q = ap₂ taken_by (c.each q) (d.each q) ∙ went_test (nat_eq k q) a (lookup (nat_eq q) ms) (lookup (nat_eq q) ws)

-- what the disk has of a block that is in memory doesn't matter
pub taken_beside : (k : ℕ) (h : InMemory) (ms : List (ℕ × InMemory)) (ws vs : List (ℕ × Array)) → lookup (nat_eq k) ms ≡ Some h → ChangesAt k None ws vs
    → (q : ℕ) → taken_by (lookup (nat_eq q) ms) (lookup (nat_eq q) vs) ≡ taken_by (lookup (nat_eq q) ms) (lookup (nat_eq q) ws)
taken_beside k h ms ws vs at d q = ap (taken_by (lookup (nat_eq q) ms)) (d.each q) ∙ by_key (nat_eq k q) refl
  where
    by_key : (b : Bool) → nat_eq k q ≡ b → taken_by (lookup (nat_eq q) ms) (cond b None (lookup (nat_eq q) ws)) ≡ taken_by (lookup (nat_eq q) ms) (lookup (nat_eq q) ws)
    by_key true t =
        let here : lookup (nat_eq q) ms ≡ Some h = subst (λ j. lookup (nat_eq j) ms ≡ Some h) (eqb-true k q t) at in
        ap (λ m. taken_by m None) here ∙ ap (λ m. taken_by m (lookup (nat_eq q) ws)) (sym here)
    by_key false t = refl

-- a key that the disk has taken stays taken
pub taken_still : (k q : ℕ) (f : ℕ → Bool) → f k ≡ true → cond (nat_eq k q) true (f q) ≡ f q
taken_still k q f h = by_key (nat_eq k q) refl
  where
    by_key : (b : Bool) → nat_eq k q ≡ b → cond b true (f q) ≡ f q
    by_key true t = sym (subst (λ j. f j ≡ true) (eqb-true k q t) h)
    by_key false t = refl

-- whether the disk has taken a block, by what memory has
pub taken_here : (m : Option InMemory) (w t : Bool) → option_map (λ h. h.taken) m ≡ Some t → option_map_or (λ h. h.taken) m w ≡ t
taken_here None w t e = cc
taken_here (Some h) w t e = cc

pub taken_there : (m : Option InMemory) (w : Bool) → option_map (λ h. h.taken) m ≡ None → option_map_or (λ h. h.taken) m w ≡ w
taken_there None w e = refl
taken_there (Some h) w e = cc
