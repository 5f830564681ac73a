-- A loop that writes a list one place after another.
use Rattle.std.proofs.Common.{◌≡◌, ℕ, ◌+◌, ◌<◌, ◌≤◌, ◌≢◌, List, length, get_or, set, ◌∙◌, arith, below_more}
use Rattle.std.proofs.lemmas.List.{get_or-set_same, get_or-set_other, ext_get_or}

-- the list is as wanted below a place
pub record IsWritten (own wanted : List ℕ) (k : ℕ) : Type 0 where
  pub below : (j : ℕ) → j < k → get_or own j 0 ≡ get_or wanted j 0

pub written-none : (own wanted : List ℕ) → IsWritten own wanted 0
written-none own wanted = record { below = λ j h. absurd (omega arith) }

pub written-more : (own wanted : List ℕ) (k v : ℕ) → k < length own → IsWritten own wanted k → v ≡ get_or wanted k 0 → IsWritten (set own k v) wanted (k + 1)
written-more own wanted k v h w e = record {
  below = below_more (λ j. get_or (set own k v) j 0 ≡ get_or wanted j 0) k (λ j b. let ne : j ≢ k = omega arith in get_or-set_other own k j v 0 ne ∙ w.below j b) (get_or-set_same own k v 0 h ∙ e);
}

pub written-all : (own wanted : List ℕ) (k : ℕ) → length own ≡ length wanted → length own ≤ k → IsWritten own wanted k → own ≡ wanted
written-all own wanted k e h w = ext_get_or 0 own wanted e (λ j b. w.below j (omega arith))
