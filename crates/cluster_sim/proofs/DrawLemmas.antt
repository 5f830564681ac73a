-- One of the progress events, by a word.
use Rattle.std.proofs.Common.{◌≡◌, ℕ, ◌-◌, ◌^◌, ◌≤◌, ◌<◌, ◌%◌, min, List, length, Option, None, sym, ap, ◌∙◌, arith, ⊎_elim}
use Rattle.std.specs.Prelude.{slice_get}
use Rattle.std.proofs.Math.Nat.{min-eq_left, min-eq_right, mod-eq_of_lt}
use Rattle.std.proofs.lemmas.Bool.{cases_lt}
use Rattle.std.proofs.lemmas.Option.{slice_get_past}
use Rattle.cluster_msgs.specs.declared.events.Event.{Event}

-- a word is below 2^32, so a number of events that is held at 2^64 - 1 leaves the same remainder
same_rest : (word n top : ℕ) → word < top → word % min n top ≡ word % n
same_rest word n top h = ⊎_elim below above (cases_lt n top)
  where
    below : n < top → word % min n top ≡ word % n
    below u = ap (λ m. word % m) (min-eq_left (let q : n < top = u in omega (arith, q)))

    above : top ≤ n → word % min n top ≡ word % n
    above u = ap (λ m. word % m) (min-eq_right u) ∙ mod-eq_of_lt h ∙ sym (mod-eq_of_lt (omega (arith, h, u)))

pub drawn_is : (es : List Event) (word count : ℕ) (o : Option Event) → word < 2 ^ 32 → count ≡ min (length es) (2 ^ 64 - 1) → o ≡ slice_get es (word % count) → o ≡ slice_get es (word % length es)
drawn_is es word count o u e h = h ∙ ap (λ n. slice_get es n) (ap (λ n. word % n) e ∙ same_rest word (length es) (2 ^ 64 - 1) (omega (arith, u)))

-- where there is none
pub drawn_none : (es : List Event) (word count : ℕ) → count ≡ min (length es) (2 ^ 64 - 1) → count ≡ 0 → None ≡ slice_get es (word % length es)
drawn_none es word count e z = sym (slice_get_past es (word % length es) (none (length es) (sym e ∙ z)))
  where
    none : (n : ℕ) → min n (2 ^ 64 - 1) ≡ 0 → n ≤ word % length es
    none n h = ⊎_elim (λ u. low n u h) (λ u. absurd (high n u h)) (cases_lt n (2 ^ 64 - 1))
      where
        low : (n : ℕ) → n < 2 ^ 64 - 1 → min n (2 ^ 64 - 1) ≡ 0 → n ≤ word % length es
        low n u h = let q : n ≡ 0 = sym (min-eq_left (let v : n < 2 ^ 64 - 1 = u in omega (arith, v))) ∙ h in omega (arith, q)

        high : (n : ℕ) → 2 ^ 64 - 1 ≤ n → min n (2 ^ 64 - 1) ≡ 0 → ⊥
        high n u h = let q : 2 ^ 64 - 1 ≡ 0 = sym (min-eq_right u) ∙ h in omega (arith, q)
