-- Strips of rows, tile by tile.
use Rattle.std.proofs.Common.{◌≡◌, ℕ, ◌+◌, ◌-◌, ◌*◌, ◌/◌, ◌%◌, ◌<◌, ◌≤◌, List, length, get_or, ap, sym, subst, ◌∙◌, arith, inl, inr, ℤ, pos, Some}
use Rattle.std.proofs.lemmas.Bool.{cases_lt}
use Rattle.std.proofs.lemmas.Nat.{div-add-mod', div_below, mod_below}
use Rattle.std.proofs.Math.Arith.{digits_lt}
use Rattle.nd_grid.specs.Grid.{Grid}
use Rattle.block_kernels.specs.Rows.{at_place}
use Rattle.block_kernels.specs.Gathers.{IsSpot, IsLine, HasTaken}

-- the pieces of the first rows are there, and nothing before the tile is touched
pub record Tiled (cells : List ℤ) (firsts seconds : List ℕ) (run from to k : ℕ) (old new : List ℤ) : Type 0 where
  pub len : length new ≡ length old
  pub made : (j i : ℕ) → j < k → from ≤ i → i < to → HasTaken cells (get_or firsts j 0) (get_or seconds j 0) run j i new
  pub kept : (j i : ℕ) → j < length firsts → i < from → get_or new (j * run + i) (pos 0) ≡ get_or old (j * run + i) (pos 0)

pub tile-step : (cells : List ℤ) (firsts seconds : List ℕ) (run from to k : ℕ) (old mid new : List ℤ) → Tiled cells firsts seconds run from to k old mid → from < to → to ≤ run → length new ≡ length mid
    → ((i p : ℕ) → i < to - from → IsSpot (get_or firsts k 0) (get_or seconds k 0) (from + i) p → get_or new ((k * run + from) + i) (pos 0) ≡ get_or cells p (pos 0))
    → ((q : ℕ) → q < k * run + from → get_or new q (pos 0) ≡ get_or mid q (pos 0)) → ((q : ℕ) → (k * run + from) + (to - from) ≤ q → get_or new q (pos 0) ≡ get_or mid q (pos 0))
    → Tiled cells firsts seconds run from to (k + 1) old new
tile-step cells firsts seconds run from to k old mid new t some inside len piece before after = record {
  len = len ∙ t.len;
  made = λ j i hj low high. elim (cases_lt j k) [
    | inl b ↦ record { at = λ p s. before (j * run + i) (let e : j * run + i < k * run = digits_lt b (omega arith) in omega (arith, e)) ∙ (t.made j i b low high).at p s }
    | inr b ↦
        let e : j ≡ k = omega arith in
        let f : from + (i - from) ≡ i = omega arith in
        let g : (k * run + from) + (i - from) ≡ k * run + i = omega arith in
        subst (λ m. HasTaken cells (get_or firsts m 0) (get_or seconds m 0) run m i new) (sym e) (record {
          at = λ p s. ap (λ q. get_or new q (pos 0)) (sym g) ∙ piece (i - from) p (omega arith) (subst (λ m. IsSpot (get_or firsts k 0) (get_or seconds k 0) m p) (sym f) s);
        })
  ];
  kept = λ j i hj low. elim (cases_lt j k) [
    | inl b ↦ before (j * run + i) (let e : j * run + i < k * run = digits_lt b (omega arith) in omega (arith, e)) ∙ t.kept j i hj low
    | inr b ↦ elim (cases_lt k j) [
      | inl a ↦ after (j * run + i) (let e : k * run + (to - 1) < j * run = digits_lt a (omega arith) in omega (arith, e)) ∙ t.kept j i hj low
      | inr a ↦ let e : j ≡ k = omega arith in before (j * run + i) (subst (λ m. m * run + i < k * run + from) (sym e) (omega arith)) ∙ t.kept j i hj low
    ]
  ];
}

-- what is there of a strip's rows, up to a tile
pub record Stripped (cells : List ℤ) (firsts seconds : List ℕ) (run from : ℕ) (old new : List ℤ) : Type 0 where
  pub len : length new ≡ length old
  pub made : (k i : ℕ) → k < length firsts → i < from → HasTaken cells (get_or firsts k 0) (get_or seconds k 0) run k i new

pub strip-step : (cells : List ℤ) (firsts seconds : List ℕ) (run from to : ℕ) (old mid new : List ℤ) → Stripped cells firsts seconds run from old mid → length new ≡ length mid
    → ((k i : ℕ) → k < length firsts → from ≤ i → i < to → HasTaken cells (get_or firsts k 0) (get_or seconds k 0) run k i new)
    → ((k i : ℕ) → k < length firsts → i < from → get_or new (k * run + i) (pos 0) ≡ get_or mid (k * run + i) (pos 0))
    → Stripped cells firsts seconds run to old new
strip-step cells firsts seconds run from to old mid new s len tile kept = record {
  len = len ∙ s.len;
  made = λ k i hk hi. elim (cases_lt i from) [
    | inl b ↦ record { at = λ p h. kept k i hk b ∙ (s.made k i hk b).at p h }
    | inr b ↦ tile k i hk (omega arith) hi
  ];
}

-- a strip has what its grid has
pub strip-filled : (g : Grid) (cells out : List ℤ) (firsts seconds : List ℕ) (row many run : ℕ) → 0 < run → ((k : ℕ) → k < many → IsLine g cells ((row + k) * run) run (get_or firsts k 0) (get_or seconds k 0))
    → ((k i : ℕ) → k < many → i < run → HasTaken cells (get_or firsts k 0) (get_or seconds k 0) run k i out) → (r : ℕ) → r < many * run → at_place g (row * run + r) ≡ Some (get_or out r (pos 0))
strip-filled g cells out firsts seconds row many run some lines made r h =
    let k : ℕ = r / run in
    let i : ℕ = r % run in
    let hk : r / run < many = div_below r run many some h in
    let hi : r % run < run = mod_below r run some in
    let split : r / run * run + r % run ≡ r = div-add-mod' r run in
    let line = lines (r / run) hk in
    let p : ℕ = line.row.place (r % run) in
    let s : IsSpot (get_or firsts (r / run) 0) (get_or seconds (r / run) 0) (r % run) (line.row.place (r % run)) = line.row.spot (r % run) hi in
    let e : (row + r / run) * run + r % run ≡ row * run + r = omega (arith, split) in
    ap (λ q. at_place g q) (sym e)
    ∙ line.each (r % run) (line.row.place (r % run)) hi s
    ∙ ap Some (sym ((made (r / run) (r % run) hk hi).at (line.row.place (r % run)) s) ∙ ap (λ q. get_or out q (pos 0)) split)
