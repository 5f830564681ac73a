-- Rows of cells while they are made.
use Rattle.std.proofs.Common.{◌≡◌, ◌∙◌, ℕ, ◌+◌, ◌<◌, List, [], ◌∷◌, ◌++◌, map, length, refl, sym, ap, subst, arith}
use Rattle.std.specs.Prelude.{Option, Some, Result, Ok, IfOk}
use Rattle.std.proofs.lemmas.Result.{IfOk-at_ok}
use Rattle.std.proofs.lemmas.List.{length-append, get_or_append_left, get_or_push, map-append}
use mathlib.Core.Logic.{dite}
use native.Mathlib.Decide.{ℕ_discrete}
use Rattle.atomic_table.specs.Seated.{TableId}
use Rattle.node_runner.specs.Making.{AreMade}

pub made_none : {S X : Type 0} (berth : X → TableId × Option S) (P : ℕ → S → Type 0) (ps : List X) → ps ≡ [] → AreMade P 0 (map berth ps)
made_none berth P ps none = subst (λ qs. AreMade P 0 (map berth qs)) (sym none) (record { long = refl; each = λ k b less. absurd (omega (arith, less)) })

more : {S : Type 0} (P : ℕ → S → Type 0) (n : ℕ) (bs : List (TableId × Option S)) (c : TableId × Option S) (s : S) → AreMade P n bs → c.1 ≡ Some s → P n s → AreMade P (n + 1) (bs ++ c ∷ [])
more P n bs c s made start first = record {
  long = length-append bs (c ∷ []) ∙ ap (λ k. k + 1) made.long;
  each = λ k b less. dite (ℕ_discrete k n)
      (λ e. (s, ap (λ (x : _). x.1) (get_or_push bs c b k (made.long ∙ sym e)) ∙ start, subst (λ j. P j s) (sym e) first))
      (λ ne.
      let short : k < length bs = omega (arith, length-append bs (c ∷ []), made.long, ne) in
      let old = made.each k b short in
      (old.0, ap (λ (x : _). x.1) (get_or_append_left bs (c ∷ []) b k short) ∙ old.1, old.2));
}

-- one cell more
pub made_added : {S X : Type 0} (berth : X → TableId × Option S) (P : ℕ → S → Type 0) (n : ℕ) (ps qs : List X) (s : S) → AreMade P n (map berth ps)
    → ((x : X) × (qs ≡ ps ++ x ∷ []) × ((berth x).1 ≡ Some s)) → P n s → AreMade P (n + 1) (map berth qs)
made_added berth P n ps qs s made added first =
    subst (λ xs. AreMade P (n + 1) (map berth xs)) (sym added.1)
    (subst (AreMade P (n + 1)) (sym (map-append berth ps (added.0 ∷ []))) (more P n (map berth ps) (berth added.0) s made added.2 first))

-- the same, where the state is that of a result
pub made_more : {S X E : Type 0} (berth : X → TableId × Option S) (P : ℕ → S → Type 0) (n : ℕ) (ps qs : List X) (o : Result S E)
    → ((s : S) × (o ≡ Ok s) × (x : X) × (qs ≡ ps ++ x ∷ []) × ((berth x).1 ≡ Some s)) → IfOk o (P n) → AreMade P n (map berth ps) → AreMade P (n + 1) (map berth qs)
made_more berth P n ps qs o a first made = made_added berth P n ps qs a.0 made (a.2, a.3, a.4) (IfOk-at_ok (P n) a.1 first)

-- the only cell
pub made_one : {S X E : Type 0} (berth : X → TableId × Option S) (P : ℕ → S → Type 0) (ps qs : List X) (o : Result S E)
    → ps ≡ [] → ((s : S) × (o ≡ Ok s) × (x : X) × (qs ≡ ps ++ x ∷ []) × ((berth x).1 ≡ Some s)) → IfOk o (P 0) → AreMade P 1 (map berth qs)
made_one berth P ps qs o none a first = made_more berth P 0 ps qs o a first (made_none berth P ps none)
