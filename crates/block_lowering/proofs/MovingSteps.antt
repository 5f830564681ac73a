-- What a block of a slice takes, axis by axis.
use Rattle.std.proofs.Common.{◌≡◌, ℕ, suc, ◌+◌, ◌<◌, ◌≤◌, cond, not, Bool, true, false, List, [], ◌∷◌, ◌++◌, length, drop, get_or, refl, ap, sym, ◌∙◌, arith, append_assoc, add-one}
use Rattle.std.specs.Prelude.{slice_index_or}
use Rattle.std.proofs.lemmas.List.{drop_more, drop-drop}
use Rattle.small_facts.proofs.Lists.{first_of_drop}
use Rattle.nd_shape.specs.declared.slice.Steps.{Steps}
use Rattle.nd_grid.specs.Grid.{is_among}
use Rattle.chunk_layout.specs.Slices.{Taken}
use Rattle.lowering_laws.specs.Stages.{pieces_at, chunks_taken, steps_taken, nothing_taken}

-- the piece of axis k, and what is left of the block behind it
abbrev pub piece_on : List (List Taken) → List ℕ → ℕ → ℕ → Bool → Taken
piece_on pieces bs k used gone = slice_index_or (get_or pieces k []) (cond gone 0 (get_or bs used 0)) nothing_taken

abbrev pub pieces_behind : List (List Taken) → List ℕ → List ℕ → ℕ → ℕ → List Taken
pieces_behind pieces dropped bs k used = pieces_at (k + 1) (drop (k + 1) pieces) dropped (drop used bs)

pieces-drop : (pieces : List (List Taken)) (dropped bs : List ℕ) (k used : ℕ) (gone : Bool) → k < length pieces → gone ≡ is_among k dropped
    → pieces_at k (drop k pieces) dropped (drop used bs) ≡ piece_on pieces bs k used gone ∷ pieces_behind pieces dropped bs k (cond gone used (used + 1))
pieces-drop pieces dropped bs k used gone lt e =
    ap (λ (ps : List (List Taken)). pieces_at k ps dropped (drop used bs)) (drop_more pieces k [] lt)
    ∙ ap (λ b. cond b (slice_index_or (get_or pieces k []) 0 nothing_taken ∷ pieces_at (suc k) (drop (k + 1) pieces) dropped (drop used bs))
    (slice_index_or (get_or pieces k []) (get_or (drop used bs) 0 0) nothing_taken ∷ pieces_at (suc k) (drop (k + 1) pieces) dropped (drop 1 (drop used bs)))) (sym e)
    ∙ by_case gone
  where
    by_case : (b : Bool) → cond b (slice_index_or (get_or pieces k []) 0 nothing_taken ∷ pieces_at (suc k) (drop (k + 1) pieces) dropped (drop used bs))
        (slice_index_or (get_or pieces k []) (get_or (drop used bs) 0 0) nothing_taken ∷ pieces_at (suc k) (drop (k + 1) pieces) dropped (drop 1 (drop used bs)))
        ≡ piece_on pieces bs k used b ∷ pieces_behind pieces dropped bs k (cond b used (used + 1))
    by_case true = ap (λ m. slice_index_or (get_or pieces k []) 0 nothing_taken ∷ pieces_at m (drop (k + 1) pieces) dropped (drop used bs)) (sym (add-one k))
    by_case false =
        ap (λ m. slice_index_or (get_or pieces k []) (get_or (drop used bs) 0 0) nothing_taken ∷ pieces_at m (drop (k + 1) pieces) dropped (drop 1 (drop used bs))) (sym (add-one k))
        ∙ ap (λ j. slice_index_or (get_or pieces k []) j nothing_taken ∷ pieces_at (k + 1) (drop (k + 1) pieces) dropped (drop 1 (drop used bs))) (first_of_drop bs used)
        ∙ ap (λ (js : List ℕ). slice_index_or (get_or pieces k []) (get_or bs used 0) nothing_taken ∷ pieces_at (k + 1) (drop (k + 1) pieces) dropped js) (drop-drop 1 used bs)

-- what the loop has behind axis k
pub record TakenBehind (pieces : List (List Taken)) (dropped bs numbers : List ℕ) (steps : List Steps) (k used : ℕ) : Type 0 where
  pub within : used ≤ k + 1
  pub numbers_are : numbers ++ chunks_taken (pieces_behind pieces dropped bs k used) ≡ chunks_taken (pieces_at 0 pieces dropped bs)
  pub steps_are : steps ++ steps_taken (pieces_behind pieces dropped bs k used) ≡ steps_taken (pieces_at 0 pieces dropped bs)

used-more : (gone : Bool) (k used : ℕ) → used ≤ k → cond gone used (used + 1) ≤ k + 1
used-more true k used h = omega arith
used-more false k used h = omega arith

pub taken-step : (pieces : List (List Taken)) (dropped bs numbers : List ℕ) (steps : List Steps) (k used : ℕ) (gone : Bool) (p : Taken) → k < length pieces → gone ≡ is_among k dropped → p ≡ piece_on pieces bs k used gone
    → used ≤ k
    → numbers ++ chunks_taken (pieces_at k (drop k pieces) dropped (drop used bs)) ≡ chunks_taken (pieces_at 0 pieces dropped bs)
    → steps ++ steps_taken (pieces_at k (drop k pieces) dropped (drop used bs)) ≡ steps_taken (pieces_at 0 pieces dropped bs)
    → TakenBehind pieces dropped bs (numbers ++ p.chunk ∷ []) (steps ++ p.steps ∷ []) k (cond gone used (used + 1))
taken-step pieces dropped bs numbers steps k used gone p lt e is within numbers_are steps_are =
    let rest : List Taken = pieces_behind pieces dropped bs k (cond gone used (used + 1)) in
    let d : pieces_at k (drop k pieces) dropped (drop used bs) ≡ p ∷ pieces_behind pieces dropped bs k (cond gone used (used + 1)) =
    pieces-drop pieces dropped bs k used gone lt e ∙ ap (λ (x : Taken). x ∷ pieces_behind pieces dropped bs k (cond gone used (used + 1))) (sym is) in
    record {
      within = used-more gone k used within;
      numbers_are = append_assoc numbers (p.chunk ∷ []) (chunks_taken rest) ∙ sym (ap (λ (ps : List Taken). numbers ++ chunks_taken ps) d) ∙ numbers_are;
      steps_are = append_assoc steps (p.steps ∷ []) (steps_taken rest) ∙ sym (ap (λ (ps : List Taken). steps ++ steps_taken ps) d) ∙ steps_are;
    }

-- how far the block is used, as the code counts it
pub counted : (gone : Bool) (used : ℕ) → cond (not gone) (used + 1) used ≡ cond gone used (used + 1)
counted true used = refl
counted false used = refl
