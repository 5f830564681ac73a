-- Steps of the loops that make an operand's index axis by axis.
use Rattle.std.proofs.Common.{◌≡◌, ℕ, suc, ◌+◌, ◌<◌, cond, Bool, true, false, List, [], ◌∷◌, ◌++◌, length, drop, get_or, ap, sym, subst, ◌∙◌, append_assoc, add-one}
use Rattle.std.specs.Prelude.{nat_eq, not}
use Rattle.std.specs.List.{position_or_len}
use Rattle.std.proofs.lemmas.List.{drop_more, drop-drop}
use Rattle.small_facts.proofs.Lists.{first_of_drop}
use Rattle.nd_grid.specs.Grid.{is_among, merged, woven}

pub merge-more : (ns axes is rs own res : List ℕ) (k used spent : ℕ) (gone : Bool) → k < length ns → gone ≡ is_among k axes
    → own ++ merged k (drop k ns) axes (drop used is) (drop spent rs) ≡ res
    → (own ++ cond gone (get_or rs spent 0) (get_or is used 0) ∷ []) ++ merged (k + 1) (drop (k + 1) ns) axes (drop (cond (not gone) (used + 1) used) is) (drop (cond gone (spent + 1) spent) rs) ≡ res
merge-more ns axes is rs own res k used spent gone h b loop =
    let dn : drop k ns ≡ get_or ns k 0 ∷ drop (k + 1) ns = drop_more ns k 0 h in
    let value : own ++ cond gone (get_or (drop spent rs) 0 0 ∷ merged (suc k) (drop (k + 1) ns) axes (drop used is) (drop 1 (drop spent rs))) (get_or (drop used is) 0 0 ∷ merged (suc k) (drop (k + 1) ns) axes (drop 1 (drop used is)) (drop spent rs)) ≡ res =
    subst (λ x. own ++ cond x (get_or (drop spent rs) 0 0 ∷ merged (suc k) (drop (k + 1) ns) axes (drop used is) (drop 1 (drop spent rs))) (get_or (drop used is) 0 0 ∷ merged (suc k) (drop (k + 1) ns) axes (drop 1 (drop used is)) (drop spent rs)) ≡ res)
    (sym b) (ap (λ xs. own ++ merged k xs axes (drop used is) (drop spent rs)) (sym dn) ∙ loop) in
    by_case gone value
  where
    by_case : (gone : Bool)
        → own ++ cond gone (get_or (drop spent rs) 0 0 ∷ merged (suc k) (drop (k + 1) ns) axes (drop used is) (drop 1 (drop spent rs))) (get_or (drop used is) 0 0 ∷ merged (suc k) (drop (k + 1) ns) axes (drop 1 (drop used is)) (drop spent rs)) ≡ res
        → (own ++ cond gone (get_or rs spent 0) (get_or is used 0) ∷ []) ++ merged (k + 1) (drop (k + 1) ns) axes (drop (cond (not gone) (used + 1) used) is) (drop (cond gone (spent + 1) spent) rs) ≡ res
    by_case true value =
        subst (λ m. (own ++ get_or rs spent 0 ∷ []) ++ merged m (drop (k + 1) ns) axes (drop used is) (drop (spent + 1) rs) ≡ res) (sym (add-one k))
        (append_assoc own (get_or rs spent 0 ∷ []) _
        ∙ ap (λ x. own ++ x ∷ merged (suc k) (drop (k + 1) ns) axes (drop used is) (drop (spent + 1) rs)) (sym (first_of_drop rs spent))
        ∙ ap (λ xs. own ++ get_or (drop spent rs) 0 0 ∷ merged (suc k) (drop (k + 1) ns) axes (drop used is) xs) (sym (drop-drop 1 spent rs))
        ∙ value)
    by_case false value =
        subst (λ m. (own ++ get_or is used 0 ∷ []) ++ merged m (drop (k + 1) ns) axes (drop (used + 1) is) (drop spent rs) ≡ res) (sym (add-one k))
        (append_assoc own (get_or is used 0 ∷ []) _
        ∙ ap (λ x. own ++ x ∷ merged (suc k) (drop (k + 1) ns) axes (drop (used + 1) is) (drop spent rs)) (sym (first_of_drop is used))
        ∙ ap (λ xs. own ++ get_or (drop used is) 0 0 ∷ merged (suc k) (drop (k + 1) ns) axes xs (drop spent rs)) (sym (drop-drop 1 used is))
        ∙ value)

pub weave-more : (ns axes is rs own res : List ℕ) (k used : ℕ) (gone : Bool) → k < length ns → gone ≡ is_among k axes
    → own ++ woven k (drop k ns) axes (drop used is) rs ≡ res
    → (own ++ cond gone (get_or rs (position_or_len (nat_eq k) axes) 0) (get_or is used 0) ∷ []) ++ woven (k + 1) (drop (k + 1) ns) axes (drop (cond (not gone) (used + 1) used) is) rs ≡ res
weave-more ns axes is rs own res k used gone h b loop =
    let dn : drop k ns ≡ get_or ns k 0 ∷ drop (k + 1) ns = drop_more ns k 0 h in
    let value : own ++ cond gone (get_or rs (position_or_len (nat_eq k) axes) 0 ∷ woven (suc k) (drop (k + 1) ns) axes (drop used is) rs) (get_or (drop used is) 0 0 ∷ woven (suc k) (drop (k + 1) ns) axes (drop 1 (drop used is)) rs) ≡ res =
    subst (λ x. own ++ cond x (get_or rs (position_or_len (nat_eq k) axes) 0 ∷ woven (suc k) (drop (k + 1) ns) axes (drop used is) rs) (get_or (drop used is) 0 0 ∷ woven (suc k) (drop (k + 1) ns) axes (drop 1 (drop used is)) rs) ≡ res)
    (sym b) (ap (λ xs. own ++ woven k xs axes (drop used is) rs) (sym dn) ∙ loop) in
    by_case gone value
  where
    by_case : (gone : Bool)
        → own ++ cond gone (get_or rs (position_or_len (nat_eq k) axes) 0 ∷ woven (suc k) (drop (k + 1) ns) axes (drop used is) rs) (get_or (drop used is) 0 0 ∷ woven (suc k) (drop (k + 1) ns) axes (drop 1 (drop used is)) rs) ≡ res
        → (own ++ cond gone (get_or rs (position_or_len (nat_eq k) axes) 0) (get_or is used 0) ∷ []) ++ woven (k + 1) (drop (k + 1) ns) axes (drop (cond (not gone) (used + 1) used) is) rs ≡ res
    by_case true value =
        subst (λ m. (own ++ get_or rs (position_or_len (nat_eq k) axes) 0 ∷ []) ++ woven m (drop (k + 1) ns) axes (drop used is) rs ≡ res) (sym (add-one k))
        (append_assoc own (get_or rs (position_or_len (nat_eq k) axes) 0 ∷ []) _ ∙ value)
    by_case false value =
        subst (λ m. (own ++ get_or is used 0 ∷ []) ++ woven m (drop (k + 1) ns) axes (drop (used + 1) is) rs ≡ res) (sym (add-one k))
        (append_assoc own (get_or is used 0 ∷ []) _
        ∙ ap (λ x. own ++ x ∷ woven (suc k) (drop (k + 1) ns) axes (drop (used + 1) is) rs) (sym (first_of_drop is used))
        ∙ ap (λ xs. own ++ get_or (drop used is) 0 0 ∷ woven (suc k) (drop (k + 1) ns) axes xs rs) (sym (drop-drop 1 used is))
        ∙ value)
