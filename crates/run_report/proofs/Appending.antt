-- Lines, one after another.
use Rattle.std.proofs.Common.{◌≡◌, ℕ, ◌+◌, ◌<◌, List, [], ◌∷◌, ◌++◌, length, take, get_or, ap, sym, ◌∙◌, append_assoc, append-nil}
use Rattle.std.proofs.lemmas.List.{take_more}
use Rattle.std.specs.Prelude.{OnOk, Result, Ok, Err}
use Rattle.run_report.specs.Text.{worker_line, worker_lines}

workers_snoc : (ws : List (ℕ × ℕ)) (w : ℕ × ℕ) → worker_lines (ws ++ w ∷ []) ≡ worker_lines ws ++ worker_line w
workers_snoc [] w = append-nil (worker_line w)
workers_snoc (v ∷ ws) w = ap (λ x. worker_line v ++ x) (workers_snoc ws w) ∙ sym (append_assoc (worker_line v) (worker_lines ws) (worker_line w))

-- one worker more
pub workers_more : (old before after : List ℕ) (ws : List (ℕ × ℕ)) (i : ℕ) → i < length ws → before ≡ old ++ worker_lines (take i ws) → after ≡ before ++ worker_line (get_or ws i (0, 0)) → after ≡ old ++ worker_lines (take (i + 1) ws)
workers_more old before after ws i h e is =
    let w : ℕ × ℕ = get_or ws i (0, 0) in
    is ∙ (ap (λ x. x ++ worker_line w) e ∙ (append_assoc old (worker_lines (take i ws)) (worker_line w)
    ∙ ap (λ x. old ++ x) (sym (workers_snoc (take i ws) w) ∙ sym (ap worker_lines (take_more ws i (0, 0) h)))))

-- ## A report

regroup : (o a b c d e f g h : List ℕ) → (((((((o ++ a) ++ b) ++ c) ++ d) ++ e) ++ f) ++ g) ++ h ≡ o ++ (((((((a ++ b) ++ c) ++ d) ++ e) ++ f) ++ g) ++ h)
regroup o a b c d e f g h = simp append_assoc

-- one text behind another, eight times
pub eight : (o a b c d e f g h t₁ t₂ t₃ t₄ t₅ t₆ t₇ : List ℕ) → t₁ ≡ o ++ a → t₂ ≡ t₁ ++ b → t₃ ≡ t₂ ++ c → t₄ ≡ t₃ ++ d → t₅ ≡ t₄ ++ e → t₆ ≡ t₅ ++ f → t₇ ≡ t₆ ++ g →
    t₇ ++ h ≡ o ++ (((((((a ++ b) ++ c) ++ d) ++ e) ++ f) ++ g) ++ h)
eight o a b c d e f g h t₁ t₂ t₃ t₄ t₅ t₆ t₇ e₁ e₂ e₃ e₄ e₅ e₆ e₇ =
    ap (λ x. x ++ h) (e₇ ∙ ap (λ x. x ++ g) (e₆ ∙ ap (λ x. x ++ f) (e₅ ∙ ap (λ x. x ++ e) (e₄ ∙ ap (λ x. x ++ d) (e₃ ∙ ap (λ x. x ++ c) (e₂ ∙ ap (λ x. x ++ b) e₁)))))) ∙ regroup o a b c d e f g h

pub on_ok : {T E : Type 0} {A B : Type 0} (r : Result T E) → OnOk r A → (A → B) → OnOk r B
on_ok (Ok x) a f = f a
on_ok (Err e) a f = tt
