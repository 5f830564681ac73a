use Rattle.std.proofs.Common.{◌≡◌, ℕ, ◌&&◌, eqb, Decides, sym, ap, ap₂, ◌∙◌}
use Rattle.std.proofs.lemmas.Bool.Decides.{Decides-and, Decides-eqb, Decides-like}
use Rattle.std.proofs.lemmas.Slice.Eq.{slice_eq-Decides}
use Rattle.journal_audit.proofs.same.same_holders.Goals as goal

decides-pair : (a b : ℕ × ℕ) → Decides (eqb a.0 b.0 && eqb a.1 b.1) (a ≡ b)
decides-pair a b = Decides-like _ (λ e. ap₂ (λ x y. (x, y)) e.0 e.1) (λ e. (ap (λ p. p.0) e, ap (λ p. p.1) e)) (Decides-and _ _ (Decides-eqb a.0 b.0) (Decides-eqb a.1 b.1))

pub returns : goal.returns
returns c =
    let d = slice_eq-Decides {A = ℕ × ℕ} decides-pair c.as_slice.result.now c.as_slice-2.result.now c.eq.result c.eq.ensures in
    (λ t. sym c.as_slice.ensures ∙ d.0 t ∙ c.as_slice-2.ensures, λ e. d.1 (c.as_slice.ensures ∙ e ∙ sym c.as_slice-2.ensures))
