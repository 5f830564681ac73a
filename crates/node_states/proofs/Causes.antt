-- The first cause of an end stands.
use Rattle.std.proofs.Common.{◌≡◌, ◌⊎◌, ◌∙◌, inl, inr, ⊎_elim, Option, Some, None, sym, refl}
use Rattle.node_states.specs.declared.why.Why.{Why}
use Rattle.node_states.specs.declared.why.Why.TheVariants.{Link, Memory}
use Rattle.node_states.specs.Causes.{IsTurnsCause}

pub no_cause : (a b : Option Why) → b ≡ a → IsTurnsCause a b
no_cause a b e = record { is = inl e }

pub memory_cause : (a b : Option Why) → (¬ (a ≡ None) → b ≡ a) → (a ≡ None → b ≡ Some Memory) → IsTurnsCause a b
memory_cause None b h k = record { is = inr (refl, inl (k refl)) }
memory_cause (Some w) b h k = record { is = inl (h (λ e. cc)) }

pub link_cause : (a b : Option Why) → (¬ (a ≡ None) → b ≡ a) → (a ≡ None → b ≡ Some Link) → IsTurnsCause a b
link_cause None b h k = record { is = inr (refl, inr (k refl)) }
link_cause (Some w) b h k = record { is = inl (h (λ e. cc)) }

pub then_cause : (a b c : Option Why) → IsTurnsCause a b → IsTurnsCause b c → IsTurnsCause a c
then_cause a b c h k = record {
  is = ⊎_elim
      (λ (e : c ≡ b). ⊎_elim (λ (f : b ≡ a). inl (e ∙ f)) (λ (g : (a ≡ None) × ((b ≡ Some Memory) ⊎ (b ≡ Some Link))). inr (g.0, ⊎_elim (λ x. inl (e ∙ x)) (λ x. inr (e ∙ x)) g.1)) h.is)
      (λ (n : (b ≡ None) × ((c ≡ Some Memory) ⊎ (c ≡ Some Link))). ⊎_elim (λ (f : b ≡ a). inr (sym f ∙ n.0, n.1)) (λ (g : (a ≡ None) × ((b ≡ Some Memory) ⊎ (b ≡ Some Link))). inr (g.0, n.1)) h.is)
      k.is;
}
