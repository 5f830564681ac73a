-- The generator goes on by one step a word.
use Rattle.std.proofs.Common.{◌≡◌, ℕ, zero, suc, ◌+◌, refl, sym, ap, ◌∙◌, add-one}
use Rattle.rand_pcg.specs.Lcg.{Lcg, next_state, state_after, started, increment_of}
use Rattle.rand_pcg.specs.Pcg.{multiplier_64, pcg32}
use Rattle.cluster_sim.specs.declared.words.Words.{Words}
use Rattle.cluster_sim.specs.Drawn.{generator, word_of, IsAtTurn}

after-suc : (w m i n s : ℕ) → state_after w m i (suc n) s ≡ next_state w m i (state_after w m i n s)
unfolding state_after
after-suc w m i zero s = refl
after-suc w m i (suc n) s = after-suc w m i n (next_state w m i s)

first : (number : ℕ) → generator number 0 ≡ started 64 multiplier_64 number (increment_of 64 1)
unfolding generator state_after
first number = refl

lcg : ℕ → ℕ → Lcg
lcg state increment = record { state = state; increment = increment }

later-suc : (number n : ℕ) → generator number (suc n) ≡ (pcg32 (generator number n)).1
unfolding generator lcg
later-suc number n = ap (λ s. lcg s (increment_of 64 1)) (after-suc 64 multiplier_64 (increment_of 64 1) n (started 64 multiplier_64 number (increment_of 64 1)).state)

later : (number n : ℕ) → generator number (n + 1) ≡ (pcg32 (generator number n)).1
later number n = ap (λ m. generator number m) (add-one n) ∙ later-suc number n

drawn : (number n : ℕ) → word_of number n ≡ (pcg32 (generator number n)).0
unfolding word_of
drawn number n = refl

pub at_start : (number : ℕ) (g : Lcg) (w : Words) → g ≡ started 64 multiplier_64 number (increment_of 64 1) → (w.word, w.rng) ≡ pcg32 g → IsAtTurn w number 0
at_start number g w s e = record {
  word = ap (λ p. p.0) e ∙ ap (λ x. (pcg32 x).0) (s ∙ sym (first number)) ∙ sym (drawn number 0);
  behind = ap (λ p. p.1) e ∙ ap (λ x. (pcg32 x).1) (s ∙ sym (first number)) ∙ sym (later number 0);
}

pub at_next : (number turn : ℕ) (old new : Words) → (new.word, new.rng) ≡ pcg32 old.rng → IsAtTurn old number turn → IsAtTurn new number (turn + 1)
at_next number turn old new e h = record {
  word = ap (λ p. p.0) e ∙ ap (λ x. (pcg32 x).0) h.behind ∙ sym (drawn number (turn + 1));
  behind = ap (λ p. p.1) e ∙ ap (λ x. (pcg32 x).1) h.behind ∙ sym (later number (turn + 1));
}
