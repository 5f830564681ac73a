-- One digit more.
use Rattle.std.proofs.Common.{◌≡◌, ℕ, ◌+◌, ◌-◌, ◌*◌, ◌<◌, List, [], ◌∷◌, ◌++◌, length, take, get_or, refl, ap, sym, ◌∙◌, arith}
use Rattle.std.proofs.lemmas.List.{take_more}
use Rattle.job_tokens.specs.Bytes.{decimal_from, decimal, capped}

pub decimal-more : (s b : ℕ) (w : List ℕ) → decimal_from s (w ++ b ∷ []) ≡ 10 * decimal_from s w + (b - 48)
decimal-more s b [] = refl
decimal-more s b (x ∷ w) = decimal-more (10 * s + (x - 48)) b w

capped-digit : (n d : ℕ) → capped (10 * capped n + d) ≡ capped (10 * n + d)
capped-digit n d = grind arith

pub capped-more : (w : List ℕ) (i n : ℕ) → i < length w → n ≡ capped (decimal (take i w)) → capped (10 * n + (get_or w i 0 - 48)) ≡ capped (decimal (take (i + 1) w))
capped-more w i n h e =
    ap (λ m. capped (10 * m + (get_or w i 0 - 48))) e
    ∙ (capped-digit (decimal (take i w)) (get_or w i 0 - 48)
    ∙ ap capped (sym (decimal-more 0 (get_or w i 0) (take i w)) ∙ ap decimal (sym (take_more w i 0 h))))
