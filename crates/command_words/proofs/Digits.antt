-- One digit more.
use Rattle.std.proofs.Common.{◌≡◌, ℕ, ◌+◌, ◌-◌, ◌*◌, ◌^◌, ◌<◌, min, List, length, take, get_or, ap, sym, ◌∙◌, arith}
use Rattle.std.proofs.lemmas.List.{take_more}
use Rattle.job_tokens.specs.Bytes.{decimal}
use Rattle.job_tokens.proofs.Numbers.{decimal-more}

capped-digit : (n d : ℕ) → min (10 * min n (2 ^ 128 - 1) + d) (2 ^ 128 - 1) ≡ min (10 * n + d) (2 ^ 128 - 1)
capped-digit n d = grind arith

pub capped-more : (w : List ℕ) (i n : ℕ) → i < length w → n ≡ min (decimal (take i w)) (2 ^ 128 - 1) → min (10 * n + (get_or w i 0 - 48)) (2 ^ 128 - 1) ≡ min (decimal (take (i + 1) w)) (2 ^ 128 - 1)
capped-more w i n h e =
    ap (λ m. min (10 * m + (get_or w i 0 - 48)) (2 ^ 128 - 1)) e
    ∙ (capped-digit (decimal (take i w)) (get_or w i 0 - 48)
    ∙ ap (λ m. min m (2 ^ 128 - 1)) (sym (decimal-more 0 (get_or w i 0) (take i w)) ∙ ap decimal (sym (take_more w i 0 h))))
