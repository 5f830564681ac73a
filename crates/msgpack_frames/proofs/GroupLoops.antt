-- Lengths and frames one after the other, as loops read them.
use Rattle.std.proofs.Common.{◌≡◌, ℕ, suc, ◌-◌, ◌+◌, ◌≤◌, ◌<◌, List, [], ◌∷◌, ◌++◌, length, get_or, drop, Ok, Err, refl, sym, ap, ◌∙◌, append_assoc, arith}
use Rattle.std.proofs.lemmas.List.{append-nil, drop_more, drop-drop}
use Rattle.msgpack_frames.specs.declared.group.Stop.{Stop}
use Rattle.msgpack_frames.specs.declared.group.Stop.TheVariants as stops
use Rattle.msgpack_frames.specs.Reading.{◌>>=◌}
use Rattle.msgpack_frames.specs.Groups.{Take, Stops, len_at, lens_at, total}

-- the lengths read before, and what is still read
abbrev pub lens_after : List ℕ → Take (List ℕ) → Take (List ℕ)
lens_after front read = read >>= λ x. Ok (front ++ x.0, x.1)

pub lens_begin : (read : Take (List ℕ)) → lens_after [] read ≡ read
lens_begin (Ok x) = refl
lens_begin (Err e) = refl

regroup : (front : List ℕ) (len : ℕ) (read : Take (List ℕ)) → lens_after front (read >>= λ x. Ok (len ∷ x.0, x.1)) ≡ lens_after (front ++ len ∷ []) read
regroup front len (Ok x) = ap (λ (ls : List ℕ). Ok (ls, x.1)) (sym (append_assoc front (len ∷ []) x.0))
regroup front len (Err e) = refl

module _ (count i : ℕ) (bytes front : List ℕ) (whole : Take (List ℕ)) (so_far : lens_after front (lens_at i (count - i) bytes) ≡ whole) where
  pub lens_more : (len : ℕ) (after : List ℕ) → i < count → len_at i bytes ≡ Ok (len, after) → lens_after (front ++ len ∷ []) (lens_at (i + 1) (count - (i + 1)) after) ≡ whole
  unfolding lens_at
  lens_more len after lt h =
      let k : count - i ≡ suc (count - (i + 1)) = omega arith in
      let step : lens_after front (lens_at i (count - i) bytes) ≡ lens_after (front ++ len ∷ []) (lens_at (i + 1) (count - (i + 1)) after) = let next : suc i ≡ i + 1 = omega arith in rw (k, h, next) (regroup front len (lens_at (i + 1) (count - (i + 1)) after)) in
      sym step ∙ so_far

  pub lens_fail : (stop : Stop) → i < count → Stops stop (len_at i bytes) → Stops stop whole
  unfolding lens_at
  lens_fail stops.Memory lt h = tt
  lens_fail (stops.At why) lt h =
      let k : count - i ≡ suc (count - (i + 1)) = omega arith in
      let step : lens_after front (lens_at i (count - i) bytes) ≡ Err why = rw (k, h) refl in
      sym so_far ∙ step

  pub lens_done : count ≤ i → whole ≡ Ok (front, bytes)
  unfolding lens_at
  lens_done le =
      let k : count - i ≡ 0 = omega arith in
      let step : lens_after front (lens_at i (count - i) bytes) ≡ Ok (front, bytes) = rw k (ap (λ (ls : List ℕ). Ok (ls, bytes)) (append-nil front)) in
      sym so_far ∙ step

-- the bytes after one frame more
pub after_more : (lens rest more all : List ℕ) (i : ℕ) → i < length lens → more ≡ drop (get_or lens i 0) rest → drop (total (drop i lens)) rest ≡ all → drop (total (drop (i + 1) lens)) more ≡ all
after_more lens rest more all i lt here so_far =
    let parts : total (drop i lens) ≡ get_or lens i 0 + total (drop (i + 1) lens) = ap total (drop_more lens i 0 lt) in
    ap (drop (total (drop (i + 1) lens))) here ∙ drop-drop (total (drop (i + 1) lens)) (get_or lens i 0) rest ∙ ap (λ (n : ℕ). drop n rest) (sym parts) ∙ so_far
