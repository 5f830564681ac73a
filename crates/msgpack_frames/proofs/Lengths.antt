-- What the table says of each form: lengths and numbers in a first byte are small, and some forms don't occur.
use Rattle.std.proofs.Common.{◌≡◌, ℕ, ◌<◌, ◌≤◌, ltb, pos, negsuc, List, [], ◌∷◌, subst, arith}
use Rattle.std.proofs.lemmas.Bool.{cond_both, ltb-true, ltb-false}
use Rattle.msgpack_frames.specs.declared.form.Kind.{Kind}
use Rattle.msgpack_frames.specs.declared.form.Kind.TheVariants.{Str, Bin, Array, Map}
use Rattle.msgpack_frames.specs.declared.form.Size.TheVariants.{One, Two, Four, Eight}
use Rattle.msgpack_frames.specs.declared.form.Form.{Form}
use Rattle.msgpack_frames.specs.declared.form.Form.TheVariants.{Nil, Bool as Truth, Small, Unsigned, Signed, Fixed, Sized, Float, Ext, Reserved}
use Rattle.msgpack_frames.specs.Forms.{form, form_in, rows}

abbrev pub IsListed : Form → Type 0
IsListed (Fixed Str n) = n < 32
IsListed (Fixed Bin n) = ⊥
IsListed (Fixed Array n) = n < 16
IsListed (Fixed Map n) = n < 16
IsListed (Small (pos n)) = n < 128
IsListed (Small (negsuc n)) = n < 32
IsListed (Sized Array One) = ⊥
IsListed (Sized Array Two) = Unit {0}
IsListed (Sized Array Four) = Unit {0}
IsListed (Sized Array Eight) = Unit {0}
IsListed (Sized Map One) = ⊥
IsListed (Sized Map Two) = Unit {0}
IsListed (Sized Map Four) = Unit {0}
IsListed (Sized Map Eight) = Unit {0}
IsListed (Sized Str s) = Unit {0}
IsListed (Sized Bin s) = Unit {0}
IsListed Nil = Unit {0}
IsListed (Truth b) = Unit {0}
IsListed (Unsigned s) = Unit {0}
IsListed (Signed s) = Unit {0}
IsListed Float = Unit {0}
IsListed Ext = Unit {0}
IsListed Reserved = Unit {0}

-- Each row's forms are so, from the byte at which the row before it ends.
abbrev AreListed : ℕ → List (ℕ × (ℕ → Form)) → Type 0
AreListed low [] = Unit {0}
AreListed low (row ∷ others) = ((b : ℕ) → low ≤ b → b < row.0 → IsListed (row.1 b)) × AreListed row.0 others

listed_in : (low : ℕ) (table : List (ℕ × (ℕ → Form))) (b : ℕ) → AreListed low table → low ≤ b → IsListed (form_in table b)
listed_in low [] b h le = tt
listed_in low (row ∷ others) b h le =
    cond_both (ltb b row.0) (row.1 b) (form_in others b) IsListed (λ e. h.0 b le (ltb-true b row.0 e)) (λ e. listed_in row.0 others b h.1 (ltb-false b row.0 e))

listed_rows : AreListed 0 rows
listed_rows = (
  λ b le lt. omega arith,
  (
    λ b le lt. omega arith,
    (
      λ b le lt. omega arith,
      (
        λ b le lt. omega arith,
        (
          λ b le lt. tt,
          (
            λ b le lt. tt,
            (
              λ b le lt. tt,
              (
                λ b le lt. tt,
                (
                  λ b le lt. tt,
                  (
                    λ b le lt. tt,
                    (
                      λ b le lt. tt,
                      (
                        λ b le lt. tt,
                        (
                          λ b le lt. tt,
                          (
                            λ b le lt. tt,
                            (
                              λ b le lt. tt,
                              (
                                λ b le lt. tt,
                                (
                                  λ b le lt. tt,
                                  (
                                    λ b le lt. tt,
                                    (
                                      λ b le lt. tt,
                                      (
                                        λ b le lt. tt,
                                        (
                                          λ b le lt. tt,
                                          (
                                            λ b le lt. tt,
                                            (
                                              λ b le lt. tt,
                                              (
                                                λ b le lt. tt,
                                                (
                                                  λ b le lt. tt,
                                                  (
                                                    λ b le lt. tt,
                                                    (
                                                      λ b le lt. tt,
                                                      (
                                                        λ b le lt. tt,
                                                        (
                                                          λ b le lt. tt,
                                                          (λ b le lt. omega arith, tt),
                                                        ),
                                                      ),
                                                    ),
                                                  ),
                                                ),
                                              ),
                                            ),
                                          ),
                                        ),
                                      ),
                                    ),
                                  ),
                                ),
                              ),
                            ),
                          ),
                        ),
                      ),
                    ),
                  ),
                ),
              ),
            ),
          ),
        ),
      ),
    ),
  ),
)

pub listed : (b : ℕ) (f : Form) → form b ≡ f → IsListed f
unfolding form
listed b f e = subst IsListed e (listed_in 0 rows b listed_rows (omega arith))

len_below : (kind : Kind) (n : ℕ) → IsListed (Fixed kind n) → n < 32
len_below Str n h = h
len_below Bin n h = absurd h
len_below Array n h = omega (arith, h)
len_below Map n h = omega (arith, h)

pub fixed_len : (b : ℕ) (kind : Kind) (n : ℕ) → form b ≡ Fixed kind n → n < 32
fixed_len b kind n e = len_below kind n (listed b (Fixed kind n) e)
