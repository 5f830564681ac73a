-- The file that the writer begins is one that is read as the same array.
use Rattle.std.proofs.Common.{◌≡◌, ℕ, ℤ, pos, zero, suc, ◌<◌, ◌+◌, ◌-◌, ◌*◌, ◌/◌, ◌%◌, ◌^◌, List, [], ◌∷◌, ◌++◌, length, take, drop, get_or, refl, ap, ap₂, sym, ◌∙◌, arith, subst, append_assoc, length-append, inl}
use Rattle.std.specs.Prelude.{replicate, false, All, FitsSigned}
use Rattle.std.specs.Int.{w64, cast_unsigned, cast_signed, from_le_bytes}
use Rattle.std.proofs.lemmas.Int.{to_z-of_z}
use Rattle.std.proofs.lemmas.Nat.{from_le_bytes-to_le_bytes_8}
use Rattle.std.proofs.Math.Facts.{Fits-of_z}
use Rattle.std.proofs.lemmas.List.{length-replicate, take-append-le, take_all}
use Rattle.nd_shape.specs.Shape.{elements, IsShape}
use Rattle.nd_shape.specs.Index.{IsIn, place}
use Rattle.nd_shape.specs.Region.{moved}
use Rattle.nd_shape.proofs.Places.{place-below, IsIn-length}
use Rattle.npy_codec.specs.declared.head.Head.{Head}
use Rattle.npy_codec.specs.Npy.{dictionary, spaces_after, text_len, header, cell, cell_bytes, cells_bytes, npy}
use Rattle.npy_header.specs.Headers.{IsHeader}
use Rattle.npy_codec.specs.Files.{little_eight, HasHead, IsNpy, text_len_at, text_of}
use Rattle.npy_codec.specs.Regions.{whole}
use Rattle.npy_codec.proofs.WriterLemmas.{written_text, written_fields, is_written_header}

-- ---- elements

cell-cell_bytes : (z : ℤ) → FitsSigned w64 z → cell (cell_bytes z) ≡ z
cell-cell_bytes z fits =
    let b : cast_unsigned w64 z < 2 ^ 64 = omega (arith, Fits-of_z {w = w64} {z = z} fits) in
    ap (cast_signed w64) (from_le_bytes-to_le_bytes_8 (cast_unsigned w64 z) b) ∙ to_z-of_z w64 z fits

pub length-cells_bytes : (zs : List ℤ) → length (cells_bytes zs) ≡ 8 * length zs
length-cells_bytes [] = refl
length-cells_bytes (z ∷ zs) = let r = length-cells_bytes zs in let e : length (cell_bytes z) ≡ 8 = refl in omega (arith, r, length-append (cell_bytes z) (cells_bytes zs), e)

drop-append : (xs ys : List ℕ) (n k : ℕ) → length xs ≡ n → drop (n + k) (xs ++ ys) ≡ drop k ys
drop-append [] ys n k e = ap (λ m. drop m ys) (omega (arith, e))
drop-append (x ∷ xs) ys zero k e = absurd (omega arith)
drop-append (x ∷ xs) ys (suc n) k e = let s : suc n + k ≡ suc (n + k) = omega arith in ap (λ m. drop m (x ∷ (xs ++ ys))) s ∙ drop-append xs ys n k (omega arith)

cell_of : (zs : List ℤ) (p : ℕ) → p < length zs → take 8 (drop (8 * p) (cells_bytes zs)) ≡ cell_bytes (get_or zs p (pos 0))
cell_of [] p h = absurd (omega arith)
cell_of (z ∷ zs) zero h = first_of (cell_bytes z) (cells_bytes zs) refl
  where
    first_of : (xs ys : List ℕ) → length xs ≡ 8 → take 8 (xs ++ ys) ≡ xs
    first_of xs ys e = take-append-le 8 xs ys (omega arith) ∙ take_all 8 xs (omega arith)
cell_of (z ∷ zs) (suc p) h =
    let e : 8 * suc p ≡ 8 + 8 * p = omega arith in
    ap (λ m. take 8 (drop m (cell_bytes z ++ cells_bytes zs))) e ∙ ap (take 8) (drop-append (cell_bytes z) (cells_bytes zs) 8 (8 * p) refl) ∙ cell_of zs p (omega arith)

-- ---- the front

-- the ten fixed bytes for a text of this length
abbrev pub fixed_for : ℕ → List ℕ
fixed_for n = 147 ∷ 78 ∷ 85 ∷ 77 ∷ 80 ∷ 89 ∷ 1 ∷ 0 ∷ n % 256 ∷ n / 256 ∷ []

parts : (dims : List ℕ) (zs : List ℤ) → npy dims zs ≡ fixed_for (text_len (dictionary dims)) ++ (written_text dims ++ cells_bytes zs)
parts dims zs = apart (dictionary dims) (replicate (spaces_after (length (dictionary dims))) 32) (cells_bytes zs) (fixed_for (text_len (dictionary dims)))
  where
    apart : (text spaces data' fixed : List ℕ) → (fixed ++ text ++ spaces ++ 10 ∷ []) ++ data' ≡ fixed ++ ((text ++ spaces ++ 10 ∷ []) ++ data')
    apart text spaces data' fixed = simp append_assoc

written_len : (dims : List ℕ) → length (written_text dims) ≡ text_len (dictionary dims)
written_len dims = simp (length-append, length-replicate) (omega arith)

header_len : (dims : List ℕ) → length (header dims) ≡ 10 + text_len (dictionary dims)
header_len dims = simp (length-append, length-replicate) (omega arith)

fixed_len_is : (n : ℕ) (rest : List ℕ) → n < 2 ^ 16 → text_len_at (fixed_for n ++ rest) ≡ n
fixed_len_is n rest h = div_mod n
  where
    div_mod : (n : ℕ) → n % 256 + 256 * (n / 256) + 0 ≡ n
    div_mod n = omega arith

text_is : (n : ℕ) (text rest : List ℕ) → n < 2 ^ 16 → length text ≡ n → text_of (fixed_for n ++ (text ++ rest)) ≡ text
text_is n text rest h e = ap (λ m. take m (text ++ rest)) (fixed_len_is n (text ++ rest) h) ∙ take-append-le n text rest (omega arith) ∙ take_all n text (omega arith)

has_written_head : (dims : List ℕ) (zs : List ℤ) → IsShape dims → text_len (dictionary dims) < 2 ^ 16 → length zs ≡ elements dims →
    HasHead (fixed_for (text_len (dictionary dims)) ++ (written_text dims ++ cells_bytes zs)) (record { shape = dims; fortran = false; data_at = length (header dims); width = 8; big = false })
has_written_head dims zs shape small size =
    let n = text_len (dictionary dims) in
    let bytes = fixed_for n ++ (written_text dims ++ cells_bytes zs) in
    let t : text_of bytes ≡ written_text dims = text_is n (written_text dims) (cells_bytes zs) small (written_len dims) in
    let m : text_len_at bytes ≡ n = fixed_len_is n (written_text dims ++ cells_bytes zs) small in
    let total : length bytes ≡ 10 + (n + 8 * elements dims) =
    length-append (fixed_for n) (written_text dims ++ cells_bytes zs) ∙ ap (λ k. 10 + k) (length-append (written_text dims) (cells_bytes zs) ∙ ap₂ (λ a b. a + b) (written_len dims) (length-cells_bytes zs ∙ ap (λ k. 8 * k) size)) in
    record {
      fields = written_fields dims;
      declares = record {
        text = record {
          fixed = record { version = record { begin = refl; long = omega (arith, total); known = (inl refl, refl) }; long = omega (arith, total) };
          limit = omega (arith, m);
          whole = omega (arith, total, m);
        };
        header = subst (λ x. IsHeader false x (written_fields dims)) (sym t) (is_written_header dims shape);
      };
      descr = little_eight;
      limits = shape;
      shape = refl;
      fortran = refl;
      data_at = header_len dims ∙ ap (λ k. 10 + k) (sym m);
      room = omega (arith, total, header_len dims);
    }

pub moved_by_nothing : (dims i : List ℕ) → length i ≡ length dims → moved (replicate (length dims) 0) i ≡ i
moved_by_nothing [] [] e = refl
moved_by_nothing [] (k ∷ i) e = absurd (omega arith)
moved_by_nothing (d ∷ dims) [] e = absurd (omega arith)
moved_by_nothing (d ∷ dims) (k ∷ i) e = ap₂ (λ a b. a ∷ b) (omega arith) (moved_by_nothing dims i (omega arith))

-- the file of an array is a file of that array
pub is_npy : (dims : List ℕ) (zs : List ℤ) → IsShape dims → text_len (dictionary dims) < 2 ^ 16 → length zs ≡ elements dims → All (FitsSigned w64) zs → IsNpy (npy dims zs) (record { shape = dims; cells = zs })
is_npy dims zs shape small size fit =
    let head : Head = record { shape = dims; fortran = false; data_at = length (header dims); width = 8; big = false } in
    record {
      head = head;
      front = subst (λ bytes. HasHead bytes head) (sym (parts dims zs)) (has_written_head dims zs shape small size);
      content = record {
        shape = refl;
        count = size;
        each = λ i i_in.
            let p = place dims i in
            let p_in : p < length zs = subst (λ n. p < n) (sym size) (place-below dims i i_in) in
            let m : moved (replicate (length dims) 0) i ≡ i = moved_by_nothing dims i (IsIn-length dims i i_in) in
            sym (ap (λ j. cell (take 8 (drop (length (header dims) + 8 * place dims j) (npy dims zs)))) m
            ∙ ap (λ xs. cell (take 8 xs)) (drop-append (header dims) (cells_bytes zs) (length (header dims)) (8 * p) refl)
            ∙ ap cell (cell_of zs p p_in)
            ∙ cell-cell_bytes (get_or zs p (pos 0)) (fit p (pos 0) p_in));
      };
    }
