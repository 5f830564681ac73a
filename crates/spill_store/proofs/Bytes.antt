-- Elements as bytes and back, and what a disk gives that tells what it holds.
use Rattle.std.proofs.Common.{◌≡◌, ℕ, ℤ, zero, suc, ◌<◌, ◌+◌, ◌*◌, ◌^◌, List, [], ◌∷◌, ◌++◌, length, get_or, take, drop, refl, sym, ap, ap₂, subst, ◌∙◌, arith, append-nil, append_assoc, length-append, length-drop}
use Rattle.std.specs.Prelude.{All, FitsSigned, map, min, slice_index_or}
use Rattle.std.specs.Int.{w64, cast_signed, cast_unsigned, from_le_bytes, to_le_bytes}
use Rattle.std.specs.List.{flat_map}
use Rattle.std.specs.Simd.{first_chunks}
use Rattle.std.proofs.lemmas.Int.{of_z-to_z, to_z-of_z}
use Rattle.std.proofs.lemmas.List.{map-append, take_all, take_more, take-append-drop}
use Rattle.std.proofs.lemmas.List.Concat.{flat_map-append}
use Rattle.std.proofs.lemmas.List.Elements.{All-append, All-tail}
use Rattle.std.proofs.lemmas.List.Folds.{flat_map-map}
use Rattle.std.proofs.lemmas.Nat.{from_le_bytes-to_le_bytes_8, le_bytes_8}
use Rattle.std.proofs.Math.Facts.{Fits-of_z}
use Rattle.sha2.specs.declared.Sha512_256.{Sha512_256}
use Rattle.sha2.specs.Hashers.{Holds512_256}
use Rattle.nd_shape.specs.Block.{Array}
use Rattle.io_edge.specs.Disk.{Copies}
use Rattle.spill_store.specs.Blocks.{block_bytes, cell_bytes, size_of_block, IsBlock}

-- the element with these bytes
abbrev cell : List ℕ → ℤ
cell bytes = cast_signed w64 (from_le_bytes w64 bytes)

cell-bytes : (z : ℤ) → FitsSigned w64 z → cell (cell_bytes z) ≡ z
cell-bytes z fits =
    let b : cast_unsigned w64 z < 2 ^ 64 = omega (arith, Fits-of_z {w = w64} {z = z} fits) in
    ap (cast_signed w64) (from_le_bytes-to_le_bytes_8 (cast_unsigned w64 z) b) ∙ to_z-of_z w64 z fits

-- bytes come back from their element
pub bytes-cell : (bytes : List ℕ) (n : ℕ) (z : ℤ) → length bytes ≡ 8 → ((i : ℕ) → get_or bytes i 0 < 256) → n < 2 ^ 64 → n ≡ from_le_bytes w64 bytes → z ≡ cast_signed w64 n → cell_bytes (cast_signed w64 (cast_unsigned w64 z)) ≡ bytes
bytes-cell bytes n z long each fits is turned =
    let u : cast_unsigned w64 z ≡ n = ap (cast_unsigned w64) turned ∙ of_z-to_z w64 n fits in
    ap (λ m. to_le_bytes w64 (cast_unsigned w64 (cast_signed w64 m))) u ∙ ap (to_le_bytes w64) (of_z-to_z w64 n fits) ∙ le_bytes_8 bytes n long each is

pub length-bytes : (zs : List ℤ) → length (flat_map cell_bytes zs) ≡ 8 * length zs
length-bytes [] = refl
length-bytes (z ∷ zs) = let r = length-bytes zs in let e : length (cell_bytes z) ≡ 8 = refl in omega (arith, r, length-append (cell_bytes z) (flat_map cell_bytes zs), e)

-- elements with the same bytes are the same
pub same_cells : (xs ys : List ℤ) → All (FitsSigned w64) xs → All (FitsSigned w64) ys → flat_map cell_bytes xs ≡ flat_map cell_bytes ys → xs ≡ ys
same_cells [] [] f g e = refl
same_cells [] (y ∷ ys) f g e = absurd (omega (arith, ap length e, length-bytes (y ∷ ys)))
same_cells (x ∷ xs) [] f g e = absurd (omega (arith, ap length e, length-bytes (x ∷ xs)))
same_cells (x ∷ xs) (y ∷ ys) f g e =
    let first : x ≡ y = sym (cell-bytes x (f 0 x (omega arith))) ∙ ap (λ bs. cell (take 8 bs)) e ∙ cell-bytes y (g 0 y (omega arith)) in
    ap₂ (λ z zs. z ∷ zs) first (same_cells xs ys (All-tail (FitsSigned w64) x xs f) (All-tail (FitsSigned w64) y ys g) (ap (drop 8) e))

pub size_is : (a : Array) → IsBlock a → length (block_bytes a) ≡ size_of_block a
size_is a whole = length-bytes a.cells ∙ ap (λ n. 8 * n) whole.count

-- all words of eight bytes are the bytes
pub flat_words : (k : ℕ) (bytes : List ℕ) → length bytes ≡ 8 * k → flat_map (λ x. x) (first_chunks 8 k bytes) ≡ bytes
flat_words zero [] h = refl
flat_words zero (b ∷ bytes) h = absurd (omega arith)
flat_words (suc k) bytes h =
    let n : length (drop 8 bytes) ≡ 8 * k = length-drop 8 bytes ∙ omega arith in
    ap (λ rest. take 8 bytes ++ rest) (flat_words k (drop 8 bytes) n) ∙ take-append-drop 8 bytes

-- the words of elements are their bytes
pub flat_cells : (zs : List ℤ) → flat_map (λ x. x) (map cell_bytes zs) ≡ flat_map cell_bytes zs
flat_cells zs = flat_map-map (λ x. x) cell_bytes zs

-- the bytes of one element more
pub bytes_more : (cells : List ℤ) (i : ℕ) (d : ℤ) (w : List ℕ) → i < length cells → w ≡ cell_bytes (get_or cells i d) → flat_map cell_bytes (take i cells) ++ w ≡ flat_map cell_bytes (take (i + 1) cells)
bytes_more cells i d w h e =
    ap (λ bs. flat_map cell_bytes (take i cells) ++ bs) (e ∙ sym (append-nil (cell_bytes (get_or cells i d)))) ∙ sym (flat_map-append cell_bytes (take i cells) (get_or cells i d ∷ []))
    ∙ sym (ap (flat_map cell_bytes) (take_more cells i d h))

-- one word more
pub words_more : (cells new : List ℤ) (words : List (List ℕ)) (i : ℕ) (w : List ℕ) (z : ℤ) → i < length words → map cell_bytes cells ≡ take i words → cell_bytes z ≡ w → w ≡ get_or words i w → new ≡ cells ++ z ∷ [] → map cell_bytes new ≡ take (i + 1) words
words_more cells new words i w z h before is at more =
    ap (map cell_bytes) more ∙ map-append cell_bytes cells (z ∷ []) ∙ ap₂ (λ xs x. xs ++ x ∷ []) before (is ∙ at) ∙ sym (take_more words i w h)

pub fits_more : (cells new : List ℤ) (z : ℤ) → All (FitsSigned w64) cells → FitsSigned w64 z → new ≡ cells ++ z ∷ [] → All (FitsSigned w64) new
fits_more cells new z before fits more = subst (λ zs. All (FitsSigned w64) zs) (sym more) (All-append (FitsSigned w64) cells (z ∷ []) before (λ k d h. one k d h))
  where
    one : (k : ℕ) (d : ℤ) → k < 1 → FitsSigned w64 (slice_index_or (z ∷ []) k d)
    one zero d h = fits
    one (suc k) d h = absurd (omega arith)

-- where the buffer is as long as the bytes, it holds them
pub copied : (bytes old new : List ℕ) (n : ℕ) → Copies bytes old new n → length old ≡ length bytes → length new ≡ length old → new ≡ bytes
copied bytes old new n c same long =
    let m : min n (length old) ≡ length new = omega (arith, c.count) in
    sym (take_all (min n (length old)) new (omega arith)) ∙ c.front ∙ take_all (length old) bytes (omega arith)

-- a hasher was fed the elements before the rest
pub record Fed (cells rest : List ℤ) (hasher : Sha512_256) : Type 0 where
  pub front : List ℤ
  pub split : front ++ rest ≡ cells
  pub holds : Holds512_256 hasher (flat_map cell_bytes front)
  pub fits : All (FitsSigned w64) front

-- before any piece
pub fed_none : (cells : List ℤ) (hasher : Sha512_256) → Holds512_256 hasher [] → Fed cells cells hasher
fed_none cells hasher h = record { front = []; split = refl; holds = h; fits = λ k d l. absurd (omega (arith, l)) }

-- after one piece more
pub fed_more : (cells rest piece behind : List ℤ) (words : List (List ℕ)) (old new : Sha512_256) → Fed cells rest old → rest ≡ piece ++ behind
    → words ≡ map cell_bytes piece → All (FitsSigned w64) piece
    → ((m : List ℕ) → Holds512_256 old m → Holds512_256 new (m ++ flat_map (λ x. x) words)) → Fed cells behind new
fed_more cells rest piece behind words old new fed cut are fits fold = record {
  front = fed.front ++ piece;
  split = append_assoc fed.front piece behind ∙ ap (λ r. fed.front ++ r) (sym cut) ∙ fed.split;
  holds =
      let bytes : flat_map (λ x. x) words ≡ flat_map cell_bytes piece = ap (flat_map (λ x. x)) are ∙ flat_cells piece in
      subst (Holds512_256 new) (ap (λ b. flat_map cell_bytes fed.front ++ b) bytes ∙ sym (flat_map-append cell_bytes fed.front piece)) (fold (flat_map cell_bytes fed.front) fed.holds);
  fits = All-append (FitsSigned w64) fed.front piece fed.fits fits;
}

-- where no rest is left, all were fed
pub fed_all : (cells rest : List ℤ) (hasher : Sha512_256) → Fed cells rest hasher → length rest ≡ 0 → (Holds512_256 hasher (flat_map cell_bytes cells)) × All (FitsSigned w64) cells
fed_all cells [] hasher fed none =
    let all : fed.front ≡ cells = sym (append-nil fed.front) ∙ fed.split in
    (subst (λ cs. Holds512_256 hasher (flat_map cell_bytes cs)) all fed.holds, subst (All (FitsSigned w64)) all fed.fits)
fed_all cells (x ∷ rest) hasher fed none = absurd (omega (arith, none))
