-- A text is read where its bytes are UTF-8.
use Rattle.std.proofs.Common.{◌≡◌, ℕ, ◌≤◌, List, length, take, drop, Ok, Err, refl, true, false}
use Rattle.std.specs.Str.{IsUtf8, is_utf8}
use Rattle.std.proofs.lemmas.Bool.{le-ltb}
use Rattle.std.proofs.lemmas.Str.{IsUtf8-from_is_utf8, is_utf8-from_IsUtf8}
use Rattle.msgpack_frames.specs.declared.error.MpError.TheVariants.{NotUtf8}
use Rattle.msgpack_frames.specs.Data.{text}
use Rattle.msgpack_frames.specs.Reading.{text_at}

pub is_utf8-false : (bs : List ℕ) → (IsUtf8 bs → ⊥) → is_utf8 bs ≡ false
is_utf8-false bs h = elim (is_utf8 bs) as (λ b. is_utf8 bs ≡ b → b ≡ false) [ true ↦ λ e. absurd (h (IsUtf8-from_is_utf8 bs e)) | false ↦ λ e. refl ] refl

pub text_read : (at n : ℕ) (bytes : List ℕ) → n ≤ length bytes → IsUtf8 (take n bytes) → text_at at n bytes ≡ Ok (text (take n bytes), drop n bytes)
unfolding text_at
text_read at n bytes le utf8 = rw (le-ltb (length bytes) n le, is_utf8-from_IsUtf8 (take n bytes) utf8) refl

pub text_refused : (at n : ℕ) (bytes : List ℕ) → n ≤ length bytes → (IsUtf8 (take n bytes) → ⊥) → text_at at n bytes ≡ Err (NotUtf8 at)
unfolding text_at
text_refused at n bytes le ill = rw (le-ltb (length bytes) n le, is_utf8-false (take n bytes) ill) refl
