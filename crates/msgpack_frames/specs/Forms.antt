-- What the first byte of a value says, by the MessagePack specification.
use Rattle.std.specs.Prelude.{ℕ, ◌-◌, ◌^◌, List, [], ◌∷◌, pos, negsuc, true, false, nat_lt, if◌then◌else◌}
use Rattle.std.specs.Int.{Width, w8, w16, w32, w64}
use Rattle.msgpack_frames.specs.declared.form.Size.{Size}
use Rattle.msgpack_frames.specs.declared.form.Size.TheVariants.{One, Two, Four, Eight}
use Rattle.msgpack_frames.specs.declared.form.Kind.TheVariants.{Str, Bin, Array, Map}
use Rattle.msgpack_frames.specs.declared.form.Form.{Form}
use Rattle.msgpack_frames.specs.declared.form.Form.TheVariants.{Nil, Bool, Small, Unsigned, Signed, Fixed, Sized, Float, Ext, Reserved}

abbrev pub width : Size → Width
width One = w8
width Two = w16
width Four = w32
width Eight = w64

-- What a number of this size is below.
abbrev pub bound : Size → ℕ
bound One = 2 ^ 8
bound Two = 2 ^ 16
bound Four = 2 ^ 32
bound Eight = 2 ^ 64

-- Each row holds for the bytes below its number that no row above it takes.
abbrev pub rows : List (ℕ × (ℕ → Form))
rows =
    (0x80, λ b. Small (pos b)) ∷ (0x90, λ b. Fixed Map (b - 0x80)) ∷ (0xa0, λ b. Fixed Array (b - 0x90)) ∷ (0xc0, λ b. Fixed Str (b - 0xa0))
    ∷ (0xc1, λ _. Nil) ∷ (0xc2, λ _. Reserved) ∷ (0xc3, λ _. Bool false) ∷ (0xc4, λ _. Bool true)
    ∷ (0xc5, λ _. Sized Bin One) ∷ (0xc6, λ _. Sized Bin Two) ∷ (0xc7, λ _. Sized Bin Four)
    ∷ (0xca, λ _. Ext) ∷ (0xcc, λ _. Float)
    ∷ (0xcd, λ _. Unsigned One) ∷ (0xce, λ _. Unsigned Two) ∷ (0xcf, λ _. Unsigned Four) ∷ (0xd0, λ _. Unsigned Eight)
    ∷ (0xd1, λ _. Signed One) ∷ (0xd2, λ _. Signed Two) ∷ (0xd3, λ _. Signed Four) ∷ (0xd4, λ _. Signed Eight)
    ∷ (0xd9, λ _. Ext)
    ∷ (0xda, λ _. Sized Str One) ∷ (0xdb, λ _. Sized Str Two) ∷ (0xdc, λ _. Sized Str Four)
    ∷ (0xdd, λ _. Sized Array Two) ∷ (0xde, λ _. Sized Array Four)
    ∷ (0xdf, λ _. Sized Map Two) ∷ (0xe0, λ _. Sized Map Four)
    ∷ (0x100, λ b. Small (negsuc (0xff - b))) ∷ []

abbrev pub form_in : List (ℕ × (ℕ → Form)) → ℕ → Form
form_in [] b = Reserved
form_in (row ∷ others) b = if nat_lt b row.0 then row.1 b else form_in others b

-- The form of a value that begins with byte b.
unfoldable pub form : ℕ → Form
form b = form_in rows b
