-- A file holds one array, and is not refused where it holds one.
use Rattle.std.proofs.Common.{◌≡◌, ◌≢◌, ℕ, pos, ◌<◌, List, [], length, take, get_or, ap, sym, ◌∙◌, subst, arith, inl, inr}
use Rattle.std.specs.Prelude.{◌⊎◌, ◌*◌, slice_index}
use Rattle.std.proofs.lemmas.List.{ext_get_or, get_or-take, length-take}
use Rattle.nd_shape.specs.Block.{Array}
use Rattle.nd_shape.specs.Index.{IsIn, place, index_at}
use Rattle.nd_shape.specs.Shape.{elements, IsShape}
use Rattle.nd_shape.proofs.Places.{index_at-in, place-index_at}
use Rattle.npy_codec.specs.declared.head.Head.{Head}
use Rattle.npy_codec.specs.declared.error.NpyError.{NpyError}
use Rattle.npy_codec.specs.declared.error.NpyError.TheVariants.{NotNpy, Version, HeaderLimit, Truncated, HeaderText, Descr, ShapeLimit, ReadFault, OutOfMemory}
use Rattle.npy_codec.specs.Files.{CellType, HasHead, IsDescr, IsKnown, IsNpy, IsRefusedAs, data_bytes, is_wide, text_of, magic}
use Rattle.npy_codec.specs.Regions.{HoldsRegion, whole}
use Rattle.npy_codec.proofs.Types.{one_type}
use Rattle.npy_header.specs.Headers.{Fields}
use Rattle.job_run.specs.Inputs.{HoldArrays, IsOfFile}
use Rattle.job_run.proofs.OneHeader.{one_header}

-- ## One type

same_type : (f g : Fields) (a b : CellType) → f ≡ g → IsDescr f.descr a → IsDescr g.descr b → a ≡ b
same_type f g a b e x y = one_type g.descr a b (subst (λ (h : Fields). IsDescr h.descr a) e x) y

-- ## One head

abbrev type_of : Head → CellType
type_of head = record { width = head.width; big = head.big }

pub one_head : (bytes : List ℕ) (a b : Head) → HasHead bytes a → HasHead bytes b → a ≡ b
one_head bytes a b x y =
    let f : x.fields ≡ y.fields = one_header (is_wide bytes) (text_of bytes) x.fields y.fields x.declares.header y.declares.header in
    let t : type_of a ≡ type_of b = same_type x.fields y.fields (type_of a) (type_of b) f x.descr y.descr in
    let w : a.width ≡ b.width = ap (λ (u : CellType). u.width) t in
    let r : a.big ≡ b.big = ap (λ (u : CellType). u.big) t in
    let s : a.shape ≡ b.shape = x.shape ∙ (ap (λ (g : Fields). g.shape) f ∙ sym y.shape) in
    let o : a.fortran ≡ b.fortran = x.fortran ∙ (ap (λ (g : Fields). g.fortran) f ∙ sym y.fortran) in
    let d : a.data_at ≡ b.data_at = x.data_at ∙ sym y.data_at in
    λ i. record { shape = s i; fortran = o i; data_at = d i; width = w i; big = r i }

-- ## One array

same_cells : (bytes : List ℕ) (head : Head) (a b : Array) → HoldsRegion bytes head (whole head.shape) a → HoldsRegion bytes head (whole head.shape) b → a.cells ≡ b.cells
same_cells bytes head a b x y = ext_get_or (pos 0) a.cells b.cells (x.count ∙ sym y.count) (λ p h.
    let within : p < elements head.shape = omega (arith, h, x.count) in
    let i : List ℕ = index_at head.shape p in
    let inside : IsIn head.shape i = index_at-in head.shape p within in
    let at : place head.shape i ≡ p = place-index_at head.shape p within in
    ap (λ q. get_or a.cells q (pos 0)) (sym at) ∙ (x.each i inside ∙ (sym (y.each i inside) ∙ ap (λ q. get_or b.cells q (pos 0)) at)))

pub one_array : (bytes : List ℕ) (a b : Array) → IsNpy bytes a → IsNpy bytes b → a ≡ b
one_array bytes a b x y =
    let h : y.head ≡ x.head = one_head bytes y.head x.head y.front x.front in
    let P : Head → Type 0 = λ g. HoldsRegion bytes g (whole g.shape) b in
    let z : HoldsRegion bytes x.head (whole x.head.shape) b = subst P h y.content in
    let s : a.shape ≡ b.shape = x.content.shape ∙ sym z.shape in
    let c : a.cells ≡ b.cells = same_cells bytes x.head a b x.content z in
    λ i. record { shape = s i; cells = c i }

-- ## No refusal

six : (bytes : List ℕ) (at : ℕ) → at < 6 → take 6 bytes ≡ magic → (length bytes ≡ at) ⊎ ((at < length bytes) × (slice_index bytes at ≢ slice_index magic at)) → ⊥
six bytes at h begin either = elim either [
  | inl short ↦ absurd (omega (arith, h, short, ap length begin, length-take 6 bytes))
  | inr differs ↦ differs.1 (sym (get_or-take 6 bytes at 0 h) ∙ ap (λ l. get_or l at 0) begin)
]

-- the data's bytes that are asked for are those of the head
same_data : (f : Fields) (type : CellType) (head : Head) → type ≡ type_of head → f.shape ≡ head.shape → type.width * elements f.shape ≡ data_bytes head
same_data f type head t s = ap (λ (u : CellType). u.width * elements f.shape) t ∙ ap (λ (dims : List ℕ). head.width * elements dims) s

pub not_refused : (bytes : List ℕ) (head : Head) (error : NpyError) → HasHead bytes head → IsOfFile error → IsRefusedAs bytes error → ⊥
not_refused bytes head (NotNpy at) has is refused = six bytes at refused.within has.declares.text.fixed.version.begin refused.here
not_refused bytes head (Version major minor) has is refused =
    let major_known : IsKnown major (slice_index bytes 7) = subst (λ m. IsKnown m (slice_index bytes 7)) (sym refused.major_is) has.declares.text.fixed.version.known in
    refused.other (subst (λ m. IsKnown major m) (sym refused.minor_is) major_known)
not_refused bytes head (HeaderLimit len) has is refused = absurd (omega (arith, refused.len_is, refused.passed, has.declares.text.limit))
not_refused bytes head (Truncated h needs) has is refused = elim refused [
  | inl version ↦ absurd (omega (arith, version.has_is, version.needs_is, version.short, has.declares.text.fixed.version.long))
  | inr later ↦ elim later [
    | inl fixed ↦ absurd (omega (arith, fixed.has_is, fixed.needs_is, fixed.short, has.declares.text.fixed.long))
    | inr other ↦ elim other [
      | inl text ↦ absurd (omega (arith, text.has_is, text.needs_is, text.short, has.declares.text.whole))
      | inr file ↦
          let f : file.fields ≡ has.fields = one_header (is_wide bytes) (text_of bytes) file.fields has.fields file.declares.header has.declares.header in
          let t : file.type ≡ type_of head = same_type file.fields has.fields file.type (type_of head) f file.descr has.descr in
          let s : file.fields.shape ≡ head.shape = ap (λ (g : Fields). g.shape) f ∙ sym has.shape in
          absurd (omega (arith, file.has_is, file.needs_is, file.short, has.room, has.data_at, same_data file.fields file.type head t s))
    ]
  ]
]
not_refused bytes head (HeaderText at) has is refused = refused.refused.no_header has.fields has.declares.header
not_refused bytes head Descr has is refused =
    let f : has.fields ≡ refused.fields = one_header (is_wide bytes) (text_of bytes) has.fields refused.fields has.declares.header refused.declares.header in
    refused.other (type_of head) (subst (λ (g : Fields). IsDescr g.descr (type_of head)) f has.descr)
not_refused bytes head ShapeLimit has is refused =
    let f : has.fields ≡ refused.fields = one_header (is_wide bytes) (text_of bytes) has.fields refused.fields has.declares.header refused.declares.header in
    refused.passed (subst (λ (g : Fields). IsShape g.shape) f has.limits)
not_refused bytes head ReadFault has is refused = is
not_refused bytes head OutOfMemory has is refused = is

-- ## All inputs

pub one_list : (shapes contents : List (List ℕ)) (a b : List Array) → HoldArrays shapes contents a → HoldArrays shapes contents b → a ≡ b
one_list shapes contents a b x y = ext_get_or (record { shape = []; cells = [] }) a b (x.count ∙ sym y.count) (λ k h.
    let within : k < length shapes = omega (arith, h, x.count) in
    one_array (get_or contents k []) (get_or a k (record { shape = []; cells = [] })) (get_or b k (record { shape = []; cells = [] })) (x.each k within).is (y.each k within).is)
