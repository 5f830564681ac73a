-- What the writer writes is a header that says the array's shape, and a file that has it.
use Rattle.std.proofs.Common.{◌≡◌, ℕ, zero, suc, ◌≤◌, ◌<◌, ◌+◌, ◌-◌, ◌*◌, ◌/◌, ◌%◌, ◌^◌, inl, inr, List, [], ◌∷◌, ◌++◌, length, refl, sym, ◌∙◌, arith, append_assoc, codes}
use Rattle.std.specs.Prelude.{replicate, false, All}
use Rattle.std.specs.Fmt.{decimal}
use Rattle.std.proofs.lemmas.Fmt.{decimal_by_steps}
use Rattle.nd_shape.specs.Shape.{IsShape, shape_text, comma_list}
use Rattle.npy_header.specs.Headers.{ascii, ends, Fields, IsHeader, IsNumber, IsDigit, AllBytes, AreSpaces, AreAxes, IsTuple, IsItem, IsInside, descr, fortran, shape, single}
use Rattle.npy_header.specs.Headers.{decimal as value_of}
use Rattle.npy_codec.specs.Npy.{dictionary, spaces_after}

-- ---- numbers

value_of-snoc : (so_far : ℕ) (w : List ℕ) (d : ℕ) → value_of so_far (w ++ d ∷ []) ≡ 10 * value_of so_far w + (d - 48)
value_of-snoc so_far [] d = refl
value_of-snoc so_far (b ∷ w) d = value_of-snoc (10 * so_far + (b - 48)) w d

AllBytes-snoc : (w : List ℕ) (d : ℕ) → AllBytes IsDigit w → IsDigit d → AllBytes IsDigit (w ++ d ∷ [])
AllBytes-snoc [] d h i = (i, tt)
AllBytes-snoc (b ∷ w) d h i = (h.0, AllBytes-snoc w d h.1 i)

one_digit : (n : ℕ) → n < 10 → IsNumber n ((48 + n) ∷ [])
one_digit zero h = inl (refl, refl, refl)
one_digit (suc n) h = inr (record { low = omega arith; high = omega arith }, λ e. absurd (omega (arith, e)), tt, omega arith)

more_digits : (n : ℕ) (ds : List ℕ) → 10 ≤ n → IsNumber (n / 10) ds → IsNumber n (ds ++ ((48 + n % 10) ∷ []))
more_digits n [] h i = absurd i
more_digits n (b ∷ w) h i =
    elim i [
      | inl z ↦ let e : n / 10 ≡ 0 = z.2 in absurd (omega (arith, e))
      | inr s ↦
          let v : n / 10 ≡ value_of 0 (b ∷ w) = s.3 in
          let d : IsDigit (48 + n % 10) = record { low = omega arith; high = omega arith } in
          let e : value_of 0 (b ∷ (w ++ (48 + n % 10) ∷ [])) ≡ 10 * value_of 0 (b ∷ w) + (48 + n % 10 - 48) = value_of-snoc (10 * 0 + (b - 48)) w (48 + n % 10) in
          inr (s.0, s.1, AllBytes-snoc w (48 + n % 10) s.2 d, value_is n (value_of 0 (b ∷ w)) v ∙ sym e)
    ]
  where
    value_is : (n v : ℕ) → n / 10 ≡ v → n ≡ 10 * v + (48 + n % 10 - 48)
    value_is n v e = omega (arith, e)

is_number : (n : ℕ) → n < 2 ^ 64 → IsNumber n (decimal n)
is_number n h = decimal_by_steps (λ m ds. IsNumber m ds) one_digit more_digits n h

-- ---- shapes

are_axes : (n : ℕ) (ns : List ℕ) → All (λ m. m ≤ 2 ^ 31) (n ∷ ns) → AreAxes (n ∷ ns) (comma_list (n ∷ ns) ++ codes ")")
are_axes n [] h =
    let small : n ≤ 2 ^ 31 = h 0 0 (omega arith) in
    (decimal n, [], codes ")", is_number n (omega arith), tt, refl, inl (refl, refl))
are_axes n (m ∷ ns) h =
    let small : n ≤ 2 ^ 31 = h 0 0 (omega arith) in
    let rest = are_axes m ns (λ k d k_in. h (suc k) d (omega arith)) in (
      decimal n,
      [],
      codes ", " ++ (comma_list (m ∷ ns) ++ codes ")"),
      is_number n (omega arith),
      tt,
      apart (decimal n) (comma_list (m ∷ ns)),
      inr (32 ∷ [], comma_list (m ∷ ns) ++ codes ")", (refl, tt), refl, rest),
    )
  where
    apart : (d c : List ℕ) → (d ++ codes ", " ++ c) ++ codes ")" ≡ d ++ ([] ++ (codes ", " ++ (c ++ codes ")")))
    apart d c = simp append_assoc

is_tuple : (dims : List ℕ) → All (λ m. m ≤ 2 ^ 31) dims → IsTuple dims (shape_text dims)
is_tuple [] h = ([], tt, refl)
is_tuple (n ∷ []) h =
    let small : n ≤ 2 ^ 31 = h 0 0 (omega arith) in
    ([], decimal n, [], [], codes ")", tt, is_number n (omega arith), tt, tt, refl, apart (decimal n))
  where
    apart : (d : List ℕ) → codes "(" ++ d ++ codes ",)" ≡ 40 ∷ ([] ++ (d ++ ([] ++ 44 ∷ ([] ++ codes ")"))))
    apart d = refl
is_tuple (n ∷ m ∷ ns) h =
    let small : n ≤ 2 ^ 31 = h 0 0 (omega arith) in
    ([], decimal n, [], 32 ∷ [], comma_list (m ∷ ns) ++ codes ")", tt, is_number n (omega arith), tt, (refl, tt), are_axes m ns (λ k d k_in. h (suc k) d (omega arith)), apart (decimal n) (comma_list (m ∷ ns)))
  where
    apart : (d c : List ℕ) → codes "(" ++ (d ++ codes ", " ++ c) ++ codes ")" ≡ 40 ∷ ([] ++ (d ++ ([] ++ 44 ∷ ((32 ∷ []) ++ (c ++ codes ")")))))
    apart d c = simp append_assoc

-- ---- the header

are_spaces : (n : ℕ) → AreSpaces (replicate n 32)
are_spaces zero = tt
are_spaces (suc n) = (refl, are_spaces n)

-- <i8
abbrev pub int64_descr : List ℕ
int64_descr = 60 ∷ 105 ∷ 56 ∷ []

abbrev pub written_fields : List ℕ → Fields
written_fields dims = record { descr = int64_descr; fortran = false; shape = dims }

-- the writer's text
abbrev pub written_text : List ℕ → List ℕ
written_text dims = dictionary dims ++ replicate (spaces_after (length (dictionary dims))) 32 ++ 10 ∷ []

pub is_written_header : (dims : List ℕ) → IsShape dims → IsHeader false (written_text dims) (written_fields dims)
unfolding dictionary
is_written_header dims h = record {
  first = descr int64_descr;
  others = fortran false ∷ shape dims ∷ [];
  spaces = [];
  item = codes "'descr': '<i8'";
  behind = [];
  more = codes ", 'fortran_order': False, 'shape': " ++ (shape_text dims ++ codes ", ");
  padding = replicate (spaces_after (length (dictionary dims))) 32;
  each_once = (refl, (refl, (refl, refl)));
  fields = refl;
  spaces_ok = tt;
  item_ok = record {
    quote = single;
    before = [];
    after = 32 ∷ [];
    value = codes "'<i8'";
    before_ok = tt;
    after_ok = (refl, tt);
    value_ok = (single, ascii 60 (105 ∷ 56 ∷ []) less (ascii 105 (56 ∷ []) letter_i (ascii 56 [] eight ends)), refl);
    text = refl;
  };
  behind_ok = tt;
  more_ok = (
    32 ∷ [],
    codes "'fortran_order': False",
    [],
    codes ", 'shape': " ++ (shape_text dims ++ codes ", "),
    (refl, tt),
    order_item,
    tt,
    (32 ∷ [], codes "'shape': " ++ shape_text dims, [], codes ", ", (refl, tt), shape_item dims (is_tuple dims h.lengths), tt, inr (32 ∷ [], (refl, tt), refl), shape_apart (shape_text dims)),
    refl,
  );
  padding_ok = are_spaces (spaces_after (length (dictionary dims)));
  text = whole (shape_text dims) (replicate (spaces_after (length (dictionary dims))) 32);
}
  where
    less : IsInside single 60
    less = record { low = omega arith; high = omega arith; no_quote = λ e. omega (arith, e); no_backslash = λ e. omega (arith, e) }

    letter_i : IsInside single 105
    letter_i = record { low = omega arith; high = omega arith; no_quote = λ e. omega (arith, e); no_backslash = λ e. omega (arith, e) }

    eight : IsInside single 56
    eight = record { low = omega arith; high = omega arith; no_quote = λ e. omega (arith, e); no_backslash = λ e. omega (arith, e) }

    order_item : IsItem false (fortran false) (codes "'fortran_order': False")
    order_item = record { quote = single; before = []; after = 32 ∷ []; value = codes "False"; before_ok = tt; after_ok = (refl, tt); value_ok = refl; text = refl }

    shape_item : (dims : List ℕ) → IsTuple dims (shape_text dims) → IsItem false (shape dims) (codes "'shape': " ++ shape_text dims)
    shape_item dims t = record { quote = single; before = []; after = 32 ∷ []; value = shape_text dims; before_ok = tt; after_ok = (refl, tt); value_ok = t; text = refl }

    shape_apart : (s : List ℕ) → codes ", 'shape': " ++ (s ++ codes ", ") ≡ 44 ∷ ((32 ∷ []) ++ ((codes "'shape': " ++ s) ++ ([] ++ codes ", ")))
    shape_apart s = refl

    whole : (s p : List ℕ) → (codes "{'descr': '<i8', 'fortran_order': False, 'shape': " ++ s ++ codes ", }") ++ p ++ 10 ∷ [] ≡
        123 ∷ ([] ++ (codes "'descr': '<i8'" ++ ([] ++ ((codes ", 'fortran_order': False, 'shape': " ++ (s ++ codes ", ")) ++ 125 ∷ (p ++ 10 ∷ [])))))
    whole s p = simp append_assoc
