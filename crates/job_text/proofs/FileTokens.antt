-- The token of a file's name holds a file's name.
use Rattle.std.proofs.Common.{◌≡◌, ℕ, suc, ◌+◌, ◌-◌, ◌^◌, ◌<◌, ◌≤◌, min, Bool, true, false, cond, ◌&&◌, nat_eq, nat_lt, nat_le, List, [], ◌∷◌, length, take, drop, refl, ap, ap₂, sym, subst, ◌∙◌, arith, Option, Some, None, length-drop, get_or-take}
use Rattle.std.specs.Prelude.{slice_range, find, unwrap_or}
use Rattle.std.specs.List.{prefix_len}
use Rattle.std.specs.Str.{bytes_eq}
use Rattle.std.proofs.lemmas.Bool.{false≢true, and_parts, cond_both, eqb-true, ltb-true, leb-true}
use Rattle.std.proofs.lemmas.List.{length-take-le, drop-drop}
use Rattle.std.proofs.lemmas.List.Elements.{All-from_get_or}
use Rattle.std.proofs.lemmas.List.Sums.{prefix_len_passes, prefix_len-le-length}
use Rattle.job_tokens.specs.declared.kind.Kind.{Kind}
use Rattle.job_tokens.specs.declared.kind.Kind.TheVariants.{Newline, Name, File, Number, Equals, Plus, Minus, Times, FloorDivide, Remainder, OpenParenthesis, CloseParenthesis, Comma, OpenBracket, CloseBracket, Colon, Transposed}
use Rattle.job_tokens.specs.declared.token.Next.{Next}
use Rattle.job_tokens.specs.declared.token.Next.TheVariants as NextVariants
use Rattle.job_tokens.specs.declared.token.Token.{Token}
use Rattle.job_tokens.specs.Bytes.{is_digit, is_letter, is_word, is_file_byte}
use Rattle.job_tokens.specs.Words.{reserved, spelling, word_kind, kind_number}
use Rattle.job_tokens.specs.Fronts.{made, single, single_front, pair_front, is_at, file_front, front}
use Rattle.job_tokens.specs.Texts.{begins_at, token_at, next_at}
use Rattle.job_script.specs.Words.{file_at}
use Rattle.job_text.specs.Names.{IsFileName}
use Rattle.job_text.proofs.FileOrder.{is_file}

same-token : (t u : Token) → NextVariants.Token t ≡ NextVariants.Token u → t ≡ u
same-token t u e = cc

refused-no-token : {A : Type 0} (at : ℕ) (t : Token) → NextVariants.Refused at ≡ NextVariants.Token t → A
refused-no-token at t e = absurd (never e)
  where
    never : NextVariants.Refused at ≡ NextVariants.Token t → ⊥
    never e = cc

end-no-token : {A : Type 0} (at : ℕ) (t : Token) → NextVariants.End at ≡ NextVariants.Token t → A
end-no-token at t e = absurd (never e)
  where
    never : NextVariants.End at ≡ NextVariants.Token t → ⊥
    never e = cc

-- ---- what stands at the front of some bytes at a place, where it is a file's name

record IsFileAt (at : ℕ) (bytes : List ℕ) (t : Token) : Type 0 where
  quote : ℕ
  behind : List ℕ
  is : bytes ≡ quote ∷ behind
  start_is : t.start ≡ at
  end_is : t.end ≡ at + (prefix_len is_file_byte behind + 2)
  some : 1 ≤ prefix_len is_file_byte behind
  short : prefix_len is_file_byte behind ≤ 255
  within : prefix_len is_file_byte behind < length behind

abbrev Fits : ℕ → List ℕ → Next → Type 0
Fits at bytes next = (t : Token) → next ≡ NextVariants.Token t → is_file (kind_number t.kind) ≡ true → IsFileAt at bytes t

refused-fits : (at : ℕ) (bytes : List ℕ) → Fits at bytes (NextVariants.Refused at)
refused-fits at bytes t e two = refused-no-token at t e

-- another token
other-fits : (at : ℕ) (bytes : List ℕ) (u : Token) → (is_file (kind_number u.kind) ≡ true → ⊥) → Fits at bytes (NextVariants.Token u)
other-fits at bytes u other t e two = absurd (other (subst (λ (x : Token). is_file (kind_number x.kind) ≡ true) (sym (same-token u t e)) two))

sign-fits : (at : ℕ) (bytes : List ℕ) (u : Token) → is_file (kind_number u.kind) ≡ false → Fits at bytes (NextVariants.Token u)
sign-fits at bytes u other = other-fits at bytes u (λ two. false≢true (sym other ∙ two))

-- ---- words

abbrev no_files : List Kind → Bool
no_files [] = true
no_files (k ∷ ks) = nat_lt 2 (kind_number k) && no_files ks

above-two : (n : ℕ) → nat_lt 2 n ≡ true → is_file n ≡ true → ⊥
above-two n above two = let a : 2 < n = ltb-true 2 n above in let b : n ≡ 2 = eqb-true n 2 two in omega (arith, a, b)

found-no-file : (p : Kind → Bool) (ks : List Kind) → no_files ks ≡ true → is_file (kind_number (unwrap_or (find p ks) Name)) ≡ true → ⊥
found-no-file p [] e two = false≢true two
found-no-file p (k ∷ ks) e two = by-test (p k) two (found-no-file p ks (and_parts (nat_lt 2 (kind_number k)) (no_files ks) e).1)
  where
    by-test : (b : Bool) → is_file (kind_number (unwrap_or (cond b (Some k) (find p ks)) Name)) ≡ true → (is_file (kind_number (unwrap_or (find p ks) Name)) ≡ true → ⊥) → ⊥
    by-test true t later = above-two (kind_number k) (and_parts (nat_lt 2 (kind_number k)) (no_files ks) e).0 t
    by-test false t later = later t

word-no-file : (w : List ℕ) → is_file (kind_number (word_kind w)) ≡ true → ⊥
word-no-file w two = found-no-file (λ k. bytes_eq (spelling k) w) reserved refl two

-- ---- signs

single-fits : (at : ℕ) (bytes : List ℕ) (b : ℕ) → Fits at bytes (token_at at (single_front (single b)))
single-fits at bytes b =
    let P : Option Kind → Type 0 = λ o. Fits at bytes (token_at at (single_front o)) in
    let one : (k : Kind) → is_file (kind_number k) ≡ false → P (Some k) = λ k other. sign-fits at bytes (record { kind = k; start = at; end = at + 1 }) other in
    cond_both (nat_eq b 10) (Some Newline) _ P (λ e. one Newline refl) (λ e. cond_both (nat_eq b 61) (Some Equals) _ P (λ e. one Equals refl) (λ e. cond_both (nat_eq b 43) (Some Plus) _ P (λ e. one Plus refl)
    (λ e. cond_both (nat_eq b 45) (Some Minus) _ P (λ e. one Minus refl) (λ e. cond_both (nat_eq b 42) (Some Times) _ P (λ e. one Times refl) (λ e. cond_both (nat_eq b 37) (Some Remainder) _ P (λ e. one Remainder refl)
    (λ e. cond_both (nat_eq b 40) (Some OpenParenthesis) _ P (λ e. one OpenParenthesis refl) (λ e. cond_both (nat_eq b 41) (Some CloseParenthesis) _ P (λ e. one CloseParenthesis refl)
    (λ e. cond_both (nat_eq b 44) (Some Comma) _ P (λ e. one Comma refl) (λ e. cond_both (nat_eq b 91) (Some OpenBracket) _ P (λ e. one OpenBracket refl) (λ e. cond_both (nat_eq b 93) (Some CloseBracket) _ P (λ e. one CloseBracket refl)
    (λ e. cond_both (nat_eq b 58) (Some Colon) None P (λ e. one Colon refl) (λ e. refused-fits at bytes))))))))))))

pair-fits : (at : ℕ) (bytes : List ℕ) (k : Kind) (second : ℕ) (w : List ℕ) → is_file (kind_number k) ≡ false → Fits at bytes (token_at at (pair_front k second w))
pair-fits at bytes k second [] other = refused-fits at bytes
pair-fits at bytes k second (b ∷ w) other =
    cond_both (nat_eq b second) (made k 2) None (λ o. Fits at bytes (token_at at o)) (λ e. sign-fits at bytes (record { kind = k; start = at; end = at + 2 }) other) (λ e. refused-fits at bytes)

-- ---- a file's name

at-within : (w : List ℕ) (i b : ℕ) → is_at w i b ≡ true → i < length w
at-within w i b e = by-test _ (nat_lt i (length w)) refl e
  where
    by-test : (x t : Bool) → nat_lt i (length w) ≡ t → cond t x false ≡ true → i < length w
    by-test x true is e = ltb-true i (length w) is
    by-test x false is e = absurd (false≢true e)

file-fits : (at quote : ℕ) (v : List ℕ) → Fits at (quote ∷ v) (token_at at (file_front v))
file-fits at quote v =
    cond_both (nat_le 1 (prefix_len is_file_byte v) && (nat_le (prefix_len is_file_byte v) 255 && is_at v (prefix_len is_file_byte v) 34)) (made File (prefix_len is_file_byte v + 2)) None (λ o. Fits at (quote ∷ v) (token_at at o))
    (λ is t e two.
    let p = and_parts (nat_le 1 (prefix_len is_file_byte v)) (nat_le (prefix_len is_file_byte v) 255 && is_at v (prefix_len is_file_byte v) 34) is in
    let r = and_parts (nat_le (prefix_len is_file_byte v) 255) (is_at v (prefix_len is_file_byte v) 34) p.1 in
    let same : t ≡ record { kind = File; start = at; end = at + (prefix_len is_file_byte v + 2) } = sym (same-token (record { kind = File; start = at; end = at + (prefix_len is_file_byte v + 2) }) t e) in
    record {
      quote = quote;
      behind = v;
      is = refl;
      start_is = ap (λ (x : Token). x.start) same;
      end_is = ap (λ (x : Token). x.end) same;
      some = leb-true 1 (prefix_len is_file_byte v) p.0;
      short = leb-true (prefix_len is_file_byte v) 255 r.0;
      within = at-within v (prefix_len is_file_byte v) 34 r.1;
    })
    (λ e. refused-fits at (quote ∷ v))

front-fits : (at : ℕ) (w : List ℕ) → Fits at w (token_at at (front w))
front-fits at [] = refused-fits at []
front-fits at (b ∷ w) =
    cond_both (is_letter b) (made (word_kind (take (prefix_len is_word (b ∷ w)) (b ∷ w))) (prefix_len is_word (b ∷ w))) _ (λ o. Fits at (b ∷ w) (token_at at o))
    (λ e. other-fits at (b ∷ w) (record { kind = word_kind (take (prefix_len is_word (b ∷ w)) (b ∷ w)); start = at; end = at + prefix_len is_word (b ∷ w) }) (word-no-file (take (prefix_len is_word (b ∷ w)) (b ∷ w))))
    (λ e. cond_both (is_digit b) (made Number (prefix_len is_digit (b ∷ w))) _ (λ o. Fits at (b ∷ w) (token_at at o)) (λ e. sign-fits at (b ∷ w) (record { kind = Number; start = at; end = at + prefix_len is_digit (b ∷ w) }) refl)
    (λ e. cond_both (nat_eq b 34) (file_front w) _ (λ o. Fits at (b ∷ w) (token_at at o)) (λ e. file-fits at b w)
    (λ e. cond_both (nat_eq b 47) (pair_front FloorDivide 47 w) _ (λ o. Fits at (b ∷ w) (token_at at o)) (λ e. pair-fits at (b ∷ w) FloorDivide 47 w refl)
    (λ e. cond_both (nat_eq b 46) (pair_front Transposed 84 w) _ (λ o. Fits at (b ∷ w) (token_at at o)) (λ e. pair-fits at (b ∷ w) Transposed 84 w refl)
    (λ e. single-fits at (b ∷ w) b)))))

-- ---- the name between the quotes

name-fits : (v : List ℕ) → 1 ≤ prefix_len is_file_byte v → prefix_len is_file_byte v ≤ 255 → IsFileName (take (prefix_len is_file_byte v) v)
name-fits v some short =
    let size : length (take (prefix_len is_file_byte v) v) ≡ prefix_len is_file_byte v = length-take-le (prefix_len is_file_byte v) v (prefix_len-le-length is_file_byte v) in
    record {
      some = omega (arith, size, some);
      short = omega (arith, size, short);
      bytes = All-from_get_or (λ b. is_file_byte b ≡ true) (take (prefix_len is_file_byte v) v) 0 (λ k h.
          let below : k < prefix_len is_file_byte v = omega (arith, size, h) in
          subst (λ b. is_file_byte b ≡ true) (sym (get_or-take (prefix_len is_file_byte v) v k 0 below)) (prefix_len_passes is_file_byte v k 0 below));
    }

name-at : (text : List ℕ) (at n : ℕ) (v : List ℕ) (t : Token) → length text ≤ 2 ^ 20 → suc (length v) ≡ length text - at → drop (at + 1) text ≡ v → n < length v → t.start ≡ at → t.end ≡ at + (n + 2) → file_at text t ≡ take n v
name-at text at n v t short size rest within start_is end_is =
    let end : min (t.end - 1) (length text) ≡ at + 1 + n = omega (arith, short, size, end_is, within) in
    let start : min (min (t.start + 1) (2 ^ 64 - 1)) (at + 1 + n) ≡ at + 1 = omega (arith, short, size, start_is, within) in
    let count : at + 1 + n - (at + 1) ≡ n = omega arith in
    ap (λ e. slice_range text (min (min (t.start + 1) (2 ^ 64 - 1)) e) e) end
    ∙ (ap (λ s. slice_range text s (at + 1 + n)) start ∙ ap₂ (λ k w. take k w) count rest)

name-of : (text : List ℕ) (at : ℕ) (t : Token) → length text ≤ 2 ^ 20 → IsFileAt at (drop at text) t → IsFileName (file_at text t)
name-of text at t short is =
    let size : suc (length is.behind) ≡ length text - at = sym (ap length is.is) ∙ length-drop at text in
    let rest : drop (at + 1) text ≡ is.behind = sym (drop-drop 1 at text) ∙ ap (drop 1) is.is in
    subst IsFileName (sym (name-at text at (prefix_len is_file_byte is.behind) is.behind t short size rest is.within is.start_is is.end_is)) (name-fits is.behind is.some is.short)

pub file-token : (text : List ℕ) (from : ℕ) (inside : Bool) (t : Token) → length text ≤ 2 ^ 20 → next_at text from inside ≡ NextVariants.Token t → is_file (kind_number t.kind) ≡ true → IsFileName (file_at text t)
file-token text from inside t short next two = by-end (nat_eq (begins_at text from inside) (length text)) next
  where
    by-end : (b : Bool) → cond b (NextVariants.End (begins_at text from inside)) (token_at (begins_at text from inside) (front (drop (begins_at text from inside) text))) ≡ NextVariants.Token t → IsFileName (file_at text t)
    by-end true e = end-no-token (begins_at text from inside) t e
    by-end false e = name-of text (begins_at text from inside) t short (front-fits (begins_at text from inside) (drop (begins_at text from inside) text) t e two)
