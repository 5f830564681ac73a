-- Which bytes have a kind.
use Rattle.std.proofs.Common.{◌≡◌, ◌≢◌, ℕ, suc, ◌<◌, ◌≤◌, ◌+◌, Bool, true, false, ◌||◌, ◌&&◌, not, cond, nat_eq, nat_le, nat_lt, List, [], ◌∷◌, ◌⊎◌, inl, inr, length, get_or, Some, refl, ap, sym, subst, ◌∙◌, arith}
use Rattle.std.specs.Prelude.{slice_get}
use Rattle.std.specs.List.{list_all}
use Rattle.std.proofs.lemmas.Option.{slice_get-get_or, slice_get_within}
use Rattle.std.proofs.lemmas.Bool.{lt-ltb, and_parts, eqb-true, eqb-false, ne_eqb, leb-true, leb-false, le-leb, ltb-true}
use Rattle.small_facts.proofs.Options.{same_in_some}
use Rattle.grammar.specs.Tables.{all_at}
use Rattle.grammar.proofs.Checked.{all_at-first}
use Rattle.npy_header.specs.declared.rows.TheConstants.{KIND_OF_BYTE}
use Rattle.npy_header.specs.Headers.{Quote, single, double, quote_byte, IsDigit, IsInside}
use Rattle.npy_header.specs.Kinds.{singles, kind_past, kind_of_rest, kind_from, kind_of}
use Rattle.npy_header.specs.Typed.{quote_kind, may_stand_in}

-- ---- bytes past ASCII

pub record Past (b k : ℕ) : Type 0 where
  pub least : 30 ≤ k
  pub most : k ≤ 40
  pub to0 : 128 ≤ b → b ≤ 143 → k ≡ 30
  pub to1 : 144 ≤ b → b ≤ 159 → k ≡ 31
  pub to2 : 160 ≤ b → b ≤ 191 → k ≡ 32
  pub to3 : 194 ≤ b → b ≤ 223 → k ≡ 33
  pub to4 : 224 ≤ b → b ≤ 224 → k ≡ 34
  pub to5 : 225 ≤ b → b ≤ 236 → k ≡ 35
  pub to6 : 237 ≤ b → b ≤ 237 → k ≡ 36
  pub to7 : 238 ≤ b → b ≤ 239 → k ≡ 35
  pub to8 : 240 ≤ b → b ≤ 240 → k ≡ 37
  pub to9 : 241 ≤ b → b ≤ 243 → k ≡ 38
  pub to10 : 244 ≤ b → b ≤ 244 → k ≡ 39
  pub of30 : k ≡ 30 → ((128 ≤ b) × (b ≤ 143))
  pub of31 : k ≡ 31 → ((144 ≤ b) × (b ≤ 159))
  pub of32 : k ≡ 32 → ((160 ≤ b) × (b ≤ 191))
  pub of33 : k ≡ 33 → ((194 ≤ b) × (b ≤ 223))
  pub of34 : k ≡ 34 → ((224 ≤ b) × (b ≤ 224))
  pub of35 : k ≡ 35 → ((225 ≤ b) × (b ≤ 236)) ⊎ ((238 ≤ b) × (b ≤ 239))
  pub of36 : k ≡ 36 → ((237 ≤ b) × (b ≤ 237))
  pub of37 : k ≡ 37 → ((240 ≤ b) × (b ≤ 240))
  pub of38 : k ≡ 38 → ((241 ≤ b) × (b ≤ 243))
  pub of39 : k ≡ 39 → ((244 ≤ b) × (b ≤ 244))

up-to : (P : ℕ → Type 0) (b n x y : ℕ) → (b ≤ n → P x) → (n < b → P y) → P (cond (nat_le b n) x y)
up-to P b n x y f g = by (nat_le b n) refl
  where
    by : (c : Bool) → nat_le b n ≡ c → P (cond c x y)
    by true e = f (leb-true b n e)
    by false e = g (leb-false b n e)

past0 : (b : ℕ) → 0 ≤ b → b ≤ 127 → Past b 40
past0 b l u = record {
  least = omega arith;
  most = omega arith;
  to0 = λ x y. absurd (omega arith);
  to1 = λ x y. absurd (omega arith);
  to2 = λ x y. absurd (omega arith);
  to3 = λ x y. absurd (omega arith);
  to4 = λ x y. absurd (omega arith);
  to5 = λ x y. absurd (omega arith);
  to6 = λ x y. absurd (omega arith);
  to7 = λ x y. absurd (omega arith);
  to8 = λ x y. absurd (omega arith);
  to9 = λ x y. absurd (omega arith);
  to10 = λ x y. absurd (omega arith);
  of30 = λ e. absurd (omega arith);
  of31 = λ e. absurd (omega arith);
  of32 = λ e. absurd (omega arith);
  of33 = λ e. absurd (omega arith);
  of34 = λ e. absurd (omega arith);
  of35 = λ e. absurd (omega arith);
  of36 = λ e. absurd (omega arith);
  of37 = λ e. absurd (omega arith);
  of38 = λ e. absurd (omega arith);
  of39 = λ e. absurd (omega arith);
}

past1 : (b : ℕ) → 128 ≤ b → b ≤ 143 → Past b 30
past1 b l u = record {
  least = omega arith;
  most = omega arith;
  to0 = λ x y. refl;
  to1 = λ x y. absurd (omega arith);
  to2 = λ x y. absurd (omega arith);
  to3 = λ x y. absurd (omega arith);
  to4 = λ x y. absurd (omega arith);
  to5 = λ x y. absurd (omega arith);
  to6 = λ x y. absurd (omega arith);
  to7 = λ x y. absurd (omega arith);
  to8 = λ x y. absurd (omega arith);
  to9 = λ x y. absurd (omega arith);
  to10 = λ x y. absurd (omega arith);
  of30 = λ e. (omega arith, omega arith);
  of31 = λ e. absurd (omega arith);
  of32 = λ e. absurd (omega arith);
  of33 = λ e. absurd (omega arith);
  of34 = λ e. absurd (omega arith);
  of35 = λ e. absurd (omega arith);
  of36 = λ e. absurd (omega arith);
  of37 = λ e. absurd (omega arith);
  of38 = λ e. absurd (omega arith);
  of39 = λ e. absurd (omega arith);
}

past2 : (b : ℕ) → 144 ≤ b → b ≤ 159 → Past b 31
past2 b l u = record {
  least = omega arith;
  most = omega arith;
  to0 = λ x y. absurd (omega arith);
  to1 = λ x y. refl;
  to2 = λ x y. absurd (omega arith);
  to3 = λ x y. absurd (omega arith);
  to4 = λ x y. absurd (omega arith);
  to5 = λ x y. absurd (omega arith);
  to6 = λ x y. absurd (omega arith);
  to7 = λ x y. absurd (omega arith);
  to8 = λ x y. absurd (omega arith);
  to9 = λ x y. absurd (omega arith);
  to10 = λ x y. absurd (omega arith);
  of30 = λ e. absurd (omega arith);
  of31 = λ e. (omega arith, omega arith);
  of32 = λ e. absurd (omega arith);
  of33 = λ e. absurd (omega arith);
  of34 = λ e. absurd (omega arith);
  of35 = λ e. absurd (omega arith);
  of36 = λ e. absurd (omega arith);
  of37 = λ e. absurd (omega arith);
  of38 = λ e. absurd (omega arith);
  of39 = λ e. absurd (omega arith);
}

past3 : (b : ℕ) → 160 ≤ b → b ≤ 191 → Past b 32
past3 b l u = record {
  least = omega arith;
  most = omega arith;
  to0 = λ x y. absurd (omega arith);
  to1 = λ x y. absurd (omega arith);
  to2 = λ x y. refl;
  to3 = λ x y. absurd (omega arith);
  to4 = λ x y. absurd (omega arith);
  to5 = λ x y. absurd (omega arith);
  to6 = λ x y. absurd (omega arith);
  to7 = λ x y. absurd (omega arith);
  to8 = λ x y. absurd (omega arith);
  to9 = λ x y. absurd (omega arith);
  to10 = λ x y. absurd (omega arith);
  of30 = λ e. absurd (omega arith);
  of31 = λ e. absurd (omega arith);
  of32 = λ e. (omega arith, omega arith);
  of33 = λ e. absurd (omega arith);
  of34 = λ e. absurd (omega arith);
  of35 = λ e. absurd (omega arith);
  of36 = λ e. absurd (omega arith);
  of37 = λ e. absurd (omega arith);
  of38 = λ e. absurd (omega arith);
  of39 = λ e. absurd (omega arith);
}

past4 : (b : ℕ) → 192 ≤ b → b ≤ 193 → Past b 40
past4 b l u = record {
  least = omega arith;
  most = omega arith;
  to0 = λ x y. absurd (omega arith);
  to1 = λ x y. absurd (omega arith);
  to2 = λ x y. absurd (omega arith);
  to3 = λ x y. absurd (omega arith);
  to4 = λ x y. absurd (omega arith);
  to5 = λ x y. absurd (omega arith);
  to6 = λ x y. absurd (omega arith);
  to7 = λ x y. absurd (omega arith);
  to8 = λ x y. absurd (omega arith);
  to9 = λ x y. absurd (omega arith);
  to10 = λ x y. absurd (omega arith);
  of30 = λ e. absurd (omega arith);
  of31 = λ e. absurd (omega arith);
  of32 = λ e. absurd (omega arith);
  of33 = λ e. absurd (omega arith);
  of34 = λ e. absurd (omega arith);
  of35 = λ e. absurd (omega arith);
  of36 = λ e. absurd (omega arith);
  of37 = λ e. absurd (omega arith);
  of38 = λ e. absurd (omega arith);
  of39 = λ e. absurd (omega arith);
}

past5 : (b : ℕ) → 194 ≤ b → b ≤ 223 → Past b 33
past5 b l u = record {
  least = omega arith;
  most = omega arith;
  to0 = λ x y. absurd (omega arith);
  to1 = λ x y. absurd (omega arith);
  to2 = λ x y. absurd (omega arith);
  to3 = λ x y. refl;
  to4 = λ x y. absurd (omega arith);
  to5 = λ x y. absurd (omega arith);
  to6 = λ x y. absurd (omega arith);
  to7 = λ x y. absurd (omega arith);
  to8 = λ x y. absurd (omega arith);
  to9 = λ x y. absurd (omega arith);
  to10 = λ x y. absurd (omega arith);
  of30 = λ e. absurd (omega arith);
  of31 = λ e. absurd (omega arith);
  of32 = λ e. absurd (omega arith);
  of33 = λ e. (omega arith, omega arith);
  of34 = λ e. absurd (omega arith);
  of35 = λ e. absurd (omega arith);
  of36 = λ e. absurd (omega arith);
  of37 = λ e. absurd (omega arith);
  of38 = λ e. absurd (omega arith);
  of39 = λ e. absurd (omega arith);
}

past6 : (b : ℕ) → 224 ≤ b → b ≤ 224 → Past b 34
past6 b l u = record {
  least = omega arith;
  most = omega arith;
  to0 = λ x y. absurd (omega arith);
  to1 = λ x y. absurd (omega arith);
  to2 = λ x y. absurd (omega arith);
  to3 = λ x y. absurd (omega arith);
  to4 = λ x y. refl;
  to5 = λ x y. absurd (omega arith);
  to6 = λ x y. absurd (omega arith);
  to7 = λ x y. absurd (omega arith);
  to8 = λ x y. absurd (omega arith);
  to9 = λ x y. absurd (omega arith);
  to10 = λ x y. absurd (omega arith);
  of30 = λ e. absurd (omega arith);
  of31 = λ e. absurd (omega arith);
  of32 = λ e. absurd (omega arith);
  of33 = λ e. absurd (omega arith);
  of34 = λ e. (omega arith, omega arith);
  of35 = λ e. absurd (omega arith);
  of36 = λ e. absurd (omega arith);
  of37 = λ e. absurd (omega arith);
  of38 = λ e. absurd (omega arith);
  of39 = λ e. absurd (omega arith);
}

past7 : (b : ℕ) → 225 ≤ b → b ≤ 236 → Past b 35
past7 b l u = record {
  least = omega arith;
  most = omega arith;
  to0 = λ x y. absurd (omega arith);
  to1 = λ x y. absurd (omega arith);
  to2 = λ x y. absurd (omega arith);
  to3 = λ x y. absurd (omega arith);
  to4 = λ x y. absurd (omega arith);
  to5 = λ x y. refl;
  to6 = λ x y. absurd (omega arith);
  to7 = λ x y. refl;
  to8 = λ x y. absurd (omega arith);
  to9 = λ x y. absurd (omega arith);
  to10 = λ x y. absurd (omega arith);
  of30 = λ e. absurd (omega arith);
  of31 = λ e. absurd (omega arith);
  of32 = λ e. absurd (omega arith);
  of33 = λ e. absurd (omega arith);
  of34 = λ e. absurd (omega arith);
  of35 = λ e. inl (omega arith, omega arith);
  of36 = λ e. absurd (omega arith);
  of37 = λ e. absurd (omega arith);
  of38 = λ e. absurd (omega arith);
  of39 = λ e. absurd (omega arith);
}

past8 : (b : ℕ) → 237 ≤ b → b ≤ 237 → Past b 36
past8 b l u = record {
  least = omega arith;
  most = omega arith;
  to0 = λ x y. absurd (omega arith);
  to1 = λ x y. absurd (omega arith);
  to2 = λ x y. absurd (omega arith);
  to3 = λ x y. absurd (omega arith);
  to4 = λ x y. absurd (omega arith);
  to5 = λ x y. absurd (omega arith);
  to6 = λ x y. refl;
  to7 = λ x y. absurd (omega arith);
  to8 = λ x y. absurd (omega arith);
  to9 = λ x y. absurd (omega arith);
  to10 = λ x y. absurd (omega arith);
  of30 = λ e. absurd (omega arith);
  of31 = λ e. absurd (omega arith);
  of32 = λ e. absurd (omega arith);
  of33 = λ e. absurd (omega arith);
  of34 = λ e. absurd (omega arith);
  of35 = λ e. absurd (omega arith);
  of36 = λ e. (omega arith, omega arith);
  of37 = λ e. absurd (omega arith);
  of38 = λ e. absurd (omega arith);
  of39 = λ e. absurd (omega arith);
}

past9 : (b : ℕ) → 238 ≤ b → b ≤ 239 → Past b 35
past9 b l u = record {
  least = omega arith;
  most = omega arith;
  to0 = λ x y. absurd (omega arith);
  to1 = λ x y. absurd (omega arith);
  to2 = λ x y. absurd (omega arith);
  to3 = λ x y. absurd (omega arith);
  to4 = λ x y. absurd (omega arith);
  to5 = λ x y. refl;
  to6 = λ x y. absurd (omega arith);
  to7 = λ x y. refl;
  to8 = λ x y. absurd (omega arith);
  to9 = λ x y. absurd (omega arith);
  to10 = λ x y. absurd (omega arith);
  of30 = λ e. absurd (omega arith);
  of31 = λ e. absurd (omega arith);
  of32 = λ e. absurd (omega arith);
  of33 = λ e. absurd (omega arith);
  of34 = λ e. absurd (omega arith);
  of35 = λ e. inr (omega arith, omega arith);
  of36 = λ e. absurd (omega arith);
  of37 = λ e. absurd (omega arith);
  of38 = λ e. absurd (omega arith);
  of39 = λ e. absurd (omega arith);
}

past10 : (b : ℕ) → 240 ≤ b → b ≤ 240 → Past b 37
past10 b l u = record {
  least = omega arith;
  most = omega arith;
  to0 = λ x y. absurd (omega arith);
  to1 = λ x y. absurd (omega arith);
  to2 = λ x y. absurd (omega arith);
  to3 = λ x y. absurd (omega arith);
  to4 = λ x y. absurd (omega arith);
  to5 = λ x y. absurd (omega arith);
  to6 = λ x y. absurd (omega arith);
  to7 = λ x y. absurd (omega arith);
  to8 = λ x y. refl;
  to9 = λ x y. absurd (omega arith);
  to10 = λ x y. absurd (omega arith);
  of30 = λ e. absurd (omega arith);
  of31 = λ e. absurd (omega arith);
  of32 = λ e. absurd (omega arith);
  of33 = λ e. absurd (omega arith);
  of34 = λ e. absurd (omega arith);
  of35 = λ e. absurd (omega arith);
  of36 = λ e. absurd (omega arith);
  of37 = λ e. (omega arith, omega arith);
  of38 = λ e. absurd (omega arith);
  of39 = λ e. absurd (omega arith);
}

past11 : (b : ℕ) → 241 ≤ b → b ≤ 243 → Past b 38
past11 b l u = record {
  least = omega arith;
  most = omega arith;
  to0 = λ x y. absurd (omega arith);
  to1 = λ x y. absurd (omega arith);
  to2 = λ x y. absurd (omega arith);
  to3 = λ x y. absurd (omega arith);
  to4 = λ x y. absurd (omega arith);
  to5 = λ x y. absurd (omega arith);
  to6 = λ x y. absurd (omega arith);
  to7 = λ x y. absurd (omega arith);
  to8 = λ x y. absurd (omega arith);
  to9 = λ x y. refl;
  to10 = λ x y. absurd (omega arith);
  of30 = λ e. absurd (omega arith);
  of31 = λ e. absurd (omega arith);
  of32 = λ e. absurd (omega arith);
  of33 = λ e. absurd (omega arith);
  of34 = λ e. absurd (omega arith);
  of35 = λ e. absurd (omega arith);
  of36 = λ e. absurd (omega arith);
  of37 = λ e. absurd (omega arith);
  of38 = λ e. (omega arith, omega arith);
  of39 = λ e. absurd (omega arith);
}

past12 : (b : ℕ) → 244 ≤ b → b ≤ 244 → Past b 39
past12 b l u = record {
  least = omega arith;
  most = omega arith;
  to0 = λ x y. absurd (omega arith);
  to1 = λ x y. absurd (omega arith);
  to2 = λ x y. absurd (omega arith);
  to3 = λ x y. absurd (omega arith);
  to4 = λ x y. absurd (omega arith);
  to5 = λ x y. absurd (omega arith);
  to6 = λ x y. absurd (omega arith);
  to7 = λ x y. absurd (omega arith);
  to8 = λ x y. absurd (omega arith);
  to9 = λ x y. absurd (omega arith);
  to10 = λ x y. refl;
  of30 = λ e. absurd (omega arith);
  of31 = λ e. absurd (omega arith);
  of32 = λ e. absurd (omega arith);
  of33 = λ e. absurd (omega arith);
  of34 = λ e. absurd (omega arith);
  of35 = λ e. absurd (omega arith);
  of36 = λ e. absurd (omega arith);
  of37 = λ e. absurd (omega arith);
  of38 = λ e. absurd (omega arith);
  of39 = λ e. (omega arith, omega arith);
}

past13 : (b : ℕ) → 245 ≤ b → Past b 40
past13 b l = record {
  least = omega arith;
  most = omega arith;
  to0 = λ x y. absurd (omega arith);
  to1 = λ x y. absurd (omega arith);
  to2 = λ x y. absurd (omega arith);
  to3 = λ x y. absurd (omega arith);
  to4 = λ x y. absurd (omega arith);
  to5 = λ x y. absurd (omega arith);
  to6 = λ x y. absurd (omega arith);
  to7 = λ x y. absurd (omega arith);
  to8 = λ x y. absurd (omega arith);
  to9 = λ x y. absurd (omega arith);
  to10 = λ x y. absurd (omega arith);
  of30 = λ e. absurd (omega arith);
  of31 = λ e. absurd (omega arith);
  of32 = λ e. absurd (omega arith);
  of33 = λ e. absurd (omega arith);
  of34 = λ e. absurd (omega arith);
  of35 = λ e. absurd (omega arith);
  of36 = λ e. absurd (omega arith);
  of37 = λ e. absurd (omega arith);
  of38 = λ e. absurd (omega arith);
  of39 = λ e. absurd (omega arith);
}

pub past-is : (b : ℕ) → Past b (kind_past b)
past-is b =
    up-to (Past b) b 127 _ _ (λ u. past0 b (omega arith) u) (λ l0.
    up-to (Past b) b 143 _ _ (λ u. past1 b (omega arith) u) (λ l1.
    up-to (Past b) b 159 _ _ (λ u. past2 b (omega arith) u) (λ l2.
    up-to (Past b) b 191 _ _ (λ u. past3 b (omega arith) u) (λ l3.
    up-to (Past b) b 193 _ _ (λ u. past4 b (omega arith) u) (λ l4.
    up-to (Past b) b 223 _ _ (λ u. past5 b (omega arith) u) (λ l5.
    up-to (Past b) b 224 _ _ (λ u. past6 b (omega arith) u) (λ l6.
    up-to (Past b) b 236 _ _ (λ u. past7 b (omega arith) u) (λ l7.
    up-to (Past b) b 237 _ _ (λ u. past8 b (omega arith) u) (λ l8.
    up-to (Past b) b 239 _ _ (λ u. past9 b (omega arith) u) (λ l9.
    up-to (Past b) b 240 _ _ (λ u. past10 b (omega arith) u) (λ l10.
    up-to (Past b) b 243 _ _ (λ u. past11 b (omega arith) u) (λ l11.
    up-to (Past b) b 244 _ _ (λ u. past12 b (omega arith) u) (λ l12.
    past13 b (omega arith))))))))))))))

-- what the test of a byte without a kind of its own says
record Rest (b k : ℕ) : Type 0 where
  least : 28 ≤ k
  most : k ≤ 40
  digit : k ≡ 28 → (49 ≤ b) × (b ≤ 57)
  text : k ≡ 29 → (32 ≤ b) × (b ≤ 126) × (b ≢ 92)

rest-is : (b : ℕ) → Rest b (kind_of_rest b)
rest-is b = by (nat_le 49 b && nat_le b 57) ((nat_le 32 b && nat_le b 126) && not (nat_eq b 92)) refl refl
  where
    not-92 : (c : Bool) → nat_eq b 92 ≡ c → not c ≡ true → b ≢ 92
    not-92 true e h = cc
    not-92 false e h = eqb-false b 92 e

    by : (x y : Bool) → (nat_le 49 b && nat_le b 57) ≡ x → ((nat_le 32 b && nat_le b 126) && not (nat_eq b 92)) ≡ y → Rest b (cond x 28 (cond y 29 (kind_past b)))
    by true y e f = record {
      least = omega arith;
      most = omega arith;
      digit = λ _. let q = and_parts (nat_le 49 b) (nat_le b 57) e in (leb-true 49 b q.0, leb-true b 57 q.1);
      text = λ h. absurd (omega arith);
    }
    by false true e f = record {
      least = omega arith;
      most = omega arith;
      digit = λ h. absurd (omega arith);
      text = λ _. let q = and_parts (nat_le 32 b && nat_le b 126) (not (nat_eq b 92)) f in let r = and_parts (nat_le 32 b) (nat_le b 126) q.0 in (leb-true 32 b r.0, leb-true b 126 r.1, not-92 (nat_eq b 92) refl q.1);
    }
    by false false e f =
        let p = past-is b in
        record { least = omega (arith, p.least); most = p.most; digit = λ h. absurd (omega (arith, p.least)); text = λ h. absurd (omega (arith, p.least)) }

-- a byte among those that have a kind of their own, or none of them
abbrev Found : ℕ → List ℕ → ℕ → ℕ → Type 0
Found b xs i k = ((j : ℕ) × (k ≡ i + j) × (slice_get xs j ≡ Some b)) ⊎ (k ≡ kind_of_rest b)

found : (b : ℕ) (xs : List ℕ) (i : ℕ) → Found b xs i (kind_from b xs i)
found b [] i = inr refl
found b (x ∷ xs) i = by (nat_eq b x) refl (found b xs (i + 1))
  where
    next : Found b xs (i + 1) (kind_from b xs (i + 1)) → Found b (x ∷ xs) i (kind_from b xs (i + 1))
    next (inl a) = inl (suc a.0, omega (arith, a.1), a.2)
    next (inr e) = inr e

    by : (c : Bool) → nat_eq b x ≡ c → Found b xs (i + 1) (kind_from b xs (i + 1)) → Found b (x ∷ xs) i (cond c i (kind_from b xs (i + 1)))
    by true e f = inl (0, omega arith, ap Some (sym (eqb-true b x e)))
    by false e f = next f

-- a byte and its kind
pub record Kind (b k : ℕ) : Type 0 where
  pub single_byte : k < 28 → slice_get singles k ≡ Some b
  pub another_digit : k ≡ 28 → (49 ≤ b) × (b ≤ 57)
  pub other_text : k ≡ 29 → (32 ≤ b) × (b ≤ 126) × (b ≢ 92)
  pub most : k ≤ 40

pub kind-is : (b : ℕ) → Kind b (kind_of b)
unfolding kind_of
kind-is b = by (kind_from b singles 0) (found b singles 0)
  where
    count : length singles ≡ 28
    count = refl

    by : (k : ℕ) → Found b singles 0 k → Kind b k
    by k (inl a) =
        let at : a.0 ≡ k = omega (arith, a.1) in
        let lt = slice_get_within singles a.0 b a.2 in
        record {
          single_byte = λ _. subst (λ j. slice_get singles j ≡ Some b) at a.2;
          another_digit = λ h. absurd (omega (arith, lt, count));
          other_text = λ h. absurd (omega (arith, lt, count));
          most = omega (arith, lt, count);
        }
    by k (inr e) =
        let r = rest-is b in
        record {
          single_byte = λ h. absurd (omega (arith, r.least));
          another_digit = λ h. r.digit (sym e ∙ h);
          other_text = λ h. r.text (sym e ∙ h);
          most = omega (arith, r.most);
        }

pub kind-below : (b : ℕ) → kind_of b < 41
kind-below b = omega (arith, (kind-is b).most)

-- a byte of a kind that one byte alone has
pub one-byte : (t k b : ℕ) → kind_of t ≡ k → k < 28 → slice_get singles k ≡ Some b → t ≡ b
one-byte t k b e h g =
    let x : slice_get singles (kind_of t) ≡ Some t = (kind-is t).single_byte (omega (arith, e)) in
    let y : slice_get singles k ≡ Some t = subst (λ j. slice_get singles j ≡ Some t) e x in
    same_in_some (slice_get singles k) t b y g

pub quote-byte : (q : Quote) (t : ℕ) → kind_of t ≡ quote_kind q → t ≡ quote_byte q
quote-byte single t e = one-byte t 8 39 e (omega arith) refl
quote-byte double t e = one-byte t 9 34 e (omega arith) refl

pub kind-quote : (q : Quote) → kind_of (quote_byte q) ≡ quote_kind q
unfolding kind_of
kind-quote single = refl
kind-quote double = refl

pub zero-digit : (t : ℕ) → kind_of t ≡ 27 → t ≡ 48
zero-digit t e = one-byte t 27 48 e (omega arith) refl

pub digit-from : (t : ℕ) → kind_of t ≡ 28 → IsDigit t × (t ≢ 48)
digit-from t e = let d = (kind-is t).another_digit e in (record { low = omega (arith, d.0); high = d.1 }, λ z. omega (arith, d.0, z))

-- ---- digits and bytes within quotes have the kinds that stand for them

outside : ℕ → ℕ → ℕ → Bool
outside lo hi x = nat_lt x lo || nat_lt hi x

outside-apart : (lo hi x b : ℕ) → outside lo hi x ≡ true → lo ≤ b → b ≤ hi → b ≢ x
unfolding outside
outside-apart lo hi x b h l u e = grind arith

kind-apart : (lo hi b : ℕ) (xs : List ℕ) (i : ℕ) → list_all (outside lo hi) xs ≡ true → lo ≤ b → b ≤ hi → kind_from b xs i ≡ kind_of_rest b
kind-apart lo hi b [] i h l u = refl
kind-apart lo hi b (x ∷ xs) i h l u =
    let e = and_parts (outside lo hi x) (list_all (outside lo hi) xs) h in
    let a : nat_eq b x ≡ false = ne_eqb b x (outside-apart lo hi x b e.0 l u) in
    rw a (kind-apart lo hi b xs (i + 1) e.1 l u)

pub digit-kind : (b : ℕ) → IsDigit b → b ≢ 48 → kind_of b ≡ 28
unfolding kind_of outside
digit-kind b d z =
    let lo : 49 ≤ b = omega (arith, d.low, z) in
    let a : kind_from b singles 0 ≡ kind_of_rest b = kind-apart 49 57 b singles 0 refl lo d.high in
    let t : (nat_le 49 b && nat_le b 57) ≡ true = rw (le-leb 49 b lo, le-leb b 57 d.high) refl in
    a ∙ ap (λ c. cond c 28 (cond ((nat_le 32 b && nat_le b 126) && not (nat_eq b 92)) 29 (kind_past b))) t

rest-inside : (b : ℕ) → 32 ≤ b → b ≤ 126 → b ≢ 92 → kind_of_rest b < 30
rest-inside b l u n =
    let t : ((nat_le 32 b && nat_le b 126) && not (nat_eq b 92)) ≡ true = rw (le-leb 32 b l, le-leb b 126 u, ne_eqb b 92 n) refl in
    by (nat_le 49 b && nat_le b 57) ((nat_le 32 b && nat_le b 126) && not (nat_eq b 92)) t
  where
    by : (x y : Bool) → y ≡ true → cond x 28 (cond y 29 (kind_past b)) < 30
    by true y e = omega arith
    by false true e = omega arith
    by false false e = cc

pub inside-kind : (q : Quote) (b : ℕ) → IsInside q b → may_stand_in q (kind_of b) ≡ true
unfolding kind_of
inside-kind q b i = tests (kind_of b) below no-newline no-quote
  where
    below : kind_of b < 30
    below = by (kind_of b) (found b singles 0)
      where
        by : (k : ℕ) → Found b singles 0 k → k < 30
        by k (inl a) = let c : length singles ≡ 28 = refl in omega (arith, a.1, slice_get_within singles a.0 b a.2, c)
        by k (inr e) = omega (arith, e, rest-inside b i.low i.high i.no_backslash)

    no-newline : kind_of b ≢ 1
    no-newline e = omega (arith, one-byte b 1 10 e (omega arith) refl, i.low)

    no-quote : kind_of b ≢ quote_kind q
    no-quote e = i.no_quote (quote-byte q b e)

    tests : (k : ℕ) → k < 30 → k ≢ 1 → k ≢ quote_kind q → may_stand_in q k ≡ true
    tests k h n m = rw (lt-ltb k 30 h, ne_eqb k 1 n, ne_eqb k (quote_kind q) m) refl

pub kind-inside : (q : Quote) (b : ℕ) → may_stand_in q (kind_of b) ≡ true → IsInside q b
kind-inside q b h =
    let e = and_parts (nat_lt (kind_of b) 30) (not (nat_eq (kind_of b) 1) && not (nat_eq (kind_of b) (quote_kind q))) h in
    let f = and_parts (not (nat_eq (kind_of b) 1)) (not (nat_eq (kind_of b) (quote_kind q))) e.1 in
    let r = range (kind_of b) (kind-is b) (ltb-true (kind_of b) 30 e.0) (differ (kind_of b) 1 (nat_eq (kind_of b) 1) refl f.0) in
    record {
      low = r.0;
      high = r.1;
      no_quote = λ x. differ (kind_of b) (quote_kind q) (nat_eq (kind_of b) (quote_kind q)) refl f.1 (ap kind_of x ∙ kind-quote q);
      no_backslash = r.2;
    }
  where
    differ : (j k : ℕ) (c : Bool) → nat_eq j k ≡ c → not c ≡ true → j ≢ k
    differ j k true e h = cc
    differ j k false e h = eqb-false j k e

    by-test : (k : ℕ) → k ≢ 1 → (nat_eq k 1 || ((nat_le 32 b && nat_le b 126) && not (nat_eq b 92))) ≡ true → (32 ≤ b) × (b ≤ 126) × (b ≢ 92)
    by-test k ne h =
        let z : nat_eq k 1 ≡ false = ne_eqb k 1 ne in
        let t : ((nat_le 32 b && nat_le b 126) && not (nat_eq b 92)) ≡ true = subst (λ c. (c || ((nat_le 32 b && nat_le b 126) && not (nat_eq b 92))) ≡ true) z h in
        let x = and_parts (nat_le 32 b && nat_le b 126) (not (nat_eq b 92)) t in
        let y = and_parts (nat_le 32 b) (nat_le b 126) x.0 in
        (leb-true 32 b y.0, leb-true b 126 y.1, differ b 92 (nat_eq b 92) refl x.1)

    all-inside : all_at (λ i x. nat_eq i 1 || ((nat_le 32 x && nat_le x 126) && not (nat_eq x 92))) 0 singles ≡ true
    all-inside = refl

    range : (k : ℕ) → Kind b k → k < 30 → k ≢ 1 → (32 ≤ b) × (b ≤ 126) × (b ≢ 92)
    range k i lt ne =
        elim (nat_lt k 28) as (λ c. nat_lt k 28 ≡ c → (32 ≤ b) × (b ≤ 126) × (b ≢ 92)) [
          | true ↦ λ e. by-test k ne (all_at-first (λ i x. nat_eq i 1 || ((nat_le 32 x && nat_le x 126) && not (nat_eq x 92))) singles k b all-inside (i.single_byte (ltb-true k 28 e)))
          | false ↦ λ e. elim (nat_eq k 28) as (λ c. nat_eq k 28 ≡ c → (32 ≤ b) × (b ≤ 126) × (b ≢ 92)) [
            | true ↦ λ f. let d = i.another_digit (eqb-true k 28 f) in (omega (arith, d.0), omega (arith, d.1), λ x. omega (arith, d.1, x))
            | false ↦ λ f. i.other_text (last k e f lt)
          ] refl
        ] refl
      where
        last : (k : ℕ) → nat_lt k 28 ≡ false → nat_eq k 28 ≡ false → k < 30 → k ≡ 29
        last k a b c = grind arith

-- ---- a byte past ASCII has its kind, and that has no other bytes

rest-past : (b : ℕ) → 127 ≤ b → kind_of_rest b ≡ kind_past b
rest-past b l = by (nat_le b 57) (nat_le b 126) refl refl
  where
    by : (x y : Bool) → nat_le b 57 ≡ x → nat_le b 126 ≡ y → cond (nat_le 49 b && x) 28 (cond ((nat_le 32 b && y) && not (nat_eq b 92)) 29 (kind_past b)) ≡ kind_past b
    by true y e f = absurd (omega (arith, leb-true b 57 e))
    by false true e f = absurd (omega (arith, leb-true b 126 f))
    by false false e f = both (nat_le 49 b) (nat_le 32 b)
      where
        both : (x y : Bool) → cond (x && false) 28 (cond ((y && false) && not (nat_eq b 92)) 29 (kind_past b)) ≡ kind_past b
        both true true = refl
        both true false = refl
        both false true = refl
        both false false = refl

past-kind : (b : ℕ) → 128 ≤ b → b ≤ 255 → kind_of b ≡ kind_past b
unfolding kind_of outside
past-kind b l u = kind-apart 128 255 b singles 0 refl l u ∙ rest-past b (omega arith)

past-from : (b : ℕ) → 30 ≤ kind_of b → kind_of b ≡ kind_past b
unfolding kind_of
past-from b h = by (kind_from b singles 0) (found b singles 0) h
  where
    by : (k : ℕ) → Found b singles 0 k → 30 ≤ k → k ≡ kind_past b
    by k (inl a) h = let c : length singles ≡ 28 = refl in absurd (omega (arith, a.1, slice_get_within singles a.0 b a.2, c))
    by k (inr e) h = e ∙ past (nat_le 49 b && nat_le b 57) ((nat_le 32 b && nat_le b 126) && not (nat_eq b 92)) (subst (λ x. 30 ≤ x) e h)
      where
        past : (x y : Bool) → 30 ≤ cond x 28 (cond y 29 (kind_past b)) → cond x 28 (cond y 29 (kind_past b)) ≡ kind_past b
        past true y h = absurd (omega arith)
        past false true h = absurd (omega arith)
        past false false h = refl

pub past-of : (b : ℕ) → 30 ≤ kind_of b → Past b (kind_of b)
past-of b h = subst (λ k. Past b k) (sym (past-from b h)) (past-is b)

pub past-to : (b : ℕ) → 128 ≤ b → b ≤ 255 → Past b (kind_of b)
past-to b l u = subst (λ k. Past b k) (sym (past-kind b l u)) (past-is b)

-- ---- the table of kinds

kinds-checked : all_at (λ b k. nat_eq k (kind_of b)) 0 KIND_OF_BYTE ≡ true
unfolding kind_of
kinds-checked = refl

kinds_count : length KIND_OF_BYTE ≡ 256
kinds_count = refl

pub kind-table : (b : ℕ) → b < 256 → get_or KIND_OF_BYTE b 0 ≡ kind_of b
kind-table b h = eqb-true (get_or KIND_OF_BYTE b 0) (kind_of b) (all_at-first (λ b k. nat_eq k (kind_of b)) KIND_OF_BYTE b (get_or KIND_OF_BYTE b 0) kinds-checked (slice_get-get_or KIND_OF_BYTE b 0 (omega (arith, kinds_count))))
