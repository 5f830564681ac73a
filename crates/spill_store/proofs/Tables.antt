-- Tables in the order of use: what their changes do to each key.
use Rattle.std.proofs.Common.{◌≡◌, ℕ, zero, suc, ◌-◌, ◌≤◌, ◌<◌, Bool, true, false, cond, List, [], ◌∷◌, ◌++◌, length, take, Option, Some, None, refl, sym, ap, ap₂, subst, ◌∙◌, arith}
use Rattle.std.specs.Prelude.{IfSome, OnErr, OnOk, Result, Ok, Err, nat_eq, slice_get}
use Rattle.std.specs.Cmp.{nat_eq_equiv}
use Rattle.std.specs.List.{IsDistinct, AllByRecursion}
use Rattle.std.specs.Option.{option_map_or}
use Rattle.std.specs.Map.{keys_of, lookup, lookup_entry, remove_entry}
use Rattle.std.proofs.lemmas.Bool.{eqb-true}
use Rattle.std.proofs.lemmas.List.{take_all}
use Rattle.std.proofs.lemmas.Map.{lookup-remove_entry}
use Rattle.lru.specs.LruCache.{LruCache, lru_cache, put_entries, promoted}
use Rattle.lru.proofs.CallerLemmas.{Contains-lookup_entry}
use Rattle.spill_store.specs.Table.{put_first, ChangesAt, IsLast, SameValues}

is_test : (k x y : ℕ) → nat_eq k x ≡ true → nat_eq k y ≡ nat_eq x y
is_test k x y h = nat_eq_equiv.congr k x y h

turned : (k q : ℕ) → nat_eq q k ≡ nat_eq k q
turned k q = nat_eq_equiv.symm q k

pub over : {X : Type 0} (b : Bool) (v w l : X) → cond b v (cond b w l) ≡ cond b v l
over true v w l = refl
over false v w l = refl

module _ {V : Type 0} where
  pub removed_at : (key : ℕ) (es : List (ℕ × V)) → IsDistinct nat_eq (keys_of es) → ChangesAt key None es (remove_entry (nat_eq key) es)
  removed_at key es d = record { each = λ q. lookup-remove_entry nat_eq_equiv (nat_eq key) (is_test key) q es d }

  pub put_at : (key : ℕ) (value : V) (es : List (ℕ × V)) → IsDistinct nat_eq (keys_of es) → ChangesAt key (Some value) es (put_first key value es)
  put_at key value es d = record {
    each = λ q.
        ap (λ b. cond b (Some value) (lookup (nat_eq q) (remove_entry (nat_eq key) es))) (turned key q)
        ∙ ap (cond (nat_eq key q) (Some value)) ((removed_at key es d).each q)
        ∙ over (nat_eq key q) (Some value) None (lookup (nat_eq q) es);
  }

  none_removed : (test : ℕ → Bool) (es : List (ℕ × V)) → lookup_entry test es ≡ None → remove_entry test es ≡ es
  none_removed test [] h = refl
  none_removed test (e ∷ es) h = (elim (test e.0) as (λ b. cond b (Some e) (lookup_entry test es) ≡ None → cond b es (e ∷ remove_entry test es) ≡ e ∷ es) [
    | true ↦ λ g. cc
    | false ↦ λ g. ap (λ l. e ∷ l) (none_removed test es g)
  ]) h

  by_entry : (c : LruCache ℕ V) (k : ℕ) (v : V) (o : Option (ℕ × V)) → length c.entries ≤ c.cap - 1 → lookup_entry (nat_eq k) c.entries ≡ o
      → option_map_or (λ e. (e.0, v) ∷ remove_entry (nat_eq k) c.entries) o ((k, v) ∷ take (c.cap - 1) c.entries) ≡ put_first k v c.entries
  by_entry c k v None room h = ap (λ l. (k, v) ∷ l) (take_all (c.cap - 1) c.entries room ∙ sym (none_removed (nat_eq k) c.entries h))
  by_entry c k v (Some e) room h = ap (λ j. (j, v) ∷ remove_entry (nat_eq k) c.entries) (sym (eqb-true k e.0 (Contains-lookup_entry (nat_eq k) c.entries e h).1))

  -- where nothing has to go, `put` puts the value first
  pub put_is_first : (c : LruCache ℕ V) (k : ℕ) (v : V) → length c.entries ≤ c.cap - 1 → put_entries nat_eq c k v ≡ put_first k v c.entries
  put_is_first c k v room = by_entry c k v (lookup_entry (nat_eq k) c.entries) room refl

  entry_of : (key : ℕ) (es : List (ℕ × V)) (v : V) → lookup (nat_eq key) es ≡ Some v → lookup_entry (nat_eq key) es ≡ Some (key, v)
  entry_of key [] v h = cc
  entry_of key (e ∷ es) v h = (elim (nat_eq key e.0) as (λ b. nat_eq key e.0 ≡ b → cond b (Some e.1) (lookup (nat_eq key) es) ≡ Some v → cond b (Some e) (lookup_entry (nat_eq key) es) ≡ Some (key, v)) [
    | true ↦ λ t g. let w : e.1 ≡ v = cc in ap₂ (λ j x. Some (j, x)) (sym (eqb-true key e.0 t)) w
    | false ↦ λ t g. entry_of key es v g
  ]) refl h

  -- a key that is used is put first with the value that it has
  pub promoted_is_first : (key : ℕ) (es : List (ℕ × V)) (v : V) → lookup (nat_eq key) es ≡ Some v → promoted (nat_eq key) es ≡ put_first key v es
  promoted_is_first key es v h = ap (λ o. option_map_or (λ e. e ∷ remove_entry (nat_eq key) es) o es) (entry_of key es v h)

  apart_at : (k : ℕ) (es : List (ℕ × V)) (i : ℕ) (e : ℕ × V) → AllByRecursion (λ y. nat_eq k y ≡ false) (keys_of es) → slice_get es i ≡ Some e → nat_eq k e.0 ≡ false
  apart_at k [] i e all h = cc
  apart_at k (x ∷ es) zero e all h = let s : x ≡ e = cc in subst (λ y. nat_eq k y.0 ≡ false) s all.0
  apart_at k (x ∷ es) (suc i) e all h = apart_at k es i e all.1 h

  no_entry : (key : ℕ) (es : List (ℕ × V)) → lookup (nat_eq key) es ≡ None → lookup_entry (nat_eq key) es ≡ None
  no_entry key [] h = refl
  no_entry key (e ∷ es) h = (elim (nat_eq key e.0) as (λ b. cond b (Some e.1) (lookup (nat_eq key) es) ≡ None → cond b (Some e) (lookup_entry (nat_eq key) es) ≡ None) [
    | true ↦ λ g. cc
    | false ↦ λ g. no_entry key es g
  ]) h

  not_promoted : (key : ℕ) (es : List (ℕ × V)) → lookup (nat_eq key) es ≡ None → promoted (nat_eq key) es ≡ es
  not_promoted key es h = ap (λ o. option_map_or (λ e. e ∷ remove_entry (nat_eq key) es) o es) (no_entry key es h)

  with_own : (key q : ℕ) (es : List (ℕ × V)) (v : V) (b : Bool) → lookup (nat_eq key) es ≡ Some v → nat_eq key q ≡ b → cond b (Some v) (lookup (nat_eq q) es) ≡ lookup (nat_eq q) es
  with_own key q es v true h t = sym (subst (λ j. lookup (nat_eq j) es ≡ Some v) (eqb-true key q t) h)
  with_own key q es v false h t = refl

  used_by : (key : ℕ) (es : List (ℕ × V)) (o : Option V) → IsDistinct nat_eq (keys_of es) → lookup (nat_eq key) es ≡ o → SameValues es (promoted (nat_eq key) es)
  used_by key es None d h = record { each = λ q. ap (lookup (nat_eq q)) (not_promoted key es h) }
  used_by key es (Some v) d h = record { each = λ q. ap (lookup (nat_eq q)) (promoted_is_first key es v h) ∙ (put_at key v es d).each q ∙ with_own key q es v (nat_eq key q) h refl }

  -- using a key changes no value
  pub used_same : (key : ℕ) (es : List (ℕ × V)) → IsDistinct nat_eq (keys_of es) → SameValues es (promoted (nat_eq key) es)
  used_same key es d = used_by key es (lookup (nat_eq key) es) d refl

  first_by : (key : ℕ) (es : List (ℕ × V)) (o : Option V) → lookup (nat_eq key) es ≡ o → IfSome o (λ v. promoted (nat_eq key) es ≡ put_first key v es)
  first_by key es None h = tt
  first_by key es (Some v) h = promoted_is_first key es v h

  pub used_first : (key : ℕ) (es : List (ℕ × V)) → IfSome (lookup (nat_eq key) es) (λ v. promoted (nat_eq key) es ≡ put_first key v es)
  used_first key es = first_by key es (lookup (nat_eq key) es) refl

  -- the last entry is what is left where all others go
  last_at : (es : List (ℕ × V)) (i : ℕ) (e : ℕ × V) → IsDistinct nat_eq (keys_of es) → length es ≡ suc i → slice_get es i ≡ Some e → es ≡ remove_entry (nat_eq e.0) es ++ e ∷ []
  unfolding IsDistinct
  last_at [] i e d n h = cc
  last_at (x ∷ []) zero e d n h =
      let s : x ≡ e = cc in
      subst (λ (y : ℕ × V). (x ∷ []) ≡ remove_entry (nat_eq y.0) (x ∷ []) ++ y ∷ []) s (ap (λ b. cond b [] (x ∷ []) ++ x ∷ []) (sym (nat_eq_equiv.refl x.0)))
  last_at (x ∷ []) (suc i) e d n h = cc
  last_at (x ∷ y ∷ es) zero e d n h = absurd (omega (arith, n))
  last_at (x ∷ y ∷ es) (suc i) e d n h =
      let rest = last_at (y ∷ es) i e d.1 (omega (arith, n)) h in
      let apart : nat_eq x.0 e.0 ≡ false = apart_at x.0 (y ∷ es) i e d.0 h in
      ap (λ l. x ∷ l) rest ∙ ap (λ b. cond b (y ∷ es) (x ∷ remove_entry (nat_eq e.0) (y ∷ es)) ++ e ∷ []) (sym (turned x.0 e.0 ∙ apart))

  lookup_behind : (test : ℕ → Bool) (es fs : List (ℕ × V)) → lookup test es ≡ None → lookup test (es ++ fs) ≡ lookup test fs
  lookup_behind test [] fs h = refl
  lookup_behind test (e ∷ es) fs h = (elim (test e.0) as (λ b. cond b (Some e.1) (lookup test es) ≡ None → cond b (Some e.1) (lookup test (es ++ fs)) ≡ lookup test fs) [
    | true ↦ λ g. cc
    | false ↦ λ g. lookup_behind test es fs g
  ]) h

  there_at : (k : ℕ) (v : V) (es : List (ℕ × V)) → IsDistinct nat_eq (keys_of es) → es ≡ remove_entry (nat_eq k) es ++ (k, v) ∷ [] → lookup (nat_eq k) es ≡ Some v
  there_at k v es d last =
      let gone : lookup (nat_eq k) (remove_entry (nat_eq k) es) ≡ None = (removed_at k es d).each k ∙ ap (λ b. cond b None (lookup (nat_eq k) es)) (nat_eq_equiv.refl k) in
      ap (lookup (nat_eq k)) last ∙ lookup_behind (nat_eq k) (remove_entry (nat_eq k) es) ((k, v) ∷ []) gone ∙ ap (λ b. cond b (Some v) None) (nat_eq_equiv.refl k)

  pub last_apart : (es : List (ℕ × V)) (e : ℕ × V) → IsDistinct nat_eq (keys_of es) → slice_get es (length es - 1) ≡ Some e → IsLast es e.0 e.1
  last_apart [] e d h = cc
  last_apart (x ∷ es) e d h =
      let n : length (x ∷ es) - 1 ≡ length es = omega arith in
      let last = last_at (x ∷ es) (length es) e d refl (subst (λ i. slice_get (x ∷ es) i ≡ Some e) n h) in
      record { last = last; there = there_at e.0 e.1 (x ∷ es) d last }

  none_at : (es : List (ℕ × V)) (i : ℕ) → i < length es → slice_get es i ≡ None → ⊥
  none_at [] i l h = absurd (omega arith)
  none_at (e ∷ es) zero l h = cc
  none_at (e ∷ es) (suc i) l h = none_at es i (omega arith) h

  pub none_last : (es : List (ℕ × V)) → slice_get es (length es - 1) ≡ None → es ≡ []
  none_last [] h = refl
  none_last (x ∷ es) h =
      let n : length (x ∷ es) - 1 ≡ length es = omega arith in
      absurd (none_at (x ∷ es) (length es) (omega arith) (subst (λ i. slice_get (x ∷ es) i ≡ None) n h))

  -- the capacity stays
  pub cap_stays : {T E : Type 0} (r : Result T E) (es : List (ℕ × V)) (old new : LruCache ℕ V) → OnOk r (new ≡ lru_cache es old.cap) → OnErr r (new ≡ old) → new.cap ≡ old.cap
  cap_stays (Ok x) es old new ok err = ap (λ c. c.cap) ok
  cap_stays (Err x) es old new ok err = ap (λ c. c.cap) err
