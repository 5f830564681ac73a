-- A block is held exactly while a later key uses it.
use Rattle.std.proofs.Common.{◌≡◌, ℕ, ◌<◌, ◌≤◌, Bool, List, [], length, get_or, sym, ap, ◌∙◌, inl, inr, arith}
use Rattle.std.specs.Prelude.{Option, None, IsSome, is_some, Contains, ◌↔◌, IsTrue}
use Rattle.std.specs.Arc.{arc_value}
use Rattle.std.specs.declared.sync.Arc.{Arc}
use Rattle.std.specs.declared.alloc.Global.{Global}
use Rattle.std.proofs.lemmas.Bool.{cases_lt}
use Rattle.std.proofs.lemmas.List.{get_or_past, get_or_read}
use Rattle.small_facts.proofs.Options.{is_some_of_map}
use Rattle.cluster_msgs.specs.Shape.{Shape, key_count, deps_of}
use Rattle.graph_run.specs.Slots.{block_at, AreKept}
use Rattle.graph_run.specs.Uses.{AreLastUses, IsUsedFrom}

none-some : {B : Type 0} (o : Option B) (P : Type 0) → o ≡ None → IsSome o → P
none-some o P e h = let no : ⊥ = cc in absurd no

-- only a key of the graph has dependencies
user-within : (g : Shape) (user k : ℕ) → Contains (deps_of g user) k → user < key_count g
user-within g user k m = elim (cases_lt user (key_count g)) [
  | inl lt ↦ lt
  | inr past ↦
      let empty : deps_of g user ≡ [] = get_or_past g.deps user [] past in
      let within : m.0 < length (deps_of g user) = m.1 in
      let none : length (deps_of g user) ≡ 0 = ap length empty in
      absurd (omega arith)
]

module _ {B : Type 0} (g : Shape) (last : List ℕ) (next : ℕ) (slots : List (Option (Arc B Global))) (uses : AreLastUses (deps_of g) (key_count g) last) (kept : AreKept last next slots) (k : ℕ) (known : k < key_count g) where
  used-later : k < next → next ≤ get_or last k 0 → IsUsedFrom (deps_of g) next k
  used-later lt later = elim ((uses.each k known).is_one) [
    | inl e ↦ let itself : get_or last k 0 ≡ k = e in absurd (omega arith)
    | inr h ↦ (get_or last k 0, later, h.1)
  ]

  held-used : IsSome (block_at slots k) → (k < next) × IsUsedFrom (deps_of g) next k
  held-used h = elim (cases_lt k next) [
    | inr ahead ↦ none-some _ _ (kept.ahead k ahead) h
    | inl lt ↦ elim (cases_lt (get_or last k 0) next) [
      | inl spent ↦ none-some _ _ (kept.gone k lt spent) h
      | inr later ↦ (lt, used-later lt later)
    ]
  ]

  used-held : (k < next) × IsUsedFrom (deps_of g) next k → IsSome (block_at slots k)
  used-held u =
      let user : ℕ = u.1.0 in
      let from : next ≤ user = u.1.1 in
      let reached : user ≤ get_or last k 0 = (uses.each k known).after_all user (user-within g user k u.1.2) u.1.2 in
      kept.kept k u.0 (omega arith)

  -- as the slot of the key tells
  pub held-at : (slot : Option (Arc B Global)) (there : Bool) → slot ≡ get_or slots k slot → k < length slots → there ≡ is_some slot → IsTrue there ↔ ((k < next) × IsUsedFrom (deps_of g) next k)
  held-at slot there at lt is =
      let same : there ≡ is_some (block_at slots k) = is ∙ ap is_some (get_or_read slots k slot lt at None) ∙ sym (is_some_of_map arc_value (get_or slots k None)) in
      (λ h. held-used (sym same ∙ h), λ u. same ∙ used-held u)
