-- What stays on a disk, and what it gives back.
use Rattle.std.proofs.Common.{◌≡◌, ℕ, Bool, true, false, cond, List, [], length, Option, Some, None, refl, sym, ap, subst, ◌∙◌}
use Rattle.std.specs.Prelude.{IfSome, IsTrue, nat_eq}
use Rattle.std.specs.Map.{lookup}
use Rattle.std.proofs.lemmas.Bool.{eqb-true}
use Rattle.small_facts.proofs.Options.{if_some_weaker}
use Rattle.sha2.specs.Sha512.{sha512_256}
use Rattle.nd_shape.specs.Block.{Array}
use Rattle.io_edge.specs.Disk.{DiskView, Copies, HoldsAt, KeepsAll, KeepsOthers, ReadsAt}
use Rattle.spill_store.specs.Table.{ChangesAt}
use Rattle.spill_store.specs.Blocks.{block_bytes, size_of_block, DiffersIn, IsBlock, IsOf}
use Rattle.spill_store.specs.Shelves.{AreThere, ComesBack, LosesBy}
use Rattle.spill_store.specs.declared.lost.LostBy.{LostBy}
use Rattle.spill_store.specs.declared.lost.LostBy.TheVariants.{Fault, Length, Digest}
use Rattle.spill_store.proofs.Bytes.{copied, same_cells, size_is}
use Rattle.spill_store.proofs.Tables.{over}

-- ## What stays on the disk

still_held : (v w : DiskView) (k : ℕ) (bytes : List ℕ) → w.tells ≡ v.tells → w.held k ≡ v.held k → HoldsAt v k bytes → HoldsAt w k bytes
still_held v w k bytes tells same h = λ t. same ∙ h (subst IsTrue tells t)

pub there_with : (v w : DiskView) (key : ℕ) (a : Array) (ws vs : List (ℕ × Array)) → AreThere v ws → ChangesAt key (Some a) ws vs → w.tells ≡ v.tells → HoldsAt w key (block_bytes a) → KeepsOthers key v w → AreThere w vs
there_with v w key a ws vs there c tells holds others = record { told = λ k. subst (λ o. IfSome o (λ b. HoldsAt w k (block_bytes b))) (sym (c.each k)) (by_key k (nat_eq key k) refl) }
  where
    by_key : (k : ℕ) (t : Bool) → nat_eq key k ≡ t → IfSome (cond t (Some a) (lookup (nat_eq k) ws)) (λ b. HoldsAt w k (block_bytes b))
    by_key k true e = subst (λ j. HoldsAt w j (block_bytes a)) (eqb-true key k e) holds
    by_key k false e = if_some_weaker (λ b. HoldsAt v k (block_bytes b)) (λ b. HoldsAt w k (block_bytes b)) (lookup (nat_eq k) ws) (λ b. still_held v w k (block_bytes b) tells (others.each k e)) (there.told k)

pub there_without : (v w : DiskView) (key : ℕ) (ws vs : List (ℕ × Array)) → AreThere v ws → ChangesAt key None ws vs → w.tells ≡ v.tells → KeepsOthers key v w → AreThere w vs
there_without v w key ws vs there c tells others = record { told = λ k. subst (λ o. IfSome o (λ b. HoldsAt w k (block_bytes b))) (sym (c.each k)) (by_key k (nat_eq key k) refl) }
  where
    by_key : (k : ℕ) (t : Bool) → nat_eq key k ≡ t → IfSome (cond t None (lookup (nat_eq k) ws)) (λ b. HoldsAt w k (block_bytes b))
    by_key k true e = tt
    by_key k false e = if_some_weaker (λ b. HoldsAt v k (block_bytes b)) (λ b. HoldsAt w k (block_bytes b)) (lookup (nat_eq k) ws) (λ b. still_held v w k (block_bytes b) tells (others.each k e)) (there.told k)

pub still_there : (v w : DiskView) (ws : List (ℕ × Array)) → AreThere v ws → w.tells ≡ v.tells → KeepsAll v w → AreThere w ws
still_there v w ws there tells all = record {
  told = λ k.
      if_some_weaker (λ b. HoldsAt v k (block_bytes b)) (λ b. HoldsAt w k (block_bytes b)) (lookup (nat_eq k) ws) (λ b. still_held v w k (block_bytes b) tells (all.each k)) (there.told k);
}

pub nothing_there : (v : DiskView) → AreThere v []
nothing_there v = record { told = λ k. tt }

pub nothing_in : (v : DiskView) (ws : List (ℕ × Array)) → ws ≡ [] → AreThere v ws
nothing_in v ws e = subst (λ vs. AreThere v vs) (sym e) (nothing_there v)

held_for : (v : DiskView) (key : ℕ) (a : Array) (ws : List (ℕ × Array)) → AreThere v ws → lookup (nat_eq key) ws ≡ Some a → HoldsAt v key (block_bytes a)
held_for v key a ws there e = subst (λ o. IfSome o (λ b. HoldsAt v key (block_bytes b))) e (there.told key)

pub changed_twice : (key : ℕ) (o p : Option Array) (ws vs us : List (ℕ × Array)) → ChangesAt key o ws vs → ChangesAt key p vs us → ChangesAt key p ws us
changed_twice key o p ws vs us c d = record { each = λ q. d.each q ∙ ap (cond (nat_eq key q) p) (c.each q) ∙ over (nat_eq key q) p o (lookup (nat_eq q) ws) }

-- ## What the disk gives back

-- a disk that tells what it holds gives the block's bytes
pub record IsToldBy (v : DiskView) (a : Array) (has : ℕ) (bytes : List ℕ) : Type 0 where
  pub count : IsTrue v.tells → has ≡ length bytes
  pub bytes_are : IsTrue v.tells → bytes ≡ block_bytes a

copies_of : (v : DiskView) (key : ℕ) (bytes old new : List ℕ) (has : ℕ) → ReadsAt v key old new has → IsTrue v.tells → v.held key ≡ Some bytes → Copies bytes old new has
copies_of v key bytes old new has r t e = subst (λ o. IfSome o (λ bs. Copies bs old new has)) e (r.told t)

is_told : (v : DiskView) (key : ℕ) (a : Array) (old new : List ℕ) (has : ℕ) → HoldsAt v key (block_bytes a) → ReadsAt v key old new has → IsBlock a → length old ≡ size_of_block a → length new ≡ length old → IsToldBy v a has new
is_told v key a old new has holds r whole long kept = record {
  count = λ t. let c = copies_of v key (block_bytes a) old new has r t (holds t) in c.count ∙ size_is a whole ∙ sym long ∙ sym kept;
  bytes_are = λ t. copied (block_bytes a) old new has (copies_of v key (block_bytes a) old new has r t (holds t)) (long ∙ sym (size_is a whole)) kept;
}

-- the same of bytes that were read into a buffer as long as the block
pub is_told_by : (v : DiskView) (key : ℕ) (a : Array) (ws : List (ℕ × Array)) (old new bytes : List ℕ) (has : ℕ) → AreThere v ws → lookup (nat_eq key) ws ≡ Some a → ReadsAt v key old new has → IsBlock a → length old ≡ size_of_block a → length new ≡ length old → bytes ≡ new → IsToldBy v a has bytes
is_told_by v key a ws old new bytes has there was r whole long kept is =
    subst (λ bs. IsToldBy v a has bs) (sym is) (is_told v key a old new has (held_for v key a ws there was) r whole long kept)

pub equal_arrays : (a b : Array) → b.shape ≡ a.shape → b.cells ≡ a.cells → b ≡ a
equal_arrays a b e f = λ i. record { shape = e i; cells = f i }

pub comes_back : (v : DiskView) (a b : Array) (has : ℕ) (bytes : List ℕ) → IsBlock a → IsOf a has bytes → b.shape ≡ a.shape → block_bytes b ≡ bytes → IsBlock b → IsToldBy v a has bytes → ComesBack v a b
comes_back v a b has bytes whole of shape made full told =
    let fits = full.fits in
    let same : block_bytes b ≡ block_bytes a → b ≡ a = λ e. equal_arrays a b shape (same_cells b.cells a.cells fits whole.fits e) in
    record {
      alike = record { shape = shape; digest = ap sha512_256 made ∙ of.digest; same = same; whole = full };
      told = λ t. same (made ∙ told.bytes_are t);
    }

not_told : (b : Bool) → (IsTrue b → ⊥) → b ≡ false
not_told true h = absurd (h refl)
not_told false h = refl

pub loses_by : (v w : DiskView) (a : Array) (has : ℕ) (bytes : List ℕ) (by : LostBy) → length bytes ≡ size_of_block a → IsToldBy v a has bytes → DiffersIn a has bytes by → LosesBy v w a by
loses_by v w a has bytes Fault long told d = absurd d
loses_by v w a has bytes (Length given needs) long told d =
    (d.1, not_told v.tells (λ t. d.1.differ (d.0 ∙ told.count t ∙ long ∙ sym d.1.needs_are)))
loses_by v w a has bytes (Digest kept found) long told d =
    ((bytes, d.1), not_told v.tells (λ t. d.1.differ (d.1.kept_is ∙ ap sha512_256 (sym (told.bytes_are t)) ∙ sym d.1.found_is)))
