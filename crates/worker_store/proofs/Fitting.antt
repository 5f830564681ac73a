-- What is kept goes on fitting the label, and so does what is handed out.
use Rattle.std.proofs.Common.{◌≡◌, ◌⊎◌, ℕ, Bool, true, false, Option, Some, None, inl, inr, refl, sym, ap, ap₂, ◌∙◌, subst}
use Rattle.std.specs.Prelude.{IfSome, IsTrue, nat_eq}
use Rattle.std.specs.Map.{lookup}
use Rattle.std.proofs.lemmas.Bool.{eqb-true}
use Rattle.nd_shape.specs.Block.{Array}
use Rattle.io_edge.specs.Disk.{DiskView}
use Rattle.cluster_msgs.specs.Labels.{LabelFacts, BlockFits}
use Rattle.spill_store.specs.Memory.{InMemory}
use Rattle.spill_store.specs.Shelves.{Shelved}
use Rattle.spill_store.specs.Store.{Kept, AllStay, ComesFrom, FindsHere, FindsNone, FindsThere, IsSame, Loses, OthersStay, Puts, Removes, SameDisk, away_in, block_at, empty_store}
use Rattle.spill_store.specs.declared.lost.LostBy.{LostBy}
use Rattle.spill_store.proofs.Maps.{block_by}
use Rattle.worker_store.specs.Keeping.{AllFit, IsDiskFor, IsStored, MemoryFits}
use Rattle.worker_store.proofs.Stocks.{away_is}

module _ {D : Type 0} (facts : LabelFacts Array) (view : D → DiskView) where
  -- the block that is kept under a key fits
  fits_at : (key : ℕ) (a : Array) (s : Kept D) → AllFit facts s → block_at s key ≡ Some a → BlockFits facts key a
  fits_at key a s f e = subst (λ o. IfSome o (BlockFits facts key)) e (f.each key)

  all_still : (s u : Kept D) → AllStay s u → AllFit facts s → AllFit facts u
  all_still s u all f = record { each = λ q. subst (λ o. IfSome o (BlockFits facts q)) (sym (all.each q)) (f.each q) }

  -- one key has another block, or none
  all_but : (key : ℕ) (o : Option Array) (s u : Kept D) → IfSome o (BlockFits facts key) → block_at u key ≡ o → OthersStay key s u
      → AllFit facts s → AllFit facts u
  all_but key o s u new here others f = record { each = λ q. by_key q (nat_eq key q) refl }
    where
      by_key : (q : ℕ) (b : Bool) → nat_eq key q ≡ b → IfSome (block_at u q) (BlockFits facts q)
      by_key q true t = subst (λ j. IfSome (block_at u j) (BlockFits facts j)) (eqb-true key q t) (subst (λ p. IfSome p (BlockFits facts key)) (sym here) new)
      by_key q false t = subst (λ p. IfSome p (BlockFits facts q)) (sym (others.each q t)) (f.each q)

  -- the disk stays, and serves the label as it did
  disk_still : (s t : Option (Shelved D)) → SameDisk view s t → IfSome s (λ h. IsDiskFor facts (view h.disk)) → IfSome t (λ h. IsDiskFor facts (view h.disk))
  disk_still None None f d = tt
  disk_still None (Some h) f d = absurd f
  disk_still (Some g) None f d = tt
  disk_still (Some g) (Some h) f d = record { shape = d.shape; told = λ t. subst IsTrue (sym f.0) (d.told t) }

  -- a block that came back from the disk fits as the one did that went there
  came_fits : (o : Option (Shelved D)) (key : ℕ) (a b : Array) → ComesFrom view o a b → IfSome o (λ h. IsDiskFor facts (view h.disk))
      → BlockFits facts key a → BlockFits facts key b
  came_fits None key a b c d f = absurd c
  came_fits (Some h) key a b c d f = record { dims = d.shape a b c.alike.shape ∙ f.dims; value = λ t. f.value t ∙ ap Some (sym (c.told (d.told t))) }

  pub none_stored : (disk : Option D) (limit : ℕ) → IfSome disk (λ d. IsDiskFor facts (view d)) → IsStored facts view (empty_store disk limit)
  none_stored None limit d = record { fit = record { each = λ q. tt }; disk = tt }
  none_stored (Some x) limit d = record { fit = record { each = λ q. tt }; disk = d }

  pub put_stored : (key : ℕ) (a : Array) (s u : Kept D) → IsStored facts view s → BlockFits facts key a → Puts view key a s u
      → SameDisk view s.shelf u.shelf → IsStored facts view u
  put_stored key a s u is f p same = record { fit = all_but key (Some a) s u f p.here p.others is.fit; disk = disk_still s.shelf u.shelf same is.disk }

  pub removed_stored : (key : ℕ) (s u : Kept D) → IsStored facts view s → Removes key s u → SameDisk view s.shelf u.shelf → IsStored facts view u
  removed_stored key s u is r same = record { fit = all_but key None s u tt r.gone r.others is.fit; disk = disk_still s.shelf u.shelf same is.disk }

  -- nothing that is kept changed
  pub same_stored : (s u : Kept D) → IsStored facts view s → IsSame s u → SameDisk view s.shelf u.shelf → IsStored facts view u
  same_stored s u is e same = record {
    fit = all_still s u (record { each = λ q. ap₂ block_by (ap (lookup (nat_eq q)) e.memory) (ap (lookup (nat_eq q)) e.away) }) is.fit;
    disk = disk_still s.shelf u.shelf same is.disk;
  }

  -- what is handed out fits
  pub found_fits : (key : ℕ) (a : Array) (s u : Kept D) → IsStored facts view s → FindsHere view key a s u ⊎ FindsThere view key a s u → BlockFits facts key a
  found_fits key a s u is (inl f) = fits_at key a s is.fit (ap (λ m. block_by m (lookup (nat_eq key) (away_in s.shelf))) f.uses.was)
  found_fits key a s u is (inr f) = came_fits s.shelf key f.array a f.comes is.disk (fits_at key f.array s is.fit (away_is key f.array s f.was))

  pub found_stored : (key : ℕ) (a : Array) (s u : Kept D) → IsStored facts view s → FindsHere view key a s u ⊎ FindsThere view key a s u
      → SameDisk view s.shelf u.shelf → IsStored facts view u
  found_stored key a s u is (inl f) same = record { fit = all_still s u f.all is.fit; disk = disk_still s.shelf u.shelf same is.disk }
  found_stored key a s u is (inr f) same = record {
    fit = all_but key (Some a) s u (found_fits key a s u is (inr f)) f.here f.others is.fit;
    disk = disk_still s.shelf u.shelf same is.disk;
  }

  pub missed_stored : (key : ℕ) (s u : Kept D) → IsStored facts view s → FindsNone view key s u → SameDisk view s.shelf u.shelf → IsStored facts view u
  missed_stored key s u is f same = record { fit = all_still s u f.all is.fit; disk = disk_still s.shelf u.shelf same is.disk }

  pub lost_stored : (key : ℕ) (by : LostBy) (s u : Kept D) → IsStored facts view s → Loses view key by s u → SameDisk view s.shelf u.shelf
      → IsStored facts view u
  lost_stored key by s u is f same = record { fit = all_but key None s u tt f.gone f.others is.fit; disk = disk_still s.shelf u.shelf same is.disk }

  -- what is in memory is kept
  pub memory_fits : (s : Kept D) → IsStored facts view s → MemoryFits facts s
  memory_fits s is = record { each = λ q. by_place q (lookup (nat_eq q) s.memory) (lookup (nat_eq q) (away_in s.shelf)) (is.fit.each q) }
    where
      by_place : (q : ℕ) (m : Option InMemory) (w : Option Array) → IfSome (block_by m w) (BlockFits facts q) → IfSome m (λ h. BlockFits facts q h.array)
      by_place q (Some h) w f = f
      by_place q None w f = tt
