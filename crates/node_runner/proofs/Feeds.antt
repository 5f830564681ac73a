-- Feeds of the run's job.
use Rattle.std.proofs.Common.{◌≡◌, Bool, sym, subst}
use Rattle.std.specs.Prelude.{Option, Some, IsTrue, ◌↔◌, Result, Ok, Err, IfOk}
use Rattle.node_runner.specs.Naming.{FitsRun}

module _ {J F : Type 0} (fits tells : J → F → Type 0) (told : Bool) (named : Option J) (job : J) (is : named ≡ Some job) where
  pub fits_named : (f : F) → FitsRun fits tells told named f → fits job f
  fits_named f h = (subst (λ n. FitsRun fits tells told n f) is h).0

  pub tells_named : (f : F) → FitsRun fits tells told named f → IsTrue told → tells job f
  tells_named f h = (subst (λ n. FitsRun fits tells told n f) is h).1

  -- after a call
  pub still_fits : (f g : F) → FitsRun fits tells told named f → fits job g → tells job g ↔ tells job f → FitsRun fits tells told named g
  still_fits f g h new same = subst (λ n. FitsRun fits tells told n g) (sym is) (new, λ t. same.1 (tells_named f h t))

-- what one fact of a result tells of another
pub if_ok : {A E : Type 0} (P Q : A → Type 0) → ((x : A) → P x → Q x) → (r : Result A E) → IfOk r P → IfOk r Q
if_ok P Q f (Ok x) h = f x h
if_ok P Q f (Err e) h = tt
