-- Files that stay the same but for what they hold.
use Rattle.std.proofs.Common.{◌≡◌, List, length, refl, ◌∙◌, arith}
use Rattle.saved_files.specs.Saving.{Saving}
use Rattle.job_run.specs.Evaluating.{AreSameFiles}

pub same-then : (old mid new : List Saving) → AreSameFiles old mid → AreSameFiles mid new → AreSameFiles old new
same-then old mid new a b =
    let count : length mid ≡ length old = a.count in
    record {
      count = b.count ∙ a.count;
      names = λ k h. b.names k (omega arith) ∙ a.names k h;
      dims = λ k h. b.dims k (omega arith) ∙ a.dims k h;
      told = λ k h t. b.told k (omega arith) (a.told k h t);
    }

pub same-files : (files : List Saving) → AreSameFiles files files
same-files files = record { count = refl; names = λ k h. refl; dims = λ k h. refl; told = λ k h t. t }
