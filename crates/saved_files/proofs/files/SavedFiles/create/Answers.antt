use Rattle.std.proofs.Common.{List, sym, subst}
use Rattle.std.specs.Prelude.{All}
use Rattle.std.proofs.lemmas.List.Elements.{All-push}
use Rattle.saved_files.specs.declared.open.OpenFile.{OpenFile}
use Rattle.saved_files.specs.Kept.{IsKept}
use Rattle.saved_files.proofs.files.SavedFiles.create.Goals as goal

pub invariant_of-self-2 : goal.invariant_of-self-2
invariant_of-self-2 g c =
    let P : OpenFile g.row.F.Denot → Type 0 = IsKept g.F.OutFile.content in
    subst (λ (l : List (OpenFile g.row.F.Denot)). All P l) (sym c.push_reserved.ensures.items)
    (All-push P c.reserve.new.self.items c.in_ok-file.file (subst (λ (l : List (OpenFile g.row.F.Denot)). All P l) (sym c.reserve.ensures.items) c.self.invariant) c.in_ok-file.ensures.kept)
