use Rattle.std.proofs.Common.{subst, ap, ◌∙◌, ◌++◌}
use Rattle.std.specs.List.{flat_map}
use Rattle.sha2.specs.Hashers.{Holds512_256}
use Rattle.spill_store.proofs.Bytes.{fed_more}
use Rattle.spill_store.proofs.block_bytes.digest_of.Goals as goal

pub loop-rest-preserved : goal.loop-rest-preserved
loop-rest-preserved c =
    let flat = c.as_flattened.ensures.value ∙ ap (flat_map (λ x. x)) c.as_slice.ensures.value in
    fed_more c.args.cells.now c.loop-rest.rest.now c.split_at.result.0.now c.split_at.result.1.now c.in_ok-words.words.items c.loop-rest.hasher c.update.new.self
    c.loop-rest.invariant c.split_at.ensures.by_index.0 c.in_ok-words.ensures.words c.in_ok-words.ensures.fits
    (λ m h. subst (λ b. Holds512_256 c.update.new.self (m ++ b)) flat (c.update.ensures m h))
