use Rattle.std.proofs.Common.{refl}
use Rattle.block_lowering.proofs.Standing.{is-shortened}
use Rattle.block_lowering.proofs.layouts.first_chunks.Goals as goal

pub returns : goal.returns
returns c =
    is-shortened 32768 c.args.len c.args.size c.cut_from.result c.push.new.self.items c.in_ok-sizes.sizes.items refl c.requires (c.in_ok-sizes.ensures.items_if_clones_equal (λ y h. h)) c.in_ok-push.ensures.items c.cut_from.ensures
