use Rattle.std.proofs.Common.{◌≡◌, Some, sym, ap, ◌∙◌}
use Rattle.msgpack_frames.specs.Groups.{Progress}
use Rattle.msgpack_frames.proofs.Streams.{stays_refused}
use Rattle.msgpack_frames.proofs.stream.FrameReader.feed.Goals as goal

pub returns-in-Some-clause-reading : goal.returns-in-Some-clause-reading
returns-in-Some-clause-reading c = λ stream taken reading fed.
    let fault : c.args.self.now.fault ≡ Some c.in-Some.fault = ap (λ (p : Progress). p.fault) (sym c.self.view_is) ∙ c.in-Some.is in
    stays_refused stream c.args.piece.now taken c.args.self.now c.in-Some.fault reading fault
