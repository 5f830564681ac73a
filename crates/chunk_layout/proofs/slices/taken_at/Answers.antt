use Rattle.std.proofs.Common.{arith, ◌≡◌, ◌<◌, ◌≤◌, ◌+◌, ◌-◌, ◌/◌, ◌^◌, ℕ, get_or, ap, ◌∙◌, min, refl, rules, ℤ, w64, to_z-of_z}
use mir.Val.{SFits, of_z, to_z}
use Rattle.std.specs.Prelude.{unsigned_abs}
use Rattle.nd_shape.specs.Slice.{coordinate}
use Rattle.nd_shape.specs.Chunk.{total}
use Rattle.chunk_layout.specs.Layouts.{chunk_of}
use Rattle.chunk_layout.specs.Slicing.{room_ahead}
use Rattle.chunk_layout.proofs.Running.{inside, chunk-range, is_run}
use Rattle.chunk_layout.proofs.slices.taken_at.Goals as goal

pub coordinate_of-index-requires-clause-small : goal.coordinate_of-index-requires-clause-small
coordinate_of-index-requires-clause-small c =
    let l : coordinate c.args.steps c.args.at < total c.args.cuts.now = inside c.args.steps (total c.args.cuts.now) c.args.at c.requires.fits.fits c.requires.there in
    let s : total c.args.cuts.now ≤ 2 ^ 31 = c.starts-starts.ensures.cut.small in
    omega arith

pub room_of-room-requires-clause-low : goal.room_of-room-requires-clause-low
room_of-room-requires-clause-low c =
    let l : coordinate c.args.steps c.args.at < total c.args.cuts.now = inside c.args.steps (total c.args.cuts.now) c.args.at c.requires.fits.fits c.requires.there in
    let e : c.coordinate_of-index.result ≡ coordinate c.args.steps c.args.at = c.coordinate_of-index.ensures in
    let r = chunk-range c.args.cuts.now c.starts-starts.result.now c.chunk_at-chunk.result c.coordinate_of-index.result c.starts-starts.ensures.starts (omega arith) c.chunk_at-chunk.ensures.chunk in
    r.low

pub room_of-room-requires-clause-high : goal.room_of-room-requires-clause-high
room_of-room-requires-clause-high c =
    let l : coordinate c.args.steps c.args.at < total c.args.cuts.now = inside c.args.steps (total c.args.cuts.now) c.args.at c.requires.fits.fits c.requires.there in
    let e : c.coordinate_of-index.result ≡ coordinate c.args.steps c.args.at = c.coordinate_of-index.ensures in
    let r = chunk-range c.args.cuts.now c.starts-starts.result.now c.chunk_at-chunk.result c.coordinate_of-index.result c.starts-starts.ensures.starts (omega arith) c.chunk_at-chunk.ensures.chunk in
    r.high

pub overflow_sub-result : goal.overflow_sub-result
overflow_sub-result c =
    let l : coordinate c.args.steps c.args.at < total c.args.cuts.now = inside c.args.steps (total c.args.cuts.now) c.args.at c.requires.fits.fits c.requires.there in
    let e : c.coordinate_of-index.result ≡ coordinate c.args.steps c.args.at = c.coordinate_of-index.ensures in
    let r = chunk-range c.args.cuts.now c.starts-starts.result.now c.chunk_at-chunk.result c.coordinate_of-index.result c.starts-starts.ensures.starts (omega arith) c.chunk_at-chunk.ensures.chunk in
    r.low

pub returns : goal.returns
returns c =
    let l : coordinate c.args.steps c.args.at < total c.args.cuts.now = inside c.args.steps (total c.args.cuts.now) c.args.at c.requires.fits.fits c.requires.there in
    let e : c.coordinate_of-index.result ≡ coordinate c.args.steps c.args.at = c.coordinate_of-index.ensures in
    let r = chunk-range c.args.cuts.now c.starts-starts.result.now c.chunk_at-chunk.result c.coordinate_of-index.result c.starts-starts.ensures.starts (omega arith) c.chunk_at-chunk.ensures.chunk in
    let fits : SFits w64 c.args.steps.step = search rules in
    let tz : to_z w64 (of_z w64 c.args.steps.step) ≡ c.args.steps.step = to_z-of_z fits in
    let low = get_or c.starts-starts.result.now c.chunk_at-chunk.result 0 in
    let high = get_or c.starts-starts.result.now (c.chunk_at-chunk.result + 1) 0 in
    is_run c.args.cuts.now c.args.steps c.args.at low high c.min-count.result c.room_of-room.result
    (record { chunk = c.chunk_at-chunk.result; steps = record { start = c.coordinate_of-index.result - low; step = to_z w64 (of_z w64 c.args.steps.step); count = c.min-count.result } })
    c.requires.fits c.requires.there (c.chunk_at-chunk.ensures.chunk ∙ ap (chunk_of c.args.cuts.now) e) r.low_is r.high_is
    (c.room_of-room.ensures ∙ ap (λ (z : ℤ). room_ahead z c.coordinate_of-index.result low high) tz ∙ ap (λ (x : ℕ). room_ahead c.args.steps.step x low high) e)
    (c.min-count.ensures ∙ ap (λ (x : ℕ). min (c.room_of-room.result / x + 1) (c.args.steps.count - c.args.at)) (c.unsigned_abs-size.ensures.value ∙ ap unsigned_abs tz))
    (ap (λ (x : ℕ). x - low) e) tz refl
