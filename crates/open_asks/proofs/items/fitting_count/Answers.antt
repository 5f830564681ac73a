use Rattle.std.proofs.Common.{◌≡◌, ◌<◌, ◌∙◌, ◌+◌, ◌||◌, cond, ap, sym, arith, length, take}
use Rattle.std.specs.Prelude.{◌==◌, nat_le}
use Rattle.cluster_rules.specs.Worker.{first_fit, total_bytes}
use Rattle.open_asks.proofs.AskLemmas.{fits_more, bytes_more, first_is, byte_is, byte_small}
use Rattle.open_asks.proofs.items.fitting_count.Goals as goal

pub loop-place-preserved : goal.loop-place-preserved
loop-place-preserved c =
    let g = c.args.shape.now in
    let is = c.args.items.now in
    let n = c.loop-place.place in
    let v = c.loop-place.invariant in
    let inside : n < length is = omega (arith, c.min-place-end.ensures) in
    let bytes : c.loop-place.bytes + c.nbytes-bytes.result ≡ total_bytes g (take (n + 1) is) = ap (λ b. b + c.nbytes-bytes.result) v.bytes ∙ ap (λ b. total_bytes g (take n is) + b) c.nbytes-bytes.ensures.value ∙ sym (bytes_more g is n (0, 0) inside) in
    let turned : n + 1 ≡ 1 + n = omega arith in
    let one : c.from-count.result ≡ cond (first_fit g is (1 + n)) 1 0
    = c.from-count.ensures
    ∙ byte_is ((n == 0) || nat_le (c.loop-place.bytes + c.nbytes-bytes.result) 67108864)
    ∙ ap (λ t. cond (t || nat_le (c.loop-place.bytes + c.nbytes-bytes.result) 67108864) 1 0) (first_is n)
    ∙ ap (λ m. cond (((1 + n) == 1) || nat_le m 67108864) 1 0) (bytes ∙ ap (λ m. total_bytes g (take m is)) turned) in
    record {
      bytes = bytes;
      light = omega (arith, v.light, c.nbytes-bytes.ensures.bound);
      counted = ap (λ m. c.loop-place.count + m) one ∙ ap (λ m. m + cond (first_fit g is (1 + n)) 1 0) v.counted ∙ sym (fits_more (first_fit g is) n);
      few = omega (arith, v.few, c.from-count.ensures, byte_small ((n == 0) || nat_le (c.loop-place.bytes + c.nbytes-bytes.result) 67108864));
    }
