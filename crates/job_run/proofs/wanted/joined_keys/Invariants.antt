use Rattle.std.proofs.Common.{◌≡◌, take}
use Rattle.std.specs.List.{flat_map}
use Rattle.job_run.proofs.wanted.joined_keys.Given as goal

abbrev pub invariant-loop-keys : goal.invariant-loop-keys
invariant-loop-keys l = l.all.items ≡ flat_map (λ ks. ks) (take l.keys-index l.lists)
