use Rattle.std.proofs.Common.{◌≡◌, ◌≤◌, ◌*◌, take}
use Rattle.npf_possible.specs.Witness.{sum_of_pairs}
use Rattle.npf_ctl_witnesses.proofs.checksum.checksum_of.Given as goal

abbrev pub invariant-loop-place : goal.invariant-loop-place
invariant-loop-place l = record { summed : l.total ≡ sum_of_pairs (take l.place l.bytes); small : l.total ≤ 65280 * l.place }
