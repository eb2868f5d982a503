use Rattle.std.proofs.Common.{arith}
use Rattle.npf_compare_maps.specs.MapDifference.{map_effect_on}
use Rattle.npf_compare_maps.proofs.SameLemmas.{written_alike}
use Rattle.npf_compare_maps.proofs.law.untold_is_same.Goals as goal

pub returns : goal.returns
returns c = λ old new told facts ifid dir passed.
    written_alike (map_effect_on old facts ifid dir) (map_effect_on new facts ifid dir) (λ other. absurd (omega (arith, (told.whole facts ifid dir passed other).1)))
