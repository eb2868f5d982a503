-- Stages that come to one result, in front of others.
use Rattle.std.proofs.Common.{◌≡◌, Ok, Err, subst}
use Rattle.npf_types.specs.Stages.{Stage, ◌andthen◌, stops, goes_on}
use Rattle.npf_ctl_messages.specs.declared.fault.CommandFault.{CommandFault}
use Rattle.npf_config_changes.specs.ChangeLaws.{HasOneResult}
use Rattle.npf_ctl_prepare_law.specs.Readings.{Agree, equal}

-- what is behind a stage that comes to one result goes by that result
pub behind_one :
    {A B : Type 0} (After : B → B → Type 0) (first : Stage A CommandFault) (next last : A → Stage B CommandFault) → HasOneResult first →
    ((a : A) → Agree After (next a) (last a)) → Agree After (first andthen next) (first andthen last)
behind_one After first next last once agree _ _ (stops {fault = f} is) (stops {fault = g} there) = let same = once (Err f) (Err g) is there in equal cc
behind_one After first next last once agree _ two (stops {fault = f} is) (goes_on {a = b} there _) = let same = once (Err f) (Ok b) is there in cc
behind_one After first next last once agree one _ (goes_on {a = a} is _) (stops {fault = g} there) = let same = once (Ok a) (Err g) is there in cc
behind_one {A} After first next last once agree one two (goes_on {a = a} is more) (goes_on {a = b} there also) =
    let firsts = once (Ok a) (Ok b) is there in
    let same : b ≡ a = cc in
    agree a one two more (subst (λ (x : A). last x two) same also)
