-- What rules ask of kinds of packets.
use Rattle.std.specs.Prelude.{Bool, true, false, not, Option, Some, None}
use Rattle.npf_types.specs.declared.decision.Decision.{Decision}
use Rattle.npf_types.specs.declared.decision.Decision.TheVariants.{Pass, Block}
use Rattle.npf_model.specs.declared.rule.StateOpt.{StateOpt}
use Rattle.npf_model.specs.declared.rule.StateOpt.TheVariants.{Not, OnInterface, Everywhere}
use Rattle.npf_products.specs.declared.kind.IpFamily.{IpFamily}
use Rattle.npf_products.specs.Kind.{is_inet6_family}

-- the family is the one that is asked for, if one is
abbrev pub family_allows : Option Bool → IpFamily → Bool
family_allows None family = true
family_allows (Some true) family = is_inet6_family family
family_allows (Some false) family = not (is_inet6_family family)

-- a rule that keeps what it passes
abbrev pub keeps_passed : Decision → StateOpt → Bool
keeps_passed (Block answer) state = false
keeps_passed Pass Not = false
keeps_passed Pass OnInterface = true
keeps_passed Pass Everywhere = true
