-- When a configuration meets an expectation. All is said by what it means: of all packets that there can be, which ones a class's rule describes,
-- and which rule decides.
use Rattle.std.specs.Prelude.{◌≡◌, Bool, true, false}
use Rattle.npf_types.specs.declared.direction.Dir.{Dir}
use Rattle.npf_types.specs.declared.facts.Facts.{Facts}
use Rattle.npf_types.specs.declared.interface.IfId.{IfId}
use Rattle.npf_model.specs.declared.rule.Rule.{Rule}
use Rattle.npf_model.specs.Configuration.{Configuration, verdict_of}
use Rattle.npf_judge.specs.Deciders.{IsClassPacket}
use Rattle.npf_judge.specs.Says.{HasTreated, place_passes}
use Rattle.npf_ctl_check.specs.declared.expectation.Amount.{Amount}
use Rattle.npf_ctl_check.specs.declared.expectation.Amount.TheVariants.{Each, One}
use Rattle.npf_ctl_check.specs.declared.expectation.Expectation.{Expectation}
use Rattle.npf_ctl_check.specs.declared.expectation.WantedDecision.{WantedDecision}
use Rattle.npf_ctl_check.specs.declared.expectation.WantedDecision.TheVariants.{Pass, Block}

abbrev pub wants_pass : WantedDecision → Bool
wants_pass Pass = true
wants_pass Block = false

-- every packet of the class that there can be is passed, or is blocked
abbrev pub EachTreated : Configuration → Rule → Bool → Type 0
EachTreated config class passed = (facts : Facts) (ifid : IfId) (dir : Dir) → IsClassPacket config.tables class facts ifid dir
    → place_passes config.model (verdict_of config facts ifid dir) ≡ passed

-- so many are
abbrev pub AreSoTreated : Configuration → Rule → Bool → Amount → Type 0
AreSoTreated config class passed Each = EachTreated config class passed
AreSoTreated config class passed One = HasTreated config class passed

abbrev pub MeetsExpectation : Configuration → Expectation → Type 0
MeetsExpectation config expectation = AreSoTreated config expectation.class (wants_pass expectation.wanted) expectation.amount
