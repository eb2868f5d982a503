-- Which packets are of a class where they pass.
use Rattle.std.specs.Prelude.{◌≡◌, ◌≢◌, Bool, true, ◌&&◌}
use Rattle.npf_types.specs.declared.direction.Dir.{Dir}
use Rattle.npf_types.specs.declared.facts.Facts.{Facts}
use Rattle.npf_types.specs.declared.interface.IfId.{IfId}
use Rattle.npf_model.specs.declared.rule.OnIf.{OnIf}
use Rattle.npf_model.specs.declared.rule.Rule.{Rule}
use Rattle.npf_model.specs.Configuration.{Configuration}
use Rattle.npf_model.specs.Describes.{Tables, describes}
use Rattle.npf_model.specs.Place.{is_dir, is_on}
use Rattle.npf_possible.specs.Possible.{IsPossible}

-- There can be the packet, it passes on an interface of the run in this direction, and the class's rule describes it. A name that isn't one of the run's has
-- the number 0, and no packet passes there (npf.conf(5), "Groups").
pub record IsOfClass (config : Configuration) (class : Rule) (ifid : IfId) (dir : Dir) (facts : Facts) : Type 0 where
  pub possible : IsPossible facts
  pub known : ifid.0 ≢ 0
  pub described : describes class config.tables facts ifid dir ≡ true

-- the packet passes on this interface in this direction, and the rule describes it
abbrev pub describes_there : Rule → OnIf → Dir → Tables → Facts → IfId → Dir → Bool
describes_there class on dir tables facts ifid way = is_dir dir way && is_on on ifid && describes class tables facts ifid way
