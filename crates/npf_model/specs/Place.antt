-- Where a packet passes: its interface, by its number in the run, and its direction.
use Rattle.std.specs.Prelude.{Bool, true, false, not, ◌==◌, ◌&&◌, Option, Some, None}
use Rattle.npf_types.specs.declared.direction.Dir.{Dir}
use Rattle.npf_types.specs.declared.direction.Dir.TheVariants.{In, Out}
use Rattle.npf_types.specs.declared.interface.IfId.{IfId}
use Rattle.npf_model.specs.declared.rule.OnIf.{OnIf}

abbrev pub is_dir : Dir → Dir → Bool
is_dir In In = true
is_dir Out Out = true
is_dir _ _ = false

-- the direction is the one that is asked for, or none is
abbrev pub fits_dir : Option Dir → Dir → Bool
fits_dir None dir = true
fits_dir (Some asked) dir = is_dir asked dir

-- the interface is this one; an interface that the run doesn't know, whose number is 0, is no packet's
abbrev pub is_on : OnIf → IfId → Bool
is_on on ifid = on.id.0 == ifid.0 && not (on.id.0 == 0)

-- the interface is the one that is asked for, or none is
abbrev pub fits_on : Option OnIf → IfId → Bool
fits_on None ifid = true
fits_on (Some on) ifid = is_on on ifid
