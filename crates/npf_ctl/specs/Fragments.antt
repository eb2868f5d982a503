-- A run whose fragments are put together.
use Rattle.std.specs.Prelude.{◌≡◌}
use Rattle.npf_reass_whole.specs.Whole.{Whole}
use Rattle.npf_ctl_prepare.specs.Prepares.{RunPlan}

-- the run that was read, with its fragments put together: its packets are the whole of those that were read, and all else is the same
pub record HasWholePackets (read plan : RunPlan) : Type 0 where
  pub whole : Whole read.packets plan.packets
  pub same : plan ≡ record read { packets = plan.packets }
