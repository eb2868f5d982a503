-- What the runner asks of a run, and what a writer of captures asks of its packets.
use Rattle.std.specs.Prelude.{◌≡◌, ◌≤◌, All, length}
use Rattle.npf_types.specs.declared.limits.TheConstants.{MAX_PACKETS}
use Rattle.npf_traffic.specs.Phases.{AreInOrder, packets_in}
use Rattle.npf_traffic.specs.Packet.{IsShortPacket}
use Rattle.npf_ctl_arrivals.specs.Within.{CrossesOneOf, HasCaptureTime}
use Rattle.npf_ctl_prepare.specs.declared.prepare.Prepared.{Prepared}

pub record IsPlayable (prepared : Prepared) : Type 0 where
  pub short : All IsShortPacket prepared.packets.items
  pub phased : packets_in prepared.phases.items ≡ length prepared.packets.items
  pub published : AreInOrder (length prepared.configs.items) prepared.phases.items
  pub crosses : All (CrossesOneOf (length prepared.ifaces.list)) prepared.packets.items
  pub timed : All HasCaptureTime prepared.packets.items
  pub count : length prepared.packets.items ≤ MAX_PACKETS
