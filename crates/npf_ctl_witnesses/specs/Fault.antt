-- Why packets aren't written.
use Rattle.std.specs.Prelude.{◌≡◌, ◌<◌, ⊤, List, length}
use Rattle.npf_types.specs.declared.limits.TheConstants.{MAX_CAPTURES}
use Rattle.npf_model.specs.declared.iface.Iface.{Iface}
use Rattle.npf_products.specs.declared.packet.CellPacket.{CellPacket}
use Rattle.npf_ctl_messages.specs.declared.fault.CommandFault.{CommandFault}
use Rattle.npf_ctl_messages.specs.declared.fault.CommandFault.TheVariants.{Many, NoMemory}
use Rattle.npf_ctl_messages.specs.declared.fault.Quantity.TheVariants.{Captures, Witnesses}
use Rattle.npf_ctl_messages.specs.declared.limit.TheConstants.{MAX_WITNESSES}
use Rattle.npf_ctl_witnesses.specs.Alike.{leaders}

-- too many packets, or else too many captures of them, as many as it says; want of memory says nothing
abbrev pub IsWitnessFault : List Iface → List CellPacket → CommandFault → Type 0
IsWitnessFault ifaces packets (Many Witnesses count) = (count ≡ length packets) × (MAX_WITNESSES < count)
IsWitnessFault ifaces packets (Many Captures count) = (count ≡ length (leaders ifaces packets)) × (MAX_CAPTURES < count)
IsWitnessFault ifaces packets NoMemory = ⊤
IsWitnessFault ifaces packets _ = ⊥
