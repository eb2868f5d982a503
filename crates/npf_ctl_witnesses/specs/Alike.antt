-- Which packets pass on one interface in one direction.
use Rattle.std.specs.Prelude.{ℕ, Bool, not, ◌==◌, ◌&&◌, nat_le, if◌then◌else◌, List, length, take, map}
use Rattle.std.specs.List.{enumerate_from, filter, list_any}
use Rattle.npf_model.specs.declared.iface.Iface.{Iface}
use Rattle.npf_model.specs.Place.{is_dir}
use Rattle.npf_products.specs.declared.packet.CellPacket.{CellPacket}

-- the number of an interface of the run; what is none of them counts as 0
abbrev pub run_number : List Iface → ℕ → ℕ
run_number ifaces number = if nat_le number (length ifaces) then number else 0

-- both pass on one interface, or on none of the run, and in one direction
abbrev pub pass_alike : List Iface → CellPacket → CellPacket → Bool
pass_alike ifaces one other = (run_number ifaces one.ifid.0 == run_number ifaces other.ifid.0) && is_dir one.dir other.dir

-- none of the earlier ones passes as this one does
abbrev pub is_leader : List Iface → List CellPacket → CellPacket → Bool
is_leader ifaces earlier packet = not (list_any (pass_alike ifaces packet) earlier)

-- the packet at its place does so among these
abbrev pub leads : List Iface → List CellPacket → ℕ × CellPacket → Bool
leads ifaces packets placed = is_leader ifaces (take placed.0 packets) placed.1

-- the first packet of each interface and direction
abbrev pub leaders : List Iface → List CellPacket → List CellPacket
leaders ifaces packets = map (λ placed. placed.1) (filter (leads ifaces packets) (enumerate_from 0 packets))
