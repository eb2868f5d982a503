-- What the first of some values says.
use Rattle.std.proofs.Common.{◌≡◌, ℕ, Option, Some, None, List, [], ◌∷◌, refl}
use Rattle.npf_types.specs.declared.prefix.Prefix.{Prefix}
use Rattle.npf_model.specs.declared.iface.Iface.{Iface}
use Rattle.npf_expand_values.specs.{Atom.Atom, Kept.first_atom, Port.atom_ports, Protocol.{first_protocol, protocol_of}}
use Rattle.npf_expand.specs.Map.{every_v4, first_block, first_port, side_block}

abbrev pub block_where : List Iface → Option Atom → Prefix
block_where ifaces None = every_v4
block_where ifaces (Some atom) = side_block ifaces atom

abbrev pub port_where : Option Atom → Option (ℕ × ℕ)
port_where None = None
port_where (Some atom) = atom_ports atom

abbrev pub protocol_where : Option Atom → Option ℕ
protocol_where None = None
protocol_where (Some atom) = protocol_of atom

pub first_block_is : (ifaces : List Iface) (atoms : List Atom) → first_block ifaces atoms ≡ block_where ifaces (first_atom atoms)
first_block_is ifaces [] = refl
first_block_is ifaces (_ ∷ _) = refl

pub first_port_is : (atoms : List Atom) → first_port atoms ≡ port_where (first_atom atoms)
first_port_is [] = refl
first_port_is (_ ∷ _) = refl

pub first_protocol_is : (atoms : List Atom) → first_protocol atoms ≡ protocol_where (first_atom atoms)
first_protocol_is [] = refl
first_protocol_is (_ ∷ _) = refl
