-- What the code keeps, and no part of what the language means: of values, so that they need not be looked at where they are used, how
-- many elements they are, up to one more than all lists may have, and what becomes of them in each place. Among addresses an interface that is
-- named is as many elements as it has addresses.
use Rattle.std.specs.Prelude.{ℕ, ◌+◌, ◌&&◌, ◌||◌, min, List}
use Rattle.std.specs.List.{flat_map, list_all, list_any}
use Rattle.npf_faults.specs.First.{earlier, first_fault}
use Rattle.npf_types.specs.declared.limits.TheConstants.{MAX_LIST_ELEMENTS}
use Rattle.npf_model.specs.declared.iface.Iface.{Iface}
use Rattle.npf_expand_values.specs.declared.role.Role.{Role}
use Rattle.npf_expand_values.specs.declared.role.Role.TheVariants.{AsPort, AsAddress, AsProtocol, AsInterface}
use Rattle.npf_expand_values.specs.declared.summary.Fate.{Fate}
use Rattle.npf_expand_values.specs.declared.summary.Summary.{Summary}
use Rattle.npf_expand_values.specs.Atom.{Atom}
use Rattle.npf_expand_values.specs.Host.{host_count, is_missing}
use Rattle.npf_expand_values.specs.Protocol.{is_protocol}
use Rattle.npf_expand_values.specs.Use.{element_count, is_unfit, word_faults}

-- a number of elements, where all that are more than a configuration may have are one
abbrev pub counted : ℕ → ℕ
counted number = min number (MAX_LIST_ELEMENTS + 1)

abbrev pub fate_of : Role → List Atom → Fate
fate_of role atoms = record { unfit = list_any (is_unfit role) atoms; word = first_fault (flat_map (word_faults role) atoms) }

abbrev pub summary_of : List Iface → List Atom → Summary
summary_of ifaces atoms = record {
  count = counted (element_count atoms);
  hosts = counted (host_count ifaces atoms);
  missing = list_any (is_missing ifaces) atoms;
  port = fate_of AsPort atoms;
  address = fate_of AsAddress atoms;
  protocol = fate_of AsProtocol atoms;
  interface = fate_of AsInterface atoms;
  icmp = list_all (is_protocol 1) atoms;
  icmp6 = list_all (is_protocol 58) atoms;
}

abbrev pub joined_fate : Fate → Fate → Fate
joined_fate one other = record { unfit = one.unfit || other.unfit; word = earlier one.word other.word }

abbrev pub joined_summary : Summary → Summary → Summary
joined_summary one other = record {
  count = counted (one.count + other.count);
  hosts = counted (one.hosts + other.hosts);
  missing = one.missing || other.missing;
  port = joined_fate one.port other.port;
  address = joined_fate one.address other.address;
  protocol = joined_fate one.protocol other.protocol;
  interface = joined_fate one.interface other.interface;
  icmp = one.icmp && other.icmp;
  icmp6 = one.icmp6 && other.icmp6;
}

abbrev pub fate_in : Role → Summary → Fate
fate_in AsPort summary = summary.port
fate_in AsAddress summary = summary.address
fate_in AsProtocol summary = summary.protocol
fate_in AsInterface summary = summary.interface
