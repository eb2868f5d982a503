-- What of a rule or of a map a packet doesn't fit. Each has ten parts, in the order in which npf.conf(5) has them in a rule, and is asked for them in that
-- order. What a rule is bound to by its ruleset is asked with its own direction and interface, and what a map asks of its sides and of its protocol with the
-- parts of its filter.
use Rattle.std.specs.Prelude.{Bool, true, not, ◌&&◌, Option, Some, None, List, [], ◌∷◌, find}
use Rattle.npf_types.specs.declared.direction.Dir.{Dir}
use Rattle.npf_types.specs.declared.direction.Dir.TheVariants.{In, Out}
use Rattle.npf_types.specs.declared.facts.Facts.{Facts}
use Rattle.npf_types.specs.declared.interface.IfId.{IfId}
use Rattle.npf_types.specs.Prefix.{has_address}
use Rattle.npf_model.specs.declared.map.Arrow.{Arrow}
use Rattle.npf_model.specs.declared.map.Map.{Map}
use Rattle.npf_model.specs.declared.rule.Rule.{Rule}
use Rattle.npf_model.specs.Describes.{Tables, destination_of, fits_addrs, fits_family, fits_flags, fits_icmp, fits_ports, fits_protocol, source_of}
use Rattle.npf_model.specs.MapOf.{comes_inside, fits_map_protocol, fits_side_port, goes_outside}
use Rattle.npf_model.specs.Place.{fits_dir, fits_on, is_on}
use Rattle.npf_model.specs.Verdict.{PlacedRule}
use Rattle.npf_ruleset.specs.declared.misfit.Part.{Part}
use Rattle.npf_ruleset.specs.declared.misfit.Part.TheVariants.{Direction, Interface, Family, Protocol, Flags, Icmp, Source, SourcePort, Destination, DestinationPort}

abbrev pub parts : List Part
parts = Direction ∷ Interface ∷ Family ∷ Protocol ∷ Flags ∷ Icmp ∷ Source ∷ SourcePort ∷ Destination ∷ DestinationPort ∷ []

-- the packet fits this part of what a rule says beside direction and interface
abbrev pub fits_packet_part : Rule → Tables → Facts → Part → Bool
fits_packet_part rule tables facts Direction = true
fits_packet_part rule tables facts Interface = true
fits_packet_part rule tables facts Family = fits_family rule.v6 facts.src
fits_packet_part rule tables facts Protocol = fits_protocol rule.protos facts.proto
fits_packet_part rule tables facts Flags = fits_flags rule.flags rule.decision rule.state facts.l4
fits_packet_part rule tables facts Icmp = fits_icmp rule.icmp facts.l4
fits_packet_part rule tables facts Source = fits_addrs rule.from.excluded rule.from.addrs tables facts.src
fits_packet_part rule tables facts SourcePort = fits_ports rule.from.ports (source_of facts.l4)
fits_packet_part rule tables facts Destination = fits_addrs rule.to.excluded rule.to.addrs tables facts.dst
fits_packet_part rule tables facts DestinationPort = fits_ports rule.to.ports (destination_of facts.l4)

-- the packet that passes there fits this part of the rule, bound also by its ruleset's direction and interface
abbrev pub fits_rule_part : PlacedRule → Tables → Facts → IfId → Dir → Part → Bool
fits_rule_part placed tables facts ifid dir Direction = fits_dir placed.within_dir dir && fits_dir placed.rule.dir dir
fits_rule_part placed tables facts ifid dir Interface = fits_on placed.within_on ifid && fits_on placed.rule.on ifid
fits_rule_part placed tables facts ifid dir part = fits_packet_part placed.rule tables facts part

-- the first part of the rule that the packet doesn't fit
abbrev pub rule_misfit : PlacedRule → Tables → Facts → IfId → Dir → Option Part
rule_misfit placed tables facts ifid dir = find (λ part. not (fits_rule_part placed tables facts ifid dir part)) parts

-- a map that translates what goes out, or what comes in
abbrev pub translates : Arrow → Dir → Bool
translates arrow Out = goes_outside arrow
translates arrow In = comes_inside arrow

-- What a map asks of the ends by its own sides: what goes out has its source in the left side, and what comes in its destination in the right one.
abbrev pub fits_left_block : Map → Facts → Dir → Bool
fits_left_block map facts Out = has_address map.inside.net facts.src
fits_left_block map facts In = true

abbrev pub fits_left_port : Map → Facts → Dir → Bool
fits_left_port map facts Out = fits_side_port map.inside.ports (source_of facts.l4)
fits_left_port map facts In = true

abbrev pub fits_right_block : Map → Facts → Dir → Bool
fits_right_block map facts Out = true
fits_right_block map facts In = has_address map.outside.net facts.dst

abbrev pub fits_right_port : Map → Facts → Dir → Bool
fits_right_port map facts Out = true
fits_right_port map facts In = fits_side_port map.outside.ports (destination_of facts.l4)

-- the packet fits this part of what the map says beside its filter
abbrev pub fits_own_part : Map → Facts → IfId → Dir → Part → Bool
fits_own_part map facts ifid dir Direction = translates map.arrow dir
fits_own_part map facts ifid dir Interface = is_on map.on ifid
fits_own_part map facts ifid dir Family = true
fits_own_part map facts ifid dir Protocol = fits_map_protocol map.proto facts.proto
fits_own_part map facts ifid dir Flags = true
fits_own_part map facts ifid dir Icmp = true
fits_own_part map facts ifid dir Source = fits_left_block map facts dir
fits_own_part map facts ifid dir SourcePort = fits_left_port map facts dir
fits_own_part map facts ifid dir Destination = fits_right_block map facts dir
fits_own_part map facts ifid dir DestinationPort = fits_right_port map facts dir

abbrev pub fits_filter_part : Option Rule → Tables → Facts → Part → Bool
fits_filter_part None tables facts part = true
fits_filter_part (Some rule) tables facts part = fits_packet_part rule tables facts part

abbrev pub fits_map_part : Map → Tables → Facts → IfId → Dir → Part → Bool
fits_map_part map tables facts ifid dir part = fits_own_part map facts ifid dir part && fits_filter_part map.filter tables facts part

-- the first part of the map that the packet doesn't fit
abbrev pub map_misfit : Map → Tables → Facts → IfId → Dir → Option Part
map_misfit map tables facts ifid dir = find (λ part. not (fits_map_part map tables facts ifid dir part)) parts
