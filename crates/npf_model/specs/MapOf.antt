-- Which map translates a packet (npf.conf(5), "Map"): the first that applies. A side's ports are asked where it gives them, whatever the
-- map's algorithm: which maps may have ports is for a check to say.
-- READ 7 of docs/READING.md
use Rattle.std.specs.Prelude.{ℕ, Bool, true, false, ◌==◌, ◌&&◌, Option, Some, None, List}
use Rattle.npf_types.specs.declared.address.Addr.{Addr}
use Rattle.npf_types.specs.declared.direction.Dir.{Dir}
use Rattle.npf_types.specs.declared.direction.Dir.TheVariants.{In, Out}
use Rattle.npf_types.specs.declared.facts.Facts.{Facts}
use Rattle.npf_types.specs.declared.interface.IfId.{IfId}
use Rattle.npf_types.specs.Prefix.{has_address}
use Rattle.npf_model.specs.declared.map.Arrow.{Arrow}
use Rattle.npf_model.specs.declared.map.Arrow.TheVariants.{ToOutside, ToInside, Both}
use Rattle.npf_model.specs.declared.map.Map.{Map}
use Rattle.npf_model.specs.declared.map.Side.{Side}
use Rattle.npf_model.specs.declared.rule.Rule.{Rule}
use Rattle.npf_model.specs.Describes.{Tables, describes_packet, source_of, destination_of, in_range}
use Rattle.npf_model.specs.Place.{is_on}
use Rattle.npf_model.specs.Verdict.{first_where}

-- the packet has ports, and this one lies in the side's ports; a side without ports takes every packet
abbrev pub fits_side_port : Option (ℕ × ℕ) → Option ℕ → Bool
fits_side_port None port = true
fits_side_port (Some range) None = false
fits_side_port (Some range) (Some port) = in_range port range

abbrev pub fits_side : Side → Addr → Option ℕ → Bool
fits_side side addr port = has_address side.net addr && fits_side_port side.ports port

-- a packet that goes out is translated by its source, which lies in the left side
abbrev pub goes_outside : Arrow → Bool
goes_outside ToOutside = true
goes_outside ToInside = false
goes_outside Both = true

-- a packet that comes in is translated by its destination, which lies in the right side
abbrev pub comes_inside : Arrow → Bool
comes_inside ToOutside = false
comes_inside ToInside = true
comes_inside Both = true

-- the packet's direction is one of the map's, and its end on that side lies in the map's
abbrev pub fits_segment : Map → Facts → Dir → Bool
fits_segment map facts Out = goes_outside map.arrow && fits_side map.inside facts.src (source_of facts.l4)
fits_segment map facts In = comes_inside map.arrow && fits_side map.outside facts.dst (destination_of facts.l4)

abbrev pub fits_map_protocol : Option ℕ → ℕ → Bool
fits_map_protocol None proto = true
fits_map_protocol (Some asked) proto = asked == proto

abbrev pub fits_filter : Option Rule → Tables → Facts → Bool
fits_filter None tables facts = true
fits_filter (Some rule) tables facts = describes_packet rule tables facts

module _ (tables : Tables) (facts : Facts) (ifid : IfId) (dir : Dir) where
  abbrev pub map_applies : Map → Bool
  map_applies map =
      is_on map.on ifid && fits_map_protocol map.proto facts.proto && fits_filter map.filter tables facts && fits_segment map facts dir

  -- the place, counted from 0, of the first map that applies
  abbrev pub map_of : List Map → Option ℕ
  map_of maps = first_where map_applies 0 maps
