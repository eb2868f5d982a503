-- What is asked part by part is what is asked at once.
use Rattle.std.proofs.Common.{◌≡◌, Bool, true, false, not, ◌&&◌, cond, Option, Some, None, refl}
use Rattle.std.specs.{List.find, Option.is_some}
use Rattle.npf_types.specs.declared.{direction.Dir.{Dir, TheVariants.{In, Out}}, facts.Facts.Facts, interface.IfId.IfId}
use Rattle.npf_types.specs.Prefix.{has_address}
use Rattle.npf_model.specs.declared.{map.Map.Map, rule.Rule.Rule}
use Rattle.npf_model.specs.Describes.{Tables, destination_of, fits_addrs, fits_family, fits_flags, fits_icmp, fits_ports, fits_protocol, source_of}
use Rattle.npf_model.specs.MapOf.{comes_inside, fits_filter, fits_map_protocol, fits_segment, fits_side_port, goes_outside}
use Rattle.npf_model.specs.{Place.{fits_dir, fits_on, is_on}, Verdict.PlacedRule}
use Rattle.npf_ruleset.specs.declared.misfit.Part.{Part, TheVariants.{Direction, Interface, Family, Protocol, Flags, Icmp, Source, SourcePort, Destination, DestinationPort}}
use Rattle.npf_ruleset.specs.Misfit.{fits_filter_part, fits_own_part, parts}
use Rattle.npf_ruleset.specs.MisfitLaw.{AppliesWithoutMisfit, MatchesWithoutMisfit}

-- nothing is unfit, of these tests in the order of the parts
abbrev fits_all : (direction interface family protocol flags icmp source source_port destination destination_port : Bool) → Bool
fits_all direction interface family protocol flags icmp source source_port destination destination_port =
    not (is_some
    (cond (not direction) (Some Direction)
    (cond (not interface) (Some Interface)
    (cond (not family) (Some Family)
    (cond (not protocol) (Some Protocol)
    (cond (not flags) (Some Flags)
    (cond (not icmp) (Some Icmp)
    (cond (not source) (Some Source)
    (cond (not source_port) (Some SourcePort)
    (cond (not destination) (Some Destination)
    (cond (not destination_port) (Some DestinationPort) None)))))))))))

never : (a : Bool) → (a && false) ≡ false
never true = refl
never false = refl

never_first : (a x : Bool) → (a && false && x) ≡ false
never_first true x = refl
never_first false x = refl

never_behind : (a b c : Bool) → (a && b && c && false) ≡ false
never_behind false b c = refl
never_behind true false c = refl
never_behind true true c = never c

rule_parts : (wd wo d o f p fl i s sp t tp : Bool)
    → (wd && wo && (d && o && (f && p && fl && i && (s && sp) && (t && tp)))) ≡ fits_all (wd && d) (wo && o) f p fl i s sp t tp
rule_parts false wo d o f p fl i s sp t tp = refl
rule_parts true wo false o f p fl i s sp t tp = never wo
rule_parts true false true o f p fl i s sp t tp = refl
rule_parts true true true false f p fl i s sp t tp = refl
rule_parts true true true true false p fl i s sp t tp = refl
rule_parts true true true true true false fl i s sp t tp = refl
rule_parts true true true true true true false i s sp t tp = refl
rule_parts true true true true true true true false s sp t tp = refl
rule_parts true true true true true true true true false sp t tp = refl
rule_parts true true true true true true true true true false t tp = refl
rule_parts true true true true true true true true true true false tp = refl
rule_parts true true true true true true true true true true true false = refl
rule_parts true true true true true true true true true true true true = refl

pub matches_without_misfit_lem : MatchesWithoutMisfit
matches_without_misfit_lem tables facts ifid dir placed =
    let rule = placed.rule in
    rule_parts (fits_dir placed.within_dir dir) (fits_on placed.within_on ifid) (fits_dir rule.dir dir) (fits_on rule.on ifid) (fits_family rule.v6 facts.src)
    (fits_protocol rule.protos facts.proto) (fits_flags rule.flags rule.decision rule.state facts.l4) (fits_icmp rule.icmp facts.l4)
    (fits_addrs rule.from.excluded rule.from.addrs tables facts.src) (fits_ports rule.from.ports (source_of facts.l4))
    (fits_addrs rule.to.excluded rule.to.addrs tables facts.dst) (fits_ports rule.to.ports (destination_of facts.l4))

-- outwards a map asks for a block and ports of the source (`net`, `port`), inwards of the destination
out_parts : (w on pr f p fl i s sp t tp net port : Bool)
    → (on && pr && (f && p && fl && i && (s && sp) && (t && tp)) && (w && (net && port))) ≡ fits_all (w && true) (on && true) f (pr && p) fl i (net && s) (port && sp) t tp
out_parts false on pr f p fl i s sp t tp net port = never_behind on pr (f && p && fl && i && (s && sp) && (t && tp))
out_parts true false pr f p fl i s sp t tp net port = refl
out_parts true true pr false p fl i s sp t tp net port = never_first pr (net && port)
out_parts true true false true p fl i s sp t tp net port = refl
out_parts true true true true false fl i s sp t tp net port = refl
out_parts true true true true true false i s sp t tp net port = refl
out_parts true true true true true true false s sp t tp net port = refl
out_parts true true true true true true true s sp t tp false port = never ((s && sp) && (t && tp))
out_parts true true true true true true true false sp t tp true port = refl
out_parts true true true true true true true true sp t tp true false = never (sp && (t && tp))
out_parts true true true true true true true true false t tp true true = refl
out_parts true true true true true true true true true false tp true true = refl
out_parts true true true true true true true true true true false true true = refl
out_parts true true true true true true true true true true true true true = refl

in_parts : (w on pr f p fl i s sp t tp net port : Bool)
    → (on && pr && (f && p && fl && i && (s && sp) && (t && tp)) && (w && (net && port))) ≡ fits_all (w && true) (on && true) f (pr && p) fl i s sp (net && t) (port && tp)
in_parts false on pr f p fl i s sp t tp net port = never_behind on pr (f && p && fl && i && (s && sp) && (t && tp))
in_parts true false pr f p fl i s sp t tp net port = refl
in_parts true true pr false p fl i s sp t tp net port = never_first pr (net && port)
in_parts true true false true p fl i s sp t tp net port = refl
in_parts true true true true false fl i s sp t tp net port = refl
in_parts true true true true true false i s sp t tp net port = refl
in_parts true true true true true true false s sp t tp net port = refl
in_parts true true true true true true true false sp t tp net port = refl
in_parts true true true true true true true true false t tp net port = refl
in_parts true true true true true true true true true t tp false port = never (t && tp)
in_parts true true true true true true true true true false tp true port = refl
in_parts true true true true true true true true true true tp true false = never tp
in_parts true true true true true true true true true true false true true = refl
in_parts true true true true true true true true true true true true true = refl

module _ (tables : Tables) (facts : Facts) (ifid : IfId) (m : Map) where
  by_filter : (filter : Option Rule) (dir : Dir)
      → (is_on m.on ifid && fits_map_protocol m.proto facts.proto && fits_filter filter tables facts && fits_segment m facts dir)
      ≡ not (is_some (find (λ part. not (fits_own_part m facts ifid dir part && fits_filter_part filter tables facts part)) parts))
  by_filter None Out =
      out_parts (goes_outside m.arrow) (is_on m.on ifid) (fits_map_protocol m.proto facts.proto) true true true true true true true true
      (has_address m.inside.net facts.src) (fits_side_port m.inside.ports (source_of facts.l4))
  by_filter None In =
      in_parts (comes_inside m.arrow) (is_on m.on ifid) (fits_map_protocol m.proto facts.proto) true true true true true true true true
      (has_address m.outside.net facts.dst) (fits_side_port m.outside.ports (destination_of facts.l4))
  by_filter (Some rule) Out =
      out_parts (goes_outside m.arrow) (is_on m.on ifid) (fits_map_protocol m.proto facts.proto) (fits_family rule.v6 facts.src)
      (fits_protocol rule.protos facts.proto) (fits_flags rule.flags rule.decision rule.state facts.l4) (fits_icmp rule.icmp facts.l4)
      (fits_addrs rule.from.excluded rule.from.addrs tables facts.src) (fits_ports rule.from.ports (source_of facts.l4))
      (fits_addrs rule.to.excluded rule.to.addrs tables facts.dst) (fits_ports rule.to.ports (destination_of facts.l4))
      (has_address m.inside.net facts.src) (fits_side_port m.inside.ports (source_of facts.l4))
  by_filter (Some rule) In =
      in_parts (comes_inside m.arrow) (is_on m.on ifid) (fits_map_protocol m.proto facts.proto) (fits_family rule.v6 facts.src)
      (fits_protocol rule.protos facts.proto) (fits_flags rule.flags rule.decision rule.state facts.l4) (fits_icmp rule.icmp facts.l4)
      (fits_addrs rule.from.excluded rule.from.addrs tables facts.src) (fits_ports rule.from.ports (source_of facts.l4))
      (fits_addrs rule.to.excluded rule.to.addrs tables facts.dst) (fits_ports rule.to.ports (destination_of facts.l4))
      (has_address m.outside.net facts.dst) (fits_side_port m.outside.ports (destination_of facts.l4))

pub applies_without_misfit_lem : AppliesWithoutMisfit
applies_without_misfit_lem tables facts ifid dir m = by_filter tables facts ifid m m.filter dir
