-- Some reason is so exactly where a map can't be.
use Rattle.std.proofs.{Common.{◌≡◌, Bool, true, false, not, ◌&&◌, ◌||◌, cond, Some, None, is_some, refl, sym, ap, ◌∙◌}, Math.Bool.{or-false, or_assoc}}
use Rattle.npf_model.specs.{declared.map.{Algo.{Algo, TheVariants.{Dynamic, Netmap, Npt66}}, Arrow.{Arrow, TheVariants.{ToOutside, ToInside, Both}}, Map.Map}, MapOf.comes_inside}
use Rattle.npf_check.specs.Map.{asks_for_ports, breaks_algo, breaks_arrow, fits_npt66, has_ports, is_one_address, of_one_family, of_one_length}
use Rattle.npf_check.specs.Unbuilt.{is_built_kind}
use Rattle.npf_why_map.specs.declared.reason.MapReason.TheVariants as Told
use Rattle.npf_why_map.specs.{Laws.ReasonsAreOfBadMaps, Reason.{asks_for_length, has_one_port_each, is_both_ways, is_dynamic, is_inward, is_npt66, is_outward}}

-- one of these is so, of what the reasons say in their order
any_so : (table family right left ports length npt66 before each protocol both : Bool)
    → is_some
    (cond table (Some Told.TableSide)
    (cond family (Some Told.OtherFamilies)
    (cond right (Some Told.DynamicRight)
    (cond left (Some Told.DynamicLeft)
    (cond ports (Some Told.StaticPorts)
    (cond length (Some Told.OtherLengths)
    (cond npt66 (Some Told.Npt66Networks)
    (cond before (Some Told.PortsBeforeArrow)
    (cond each (Some Told.PortsNotOneEach)
    (cond protocol (Some Told.PortsWithoutProtocol)
    (cond both (Some Told.PortsBothWays) None)))))))))))
    ≡ (table || (family || (right || (left || (ports || (length || (npt66 || (before || (each || (protocol || both))))))))))
any_so true family right left ports length npt66 before each protocol both = refl
any_so false true right left ports length npt66 before each protocol both = refl
any_so false false true left ports length npt66 before each protocol both = refl
any_so false false false true ports length npt66 before each protocol both = refl
any_so false false false false true length npt66 before each protocol both = refl
any_so false false false false false true npt66 before each protocol both = refl
any_so false false false false false false true before each protocol both = refl
any_so false false false false false false false true each protocol both = refl
any_so false false false false false false false false true protocol both = refl
any_so false false false false false false false false false true both = refl
any_so false false false false false false false false false false true = refl
any_so false false false false false false false false false false false = refl

one_of : (ports each protocol : Bool) → (ports && not each || (ports && not protocol || false)) ≡ (ports && not (each && protocol))
one_of false each protocol = refl
one_of true false protocol = refl
one_of true true protocol = or-false (not protocol)

module _ (known : Bool) (m : Map) where
  by_algo : (algo : Algo) (rest : Bool)
      → (is_dynamic algo && not (is_one_address m.outside.net) || (is_dynamic algo && comes_inside m.arrow && not (is_one_address m.inside.net)
      || (not (is_dynamic algo) && has_ports m || (asks_for_length known algo && not (of_one_length m)
      || (is_npt66 algo && not (fits_npt66 m.inside.net && fits_npt66 m.outside.net) || rest)))))
      ≡ (breaks_algo known m algo || rest)
  by_algo Dynamic rest = sym (or_assoc (not (is_one_address m.outside.net)) (comes_inside m.arrow && not (is_one_address m.inside.net)) rest)
  by_algo Netmap rest = sym (or_assoc (has_ports m) (known && not (of_one_length m)) rest)
  by_algo Npt66 rest =
      let lengths = not (of_one_length m) in
      let networks = not (fits_npt66 m.inside.net && fits_npt66 m.outside.net) in
      sym (or_assoc (has_ports m || lengths) networks rest ∙ or_assoc (has_ports m) lengths (networks || rest))

  by_arrow : (arrow : Arrow)
      → (is_outward arrow && is_some m.inside.ports || (is_inward arrow && has_ports m && not (has_one_port_each m)
      || (is_inward arrow && has_ports m && not (asks_for_ports m.proto) || is_both_ways arrow && has_ports m)))
      ≡ breaks_arrow m arrow
  by_arrow ToOutside = or-false (is_some m.inside.ports)
  by_arrow ToInside = one_of (has_ports m) (has_one_port_each m) (asks_for_ports m.proto)
  by_arrow Both = refl

-- a reason is told exactly of what is bad
pub reasons_are_of_bad_maps_lem : ReasonsAreOfBadMaps
reasons_are_of_bad_maps_lem by_table kind m =
    let known = is_built_kind kind in
    let family = not (of_one_family m) in
    any_so by_table family _ _ _ _ _ _ _ _ _
    ∙ ap (λ rest. by_table || (family || rest)) (by_algo known m m.algo _ ∙ ap (λ rest. breaks_algo known m m.algo || rest) (by_arrow known m m.arrow))
    ∙ ap (λ rest. by_table || rest) (sym (or_assoc family (breaks_algo known m m.algo) (breaks_arrow m m.arrow)))
