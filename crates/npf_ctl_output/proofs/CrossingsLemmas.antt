-- What is found at an interface's place.
use Rattle.std.proofs.Common.{◌≡◌, ℕ, zero, suc, ◌-◌, ◌<◌, List, [], ◌∷◌, Some, length, get_or, slice_get, refl, sym, ap, subst, ◌∙◌, arith}
use Rattle.npf_types.specs.{declared.direction.Dir.TheVariants.{In, Out}, Name.name_bytes}
use Rattle.npf_model.specs.declared.iface.Iface.{Iface}
use Rattle.npf_traffic.specs.declared.packet.Packet.{Packet}
use Rattle.npf_ctl_output.specs.{declared.crossings.Crossings.Crossings, Crossings.{AreCrossingsOf, IsCrossedBy, IsCrossingsOf}, Report.interface_name}

pub crossings_at : (ifaces : List Iface) (crossings : List Crossings) (i : ℕ) (default : Crossings) → AreCrossingsOf ifaces crossings → i < length crossings →
    (iface : Iface) × (slice_get ifaces i ≡ Some iface) × IsCrossingsOf iface (get_or crossings i default)
crossings_at (iface ∷ ifaces) (c ∷ cs) zero default are within = (iface, refl, are.0)
crossings_at (iface ∷ ifaces) (c ∷ cs) (suc i) default are within = crossings_at ifaces cs i default are.1 (omega (arith, within))
crossings_at [] [] i default are within = absurd (omega (arith, within))
crossings_at [] (c ∷ cs) i default are within = absurd are
crossings_at (iface ∷ ifaces) [] i default are within = absurd are

pub as_many : (ifaces : List Iface) (crossings : List Crossings) → AreCrossingsOf ifaces crossings → length crossings ≡ length ifaces
as_many [] [] are = refl
as_many (iface ∷ ifaces) (c ∷ cs) are = ap suc (as_many ifaces cs are.1)
as_many [] (c ∷ cs) are = absurd are
as_many (iface ∷ ifaces) [] are = absurd are

module _ (ifaces : List Iface) (crossings : List Crossings) (packet : Packet) (found : Crossings) (are : AreCrossingsOf ifaces crossings)
    (within : packet.ifid.0 - 1 < length crossings) (found_is : found ≡ get_or crossings (packet.ifid.0 - 1) found) where
  there : (iface : Iface) × (slice_get ifaces (packet.ifid.0 - 1) ≡ Some iface) × IsCrossingsOf iface (get_or crossings (packet.ifid.0 - 1) found)
  there = crossings_at ifaces crossings (packet.ifid.0 - 1) found are within

  its : IsCrossingsOf there.0 found
  its = subst (IsCrossingsOf there.0) (sym found_is) there.2

  pub crossed_in : packet.dir ≡ In → IsCrossedBy ifaces packet found.into
  crossed_in came = record {
    name = ap name_bytes its.into.name ∙ sym (ap interface_name there.1);
    dir = its.into.dir ∙ sym came;
  }

  pub crossed_out : packet.dir ≡ Out → IsCrossedBy ifaces packet found.out_of
  crossed_out went = record {
    name = ap name_bytes its.out_of.name ∙ sym (ap interface_name there.1);
    dir = its.out_of.dir ∙ sym went;
  }
