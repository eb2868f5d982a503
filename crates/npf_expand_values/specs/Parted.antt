-- What the code keeps, and no part of what the language means: the addresses of interfaces by their families.
use Rattle.std.specs.Prelude.{◌≡◌, ℕ, Bool, true, false, List, map}
use Rattle.std.specs.List.{filter}
use Rattle.npf_types.specs.declared.address.Addr.{Addr}
use Rattle.npf_types.specs.declared.address.Addr.TheVariants.{V4, V6}
use Rattle.npf_types.specs.Name.{name_bytes}
use Rattle.npf_model.specs.declared.iface.Iface.{Iface}
use Rattle.npf_expand_values.specs.declared.iface.Families.{Families}

abbrev pub iface_texts : List Iface → List (List ℕ)
iface_texts ifaces = map (λ iface. name_bytes iface.name) ifaces

abbrev pub is_v4 : Addr → Bool
is_v4 (V4 _) = true
is_v4 (V6 _) = false

abbrev pub is_v6 : Addr → Bool
is_v6 (V4 _) = false
is_v6 (V6 _) = true

-- the addresses of these interfaces
pub record AreParted (families : List Families) (ifaces : List Iface) : Type 0 where
  pub v4 : map (λ family. family.v4.items) families ≡ map (λ iface. filter is_v4 iface.addrs) ifaces
  pub v6 : map (λ family. family.v6.items) families ≡ map (λ iface. filter is_v6 iface.addrs) ifaces
