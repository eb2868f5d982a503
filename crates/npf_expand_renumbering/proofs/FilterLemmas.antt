-- Filters without faults are the same with a longer list of interfaces. The places where values stand have no name outside of
-- npf_expand, so `search` finds which one it is.
use Rattle.std.{proofs.Common.{◌≡◌, ℕ, ◌+◌, Bool, false, Option, Some, None, List, [], ◌∷◌, ◌++◌, refl, ap, ◌∙◌}, specs.List.{flat_map, filter_map}}
use Rattle.npf_faults.specs.declared.fault.ConfFault.{ConfFault}
use Rattle.npf_syntax.specs.declared.{filter.{Addresses.Addresses, EndsTree.EndsTree as WrittenEnds, Filter.Filter}, value.{Value.Value, Values.Values}}
use Rattle.npf_syntax.specs.declared.filter.Addresses.TheVariants as Written
use Rattle.npf_syntax.specs.declared.filter.EndsTree.TheVariants as EndsAre
use Rattle.npf_model.specs.declared.{ends.{AddrItem.AddrItem, Ends.Ends}, iface.Iface.Iface}
use Rattle.npf_expand_values.specs.{Address.{addresses_count, addresses_faults, address_items, is_excluded, items_of}, Atom.{Binding, Env}}
use Rattle.npf_expand_values.specs.{Port.{atom_ports, ports_count, ports_faults, ports_of}, Use.{atoms_of, element_count}}
use Rattle.npf_expand_values.specs.{Host.host_count, Variable.{binding_of, each_value_faults, empty_list_at, empty_list_faults, listed_values, spliced}}
use Rattle.npf_expand_values.specs.declared.role.Role.TheVariants.{AsAddress}
use Rattle.npf_expand.specs.Rule.{destination_ends, ends_count, ends_faults, ends_of_written, filter_count, filter_faults, filter_rule, part_count, part_faults, source_ends}
use Rattle.npf_expand_renumbering.proofs.{CleanLemmas.{back, both, front}, HostLemmas.{all_items_same, counts_same, values_there}, IfaceLemmas.KeepsAddresses}
use Rattle.npf_expand_renumbering.proofs.ValueLemmas.{each_value_none, each_value_same, listed_none, listed_same}

module _ (ifaces longer : List Iface) where
  -- what a part of the text is, with the longer list: without faults, with as many elements, and what it was, numbered anew
  pub record IsSame {X : Type 0} (faults : List Iface → List ConfFault) (count : List Iface → ℕ) (meant : List Iface → X) (number : X → X) : Type 0 where
    pub none : faults longer ≡ []
    pub counts : count longer ≡ count ifaces
    pub means : meant longer ≡ number (meant ifaces)

abbrev pub as_it_is : {X : Type 0} → X → X
as_it_is x = x

abbrev pub no_count : List Iface → ℕ
no_count list = 0

abbrev ends_with : Bool → Option (List AddrItem) → Option (List (ℕ × ℕ)) → Ends
ends_with excluded addrs ports = record { excluded = excluded; addrs = addrs; ports = ports }

module _ (ifaces longer : List Iface) (keeps : KeepsAddresses ifaces longer) (env : Env) where
  ports_same : (ports : Option Values) → ports_faults ifaces env ports ≡ []
      → IsSame ifaces longer (λ list. ports_faults list env ports) (λ list. ports_count list env ports) (λ list. ports_of list env ports) as_it_is
  ports_same None none = record { none = refl; counts = refl; means = refl }
  ports_same (Some values) none =
      let same : spliced longer env (listed_values values) ≡ spliced ifaces env (listed_values values) = search (listed_same ifaces longer keeps env, none) in
      record {
        none = search (listed_none ifaces longer keeps env, none);
        counts = ap element_count same;
        means = ap (λ atoms. Some (filter_map atom_ports atoms)) same;
      }

  module _ (tables : List (List ℕ)) where
    abbrev each : List Value → List ConfFault
    each values = flat_map (each_value_faults ifaces env AsAddress) values

    addresses_same : (addresses : Addresses) → addresses_faults ifaces env addresses ≡ []
        → IsSame ifaces longer (λ list. addresses_faults list env addresses) (λ list. addresses_count list env addresses)
        (λ list. address_items list env tables addresses) as_it_is
    addresses_same (Written.Any span) none = record { none = refl; counts = refl; means = refl }
    addresses_same (Written.Excluded values span) none =
        let same : spliced longer env (listed_values values) ≡ spliced ifaces env (listed_values values) = search (listed_same ifaces longer keeps env, none) in
        let there = values_there ifaces longer keeps env (listed_values values) (back (empty_list_faults values) (each (listed_values values)) none) in
        record {
          none = search (listed_none ifaces longer keeps env, none);
          counts = ap (host_count longer) same ∙ counts_same ifaces longer keeps (spliced ifaces env (listed_values values)) there;
          means = ap (λ atoms. Some (flat_map (items_of longer tables) atoms)) same
              ∙ ap (λ (items : List AddrItem). Some items) (all_items_same ifaces longer keeps tables (spliced ifaces env (listed_values values)) there);
        }
    addresses_same (Written.One value span) none =
        let same : binding_of longer env value ≡ binding_of ifaces env value = search (each_value_same ifaces longer keeps env, none) in
        let there = values_there ifaces longer keeps env (value ∷ []) (both (each_value_faults ifaces env AsAddress value) [] none refl) in
        record {
          none = search (each_value_none ifaces longer keeps env, none);
          counts = ap (λ (binding : Option Binding). host_count longer (atoms_of binding ++ [])) same ∙ counts_same ifaces longer keeps (spliced ifaces env (value ∷ [])) there;
          means = ap (λ (binding : Option Binding). Some (flat_map (items_of longer tables) (atoms_of binding ++ []))) same
              ∙ ap (λ (items : List AddrItem). Some items) (all_items_same ifaces longer keeps tables (spliced ifaces env (value ∷ [])) there);
        }
    addresses_same (Written.List list span) none =
        let same : spliced longer env list.values ≡ spliced ifaces env list.values = search (listed_same ifaces longer keeps env, none) in
        let there = values_there ifaces longer keeps env list.values (back (empty_list_at list.span list.values) (each list.values) none) in
        record {
          none = search (listed_none ifaces longer keeps env, none);
          counts = ap (host_count longer) same ∙ counts_same ifaces longer keeps (spliced ifaces env list.values) there;
          means = ap (λ atoms. Some (flat_map (items_of longer tables) atoms)) same
              ∙ ap (λ (items : List AddrItem). Some items) (all_items_same ifaces longer keeps tables (spliced ifaces env list.values) there);
        }

    ends_same : (ends : Option WrittenEnds) → ends_faults ifaces env ends ≡ []
        → IsSame ifaces longer (λ list. ends_faults list env ends) (λ list. ends_count list env ends) (λ list. ends_of_written list env tables ends) as_it_is
    ends_same None none = record { none = refl; counts = refl; means = refl }
    ends_same (Some (EndsAre.Ports values span)) none =
        let ports = ports_same (Some values) none in
        record { none = ports.none; counts = ports.counts; means = ap (λ (found : Option (List (ℕ × ℕ))). ends_with false None found) ports.means }
    ends_same (Some (EndsAre.Addresses addresses values span)) none =
        let first = addresses_faults ifaces env addresses in
        let second = ports_faults ifaces env values in
        let addrs = addresses_same addresses (front first second none) in
        let ports = ports_same values (back first second none) in
        record {
          none = both (addresses_faults longer env addresses) (ports_faults longer env values) addrs.none ports.none;
          counts = ap (λ n. n + ports_count longer env values) addrs.counts ∙ ap (λ n. addresses_count ifaces env addresses + n) ports.counts;
          means = ap (λ (items : Option (List AddrItem)). ends_with (is_excluded addresses) items (ports_of longer env values)) addrs.means
              ∙ ap (λ (ranges : Option (List (ℕ × ℕ))). ends_with (is_excluded addresses) (address_items ifaces env tables addresses) ranges) ports.means;
        }

    pub filter_same : (filter : Filter) → filter_faults ifaces env filter ≡ []
        → IsSame ifaces longer (λ list. filter_faults list env filter) (λ list. filter_count list env filter) (λ list. filter_rule list env tables filter) as_it_is
    filter_same filter none =
        let part = part_faults ifaces env filter.proto in
        let elements = part_count ifaces env filter.proto in
        let one = source_ends filter.ends in
        let other = destination_ends filter.ends in
        let begun = part ++ ends_faults ifaces env one in
        let begins = front begun (ends_faults ifaces env other) none in
        let from = ends_same one (back part (ends_faults ifaces env one) begins) in
        let to = ends_same other (back begun (ends_faults ifaces env other) none) in
        record {
          none = both (part ++ ends_faults longer env one) (ends_faults longer env other)
              (both part (ends_faults longer env one) (front part (ends_faults ifaces env one) begins) from.none) to.none;
          counts = ap (λ n. elements + n + ends_count longer env other) from.counts ∙ ap (λ n. elements + ends_count ifaces env one + n) to.counts;
          means = ap (λ (ends : Ends). record (filter_rule longer env tables filter) { from = ends }) from.means
              ∙ ap (λ (ends : Ends). record (filter_rule ifaces env tables filter) { to = ends }) to.means;
        }
