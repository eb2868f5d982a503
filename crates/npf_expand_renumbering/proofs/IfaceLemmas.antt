-- An interface that has an address that is asked for is the first of its name in a longer list too.
use Rattle.std.{proofs.Common.{◌≡◌, ℕ, Bool, true, false, Option, Some, None, List, [], ◌∷◌, ◌++◌, refl, ap, ◌∙◌, if◌then◌else◌}, specs.List.filter}
use Rattle.std.specs.Str.{bytes_eq}
use Rattle.npf_types.specs.{declared.{address.Addr.Addr, span.Span.Span}, Name.name_bytes}
use Rattle.npf_faults.specs.{declared.fault.Fault.TheVariants.UnknownInterface, First.fault_if}
use Rattle.npf_syntax.specs.declared.value.Function.{Function}
use Rattle.npf_model.specs.declared.iface.Iface.{Iface}
use Rattle.npf_expand_values.specs.Iface.{address_faults, addresses_of, addresses_of_first, has_none, is_of}
use Rattle.npf_expand.proofs.ElementLemmas.{untold}

-- the longer list gives the addresses that the shorter one gives
abbrev pub KeepsAddresses : List Iface → List Iface → Type 0
KeepsAddresses ifaces longer =
    (function : Function) (name : Option (List ℕ)) (span : Span) → address_faults ifaces function name span ≡ []
    → addresses_of longer function name ≡ addresses_of ifaces function name

module _ (asked : Addr → Bool) (addrs rest longer : List Addr) where
  first_by : (here : Bool) → has_none (filter asked (if here then addrs else rest)) ≡ false
      → (has_none (filter asked rest) ≡ false → longer ≡ rest) → (if here then addrs else longer) ≡ (if here then addrs else rest)
  first_by true some later = refl
  first_by false some later = later some

first_same : (asked : Addr → Bool) (ifaces more : List Iface) (text : List ℕ) → has_none (filter asked (addresses_of_first ifaces text)) ≡ false
    → addresses_of_first (ifaces ++ more) text ≡ addresses_of_first ifaces text
first_same asked [] more text some = cc
first_same asked (iface ∷ ifaces) more text some =
    first_by asked iface.addrs (addresses_of_first ifaces text) (addresses_of_first (ifaces ++ more) text) (bytes_eq (name_bytes iface.name) text)
    some (first_same asked ifaces more text)

pub keeps_addresses : (ifaces more : List Iface) → KeepsAddresses ifaces (ifaces ++ more)
keeps_addresses ifaces more function None span none = refl
keeps_addresses ifaces more function (Some text) span none =
    ap (filter (is_of function)) (first_same (is_of function) ifaces more text (untold _ span UnknownInterface none))

pub still_there : (ifaces longer : List Iface) → KeepsAddresses ifaces longer → (function : Function) (name : Option (List ℕ)) (span : Span)
    → address_faults ifaces function name span ≡ [] → address_faults longer function name span ≡ []
still_there ifaces longer keeps function None span none = refl
still_there ifaces longer keeps function (Some text) span none =
    ap (λ addrs. fault_if (has_none addrs) span UnknownInterface) (keeps function (Some text) span none) ∙ none
