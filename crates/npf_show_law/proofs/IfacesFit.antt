-- The addresses of interfaces that a file says fit their families.
use Rattle.std.{proofs.{Common.{ℕ, List, [], ◌∷◌}, lemmas.List.Elements.{All-cons, All-nil}}, specs.List.All}
use Rattle.npf_types.specs.{declared.address.Addr.Addr, AddressText.IsAddressText}
use Rattle.npf_model.specs.declared.iface.Iface.{Iface}
use Rattle.npf_expand_interfaces.specs.IfaceFile.{Each, IsInterface, written_lines, file_lines}
use Rattle.npf_show_tokens.specs.Showable.{FitsAddr}
use Rattle.npf_show_law.{specs.Law.InterfacesFit, proofs.AddressFits.address_fits}

addrs_fit : (words : List (List ℕ)) (addrs : List Addr) → Each IsAddressText words addrs → All FitsAddr addrs
addrs_fit [] [] each = All-nil FitsAddr
addrs_fit (word ∷ words) (addr ∷ addrs) each = All-cons FitsAddr addr addrs (address_fits word addr each.0) (addrs_fit words addrs each.1)
addrs_fit [] (addr ∷ addrs) each = absurd each
addrs_fit (word ∷ words) [] each = absurd each

iface_fits : (words : List (List ℕ)) (iface : Iface) → IsInterface words iface → All FitsAddr iface.addrs
iface_fits [] iface is = absurd is
iface_fits (word ∷ words) iface is = addrs_fit words iface.addrs is.2

each_fits : (lines : List (List (List ℕ))) (ifaces : List Iface) → Each IsInterface lines ifaces → All (λ iface. All FitsAddr iface.addrs) ifaces
each_fits [] [] each = All-nil (λ iface. All FitsAddr iface.addrs)
each_fits (line ∷ lines) (iface ∷ ifaces) each = All-cons (λ iface. All FitsAddr iface.addrs) iface ifaces (iface_fits line iface each.0) (each_fits lines ifaces each.1)
each_fits [] (iface ∷ ifaces) each = absurd each
each_fits (line ∷ lines) [] each = absurd each

pub interfaces_fit_lem : InterfacesFit
interfaces_fit_lem text ifaces are = each_fits (written_lines (file_lines text)) ifaces are.read
