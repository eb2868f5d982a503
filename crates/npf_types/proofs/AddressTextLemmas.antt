-- A text is one address at most.
use Rattle.std.{proofs.Common.{◌≡◌, ℕ, List, sym, ap, ◌∙◌}, specs.{declared.net.ip_addr.IpAddr.IpAddr, Net.Grammar.IsIpText}}
use Rattle.std.proofs.NetLemmas.Theorems.{IsIpText_unique}
use Rattle.npf_types.specs.{declared.address.Addr.Addr, AddressText.{addr_of, IsAddressText}, Reading.IsOnly}

pub one_address : (text : List ℕ) (a b : Addr) → IsAddressText text a → IsAddressText text b → a ≡ b
one_address text a b h k = sym h.value ∙ ap addr_of (IsIpText_unique text h.ip k.ip h.spelled k.spelled) ∙ k.value

-- what a parser of addresses answers is the one reading
pub only_address : (text : List ℕ) (ip : IpAddr) (addr : Addr) → IsIpText text ip → addr ≡ addr_of ip → IsOnly IsAddressText text addr
only_address text ip addr spelled value =
    let reads : IsAddressText text addr = record { ip = ip; spelled = spelled; value = sym value } in
    record { reads = reads; only = λ other h. one_address text other addr h reads }
