use Rattle.std.{proofs.Common.{ap, subst}, specs.{declared.net.ip_addr.IpAddr.IpAddr, Net.Grammar.IsIpText}}
use Rattle.std.specs.declared.net.ip_addr.IpAddr.TheVariants as Ip
use Rattle.npf_types.{specs.declared.address.Addr.TheVariants.{V4, V6}, proofs.AddressTextLemmas.only_address}
use Rattle.npf_types.proofs.address.Addr.parse_ascii.Goals as goal

pub returns-in-Ok-V4 : goal.returns-in-Ok-V4
returns-in-Ok-V4 c = only_address c.args.text.now (Ip.V4 c.in-Ok-V4.ip) _
    (subst (λ (ip : IpAddr). IsIpText c.args.text.now ip) c.in-Ok-V4.field-0-is c.in-Ok-V4.ensures) (ap V4 c.to_bits.ensures)

pub returns-in-Ok-V6 : goal.returns-in-Ok-V6
returns-in-Ok-V6 c = only_address c.args.text.now (Ip.V6 c.in-Ok-V6.ip) _
    (subst (λ (ip : IpAddr). IsIpText c.args.text.now ip) c.in-Ok-V6.field-0-is c.in-Ok-V6.ensures) (ap V6 c.to_bits-in-Ok-V6.ensures)
