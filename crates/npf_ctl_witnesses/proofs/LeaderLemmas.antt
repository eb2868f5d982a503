-- Each packet passes as one of the first ones does.
use Rattle.std.proofs.Common.{◌≡◌, ◌<◌, ℕ, zero, suc, ◌+◌, Bool, true, false, not, Some, List, take, refl, ap, ◌∙◌, arith}
use Rattle.std.specs.{List.{enumerate_from, filter, list_any}, Prelude.slice_get}
use Rattle.npf_model.specs.declared.iface.Iface.{Iface}
use Rattle.npf_products.specs.declared.packet.CellPacket.{CellPacket}
use Rattle.npf_ctl_witnesses.specs.Alike.{leaders, leads, pass_alike}
use Rattle.npf_ctl_witnesses.proofs.{AlikeLemmas.{alike_through, own_alike}, GotLemmas.{got-enumerate, got-filter, got-map, got-take, passing}}

pub record Leading (ifaces : List Iface) (packets : List CellPacket) (packet : CellPacket) : Type 0 where
  pub place : ℕ
  pub one : CellPacket
  pub there : slice_get (leaders ifaces packets) place ≡ Some one
  pub alike : pass_alike ifaces one packet ≡ true

module _ (ifaces : List Iface) (packets : List CellPacket) where
  leads_itself : (place : ℕ) (packet : CellPacket) → slice_get packets place ≡ Some packet → list_any (pass_alike ifaces packet) (take place packets) ≡ false
      → Leading ifaces packets packet
  leads_itself place packet there first =
      let number : 0 + place ≡ place = omega arith in
      let numbered = got-enumerate 0 packets place packet there ∙ ap (λ (n : ℕ). Some (n, packet)) number in
      let found = got-filter (leads ifaces packets) (enumerate_from 0 packets) place (place, packet) numbered (ap not first) in
      let packet_of : ℕ × CellPacket → CellPacket = λ placed. placed.1 in record {
        place = found.place;
        one = packet;
        there = got-map packet_of (filter (leads ifaces packets) (enumerate_from 0 packets)) found.place (place, packet) found.there;
        alike = own_alike ifaces packet;
      }

  led_by : (place : ℕ) (packet : CellPacket) (any : Bool) → list_any (pass_alike ifaces packet) (take place packets) ≡ any → slice_get packets place ≡ Some packet
      → ((earlier : ℕ) (other : CellPacket) → earlier < place → slice_get packets earlier ≡ Some other → Leading ifaces packets other)
      → Leading ifaces packets packet
  led_by place packet false first there before = leads_itself place packet there first
  led_by place packet true any there before =
      let found = passing (pass_alike ifaces packet) (take place packets) any in
      let earlier = got-take place packets found.place found.one found.there in
      let lead = before found.place found.one earlier.1 earlier.0 in record {
        place = lead.place;
        one = lead.one;
        there = lead.there;
        alike = alike_through ifaces lead.one found.one packet lead.alike found.passes;
      }

  pub led : (most place : ℕ) (packet : CellPacket) → place < most → slice_get packets place ≡ Some packet → Leading ifaces packets packet
  led zero place packet low there = absurd (omega arith)
  led (suc most) place packet low there =
      led_by place packet (list_any (pass_alike ifaces packet) (take place packets)) refl there
      (λ earlier other below got. led most earlier other (omega arith) got)
