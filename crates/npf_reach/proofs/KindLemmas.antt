-- The kind of a packet, and its cell among the kind's.
use Rattle.std.proofs.Common.{◌≡◌, ℕ, zero, suc, ◌+◌, ◌<◌, ◌≤◌, ◌==◌, ◌&&◌, Bool, true, false, List, [], ◌∷◌, Some, length, get_or, slice_get, refl, sym, ap, ◌∙◌, arith}
use Rattle.std.proofs.lemmas.Bool.{and_from, and_parts, and_right, eq-eqb, eqb-true}
use Rattle.std.proofs.Math.Bool.{and-true, and_assoc}
use Rattle.npf_types.specs.declared.{direction.Dir.Dir, facts.Facts.Facts, interface.IfId.IfId}
use Rattle.npf_boxes.specs.Cell.{box_at}
use Rattle.npf_search.specs.{declared.{decider.Decider.Decider, region.Region.Region}, Region.{decides, has_box, region_has}}
use Rattle.npf_search.proofs.RegionLemmas.{decides_same}
use Rattle.npf_model.specs.Describes.{Tables}
use Rattle.npf_products.specs.declared.kind.Carried.{Carried}
use Rattle.npf_products.specs.declared.kind.Carried.TheVariants.{Tcp, Udp, Icmp, Other}
use Rattle.npf_products.specs.declared.kind.IpFamily.{IpFamily}
use Rattle.npf_products.specs.declared.kind.IpFamily.TheVariants.{Inet4, Inet6}
use Rattle.npf_products.specs.declared.kind.PacketKind.{PacketKind}
use Rattle.npf_products.specs.declared.product.Product.{Product}
use Rattle.npf_products.specs.Kind.{carried_of, family_of, packet_kind}
use Rattle.npf_products.specs.Number.{IsPacketOfKind}
use Rattle.npf_products.specs.Product.{product_holds}
use Rattle.npf_products.specs.Space.{packet_cell, product_count}
use Rattle.npf_reach.specs.declared.kind_cells.KindCells.{KindCells}
use Rattle.npf_reach.specs.Kinds.{IsKindOf, IsPacket, carried_number, cells_kind, family_number, held, held_at, is_met_by, is_of_kind}

family_same : (a b : IpFamily) → family_number a ≡ family_number b → a ≡ b
family_same Inet4 Inet4 e = refl
family_same Inet4 Inet6 e = absurd (omega arith)
family_same Inet6 Inet4 e = absurd (omega arith)
family_same Inet6 Inet6 e = refl

carried_from : ℕ → Carried
carried_from zero = Tcp
carried_from (suc zero) = Udp
carried_from (suc (suc zero)) = Icmp
carried_from (suc (suc (suc n))) = Other

carried_back : (a : Carried) → carried_from (carried_number a) ≡ a
unfolding carried_from
carried_back Tcp = refl
carried_back Udp = refl
carried_back Icmp = refl
carried_back Other = refl

kind_same : (kind : PacketKind) (facts : Facts) → is_of_kind kind facts ≡ true → packet_kind facts ≡ kind
kind_same kind facts is =
    let both = and_parts _ _ is in
    let make : IpFamily → Carried → PacketKind = λ family carried. record { family = family; carried = carried } in
    let families = sym (family_same kind.family (family_of facts.src) (eqb-true _ _ both.0)) in
    let numbers = eqb-true (carried_number kind.carried) (carried_number (carried_of facts.l4)) both.1 in
    let carries = sym (sym (carried_back kind.carried) ∙ ap carried_from numbers ∙ carried_back (carried_of facts.l4)) in
    ap (λ family. make family (carried_of facts.l4)) families ∙ ap (λ carried. make kind.family carried) carries

pub of_kind : (kind : PacketKind) (facts : Facts) (ifid : IfId) → IsPacket facts ifid → is_of_kind kind facts ≡ true → IsPacketOfKind kind facts ifid
of_kind kind facts ifid packet is = record { possible = packet.possible; of_kind = kind_same kind facts is; interface = packet.interface }

pub own_kind : (facts : Facts) → is_of_kind (packet_kind facts) facts ≡ true
own_kind facts =
    let family = family_number (family_of facts.src) in
    let carried = carried_number (carried_of facts.l4) in
    and_from (family == family) (carried == carried) (eq-eqb family family refl) (eq-eqb carried carried refl)

pub has_kind : (kind : PacketKind) (facts : Facts) (ifid : IfId) → IsPacketOfKind kind facts ifid → is_of_kind kind facts ≡ true
has_kind kind facts ifid packet = ap (λ k. is_of_kind k facts) (sym packet.of_kind) ∙ own_kind facts

-- ---- what holds of packets of a kind alone
pub when : (k x y : Bool) → (k ≡ true → x ≡ y) → (k && x) ≡ (k && y)
when true x y same = same refl
when false x y same = refl

module _ (cells : KindCells) (facts : Facts) (ifid : IfId) (dir : Dir) (packet : IsPacket facts ifid) where
  -- all packets of the kind have a cell of it
  pub all_of_kind : (region : Region) → region_has cells.boxes region (packet_cell cells.space facts ifid dir)
      ≡ has_box cells.boxes (packet_cell cells.space facts ifid dir) (product_count cells.space)
      → (is_of_kind (cells_kind cells) facts && region_has cells.boxes region (packet_cell cells.space facts ifid dir)) ≡ is_of_kind (cells_kind cells) facts
  all_of_kind region same =
      when _ _ true (λ is. same ∙ cells.boxes_of.whole facts ifid dir (of_kind (cells_kind cells) facts ifid packet is)) ∙ and-true _

  met_same : (decider : Decider) → decider.first + decider.count ≤ product_count cells.space → is_of_kind (cells_kind cells) facts ≡ true
      → decides (has_box cells.boxes (packet_cell cells.space facts ifid dir)) decider ≡ decides (is_met_by cells facts ifid dir) decider
  met_same decider within is =
      decides_same (has_box cells.boxes (packet_cell cells.space facts ifid dir)) (is_met_by cells facts ifid dir) decider (product_count cells.space) within
      (λ k low. cells.boxes_of.products k facts ifid dir low (of_kind (cells_kind cells) facts ifid packet is))

  -- cells on which a decider decides are packets' on which it does
  pub narrowed_kind : (decider : Decider) (has had : Bool) → decider.first + decider.count ≤ product_count cells.space
      → has ≡ (had && decides (has_box cells.boxes (packet_cell cells.space facts ifid dir)) decider)
      → (is_of_kind (cells_kind cells) facts && has) ≡ ((is_of_kind (cells_kind cells) facts && had) && decides (is_met_by cells facts ifid dir) decider)
  narrowed_kind decider has had within same =
      when (is_of_kind (cells_kind cells) facts) has (had && decides (is_met_by cells facts ifid dir) decider)
      (λ is. same ∙ ap (λ d. had && d) (met_same decider within is))
      ∙ sym (and_assoc _ had _)

-- ---- what products ask, and what they say
pub at_place : {X : Type 0} (xs : List X) (k : ℕ) → k < length xs → (x : X) × (slice_get xs k ≡ Some x) × ((d : X) → get_or xs k d ≡ x)
at_place [] k low = absurd (omega arith)
at_place (x ∷ xs) zero low = (x, refl, λ d. refl)
at_place (x ∷ xs) (suc k) low = at_place xs k (omega arith)

pub held_same : (tables : Tables) (products : List Product) (cells : KindCells) (facts : Facts) (ifid : IfId) (dir : Dir) (k : ℕ)
    → IsKindOf tables products cells → k < length products → IsPacketOfKind (cells_kind cells) facts ifid
    → is_met_by cells facts ifid dir k ≡ held_at tables products facts ifid dir k
held_same tables products cells facts ifid dir k is low packet =
    let at = at_place products k low in
    is.told k at.0 facts ifid dir low packet
    ∙ ap (λ product. product_holds product tables facts ifid dir) (at.2 at.0)
    ∙ sym (ap (λ one. held one tables facts ifid dir) at.1)

-- a part's packets on which a decider decides, by what products say
pub decided_part : (tables : Tables) (products : List Product) (cells : KindCells) (facts : Facts) (ifid : IfId) (dir : Dir) (decider : Decider) (has : Bool)
    → IsKindOf tables products cells → decider.first + decider.count ≤ length products → IsPacket facts ifid
    → (has ≡ true → is_of_kind (cells_kind cells) facts ≡ true)
    → (has && decides (is_met_by cells facts ifid dir) decider) ≡ (has && decides (held_at tables products facts ifid dir) decider)
decided_part tables products cells facts ifid dir decider has is within packet kind_is =
    when has _ _ (λ there.
    decides_same (is_met_by cells facts ifid dir) (held_at tables products facts ifid dir) decider (length products) within
    (λ k low. held_same tables products cells facts ifid dir k is low (of_kind (cells_kind cells) facts ifid packet (kind_is there))))
