-- Packets with given numbers.
use Rattle.std.proofs.Common.{◌≡◌, ◌≤◌, ◌<◌, ◌==◌, ℕ, zero, suc, ◌-◌, ◌%◌, ◌^◌, true, false, cond, List, [], ◌∷◌, get_or, length}
use Rattle.std.proofs.Common.{refl, sym, ap, ◌∙◌, subst, inl, inr, arith}
use Rattle.std.specs.List.{list_any}
use Rattle.std.proofs.lemmas.Bool.{cases_lt, eqb-false, le-ltb, lt-ltb, not-true, or_parts}
use Rattle.npf_types.specs.declared.address.Addr.{Addr}
use Rattle.npf_types.specs.declared.direction.Dir.{Dir, TheVariants.{In, Out}}
use Rattle.npf_types.specs.declared.interface.IfId.{IfId}
use Rattle.npf_types.specs.declared.facts.{Facts.Facts, L4.{L4}}
use Rattle.npf_packet.specs.PacketField.{HasProtocol}
use Rattle.npf_possible.specs.Possible.{AreAddresses, HasFieldSizes, IsCarried}
use Rattle.npf_products.specs.declared.kind.{PacketKind.PacketKind}
use Rattle.npf_products.specs.declared.kind.{Carried.{Carried, TheVariants.{Tcp as OfTcp, Udp as OfUdp, Icmp as OfIcmp, Other as OfOther}}, IpFamily.{IpFamily, TheVariants.{Inet4, Inet6}}}
use Rattle.npf_products.specs.Kind.{carried_of, family_of, packet_kind}
use Rattle.npf_products.specs.Number.{AreNumbers, IsPacketOfKind, numbers_of, address_value, address_top, control_number, control_top, first_value, first_top, place_of, second_number, second_top}
use Rattle.npf_products.specs.Packet.{IsProtocol, address_with, place_dir, l4_of}
use Rattle.npf_products.specs.Product.{is_possible_first, is_unknown_protocol, known_protocols}

pub addresses : (family : IpFamily) (src dst : ℕ) → src ≤ address_top family → dst ≤ address_top family → AreAddresses (address_with family src) (address_with family dst)
addresses Inet4 src dst a b = (omega arith, omega arith)
addresses Inet6 src dst a b = (omega arith, omega arith)

pub number_back : (family : IpFamily) (n : ℕ) → n ≤ address_top family → address_value (address_with family n) ≡ n
number_back Inet4 n low = omega arith
number_back Inet6 n low = refl

pub family_back : (family : IpFamily) (n : ℕ) → family_of (address_with family n) ≡ family
family_back Inet4 n = refl
family_back Inet6 n = refl

pub carried_back : (carried : Carried) (family : IpFamily) (a b c : ℕ) → carried_of (l4_of carried family a b c) ≡ carried
carried_back OfTcp family a b c = refl
carried_back OfUdp family a b c = refl
carried_back OfIcmp Inet4 a b c = refl
carried_back OfIcmp Inet6 a b c = refl
carried_back OfOther family a b c = refl

pub field_sizes : (carried : Carried) (family : IpFamily) (a b c : ℕ) → HasFieldSizes (l4_of carried family a b c)
field_sizes OfTcp family a b c = (omega arith, omega arith, omega arith)
field_sizes OfUdp family a b c = (omega arith, omega arith)
field_sizes OfIcmp Inet4 a b c = (omega arith, omega arith)
field_sizes OfIcmp Inet6 a b c = (omega arith, omega arith)
field_sizes OfOther family a b c = tt

pub first_back : (carried : Carried) (family : IpFamily) (a b c proto : ℕ) → a ≤ first_top carried → IsProtocol family carried a proto
    → first_value (l4_of carried family a b c) proto ≡ a
first_back OfTcp family a b c proto low is = omega arith
first_back OfUdp family a b c proto low is = omega arith
first_back OfIcmp Inet4 a b c proto low is = omega arith
first_back OfIcmp Inet6 a b c proto low is = omega arith
first_back OfOther family a b c proto low is = is

pub second_back : (carried : Carried) (family : IpFamily) (a b c : ℕ) → b ≤ second_top carried → second_number (l4_of carried family a b c) ≡ b
second_back OfTcp family a b c low = omega arith
second_back OfUdp family a b c low = omega arith
second_back OfIcmp Inet4 a b c low = omega arith
second_back OfIcmp Inet6 a b c low = omega arith
second_back OfOther family a b c low = omega arith

pub control_back : (carried : Carried) (family : IpFamily) (a b c : ℕ) → c ≤ control_top carried → control_number (l4_of carried family a b c) ≡ c
control_back OfTcp family a b c low = omega arith
control_back OfUdp family a b c low = omega arith
control_back OfIcmp Inet4 a b c low = omega arith
control_back OfIcmp Inet6 a b c low = omega arith
control_back OfOther family a b c low = omega arith

none_listed : (xs : List ℕ) (n k : ℕ) → list_any (λ x. x == n) xs ≡ false → k < length xs → n ≡ get_or xs k 0 → ⊥
none_listed [] n k none low is = absurd (omega arith)
none_listed (x ∷ xs) n zero none low is = eqb-false x n (or_parts (x == n) (list_any (λ y. y == n) xs) none).0 (sym is)
none_listed (x ∷ xs) n (suc k) none low is = none_listed xs n k (or_parts (x == n) (list_any (λ y. y == n) xs) none).1 (omega arith) is

-- none of the known protocols
unknown : (family : IpFamily) (proto k : ℕ) → is_unknown_protocol family proto ≡ true → k < length (known_protocols family)
    → proto ≡ get_or (known_protocols family) k 0 → ⊥
unknown family proto k is low same = none_listed (known_protocols family) proto k (not-true _ is) low same

pub record IsProtocolOf (src : Addr) (proto : ℕ) (l4 : L4) : Type 0 where
  pub size : proto < 2 ^ 8
  pub carried : IsCarried src proto
  pub protocol : HasProtocol src proto l4

pub protocol_back : (carried : Carried) (family : IpFamily) (src a b c proto : ℕ) → a ≤ first_top carried → is_possible_first carried family a ≡ true
    → IsProtocol family carried a proto → IsProtocolOf (address_with family src) proto (l4_of carried family a b c)
protocol_back OfTcp Inet4 src a b c proto low can is = record { size = omega arith; carried = tt; protocol = is }
protocol_back OfTcp Inet6 src a b c proto low can is = record { size = omega arith; carried = (omega arith, omega arith, omega arith, omega arith, omega arith); protocol = is }
protocol_back OfUdp Inet4 src a b c proto low can is = record { size = omega arith; carried = tt; protocol = is }
protocol_back OfUdp Inet6 src a b c proto low can is = record { size = omega arith; carried = (omega arith, omega arith, omega arith, omega arith, omega arith); protocol = is }
protocol_back OfIcmp Inet4 src a b c proto low can is = record { size = omega arith; carried = tt; protocol = is }
protocol_back OfIcmp Inet6 src a b c proto low can is = record { size = omega arith; carried = (omega arith, omega arith, omega arith, omega arith, omega arith); protocol = is }
protocol_back OfOther Inet4 src a b c proto low can is =
    let none : (k : ℕ) → k < 3 → a ≡ get_or (known_protocols Inet4) k 0 → ⊥ = λ k within same. unknown Inet4 a k can within same in
    record {
      size = omega arith;
      carried = tt;
      protocol = (λ e. none 1 (omega arith) (sym is ∙ e), λ e. none 2 (omega arith) (sym is ∙ e), λ e. none 0 (omega arith) (sym is ∙ e));
    }
protocol_back OfOther Inet6 src a b c proto low can is =
    let none : (k : ℕ) → k < 8 → a ≡ get_or (known_protocols Inet6) k 0 → ⊥ = λ k within same. unknown Inet6 a k can within same in
    record {
      size = omega arith;
      carried = (
        λ e. none 0 (omega arith) (sym is ∙ e),
        λ e. none 3 (omega arith) (sym is ∙ e),
        λ e. none 4 (omega arith) (sym is ∙ e),
        λ e. none 5 (omega arith) (sym is ∙ e),
        λ e. none 7 (omega arith) (sym is ∙ e),
      );
      protocol = (λ e. none 1 (omega arith) (sym is ∙ e), λ e. none 2 (omega arith) (sym is ∙ e), λ e. none 6 (omega arith) (sym is ∙ e));
    }

-- six numbers one by one
pub six_list : (xs : List ℕ) → length xs ≡ 6
    → get_or xs 0 0 ∷ get_or xs 1 0 ∷ get_or xs 2 0 ∷ get_or xs 3 0 ∷ get_or xs 4 0 ∷ get_or xs 5 0 ∷ [] ≡ xs
six_list [] six = absurd (omega arith)
six_list (a ∷ []) six = absurd (omega arith)
six_list (a ∷ b ∷ []) six = absurd (omega arith)
six_list (a ∷ b ∷ c ∷ []) six = absurd (omega arith)
six_list (a ∷ b ∷ c ∷ d ∷ []) six = absurd (omega arith)
six_list (a ∷ b ∷ c ∷ d ∷ e ∷ []) six = absurd (omega arith)
six_list (a ∷ b ∷ c ∷ d ∷ e ∷ f ∷ []) six = refl
six_list (a ∷ b ∷ c ∷ d ∷ e ∷ f ∷ g ∷ rest) six = absurd (omega arith)

pub place_back : (ifid : IfId) (dir : Dir) (place : ℕ) → place < 2 ^ 17 → ifid.0 ≡ place % 2 ^ 16 → dir ≡ place_dir place → place_of ifid dir ≡ place
place_back ifid dir place small number is = elim (cases_lt place (2 ^ 16)) [
  | inl low ↦
      let inward : dir ≡ In = is ∙ ap (λ b. cond b In Out) (lt-ltb place (2 ^ 16) low) in
      ap (place_of ifid) inward ∙ omega arith
  | inr high ↦
      let outward : dir ≡ Out = is ∙ ap (λ b. cond b In Out) (le-ltb place (2 ^ 16) high) in
      ap (place_of ifid) outward ∙ omega arith
]

abbrev pub made : Addr → Addr → ℕ → L4 → Facts
made src dst proto l4 = record { src = src; dst = dst; proto = proto; ip_at = 0; l4_at = 0; end = 0; l4 = l4 }

kind_back : (kind : PacketKind) (s d proto a b c : ℕ)
    → packet_kind (made (address_with kind.family s) (address_with kind.family d) proto (l4_of kind.carried kind.family a b c)) ≡ kind
kind_back kind s d proto a b c =
    ap (λ f. record { family = f; carried = carried_of (l4_of kind.carried kind.family a b c) }) (family_back kind.family s)
    ∙ ap (λ k. record { family = kind.family; carried = k }) (carried_back kind.carried kind.family a b c)

exact : (kind : PacketKind) (numbers : List ℕ) (proto : ℕ) (ifid : IfId) → AreNumbers kind numbers → is_possible_first kind.carried kind.family (get_or numbers 3 0) ≡ true
    → IsProtocol kind.family kind.carried (get_or numbers 3 0) proto → ifid.0 ≡ get_or numbers 0 0 % 2 ^ 16
    → IsPacketOfKind kind
    (made (address_with kind.family (get_or numbers 1 0)) (address_with kind.family (get_or numbers 2 0)) proto
    (l4_of kind.carried kind.family (get_or numbers 3 0) (get_or numbers 4 0) (get_or numbers 5 0))) ifid
exact kind numbers proto ifid small can protocol number =
    let s = get_or numbers 1 0 in
    let d = get_or numbers 2 0 in
    let a = get_or numbers 3 0 in
    let b = get_or numbers 4 0 in
    let c = get_or numbers 5 0 in
    let told = protocol_back kind.carried kind.family s a b c proto (small 3 (omega arith)) can protocol in
    record {
      possible = record {
        addresses = addresses kind.family s d (small 1 (omega arith)) (small 2 (omega arith));
        size = told.size;
        carried = told.carried;
        protocol = told.protocol;
        sizes = field_sizes kind.carried kind.family a b c;
      };
      of_kind = kind_back kind s d proto a b c;
      interface = omega arith;
    }

pub packet_is : (kind : PacketKind) (numbers : List ℕ) (src dst : Addr) (proto : ℕ) (l4 : L4) (ifid : IfId) → AreNumbers kind numbers
    → is_possible_first kind.carried kind.family (get_or numbers 3 0) ≡ true
    → src ≡ address_with kind.family (get_or numbers 1 0) → dst ≡ address_with kind.family (get_or numbers 2 0)
    → IsProtocol kind.family kind.carried (get_or numbers 3 0) proto
    → l4 ≡ l4_of kind.carried kind.family (get_or numbers 3 0) (get_or numbers 4 0) (get_or numbers 5 0)
    → ifid.0 ≡ get_or numbers 0 0 % 2 ^ 16 → IsPacketOfKind kind (made src dst proto l4) ifid
packet_is kind numbers src dst proto l4 ifid small can src_is dst_is protocol l4_is number =
    subst (λ x. IsPacketOfKind kind (made x dst proto l4) ifid) (sym src_is)
    (subst (λ x. IsPacketOfKind kind (made (address_with kind.family (get_or numbers 1 0)) x proto l4) ifid) (sym dst_is)
    (subst (λ x. IsPacketOfKind kind (made (address_with kind.family (get_or numbers 1 0)) (address_with kind.family (get_or numbers 2 0)) proto x) ifid) (sym l4_is)
    (exact kind numbers proto ifid small can protocol number)))

pub numbers_are : (kind : PacketKind) (numbers : List ℕ) (src dst : Addr) (proto : ℕ) (l4 : L4) (ifid : IfId) (dir : Dir) → length numbers ≡ 6 → AreNumbers kind numbers
    → src ≡ address_with kind.family (get_or numbers 1 0) → dst ≡ address_with kind.family (get_or numbers 2 0)
    → IsProtocol kind.family kind.carried (get_or numbers 3 0) proto
    → l4 ≡ l4_of kind.carried kind.family (get_or numbers 3 0) (get_or numbers 4 0) (get_or numbers 5 0)
    → ifid.0 ≡ get_or numbers 0 0 % 2 ^ 16 → dir ≡ place_dir (get_or numbers 0 0) → numbers_of (made src dst proto l4) ifid dir ≡ numbers
numbers_are kind numbers src dst proto l4 ifid dir six small src_is dst_is protocol l4_is number dir_is =
    let a = get_or numbers 3 0 in
    let b = get_or numbers 4 0 in
    let c = get_or numbers 5 0 in
    let top : get_or numbers 0 0 ≤ 2 ^ 17 - 1 = small 0 (omega arith) in
    let e0 : place_of ifid dir ≡ get_or numbers 0 0 = place_back ifid dir (get_or numbers 0 0) (omega arith) number dir_is in
    let e1 : address_value src ≡ get_or numbers 1 0 = ap address_value src_is ∙ number_back kind.family (get_or numbers 1 0) (small 1 (omega arith)) in
    let e2 : address_value dst ≡ get_or numbers 2 0 = ap address_value dst_is ∙ number_back kind.family (get_or numbers 2 0) (small 2 (omega arith)) in
    let e3 : first_value l4 proto ≡ a = ap (λ l. first_value l proto) l4_is ∙ first_back kind.carried kind.family a b c proto (small 3 (omega arith)) protocol in
    let e4 : second_number l4 ≡ b = ap second_number l4_is ∙ second_back kind.carried kind.family a b c (small 4 (omega arith)) in
    let e5 : control_number l4 ≡ c = ap control_number l4_is ∙ control_back kind.carried kind.family a b c (small 5 (omega arith)) in
    let whole = six_list numbers six in cc
