-- The numbers of packets, and the cells that packets have.
use Rattle.std.proofs.Common.{◌≡◌, ◌≤◌, ◌<◌, not, ℕ, zero, suc, ◌-◌, ◌^◌, true, List, [], ◌∷◌, drop, length, get_or}
use Rattle.std.proofs.Common.{refl, sym, ap, ◌∙◌, subst, arith}
use Rattle.std.proofs.lemmas.Bool.{ne_eqb, or_from}
use Rattle.npf_types.specs.declared.address.Addr.{Addr, TheVariants.{V4, V6}}
use Rattle.npf_types.specs.declared.direction.Dir.{Dir, TheVariants.{In, Out}}
use Rattle.npf_types.specs.declared.facts.{Facts.Facts, L4.{L4, TheVariants.{Tcp, Udp, Icmp, Icmp6, Other}}}
use Rattle.npf_types.specs.declared.interface.IfId.{IfId}
use Rattle.npf_boxes.specs.declared.shape.Shape.{Shape}
use Rattle.npf_boxes.specs.Cell.{in_box, section}
use Rattle.npf_boxes.proofs.CellLemmas.{box_from, box_parts}
use Rattle.npf_bits.specs.Bits.{has}
use Rattle.npf_cut.specs.Dimension.{class_at, class_count, member_of}
use Rattle.npf_packet.specs.PacketField.{HasProtocol}
use Rattle.npf_possible.specs.Possible.{AreAddresses, HasFieldSizes, IsCarried}
use Rattle.npf_products.specs.declared.axis.Axis.{Axis}
use Rattle.npf_products.specs.declared.condition.Condition.{Condition}
use Rattle.npf_products.specs.declared.kind.PacketKind.{PacketKind}
use Rattle.npf_products.specs.Axis.{AreAxes, IsCell, cell_of_numbers}
use Rattle.npf_products.specs.Condition.{Ranges}
use Rattle.npf_products.specs.Kind.{carried_of, family_of, packet_kind}
use Rattle.npf_products.specs.Number.{AreNumbers, IsPacketOfKind, address_value, address_top, control_number, control_top}
use Rattle.npf_products.specs.Number.{first_value, first_top, numbers_of, place_of, second_number, second_top, tops_of}
use Rattle.npf_products.specs.Product.{is_possible_first}
use Rattle.npf_products.proofs.{NarrowLemmas.class_in, PacketLemmas.six_list}

-- ---- the numbers of a packet are no higher than the highest
place_small : (ifid : IfId) (dir : Dir) → ifid.0 < 2 ^ 16 → place_of ifid dir ≤ 2 ^ 17 - 1
place_small ifid In small = omega arith
place_small ifid Out small = omega arith

source_small : (src dst : Addr) → AreAddresses src dst → address_value src ≤ address_top (family_of src)
source_small (V4 a) (V4 b) are = let low = are.0 in omega arith
source_small (V6 a) (V6 b) are = let low = are.0 in omega arith
source_small (V4 a) (V6 b) are = absurd are
source_small (V6 a) (V4 b) are = absurd are

destination_small : (src dst : Addr) → AreAddresses src dst → address_value dst ≤ address_top (family_of src)
destination_small (V4 a) (V4 b) are = let low = are.1 in omega arith
destination_small (V6 a) (V6 b) are = let low = are.1 in omega arith
destination_small (V4 a) (V6 b) are = absurd are
destination_small (V6 a) (V4 b) are = absurd are

first_small : (l4 : L4) (proto : ℕ) → HasFieldSizes l4 → proto < 2 ^ 8 → first_value l4 proto ≤ first_top (carried_of l4)
first_small (Tcp s d seg m) proto sizes small = let low = sizes.0 in omega arith
first_small (Udp s d) proto sizes small = let low = sizes.0 in omega arith
first_small (Icmp k c e) proto sizes small = let low = sizes.0 in omega arith
first_small (Icmp6 k c e) proto sizes small = let low = sizes.0 in omega arith
first_small Other proto sizes small = omega arith

second_small : (l4 : L4) → HasFieldSizes l4 → second_number l4 ≤ second_top (carried_of l4)
second_small (Tcp s d seg m) sizes = let low = sizes.1 in omega arith
second_small (Udp s d) sizes = let low = sizes.1 in omega arith
second_small (Icmp k c e) sizes = let low = sizes.1 in omega arith
second_small (Icmp6 k c e) sizes = let low = sizes.1 in omega arith
second_small Other sizes = omega arith

control_small : (l4 : L4) → HasFieldSizes l4 → control_number l4 ≤ control_top (carried_of l4)
control_small (Tcp s d seg m) sizes = let low = sizes.2 in omega arith
control_small (Udp s d) sizes = omega arith
control_small (Icmp k c e) sizes = omega arith
control_small (Icmp6 k c e) sizes = omega arith
control_small Other sizes = omega arith

six_small : (facts : Facts) (ifid : IfId) (dir : Dir) → IsPacketOfKind (packet_kind facts) facts ifid → AreNumbers (packet_kind facts) (numbers_of facts ifid dir)
six_small facts ifid dir packet zero low = place_small ifid dir packet.interface
six_small facts ifid dir packet (suc zero) low = source_small facts.src facts.dst packet.possible.addresses
six_small facts ifid dir packet (suc (suc zero)) low = destination_small facts.src facts.dst packet.possible.addresses
six_small facts ifid dir packet (suc (suc (suc zero))) low = first_small facts.l4 facts.proto packet.possible.sizes packet.possible.size
six_small facts ifid dir packet (suc (suc (suc (suc zero)))) low = second_small facts.l4 packet.possible.sizes
six_small facts ifid dir packet (suc (suc (suc (suc (suc zero))))) low = control_small facts.l4 packet.possible.sizes
six_small facts ifid dir packet (suc (suc (suc (suc (suc (suc d)))))) low = absurd (omega arith)

pub numbers_small : (kind : PacketKind) (facts : Facts) (ifid : IfId) (dir : Dir) → IsPacketOfKind kind facts ifid → AreNumbers kind (numbers_of facts ifid dir)
numbers_small kind facts ifid dir packet =
    subst (λ k. AreNumbers k (numbers_of facts ifid dir)) packet.of_kind
    (six_small facts ifid dir (record { possible = packet.possible; of_kind = refl; interface = packet.interface }))

-- ---- a packet's first number is one that packets of its kind have
first_can : (src : Addr) (proto : ℕ) (l4 : L4) → HasProtocol src proto l4 → IsCarried src proto
    → is_possible_first (carried_of l4) (family_of src) (first_value l4 proto) ≡ true
first_can src proto (Tcp s d seg m) is carried = refl
first_can src proto (Udp s d) is carried = refl
first_can src proto (Icmp k c e) is carried = refl
first_can src proto (Icmp6 k c e) is carried = refl
first_can (V4 a) proto Other is carried =
    ap not (or_from _ _ (ne_eqb 1 proto (λ e. is.2 (sym e))) (or_from _ _ (ne_eqb 6 proto (λ e. is.0 (sym e))) (or_from _ _ (ne_eqb 17 proto (λ e. is.1 (sym e))) refl)))
first_can (V6 a) proto Other is carried =
    ap not
    (or_from _ _ (ne_eqb 0 proto (λ e. carried.0 (sym e))) (or_from _ _ (ne_eqb 6 proto (λ e. is.0 (sym e))) (or_from _ _ (ne_eqb 17 proto (λ e. is.1 (sym e)))
    (or_from _ _ (ne_eqb 43 proto (λ e. carried.1 (sym e))) (or_from _ _ (ne_eqb 44 proto (λ e. carried.2 (sym e))) (or_from _ _ (ne_eqb 51 proto (λ e. carried.3 (sym e)))
    (or_from _ _ (ne_eqb 58 proto (λ e. is.2 (sym e))) (or_from _ _ (ne_eqb 60 proto (λ e. carried.4 (sym e))) refl))))))))

pub packet_can : (kind : PacketKind) (facts : Facts) (ifid : IfId) (dir : Dir) → IsPacketOfKind kind facts ifid
    → is_possible_first kind.carried kind.family (get_or (numbers_of facts ifid dir) 3 0) ≡ true
packet_can kind facts ifid dir packet =
    sym (ap (λ (k : PacketKind). is_possible_first k.carried k.family (first_value facts.l4 facts.proto)) packet.of_kind)
    ∙ first_can facts.src facts.proto facts.l4 packet.possible.protocol packet.possible.carried

-- ---- the least members of a cell's classes
pub members_of : List Axis → List ℕ → List ℕ
members_of [] cell = []
members_of (axis ∷ axes) cell = member_of axis.dimension (get_or cell 0 0) ∷ members_of axes (drop 1 cell)

pub member_in : (axes : List Axis) (cell : List ℕ) (d : ℕ) (none : Axis) → d < length axes
    → get_or (members_of axes cell) d 0 ≡ member_of (get_or axes d none).dimension (get_or cell d 0)
unfolding members_of
member_in [] cell d none low = absurd (omega arith)
member_in (axis ∷ axes) cell zero none low = refl
member_in (axis ∷ axes) [] (suc d) none low = member_in axes [] d none (omega arith)
member_in (axis ∷ axes) (n ∷ ns) (suc d) none low = member_in axes ns d none (omega arith)

-- boxes ask six classes of a cell
pub same_cell : (shape : Shape) (box a b : List ℕ) → ((d : ℕ) → d < 6 → get_or a d 0 ≡ get_or b d 0) → in_box shape box a ≡ true → in_box shape box b ≡ true
same_cell shape box a b same within =
    box_from shape box b (λ d low. sym (ap (λ n. has (section shape d box) n) (same d low)) ∙ box_parts shape box a within d low)

module _ (kind : PacketKind) (tables : List Ranges) (lists : List (List Condition)) (axes : List Axis) (six : length axes ≡ 6) (cut : AreAxes kind tables lists axes) where
  -- numbers have a cell of the axes
  pub cell_is : (numbers : List ℕ) → AreNumbers kind numbers → IsCell axes (cell_of_numbers axes numbers)
  cell_is numbers small d none low =
      subst (λ n. n < class_count (get_or axes d none).dimension) (sym (class_in axes numbers d none (omega arith)))
      ((cut d none low).cut.below (get_or numbers d 0) (small d low))

  pub members_small : Axis → (cell : List ℕ) → IsCell axes cell → AreNumbers kind (members_of axes cell)
  members_small none cell is d low =
      subst (λ n. n ≤ get_or (tops_of kind) d 0) (sym (member_in axes cell d none (omega arith)))
      ((cut d none low).cut.member (get_or cell d 0) (is d none low)).0

  -- and members have the cell again
  pub cell_back : Axis → (cell : List ℕ) → IsCell axes cell → (d : ℕ) → d < 6 → get_or (cell_of_numbers axes (members_of axes cell)) d 0 ≡ get_or cell d 0
  cell_back none cell is d low =
      class_in axes (members_of axes cell) d none (omega arith)
      ∙ ap (class_at (get_or axes d none).dimension) (member_in axes cell d none (omega arith))
      ∙ ((cut d none low).cut.member (get_or cell d 0) (is d none low)).1

length-cell_of : (axes : List Axis) (numbers : List ℕ) → length (cell_of_numbers axes numbers) ≡ length axes
unfolding cell_of_numbers
length-cell_of [] numbers = refl
length-cell_of (axis ∷ axes) numbers = ap suc (length-cell_of axes (drop 1 numbers))

-- cells of six equal classes are one
pub one_cell : (a b : List ℕ) → length a ≡ 6 → length b ≡ 6 → ((d : ℕ) → d < 6 → get_or a d 0 ≡ get_or b d 0) → a ≡ b
one_cell a b six also each =
    let e0 = each 0 (omega arith) in
    let e1 = each 1 (omega arith) in
    let e2 = each 2 (omega arith) in
    let e3 = each 3 (omega arith) in
    let e4 = each 4 (omega arith) in
    let e5 = each 5 (omega arith) in
    let one = six_list a six in
    let other = six_list b also in cc

-- a packet with the members of a cell's classes has that cell
pub cell_again : (kind : PacketKind) (tables : List Ranges) (lists : List (List Condition)) (axes : List Axis) → length axes ≡ 6 → AreAxes kind tables lists axes
    → (cell numbers : List ℕ) → length cell ≡ 6 → IsCell axes cell
    → ((d : ℕ) (none : Axis) → d < 6 → get_or numbers d 0 ≡ member_of (get_or axes d none).dimension (get_or cell d 0)) → Axis
    → cell_of_numbers axes numbers ≡ cell
cell_again kind tables lists axes six cut cell numbers also is members none =
    one_cell (cell_of_numbers axes numbers) cell (length-cell_of axes numbers ∙ six) also (λ d low.
    class_in axes numbers d none (omega arith)
    ∙ ap (class_at (get_or axes d none).dimension) (members d none low)
    ∙ ((cut d none low).cut.member (get_or cell d 0) (is d none low)).1)

pub members_low : (kind : PacketKind) (tables : List Ranges) (lists : List (List Condition)) (axes : List Axis) → AreAxes kind tables lists axes
    → (cell numbers : List ℕ) → IsCell axes cell
    → ((d : ℕ) (none : Axis) → d < 6 → get_or numbers d 0 ≡ member_of (get_or axes d none).dimension (get_or cell d 0)) → Axis
    → AreNumbers kind numbers
members_low kind tables lists axes cut cell numbers is members none d low =
    subst (λ n. n ≤ get_or (tops_of kind) d 0) (sym (members d none low)) ((cut d none low).cut.member (get_or cell d 0) (is d none low)).0
