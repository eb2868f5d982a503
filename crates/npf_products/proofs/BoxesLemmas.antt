-- The boxes of a space, once they are made.
use Rattle.std.proofs.Common.{◌≡◌, ◌<◌, ◌&&◌, ℕ, ◌+◌, true, List, length, sym, ap, ◌∙◌, arith}
use Rattle.std.proofs.lemmas.Bool.{and_from, and_parts}
use Rattle.npf_types.specs.declared.{direction.Dir.Dir, facts.Facts.Facts, interface.IfId.IfId}
use Rattle.npf_boxes.specs.declared.{box_list.Boxes.Boxes, shape.Shape.Shape}
use Rattle.npf_boxes.specs.Cell.{box_at, in_box}
use Rattle.npf_products.specs.declared.{space.Space.Space}
use Rattle.npf_products.specs.Axis.{IsCell, cell_of_numbers}
use Rattle.npf_products.specs.Number.{IsPacketOfKind, numbers_of}
use Rattle.npf_products.specs.Product.{is_possible_first}
use Rattle.npf_products.specs.Space.{AreBoxesOf, IsCutSpace, IsNarrowed, IsPossibleCell, is_met, packet_cell, product_count}
use Rattle.npf_products.proofs.BoxingLemmas.{some_axis}
use Rattle.npf_products.proofs.SpaceLemmas.{cell_back, cell_is, member_in, members_of, members_small, numbers_small, packet_can, same_cell}

-- a box of all cells
pub record IsFull (space : Space) (box : List ℕ) : Type 0 where
  pub all : (cell : List ℕ) → IsCell space.axes.items cell → in_box space.shape box cell ≡ true
  pub cells : (cell : List ℕ) → in_box space.shape box cell ≡ true → IsCell space.axes.items cell

module _ (space : Space) (cut : IsCutSpace space) where
  whole_has : (full whole : List ℕ) → IsFull space full → IsNarrowed space (product_count space) full whole
      → (facts : Facts) (ifid : IfId) (dir : Dir) → IsPacketOfKind space.kind facts ifid → in_box space.shape whole (packet_cell space facts ifid dir) ≡ true
  whole_has full whole is narrowed facts ifid dir packet =
      let numbers = numbers_of facts ifid dir in
      let small = numbers_small space.kind facts ifid dir packet in
      narrowed.met numbers small
      ∙ and_from _ _ (is.all (cell_of_numbers space.axes.items numbers) (cell_is space.kind space.tables.items space.lists.items space.axes.items space.six cut numbers small))
      (space.last space.tables.items numbers ∙ packet_can space.kind facts ifid dir packet)

  whole_can : (full whole : List ℕ) → IsFull space full → IsNarrowed space (product_count space) full whole
      → (cell : List ℕ) → in_box space.shape whole cell ≡ true → IsPossibleCell space cell
  whole_can full whole is narrowed cell within =
      let axes = space.axes.items in
      let none = some_axis axes space.six in
      let classes : IsCell axes cell = is.cells cell (narrowed.within cell within) in
      let members = members_of axes cell in
      let small = members_small space.kind space.tables.items space.lists.items axes space.six cut none cell classes in
      let back = same_cell space.shape whole cell (cell_of_numbers axes members)
      (λ d low. sym (cell_back space.kind space.tables.items space.lists.items axes space.six cut none cell classes d low)) within in
      let asked = (and_parts _ _ (sym (narrowed.met members small) ∙ back)).1 in
      record {
        classes = classes;
        first = λ other.
            let third : 3 < length axes = let six = space.six in omega arith in
            sym (ap (is_possible_first space.kind.carried space.kind.family) (member_in axes cell 3 other third))
            ∙ sym (space.last space.tables.items members) ∙ asked;
      }

  pub boxes_are : (full whole : List ℕ) (before boxes : Boxes) → IsFull space full → IsNarrowed space (product_count space) full whole
      → before.shape ≡ space.shape → before.count ≡ product_count space
      → ((k : ℕ) → k < product_count space → IsNarrowed space k whole (box_at before k))
      → boxes.shape ≡ before.shape → boxes.count ≡ before.count + 1 → box_at boxes before.count ≡ whole
      → ((k : ℕ) → k < before.count → box_at boxes k ≡ box_at before k) → AreBoxesOf space boxes
  boxes_are full whole before boxes is narrowed shape count each same_shape counted there others =
      let shapes : boxes.shape ≡ space.shape = same_shape ∙ shape in
      let last : box_at boxes (product_count space) ≡ whole = ap (box_at boxes) (sym count) ∙ there in
      let at : (k : ℕ) → k < product_count space → box_at boxes k ≡ box_at before k = λ k low. others k (omega arith) in
      let moved : (k : ℕ) (box cell : List ℕ) → box_at boxes k ≡ box → in_box boxes.shape (box_at boxes k) cell ≡ in_box space.shape box cell =
      λ k box cell same. ap (λ (s : Shape). in_box s (box_at boxes k) cell) shapes ∙ ap (λ b. in_box space.shape b cell) same in
      record {
        shape = shapes;
        count = omega arith;
        products = λ k facts ifid dir low packet.
            let numbers = numbers_of facts ifid dir in
            moved k (box_at before k) (packet_cell space facts ifid dir) (at k low)
            ∙ (each k low).met numbers (numbers_small space.kind facts ifid dir packet)
            ∙ ap (λ b. b && is_met space k numbers) (whole_has full whole is narrowed facts ifid dir packet);
        whole = λ facts ifid dir packet.
            moved (product_count space) whole (packet_cell space facts ifid dir) last ∙ whole_has full whole is narrowed facts ifid dir packet;
        within = λ k cell low within.
            moved (product_count space) whole cell last ∙ (each k low).within cell (sym (moved k (box_at before k) cell (at k low)) ∙ within);
        possible = λ cell within. whole_can full whole is narrowed cell (sym (moved (product_count space) whole cell last) ∙ within);
      }
