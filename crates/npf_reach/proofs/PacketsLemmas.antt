-- Packets of all kinds, one kind after the other.
use Rattle.std.proofs.Common.{◌≡◌, ◌+◌, ◌<◌, ◌≤◌, ℕ, ◌&&◌, ◌||◌, Bool, true, false, List, [], ◌∷◌, ◌++◌, length, get_or, map, take, refl, sym, ap, ◌∙◌}
use Rattle.std.{specs.List.{Contains, list_any}, proofs.lemmas.List.{take_all, Folds.{list_any-append, list_any_at, list_any_more}}}
use Rattle.std.proofs.lemmas.Bool.{and_parts}
use Rattle.std.proofs.Math.Bool.{or-false}
use Rattle.npf_types.specs.declared.{direction.Dir.Dir, facts.Facts.Facts, interface.IfId.IfId}
use Rattle.npf_search.specs.declared.decider.Decider.{Decider}
use Rattle.npf_search.specs.Region.{decides}
use Rattle.npf_model.specs.Describes.{Tables}
use Rattle.npf_products.specs.declared.kind.PacketKind.{PacketKind}
use Rattle.npf_products.specs.declared.product.Product.{Product}
use Rattle.npf_products.specs.Kind.{packet_kind}
use Rattle.npf_reach.specs.declared.{kind_cells.KindCells.KindCells, part.KindPart.KindPart}
use Rattle.npf_reach.specs.Kinds.{AreKindsOf, IsKindOf, IsPacket, cells_kind, held_at, is_met_by, is_of_kind}
use Rattle.npf_reach.specs.Packets.{part_has, parts_have}
use Rattle.npf_reach.proofs.KindLemmas.{decided_part, own_kind}

distribute : (a t d : Bool) → ((a && d) || (t && d)) ≡ ((a || t) && d)
distribute true t true = refl
distribute true true false = refl
distribute true false false = refl
distribute false t d = refl

any_of_map : {X Y : Type 0} (test : Y → Bool) (f : X → Y) (xs : List X) → list_any test (map f xs) ≡ list_any (λ x. test (f x)) xs
any_of_map test f [] = refl
any_of_map test f (x ∷ xs) = ap (λ b. test (f x) || b) (any_of_map test f xs)

module _ (facts : Facts) (ifid : IfId) (dir : Dir) where
  pub pushed : (parts : List KindPart) (part : KindPart) → parts_have (parts ++ part ∷ []) facts ifid dir ≡ (parts_have parts facts ifid dir || part_has part facts ifid dir)
  pushed parts part =
      list_any-append (λ one. part_has one facts ifid dir) parts (part ∷ []) ∙ ap (λ b. parts_have parts facts ifid dir || b) (or-false (part_has part facts ifid dir))

  pub whole_more : (parts : List KindPart) (part : KindPart) (cells : List KindCells) (one : KindCells) (i : ℕ) → i < length cells → one ≡ get_or cells i one
      → parts_have parts facts ifid dir ≡ list_any (λ it. is_of_kind (cells_kind it) facts) (take i cells)
      → part_has part facts ifid dir ≡ is_of_kind (cells_kind one) facts
      → parts_have (parts ++ part ∷ []) facts ifid dir ≡ list_any (λ it. is_of_kind (cells_kind it) facts) (take (i + 1) cells)
  whole_more parts part cells one i low is before here =
      let test : KindCells → Bool = λ it. is_of_kind (cells_kind it) facts in
      pushed parts part ∙ ap (λ b. b || part_has part facts ifid dir) before
      ∙ ap (λ b. list_any test (take i cells) || b) (here ∙ ap test is)
      ∙ sym (list_any_more test cells i one low)

  -- there are cells of each packet's kind
  pub whole_last : (tables : Tables) (products : List Product) (cells : List KindCells) (i : ℕ) → AreKindsOf tables products cells → length cells ≤ i
      → list_any (λ it. is_of_kind (cells_kind it) facts) (take i cells) ≡ true
  whole_last tables products cells i are past =
      let test : PacketKind → Bool = λ kind. is_of_kind kind facts in
      let kind = packet_kind facts in
      let there = are.whole kind in
      ap (list_any (λ it. is_of_kind (cells_kind it) facts)) (take_all i cells past)
      ∙ sym (any_of_map test cells_kind cells)
      ∙ list_any_at test (map cells_kind cells) there.0 kind there.1 (ap test there.2 ∙ own_kind facts)

  -- one more part that is narrowed, by what products say
  module _ (tables : Tables) (products : List Product) (decider : Decider) (packet : IsPacket facts ifid) where
    said : (decider.first + decider.count ≤ length products) → (part : KindPart) → IsKindOf tables products part.cells.now
        → (part_has part facts ifid dir && decides (is_met_by part.cells.now facts ifid dir) decider)
        ≡ (part_has part facts ifid dir && decides (held_at tables products facts ifid dir) decider)
    said within part is =
        decided_part tables products part.cells.now facts ifid dir decider (part_has part facts ifid dir) is within packet (λ there. (and_parts _ _ there).0)

    pub narrowed_more : (old new : List KindPart) (part narrow : KindPart) (i : ℕ) → decider.first + decider.count ≤ length products → i < length old → part ≡ get_or old i part
        → IsKindOf tables products part.cells.now
        → parts_have new facts ifid dir ≡ (parts_have (take i old) facts ifid dir && decides (held_at tables products facts ifid dir) decider)
        → part_has narrow facts ifid dir ≡ (part_has part facts ifid dir && decides (is_met_by part.cells.now facts ifid dir) decider)
        → parts_have (new ++ narrow ∷ []) facts ifid dir ≡ (parts_have (take (i + 1) old) facts ifid dir && decides (held_at tables products facts ifid dir) decider)
    narrowed_more old new part narrow i within low is of before here =
        let test : KindPart → Bool = λ one. part_has one facts ifid dir in
        let d = decides (held_at tables products facts ifid dir) decider in
        pushed new narrow
        ∙ ap (λ b. b || test narrow) before
        ∙ ap (λ b. (parts_have (take i old) facts ifid dir && d) || b) (here ∙ said within part of)
        ∙ distribute (parts_have (take i old) facts ifid dir) (test part) d
        ∙ ap (λ b. b && d) (ap (λ (one : KindPart). parts_have (take i old) facts ifid dir || test one) is ∙ sym (list_any_more test old i part low))

    pub narrowed_none : (old new : List KindPart) (part : KindPart) (i : ℕ) → decider.first + decider.count ≤ length products → i < length old → part ≡ get_or old i part
        → IsKindOf tables products part.cells.now
        → parts_have new facts ifid dir ≡ (parts_have (take i old) facts ifid dir && decides (held_at tables products facts ifid dir) decider)
        → (part_has part facts ifid dir && decides (is_met_by part.cells.now facts ifid dir) decider) ≡ false
        → parts_have new facts ifid dir ≡ (parts_have (take (i + 1) old) facts ifid dir && decides (held_at tables products facts ifid dir) decider)
    narrowed_none old new part i within low is of before none =
        let test : KindPart → Bool = λ one. part_has one facts ifid dir in
        let d = decides (held_at tables products facts ifid dir) decider in
        let had = parts_have (take i old) facts ifid dir in
        before ∙ sym (or-false (had && d))
        ∙ ap (λ b. (had && d) || b) (sym none ∙ said within part of)
        ∙ distribute had (test part) d
        ∙ ap (λ b. b && d) (ap (λ (one : KindPart). had || test one) is ∙ sym (list_any_more test old i part low))
