-- What products of both configurations hold of, with the tables of both one behind the other.
use Rattle.std.proofs.Common.{◌≡◌, ℕ, zero, suc, ◌+◌, ◌<◌, true, List, [], ◌∷◌, ◌++◌, length, length-append, map, slice_get, take, drop, refl, sym, ap, ◌∙◌, arith}
use Rattle.std.proofs.lemmas.List.{length-map, take_all}
use Rattle.npf_types.specs.declared.{direction.Dir.Dir, facts.Facts.Facts, interface.IfId.IfId}
use Rattle.npf_model.specs.Describes.{Tables}
use Rattle.npf_precedence.specs.declared.entry.RuleEntry.{RuleEntry}
use Rattle.npf_products.specs.declared.{product.Product.Product, tables.TableSpan.TableSpan}
use Rattle.npf_products.specs.End.{own_tables}
use Rattle.npf_reach.specs.{Kinds.{IsPacket, held, held_at}, Packets.{IsOf, has_packet}, declared.packets.Packets.Packets}
use Rattle.npf_judge.specs.Order.{meets_entry, passes_here}
use Rattle.npf_judge.specs.Products.{entry_product}
use Rattle.npf_judge.proofs.QuestionLemmas.{self_of}
use Rattle.npf_compare.specs.declared.side.RuleSide.{RuleSide}
use Rattle.npf_compare.specs.Side.{AreJoined, AreOfBoth}

-- ---- two lists one behind the other
front_taken : {X : Type 0} (xs ys : List X) → take (length xs) (xs ++ ys) ≡ xs
front_taken [] ys = refl
front_taken (x ∷ xs) ys = ap (λ rest. x ∷ rest) (front_taken xs ys)

front_dropped : {X : Type 0} (xs ys : List X) → drop (length xs) (xs ++ ys) ≡ ys
front_dropped [] ys = refl
front_dropped (x ∷ xs) ys = front_dropped xs ys

get_in_front : {X : Type 0} (xs ys : List X) (count at : ℕ) → length xs ≡ count → at < count → slice_get (xs ++ ys) at ≡ slice_get xs at
get_in_front [] ys count at is low = absurd (omega (arith, is, low))
get_in_front (x ∷ xs) ys count zero is low = refl
get_in_front (x ∷ xs) ys zero (suc at) is low = absurd (omega (arith, low))
get_in_front (x ∷ xs) ys (suc count) (suc at) is low = get_in_front xs ys count at (omega (arith, is)) (omega (arith, low))

get_behind : {X : Type 0} (xs ys : List X) (count at : ℕ) → count ≡ length xs → slice_get (xs ++ ys) (count + at) ≡ slice_get ys at
get_behind [] ys count at is = let same : count + at ≡ at = omega (arith, is) in ap (slice_get ys) same
get_behind (x ∷ xs) ys zero at is = absurd (omega (arith, is))
get_behind (x ∷ xs) ys (suc count) at is =
    let next : suc count + at ≡ suc (count + at) = omega arith in
    ap (slice_get (x ∷ xs ++ ys)) next ∙ get_behind xs ys count at (omega (arith, is))

-- ---- the rules of one
entries_held : (tables own : Tables) (span : TableSpan) → own_tables span tables ≡ own → (order : List RuleEntry) (at : ℕ) (facts : Facts) (ifid : IfId) (dir : Dir)
    → at < length order → held (slice_get (map (entry_product span) order) at) tables facts ifid dir ≡ passes_here (meets_entry own facts ifid dir) (slice_get order at)
entries_held tables own span is [] at facts ifid dir low = absurd (omega arith)
entries_held tables own span is (e ∷ es) zero facts ifid dir low = ap (λ all. meets_entry all facts ifid dir e) is
entries_held tables own span is (e ∷ es) (suc at) facts ifid dir low = entries_held tables own span is es at facts ifid dir (omega arith)

module _ (old new : RuleSide) (tables : Tables) (products : List Product) (joined : AreJoined old new tables products) where
  old_tables : own_tables joined.old_span tables ≡ old.tables.now
  old_tables =
      ap (own_tables joined.old_span) joined.tables_are
      ∙ ap (λ n. take joined.old_span.count (drop n (old.tables.now ++ new.tables.now))) joined.old_first
      ∙ ap (λ n. take n (old.tables.now ++ new.tables.now)) joined.old_count
      ∙ front_taken old.tables.now new.tables.now

  new_tables : own_tables joined.new_span tables ≡ new.tables.now
  new_tables =
      ap (own_tables joined.new_span) joined.tables_are
      ∙ ap (λ n. take joined.new_span.count (drop n (old.tables.now ++ new.tables.now))) joined.new_first
      ∙ ap (take joined.new_span.count) (front_dropped old.tables.now new.tables.now)
      ∙ take_all joined.new_span.count new.tables.now (omega (arith, joined.new_count))

  pub of_both : (packets : Packets) → IsOf tables products packets
      → ((facts : Facts) (ifid : IfId) (dir : Dir) → IsPacket facts ifid → has_packet packets facts ifid dir ≡ true) → AreOfBoth old new packets
  of_both packets of all =
      let olds = map (entry_product joined.old_span) old.order.now in
      let news = map (entry_product joined.new_span) new.order.now in
      let old_length : length olds ≡ length old.order.now = length-map old.order.now (entry_product joined.old_span) in
      let new_length : length news ≡ length new.order.now = length-map new.order.now (entry_product joined.new_span) in
      let are : packets.products.now ≡ olds ++ news = of.products_are ∙ joined.products_are in
      record {
        of = self_of tables products packets of;
        all = all;
        count = omega (arith, ap length are, length-append olds news, old_length, new_length);
        old_held = λ at facts ifid dir low.
            ap (λ ts. held_at ts packets.products.now facts ifid dir at) of.tables_are
            ∙ ap (λ (ps : List Product). held (slice_get ps at) tables facts ifid dir) are
            ∙ ap (λ o. held o tables facts ifid dir) (get_in_front olds news (length old.order.now) at old_length low)
            ∙ entries_held tables old.tables.now joined.old_span old_tables old.order.now at facts ifid dir low;
        new_held = λ at facts ifid dir low.
            ap (λ ts. held_at ts packets.products.now facts ifid dir (length old.order.now + at)) of.tables_are
            ∙ ap (λ (ps : List Product). held (slice_get ps (length old.order.now + at)) tables facts ifid dir) are
            ∙ ap (λ o. held o tables facts ifid dir) (get_behind olds news (length old.order.now) at (sym old_length))
            ∙ entries_held tables new.tables.now joined.new_span new_tables new.order.now at facts ifid dir low;
      }
