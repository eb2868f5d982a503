-- The numbers of a configuration's products, and the packets on which its rules and maps decide.
use Rattle.std.proofs.Common.{◌≡◌, ℕ, zero, suc, ◌+◌, ◌*◌, ◌<◌, ◌≤◌, ◌&&◌, Bool, true, false, List, [], ◌∷◌, ◌++◌, Option, Some, None, length, map, take, drop, get_or, slice_get}
use Rattle.std.proofs.Common.{refl, sym, subst, ap, ◌∙◌, append_assoc, append-nil, length-append, arith}
use Rattle.std.specs.Option.{option_map}
use Rattle.std.proofs.lemmas.List.{drop_at, length-map, map-append, map_more, take_all, take_at}
use Rattle.std.proofs.lemmas.Option.{slice_get-map}
use Rattle.npf_types.specs.declared.{direction.Dir.{Dir, TheVariants.{In, Out}}, facts.Facts.Facts, interface.IfId.IfId}
use Rattle.npf_model.specs.declared.map.Map.{Map}
use Rattle.npf_model.specs.Describes.{Tables}
use Rattle.npf_products.specs.declared.{product.Product.Product, tables.TableSpan.TableSpan}
use Rattle.npf_products.specs.{End.own_tables, Product.{applies_in, product_holds}}
use Rattle.npf_reach.specs.declared.packets.Packets.{Packets}
use Rattle.npf_reach.specs.{Kinds.{IsPacket, held, held_at}, Packets.{IsOf, has_packet}}
use Rattle.npf_search.specs.{Region.decides, declared.decider.Decider.Decider}
use Rattle.npf_judge.specs.Order.{is_first, meets_entry, passes_here}
use Rattle.npf_judge.proofs.{FirstLemmas.decides_from, QuestionLemmas.self_of}
use Rattle.npf_compare_maps.specs.declared.side.{RankedConfig.RankedConfig, RankedSide.RankedSide}
use Rattle.npf_compare_maps.specs.Side.{IsComparison, ProductTest, IsRanked, IsSide, entry_holds, is_translated, map_count, map_holds, maps_from, side_holds}

-- ---- tables
pub tables_in_front : (one other : Tables) (span : TableSpan) → span.first ≡ 0 → span.count ≡ length one → own_tables span (one ++ other) ≡ one
tables_in_front one other span first count = ap (λ n. take span.count (drop n (one ++ other))) first ∙ take_at one other span.count (sym count)

pub tables_behind : (one other : Tables) (span : TableSpan) → span.first ≡ length one → span.count ≡ length other → own_tables span (one ++ other) ≡ other
tables_behind one other span first count =
    ap (take span.count) (drop_at one other span.first (sym first)) ∙ take_all span.count other (omega (arith, count))

-- ---- products
abbrev holds_there : Option ProductTest → Tables → Facts → IfId → Dir → Bool
holds_there None all facts ifid dir = false
holds_there (Some holds) all facts ifid dir = holds all facts ifid dir

held_as : (found : Option Product) (all : Tables) (facts : Facts) (ifid : IfId) (dir : Dir)
    → held found all facts ifid dir ≡ holds_there (option_map product_holds found) all facts ifid dir
held_as None all facts ifid dir = refl
held_as (Some product) all facts ifid dir = refl

-- one more is put behind those so far
pub holds_more : {P X H : Type 0} (f : P → H) (g : X → H) (start old new : List P) (p : P) (xs : List X) (k : ℕ) (x : X) → new ≡ old ++ p ∷ []
    → map f old ≡ map f start ++ map g (take k xs) → k < length xs → x ≡ get_or xs k x → f p ≡ g x → map f new ≡ map f start ++ map g (take (k + 1) xs)
holds_more f g start old new p xs k x items before low is same =
    ap (map f) items
    ∙ map-append f old (p ∷ [])
    ∙ ap (λ ys. ys ++ f p ∷ []) before
    ∙ append_assoc (map f start) (map g (take k xs)) (f p ∷ [])
    ∙ ap (λ h. map f start ++ (map g (take k xs) ++ h ∷ [])) (same ∙ ap g is)
    ∙ ap (λ ys. map f start ++ ys) (sym (map_more g xs k x low))

-- the list of a part, by the numbers from its front on
get_part : {X : Type 0} (front part behind : List X) (k : ℕ) → k < length part → slice_get (front ++ (part ++ behind)) (length front + k) ≡ slice_get part k
get_part [] part behind k low = let same : 0 + k ≡ k = omega arith in ap (slice_get (part ++ behind)) same ∙ get_front part k low
  where
    get_front : (xs : List _) (n : ℕ) → n < length xs → slice_get (xs ++ behind) n ≡ slice_get xs n
    get_front [] n within = absurd (omega arith)
    get_front (x ∷ xs) zero within = refl
    get_front (x ∷ xs) (suc n) within = get_front xs n (omega arith)
get_part (x ∷ front) part behind k low =
    let same : suc (length front) + k ≡ suc (length front + k) = omega arith in
    ap (slice_get (x ∷ (front ++ (part ++ behind)))) same ∙ get_part front part behind k low

module _ (all : Tables) (facts : Facts) (ifid : IfId) (dir : Dir) where
  passes_as : {X : Type 0} (holds : X → ProductTest) (xs : List X) (at : ℕ) → at < length xs
      → holds_there (slice_get (map holds xs) at) all facts ifid dir ≡ passes_here (λ x. holds x all facts ifid dir) (slice_get xs at)
  passes_as holds [] at low = absurd (omega arith)
  passes_as holds (x ∷ xs) zero low = refl
  passes_as holds (x ∷ xs) (suc at) low = passes_as holds xs at (omega arith)

  -- what stands in a part of the products
  part_held : {X : Type 0} (holds : X → ProductTest) (xs : List X) (products : List Product) (front behind : List ProductTest)
      → map product_holds products ≡ front ++ (map holds xs ++ behind) → (number at : ℕ) → number ≡ length front → at < length xs
      → held_at all products facts ifid dir (number + at) ≡ passes_here (λ x. holds x all facts ifid dir) (slice_get xs at)
  part_held holds xs products front behind made number at first low =
      held_as (slice_get products (number + at)) all facts ifid dir
      ∙ ap (λ o. holds_there o all facts ifid dir)
      (sym (slice_get-map product_holds products (number + at)) ∙ ap (λ hs. slice_get hs (number + at)) made
      ∙ ap (λ n. slice_get (front ++ (map holds xs ++ behind)) (n + at)) first
      ∙ get_part front (map holds xs) behind at (omega (arith, low, length-map xs holds)))
      ∙ passes_as holds xs at low

-- ---- a configuration
module _ (all : Tables) (products : List Product) (side : RankedSide) (span : TableSpan) (front behind : List ProductTest)
    (made : map product_holds products ≡ front ++ (side_holds span side.config ++ behind)) (first : side.first ≡ length front)
    (own : own_tables span all ≡ side.config.tables.now) where
  abbrev rules_hold : List ProductTest
  rules_hold = map (entry_holds span) side.config.order.now

  abbrev maps_hold : Dir → List ProductTest
  maps_hold asked = map (map_holds span asked) side.config.model.now.maps

  rules_made : map product_holds products ≡ front ++ (rules_hold ++ ((maps_hold Out ++ maps_hold In) ++ behind))
  rules_made = made ∙ ap (λ hs. front ++ hs) (append_assoc rules_hold (maps_hold Out ++ maps_hold In) behind)

  outward_made : map product_holds products ≡ (front ++ rules_hold) ++ (maps_hold Out ++ (maps_hold In ++ behind))
  outward_made = rules_made ∙ ap (λ hs. front ++ (rules_hold ++ hs)) (append_assoc (maps_hold Out) (maps_hold In) behind)
      ∙ sym (append_assoc front rules_hold (maps_hold Out ++ (maps_hold In ++ behind)))

  inward_made : map product_holds products ≡ ((front ++ rules_hold) ++ maps_hold Out) ++ (maps_hold In ++ behind)
  inward_made = outward_made ∙ sym (append_assoc (front ++ rules_hold) (maps_hold Out) (maps_hold In ++ behind))

  rules_length : length (front ++ rules_hold) ≡ side.first + length side.config.order.now
  rules_length = length-append front rules_hold ∙ (let n = length-map side.config.order.now (entry_holds span) in omega (arith, first, n))

  maps_length : (asked : Dir) → length (maps_hold asked) ≡ map_count side.config
  maps_length asked = length-map side.config.model.now.maps (map_holds span asked)

  maps_held : (asked : Dir) (at : ℕ) (facts : Facts) (ifid : IfId) (dir : Dir) → at < map_count side.config
      → held_at all products facts ifid dir (maps_from side asked + at)
      ≡ passes_here (λ map. applies_in asked map (own_tables span all) facts ifid dir) (slice_get side.config.model.now.maps at)
  maps_held Out at facts ifid dir low =
      part_held all facts ifid dir (map_holds span Out) side.config.model.now.maps products (front ++ rules_hold) (maps_hold In ++ behind) outward_made
      (maps_from side Out) at (sym rules_length) low
  maps_held In at facts ifid dir low =
      part_held all facts ifid dir (map_holds span In) side.config.model.now.maps products ((front ++ rules_hold) ++ maps_hold Out) behind inward_made
      (maps_from side In) at (let n = length-append (front ++ rules_hold) (maps_hold Out) in omega (arith, n, rules_length, maps_length Out)) low

  pub is_side : IsRanked side.config → IsSide all products side
  is_side ranked = record {
    ranked = ranked;
    within = (
        let whole = ap length inward_made in
        let count = length-map products product_holds in
        let one = length-append ((front ++ rules_hold) ++ maps_hold Out) (maps_hold In ++ behind) in
        let two = length-append (front ++ rules_hold) (maps_hold Out) in
        let three = length-append (maps_hold In) behind in
        omega (arith, whole, count, one, two, three, rules_length, maps_length Out, maps_length In)
        );
    rules = λ at facts ifid dir low.
        part_held all facts ifid dir (entry_holds span) side.config.order.now products front ((maps_hold Out ++ maps_hold In) ++ behind) rules_made side.first at first low
        ∙ ap (λ tables. passes_here (meets_entry tables facts ifid dir) (slice_get side.config.order.now at)) own;
    maps = λ asked at facts ifid dir low.
        maps_held asked at facts ifid dir low
        ∙ ap (λ tables. passes_here (λ map. applies_in asked map tables facts ifid dir) (slice_get side.config.model.now.maps at)) own;
  }

-- those of one configuration, and behind them those of the other
module _ (all : Tables) (nothing some products : List Product) (before after : RankedConfig) (old_span new_span : TableSpan) (empty : nothing ≡ [])
    (first : map product_holds some ≡ map product_holds nothing ++ side_holds old_span before)
    (second : map product_holds products ≡ map product_holds some ++ side_holds new_span after)
    (joined : all ≡ before.tables.now ++ after.tables.now) (side : RankedSide) where
  first_are : map product_holds some ≡ side_holds old_span before
  first_are = first ∙ ap (λ ps. map product_holds ps ++ side_holds old_span before) empty

  pub side_in_front : side.config ≡ before → side.first ≡ 0 → old_span.first ≡ 0 → old_span.count ≡ length before.tables.now → IsRanked before → IsSide all products side
  side_in_front same number span count ranked =
      is_side all products side old_span [] (side_holds new_span after)
      (second ∙ ap (λ hs. hs ++ side_holds new_span after) first_are ∙ ap (λ config. side_holds old_span config ++ side_holds new_span after) (sym same)) number
      (ap (own_tables old_span) joined ∙ tables_in_front before.tables.now after.tables.now old_span span count ∙ ap (λ (config : RankedConfig). config.tables.now) (sym same))
      (subst IsRanked (sym same) ranked)

  pub side_behind : side.config ≡ after → side.first ≡ length some → new_span.first ≡ length before.tables.now → new_span.count ≡ length after.tables.now → IsRanked after
      → IsSide all products side
  side_behind same number span count ranked =
      is_side all products side new_span (side_holds old_span before) []
      (second ∙ ap (λ hs. hs ++ side_holds new_span after) first_are
      ∙ ap (λ hs. side_holds old_span before ++ hs) (sym (append-nil (side_holds new_span after)))
      ∙ ap (λ config. side_holds old_span before ++ (side_holds new_span config ++ [])) (sym same))
      (number ∙ sym (length-map some product_holds) ∙ ap length first_are)
      (ap (own_tables new_span) joined ∙ tables_behind before.tables.now after.tables.now new_span span count ∙ ap (λ (config : RankedConfig). config.tables.now) (sym same))
      (subst IsRanked (sym same) ranked)

pub is_comparison : (tables : Tables) (products : List Product) (before after : RankedSide) (packets : Packets) → IsOf tables products packets
    → ((facts : Facts) (ifid : IfId) (dir : Dir) → IsPacket facts ifid → has_packet packets facts ifid dir ≡ true) → IsSide tables products before → IsSide tables products after
    → IsComparison (record { before = before; after = after; packets = packets })
is_comparison tables products before after packets of all one other = record {
  of = self_of tables products packets of;
  all = all;
  before = subst (λ ts. IsSide ts packets.products.now before) (sym of.tables_are) (subst (λ ps. IsSide tables ps before) (sym of.products_are) one);
  after = subst (λ ts. IsSide ts packets.products.now after) (sym of.tables_are) (subst (λ ps. IsSide tables ps after) (sym of.products_are) other);
}

-- ---- packets
module _ (side : RankedSide) (packets left : Packets) (decider : Decider) (at : ℕ) (is : IsSide packets.tables.now packets.products.now side) (place : decider.place ≡ at)
    (narrowed : (facts : Facts) (ifid : IfId) (dir : Dir) → IsPacket facts ifid
    → has_packet left facts ifid dir ≡ (has_packet packets facts ifid dir && decides (held_at packets.tables.now packets.products.now facts ifid dir) decider)) where
  pub decided_are : decider.first ≡ side.first → decider.count ≡ length side.config.order.now → (facts : Facts) (ifid : IfId) (dir : Dir) → IsPacket facts ifid
      → has_packet left facts ifid dir ≡ (has_packet packets facts ifid dir && is_first (meets_entry side.config.tables.now facts ifid dir) side.config.order.now at)
  decided_are first count facts ifid dir packet =
      let test = meets_entry side.config.tables.now facts ifid dir in
      narrowed facts ifid dir packet
      ∙ ap (λ b. has_packet packets facts ifid dir && b)
      (decides_from test side.first (held_at packets.tables.now packets.products.now facts ifid dir) side.config.order.now decider first count
      (λ k low. is.rules k facts ifid dir low)
      ∙ ap (is_first test side.config.order.now) place)

  pub translated_are : (asked : Dir) → decider.first ≡ maps_from side asked → decider.count ≡ map_count side.config → (facts : Facts) (ifid : IfId) (dir : Dir)
      → IsPacket facts ifid → has_packet left facts ifid dir ≡ (has_packet packets facts ifid dir && is_translated side.config asked at facts ifid dir)
  translated_are asked first count facts ifid dir packet =
      let test : Map → Bool = λ map. applies_in asked map side.config.tables.now facts ifid dir in
      narrowed facts ifid dir packet
      ∙ ap (λ b. has_packet packets facts ifid dir && b)
      (decides_from test (maps_from side asked) (held_at packets.tables.now packets.products.now facts ifid dir) side.config.model.now.maps decider first count
      (λ k low. is.maps asked k facts ifid dir low)
      ∙ ap (is_first test side.config.model.now.maps) place)

-- each map's own number is in range
pub maps_within : (side : RankedSide) (asked : Dir) (n : ℕ) → side.first + length side.config.order.now + 2 * map_count side.config ≤ n → maps_from side asked + map_count side.config ≤ n
maps_within side Out n low = omega (arith, low)
maps_within side In n low = omega (arith, low)
