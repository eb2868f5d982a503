-- The packets of which the only product holds.
use Rattle.std.proofs.Common.{◌≡◌, ◌∙◌, ◌&&◌, Bool, true, false, Option, Some, None, Result, Ok, Err, List, [], ◌∷◌, refl, sym, subst, ap}
use Rattle.std.specs.Prelude.{All, IfOk, IfSome}
use Rattle.std.proofs.{lemmas.Bool.and_parts, Math.Bool.and-true}
use Rattle.npf_types.specs.declared.{direction.Dir.Dir, facts.Facts.Facts, interface.IfId.IfId}
use Rattle.npf_model.specs.Describes.{Tables}
use Rattle.npf_products.specs.{declared.product.Product.Product, Product.product_holds}
use Rattle.npf_reach.specs.{declared.packets.Packets.Packets, Kinds.{IsKindOf, held_at}, Packets.{IsOf, has_packet}}

-- what holds of what is found, if something is
pub found_so : {X E : Type 0} (P Q R : X → Type 0) → ((x : X) → P x → Q x → R x) → (result : Result (Option X) E)
    → IfOk result (λ found. IfSome found P) → IfOk result (λ found. IfSome found Q) → IfOk result (λ found. IfSome found R)
found_so P Q R so (Ok (Some x)) p q = so x p q
found_so P Q R so (Ok None) p q = tt
found_so P Q R so (Err e) p q = tt

-- packets tell of their own tables and products
pub own_kinds : (tables : Tables) (products : List Product) (packets : Packets) → IsOf tables products packets → IsOf packets.tables.now packets.products.now packets
own_kinds tables products packets of = record {
  tables_are = refl;
  products_are = refl;
  kinds = subst (λ (given : Tables). All (λ part. IsKindOf given packets.products.now part.cells.now) packets.parts.items) (sym of.tables_are)
      (subst (λ (own : List Product). All (λ part. IsKindOf tables own part.cells.now) packets.parts.items) (sym of.products_are) of.kinds);
}

module _ (tables : Tables) (product : Product) (all own : Packets) (of : IsOf tables (product ∷ []) all) (facts : Facts) (ifid : IfId) (dir : Dir) where
  decided : (held_at all.tables.now all.products.now facts ifid dir 0 && true) ≡ product_holds product tables facts ifid dir
  decided = rw (of.tables_are, of.products_are) (and-true (product_holds product tables facts ifid dir))

  -- of a packet of the narrowed ones the product holds
  pub holds_of : has_packet own facts ifid dir ≡ (has_packet all facts ifid dir && (held_at all.tables.now all.products.now facts ifid dir 0 && true))
      → has_packet own facts ifid dir ≡ true → product_holds product tables facts ifid dir ≡ true
  holds_of narrowed there = sym decided ∙ (and_parts _ _ (sym narrowed ∙ there)).1

  -- and of no other one
  pub fails_of : has_packet own facts ifid dir ≡ (has_packet all facts ifid dir && (held_at all.tables.now all.products.now facts ifid dir 0 && true))
      → has_packet all facts ifid dir ≡ true → has_packet own facts ifid dir ≡ false → product_holds product tables facts ifid dir ≡ false
  fails_of narrowed whole none =
      sym decided ∙ sym (ap (λ b. b && (held_at all.tables.now all.products.now facts ifid dir 0 && true)) whole) ∙ sym narrowed ∙ none
