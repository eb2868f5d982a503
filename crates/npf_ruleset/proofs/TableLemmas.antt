-- A look-up in the tables answers what the lists of their blocks say.
use Rattle.std.proofs.Common.{◌≡◌, ◌↔◌, ◌<◌, ◌≤◌, ℕ, Bool, true, false, IsTrue, List, [], ◌∷◌, length, get_or, refl, sym, subst, ap, ◌∙◌, arith, true≢false, suc, inl, inr}
use Rattle.std.specs.{Prelude.◌||◌, Option.option_map, Arc.arc_value, declared.sync.Arc.Arc}
use Rattle.std.proofs.lemmas.{Bool.{cases_Bool, eq-eqb, eqb-true, false_from_ne_true}, List.Folds.list_any_at}
use Rattle.std.proofs.lemmas.Option.{slice_get_past, slice_get_read, slice_get-map}
use Rattle.npf_types.specs.{declared.{address.Addr.{Addr, TheVariants.{V4, V6}}, prefix.Prefix.Prefix}, Address.{SharesFirst, first_bits, shares_first}}
use Rattle.npf_types.specs.Prefix.{Covers, covers, has_address}
use Rattle.npf_table.specs.{declared.table.Table.Table, Table.prefixes}
use Rattle.npf_model.specs.Describes.{entries_have, table_has}
use Rattle.npf_ruleset.specs.Tables.{entries}

shares_from : (n : ℕ) (a b : Addr) → SharesFirst n a b → shares_first n a b ≡ true
shares_from n (V4 a) (V4 b) same = eq-eqb (first_bits 32 n a) (first_bits 32 n b) same
shares_from n (V6 a) (V6 b) same = eq-eqb (first_bits 128 n a) (first_bits 128 n b) same
shares_from n (V4 a) (V6 b) same = absurd same
shares_from n (V6 a) (V4 b) same = absurd same

shares_to : (n : ℕ) (a b : Addr) → shares_first n a b ≡ true → SharesFirst n a b
shares_to n (V4 a) (V4 b) same = eqb-true (first_bits 32 n a) (first_bits 32 n b) same
shares_to n (V6 a) (V6 b) same = eqb-true (first_bits 128 n a) (first_bits 128 n b) same
shares_to n (V4 a) (V6 b) same = absurd (true≢false (sym same))
shares_to n (V6 a) (V4 b) same = absurd (true≢false (sym same))

covers_from : (blocks : List Prefix) (addr : Addr) → Covers blocks addr → covers blocks addr ≡ true
covers_from blocks addr c =
    list_any_at (λ block. has_address block addr) blocks c.listed.0 c.prefix c.listed.1
    (subst (λ block. has_address block addr ≡ true) (sym c.listed.2) (shares_from c.prefix.len c.prefix.addr addr c.has))

behind : (block : Prefix) (blocks : List Prefix) (addr : Addr) → Covers blocks addr → Covers (block ∷ blocks) addr
behind block blocks addr c = record {
  prefix = c.prefix;
  listed = (suc c.listed.0, (let lt = c.listed.1 in omega arith), c.listed.2);
  has = c.has;
}

covers_to : (blocks : List Prefix) (addr : Addr) → covers blocks addr ≡ true → Covers blocks addr
covers_to [] addr is = absurd (true≢false (sym is))
covers_to (block ∷ blocks) addr is = elim (cases_Bool (has_address block addr)) [
  | inl has ↦ record { prefix = block; listed = (0, omega arith, refl); has = shares_to block.len block.addr addr has }
  | inr not_has ↦ behind block blocks addr (covers_to blocks addr (subst (λ b. (b || covers blocks addr) ≡ true) not_has is))
]

covered : (blocks : List Prefix) (addr : Addr) (found : Bool) → (IsTrue found ↔ Covers blocks addr) → found ≡ covers blocks addr
covered blocks addr true is = sym (covers_from blocks addr (is.0 refl))
covered blocks addr false is = sym (false_from_ne_true (covers blocks addr) (λ c. true≢false (sym (is.1 (covers_to blocks addr c)))))

module _ {Z : Type 0} (tables : List (Arc Table Z)) (number : ℕ) (addr : Addr) where
  pub found_in_table : (table : Arc Table Z) (found : Bool) → number < length tables → table ≡ get_or tables number table
      → (IsTrue found ↔ Covers (prefixes (arc_value table)) addr) → found ≡ table_has (entries tables) number addr
  found_in_table table found lt is there =
      covered (prefixes (arc_value table)) addr found there
      ∙ sym (ap (λ t. entries_have t addr) (slice_get-map (λ t. prefixes (arc_value t)) tables number
      ∙ ap (option_map (λ t. prefixes (arc_value t))) (slice_get_read tables (length tables) number table refl lt is)))

  pub found_nowhere : length tables ≤ number → false ≡ table_has (entries tables) number addr
  found_nowhere past =
      sym (ap (λ t. entries_have t addr) (slice_get-map (λ t. prefixes (arc_value t)) tables number ∙ ap (option_map (λ t. prefixes (arc_value t))) (slice_get_past tables number past)))
