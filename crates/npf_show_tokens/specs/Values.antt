-- What is written for a value of a model is read as that value: the letters of flags, a block's address and length, a name, and the name
-- of a table or a procedure that stands in no place before.
use Rattle.std.specs.Prelude.{◌≡◌, ◌<◌, ◌^◌, ℕ, true, Some, List, slice_get}
use Rattle.npf_types.specs.declared.prefix.Prefix.{Prefix}
use Rattle.npf_types.specs.Block.{block}
use Rattle.npf_types.specs.Name.{name_bytes}
use Rattle.npf_types.specs.NameText.{is_name}
use Rattle.npf_types.specs.Named.{named}
use Rattle.npf_expand_values.specs.Declarations.{no_number, table_number}
use Rattle.npf_expand.specs.Rule.{flag_bits}
use Rattle.npf_show.specs.Filter.{flag_text}

-- the name stands at this place and at none before
pub record IsFirstName (names : List (List ℕ)) (place : ℕ) (name : List ℕ) : Type 0 where
  pub there : slice_get names place ≡ Some name
  pub first : (before : ℕ) → before < place → ¬ (slice_get names before ≡ Some name)

pub record ValuesComeBack : Type 0 where
  pub flags : (bits : ℕ) → bits < 2 ^ 8 → flag_bits (flag_text bits) ≡ bits
  pub prefix : (prefix : Prefix) → block prefix.addr prefix.len ≡ prefix
  pub name : (text : List ℕ) → is_name text ≡ true → named (name_bytes (named text)) ≡ named text
  pub place : (names : List (List ℕ)) (place : ℕ) (name : List ℕ) → IsFirstName names place name → place < no_number → table_number names name ≡ place
