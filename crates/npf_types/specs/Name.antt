use Rattle.std.specs.Prelude.{ℕ, List, take}
use Rattle.npf_types.specs.declared.name.Name.{Name}

-- the bytes of a name
abbrev pub name_bytes : Name → List ℕ
name_bytes name = take name.len name.bytes
