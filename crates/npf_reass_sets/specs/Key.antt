-- Pieces of one key.
use Rattle.std.specs.Prelude.{ℕ, nat_eq, Bool, List, [], ◌∷◌, filter}
use Rattle.std.specs.Cmp.Lexicographic.{pointwise}
use Rattle.npf_types.specs.declared.address.Addr.{Addr}
use Rattle.npf_types.specs.declared.address.Addr.TheVariants.{V4, V6}
use Rattle.npf_types.specs.declared.direction.Dir.{Dir}
use Rattle.npf_types.specs.declared.direction.Dir.TheVariants.{In, Out}
use Rattle.npf_pieces.specs.declared.arrived.Arrived.{Arrived}
use Rattle.npf_pieces.specs.declared.piece.FragKey.{FragKey}

abbrev pub key_direction : Dir → ℕ
key_direction In = 0
key_direction Out = 1

abbrev pub key_version : Addr → ℕ
key_version (V4 _) = 4
key_version (V6 _) = 6

abbrev pub key_address : Addr → ℕ
key_address (V4 address) = address
key_address (V6 address) = address

-- what a key tells, in numbers: interface, direction, version, both addresses, protocol and identification
abbrev pub key_numbers : FragKey → List ℕ
key_numbers key = key.ifid.0 ∷ key_direction key.dir ∷ key_version key.src ∷ key_address key.src ∷ key_version key.dst
    ∷ key_address key.dst ∷ key.proto ∷ key.id ∷ []

abbrev pub is_frag_key : FragKey → FragKey → Bool
is_frag_key key other = pointwise nat_eq (key_numbers key) (key_numbers other)

-- the pieces of a key, in their order
abbrev pub of_key : FragKey → List Arrived → List Arrived
of_key key arrived = filter (λ a. is_frag_key key a.piece.key) arrived
