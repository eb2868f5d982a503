-- Which treatments an answer shows.
use Rattle.std.specs.Prelude.{◌&&◌, ℕ, Bool, true, false, not, Option, Some, None, is_some, List, slice_index_or}
use Rattle.std.specs.List.{list_any, range_with_len}
use Rattle.npf_model.specs.declared.model.Model.{Model}
use Rattle.npf_products.specs.declared.packet.CellPacket.{CellPacket}
use Rattle.npf_judge.specs.declared.says.ClassSays.{ClassSays}
use Rattle.npf_judge.specs.declared.says.ClassSays.TheVariants.{Pass, Block, Both, Empty}
use Rattle.npf_judge.specs.Says.{place_passes}

-- a packet was found for the rule at this place, which passes it
abbrev pub shows_pass : Model → List (Option CellPacket) → ℕ → Bool
shows_pass model rules place = is_some (slice_index_or rules place None) && place_passes model (Some place)

-- or which blocks it
abbrev pub shows_block : Model → List (Option CellPacket) → ℕ → Bool
shows_block model rules place = is_some (slice_index_or rules place None) && not (place_passes model (Some place))

-- one of so many rules does
abbrev pub some_passes : Model → List (Option CellPacket) → ℕ → Bool
some_passes model rules count = list_any (shows_pass model rules) (range_with_len 0 count)

abbrev pub some_blocks : Model → List (Option CellPacket) → ℕ → Bool
some_blocks model rules count = list_any (shows_block model rules) (range_with_len 0 count)

-- what is said where some packets pass or not, and some are blocked or not
abbrev pub says_by : Bool → Bool → ClassSays
says_by true false = Pass
says_by false true = Block
says_by true true = Both
says_by false false = Empty
