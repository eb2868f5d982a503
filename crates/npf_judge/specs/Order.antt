-- The same of a list of rules of which the first that matches decides.
use Rattle.std.specs.Prelude.{◌≡◌, ◌<◌, ◌+◌, ◌&&◌, ℕ, Bool, true, not, Option, Some, None, List, length, slice_get, slice_index_or, slice_set, take}
use Rattle.std.specs.List.{find, list_any}
use Rattle.npf_types.specs.declared.direction.Dir.{Dir}
use Rattle.npf_types.specs.declared.facts.Facts.{Facts}
use Rattle.npf_types.specs.declared.interface.IfId.{IfId}
use Rattle.npf_model.specs.declared.rule.Rule.{Rule}
use Rattle.npf_model.specs.Describes.{Tables, describes}
use Rattle.npf_precedence.specs.declared.entry.RuleEntry.{RuleEntry}
use Rattle.npf_precedence.specs.Entry.{ordered_rule}
use Rattle.npf_precedence.specs.PrecedenceLaw.{meets}
use Rattle.npf_products.specs.declared.packet.CellPacket.{CellPacket}
use Rattle.npf_reach.specs.declared.packets.Packets.{Packets}
use Rattle.npf_reach.specs.Kinds.{IsPacket, held_at}
use Rattle.npf_reach.specs.Packets.{IsOf, has_packet}
use Rattle.npf_judge.specs.declared.deciders.Deciders.{Deciders}
use Rattle.npf_judge.specs.Deciders.{IsClassPacket}

-- what stands there passes the test; where nothing stands, so does that
abbrev pub passes_here : {X : Type 0} → (X → Bool) → Option X → Bool
passes_here test None = true
passes_here test (Some x) = test x

-- of a list's items this place's is the first that passes the test; the place behind the last is where none does
abbrev pub is_first : {X : Type 0} → (X → Bool) → List X → ℕ → Bool
is_first test xs at = passes_here test (slice_get xs at) && not (list_any test (take at xs))

abbrev pub meets_entry : Tables → Facts → IfId → Dir → RuleEntry → Bool
meets_entry tables facts ifid dir entry = meets tables facts ifid dir (ordered_rule entry)

abbrev pub entry_place : Option RuleEntry → Option ℕ
entry_place None = None
entry_place (Some entry) = Some entry.place

-- the place of the first that matches
abbrev pub decider_in : Tables → List RuleEntry → Facts → IfId → Dir → Option ℕ
decider_in tables order facts ifid dir = entry_place (find (meets_entry tables facts ifid dir) order)

-- a packet of the class on which this rule, or none, decides
pub record IsDecidedIn (tables : Tables) (class : Rule) (order : List RuleEntry) (rule : Option ℕ) (packet : CellPacket) : Type 0 where
  pub of_class : IsClassPacket tables class packet.facts packet.ifid packet.dir
  pub decided : decider_in tables order packet.facts packet.ifid packet.dir ≡ rule

-- a packet was found for the rule, if it is one
abbrev pub HasWitness : List (Option CellPacket) → Option ℕ → Type 0
HasWitness rules None = Unit {0}
HasWitness rules (Some place) = (packet : CellPacket) × (slice_index_or rules place None ≡ Some packet)

-- what was found for the rule at a place is noted
abbrev pub put_found : List (Option CellPacket) → ℕ → Option CellPacket → List (Option CellPacket)
put_found rules place None = rules
put_found rules place (Some packet) = slice_set rules place (Some packet)

-- each packet that was found is one, and for each packet of the class one of its decider's was found
abbrev pub AreSound : Tables → Rule → List RuleEntry → List (Option CellPacket) → Type 0
AreSound tables class order rules = (place : ℕ) (packet : CellPacket) → slice_index_or rules place None ≡ Some packet
    → IsDecidedIn tables class order (Some place) packet

abbrev pub AreWhole : Tables → Rule → List RuleEntry → List (Option CellPacket) → Type 0
AreWhole tables class order rules = (facts : Facts) (ifid : IfId) (dir : Dir) → IsClassPacket tables class facts ifid dir
    → HasWitness rules (decider_in tables order facts ifid dir)

-- a packet on which none decides, or nothing where there is none
abbrev pub IsNoneFound : Tables → Rule → List RuleEntry → Option CellPacket → Type 0
IsNoneFound tables class order (Some packet) = IsDecidedIn tables class order None packet
IsNoneFound tables class order None = (facts : Facts) (ifid : IfId) (dir : Dir) → IsClassPacket tables class facts ifid dir
    → ¬ decider_in tables order facts ifid dir ≡ None

pub record IsOrderAnswer (tables : Tables) (class : Rule) (order : List RuleEntry) (answer : Deciders) : Type 0 where
  pub count : length answer.rules.items ≡ length order
  pub sound : AreSound tables class order answer.rules.items
  pub whole : AreWhole tables class order answer.rules.items
  pub none : IsNoneFound tables class order answer.none

-- the packets are those of the class, and behind the class's product stand those of these entries
pub record IsQuestion (class : Rule) (order : List RuleEntry) (packets : Packets) : Type 0 where
  pub of : IsOf packets.tables.now packets.products.now packets
  pub of_class : (facts : Facts) (ifid : IfId) (dir : Dir) → IsPacket facts ifid
      → has_packet packets facts ifid dir ≡ describes class packets.tables.now facts ifid dir
  pub count : length packets.products.now ≡ 1 + length order
  pub held : (at : ℕ) (facts : Facts) (ifid : IfId) (dir : Dir) → at < length order
      → held_at packets.tables.now packets.products.now facts ifid dir (1 + at)
      ≡ passes_here (meets_entry packets.tables.now facts ifid dir) (slice_get order at)
