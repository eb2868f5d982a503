-- What a map changes (npf.conf(5), "Map"; RFC 3022). The left side is the inside: a packet that
-- goes out gets its source from the right side, and one that comes in its destination from the
-- left.
use Rattle.std.specs.Prelude.{◌≤◌, ℕ, Bool, true, false, ◌&&◌, if◌then◌else◌, Option, Some, None}
use Rattle.std.specs.Option.{option_map}
use Rattle.npf_types.specs.declared.address.Addr.{Addr}
use Rattle.npf_types.specs.declared.change.Change.{Change}
use Rattle.npf_types.specs.declared.direction.Dir.{Dir}
use Rattle.npf_types.specs.declared.direction.Dir.TheVariants.{In, Out}
use Rattle.npf_types.specs.declared.facts.Facts.{Facts}
use Rattle.npf_types.specs.declared.prefix.Prefix.{Prefix}
use Rattle.npf_model.specs.MapOf.{fits_map_protocol, fits_segment}
use Rattle.npf_model.specs.declared.map.Algo.{Algo}
use Rattle.npf_model.specs.declared.map.Algo.TheVariants.{Dynamic, Netmap, Npt66}
use Rattle.npf_model.specs.declared.map.Map.{Map}
use Rattle.npf_nat.specs.declared.map_plan.MapPlan.{MapPlan}
use Rattle.npf_nat.specs.declared.map_plan.MapPlan.TheVariants.{Fixed, Draw}
use Rattle.npf_nat.specs.Answer.{answer_change}
use Rattle.npf_nat.specs.FirstPort.{drawn_for, drawn_range, first_candidate}
use Rattle.npf_nat.specs.Netmap.{netmap}
use Rattle.npf_nat.specs.Npt.{npt66_address}

-- the address that a map gives to one of the block `from`
abbrev pub translated_address : Algo → Prefix → Prefix → Addr → Addr
translated_address Dynamic from to addr = to.addr
translated_address Netmap from to addr = netmap to addr
translated_address Npt66 from to addr = npt66_address from to addr

-- a translation that keeps the sum of the addresses
abbrev pub is_neutral : Algo → Bool
is_neutral Dynamic = false
is_neutral Netmap = false
is_neutral Npt66 = true

abbrev pub source_change : Addr → Option ℕ → Bool → Change
source_change addr port neutral = record { src = Some (record { addr = addr; port = port }); dst = None; neutral = neutral }

abbrev pub destination_change : Addr → Option ℕ → Bool → Change
destination_change addr port neutral = record { src = None; dst = Some (record { addr = addr; port = port }); neutral = neutral }

abbrev pub outward_change : Map → Facts → Change
outward_change map facts =
    source_change (translated_address map.algo map.inside.net map.outside.net facts.src) None (is_neutral map.algo)

-- the left port too where the left side gives one
abbrev pub inward_change : Map → Facts → Change
inward_change map facts =
    destination_change (translated_address map.algo map.outside.net map.inside.net facts.dst) (option_map (λ range. range.0) map.inside.ports)
    (is_neutral map.algo)

abbrev pub fixed : Facts → Change → MapPlan
fixed facts there = Fixed there (answer_change facts there)

-- the right side's address, and the numbers from which one is drawn for `number`
abbrev pub draw : Addr → ℕ × ℕ → ℕ → MapPlan
draw addr range number = Draw addr range.0 range.1 (first_candidate range number)

-- `unsaid` are the ports to draw from where the right side has none
abbrev pub outward : ℕ × ℕ → Map → Facts → Option ℕ → MapPlan
outward unsaid map facts (Some number) = draw map.outside.net.addr (drawn_range map.outside.ports unsaid) number
outward unsaid map facts None = fixed facts (outward_change map facts)

abbrev pub plan_by : ℕ × ℕ → Dir → Map → Facts → MapPlan
plan_by unsaid Out map facts = outward unsaid map facts (drawn_for map.algo facts.l4)
plan_by unsaid In map facts = fixed facts (inward_change map facts)

-- none exactly where the packet's protocol, direction or ends aren't the map's
abbrev pub plan : ℕ × ℕ → Map → Facts → Dir → Option MapPlan
plan unsaid map facts dir =
    if fits_map_protocol map.proto facts.proto && fits_segment map facts dir then Some (plan_by unsaid dir map facts) else None

-- the change once a port or an identifier was drawn
abbrev pub drawn_change : Addr → ℕ → Change
drawn_change addr port = source_change addr (Some port) false

-- the number that is tried first is one of those to draw from
abbrev pub TriesWithin : MapPlan → Type 0
TriesWithin (Draw addr min max first) = (min ≤ first) × (first ≤ max)
TriesWithin (Fixed there back) = Unit {0}
