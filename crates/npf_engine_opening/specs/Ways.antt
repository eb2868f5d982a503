-- The keys that a connection holds while it is opened, by their ways.
use Rattle.std.specs.Prelude.{Bool, List, [], ◌∷◌}
use Rattle.std.specs.List.{list_any}
use Rattle.npf_types.specs.declared.key.Way.{Way}
use Rattle.npf_types.specs.declared.key.Way.TheVariants.{Forward, Port}
use Rattle.npf_core.specs.NextState.{is_way}
use Rattle.npf_nat.specs.declared.map_plan.MapPlan.{MapPlan}
use Rattle.npf_nat.specs.declared.map_plan.MapPlan.TheVariants.{Fixed, Draw}

-- the way is one of these
abbrev pub is_one_of : List Way → Way → Bool
is_one_of ways way = list_any (λ other. is_way way other) ways

-- before the backward key: the forward one, and that of a port where one is drawn
abbrev pub ways_before : MapPlan → List Way
ways_before (Fixed there back) = Forward ∷ []
ways_before (Draw addr min max first) = Port ∷ Forward ∷ []
