-- Maps with one effect make one plan.
use Rattle.std.proofs.Common.{◌≡◌, ℕ, Option, Some, None, refl, sym, ap, ◌∙◌}
use Rattle.std.specs.Option.{option_map}
use Rattle.npf_types.specs.declared.{address.Addr.{Addr}, direction.Dir.{Dir, TheVariants.{In, Out}}, facts.Facts.{Facts}, facts.L4.{L4}, prefix.Prefix.{Prefix}}
use Rattle.npf_model.specs.declared.map.{Algo.{Algo, TheVariants.{Dynamic, Netmap, Npt66}}, Map.{Map}, Side.{Side}}
use Rattle.npf_nat.specs.{declared.map_plan.MapPlan.{MapPlan}, FirstPort.{drawn_for, drawn_range, source_number}, Netmap.{netmap}, Npt.{npt66_address}}
use Rattle.npf_nat.specs.MapPlan.{destination_change, draw, fixed, is_neutral, outward, plan_by, source_change, translated_address}
use Rattle.npf_treatment.specs.Treatment.{address_effect, map_effect, port_by_algo, port_written}

pub algo_same : (a b : Algo) (f t g u : Prefix) → address_effect a f t ≡ address_effect b g u → a ≡ b
algo_same Dynamic Dynamic f t g u h = refl
algo_same Netmap Netmap f t g u h = refl
algo_same Npt66 Npt66 f t g u h = refl
algo_same Dynamic Netmap f t g u h = absurd cc
algo_same Dynamic Npt66 f t g u h = absurd cc
algo_same Netmap Dynamic f t g u h = absurd cc
algo_same Netmap Npt66 f t g u h = absurd cc
algo_same Npt66 Dynamic f t g u h = absurd cc
algo_same Npt66 Netmap f t g u h = absurd cc

-- the address that is written is one
address_same : (a : Algo) (f t g u : Prefix) (x : Addr) → address_effect a f t ≡ address_effect a g u → translated_address a f t x ≡ translated_address a g u x
address_same Dynamic f t g u x h = cc
address_same Netmap f t g u x h = let same : t ≡ u = cc in ap (λ to. netmap to x) same
address_same Npt66 f t g u x h =
    let from : f ≡ g = cc in
    let to : t ≡ u = cc in
    λ i. npt66_address (from i) (to i) x

port_same : (p q : Option (ℕ × ℕ)) → port_written p ≡ port_written q → option_map (λ (range : ℕ × ℕ). range.0) p ≡ option_map (λ (range : ℕ × ℕ). range.0) q
port_same None None h = refl
port_same (Some p) (Some q) h = cc
port_same None (Some q) h = absurd cc
port_same (Some p) None h = absurd cc

drawn_same : (p q : Option (ℕ × ℕ)) → port_by_algo Dynamic p ≡ port_by_algo Dynamic q → p ≡ q
drawn_same p q h = cc

-- going out, by the number for which another is drawn
abbrev out_by : ℕ × ℕ → Algo → Prefix → Side → Facts → Option ℕ → MapPlan
out_by unsaid a f s facts (Some number) = draw s.net.addr (drawn_range s.ports unsaid) number
out_by unsaid a f s facts None = fixed facts (source_change (translated_address a f s.net facts.src) None (is_neutral a))

out_is : (unsaid : ℕ × ℕ) (map : Map) (facts : Facts) (n : Option ℕ) → outward unsaid map facts n ≡ out_by unsaid map.algo map.inside.net map.outside facts n
out_is unsaid map facts None = refl
out_is unsaid map facts (Some number) = refl

fixed_out : (unsaid : ℕ × ℕ) (a : Algo) (f g : Prefix) (s t : Side) (facts : Facts) → address_effect a f s.net ≡ address_effect a g t.net
    → out_by unsaid a f s facts None ≡ out_by unsaid a g t facts None
fixed_out unsaid a f g s t facts h = ap (λ to. fixed facts (source_change to None (is_neutral a))) (address_same a f s.net g t.net facts.src h)

drawn_out : (unsaid : ℕ × ℕ) (f g : Prefix) (s t : Side) (facts : Facts) (n : Option ℕ) → address_effect Dynamic f s.net ≡ address_effect Dynamic g t.net → s.ports ≡ t.ports
    → out_by unsaid Dynamic f s facts n ≡ out_by unsaid Dynamic g t facts n
drawn_out unsaid f g s t facts None h ports = fixed_out unsaid Dynamic f g s t facts h
drawn_out unsaid f g s t facts (Some number) h ports =
    let to : s.net.addr ≡ t.net.addr = cc in
    λ i. draw (to i) (drawn_range (ports i) unsaid) number

out_alike : (unsaid : ℕ × ℕ) (a : Algo) (f g : Prefix) (s t : Side) (facts : Facts) (l4 : L4) → address_effect a f s.net ≡ address_effect a g t.net
    → port_by_algo a s.ports ≡ port_by_algo a t.ports → out_by unsaid a f s facts (drawn_for a l4) ≡ out_by unsaid a g t facts (drawn_for a l4)
out_alike unsaid Dynamic f g s t facts l4 h ports = drawn_out unsaid f g s t facts (source_number l4) h (drawn_same s.ports t.ports ports)
out_alike unsaid Netmap f g s t facts l4 h ports = fixed_out unsaid Netmap f g s t facts h
out_alike unsaid Npt66 f g s t facts l4 h ports = fixed_out unsaid Npt66 f g s t facts h

-- coming in
abbrev in_by : Algo → Prefix → Side → Facts → MapPlan
in_by a f s facts = fixed facts (destination_change (translated_address a f s.net facts.dst) (option_map (λ (range : ℕ × ℕ). range.0) s.ports) (is_neutral a))

in_alike : (a : Algo) (f g : Prefix) (s t : Side) (facts : Facts) → address_effect a f s.net ≡ address_effect a g t.net → port_written s.ports ≡ port_written t.ports
    → in_by a f s facts ≡ in_by a g t facts
in_alike a f g s t facts h ports =
    let to = address_same a f s.net g t.net facts.dst h in
    let port = port_same s.ports t.ports ports in
    λ i. fixed facts (destination_change (to i) (port i) (is_neutral a))

-- the plan by an algorithm, which is the map's
abbrev plan_of : ℕ × ℕ → Dir → Algo → Map → Facts → MapPlan
plan_of unsaid Out a map facts = out_by unsaid a map.inside.net map.outside facts (drawn_for a facts.l4)
plan_of unsaid In a map facts = in_by a map.outside.net map.inside facts

plan_is : (unsaid : ℕ × ℕ) (dir : Dir) (map : Map) (facts : Facts) → plan_by unsaid dir map facts ≡ plan_of unsaid dir map.algo map facts
plan_is unsaid Out map facts = out_is unsaid map facts (drawn_for map.algo facts.l4)
plan_is unsaid In map facts = refl

pub algos_alike : (one other : Map) (dir : Dir) → map_effect one dir ≡ map_effect other dir → one.algo ≡ other.algo
algos_alike one other Out h = algo_same one.algo other.algo one.inside.net one.outside.net other.inside.net other.outside.net (ap (λ e. e.address) h)
algos_alike one other In h = algo_same one.algo other.algo one.outside.net one.inside.net other.outside.net other.inside.net (ap (λ e. e.address) h)

alike : (unsaid : ℕ × ℕ) (one other : Map) (facts : Facts) (dir : Dir) (a : Algo) → a ≡ one.algo → a ≡ other.algo → map_effect one dir ≡ map_effect other dir
    → plan_of unsaid dir a one facts ≡ plan_of unsaid dir a other facts
alike unsaid one other facts Out a is same h =
    out_alike unsaid a one.inside.net other.inside.net one.outside other.outside facts facts.l4
    (rw (← is, ← same) at (ap (λ e. e.address) h)) (rw (← is, ← same) at (ap (λ e. e.port) h))
alike unsaid one other facts In a is same h =
    in_alike a one.outside.net other.outside.net one.inside other.inside facts
    (rw (← is, ← same) at (ap (λ e. e.address) h)) (ap (λ e. e.port) h)

pub plans_alike : (one other : Map) (unsaid : ℕ × ℕ) (facts : Facts) (dir : Dir) → map_effect one dir ≡ map_effect other dir → plan_by unsaid dir one facts ≡ plan_by unsaid dir other facts
plans_alike one other unsaid facts dir h =
    let algos = algos_alike one other dir h in
    plan_is unsaid dir one facts ∙ alike unsaid one other facts dir one.algo refl algos h ∙ (λ i. plan_of unsaid dir (algos i) other facts) ∙ sym (plan_is unsaid dir other facts)
