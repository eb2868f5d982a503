-- Two places have two numbers.
use Rattle.std.proofs.Common.{◌≡◌, ap, arith}
use Rattle.npf_paths.specs.declared.place.Place.TheVariants as Places
use Rattle.npf_cells_words.specs.{declared.layout.Layout.Layout, Codes.{CodesAreApart, CodesFit}}

pub codes_are_apart : (layout : Layout) → CodesAreApart layout
codes_are_apart layout (Places.Root d) (Places.Root e) h k same = ap (λ x. Places.Root x) (omega (arith, same))
codes_are_apart layout (Places.Root d) (Places.Node node e) h k same = absurd (omega (arith, h, same))
codes_are_apart layout (Places.Node node d) (Places.Root e) h k same = absurd (omega (arith, k, same))
codes_are_apart layout (Places.Node node d) (Places.Node other e) h k same =
    let nodes : node ≡ other = (let low = h.1 in let low' = k.1 in omega (arith, low, low', same)) in
    let digits : d ≡ e = omega (arith, nodes, same) in
    λ i. Places.Node (nodes i) (digits i)

pub codes_fit : (layout : Layout) → CodesFit layout
codes_fit layout (Places.Root digit) h few = (omega arith, omega (arith, h))
codes_fit layout (Places.Node node digit) h few = let within = h.0 in let low = h.1 in (omega arith, omega (arith, within, low, few))
