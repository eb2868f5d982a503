-- What a product says of packets: by the meaning of its rule or map.
use Rattle.std.specs.Prelude.{ℕ, Bool, true, not, ◌==◌, ◌&&◌, List, [], ◌∷◌}
use Rattle.std.specs.List.{list_any}
use Rattle.npf_types.specs.declared.direction.Dir.{Dir}
use Rattle.npf_types.specs.declared.facts.Facts.{Facts}
use Rattle.npf_types.specs.declared.interface.IfId.{IfId}
use Rattle.npf_model.specs.declared.map.Map.{Map}
use Rattle.npf_model.specs.Describes.{Tables, describes}
use Rattle.npf_model.specs.MapOf.{map_applies}
use Rattle.npf_model.specs.Place.{is_dir}
use Rattle.npf_precedence.specs.Entry.{ordered_rule}
use Rattle.npf_precedence.specs.PrecedenceLaw.{meets}
use Rattle.npf_products.specs.declared.kind.IpFamily.{IpFamily}
use Rattle.npf_products.specs.declared.kind.IpFamily.TheVariants.{Inet4, Inet6}
use Rattle.npf_products.specs.declared.kind.Carried.{Carried}
use Rattle.npf_products.specs.declared.kind.Carried.TheVariants.{Tcp as OfTcp, Udp as OfUdp, Icmp as OfIcmp, Other as OfOther}
use Rattle.npf_products.specs.declared.product.Product.{Product}
use Rattle.npf_products.specs.declared.product.Subject.{Subject}
use Rattle.npf_products.specs.declared.product.Subject.TheVariants.{Entry, Map as MapIn, Rule as RuleAlone}
use Rattle.npf_products.specs.End.{own_tables}

-- the packet passes in this direction, and the map applies to it
abbrev pub applies_in : Dir → Map → Tables → Facts → IfId → Dir → Bool
applies_in asked map tables facts ifid dir = is_dir asked dir && map_applies tables facts ifid dir map

-- a rule at its place matches and its group applies; a map applies in its direction; a rule by itself describes the packet
abbrev pub subject_holds : Subject → Tables → Facts → IfId → Dir → Bool
subject_holds (Entry entry) tables facts ifid dir = meets tables facts ifid dir (ordered_rule entry)
subject_holds (MapIn map asked) tables facts ifid dir = applies_in asked map.now tables facts ifid dir
subject_holds (RuleAlone rule) tables facts ifid dir = describes rule.now tables facts ifid dir

-- the same with the tables of the product's configuration, of all
abbrev pub product_holds : Product → Tables → Facts → IfId → Dir → Bool
product_holds product all facts ifid dir = subject_holds product.subject (own_tables product.tables all) facts ifid dir

-- the protocols of what is looked into, and over IPv6 those of extension headers, which no packet carries
abbrev pub known_protocols : IpFamily → List ℕ
known_protocols Inet4 = 1 ∷ 6 ∷ 17 ∷ []
known_protocols Inet6 = 0 ∷ 6 ∷ 17 ∷ 43 ∷ 44 ∷ 51 ∷ 58 ∷ 60 ∷ []

abbrev pub is_unknown_protocol : IpFamily → ℕ → Bool
is_unknown_protocol family proto = not (list_any (λ known. known == proto) (known_protocols family))

-- there can be packets that carry this with this first number
abbrev pub is_possible_first : Carried → IpFamily → ℕ → Bool
is_possible_first OfTcp family number = true
is_possible_first OfUdp family number = true
is_possible_first OfIcmp family number = true
is_possible_first OfOther family number = is_unknown_protocol family number
