-- The products of a question: the class's rule, and behind it the rules of the order.
use Rattle.std.specs.Borrow.{Bor}
use Rattle.std.specs.Prelude.{◌≡◌, List, ◌∷◌, length, map}
use Rattle.npf_model.specs.Describes.{Tables}
use Rattle.npf_model.specs.declared.rule.Rule.{Rule}
use Rattle.npf_precedence.specs.declared.entry.RuleEntry.{RuleEntry}
use Rattle.npf_products.specs.declared.product.Product.{Product}
use Rattle.npf_products.specs.declared.product.Subject.TheVariants.{Entry, Rule as RuleAlone}
use Rattle.npf_products.specs.declared.tables.TableSpan.{TableSpan}

abbrev pub entry_product : TableSpan → RuleEntry → Product
entry_product span entry = record { subject = Entry entry; tables = span }

abbrev pub class_product : TableSpan → Bor Rule → Product
class_product span class = record { subject = RuleAlone class; tables = span }

-- the products are the class's and the entries', with all of the tables
pub record AreAskedProducts (tables : Tables) (class : Bor Rule) (order : List RuleEntry) (products : List Product) : Type 0 where
  pub span : TableSpan
  pub first : span.first ≡ 0
  pub count : span.count ≡ length tables
  pub are : products ≡ class_product span class ∷ map (entry_product span) order
