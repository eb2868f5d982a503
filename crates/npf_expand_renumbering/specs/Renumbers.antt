-- What a model is for more interfaces than it was made for. The number of an interface is its place, so in a list that begins
-- with the shorter one each of its names keeps its number, and names that had none may get one.
use Rattle.std.specs.Prelude.{List, ◌++◌}
use Rattle.npf_syntax.specs.declared.stmt.Tree.{Tree}
use Rattle.npf_model.specs.declared.iface.Iface.{Iface}
use Rattle.npf_model.specs.declared.model.Model.{Model}
use Rattle.npf_model.specs.Numbering.{numbered}
use Rattle.npf_expand.specs.Elaborates.{Elaborates}

-- a model with its interfaces numbered by the longer list is what the tree means with that list
abbrev pub Renumbers : Type 0
Renumbers = (tree : Tree) (ifaces more : List Iface) (model : Model)
    → Elaborates tree ifaces model → Elaborates tree (ifaces ++ more) (numbered (ifaces ++ more) model)
