-- A map is read on behind its interface.
use Rattle.std.proofs.Common.{◌≡◌, Ok, Err, List, codes, refl}
use Rattle.npf_lexer.specs.declared.token.Token.{Token}
use Rattle.npf_syntax.specs.declared.value.IfaceTree.{IfaceTree}
use Rattle.npf_phrase.specs.{Phrase.Reading, Grammar.meaning}
use Rattle.npf_parser_values.specs.{Token.quoted, Value.iface}
use Rattle.npf_parser.specs.{Stmt.{MapRest, map_rest, map}, Parse.map_behind}

module _ (ts us vs : List Token) (i : IfaceTree) (word_reads : (meaning (quoted (codes "map"))).read ts ≡ Ok (tt, us)) (iface_reads : (meaning iface).read us ≡ Ok (i, vs)) where
  by_rest : (r : Reading Token MapRest) → (meaning map_rest).read vs ≡ r → (meaning map).read ts ≡ map_behind map_rest ts i vs
  unfolding map
  by_rest (Ok a) reads = rw (word_reads, iface_reads, reads) refl
  by_rest (Err at) reads = rw (word_reads, iface_reads, reads) refl

  pub map_reads : (meaning map).read ts ≡ map_behind map_rest ts i vs
  map_reads = by_rest ((meaning map_rest).read vs) refl
