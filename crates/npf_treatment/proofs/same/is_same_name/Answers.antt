use Rattle.std.proofs.Common.{◌==◌, sym, ◌∙◌}
use Rattle.std.specs.Str.{bytes_eq}
use Rattle.std.proofs.lemmas.Bool.{and_parts, eqb-true}
use Rattle.std.proofs.lemmas.Slice.Eq.{bytes_eq-Decides}
use Rattle.npf_types.proofs.NameLemmas.{Name-same}
use Rattle.npf_treatment.proofs.same.is_same_name.Goals as goal

pub returns-clause-same : goal.returns-clause-same
returns-clause-same c = λ is.
    let one = c.args.one.now in
    let other = c.args.other.now in
    let both = and_parts (one.len == other.len) (bytes_eq one.bytes other.bytes) (sym c.eq.ensures ∙ is) in
    Name-same one other (eqb-true one.len other.len both.0) ((bytes_eq-Decides one.bytes other.bytes).0 both.1)
