use Rattle.std.{proofs.Common.◌∙◌, specs.Str.bytes_eq}
use Rattle.npf_check.{specs.Name.holds, proofs.NameLemmas.or_from_cond}
use Rattle.npf_check.proofs.name.Names.add.Goals as goal

pub returns : goal.returns
returns c = λ other.
    c.in_ok-insert.ensures.updates.0 (record { ref_ptr = (0, 0); now = other })
    ∙ or_from_cond (bytes_eq c.args.text.now other) (holds c.args.self.now other)
