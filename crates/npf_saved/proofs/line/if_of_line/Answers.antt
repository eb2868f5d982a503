use Rattle.std.proofs.Common.{◌≡◌, codes, refl, sym, ap, ◌∙◌, rules}
use Rattle.npf_types.specs.{Name.name_bytes, Named.named, NameText.is_name}
use Rattle.npf_saved.proofs.{CutLemmas.rest_behind, NameLemmas.named_of_bytes}
use Rattle.npf_saved.proofs.line.if_of_line.Goals as goal

pub returns-in_default : goal.returns-in_default
returns-in_default c = λ name is.
    let bytes = c.cut.ensures.behind ∙ rest_behind 32 c.args.line.now (codes "if") (name_bytes name) is.spelled refl in
    let some = c.in_default.ensures.named.1 (ap is_name bytes ∙ name.named) in
    cc some

pub returns-then-eq : goal.returns-then-eq
returns-then-eq c = record {
  reads = record { spelled = search rules; fits = search rules };
  only = λ other is.
      let bytes = c.cut.ensures.behind ∙ rest_behind 32 c.args.line.now (codes "if") (name_bytes other) is.spelled refl in
      named_of_bytes other is.fits ∙ ap named (sym bytes) ∙ sym c.in-Some.ensures.value;
}
