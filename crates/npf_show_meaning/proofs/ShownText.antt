-- The canonical text of a model means it again.
use Rattle.std.proofs.Common.{[], ◌∷◌, refl, ap, ◌∙◌}
use Rattle.npf_lexer.specs.declared.token.TokenKind.TheVariants as Kind
use Rattle.npf_phrase.{specs.Grammar.meaning, proofs.GrammarLemmas.{settled, read_takes}}
use Rattle.npf_parser.{specs.Stmt.file, proofs.LineLemmas.file_advances}
use Rattle.npf_expand.specs.Elaborates.{model_of}
use Rattle.npf_show_tokens.proofs.Shown.{shows_tokens_lem}
use Rattle.npf_show_meaning.{specs.Law.ShownTextMeans, proofs.{Lists.onto, FileOf.{parts_of, file_goes, model_rows}, Fine.fine_parts}}
use Rattle.npf_show_meaning.proofs.Again.{clean_again, same_again}

pub shown_text_means_lem : ShownTextMeans
shown_text_means_lem ifaces model shows regular =
    let told = shows_tokens_lem model shows in
    let goes = file_goes ifaces model (parts_of model) (fine_parts ifaces model shows regular) in
    let read = goes.goes told.0 (told.1 ∙ ap (λ pieces. onto pieces (Kind.End ∷ [])) (model_rows ifaces model)) in
    record {
      tokens = told.0;
      tree = read.value;
      again = model_of read.value ifaces;
      lexed = told.2;
      parsed = (read.rest, read_takes (meaning file) (settled file file_advances) told.0 read.value read.rest read.reads);
      meant = record { clean = clean_again ifaces model read.value read.is regular.elements; meant = refl };
      same = same_again ifaces model read.value read.is regular.order;
    }
