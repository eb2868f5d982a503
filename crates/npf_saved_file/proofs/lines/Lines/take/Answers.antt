use Rattle.std.{proofs.{Common.{◌≡◌, Option, List, [], MatchOption, inl, refl, sym, subst, ◌∙◌}, lemmas.List.Elements.All-push}, specs.List.All}
use Rattle.npf_types.specs.{declared.name.Name.Name, Reading.IsOnly}
use Rattle.npf_saved.specs.{Fields.FitsName, File.IsIfLine}
use Rattle.npf_saved_file.specs.Lines.{IsNoInterface}
use Rattle.npf_saved_file.proofs.lines.Lines.take.Goals as goal

pub returns-in_ok-push-in-Some : goal.returns-in_ok-push-in-Some
returns-in_ok-push-in-Some c =
    let conns = c.deref.result.now in
    let line = c.args.line.now in
    let told = subst (λ (found : Option Name). MatchOption found (IsNoInterface conns line) (λ name. (conns ≡ []) × IsOnly IsIfLine line name)) c.in-Some.is c.in_ok-name.ensures in
    let pushed = c.in_ok-push-in-Some.ensures.items in (
      record {
        names = subst (All FitsName) (sym pushed) (All-push FitsName c.args.self.now.names.items c.in-Some.name c.requires.names told.1.reads.fits);
        conns = c.requires.conns;
        keys = c.requires.keys;
      },
      inl (record { first = sym c.deref.ensures.value ∙ told.0; name = c.in-Some.name; is = told.1; names = pushed; conns = refl }),
    )
