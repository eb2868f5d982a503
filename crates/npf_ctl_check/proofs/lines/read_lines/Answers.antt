use Rattle.std.proofs.Common.{◌≡◌, ◌+◌, ◌++◌, ◌∷◌, [], ℕ, List, Err, length, take, subst, refl, sym, ap, ◌∙◌, true≢false, rules, tests, arith}
use Rattle.std.proofs.lemmas.{List.{length_push, take_all}, Iterator.{Consumers.{YieldsList-turn, YieldsList-end}, Splits.YieldsList-from_slice_split}}
use denote.Param.Always.{mut_total}
use Rattle.npf_table.specs.TableFile.{is_line_feed, lines}
use Rattle.npf_ctl_script.specs.Words.{IsSkipped}
use Rattle.npf_ctl_messages.specs.declared.fault.CommandFault.TheVariants.{NoMemory}
use Rattle.npf_ctl_check.specs.Reading.{AreExpected, RefusesAnyLine}
use Rattle.npf_ctl_check.proofs.ReadLemmas.{after_skipped, after_told, first_refused, nothing_expected}
use Rattle.npf_ctl_check.proofs.lines.read_lines.Goals as goal

pub loop-line-init : goal.loop-line-init
loop-line-init c = record {
  can = mut_total _ c.into_iter-line-iterator.result.pred (λ f a. tt);
  finite = search (rules, tests);
  counted = refl;
  read = nothing_expected c.args.ifaces.now.list c.args.model.now c.new-read.result.items c.new-read.ensures.items;
}

pub loop-line-preserved-then-is_skipped : goal.loop-line-preserved-then-is_skipped
loop-line-preserved-then-is_skipped c =
    let text = c.args.file.text.now in
    let t = YieldsList-turn (YieldsList-from_slice_split _ is_line_feed text (cc) (cc) (cc)
    (λ x b q k. search (rules, tests))) c.loop-line.yielded _ c.loop-line.yielded_by _ _ c.in-Some.line c.in-Some.is c.next.ensures.steps in
    let more = length_push c.loop-line.yielded c.in-Some.line in
    record {
      can = search rules;
      finite = search rules;
      counted = ap (λ k. k + 1) c.loop-line.invariant.counted ∙ sym more;
      read = after_skipped c.args.ifaces.now.list c.args.model.now (lines text) (length c.loop-line.yielded) _ c.in-Some.line.now t.0 t.1 more c.loop-line.read.items
          c.loop-line.invariant.read (c.is_skipped.ensures.0 c.if-is_skipped.true);
    }

pub returns-in_err-expectation-clause-err : goal.returns-in_err-expectation-clause-err
returns-in_err-expectation-clause-err c =
    let text = c.args.file.text.now in
    let t = YieldsList-turn (YieldsList-from_slice_split _ is_line_feed text (cc) (cc) (cc)
    (λ x b q k. search (rules, tests))) c.loop-line.yielded _ c.loop-line.yielded_by _ _ c.in-Some.line c.in-Some.is c.next.ensures.steps in
    let line = c.in-Some.line.now in
    let kept : ¬ IsSkipped line = λ skipped. true≢false (sym (c.is_skipped.ensures.1 skipped) ∙ c.if-is_skipped.false) in
    let fault = c.in_err-expectation.field-0.0 in
    let same : c.from_residual.result ≡ Err fault = search rules in
    rw same (RefusesAnyLine.line (first_refused c.args.file.name.now c.args.ifaces.now.list c.args.model.now text (length c.loop-line.yielded) _ line c.loop-line.read.items fault
    t.0 t.1 c.loop-line.invariant.read kept (ap (λ k. k + 1) c.loop-line.invariant.counted) c.in_err-expectation.ensures.err))

pub returns-in_err-push-clause-err : goal.returns-in_err-push-clause-err
returns-in_err-push-clause-err c =
    let same : c.from_residual-in_err-push.result ≡ Err NoMemory = search rules in
    rw same RefusesAnyLine.memory

pub loop-line-preserved : goal.loop-line-preserved
loop-line-preserved c =
    let text = c.args.file.text.now in
    let t = YieldsList-turn (YieldsList-from_slice_split _ is_line_feed text (cc) (cc) (cc)
    (λ x b q k. search (rules, tests))) c.loop-line.yielded _ c.loop-line.yielded_by _ _ c.in-Some.line c.in-Some.is c.next.ensures.steps in
    let more = length_push c.loop-line.yielded c.in-Some.line in
    let line = c.in-Some.line.now in
    let kept : ¬ IsSkipped line = λ skipped. true≢false (sym (c.is_skipped.ensures.1 skipped) ∙ c.if-is_skipped.false) in
    let counted = ap (λ k. k + 1) c.loop-line.invariant.counted in
    record {
      can = search rules;
      finite = search rules;
      counted = counted ∙ sym more;
      read = subst (AreExpected c.args.ifaces.now.list c.args.model.now (take (length (c.loop-line.yielded ++ c.in-Some.line ∷ [])) (lines text))) (sym c.in_ok-push.ensures.items)
          (after_told c.args.ifaces.now.list c.args.model.now (lines text) (length c.loop-line.yielded) _ line t.0 t.1 more c.loop-line.read.items (c.loop-line.number + 1)
          c.in_ok-expectation.expectation counted c.loop-line.invariant.read kept c.in_ok-expectation.ensures.ok);
    }

pub returns-clause-ok : goal.returns-clause-ok
returns-clause-ok c =
    let text = c.args.file.text.now in
    let e = YieldsList-end (YieldsList-from_slice_split _ is_line_feed text (cc) (cc) (cc)
    (λ x b q k. search (rules, tests))) c.loop-line.yielded _ c.loop-line.yielded_by _ _ c.in-None.is c.next.ensures.steps in
    let all = lines text in
    subst (λ (ls : List (List ℕ)). AreExpected c.args.ifaces.now.list c.args.model.now ls c.loop-line.read.items)
    (take_all (length c.loop-line.yielded) all (omega (arith, e.1))) c.loop-line.invariant.read
