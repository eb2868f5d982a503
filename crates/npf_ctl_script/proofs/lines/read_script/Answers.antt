use Rattle.std.proofs.Common.{◌+◌, ◌++◌, ◌∷◌, [], ℕ, List, length, take, subst, refl, sym, ap, ◌∙◌, true≢false, rules, tests, arith}
use Rattle.std.proofs.lemmas.{List.{length_push, take_all}, Iterator.{Consumers.{YieldsList-turn, YieldsList-end}, Splits.YieldsList-from_slice_split}}
use denote.Param.Always.{mut_total}
use Rattle.npf_table.specs.TableFile.{is_line_feed, lines}
use Rattle.npf_ctl_script.specs.{declared.{script.ScriptLine.ScriptLine, section.Section.Section}, Commands.command_of}
use Rattle.npf_ctl_script.specs.{Lines.{AnswersLine, AreRead, IsNext, section_of}, Sections.after_command, Words.IsSkipped}
use Rattle.npf_ctl_script.proofs.LineLemmas.{after_skipped, after_told, first_bad, no_phase_yet, nothing_read, section_told}
use Rattle.npf_ctl_script.proofs.lines.read_script.Goals as goal

pub loop-line-init : goal.loop-line-init
loop-line-init c = record {
  can = mut_total _ c.into_iter-line-iterator.result.pred (λ f a. tt);
  finite = search (rules, tests);
  counted = refl;
  read = nothing_read c.new-lines.result.items c.new-lines.ensures.items;
  stands = no_phase_yet c.new-lines.result.items c.new-lines.ensures.items;
}

pub loop-line-preserved-then-is_skipped : goal.loop-line-preserved-then-is_skipped
loop-line-preserved-then-is_skipped c =
    let t = YieldsList-turn (YieldsList-from_slice_split _ is_line_feed c.args.text.now (cc) (cc) (cc)
    (λ x b q k. search (rules, tests))) c.loop-line.yielded _ c.loop-line.yielded_by _ _ c.in-Some.line c.in-Some.is c.next.ensures.steps in
    let more = length_push c.loop-line.yielded c.in-Some.line in
    record {
      can = search rules;
      finite = search rules;
      counted = ap (λ k. k + 1) c.loop-line.invariant.counted ∙ sym more;
      read = after_skipped (lines c.args.text.now) (length c.loop-line.yielded) _ c.in-Some.line.now t.0 t.1 more c.loop-line.lines.items c.loop-line.invariant.read
          (c.is_skipped.ensures.0 c.if-is_skipped.true);
      stands = c.loop-line.invariant.stands;
    }

pub returns-in_default-clause-err : goal.returns-in_default-clause-err
returns-in_default-clause-err c =
    let t = YieldsList-turn (YieldsList-from_slice_split _ is_line_feed c.args.text.now (cc) (cc) (cc)
    (λ x b q k. search (rules, tests))) c.loop-line.yielded _ c.loop-line.yielded_by _ _ c.in-Some.line c.in-Some.is c.next.ensures.steps in
    let line = c.in-Some.line.now in
    let kept : ¬ IsSkipped line = λ skipped. true≢false (sym (c.is_skipped.ensures.1 skipped) ∙ c.if-is_skipped.false) in
    let none = subst (AnswersLine c.loop-line.section line) c.in_default.is c.in_ok-said.ensures in
    first_bad c.args.text.now (length c.loop-line.yielded) _ line c.loop-line.lines.items t.0 t.1 c.loop-line.invariant.read kept
    (subst (λ (section : Section). (said : ScriptLine) → ¬ IsNext section line said) c.loop-line.invariant.stands none) (ap (λ k. k + 1) c.loop-line.invariant.counted)

pub loop-line-preserved : goal.loop-line-preserved
loop-line-preserved c =
    let t = YieldsList-turn (YieldsList-from_slice_split _ is_line_feed c.args.text.now (cc) (cc) (cc)
    (λ x b q k. search (rules, tests))) c.loop-line.yielded _ c.loop-line.yielded_by _ _ c.in-Some.line c.in-Some.is c.next.ensures.steps in
    let more = length_push c.loop-line.yielded c.in-Some.line in
    let line = c.in-Some.line.now in
    let read = c.loop-line.lines.items in
    let said = c.in-Some-2.said in
    let pushed = c.in_ok-push.ensures.items in
    let kept : ¬ IsSkipped line = λ skipped. true≢false (sym (c.is_skipped.ensures.1 skipped) ∙ c.if-is_skipped.false) in
    let here : IsNext c.loop-line.section line said = subst (AnswersLine c.loop-line.section line) c.in-Some-2.is c.in_ok-said.ensures in
    let next = subst (λ (section : Section). IsNext section line said) c.loop-line.invariant.stands here in
    let counted = ap (λ k. k + 1) c.loop-line.invariant.counted in
    record {
      can = search rules;
      finite = search rules;
      counted = counted ∙ sym more;
      read = subst (AreRead (take (length (c.loop-line.yielded ++ c.in-Some.line ∷ [])) (lines c.args.text.now))) (sym pushed)
          (after_told (lines c.args.text.now) (length c.loop-line.yielded) _ line t.0 t.1 more read (c.loop-line.number + 1) said counted c.loop-line.invariant.read kept next);
      stands = c.after-section.ensures ∙ ap (λ section. after_command section (command_of said)) c.loop-line.invariant.stands
          ∙ section_told read line (c.loop-line.number + 1) said next ∙ ap section_of (sym pushed);
    }

pub returns-clause-ok : goal.returns-clause-ok
returns-clause-ok c =
    let e = YieldsList-end (YieldsList-from_slice_split _ is_line_feed c.args.text.now (cc) (cc) (cc)
    (λ x b q k. search (rules, tests))) c.loop-line.yielded _ c.loop-line.yielded_by _ _ c.in-None.is c.next.ensures.steps in
    let all = lines c.args.text.now in
    subst (AreRead all) (sym c.of_vec.ensures)
    (subst (λ (ls : List (List ℕ)). AreRead ls c.loop-line.lines.items) (take_all (length c.loop-line.yielded) all (omega (arith, e.1))) c.loop-line.invariant.read)
