use Rattle.std.proofs.Common.{◌≤◌, ◌+◌, List, ℕ, length, take, ◌++◌, ◌∷◌, [], subst, refl, sym, ap, ◌∙◌, rules, tests, arith}
use Rattle.std.proofs.lemmas.{List.{length_push, take_all, map-append}, Iterator.Consumers.{YieldsList-turn, YieldsList-end}}
use Rattle.std.proofs.lemmas.Iterator.Splits.{YieldsList-from_slice_split}
use Rattle.npf_model.specs.declared.iface.Iface.{Iface}
use Rattle.npf_expand_interfaces.specs.IfaceFile.{ends_line, iface_names, line_words, file_lines, AreInterfaces, IsIfaceLine, RefusesIfaces}
use Rattle.npf_expand_interfaces.proofs.IfaceFileLemmas.{after_blank, after_interface, bytes_more, first_bad, has_name, known_again, name_more, was_known, was_new, within_text}
use Rattle.npf_expand_interfaces.proofs.iface_file.read_ifaces.Goals as goal

pub overflow_add-at-in-loop-line : goal.overflow_add-at-in-loop-line
overflow_add-at-in-loop-line c =
    let t = YieldsList-turn (YieldsList-from_slice_split _ ends_line c.args.text.now (cc) (cc) (cc)
    (λ x b q k. search (rules, tests))) c.loop-line.yielded _ c.loop-line.yielded_by _ _ c.in-Some.line c.in-Some.is c.next.ensures.steps in
    let all = file_lines c.args.text.now in
    let n = length c.loop-line.yielded in
    let line = c.in-Some.line.now in
    let room = within_text c.args.text.now n line t.0 t.1 in
    let most : length c.args.text.now ≤ 4194304 = c.requires in
    omega (arith, room, most, c.loop-line.invariant.passed)

pub returns-then-not-branch-clause-err : goal.returns-then-not-branch-clause-err
returns-then-not-branch-clause-err c =
    let t = YieldsList-turn (YieldsList-from_slice_split _ ends_line c.args.text.now (cc) (cc) (cc)
    (λ x b q k. search (rules, tests))) c.loop-line.yielded _ c.loop-line.yielded_by _ _ c.in-Some.line c.in-Some.is c.next.ensures.steps in
    let all = file_lines c.args.text.now in
    let n = length c.loop-line.yielded in
    let line = c.in-Some.line.now in
    let iface = c.in-Interface.iface in
    let says = subst (IsIfaceLine (line_words line)) c.in-Interface.is c.in_ok-read_line.ensures in
    let known = sym (c.loop-line.invariant.known iface.name) ∙ was_known _ _ c.in_ok-insert-in-Interface.ensures.added c.if-not-branch.true in
    subst (RefusesIfaces c.args.text.now) (sym c.bad_line.ensures)
    (first_bad c.args.text.now n _ c.loop-line.at line c.loop-line.ifaces.items _ t.0 t.1 c.loop-line.invariant.good
    (known_again (line_words line) iface c.loop-line.ifaces.items says known) (ap (λ k. k + 1) c.loop-line.invariant.counted) c.loop-line.invariant.passed refl)

pub returns-in-Bad-clause-err : goal.returns-in-Bad-clause-err
returns-in-Bad-clause-err c =
    let t = YieldsList-turn (YieldsList-from_slice_split _ ends_line c.args.text.now (cc) (cc) (cc)
    (λ x b q k. search (rules, tests))) c.loop-line.yielded _ c.loop-line.yielded_by _ _ c.in-Some.line c.in-Some.is c.next.ensures.steps in
    let all = file_lines c.args.text.now in
    let n = length c.loop-line.yielded in
    let line = c.in-Some.line.now in
    let bad = subst (IsIfaceLine (line_words line)) c.in-Bad.is c.in_ok-read_line.ensures in
    subst (RefusesIfaces c.args.text.now) (sym c.bad_line-in-Bad.ensures)
    (first_bad c.args.text.now n _ c.loop-line.at line c.loop-line.ifaces.items _ t.0 t.1 c.loop-line.invariant.good
    (bad.0, λ iface is. absurd (bad.1 iface is)) (ap (λ k. k + 1) c.loop-line.invariant.counted) c.loop-line.invariant.passed refl)

pub loop-line-preserved-in-Blank : goal.loop-line-preserved-in-Blank
loop-line-preserved-in-Blank c =
    let t = YieldsList-turn (YieldsList-from_slice_split _ ends_line c.args.text.now (cc) (cc) (cc)
    (λ x b q k. search (rules, tests))) c.loop-line.yielded _ c.loop-line.yielded_by _ _ c.in-Some.line c.in-Some.is c.next.ensures.steps in
    let all = file_lines c.args.text.now in
    let n = length c.loop-line.yielded in
    let line = c.in-Some.line.now in
    let m = length (c.loop-line.yielded ++ c.in-Some.line ∷ []) in
    let more = length_push c.loop-line.yielded c.in-Some.line in
    let blank = subst (IsIfaceLine (line_words line)) c.in-Blank.is c.in_ok-read_line.ensures in
    record {
      can = search rules;
      finite = search rules;
      counted = ap (λ k. k + 1) c.loop-line.invariant.counted ∙ sym more;
      passed = bytes_more all n m c.loop-line.at line t.0 t.1 more c.loop-line.invariant.passed;
      good = after_blank all n m line c.loop-line.ifaces.items t.0 t.1 more c.loop-line.invariant.good blank;
      known = c.loop-line.invariant.known;
    }

pub loop-line-preserved : goal.loop-line-preserved
loop-line-preserved c =
    let t = YieldsList-turn (YieldsList-from_slice_split _ ends_line c.args.text.now (cc) (cc) (cc)
    (λ x b q k. search (rules, tests))) c.loop-line.yielded _ c.loop-line.yielded_by _ _ c.in-Some.line c.in-Some.is c.next.ensures.steps in
    let all = file_lines c.args.text.now in
    let n = length c.loop-line.yielded in
    let line = c.in-Some.line.now in
    let m = length (c.loop-line.yielded ++ c.in-Some.line ∷ []) in
    let more = length_push c.loop-line.yielded c.in-Some.line in
    let iface = c.in-Interface.iface in
    let was = c.loop-line.ifaces.items in
    let pushed = c.in_ok-push-in-Interface.ensures.items in
    let says = subst (IsIfaceLine (line_words line)) c.in-Interface.is c.in_ok-read_line.ensures in
    let absent = sym (c.loop-line.invariant.known iface.name) ∙ was_new _ _ c.in_ok-insert-in-Interface.ensures.added c.if-not-branch.false in
    record {
      can = search rules;
      finite = search rules;
      counted = ap (λ k. k + 1) c.loop-line.invariant.counted ∙ sym more;
      passed = bytes_more all n m c.loop-line.at line t.0 t.1 more c.loop-line.invariant.passed;
      good = subst (AreInterfaces (take m all)) (sym pushed) (after_interface all n m line was iface t.0 t.1 more c.loop-line.invariant.good says absent);
      known = λ name. name_more c.loop-line.names.keys c.insert.new.self.keys (iface_names was) iface.name c.loop-line.invariant.known c.in_ok-insert-in-Interface.ensures.updates.0 name
          ∙ ap (λ names. has_name names name) (sym (ap iface_names pushed ∙ map-append (λ (i : Iface). i.name) was (iface ∷ [])));
    }

pub returns-clause-ok : goal.returns-clause-ok
returns-clause-ok c =
    let e = YieldsList-end (YieldsList-from_slice_split _ ends_line c.args.text.now (cc) (cc) (cc)
    (λ x b q k. search (rules, tests))) c.loop-line.yielded _ c.loop-line.yielded_by _ _ c.in-None.is c.next.ensures.steps in
    subst (AreInterfaces (file_lines c.args.text.now)) (sym c.of_vec.ensures)
    (subst (λ (ls : List (List ℕ)). AreInterfaces ls c.loop-line.ifaces.items) (take_all (length c.loop-line.yielded) (file_lines c.args.text.now) (omega (arith, e.1))) c.loop-line.invariant.good)
