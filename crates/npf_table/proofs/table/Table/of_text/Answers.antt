use Rattle.std.proofs.{Common.{◌+◌, List, ℕ, length, take, ◌++◌, ◌∷◌, [], subst, refl, sym, ap, rules, tests, arith}, lemmas.List.{length_push, take_all}}
use Rattle.std.proofs.lemmas.Iterator.{Consumers.{YieldsList-turn, YieldsList-end}, Splits.YieldsList-from_slice_split}
use Rattle.npf_table.specs.TableFile.{is_line_feed, lines, AreEntries}
use Rattle.npf_table.proofs.TableFileLemmas.{after_blank, after_entry, first_bad, one_line_more, same_entries}
use Rattle.npf_table.proofs.table.Table.of_text.Goals as goal

pub loop-line-preserved-in-Blank : goal.loop-line-preserved-in-Blank
loop-line-preserved-in-Blank c =
    let t = YieldsList-turn (YieldsList-from_slice_split _ is_line_feed c.args.text.now (cc) (cc) (cc)
    (λ x b q k. search (rules, tests))) c.loop-line.yielded _ c.loop-line.yielded_by _ _ c.in-Some.line c.in-Some.is c.next.ensures.steps in
    let n = length c.loop-line.yielded in
    let all = lines c.args.text.now in
    let line = c.in-Some.line.now in
    let more = one_line_more all n (length (c.loop-line.yielded ++ c.in-Some.line ∷ [])) line t.0 t.1 (length_push c.loop-line.yielded c.in-Some.line) in
    record {
      can = search rules;
      finite = search rules;
      counted = grind (arith, length_push);
      entries = subst (λ (ls : List (List ℕ)). AreEntries c.args.kind ls c.loop-line.prefixes.items) (sym more)
          (after_blank c.args.kind (take n all) line c.loop-line.prefixes.items c.loop-line.invariant.entries c.in-Blank.ensures.0 c.in-Blank.ensures.1);
    }

pub loop-line-preserved : goal.loop-line-preserved
loop-line-preserved c =
    let t = YieldsList-turn (YieldsList-from_slice_split _ is_line_feed c.args.text.now (cc) (cc) (cc)
    (λ x b q k. search (rules, tests))) c.loop-line.yielded _ c.loop-line.yielded_by _ _ c.in-Some.line c.in-Some.is c.next.ensures.steps in
    let n = length c.loop-line.yielded in
    let all = lines c.args.text.now in
    let line = c.in-Some.line.now in
    let more = one_line_more all n (length (c.loop-line.yielded ++ c.in-Some.line ∷ [])) line t.0 t.1 (length_push c.loop-line.yielded c.in-Some.line) in
    record {
      can = search rules;
      finite = search rules;
      counted = grind (arith, length_push);
      entries = subst (λ (ls : List (List ℕ)). AreEntries c.args.kind ls c.append.new.prefixes.items) (sym more)
          (after_entry c.args.kind
          (take n all) line c.in-Entry.prefix c.loop-line.prefixes.items c.append.new.prefixes.items c.loop-line.invariant.entries c.in-Entry.ensures c.in_ok-append-in-Entry.ensures);
    }

pub returns-in-Bad-clause-err : goal.returns-in-Bad-clause-err
returns-in-Bad-clause-err c =
    let t = YieldsList-turn (YieldsList-from_slice_split _ is_line_feed c.args.text.now (cc) (cc) (cc)
    (λ x b q k. search (rules, tests))) c.loop-line.yielded _ c.loop-line.yielded_by _ _ c.in-Some.line c.in-Some.is c.next.ensures.steps in
    first_bad c.args.kind (lines c.args.text.now) (length c.loop-line.yielded) c.in-Some.line.now c.loop-line.prefixes.items _
    c.loop-line.invariant.entries t.0 t.1 c.in-Bad.ensures (ap (λ k. k + 1) c.loop-line.invariant.counted)

pub returns-clause-ok : goal.returns-clause-ok
returns-clause-ok c =
    let e = YieldsList-end (YieldsList-from_slice_split _ is_line_feed c.args.text.now (cc) (cc) (cc)
    (λ x b q k. search (rules, tests))) c.loop-line.yielded _ c.loop-line.yielded_by _ _ c.in-None.is c.next.ensures.steps in
    let all = lines c.args.text.now in
    record {
      of_kind = refl;
      entries = same_entries c.args.kind all c.loop-line.prefixes.items c.in_ok-of_prefixes.field-0
          (subst (λ (ls : List (List ℕ)). AreEntries c.args.kind ls c.loop-line.prefixes.items) (take_all (length c.loop-line.yielded) all (omega (arith, e.1))) c.loop-line.invariant.entries)
          (λ p. rw (← c.deref.ensures.value) (c.in_ok-of_prefixes.ensures p));
    }
