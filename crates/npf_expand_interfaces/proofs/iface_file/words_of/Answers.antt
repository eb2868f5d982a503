use Rattle.std.proofs.Common.{map, length, take, ◌++◌, ◌∷◌, [], sym, ap, ◌∙◌, rules, tests, arith, append-nil}
use Rattle.std.proofs.lemmas.{List.{length_push, map-append, take_all}, Iterator.Consumers.{YieldsList-turn, YieldsList-end}}
use Rattle.std.{proofs.lemmas.Iterator.Splits.YieldsList-from_slice_split, specs.List.{filter, slice_split}}
use Rattle.npf_expand_interfaces.{specs.IfaceFile.{has_some, is_space}, proofs.IfaceFileLemmas.{kept, kept_more, not_kept}}
use Rattle.npf_expand_interfaces.proofs.iface_file.words_of.Goals as goal

pub loop-piece-preserved-in-Continue-1 : goal.loop-piece-preserved-in-Continue-1
loop-piece-preserved-in-Continue-1 c =
    let t = YieldsList-turn (YieldsList-from_slice_split _ is_space c.args.text.now (cc) (cc) (cc)
    (λ x b q k. search (rules, tests))) c.loop-piece.yielded _ c.loop-piece.yielded_by _ _ c.in-Some.piece c.in-Some.is c.next.ensures.steps in
    let more = kept_more has_some (slice_split is_space c.args.text.now) (length c.loop-piece.yielded) _ c.in-Some.piece.now t.0 t.1 (length_push c.loop-piece.yielded c.in-Some.piece) in
    record {
      can = search rules;
      finite = search rules;
      kept = ap (map (λ word. word.now)) c.in_ok-push.ensures.items ∙ map-append (λ word. word.now) c.loop-piece.words.items (c.in-Some.piece ∷ [])
          ∙ ap (λ front. front ++ c.in-Some.piece.now ∷ []) c.loop-piece.invariant.kept
          ∙ ap (λ last. filter has_some (take (length c.loop-piece.yielded) (slice_split is_space c.args.text.now)) ++
          last) (sym (kept c.in-Some.piece.now c.is_empty.result c.is_empty.ensures c.if-not-is_empty.true)) ∙ sym more;
    }

pub loop-piece-preserved : goal.loop-piece-preserved
loop-piece-preserved c =
    let t = YieldsList-turn (YieldsList-from_slice_split _ is_space c.args.text.now (cc) (cc) (cc)
    (λ x b q k. search (rules, tests))) c.loop-piece.yielded _ c.loop-piece.yielded_by _ _ c.in-Some.piece c.in-Some.is c.next.ensures.steps in
    let front = filter has_some (take (length c.loop-piece.yielded) (slice_split is_space c.args.text.now)) in
    let more = kept_more has_some (slice_split is_space c.args.text.now) (length c.loop-piece.yielded) _ c.in-Some.piece.now t.0 t.1 (length_push c.loop-piece.yielded c.in-Some.piece) in
    record {
      can = search rules;
      finite = search rules;
      kept = c.loop-piece.invariant.kept ∙ sym (append-nil front) ∙ ap (λ last. front ++
          last) (sym (not_kept c.in-Some.piece.now c.is_empty.result c.is_empty.ensures c.if-not-is_empty.false)) ∙ sym more;
    }

pub returns : goal.returns
returns c =
    let e = YieldsList-end (YieldsList-from_slice_split _ is_space c.args.text.now (cc) (cc) (cc)
    (λ x b q k. search (rules, tests))) c.loop-piece.yielded _ c.loop-piece.yielded_by _ _ c.in-None.is c.next.ensures.steps in
    c.loop-piece.invariant.kept ∙ ap (filter has_some) (take_all (length c.loop-piece.yielded) (slice_split is_space c.args.text.now) (omega (arith, e.1)))
