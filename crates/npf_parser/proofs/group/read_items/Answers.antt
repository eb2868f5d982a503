use Rattle.std.proofs.Common.{◌≡◌, Err, sym, subst, rules, arith}
use Rattle.npf_phrase.{specs.Grammar.meaning, proofs.ListLemmas.leaves}
use Rattle.npf_parser_values.specs.Answer.{Answers}
use Rattle.npf_parser.{specs.Rule.{item, items, ends_item}, proofs.LineLemmas.{next_item_advances, item_advances}}
use Rattle.npf_parser.proofs.BlockLemmas.{block_skips, block_closes, block_goes, block_ends, block_fails}
use Rattle.npf_parser.proofs.group.read_items.Goals as goal

pub items-preserved-in-Some : goal.items-preserved-in-Some
unfolding items
items-preserved-in-Some c = block_skips ends_item item next_item_advances
    ((meaning items).read c.args.tokens.now) c.items.items.items c.items.rest.now c.items.invariant c.in-Some.next c.if-ends_item.ensures c.in-Some.ensures.begins

pub returns-in-None : goal.returns-in-None
unfolding items
returns-in-None c = rw c.of_vec.ensures
    (block_closes ends_item item next_item_advances ((meaning items).read c.args.tokens.now) c.items.items.items c.items.rest.now c.items.invariant c.if-ends_item.ensures c.in-None.ensures.begins)

pub returns-in_err-item : goal.returns-in_err-item
unfolding items
returns-in_err-item c =
    let same : c.from_residual.result ≡ Err c.in_err-item.field-0.0 = search rules in
    subst (Answers ((meaning items).read c.args.tokens.now)) (sym same) (block_fails ends_item item next_item_advances
    ((meaning items).read c.args.tokens.now) c.items.items.items c.items.rest.now c.items.invariant c.in_err-item.field-0.0 c.if-ends_item.ensures c.in_err-item.ensures)

pub items-smaller : goal.items-smaller
items-smaller c =
    let before = leaves item item_advances c.items.rest.now c.in_ok-item.item c.in_ok-item.behind.now c.in_ok-item.ensures in
    omega (arith, c.in-Some-behind_separator.ensures.left)

pub items-preserved : goal.items-preserved
unfolding items
items-preserved c =
    rw c.in_ok-push.ensures.items (block_goes ends_item item next_item_advances ((meaning items).read c.args.tokens.now) c.items.items.items c.items.rest.now
    c.items.invariant c.in_ok-item.item c.in_ok-item.behind c.in-Some-behind_separator.next c.if-ends_item.ensures c.in_ok-item.ensures c.in-Some-behind_separator.ensures.begins)

pub returns-in-None-behind_separator : goal.returns-in-None-behind_separator
unfolding items
returns-in-None-behind_separator c =
    rw (c.of_vec-in-None-behind_separator.ensures, c.in_ok-push.ensures.items) (block_ends ends_item item next_item_advances
    ((meaning items).read c.args.tokens.now) c.items.items.items c.items.rest.now c.items.invariant c.in_ok-item.item
    c.in_ok-item.behind c.if-ends_item.ensures c.in_ok-item.ensures c.in-None-behind_separator.ensures.begins)
