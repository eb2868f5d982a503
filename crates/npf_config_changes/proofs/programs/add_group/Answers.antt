use Rattle.std.proofs.Common.{◌≡◌, ◌<◌, ◌+◌, ◌++◌, ℕ, Some, List, drop, flat_map, get_or, length, slice_get, take, refl, sym, ap, subst, ◌∙◌, arith}
use Rattle.std.{specs.List.AllZip, proofs.lemmas.{List.{append_assoc, take-append-drop}, Option.slice_get_read}}
use Rattle.npf_model.specs.{declared.group.Item.Item, Verdict.{PlacedRule, rules_at}}
use Rattle.npf_ruleset.specs.{declared.flat.FlatRule.FlatRule, Flat.programs_of}
use Rattle.npf_config_changes.specs.{Kept.{Keeps, Serves, ruleset_change}, Rulesets.item_with_ruleset}
use Rattle.npf_config_changes.proofs.KeptLemmas.{keeps_here, keeps_next, rules_left, serve_behind, serve_front, serve_within}
use Rattle.npf_config_changes.proofs.programs.add_group.Goals as goal

read : {X : Type 0} (xs all : List X) (n : ℕ) (x : X) → n < length xs → x ≡ get_or xs n x → xs ≡ all → slice_get all n ≡ Some x
read xs all n x lt is are = subst (λ ys. slice_get ys n ≡ Some x) are (slice_get_read xs (length xs) n x refl lt is)

-- what is left begins with the rules of the item
parted : (items : List Item) (i : ℕ) (item : Item) (more : List PlacedRule) (left : List FlatRule) → slice_get items i ≡ Some item
    → AllZip Serves (flat_map rules_at (drop i items) ++ more) (programs_of left) → AllZip Serves (rules_at item ++ (flat_map rules_at (drop (i + 1) items) ++ more)) (programs_of left)
parted items i item more left at serve =
    subst (λ all. AllZip Serves all (programs_of left))
    (ap (λ front. front ++ more) (rules_left rules_at items i item at) ∙ append_assoc (rules_at item) (flat_map rules_at (drop (i + 1) items)) more) serve

pub split_at-requires : goal.split_at-requires
split_at-requires c =
    let items = c.args.group.now.items in
    let i = c.loop-item.item-index in
    let item = c.item-item.result in
    let left = c.loop-item.left.now in
    let at = read c.as_slice-item-items.result.now items i item c.loop-item-test.true c.item-item.is c.as_slice-item-items.ensures in
    let begins = c.requires.begins in
    let within = serve_within (rules_at item) (flat_map rules_at (drop (i + 1) items) ++ begins.0) left (parted items i item begins.0 left at (c.loop-item.invariant.left begins.0 begins.1)) in
    omega (arith, within, c.count_of.ensures)

pub add_item-requires-clause-serve : goal.add_item-requires-clause-serve
add_item-requires-clause-serve c =
    let items = c.args.group.now.items in
    let i = c.loop-item.item-index in
    let item = c.item-item.result in
    let left = c.loop-item.left.now in
    let at = read c.as_slice-item-items.result.now items i item c.loop-item-test.true c.item-item.is c.as_slice-item-items.ensures in
    let begins = c.requires.begins in
    let rest = flat_map rules_at (drop (i + 1) items) ++ begins.0 in
    subst (λ (here : List FlatRule). AllZip Serves (rules_at item) (programs_of here)) (sym (c.split_at.ensures.front ∙ ap (λ k. take k left) c.count_of.ensures))
    (serve_front (rules_at item) rest left (parted items i item begins.0 left at (c.loop-item.invariant.left begins.0 begins.1)))

pub loop-item-preserved : goal.loop-item-preserved
loop-item-preserved c =
    let items = c.args.group.now.items in
    let i = c.loop-item.item-index in
    let item = c.item-item.result in
    let left = c.loop-item.left.now in
    let here = c.split_at.result.0.now in
    let behind = c.split_at.result.1.now in
    let change = c.args.change in
    let changed = item_with_ruleset c.args.name.now (ruleset_change change) in
    let at = read c.as_slice-item-items.result.now items i item c.loop-item-test.true c.item-item.is c.as_slice-item-items.ensures in
    let count = c.count_of.ensures in
    let front : here ≡ take (length (rules_at item)) left = c.split_at.ensures.front ∙ ap (λ k. take k left) count in
    let back : behind ≡ drop (length (rules_at item)) left = c.split_at.ensures.back ∙ ap (λ k. drop k left) count in
    let whole : here ++ behind ≡ left = ap (λ (one : List FlatRule). one ++ behind) front
    ∙ ap (λ (one : List FlatRule). take (length (rules_at item)) left ++ one) back ∙ take-append-drop (length (rules_at item)) left in
    record {
      keeps = keeps_next rules_at changed items i item at change c.args.flats.now c.args.programs.now.items
          c.loop-item.programs.items c.add_item.new.programs.items left behind c.loop-item.invariant.keeps
          (subst (λ (all : List FlatRule). Keeps change (rules_at (changed item)) all behind c.loop-item.programs.items c.add_item.new.programs.items) whole
          (keeps_here change (rules_at (changed item)) here behind c.loop-item.programs.items c.add_item.new.programs.items c.in_ok-add_item.ensures));
      left = λ more serve.
          subst (λ (all : List FlatRule). AllZip Serves (flat_map rules_at (drop (i + 1) items) ++ more) (programs_of all)) (sym back)
          (serve_behind (rules_at item) (flat_map rules_at (drop (i + 1) items) ++ more) left (parted items i item more left at (c.loop-item.invariant.left more serve)));
    }
