use Rattle.std.proofs.{Common.{rules, All, List, [], ◌∷◌, sym, subst}, lemmas.List.Elements.All-append}
use Rattle.npf_publish.specs.{declared.{conf_reader.ConfReader.ConfReader, number_range.NumberRange.NumberRange}, ConfReader.IsNewReader}
use Rattle.npf_publish.proofs.publisher.Publisher.new.Goals as goal

pub loop-preserved : goal.loop-preserved
loop-preserved g c =
    let range : NumberRange = record { first = c.args.first; last = c.args.last } in
    let kept = c.loop.invariant in
    let reader = c.in-Ok.reader in
    let new : IsNewReader range reader = subst (λ (r : NumberRange). IsNewReader r reader) kept.range c.in-Ok.ensures.reader in
    let one : All (IsNewReader range) (reader ∷ []) = search rules in
    let all = All-append (IsNewReader range) c.loop.made.items (reader ∷ []) kept.new one in
    let items = sym {A = List ConfReader} c.push_reserved.ensures.items in
    record {
      count = search rules;
      room = search rules;
      new = subst (λ (rs : List ConfReader). All (IsNewReader range) rs) items all;
      number = search rules;
      range = search rules;
    }
