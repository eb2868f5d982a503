use Rattle.std.proofs.{Common.{Some, is_some, if◌then◌else◌, sym, ap, ◌∙◌, arith}, lemmas.{List.length_push, Map.Text.hash_map_updates_str}}
use Rattle.std.specs.Str.{bytes_eq}
use Rattle.npf_expand_values.proofs.PlaceLemmas.{none_there, place_added, place_kept}
use Rattle.npf_expand_values.proofs.place.Places.add.Goals as goal

pub returns-then-contains_key-clause-added : goal.returns-then-contains_key-clause-added
returns-then-contains_key-clause-added c = λ names are. record {
  counted = omega (arith, are.counted, length_push names c.args.name.now);
  found = λ text. are.found text ∙ place_kept names c.args.name.now text
      (ap is_some (sym (are.found c.args.name.now)) ∙ sym c.contains_key.ensures ∙ c.if-contains_key.true);
}

pub returns-clause-added : goal.returns-clause-added
returns-clause-added c = λ names are.
    let name = c.args.name.now in
    let was = c.args.self.now in
    record {
      counted = omega (arith, are.counted, length_push names name);
      found = λ text. place_added names name text was.count _
          (none_there _ (ap is_some (sym (are.found name)) ∙ sym c.contains_key.ensures ∙ c.if-contains_key.false)) are.counted
          (hash_map_updates_str name was.first c.insert.new.self (Some was.count) c.in_ok-insert.ensures.updates text
          ∙ ap (λ old. if bytes_eq name text then Some was.count else old) (are.found text));
    }
