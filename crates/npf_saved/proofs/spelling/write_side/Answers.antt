use Rattle.std.{proofs.Common.{◌≡◌, ◌++◌, ◌∷◌, [], ℕ, List, ap, ◌∙◌}, specs.Fmt.decimal}
use Rattle.npf_saved.{specs.Spelling.{known_number, or_dash}, proofs.AppendLemmas.before}
use Rattle.npf_saved.proofs.spelling.write_side.Goals as goal

pub returns : goal.returns
returns c =
    let rest_8 = or_dash decimal c.args.side.now.scale in
    let rest_7 : List ℕ = (44 ∷ []) ++ rest_8 in
    let rest_6 : List ℕ = decimal c.args.side.now.maxwin ++ rest_7 in
    let rest_5 : List ℕ = (44 ∷ []) ++ rest_6 in
    let rest_4 : List ℕ = decimal c.args.side.now.maxend ++ rest_5 in
    let rest_3 : List ℕ = (44 ∷ []) ++ rest_4 in
    let rest_2 : List ℕ = decimal c.args.side.now.end ++ rest_3 in
    let rest_1 : List ℕ = (44 ∷ []) ++ rest_2 in
    let step_8 = c.in_ok-write_optional_byte.ensures in
    let step_7 = before c.write_number-4.new.into.items ((44 ∷ [])) c.push-4.new.self.items rest_8 c.write_optional_byte.new.into.items c.in_ok-push-4.ensures.items step_8 in
    let step_6 = before c.push-3.new.self.items (decimal c.args.side.now.maxwin) c.write_number-4.new.into.items rest_7 c.write_optional_byte.new.into.items
    (c.in_ok-write_number-4.ensures ∙ ap (λ n. c.push-3.new.self.items ++ decimal n) c.from-3.ensures) step_7 in
    let step_5 = before c.write_number-3.new.into.items ((44 ∷ [])) c.push-3.new.self.items rest_6 c.write_optional_byte.new.into.items c.in_ok-push-3.ensures.items step_6 in
    let step_4 = before c.push-2.new.self.items (decimal c.args.side.now.maxend) c.write_number-3.new.into.items rest_5 c.write_optional_byte.new.into.items
    (c.in_ok-write_number-3.ensures ∙ ap (λ n. c.push-2.new.self.items ++ decimal n) c.from-2.ensures) step_5 in
    let step_3 = before c.write_number-2.new.into.items ((44 ∷ [])) c.push-2.new.self.items rest_4 c.write_optional_byte.new.into.items c.in_ok-push-2.ensures.items step_4 in
    let step_2 = before c.push.new.self.items (decimal c.args.side.now.end) c.write_number-2.new.into.items rest_3 c.write_optional_byte.new.into.items
    (c.in_ok-write_number-2.ensures ∙ ap (λ n. c.push.new.self.items ++ decimal n) c.from.ensures) step_3 in
    let step_1 = before c.write_number.new.into.items ((44 ∷ [])) c.push.new.self.items rest_2 c.write_optional_byte.new.into.items c.in_ok-push.ensures.items step_2 in
    let step_0 = before c.args.into.now.items (decimal (known_number c.args.side.now.known)) c.write_number.new.into.items rest_1 c.write_optional_byte.new.into.items
    (c.in_ok-write_number.ensures ∙ ap (λ n. c.args.into.now.items ++ decimal n) c.known_number.ensures) step_1 in
    step_0
