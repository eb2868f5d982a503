use Rattle.std.{proofs.Common.{◌≡◌, ◌++◌, ◌∷◌, [], ℕ, List, slice_index, codes}, specs.Int.w64}
use Rattle.npf_saved.{specs.Spelling.hex_text, proofs.AppendLemmas.before}
use Rattle.npf_saved.proofs.spelling.write_key.Goals as goal

pub returns : goal.returns
returns c =
    let rest_8 = hex_text w64 (slice_index c.args.key.now.0 4) in
    let rest_7 : List ℕ = (46 ∷ []) ++ rest_8 in
    let rest_6 : List ℕ = hex_text w64 (slice_index c.args.key.now.0 3) ++ rest_7 in
    let rest_5 : List ℕ = (46 ∷ []) ++ rest_6 in
    let rest_4 : List ℕ = hex_text w64 (slice_index c.args.key.now.0 2) ++ rest_5 in
    let rest_3 : List ℕ = (46 ∷ []) ++ rest_4 in
    let rest_2 : List ℕ = hex_text w64 (slice_index c.args.key.now.0 1) ++ rest_3 in
    let rest_1 : List ℕ = (46 ∷ []) ++ rest_2 in
    let step_8 = c.in_ok-write_word-5.ensures in
    let step_7 = before c.write_word-4.new.into.items ((46 ∷ [])) c.push-4.new.self.items rest_8 c.write_word-5.new.into.items c.in_ok-push-4.ensures.items step_8 in
    let step_6 =
    before c.push-3.new.self.items (hex_text w64 (slice_index c.args.key.now.0 3)) c.write_word-4.new.into.items rest_7 c.write_word-5.new.into.items c.in_ok-write_word-4.ensures step_7 in
    let step_5 = before c.write_word-3.new.into.items ((46 ∷ [])) c.push-3.new.self.items rest_6 c.write_word-5.new.into.items c.in_ok-push-3.ensures.items step_6 in
    let step_4 =
    before c.push-2.new.self.items (hex_text w64 (slice_index c.args.key.now.0 2)) c.write_word-3.new.into.items rest_5 c.write_word-5.new.into.items c.in_ok-write_word-3.ensures step_5 in
    let step_3 = before c.write_word-2.new.into.items ((46 ∷ [])) c.push-2.new.self.items rest_4 c.write_word-5.new.into.items c.in_ok-push-2.ensures.items step_4 in
    let step_2 = before c.push.new.self.items (hex_text w64 (slice_index c.args.key.now.0 1)) c.write_word-2.new.into.items rest_3 c.write_word-5.new.into.items c.in_ok-write_word-2.ensures step_3 in
    let step_1 = before c.write_word.new.into.items ((46 ∷ [])) c.push.new.self.items rest_2 c.write_word-5.new.into.items c.in_ok-push.ensures.items step_2 in
    let step_0 = before c.args.into.now.items (hex_text w64 (slice_index c.args.key.now.0 0)) c.write_word.new.into.items rest_1 c.write_word-5.new.into.items c.in_ok-write_word.ensures step_1 in
    step_0
