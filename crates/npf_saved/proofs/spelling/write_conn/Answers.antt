use Rattle.std.{proofs.Common.{◌≡◌, ◌++◌, ◌∷◌, [], ℕ, List, slice_index, codes}, specs.Fmt.decimal}
use Rattle.npf_saved.{specs.Spelling.{action_text, change_text, key_text, kind_text, or_dash, timeouts_text}, proofs.AppendLemmas.before}
use Rattle.npf_saved.proofs.spelling.write_conn.Goals as goal

pub returns : goal.returns
returns c =
    let rest_16 : List ℕ = timeouts_text c.args.saved.now.flow.timeouts in
    let rest_15 : List ℕ = action_text c.args.saved.now.flow.action ++ rest_16 in
    let rest_14 : List ℕ = (32 ∷ []) ++ rest_15 in
    let rest_13 : List ℕ = change_text c.args.saved.now.flow.back ++ rest_14 in
    let rest_12 : List ℕ = (32 ∷ []) ++ rest_13 in
    let rest_11 : List ℕ = change_text c.args.saved.now.flow.there ++ rest_12 in
    let rest_10 : List ℕ = (32 ∷ []) ++ rest_11 in
    let rest_9 : List ℕ = decimal c.args.saved.now.flow.last ++ rest_10 in
    let rest_8 : List ℕ = (32 ∷ []) ++ rest_9 in
    let rest_7 : List ℕ = kind_text c.args.saved.now.flow.kind ++ rest_8 in
    let rest_6 : List ℕ = (32 ∷ []) ++ rest_7 in
    let rest_5 : List ℕ = or_dash key_text c.args.saved.now.backward ++ rest_6 in
    let rest_4 : List ℕ = (32 ∷ []) ++ rest_5 in
    let rest_3 : List ℕ = or_dash key_text c.args.saved.now.port ++ rest_4 in
    let rest_2 : List ℕ = (32 ∷ []) ++ rest_3 in
    let rest_1 : List ℕ = key_text c.args.saved.now.forward ++ rest_2 in
    let step_16 = c.in_ok-write_timeouts.ensures in
    let step_15 = before c.push-7.new.self.items (action_text c.args.saved.now.flow.action) c.write_action.new.into.items rest_16 c.write_timeouts.new.into.items
    c.in_ok-write_action.ensures step_16 in
    let step_14 = before c.write_change-2.new.into.items ((32 ∷ [])) c.push-7.new.self.items rest_15 c.write_timeouts.new.into.items c.in_ok-push-7.ensures.items step_15 in
    let step_13 =
    before c.push-6.new.self.items (change_text c.args.saved.now.flow.back) c.write_change-2.new.into.items rest_14 c.write_timeouts.new.into.items c.in_ok-write_change-2.ensures step_14 in
    let step_12 = before c.write_change.new.into.items ((32 ∷ [])) c.push-6.new.self.items rest_13 c.write_timeouts.new.into.items c.in_ok-push-6.ensures.items step_13 in
    let step_11 = before c.push-5.new.self.items (change_text c.args.saved.now.flow.there) c.write_change.new.into.items rest_12 c.write_timeouts.new.into.items c.in_ok-write_change.ensures step_12 in
    let step_10 = before c.write_number.new.into.items ((32 ∷ [])) c.push-5.new.self.items rest_11 c.write_timeouts.new.into.items c.in_ok-push-5.ensures.items step_11 in
    let step_9 = before c.push-4.new.self.items (decimal c.args.saved.now.flow.last) c.write_number.new.into.items rest_10 c.write_timeouts.new.into.items c.in_ok-write_number.ensures step_10 in
    let step_8 = before c.write_kind.new.into.items ((32 ∷ [])) c.push-4.new.self.items rest_9 c.write_timeouts.new.into.items c.in_ok-push-4.ensures.items step_9 in
    let step_7 = before c.push-3.new.self.items (kind_text c.args.saved.now.flow.kind) c.write_kind.new.into.items rest_8 c.write_timeouts.new.into.items c.in_ok-write_kind.ensures step_8 in
    let step_6 = before c.write_optional_key-2.new.into.items ((32 ∷ [])) c.push-3.new.self.items rest_7 c.write_timeouts.new.into.items c.in_ok-push-3.ensures.items step_7 in
    let step_5 =
    before c.push-2.new.self.items
    (or_dash key_text c.args.saved.now.backward) c.write_optional_key-2.new.into.items rest_6 c.write_timeouts.new.into.items c.in_ok-write_optional_key-2.ensures step_6 in
    let step_4 = before c.write_optional_key.new.into.items ((32 ∷ [])) c.push-2.new.self.items rest_5 c.write_timeouts.new.into.items c.in_ok-push-2.ensures.items step_5 in
    let step_3 =
    before c.push.new.self.items (or_dash key_text c.args.saved.now.port) c.write_optional_key.new.into.items rest_4 c.write_timeouts.new.into.items c.in_ok-write_optional_key.ensures step_4 in
    let step_2 = before c.write_key.new.into.items ((32 ∷ [])) c.push.new.self.items rest_3 c.write_timeouts.new.into.items c.in_ok-push.ensures.items step_3 in
    let step_1 = before c.extend_from_slice.new.self.items (key_text c.args.saved.now.forward) c.write_key.new.into.items rest_2 c.write_timeouts.new.into.items c.in_ok-write_key.ensures step_2 in
    let step_0 = before c.args.into.now.items (codes "conn ") c.extend_from_slice.new.self.items rest_1 c.write_timeouts.new.into.items c.in_ok-extend_from_slice.ensures.items step_1 in
    step_0
