use Rattle.std.{proofs.Common.{◌≡◌, ◌++◌, ◌∷◌, [], ℕ, List, ap, ◌∙◌}, specs.Fmt.decimal}
use Rattle.npf_saved.proofs.AppendLemmas.{before}
use Rattle.npf_saved.proofs.spelling.write_times.Goals as goal

pub returns : goal.returns
returns c =
    let rest_12 : List ℕ = decimal c.args.times.now.other_established in
    let rest_11 : List ℕ = (32 ∷ []) ++ rest_12 in
    let rest_10 : List ℕ = decimal c.args.times.now.other_new ++ rest_11 in
    let rest_9 : List ℕ = (32 ∷ []) ++ rest_10 in
    let rest_8 : List ℕ = decimal c.args.times.now.tcp_close ++ rest_9 in
    let rest_7 : List ℕ = (32 ∷ []) ++ rest_8 in
    let rest_6 : List ℕ = decimal c.args.times.now.tcp_time_wait ++ rest_7 in
    let rest_5 : List ℕ = (32 ∷ []) ++ rest_6 in
    let rest_4 : List ℕ = decimal c.args.times.now.tcp_half_close ++ rest_5 in
    let rest_3 : List ℕ = (32 ∷ []) ++ rest_4 in
    let rest_2 : List ℕ = decimal c.args.times.now.tcp_established ++ rest_3 in
    let rest_1 : List ℕ = (32 ∷ []) ++ rest_2 in
    let step_12 = c.in_ok-write_number-7.ensures ∙ ap (λ n. c.push-6.new.self.items ++ decimal n) c.from-7.ensures in
    let step_11 = before c.write_number-6.new.into.items (32 ∷ []) c.push-6.new.self.items rest_12 c.write_number-7.new.into.items c.in_ok-push-6.ensures.items step_12 in
    let step_10 = before c.push-5.new.self.items (decimal c.args.times.now.other_new) c.write_number-6.new.into.items rest_11 c.write_number-7.new.into.items
    (c.in_ok-write_number-6.ensures ∙ ap (λ n. c.push-5.new.self.items ++ decimal n) c.from-6.ensures) step_11 in
    let step_9 = before c.write_number-5.new.into.items (32 ∷ []) c.push-5.new.self.items rest_10 c.write_number-7.new.into.items c.in_ok-push-5.ensures.items step_10 in
    let step_8 = before c.push-4.new.self.items (decimal c.args.times.now.tcp_close) c.write_number-5.new.into.items rest_9 c.write_number-7.new.into.items
    (c.in_ok-write_number-5.ensures ∙ ap (λ n. c.push-4.new.self.items ++ decimal n) c.from-5.ensures) step_9 in
    let step_7 = before c.write_number-4.new.into.items (32 ∷ []) c.push-4.new.self.items rest_8 c.write_number-7.new.into.items c.in_ok-push-4.ensures.items step_8 in
    let step_6 = before c.push-3.new.self.items (decimal c.args.times.now.tcp_time_wait) c.write_number-4.new.into.items rest_7 c.write_number-7.new.into.items
    (c.in_ok-write_number-4.ensures ∙ ap (λ n. c.push-3.new.self.items ++ decimal n) c.from-4.ensures) step_7 in
    let step_5 = before c.write_number-3.new.into.items (32 ∷ []) c.push-3.new.self.items rest_6 c.write_number-7.new.into.items c.in_ok-push-3.ensures.items step_6 in
    let step_4 = before c.push-2.new.self.items (decimal c.args.times.now.tcp_half_close) c.write_number-3.new.into.items rest_5 c.write_number-7.new.into.items
    (c.in_ok-write_number-3.ensures ∙ ap (λ n. c.push-2.new.self.items ++ decimal n) c.from-3.ensures) step_5 in
    let step_3 = before c.write_number-2.new.into.items (32 ∷ []) c.push-2.new.self.items rest_4 c.write_number-7.new.into.items c.in_ok-push-2.ensures.items step_4 in
    let step_2 = before c.push.new.self.items (decimal c.args.times.now.tcp_established) c.write_number-2.new.into.items rest_3 c.write_number-7.new.into.items
    (c.in_ok-write_number-2.ensures ∙ ap (λ n. c.push.new.self.items ++ decimal n) c.from-2.ensures) step_3 in
    let step_1 = before c.write_number.new.into.items (32 ∷ []) c.push.new.self.items rest_2 c.write_number-7.new.into.items c.in_ok-push.ensures.items step_2 in
    let step_0 = before c.args.into.now.items (decimal c.args.times.now.tcp_new) c.write_number.new.into.items rest_1 c.write_number-7.new.into.items
    (c.in_ok-write_number.ensures ∙ ap (λ n. c.args.into.now.items ++ decimal n) c.from.ensures) step_1 in
    step_0
