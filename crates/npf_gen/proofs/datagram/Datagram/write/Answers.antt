use Rattle.std.proofs.{Common.{◌≡◌, ◌∙◌, ap, List, ◌++◌, ℕ, append_assoc}, lemmas.Result.on_ok_weaker}
use Rattle.npf_gen.specs.Datagram.{ipv4_words, ipv4_sum, udp_words, udp_sum, word_bytes}
use Rattle.npf_gen.proofs.datagram.Datagram.write.Goals as goal

pub returns : goal.returns
returns c =
    let d = c.args.self.now in
    let old = c.args.out.now.items in
    let front = c.write_words.new.out.items in
    let now = c.write_words-2.new.out.items in
    let ipv4 = c.ipv4_header.ensures ∙ ap (ipv4_words d) c.ipv4_sum.ensures in
    let udp = c.udp_header.ensures ∙ ap (udp_words d) c.udp_sum.ensures in
    let first = c.in_ok-write_words.ensures ∙ ap (λ (words : List ℕ). old ++ word_bytes words) ipv4 in
    on_ok_weaker c.write_words-2.result
    (λ (second : now ≡ front ++ word_bytes c.udp_header.result).
    second ∙ ap (λ (words : List ℕ). front ++ word_bytes words) udp
    ∙ ap (λ (bytes : List ℕ). bytes ++ word_bytes (udp_words d (udp_sum d))) first
    ∙ append_assoc old (word_bytes (ipv4_words d (ipv4_sum d))) (word_bytes (udp_words d (udp_sum d))))
    c.write_words-2.ensures
