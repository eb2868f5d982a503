use Rattle.std.proofs.Common.{◌≡◌, ◌↔◌, IfSome, IsSome, IsTrue, List, ℕ, subst}
use Rattle.npf_types.specs.{NameText.is_name, Named.named}
use Rattle.npf_ctl_words.proofs.SayLemmas.{named_once}
use Rattle.npf_ctl_words.proofs.command_line.iface_named.Goals as goal

pub returns : goal.returns
returns c =
    let same = c.as_bytes.ensures.value in
    named_once c.args.text.now c.of.result
    (subst (λ (word : List ℕ). IsSome c.of.result ↔ IsTrue (is_name word)) same c.of.ensures.named)
    (subst (λ (word : List ℕ). IfSome c.of.result (λ name. name ≡ named word)) same c.of.ensures.value)
