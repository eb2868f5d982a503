use Rattle.std.proofs.Common.{◌≡◌, ◌+◌, ℕ, List, Option, sym, subst, take, drop, MatchOption, ◌-◌, length, take_all, length-drop, arith}
use Rattle.npf_types.{specs.declared.prefix.Prefix.Prefix, proofs.ReadingLemmas.reads_alike}
use Rattle.npf_table.specs.PrefixText.{IsPrefixText, IsHostText, IsBlockText}
use Rattle.npf_table.proofs.prefix_text.written_prefix.Goals as goal

-- how the text writes a prefix, by where its first slash stands
by_slash : List ℕ → Prefix → Option ℕ → Type 0
by_slash text p slash = MatchOption slash (IsHostText text p) (λ at. IsBlockText (take at text) (drop (at + 1) text) p)

pub returns-in-None : goal.returns-in-None
unfolding by_slash
returns-in-None c = reads_alike IsHostText IsPrefixText c.args.text.now c.args.text.now
    (λ p h. subst (by_slash c.args.text.now p) c.in-None.ensures h) (λ p h. subst (by_slash c.args.text.now p) (sym c.in-None.ensures) h) c.host.result c.host.ensures

pub returns-in-Some : goal.returns-in-Some
unfolding by_slash
returns-in-Some c =
    let text = c.args.text.now in
    let at = c.in-Some.at in
    let rest : take (length text - (at + 1)) (drop (at + 1) text) ≡ drop (at + 1) text = take_all (length text - (at + 1)) (drop (at + 1) text) (omega (arith, length-drop (at + 1) text)) in
    reads_alike (IsBlockText (take at text)) IsPrefixText (take (length text - (at + 1)) (drop (at + 1) text)) text
    (λ p h. subst (by_slash text p) c.in-Some.ensures (subst (λ (digits : List ℕ). IsBlockText (take at text) digits p) rest h))
    (λ p h. subst (λ (digits : List ℕ). IsBlockText (take at text) digits p) (sym rest) (subst (by_slash text p) (sym c.in-Some.ensures) h))
    c.block.result c.block.ensures
