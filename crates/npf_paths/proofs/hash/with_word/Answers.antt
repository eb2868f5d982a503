use Rattle.std.{proofs.Common.{◌%◌, ◌^◌, fold, sym, ap, ◌∙◌}, specs.Int.{w32, to_be_bytes}}
use Rattle.npf_paths.{specs.Hash.fnv_round, proofs.HashLemmas.by_halves}
use Rattle.npf_paths.proofs.hash.with_word.Goals as goal

pub returns : goal.returns
returns c = c.with_half.ensures ∙ (ap (λ h. fold fnv_round h (to_be_bytes w32 (c.args.word % 2 ^ 32))) c.with_half-upper.ensures ∙ sym (by_halves c.args.before c.args.word))
