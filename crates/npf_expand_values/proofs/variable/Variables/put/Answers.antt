use Rattle.std.{proofs.Common.{◌≡◌, ◌<◌, Some, if◌then◌else◌, length, ap, ◌∙◌, sym, arith}, specs.{HashMap.get_by, Map.lookup, Str.bytes_eq}}
use Rattle.std.proofs.lemmas.Map.Text.{hash_map_updates_str}
use Rattle.npf_expand_values.proofs.{FaultLemmas.either_way, KeptLemmas.{pushed_behind, pushed_within, put_bound, put_within}}
use Rattle.npf_expand_values.proofs.variable.Variables.put.Goals as goal

pub invariant_of-self-2 : goal.invariant_of-self-2
invariant_of-self-2 c =
    let was = c.args.self.now in
    let counted : c.len-place.result ≡ length was.defs.items = omega (arith, c.len-place.ensures, was.defs.ok.0) in
    record {
      behind = pushed_behind was c.args.def c.push.new.self.items c.in_ok-push.ensures.items c.requires;
      within = λ text place there. either_way _ _ (place < length c.push.new.self.items) c.insert.result
          (λ updates. put_within was c.args.def c.push.new.self.items c.in_ok-push.ensures.items c.args.name.now
          (λ text. get_by (λ key. bytes_eq text key.now) c.insert.new.self)
          (λ text. hash_map_updates_str c.args.name.now was.latest c.insert.new.self (Some c.len-place.result) updates text
          ∙ ap (λ count. if bytes_eq c.args.name.now text then Some count else get_by (λ key. bytes_eq text key.now) was.latest) counted) text place there)
          (λ same. pushed_within was c.args.def c.push.new.self.items c.in_ok-push.ensures.items place
          (let below = was.within text place (ap (lookup (λ key. bytes_eq text key.now)) (sym same) ∙ there) in omega (arith, below)))
          c.insert.ensures.updates c.insert.ensures.err;
    }

pub returns-clause-bound : goal.returns-clause-bound
returns-clause-bound c =
    let was = c.args.self.now in
    let counted : c.len-place.result ≡ length was.defs.items = omega (arith, c.len-place.ensures, was.defs.ok.0) in
    put_bound was c.args.def c.push.new.self.items c.in_ok-push.ensures.items c.args.name.now (λ text. get_by (λ key. bytes_eq text key.now) c.insert.new.self)
    (λ text. hash_map_updates_str c.args.name.now was.latest c.insert.new.self (Some c.len-place.result) c.in_ok-insert.ensures.updates text
    ∙ ap (λ count. if bytes_eq c.args.name.now text then Some count else get_by (λ key. bytes_eq text key.now) was.latest) counted)
