use Rattle.std.proofs.Common.{[], ◌∷◌, ◌++◌, sym, ◌∙◌, arith}
use Rattle.npf_packet.{specs.Ipv6.{first_header, next_header}, proofs.ChainLemmas.{passes_one, ends_at}}
use Rattle.npf_packet.proofs.ipv6.last_header.Goals as goal

pub headers-preserved : goal.headers-preserved
headers-preserved c =
    let bytes = c.args.bytes.now in
    let passed = c.headers.invariant.passed in
    let more = passes_one (next_header bytes c.args.end) (first_header bytes c.args.ip_at) passed.0 c.headers.header c.in-Some.next passed.1 (sym c.in-Some.ensures.value) in
    record {
      after = omega (arith, c.in-Some.ensures.after);
      before = c.in-Some.ensures.before;
      named_behind = omega (arith, c.in-Some.ensures.named);
      named_before = omega (arith, c.in-Some.ensures.named, c.in-Some.ensures.after);
      passed = (passed.0 ++ c.headers.header ∷ [], more);
    }

pub returns-clause-last : goal.returns-clause-last
returns-clause-last c =
    let bytes = c.args.bytes.now in
    let passed = c.headers.invariant.passed in
    record {
      headers = passed.0 ++ [];
      chain = ends_at (next_header bytes c.args.end) (first_header bytes c.args.ip_at) passed.0 c.headers.header passed.1 (sym c.next_header.ensures.value ∙ c.in_default.is);
    }
