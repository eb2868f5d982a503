use Rattle.std.proofs.Common.{drop}
use Rattle.npf_report.proofs.TextLemmas.{total_in_front}
use Rattle.npf_report.proofs.totals.write_total.Goals as goal

pub returns-clause-line : goal.returns-clause-line
returns-clause-line c = λ outcomes are.
    rw (
      c.write_counted.ensures.written,
      c.write_counted-passed.ensures.written,
      c.write_counted-blocked.ensures.written,
      c.write_counted-dropped.ensures.written,
      c.write_counted-skipped.ensures.written,
      c.write_counted-malformed.ensures.written,
      c.write_text-feed.ensures.written,
    )
    (total_in_front outcomes c.args.counts.now are (drop c.args.end c.args.page.now))
