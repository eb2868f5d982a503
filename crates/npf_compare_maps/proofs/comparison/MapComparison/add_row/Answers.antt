use Rattle.std.proofs.Common.{◌≤◌, ◌+◌, Ok, Vec, Global, IfSome, sym, subst, ap, ◌∙◌, arith}
use Rattle.npf_compare_maps.specs.declared.difference.MapDifference.{MapDifference}
use Rattle.npf_compare_maps.specs.Side.{AreToldUpTo, IsPairDifference, map_count}
use Rattle.npf_compare_maps.proofs.PassedLemmas.{nothing_else}
use Rattle.npf_compare_maps.proofs.RowLemmas.{told_none, told_pushed, told_row}
use Rattle.npf_compare_maps.proofs.comparison.MapComparison.add_row.Goals as goal
use Rattle.npf_compare_maps.proofs.comparison.MapComparison.add_row.Goals.{in-Some+in_ok-push, in_default}

pub loop-new-preserved : goal.loop-new-preserved
loop-new-preserved c =
    let comparison = c.args.self.now in
    let old = c.args.old in
    let new = c.loop-new.new in
    let differences = c.loop-new.differences.items in
    let inv = c.loop-new.invariant in
    let below : new ≤ map_count comparison.after.config = omega (arith, c.loop-new-test.true, c.maps-new-end.ensures) in
    record {
      told = elim c.match-branch-2.branch [
        | in-Some+in_ok-push w ↦
            told_pushed comparison old new c.requires.within below differences inv.told w.in-Some.packet w.map_at.result w.map_at-in-Some.result c.match-branch-2.differences.items
            w.map_at.ensures w.map_at-in-Some.ensures (ap (λ (v : Vec MapDifference Global). v.items) w.differences-is ∙ w.in_ok-push.ensures.items)
            (subst (λ o. IfSome o (IsPairDifference comparison old new)) w.in-Some.is c.in_ok-packet.ensures.found)
        | in_default w ↦
            subst (λ (v : Vec MapDifference Global). AreToldUpTo comparison old (new + 1) v.items) (sym w.differences-is)
            (told_none comparison old new c.requires.within below differences inv.told
            (c.in_ok-packet.ensures.none (ap Ok (nothing_else comparison.before.config (IsPairDifference comparison old new) c.in_ok-packet.field-0 w.in_default.not-Some))))
      ];
      most = c.pair.ensures.most ∙ inv.most;
      rises = omega (arith, c.pair.ensures.rises, inv.rises);
    }

pub returns-clause-told : goal.returns-clause-told
returns-clause-told c =
    told_row c.args.self.now c.args.old c.loop-new.new c.loop-new.differences.items (omega (arith, c.loop-new-test.false, c.maps-new-end.ensures)) c.loop-new.invariant.told
