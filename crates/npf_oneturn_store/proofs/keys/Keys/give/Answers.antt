use Rattle.std.proofs.{Common.{ap, sym, subst, ◌∙◌, ◌≡◌, ◌<◌, refl, length, set, Some, vec_capacity}, lemmas.List.length-set}
use Rattle.npf_core.specs.declared.hold.Holding.{Holding}
use Rattle.npf_oneturn_store.specs.{Hash.bucket_of, Places.{standing, holder_among, found_in}}
use Rattle.npf_oneturn_store.proofs.{HolderLemmas.{holder_put, holder_kept, found_there, found_elsewhere}, KeptLemmas.kept_given}
use Rattle.npf_oneturn_store.proofs.keys.Keys.give.Goals as goal

pub invariant_of-self : goal.invariant_of-self
invariant_of-self c =
    let s = c.name.new.self in
    let x : Holding = record { key = c.args.key; found = c.args.found } in
    let same = c.name.ensures.holdings ∙ c.write_buckets.ensures.holdings in
    let bucket : c.args.bucket ≡ bucket_of s.buckets c.args.key = c.requires.bucket ∙ ap (λ n. bucket_of n c.args.key) (sym (c.name.ensures.buckets ∙ c.write_buckets.ensures.buckets)) in
    record {
      sized = s.sized;
      room_cells = s.room_cells;
      room_flags = s.room_flags;
      kept = kept_given s.buckets s.holdings.items s.cells.items s.spilled.items s.kept x c.key_place-place.result
          (rw (same, c.key_place-place.ensures) c.requires.within) (sym c.key_place-place.ensures)
          (ap (λ v. holder_among v.items c.args.key) same ∙ c.requires.unheld)
          (rw (← bucket) c.name.ensures.named);
      unused = λ e. absurd (let written = c.name.ensures.written in cc);
    }

pub returns : goal.returns
returns c =
    let xs = c.args.self.now.holdings.items in
    let x : Holding = record { key = c.args.key; found = c.args.found } in
    let vecs = c.name.ensures.holdings ∙ c.write_buckets.ensures.holdings in
    let same = ap (λ v. v.items) vecs in
    let place = c.key_place-place.result in
    let is = c.key_place-place.ensures in
    let within = subst (λ q. q < length xs) (sym is) c.requires.within in
    record {
      now = subst (λ ys. holder_among (set ys place (Some x)) c.args.key ≡ Some c.args.found) (sym same)
          (holder_put xs place (Some x) c.args.key c.args.found within c.requires.unheld (found_there x c.args.key refl));
      others = λ other ne.
          let vacant = ap (λ q. standing xs q) is ∙ c.requires.none in
          subst (λ ys. holder_among (set ys place (Some x)) other ≡ holder_among xs other) (sym same)
          (holder_kept xs place (Some x) other (found_elsewhere x other (λ e. ne (sym e))) (ap (λ y. found_in other y) vacant));
      sized = length-set c.name.new.self.holdings.items place (Some x) ∙ ap length same;
      room = ap vec_capacity vecs;
    }
