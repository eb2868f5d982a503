-- A pass in no stay that owns all reader places is hindered by nobody.
use Rattle.std.proofs.Common.{◌≡◌, ◌≢◌, ℕ, ◌+◌, ◌≤◌, ◌==◌, ◌||◌, Bool, true, false, true≢false, cond, length, map, refl, sym, ap, ◌∙◌, subst, arith}
use mathlib.Core.Option.{some}
use lib.ListN.{get_elem?}
use Rattle.atomic_table.proofs.Lists.{at_map}
use Rattle.npf_types.specs.declared.key.Key.{Key}
use Rattle.npf_core.specs.{declared.entry.Entry.Entry, Meaning.Meaning}
use Rattle.npf_connections.specs.Pass.{all_places}
use Rattle.npf_cells_words.specs.declared.layout.Layout.{Layout}
use Rattle.npf_seats.{specs.{Sums.occurs, declared.side.SeatSide.SeatSide}, proofs.SumLemmas.{sum_alone, from_map}}
use Rattle.npf_cells_pins.specs.{declared.pin.Pin.TheVariants.Idle, Epochs.{pin_place, pin_word}}
use Rattle.npf_cells_rule.{specs.{declared.view.CellView.CellView, Views.{seat_side, reader_view}}, proofs.SoleLemmas.others_spent}
use Rattle.npf_epoch.specs.Tries.{IsHindered}

idle_word : (b : Bool) → cond b (pin_word Idle) 0 ≡ 0
idle_word true = refl
idle_word false = refl

pub never_hindered : {S A R : Type 0} (m : Meaning S A R) (digest : Key → ℕ) (layout : Layout) (v : CellView S A R) (epoch : ℕ) →
    length v.seats.readers ≡ all_places → v.epochs.pin ≡ Idle → IsHindered m digest layout v epoch → ⊥
never_hindered {S} {A} {R} m digest layout v epoch all idle hindered =
    let stood = hindered.stood in
    let u : CellView S A R = record v { epochs = hindered.side } in
    let owned = stood.rule.seats.owned hindered.reader hindered.below in
    let mine = sum_alone (λ (x : SeatSide ℕ (Entry S A R)). occurs hindered.reader x.readers) (map seat_side stood.state.views) v.seats.number v.seats
    (at_map seat_side stood.state.views v.seats.number u stood.seated) others in
    let once : 1 ≤ occurs hindered.reader v.seats.readers = omega (arith, owned, mine) in
    let kept = (stood.rule.epochs.each v.seats.number (reader_view u) (at_map reader_view stood.state.views v.seats.number u stood.seated)).kept hindered.reader once in
    let none : hindered.found ≡ 0 =
    sym stood.there ∙ (kept ∙ (ap (λ p. cond (hindered.reader == pin_place v.seats.readers) (pin_word p) 0) (hindered.pin ∙ idle) ∙ idle_word (hindered.reader == pin_place v.seats.readers))) in
    true≢false (ap (λ n. (n == 0) || (n == epoch + 1)) (sym none) ∙ hindered.elsewhere)
  where
    others : (i : ℕ) (x : SeatSide ℕ (Entry S A R)) → i ≢ v.seats.number → get_elem? (map seat_side hindered.stood.state.views) i ≡ some x → occurs hindered.reader x.readers ≡ 0
    others i x ne there =
        let was = from_map seat_side hindered.stood.state.views i x there in
        ap (λ (y : SeatSide ℕ (Entry S A R)). occurs hindered.reader y.readers) (sym was.2)
        ∙ ap (λ (y : CellView S A R). occurs hindered.reader y.seats.readers) (others_spent m digest layout hindered.stood.state v.seats.number
        (record v { epochs = hindered.side }) hindered.stood.rule hindered.stood.seated all i was.0 ne was.1)
