-- A pass forgets the epoch that it loaded, and what it scanned with it: the part on epochs stays.
use Rattle.std.proofs.Common.{◌≡◌, ℕ, List, set, arith}
use mathlib.Core.Option.{some}
use lib.ListN.{get_elem?}
use Rattle.npf_seats.proofs.{PrefixLemmas.none_listed, SumLemmas.sum-set}
use Rattle.npf_cells_pins.{specs.Epochs.{ReaderView, Epochs, pin_place}, proofs.EpochLemmas.changed}
use Rattle.npf_cells_rule.specs.Views.{unloaded}

pub epochs_forgot : (now : ℕ) (reader : ℕ → ℕ) (readings : List ReaderView) (id : ℕ) (r : ReaderView) → Epochs now reader readings →
    get_elem? readings id ≡ some r → Epochs now reader (set readings id (record r { side = unloaded r.side }))
epochs_forgot now reader readings id r kept there =
    let fits = kept.each id r there in
    changed now now reader reader readings id (record r { side = unloaded r.side }) kept (record {
      from = kept.from;
      most = kept.most;
      counted = (let sums = sum-set (λ (u : ReaderView). u.side.raises) readings id r (record r { side = unloaded r.side }) there in let all = kept.counted in omega (arith, sums, all));
      fits = record { loaded = omega arith; greatest = fits.greatest; known = fits.known; guards = fits.guards; kept = fits.kept; pinned = fits.pinned };
      others = λ j q ne e. kept.each j q e;
      scanner = λ j q ne e c. absurd (none_listed (pin_place q.places) c);
      target = λ i q ne e. kept.scans i id q r e there;
      itself = λ c. absurd (none_listed (pin_place r.places) c);
    })
