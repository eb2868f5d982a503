-- The lines of a file of expectations, one after the other.
use Rattle.std.proofs.Common.{◌≡◌, ◌<◌, ◌+◌, ℕ, List, [], ◌∷◌, ◌++◌, length, take, get_or, refl, sym, subst, arith}
use Rattle.std.proofs.lemmas.{List.length-take-le, Option.slice_get_read}
use Rattle.npf_table.{specs.TableFile.lines, proofs.TableFileLemmas.one_line_more}
use Rattle.npf_model.specs.declared.{iface.Iface.Iface, model.Model.Model}
use Rattle.npf_ctl_script.specs.Words.{IsSkipped}
use Rattle.npf_ctl_messages.specs.declared.fault.CommandFault.{CommandFault}
use Rattle.npf_ctl_check.specs.{declared.expectation.Expectation.Expectation, Reading.{AreExpected, IsExpected, IsFirstRefused, RefusesLine}}

pub nothing_expected : (known : List Iface) (model : Model) (read : List Expectation) → read ≡ [] → AreExpected known model [] read
nothing_expected known model read none = subst (AreExpected known model []) (sym none) AreExpected.nothing

module _ (known : List Iface) (model : Model) (all : List (List ℕ)) (n m : ℕ) (line : List ℕ) (within : n < length all) (is : line ≡ get_or all n line) (more : m ≡ n + 1)
    (read : List Expectation) where
  pub after_skipped : AreExpected known model (take n all) read → IsSkipped line → AreExpected known model (take m all) read
  after_skipped so_far skipped = subst (λ (front : List (List ℕ)). AreExpected known model front read) (sym (one_line_more all n m line within is more))
      (AreExpected.skipped (take n all) line read so_far skipped)

  pub after_told : (number : ℕ) (expectation : Expectation) → number ≡ n + 1 → AreExpected known model (take n all) read → ¬ IsSkipped line →
      IsExpected known model number line expectation → AreExpected known model (take m all) (read ++ expectation ∷ [])
  after_told number expectation counted so_far kept expected =
      let long : length (take n all) ≡ n = length-take-le n all (omega (arith, within)) in
      let numbered : number ≡ length (take n all) + 1 = omega (arith, long, counted) in
      subst (λ (front : List (List ℕ)). AreExpected known model front (read ++ expectation ∷ [])) (sym (one_line_more all n m line within is more))
      (AreExpected.told (take n all) line read expectation so_far kept
      (subst (λ (k : ℕ). IsExpected known model k line expectation) numbered expected))

-- the first line that is refused
pub first_refused : (file : List ℕ) (known : List Iface) (model : Model) (text : List ℕ) (n number : ℕ) (line : List ℕ) (read : List Expectation) (fault : CommandFault) →
    n < length (lines text) → line ≡ get_or (lines text) n line → AreExpected known model (take n (lines text)) read → ¬ IsSkipped line → number ≡ n + 1 →
    RefusesLine file known model number line fault → IsFirstRefused file known model text fault
first_refused file known model text n number line read fault within is so_far kept counted refused = record {
  before = n;
  line = line;
  there = slice_get_read (lines text) (length (lines text)) n line refl within is;
  earlier = read;
  good = so_far;
  kept = kept;
  refused = subst (λ (k : ℕ). RefusesLine file known model k line fault) counted refused;
}
