-- The status of work that was done (docs/npfctl.8, "EXIT STATUS").
use Rattle.std.specs.Prelude.{◌≡◌, ◌⊎◌, ℕ}
use Rattle.npf_ctl.specs.declared.findings.Finding.{Finding}
use Rattle.npf_ctl.specs.declared.findings.Finding.TheVariants.{Nothing, Something}

abbrev pub status_of_finding : Finding → ℕ
status_of_finding Nothing = 0
status_of_finding Something = 10

-- the work was done
abbrev pub IsDone : ℕ → Type 0
IsDone status = (status ≡ 0) ⊎ (status ≡ 10)
