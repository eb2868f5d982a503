-- How a configuration that takes over ends: loaded, refused alone, or past a limit.
use Rattle.std.{proofs.Common.{◌≡◌, ◌≤◌, ℕ, Result, Ok, Err, List, inl, inr, sym, ap, subst, ◌∙◌}, specs.Result.{IfErr, IfOk, OnOk}}
use Rattle.npf_types.specs.declared.span.Span.{Span}
use Rattle.npf_model.specs.{declared.{iface.Iface.Iface, model.Model.Model}, Configuration.Configuration}
use Rattle.npf_outside.specs.Files.{FilesMoment, SameReadFaults}
use Rattle.npf_ruleset.specs.{declared.config.Config.Config, Configuration.{configuration, programs}}
use Rattle.npf_config.specs.{FirstConfiguration.IsFirstConfigurationTo, declared.fault.LoadFault.LoadFault, Loaded.HasNextIds, Refusal.RefusesLoad}
use Rattle.npf_config.specs.declared.fault.LoadFault.TheVariants as Load
use Rattle.npf_config.{specs.Stage.IfConf, proofs.LoadedLemmas.more_ids}
use Rattle.npf_config_changes.specs.{declared.fault.ChangeFault.{ChangeFault, TheVariants.Conf}, Additions.KeepsCounts}
use Rattle.npf_config_reload.specs.{Reloads.{IsLoadedAlone, RefusesReload, TakesOver, passed, taken}, Taken.{model_taken, taken_over}}
use Rattle.npf_config_reload.proofs.TakenLemmas.{ids_taken}

module _ (ifaces : List Iface) (text : List ℕ) (old : Configuration) (before now : FilesMoment) where
  -- what refuses the text alone refuses it in place of another
  pub alone_refuses : (fault : LoadFault) → RefusesLoad ifaces text before now fault → RefusesReload ifaces text old before now fault
  alone_refuses (Load.Conf fault) is = (inl is.0, is.1)
  alone_refuses (Load.File span name fault) is = is
  alone_refuses Load.NoMemory is = tt

  module _ (own : Config) (end : Span) (read : IsFirstConfigurationTo ifaces before.contents text (configuration own) end) (model : Model) (is : model ≡ model_taken old.model own.model) where
    abbrev own_is : IsLoadedAlone ifaces before.contents old text (configuration own)
    own_is = record { first = read.first; programs = programs own; within = own.limits }

    counts_are : (result : Result (Unit {0}) ChangeFault) → KeepsCounts end model result → KeepsCounts read.first.tree.end ((taken_over old (configuration own)).model) result
    counts_are result kept =
        subst (λ (place : Span). KeepsCounts place (model_taken old.model own.model) result) (sym read.ends) (subst (λ (m : Model). KeepsCounts end m result) is kept)

    pub takes : (next : Config) → configuration next ≡ record (configuration own) { model = model } → KeepsCounts end model (Ok tt)
        → TakesOver ifaces before.contents old text (Ok (configuration next))
    takes next of_model kept =
        subst (λ (config : Configuration). TakesOver ifaces before.contents old text (Ok config)) (sym (of_model ∙ ap (λ (m : Model). record (configuration own) { model = m }) is))
        (taken own_is (counts_are (Ok tt) kept))

    pub limit_refuses : SameReadFaults before now → (fault : LoadFault) → IfConf (λ fault. KeepsCounts end model (Err (Conf fault))) fault → RefusesReload ifaces text old before now fault
    limit_refuses same (Load.Conf fault) over = (inr (passed own_is (counts_are (Err (Conf fault)) over)), same)
    limit_refuses same (Load.File span name fault) over = absurd over
    limit_refuses same Load.NoMemory over = tt

    -- of whatever laying out answers
    pub all_take : (result : Result Config LoadFault) → IfOk result (λ next. configuration next ≡ record (configuration own) { model = model }) → OnOk result (KeepsCounts end model (Ok tt))
        → IfOk result (λ next. TakesOver ifaces before.contents old text (Ok (configuration next)))
    all_take (Ok next) of_model kept = takes next of_model kept
    all_take (Err fault) of_model kept = tt

    pub all_refuse : SameReadFaults before now → (result : Result Config LoadFault) → IfErr result (IfConf (λ fault. KeepsCounts end model (Err (Conf fault))))
        → IfErr result (RefusesReload ifaces text old before now)
    all_refuse same (Ok next) over = tt
    all_refuse same (Err fault) over = limit_refuses same fault over

-- the next numbers are those of both
pub all_ids : (old own : Config) (model : Model) → model ≡ model_taken old.model own.model → (most : ℕ) → 1 ≤ most → HasNextIds most old.model → HasNextIds 1 own.model
    → (result : Result Config LoadFault) → IfOk result (λ next. configuration next ≡ record (configuration own) { model = model }) → IfOk result (λ next. HasNextIds most next.model)
all_ids old own model is most one was first (Ok next) of_model =
    subst (HasNextIds most) (sym (ap (λ (config : Configuration). config.model) of_model ∙ is)) (ids_taken most old.model own.model was (more_ids 1 most one own.model first))
all_ids old own model is most one was first (Err fault) of_model = tt
