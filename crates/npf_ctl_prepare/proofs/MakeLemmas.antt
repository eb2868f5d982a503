-- The configurations of a run, one of another.
use Rattle.std.proofs.Common.{◌≡◌, ◌≢◌, ◌≤◌, ◌+◌, ◌-◌, ◌∙◌, ℕ, Bool, true, false, cond, Option, Some, None, Result, Ok, Err, IfOk, IfErr, IfSome, List}
use Rattle.std.{proofs.Common.{[], ◌∷◌, ◌++◌, length, map, get_or, refl, sym, subst, ap, arith, true≢false}, specs.Option.is_some}
use Rattle.std.proofs.lemmas.List.{get_or_at, length-append, map-append, Sums.sum_by-cons}
use Rattle.npf_types.specs.declared.{limits.TheConstants.MAX_CHANGES, name.Name.Name, prefix.Prefix.Prefix}
use Rattle.npf_types.specs.Stages.{Stage, stops, goes_on, ◌told_by◌, told, done}
use Rattle.npf_model.specs.{declared.iface.Iface.Iface, Configuration.Configuration}
use Rattle.npf_outside.specs.Files.{FilesMoment, SameReadFaults}
use Rattle.npf_ruleset.specs.{declared.config.Config.Config, Configuration.configuration}
use Rattle.npf_config.{specs.{Loaded.{HasNextIds, IsLoaded}, Reading.OnlyReads}, proofs.{LoadedLemmas.more_ids, TableLemmas.no_reads}}
use Rattle.npf_config_changes.specs.{declared.fault.ChangeFault.ChangeFault, Told.EndsUnlessMemory}
use Rattle.npf_ctl_script.specs.declared.script.ScriptLine.{ScriptLine}
use Rattle.npf_ctl_script.specs.declared.script.ScriptLine.TheVariants as Said
use Rattle.npf_ctl_schedule.specs.Schedule.{changes_in, makes_change, unnumbered}
use Rattle.npf_ctl_messages.specs.declared.fault.CommandFault.{CommandFault}
use Rattle.npf_ctl_input.{specs.{Around.Around, Unless.{IfTold, UnlessMemory}}, proofs.AroundLemmas.{around_first, around_next}}
use Rattle.npf_ctl_input.proofs.UnlessLemmas.{unless_lasts, told_lasts}
use Rattle.npf_ctl_prepare.specs.{Configurations.{MakesConfigurations, MakesNext, told_at_line}, Reloads.ReloadsFile}
use Rattle.npf_ctl_prepare.specs.Told.{AnswersChange, IsChangeable, TellsChange, made_of, with_next}
use Rattle.npf_ctl_prepare.proofs.{AroundLemmas.{faultless_none, faultless_on, reads_on}, StageLemmas.told_unless}

pub changeable_more : (one most : ℕ) → one ≤ most → (config : Config) → IsChangeable one config → IsChangeable most config
changeable_more one most more config is = record { loaded = is.loaded; ids = more_ids one most more config.model is.ids }

module _ (script : List ℕ) (line : ℕ) where
  pub told_comes :
      (stage : Stage Configuration ChangeFault) (last : Configuration) (changed : Result Config ChangeFault) (answer : Result (Option Config) CommandFault) →
      IfOk changed (λ next. stage (Ok (configuration next))) → IfErr changed (EndsUnlessMemory stage) → TellsChange script line changed answer →
      UnlessMemory (made_of last) answer (stage told_by told_at_line script line)
  told_comes stage last (Ok next) answer ok err tells =
      subst (λ (a : Result (Option Config) CommandFault). UnlessMemory (made_of last) a (stage told_by told_at_line script line)) (sym tells) (done ok)
  told_comes stage last (Err fault) (Err said) ok err tells =
      told_unless (λ other. (stage told_by told_at_line script line) (Err other)) said
      (λ real. subst (λ (other : CommandFault). (stage told_by told_at_line script line) (Err other)) (sym (tells real))
      (told (err (λ same. real (tells real ∙ ap (told_at_line script line) same)))))
  told_comes stage last (Err fault) (Ok next) ok err tells = absurd tells

  pub told_makes : (changed : Result Config ChangeFault) (answer : Result (Option Config) CommandFault) → TellsChange script line changed answer →
      IfOk answer (λ next. is_some next ≡ true)
  told_makes (Ok next) answer tells = subst (λ (a : Result (Option Config) CommandFault). IfOk a (λ next. is_some next ≡ true)) (sym tells) refl
  told_makes (Err fault) (Err said) tells = tt
  told_makes (Err fault) (Ok next) tells = absurd tells

  pub told_is : (P : Config → Type 0) (changed : Result Config ChangeFault) (answer : Result (Option Config) CommandFault) → IfOk changed P →
      TellsChange script line changed answer → IfOk answer (λ next. IfSome next P)
  told_is P (Ok next) answer is tells = subst (λ (a : Result (Option Config) CommandFault). IfOk a (λ next. IfSome next P)) (sym tells) is
  told_is P (Err fault) (Err said) is tells = tt
  told_is P (Err fault) (Ok next) is tells = absurd tells

-- a change that adds no rule keeps what comes next
pub ids_kept : (last : Config) (changed : Result Config ChangeFault) → ((most : ℕ) → HasNextIds most last.model → IfOk changed (λ next. HasNextIds most next.model)) →
    (most : ℕ) → HasNextIds most last.model → IfOk changed (λ next. HasNextIds (most + 1) next.model)
ids_kept last (Ok next) ids most within = more_ids most (most + 1) (omega arith) next.model (ids most within)
ids_kept last (Err fault) ids most within = tt

both_changeable : (most : ℕ) (changed : Result Config ChangeFault) → IfOk changed IsLoaded → IfOk changed (λ next. HasNextIds most next.model) → IfOk changed (IsChangeable most)
both_changeable most (Ok next) loaded ids = record { loaded = loaded; ids = ids }
both_changeable most (Err fault) loaded ids = tt

module _ (before after : FilesMoment) (ifaces : List Iface) (script : List ℕ) (last : Config) (n : ℕ) (said : ScriptLine) where
  -- a line that changes the last configuration answers what the change comes to
  pub change_answers :
      (stage : Stage Configuration ChangeFault) (changed : Result Config ChangeFault) (answer : Result (Option Config) CommandFault) →
      ((result : Result Configuration CommandFault) → (stage told_by told_at_line script n) result → MakesNext before after ifaces script (configuration last) (n, said) result) →
      makes_change said ≡ true → IfOk changed (λ next. stage (Ok (configuration next))) → IfErr changed (EndsUnlessMemory stage) → IfOk changed IsLoaded →
      ((most : ℕ) → HasNextIds most last.model → IfOk changed (λ next. HasNextIds (most + 1) next.model)) → TellsChange script n changed answer →
      AnswersChange before after ifaces script last (n, said) answer
  change_answers stage changed answer is makes ok err loaded ids tells = record {
    comes = unless_lasts (made_of (configuration last)) (stage told_by told_at_line script n) (MakesNext before after ifaces script (configuration last) (n, said)) is answer
        (told_comes script n stage (configuration last) changed answer ok err tells);
    makes = subst (λ b. IfOk answer (λ next. is_some next ≡ b)) (sym makes) (told_makes script n changed answer tells);
    changeable = λ most within. told_is script n (IsChangeable (most + 1)) changed answer (both_changeable (most + 1) changed loaded (ids most within)) tells;
  }

module _ (before after : FilesMoment) (ifaces : List Iface) (script : List ℕ) (last : Config) (n : ℕ) where
  pub reload_answers : (file : List ℕ) (answer : Result (Option Config) CommandFault) →
      UnlessMemory (made_of (configuration last)) answer (ReloadsFile before after ifaces (configuration last) file) → IfOk answer (λ next. is_some next ≡ true) →
      ((most : ℕ) → HasNextIds most last.model → IfOk answer (λ next. IfSome next (IsChangeable (most + 1)))) → AnswersChange before after ifaces script last (n, Said.Reload file) answer
  reload_answers file answer comes makes changeable = record { comes = comes; makes = makes; changeable = changeable }

  -- a line that makes no change answers none
  pub nothing_answers : (said : ScriptLine) → makes_change said ≡ false → AnswersChange before after ifaces script last (n, said) (Ok None)
  nothing_answers (Said.Capture name dir file) still = record { comes = refl; makes = refl; changeable = λ most within. tt }
  nothing_answers Said.Phase still = record { comes = refl; makes = refl; changeable = λ most within. tt }
  nothing_answers (Said.Packets count) still = record { comes = refl; makes = refl; changeable = λ most within. tt }
  nothing_answers (Said.Expire time) still = record { comes = refl; makes = refl; changeable = λ most within. tt }
  nothing_answers said still = absurd (true≢false still)

pub not_change : (said : ScriptLine) → ((file : List ℕ) → said ≢ Said.Reload file) → ((name : Name) (text : List ℕ) → said ≢ Said.RuleAdd name text) →
    ((name : Name) (id : ℕ) → said ≢ Said.RuleRem name id) → ((name : Name) → said ≢ Said.RuleFlush name) →
    ((name : Name) (prefix : Prefix) → said ≢ Said.TableAdd name prefix) → ((name : Name) (prefix : Prefix) → said ≢ Said.TableRem name prefix) → makes_change said ≡ false
not_change (Said.Reload file) reload add rem flush entry no_entry = absurd (reload file refl)
not_change (Said.RuleAdd name text) reload add rem flush entry no_entry = absurd (add name text refl)
not_change (Said.RuleRem name id) reload add rem flush entry no_entry = absurd (rem name id refl)
not_change (Said.RuleFlush name) reload add rem flush entry no_entry = absurd (flush name refl)
not_change (Said.TableAdd name prefix) reload add rem flush entry no_entry = absurd (entry name prefix refl)
not_change (Said.TableRem name prefix) reload add rem flush entry no_entry = absurd (no_entry name prefix refl)
not_change said reload add rem flush entry no_entry = refl

pub changes_more : (line : ℕ × ScriptLine) (rest : List (ℕ × ScriptLine)) → changes_in (unnumbered (line ∷ rest)) ≡ cond (makes_change line.1) 1 0 + changes_in (unnumbered rest)
changes_more line rest = sum_by-cons (λ other. cond (makes_change other) 1 0) line.1 (unnumbered rest)

-- the last of some is the one at their end
pub last_there : {X : Type 0} (front : List X) (last found : X) (all : List X) → all ≡ front ++ last ∷ [] → found ≡ get_or all (length all - 1) found → last ≡ found
last_there {X = X} front last found all are is =
    let at : length all - 1 ≡ length front = omega (arith, ap length are, length-append front (last ∷ [])) in
    sym (is ∙ ap (λ n. get_or all n found) at ∙ ap (λ (list : List X). get_or list (length front) found) are ∙ get_or_at front last [] found (length front) refl)

module _ (ifaces : List Iface) (script : List ℕ) (lines : List (ℕ × ScriptLine)) (first : Config) (start now : FilesMoment) where
  -- the lines in front of the rest were followed
  pub record MadeSoFar (rest : List (ℕ × ScriptLine)) (configs : List Config) : Type 0 where
    pub front : List Config
    pub last : Config
    pub are : configs ≡ front ++ last ∷ []
    pub comes : (before after : FilesMoment) → Around before start now after → (result : Result (List Configuration) CommandFault) →
        MakesConfigurations before after ifaces script rest (map configuration configs) (configuration last) result →
        MakesConfigurations before after ifaces script lines (configuration first ∷ []) (configuration first) result
    pub count : length configs + changes_in (unnumbered rest) ≡ 1 + changes_in (unnumbered lines)
    pub changeable : IsChangeable (length configs) last
    pub reads : OnlyReads start now
    pub faultless : SameReadFaults start now

module _ (ifaces : List Iface) (script : List ℕ) (lines : List (ℕ × ScriptLine)) (first : Config) (start now : FilesMoment) where
  module _ (line : ℕ × ScriptLine) (rest : List (ℕ × ScriptLine)) (configs : List Config) (so_far : MadeSoFar ifaces script lines first start now (line ∷ rest) configs)
      (next : FilesMoment) (reads : OnlyReads now next) (found : Config) (is : found ≡ get_or configs (length configs - 1) found) where
    same : so_far.last ≡ found
    same = last_there so_far.front so_far.last found configs so_far.are is

    pub found_changeable : changes_in (unnumbered lines) ≤ MAX_CHANGES → IsChangeable 257 found
    found_changeable few = subst (IsChangeable 257) same
        (changeable_more (length configs) 257 (omega (arith, so_far.count, few)) so_far.last so_far.changeable)

    pub found_ids : HasNextIds (length configs) found.model
    found_ids = subst (λ (config : Config). HasNextIds (length configs) config.model) same so_far.changeable.ids

    module _ (before after : FilesMoment) (around : Around before start next after) where
      inner : Around before now next after
      inner = around_next before start now next after around so_far.reads

      outer : (result : Result (List Configuration) CommandFault) →
          MakesConfigurations before after ifaces script (line ∷ rest) (map configuration configs) (configuration found) result →
          MakesConfigurations before after ifaces script lines (configuration first ∷ []) (configuration first) result
      outer result is = so_far.comes before after (around_first before start now next after around reads) result
          (subst (λ (config : Config). MakesConfigurations before after ifaces script (line ∷ rest) (map configuration configs) (configuration config) result) (sym same) is)

    pub making_ends : (fault : CommandFault) →
        ((before after : FilesMoment) → Around before now next after → IfTold (λ other. MakesNext before after ifaces script (configuration found) line (Err other)) fault) →
        (before after : FilesMoment) → Around before start next after →
        IfTold (λ other. MakesConfigurations before after ifaces script lines (configuration first ∷ []) (configuration first) (Err other)) fault
    making_ends fault comes before after around =
        told_lasts (λ other. MakesNext before after ifaces script (configuration found) line (Err other))
        (λ other. MakesConfigurations before after ifaces script lines (configuration first ∷ []) (configuration first) (Err other))
        (λ other is. outer before after around (Err other) (stops is))
        fault (comes before after (inner before after around))

    module _ (faultless : SameReadFaults now next) (more : Config)
        (comes : (before after : FilesMoment) → Around before now next after → MakesNext before after ifaces script (configuration found) line (Ok (configuration more))) where
      abbrev made : List Configuration
      made = map configuration configs

      goes : (change : Bool) → makes_change line.1 ≡ change → (before after : FilesMoment) → Around before start next after →
          (result : Result (List Configuration) CommandFault) →
          MakesConfigurations before after ifaces script rest (cond change (made ++ configuration more ∷ []) made) (configuration more) result →
          MakesConfigurations before after ifaces script lines (configuration first ∷ []) (configuration first) result
      goes change e before after around result then_comes = outer before after around result (goes_on (comes before after (inner before after around))
          (subst (λ b. MakesConfigurations before after ifaces script rest (cond b (made ++ configuration more ∷ []) made) (configuration more) result) (sym e) then_comes))

      -- the line makes no change
      pub made_none : more ≡ found → makes_change line.1 ≡ false → MadeSoFar ifaces script lines first start next rest configs
      made_none gone still = record {
        front = so_far.front;
        last = more;
        are = so_far.are ∙ ap (λ (config : Config). so_far.front ++ config ∷ []) (same ∙ sym gone);
        comes = goes false still;
        count = omega (arith, so_far.count, changes_more line rest ∙ ap (λ b. cond b 1 0 + changes_in (unnumbered rest)) still);
        changeable = subst (IsChangeable (length configs)) (same ∙ sym gone) so_far.changeable;
        reads = reads_on start now next so_far.reads reads;
        faultless = faultless_on start now next so_far.faultless faultless;
      }

      -- the line makes this configuration
      pub made_one : makes_change line.1 ≡ true → IsChangeable (length configs + 1) more → MadeSoFar ifaces script lines first start next rest (configs ++ more ∷ [])
      made_one one changeable = record {
        front = configs;
        last = more;
        are = refl;
        comes = λ before after around result then_comes. goes true one before after around result
            (subst (λ (all : List Configuration). MakesConfigurations before after ifaces script rest all (configuration more) result)
            (map-append configuration configs (more ∷ [])) then_comes);
        count = omega (arith, length-append configs (more ∷ []), so_far.count, changes_more line rest ∙ ap (λ b. cond b 1 0 + changes_in (unnumbered rest)) one);
        changeable = subst (λ n. IsChangeable n more) (sym (length-append configs (more ∷ []))) changeable;
        reads = reads_on start now next so_far.reads reads;
        faultless = faultless_on start now next so_far.faultless faultless;
      }

    -- the line makes this configuration, or none
    pub made_more : SameReadFaults now next → (answer : Option Config) →
        ((before after : FilesMoment) → Around before now next after →
        MakesNext before after ifaces script (configuration found) line (Ok (made_of (configuration found) answer))) →
        is_some answer ≡ makes_change line.1 → IfSome answer (IsChangeable (length configs + 1)) →
        MadeSoFar ifaces script lines first start next rest (with_next configs answer)
    made_more faultless None comes makes changeable = made_none faultless found comes refl (sym makes)
    made_more faultless (Some more) comes makes changeable = made_one faultless more comes (sym makes) changeable

module _ (ifaces : List Iface) (script : List ℕ) (lines : List (ℕ × ScriptLine)) (first : Config) (start : FilesMoment) where
  pub made_first : IsChangeable 1 first → MadeSoFar ifaces script lines first start start lines (first ∷ [])
  made_first changeable = record {
    front = [];
    last = first;
    are = refl;
    comes = λ before after around result is. is;
    count = refl;
    changeable = changeable;
    reads = no_reads start;
    faultless = faultless_none start;
  }

  module _ (now : FilesMoment) (configs : List Config) (so_far : MadeSoFar ifaces script lines first start now [] configs) where
    pub all_made : (before after : FilesMoment) → Around before start now after →
        MakesConfigurations before after ifaces script lines (configuration first ∷ []) (configuration first) (Ok (map configuration configs))
    all_made before after around = so_far.comes before after around (Ok (map configuration configs)) refl

    pub all_counted : length configs ≡ 1 + changes_in (unnumbered lines)
    all_counted = omega (arith, so_far.count)
