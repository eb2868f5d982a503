use Rattle.std.specs.{Bool.⊤, Borrow.Bor}
use Rattle.std.proofs.Common.{◌≡◌, Bool, true, false, ◌||◌, if◌then◌else◌, Option, Some, None, is_some, List, codes, sym, ap, subst, ◌∙◌}
use Rattle.npf_lexer.specs.declared.token.Token.{Token}
use Rattle.npf_phrase.specs.{Phrase.head, Grammar.{Grammar, meaning, ◌or◌}}
use Rattle.npf_parser_values.specs.{Answer.{Answers, Begins}, Token.quoted}
use Rattle.npf_parser.specs.Stmt.{stmt, set, alg, table, map, group, procedure, define}
use Rattle.npf_parser.proofs.stmt.read_stmt.Goals as goal

starts_by : (g : Grammar Token ⊤) (ts : List Token) (found : Option (Bor (List Token))) → Begins g ts found → (meaning g).starts (head ts) ≡ is_some found
starts_by g ts None begins = begins.0
starts_by g ts (Some rest) begins = begins.0

-- what was asked of the tokens behind a word says whether it stands first
starts_as : (g : Grammar Token ⊤) (ts : List Token) (found : Option (Bor (List Token))) (said b : Bool) → Begins g ts found →
    said ≡ is_some found → said ≡ b → ((meaning g).starts (head ts) || false) ≡ b || false
starts_as g ts found said b begins asked is = ap (λ b. b || false) (starts_by g ts found begins ∙ sym asked ∙ is)

one : {A : Type 0} (g h : Grammar Token A) (ts : List Token) → (meaning g).starts (head ts) ≡ true → (meaning (g or h)).read ts ≡ (meaning g).read ts
one g h ts begins = ap (λ b. if b then (meaning g).read ts else (meaning h).read ts) begins

other : {A : Type 0} (g h : Grammar Token A) (ts : List Token) → (meaning g).starts (head ts) ≡ false → (meaning (g or h)).read ts ≡ (meaning h).read ts
other g h ts lacks = ap (λ b. if b then (meaning g).read ts else (meaning h).read ts) lacks

module _ (ts : List Token) {b : Bool} where
  set_starts : (found : Option (Bor (List Token))) (said : Bool) → Begins (quoted (codes "set")) ts found → said ≡ is_some found → said ≡ b → (meaning set).starts (head ts) ≡ (b || false)
  unfolding set
  set_starts found said begins asked is = starts_as (quoted (codes "set")) ts found said b begins asked is

  alg_starts : (found : Option (Bor (List Token))) (said : Bool) → Begins (quoted (codes "alg")) ts found → said ≡ is_some found → said ≡ b → (meaning alg).starts (head ts) ≡ (b || false)
  unfolding alg
  alg_starts found said begins asked is = starts_as (quoted (codes "alg")) ts found said b begins asked is

  table_starts : (found : Option (Bor (List Token))) (said : Bool) → Begins (quoted (codes "table")) ts found → said ≡ is_some found → said ≡ b → (meaning table).starts (head ts) ≡ (b || false)
  unfolding table
  table_starts found said begins asked is = starts_as (quoted (codes "table")) ts found said b begins asked is

  map_starts : (found : Option (Bor (List Token))) (said : Bool) → Begins (quoted (codes "map")) ts found → said ≡ is_some found → said ≡ b → (meaning map).starts (head ts) ≡ (b || false)
  unfolding map
  map_starts found said begins asked is = starts_as (quoted (codes "map")) ts found said b begins asked is

  group_starts : (found : Option (Bor (List Token))) (said : Bool) → Begins (quoted (codes "group")) ts found → said ≡ is_some found → said ≡ b → (meaning group).starts (head ts) ≡ (b || false)
  unfolding group
  group_starts found said begins asked is = starts_as (quoted (codes "group")) ts found said b begins asked is

  procedure_starts : (found : Option (Bor (List Token))) (said : Bool) → Begins (quoted (codes "procedure")) ts found →
      said ≡ is_some found → said ≡ b → (meaning procedure).starts (head ts) ≡ (b || false)
  unfolding procedure
  procedure_starts found said begins asked is = starts_as (quoted (codes "procedure")) ts found said b begins asked is

-- the statement that a word begins, where none before it does
module _ (ts : List Token) where
  is_set : (meaning set).starts (head ts) ≡ true → (meaning stmt).read ts ≡ (meaning set).read ts
  unfolding stmt
  is_set begins = one set (alg or table or map or group or procedure or define) ts begins

  is_past_set : (meaning set).starts (head ts) ≡ false → (meaning stmt).read ts ≡ (meaning (alg or table or map or group or procedure or define)).read ts
  unfolding stmt
  is_past_set no_set = other set (alg or table or map or group or procedure or define) ts no_set

  is_alg : (meaning set).starts (head ts) ≡ false → (meaning alg).starts (head ts) ≡ true → (meaning stmt).read ts ≡ (meaning alg).read ts
  is_alg no_set begins = is_past_set no_set ∙ one alg (table or map or group or procedure or define) ts begins

  is_past_alg : (meaning set).starts (head ts) ≡ false → (meaning alg).starts (head ts) ≡ false → (meaning stmt).read ts ≡ (meaning (table or map or group or procedure or define)).read ts
  is_past_alg no_set no_alg = is_past_set no_set ∙ other alg (table or map or group or procedure or define) ts no_alg

  is_table : (meaning set).starts (head ts) ≡ false → (meaning alg).starts (head ts) ≡ false → (meaning table).starts (head ts) ≡ true → (meaning stmt).read ts ≡ (meaning table).read ts
  is_table no_set no_alg begins = is_past_alg no_set no_alg ∙ one table (map or group or procedure or define) ts begins

  is_past_table : (meaning set).starts (head ts) ≡ false → (meaning alg).starts (head ts) ≡ false → (meaning table).starts (head ts) ≡ false →
      (meaning stmt).read ts ≡ (meaning (map or group or procedure or define)).read ts
  is_past_table no_set no_alg no_table = is_past_alg no_set no_alg ∙ other table (map or group or procedure or define) ts no_table

  is_map : (meaning set).starts (head ts) ≡ false → (meaning alg).starts (head ts) ≡ false → (meaning table).starts (head ts) ≡ false →
      (meaning map).starts (head ts) ≡ true → (meaning stmt).read ts ≡ (meaning map).read ts
  is_map no_set no_alg no_table begins = is_past_table no_set no_alg no_table ∙ one map (group or procedure or define) ts begins

  is_past_map : (meaning set).starts (head ts) ≡ false → (meaning alg).starts (head ts) ≡ false → (meaning table).starts (head ts) ≡ false →
      (meaning map).starts (head ts) ≡ false → (meaning stmt).read ts ≡ (meaning (group or procedure or define)).read ts
  is_past_map no_set no_alg no_table no_map = is_past_table no_set no_alg no_table ∙ other map (group or procedure or define) ts no_map

  is_group : (meaning set).starts (head ts) ≡ false → (meaning alg).starts (head ts) ≡ false → (meaning table).starts (head ts) ≡ false →
      (meaning map).starts (head ts) ≡ false → (meaning group).starts (head ts) ≡ true → (meaning stmt).read ts ≡ (meaning group).read ts
  is_group no_set no_alg no_table no_map begins = is_past_map no_set no_alg no_table no_map ∙ one group (procedure or define) ts begins

  is_past_group : (meaning set).starts (head ts) ≡ false → (meaning alg).starts (head ts) ≡ false → (meaning table).starts (head ts) ≡ false →
      (meaning map).starts (head ts) ≡ false → (meaning group).starts (head ts) ≡ false → (meaning stmt).read ts ≡ (meaning (procedure or define)).read ts
  is_past_group no_set no_alg no_table no_map no_group = is_past_map no_set no_alg no_table no_map ∙ other group (procedure or define) ts no_group

  is_procedure : (meaning set).starts (head ts) ≡ false → (meaning alg).starts (head ts) ≡ false → (meaning table).starts (head ts) ≡ false →
      (meaning map).starts (head ts) ≡ false → (meaning group).starts (head ts) ≡ false → (meaning procedure).starts (head ts) ≡ true → (meaning stmt).read ts ≡ (meaning procedure).read ts
  is_procedure no_set no_alg no_table no_map no_group begins = is_past_group no_set no_alg no_table no_map no_group ∙ one procedure (define) ts begins

  is_past_procedure : (meaning set).starts (head ts) ≡ false → (meaning alg).starts (head ts) ≡ false → (meaning table).starts (head ts) ≡ false →
      (meaning map).starts (head ts) ≡ false → (meaning group).starts (head ts) ≡ false → (meaning procedure).starts (head ts) ≡ false → (meaning stmt).read ts ≡ (meaning define).read ts
  is_past_procedure no_set no_alg no_table no_map no_group no_procedure = is_past_group no_set no_alg no_table no_map no_group ∙ other procedure define ts no_procedure

pub returns-then-is_some : goal.returns-then-is_some
returns-then-is_some c =
    let begins = set_starts c.args.tokens.now c.behind_word.result c.is_some.result c.behind_word.ensures c.is_some.ensures c.if-is_some.true in
    subst (λ reading. Answers reading c.read_set.result) (sym (is_set c.args.tokens.now begins)) c.read_set.ensures

pub returns-then-is_some-2 : goal.returns-then-is_some-2
returns-then-is_some-2 c =
    let no_set = set_starts c.args.tokens.now c.behind_word.result c.is_some.result c.behind_word.ensures c.is_some.ensures c.if-is_some.false in
    let begins = alg_starts c.args.tokens.now c.behind_word-2.result c.is_some-2.result c.behind_word-2.ensures c.is_some-2.ensures c.if-is_some-2.true in
    subst (λ reading. Answers reading c.read_alg.result) (sym (is_alg c.args.tokens.now no_set begins)) c.read_alg.ensures

pub returns-then-is_some-3 : goal.returns-then-is_some-3
returns-then-is_some-3 c =
    let no_set = set_starts c.args.tokens.now c.behind_word.result c.is_some.result c.behind_word.ensures c.is_some.ensures c.if-is_some.false in
    let no_alg = alg_starts c.args.tokens.now c.behind_word-2.result c.is_some-2.result c.behind_word-2.ensures c.is_some-2.ensures c.if-is_some-2.false in
    let begins = table_starts c.args.tokens.now c.behind_word-3.result c.is_some-3.result c.behind_word-3.ensures c.is_some-3.ensures c.if-is_some-3.true in
    subst (λ reading. Answers reading c.read_table.result) (sym (is_table c.args.tokens.now no_set no_alg begins)) c.read_table.ensures

pub returns-then-is_some-4 : goal.returns-then-is_some-4
returns-then-is_some-4 c =
    let no_set = set_starts c.args.tokens.now c.behind_word.result c.is_some.result c.behind_word.ensures c.is_some.ensures c.if-is_some.false in
    let no_alg = alg_starts c.args.tokens.now c.behind_word-2.result c.is_some-2.result c.behind_word-2.ensures c.is_some-2.ensures c.if-is_some-2.false in
    let no_table = table_starts c.args.tokens.now c.behind_word-3.result c.is_some-3.result c.behind_word-3.ensures c.is_some-3.ensures c.if-is_some-3.false in
    let begins = map_starts c.args.tokens.now c.behind_word-4.result c.is_some-4.result c.behind_word-4.ensures c.is_some-4.ensures c.if-is_some-4.true in
    subst (λ reading. Answers reading c.read_map.result) (sym (is_map c.args.tokens.now no_set no_alg no_table begins)) c.read_map.ensures

pub returns-then-is_some-5 : goal.returns-then-is_some-5
returns-then-is_some-5 c =
    let no_set = set_starts c.args.tokens.now c.behind_word.result c.is_some.result c.behind_word.ensures c.is_some.ensures c.if-is_some.false in
    let no_alg = alg_starts c.args.tokens.now c.behind_word-2.result c.is_some-2.result c.behind_word-2.ensures c.is_some-2.ensures c.if-is_some-2.false in
    let no_table = table_starts c.args.tokens.now c.behind_word-3.result c.is_some-3.result c.behind_word-3.ensures c.is_some-3.ensures c.if-is_some-3.false in
    let no_map = map_starts c.args.tokens.now c.behind_word-4.result c.is_some-4.result c.behind_word-4.ensures c.is_some-4.ensures c.if-is_some-4.false in
    let begins = group_starts c.args.tokens.now c.behind_word-5.result c.is_some-5.result c.behind_word-5.ensures c.is_some-5.ensures c.if-is_some-5.true in
    subst (λ reading. Answers reading c.read_group.result) (sym (is_group c.args.tokens.now no_set no_alg no_table no_map begins)) c.read_group.ensures

pub returns-then-is_some-6 : goal.returns-then-is_some-6
returns-then-is_some-6 c =
    let no_set = set_starts c.args.tokens.now c.behind_word.result c.is_some.result c.behind_word.ensures c.is_some.ensures c.if-is_some.false in
    let no_alg = alg_starts c.args.tokens.now c.behind_word-2.result c.is_some-2.result c.behind_word-2.ensures c.is_some-2.ensures c.if-is_some-2.false in
    let no_table = table_starts c.args.tokens.now c.behind_word-3.result c.is_some-3.result c.behind_word-3.ensures c.is_some-3.ensures c.if-is_some-3.false in
    let no_map = map_starts c.args.tokens.now c.behind_word-4.result c.is_some-4.result c.behind_word-4.ensures c.is_some-4.ensures c.if-is_some-4.false in
    let no_group = group_starts c.args.tokens.now c.behind_word-5.result c.is_some-5.result c.behind_word-5.ensures c.is_some-5.ensures c.if-is_some-5.false in
    let begins = procedure_starts c.args.tokens.now c.behind_word-6.result c.is_some-6.result c.behind_word-6.ensures c.is_some-6.ensures c.if-is_some-6.true in
    subst (λ reading. Answers reading c.read_procedure.result) (sym (is_procedure c.args.tokens.now no_set no_alg no_table no_map no_group begins)) c.read_procedure.ensures

pub returns : goal.returns
returns c =
    let no_set = set_starts c.args.tokens.now c.behind_word.result c.is_some.result c.behind_word.ensures c.is_some.ensures c.if-is_some.false in
    let no_alg = alg_starts c.args.tokens.now c.behind_word-2.result c.is_some-2.result c.behind_word-2.ensures c.is_some-2.ensures c.if-is_some-2.false in
    let no_table = table_starts c.args.tokens.now c.behind_word-3.result c.is_some-3.result c.behind_word-3.ensures c.is_some-3.ensures c.if-is_some-3.false in
    let no_map = map_starts c.args.tokens.now c.behind_word-4.result c.is_some-4.result c.behind_word-4.ensures c.is_some-4.ensures c.if-is_some-4.false in
    let no_group = group_starts c.args.tokens.now c.behind_word-5.result c.is_some-5.result c.behind_word-5.ensures c.is_some-5.ensures c.if-is_some-5.false in
    let no_procedure = procedure_starts c.args.tokens.now c.behind_word-6.result c.is_some-6.result c.behind_word-6.ensures c.is_some-6.ensures c.if-is_some-6.false in
    subst (λ reading. Answers reading c.read_define.result) (sym (is_past_procedure c.args.tokens.now no_set no_alg no_table no_map no_group no_procedure)) c.read_define.ensures
