-- The whole text, read again.
use Rattle.std.proofs.Common.{◌≡◌, inl, inr, Bool, true, false, if◌then◌else◌, IfSome, List, [], ◌∷◌, ◌++◌, map, flat_map, codes, refl, sym, ap, ap₂, ◌∙◌}
use Rattle.std.{proofs.lemmas.{Grind.flat_map-append, List.Folds.flat_map-map}, specs.List.All}
use Rattle.npf_lexer.specs.declared.token.TokenKind.{TokenKind}
use Rattle.npf_lexer.specs.declared.token.TokenKind.TheVariants as Kind
use Rattle.npf_syntax.specs.declared.stmt.Stmt.{Stmt}
use Rattle.npf_model.specs.declared.{iface.Iface.Iface, model.Model.Model}
use Rattle.npf_parser_values.specs.Value.{iface, one, ones, one_list, protocols, number_value, address_value, table_value, function, function_value, written, value, listed_values, value_list, values}
use Rattle.npf_parser.specs.Filter.{family, detail, proto_part, addresses, ports, ends, the_ends, filter as the_filter}
use Rattle.npf_parser.specs.Rule.{answer, action, stateful, direction, ends_walk, on, relation, relations, owner, rule, item, head, items}
use Rattle.npf_parser.specs.Map.{kind_details, map_kind, arrow, side, map_ruleset}
use Rattle.npf_parser.specs.Procedure.{log_name, opt, options, call, calls}
use Rattle.npf_parser.specs.Stmt.{define, setting, set, alg, table_type, table, translation, map_rest, map as the_map, group, procedure, stmt, ends_stmt, stmts, file}
use Rattle.npf_show.specs.{Group.{item_line, group_head, group_lines}, Map.map_line, Model.model_pieces}
use Rattle.npf_show.specs.Piece.{Piece, glued, line_end, closing_line, optional_pieces}
use Rattle.npf_show.specs.Piece as Pieces
use Rattle.npf_show.specs.{Procedure.{log_line, normal_options, normalize_line, procedure_head, procedure_lines}, Setting.{alg_line, set_line, shown_settings}}
use Rattle.npf_show.specs.Table.{table_line}
use Rattle.npf_show_tokens.specs.Showable.{IsShowableProcedure}
use Rattle.npf_show_meaning.specs.Regular.{IsRegularChoice, IsRegularDecl, IsOfText}
use Rattle.npf_show_meaning.proofs.{Goes.{Goes, HeadIn, token_goes, make, turn, pick_first, pick_second, it_is, none_is}, Lists.{onto, onto_both, Each}}
use Rattle.npf_show_meaning.proofs.{Values.keyword, Blocks.{feed, bare_goes}, Parts.{Part, OfSet, OfAlg, OfTable, OfMap, OfProcedure, OfGroup, SaysPartOf}}
use Rattle.npf_show_meaning.proofs.{GroupStmt.{IsFineGroup, group_within, group_goes}, SettingStmt.{alg_goes, alg_within, set_goes, set_within}}
use Rattle.npf_show_meaning.proofs.{TableStmt.{table_within, table_stmt_goes}, ProcedureStmt.{procedure_within, procedure_goes}}
use Rattle.npf_show_meaning.proofs.MapStmt.{IsFineMap, map_within, map_goes}

-- the parts of a model, in the order of its text: what it sets, and what it declares
abbrev pub alg_parts : Bool → List Part
alg_parts is_asked = if is_asked then OfAlg ∷ [] else []

abbrev pub setting_parts : Model → List Part
setting_parts model = map OfSet (shown_settings model.settings) ++ alg_parts model.alg_icmp

abbrev pub declared_parts : Model → List Part
declared_parts model = map OfTable model.tables ++ map OfMap model.maps ++ map OfProcedure model.procedures ++ map OfGroup model.groups

abbrev pub parts_of : Model → List Part
parts_of model = setting_parts model ++ declared_parts model

abbrev end_of_text : List TokenKind
end_of_text = Kind.End ∷ []

-- what is gathered of each part
pub settings_flat : {X : Type 0} (f : Part → List X) (model : Model)
    → flat_map f (setting_parts model) ≡ flat_map (λ choice. f (OfSet choice)) (shown_settings model.settings) ++ flat_map f (alg_parts model.alg_icmp)
settings_flat f model =
    flat_map-append f (map OfSet (shown_settings model.settings)) (alg_parts model.alg_icmp)
    ∙ ap (λ x. x ++ flat_map f (alg_parts model.alg_icmp)) (flat_map-map f OfSet (shown_settings model.settings))

pub declared_flat : {X : Type 0} (f : Part → List X) (model : Model) → flat_map f (declared_parts model)
    ≡ flat_map (λ t. f (OfTable t)) model.tables ++ flat_map (λ m. f (OfMap m)) model.maps ++ flat_map (λ p. f (OfProcedure p)) model.procedures ++ flat_map (λ g. f (OfGroup g)) model.groups
declared_flat f model =
    let t = map OfTable model.tables in
    let m = map OfMap model.maps in
    let p = map OfProcedure model.procedures in
    let g = map OfGroup model.groups in
    flat_map-append f (t ++ m ++ p) g
    ∙ ap₂ (λ x y. x ++ y)
    (flat_map-append f (t ++ m) p ∙ ap₂ (λ x y. x ++ y) (flat_map-append f t m ∙ ap₂ (λ x y. x ++ y) (flat_map-map f OfTable model.tables) (flat_map-map f OfMap model.maps))
    (flat_map-map f OfProcedure model.procedures))
    (flat_map-map f OfGroup model.groups)

module _ (ifaces : List Iface) (model : Model) where
  abbrev row : Part → List Piece
  row (OfSet choice) = set_line choice
  row OfAlg = alg_line true
  row (OfTable t) = table_line t
  row (OfMap m) = map_line model m
  row (OfProcedure p) = procedure_lines p
  row (OfGroup g) = group_lines model g

  abbrev within : Part → List Piece
  within (OfSet choice) = set_within ifaces model choice
  within OfAlg = alg_within ifaces model
  within (OfTable t) = table_within ifaces model t
  within (OfMap m) = map_within ifaces model m
  within (OfProcedure p) = procedure_within ifaces model p
  within (OfGroup g) = group_within ifaces model g

  closed_row : (lines : List Piece) (ks : List TokenKind) → onto (lines ++ closing_line) ks ≡ onto (lines ++ glued (Pieces.Sign (codes "}"))) (feed ∷ ks)
  closed_row lines ks = onto_both lines closing_line ks ∙ sym (onto_both lines (glued (Pieces.Sign (codes "}"))) (feed ∷ ks))

  row_is : (part : Part) (ks : List TokenKind) → onto (row part) ks ≡ onto (within part) (feed ∷ ks)
  row_is (OfSet choice) ks = onto_both (set_within ifaces model choice) line_end ks
  row_is OfAlg ks = onto_both (alg_within ifaces model) line_end ks
  row_is (OfTable t) ks = onto_both (table_within ifaces model t) line_end ks
  row_is (OfMap m) ks = onto_both (map_within ifaces model m) line_end ks
  row_is (OfProcedure p) ks = closed_row (procedure_head p ++ optional_pieces log_line p.log ++ normalize_line (normal_options p)) ks
  row_is (OfGroup g) ks = closed_row (group_head g ++ flat_map (item_line model) g.items) ks

  -- what a part needs so that it is read again
  abbrev pub IsFinePart : Part → Type 0
  IsFinePart (OfSet choice) = IsRegularChoice choice
  IsFinePart OfAlg = Unit {0}
  IsFinePart (OfTable t) = IsRegularDecl t
  IsFinePart (OfMap m) = IsFineMap ifaces model m
  IsFinePart (OfProcedure p) = IsShowableProcedure p × IfSome p.log IsOfText
  IsFinePart (OfGroup g) = IsFineGroup ifaces model g

  abbrev pub IsPartOf : Stmt → Part → Type 0
  IsPartOf tree part = SaysPartOf ifaces model part tree

  part_goes : (part : Part) → IsFinePart part → (ks : List TokenKind) → Goes stmt (λ tree. IsPartOf tree part) (onto (within part) (feed ∷ ks)) (feed ∷ ks)
  unfolding stmt set alg table the_map group procedure
  part_goes (OfSet choice) is ks = pick_first (it_is (λ s. refl)) (set_goes ifaces model choice is ks)
  part_goes OfAlg is ks = pick_second (it_is (λ s. refl)) (pick_first (it_is (λ s. refl)) (alg_goes ifaces model ks))
  part_goes (OfTable t) is ks = pick_second (it_is (λ s. refl)) (pick_second (it_is (λ s. refl)) (pick_first (it_is (λ s. refl)) (table_stmt_goes ifaces model t is ks)))
  part_goes (OfMap m) is ks =
      pick_second (it_is (λ s. refl)) (pick_second (it_is (λ s. refl)) (pick_second (it_is (λ s. refl)) (pick_first (it_is (λ s. refl)) (map_goes ifaces model m is ks))))
  part_goes (OfGroup g) is ks =
      pick_second (it_is (λ s. refl))
      (pick_second (it_is (λ s. refl)) (pick_second (it_is (λ s. refl)) (pick_second (it_is (λ s. refl)) (pick_first (it_is (λ s. refl)) (group_goes ifaces model g is (feed ∷ ks))))))
  part_goes (OfProcedure p) is ks =
      pick_second (it_is (λ s. refl)) (pick_second (it_is (λ s. refl))
      (pick_second (it_is (λ s. refl)) (pick_second (it_is (λ s. refl)) (pick_second (it_is (λ s. refl)) (pick_first (it_is (λ s. refl)) (procedure_goes ifaces model p is.0 is.1 (feed ∷ ks)))))))

  abbrev first_words : List TokenKind
  first_words = keyword (codes "set") ∷ keyword (codes "alg") ∷ keyword (codes "table") ∷ keyword (codes "map") ∷ keyword (codes "group") ∷ keyword (codes "procedure") ∷ []

  part_head : (part : Part) (ks : List TokenKind) → HeadIn first_words (onto (within part) ks)
  part_head (OfSet _) ks = inl (_, refl)
  part_head OfAlg ks = inr (inl (_, refl))
  part_head (OfTable t) ks = inr (inr (inl (_, refl)))
  part_head (OfMap m) ks = inr (inr (inr (inl (_, refl))))
  part_head (OfGroup g) ks = inr (inr (inr (inr (inl (_, refl)))))
  part_head (OfProcedure p) ks = inr (inr (inr (inr (inr (inl (_, refl))))))

  stmts_go : (parts : List Part) → All IsFinePart parts → Goes stmts (λ trees. Each IsPartOf trees parts) (onto (flat_map row parts) end_of_text) end_of_text
  unfolding stmts stmt set setting alg table table_type the_map map_rest map_ruleset translation map_kind kind_details side arrow group head items item procedure calls call
      options opt log_name define rule action answer stateful direction ends_walk on relation relations owner the_filter family proto_part detail the_ends ends ports addresses protocols one_list ones
      one values value_list listed_values value written number_value address_value table_value function function_value iface
  stmts_go parts all =
      bare_goes stmt ends_stmt IsPartOf IsFinePart within row row_is (λ part is ks. part_goes part is ks)
      (λ part is ks. none_is first_words (λ s. refl) (part_head part (feed ∷ ks)))
      refl refl (λ ks. it_is (λ s. refl)) (λ ks. it_is (λ s. refl)) end_of_text (it_is (λ s. refl)) (it_is (λ s. refl)) parts all

  pub file_goes : (parts : List Part) → All IsFinePart parts → Goes file (λ tree. Each IsPartOf tree.stmts parts) (onto (flat_map row parts) end_of_text) []
  unfolding file
  file_goes parts all =
      make {P = λ a. Each IsPartOf a.0 parts × Unit {0}} (λ ts a q. q.0)
      (turn (stmts_go parts all) (pick_second (it_is (λ s. refl)) (token_goes _ _ (λ a. Unit {0}) Kind.End [] (λ s. s) (λ s. refl) (λ s. tt))))

  alg_row : (is_asked : Bool) → flat_map row (alg_parts is_asked) ≡ alg_line is_asked
  alg_row true = refl
  alg_row false = refl

  pub model_rows : model_pieces model ≡ flat_map row (parts_of model)
  model_rows =
      sym (flat_map-append row (setting_parts model) (declared_parts model)
      ∙ ap₂ (λ x y. x ++ y) (settings_flat row model ∙ ap (λ x. flat_map set_line (shown_settings model.settings) ++ x) (alg_row model.alg_icmp)) (declared_flat row model))
