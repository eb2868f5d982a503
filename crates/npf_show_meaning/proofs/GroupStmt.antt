-- The statement of a group.
use Rattle.std.proofs.Common.{◌≡◌, inl, Bool, true, false, if◌then◌else◌, IfSome, option_map, List, [], ◌∷◌, ◌++◌, flat_map, codes, refl, sym, ap, subst, ◌∙◌}
use Rattle.std.specs.List.{All}
use Rattle.npf_types.specs.declared.span.Span.{Span}
use Rattle.npf_lexer.specs.declared.token.Sign.TheVariants as Signs
use Rattle.npf_lexer.specs.declared.token.TokenKind.{TokenKind}
use Rattle.npf_lexer.specs.declared.token.TokenKind.TheVariants as Kind
use Rattle.npf_syntax.specs.declared.{group.{GroupHead.GroupHead, ItemTree.ItemTree as WrittenItem}, stmt.Stmt.Stmt}
use Rattle.npf_model.specs.declared.{group.Group.Group, iface.Iface.Iface, model.Model.Model}
use Rattle.npf_parser_values.specs.Token.{span_of}
use Rattle.npf_parser.specs.{Rule.{head, layer}, Stmt.group}
use Rattle.npf_expand.specs.{Group.group_of_tree, Rule.dir_of}
use Rattle.npf_show.specs.{Bound.{dir_pieces, on_pieces}, Group.{item_line, head_pieces, group_head}}
use Rattle.npf_show.specs.Piece.{Piece, glued, spaced, line_end, closing_line, optional_pieces}
use Rattle.npf_show.specs.Piece as Pieces
use Rattle.npf_show_meaning.specs.Regular.{IsRegularOn, IsPlainHead}
use Rattle.npf_show_meaning.proofs.{Goes.{Goes, Anything, make, turn, pick_first, pick_second, said, signed, before, absent, it_is}, Lists.{onto, onto_both, Each}}
use Rattle.npf_show_meaning.proofs.{Says.nameless, Values.keyword, ValueLists.close, Blocks.feed, RuleOf.{IsText, string_goes, OnBound, head_bound_goes}}
use Rattle.npf_show_meaning.proofs.{GroupOf.{IsFineEntry, IsItemOf, items_go, items_clean, items_counted, items_given}, Parts.{OfGroup, SaysPartOf}}
use Rattle.npf_expand_values.specs.Source.{declared_of}

module _ (ifaces : List Iface) (model : Model) where
  -- what a group needs so that it is read again
  pub record IsFineGroup (g : Group) : Type 0 where
    pub head : g.default ≡ true → IsPlainHead g
    pub on : IfSome g.on (IsRegularOn ifaces model)
    pub items : All (IsFineEntry ifaces model) g.items

  abbrev IsHeadOf : Bool → Group → GroupHead → Type 0
  IsHeadOf true g (GroupHead.Default layer span) = Unit {0}
  IsHeadOf false g (GroupHead.Named name dir layer bound span) = IsText g.name name × (option_map dir_of dir ≡ g.dir) × OnBound ifaces model g.on bound
  IsHeadOf _ g _ = ⊥

  head_goes : (d : Bool) (g : Group) → IsFineGroup g → (ks : List TokenKind) → Goes head (IsHeadOf d g) (onto (head_pieces d g) (Kind.Sign Signs.OpenBrace ∷ ks)) (Kind.Sign Signs.OpenBrace ∷ ks)
  unfolding head
  head_goes true g is ks = pick_first (it_is (λ s. refl)) (make {P = Anything} (λ ts a q. tt) (said (absent {g = layer} {P = Anything} (it_is (λ s. refl)) tt)))
  head_goes false g is ks =
      let to = Kind.Sign Signs.OpenBrace ∷ ks in
      let dir = optional_pieces dir_pieces g.dir in
      let bound = optional_pieces on_pieces g.on in
      subst (λ from. Goes head (IsHeadOf false g) (Kind.Str g.name ∷ from) to) (sym (onto_both dir bound to))
      (pick_second (it_is (λ s. refl))
      (make {P = λ a. IsText g.name a.0 × ((option_map dir_of a.1.0 ≡ g.dir) × (Anything a.1.1.0 × OnBound ifaces model g.on a.1.1.1))} (λ ts a q. (q.0, q.1.0, q.1.1.1))
      (turn (string_goes g.name (onto dir (onto bound to))) (head_bound_goes ifaces model g.dir g.on is.on to (inl (ks, refl))))))

  says_group : (d : Bool) (g : Group) → g.default ≡ d → IsFineGroup g → (h : GroupHead) (trees : List WrittenItem) (span : Span) → IsHeadOf d g h → Each (IsItemOf ifaces model) trees g.items
      → SaysPartOf ifaces model (OfGroup g) (Stmt.Group h trees span)
  says_group true g is fine (GroupHead.Default layer s) trees span head each =
      let plain = fine.head is in
      let given : group_of_tree ifaces (nameless ifaces) (declared_of model) (GroupHead.Default layer s) trees ≡ g =
      rw (plain.name, plain.dir, plain.on, is, items_given ifaces model trees g.items each) refl in
      record {
        plain = λ older. refl;
        faults = λ counted few. items_clean ifaces model trees g.items each counted few;
        count = items_counted ifaces model trees g.items each;
        named = sym (ap (λ b. if b then [] else g ∷ []) is);
        default = ap (λ g. g ∷ []) given ∙ sym (ap (λ b. if b then g ∷ [] else []) is);
        maps = refl;
        tables = tt;
        procedures = refl;
        table_names = refl;
        procedure_names = refl;
        settings = refl;
        algs = refl;
      }
  says_group false g is fine (GroupHead.Named name dir layer bound s) trees span head each =
      let given : group_of_tree ifaces (nameless ifaces) (declared_of model) (GroupHead.Named name dir layer bound s) trees ≡ g =
      rw (head.0, head.1, head.2.1, is, items_given ifaces model trees g.items each) refl in
      record {
        plain = λ older. refl;
        faults = λ counted few. rw (head.2.0, items_clean ifaces model trees g.items each counted few) refl;
        count = items_counted ifaces model trees g.items each;
        named = ap (λ g. g ∷ []) given ∙ sym (ap (λ b. if b then [] else g ∷ []) is);
        default = sym (ap (λ b. if b then g ∷ [] else []) is);
        maps = refl;
        tables = tt;
        procedures = refl;
        table_names = refl;
        procedure_names = refl;
        settings = refl;
        algs = refl;
      }
  says_group true g is fine (GroupHead.Named name dir layer bound s) trees span head each = absurd head
  says_group false g is fine (GroupHead.Default layer s) trees span head each = absurd head

  -- the lines of a group but for the end of the last
  abbrev pub group_within : Group → List Piece
  group_within g = group_head g ++ flat_map (item_line model) g.items ++ glued (Pieces.Sign (codes "}"))

  group_kinds : (g : Group) (ks : List TokenKind) → onto (group_within g) ks
      ≡ keyword (codes "group") ∷ onto (head_pieces g.default g) (Kind.Sign Signs.OpenBrace ∷ feed ∷ onto (flat_map (item_line model) g.items) (close ∷ ks))
  group_kinds g ks =
      let rows = flat_map (item_line model) g.items in
      let brace = glued (Pieces.Sign (codes "}")) in
      let h = head_pieces g.default g in
      let opening = spaced (Pieces.Sign (codes "{")) in
      onto_both (group_head g ++ rows) brace ks ∙ onto_both (group_head g) rows (close ∷ ks)
      ∙ onto_both (glued (Pieces.Word (codes "group")) ++ h ++ opening) line_end (onto rows (close ∷ ks))
      ∙ onto_both (glued (Pieces.Word (codes "group")) ++ h) opening (feed ∷ onto rows (close ∷ ks))

  pub group_goes : (g : Group) → IsFineGroup g → (ks : List TokenKind) → Goes group (SaysPartOf ifaces model (OfGroup g)) (onto (group_within g) ks) ks
  unfolding group
  group_goes g is ks =
      let rows = onto (flat_map (item_line model) g.items) (close ∷ ks) in
      subst (λ from. Goes group (SaysPartOf ifaces model (OfGroup g)) from ks) (sym (group_kinds g ks))
      (make {P = λ a. IsHeadOf g.default g a.0 × Each (IsItemOf ifaces model) a.1 g.items} (λ ts a q. says_group g.default g refl is a.0 a.1 (span_of ts) q.0 q.1)
      (said (turn (head_goes g.default g is (feed ∷ rows)) (signed (before (items_go ifaces model g.items is.items ks))))))
