-- The canonical text of a showable model has the tokens of its pieces.
use Rattle.std.proofs.Common.{zero, suc, ◌≡◌, ℕ, ◌<◌, ◌^◌, ◌||◌, Bool, true, false, if◌then◌else◌, Option, Some, None, List, [], ◌∷◌, ◌++◌, codes, refl, sym, subst, arith, append-nil}
use Rattle.std.{proofs.lemmas.{Grind.flat_map-append, List.Elements.{All-append, All-nil}}, specs.{Prelude.{IfSome, slice_get, length}, List.{slice_index_or, All, flat_map}}}
use Rattle.npf_types.specs.declared.decision.{Decision.{Decision, TheVariants.{Pass, Block}}, Return.{Return, TheVariants.{Nothing, Any, Rst, Icmp}}}
use Rattle.npf_types.specs.{declared.{direction.Dir.{Dir, TheVariants.{In, Out}}, name.Name.Name}, Name.name_bytes}
use Rattle.npf_lexer.specs.declared.token.Sign.TheVariants as Signs
use Rattle.npf_model.specs.declared.{ends.{AddrItem.{AddrItem, TheVariants.{Net, InTable}}, Ends.Ends}, group.{Group.Group, Item.Item}}
use Rattle.npf_model.specs.declared.{group.Item.TheVariants.{One, Dynamic}, map.{Algo.Algo, Arrow.Arrow, Map.Map, Side.Side}, model.Model.Model}
use Rattle.npf_model.specs.declared.map.Algo.TheVariants as Algos
use Rattle.npf_model.specs.declared.map.Arrow.TheVariants as Arrows
use Rattle.npf_model.specs.declared.{procedure.Procedure.Procedure, rule.{OnIf.OnIf, Rule.Rule, StateOpt.StateOpt}}
use Rattle.npf_model.specs.declared.{rule.StateOpt.TheVariants.{Not, OnInterface, Everywhere}, settings.{Choice.Choice, Parameter.Parameter, Settings.Settings}}
use Rattle.npf_timeouts.specs.declared.timeouts.Timeout.TheVariants.{TcpNew}
use Rattle.npf_model.specs.declared.settings.{PortBound.TheVariants.Least, Switch.TheVariants.StrictRst}
use Rattle.npf_model.specs.declared.{table.Kind.{Kind, TheVariants.{Ipset, Lpm, Const}}}
use Rattle.npf_model.specs.{declared.table.TableDecl.TableDecl, Settings.{choice_in, default_settings, parameter_name, parameter_of, parameters}}
use Rattle.npf_show.specs.Bound.{dir_pieces, on_pieces}
use Rattle.npf_show.specs.Ends.{addresses_pieces, angled, prefix_pieces, item_pieces, name_of_table, range_pieces, ports_pieces, ends_pieces, end_pieces, is_said, where_pieces}
use Rattle.npf_show.specs.Filter.{family_pieces, protocol_pieces, protocols_pieces, flags_pieces, code_pieces, icmp_pieces, filter_pieces}
use Rattle.npf_show.specs.Group.{within_item, item_line, head_pieces, group_head, group_lines}
use Rattle.npf_show.specs.Map.{static_pieces, algo_pieces, one_proto_pieces, side_port_pieces, side_pieces, arrow_pieces, pass_pieces, map_line}
use Rattle.npf_show.specs.Model.{declared_lines, model_pieces}
use Rattle.npf_show.specs.Piece.{Piece, spelled, glued, spaced, line_end, indent, closing_line, optional_pieces, comma_list, list_pieces}
use Rattle.npf_show.specs.Piece as Pieces
use Rattle.npf_show.specs.Procedure.{log_line, normal_option, least_option, greatest_option, fragment_option, normal_options, normalize_line, procedure_head, procedure_lines}
use Rattle.npf_show.specs.Rule.{return_pieces, decision_pieces, state_pieces, final_pieces, apply_pieces, rule_pieces, name_of_procedure}
use Rattle.npf_show.specs.{Setting.{alg_line, changed_setting, has_same_value, set_line, shown_settings, switch_text, value_piece}, Table.{kind_pieces, file_pieces, table_line}}
use Rattle.npf_show_tokens.specs.Showable.{IsPlain, FitsByte, IsShowableRange, IsShowableItem, AreShowableEnds, AreShowableFlags, IsShowableFilter, IsShowableRule, IsShowableEntry}
use Rattle.npf_show_tokens.specs.Showable.{IsShowableGroup, IsShowableSide, IsShowableMap, IsShowableProcedure, IsShowableTable, IsShowableChoice, IsShowable, ShowsTokens}
use Rattle.npf_show_tokens.{specs.Tokens.{AreTold, is_run_word}, proofs.Told.tells_tokens_lem}
use Rattle.npf_show_tokens.proofs.Chunks.{Follows, nothing_follows, both_follow, option_follows, word_follows, quoted_follows, number_follows, sign_follows, list_follows, comma_list_follows}
use Rattle.npf_show_tokens.proofs.Lines.{Opens, Lines, prefix_follows, range_follows, angled_follows, flags_follow, name_is_plain, opens_word, opens_colon}
use Rattle.npf_show_tokens.proofs.Lines.{no_lines, opens_more, opens_indented, opens_line, closes, both_lines, each_lines}

-- a word and what follows it
word_then : (text : List ℕ) (more : List Piece) → is_run_word text ≡ true → Follows more → Follows (spaced (Pieces.Word text) ++ more)
word_then text more is f = both_follow (spaced (Pieces.Word text)) more (word_follows text is) f

byte_follows : (n : ℕ) → FitsByte n → Follows (spaced (Pieces.Number n))
byte_follows n small = number_follows n (omega (arith, small))

any_follows : {A : Type 0} (pieces : A → List Piece) → ((a : A) → Follows (pieces a)) → (o : Option A) → Follows (optional_pieces pieces o)
any_follows pieces step None = nothing_follows
any_follows pieces step (Some a) = step a

dir_follows : (dir : Dir) → Follows (dir_pieces dir)
dir_follows In = word_follows (codes "in") refl
dir_follows Out = word_follows (codes "out") refl

on_follows : (on : OnIf) → Follows (on_pieces on)
on_follows on = word_then (codes "on") (spaced (Pieces.Quoted (name_bytes on.name))) refl (quoted_follows (name_bytes on.name) (name_is_plain on.name))

item_follows : (model : Model) (item : AddrItem) → IsShowableItem model item → Follows (item_pieces model item)
item_follows model (Net prefix) is = prefix_follows prefix is
item_follows model (InTable number) is = angled_follows (name_of_table (slice_get model.tables number)) is

ports_follow : (ports : List (ℕ × ℕ)) → All IsShowableRange ports → Follows (ports_pieces ports)
ports_follow ports are = word_then (codes "port") (list_pieces range_pieces ports) refl (list_follows IsShowableRange range_pieces range_follows ports are)

items_follow : (model : Model) (items : List AddrItem) → All (IsShowableItem model) items → Follows (list_pieces (item_pieces model) items)
items_follow model = list_follows (IsShowableItem model) (item_pieces model) (item_follows model)

addresses_follow : (model : Model) (excluded : Bool) (items : List AddrItem) → All (IsShowableItem model) items → Follows (addresses_pieces model excluded items)
addresses_follow model true items are =
    both_follow (spaced (Pieces.Sign (codes "!"))) (list_pieces (item_pieces model) items) (sign_follows Signs.Exclamation) (items_follow model items are)
addresses_follow model false items are = items_follow model items are

ends_follow : (model : Model) (ends : Ends) → AreShowableEnds model ends → Follows (ends_pieces model ends)
ends_follow model ends are =
    both_follow (optional_pieces (addresses_pieces model ends.excluded) ends.addrs) (optional_pieces ports_pieces ends.ports)
    (option_follows (All (IsShowableItem model)) (addresses_pieces model ends.excluded) (addresses_follow model ends.excluded) ends.addrs are.addrs)
    (option_follows (All IsShowableRange) ports_pieces ports_follow ends.ports are.ports)

if_follows : (b : Bool) (x y : List Piece) → Follows x → Follows y → Follows (if b then x else y)
if_follows true x y f g = f
if_follows false x y f g = g

end_follows : (model : Model) (text : List ℕ) (ends : Ends) → is_run_word text ≡ true → AreShowableEnds model ends → Follows (end_pieces model text ends)
end_follows model text ends is are =
    if_follows (is_said ends) (spaced (Pieces.Word text) ++ ends_pieces model ends) [] (word_then text (ends_pieces model ends) is (ends_follow model ends are)) nothing_follows

where_follows : (model : Model) (from to : Ends) → AreShowableEnds model from → AreShowableEnds model to → Follows (where_pieces model from to)
where_follows model from to f t =
    if_follows (is_said from || is_said to) (end_pieces model (codes "from") from ++ end_pieces model (codes "to") to) (spaced (Pieces.Word (codes "all")))
    (both_follow (end_pieces model (codes "from") from) (end_pieces model (codes "to") to) (end_follows model (codes "from") from refl f) (end_follows model (codes "to") to refl t))
    (word_follows (codes "all") refl)

family_follows : (v6 : Bool) → Follows (family_pieces v6)
family_follows false = word_then (codes "family") (spaced (Pieces.Word (codes "inet4"))) refl (word_follows (codes "inet4") refl)
family_follows true = word_then (codes "family") (spaced (Pieces.Word (codes "inet6"))) refl (word_follows (codes "inet6") refl)

protocols_follow : (protocols : List ℕ) → All FitsByte protocols → Follows (protocols_pieces protocols)
protocols_follow [] are = nothing_follows
protocols_follow (first ∷ others) are =
    word_then (codes "proto") (list_pieces protocol_pieces (first ∷ others)) refl (list_follows FitsByte protocol_pieces byte_follows (first ∷ others) are)

code_follows : (code : ℕ) → FitsByte code → Follows (code_pieces code)
code_follows code is = word_then (codes "code") (spaced (Pieces.Number code)) refl (byte_follows code is)

icmp_follows : (icmp : ℕ × Option ℕ) → FitsByte icmp.0 × IfSome icmp.1 FitsByte → Follows (icmp_pieces icmp)
icmp_follows icmp is =
    both_follow (spaced (Pieces.Word (codes "icmp-type")) ++ spaced (Pieces.Number icmp.0)) (optional_pieces code_pieces icmp.1)
    (word_then (codes "icmp-type") (spaced (Pieces.Number icmp.0)) refl (byte_follows icmp.0 is.0))
    (option_follows FitsByte code_pieces code_follows icmp.1 is.1)

filter_follows : (model : Model) (rule : Rule) → IsShowableFilter model rule → Follows (filter_pieces model rule)
filter_follows model rule is =
    let family = optional_pieces family_pieces rule.v6 in
    let protos = protocols_pieces rule.protos in
    let flags = optional_pieces flags_pieces rule.flags in
    let icmp = optional_pieces icmp_pieces rule.icmp in
    let ends = where_pieces model rule.from rule.to in
    both_follow (family ++ protos ++ flags ++ icmp) ends
    (both_follow (family ++ protos ++ flags) icmp
    (both_follow (family ++ protos) flags
    (both_follow family protos (any_follows family_pieces family_follows rule.v6) (protocols_follow rule.protos is.protos))
    (option_follows AreShowableFlags flags_pieces flags_follow rule.flags is.flags))
    (option_follows (λ i. FitsByte i.0 × IfSome i.1 FitsByte) icmp_pieces icmp_follows rule.icmp is.icmp))
    (where_follows model rule.from rule.to is.from is.to)

return_follows : (answer : Return) → Follows (return_pieces answer)
return_follows Nothing = nothing_follows
return_follows Any = word_follows (codes "return") refl
return_follows Rst = word_follows (codes "return-rst") refl
return_follows Icmp = word_follows (codes "return-icmp") refl

decision_opens : (decision : Decision) → Opens (decision_pieces decision)
decision_opens Pass = opens_word (codes "pass") refl
decision_opens (Block answer) = opens_more (glued (Pieces.Word (codes "block"))) (return_pieces answer) (opens_word (codes "block") refl) (return_follows answer)

state_follows : (state : StateOpt) → Follows (state_pieces state)
state_follows Not = nothing_follows
state_follows OnInterface = word_follows (codes "stateful") refl
state_follows Everywhere = word_follows (codes "stateful-all") refl

final_follows : (last : Bool) → Follows (final_pieces last)
final_follows false = nothing_follows
final_follows true = word_follows (codes "final") refl

apply_follows : (model : Model) (number : ℕ) → IsPlain (name_of_procedure (slice_get model.procedures number)) → Follows (apply_pieces model number)
apply_follows model number is =
    let name = name_of_procedure (slice_get model.procedures number) in
    word_then (codes "apply") (spaced (Pieces.Quoted name)) refl (quoted_follows name is)

pub rule_opens : (model : Model) (rule : Rule) → IsShowableRule model rule → Opens (rule_pieces model rule)
rule_opens model rule is =
    let decision = decision_pieces rule.decision in
    let state = state_pieces rule.state in
    let dir = optional_pieces dir_pieces rule.dir in
    let last = final_pieces rule.last in
    let on = optional_pieces on_pieces rule.on in
    let filter = filter_pieces model rule in
    let apply = optional_pieces (apply_pieces model) rule.procedure in
    opens_more (decision ++ state ++ dir ++ last ++ on ++ filter) apply
    (opens_more (decision ++ state ++ dir ++ last ++ on) filter
    (opens_more (decision ++ state ++ dir ++ last) on
    (opens_more (decision ++ state ++ dir) last
    (opens_more (decision ++ state) dir
    (opens_more decision state (decision_opens rule.decision) (state_follows rule.state))
    (any_follows dir_pieces dir_follows rule.dir))
    (final_follows rule.last))
    (any_follows on_pieces on_follows rule.on))
    (filter_follows model rule is.filter))
    (option_follows (λ number. IsPlain (name_of_procedure (slice_get model.procedures number))) (apply_pieces model) (apply_follows model) rule.procedure is.procedure)

within_opens : (model : Model) (item : Item) → IsShowableEntry model item → Opens (within_item model item)
within_opens model (One rule) is = rule_opens model rule is
within_opens model (Dynamic name dir on next_id rules) is =
    let word = glued (Pieces.Word (codes "ruleset")) in
    let quoted = spaced (Pieces.Quoted (name_bytes name)) in
    opens_more (word ++ quoted ++ optional_pieces dir_pieces dir) (optional_pieces on_pieces on)
    (opens_more (word ++ quoted) (optional_pieces dir_pieces dir)
    (opens_more word quoted (opens_word (codes "ruleset") refl) (quoted_follows (name_bytes name) (name_is_plain name)))
    (any_follows dir_pieces dir_follows dir)) (any_follows on_pieces on_follows on)

item_told : (model : Model) (item : Item) → IsShowableEntry model item → Lines (item_line model item)
item_told model item is = opens_line (indent ++ within_item model item) (opens_indented (within_item model item) (within_opens model item is))

head_follows : (default : Bool) (group : Group) → IsPlain group.name → Follows (head_pieces default group)
head_follows true group is = word_follows (codes "default") refl
head_follows false group is =
    let quoted = spaced (Pieces.Quoted group.name) in
    both_follow (quoted ++ optional_pieces dir_pieces group.dir) (optional_pieces on_pieces group.on)
    (both_follow quoted (optional_pieces dir_pieces group.dir) (quoted_follows group.name is) (any_follows dir_pieces dir_follows group.dir))
    (any_follows on_pieces on_follows group.on)

pub group_told : (model : Model) (group : Group) → IsShowableGroup model group → Lines (group_lines model group)
group_told model group is =
    let word = glued (Pieces.Word (codes "group")) in
    let head = head_pieces group.default group in
    let brace = spaced (Pieces.Sign (codes "{")) in
    let items = flat_map (item_line model) group.items in
    both_lines (group_head group ++ items) closing_line
    (both_lines (group_head group) items
    (opens_line (word ++ head ++ brace)
    (opens_more (word ++ head) brace
    (opens_more word head (opens_word (codes "group") refl) (head_follows group.default group is.name)) (sign_follows Signs.OpenBrace)))
    (each_lines (IsShowableEntry model) (item_line model) (item_told model) group.items is.items))
    closes

static_follows : (algo : List ℕ) → is_run_word algo ≡ true → Follows (static_pieces algo)
static_follows algo is =
    both_follow (spaced (Pieces.Word (codes "static")) ++ spaced (Pieces.Word (codes "algo"))) (spaced (Pieces.Word algo))
    (word_then (codes "static") (spaced (Pieces.Word (codes "algo"))) refl (word_follows (codes "algo") refl)) (word_follows algo is)

algo_follows : (algo : Algo) → Follows (algo_pieces algo)
algo_follows Algos.Dynamic = word_follows (codes "dynamic") refl
algo_follows Algos.Netmap = static_follows (codes "netmap") refl
algo_follows Algos.Npt66 = static_follows (codes "npt66") refl

arrow_follows : (arrow : Arrow) → Follows (arrow_pieces arrow)
arrow_follows Arrows.ToOutside = sign_follows Signs.Right
arrow_follows Arrows.ToInside = sign_follows Signs.Left
arrow_follows Arrows.Both = sign_follows Signs.Both

proto_follows : (protocol : ℕ) → FitsByte protocol → Follows (one_proto_pieces protocol)
proto_follows protocol is = word_then (codes "proto") (spaced (Pieces.Number protocol)) refl (byte_follows protocol is)

side_port_follows : (range : ℕ × ℕ) → IsShowableRange range → Follows (side_port_pieces range)
side_port_follows range is = word_then (codes "port") (range_pieces range) refl (range_follows range is)

side_follows : (side : Side) → IsShowableSide side → Follows (side_pieces side)
side_follows side is =
    both_follow (prefix_pieces side.net) (optional_pieces side_port_pieces side.ports) (prefix_follows side.net is.net)
    (option_follows IsShowableRange side_port_pieces side_port_follows side.ports is.ports)

pass_follows : (model : Model) (filter : Rule) → IsShowableFilter model filter → Follows (pass_pieces model filter)
pass_follows model filter is = word_then (codes "pass") (filter_pieces model filter) refl (filter_follows model filter is)

pub map_told : (model : Model) (m : Map) → IsShowableMap model m → Lines (map_line model m)
map_told model m is =
    let word = glued (Pieces.Word (codes "map")) in
    let on = spaced (Pieces.Quoted (name_bytes m.on.name)) in
    let algo = algo_pieces m.algo in
    let proto = optional_pieces one_proto_pieces m.proto in
    let inside = side_pieces m.inside in
    let arrow = arrow_pieces m.arrow in
    let outside = side_pieces m.outside in
    let pass = optional_pieces (pass_pieces model) m.filter in
    opens_line (word ++ on ++ algo ++ proto ++ inside ++ arrow ++ outside ++ pass)
    (opens_more (word ++ on ++ algo ++ proto ++ inside ++ arrow ++ outside) pass
    (opens_more (word ++ on ++ algo ++ proto ++ inside ++ arrow) outside
    (opens_more (word ++ on ++ algo ++ proto ++ inside) arrow
    (opens_more (word ++ on ++ algo ++ proto) inside
    (opens_more (word ++ on ++ algo) proto
    (opens_more (word ++ on) algo
    (opens_more word on (opens_word (codes "map") refl) (quoted_follows (name_bytes m.on.name) (name_is_plain m.on.name)))
    (algo_follows m.algo))
    (option_follows FitsByte one_proto_pieces proto_follows m.proto is.proto))
    (side_follows m.inside is.inside))
    (arrow_follows m.arrow))
    (side_follows m.outside is.outside))
    (option_follows (IsShowableFilter model) (pass_pieces model) (pass_follows model) m.filter is.filter))

kind_follows : (kind : Kind) → Follows (kind_pieces kind)
kind_follows Ipset = word_follows (codes "ipset") refl
kind_follows Lpm = word_follows (codes "lpm") refl
kind_follows Const = word_follows (codes "const") refl

file_follows : (file : List ℕ) → IsPlain file → Follows (file_pieces file)
file_follows file is = word_then (codes "file") (spaced (Pieces.Quoted file)) refl (quoted_follows file is)

pub table_told : (table : TableDecl) → IsShowableTable table → Lines (table_line table)
table_told table is =
    let word = glued (Pieces.Word (codes "table")) in
    let name = angled (name_bytes table.name) in
    let type = spaced (Pieces.Word (codes "type")) in
    let kind = kind_pieces table.kind in
    let file = optional_pieces file_pieces table.file in
    opens_line (word ++ name ++ type ++ kind ++ file)
    (opens_more (word ++ name ++ type ++ kind) file
    (opens_more (word ++ name ++ type) kind
    (opens_more (word ++ name) type
    (opens_more word name (opens_word (codes "table") refl) (angled_follows (name_bytes table.name) is.name))
    (word_follows (codes "type") refl))
    (kind_follows table.kind))
    (option_follows IsPlain file_pieces file_follows table.file is.file))

-- the options of a normalisation
all_one : {A : Type 0} (P : A → Type 0) (xs : List A) → length xs ≡ 1 → ((d : A) → P (slice_index_or xs 0 d)) → All P xs
all_one P xs one is zero d within = is d
all_one P xs one is (suc k) d within = absurd (omega (arith, one, within))

least_follows : (o : Option ℕ) → IfSome o FitsByte → All (λ option. Follows (normal_option option)) (least_option o)
least_follows None is = All-nil (λ option. Follows (normal_option option))
least_follows (Some n) is =
    all_one (λ option. Follows (normal_option option)) (least_option (Some n)) refl
    (λ d. both_follow (spaced (Pieces.Quoted (codes "min-ttl"))) (spaced (Pieces.Number n)) (quoted_follows (codes "min-ttl") refl) (byte_follows n is))

greatest_follows : (o : Option ℕ) → IfSome o (λ n. n < 2 ^ 16) → All (λ option. Follows (normal_option option)) (greatest_option o)
greatest_follows None is = All-nil (λ option. Follows (normal_option option))
greatest_follows (Some n) is =
    all_one (λ option. Follows (normal_option option)) (greatest_option (Some n)) refl
    (λ d. both_follow (spaced (Pieces.Quoted (codes "max-mss"))) (spaced (Pieces.Number n)) (quoted_follows (codes "max-mss") refl)
    (number_follows n (omega (arith, is))))

fragment_follows : (b : Bool) → All (λ option. Follows (normal_option option)) (fragment_option b)
fragment_follows false = All-nil (λ option. Follows (normal_option option))
fragment_follows true =
    all_one (λ option. Follows (normal_option option)) (fragment_option true) refl (λ d. quoted_follows (codes "no-df") refl)

options_told : (procedure : Procedure) → IsShowableProcedure procedure → All (λ option. Follows (normal_option option)) (normal_options procedure)
options_told procedure is =
    All-append (λ option. Follows (normal_option option)) (least_option procedure.min_ttl ++ greatest_option procedure.max_mss) (fragment_option procedure.no_df)
    (All-append (λ option. Follows (normal_option option)) (least_option procedure.min_ttl) (greatest_option procedure.max_mss)
    (least_follows procedure.min_ttl is.min_ttl) (greatest_follows procedure.max_mss is.max_mss)) (fragment_follows procedure.no_df)

pieces_of_options : {A : Type 0} (pieces : A → List Piece) (options : List A) → All (λ option. Follows (pieces option)) options
    → Lines (indent ++ glued (Pieces.Word (codes "normalize")) ++ glued (Pieces.Sign (codes ":")) ++ comma_list pieces options ++ line_end)
pieces_of_options pieces options all =
    opens_line (indent ++ glued (Pieces.Word (codes "normalize")) ++ glued (Pieces.Sign (codes ":")) ++ comma_list pieces options)
    (opens_more (indent ++ glued (Pieces.Word (codes "normalize")) ++ glued (Pieces.Sign (codes ":"))) (comma_list pieces options)
    (opens_colon (codes "normalize") refl) (comma_list_follows (λ option. Follows (pieces option)) pieces (λ option f. f) options all))

by_list : {A : Type 0} (P : A → Type 0) (line : List A → List Piece) → Lines (line []) → ((x : A) (xs : List A) → All P (x ∷ xs) → Lines (line (x ∷ xs)))
    → (options : List A) → All P options → Lines (line options)
by_list P line none some [] all = none
by_list P line none some (x ∷ xs) all = some x xs all

normal_told : (procedure : Procedure) → IsShowableProcedure procedure → Lines (normalize_line (normal_options procedure))
normal_told procedure is =
    by_list (λ option. Follows (normal_option option)) normalize_line no_lines (λ x xs all. pieces_of_options normal_option (x ∷ xs) all)
    (normal_options procedure) (options_told procedure is)

log_told : (name : Name) → Lines (log_line name)
log_told name =
    let quoted = spaced (Pieces.Quoted (name_bytes name)) in
    opens_line (indent ++ glued (Pieces.Word (codes "log")) ++ glued (Pieces.Sign (codes ":")) ++ quoted)
    (opens_more (indent ++ glued (Pieces.Word (codes "log")) ++ glued (Pieces.Sign (codes ":"))) quoted
    (opens_colon (codes "log") refl) (quoted_follows (name_bytes name) (name_is_plain name)))

any_lines : {A : Type 0} (pieces : A → List Piece) → ((a : A) → Lines (pieces a)) → (o : Option A) → Lines (optional_pieces pieces o)
any_lines pieces step None = no_lines
any_lines pieces step (Some a) = step a

pub procedure_told : (procedure : Procedure) → IsShowableProcedure procedure → Lines (procedure_lines procedure)
procedure_told procedure is =
    let word = glued (Pieces.Word (codes "procedure")) in
    let name = spaced (Pieces.Quoted procedure.name) in
    let brace = spaced (Pieces.Sign (codes "{")) in
    let head = procedure_head procedure in
    let log = optional_pieces log_line procedure.log in
    let normal = normalize_line (normal_options procedure) in
    both_lines (head ++ log ++ normal) closing_line
    (both_lines (head ++ log) normal
    (both_lines head log
    (opens_line (word ++ name ++ brace)
    (opens_more (word ++ name) brace
    (opens_more word name (opens_word (codes "procedure") refl) (quoted_follows procedure.name is.name)) (sign_follows Signs.OpenBrace)))
    (any_lines log_line log_told procedure.log))
    (normal_told procedure is))
    closes

-- settings and the gateway
name_is_word : (parameter : Parameter) → is_run_word (parameter_name parameter) ≡ true
name_is_word (Parameter.Switch StrictRst) = refl
name_is_word (Parameter.Port Least) = refl
name_is_word (Parameter.Timeout TcpNew) = refl
name_is_word _ = refl

parameter_follows : (parameter : Parameter) → Follows (spaced (Pieces.Word (parameter_name parameter)))
parameter_follows parameter = word_follows (parameter_name parameter) (name_is_word parameter)

switch_follows : (value : Bool) → Follows (spaced (Pieces.Word (switch_text value)))
switch_follows true = word_follows (codes "on") refl
switch_follows false = word_follows (codes "off") refl

value_follows : (choice : Choice) → IsShowableChoice choice → Follows (spaced (value_piece choice))
value_follows (Choice.Switch switch on) is = switch_follows on
value_follows (Choice.Port bound port) is = number_follows port (omega (arith, is))
value_follows (Choice.Timeout timeout seconds) is = number_follows seconds is

set_told : (choice : Choice) → IsShowableChoice choice → Lines (set_line choice)
set_told choice is =
    let word = glued (Pieces.Word (codes "set")) in
    let name = spaced (Pieces.Word (parameter_name (parameter_of choice))) in
    let value = spaced (value_piece choice) in
    opens_line (word ++ name ++ value)
    (opens_more (word ++ name) value (opens_more word name (opens_word (codes "set") refl) (parameter_follows (parameter_of choice))) (value_follows choice is))

module _ (settings : Settings) (is : (parameter : Parameter) → IsShowableChoice (choice_in settings parameter)) where
  changed_told : (parameter : Parameter) → Lines (flat_map set_line (changed_setting settings parameter))
  changed_told parameter = by (has_same_value (choice_in settings parameter) (choice_in default_settings parameter)) where
    by : (same : Bool) → Lines (flat_map set_line (if same then [] else choice_in settings parameter ∷ []))
    by true = no_lines
    by false = both_lines (set_line (choice_in settings parameter)) [] (set_told (choice_in settings parameter) (is parameter)) no_lines

  sets_told : (among : List Parameter) → Lines (flat_map set_line (flat_map (changed_setting settings) among))
  sets_told [] = no_lines
  sets_told (parameter ∷ among) =
      let rest = flat_map (changed_setting settings) among in
      subst Lines (sym (flat_map-append set_line (changed_setting settings parameter) rest))
      (both_lines (flat_map set_line (changed_setting settings parameter)) (flat_map set_line rest) (changed_told parameter) (sets_told among))

alg_told : (is_asked : Bool) → Lines (alg_line is_asked)
alg_told false = no_lines
alg_told true =
    let word = glued (Pieces.Word (codes "alg")) in
    let name = spaced (Pieces.Quoted (codes "icmp")) in
    opens_line (word ++ name) (opens_more word name (opens_word (codes "alg") refl) (quoted_follows (codes "icmp") refl))

declared_told : (model : Model) → IsShowable model → Lines (declared_lines model)
declared_told model is =
    let tables = flat_map table_line model.tables in
    let maps = flat_map (map_line model) model.maps in
    let procedures = flat_map procedure_lines model.procedures in
    let groups = flat_map (group_lines model) model.groups in
    both_lines (tables ++ maps ++ procedures) groups
    (both_lines (tables ++ maps) procedures
    (both_lines tables maps
    (each_lines IsShowableTable table_line table_told model.tables is.tables)
    (each_lines (IsShowableMap model) (map_line model) (map_told model) model.maps is.maps))
    (each_lines IsShowableProcedure procedure_lines procedure_told model.procedures is.procedures))
    (each_lines (IsShowableGroup model) (group_lines model) (group_told model) model.groups is.groups)

pub model_told : (model : Model) → IsShowable model → AreTold (model_pieces model)
model_told model is =
    let settings = flat_map set_line (shown_settings model.settings) in
    let alg = alg_line model.alg_icmp in
    let lines : Lines (model_pieces model) =
    both_lines (settings ++ alg) (declared_lines model) (both_lines settings alg (sets_told model.settings is.settings parameters) (alg_told model.alg_icmp)) (declared_told model is) in
    subst AreTold (append-nil (model_pieces model)) (lines [] tt)

pub shows_tokens_lem : ShowsTokens
shows_tokens_lem model is = tells_tokens_lem (model_pieces model) (model_told model is)
