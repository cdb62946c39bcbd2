-- No LF stands in the parts of a line.
use Rattle.std.proofs.Common.{◌≡◌, ℕ, ◌-◌, ◌^◌, ◌<◌, ◌/◌, ◌%◌, Bool, true, false, cond, List, [], ◌∷◌, ◌++◌, refl, sym, ap, ◌∙◌, arith}
use Rattle.std.specs.Prelude.{◌==◌, not, codes, decimal}
use Rattle.std.specs.List.{flat_map, list_all}
use Rattle.std.proofs.lemmas.Bool.{eqb-true, and_parts}
use Rattle.js_units.specs.Characters.{is_digit, is_letter, is_name_start, is_name_part}
use Rattle.js_units.specs.Quoted.{hex_digit, four_digits, is_printable, unit_text, quoted}
use Rattle.path_core.specs.Names.{is_name, is_word, is_reserved}
use Rattle.path_core.specs.declared.path.InputValue.{InputValue}
use Rattle.path_core.specs.declared.path.InputValue.TheVariants as values
use Rattle.path_core.specs.declared.path.Event.{Event}
use Rattle.path_core.specs.declared.path.Event.TheVariants as events
use Rattle.path_core.specs.declared.path.PickKind.{PickKind}
use Rattle.path_core.specs.declared.path.PickKind.TheVariants as kinds
use Rattle.path_core.specs.declared.path.ErrorName.TheVariants as errors
use Rattle.path_core.specs.declared.path.Thrown.{Thrown}
use Rattle.path_core.specs.declared.path.Thrown.TheVariants as thrown
use Rattle.path_core.specs.declared.path.Why.{Why}
use Rattle.path_core.specs.declared.path.Why.TheVariants as why
use Rattle.path_core.specs.declared.path.Budget.{Budget}
use Rattle.path_core.specs.declared.path.Budget.TheVariants as budget
use Rattle.path_core.specs.declared.path.End.{End}
use Rattle.path_core.specs.declared.path.End.TheVariants as ends
use Rattle.path_core.specs.declared.path.Child.{Child}
use Rattle.path_core.specs.declared.path.Child.TheVariants as children
use Rattle.path_core.specs.declared.query.Query.{Query}
use Rattle.proof_text.proofs.Whole.{is_inner}
use Rattle.proof_text.proofs.Numerals.{decimal_inner, signed_inner}
use Rattle.proof_text.proofs.Formats.{inner_append, inner_all}
use Rattle.report_text.specs.Lines.{value_text, item_text, letter, ways_text, event_text, thrown_text, why_text, budget_text, ended_text, turns_text, end_text, child_text, query_text, input_text}
use Rattle.report_text.specs.Inputs.{IsValue, IsItem}
use Rattle.report_text.specs.Events.{HasWays, IsEvent}
use Rattle.report_text.specs.Endings.{IsEnd}
use Rattle.report_text.specs.Queries.{IsChild, Each, IsQuery}
use Rattle.report_text.specs.Reports.{IsInput}
use Rattle.report_text.proofs.ReadQueries.{spelt_each}

abbrev pub Inner : List ℕ → Type 0
Inner list = list_all is_inner list ≡ true

pub both : (a b : List ℕ) → Inner a → Inner b → Inner (a ++ b)
both a b h k = inner_append a b h k

pub inner_each : {X : Type 0} (text : X → List ℕ) (P : X → Type 0) → ((x : X) → P x → Inner (text x)) → (xs : List X) → Each P xs → Inner (flat_map text xs)
inner_each text P h xs s = inner_all text P h xs (spelt_each P xs s)

-- ---- texts and names

hex_inner : (d : ℕ) → is_inner (hex_digit d) ≡ true
hex_inner d = grind arith

four_inner : (u : ℕ) → Inner (four_digits u)
four_inner u = rw (hex_inner (u / 4096), hex_inner (u / 256 % 16), hex_inner (u / 16 % 16), hex_inner (u % 16)) refl

printable_inner : (u : ℕ) → is_printable u ≡ true → is_inner u ≡ true
printable_inner u e = grind arith

unit_inner : (u : ℕ) → Inner (unit_text u)
unit_inner u = by (u == 34) (u == 92) (is_printable u) refl refl refl
  where
    by : (x y z : Bool) → (u == 34) ≡ x → (u == 92) ≡ y → is_printable u ≡ z → Inner (unit_text u)
    by true y z a b c = rw a refl
    by false true z a b c = rw (a, b) refl
    by false false true a b c = rw (a, b, c) (rw (printable_inner u c) refl)
    by false false false a b c = rw (a, b, c) (four_inner u)

units_inner : (text : List ℕ) → Inner (flat_map unit_text text)
units_inner [] = refl
units_inner (u ∷ text) = both (unit_text u) (flat_map unit_text text) (unit_inner u) (units_inner text)

pub quoted_inner : (text : List ℕ) → Inner (quoted text)
unfolding quoted
quoted_inner text = both (codes "\"" ++ flat_map unit_text text) (codes "\"") (units_inner text) refl

no_lf : is_name_part 10 ≡ true → ⊥
unfolding is_name_part is_name_start is_letter is_digit
no_lf h = cc

part_inner : (b : ℕ) → is_name_part b ≡ true → is_inner b ≡ true
part_inner b e = by (b == 10) refl
  where
    by : (x : Bool) → (b == 10) ≡ x → not x ≡ true
    by true h = absurd (no_lf (ap is_name_part (sym (eqb-true b 10 h)) ∙ e))
    by false h = refl

parts_inner : (bs : List ℕ) → list_all is_name_part bs ≡ true → Inner bs
parts_inner [] e = refl
parts_inner (b ∷ bs) e = let k = and_parts (is_name_part b) (list_all is_name_part bs) e in rw (part_inner b k.0) (parts_inner bs k.1)

start_part : (b : ℕ) → is_name_start b ≡ true → is_name_part b ≡ true
unfolding is_name_part
start_part b e = rw e refl

start_inner : (b : ℕ) → is_name_start b ≡ true → is_inner b ≡ true
start_inner b e = part_inner b (start_part b e)

word_inner : (name : List ℕ) → is_word name ≡ true → Inner name
word_inner [] e = refl
word_inner (b ∷ bs) e = let k = and_parts (is_name_start b) (list_all is_name_part bs) e in rw (start_inner b k.0) (parts_inner bs k.1)

name_inner : (name : List ℕ) → is_name name ≡ true → Inner name
name_inner name e = word_inner name (and_parts (is_word name) (not (is_reserved name)) e).0

-- ---- numbers

short_inner : (n : ℕ) → n < 2 ^ 32 → Inner (decimal n)
short_inner n s = decimal_inner n (omega (arith, s))

-- ---- inputs

value_inner : (v : InputValue) → IsValue v → Inner (value_text v)
value_inner (values.Int z) s = signed_inner (2 ^ 63) (2 ^ 63 - 1) (omega arith) (omega arith) z s
value_inner (values.Text text) s = quoted_inner text

item_inner : (i : List ℕ × InputValue) → IsItem i → Inner (item_text i)
unfolding item_text
item_inner i s = both (codes " " ++ i.0 ++ codes "=") (value_text i.1) (both (codes " " ++ i.0) (codes "=") (both (codes " ") i.0 refl (name_inner i.0 s.0)) refl) (value_inner i.1 s.1)

pub input_inner : (input : List (List ℕ × InputValue)) → IsInput input → Inner (input_text input)
input_inner input s = inner_each item_text IsItem item_inner input s

-- ---- events

letter_inner : (kind : PickKind) → Inner (letter kind)
letter_inner kinds.Branch = refl
letter_inner kinds.Place = refl
letter_inner kinds.Number = refl
letter_inner kinds.Match = refl
letter_inner kinds.Group = refl
letter_inner kinds.Found = refl
letter_inner kinds.Key = refl
letter_inner kinds.Clamp = refl

ways_inner : (kind : PickKind) (ways : ℕ) → HasWays kind ways → Inner (ways_text kind ways)
ways_inner kinds.Key ways s = both (codes "/") (decimal ways) refl (short_inner ways s)
ways_inner kinds.Clamp ways s = both (codes "/") (decimal ways) refl (short_inner ways s)
ways_inner kinds.Branch ways s = refl
ways_inner kinds.Place ways s = refl
ways_inner kinds.Number ways s = refl
ways_inner kinds.Match ways s = refl
ways_inner kinds.Group ways s = refl
ways_inner kinds.Found ways s = refl

event_inner : (e : Event) → IsEvent e → Inner (event_text e)
unfolding event_text
event_inner (events.Pick site kind out ways) s =
    both (codes " " ++ letter kind ++ decimal site ++ codes "=" ++ decimal out) (ways_text kind ways)
    (both (codes " " ++ letter kind ++ decimal site ++ codes "=") (decimal out)
    (both (codes " " ++ letter kind ++ decimal site) (codes "=")
    (both (codes " " ++ letter kind) (decimal site) (both (codes " ") (letter kind) refl (letter_inner kind)) (short_inner site s.site_short)) refl)
    (short_inner out s.out_short))
    (ways_inner kind ways s.ways_kept)
event_inner (events.Value site text) s =
    both (codes " v" ++ decimal site ++ codes "=") (quoted text)
    (both (codes " v" ++ decimal site) (codes "=") (both (codes " v") (decimal site) refl (short_inner site s.0)) refl)
    (quoted_inner text)

pub events_inner : (es : List Event) → Each IsEvent es → Inner (flat_map event_text es)
events_inner es s = inner_each event_text IsEvent event_inner es s

-- ---- ends

thrown_inner : (what : Thrown) → Inner (thrown_text what)
thrown_inner thrown.Value = refl
thrown_inner (thrown.Named errors.Error) = refl
thrown_inner (thrown.Named errors.TypeError) = refl
thrown_inner (thrown.Named errors.RangeError) = refl
thrown_inner (thrown.Named errors.ReferenceError) = refl

why_inner : (w : Why) → Inner (why_text w)
why_inner why.Range = refl
why_inner why.Divide = refl
why_inner why.Convert = refl
why_inner why.Inherited = refl
why_inner why.Message = refl
why_inner why.Unicode = refl
why_inner why.Template = refl
why_inner why.Size = refl
why_inner why.Key = refl
why_inner why.Set = refl
why_inner why.Builtin = refl
why_inner why.Name = refl
why_inner why.Iterate = refl
why_inner why.New = refl

budget_inner : (b : Budget) → Inner (budget_text b)
budget_inner budget.Turns = refl
budget_inner budget.Events = refl
budget_inner budget.Nodes = refl

cond_inner : (x : Bool) (a b : List ℕ) → Inner a → Inner b → Inner (cond x a b)
cond_inner true a b h k = h
cond_inner false a b h k = k

ended_inner : (n : ℕ) → n < 2 ^ 32 → Inner (ended_text n)
ended_inner n s = cond_inner (n == 0) [] (codes "+" ++ decimal n) refl (both (codes "+") (decimal n) refl (short_inner n s))

turns_inner : (turns ended : ℕ) → turns < 2 ^ 32 → ended < 2 ^ 32 → Inner (turns_text turns ended)
turns_inner turns ended s t =
    cond_inner (turns == 0) [] (codes "+" ++ decimal turns ++ ended_text ended) refl
    (both (codes "+" ++ decimal turns) (ended_text ended) (both (codes "+") (decimal turns) refl (short_inner turns s)) (ended_inner ended t))

site_inner : (word what : List ℕ) (site : ℕ) → Inner word → Inner what → site < 2 ^ 32 → Inner (word ++ what ++ codes "@" ++ decimal site)
site_inner word what site h k s = both (word ++ what ++ codes "@") (decimal site) (both (word ++ what) (codes "@") (both word what h k) refl) (short_inner site s)

pub end_inner : (e : End) → IsEnd e → Inner (end_text e)
unfolding end_text
end_inner ends.Done s = refl
end_inner (ends.Threw site what) s = site_inner (codes "threw:") (thrown_text what) site refl (thrown_inner what) s
end_inner (ends.Left site w turns ended) s =
    both (codes "left:" ++ why_text w ++ codes "@" ++ decimal site) (turns_text turns ended)
    (site_inner (codes "left:") (why_text w) site refl (why_inner w) s.site_short) (turns_inner turns ended s.turns_short s.ended_short)
end_inner (ends.Cut site what) s = site_inner (codes "cut:") (budget_text what) site refl (budget_inner what) s

-- ---- queries

child_inner : (c : Child) → IsChild c → Inner (child_text c)
child_inner (children.Event event) s = event_inner event s
child_inner (children.End end) s = both (codes " ") (end_text end) refl (end_inner end s)

pub query_inner : (q : Query) → IsQuery q → Inner (query_text q)
unfolding query_text
query_inner q s =
    both (flat_map event_text q.prefix ++ codes " |") (flat_map child_text q.children)
    (both (flat_map event_text q.prefix) (codes " |") (events_inner q.prefix s.prefix) refl)
    (inner_each child_text IsChild child_inner q.children s.children)
