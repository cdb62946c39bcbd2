-- Each row passes no exit twice between two of its events, and ends at none that it passed.
use Rattle.std.proofs.Common.{◌≡◌, ℕ, nat_le, length, Bool, true, false, not, ◌&&◌, ◌||◌, is_some, nat_lt, Ok, List, [], ◌∷◌, ◌++◌, Option, Some, None, unwrap_or, bytes_eq, slice_set, refl, sym, subst, codes, if◌then◌else◌}
use Rattle.std.proofs.Math.Seq.{map-set_same}
use Rattle.path_core.specs.declared.path.ErrorName.{ErrorName}
use Rattle.path_core.specs.declared.path.End.TheVariants.{Left, Done, Threw, Cut}
use Rattle.path_core.specs.declared.path.Why.{Why}
use Rattle.path_core.specs.declared.path.Why.TheVariants as why
use Rattle.js_ast.specs.declared.operators.BinaryOp.{BinaryOp}
use Rattle.js_ast.specs.declared.operators.BinaryOp.TheVariants as op
use Rattle.js_ast.specs.declared.operators.UnaryOp.{UnaryOp}
use Rattle.js_ast.specs.declared.operators.UnaryOp.TheVariants as un
use Rattle.js_ast.specs.declared.operators.StepOp.{StepOp}
use Rattle.js_ast.specs.declared.operators.LogicalOp.{LogicalOp}
use Rattle.js_ast.specs.declared.operators.LogicalOp.TheVariants as logic
use Rattle.js_values.specs.Numbers.{Number, fits, divides, divide, add, subtract, multiply, remainder, negate, less, at_most, to_int32, complement}
use Rattle.js_meaning.specs.Values.{Text, Value, undefined, null, truth, int, nan, text, object, Object, Class, plain, array, matched, function, regexp, error}
use Rattle.js_meaning.specs.Running.{Answer, gives, comes_to, raises, ends, Row, Reference, callee, intrinsic, static, method, guarded, giving, ending, leaving, text_limit, entry_limit}
use Rattle.js_meaning.specs.Conversions.{to_place, number_value, to_number, to_string}
use Rattle.js_meaning.specs.Builtins.{is_method, is_static, among, array_methods, pattern_methods}
use Rattle.js_meaning.specs.Objects.{get_row, get_from, other, own_or_other, own_or_undefined, message_row, error_row, property_row, bracket_row, bracket_method, bracket_static, static_key, look_up, object_at, bare, inherited_names, holds, length_or, may_have_methods, Written, add_property, add_item, set_named, set_in, set_row, with_property, with_item, no_room, set_leaves, inherits}
use Rattle.js_meaning.specs.Operators.{text_row, place_row, test_row, logical_row, converted, on_number, on_numbers, in_range, joined, joins, add_row, add_texts, add_numbers, subtract_row, multiply_row, divide_row, remainder_row, order_row, binary_row, unary_row, step_row, stepped, text_less}
use Rattle.js_meaning.specs.Apart.{Sites, nowhere, only, anywhere, Guarding, used_at, UseIn, EndIn, UsesIn, RowApart, RowFits, read_last, WrittenIn, classes, WrittenKeeps, IsNoReference}

-- ---- what rows are made of

giving_apart : {S : Sites} (x : Value) → RowApart S (giving x)
giving_apart x = record { items = tt; end = tt; apart = tt }

ending_apart : (site : ℕ) (w : Why) → RowApart (only site) (ending site w)
ending_apart site w = record { items = tt; end = (refl, refl, λ g. refl); apart = tt }

guarded_apart : (site : ℕ) (w : Why) (b : Bool) (x : Value) → Guarding w →
    RowApart (only site) (guarded b site w (gives x))
guarded_apart site w true x g = record { items = ((refl, refl, g, refl), tt); end = tt; apart = (λ p. p, tt) }
guarded_apart site w false x g = record { items = tt; end = (refl, refl, λ g. refl); apart = tt }

converted_apart : {A : Type 0} (site : ℕ) (o : Option A) (go : A → Row) → ((a : A) → RowApart (only site) (go a)) →
    RowApart (only site) (converted site o go)
converted_apart site None go k = ending_apart site why.Convert
converted_apart site (Some a) go k = k a

number_apart : (site : ℕ) (go : Number → Row) (x : Value) → ((n : Number) → RowApart (only site) (go n)) →
    RowApart (only site) (on_number site go x)
number_apart site go x k = converted_apart site (to_number x) go k

numbers_apart : (site : ℕ) (go : Number → Number → Row) (x y : Value) → ((m n : Number) →
    RowApart (only site) (go m n)) → RowApart (only site) (on_numbers site go x y)
numbers_apart site go x y k = number_apart site (λ m. on_number site (go m) y) x (λ m. number_apart site (go m) y (k m))

-- ---- tests

pub test_apart : (site : ℕ) (x : Value) → RowApart nowhere (test_row site x)
unfolding test_row
test_apart site x = record { items = tt; end = tt; apart = tt }

pub logical_apart : (o : LogicalOp) (site : ℕ) (x : Value) → RowApart nowhere (logical_row o site x)
unfolding logical_row test_row
logical_apart logic.And site x = record { items = tt; end = tt; apart = tt }
logical_apart logic.Or site x = record { items = tt; end = tt; apart = tt }
logical_apart logic.Coalesce site x = record { items = tt; end = tt; apart = tt }

-- ---- conversions

pub text_apart : (site : ℕ) (x : Value) → RowApart (only site) (text_row site x)
unfolding text_row
text_apart site x = converted_apart site (to_string x) (λ t. giving (text t)) (λ t. giving_apart (text t))

pub place_apart : (site : ℕ) (missing x : Value) → RowApart (only site) (place_row site missing x)
unfolding place_row
place_apart site missing x = converted_apart site (to_place missing x) giving (λ y. giving_apart y)

-- ---- operators

range_apart : (site : ℕ) (n : Number) → RowApart (only site) (in_range site n)
range_apart site n = guarded_apart site why.Range (fits n) (number_value n) tt

joined_apart : (site : ℕ) (s t : Text) → RowApart (only site) (joined site s t)
joined_apart site s t = guarded_apart site why.Size (nat_le (length (s ++ t)) text_limit) (text (s ++ t)) tt

texts_apart : (site : ℕ) (x y : Value) → RowApart (only site) (add_texts site x y)
texts_apart site x y =
    converted_apart site (to_string x) _ (λ s. converted_apart site (to_string y) _ (joined_apart site s))

chosen_apart : {S : Sites} (b : Bool) (r q : Row) → RowApart S r → RowApart S q → RowApart S (if b then r else q)
chosen_apart true r q h k = h
chosen_apart false r q h k = k

add_apart : (site : ℕ) (x y : Value) → RowApart (only site) (add_row site x y)
add_apart site x y =
    chosen_apart (joins x y) (add_texts site x y) (on_numbers site (add_numbers site) x y) (texts_apart site x y) (numbers_apart site (add_numbers site) x y (λ m n. range_apart site (add m n)))

given_apart : (site : ℕ) (f : Number → Number → Value) (x y : Value) →
    RowApart (only site) (on_numbers site (λ m n. giving (f m n)) x y)
given_apart site f x y = numbers_apart site (λ m n. giving (f m n)) x y (λ m n. giving_apart (f m n))

order_apart : (f : Text → Text → Bool) (g : Number → Number → Bool) (site : ℕ) (x y : Value) →
    RowApart (only site) (order_row f g site x y)
order_apart f g site (text s) (text t) = giving_apart (truth (f s t))
order_apart f g site (text s) undefined = given_apart site (λ m n. truth (g m n)) (text s) undefined
order_apart f g site (text s) null = given_apart site (λ m n. truth (g m n)) (text s) null
order_apart f g site (text s) (truth b) = given_apart site (λ m n. truth (g m n)) (text s) (truth b)
order_apart f g site (text s) (int n) = given_apart site (λ m n. truth (g m n)) (text s) (int n)
order_apart f g site (text s) nan = given_apart site (λ m n. truth (g m n)) (text s) nan
order_apart f g site (text s) (object o) = given_apart site (λ m n. truth (g m n)) (text s) (object o)
order_apart f g site undefined y = given_apart site (λ m n. truth (g m n)) undefined y
order_apart f g site null y = given_apart site (λ m n. truth (g m n)) null y
order_apart f g site (truth b) y = given_apart site (λ m n. truth (g m n)) (truth b) y
order_apart f g site (int n) y = given_apart site (λ m n. truth (g m n)) (int n) y
order_apart f g site nan y = given_apart site (λ m n. truth (g m n)) nan y
order_apart f g site (object o) y = given_apart site (λ m n. truth (g m n)) (object o) y

pub binary_apart : (o : BinaryOp) (site : ℕ) (x y : Value) → RowApart (only site) (binary_row o site x y)
unfolding binary_row
binary_apart op.Add site x y = add_apart site x y
binary_apart op.Subtract site x y = numbers_apart site (subtract_row site) x y (λ m n. range_apart site (subtract m n))
binary_apart op.Multiply site x y = numbers_apart site (multiply_row site) x y (λ m n. range_apart site (multiply m n))
binary_apart op.Divide site x y =
    numbers_apart site (divide_row site) x y (λ m n. guarded_apart site why.Divide (divides m n) (number_value (divide m n)) tt)
binary_apart op.Remainder site x y =
    numbers_apart site remainder_row x y (λ m n. giving_apart (number_value (remainder m n)))
binary_apart op.ShiftLeft site x y = given_apart site _ x y
binary_apart op.ShiftRight site x y = given_apart site _ x y
binary_apart op.ShiftRightZero site x y = given_apart site _ x y
binary_apart op.BitAnd site x y = given_apart site _ x y
binary_apart op.BitXor site x y = given_apart site _ x y
binary_apart op.BitOr site x y = given_apart site _ x y
binary_apart op.Less site x y = order_apart text_less less site x y
binary_apart op.Greater site x y = order_apart (λ s t. text_less t s) (λ m n. less n m) site x y
binary_apart op.LessEqual site x y = order_apart (λ s t. not (text_less t s)) at_most site x y
binary_apart op.GreaterEqual site x y = order_apart (λ s t. not (text_less s t)) (λ m n. at_most n m) site x y
binary_apart op.Equal site x y = giving_apart _
binary_apart op.NotEqual site x y = giving_apart _

pub unary_apart : (o : UnaryOp) (site : ℕ) (x : Value) (objects : List Object) →
    RowApart (only site) (unary_row o site x objects)
unfolding unary_row
unary_apart un.Plus site x objects = number_apart site _ x (λ n. giving_apart (number_value n))
unary_apart un.Minus site x objects = number_apart site _ x (λ n. giving_apart (number_value (negate n)))
unary_apart un.Not site x objects = giving_apart _
unary_apart un.Complement site x objects = number_apart site _ x (λ n. giving_apart (int (complement (to_int32 n))))
unary_apart un.TypeOf site x objects = giving_apart _

number_value_row : (site : ℕ) (go : Number → Row) (x : Value) → ((n : Number) → IsNoReference (go n).1) →
    IsNoReference (on_number site go x).1
number_value_row site go x k = here (to_number x)
  where
    here : (o : Option Number) → IsNoReference (converted site o go).1
    here None = tt
    here (Some n) = k n

pub unary_value : (o : UnaryOp) (site : ℕ) (x : Value) (objects : List Object) →
    IsNoReference (unary_row o site x objects).1
unfolding unary_row
unary_value un.Plus site x objects = number_value_row site (λ n. giving (number_value n)) x (λ n. tt)
unary_value un.Minus site x objects = number_value_row site (λ n. giving (number_value (negate n))) x (λ n. tt)
unary_value un.Not site x objects = tt
unary_value un.Complement site x objects = number_value_row site (λ n. giving (int (complement (to_int32 n)))) x (λ n. tt)
unary_value un.TypeOf site x objects = tt

pub step_apart : (o : StepOp) (site : ℕ) (x : Value) → RowApart (only site) (step_row o site x)
unfolding step_row
step_apart o site x = number_apart site _ x (λ n. range_apart site (stepped o n))

-- ---- properties: no guard so far

-- no item
pub record RowStill (S : Sites) (r : Row) : Type 0 where
  pub none : r.0 ≡ []
  pub end : EndIn S r.1

still_apart : {S : Sites} (r : Row) → RowStill S r → RowApart S r
still_apart {S} (items, a) h =
    subst (λ is. RowApart S (is, a)) (sym h.none) (record { items = tt; end = h.end; apart = tt })

end_anywhere : (S : Sites) (a : Answer) → EndIn S a → EndIn anywhere a
end_anywhere S (gives x) h = tt
end_anywhere S (comes_to r) h = at_use (used_at r)
  where
    at_use : (o : Option ℕ) → UseIn anywhere o
    at_use None = tt
    at_use (Some at) = tt
end_anywhere S (raises site name) h = tt
end_anywhere S (ends (Left site w t n)) h = (h.0, h.1, λ g. tt)
end_anywhere S (ends Done) h = tt
end_anywhere S (ends (Threw site x)) h = tt
end_anywhere S (ends (Cut site x)) h = tt

still_uses : (S : Sites) (a : Answer) → EndIn S a → UsesIn S a
still_uses S (gives x) h = tt
still_uses S (comes_to r) h = h
still_uses S (raises site name) h = tt
still_uses S (ends x) h = tt

still_fits : {S : Sites} (T : Sites) (r : Row) → RowStill S r → RowFits S T r
still_fits {S} T (items, a) h =
    subst (λ is. RowFits S T (is, a)) (sym h.none) (record { whole = record { items = tt; end = end_anywhere S a h.end; apart = tt }; first = h.end; last = tt; uses = still_uses S a h.end })

ending_still : (site : ℕ) (w : Why) → RowStill (only site) (ending site w)
ending_still site w = record { none = refl; end = (refl, refl, λ g. refl) }

chosen_still : {S : Sites} (b : Bool) (r q : Row) → RowStill S r → RowStill S q → RowStill S (if b then r else q)
chosen_still true r q h k = h
chosen_still false r q h k = k

other_still : (site : ℕ) (base : Value) (key : Text) → RowStill (only site) (other site base key)
other_still site base key =
    chosen_still (is_method key) ([], comes_to (method site base key)) (ending site why.Inherited) (record { none = refl; end = refl }) (ending_still site why.Inherited)

holds_still : {S : Sites} (base x : Value) → RowStill S (holds base x)
holds_still base x = record { none = refl; end = tt }

own_still : (site : ℕ) (base : Value) (key : Text) (o : Option Value) →
    RowStill (only site) (own_or_other site base key o)
own_still site base key None = other_still site base key
own_still site base key (Some x) = holds_still base x

plain_still : (site : ℕ) (base : Value) (key : Text) (o : Option Value) →
    RowStill (only site) (own_or_undefined site base key o)
plain_still site base key (Some x) = holds_still base x
plain_still site base key None =
    chosen_still (among key inherited_names) (ending site why.Inherited) (holds base undefined) (ending_still site why.Inherited) (holds_still base undefined)

message_still : (site : ℕ) (base : Value) (engine : Bool) (m : Option Value) →
    RowStill (only site) (message_row site base engine m)
message_still site base true m = ending_still site why.Message
message_still site base false m = holds_still base (unwrap_or m (text []))

error_still : (site : ℕ) (base : Value) (name : ErrorName) (engine : Bool) (key : Text) (ps : List (Text × Value)) →
    RowStill (only site) (error_row site base name engine key ps)
error_still site base name engine key ps =
    chosen_still (bytes_eq key (codes "name")) _ _ (holds_still base _)
    (chosen_still (bytes_eq key (codes "message")) _ _ (message_still site base engine (look_up key ps)) (other_still site base key))

from_still : (site : ℕ) (base : Value) (key : Text) (c : Class) (ps : List (Text × Value)) (items : List Value) →
    RowStill (only site) (get_from site base key c ps items)
from_still site base key plain ps items = plain_still site base key (look_up key ps)
from_still site base key array ps items = own_still site base key (length_or items key None)
from_still site base key matched ps items = own_still site base key (length_or items key (look_up key ps))
from_still site base key (function code) ps items = other_still site base key
from_still site base key (regexp at p) ps items = own_still site base key (look_up key ps)
from_still site base key (error name engine) ps items = error_still site base name engine key ps

pub get_still : (site : ℕ) (x : Value) (key : Text) (objects : List Object) →
    RowStill (only site) (get_row site x key objects)
unfolding get_row
get_still site undefined key objects = record { none = refl; end = refl }
get_still site null key objects = record { none = refl; end = refl }
get_still site (truth b) key objects = other_still site (truth b) key
get_still site (int n) key objects = other_still site (int n) key
get_still site nan key objects = other_still site nan key
get_still site (text t) key objects =
    chosen_still (bytes_eq key (codes "length")) _ _ (holds_still undefined _) (other_still site (text t) key)
get_still site (object o) key objects =
    from_still site (object o) key (object_at objects o).class (object_at objects o).properties (object_at objects o).items

pub property_still : (site : ℕ) (r : Reference) (key : Text) (objects : List Object) →
    RowStill (only site) (property_row site r key objects)
property_still site (callee x this) key objects = get_still site x key objects
property_still site (intrinsic at name) key objects =
    chosen_still (is_static name key) _ _ (record { none = refl; end = refl }) (ending_still site why.Builtin)
property_still site (static at name k) key objects = ending_still site why.Builtin
property_still site (method at base k) key objects = ending_still site why.Builtin

method_still : (site : ℕ) (x : Value) (o : Option Text) (objects : List Object) →
    RowStill (only site) (bracket_method site x o objects)
method_still site x None objects = ending_still site why.Key
method_still site x (Some key) objects =
    chosen_still (is_method key
    && may_have_methods x objects) _ _ (record { none = refl; end = refl }) (ending_still site why.Key)

static_still : (site : ℕ) (name : Text) (o : Option Text) → RowStill (only site) (bracket_static site name o)
static_still site name None = ending_still site why.Builtin
static_still site name (Some key) =
    chosen_still (is_static name key) _ _ (record { none = refl; end = refl }) (ending_still site why.Builtin)

pub bracket_still : (site : ℕ) (is_literal : Bool) (r : Reference) (key : Value) (objects : List Object) →
    RowStill (only site) (bracket_row site is_literal r key objects)
unfolding bracket_row
bracket_still site is_literal (callee x this) key objects = method_still site x (static_key is_literal key) objects
bracket_still site is_literal (intrinsic at name) key objects = static_still site name (static_key is_literal key)
bracket_still site is_literal (static at name k) key objects = ending_still site why.Builtin
bracket_still site is_literal (method at base k) key objects = ending_still site why.Builtin

pub get_apart : (site : ℕ) (x : Value) (key : Text) (objects : List Object) →
    RowApart (only site) (get_row site x key objects)
get_apart site x key objects = still_apart (get_row site x key objects) (get_still site x key objects)

pub property_apart : (site : ℕ) (r : Reference) (key : Text) (objects : List Object) →
    RowApart (only site) (property_row site r key objects)
property_apart site r key objects =
    still_apart (property_row site r key objects) (property_still site r key objects)

pub bracket_apart : (site : ℕ) (is_literal : Bool) (r : Reference) (key : Value) (objects : List Object) →
    RowApart (only site) (bracket_row site is_literal r key objects)
bracket_apart site is_literal r key objects =
    still_apart (bracket_row site is_literal r key objects) (bracket_still site is_literal r key objects)

pub get_fits : (site : ℕ) (x : Value) (key : Text) (objects : List Object) →
    RowFits (only site) nowhere (get_row site x key objects)
get_fits site x key objects = still_fits nowhere (get_row site x key objects) (get_still site x key objects)

pub property_fits : (site : ℕ) (r : Reference) (key : Text) (objects : List Object) →
    RowFits (only site) nowhere (property_row site r key objects)
property_fits site r key objects =
    still_fits nowhere (property_row site r key objects) (property_still site r key objects)

pub bracket_fits : (site : ℕ) (is_literal : Bool) (r : Reference) (key : Value) (objects : List Object) →
    RowFits (only site) (read_last site is_literal key) (bracket_row site is_literal r key objects)
bracket_fits site is_literal r key objects =
    still_fits (read_last site is_literal key) (bracket_row site is_literal r key objects) (bracket_still site is_literal r key objects)

-- ---- writes

left_in : (site : ℕ) (w : Why) → EndIn (only site) (ends (leaving site w))
left_in site w = (refl, refl, λ g. refl)

chosen_in : (site : ℕ) (b : Bool) (r q : Written) → WrittenIn (only site) r → WrittenIn (only site) q →
    WrittenIn (only site) (if b then r else q)
chosen_in site true r q h k = h
chosen_in site false r q h k = k

pub property_in : (site : ℕ) (objects : List Object) (o : ℕ) (key : Text) (x : Value) →
    WrittenIn (only site) (add_property site objects o key x)
property_in site objects o key x =
    chosen_in site (is_some (look_up key (object_at objects o).properties)
    || nat_lt (length (object_at objects o).properties) entry_limit)
    (Ok (with_property objects o key x)) (no_room site) tt (left_in site why.Size)

pub item_in : (site : ℕ) (objects : List Object) (o : ℕ) (x : Value) → WrittenIn (only site) (add_item site objects o x)
item_in site objects o x =
    chosen_in site (nat_lt (length (object_at objects o).items) entry_limit) (Ok
    (with_item objects o x)) (no_room site) tt (left_in site why.Size)

named_in : (site : ℕ) (key : Text) (names : List Text) → WrittenIn (only site) (set_named site key names)
named_in site key names =
    chosen_in site (among key names) (set_leaves site) (inherits site) (left_in site why.Set) (left_in site why.Inherited)

class_in : (site : ℕ) (objects : List Object) (o : ℕ) (key : Text) (x : Value) (c : Class) →
    WrittenIn (only site) (set_in site objects o key x c)
class_in site objects o key x plain =
    chosen_in site (bytes_eq key (codes "__proto__")) (inherits site) (add_property site objects o key x) (left_in site why.Inherited) (property_in site objects o key x)
class_in site objects o key x array = named_in site key (codes "length" ∷ array_methods)
class_in site objects o key x matched =
    named_in site key (codes "length" ∷ codes "index" ∷ codes "input" ∷ codes "groups" ∷ array_methods)
class_in site objects o key x (function code) = left_in site why.Set
class_in site objects o key x (regexp at p) =
    chosen_in site (bytes_eq key (codes "lastIndex")) (Ok
    (with_property objects o key x)) (set_named site key pattern_methods) tt (named_in site key pattern_methods)
class_in site objects o key x (error name engine) = left_in site why.Set

pub set_apart : (site : ℕ) (base : Value) (key : Text) (x : Value) (objects : List Object) →
    WrittenIn (only site) (set_row site base key x objects)
unfolding set_row
set_apart site undefined key x objects = refl
set_apart site null key x objects = refl
set_apart site (truth b) key x objects = left_in site why.Set
set_apart site (int n) key x objects = left_in site why.Set
set_apart site nan key x objects = left_in site why.Set
set_apart site (text t) key x objects = left_in site why.Set
set_apart site (object o) key x objects = class_in site objects o key x (object_at objects o).class

-- ---- a write changes no object's class

chosen_keeps : (objects : List Object) (b : Bool) (r q : Written) → WrittenKeeps objects r → WrittenKeeps objects q →
    WrittenKeeps objects (if b then r else q)
chosen_keeps objects true r q h k = h
chosen_keeps objects false r q h k = k

replaced_keeps : (objects : List Object) (o : ℕ) (new : Object) → new.class ≡ (object_at objects o).class →
    classes (slice_set objects o new) ≡ classes objects
replaced_keeps objects o new p = map-set_same (λ (x : Object). x.class) objects o new bare p

pub property_keeps : (site : ℕ) (objects : List Object) (o : ℕ) (key : Text) (x : Value) →
    WrittenKeeps objects (add_property site objects o key x)
property_keeps site objects o key x =
    chosen_keeps objects (is_some (look_up key (object_at objects o).properties)
    || nat_lt (length (object_at objects o).properties) entry_limit)
    (Ok (with_property objects o key x)) (no_room site) (replaced_keeps objects o _ refl) tt

pub item_keeps : (site : ℕ) (objects : List Object) (o : ℕ) (x : Value) → WrittenKeeps objects (add_item site objects o x)
item_keeps site objects o x =
    chosen_keeps objects (nat_lt (length (object_at objects o).items) entry_limit) (Ok
    (with_item objects o x)) (no_room site) (replaced_keeps objects o _ refl) tt

named_keeps : (objects : List Object) (site : ℕ) (key : Text) (names : List Text) →
    WrittenKeeps objects (set_named site key names)
named_keeps objects site key names = chosen_keeps objects (among key names) (set_leaves site) (inherits site) tt tt

class_keeps : (site : ℕ) (objects : List Object) (o : ℕ) (key : Text) (x : Value) (c : Class) →
    WrittenKeeps objects (set_in site objects o key x c)
class_keeps site objects o key x plain =
    chosen_keeps objects (bytes_eq key (codes "__proto__")) (inherits site) (add_property site objects o key x) tt (property_keeps site objects o key x)
class_keeps site objects o key x array = named_keeps objects site key (codes "length" ∷ array_methods)
class_keeps site objects o key x matched =
    named_keeps objects site key (codes "length" ∷ codes "index" ∷ codes "input" ∷ codes "groups" ∷ array_methods)
class_keeps site objects o key x (function code) = tt
class_keeps site objects o key x (regexp at p) =
    chosen_keeps objects (bytes_eq key (codes "lastIndex")) (Ok
    (with_property objects o key x)) (set_named site key pattern_methods) (replaced_keeps objects o _ refl) (named_keeps objects site key pattern_methods)
class_keeps site objects o key x (error name engine) = tt

pub set_keeps : (site : ℕ) (base : Value) (key : Text) (x : Value) (objects : List Object) →
    WrittenKeeps objects (set_row site base key x objects)
unfolding set_row
set_keeps site undefined key x objects = tt
set_keeps site null key x objects = tt
set_keeps site (truth b) key x objects = tt
set_keeps site (int n) key x objects = tt
set_keeps site nan key x objects = tt
set_keeps site (text t) key x objects = tt
set_keeps site (object o) key x objects = class_keeps site objects o key x (object_at objects o).class
