-- The lines of terms: `t`, the term's number, and its words. A part of a term is `t` and the number of an earlier one.
use Rattle.std.specs.Prelude.{◌≡◌, ◌≤◌, ◌<◌, ◌⊎◌, ◌&&◌, ◌||◌, ℕ, suc, ◌-◌, ◌^◌, ◌==◌, nat_le, ℤ, List, [], ◌∷◌, ◌++◌, length, take, codes, decimal, map, Option, Some, None, if◌then◌else◌, true}
use Rattle.std.specs.Fmt.{signed_decimal}
use Rattle.js_units.specs.Quoted.{quoted}
use Rattle.js_units.specs.Unquoted.{are_units, quoted_at}
use Rattle.proof_text.specs.Lines.{after, ◌>>=◌}
use Rattle.proof_text.specs.Numbers.{IsBetween, number_at, not_zero}
use Rattle.report_text.specs.Parts.{one_of, short_at}
use Rattle.report_text.specs.declared.parts.Shape.{Shape}
use Rattle.report_text.specs.declared.parts.Shape.TheVariants as shapes
use Rattle.report_text.specs.declared.parts.BitsOp.{BitsOp}
use Rattle.report_text.specs.declared.parts.BitsOp.TheVariants as ops
use Rattle.report_text.specs.declared.parts.TheConstants.{BITS}
use Rattle.report_text.specs.declared.terms.TheConstants.{TERMS}

-- ---- what stands behind a word

pub data Part : Type 0 where
  earlier_term : Part
  short_number : Part
  truth_digit : Part
  whole_number : Part
  quoted_text : Part
  bits_word : Part

abbrev pub parts_of : Shape → List Part
parts_of shapes.Flag = truth_digit ∷ []
parts_of shapes.Int = whole_number ∷ []
parts_of shapes.Text = quoted_text ∷ []
parts_of shapes.Short = short_number ∷ []
parts_of shapes.One = earlier_term ∷ []
parts_of shapes.Two = earlier_term ∷ earlier_term ∷ []
parts_of shapes.Three = earlier_term ∷ earlier_term ∷ earlier_term ∷ []
parts_of shapes.Bits = bits_word ∷ earlier_term ∷ earlier_term ∷ []
parts_of shapes.Exec = short_number ∷ earlier_term ∷ earlier_term ∷ []
parts_of shapes.Nth = earlier_term ∷ short_number ∷ []

abbrev pub op_text : BitsOp → List ℕ
op_text ops.And = codes "and"
op_text ops.Or = codes "or"
op_text ops.Xor = codes "xor"
op_text ops.Shl = codes "shl"
op_text ops.Shr = codes "shr"
op_text ops.Ushr = codes "ushr"

-- the text of a part, where so many terms are earlier
abbrev pub IsPart : ℕ → Part → List ℕ → Type 0
IsPart earlier earlier_term said = (n : ℕ) × (1 ≤ n) × (n ≤ earlier) × (n < 2 ^ 64) × (said ≡ codes " t" ++ decimal n)
IsPart earlier short_number said = (n : ℕ) × (n < 2 ^ 32) × (said ≡ codes " " ++ decimal n)
IsPart earlier truth_digit said = (said ≡ codes " 0") ⊎ (said ≡ codes " 1")
IsPart earlier whole_number said = (z : ℤ) × IsBetween (2 ^ 127) (2 ^ 127 - 1) z × (said ≡ codes " " ++ signed_decimal z)
IsPart earlier quoted_text said = (units : List ℕ) × (are_units units ≡ true) × (said ≡ codes " " ++ quoted units)
IsPart earlier bits_word said = (op : BitsOp) × (said ≡ codes " " ++ op_text op)

-- one behind another
abbrev pub AreParts : ℕ → List Part → List ℕ → Type 0
AreParts earlier [] said = said ≡ []
AreParts earlier (part ∷ parts) said = (first : List ℕ) × (others : List ℕ) × IsPart earlier part first × AreParts earlier parts others × (said ≡ first ++ others)

-- ---- terms

-- the words, and what stands behind each
unfoldable pub words_told : List (List ℕ × Shape)
words_told = map (λ e. (e.0.now, e.1)) TERMS

abbrev pub Among : List ℕ → Shape → List (List ℕ × Shape) → Type 0
Among word shape [] = ⊥
Among word shape (e ∷ es) = ((word ≡ e.0) × (shape ≡ e.1)) ⊎ Among word shape es

-- the text of a term behind so many earlier ones
pub record IsTerm (earlier : ℕ) (said : List ℕ) : Type 0 where
  pub number_long : suc earlier < 2 ^ 64
  pub word : List ℕ
  pub shape : Shape
  pub among : Among word shape words_told
  pub parts : List ℕ
  pub are_parts : AreParts earlier (parts_of shape) parts
  pub said_is : said ≡ codes "t " ++ decimal (suc earlier) ++ codes " " ++ word ++ parts

-- behind so many earlier ones
abbrev pub AreTerms : ℕ → List (List ℕ) → Type 0
AreTerms earlier [] = Unit {0}
AreTerms earlier (term ∷ rest) = IsTerm earlier term × AreTerms (suc earlier) rest

-- ---- read from left to right

abbrev pub behind : {X : Type 0} → Option (X × List ℕ) → Option (List ℕ)
behind None = None
behind (Some r) = Some r.1

-- a whole number of 128 bits, with its sign
unfoldable pub int_at : List ℕ → Option (List ℕ)
int_at [] = None
int_at (b ∷ bs) = if b == 45 then behind (not_zero (number_at (2 ^ 127) bs)) else behind (number_at (2 ^ 127 - 1) (b ∷ bs))

abbrev pub within : ℕ → Option (ℕ × List ℕ) → Option (List ℕ)
within earlier None = None
within earlier (Some r) = if nat_le 1 r.0 && nat_le r.0 earlier then Some r.1 else None

abbrev pub earlier_at : ℕ → List ℕ → Option (List ℕ)
earlier_at earlier list = do
  start ← after (codes " t") list
  within earlier (number_at (2 ^ 64 - 1) start)

abbrev pub short_part_at : List ℕ → Option (List ℕ)
short_part_at list = do
  start ← after (codes " ") list
  behind (short_at start)

unfoldable pub bit_at : List ℕ → Option (List ℕ)
bit_at [] = None
bit_at (b ∷ bs) = if b == 48 || b == 49 then Some bs else None

abbrev pub truth_at : List ℕ → Option (List ℕ)
truth_at list = do
  start ← after (codes " ") list
  bit_at start

abbrev pub int_part_at : List ℕ → Option (List ℕ)
int_part_at list = do
  start ← after (codes " ") list
  int_at start

abbrev pub text_part_at : List ℕ → Option (List ℕ)
text_part_at list = do
  start ← after (codes " ") list
  behind (quoted_at start)

unfoldable pub bits_told : List (List ℕ × BitsOp)
bits_told = map (λ e. (e.0.now, e.1)) BITS

abbrev pub bits_at : List ℕ → Option (List ℕ)
bits_at list = do
  start ← after (codes " ") list
  behind (one_of bits_told start)

abbrev pub part_at : ℕ → Part → List ℕ → Option (List ℕ)
part_at earlier earlier_term list = earlier_at earlier list
part_at earlier short_number list = short_part_at list
part_at earlier truth_digit list = truth_at list
part_at earlier whole_number list = int_part_at list
part_at earlier quoted_text list = text_part_at list
part_at earlier bits_word list = bits_at list

abbrev pub parts_at : ℕ → List Part → List ℕ → Option (List ℕ)
parts_at earlier [] list = Some list
parts_at earlier (part ∷ parts) list = do
  rest ← part_at earlier part list
  parts_at earlier parts rest

-- the number behind so many
abbrev pub numbered : ℕ → Option (ℕ × List ℕ) → Option (List ℕ)
numbered earlier None = None
numbered earlier (Some r) = if r.0 == suc earlier then Some r.1 else None

abbrev pub front_at : ℕ → List ℕ → Option (List ℕ)
front_at earlier list = do
  start ← after (codes "t ") list
  rest ← numbered earlier (number_at (2 ^ 64 - 1) start)
  after (codes " ") rest

unfoldable pub words_at : ℕ → List ℕ → Option (List ℕ)
words_at earlier list = do
  start ← front_at earlier list
  word ← one_of words_told start
  parts_at earlier (parts_of word.0) word.1

-- the text up to the line's end
unfoldable pub term_at : ℕ → List ℕ → Option (List ℕ × List ℕ)
term_at earlier list = do
  left ← words_at earlier list
  rest ← after (codes "\n") left
  Some (take (length list - length left) list, rest)
