-- Names, numbers, texts and patterns: what is read is the longest lexeme.
use Rattle.std.proofs.Common.{◌≡◌, ℕ, ◌-◌, ◌≤◌, ◌<◌, Bool, true, false, cond, List, [], ◌∷◌, ◌++◌, length, take, Option, Some, None, refl, sym, ap, subst, ◌∙◌, arith, inl, inr, length-append}
use Rattle.std.specs.Prelude.{◌⊎◌, ◌&&◌, ◌==◌}
use Rattle.std.proofs.lemmas.Bool.{eqb-true, and_parts, cases_lt}
use Rattle.std.proofs.lemmas.List.{take_at}
use Rattle.js_units.specs.Characters.{is_digit, is_name_start, is_name_part}
use Rattle.js_lexer.specs.Classes.{is_quote}
use Rattle.js_lexer.specs.Runs.{starts, IsRun, skip_while}
use Rattle.js_units.specs.Words.{reserved_words}
use Rattle.js_lexer.specs.Tables.{is_among}
use Rattle.js_lexer.specs.Texts.{IsText, IsQuoted}
use Rattle.js_lexer.specs.Patterns.{IsPattern}
use Rattle.js_lexer.specs.Lexemes.{IsName, Spells}
use Rattle.js_lexer.specs.Words.{Found, name_kind, name_at}
use Rattle.js_lexer.specs.Reading.{wants_pattern, family_of, first_at, TextFound, PatternFound, IsBest, Reads}
use Rattle.js_lexer.specs.declared.token.Goal.{Goal}
use Rattle.js_lexer.specs.declared.token.Goal.TheVariants as goals
use Rattle.js_lexer.specs.declared.token.TokenKind.TheVariants as k
use Rattle.js_lexer.specs.declared.token.Lexeme.{Lexeme}
use Rattle.js_lexer.specs.declared.token.Lexeme.TheVariants as lexeme
use Rattle.js_lexer.specs.declared.lexer.Family.{Family}
use Rattle.js_lexer.specs.declared.lexer.Family.TheVariants as family
use Rattle.js_lexer.proofs.Spans.{run_of, run_longest}
use Rattle.js_lexer.proofs.Closing.{quoted_same}
use Rattle.js_lexer.proofs.PatternEnds.{pattern_same}
use Rattle.js_lexer.proofs.Families.{family_at, spelt_family}

pub first_is : (units : List ℕ) (x : ℕ × List ℕ) → first_at units ≡ Some x → units ≡ x.0 ∷ x.1
first_is [] x e = absurd cc
first_is (u ∷ us) x e = cc

-- the same units in front of as many
pub append_same : (a b c d : List ℕ) → a ++ b ≡ c ++ d → length b ≡ length d → (a ≡ c) × (b ≡ d)
append_same [] b [] d e l = (refl, e)
append_same [] b (y ∷ c) d e l = absurd (omega (arith, ap length e, length-append (y ∷ c) d))
append_same (x ∷ a) b [] d e l = absurd (omega (arith, ap length e, length-append (x ∷ a) b))
append_same (x ∷ a) b (y ∷ c) d e l =
    let tail : a ++ b ≡ c ++ d = cc in
    let more = append_same a b c d tail l in
    let head : x ≡ y = cc in
    ((λ i. head i ∷ more.0 i), more.1)

-- ---- the end

pub best_finish : (g : Goal) (s : Bool) (units : List ℕ) → first_at units ≡ None → IsBest g s (lexeme.Token k.Finish) units units
best_finish g s [] e = record { spelt = (refl, refl); others = finish_others }
  where
    finish_others : (other : Lexeme) (behind : List ℕ) → Spells g s other [] behind → (0 < length behind) ⊎ ((other ≡ lexeme.Token k.Finish) × (behind ≡ []))
    finish_others (lexeme.Token k.Finish) behind h = inr (refl, h.1)
    finish_others other behind h = absurd (let f = spelt_family g s other [] behind h in cc)
best_finish g s (u ∷ us) e = absurd cc

-- ---- names

name_start_by : (g : Goal) (u : ℕ) (a b c d : Bool) → is_name_start u ≡ a → cond a family.Name (cond b family.Number (cond c family.Text (cond d family.Pattern family.Mark))) ≡ family.Name → is_name_start u ≡ true
name_start_by g u true b c d ea e = ea
name_start_by g u false true c d ea e = absurd cc
name_start_by g u false false true d ea e = absurd cc
name_start_by g u false false false true ea e = absurd cc
name_start_by g u false false false false ea e = absurd cc

name_start : (g : Goal) (u : ℕ) → family_of g u ≡ family.Name → is_name_start u ≡ true
unfolding family_of
name_start g u e = name_start_by g u (is_name_start u) (is_digit u) (is_quote u) (u == 47 && wants_pattern g) refl e

start_part : (u : ℕ) → is_name_start u ≡ true → is_name_part u ≡ true
unfolding is_name_part
start_part u e = rw e refl

run_starts : (u : ℕ) (us run rest : List ℕ) → is_name_start u ≡ true → IsRun is_name_part (u ∷ us) run rest → starts is_name_start run ≡ true
run_starts u us [] rest e h = absurd (let a : is_name_part u ≡ starts is_name_part rest = ap (starts is_name_part) h.units_are in let b = start_part u e in let d = h.ends in cc)
run_starts u us (v ∷ run) rest e h = let same : u ≡ v = let f = h.units_are in cc in ap is_name_start (sym same) ∙ e

take_front : (units run rest : List ℕ) → units ≡ run ++ rest → take (length units - length rest) units ≡ run
take_front units run rest e = ap (λ q. take (length q - length rest) q) e ∙ take_at run rest (length (run ++ rest) - length rest) (omega (arith, length-append run rest))

name_spelt : (g : Goal) (s b : Bool) (units rest : List ℕ) → IsName b units rest → Spells g s (name_kind b) units rest
name_spelt g s true units rest h = h
name_spelt g s false units rest h = h

name_same : (b d : Bool) (units rest behind : List ℕ) → IsName b units rest → IsName d units behind → length behind ≡ length rest → (name_kind d ≡ name_kind b) × (behind ≡ rest)
name_same b d units rest behind h f l =
    let same = append_same f.name behind h.name rest (sym f.units_are ∙ h.units_are) l in
    (ap name_kind (sym f.reserved_is ∙ ap (is_among reserved_words) same.0 ∙ h.reserved_is), same.1)

name_other : (b d : Bool) (units rest behind : List ℕ) → rest ≡ skip_while is_name_part units → IsName b units rest → IsName d units behind → (length rest < length behind) ⊎ ((name_kind d ≡ name_kind b) × (behind ≡ rest))
name_other b d units rest behind e h f =
    let low : length rest ≤ length behind = subst (λ (q : List ℕ). length q ≤ length behind) (sym e) (run_longest is_name_part units f.name behind f.units_are f.goes_on) in
    elim (cases_lt (length rest) (length behind)) [ inl l ↦ inl l | inr l ↦ inr (name_same b d units rest behind h f (omega arith)) ]

name_best : (g : Goal) (s b : Bool) (units rest : List ℕ) → family_at g units ≡ Some family.Name → rest ≡ skip_while is_name_part units → IsName b units rest → IsBest g s (name_kind b) units rest
name_best g s b units rest f e h = record { spelt = name_spelt g s b units rest h; others = name_others }
  where
    name_others : (other : Lexeme) (behind : List ℕ) → Spells g s other units behind → (length rest < length behind) ⊎ ((other ≡ name_kind b) × (behind ≡ rest))
    name_others (lexeme.Token k.Name) behind q = name_other b false units rest behind e h q
    name_others (lexeme.Token k.Word) behind q = name_other b true units rest behind e h q
    name_others other behind q = absurd (let d = spelt_family g s other units behind q in cc)

some_is : (x y : Family) → Some x ≡ Some y → x ≡ y
some_is x y e = cc

name_run : (g : Goal) (units : List ℕ) → family_at g units ≡ Some family.Name → (run : List ℕ) → IsRun is_name_part units run (skip_while is_name_part units) → starts is_name_start run ≡ true
name_run g [] f run h = absurd cc
name_run g (u ∷ us) f run h = run_starts u us run (skip_while is_name_part (u ∷ us)) (name_start g u (some_is (family_of g u) family.Name f)) h

pub best_name : (g : Goal) (s : Bool) (units : List ℕ) (x : Found) → family_at g units ≡ Some family.Name → x ≡ name_at units → IsBest g s x.0 units x.1
unfolding name_at
best_name g s units x f e =
    let rest = skip_while is_name_part units in
    let run = run_of is_name_part units in
    let front = take_front units run.0 (skip_while is_name_part units) run.1.units_are in
    let b = is_among reserved_words run.0 in
    let is : IsName b units rest = record { name = run.0; units_are = run.1.units_are; begins = name_run g units f run.0 run.1; goes_on = run.1.all; reserved_is = refl } in
    let same : (name_kind (is_among reserved_words run.0), skip_while is_name_part units) ≡ x = ap (λ q. (name_kind (is_among reserved_words q), skip_while is_name_part units)) (sym front) ∙ sym e in
    subst (λ (q : Found). IsBest g s q.0 units q.1) same (name_best g s (is_among reserved_words run.0) units (skip_while is_name_part units) f refl is)

-- ---- texts

pub text_quoted : (quote : ℕ) (inside value behind : List ℕ) → IsText (quote ∷ inside) value behind → IsQuoted quote inside value behind
text_quoted quote inside value behind h =
    let head : h.quote ≡ quote = let e = h.units_are in cc in
    let tail : h.inside ≡ inside = let e = h.units_are in cc in
    subst (λ (q : ℕ). IsQuoted q inside value behind) head (subst (λ (q : List ℕ). IsQuoted h.quote q value behind) tail h.quoted)

quote_by : (g : Goal) (u : ℕ) (a b c d : Bool) → is_quote u ≡ c → cond a family.Name (cond b family.Number (cond c family.Text (cond d family.Pattern family.Mark))) ≡ family.Text → is_quote u ≡ true
quote_by g u a b true d ec e = ec
quote_by g u true b false d ec e = absurd cc
quote_by g u false true false d ec e = absurd cc
quote_by g u false false false true ec e = absurd cc
quote_by g u false false false false ec e = absurd cc

quote_is : (g : Goal) (u : ℕ) → family_of g u ≡ family.Text → is_quote u ≡ true
unfolding family_of
quote_is g u e = quote_by g u (is_name_start u) (is_digit u) (is_quote u) (u == 47 && wants_pattern g) refl e

text_best : (g : Goal) (s : Bool) (quote : ℕ) (inside value rest : List ℕ) → family_of g quote ≡ family.Text → IsQuoted quote inside value rest → IsBest g s (lexeme.Token k.Text) (quote ∷ inside) rest
text_best g s quote inside value rest f h = record { spelt = (value, record { quote = quote; inside = inside; is_quote = quote_is g quote f; units_are = refl; quoted = h }); others = text_others }
  where
    text_others : (other : Lexeme) (behind : List ℕ) → Spells g s other (quote ∷ inside) behind → (length rest < length behind) ⊎ ((other ≡ lexeme.Token k.Text) × (behind ≡ rest))
    text_others (lexeme.Token k.Text) behind q = inr (refl, (quoted_same quote inside value rest q.0 behind h (text_quoted quote inside q.0 behind q.1)).rest_is)
    text_others other behind q = absurd (let d = spelt_family g s other (quote ∷ inside) behind q in cc)

text_reads : (g : Goal) (s : Bool) (quote : ℕ) (inside : List ℕ) (r : Option Found) → family_of g quote ≡ family.Text → TextFound quote inside r → Reads g s (quote ∷ inside) r
text_reads g s quote inside (Some x) f h = subst (λ (q : Lexeme). IsBest g s q (quote ∷ inside) x.1) (sym h.0) (text_best g s quote inside h.1.0 x.1 f h.1.1)
text_reads g s quote inside None f h = text_none
  where
    text_none : (x : Lexeme) (rest : List ℕ) → Spells g s x (quote ∷ inside) rest → ⊥
    text_none (lexeme.Token k.Text) rest q = h rest (q.0, text_quoted quote inside q.0 rest q.1)
    text_none x rest q = absurd (let d = spelt_family g s x (quote ∷ inside) rest q in cc)

pub reads_text : (g : Goal) (s : Bool) (units : List ℕ) (quote : ℕ) (inside : List ℕ) (r : Option Found) → units ≡ quote ∷ inside → family_of g quote ≡ family.Text → TextFound quote inside r → Reads g s units r
reads_text g s units quote inside r e f h = subst (λ (q : List ℕ). Reads g s q r) (sym e) (text_reads g s quote inside r f h)

-- ---- patterns

pattern_goal : (g : Goal) (u : ℕ) → (u == 47 && wants_pattern g) ≡ true → (u ≡ 47) × (g ≡ goals.Pattern)
pattern_goal goals.Division u e = absurd (let none = (and_parts (u == 47) false e).1 in cc)
pattern_goal goals.Pattern u e = (eqb-true u 47 (and_parts (u == 47) true e).0, refl)

slash_by : (g : Goal) (u : ℕ) (a b c d : Bool) → (u == 47 && wants_pattern g) ≡ d → cond a family.Name (cond b family.Number (cond c family.Text (cond d family.Pattern family.Mark))) ≡ family.Pattern → (u ≡ 47) × (g ≡ goals.Pattern)
slash_by g u a b c true ed e = pattern_goal g u ed
slash_by g u true b c false ed e = absurd cc
slash_by g u false true c false ed e = absurd cc
slash_by g u false false true false ed e = absurd cc
slash_by g u false false false false ed e = absurd cc

slash_is : (g : Goal) (u : ℕ) → family_of g u ≡ family.Pattern → (u ≡ 47) × (g ≡ goals.Pattern)
unfolding family_of
slash_is g u e = slash_by g u (is_name_start u) (is_digit u) (is_quote u) (u == 47 && wants_pattern g) refl e

pattern_best : (g : Goal) (s : Bool) (inside body flags rest : List ℕ) → g ≡ goals.Pattern → family_of g 47 ≡ family.Pattern → IsPattern (47 ∷ inside) body flags rest → IsBest g s (lexeme.Token k.Pattern) (47 ∷ inside) rest
pattern_best g s inside body flags rest e f h = record { spelt = (e, (body, flags, h)); others = pattern_others }
  where
    pattern_others : (other : Lexeme) (behind : List ℕ) → Spells g s other (47 ∷ inside) behind → (length rest < length behind) ⊎ ((other ≡ lexeme.Token k.Pattern) × (behind ≡ rest))
    pattern_others (lexeme.Token k.Pattern) behind q = inr (refl, pattern_same inside body flags rest q.1.0 q.1.1 behind h q.1.2)
    pattern_others other behind q = absurd (let d = spelt_family g s other (47 ∷ inside) behind q in cc)

pattern_reads : (g : Goal) (s : Bool) (inside : List ℕ) (r : Option Found) → g ≡ goals.Pattern → family_of g 47 ≡ family.Pattern → PatternFound inside r → Reads g s (47 ∷ inside) r
pattern_reads g s inside (Some x) e f h = subst (λ (q : Lexeme). IsBest g s q (47 ∷ inside) x.1) (sym h.0) (pattern_best g s inside h.1.0 h.1.1 x.1 e f h.1.2)
pattern_reads g s inside None e f h = pattern_none
  where
    pattern_none : (x : Lexeme) (rest : List ℕ) → Spells g s x (47 ∷ inside) rest → ⊥
    pattern_none (lexeme.Token k.Pattern) rest q = h q.1.0 q.1.1 rest q.1.2
    pattern_none x rest q = absurd (let d = spelt_family g s x (47 ∷ inside) rest q in cc)

pub reads_pattern : (g : Goal) (s : Bool) (units : List ℕ) (u : ℕ) (inside : List ℕ) (r : Option Found) → units ≡ u ∷ inside → family_of g u ≡ family.Pattern → PatternFound inside r → Reads g s units r
reads_pattern g s units u inside r e f h =
    let parts = slash_is g u f in
    let here : family_of g 47 ≡ family.Pattern = subst (λ (q : ℕ). family_of g q ≡ family.Pattern) parts.0 f in
    let same : units ≡ 47 ∷ inside = e ∙ ap (λ q. q ∷ inside) parts.0 in
    subst (λ (q : List ℕ). Reads g s q r) (sym same) (pattern_reads g s inside r parts.1 here h)
