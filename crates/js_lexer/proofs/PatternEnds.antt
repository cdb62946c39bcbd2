-- Patterns up to the end of their flags.
use Rattle.std.proofs.Common.{◌≡◌, ℕ, Bool, true, false, List, [], ◌∷◌, ◌++◌, Some, refl, sym, ap, subst, ◌∙◌}
use Rattle.js_lexer.specs.Classes.{is_flag}
use Rattle.js_lexer.specs.Runs.{starts, skip_while}
use Rattle.js_lexer.specs.Patterns.{class_behind, IsBody, body_closes, body_unit, body_escape, begins_comment, IsPattern}
use Rattle.js_lexer.specs.Bodies.{PatternEndsAt}
use Rattle.js_lexer.proofs.Spans.{run_of, run_only}
use Rattle.js_lexer.proofs.Slashes.{body_same}

-- the body, and the slash behind it
record IsSplit (units rest : List ℕ) : Type 0 where
  body : List ℕ
  units_are : units ≡ body ++ 47 ∷ rest

split_more : (u : ℕ) (units rest : List ℕ) → IsSplit units rest → IsSplit (u ∷ units) rest
split_more u units rest h = record { body = u ∷ h.body; units_are = ap (λ q. u ∷ q) h.units_are }

body_split : (c : Bool) (units rest : List ℕ) → IsBody c units rest → IsSplit units rest
body_split _ _ _ (body_closes rest) = record { body = []; units_are = refl }
body_split c _ _ (body_unit _ u units rest h more) = split_more u units rest (body_split (class_behind c u) units rest more)
body_split c _ _ (body_escape _ u units rest h more) = split_more 92 (u ∷ units) rest (split_more u units rest (body_split c units rest more))

pub pattern_some : (units behind : List ℕ) → starts begins_comment units ≡ false → IsBody false units behind → PatternEndsAt units (Some (skip_while is_flag behind))
pattern_some units behind apart b =
    let s = body_split false units behind b in
    let flags = run_of is_flag behind in (
      s.body,
      flags.0,
      record {
        behind = behind;
        units_are = ap (λ q. 47 ∷ q) s.units_are;
        begins = subst (λ (q : List ℕ). starts begins_comment q ≡ false) s.units_are apart;
        closes = subst (λ (q : List ℕ). IsBody false q behind) s.units_are b;
        flags_are = flags.1;
      },
    )

tail_is : (u v : ℕ) (us vs : List ℕ) → u ∷ us ≡ v ∷ vs → us ≡ vs
tail_is u v us vs e = cc

-- the units behind the slash, in a pattern
pub inside_is : (units body flags rest : List ℕ) → (p : IsPattern (47 ∷ units) body flags rest) → units ≡ body ++ 47 ∷ p.behind
inside_is units body flags rest p = tail_is 47 47 units (body ++ 47 ∷ p.behind) p.units_are

pub pattern_body : (units body flags rest : List ℕ) → (p : IsPattern (47 ∷ units) body flags rest) → IsBody false units p.behind
pattern_body units body flags rest p = subst (λ (q : List ℕ). IsBody false q p.behind) (sym (inside_is units body flags rest p)) p.closes

pub pattern_comment : (units : List ℕ) → starts begins_comment units ≡ true → (body flags rest : List ℕ) → IsPattern (47 ∷ units) body flags rest → ⊥
pattern_comment units e body flags rest p = let same = ap (starts begins_comment) (inside_is units body flags rest p) in let apart = p.begins in cc

pub pattern_none : (units : List ℕ) → ((rest : List ℕ) → IsBody false units rest → ⊥) → (body flags rest : List ℕ) → IsPattern (47 ∷ units) body flags rest → ⊥
pattern_none units none body flags rest p = none p.behind (pattern_body units body flags rest p)

-- one pattern at most
pub pattern_same : (units body flags rest other more behind : List ℕ) → IsPattern (47 ∷ units) body flags rest → IsPattern (47 ∷ units) other more behind → behind ≡ rest
pattern_same units body flags rest other more behind p q =
    let same = body_same false units p.behind q.behind (pattern_body units body flags rest p) (pattern_body units other more behind q) in
    sym (run_only is_flag q.behind more behind q.flags_are) ∙ ap (skip_while is_flag) same ∙ run_only is_flag p.behind flags rest p.flags_are
