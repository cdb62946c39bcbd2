-- Where statements end.
use Rattle.std.proofs.Common.{◌≡◌, ℕ, ◌<◌, Bool, true, false, cond, not, ◌&&◌, ◌||◌, List, [], ◌∷◌, ◌++◌, Some, None, refl, subst, ◌∙◌, arith, inl, inr}
use Rattle.js_ast.specs.declared.expression.Expr.{Expr}
use Rattle.js_ast.specs.declared.statement.Stmt.{Stmt}
use Rattle.js_ast.specs.declared.statement.Stmt.TheVariants as stmt
use Rattle.js_grammar.specs.declared.token.Token.{Token}
use Rattle.js_grammar.specs.declared.token.TokenKind.{TokenKind}
use Rattle.js_grammar.specs.declared.token.TokenKind.TheVariants as k
use Rattle.js_grammar.specs.declared.token.Word.TheVariants as word
use Rattle.js_grammar.specs.Phrases.{starts, is_else, Tail, no_expression, call, step, braces, continues, is_close_brace, is_semicolon, may_end, IsEnd, IsDoEnd}
use Rattle.js_reading.specs.declared.frame.Frame.{Frame}
use Rattle.js_reading.specs.declared.frame.Frame.TheVariants as frame
use Rattle.js_reading.specs.declared.frame.Part.{Part}
use Rattle.js_reading.specs.declared.frame.Part.TheVariants as part
use Rattle.js_reading.specs.declared.frame.Below.{Below}
use Rattle.js_reading.specs.declared.frame.Braces.{Braces}
use Rattle.js_reading.specs.declared.frame.Braces.TheVariants as list
use Rattle.js_reading.specs.declared.mode.Mode.TheVariants as mode
use Rattle.js_reading.specs.declared.mode.Operand.{Operand}
use Rattle.js_reading.specs.declared.mode.Ending.TheVariants as ending
use Rattle.js_reading.specs.declared.mode.Parser.{Parser}
use Rattle.js_reading.specs.Frames.{when, depth}
use Rattle.js_reading.specs.Operands.{at, reached, value_of, tail_of, want}
use Rattle.js_reading.specs.Statements.{joined, waits, settle, of_part, over, item, next_item, after, semicolon_part, ends_bare, do_on, jump_on, return_on}
use Rattle.js_reading.specs.Reading.{ends_before, ends_by, operand_on, ended, no_more}
use Rattle.js_laws.proofs.Steps.{Leads, take, Same, alike}
use Rattle.js_laws.proofs.WaitingFrames.{grip_by, grip}
use Rattle.js_laws.proofs.ReadParts.{ends_loose, on_loose}

-- ---- tokens that begin no statement

abbrev pub strays : TokenKind → Bool
strays k.Arrow = true
strays k.CloseRound = true
strays k.CloseSquare = true
strays k.Comma = true
strays k.Colon = true
strays (k.Assign o) = true
strays (k.Word word.Finally units) = true
strays _ = false

next_none : (site : ℕ) (s : Stmt) (ks : List Frame) (kind : TokenKind) → strays kind ≡ true → next_item site s ks kind ≡ None
next_none site s (frame.List b body ∷ ks) k.Arrow h = refl
next_none site s (frame.List b body ∷ ks) k.CloseRound h = refl
next_none site s (frame.List b body ∷ ks) k.CloseSquare h = refl
next_none site s (frame.List b body ∷ ks) k.Comma h = refl
next_none site s (frame.List b body ∷ ks) k.Colon h = refl
next_none site s (frame.List b body ∷ ks) (k.Assign o) h = refl
next_none site s (frame.List b body ∷ ks) (k.Word word.Finally units) h = refl
next_none site s (frame.List b body ∷ ks) (k.Word _ units) h = absurd cc
next_none site s (frame.List b body ∷ ks) _ h = absurd cc
next_none site s [] kind h = refl
next_none site s (_ ∷ ks) kind h = refl

pub after_none : (site : ℕ) (s : Stmt) (ks : List Frame) (kind : TokenKind) → strays kind ≡ true → after site s ks kind ≡ None
after_none site s ks k.Arrow h = next_none site (settle false s ks).value (settle false s ks).frames k.Arrow refl
after_none site s ks k.CloseRound h = next_none site (settle false s ks).value (settle false s ks).frames k.CloseRound refl
after_none site s ks k.CloseSquare h = next_none site (settle false s ks).value (settle false s ks).frames k.CloseSquare refl
after_none site s ks k.Comma h = next_none site (settle false s ks).value (settle false s ks).frames k.Comma refl
after_none site s ks k.Colon h = next_none site (settle false s ks).value (settle false s ks).frames k.Colon refl
after_none site s ks (k.Assign o) h = next_none site (settle false s ks).value (settle false s ks).frames (k.Assign o) refl
after_none site s ks (k.Word word.Finally units) h = next_none site (settle false s ks).value (settle false s ks).frames (k.Word word.Finally units) refl
after_none site s ks (k.Word _ units) h = absurd cc
after_none site s ks _ h = absurd cc

pub no_after : (site : ℕ) (s : Stmt) (ks : List Frame) (r : Parser) (kind : TokenKind) → strays kind ≡ true → after site s ks kind ≡ Some r → ⊥
no_after site s ks r kind h j = cc (after_none site s ks kind h)

-- ---- statements that are over

after_list : (site : ℕ) (s : Stmt) (b : Braces) (body : List Stmt) (ks : List Frame) (kind : TokenKind) → after site s (frame.List b body ∷ ks) kind ≡ item site (frame.List b (body ++ s ∷ []) ∷ ks) kind
after_list site s b body ks (k.Word word.Else units) = refl
after_list site s b body ks (k.Word word.While units) = refl
after_list site s b body ks (k.Word _ units) = refl
after_list site s b body ks _ = refl

ended_list : (s : Stmt) (b : Braces) (body : List Stmt) (ks : List Frame) → ended s (frame.List b body ∷ ks) ≡ no_more (frame.List b (body ++ s ∷ []) ∷ ks)
ended_list s list.Script body [] = refl
ended_list s list.Script body (_ ∷ ks) = refl
ended_list s _ body ks = refl

-- the next token begins the next statement
pub over_list : (P : ℕ → Type 0) (rest : List Token) (s : Stmt) (b : Braces) (body : List Stmt) (ks : List Frame) → Leads P rest (over s (frame.List b body ∷ ks)) rest (at mode.Statement (frame.List b (body ++ s ∷ []) ∷ ks))
over_list P rest s b body ks = alike (record {
  steps = λ t left e r j. after_list t.start s b body ks t.kind ∙ j;
  ends = λ e z j. ended_list s b body ks ∙ j;
})

after_below : (site : ℕ) (s : Stmt) (b : Below) (ks : List Frame) (kind : TokenKind) → waits (is_else kind) b ≡ false → after site s (frame.Below b ∷ ks) kind ≡ after site (joined b s) ks kind
after_below site s b ks (k.Word word.Else units) h = rw h refl
after_below site s b ks (k.Word word.While units) h = rw h refl
after_below site s b ks (k.Word _ units) h = rw h refl
after_below site s b ks _ h = rw h refl

waits_at : {rest : List Token} {t : Token} {left : List Token} (b : Below) → waits (starts is_else rest) b ≡ false → rest ≡ t ∷ left → waits (is_else t.kind) b ≡ false
waits_at b h e = rw e at h

waits_end : {rest : List Token} (b : Below) → waits (starts is_else rest) b ≡ false → rest ≡ [] → waits false b ≡ false
waits_end b h e = rw e at h

-- the statement around it is over too
pub over_below : (P : ℕ → Type 0) (rest : List Token) (s : Stmt) (b : Below) (ks : List Frame) → waits (starts is_else rest) b ≡ false → Leads P rest (over s (frame.Below b ∷ ks)) rest (over (joined b s) ks)
over_below P rest s b ks h = alike (record {
  steps = λ t left e r j. after_below t.start s b ks t.kind (waits_at b h e) ∙ j;
  ends = λ e z j. rw (waits_end b h e) j;
})

-- ---- where no semicolon is needed

abbrev pub may_end_by : Tail → Bool → TokenKind → Bool
may_end_by t line kind = is_close_brace kind || (line && not (is_semicolon kind) && not (continues t kind))

pub may_at : (t : Tail) {ts : List Token} {u : Token} {left : List Token} → may_end t ts ≡ true → ts ≡ u ∷ left → may_end_by t u.line_before u.kind ≡ true
may_at t h e = rw e at h

pub not_flip : (b : Bool) → not b ≡ true → b ≡ false
not_flip true h = absurd cc
not_flip false h = refl

pub bare_ends : (t : Tail) (line : Bool) (kind : TokenKind) → may_end_by t line kind ≡ true → ends_bare line kind ≡ true
bare_ends t true k.CloseBrace h = refl
bare_ends t true _ h = refl
bare_ends t false k.CloseBrace h = refl
bare_ends t false _ h = absurd cc

pub no_semicolon : (t : Tail) (line : Bool) (kind : TokenKind) → may_end_by t line kind ≡ true → is_semicolon kind ≡ false
no_semicolon t true k.Semicolon h = absurd cc
no_semicolon t false k.Semicolon h = absurd cc
no_semicolon t line _ h = refl

may_grip : (t : Tail) (line : Bool) (kind : TokenKind) → may_end_by t line kind ≡ true → 12 < grip_by t line kind
may_grip no_expression line kind h = omega arith
may_grip braces line kind h = omega arith
may_grip call true (k.Binary o) h = absurd cc
may_grip call true (k.Logical o) h = absurd cc
may_grip call true (k.Assign o) h = absurd cc
may_grip call true k.Question h = absurd cc
may_grip call true k.Dot h = absurd cc
may_grip call true k.OpenRound h = absurd cc
may_grip call true k.OpenSquare h = absurd cc
may_grip call true k.Arrow h = omega arith
may_grip call true (k.Step o) h = omega arith
may_grip call true _ h = omega arith
may_grip call false k.CloseBrace h = omega arith
may_grip call false _ h = absurd cc
may_grip step true (k.Binary o) h = absurd cc
may_grip step true (k.Logical o) h = absurd cc
may_grip step true k.Question h = absurd cc
may_grip step true _ h = omega arith
may_grip step false k.CloseBrace h = omega arith
may_grip step false _ h = absurd cc

may_end_grip : (t : Tail) (ts : List Token) → may_end t ts ≡ true → 12 < grip t ts
may_end_grip t [] h = omega arith
may_end_grip t (u ∷ ts) h = may_grip t u.line_before u.kind h

pub end_grip : (t : Tail) (ts rest : List Token) → IsEnd t ts rest → 12 < grip t ts
end_grip t ts rest (inl h) = ends_loose t h.1 refl
end_grip t ts rest (inr h) = may_end_grip t ts h.1

-- ---- the end behind an expression

continues_not : (t : Tail) (kind : TokenKind) → is_close_brace kind ≡ false → is_semicolon kind ≡ false → may_end_by t true kind ≡ true → continues t kind ≡ false
continues_not t kind h g m = not_flip (continues t kind) (rw (h, g) at m)

line_needed : (t : Tail) (line : Bool) (kind : TokenKind) → is_close_brace kind ≡ false → may_end_by t line kind ≡ true → line ≡ true
line_needed t true kind h m = refl
line_needed t false kind h m = absurd (cc (rw h at m))

part_ends_before : (site start : ℕ) (x : Operand) (p : Part) (e : Expr) (s : Stmt) (ks : List Frame) (kind : TokenKind) → of_part p e ≡ Some s → value_of x ≡ e → ends_before site start x (frame.Part p ∷ ks) kind ≡ after site s ks kind
part_ends_before site start x p e s ks kind o v = rw (v, o) refl

ends_line : (site start : ℕ) (x : Operand) (ks : List Frame) (kind : TokenKind) → strays kind ≡ false → is_close_brace kind ≡ false → is_semicolon kind ≡ false → ends_by true site start x ks kind ≡ ends_before site start x ks kind
ends_line site start x ks k.Arrow h g i = absurd cc
ends_line site start x ks (k.Step o) h g i = refl
ends_line site start x ks k.CloseRound h g i = absurd cc
ends_line site start x ks k.CloseSquare h g i = absurd cc
ends_line site start x ks k.CloseBrace h g i = absurd cc
ends_line site start x ks k.Comma h g i = absurd cc
ends_line site start x ks k.Colon h g i = absurd cc
ends_line site start x ks k.Semicolon h g i = absurd cc
ends_line site start x ks _ h g i = refl

end_line : (t : Tail) (site start : ℕ) (x : Operand) (p : Part) (e : Expr) (s : Stmt) (ks : List Frame) (kind : TokenKind) (r : Parser) → of_part p e ≡ Some s → value_of x ≡ e → tail_of x ≡ t
    → strays kind ≡ false → is_close_brace kind ≡ false → is_semicolon kind ≡ false → may_end_by t true kind ≡ true → after site s ks kind ≡ Some r → operand_on true site start x (frame.Part p ∷ ks) kind ≡ Some r
end_line t site start x p e s ks kind r o v tx h g i m j =
    let c : continues (tail_of x) kind ≡ false = rw tx (continues_not t kind g i m) in
    rw c (ends_line site start x (frame.Part p ∷ ks) kind h g i ∙ part_ends_before site start x p e s ks kind o v ∙ j)

end_other : (t : Tail) (line : Bool) (site start : ℕ) (x : Operand) (p : Part) (e : Expr) (s : Stmt) (ks : List Frame) (kind : TokenKind) (r : Parser) → of_part p e ≡ Some s → value_of x ≡ e → tail_of x ≡ t
    → strays kind ≡ false → is_close_brace kind ≡ false → is_semicolon kind ≡ false → may_end_by t line kind ≡ true → after site s ks kind ≡ Some r → operand_on line site start x (frame.Part p ∷ ks) kind ≡ Some r
end_other t true site start x p e s ks kind r o v tx h g i m j = end_line t site start x p e s ks kind r o v tx h g i m j
end_other t false site start x p e s ks kind r o v tx h g i m j = absurd (cc (line_needed t false kind g m))

end_step : (t : Tail) (line : Bool) (site start : ℕ) (x : Operand) (p : Part) (e : Expr) (s : Stmt) (ks : List Frame) (kind : TokenKind) (r : Parser) → of_part p e ≡ Some s → value_of x ≡ e → tail_of x ≡ t
    → may_end_by t line kind ≡ true → after site s ks kind ≡ Some r → operand_on line site start x (frame.Part p ∷ ks) kind ≡ Some r
end_step t line site start x p e s ks k.CloseBrace r o v tx m j = on_loose line site start x (frame.Part p ∷ ks) k.CloseBrace refl ∙ (rw (v, o) j)
end_step t line site start x p e s ks k.Semicolon r o v tx m j = absurd (cc (no_semicolon t line k.Semicolon m))
end_step t line site start x p e s ks k.Arrow r o v tx m j = absurd (no_after site s ks r k.Arrow refl j)
end_step t line site start x p e s ks k.CloseRound r o v tx m j = absurd (no_after site s ks r k.CloseRound refl j)
end_step t line site start x p e s ks k.CloseSquare r o v tx m j = absurd (no_after site s ks r k.CloseSquare refl j)
end_step t line site start x p e s ks k.Comma r o v tx m j = absurd (no_after site s ks r k.Comma refl j)
end_step t line site start x p e s ks k.Colon r o v tx m j = absurd (no_after site s ks r k.Colon refl j)
end_step t line site start x p e s ks (k.Assign b) r o v tx m j = absurd (no_after site s ks r (k.Assign b) refl j)
end_step t line site start x p e s ks (k.Word word.Finally units) r o v tx m j = absurd (no_after site s ks r (k.Word word.Finally units) refl j)
end_step t line site start x p e s ks (k.Word w units) r o v tx m j = end_other t line site start x p e s ks (k.Word w units) r o v tx refl refl refl m j
end_step t line site start x p e s ks kind r o v tx m j = end_other t line site start x p e s ks kind r o v tx refl refl refl m j

end_nothing : (t : Tail) (ts : List Token) (start : ℕ) (x : Operand) (p : Part) (e : Expr) (s : Stmt) (ks : List Frame) → of_part p e ≡ Some s → value_of x ≡ e → tail_of x ≡ t → may_end t ts ≡ true → Same ts (reached start x (frame.Part p ∷ ks)) (over s ks)
end_nothing t ts start x p e s ks o v tx m = record {
  steps = λ u left i r j. end_step t u.line_before u.start start x p e s ks u.kind r o v tx (may_at t m i) j;
  ends = λ i z j. rw (v, o) j;
}

pub at_same : {P : ℕ → Type 0} {ts : List Token} {p : Parser} {q : Parser} {rest : List Token} → Leads P ts p ts q → ts ≡ rest → Leads P ts p rest q
at_same {P} {ts} {p} {q} {rest} f e = subst (λ (z : List Token). Leads P ts p z q) e f

pub part_ends : (P : ℕ → Type 0) (t : Tail) (ts rest : List Token) (start : ℕ) (x : Operand) (p : Part) (e : Expr) (s : Stmt) (ks : List Frame) (d : ℕ) → of_part p e ≡ Some s → semicolon_part e p ks ≡ Some (over s ks) → value_of x ≡ e → tail_of x ≡ t → depth ks ≡ d → P d → IsEnd t ts rest → Leads P ts (reached start x (frame.Part p ∷ ks)) rest (over s ks)
part_ends P t ts rest start x p e s ks d o so v tx sd n (inl h) = take h.1 (on_loose h.1.line h.0 start x (frame.Part p ∷ ks) k.Semicolon refl ∙ rw v so) n sd
part_ends P t ts rest start x p e s ks d o so v tx sd n (inr h) = at_same (alike (end_nothing t ts start x p e s ks o v tx h.1)) h.0

-- ---- the end where no expression is

jump_step : (line : Bool) (s : Stmt) (site : ℕ) (ks : List Frame) (kind : TokenKind) → is_semicolon kind ≡ false → jump_on line s site ks kind ≡ when (ends_bare line kind) (after site s ks kind)
jump_step line s site ks k.Semicolon h = absurd cc
jump_step line s site ks _ h = refl

pub jump_ends : (P : ℕ → Type 0) (ts rest : List Token) (s : Stmt) (ks : List Frame) (d : ℕ) → depth ks ≡ d → P d → IsEnd no_expression ts rest → Leads P ts (at (mode.Ending (ending.Jump s)) ks) rest (over s ks)
jump_ends P ts rest s ks d sd n (inl h) = take h.1 refl n sd
jump_ends P ts rest s ks d sd n (inr h) = at_same (alike (record {
  steps = λ u left i r j. jump_step u.line_before s u.start ks u.kind (no_semicolon no_expression u.line_before u.kind (may_at no_expression h.1 i)) ∙ rw (bare_ends no_expression u.line_before u.kind (may_at no_expression h.1 i)) j;
  ends = λ i z j. j;
})) h.0

return_step : (line : Bool) (site' site : ℕ) (ks : List Frame) (kind : TokenKind) → is_semicolon kind ≡ false → return_on line site' site ks kind ≡ cond (ends_bare line kind) (after site (stmt.Return site' None) ks kind) (want site (frame.Part (part.Return site') ∷ ks) kind)
return_step line site' site ks k.Semicolon h = absurd cc
return_step line site' site ks _ h = refl

pub return_ends : (P : ℕ → Type 0) (ts rest : List Token) (site : ℕ) (ks : List Frame) (d : ℕ) → depth ks ≡ d → P d → IsEnd no_expression ts rest → Leads P ts (at (mode.Ending (ending.Return site)) ks) rest (over (stmt.Return site None) ks)
return_ends P ts rest site ks d sd n (inl h) = take h.1 refl n sd
return_ends P ts rest site ks d sd n (inr h) = at_same (alike (record {
  steps = λ u left i r j. return_step u.line_before site u.start ks u.kind (no_semicolon no_expression u.line_before u.kind (may_at no_expression h.1 i)) ∙ rw (bare_ends no_expression u.line_before u.kind (may_at no_expression h.1 i)) j;
  ends = λ i z j. j;
})) h.0

do_step : (s : Stmt) (site : ℕ) (ks : List Frame) (kind : TokenKind) → is_semicolon kind ≡ false → do_on s site ks kind ≡ after site s ks kind
do_step s site ks k.Semicolon h = absurd cc
do_step s site ks _ h = refl

pub starts_at : (passes : TokenKind → Bool) {ts : List Token} {u : Token} {left : List Token} → starts passes ts ≡ false → ts ≡ u ∷ left → passes u.kind ≡ false
starts_at passes h e = rw e at h

pub do_ends : (P : ℕ → Type 0) (ts rest : List Token) (s : Stmt) (ks : List Frame) (d : ℕ) → depth ks ≡ d → P d → IsDoEnd ts rest → Leads P ts (at (mode.Ending (ending.Do s)) ks) rest (over s ks)
do_ends P ts rest s ks d sd n (inl h) = take h.1 refl n sd
do_ends P ts rest s ks d sd n (inr h) = at_same (alike (record {
  steps = λ u left i r j. do_step s u.start ks u.kind (starts_at is_semicolon h.1 i) ∙ j;
  ends = λ i z j. j;
})) h.0
