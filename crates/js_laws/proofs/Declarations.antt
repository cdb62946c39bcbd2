-- Declarations are read.
use Rattle.std.proofs.Common.{◌≡◌, ℕ, ◌<◌, Bool, true, false, not, ◌&&◌, List, [], ◌∷◌, Some, None, refl, sym, ap, subst, ◌∙◌, append_assoc, arith, inl, inr, All}
use Rattle.std.specs.Prelude.{◌⊎◌}
use Rattle.js_ast.specs.declared.expression.Expr.{Expr}
use Rattle.js_ast.specs.declared.statement.Stmt.{Stmt}
use Rattle.js_ast.specs.declared.statement.Stmt.TheVariants as stmt
use Rattle.js_ast.specs.declared.operators.DeclarationKind.{DeclarationKind}
use Rattle.js_ast.specs.declared.operators.DeclarationKind.TheVariants as kind
use Rattle.js_ast.specs.declared.parts.Identifier.{Identifier}
use Rattle.js_ast.specs.declared.parts.Declarator.{Declarator}
use Rattle.js_ast.specs.declared.parts.LoopHead.TheVariants as head
use Rattle.js_grammar.specs.declared.token.Token.{Token}
use Rattle.js_grammar.specs.declared.token.TokenKind.{TokenKind}
use Rattle.js_grammar.specs.declared.token.TokenKind.TheVariants as k
use Rattle.js_grammar.specs.Phrases.{Begins, IsIdentifier, start_of, is_of, Tail, no_expression, IsEnd, Context}
use Rattle.js_grammar.specs.Grammar.{IsDeclares, declares_let, declares_const}
use Rattle.js_reading.specs.declared.frame.Frame.{Frame}
use Rattle.js_reading.specs.declared.frame.Frame.TheVariants as frame
use Rattle.js_reading.specs.declared.frame.Part.{Part}
use Rattle.js_reading.specs.declared.frame.Part.TheVariants as part
use Rattle.js_reading.specs.declared.frame.Place.{Place}
use Rattle.js_reading.specs.declared.frame.Place.TheVariants as place
use Rattle.js_reading.specs.declared.frame.Declaring.{Declaring}
use Rattle.js_reading.specs.declared.mode.Mode.TheVariants as mode
use Rattle.js_reading.specs.declared.mode.Operand.{Operand}
use Rattle.js_reading.specs.declared.mode.Opening.TheVariants as opening
use Rattle.js_reading.specs.declared.mode.Parser.{Parser}
use Rattle.js_reading.specs.Frames.{depth}
use Rattle.js_reading.specs.Operands.{at, reached, wants, value_of, tail_of}
use Rattle.js_reading.specs.Statements.{with_declarator, declared, declares_more, is_statement, is_let, of_part, over, after, semicolon_part, bare, named_semicolon, named_comma, named_on}
use Rattle.js_reading.specs.Reading.{ended, ending_in}
use Rattle.std.proofs.lemmas.List.Elements.{All-head, All-tail}
use Rattle.js_laws.proofs.Steps.{Leads, ◌⟫◌, take, ending_at, alike}
use Rattle.js_laws.proofs.WaitingFrames.{grip}
use Rattle.js_laws.proofs.ReadParts.{ends_loose, on_loose, AssignReads, StmtReads, extend, Follows, DeclaratorReads, DeclaratorsReads, HeadReads}
use Rattle.js_laws.proofs.Ends.{no_after, end_grip, may_at, no_semicolon, bare_ends, may_end_by, at_same, part_ends}

abbrev no_value : Identifier → Declarator Expr
no_value n = record { name = n; value = None }

-- ---- a name with no value

statement_is : (w : Declaring) → w.place ≡ place.Statement → is_statement w.place ≡ true
statement_is w e = rw e refl

let_is : (w : Declaring) → w.kind ≡ kind.Let → is_let w.kind ≡ true
let_is w e = rw e refl

named_step : (line : Bool) (w : Declaring) (n : Identifier) (site : ℕ) (ks : List Frame) (mark : TokenKind) (r : Parser) → w.place ≡ place.Statement → w.kind ≡ kind.Let → may_end_by no_expression line mark ≡ true → after site (bare w n) ks mark ≡ Some r → named_on line w n site ks mark ≡ Some r
named_step line w n site ks (k.Assign o) r pl kl m j = absurd (no_after site (bare w n) ks r (k.Assign o) refl j)
named_step line w n site ks k.Comma r pl kl m j = absurd (no_after site (bare w n) ks r k.Comma refl j)
named_step line w n site ks k.Semicolon r pl kl m j = absurd (cc (no_semicolon no_expression line k.Semicolon m))
named_step line w n site ks (k.Name name) r pl kl m j = rw (statement_is w pl, let_is w kl, bare_ends no_expression line (k.Name name) m) j
named_step line w n site ks k.CloseBrace r pl kl m j = rw (statement_is w pl, let_is w kl) j
named_step line w n site ks mark r pl kl m j = rw (statement_is w pl, let_is w kl, bare_ends no_expression line mark m) j

named_end : (w : Declaring) (n : Identifier) (ks : List Frame) (body : List Stmt) → w.place ≡ place.Statement → w.kind ≡ kind.Let → ended (bare w n) ks ≡ Some body → ending_in (mode.Opening (opening.Named w n)) ks ≡ Some body
named_end w n ks body pl kl h = rw (statement_is w pl, let_is w kl) h

named_semicolon_statement : (w : Declaring) (n : Identifier) (ks : List Frame) → w.place ≡ place.Statement → w.kind ≡ kind.Let → named_semicolon w n ks ≡ Some (over (declared w n None) ks)
named_semicolon_statement w n ks pl kl = rw (pl, kl) refl

named_semicolon_loop : (w : Declaring) (n : Identifier) (ks : List Frame) → w.place ≡ place.Loop → w.kind ≡ kind.Let → named_semicolon w n ks ≡ Some (wants (frame.Part (part.ForTest w.site (head.Declare w.kind (with_declarator w n None)))) ks)
named_semicolon_loop w n ks pl kl = rw (pl, kl) refl

named_comma_on : (w : Declaring) (n : Identifier) (ks : List Frame) → w.kind ≡ kind.Let → named_comma w n ks ≡ Some (declares_more w n None ks)
named_comma_on w n ks kl = rw kl refl

named_ends_at : (P : ℕ → Type 0) (ts rest : List Token) (w : Declaring) (n : Identifier) (ks : List Frame) (d : ℕ) → w.place ≡ place.Statement → w.kind ≡ kind.Let → depth ks ≡ d → P d → IsEnd no_expression ts rest → Leads P ts (at (mode.Opening (opening.Named w n)) ks) rest (over (bare w n) ks)
named_ends_at P ts rest w n ks d pl kl sd nd (inl h) = take h.1 {m = mode.Opening (opening.Named w n)} {ks = ks} {q = over (bare w n) ks} (named_semicolon_statement w n ks pl kl) nd sd
named_ends_at P ts rest w n ks d pl kl sd nd (inr h) = at_same (alike (record {
  steps = λ u left i r j. named_step u.line_before w n u.start ks u.kind r pl kl (may_at no_expression h.1 i) j;
  ends = λ i z j. named_end w n ks z pl kl j;
})) h.0

named_follows : (P : ℕ → Type 0) (ts : List Token) (w : Declaring) (n : Identifier) (ks : List Frame) (d : ℕ) (next : List Token) (q : Parser) → w.kind ≡ kind.Let → depth ks ≡ d → P d → Follows (extend w (no_value n ∷ [])) ks no_expression ts next q → Leads P ts (at (mode.Opening (opening.Named w n)) ks) next q
named_follows P ts w n ks d next q kl sd nd (inl h) = ending_at (take h.1 {m = mode.Opening (opening.Named w n)} {ks = ks} {q = declares_more w n None ks} (named_comma_on w n ks kl) nd sd) (sym h.2)
named_follows P ts w n ks d next q kl sd nd (inr (inl h)) = ending_at (named_ends_at P ts next w n ks d h.0 kl sd nd h.1) (sym h.2)
named_follows P ts w n ks d next q kl sd nd (inr (inr h)) = ending_at (take h.1.1 {m = mode.Opening (opening.Named w n)} {ks = ks} {q = wants (frame.Part (part.ForTest w.site (head.Declare w.kind (with_declarator w n None)))) ks} (named_semicolon_loop w n ks h.0 kl) nd (omega (arith, sd))) (sym h.2)

-- ---- names

place_free : (b c : Bool) → (b ≡ true) ⊎ (c ≡ false) → (not b && c) ≡ false
place_free true c h = refl
place_free false true h = elim h [ inl e ↦ absurd cc | inr e ↦ absurd cc ]
place_free false false h = refl

pub name_due : (P : ℕ → Type 0) (ts rest : List Token) (n : Identifier) → IsIdentifier ts n rest → (w : Declaring) (ks : List Frame) (d : ℕ) → depth ks ≡ d → P d → (is_statement w.place ≡ true) ⊎ (is_of n.name ≡ false) → Leads P ts (at (mode.Opening (opening.Declare w)) ks) rest (at (mode.Opening (opening.Named w n)) ks)
name_due P ts rest n h w ks d sd nd f = take h.begins {m = mode.Opening (opening.Declare w)} {ks = ks} {q = at (mode.Opening (opening.Named w n)) ks} (rw (place_free (is_statement w.place) (is_of n.name) f) refl) nd sd

pub declarator_name_reads : (P : ℕ → Type 0) (d : ℕ) (c : Context) (ts : List Token) (n : Identifier) (rest : List Token) → IsIdentifier ts n rest → DeclaratorReads P kind.Let d c ts (record { name = n; value = None }) no_expression rest
declarator_name_reads P d c ts n rest h w ks kl s nd f next q follow = name_due P ts rest n h w ks d s.depth_is nd f ⟫ named_follows P rest w n ks d next q kl s.depth_is nd follow

-- ---- a name with its value

follows_grip : (w : Declaring) (ks : List Frame) (t : Tail) (ts rest : List Token) (q : Parser) → Follows w ks t ts rest q → 12 < grip t ts
follows_grip w ks t ts rest q (inl h) = ends_loose t h.1 refl
follows_grip w ks t ts rest q (inr (inl h)) = end_grip t ts rest h.1
follows_grip w ks t ts rest q (inr (inr h)) = ends_loose t h.1.1 refl

abbrev valued : Identifier → Expr → Declarator Expr
valued n e = record { name = n; value = Some e }

of_declare : (w : Declaring) (n : Identifier) (e : Expr) → w.place ≡ place.Statement → of_part (part.Declare w n) e ≡ Some (declared w n (Some e))
of_declare w n e pl = rw pl refl

semicolon_declare : (w : Declaring) (n : Identifier) (e : Expr) (ks : List Frame) → w.place ≡ place.Statement → semicolon_part e (part.Declare w n) ks ≡ Some (over (declared w n (Some e)) ks)
semicolon_declare w n e ks pl = rw pl refl

semicolon_loop : (w : Declaring) (n : Identifier) (e : Expr) (ks : List Frame) → w.place ≡ place.Loop → semicolon_part e (part.Declare w n) ks ≡ Some (wants (frame.Part (part.ForTest w.site (head.Declare w.kind (with_declarator w n (Some e))))) ks)
semicolon_loop w n e ks pl = rw pl refl

value_follows : (P : ℕ → Type 0) (ts : List Token) (w : Declaring) (n : Identifier) (e : Expr) (t : Tail) (ks : List Frame) (d : ℕ) (next : List Token) (q : Parser) (start : ℕ) (x : Operand) → value_of x ≡ e → tail_of x ≡ t → depth ks ≡ d → P d → Follows (extend w (valued n e ∷ [])) ks t ts next q
    → Leads P ts (reached start x (frame.Part (part.Declare w n) ∷ ks)) next q
value_follows P ts w n e t ks d next q start x v tx sd nd (inl h) =
    ending_at (take h.1 {m = mode.Operand start x} {ks = frame.Part (part.Declare w n) ∷ ks} {q = declares_more w n (Some (value_of x)) ks} (on_loose h.1.line h.0 start x (frame.Part (part.Declare w n) ∷ ks) k.Comma refl) nd sd) (ap (λ (z : Expr). declares_more w n (Some z) ks) v ∙ sym h.2)
value_follows P ts w n e t ks d next q start x v tx sd nd (inr (inl h)) =
    ending_at (part_ends P t ts next start x (part.Declare w n) e (declared w n (Some e)) ks d (of_declare w n e h.0) (semicolon_declare w n e ks h.0) v tx sd nd h.1) (sym h.2)
value_follows P ts w n e t ks d next q start x v tx sd nd (inr (inr h)) =
    ending_at (take h.1.1 {m = mode.Operand start x} {ks = frame.Part (part.Declare w n) ∷ ks} {q = wants (frame.Part (part.ForTest w.site (head.Declare w.kind (with_declarator w n (Some (value_of x)))))) ks} (on_loose h.1.1.line h.1.0 start x (frame.Part (part.Declare w n) ∷ ks) k.Semicolon refl ∙ semicolon_loop w n (value_of x) ks h.0) nd (omega (arith, sd)))
    (ap (λ (z : Expr). wants (frame.Part (part.ForTest w.site (head.Declare w.kind (with_declarator w n (Some z))))) ks) v ∙ sym h.2)

pub declarator_value_reads : (P : ℕ → Type 0) (o : DeclarationKind) (d : ℕ) (c : Context) (ts : List Token) (n : Identifier) (mark : List Token) (at' : ℕ) (from : List Token) (e : Expr) (t : Tail) (rest : List Token) → IsIdentifier ts n mark → Begins mark (k.Assign None) at' from → AssignReads P d c from e t rest → DeclaratorReads P o d c ts (record { name = n; value = Some e }) t rest
declarator_value_reads P o d c ts n mark at' from e t rest h i j w ks kl s nd f next q follow =
    let p : Part = part.Declare w n in
    let r = j (frame.Part p ∷ ks) (record { context_is = s.context_is; depth_is = omega (arith, s.depth_is) }) refl refl (follows_grip (extend w (valued n e ∷ [])) ks t rest next q follow) in
    name_due P ts mark n h w ks d s.depth_is nd f
    ⟫ take i {m = mode.Opening (opening.Named w n)} {ks = ks} {q = wants (frame.Part p) ks} refl nd (omega (arith, s.depth_is))
    ⟫ r.leads
    ⟫ value_follows P rest w n e t ks d next q (start_of from) r.x r.is r.tail_is s.depth_is nd follow

-- ---- declarators parted by commas

first_free : (b : Bool) (x : Declarator Expr) (xs : List (Declarator Expr)) → (b ≡ true) ⊎ All (λ (x : Declarator Expr). is_of x.name.name ≡ false) (x ∷ xs) → (b ≡ true) ⊎ (is_of x.name.name ≡ false)
first_free b x xs h = elim h [ inl e ↦ inl e | inr e ↦ inr (All-head (λ (y : Declarator Expr). is_of y.name.name ≡ false) x xs e) ]

rest_free : (b : Bool) (x : Declarator Expr) (xs : List (Declarator Expr)) → (b ≡ true) ⊎ All (λ (x : Declarator Expr). is_of x.name.name ≡ false) (x ∷ xs) → (b ≡ true) ⊎ All (λ (x : Declarator Expr). is_of x.name.name ≡ false) xs
rest_free b x xs h = elim h [ inl e ↦ inl e | inr e ↦ inr (All-tail (λ (y : Declarator Expr). is_of y.name.name ≡ false) x xs e) ]

pub declarators_last_read : (P : ℕ → Type 0) (o : DeclarationKind) (d : ℕ) (c : Context) (ts : List Token) (x : Declarator Expr) (t : Tail) (rest : List Token) → DeclaratorReads P o d c ts x t rest → DeclaratorsReads P o d c ts (x ∷ []) t rest
declarators_last_read P o d c ts x t rest i w ks kl s n f next q follow = i w ks kl s n (first_free (is_statement w.place) x [] f) next q follow

extend_twice : (w : Declaring) (x : Declarator Expr) (xs : List (Declarator Expr)) → extend w (x ∷ xs) ≡ extend (extend w (x ∷ [])) xs
extend_twice w x xs = ap (λ (z : List (Declarator Expr)). record { place = w.place; site = w.site; kind = w.kind; declarators = z }) (sym (append_assoc w.declarators (x ∷ []) xs))

pub declarators_more_read : (P : ℕ → Type 0) (o : DeclarationKind) (d : ℕ) (c : Context) (ts : List Token) (x : Declarator Expr) (u : Tail) (comma : List Token) (at' : ℕ) (from : List Token) (xs : List (Declarator Expr)) (t : Tail) (rest : List Token)
    → DeclaratorReads P o d c ts x u comma → Begins comma k.Comma at' from → DeclaratorsReads P o d c from xs t rest → DeclaratorsReads P o d c ts (x ∷ xs) t rest
declarators_more_read P o d c ts x u comma at' from xs t rest i h j w ks kl s n f next q follow =
    i w ks kl s n (first_free (is_statement w.place) x xs f) from (at (mode.Opening (opening.Declare (extend w (x ∷ [])))) ks) (inl (at', h, refl))
    ⟫ j (extend w (x ∷ [])) ks kl s n (rest_free (is_statement w.place) x xs f) next q (subst (λ (z : Declaring). Follows z ks t rest next q) (extend_twice w x xs) follow)

-- ---- declarations

abbrev pub declaring : Place → ℕ → DeclarationKind → Declaring
declaring p site o = record { place = p; site = site; kind = o; declarators = [] }

statement_declares : (P : ℕ → Type 0) (ts : List Token) (o : DeclarationKind) (site : ℕ) (rest : List Token) → IsDeclares ts o site rest → (ks : List Frame) (d : ℕ) → depth ks ≡ d → P d → Leads P ts (at mode.Statement ks) rest (at (mode.Opening (opening.Declare (declaring place.Statement site o))) ks)
statement_declares P _ _ _ _ (declares_let ts site rest h) ks d sd n = take h.1 refl n sd
statement_declares P _ _ _ _ (declares_const ts site rest h) ks d sd n = take h.1 refl n sd

pub loop_declares : (P : ℕ → Type 0) (ts : List Token) (o : DeclarationKind) (at' : ℕ) (rest : List Token) → IsDeclares ts o at' rest → (site : ℕ) (ks : List Frame) (d : ℕ) → depth ks ≡ d → P d → Leads P ts (at (mode.Opening (opening.ForHead site)) ks) rest (at (mode.Opening (opening.Declare (declaring place.Loop site o))) ks)
loop_declares P _ _ _ _ (declares_let ts at' rest h) site ks d sd n = take h.1 refl n sd
loop_declares P _ _ _ _ (declares_const ts at' rest h) site ks d sd n = take h.1 refl n sd

pub stmt_declare_reads : (P : ℕ → Type 0) (d : ℕ) (c : Context) (ts : List Token) (o : DeclarationKind) (site : ℕ) (from : List Token) (xs : List (Declarator Expr)) (t : Tail) (end rest : List Token) → IsDeclares ts o site from → DeclaratorsReads P o d c from xs t end → IsEnd t end rest → StmtReads P d c ts (stmt.Declare site o xs) rest
stmt_declare_reads P d c ts o site from xs t end rest h i j ks s n =
    statement_declares P ts o site from h ks d s.depth_is n
    ⟫ i (declaring place.Statement site o) ks refl s n (inl refl) rest (over (stmt.Declare site o xs) ks) (inr (inl (refl, j, refl)))

pub head_declare_reads : (P : ℕ → Type 0) (d : ℕ) (c : Context) (ts : List Token) (o : DeclarationKind) (at' : ℕ) (from : List Token) (xs : List (Declarator Expr)) (t : Tail) (rest : List Token) → IsDeclares ts o at' from → DeclaratorsReads P o d c from xs t rest → All (λ (x : Declarator Expr). is_of x.name.name ≡ false) xs → HeadReads P d c ts (head.Declare o xs) rest
head_declare_reads P d c ts o at' from xs t rest h i f site ks s n at'' next j =
    loop_declares P ts o at' from h site ks d s.depth_is n
    ⟫ i (declaring place.Loop site o) ks refl s n (inr f) next (wants (frame.Part (part.ForTest site (head.Declare o xs))) ks) (inr (inr (refl, (at'', j), refl)))
