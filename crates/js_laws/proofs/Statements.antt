-- Statements are read, but for declarations, loops and `try`.
use Rattle.std.proofs.Common.{◌≡◌, ℕ, suc, ◌+◌, Bool, true, false, ◌&&◌, List, [], ◌∷◌, ◌++◌, length, Option, Some, None, refl, sym, ap, ◌∙◌, append_assoc, arith}
use Rattle.std.proofs.lemmas.List.{append-nil}
use Rattle.js_ast.specs.declared.expression.Expr.{Expr}
use Rattle.js_ast.specs.declared.statement.Stmt.{Stmt}
use Rattle.js_ast.specs.declared.statement.Stmt.TheVariants as stmt
use Rattle.js_ast.specs.declared.statement.Arm.{Arm}
use Rattle.js_ast.specs.declared.parts.Identifier.{Identifier}
use Rattle.js_grammar.specs.declared.token.Token.{Token}
use Rattle.js_grammar.specs.declared.token.TokenKind.{TokenKind}
use Rattle.js_grammar.specs.declared.token.TokenKind.TheVariants as k
use Rattle.js_grammar.specs.declared.token.Word.TheVariants as word
use Rattle.js_grammar.specs.Phrases.{Begins, IsWord, IsIdentifier, start_of, on_same_line, starts, is_open_brace, is_function, is_if, is_else, Tail, no_expression, IsEnd, Context, in_body}
use Rattle.js_grammar.specs.Grammar.{IsParameters}
use Rattle.js_reading.specs.declared.frame.Frame.{Frame}
use Rattle.js_reading.specs.declared.frame.Frame.TheVariants as frame
use Rattle.js_reading.specs.declared.frame.Part.{Part}
use Rattle.js_reading.specs.declared.frame.Part.TheVariants as part
use Rattle.js_reading.specs.declared.frame.Below.{Below}
use Rattle.js_reading.specs.declared.frame.Below.TheVariants as below
use Rattle.js_reading.specs.declared.frame.Braces.TheVariants as list
use Rattle.js_reading.specs.declared.mode.Mode.{Mode}
use Rattle.js_reading.specs.declared.mode.Mode.TheVariants as mode
use Rattle.js_reading.specs.declared.mode.Operand.{Operand}
use Rattle.js_reading.specs.declared.mode.Header.TheVariants as header
use Rattle.js_reading.specs.declared.mode.Heading.TheVariants as heading
use Rattle.js_reading.specs.declared.mode.Ending.TheVariants as ending
use Rattle.js_reading.specs.declared.mode.Opening.TheVariants as opening
use Rattle.js_reading.specs.declared.mode.Parser.{Parser}
use Rattle.js_reading.specs.Frames.{context, depth}
use Rattle.js_reading.specs.Operands.{at, word_of, value_of, want}
use Rattle.js_reading.specs.Statements.{arm, over, jump_in_loop, inner_word, inner, item, close_round_part, return_on}
use Rattle.js_reading.specs.Reading.{operand_on, below_by, nesting}
use Rattle.std.proofs.Common.{length-append}
use Rattle.js_laws.proofs.Steps.{Leads, stays, ◌⟫◌, take, ending_at, alike}
use Rattle.js_laws.proofs.ReadParts.{part_stands, ends_loose, on_loose, AssignReads, BodyReads, StmtsReads, StmtReads, Opens, begins_inner, InnerReads, is_else_below, BelowReads, begins_if, IfReads, RoundReads}
use Rattle.js_laws.proofs.Assigns.{names_read}
use Rattle.js_laws.proofs.Ends.{not_flip, over_list, over_below, end_grip, starts_at, part_ends, jump_ends, return_ends}

-- ---- first tokens

pub take_open : {P : ℕ → Type 0} {ts : List Token} {kind : TokenKind} {site : ℕ} {rest : List Token} (h : Begins ts kind site rest) (go : ℕ → TokenKind → Option Parser) (m : Mode) (above : List Frame) (q : Parser) → Opens go ts (at m above) → go site kind ≡ Some q → {d : ℕ} → P d → nesting q ≡ d → Leads P ts (at m above) rest q
take_open {P} {ts} {kind} {site} {rest} h go m above q o e n f = take h {m = m} {ks = above} {q = q} (o (record { kind = kind; start = site; line_before = h.line }) rest h.begins q e) n f

-- ---- lists

pub stmts_none_read : (P : ℕ → Type 0) (d : ℕ) (c : Context) (ts : List Token) → StmtsReads P d c ts [] ts
stmts_none_read P d c ts b body ks cx dx = ending_at (stays P ts (at mode.Statement (frame.List b body ∷ ks))) (ap (λ (z : List Stmt). at mode.Statement (frame.List b z ∷ ks)) (sym (append-nil body)))

pub stmts_more_read : (P : ℕ → Type 0) (d : ℕ) (c : Context) (ts : List Token) (s : Stmt) (mid : List Token) (ss : List Stmt) (rest : List Token) → P (suc d) → StmtReads P (suc d) c ts s mid → StmtsReads P d c mid ss rest → StmtsReads P d c ts (s ∷ ss) rest
stmts_more_read P d c ts s mid ss rest n i j b body ks cx dx =
    i (frame.List b body ∷ ks) (record { context_is = cx; depth_is = omega (arith, dx) }) n
    ⟫ over_list P mid s b body ks
    ⟫ ending_at (j b (body ++ s ∷ []) ks cx dx) (ap (λ (z : List Stmt). at mode.Statement (frame.List b z ∷ ks)) (append_assoc body (s ∷ []) ss))

item_opens : (site : ℕ) (ks : List Frame) (kind : TokenKind) (q : Parser) → inner site ks kind ≡ Some q → item site ks kind ≡ Some q
item_opens site ks k.CloseBrace q h = absurd cc
item_opens site ks (k.Word word.Let units) q h = absurd cc
item_opens site ks (k.Word word.Const units) q h = absurd cc
item_opens site ks (k.Word word.Function units) q h = absurd cc
item_opens site ks (k.Word _ units) q h = h
item_opens site ks _ q h = h

pub stmt_inner_reads : (P : ℕ → Type 0) (d : ℕ) (c : Context) (ts : List Token) (s : Stmt) (rest : List Token) → InnerReads P d c ts s rest → StmtReads P d c ts s rest
stmt_inner_reads P d c ts s rest i ks st n = i ks st n mode.Statement ks (λ t left e q h. item_opens t.start ks t.kind q h)

-- ---- functions

pub stmt_function_reads : (P : ℕ → Type 0) (d : ℕ) (c : Context) (ts : List Token) (site : ℕ) (from : List Token) (name : Identifier) (mid : List Token) (ns : List Identifier) (opens : List Token) (body : List Stmt) (rest : List Token)
    → IsWord ts word.Function site from → IsIdentifier from name mid → IsParameters mid ns opens → BodyReads P d in_body opens body rest → StmtReads P d c ts (stmt.Function site name ns body) rest
stmt_function_reads P d c ts site from name mid ns opens body rest h i j b ks s n =
    take h.1 {m = mode.Statement} {ks = ks} {q = at (mode.Opening (opening.Function site)) ks} refl n s.depth_is
    ⟫ take i.begins {m = mode.Opening (opening.Function site)} {ks = ks} {q = at (mode.Heading (heading.Open (header.Function site name))) ks} refl n s.depth_is
    ⟫ take j.2 {m = mode.Heading (heading.Open (header.Function site name))} {ks = ks} {q = at (mode.Heading (heading.Parameters (header.Function site name) [])) ks} refl n s.depth_is
    ⟫ names_read P j.1 ns opens j.3 (header.Function site name) [] ks d d s.depth_is n (λ z. omega (arith, s.depth_is)) n
    ⟫ b (mode.Heading (heading.Braces (list.Function site name ns))) ks (list.Function site name ns) ks (over (stmt.Function site name ns body) ks) (λ t left e g. rw g refl) refl s.depth_is n refl s.depth_is

-- ---- statements below others

below_opens : (b : Below) (site : ℕ) (ks : List Frame) (kind : TokenKind) (q : Parser) → (is_else_below b && is_if kind) ≡ false → inner site (frame.Below b ∷ ks) kind ≡ Some q → below_by site (frame.Below b ∷ ks) kind (word_of kind) ≡ Some q
below_opens (below.Else arms) site ks (k.Word word.If units) q g h = absurd cc
below_opens (below.Else arms) site ks (k.Word _ units) q g h = h
below_opens (below.Else arms) site ks _ q g h = h
below_opens _ site ks kind q g h = h

else_at : (b : Bool) {ts : List Token} {t : Token} {left : List Token} → (b && starts is_if ts) ≡ false → ts ≡ t ∷ left → (b && is_if t.kind) ≡ false
else_at b h e = rw e at h

pub below_reads : (P : ℕ → Type 0) (d : ℕ) (c : Context) (ts : List Token) (s : Stmt) (rest : List Token) → P (suc d) → InnerReads P (suc d) c ts s rest → BelowReads P d c ts s rest
below_reads P d c ts s rest n i b ks st g = i (frame.Below b ∷ ks) st n mode.Below (frame.Below b ∷ ks) (λ t left e q h. below_opens b t.start ks t.kind q (else_at (is_else_below b) g e) h)

-- ---- blocks and expressions

block_opens : (site : ℕ) (ks : List Frame) (kind : TokenKind) → kind ≡ k.OpenBrace → inner site ks kind ≡ Some (at mode.Statement (frame.List (list.Block site) [] ∷ ks))
block_opens site ks kind e = rw e refl

block_at : (ts : List Token) (t : Token) (left : List Token) (ks : List Frame) → ts ≡ t ∷ left → t.kind ≡ k.OpenBrace → inner t.start ks t.kind ≡ Some (at mode.Statement (frame.List (list.Block (start_of ts)) [] ∷ ks))
block_at ts t left ks e h = rw e (block_opens t.start ks t.kind h)

pub block_reads : (P : ℕ → Type 0) (d : ℕ) (c : Context) (ts : List Token) (body : List Stmt) (rest : List Token) → BodyReads P d c ts body rest → InnerReads P d c ts (stmt.Block (start_of ts) body) rest
block_reads P d c ts body rest i ks s n m above o =
    i m above (list.Block (start_of ts)) ks (over (stmt.Block (start_of ts) body) ks) (λ t left e h. o t left e (at mode.Statement (frame.List (list.Block (start_of ts)) [] ∷ ks)) (block_at ts t left ks e h)) s.context_is s.depth_is n refl s.depth_is

pub nothing_reads : (P : ℕ → Type 0) (d : ℕ) (c : Context) (ts : List Token) (site : ℕ) (rest : List Token) → Begins ts k.Semicolon site rest → InnerReads P d c ts (stmt.Nothing site) rest
nothing_reads P d c ts site rest h ks s n m above o = take_open h (begins_inner ks) m above (over (stmt.Nothing site) ks) o refl n s.depth_is

express_opens : (site : ℕ) (ks : List Frame) (kind : TokenKind) (q : Parser) → is_open_brace kind ≡ false → is_function kind ≡ false → want site (frame.Part (part.Express site) ∷ ks) kind ≡ Some q → inner site ks kind ≡ Some q
express_opens site ks k.OpenBrace q g h j = absurd cc
express_opens site ks k.Semicolon q g h j = absurd cc
express_opens site ks (k.Word word.Break units) q g h j = absurd cc
express_opens site ks (k.Word word.Continue units) q g h j = absurd cc
express_opens site ks (k.Word word.Return units) q g h j = absurd cc
express_opens site ks (k.Word word.Throw units) q g h j = absurd cc
express_opens site ks (k.Word word.Try units) q g h j = absurd cc
express_opens site ks (k.Word word.Function units) q g h j = absurd cc
express_opens site ks (k.Word word.If units) q g h j = absurd cc
express_opens site ks (k.Word word.While units) q g h j = absurd cc
express_opens site ks (k.Word word.Do units) q g h j = absurd cc
express_opens site ks (k.Word word.For units) q g h j = absurd cc
express_opens site ks (k.Word _ units) q g h j = j
express_opens site ks _ q g h j = j

express_at : (ts : List Token) (t : Token) (left : List Token) (ks : List Frame) (q : Parser) → ts ≡ t ∷ left → starts is_open_brace ts ≡ false → starts is_function ts ≡ false → want t.start (frame.Part (part.Express (start_of ts)) ∷ ks) t.kind ≡ Some q → inner t.start ks t.kind ≡ Some q
express_at ts t left ks q e g h j = express_opens t.start ks t.kind q (starts_at is_open_brace g e) (starts_at is_function h e) (rw e at j)

pub express_reads : (P : ℕ → Type 0) (d : ℕ) (c : Context) (ts : List Token) (e : Expr) (t : Tail) (end rest : List Token) → starts is_open_brace ts ≡ false → starts is_function ts ≡ false → AssignReads P d c ts e t end → IsEnd t end rest → InnerReads P d c ts (stmt.Express (start_of ts) e) rest
express_reads P d c ts e t end rest g h i j ks s n m above o =
    let p : Part = part.Express (start_of ts) in
    let r = i (frame.Part p ∷ ks) (part_stands p refl s) refl refl (end_grip t end rest j) in
    alike (record {
      steps = λ tok left e' q z. o tok left e' q (express_at ts tok left ks q e' g h z);
      ends = λ e' body z. absurd cc;
    })
    ⟫ r.leads ⟫ part_ends P t end rest (start_of ts) r.x p e (stmt.Express (start_of ts) e) ks d refl refl r.is r.tail_is s.depth_is n j

-- ---- tests between parentheses

round_part : (e : Expr) (p : Part) (ks : List Frame) (q : Parser) (line : Bool) (site start : ℕ) (x : Operand) → value_of x ≡ e → close_round_part e p ks ≡ Some q → operand_on line site start x (frame.Part p ∷ ks) k.CloseRound ≡ Some q
round_part e p ks q line site start x v h = on_loose line site start x (frame.Part p ∷ ks) k.CloseRound refl ∙ rw v h

pub round_assign_reads : (P : ℕ → Type 0) (d : ℕ) (c : Context) (ts : List Token) (opens : ℕ) (inside : List Token) (e : Expr) (t : Tail) (close : List Token) (at' : ℕ) (rest : List Token) → Begins ts k.OpenRound opens inside → AssignReads P d c inside e t close → Begins close k.CloseRound at' rest → RoundReads P d c ts e rest
round_assign_reads P d c ts opens inside e t close at' rest h i j p ks q st db n cl nq =
    let r = i (frame.Part p ∷ ks) st refl refl (ends_loose t j refl) in
    take h {m = mode.Opening opening.Test} {ks = frame.Part p ∷ ks} {q = at mode.Want (frame.Part p ∷ ks)} refl n db
    ⟫ r.leads
    ⟫ take j {m = mode.Operand (start_of inside) r.x} {ks = frame.Part p ∷ ks} {q = q} (round_part e p ks q j.line at' (start_of inside) r.x r.is cl) n nq

-- ---- `if`

if_opens : (site : ℕ) (ks : List Frame) (kind : TokenKind) (q : Parser) → begins_if [] ks site kind ≡ Some q → inner site ks kind ≡ Some q
if_opens site ks (k.Word word.If units) q h = h
if_opens site ks (k.Word _ units) q h = absurd cc
if_opens site ks _ q h = absurd cc

pub inner_if_reads : (P : ℕ → Type 0) (d : ℕ) (c : Context) (ts : List Token) (arms : List Arm) (last : Option Stmt) (rest : List Token) → IfReads P d c ts arms last rest → InnerReads P d c ts (stmt.If arms last) rest
inner_if_reads P d c ts arms last rest i ks s n m above o = i [] ks s.context_is (omega (arith, s.depth_is)) n m above (λ t left e q h. o t left e q (if_opens t.start ks t.kind q h))

-- the test and the statement behind it
if_then : (P : ℕ → Type 0) (d : ℕ) (c : Context) (ts : List Token) (site : ℕ) (from : List Token) (e : Expr) (mid : List Token) (s : Stmt) (rest : List Token) → IsWord ts word.If site from → RoundReads P d c from e mid → BelowReads P d c mid s rest
    → (before : List Arm) (ks : List Frame) → context ks ≡ c → length before + depth ks ≡ d → P d → (m : Mode) (above : List Frame) → Opens (begins_if before ks) ts (at m above) → Leads P ts (at m above) rest (over s (frame.Below (below.Then before site e) ∷ ks))
if_then P d c ts site from e mid s rest h i j before ks cx dx n m above o =
    let p : Part = part.If before site in
    let b : Below = below.Then before site e in
    take_open h.1 (begins_if before ks) m above (at (mode.Opening opening.Test) (frame.Part p ∷ ks)) o refl n (omega (arith, dx))
    ⟫ i p ks (at mode.Below (frame.Below b ∷ ks)) (record { context_is = cx; depth_is = omega (arith, dx) }) (omega (arith, dx)) n refl (omega (arith, dx))
    ⟫ j b ks (record { context_is = cx; depth_is = omega (arith, dx) }) refl

pub if_alone_reads : (P : ℕ → Type 0) (d : ℕ) (c : Context) (ts : List Token) (site : ℕ) (from : List Token) (e : Expr) (mid : List Token) (s : Stmt) (rest : List Token) → IsWord ts word.If site from → RoundReads P d c from e mid → BelowReads P d c mid s rest → starts is_else rest ≡ false → IfReads P d c ts (record { site = site; test = e; consequent = s } ∷ []) None rest
if_alone_reads P d c ts site from e mid s rest h i j g before ks cx dx n m above o =
    if_then P d c ts site from e mid s rest h i j before ks cx dx n m above o ⟫ over_below P rest s (below.Then before site e) ks g

one_more : (before : List Arm) (a : Arm) → length (before ++ a ∷ []) ≡ length before + 1
one_more before a = length-append before (a ∷ [])

else_due : (P : ℕ → Type 0) (d : ℕ) (mark : List Token) (at' : ℕ) (other : List Token) → IsWord mark word.Else at' other → (before : List Arm) (site : ℕ) (e : Expr) (s : Stmt) (ks : List Frame) → length before + depth ks ≡ d → P d
    → Leads P mark (over s (frame.Below (below.Then before site e) ∷ ks)) other (at mode.Below (frame.Below (below.Else (arm before site e s)) ∷ ks))
else_due P d mark at' other h before site e s ks dx n =
    take h.1 {m = mode.Ending (ending.Over s)} {ks = frame.Below (below.Then before site e) ∷ ks} {q = at mode.Below (frame.Below (below.Else (arm before site e s)) ∷ ks)} refl n (omega (arith, dx, one_more before (record { site = site; test = e; consequent = s })))

pub if_else_reads : (P : ℕ → Type 0) (d : ℕ) (c : Context) (ts : List Token) (site : ℕ) (from : List Token) (e : Expr) (mid : List Token) (s : Stmt) (mark : List Token) (at' : ℕ) (other : List Token) (b : Stmt) (rest : List Token)
    → IsWord ts word.If site from → RoundReads P d c from e mid → BelowReads P d c mid s mark → IsWord mark word.Else at' other → starts is_if other ≡ false → BelowReads P d c other b rest → IfReads P d c ts (record { site = site; test = e; consequent = s } ∷ []) (Some b) rest
if_else_reads P d c ts site from e mid s mark at' other b rest h i j h' g l before ks cx dx n m above o =
    let arms : List Arm = arm before site e s in
    if_then P d c ts site from e mid s mark h i j before ks cx dx n m above o
    ⟫ else_due P d mark at' other h' before site e s ks dx n
    ⟫ l (below.Else arms) ks (record { context_is = cx; depth_is = omega (arith, dx, one_more before (record { site = site; test = e; consequent = s })) }) g
    ⟫ over_below P rest b (below.Else arms) ks refl

chain_opens : (before : List Arm) (site : ℕ) (ks : List Frame) (kind : TokenKind) (q : Parser) → begins_if before ks site kind ≡ Some q → below_by site (frame.Below (below.Else before) ∷ ks) kind (word_of kind) ≡ Some q
chain_opens before site ks (k.Word word.If units) q h = h
chain_opens before site ks (k.Word _ units) q h = absurd cc
chain_opens before site ks _ q h = absurd cc

pub if_chain_reads : (P : ℕ → Type 0) (d : ℕ) (c : Context) (ts : List Token) (site : ℕ) (from : List Token) (e : Expr) (mid : List Token) (s : Stmt) (mark : List Token) (at' : ℕ) (other : List Token) (arms : List Arm) (last : Option Stmt) (rest : List Token)
    → IsWord ts word.If site from → RoundReads P d c from e mid → BelowReads P d c mid s mark → IsWord mark word.Else at' other → P (suc d) → IfReads P (suc d) c other arms last rest → IfReads P d c ts (record { site = site; test = e; consequent = s } ∷ arms) last rest
if_chain_reads P d c ts site from e mid s mark at' other arms last rest h i j h' n' l before ks cx dx n m above o =
    let a : Arm = record { site = site; test = e; consequent = s } in
    let before' : List Arm = arm before site e s in
    if_then P d c ts site from e mid s mark h i j before ks cx dx n m above o
    ⟫ else_due P d mark at' other h' before site e s ks dx n
    ⟫ ending_at (l before' ks cx (omega (arith, dx, one_more before a)) n' mode.Below (frame.Below (below.Else before') ∷ ks) (λ t left z q y. chain_opens before' t.start ks t.kind q y)) (ap (λ (z : List Arm). over (stmt.If z last) ks) (append_assoc before (a ∷ []) arms))

-- ---- jumps

jump_on_loop : (c : Context) (ks : List Frame) (s : Stmt) → context ks ≡ c → c.in_loop ≡ true → jump_in_loop s ks ≡ Some (at (mode.Ending (ending.Jump s)) ks)
jump_on_loop c ks s cx h = rw (cx, h) refl

pub break_reads : (P : ℕ → Type 0) (d : ℕ) (c : Context) (ts : List Token) (site : ℕ) (end rest : List Token) → c.in_loop ≡ true → IsWord ts word.Break site end → IsEnd no_expression end rest → InnerReads P d c ts (stmt.Break site) rest
break_reads P d c ts site end rest l h j ks s n m above o =
    take_open h.1 (begins_inner ks) m above (at (mode.Ending (ending.Jump (stmt.Break site))) ks) o (jump_on_loop c ks (stmt.Break site) s.context_is l) n s.depth_is ⟫ jump_ends P end rest (stmt.Break site) ks d s.depth_is n j

pub continue_reads : (P : ℕ → Type 0) (d : ℕ) (c : Context) (ts : List Token) (site : ℕ) (end rest : List Token) → c.in_loop ≡ true → IsWord ts word.Continue site end → IsEnd no_expression end rest → InnerReads P d c ts (stmt.Continue site) rest
continue_reads P d c ts site end rest l h j ks s n m above o =
    take_open h.1 (begins_inner ks) m above (at (mode.Ending (ending.Jump (stmt.Continue site))) ks) o (jump_on_loop c ks (stmt.Continue site) s.context_is l) n s.depth_is ⟫ jump_ends P end rest (stmt.Continue site) ks d s.depth_is n j

return_in : (c : Context) (ks : List Frame) (site : ℕ) → context ks ≡ c → c.in_function ≡ true → inner_word word.Return site ks ≡ Some (at (mode.Ending (ending.Return site)) ks)
return_in c ks site cx h = rw (cx, h) refl

pub return_reads : (P : ℕ → Type 0) (d : ℕ) (c : Context) (ts : List Token) (site : ℕ) (end rest : List Token) → c.in_function ≡ true → IsWord ts word.Return site end → IsEnd no_expression end rest → InnerReads P d c ts (stmt.Return site None) rest
return_reads P d c ts site end rest l h j ks s n m above o =
    take_open h.1 (begins_inner ks) m above (at (mode.Ending (ending.Return site)) ks) o (return_in c ks site s.context_is l) n s.depth_is ⟫ return_ends P end rest site ks d s.depth_is n j

same_line_at : {ts : List Token} {t : Token} {left : List Token} → on_same_line ts ≡ true → ts ≡ t ∷ left → t.line_before ≡ false
same_line_at {ts} {t} h e = not_flip t.line_before (rw e at h)

return_opens : (site' site : ℕ) (ks : List Frame) (kind : TokenKind) (q : Parser) → want site (frame.Part (part.Return site') ∷ ks) kind ≡ Some q → return_on false site' site ks kind ≡ Some q
return_opens site' site ks k.Semicolon q h = absurd cc
return_opens site' site ks k.CloseBrace q h = absurd cc
return_opens site' site ks _ q h = h

return_goes : (P : ℕ → Type 0) (from : List Token) (site : ℕ) (ks : List Frame) → on_same_line from ≡ true → Leads P from (at (mode.Ending (ending.Return site)) ks) from (at mode.Want (frame.Part (part.Return site) ∷ ks))
return_goes P from site ks g = alike (record {
  steps = λ tok left e q z. rw (same_line_at g e) (return_opens site tok.start ks tok.kind q z);
  ends = λ e body z. absurd cc;
})

throw_goes : (P : ℕ → Type 0) (from : List Token) (site : ℕ) (ks : List Frame) → on_same_line from ≡ true → Leads P from (at (mode.Ending (ending.Throw site)) ks) from (at mode.Want (frame.Part (part.Throw site) ∷ ks))
throw_goes P from site ks g = alike (record {
  steps = λ tok left e q z. rw (same_line_at g e) z;
  ends = λ e body z. absurd cc;
})

pub return_value_reads : (P : ℕ → Type 0) (d : ℕ) (c : Context) (ts : List Token) (site : ℕ) (from : List Token) (e : Expr) (t : Tail) (end rest : List Token) → c.in_function ≡ true → IsWord ts word.Return site from → on_same_line from ≡ true → AssignReads P d c from e t end → IsEnd t end rest → InnerReads P d c ts (stmt.Return site (Some e)) rest
return_value_reads P d c ts site from e t end rest l h g i j ks s n m above o =
    let p : Part = part.Return site in
    let r = i (frame.Part p ∷ ks) (part_stands p refl s) refl refl (end_grip t end rest j) in
    take_open h.1 (begins_inner ks) m above (at (mode.Ending (ending.Return site)) ks) o (return_in c ks site s.context_is l) n s.depth_is
    ⟫ return_goes P from site ks g
    ⟫ r.leads ⟫ part_ends P t end rest (start_of from) r.x p e (stmt.Return site (Some e)) ks d refl refl r.is r.tail_is s.depth_is n j

pub throw_reads : (P : ℕ → Type 0) (d : ℕ) (c : Context) (ts : List Token) (site : ℕ) (from : List Token) (e : Expr) (t : Tail) (end rest : List Token) → IsWord ts word.Throw site from → on_same_line from ≡ true → AssignReads P d c from e t end → IsEnd t end rest → InnerReads P d c ts (stmt.Throw site e) rest
throw_reads P d c ts site from e t end rest h g i j ks s n m above o =
    let p : Part = part.Throw site in
    let r = i (frame.Part p ∷ ks) (part_stands p refl s) refl refl (end_grip t end rest j) in
    take_open h.1 (begins_inner ks) m above (at (mode.Ending (ending.Throw site)) ks) o refl n s.depth_is
    ⟫ throw_goes P from site ks g
    ⟫ r.leads ⟫ part_ends P t end rest (start_of from) r.x p e (stmt.Throw site e) ks d refl refl r.is r.tail_is s.depth_is n j
