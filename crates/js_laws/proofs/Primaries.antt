-- The first parts of calls are read.
use Rattle.std.proofs.Common.{◌≡◌, ℕ, suc, Bool, true, false, ◌&&◌, List, [], ◌∷◌, ◌++◌, Some, refl, sym, ap, subst, ◌∙◌, append_assoc, arith, inl, inr}
use Rattle.std.proofs.lemmas.List.{append-nil}
use Rattle.js_ast.specs.declared.expression.Expr.{Expr}
use Rattle.js_ast.specs.declared.expression.Expr.TheVariants as expr
use Rattle.js_ast.specs.declared.parts.Identifier.{Identifier}
use Rattle.js_ast.specs.declared.parts.Access.{Access}
use Rattle.js_ast.specs.declared.parts.Access.TheVariants as access
use Rattle.js_ast.specs.declared.parts.Suffix.{Suffix}
use Rattle.js_ast.specs.declared.parts.Suffix.TheVariants as suffix
use Rattle.js_ast.specs.declared.parts.Target.{Target}
use Rattle.js_ast.specs.declared.parts.Target.TheVariants as target
use Rattle.js_ast.specs.declared.parts.Key.{Key}
use Rattle.js_ast.specs.declared.parts.Key.TheVariants as key
use Rattle.js_ast.specs.declared.parts.Member.{Member}
use Rattle.js_ast.specs.declared.parts.Member.TheVariants as member
use Rattle.js_grammar.specs.declared.token.Token.{Token}
use Rattle.js_grammar.specs.declared.token.TokenKind.{TokenKind}
use Rattle.js_grammar.specs.declared.token.TokenKind.TheVariants as k
use Rattle.js_grammar.specs.declared.token.Word.TheVariants as word
use Rattle.js_grammar.specs.Phrases.{Begins, IsWord, IsIdentifier, IsIdentifierName, start_of, is_proto, Tail, call, Context}
use Rattle.js_grammar.specs.Grammar.{call_of, IsKey, key_word, key_text, key_number, IsStaticKey, static_text, static_number, opens_static}
use Rattle.js_reading.specs.declared.frame.Frame.{Frame}
use Rattle.js_reading.specs.declared.frame.Frame.TheVariants as frame
use Rattle.js_reading.specs.declared.frame.Pending.TheVariants as pending
use Rattle.js_reading.specs.declared.frame.Bracket.{Bracket}
use Rattle.js_reading.specs.declared.frame.Bracket.TheVariants as bracket
use Rattle.js_reading.specs.declared.mode.Mode.TheVariants as mode
use Rattle.js_reading.specs.declared.mode.Operand.{Operand}
use Rattle.js_reading.specs.declared.mode.Operand.TheVariants as operand
use Rattle.js_reading.specs.declared.mode.Piece.TheVariants as piece
use Rattle.js_reading.specs.Frames.{depth}
use Rattle.js_reading.specs.Operands.{at, reached, wants, value_of, tail_of, target_of, first_of, suffixes_of, wrapped, is_literal, want_brace, want}
use Rattle.js_reading.specs.Reading.{operand_on}
use Rattle.js_laws.proofs.Steps.{Leads, stays, ◌⟫◌, take, ending_at}
use Rattle.js_laws.proofs.ReadParts.{Stands, is_body, Free, loose, ends_loose, on_loose, is_static, Alone, ReadsFirst, AssignReads, CallReads, FirstReads, TargetReads, AccessReads, SuffixesReads, Lister, of_call, of_new, of_array, bracket_of, mark_of, list_start, listed, ArgumentsReads, MemberReads, MembersReads, from_start}

-- ---- one token

pub one_token : (P : ℕ → Type 0) (d : ℕ) (c : Context) (ts : List Token) (kind : TokenKind) (site : ℕ) (rest : List Token) (ks : List Frame) (x : Operand) (e : Expr) (h : Begins ts kind site rest)
    → want site ks kind ≡ Some (reached site x ks) → Stands c d ks → P d → value_of x ≡ e → tail_of x ≡ call → first_of x ≡ e → suffixes_of x ≡ [] → (is_literal x ≡ true → is_static kind ≡ true) → ReadsFirst P ts e rest ks
one_token P d c ts kind site rest ks x e h w s n v t f g l = record {
  x = x;
  is = v;
  tail_is = t;
  first_is = f;
  suffixes_are = g;
  literal = λ i. record { token = record { kind = kind; start = site; line_before = h.line }; begins = h.begins; static = l i };
  leads = from_start h (take h w n s.depth_is);
}

pub this_reads : (P : ℕ → Type 0) (d : ℕ) (c : Context) (ts : List Token) (site : ℕ) (rest : List Token) → c.has_this ≡ true → IsWord ts word.This site rest → FirstReads P d c ts (expr.This site) rest
this_reads P d c ts site rest t h ks s n f = one_token P d c ts _ site rest ks (operand.Primary (expr.This site)) _ h.1 (rw (s.context_is, t) refl) s n refl refl refl refl (λ i. absurd cc)

pub name_reads : (P : ℕ → Type 0) (d : ℕ) (c : Context) (ts : List Token) (name : Identifier) (rest : List Token) → IsIdentifier ts name rest → FirstReads P d c ts (expr.Name name) rest
name_reads P d c ts name rest h ks s n f = one_token P d c ts _ name.site rest ks (operand.Name name) _ h.begins refl s n refl refl refl refl (λ i. absurd cc)

pub null_reads : (P : ℕ → Type 0) (d : ℕ) (c : Context) (ts : List Token) (site : ℕ) (rest : List Token) → IsWord ts word.Null site rest → FirstReads P d c ts (expr.Null site) rest
null_reads P d c ts site rest h ks s n f = one_token P d c ts _ site rest ks (operand.Primary (expr.Null site)) _ h.1 refl s n refl refl refl refl (λ i. absurd cc)

pub true_reads : (P : ℕ → Type 0) (d : ℕ) (c : Context) (ts : List Token) (site : ℕ) (rest : List Token) → IsWord ts word.True site rest → FirstReads P d c ts (expr.True site) rest
true_reads P d c ts site rest h ks s n f = one_token P d c ts _ site rest ks (operand.Primary (expr.True site)) _ h.1 refl s n refl refl refl refl (λ i. absurd cc)

pub false_reads : (P : ℕ → Type 0) (d : ℕ) (c : Context) (ts : List Token) (site : ℕ) (rest : List Token) → IsWord ts word.False site rest → FirstReads P d c ts (expr.False site) rest
false_reads P d c ts site rest h ks s n f = one_token P d c ts _ site rest ks (operand.Primary (expr.False site)) _ h.1 refl s n refl refl refl refl (λ i. absurd cc)

pub number_reads : (P : ℕ → Type 0) (d : ℕ) (c : Context) (ts : List Token) (number site : ℕ) (rest : List Token) → Begins ts (k.Number number) site rest → FirstReads P d c ts (expr.Number site number) rest
number_reads P d c ts number site rest h ks s n f = one_token P d c ts _ site rest ks (operand.Literal (expr.Number site number)) _ h refl s n refl refl refl refl (λ i. refl)

pub text_reads : (P : ℕ → Type 0) (d : ℕ) (c : Context) (ts : List Token) (text : List ℕ) (site : ℕ) (rest : List Token) → Begins ts (k.Text text) site rest → FirstReads P d c ts (expr.Text site text) rest
text_reads P d c ts text site rest h ks s n f = one_token P d c ts _ site rest ks (operand.Literal (expr.Text site text)) _ h refl s n refl refl refl refl (λ i. refl)

-- ---- expressions parted by commas

bracket_stands : {c : Context} {d : ℕ} {ks : List Frame} (b : Bracket) → Stands c d ks → Stands c (suc d) (frame.Bracket b ∷ ks)
bracket_stands b s = record { context_is = s.context_is; depth_is = omega (arith, s.depth_is) }

close_none : (w : Lister) (before : List Expr) (ks : List Frame) (site : ℕ) → want site (frame.Bracket (bracket_of w before) ∷ ks) (mark_of w) ≡ Some (reached (list_start w) (listed w before) ks)
close_none (of_call start first suffixes site') before ks site = refl
close_none (of_new site' n) before ks site = refl
close_none (of_array site') before ks site = refl

close_last : (w : Lister) (before : List Expr) (ks : List Frame) (line : Bool) (site start : ℕ) (x : Operand) → operand_on line site start x (frame.Bracket (bracket_of w before) ∷ ks) (mark_of w) ≡ Some (reached (list_start w) (listed w (before ++ value_of x ∷ [])) ks)
close_last (of_call start first suffixes site') before ks line site start' x = on_loose line site start' x (frame.Bracket (bracket.Call start first suffixes site' before) ∷ ks) k.CloseRound refl
close_last (of_new site' n) before ks line site start' x = on_loose line site start' x (frame.Bracket (bracket.New site' n before) ∷ ks) k.CloseRound refl
close_last (of_array site') before ks line site start' x = on_loose line site start' x (frame.Bracket (bracket.Array site' before) ∷ ks) k.CloseSquare refl

comma_more : (w : Lister) (before : List Expr) (ks : List Frame) (line : Bool) (site start : ℕ) (x : Operand) → operand_on line site start x (frame.Bracket (bracket_of w before) ∷ ks) k.Comma ≡ Some (wants (frame.Bracket (bracket_of w (before ++ value_of x ∷ []))) ks)
comma_more (of_call start first suffixes site') before ks line site start' x = on_loose line site start' x (frame.Bracket (bracket.Call start first suffixes site' before) ∷ ks) k.Comma refl
comma_more (of_new site' n) before ks line site start' x = on_loose line site start' x (frame.Bracket (bracket.New site' n before) ∷ ks) k.Comma refl
comma_more (of_array site') before ks line site start' x = on_loose line site start' x (frame.Bracket (bracket.Array site' before) ∷ ks) k.Comma refl

mark_loose : (w : Lister) → loose (mark_of w) ≡ true
mark_loose (of_call start first suffixes site) = refl
mark_loose (of_new site n) = refl
mark_loose (of_array site) = refl

marked : {ts : List Token} {close : TokenKind} {site : ℕ} {rest : List Token} {kind : TokenKind} → close ≡ kind → Begins ts close site rest → Begins ts kind site rest
marked {ts} {close} {site} {rest} {kind} e h = subst (λ (z : TokenKind). Begins ts z site rest) e h

pub arguments_none_read : (P : ℕ → Type 0) (close : TokenKind) (d : ℕ) (c : Context) (ts : List Token) (site : ℕ) (rest : List Token) → Begins ts close site rest → ArgumentsReads P close d c ts [] rest
arguments_none_read P close d c ts site rest h w before ks e s n =
    ending_at (take (marked e h) (close_none w before ks site) n s.depth_is) (ap (λ (z : List Expr). reached (list_start w) (listed w z) ks) (sym (append-nil before)))

pub arguments_last_read : (P : ℕ → Type 0) (close : TokenKind) (d : ℕ) (c : Context) (ts : List Token) (e : Expr) (t : Tail) (end : List Token) (site : ℕ) (rest : List Token) → AssignReads P d c ts e t end → Begins end close site rest → ArgumentsReads P close d c ts (e ∷ []) rest
arguments_last_read P close d c ts e t end site rest i h w before ks m s n =
    let r = i (frame.Bracket (bracket_of w before) ∷ ks) (bracket_stands (bracket_of w before) s) refl refl (ends_loose t (marked m h) (mark_loose w)) in
    r.leads ⟫ ending_at (take (marked m h) (close_last w before ks (marked m h).line site (start_of ts) r.x) n s.depth_is) (ap (λ (z : Expr). reached (list_start w) (listed w (before ++ z ∷ [])) ks) r.is)

pub arguments_more_read : (P : ℕ → Type 0) (close : TokenKind) (d : ℕ) (c : Context) (ts : List Token) (e : Expr) (t : Tail) (comma : List Token) (site : ℕ) (from : List Token) (es : List Expr) (rest : List Token) → AssignReads P d c ts e t comma → Begins comma k.Comma site from → ArgumentsReads P close d c from es rest → ArgumentsReads P close d c ts (e ∷ es) rest
arguments_more_read P close d c ts e t comma site from es rest i h j w before ks m s n =
    let r = i (frame.Bracket (bracket_of w before) ∷ ks) (bracket_stands (bracket_of w before) s) refl refl (ends_loose t h refl) in
    r.leads ⟫ ending_at (take h (comma_more w before ks h.line site (start_of ts) r.x) n (omega (arith, s.depth_is))) (ap (λ (z : Expr). wants (frame.Bracket (bracket_of w (before ++ z ∷ []))) ks) r.is)
    ⟫ ending_at (j w (before ++ e ∷ []) ks m s n) (ap (λ (z : List Expr). reached (list_start w) (listed w z) ks) (append_assoc before (e ∷ []) es))

-- ---- first parts

pub new_reads : (P : ℕ → Type 0) (d : ℕ) (c : Context) (ts : List Token) (site : ℕ) (from : List Token) (name : Identifier) (opens : List Token) (at' : ℕ) (inside : List Token) (es : List Expr) (rest : List Token) → IsWord ts word.New site from → IsIdentifier from name opens → Begins opens k.OpenRound at' inside → ArgumentsReads P k.CloseRound d c inside es rest → FirstReads P d c ts (expr.New site name es) rest
new_reads P d c ts site from name opens at' inside es rest h i j a ks s n f = record {
  x = operand.Primary (expr.New site name es);
  is = refl;
  tail_is = refl;
  first_is = refl;
  suffixes_are = refl;
  literal = λ l. absurd cc;
  leads = from_start h.1 (take h.1 refl n s.depth_is ⟫ take i.begins refl n s.depth_is ⟫ take j refl n (omega (arith, s.depth_is)) ⟫ a (of_new site name) [] ks refl s n);
}

pub array_reads : (P : ℕ → Type 0) (d : ℕ) (c : Context) (ts : List Token) (site : ℕ) (inside : List Token) (es : List Expr) (rest : List Token) → Begins ts k.OpenSquare site inside → ArgumentsReads P k.CloseSquare d c inside es rest → FirstReads P d c ts (expr.Array site es) rest
array_reads P d c ts site inside es rest h a ks s n f = record {
  x = operand.Primary (expr.Array site es);
  is = refl;
  tail_is = refl;
  first_is = refl;
  suffixes_are = refl;
  literal = λ l. absurd cc;
  leads = from_start h (take h refl n (omega (arith, s.depth_is)) ⟫ a (of_array site) [] ks refl s n);
}

brace_want : (site : ℕ) (ks : List Frame) → is_body ks ≡ false → want_brace site ks ≡ Some (at (mode.Piece (piece.Key site [])) ks)
brace_want site (frame.Pending (pending.Arrow start names) ∷ ks) h = absurd cc
brace_want site (frame.Pending _ ∷ ks) h = refl
brace_want site [] h = refl
brace_want site (_ ∷ ks) h = refl

free_brace : (b : Bool) → (b && true) ≡ false → b ≡ false
free_brace true h = absurd cc
free_brace false h = refl

free_at : {ts : List Token} {site : ℕ} {rest : List Token} (ks : List Frame) → Begins ts k.OpenBrace site rest → Free ks ts → is_body ks ≡ false
free_at ks h f = free_brace (is_body ks) (rw h.begins at f)

pub object_reads : (P : ℕ → Type 0) (d : ℕ) (c : Context) (ts : List Token) (site : ℕ) (inside : List Token) (ms : List (Member Expr)) (rest : List Token) → Begins ts k.OpenBrace site inside → MembersReads P d c inside ms rest → FirstReads P d c ts (expr.Object site ms) rest
object_reads P d c ts site inside ms rest h a ks s n f = record {
  x = operand.Primary (expr.Object site ms);
  is = refl;
  tail_is = refl;
  first_is = refl;
  suffixes_are = refl;
  literal = λ l. absurd cc;
  leads = from_start h (take h (brace_want site ks (free_at ks h f)) n s.depth_is ⟫ a site [] ks s n);
}

wrapped_value : (x : Operand) → value_of (wrapped x) ≡ value_of x
wrapped_value (operand.Name n) = refl
wrapped_value (operand.RoundName n) = refl
wrapped_value _ = refl

wrapped_tail : (x : Operand) → tail_of (wrapped x) ≡ call
wrapped_tail (operand.Name n) = refl
wrapped_tail _ = refl

wrapped_first : (x : Operand) → first_of (wrapped x) ≡ value_of x
wrapped_first (operand.Name n) = refl
wrapped_first _ = refl

wrapped_suffixes : (x : Operand) → suffixes_of (wrapped x) ≡ []
wrapped_suffixes (operand.Name n) = refl
wrapped_suffixes _ = refl

wrapped_literal : (x : Operand) → is_literal (wrapped x) ≡ false
wrapped_literal (operand.Name n) = refl
wrapped_literal _ = refl

wrapped_target : (x : Operand) (t : Target Expr) → target_of x ≡ Some t → target_of (wrapped x) ≡ Some t
wrapped_target (operand.Name n) t h = h
wrapped_target (operand.RoundName n) t h = h
wrapped_target (operand.DeepName n) t h = h
wrapped_target (operand.Access first earlier last) t h = h
wrapped_target (operand.RoundAccess first earlier last) t h = h
wrapped_target _ t h = absurd cc

pub round_reads : (P : ℕ → Type 0) (d : ℕ) (c : Context) (ts : List Token) (opens : ℕ) (inside : List Token) (e : Expr) (t : Tail) (close : List Token) (at' : ℕ) (rest : List Token) → Begins ts k.OpenRound opens inside → AssignReads P d c inside e t close → Begins close k.CloseRound at' rest → FirstReads P d c ts e rest
round_reads P d c ts opens inside e t close at' rest h i j ks s n f =
    let r = i (frame.Bracket (bracket.Round opens) ∷ ks) (bracket_stands (bracket.Round opens) s) refl refl (ends_loose t j refl) in
    record {
      x = wrapped r.x;
      is = wrapped_value r.x ∙ r.is;
      tail_is = wrapped_tail r.x;
      first_is = wrapped_first r.x ∙ r.is;
      suffixes_are = wrapped_suffixes r.x;
      literal = λ l. absurd (cc (wrapped_literal r.x));
      leads = from_start h (take h refl n (omega (arith, s.depth_is)) ⟫ r.leads ⟫ take j (on_loose j.line at' (start_of inside) r.x (frame.Bracket (bracket.Round opens) ∷ ks) k.CloseRound refl) n s.depth_is);
    }

pub target_round_reads : (P : ℕ → Type 0) (d : ℕ) (c : Context) (ts : List Token) (opens : ℕ) (inside : List Token) (x : Target Expr) (close : List Token) (at' : ℕ) (rest : List Token) → Begins ts k.OpenRound opens inside → P (suc d) → TargetReads P (suc d) c inside x close → Begins close k.CloseRound at' rest → TargetReads P d c ts x rest
target_round_reads P d c ts opens inside x close at' rest h n' i j ks s n f =
    let r = i (frame.Bracket (bracket.Round opens) ∷ ks) (bracket_stands (bracket.Round opens) s) n' refl in
    record {
      x = wrapped r.x;
      target_is = wrapped_target r.x x r.target_is;
      leads = from_start h (take h refl n (omega (arith, s.depth_is)) ⟫ r.leads ⟫ take j (on_loose j.line at' (start_of inside) r.x (frame.Bracket (bracket.Round opens) ∷ ks) k.CloseRound refl) n s.depth_is);
    }

pub target_name_reads : (P : ℕ → Type 0) (d : ℕ) (c : Context) (ts : List Token) (name : Identifier) (rest : List Token) → IsIdentifier ts name rest → TargetReads P d c ts (target.Name name) rest
target_name_reads P d c ts name rest h ks s n f = record { x = operand.Name name; target_is = refl; leads = from_start h.begins (take h.begins refl n s.depth_is) }

-- ---- suffixes

property_due : (P : ℕ → Type 0) (d : ℕ) (from : List Token) (name : List ℕ) (at' : ℕ) (rest : List Token) (start : ℕ) (first : Expr) (ss : List (Suffix Expr)) (site : ℕ) (ks : List Frame) → IsIdentifierName from name at' rest → depth ks ≡ d → P d → Leads P from (at (mode.Piece (piece.Property start first ss site)) ks) rest (reached start (operand.Access first ss (access.Property site name)) ks)
property_due P d from name at' rest start first ss site ks (inl h) s n = take h refl n s
property_due P d from name at' rest start first ss site ks (inr h) s n = take h.1 refl n s

pub property_reads : (P : ℕ → Type 0) (d : ℕ) (c : Context) (ts : List Token) (site : ℕ) (from : List Token) (name : List ℕ) (at' : ℕ) (rest : List Token) → Begins ts k.Dot site from → IsIdentifierName from name at' rest → AccessReads P d c ts (access.Property site name) rest
property_reads P d c ts site from name at' rest h i ks s n start x t = take h (rw t refl) n s.depth_is ⟫ property_due P d from name at' rest start (first_of x) (suffixes_of x) site ks i s.depth_is n

static_due : (P : ℕ → Type 0) (d : ℕ) (inside : List Token) (e : Expr) (rest : List Token) (start : ℕ) (first : Expr) (ss : List (Suffix Expr)) (site : ℕ) (ks : List Frame) → IsStaticKey inside e rest → depth ks ≡ d → P d → P (suc d) → Leads P inside (wants (frame.Bracket (bracket.Index start first ss site)) ks) rest (reached start (operand.Access first ss (access.Index site true e)) ks)
static_due P d _ _ _ start first ss site ks (static_text ts text at' close at'' rest h i) s n n' = take h refl n' (omega (arith, s)) ⟫ take i refl n s
static_due P d _ _ _ start first ss site ks (static_number ts number at' close at'' rest h i) s n n' = take h refl n' (omega (arith, s)) ⟫ take i refl n s

pub static_reads : (P : ℕ → Type 0) (d : ℕ) (c : Context) (ts : List Token) (site : ℕ) (inside : List Token) (e : Expr) (rest : List Token) → P (suc d) → Begins ts k.OpenSquare site inside → IsStaticKey inside e rest → AccessReads P d c ts (access.Index site true e) rest
static_reads P d c ts site inside e rest n' h i ks s n start x t = take h (rw t refl) n (omega (arith, s.depth_is)) ⟫ static_due P d inside e rest start (first_of x) (suffixes_of x) site ks i s.depth_is n n'

static_opens : (t u : Token) (rest : List Token) → is_static t.kind ≡ true → u.kind ≡ k.CloseSquare → opens_static (t ∷ u ∷ rest) ≡ true
static_opens t u rest h e = rw e (by_kind t.kind h)
  where
    by_kind : (kind : TokenKind) → is_static kind ≡ true → opens_static (record { kind = kind; start = 0; line_before = false } ∷ record { kind = k.CloseSquare; start = 0; line_before = false } ∷ []) ≡ true
    by_kind (k.Text x) h = refl
    by_kind (k.Number n) h = refl
    by_kind _ h = absurd cc

alone_opens : {inside close : List Token} {site : ℕ} {rest : List Token} → Alone inside close → Begins close k.CloseSquare site rest → opens_static inside ≡ true
alone_opens {inside} {close} {site} {rest} a h = rw (a.begins, h.begins) (static_opens a.token (record { kind = k.CloseSquare; start = site; line_before = h.line }) rest a.static refl)

not_true : (b : Bool) → (b ≡ true → ⊥) → b ≡ false
not_true true h = absurd (h refl)
not_true false h = refl

pub index_reads : (P : ℕ → Type 0) (d : ℕ) (c : Context) (ts : List Token) (site : ℕ) (inside : List Token) (e : Expr) (t : Tail) (close : List Token) (at' : ℕ) (rest : List Token) → Begins ts k.OpenSquare site inside → opens_static inside ≡ false → AssignReads P d c inside e t close → Begins close k.CloseSquare at' rest → AccessReads P d c ts (access.Index site false e) rest
index_reads P d c ts site inside e t close at' rest h o i j ks s n start x tx =
    let b : Bracket = bracket.Index start (first_of x) (suffixes_of x) site in
    let r = i (frame.Bracket b ∷ ks) (bracket_stands b s) refl refl (ends_loose t j refl) in
    let l : is_literal r.x ≡ false = not_true (is_literal r.x) (λ q. cc (alone_opens (r.literal q) j)) in
    take h (rw tx refl) n (omega (arith, s.depth_is)) ⟫ r.leads
    ⟫ ending_at (take j (on_loose j.line at' (start_of inside) r.x (frame.Bracket b ∷ ks) k.CloseSquare refl ∙ rw l refl) n s.depth_is) (ap (λ (z : Expr). reached start (operand.Access (first_of x) (suffixes_of x) (access.Index site false z)) ks) r.is)

call_more : (first : Expr) (ss : List (Suffix Expr)) (s : Suffix Expr) → expr.Call first (ss ++ s ∷ []) ≡ call_of first (ss ++ s ∷ [])
call_more first [] s = refl
call_more first (_ ∷ ss) s = refl

pub no_suffixes : (P : ℕ → Type 0) (d : ℕ) (c : Context) (ts : List Token) → SuffixesReads P d c ts [] ts
no_suffixes P d c ts ks s n start x t = record {
  y = x;
  tail_is = t;
  first_is = refl;
  suffixes_are = sym (append-nil (suffixes_of x));
  value = λ h. h;
  literal = λ h. (h, refl);
  leads = stays P ts (reached start x ks);
}

pub access_suffix : (P : ℕ → Type 0) (d : ℕ) (c : Context) (ts : List Token) (a : Access Expr) (mid : List Token) (ss : List (Suffix Expr)) (rest : List Token) → AccessReads P d c ts a mid → SuffixesReads P d c mid ss rest → SuffixesReads P d c ts (suffix.Access a ∷ ss) rest
access_suffix P d c ts a mid ss rest i j ks s n start x t =
    let x' : Operand = operand.Access (first_of x) (suffixes_of x) a in
    let r = j ks s n start x' refl in
    record {
      y = r.y;
      tail_is = r.tail_is;
      first_is = r.first_is;
      suffixes_are = r.suffixes_are ∙ append_assoc (suffixes_of x) (suffix.Access a ∷ []) ss;
      value = λ h. r.value (call_more (first_of x) (suffixes_of x) (suffix.Access a));
      literal = λ h. absurd (cc (r.literal h).0);
      leads = i ks s n start x t ⟫ r.leads;
    }

pub call_suffix : (P : ℕ → Type 0) (d : ℕ) (c : Context) (ts : List Token) (site : ℕ) (inside : List Token) (es : List Expr) (mid : List Token) (ss : List (Suffix Expr)) (rest : List Token) → Begins ts k.OpenRound site inside → ArgumentsReads P k.CloseRound d c inside es mid → SuffixesReads P d c mid ss rest → SuffixesReads P d c ts (suffix.Call site es ∷ ss) rest
call_suffix P d c ts site inside es mid ss rest h i j ks s n start x t =
    let x' : Operand = operand.Call (first_of x) (suffixes_of x ++ suffix.Call site es ∷ []) in
    let r = j ks s n start x' refl in
    record {
      y = r.y;
      tail_is = r.tail_is;
      first_is = r.first_is;
      suffixes_are = r.suffixes_are ∙ append_assoc (suffixes_of x) (suffix.Call site es ∷ []) ss;
      value = λ q. r.value (call_more (first_of x) (suffixes_of x) (suffix.Call site es));
      literal = λ q. absurd (cc (r.literal q).0);
      leads = take h (rw t refl) n (omega (arith, s.depth_is)) ⟫ i (of_call start (first_of x) (suffixes_of x) site) [] ks refl s n ⟫ r.leads;
    }

-- ---- calls

pub call_reads : (P : ℕ → Type 0) (d : ℕ) (c : Context) (ts : List Token) (first : Expr) (mid : List Token) (ss : List (Suffix Expr)) (rest : List Token) → FirstReads P d c ts first mid → SuffixesReads P d c mid ss rest → CallReads P d c ts (call_of first ss) rest
call_reads P d c ts first mid ss rest i j ks s n f =
    let r = i ks s n f in
    let q = j ks s n (start_of ts) r.x r.tail_is in
    let here : value_of r.x ≡ call_of (first_of r.x) (suffixes_of r.x) = rw (r.is, r.first_is, r.suffixes_are) refl in
    let whole_is : call_of (first_of q.y) (suffixes_of q.y) ≡ call_of first ss = rw (q.first_is, q.suffixes_are, r.first_is, r.suffixes_are) refl in
    record {
      x = q.y;
      is = q.value here ∙ whole_is;
      tail_is = q.tail_is;
      calls = whole_is;
      literal = λ l. subst (λ (z : List Token). Alone ts z) (q.literal l).1 (r.literal (q.literal l).0);
      leads = r.leads ⟫ q.leads;
    }

pub target_access_reads : (P : ℕ → Type 0) (d : ℕ) (c : Context) (ts : List Token) (base : Expr) (mid : List Token) (a : Access Expr) (rest : List Token) → CallReads P d c ts base mid → AccessReads P d c mid a rest → TargetReads P d c ts (target.Access base a) rest
target_access_reads P d c ts base mid a rest i j ks s n f =
    let r = i ks s n f in
    record { x = operand.Access (first_of r.x) (suffixes_of r.x) a; target_is = rw r.calls refl; leads = r.leads ⟫ j ks s n (start_of ts) r.x r.tail_is }

-- ---- objects

pub shorthand_reads : (P : ℕ → Type 0) (d : ℕ) (c : Context) (ts : List Token) (name : Identifier) (rest : List Token) → IsIdentifier ts name rest → is_proto name.name ≡ false → MemberReads P d c ts (member.Shorthand name) rest
shorthand_reads P d c ts name rest h p site before ks s n = record {
  more = λ at' left i. take h.begins {m = mode.Piece (piece.Key site before)} {ks = ks} {q = at (mode.Piece (piece.NameKey site before name)) ks} (rw p refl) n s.depth_is ⟫ take i refl n s.depth_is;
  last = λ at' left i. take h.begins {m = mode.Piece (piece.Key site before)} {ks = ks} {q = at (mode.Piece (piece.NameKey site before name)) ks} (rw p refl) n s.depth_is ⟫ take i refl n s.depth_is;
}

key_due : (P : ℕ → Type 0) (d : ℕ) (ts : List Token) (name : Key) (at' : ℕ) (colon : List Token) → IsKey ts name at' colon → (site : ℕ) (before : List (Member Expr)) (ks : List Frame) → depth ks ≡ d → P d → (at'' : ℕ) (from : List Token) → Begins colon k.Colon at'' from → Leads P ts (at (mode.Piece (piece.Key site before)) ks) from (wants (frame.Bracket (bracket.Member site before at' name)) ks)
key_due P d _ _ _ _ (key_word ts name at' rest (inl h) p) site before ks s n at'' from i = take h {m = mode.Piece (piece.Key site before)} {ks = ks} {q = at (mode.Piece (piece.NameKey site before (record { site = at'; name = name }))) ks} (rw p refl) n s ⟫ take i refl n (omega (arith, s))
key_due P d _ _ _ _ (key_word ts name at' rest (inr h) p) site before ks s n at'' from i = take h.1 {m = mode.Piece (piece.Key site before)} {ks = ks} {q = at (mode.Piece (piece.OtherKey site before at' (key.Text name))) ks} (rw p refl) n s ⟫ take i refl n (omega (arith, s))
key_due P d _ _ _ _ (key_text ts text at' rest h p) site before ks s n at'' from i = take h {m = mode.Piece (piece.Key site before)} {ks = ks} {q = at (mode.Piece (piece.OtherKey site before at' (key.Text text))) ks} (rw p refl) n s ⟫ take i refl n (omega (arith, s))
key_due P d _ _ _ _ (key_number ts number at' rest h) site before ks s n at'' from i = take h refl n s ⟫ take i refl n (omega (arith, s))

pub member_value_reads : (P : ℕ → Type 0) (d : ℕ) (c : Context) (ts : List Token) (name : Key) (key_site : ℕ) (colon : List Token) (at' : ℕ) (from : List Token) (e : Expr) (t : Tail) (rest : List Token) → IsKey ts name key_site colon → Begins colon k.Colon at' from → AssignReads P d c from e t rest → MemberReads P d c ts (member.Value key_site name e) rest
member_value_reads P d c ts name key_site colon at' from e t rest h i j site before ks s n =
    let b : Bracket = bracket.Member site before key_site name in
    record {
      more = λ at'' left q.
          let r = j (frame.Bracket b ∷ ks) (bracket_stands b s) refl refl (ends_loose t q refl) in
          key_due P d ts name key_site colon h site before ks s.depth_is n at' from i ⟫ r.leads
          ⟫ ending_at (take q (on_loose q.line at'' (start_of from) r.x (frame.Bracket b ∷ ks) k.Comma refl) n s.depth_is) (ap (λ (z : Expr). at (mode.Piece (piece.Key site (before ++ member.Value key_site name z ∷ []))) ks) r.is);
      last = λ at'' left q.
          let r = j (frame.Bracket b ∷ ks) (bracket_stands b s) refl refl (ends_loose t q refl) in
          key_due P d ts name key_site colon h site before ks s.depth_is n at' from i ⟫ r.leads
          ⟫ ending_at (take q (on_loose q.line at'' (start_of from) r.x (frame.Bracket b ∷ ks) k.CloseBrace refl) n s.depth_is) (ap (λ (z : Expr). reached site (operand.Primary (expr.Object site (before ++ member.Value key_site name z ∷ []))) ks) r.is);
    }

pub members_none_read : (P : ℕ → Type 0) (d : ℕ) (c : Context) (ts : List Token) (at' : ℕ) (rest : List Token) → Begins ts k.CloseBrace at' rest → MembersReads P d c ts [] rest
members_none_read P d c ts at' rest h site before ks s n = ending_at (take h refl n s.depth_is) (ap (λ (z : List (Member Expr)). reached site (operand.Primary (expr.Object site z)) ks) (sym (append-nil before)))

pub members_last_read : (P : ℕ → Type 0) (d : ℕ) (c : Context) (ts : List Token) (m : Member Expr) (end : List Token) (at' : ℕ) (rest : List Token) → MemberReads P d c ts m end → Begins end k.CloseBrace at' rest → MembersReads P d c ts (m ∷ []) rest
members_last_read P d c ts m end at' rest i h site before ks s n = (i site before ks s n).last at' rest h

pub members_more_read : (P : ℕ → Type 0) (d : ℕ) (c : Context) (ts : List Token) (m : Member Expr) (comma : List Token) (at' : ℕ) (from : List Token) (ms : List (Member Expr)) (rest : List Token) → MemberReads P d c ts m comma → Begins comma k.Comma at' from → MembersReads P d c from ms rest → MembersReads P d c ts (m ∷ ms) rest
members_more_read P d c ts m comma at' from ms rest i h j site before ks s n =
    (i site before ks s n).more at' from h ⟫ ending_at (j site (before ++ m ∷ []) ks s n) (ap (λ (z : List (Member Expr)). reached site (operand.Primary (expr.Object site z)) ks) (append_assoc before (m ∷ []) ms))
