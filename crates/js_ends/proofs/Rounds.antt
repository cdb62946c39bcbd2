-- Loops keep exits apart: each round stands behind its turn.
use Rattle.std.proofs.Common.{ℕ, zero, suc, ◌+◌, ◌≡◌, ◌≤◌, ◌<◌, ◌⊎◌, inl, inr, Bool, true, false, List, [], ◌∷◌, Option, Some, None, refl, sym, subst, arith}
use Rattle.path_core.specs.declared.path.ErrorName.TheVariants as kind
use Rattle.path_core.specs.declared.path.Budget.TheVariants as budget
use Rattle.path_core.specs.declared.path.End.{End}
use Rattle.path_core.specs.declared.path.End.TheVariants.{Cut}
use Rattle.path_core.specs.declared.path.Why.{Why}
use Rattle.path_core.specs.declared.path.Why.TheVariants as why
use Rattle.js_ast.specs.declared.expression.Expr.{Expr}
use Rattle.js_ast.specs.declared.operators.DeclarationKind.{DeclarationKind}
use Rattle.js_ast.specs.declared.parts.Declarator.{Declarator}
use Rattle.js_ast.specs.declared.parts.LoopHead.{LoopHead}
use Rattle.js_ast.specs.declared.parts.LoopHead.TheVariants as head
use Rattle.js_meaning.specs.Values.{Value, undefined, null, truth, int, nan, text, object, Scope, Place}
use Rattle.js_meaning.specs.Running.{Completion, given, refers, normal, breaks, continues, returns, throws, stops, Outcome, done, bind, turn, on_value}
use Rattle.js_meaning.specs.Builtins.{Calls}
use Rattle.js_meaning.specs.Objects.{object_at, is_array}
use Rattle.js_meaning.specs.Names.{open_cell}
use Rattle.js_meaning.specs.Parts.{Meaning, branch}
use Rattle.js_meaning.specs.Blocks.{Declaration, is_let, declared_of, declare}
use Rattle.js_meaning.specs.Loops.{after_body, round, round_if, tested, while_loop, again_if, do_again, do_loop, value_of, copy_cells, next_scope, update_then, for_again, test_then, for_loop, item_at, with_item, of_loop, of_start}
use Rattle.js_meaning.specs.Meaning.{meaning_of, perhaps, for_declared, for_head, for_of}
use Rattle.js_meaning.specs.Apart.{Sites, nowhere, only, anywhere}
use Rattle.js_ends.proofs.Fresh.{moment, GoesOn, Waits, Stands, Fresh, Sub, Off, fresh_wider, fresh_bind, stands_less}
use Rattle.js_ends.proofs.Forms.{if_fresh, done_fresh, leaves_fresh, error_fresh, open_fresh, turn_fresh, Less}
use Rattle.js_ends.proofs.Binds.{Either, Within, Steps, branch_fresh}
use Rattle.js_ends.proofs.Lists.{CallsFresh, Part, within, part_value}
use Rattle.js_ends.proofs.Blocks.{Doing, NamesAt, names_wider, names_fresh, DeclaratorsIn, declarators_le, NameOf, name_of_within, declare_fresh}

-- ---- behind a body

goes_round : (G U : Sites) (d : ℕ) (go : Place → Outcome) → Steps nowhere G U d go → (st : Place) (c : Completion) →
    GoesOn c → Waits nowhere c → Stands d st → Fresh nowhere G U d (moment st) (after_body go st c)
goes_round G U d go k st (stops x) g w s = absurd g
goes_round G U d go k st (given x) g w s = done_fresh nowhere G U d st (given x) s tt tt
goes_round G U d go k st (refers r) g w s = done_fresh nowhere G U d st (refers r) s tt w
goes_round G U d go k st normal g w s = k st s
goes_round G U d go k st breaks g w s = done_fresh nowhere G U d st normal s tt tt
goes_round G U d go k st continues g w s = k st s
goes_round G U d go k st (returns x) g w s = done_fresh nowhere G U d st (returns x) s tt tt
goes_round G U d go k st (throws site x) g w s = done_fresh nowhere G U d st (throws site x) s tt tt

-- ---- a round: its turn, the body at B, and then A, off the body

round_fresh : (A B T : Sites) (d site : ℕ) (body again : Place → Outcome) (st : Place) → Off B A → Sub B T →
    Steps nowhere B B d body → Steps nowhere A T d again → Stands d st →
    Fresh nowhere nowhere T d (moment st) (round site body again st)
round_fresh A B T d site body again st o u b a s =
    turn_fresh nowhere (Either B A) T d site st (λ st. bind (body st) (after_body again)) s
    (λ st s. fresh_bind nowhere A T (Either B A) T (body st) (after_body again) (λ n w. inl) (λ n w. inr) u (λ n w h. h) o (omega arith) (λ st x. refl) (b st (stands_less (omega arith) s)) (goes_round A T d again a))

tested_fresh : (A B T : Sites) (d site : ℕ) (body again : Place → Outcome) (x : Value) (st : Place) → Off B A → Sub B T →
    Steps nowhere B B d body → Steps nowhere A T d again → Stands d st →
    Fresh nowhere nowhere T d (moment st) (tested site body again x st)
tested_fresh A B T d site body again x st o u b a s =
    branch_fresh nowhere nowhere T d site x st (round_if site body again) s yes
  where
    yes : (holds : Bool) → Steps nowhere nowhere T d (round_if site body again holds)
    yes true st s = round_fresh A B T d site body again st o u b a s
    yes false st s = done_fresh nowhere nowhere T d st normal s tt tt

spent_fresh : (F T : Sites) (d site : ℕ) (st : Place) → Stands d st →
    Fresh nowhere F T d (moment st) (done st (stops (Cut site budget.Turns)))
spent_fresh F T d site st s = done_fresh nowhere F T d st (stops (Cut site budget.Turns)) s tt tt

-- ---- `while`

while_fresh : (lo mid hi site : ℕ) (test body : Meaning) → Part lo mid test → Doing mid hi body → (calls : Calls) →
    CallsFresh calls → (k : ℕ) (scope : Scope) (d : ℕ) →
    Steps nowhere (Within lo mid) (Within lo hi) d (while_loop k site (test calls) (body calls) scope)
while_fresh lo mid hi site test body t b calls c zero scope d st s = spent_fresh (Within lo mid) (Within lo hi) d site st s
while_fresh lo mid hi site test body t b calls c (suc k) scope d st s =
    part_value t nowhere nowhere (Within lo hi) (Within lo mid) (Within lo hi) calls c k scope d st (tested site (body calls k scope) (while_loop k site (test calls) (body calls) scope))
    (λ n w h. h) (λ n w h. absurd h) (within (omega arith) b.le) (λ n w h. h) (λ n w h g. g) s
    (λ x st s. tested_fresh (Within lo mid) (Within mid hi) (Within lo hi) d site (body calls k scope) (while_loop k site (test calls) (body calls) scope) x st (λ n w i j. omega (arith, i.0, j.1)) (within t.le (omega arith)) (b.good calls c k scope d)
    (while_fresh lo mid hi site test body t b calls c k scope d) s)

pub while_part : (lo mid hi site : ℕ) (test body : Meaning) → Part lo mid test → Doing mid hi body → {m : Meaning} →
    ((calls : Calls) (k : ℕ) (scope : Scope) (st : Place) →
    m calls k scope st ≡ while_loop (suc k) site (test calls) (body calls) scope st) → Doing lo hi m
while_part lo mid hi site test body t b is =
    record {
      le = omega (arith, t.le, b.le);
      good = λ calls c k scope d st s. subst (λ r. Fresh nowhere (Within lo hi) (Within lo hi) d (moment st) r) (sym (is calls k scope st))
          (fresh_wider nowhere (Within lo hi) (Within lo hi) (λ n w h. h) (within (omega arith) b.le) (λ n w h. h) (while_fresh lo mid hi site test body t b calls c (suc k) scope d st s));
    }

-- ---- `do`

do_fresh : (lo mid hi site test_site : ℕ) (test body : Meaning) → Doing lo mid body → Part mid hi test → (calls : Calls) →
    CallsFresh calls → (k : ℕ) (scope : Scope) (d : ℕ) →
    Steps nowhere nowhere (Within lo hi) d (do_loop k site test_site (test calls) (body calls) scope)
do_fresh lo mid hi site test_site test body b t calls c zero scope d st s =
    spent_fresh nowhere (Within lo hi) d site st s
do_fresh lo mid hi site test_site test body b t calls c (suc k) scope d st s =
    round_fresh (Within mid hi) (Within lo mid) (Within lo hi) d site (body calls k scope) (do_again k site test_site (test calls) next scope) st (λ n w i j. omega (arith, i.1, j.0)) (within (omega arith) t.le) (b.good calls c k scope d)
    (again k (do_fresh lo mid hi site test_site test body b t calls c k scope d)) s
  where
    next : Place → Outcome
    next = do_loop k site test_site (test calls) (body calls) scope

    again : (j : ℕ) → Steps nowhere nowhere (Within lo hi) d next → Steps nowhere (Within mid hi) (Within lo hi) d (do_again j site test_site (test calls) next scope)
    again zero f st s = spent_fresh (Within mid hi) (Within lo hi) d site st s
    again (suc j) f st s =
        part_value t nowhere nowhere (Within lo hi) (Within mid hi) (Within lo hi) calls c j scope d st (λ x st. branch test_site x st (again_if next))
        (λ n w h. h) (λ n w h. absurd h) (within b.le (omega arith)) (λ n w h. h) (λ n w h g. g) s
        (λ x st s. branch_fresh nowhere nowhere (Within lo hi) d test_site x st (again_if next) s (yes f))
      where
        yes : Steps nowhere nowhere (Within lo hi) d next → (holds : Bool) → Steps nowhere nowhere (Within lo hi) d (again_if next holds)
        yes f true st s = f st s
        yes f false st s = done_fresh nowhere nowhere (Within lo hi) d st normal s tt tt

pub do_part : (lo mid hi site test_site : ℕ) (test body : Meaning) → Doing lo mid body → Part mid hi test →
    {m : Meaning} → ((calls : Calls) (k : ℕ) (scope : Scope) (st : Place) →
    m calls k scope st ≡ do_loop (suc k) site test_site (test calls) (body calls) scope st) → Doing lo hi m
do_part lo mid hi site test_site test body b t is =
    record {
      le = omega (arith, t.le, b.le);
      good = λ calls c k scope d st s. subst (λ r. Fresh nowhere (Within lo hi) (Within lo hi) d (moment st) r) (sym (is calls k scope st))
          (fresh_wider nowhere (Within lo hi) (Within lo hi) (λ n w h. h) (λ n w h. absurd h) (λ n w h. h) (do_fresh lo mid hi site test_site test body b t calls c (suc k) scope d st s));
    }

-- ---- `for`: head, test, update and body stand in this order

abbrev pub OptionIn : ℕ → ℕ → Option (Expr × Meaning) → Type 0
OptionIn lo hi None = lo ≤ hi
OptionIn lo hi (Some e) = Part lo hi e.1

option_le : (lo hi : ℕ) (o : Option (Expr × Meaning)) → OptionIn lo hi o → lo ≤ hi
option_le lo hi None h = h
option_le lo hi (Some e) h = h.le

copy_fresh : (F T : Sites) (d : ℕ) (ds : List Declaration) (last outer : Scope) (st : Place)
    (go : Scope → Place → Outcome) → NamesAt F ds → Stands d st → ((scope : Scope) → Steps nowhere F T d (go scope)) →
    Fresh nowhere F T d (moment st) (copy_cells ds last outer st go)
copy_fresh F T d [] last outer st go h s k = k outer st s
copy_fresh F T d (x ∷ ds) last outer st go h s k =
    open_fresh nowhere F T d x.site x.name true (value_of x.name last st) outer st (λ scope st. copy_cells ds last scope st go) h.0 s (λ scope st s. copy_fresh F T d ds last scope st go h.1 s k)

next_fresh : (F T : Sites) (d : ℕ) (ds : List Declaration) (last outer : Scope) (st : Place)
    (go : Scope → Place → Outcome) → NamesAt F ds → Stands d st → ((scope : Scope) → Steps nowhere F T d (go scope)) →
    Fresh nowhere F T d (moment st) (next_scope ds last outer st go)
next_fresh F T d [] last outer st go h s k = k last st s
next_fresh F T d (x ∷ ds) last outer st go h s k = copy_fresh F T d (x ∷ ds) last outer st go h s k

-- the places of a loop
pub record Loop (names : Sites) (t0 t1 u1 b1 : ℕ) (test update : Option (Expr × Meaning)) (body : Meaning) : Type 0 where
  pub before : (n : ℕ) (w : Why) → names n w → n < t0
  pub test_in : OptionIn t0 t1 test
  pub update_in : OptionIn t1 u1 update
  pub body_in : Doing u1 b1 body

update_fresh : (t0 t1 u1 b1 : ℕ) (update : Option (Expr × Meaning)) → OptionIn t1 u1 update → t0 ≤ t1 → u1 ≤ b1 →
    (calls : Calls) → CallsFresh calls → (k : ℕ) (scope : Scope) (d : ℕ) (go : Place → Outcome) →
    Steps nowhere (Within t0 t1) (Within t0 b1) d go →
    Steps nowhere (Within t0 u1) (Within t0 b1) d (update_then (perhaps calls update) k scope go)
update_fresh t0 t1 u1 b1 None i l m calls c k scope d go f st s =
    fresh_wider nowhere (Within t0 u1) (Within t0 b1) (λ n w h. h) (within (omega arith) i) (λ n w h. h) (f st s)
update_fresh t0 t1 u1 b1 (Some u) i l m calls c k scope d go f st s =
    part_value i nowhere (Within t0 t1) (Within t0 b1) (Within t0 u1) (Within t0 b1) calls c k scope d st (λ x st. go st)
    (within l (omega arith)) (within (omega arith) i.le) (within l m) (λ n w h. h) (λ n w i j. omega (arith, i.0, j.1)) s (λ x. f)

again_fresh : (t0 t1 u1 b1 site : ℕ) (names : List Declaration) (N : Sites) (update : Option (Expr × Meaning)) →
    NamesAt N names → OptionIn t1 u1 update → t0 ≤ t1 → u1 ≤ b1 → (calls : Calls) → CallsFresh calls →
    (next : Scope → Place → Outcome) (d : ℕ) → ((scope : Scope) →
    Steps nowhere (Within t0 t1) (Within t0 b1) d (next scope)) → (outer : Scope) (k : ℕ) (scope : Scope) →
    Steps nowhere (Either N (Within t0 u1)) (Within t0 b1) d (for_again k site names (perhaps calls update) next outer scope)
again_fresh t0 t1 u1 b1 site names N update h i l m calls c next d f outer zero scope st s =
    spent_fresh (Either N (Within t0 u1)) (Within t0 b1) d site st s
again_fresh t0 t1 u1 b1 site names N update h i l m calls c next d f outer (suc k) scope st s =
    next_fresh (Either N (Within t0 u1)) (Within t0 b1) d names scope outer st (λ scope st. update_then (perhaps calls update) k scope (next scope) st) (names_wider N (Either N (Within t0 u1)) names (λ n w. inl) h) s
    (λ scope st s. fresh_wider nowhere (Either N (Within t0 u1)) (Within t0 b1) (λ n w h. h) (λ n w. inr) (λ n w h. h) (update_fresh t0 t1 u1 b1 update i l m calls c k scope d (next scope) (f scope) st s))

test_fresh : (t0 t1 u1 b1 site : ℕ) (N : Sites) (test : Option (Expr × Meaning)) (body again : Place → Outcome) →
    OptionIn t0 t1 test → t1 ≤ u1 → u1 ≤ b1 → Off (Within u1 b1) N → (calls : Calls) → CallsFresh calls → (k : ℕ)
    (scope : Scope) (d : ℕ) → Steps nowhere (Within u1 b1) (Within u1 b1) d body →
    Steps nowhere (Either N (Within t0 u1)) (Within t0 b1) d again →
    Steps nowhere (Within t0 t1) (Within t0 b1) d (test_then (perhaps calls test) k site scope body again)
test_fresh t0 t1 u1 b1 site N None body again i l m o calls c k scope d b a st s =
    fresh_wider nowhere (Within t0 t1) (Within t0 b1) (λ n w h. h) (λ n w h. absurd h) (λ n w h. h)
    (round_fresh (Either N (Within t0 u1)) (Within u1 b1) (Within t0 b1) d site body again st off (within (omega (arith, i, l)) (omega arith)) b a s)
  where
    off : Off (Within u1 b1) (Either N (Within t0 u1))
    off n w j (inl h) = o n w j h
    off n w j (inr h) = omega (arith, j.0, h.1)
test_fresh t0 t1 u1 b1 site N (Some test) body again i l m o calls c k scope d b a st s =
    part_value i nowhere nowhere (Within t0 b1) (Within t0 t1) (Within t0 b1) calls c k scope d st (tested site body again)
    (λ n w h. h) (λ n w h. absurd h) (within (omega arith) (omega (arith, l, m))) (λ n w h. h) (λ n w h g. g) s
    (λ x st s. tested_fresh (Either N (Within t0 u1)) (Within u1 b1) (Within t0 b1) d site body again x st off (within (omega (arith, i.le, l)) (omega arith)) b a s)
  where
    off : Off (Within u1 b1) (Either N (Within t0 u1))
    off n w j (inl h) = o n w j h
    off n w j (inr h) = omega (arith, j.0, h.1)

for_fresh : (t0 t1 u1 b1 site : ℕ) (names : List Declaration) (N : Sites) (test update : Option (Expr × Meaning))
    (body : Meaning) → NamesAt N names → Loop N t0 t1 u1 b1 test update body → (calls : Calls) → CallsFresh calls →
    (outer : Scope) (d k : ℕ) (scope : Scope) →
    Steps nowhere (Within t0 t1) (Within t0 b1) d (for_loop k site names (perhaps calls test) (perhaps calls update) (body calls) outer scope)
for_fresh t0 t1 u1 b1 site names N test update body h p calls c outer d zero scope st s =
    spent_fresh (Within t0 t1) (Within t0 b1) d site st s
for_fresh t0 t1 u1 b1 site names N test update body h p calls c outer d (suc k) scope st s =
    test_fresh t0 t1 u1 b1 site N test (body calls k scope) (for_again k site names (perhaps calls update) next outer scope) p.test_in mid p.body_in.le off calls c k scope d (p.body_in.good calls c k scope d)
    (again_fresh t0 t1 u1 b1 site names N update h p.update_in low p.body_in.le calls c next d (λ scope. for_fresh t0 t1 u1 b1 site names N test update body h p calls c outer d k scope) outer k scope) st s
  where
    next : Scope → Place → Outcome
    next = for_loop k site names (perhaps calls test) (perhaps calls update) (body calls) outer

    low : t0 ≤ t1
    low = option_le t0 t1 test p.test_in

    mid : t1 ≤ u1
    mid = option_le t1 u1 update p.update_in

    off : Off (Within u1 b1) N
    off n w j i = omega (arith, j.0, p.before n w i, low, mid)

-- what stands first in the head, between two places
abbrev pub HeadIn : ℕ → ℕ → LoopHead (Expr × Meaning) → Type 0
HeadIn lo hi head.Nothing = lo ≤ hi
HeadIn lo hi (head.Value e) = Part lo hi e.1
HeadIn lo hi (head.Declare o ds) = DeclaratorsIn meaning_of lo hi ds

declared_at : {E : Type 0} (o : DeclarationKind) (ds : List (Declarator E)) → NamesAt (NameOf ds) (declared_of o ds)
declared_at o [] = tt
declared_at o (x ∷ ds) =
    (inl refl, names_wider (NameOf ds) (NameOf (x ∷ ds)) (declared_of o ds) (λ n w. inr) (declared_at o ds))

pub declared_within : {E : Type 0} (run : E → Meaning) (o : DeclarationKind) (lo hi : ℕ) (ds : List (Declarator E)) →
    DeclaratorsIn run lo hi ds → NamesAt (Within lo hi) (declared_of o ds)
declared_within run o lo hi ds h =
    names_wider (NameOf ds) (Within lo hi) (declared_of o ds) (name_of_within run lo hi ds h) (declared_at o ds)

goes_declared : (F G T : Sites) (d : ℕ) (b : Bool) (names : List Declaration) (scope outer : Scope)
    (go : List Declaration → Scope → Place → Outcome) → NamesAt F names → Sub G F →
    ((ns : List Declaration) (scope : Scope) → (ns ≡ names) ⊎ (ns ≡ []) → Steps nowhere G T d (go ns scope)) →
    (st : Place) (c : Completion) → GoesOn c → Waits nowhere c → Stands d st →
    Fresh nowhere F T d (moment st) (for_declared b names outer scope go st c)
goes_declared F G T d true names scope outer go h u k st normal g w s =
    next_fresh F T d names scope outer st (go names) h s (λ scope st s. fresh_wider nowhere F T (λ n w h. h) u (λ n w h. h) (k names scope (inl refl) st s))
goes_declared F G T d false names scope outer go h u k st normal g w s =
    fresh_wider nowhere F T (λ n w h. h) u (λ n w h. h) (k [] scope (inr refl) st s)
goes_declared F G T d b names scope outer go h u k st (stops x) g w s = absurd g
goes_declared F G T d true names scope outer go h u k st (given x) g w s = done_fresh nowhere F T d st (given x) s tt tt
goes_declared F G T d true names scope outer go h u k st (refers r) g w s = done_fresh nowhere F T d st (refers r) s tt w
goes_declared F G T d true names scope outer go h u k st breaks g w s = done_fresh nowhere F T d st breaks s tt tt
goes_declared F G T d true names scope outer go h u k st continues g w s = done_fresh nowhere F T d st continues s tt tt
goes_declared F G T d true names scope outer go h u k st (returns x) g w s =
    done_fresh nowhere F T d st (returns x) s tt tt
goes_declared F G T d true names scope outer go h u k st (throws site x) g w s =
    done_fresh nowhere F T d st (throws site x) s tt tt
goes_declared F G T d false names scope outer go h u k st (given x) g w s = done_fresh nowhere F T d st (given x) s tt tt
goes_declared F G T d false names scope outer go h u k st (refers r) g w s =
    done_fresh nowhere F T d st (refers r) s tt w
goes_declared F G T d false names scope outer go h u k st breaks g w s = done_fresh nowhere F T d st breaks s tt tt
goes_declared F G T d false names scope outer go h u k st continues g w s =
    done_fresh nowhere F T d st continues s tt tt
goes_declared F G T d false names scope outer go h u k st (returns x) g w s =
    done_fresh nowhere F T d st (returns x) s tt tt
goes_declared F G T d false names scope outer go h u k st (throws site x) g w s =
    done_fresh nowhere F T d st (throws site x) s tt tt

declared_hands : (b : Bool) (names : List Declaration) (scope outer : Scope)
    (go : List Declaration → Scope → Place → Outcome) (st : Place) (x : End) →
    for_declared b names outer scope go st (stops x) ≡ done st (stops x)
declared_hands true names scope outer go st x = refl
declared_hands false names scope outer go st x = refl

head_fresh : (h0 t0 t1 u1 b1 site : ℕ) (h : LoopHead (Expr × Meaning)) (test update : Option (Expr × Meaning))
    (body : Meaning) → HeadIn h0 t0 h → OptionIn t0 t1 test → OptionIn t1 u1 update → Doing u1 b1 body →
    (calls : Calls) → CallsFresh calls → (k : ℕ) (outer : Scope) (d : ℕ) →
    Steps nowhere (Within h0 b1) (Within h0 b1) d (for_head h calls k outer (λ names. for_loop (suc k) site names (perhaps calls test) (perhaps calls update) (body calls) outer))
head_fresh h0 t0 t1 u1 b1 site head.Nothing test update body h t u b calls c k outer d st s =
    fresh_wider nowhere (Within h0 b1) (Within h0 b1) (λ n w h. h) (within h all) (within h (omega arith))
    (for_fresh t0 t1 u1 b1 site [] nowhere test update body tt (record { before = λ n w i. absurd i; test_in = t; update_in = u; body_in = b }) calls c outer d (suc k) outer st s)
  where
    all : t1 ≤ b1
    all = omega (arith, option_le t1 u1 update u, b.le)
head_fresh h0 t0 t1 u1 b1 site (head.Value e) test update body h t u b calls c k outer d st s =
    part_value h nowhere (Within t0 t1) (Within t0 b1) (Within h0 b1) (Within h0 b1) calls c k outer d st (λ x st. for_loop (suc k) site [] (perhaps calls test) (perhaps calls update) (body calls) outer outer st)
    (within (omega arith) low) (within h.le all) (within (omega arith) low) (within h.le (omega arith)) (λ n w i j. omega (arith, i.1, j.0)) s
    (λ x. for_fresh t0 t1 u1 b1 site [] nowhere test update body tt (record { before = λ n w i. absurd i; test_in = t; update_in = u; body_in = b }) calls c outer d (suc k) outer)
  where
    all : t1 ≤ b1
    all = omega (arith, option_le t1 u1 update u, b.le)

    low : t0 ≤ b1
    low = omega (arith, option_le t0 t1 test t, all)
head_fresh h0 t0 t1 u1 b1 site (head.Declare o ds) test update body h t u b calls c k outer d st s =
    names_fresh nowhere (Within h0 b1) (Within h0 b1) d (declared_of o ds) outer st (λ scope st. bind (declare meaning_of ds calls k scope st) (for_declared (is_let o) (declared_of o ds) outer scope go)) (names_wider (Within h0 t0) (Within h0 b1) (declared_of o ds) (within (omega arith) low) (declared_within meaning_of o h0 t0 ds h)) s
    (λ scope st s. fresh_bind nowhere (Either (NameOf ds) (Within t0 t1)) (Within t0 b1) (Within h0 b1) (Within h0 b1) (declare meaning_of ds calls k scope st) (for_declared (is_let o) (declared_of o ds) outer scope go)
    (within (omega arith) low) later (λ n w i. within (omega arith) low n w i.0) (within start (omega arith)) off (omega arith) (declared_hands (is_let o) (declared_of o ds) scope outer go) (declare_fresh meaning_of h0 t0 ds h calls c k scope d st s)
    (goes_declared (Either (NameOf ds) (Within t0 t1)) (Within t0 t1) (Within t0 b1) d (is_let o) (declared_of o ds) scope outer go (names_wider (NameOf ds) (Either (NameOf ds) (Within t0 t1)) (declared_of o ds) (λ n w. inl) (declared_at o ds)) (λ n w. inr) rounds))
  where
    go : List Declaration → Scope → Place → Outcome
    go names = for_loop (suc k) site names (perhaps calls test) (perhaps calls update) (body calls) outer

    all : t1 ≤ b1
    all = omega (arith, option_le t1 u1 update u, b.le)

    low : t0 ≤ b1
    low = omega (arith, option_le t0 t1 test t, all)

    start : h0 ≤ t0
    start = declarators_le meaning_of h0 t0 ds h

    later : Sub (Either (NameOf ds) (Within t0 t1)) (Within h0 b1)
    later n w (inl i) = within (omega arith) low n w (name_of_within meaning_of h0 t0 ds h n w i)
    later n w (inr i) = within start all n w i

    off : Off (Less (Within h0 t0) (NameOf ds)) (Either (NameOf ds) (Within t0 t1))
    off n w i (inl j) = i.1 j
    off n w i (inr j) = omega (arith, i.0.1, j.0)

    places : Loop (NameOf ds) t0 t1 u1 b1 test update body
    places = record { before = λ n w i. (name_of_within meaning_of h0 t0 ds h n w i).1; test_in = t; update_in = u; body_in = b }

    no_names : (ns : List Declaration) → (ns ≡ declared_of o ds) ⊎ (ns ≡ []) → NamesAt (NameOf ds) ns
    no_names ns (inl e) = subst (NamesAt (NameOf ds)) (sym e) (declared_at o ds)
    no_names ns (inr e) = subst (NamesAt (NameOf ds)) (sym e) tt

    rounds : (ns : List Declaration) (scope : Scope) → (ns ≡ declared_of o ds) ⊎ (ns ≡ []) → Steps nowhere (Within t0 t1) (Within t0 b1) d (go ns scope)
    rounds ns scope e = for_fresh t0 t1 u1 b1 site ns (NameOf ds) test update body (no_names ns e) places calls c outer d (suc k) scope

pub for_part : (h0 t0 t1 u1 b1 site : ℕ) (h : LoopHead (Expr × Meaning)) (test update : Option (Expr × Meaning))
    (body : Meaning) → h0 ≤ b1 → HeadIn h0 t0 h → OptionIn t0 t1 test → OptionIn t1 u1 update → Doing u1 b1 body →
    {m : Meaning} → ((calls : Calls) (k : ℕ) (outer : Scope) (st : Place) →
    m calls k outer st ≡ for_head h calls k outer (λ names. for_loop (suc k) site names (perhaps calls test) (perhaps calls update) (body calls) outer) st) →
    Doing h0 b1 m
for_part h0 t0 t1 u1 b1 site h test update body l i t u b is =
    record {
      le = l;
      good = λ calls c k scope d st s. subst (λ r. Fresh nowhere (Within h0 b1) (Within h0 b1) d (moment st) r) (sym (is calls k scope st)) (head_fresh h0 t0 t1 u1 b1 site h test update body i t u b calls c k scope d st s);
    }

-- ---- for-of

of_fresh : (lo hi site : ℕ) (name : Declaration) (body : Meaning) → Doing lo hi body → (calls : Calls) →
    CallsFresh calls → (o d : ℕ) (scope : Scope) (k i : ℕ) →
    Steps nowhere nowhere (Within lo hi) d (of_loop k site name (body calls) o i scope)
of_fresh lo hi site name body b calls c o d scope zero i st s = spent_fresh nowhere (Within lo hi) d site st s
of_fresh lo hi site name body b calls c o d scope (suc k) i st s =
    item (of_fresh lo hi site name body b calls c o d scope k (i + 1)) (item_at st.objects o i)
  where
    again : Place → Outcome
    again = of_loop k site name (body calls) o (i + 1) scope

    go : Value → Place → Outcome
    go x st = turn site st (λ st. open_cell name.site name.name name.is_mutable (Some x) scope st (λ inner st. bind (body calls k inner st) (after_body again)))

    item : Steps nowhere nowhere (Within lo hi) d again → (x : Option Value) → Fresh nowhere nowhere (Within lo hi) d (moment st) (with_item x st (λ st. done st normal) go)
    item f None = done_fresh nowhere nowhere (Within lo hi) d st normal s tt tt
    item f (Some x) =
        turn_fresh nowhere anywhere (Within lo hi) d site st (λ st. open_cell name.site name.name name.is_mutable (Some x) scope st (λ inner st. bind (body calls k inner st) (after_body again))) s
        (λ st s. open_fresh nowhere anywhere (Within lo hi) d name.site name.name name.is_mutable (Some x) scope st (λ inner st. bind (body calls k inner st) (after_body again)) tt (stands_less (omega arith) s)
        (λ inner st s. fresh_bind nowhere nowhere (Within lo hi) anywhere (Within lo hi) (body calls k inner st) (after_body again) (λ n w h. tt) (λ n w h. tt) (λ n w h. h) (λ n w h. h) (λ n w h g. g) (omega arith) (λ st x. refl) (b.good calls c k inner d st s)
        (goes_round nowhere (Within lo hi) d again f)))

of_start_fresh : (T : Sites) (d site : ℕ) (go : ℕ → Place → Outcome) → ((o : ℕ) → Steps nowhere nowhere T d (go o)) →
    (x : Value) → Steps nowhere (only site) T d (of_start site go x)
of_start_fresh T d site go k (object o) st s =
    if_fresh (is_array (object_at st.objects o).class) (fresh_wider nowhere (only site) T (λ n w h. h) (λ n w h. absurd h) (λ n w h. h) (k o st s)) (error_fresh nowhere (only site) T d site kind.TypeError st refl s)
of_start_fresh T d site go k (text t) st s = leaves_fresh nowhere (only site) T d site why.Iterate st (λ g. absurd g) s
of_start_fresh T d site go k undefined st s = error_fresh nowhere (only site) T d site kind.TypeError st refl s
of_start_fresh T d site go k null st s = error_fresh nowhere (only site) T d site kind.TypeError st refl s
of_start_fresh T d site go k (truth b) st s = error_fresh nowhere (only site) T d site kind.TypeError st refl s
of_start_fresh T d site go k (int n) st s = error_fresh nowhere (only site) T d site kind.TypeError st refl s
of_start_fresh T d site go k nan st s = error_fresh nowhere (only site) T d site kind.TypeError st refl s

pub of_part : (site lo mid hi : ℕ) (name : Declaration) (items body : Meaning) → site ≤ name.site → name.site < lo →
    Part lo mid items → Doing mid hi body → {m : Meaning} → ((calls : Calls) (k : ℕ) (scope : Scope) (st : Place) →
    m calls k scope st ≡ for_of site name items (body calls) calls k scope st) → Doing site hi m
of_part site lo mid hi name items body l e p b {m} is =
    record { le = omega (arith, l, e, p.le, b.le); good = λ calls c k scope d st s. subst (λ r. Fresh nowhere (Within site hi) (Within site hi) d (moment st) r) (sym (is calls k scope st)) (here calls c k scope d st s) }
  where
    here : (calls : Calls) → CallsFresh calls → (k : ℕ) (scope : Scope) (d : ℕ) → Steps nowhere (Within site hi) (Within site hi) d (for_of site name items (body calls) calls k scope)
    here calls c k scope d st s =
        open_fresh nowhere (Within site hi) (Within site hi) d name.site name.name name.is_mutable None scope st (λ inner st. bind (items calls k inner st) (on_value (of_start site (λ o. of_loop (suc k) site name (body calls) o 0 scope)))) (l, omega (arith, e, p.le, b.le)) s
        (λ inner st s. part_value p nowhere (only site) (Within mid hi) (Within site hi) (Within site hi) calls c k inner d st (of_start site (λ o. of_loop (suc k) site name (body calls) o 0 scope))
        (within (omega (arith, l, e)) b.le) (λ n w i. (omega (arith, i), omega (arith, i, l, e, p.le, b.le))) (within (omega (arith, l, e)) b.le) (within (omega (arith, l, e, p.le)) (omega arith)) (λ n w i j. omega (arith, i.0, j, l, e)) s
        (of_start_fresh (Within mid hi) d site (λ o. of_loop (suc k) site name (body calls) o 0 scope) (λ o. of_fresh mid hi site name body b calls c o d scope (suc k) 0)))
