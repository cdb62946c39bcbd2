-- What stands under a line about a query: what is read is what is written.
use Rattle.std.proofs.Common.{◌≡◌, ℕ, zero, suc, Bool, true, false, cond, List, [], ◌∷◌, ◌++◌, length, Option, Some, None, refl, sym, ap, subst, ◌∙◌, arith, append_assoc}
use Rattle.std.specs.Prelude.{◌==◌, not, codes, decimal, Result, Ok, Err}
use Rattle.std.specs.List.{flat_map}
use Rattle.js_units.proofs.Reading.{many_sound, many_complete}
use Rattle.path_core.specs.declared.path.InputValue.{InputValue}
use Rattle.path_core.specs.declared.query.Query.{Query}
use Rattle.cnf_core.specs.declared.clauses.Cnf.{Cnf}
use Rattle.cnf_core.specs.declared.clauses.Derivation.{Derivation}
use Rattle.proof_text.specs.Blocks.{block_text, sizes_text, IsSpelt}
use Rattle.proof_text.specs.BlockReading.{block_at}
use Rattle.proof_text.specs.Counted.{in_front, one_then, line_at, ◌>>=◌}
use Rattle.proof_text.proofs.Refusing.{ok_same}
use Rattle.proof_text.proofs.BlockLines.{block_sound, block_complete}
use Rattle.report_text.specs.Lines.{shown_block, tried_text, term_text, input_text, candidates_text, costs_text, beyond_text, line_text, IsBlockSpelt}
use Rattle.report_text.specs.Queries.{Each, IsQuery}
use Rattle.report_text.specs.Terms.{AreTerms, term_at}
use Rattle.report_text.specs.Reports.{IsInput, AreCosts, IsLineRead}
use Rattle.report_text.specs.Heads.{line_of_head}
use Rattle.report_text.specs.Details.{input_line, input_line_at, number_line, number_line_at}
use Rattle.report_text.specs.Bodies.{some_block, optional_at, tried_lines_at, terms_at, tried_at, wide_at, body_at}
use Rattle.report_text.specs.declared.heads.Asked.{Asked}
use Rattle.report_text.specs.declared.heads.Asked.TheVariants as asked
use Rattle.report_text.specs.declared.heads.Head.TheVariants as heads
use Rattle.report_text.specs.declared.report.Line.{Line}
use Rattle.report_text.specs.declared.report.Line.TheVariants as lines
use Rattle.report_text.proofs.ReadQueries.{spelt_each, each_spelt}
use Rattle.report_text.proofs.ReadDetails.{IsLong, tried_format, untried_format, beyond_format, tried_shortens, cost_format, count_format}
use Rattle.report_text.proofs.ReadTerms.{term_format}
use Rattle.report_text.proofs.Chains.{went}

-- ---- what may stand there

abbrev pub Block : Type 0
Block = Cnf × Derivation

abbrev pub Input : Type 0
Input = List (List ℕ × InputValue)

abbrev pub Body : Asked → Type 0
Body asked.Shut = Option Block
Body asked.Tried = List Input × Input
Body asked.Stepped = Block
Body asked.Wide = ℕ × List (List ℕ)
Body asked.Unvisited = Input

abbrev pub body_text : (a : Asked) → Body a → List ℕ
body_text asked.Shut block = shown_block block
body_text asked.Tried x = candidates_text x.0 x.1
body_text asked.Stepped x = block_text x.0 x.1
body_text asked.Wide x = costs_text x.0 x.1
body_text asked.Unvisited input = beyond_text input

abbrev pub IsBody : (a : Asked) → Body a → Type 0
IsBody asked.Shut block = IsBlockSpelt block
IsBody asked.Tried x = Each IsInput x.0 × IsInput x.1
IsBody asked.Stepped x = IsSpelt x.0 x.1
IsBody asked.Wide x = AreCosts x.0 x.1
IsBody asked.Unvisited input = IsInput input

abbrev pub line_of : (a : Asked) → Query → Body a → Line
line_of asked.Shut query block = lines.Shut query block
line_of asked.Tried query x = lines.Tried query x.0 x.1
line_of asked.Stepped query x = lines.Stepped query x.0 x.1
line_of asked.Wide query x = lines.Wide query x.0 x.1
line_of asked.Unvisited query input = lines.Unvisited query input

pub line_parts : (a : Asked) (query : Query) (x : Body a) → line_text (line_of a query x) ≡ line_of_head (heads.Asked a query) ++ body_text a x
unfolding line_text
line_parts asked.Shut query x = refl
line_parts asked.Tried query x = refl
line_parts asked.Stepped query x = refl
line_parts asked.Wide query x = refl
line_parts asked.Unvisited query x = refl

pub line_read : (a : Asked) (query : Query) (x : Body a) → IsQuery query → IsBody a x → IsLineRead (line_of a query x)
line_read asked.Shut query x s t = (s, t)
line_read asked.Tried query x s t = (s, t)
line_read asked.Stepped query x s t = (s, t)
line_read asked.Wide query x s t = (s, t)
line_read asked.Unvisited query x s t = (s, t)

-- no block begins there
abbrev pub blockless : List ℕ → Bool
blockless [] = true
blockless (b ∷ bs) = not (b == 98)

abbrev pub BlockFollows : Option Block → List ℕ → Type 0
BlockFollows None rest = blockless rest ≡ true
BlockFollows (Some b) rest = Unit {0}

-- what may stand behind it
abbrev pub Follows : (a : Asked) → Body a → List ℕ → Type 0
Follows asked.Shut block rest = BlockFollows block rest
Follows asked.Tried x rest = Unit {0}
Follows asked.Stepped x rest = Unit {0}
Follows asked.Wide x rest = Unit {0}
Follows asked.Unvisited x rest = Unit {0}

-- ---- one that is read

pub record IsUnder (a : Asked) (query : Query) (list : List ℕ) (line : Line) (rest : List ℕ) : Type 0 where
  pub body : Body a
  pub line_is : line ≡ line_of a query body
  pub spelt : IsBody a body
  pub text : body_text a body ++ rest ≡ list
  pub follows : Follows a body rest

moved : (a : Asked) (query : Query) (list : List ℕ) (x y : Line) (r s : List ℕ) → ◌≡◌ {A = Result (Line × List ℕ) (List ℕ)} (Ok (x, r)) (Ok (y, s)) → IsUnder a query list x r → IsUnder a query list y s
moved a query list x y r s e u =
    let one : Line × List ℕ = (x, r) in
    let other : Line × List ℕ = (y, s) in
    subst (λ (q : Line × List ℕ). IsUnder a query list q.0 q.1) (ok_same (Line × List ℕ) one other e) u

pub line_some : {X : Type 0} (o : Option (X × List ℕ)) (list : List ℕ) (r : X × List ℕ) → line_at o list ≡ Ok r → o ≡ Some r
line_some None list r e = absurd cc
line_some (Some q) list r e = cc

optional_by : (b : ℕ) (bs : List ℕ) (o : Option Block) (rest : List ℕ) (x : Bool) → (b == 98) ≡ x → cond x (some_block (block_at (b ∷ bs))) (Ok (None, b ∷ bs)) ≡ Ok (o, rest) → IsBlockSpelt o × (shown_block o ++ rest ≡ b ∷ bs) × BlockFollows o rest
optional_by b bs o rest true e h = by (block_at (b ∷ bs)) refl h
  where
    by : (r : Result (Block × List ℕ) (List ℕ)) → block_at (b ∷ bs) ≡ r → some_block r ≡ Ok (o, rest) → IsBlockSpelt o × (shown_block o ++ rest ≡ b ∷ bs) × BlockFollows o rest
    by (Err at) k m = absurd cc
    by (Ok r) k m =
        let one : Option Block × List ℕ = (Some r.0, r.1) in
        let other : Option Block × List ℕ = (o, rest) in
        let s = block_sound (b ∷ bs) r.0 r.1 k in
        subst (λ (q : Option Block × List ℕ). IsBlockSpelt q.0 × (shown_block q.0 ++ q.1 ≡ b ∷ bs) × BlockFollows q.0 q.1) (ok_same (Option Block × List ℕ) one other m) (s.0, s.1, tt)
optional_by b bs o rest false e h =
    let one : Option Block × List ℕ = (None, b ∷ bs) in
    let other : Option Block × List ℕ = (o, rest) in
    subst (λ (q : Option Block × List ℕ). IsBlockSpelt q.0 × (shown_block q.0 ++ q.1 ≡ b ∷ bs) × BlockFollows q.0 q.1) (ok_same (Option Block × List ℕ) one other h) (tt, refl, ap not e)

optional_sound : (list : List ℕ) (o : Option Block) (rest : List ℕ) → optional_at list ≡ Ok (o, rest) → IsBlockSpelt o × (shown_block o ++ rest ≡ list) × BlockFollows o rest
unfolding optional_at
optional_sound [] o rest h =
    let one : Option Block × List ℕ = (None, []) in
    let other : Option Block × List ℕ = (o, rest) in
    subst (λ (q : Option Block × List ℕ). IsBlockSpelt q.0 × (shown_block q.0 ++ q.1 ≡ []) × BlockFollows q.0 q.1) (ok_same (Option Block × List ℕ) one other h) (tt, refl, refl)
optional_sound (b ∷ bs) o rest h = optional_by b bs o rest (b == 98) refl h

terms_by : (number : ℕ) (list : List ℕ) (count : ℕ) (o : Option (List ℕ × List ℕ)) (q : List (List ℕ) × List ℕ) → term_at number list ≡ o → one_then o list (terms_at (suc number) count) ≡ Ok q
    → ((left : List ℕ) (p : List (List ℕ) × List ℕ) → terms_at (suc number) count left ≡ Ok p → (length p.0 ≡ count) × AreTerms (suc number) p.0 × (flat_map term_text p.0 ++ p.1 ≡ left))
    → (length q.0 ≡ suc count) × AreTerms number q.0 × (flat_map term_text q.0 ++ q.1 ≡ list)
terms_by number list count None q e h go = absurd cc
terms_by number list count (Some r) q e h go = by (terms_at (suc number) count r.1) refl h
  where
    by : (p : Result (List (List ℕ) × List ℕ) (List ℕ)) → terms_at (suc number) count r.1 ≡ p → in_front r.0 p ≡ Ok q → (length q.0 ≡ suc count) × AreTerms number q.0 × (flat_map term_text q.0 ++ q.1 ≡ list)
    by (Err at) k m = absurd cc
    by (Ok p) k m =
        let one : List (List ℕ) × List ℕ = (r.0 ∷ p.0, p.1) in
        let t = (term_format number).sound list r.0 r.1 e in
        let more = go r.1 p k in
        subst (λ (z : List (List ℕ) × List ℕ). (length z.0 ≡ suc count) × AreTerms number z.0 × (flat_map term_text z.0 ++ z.1 ≡ list)) (ok_same (List (List ℕ) × List ℕ) one q m)
        (omega (arith, more.0), (t.0, more.1), append_assoc (term_text r.0) (flat_map term_text p.0) p.1 ∙ ap (λ (z : List ℕ). term_text r.0 ++ z) more.2 ∙ t.1)

pub terms_sound : (number count : ℕ) (list : List ℕ) (q : List (List ℕ) × List ℕ) → terms_at number count list ≡ Ok q → (length q.0 ≡ count) × AreTerms number q.0 × (flat_map term_text q.0 ++ q.1 ≡ list)
terms_sound number zero list q e =
    let one : List (List ℕ) × List ℕ = ([], list) in
    subst (λ (z : List (List ℕ) × List ℕ). (length z.0 ≡ 0) × AreTerms number z.0 × (flat_map term_text z.0 ++ z.1 ≡ list)) (ok_same (List (List ℕ) × List ℕ) one q e) (refl, tt, refl)
terms_sound number (suc count) list q e = terms_by number list count (term_at number list) q refl e (λ left p k. terms_sound (suc number) count left p k)

pub costs_parts : (cost : ℕ) (terms : List (List ℕ)) (rest : List ℕ) → costs_text cost terms ++ rest ≡ number_line (codes "cost ") cost ++ (number_line (codes "terms ") (length terms) ++ (flat_map term_text terms ++ rest))
unfolding costs_text
costs_parts cost terms rest =
    let c = codes "cost " ++ decimal cost in
    let n = decimal (length terms) in
    let t = flat_map term_text terms in
    append_assoc (c ++ codes "\nterms " ++ n ++ codes "\n") t rest
    ∙ append_assoc (c ++ codes "\nterms " ++ n) (codes "\n") (t ++ rest)
    ∙ append_assoc (c ++ codes "\nterms ") n (codes "\n" ++ (t ++ rest))
    ∙ append_assoc c (codes "\nterms ") (n ++ (codes "\n" ++ (t ++ rest)))
    ∙ sym
    (ap (λ (q : List ℕ). number_line (codes "cost ") cost ++ q) (append_assoc (codes "terms " ++ n) (codes "\n") (t ++ rest) ∙ append_assoc (codes "terms ") n (codes "\n" ++ (t ++ rest)))
    ∙ append_assoc c (codes "\n") (codes "terms " ++ (n ++ (codes "\n" ++ (t ++ rest)))))

pub tried_parts : (x : Body asked.Tried) (rest : List ℕ) → candidates_text x.0 x.1 ++ rest ≡ flat_map tried_text x.0 ++ (input_line (codes "untried") x.1 ++ rest)
unfolding candidates_text
tried_parts x rest =
    let a = flat_map tried_text x.0 in
    append_assoc (a ++ codes "untried" ++ input_text x.1) (codes "\n") rest
    ∙ append_assoc (a ++ codes "untried") (input_text x.1) (codes "\n" ++ rest)
    ∙ append_assoc a (codes "untried") (input_text x.1 ++ (codes "\n" ++ rest))
    ∙ ap (λ (q : List ℕ). a ++ q) (sym (append_assoc (codes "untried" ++ input_text x.1) (codes "\n") rest ∙ append_assoc (codes "untried") (input_text x.1) (codes "\n" ++ rest)))

pub body_sound : (a : Asked) (query : Query) (list : List ℕ) (line : Line) (rest : List ℕ) → body_at a query list ≡ Ok (line, rest) → IsUnder a query list line rest
unfolding beyond_text
body_sound asked.Shut query list line rest e =
    let b = went (optional_at list) _ (line, rest) e in
    let k = optional_sound list b.first.0 b.first.1 b.first_is in
    moved asked.Shut query list (lines.Shut query b.first.0) line b.first.1 rest b.then_is
    (record { body = b.first.0; line_is = refl; spelt = k.0; text = k.1; follows = k.2 })
body_sound asked.Tried query list line rest e =
    let t = (tried_lines_at list).0 in
    let left = (tried_lines_at list).1 in
    let m = many_sound (input_line_at (codes "tried")) (input_line (codes "tried")) IsInput tried_format.sound list in
    let u = went (line_at (input_line_at (codes "untried") left) left) _ (line, rest) e in
    let k = untried_format.sound left u.first.0 u.first.1 (line_some (input_line_at (codes "untried") left) left u.first u.first_is) in
    moved asked.Tried query list (lines.Tried query t u.first.0) line u.first.1 rest u.then_is
    (record {
      body = (t, u.first.0);
      line_is = refl;
      spelt = (each_spelt IsInput t m.0, k.0);
      text = tried_parts (t, u.first.0) u.first.1 ∙ ap (λ (q : List ℕ). flat_map tried_text t ++ q) k.1 ∙ m.1;
      follows = tt;
    })
body_sound asked.Stepped query list line rest e =
    let b = went (block_at list) _ (line, rest) e in
    let k = block_sound list b.first.0 b.first.1 b.first_is in
    moved asked.Stepped query list (lines.Stepped query b.first.0.0 b.first.0.1) line b.first.1 rest b.then_is
    (record { body = b.first.0; line_is = refl; spelt = k.0; text = k.1; follows = tt })
body_sound asked.Wide query list line rest e =
    let c = went (line_at (number_line_at (codes "cost ") list) list) _ (line, rest) e in
    let n = went (line_at (number_line_at (codes "terms ") c.first.1) c.first.1) _ (line, rest) c.then_is in
    let t = went (terms_at 0 n.first.0 n.first.1) _ (line, rest) n.then_is in
    let cs = cost_format.sound list c.first.0 c.first.1 (line_some (number_line_at (codes "cost ") list) list c.first c.first_is) in
    let ns = count_format.sound c.first.1 n.first.0 n.first.1 (line_some (number_line_at (codes "terms ") c.first.1) c.first.1 n.first n.first_is) in
    let ts = terms_sound 0 n.first.0 n.first.1 t.first t.first_is in
    moved asked.Wide query list (lines.Wide query c.first.0 t.first.0) line t.first.1 rest t.then_is
    (record {
      body = (c.first.0, t.first.0);
      line_is = refl;
      spelt = record { cost_short = cs.0; count_short = subst IsLong (sym ts.0) ns.0; terms_spelt = ts.1 };
      text =
          costs_parts c.first.0 t.first.0 t.first.1
          ∙ ap (λ (q : ℕ). number_line (codes "cost ") c.first.0 ++ (number_line (codes "terms ") q ++ (flat_map term_text t.first.0 ++ t.first.1))) ts.0
          ∙ ap (λ (q : List ℕ). number_line (codes "cost ") c.first.0 ++ (number_line (codes "terms ") n.first.0 ++ q)) ts.2
          ∙ ap (λ (q : List ℕ). number_line (codes "cost ") c.first.0 ++ q) ns.1
          ∙ cs.1;
      follows = tt;
    })
body_sound asked.Unvisited query list line rest e =
    let i = went (line_at (input_line_at (codes "beyond") list) list) _ (line, rest) e in
    let k = beyond_format.sound list i.first.0 i.first.1 (line_some (input_line_at (codes "beyond") list) list i.first i.first_is) in
    moved asked.Unvisited query list (lines.Unvisited query i.first.0) line i.first.1 rest i.then_is
    (record { body = i.first.0; line_is = refl; spelt = k.0; text = k.1; follows = tt })

-- ---- one that is written

optional_complete : (o : Option Block) (rest : List ℕ) → IsBlockSpelt o → BlockFollows o rest → optional_at (shown_block o ++ rest) ≡ Ok (o, rest)
unfolding optional_at block_text sizes_text
optional_complete None [] s f = refl
optional_complete None (b ∷ bs) s f = by (b == 98) f
  where
    by : (x : Bool) → not x ≡ true → cond {A = Result (Option Block × List ℕ) (List ℕ)} x (some_block (block_at (b ∷ bs))) (Ok (None, b ∷ bs)) ≡ Ok (None, b ∷ bs)
    by true h = absurd cc
    by false h = refl
optional_complete (Some b) rest s f = ap some_block (block_complete b rest s)

pub terms_complete : (number count : ℕ) (terms : List (List ℕ)) (rest : List ℕ) → length terms ≡ count → AreTerms number terms → terms_at number count (flat_map term_text terms ++ rest) ≡ Ok (terms, rest)
terms_complete number zero [] rest l s = refl
terms_complete number zero (x ∷ xs) rest l s = absurd (omega (arith, l))
terms_complete number (suc count) [] rest l s = absurd (omega (arith, l))
terms_complete number (suc count) (x ∷ xs) rest l s =
    let list = term_text x ++ (flat_map term_text xs ++ rest) in
    ap (terms_at number (suc count)) (append_assoc (term_text x) (flat_map term_text xs) rest)
    ∙ ap (λ o. one_then o list (terms_at (suc number) count)) ((term_format number).complete x (flat_map term_text xs ++ rest) s.0 tt)
    ∙ ap (in_front x) (terms_complete (suc number) count xs rest (omega (arith, l)) s.1)

pub tried_apart : (input : Input) (rest : List ℕ) → input_line_at (codes "tried") (input_line (codes "untried") input ++ rest) ≡ None
unfolding input_line_at
tried_apart input rest = refl

pub body_complete : (a : Asked) (query : Query) (x : Body a) (rest : List ℕ) → IsBody a x → Follows a x rest → body_at a query (body_text a x ++ rest) ≡ Ok (line_of a query x, rest)
unfolding beyond_text
body_complete asked.Shut query x rest s f = ap (λ (q : Result (Option Block × List ℕ) (List ℕ)). q >>= λ block. Ok (lines.Shut query block.0, block.1)) (optional_complete x rest s f)
body_complete asked.Tried query x rest s f =
    let behind = input_line (codes "untried") x.1 ++ rest in
    let m = many_complete (input_line_at (codes "tried")) (input_line (codes "tried")) IsInput (λ r. Unit {0}) tried_shortens tried_format.complete (λ i r q. tt) x.0 behind (spelt_each IsInput x.0 s.0) tt (tried_apart x.1 rest) in
    ap (tried_at query) (tried_parts x rest) ∙ rw m (rw (untried_format.complete x.1 rest s.1 tt) refl)
body_complete asked.Stepped query x rest s f = ap (λ (q : Result (Block × List ℕ) (List ℕ)). q >>= λ block. Ok (lines.Stepped query block.0.0 block.0.1, block.1)) (block_complete x rest s)
body_complete asked.Wide query x rest s f =
    let t = flat_map term_text x.1 ++ rest in
    let n = number_line (codes "terms ") (length x.1) ++ t in
    ap (wide_at query) (costs_parts x.0 x.1 rest)
    ∙ rw (cost_format.complete x.0 n s.cost_short tt)
    (rw (count_format.complete (length x.1) t s.count_short tt) (rw (terms_complete 0 (length x.1) x.1 rest refl s.terms_spelt) refl))
body_complete asked.Unvisited query x rest s f = rw (beyond_format.complete x rest s tt) refl
