-- The place of a refusal: some script begins with the tokens in front of it.
use Rattle.std.proofs.Common.{◌≡◌, ℕ, suc, ◌-◌, ◌<◌, List, [], ◌∷◌, ◌++◌, length, Option, Some, None, refl, sym, ap, subst, ◌∙◌, append_assoc, arith}
use Rattle.std.specs.Prelude.{Result, Ok, Err}
use Rattle.std.proofs.lemmas.List.{append-nil}
use Rattle.js_ast.specs.declared.statement.Stmt.{Stmt}
use Rattle.js_grammar.specs.declared.token.Token.{Token}
use Rattle.js_grammar.specs.Grammar.{Shape}
use Rattle.js_reading.specs.declared.mode.Parser.{Parser}
use Rattle.js_reading.specs.Reading.{step, ends, start, IsRead, IsReadWhole}
use Rattle.std.specs.Prelude.{take}
use Rattle.std.proofs.lemmas.List.{length-append}
use Rattle.js_grammar.specs.Grammar.{Viable, IsPlace}
use Rattle.js_reading.specs.Reading.{end_of, goes, reads}
use Rattle.js_laws.specs.Reaching.{Reaches}
use Rattle.js_laws.specs.Further.{IsViableBySpelt}
use Rattle.js_laws.proofs.Complete.{complete}
use Rattle.js_laws.proofs.Left.{Left}
use Rattle.js_laws.proofs.ThroughFrames.{some_is}
use Rattle.js_laws.proofs.Sound.{left_spelt, step_back}
use Rattle.js_laws.proofs.FittingStacks.{Fits, fits_on, start_fits}
use Rattle.js_laws.proofs.Closings.{viable}

abbrev Any : ℕ → Type 0
Any n = Unit {0}

reached_fits : (ts : List Token) (p q : Parser) → Reaches ts p q → Fits p → Fits q
reached_fits [] p q r g = subst (λ (z : Parser). Fits z) r g
reached_fits (t ∷ ts) p q r g = reached_fits ts r.0 q r.2 (fits_on p t r.0 r.1 g)

reached_left : (tree : List Stmt) (ts : List Token) (p q : Parser) (more : List Token) → Reaches ts p q → Left Any tree q more → Left Any tree p (ts ++ more)
reached_left tree [] p q more r l = subst (λ (z : Parser). Left Any tree z more) (sym r) l
reached_left tree (t ∷ ts) p q more r l = step_back Any (λ m n h u. tt) tree p t r.0 (ts ++ more) r.1 tt (reached_left tree ts r.0 q more r.2 l)

reached_spelt : (ts : List Token) (p : Parser) → Reaches ts start p → IsViableBySpelt ts
reached_spelt ts p r =
    let v = viable Any (λ n. tt) p (reached_fits ts start p r start_fits) in
    (v.1, v.0, v.3, left_spelt Any v.0 (ts ++ v.1) (reached_left v.0 ts start p v.1 r v.2))

pub reached_viable : (ts : List Token) (p : Parser) → Reaches ts start p → Viable ts
reached_viable ts p r = let v = reached_spelt ts p r in (v.0, v.1, v.3)

-- ---- what some script begins with leads to a state, and from there on by tokens that texts have

leads : (ts more : List Token) (p : Parser) (body : List Stmt) → IsRead Any (ts ++ more) p body → (q : Parser) × Reaches ts p q
leads [] more p body h = (p, refl)
leads (t ∷ ts) more p body h = let r = leads ts more h.0 body h.3 in (r.0, (h.0, h.1, r.1))

pub viable_spelt : (ts : List Token) → Viable ts → IsViableBySpelt ts
viable_spelt ts v = let r = leads ts v.0 start v.1 (complete Any (ts ++ v.0) v.1 v.2) in reached_spelt ts r.0 r.1

-- ---- where reading stops

pub record Stops (p : Parser) (ts rest : List Token) : Type 0 where
  pub pre : List Token
  pub state : Parser
  pub parts : ts ≡ pre ++ rest
  pub reached : Reaches pre p state
  pub stuck : (t : Token) (l : List Token) → rest ≡ t ∷ l → step state t ≡ None

ends_err : (o : Option (List Stmt)) (rest : List Token) → end_of o ≡ Err rest → rest ≡ []
ends_err (Some x) rest e = absurd cc
ends_err None rest e = cc

stops_by : (ts : List Token) (t : Token) (p : Parser) (rest : List Token) (o : Option Parser) → step p t ≡ o → goes (λ q. reads ts q) (t ∷ ts) o ≡ Err rest → ((q : Parser) → reads ts q ≡ Err rest → Stops q ts rest) → Stops p (t ∷ ts) rest
stops_by ts t p rest (Some q) s e ih =
    let r = ih q e in
    record {
      pre = t ∷ r.pre;
      state = r.state;
      parts = ap (λ (x : List Token). t ∷ x) r.parts;
      reached = (q, s, r.reached);
      stuck = λ u l d. r.stuck u l d;
    }
stops_by ts t p rest None s e ih =
    let same : rest ≡ t ∷ ts = cc in
    record {
      pre = [];
      state = p;
      parts = sym same;
      reached = refl;
      stuck = λ u l d. let h : t ≡ u = cc in subst (λ (x : Token). step p x ≡ None) h s;
    }

stops : (ts : List Token) (p : Parser) (rest : List Token) → reads ts p ≡ Err rest → Stops p ts rest
stops [] p rest e =
    let same = ends_err (ends p) rest e in
    record { pre = []; state = p; parts = sym same; reached = refl; stuck = λ u l d. absurd cc }
stops (t ∷ ts) p rest e = stops_by ts t p rest (step p t) refl e (λ q d. stops ts q rest d)

-- ---- what is read goes through each state that its tokens lead to

read_through : (pre : List Token) (p q : Parser) (ts : List Token) (body : List Stmt) → Reaches pre p q → IsRead Any (pre ++ ts) p body → IsRead Any ts q body
read_through [] p q ts body r h = subst (λ (z : Parser). IsRead Any ts z body) r h
read_through (t ∷ pre) p q ts body r h =
    let same : h.0 ≡ r.0 = some_is h.0 r.0 (sym h.1 ∙ r.1) in
    read_through pre r.0 q ts body r.2 (subst (λ (z : Parser). IsRead Any (pre ++ ts) z body) same h.3)

read_ok : (ts : List Token) (p : Parser) (body : List Stmt) → IsRead Any ts p body → reads ts p ≡ Ok body
read_ok [] p body h = ap (λ (o : Option (List Stmt)). end_of o) h
read_ok (t ∷ ts) p body h = ap (λ (o : Option Parser). goes (λ q. reads ts q) (t ∷ ts) o) h.1 ∙ read_ok ts h.0 body h.3

not_both : (p : Parser) (t : Token) (ts : List Token) (body : List Stmt) → step p t ≡ None → IsRead Any (t ∷ ts) p body → ⊥
not_both p t ts body n h = let e : step p t ≡ Some h.0 = h.1 in cc

taken : (pre rest : List Token) → take (length pre) (pre ++ rest) ≡ pre
taken [] rest = refl
taken (x ∷ pre) rest = ap (λ (q : List Token). x ∷ q) (taken pre rest)

taken_more : (pre : List Token) (t : Token) (rest : List Token) → take (suc (length pre)) (pre ++ t ∷ rest) ≡ pre ++ t ∷ []
taken_more [] t rest = refl
taken_more (x ∷ pre) t rest = ap (λ (q : List Token). x ∷ q) (taken_more pre t rest)

taken_of : (ts pre rest : List Token) → ts ≡ pre ++ rest → take (length pre) ts ≡ pre
taken_of ts pre rest e = rw e (taken pre rest)

place_is : (ts pre rest : List Token) → ts ≡ pre ++ rest → length ts - length rest ≡ length pre
place_is ts pre rest e = omega (arith, ap length e, length-append pre rest)

pub refused_viable : (ts rest : List Token) → reads ts start ≡ Err rest → Viable (take (length ts - length rest) ts)
refused_viable ts rest e =
    let s = stops ts start rest e in
    let v : Viable s.pre = reached_viable s.pre s.state s.reached in
    let cut : take (length ts - length rest) ts ≡ s.pre = ap (λ (n : ℕ). take n ts) (place_is ts s.pre rest s.parts) ∙ taken_of ts s.pre rest s.parts in
    subst (λ (x : List Token). Viable x) (sym cut) v

-- no script begins with the tokens up to the one that is stuck
stuck_at : (complete : (ts : List Token) (body : List Stmt) → Shape ts body → IsReadWhole ts body) (ts pre rest : List Token) (q : Parser) → ts ≡ pre ++ rest → Reaches pre start q → ((t : Token) (l : List Token) → rest ≡ t ∷ l → step q t ≡ None) → length pre < length ts → Viable (take (suc (length pre)) ts) → ⊥
stuck_at complete ts pre [] q e r s less v = absurd (omega (arith, ap length e, ap length (append-nil pre)))
stuck_at complete ts pre (t ∷ rest) q e r s less v =
    let cut : take (suc (length pre)) ts ≡ pre ++ t ∷ [] = rw e (taken_more pre t rest) in
    let whole : (take (suc (length pre)) ts ++ v.0) ≡ pre ++ t ∷ v.0 = ap (λ (x : List Token). x ++ v.0) cut ∙ append_assoc pre (t ∷ []) v.0 in
    let shaped = subst (λ (x : List Token). Shape x v.1) whole v.2 in
    not_both q t v.0 v.1 (s t rest refl) (read_through pre start q (t ∷ v.0) v.1 r (complete (pre ++ t ∷ v.0) v.1 shaped))

err_not_ok : (rest : List Token) (body : List Stmt) (r : Result (List Stmt) (List Token)) → r ≡ Err rest → r ≡ Ok body → ⊥
err_not_ok rest body r e d = cc

pub refused_place : ((ts : List Token) (body : List Stmt) → Shape ts body → IsReadWhole ts body) → (ts rest : List Token) → reads ts start ≡ Err rest → IsPlace ts (length ts - length rest)
refused_place complete ts rest e =
    let s = stops ts start rest e in
    let n : length ts - length rest ≡ length s.pre = place_is ts s.pre rest s.parts in
    let v : Viable s.pre = reached_viable s.pre s.state s.reached in
    subst (λ (x : ℕ). IsPlace ts x) (sym n) (record {
      within = omega (arith, ap length s.parts, length-append s.pre rest);
      before = subst (λ (x : List Token). Viable x) (sym (taken_of ts s.pre rest s.parts)) v;
      there = λ less w. stuck_at complete ts s.pre rest s.state s.parts s.reached s.stuck less w;
      end = λ body h. err_not_ok rest body (reads ts start) e (read_ok ts start body (complete ts body h));
    })
