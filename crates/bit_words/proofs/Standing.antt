-- Earlier variables and clauses stand.
use Rattle.std.proofs.Common.{ℤ, ◌≡◌, ◌∙◌, sym, ap, List, [], ◌++◌, length, take, ◌≤◌, arith, append-nil}
use Rattle.std.proofs.lemmas.List.{take-append-le, take-take, length-take, take_all}
use Rattle.cnf_core.specs.declared.clauses.Cnf.{Cnf}
use Rattle.bit_words.specs.Builds.{Stands}

pub stands_same : (a : Cnf) → Stands a a
stands_same a = record { variables = omega arith; clauses = take_all (length a.clauses) a.clauses (omega arith) }

pub stands_added : (a b : Cnf) (more : List (List ℤ)) → b.clauses ≡ a.clauses ++ more → a.variables ≤ b.variables → Stands a b
stands_added a b more e v = record {
  variables = v;
  clauses = ap (take (length a.clauses)) e ∙ take-append-le (length a.clauses) a.clauses more (omega arith) ∙ take_all (length a.clauses) a.clauses (omega arith);
}

pub stands_kept : (a b : Cnf) → b.clauses ≡ a.clauses → a.variables ≤ b.variables → Stands a b
stands_kept a b e v = stands_added a b [] (e ∙ sym (append-nil a.clauses)) v

pub stands_both : (a b c : Cnf) → Stands a b → Stands b c → Stands a c
stands_both a b c g h = record {
  variables = omega (arith, g.variables, h.variables);
  clauses =
      let le : length a.clauses ≤ length b.clauses = omega (arith, ap length g.clauses, length-take (length a.clauses) b.clauses) in
      sym (take-take (length a.clauses) (length b.clauses) c.clauses le)
      ∙ ap (take (length a.clauses)) h.clauses ∙ g.clauses;
}

pub ruleset standing = (stands_same, stands_added, stands_kept, stands_both)
