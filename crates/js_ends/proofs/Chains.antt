-- Chains of suffixes and calls of built-ins keep exits apart.
use Rattle.std.proofs.Common.{ℕ, suc, ◌≡◌, ◌≤◌, ◌<◌, ◌⊎◌, inl, inr, List, [], ◌∷◌, Option, Some, None, refl, sym, subst, arith}
use Rattle.path_core.specs.declared.path.Why.{Why}
use Rattle.path_core.specs.declared.path.Why.TheVariants as why
use Rattle.js_ast.specs.declared.parts.Access.{Access}
use Rattle.js_ast.specs.declared.parts.Access.TheVariants as access
use Rattle.js_ast.specs.declared.parts.Suffix.{Suffix}
use Rattle.js_ast.specs.declared.parts.Suffix.TheVariants as suffix
use Rattle.js_meaning.specs.Values.{Text, Value, Scope, Place}
use Rattle.js_meaning.specs.Running.{Reference, callee, intrinsic, static, method, refers, Outcome, bind, count, on_value, on_reference, play}
use Rattle.js_meaning.specs.Builtins.{Calls, call_builtin, construct}
use Rattle.js_meaning.specs.Objects.{property_row, bracket_row, get_bracket, static_key}
use Rattle.js_meaning.specs.Parts.{Meaning, gather, settled, invoke, chain}
use Rattle.js_meaning.specs.Apart.{Sites, nowhere, only, used_at, UseIn, read_last, read_by}
use Rattle.js_meaning.proofs.RowsApart.{property_fits, bracket_fits}
use Rattle.js_ends.proofs.Fresh.{moment, Stands, Fresh, Sub, Off, fresh_wider}
use Rattle.js_ends.proofs.Forms.{done_fresh, leaves_fresh, count_fresh, Used, Less}
use Rattle.js_ends.proofs.Binds.{Either, Within, Steps, reference_bind, row_reference, use_sub}
use Rattle.js_ends.proofs.Lists.{CallsFresh, Inside, Passing, Part, within, part_value, EachIn, each_le, gather_fresh, Head}

-- ---- built-ins: each has its exits at the `(`, or at `new`

pub builtin_fresh : (calls : Calls) → CallsFresh calls → (d site : ℕ) (r : Reference) (xs : List Value) (st : Place) →
    Stands d st → Fresh nowhere (only site) (only site) d (moment st) (call_builtin calls site r xs st)
unfolding call_builtin
builtin_fresh calls c d site r xs st s = leaves_fresh nowhere (only site) (only site) d site why.Builtin st (λ g. refl) s

pub construct_fresh : (d site : ℕ) (name : Text) (xs : List Value) (st : Place) → Stands d st →
    Fresh nowhere (only site) (only site) d (moment st) (construct site name xs st)
unfolding construct
construct_fresh d site name xs st s = leaves_fresh nowhere (only site) (only site) d site why.Builtin st (λ g. refl) s

invoke_fresh : (calls : Calls) → CallsFresh calls → (d site : ℕ) (r : Reference) (xs : List Value) (st : Place) →
    Stands d st → Fresh nowhere (only site) (only site) d (moment st) (invoke calls site r xs st)
invoke_fresh calls c d site (callee f this) xs st s =
    fresh_wider nowhere (only site) (only site) (λ n w h. h) (λ n w h. h) (λ n w h. absurd h) (c d site f this xs st s)
invoke_fresh calls c d site (intrinsic at name) xs st s = builtin_fresh calls c d site (intrinsic at name) xs st s
invoke_fresh calls c d site (static at name key) xs st s = builtin_fresh calls c d site (static at name key) xs st s
invoke_fresh calls c d site (method at base name) xs st s = builtin_fresh calls c d site (method at base name) xs st s

-- ---- references

pub settled_fresh : (Q F T : Sites) (d : ℕ) (r : Reference) (st : Place) (go : Place → Outcome) → UseIn F (used_at r) →
    Stands d st → Steps Q F T d go → Fresh Q F T d (moment st) (settled r st go)
settled_fresh Q F T d (callee x this) st go u s k = k st s
settled_fresh Q F T d (intrinsic at name) st go u s k = k st s
settled_fresh Q F T d (static at name key) st go u s k = leaves_fresh Q F T d at why.Builtin st (λ g. u) s
settled_fresh Q F T d (method at base name) st go u s k = leaves_fresh Q F T d at why.Builtin st (λ g. u) s

use_here : (site : ℕ) (o : Option ℕ) → UseIn (only site) o → UseIn (Used (Some site)) o
use_here site None u = tt
use_here site (Some at) u = (sym u, refl)

used_why : (o : Option ℕ) (n : ℕ) (w : Why) → Used o n w → w ≡ why.Builtin
used_why None n w u = absurd u
used_why (Some at) n w u = u.1

IsInherited : Why → Type 0
IsInherited why.Inherited = Unit {0}
IsInherited _ = ⊥

not_both : (w : Why) → w ≡ why.Inherited → w ≡ why.Builtin → ⊥
unfolding IsInherited
not_both w p q = subst IsInherited q (subst IsInherited (sym p) tt)

pub read_at : (site n : ℕ) (w : Why) (o : Option Text) → read_by site o n w → (n ≡ site) × (w ≡ why.Inherited)
read_at site n w None h = (sym h.0, h.1)
read_at site n w (Some t) h = absurd h

-- ---- suffixes between two places

abbrev pub AccessIn : {E : Type 0} → (E → Meaning) → ℕ → ℕ → Access E → Type 0
AccessIn run lo hi (access.Property site name) = (lo ≤ site) × (site < hi)
AccessIn run lo hi (access.Index site is_static e) = (lo ≤ site) × Part (suc site) hi (run e)

abbrev pub access_site : {E : Type 0} → Access E → ℕ
access_site (access.Property site name) = site
access_site (access.Index site is_static e) = site

pub access_within : {E : Type 0} (run : E → Meaning) (lo hi : ℕ) (a : Access E) → AccessIn run lo hi a →
    (lo ≤ access_site a) × (access_site a < hi)
access_within run lo hi (access.Property site name) h = h
access_within run lo hi (access.Index site is_static e) h = (h.0, omega (arith, h.1.le))

abbrev pub SuffixIn : {E : Type 0} → (E → Meaning) → ℕ → ℕ → Suffix E → Type 0
SuffixIn run lo hi (suffix.Access a) = AccessIn run lo hi a
SuffixIn run lo hi (suffix.Call site es) = (lo ≤ site) × EachIn run (suc site) hi es

abbrev pub SuffixesIn : {E : Type 0} → (E → Meaning) → ℕ → ℕ → List (Suffix E) → Type 0
SuffixesIn run lo hi [] = lo ≤ hi
SuffixesIn run lo hi (x ∷ ss) = (mid : ℕ) × SuffixIn run lo mid x × SuffixesIn run mid hi ss

suffix_le : {E : Type 0} (run : E → Meaning) (lo hi : ℕ) (x : Suffix E) → SuffixIn run lo hi x → lo ≤ hi
suffix_le run lo hi (suffix.Access a) h = let i = access_within run lo hi a h in omega (arith, i.0, i.1)
suffix_le run lo hi (suffix.Call site es) h = let i = each_le run (suc site) hi es h.1 in omega (arith, h.0, i)

pub suffixes_le : {E : Type 0} (run : E → Meaning) (lo hi : ℕ) (ss : List (Suffix E)) → SuffixesIn run lo hi ss → lo ≤ hi
suffixes_le run lo hi [] h = h
suffixes_le run lo hi (x ∷ ss) h =
    let i = suffix_le run lo h.0 x h.1 in
    let j = suffixes_le run h.0 hi ss h.2 in
    omega (arith, i, j)

-- where the chain's reference leaves the profile, unless it is called
abbrev pub quiet_behind : {E : Type 0} → Option ℕ → List (Suffix E) → Option ℕ
quiet_behind q [] = q
quiet_behind q (suffix.Access a ∷ ss) = quiet_behind (Some (access_site a)) ss
quiet_behind q (suffix.Call site es ∷ ss) = quiet_behind None ss

pub quiet_later : {E : Type 0} (run : E → Meaning) (lo hi : ℕ) (q : Option ℕ) (ss : List (Suffix E)) →
    SuffixesIn run lo hi ss → (n : ℕ) (w : Why) → Used (quiet_behind q ss) n w → Used q n w ⊎ Within lo hi n w
quiet_later run lo hi q [] h n w u = inl u
quiet_later run lo hi q (suffix.Access a ∷ ss) (mid, i, h) n w u = here (quiet_later run mid hi (Some (access_site a)) ss h n w u)
  where
    at : (lo ≤ access_site a) × (access_site a < mid)
    at = access_within run lo mid a i

    last : mid ≤ hi
    last = suffixes_le run mid hi ss h

    here : Used (Some (access_site a)) n w ⊎ Within mid hi n w → Used q n w ⊎ Within lo hi n w
    here (inl u) = inr (omega (arith, u.0, at.0), omega (arith, u.0, at.1, last))
    here (inr j) = inr (omega (arith, at.0, at.1, j.0), j.1)
quiet_later run lo hi q (suffix.Call site es ∷ ss) (mid, i, h) n w u = here (quiet_later run mid hi None ss h n w u)
  where
    first : suc site ≤ mid
    first = each_le run (suc site) mid es i.1

    here : Used None n w ⊎ Within mid hi n w → Used q n w ⊎ Within lo hi n w
    here (inl u) = absurd u
    here (inr j) = inr (omega (arith, i.0, first, j.0), j.1)

inside_quiet : {E : Type 0} (run : E → Meaning) (lo hi : ℕ) (q : Option ℕ) (ss : List (Suffix E)) →
    SuffixesIn run lo hi ss → (a : ℕ) → a ≤ lo → Inside a lo q → Inside a hi (quiet_behind q ss)
inside_quiet run lo hi None [] h a l i = tt
inside_quiet run lo hi (Some at) [] h a l i = (i.0, omega (arith, i.1, h))
inside_quiet run lo hi q (suffix.Access x ∷ ss) (mid, i, h) a l j =
    let at = access_within run lo mid x i in
    inside_quiet run mid hi (Some (access_site x)) ss h a (omega (arith, l, at.0, at.1)) (omega (arith, l, at.0), at.1)
inside_quiet run lo hi q (suffix.Call site es ∷ ss) (mid, i, h) a l j =
    let first = each_le run (suc site) mid es i.1 in
    inside_quiet run mid hi None ss h a (omega (arith, l, i.0, first)) tt

pub quiet_inside : {E : Type 0} (run : E → Meaning) (a lo hi : ℕ) (q : Option ℕ) (ss : List (Suffix E)) → a ≤ lo →
    Inside a lo q → SuffixesIn run lo hi ss → Inside a hi (quiet_behind q ss)
quiet_inside run a lo hi q ss l i h = inside_quiet run lo hi q ss h a l i

-- the places of a suffix, and those of the suffixes behind it
Rest : ℕ → ℕ → ℕ → Option ℕ → Sites
Rest site mid hi q = Less (Head site mid hi) (Used q)

pub chain_fresh : {E : Type 0} (run : E → Meaning) (lo hi : ℕ) (ss : List (Suffix E)) (q : Option ℕ) (calls : Calls) →
    CallsFresh calls → (k : ℕ) (scope : Scope) (r : Reference) (d : ℕ) (st : Place) → UseIn (Used q) (used_at r) →
    SuffixesIn run lo hi ss → Stands d st →
    Fresh (Used (quiet_behind q ss)) (Either (Used q) (Within lo hi)) (Passing lo hi (quiet_behind q ss)) d (moment st) (chain run ss calls k scope r st)
unfolding Rest
chain_fresh run lo hi [] q calls c k scope r d st u h s =
    done_fresh (Used q) (Either (Used q) (Within lo hi)) (Passing lo hi q) d st (refers r) s tt u
chain_fresh run lo hi (suffix.Access (access.Property site name) ∷ ss) q calls c k scope r d st u (mid, at, h) s =
    settled_fresh R F T d r st (λ st. count site st (λ st. bind (play (property_row site r name st.objects) st) (on_reference (chain run ss calls k scope)))) (use_sub (Used q) F (used_at r) (λ n w. inl) u) s
    (λ st s. count_fresh R F T d site st (λ st. bind (play (property_row site r name st.objects) st) (on_reference (chain run ss calls k scope))) s
    (λ st s. row_reference (only site) nowhere R (Either (Used (Some site)) (Within mid hi)) (Passing mid hi last) F T d (property_row site r name st.objects) st (chain run ss calls k scope) s
    (property_fits site r name st.objects) here rest (λ n w h. absurd h) (λ n w i. (later n w i.0, i.1)) (λ n w h g. h)
    (λ r u st s. chain_fresh run mid hi ss (Some site) calls c k scope r d st (use_here site (used_at r) u) h s)))
  where
    last : Option ℕ
    last = quiet_behind (Some site) ss

    R : Sites
    R = Used last

    F : Sites
    F = Either (Used q) (Within lo hi)

    T : Sites
    T = Passing lo hi last

    most : mid ≤ hi
    most = suffixes_le run mid hi ss h

    later : Sub (Within mid hi) (Within lo hi)
    later = within (omega (arith, at.0, at.1)) (omega arith)

    here : Sub (only site) F
    here n w e = inr (omega (arith, at.0, e), omega (arith, at.1, most, e))

    rest : Sub (Either (Used (Some site)) (Within mid hi)) F
    rest n w (inl u) = here n w (sym u.0)
    rest n w (inr i) = inr (later n w i)
chain_fresh run lo hi (suffix.Access (access.Index site is_static e) ∷ ss) q calls c k scope r d st u (mid, (at, p), h) s =
    settled_fresh R F T d r st (λ st. count site st (λ st. bind (run e calls k scope st) (on_value (λ y st. bind (get_bracket site is_static r y st) (on_reference (chain run ss calls k scope)))))) (use_sub (Used q) F (used_at r) (λ n w. inl) u) s
    (λ st s. count_fresh R F T d site st (λ st. bind (run e calls k scope st) (on_value (λ y st. bind (get_bracket site is_static r y st) (on_reference (chain run ss calls k scope))))) s
    (λ st s. part_value p R (Head site mid hi) (Rest site mid hi last) F T calls c k scope d st (λ y st. bind (get_bracket site is_static r y st) (on_reference (chain run ss calls k scope)))
    (λ n w i. inr (key n w i)) rest (λ n w i. (key n w i, key_not n w i (quiet_later run mid hi (Some site) ss h n w))) (λ n w i. (whole n w i.0, i.1)) off s
    (λ y st s. row_reference (only site) (read_last site is_static y) R (Either (Used (Some site)) (Within mid hi)) (Passing mid hi last) (Head site mid hi) (Rest site mid hi last) d (bracket_row site is_static r y st.objects) st (chain run ss calls k scope) s
    (bracket_fits site is_static r y st.objects) (λ n w. inl) to_head (λ n w i. (inl (read_at site n w (static_key is_static y) i).0, λ u. not_both w (read_at site n w (static_key is_static y) i).1 (used_why last n w u)))
    (λ n w i. (inr i.0, i.1)) (λ n w i. apart n w (read_at site n w (static_key is_static y) i))
    (λ r u st s. chain_fresh run mid hi ss (Some site) calls c k scope r d st (use_here site (used_at r) u) h s))))
  where
    last : Option ℕ
    last = quiet_behind (Some site) ss

    R : Sites
    R = Used last

    F : Sites
    F = Either (Used q) (Within lo hi)

    T : Sites
    T = Passing lo hi last

    most : mid ≤ hi
    most = suffixes_le run mid hi ss h

    key : Sub (Within (suc site) mid) (Within lo hi)
    key = within (omega (arith, at)) most

    key_not : (n : ℕ) (w : Why) → Within (suc site) mid n w → (Used last n w → Used (Some site) n w ⊎ Within mid hi n w) → Used last n w → ⊥
    key_not n w i f u = here (f u)
      where
        here : Used (Some site) n w ⊎ Within mid hi n w → ⊥
        here (inl v) = omega (arith, i.0, v.0)
        here (inr j) = omega (arith, i.1, j.0)

    whole : Sub (Head site mid hi) (Within lo hi)
    whole n w (inl e) = (omega (arith, at, e), omega (arith, p.le, most, e))
    whole n w (inr j) = within (omega (arith, at, p.le)) (omega arith) n w j

    rest : Sub (Head site mid hi) F
    rest n w j = inr (whole n w j)

    off : Off (Within (suc site) mid) (Head site mid hi)
    off n w i (inl e) = omega (arith, i.0, e)
    off n w i (inr j) = omega (arith, i.1, j.0)

    to_head : Sub (Either (Used (Some site)) (Within mid hi)) (Head site mid hi)
    to_head n w (inl u) = inl (sym u.0)
    to_head n w (inr j) = inr j

    apart : (n : ℕ) (w : Why) → (n ≡ site) × (w ≡ why.Inherited) → Either (Used (Some site)) (Within mid hi) n w → ⊥
    apart n w i (inl u) = not_both w i.1 u.1
    apart n w i (inr j) = omega (arith, i.0, j.0, p.le)
chain_fresh run lo hi (suffix.Call site es ∷ ss) q calls c k scope r d st u (mid, (at, es_in), h) s =
    count_fresh R F T d site st (λ st. gather run es calls k scope [] (λ xs st. bind (invoke calls site r xs st) (on_reference (chain run ss calls k scope))) st) s
    (λ st s. fresh_wider R F T (λ n w h. h) to_f to_t
    (gather_fresh run (suc site) mid es R (Head site mid hi) (Rest site mid hi last) calls c k scope [] (λ xs st. bind (invoke calls site r xs st) (on_reference (chain run ss calls k scope))) d st es_in off s
    (λ xs st s. reference_bind R (Either (Used None) (Within mid hi)) (Passing mid hi last) (Head site mid hi) (Rest site mid hi last) (invoke calls site r xs st) (chain run ss calls k scope)
    (λ n w. inl) to_head (λ n w e. (inl e, here_not n w e (quiet_later run mid hi None ss h n w))) (λ n w i. (inr i.0, i.1)) apart (invoke_fresh calls c d site r xs st s)
    (λ r u st s. chain_fresh run mid hi ss None calls c k scope r d st (use_sub nowhere (Used None) (used_at r) (λ n w h. absurd h) u) h s))))
  where
    last : Option ℕ
    last = quiet_behind None ss

    R : Sites
    R = Used last

    F : Sites
    F = Either (Used q) (Within lo hi)

    T : Sites
    T = Passing lo hi last

    most : mid ≤ hi
    most = suffixes_le run mid hi ss h

    first : suc site ≤ mid
    first = each_le run (suc site) mid es es_in

    whole : Sub (Head site mid hi) (Within lo hi)
    whole n w (inl e) = (omega (arith, at, e), omega (arith, first, most, e))
    whole n w (inr j) = within (omega (arith, at, first)) (omega arith) n w j

    inner : Sub (Within (suc site) mid) (Within lo hi)
    inner = within (omega (arith, at)) most

    to_f : Sub (Either (Within (suc site) mid) (Head site mid hi)) F
    to_f n w (inl i) = inr (inner n w i)
    to_f n w (inr j) = inr (whole n w j)

    inner_not : (n : ℕ) (w : Why) → Within (suc site) mid n w → (Used last n w → Used None n w ⊎ Within mid hi n w) → Used last n w → ⊥
    inner_not n w i f u = here (f u)
      where
        here : Used None n w ⊎ Within mid hi n w → ⊥
        here (inl v) = v
        here (inr j) = omega (arith, i.1, j.0)

    here_not : (n : ℕ) (w : Why) → n ≡ site → (Used last n w → Used None n w ⊎ Within mid hi n w) → Used last n w → ⊥
    here_not n w e f u = here (f u)
      where
        here : Used None n w ⊎ Within mid hi n w → ⊥
        here (inl v) = v
        here (inr j) = omega (arith, e, first, j.0)

    to_t : Sub (Either (Within (suc site) mid) (Less (Head site mid hi) (Used last))) T
    to_t n w (inl i) = (inner n w i, inner_not n w i (quiet_later run mid hi None ss h n w))
    to_t n w (inr j) = (whole n w j.0, j.1)

    off : Off (Within (suc site) mid) (Head site mid hi)
    off n w i (inl e) = omega (arith, i.0, e)
    off n w i (inr j) = omega (arith, i.1, j.0)

    to_head : Sub (Either (Used None) (Within mid hi)) (Head site mid hi)
    to_head n w (inl u) = absurd u
    to_head n w (inr j) = inr j

    apart : Off (only site) (Either (Used None) (Within mid hi))
    apart n w e (inl u) = absurd u
    apart n w e (inr j) = omega (arith, e, first, j.0)
