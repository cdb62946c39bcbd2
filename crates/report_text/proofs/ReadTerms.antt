-- Terms that are read are those that are written.
use Rattle.std.proofs.Common.{◌≡◌, ℕ, suc, ◌+◌, ◌-◌, ◌^◌, ◌<◌, ◌≤◌, Bool, true, false, cond, List, [], ◌∷◌, ◌++◌, length, take, Option, Some, None, refl, sym, ap, subst, ◌∙◌, arith, append_assoc, length-append, inl, inr}
use Rattle.std.specs.Prelude.{◌⊎◌, ◌==◌, ◌&&◌, ◌||◌, nat_le, codes, decimal}
use Rattle.std.specs.Fmt.{signed_decimal}
use Rattle.std.specs.List.{list_all}
use Rattle.std.proofs.lemmas.Bool.{eqb-true, eq-eqb, le-leb, leb-true, and_parts}
use Rattle.std.proofs.lemmas.List.{take_at}
use Rattle.js_units.specs.Characters.{is_digit}
use Rattle.js_units.specs.Quoted.{quoted}
use Rattle.js_units.specs.Unquoted.{quoted_at}
use Rattle.js_units.proofs.Reading.{Sound, Spelt, Complete, same_read}
use Rattle.js_units.proofs.ReadBack.{quoted_sound, quoted_complete}
use Rattle.proof_text.specs.Lines.{after, ◌>>=◌}
use Rattle.proof_text.specs.Numbers.{number_at}
use Rattle.proof_text.proofs.Parts.{after_sound, found}
use Rattle.proof_text.proofs.Numerals.{apart, number_sound, number_complete, decimal_inner}
use Rattle.proof_text.proofs.Whole.{is_inner}
use Rattle.proof_text.proofs.Refusing.{IsLineFormat}
use Rattle.proof_text.proofs.Formats.{line_by}
use Rattle.report_text.specs.Lines.{term_text}
use Rattle.report_text.specs.Parts.{chosen, one_of, short_at}
use Rattle.report_text.specs.Terms.{Part, earlier_term, short_number, truth_digit, whole_number, quoted_text, bits_word, parts_of, op_text, IsPart, AreParts, words_told, Among, IsTerm, behind, within, earlier_at, short_part_at, bit_at, truth_at, int_part_at, text_part_at, bits_told, bits_at, part_at, parts_at, numbered, front_at, words_at, term_at}
use Rattle.report_text.specs.declared.parts.Shape.{Shape}
use Rattle.report_text.specs.declared.parts.Shape.TheVariants as shapes
use Rattle.report_text.specs.declared.parts.BitsOp.{BitsOp}
use Rattle.report_text.specs.declared.parts.BitsOp.TheVariants as ops
use Rattle.report_text.proofs.ReadParts.{Apart, IsTable, word_sound, short_sound, short_complete}
use Rattle.report_text.proofs.ReadWide.{int_sound, int_complete, int_inner}
use Rattle.report_text.proofs.Inner.{Inner, both, quoted_inner}

-- ---- one part

-- what a part says, and what is behind it
abbrev Said : ℕ → Part → List ℕ → List ℕ → Type 0
Said earlier part list rest = (said : List ℕ) × IsPart earlier part said × (said ++ rest ≡ list)

within_by : (earlier n : ℕ) (r rest : List ℕ) (x : Bool) → (nat_le 1 n && nat_le n earlier) ≡ x → cond x (Some r) None ≡ Some rest → (1 ≤ n) × (n ≤ earlier) × (r ≡ rest)
within_by earlier n r rest true e h = let k = and_parts (nat_le 1 n) (nat_le n earlier) e in (leb-true 1 n k.0, leb-true n earlier k.1, cc)
within_by earlier n r rest false e h = absurd cc

earlier_by : (earlier : ℕ) (list rest : List ℕ) (o : Option (ℕ × List ℕ)) → number_at (2 ^ 64 - 1) list ≡ o → within earlier o ≡ Some rest → (n : ℕ) × (1 ≤ n) × (n ≤ earlier) × (n < 2 ^ 64) × (decimal n ++ rest ≡ list)
earlier_by earlier list rest None e h = absurd cc
earlier_by earlier list rest (Some r) e h =
    let w = within_by earlier r.0 r.1 rest (nat_le 1 r.0 && nat_le r.0 earlier) refl h in
    let k = number_sound (2 ^ 64 - 1) (omega arith) list r.0 r.1 e in
    (r.0, w.0, w.1, omega (arith, k.0), ap (λ (q : List ℕ). decimal r.0 ++ q) (sym w.2) ∙ k.1)

earlier_sound : (earlier : ℕ) (list rest : List ℕ) → earlier_at earlier list ≡ Some rest → Said earlier earlier_term list rest
earlier_sound earlier list rest e =
    let a = found (after (codes " t") list) _ rest e in
    let k = earlier_by earlier a.first rest (number_at (2 ^ 64 - 1) a.first) refl a.then_is in
    (codes " t" ++ decimal k.0, (k.0, k.1, k.2, k.3, refl), ap (λ (q : List ℕ). codes " t" ++ q) k.4 ∙ after_sound (codes " t") list a.first a.first_is)

behind_some : {X : Type 0} (o : Option (X × List ℕ)) (rest : List ℕ) → behind o ≡ Some rest → (x : X) × (o ≡ Some (x, rest))
behind_some None rest e = absurd cc
behind_some {X} (Some r) rest e = (r.0, let same : r.1 ≡ rest = inside r.1 rest e in ap (λ (q : List ℕ). Some (r.0, q)) same)
  where
    inside : (a b : List ℕ) → Some a ≡ Some b → a ≡ b
    inside a b e = cc

short_part_sound : (earlier : ℕ) (list rest : List ℕ) → short_part_at list ≡ Some rest → Said earlier short_number list rest
short_part_sound earlier list rest e =
    let a = found (after (codes " ") list) _ rest e in
    let b = behind_some (short_at a.first) rest a.then_is in
    let k = short_sound a.first b.0 rest b.1 in
    (codes " " ++ decimal b.0, (b.0, k.0, refl), ap (λ (q : List ℕ). codes " " ++ q) k.1 ∙ after_sound (codes " ") list a.first a.first_is)

bit_by : (b : ℕ) (bs rest : List ℕ) (x y : Bool) → (b == 48) ≡ x → (b == 49) ≡ y → cond (x || y) (Some bs) None ≡ Some rest → ((b ≡ 48) ⊎ (b ≡ 49)) × (bs ≡ rest)
bit_by b bs rest true y e h k = (inl (eqb-true b 48 e), cc)
bit_by b bs rest false true e h k = (inr (eqb-true b 49 h), cc)
bit_by b bs rest false false e h k = absurd cc

bit_sound : (list rest : List ℕ) → bit_at list ≡ Some rest → (48 ∷ rest ≡ list) ⊎ (49 ∷ rest ≡ list)
unfolding bit_at
bit_sound [] rest e = absurd cc
bit_sound (b ∷ bs) rest e = let k = bit_by b bs rest (b == 48) (b == 49) refl refl e in which k.0 k.1
  where
    which : (b ≡ 48) ⊎ (b ≡ 49) → bs ≡ rest → (48 ∷ rest ≡ b ∷ bs) ⊎ (49 ∷ rest ≡ b ∷ bs)
    which (inl h) m = inl (rw (h, m) refl)
    which (inr h) m = inr (rw (h, m) refl)

truth_sound : (earlier : ℕ) (list rest : List ℕ) → truth_at list ≡ Some rest → Said earlier truth_digit list rest
truth_sound earlier list rest e =
    let a = found (after (codes " ") list) _ rest e in
    by a.first (after_sound (codes " ") list a.first a.first_is) (bit_sound a.first rest a.then_is)
  where
    by : (start : List ℕ) → codes " " ++ start ≡ list → (48 ∷ rest ≡ start) ⊎ (49 ∷ rest ≡ start) → Said earlier truth_digit list rest
    by start h (inl k) = (codes " 0", inl refl, ap (λ (q : List ℕ). 32 ∷ q) k ∙ h)
    by start h (inr k) = (codes " 1", inr refl, ap (λ (q : List ℕ). 32 ∷ q) k ∙ h)

int_part_sound : (earlier : ℕ) (list rest : List ℕ) → int_part_at list ≡ Some rest → Said earlier whole_number list rest
int_part_sound earlier list rest e =
    let a = found (after (codes " ") list) _ rest e in
    let k = int_sound a.first rest a.then_is in
    (codes " " ++ signed_decimal k.0, (k.0, k.1, refl), ap (λ (q : List ℕ). codes " " ++ q) k.2 ∙ after_sound (codes " ") list a.first a.first_is)

text_part_sound : (earlier : ℕ) (list rest : List ℕ) → text_part_at list ≡ Some rest → Said earlier quoted_text list rest
text_part_sound earlier list rest e =
    let a = found (after (codes " ") list) _ rest e in
    let b = behind_some (quoted_at a.first) rest a.then_is in
    let k = quoted_sound a.first b.0 rest b.1 in
    (codes " " ++ quoted b.0, (b.0, k.0, refl), ap (λ (q : List ℕ). codes " " ++ q) k.1 ∙ after_sound (codes " ") list a.first a.first_is)

bits_spell : IsTable op_text bits_told
unfolding bits_told
bits_spell = (refl, (refl, (refl, (refl, (refl, (refl, tt))))))

bits_sound : (earlier : ℕ) (list rest : List ℕ) → bits_at list ≡ Some rest → Said earlier bits_word list rest
bits_sound earlier list rest e =
    let a = found (after (codes " ") list) _ rest e in
    let b = behind_some (one_of bits_told a.first) rest a.then_is in
    let k = word_sound op_text bits_told bits_spell a.first b.0 rest b.1 in
    (codes " " ++ op_text b.0, (b.0, refl), ap (λ (q : List ℕ). codes " " ++ q) k ∙ after_sound (codes " ") list a.first a.first_is)

part_sound : (earlier : ℕ) (part : Part) (list rest : List ℕ) → part_at earlier part list ≡ Some rest → Said earlier part list rest
part_sound earlier earlier_term list rest e = earlier_sound earlier list rest e
part_sound earlier short_number list rest e = short_part_sound earlier list rest e
part_sound earlier truth_digit list rest e = truth_sound earlier list rest e
part_sound earlier whole_number list rest e = int_part_sound earlier list rest e
part_sound earlier quoted_text list rest e = text_part_sound earlier list rest e
part_sound earlier bits_word list rest e = bits_sound earlier list rest e

op_read : (op : BitsOp) (rest : List ℕ) → one_of bits_told (op_text op ++ rest) ≡ Some (op, rest)
unfolding bits_told
op_read ops.And rest = refl
op_read ops.Or rest = refl
op_read ops.Xor rest = refl
op_read ops.Shl rest = refl
op_read ops.Shr rest = refl
op_read ops.Ushr rest = refl

bit_read : (said rest : List ℕ) → (said ≡ codes " 0") ⊎ (said ≡ codes " 1") → truth_at (said ++ rest) ≡ Some rest
unfolding bit_at
bit_read said rest (inl e) = rw e refl
bit_read said rest (inr e) = rw e refl

part_complete : (earlier : ℕ) (part : Part) (said rest : List ℕ) → IsPart earlier part said → Apart rest → part_at earlier part (said ++ rest) ≡ Some rest
part_complete earlier earlier_term said rest (n, a, b, c, e) f =
    ap (λ (q : List ℕ). earlier_at earlier (q ++ rest)) e
    ∙ rw (number_complete (2 ^ 64 - 1) (omega arith) n rest (omega (arith, c)) f)
    (rw (le-leb 1 n a, le-leb n earlier b) refl)
part_complete earlier short_number said rest (n, s, e) f = ap (λ (q : List ℕ). short_part_at (q ++ rest)) e ∙ ap behind (short_complete n rest s f)
part_complete earlier truth_digit said rest s f = bit_read said rest s
part_complete earlier whole_number said rest (z, s, e) f = ap (λ (q : List ℕ). int_part_at (q ++ rest)) e ∙ int_complete z rest s f
part_complete earlier quoted_text said rest (units, s, e) f = ap (λ (q : List ℕ). text_part_at (q ++ rest)) e ∙ ap behind (quoted_complete units rest s)
part_complete earlier bits_word said rest (op, e) f = ap (λ (q : List ℕ). bits_at (q ++ rest)) e ∙ ap behind (op_read op rest)

-- it begins with a space
abbrev Spaced : List ℕ → Type 0
Spaced said = (more : List ℕ) × (said ≡ 32 ∷ more)

part_space : (earlier : ℕ) (part : Part) (said : List ℕ) → IsPart earlier part said → Spaced said
part_space earlier earlier_term said (n, a, b, c, e) = (116 ∷ decimal n, e)
part_space earlier short_number said (n, s, e) = (decimal n, e)
part_space earlier truth_digit said (inl e) = (48 ∷ [], e)
part_space earlier truth_digit said (inr e) = (49 ∷ [], e)
part_space earlier whole_number said (z, s, e) = (signed_decimal z, e)
part_space earlier quoted_text said (units, s, e) = (quoted units, e)
part_space earlier bits_word said (op, e) = (op_text op, e)

op_inner : (op : BitsOp) → Inner (codes " " ++ op_text op)
op_inner ops.And = refl
op_inner ops.Or = refl
op_inner ops.Xor = refl
op_inner ops.Shl = refl
op_inner ops.Shr = refl
op_inner ops.Ushr = refl

part_inner : (earlier : ℕ) (part : Part) (said : List ℕ) → IsPart earlier part said → Inner said
part_inner earlier earlier_term said (n, a, b, c, e) = ap (λ (q : List ℕ). list_all is_inner q) e ∙ both (codes " t") (decimal n) refl (decimal_inner n c)
part_inner earlier short_number said (n, s, e) = ap (λ (q : List ℕ). list_all is_inner q) e ∙ both (codes " ") (decimal n) refl (decimal_inner n (omega (arith, s)))
part_inner earlier truth_digit said (inl e) = ap (λ (q : List ℕ). list_all is_inner q) e
part_inner earlier truth_digit said (inr e) = ap (λ (q : List ℕ). list_all is_inner q) e
part_inner earlier whole_number said (z, s, e) = ap (λ (q : List ℕ). list_all is_inner q) e ∙ both (codes " ") (signed_decimal z) refl (int_inner z s)
part_inner earlier quoted_text said (units, s, e) = ap (λ (q : List ℕ). list_all is_inner q) e ∙ both (codes " ") (quoted units) refl (quoted_inner units)
part_inner earlier bits_word said (op, e) = ap (λ (q : List ℕ). list_all is_inner q) e ∙ op_inner op

-- ---- parts behind one another

space_apart : (rest : List ℕ) → Apart (32 ∷ rest)
unfolding is_digit
space_apart rest = refl

spaced_apart : (said rest : List ℕ) → Spaced said → Apart (said ++ rest)
spaced_apart said rest s = ap (λ (q : List ℕ). apart (q ++ rest)) s.1 ∙ space_apart (s.0 ++ rest)

parts_apart : (earlier : ℕ) (parts : List Part) (said rest : List ℕ) → AreParts earlier parts said → Apart rest → Apart (said ++ rest)
parts_apart earlier [] said rest s f = ap (λ (q : List ℕ). apart (q ++ rest)) s ∙ f
parts_apart earlier (part ∷ parts) said rest (first, others, p, s, e) f =
    ap (λ (q : List ℕ). apart (q ++ rest)) e ∙ ap apart (append_assoc first others rest) ∙ spaced_apart first (others ++ rest) (part_space earlier part first p)

parts_sound : (earlier : ℕ) (parts : List Part) (list rest : List ℕ) → parts_at earlier parts list ≡ Some rest → (said : List ℕ) × AreParts earlier parts said × (said ++ rest ≡ list)
parts_sound earlier [] list rest e = ([], refl, inside list rest e)
  where
    inside : (a b : List ℕ) → Some a ≡ Some b → b ≡ a
    inside a b e = cc
parts_sound earlier (part ∷ parts) list rest e =
    let p = found (part_at earlier part list) _ rest e in
    let k = part_sound earlier part list p.first p.first_is in
    let more = parts_sound earlier parts p.first rest p.then_is in
    (k.0 ++ more.0, (k.0, more.0, k.1, more.1, refl), append_assoc k.0 more.0 rest ∙ ap (λ (q : List ℕ). k.0 ++ q) more.2 ∙ k.2)

parts_complete : (earlier : ℕ) (parts : List Part) (said rest : List ℕ) → AreParts earlier parts said → Apart rest → parts_at earlier parts (said ++ rest) ≡ Some rest
parts_complete earlier [] said rest s f = ap (λ (q : List ℕ). Some (q ++ rest)) s
parts_complete earlier (part ∷ parts) said rest (first, others, p, s, e) f =
    ap (λ (q : List ℕ). parts_at earlier (part ∷ parts) q) (ap (λ (q : List ℕ). q ++ rest) e ∙ append_assoc first others rest)
    ∙ ap (λ (o : Option (List ℕ)). o >>= λ left. parts_at earlier parts left) (part_complete earlier part first (others ++ rest) p (parts_apart earlier parts others rest s f))
    ∙ parts_complete earlier parts others rest s f

parts_inner : (earlier : ℕ) (parts : List Part) (said : List ℕ) → AreParts earlier parts said → Inner said
parts_inner earlier [] said s = ap (λ (q : List ℕ). list_all is_inner q) s
parts_inner earlier (part ∷ parts) said (first, others, p, s, e) = ap (λ (q : List ℕ). list_all is_inner q) e ∙ both first others (part_inner earlier part first p) (parts_inner earlier parts others s)

parts_space : (earlier : ℕ) (part : Part) (parts : List Part) (said : List ℕ) → AreParts earlier (part ∷ parts) said → Spaced said
parts_space earlier part parts said (first, others, p, s, e) = let k = part_space earlier part first p in (k.0 ++ others, e ∙ ap (λ (q : List ℕ). q ++ others) k.1)

shape_space : (earlier : ℕ) (shape : Shape) (said : List ℕ) → AreParts earlier (parts_of shape) said → Spaced said
shape_space earlier shapes.Flag said s = parts_space earlier truth_digit [] said s
shape_space earlier shapes.Int said s = parts_space earlier whole_number [] said s
shape_space earlier shapes.Text said s = parts_space earlier quoted_text [] said s
shape_space earlier shapes.Short said s = parts_space earlier short_number [] said s
shape_space earlier shapes.One said s = parts_space earlier earlier_term [] said s
shape_space earlier shapes.Two said s = parts_space earlier earlier_term (earlier_term ∷ []) said s
shape_space earlier shapes.Three said s = parts_space earlier earlier_term (earlier_term ∷ earlier_term ∷ []) said s
shape_space earlier shapes.Bits said s = parts_space earlier bits_word (earlier_term ∷ earlier_term ∷ []) said s
shape_space earlier shapes.Exec said s = parts_space earlier short_number (earlier_term ∷ earlier_term ∷ []) said s
shape_space earlier shapes.Nth said s = parts_space earlier earlier_term (short_number ∷ []) said s

-- ---- words

-- a word that is read is one of the table
among_by : (w : List ℕ) (s : Shape) (list : List ℕ) (o : Option (List ℕ)) (es : List (List ℕ × Shape)) (shape : Shape) (rest : List ℕ) → after w list ≡ o → chosen s o (one_of es list) ≡ Some (shape, rest)
    → (one_of es list ≡ Some (shape, rest) → (word : List ℕ) × Among word shape es × (word ++ rest ≡ list))
    → (word : List ℕ) × Among word shape ((w, s) ∷ es) × (word ++ rest ≡ list)
among_by w s list None es shape rest a e go = let k = go e in (k.0, inr k.1, k.2)
among_by w s list (Some r) es shape rest a e go =
    let same = same_read s shape r rest e in
    (w, inl (refl, sym same.0), ap (λ (q : List ℕ). w ++ q) (sym same.1) ∙ after_sound w list r a)

among_sound : (es : List (List ℕ × Shape)) (list : List ℕ) (shape : Shape) (rest : List ℕ) → one_of es list ≡ Some (shape, rest) → (word : List ℕ) × Among word shape es × (word ++ rest ≡ list)
among_sound [] list shape rest e = absurd cc
among_sound (w ∷ es) list shape rest e = among_by w.0 w.1 list (after w.0 list) es shape rest refl e (λ k. among_sound es list shape rest k)

-- each is read where a space follows
abbrev IsFound : List ℕ × Shape → Type 0
IsFound e = (rest : List ℕ) → one_of words_told (e.0 ++ 32 ∷ rest) ≡ Some (e.1, 32 ∷ rest)

all_found : (es : List (List ℕ × Shape)) (word : List ℕ) (shape : Shape) → Spelt IsFound es → Among word shape es → IsFound (word, shape)
all_found [] word shape s m = absurd m
all_found (e ∷ es) word shape s (inl (h, k)) = λ rest. ap (λ (q : List ℕ). one_of words_told (q ++ 32 ∷ rest)) h ∙ s.0 rest ∙ ap (λ (q : Shape). Some (q, 32 ∷ rest)) (sym k)
all_found (e ∷ es) word shape s (inr m) = all_found es word shape s.1 m

words_found : Spelt IsFound words_told
unfolding words_told
words_found =
    (λ rest. refl, (λ rest. refl, (λ rest. refl, (λ rest. refl, (λ rest. refl, (λ rest. refl, (λ rest. refl, (λ rest. refl, (λ rest. refl, (λ rest. refl, (λ rest. refl, (λ rest. refl, (λ rest. refl, (λ rest. refl, (λ rest. refl, (λ rest. refl, (λ rest. refl, (λ rest. refl, (λ rest. refl, (λ rest. refl, (λ rest. refl, (λ rest. refl, (λ rest. refl, (λ rest. refl, (λ rest. refl, (λ rest. refl, (λ rest. refl, (λ rest. refl, (λ rest. refl, (λ rest. refl, (λ rest. refl, (λ rest. refl, (λ rest. refl, (λ rest. refl, (λ rest. refl, (λ rest. refl, (λ rest. refl, (λ rest. refl, tt))))))))))))))))))))))))))))))))))))))

word_read : (word : List ℕ) (shape : Shape) (rest : List ℕ) → Among word shape words_told → one_of words_told (word ++ 32 ∷ rest) ≡ Some (shape, 32 ∷ rest)
word_read word shape rest m = all_found words_told word shape words_found m rest

-- no LF stands in one
all_inner : (es : List (List ℕ × Shape)) (word : List ℕ) (shape : Shape) → Spelt (λ (e : List ℕ × Shape). Inner e.0) es → Among word shape es → Inner word
all_inner [] word shape s m = absurd m
all_inner (e ∷ es) word shape s (inl (h, k)) = ap (λ (q : List ℕ). list_all is_inner q) h ∙ s.0
all_inner (e ∷ es) word shape s (inr m) = all_inner es word shape s.1 m

words_inner : Spelt (λ (e : List ℕ × Shape). Inner e.0) words_told
unfolding words_told
words_inner =
    (refl, (refl, (refl, (refl, (refl, (refl, (refl, (refl, (refl, (refl, (refl, (refl, (refl, (refl, (refl, (refl, (refl, (refl, (refl, (refl, (refl, (refl, (refl, (refl, (refl, (refl, (refl, (refl, (refl, (refl, (refl, (refl, (refl, (refl, (refl, (refl, (refl, (refl, tt))))))))))))))))))))))))))))))))))))))

word_inner : (word : List ℕ) (shape : Shape) → Among word shape words_told → Inner word
word_inner word shape m = all_inner words_told word shape words_inner m

-- ---- terms

numbered_by : (earlier : ℕ) (list rest : List ℕ) (o : Option (ℕ × List ℕ)) → number_at (2 ^ 64 - 1) list ≡ o → numbered earlier o ≡ Some rest → (suc earlier < 2 ^ 64) × (decimal (suc earlier) ++ rest ≡ list)
numbered_by earlier list rest None e h = absurd cc
numbered_by earlier list rest (Some r) e h = by (r.0 == suc earlier) refl h
  where
    by : (x : Bool) → (r.0 == suc earlier) ≡ x → cond x (Some r.1) None ≡ Some rest → (suc earlier < 2 ^ 64) × (decimal (suc earlier) ++ rest ≡ list)
    by true f g =
        let k = number_sound (2 ^ 64 - 1) (omega arith) list r.0 r.1 e in
        let n : r.0 ≡ suc earlier = eqb-true r.0 (suc earlier) f in
        let same : r.1 ≡ rest = cc in
        (omega (arith, n, k.0), ap (λ (q : ℕ). decimal q ++ rest) (sym n) ∙ ap (λ (q : List ℕ). decimal r.0 ++ q) (sym same) ∙ k.1)
    by false f g = absurd cc

abbrev front_text : ℕ → List ℕ
front_text earlier = codes "t " ++ decimal (suc earlier) ++ codes " "

front_parts : (earlier : ℕ) (rest : List ℕ) → front_text earlier ++ rest ≡ codes "t " ++ (decimal (suc earlier) ++ (codes " " ++ rest))
front_parts earlier rest = append_assoc (codes "t " ++ decimal (suc earlier)) (codes " ") rest ∙ append_assoc (codes "t ") (decimal (suc earlier)) (codes " " ++ rest)

front_sound : (earlier : ℕ) (list rest : List ℕ) → front_at earlier list ≡ Some rest → (suc earlier < 2 ^ 64) × (front_text earlier ++ rest ≡ list)
front_sound earlier list rest e =
    let a = found (after (codes "t ") list) _ rest e in
    let n = found (numbered earlier (number_at (2 ^ 64 - 1) a.first)) _ rest a.then_is in
    let k = numbered_by earlier a.first n.first (number_at (2 ^ 64 - 1) a.first) refl n.first_is in
    (k.0, front_parts earlier rest ∙ ap (λ (q : List ℕ). codes "t " ++ (decimal (suc earlier) ++ q)) (after_sound (codes " ") n.first rest n.then_is) ∙ ap (λ (q : List ℕ). codes "t " ++ q) k.1 ∙ after_sound (codes "t ") list a.first a.first_is)

front_complete : (earlier : ℕ) (rest : List ℕ) → suc earlier < 2 ^ 64 → front_at earlier (front_text earlier ++ rest) ≡ Some rest
front_complete earlier rest s =
    ap (front_at earlier) (front_parts earlier rest)
    ∙ rw (number_complete (2 ^ 64 - 1) (omega arith) (suc earlier) (codes " " ++ rest) (omega (arith, s)) (space_apart rest))
    (rw (eq-eqb (suc earlier) (suc earlier) refl) refl)

said_parts : (earlier : ℕ) (word parts rest : List ℕ) → (front_text earlier ++ word ++ parts) ++ rest ≡ front_text earlier ++ (word ++ (parts ++ rest))
said_parts earlier word parts rest = append_assoc (front_text earlier ++ word) parts rest ∙ append_assoc (front_text earlier) word (parts ++ rest)

words_sound : (earlier : ℕ) (list left : List ℕ) → words_at earlier list ≡ Some left → (said : List ℕ) × IsTerm earlier said × (said ++ left ≡ list)
unfolding words_at
words_sound earlier list left e =
    let a = found (front_at earlier list) _ left e in
    let w = found (one_of words_told a.first) _ left a.then_is in
    let fs = front_sound earlier list a.first a.first_is in
    let ws = among_sound words_told a.first w.first.0 w.first.1 w.first_is in
    let ps = parts_sound earlier (parts_of w.first.0) w.first.1 left w.then_is in (
      front_text earlier ++ ws.0 ++ ps.0,
      record { number_long = fs.0; word = ws.0; shape = w.first.0; among = ws.1; parts = ps.0; are_parts = ps.1; said_is = refl },
      said_parts earlier ws.0 ps.0 left ∙ ap (λ (q : List ℕ). front_text earlier ++ (ws.0 ++ q)) ps.2 ∙ ap (λ (q : List ℕ). front_text earlier ++ q) ws.2 ∙ fs.1,
    )

words_complete : (earlier : ℕ) (said rest : List ℕ) → IsTerm earlier said → Apart rest → words_at earlier (said ++ rest) ≡ Some rest
unfolding words_at
words_complete earlier said rest t f =
    let s = shape_space earlier t.shape t.parts t.are_parts in
    let parts : t.parts ++ rest ≡ 32 ∷ (s.0 ++ rest) = ap (λ (q : List ℕ). q ++ rest) s.1 in
    ap (λ (q : List ℕ). words_at earlier (q ++ rest)) t.said_is
    ∙ ap (words_at earlier) (said_parts earlier t.word t.parts rest)
    ∙ ap (λ (o : Option (List ℕ)). o >>= λ start. one_of words_told start >>= λ word. parts_at earlier (parts_of word.0) word.1) (front_complete earlier (t.word ++ (t.parts ++ rest)) t.number_long)
    ∙ ap (λ (o : Option (Shape × List ℕ)). o >>= λ word. parts_at earlier (parts_of word.0) word.1) (ap (λ (q : List ℕ). one_of words_told (t.word ++ q)) parts ∙ word_read t.word t.shape (s.0 ++ rest) t.among)
    ∙ ap (parts_at earlier (parts_of t.shape)) (sym parts)
    ∙ parts_complete earlier (parts_of t.shape) t.parts rest t.are_parts f

pub behind_shorter : (earlier : ℕ) (list left : List ℕ) → words_at earlier list ≡ Some left → length left ≤ length list
behind_shorter earlier list left e = let k = words_sound earlier list left e in omega (arith, ap length k.2, length-append k.0 left)

front_taken : (said left list : List ℕ) → said ++ left ≡ list → take (length list - length left) list ≡ said
front_taken said left list e =
    let sizes : length list ≡ length said + length left = ap length (sym e) ∙ length-append said left in
    ap (λ (q : List ℕ). take (length list - length left) q) (sym e) ∙ take_at said left (length list - length left) (omega (arith, sizes))

term_sound : (earlier : ℕ) → Sound (term_at earlier) term_text (IsTerm earlier)
unfolding term_at
term_sound earlier list said rest e =
    let w = found (words_at earlier list) _ (said, rest) e in
    let n = found (after (codes "\n") w.first) _ (said, rest) w.then_is in
    let k = words_sound earlier list w.first w.first_is in
    let same = same_read (take (length list - length w.first) list) said n.first rest n.then_is in
    let is : k.0 ≡ said = sym (front_taken k.0 w.first list k.2) ∙ same.0 in (
      subst (IsTerm earlier) is k.1,
      append_assoc said (codes "\n") rest ∙ ap (λ (q : List ℕ). said ++ q) (ap (λ (q : List ℕ). codes "\n" ++ q) (sym same.1) ∙ after_sound (codes "\n") w.first n.first n.first_is) ∙ ap (λ (q : List ℕ). q ++ w.first) (sym is) ∙ k.2,
    )

lf_apart : (rest : List ℕ) → Apart (10 ∷ rest)
unfolding is_digit
lf_apart rest = refl

term_complete : (earlier : ℕ) → Complete (term_at earlier) term_text (IsTerm earlier) (λ rest. Unit {0})
unfolding term_at
term_complete earlier said rest t f =
    ap (term_at earlier) (append_assoc said (codes "\n") rest)
    ∙ rw (words_complete earlier said (10 ∷ rest) t (lf_apart rest))
    (ap (λ (q : List ℕ). Some (q, rest)) (front_taken said (10 ∷ rest) (said ++ 10 ∷ rest) refl))

term_inner : (earlier : ℕ) (said : List ℕ) → IsTerm earlier said → Inner said
term_inner earlier said t =
    ap (λ (q : List ℕ). list_all is_inner q) t.said_is
    ∙ both (front_text earlier ++ t.word) t.parts
    (both (front_text earlier) t.word (both (codes "t " ++ decimal (suc earlier)) (codes " ") (both (codes "t ") (decimal (suc earlier)) refl (decimal_inner (suc earlier) t.number_long)) refl) (word_inner t.word t.shape t.among))
    (parts_inner earlier (parts_of t.shape) t.parts t.are_parts)

pub term_format : (earlier : ℕ) → IsLineFormat (term_at earlier) term_text (IsTerm earlier)
term_format earlier = record { sound = term_sound earlier; complete = term_complete earlier; line = λ said t. line_by said [] (term_inner earlier said t) refl }

-- each number of 64 bits has one
pub some_term : (earlier : ℕ) → suc earlier < 2 ^ 64 → (said : List ℕ) × IsTerm earlier said
unfolding words_told
some_term earlier h = (
  front_text earlier ++ codes "flag" ++ codes " 0",
  record { number_long = h; word = codes "flag"; shape = shapes.Flag; among = inl (refl, refl); parts = codes " 0"; are_parts = (codes " 0", [], inl refl, refl, refl); said_is = refl },
)
