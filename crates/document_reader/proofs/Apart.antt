-- Documents with the same lines are the same, and so are their parts, whatever lines stand behind them.
use Rattle.std.proofs.Common.{◌≡◌, ◌+◌, ◌∙◌, ℕ, ℤ, List, [], ◌∷◌, ◌++◌, length, map, refl, sym, arith}
use Rattle.std.specs.List.{flat_map}
use Rattle.std.proofs.lemmas.List.{append_assoc}
use Rattle.tree_document.specs.declared.document.Skip.{Skip}
use Rattle.tree_document.specs.declared.document.Body.TheVariants.{Skipped, Solved}
use Rattle.tree_document.specs.declared.document.Section.{Section}
use Rattle.tree_document.specs.declared.document.Ending.{Ending}
use Rattle.tree_document.specs.declared.document.Ending.TheVariants.{Clean, Refused}
use Rattle.tree_document.specs.declared.document.Document.{Document}
use Rattle.tree_document.specs.declared.entry.Mark.{Mark}
use Rattle.tree_document.specs.declared.entry.Outcome.{Outcome}
use Rattle.tree_document.specs.declared.entry.Outcome.TheVariants.{Tree, TooLarge}
use Rattle.tree_document.specs.declared.entry.TreeRow.{TreeRow}
use Rattle.tree_certificate.specs.BoundValue.{BoundValue, priced, split}
use Rattle.tree_certificate.specs.Value.{a_bound, a_table}
use Rattle.tree_document.specs.Line.{Line, header_line, refused_line, spectrum_line, skip_line, lists_line, list_line}
use Rattle.tree_document.specs.Line.{formula_line, entries_line, too_large_line, tree_line, row_line, table_line}
use Rattle.tree_document.specs.Line.{table_row_line, split_line, prices_line, potentials_line, done_line}
use Rattle.tree_document.specs.Document.{body_lines, bound_lines, cert_lines, ending_line, entry_lines, lines_of}
use Rattle.tree_document.specs.Document.{list_lines, outcome_lines, section_lines}

-- parts whose lines are the same, with anything behind them, are the same
abbrev Apart : {X : Type 0} → (X → List Line) → Type 0
Apart {X} lines = (a b : X) (r s : List Line) → lines a ++ r ≡ lines b ++ s → (a ≡ b) × (r ≡ s)

first_is : (a b : Line) (r s : List Line) → a ∷ r ≡ b ∷ s → a ≡ b
first_is a b r s is = (cc)

rest_is : (a b : Line) (r s : List Line) → a ∷ r ≡ b ∷ s → r ≡ s
rest_is a b r s is = (cc)

-- so many parts, one after another
many : {X : Type 0} (lines : X → List Line) → Apart lines → (xs ys : List X) (r s : List Line) → length xs ≡ length ys
    → flat_map lines xs ++ r ≡ flat_map lines ys ++ s → (xs ≡ ys) × (r ≡ s)
many lines each [] [] r s long is = (refl, is)
many lines each [] (b ∷ ys) r s long is = absurd (omega (arith, long))
many lines each (a ∷ xs) [] r s long is = absurd (omega (arith, long))
many lines each (a ∷ xs) (b ∷ ys) r s long is =
    let one = each a b (flat_map lines xs ++ r) (flat_map lines ys ++ s)
    (sym (append_assoc (lines a) (flat_map lines xs) r) ∙ is ∙ append_assoc (lines b) (flat_map lines ys) s) in
    let later = many lines each xs ys r s (omega (arith, long)) one.1 in
    (λ i. one.0 i ∷ later.0 i, later.1)

-- so many lines
many_lines : {X : Type 0} (line : X → Line) → ((a b : X) → line a ≡ line b → a ≡ b) → (xs ys : List X) (r s : List Line)
    → length xs ≡ length ys → map line xs ++ r ≡ map line ys ++ s → (xs ≡ ys) × (r ≡ s)
many_lines line each [] [] r s long is = (refl, is)
many_lines line each [] (b ∷ ys) r s long is = absurd (omega (arith, long))
many_lines line each (a ∷ xs) [] r s long is = absurd (omega (arith, long))
many_lines line each (a ∷ xs) (b ∷ ys) r s long is =
    let one = each a b (first_is (line a) (line b) (map line xs ++ r) (map line ys ++ s) is) in
    let later = many_lines line each xs ys r s (omega (arith, long))
    (rest_is (line a) (line b) (map line xs ++ r) (map line ys ++ s) is) in
    (λ i. one i ∷ later.0 i, later.1)

formula_is : (a b : List ℕ) → formula_line a ≡ formula_line b → a ≡ b
formula_is a b is = (cc)

row_is : (a b : TreeRow) → row_line a ≡ row_line b → a ≡ b
row_is a b is = (cc)

table_row_is : (a b : List ℤ) → table_row_line a ≡ table_row_line b → a ≡ b
table_row_is a b is = (cc)

list_is : (m i n u j k : ℕ) → list_line m i n ≡ list_line u j k → (m ≡ u) × (i ≡ j) × (n ≡ k)
list_is m i n u j k is = let first : m ≡ u = cc in let second : i ≡ j = cc in let third : n ≡ k =
    cc in (first, second, third)

list_apart : Apart list_lines
list_apart a b r s is =
    let head = list_is a.mz a.intensity (length a.formulas) b.mz b.intensity (length b.formulas)
    (first_is _ _ (map formula_line a.formulas ++ r) (map formula_line b.formulas ++ s) is) in
    let formulas = many_lines formula_line formula_is a.formulas b.formulas r s head.2
    (rest_is _ _ (map formula_line a.formulas ++ r) (map formula_line b.formulas ++ s) is) in
    (λ i. record { mz = head.0 i; intensity = head.1 i; formulas = formulas.0 i }, formulas.1)

table_is : (n k : ℕ) → table_line n ≡ table_line k → n ≡ k
table_is n k is = (cc)

prices_is : (a b : List ℤ) → prices_line a ≡ prices_line b → a ≡ b
prices_is a b is = (cc)

potentials_is : (a b : List ℤ) → potentials_line a ≡ potentials_line b → a ≡ b
potentials_is a b is = (cc)

split_is : (u v c d : ℕ) (p q : List ℕ) → split_line u c p ≡ split_line v d q → (c ≡ d) × (p ≡ q)
split_is u v c d p q is = let first : c ≡ d = cc in let second : p ≡ q = cc in (first, second)

not_split : (a : List ℤ) (u c : ℕ) (p : List ℕ) → prices_line a ≡ split_line u c p → ⊥
not_split a u c p is = (cc)

bound_apart : (above : ℕ) → Apart (bound_lines above)
bound_apart above (priced a) (priced b) r s is =
    let prices = prices_is a.prices b.prices (first_is _ _ (potentials_line a.potentials ∷ r)
    (potentials_line b.potentials ∷ s) is) in
    let behind = rest_is _ _ (potentials_line a.potentials ∷ r) (potentials_line b.potentials ∷ s) is in
    let potentials = potentials_is a.potentials b.potentials (first_is _ _ r s behind) in
    (λ i. priced (record { prices = prices i; potentials = potentials i }), rest_is _ _ r s behind)
bound_apart above (priced a) (split d q x y) r s is =
    absurd (not_split a.prices above d q (first_is _ _ (potentials_line a.potentials ∷ r)
    ((bound_lines (above + 1) x ++ bound_lines (above + 1) y) ++ s) is))
bound_apart above (split c p f g) (priced b) r s is =
    absurd (not_split b.prices above c p (sym (first_is _ _ ((bound_lines (above + 1) f ++ bound_lines (above + 1) g)
    ++ r) (potentials_line b.potentials ∷ s) is)))
bound_apart above (split c p f g) (split d q x y) r s is =
    let mine : List Line = (bound_lines (above + 1) f ++ bound_lines (above + 1) g) ++ r in
    let its : List Line = (bound_lines (above + 1) x ++ bound_lines (above + 1) y) ++ s in
    let head = split_is above above c d p q (first_is _ _ mine its is) in
    let one = bound_apart (above + 1) f x (bound_lines (above + 1) g ++ r) (bound_lines (above + 1) y ++ s)
    (sym (append_assoc (bound_lines (above + 1) f) (bound_lines (above + 1) g) r) ∙ rest_is _ _ mine its is
    ∙ append_assoc (bound_lines (above + 1) x) (bound_lines (above + 1) y) s) in
    let other = bound_apart (above + 1) g y r s one.1 in
    (λ i. split (head.0 i) (head.1 i) (one.0 i) (other.0 i), other.1)

table_not_prices : (count : ℕ) (a : List ℤ) → table_line count ≡ prices_line a → ⊥
table_not_prices count a is = (cc)

table_not_split : (count u c : ℕ) (p : List ℕ) → table_line count ≡ split_line u c p → ⊥
table_not_split count u c p is = (cc)

-- a bound does not begin as a table does
no_table : (count above : ℕ) (bound : BoundValue) (r s : List Line)
    → table_line count ∷ r ≡ bound_lines above bound ++ s → ⊥
no_table count above (priced b) r s is = absurd (table_not_prices count b.prices
    (first_is _ _ r (potentials_line b.potentials ∷ s) is))
no_table count above (split c p f g) r s is = absurd (table_not_split count above c p
    (first_is _ _ r ((bound_lines (above + 1) f ++ bound_lines (above + 1) g) ++ s) is))

cert_apart : Apart cert_lines
cert_apart (a_table rows) (a_table others) r s is =
    let long = table_is (length rows) (length others) (first_is _ _ (map table_row_line rows ++ r)
    (map table_row_line others ++ s) is) in
    let same = many_lines table_row_line table_row_is rows others r s long
    (rest_is _ _ (map table_row_line rows ++ r) (map table_row_line others ++ s) is) in
    (λ i. a_table (same.0 i), same.1)
cert_apart (a_bound bound) (a_bound other) r s is = let same =
    bound_apart 0 bound other r s is in (λ i. a_bound (same.0 i), same.1)
cert_apart (a_table rows) (a_bound other) r s is = absurd (no_table (length rows) 0 other (map table_row_line rows ++ r)
    s is)
cert_apart (a_bound bound) (a_table others) r s is = absurd (no_table (length others) 0 bound
    (map table_row_line others ++ s) r (sym is))

record TreeParts (c d : List ℕ) (e f : ℕ) (g h : ℤ) (u v : ℤ) (m o : Mark) (n k : ℕ) : Type 0 where
  candidate : c ≡ d
  error : e ≡ f
  score : g ≡ h
  upper : u ≡ v
  mark : m ≡ o
  count : n ≡ k

tree_is : (c d : List ℕ) (e f : ℕ) (g h u v : ℤ) (m o : Mark) (n k : ℕ) → tree_line c e g u m n ≡ tree_line d f h v o k
    → TreeParts c d e f g h u v m o n k
tree_is c d e f g h u v m o n k is = record {
  candidate = cc;
  error = cc;
  score = cc;
  upper = cc;
  mark = cc;
  count =
      cc;
}

too_large_is : (c d : List ℕ) (e f : ℕ) (n k : ℕ) → too_large_line c e n ≡ too_large_line d f k
    → (c ≡ d) × (e ≡ f) × (n ≡ k)
too_large_is c d e f n k is = let first : c ≡ d = cc in let second : e ≡ f = cc in let third : n ≡ k =
    cc in (first, second, third)

not_tree : (c d : List ℕ) (e f n k : ℕ) (g u : ℤ) (m : Mark) → too_large_line c e n ≡ tree_line d f g u m k → ⊥
not_tree c d e f n k g u m is = (cc)

outcome_apart : (c d : List ℕ) (e f : ℕ) (a b : Outcome) (r s : List Line)
    → outcome_lines c e a ++ r ≡ outcome_lines d f b ++ s → (c ≡ d) × (e ≡ f) × (a ≡ b) × (r ≡ s)
outcome_apart c d e f (TooLarge n) (TooLarge k) r s is =
    let head = too_large_is c d e f n k (first_is _ _ r s is) in
    (head.0, head.1, (λ i. TooLarge (head.2 i)), rest_is _ _ r s is)
outcome_apart c d e f (TooLarge n) (Tree b) r s is = absurd (not_tree c d e f n _ _ _ _
    (first_is _ _ r ((map row_line b.rows ++ cert_lines b.cert) ++ s) is))
outcome_apart c d e f (Tree a) (TooLarge k) r s is = absurd (not_tree d c f e k _ _ _ _
    (sym (first_is _ _ ((map row_line a.rows ++ cert_lines a.cert) ++ r) s is)))
outcome_apart c d e f (Tree a) (Tree b) r s is =
    let head = tree_is c d e f a.score b.score a.upper b.upper a.mark b.mark (length a.rows) (length b.rows)
    (first_is _ _ ((map row_line a.rows ++ cert_lines a.cert) ++ r)
    ((map row_line b.rows ++ cert_lines b.cert) ++ s) is) in
    let behind = rest_is _ _ ((map row_line a.rows ++ cert_lines a.cert) ++ r)
    ((map row_line b.rows ++ cert_lines b.cert) ++ s) is in
    let rows = many_lines row_line row_is a.rows b.rows (cert_lines a.cert ++ r) (cert_lines b.cert ++ s) head.count
    (sym (append_assoc (map row_line a.rows) (cert_lines a.cert) r) ∙ behind
    ∙ append_assoc (map row_line b.rows) (cert_lines b.cert) s) in
    let cert = cert_apart a.cert b.cert r s rows.1 in (
      head.candidate,
      head.error,
      (λ i. Tree (record {
        score = head.score i;
        upper = head.upper i;
        mark =
            head.mark i;
        rows = rows.0 i;
        cert = cert.0 i;
      })),
      cert.1,
    )

entry_apart : Apart entry_lines
entry_apart a b r s is =
    let parts = outcome_apart a.candidate b.candidate a.error b.error a.outcome b.outcome r s is in
    (λ i. record { candidate = parts.0 i; error = parts.1 i; outcome = parts.2 i }, parts.3)

entries_is : (n k : ℕ) → entries_line n ≡ entries_line k → n ≡ k
entries_is n k is = (cc)

lists_is : (n k : ℕ) → lists_line n ≡ lists_line k → n ≡ k
lists_is n k is = (cc)

skip_is : (a b : Skip) → skip_line a ≡ skip_line b → a ≡ b
skip_is a b is = (cc)

not_lists : (a : Skip) (n : ℕ) → skip_line a ≡ lists_line n → ⊥
not_lists a n is = (cc)

body_apart : Apart body_lines
body_apart (Skipped a) (Skipped b) r s is = let reason =
    skip_is a b (first_is _ _ r s is) in (λ i. Skipped (reason i), rest_is _ _ r s is)
body_apart (Skipped a) (Solved b) r s is = absurd (not_lists a _
    (first_is _ _ r ((flat_map list_lines b.lists ++ entries_line (length b.entries) ∷ flat_map entry_lines b.entries)
    ++ s) is))
body_apart (Solved a) (Skipped b) r s is = absurd (not_lists b _
    (sym (first_is _ _ ((flat_map list_lines a.lists ++ entries_line (length a.entries) ∷ flat_map entry_lines
    a.entries) ++ r) s is)))
body_apart (Solved a) (Solved b) r s is =
    let mine : List Line = flat_map entry_lines a.entries ++ r in
    let its : List Line = flat_map entry_lines b.entries ++ s in
    let many_entries = entries_line (length a.entries) ∷ flat_map entry_lines a.entries in
    let other_entries = entries_line (length b.entries) ∷ flat_map entry_lines b.entries in
    let long = lists_is (length a.lists) (length b.lists) (first_is _ _
    ((flat_map list_lines a.lists ++ many_entries) ++ r) ((flat_map list_lines b.lists ++ other_entries) ++ s) is)
    in
    let behind = rest_is _ _ ((flat_map list_lines a.lists ++ many_entries) ++ r)
    ((flat_map list_lines b.lists ++ other_entries) ++ s) is in
    let lists = many list_lines list_apart a.lists b.lists (many_entries ++ r) (other_entries ++ s) long
    (sym (append_assoc (flat_map list_lines a.lists) many_entries r) ∙ behind
    ∙ append_assoc (flat_map list_lines b.lists) other_entries s) in
    let count = entries_is (length a.entries) (length b.entries) (first_is _ _ mine its lists.1) in
    let entries = many entry_lines entry_apart a.entries b.entries r s count (rest_is _ _ mine its lists.1) in
    (λ i. Solved (record { lists = lists.0 i; entries = entries.0 i }), entries.1)

spectrum_is : (n k : ℕ) (t u : List ℕ) → spectrum_line n t ≡ spectrum_line k u → (n ≡ k) × (t ≡ u)
spectrum_is n k t u is = let first : n ≡ k = cc in let second : t ≡ u = cc in (first, second)

section_apart : Apart section_lines
section_apart a b r s is =
    let head = spectrum_is a.line b.line a.title b.title (first_is _ _ ((body_lines a.body ++ done_line ∷ []) ++ r)
    ((body_lines b.body ++ done_line ∷ []) ++ s) is) in
    let behind = rest_is _ _ ((body_lines a.body ++ done_line ∷ []) ++ r) ((body_lines b.body ++ done_line ∷ []) ++ s)
    is in
    let body = body_apart a.body b.body (done_line ∷ r) (done_line ∷ s)
    (sym (append_assoc (body_lines a.body) (done_line ∷ []) r) ∙ behind
    ∙ append_assoc (body_lines b.body) (done_line ∷ []) s) in
    (λ i. record { line = head.0 i; title = head.1 i; body = body.0 i }, rest_is done_line done_line r s body.1)

refused_is : (n k : ℕ) (m o : ℕ) → refused_line n m ≡ refused_line k o → (n ≡ k) × (m ≡ o)
refused_is n k m o is = let first : n ≡ k = cc in let second : m ≡ o = cc in (first, second)

ending_is : (a b : Ending) → ending_line a ≡ ending_line b → a ≡ b
ending_is Clean Clean is = refl
ending_is Clean (Refused b) is = (cc)
ending_is (Refused a) Clean is = (cc)
ending_is (Refused a) (Refused b) is = let parts =
    refused_is a.line b.line a.kind b.kind is in λ i. Refused (record { line = parts.0 i; kind = parts.1 i })

no_section : (ending : Ending) (section : Section) → ending_line ending ≡ spectrum_line section.line section.title → ⊥
no_section Clean section is = (cc)
no_section (Refused fault) section is = (cc)

sections_apart : (xs ys : List Section) (a b : Ending) (r s : List Line)
    → flat_map section_lines xs ++ (ending_line a ∷ r) ≡ flat_map section_lines ys ++ (ending_line b ∷ s)
    → (xs ≡ ys) × (a ≡ b)
sections_apart [] [] a b r s is = (refl, ending_is a b (first_is _ _ r s is))
sections_apart [] (y ∷ ys) a b r s is = absurd (no_section a y
    (first_is _ _ r (((body_lines y.body ++ done_line ∷ []) ++ flat_map section_lines ys) ++ (ending_line b ∷ s)) is))
sections_apart (x ∷ xs) [] a b r s is = absurd (no_section b x
    (sym (first_is _ _ (((body_lines x.body ++ done_line ∷ []) ++ flat_map section_lines xs) ++ (ending_line a ∷ r)) s
    is)))
sections_apart (x ∷ xs) (y ∷ ys) a b r s is =
    let mine : List Line = flat_map section_lines xs ++ (ending_line a ∷ r) in
    let its : List Line = flat_map section_lines ys ++ (ending_line b ∷ s) in
    let one = section_apart x y mine its
    (sym (append_assoc (section_lines x) (flat_map section_lines xs) (ending_line a ∷ r)) ∙ is
    ∙ append_assoc (section_lines y) (flat_map section_lines ys) (ending_line b ∷ s)) in
    let later = sections_apart xs ys a b r s one.1 in
    (λ i. one.0 i ∷ later.0 i, later.1)

pub same_document : (a b : Document) → lines_of a ≡ lines_of b → a ≡ b
same_document a b is =
    let parts = sections_apart a.sections b.sections a.ending b.ending [] [] (rest_is header_line header_line _ _ is) in
    λ i. record { sections = parts.0 i; ending = parts.1 i }
