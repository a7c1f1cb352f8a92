-- Of AreFirsts: the first row of each vertex, one row after another, and the parents that they give.
use Rattle.std.proofs.Common.{◌≡◌, ◌≢◌, ◌+◌, ◌-◌, ◌<◌, ◌≤◌, ◌↔◌, ◌∙◌, ◌⊎◌, inl, inr, ℕ, zero, suc, List, length}
use Rattle.std.proofs.Common.{replicate, get_or, set, ap}
use Rattle.std.proofs.Common.{sym, refl, subst, arith}
use Rattle.std.proofs.lemmas.Bool.{cases_eq, cases_lt}
use Rattle.std.proofs.lemmas.List.{get_or-replicate, get_or-set_other, get_or-set_same, length-replicate, length-set}
use Rattle.colour_graph.specs.Graph.{Graph, edge_at}
use Rattle.loss_graph.specs.LossGraph.{LossGraphValue}
use Rattle.tree_document.specs.declared.entry.TreeRow.{TreeRow}
use Rattle.tree_entry.specs.Rows.{IsParent, IsRow, head_of, of_root, of_row, row_at}
use Rattle.entry_checker.specs.inside.Firsts.{AreFirsts, IsFirst, IsParentBy, TellsEdge, no_row, a_row}

-- before the first row
pub AreFirsts-none : (graph : Graph) (rows : List TreeRow) (long : ℕ) → AreFirsts graph rows 0 (replicate long 0)
AreFirsts-none graph rows long vertex within =
    no_row (get_or-replicate long vertex 0 0 (omega (arith, length-replicate {A = ℕ} long 0)))
    (λ earlier before. absurd (omega arith))

-- a first row stays the first, and a vertex of none has none where one more row goes elsewhere
IsFirst-more : (graph : Graph) (rows : List TreeRow) (place vertex number : ℕ) → IsFirst graph rows place vertex number
    → (head_of graph rows place ≡ vertex → number ≢ 0) → IsFirst graph rows (place + 1) vertex number
IsFirst-more graph rows place vertex number (a_row row is before goes first) noted =
    a_row row is (omega arith) goes first
IsFirst-more graph rows place vertex number (no_row is others) noted = no_row is others_more
  where
    others_more : (earlier : ℕ) → earlier < place + 1 → head_of graph rows earlier ≢ vertex
    others_more earlier before = choose (cases_eq earlier place)
      where
        choose : (earlier ≡ place) ⊎ (earlier ≡ place → ⊥) → head_of graph rows earlier ≢ vertex
        choose (inl same) = λ goes. noted (ap (λ at. head_of graph rows at) (sym same) ∙ goes) is
        choose (inr apart) = others earlier (omega (arith, before, apart))

-- a row is noted where none was
pub AreFirsts-noted : (graph : Graph) (rows : List TreeRow) (place head : ℕ) (firsts : List ℕ)
    → head ≡ head_of graph rows place
    → head < length firsts
    → get_or firsts head 0 ≡ 0 → AreFirsts graph rows place firsts
    → AreFirsts graph rows (place + 1) (set firsts head (place + 1))
AreFirsts-noted graph rows place head firsts goes head_in none are vertex within = choose (cases_eq vertex head)
  where
    old : vertex < length firsts
    old = omega (arith, within, length-set firsts head (place + 1))

    none_before : IsFirst graph rows place head (get_or firsts head 0) → (earlier : ℕ) → earlier < place
        → head_of graph rows earlier ≢ head
    none_before (no_row is others) = others
    none_before (a_row row is before there first) = absurd (omega (arith, is, none))

    choose : (vertex ≡ head) ⊎ (vertex ≡ head → ⊥)
        → IsFirst graph rows (place + 1) vertex (get_or (set firsts head (place + 1)) vertex 0)
    choose (inl here) =
        rw (here, get_or-set_same firsts head (place + 1) 0 head_in) (a_row place refl (omega arith) (sym goes)
        (none_before (are head head_in)))
    choose (inr apart) =
        rw (get_or-set_other firsts head vertex (place + 1) 0 apart)
        (IsFirst-more graph rows place vertex (get_or firsts vertex 0) (are vertex old)
        (λ there. absurd (apart (sym there ∙ sym goes))))

-- a row is passed where one was
pub AreFirsts-passed : (graph : Graph) (rows : List TreeRow) (place head : ℕ) (firsts : List ℕ)
    → head ≡ head_of graph rows place
    → get_or firsts head 0 ≢ 0
    → AreFirsts graph rows place firsts → AreFirsts graph rows (place + 1) firsts
AreFirsts-passed graph rows place head firsts goes some are vertex within =
    IsFirst-more graph rows place vertex (get_or firsts vertex 0) (are vertex within)
    (λ there. rw (goes ∙ there) at some)

-- the parent by first rows is the parent
pub parent_by : (graph : Graph) (rows : List TreeRow) (place tail parent : ℕ) (firsts : List ℕ) → tail < length firsts
    → AreFirsts graph rows place firsts
    → IsParentBy firsts tail parent ↔ IsParent graph rows place tail parent
parent_by graph rows place tail parent firsts within are = (to, from)
  where
    told : tail ≢ 0 → parent ≢ 0 → get_or firsts tail 0 ≡ parent → IsFirst graph rows place tail (get_or firsts tail 0)
        → IsParent graph rows place tail parent
    told not_root some is (no_row none others) = absurd (some (sym is ∙ none))
    told not_root some is (a_row row number before goes first) = of_row row not_root (sym is ∙ number) before goes first

    to : IsParentBy firsts tail parent → IsParent graph rows place tail parent
    to (inl (root, none)) = of_root root none
    to (inr (not_root, some, is)) = told not_root some is (are tail within)

    same : (row : ℕ) → row < place → head_of graph rows row ≡ tail
        → ((earlier : ℕ) → earlier < row → head_of graph rows earlier ≢ tail)
        → IsFirst graph rows place tail (get_or firsts tail 0) → get_or firsts tail 0 ≡ row + 1
    same row before goes first (no_row none others) = absurd (others row before goes)
    same row before goes first (a_row other number other_before other_goes other_first) = number
        ∙ ap (λ n. n + 1) (choose (cases_eq other row))
      where
        choose : (other ≡ row) ⊎ (other ≡ row → ⊥) → other ≡ row
        choose (inl is) = is
        choose (inr apart) = later (cases_lt other row)
          where
            later : (other < row) ⊎ (row ≤ other) → other ≡ row
            later (inl less) = absurd (first other less other_goes)
            later (inr not_less) = absurd (other_first row (omega (arith, not_less, apart)) goes)

    from : IsParent graph rows place tail parent → IsParentBy firsts tail parent
    from (of_root root none) = inl (root, none)
    from (of_row row not_root number before goes first) =
        inr (not_root, some number, same row before goes first (are tail within) ∙ sym number)
      where
        some : parent ≡ row + 1 → parent ≢ 0
        some is = λ none. omega arith

-- right rows rise, so they are no more than the edges
rows-rise : (built : LossGraphValue) (rows : List TreeRow) (count : ℕ)
    → ((earlier : ℕ) → earlier < count → IsRow built rows earlier)
    → (place : ℕ) → place < count → place ≤ (row_at rows place).edge
rows-rise built rows count right zero within = omega arith
rows-rise built rows count right (suc place) within =
    let before : place < count = omega arith in
    let one_less : suc place - 1 ≡ place = omega arith in
    next place (row_at rows place).edge (row_at rows (suc place)).edge (rows-rise built rows count right place before)
    (rw one_less at ((right (suc place) within).rises (omega arith)))
  where
    next : (place before here : ℕ) → place ≤ before → before < here → suc place ≤ here
    next place before here low less = omega arith

pub rows-few : (built : LossGraphValue) (rows : List TreeRow) (count : ℕ)
    → ((earlier : ℕ) → earlier < count → IsRow built rows earlier)
    → count ≤ length built.graph.edges
rows-few built rows zero right = omega arith
rows-few built rows (suc last) right =
    let rises = rows-rise built rows (suc last) right last (omega arith) in
    let edge = (right last (omega arith)).edge in
    omega (arith, rises, edge)

-- a row as it was read, with the tail of its edge
pub record IsRead (built : LossGraphValue) (rows : List TreeRow) (place : ℕ) (firsts : List ℕ) (row : TreeRow)
    (tail : ℕ) : Type 0 where
  pub row_is : row ≡ row_at rows place
  pub tail_is : tail ≡ (edge_at built.graph row.edge).tail
  pub in_graph : row.edge < length built.graph.edges
  pub tail_in : tail < length firsts
  pub firsts_are : AreFirsts built.graph rows place firsts

abbrev pub Rises : List TreeRow → ℕ → Type 0
Rises rows place = 0 < place → (row_at rows (place - 1)).edge < (row_at rows place).edge

pub row_from : (built : LossGraphValue) (rows : List TreeRow) (place : ℕ) (firsts : List ℕ) (row : TreeRow) (tail : ℕ)
    → IsRead built rows place firsts row tail
    → Rises rows place → IsParentBy firsts tail row.parent → TellsEdge built row → IsRow built rows place
row_from built rows place firsts row tail read rises by tells =
    let parent : IsParent built.graph rows place tail row.parent =
    (parent_by built.graph rows place tail row.parent firsts read.tail_in
    read.firsts_are).0 by in
    record {
      edge = rw read.row_is at read.in_graph;
      rises = rises;
      parent = subst (λ (r : TreeRow). IsParent built.graph rows place (edge_at built.graph r.edge).tail r.parent)
          read.row_is
          (rw read.tail_is at parent);
      peak = rw read.row_is at tells.peak;
      formula = rw read.row_is at tells.formula;
      loss = rw read.row_is at tells.loss;
      weight = rw read.row_is at tells.weight;
    }

pub row_parts : (built : LossGraphValue) (rows : List TreeRow) (place : ℕ) (firsts : List ℕ) (row : TreeRow) (tail : ℕ)
    → IsRead built rows place firsts row tail
    → IsRow built rows place → Rises rows place × IsParentBy firsts tail row.parent × TellsEdge built row
row_parts built rows place firsts row tail read is =
    let parent : IsParent built.graph rows place tail row.parent =
    rw read.tail_is (subst (λ (r : TreeRow). IsParent built.graph rows place (edge_at built.graph r.edge).tail r.parent)
    (sym read.row_is)
    is.parent) in (
      is.rises,
      (parent_by built.graph rows place tail row.parent firsts read.tail_in read.firsts_are).1 parent,
      record {
        peak = rw read.row_is is.peak;
        formula = rw read.row_is is.formula;
        loss = rw read.row_is is.loss;
        weight = rw read.row_is is.weight;
      },
    )
