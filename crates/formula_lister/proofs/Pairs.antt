-- The only count of the last element that reaches the window.
use Rattle.std.proofs.Common.{◌≡◌, ℕ, ◌+◌, ◌-◌, ◌*◌, ◌^◌, ◌<◌, ◌≤◌, inl, inr, List, [], ◌∷◌, slice_index, slice_set, length}
use Rattle.std.proofs.Common.{◌∙◌, get_or, sym, subst, ap, arith}
use Rattle.std.proofs.lemmas.Bool.{cases_lt}
use Rattle.std.proofs.lemmas.Nat.{mul-le}
use Rattle.std.proofs.Math.Nat.{mul-le-mul_right}
use Rattle.element_table.specs.Formula.{mass_of}
use Rattle.element_table.specs.Rule.{Rule}
use Rattle.formula_lister.specs.declared.chosen.Bounds.{Bounds}
use Rattle.formula_lister.specs.declared.chosen.Chosen.{Chosen}
use Rattle.formula_lister.specs.declared.element.Element.{Element}
use Rattle.formula_lister.specs.inside.Counting.{Completes, Gains, IsOne, IsReady, IsRest}
use Rattle.formula_lister.proofs.Completing.{Completes-feasible, Completes-itself, Completes-only_itself, Completes-set}
use Rattle.formula_lister.specs.declared.levels.Rest.{Rest}
use Rattle.formula_lister.specs.inside.Levels.{Fits, IsLevel, IsPair}
use Rattle.formula_lister.proofs.Gaining.{Gains-as, Gains-none}
use Rattle.formula_lister.proofs.Leveled.{level_mass}
use Rattle.formula_lister.proofs.Completing.{CompletesBelow, Completes-unset, IsReady-inside, IsReady-set, mass-set}

-- two elements are the first and the second of them
pub two_elements : (elements : List Element) (first second : Element) → first ≡ get_or elements 0 first
    → second ≡ get_or elements 1 second → 2 ≤ length elements → length elements < 3 → first ∷ second ∷ [] ≡ elements
two_elements [] first second e f some few = absurd (omega (arith, some))
two_elements (one ∷ []) first second e f some few = absurd (omega (arith, some))
two_elements (one ∷ other ∷ []) first second e f some few = ap (λ x. x ∷ second ∷ []) e ∙ ap (λ y. one ∷ y ∷ []) f
two_elements (one ∷ other ∷ third ∷ others) first second e f some few = absurd (omega (arith, few))

-- of a window that is narrower than an atom no two counts of the element are in reach
only_count : (mass atoms over atom n least most : ℕ) → most ≡ mass + (atoms * atom + over) → over < atom
    → most ≤ least + 4000000 → 4000000 < atom → least ≤ mass + n * atom → mass + n * atom ≤ most → n ≡ atoms
only_count mass atoms over atom n least most is small narrow heavy reached light = elim (cases_lt n atoms) [
  | inl fewer ↦
      let one_fewer : n + 1 ≤ atoms = omega arith in
      absurd (omega (arith, mul-le-mul_right atom one_fewer))
  | inr not_fewer ↦ elim (cases_lt atoms n) [
    | inl more ↦
        let one_more : atoms + 1 ≤ n = omega arith in
        absurd (omega (arith, mul-le-mul_right atom one_more))
    | inr not_more ↦ omega arith
  ]
]

-- what a candidate says of the rest: it is the count of the last element, and fits
pub record IsFit (bounds : Bounds) (last : Element) (atoms over count : ℕ) : Type 0 where
  pub is : count ≡ atoms
  pub within_limit : atoms ≤ last.limit
  pub fits : over ≤ bounds.most - bounds.least

pub Completes-fits : (bounds : Bounds) (rules : List Rule) (next last : Element) (chosen : List ℕ)
    (count atoms over : ℕ) (counts : List ℕ) → IsRest bounds next last chosen count atoms over
    → Completes bounds rules (last ∷ []) (slice_set chosen next.place count) counts
    → IsFit bounds last atoms over (slice_index counts last.place)
Completes-fits bounds rules next last chosen count atoms over counts h completes =
    let mass = mass_of chosen + count * next.mass in
    let n = slice_index counts last.place in
    let ready = IsReady-set bounds next (last ∷ []) chosen count h.ready h.within_limit in
    let feasible =
    Completes-feasible bounds rules last [] (slice_set chosen next.place count) counts mass ready
    (sym (mass-set bounds next (last ∷ []) chosen count h.ready)) completes in
    let reached : bounds.least ≤ mass + n * last.mass = omega (arith, feasible.reached, ready.known.0.reach) in
    let is =
    only_count mass atoms over last.mass n bounds.least bounds.most (omega (arith, h.parts)) h.small bounds.narrow
    ready.known.0.known.heavy reached feasible.light in
    record {
      is = is;
      within_limit = omega (arith, feasible.within_limit, is);
      fits = omega (arith, reached, h.parts, ap (λ m. m * last.mass) is);
    }

-- where the rest fits there is one candidate, if it passes
pub Completes-from_one : (bounds : Bounds) (rules : List Rule) (next last : Element) (chosen : List ℕ)
    (count atoms over : ℕ) (counts : List ℕ) → IsRest bounds next last chosen count atoms over → atoms ≤ last.limit
    → over ≤ bounds.most - bounds.least → IsOne rules (slice_set (slice_set chosen next.place count) last.place atoms)
    counts → Completes bounds rules (last ∷ []) (slice_set chosen next.place count) counts
Completes-from_one bounds rules next last chosen count atoms over counts h small fits one =
    let further = slice_set chosen next.place count in
    let ready = IsReady-set bounds next (last ∷ []) chosen count h.ready h.within_limit in
    let whole = IsReady-set bounds last [] further atoms ready small in
    let mass = mass-set bounds next (last ∷ []) chosen count h.ready in
    let more = mass-set bounds last [] further atoms ready in
    (Completes-unset bounds rules last [] atoms further counts (IsReady-inside bounds last [] further ready) tt
    (Completes-itself bounds rules (slice_set further last.place atoms) counts whole
    (omega (arith, mass, more, h.parts, fits, bounds.ordered))
    (omega (arith, mass, more, h.parts))
    one)).0

pub one_from_Completes : (bounds : Bounds) (rules : List Rule) (next last : Element) (chosen : List ℕ)
    (count atoms over : ℕ) (counts : List ℕ) → IsRest bounds next last chosen count atoms over
    → Completes bounds rules (last ∷ []) (slice_set chosen next.place count) counts
    → IsOne rules (slice_set (slice_set chosen next.place count) last.place atoms) counts
one_from_Completes bounds rules next last chosen count atoms over counts h completes =
    let further = slice_set chosen next.place count in
    let ready = IsReady-set bounds next (last ∷ []) chosen count h.ready h.within_limit in
    let fit = Completes-fits bounds rules next last chosen count atoms over counts h completes in
    let whole = IsReady-set bounds last [] further atoms ready fit.within_limit in
    let set : Completes bounds rules [] (slice_set further last.place (slice_index counts last.place)) counts =
    Completes-set bounds rules last [] further counts (IsReady-inside bounds last [] further ready) completes in
    let P : ℕ → Type 0 = λ n. Completes bounds rules [] (slice_set further last.place n) counts in (
      Completes-only_itself bounds rules (slice_set further last.place atoms) counts whole.places (subst P fit.is set),
      completes.candidate.passes,
    )

-- two elements that are counted one after the other are a pair
pub IsPair-ready : (bounds : Bounds) (next last : Element) (chosen : List ℕ)
    → IsReady bounds (next ∷ last ∷ []) chosen → IsPair next last
IsPair-ready bounds next last chosen ready = record {
  known = ready.known.0.known;
  last_known = ready.known.1.0.known;
  paired = ready.known.0.paired;
  reach = omega (arith, ready.known.0.reach);
}

-- what a level leaves over is what is left of the rest
pub IsRest-level : (bounds : Bounds) (next last : Element) (chosen : List ℕ) (mass atoms : ℕ) (rest : Rest)
    → IsReady bounds (next ∷ last ∷ []) chosen → mass ≡ mass_of chosen → IsLevel bounds.most mass next last rest
    → rest.count ≤ next.limit → rest.level ≡ next.levels.per * rest.count + atoms
    → IsRest bounds next last chosen rest.count atoms rest.over
IsRest-level bounds next last chosen mass atoms rest ready weighed level within is = record {
  ready = ready;
  within_limit = within;
  parts =
      omega (
        arith,
        level.parts,
        weighed,
        ap (λ n. n * last.mass) is,
        level_mass next.levels.per next.mass last.mass next.levels.defect.number rest.count atoms
            ready.known.0.paired.whole,
      );
  small = level.small;
}

-- the atoms of the last element beside a count, by their level
abbrev pub atoms_beside : Element → Rest → ℕ
atoms_beside next rest = rest.level - next.levels.per * rest.count

IsRest-beside : (bounds : Bounds) (next last : Element) (chosen : Chosen) (rest : Rest)
    → IsReady bounds (next ∷ last ∷ []) chosen.formula → IsLevel bounds.most chosen.mass next last rest
    → rest.count ≤ next.limit → next.levels.per * rest.count ≤ rest.level
    → IsRest bounds next last chosen.formula rest.count (atoms_beside next rest) rest.over
IsRest-beside bounds next last chosen rest ready level within reached =
    IsRest-level bounds next last chosen.formula chosen.mass (atoms_beside next rest) rest ready chosen.weighed.weighed
    level within (omega (arith, reached))

-- where the rest does not fit there is no candidate to list
pub Gains-unfit : (bounds : Bounds) (rules : List Rule) (next last : Element) (chosen : Chosen) (rest : Rest)
    (before : List (List ℕ)) → IsReady bounds (next ∷ last ∷ []) chosen.formula
    → IsLevel bounds.most chosen.mass next last rest → rest.count ≤ next.limit
    → next.levels.per * rest.count ≤ rest.level
    → (atoms_beside next rest ≤ last.limit → rest.over ≤ bounds.most - bounds.least → ⊥)
    → Gains (Completes bounds rules (last ∷ []) (slice_set chosen.formula next.place rest.count)) before before
Gains-unfit bounds rules next last chosen rest before ready level within reached unfit =
    let is_rest = IsRest-beside bounds next last chosen rest ready level within reached in
    Gains-none (Completes bounds rules (last ∷ []) (slice_set chosen.formula next.place rest.count)) before
    (λ counts completes.
    let fit =
    Completes-fits bounds rules next last chosen.formula rest.count (atoms_beside next rest) rest.over counts is_rest
    completes in
    unfit fit.within_limit fit.fits)

-- where it fits, the whole formula is the one candidate
pub record IsOnly (bounds : Bounds) (rules : List Rule) (last : Element) (further whole : List ℕ) : Type 0 where
  pub of_one : (counts : List ℕ) → IsOne rules whole counts → Completes bounds rules (last ∷ []) further counts
  pub one : (counts : List ℕ) → Completes bounds rules (last ∷ []) further counts → IsOne rules whole counts

pub IsOnly-fit : (bounds : Bounds) (rules : List Rule) (next last : Element) (chosen : Chosen) (rest : Rest)
    (whole : List ℕ) → IsReady bounds (next ∷ last ∷ []) chosen.formula
    → IsLevel bounds.most chosen.mass next last rest → rest.count ≤ next.limit
    → next.levels.per * rest.count ≤ rest.level → atoms_beside next rest ≤ last.limit
    → rest.over ≤ bounds.most - bounds.least
    → whole ≡ slice_set (slice_set chosen.formula next.place rest.count) last.place (atoms_beside next rest)
    → IsOnly bounds rules last (slice_set chosen.formula next.place rest.count) whole
IsOnly-fit bounds rules next last chosen rest whole ready level within reached small fits is =
    let is_rest = IsRest-beside bounds next last chosen rest ready level within reached in
    let atoms = atoms_beside next rest in
    let further = slice_set chosen.formula next.place rest.count in
    let spelled : IsOnly bounds rules last further (slice_set further last.place atoms) = record {
      of_one = λ counts one.
          Completes-from_one bounds rules next last chosen.formula rest.count atoms rest.over counts is_rest small fits
          one;
      one = λ counts completes.
          one_from_Completes bounds rules next last chosen.formula rest.count atoms rest.over counts is_rest completes;
    } in
    subst (λ (formula : List ℕ). IsOnly bounds rules last further formula) (sym is) spelled

-- the counts of both elements in a candidate
pub Fits-candidate : (bounds : Bounds) (rules : List Rule) (next last : Element) (chosen counts : List ℕ) (mass : ℕ)
    → IsReady bounds (next ∷ last ∷ []) chosen → mass ≡ mass_of chosen
    → Completes bounds rules (next ∷ last ∷ []) chosen counts
    → Fits bounds.least bounds.most mass next last (slice_index counts next.place) (slice_index counts last.place)
Fits-candidate bounds rules next last chosen counts mass ready weighed completes =
    let count = slice_index counts next.place in
    let feasible = Completes-feasible bounds rules next (last ∷ []) chosen counts mass ready weighed completes in
    let further = IsReady-set bounds next (last ∷ []) chosen count ready feasible.within_limit in
    let more = mass-set bounds next (last ∷ []) chosen count ready in
    let inside = IsReady-inside bounds next (last ∷ []) chosen ready in
    let whole =
    Completes-feasible bounds rules last [] (slice_set chosen next.place count) counts (mass + count * next.mass) further
    (omega (arith, weighed, more))
    (Completes-set bounds rules next (last ∷ []) chosen counts inside completes) in
    record {
      within_limit = whole.within_limit;
      not_below = omega (arith, whole.reached, further.known.0.reach);
      not_above = omega (arith, whole.light);
    }

-- and their level
pub same_parts : (least most mass : ℕ) (next last : Element) (rest : Rest) (count atoms over : ℕ) → IsPair next last
    → IsLevel most mass next last rest → over + (mass + (count * next.mass + atoms * last.mass)) ≡ most
    → (next.levels.per * count + atoms) * last.mass + over + rest.count * next.levels.defect.number
    ≡ rest.level * last.mass + rest.over + count * next.levels.defect.number
same_parts least most mass next last rest count atoms over pair level is =
    omega (
      arith,
      level.parts,
      is,
      level_mass next.levels.per next.mass last.mass next.levels.defect.number count atoms pair.paired.whole,
    )

-- a level is small
pub level_small : (bounds : Bounds) (mass : ℕ) (next last : Element) (rest : Rest) → IsPair next last
    → IsLevel bounds.most mass next last rest → rest.count ≤ next.limit → rest.level ≤ 2 ^ 62
level_small bounds mass next last rest pair level within =
    let one : 1 ≤ last.mass = omega (arith, pair.last_known.heavy) in
    let more = mul-le rest.level 1 rest.level last.mass (omega arith) one in
    let defects =
    mul-le rest.count next.levels.defect.number 1999 1269044719 (omega (arith, within, pair.known.capped))
    (omega (arith, pair.paired.small, pair.last_known.light)) in
    omega (arith, more, defects, level.parts, bounds.small)

-- beyond a count that is more than its level has no counts fit
pub none_beyond : (least most mass : ℕ) (next last : Element) (rest : Rest) (count atoms : ℕ) → IsPair next last
    → IsLevel most mass next last rest → rest.level < next.levels.per * rest.count
    → Fits least most mass next last count atoms → rest.count ≤ count → ⊥
none_beyond least most mass next last rest count atoms pair level beyond fits from =
    let steps = count - rest.count in
    let is : count ≡ rest.count + steps = omega (arith, from) in
    let over = most - (mass + (count * next.mass + atoms * last.mass)) in
    let same = same_parts least most mass next last rest count atoms over pair level (omega (arith, fits.not_above)) in
    let one_more : rest.level + 1 ≤ next.levels.per * rest.count = omega (arith, beyond) in
    let defects : count * next.levels.defect.number ≡ (rest.count + steps) * next.levels.defect.number =
    ap (λ n. n * next.levels.defect.number) is in
    let whole : next.levels.per * count * last.mass ≡ next.levels.per * (rest.count + steps) * last.mass =
    ap (λ n. next.levels.per * n * last.mass) is in
    let steep : steps * next.levels.defect.number ≤ steps * (next.levels.per * last.mass) =
    omega (arith, ap (λ n. steps * n) pair.paired.whole) in
    absurd (omega (arith, same, mul-le-mul_right last.mass one_more, defects, whole, steep, level.small))

-- where no counts between fit, a list gained all candidates below the next count
pub Gains-passed : (bounds : Bounds) (rules : List Rule) (next last : Element) (chosen : List ℕ) (mass count further : ℕ)
    (before now : List (List ℕ)) → IsReady bounds (next ∷ last ∷ []) chosen → mass ≡ mass_of chosen → count < further
    → ((k atoms : ℕ) → Fits bounds.least bounds.most mass next last k atoms → count < k → further ≤ k)
    → Gains (CompletesBelow bounds rules next (last ∷ []) chosen (count + 1)) before now
    → Gains (CompletesBelow bounds rules next (last ∷ []) chosen further) before now
Gains-passed bounds rules next last chosen mass count further before now ready weighed above none gains =
    Gains-as (CompletesBelow bounds rules next (last ∷ []) chosen (count + 1))
    (CompletesBelow bounds rules next (last ∷ []) chosen further) before now gains
    (λ counts p. (p.0, omega (arith, p.1, above)))
    (λ counts q. elim (cases_lt (slice_index counts next.place) (count + 1)) [
      | inl less ↦ (q.0, less)
      | inr from ↦
          absurd (omega (
            arith,
            q.1,
            none (slice_index counts next.place) (slice_index counts last.place)
                (Fits-candidate bounds rules next last chosen counts mass ready weighed q.0) (omega (arith, from)),
          ))
    ])

-- at a count that no candidate reaches all candidates are listed
pub Gains-to_end : (bounds : Bounds) (rules : List Rule) (next last : Element) (chosen : List ℕ) (mass count : ℕ)
    (before now : List (List ℕ)) → IsReady bounds (next ∷ last ∷ []) chosen → mass ≡ mass_of chosen
    → ((k atoms : ℕ) → Fits bounds.least bounds.most mass next last k atoms → k ≤ next.limit → count ≤ k → ⊥)
    → Gains (CompletesBelow bounds rules next (last ∷ []) chosen count) before now
    → Gains (Completes bounds rules (next ∷ last ∷ []) chosen) before now
Gains-to_end bounds rules next last chosen mass count before now ready weighed none gains =
    Gains-as (CompletesBelow bounds rules next (last ∷ []) chosen count)
    (Completes bounds rules (next ∷ last ∷ []) chosen) before now gains
    (λ counts p. p.0)
    (λ counts h. elim (cases_lt (slice_index counts next.place) count) [
      | inl less ↦ (h, less)
      | inr from ↦
          absurd (none (slice_index counts next.place) (slice_index counts last.place)
          (Fits-candidate bounds rules next last chosen counts mass ready weighed h)
          (Completes-feasible bounds rules next (last ∷ []) chosen counts mass ready weighed h).within_limit
          (omega (arith, from)))
    ])
