-- For `bytes_under`: the first file of a name stands at the first place that has the name.
use Rattle.std.proofs.Common.{◌≡◌, ◌+◌, ℕ, suc, Bool, true, false, cond, List, [], ◌∷◌, Option, Some, None, MatchOption}
use Rattle.std.proofs.Common.{Vec, String, refl, sym, ap, ◌∙◌, arith, subst}
use Rattle.std.specs.List.{find, position, position_from, slice_get}
use Rattle.std.specs.Option.{option_map}
use Rattle.std.specs.declared.alloc.Global.{Global}
use Rattle.std.proofs.lemmas.Iterator.Adapters.{position_from-zero}
use Rattle.frag_io.specs.Files.{Files, is_named, bytes_under}
use Rattle.frag_io.specs.inside.Stage.{rest_in, rest_of}

abbrev File : Type 0
File = String Global × Vec ℕ Global

-- the place, counted from a number on, is that of the first file of the name
abbrev Stands : Files → List ℕ → ℕ → Option ℕ → Type 0
Stands files name from place =
    MatchOption place (bytes_under files name ≡ None)
    (λ at. (n : ℕ) × (at ≡ from + n) × (bytes_under files name ≡ Some (rest_in (slice_get files n) 0)))

-- the first file has the name, or what the rest gives counts
first_or_rest : (file : File) (files : Files) (name : List ℕ) (named : Bool) → is_named name file ≡ named
    → bytes_under (file ∷ files) name ≡ option_map (λ (f : File). f.1.items)
    (cond named (Some file) (find (is_named name) files))
first_or_rest file files name named is =
    ap (λ (b : Bool). option_map (λ (f : File). f.1.items) (cond b (Some file) (find (is_named name) files))) is

-- one file more in front that has another name
stands_behind : (file : File) (files : Files) (name : List ℕ) (from : ℕ) (place : Option ℕ) → is_named name file ≡ false
    → Stands files name (from + 1) place → Stands (file ∷ files) name from place
stands_behind file files name from None other behind = first_or_rest file files name false other ∙ behind
stands_behind file files name from (Some at) other behind =
    (suc behind.0, omega (arith, behind.1), first_or_rest file files name false other ∙ behind.2)

stands_front : (file : File) (files : Files) (name : List ℕ) (from : ℕ) (place : Option ℕ) (named : Bool)
    → is_named name file ≡ named → Stands files name (from + 1) place
    → Stands (file ∷ files) name from (cond named (Some from) place)
stands_front file files name from place true is behind = (0, omega arith, first_or_rest file files name true is)
stands_front file files name from place false is behind = stands_behind file files name from place is behind

stands : (files : Files) (name : List ℕ) (from : ℕ) → Stands files name from (position_from (is_named name) from files)
stands [] name from = refl
stands (file ∷ files) name from =
    stands_front file files name from (position_from (is_named name) (from + 1) files) (is_named name file) refl
    (stands files name (from + 1))

abbrev Found : Files → List ℕ → Option ℕ → Type 0
Found files name place =
    MatchOption place (bytes_under files name ≡ None)
    (λ at. bytes_under files name ≡ Some (rest_of files (record { place = at; done = 0 })))

found_from : (files : Files) (name : List ℕ) (place : Option ℕ) → Stands files name 0 place → Found files name place
found_from files name None none = none
found_from files name (Some at) there =
    let same : there.0 ≡ at = omega (arith, there.1) in
    there.2 ∙ ap (λ (n : ℕ). Some (rest_in (slice_get files n) 0)) same

pub stands_first : (files : Files) (name : List ℕ) (place : Option ℕ) → place ≡ position (is_named name) files
    → Found files name place
stands_first files name place is =
    let from_zero : place ≡ position_from (is_named name) 0 files = is ∙ position_from-zero (is_named name) files in
    subst (Found files name) (sym from_zero) (found_from files name _ (stands files name 0))
