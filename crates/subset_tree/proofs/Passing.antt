-- Writes to the last elements of a list, for giving colours to another owner.
use Rattle.std.proofs.Common.{◌≡◌, ◌+◌, ◌-◌, ◌^◌, ◌<◌, ◌≤◌, ℕ, ℤ, Bool, List, ◌∷◌, ◌++◌, length, get_or, take, drop, ap}
use Rattle.std.proofs.Common.{sym, subst, ◌∙◌, arith}
use Rattle.std.proofs.lemmas.List.{append-nil, drop_all, drop_at, drop_more, length-drop, length-take-le}
use Rattle.std.proofs.lemmas.List.{take-append-drop, take_at, take_rest}
use borrow.Rule.Slice.PartMut.{put_mid}
use Rattle.colour_graph.specs.Graph.{Graph, edge_at}
use Rattle.tree_certificate.specs.ColourSet.{place_of}
use Rattle.tree_certificate.proofs.Tables.{place-lt}
use Rattle.subset_tree.specs.inside.Rebuilding.{IsChoice, IsStep, given, owned}
use Rattle.subset_tree.proofs.Owned.{length-owned, length-part}

-- what stands from a place on
abbrev pub rest_of : ℕ → List ℕ → List ℕ
rest_of from owners = take (length owners - from) (drop from owners)

pub rest_is : (from : ℕ) (owners : List ℕ) → rest_of from owners ≡ drop from owners
rest_is from owners = take_rest owners from

put_all : (from : ℕ) (owners new : List ℕ) → put_mid from (length owners - from) owners new ≡ take from owners ++ new
put_all from owners new =
    ap (λ l. take from owners ++ (new ++ l))
    (drop_all (length owners - from) (drop from owners) (omega (arith, length-drop from owners)))
    ∙ ap (λ l. take from owners ++ l) (append-nil new)

-- Put back as it was.
pub put_same : (from : ℕ) (owners : List ℕ) → put_mid from (length owners - from) owners (rest_of from owners) ≡ owners
put_same from owners = put_all from owners (rest_of from owners) ∙ ap (λ l. take from owners ++ l) (rest_is from owners)
    ∙ take-append-drop from owners

-- What was put there.
pub put_new : (from : ℕ) (owners new : List ℕ) → from ≤ length owners
    → drop from (put_mid from (length owners - from) owners new) ≡ new
put_new from owners new within = ap (drop from) (put_all from owners new)
    ∙ drop_at (take from owners) new from (length-take-le from owners within)

-- A whole list that was written.
pub written : (size : ℕ) (new old : List ℕ) → length new ≡ length old → size ≡ length old
    → take size (new ++ drop (length new) old) ≡ new
written size new old same is = take_at new (drop (length new) old) size (same ∙ sym is)

pub length-rest : (decided count : ℕ) (owners : List ℕ) → length owners ≡ count
    → length (drop (decided + 1) owners) ≡ count - (decided + 1)
length-rest decided count owners is = length-drop (decided + 1) owners ∙ ap (λ n. n - (decided + 1)) is

-- The place of what a vertex owns of the later colours.
pub owned_below : (vertex place decided count : ℕ) (owners : List ℕ)
    → place ≡ place_of (owned vertex (rest_of (decided + 1) owners)) → length owners ≡ count
    → place < 2 ^ (count - (decided + 1))
owned_below vertex place decided count owners is long =
    subst (λ (n : ℕ). n < 2 ^ (count - (decided + 1)))
    (sym (is ∙ ap (λ os. place_of (owned vertex os)) (rest_is (decided + 1) owners)))
    (subst (λ (n : ℕ). place_of (owned vertex (drop (decided + 1) owners)) < 2 ^ n)
    (length-owned vertex (drop (decided + 1) owners) ∙ length-rest decided count owners long)
    (place-lt (owned vertex (drop (decided + 1) owners))))

pub owned_at : (vertex place decided : ℕ) (owners : List ℕ)
    → place ≡ place_of (owned vertex (rest_of (decided + 1) owners))
    → place_of (owned vertex (drop (decided + 1) owners)) ≡ place
owned_at vertex place decided owners is = ap (λ os. place_of (owned vertex os)) (sym (rest_is (decided + 1) owners))
    ∙ sym is

pub owned_long : (vertex decided count : ℕ) (owners : List ℕ) → length owners ≡ count → decided < length owners
    → (decided + 1) + length (owned vertex (drop (decided + 1) owners)) ≡ count
owned_long vertex decided count owners long next =
    omega (arith, length-owned vertex (drop (decided + 1) owners), length-rest decided count owners long)

-- The step that a choice and the giving are.
pub step_from : (graph : Graph) (rows : List (List ℤ)) (owner decided edge place : ℕ) (owners new : List ℕ)
    → decided < length owners
    → IsChoice graph rows owner (owned owner (drop (decided + 1) owners)) edge place
    → ((set : List Bool) → place_of set ≡ place → length set ≡ length (rest_of (decided + 1) owners)
    → new ≡ given set (edge_at graph edge).head (rest_of (decided + 1) owners))
    → IsStep graph rows owner (drop (decided + 1) owners)
    (drop (decided + 1) (put_mid (decided + 1) (length owners - (decided + 1)) owners new)) edge
step_from graph rows owner decided edge place owners new next choice gave = record {
  part = choice.part;
  taken = choice.taken;
  passed = put_new (decided + 1) owners new (omega (arith, next))
      ∙ gave choice.part choice.at_place
      (length-part choice.part (owned owner (drop (decided + 1) owners)) choice.taken.is_part
      ∙ length-owned owner (drop (decided + 1) owners) ∙ ap length (sym (rest_is (decided + 1) owners)))
      ∙ ap (given choice.part (edge_at graph edge).head) (rest_is (decided + 1) owners);
}

-- The next owner, and those behind.
pub next_owner : (decided : ℕ) (owners : List ℕ) → decided < length owners
    → drop decided owners ≡ get_or owners decided 0 ∷ drop (decided + 1) owners
next_owner decided owners within = drop_more owners decided 0 within
