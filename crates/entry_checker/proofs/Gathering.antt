-- Of Gathered: what is found among the nodes of a bound with one more.
use Rattle.std.proofs.Common.{◌≡◌, ◌≤◌, ℕ, zero, suc, ℤ, ◌≤ℤ◌, ◌<ℤ◌, Bool, true, false, List, [], ◌∷◌, ◌++◌, Option}
use Rattle.std.proofs.Common.{None, Some, length, refl, arith}
use lib.Signed.{le_z}
use Rattle.std.proofs.lemmas.Int.{ints}
use Rattle.std.proofs.Math.Seq.{take-append_seam}
use Rattle.std.proofs.lemmas.List.{take-append-le}
use Rattle.std.proofs.lemmas.List.Elements.{All-push}
use Rattle.std.proofs.lemmas.Option.{slice_get_within}
use Rattle.std.specs.List.{slice_get}
use Rattle.entry_checker.specs.inside.Gathered.{IsFound, found_with}

-- the element at a place stays there where the list grows, and a new one stands at its end
pub slice_get-kept : {X : Type 0} (xs ys : List X) (place : ℕ) (x : X) → slice_get xs place ≡ Some x
    → slice_get (xs ++ ys) place ≡ Some x
slice_get-kept [] ys place x is = absurd (differ is)
  where
    differ : slice_get [] place ≡ Some x → ⊥
    differ same = cc
slice_get-kept (first ∷ xs) ys zero x is = is
slice_get-kept (first ∷ xs) ys (suc place) x is = slice_get-kept xs ys place x is

slice_get-last : {X : Type 0} (xs : List X) (x : X) → slice_get (xs ++ x ∷ []) (length xs) ≡ Some x
slice_get-last [] x = refl
slice_get-last (first ∷ xs) x = slice_get-last xs x

-- one more node
pub found_node : {X : Type 0} (number_of : X → ℕ) (Is : X → Type 0) (nodes : List X) (node : X) (found : Option ℕ)
    (holds : Bool)
    → (holds ≡ true → Is node) → (holds ≡ false → ¬ Is node) → IsFound number_of Is nodes found
    → IsFound number_of Is (nodes ++ node ∷ []) (found_with found holds (number_of node))
found_node number_of Is nodes node (Some first) holds goes fails is = record {
  place = is.place;
  node = is.node;
  is_node = slice_get-kept nodes (node ∷ []) is.place is.node is.is_node;
  numbered = is.numbered;
  wrong = is.wrong;
  before = rw (take-append-le is.place nodes (node ∷ []) within) is.before;
}
  where
    within : is.place ≤ length nodes
    within = omega (arith, slice_get_within nodes is.place is.node is.is_node)
found_node number_of Is nodes node None true goes fails is = All-push Is nodes node is (goes refl)
found_node number_of Is nodes node None false goes fails is = record {
  place = length nodes;
  node = node;
  is_node = slice_get-last nodes node;
  numbered = refl;
  wrong = fails refl;
  before = rw (take-append_seam nodes (node ∷ [])) is;
}

-- a test of two numbers, by what they are
at_most : (a b : ℤ) → le_z a b ≡ true → a ≤ℤ b
at_most a b is = grind (arith, ints)

above : (a b : ℤ) → le_z a b ≡ false → b <ℤ a
above a b is = grind (arith, ints)

apart : (a b : ℤ) → b <ℤ a → a ≤ℤ b → ⊥
apart a b more most = omega (arith, ints)

pub at_most-as : (a b one other : ℤ) → a ≡ one → b ≡ other → le_z a b ≡ true → one ≤ℤ other
at_most-as a b one other same equal is = at_most one other (rw (← same, ← equal) is)

pub not_at_most-as : (a b one other : ℤ) → a ≡ one → b ≡ other → le_z a b ≡ false → one ≤ℤ other → ⊥
not_at_most-as a b one other same equal is = apart one other (above one other (rw (← same, ← equal) is))
