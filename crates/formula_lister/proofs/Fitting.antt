-- How many count lists a list must have.
use Rattle.std.proofs.Common.{◌≢◌, ℕ, ◌≤◌, List, length, nat_eq}
use Rattle.std.proofs.lemmas.Cmp.{nat_list_eq_equiv}
use Rattle.std.proofs.lemmas.Map.Made.{IsDistinct-from_AllPairs, is_member-Decides, length-le_from_is_member}
use lib.Pointwise.{pointwise}
use Rattle.std.specs.Cmp.Lexicographic.{bytes_decides}
use Rattle.std.specs.List.{AllPairs, Contains}

-- different members of a list are no more than it has
pub length-le_from_members : (xs ys : List (List ℕ)) → AllPairs (λ first later. first ≢ later) xs
    → ((x : List ℕ) → Contains xs x → Contains ys x) → length xs ≤ length ys
length-le_from_members xs ys distinct members =
    let eq = pointwise nat_eq in
    length-le_from_is_member {eq = eq} nat_list_eq_equiv xs ys
    (IsDistinct-from_AllPairs {eq = eq} bytes_decides xs distinct)
    (λ x has. (is_member-Decides {eq = eq} bytes_decides ys x).1
    (members x ((is_member-Decides {eq = eq} bytes_decides xs x).0 has)))
