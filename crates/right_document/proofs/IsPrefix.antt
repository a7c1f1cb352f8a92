-- `IsPrefix`: the first bytes of others.
use Rattle.std.proofs.Common.{◌≡◌, ℕ, List, take, drop, sym, ◌∙◌}
use Rattle.std.proofs.lemmas.List.{take-append-drop}
use Rattle.right_document.specs.RightDocument.{IsPrefix}

pub prefix_of : (n : ℕ) (bytes whole : List ℕ) → whole ≡ bytes → IsPrefix (take n bytes) whole
prefix_of n bytes whole is = (drop n bytes, is ∙ sym (take-append-drop n bytes))
